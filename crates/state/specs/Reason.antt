-- Reasons for turning a step down, in order: "Each is given exactly when its reason holds and none before it."
use Rattle.std.specs.Prelude.{ℕ, Bool, true, false, List, [], ◌∷◌, ◌≡◌}
use Rattle.terms.specs.Base.{pick}

-- a reason, and its number
pub record Reason : Type 0 where
  pub holds : Bool
  pub number : ℕ

abbrev pub reason : Bool → ℕ → Reason
reason b n = record { holds = b; number = n }

-- the number of the first reason that holds, 0 where none does
abbrev pub first_of : List Reason → ℕ
first_of [] = 0
first_of (r ∷ rs) = pick r.holds r.number (first_of rs)

-- the first reason that holds has number n
pub data FirstIs (n : ℕ) : List Reason → Type 0 where
  here : {r : Reason} {rs : List Reason} → r.holds ≡ true → r.number ≡ n → FirstIs n (r ∷ rs)
  later : {r : Reason} {rs : List Reason} → r.holds ≡ false → FirstIs n rs → FirstIs n (r ∷ rs)

-- none of the reasons holds
pub data NoneHolds : List Reason → Type 0 where
  done : NoneHolds []
  next : {r : Reason} {rs : List Reason} → r.holds ≡ false → NoneHolds rs → NoneHolds (r ∷ rs)
