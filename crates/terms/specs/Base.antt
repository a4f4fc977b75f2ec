-- Small things that every definition uses.
use Rattle.std.specs.Prelude.{ℕ, zero, suc, ◌+◌, Bool, true, false, List, set, ltb}

-- the first where the test holds, else the second
abbrev pub pick : {A : Type 0} → Bool → A → A → A
pick true a b = a
pick false a b = b

-- both tests hold
abbrev pub also : Bool → Bool → Bool
also p q = pick p q false

unfoldable pub larger_of : ℕ → ℕ → ℕ
larger_of m n = pick (ltb m n) n m

-- n elements from place i on become v
unfoldable pub filled : {A : Type 0} → A → ℕ → ℕ → List A → List A
filled v zero i l = l
filled v (suc n) i l = filled v n (i + 1) (set l i v)

-- an answer, and the lent table as it is left
pub record Held (A : Type 0) : Type 0 where
  pub out : A
  pub table : List ℕ

abbrev pub held : {A : Type 0} → A → List ℕ → Held A
held r l = record { out = r; table = l }
