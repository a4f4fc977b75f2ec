-- Document 01: 'The walk goes from the place in dictionary order'. The order of schedules, and what it is for a list to rise.
-- A schedule is the list of its codes, the first step first.
use Rattle.std.specs.Prelude.{ℕ, ◌<◌, List, [], ◌∷◌}
use Rattle.walk.specs.Base.{All}

-- v stands before w in the dictionary: v is a beginning of w, or at the first place where they differ v has the lower code
pub data Before : List ℕ → List ℕ → Type 0 where
  shorter : {k : ℕ} {w : List ℕ} → Before [] (k ∷ w)
  lower : {j k : ℕ} {v w : List ℕ} → j < k → Before (j ∷ v) (k ∷ w)
  later : {k : ℕ} {v w : List ℕ} → Before v w → Before (k ∷ v) (k ∷ w)

-- every element stands in the relation to every later one. With Before, or with <, no element comes twice
abbrev pub Sorted : {A : Type 0} → (A → A → Type 0) → List A → Type 0
Sorted R [] = Unit {0}
Sorted R (x ∷ xs) = All (R x) xs × Sorted R xs
