-- The bad schedules, which the search has to find: every step is permitted, the last breaks the claim, and no earlier step did.
-- So a bad schedule has at least one step.
use Rattle.std.specs.Prelude.{ℕ, ◌≡◌, List, [], ◌∷◌}
use Rattle.walk.specs.Machine.{Machine, goes, breaks}

pub data Bad (M : Machine) : M.Conf → List ℕ → Type 0 where
  -- the one step breaks the claim
  last : {c : M.Conf} {k : ℕ} → M.try c k ≡ breaks → Bad M c (k ∷ [])
  -- the step is permitted and breaks nothing, and what follows is bad from where it leads
  more : {c d : M.Conf} {k : ℕ} {w : List ℕ} → M.try c k ≡ goes d → Bad M d w → Bad M c (k ∷ w)
