-- One machine does what another does, except where that one says that something is too big.
-- This is how the machine without limits stands to the model's machine.
use Rattle.std.specs.Prelude.{ℕ, ◌≡◌}
use Rattle.walk.specs.Machine.{Machine, Outcome, refused, too_big, goes, breaks}

pub data Agrees {C D : Type 0} (R : C → D → Type 0) : Outcome C → Outcome D → Type 0 where
  both_refused : Agrees R refused refused
  both_go : {c : C} {d : D} → R c d → Agrees R (goes c) (goes d)
  both_break : Agrees R breaks breaks
  one_too_big : {o : Outcome D} → Agrees R too_big o

-- R c d: the configurations stand for the same
pub record Follows (M N : Machine) (R : M.Conf → N.Conf → Type 0) : Type 0 where
  pub codes : M.codes ≡ N.codes
  pub starts : R M.fresh N.fresh
  pub steps : (c : M.Conf) (d : N.Conf) (k : ℕ) → R c d → Agrees R (M.try c k) (N.try d k)
