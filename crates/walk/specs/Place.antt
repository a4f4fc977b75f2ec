-- 'A place is a schedule and the next code to try (164: none left).' The schedule stands with its LAST code first, so that to go
-- back is to take off the head. `settle` finds the next pair of the walk, `fits` is what document 01 asks of a place (else 40).
use Rattle.std.specs.Prelude.{ℕ, suc, Bool, true, false, List, [], ◌∷◌, length, ltb, eqb}
use Rattle.walk.specs.Base.{pick, also, either, among}
use Rattle.walk.specs.Machine.{Machine, Outcome, refused, too_big, goes, breaks}

pub record Place : Type 0 where
  pub up : List ℕ
  pub next : ℕ

-- the next pair of the walk, or that none is left
pub data Next : Type 0 where
  over : Next
  pair : List ℕ → ℕ → Next

-- of the codes, those from k on
abbrev pub from : ℕ → List ℕ → List ℕ
from k [] = []
from k (x ∷ xs) = pick (ltb x k) (from k xs) (x ∷ xs)

-- the first pair at a schedule with the codes left there: no code left, then go back one step and on with the codes after it
unfoldable pub settle : Machine → List ℕ → List ℕ → Next
settle M [] [] = over
settle M [] (k ∷ ks) = pair [] k
settle M (j ∷ up) [] = settle M up (from (suc j) M.codes)
settle M (j ∷ up) (k ∷ ks) = pair (j ∷ up) k

-- the place that names it; 'the place after the last pair is the empty schedule with 164'
abbrev pub place_of : Machine → Next → Place
place_of M over = record { up = []; next = M.none }
place_of M (pair up k) = record { up = up; next = k }

abbrev pub next_in : Machine → Place → Next
next_in M p = settle M p.up (from p.next M.codes)

-- the place before the first pair
abbrev pub lowest : ℕ → List ℕ → ℕ
lowest n [] = n
lowest n (k ∷ ks) = k

abbrev pub first : Machine → Place
first M = record { up = []; next = lowest M.none M.codes }

-- the configuration at a schedule
abbrev pub landed : {C : Type 0} → C → Outcome C → C
landed c refused = c
landed c too_big = c
landed c (goes d) = d
landed c breaks = c

unfoldable pub at : (M : Machine) → List ℕ → M.Conf
at M [] = M.fresh
at M (k ∷ up) = landed (at M up) (M.try (at M up) k)

-- 'Place schedules must be permitted, unbroken and shorter than the bound, the next code a code or 164'
abbrev pub went_on : {C : Type 0} → Outcome C → Bool
went_on refused = false
went_on too_big = false
went_on (goes d) = true
went_on breaks = false

unfoldable pub unbroken : Machine → List ℕ → Bool
unbroken M [] = true
unbroken M (k ∷ up) = also (unbroken M up) (went_on (M.try (at M up) k))

unfoldable pub fits : Machine → ℕ → Place → Bool
fits M n p = also (unbroken M p.up) (also (ltb (length p.up) n) (either (among p.next M.codes) (eqb p.next M.none)))
