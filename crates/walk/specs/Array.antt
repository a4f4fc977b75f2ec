-- The walk over places as a program keeps them: an array of codes, a length, the next code. The first `len` codes are the schedule;
-- what is left behind is made 0 again. All is shut; proofs/Array.antt says that it answers as the walk does.
use Rattle.std.specs.Prelude.{ℕ, zero, suc, List, [], ◌∷◌, ◌++◌, get_or, set, take, ltb, eqb}
use Rattle.walk.specs.Base.{pick}
use Rattle.walk.specs.Machine.{Machine, Outcome, refused, too_big, goes, breaks}
use Rattle.walk.specs.Reply.{found, stop, end, Reply}
use Rattle.walk.specs.Trail.{Mark, plain, sized, bad, mark_of}
use Rattle.walk.specs.Place.{Place, from, at}
use Rattle.walk.specs.Walk.{reply}

pub record Spot : Type 0 where
  pub codes : List ℕ
  pub len : ℕ
  pub next : ℕ

-- the first j codes of an array, the last first
unfoldable pub stack_of : List ℕ → ℕ → List ℕ
stack_of cs zero = []
stack_of cs (suc j) = get_or cs j 0 ∷ stack_of cs j

abbrev pub view : Spot → Place
view q = record { up = stack_of q.codes q.len; next = q.next }

-- the schedule tried: the place's, and the next code
unfoldable pub word_of : Spot → List ℕ
word_of q = take q.len q.codes ++ (q.next ∷ [])

-- `settle` on an array: to go back one step is to make the length one less and put 0 there
unfoldable pub settled_in : Machine → List ℕ → ℕ → List ℕ → Spot
settled_in M cs zero [] = record { codes = cs; len = 0; next = M.none }
settled_in M cs zero (k ∷ ks) = record { codes = cs; len = 0; next = k }
settled_in M cs (suc j) [] = settled_in M (set cs j 0) j (from (suc (get_or cs j 0)) M.codes)
settled_in M cs (suc j) (k ∷ ks) = record { codes = cs; len = suc j; next = k }

-- the place after a try: to enter is to put the code behind the schedule
unfoldable pub after_in : (M : Machine) → ℕ → Spot → Outcome M.Conf → Spot
after_in M n q refused = settled_in M q.codes q.len (from (suc q.next) M.codes)
after_in M n q too_big = settled_in M q.codes q.len (from (suc q.next) M.codes)
after_in M n q (goes d) =
    pick (ltb (suc q.len) n) (settled_in M (set q.codes q.len q.next) (suc q.len) M.codes)
    (settled_in M q.codes q.len (from (suc q.next) M.codes))
after_in M n q breaks = settled_in M q.codes q.len (from (suc q.next) M.codes)

abbrev pub turn_in : Mark → List ℕ → Spot → (Spot → ℕ → ℕ → Reply Spot) → ℕ → ℕ → Reply Spot
turn_in plain w q rest t z = rest q (suc t) z
turn_in sized w q rest t z = rest q (suc t) (suc z)
turn_in bad w q rest t z = reply (found w) (suc t) z q

-- the next code tells whether a pair is left
unfoldable pub walk_in : Machine → ℕ → ℕ → Spot → ℕ → ℕ → Reply Spot
walk_in M zero n q t z = pick (eqb q.next M.none) (reply end t z q) (reply stop t z q)
walk_in M (suc b) n q t z =
    let c : M.Conf = at M (stack_of q.codes q.len) in
    let r : Reply Spot = turn_in (mark_of (M.try c q.next)) (word_of q) (after_in M n q (M.try c q.next)) (walk_in M b n) t z in
    pick (eqb q.next M.none) (reply end t z q) r

unfoldable pub search_in : Machine → ℕ → ℕ → Spot → Reply Spot
search_in M n b q = walk_in M b n (settled_in M q.codes q.len (from q.next M.codes)) 0 0
