-- "Kind 0 (boot) or 1 (launch), a program v, a machine m, a path of 1 to 4 programs. A step breaks it if it has an accept
-- of v and there isn't an earlier event in which a reset of m (kind 1: a late launch on m) made a thread J whose first
-- jumps, all earlier too, are the path in order." Over the events of a run, first event first.
use Rattle.std.specs.Prelude.{ℕ, ◌+◌, Bool, true, false, not, List, [], ◌∷◌, ◌++◌, length, take, eqb}
use Rattle.terms.specs.Base.{pick, also}
use Rattle.model.specs.Fields.{either}
use Rattle.model.specs.declared.records.Claim.{Claim}
use Rattle.state.specs.Ended.{endings_of}
use Rattle.state.specs.declared.ended.Ended.{Ended}
use Rattle.state.specs.declared.ended.Ended.TheVariants.{Nobody, One, Two}
use Rattle.rules.specs.declared.event.Event.{Event}
use Rattle.rules.specs.declared.event.Event.TheVariants.{Jump, Launch, Reset, HandOver, Action}
use Rattle.rules.specs.declared.event.Happening.{Happening}

-- "the program of any thread that ended .. That ending is an accept of that program": v is one of them
abbrev pub ended_in : ℕ → Ended → Bool
ended_in v Nobody = false
ended_in v (One p) = eqb p v
ended_in v (Two p q) = either (eqb p v) (eqb q v)

unfoldable pub accepts_of : ℕ → Happening → Bool
accepts_of v h = ended_in v h.ended

-- the thread made by "a reset of m (kind 1: a late launch on m)", in a list of one; no other event makes one
abbrev pub made_by : Claim → Event → List ℕ
made_by c (Jump d p) = []
made_by c (Launch d m j) = pick (also (not (eqb c.kind 0)) (eqb m c.machine)) (j ∷ []) []
made_by c (Reset m j) = pick (also (eqb c.kind 0) (eqb m c.machine)) (j ∷ []) []
made_by c (HandOver d j) = []
made_by c (Action d op) = []

-- the threads made for the claim
unfoldable pub made_in : Claim → List Happening → List ℕ
made_in c [] = []
made_in c (h ∷ hs) = made_by c h.event ++ made_in c hs

-- the program that thread j jumps to, in a list of one
abbrev pub jump_by : ℕ → Event → List ℕ
jump_by j (Jump d p) = pick (eqb d.serial j) (p ∷ []) []
jump_by j (Launch d m k) = []
jump_by j (Reset m k) = []
jump_by j (HandOver d k) = []
jump_by j (Action d op) = []

-- the jumps of thread j, in order
unfoldable pub jumps_of : ℕ → List Happening → List ℕ
jumps_of j [] = []
jumps_of j (h ∷ hs) = jump_by j h.event ++ jumps_of j hs

-- the first of the second list are the first list
unfoldable pub begins_with : List ℕ → List ℕ → Bool
begins_with [] js = true
begins_with (p ∷ ps) [] = false
begins_with (p ∷ ps) (j ∷ js) = also (eqb j p) (begins_with ps js)

-- the test holds of one of them
unfoldable pub some_of : (ℕ → Bool) → List ℕ → Bool
some_of f [] = false
some_of f (x ∷ xs) = either (f x) (some_of f xs)

abbrev pub path_of : Claim → List ℕ
path_of c = take c.length c.path

-- a thread made for the claim has as its first jumps the path
unfoldable pub walked_in : Claim → List Happening → Bool
walked_in c hs = some_of (λ j. begins_with (path_of c) (jumps_of j hs)) (made_in c hs)

-- the event h, after the events hs
unfoldable pub breaks_claim : Claim → List Happening → Happening → Bool
breaks_claim c hs h = also (accepts_of c.program h) (not (walked_in c hs))

-- "first breaking step or 0": counted from 1
unfoldable pub first_break_after : Claim → List Happening → List Happening → ℕ
first_break_after c past [] = 0
first_break_after c past (h ∷ hs) = pick (breaks_claim c past h) (length past + 1) (first_break_after c (past ++ (h ∷ [])) hs)

unfoldable pub first_break : Claim → List Happening → ℕ
first_break c hs = first_break_after c [] hs

-- "accepts of any program"
unfoldable pub accepts_all : List Happening → ℕ
accepts_all [] = 0
accepts_all (h ∷ hs) = endings_of h.ended + accepts_all hs
