-- The claim judged over the records of a run, twelve numbers each: number 0 of a record is its op, 1 the mover's serial, 6
-- the program of a jump, 7 the machine, 8 the new thread of a launch or reset, or the receiver of a hand-over, 9 the number
-- of endings, 10 and 11 their programs. That this is the claim over the events is proved.
use Rattle.std.specs.Prelude.{ℕ, zero, suc, ◌+◌, ◌%◌, Bool, true, false, not, List, get_or, eqb, ltb, leb}
use Rattle.terms.specs.Base.{pick, also}
use Rattle.model.specs.Fields.{either}
use Rattle.model.specs.First.{first_from}
use Rattle.model.specs.declared.records.Claim.{Claim}
use Rattle.state.specs.Control.{one_more}
use Rattle.state.specs.declared.ended.Ended.{Ended}
use Rattle.rules.specs.Event.{number_at}
use Rattle.machine.specs.Claim.{ended_in}

-- the test holds of one of n numbers from i on
unfoldable pub any_from : ℕ → ℕ → (ℕ → Bool) → Bool
any_from zero i p = false
any_from (suc n) i p = either (p i) (any_from n (i + 1) p)

-- what f gives of n numbers from i on, added up
unfoldable pub sum_from : ℕ → ℕ → (ℕ → ℕ) → ℕ
sum_from zero i f = 0
sum_from (suc n) i f = f i + sum_from n (i + 1) f

-- What the numbers of one event say of a claim: "the program of any thread that ended .. That ending is an accept of that
-- program", of so many endings in these programs.
unfoldable pub accepts_by : ℕ → ℕ → ℕ → ℕ → Bool
accepts_by endings first second v =
    pick (eqb endings 0) false
    (pick (eqb first v) true
    (pick (eqb endings 1) false
    (eqb second v)))

-- 21 is a reset, 20 a late launch
unfoldable pub making_op : ℕ → ℕ
making_op kind = pick (eqb kind 0) 21 20

-- a thread is made for the claim
unfoldable pub makes_by : ℕ → ℕ → Claim → Bool
makes_by op m c = also (eqb op (making_op c.kind)) (eqb m c.machine)

-- place k of the path
unfoldable pub path_at : Claim → ℕ → ℕ
path_at c k = pick (ltb k 4) (get_or c.path k 0) 0

-- how far along the path thread j is, k before: a jump (19) to the next program of the path, to another (255: it has left
-- the path), or no jump of j
unfoldable pub follow_by : ℕ → ℕ → ℕ → ℕ → Claim → ℕ → ℕ
follow_by op serial p j c k =
    pick (leb c.length k) k
    (pick (eqb op 19)
    (pick (eqb serial j)
    (pick (eqb p (path_at c k)) (k % 255 + 1) 255)
    k) k)

-- the same of record i
unfoldable pub accepts_at : List ℕ → ℕ → ℕ → Bool
accepts_at l i v = accepts_by (number_at l i 9) (number_at l i 10) (number_at l i 11) v

unfoldable pub makes_at : List ℕ → ℕ → Claim → Bool
makes_at l i c = makes_by (number_at l i 0) (number_at l i 7) c

unfoldable pub follow_at : List ℕ → ℕ → ℕ → Claim → ℕ → ℕ
follow_at l i j c k = follow_by (number_at l i 0) (number_at l i 1) (number_at l i 6) j c k

-- after n records from i on
unfoldable pub follow_from : ℕ → ℕ → List ℕ → ℕ → Claim → ℕ → ℕ
follow_from zero i l j c k = k
follow_from (suc n) i l j c k = follow_from n (i + 1) l j c (follow_at l i j c k)

-- the first jumps of thread j among n records are the path
unfoldable pub follows_on : List ℕ → ℕ → ℕ → Claim → Bool
follows_on l n j c = eqb (follow_from n 0 l j c 0) c.length

-- record i made a thread for the claim, and among n records that thread has first jumped along the path
unfoldable pub fulfils_at : List ℕ → ℕ → ℕ → Claim → Bool
fulfils_at l n i c = also (makes_at l i c) (follows_on l n (number_at l i 8) c)

unfoldable pub walked_on : List ℕ → ℕ → Claim → Bool
walked_on l n c = any_from n 0 (λ i. fulfils_at l n i c)

-- record n breaks the claim, the n records before it being what is earlier
unfoldable pub breaks_on : List ℕ → ℕ → Claim → Bool
breaks_on l n c = also (accepts_at l n c.program) (not (walked_on l n c))

-- a step by which these threads ended breaks the claim, the n records being what is earlier
unfoldable pub broken_by : List ℕ → ℕ → Ended → Claim → Bool
broken_by l n e c = also (ended_in c.program e) (not (walked_on l n c))

-- the first of n records with an accept of program v, n where there is none
unfoldable pub first_accept : List ℕ → ℕ → ℕ → ℕ
first_accept l n v = first_from n 0 (λ i. accepts_at l i v)

-- the first of n records that breaks the claim, counted from 1; 0 where none does. A path once walked stays walked, so
-- only the first accept can break.
abbrev pub break_by : ℕ → List ℕ → ℕ → Claim → ℕ
break_by i l n c = pick (eqb i n) 0 (pick (walked_on l i c) 0 (one_more i))

unfoldable pub first_break_on : List ℕ → ℕ → Claim → ℕ
first_break_on l n c = break_by (first_accept l n c.program) l n c

-- accepts of any program in n records
unfoldable pub accepts_on : List ℕ → ℕ → ℕ
accepts_on l n = sum_from n 0 (λ i. number_at l i 9)
