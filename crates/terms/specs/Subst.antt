-- A thread's values put for variables. Variable a stands at place o + a of the values.
use Rattle.std.specs.Prelude.{ℕ, zero, suc, ◌+◌, Bool, false, List, get_or, leb, Result, Ok, Err}
use Rattle.terms.specs.Base.{pick, Held, held}
use Rattle.terms.specs.Term.{term, shape_of}
use Rattle.terms.specs.Line.{term_at, depth_at, ground_at}
use Rattle.terms.specs.Table.{add_to, cut_to}
use Rattle.terms.specs.Outcome.{Outcome, Added}
use Rattle.terms.specs.Outcome as O
use Rattle.terms.specs.Taken.{Taken, Operands}
use Rattle.terms.specs.Taken as T
use Rattle.terms.specs.Subbed.{Got, Label, Deep, Full, Subbed, subbed}
use Rattle.terms.specs.declared.term.Term.{Term}
use Rattle.terms.specs.declared.term.Shape.{Shape}
use Rattle.terms.specs.declared.term.Shape.TheVariants.{Bare, Number, Variable, Sealed, Hashed, Applied, Joined, Unknown}
use Rattle.terms.specs.declared.table.Size.{Size}
use Rattle.terms.specs.declared.table.Size.TheVariants as Z
use Rattle.terms.specs.declared.subst.Plan.{Plan}
use Rattle.terms.specs.declared.subst.Plan.TheVariants.{Keep, First, Second, Both}
use Rattle.terms.specs.declared.subst.Operands as P
use Rattle.terms.specs.declared.subst.Walked.{Walked}

-- what is to be done at a label: keep one, or go down the parts
abbrev pub plan_by : Shape → Term → List ℕ → ℕ → ℕ → Plan
plan_by Bare x vs o i = Keep i
plan_by Number x vs o i = Keep i
plan_by Variable x vs o i = Keep (get_or vs (o + x.a) 0)
plan_by Sealed x vs o i = First x.a
plan_by Hashed x vs o i = First x.a
plan_by Applied x vs o i = Second x.b
plan_by Joined x vs o i = Both x.a x.b
plan_by Unknown x vs o i = Keep i

unfoldable pub plan_at : List ℕ → List ℕ → ℕ → ℕ → Plan
plan_at l vs o i = pick (ground_at l i) (Keep i) (plan_by (shape_of (term_at l i).kind) (term_at l i) vs o i)

-- the result has depth `room` at most: asked without entering anything
abbrev pub fits_by : Plan → List ℕ → ℕ → (ℕ → Bool) → Bool
fits_by (Keep i) l room deeper = leb (depth_at l i) room
fits_by (First a) l room deeper = deeper a
fits_by (Second b) l room deeper = deeper b
fits_by (Both a b) l room deeper = pick (deeper a) (deeper b) false

unfoldable pub fits_within : ℕ → List ℕ → List ℕ → ℕ → ℕ → Bool
fits_within zero l vs o i = false
fits_within (suc n) l vs o i = fits_by (plan_at l vs o i) l (suc n) (λ j. fits_within n l vs o j)

-- a term listed, old or new, as an answer
abbrev pub got_by : Outcome → Got
got_by (O.Listed i) = Label i
got_by (O.New i) = Label i
got_by O.Deep = Deep
got_by O.Full = Full

abbrev pub as_got : Held Added → Held Subbed
as_got r = held (subbed (got_by r.out.outcome) r.out.count) r.table

unfoldable pub entered_in : List ℕ → ℕ → Term → Held Subbed
entered_in l c x = as_got (add_to l c x)

-- the term at label i with other parts, once these are known
abbrev pub first_by : Got → ℕ → ℕ → List ℕ → Held Subbed
first_by (Label a) c i l = entered_in l c (term (term_at l i).kind a (term_at l i).b)
first_by Deep c i l = held (subbed Deep c) l
first_by Full c i l = held (subbed Full c) l

unfoldable pub with_first : List ℕ → ℕ → Subbed → Held Subbed
with_first l i r = first_by r.got r.count i l

abbrev pub second_by : Got → ℕ → ℕ → List ℕ → Held Subbed
second_by (Label b) c i l = entered_in l c (term (term_at l i).kind (term_at l i).a b)
second_by Deep c i l = held (subbed Deep c) l
second_by Full c i l = held (subbed Full c) l

unfoldable pub with_second : List ℕ → ℕ → Subbed → Held Subbed
with_second l i r = second_by r.got r.count i l

abbrev pub both_by : Got → ℕ → ℕ → ℕ → List ℕ → Held Subbed
both_by (Label b) c i a l = entered_in l c (term (term_at l i).kind a b)
both_by Deep c i a l = held (subbed Deep c) l
both_by Full c i a l = held (subbed Full c) l

unfoldable pub with_both : List ℕ → ℕ → ℕ → Subbed → Held Subbed
with_both l i a r = both_by r.got r.count i a l

-- the second part, and then the whole, once the first part has its label
abbrev pub then_second : Got → ℕ → ℕ → ℕ → (List ℕ → ℕ → ℕ → Held Subbed) → List ℕ → Held Subbed
then_second (Label a) c i b down l = let q = down l c b in with_both q.table i a q.out
then_second Deep c i b down l = held (subbed Deep c) l
then_second Full c i b down l = held (subbed Full c) l

-- "walk the term down its parts": `down` substitutes at a part
abbrev pub walk_by : Plan → (List ℕ → ℕ → ℕ → Held Subbed) → List ℕ → ℕ → ℕ → Held Subbed
walk_by (Keep j) down l c i = held (subbed (Label j) c) l
walk_by (First a) down l c i = let r = down l c a in with_first r.table i r.out
walk_by (Second b) down l c i = let r = down l c b in with_second r.table i r.out
walk_by (Both a b) down l c i = let r = down l c a in then_second r.out.got r.out.count i b down r.table

-- "the depth falling each time"
unfoldable pub subst_in : ℕ → List ℕ → ℕ → List ℕ → ℕ → ℕ → Held Subbed
subst_in zero l c vs o i = held (subbed Deep c) l
subst_in (suc n) l c vs o i = walk_by (plan_at l vs o i) (λ m d j. subst_in n m d vs o j) l c i

-- both operands of an action: one is too deep (8), or there is no room for both (9)
abbrev pub operands : Taken → ℕ → Operands
operands t c = record { taken = t; count = c }

-- the same as the code answers it, of operands entered among c terms: a refusal leaves the count
abbrev pub taken_of : Size → Taken
taken_of Z.Deep = T.Deep
taken_of Z.Full = T.Full

abbrev pub operands_in : ℕ → Result P.Operands Size → Operands
operands_in c (Ok o) = operands (T.Labels o.x o.y) o.count
operands_in c (Err z) = operands (taken_of z) c

-- and on the way there, where the count of a refusal is that of the terms entered before it
abbrev pub labels_of : Result (ℕ × ℕ) Size → Taken
labels_of (Ok (i, j)) = T.Labels i j
labels_of (Err z) = taken_of z

abbrev pub walked_in : Walked → Operands
walked_in w = operands (labels_of w.labels) w.count

abbrev pub taken_by : Got → ℕ → ℕ → Operands
taken_by (Label j) c i = operands (T.Labels i j) c
taken_by Deep c i = operands T.Deep c
taken_by Full c i = operands T.Full c

unfoldable pub second_operand : ℕ → Subbed → Operands
second_operand i q = taken_by q.got q.count i

abbrev pub after_first : Got → ℕ → List ℕ → List ℕ → ℕ → ℕ → Held Operands
after_first (Label i) c l vs o y = let q = subst_in 16 l c vs o y in held (second_operand i q.out) q.table
after_first Deep c l vs o y = held (operands T.Deep c) l
after_first Full c l vs o y = held (operands T.Full c) l

abbrev pub take_by : Held Subbed → List ℕ → ℕ → ℕ → Held Operands
take_by p vs o y = after_first p.out.got p.out.count p.table vs o y

-- one after the other, until one cannot be entered
unfoldable pub take_both : List ℕ → ℕ → List ℕ → ℕ → ℕ → ℕ → Held Operands
take_both l c vs o x y = take_by (subst_in 16 l c vs o x) vs o y

-- no room for both: 8 where one is too deep, else 9
unfoldable pub deep_or_full : List ℕ → List ℕ → ℕ → ℕ → ℕ → Taken
deep_or_full l vs o x y = pick (fits_within 16 l vs o x) (pick (fits_within 16 l vs o y) T.Full T.Deep) T.Deep

-- a refusal leaves the table as it came, with c terms
abbrev pub settled_by : Taken → ℕ → List ℕ → ℕ → List ℕ → ℕ → ℕ → ℕ → Held Operands
settled_by (T.Labels i j) d m c vs o x y = held (operands (T.Labels i j) d) m
settled_by T.Deep d m c vs o x y = held (operands T.Deep c) (cut_to m c d)
settled_by T.Full d m c vs o x y = let l = cut_to m c d in held (operands (deep_or_full l vs o x y) c) l

abbrev pub settled : Held Operands → ℕ → List ℕ → ℕ → ℕ → ℕ → Held Operands
settled r c vs o x y = settled_by r.out.taken r.out.count r.table c vs o x y

unfoldable pub take_operands : List ℕ → ℕ → List ℕ → ℕ → ℕ → ℕ → Held Operands
take_operands l c vs o x y = settled (take_both l c vs o x y) c vs o x y
