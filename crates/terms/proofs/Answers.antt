-- A substitution's answer as one number: what is put into it is read out of it again, one without a label is handed on as it
-- is, and what came of adding a term is told from it.
use Prim.Native.Nat.{ℕ, ◌+◌, ◌*◌, ◌/◌, ◌%◌, ◌<◌}
use mathlib.Core.Bool.{Bool, true, false}
use mathlib.Core.List.{List}
use mathlib.Core.Path.{◌≡◌, refl, sym, ap, ap₂, ◌∙◌}
use lib.ListN.{set}
use lib.Dec.{ltb, eqb}
use native.Mathlib.Omega.{arith}
use borrow.Author.Tests.{lt-ltb, le-ltb, eq-eqb, ne_eqb}
use Rattle.std.specs.Prelude.{Option, Some, None}
use Rattle.terms.specs.Base.{pick, Held, held}
use Rattle.terms.specs.Outcome.{Added}
use Rattle.terms.specs.Outcome as O
use Rattle.terms.specs.Subbed.{Got, Label, Deep, Full, Subbed, got_of, subbed, label_in, count_in, has_label, is_deep, subbed_in}
use Rattle.terms.specs.Term.{after_parts}
use Rattle.terms.specs.Line.{packed}
use Rattle.terms.specs.Grade.{grade_of}
use Rattle.terms.specs.Table.{free_of, find_line, added, outcome_of, add_by, add_to}
use Rattle.terms.specs.Subst.{as_got, entered_in, first_by, with_first, second_by, with_second, both_by, with_both, then_second, taken_by, operands, taken_of, after_first}
use Rattle.terms.specs.Entry.{enter_from}
use Rattle.terms.specs.declared.term.Term.{Term}
use Rattle.terms.specs.declared.table.Size.{Size}
use Rattle.terms.specs.declared.table.Size.TheVariants as Z

pub answer_label : (i c : ℕ) → i < 65536 → c < 65536 → subbed_in (c * 65536 + i) ≡ subbed (Label i) c
unfolding subbed_in has_label label_in count_in
answer_label i c h k =
    let n : ℕ = c * 65536 + i in
    let p : n % 65536 ≡ i = omega arith in
    let d : n / 65536 ≡ c = omega arith in
    let m : c % 65536 ≡ c = omega arith in
    let q : n / 65536 % 65536 ≡ c = rw d m in
    rw (lt-ltb n 4294967296 (omega arith), p, q)

pub answer_deep : (c : ℕ) → c < 65536 → subbed_in (4294967296 + c * 65536) ≡ subbed Deep c
unfolding subbed_in has_label is_deep count_in
answer_deep c k =
    let n : ℕ = 4294967296 + c * 65536 in
    let q : n / 65536 % 65536 ≡ c = omega arith in
    rw (le-ltb n 4294967296 (omega arith), lt-ltb n 8589934592 (omega arith), q)

pub answer_full : (c : ℕ) → c < 65536 → subbed_in (8589934592 + c * 65536) ≡ subbed Full c
unfolding subbed_in has_label is_deep count_in
answer_full c k =
    let n : ℕ = 8589934592 + c * 65536 in
    let q : n / 65536 % 65536 ≡ c = omega arith in
    rw (le-ltb n 4294967296 (omega arith), le-ltb n 8589934592 (omega arith), q)

first_size : (z : Size) (c i : ℕ) (l : List ℕ) → first_by (got_of z) c i l ≡ held (subbed (got_of z) c) l
first_size Z.Deep c i l = refl
first_size Z.Full c i l = refl

second_size : (z : Size) (c i : ℕ) (l : List ℕ) → second_by (got_of z) c i l ≡ held (subbed (got_of z) c) l
second_size Z.Deep c i l = refl
second_size Z.Full c i l = refl

both_size : (z : Size) (c i a : ℕ) (l : List ℕ) → both_by (got_of z) c i a l ≡ held (subbed (got_of z) c) l
both_size Z.Deep c i a l = refl
both_size Z.Full c i a l = refl

then_size : (z : Size) (c i b : ℕ) (down : List ℕ → ℕ → ℕ → Held Subbed) (l : List ℕ) → then_second (got_of z) c i b down l ≡ held (subbed (got_of z) c) l
then_size Z.Deep c i b down l = refl
then_size Z.Full c i b down l = refl

-- an answer without a label is handed on
module _ (l : List ℕ) (s : Subbed) (z : Size) (e : got_of z ≡ s.got) where
  handed : (f : Got → ℕ → Held Subbed) → f (got_of z) s.count ≡ held (subbed (got_of z) s.count) l → held s l ≡ f s.got s.count
  handed f h = ap (λ g. held (subbed g s.count) l) (sym e) ∙ sym h ∙ ap (λ g. f g s.count) e

  pub first_handed : (i : ℕ) → held s l ≡ with_first l i s
  unfolding with_first
  first_handed i = handed (λ g c. first_by g c i l) (first_size z s.count i l)

  pub second_handed : (i : ℕ) → held s l ≡ with_second l i s
  unfolding with_second
  second_handed i = handed (λ g c. second_by g c i l) (second_size z s.count i l)

  pub both_handed : (i a : ℕ) → held s l ≡ with_both l i a s
  unfolding with_both
  both_handed i a = handed (λ g c. both_by g c i a l) (both_size z s.count i a l)

  pub then_handed : (i b : ℕ) (down : List ℕ → ℕ → ℕ → Held Subbed) → held s l ≡ then_second s.got s.count i b down l
  then_handed i b down = handed (λ g c. then_second g c i b down l) (then_size z s.count i b down l)

-- neither has an operand without a label
pub operands_size : (z : Size) (c : ℕ) (l vs : List ℕ) (o y : ℕ) → after_first (got_of z) c l vs o y ≡ held (operands (taken_of z) c) l
operands_size Z.Deep c l vs o y = refl
operands_size Z.Full c l vs o y = refl

pub taken_size : (z : Size) (c i : ℕ) → taken_by (got_of z) c i ≡ operands (taken_of z) c
taken_size Z.Deep c i = refl
taken_size Z.Full c i = refl

pub enter_as : (l : List ℕ) (c : ℕ) (x : Term) → entered_in l c x ≡ enter_from (after_parts x) (grade_of l x) l c x
unfolding entered_in add_to enter_from
enter_as l c x = refl

-- a term added is told from the answer: the count rises exactly where the term is new
abbrev pub told_by : Got → ℕ → ℕ → Added
told_by (Label i) d c = added (pick (eqb d c) (O.Listed i) (O.New i)) d
told_by Deep d c = added O.Deep c
told_by Full d c = added O.Full c

abbrev told : ℕ → Held Subbed → Held Added
told c h = held (told_by h.out.got h.out.count c) h.table

told_found : (f : Option ℕ) (l : List ℕ) (c n : ℕ) → told c (as_got (add_by f l c n)) ≡ add_by f l c n
told_found (Some i) l c n = rw (eq-eqb c c refl)
told_found None l c n = go (eqb (free_of c) 0)
  where
    go : (b : Bool) → told c (as_got (pick b (held (added O.Full c) l) (held (added (O.New c) (c + 1)) (set l c n)))) ≡ pick b (held (added O.Full c) l) (held (added (O.New c) (c + 1)) (set l c n))
    go true = refl
    go false = rw (ne_eqb (c + 1) c (omega arith))

told_graded : (b : Bool) (l : List ℕ) (c : ℕ) (h : Held Added) → told c (as_got h) ≡ h → told c (as_got (pick b (held (added O.Deep c) l) h)) ≡ pick b (held (added O.Deep c) l) h
told_graded true l c h t = refl
told_graded false l c h t = t

told_to : (l : List ℕ) (c : ℕ) (x : Term) → told c (entered_in l c x) ≡ add_to l c x
unfolding entered_in add_to
told_to l c x =
    told_graded (ltb 16 (grade_of l x).depth) l c _ (told_found (find_line l (after_parts x) c (packed x (grade_of l x))) l c (packed x (grade_of l x)))

-- an answer that holds what `entered_in` answers
pub told_added : (l m : List ℕ) (c d : ℕ) (x : Term) (g : Got) (s : Subbed) → held s m ≡ entered_in l c x → g ≡ s.got → d ≡ s.count → held (told_by g d c) m ≡ add_to l c x
told_added l m c d x g s e f h = ap₂ (λ g d. held (told_by g d c) m) f h ∙ ap (told c) e ∙ told_to l c x

pub told_size : (z : Size) (d c : ℕ) → told_by (got_of z) d c ≡ added (outcome_of z) c
told_size Z.Deep d c = refl
told_size Z.Full d c = refl
