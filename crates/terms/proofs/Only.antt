-- No second outcome. A contract here and in the crates above is an equation between the answer, with all lent tables as they are left, and
-- a definition of what was given; or a record that has such an equation and a bound beside it. These laws are over any type, so they
-- serve every public function of every crate; docs/PROMISES.md says which contract is of which form. Behind them: what the code
-- answers is fixed by what the definitions say of it.
use mathlib.Core.Path.{◌≡◌, refl, sym, ◌∙◌, ap}
use mathlib.Core.List.{List}
use Prim.Native.Nat.{ℕ}
use Rattle.std.specs.Prelude.{Result, Ok, Err}
use Rattle.terms.specs.Base.{Held, held}
use Rattle.terms.specs.Outcome.{Outcome, Listed, New, Deep, Full, Added}
use Rattle.terms.specs.Taken.{Taken, Operands}
use Rattle.terms.specs.Taken as T
use Rattle.terms.specs.Subbed.{Got, got_in}
use Rattle.terms.specs.Subbed as G
use Rattle.terms.specs.Table.{outcome_at, added_in}
use Rattle.terms.specs.Subst.{taken_of, operands_in, labels_of, walked_in}
use Rattle.terms.specs.declared.table.Size.{Size}
use Rattle.terms.specs.declared.table.Size.TheVariants as Z
use Rattle.terms.specs.declared.table.Entry.{Entry}
use Rattle.terms.specs.declared.table.Entry.TheVariants as E
use Rattle.terms.specs.declared.table.Added as A
use Rattle.terms.specs.declared.subst.Operands as P
use Rattle.terms.specs.declared.subst.Walked.{Walked}

-- two answers that fit are equal; r and s may be records of an answer and of several lent tables
pub one_answer : {A : Type 0} {r s f : A} → r ≡ f → s ≡ f → r ≡ s
one_answer p q = p ∙ sym q

-- two answers with the tables they leave, if both fit, are equal, and so are the tables
pub one_outcome : {A : Type 0} {r s : A} {m n : List ℕ} {f : Held A} → held r m ≡ f → held s n ≡ f → (r ≡ s) × (m ≡ n)
one_outcome {A} p q = (ap (λ (h : Held A). h.out) (p ∙ sym q), ap (λ (h : Held A). h.table) (p ∙ sym q))

-- a contract P that says more than its equation, which `is` reads off it, leaves one answer too
pub one_fit : {A : Type 0} {P : A → Type 0} {f : A} → ((r : A) → P r → r ≡ f) → (r s : A) → P r → P s → r ≡ s
one_fit is r s p q = is r p ∙ sym (is s q)

-- ---- no two answers of the code read alike: each reading is taken back

abbrev added_as : Entry → ℕ → A.Added
added_as x c = record { entry = x; count = c }

abbrev added_back : Outcome → ℕ → Result A.Added Size
added_back (Listed i) c = Ok (added_as (E.Listed i) c)
added_back (New i) c = Ok (added_as (E.New i) c)
added_back Deep c = Err Z.Deep
added_back Full c = Err Z.Full

entry_is : (x : Entry) (c : ℕ) → added_back (outcome_at x) c ≡ Ok (added_as x c)
entry_is (E.Listed i) c = refl
entry_is (E.New i) c = refl

added_is : (c : ℕ) (r : Result A.Added Size) → added_back (added_in c r).outcome (added_in c r).count ≡ r
added_is c (Ok a) = entry_is a.entry a.count
added_is c (Err Z.Deep) = refl
added_is c (Err Z.Full) = refl

-- of a term added
pub added_one : (c : ℕ) (r q : Result A.Added Size) → added_in c r ≡ added_in c q → r ≡ q
added_one c r q e = sym (added_is c r) ∙ ap (λ (a : Added). added_back a.outcome a.count) e ∙ added_is c q

abbrev operands_as : ℕ → ℕ → ℕ → P.Operands
operands_as i j c = record { x = i; y = j; count = c }

abbrev operands_back : Taken → ℕ → Result P.Operands Size
operands_back (T.Labels i j) c = Ok (operands_as i j c)
operands_back T.Deep c = Err Z.Deep
operands_back T.Full c = Err Z.Full

operands_is : (c : ℕ) (r : Result P.Operands Size) → operands_back (operands_in c r).taken (operands_in c r).count ≡ r
operands_is c (Ok o) = refl
operands_is c (Err Z.Deep) = refl
operands_is c (Err Z.Full) = refl

-- of both operands entered
pub operands_one : (c : ℕ) (r q : Result P.Operands Size) → operands_in c r ≡ operands_in c q → r ≡ q
operands_one c r q e = sym (operands_is c r) ∙ ap (λ (o : Operands). operands_back o.taken o.count) e ∙ operands_is c q

abbrev got_back : Got → Result ℕ Size
got_back (G.Label i) = Ok i
got_back G.Deep = Err Z.Deep
got_back G.Full = Err Z.Full

got_is : (r : Result ℕ Size) → got_back (got_in r) ≡ r
got_is (Ok i) = refl
got_is (Err Z.Deep) = refl
got_is (Err Z.Full) = refl

-- of a substitution's label
pub got_one : (r q : Result ℕ Size) → got_in r ≡ got_in q → r ≡ q
got_one r q e = sym (got_is r) ∙ ap got_back e ∙ got_is q

abbrev labels_back : Taken → Result (ℕ × ℕ) Size
labels_back (T.Labels i j) = Ok (i, j)
labels_back T.Deep = Err Z.Deep
labels_back T.Full = Err Z.Full

labels_is : (r : Result (ℕ × ℕ) Size) → labels_back (labels_of r) ≡ r
labels_is (Ok ij) = refl
labels_is (Err Z.Deep) = refl
labels_is (Err Z.Full) = refl

abbrev walked_as : ℕ → Result (ℕ × ℕ) Size → Walked
walked_as c r = record { labels = r; count = c }

-- of both operands walked
pub walked_one : (w v : Walked) → walked_in w ≡ walked_in v → w ≡ v
walked_one w v e =
    sym (ap (walked_as w.count) (labels_is w.labels))
    ∙ ap (λ (o : Operands). walked_as o.count (labels_back o.taken)) e
    ∙ ap (walked_as v.count) (labels_is v.labels)

-- of what there is no room for
pub size_one : (y z : Size) → taken_of y ≡ taken_of z → y ≡ z
size_one Z.Deep Z.Deep e = refl
size_one Z.Deep Z.Full e = cc
size_one Z.Full Z.Deep e = cc
size_one Z.Full Z.Full e = refl
