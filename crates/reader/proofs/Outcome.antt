-- "A refusal gives number and line and leaves all lent tables zero": a model that is not all zero comes with number 0.
use Prim.Native.Nat.{ℕ}
use mathlib.Core.Bool.{Bool, true, false}
use mathlib.Core.List.{List}
use mathlib.Core.Path.{◌≡◌, refl, sym, ap, ◌∙◌}
use native.Mathlib.Omega.{arith}
use Rattle.std.specs.Prelude.{Option, Some, None, Result, Ok, Err}
use lib.Dec.{eqb}
use Rattle.terms.specs.Base.{pick}
use Rattle.model.specs.declared.records.Model.{Model}
use Rattle.reader.specs.Numbers.{Fields, told, bad_fields}
use Rattle.reader.specs.Drafts.{Lined, lined, lined_in}
use Rattle.reader.specs.FirstReading.{Kept, first_reading, read_answer, read_in}
use Rattle.reader.specs.SecondReading.{Second, second_reading, refusal, second_in, Within, within_in}
use Rattle.reader.specs.Load.{no_model, model_of, loaded, refused_with, loaded_in, load_first, load_of}
use Rattle.reader.specs.FirstReading.{Read}
use Rattle.reader.specs.Load.{Loaded}
use Rattle.reader.specs.Refused.{number_of, number_in}
use Rattle.reader.specs.declared.draft.Draft.{Draft}
use Rattle.reader.specs.declared.fields.Fields as G
use Rattle.reader.specs.declared.second.Place.{Place}
use Rattle.reader.specs.declared.refusal.Fault.{Fault}
use Rattle.reader.specs.declared.refusal.Refusal.{Refusal}
use Rattle.reader.specs.declared.refusal.Refusal.TheVariants.{Form, Order, Limit, Name, Twice, Kind, Length}

-- zero where refused
abbrev ZeroIfRefused : Loaded → Type 0
ZeroIfRefused x = (x.number ≡ 0 → ⊥) → x.model ≡ no_model

either_zero : (b : Bool) (x y : Loaded) → ZeroIfRefused x → ZeroIfRefused y → ZeroIfRefused (pick b x y)
either_zero true x y p q = p
either_zero false x y p q = q

refused_is : (n line : ℕ) → ZeroIfRefused (refused_with n line)
unfolding refused_with
refused_is n line f = refl

good_is : (m : Model) → ZeroIfRefused (loaded 0 0 m)
good_is m f = absurd (f refl)

first_zero : (r : Kept Read) → ZeroIfRefused (load_first r)
first_zero r =
    let d = r.out.draft in
    let s = second_reading r.terms r.actions d in
    let m = model_of r.terms r.actions d in
    either_zero (eqb r.out.number 0) _ (refused_with r.out.number r.out.line)
    (either_zero (eqb s.number 0) (loaded 0 0 m) (refused_with s.number s.line) (good_is m) (refused_is s.number s.line))
    (refused_is r.out.number r.out.line)

pub refused_zero : (file : List ℕ) → ((load_of file).number ≡ 0 → ⊥) → (load_of file).model ≡ no_model
unfolding load_of
refused_zero file = first_zero (first_reading file _ _)

-- no second outcome: two answers to one file are equal
pub one_reading : (file : List ℕ) (r s : Loaded) → r ≡ load_of file → s ≡ load_of file → r ≡ s
one_reading file r s p q = p ∙ sym q

-- a number says which refusal it is
refusal_of : ℕ → Refusal
refusal_of n = pick (eqb n 20) Form (pick (eqb n 21) Order (pick (eqb n 22) Limit (pick (eqb n 23) Name (pick (eqb n 24) Twice (pick (eqb n 25) Kind Length)))))

read_back : (r : Refusal) → refusal_of (number_of r) ≡ r
unfolding refusal_of
read_back Form = refl
read_back Order = refl
read_back Limit = refl
read_back Name = refl
read_back Twice = refl
read_back Kind = refl
read_back Length = refl

pub one_refusal : (r s : Refusal) → number_of r ≡ number_of s → r ≡ s
one_refusal r s e = sym (read_back r) ∙ ap refusal_of e ∙ read_back s

no_refusal : (r : Refusal) → number_of r ≡ 0 → ⊥
no_refusal Form e = absurd (omega arith)
no_refusal Order e = absurd (omega arith)
no_refusal Limit e = absurd (omega arith)
no_refusal Name e = absurd (omega arith)
no_refusal Twice e = absurd (omega arith)
no_refusal Kind e = absurd (omega arith)
no_refusal Length e = absurd (omega arith)

abbrev fault : Refusal → ℕ → Fault
fault r line = record { refusal = r; line = line }

one_fault : (f g : Fault) → f.refusal ≡ g.refusal → f.line ≡ g.line → f ≡ g
one_fault f g p q = ap (λ (r : Refusal). fault r f.line) p ∙ ap (fault g.refusal) q

same_loaded : (x y : Result Model Fault) → loaded_in x ≡ loaded_in y → x ≡ y
unfolding refused_with
same_loaded (Ok m) (Ok n) e = ap Ok (ap (λ (l : Loaded). l.model) e)
same_loaded (Ok m) (Err g) e = absurd (no_refusal g.refusal (sym (ap (λ (l : Loaded). l.number) e)))
same_loaded (Err f) (Ok n) e = absurd (no_refusal f.refusal (ap (λ (l : Loaded). l.number) e))
same_loaded (Err f) (Err g) e = ap Err (one_fault f g (one_refusal f.refusal g.refusal (ap (λ (l : Loaded). l.number) e)) (ap (λ (l : Loaded). l.line) e))

-- so two answers of the code to one file are equal too
pub one_load : (file : List ℕ) (x y : Result Model Fault) → loaded_in x ≡ load_of file → loaded_in y ≡ load_of file → x ≡ y
one_load file x y p q = same_loaded x y (p ∙ sym q)

-- ---- the same of the answers on the way: no two of them read alike

-- of a rule of a line, or of an action
pub number_one : (r q : Result (Unit {0}) Refusal) → number_in r ≡ number_in q → r ≡ q
number_one (Ok u) (Ok v) e = refl
number_one (Ok u) (Err q) e = absurd (no_refusal q (sym e))
number_one (Err r) (Ok v) e = absurd (no_refusal r e)
number_one (Err r) (Err q) e = ap (λ (x : Refusal). Err x) (one_refusal r q e)

lined_is : (r : Result (Unit {0}) Refusal) (d : Draft) → lined_in r d ≡ lined (number_in r) d
lined_is (Ok u) d = refl
lined_is (Err x) d = refl

-- of a line, with the draft that it leaves
pub lined_one : (r q : Result (Unit {0}) Refusal) (d c : Draft) → lined_in r d ≡ lined_in q c → (r ≡ q) × (d ≡ c)
lined_one r q d c e =
    let h : lined (number_in r) d ≡ lined (number_in q) c = sym (lined_is r d) ∙ e ∙ lined_is q c in
    (number_one r q (ap (λ (w : Lined). w.number) h), ap (λ (w : Lined). w.draft) h)

-- of the second reading
pub second_one : (r q : Result (Unit {0}) Fault) → second_in r ≡ second_in q → r ≡ q
second_one (Ok u) (Ok v) e = refl
second_one (Ok u) (Err g) e = absurd (no_refusal g.refusal (sym (ap (λ (s : Second). s.number) e)))
second_one (Err f) (Ok v) e = absurd (no_refusal f.refusal (ap (λ (s : Second). s.number) e))
second_one (Err f) (Err g) e =
    ap (λ (x : Fault). Err x) (one_fault f g (one_refusal f.refusal g.refusal (ap (λ (s : Second). s.number) e)) (ap (λ (s : Second). s.line) e))

read_is : (r : Result (Unit {0}) Fault) (d : Draft) → read_in r d ≡ read_answer (second_in r).number (second_in r).line d
read_is (Ok u) d = refl
read_is (Err f) d = refl

-- of the first reading, with the draft that it leaves
pub read_one : (r q : Result (Unit {0}) Fault) (d c : Draft) → read_in r d ≡ read_in q c → (r ≡ q) × (d ≡ c)
read_one r q d c e =
    let h : read_answer (second_in r).number (second_in r).line d ≡ read_answer (second_in q).number (second_in q).line c =
    sym (read_is r d) ∙ e ∙ read_is q c
    in
    (second_one r q (ap (λ (w : Read). refusal w.number w.line) h), ap (λ (w : Read). w.draft) h)

abbrev place : Refusal → ℕ → Place
place r k = record { refusal = r; at = k }

-- of one program
pub within_one : (r q : Result (Unit {0}) Place) → within_in r ≡ within_in q → r ≡ q
within_one (Ok u) (Ok v) e = refl
within_one (Ok u) (Err y) e = absurd (no_refusal y.refusal (sym (ap (λ (w : Within). w.number) e)))
within_one (Err x) (Ok v) e = absurd (no_refusal x.refusal (ap (λ (w : Within). w.number) e))
within_one (Err x) (Err y) e =
    let p : x.refusal ≡ y.refusal = one_refusal x.refusal y.refusal (ap (λ (w : Within). w.number) e) in
    let k : x.at ≡ y.at = ap (λ (w : Within). w.at) e in
    ap (λ (z : Place). Err z) (ap (λ (r : Refusal). place r x.at) p ∙ ap (place y.refusal) k)

abbrev given_as : ℕ → List ℕ → G.Fields
given_as n vs = record { count = n; values = vs }

abbrev given_if : Bool → G.Fields → Option G.Fields
given_if true f = Some f
given_if false f = None

abbrev given_back : Fields → Option G.Fields
given_back f = given_if f.good (given_as f.count f.values)

told_is : (r : Option G.Fields) → given_back (told r) ≡ r
unfolding bad_fields
told_is (Some f) = refl
told_is None = refl

-- of the numbers of a line
pub told_one : (r q : Option G.Fields) → told r ≡ told q → r ≡ q
told_one r q e = sym (told_is r) ∙ ap given_back e ∙ told_is q
