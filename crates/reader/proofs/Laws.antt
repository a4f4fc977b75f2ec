-- The laws that the proofs of the functions share: one step down the fields of a line, one turn of each loop.
use Prim.Native.Nat.{ℕ, zero, suc, ◌+◌, ◌-◌, ◌<◌, ◌≤◌}
use mathlib.Core.Bool.{Bool, true, false, ◌||◌}
use mathlib.Core.List.{List, [], ◌∷◌}
use Rattle.std.specs.Prelude.{Option, Some, None, MatchOption, Result, Ok, Err, OkIff}
use Rattle.std.specs.Result.{result_ok}
use mathlib.Core.Path.{◌≡◌, refl, sym, ap, ◌∙◌, subst}
use native.Mathlib.Numerals.{sub-one}
use native.Mathlib.Nat.{sub-add-eq, sub-eq-zero_of_le}
use native.Mathlib.Omega.{arith}
use lib.ListN.{length, get_or, set, take, drop}
use lib.Seq.{take-length, take-take, length-take-le}
use lib.Dec.{ltb, eqb}
use borrow.Author.Tests.{ltb-true, ltb-false, lt-ltb}
use denote.Param.Members.{Mut}
use Rattle.std.specs.Fn.{Called}
use Rattle.std.specs.Array.{IsMapOf}
use Rattle.std.specs.List.{list_any}
use Rattle.terms.specs.Base.{pick}
use Rattle.model.specs.Fields.{either}
use Rattle.lines.specs.Line.{span, no_lf, cut_line, width_of, lines_of}
use Rattle.lines.specs.Field.{field_read, field_of}
use Rattle.lines.specs.declared.field.Field as code
use Rattle.lines.proofs.Laws.{read_le}
use Rattle.lines.proofs.Lines.{width_min, lines_cons, span_take}
use Rattle.model.specs.Records.{length_at}
use Rattle.reader.specs.declared.refusal.Refusal.{Refusal}
use Rattle.reader.specs.declared.refusal.Refusal.TheVariants.{Form, Order, Limit, Name, Twice, Kind, Length}
use Rattle.reader.specs.Refused.{number_of}
use Rattle.reader.specs.Numbers.{fields, bad_fields, are_fields, fields_with, fields_by, fields_in}
use Rattle.reader.specs.Drafts.{Lined, lined}
use Rattle.reader.specs.VLine.{version_refusal, version_line}
use Rattle.reader.specs.ELine.{term_refusal, term_line}
use Rattle.reader.specs.ALine.{action_refusal, action_line}
use Rattle.reader.specs.MLine.{machine_refusal, machine_line}
use Rattle.reader.specs.LLine.{location_refusal, location_line}
use Rattle.reader.specs.TLine.{thread_refusal, thread_line}
use Rattle.reader.specs.CLine.{claim_form20, claim_refusal, claim_line}
use Rattle.reader.specs.FirstReading.{Kept, kept, by_letter, next_line, go_on, whole_read, read_from}
use Rattle.reader.specs.SecondReading.{refusal, below, within, within_from, programs_from}
use Rattle.reader.specs.Numbers.{Fields}
use Rattle.reader.specs.declared.draft.Draft.{Draft}
use Rattle.reader.specs.SecondReading.{Within}

-- the number in a field fits
pub number_fits : {E : Type 0} (s : List ℕ) (f : code.Field) (r : Result ℕ E) (v : ℕ) → field_read (Some f) ≡ field_of s 65535
    → OkIff r (f.number < 65536) f.number → Some v ≡ result_ok r → v ≡ f.number
number_fits s f (Ok x) v e h g = let q : v ≡ x = cc in let k : x ≡ f.number = h.1 in omega arith
number_fits s f (Err d) v e h g = absurd (let z : ◌≡◌ {A = ℕ} 0 1 = cc in omega arith)

pub number_fails : {E : Type 0} (s : List ℕ) (f : code.Field) (r : Result ℕ E) → field_read (Some f) ≡ field_of s 65535
    → OkIff r (f.number < 65536) f.number → None ≡ result_ok r → ⊥
number_fails s f (Ok x) e h g = absurd (let z : ◌≡◌ {A = ℕ} 0 1 = cc in omega arith)
number_fails s f (Err d) e h g = let k : f.number < 65536 → ⊥ = h in let m : f.number ≤ 65535 = read_le f s 65535 e in omega arith

-- fields_of: one field more, and no room for one
pub fields_step : (n : ℕ) (s : List ℕ) (got : Fields) → 0 < n → fields_in n s got ≡ fields_by (field_of s 65535) s got (λ t g. fields_in (n - 1) t g)
unfolding fields_in
fields_step zero s got h = absurd (omega arith)
fields_step (suc n) s got h = rw sub-one

pub fields_more : (i : ℕ) (s : List ℕ) (got : Fields) → i < 7 → fields_in (7 - i) s got ≡ fields_by (field_of s 65535) s got (λ t g. fields_in (7 - (i + 1)) t g)
fields_more i s got h = rw (sub-add-eq, fields_step (7 - i) s got (omega arith))

pub fields_end : (i : ℕ) (s : List ℕ) (got : Fields) → 7 ≤ i → fields_in (7 - i) s got ≡ bad_fields
unfolding fields_in
fields_end i s got h = rw sub-eq-zero_of_le

-- one more where there is a place: the numbers stay of good form
pub fields_with_more : (f : Fields) (v : ℕ) → f.count < 7 → fields_with f v ≡ fields true (f.count + 1) (set f.values f.count v)
unfolding fields_with
fields_with_more f v h = rw (lt-ltb f.count 7 h)

pub fields_with_fits : (f : Fields) (v : ℕ) → f.count < 7 → bad_fields ≡ fields_with f v → ⊥
unfolding bad_fields
fields_with_fits f v h e = let q : false ≡ true = ap (λ (g : Fields). g.good) (e ∙ fields_with_more f v h) in absurd (cc)

-- first_reading: a line is cut from the rest of the file as from itself
cut_by_lem : (t : Bool) (s : List ℕ) → ltb (span no_lf s) (length s) ≡ t → (l acts : List ℕ) (d : Draft) → next_line l acts d (take (width_of s) s) ≡ next_line l acts d s
unfolding next_line cut_line
cut_by_lem true s e l acts d =
    let n = span no_lf s in
    let h : n < length s = ltb-true n (length s) e in
    let w : width_of s ≡ n + 1 = omega (arith, width_min s) in
    let k : length (take (n + 1) s) ≡ n + 1 = length-take-le (n + 1) s (omega arith) in
    let p : span no_lf (take (n + 1) s) ≡ n = span_take no_lf (n + 1) s (omega arith) in
    let q : take n (take (n + 1) s) ≡ take n s = take-take n (n + 1) s (omega arith) in
    let g : n < n + 1 = omega arith in
    rw (w, p, k, lt-ltb n (length s) h, lt-ltb n (n + 1) g, q)
cut_by_lem false s e l acts d =
    let h : length s ≤ span no_lf s = ltb-false _ _ e in
    let w : width_of s ≡ length s = omega (arith, width_min s) in
    rw (w, take-length s)

pub first_cut : (s : List ℕ) (l acts : List ℕ) (d : Draft) → next_line l acts d (take (width_of s) s) ≡ next_line l acts d s
first_cut s l acts d = cut_by_lem (ltb (span no_lf s) (length s)) s refl l acts d

pub read_more : (s : List ℕ) (n : ℕ) (l acts : List ℕ) (d : Draft) → 0 < length s
    → read_from n (lines_of s) l acts d ≡ go_on (next_line l acts d s) n (λ m bs e. read_from (n + 1) (lines_of (drop (width_of s) s)) m bs e)
unfolding read_from
read_more s n l acts d h = rw (lines_cons s h, first_cut s l acts d)

pub read_end : (s : List ℕ) (n : ℕ) (l acts : List ℕ) (d : Draft) → length s ≤ 0 → read_from n (lines_of s) l acts d ≡ kept (whole_read n d) l acts
unfolding read_from lines_of
read_end [] n l acts d h = refl
read_end (x ∷ s) n l acts d h = absurd (omega arith)

-- second_reading: whether there is a first one below the count
below_is : (t : Bool) (e n : ℕ) → ltb e n ≡ t → {r : Option ℕ} → r ≡ pick t (Some e) None → MatchOption r (ltb e n ≡ false) (λ i. (ltb e n ≡ true) × (i ≡ e))
below_is true e n q g = subst (λ (r : Option ℕ). MatchOption r (ltb e n ≡ false) (λ i. (ltb e n ≡ true) × (i ≡ e))) (sym g) (q, refl)
below_is false e n q g = subst (λ (r : Option ℕ). MatchOption r (ltb e n ≡ false) (λ i. (ltb e n ≡ true) × (i ≡ e))) (sym g) q

pub found_below : (i e n : ℕ) → Some i ≡ below e n → (ltb e n ≡ true) × (i ≡ e)
found_below i e n g = below_is (ltb e n) e n refl g

pub none_below : (e n : ℕ) → None ≡ below e n → ltb e n ≡ false
none_below e n g = below_is (ltb e n) e n refl g

-- program_reading: one action
within_step : (k i : ℕ) (f : ℕ → ℕ) → 0 < k → within_from k i f ≡ pick (eqb (f i) 0) (within_from (k - 1) (i + 1) f) (within (f i) i)
unfolding within_from
within_step zero i f h = absurd (omega arith)
within_step (suc k) i f h = rw sub-one

pub within_more : (n i : ℕ) (f : ℕ → ℕ) → i < n → within_from (n - i) i f ≡ pick (eqb (f i) 0) (within_from (n - (i + 1)) (i + 1) f) (within (f i) i)
within_more n i f h = rw (sub-add-eq, within_step (n - i) i f (omega arith))

pub within_end : (n i : ℕ) (f : ℕ → ℕ) → n ≤ i → within_from (n - i) i f ≡ within 0 0
unfolding within_from
within_end n i f h = rw sub-eq-zero_of_le

-- programs_reading: one program
programs_step : (k p line : ℕ) (f : ℕ → Within) (ns : List ℕ) → 0 < k
    → programs_from k p line f ns ≡ pick (eqb (f p).number 0) (programs_from (k - 1) (p + 1) (line + length_at ns p) f ns) (refusal (f p).number (line + (f p).at))
unfolding programs_from
programs_step zero p line f ns h = absurd (omega arith)
programs_step (suc k) p line f ns h = rw sub-one

pub programs_more : (n p line : ℕ) (f : ℕ → Within) (ns : List ℕ) → p < n
    → programs_from (n - p) p line f ns ≡ pick (eqb (f p).number 0) (programs_from (n - (p + 1)) (p + 1) (line + length_at ns p) f ns) (refusal (f p).number (line + (f p).at))
programs_more n p line f ns h = rw (sub-add-eq, programs_step (n - p) p line f ns (omega arith))

pub programs_end : (n p line : ℕ) (f : ℕ → Within) (ns : List ℕ) → n ≤ p → programs_from (n - p) p line f ns ≡ refusal 0 0
unfolding programs_from
programs_end n p line f ns h = rw sub-eq-zero_of_le

-- a refusal's number is not 0
pub refused : (r : Refusal) → eqb (number_of r) 0 ≡ false
refused Form = refl
refused Order = refl
refused Limit = refl
refused Name = refl
refused Twice = refl
refused Kind = refl
refused Length = refl

-- a line of bad form is refused as such, whatever its letter
pub bad_line : (letter : ℕ) (l acts : List ℕ) (d : Draft) → by_letter letter bad_fields l acts d ≡ kept (lined 20 d) l acts
unfolding bad_fields are_fields version_line version_refusal term_line term_refusal action_line action_refusal machine_line machine_refusal location_line location_refusal thread_line thread_refusal claim_line claim_refusal claim_form20
bad_line letter l acts d =
    by (eqb letter 86) _ refl (by (eqb letter 69) _ refl (by (eqb letter 65) _ refl (by (eqb letter 77) _ refl
    (by (eqb letter 76) _ refl (by (eqb letter 84) _ refl (by (eqb letter 67) _ refl refl))))))
  where
    by : (t : Bool) (r : Kept Lined) {s : Kept Lined} → s ≡ kept (lined 20 d) l acts → r ≡ kept (lined 20 d) l acts → pick t s r ≡ kept (lined 20 d) l acts
    by true r e g = e
    by false r e g = g

-- claim_of: a function at each of four numbers
four : (ys : List ℕ) (a b m n : ℕ) → length ys ≡ 4 → get_or ys 0 0 ≡ a → get_or ys 1 0 ≡ b → get_or ys 2 0 ≡ m → get_or ys 3 0 ≡ n
    → ys ≡ a ∷ b ∷ m ∷ n ∷ []
four [] a b m n l p q r s = absurd (omega arith)
four (x ∷ []) a b m n l p q r s = absurd (omega arith)
four (x ∷ y ∷ []) a b m n l p q r s = absurd (omega arith)
four (x ∷ y ∷ z ∷ []) a b m n l p q r s = absurd (omega arith)
four (x ∷ y ∷ z ∷ w ∷ []) a b m n l p q r s = cc
four (x ∷ y ∷ z ∷ w ∷ v ∷ vs) a b m n l p q r s = absurd (omega arith)

pub mapped_four : {F : Type 0} {g : Mut F (ℕ × Unit {0}) ℕ} {f : F} (h : ℕ → ℕ) (ys : List ℕ) (a b m n : ℕ)
    → IsMapOf g f (a ∷ b ∷ m ∷ n ∷ []) ys 4 → ((x r : ℕ) (p q : F) → Called g p (x, tt) r q → r ≡ h x)
    → ys ≡ h a ∷ h b ∷ h m ∷ h n ∷ []
mapped_four h ys a b m n M call =
    let at : (i : ℕ) → i < 4 → get_or ys i 0 ≡ h (get_or (a ∷ b ∷ m ∷ n ∷ []) i 0) = λ i k. let c = M.at i 0 0 k in call _ _ c.0 c.1 c.2 in
    four ys _ _ _ _ M.long (at 0 (omega arith)) (at 1 (omega arith)) (at 2 (omega arith)) (at 3 (omega arith))

-- path_names23: one of the last four of seven numbers
either_by : (b : Bool) {p q : Bool} → p ≡ q → b || p ≡ either b q
either_by true e = refl
either_by false e = e

last_by : (b : Bool) → b || false ≡ b
last_by true = refl
last_by false = refl

pub any_four : (p : ℕ → Bool) (vs : List ℕ) → length vs ≡ 7
    → list_any p (take 4 (drop 3 vs)) ≡ either (p (get_or vs 3 0)) (either (p (get_or vs 4 0)) (either (p (get_or vs 5 0)) (p (get_or vs 6 0))))
any_four p [] l = absurd (omega arith)
any_four p (a ∷ []) l = absurd (omega arith)
any_four p (a ∷ b ∷ []) l = absurd (omega arith)
any_four p (a ∷ b ∷ m ∷ []) l = absurd (omega arith)
any_four p (a ∷ b ∷ m ∷ x ∷ []) l = absurd (omega arith)
any_four p (a ∷ b ∷ m ∷ x ∷ y ∷ []) l = absurd (omega arith)
any_four p (a ∷ b ∷ m ∷ x ∷ y ∷ z ∷ []) l = absurd (omega arith)
any_four p (a ∷ b ∷ m ∷ x ∷ y ∷ z ∷ w ∷ vs) l = either_by (p x) (either_by (p y) (either_by (p z) (last_by (p w))))
