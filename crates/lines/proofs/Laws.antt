-- The laws that the proofs of the functions share: what a test tells a definition, one turn of each loop, one step
-- down of a recursion.
use Prim.Native.Nat.{ℕ, suc, ◌+◌, ◌*◌, ◌-◌, ◌<◌, ◌≤◌}
use mathlib.Core.Bool.{Bool, true, false, not}
use mathlib.Core.List.{List, [], ◌∷◌}
use mathlib.Core.Path.{◌≡◌, refl, sym, ◌∙◌}
use native.Mathlib.Omega.{arith}
use lib.ListN.{length, get_or, take, drop}
use lib.Dec.{ltb, eqb}
use borrow.Author.Tests.{ltb-true, ltb-false, lt-ltb, le-ltb, eq-eqb, ne_eqb, le-leb, lt-leb, eqb-true, eqb-false}
use Rattle.std.specs.Prelude.{Option, Some, None, Result, Ok, Err, OkIff, cond, ◌&&◌, min, leb, position, take_while, fold}
use Rattle.std.specs.Result.{result_ok}
use Rattle.std.specs.List.{prefix_len, starts_with}
use Rattle.std.specs.Char.{is_ascii_digit}
use Rattle.std.proofs.lemmas.List.Folds.{length-prefix_len}
use Rattle.lines.specs.Base.{pick, also}
use Rattle.lines.specs.Line.{span, no_lf, cut_line}
use Rattle.lines.specs.declared.field.Field as code
use Rattle.lines.specs.Field.{Field, field_by_next, More, Last, Bad, is_digit, well_spelt, number_from, number_of, capped, end_by, field_of, opens_with}

span_by : (b : Bool) (m n : ℕ) → m ≤ n → pick b (m + 1) 0 ≤ suc n
span_by true m n h = omega arith
span_by false m n h = omega arith

pub span_le : (p : ℕ → Bool) (s : List ℕ) → span p s ≤ length s
unfolding span
span_le p [] = omega arith
span_le p (b ∷ s) = span_by (p b) (span p s) (length s) (span_le p s)

-- ---- std's words for these definitions

if_pick : {A : Type 0} (t : Bool) (a b : A) → cond t a b ≡ pick t a b
if_pick true a b = refl
if_pick false a b = refl

prefix_by : (t : Bool) (m n : ℕ) → m ≡ n → cond t (1 + m) 0 ≡ pick t (n + 1) 0
prefix_by true m n e = omega arith
prefix_by false m n e = refl

-- what `take_while` and `position` pass
pub prefix_span : (p : ℕ → Bool) (s : List ℕ) → prefix_len p s ≡ span p s
unfolding span
prefix_span p [] = refl
prefix_span p (b ∷ s) = prefix_by (p b) (prefix_len p s) (span p s) (prefix_span p s)

pub position_cut : (s : List ℕ) → position (λ b. eqb b 10) s ≡ cut_line s
unfolding cut_line no_lf
position_cut s =
    let e : prefix_len no_lf s ≡ span no_lf s = prefix_span no_lf s in
    rw e (if_pick (ltb (span no_lf s) (length s)) (Some (span no_lf s)) None)

digit_by : (t u : Bool) (b : ℕ) → ltb b 48 ≡ t → leb b 57 ≡ u → is_ascii_digit b ≡ is_digit b
unfolding is_digit
digit_by true u b e f = rw e (let h : b < 48 = ltb-true b 48 e in rw (lt-leb 48 b h))
digit_by false u b e f = let h : 48 ≤ b = ltb-false b 48 e in rw (e, le-leb 48 b h)

pub ascii_digit : (b : ℕ) → is_ascii_digit b ≡ is_digit b
ascii_digit b = digit_by (ltb b 48) (leb b 57) b refl refl

pub digits_span : (s : List ℕ) → length (take_while is_ascii_digit s) ≡ span is_digit s
digits_span s = length-prefix_len is_ascii_digit s ∙ same s ∙ prefix_span is_digit s where
  same : (s : List ℕ) → prefix_len is_ascii_digit s ≡ prefix_len is_digit s
  same [] = refl
  same (b ∷ s) = rw (ascii_digit b, same s)

-- numbers with a cap
pub cap_over : (n : ℕ) → 4294967295 < n → capped n ≡ 4294967296
unfolding capped
cap_over n h = rw (lt-ltb _ _ h)

pub cap_under : (n : ℕ) → n ≤ 4294967295 → capped n ≡ n
unfolding capped
cap_under n h = rw (le-ltb _ _ h)

-- the digits one by one
pub capped_min : (n : ℕ) → capped n ≡ min n 4294967296
capped_min n = by (ltb 4294967295 n) refl where
  by : (t : Bool) → ltb 4294967295 n ≡ t → capped n ≡ min n 4294967296
  by true e = let h : 4294967295 < n = ltb-true _ _ e in omega (arith, cap_over n h)
  by false e = let h : n ≤ 4294967295 = ltb-false _ _ e in omega (arith, cap_under n h)

longer_cap : (v k : ℕ) → capped (capped v * 10 + k) ≡ capped (v * 10 + k)
longer_cap v k = omega (arith, capped_min v, capped_min (v * 10 + k), capped_min (capped v * 10 + k))

pub value_fold : (v : ℕ) (ds : List ℕ) → fold (λ n d. capped (n * 10 + (d - 48))) (capped v) ds ≡ capped (number_from v ds)
unfolding number_from
value_fold v [] = refl
value_fold v (d ∷ ds) = rw (longer_cap v (d - 48)) (value_fold (v * 10 + (d - 48)) ds)

-- a number of 32 bits, or none
pub fits_some : {E : Type 0} (r : Result ℕ E) (n v : ℕ) → OkIff r (capped n < 4294967296) (capped n) → Some v ≡ result_ok r → v ≡ n
fits_some (Ok x) n v h e = let q : v ≡ x = cc in let f : x ≡ capped n = h.1 in let g : capped n < 4294967296 = h.0 in omega (arith, capped_min n)
fits_some (Err d) n v h e = absurd (let z : ◌≡◌ {A = ℕ} 0 1 = cc in omega arith)

pub fits_none : {E : Type 0} (r : Result ℕ E) (n : ℕ) → OkIff r (capped n < 4294967296) (capped n) → None ≡ result_ok r → 4294967295 < n
fits_none (Ok x) n h e = absurd (let z : ◌≡◌ {A = ℕ} 0 1 = cc in omega arith)
fits_none (Err d) n h e = let g : capped n < 4294967296 → ⊥ = h in omega (arith, capped_min n)

-- how a decimal is spelt, what a line opens with, by the bytes of a list
pub spelt_none : (ds : List ℕ) → length ds ≡ 0 → well_spelt ds ≡ false
unfolding well_spelt
spelt_none [] e = refl
spelt_none (d ∷ ds) e = absurd (omega arith)

pub spelt_one : (ds : List ℕ) → length ds ≡ 1 → well_spelt ds ≡ true
unfolding well_spelt
spelt_one [] e = absurd (omega arith)
spelt_one (d ∷ []) e = refl
spelt_one (d ∷ x ∷ ds) e = absurd (omega arith)

pub spelt_more : (ds : List ℕ) → 2 ≤ length ds → well_spelt ds ≡ not (eqb (get_or ds 0 0) 48)
unfolding well_spelt
spelt_more [] h = absurd (omega arith)
spelt_more (d ∷ []) h = absurd (omega arith)
spelt_more (d ∷ x ∷ ds) h = refl

same_order : (a b : ℕ) → eqb a b ≡ eqb b a
same_order a b = by (eqb a b) refl where
  by : (t : Bool) → eqb a b ≡ t → t ≡ eqb b a
  by true e = sym (eq-eqb b a (sym (eqb-true a b e)))
  by false e = sym (ne_eqb b a (λ q. eqb-false a b e (sym q)))

pub starts_opens : (s : List ℕ) (c : ℕ) → starts_with eqb s (c ∷ 9 ∷ []) ≡ opens_with s c
unfolding opens_with
starts_opens [] c = refl
starts_opens (b ∷ []) c = by (eqb c b) where
  by : (t : Bool) → t && false ≡ false
  by true = refl
  by false = refl
starts_opens (b ∷ t ∷ s) c = rw (same_order c b, same_order 9 t) (by (eqb b c) (eqb t 9)) where
  by : (u v : Bool) → u && (v && true) ≡ also u v
  by true true = refl
  by true false = refl
  by false v = refl

-- the number in a field keeps to the limit
abbrev pub value_in : Field → ℕ
value_in (More v n) = v
value_in (Last v) = v
value_in Bad = 0

end_le : (v n : ℕ) (s : List ℕ) (most : ℕ) → v ≤ most → value_in (end_by v n s) ≤ most
end_le v n [] most h = h
end_le v n (b ∷ s) most h = tab_le (eqb b 9) h where
  tab_le : (t : Bool) → v ≤ most → value_in (pick t (More v (n + 1)) Bad) ≤ most
  tab_le true k = k
  tab_le false k = omega arith

field_by_lem : (a b : Bool) (v n : ℕ) (s : List ℕ) (most : ℕ) → ltb most v ≡ b → value_in (pick a (pick b Bad (end_by v n s)) Bad) ≤ most
field_by_lem true true v n s most e = omega arith
field_by_lem true false v n s most e = end_le v n s most (ltb-false _ _ e)
field_by_lem false b v n s most e = omega arith

pub field_le : (s : List ℕ) (most : ℕ) → value_in (field_of s most) ≤ most
unfolding field_of
field_le s most = field_by_lem (well_spelt (take (span is_digit s) s)) (ltb most (number_of (take (span is_digit s) s))) (number_of (take (span is_digit s) s)) (span is_digit s) (drop (span is_digit s) s) most refl

-- the same of what a reader answers
pub read_le : (f : code.Field) (s : List ℕ) (most : ℕ) → field_by_next f.next f.number ≡ field_of s most → f.number ≤ most
read_le f s most e = let q : value_in (field_of s most) ≡ f.number = rw e at (by f.next f.number) in omega (arith, field_le s most) where
  by : (o : Option ℕ) (v : ℕ) → value_in (field_by_next o v) ≡ v
  by (Some n) v = refl
  by None v = refl
