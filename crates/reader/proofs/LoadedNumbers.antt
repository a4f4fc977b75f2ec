-- The numbers of a line: each is at most 65,535, and past them stands 0.
use Prim.Native.Nat.{ℕ, zero, suc, ◌+◌, ◌<◌, ◌≤◌}
use mathlib.Core.Path.{◌≡◌, refl, ap, ◌∙◌}
use mathlib.Core.Bool.{Bool, true, false}
use mathlib.Core.List.{List, [], ◌∷◌}
use native.Mathlib.Omega.{arith}
use lib.ListN.{length, get_or, set, replicate, take, drop, length-set, length-replicate}
use lib.Seq.{get_or-set_same, get_or-set_other}
use lib.Dec.{ltb, eqb}
use borrow.Author.Tests.{ltb-true, ltb-false, eqb-true, eqb-false}
use Rattle.terms.specs.Base.{pick}
use Rattle.lines.specs.Base.{byte_at}
use Rattle.lines.specs.Line.{span}
use Rattle.lines.specs.Field.{Field, More, Last, Bad, is_digit, well_spelt, number_of, end_by, field_by, field_of}
use Rattle.reader.specs.Numbers.{fields, no_fields, bad_fields, fields_with, fields_by, fields_in, fields_of, num}
use Rattle.reader.specs.Numbers.{Fields}
use Rattle.reader.proofs.LoadedLists.{zero_at}

pub record Numbers (f : Fields) : Type 0 where
  pub wide : length f.values ≡ 7
  pub small : (i : ℕ) → num f i < 65536
  pub past : (i : ℕ) → f.count ≤ i → num f i ≡ 0

-- a field's number, where it has one
data Small : Field → Type 0 where
  more : {v n : ℕ} → v < 65536 → Small (More v n)
  last : {v : ℕ} → v < 65536 → Small (Last v)
  bad : Small Bad

field_end : (v n : ℕ) (s : List ℕ) → v < 65536 → Small (end_by v n s)
field_end v n [] h = last h
field_end v n (b ∷ s) h = by (eqb b 9)
  where
    by : (t : Bool) → Small (pick t (More v (n + 1)) Bad)
    by true = more h
    by false = bad

field_by_lem : (n : ℕ) (s : List ℕ) → Small (field_by n s 65535)
field_by_lem n s = by (well_spelt (take n s)) (ltb 65535 (number_of (take n s))) refl
  where
    by : (t u : Bool) → ltb 65535 (number_of (take n s)) ≡ u → Small (pick t (pick u Bad (end_by (number_of (take n s)) n (drop n s))) Bad)
    by true true e = bad
    by true false e = field_end (number_of (take n s)) n (drop n s) (omega (arith, ltb-false 65535 (number_of (take n s)) e))
    by false u e = bad

field_small : (s : List ℕ) → Small (field_of s 65535)
unfolding field_of
field_small s = field_by_lem (span is_digit s) s

-- seven zeros
zeros : (good : Bool) → Numbers (fields good 0 (replicate 7 0))
zeros good = record {
  wide = length-replicate {A = ℕ} 7 0;
  small = λ i. omega (arith, zero_at 7 i);
  past = λ i h. zero_at 7 i;
}

bad_numbers : Numbers bad_fields
unfolding bad_fields
bad_numbers = zeros false

no_numbers : Numbers no_fields
unfolding no_fields
no_numbers = zeros true

-- one more, below the seventh
set_small : (l : List ℕ) (n v : ℕ) → n < length l → v < 65536 → ((i : ℕ) → get_or l i 0 < 65536) → (i : ℕ) → get_or (set l n v) i 0 < 65536
set_small l n v h s f i = by (eqb i n) refl
  where
    by : (t : Bool) → eqb i n ≡ t → get_or (set l n v) i 0 < 65536
    by true e =
        let q : i ≡ n = eqb-true i n e in
        let r : get_or (set l n v) i 0 ≡ v = ap (λ (j : ℕ). get_or (set l n v) j 0) q ∙ get_or-set_same l n v 0 h in
        omega (arith, r, s)
    by false e = let r = get_or-set_other l n i v 0 (eqb-false i n e) in omega (arith, r, f i)

with_numbers : (f : Fields) (v : ℕ) → v < 65536 → Numbers f → Numbers (fields_with f v)
unfolding fields_with
with_numbers f v h F = by (ltb f.count 7) refl
  where
    by : (t : Bool) → ltb f.count 7 ≡ t → Numbers (pick t (fields true (f.count + 1) (set f.values f.count v)) bad_fields)
    by true e =
        let b = ltb-true f.count 7 e in
        record {
          wide = length-set f.values f.count v ∙ F.wide;
          small = set_small f.values f.count v (omega (arith, F.wide, b)) h F.small;
          past = λ i g. get_or-set_other f.values f.count i v 0 (omega arith) ∙ F.past i (omega arith);
        }
    by false e = bad_numbers

by_numbers : (s : List ℕ) (got : Fields) (further : List ℕ → Fields → Fields) → ((t : List ℕ) (g : Fields) → Numbers g → Numbers (further t g))
    → (f : Field) → Small f → Numbers got → Numbers (fields_by f s got further)
by_numbers s got further ih (More v n) (more h) G = ih (drop n s) (fields_with got v) (with_numbers got v h G)
by_numbers s got further ih (Last v) (last h) G = with_numbers got v h G
by_numbers s got further ih Bad bad G = bad_numbers

in_numbers : (n : ℕ) (s : List ℕ) (got : Fields) → Numbers got → Numbers (fields_in n s got)
unfolding fields_in
in_numbers zero s got G = bad_numbers
in_numbers (suc n) s got G = by_numbers s got (λ t g. fields_in n t g) (λ t g. in_numbers n t g) (field_of s 65535) (field_small s) G

pub line_numbers : (line : List ℕ) → Numbers (fields_of line)
unfolding fields_of
line_numbers line = by (eqb (byte_at line 1) 9)
  where
    by : (t : Bool) → Numbers (pick t (fields_in 7 (drop 2 line) no_fields) bad_fields)
    by true = in_numbers 7 (drop 2 line) no_fields no_numbers
    by false = bad_numbers
