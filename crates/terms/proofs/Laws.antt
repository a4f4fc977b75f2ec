-- The laws that the proofs of the functions share: what a test tells a definition, one turn of each loop, one step
-- down of each recursion.
use Prim.Native.Nat.{ℕ, zero, suc, ◌+◌, ◌-◌, ◌<◌, ◌≤◌, min, max}
use mathlib.Core.Bool.{Bool, true, false, ◌&&◌}
use mathlib.Core.List.{List, [], ◌∷◌}
use mathlib.Core.Path.{◌≡◌, refl, ap, ◌∙◌, subst}
use native.Mathlib.Numerals.{add-one, sub-one}
use native.Mathlib.Nat.{sub-add-eq, sub-eq-zero_of_le}
use native.Mathlib.Omega.{arith}
use lib.ListN.{length, get_or, take, drop, set, length-take, drop_of_length-le}
use lib.Seq.{drop-cons, get_or-take}
use lib.Dec.{ltb, eqb}
use borrow.Author.Tests.{ltb-true, ltb-false, eqb-true, eqb-false, le-leb, lt-leb, lt-ltb, le-ltb, eq-eqb, ne_eqb}
use mir.Val.{bool_byte}
use Rattle.terms.specs.Line.{bit_of}
use Rattle.std.specs.Prelude.{Option, Some, None, is_some, not}
use Rattle.std.specs.List.{list_all}
use Rattle.terms.proofs.Chains.{and_also}
use Rattle.terms.specs.Base.{pick, larger_of, filled, held}
use Rattle.terms.specs.Table.{used_of, free_of, find_in}
use Rattle.terms.specs.Subbed.{Deep, subbed}
use Rattle.terms.specs.Subst.{plan_at, fits_by, fits_within, walk_by, subst_in}
use Rattle.terms.specs.Sound.{is_new, all_zero}

-- a test on numbers, as the branch tells it
pub ruleset tests = (le-leb, lt-leb, lt-ltb, le-ltb, eq-eqb, ne_eqb)

-- a mark as a number, as `From` gives it
pub bit_is : (b : Bool) → bool_byte b ≡ bit_of b
bit_is true = refl
bit_is false = refl

-- the larger of two, as std says it
larger_by : (t : Bool) (m n : ℕ) → ltb m n ≡ t → max m n ≡ pick t n m
larger_by true m n e = omega (arith, ltb-true m n e)
larger_by false m n e = omega (arith, ltb-false m n e)

pub larger_max : (m n : ℕ) → max m n ≡ larger_of m n
unfolding larger_of
larger_max m n = larger_by (ltb m n) m n refl

-- below n, or n itself
pub below_or : (P : ℕ → Type 0) (n : ℕ) → ((i : ℕ) → i < n → P i) → P n → (i : ℕ) → i < n + 1 → P i
below_or P n f q i h = by (ltb i n) refl
  where
    by : (t : Bool) → ltb i n ≡ t → P i
    by true e = f i (ltb-true i n e)
    by false e = let g = ltb-false i n e in let r : n ≡ i = omega arith in subst P r q

free_by : (b : Bool) (c : ℕ) → ltb c 512 ≡ b → pick b (512 - c) 0 ≡ 512 - c
free_by true c e = refl
free_by false c e = omega (arith, ltb-false c 512 e)

-- the free entries, for any count
pub free_is : (c : ℕ) → free_of c ≡ 512 - c
unfolding free_of
free_is c = free_by (ltb c 512) c refl

-- no entry is free, and some entry is
pub free_none : (c : ℕ) → eqb (free_of c) 0 ≡ true → 512 ≤ c
free_none c e = omega (arith, free_is c, eqb-true (free_of c) 0 e)

pub free_some : (c : ℕ) → eqb (free_of c) 0 ≡ false → c < 512
free_some c e = some (rw free_is at (eqb-false (free_of c) 0 e))
  where
    some : (512 - c ≡ 0 → ⊥) → c < 512
    some h = omega arith

-- the lines that a count takes of a table
used_by : (b : Bool) (c n : ℕ) → ltb c 512 ≡ b → n ≡ 512 → min c n ≡ pick b c 512
used_by true c n e h = omega (arith, ltb-true c 512 e)
used_by false c n e h = omega (arith, ltb-false c 512 e)

pub used_long : (l : List ℕ) (c : ℕ) → length l ≡ 512 → length (take c l) ≡ used_of c
unfolding used_of
used_long l c h = rw length-take (used_by (ltb c 512) c (length l) refl h)

pub used_min : (c : ℕ) → min c 512 ≡ used_of c
unfolding used_of
used_min c = used_by (ltb c 512) c 512 refl refl

-- find: one line
module _ (l : List ℕ) (c n i : ℕ) where
  taken_at : i < length (take c l) → get_or (take c l) i 0 ≡ get_or l i 0
  taken_at h = get_or-take c l i 0 (omega (arith, length-take c l))

  pub find_hit : i < length (take c l) → get_or l i 0 ≡ n → find_in i (drop i (take c l)) n ≡ Some i
  unfolding find_in
  find_hit h e = rw (drop-cons (take c l) i 0 h, taken_at h, eq-eqb _ _ e)

  pub find_miss : i < length (take c l) → (get_or l i 0 ≡ n → ⊥) → find_in i (drop i (take c l)) n ≡ find_in (i + 1) (drop (i + 1) (take c l)) n
  unfolding find_in
  find_miss h e = rw (drop-cons (take c l) i 0 h, taken_at h, ne_eqb _ _ e, add-one)

  pub find_end : length (take c l) ≤ i → find_in i (drop i (take c l)) n ≡ None
  unfolding find_in
  find_end h = rw (drop_of_length-le (take c l) h)

-- one value stored from a place on, in a list of any type: one element
module _ {A : Type 0} (v : A) where
  fill_step : (k i : ℕ) (l : List A) → 0 < k → filled v k i l ≡ filled v (k - 1) (i + 1) (set l i v)
  unfolding filled
  fill_step zero i l h = absurd (omega arith)
  fill_step (suc k) i l h = rw sub-one

  pub fill_more : (n i : ℕ) (l : List A) → i < n → filled v (n - i) i l ≡ filled v (n - (i + 1)) (i + 1) (set l i v)
  fill_more n i l h = rw (sub-add-eq, fill_step (n - i) i l (omega arith))

  pub fill_end : (n i : ℕ) (l : List A) → n ≤ i → filled v (n - i) i l ≡ l
  unfolding filled
  fill_end n i l h = rw sub-eq-zero_of_le

-- soundness: the lines past the terms, as a chain of std goes over them, and a line that was not found
pub zero_list : (l : List ℕ) → list_all (λ n. eqb n 0) l ≡ all_zero l
unfolding all_zero
zero_list [] = refl
zero_list (n ∷ ns) = ap (λ r. eqb n 0 && r) (zero_list ns) ∙ and_also (eqb n 0) (all_zero ns)

pub new_is : (f : Option ℕ) (r : Bool) → is_some f ≡ not r → r ≡ is_new f
new_is None true e = refl
new_is None false e = e
new_is (Some i) true e = e
new_is (Some i) false e = refl

-- one step down a term, with room for it and without
pub fits_zero : (d : ℕ) (l vs : List ℕ) (o i : ℕ) → d ≡ 0 → fits_within d l vs o i ≡ false
unfolding fits_within
fits_zero d l vs o i e = rw e

pub fits_step : (d : ℕ) (l vs : List ℕ) (o i : ℕ) → (d ≡ 0 → ⊥) → fits_within d l vs o i ≡ fits_by (plan_at l vs o i) l d (λ j. fits_within (d - 1) l vs o j)
unfolding fits_within
fits_step zero l vs o i f = absurd (f refl)
fits_step (suc d) l vs o i f = rw sub-one

pub subst_zero : (d : ℕ) (l : List ℕ) (c : ℕ) (vs : List ℕ) (o i : ℕ) → d ≡ 0 → subst_in d l c vs o i ≡ held (subbed Deep c) l
unfolding subst_in
subst_zero d l c vs o i e = rw e

pub subst_step : (d : ℕ) (l : List ℕ) (c : ℕ) (vs : List ℕ) (o i : ℕ) → (d ≡ 0 → ⊥)
    → subst_in d l c vs o i ≡ walk_by (plan_at l vs o i) (λ m e j. subst_in (d - 1) m e vs o j) l c i
unfolding subst_in
subst_step zero l c vs o i f = absurd (f refl)
subst_step (suc d) l c vs o i f = rw sub-one
