-- The real codes as a rising list, and state's three numbers of a code read off it: how many codes stand below a number, which
-- code stands there, which comes after.
use Prim.Native.Nat.{ℕ, zero, suc, ◌+◌, ◌-◌, ◌<◌, ◌≤◌}
use mathlib.Core.Bool.{Bool, true, false, not}
use mathlib.Core.List.{List, [], ◌∷◌, ◌++◌, Memᴰ}
use mathlib.Core.Path.{◌≡◌, refl, sym, ap, ◌∙◌}
use native.Mathlib.Omega.{arith}
use lib.ListN.{length, drop, length-append, length-drop, drop_of_length-le}
use lib.Dec.{eqb, ltb}
use borrow.Author.Tests.{eqb-true, eqb-false, ltb-true, ltb-false, ne_eqb, lt-ltb}
use Rattle.terms.specs.Base.{pick, also}
use Rattle.model.specs.Fields.{either}
use Rattle.model.specs.declared.records.Model.{Model}
use Rattle.model.proofs.Tests.{both_pass}
use Rattle.state.specs.Control.{up_from}
use Rattle.state.specs.Code.{is_code, codes_below, code_from, code_after}
use Rattle.state.specs.Early.{sight_of}
use Rattle.state.proofs.Codes.{code_over, below_from, below_after, below_over, after_over, one_iff}
use Rattle.rules.specs.Step.{step_on}
use Rattle.walk.specs.Base.{All, among}
use Rattle.walk.specs.Order.{Sorted}
use Rattle.walk.specs.Machine.{Coded}
use Rattle.walk.specs.Place.{from}
use Rattle.walk.proofs.Lists.{all_append, all_imp, all_at, sorted_append}
use Rattle.walk.proofs.Codes.{among_mem, mem_among, from_past, from_at}
use Rattle.tries.specs.Labels.{real_codes, try_code, labels}

-- a test of the numbers below n, and what it tells of each
all_below : ℕ → (ℕ → Bool) → Bool
all_below zero p = true
all_below (suc n) p = also (p n) (all_below n p)

all_below_lem : (n : ℕ) (p : ℕ → Bool) → all_below n p ≡ true → (k : ℕ) → k < n → p k ≡ true
unfolding all_below
all_below_lem zero p e k h = absurd (omega arith)
all_below_lem (suc n) p e k h = go (eqb k n) refl (all_below_lem n p (both_pass (p n) (all_below n p) e).1 k)
  where
    go : (b : Bool) → eqb k n ≡ b → (k < n → p k ≡ true) → p k ≡ true
    go true f ih = rw (eqb-true k n f) (both_pass (p n) (all_below n p) e).0
    go false f ih = let ne : k ≡ n → ⊥ = eqb-false k n f in ih (omega arith)

-- numbers in a row rise
up_above : (j n i : ℕ) → j < i → All (λ x. j < x) (up_from (λ x. x) n i)
unfolding up_from
up_above j zero i h = tt
up_above j (suc n) i h = (h, up_above j n (i + 1) (omega arith))

up_below : (j n i : ℕ) → i + n ≤ j → All (λ x. x < j) (up_from (λ x. x) n i)
unfolding up_from
up_below j zero i h = tt
up_below j (suc n) i h = (omega arith, up_below j n (i + 1) (omega arith))

up_rises : (n i : ℕ) → Sorted ◌<◌ (up_from (λ x. x) n i)
unfolding up_from
up_rises zero i = tt
up_rises (suc n) i = (up_above i n (i + 1) (omega arith), up_rises n (i + 1))

up_cross : (n i m j : ℕ) → i + n ≤ j → All (λ x. All (λ y. x < y) (up_from (λ y. y) m j)) (up_from (λ x. x) n i)
unfolding up_from
up_cross zero i m j h = tt
up_cross (suc n) i m j h = (up_above i m j (omega arith), up_cross n (i + 1) m j (omega arith))

codes_rise : Sorted ◌<◌ real_codes
unfolding real_codes
codes_rise = sorted_append ◌<◌ (up_from (λ x. x) 12 0) (up_from (λ x. x) 148 16) (up_rises 12 0) (up_rises 148 16) (up_cross 12 0 148 16 (omega arith))

codes_below_lem : All (λ k. k < 164) real_codes
unfolding real_codes
codes_below_lem = all_append (λ k. k < 164) (up_from (λ x. x) 12 0) (up_from (λ x. x) 148 16) (up_below 164 12 0 (omega arith)) (up_below 164 148 16 (omega arith))

-- one test of all numbers up to 164: a code is one of the list, and as many are below a number as state's definition says
same_bool : Bool → Bool → Bool
same_bool true b = b
same_bool false b = not b

same_bool_lem : (a b : Bool) → same_bool a b ≡ true → a ≡ b
unfolding same_bool
same_bool_lem true true e = refl
same_bool_lem true false e = sym e
same_bool_lem false true e = e
same_bool_lem false false e = refl

below_in : ℕ → List ℕ → ℕ
below_in k [] = 0
below_in k (x ∷ xs) = pick (ltb x k) (suc (below_in k xs)) 0

-- a code, or 164: none left
abbrev pub is_next : ℕ → Bool
is_next k = either (is_code k) (eqb k 164)

pub none_next : is_next 164 ≡ true
unfolding is_code
none_next = refl

codes_test : ℕ → Bool
codes_test k =
    also (same_bool (is_code k) (among k real_codes))
    (also (eqb (below_in k real_codes) (codes_below k))
    (also (eqb (codes_below (suc k)) (codes_below (code_after k)))
    (also (is_next (code_after k))
    (is_next (code_from k)))))

codes_test_lem : all_below 165 codes_test ≡ true
unfolding all_below codes_test same_bool below_in real_codes up_from is_code codes_below code_from code_after
codes_test_lem = refl

record Tested (k : ℕ) : Type 0 where
  code : is_code k ≡ among k real_codes
  below : below_in k real_codes ≡ codes_below k
  on : codes_below (suc k) ≡ codes_below (code_after k)
  after : is_next (code_after k) ≡ true
  nth : is_next (code_from k) ≡ true

tested : (k : ℕ) → k < 165 → Tested k
unfolding codes_test
tested k h =
    let t = both_pass _ _ (all_below_lem 165 codes_test codes_test_lem k h) in
    let u = both_pass _ _ t.1 in
    let v = both_pass _ _ u.1 in
    let w = both_pass _ _ v.1 in
    record {
      code = same_bool_lem (is_code k) (among k real_codes) t.0;
      below = eqb-true _ _ u.0;
      on = eqb-true _ _ v.0;
      after = w.0;
      nth = w.1;
    }

-- what is past all codes
pub past_codes : (k : ℕ) → 164 ≤ k → from k real_codes ≡ []
past_codes k h = from_past k real_codes (all_imp (λ x. x < 164) (λ x. x < k) (λ x l. omega arith) real_codes codes_below_lem)

is_among : (k : ℕ) → is_code k ≡ true → among k real_codes ≡ true
is_among k e = go (ltb k 164) refl
  where
    go : (b : Bool) → ltb k 164 ≡ b → among k real_codes ≡ true
    go true l = sym (tested k (omega (arith, ltb-true k 164 l))).code ∙ e
    go false l = let z : is_code k ≡ false = code_over k (ltb-false k 164 l) in absurd (let y : ◌≡◌ {A = ℕ} 0 1 = cc in omega arith)

pub code_mem : (k : ℕ) → is_code k ≡ true → Memᴰ k real_codes
code_mem k e = among_mem k real_codes (is_among k e)

pub mem_code : (k : ℕ) → Memᴰ k real_codes → is_code k ≡ true
mem_code k m =
    let l : k < 164 = all_at (λ x. x < 164) m codes_below_lem in
    (tested k (omega arith)).code ∙ mem_among m

pub among_code : (k : ℕ) → among k real_codes ≡ is_code k
among_code k = go (is_code k) refl (among k real_codes) refl
  where
    go : (a : Bool) → is_code k ≡ a → (b : Bool) → among k real_codes ≡ b → b ≡ a
    go true e true f = refl
    go true e false f = sym f ∙ is_among k e
    go false e true f = sym (mem_code k (among_mem k real_codes f)) ∙ e
    go false e false f = refl

-- the codes from a number on are all codes but those below it
from_drop : (k : ℕ) (xs : List ℕ) → from k xs ≡ drop (below_in k xs) xs
unfolding below_in
from_drop k [] = refl
from_drop k (x ∷ xs) = go (ltb x k) (from_drop k xs)
  where
    go : (b : Bool) → from k xs ≡ drop (below_in k xs) xs → pick b (from k xs) (x ∷ xs) ≡ drop (pick b (suc (below_in k xs)) 0) (x ∷ xs)
    go true e = e
    go false e = refl

pub codes_long : length real_codes ≡ 160
unfolding real_codes up_from
codes_long = refl

pub from_below : (k : ℕ) → from k real_codes ≡ drop (codes_below k) real_codes
from_below k = go (ltb k 165) refl
  where
    go : (b : Bool) → ltb k 165 ≡ b → from k real_codes ≡ drop (codes_below k) real_codes
    go true l = from_drop k real_codes ∙ ap (λ (n : ℕ). drop n real_codes) (tested k (ltb-true k 165 l)).below
    go false l =
        let h : 164 ≤ k = omega (arith, ltb-false k 165 l) in
        let l : length real_codes ≤ codes_below k = omega (arith, codes_long, below_over k h) in
        past_codes k h ∙ sym (drop_of_length-le real_codes l)

small_by : (a b d : Bool) (k : ℕ) → ltb k 12 ≡ a → ltb k 164 ≡ d → pick a k (pick b 12 (pick d (k - 4) 160)) ≤ 160
small_by true b d k e f = omega (arith, ltb-true k 12 e)
small_by false true d k e f = omega arith
small_by false false true k e f = omega (arith, ltb-true k 164 f)
small_by false false false k e f = omega arith

pub below_small : (k : ℕ) → codes_below k ≤ 160
unfolding codes_below
below_small k = small_by (ltb k 12) (ltb k 16) (ltb k 164) k refl refl

pub from_long : (k : ℕ) → length (from k real_codes) ≡ 160 - codes_below k
from_long k = rw (from_below k, length-drop (codes_below k) real_codes, codes_long)

below_on : (k : ℕ) → codes_below (suc k) ≡ codes_below (code_after k)
below_on k = go (ltb k 165) refl
  where
    go : (b : Bool) → ltb k 165 ≡ b → codes_below (suc k) ≡ codes_below (code_after k)
    go true l = (tested k (ltb-true k 165 l)).on
    go false l =
        let h : 165 ≤ k = ltb-false k 165 l in
        rw (after_over k (omega arith)) (below_over (suc k) (omega arith) ∙ sym (below_over 164 (omega arith)))

-- the number after a code, and the code after it, name the same codes
pub from_after : (k : ℕ) → from (suc k) real_codes ≡ from (code_after k) real_codes
from_after k = rw (from_below (suc k), from_below (code_after k), below_on k)

-- a code is the first of the codes from it on
pub from_code : (k : ℕ) → is_code k ≡ true → from k real_codes ≡ k ∷ from (suc k) real_codes
from_code k e = from_at codes_rise (code_mem k e)

-- from one number up to another: a piece of the codes, as many as state's numbers say
pub record Piece (c d : ℕ) : Type 0 where
  pub codes : List ℕ
  pub parts : from c real_codes ≡ codes ++ from d real_codes
  pub long : length codes ≡ codes_below d - codes_below c
  pub all : All (λ k. (c ≤ k) × (k < d)) codes

low_part : (d : ℕ) (xs : List ℕ) → (l : List ℕ) × (xs ≡ l ++ from d xs) × All (λ k. k < d) l
low_part d [] = ([], refl, tt)
low_part d (x ∷ xs) = go (ltb x d) refl (low_part d xs)
  where
    go : (b : Bool) → ltb x d ≡ b → ((l : List ℕ) × (xs ≡ l ++ from d xs) × All (λ k. k < d) l) →
        (l : List ℕ) × (x ∷ xs ≡ l ++ pick b (from d xs) (x ∷ xs)) × All (λ k. k < d) l
    go true e r = (x ∷ r.0, ap {B = List ℕ} (λ s. x ∷ s) r.1, (ltb-true x d e, r.2))
    go false e r = ([], refl, tt)

first_part : (P : ℕ → Type 0) (l r : List ℕ) → All P (l ++ r) → All P l
first_part P [] r a = tt
first_part P (x ∷ l) r a = (a.0, first_part P l r a.1)

both_all : (P Q : ℕ → Type 0) (l : List ℕ) → All P l → All Q l → All (λ k. P k × Q k) l
both_all P Q [] a b = tt
both_all P Q (x ∷ l) a b = ((a.0, b.0), both_all P Q l a.1 b.1)

from_least : (c : ℕ) (xs : List ℕ) → Sorted ◌<◌ xs → All (λ k. c ≤ k) (from c xs)
from_least c [] s = tt
from_least c (x ∷ xs) s = go (ltb x c) refl (from_least c xs s.1)
  where
    go : (b : Bool) → ltb x c ≡ b → All (λ k. c ≤ k) (from c xs) → All (λ k. c ≤ k) (pick b (from c xs) (x ∷ xs))
    go true e r = r
    go false e r =
        let h : c ≤ x = ltb-false x c e in
        (h, all_imp (λ k. x < k) (λ k. c ≤ k) (λ k l. omega arith) xs s.0)

from_from : (c d : ℕ) (xs : List ℕ) → c ≤ d → from d (from c xs) ≡ from d xs
from_from c d [] h = refl
from_from c d (x ∷ xs) h = go (ltb x c) refl (from_from c d xs h)
  where
    go : (b : Bool) → ltb x c ≡ b → from d (from c xs) ≡ from d xs → from d (pick b (from c xs) (x ∷ xs)) ≡ from d (x ∷ xs)
    go true e r = let l : x < c = ltb-true x c e in rw (lt-ltb x d (omega arith)) r
    go false e r = refl

pub piece : (c d : ℕ) → c ≤ d → Piece c d
piece c d h =
    let r : (l : List ℕ) × (from c real_codes ≡ l ++ from d (from c real_codes)) × All (λ k. k < d) l = low_part d (from c real_codes) in
    let e : from c real_codes ≡ r.0 ++ from d real_codes = r.1 ∙ ap (λ (s : List ℕ). r.0 ++ s) (from_from c d real_codes h) in
    let n : length (from c real_codes) ≡ length r.0 + length (from d real_codes) = ap length e ∙ length-append r.0 (from d real_codes) in
    let a : All (λ k. c ≤ k) r.0 = first_part (λ k. c ≤ k) r.0 (from d real_codes) (rw e at (from_least c real_codes codes_rise)) in
    record {
      codes = r.0;
      parts = e;
      long = omega (arith, n, from_long c, from_long d, below_small c, below_small d);
      all = both_all (λ k. c ≤ k) (λ k. k < d) r.0 a r.2;
    }

-- order by how many stand below
pub below_rises : (c d : ℕ) → c ≤ d → codes_below c ≤ codes_below d
below_rises c d h =
    let p : Piece c d = piece c d h in
    let n : length (from c real_codes) ≡ length p.codes + length (from d real_codes) = ap length p.parts ∙ length-append p.codes (from d real_codes) in
    omega (arith, n, from_long c, from_long d, below_small c, below_small d)

pub code_below : (c : ℕ) → is_code c ≡ true → codes_below c < 160
code_below c e = omega (arith, below_after c e, below_small (code_after c))

pub below_orders : (c d : ℕ) → is_code d ≡ true → codes_below c ≤ codes_below d → c ≤ d
below_orders c d e h = go (ltb d c) refl
  where
    go : (b : Bool) → ltb d c ≡ b → c ≤ d
    go true l =
        let u : codes_below (suc d) ≤ codes_below c = below_rises (suc d) c (ltb-true d c l) in
        absurd (omega (arith, below_after d e, below_on d))
    go false l = ltb-false d c l

next_code_lem : (k : ℕ) → is_next k ≡ true → (k ≡ 164 → ⊥) → is_code k ≡ true
next_code_lem k e f = go (is_code k) refl (rw (ne_eqb k 164 f) at e)
  where
    go : (b : Bool) → is_code k ≡ b → either b false ≡ true → b ≡ true
    go true p q = refl
    go false p q = q

-- the number given is a code, or 164
pub next_low : (k : ℕ) → is_next k ≡ true → k < 164 → is_code k ≡ true
next_low k e h = next_code_lem k e (λ q. omega arith)

pub next_high : (k : ℕ) → is_next k ≡ true → 164 ≤ k → k ≡ 164
next_high k e h = eqb-true k 164 (rw (code_over k h) at e)

pub code_low : (k : ℕ) → is_code k ≡ true → k < 164
code_low k e = all_at (λ x. x < 164) (code_mem k e) codes_below_lem

pub code_next : (k : ℕ) → is_code k ≡ true → is_next k ≡ true
code_next k e = rw e

pub after_next : (k : ℕ) → is_next (code_after k) ≡ true
after_next k = go (ltb k 165) refl
  where
    go : (b : Bool) → ltb k 165 ≡ b → is_next (code_after k) ≡ true
    go true l = (tested k (ltb-true k 165 l)).after
    go false l = let h : 165 ≤ k = ltb-false k 165 l in rw (after_over k (omega arith)) none_next

pub nth_code : (n : ℕ) → n < 160 → is_code (code_from n) ≡ true
nth_code n h =
    next_code_lem (code_from n) (tested n (omega arith)).nth
    (λ e. let b : codes_below (code_from n) ≡ 160 = rw e (below_over 164 (omega arith)) in omega (arith, below_from n (omega arith)))

-- The machine's codes

-- what is not among the codes is none
pub not_code_lem : (k : ℕ) → ¬ Memᴰ k real_codes → is_code k ≡ false
not_code_lem k f = go (is_code k) refl
  where
    go : (b : Bool) → is_code k ≡ b → b ≡ false
    go true e = absurd (f (code_mem k e))
    go false e = refl

pub labels_coded : (m : Model) → Coded (labels m)
unfolding try_code step_on
labels_coded m = record {
  rise = codes_rise;
  below = codes_below_lem;
  only = λ c k f. rw ((one_iff (sight_of c.control.frame m.actions m.locations m.machine_count) k).1 (not_code_lem k f));
}
