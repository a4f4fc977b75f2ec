-- What std's `any`, `find` and `fold` over the numbers from 0 on come to, in the words of this crate's definitions. Each
-- takes what the call ensures of its run, and that the closure computes the test or the step.
use Rattle.std.proofs.Common.{ℕ, zero, suc, ◌+◌, Bool, true, false, ◌||◌, List, [], ◌∷◌, Iter, Option, Some, None, ◌≡◌, refl, sym, ap, ◌∙◌, arith}
use mathlib.Core.Bool.{cond}
use native.Mathlib.Nat.{sub-zero}
use denote.Param.Members.{Mut}
use denote.Ref.{Bor}
use lib.Dec.{eqb}
use borrow.Author.Tests.{eq-eqb, ne_eqb}
use Rattle.std.specs.Bool.{⊤}
use Rattle.std.specs.Fn.{Called, CalledAt}
use Rattle.std.specs.Iterator.{YieldsThen, Drains}
use Rattle.std.specs.List.{FoldsTo, list_any, find, fold, range_with_len}
use Rattle.std.specs.Option.{MatchOption, is_some, option_map}
use Rattle.std.specs.declared.ops.Range.{Range}
use Rattle.std.proofs.iter.Yields.{nat_range_steps, fronts}
use native.Mathlib.Numerals.{add-one}
use lib.ListN.{length, get_or}
use Rattle.std.specs.Slice.Iter.{iter_rest}
use Rattle.std.proofs.lemmas.Iterator.{YieldsList-from_range, YieldsList-from_slice}
use Rattle.std.proofs.lemmas.Iterator.Consumers.{fold_from_yields_List}
use Rattle.std.proofs.lemmas.Iterator.Search.{any_from_yields_List, find_from_yields_List}
use Rattle.terms.specs.Base.{pick}
use Rattle.model.specs.Fields.{either}
use Rattle.model.specs.First.{first_from}
use Rattle.model.specs.declared.records.Claim.{Claim}
use Rattle.machine.specs.Judge.{any_from, follow_at, follow_from}

abbrev pub upto : ℕ → Range ℕ
upto n = record { start = 0; end = n }

-- the test holds of one of the numbers
any_by : (b : Bool) {p q : Bool} → p ≡ q → b || p ≡ either b q
any_by true e = refl
any_by false e = e

any_of : (n i : ℕ) (p : ℕ → Bool) → list_any p (range_with_len i n) ≡ any_from n i p
unfolding any_from
any_of zero i p = refl
any_of (suc n) i p = any_by (p i) (any_of n (i + 1) p)

pub any_below : {F : Type 0} {g : Mut F (ℕ × Unit {0}) Bool} (n : ℕ) (p : ℕ → Bool) (u : Range ℕ) (f : F) (r : Bool)
    → (xs : List ℕ) × (o : Option ℕ) × (j : F) × YieldsThen nat_range_steps (upto n) xs o u × FoldsTo (λ p x q. Called g p (x, tt) false q) f xs j × MatchOption o (r ≡ false) (λ x. (r ≡ true) × ((h : F) × Called g j (x, tt) true h))
    → ((x : ℕ) (b : Bool) (q : F) → Called g f (x, tt) b q → (q ≡ f) × (b ≡ p x))
    → r ≡ any_from n 0 p
any_below n p u f r ran call =
    any_from_yields_List p u f r ran (YieldsList-from_range 0 n n refl (sub-zero n)) call ∙ any_of n 0 p

-- the first number that passes the test
first_by : (b : Bool) (i n k : ℕ) → (i ≡ n → ⊥) → cond b (Some i) (pick (eqb k n) None (Some k)) ≡ pick (eqb (pick b i k) n) None (Some (pick b i k))
first_by true i n k other = rw (ne_eqb i n other)
first_by false i n k other = refl

first_of : (n i t : ℕ) (p : ℕ → Bool) → i + n ≡ t → find p (range_with_len i n) ≡ pick (eqb (first_from n i p) t) None (Some (first_from n i p))
unfolding first_from
first_of zero i t p e = rw (eq-eqb i t (omega (arith, e)))
first_of (suc n) i t p e = rw (first_of n (i + 1) t p (omega (arith, e))) (first_by (p i) i t (first_from n (i + 1) p) (λ h. absurd (omega (arith, e, h))))

none_of : (r : Option ℕ) → option_map (λ (x : ℕ). x) r ≡ r
none_of None = refl
none_of (Some x) = refl

pub found_below : {F : Type 0} {g : Mut F (Bor ℕ × Unit {0}) Bool} (n : ℕ) (p : ℕ → Bool) (u : Range ℕ) (f : F) (r : Option ℕ)
    → (xs : List ℕ) × (j : F) × YieldsThen nat_range_steps (upto n) xs r u × FoldsTo (λ p x q. CalledAt g p x false q) f xs j × MatchOption r ⊤ (λ x. (h : F) × CalledAt g j x true h)
    → ((x : ℕ) (b : Bool) (q : F) → CalledAt g f x b q → (q ≡ f) × (b ≡ p x))
    → r ≡ pick (eqb (first_from n 0 p) n) None (Some (first_from n 0 p))
found_below n p u f r ran call =
    sym (none_of r) ∙ find_from_yields_List p u f r ran (YieldsList-from_range 0 n n refl (sub-zero n)) call ∙ first_of n 0 n p (omega arith)

-- there is one, or none
some_none : {k : ℕ} → ◌≡◌ {A = Option ℕ} (Some k) None → ⊥
some_none e = no (ap is_some e)
  where
    no : true ≡ false → ⊥
    no e = let z : ◌≡◌ {A = ℕ} 0 1 = cc in absurd (omega arith)

pub found_some : {r : Option ℕ} {i : ℕ} (k n : ℕ) → r ≡ pick (eqb k n) None (Some k) → r ≡ Some i → (k ≡ i) × (eqb i n ≡ false)
found_some {r} {i} k n e f = by (eqb k n) refl (sym f ∙ e)
  where
    by : (b : Bool) → eqb k n ≡ b → Some i ≡ pick b None (Some k) → (k ≡ i) × (eqb i n ≡ false)
    by true s h = absurd (some_none h)
    by false s h = let same : i ≡ k = cc in (sym same, rw same s)

pub found_none : {r : Option ℕ} (k n : ℕ) → r ≡ pick (eqb k n) None (Some k) → r ≡ None → eqb k n ≡ true
found_none {r} k n e f = by (eqb k n) refl (sym f ∙ e)
  where
    by : (b : Bool) → eqb k n ≡ b → None ≡ pick b None (Some k) → b ≡ true
    by true s h = refl
    by false s h = absurd (some_none (sym h))

-- a step by each of the numbers, in order
pub fold_below : {C F : Type 0} {g : Mut F (C × (ℕ × Unit {0})) C} (n : ℕ) (h : C → ℕ → C) (init : C) (f : F) (r : C)
    → ((xs : List ℕ) × (q : F) × Drains nat_range_steps (upto n) xs × FoldsTo {P = F × C} (λ a x b. Called g a.0 (a.1, (x, tt)) b.1 b.0) (f, init) xs (q, r))
    → ((a : C) (x : ℕ) (b : C) (q : F) → Called g f (a, (x, tt)) b q → (q ≡ f) × (b ≡ h a x))
    → r ≡ fold h init (range_with_len 0 n)
fold_below {g = g} n h init f r ran call = fold_from_yields_List g h init r ran (YieldsList-from_range 0 n n refl (sub-zero n)) call

-- the way along the path
follow_of : (l : List ℕ) (j : ℕ) (c : Claim) (n i k : ℕ) → fold (λ k i. follow_at l i j c k) k (range_with_len i n) ≡ follow_from n i l j c k
unfolding follow_from
follow_of l j c zero i k = refl
follow_of l j c (suc n) i k = follow_of l j c n (i + 1) (follow_at l i j c k)

pub follow_range : (l : List ℕ) (j : ℕ) (c : Claim) (n : ℕ) → fold (λ k i. follow_at l i j c k) 0 (range_with_len 0 n) ≡ follow_from n 0 l j c 0
follow_range l j c n = follow_of l j c n 0 0

-- the test holds of one of the places of a list
any_same : (n i : ℕ) (p q : ℕ → Bool) → ((k : ℕ) → p k ≡ q k) → any_from n i p ≡ any_from n i q
unfolding any_from
any_same zero i p q e = refl
any_same (suc n) i p q e = rw (e i, any_same n (i + 1) p q e)

any_next : (n i : ℕ) (p : ℕ → Bool) → any_from n (i + 1) p ≡ any_from n i (λ k. p (k + 1))
unfolding any_from
any_next zero i p = refl
any_next (suc n) i p = rw (any_next n (i + 1) p)

any_places : (xs : List ℕ) (p : ℕ → Bool) → list_any p xs ≡ any_from (length xs) 0 (λ i. p (get_or xs i 0))
unfolding any_from
any_places [] p = refl
any_places (x ∷ xs) p =
    any_by (p x)
    (any_places xs p
    ∙ any_same (length xs) 0 (λ i. p (get_or xs i 0)) (λ i. p (get_or (x ∷ xs) (i + 1) 0)) (λ k. rw add-one)
    ∙ sym (any_next (length xs) 0 (λ i. p (get_or (x ∷ xs) i 0))))

pub any_listed : {F : Type 0} {g : Mut F (Bor ℕ × Unit {0}) Bool} (xs : List ℕ) (n : ℕ) (p : ℕ → Bool) (s u : Iter ℕ) (f : F) (r : Bool)
    → (ys : List (Bor ℕ)) × (o : Option (Bor ℕ)) × (j : F) × YieldsThen fronts s ys o u × FoldsTo (λ p x q. Called g p (x, tt) false q) f ys j × MatchOption o (r ≡ false) (λ x. (r ≡ true) × ((h : F) × Called g j (x, tt) true h))
    → iter_rest s ≡ xs → length xs ≡ n
    → ((x : Bor ℕ) (b : Bool) (q : F) → Called g f (x, tt) b q → (q ≡ f) × (b ≡ p x.now))
    → r ≡ any_from n 0 (λ i. p (get_or xs i 0))
any_listed xs n p s u f r ran rest long call =
    any_from_yields_List p u f r ran (YieldsList-from_slice xs rest) call ∙ any_places xs p ∙ ap (λ (k : ℕ). any_from k 0 (λ i. p (get_or xs i 0))) long
