-- What the `all` of a chain of iterators answers, in the words of Each. Each lemma takes the test that the closure gives, what
-- `all` ensures of its calls, what the chain goes over, and that the closure gives that test.
use Prim.Native.Nat.{ℕ, zero, suc, ◌+◌, ◌-◌}
use mathlib.Core.Bool.{Bool, true, false, ◌&&◌}
use mathlib.Core.List.{List, [], ◌∷◌}
use mathlib.Core.Path.{◌≡◌, refl, ap, ◌∙◌}
use native.Mathlib.Numerals.{add-one}
use native.Mathlib.Omega.{arith}
use lib.ListN.{length, get_or}
use denote.Param.Members.{Mut}
use denote.Ref.{Bor}
use Rattle.std.proofs.Common.{Option, Iter, add-zero, zero-add}
use Rattle.std.proofs.Math.Nat.{sub-zero}
use Rattle.std.proofs.iter.Yields.{nat_range_steps, fronts}
use Rattle.std.proofs.lemmas.Iterator.{YieldsList-from_range, YieldsList-from_slice}
use Rattle.std.proofs.lemmas.Iterator.Consumers.{YieldsList-from_enumerate}
use Rattle.std.proofs.lemmas.Iterator.Search.{all_from_yields_List}
use Rattle.std.specs.declared.ops.Range.{Range}
use Rattle.std.specs.declared.iter.Enumerate.{Enumerate}
use Rattle.std.specs.Fn.{Called}
use Rattle.std.specs.Iterator.{YieldsThen}
use Rattle.std.specs.Iterator.Adapters.{enumerate_source, enumerate_count, enumerate_steps}
use Rattle.std.specs.List.{FoldsTo, list_all, range_with_len, enumerate_from}
use Rattle.std.specs.Option.{MatchOption}
use Rattle.std.specs.Slice.Iter.{iter_rest}
use Rattle.terms.specs.Base.{also}
use Rattle.terms.specs.Each.{all_from, each}

pub and_also : (p q : Bool) → (p && q) ≡ also p q
and_also true q = refl
and_also false q = refl

over_range : (p : ℕ → Bool) (n i : ℕ) → list_all p (range_with_len i n) ≡ all_from n i p
unfolding all_from
over_range p zero i = refl
over_range p (suc n) i = ap (λ r. p i && r) (over_range p n (i + 1)) ∙ and_also (p i) (all_from n (i + 1) p)

-- `(a..b).all(|x| test)`
pub all_in_range : {F : Type 0} {g : Mut F (ℕ × Unit {0}) Bool} {s u : Range ℕ} {f : F} {r : Bool} (test : ℕ → Bool) (a b : ℕ)
    → (xs : List ℕ) × (o : Option ℕ) × (j : F) × YieldsThen nat_range_steps s xs o u × FoldsTo (λ p x q. Called g p (x, tt) true q) f xs j
    × MatchOption o (r ≡ true) (λ x. (r ≡ false) × ((h : F) × Called g j (x, tt) false h))
    → s ≡ record { start = a; end = b } → ((x : ℕ) (b : Bool) (q : F) → Called g f (x, tt) b q → (q ≡ f) × (b ≡ test x))
    → r ≡ all_from (b - a) a test
all_in_range {u = u} {f = f} {r = r} test a b ran e k =
    all_from_yields_List test u f r ran (YieldsList-from_range a b (b - a) e refl) k ∙ over_range test (b - a) a

-- `(0..n).all(|x| test)`
pub all_below : {F : Type 0} {g : Mut F (ℕ × Unit {0}) Bool} {s u : Range ℕ} {f : F} {r : Bool} (test : ℕ → Bool) (n : ℕ)
    → (xs : List ℕ) × (o : Option ℕ) × (j : F) × YieldsThen nat_range_steps s xs o u × FoldsTo (λ p x q. Called g p (x, tt) true q) f xs j
    × MatchOption o (r ≡ true) (λ x. (r ≡ false) × ((h : F) × Called g j (x, tt) false h))
    → s ≡ record { start = 0; end = n } → ((x : ℕ) (b : Bool) (q : F) → Called g f (x, tt) b q → (q ≡ f) × (b ≡ test x))
    → r ≡ each n test
all_below {u = u} {f = f} {r = r} test n ran e k =
    all_from_yields_List test u f r ran (YieldsList-from_range 0 n n e (sub-zero n)) k ∙ over_range test n 0

over_items : {A : Type 0} (p : A → Bool) (d : A) (xs ys : List A) (i : ℕ) → ((j : ℕ) → get_or xs j d ≡ get_or ys (i + j) d)
    → list_all p xs ≡ all_from (length xs) i (λ k. p (get_or ys k d))
unfolding all_from
over_items p d [] ys i h = refl
over_items p d (x ∷ xs) ys i h =
    let here : x ≡ get_or ys i d = rw add-zero at (h 0) in
    let later : (j : ℕ) → get_or xs j d ≡ get_or ys (i + 1 + j) d =
    λ j. let e : i + (j + 1) ≡ i + 1 + j = omega arith in rw (← e) (rw add-one (h (suc j))) in
    ap (λ r. p x && r) (over_items p d xs ys (i + 1) later)
    ∙ ap (λ y. p y && all_from (length xs) (i + 1) (λ k. p (get_or ys k d))) here
    ∙ and_also (p (get_or ys i d)) (all_from (length xs) (i + 1) (λ k. p (get_or ys k d)))

-- `xs.iter().all(|x| test)`
pub all_items : {A F : Type 0} {g : Mut F (Bor A × Unit {0}) Bool} {s u : Iter A} {f : F} {r : Bool} (test : A → Bool) (xs : List A) (n : ℕ) (d : A)
    → (zs : List (Bor A)) × (o : Option (Bor A)) × (j : F) × YieldsThen fronts s zs o u × FoldsTo (λ p x q. Called g p (x, tt) true q) f zs j
    × MatchOption o (r ≡ true) (λ x. (r ≡ false) × ((h : F) × Called g j (x, tt) false h))
    → iter_rest s ≡ xs → length xs ≡ n
    → ((x : Bor A) (b : Bool) (q : F) → Called g f (x, tt) b q → (q ≡ f) × (b ≡ test x.now))
    → r ≡ each n (λ i. test (get_or xs i d))
all_items {u = u} {f = f} {r = r} test xs n d ran e l k =
    all_from_yields_List test u f r ran (YieldsList-from_slice xs e) k ∙ over_items test d xs xs 0 (λ j. rw zero-add) ∙ rw l

over_places : {A : Type 0} (p : ℕ → A → Bool) (d : A) (xs ys : List A) (i : ℕ) → ((j : ℕ) → get_or xs j d ≡ get_or ys (i + j) d)
    → list_all (λ (q : ℕ × A). p q.0 q.1) (enumerate_from i xs) ≡ all_from (length xs) i (λ k. p k (get_or ys k d))
unfolding all_from
over_places p d [] ys i h = refl
over_places p d (x ∷ xs) ys i h =
    let here : x ≡ get_or ys i d = rw add-zero at (h 0) in
    let later : (j : ℕ) → get_or xs j d ≡ get_or ys (i + 1 + j) d =
    λ j. let e : i + (j + 1) ≡ i + 1 + j = omega arith in rw (← e) (rw add-one (h (suc j))) in
    ap (λ r. p i x && r) (over_places p d xs ys (i + 1) later)
    ∙ ap (λ y. p i y && all_from (length xs) (i + 1) (λ k. p k (get_or ys k d))) here
    ∙ and_also (p i (get_or ys i d)) (all_from (length xs) (i + 1) (λ k. p k (get_or ys k d)))

-- `xs.iter().enumerate().all(|(i, x)| test)`
pub all_places : {A F : Type 0} {g : Mut F ((ℕ × Bor A) × Unit {0}) Bool} {s u : Enumerate (Iter A)} {f : F} {r : Bool}
    (test : ℕ → A → Bool) (xs : List A) (n : ℕ) (d : A)
    → (zs : List (ℕ × Bor A)) × (o : Option (ℕ × Bor A)) × (j : F) × YieldsThen (enumerate_steps fronts) s zs o u
    × FoldsTo (λ p x q. Called g p (x, tt) true q) f zs j
    × MatchOption o (r ≡ true) (λ x. (r ≡ false) × ((h : F) × Called g j (x, tt) false h))
    → iter_rest (enumerate_source s) ≡ xs → enumerate_count s ≡ 0 → length xs ≡ n
    → ((x : ℕ × Bor A) (b : Bool) (q : F) → Called g f (x, tt) b q → (q ≡ f) × (b ≡ test x.0 x.1.now))
    → r ≡ each n (λ i. test i (get_or xs i d))
all_places {A} {u = u} {f = f} {r = r} test xs n d ran e z l k =
    all_from_yields_List (λ (q : ℕ × A). test q.0 q.1) u f r ran (YieldsList-from_enumerate (YieldsList-from_slice xs e) z) k
    ∙ over_places test d xs xs 0 (λ j. rw zero-add)
    ∙ rw l
