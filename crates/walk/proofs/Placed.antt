-- What is ahead of a place that fits is an end part of the list of all tries: with `search_passes`, the tries of any call are a part
-- of that one list, in its order, from the pair that the place names on.
use Prim.Native.Nat.{ℕ, suc, ◌-◌, ◌<◌}
use mathlib.Core.Path.{◌≡◌, refl, sym, ap, ◌∙◌}
use mathlib.Core.Logic.{◌⊎◌, inl, inr}
use mathlib.Core.Bool.{true}
use mathlib.Core.List.{List, [], ◌∷◌, ◌++◌, map, map-id, map-append, append_assoc, Memᴰ}
use native.Mathlib.Omega.{arith}
use lib.ListN.{length}
use borrow.Author.Tests.{lt-ltb}
use Rattle.walk.specs.Machine.{Machine, Coded, Outcome, refused, too_big, goes, breaks}
use Rattle.walk.specs.Trail.{Try, try_of, under, unders, entered, across, trails}
use Rattle.walk.specs.Place.{Place, from, settle, first, at, went_on, unbroken, fits}
use Rattle.walk.specs.Walk.{after}
use Rattle.walk.specs.Passed.{here, trail, ahead, passing}
use Rattle.walk.proofs.Codes.{from_zero, from_first, from_split, from_at, mem_or_not}
use Rattle.walk.proofs.Turn.{settles, turned}
use Rattle.walk.proofs.Fit.{Fit, fits_parts, unbroken_below}

-- a code that is not refused is a real one
pub real : (M : Machine) → Coded M → (c : M.Conf) (k : ℕ) → (M.try c k ≡ refused → ⊥) → Memᴰ k M.codes
real M C c k h = go (mem_or_not k M.codes)
  where
    go : Memᴰ k M.codes ⊎ (¬ Memᴰ k M.codes) → Memᴰ k M.codes
    go (inl m) = m
    go (inr no') = absurd (h (C.only c k no'))

across_append : (M : Machine) (f : M.Conf → List Try) (c : M.Conf) (ks js : List ℕ) → across M f c (ks ++ js) ≡ across M f c ks ++ across M f c js
across_append M f c [] js = refl
across_append M f c (k ∷ ks) js =
    ap {B = List Try} (λ r. try_of M c k ∷ r)
    (ap (λ (r : List Try). map (under k) (entered f (M.try c k)) ++ r) (across_append M f c ks js) ∙
    sym (append_assoc (map (under k) (entered f (M.try c k))) (across M f c ks) (across M f c js)))

went_on_lem : {C : Type 0} (o : Outcome C) → went_on o ≡ true → (d : C) × (o ≡ goes d)
went_on_lem refused e = absurd (let z : ◌≡◌ {A = ℕ} 0 1 = cc in omega arith)
went_on_lem too_big e = absurd (let z : ◌≡◌ {A = ℕ} 0 1 = cc in omega arith)
went_on_lem (goes d) e = (d, refl)
went_on_lem breaks e = absurd (let z : ◌≡◌ {A = ℕ} 0 1 = cc in omega arith)

module _ (M : Machine) (C : Coded M) (n : ℕ) where
  here_append : (up ks js : List ℕ) → here M n up (ks ++ js) ≡ here M n up ks ++ here M n up js
  unfolding here
  here_append up ks js = rw (across_append M (trails M (n - suc (length up))) (at M up) ks js, map-append)

  -- of the tries at a schedule those with some codes, then the rest
  trail_append : (up ks js : List ℕ) → trail M n up (ks ++ js) ≡ here M n up ks ++ trail M n up js
  unfolding trail
  trail_append [] ks js = here_append [] ks js
  trail_append (j ∷ up) ks js =
      ap (λ (r : List Try). r ++ trail M n up (from (suc j) M.codes)) (here_append (j ∷ up) ks js) ∙
      append_assoc (here M n (j ∷ up) ks) (here M n (j ∷ up) js) (trail M n up (from (suc j) M.codes))

  -- at the empty schedule with all codes left, all tries are ahead
  all_ahead : 0 < n → trail M n [] M.codes ≡ trails M n M.fresh
  unfolding trail here at trails
  all_ahead l =
      let e : n ≡ suc (n - 1) = omega arith in
      map-id (across M (trails M (n - 1)) M.fresh M.codes) ∙ ap (λ (m : ℕ). trails M m M.fresh) (sym e)

  -- all tries are ahead of the first place
  pub whole : 0 < n → passing M n (first M) ≡ trails M n M.fresh
  unfolding passing
  whole l = rw (from_first M.none M.codes) (all_ahead l)

  -- to enter a schedule is one try
  enter : (k : ℕ) (up : List ℕ) → unbroken M (k ∷ up) ≡ true → suc (length up) < n →
      trail M n up (from k M.codes) ≡ unders up (try_of M (at M up) k) ∷ trail M n (k ∷ up) M.codes
  unfolding unbroken after ahead
  enter k up g l =
      let w : (d : M.Conf) × (M.try (at M up) k ≡ goes d) = went_on_lem (M.try (at M up) k) (rw (unbroken_below M n k up g) at g) in
      let h : M.try (at M up) k ≡ goes w.0 = w.1 in
      let m : Memᴰ k M.codes = real M C (at M up) k (λ e. let z : ◌≡◌ {A = ℕ} 0 1 = cc in omega arith) in
      let a : after M n up k (M.try (at M up) k) ≡ settle M (k ∷ up) M.codes = rw (h, lt-ltb (suc (length up)) n l) in
      turned M C n up k (from_at C.rise m) ∙
      ap {B = List Try} (λ r. unders up (try_of M (at M up) k) ∷ r)
      (ap (ahead M n) a ∙ sym (settles M C n (k ∷ up) M.codes 0 (from_zero M.codes)).1)

  place_in : (up : List ℕ) → unbroken M up ≡ true → length up < n → (pre ks : List ℕ) → M.codes ≡ pre ++ ks →
      (e : List Try) × (trails M n M.fresh ≡ e ++ trail M n up ks)
  place_in [] g l pre ks c = (here M n [] pre, sym (all_ahead (omega arith)) ∙ ap (trail M n []) c ∙ trail_append [] pre ks)
  place_in (k ∷ up) g l pre ks c =
      let s : (q : List ℕ) × (M.codes ≡ q ++ from k M.codes) = from_split k M.codes in
      let i : (e : List Try) × (trails M n M.fresh ≡ e ++ trail M n up (from k M.codes)) =
      place_in up (unbroken_below M n k up g) (omega arith) s.0 (from k M.codes) s.1 in
      let x : Try = unders up (try_of M (at M up) k) in (
        i.0 ++ (x ∷ here M n (k ∷ up) pre),
        i.1 ∙ ap (λ (r : List Try). i.0 ++ r) (enter k up g l ∙ ap {B = List Try} (λ r. x ∷ r) (ap (trail M n (k ∷ up)) c ∙ trail_append (k ∷ up) pre ks)) ∙
            sym (append_assoc i.0 (x ∷ here M n (k ∷ up) pre) (trail M n (k ∷ up) ks)),
      )

  -- what is ahead of a place that fits is an end part of all tries
  pub placed : (p : Place) → fits M n p ≡ true → (e : List Try) × (trails M n M.fresh ≡ e ++ passing M n p)
  unfolding passing
  placed p e =
      let f : Fit M n p = fits_parts M n p e in
      let s : (q : List ℕ) × (M.codes ≡ q ++ from p.next M.codes) = from_split p.next M.codes in
      place_in p.up f.good f.short s.0 (from p.next M.codes) s.1
