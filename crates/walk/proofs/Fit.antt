-- What `fits` says, part by part, and that a place given back fits wherever the place taken in did: a call that is not refused by 40
-- gives a place that is not refused by 40. Pass is named only to be checked first: a wrong walk is to be refused there.
use Prim.Native.Nat.{ℕ, zero, suc, ◌<◌}
use mathlib.Core.Path.{◌≡◌, refl}
use mathlib.Core.Bool.{Bool, true, false}
use mathlib.Core.List.Memᴰ
use mathlib.Core.List.{List, [], ◌∷◌, reverse}
use native.Mathlib.Omega.{arith}
use lib.ListN.{length}
use lib.Dec.{ltb, eqb}
use borrow.Author.Tests.{ltb-true, lt-ltb, eq-eqb}
use Rattle.walk.specs.Base.{pick, also, either, among}
use Rattle.walk.specs.Machine.{Machine, Outcome, refused, too_big, goes, breaks}
use Rattle.walk.specs.Reply.{Reply}
use Rattle.walk.specs.Trail.{Mark, plain, sized, bad, mark_of}
use Rattle.walk.specs.Place.{Place, Next, over, pair, from, settle, place_of, next_in, at, unbroken, fits}
use Rattle.walk.specs.Walk.{after, turn, walk, search}
use Rattle.walk.proofs.Codes.{from_mem, from_zero, mem_among}

-- the parts of `fits`
pub record Fit (M : Machine) (n : ℕ) (p : Place) : Type 0 where
  pub good : unbroken M p.up ≡ true
  pub short : length p.up < n
  pub code : either (among p.next M.codes) (eqb p.next M.none) ≡ true

pub both_true : (a b : Bool) → also a b ≡ true → (a ≡ true) × (b ≡ true)
both_true true b e = (refl, e)
both_true false b e = absurd (let z : ◌≡◌ {A = ℕ} 0 1 = cc in omega arith)

pub fits_parts : (M : Machine) (n : ℕ) (p : Place) → fits M n p ≡ true → Fit M n p
unfolding fits
fits_parts M n p e =
    let h = both_true _ _ e in
    let g = both_true _ _ h.1 in
    record { good = h.0; short = ltb-true _ _ g.0; code = g.1 }

pub fits_made : (M : Machine) (n : ℕ) (p : Place) → Fit M n p → fits M n p ≡ true
unfolding fits
fits_made M n p f = rw (f.good, lt-ltb (length p.up) n f.short, f.code)

module _ (M : Machine) (n : ℕ) where
  fit_over : 0 < n → Fit M n (place_of M over)
  unfolding unbroken
  fit_over l = record { good = refl; short = l; code = rw (eq-eqb M.none M.none refl) (last (among M.none M.codes)) }
    where
      last : (b : Bool) → either b true ≡ true
      last true = refl
      last false = refl

  fit_pair : (up : List ℕ) (k : ℕ) (ks : List ℕ) (j : ℕ) → from j M.codes ≡ k ∷ ks → unbroken M up ≡ true → length up < n → Fit M n (place_of M (pair up k))
  fit_pair up k ks j e g l = record {
    good = g;
    short = l;
    code = rw (mem_among {k = k} {xs = M.codes} (from_mem j M.codes (rw e (Memᴰ.head refl))));
  }

  -- a schedule one step shorter is unbroken too
  pub unbroken_below : (k : ℕ) (up : List ℕ) → unbroken M (k ∷ up) ≡ true → unbroken M up ≡ true
  unfolding unbroken
  unbroken_below k up g = (both_true _ _ g).0

  pub settle_fit : (up ks : List ℕ) (j : ℕ) → from j M.codes ≡ ks → unbroken M up ≡ true → length up < n → Fit M n (place_of M (settle M up ks))
  unfolding settle
  settle_fit [] [] j e g l = fit_over l
  settle_fit [] (k ∷ ks) j e g l = fit_pair [] k ks j e g l
  settle_fit (i ∷ up) [] j e g l = settle_fit up (from (suc i) M.codes) (suc i) refl (unbroken_below i up g) (omega arith)
  settle_fit (i ∷ up) (k ∷ ks) j e g l = fit_pair (i ∷ up) k ks j e g l

  pub after_fit : (up : List ℕ) (k : ℕ) (o : Outcome M.Conf) → M.try (at M up) k ≡ o → unbroken M up ≡ true → length up < n →
      Fit M n (place_of M (after M n up k o))
  unfolding after unbroken
  after_fit up k refused e g l = settle_fit up (from (suc k) M.codes) (suc k) refl g l
  after_fit up k too_big e g l = settle_fit up (from (suc k) M.codes) (suc k) refl g l
  after_fit up k (goes d) e g l = go (ltb (suc (length up)) n) refl
    where
      go : (b : Bool) → ltb (suc (length up)) n ≡ b →
          Fit M n (place_of M (pick b (settle M (k ∷ up) M.codes) (settle M up (from (suc k) M.codes))))
      go true t = settle_fit (k ∷ up) M.codes 0 (from_zero M.codes) (rw (g, e)) (ltb-true _ _ t)
      go false t = settle_fit up (from (suc k) M.codes) (suc k) refl g l
  after_fit up k breaks e g l = settle_fit up (from (suc k) M.codes) (suc k) refl g l

  turn_fits : (m : Mark) (w : List ℕ) (q : Next) (rest : Next → ℕ → ℕ → Reply Place) (t z : ℕ) → Fit M n (place_of M q) →
      ((t' z' : ℕ) → Fit M n (rest q t' z').place) → Fit M n (turn M m w q rest t z).place
  turn_fits plain w q rest t z f ih = ih _ _
  turn_fits sized w q rest t z f ih = ih _ _
  turn_fits bad w q rest t z f ih = f

  walk_fits : (b : ℕ) (q : Next) (t z : ℕ) → Fit M n (place_of M q) → Fit M n (walk M b n q t z).place
  unfolding walk
  walk_fits zero over t z f = f
  walk_fits zero (pair up k) t z f = f
  walk_fits (suc b) over t z f = f
  walk_fits (suc b) (pair up k) t z f =
      let g : Fit M n (place_of M (after M n up k (M.try (at M up) k))) = after_fit up k (M.try (at M up) k) refl f.good f.short in
      turn_fits (mark_of (M.try (at M up) k)) (reverse (k ∷ up)) (after M n up k (M.try (at M up) k)) (walk M b n) t z g
      (λ t' z'. walk_fits b (after M n up k (M.try (at M up) k)) t' z' g)

-- a place given back fits
pub search_fits : (M : Machine) (n b : ℕ) (p : Place) → fits M n p ≡ true → fits M n (search M n b p).place ≡ true
unfolding search
search_fits M n b p e =
    let f : Fit M n p = fits_parts M n p e in
    fits_made M n (search M n b p).place
    (walk_fits M n b (next_in M p) 0 0 (settle_fit M n p.up (from p.next M.codes) p.next refl f.good f.short))
