-- One turn of the walk: what is ahead of a pair is its own try, and then what is ahead of the pair after it.
-- All counts of the search follow from this one equation (`turned`).
use Prim.Native.Nat.{ℕ, suc, ◌-◌, ◌≤◌, ◌<◌}
use mathlib.Core.Path.{◌≡◌, refl, sym, ap, ◌∙◌}
use mathlib.Core.Bool.{Bool, true, false}
use mathlib.Core.List.{List, [], ◌∷◌, ◌++◌, map, map-append, append_assoc}
use native.Mathlib.Omega.{arith}
use lib.ListN.{length}
use lib.Dec.{ltb}
use borrow.Author.Tests.{ltb-true, ltb-false}
use Rattle.walk.specs.Base.{pick}
use Rattle.walk.specs.Machine.{Machine, Coded, Outcome, refused, too_big, goes, breaks}
use Rattle.walk.specs.Trail.{Try, try_of, under, unders, entered, across, trails}
use Rattle.walk.specs.Place.{Next, over, pair, from, settle, at}
use Rattle.walk.specs.Walk.{after}
use Rattle.walk.specs.Passed.{here, trail, ahead}
use Rattle.walk.proofs.Lists.{map_map}
use Rattle.walk.proofs.Codes.{from_head, from_zero}

-- the pair named is a real one: its code is the first of the codes from it on
abbrev pub IsPair : Machine → Next → Type 0
IsPair M over = Unit {0}
IsPair M (pair up k) = from k M.codes ≡ k ∷ from (suc k) M.codes

-- the tries below the step k at a schedule, by what came of it
below : (M : Machine) → ℕ → List ℕ → ℕ → Outcome M.Conf → List Try
below M n up k o = map (unders up) (map (under k) (entered (trails M (n - suc (length up))) o))

module _ (M : Machine) (C : Coded M) (n : ℕ) where
  first_left : (up : List ℕ) (k : ℕ) (ks : List ℕ) (j : ℕ) → from j M.codes ≡ k ∷ ks →
      IsPair M (pair up k) × (trail M n up (k ∷ ks) ≡ ahead M n (pair up k))
  unfolding ahead
  first_left up k ks j e =
      let h : (from k M.codes ≡ k ∷ ks) × (from (suc k) M.codes ≡ ks) = from_head M.codes C.rise j k ks e in
      (h.0 ∙ ap (λ (r : List ℕ). k ∷ r) (sym h.1), ap (trail M n up) (sym h.0))

  -- to settle leaves what is ahead as it was, and names a real pair
  pub settles : (up ks : List ℕ) (j : ℕ) → from j M.codes ≡ ks → IsPair M (settle M up ks) × (trail M n up ks ≡ ahead M n (settle M up ks))
  unfolding settle ahead trail here
  settles [] [] j e = (tt, refl)
  settles [] (k ∷ ks) j e = first_left [] k ks j e
  settles (i ∷ up) [] j e = settles up (from (suc i) M.codes) (suc i) refl
  settles (i ∷ up) (k ∷ ks) j e = first_left (i ∷ up) k ks j e

  -- the tries with one more code left: its own, those below it, the others
  here_cons : (up : List ℕ) (k : ℕ) (ks : List ℕ) →
      here M n up (k ∷ ks) ≡ unders up (try_of M (at M up) k) ∷ (below M n up k (M.try (at M up) k) ++ here M n up ks)
  unfolding here below
  here_cons up k ks =
      ap {B = List Try} (λ r. unders up (try_of M (at M up) k) ∷ r)
      (map-append (unders up) (map (under k) (entered (trails M (n - suc (length up))) (M.try (at M up) k)))
      (across M (trails M (n - suc (length up))) (at M up) ks))

  trail_cons : (up : List ℕ) (k : ℕ) (ks : List ℕ) →
      trail M n up (k ∷ ks) ≡ unders up (try_of M (at M up) k) ∷ (below M n up k (M.try (at M up) k) ++ trail M n up ks)
  unfolding trail
  trail_cons [] k ks = here_cons [] k ks
  trail_cons (j ∷ up) k ks =
      ap (λ (r : List Try). r ++ trail M n up (from (suc j) M.codes)) (here_cons (j ∷ up) k ks) ∙
      ap {B = List Try} (λ r. unders (j ∷ up) (try_of M (at M (j ∷ up)) k) ∷ r)
      (append_assoc (below M n (j ∷ up) k (M.try (at M (j ∷ up)) k)) (here M n (j ∷ up) ks) (trail M n up (from (suc j) M.codes)))

  -- a step that goes on below the bound: what is below it is what is ahead at the longer schedule
  goes_down : (up : List ℕ) (k : ℕ) (d : M.Conf) → M.try (at M up) k ≡ goes d → suc (length up) < n → below M n up k (goes d) ≡ here M n (k ∷ up) M.codes
  unfolding below here at trails
  goes_down up k d e l =
      let z : n - suc (length up) ≡ suc (n - suc (suc (length up))) = omega arith in
      rw (z, e) (map_map (unders up) (under k) (across M (trails M (n - suc (suc (length up)))) d M.codes))

  goes_back : (up : List ℕ) (k : ℕ) (d : M.Conf) → n ≤ suc (length up) → below M n up k (goes d) ≡ []
  unfolding below trails
  goes_back up k d l =
      let z : n - suc (length up) ≡ 0 = omega arith in
      rw z

  -- what is left after a try
  left : (up : List ℕ) (k : ℕ) (o : Outcome M.Conf) → M.try (at M up) k ≡ o →
      IsPair M (after M n up k o) × (below M n up k o ++ trail M n up (from (suc k) M.codes) ≡ ahead M n (after M n up k o))
  unfolding after below trail
  left up k refused e = settles up (from (suc k) M.codes) (suc k) refl
  left up k too_big e = settles up (from (suc k) M.codes) (suc k) refl
  left up k (goes d) e = go (ltb (suc (length up)) n) refl
    where
      go : (b : Bool) → ltb (suc (length up)) n ≡ b → IsPair M (pick b (settle M (k ∷ up) M.codes) (settle M up (from (suc k) M.codes))) ×
          (below M n up k (goes d) ++ trail M n up (from (suc k) M.codes) ≡
          ahead M n (pick b (settle M (k ∷ up) M.codes) (settle M up (from (suc k) M.codes))))
      go true t =
          let s : IsPair M (settle M (k ∷ up) M.codes) × (trail M n (k ∷ up) M.codes ≡ ahead M n (settle M (k ∷ up) M.codes)) =
          settles (k ∷ up) M.codes 0 (from_zero M.codes) in
          (s.0, ap (λ (r : List Try). r ++ trail M n up (from (suc k) M.codes)) (goes_down up k d e (ltb-true _ _ t)) ∙ s.1)
      go false t =
          let s : IsPair M (settle M up (from (suc k) M.codes)) ×
          (trail M n up (from (suc k) M.codes) ≡ ahead M n (settle M up (from (suc k) M.codes))) = settles up (from (suc k) M.codes) (suc k) refl in
          (s.0, rw (goes_back up k d (ltb-false _ _ t)) s.1)
  left up k breaks e = settles up (from (suc k) M.codes) (suc k) refl

  -- what is ahead of a pair is its try, and then what is ahead of the pair after it
  pub turned : (up : List ℕ) (k : ℕ) → IsPair M (pair up k) →
      ahead M n (pair up k) ≡ unders up (try_of M (at M up) k) ∷ ahead M n (after M n up k (M.try (at M up) k))
  unfolding ahead
  turned up k e =
      rw e (trail_cons up k (from (suc k) M.codes)) ∙
      ap {B = List Try} (λ r. unders up (try_of M (at M up) k) ∷ r) (left up k (M.try (at M up) k) refl).1

  pub after_pair : (up : List ℕ) (k : ℕ) → IsPair M (after M n up k (M.try (at M up) k))
  after_pair up k = (left up k (M.try (at M up) k) refl).0
