-- S2: one call from any place with any budget passes a first part of the tries ahead. The tries it counts are their number, never
-- above the budget; found, stop and end say what they should; the place given back names the next pair.
use Prim.Native.Nat.{ℕ, zero, suc, ◌+◌}
use mathlib.Core.Path.{◌≡◌, refl, sym, ap, ◌∙◌, subst}
use mathlib.Core.List.Memᴰ
use mathlib.Core.List.{List, [], ◌∷◌, reverse}
use native.Mathlib.Omega.{arith}
use Rattle.walk.specs.Machine.{Machine, Coded}
use Rattle.walk.specs.Reply.{Kind, stop, end, Reply}
use Rattle.walk.specs.Trail.{Mark, plain, sized, bad, mark_of, Try, bad_in, sized_in}
use Rattle.walk.specs.Place.{Place, Next, over, pair, from, place_of, next_in, at}
use Rattle.walk.specs.Walk.{reply, after, turn, walk, search}
use Rattle.walk.specs.Passed.{here, trail, ahead, passing, Met, met_bad, used_up, no_more, Passed, Names, a_pair, the_last}
use Rattle.walk.proofs.Codes.{from_past, from_mem}
use Rattle.walk.proofs.Turn.{IsPair, settles, turned, after_pair}

-- a try that is not bad, in front of what was met
met_more : (M : Machine) (n b : ℕ) (x : Try) (p : Place) {past : List Try} {k : Kind} → ((e : List Try) → bad_in e ≡ [] → bad_in (x ∷ e) ≡ []) →
    Met M n b past p k → Met M n (suc b) (x ∷ past) p k
met_more M n b x p f (met_bad e q h) = met_bad (x ∷ e) (ap {B = List Try} (λ r. x ∷ r) q) (f e h)
met_more M n b x p {past} f (used_up h l m) = used_up (f past h) (ap suc l) m
met_more M n b x p {past} f (no_more h e q) = no_more (f past h) e q

-- the same of all that was passed
more : (M : Machine) (n b : ℕ) (x : Try) (l : List Try) (t z s : ℕ) (r : Reply Place) → ((e : List Try) → bad_in e ≡ [] → bad_in (x ∷ e) ≡ []) →
    ((e : List Try) → sized_in (x ∷ e) ≡ s + sized_in e) → Passed M n b l (suc t) (s + z) r → Passed M n (suc b) (x ∷ l) t z r
more M n b x l t z s r f g P = record {
  past = x ∷ P.past;
  parts = ap {B = List Try} (λ q. x ∷ q) P.parts;
  tries = omega (arith, P.tries);
  sizes = omega (arith, P.sizes, g P.past);
  within = omega (arith, P.within);
  met = met_more M n b x r.place f P.met;
}

module _ (M : Machine) (C : Coded M) (n : ℕ) where
  -- nothing is ahead of the place after the last pair
  pub passing_over : passing M n (place_of M over) ≡ []
  unfolding passing trail here
  passing_over = ap (trail M n []) (from_past M.none M.codes C.below)

  -- the place that names a pair has ahead what the pair has
  pub passing_of : (q : Next) → ahead M n q ≡ passing M n (place_of M q)
  unfolding ahead passing
  passing_of over = sym passing_over
  passing_of (pair up k) = refl

  by_mark : (b : ℕ) (m : Mark) (w : List ℕ) (q : Next) (rest : Next → ℕ → ℕ → Reply Place) (t z : ℕ) →
      ((t' z' : ℕ) → Passed M n b (ahead M n q) t' z' (rest q t' z')) →
      Passed M n (suc b) (record { word = w; mark = m } ∷ ahead M n q) t z (turn M m w q rest t z)
  by_mark b plain w q rest t z ih =
      more M n b (record { word = w; mark = plain }) (ahead M n q) t z 0 _ (λ e h. h) (λ e. omega arith)
      (subst (λ y. Passed M n b (ahead M n q) (suc t) y (rest q (suc t) z)) (omega arith) (ih (suc t) z))
  by_mark b sized w q rest t z ih =
      more M n b (record { word = w; mark = sized }) (ahead M n q) t z 1 _ (λ e h. h) (λ e. omega arith)
      (subst (λ y. Passed M n b (ahead M n q) (suc t) y (rest q (suc t) (suc z))) (omega arith) (ih (suc t) (suc z)))
  by_mark b bad w q rest t z ih = record {
    past = record { word = w; mark = bad } ∷ [];
    parts = ap {B = List Try} (λ r. record { word = w; mark = bad } ∷ r) (passing_of q);
    tries = omega arith;
    sizes = omega arith;
    within = omega arith;
    met = met_bad [] refl refl;
  }

  -- at the end of the walk, and where the budget is used up, nothing is passed
  at_end : (b t z : ℕ) → Passed M n b (ahead M n over) t z (reply end t z (place_of M over))
  unfolding ahead
  at_end b t z = record {
    past = [];
    parts = sym passing_over;
    tries = omega arith;
    sizes = omega arith;
    within = omega arith;
    met = no_more refl passing_over refl;
  }

  at_stop : (up : List ℕ) (k t z : ℕ) → IsPair M (pair up k) → Passed M n 0 (ahead M n (pair up k)) t z (reply stop t z (place_of M (pair up k)))
  at_stop up k t z e = record {
    past = [];
    parts = passing_of (pair up k);
    tries = omega arith;
    sizes = omega arith;
    within = omega arith;
    met = used_up refl refl (rw (← passing_of (pair up k), turned M C n up k e) (omega arith));
  }

  -- the walk from any pair on
  pub passes : (b : ℕ) (q : Next) (t z : ℕ) → IsPair M q → Passed M n b (ahead M n q) t z (walk M b n q t z)
  unfolding walk
  passes zero over t z e = at_end 0 t z
  passes zero (pair up k) t z e = at_stop up k t z e
  passes (suc b) over t z e = at_end (suc b) t z
  passes (suc b) (pair up k) t z e =
      rw (turned M C n up k e)
      (by_mark b (mark_of (M.try (at M up) k)) (reverse (k ∷ up)) (after M n up k (M.try (at M up) k)) (walk M b n) t z
      (λ t' z'. passes b (after M n up k (M.try (at M up) k)) t' z' (after_pair M C n up k)))

  -- S2: one call
  pub search_passes : (b : ℕ) (p : Place) → Passed M n b (passing M n p) 0 0 (search M n b p)
  unfolding search passing
  search_passes b p =
      let s : IsPair M (next_in M p) × (trail M n p.up (from p.next M.codes) ≡ ahead M n (next_in M p)) =
      settles M C n p.up (from p.next M.codes) p.next refl in
      rw s.1 (passes b (next_in M p) 0 0 s.0)

  -- the place of a real pair names it
  names_of : (q : Next) → IsPair M q → Names M n (place_of M q)
  names_of over e = the_last refl
  names_of (pair up k) e =
      a_pair (mark_of (M.try (at M up) k)) (ahead M n (after M n up k (M.try (at M up) k)))
      (from_mem k M.codes (rw e (Memᴰ.head refl)))
      (sym (passing_of (pair up k)) ∙ turned M C n up k e)

  turn_names : (m : Mark) (w : List ℕ) (q : Next) (rest : Next → ℕ → ℕ → Reply Place) (t z : ℕ) → IsPair M q →
      ((t' z' : ℕ) → Names M n (rest q t' z').place) → Names M n (turn M m w q rest t z).place
  turn_names plain w q rest t z e ih = ih _ _
  turn_names sized w q rest t z e ih = ih _ _
  turn_names bad w q rest t z e ih = names_of q e

  walk_names : (b : ℕ) (q : Next) (t z : ℕ) → IsPair M q → Names M n (walk M b n q t z).place
  unfolding walk
  walk_names zero over t z e = the_last refl
  walk_names zero (pair up k) t z e = names_of (pair up k) e
  walk_names (suc b) over t z e = the_last refl
  walk_names (suc b) (pair up k) t z e =
      turn_names (mark_of (M.try (at M up) k)) (reverse (k ∷ up)) (after M n up k (M.try (at M up) k)) (walk M b n) t z (after_pair M C n up k)
      (λ t' z'. walk_names b (after M n up k (M.try (at M up) k)) t' z' (after_pair M C n up k))

  -- S2: the place given back names the next pair, or is the place after the last
  pub search_names : (b : ℕ) (p : Place) → Names M n (search M n b p).place
  unfolding search
  search_names b p = walk_names b (next_in M p) 0 0 (settles M C n p.up (from p.next M.codes) p.next refl).0
