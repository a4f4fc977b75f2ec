-- S3 and S4 from any good place: what calls until end find is what is bad ahead of the place, their tries are the number of tries
-- ahead, their sizes the number of sized marks; and calls with budgets above 0 come to end, since the number ahead falls.
use Prim.Native.Nat.{ℕ, zero, suc, ◌+◌, ◌≤◌, ◌<◌}
use mathlib.Core.Path.{◌≡◌, refl, ap, ◌∙◌}
use mathlib.Core.List.{List, [], ◌∷◌, ◌++◌, append-nil}
use native.Mathlib.Omega.{arith}
use lib.ListN.{length, length-append}
use Rattle.walk.specs.Machine.{Machine, Coded}
use Rattle.walk.specs.Reply.{Kind, found, stop, end, Reply}
use Rattle.walk.specs.Gathers.{Gathers, ended, stopped, met}
use Rattle.walk.specs.Trail.{Try, bad, bad_in, sized_in}
use Rattle.walk.specs.Place.{Place}
use Rattle.walk.specs.Passed.{passing, Met, met_bad, used_up, no_more, Passed}
use Rattle.walk.specs.Answers.{Answers, seen}
use Rattle.walk.proofs.Lists.{bad_append, sized_append}
use Rattle.walk.proofs.Pass.{search_passes}

module _ (M : Machine) (n b : ℕ) (past : List Try) (p : Place) where
  -- what the answer tells of the tries passed, the kind known
  pub at_found : {k : Kind} (w : List ℕ) → Met M n b past p k → k ≡ found w → (bad_in past ≡ w ∷ []) × (0 < length past)
  at_found w (met_bad {w = v} e q h) f =
      let same : v ≡ w = cc in (
        rw (q, bad_append e (record { word = v; mark = bad } ∷ []), h, same),
        rw (q, length-append e (record { word = v; mark = bad } ∷ [])) (omega arith),
      )
  at_found w (used_up h l m) f = absurd (let z : ◌≡◌ {A = ℕ} 0 1 = cc in omega arith)
  at_found w (no_more h e q) f = absurd (let z : ◌≡◌ {A = ℕ} 0 1 = cc in omega arith)

  pub at_stop : {k : Kind} → Met M n b past p k → k ≡ stop → (bad_in past ≡ []) × (length past ≡ b)
  at_stop (met_bad e q h) f = absurd (let z : ◌≡◌ {A = ℕ} 0 1 = cc in omega arith)
  at_stop (used_up h l m) f = (h, l)
  at_stop (no_more h e q) f = absurd (let z : ◌≡◌ {A = ℕ} 0 1 = cc in omega arith)

  pub at_end : {k : Kind} → Met M n b past p k → k ≡ end → (bad_in past ≡ []) × (passing M n p ≡ [])
  at_end (met_bad e q h) f = absurd (let z : ◌≡◌ {A = ℕ} 0 1 = cc in omega arith)
  at_end (used_up h l m) f = absurd (let z : ◌≡◌ {A = ℕ} 0 1 = cc in omega arith)
  at_end (no_more h e q) f = (h, e)

-- what was found, tried and refused for size is what a list of tries has
pub record Counted (l : List Try) (ws : List (List ℕ)) (t z : ℕ) : Type 0 where
  pub words : ws ≡ bad_in l
  pub tries : t ≡ length l
  pub sizes : z ≡ sized_in l

-- a first part, and then the rest
counts : (l past rest : List Try) (ws vs : List (List ℕ)) (t z s y : ℕ) → l ≡ past ++ rest → bad_in past ≡ vs → s ≡ length past → y ≡ sized_in past →
    Counted rest ws t z → Counted l (vs ++ ws) (s + t) (y + z)
counts l past rest ws vs t z s y e b a c R = record {
  words = rw (e, bad_append past rest, b, R.words);
  tries = rw (e, length-append past rest, a, R.tries);
  sizes = rw (e, sized_append past rest, c, R.sizes);
}

module _ (M : Machine) (C : Coded M) (n : ℕ) {P : Type 0} (call : ℕ → P → Reply P) (view : P → Place) (Can : ℕ → Type 0) (Ok : P → Type 0)
    (A : Answers M n call view Can Ok) where
  -- one call, seen as the walk's
  pub one_call : (b : ℕ) (p : P) → Can b → Ok p → Passed M n b (passing M n (view p)) 0 0 (seen view (call b p))
  one_call b p can ok = rw (A.is b p can ok) (search_passes M C n b (view p))

  module _ (bs : ℕ → ℕ) (can : (i : ℕ) → Can (bs i)) where
    -- S3 from any good place
    pub gathered : {i : ℕ} {p : P} {ws : List (List ℕ)} {t z : ℕ} → Ok p → Gathers call bs i p ws t z → Counted (passing M n (view p)) ws t z
    gathered {i} {p} ok (ended k) =
        let Q : Passed M n (bs i) (passing M n (view p)) 0 0 (seen view (call (bs i) p)) = one_call (bs i) p (can i) ok in
        let h = at_end M n (bs i) Q.past (view (call (bs i) p).place) Q.met k in
        let e : passing M n (view p) ≡ Q.past = Q.parts ∙ ap (λ (r : List Try). Q.past ++ r) h.1 ∙ append-nil Q.past in
        record {
          words = rw (e, h.0);
          tries = rw e (omega (arith, Q.tries));
          sizes = rw e (omega (arith, Q.sizes));
        }
    gathered {i} {p} ok (stopped {ws = ws} {t = t} {z = z} k g) =
        let Q : Passed M n (bs i) (passing M n (view p)) 0 0 (seen view (call (bs i) p)) = one_call (bs i) p (can i) ok in
        let h = at_stop M n (bs i) Q.past (view (call (bs i) p).place) Q.met k in
        counts (passing M n (view p)) Q.past (passing M n (view (call (bs i) p).place)) ws [] t z (call (bs i) p).tries (call (bs i) p).sizes
        Q.parts h.0 (omega (arith, Q.tries)) (omega (arith, Q.sizes)) (gathered (A.on (bs i) p (can i) ok) g)
    gathered {i} {p} ok (met {w = w} {ws = ws} {t = t} {z = z} k g) =
        let Q : Passed M n (bs i) (passing M n (view p)) 0 0 (seen view (call (bs i) p)) = one_call (bs i) p (can i) ok in
        let h = at_found M n (bs i) Q.past (view (call (bs i) p).place) w Q.met k in
        counts (passing M n (view p)) Q.past (passing M n (view (call (bs i) p).place)) ws (w ∷ []) t z (call (bs i) p).tries (call (bs i) p).sizes
        Q.parts h.0 (omega (arith, Q.tries)) (omega (arith, Q.sizes)) (gathered (A.on (bs i) p (can i) ok) g)

  some_past : (b : ℕ) (p : P) (can : Can b) (ok : Ok p) → 0 < b → (k : Kind) → (call b p).kind ≡ k → (k ≡ end → ⊥) → 0 < length (one_call b p can ok).past
  some_past b p can ok l (found w) e ne =
      (at_found M n b (one_call b p can ok).past (view (call b p).place) w (one_call b p can ok).met e).1
  some_past b p can ok l stop e ne =
      omega (arith, (at_stop M n b (one_call b p can ok).past (view (call b p).place) (one_call b p can ok).met e).1)
  some_past b p can ok l end e ne = absurd (ne refl)

  -- S4's number: the tries ahead fall with every call that has a budget and does not end
  pub falls : (b : ℕ) (p : P) → Can b → Ok p → 0 < b → ((call b p).kind ≡ end → ⊥) → length (passing M n (view (call b p).place)) < length (passing M n (view p))
  falls b p can ok l ne =
      let Q : Passed M n b (passing M n (view p)) 0 0 (seen view (call b p)) = one_call b p can ok in
      let s : 0 < length Q.past = some_past b p can ok l (call b p).kind refl ne in
      omega (arith, ap length Q.parts, length-append Q.past (passing M n (view (call b p).place)))

  module _ (bs : ℕ → ℕ) (can : (i : ℕ) → Can (bs i)) (some : (i : ℕ) → 0 < bs i) where
    Ends : ℕ → P → Type 0
    Ends i p = (ws : List (List ℕ)) × (t : ℕ) × (z : ℕ) × Gathers call bs i p ws t z

    by_kind : (i : ℕ) (p : P) (k : Kind) → (call (bs i) p).kind ≡ k → ((k ≡ end → ⊥) → Ends (suc i) (call (bs i) p).place) → Ends i p
    unfolding Ends
    by_kind i p (found w) e rest =
        let r = rest (λ q. let z : ◌≡◌ {A = ℕ} 0 1 = cc in omega arith) in
        (w ∷ r.0, (call (bs i) p).tries + r.1, (call (bs i) p).sizes + r.2, met e r.3)
    by_kind i p stop e rest =
        let r = rest (λ q. let z : ◌≡◌ {A = ℕ} 0 1 = cc in omega arith) in
        (r.0, (call (bs i) p).tries + r.1, (call (bs i) p).sizes + r.2, stopped e r.3)
    by_kind i p end e rest = ([], (call (bs i) p).tries, (call (bs i) p).sizes, ended e)

    by_number : (m i : ℕ) (p : P) → Ok p → length (passing M n (view p)) ≤ m → Ends i p
    by_number zero i p ok l =
        by_kind i p (call (bs i) p).kind refl (λ ne. absurd (omega (arith, falls (bs i) p (can i) ok (some i) ne)))
    by_number (suc m) i p ok l =
        by_kind i p (call (bs i) p).kind refl (λ ne. by_number m (suc i) (call (bs i) p).place (A.on (bs i) p (can i) ok) (omega (arith, falls (bs i) p (can i) ok (some i) ne)))

    -- S4 from any good place
    pub ends : (i : ℕ) (p : P) → Ok p → (ws : List (List ℕ)) × (t : ℕ) × (z : ℕ) × Gathers call bs i p ws t z
    unfolding Ends
    ends i p ok = by_number (length (passing M n (view p))) i p ok (omega arith)
