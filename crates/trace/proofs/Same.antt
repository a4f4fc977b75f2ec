-- Judging over the structs is judging over the flat records, which is the claim's definition over the events of the run
-- (machine's proofs, Judged).
use Prim.Native.Nat.{ℕ, zero, suc, ◌+◌, ◌-◌, ◌<◌, ◌≤◌}
use mathlib.Core.Bool.{Bool, true, false}
use mathlib.Core.List.{List}
use mathlib.Core.Path.{◌≡◌, refl, sym, ◌∙◌, ap}
use native.Mathlib.Nat.{sub-zero}
use native.Mathlib.Omega.{arith}
use lib.ListN.{length}
use lib.Dec.{eqb}
use borrow.Author.Tests.{eq-eqb, ne_eqb}
use Rattle.terms.specs.Base.{pick, also}
use Rattle.model.specs.Fields.{either}
use Rattle.model.specs.First.{first_from}
use Rattle.model.specs.declared.records.Claim.{Claim}
use Rattle.state.specs.Control.{one_more}
use Rattle.state.proofs.Frame.{one_more_lem}
use Rattle.rules.specs.Event.{number_at}
use Rattle.rules.specs.declared.event.Happening.{Happening}
use Rattle.machine.specs.Claim.{first_break}
use Rattle.machine.specs.Recorded.{Holds, ShortPath}
use Rattle.machine.specs.Judge.{any_from, accepts_at, makes_at, follow_at, follow_from, follows_on, fulfils_at, walked_on, first_accept, first_break_on}
use Rattle.machine.proofs.Loops.{any_more, any_end, follow_more, follow_end}
use Rattle.machine.proofs.Judged.{first_break_is}
use Rattle.trace.specs.Event.{event_at, accepts_in, makes_in, follow_in}
use Rattle.trace.specs.Judge.{judging, judge_step, judge_from, followed}
use Rattle.trace.specs.Verdict.{verdict, starting, wants, follower_of, verdict_step, verdict_from, judged, break_in}
use Rattle.trace.specs.Table.{standing}
use Rattle.trace.specs.declared.event.Event.{Event}
use Rattle.trace.specs.declared.judge.Judge.{Judge}
use Rattle.trace.specs.declared.verdict.Verdict.{Verdict}
use Rattle.trace.proofs.Stood.{stands_at_lem}

-- the first that passes is not before the start
first_least : (p : ℕ → Bool) (n i : ℕ) → i ≤ first_from n i p
unfolding first_from
first_least p zero i = omega arith
first_least p (suc n) i = by (p i) (first_least p n (i + 1))
  where
    by : (b : Bool) → i + 1 ≤ first_from n (i + 1) p → i ≤ pick b i (first_from n (i + 1) p)
    by true h = omega arith
    by false h = omega (arith, h)

first_hit : (p : ℕ → Bool) (n i : ℕ) → p i ≡ true → first_from (suc n) i p ≡ i
unfolding first_from
first_hit p n i e = rw e

first_miss : (p : ℕ → Bool) (n i : ℕ) → p i ≡ false → first_from (suc n) i p ≡ first_from n (i + 1) p
unfolding first_from
first_miss p n i e = rw e

either_none : (b : Bool) → either b false ≡ b
either_none true = refl
either_none false = refl

either_both : (a b c : Bool) → either (either a b) c ≡ either a (either b c)
either_both true b c = refl
either_both false b c = refl

-- one thread is followed up to the first accept
module _ (l : List ℕ) (c : Claim) (n j : ℕ) where
  abbrev acc : ℕ → Bool
  acc i = accepts_at l i c.program

  closed_stays : (t i k : ℕ) (es : List Event) → judge_from t i es (judging c n j k true) ≡ judging c n j k true
  unfolding judge_from judge_step
  closed_stays zero i k es = refl
  closed_stays (suc t) i k es = closed_stays t (i + 1) k es

  -- an event that closes the judging, and one that doesn't
  step_closes : (i k : ℕ) → accepts_at l i c.program ≡ true → judge_step (judging c n j k false) (event_at l i) ≡ judging c n j k true
  unfolding judge_step event_at accepts_in accepts_at
  step_closes i k e = rw e

  step_follows : (i k : ℕ) → accepts_at l i c.program ≡ false → judge_step (judging c n j k false) (event_at l i) ≡ judging c n j (follow_at l i j c k) false
  unfolding judge_step event_at accepts_in accepts_at follow_in follow_at
  step_follows i k e = rw e

  from_step : (t i k : ℕ) (r : Judge) → i < 4096 → judge_step (judging c n j k false) (event_at l i) ≡ r
      → judge_from (suc t) i (standing l) (judging c n j k false) ≡ judge_from t (i + 1) (standing l) r
  unfolding judge_from
  from_step t i k r h e = ap (judge_from t (i + 1) (standing l)) (ap (judge_step (judging c n j k false)) (stands_at_lem l i h) ∙ e)

  far_is : (t i k : ℕ) → i + t ≤ 4096 → (judge_from t i (standing l) (judging c n j k false)).at ≡ follow_from (first_from t i acc - i) i l j c k
  unfolding first_from judge_from
  far_is zero i k h = sym (follow_end l j c i i k (omega arith))
  far_is (suc t) i k h = by (accepts_at l i c.program) refl (far_is t (i + 1) (follow_at l i j c k) (omega arith))
    where
      by : (b : Bool) → accepts_at l i c.program ≡ b
          → (judge_from t (i + 1) (standing l) (judging c n j (follow_at l i j c k) false)).at ≡ follow_from (first_from t (i + 1) acc - (i + 1)) (i + 1) l j c
          (follow_at l i j c k)
          → (judge_from (suc t) i (standing l) (judging c n j k false)).at ≡ follow_from (first_from (suc t) i acc - i) i l j c k
      by true e ih =
          ap (λ (q : Judge). q.at) (from_step t i k (judging c n j k true) (omega arith) (step_closes i k e) ∙ closed_stays t (i + 1) k (standing l))
          ∙ sym (ap (λ (x : ℕ). follow_from (x - i) i l j c k) (first_hit acc t i e) ∙ follow_end l j c i i k (omega arith))
      by false e ih =
          let g : i + 1 ≤ first_from t (i + 1) acc = first_least acc t (i + 1) in
          ap (λ (q : Judge). q.at) (from_step t i k (judging c n j (follow_at l i j c k) false) (omega arith) (step_follows i k e)) ∙ ih
          ∙ sym (ap (λ (x : ℕ). follow_from (x - i) i l j c k) (first_miss acc t i e) ∙ follow_more l j c (first_from t (i + 1) acc) i k (omega arith))

-- event by event, up to the first accept
module _ (l : List ℕ) (c : Claim) (n : ℕ) (small : n ≤ 4096) where
  abbrev accs : ℕ → Bool
  accs i = accepts_at l i c.program

  -- the first accept, what is earlier being what comes before it
  abbrev stop : ℕ
  stop = first_from n 0 accs

  abbrev ful : ℕ → Bool
  ful i = fulfils_at l stop i c

  abbrev turned : Verdict → Event → Verdict
  turned k e = verdict_step k e (followed (standing l) (follower_of k e))

  accepted_stays : (t i s : ℕ) (w : Bool) → verdict_from t i (standing l) (verdict c n s true w) ≡ verdict c n s true w
  unfolding verdict_from verdict_step
  accepted_stays zero i s w = refl
  accepted_stays (suc t) i s w = accepted_stays t (i + 1) s w

  turn_accepts : (i : ℕ) (w : Bool) → accepts_at l i c.program ≡ true → turned (verdict c n i false w) (event_at l i) ≡ verdict c n i true w
  unfolding verdict_step event_at accepts_in accepts_at
  turn_accepts i w e = rw e

  -- a thread that event i made
  follower_far : (i : ℕ) (e : Event) → (followed (standing l) (judging c n (number_at l i 8) 0 false)).at ≡ follow_from stop 0 l (number_at l i 8) c 0
  follower_far i e = far_is l c n (number_at l i 8) n 0 0 (omega arith) ∙ ap (λ (x : ℕ). follow_from x 0 l (number_at l i 8) c 0) (sub-zero stop)

  turn_walks : (i : ℕ) (w : Bool) → accepts_at l i c.program ≡ false
      → turned (verdict c n i false w) (event_at l i) ≡ verdict c n (one_more i) false (either w (ful i))
  unfolding verdict_step follower_of wants fulfils_at follows_on event_at accepts_in accepts_at makes_in makes_at
  turn_walks i true e = rw e
  turn_walks i false e = rw e (by (makes_at l i c))
    where
      by : (b : Bool)
          → pick b (verdict c n (one_more i) false (eqb (followed (standing l) (pick b (judging c n (number_at l i 8) 0 false) (judging c 0 0 0 true))).at
          c.length)) (verdict c n (one_more i) false false)
          ≡ verdict c n (one_more i) false (also b (eqb (follow_from stop 0 l (number_at l i 8) c 0) c.length))
      by true = ap (λ (x : ℕ). verdict c n (one_more i) false (eqb x c.length)) (follower_far i (event_at l i))
      by false = refl

  from_turn : (t i : ℕ) (w : Bool) (r : Verdict) → i < 4096 → turned (verdict c n i false w) (event_at l i) ≡ r
      → verdict_from (suc t) i (standing l) (verdict c n i false w) ≡ verdict_from t (i + 1) (standing l) r
  unfolding verdict_from
  from_turn t i w r h e = ap (verdict_from t (i + 1) (standing l)) (ap (turned (verdict c n i false w)) (stands_at_lem l i h) ∙ e)

  -- the number that a verdict gives, f the first accept and w that the path was walked before it
  abbrev number : ℕ → Bool → ℕ
  number f w = pick (eqb f n) 0 (pick w 0 (one_more f))

  broken_is : (t i : ℕ) (w : Bool) → i + t ≡ n
      → break_in (verdict_from t i (standing l) (verdict c n i false w)) ≡ number (first_from t i accs) (either w (any_from (first_from t i accs - i) i ful))
  unfolding break_in first_from verdict_from
  broken_is zero i w h = rw (eq-eqb i n (omega arith))
  broken_is (suc t) i w h = by (accepts_at l i c.program) refl (broken_is t (i + 1) (either w (ful i)) (omega arith))
    where
      by : (b : Bool) → accepts_at l i c.program ≡ b
          → break_in (verdict_from t (i + 1) (standing l) (verdict c n (i + 1) false (either w (ful i))))
          ≡ number (first_from t (i + 1) accs) (either (either w (ful i)) (any_from (first_from t (i + 1) accs - (i + 1)) (i + 1) ful))
          → break_in (verdict_from (suc t) i (standing l) (verdict c n i false w)) ≡ number (first_from (suc t) i accs) (either w (any_from (first_from
          (suc t) i accs - i) i ful))
      by true e ih =
          ap break_in (from_turn t i w (verdict c n i true w) (omega arith) (turn_accepts i w e) ∙ accepted_stays t (i + 1) i w)
          ∙ sym (ap (λ (f : ℕ). number f (either w (any_from (f - i) i ful))) (first_hit accs t i e) ∙ at_once)
        where
          at_once : number i (either w (any_from (i - i) i ful)) ≡ pick w 0 (one_more i)
          at_once = rw (ne_eqb i n (λ z. let y : i ≡ n = z in absurd (omega arith)), any_end i i ful (omega arith), either_none w)
      by false e ih =
          let f : ℕ = first_from t (i + 1) accs in
          let g : i + 1 ≤ f = first_least accs t (i + 1) in
          let walks : turned (verdict c n i false w) (event_at l i) ≡ verdict c n (i + 1) false (either w (ful i)) =
          turn_walks i w e ∙ ap (λ (x : ℕ). verdict c n x false (either w (ful i))) (one_more_lem i (omega arith)) in
          let more : either w (any_from (f - i) i ful) ≡ either (either w (ful i)) (any_from (f - (i + 1)) (i + 1) ful) =
          ap (either w) (any_more f i ful (omega arith)) ∙ sym (either_both w (ful i) (any_from (f - (i + 1)) (i + 1) ful)) in
          ap break_in (from_turn t i w (verdict c n (i + 1) false (either w (ful i))) (omega arith) walks) ∙ ih
          ∙ sym (ap (λ (x : ℕ). number x (either w (any_from (x - i) i ful))) (first_miss accs t i e) ∙ ap (number f) more)

  -- judging over the structs is judging over the flat records
  pub judged_same : break_in (judged (standing l) (starting n c)) ≡ first_break_on l n c
  unfolding starting first_break_on first_accept walked_on
  judged_same = broken_is n 0 false (omega arith) ∙ ap (λ (x : ℕ). number stop (any_from x 0 ful)) (sub-zero stop)

-- and so the claim's definition over the events
pub judged_is : (l : List ℕ) (c : Claim) (s : ShortPath c) {hs : List Happening} → Holds l hs → length hs ≤ 4096
    → break_in (judged (standing l) (starting (length hs) c)) ≡ first_break c hs
judged_is l c s {hs} r h = judged_same l c (length hs) h ∙ first_break_is l c s r (omega arith)
