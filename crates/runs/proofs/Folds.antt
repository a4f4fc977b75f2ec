-- M7: a run is the step folded over its codes. The records hold the events, in order; what stands past them, and past the
-- answers given, is as lent.
use Prim.Native.Nat.{ℕ, ◌+◌, ◌*◌, ◌/◌, ◌<◌, ◌≤◌}
use mathlib.Core.Path.{◌≡◌, refl, sym, ◌∙◌, ap}
use mathlib.Core.Bool.{Bool, true, false}
use mathlib.Core.List.{List, [], ◌∷◌, ◌++◌}
use native.Mathlib.Numerals.{add-one}
use native.Mathlib.Omega.{arith}
use lib.ListN.{length, get_or, set, length-append}
use lib.Seq.{sets}
use lib.Dec.{leb, eqb}
use borrow.Author.Tests.{leb-false, lt-ltb}
use Rattle.terms.specs.Base.{pick, Held}
use Rattle.terms.specs.Table.{cut_to}
use Rattle.terms.proofs.Back.{Grown, ZeroPast, grown_zero, cut_back}
use Rattle.state.specs.Control.{one_more}
use Rattle.state.specs.declared.control.Control.{Control}
use Rattle.rules.specs.Event.{record_of, room_in, record_put}
use Rattle.rules.specs.Made.{Layout}
use Rattle.rules.specs.Step.{step_on}
use Rattle.rules.specs.declared.event.Happening.{Happening}
use Rattle.rules.specs.Reply.{Reply, Stepped}
use Rattle.rules.specs.Reply as R
use Rattle.law.specs.Machines.{LabelsConf, conf}
use Rattle.machine.specs.Recorded.{is_real, Holds, Left, left}
use Rattle.runs.specs.Run.{outcome, ran, permitted_on, turn_on, turn_from, one_turn, Course, course, go_by, steps_from}
use Rattle.runs.specs.Fold.{answered, replied, after_step, Folded, folded, with_answer, fold_by, fold_steps, Folds}
use Rattle.runs.specs.Run.{Outcome}
use Rattle.machine.proofs.Recording.{twelve, put_long, put_past, holds_put}
use Rattle.machine.proofs.Real.{KnownOps}
use Rattle.runs.proofs.Stepping.{Stepping, refused, permitted, step_gives}

-- where a run stands between two codes: `now` is the table of records as it is by then
pub record Going (rs now : List ℕ) (l : List ℕ) (s : Control) (hs : List Happening) : Type 0 where
  pub small : s.count ≤ 512
  pub zeros : ZeroPast l s.count
  pub steps : length hs ≤ s.frame.steps
  pub most : s.frame.steps ≤ 60000
  pub long : length now ≡ length rs
  pub records : Holds now hs
  pub past : (p : ℕ) → length hs * 12 ≤ p → get_or now p 0 ≡ get_or rs p 0

module _ (g : Layout) (ops : KnownOps g.actions) (k : ℕ) (rs : List ℕ) where
  abbrev inner : List ℕ → Control → ℕ → Held Stepped
  inner l s code = step_on l s g k code

  room_same : (now : List ℕ) → length now ≡ length rs → room_in now ≡ room_in rs
  unfolding room_in
  room_same now e = rw e

  room_left : (now : List ℕ) (e : ℕ) → length now ≡ length rs → leb (room_in rs) e ≡ false → e * 12 + 12 ≤ length now
  unfolding room_in
  room_left now e h t = let a : e < length rs / 12 = leb-false (length rs / 12) e t in omega arith

  more_events : (hs : List Happening) (h : Happening) → length (hs ++ (h ∷ [])) ≡ length hs + 1
  more_events hs h = length-append hs (h ∷ [])

  counted : (hs : List Happening) (h : Happening) → length hs < 60000 → one_more (length hs) ≡ length (hs ++ (h ∷ []))
  unfolding one_more
  counted hs h n = rw (lt-ltb (length hs) 65535 (omega arith)) (sym (more_events hs h))

  module _ (now l : List ℕ) (s : Control) (hs : List Happening) (w : Going rs now l s hs) where
    -- one event more
    went : {m : List ℕ} (h : Happening) {t : Control} → Grown l s.count m t.count → is_real h.event ≡ true
        → s.frame.steps < 60000 → t.frame.steps ≡ s.frame.steps + 1 → leb (room_in rs) (length hs) ≡ false
        → Going rs (record_put now (length hs) (record_of h)) m t (hs ++ (h ∷ []))
    unfolding record_of
    went {m} h {t} grown real below count room =
        let z : length (record_of h).numbers ≡ 12 = twelve h.event h.ended in
        let e : length (hs ++ (h ∷ [])) ≡ length hs + 1 = more_events hs h in
        record {
          small = grown.fits w.small;
          zeros = grown_zero w.zeros grown;
          steps = omega (arith, e, count, w.steps);
          most = omega (arith, below, count);
          long = put_long now (length hs) (record_of h) z ∙ w.long;
          records = holds_put h w.records real (room_left now (length hs) w.long room);
          past = λ p n. put_past now (length hs) (record_of h) z p (omega (arith, e)) ∙ w.past p (omega (arith, e));
        }

    -- the code stops the run, or is answered and the run goes on
    module _ (ans : List ℕ) (i : ℕ) (codes : List ℕ)
        (rest : (now l : List ℕ) (s : Control) (hs : List Happening) (ans : List ℕ) (i : ℕ) → Going rs now l s hs
        → Folds rs ans i (steps_from codes i g k l ans now s (length hs)) (fold_steps inner (room_in rs) (conf l s hs) codes)) where
      abbrev on : Left Outcome → List ℕ → Course
      on u answered = steps_from codes (i + 1) g k u.table answered u.records u.out.control u.out.events

      abbrev down : LabelsConf → Folded
      down d = fold_steps inner (room_in rs) d codes

      stopped : (n : ℕ) → Folds rs ans i (course (ran s (length hs) (i + 1)) l (set ans i n) now) (folded (n ∷ []) (conf l s hs))
      stopped n = record {
        table = refl;
        control = refl;
        events = refl;
        tried = refl;
        answers = refl;
        long = w.long;
        records = w.records;
        past = w.past;
        few = omega (arith, w.steps, w.most);
      }

      -- one answer in front
      fronted : {c : Course} {f : Folded} (n : ℕ) → Folds rs (set ans i n) (i + 1) c f → Folds rs ans i c (folded (n ∷ f.answers) f.at)
      fronted {c} {f} n r = record {
        table = r.table;
        control = r.control;
        events = r.events;
        tried = r.tried ∙ omega arith;
        answers = r.answers ∙ ap (λ (j : ℕ). sets (set ans i n) j f.answers) (add-one i);
        long = r.long;
        records = r.records;
        past = r.past;
        few = r.few;
      }

      refused_by_lem : (n : ℕ) (b : Bool) → eqb n 12 ≡ b
          → Folds rs ans i (pick b (course (ran s (length hs) (i + 1)) l (set ans i n) now) (on (left (outcome n s (length hs)) l now) (set ans i n)))
          (pick b (folded (n ∷ []) (conf l s hs)) (folded (n ∷ (down (conf l s hs)).answers) (down (conf l s hs)).at))
      refused_by_lem n true e = stopped n
      refused_by_lem n false e = fronted n (rest now l s hs (set ans i n) (i + 1) w)

      full : (h : Happening) (t : Control) (m : List ℕ) → Grown l s.count m t.count
          → Folds rs ans i (course (ran s (length hs) (i + 1)) (cut_to m s.count t.count) (set ans i 12) now) (folded (12 ∷ []) (conf l s hs))
      full h t m grown = rw (cut_back w.small w.zeros grown) (stopped 12)

      permitted_by : (h : Happening) (t : Control) (m : List ℕ) (b : Bool) → leb (room_in rs) (length hs) ≡ b → Grown l s.count m t.count
          → is_real h.event ≡ true → s.frame.steps < 60000 → t.frame.steps ≡ s.frame.steps + 1
          → Folds rs ans i
          (go_by
          (pick b
          (left (outcome 12 s (length hs)) (cut_to m s.count t.count) now)
          (left (outcome 0 t (one_more (length hs))) m (record_put now (length hs) (record_of h))))
          ans i on)
          (fold_by (pick b (record { number = 12; at = conf l s hs }) (record { number = 0; at = conf m t (hs ++ (h ∷ [])) })) down)
      permitted_by h t m true e grown real below count = full h t m grown
      permitted_by h t m false e grown real below count =
          let n : length hs < 60000 = omega (arith, w.steps, below) in
          let then : List ℕ = record_put now (length hs) (record_of h) in
          fronted 0 (rw (counted hs h n) (rest then m t (hs ++ (h ∷ [])) (set ans i 0) (i + 1) (went h grown real below count e)))

      turned : {v : Held Stepped} → Stepping l s v
          → Folds rs ans i (go_by (turn_from v now s (length hs)) ans i on) (fold_by (after_step (room_in rs) (conf l s hs) v) down)
      unfolding turn_on permitted_on
      turned (refused {n}) = refused_by_lem n (eqb n 12) refl
      turned (permitted {m} {h} {t} grown real below count) =
          rw (room_same now w.long) (permitted_by h t m (leb (room_in rs) (length hs)) refl grown real below count)

  pub folds : (codes : List ℕ) (now l : List ℕ) (s : Control) (hs : List Happening) (ans : List ℕ) (i : ℕ) → Going rs now l s hs
      → Folds rs ans i (steps_from codes i g k l ans now s (length hs)) (fold_steps inner (room_in rs) (conf l s hs) codes)
  unfolding steps_from fold_steps one_turn
  folds [] now l s hs ans i w = record {
    table = refl;
    control = refl;
    events = refl;
    tried = omega arith;
    answers = refl;
    long = w.long;
    records = w.records;
    past = w.past;
    few = omega (arith, w.steps, w.most);
  }
  folds (code ∷ codes) now l s hs ans i w =
      turned now l s hs w ans i codes (folds codes) (step_gives l s w.small w.zeros g ops k code)

-- two steps that agree wherever a run comes to give the same run; P is what holds wherever it comes to
module _ (f h : List ℕ → Control → ℕ → Held Stepped) (P : List ℕ → Control → Type 0)
    (same : (l : List ℕ) (s : Control) (code : ℕ) → P l s → f l s code ≡ h l s code)
    (kept : (l : List ℕ) (s : Control) (code : ℕ) → P l s → (e : Happening) → (f l s code).out.reply ≡ R.Permitted e
    → P (f l s code).table (f l s code).out.control)
    (room : ℕ) where
  fold_by_lem : (codes : List ℕ)
      → ((l : List ℕ) (s : Control) (hs : List Happening) → P l s → fold_steps f room (conf l s hs) codes ≡ fold_steps h room (conf l s hs) codes)
      → (l : List ℕ) (s : Control) (hs : List Happening) → P l s
      → (r : Reply) (m : List ℕ) (t : Control) → ((e : Happening) → r ≡ R.Permitted e → P m t)
      → fold_by (replied r room (conf l s hs) m t) (λ d. fold_steps f room d codes) ≡ fold_by (replied r room (conf l s hs) m t) (λ d. fold_steps h room d codes)
  fold_by_lem codes ih l s hs p (R.Refused n) m t q = ap (λ (x : Folded). pick (eqb n 12) (folded (n ∷ []) (conf l s hs)) (with_answer n x)) (ih l s hs p)
  fold_by_lem codes ih l s hs p (R.Permitted e) m t q = by (leb room (length hs)) (ih m t (hs ++ (e ∷ [])) (q e refl))
    where
      by : (b : Bool) → fold_steps f room (conf m t (hs ++ (e ∷ []))) codes ≡ fold_steps h room (conf m t (hs ++ (e ∷ []))) codes
          → fold_by (pick b (answered 12 (conf l s hs)) (answered 0 (conf m t (hs ++ (e ∷ []))))) (λ d. fold_steps f room d codes)
          ≡ fold_by (pick b (answered 12 (conf l s hs)) (answered 0 (conf m t (hs ++ (e ∷ []))))) (λ d. fold_steps h room d codes)
      by true i = refl
      by false i = ap (λ (x : Folded). with_answer 0 x) i

  pub fold_same : (codes : List ℕ) (l : List ℕ) (s : Control) (hs : List Happening) → P l s
      → fold_steps f room (conf l s hs) codes ≡ fold_steps h room (conf l s hs) codes
  unfolding fold_steps
  fold_same [] l s hs p = refl
  fold_same (code ∷ codes) l s hs p =
      let v = f l s code in
      rw (← (same l s code p)) (fold_by_lem codes (fold_same codes) l s hs p v.out.reply v.table v.out.control (kept l s code p))
