-- The machine on labels is the rules with limits: every step, permitted or refused, by the same number.
use Prim.Native.Nat.{ℕ, ◌<◌}
use mathlib.Core.Path.{◌≡◌, refl, subst}
use mathlib.Core.Bool.{Bool, true, false}
use mathlib.Core.List.{List}
use native.Mathlib.Omega.{arith}
use lib.ListN.{get_or}
use lib.Dec.{eqb, ltb}
use Rattle.walk.specs.Base.{All}
use Rattle.terms.specs.Base.{pick, Held, held}
use Rattle.terms.specs.Tree.{Tree, nought, sinit, dinit, kind_of}
use Rattle.terms.specs.Meaning.{trees, tree_of, Den}
use Rattle.terms.specs.Promise.{Grows, Each}
use Rattle.terms.proofs.Labels.{den_at}
use Rattle.terms.proofs.Growth.{den_grows, den_nought, den_sinit, den_dinit, grows_refl, grows_then}
use Rattle.terms.proofs.Depth.{each_at}
use Rattle.terms.proofs.Substs.{each_grows}
use Rattle.model.specs.declared.records.Model.{Model}
use Rattle.state.specs.Slot.{slot_at}
use Rattle.state.specs.Code.{way_of}
use Rattle.state.specs.Control.{value_at}
use Rattle.state.specs.Early.{sight_of, next_action, early_of}
use Rattle.state.specs.declared.slot.Slot.{Slot}
use Rattle.state.specs.declared.code.Way.{Way}
use Rattle.state.specs.declared.code.Way.TheVariants as W
use Rattle.state.specs.declared.control.Frame.{Frame}
use Rattle.state.specs.declared.control.Control.{Control}
use Rattle.rules.specs.Effect.{place_of}
use Rattle.rules.specs.Work.{labels, try_action, work_tried, work_advance, work_by, work_on}
use Rattle.rules.specs.Happened.{happened_on}
use Rattle.rules.specs.Made.{Config, config_of, made_on, control_after, layout_of}
use Rattle.rules.specs.Step.{go_worked, go_on, refused_step, step_on}
use Rattle.rules.specs.Reply.{Stepped}
use Rattle.rules.specs.declared.work.Labels.{Labels}
use Rattle.rules.specs.Out.{Tried}
use Rattle.rules.specs.Worked.{Worked}
use Rattle.rules.specs.Worked as K
use Rattle.rules.proofs.Alike.{Alike, made_alike}
use Rattle.rules.proofs.Back.{work_back}
use Rattle.law.specs.Out.{Out, ok, refuse, and_then}
use Rattle.law.specs.Act.{program_of}
use Rattle.law.specs.Rules.{State, Acted, acted, Made, operand, acts, action_of, made, go_by, step_r}
use Rattle.law.specs.Meant.{bare}
use Rattle.law.specs.Like.{Leaves, at, Named, Like, LikeMade, Exactly, both, neither, Fine}
use Rattle.law.proofs.Tries.{Tries, refused, done, tries}
use Rattle.law.proofs.Leaves.{Holds, holds_is, all_at, leaves_subst, CleanActed, acting_leaves}
use Rattle.law.proofs.Shown.{code_program, Shows, event_bare, advance_shows, hand_shows, hand_event_lem, made_small, hand_made}

-- the labels of a step's work, beside the rules' terms
record Labelled (m : Model) (l : List ℕ) (c : ℕ) (t : List ℕ) (r : Labels) (a : Acted) : Type 0 where
  grows : Grows l c t r.count
  known : trees t r.count ≡ a.known
  x : Den t r.count r.x a.x
  y : Den t r.count r.y a.y
  result : Den t r.count r.result a.result
  program : r.program ≡ program_of a.x
  codes : All (Leaves (Named m)) a.known

-- the work of a step, beside what the rules say
data Works (m : Model) (l : List ℕ) (c : ℕ) : Held Worked → Out Acted → Type 0 where
  refused_work : {n : ℕ} {t : List ℕ} → Works m l c (held (K.Refused n) t) (refuse n)
  done_work : {t : List ℕ} {r : Labels} {a : Acted} → Labelled m l c t r a → Works m l c (held (K.Done r) t) (ok a)

-- number 0 is no code term
zero_named : (m : Model) → Named m 0 0
zero_named m e = let z : ◌≡◌ {A = ℕ} 0 1 = cc in absurd (omega arith)

nonce_named : (m : Model) (n : ℕ) → Named m 7 n
nonce_named m n e = absurd (omega arith)

exactly_pick : {m : Model} {l : List ℕ} {s : Control} {w : Held Stepped} {o : Out Made} (b : Bool) (n : ℕ) → Exactly m l s w o
    → Exactly m l s (pick b w (held (refused_step n s) l)) (pick b o (refuse n))
exactly_pick true n h = h
exactly_pick false n h = neither

module _ (m : Model) (fine : Fine m) (l : List ℕ) (s : Control) (ws xs : List Tree) (g : Grows m.lines m.count l s.count)
    (vals : Each (Den l s.count) s.values ws) (vars : Each (Den l s.count) s.vars xs) (small : s.frame.nonce < 65536)
    (codes : All (Leaves (Named m)) (trees l s.count)) where
  -- what the configuration stands for
  abbrev state : State
  state = record { known = trees l s.count; config = record { frame = s.frame; values = ws; vars = xs } }

  zero : Den l s.count 0 nought
  zero = den_nought g.sound g.long

  pick_den : {i j : ℕ} {x y : Tree} (b : Bool) → Den l s.count i x → Den l s.count j y → Den l s.count (pick b i j) (pick b x y)
  pick_den true p q = p
  pick_den false p q = q

  value_den : (i : ℕ) → Den l s.count (value_at 0 s.values i) (value_at nought ws i)
  unfolding value_at
  value_den i = pick_den (ltb i 32) (each_at zero vals i) zero

  -- what a label denotes is known, so its code terms name programs
  den_leaves : {i : ℕ} {x : Tree} → Den l s.count i x → Leaves (Named m) x
  unfolding tree_of
  den_leaves {i} d = subst (Leaves (Named m)) d.is (all_at (Leaves (Named m)) (trees l s.count) nought (at (zero_named m)) codes i)

  var_leaves : (i : ℕ) → Leaves (Named m) (get_or xs i nought)
  var_leaves i = den_leaves (each_at zero vars i)

  -- the operands of an action are the model's terms
  module _ (q : Slot) where
    x_den : Den l s.count (next_action m.actions q).x (tree_of m.lines m.count (next_action m.actions q).x)
    unfolding next_action
    x_den = den_grows g (den_at _ (fine.first q.program q.position))

    y_den : Den l s.count (next_action m.actions q).y (tree_of m.lines m.count (next_action m.actions q).y)
    unfolding next_action
    y_den = den_grows g (den_at _ (fine.second q.program q.position))

    loc_small : (next_action m.actions q).op ≡ 14 → (next_action m.actions q).loc < 256
    unfolding next_action
    loc_small e = fine.function q.program q.position e

  -- the next action of slot i, tried on labels
  abbrev trying : ℕ → Held Tried
  trying i =
      let a = action_of m state i in
      try_action l s.count s.vars (place_of i 0) a (value_at 0 s.values a.loc) s.frame.nonce

  tries_acts : (i : ℕ) → Tries l s.count (trying i) (acts true m state i (action_of m state i))
  unfolding acts operand
  tries_acts i =
      let q = slot_at s.frame.slots i in
      let a = next_action m.actions q in
      tries a (loc_small q) (value_den a.loc) s.frame.nonce small g.sound g.long vars (place_of i 0) (x_den q) (y_den q)

  acts_leaves : (i : ℕ) → Holds (CleanActed (Named m)) (acts true m state i (action_of m state i))
  unfolding acts operand
  acts_leaves i =
      let q = slot_at s.frame.slots i in
      let a = next_action m.actions q in
      acting_leaves true (trees l s.count) s.frame.nonce a (zero_named m) (λ e. nonce_named m s.frame.nonce) codes
      (den_leaves (value_den a.loc))
      (leaves_subst xs (place_of i 0) var_leaves (den_leaves (x_den q)))
      (leaves_subst xs (place_of i 0) var_leaves (den_leaves (y_den q)))

  tried_works : {w : Held Tried} {o : Out Acted} → Tries l s.count w o → Holds (CleanActed (Named m)) o → Works m l s.count (work_tried w s.count) o
  tried_works refused h = refused_work
  tried_works (done k dx dy dr) h =
      let t = holds_is h in
      done_work (record {
        grows = k;
        known = refl;
        x = dx;
        y = dy;
        result = dr;
        program = code_program m fine.programs k.sound k.long dx t.x;
        codes = t.known;
      })

  advance_works : (i : ℕ) → Works m l s.count (work_advance l s m.actions i) (acts true m state i (action_of m state i))
  unfolding work_advance
  advance_works i = tried_works (tries_acts i) (acts_leaves i)

  -- a step made
  module _ (code : ℕ) {t : List ℕ} {r : Labels} {a : Acted} (w : Labelled m l s.count t r a) where
    abbrev after : Config ℕ
    after = made_on 0 1 2 (layout_of m) (config_of s) code r.x r.result r.program

    abbrev afterwards : Config Tree
    afterwards = made_on nought sinit dinit (layout_of m) state.config code a.x a.result (program_of a.x)

    alike : Alike (Den t r.count) after afterwards
    alike =
        let h = w.grows.sound in
        let k = w.grows.long in
        rw (← w.program)
        (made_alike (Den t r.count) (den_nought h k) (den_sinit h k) (den_dinit h k) s.frame (layout_of m)
        (each_grows w.grows vals) (each_grows w.grows vars) w.x w.result code r.program)

    like_after : Like m t (control_after s (layout_of m) code r) (made m state code a).state
    unfolding control_after made
    like_after = record {
      table = grows_then g w.grows;
      known = w.known;
      frame = alike.frame;
      values = alike.values;
      vars = alike.vars;
      nonce = made_small 0 1 2 (layout_of m) (config_of s) r.x r.result small code r.program;
      codes = w.codes;
    }

    event_same : bare (happened_on s.frame m.actions m.lengths code r) ≡ (made m state code a).happening
    unfolding made
    event_same = rw (← w.program) (event_bare s.frame m.actions m.lengths code r)

    after_made : Shows (happened_on s.frame m.actions m.lengths code r) r
        → LikeMade m t (control_after s (layout_of m) code r) (happened_on s.frame m.actions m.lengths code r) (made m state code a)
    unfolding control_after made
    after_made h = record {
      like = like_after;
      event = event_same;
      x = rw h.x w.x;
      y = rw h.y w.y;
      result = rw h.result w.result;
    }

  -- an action's step shows the labels of its work
  advance_event_lem : (code i : ℕ) (r : Labels) → way_of code ≡ W.Advance i → Shows (happened_on s.frame m.actions m.lengths code r) r
  unfolding happened_on
  advance_event_lem code i r e = rw e (advance_shows s.frame m.actions m.lengths i r)

  hand_event_shows : (code i j : ℕ) (r : Labels) → way_of code ≡ W.Hand i j → r.result ≡ 0 → Shows (happened_on s.frame m.actions m.lengths code r) r
  unfolding happened_on
  hand_event_shows code i j r e h = rw e (hand_shows s.frame m.actions m.lengths i j r h)

  reset_event_shows : (code k : ℕ) → way_of code ≡ W.Reset k
      → Shows (happened_on s.frame m.actions m.lengths code (labels 0 0 0 0 s.count)) (labels 0 0 0 0 s.count)
  unfolding happened_on
  reset_event_shows code k e = rw e (record { x = refl; y = refl; result = refl })

  -- a refused step leaves the table as it came
  way_back : (code : ℕ) (w : Way) → way_of code ≡ w → (n : ℕ) → (work_by w l s m.actions).out ≡ K.Refused n → (work_by w l s m.actions).table ≡ l
  unfolding work_on
  way_back code w e =
      subst (λ (v : Way). (n : ℕ) → (work_by v l s m.actions).out ≡ K.Refused n → (work_by v l s m.actions).table ≡ l) e
      (work_back l s g.sound.room g.sound.zeros m.actions code)

  advance_exact : (code i : ℕ) → way_of code ≡ W.Advance i → {w : Held Worked} {o : Out Acted}
      → ((n : ℕ) → w.out ≡ K.Refused n → w.table ≡ l) → Works m l s.count w o
      → Exactly m l s (go_worked w s (layout_of m) code) (and_then o (λ t. ok (made m state code t)))
  unfolding and_then
  advance_exact code i e back (refused_work {n = n}) = rw (back n refl) neither
  advance_exact code i e back (done_work {r = r} w) = both (after_made code w (advance_event_lem code i r e))

  -- a hand-over: the labels without the result, beside the terms without it
  unresulted : Labels → Labels
  unresulted r = labels r.x r.y 0 r.program r.count

  hand_control : (code i j : ℕ) (r : Labels) → way_of code ≡ W.Hand i j → control_after s (layout_of m) code r ≡ control_after s (layout_of m) code (unresulted r)
  unfolding control_after unresulted
  hand_control code i j r e = rw (hand_made 0 1 2 (layout_of m) (config_of s) code i j r.x r.result 0 r.program e)

  hand_labelled : {t : List ℕ} {r : Labels} {a : Acted} → Labelled m l s.count t r a
      → Labelled m l s.count t (unresulted r) (acted a.known a.x a.y nought)
  unfolding unresulted
  hand_labelled w = record {
    grows = w.grows;
    known = w.known;
    x = w.x;
    y = w.y;
    result = den_nought w.grows.sound w.grows.long;
    program = w.program;
    codes = w.codes;
  }

  hand_happened : (code i j : ℕ) (r : Labels) → way_of code ≡ W.Hand i j
      → happened_on s.frame m.actions m.lengths code r ≡ happened_on s.frame m.actions m.lengths code (unresulted r)
  unfolding unresulted
  hand_happened code i j r e = hand_event_lem s.frame m.actions m.lengths code i j r e

  no_result : (r : Labels) → (unresulted r).result ≡ 0
  unfolding unresulted
  no_result r = refl

  hand_exact : (code i j : ℕ) → way_of code ≡ W.Hand i j → {w : Held Worked} {o : Out Acted}
      → ((n : ℕ) → w.out ≡ K.Refused n → w.table ≡ l) → Works m l s.count w o
      → Exactly m l s (go_worked w s (layout_of m) code) (and_then o (λ t. ok (made m state code (acted t.known t.x t.y nought))))
  unfolding and_then
  hand_exact code i j e back (refused_work {n = n}) = rw (back n refl) neither
  hand_exact code i j e back (done_work {r = r} w) =
      rw (hand_control code i j r e, hand_happened code i j r e)
      (both (after_made code (hand_labelled w) (hand_event_shows code i j (unresulted r) e (no_result r))))

  reset_labelled : Labelled m l s.count l (labels 0 0 0 0 s.count) (acted (trees l s.count) nought nought nought)
  unfolding program_of kind_of
  reset_labelled = record {
    grows = grows_refl g.sound g.long;
    known = refl;
    x = zero;
    y = zero;
    result = zero;
    program = refl;
    codes = codes;
  }

  -- by what the code moves
  go_exact : (code : ℕ) (w : Way) → way_of code ≡ w → Exactly m l s (go_worked (work_by w l s m.actions) s (layout_of m) code) (go_by w true m state code)
  go_exact code W.Nothing e = neither
  go_exact code (W.Advance i) e = advance_exact code i e (way_back code (W.Advance i) e) (advance_works i)
  go_exact code (W.Hand i j) e = hand_exact code i j e (way_back code (W.Hand i j) e) (advance_works i)
  go_exact code (W.Reset k) e = both (after_made code reset_labelled (reset_event_shows code k e))

  went_exact : (code : ℕ) → Exactly m l s (go_on l s (layout_of m) code) (go_by (way_of code) true m state code)
  unfolding go_on work_on
  went_exact code = go_exact code (way_of code) refl

  -- one step, 1 to 7 first
  step_exact : (code : ℕ) → Exactly m l s (step_on l s (layout_of m) m.machine_count code) (step_r true m state code)
  unfolding step_on step_r
  step_exact code =
      let n = early_of (sight_of s.frame m.actions m.locations m.machine_count) code in
      exactly_pick (eqb n 0) n (went_exact code)

-- the same from any state that the configuration stands for
state_exact : (m : Model) (fine : Fine m) (l : List ℕ) (s : Control) (ks ws xs : List Tree) (f : Frame) (g : Grows m.lines m.count l s.count)
    (vals : Each (Den l s.count) s.values ws) (vars : Each (Den l s.count) s.vars xs) (small : s.frame.nonce < 65536)
    → trees l s.count ≡ ks → s.frame ≡ f → All (Leaves (Named m)) ks
    → (code : ℕ)
    → Exactly m l s (step_on l s (layout_of m) m.machine_count code)
    (step_r true m (record { known = ks; config = record { frame = f; values = ws; vars = xs } }) code)
state_exact m fine l s ks ws xs f g vals vars small p q codes code =
    let codes' : All (Leaves (Named m)) (trees l s.count) = rw p codes in
    rw (← p, ← q) (step_exact m fine l s ws xs g vals vars small codes' code)

-- The label machine is the rules with limits.
pub steps_exactly : {m : Model} {l : List ℕ} {s : Control} {d : State} → Fine m → Like m l s d
    → (code : ℕ) → Exactly m l s (step_on l s (layout_of m) m.machine_count code) (step_r true m d code)
steps_exactly {m} {l} {s} {d} fine k code =
    state_exact m fine l s d.known d.config.values d.config.vars d.config.frame
    k.table k.values k.vars k.nonce k.known k.frame k.codes code
