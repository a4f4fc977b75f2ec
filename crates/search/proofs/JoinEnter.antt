-- A place entered: its schedule is good exactly when it is permitted and unbroken, and then the program stands at it.
use Prim.Native.Nat.{ℕ, zero, suc, ◌+◌, ◌-◌, ◌%◌, ◌<◌, ◌≤◌}
use mathlib.Core.Bool.{Bool, true, false, not}
use mathlib.Core.List.{List, [], ◌∷◌, ◌++◌}
use mathlib.Core.Path.{◌≡◌, refl, sym, ap, ap₂, ◌∙◌, subst}
use native.Mathlib.Omega.{arith}
use lib.ListN.{length, get_or, set, take, replicate, length-set, length-replicate, length-map, get_or-replicate, get_or-eq_default, get_or-map}
use lib.Seq.{length-take-le, ext_get_or, get_or-take, get_or-set_same, get_or-set_other}
use lib.Dec.{eqb, ltb}
use borrow.Author.Tests.{ltb-true, ltb-false, eqb-true, eqb-false}
use Rattle.terms.specs.Base.{Held}
use Rattle.terms.specs.Table.{used_of}
use Rattle.terms.proofs.Back.{Grown, grown_same, grown_then}
use Rattle.model.specs.declared.records.Model.{Model}
use Rattle.state.specs.Control.{fresh_control}
use Rattle.state.specs.declared.control.Control.{Control}
use Rattle.state.proofs.Threads.{never}
use Rattle.rules.specs.Event.{record_of, record_put}
use Rattle.rules.specs.Made.{control_after, layout_of}
use Rattle.rules.specs.declared.event.Happening.{Happening}
use Rattle.rules.specs.Reply.{Stepped}
use Rattle.rules.specs.declared.work.Labels.{Labels}
use Rattle.machine.specs.Claim.{breaks_claim}
use Rattle.machine.specs.Judge.{breaks_on}
use Rattle.machine.specs.Recorded.{Left}
use Rattle.walk.specs.Machine.{Machine}
use Rattle.walk.specs.Machine as O
use Rattle.walk.specs.Place.{at, unbroken}
use Rattle.walk.specs.Place as P
use Rattle.walk.specs.Array.{stack_of}
use Rattle.walk.proofs.Array.{length_stack}
use Rattle.walk.proofs.Loop.{ZeroPast, push_zero}
use Rattle.quiet.specs.Quiet.{deepest_in, deepest}
use Rattle.quiet.proofs.Bounds.{Bounds, deeper_bounds}
use Rattle.law.specs.Machines.{LabelsConf}
use Rattle.tries.specs.Labels.{try_code, labels}
use Rattle.tries.proofs.Along.{Sane, work_at, event_at, conf_at, Went, no, yes, step_went, went_code, at_sane, at_grows, at_long}
use Rattle.tries.proofs.Judging.{Judging}
use Rattle.search.specs.Place.{place, start_place, at_code, code_in, pushed}
use Rattle.search.specs.Enter.{no_control, goes_on, Climb, climb, entered, on_good, enter_step, enter_in, enter_on}
use Rattle.search.specs.Search.{deeps_of}
use Rattle.search.specs.Shown.{padded, tidied}
use Rattle.search.specs.declared.place.Place.{Place}
use Rattle.search.specs.Enter.{Entered}
use Rattle.search.proofs.JoinPlace.{spot, push_is}
use Rattle.search.proofs.JoinStand.{there, Parts}
use Rattle.search.proofs.JoinRoom.{clean_padded}

-- the same codes are the same stack
pub stack_same : (cs ds : List ℕ) (j : ℕ) → ((i : ℕ) → i < j → get_or cs i 0 ≡ get_or ds i 0) → stack_of cs j ≡ stack_of ds j
unfolding stack_of
stack_same cs ds zero f = refl
stack_same cs ds (suc j) f = ap₂ (λ (x : ℕ) (r : List ℕ). x ∷ r) (f j (omega arith)) (stack_same cs ds j (λ i h. f i (omega arith)))

-- the depth of the deepest term of a configuration of the stack
deeps_at : (t : List ℕ) (stack : List Control) (i : ℕ) → get_or (deeps_of t stack) i 0 ≡ deepest t 0 0 (get_or stack i no_control).count
unfolding deeps_of deepest deepest_in used_of
deeps_at t stack i = get_or-map (λ (s : Control). deepest t 0 0 s.count) stack i no_control

pub deeps_long : (t : List ℕ) (stack : List Control) → length (deeps_of t stack) ≡ length stack
unfolding deeps_of
deeps_long t stack = length-map stack (λ (s : Control). deepest t 0 0 s.count)

module _ (m : Model) (start : Sane (labels m).fresh) (J : Judging m) (p : Place) (all_codes : length p.codes ≡ 24) (short : p.length < 24) where
  abbrev M : Machine
  M = labels m

  abbrev ds : List ℕ
  ds = p.codes

  -- after the first i steps
  pub record Entry (i : ℕ) (x : Climb) : Type 0 where
    pub len : x.place.length ≡ i
    pub long : length x.place.codes ≡ 24
    pub clean : ZeroPast x.place.codes i
    pub same : (k : ℕ) → k < i → get_or x.place.codes k 0 ≡ get_or p.codes k 0
    pub good : unbroken (labels m) (stack_of p.codes i) ≡ true
    pub controls : (k : ℕ) → k ≤ i → get_or x.stack k no_control ≡ (there m start J p.codes k).control
    pub table : x.table ≡ (there m start J p.codes i).table
    pub holds : J.Holds x.records (there m start J p.codes i).events
    pub records : length x.records ≡ 288
    pub stack : length x.stack ≡ 25

  broken_on : (d j : ℕ) → unbroken M (stack_of ds j) ≡ false → unbroken M (stack_of ds (d + j)) ≡ false
  unfolding unbroken stack_of
  broken_on zero j e =
      let f : 0 + j ≡ j = omega arith in
      rw f e
  broken_on (suc d) j e =
      let f : suc d + j ≡ suc (d + j) = omega arith in
      rw (f, broken_on d j e)

  -- one step
  module _ (i : ℕ) (h : i < p.length) (x : Climb) (v : Entry i x) where
    abbrev c : LabelsConf
    c = there m start J ds i

    abbrev code : ℕ
    code = get_or ds i 0

    level : i % 24 ≡ i
    level = omega arith

    code_is : code_in ds i ≡ code
    unfolding code_in
    code_is = rw level

    control_is : get_or x.stack (i % 24) no_control ≡ c.control
    control_is = rw level (v.controls i (omega arith))

    next_stack : stack_of ds (suc i) ≡ code ∷ stack_of ds i
    unfolding stack_of
    next_stack = refl

    not_on : P.went_on (try_code m c code) ≡ false → unbroken M (stack_of ds (suc i)) ≡ false
    unfolding unbroken
    not_on e = rw (next_stack, v.good, e)

    is_on_lem : (d : LabelsConf) → try_code m c code ≡ O.goes d → unbroken M (stack_of ds (suc i)) ≡ true
    unfolding unbroken
    is_on_lem d e = rw (next_stack, v.good, e)

    next_at_lem : (d : LabelsConf) → try_code m c code ≡ O.goes d → at M (stack_of ds (suc i)) ≡ d
    unfolding at
    next_at_lem d e = rw (next_stack, e)

    events_long : length c.events ≡ i
    events_long = at_long m start (stack_of ds i) v.good ∙ length_stack ds i

    module _ (b : Labels) where
      abbrev event : Happening
      event = event_at m c code b

      abbrev records : List ℕ
      records = record_put x.records i (record_of event)

      holds : J.Holds records (c.events ++ (event ∷ []))
      holds =
          rw events_long at
          (J.put x.records c.events c.control.frame code b (omega (arith, events_long, v.records, short)) v.holds)

      judged : breaks_on records i m.claim ≡ breaks_claim m.claim c.events event
      judged = rw events_long at (J.judged records c.events event holds)

      abbrev control : Control
      control = control_after c.control (layout_of m) code b

      -- one step further up
      abbrev further : Climb
      further = climb (set x.stack (i + 1) control) (place (set x.place.codes i code) (suc i) 0) (work_at m c code).table records

      push : try_code m c code ≡ O.goes (conf_at m c code b) → pushed x.place code ≡ place (set x.place.codes i code) (suc i) 0
      push e = push_is m x.place code (omega (arith, v.len, short)) (omega (arith, went_code m c code (conf_at m c code b) e)) ∙ rw v.len

      entry_on : try_code m c code ≡ O.goes (conf_at m c code b) → Entry (suc i) further
      entry_on e =
          let a : at M (stack_of ds (suc i)) ≡ conf_at m c code b = next_at_lem (conf_at m c code b) e in
          record {
            len = refl;
            long = length-set x.place.codes i code ∙ v.long;
            clean = push_zero x.place.codes i code v.clean;
            same = λ k l. same_on k l (eqb k i) refl;
            good = is_on_lem (conf_at m c code b) e;
            controls = λ k l. control_on_lem a k l (eqb k (suc i)) refl;
            table = sym (ap (λ (y : LabelsConf). y.table) a);
            holds = rw a holds;
            records = J.long x.records i event ∙ v.records;
            stack = length-set x.stack (i + 1) control ∙ v.stack;
          }
        where
          same_on : (k : ℕ) → k < suc i → (q : Bool) → eqb k i ≡ q → get_or (set x.place.codes i code) k 0 ≡ get_or ds k 0
          same_on k l true q =
              let f : k ≡ i = eqb-true k i q in
              rw f (get_or-set_same x.place.codes i code 0 (omega (arith, v.long, short)))
          same_on k l false q =
              let d : k ≡ i → ⊥ = eqb-false k i q in
              get_or-set_other x.place.codes i k code 0 d ∙ v.same k (omega arith)

          control_on_lem : at M (stack_of ds (suc i)) ≡ conf_at m c code b → (k : ℕ) → k ≤ suc i → (q : Bool) → eqb k (suc i) ≡ q →
              get_or (set x.stack (i + 1) control) k no_control ≡ (at M (stack_of ds k)).control
          control_on_lem a k l true q =
              let g : k ≡ suc i = eqb-true k (suc i) q in
              rw g (ap (λ (y : ℕ). get_or (set x.stack y control) (suc i) no_control) (omega arith)
              ∙ get_or-set_same x.stack (suc i) control no_control (omega (arith, v.stack, short)) ∙ sym (ap (λ (y : LabelsConf). y.control) a))
          control_on_lem a k l false q =
              let d : k ≡ suc i → ⊥ = eqb-false k (suc i) q in
              get_or-set_other x.stack (i + 1) k control no_control (λ f. d (f ∙ omega arith)) ∙ v.controls k (omega arith)

  -- what comes of entering
  pub record Enters (e : Left Entered) : Type 0 where
    pub good : e.out.good ≡ unbroken (labels m) (stack_of p.codes p.length)
    pub entry : e.out.good ≡ true → Entry p.length (climb e.out.stack e.out.place e.table e.records)
    pub next : e.out.good ≡ true → e.out.place.next ≡ p.next

  fails : (d i : ℕ) → d + suc i ≡ p.length → unbroken M (stack_of ds (suc i)) ≡ false → (q : Place) (x : Climb) → Enters (entered false q x)
  fails d i e f q x =
      let g : unbroken M (stack_of ds p.length) ≡ false = ap (λ (k : ℕ). unbroken M (stack_of ds k)) (sym e) ∙ broken_on d (suc i) f in
      record { good = sym g; entry = λ z. absurd (never false z refl); next = λ z. absurd (never false z refl) }

  by_went : (d i : ℕ) (l : d + suc i ≡ p.length) (h : i < p.length) (x : Climb) (v : Entry i x) (rest : Climb → Left Entered) →
      ((y : Climb) → Entry (suc i) y → Enters (rest y)) → {r : Held Stepped} → Went m (c i h x v) (code i h x v) r →
      Enters (enter_step r rest m.claim i (code i h x v) x)
  unfolding goes_on
  by_went d i l h x v rest ih (no n s t e) =
      let y : Climb = climb (set x.stack (i % 24 + 1) s) (pushed x.place (code i h x v)) t x.records in
      fails d i l (not_on i h x v e) y.place y
  by_went d i l h x v rest ih (yes b e) = go (breaks_claim m.claim (c i h x v).events (event i h x v b)) refl
    where
      go : (q : Bool) → breaks_claim m.claim (c i h x v).events (event i h x v b) ≡ q →
          Enters (on_good (not (breaks_on (records i h x v b) i m.claim)) rest
          (climb (set x.stack (i % 24 + 1) (control i h x v b)) (pushed x.place (code i h x v)) (work_at m (c i h x v) (code i h x v)).table
          (records i h x v b)))
      go true q =
          let y : Climb = climb (set x.stack (i % 24 + 1) (control i h x v b)) (pushed x.place (code i h x v))
          (work_at m (c i h x v) (code i h x v)).table (records i h x v b) in
          rw (judged i h x v b, q) (fails d i l (not_on i h x v (ap P.went_on e ∙ rw q)) y.place y)
      go false q = rw (judged i h x v b, q, level i h x v, push i h x v b (e ∙ rw q)) (ih (further i h x v b) (entry_on i h x v b (e ∙ rw q)))

  enter_in_lem : (d i : ℕ) → d + i ≡ p.length → (x : Climb) → Entry i x → Enters (enter_in d m p i x)
  unfolding enter_in at_code
  enter_in_lem zero i l x v =
      let f : i ≡ p.length = omega arith in
      record {
        good = sym (ap (λ (k : ℕ). unbroken M (stack_of ds k)) (sym f) ∙ v.good);
        entry = λ z. subst (λ (k : ℕ). Entry k (climb x.stack (place x.place.codes x.place.length p.next) x.table x.records)) f
            (record {
              len = v.len;
              long = v.long;
              clean = v.clean;
              same = v.same;
              good = v.good;
              controls = v.controls;
              table = v.table;
              holds = v.holds;
              records = v.records;
              stack = v.stack;
            });
        next = λ z. refl;
      }
  enter_in_lem (suc d) i l x v =
      let h : i < p.length = omega arith in
      let f : i + 1 ≡ suc i = omega arith in
      let g : d + suc i ≡ p.length = omega arith in
      let e : d + (i + 1) ≡ p.length = omega arith in
      rw (v.table, control_is i h x v, code_is i h x v)
      (by_went d i g h x v (λ y. enter_in d m p (i + 1) y) (λ y w. enter_in_lem d (i + 1) e y (subst (λ (k : ℕ). Entry k y) (sym f) w))
      (step_went m (c i h x v) (code i h x v)))

  entry_start : Entry 0 (climb (replicate 25 (fresh_control m)) start_place m.lines (replicate 288 0))
  unfolding start_place at unbroken stack_of
  entry_start = record {
    len = refl;
    long = length-replicate {A = ℕ} 24 0;
    clean = λ i h. zero_by (ltb i 24) i refl;
    same = λ k h. absurd (omega arith);
    good = refl;
    controls = λ k h. let e : k ≡ 0 = omega arith in rw e;
    table = refl;
    holds = J.none (replicate 288 0);
    records = length-replicate {A = ℕ} 288 0;
    stack = length-replicate {A = Control} 25 (fresh_control m);
  }
    where
      zero_by : (b : Bool) (i : ℕ) → ltb i 24 ≡ b → get_or {A = ℕ} (replicate 24 0) i 0 ≡ 0
      zero_by true i e = get_or-replicate {A = ℕ} 24 i 0 0 (ltb-true i 24 e)
      zero_by false i e =
          let h : length {A = ℕ} (replicate 24 0) ≤ i = omega (arith, length-replicate {A = ℕ} 24 0, ltb-false i 24 e) in
          get_or-eq_default {A = ℕ} (replicate 24 0) 0 h

  -- all steps of the schedule
  pub enter_join : Enters (enter_on m.lines (replicate 288 0) m p)
  unfolding enter_on
  enter_join = enter_in_lem p.length 0 (omega arith) (climb (replicate 25 (fresh_control m)) start_place m.lines (replicate 288 0)) entry_start

  -- so the program stands there, at the place with 0 past its schedule
  module _ (x : Climb) (v : Entry p.length x) where
    abbrev cs : List ℕ
    cs = x.place.codes

    stack_is : (k : ℕ) → k ≤ p.length → stack_of cs k ≡ stack_of ds k
    stack_is k h = stack_same cs ds k (λ i l. v.same i (omega arith))

    there_is : (k : ℕ) → k ≤ p.length → at M (stack_of cs k) ≡ at M (stack_of ds k)
    there_is k h = ap (at M) (stack_is k h)

    -- each shorter schedule's terms are the first of the table
    grown_to : (d i : ℕ) → d + i ≡ p.length → Grown (there m start J ds i).table (there m start J ds i).control.count x.table
        (there m start J ds p.length).control.count
    unfolding stack_of
    grown_to zero i e =
        let f : i ≡ p.length = omega arith in
        rw (f, v.table) grown_same
    grown_to (suc d) i e = grown_then (at_grows m start (get_or ds i 0) (stack_of ds i)) (grown_to d (suc i) (omega arith))

    deep_at_lem : (i : ℕ) → i ≤ p.length → Bounds (deepest x.table 0 0 (there m start J ds i).control.count) (there m start J ds i).table
        (there m start J ds i).control.count
    deep_at_lem i h a l =
        let s : Sane (there m start J ds i) = at_sane m start (stack_of ds i) in
        rw (← ((grown_to (p.length - i) i (omega arith)).below a l))
        (deeper_bounds x.table x.table 0 0 (there m start J ds i).control.count s.small (λ k f. refl) (λ k f. absurd (omega arith)) a l)

    pub entry_parts : Parts m start J x.stack (deeps_of x.table x.stack) x.table (there m start J x.place.codes p.length).control.count
        x.records x.place.codes p.length
    entry_parts =
        let e : at M (stack_of cs p.length) ≡ at M (stack_of ds p.length) = there_is p.length (omega arith) in
        record {
          good = rw (stack_is p.length (omega arith)) v.good;
          controls = λ i h. v.controls i h ∙ sym (ap (λ (y : LabelsConf). y.control) (there_is i h));
          depths = λ i h. rw (deeps_at x.table x.stack i, v.controls i h, there_is i h) (deep_at_lem i h);
          grown = rw (v.table, e) grown_same;
          holds = rw e v.holds;
        }

    pub entry_tidied : spot x.place.codes p.length p.next ≡ tidied p
    entry_tidied =
        let l : length (take p.length cs) ≡ p.length = length-take-le p.length cs (omega (arith, v.long)) in
        let r : length (take p.length ds) ≡ p.length = length-take-le p.length ds (omega arith) in
        let e : take p.length cs ≡ take p.length ds =
        ext_get_or 0 (take p.length cs) (take p.length ds) (l ∙ sym r)
        (λ i h. get_or-take p.length cs i 0 (omega arith) ∙ v.same i (omega arith) ∙ sym (get_or-take p.length ds i 0 (omega arith))) in
        ap (λ (y : List ℕ). spot y p.length p.next) (clean_padded cs p.length v.long (omega arith) v.clean ∙ ap padded e)
