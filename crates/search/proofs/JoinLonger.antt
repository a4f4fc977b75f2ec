-- A permitted code that breaks nothing, on a schedule that stays shorter than the bound: the longer schedule is entered. Where
-- nothing is entered from it in turn and all its codes are plain, they are passed at once.
use Prim.Native.Nat.{ℕ, suc, ◌+◌, ◌-◌, ◌<◌, ◌≤◌}
use mathlib.Core.Bool.{Bool, true, false}
use mathlib.Core.List.{List, ◌∷◌}
use mathlib.Core.Logic.{◌⊎◌, inl, inr}
use mathlib.Core.Path.{◌≡◌, refl, sym, ap, ◌∙◌, subst}
use native.Mathlib.Omega.{arith}
use lib.ListN.{length, get_or, set, length-set}
use lib.Seq.{get_or-set_same, get_or-set_other}
use lib.Dec.{eqb}
use borrow.Author.Tests.{eqb-true, eqb-false, lt-ltb}
use Rattle.terms.specs.Base.{pick}
use Rattle.terms.proofs.Back.{grown_same}
use Rattle.model.specs.declared.records.Model.{Model}
use Rattle.state.specs.Code.{is_code, code_after}
use Rattle.state.specs.declared.control.Control.{Control}
use Rattle.state.proofs.Threads.{never}
use Rattle.rules.specs.Event.{record_of, record_put}
use Rattle.rules.specs.Made.{control_after, layout_of}
use Rattle.rules.specs.declared.event.Happening.{Happening}
use Rattle.rules.specs.declared.work.Labels.{Labels}
use Rattle.rules.specs.Worked as W
use Rattle.machine.specs.Claim.{breaks_claim}
use Rattle.walk.specs.Machine.{Machine}
use Rattle.walk.specs.Machine as O
use Rattle.walk.specs.Trail.{plain, mark_of}
use Rattle.walk.specs.Place.{from, at, unbroken}
use Rattle.walk.specs.Array.{stack_of, settled_in, after_in}
use Rattle.walk.specs.List.{list_walk}
use Rattle.walk.proofs.Array.{stack_set, stack_push}
use Rattle.walk.proofs.Loop.{push_zero}
use Rattle.walk.proofs.List.{list_whole}
use Rattle.quiet.specs.Quiet.{deepest, outline_of, all_near, shallow}
use Rattle.quiet.proofs.Bounds.{Bounds, deeper_grown}
use Rattle.law.specs.Machines.{LabelsConf}
use Rattle.tries.specs.Labels.{real_codes, try_code, labels}
use Rattle.tries.proofs.Codes.{codes_long, from_after, labels_coded}
use Rattle.tries.proofs.Along.{Sane, work_at, event_at, conf_at, at_sane}
use Rattle.tries.proofs.Judging.{Judging}
use Rattle.search.specs.Place.{at_code}
use Rattle.search.specs.Enter.{no_control}
use Rattle.search.specs.Turn.{walk, between, past, stands_at, turned, lent}
use Rattle.search.specs.Search.{Scene, scene, quiet_at, passes_soon, passes_late, spent_all, scene_after, turned_on, task}
use Rattle.search.specs.Shown.{spot_of}
use Rattle.search.specs.declared.answer.Kind.TheVariants.{Found, End}
use Rattle.search.specs.declared.turn.Walk.{Walk}
use Rattle.search.specs.declared.turn.Task.{Task}
use Rattle.search.proofs.JoinPlace.{settle_code, settle_start}
use Rattle.search.proofs.JoinStand.{Quiet, Parts}
use Rattle.search.proofs.JoinPass.{quiet_parts, soon_parts, late_parts, back_is}
use Rattle.search.proofs.JoinShows.{conf_of, let_of, Inv, list_of, Turns, goes_on, room_after, j_small, parts, turned_is, inv_on, some_room}
use Rattle.search.proofs.JoinSought.{Tries}
use Rattle.search.proofs.JoinTried.{rest_of, after_of, longer_of, after_is, tried_is, fewer, cut_is, grows, holds, judged, parts_on, push, goes_is}
use Rattle.search.proofs.JoinTurn as T

-- labels b come of the code, and the event breaks nothing
module _ {m : Model} {start : Sane (labels m).fresh} {J : Judging m} {n B : ℕ} {x : Scene} (a : Tries m start J n B x)
    (b : Labels) (o : (work_at m (conf_of m x) (let_of m x)).out ≡ W.Done b)
    (e : breaks_claim m.claim (conf_of m x).events (event_at m (conf_of m x) (let_of m x) b) ≡ false) where
  abbrev M : Machine
  M = labels m

  abbrev cs : List ℕ
  cs = x.walk.place.codes

  abbrev j : ℕ
  j = x.walk.place.length

  abbrev nx : ℕ
  nx = x.walk.place.next

  abbrev c : LabelsConf
  c = conf_of m x

  abbrev s : Control
  s = c.control

  abbrev k : Task
  k = task m n

  abbrev r : ℕ
  r = room_after x

  abbrev code : ℕ
  code = let_of m x

  abbrev rest : ℕ
  rest = rest_of m x

  abbrev v : Inv m start J n B x
  v = a.inv

  abbrev table : List ℕ
  table = (work_at m c code).table

  abbrev event : Happening
  event = event_at m c code b

  -- the configuration there, the depth of its deepest term, and the stack with both
  abbrev control : Control
  control = control_after s (layout_of m) code b

  abbrev deep : ℕ
  deep = deepest table (get_or x.deeps j 0) s.count b.count

  abbrev stack : List Control
  stack = set x.stack (j + 1) control

  abbrev deeps : List ℕ
  deeps = set x.deeps (j + 1) deep

  stack_long : length stack ≡ 25
  stack_long = length-set x.stack (j + 1) control ∙ v.stack

  deeps_long : length deeps ≡ 25
  deeps_long = length-set x.deeps (j + 1) deep ∙ v.deeps

  enter_at : at M (code ∷ stack_of cs j) ≡ conf_at m c code b
  unfolding at
  enter_at = rw (goes_is a b o e)

  enter_stack : stack_of (set cs j code) (suc j) ≡ code ∷ stack_of cs j
  enter_stack = stack_push cs j code (omega (arith, v.stands.long, j_small v))

  enter_good : unbroken M (code ∷ stack_of cs j) ≡ true
  unfolding unbroken
  enter_good = rw ((parts v).good, goes_is a b o e)

  enter_conf : at M (stack_of (set cs j code) (suc j)) ≡ conf_at m c code b
  enter_conf = ap (at M) enter_stack ∙ enter_at

  count_is : control.count ≡ b.count
  unfolding control_after
  count_is = refl

  deep_bounds : Bounds deep table b.count
  deep_bounds =
      let d : Sane c = at_sane m start (stack_of cs j) in
      deeper_grown (get_or x.deeps j 0) d.small (grows a b o) ((parts v).depths j (omega arith))

  -- The schedule is entered

  enter_control : (i : ℕ) → i ≤ suc j → (q : Bool) → eqb i (suc j) ≡ q → get_or stack i no_control ≡ (at M (stack_of (set cs j code) i)).control
  enter_control i h true q =
      let g : i ≡ suc j = eqb-true i (suc j) q in
      rw g (ap (λ (y : ℕ). get_or (set x.stack y control) (suc j) no_control) (omega arith)
      ∙ get_or-set_same x.stack (suc j) control no_control (omega (arith, v.stack, j_small v)) ∙ sym (ap (λ (y : LabelsConf). y.control) enter_conf))
  enter_control i h false q =
      let d : i ≡ suc j → ⊥ = eqb-false i (suc j) q in
      get_or-set_other x.stack (j + 1) i control no_control (λ f. d (f ∙ omega arith)) ∙ (parts v).controls i (omega arith)
      ∙ ap (λ (up : List ℕ). (at M up).control) (sym (stack_set cs i j code (omega arith)))

  enter_depth : (i : ℕ) → i ≤ suc j → (q : Bool) → eqb i (suc j) ≡ q →
      Bounds (get_or deeps i 0) (at M (stack_of (set cs j code) i)).table (at M (stack_of (set cs j code) i)).control.count
  enter_depth i h true q =
      let g : i ≡ suc j = eqb-true i (suc j) q in
      let f : j + 1 ≡ suc j = omega arith in
      rw (g, f, enter_conf, get_or-set_same x.deeps (suc j) deep 0 (omega (arith, v.deeps, j_small v)), count_is) deep_bounds
  enter_depth i h false q =
      let d : i ≡ suc j → ⊥ = eqb-false i (suc j) q in
      rw (get_or-set_other x.deeps (j + 1) i deep 0 (λ f. d (f ∙ omega arith)), stack_set cs i j code (omega arith))
      ((parts v).depths i (omega arith))

  abbrev records : List ℕ
  records = record_put x.records j (record_of event)

  enter_parts : Parts m start J stack deeps table b.count records (set cs j code) (suc j)
  enter_parts = record {
    good = rw enter_stack enter_good;
    controls = λ i h. enter_control i h (eqb i (suc j)) refl;
    depths = λ i h. enter_depth i h (eqb i (suc j)) refl;
    grown = rw (enter_conf, count_is) grown_same;
    holds = rw enter_conf (holds a b o);
  }

  -- it is shorter than the bound
  module _ (h : suc j < n) where
    -- its codes are to be listed, all of them
    ahead : list_of m n B x ≡
        list_walk M rest n (settled_in M (set cs j code) (suc j) real_codes) (suc r) (suc (B - x.walk.left + between nx code)) x.walk.sized
    unfolding after_in
    ahead = tried_is a (O.goes (conf_at m c code b)) (goes_is a b o e) ∙ rw (lt-ltb (suc j) n h)

    abbrev enter_scene : Scene
    enter_scene = scene (walk (longer_of m x) rest x.walk.sized x.walk.found b.count true Found) stack deeps table records x.room

    -- they are tried from the first on
    at_enter : Turns m start J n B x enter_scene
    unfolding is_code
    at_enter =
        let t : suc (B - x.walk.left + between nx code) ≡ B - rest = omega (arith, a.more, a.enough, v.left) in
        let l : list_of m n B x ≡ list_of m n B enter_scene =
        ahead ∙ rw (settle_start m (set cs j code) (suc j), t, some_room v a.run) in
        let i : Inv m start J n B enter_scene = record {
          bound = v.bound;
          limit = v.limit;
          stands = record {
            parts = enter_parts;
            long = length-set cs j code ∙ v.stands.long;
            clean = push_zero cs j code v.stands.clean;
            short = h;
            next = refl;
          };
          settled = settle_code m (set cs j code) (suc j) 0 refl;
          left = omega (arith, fewer a, v.left);
          sized = omega (arith, v.sized, fewer a);
          found = omega (arith, v.found, fewer a);
          going = sym a.run ∙ v.going;
          kind = λ z. absurd (never true refl z);
          records = J.long x.records j event ∙ v.records;
          stack = stack_long;
          deeps = deeps_long;
        } in
        goes_on i (fewer a) l refl refl

    -- Or all its codes are plain, and nothing is entered from there: the walk stays behind it

    abbrev pass_scene : List Control → List ℕ → Scene
    pass_scene st ds =
        scene (walk (after_of m x) (rest - 160) x.walk.sized x.walk.found b.count true End) st ds table x.records x.room

    at_passed : (st : List Control) (ds : List ℕ) → Parts m start J st ds table b.count x.records cs j →
        length st ≡ 25 → length ds ≡ 25 → 160 ≤ rest → n ≤ j + 2 →
        ((i : ℕ) → mark_of (try_code m (at M (code ∷ stack_of cs j)) i) ≡ plain) → Turns m start J n B x (pass_scene st ds)
    at_passed st ds p sl dl left last plains =
        let t : ℕ = suc (B - x.walk.left + between nx code) in
        let z : spot_of (after_of m x) ≡ settled_in M cs j (from (suc code) real_codes) = after_is a ∙ ap (settled_in M cs j) (sym (from_after code)) in
        let w = list_whole M (labels_coded m) n (set cs j code) (suc j) rest r t x.walk.sized (omega arith) (rw enter_stack plains)
        (omega (arith, codes_long)) in
        let u : t + 160 ≡ B - (rest - 160) = omega (arith, a.more, a.enough, v.left) in
        let d : list_of m n B x ≡ list_of m n B (pass_scene st ds) =
        ahead ∙ w ∙ rw (codes_long, back_is m cs j code v.stands.long (j_small v) v.stands.clean, u, some_room v a.run, z) in
        let i : Inv m start J n B (pass_scene st ds) =
        inv_on v (pass_scene st ds) (suc code) z p (omega (arith, fewer a)) (omega (arith, v.sized, fewer a)) (omega (arith, v.found, fewer a))
        (sym a.run ∙ v.going) (λ f. absurd (never true refl f)) v.records sl dl in
        goes_on i (omega (arith, fewer a)) d refl refl

    parts_over : Parts m start J stack deeps table b.count x.records cs j
    parts_over = record {
      good = (parts v).good;
      controls = λ i l. get_or-set_other x.stack (j + 1) i control no_control (λ f. omega (arith, f, l)) ∙ (parts v).controls i l;
      depths = λ i l. rw (get_or-set_other x.deeps (j + 1) i deep 0 (λ f. omega (arith, f, l))) ((parts v).depths i l);
      grown = grows a b o;
      holds = (parts v).holds;
    }

    -- the tests before it
    module _ (Q : Quiet m) where
      abbrev quiet : Bool
      quiet = quiet_at rest j k control.frame.slots m.lengths control.count

      abbrev soon : Bool
      soon = passes_soon quiet deep (outline_of m) table control.frame.slots m.actions

      abbrev late : Bool
      late = passes_late quiet table control.frame.slots control.values control.vars m.actions

      plain_soon : quiet ≡ true → (shallow deep (outline_of m) ≡ true) ⊎ (all_near table control.frame.slots m.actions deep ≡ true) →
          (i : ℕ) → mark_of (try_code m (at M (code ∷ stack_of cs j)) i) ≡ plain
      plain_soon f (inl low) =
          let g = quiet_parts rest j k control.frame.slots m.lengths control.count f in
          Q.soon (code ∷ stack_of cs j) deep (rw enter_at g.calm) low (rw (enter_at, count_is) deep_bounds)
      plain_soon f (inr low) =
          let g = quiet_parts rest j k control.frame.slots m.lengths control.count f in
          Q.near (code ∷ stack_of cs j) deep (rw enter_at g.calm) (rw enter_at low) (rw (enter_at, count_is) deep_bounds)

      at_soon : soon ≡ true → Turns m start J n B x (pass_scene x.stack x.deeps)
      at_soon f =
          let p = soon_parts quiet deep (outline_of m) table control.frame.slots m.actions f in
          let g = quiet_parts rest j k control.frame.slots m.lengths control.count p.0 in
          at_passed x.stack x.deeps (parts_on a b o) v.stack v.deeps g.budget g.last (plain_soon p.0 p.1)

      at_late : late ≡ true → Turns m start J n B x (pass_scene stack deeps)
      at_late f =
          let p = late_parts quiet table control.frame.slots control.values control.vars m.actions f in
          let g = quiet_parts rest j k control.frame.slots m.lengths control.count p.0 in
          at_passed stack deeps parts_over stack_long deeps_long g.budget g.last
          (Q.late (code ∷ stack_of cs j) (rw enter_at g.calm) (rw enter_at p.1))

      -- what the tests choose
      abbrev chosen : Bool → Bool → Scene
      chosen f g = pick f (pass_scene x.stack x.deeps) (pick g (pass_scene stack deeps) enter_scene)

      by_tests : (f g : Bool) → soon ≡ f → late ≡ g → Turns m start J n B x (chosen f g)
      by_tests true g f l = at_soon f
      by_tests false true f l = at_late l
      by_tests false false f l = at_enter

      abbrev gone : Walk
      gone = past x.walk (code_after code) (between nx code + 1)

      entered_is : scene_after m k
          (lent (turned (stands_at gone gone.found gone.place b.count true) true code b) table x.records x.room)
          x.walk.place s (get_or x.deeps j 0) j x.stack x.deeps ≡ chosen soon late
      unfolding past at_code spent_all
      entered_is = rw (push a b o)

      pub at_entered : Turns m start J n B x (turned_on m k x)
      at_entered =
          subst (Turns m start J n B x)
          (sym (turned_is v _ (T.turn_enter x.table x.records x.room s x.walk m k a.low a.enough
          (work_at m c code) b a.high a.more (cut_is a) o (judged a b o ∙ e) (omega arith)) ∙ entered_is))
          (by_tests soon late refl refl)
