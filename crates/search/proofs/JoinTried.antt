-- A code is tried: refused, and the walk goes past it; or permitted. A permitted code that breaks the claim is found; one that
-- makes the schedule as long as the bound is passed.
use Prim.Native.Nat.{ℕ, suc, ◌+◌, ◌-◌, ◌<◌, ◌≤◌}
use mathlib.Core.Bool.{Bool, true, false}
use mathlib.Core.List.{List, [], ◌∷◌, ◌++◌}
use mathlib.Core.Path.{◌≡◌, refl, sym, ap, ◌∙◌, subst}
use native.Mathlib.Omega.{arith}
use lib.ListN.{length, get_or, set}
use lib.Dec.{eqb, ltb}
use borrow.Author.Tests.{lt-ltb, le-ltb}
use Rattle.terms.specs.Base.{pick, Held}
use Rattle.terms.specs.Table.{cut_to}
use Rattle.terms.proofs.Back.{Grown, cut_back}
use Rattle.model.specs.Fields.{either}
use Rattle.model.specs.declared.records.Model.{Model}
use Rattle.state.specs.Code.{code_after}
use Rattle.state.specs.Early.{early_of}
use Rattle.state.specs.declared.control.Control.{Control}
use Rattle.state.proofs.Sought.{seek_first}
use Rattle.state.specs.declared.ended.Ended.{Ended}
use Rattle.state.proofs.Threads.{never}
use Rattle.rules.specs.Event.{record_of, record_put}
use Rattle.rules.specs.Happened.{ended_on}
use Rattle.rules.specs.Work.{work_on}
use Rattle.rules.specs.declared.event.Happening.{Happening}
use Rattle.rules.specs.declared.work.Labels.{Labels}
use Rattle.rules.specs.Worked.{Worked}
use Rattle.rules.specs.Worked as W
use Rattle.rules.proofs.Back.{WorkKept, work_kept, work_back}
use Rattle.rules.proofs.Back as K
use Rattle.rules.proofs.Parts.{happened_ended}
use Rattle.machine.specs.Claim.{breaks_claim}
use Rattle.machine.specs.Judge.{broken_by}
use Rattle.walk.specs.Machine.{Machine, Outcome}
use Rattle.walk.specs.Machine as O
use Rattle.walk.specs.Trail.{mark_of}
use Rattle.walk.specs.Place.{from}
use Rattle.walk.specs.Array.{stack_of, word_of, settled_in, after_in}
use Rattle.walk.specs.List.{with_words, list_turn, list_walk}
use Rattle.walk.proofs.Array.{length_stack}
use Rattle.walk.proofs.List.{list_turn_lem}
use Rattle.law.specs.Machines.{LabelsConf}
use Rattle.tries.specs.Labels.{real_codes, try_code, labels}
use Rattle.tries.proofs.Codes.{after_next, from_after}
use Rattle.tries.proofs.Along.{Sane, sight_at, work_at, event_at, conf_at, try_refused, try_done, at_sane, at_long}
use Rattle.tries.proofs.Judging.{Judging}
use Rattle.search.specs.Place.{place, at_code, pushed, settled}
use Rattle.search.specs.Answer.{room_for}
use Rattle.search.specs.Turn.{walk, between, one_try_more, past, one_sized, refused_by, found_on, still, lent}
use Rattle.search.specs.Search.{Scene, scene, scene_after, turned_on, task}
use Rattle.search.specs.Shown.{spot_of, word_put}
use Rattle.search.specs.declared.place.Place.{Place}
use Rattle.search.specs.declared.answer.Kind.TheVariants.{Found, End}
use Rattle.search.specs.declared.turn.Task.{Task}
use Rattle.search.proofs.JoinPlace.{spot, settle_code, settle_is, push_is}
use Rattle.search.proofs.JoinStand.{Parts}
use Rattle.search.proofs.JoinRoom.{put_is, room_kept}
use Rattle.search.proofs.JoinShows.{goes_if, found_if, conf_of, let_of, Inv, list_of, Turns, goes_on, meets, room_after}
use Rattle.search.proofs.JoinShows.{j_small, parts, turned_is, inv_on, some_room}
use Rattle.search.proofs.JoinSought.{Tries, reach, code_real, not_none}
use Rattle.search.proofs.JoinTurn as T

one_try_more_lem : (i : ℕ) → i < 4294967295 → one_try_more i ≡ i + 1
unfolding one_try_more
one_try_more_lem i h = rw (lt-ltb i 4294967295 h)

-- the table as it was, and a count of terms that is no smaller
grown_wide : {l t : List ℕ} {c d : ℕ} → Grown l c t d → Grown l c l d
grown_wide g = record { rises = g.rises; fits = g.fits; long = refl; below = λ i h. refl; past = λ i h. refl }

-- the work of a permitted code makes the table grow
done_grown : {l : List ℕ} {i : ℕ} {w : Held Worked} (b : Labels) → WorkKept l i w → w.out ≡ W.Done b → Grown l i w.table b.count
done_grown b K.refused e = absurd (let z : ◌≡◌ {A = ℕ} 0 1 = cc in omega arith)
done_grown b (K.done {r = a} g) e = let f : a ≡ b = cc in rw (← f) g

-- the budget that is left behind the code, and the place there
abbrev pub rest_of : Model → Scene → ℕ
rest_of m x = x.walk.left - (between x.walk.place.next (let_of m x) + 1)

abbrev pub after_of : Model → Scene → Place
after_of m x = settled (place x.walk.place.codes x.walk.place.length (code_after (let_of m x)))

-- the schedule with the code
abbrev pub longer_of : Model → Scene → Place
longer_of m x = place (set x.walk.place.codes x.walk.place.length (let_of m x)) (suc x.walk.place.length) 0

module _ {m : Model} {start : Sane (labels m).fresh} {J : Judging m} {n B : ℕ} {x : Scene} (a : Tries m start J n B x) where
  abbrev M : Machine
  M = labels m

  abbrev cs : List ℕ
  cs = x.walk.place.codes

  abbrev j : ℕ
  j = x.walk.place.length

  abbrev nx : ℕ
  nx = x.walk.place.next

  abbrev c : LabelsConf
  c = conf_of m x

  abbrev s : Control
  s = c.control

  abbrev k : Task
  k = task m n

  abbrev r : ℕ
  r = room_after x

  abbrev code : ℕ
  code = let_of m x

  abbrev rest : ℕ
  rest = rest_of m x

  abbrev after : Place
  after = after_of m x

  abbrev v : Inv m start J n B x
  v = a.inv

  abbrev turn : Type 0
  turn = Turns m start J n B x (turned_on m k x)

  pub after_is : spot_of after ≡ settled_in M cs j (from (code_after code) real_codes)
  after_is = settle_is m (place cs j (code_after code)) (omega (arith, j_small v)) (after_next code)

  pub tried_is : (o : Outcome LabelsConf) → try_code m c code ≡ o →
      list_of m n B x ≡ list_turn (mark_of o) (word_of (spot cs j code)) (after_in M n (spot cs j code) o) r (list_walk M rest n)
      (B - x.walk.left + between nx code) x.walk.sized
  tried_is o e =
      let f : x.walk.left - between nx code ≡ suc rest = omega (arith, a.more, a.enough) in
      (rw (f, settle_code m cs j code (code_real v a.run a.low a.enough a.high)) at (reach v a.run a.low a.enough)) ∙
      list_turn_lem M n (spot cs j code) r (B - x.walk.left + between nx code) x.walk.sized rest o
      (not_none v a.run a.low a.enough a.high) e

  -- on from the place after it
  on_after : (i z : ℕ) →
      list_walk M rest n (settled_in M cs j (from (suc code) real_codes)) i (suc (B - x.walk.left + between nx code)) z ≡ list_walk M rest n
      (spot_of after) i (B - rest) z
  on_after i z =
      let t : suc (B - x.walk.left + between nx code) ≡ B - rest = omega (arith, a.more, a.enough, v.left) in
      rw (from_after code, t, after_is)

  pub fewer : rest < x.walk.left
  fewer = omega (arith, a.more, a.enough)

  some_left : 1 ≤ x.walk.left
  some_left = omega (arith, a.more, a.enough)

  lets : early_of (sight_at m c) code ≡ 0
  lets = (seek_first (sight_at m c) nx).given a.high

  here : Sane c
  here = at_sane m start (stack_of cs j)

  -- the table is cut back before
  pub cut_is : work_on (cut_to x.table s.count x.walk.filled) s m.actions code ≡ work_at m c code
  cut_is = ap (λ (t : List ℕ). work_on t s m.actions code) (cut_back here.small here.zeros (parts v).grown)

  -- refused: the walk goes past it, and counts it where it was refused for size
  module _ (i : ℕ) (o : (work_at m c code).out ≡ W.Refused i) where
    table_back : (work_at m c code).table ≡ c.table
    table_back = work_back c.table s here.small here.zeros m.actions code i o

    parts_back : Parts m start J x.stack x.deeps (work_at m c code).table x.walk.filled x.records cs j
    parts_back = record {
      good = (parts v).good;
      controls = (parts v).controls;
      depths = (parts v).depths;
      grown = rw table_back (grown_wide (parts v).grown);
      holds = (parts v).holds;
    }

    abbrev onward : ℕ → Scene
    onward z =
        scene (walk after rest z x.walk.found x.walk.filled true End)
        x.stack x.deeps (work_at m c code).table x.records x.room

    inv_onward : (z : ℕ) → z + rest ≤ B → Inv m start J n B (onward z)
    inv_onward z h =
        inv_on v (onward z) (code_after code) after_is parts_back (omega (arith, fewer)) h (omega (arith, v.found, fewer)) (sym a.run ∙ v.going)
        (λ f. absurd (never true refl f)) v.records v.stack v.deeps

    on_plain : try_code m c code ≡ O.refused → Turns m start J n B x (onward x.walk.sized)
    unfolding after_in
    on_plain e =
        goes_on (inv_onward x.walk.sized (omega (arith, v.sized, fewer))) fewer
        (tried_is O.refused e ∙ on_after (suc r) x.walk.sized ∙ rw (some_room v a.run)) refl refl

    on_sized : try_code m c code ≡ O.too_big → Turns m start J n B x (onward (x.walk.sized + 1))
    unfolding after_in
    on_sized e =
        let f : suc x.walk.sized ≡ x.walk.sized + 1 = omega arith in
        goes_on (inv_onward (x.walk.sized + 1) (omega (arith, v.sized, a.more, a.enough))) fewer
        (tried_is O.too_big e ∙ on_after (suc r) (suc x.walk.sized) ∙ rw (some_room v a.run, f)) refl refl

    sized_is : one_sized (past x.walk (code_after code) (between nx code + 1)) ≡ walk after rest (x.walk.sized + 1) x.walk.found
        x.walk.filled true End
    unfolding one_sized past at_code
    sized_is = rw (one_try_more_lem x.walk.sized (omega (arith, v.sized, some_left, v.limit)))

    plain_is : past x.walk (code_after code) (between nx code + 1) ≡ walk after rest x.walk.sized x.walk.found x.walk.filled true End
    unfolding past at_code
    plain_is = refl

    by_number : (p q : Bool) → try_code m c code ≡ pick (either p q) O.too_big O.refused →
        Turns m start J n B x (scene (pick p (one_sized (past x.walk (code_after code) (between nx code + 1)))
        (pick q (one_sized (past x.walk (code_after code) (between nx code + 1))) (past x.walk (code_after code) (between nx code + 1))))
        x.stack x.deeps (work_at m c code).table x.records x.room)
    by_number true q e = rw sized_is (on_sized e)
    by_number false true e = rw sized_is (on_sized e)
    by_number false false e = rw plain_is (on_plain e)

    pub at_refused : turn
    unfolding refused_by
    at_refused =
        subst (Turns m start J n B x)
        (sym (turned_is v _ (T.turn_refused x.table x.records x.room s x.walk m k a.low a.enough
        (work_at m c code) i a.high a.more cut_is o)))
        (by_number (eqb i 8) (eqb i 9) (try_refused m c code i lets o))

  -- permitted, with labels b
  module _ (b : Labels) (o : (work_at m c code).out ≡ W.Done b) where
    abbrev event : Happening
    event = event_at m c code b

    abbrev longer : Place
    longer = longer_of m x

    pub grows : Grown c.table s.count (work_at m c code).table b.count
    grows = done_grown b (work_kept c.table s here.small here.zeros m.actions code) o

    events_long : length c.events ≡ j
    events_long = at_long m start (stack_of cs j) (parts v).good ∙ length_stack cs j

    pub holds : J.Holds (record_put x.records j (record_of event)) (c.events ++ (event ∷ []))
    holds =
        rw events_long at
        (J.put x.records c.events s.frame code b (omega (arith, events_long, j_small v, v.records)) (parts v).holds)

    pub judged : broken_by x.records j (ended_on s.frame.slots m.actions m.lengths code) m.claim ≡ breaks_claim m.claim c.events event
    judged =
        ap (λ (q : Ended). broken_by x.records j q m.claim) (sym (happened_ended s.frame m.actions m.lengths code b)) ∙
        (rw events_long at (J.ending x.records c.events event (parts v).holds))

    pub parts_on : Parts m start J x.stack x.deeps (work_at m c code).table b.count x.records cs j
    parts_on = record {
      good = (parts v).good;
      controls = (parts v).controls;
      depths = (parts v).depths;
      grown = grows;
      holds = (parts v).holds;
    }

    pub push : pushed x.walk.place code ≡ longer
    push = push_is m x.walk.place code (j_small v) (omega (arith, a.high))

    abbrev word : List ℕ
    word = word_of (spot cs j code)

    -- bad: found, and not entered
    abbrev found_scene : Scene
    found_scene =
        scene (walk after rest x.walk.sized (x.walk.found + 1) b.count
        (ltb (x.walk.found + 1) (room_for (word_put x.room x.walk.found word))) Found)
        x.stack x.deeps (work_at m c code).table x.records (word_put x.room x.walk.found word)

    found_is : scene_after m k
        (lent (still (found_on x.room (past x.walk (code_after code) (between nx code + 1)) longer b.count).out)
        (work_at m c code).table x.records
        (found_on x.room (past x.walk (code_after code) (between nx code + 1)) longer b.count).table)
        x.walk.place s (get_or x.deeps j 0) j x.stack x.deeps ≡ found_scene
    unfolding found_on past at_code
    found_is =
        rw (
          one_try_more_lem x.walk.found (omega (arith, v.found, some_left, v.limit)),
          put_is x.room x.walk.found cs j code
              v.stands.long (j_small v) v.stands.clean,
        )

    pub at_found : breaks_claim m.claim c.events event ≡ true → turn
    unfolding after_in
    at_found e =
        let t : try_code m c code ≡ O.breaks = try_done m c code b lets o ∙ rw e in
        let i : Inv m start J n B found_scene =
        inv_on v found_scene (code_after code) after_is parts_on (omega (arith, fewer)) (omega (arith, v.sized, fewer))
        (omega (arith, v.found, a.more, a.enough))
        (goes_if (ltb found_scene.walk.found (room_for found_scene.room)))
        (λ f. found_if (ltb found_scene.walk.found (room_for found_scene.room))) v.records v.stack v.deeps in
        let l : list_of m n B x ≡ with_words (word ∷ []) (list_of m n B found_scene) =
        tried_is O.breaks t ∙ ap (with_words (word ∷ [])) (on_after r x.walk.sized ∙ rw (room_kept x.room x.walk.found word)) in
        subst (Turns m start J n B x)
        (sym (turned_is v _ (T.turn_found x.table x.records x.room s x.walk m k a.low a.enough
        (work_at m c code) b a.high a.more cut_is o longer push (judged ∙ e))
        ∙ found_is))
        (meets word i fewer l refl refl)

    -- not bad, and as long as the bound: not entered
    abbrev bound_scene : Scene
    bound_scene =
        scene (walk after rest x.walk.sized x.walk.found b.count true Found)
        x.stack x.deeps (work_at m c code).table x.records x.room

    pub goes_is : breaks_claim m.claim c.events event ≡ false → try_code m c code ≡ O.goes (conf_at m c code b)
    goes_is e = try_done m c code b lets o ∙ rw e

    pub at_bound : breaks_claim m.claim c.events event ≡ false → n ≤ suc j → turn
    unfolding after_in past at_code
    at_bound e h =
        let i : Inv m start J n B bound_scene =
        inv_on v bound_scene (code_after code) after_is parts_on (omega (arith, fewer)) (omega (arith, v.sized, fewer)) (omega (arith, v.found, fewer))
        (sym a.run ∙ v.going) (λ f. absurd (never true refl f)) v.records v.stack v.deeps in
        let d : list_of m n B x ≡ list_walk M rest n (settled_in M cs j (from (suc code) real_codes)) (suc r)
        (suc (B - x.walk.left + between nx code)) x.walk.sized =
        tried_is (O.goes (conf_at m c code b)) (goes_is e) ∙ rw (le-ltb (suc j) n h) in
        let l : list_of m n B x ≡ list_of m n B bound_scene = d ∙ on_after (suc r) x.walk.sized ∙ rw (some_room v a.run) in
        subst (Turns m start J n B x)
        (sym (turned_is v _ (T.turn_bound x.table x.records x.room s x.walk m k a.low a.enough
        (work_at m c code) b a.high a.more cut_is o (judged ∙ e) (omega arith))))
        (goes_on i fewer l refl refl)
