-- One turn of the program's walk, case by case.
use Prim.Native.Nat.{ℕ, ◌+◌, ◌<◌, ◌≤◌}
use mathlib.Core.Bool.{Bool, true, false}
use mathlib.Core.List.{List}
use mathlib.Core.Path.{◌≡◌, ap, ◌∙◌}
use borrow.Author.Tests.{lt-ltb, le-ltb, le-leb, lt-leb, eq-eqb, ne_eqb}
use Rattle.terms.specs.Base.{Held}
use Rattle.terms.specs.Table.{cut_to}
use Rattle.state.specs.Code.{code_after}
use Rattle.state.specs.Early.{sight_of}
use Rattle.state.specs.Seek.{seek_from}
use Rattle.model.specs.declared.records.Model.{Model}
use Rattle.state.specs.declared.control.Control.{Control}
use Rattle.rules.specs.Happened.{ended_on}
use Rattle.rules.specs.Work.{work_on}
use Rattle.rules.specs.declared.work.Labels.{Labels}
use Rattle.rules.specs.Worked.{Worked}
use Rattle.rules.specs.Worked as W
use Rattle.machine.specs.Judge.{broken_by}
use Rattle.search.specs.Place.{at_code, pushed}
use Rattle.search.specs.Turn.{between, reached, closed, past, refused_by, stands_at, found_on, turned, still, entering}
use Rattle.search.specs.Turn.{lent, tried_by, tried_with, turn_on}
use Rattle.search.specs.declared.place.Place.{Place}
use Rattle.search.specs.declared.answer.Kind.TheVariants.{Stop, End}
use Rattle.search.specs.declared.turn.Walk.{Walk}
use Rattle.search.specs.declared.turn.Task.{Task}

module _ (t l room : List ℕ) (s : Control) (w : Walk) (g : Model) (k : Task) where
  abbrev pub next_of : ℕ
  next_of = w.place.next

  -- the code that is let through, or 164
  abbrev pub code : ℕ
  code = seek_from (sight_of s.frame g.actions g.locations g.machine_count) next_of

  pub turn_end : 164 ≤ next_of → turn_on t l room s w g k ≡ lent (still (closed w w.place 0 End)) t l room
  unfolding turn_on
  turn_end h = rw (le-leb 164 next_of h)

  module _ (low : next_of < 164) where
    pub turn_out : w.left < between next_of code →
        turn_on t l room s w g k ≡ lent (still (closed w (at_code w.place (reached next_of w.left)) w.left Stop)) t l room
    unfolding turn_on
    turn_out h = rw (lt-leb 164 next_of low, lt-ltb w.left (between next_of code) h)

    module _ (enough : between next_of code ≤ w.left) where
      pub turn_none : 164 ≤ code → turn_on t l room s w g k ≡ lent (still (past w code (between next_of code))) t l room
      unfolding turn_on
      turn_none h = rw (lt-leb 164 next_of low, le-ltb w.left (between next_of code) enough, le-leb 164 code h)

      pub turn_stop : code < 164 → w.left ≡ between next_of code →
          turn_on t l room s w g k ≡ lent (still (closed w (at_code w.place code) (between next_of code) Stop)) t l room
      unfolding turn_on
      turn_stop h e = rw (lt-leb 164 next_of low, le-ltb w.left (between next_of code) enough, lt-leb 164 code h, eq-eqb _ _ e)

      -- the walk gone past the code
      abbrev pub gone_past : Walk
      gone_past = past w (code_after code) (between next_of code + 1)

      abbrev pub worked : Held Worked
      worked = work_on (cut_to t s.count w.filled) s g.actions code

      turn_tried : code < 164 → (w.left ≡ between next_of code → ⊥) → turn_on t l room s w g k ≡ tried_with worked l room s gone_past w.place g code k
      unfolding turn_on
      turn_tried h e = rw (lt-leb 164 next_of low, le-ltb w.left (between next_of code) enough, lt-leb 164 code h, ne_eqb _ _ e)

      pub turn_refused : (r : Held Worked) (n : ℕ) → code < 164 → (w.left ≡ between next_of code → ⊥) → worked ≡ r → r.out ≡ W.Refused n →
          turn_on t l room s w g k ≡ lent (still (refused_by gone_past n)) r.table l room
      turn_refused r n h e f o =
          turn_tried h e ∙ ap (λ (y : Held Worked). tried_with y l room s gone_past w.place g code k) f ∙ rw o

      -- permitted, with labels b
      module _ (r : Held Worked) (b : Labels) (h : code < 164) (e : w.left ≡ between next_of code → ⊥) (f : worked ≡ r) (o : r.out ≡ W.Done b) where
        turn_done : turn_on t l room s w g k ≡ tried_by (W.Done b) r.table l room s gone_past w.place g code k
        turn_done = turn_tried h e ∙ ap (λ (y : Held Worked). tried_with y l room s gone_past w.place g code k) f ∙ rw o

        -- its endings break the claim
        abbrev pub broken : Bool
        broken = broken_by l w.place.length (ended_on s.frame.slots g.actions g.lengths code) g.claim

        pub turn_found : (q : Place) → pushed w.place code ≡ q → broken ≡ true →
            turn_on t l room s w g k ≡ lent (still (found_on room gone_past q b.count).out) r.table l (found_on room gone_past q b.count).table
        turn_found q push x = turn_done ∙ rw (x, push)

        -- the walk gone past it, with its terms in the table
        abbrev pub stood : Walk
        stood = stands_at gone_past gone_past.found gone_past.place b.count true

        pub turn_bound : broken ≡ false → k.bound ≤ w.place.length + 1 →
            turn_on t l room s w g k ≡ lent (turned stood false code b) r.table l room
        unfolding entering
        turn_bound x y = turn_done ∙ rw (x, le-ltb (w.place.length + 1) k.bound y)

        pub turn_enter : broken ≡ false → w.place.length + 1 < k.bound →
            turn_on t l room s w g k ≡ lent (turned stood true code b) r.table l room
        unfolding entering
        turn_enter x y = turn_done ∙ rw (x, lt-ltb (w.place.length + 1) k.bound y)
