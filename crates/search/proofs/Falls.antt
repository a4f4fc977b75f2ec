-- Every turn that leaves the walk going spends of the budget, so that the walk ends.
use Prim.Native.Nat.{ℕ, ◌+◌, ◌-◌, ◌<◌, ◌≤◌}
use mathlib.Core.Bool.{Bool, true, false}
use mathlib.Core.List.{List}
use mathlib.Core.Path.{◌≡◌, refl, sym, ap, ◌∙◌}
use native.Mathlib.Omega.{arith}
use lib.Dec.{eqb, ltb, leb}
use borrow.Author.Tests.{ltb-true, ltb-false, leb-true, leb-false, eqb-false}
use Rattle.terms.specs.Base.{pick, Held}
use Rattle.terms.specs.Table.{cut_to}
use Rattle.state.specs.Code.{codes_below, code_after}
use Rattle.state.specs.Early.{sight_of}
use Rattle.state.specs.Seek.{seek_from}
use Rattle.state.proofs.Codes.{below_over}
use Rattle.model.specs.declared.records.Model.{Model}
use Rattle.state.specs.declared.control.Control.{Control}
use Rattle.rules.specs.Happened.{ended_on}
use Rattle.rules.specs.Work.{work_on}
use Rattle.rules.specs.declared.work.Labels.{Labels}
use Rattle.rules.specs.Worked.{Worked}
use Rattle.rules.specs.Worked as W
use Rattle.machine.specs.Judge.{broken_by}
use Rattle.search.specs.Place.{at_code, pushed}
use Rattle.search.specs.Turn.{goes, enters, between, reached, closed, past, one_sized, refused_by, found_on, still, entering}
use Rattle.search.specs.Turn.{Lent, lent, lent_found, tried_by, tried_with, passing, seeking, turn_on}
use Rattle.search.specs.declared.place.Place.{Place}
use Rattle.search.specs.declared.answer.Kind.{Kind}
use Rattle.search.specs.declared.answer.Kind.TheVariants.{Stop, End}
use Rattle.search.specs.declared.turn.Walk.{Walk}
use Rattle.search.specs.declared.turn.Turned.{Turned}
use Rattle.search.specs.declared.turn.Task.{Task}

-- how many turns a walk can still take
abbrev pub turns_left : Walk → ℕ
turns_left w = pick (goes w) (w.left + 1) 0

turns_by : (b : Bool) (n i : ℕ) → i < n → pick b (i + 1) 0 < n + 1
turns_by true n i h = omega arith
turns_by false n i h = omega arith

-- a walk with less left takes fewer
pub turns_fall : (w : Walk) (n : ℕ) → w.left < n → turns_left w < n + 1
turns_fall w n h = turns_by (goes w) n w.left h

none_by : (b : Bool) (n i : ℕ) → b ≡ false → pick b (i + 1) 0 < n + 1
none_by b n i e = rw e (omega arith)

below_by : (a b c : Bool) (n : ℕ) → n < 164 → ltb n 12 ≡ a → ltb n 16 ≡ b → ltb n 164 ≡ c → pick a n (pick b 12 (pick c (n - 4) 160)) < 160
below_by true b c n h p q r = omega (arith, ltb-true n 12 p)
below_by false true c n h p q r = omega arith
below_by false false true n h p q r = omega (arith, ltb-false n 16 q)
below_by false false false n h p q r = absurd (omega (arith, ltb-false n 164 r))

below_most : (n : ℕ) → n < 164 → codes_below n < 160
unfolding codes_below
below_most n h = below_by (ltb n 12) (ltb n 16) (ltb n 164) n h refl refl refl

-- from a code to 164 there is at least that code
some_passed : (next code : ℕ) → next < 164 → 164 ≤ code → 0 < between next code
unfolding between
some_passed next code h g = omega (arith, below_most next h, below_over code g)

sized_left : (v : Walk) → (one_sized v).left ≡ v.left
unfolding one_sized
sized_left v = refl

refused_by_lem : (a b : Bool) (v : Walk) → (pick a (one_sized v) (pick b (one_sized v) v)).left ≡ v.left
refused_by_lem true b v = sized_left v
refused_by_lem false true v = sized_left v
refused_by_lem false false v = refl

refused_left : (v : Walk) (n : ℕ) → (refused_by v n).left ≡ v.left
unfolding refused_by
refused_left v n = refused_by_lem (eqb n 8) (eqb n 9) v

found_left : (room : List ℕ) (v : Walk) (q : Place) (filled : ℕ) → (found_on room v q filled).out.left ≡ v.left
unfolding found_on
found_left room v q filled = refl

entering_left : (v : Walk) (n code : ℕ) (b : Labels) (bound : ℕ) → (entering v n code b bound).walk.left ≡ v.left
unfolding entering
entering_left v n code b bound = refl

done_by : (x : Bool) (a b : Lent Turned) (n : ℕ) → a.out.walk.left ≡ n → b.out.walk.left ≡ n → (pick x a b).out.walk.left ≡ n
done_by true a b n p q = p
done_by false a b n p q = q

-- a try, refused or permitted, spends what going past the code spends
pub tried_left : (r : Worked) (t l room : List ℕ) (s : Control) (v : Walk) (p : Place) (g : Model) (code : ℕ) (k : Task)
    → (tried_by r t l room s v p g code k).out.walk.left ≡ v.left
tried_left (W.Refused n) t l room s v p g code k = refused_left v n
tried_left (W.Done b) t l room s v p g code k =
    done_by
    (broken_by l p.length (ended_on s.frame.slots g.actions g.lengths code) g.claim)
    (lent_found (found_on room v (pushed p code) b.count) t l)
    (lent (entering v p.length code b k.bound) t l room)
    v.left
    (found_left room v (pushed p code) b.count)
    (entering_left v p.length code b k.bound)

closed_ends : (w : Walk) (p : Place) (n : ℕ) (kind : Kind) → goes (closed w p n kind) ≡ false
unfolding closed
closed_ends w p n kind = refl

pub past_left : (w : Walk) (next n : ℕ) → (past w next n).left ≡ w.left - n
unfolding past
past_left w next n = refl

module _ (w : Walk) where
  closed_turns : (p : Place) (n : ℕ) (kind : Kind) → turns_left (closed w p n kind) < w.left + 1
  closed_turns p n kind = none_by (goes (closed w p n kind)) w.left (closed w p n kind).left (closed_ends w p n kind)

  fewer : (n : ℕ) → (w.left ≡ n → ⊥) → n ≤ w.left → w.left - (n + 1) < w.left
  fewer n u o = omega arith

  pass_by : (x y z : Bool) (n code : ℕ) (a b c d : Lent Turned) → (164 ≤ code → 0 < n)
      → ltb w.left n ≡ x → leb 164 code ≡ y → eqb w.left n ≡ z
      → turns_left a.out.walk < w.left + 1
      → b.out.walk.left ≡ w.left - n
      → turns_left c.out.walk < w.left + 1
      → d.out.walk.left ≡ w.left - (n + 1)
      → turns_left (pick x a (pick y b (pick z c d))).out.walk < w.left + 1
  pass_by true y z n code a b c d h p q r e f g i = e
  pass_by false true z n code a b c d h p q r e f g i =
      turns_fall b.out.walk w.left (rw f (omega (arith, h (leb-true 164 code q), ltb-false w.left n p)))
  pass_by false false true n code a b c d h p q r e f g i = g
  pass_by false false false n code a b c d h p q r e f g i =
      turns_fall d.out.walk w.left (rw i (fewer n (eqb-false w.left n r) (ltb-false w.left n p)))

  clash : (b : Bool) → b ≡ false → b ≡ true → ⊥
  clash b e f = let z : ◌≡◌ {A = ℕ} 0 1 = ap (λ (x : Bool). pick x 1 0) (sym e ∙ f) in omega arith

  enter_by : (x y z : Bool) (n : ℕ) (a b c d : Lent Turned)
      → ltb w.left n ≡ x → eqb w.left n ≡ z
      → (enters a.out) ≡ false → (enters b.out) ≡ false → (enters c.out) ≡ false
      → d.out.walk.left ≡ w.left - (n + 1)
      → enters (pick x a (pick y b (pick z c d))).out ≡ true
      → (pick x a (pick y b (pick z c d))).out.walk.left < w.left
  enter_by true y z n a b c d p r e f g i h = absurd (clash (enters a.out) e h)
  enter_by false true z n a b c d p r e f g i h = absurd (clash (enters b.out) f h)
  enter_by false false true n a b c d p r e f g i h = absurd (clash (enters c.out) g h)
  enter_by false false false n a b c d p r e f g i h = rw i (fewer n (eqb-false w.left n r) (ltb-false w.left n p))

  module _ (t l room : List ℕ) (s : Control) (g : Model) (k : Task) where
    passing_turns : (n code : ℕ) → (164 ≤ code → 0 < n) → turns_left (passing n code t l room s w g k).out.walk < w.left + 1
    passing_turns n code h =
        let q : Place = at_code w.place (reached w.place.next w.left) in
        let r : Held Worked = work_on (cut_to t s.count w.filled) s g.actions code in
        let v : Walk = past w (code_after code) (n + 1) in
        pass_by
        (ltb w.left n)
        (leb 164 code)
        (eqb w.left n)
        n
        code
        (lent (still (closed w q w.left Stop)) t l room)
        (lent (still (past w code n)) t l room)
        (lent (still (closed w (at_code w.place code) n Stop)) t l room)
        (tried_with r l room s v w.place g code k)
        h
        refl
        refl
        refl
        (closed_turns q w.left Stop)
        (past_left w code n)
        (closed_turns (at_code w.place code) n Stop)
        (tried_left r.out r.table l room s v w.place g code k ∙ past_left w (code_after code) (n + 1))

    turn_by : (x : Bool) (code : ℕ) → leb 164 w.place.next ≡ x
        → turns_left (pick x (lent (still (closed w w.place 0 End)) t l room) (seeking code t l room s w g k)).out.walk < w.left + 1
    turn_by true code e = closed_turns w.place 0 End
    turn_by false code e = passing_turns (between w.place.next code) code (some_passed w.place.next code (leb-false 164 w.place.next e))

    pub turn_falls : turns_left (turn_on t l room s w g k).out.walk < w.left + 1
    unfolding turn_on
    turn_falls = turn_by (leb 164 w.place.next) (seek_from (sight_of s.frame g.actions g.locations g.machine_count) w.place.next) refl

    passing_enters : (n code : ℕ) → enters (passing n code t l room s w g k).out ≡ true → (passing n code t l room s w g k).out.walk.left < w.left
    passing_enters n code =
        let q : Place = at_code w.place (reached w.place.next w.left) in
        let r : Held Worked = work_on (cut_to t s.count w.filled) s g.actions code in
        let v : Walk = past w (code_after code) (n + 1) in
        enter_by
        (ltb w.left n)
        (leb 164 code)
        (eqb w.left n)
        n
        (lent (still (closed w q w.left Stop)) t l room)
        (lent (still (past w code n)) t l room)
        (lent (still (closed w (at_code w.place code) n Stop)) t l room)
        (tried_with r l room s v w.place g code k)
        refl
        refl
        refl
        refl
        refl
        (tried_left r.out r.table l room s v w.place g code k ∙ past_left w (code_after code) (n + 1))

    enters_by : (x : Bool) (code : ℕ)
        → enters (pick x (lent (still (closed w w.place 0 End)) t l room) (seeking code t l room s w g k)).out ≡ true
        → (pick x (lent (still (closed w w.place 0 End)) t l room) (seeking code t l room s w g k)).out.walk.left < w.left
    enters_by true code h = absurd (clash false refl h)
    enters_by false code h = passing_enters (between w.place.next code) code h

    -- a turn that enters a schedule spends
    pub turn_enters : enters (turn_on t l room s w g k).out ≡ true → (turn_on t l room s w g k).out.walk.left < w.left
    unfolding turn_on
    turn_enters = enters_by (leb 164 w.place.next) (seek_from (sight_of s.frame g.actions g.locations g.machine_count) w.place.next)
