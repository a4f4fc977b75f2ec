-- One turn of each loop: what is still to come, and what the end gives.
use Prim.Native.Nat.{ℕ, zero, suc, ◌+◌, ◌-◌, ◌<◌, ◌≤◌}
use mathlib.Core.Bool.{Bool, true, false}
use mathlib.Core.List.{List, [], ◌++◌, map, append-nil, append_assoc}
use mathlib.Core.Path.{◌≡◌, refl, sym, ap, subst, ◌∙◌}
use native.Mathlib.Numerals.{sub-one}
use native.Mathlib.Nat.{sub-add-eq, sub-eq-zero_of_le}
use native.Mathlib.Omega.{arith}
use lib.ListN.{length, get_or, take, drop, set, drop_of_length-le, length-set}
use lib.Seq.{drop-cons, take-suc-set, take_all, get_or-set_same, get_or-set_other}
use lib.Dec.{ltb}
use borrow.Author.Tests.{ltb-true}
use Rattle.std.specs.Prelude.{Result, Ok, Err}
use Rattle.terms.specs.Base.{pick}
use Rattle.state.specs.declared.refusal.Refusal.{Refusal}
use Rattle.model.specs.declared.records.Model.{Model}
use Rattle.state.specs.declared.control.Control.{Control}
use Rattle.rules.specs.Event.{record_of, record_put}
use Rattle.rules.specs.Happened.{happened_on}
use Rattle.rules.specs.Made.{control_after, layout_of}
use Rattle.rules.specs.Step.{stepped, stepped_in, step_on}
use Rattle.rules.specs.declared.event.Happening.{Happening}
use Rattle.quiet.specs.Quiet.{deepest}
use Rattle.machine.specs.Recorded.{Left}
use Rattle.search.specs.Place.{at_code, level_of, pushed, code_in, popped, is_done, settle_in, settled}
use Rattle.search.specs.Enter.{no_control, reply_of, control_at, Climb, entered, enter_step, enter_in}
use Rattle.search.specs.Turn.{goes, stands_at, turned, enters, step_of, Lent, lent, turn_on}
use Rattle.search.specs.Search.{longer_by, longer, Scene, scene, quiet_at, passes_soon, passes_late, spent_all, entered_late, entered_by, scene_after, deep_at}
use Rattle.search.specs.Search.{turned_on, walk_in, walk_on}
use Rattle.search.specs.declared.place.Place.{Place}
use Rattle.search.specs.Enter.{Entered}
use Rattle.search.specs.declared.turn.Walk.{Walk}
use Rattle.search.specs.declared.turn.Step.{Step}
use Rattle.search.specs.declared.turn.Turned.{Turned}
use Rattle.search.specs.declared.turn.Task.{Task}
use Rattle.search.proofs.Falls.{turns_left, turns_fall, turn_falls, turn_enters}

-- settled
done_by : (b : Bool) (n : ℕ) → pick b false (ltb 0 n) ≡ true → 0 < n
done_by true n e = let z : ◌≡◌ {A = ℕ} 0 1 = ap (λ (b : Bool). pick b 1 0) e in absurd (omega arith)
done_by false n e = ltb-true 0 n e

pub done_long : (p : Place) → is_done p ≡ true → 0 < p.length
unfolding is_done
done_long p e = done_by (ltb p.next 164) p.length e

popped_length : (p : Place) → (popped p).length ≡ p.length - 1
unfolding popped
popped_length p = refl

pub settle_more : (p : Place) → is_done p ≡ true → settled p ≡ settled (popped p)
unfolding settled settle_in
settle_more p e = go p.length (done_long p e) ∙ ap (λ n. settle_in n (popped p)) (sym (popped_length p))
  where
    go : (n : ℕ) → 0 < n → settle_in n p ≡ settle_in (n - 1) (popped p)
    go zero h = absurd (omega arith)
    go (suc n) h = rw (e, sub-one)

pub settle_end : (p : Place) → is_done p ≡ false → settled p ≡ p
unfolding settled settle_in
settle_end p e = go p.length
  where
    go : (n : ℕ) → settle_in n p ≡ p
    go zero = refl
    go (suc n) = rw e

-- enter
module _ (m : Model) (p : Place) (i : ℕ) (x : Climb) where
  abbrev further : (Climb → Left Entered) → Left Entered
  further rest =
      enter_step
      (step_on x.table (control_at x.stack i) (layout_of m) m.machine_count (code_in p.codes i))
      rest
      m.claim
      i
      (code_in p.codes i)
      x

  enter_step_lem : (n : ℕ) → 0 < n → enter_in n m p i x ≡ further (λ y. enter_in (n - 1) m p (i + 1) y)
  unfolding enter_in
  enter_step_lem zero h = absurd (omega arith)
  enter_step_lem (suc n) h = rw sub-one

  pub enter_more : (n : ℕ) → i < n → enter_in (n - i) m p i x ≡ further (λ y. enter_in (n - (i + 1)) m p (i + 1) y)
  enter_more n h = rw (sub-add-eq, enter_step_lem (n - i) (omega arith))

  pub enter_end : (n : ℕ) → n ≤ i → enter_in (n - i) m p i x ≡ entered true (at_code x.place p.next) x
  unfolding enter_in
  enter_end n h = rw sub-eq-zero_of_le

-- deeps_of: numbers that are put already, of the part f of each configuration, and those still to come
module _ {A B : Type 0} (f : A → B) (stack : List A) where
  abbrev pub Spread : List B → ℕ → Type 0
  Spread deeps i = (map f stack ≡ take i deeps ++ map f (drop i stack)) × (length deeps ≡ 25) × (length stack ≡ 25) × (i ≤ 25)

  pub spread_next : (d : A) (deeps : List B) (i : ℕ) → Spread deeps i → i < 25 → Spread (set deeps i (f (get_or stack i d))) (i + 1)
  spread_next d deeps i (e, h, g, l) k =
      let a : i + 1 ≡ suc i = omega arith in (
        rw (e, drop-cons stack i d (omega arith), a, take-suc-set deeps i (f (get_or stack i d)) (omega arith), append_assoc),
        length-set deeps i (f (get_or stack i d)) ∙ h,
        g,
        omega arith,
      )

  pub spread_all : (deeps : List B) (i : ℕ) → Spread deeps i → 25 ≤ i → deeps ≡ map f stack
  spread_all deeps i (e, h, g, l) k = sym (rw (e, take_all i deeps (omega arith), drop_of_length-le stack {i = i} (omega arith), append-nil))

-- the walk: a turn leaves fewer turns
spent_most : (w : Walk) → (spent_all w).left ≤ w.left
unfolding spent_all
spent_most w = omega arith

module _ (m : Model) (k : Task) where
  left_by : (soon late : Bool) (x y z : Scene) (n : ℕ) → x.walk.left ≤ n → y.walk.left ≤ n → z.walk.left ≤ n
      → (pick soon x (pick late y z)).walk.left ≤ n
  left_by true late x y z n f g h = f
  left_by false true x y z n f g h = g
  left_by false false x y z n f g h = h

  entered_left : (quiet : Bool) (r : Lent Turned) (p : Place) (h : Happening) (c : Control) (d level : ℕ) (stack : List Control) (deeps : List ℕ)
      → (entered_by m k quiet r p h c d level stack deeps).walk.left ≤ r.out.walk.left
  entered_left quiet r p h c d level stack deeps =
      let w : Walk = r.out.walk in
      let kept : List Control = set stack (level + 1) c in
      let deep : List ℕ = set deeps (level + 1) d in
      left_by
      (passes_soon quiet d k.outline r.table c.frame.slots m.actions)
      (passes_late quiet r.table c.frame.slots c.values c.vars m.actions)
      (scene (spent_all w) stack deeps r.table r.records r.room)
      (scene (spent_all w) kept deep r.table r.records r.room)
      (scene
      (stands_at w w.found (pushed p (step_of r.out).code) (step_of r.out).labels.count true)
      kept
      deep
      r.table
      (record_put r.records p.length (record_of h))
      r.room)
      w.left
      (spent_most w)
      (spent_most w)
      (omega arith)

  falls_by : (b : Bool) (n : ℕ) (r : Turned) (y z : Scene) → enters r ≡ b → turns_left r.walk < n + 1 → (enters r ≡ true → r.walk.left < n)
      → y.walk.left ≤ r.walk.left → turns_left z.walk ≡ turns_left r.walk → turns_left (pick b y z).walk < n + 1
  falls_by true n r y z e h g f i = turns_fall y.walk n (omega (arith, g e))
  falls_by false n r y z e h g f i = rw i h

  after_falls : (n : ℕ) (r : Lent Turned) (p : Place) (s : Control) (d level : ℕ) (stack : List Control) (deeps : List ℕ)
      → turns_left r.out.walk < n + 1 → (enters r.out ≡ true → r.out.walk.left < n)
      → turns_left (scene_after m k r p s d level stack deeps).walk < n + 1
  after_falls n r p s d level stack deeps h g =
      let e : Happening = happened_on s.frame m.actions m.lengths (step_of r.out).code (step_of r.out).labels in
      let c : Control = control_after s (layout_of m) (step_of r.out).code (step_of r.out).labels in
      let deep : ℕ = deepest r.table d s.count (step_of r.out).labels.count in
      let quiet : Bool = quiet_at r.out.walk.left p.length k c.frame.slots m.lengths c.count in
      falls_by
      (enters r.out)
      n
      r.out
      (entered_by m k quiet r p e c deep level stack deeps)
      (scene r.out.walk stack deeps r.table r.records r.room)
      refl
      h
      g
      (entered_left quiet r p e c deep level stack deeps)
      refl

  turned_falls : (x : Scene) → turns_left (turned_on m k x).walk < x.walk.left + 1
  unfolding turned_on
  turned_falls x =
      let s : Control = control_at x.stack x.walk.place.length in
      after_falls
      x.walk.left
      (turn_on x.table x.records x.room s x.walk m k)
      x.walk.place
      s
      (deep_at x.deeps x.walk.place.length)
      (level_of x.walk.place.length)
      x.stack
      x.deeps
      (turn_falls x.walk x.table x.records x.room s m k)
      (turn_enters x.walk x.table x.records x.room s m k)

  pub turned_less : (x : Scene) → goes x.walk ≡ true → turns_left (turned_on m k x).walk < turns_left x.walk
  turned_less x e = subst (λ (b : Bool). turns_left (turned_on m k x).walk < pick b (x.walk.left + 1) 0) (sym e) (turned_falls x)

  pub rests : (j : ℕ) (x : Scene) → goes x.walk ≡ false → walk_in j m k x ≡ x
  unfolding walk_in
  rests zero x e = refl
  rests (suc j) x e = rw e

  goes_more : (j : ℕ) (x : Scene) → goes x.walk ≡ true → 0 < j → walk_in j m k x ≡ walk_in (j - 1) m k (turned_on m k x)
  unfolding walk_in
  goes_more zero x e h = absurd (omega arith)
  goes_more (suc j) x e h = rw (e, sub-one)

  starts : (n : ℕ) (x : Scene) → goes x.walk ≡ true → walk_in (suc n) m k x ≡ walk_in n m k (turned_on m k x)
  unfolding walk_in
  starts n x e = rw e

  none_left : (b : Bool) (x : Scene) → goes x.walk ≡ b → turns_left x.walk ≤ 0 → goes x.walk ≡ false
  none_left true x e h = absurd (let o : x.walk.left + 1 ≤ 0 = rw e at h in omega arith)
  none_left false x e h = e

  enough_by : (b : Bool) (n j : ℕ) (x : Scene) → goes x.walk ≡ b
      → ((i : ℕ) (y : Scene) → turns_left y.walk ≤ n → turns_left y.walk ≤ i → walk_in n m k y ≡ walk_in i m k y)
      → turns_left x.walk ≤ suc n → turns_left x.walk ≤ j → walk_in (suc n) m k x ≡ walk_in j m k x
  enough_by false n j x e f h g = rests (suc n) x e ∙ sym (rests j x e)
  enough_by true n j x e f h g =
      let a : x.walk.left + 1 ≤ suc n = rw e at h in
      let b : x.walk.left + 1 ≤ j = rw e at g in
      starts n x e
      ∙ f (j - 1) (turned_on m k x) (omega (arith, turned_falls x)) (omega (arith, turned_falls x))
      ∙ sym (goes_more j x e (omega arith))

  -- turns beyond those that a walk can take change nothing
  enough : (n j : ℕ) (x : Scene) → turns_left x.walk ≤ n → turns_left x.walk ≤ j → walk_in n m k x ≡ walk_in j m k x
  enough zero j x h g =
      let e : goes x.walk ≡ false = none_left (goes x.walk) x refl h in
      rests zero x e ∙ sym (rests j x e)
  enough (suc n) j x h g = enough_by (goes x.walk) n j x refl (λ i y. enough n i y) h g

  turns_most : (b : Bool) (n : ℕ) → pick b (n + 1) 0 ≤ n + 1
  turns_most true n = omega arith
  turns_most false n = omega arith

  pub walk_more : (x : Scene) → goes x.walk ≡ true → walk_on m k x ≡ walk_on m k (turned_on m k x)
  unfolding walk_on
  walk_more x e =
      goes_more (x.walk.left + 1) x e (omega arith)
      ∙ enough
      (x.walk.left + 1 - 1)
      ((turned_on m k x).walk.left + 1)
      (turned_on m k x)
      (omega (arith, turned_falls x))
      (turns_most (goes (turned_on m k x).walk) (turned_on m k x).walk.left)

  pub walk_end : (x : Scene) → goes x.walk ≡ false → walk_on m k x ≡ x
  unfolding walk_on
  walk_end x e = rests (x.walk.left + 1) x e

-- a configuration put one level up, and the one below it
module _ (stack : List Control) (i : ℕ) (c : Control) where
  pub put_at : length stack ≡ 25 → i < 24 → get_or (set stack (i + 1) c) (i + 1) no_control ≡ c
  put_at long small = get_or-set_same stack (i + 1) c no_control (omega arith)

  pub below_at : get_or (set stack (i + 1) c) i no_control ≡ get_or stack i no_control
  below_at = get_or-set_other stack (i + 1) i c no_control (λ e. omega arith)

-- a level's row, which is a configuration and the depth of its deepest term, is read back as it was put
pub row_put : (stack : List Control) (deeps : List ℕ) (i : ℕ) (c : Control) (d : ℕ) → length stack ≡ 25 → length deeps ≡ 25 → i < 24
    → (get_or (set stack (i + 1) c) (i + 1) no_control ≡ c) × (get_or (set deeps (i + 1) d) (i + 1) 0 ≡ d)
row_put stack deeps i c d long all small = (put_at stack i c long small, get_or-set_same deeps (i + 1) d 0 (omega arith))

-- where a schedule of n + 1 codes is entered, or passed late, its level's row is read back so
module _ (m : Model) (k : Task) (r : Lent Turned) (p : Place) (h : Happening) (c : Control) (d n : ℕ) (stack : List Control) (deeps : List ℕ)
    (long : length stack ≡ 25) (all : length deeps ≡ 25) (small : n + 1 < 24) where
  abbrev pub Reads : Scene → Type 0
  Reads y = (control_at y.stack (n + 1) ≡ c) × (deep_at y.deeps (n + 1) ≡ d)

  reads : (control_at (set stack (n + 1) c) (n + 1) ≡ c) × (deep_at (set deeps (n + 1) d) (n + 1) ≡ d)
  reads = let a : level_of (n + 1) ≡ n + 1 = omega arith in rw a (row_put stack deeps n c d long all (omega arith))

  late_reads : (late : Bool) → Reads (entered_late late r p h (set stack (n + 1) c) (set deeps (n + 1) d))
  late_reads true = reads
  late_reads false = reads

  pub row_read : (quiet : Bool) → passes_soon quiet d k.outline r.table c.frame.slots m.actions ≡ false
      → Reads (entered_by m k quiet r p h c d (level_of n) stack deeps)
  row_read quiet e =
      let a : level_of n ≡ n = omega arith in
      rw (e, a) (late_reads (passes_late quiet r.table c.frame.slots c.values c.vars m.actions))

-- a step's reply beside the configuration
pub stepped_is : (r : Result Happening Refusal) (s : Control) → stepped_in r s ≡ stepped (reply_of r) s
stepped_is (Ok h) s = refl
stepped_is (Err e) s = refl

-- a configuration whose slots alone are written anew
abbrev pub with_slots : Control → List ℕ → Control
with_slots s slots = record {
  frame = record { slots = slots; locks = s.frame.locks; steps = s.frame.steps; serial = s.frame.serial; nonce = s.frame.nonce };
  values = s.values;
  vars = s.vars;
  count = s.count;
}

-- the room plays no part where a schedule is entered
abbrev pub with_room : List ℕ → Scene → Scene
with_room room x = scene x.walk x.stack x.deeps x.table x.records room

three_rooms : (room : List ℕ) (soon late : Bool) (x y z : Scene)
    → with_room room (pick soon x (pick late y z)) ≡ pick soon (with_room room x) (pick late (with_room room y) (with_room room z))
three_rooms room true late x y z = refl
three_rooms room false true x y z = refl
three_rooms room false false x y z = refl

entered_room : (m : Model) (k : Task) (quiet : Bool) (t l room : List ℕ) (p : Place) (v : Walk) (f : Step) (h : Happening) (c : Control) (d level : ℕ)
    (stack : List Control) (deeps : List ℕ)
    → with_room room (entered_by m k quiet (lent (turned v true f.code f.labels) t l []) p h c d level stack deeps)
    ≡ entered_by m k quiet (lent (turned v true f.code f.labels) t l room) p h c d level stack deeps
entered_room m k quiet t l room p v f h c d level stack deeps =
    let kept : List Control = set stack (level + 1) c in
    let deep : List ℕ = set deeps (level + 1) d in
    three_rooms
    room
    (passes_soon quiet d k.outline t c.frame.slots m.actions)
    (passes_late quiet t c.frame.slots c.values c.vars m.actions)
    (scene (spent_all v) stack deeps t l [])
    (scene (spent_all v) kept deep t l [])
    (scene
    (stands_at v v.found (pushed p f.code) f.labels.count true)
    kept
    deep
    t
    (record_put l p.length (record_of h))
    [])

pub longer_room : (m : Model) (k : Task) (t l room : List ℕ) (p : Place) (v : Walk) (f : Step) (stack : List Control) (deeps : List ℕ)
    → with_room room (longer m k t l p v f stack deeps)
    ≡ longer_by m k (lent (turned v true f.code f.labels) t l room) p (control_at stack p.length) (deep_at deeps p.length)
    (level_of p.length) stack deeps
unfolding longer
longer_room m k t l room p v f stack deeps =
    let s : Control = control_at stack p.length in
    let c : Control = control_after s (layout_of m) f.code f.labels in
    entered_room
    m
    k
    (quiet_at v.left p.length k c.frame.slots m.lengths c.count)
    t
    l
    room
    p
    v
    f
    (happened_on s.frame m.actions m.lengths f.code f.labels)
    c
    (deepest t (deep_at deeps p.length) s.count f.labels.count)
    (level_of p.length)
    stack
    deeps
