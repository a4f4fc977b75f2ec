-- The variables stay sound: "exactly the earlier variables bound". A thread that moves on binds one, a thread that ends,
-- jumps or is replaced has none, and a reset unbinds those of the threads that it ends.
use Prim.Native.Nat.{ℕ, zero, suc, ◌+◌, ◌*◌, ◌/◌, ◌<◌, ◌≤◌}
use mathlib.Core.Path.{◌≡◌, refl, ap, ◌∙◌}
use mathlib.Core.Bool.{Bool, true, false}
use mathlib.Core.List.{List, [], ◌∷◌}
use native.Mathlib.Omega.{arith}
use lib.ListN.{length, get_or, set, length-set, length-map}
use lib.Seq.{get_or-set_same, get_or-set_other}
use lib.Dec.{ltb, eqb}
use borrow.Author.Tests.{ltb-true, ltb-false, lt-ltb, le-ltb, leb-false, eqb-true, eqb-false}
use Rattle.terms.specs.Base.{pick, filled}
use Rattle.terms.specs.Promise.{Grows}
use Rattle.terms.proofs.Back.{fill_long, fill_before, fill_behind, fill_within}
use Rattle.terms.proofs.Meaning.{also_right, also_both}
use Rattle.model.specs.Records.{length_at}
use Rattle.model.proofs.Tests.{also_never}
use Rattle.state.specs.Slot.{thread, pack_slot, slot_in, slot_at}
use Rattle.state.specs.Moves.{with_slot, is_last, moved_on}
use Rattle.state.specs.Reset.{is_on, slot_reset, slots_reset}
use Rattle.state.specs.declared.slot.Slot.{Slot}
use Rattle.state.proofs.Pack.{SmallSlot, slot_small, slot_packed}
use Rattle.state.proofs.Threads.{never, reset_at}
use Rattle.state.proofs.Frame.{slot_there}
use Rattle.rules.specs.Effect.{place_of, with_var, cleared, bound}
use Rattle.rules.specs.Restart.{var_reset, each_slot, vars_reset}
use Rattle.audit.specs.Configuration.{is_bound}
use Rattle.audit.specs.Whole.{Stored, VarSound, SoundVars}
use Rattle.law.proofs.KeptWant.{stored_grows}
use Rattle.law.proofs.KeptFresh.{start_unbound, zero_start}

pub vars_more : {l : List ℕ} {c : ℕ} {k : List ℕ} {d : ℕ} {slots vars : List ℕ} → Grows l c k d → SoundVars l c slots vars → SoundVars k d slots vars
vars_more g s = record {
  long = s.long;
  each = λ i k h p. let t = s.each i k h p in record { bound = λ e. stored_grows g (t.bound e); unbound = t.unbound };
}

-- a slot after a store
module _ (slots : List ℕ) (twelve : length slots ≡ 12) (i n : ℕ) (h : i < 12) where
  pub slot_same : slot_at (with_slot slots i n) i ≡ slot_in n
  unfolding slot_at with_slot
  slot_same = rw (lt-ltb i 12 h, get_or-set_same slots i n 0 (omega arith))

  pub slot_other : (j : ℕ) → (j ≡ i → ⊥) → slot_at (with_slot slots i n) j ≡ slot_at slots j
  unfolding slot_at with_slot
  slot_other j d = rw (lt-ltb i 12 h, get_or-set_other slots i j n 0 d)

-- nothing is bound of it, and nothing stored
free_sound : (l : List ℕ) (c : ℕ) (s : Slot) (k v : ℕ) → is_bound s k ≡ false → v ≡ 0 → VarSound l c s k v
free_sound l c s k v f e = record { bound = λ b. absurd (never (is_bound s k) b f); unbound = λ b. e }

-- clearing a slot unbinds its variables, and no other
module _ (vars : List ℕ) (i : ℕ) (h : i < 12) where
  clear_fill : cleared 0 vars i ≡ filled 0 16 (i * 16 + 0) vars
  unfolding cleared place_of
  clear_fill = rw (lt-ltb i 12 h)

  pub clear_long : length (cleared 0 vars i) ≡ length vars
  clear_long = ap length clear_fill ∙ fill_long 0 16 (i * 16 + 0) vars

  clear_here : (k : ℕ) → k < 16 → get_or (cleared 0 vars i) (i * 16 + k) 0 ≡ 0
  clear_here k g = ap (λ (r : List ℕ). get_or r (i * 16 + k) 0) clear_fill ∙ fill_within 0 16 (i * 16 + 0) vars (i * 16 + k) (omega arith) (omega arith)

  clear_by : (b : Bool) (j k : ℕ) → ltb j i ≡ b → (j ≡ i → ⊥) → k < 16 → get_or (filled 0 16 (i * 16 + 0) vars) (j * 16 + k) 0 ≡ get_or vars (j * 16 + k) 0
  clear_by true j k e d g = let q = ltb-true j i e in fill_before 0 16 (i * 16 + 0) vars (j * 16 + k) (omega arith)
  clear_by false j k e d g = let q = ltb-false j i e in let r : i < j = omega (arith, d) in fill_behind 0 16 (i * 16 + 0) vars (j * 16 + k) (omega arith)

  clear_there : (j k : ℕ) → (j ≡ i → ⊥) → k < 16 → get_or (cleared 0 vars i) (j * 16 + k) 0 ≡ get_or vars (j * 16 + k) 0
  clear_there j k d g = ap (λ (r : List ℕ). get_or r (j * 16 + k) 0) clear_fill ∙ clear_by (ltb j i) j k refl d g

-- slot i gets a thread before its first action, or none
module _ {l : List ℕ} {c : ℕ} (slots vars : List ℕ) (s : SoundVars l c slots vars) (twelve : length slots ≡ 12) (i n : ℕ) (h : i < 12) where
  module _ (start : (slot_in n).position ≡ 0) where
    start_free : (k : ℕ) → is_bound (slot_at (with_slot slots i n) i) k ≡ false
    start_free k = rw (slot_same slots twelve i n h) (start_unbound (slot_in n) k start)

    clear_each : (b : Bool) (j k : ℕ) → eqb j i ≡ b → j < 12 → k < 16 → VarSound l c (slot_at (with_slot slots i n) j) k (get_or (cleared 0 vars i) (j * 16 + k) 0)
    clear_each true j k e p q = rw (eqb-true j i e) (free_sound l c _ k _ (start_free k) (clear_here vars i h k q))
    clear_each false j k e p q =
        let d : j ≡ i → ⊥ = eqb-false j i e in
        rw (slot_other slots twelve i n h j d, clear_there vars i h j k d q) (s.each j k p q)

    pub vars_cleared : SoundVars l c (with_slot slots i n) (cleared 0 vars i)
    vars_cleared = record { long = clear_long vars i h ∙ s.long; each = λ j k p q. clear_each (eqb j i) j k refl p q }

    -- where none was bound, none need be cleared
    put_each : ((k : ℕ) → is_bound (slot_at slots i) k ≡ false) → (b : Bool) (j k : ℕ) → eqb j i ≡ b → j < 12 → k < 16
        → VarSound l c (slot_at (with_slot slots i n) j) k (get_or vars (j * 16 + k) 0)
    put_each f true j k e p q = rw (eqb-true j i e) (free_sound l c _ k _ (start_free k) ((s.each i k h q).unbound (f k)))
    put_each f false j k e p q = rw (slot_other slots twelve i n h j (eqb-false j i e)) (s.each j k p q)

    pub vars_put : ((k : ℕ) → is_bound (slot_at slots i) k ≡ false) → SoundVars l c (with_slot slots i n) vars
    vars_put f = record { long = s.long; each = λ j k p q. put_each f (eqb j i) j k refl p q }

-- a live thread moves on and binds v
bound_live : (q : Slot) (k : ℕ) → q.live ≡ true → k < q.position → is_bound q k ≡ true
unfolding is_bound
bound_live q k e h = also_both e (lt-ltb k q.position h)

bound_below : (q : Slot) (k : ℕ) → is_bound q k ≡ true → k < q.position
unfolding is_bound
bound_below q k e = ltb-true k q.position (also_right q.live (ltb k q.position) e)

not_bound : (q : Slot) (k : ℕ) → q.position ≤ k → is_bound q k ≡ false
unfolding is_bound
not_bound q k h = rw (le-ltb k q.position h) (also_never q.live)

above : (q : Slot) (k : ℕ) → q.live ≡ true → is_bound q k ≡ false → q.position ≤ k
above q k e f = by (ltb k q.position) refl
  where
    by : (b : Bool) → ltb k q.position ≡ b → q.position ≤ k
    by true g = absurd (never (is_bound q k) (bound_live q k e (ltb-true k q.position g)) f)
    by false g = ltb-false k q.position g

small_there : (slots : List ℕ) (i : ℕ) → i < 12 → SmallSlot (slot_at slots i)
unfolding slot_at
small_there slots i h = rw (lt-ltb i 12 h) (slot_small (get_or slots i 0))

module _ {l : List ℕ} {c : ℕ} (slots vars : List ℕ) (s : SoundVars l c slots vars) (twelve : length slots ≡ 12) (i : ℕ) (h : i < 12)
    (live : (slot_at slots i).live ≡ true) (v : ℕ) (sv : Stored l c v) where
  abbrev q : Slot
  q = slot_at slots i

  abbrev onward : Slot
  onward = thread q.serial q.agent q.machine q.program (q.position + 1)

  module _ (room : q.position + 1 < 16) where
    onward_in : slot_in (pack_slot onward) ≡ onward
    onward_in =
        let t = small_there slots i h in
        slot_packed onward (record { serial = t.serial; agent = t.agent; machine = t.machine; program = t.program; position = omega arith })

    -- the variable of the action made, and another
    own_each : (b : Bool) (k : ℕ) → eqb k q.position ≡ b → k < 16 → VarSound l c onward k (get_or (set vars (i * 16 + q.position) v) (i * 16 + k) 0)
    own_each true k e g =
        let z : k ≡ q.position = eqb-true k q.position e in
        let w : i * 16 + q.position < length vars = omega (arith, s.long) in
        let u : get_or (set vars (i * 16 + q.position) v) (i * 16 + k) 0 ≡ v =
        ap (λ (x : ℕ). get_or (set vars (i * 16 + q.position) v) (i * 16 + x) 0) z ∙ get_or-set_same vars (i * 16 + q.position) v 0 w in
        rw u (record { bound = λ f. sv; unbound = λ f. absurd (omega (arith, z, above onward k refl f)) })
    own_each false k e g =
        let z : k ≡ q.position → ⊥ = eqb-false k q.position e in
        let u : get_or (set vars (i * 16 + q.position) v) (i * 16 + k) 0 ≡ get_or vars (i * 16 + k) 0 =
        get_or-set_other vars (i * 16 + q.position) (i * 16 + k) v 0 (λ x. z (omega arith)) in
        let t = s.each i k h g in
        rw u (record {
          bound = λ f. t.bound (bound_live q k live (below z (bound_below onward k f)));
          unbound = λ f. t.unbound (not_bound q k (past (above onward k refl f)));
        })
      where
        below : (k ≡ q.position → ⊥) → k < q.position + 1 → k < q.position
        below z f = omega (arith, z)

        past : q.position + 1 ≤ k → q.position ≤ k
        past f = omega arith

    moved_each : (b : Bool) (j k : ℕ) → eqb j i ≡ b → j < 12 → k < 16
        → VarSound l c (slot_at (with_slot slots i (pack_slot onward)) j) k (get_or (set vars (i * 16 + q.position) v) (j * 16 + k) 0)
    moved_each true j k e p g =
        rw (eqb-true j i e, slot_same slots twelve i (pack_slot onward) h, onward_in) (own_each (eqb k q.position) k refl g)
    moved_each false j k e p g =
        let d : j ≡ i → ⊥ = eqb-false j i e in
        let u : get_or (set vars (i * 16 + q.position) v) (j * 16 + k) 0 ≡ get_or vars (j * 16 + k) 0 =
        get_or-set_other vars (i * 16 + q.position) (j * 16 + k) v 0 (λ x. d (apart x)) in
        rw (slot_other slots twelve i (pack_slot onward) h j d, u) (s.each j k p g)
      where
        apart : j * 16 + k ≡ i * 16 + q.position → j ≡ i
        apart x = omega arith

    vars_moved : SoundVars l c (with_slot slots i (pack_slot onward)) (set vars (i * 16 + q.position) v)
    vars_moved = record { long = length-set vars (i * 16 + q.position) v ∙ s.long; each = λ j k p g. moved_each (eqb j i) j k refl p g }

    with_place : with_var vars i q.position v ≡ set vars (i * 16 + q.position) v
    unfolding with_var place_of
    with_place = let w : i * 16 + q.position < 192 = omega arith in rw (lt-ltb (i * 16 + q.position) 192 w)

  bound_by : (lengths : List ℕ) → ((p : ℕ) → length_at lengths p ≤ 16) → (b : Bool) → is_last lengths q ≡ b
      → SoundVars l c (with_slot slots i (pick b 0 (pack_slot onward))) (pick b (cleared 0 vars i) (with_var vars i q.position v))
  unfolding is_last
  bound_by lengths short true e = vars_cleared slots vars s twelve i 0 h zero_start
  bound_by lengths short false e =
      let r : q.position + 1 < 16 = omega (arith, leb-false (length_at lengths q.program) (q.position + 1) e, short q.program) in
      rw (with_place r) (vars_moved r)

  pub vars_bound : (lengths : List ℕ) → ((p : ℕ) → length_at lengths p ≤ 16)
      → SoundVars l c (with_slot slots i (moved_on lengths (slot_at slots i))) (bound 0 lengths vars i (slot_at slots i) v)
  unfolding moved_on bound
  vars_bound lengths short = bound_by lengths short (is_last lengths q) refl

-- a reset
slots_at : (f : ℕ → ℕ → ℕ) (i : ℕ) (vs slots : List ℕ) (j : ℕ) → j < length vs
    → get_or (each_slot f i vs slots) j 0 ≡ f (get_or vs j 0) (get_or slots ((i + j) / 16) 0)
unfolding each_slot
slots_at f i [] slots j h = absurd (omega arith)
slots_at f i (v ∷ vs) slots zero h = let e : i + 0 ≡ i = omega arith in rw e
slots_at f i (v ∷ vs) slots (suc j) h =
    let e : i + 1 + j ≡ i + suc j = omega arith in
    slots_at f (i + 1) vs slots j (omega arith) ∙ ap (λ (k : ℕ). f (get_or vs j 0) (get_or slots (k / 16) 0)) e

slots_long : (f : ℕ → ℕ → ℕ) (i : ℕ) (vs slots : List ℕ) → length (each_slot f i vs slots) ≡ length vs
unfolding each_slot
slots_long f i [] slots = refl
slots_long f i (v ∷ vs) slots = ap suc (slots_long f (i + 1) vs slots)

ended_by_lem : {l : List ℕ} {c : ℕ} (b : Bool) (n x v : ℕ) → VarSound l c (slot_in n) x v → VarSound l c (slot_in (pick b 0 n)) x (pick b 0 v)
ended_by_lem {l} {c} true n x v t = free_sound l c (slot_in 0) x 0 (start_unbound (slot_in 0) x zero_start) refl
ended_by_lem false n x v t = t

module _ {l : List ℕ} {c : ℕ} (slots vars : List ℕ) (s : SoundVars l c slots vars) (k : ℕ) where
  var_at : (j : ℕ) → j < 192 → get_or (vars_reset 0 vars slots k) j 0 ≡ var_reset 0 k (get_or vars j 0) (get_or slots (j / 16) 0)
  unfolding vars_reset
  var_at j h =
      slots_at (var_reset 0 k) 0 vars slots j (omega (arith, s.long))
      ∙ ap (λ (x : ℕ). var_reset 0 k (get_or vars j 0) (get_or slots (x / 16) 0)) (omega arith)

  slot_ended : (i : ℕ) → i < 12 → slot_at (slots_reset slots k) i ≡ slot_in (slot_reset k (get_or slots i 0))
  slot_ended i h = slot_there (slots_reset slots k) i h ∙ ap slot_in (reset_at k slots i)

  ended_each : (i x : ℕ) → i < 12 → x < 16 → VarSound l c (slot_in (slot_reset k (get_or slots i 0))) x (var_reset 0 k (get_or vars (i * 16 + x) 0) (get_or slots i 0))
  unfolding slot_reset var_reset
  ended_each i x h g = ended_by_lem (is_on (get_or slots i 0) k) (get_or slots i 0) x (get_or vars (i * 16 + x) 0) (rw (slot_there slots i h) at (s.each i x h g))

  reset_each : (i x : ℕ) → i < 12 → x < 16 → VarSound l c (slot_at (slots_reset slots k) i) x (get_or (vars_reset 0 vars slots k) (i * 16 + x) 0)
  reset_each i x h g =
      let d : (i * 16 + x) / 16 ≡ i = omega arith in
      rw (slot_ended i h, var_at (i * 16 + x) (omega arith), d) (ended_each i x h g)

  reset_long : length (vars_reset 0 vars slots k) ≡ length vars
  unfolding vars_reset
  reset_long = slots_long (var_reset 0 k) 0 vars slots

  vars_ended : SoundVars l c (slots_reset slots k) (vars_reset 0 vars slots k)
  vars_ended = record { long = reset_long ∙ s.long; each = reset_each }

  ended_long : length (slots_reset slots k) ≡ length slots
  unfolding slots_reset
  ended_long = length-map slots (slot_reset k)

  dead_unbound : (q : Slot) (x : ℕ) → q.live ≡ false → is_bound q x ≡ false
  unfolding is_bound
  dead_unbound q x e = rw e

  -- the boot thread stands in a slot that was free
  pub vars_reset_lem : (f n : ℕ) → length slots ≡ 12 → f < 12 → (slot_in n).position ≡ 0 → (slot_in (get_or (slots_reset slots k) f 0)).live ≡ false
      → SoundVars l c (with_slot (slots_reset slots k) f n) (vars_reset 0 vars slots k)
  vars_reset_lem f n twelve h start dead =
      vars_put (slots_reset slots k) (vars_reset 0 vars slots k) vars_ended (ended_long ∙ twelve) f n h start
      (λ x. dead_unbound (slot_at (slots_reset slots k) f) x (rw (slot_there (slots_reset slots k) f h) dead))
