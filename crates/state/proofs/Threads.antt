-- The slots stay sound: a thread put in the place of another, a thread that ends, a boot thread after a reset.
use Prim.Native.Nat.{ℕ, ◌+◌, ◌<◌, ◌≤◌}
use mathlib.Core.Bool.{Bool, true, false}
use mathlib.Core.List.{List, map}
use mathlib.Core.Path.{◌≡◌, refl, sym, ap, ◌∙◌}
use native.Mathlib.Omega.{arith}
use lib.ListN.{length, get_or, set, length-set, length-map, get_or-map}
use lib.Seq.{get_or-set_same, get_or-set_other}
use lib.Dec.{eqb}
use borrow.Author.Tests.{lt-ltb, leb-false, eqb-true, eqb-false}
use Rattle.terms.specs.Base.{pick}
use Rattle.model.specs.Records.{length_at, machine_at}
use Rattle.model.specs.declared.records.Model.{Model}
use Rattle.state.specs.Slot.{thread, pack_slot, slot_in, lowest_free}
use Rattle.state.specs.Moves.{with_slot, is_last, moved_on, jumped_to}
use Rattle.state.specs.Launch.{thread_launched}
use Rattle.state.specs.Reset.{is_on, slot_reset, slots_reset, boot_thread}
use Rattle.state.specs.FrameSound.{one_on, live_on, most_among, most_on, ThreadSound, SlotSound, SlotsSound, Grounds}
use Rattle.state.specs.declared.slot.Slot.{Slot}
use Rattle.state.proofs.Pack.{SmallSlot, slot_small, slot_packed}
use Rattle.state.proofs.Live.{on_none, on_live, zero_free, on_same, live_set, live_ended, live_kept, free_there, most_eleven, room}

-- a place after a store: the one stored to, or as it was
pub data At (l : List ℕ) (i n j : ℕ) : Type 0 where
  here : j ≡ i → get_or (set l i n) j 0 ≡ n → At l i n j
  there : (j ≡ i → ⊥) → get_or (set l i n) j 0 ≡ get_or l j 0 → At l i n j

at_by : (b : Bool) (l : List ℕ) (i n j : ℕ) → eqb j i ≡ b → i < length l → At l i n j
at_by true l i n j e h = here (eqb-true j i e) (rw (eqb-true j i e) (get_or-set_same l i n 0 h))
at_by false l i n j e h = there (eqb-false j i e) (get_or-set_other l i j n 0 (eqb-false j i e))

pub at : (l : List ℕ) (i n j : ℕ) → i < length l → At l i n j
at l i n j h = at_by (eqb j i) l i n j refl h

-- a test has one answer
pub never : (b : Bool) → b ≡ true → b ≡ false → ⊥
never b p q = let z : ◌≡◌ {A = ℕ} 0 1 = cc in omega arith

pub zero_live : (slot_in 0).live ≡ true → ⊥
zero_live e = never (slot_in 0).live e zero_free

-- one slot
module _ (m : Model) where
  slot_later : (next after n : ℕ) → next ≤ after → SlotSound m next n → SlotSound m after n
  slot_later next after n h s = record {
    free = s.free;
    packed = s.packed;
    thread = λ e. record {
      serial = omega (arith, (s.thread e).serial);
      machine = (s.thread e).machine;
      program = (s.thread e).program;
      position = (s.thread e).position;
    };
  }

  pub none_sound : (after : ℕ) → SlotSound m after 0
  none_sound after = record { free = λ e. refl; packed = λ e. absurd (zero_live e); thread = λ e. absurd (zero_live e) }

  pub small_thread : Grounds m → (after : ℕ) → after ≤ 65536 → (t : Slot) → t.agent < 65536 → ThreadSound m after t → SmallSlot t
  small_thread g after h t a s = record {
    serial = omega arith;
    agent = a;
    machine = omega arith;
    program = omega arith;
    position = omega (arith, g.short t.program);
  }

  pub packed_sound : (after : ℕ) (t : Slot) → t.live ≡ true → SmallSlot t → ThreadSound m after t → SlotSound m after (pack_slot t)
  packed_sound after t e c s =
      let p : slot_in (pack_slot t) ≡ t = slot_packed t c in
      record {
        free = λ f. absurd (never t.live e (rw p at f));
        packed = λ f. ap pack_slot p;
        thread = λ f. rw p s;
      }

-- a store that keeps serials different and machines within their number
abbrev New : List ℕ → ℕ → ℕ → Type 0
New l i n = (j : ℕ) → (j ≡ i → ⊥) → (slot_in (get_or l j 0)).live ≡ true → (slot_in n).live ≡ true → (slot_in (get_or l j 0)).serial ≡ (slot_in n).serial → ⊥

put_each : (m : Model) (after : ℕ) {l : List ℕ} {i n j : ℕ} → At l i n j → SlotSound m after n → SlotSound m after (get_or l j 0) → SlotSound m after (get_or (set l i n) j 0)
put_each m after (here p e) s t = rw e s
put_each m after (there p e) s t = rw e t

put_differ : {l : List ℕ} {i n j k : ℕ} → At l i n j → At l i n k → New l i n
    → ((slot_in (get_or l j 0)).live ≡ true → (slot_in (get_or l k 0)).live ≡ true → (slot_in (get_or l j 0)).serial ≡ (slot_in (get_or l k 0)).serial → j ≡ k)
    → (slot_in (get_or (set l i n) j 0)).live ≡ true → (slot_in (get_or (set l i n) k 0)).live ≡ true
    → (slot_in (get_or (set l i n) j 0)).serial ≡ (slot_in (get_or (set l i n) k 0)).serial → j ≡ k
put_differ (here p e) (here q f) new d a b s = p ∙ sym q
put_differ {k = k} (here p e) (there q f) new d a b s = absurd (new k q (rw f at b) (rw e at a) (sym (rw (e, f) at s)))
put_differ {j = j} (there p e) (here q f) new d a b s = absurd (new j p (rw e at a) (rw f at b) (rw (e, f) at s))
put_differ (there p e) (there q f) new d a b s = d (rw e at a) (rw f at b) (rw (e, f) at s)

module _ (m : Model) (most : ℕ → ℕ) (next after : ℕ) (l : List ℕ) (s : SlotsSound m most next l) (i n : ℕ) (h : i < 12) where
  put_sound : next ≤ after → SlotSound m after n → New l i n → ((k : ℕ) → k < 4 → live_on k (set l i n) ≤ most k) → SlotsSound m most after (with_slot l i n)
  unfolding with_slot
  put_sound up one new fit =
      let p : i < length l = omega (arith, s.long) in
      rw (lt-ltb i 12 h) (record {
        long = length-set l i n ∙ s.long;
        each = λ j. put_each m after (at l i n j p) one (slot_later m next after (get_or l j 0) up (s.each j));
        differ = λ j k. put_differ (at l i n j p) (at l i n k p) new (s.differ j k);
        fit = fit;
      })

  -- in the place of a live thread, on the same machine
  over_sound : (slot_in (get_or l i 0)).live ≡ true → next ≤ after → SlotSound m after n
      → ((slot_in n).live ≡ true → (slot_in n).machine ≡ (slot_in (get_or l i 0)).machine) → New l i n → SlotsSound m most after (with_slot l i n)
  over_sound live up one same new =
      put_sound up one new (λ k p. omega (arith, live_set k l i n (omega (arith, s.long)), on_same k n (get_or l i 0) live same, s.fit k p))

  -- in a free place
  free_sound : (slot_in (get_or l i 0)).live ≡ false → next ≤ after → SlotSound m after n → New l i n
      → ((k : ℕ) → k < 4 → live_on k l + one_on k n ≤ most k) → SlotsSound m most after (with_slot l i n)
  free_sound dead up one new fit =
      put_sound up one new (λ k p. omega (arith, live_set k l i n (omega (arith, s.long)), on_none k (get_or l i 0) dead, fit k p))

  -- the same serial, or the next one
  new_own : (slot_in (get_or l i 0)).live ≡ true → ((slot_in n).live ≡ true → (slot_in n).serial ≡ (slot_in (get_or l i 0)).serial) → New l i n
  new_own live own j d a b e = d (s.differ j i a live (e ∙ own b))

  new_next : ((slot_in n).live ≡ true → (slot_in n).serial ≡ next) → New l i n
  new_next own j d a b e = omega (arith, ((s.each j).thread a).serial, own b, e)

-- what an action makes of its slot
module _ (m : Model) (g : Grounds m) (most : ℕ → ℕ) (next : ℕ) (small : next ≤ 65535) (l : List ℕ) (s : SlotsSound m most next l) (i : ℕ) (h : i < 12)
    (live : (slot_in (get_or l i 0)).live ≡ true) where
  -- a thread with the same serial, agent and machine, or one with the next serial
  own_sound : (p k : ℕ) → p < m.programs → k < length_at m.lengths p
      → SlotsSound m most next (with_slot l i (pack_slot (thread (slot_in (get_or l i 0)).serial (slot_in (get_or l i 0)).agent (slot_in (get_or l i 0)).machine p k)))
  own_sound p k u w =
      let q : Slot = slot_in (get_or l i 0) in
      let t : Slot = thread q.serial q.agent q.machine p k in
      let c : ThreadSound m next t = record { serial = ((s.each i).thread live).serial; machine = ((s.each i).thread live).machine; program = u; position = w } in
      let v : SmallSlot t = small_thread m g next (omega arith) t (slot_small (get_or l i 0)).agent c in
      let e : slot_in (pack_slot t) ≡ t = slot_packed t v in
      over_sound m most next next l s i (pack_slot t) h live (omega arith) (packed_sound m next t refl v c) (λ f. ap (λ (x : Slot). x.machine) e)
      (new_own m most next next l s i (pack_slot t) h live (λ f. ap (λ (x : Slot). x.serial) e))

  next_sound : (p : ℕ) → p < m.programs
      → SlotsSound m most (next + 1) (with_slot l i (pack_slot (thread next (slot_in (get_or l i 0)).agent (slot_in (get_or l i 0)).machine p 0)))
  next_sound p u =
      let q : Slot = slot_in (get_or l i 0) in
      let t : Slot = thread next q.agent q.machine p 0 in
      let c : ThreadSound m (next + 1) t = record { serial = omega arith; machine = ((s.each i).thread live).machine; program = u; position = g.some p u } in
      let v : SmallSlot t = small_thread m g (next + 1) (omega arith) t (slot_small (get_or l i 0)).agent c in
      let e : slot_in (pack_slot t) ≡ t = slot_packed t v in
      over_sound m most next (next + 1) l s i (pack_slot t) h live (omega arith) (packed_sound m (next + 1) t refl v c) (λ f. ap (λ (x : Slot). x.machine) e)
      (new_next m most next (next + 1) l s i (pack_slot t) h (λ f. ap (λ (x : Slot). x.serial) e))

  none_over : SlotsSound m most next (with_slot l i 0)
  none_over =
      over_sound m most next next l s i 0 h live (omega arith) (none_sound m next) (λ e. absurd (zero_live e))
      (new_own m most next next l s i 0 h live (λ e. absurd (zero_live e)))

  moved_by : (b : Bool) → is_last m.lengths (slot_in (get_or l i 0)) ≡ b
      → SlotsSound m most next (with_slot l i (pick b 0 (pack_slot (thread (slot_in (get_or l i 0)).serial (slot_in (get_or l i 0)).agent (slot_in (get_or l i 0)).machine (slot_in (get_or l i 0)).program ((slot_in (get_or l i 0)).position + 1)))))
  unfolding is_last
  moved_by true e = none_over
  moved_by false e = own_sound (slot_in (get_or l i 0)).program ((slot_in (get_or l i 0)).position + 1) ((s.each i).thread live).program (leb-false _ _ e)

  pub moved_slots : SlotsSound m most next (with_slot l i (moved_on m.lengths (slot_in (get_or l i 0))))
  unfolding moved_on
  moved_slots = moved_by (is_last m.lengths (slot_in (get_or l i 0))) refl

  pub jumped_slots : (p : ℕ) → p < m.programs → SlotsSound m most next (with_slot l i (jumped_to (slot_in (get_or l i 0)) p))
  unfolding jumped_to
  jumped_slots p u = own_sound p 0 u (g.some p u)

  pub launched_slots : SlotsSound m most (next + 1) (with_slot l i (thread_launched m.machines (slot_in (get_or l i 0)) next))
  unfolding thread_launched
  launched_slots = next_sound (machine_at m.machines (slot_in (get_or l i 0)).machine).launch (g.launch (slot_in (get_or l i 0)).machine ((s.each i).thread live).machine)

-- the slots after a reset's endings
reset_zero : (k : ℕ) → slot_reset k 0 ≡ 0
unfolding slot_reset is_on slot_in
reset_zero k = refl

pub reset_at : (k : ℕ) (l : List ℕ) (i : ℕ) → get_or (slots_reset l k) i 0 ≡ slot_reset k (get_or l i 0)
unfolding slots_reset
reset_at k l i = ap (λ (d : ℕ). get_or (map (slot_reset k) l) i d) (sym (reset_zero k)) ∙ get_or-map (slot_reset k) l i 0

ended_by_lem : (m : Model) (next : ℕ) (b : Bool) (n : ℕ) → SlotSound m next n → SlotSound m next (pick b 0 n)
ended_by_lem m next true n s = none_sound m next
ended_by_lem m next false n s = s

stays_by : (b : Bool) (n : ℕ) → (slot_in (pick b 0 n)).live ≡ true → pick b 0 n ≡ n
stays_by true n e = absurd (zero_live e)
stays_by false n e = refl

stays : (k : ℕ) (l : List ℕ) (i : ℕ) → (slot_in (get_or (slots_reset l k) i 0)).live ≡ true → get_or (slots_reset l k) i 0 ≡ get_or l i 0
unfolding slot_reset
stays k l i e = reset_at k l i ∙ stays_by (is_on (get_or l i 0) k) (get_or l i 0) (rw (reset_at k l i) at e)

module _ (m : Model) (most : ℕ → ℕ) (next : ℕ) (l : List ℕ) (s : SlotsSound m most next l) (k : ℕ) where
  each_ended : (i : ℕ) → SlotSound m next (get_or (slots_reset l k) i 0)
  unfolding slot_reset
  each_ended i = rw (reset_at k l i) (ended_by_lem m next (is_on (get_or l i 0) k) (get_or l i 0) (s.each i))

  ended_long : length (slots_reset l k) ≡ 12
  unfolding slots_reset
  ended_long = length-map l (slot_reset k) ∙ s.long

  pub ended_slots : SlotsSound m most next (slots_reset l k)
  ended_slots = record {
    long = ended_long;
    each = each_ended;
    differ = λ i j a b e. s.differ i j (rw (stays k l i a) at a) (rw (stays k l j b) at b) (rw (stays k l i a, stays k l j b) at e);
    fit = λ j p. omega (arith, live_kept j k l, s.fit j p);
  }

-- M4: in sound slots, and so after the endings of a reset, a slot is free
pub twelve_suffice : (m : Model) → Grounds m → (next : ℕ) (l : List ℕ) → SlotsSound m (most_on m) next l → lowest_free l < 12
twelve_suffice m g next l s =
    room (most_on m) l s.long (λ i e. omega (arith, ((s.each i).thread e).machine, g.machines)) s.fit (most_eleven m g)

-- the boot thread
pub one_most : (m : Model) (k : ℕ) → 1 ≤ most_on m k
unfolding most_among
one_most m k = omega arith

module _ (m : Model) (g : Grounds m) (next : ℕ) (small : next ≤ 65535) (l : List ℕ) (s : SlotsSound m (most_on m) next l) (k : ℕ) (kk : k < m.machine_count) where
  boot_fit : (b : Bool) (j n : ℕ) → eqb k j ≡ b → j < 4 → (slot_in n).live ≡ true → (slot_in n).machine ≡ k
      → live_on j (slots_reset l k) + one_on j n ≤ most_on m j
  boot_fit true j n e p live q =
      let r : live_on j (slots_reset l k) ≡ 0 = ap (λ (x : ℕ). live_on x (slots_reset l k)) (sym (eqb-true k j e)) ∙ live_ended k l in
      omega (arith, one_most m j, on_live j n live, ap (λ (x : ℕ). pick {A = ℕ} (eqb x j) 1 0) q, ap (λ (x : Bool). pick {A = ℕ} x 1 0) e)
  boot_fit false j n e p live q =
      omega (arith, live_kept j k l, s.fit j p, on_live j n live, ap (λ (x : ℕ). pick {A = ℕ} (eqb x j) 1 0) q, ap (λ (x : Bool). pick {A = ℕ} x 1 0) e)

  pub reset_slots : SlotsSound m (most_on m) (next + 1)
      (with_slot (slots_reset l k) (lowest_free (slots_reset l k)) (boot_thread (machine_at m.machines k) k next))
  unfolding boot_thread
  reset_slots =
      let r : List ℕ = slots_reset l k in
      let u : SlotsSound m (most_on m) next r = ended_slots m (most_on m) next l s k in
      let h : lowest_free r < 12 = twelve_suffice m g next r u in
      let p : ℕ = (machine_at m.machines k).boot in
      let t : Slot = thread next 0 k p 0 in
      let c : ThreadSound m (next + 1) t = record { serial = omega arith; machine = kk; program = g.boot k kk; position = g.some p (g.boot k kk) } in
      let v : SmallSlot t = small_thread m g (next + 1) (omega arith) t (omega arith) c in
      let e : slot_in (pack_slot t) ≡ t = slot_packed t v in
      free_sound m (most_on m) next (next + 1) r u (lowest_free r) (pack_slot t) h (free_there r) (omega arith) (packed_sound m (next + 1) t refl v c)
      (new_next m (most_on m) next (next + 1) r u (lowest_free r) (pack_slot t) h (λ f. ap (λ (x : Slot). x.serial) e))
      (λ j w. boot_fit (eqb k j) j (pack_slot t) refl w (ap (λ (x : Slot). x.live) e) (ap (λ (x : Slot). x.machine) e))
