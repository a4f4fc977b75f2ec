-- The frame of a fresh configuration is sound: listed thread i in slot i with serial i, all locks free.
use Prim.Native.Nat.{ℕ, zero, suc, ◌+◌, ◌<◌, ◌≤◌}
use mathlib.Core.Bool.{Bool, true, false}
use mathlib.Core.List.{List}
use mathlib.Core.Path.{◌≡◌, refl, sym, ap, ◌∙◌}
use native.Mathlib.Numerals.{add-one}
use native.Mathlib.Omega.{arith}
use lib.ListN.{length, get_or, take, drop, replicate, length-take, length-replicate, get_or-replicate, drop_of_length-le, get_or-eq_default}
use lib.Seq.{drop-cons, get_or-take}
use lib.Dec.{eqb, ltb, leb}
use borrow.Author.Tests.{lt-ltb, ltb-true, ltb-false, leb-true, leb-false}
use Rattle.terms.specs.Base.{pick}
use Rattle.model.specs.Records.{thread_in, thread_at}
use Rattle.model.specs.declared.records.Model.{Model}
use Rattle.model.specs.declared.records.Listed.{Listed}
use Rattle.model.proofs.Pack.{SmallThread, thread_small}
use Rattle.state.specs.Slot.{thread, pack_slot, slot_in}
use Rattle.state.specs.Control.{up_from, fresh_slot, fresh_slots, fresh_frame}
use Rattle.state.specs.FrameSound.{one_on, live_on, listed_on, most_among, most_on, ThreadSound, SlotSound, FrameSound, Grounds}
use Rattle.state.specs.declared.slot.Slot.{Slot}
use Rattle.state.proofs.Laws.{up_at, up_long}
use Rattle.state.proofs.Pack.{SmallSlot, slot_packed}
use Rattle.state.proofs.Live.{on_none, on_live, zero_free}
use Rattle.state.proofs.Threads.{zero_live, none_sound, small_thread, packed_sound}
use Rattle.state.proofs.Holds.{free_lock}

listed_small : (b : Bool) (x y : ℕ) → SmallThread (pick b (thread_in x) (thread_in y))
listed_small true x y = thread_small x
listed_small false x y = thread_small y

module _ (m : Model) (g : Grounds m) where
  abbrev started : ℕ → Slot
  started i = thread i (thread_at m.threads i).agent (thread_at m.threads i).machine (thread_at m.threads i).program 0

  agent_small : (i : ℕ) → (thread_at m.threads i).agent < 65536
  unfolding thread_at
  agent_small i = (listed_small (ltb i 8) (get_or m.threads i 0) 0).agent

  started_sound : (i : ℕ) → i < m.thread_count → ThreadSound m m.thread_count (started i)
  started_sound i h = record { serial = h; machine = g.placed i h; program = g.runs i h; position = g.some (thread_at m.threads i).program (g.runs i h) }

  started_small : (i : ℕ) → i < m.thread_count → SmallSlot (started i)
  started_small i h = small_thread m g m.thread_count (omega (arith, g.threads)) (started i) (agent_small i) (started_sound i h)

  started_in : (i : ℕ) → i < m.thread_count → slot_in (pack_slot (started i)) ≡ started i
  started_in i h = slot_packed (started i) (started_small i h)

  -- one slot
  one_by : (b : Bool) (i : ℕ) → leb m.thread_count i ≡ b → SlotSound m m.thread_count (pick b 0 (pack_slot (started i)))
  one_by true i e = none_sound m m.thread_count
  one_by false i e =
      let h : i < m.thread_count = leb-false m.thread_count i e in
      packed_sound m m.thread_count (started i) refl (started_small i h) (started_sound i h)

  serial_by : (b : Bool) (i : ℕ) → leb m.thread_count i ≡ b → (slot_in (pick b 0 (pack_slot (started i)))).live ≡ true → (slot_in (pick b 0 (pack_slot (started i)))).serial ≡ i
  serial_by true i e h = absurd (zero_live h)
  serial_by false i e h = ap (λ (x : Slot). x.serial) (started_in i (leb-false m.thread_count i e))

  one_sound : (i : ℕ) → SlotSound m m.thread_count (fresh_slot m.threads m.thread_count i)
  unfolding fresh_slot
  one_sound i = one_by (leb m.thread_count i) i refl

  one_serial : (i : ℕ) → (slot_in (fresh_slot m.threads m.thread_count i)).live ≡ true → (slot_in (fresh_slot m.threads m.thread_count i)).serial ≡ i
  unfolding fresh_slot
  one_serial i h = serial_by (leb m.thread_count i) i refl h

  -- the slot at a place
  abbrev fresh : List ℕ
  fresh = fresh_slots m.threads m.thread_count

  fresh_long : length fresh ≡ 12
  unfolding fresh_slots
  fresh_long = up_long (fresh_slot m.threads m.thread_count) 12 0

  fresh_at : (i : ℕ) → i < 12 → get_or fresh i 0 ≡ fresh_slot m.threads m.thread_count i
  unfolding fresh_slots
  fresh_at i h = up_at (fresh_slot m.threads m.thread_count) 12 0 i 0 h ∙ ap (fresh_slot m.threads m.thread_count) (omega arith)

  fresh_past : (i : ℕ) → 12 ≤ i → get_or fresh i 0 ≡ 0
  fresh_past i h = get_or-eq_default fresh 0 (omega (arith, fresh_long))

  each_by : (b : Bool) (i : ℕ) → ltb i 12 ≡ b → SlotSound m m.thread_count (get_or fresh i 0)
  each_by true i e = rw (fresh_at i (ltb-true i 12 e)) (one_sound i)
  each_by false i e = rw (fresh_past i (ltb-false i 12 e)) (none_sound m m.thread_count)

  at_by : (b : Bool) (i : ℕ) → ltb i 12 ≡ b → (slot_in (get_or fresh i 0)).live ≡ true → (slot_in (get_or fresh i 0)).serial ≡ i
  at_by true i e h = rw (fresh_at i (ltb-true i 12 e)) (one_serial i (rw (fresh_at i (ltb-true i 12 e)) at h))
  at_by false i e h = absurd (zero_live (rw (fresh_past i (ltb-false i 12 e)) at h))

  serial_at : (i : ℕ) → (slot_in (get_or fresh i 0)).live ≡ true → (slot_in (get_or fresh i 0)).serial ≡ i
  serial_at i h = at_by (ltb i 12) i refl h

  -- as many live threads as listed ones
  abbrev listing : List ℕ
  listing = take m.thread_count m.threads

  listing_long : length listing ≡ m.thread_count
  listing_long = length-take m.thread_count m.threads ∙ omega (arith, g.threads, g.eight)

  listed_there_lem : (i : ℕ) → i < m.thread_count → thread_at m.threads i ≡ thread_in (get_or listing i 0)
  unfolding thread_at
  listed_there_lem i h = rw (lt-ltb i 8 (omega (arith, g.threads)), get_or-take m.thread_count m.threads i 0 h)

  count_by : (b : Bool) (k i x : ℕ) → leb m.thread_count i ≡ b → x ≤ listed_on k (drop (i + 1) listing)
      → one_on k (pick b 0 (pack_slot (started i))) + x ≤ listed_on k (drop i listing)
  unfolding listed_on
  count_by true k i x e h =
      let p : length listing ≤ i = omega (arith, listing_long, leb-true m.thread_count i e) in
      let q : length listing ≤ i + 1 = omega arith in
      rw (drop_of_length-le listing p) (omega (arith, on_none k 0 zero_free, rw (drop_of_length-le listing q) at h))
  count_by false k i x e h =
      let w : i < m.thread_count = leb-false m.thread_count i e in
      let c : slot_in (pack_slot (started i)) ≡ started i = started_in i w in
      let o : one_on k (pack_slot (started i)) ≡ pick (eqb (thread_in (get_or listing i 0)).machine k) 1 0 =
      on_live k (pack_slot (started i)) (ap (λ (z : Slot). z.live) c) ∙ ap (λ (z : Slot). pick {A = ℕ} (eqb z.machine k) 1 0) c
      ∙ ap (λ (z : Listed). pick {A = ℕ} (eqb z.machine k) 1 0) (listed_there_lem i w) in
      rw (drop-cons listing i 0 (omega (arith, listing_long))) (omega (arith, o, rw add-one at h))

  counted : (k c i : ℕ) → live_on k (up_from (fresh_slot m.threads m.thread_count) c i) ≤ listed_on k (drop i listing)
  unfolding up_from live_on fresh_slot
  counted k zero i = omega arith
  counted k (suc c) i = count_by (leb m.thread_count i) k i (live_on k (up_from (fresh_slot m.threads m.thread_count) c (i + 1))) refl (counted k c (i + 1))

  fresh_fit : (k : ℕ) → live_on k fresh ≤ most_on m k
  unfolding most_among fresh_slots
  fresh_fit k = omega (arith, counted k 12 0)

  free_by : (b : Bool) (i : ℕ) → ltb i 32 ≡ b → get_or {A = ℕ} (replicate 32 0) i 0 ≡ 0
  free_by true i e = get_or-replicate {A = ℕ} 32 i 0 0 (ltb-true i 32 e)
  free_by false i e =
      let h : length {A = ℕ} (replicate 32 0) ≤ i = omega (arith, length-replicate {A = ℕ} 32 0, ltb-false i 32 e) in
      get_or-eq_default {A = ℕ} (replicate 32 0) 0 h

  pub fresh_sound : FrameSound m (fresh_frame m)
  unfolding fresh_frame
  fresh_sound = record {
    slots = record {
      long = fresh_long;
      each = λ i. each_by (ltb i 12) i refl;
      differ = λ i j a b e. sym (serial_at i a) ∙ e ∙ serial_at j b;
      fit = λ k h. fresh_fit k;
    };
    locks = record {
      long = length-replicate {A = ℕ} 32 0;
      each = λ i. rw (free_by (ltb i 32) i refl) (free_lock m m.thread_count i);
    };
    steps = omega arith;
    serial = omega (arith, g.threads);
    nonce = omega arith;
  }
