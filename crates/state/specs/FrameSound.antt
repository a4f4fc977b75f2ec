-- What a sound frame is, for a model: "every limit, reference .. kept; .. free slots, free locks .. zero; .. serials of
-- threads and locks below the next, live ones different; .. next serial at most 8 + steps, next nonce at most steps; live
-- threads per machine at most the listed number, or 1 if none was listed." No function cites it; the theorems do.
use Rattle.std.specs.Prelude.{ℕ, ◌+◌, ◌<◌, ◌≤◌, max, true, false, List, [], ◌∷◌, ◌≡◌, length, get_or, take, eqb}
use Rattle.terms.specs.Base.{pick}
use Rattle.model.specs.Records.{length_at, machine_at, thread_in, thread_at}
use Rattle.model.specs.declared.records.Model.{Model}
use Rattle.state.specs.Slot.{slot_in, pack_slot}
use Rattle.state.specs.Lock.{lock_in, pack_lock}
use Rattle.state.specs.Reset.{is_on}
use Rattle.state.specs.declared.slot.Slot.{Slot}
use Rattle.state.specs.declared.control.Frame.{Frame}

-- how many live threads of machine k the slots hold
unfoldable pub one_on : ℕ → ℕ → ℕ
one_on k n = pick (is_on n k) 1 0

unfoldable pub live_on : ℕ → List ℕ → ℕ
live_on k [] = 0
live_on k (n ∷ ns) = one_on k n + live_on k ns

-- how many of the listed threads are on machine k
unfoldable pub listed_on : ℕ → List ℕ → ℕ
listed_on k [] = 0
listed_on k (n ∷ ns) = pick (eqb (thread_in n).machine k) 1 0 + listed_on k ns

-- "at most the listed number, or 1 if none was listed": of machine k, where the threads of a list are listed
unfoldable pub most_among : List ℕ → ℕ → ℕ
most_among l k = max 1 (listed_on k l)

-- and for a model
abbrev pub most_on : Model → ℕ → ℕ
most_on m k = most_among (take m.thread_count m.threads) k

-- a live thread, the next serial being given: its references name something, and it stands before its program's end
pub record ThreadSound (m : Model) (next : ℕ) (s : Slot) : Type 0 where
  pub serial : s.serial < next
  pub machine : s.machine < m.machine_count
  pub program : s.program < m.programs
  pub position : s.position < length_at m.lengths s.program

-- the number of a slot: a free one is zero, a live one is its thread's number
pub record SlotSound (m : Model) (next n : ℕ) : Type 0 where
  pub free : (slot_in n).live ≡ false → n ≡ 0
  pub packed : (slot_in n).live ≡ true → pack_slot (slot_in n) ≡ n
  pub thread : (slot_in n).live ≡ true → ThreadSound m next (slot_in n)

pub record SlotsSound (m : Model) (most : ℕ → ℕ) (next : ℕ) (l : List ℕ) : Type 0 where
  pub long : length l ≡ 12
  pub each : (i : ℕ) → SlotSound m next (get_or l i 0)
  pub differ : (i j : ℕ) → (slot_in (get_or l i 0)).live ≡ true → (slot_in (get_or l j 0)).live ≡ true
      → (slot_in (get_or l i 0)).serial ≡ (slot_in (get_or l j 0)).serial → i ≡ j
  pub fit : (k : ℕ) → k < 4 → live_on k l ≤ most k

-- the number of a lock at a place: a free one is zero, a held one is of a listed location and held under a given serial
pub record LockSound (m : Model) (next i n : ℕ) : Type 0 where
  pub free : (lock_in n).held ≡ false → n ≡ 0
  pub packed : (lock_in n).held ≡ true → pack_lock (lock_in n) ≡ n
  pub listed : (lock_in n).held ≡ true → i < m.location_count
  pub serial : (lock_in n).held ≡ true → (lock_in n).serial < next

pub record LocksSound (m : Model) (next : ℕ) (l : List ℕ) : Type 0 where
  pub long : length l ≡ 32
  pub each : (i : ℕ) → LockSound m next i (get_or l i 0)

pub record FrameSound (m : Model) (f : Frame) : Type 0 where
  pub slots : SlotsSound m (most_on m) f.serial f.slots
  pub locks : LocksSound m f.serial f.locks
  pub steps : f.steps ≤ 60000
  pub serial : f.serial ≤ 8 + f.steps
  pub nonce : f.nonce ≤ f.steps

-- what the frame's theorems ask of a model
pub record Grounds (m : Model) : Type 0 where
  pub machines : m.machine_count ≤ 4
  pub programs : m.programs ≤ 32
  pub threads : m.thread_count ≤ 8
  pub some : (p : ℕ) → p < m.programs → 0 < length_at m.lengths p
  pub short : (p : ℕ) → length_at m.lengths p ≤ 16
  pub boot : (k : ℕ) → k < m.machine_count → (machine_at m.machines k).boot < m.programs
  pub launch : (k : ℕ) → k < m.machine_count → (machine_at m.machines k).launch < m.programs
  pub placed : (i : ℕ) → i < m.thread_count → (thread_at m.threads i).machine < m.machine_count
  pub runs : (i : ℕ) → i < m.thread_count → (thread_at m.threads i).program < m.programs
  pub eight : length m.threads ≡ 8
  pub past : (i : ℕ) → m.location_count ≤ i → get_or m.locations i 0 ≡ 0
