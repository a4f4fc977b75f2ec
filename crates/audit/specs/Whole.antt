-- The test of Configuration said as facts: what a sound configuration of a sound model is, clause by clause of 'Sound means'.
-- The frame's clauses are state's FrameSound. `test_control` and `control_test` of proofs/Whole.antt tie the two.
use Rattle.std.specs.Prelude.{ℕ, ◌+◌, ◌*◌, ◌<◌, ◌≤◌, ◌≡◌, true, false, List, length, get_or}
use Rattle.terms.specs.Line.{line_at, term_at}
use Rattle.terms.specs.Tree.{is_ground}
use Rattle.terms.specs.Meaning.{tree_of}
use Rattle.terms.specs.Sound.{Sound}
use Rattle.model.specs.declared.records.Model.{Model}
use Rattle.state.specs.Slot.{slot_at}
use Rattle.state.specs.FrameSound.{FrameSound}
use Rattle.state.specs.declared.slot.Slot.{Slot}
use Rattle.state.specs.declared.control.Control.{Control}
use Rattle.audit.specs.Configuration.{is_bound}

-- what the types of a model's arrays say of their lengths
pub record Arrays (m : Model) : Type 0 where
  pub lines : length m.lines ≡ 512
  pub threads : length m.threads ≡ 8
  pub locations : length m.locations ≡ 32

-- what the types of a configuration's arrays say of theirs
pub record Lengths (l : List ℕ) (s : Control) : Type 0 where
  pub lines : length l ≡ 512
  pub slots : length s.frame.slots ≡ 12
  pub locks : length s.frame.locks ≡ 32
  pub values : length s.values ≡ 32
  pub vars : length s.vars ≡ 192

-- the table of n terms: sound, and it begins with the model's
pub record SoundTerms (m : Model) (l : List ℕ) (n nonce : ℕ) : Type 0 where
  pub table : Sound l n
  pub long : length l ≡ 512
  pub more : m.count ≤ n
  pub begins : (i : ℕ) → i < m.count → line_at l i ≡ line_at m.lines i
  -- "nonces below the next"
  pub nonces : (i : ℕ) → i < n → (term_at l i).kind ≡ 7 → (term_at l i).a < nonce
  -- code terms name a program
  pub codes : (i : ℕ) → i < n → (term_at l i).kind ≡ 8 → (term_at l i).a < m.programs

-- "stored values ground": the label of a ground term
pub record Stored (l : List ℕ) (n v : ℕ) : Type 0 where
  pub below : v < n
  pub grounded : is_ground (tree_of l n v) ≡ true

-- each listed location has a stored value, and past them stands 0
pub record SoundValues (m : Model) (l : List ℕ) (n : ℕ) (values : List ℕ) : Type 0 where
  pub long : length values ≡ 32
  pub listed : (i : ℕ) → i < m.location_count → Stored l n (get_or values i 0)
  pub past : (i : ℕ) → m.location_count ≤ i → get_or values i 0 ≡ 0

-- "exactly the earlier variables bound", "unbound variables zero": variable k of slot s is v
pub record VarSound (l : List ℕ) (n : ℕ) (s : Slot) (k v : ℕ) : Type 0 where
  pub bound : is_bound s k ≡ true → Stored l n v
  pub unbound : is_bound s k ≡ false → v ≡ 0

-- variable k of slot i stands at 16 i + k
pub record SoundVars (l : List ℕ) (n : ℕ) (slots vars : List ℕ) : Type 0 where
  pub long : length vars ≡ 192
  pub each : (i k : ℕ) → i < 12 → k < 16 → VarSound l n (slot_at slots i) k (get_or vars (i * 16 + k) 0)

pub record SoundConfig (m : Model) (l : List ℕ) (s : Control) : Type 0 where
  -- threads, locks, serials, steps
  pub frame : FrameSound m s.frame
  pub terms : SoundTerms m l s.count s.frame.nonce
  pub values : SoundValues m l s.count s.values
  pub vars : SoundVars l s.count s.frame.slots s.vars
