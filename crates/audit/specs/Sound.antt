-- The test of Models said as facts: what a sound model is. `test_model` and `model_test` of proofs/Check.antt tie the two.
use Rattle.std.specs.Prelude.{ℕ, ◌+◌, ◌<◌, ◌≤◌, ◌≡◌, true, false, get_or}
use Rattle.terms.specs.Line.{term_at}
use Rattle.terms.specs.Tree.{is_ground}
use Rattle.terms.specs.Meaning.{tree_of}
use Rattle.terms.specs.Sound.{Sound}
use Rattle.model.specs.Records.{pack_action, pack_machine, pack_location, pack_thread, action_number, action_at, length_at, machine_at, location_at, thread_at}
use Rattle.model.specs.Fields.{names_location, closing, in_form, kind_fits, is_memory}
use Rattle.model.specs.declared.records.Action.{Action}
use Rattle.model.specs.declared.records.Claim.{Claim}
use Rattle.model.specs.declared.records.Model.{Model}
use Rattle.audit.specs.Tops.{topmost}
use Rattle.audit.specs.Programs.{equal_programs}

-- an operand of action k: a listed term, whose variables are all of earlier actions
pub record FitOperand (m : Model) (k label : ℕ) : Type 0 where
  pub below : label < m.count
  pub earlier : topmost (tree_of m.lines m.count label) ≤ k

-- a listed location, of a kind that the action takes
pub record FitLoc (m : Model) (a : Action) : Type 0 where
  pub below : a.loc < m.location_count
  pub kind : kind_fits a.op (location_at m.locations a.loc).kind ≡ true

-- action k of a program of that length
pub record FitAction (m : Model) (k length : ℕ) (a : Action) : Type 0 where
  -- known op, unused fields 0
  pub form : in_form a ≡ true
  -- no action after a jump or a late launch
  pub last : closing a.op ≡ true → k + 1 ≡ length
  pub loc : names_location a.op ≡ true → FitLoc m a
  pub x : FitOperand m k a.x
  pub y : FitOperand m k a.y

-- program p: 1 to 16 actions, each of them fit and exactly its number, and no earlier program is equal
pub record FitProgram (m : Model) (p : ℕ) : Type 0 where
  pub some : 1 ≤ length_at m.lengths p
  pub most : length_at m.lengths p ≤ 16
  pub exact : (k : ℕ) → k < length_at m.lengths p → pack_action (action_at m.actions p k) ≡ action_number m.actions p k
  pub actions : (k : ℕ) → k < length_at m.lengths p → FitAction m k (length_at m.lengths p) (action_at m.actions p k)
  pub new : (q : ℕ) → q < p → equal_programs m.actions m.lengths q p ≡ false

pub record FitMachine (m : Model) (i : ℕ) : Type 0 where
  pub exact : pack_machine (machine_at m.machines i) ≡ get_or m.machines i 0
  pub boot : (machine_at m.machines i).boot < m.programs
  pub launch : (machine_at m.machines i).launch < m.programs

pub record FitLocation (m : Model) (i : ℕ) : Type 0 where
  pub exact : pack_location (location_at m.locations i) ≡ get_or m.locations i 0
  pub machine : (location_at m.locations i).machine < m.machine_count
  pub kind : (location_at m.locations i).kind < 4
  pub below : (location_at m.locations i).value < m.count
  pub grounded : is_ground (tree_of m.lines m.count (location_at m.locations i).value) ≡ true
  pub register : is_memory (location_at m.locations i).kind ≡ false → (location_at m.locations i).value ≡ 1

pub record FitThread (m : Model) (i : ℕ) : Type 0 where
  pub exact : pack_thread (thread_at m.threads i) ≡ get_or m.threads i 0
  pub machine : (thread_at m.threads i).machine < m.machine_count
  pub program : (thread_at m.threads i).program < m.programs

pub record FitClaim (m : Model) (c : Claim) : Type 0 where
  pub kind : c.kind < 2
  pub program : c.program < m.programs
  pub machine : c.machine < m.machine_count
  pub some : 1 ≤ c.length
  pub most : c.length ≤ 4
  pub path : (i : ℕ) → i < c.length → get_or c.path i 0 < m.programs
  pub past : (i : ℕ) → c.length ≤ i → i < 4 → get_or c.path i 0 ≡ 0

-- whatever stands past a count is 0
pub record ZeroPast (m : Model) : Type 0 where
  pub lengths : (p : ℕ) → m.programs ≤ p → length_at m.lengths p ≡ 0
  pub actions : (p k : ℕ) → p < 32 → length_at m.lengths p ≤ k → k < 16 → action_number m.actions p k ≡ 0
  pub machines : (i : ℕ) → m.machine_count ≤ i → i < 4 → get_or m.machines i 0 ≡ 0
  pub locations : (i : ℕ) → m.location_count ≤ i → i < 32 → get_or m.locations i 0 ≡ 0
  pub threads : (i : ℕ) → m.thread_count ≤ i → i < 8 → get_or m.threads i 0 ≡ 0

pub record SoundModel (m : Model) : Type 0 where
  pub edition : m.edition ≡ 1
  pub table : Sound m.lines m.count
  -- "Kinds 1, 2, 7 cannot be listed"; kinds 1 and 2 are the fixed terms, and no term is there twice
  pub nonces : (i : ℕ) → 3 ≤ i → i < m.count → (term_at m.lines i).kind ≡ 7 → ⊥
  -- code terms name a program
  pub codes : (i : ℕ) → 3 ≤ i → i < m.count → (term_at m.lines i).kind ≡ 8 → (term_at m.lines i).a < m.programs
  -- "At most 32 programs of 1 to 16 actions; 4 machines; 32 locations; 8 listed threads", at least one program and machine
  pub some_program : 1 ≤ m.programs
  pub most_programs : m.programs ≤ 32
  pub programs : (p : ℕ) → p < m.programs → FitProgram m p
  pub some_machine : 1 ≤ m.machine_count
  pub most_machines : m.machine_count ≤ 4
  pub machines : (i : ℕ) → i < m.machine_count → FitMachine m i
  pub most_locations : m.location_count ≤ 32
  pub locations : (i : ℕ) → i < m.location_count → FitLocation m i
  pub most_threads : m.thread_count ≤ 8
  pub threads : (i : ℕ) → i < m.thread_count → FitThread m i
  pub claim : FitClaim m m.claim
  pub zeros : ZeroPast m
