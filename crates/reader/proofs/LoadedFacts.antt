-- What holds of a draft after any number of good lines: what a sound model asks, as far as these lines tell. Each part is
-- said of what it depends on alone, so that a line changes few parts and leaves the others as they were.
use Prim.Native.Nat.{ℕ, ◌+◌, ◌<◌, ◌≤◌}
use mathlib.Core.Path.{◌≡◌}
use mathlib.Core.Bool.{Bool, true, false}
use mathlib.Core.List.{List}
use lib.ListN.{length, get_or}
use Rattle.terms.specs.Line.{line_at, term_at, ground_in}
use Rattle.terms.specs.Meaning.{tree_of}
use Rattle.terms.specs.Sound.{Sound}
use Rattle.model.specs.Records.{pack_action, action_in, action_number, pack_machine, machine_in, pack_location, location_in, pack_thread, thread_in, length_at}
use Rattle.model.specs.Fields.{closing, in_form, is_memory}
use Rattle.model.specs.declared.records.Claim.{Claim}
use Rattle.audit.specs.Tops.{topmost}
use Rattle.reader.specs.declared.draft.Draft.{Draft}

-- the fixed and the listed terms; what a label asks to be bound is the top of its term
pub record Terms (l : List ℕ) (count : ℕ) (tops : List ℕ) : Type 0 where
  pub long : length l ≡ 512
  pub table : Sound l count
  pub nonces : (i : ℕ) → 3 ≤ i → i < count → (term_at l i).kind ≡ 7 → ⊥
  pub wide : length tops ≡ 512
  pub right : (i : ℕ) → i < count → get_or tops i 0 ≡ topmost (tree_of l count i)

-- a label of an operand of action k
pub record Operand (tops : List ℕ) (count k label : ℕ) : Type 0 where
  pub below : label < count
  pub earlier : get_or tops label 0 ≤ k

-- action k of a program, as the number n
pub record ActionNumber (tops : List ℕ) (count k n : ℕ) : Type 0 where
  pub exact : pack_action (action_in n) ≡ n
  pub form : in_form (action_in n) ≡ true
  pub x : Operand tops count k (action_in n).x
  pub y : Operand tops count k (action_in n).y

pub record Programs (acts lengths : List ℕ) (programs : ℕ) (closed : Bool) (tops : List ℕ) (count : ℕ) : Type 0 where
  pub long : length acts ≡ 512
  pub wide : length lengths ≡ 32
  pub most : programs ≤ 32
  pub some : (p : ℕ) → p < programs → 1 ≤ length_at lengths p
  pub short : (p : ℕ) → length_at lengths p ≤ 16
  pub past : (p : ℕ) → programs ≤ p → length_at lengths p ≡ 0
  pub actions : (p k : ℕ) → k < length_at lengths p → ActionNumber tops count k (action_number acts p k)
  -- a jump or a late launch is the last action, and the last program has none unless it is closed
  pub last : (p k : ℕ) → k < length_at lengths p → closing (action_in (action_number acts p k)).op ≡ true → k + 1 ≡ length_at lengths p
  pub going : closed ≡ false → (p k : ℕ) → p + 1 ≡ programs → k < length_at lengths p → closing (action_in (action_number acts p k)).op ≡ true → ⊥
  pub zeros : (p k : ℕ) → length_at lengths p ≤ k → k < 16 → action_number acts p k ≡ 0

-- n records, each as its number, in an array with room for more; past them stands 0
pub record Listing (P : ℕ → Type 0) (room : ℕ) (l : List ℕ) (n : ℕ) : Type 0 where
  pub wide : length l ≡ room
  pub most : n ≤ room
  pub each : (i : ℕ) → i < n → P (get_or l i 0)
  pub past : (i : ℕ) → n ≤ i → get_or l i 0 ≡ 0

pub record MachineNumber (programs n : ℕ) : Type 0 where
  pub exact : pack_machine (machine_in n) ≡ n
  pub boot : (machine_in n).boot < programs
  pub launch : (machine_in n).launch < programs

pub record LocationNumber (l : List ℕ) (count machines n : ℕ) : Type 0 where
  pub exact : pack_location (location_in n) ≡ n
  pub machine : (location_in n).machine < machines
  pub kind : (location_in n).kind < 4
  pub below : (location_in n).value < count
  pub grounded : ground_in (line_at l (location_in n).value) ≡ true
  pub register : is_memory (location_in n).kind ≡ false → (location_in n).value ≡ 1

pub record ThreadNumber (machines programs n : ℕ) : Type 0 where
  pub exact : pack_thread (thread_in n) ≡ n
  pub machine : (thread_in n).machine < machines
  pub program : (thread_in n).program < programs

pub record ClaimNamed (c : Claim) (programs machines : ℕ) : Type 0 where
  pub kind : c.kind < 2
  pub program : c.program < programs
  pub machine : c.machine < machines
  pub some : 1 ≤ c.length
  pub most : c.length ≤ 4
  pub path : (i : ℕ) → i < c.length → get_or c.path i 0 < programs
  pub past : (i : ℕ) → c.length ≤ i → i < 4 → get_or c.path i 0 ≡ 0

-- what the group of the last line tells: 1 to 7 for V, E, A, M, L, T, C
pub record Order (group number programs machines locations threads : ℕ) : Type 0 where
  pub edition : 1 ≤ group → number ≡ 1
  pub some_program : 3 ≤ group → 1 ≤ programs
  pub some_machine : 4 ≤ group → 1 ≤ machines
  pub no_program : group ≤ 2 → programs ≡ 0
  pub no_machine : group ≤ 3 → machines ≡ 0
  pub no_location : group ≤ 4 → locations ≡ 0
  pub no_thread_lem : group ≤ 5 → threads ≡ 0

pub record Drafted (l acts : List ℕ) (d : Draft) : Type 0 where
  pub terms : Terms l d.count d.tops
  pub programs : Programs acts d.lengths d.programs d.closed d.tops d.count
  pub machines : Listing (MachineNumber d.programs) 4 d.machines d.machine_count
  pub locations : Listing (LocationNumber l d.count d.machine_count) 32 d.locations d.location_count
  pub threads : Listing (ThreadNumber d.machine_count d.programs) 8 d.threads d.thread_count
  pub order : Order d.group d.edition d.programs d.machine_count d.location_count d.thread_count
  pub claim : d.group ≡ 7 → ClaimNamed d.claim d.programs d.machine_count
