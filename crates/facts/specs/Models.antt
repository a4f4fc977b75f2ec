-- The models that the worked facts are about: Bare, whose listing document 01 shows whole, and three small ones with one machine, not
-- protected, whose boot and launch program is program 0.
use Rattle.std.specs.Prelude.{ℕ, zero, suc, ◌+◌, true, List, [], ◌∷◌, ◌++◌, length, set, replicate}
use Rattle.terms.specs.Term.{term}
use Rattle.terms.specs.Line.{grade, packed}
use Rattle.terms.specs.declared.term.Term.{Term}
use Rattle.terms.specs.Table.{fixed_line, fresh_table}
use Rattle.model.specs.Records.{action, location, listed, pack_action, pack_location, pack_thread}
use Rattle.model.specs.declared.records.Action.{Action}
use Rattle.model.specs.declared.records.Model.{Model}
use Rattle.audit.specs.Bare.{bare_with}

-- crate `reader` proves that the file of document 01 loads as this model
unfoldable pub bare : Model
bare = bare_with 1

-- program p has these actions
abbrev pub program : ℕ → List Action → List ℕ → List ℕ
program i [] l = l
program i (a ∷ rest) l = program (i + 1) rest (set l i (pack_action a))

-- its terms, how many, its two programs, its locations, how many, how many threads: thread i runs program i
abbrev pub model_of : List ℕ → ℕ → List Action → List Action → List ℕ → ℕ → ℕ → Model
model_of lines count first second locations located threads = record {
  edition = 1;
  lines = lines;
  count = count;
  actions = program 16 second (program 0 first (replicate 512 0));
  lengths = length first ∷ length second ∷ replicate 30 0;
  programs = 2;
  machines = replicate 4 0;
  machine_count = 1;
  locations = locations;
  location_count = located;
  threads = set (set (replicate 8 0) 0 (pack_thread (listed 1 0 0))) 1 (pack_thread (listed 1 0 1));
  thread_count = threads;
  claim = record { kind = 0; program = 0; machine = 0; path = 0 ∷ 0 ∷ 0 ∷ 0 ∷ []; length = 1 };
}

-- keys a and the n - 1 after it, as lines of a table
unfoldable pub keys : ℕ → ℕ → List ℕ
keys zero a = []
keys (suc n) a = packed (term 4 a 0) (grade 1 true) ∷ keys n (a + 1)

-- the fixed terms, keys 0 to 507 and the hash of number 0 fill a table
unfoldable pub full_table : List ℕ
full_table = fixed_line 0 ∷ fixed_line 1 ∷ fixed_line 2 ∷ (keys 508 0 ++ (packed (term 13 0 0) (grade 2 true) ∷ []))

-- label 3 is number 5; location 0 is a static register. Program 0 extends it by that leaf sixteen times; program 1 locks it
-- three times
unfoldable pub extends : Model
extends =
    model_of (set fresh_table.lines 3 (packed (term 0 5 0) (grade 1 true))) 4
    (replicate 16 (action 2 0 3 0)) (action 3 0 0 0 ∷ action 3 0 0 0 ∷ action 3 0 0 0 ∷ [])
    (set (replicate 32 0) 0 (pack_location (location 0 2 1))) 1 2

-- program 0 unlocks location 0
unfoldable pub unlocks : Model
unlocks =
    model_of fresh_table.lines 3 (action 4 0 0 0 ∷ []) (action 18 0 0 0 ∷ [])
    (set (replicate 32 0) 0 (pack_location (location 0 1 0))) 1 2

-- the table is full; program 0 hashes number 0, program 1 sinit
unfoldable pub hashes : Model
hashes = model_of full_table 512 (action 13 0 0 0 ∷ []) (action 13 0 1 0 ∷ []) (replicate 32 0) 0 2

-- numbers 5 and 6, which get labels 3 and 4, and sinit extended by them: by 5 and then 6 (labels 5, 6), by 6 and then 5 (labels 7, 8)
abbrev pub chains : List Term
chains = term 0 5 0 ∷ term 0 6 0 ∷ term 14 1 3 ∷ term 14 5 4 ∷ term 14 1 4 ∷ term 14 7 3 ∷ []
