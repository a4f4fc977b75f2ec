-- The model Bare of document 01, whose listing is shown there whole, for the worked facts of every crate.
use Rattle.std.specs.Prelude.{ℕ, true, [], ◌∷◌, set, replicate}
use Rattle.terms.specs.Term.{term}
use Rattle.terms.specs.Line.{grade, packed}
use Rattle.terms.specs.Table.{fresh_table}
use Rattle.model.specs.Records.{action, listed, pack_action, pack_thread}
use Rattle.model.specs.declared.records.Model.{Model}

-- Bare, with the program that its one listed thread runs
abbrev pub bare_with : ℕ → Model
bare_with p = record {
  edition = 1;
  lines = set fresh_table.lines 3 (packed (term 8 1 0) (grade 1 true));
  count = 4;
  actions = set (set (replicate 512 0) 0 (pack_action (action 19 0 3 0))) 16 (pack_action (action 17 0 0 0));
  lengths = 1 ∷ 1 ∷ replicate 30 0;
  programs = 2;
  machines = replicate 4 0;
  machine_count = 1;
  locations = replicate 32 0;
  location_count = 0;
  threads = set (replicate 8 0) 0 (pack_thread (listed 1 0 p));
  thread_count = 1;
  claim = record { kind = 0; program = 1; machine = 0; path = 0 ∷ 0 ∷ 0 ∷ 0 ∷ []; length = 1 };
}
