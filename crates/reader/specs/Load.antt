-- Both readings: the model of a file, or "A refusal gives number and line and leaves all lent tables zero".
use Rattle.std.specs.Prelude.{ℕ, List, replicate, eqb, Result, Ok, Err}
use Rattle.terms.specs.Base.{pick}
use Rattle.terms.specs.Table.{fresh_table}
use Rattle.model.specs.declared.records.Model.{Model}
use Rattle.reader.specs.Drafts.{no_claim}
use Rattle.reader.specs.FirstReading.{Read, Kept, first_reading}
use Rattle.reader.specs.SecondReading.{Second, second_reading}
use Rattle.reader.specs.declared.draft.Draft.{Draft}
use Rattle.reader.specs.declared.refusal.Fault.{Fault}
use Rattle.reader.specs.Refused.{number_of}

-- all zero
unfoldable pub no_model : Model
no_model = record {
  edition = 0;
  lines = replicate 512 0;
  count = 0;
  actions = replicate 512 0;
  lengths = replicate 32 0;
  programs = 0;
  machines = replicate 4 0;
  machine_count = 0;
  locations = replicate 32 0;
  location_count = 0;
  threads = replicate 8 0;
  thread_count = 0;
  claim = no_claim;
}

-- of a file whose every line was good
unfoldable pub model_of : List ℕ → List ℕ → Draft → Model
model_of l acts d = record {
  edition = d.edition;
  lines = l;
  count = d.count;
  actions = acts;
  lengths = d.lengths;
  programs = d.programs;
  machines = d.machines;
  machine_count = d.machine_count;
  locations = d.locations;
  location_count = d.location_count;
  threads = d.threads;
  thread_count = d.thread_count;
  claim = d.claim;
}

-- the outcome of a file: number 0 and a model, or a refusal with its line
pub record Loaded : Type 0 where
  pub number : ℕ
  pub line : ℕ
  pub model : Model

abbrev pub loaded : ℕ → ℕ → Model → Loaded
loaded n line m = record { number = n; line = line; model = m }

unfoldable pub refused_with : ℕ → ℕ → Loaded
refused_with n line = loaded n line no_model

-- what the code's answer says: where a file is refused it hands out no model at all
abbrev pub loaded_in : Result Model Fault → Loaded
loaded_in (Ok m) = loaded 0 0 m
loaded_in (Err f) = refused_with (number_of f.refusal) f.line

-- once the second reading is known
abbrev pub load_second : Second → List ℕ → List ℕ → Draft → Loaded
load_second s l acts d = pick (eqb s.number 0) (loaded 0 0 (model_of l acts d)) (refused_with s.number s.line)

-- once the first reading is known
abbrev pub load_first : Kept Read → Loaded
load_first r =
    pick (eqb r.out.number 0)
    (load_second (second_reading r.terms r.actions r.out.draft) r.terms r.actions r.out.draft)
    (refused_with r.out.number r.out.line)

-- F1. What a file says: its table starts with the fixed terms alone, and without actions
unfoldable pub load_of : List ℕ → Loaded
load_of file = load_first (first_reading file fresh_table.lines (replicate 512 0))
