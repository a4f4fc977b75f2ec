-- What the lines read so far have told, and a line's answer.
use Rattle.std.specs.Prelude.{ℕ, ◌+◌, Bool, false, set, replicate, eqb, ltb, leb, Result, Ok, Err}
use Rattle.terms.specs.Base.{pick}
use Rattle.model.specs.declared.records.Claim.{Claim}
use Rattle.reader.specs.declared.draft.Draft.{Draft}
use Rattle.reader.specs.declared.refusal.Refusal.{Refusal}
use Rattle.reader.specs.Refused.{number_of}

unfoldable pub no_claim : Claim
no_claim = record { kind = 0; program = 0; machine = 0; path = replicate 4 0; length = 0 }

-- before the first line: "Labels 0, 1, 2 are always number 0, sinit, dinit", and nothing else
unfoldable pub fresh_draft : Draft
fresh_draft = record {
  group = 0;
  edition = 0;
  count = 3;
  tops = replicate 512 0;
  lengths = replicate 32 0;
  programs = 0;
  closed = false;
  machines = replicate 4 0;
  machine_count = 0;
  locations = replicate 32 0;
  location_count = 0;
  threads = replicate 8 0;
  thread_count = 0;
  claim = no_claim;
}

-- a line's answer: 0, or the number of its refusal, and the draft after it
pub record Lined : Type 0 where
  pub number : ℕ
  pub draft : Draft

-- a refused line leaves the draft as it came
abbrev pub lined : ℕ → Draft → Lined
lined n d = record { number = n; draft = d }

-- what the code's answer says, beside the draft as it is left
abbrev pub lined_in : {A : Type 0} → Result A Refusal → Draft → Lined
lined_in (Ok a) d = lined 0 d
lined_in (Err r) d = lined (number_of r) d

-- the rules' answer n, 0 for none broken, decides whether a line is entered
abbrev pub unless_refused : ℕ → Draft → Lined → Lined
unless_refused n d entered = pick (eqb n 0) entered (lined n d)

-- "V, E, A, M, L, T, C, in that order of groups": 1 to 7, and 0 before the first line. The last line's group is one of some
unfoldable pub follows_group : ℕ → ℕ → ℕ → Bool
follows_group group from to = pick (ltb group from) false (leb group to)

-- the draft with a V line more
unfoldable pub with_edition : Draft → ℕ → Draft
with_edition d n = record {
  group = 1;
  edition = n;
  count = d.count;
  tops = d.tops;
  lengths = d.lengths;
  programs = d.programs;
  closed = d.closed;
  machines = d.machines;
  machine_count = d.machine_count;
  locations = d.locations;
  location_count = d.location_count;
  threads = d.threads;
  thread_count = d.thread_count;
  claim = d.claim;
}

-- a term at a label, which asks for so many variables
unfoldable pub with_term : Draft → ℕ → ℕ → Draft
with_term d label top = record {
  group = 2;
  edition = d.edition;
  count = label + 1;
  tops = set d.tops label top;
  lengths = d.lengths;
  programs = d.programs;
  closed = d.closed;
  machines = d.machines;
  machine_count = d.machine_count;
  locations = d.locations;
  location_count = d.location_count;
  threads = d.threads;
  thread_count = d.thread_count;
  claim = d.claim;
}

-- program p, the last one now, has n actions
unfoldable pub with_action : Draft → ℕ → ℕ → Bool → Draft
with_action d p n closed = record {
  group = 3;
  edition = d.edition;
  count = d.count;
  tops = d.tops;
  lengths = set d.lengths p n;
  programs = p + 1;
  closed = closed;
  machines = d.machines;
  machine_count = d.machine_count;
  locations = d.locations;
  location_count = d.location_count;
  threads = d.threads;
  thread_count = d.thread_count;
  claim = d.claim;
}

-- one machine more, as its number n
unfoldable pub with_machine : Draft → ℕ → Draft
with_machine d n = record {
  group = 4;
  edition = d.edition;
  count = d.count;
  tops = d.tops;
  lengths = d.lengths;
  programs = d.programs;
  closed = d.closed;
  machines = set d.machines d.machine_count n;
  machine_count = d.machine_count + 1;
  locations = d.locations;
  location_count = d.location_count;
  threads = d.threads;
  thread_count = d.thread_count;
  claim = d.claim;
}

-- one location more
unfoldable pub with_location : Draft → ℕ → Draft
with_location d n = record {
  group = 5;
  edition = d.edition;
  count = d.count;
  tops = d.tops;
  lengths = d.lengths;
  programs = d.programs;
  closed = d.closed;
  machines = d.machines;
  machine_count = d.machine_count;
  locations = set d.locations d.location_count n;
  location_count = d.location_count + 1;
  threads = d.threads;
  thread_count = d.thread_count;
  claim = d.claim;
}

-- one thread more
unfoldable pub with_thread : Draft → ℕ → Draft
with_thread d n = record {
  group = 6;
  edition = d.edition;
  count = d.count;
  tops = d.tops;
  lengths = d.lengths;
  programs = d.programs;
  closed = d.closed;
  machines = d.machines;
  machine_count = d.machine_count;
  locations = d.locations;
  location_count = d.location_count;
  threads = set d.threads d.thread_count n;
  thread_count = d.thread_count + 1;
  claim = d.claim;
}

-- the claim
unfoldable pub with_claim : Draft → Claim → Draft
with_claim d c = record {
  group = 7;
  edition = d.edition;
  count = d.count;
  tops = d.tops;
  lengths = d.lengths;
  programs = d.programs;
  closed = d.closed;
  machines = d.machines;
  machine_count = d.machine_count;
  locations = d.locations;
  location_count = d.location_count;
  threads = d.threads;
  thread_count = d.thread_count;
  claim = c;
}
