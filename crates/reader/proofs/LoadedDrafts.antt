-- One line more keeps the facts, for each record letter, once its rules have told what they ask.
use Prim.Native.Nat.{ℕ, ◌+◌, ◌*◌, ◌<◌, ◌≤◌}
use mathlib.Core.Path.{◌≡◌, refl}
use mathlib.Core.Bool.{true, false}
use mathlib.Core.List.{List}
use native.Mathlib.Omega.{arith}
use lib.ListN.{set, replicate}
use Rattle.terms.specs.Table.{fresh_table}
use Rattle.terms.specs.Meaning.{means, Den}
use Rattle.terms.specs.Promise.{Grows}
use Rattle.terms.specs.declared.term.Term.{Term}
use Rattle.model.specs.Records.{pack_action, length_at}
use Rattle.model.specs.Fields.{closing, in_form}
use Rattle.model.specs.declared.records.Action.{Action}
use Rattle.model.specs.declared.records.Claim.{Claim}
use Rattle.model.proofs.Pack.{SmallAction}
use Rattle.audit.specs.Tops.{topmost}
use Rattle.reader.specs.Drafts.{fresh_draft, with_edition, with_term, with_action, with_machine, with_location, with_thread, with_claim}
use Rattle.reader.specs.declared.draft.Draft.{Draft}
use Rattle.reader.proofs.LoadedFacts.{Operand, MachineNumber, LocationNumber, ThreadNumber, ClaimNamed, Drafted}
use Rattle.reader.proofs.LoadedLists.{one_more_lem, none_listed, fresh_listing}
use Rattle.reader.proofs.LoadedTerms.{next_term, fresh_terms}
use Rattle.reader.proofs.LoadedActions.{none_programs, fresh_programs, next_action_lem}

-- before the first line
pub fresh_drafted : Drafted fresh_table.lines (replicate 512 0) fresh_draft
unfolding fresh_draft fresh_table
fresh_drafted = record {
  terms = fresh_terms;
  programs = fresh_programs false (replicate 512 0) 3;
  machines = fresh_listing (MachineNumber 0) 4;
  locations = fresh_listing (LocationNumber fresh_table.lines 3 0) 32;
  threads = fresh_listing (ThreadNumber 0 0) 8;
  order = record {
    edition = λ g. absurd (omega arith);
    some_program = λ g. absurd (omega arith);
    some_machine = λ g. absurd (omega arith);
    no_program = λ g. refl;
    no_machine = λ g. refl;
    no_location = λ g. refl;
    no_thread_lem = λ g. refl;
  };
  claim = λ e. absurd (omega arith);
}

module _ {l acts : List ℕ} {d : Draft} (D : Drafted l acts d) where
  pub with_edition_lem : d.group ≡ 0 → (n : ℕ) → n ≡ 1 → Drafted l acts (with_edition d n)
  unfolding with_edition
  with_edition_lem e n q = record {
    terms = D.terms;
    programs = D.programs;
    machines = D.machines;
    locations = D.locations;
    threads = D.threads;
    order = record {
      edition = λ g. q;
      some_program = λ g. absurd (omega arith);
      some_machine = λ g. absurd (omega arith);
      no_program = λ g. D.order.no_program (omega arith);
      no_machine = λ g. D.order.no_machine (omega arith);
      no_location = λ g. D.order.no_location (omega arith);
      no_thread_lem = λ g. D.order.no_thread_lem (omega arith);
    };
    claim = λ r. absurd (omega arith);
  }

  -- after V and E lines alone there is no program yet
  pub with_term_lem : (1 ≤ d.group) × (d.group ≤ 2) → {m : List ℕ} (x : Term) → (x.kind ≡ 7 → ⊥) → d.count < 512 → Grows l d.count m (d.count + 1)
      → Den m (d.count + 1) d.count (means l d.count x) → (top : ℕ) → top ≡ topmost (means l d.count x)
      → Drafted m acts (with_term d d.count top)
  unfolding with_term
  with_term_lem (a, b) {m} x seven room G N top e = record {
    terms = next_term D.terms x seven room G N top e;
    programs = none_programs (set d.tops d.count top) (d.count + 1) (D.order.no_program (omega arith)) D.programs;
    machines = D.machines;
    locations = none_listed (D.order.no_location (omega arith)) D.locations;
    threads = D.threads;
    order = record {
      edition = λ g. D.order.edition (omega arith);
      some_program = λ g. absurd (omega arith);
      some_machine = λ g. absurd (omega arith);
      no_program = λ g. D.order.no_program (omega arith);
      no_machine = λ g. D.order.no_machine (omega arith);
      no_location = λ g. D.order.no_location (omega arith);
      no_thread_lem = λ g. D.order.no_thread_lem (omega arith);
    };
    claim = λ r. absurd (omega arith);
  }

  -- after V, E and A lines alone there is no machine yet
  pub with_action_lem : (1 ≤ d.group) × (d.group ≤ 3) → (p : ℕ) → p < 32 → p ≤ d.programs → (p < d.programs → (p + 1 ≡ d.programs) × (d.closed ≡ false))
      → length_at d.lengths p < 16 → (a : Action) → SmallAction a → in_form a ≡ true
      → Operand d.tops d.count (length_at d.lengths p) a.x → Operand d.tops d.count (length_at d.lengths p) a.y
      → Drafted l (set acts (p * 16 + length_at d.lengths p) (pack_action a)) (with_action d p (length_at d.lengths p + 1) (closing a.op))
  unfolding with_action
  with_action_lem (i, j) p h here goes room a small form x y = record {
    terms = D.terms;
    programs = next_action_lem D.programs p h here goes room a small form x y;
    machines = none_listed (D.order.no_machine (omega arith)) D.machines;
    locations = D.locations;
    threads = none_listed (D.order.no_thread_lem (omega arith)) D.threads;
    order = record {
      edition = λ g. D.order.edition (omega arith);
      some_program = λ g. omega arith;
      some_machine = λ g. absurd (omega arith);
      no_program = λ g. absurd (omega arith);
      no_machine = λ g. D.order.no_machine (omega arith);
      no_location = λ g. D.order.no_location (omega arith);
      no_thread_lem = λ g. D.order.no_thread_lem (omega arith);
    };
    claim = λ r. absurd (omega arith);
  }

  -- after A and M lines alone there is no location and no thread yet
  pub with_machine_lem : (3 ≤ d.group) × (d.group ≤ 4) → d.machine_count < 4 → (n : ℕ) → MachineNumber d.programs n → Drafted l acts (with_machine d n)
  unfolding with_machine
  with_machine_lem (a, b) room n q = record {
    terms = D.terms;
    programs = D.programs;
    machines = one_more_lem D.machines room n q;
    locations = none_listed (D.order.no_location (omega arith)) D.locations;
    threads = none_listed (D.order.no_thread_lem (omega arith)) D.threads;
    order = record {
      edition = λ g. D.order.edition (omega arith);
      some_program = λ g. D.order.some_program (omega arith);
      some_machine = λ g. omega arith;
      no_program = λ g. absurd (omega arith);
      no_machine = λ g. absurd (omega arith);
      no_location = λ g. D.order.no_location (omega arith);
      no_thread_lem = λ g. D.order.no_thread_lem (omega arith);
    };
    claim = λ r. absurd (omega arith);
  }

  pub with_location_lem : (4 ≤ d.group) × (d.group ≤ 5) → d.location_count < 32 → (n : ℕ) → LocationNumber l d.count d.machine_count n
      → Drafted l acts (with_location d n)
  unfolding with_location
  with_location_lem (a, b) room n q = record {
    terms = D.terms;
    programs = D.programs;
    machines = D.machines;
    locations = one_more_lem D.locations room n q;
    threads = D.threads;
    order = record {
      edition = λ g. D.order.edition (omega arith);
      some_program = λ g. D.order.some_program (omega arith);
      some_machine = λ g. D.order.some_machine (omega arith);
      no_program = λ g. absurd (omega arith);
      no_machine = λ g. absurd (omega arith);
      no_location = λ g. absurd (omega arith);
      no_thread_lem = λ g. D.order.no_thread_lem (omega arith);
    };
    claim = λ r. absurd (omega arith);
  }

  pub with_thread_lem : (4 ≤ d.group) × (d.group ≤ 6) → d.thread_count < 8 → (n : ℕ) → ThreadNumber d.machine_count d.programs n
      → Drafted l acts (with_thread d n)
  unfolding with_thread
  with_thread_lem (a, b) room n q = record {
    terms = D.terms;
    programs = D.programs;
    machines = D.machines;
    locations = D.locations;
    threads = one_more_lem D.threads room n q;
    order = record {
      edition = λ g. D.order.edition (omega arith);
      some_program = λ g. D.order.some_program (omega arith);
      some_machine = λ g. D.order.some_machine (omega arith);
      no_program = λ g. absurd (omega arith);
      no_machine = λ g. absurd (omega arith);
      no_location = λ g. absurd (omega arith);
      no_thread_lem = λ g. absurd (omega arith);
    };
    claim = λ r. absurd (omega arith);
  }

  pub with_claim_lem : (4 ≤ d.group) × (d.group ≤ 6) → (c : Claim) → ClaimNamed c d.programs d.machine_count → Drafted l acts (with_claim d c)
  unfolding with_claim
  with_claim_lem (a, b) c q = record {
    terms = D.terms;
    programs = D.programs;
    machines = D.machines;
    locations = D.locations;
    threads = D.threads;
    order = record {
      edition = λ g. D.order.edition (omega arith);
      some_program = λ g. D.order.some_program (omega arith);
      some_machine = λ g. D.order.some_machine (omega arith);
      no_program = λ g. absurd (omega arith);
      no_machine = λ g. absurd (omega arith);
      no_location = λ g. absurd (omega arith);
      no_thread_lem = λ g. absurd (omega arith);
    };
    claim = λ r. q;
  }
