-- A sound model: "every limit, reference, program and kind rule (25, for what a model lists) on this page kept".
use Rattle.std.specs.Prelude.{ℕ, ◌-◌, Bool, true, not, List, eqb, ltb}
use Rattle.terms.specs.Base.{pick, also}
use Rattle.terms.specs.Line.{line_at, term_in}
use Rattle.terms.specs.Sound.{sound_test}
use Rattle.terms.specs.declared.term.Term.{Term}
use Rattle.model.specs.declared.records.Model.{Model}
use Rattle.terms.specs.Each.{all_from}
use Rattle.audit.specs.Programs.{programs_sound}
use Rattle.audit.specs.Listed.{machines_sound, locations_sound, threads_sound}
use Rattle.audit.specs.Claims.{claim_sound}

-- a code term names one of the programs (23)
unfoldable pub names_program : Term → ℕ → Bool
names_program x programs = pick (eqb x.kind 8) (ltb x.a programs) true

-- "Kinds 1, 2, 7 cannot be listed (25)"; sinit and dinit are fixed terms, which a sound table has once
unfoldable pub may_be_listed : ℕ → ℕ → Bool
may_be_listed n programs = also (not (eqb (term_in n).kind 7)) (names_program (term_in n) programs)

-- labels from 3 on
unfoldable pub terms_listed : List ℕ → ℕ → ℕ → Bool
terms_listed l count programs = all_from (count - 3) 3 (λ i. may_be_listed (line_at l i) programs)

-- "V 1", and the records in the order of the file
unfoldable pub sound_model : Model → Bool
sound_model m =
    also (eqb m.edition 1)
    (also (sound_test m.lines m.count)
    (also (terms_listed m.lines m.count m.programs)
    (also (programs_sound m)
    (also (machines_sound m.machines m.machine_count m.programs)
    (also (locations_sound m)
    (also (threads_sound m.threads m.thread_count m.machine_count m.programs)
    (claim_sound m.claim m.programs m.machine_count)))))))
