-- "At most 32 programs of 1 to 16 actions", and what is asked of each action that a model lists.
use Rattle.std.specs.Prelude.{ℕ, ◌+◌, Bool, true, not, List, eqb, ltb, leb}
use Rattle.terms.specs.Base.{pick, also}
use Rattle.model.specs.Records.{pack_action, action_in, action_number, length_at, location_at}
use Rattle.model.specs.Fields.{names_location, closing, in_form, kind_fits}
use Rattle.model.specs.declared.records.Action.{Action}
use Rattle.model.specs.declared.records.Model.{Model}
use Rattle.terms.specs.Each.{each}
use Rattle.audit.specs.Tops.{top_at, tops_of}

-- the location is listed (23), and of a kind that fits (25)
unfoldable pub listed_and_fits : List ℕ → Action → ℕ → Bool
listed_and_fits ls a count = also (ltb a.loc count) (kind_fits a.op (location_at ls a.loc).kind)

unfoldable pub loc_fits : List ℕ → Action → ℕ → Bool
loc_fits ls a count = pick (names_location a.op) (listed_and_fits ls a count) true

-- "a reference past its limit, or a variable of the same or a later action, is 23": a label below the count, its variables below k
unfoldable pub operand_fits : List ℕ → ℕ → ℕ → ℕ → Bool
operand_fits ks label k count = also (ltb label count) (leb (top_at ks label) k)

-- action k: known op and unused fields 0 (22), its location and its operands
unfoldable pub action_fits : Action → List ℕ → List ℕ → ℕ → ℕ → ℕ → Bool
action_fits a ls ks k locs count =
    also (in_form a)
    (also (loc_fits ls a locs)
    (also (operand_fits ks a.x k count)
    (operand_fits ks a.y k count)))

-- "an action after op 19 or 20, is 21"
unfoldable pub last_if_closing : ℕ → ℕ → ℕ → Bool
last_if_closing op k length = pick (closing op) (eqb (k + 1) length) true

-- action k of a program of that length is exactly its number n; a number past the length is 0
unfoldable pub action_sound : ℕ → List ℕ → List ℕ → ℕ → ℕ → ℕ → ℕ → Bool
action_sound n ls ks k length locs count =
    pick (leb length k) (eqb n 0)
    (also (eqb (pack_action (action_in n)) n)
    (also (last_if_closing (action_in n).op k length)
    (action_fits (action_in n) ls ks k locs count)))

unfoldable pub actions_sound : List ℕ → List ℕ → List ℕ → ℕ → ℕ → ℕ → ℕ → Bool
actions_sound acts ls ks p length locs count = each 16 (λ k. action_sound (action_number acts p k) ls ks k length locs count)

-- "programs of 1 to 16 actions"; past the number of programs there is none
unfoldable pub length_fits : ℕ → ℕ → ℕ → Bool
length_fits p length programs = pick (ltb p programs) (also (leb 1 length) (leb length 16)) (eqb length 0)

-- program p of a model whose terms have the tops ks
unfoldable pub program_sound : Model → List ℕ → ℕ → Bool
program_sound m ks p =
    also (length_fits p (length_at m.lengths p) m.programs)
    (actions_sound m.actions m.locations ks p (length_at m.lengths p) m.location_count m.count)

unfoldable pub each_program : Model → List ℕ → Bool
each_program m ks = each 32 (λ p. program_sound m ks p)

-- "a program's actions, twice" is 24
unfoldable pub equal_actions : List ℕ → ℕ → ℕ → Bool
equal_actions acts q p = each 16 (λ k. eqb (action_number acts q k) (action_number acts p k))

unfoldable pub equal_programs : List ℕ → List ℕ → ℕ → ℕ → Bool
equal_programs acts ns q p = also (eqb (length_at ns q) (length_at ns p)) (equal_actions acts q p)

-- no earlier program has equal actions
unfoldable pub new_program : List ℕ → List ℕ → ℕ → Bool
new_program acts ns p = each p (λ q. not (equal_programs acts ns q p))

unfoldable pub programs_differ : List ℕ → List ℕ → ℕ → Bool
programs_differ acts ns programs = each programs (λ p. new_program acts ns p)

-- "At most 32 programs", "at least one A"
unfoldable pub programs_sound : Model → Bool
programs_sound m =
    also (leb 1 m.programs)
    (also (leb m.programs 32)
    (also (each_program m (tops_of m.lines))
    (programs_differ m.actions m.lengths m.programs)))
