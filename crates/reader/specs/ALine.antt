-- "A program op loc x y (programs from 0 rising)": one more action, of the last program or of the next one.
use Rattle.std.specs.Prelude.{ℕ, ◌+◌, ◌*◌, Bool, true, false, not, List, set, eqb, ltb, leb}
use Rattle.terms.specs.Base.{pick, also, Held, held}
use Rattle.model.specs.Records.{action, pack_action, length_at}
use Rattle.model.specs.Fields.{either, names_location, closing, in_form}
use Rattle.model.specs.declared.records.Action.{Action}
use Rattle.audit.specs.Tops.{top_at}
use Rattle.reader.specs.Numbers.{are_fields, num, up_to255}
use Rattle.reader.specs.Drafts.{lined, follows_group, with_action}
use Rattle.reader.specs.Numbers.{Fields}
use Rattle.reader.specs.declared.draft.Draft.{Draft}
use Rattle.reader.specs.Drafts.{Lined}

unfoldable pub action_of : Fields → Action
action_of f = action (up_to255 (num f 1)) (num f 2) (num f 3) (num f 4)

-- after V, E and A lines alone; the program is the next one, or the last one while "an action after op 19 or 20" does not bar it
unfoldable pub action_order21 : ℕ → ℕ → Bool → ℕ → Bool
action_order21 group programs closed program =
    pick (not (follows_group group 1 3)) true
    (pick (eqb program programs) false
    (pick (eqb (program + 1) programs) closed
    true))

-- "At most 32 programs of 1 to 16 actions"; an unknown op, a function past its limit, "an unused field not 0"
unfoldable pub action_limits22 : ℕ → ℕ → Action → Bool
action_limits22 program k a = either (leb 32 program) (either (leb 16 k) (not (in_form a)))

-- the op names a location, and not one of the first so many
unfoldable pub location_past : Action → ℕ → Bool
location_past a locations = also (names_location a.op) (leb locations a.loc)

-- a label that is not listed, or "a variable of the same or a later action", which is number k
unfoldable pub label_bad : List ℕ → ℕ → ℕ → ℕ → Bool
label_bad tops count k label = either (leb count label) (ltb k (top_at tops label))

-- an unused x or y is 0 here, a label that is always listed and asks for no variable
unfoldable pub action_names23 : List ℕ → ℕ → ℕ → Action → Bool
action_names23 tops count k a =
    either (location_past a 32) (either (label_bad tops count k a.x) (label_bad tops count k a.y))

unfoldable pub action_refusal : Draft → Fields → ℕ → ℕ → Action → ℕ
action_refusal d f program k a =
    pick (not (are_fields f 5)) 20
    (pick (action_order21 d.group d.programs d.closed program) 21
    (pick (action_limits22 program k a) 22
    (pick (action_names23 d.tops d.count k a) 23
    0)))

-- a program is below 32 here
unfoldable pub action_counted : Draft → ℕ → ℕ → Bool → Draft
action_counted d p n closed = pick (leb 32 p) d (with_action d p n closed)

-- action k of program p stands at 16 p + k
unfoldable pub action_entry : List ℕ → Draft → ℕ → ℕ → Action → Held Lined
action_entry acts d program k a =
    pick (leb 32 program) (held (lined 22 d) acts)
    (pick (leb 16 k) (held (lined 22 d) acts)
    (held (lined 0 (action_counted d program (k + 1) (closing a.op))) (set acts (program * 16 + k) (pack_action a))))

abbrev pub action_judged : ℕ → List ℕ → Draft → ℕ → ℕ → Action → Held Lined
action_judged n acts d program k a = pick (eqb n 0) (action_entry acts d program k a) (held (lined n d) acts)

-- the actions that the program has so far number the one of this line, k
abbrev pub action_next : List ℕ → Draft → Fields → ℕ → ℕ → Held Lined
action_next acts d f program k = action_judged (action_refusal d f program k (action_of f)) acts d program k (action_of f)

unfoldable pub action_line : List ℕ → Draft → Fields → Held Lined
action_line acts d f = action_next acts d f (up_to255 (num f 0)) (length_at d.lengths (up_to255 (num f 0)))
