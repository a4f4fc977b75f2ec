-- "E label kind a b (labels from 3 rising)": one more term of the table.
use Rattle.std.specs.Prelude.{ℕ, Bool, true, false, not, List, eqb, ltb, leb, Option, Some, None}
use Rattle.terms.specs.Base.{pick, Held, held}
use Rattle.terms.specs.Term.{term, in_limits, parts_below}
use Rattle.terms.specs.Grade.{grade_of}
use Rattle.terms.specs.Table.{find_term, add_to}
use Rattle.terms.specs.declared.term.Term.{Term}
use Rattle.terms.specs.Outcome.{Added, Outcome, Listed, New, Deep, Full}
use Rattle.model.specs.Fields.{either}
use Rattle.audit.specs.Models.{names_program}
use Rattle.audit.specs.Tops.{top_of}
use Rattle.reader.specs.Numbers.{are_fields, num, up_to255}
use Rattle.reader.specs.Drafts.{lined, follows_group, with_term}
use Rattle.reader.specs.Numbers.{Fields}
use Rattle.reader.specs.declared.draft.Draft.{Draft}
use Rattle.reader.specs.Drafts.{Lined}

unfoldable pub term_of : Fields → Term
term_of f = term (up_to255 (num f 1)) (num f 2) (num f 3)

-- after V and E lines alone; labels number without a gap
unfoldable pub term_order21 : ℕ → ℕ → ℕ → Bool
term_order21 group count label = either (not (follows_group group 1 2)) (not (eqb label count))

-- "The table holds at most 512 terms"; "an unused field not 0, .. or a depth above 16 is 22"; an unknown kind, variable or function
unfoldable pub term_limits22 : List ℕ → ℕ → Term → Bool
term_limits22 l label x = either (leb 512 label) (either (not (in_limits x)) (ltb 16 (grade_of l x).depth))

-- "a part not earlier, a reference past its limit .. is 23": code of a program past the 32
unfoldable pub term_names23 : ℕ → Term → Bool
term_names23 label x = either (not (parts_below x label)) (not (names_program x 32))

abbrev pub is_at : Option ℕ → Bool
is_at (Some i) = true
is_at None = false

-- "24 a term .. twice"
unfoldable pub term_twice24 : List ℕ → ℕ → Term → Bool
term_twice24 l count x = is_at (find_term l count x)

-- "Kinds 1, 2, 7 cannot be listed (25)"
unfoldable pub term_kind25 : ℕ → Bool
term_kind25 kind = either (eqb kind 1) (either (eqb kind 2) (eqb kind 7))

unfoldable pub term_refusal : List ℕ → ℕ → ℕ → Fields → Term → ℕ
term_refusal l group count f x =
    pick (not (are_fields f 4)) 20
    (pick (term_order21 group count (num f 0)) 21
    (pick (term_limits22 l (num f 0) x) 22
    (pick (term_names23 (num f 0) x) 23
    (pick (term_twice24 l count x) 24
    (pick (term_kind25 x.kind) 25
    0)))))

-- a table has 512 lines
unfoldable pub term_counted : Draft → ℕ → Term → Draft
term_counted d label x = pick (leb 512 label) d (with_term d label (top_of d.tops x))

-- the rules of 22 and 24 leave no other outcome than a new term
abbrev pub entered_by : Outcome → Draft → Term → Lined
entered_by (New label) d x = lined 0 (term_counted d label x)
entered_by (Listed i) d x = lined 24 d
entered_by Deep d x = lined 22 d
entered_by Full d x = lined 22 d

abbrev pub as_entered : Held Added → Draft → Term → Held Lined
as_entered r d x = held (entered_by r.out.outcome d x) r.table

unfoldable pub term_entry : List ℕ → Draft → Term → Held Lined
term_entry l d x = as_entered (add_to l d.count x) d x

abbrev pub term_judged : ℕ → List ℕ → Draft → Term → Held Lined
term_judged n l d x = pick (eqb n 0) (term_entry l d x) (held (lined n d) l)

unfoldable pub term_line : List ℕ → Draft → Fields → Held Lined
term_line l d f = term_judged (term_refusal l d.group d.count f (term_of f)) l d (term_of f)
