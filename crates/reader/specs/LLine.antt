-- "L loc machine kind value": one more location, with the label that it holds at the start.
use Rattle.std.specs.Prelude.{ℕ, Bool, not, List, eqb, ltb, leb}
use Rattle.terms.specs.Base.{pick, also}
use Rattle.terms.specs.Line.{ground_at}
use Rattle.model.specs.Records.{location, pack_location}
use Rattle.model.specs.Fields.{either, is_register}
use Rattle.model.specs.declared.records.Location.{Location}
use Rattle.reader.specs.Numbers.{are_fields, num, up_to255}
use Rattle.reader.specs.Drafts.{lined, unless_refused, follows_group, with_location}
use Rattle.reader.specs.Numbers.{Fields}
use Rattle.reader.specs.declared.draft.Draft.{Draft}
use Rattle.reader.specs.Drafts.{Lined}

-- after M and L lines alone; "M and L number from 0"
unfoldable pub location_order21 : ℕ → ℕ → ℕ → Bool
location_order21 group count loc = either (not (follows_group group 4 5)) (not (eqb loc count))

-- 32 locations, of kinds 0 to 3
unfoldable pub location_limits22 : ℕ → ℕ → Bool
location_limits22 loc kind = either (leb 32 loc) (ltb 3 kind)

unfoldable pub location_names23 : ℕ → ℕ → ℕ → ℕ → Bool
location_names23 machines count m value = either (leb machines m) (leb count value)

-- "a stored value that isn't ground, or a register's other than 1, is 25"
unfoldable pub location_kind25 : List ℕ → ℕ → ℕ → Bool
location_kind25 l kind value = either (not (ground_at l value)) (also (is_register kind) (not (eqb value 1)))

unfoldable pub location_refusal : List ℕ → Draft → Fields → ℕ
location_refusal l d f =
    pick (not (are_fields f 4)) 20
    (pick (location_order21 d.group d.location_count (num f 0)) 21
    (pick (location_limits22 (num f 0) (num f 2)) 22
    (pick (location_names23 d.machine_count d.count (num f 1) (num f 3)) 23
    (pick (location_kind25 l (up_to255 (num f 2)) (num f 3)) 25
    0))))

unfoldable pub location_of : Fields → Location
location_of f = location (up_to255 (num f 1)) (up_to255 (num f 2)) (num f 3)

unfoldable pub location_entry : Draft → Location → Lined
location_entry d l = pick (leb 32 d.location_count) (lined 22 d) (lined 0 (with_location d (pack_location l)))

unfoldable pub location_line : List ℕ → Draft → Fields → Lined
location_line l d f = unless_refused (location_refusal l d f) d (location_entry d (location_of f))
