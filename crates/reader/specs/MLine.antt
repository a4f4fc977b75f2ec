-- "M machine boot launch protected": one more machine, with programs that are all listed before it.
use Rattle.std.specs.Prelude.{ℕ, Bool, not, eqb, ltb, leb}
use Rattle.terms.specs.Base.{pick}
use Rattle.model.specs.Records.{machine, pack_machine}
use Rattle.model.specs.Fields.{either}
use Rattle.model.specs.declared.records.Machine.{Machine}
use Rattle.reader.specs.Numbers.{are_fields, num, up_to255}
use Rattle.reader.specs.Drafts.{lined, unless_refused, follows_group, with_machine}
use Rattle.reader.specs.Numbers.{Fields}
use Rattle.reader.specs.declared.draft.Draft.{Draft}
use Rattle.reader.specs.Drafts.{Lined}

-- after A and M lines alone; "M and L number from 0"
unfoldable pub machine_order21 : ℕ → ℕ → ℕ → Bool
machine_order21 group count m = either (not (follows_group group 3 4)) (not (eqb m count))

-- 4 machines; "a protected field above 1 .. is 22"
unfoldable pub machine_limits22 : ℕ → ℕ → Bool
machine_limits22 m protected = either (leb 4 m) (ltb 1 protected)

unfoldable pub machine_names23 : ℕ → ℕ → ℕ → Bool
machine_names23 programs boot launch = either (leb programs boot) (leb programs launch)

unfoldable pub machine_refusal : Draft → Fields → ℕ
machine_refusal d f =
    pick (not (are_fields f 4)) 20
    (pick (machine_order21 d.group d.machine_count (num f 0)) 21
    (pick (machine_limits22 (num f 0) (num f 3)) 22
    (pick (machine_names23 d.programs (num f 1) (num f 2)) 23
    0)))

unfoldable pub machine_of : Fields → Machine
machine_of f = machine (up_to255 (num f 1)) (up_to255 (num f 2)) (eqb (num f 3) 1)

unfoldable pub machine_entry : Draft → Machine → Lined
machine_entry d m = pick (leb 4 d.machine_count) (lined 22 d) (lined 0 (with_machine d (pack_machine m)))

unfoldable pub machine_line : Draft → Fields → Lined
machine_line d f = unless_refused (machine_refusal d f) d (machine_entry d (machine_of f))
