-- "V 1": the first line, and no other; "another number after V .. is 21".
use Rattle.std.specs.Prelude.{ℕ, Bool, not, eqb}
use Rattle.terms.specs.Base.{pick}
use Rattle.model.specs.Fields.{either}
use Rattle.reader.specs.Numbers.{are_fields, num, up_to255}
use Rattle.reader.specs.Drafts.{lined, unless_refused, with_edition}
use Rattle.reader.specs.Numbers.{Fields}
use Rattle.reader.specs.declared.draft.Draft.{Draft}
use Rattle.reader.specs.Drafts.{Lined}

unfoldable pub known_edition : ℕ → Bool
known_edition edition = eqb edition 1

-- a second V line, or another number
unfoldable pub version_order21 : ℕ → ℕ → Bool
version_order21 group edition = either (not (eqb group 0)) (not (known_edition edition))

unfoldable pub version_refusal : ℕ → Fields → ℕ → ℕ
version_refusal group f edition =
    pick (not (are_fields f 1)) 20
    (pick (version_order21 group edition) 21
    0)

unfoldable pub version_line : Draft → Fields → Lined
version_line d f =
    unless_refused (version_refusal d.group f (up_to255 (num f 0))) d (lined 0 (with_edition d (up_to255 (num f 0))))
