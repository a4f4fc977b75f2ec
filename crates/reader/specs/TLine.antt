-- "T agent machine program": one more listed thread. "An agent is any number".
use Rattle.std.specs.Prelude.{ℕ, Bool, not, leb}
use Rattle.terms.specs.Base.{pick}
use Rattle.model.specs.Records.{listed, pack_thread}
use Rattle.model.specs.Fields.{either}
use Rattle.model.specs.declared.records.Listed.{Listed}
use Rattle.reader.specs.Numbers.{are_fields, num, up_to255}
use Rattle.reader.specs.Drafts.{lined, unless_refused, follows_group, with_thread}
use Rattle.reader.specs.Numbers.{Fields}
use Rattle.reader.specs.declared.draft.Draft.{Draft}
use Rattle.reader.specs.Drafts.{Lined}

unfoldable pub thread_names23 : ℕ → ℕ → ℕ → ℕ → Bool
thread_names23 machines programs m program = either (leb machines m) (leb programs program)

-- after M, L and T lines alone (21); "8 listed threads" (22)
unfoldable pub thread_refusal : Draft → Fields → ℕ
thread_refusal d f =
    pick (not (are_fields f 3)) 20
    (pick (not (follows_group d.group 4 6)) 21
    (pick (leb 8 d.thread_count) 22
    (pick (thread_names23 d.machine_count d.programs (num f 1) (num f 2)) 23
    0)))

unfoldable pub thread_of : Fields → Listed
thread_of f = listed (num f 0) (up_to255 (num f 1)) (up_to255 (num f 2))

unfoldable pub thread_entry : Draft → Listed → Lined
thread_entry d t = pick (leb 8 d.thread_count) (lined 22 d) (lined 0 (with_thread d (pack_thread t)))

unfoldable pub thread_line : Draft → Fields → Lined
thread_line d f = unless_refused (thread_refusal d f) d (thread_entry d (thread_of f))
