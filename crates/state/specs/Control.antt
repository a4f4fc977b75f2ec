-- The configuration beside its term table: the frame, in which no label stands, and the labels of locations and
-- variables. Lists of labels are defined for any type in their place, so that the rules on terms share the text.
use Rattle.std.specs.Prelude.{ℕ, zero, suc, ◌+◌, List, [], ◌∷◌, get_or, replicate, ltb, leb}
use Rattle.terms.specs.Base.{pick}
use Rattle.model.specs.Records.{thread_at, location_at}
use Rattle.model.specs.declared.records.Listed.{Listed}
use Rattle.model.specs.declared.records.Model.{Model}
use Rattle.state.specs.Slot.{thread, pack_slot}
use Rattle.state.specs.declared.control.Frame.{Frame}
use Rattle.state.specs.declared.control.Control.{Control}

-- f i, f (i + 1), and so on: n of them
unfoldable pub up_from : {A : Type 0} → (ℕ → A) → ℕ → ℕ → List A
up_from f zero i = []
up_from f (suc n) i = f i ∷ up_from f n (i + 1)

-- "Listed thread i starts in slot i with serial i"
abbrev pub started_as : Listed → ℕ → ℕ
started_as l i = pack_slot (thread i l.agent l.machine l.program 0)

unfoldable pub fresh_slot : List ℕ → ℕ → ℕ → ℕ
fresh_slot threads n i = pick (leb n i) 0 (started_as (thread_at threads i) i)

unfoldable pub fresh_slots : List ℕ → ℕ → List ℕ
fresh_slots threads n = up_from (fresh_slot threads n) 12 0

-- "all locks start free"; the first new serial is the number of listed threads
unfoldable pub fresh_frame : Model → Frame
fresh_frame m = record {
  slots = fresh_slots m.threads m.thread_count;
  locks = replicate 32 0;
  steps = 0;
  serial = m.thread_count;
  nonce = 0;
}

-- the value that a location is listed with, said by `name` from its label
unfoldable pub first_value : {A : Type 0} → (ℕ → A) → List ℕ → ℕ → A
first_value name locations i = name (location_at locations i).value

unfoldable pub first_values : {A : Type 0} → (ℕ → A) → List ℕ → List A
first_values name locations = up_from (first_value name locations) 32 0

unfoldable pub fresh_control : Model → Control
fresh_control m = record {
  frame = fresh_frame m;
  values = first_values (λ v. v) m.locations;
  vars = replicate 192 0;
  count = m.count;
}

-- the value of a location, z where there is none
unfoldable pub value_at : {A : Type 0} → A → List A → ℕ → A
value_at z values i = pick (ltb i 32) (get_or values i z) z

-- one more, as long as the number fits its type
unfoldable pub one_more : ℕ → ℕ
one_more n = pick (ltb n 65535) (n + 1) n
