-- A slot: free, or a live thread that stands before an action of its program. "12 slots": a list of twelve numbers.
use Rattle.std.specs.Prelude.{ℕ, ◌+◌, ◌*◌, ◌/◌, ◌%◌, true, false, Option, Some, None, List, [], ◌∷◌, get_or, eqb, ltb}
use Rattle.terms.specs.Base.{pick}
use Rattle.terms.specs.Line.{bit_of}
use Rattle.state.specs.declared.slot.Slot.{Slot}

-- a live thread: serial, agent, machine, program, position
abbrev pub thread : ℕ → ℕ → ℕ → ℕ → ℕ → Slot
thread s a m p k = record { live = true; serial = s; agent = a; machine = m; program = p; position = k }

-- "its slot free, all zero"
abbrev pub no_thread : Slot
no_thread = record { live = false; serial = 0; agent = 0; machine = 0; program = 0; position = 0 }

unfoldable pub pack_slot : Slot → ℕ
pack_slot s =
    bit_of s.live * 72057594037927936 + s.serial * 1099511627776 + s.agent * 16777216
    + s.machine * 65536 + s.program * 256 + s.position

unfoldable pub slot_in : ℕ → Slot
slot_in n = record {
  live = eqb (n / 72057594037927936 % 2) 1;
  serial = n / 1099511627776 % 65536;
  agent = n / 16777216 % 65536;
  machine = n / 65536 % 256;
  program = n / 256 % 256;
  position = n % 256;
}

-- the slot at a place, a free one past the twelve
unfoldable pub slot_at : List ℕ → ℕ → Slot
slot_at l i = pick (ltb i 12) (slot_in (get_or l i 0)) (slot_in 0)

-- the first free slot, the list's own first slot having number i; past the list where none is
unfoldable pub lowest_in : ℕ → List ℕ → ℕ
lowest_in i [] = i
lowest_in i (n ∷ ns) = pick (slot_in n).live (lowest_in (i + 1) ns) i

-- "the lowest free slot"
unfoldable pub lowest_free : List ℕ → ℕ
lowest_free l = lowest_in 0 l

-- the same where there is one
unfoldable pub free_slot : List ℕ → Option ℕ
free_slot l = pick (ltb (lowest_free l) 12) (Some (lowest_free l)) None
