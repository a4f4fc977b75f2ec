-- The records of a model as exact numbers, and the record at a place, all zero where there is none.
use Rattle.std.specs.Prelude.{ℕ, ◌+◌, ◌*◌, ◌/◌, ◌%◌, Bool, List, get_or, eqb, ltb}
use Rattle.terms.specs.Base.{pick}
use Rattle.terms.specs.Line.{bit_of}
use Rattle.model.specs.declared.records.Action.{Action}
use Rattle.model.specs.declared.records.Machine.{Machine}
use Rattle.model.specs.declared.records.Location.{Location}
use Rattle.model.specs.declared.records.Listed.{Listed}

abbrev pub action : ℕ → ℕ → ℕ → ℕ → Action
action op loc x y = record { op = op; loc = loc; x = x; y = y }

abbrev pub machine : ℕ → ℕ → Bool → Machine
machine boot launch protected = record { boot = boot; launch = launch; protected = protected }

abbrev pub location : ℕ → ℕ → ℕ → Location
location m kind value = record { machine = m; kind = kind; value = value }

abbrev pub listed : ℕ → ℕ → ℕ → Listed
listed agent m program = record { agent = agent; machine = m; program = program }

unfoldable pub pack_action : Action → ℕ
pack_action a = a.op * 281474976710656 + a.loc * 4294967296 + a.x * 65536 + a.y

unfoldable pub action_in : ℕ → Action
action_in n = action (n / 281474976710656 % 256) (n / 4294967296 % 65536) (n / 65536 % 65536) (n % 65536)

unfoldable pub pack_machine : Machine → ℕ
pack_machine m = m.boot * 65536 + m.launch * 256 + bit_of m.protected

unfoldable pub machine_in : ℕ → Machine
machine_in n = machine (n / 65536 % 256) (n / 256 % 256) (eqb (n % 256) 1)

unfoldable pub pack_location : Location → ℕ
pack_location l = l.machine * 16777216 + l.kind * 65536 + l.value

unfoldable pub location_in : ℕ → Location
location_in n = location (n / 16777216 % 256) (n / 65536 % 256) (n % 65536)

unfoldable pub pack_thread : Listed → ℕ
pack_thread l = l.agent * 65536 + l.machine * 256 + l.program

unfoldable pub thread_in : ℕ → Listed
thread_in n = listed (n / 65536 % 65536) (n / 256 % 256) (n % 256)

-- action k of program p stands at 16 p + k
unfoldable pub action_number : List ℕ → ℕ → ℕ → ℕ
action_number l p k = pick (ltb (p * 16 + k) 512) (get_or l (p * 16 + k) 0) 0

unfoldable pub action_at : List ℕ → ℕ → ℕ → Action
action_at l p k = action_in (action_number l p k)

-- how many actions program p has
unfoldable pub length_at : List ℕ → ℕ → ℕ
length_at l p = pick (ltb p 32) (get_or l p 0) 0

unfoldable pub machine_at : List ℕ → ℕ → Machine
machine_at l i = pick (ltb i 4) (machine_in (get_or l i 0)) (machine_in 0)

unfoldable pub location_at : List ℕ → ℕ → Location
location_at l i = pick (ltb i 32) (location_in (get_or l i 0)) (location_in 0)

unfoldable pub thread_at : List ℕ → ℕ → Listed
thread_at l i = pick (ltb i 8) (thread_in (get_or l i 0)) (thread_in 0)
