-- Which ops use loc, x and y, and where a location must be of one kind.
use Rattle.std.specs.Prelude.{ℕ, Bool, true, false, eqb, ltb, leb}
use Rattle.terms.specs.Base.{pick, also}
use Rattle.model.specs.declared.records.Action.{Action}
use Rattle.model.specs.declared.fields.Loc.{Loc}
use Rattle.model.specs.declared.fields.Loc.TheVariants.{Any, Memory, Register, Function, Unused}

-- one test or the other holds
abbrev pub either : Bool → Bool → Bool
either p q = pick p true q

-- 0 read, 1 write, 2 extend, 3 lock, 4 unlock name a location; 14 eval a function
unfoldable pub loc_of : ℕ → Loc
loc_of op =
    pick (eqb op 0) Any
    (pick (eqb op 1) Memory
    (pick (eqb op 2) Register
    (pick (eqb op 3) Any
    (pick (eqb op 4) Any
    (pick (eqb op 14) Function
    Unused)))))

-- where the loc field is a location's number
abbrev pub names_by : Loc → Bool
names_by Any = true
names_by Memory = true
names_by Register = true
names_by Function = false
names_by Unused = false

unfoldable pub names_location : ℕ → Bool
names_location op = names_by (loc_of op)

-- 1 write, 2 extend, 5 send, 19 jump, 7 to 17
unfoldable pub uses_x : ℕ → Bool
uses_x op = either (eqb op 1) (either (eqb op 2) (either (eqb op 5) (either (eqb op 19) (pick (ltb op 7) false (ltb op 18)))))

-- 17 match, 7 to 12
unfoldable pub uses_y : ℕ → Bool
uses_y op = either (eqb op 17) (pick (ltb op 7) false (ltb op 13))

-- 19 jump, 20 late_launch: no action may follow
unfoldable pub closing : ℕ → Bool
closing op = either (eqb op 19) (eqb op 20)

-- a location's number is judged where the locations are known
abbrev pub loc_form_by : Loc → ℕ → Bool
loc_form_by Any loc = true
loc_form_by Memory loc = true
loc_form_by Register loc = true
loc_form_by Function loc = ltb loc 256
loc_form_by Unused loc = eqb loc 0

unfoldable pub loc_in_form : Action → Bool
loc_in_form a = loc_form_by (loc_of a.op) a.loc

-- an unused field is 0
unfoldable pub unused_zero : Bool → ℕ → Bool
unused_zero used n = either used (eqb n 0)

-- "an unused field not 0 .. is 22", and an unknown op or function too
unfoldable pub in_form : Action → Bool
in_form a =
    pick (leb 21 a.op) false
    (also (loc_in_form a) (also (unused_zero (uses_x a.op) a.x) (unused_zero (uses_y a.op) a.y)))

-- 0 RAM, 1 disk
unfoldable pub is_memory : ℕ → Bool
is_memory kind = ltb kind 2

-- 2 static register, 3 dynamic register
unfoldable pub is_register : ℕ → Bool
is_register kind = pick (ltb kind 2) false (ltb kind 4)

-- "Write takes RAM or disk, extend a register, the rest any"
abbrev pub kind_by : Loc → ℕ → Bool
kind_by Any kind = true
kind_by Memory kind = is_memory kind
kind_by Register kind = is_register kind
kind_by Function kind = true
kind_by Unused kind = true

unfoldable pub kind_fits : ℕ → ℕ → Bool
kind_fits op kind = kind_by (loc_of op) kind
