-- `reader::fields::fields_of` meets its contract: the loop keeps that the numbers of the line are those got so far and
-- those of the rest, as many at most as there are places left.
use Prim.Native.Nat.{◌-◌}
use mathlib.Core.Path.{◌≡◌}
use Rattle.reader.specs.Numbers.{good, fields_in, fields_of}
use Rattle.reader.proofs.fields.fields_of.Given as goal

abbrev pub invariant-loop : goal.invariant-loop
invariant-loop l = (fields_of l.line ≡ fields_in (7 - l.counter) l.rest (good l.got)) × (l.got.count ≡ l.counter)
