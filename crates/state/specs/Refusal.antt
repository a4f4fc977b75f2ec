-- Why a code is turned down, as its number; 0 where it is let through.
use Rattle.std.specs.Prelude.{ℕ, Result, Ok, Err}
use Rattle.terms.specs.declared.table.Size.{Size}
use Rattle.terms.specs.declared.table.Size.TheVariants.{Deep, Full}
use Rattle.state.specs.declared.refusal.Refusal.{Refusal}
use Rattle.state.specs.declared.refusal.Refusal.TheVariants.{NoCode, Nobody, OneSlot, StepsMade, OtherAction, Elsewhere, LockedOut, TooDeep, NoRoom, Unfit, Unsound, RecordsFull}

abbrev pub number_of : Refusal → ℕ
number_of NoCode = 1
number_of Nobody = 2
number_of OneSlot = 3
number_of StepsMade = 4
number_of OtherAction = 5
number_of Elsewhere = 6
number_of LockedOut = 7
number_of TooDeep = 8
number_of NoRoom = 9
number_of Unfit = 10
number_of Unsound = 11
number_of RecordsFull = 12

-- the number of what a code is refused for, 0 where it is not
abbrev pub refused_in : Result (Unit {0}) Refusal → ℕ
refused_in (Ok u) = 0
refused_in (Err r) = number_of r

-- a term that cannot be entered
abbrev pub refusal_of : Size → Refusal
refusal_of Deep = TooDeep
refusal_of Full = NoRoom
