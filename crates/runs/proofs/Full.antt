-- A turn stops the run where its answer is 12.
use mathlib.Core.Path.{◌≡◌, refl}
use mathlib.Core.Bool.{Bool, true, false}
use lib.Dec.{eqb}
use Rattle.std.specs.Prelude.{Result, Ok, Err}
use Rattle.std.specs.Result.{result_eq}
use Rattle.state.specs.Refusal.{refused_in}
use Rattle.state.specs.declared.refusal.Refusal.{Refusal}
use Rattle.state.specs.declared.refusal.Refusal.TheVariants.{NoCode, Nobody, OneSlot, StepsMade, OtherAction, Elsewhere, LockedOut, TooDeep, NoRoom, Unfit, Unsound, RecordsFull}

pub full_is : (same : Unit {0} → Unit {0} → Bool) (equal : Refusal → Refusal → Bool) (r : Result (Unit {0}) Refusal)
    → equal NoCode RecordsFull ≡ false
    → equal Nobody RecordsFull ≡ false
    → equal OneSlot RecordsFull ≡ false
    → equal StepsMade RecordsFull ≡ false
    → equal OtherAction RecordsFull ≡ false
    → equal Elsewhere RecordsFull ≡ false
    → equal LockedOut RecordsFull ≡ false
    → equal TooDeep RecordsFull ≡ false
    → equal NoRoom RecordsFull ≡ false
    → equal Unfit RecordsFull ≡ false
    → equal Unsound RecordsFull ≡ false
    → equal RecordsFull RecordsFull ≡ true
    → result_eq same equal r (Err RecordsFull) ≡ eqb (refused_in r) 12
full_is same equal (Ok u) a b c d e f g h i j k z = refl
full_is same equal (Err NoCode) a b c d e f g h i j k z = a
full_is same equal (Err Nobody) a b c d e f g h i j k z = b
full_is same equal (Err OneSlot) a b c d e f g h i j k z = c
full_is same equal (Err StepsMade) a b c d e f g h i j k z = d
full_is same equal (Err OtherAction) a b c d e f g h i j k z = e
full_is same equal (Err Elsewhere) a b c d e f g h i j k z = f
full_is same equal (Err LockedOut) a b c d e f g h i j k z = g
full_is same equal (Err TooDeep) a b c d e f g h i j k z = h
full_is same equal (Err NoRoom) a b c d e f g h i j k z = i
full_is same equal (Err Unfit) a b c d e f g h i j k z = j
full_is same equal (Err Unsound) a b c d e f g h i j k z = k
full_is same equal (Err RecordsFull) a b c d e f g h i j k z = z
