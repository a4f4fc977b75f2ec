-- Each refusal has a number of its own, and none has 0.
use Prim.Native.Nat.{ℕ}
use mathlib.Core.Bool.{Bool, true, false}
use mathlib.Core.List.{List, [], ◌∷◌}
use mathlib.Core.Path.{◌≡◌, refl, sym, ap, ◌∙◌}
use lib.Dec.{eqb}
use lib.ListN.{get_or}
use Rattle.std.specs.Prelude.{Result, Ok, Err}
use Rattle.state.specs.Refusal.{number_of, refused_in}
use Rattle.state.specs.declared.refusal.Refusal.{Refusal}
use Rattle.state.specs.declared.refusal.Refusal.TheVariants.{NoCode, Nobody, OneSlot, StepsMade, OtherAction, Elsewhere, LockedOut, TooDeep, NoRoom, Unfit, Unsound, RecordsFull}

pub err_is : (r : Refusal) → eqb (number_of r) 0 ≡ false
err_is NoCode = refl
err_is Nobody = refl
err_is OneSlot = refl
err_is StepsMade = refl
err_is OtherAction = refl
err_is Elsewhere = refl
err_is LockedOut = refl
err_is TooDeep = refl
err_is NoRoom = refl
err_is Unfit = refl
err_is Unsound = refl
err_is RecordsFull = refl

-- the refusal with a number, some other where none has it
refusal_at : ℕ → List Refusal → Refusal
refusal_at n rs = get_or rs n NoCode

all : List Refusal
all = NoCode ∷ NoCode ∷ Nobody ∷ OneSlot ∷ StepsMade ∷ OtherAction ∷ Elsewhere ∷ LockedOut ∷ TooDeep ∷ NoRoom ∷ Unfit ∷ Unsound ∷ RecordsFull ∷ []

back : (r : Refusal) → refusal_at (number_of r) all ≡ r
unfolding refusal_at all
back NoCode = refl
back Nobody = refl
back OneSlot = refl
back StepsMade = refl
back OtherAction = refl
back Elsewhere = refl
back LockedOut = refl
back TooDeep = refl
back NoRoom = refl
back Unfit = refl
back Unsound = refl
back RecordsFull = refl

pub number_one : (r q : Refusal) → number_of r ≡ number_of q → r ≡ q
number_one r q e = sym (back r) ∙ ap (λ (n : ℕ). refusal_at n all) e ∙ back q

-- what is refused, and whether, is fixed by the number
not_nought : (r : Refusal) → number_of r ≡ 0 → eqb 0 0 ≡ false
not_nought r e = ap (λ (n : ℕ). eqb n 0) (sym e) ∙ err_is r

pub refused_one : (r q : Result (Unit {0}) Refusal) → refused_in r ≡ refused_in q → r ≡ q
refused_one (Ok u) (Ok v) e = refl
refused_one (Ok u) (Err q) e = let z : ◌≡◌ {A = Bool} true false = not_nought q (sym e) in cc
refused_one (Err r) (Ok v) e = let z : ◌≡◌ {A = Bool} true false = not_nought r e in cc
refused_one (Err r) (Err q) e = ap (λ (x : Refusal). Err x) (number_one r q e)
