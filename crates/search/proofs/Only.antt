-- What the code answers is fixed by what the definitions say of it: no two answers read alike.
use mathlib.Core.Bool.{Bool, true, false}
use mathlib.Core.List.{List}
use mathlib.Core.Path.{◌≡◌, refl, sym, ap, ◌∙◌}
use Rattle.std.specs.Prelude.{Result, Ok, Err}
use Rattle.state.specs.declared.control.Control.{Control}
use Rattle.search.specs.Enter.{Entered, entry_of}
use Rattle.search.specs.declared.place.Place.{Place}

abbrev entry_back : Bool → Place → Result Place Place
entry_back true p = Ok p
entry_back false p = Err p

entry_is : (r : Result Place Place) (s : List Control) → entry_back (entry_of r s).good (entry_of r s).place ≡ r
entry_is (Ok p) s = refl
entry_is (Err p) s = refl

stack_is : (r : Result Place Place) (s : List Control) → (entry_of r s).stack ≡ s
stack_is (Ok p) s = refl
stack_is (Err p) s = refl

-- of a place entered, with the configurations that it leaves
pub entry_one : (r q : Result Place Place) (s t : List Control) → entry_of r s ≡ entry_of q t → (r ≡ q) × (s ≡ t)
entry_one r q s t e = (
  sym (entry_is r s) ∙ ap (λ (w : Entered). entry_back w.good w.place) e ∙ entry_is q t,
  sym (stack_is r s) ∙ ap (λ (w : Entered). w.stack) e ∙ stack_is q t,
)
