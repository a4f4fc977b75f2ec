-- What a late launch and a reset do to the values of locations and to variables, for any type of labels: `none`, `sinit`,
-- `dinit` stand for labels 0, 1, 2.
use Rattle.std.specs.Prelude.{ℕ, ◌+◌, ◌/◌, List, [], ◌∷◌, get_or, eqb}
use Rattle.terms.specs.Base.{pick}
use Rattle.model.specs.Records.{location_in}
use Rattle.state.specs.Each.{each2}
use Rattle.state.specs.Launch.{is_dynamic}
use Rattle.state.specs.Reset.{is_on}

-- "Dynamic registers of that machine become dinit"
unfoldable pub value_launched : {A : Type 0} → A → ℕ → A → ℕ → A
value_launched dinit m value location = pick (is_dynamic location m) dinit value

unfoldable pub values_launched : {A : Type 0} → A → List A → List ℕ → ℕ → List A
values_launched dinit values locations m = each2 (value_launched dinit m) values locations

-- reset "sets RAM (0) to label 0 and all registers (2, 3) to sinit, keeps disk (1)"
unfoldable pub reset_value : {A : Type 0} → A → A → ℕ → A → A
reset_value none sinit kind value =
    pick (eqb kind 0) none
    (pick (eqb kind 1) value
    (pick (eqb kind 2) sinit
    (pick (eqb kind 3) sinit
    value)))

unfoldable pub value_reset : {A : Type 0} → A → A → ℕ → A → ℕ → A
value_reset none sinit m value location =
    pick (eqb (location_in location).machine m) (reset_value none sinit (location_in location).kind value) value

unfoldable pub values_reset : {A : Type 0} → A → A → List A → List ℕ → ℕ → List A
values_reset none sinit values locations m = each2 (value_reset none sinit m) values locations

-- the variables of a slot whose thread has ended are unbound
unfoldable pub var_reset : {A : Type 0} → A → ℕ → A → ℕ → A
var_reset none m v slot = pick (is_on slot m) none v

-- f of each element, and of the number of its slot: sixteen elements to a slot, the list's own first element at place i
unfoldable pub each_slot : {A : Type 0} → (A → ℕ → A) → ℕ → List A → List ℕ → List A
each_slot f i [] slots = []
each_slot f i (v ∷ vs) slots = f v (get_or slots (i / 16) 0) ∷ each_slot f (i + 1) vs slots

unfoldable pub vars_reset : {A : Type 0} → A → List A → List ℕ → ℕ → List A
vars_reset none vars slots m = each_slot (var_reset none m) 0 vars slots
