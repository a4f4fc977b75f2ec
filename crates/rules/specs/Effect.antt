-- What an action does to the values of locations and to variables. These are lists of labels; since nothing here looks
-- into a label, all is said for any type in its place, with what stands for label 0 (none) given.
use Rattle.std.specs.Prelude.{ℕ, ◌+◌, ◌*◌, List, set, eqb, ltb}
use Rattle.terms.specs.Base.{pick, filled}
use Rattle.model.specs.declared.records.Action.{Action}
use Rattle.state.specs.Moves.{with_at, is_last}
use Rattle.state.specs.declared.slot.Slot.{Slot}

-- write (1) stores x; "extend (2) replaces value v by the chain of v and x", which is the result
unfoldable pub stored : {A : Type 0} → List A → Action → A → A → List A
stored values a x r =
    pick (eqb a.op 1) (with_at values a.loc x)
    (pick (eqb a.op 2) (with_at values a.loc r)
    values)

-- variable k of slot i stands at 16 i + k
unfoldable pub place_of : ℕ → ℕ → ℕ
place_of i k = i * 16 + k

unfoldable pub with_var : {A : Type 0} → List A → ℕ → ℕ → A → List A
with_var vars i k v = pick (ltb (place_of i k) 192) (set vars (place_of i k) v) vars

-- all variables of slot i are unbound
unfoldable pub cleared : {A : Type 0} → A → List A → ℕ → List A
cleared none vars i = pick (ltb i 12) (filled none 16 (place_of i 0) vars) vars

-- what the mover binds: an extend's chain is shown, but label 0 is bound
unfoldable pub bound_by : {A : Type 0} → A → ℕ → A → A
bound_by none op r = pick (eqb op 2) none r

-- "Action k of a program binds variable k"; a thread past its last action is gone, and its variables unbound
unfoldable pub bound : {A : Type 0} → A → List ℕ → List A → ℕ → Slot → A → List A
bound none lengths vars i s v = pick (is_last lengths s) (cleared none vars i) (with_var vars i s.position v)
