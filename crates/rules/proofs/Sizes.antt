-- A term that cannot be entered is refused by the number of its reason, an entry gives its label.
use Prim.Native.Nat.{ℕ}
use mathlib.Core.Path.{◌≡◌, refl, ap}
use mathlib.Core.List.{List}
use Rattle.std.specs.Prelude.{Result, Ok, Err, IsErrAnd}
use Rattle.terms.specs.Base.{held}
use Rattle.terms.specs.Table.{label_of, outcome_at, outcome_of}
use Rattle.terms.specs.Subst.{taken_of}
use Rattle.terms.specs.declared.table.Entry.{Entry}
use Rattle.terms.specs.declared.table.Entry.TheVariants as E
use Rattle.terms.specs.declared.table.Size.{Size}
use Rattle.terms.specs.declared.table.Size.TheVariants as Z
use Rattle.model.specs.declared.records.Action.{Action}
use Rattle.state.specs.Refusal.{number_of, refusal_of}
use Rattle.rules.specs.Work.{refused_by, labelled_by, result_by, try_by}

pub entry_labelled : (e : Entry) (x y c : ℕ) → result_by (outcome_at e) x y c ≡ labelled_by x y (label_of e) c
entry_labelled (E.Listed i) x y c = refl
entry_labelled (E.New i) x y c = refl

pub size_refused : (z : Size) (x y c : ℕ) → result_by (outcome_of z) x y c ≡ refused_by (number_of (refusal_of z)) c
size_refused Z.Deep x y c = refl
size_refused Z.Full x y c = refl

pub operand_refused : (z : Size) (c : ℕ) (l : List ℕ) (a : Action) (v n : ℕ) → try_by (taken_of z) c l a v n ≡ held (refused_by (number_of (refusal_of z)) c) l
operand_refused Z.Deep c l a v n = refl
operand_refused Z.Full c l a v n = refl

-- the error that a `?` makes
pub is_err_of : {T E : Type 0} (r : Result T E) (e : E) → IsErrAnd r (λ x. x ≡ e) → r ≡ Err e
is_err_of (Ok x) e h = absurd h
is_err_of (Err x) e h = ap (λ y. Err y) h
