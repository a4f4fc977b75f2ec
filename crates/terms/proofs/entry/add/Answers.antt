-- `terms::entry::add` meets its contract: what came of it is told from the answer.
use Prim.Native.Nat.{ℕ}
use mathlib.Core.Path.{◌≡◌, refl}
use borrow.Author.Tests.{eq-eqb, ne_eqb}
use Rattle.std.specs.Prelude.{Result, Ok, Err, IsErrAnd}
use Rattle.terms.specs.Table.{added, added_in, outcome_of}
use Rattle.terms.specs.declared.table.Added.{Added}
use Rattle.terms.specs.declared.table.Size.{Size}
use Rattle.terms.proofs.Answers.{told_added, told_size}
use Rattle.terms.proofs.entry.add.Goals as goal

-- a refusal is handed on
refused : (r : Result Added Size) (z : Size) (c : ℕ) → IsErrAnd r (λ e. e ≡ z) → added_in c r ≡ added (outcome_of z) c
refused (Ok x) z c h = absurd h
refused (Err e) z c h = rw h

pub returns-in_err-label : goal.returns-in_err-label
returns-in_err-label c =
    let e = told_added _ _ _ _ _ _ _ c.entered-r.ensures (rw c.in_err-label.was at c.label.ensures) refl in
    rw (refused _ _ _ c.from_residual.ensures.1) (rw told_size at e)

pub returns-then-after-count : goal.returns-then-after-count
returns-then-after-count c =
    rw (eq-eqb _ _ c.if-after-count.true) at (told_added _ _ _ _ _ _ _ c.entered-r.ensures (rw c.in_ok-label.was at c.label.ensures) c.count-after.ensures)

pub returns-else-after-count : goal.returns-else-after-count
returns-else-after-count c =
    rw (ne_eqb _ _ c.if-after-count.false) at (told_added _ _ _ _ _ _ _ c.entered-r.ensures (rw c.in_ok-label.was at c.label.ensures) c.count-after.ensures)
