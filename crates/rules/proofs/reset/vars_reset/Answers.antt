use Prim.Native.Nat.{ℕ, ◌+◌, ◌*◌}
use mathlib.Core.List.{List}
use mathlib.Core.Path.{◌≡◌, refl, sym, ap, ◌∙◌}
use native.Mathlib.Omega.{arith}
use lib.ListN.{get_or}
use borrow.Author.Rules.{rules}
use Rattle.rules.specs.Parts.{slot_cleared}
use Rattle.rules.specs.Restart.{var_reset, vars_reset}
use Rattle.rules.proofs.Loops.{up_to, slot_end, cleared_more}
use Rattle.rules.proofs.reset.vars_reset.Goals.{then-is_on, else-is_on}
use Rattle.rules.proofs.reset.vars_reset.Goals as goal

pub loop-i-init : goal.loop-i-init
unfolding vars_reset
loop-i-init c = (refl, search rules)

pub loop-i-preserved : goal.loop-i-preserved
unfolding slot_cleared
loop-i-preserved c =
    let e : slot_cleared 0 c.args.m c.loop-i.vars c.loop-i.i (get_or c.args.slots.now c.loop-i.i 0) ≡ c.if-is_on.vars =
    elim c.if-is_on.branch [
      | then-is_on w ↦ rw (← c.is_on.ensures, w.if-is_on.true, w.vars-is, w.cleared.ensures)
      | else-is_on w ↦ rw (← c.is_on.ensures, w.if-is_on.false, w.vars-is)
    ]
    in (
      c.loop-i.invariant.0
          ∙ cleared_more 0 c.args.m c.args.slots.now c.loop-i.vars c.loop-i.i (omega (arith, c.loop-i-test.true)) c.loop-i.invariant.1
          ∙ ap (λ (l : List ℕ). up_to (var_reset 0 c.args.m) c.args.slots.now l ((c.loop-i.i + 1) * 16)) e,
      search rules,
    )

pub returns : goal.returns
returns c =
    sym (c.loop-i.invariant.0 ∙ slot_end (var_reset 0 c.args.m) c.loop-i.vars c.args.slots.now (c.loop-i.i * 16) (omega (arith, c.loop-i.invariant.1, c.loop-i-test.false)))
