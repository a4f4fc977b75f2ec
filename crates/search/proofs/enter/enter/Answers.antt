use mathlib.Core.Path.{refl}
use mathlib.Core.List.{List}
use native.Mathlib.Nat.{sub-zero}
use native.Mathlib.Omega.{arith}
use lib.ListN.{get_or, length-set}
use lib.Seq.{set-set}
use borrow.Author.Rules.{rules}
use Rattle.state.specs.declared.control.Control.{Control}
use Rattle.search.specs.Enter.{no_control, climb, enter_on}
use Rattle.search.proofs.Laws.{put_at, stepped_is, enter_more, enter_end}
use Rattle.search.proofs.enter.enter.Goals as goal

pub loop-i-init : goal.loop-i-init
unfolding enter_on
loop-i-init c = (rw (sub-zero, ← c.start-place.ensures, ← c.fresh-stack.ensures), refl, search rules, omega arith, refl)

pub returns-then-not-goes_on : goal.returns-then-not-goes_on
returns-then-not-goes_on c =
    let i = c.level_of-level.result in
    let stack : List Control = c.loop-i.stack in
    let went = rw (put_at stack i (get_or stack i no_control) c.loop-i.invariant.2 c.level_of-level.ensures.small, stepped_is) at c.try_step-r.ensures in
    rw (
      set-set,
      c.loop-i.invariant.0,
      enter_more c.args.m.now c.args.p c.loop-i.i (climb c.loop-i.stack c.loop-i.place c.loop-i.t c.loop-i.records) c.args.p.length (omega (arith, c.loop-i-test.true)),
      ← c.level_of-level.ensures.is,
      ← c.code_in-code.ensures,
      ← went,
      ← c.goes_on.ensures,
      ← c.pushed-place.ensures,
      c.if-not-goes_on.true,
    )

pub loop-i-preserved : goal.loop-i-preserved
loop-i-preserved c =
    let i = c.level_of-level.result in
    let stack : List Control = c.loop-i.stack in
    let went = rw (put_at stack i (get_or stack i no_control) c.loop-i.invariant.2 c.level_of-level.ensures.small, stepped_is) at c.try_step-r.ensures in (
      rw (
        set-set,
        c.loop-i.invariant.0,
        enter_more c.args.m.now c.args.p c.loop-i.i (climb c.loop-i.stack c.loop-i.place c.loop-i.t c.loop-i.records) c.args.p.length (omega (arith, c.loop-i-test.true)),
        ← c.level_of-level.ensures.is,
        ← c.code_in-code.ensures,
        ← went,
        ← c.goes_on.ensures,
        ← c.pushed-place.ensures,
        c.if-not-goes_on.false,
      ),
      search rules,
      rw (length-set, length-set) c.loop-i.invariant.2,
      omega (arith, c.loop-i-test.true),
      c.loop-i.invariant.4,
    )

pub returns : goal.returns
returns c =
    rw (
      c.loop-i.invariant.0,
      enter_end c.args.m.now c.args.p c.loop-i.i (climb c.loop-i.stack c.loop-i.place c.loop-i.t c.loop-i.records) c.args.p.length (omega arith),
      ← c.at_code.ensures,
    )
