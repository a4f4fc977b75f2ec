use mathlib.Core.Path.{◌≡◌, refl}
use borrow.Author.Rules.{rules}
use Rattle.lines.specs.Codes as C
use Rattle.lines.specs.Codes.{code_read, next_code, judged}
use Rattle.lines.proofs.Lines.{next_moves, judge_turn}
use Rattle.lines.proofs.codes.first_bad_line.Goals as goal

pub loop-code-init : goal.loop-code-init
unfolding judged
loop-code-init c = (refl, search rules, search rules)

pub overflow_add-at : goal.overflow_add-at
overflow_add-at c =
    let e : next_code c.rest_of.result.now ≡ C.Next c.in-Ok-Some.code.code c.in-Ok-Some.code.next = rw (← c.next_code.ensures, c.in-Ok-Some.is, c.in-Ok-Some.field-0-is) in
    let n = next_moves c.args.rest.now _ c.loop-code.at _ c.in-Ok-Some.code.next c.rest_of.ensures e in
    search rules

pub loop-code-smaller : goal.loop-code-smaller
loop-code-smaller c =
    let e : next_code c.rest_of.result.now ≡ C.Next c.in-Ok-Some.code.code c.in-Ok-Some.code.next = rw (← c.next_code.ensures, c.in-Ok-Some.is, c.in-Ok-Some.field-0-is) in
    let n = next_moves c.args.rest.now _ c.loop-code.at _ c.in-Ok-Some.code.next c.rest_of.ensures e in
    search rules

pub loop-code-preserved : goal.loop-code-preserved
loop-code-preserved c =
    let e : next_code c.rest_of.result.now ≡ C.Next c.in-Ok-Some.code.code c.in-Ok-Some.code.next = rw (← c.next_code.ensures, c.in-Ok-Some.is, c.in-Ok-Some.field-0-is) in
    let n = next_moves c.args.rest.now _ c.loop-code.at _ c.in-Ok-Some.code.next c.rest_of.ensures e in (
      rw (
        c.loop-code.invariant.0,
        judge_turn c.args.rest.now c.loop-code.at c.loop-code.i,
        ← n.is,
        ← c.rest_of.ensures,
        e,
      ),
      search rules,
      search rules,
    )

pub returns-in-Ok-None : goal.returns-in-Ok-None
returns-in-Ok-None c =
    rw (
      c.loop-code.invariant.0,
      judge_turn c.args.rest.now c.loop-code.at c.loop-code.i,
      ← c.rest_of.ensures,
      ← c.next_code.ensures,
      c.in-Ok-None.is,
      c.in-Ok-None.field-0-is,
    )

pub returns-in-Err : goal.returns-in-Err
returns-in-Err c =
    rw (
      c.loop-code.invariant.0,
      judge_turn c.args.rest.now c.loop-code.at c.loop-code.i,
      ← c.rest_of.ensures,
      ← c.next_code.ensures,
      c.in-Err.is,
    )
