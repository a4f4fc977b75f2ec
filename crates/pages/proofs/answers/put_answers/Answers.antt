use mathlib.Core.Path.{◌≡◌, refl, ◌∙◌}
use native.Mathlib.Nat.{sub-zero}
use native.Mathlib.Omega.{arith}
use borrow.Author.Rules.{rules}
use lib.ListN.{get_or}
use Rattle.lines.specs.Put.{seen}
use Rattle.pages.proofs.Texts.{answers_more, answers_end}
use Rattle.pages.proofs.answers.put_answers.Goals as goal

pub loop-i-init : goal.loop-i-init
loop-i-init c = (rw sub-zero, refl)

pub loop-i-preserved : goal.loop-i-preserved
loop-i-preserved c =
    let e : c.unwrap_or-code.result ≡ get_or c.args.codes.now c.loop-i.i 0 = search rules in
    let f : c.unwrap_or-number.result ≡ get_or c.args.answers.now c.loop-i.i 0 = search rules in (
      rw (
        c.loop-i.invariant.0,
        answers_more _ c.loop-i.i c.loop-i.event _ _ _ (seen c.loop-i.page) c.loop-i-test.true,
        ← e,
        ← f,
        ← c.put_answer.ensures.written,
        ← c.event_after-event.ensures,
      ),
      c.put_answer.ensures.same_bytes ∙ c.loop-i.invariant.1,
    )

pub returns-clause-written : goal.returns-clause-written
returns-clause-written c = rw (c.loop-i.invariant.0, answers_end c.args.tried c.loop-i.i c.loop-i.event _ _ _ (seen c.loop-i.page) (omega arith))
