-- `machine::judge::accepts_by` meets its contract: by the number of endings, the first program and the second.
use Rattle.std.proofs.Common.{◌≢◌, ◌∙◌, sym}
use Rattle.terms.proofs.Laws.{tests}
use Rattle.machine.specs.Judge.{accepts_by}
use Rattle.machine.proofs.Loops.{either_none}
use Rattle.machine.proofs.judge.accepts_by.Goals as goal

pub returns-in-0 : goal.returns-in-0
unfolding accepts_by
returns-in-0 c = search (tests)

pub returns-in-1 : goal.returns-in-1
unfolding accepts_by
returns-in-1 c = rw (c.in-1.is, c.from-p.ensures, either_none)

pub returns-then-first-p : goal.returns-then-first-p
unfolding accepts_by
returns-then-first-p c = search (tests, c.from-p.ensures, c.if-first-p.true ∙ c.from-p.ensures)

pub returns-else-first-p : goal.returns-else-first-p
unfolding accepts_by
returns-else-first-p c =
    let other : c.args.first ≢ c.args.program = λ h. c.if-first-p.false (h ∙ sym c.from-p.ensures) in
    search (tests, c.from-p.ensures, other)
