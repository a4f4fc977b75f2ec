-- `machine::claim::first_break` meets its contract: only the first accept can break, as the definition says.
use Rattle.std.proofs.Common.{rules}
use Rattle.machine.specs.Judge.{accepts_at, first_accept, first_break_on}
use Rattle.machine.proofs.Ranges.{found_below, found_some, found_none}
use Rattle.machine.proofs.claim.first_break.Goals as goal

pub returns-in-Some : goal.returns-in-Some
unfolding first_break_on first_accept
returns-in-Some c =
    let found = found_below c.args.n (λ i. accepts_at c.args.records.now i c.args.c.program) _ _ _ c.find.ensures.ran (λ x b q k. search rules) in
    let it = found_some _ c.args.n found c.in-Some.is in
    rw (it.0, it.1, ← c.walked.ensures, c.if-not-walked.true, ← c.one_more.ensures)

pub returns-in_default : goal.returns-in_default
unfolding first_break_on first_accept
returns-in_default c =
    let found = found_below c.args.n (λ i. accepts_at c.args.records.now i c.args.c.program) _ _ _ c.find.ensures.ran (λ x b q k. search rules) in
    let it = found_some _ c.args.n found c.in-Some.is in
    rw (it.0, it.1, ← c.walked.ensures, c.if-not-walked.false)

pub returns-in_default-2 : goal.returns-in_default-2
unfolding first_break_on first_accept
returns-in_default-2 c =
    let found = found_below c.args.n (λ i. accepts_at c.args.records.now i c.args.c.program) _ _ _ c.find.ensures.ran (λ x b q k. search rules) in
    rw (found_none _ c.args.n found c.in_default.is)
