-- `quiet::ends::stands` meets its contract: a number 0 is no live thread; else the two tests of the definition, then whether the
-- action is the last.
use Rattle.std.proofs.Common.{◌≡◌, false, inl, inr, rules}
use borrow.Author.Tests.{eq-eqb, ne_eqb}
use Rattle.state.proofs.Live.{zero_free}
use Rattle.quiet.specs.Quiet.{stands_in}
use Rattle.quiet.proofs.ends.stands.Goals as goal

pub returns-then-n-eq0 : goal.returns-then-n-eq0
unfolding stands_in
returns-then-n-eq0 c = rw (c.if-n-eq0.true, zero_free)

pub returns-then-q-program : goal.returns-then-q-program
unfolding stands_in
returns-then-q-program c =
    rw (← c.slot_in-q.ensures, ← c.is_last.ensures.is, c.if-q-program.true.0, eq-eqb _ _ c.if-q-program.true.1)

pub returns-else-q-program : goal.returns-else-q-program
unfolding stands_in
returns-else-q-program c =
    let none : stands_in c.args.lengths.now c.args.program c.args.n ≡ false =
    elim c.if-q-program.either [
      | inl h ↦ rw (← c.slot_in-q.ensures, h.0, ne_eqb _ _ h.1)
      | inr h ↦ rw (← c.slot_in-q.ensures, h)
    ] in
    search (rules, none)
