-- `terms::subbed::Subbed::label` meets its contract: the two tests of the definition.
use borrow.Author.Tests.{lt-ltb, le-ltb}
use Rattle.terms.specs.Subbed.{label_in, has_label, is_deep, subbed_in}
use Rattle.terms.proofs.subbed.Subbed.label.Goals as goal

pub returns-then-self-lt4294967296 : goal.returns-then-self-lt4294967296
unfolding subbed_in has_label label_in
returns-then-self-lt4294967296 c = rw (lt-ltb _ _ c.if-self-lt4294967296.true)

pub returns-then-self-lt8589934592 : goal.returns-then-self-lt8589934592
unfolding subbed_in has_label is_deep
returns-then-self-lt8589934592 c =
    rw (le-ltb _ _ c.if-self-lt4294967296.false, lt-ltb _ _ c.if-self-lt8589934592.true)

pub returns-else-self-lt8589934592 : goal.returns-else-self-lt8589934592
unfolding subbed_in has_label is_deep
returns-else-self-lt8589934592 c =
    rw (le-ltb _ _ c.if-self-lt4294967296.false, le-ltb _ _ c.if-self-lt8589934592.false)
