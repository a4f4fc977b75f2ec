-- `terms::entry::graded` meets its contract: the depth, then the lookup, then the room, as `enter_from` has them.
use borrow.Author.Tests.{lt-ltb, le-ltb, eq-eqb, ne_eqb}
use Rattle.terms.specs.Entry.{enter_from}
use Rattle.terms.proofs.entry.graded.Goals as goal

pub returns-then-g-gt-DEPTH : goal.returns-then-g-gt-DEPTH
unfolding enter_from
returns-then-g-gt-DEPTH c = rw (c.refused.ensures, lt-ltb _ _ c.if-g-gt-DEPTH.true)

pub returns-in-Some : goal.returns-in-Some
unfolding enter_from
returns-in-Some c =
    rw (
      c.listed.ensures,
      le-ltb _ _ c.if-g-gt-DEPTH.false,
      ← c.pack-n.ensures,
      ← c.find_line.ensures,
      c.in-Some.is,
    )

pub returns-then-free_entries-eq0 : goal.returns-then-free_entries-eq0
unfolding enter_from
returns-then-free_entries-eq0 c =
    rw (
      c.refused-then-free_entries-eq0.ensures,
      le-ltb _ _ c.if-g-gt-DEPTH.false,
      ← c.pack-n.ensures,
      ← c.find_line.ensures,
      c.in_default.is,
      ← c.free_entries.ensures.is,
      eq-eqb _ _ c.if-free_entries-eq0.true,
    )

pub returns : goal.returns
unfolding enter_from
returns c =
    rw (
      c.listed-2.ensures,
      le-ltb _ _ c.if-g-gt-DEPTH.false,
      ← c.pack-n.ensures,
      ← c.find_line.ensures,
      c.in_default.is,
      ← c.free_entries.ensures.is,
      ne_eqb _ _ c.if-free_entries-eq0.false,
    )
