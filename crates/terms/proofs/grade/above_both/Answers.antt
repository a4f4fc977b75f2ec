-- `terms::grade::above_both` meets its contract: the callees' answers put into the definition.
use Rattle.terms.specs.Grade.{above_both}
use Rattle.terms.proofs.Laws.{larger_max}
use Rattle.terms.proofs.grade.above_both.Goals as goal

pub returns-then-ground_in : goal.returns-then-ground_in
unfolding above_both
returns-then-ground_in c =
    rw (
      c.from.ensures,
      c.max.ensures,
      ← c.depth_in.ensures,
      ← c.depth_in-2.ensures,
      larger_max _ _,
      ← c.ground_in.ensures,
      c.if-ground_in.true,
      ← c.ground_in-then-ground_in.ensures,
    )

pub returns-else-ground_in : goal.returns-else-ground_in
unfolding above_both
returns-else-ground_in c =
    rw (
      c.from.ensures,
      c.max.ensures,
      ← c.depth_in.ensures,
      ← c.depth_in-2.ensures,
      larger_max _ _,
      ← c.ground_in.ensures,
      c.if-ground_in.false,
    )
