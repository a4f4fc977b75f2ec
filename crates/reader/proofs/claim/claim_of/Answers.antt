-- `reader::claim::claim_of` meets its contract: the numbers at their places.
use Rattle.std.proofs.Common.{rules}
use Rattle.reader.specs.CLine.{claim_of}
use Rattle.reader.specs.Numbers.{up_to255}
use Rattle.reader.proofs.Laws.{mapped_four}
use Rattle.reader.proofs.claim.claim_of.Goals as goal

pub returns : goal.returns
unfolding claim_of
returns c = rw (
  ← c.up_to_255.ensures,
  ← c.up_to_255-2.ensures,
  ← c.up_to_255-3.ensures,
  c.saturating_sub.ensures,
  mapped_four up_to255 _ _ _ _ _ c.map.ensures.items (λ x r p q k. search rules),
)
