-- `lines::field::value` meets its contract: the fold is that of the definition.
use mathlib.Core.Path.{◌∙◌}
use Prim.Native.Nat.{◌+◌, ◌*◌, ◌-◌}
use Rattle.std.proofs.Common.{rules}
use Rattle.std.proofs.lemmas.Iterator.{YieldsList-from_slice}
use Rattle.std.proofs.lemmas.Iterator.Consumers.{fold_from_yields_List}
use Rattle.lines.specs.Field.{capped, number_of}
use Rattle.lines.proofs.Laws.{value_fold}
use Rattle.lines.proofs.field.value.Goals as goal

pub returns : goal.returns
unfolding number_of capped
returns c =
    fold_from_yields_List _ (λ n d. capped (n * 10 + (d - 48))) 0 c.fold.result c.fold.ensures.ran (YieldsList-from_slice c.args.ds.now cc) (λ n d r q k. search rules)
    ∙ value_fold 0 c.args.ds.now
