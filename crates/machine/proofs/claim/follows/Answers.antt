-- `machine::claim::follows` meets its contract: the definition follows the thread over the same records.
use Rattle.std.proofs.Common.{◌≡◌, rules, ◌∙◌}
use Rattle.machine.specs.Judge.{follow_at, follow_from, follows_on}
use Rattle.machine.proofs.Ranges.{fold_below, follow_range}
use Rattle.machine.proofs.claim.follows.Goals as goal

pub returns : goal.returns
unfolding follows_on
returns c =
    let l = c.args.records.now in
    let way : c.fold.result ≡ follow_from c.args.n 0 l c.args.serial c.args.c 0 =
    fold_below c.args.n (λ k i. follow_at l i c.args.serial c.args.c k) 0 _ _ c.fold.ensures.ran (λ a x b q k. search rules)
    ∙ follow_range l c.args.serial c.args.c c.args.n in
    rw way
