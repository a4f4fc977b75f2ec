-- `machine::judge::path_at` meets its contract: within the four places, or 0.
use Rattle.std.proofs.Common.{◌≡◌, ◌∙◌, rules, get_or}
use Rattle.machine.specs.Judge.{path_at}
use Rattle.machine.proofs.Loops.{place_or}
use Rattle.machine.proofs.judge.path_at.Goals as goal

pub returns : goal.returns
unfolding path_at
returns c =
    let got : c.unwrap_or.result ≡ get_or c.args.c.path c.args.at 0 = search rules in
    got ∙ place_or 4 c.args.c.path c.args.at (search rules)
