-- `runs::run::all_refused` meets its contract: the answers are filled with 11.
use Prim.Native.Nat.{◌+◌, ◌≤◌}
use mathlib.Core.Path.{◌≡◌}
use native.Mathlib.Omega.{arith}
use lib.ListN.{length, take, length-take}
use Rattle.rules.proofs.Loops.{put_filled}
use Rattle.runs.specs.Run.{all_refused}
use Rattle.runs.proofs.Shorter.{min_shorter}
use Rattle.runs.proofs.run.all_refused.Goals as goal

pub returns : goal.returns
unfolding all_refused
returns c =
    let n = c.min-tried.result in
    let h : 0 + n ≤ length c.args.answers.now = omega (arith, c.min-tried.ensures) in
    let t : length (take n c.args.answers.now) ≡ n = omega (arith, length-take n c.args.answers.now, h) in
    rw (c.fill.ensures.after (λ y e. e), t, c.number.ensures, put_filled 11 n 0 c.args.answers.now h, c.min-tried.ensures, min_shorter)
