-- `audit::controls::machine_fits` meets its contract: the larger of two numbers, the other way round.
use Rattle.std.proofs.Common.{◌≡◌, max, arith}
use Rattle.state.specs.FrameSound.{most_among}
use Rattle.audit.specs.Configuration.{machine_fits}
use Rattle.audit.proofs.controls.machine_fits.Goals as goal

pub returns : goal.returns
unfolding machine_fits most_among
returns c =
    let n = c.listed_count.result in
    let most : max n 1 ≡ max 1 n = omega arith in
    rw (c.max.ensures, most, c.live_count.ensures, c.listed_count.ensures)
