-- `state::seek::seek` meets its contract: the loop keeps that seeking from the start gives what seeking from
-- this number on gives. The measure is the numbers left.
use Prim.Native.Nat.{◌-◌}
use mathlib.Core.Path.{◌≡◌}
use Rattle.state.specs.Early.{sight_of}
use Rattle.state.specs.Seek.{seek_from}
use Rattle.state.proofs.seek.seek.Given as goal

abbrev pub invariant-loop-code : goal.invariant-loop-code
invariant-loop-code l =
    let g = sight_of l.f l.m.actions l.m.locations l.m.machine_count in
    seek_from g l.from ≡ seek_from g l.code

abbrev pub decreases-loop-code : goal.decreases-loop-code
decreases-loop-code l = 164 - l.code
