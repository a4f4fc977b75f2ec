use mathlib.Core.Path.{refl, sym, ◌∙◌}
use Rattle.state.specs.Early.{sight_of}
use Rattle.state.proofs.Sought.{seek_end, seek_let, refused_none, seek_turn}
use Rattle.state.proofs.seek.seek.Goals as goal

pub loop-code-init : goal.loop-code-init
loop-code-init c = refl

pub returns-then-n-eq0 : goal.returns-then-n-eq0
returns-then-n-eq0 c =
    let g = sight_of c.args.f.now c.args.m.now.actions c.args.m.now.locations c.args.m.now.machine_count in
    sym (c.loop-code.invariant ∙ seek_let g c.loop-code.code c.loop-code-test.true (refused_none g c.loop-code.code (sym c.refused_from-n.ensures.is ∙ c.if-n-eq0.true)))

pub loop-code-preserved : goal.loop-code-preserved
loop-code-preserved c =
    let g = sight_of c.args.f.now c.args.m.now.actions c.args.m.now.locations c.args.m.now.machine_count in
    c.loop-code.invariant ∙ seek_turn g c.loop-code.code _ c.loop-code-test.true c.refused_from-n.ensures.is

pub returns : goal.returns
returns c =
    let g = sight_of c.args.f.now c.args.m.now.actions c.args.m.now.locations c.args.m.now.machine_count in
    sym (c.loop-code.invariant ∙ seek_end g c.loop-code.code c.loop-code-test.false)
