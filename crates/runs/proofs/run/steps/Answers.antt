use Prim.Native.Nat.{◌≤◌}
use mathlib.Core.Path.{◌≡◌, refl, ◌∙◌}
use native.Mathlib.Omega.{arith}
use lib.ListN.{length, length-set}
use lib.Dec.{eqb}
use Rattle.state.specs.Refusal.{refused_in}
use Rattle.runs.proofs.Full.{full_is}
use Rattle.runs.specs.Run.{shorter, steps_on}
use Rattle.runs.proofs.Loops.{steps_more, steps_end}
use Rattle.runs.proofs.Shorter.{min_shorter}
use Rattle.runs.proofs.run.steps.Goals as goal

pub returns-then-eq : goal.returns-then-eq
unfolding steps_on
returns-then-eq c =
    let n : c.min-n.result ≡ shorter (length c.args.codes.now) (length c.args.answers.now) = c.min-n.ensures ∙ min_shorter _ _ in
    let w : c.min-n.result ≤ length c.args.codes.now = omega (arith, c.min-n.ensures) in
    let stop : c.eq.result ≡ eqb (refused_in c.one_turn-turn.result) 12 =
    c.eq.ensures ∙ full_is _ _ _ refl refl refl refl refl refl refl refl refl refl refl refl
    in
    rw (
      ← n,
      c.loop-i.invariant.0,
      steps_more _ _ c.loop-i.i _ _ c.loop-i.t c.loop-i.answers c.loop-i.records c.loop-i.control c.loop-i.events c.loop-i-test.true w,
      ← c.one_turn-turn.ensures,
      ← stop,
      c.if-eq.true,
      c.answer_of.ensures,
    )

pub loop-i-preserved : goal.loop-i-preserved
loop-i-preserved c =
    let w : c.min-n.result ≤ length c.args.codes.now = omega (arith, c.min-n.ensures) in
    let stop : c.eq.result ≡ eqb (refused_in c.one_turn-turn.result) 12 =
    c.eq.ensures ∙ full_is _ _ _ refl refl refl refl refl refl refl refl refl refl refl refl
    in (
      rw (
        c.loop-i.invariant.0,
        steps_more _ _ c.loop-i.i _ _ c.loop-i.t c.loop-i.answers c.loop-i.records c.loop-i.control c.loop-i.events c.loop-i-test.true w,
        ← c.one_turn-turn.ensures,
        ← stop,
        c.if-eq.false,
        c.answer_of.ensures,
      ),
      rw length-set c.loop-i.invariant.1,
    )

pub returns : goal.returns
unfolding steps_on
returns c =
    let n : c.min-n.result ≡ shorter (length c.args.codes.now) (length c.args.answers.now) = c.min-n.ensures ∙ min_shorter _ _ in
    let e : c.loop-i.i ≡ c.min-n.result = omega (arith, c.loop-i.auto.i-end, c.loop-i-test.false) in
    rw (
      ← n,
      c.loop-i.invariant.0,
      steps_end _ _ c.loop-i.i _ _ c.loop-i.t c.loop-i.answers c.loop-i.records c.loop-i.control c.loop-i.events c.loop-i-test.false,
      e,
    )
