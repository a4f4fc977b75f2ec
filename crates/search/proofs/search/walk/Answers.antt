use mathlib.Core.Path.{refl, sym, ap, subst, ◌∙◌}
use Prim.Native.Nat.{◌<◌}
use borrow.Author.Rules.{rules}
use Rattle.search.specs.Search.{Scene, scene, walk_on, walk_from}
use Rattle.search.proofs.Laws.{turned_less, walk_more, walk_end}
use Rattle.search.proofs.Falls.{turns_left}
use Rattle.search.proofs.search.walk.Goals as goal

pub loop-w-init : goal.loop-w-init
loop-w-init c = (refl, refl, refl)

pub loop-w-smaller : goal.loop-w-smaller
loop-w-smaller c =
    let here : Scene = scene c.loop-w.w c.loop-w.stack c.loop-w.deeps c.loop-w.t c.loop-w.records c.loop-w.room in
    subst
    (λ (y : Scene). turns_left y.walk < turns_left c.loop-w.w)
    (sym c.advance-w.ensures)
    (turned_less c.args.m.now c.args.k here (rw c.in-None.is))

pub loop-w-preserved : goal.loop-w-preserved
loop-w-preserved c =
    let here : Scene = scene c.loop-w.w c.loop-w.stack c.loop-w.deeps c.loop-w.t c.loop-w.records c.loop-w.room in (
      c.loop-w.invariant.0 ∙ walk_more c.args.m.now c.args.k here (rw c.in-None.is)
          ∙ ap (λ (y : Scene). walk_on c.args.m.now c.args.k y) (sym c.advance-w.ensures),
      search rules,
      search rules,
    )

pub returns-in-Some : goal.returns-in-Some
unfolding walk_from
returns-in-Some c =
    let here : Scene = scene c.loop-w.w c.loop-w.stack c.loop-w.deeps c.loop-w.t c.loop-w.records c.loop-w.room in
    rw (
      ← c.first_walk-w.ensures,
      ← c.deeps_of-deeps.ensures,
      c.loop-w.invariant.0,
      walk_end c.args.m.now c.args.k here (rw c.in-Some.is),
      c.saturating_sub.ensures,
      c.in-Some.is,
    )
