-- `rules::effect::cleared` meets its contract: the slot's part of the variables is filled with label 0.
use Prim.Native.Nat.{◌+◌, ◌-◌, ◌*◌, ◌≤◌}
use mathlib.Core.Path.{◌≡◌, ◌∙◌}
use native.Mathlib.Omega.{arith}
use lib.ListN.{length}
use borrow.Author.Tests.{lt-ltb, le-ltb}
use Rattle.std.proofs.Common.{rules}
use Rattle.rules.specs.Effect.{place_of, cleared}
use Rattle.rules.proofs.Loops.{put_filled, mid_long}
use Rattle.rules.proofs.effect.cleared.Goals as goal

pub slice_bounds-fill-end : goal.slice_bounds-fill-end
unfolding place_of
slice_bounds-fill-end c = let h = c.place_of.ensures in let i = c.from-from.ensures in let j = c.if-slot-lt-SLOTS.true in search (rules, arith)

pub returns-then-slot-lt-SLOTS : goal.returns-then-slot-lt-SLOTS
unfolding cleared place_of
returns-then-slot-lt-SLOTS c =
    let i = c.from-from.result in
    let e : i ≡ c.args.slot * 16 + 0 = c.from-from.ensures ∙ c.place_of.ensures in
    let h : i + 16 ≤ length c.args.vars.now = omega (arith, c.told-vars, e, c.if-slot-lt-SLOTS.true) in
    let z : i + 16 - i ≡ 16 = omega arith in
    rw (c.fill.ensures.after (λ y e. e), z, mid_long 16 i c.args.vars.now h, put_filled 0 16 i c.args.vars.now h, e, lt-ltb _ _ c.if-slot-lt-SLOTS.true)

pub returns-else-slot-lt-SLOTS : goal.returns-else-slot-lt-SLOTS
unfolding cleared
returns-else-slot-lt-SLOTS c = rw (le-ltb _ _ c.if-slot-lt-SLOTS.false)
