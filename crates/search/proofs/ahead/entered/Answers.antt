-- `search::ahead::entered` meets its contract: passed soon, passed late, or entered.
use Prim.Native.Nat.{◌+◌}
use mathlib.Core.List.{List}
use lib.ListN.{get_or}
use lib.Seq.{set-set}
use borrow.Author.Rules.{rules}
use Rattle.state.specs.declared.control.Control.{Control}
use Rattle.rules.proofs.Parts.{made_parts}
use Rattle.search.specs.Enter.{no_control}
use Rattle.search.specs.Search.{longer}
use Rattle.search.proofs.Laws.{put_at, below_at, with_slots}
use Rattle.search.proofs.ahead.entered.Goals as goal

pub returns-then-passes_soon : goal.returns-then-passes_soon
unfolding longer
returns-then-passes_soon c =
    rw (
      ← c.level_of-i.ensures.is,
      made_parts _ _ _ _,
      ← c.deepest-deep.ensures,
      ← c.slots_made.ensures,
      ← c.quiet_at-quiet.ensures,
      ← c.passes_soon.ensures,
      c.if-passes_soon.true,
      ← c.spent_all.ensures,
    )

pub returns-then-passes_late : goal.returns-then-passes_late
unfolding longer
returns-then-passes_late c =
    let i = c.level_of-i.result in
    let stack : List Control = c.args.stack.now in
    let s : Control = get_or stack i no_control in
    let n : Control = c.rest_made.new.s in
    let made = rw (put_at stack i s (search rules) c.level_of-i.ensures.small) at c.rest_made.ensures in
    let kept = put_at stack i n (search rules) c.level_of-i.ensures.small in
    let after = put_at stack i (with_slots n c.slots_made.new.slots) (search rules) c.level_of-i.ensures.small in
    let late = rw (set-set stack (i + 1) s n, kept, set-set stack (i + 1) n (with_slots n c.slots_made.new.slots), after, made) at c.passes_late.ensures in
    rw (
      set-set stack (i + 1) s n,
      kept,
      set-set,
      made,
      ← c.level_of-i.ensures.is,
      made_parts _ _ _ _,
      ← c.deepest-deep.ensures,
      ← c.slots_made.ensures,
      ← c.quiet_at-quiet.ensures,
      ← c.passes_soon.ensures,
      c.if-passes_soon.false,
      ← late,
      c.if-passes_late.true,
      ← c.spent_all-then-passes_late.ensures,
    )

pub returns : goal.returns
unfolding longer
returns c =
    let i = c.level_of-i.result in
    let stack : List Control = c.args.stack.now in
    let s : Control = get_or stack i no_control in
    let n : Control = c.rest_made.new.s in
    let made = rw (put_at stack i s (search rules) c.level_of-i.ensures.small) at c.rest_made.ensures in
    let kept = put_at stack i n (search rules) c.level_of-i.ensures.small in
    let after = put_at stack i (with_slots n c.slots_made.new.slots) (search rules) c.level_of-i.ensures.small in
    let late = rw (set-set stack (i + 1) s n, kept, set-set stack (i + 1) n (with_slots n c.slots_made.new.slots), after, made) at c.passes_late.ensures in
    let below = below_at stack i (with_slots n c.slots_made.new.slots) in
    let shown = rw (set-set stack (i + 1) s n, kept, set-set stack (i + 1) n (with_slots n c.slots_made.new.slots), below) at c.happened-h.ensures in
    let written = rw c.from.ensures at c.write_record.ensures in
    rw (
      set-set stack (i + 1) s n,
      kept,
      set-set,
      made,
      ← c.level_of-i.ensures.is,
      made_parts _ _ _ _,
      ← c.deepest-deep.ensures,
      ← c.slots_made.ensures,
      ← c.quiet_at-quiet.ensures,
      ← c.passes_soon.ensures,
      c.if-passes_soon.false,
      ← late,
      c.if-passes_late.false,
      c.pushed.ensures,
      written,
      c.record_of.ensures,
      shown,
    )
