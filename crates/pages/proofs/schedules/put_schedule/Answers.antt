-- `pages::schedules::put_schedule` meets its contract: four parts one after the other.
use mathlib.Core.Path.{◌≡◌}
use Rattle.lines.proofs.Puts.{put_then}
use Rattle.lines.specs.Put.{seen, put_all, blank_and}
use Rattle.pages.specs.ListText.{schedule_line}
use Rattle.pages.proofs.schedules.put_schedule.Goals as goal

pub returns-clause-written : goal.returns-clause-written
unfolding schedule_line
returns-clause-written c =
    let e : put_all (blank_and c.byte_at-length.result) (seen c.put_word.new.self) ≡ seen c.put_field.new.self =
    rw (c.put_field.ensures.written, c.from.ensures) in
    rw (
      put_then,
      put_then,
      put_then,
      ← c.byte_at-length.ensures,
      ← c.put_word.ensures.written,
      e,
      ← c.put_codes.ensures.written,
      ← c.put_end.ensures.written,
    )
