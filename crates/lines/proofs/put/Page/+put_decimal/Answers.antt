-- `lines::put::Page::put_decimal` meets its contract: one digit is `decimal_small`, more are `decimal_step`.
use borrow.Author.Rules.{rules}
use Rattle.lines.proofs.Puts.{put_one, put_then, decimal_small, decimal_step}
use Rattle.lines.proofs.put.Page.+put_decimal.Goals as goal

pub returns-then-n-lt10-clause-written : goal.returns-then-n-lt10-clause-written
returns-then-n-lt10-clause-written t c =
    rw (
      decimal_small _ c.if-n-lt10.true,
      put_one,
      ← c.digit.ensures,
      ← c.put_byte.ensures.written,
    )

pub returns-else-n-lt10-clause-written : goal.returns-else-n-lt10-clause-written
returns-else-n-lt10-clause-written t c =
    rw (
      decimal_step _ c.if-n-lt10.false (search rules),
      put_then,
      ← c.put_decimal.ensures.written,
      put_one,
      ← c.digit-else-n-lt10.ensures,
      ← c.put_byte-else-n-lt10.ensures.written,
    )
