-- `pages::lister::put_last` meets its contract: by the kind.
use Rattle.lines.specs.Put.{put_all}
use Rattle.pages.specs.ListPage.{last_text}
use Rattle.pages.proofs.lister.put_last.Goals as goal

pub returns-in-Found-clause-written : goal.returns-in-Found-clause-written
unfolding last_text put_all
returns-in-Found-clause-written c = rw c.in-Found.is

pub returns-in-Stop-clause-written : goal.returns-in-Stop-clause-written
unfolding last_text
returns-in-Stop-clause-written c = rw (c.in-Stop.is, ← c.put_closing.ensures.written)

pub returns-in-End-clause-written : goal.returns-in-End-clause-written
unfolding last_text
returns-in-End-clause-written c = rw (c.in-End.is, ← c.put_closing-in-End.ensures.written)

pub returns-in-Refused-clause-written : goal.returns-in-Refused-clause-written
unfolding last_text
returns-in-Refused-clause-written c = rw (c.in-Refused.is, ← c.put_refused.ensures.written)
