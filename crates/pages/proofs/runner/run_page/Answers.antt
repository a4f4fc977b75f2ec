-- `pages::runner::run_page` meets its contract: a run, then its lines and the closing line.
use Rattle.lines.proofs.Puts.{put_then}
use Rattle.pages.specs.RunPage.{run_text, run_page_on}
use Rattle.pages.proofs.runner.run_page.Goals as goal

pub returns-clause-written : goal.returns-clause-written
unfolding run_page_on run_text
returns-clause-written c =
    rw (
      ← c.fresh.ensures,
      ← c.run-r.ensures,
      put_then,
      ← c.put_answers.ensures.written,
      ← c.all_accepts-accepts.ensures,
      ← c.judge-broken.ensures,
      ← c.put_done.ensures.written,
    )
