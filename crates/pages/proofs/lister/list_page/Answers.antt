-- `pages::lister::list_page` meets its contract: a listing, then its lines and what stands after them.
use mathlib.Core.Path.{◌≡◌, ◌∙◌}
use borrow.Author.Rules.{rules}
use Rattle.lines.proofs.Puts.{put_then}
use Rattle.pages.specs.ListPage.{sum_of, page_text, page_on}
use Rattle.pages.proofs.Texts.{sum_capped}
use Rattle.pages.proofs.lister.list_page.Goals as goal

pub returns-clause-written : goal.returns-clause-written
unfolding page_on page_text
returns-clause-written c =
    let q : c.saturating_add-sized.result ≡ sum_of c.args.s.sized c.listing-l.result.sized =
    c.saturating_add-sized.ensures ∙ sum_capped c.args.s.sized c.listing-l.result.sized (search rules) in
    rw (
      ← c.listing-l.ensures,
      ← c.saturating_sub-left.ensures,
      ← q,
      ← c.saturating_sub.ensures,
      put_then,
      ← c.put_schedules.ensures.written,
      ← c.put_last.ensures.written,
      ← c.goes_on.ensures,
    )
