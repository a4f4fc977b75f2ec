use mathlib.Core.Path.{◌≡◌, ◌∙◌}
use lib.ListN.{length}
use native.Mathlib.Omega.{arith}
use borrow.Author.Rules.{rules}
use Rattle.pages.specs.ListPage.{stand_in}
use Rattle.pages.proofs.Spends.{page_long, pages_fall}
use Rattle.list.proofs.list_all.Goals as goal

pub loop-s-preserved : goal.loop-s-preserved
loop-s-preserved g c =
    let p : length c.list_page-s.new.page.bytes.now ≡ length c.loop-s.page.bytes.now = page_long _ _ _ _ _ _ _ _ _ c.list_page-s.ensures.written in
    let r : length c.list_page-s.new.room ≡ 15000 = search rules in
    (r, p ∙ c.loop-s.invariant.1, search rules, search rules, search rules, omega (arith, r, p, c.loop-s.invariant.1))

pub loop-s-smaller : goal.loop-s-smaller
loop-s-smaller g c =
    let l = c.loop-s in
    pages_fall _ l.invariant.4 _ _ (stand_in l.s l.page.next) _ _ _ _ _ c.list_page-s.ensures.written l.invariant.2 l.invariant.3 (omega (arith, l.invariant.0)) c.loop-s-test.true
