-- The two limits of the table: 8, "a term would be deeper than 16", and 9, "more new distinct terms than free entries".
use Rattle.std.specs.Prelude.{ℕ, max, Bool, true, false, List, length, leb}
use Rattle.terms.specs.Base.{pick}
use Rattle.terms.specs.Tree.{Tree, deepness, enter}
use Rattle.law.specs.Out.{Out, ok, refuse}

-- Terms of depth n at most are entered, and ks is then known: "depth is at most 16", "The table holds at most 512 terms".
-- Each term is entered once, so ks passes 512 exactly when more terms are new than entries were free. Rules without limits
-- refuse nothing here.
unfoldable pub fits : Bool → ℕ → List Tree → Out (List Tree)
fits true n ks = pick (leb n 16) (pick (leb (length ks) 512) (ok ks) (refuse 9)) (refuse 8)
fits false n ks = ok ks

-- "New terms enter in this order: x, y, the result": both operands are asked together, first their depth, then the room
abbrev pub fits_both : Bool → List Tree → Tree → Tree → Out (List Tree)
fits_both lim ks x y = fits lim (max (deepness x) (deepness y)) (enter (enter ks x) y)

abbrev pub fits_one : Bool → List Tree → Tree → Out (List Tree)
fits_one lim ks r = fits lim (deepness r) (enter ks r)
