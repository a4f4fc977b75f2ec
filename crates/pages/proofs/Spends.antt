-- A page that has another behind it has spent of the budget: found is answered only behind a try.
use Prim.Native.Nat.{ℕ, ◌+◌, ◌<◌, ◌≤◌}
use mathlib.Core.Bool.{Bool, true, false}
use mathlib.Core.List.{List}
use mathlib.Core.Path.{◌≡◌, refl, sym, ap, subst, ◌∙◌}
use native.Mathlib.Omega.{arith}
use lib.ListN.{length}
use Rattle.terms.specs.Base.{pick}
use Rattle.model.specs.declared.records.Model.{Model}
use Rattle.state.proofs.Threads.{never}
use Rattle.lines.specs.Put.{written}
use Rattle.lines.proofs.Puts.{all_long}
use Rattle.search.specs.Search.{listing_on}
use Rattle.search.specs.Shown.{GoodBudget, Arrays}
use Rattle.search.specs.declared.answer.Kind.{Kind}
use Rattle.search.specs.declared.answer.Kind.TheVariants.{Found, Stop, End, Refused}
use Rattle.search.proofs.Listings.{listing_spends}
use Rattle.pages.specs.ListPage.{goes_on, Paged, paged, page_on}
use Rattle.pages.specs.ListPage.{Stand}

pub found_goes : (k : Kind) → goes_on k ≡ true → k ≡ Found
unfolding goes_on
found_goes Found e = refl
found_goes Stop e = absurd (never false e refl)
found_goes End e = absurd (never false e refl)
found_goes (Refused n) e = absurd (never false e refl)

-- the budget left falls with each page that has another behind it, where the room takes a schedule
pub page_falls : (m : Model) → Arrays m → (bound budget : ℕ) (s : Stand) (room page : List ℕ) → length s.place.codes ≡ 24 → GoodBudget s.left
    → 25 ≤ length room → (page_on m bound budget s room page).out.going ≡ true → (page_on m bound budget s room page).out.left < s.left
unfolding page_on
page_falls m arrays bound budget s room page long can h g =
    listing_spends m arrays bound s.place long s.left can room h (found_goes (listing_on m bound s.place s.left room).out.kind g)

-- a page keeps its length
pub page_long : (m : Model) (bound budget : ℕ) (s r : Stand) (room page room' page' : List ℕ)
    → paged r room' page' ≡ page_on m bound budget s room page → length page' ≡ length page
unfolding page_on
page_long m bound budget s r room page room' page' e = ap (λ (x : Paged). length x.page) e ∙ all_long _ (written 0 page)

-- how many pages there can still be
abbrev pub pages_left : Stand → ℕ
pages_left s = pick s.going (s.left + 1) 0

left_by : (b : Bool) (n i : ℕ) → (b ≡ true → i < n) → pick b (i + 1) 0 < n + 1
left_by true n i h = omega (arith, h refl)
left_by false n i h = omega arith

going_by : (b : Bool) (n : ℕ) → b ≡ true → n + 1 ≤ pick b (n + 1) 0
going_by true n e = omega arith
going_by false n e = absurd (never false e refl)

-- they grow fewer with each page
pub pages_fall : (m : Model) → Arrays m → (bound budget : ℕ) (s r : Stand) (room page room' page' : List ℕ)
    → paged r room' page' ≡ page_on m bound budget s room page → length s.place.codes ≡ 24 → GoodBudget s.left → 25 ≤ length room → s.going ≡ true
    → pages_left r < pages_left s
pages_fall m arrays bound budget s r room page room' page' e long can h g =
    let q : Stand = (page_on m bound budget s room page).out in
    let f : r ≡ q = ap (λ (x : Paged). x.out) e in
    let b : pages_left q < s.left + 1 = left_by q.going s.left q.left (page_falls m arrays bound budget s room page long can h) in
    let c : pages_left q < pages_left s = omega (arith, b, going_by s.going s.left g) in
    subst (λ (x : Stand). pages_left x < pages_left s) (sym f) c
