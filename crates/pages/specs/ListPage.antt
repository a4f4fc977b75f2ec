-- A listing, page by page. A page has a line for each bad schedule that the room took; the last one ends with the closing
-- line. "The budget covers the whole listing; once it is out, `stop` replaces `end`."
use Rattle.std.specs.Prelude.{ℕ, ◌+◌, ◌-◌, Bool, true, false, List, [], ◌++◌, leb}
use Rattle.terms.specs.Base.{pick, Held}
use Rattle.model.specs.declared.records.Model.{Model}
use Rattle.search.specs.Place.{start_place}
use Rattle.search.specs.Search.{listing_on}
use Rattle.search.specs.declared.place.Place.{Place}
use Rattle.search.specs.declared.answer.Kind.{Kind}
use Rattle.search.specs.declared.answer.Kind.TheVariants.{Found, Stop, End, Refused}
use Rattle.search.specs.declared.answer.Listing.{Listing}
use Rattle.lines.specs.Put.{Written, written, put_all, refused_line}
use Rattle.lines.specs.declared.put.Word.TheVariants as W
use Rattle.pages.specs.ListText.{schedules_text, closing_line}
use Rattle.pages.specs.declared.lister.Stand as L

-- where a listing stands: the place, the budget left, the tries refused for size, whether there is another page, and how
-- many bytes this one has
pub record Stand : Type 0 where
  pub place : Place
  pub left : ℕ
  pub sized : ℕ
  pub going : Bool
  pub bytes : ℕ

abbrev pub stand : Place → ℕ → ℕ → Bool → ℕ → Stand
stand p left sized going bytes = record { place = p; left = left; sized = sized; going = going; bytes = bytes }

-- the same, of a page with so many bytes
abbrev pub stand_in : L.Stand → ℕ → Stand
stand_in s bytes = stand s.place s.left s.sized s.going bytes

-- before the first page
unfoldable pub stand_start : ℕ → Stand
stand_start budget = stand start_place budget 0 true 0

-- tries of one budget, added up as far as the number fits its type
unfoldable pub sum_of : ℕ → ℕ → ℕ
sum_of m n = pick (leb n (4294967295 - m)) (m + n) 4294967295

-- found says that the room is full: there is another page
unfoldable pub goes_on : Kind → Bool
goes_on Found = true
goes_on Stop = false
goes_on End = false
goes_on (Refused n) = false

-- what stands after the schedules of a page
unfoldable pub last_text : Kind → ℕ → ℕ → List ℕ
last_text Found tries sized = []
last_text Stop tries sized = closing_line W.Stop tries sized
last_text End tries sized = closing_line W.End tries sized
last_text (Refused n) tries sized = refused_line n 0

-- the whole text of a page for a listing whose schedules stand in the room
unfoldable pub page_text : Listing → List ℕ → ℕ → ℕ → List ℕ
page_text l room tries sized = schedules_text l.found room 0 ++ last_text l.kind tries sized

-- where the listing stands, and the room and the page as they are left
pub record Paged : Type 0 where
  pub out : Stand
  pub room : List ℕ
  pub page : List ℕ

abbrev pub paged : Stand → List ℕ → List ℕ → Paged
paged s room page = record { out = s; room = room; page = page }

abbrev pub paged_at : Written → Listing → ℕ → ℕ → List ℕ → Paged
paged_at w l left sized room = paged (stand l.place left sized (goes_on l.kind) w.next) room w.buf

-- the budget left and the tries refused for size after a listing, and its page; the tries are those of the whole listing
abbrev pub page_sums : ℕ → ℕ → ℕ → Held Listing → List ℕ → Paged
page_sums budget left sized r page =
    paged_at (put_all (page_text r.out r.table (budget - left) sized) (written 0 page)) r.out left sized r.table

abbrev pub page_with : Held Listing → ℕ → Stand → List ℕ → Paged
page_with r budget s page = page_sums budget (s.left - r.out.tries) (sum_of s.sized r.out.sized) r page

-- the next page
unfoldable pub page_on : Model → ℕ → ℕ → Stand → List ℕ → List ℕ → Paged
page_on m bound budget s room page = page_with (listing_on m bound s.place s.left room) budget s page
