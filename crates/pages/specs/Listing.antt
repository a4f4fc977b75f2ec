-- The whole listing: the pages one behind the other, each written as far as its bytes go. This is what the list program
-- writes for a model that it could read.
use Rattle.std.specs.Prelude.{ℕ, zero, suc, ◌+◌, List, [], ◌++◌, take}
use Rattle.terms.specs.Base.{pick}
use Rattle.model.specs.declared.records.Model.{Model}
use Rattle.search.specs.declared.answer.Kind.{Kind}
use Rattle.pages.specs.ListText.{bad_lines}
use Rattle.pages.specs.ListPage.{stand_start, last_text, Paged, page_on}
use Rattle.pages.specs.ListPage.{Stand}

abbrev pub pages_then : Paged → (Paged → List ℕ) → List ℕ
pages_then q rest = take q.out.bytes q.page ++ pick q.out.going (rest q) []

-- at most n pages from where a listing stands
unfoldable pub pages_from : ℕ → Model → ℕ → ℕ → Stand → List ℕ → List ℕ → List ℕ
pages_from zero m bound budget s room page = []
pages_from (suc n) m bound budget s room page =
    pages_then (page_on m bound budget s room page) (λ q. pages_from n m bound budget q.out q.room q.page)

-- the budget left falls with each page that has another behind it, so there are no more pages than this
unfoldable pub list_printed : Model → ℕ → ℕ → List ℕ → List ℕ → List ℕ
list_printed m bound budget room page = pages_from (budget + 1) m bound budget (stand_start budget) room page

-- a listing as such: its schedules, why it closes, its tries and those refused for size
pub record Whole : Type 0 where
  pub words : List (List ℕ)
  pub kind : Kind
  pub tries : ℕ
  pub sizes : ℕ

abbrev pub whole : List (List ℕ) → Kind → ℕ → ℕ → Whole
whole ws k t z = record { words = ws; kind = k; tries = t; sizes = z }

-- and one behind it
abbrev pub whole_then : List (List ℕ) → ℕ → ℕ → Whole → Whole
whole_then ws t z w = whole (ws ++ w.words) w.kind (w.tries + t) (w.sizes + z)

-- its text: a line for each schedule, and the closing line; "end: total tries, tries refused for size"
unfoldable pub whole_text : Whole → List ℕ
whole_text w = bad_lines w.words ++ last_text w.kind w.tries w.sizes
