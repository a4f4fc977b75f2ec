-- The pages of a listing one behind the other are its whole text, whatever room and page are lent, where the room takes a
-- schedule and the page takes what the room takes. What is asked of the search is said by Next.
use Prim.Native.Nat.{ℕ, zero, suc, ◌+◌, ◌*◌, ◌-◌, ◌/◌, ◌<◌, ◌≤◌}
use mathlib.Core.Bool.{Bool, true, false}
use mathlib.Core.List.{List, [], ◌∷◌, ◌++◌, append_assoc, append-nil}
use mathlib.Core.Path.{◌≡◌, refl, sym, ap, ◌∙◌}
use native.Mathlib.Omega.{arith}
use lib.ListN.{length, take, length-append}
use borrow.Author.Tests.{le-leb}
use Rattle.terms.specs.Base.{pick, Held, held}
use Rattle.model.specs.declared.records.Model.{Model}
use Rattle.state.proofs.Threads.{never}
use Rattle.lines.specs.Put.{written}
use Rattle.lines.proofs.Puts.{all_long}
use Rattle.search.specs.Place.{start_place}
use Rattle.search.specs.Answer.{listed}
use Rattle.search.specs.Search.{listing_on}
use Rattle.search.specs.Shown.{words_put}
use Rattle.search.specs.declared.place.Place.{Place}
use Rattle.search.specs.declared.answer.Kind.{Kind}
use Rattle.search.specs.declared.answer.Kind.TheVariants.{Found, Stop, End, Refused}
use Rattle.search.specs.declared.answer.Listing.{Listing}
use Rattle.pages.specs.ListText.{bad_line, bad_lines}
use Rattle.pages.specs.ListPage.{stand_start, sum_of, goes_on, last_text, page_text, Paged, page_with, page_on}
use Rattle.pages.specs.Listing.{pages_then, pages_from, list_printed, Whole, whole, whole_then, whole_text}
use Rattle.pages.specs.ListPage.{Stand}
use Rattle.pages.proofs.Printed.{Short, page_shows, words_long}
use Rattle.pages.proofs.Fits.{text_whole, lines_long, last_long}

-- what a call of listing from place p with budget b gives: schedules put in the room, no more than it takes, and either the
-- whole listing that was ahead, or a full room and a place from which the rest of it is ahead
pub record Next (m : Model) (n : ℕ) (Good : Place → ℕ → Type 0) (all : Place → ℕ → Whole) (p : Place) (b : ℕ) (room : List ℕ) : Type 0 where
  pub words : List (List ℕ)
  pub kind : Kind
  pub tries : ℕ
  pub sizes : ℕ
  pub place : Place
  pub is : listing_on m n p b room ≡ held (listed kind (length words) tries sizes place) (words_put room 0 words)
  pub few : length words * 25 ≤ length room
  pub short : Short words
  pub spent : tries ≤ b
  pub falls : goes_on kind ≡ true → 0 < tries
  pub sized : sizes ≤ tries
  pub good : goes_on kind ≡ true → Good place (b - tries)
  pub on : goes_on kind ≡ true → all p b ≡ whole_then words tries sizes (all place (b - tries))
  pub here : goes_on kind ≡ false → all p b ≡ whole words kind tries sizes

none_last : (k : Kind) (t z : ℕ) → goes_on k ≡ true → last_text k t z ≡ []
unfolding goes_on last_text
none_last Found t z e = refl
none_last Stop t z e = absurd (never false e refl)
none_last End t z e = absurd (never false e refl)
none_last (Refused n) t z e = absurd (never false e refl)

lines_then : (ws vs : List (List ℕ)) → bad_lines (ws ++ vs) ≡ bad_lines ws ++ bad_lines vs
unfolding bad_lines
lines_then [] vs = refl
lines_then (w ∷ ws) vs = ap {B = List ℕ} (λ l. bad_line w ++ l) (lines_then ws vs) ∙ sym (append_assoc (bad_line w) (bad_lines ws) (bad_lines vs))

sum_is : (a b : ℕ) → a + b ≤ 4294967295 → sum_of a b ≡ a + b
unfolding sum_of
sum_is a b h = rw (le-leb b (4294967295 - a) (omega arith))

-- the text of a listing, w being what is ahead of where it stands
text_from : ℕ → Stand → Whole → List ℕ
text_from budget s w = bad_lines w.words ++ last_text w.kind (budget - s.left + w.tries) (s.sized + w.sizes)

module _ (m : Model) (n budget : ℕ) (Good : Place → ℕ → Type 0) (all : Place → ℕ → Whole)
    (next : (p : Place) (b : ℕ) (room : List ℕ) → Good p b → 25 ≤ length room → Next m n Good all p b room) where
  -- what the proof of one page needs
  record Fine (s : Stand) (room page : List ℕ) : Type 0 where
    good : Good s.place s.left
    within : s.left ≤ budget
    sums : s.sized + s.left ≤ 4294967295
    some : 25 ≤ length room
    enough : length room / 25 * 279 + 30 ≤ length page

  module _ (s : Stand) (room page : List ℕ) (f : Fine s room page) where
    abbrev g : Next m n Good all s.place s.left room
    g = next s.place s.left room f.good f.some

    abbrev r : Held Listing
    r = held (listed g.kind (length g.words) g.tries g.sizes g.place) (words_put room 0 g.words)

    page_is : page_on m n budget s room page ≡ page_with r budget s page
    unfolding page_on
    page_is = ap (λ (x : Held Listing). page_with x budget s page) g.is

    abbrev done : Paged
    done = page_with r budget s page

    small : s.sized + g.sizes ≤ 4294967295
    small = omega (arith, f.sums, g.spent, g.sized)

    told_is : page_text r.out r.table (budget - (s.left - g.tries)) (sum_of s.sized g.sizes)
        ≡ bad_lines g.words ++ last_text g.kind (budget - s.left + g.tries) (s.sized + g.sizes)
    unfolding page_text
    told_is =
        let e : budget - (s.left - g.tries) ≡ budget - s.left + g.tries = omega (arith, f.within, g.spent) in
        rw (page_shows g.words room g.few g.short, sum_is s.sized g.sizes small, e)

    fits : length (page_text r.out r.table (budget - (s.left - g.tries)) (sum_of s.sized g.sizes)) ≤ length page
    fits =
        let a = length-append (bad_lines g.words) (last_text g.kind (budget - s.left + g.tries) (s.sized + g.sizes)) in
        let b = lines_long g.words g.short in
        let c = last_long g.kind (budget - s.left + g.tries) (s.sized + g.sizes) in
        rw told_is (omega (arith, a, b, c, g.few, f.enough))

    -- the page is written whole
    page_text_lem : take done.out.bytes done.page ≡ bad_lines g.words ++ last_text g.kind (budget - s.left + g.tries) (s.sized + g.sizes)
    page_text_lem = text_whole (page_text r.out r.table (budget - (s.left - g.tries)) (sum_of s.sized g.sizes)) page fits ∙ told_is

    page_by : (b : Bool) (rest : List ℕ) → goes_on g.kind ≡ b → (b ≡ true → rest ≡ text_from budget done.out (all g.place (s.left - g.tries)))
        → take done.out.bytes done.page ++ pick b rest [] ≡ text_from budget s (all s.place s.left)
    unfolding text_from
    page_by false rest e i = append-nil (take done.out.bytes done.page) ∙ page_text_lem ∙ sym (ap (text_from budget s) (g.here e))
    page_by true rest e i =
        let w : Whole = all g.place (s.left - g.tries) in
        let none = none_last g.kind (budget - s.left + g.tries) (s.sized + g.sizes) e in
        let lines : take done.out.bytes done.page ≡ bad_lines g.words =
        page_text_lem ∙ ap {B = List ℕ} (λ l. bad_lines g.words ++ l) none ∙ append-nil (bad_lines g.words) in
        let x : budget - (s.left - g.tries) + w.tries ≡ budget - s.left + (w.tries + g.tries) = omega (arith, f.within, g.spent) in
        let y : sum_of s.sized g.sizes + w.sizes ≡ s.sized + (w.sizes + g.sizes) = omega (arith, sum_is s.sized g.sizes small) in
        let last : List ℕ = last_text w.kind (budget - s.left + (w.tries + g.tries)) (s.sized + (w.sizes + g.sizes)) in
        let more : rest ≡ bad_lines w.words ++ last = i refl ∙ rw (x, y) in
        ap {B = List ℕ} (λ l. l ++ rest) lines
        ∙ ap {B = List ℕ} (λ l. bad_lines g.words ++ l) more
        ∙ sym (append_assoc (bad_lines g.words) (bad_lines w.words) last)
        ∙ ap {B = List ℕ} (λ l. l ++ last) (sym (lines_then g.words w.words))
        ∙ sym (ap (text_from budget s) (g.on e))

    on_fine : goes_on g.kind ≡ true → Fine done.out done.room done.page
    on_fine e =
        let a : length (words_put room 0 g.words) ≡ length room = words_long g.words room 0 in
        let b = all_long (page_text r.out r.table (budget - (s.left - g.tries)) (sum_of s.sized g.sizes)) (written 0 page) in
        record {
          good = g.good e;
          within = omega (arith, f.within);
          sums = omega (arith, sum_is s.sized g.sizes small, f.sums, g.spent, g.sized);
          some = rw a f.some;
          enough = rw (a, b) f.enough;
        }

    on_less : goes_on g.kind ≡ true → done.out.left < s.left
    on_less e = omega (arith, g.spent, g.falls e)

  pages_from_lem : (k : ℕ) (s : Stand) (room page : List ℕ) → Fine s room page → s.left < k
      → pages_from k m n budget s room page ≡ text_from budget s (all s.place s.left)
  unfolding pages_from
  pages_from_lem zero s room page f h = absurd (omega arith)
  pages_from_lem (suc k) s room page f h =
      let q : Paged = done s room page f in
      ap (λ (x : Paged). pages_then x (λ y. pages_from k m n budget y.out y.room y.page)) (page_is s room page f)
      ∙ page_by s room page f (goes_on (g s room page f).kind) (pages_from k m n budget q.out q.room q.page) refl
      (λ e. pages_from_lem k q.out q.room q.page (on_fine s room page f e) (omega (arith, on_less s room page f e)))

  -- the pages of a listing from the start
  pub listing_printed : (room page : List ℕ) → Good start_place budget → budget ≤ 4294967295 → 25 ≤ length room → length room / 25 * 279 + 30 ≤ length page
      → list_printed m n budget room page ≡ whole_text (all start_place budget)
  unfolding list_printed stand_start text_from whole_text
  listing_printed room page good h some enough =
      let w : Whole = all start_place budget in
      let f : Fine (stand_start budget) room page = record { good = good; within = omega arith; sums = omega arith; some = some; enough = enough } in
      let x : budget - budget + w.tries ≡ w.tries = omega arith in
      let y : 0 + w.sizes ≡ w.sizes = omega arith in
      pages_from_lem (budget + 1) (stand_start budget) room page f (omega arith) ∙ rw (x, y)
