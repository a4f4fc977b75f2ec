-- What the walk of crate `walk` over the model's machine gives, as this crate's answers show it: kinds, places, and schedules in
-- lent room. proofs/Searched.antt and proofs/Listings.antt say that search and listing answer exactly that.
use Rattle.std.specs.Prelude.{ℕ, ◌+◌, ◌-◌, ◌*◌, ◌≤◌, Bool, true, List, [], ◌∷◌, ◌++◌, ◌≡◌, length, take, replicate, ltb}
use Rattle.std.proofs.lemmas.List.Edits.{sets}
use Rattle.terms.specs.Base.{pick, Held, held}
use Rattle.model.specs.declared.records.Model.{Model}
use Rattle.walk.specs.Reply as R
use Rattle.walk.specs.Reply.{Reply}
use Rattle.walk.specs.Walk.{reply}
use Rattle.walk.specs.Place as P
use Rattle.walk.specs.Array.{Spot, view}
use Rattle.walk.specs.List.{Close, full, spent, done, Listed}
use Rattle.audit.specs.Whole as W
use Rattle.tries.specs.Labels.{labels}
use Rattle.search.specs.Place.{place, start_place}
use Rattle.search.specs.Answer.{listed}
use Rattle.search.specs.Search.{search_on}
use Rattle.search.specs.declared.place.Place.{Place}
use Rattle.search.specs.declared.answer.Kind.{Kind}
use Rattle.search.specs.declared.answer.Kind.TheVariants.{Found, Stop, End, Refused}
use Rattle.search.specs.declared.answer.Answer.{Answer}
use Rattle.search.specs.declared.answer.Listing.{Listing}

-- the place as the walk has it, and back
abbrev pub spot_of : Place → Spot
spot_of p = record { codes = p.codes; len = p.length; next = p.next }

abbrev pub place_at : Spot → Place
place_at q = place q.codes q.len q.next

-- a schedule as 24 codes, 0 past it
unfoldable pub padded : List ℕ → List ℕ
padded w = w ++ replicate (24 - length w) 0

-- the place with 0 past its schedule; only the schedule and the next code are read of a place taken in
abbrev pub tidied : Place → Spot
tidied p = record { codes = padded (take p.length p.codes); len = p.length; next = p.next }

-- 'Place schedules must be permitted, unbroken and shorter than the bound, the next code a code or 164, else 40'
abbrev pub fits_on : Model → ℕ → Place → Bool
fits_on m bound p = P.fits (labels m) bound (view (spot_of p))

-- a schedule in lent room, at place i: its length and its 24 codes; where there is no room for it the room stays as it is
unfoldable pub word_put : List ℕ → ℕ → List ℕ → List ℕ
word_put l i w = pick (ltb (length l) (i * 25 + 25)) l (sets l (i * 25) (length w ∷ padded w))

-- schedules from place i on
unfoldable pub words_put : List ℕ → ℕ → List (List ℕ) → List ℕ
words_put l i [] = l
words_put l i (w ∷ ws) = words_put (word_put l i w) (i + 1) ws

-- a listing closed for want of room says found
abbrev pub kind_of : Close → Kind
kind_of full = Found
kind_of spent = Stop
kind_of done = End

-- a listing, and the room with its schedules
abbrev pub listing_shown : List ℕ → Listed Spot → Held Listing
listing_shown room l = held (listed (kind_of l.close) (length l.words) l.tries l.sizes (place_at l.place)) (words_put room 0 l.words)

-- an answer: 'other fields are zero'
abbrev pub answer : Kind → List ℕ → ℕ → ℕ → Spot → Answer
answer k w t z q = record { kind = k; codes = padded w; length = length w; tries = t; sized = z; place = place_at q }

abbrev pub answer_by : R.Kind → ℕ → ℕ → Spot → Answer
answer_by (R.found w) t z q = answer Found w t z q
answer_by R.stop t z q = answer Stop [] t z q
answer_by R.end t z q = answer End [] t z q

abbrev pub answer_shown : Reply Spot → Answer
answer_shown r = answer_by r.kind r.tries r.sizes r.place

-- 'all answer fields are then zero'
abbrev pub refused_answer : ℕ → Answer
refused_answer n = record { kind = Refused n; codes = replicate 24 0; length = 0; tries = 0; sized = 0; place = start_place }

-- a call of the search as the walk's: what it answers, and the place that it gives back. No call from a place that fits is refused
abbrev pub kind_seen : Kind → List ℕ → R.Kind
kind_seen Found w = R.found w
kind_seen Stop w = R.stop
kind_seen End w = R.end
kind_seen (Refused n) w = R.stop

abbrev pub reply_of : Answer → Reply Place
reply_of a = reply (kind_seen a.kind (take a.length a.codes)) a.tries a.sized a.place

abbrev pub call_on : Model → ℕ → ℕ → Place → Reply Place
call_on m bound budget p = reply_of (search_on m bound p budget)

-- how the walk sees a place; which places are good; 'the budget (0 to 4,294,967,295)'
abbrev pub place_seen : Place → P.Place
place_seen p = view (spot_of p)

abbrev pub GoodPlace : Model → ℕ → Place → Type 0
GoodPlace m bound p = (fits_on m bound p ≡ true) × (length p.codes ≡ 24)

abbrev pub GoodBudget : ℕ → Type 0
GoodBudget b = b ≤ 4294967295

-- what the types of a model's arrays say of their lengths, as far as the search needs it
pub record Arrays (m : Model) : Type 0 where
  pub tables : W.Arrays m
  pub path : length m.claim.path ≡ 4
