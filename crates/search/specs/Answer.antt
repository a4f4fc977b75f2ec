-- What a search answers: found, stop or end, or a refusal; a listing is the answers of a search gathered. A
-- schedule in lent room takes 25 bytes: its length and its 24 codes.
use Rattle.std.specs.Prelude.{ℕ, ◌+◌, ◌*◌, ◌/◌, List, ◌∷◌, length, drop, get_or, ltb}
use Rattle.std.proofs.lemmas.List.Edits.{sets}
use Rattle.terms.specs.Base.{pick, Held}
use Rattle.search.specs.Place.{start_place}
use Rattle.search.specs.declared.place.Place.{Place}
use Rattle.search.specs.declared.answer.Kind.{Kind}
use Rattle.search.specs.declared.answer.Kind.TheVariants.{Refused}
use Rattle.search.specs.declared.answer.Refusal.{Refusal}
use Rattle.search.specs.declared.answer.Refusal.TheVariants.{Unsound, Unbounded, Unfit}
use Rattle.search.specs.declared.answer.Answer.{Answer}
use Rattle.search.specs.declared.answer.Listing.{Listing}

-- a refusal's number
abbrev pub number_of : Refusal → ℕ
number_of Unsound = 11
number_of Unbounded = 41
number_of Unfit = 40

abbrev pub listed : Kind → ℕ → ℕ → ℕ → Place → Listing
listed k found tries sized p = record { kind = k; found = found; tries = tries; sized = sized; place = p }

-- all fields zero
unfoldable pub refused_listing : ℕ → Listing
refused_listing n = listed (Refused n) 0 0 0 start_place

-- how many schedules a lent room takes
unfoldable pub room_for : List ℕ → ℕ
room_for l = length l / 25

-- the room with a schedule put at place i; where there is no room for it, it stays as it is
unfoldable pub schedule_put : List ℕ → ℕ → Place → List ℕ
schedule_put l i p = pick (ltb (length l) (i * 25 + 25)) l (sets l (i * 25) (p.length ∷ p.codes))

-- an answer: the listing of a room for one schedule, which stands in that room
abbrev pub answer_of : Held Listing → Answer
answer_of r = record {
  kind = r.out.kind;
  codes = drop 1 r.table;
  length = get_or r.table 0 0;
  tries = r.out.tries;
  sized = r.out.sized;
  place = r.out.place;
}
