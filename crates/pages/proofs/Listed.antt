-- What the list program prints is the listing of the search: for a sound model and a bound that fits, the pages one behind
-- the other are a line for each schedule of the whole listing, in order, and its closing line.
use Prim.Native.Nat.{ℕ, suc, ◌+◌, ◌*◌, ◌-◌, ◌/◌, ◌≤◌}
use mathlib.Core.Bool.{true, false}
use mathlib.Core.List.{List, [], ◌∷◌}
use mathlib.Core.Path.{◌≡◌, refl, ap, subst, ◌∙◌}
use native.Mathlib.Omega.{arith}
use lib.ListN.{length}
use Rattle.model.specs.declared.records.Model.{Model}
use Rattle.state.proofs.Threads.{never}
use Rattle.audit.specs.Models.{sound_model}
use Rattle.walk.specs.Base.{All}
use Rattle.walk.specs.Machine.{Machine}
use Rattle.walk.specs.Place as P
use Rattle.walk.specs.Trail.{Mark, plain, sized, bad, Try, bad_in, sized_in, sized_and}
use Rattle.walk.specs.Array.{Spot, view}
use Rattle.walk.specs.Passed.{passing}
use Rattle.walk.specs.List.{Close, full, spent, done, Listed, Closes, no_room, used_up, no_more, ListPassed, list_in, list_all}
use Rattle.walk.proofs.ListPasses.{list_seen, list_passes}
use Rattle.tries.specs.Labels.{labels}
use Rattle.search.specs.Place.{start_place}
use Rattle.search.specs.Answer.{room_for}
use Rattle.search.specs.Search.{bound_fits}
use Rattle.search.specs.Shown.{place_at, tidied, kind_of, GoodPlace, GoodBudget, Arrays}
use Rattle.search.specs.declared.place.Place.{Place}
use Rattle.tries.proofs.Codes.{labels_coded}
use Rattle.search.proofs.Joined.{bound_parts}
use Rattle.search.proofs.Searched.{tidied_ok}
use Rattle.search.proofs.Promises.{start_good}
use Rattle.search.proofs.Listings.{place_is, listing_shows, next_good, words_short, full_spends, whole_here, whole_on}
use Rattle.pages.specs.ListPage.{goes_on}
use Rattle.pages.specs.Listing.{list_printed, Whole, whole, whole_then, whole_text}
use Rattle.pages.proofs.Printed.{Short}
use Rattle.pages.proofs.Spends.{found_goes}
use Rattle.pages.proofs.Pages.{Next, listing_printed}

-- a listing as the program prints it
abbrev pub shown : Listed Spot → Whole
shown l = whole l.words (kind_of l.close) l.tries l.sizes

full_goes : goes_on (kind_of full) ≡ true
unfolding goes_on
full_goes = refl

close_full : (c : Close) → goes_on (kind_of c) ≡ true → c ≡ full
unfolding goes_on
close_full full e = refl
close_full spent e = absurd (never false e refl)
close_full done e = absurd (never false e refl)

close_open : (c : Close) → goes_on (kind_of c) ≡ false → c ≡ full → ⊥
close_open c e f = never (goes_on (kind_of c)) (ap (λ (x : Close). goes_on (kind_of x)) f ∙ full_goes) e

short_all : (n : ℕ) (ws : List (List ℕ)) → n ≤ 24 → All (λ w. length w ≤ n) ws → Short ws
unfolding Short
short_all n [] h a = tt
short_all n (w ∷ ws) h a = (omega (arith, a.0), short_all n ws h a.1)

sized_by : (k : Mark) (z l : ℕ) → z ≤ l → sized_and k z ≤ suc l
sized_by plain z l h = omega arith
sized_by sized z l h = omega arith
sized_by bad z l h = omega arith

sized_few : (ts : List Try) → sized_in ts ≤ length ts
sized_few [] = omega arith
sized_few (t ∷ ts) = sized_by t.mark (sized_in ts) (length ts) (sized_few ts)

closes_few : (M : Machine) (n b k : ℕ) (past : List Try) (p : P.Place) (c : Close) → Closes M n b k past p c → length (bad_in past) ≤ k
closes_few M n b k past p c (no_room h) = omega arith
closes_few M n b k past p c (used_up h e f) = omega arith
closes_few M n b k past p c (no_more h e f) = omega arith

room_takes : (room : List ℕ) (i : ℕ) → i ≤ room_for room → i * 25 ≤ length room
unfolding room_for
room_takes room i h = omega arith

module _ (m : Model) (arrays : Arrays m) (sound : sound_model m ≡ true) (n : ℕ) (bound : bound_fits n ≡ true) where
  abbrev Good : Place → ℕ → Type 0
  Good p b = GoodPlace m n p × GoodBudget b

  abbrev all : Place → ℕ → Whole
  all p b = shown (list_all (labels m) n b (tidied p))

  module _ (p : Place) (b : ℕ) (room : List ℕ) (g : Good p b) (some : 25 ≤ length room) where
    abbrev l : Listed Spot
    l = list_in (labels m) n (room_for room) b (tidied p)

    passed : ListPassed (labels m) n b (room_for room) (passing (labels m) n (view (tidied p))) (list_seen view l)
    passed = list_passes (labels m) (labels_coded m) n 24 (bound_parts n bound).1 (room_for room) b (tidied p) (tidied_ok m arrays sound n bound p g.0)

    few : length l.words ≤ room_for room
    few =
        let h : length (bad_in passed.past) ≤ room_for room =
        closes_few (labels m) n b (room_for room) passed.past (view l.place) l.close passed.closes in
        rw passed.words h

    on : goes_on (kind_of l.close) ≡ true → all p b ≡ whole_then l.words l.tries l.sizes (all (place_at l.place) (b - l.tries))
    on e =
        ap shown (whole_on m arrays sound n bound p b room g.0 g.1 (close_full l.close e))
        ∙ ap (λ (q : Place). whole_then l.words l.tries l.sizes (all q (b - l.tries)))
        (place_is m arrays sound n bound p b room g.0 g.1)

    next : Next m n Good all p b room
    next = record {
      words = l.words;
      kind = kind_of l.close;
      tries = l.tries;
      sizes = l.sizes;
      place = place_at l.place;
      is = listing_shows m arrays sound n bound p b room g.0 g.1;
      few = room_takes room (length l.words) few;
      short = short_all n l.words (bound_parts n bound).1 (words_short m arrays sound n bound p b room g.0 g.1);
      spent = omega (arith, passed.tries, passed.within);
      falls = λ e. (full_spends m arrays sound n bound p b room g.0 g.1 some (found_goes (kind_of l.close) e)).0;
      sized = omega (arith, passed.sizes, passed.tries, sized_few passed.past);
      good = λ e.
          let h = subst (GoodPlace m n) (place_is m arrays sound n bound p b room g.0 g.1) (next_good m arrays sound n bound p b room g.0 g.1) in
          (h, omega (arith, g.1));
      on = on;
      here = λ e. ap shown (whole_here m arrays sound n bound p b room g.0 g.1 (close_open l.close e));
    }

  -- the whole listing within the budget: "bad" for each of its schedules, then "end", or "stop" where the budget is out
  pub list_prints : (budget : ℕ) (room page : List ℕ) → GoodBudget budget → 25 ≤ length room → length room / 25 * 279 + 30 ≤ length page
      → list_printed m n budget room page ≡ whole_text (shown (list_all (labels m) n budget (tidied start_place)))
  list_prints budget room page can some enough =
      listing_printed m n budget Good all (λ p b r g h. next p b r g h) room page (start_good m arrays sound n bound, can) can some enough
