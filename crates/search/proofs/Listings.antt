-- The listing: its refusals, what it lists, and how listings go on from one another. A listing that is not full, or one that is and
-- then those from its place on, lists what the listing with room for all does; from the start that is all bad schedules.
use Prim.Native.Nat.{ℕ, ◌+◌, ◌-◌, ◌<◌, ◌≤◌}
use mathlib.Core.Bool.{Bool, true, false}
use mathlib.Core.List.{List, [], ◌∷◌}
use mathlib.Core.Path.{◌≡◌, refl, sym, ap, ◌∙◌, subst}
use native.Mathlib.Omega.{arith}
use lib.ListN.{length, get_or, take, replicate, length-replicate, get_or-replicate, get_or-eq_default}
use lib.Seq.{length-take-le, get_or-append-add}
use lib.Dec.{ltb}
use borrow.Author.Tests.{ltb-true, ltb-false}
use Rattle.terms.specs.Base.{Held, held}
use Rattle.model.specs.declared.records.Model.{Model}
use Rattle.audit.specs.Models.{sound_model}
use Rattle.audit.proofs.Check.{test_model}
use Rattle.walk.specs.Base.{All}
use Rattle.walk.specs.Machine.{Machine}
use Rattle.walk.specs.Trail.{Try, bad_in, trails}
use Rattle.walk.specs.Place as P
use Rattle.walk.specs.Array.{Spot, view}
use Rattle.walk.specs.List.{Close, full, spent, done, Listed, with_words, with_counts, list_in, list_all}
use Rattle.walk.specs.List.{Closes, no_room, used_up, no_more}
use Rattle.walk.proofs.Array.{Ok}
use Rattle.walk.proofs.Gather.{Counted}
use Rattle.walk.proofs.Loop.{Clean}
use Rattle.walk.proofs.ListPasses.{list_passes, list_ok, list_clean, list_short, never_full, all_same, all_on, lists_all, lists_enough, lists_part}
use Rattle.tries.specs.Labels.{labels}
use Rattle.tries.proofs.Codes.{labels_coded}
use Rattle.tries.proofs.Judging.{judging}
use Rattle.search.specs.Place.{start_place}
use Rattle.search.specs.Answer.{refused_listing, room_for}
use Rattle.search.specs.Search.{bound_fits, listing_on}
use Rattle.search.specs.Shown.{place_at, padded, tidied, fits_on, kind_of, listing_shown, place_seen, GoodPlace, GoodBudget, Arrays}
use Rattle.search.specs.declared.place.Place.{Place}
use Rattle.search.specs.declared.answer.Kind.TheVariants.{Found}
use Rattle.search.specs.declared.answer.Listing.{Listing}
use Rattle.search.proofs.JoinRoom.{clean_padded}
use Rattle.search.proofs.JoinQuiet.{quiet_along}
use Rattle.search.proofs.Joined.{bound_parts, listing_refused, listing_is}
use Rattle.search.proofs.Searched.{same_place, short, tidied_ok}
use Rattle.search.proofs.Promises.{start_first, start_good}

-- 'Order: 11, 41, 40'; the room stays as lent
pub listing_unsound : (m : Model) (n : ℕ) (p : Place) (b : ℕ) (room : List ℕ) → sound_model m ≡ false → listing_on m n p b room ≡ held (refused_listing 11) room
unfolding listing_on
listing_unsound m n p b room e = rw e

pub listing_unbounded : (m : Model) (n : ℕ) (p : Place) (b : ℕ) (room : List ℕ) → sound_model m ≡ true → bound_fits n ≡ false →
    listing_on m n p b room ≡ held (refused_listing 41) room
unfolding listing_on
listing_unbounded m n p b room e f = rw (e, f)

-- what is 0 past a schedule
padded_zero : (w : List ℕ) (i : ℕ) → length w ≤ i → get_or (padded w) i 0 ≡ 0
unfolding padded
padded_zero w i h =
    let e : i ≡ length w + (i - length w) = omega arith in
    rw e (get_or-append-add w (replicate (24 - length w) 0) (i - length w) 0 ∙ go (ltb (i - length w) (24 - length w)) refl)
  where
    go : (b : Bool) → ltb (i - length w) (24 - length w) ≡ b → get_or {A = ℕ} (replicate (24 - length w) 0) (i - length w) 0 ≡ 0
    go true e = get_or-replicate {A = ℕ} (24 - length w) (i - length w) 0 0 (ltb-true _ _ e)
    go false e =
        let f : length {A = ℕ} (replicate (24 - length w) 0) ≤ i - length w =
        omega (arith, length-replicate {A = ℕ} (24 - length w) 0, ltb-false (i - length w) (24 - length w) e) in
        get_or-eq_default {A = ℕ} (replicate (24 - length w) 0) 0 f

-- a listing that is full, with room for one, has passed a try
some_past : (l : List Try) → 0 < length (bad_in l) → 0 < length l
some_past [] h = absurd (omega arith)
some_past (t ∷ l) h = omega arith

full_some : (M : Machine) (n b k : ℕ) (past : List Try) (p : P.Place) {c : Close} → Closes M n b k past p c → kind_of c ≡ Found → 0 < k → 0 < length past
full_some M n b k past p (no_room e) f h = some_past past (omega (arith, e))
full_some M n b k past p (used_up e i j) f h = absurd (let z : ◌≡◌ {A = ℕ} 0 1 = cc in omega arith)
full_some M n b k past p (no_more e i j) f h = absurd (let z : ◌≡◌ {A = ℕ} 0 1 = cc in omega arith)

module _ (m : Model) (arrays : Arrays m) (sound : sound_model m ≡ true) (n : ℕ) (bound : bound_fits n ≡ true) where
  abbrev M : Machine
  M = labels m

  pub listing_unfit : (p : Place) (b : ℕ) (room : List ℕ) → length p.codes ≡ 24 → GoodBudget b → fits_on m n p ≡ false →
      listing_on m n p b room ≡ held (refused_listing 40) room
  listing_unfit p b room long limit e =
      listing_refused m arrays.tables.lines sound (judging m (test_model {m = m} arrays.tables.lines sound) arrays.path) (quiet_along m arrays sound)
      n bound p long b limit room e

  module _ (p : Place) (b : ℕ) (room : List ℕ) (good : GoodPlace m n p) (can : GoodBudget b) where
    abbrev l : Listed Spot
    l = list_in (labels m) n (room_for room) b (tidied p)

    -- S1 for a listing
    pub listing_shows : listing_on m n p b room ≡ listing_shown room (list_in (labels m) n (room_for room) b (tidied p))
    listing_shows = listing_is m arrays.tables.lines sound (judging m (test_model {m = m} arrays.tables.lines sound) arrays.path) (quiet_along m arrays sound)
        n bound p good.1 b can room good.0

    ok : Ok M n 24 (tidied p)
    ok = tidied_ok m arrays sound n bound p good

    take_long : length (take p.length p.codes) ≡ p.length
    take_long = length-take-le p.length p.codes (omega (arith, short m arrays sound n bound p good.0, (bound_parts n bound).1, good.1))

    clean : Clean (tidied p)
    clean i h = padded_zero (take p.length p.codes) i (omega (arith, take_long))

    pub place_is : (listing_on m n p b room).out.place ≡ place_at l.place
    place_is = ap (λ (r : Held Listing). r.out.place) listing_shows

    place_ok : Ok M n 24 l.place
    place_ok = list_ok M (labels_coded m) n 24 (bound_parts n bound).1 (room_for room) b (tidied p) ok

    -- the place given back is a good one, and the listing's
    pub next_good : GoodPlace m n (listing_on m n p b room).out.place
    next_good = subst (GoodPlace m n) (sym place_is) place_ok

    next_short : l.place.len < n
    next_short = short m arrays sound n bound (place_at l.place) place_ok.0

    pub next_tidied : tidied (listing_on m n p b room).out.place ≡ (list_in (labels m) n (room_for room) b (tidied p)).place
    next_tidied =
        let q : Spot = l.place in
        let c : Clean q = list_clean M (labels_coded m) n 24 (bound_parts n bound).1 (room_for room) b (tidied p) clean in
        ap tidied place_is
        ∙ ap (λ (cs : List ℕ). record { codes = cs; len = q.len; next = q.next })
        (sym (clean_padded q.codes q.len place_ok.1 (omega (arith, next_short, (bound_parts n bound).1)) c))

    -- its schedules are no longer than the bound
    pub words_short : All (λ w. length w ≤ n) (list_in (labels m) n (room_for room) b (tidied p)).words
    words_short = list_short M (labels_coded m) n 24 (bound_parts n bound).1 (room_for room) b (tidied p) ok

    -- found is answered only behind a try
    pub full_spends : 25 ≤ length room → kind_of l.close ≡ Found → (0 < l.tries) × (l.tries ≤ b)
    unfolding room_for
    full_spends h e =
        let L = list_passes M (labels_coded m) n 24 (bound_parts n bound).1 (room_for room) b (tidied p) ok in
        let s = full_some M n b (room_for room) L.past (view l.place) L.closes e (omega arith) in
        (omega (arith, L.tries, s), omega (arith, L.tries, L.within))

    -- the whole listing: this one where it is not full, else this one and then the whole from its place on
    pub whole_here : (l.close ≡ full → ⊥) → list_all (labels m) n b (tidied p) ≡ l
    whole_here f = all_same M (labels_coded m) n 24 (bound_parts n bound).1 (room_for room) b (tidied p) ok f

    pub whole_on : l.close ≡ full →
        list_all (labels m) n b (tidied p) ≡
        with_words l.words (with_counts l.tries l.sizes (list_all (labels m) n (b - l.tries) (tidied (listing_on m n p b room).out.place)))
    whole_on e =
        all_on M (labels_coded m) n 24 (bound_parts n bound).1 (room_for room) b (tidied p) ok e
        ∙ ap (λ (q : Spot). with_words l.words (with_counts l.tries l.sizes (list_all M n (b - l.tries) q))) (sym next_tidied)

  -- from the start: all bad schedules where it is done, else those of as many tries as the budget, the first ones
  start_ok : Ok M n 24 (tidied start_place)
  start_ok = tidied_ok m arrays sound n bound start_place (start_good m arrays sound n bound)

  start_seen : view (tidied start_place) ≡ place_seen start_place
  start_seen = same_place m arrays sound n bound start_place (start_good m arrays sound n bound).1
      (short m arrays sound n bound start_place (start_good m arrays sound n bound).0)

  pub start_all : (b : ℕ) → (list_all (labels m) n b (tidied start_place)).close ≡ done →
      Counted (trails (labels m) n (labels m).fresh) (list_all (labels m) n b (tidied start_place)).words (list_all (labels m) n b (tidied start_place)).tries
      (list_all (labels m) n b (tidied start_place)).sizes
  start_all b e =
      lists_all M (labels_coded m) n 24 (bound_parts n bound).1 (bound_parts n bound).0 (b + 1) b (tidied start_place) start_ok
      (start_seen ∙ start_first m arrays sound n bound) e

  pub start_part : (b : ℕ) → (list_all (labels m) n b (tidied start_place)).close ≡ spent →
      Counted (take b (trails (labels m) n (labels m).fresh)) (list_all (labels m) n b (tidied start_place)).words
      (list_all (labels m) n b (tidied start_place)).tries
      (list_all (labels m) n b (tidied start_place)).sizes
  start_part b e =
      lists_part M (labels_coded m) n 24 (bound_parts n bound).1 (bound_parts n bound).0 (b + 1) b (tidied start_place) start_ok
      (start_seen ∙ start_first m arrays sound n bound) e

  -- with a budget for all tries it is done
  pub start_done : (b : ℕ) → length (trails (labels m) n (labels m).fresh) ≤ b → (list_all (labels m) n b (tidied start_place)).close ≡ done
  start_done b h = go (list_all M n b (tidied start_place)).close refl
    where
      go : (c : Close) → (list_all M n b (tidied start_place)).close ≡ c → c ≡ done
      go full e = absurd (never_full M (labels_coded m) n 24 (bound_parts n bound).1 (b + 1) b (tidied start_place) start_ok (omega arith) e)
      go spent e =
          absurd
          (lists_enough M (labels_coded m) n 24 (bound_parts n bound).1 (bound_parts n bound).0 (b + 1) b (tidied start_place) start_ok
          (start_seen ∙ start_first m arrays sound n bound) h e)
      go done e = refl

-- any listing whose room takes a schedule: where it answers found, less of the budget is left
module _ (m : Model) (arrays : Arrays m) (n : ℕ) (p : Place) (long : length p.codes ≡ 24) (b : ℕ) (can : GoodBudget b) (room : List ℕ)
    (some : 25 ≤ length room) where
  abbrev Spends : Held Listing → Type 0
  Spends r = r.out.kind ≡ Found → b - r.out.tries < b

  refused_spends : (k : ℕ) → Spends (held (refused_listing k) room)
  unfolding refused_listing
  refused_spends k f = absurd (let z : ◌≡◌ {A = ℕ} 0 1 = cc in omega arith)

  fit_spends : sound_model m ≡ true → bound_fits n ≡ true → (c : Bool) → fits_on m n p ≡ c → Spends (listing_on m n p b room)
  fit_spends sound bound true e =
      subst Spends (sym (listing_shows m arrays sound n bound p b room (e, long) can))
      (λ f. let s = full_spends m arrays sound n bound p b room (e, long) can some f in omega (arith, s.0, s.1))
  fit_spends sound bound false e = subst Spends (sym (listing_unfit m arrays sound n bound p b room long can e)) (refused_spends 40)

  bound_spends : sound_model m ≡ true → (c : Bool) → bound_fits n ≡ c → Spends (listing_on m n p b room)
  bound_spends sound true e = fit_spends sound e (fits_on m n p) refl
  bound_spends sound false e = subst Spends (sym (listing_unbounded m n p b room sound e)) (refused_spends 41)

  sound_spends : (c : Bool) → sound_model m ≡ c → Spends (listing_on m n p b room)
  sound_spends true e = bound_spends e (bound_fits n) refl
  sound_spends false e = subst Spends (sym (listing_unsound m n p b room e)) (refused_spends 11)

  pub listing_spends : (listing_on m n p b room).out.kind ≡ Found → b - (listing_on m n p b room).out.tries < b
  listing_spends = sound_spends (sound_model m) refl
