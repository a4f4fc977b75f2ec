-- What the program's listing and search answer is what the walk over the model's machine gives: kind, schedules, tries, tries
-- refused for size, place after. A place is refused by 40 exactly when it does not fit.
use Prim.Native.Nat.{ℕ, ◌+◌, ◌-◌, ◌%◌, ◌<◌, ◌≤◌}
use mathlib.Core.Bool.{Bool, true, false, not}
use mathlib.Core.List.{List}
use mathlib.Core.Path.{◌≡◌, refl, sym, ap, ap₂, ◌∙◌, subst}
use native.Mathlib.Omega.{arith}
use lib.ListN.{length, replicate}
use lib.Dec.{eqb, ltb, leb}
use borrow.Author.Tests.{eqb-false, ltb-true, ltb-false, leb-true, leb-false, le-leb, lt-leb}
use Rattle.terms.specs.Base.{pick, held}
use Rattle.model.specs.declared.records.Model.{Model}
use Rattle.state.specs.Code.{is_code}
use Rattle.state.specs.Control.{fresh_control}
use Rattle.state.specs.declared.control.Control.{Control}
use Rattle.audit.specs.Models.{sound_model}
use Rattle.audit.specs.Sound.{SoundModel}
use Rattle.audit.proofs.Check.{test_model}
use Rattle.walk.specs.Base.{also}
use Rattle.walk.specs.Base as B
use Rattle.walk.specs.Machine.{Machine}
use Rattle.walk.specs.Place.{from, unbroken, fits}
use Rattle.walk.specs.Array.{Spot, stack_of, settled_in}
use Rattle.walk.specs.List.{list_walk, list_in}
use Rattle.walk.proofs.Fit.{both_true}
use Rattle.walk.proofs.Array.{length_stack}
use Rattle.walk.proofs.List.{Settled, settle_twice}
use Rattle.machine.specs.Recorded.{Left}
use Rattle.tries.specs.Labels.{real_codes, labels}
use Rattle.tries.proofs.Codes.{is_next, among_code, labels_coded}
use Rattle.tries.proofs.Along.{Sane}
use Rattle.tries.proofs.Judging.{Judging}
use Rattle.search.specs.Place.{settled}
use Rattle.search.specs.Answer.{listed, refused_listing, room_for}
use Rattle.search.specs.Enter.{in_bounds, control_at, climb, enter_on}
use Rattle.search.specs.Turn.{answered, walk}
use Rattle.search.specs.Search.{Scene, scene, walk_in, walk_on, first_walk, deeps_of, walk_from, task, bound_fits, listing_entered, listing_on}
use Rattle.search.specs.Shown.{spot_of, place_at, tidied, fits_on, listing_shown}
use Rattle.search.specs.declared.place.Place.{Place}
use Rattle.search.specs.declared.answer.Kind.{Kind}
use Rattle.search.specs.declared.answer.Kind.TheVariants.{Found}
use Rattle.search.specs.Enter.{Entered}
use Rattle.search.proofs.JoinPlace.{settle_is}
use Rattle.search.proofs.JoinStand.{Quiet, there, stands_from}
use Rattle.search.proofs.JoinShows.{goes_if, found_if, Inv, list_of, Shows}
use Rattle.search.proofs.JoinWalk.{walk_join}
use Rattle.search.proofs.JoinEnter.{deeps_long, Entry, Enters, enter_join, entry_parts, entry_tidied}

-- a sound model's fresh configuration
pub fresh_sane : (m : Model) → length m.lines ≡ 512 → sound_model m ≡ true → Sane (labels m).fresh
unfolding fresh_control
fresh_sane m long e =
    let S : SoundModel m = test_model {m = m} long e in
    record { small = S.table.room; zeros = S.table.zeros }

-- the two halves of `fits`: the schedule, and the test before any step is made
bounds_by : (a b : Bool) (n j next : ℕ) → ltb j n ≡ a → eqb next 164 ≡ b →
    also (ltb j n) (B.either (is_code next) (eqb next 164)) ≡ pick (leb n j) false (pick (eqb next 164) true (is_code next))
bounds_by true b n j next e f = rw (e, lt-leb n j (ltb-true j n e)) (next_by (is_code next) (eqb next 164))
  where
    next_by : (p q : Bool) → B.either p q ≡ pick q true p
    next_by true true = refl
    next_by true false = refl
    next_by false true = refl
    next_by false false = refl
bounds_by false b n j next e f = rw (e, le-leb n j (ltb-false j n e))

pub fits_is : (m : Model) (n : ℕ) (p : Place) → fits_on m n p ≡ also (unbroken (labels m) (stack_of p.codes p.length)) (in_bounds p n)
unfolding fits in_bounds
fits_is m n p =
    rw (length_stack p.codes p.length, among_code p.next)
    (ap (also (unbroken (labels m) (stack_of p.codes p.length))) (bounds_by (ltb p.length n) (eqb p.next 164) n p.length p.next refl refl))

bounds_parts : (p : Place) (n : ℕ) → in_bounds p n ≡ true → (p.length < n) × (is_next p.next ≡ true)
unfolding in_bounds
bounds_parts p n e = go (leb n p.length) refl (eqb p.next 164) refl e
  where
    go : (a : Bool) → leb n p.length ≡ a → (b : Bool) → eqb p.next 164 ≡ b → pick a false (pick b true (is_code p.next)) ≡ true →
        (p.length < n) × (is_next p.next ≡ true)
    go true f b g h = absurd (let z : ◌≡◌ {A = ℕ} 0 1 = cc in omega arith)
    go false f true g h = (leb-false n p.length f, rw g (last (is_code p.next)))
      where
        last : (q : Bool) → B.either q true ≡ true
        last true = refl
        last false = refl
    go false f false g h = (leb-false n p.length f, rw h)

pub bound_parts : (n : ℕ) → bound_fits n ≡ true → (1 ≤ n) × (n ≤ 24)
unfolding bound_fits
bound_parts n e = go (eqb n 0) refl e
  where
    go : (a : Bool) → eqb n 0 ≡ a → pick a false (leb n 24) ≡ true → (1 ≤ n) × (n ≤ 24)
    go true f h = absurd (let z : ◌≡◌ {A = ℕ} 0 1 = cc in omega arith)
    go false f h = let d : n ≡ 0 → ⊥ = eqb-false n 0 f in (omega arith, leb-true n 24 h)

-- one listing beside another, field by field
listing_path : {k k' : Kind} {f f' t t' z z' : ℕ} {p p' : Place} {r r' : List ℕ} → k ≡ k' → f ≡ f' → t ≡ t' → z ≡ z' → p ≡ p' → r ≡ r' →
    held (listed k f t z p) r ≡ held (listed k' f' t' z' p') r'
listing_path a b c d e f = λ x. held (listed (a x) (b x) (c x) (d x) (e x)) (f x)

module _ (m : Model) (long : length m.lines ≡ 512) (sound : sound_model m ≡ true) (J : Judging m) (Q : Quiet m) (n : ℕ) (bound : bound_fits n ≡ true)
    (p : Place) (codes : length p.codes ≡ 24) (b : ℕ) (limit : b ≤ 4294967295) (room : List ℕ) where
  abbrev M : Machine
  M = labels m

  start : Sane (labels m).fresh
  start = fresh_sane m long sound

  small : n ≤ 24
  small = (bound_parts n bound).1

  abbrev e : Left Entered
  e = enter_on m.lines (replicate 288 0) m p

  checked : listing_on m n p b room ≡ pick (not (in_bounds p n)) (held (refused_listing 40) room) (listing_entered e m n b room)
  unfolding listing_on
  checked = rw (sound, bound)

  module _ (inside : in_bounds p n ≡ true) where
    short : p.length < 24
    short = omega (arith, (bounds_parts p n inside).0, small)

    entered_is : listing_on m n p b room ≡ listing_entered e m n b room
    entered_is = checked ∙ rw inside

    E : Enters m start J p codes short e
    E = enter_join m start J p codes short

    broken : unbroken M (stack_of p.codes p.length) ≡ false → listing_on m n p b room ≡ held (refused_listing 40) room
    broken f = entered_is ∙ rw (E.good ∙ f)

    module _ (good : unbroken M (stack_of p.codes p.length) ≡ true) where
      v : Entry m start J p codes short p.length (climb e.out.stack e.out.place e.table e.records)
      v = E.entry (E.good ∙ good)

      next_is : e.out.place.next ≡ p.next
      next_is = E.next (E.good ∙ good)

      abbrev cs : List ℕ
      cs = e.out.place.codes

      abbrev x : Scene
      x = scene (walk (settled e.out.place) b 0 0 (control_at e.out.stack e.out.place.length).count (ltb 0 (room_for room)) Found)
          e.out.stack (deeps_of e.table e.out.stack) e.table e.records room

      len_is : e.out.place.length ≡ p.length
      len_is = v.len

      filled_is : (control_at e.out.stack e.out.place.length).count ≡ (there m start J cs p.length).control.count
      filled_is =
          let d : p.length % 24 ≡ p.length = omega (arith, short) in
          rw (len_is, d) (ap (λ (s : Control). s.count)
          ((entry_parts m start J p codes short (climb e.out.stack e.out.place e.table e.records) v).controls p.length (omega arith)))

      -- the place settled
      place_is : spot_of (settled e.out.place) ≡ settled_in M cs p.length (from p.next real_codes)
      place_is =
          settle_is m e.out.place (omega (arith, len_is, short)) (ap is_next next_is ∙ (bounds_parts p n inside).1)
          ∙ ap₂ (λ (i k : ℕ). settled_in M cs i (from k real_codes)) len_is next_is

      inv : Inv m start J n b x
      inv = record {
        bound = small;
        limit = limit;
        stands = rw (place_is, filled_is)
            (stands_from m start J e.out.stack (deeps_of e.table e.out.stack) e.table
            (there m start J cs p.length).control.count e.records n cs p.length p.next
            (entry_parts m start J p codes short (climb e.out.stack e.out.place e.table e.records) v) v.long v.clean
            (bounds_parts p n inside).0);
        settled = subst (Settled M) (sym place_is) (settle_twice M (labels_coded m) n cs p.length (from p.next real_codes) p.next refl);
        left = omega arith;
        sized = omega arith;
        found = omega arith;
        going = goes_if (ltb 0 (room_for room));
        kind = λ f. found_if (ltb 0 (room_for room));
        records = v.records;
        stack = v.stack;
        deeps = deeps_long e.table e.out.stack ∙ v.stack;
      }

      list_is : list_of m n b x ≡ list_in M n (room_for room) b (tidied p)
      unfolding list_in
      list_is =
          let z : room_for room - 0 ≡ room_for room = omega arith in
          let d : b - b ≡ 0 = omega arith in
          rw (z, d, place_is)
          (ap (λ (q : Spot). list_walk M b n (settled_in M q.codes q.len (from q.next real_codes)) (room_for room) 0 0)
          (entry_tidied m start J p codes short (climb e.out.stack e.out.place e.table e.records) v))

      abbrev y : Scene
      y = walk_in (b + 1) m (task m n) x

      walked_is : listing_on m n p b room ≡ held (listed (answered y.walk) y.walk.found (b - y.walk.left) y.walk.sized y.walk.place) y.room
      unfolding walk_from walk_on first_walk
      walked_is = entered_is ∙ rw (E.good ∙ good)

      shown : Shows b x y (list_in M n (room_for room) b (tidied p))
      shown = subst (Shows b x y) list_is (walk_join m start J Q n b (b + 1) x inv (omega arith))

      good_is : listing_on m n p b room ≡ listing_shown room (list_in M n (room_for room) b (tidied p))
      good_is =
          walked_is ∙ listing_path shown.kind (shown.found ∙ omega arith) shown.tries shown.sizes (ap place_at shown.place) shown.room

  -- refused by 40 exactly where the place does not fit
  pub listing_refused : fits_on m n p ≡ false → listing_on m n p b room ≡ held (refused_listing 40) room
  listing_refused f = go (in_bounds p n) refl (unbroken M (stack_of p.codes p.length)) refl
    where
      go : (i : Bool) → in_bounds p n ≡ i → (g : Bool) → unbroken M (stack_of p.codes p.length) ≡ g → listing_on m n p b room ≡ held (refused_listing 40) room
      go true h true g =
          let t : fits_on m n p ≡ true = fits_is m n p ∙ rw (g, h) in
          absurd (let z : ◌≡◌ {A = ℕ} 0 1 = cc in omega arith)
      go true h false g = broken h g
      go false h g q = checked ∙ rw h

  -- else what the walk gives
  pub listing_is : fits_on m n p ≡ true → listing_on m n p b room ≡ listing_shown room (list_in (labels m) n (room_for room) b (tidied p))
  listing_is f =
      let h = both_true _ _ (sym (fits_is m n p) ∙ f) in
      good_is h.1 h.0
