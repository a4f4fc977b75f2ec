-- The search is a listing with room for one: its answer is the walk's first answer.
use Prim.Native.Nat.{ℕ, suc, ◌+◌, ◌-◌, ◌/◌, ◌<◌, ◌≤◌}
use mathlib.Core.Bool.{true, false}
use mathlib.Core.List.{List, [], ◌∷◌, ◌++◌, append-nil}
use mathlib.Core.Path.{◌≡◌, refl, sym, ap, ◌∙◌, subst}
use native.Mathlib.Omega.{arith}
use lib.ListN.{length, take, drop, replicate, length-replicate, drop_of_length-le, get_or-append}
use lib.Seq.{sets-eq, length-take-le, take_at, get_or-take}
use Rattle.terms.specs.Base.{held}
use Rattle.model.specs.declared.records.Model.{Model}
use Rattle.audit.specs.Models.{sound_model}
use Rattle.audit.proofs.Check.{test_model}
use Rattle.walk.specs.Machine.{Machine}
use Rattle.walk.specs.Reply as R
use Rattle.walk.specs.Reply.{Reply}
use Rattle.walk.specs.Walk.{reply, search}
use Rattle.walk.specs.Place.{fits}
use Rattle.walk.specs.Answers.{AnyBudget, Answers, seen}
use Rattle.walk.specs.Array.{Spot, stack_of, view, search_in}
use Rattle.walk.specs.List.{Listed, list_in, as_one}
use Rattle.walk.proofs.Fit.{fits_parts}
use Rattle.walk.proofs.Array.{length_stack, Ok, program}
use Rattle.walk.proofs.List.{list_one}
use Rattle.walk.proofs.ListPasses.{found_short}
use Rattle.tries.specs.Labels.{labels}
use Rattle.tries.proofs.Codes.{labels_coded}
use Rattle.tries.proofs.Judging.{judging}
use Rattle.search.specs.Answer.{refused_listing, room_for, answer_of}
use Rattle.search.specs.Search.{bound_fits, listing_on, search_on}
use Rattle.search.specs.Shown.{place_at, padded, tidied, fits_on, word_put, words_put, listing_shown, answer_by, answer_shown, refused_answer, reply_of}
use Rattle.search.specs.Shown.{call_on, place_seen, GoodPlace, GoodBudget, Arrays}
use Rattle.search.specs.declared.place.Place.{Place}
use Rattle.search.specs.declared.answer.Answer.{Answer}
use Rattle.search.proofs.InRoom.{padded_long}
use Rattle.search.proofs.JoinEnter.{stack_same}
use Rattle.search.proofs.JoinQuiet.{quiet_along}
use Rattle.search.proofs.Joined.{bound_parts, listing_refused, listing_is}

-- Refusals

refused_one : (i : ℕ) → answer_of (held (refused_listing i) (replicate 25 0)) ≡ refused_answer i
unfolding refused_listing
refused_one i = refl

pub search_unsound : (m : Model) (n : ℕ) (p : Place) (b : ℕ) → sound_model m ≡ false → search_on m n p b ≡ refused_answer 11
unfolding search_on listing_on
search_unsound m n p b e = rw e (refused_one 11)

pub search_unbounded : (m : Model) (n : ℕ) (p : Place) (b : ℕ) → sound_model m ≡ true → bound_fits n ≡ false → search_on m n p b ≡ refused_answer 41
unfolding search_on listing_on
search_unbounded m n p b e f = rw (e, f) (refused_one 41)

-- The room for one

one_long : length {A = ℕ} (replicate 25 0) ≡ 25
one_long = length-replicate {A = ℕ} 25 0

one_row : (w : List ℕ) → length w ≤ 24 → words_put (replicate 25 0) 0 (w ∷ []) ≡ length w ∷ padded w
unfolding words_put word_put
one_row w h =
    let vs : List ℕ = length w ∷ padded w in
    let l : length vs ≡ 25 = ap suc (padded_long w h) in
    let d : drop (0 + length vs) (replicate {A = ℕ} 25 0) ≡ [] = drop_of_length-le (replicate 25 0) {i = 0 + length vs} (omega (arith, l, one_long)) in
    (sets-eq vs (replicate 25 0) 0 (omega (arith, l, one_long)) ∙ ap (λ (r : List ℕ). vs ++ r) d ∙ append-nil vs)

room_one : room_for (replicate 25 0) ≡ 1
unfolding room_for
room_one = ap (λ (n : ℕ). n / 25) one_long

by_kind : (k : R.Kind) (t z : ℕ) (q : Spot) → ((w : List ℕ) → k ≡ R.found w → length w ≤ 24) →
    answer_of (listing_shown (replicate 25 0) (as_one k t z q)) ≡ answer_by k t z q
unfolding padded words_put
by_kind (R.found w) t z q h = rw (one_row w (h w refl))
by_kind R.stop t z q h = refl
by_kind R.end t z q h = refl

module _ (m : Model) (arrays : Arrays m) (sound : sound_model m ≡ true) (n : ℕ) (bound : bound_fits n ≡ true) where
  -- refused by 40 exactly where the place does not fit
  pub search_unfit : (p : Place) (b : ℕ) → length p.codes ≡ 24 → b ≤ 4294967295 → fits_on m n p ≡ false → search_on m n p b ≡ refused_answer 40
  unfolding search_on
  search_unfit p b long limit e =
      ap answer_of (listing_refused m arrays.tables.lines sound
      (judging m (test_model {m = m} arrays.tables.lines sound) arrays.path) (quiet_along m arrays sound) n bound p long b limit (replicate 25 0) e)
      ∙ refused_one 40

  -- the place with 0 past its schedule is the same place
  pub same_place : (p : Place) → length p.codes ≡ 24 → p.length < n → view (tidied p) ≡ place_seen p
  unfolding padded
  same_place p long h =
      let l : length (take p.length p.codes) ≡ p.length = length-take-le p.length p.codes (omega (arith, (bound_parts n bound).1)) in
      let s : stack_of (padded (take p.length p.codes)) p.length ≡ stack_of p.codes p.length =
      stack_same (padded (take p.length p.codes)) p.codes p.length
      (λ i g. get_or-append (take p.length p.codes) _ 0 i (omega arith) ∙ get_or-take p.length p.codes i 0 g) in
      λ x. record { up = s x; next = p.next }

  pub short : (p : Place) → fits_on m n p ≡ true → p.length < n
  short p e = omega (arith, (fits_parts (labels m) n (place_seen p) e).short, length_stack p.codes p.length)

  pub tidied_ok : (p : Place) → GoodPlace m n p → Ok (labels m) n 24 (tidied p)
  tidied_ok p g =
      let h : p.length < n = short p g.0 in
      let l : length (take p.length p.codes) ≡ p.length = length-take-le p.length p.codes (omega (arith, (bound_parts n bound).1, g.1)) in
      (ap (fits (labels m) n) (same_place p g.1 h) ∙ g.0, padded_long (take p.length p.codes) (omega (arith, (bound_parts n bound).1)))

  -- S1: the answer is the walk's
  pub search_is : (p : Place) (b : ℕ) → GoodPlace m n p → GoodBudget b → search_on m n p b ≡ answer_shown (search_in (labels m) n b (tidied p))
  unfolding search_on
  search_is p b g limit =
      let M : Machine = labels m in
      let a : Reply Spot = search_in M n b (tidied p) in
      let r : (w : List ℕ) → a.kind ≡ R.found w → length w ≤ 24 =
      λ w e. omega (arith, found_short M (labels_coded m) n 24 (bound_parts n bound).1 b (tidied p) (tidied_ok p g) w e, (bound_parts n bound).1) in
      ap answer_of (listing_is m arrays.tables.lines sound (judging m (test_model {m = m} arrays.tables.lines sound) arrays.path) (quiet_along m arrays sound)
      n bound p g.1 b limit (replicate 25 0) g.0)
      ∙ ap (λ (k : ℕ). answer_of (listing_shown (replicate 25 0) (list_in M n k b (tidied p)))) room_one
      ∙ ap (λ (l : Listed Spot). answer_of (listing_shown (replicate 25 0) l)) (list_one M (labels_coded m) n b (tidied p))
      ∙ by_kind a.kind a.tries a.sizes a.place r

  -- and so is a call, as the walk sees it
  word_back : (w : List ℕ) → take (length w) (padded w) ≡ w
  unfolding padded
  word_back w = take_at w (replicate (24 - length w) 0) (length w) refl

  reply_by : (k : R.Kind) (t z : ℕ) (q : Spot) → seen place_seen (reply_of (answer_by k t z q)) ≡ seen view (reply k t z q)
  reply_by (R.found w) t z q = λ x. reply (R.found (word_back w x)) t z (view q)
  reply_by R.stop t z q = refl
  reply_by R.end t z q = refl

  place_by : (k : R.Kind) (t z : ℕ) (q : Spot) → (reply_of (answer_by k t z q)).place ≡ place_at q
  place_by (R.found w) t z q = refl
  place_by R.stop t z q = refl
  place_by R.end t z q = refl

  pub answers : Answers (labels m) n (call_on m n) place_seen GoodBudget (GoodPlace m n)
  answers = record {
    is = λ b p can g.
        let a : Reply Spot = search_in (labels m) n b (tidied p) in
        ap (λ (x : Answer). seen place_seen (reply_of x)) (search_is p b g can) ∙ reply_by a.kind a.tries a.sizes a.place
        ∙ walked.is b (tidied p) tt (tidied_ok p g) ∙ ap (search (labels m) n b) (same_place p g.1 (short p g.0));
    on = λ b p can g.
        let a : Reply Spot = search_in (labels m) n b (tidied p) in
        let e : (call_on m n b p).place ≡ place_at a.place = ap (λ (x : Answer). (reply_of x).place) (search_is p b g can) ∙
        place_by a.kind a.tries a.sizes a.place in
        let o : Ok (labels m) n 24 a.place = walked.on b (tidied p) tt (tidied_ok p g) in
        subst (GoodPlace m n) (sym e) o;
  }
    where
      walked : Answers (labels m) n (search_in (labels m) n) view AnyBudget (Ok (labels m) n 24)
      walked = program (labels m) (labels_coded m) n 24 (bound_parts n bound).1
