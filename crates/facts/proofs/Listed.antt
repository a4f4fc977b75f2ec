-- From the tries of a model, counted, to what the search and the listing answer.
use Prim.Native.Nat.{ℕ, ◌<◌, ◌≤◌}
use mathlib.Core.Bool.{true}
use mathlib.Core.List.{List, [], ◌++◌, append-nil}
use mathlib.Core.Path.{◌≡◌, refl, sym, ap, ◌∙◌, subst}
use native.Mathlib.Omega.{arith}
use lib.ListN.{length, take, replicate, length-append}
use Rattle.terms.specs.Base.{held}
use Rattle.model.specs.declared.records.Model.{Model}
use Rattle.audit.specs.Models.{sound_model}
use Rattle.walk.specs.Machine.{Machine}
use Rattle.walk.specs.Trail.{Try, trails, bad_in, sized_in, all_bad}
use Rattle.walk.specs.Place.{first, over, place_of}
use Rattle.walk.specs.Place as P
use Rattle.walk.specs.Passed.{passing}
use Rattle.walk.specs.Gathers.{Gathers}
use Rattle.walk.specs.Array.{Spot, view}
use Rattle.walk.specs.List.{Close, done, Listed, list_in, Closes, no_room, used_up, no_more, ListPassed}
use Rattle.walk.proofs.Lists.{bad_append}
use Rattle.walk.proofs.Array.{length_stack}
use Rattle.walk.proofs.Placed.{whole}
use Rattle.walk.proofs.Gather.{Counted}
use Rattle.walk.proofs.ListPasses.{list_seen, list_passes}
use Rattle.tries.specs.Labels.{labels}
use Rattle.search.specs.Place.{start_place}
use Rattle.search.specs.Answer.{listed, room_for}
use Rattle.search.specs.Search.{bound_fits, listing_on}
use Rattle.search.specs.Shown.{padded, place_at, tidied, words_put, listing_shown, call_on, GoodPlace, GoodBudget, Arrays}
use Rattle.search.specs.declared.answer.Kind.TheVariants.{End}
use Rattle.tries.proofs.Codes.{labels_coded}
use Rattle.search.proofs.Searched.{same_place, short, tidied_ok}
use Rattle.search.proofs.Promises.{start_first, start_good, finds_all, tries_all, sizes_all, ends_some_time}
use Rattle.search.proofs.Listings.{listing_shows, next_tidied}
use Rattle.facts.specs.Said.{last_place, Lists}
use Rattle.facts.proofs.Bare.{Tally, tally}

module _ (m : Model) (arrays : Arrays m) (sound : sound_model m ≡ true) (n : ℕ) (bound : bound_fits n ≡ true) (some : 0 < n) (most : n ≤ 24)
    (ws : List (List ℕ)) (t : ℕ) (C : Counted (trails (labels m) n (labels m).fresh) ws t 0) where
  abbrev M : Machine
  M = labels m

  only_these : (bs : ℕ → ℕ) → ((i : ℕ) → GoodBudget (bs i)) → {vs : List (List ℕ)} {s z : ℕ} → Gathers (call_on m n) bs 0 start_place vs s z →
      (vs ≡ ws) × (s ≡ t) × (z ≡ 0)
  unfolding all_bad
  only_these bs can g = (
    finds_all m arrays sound n bound bs can g ∙ sym C.words,
    tries_all m arrays sound n bound bs can g ∙ sym C.tries,
    sizes_all m arrays sound n bound bs can g ∙ sym C.sizes,
  )

  these : (bs : ℕ → ℕ) → ((i : ℕ) → GoodBudget (bs i)) → ((i : ℕ) → 0 < bs i) → Gathers (call_on m n) bs 0 start_place ws t 0
  these bs can few =
      let g = ends_some_time m arrays sound n bound bs can few in
      let o = only_these bs can g.3 in
      let e : tally g.0 g.1 g.2 ≡ tally ws t 0 = λ x. tally (o.0 x) (o.1 x) (o.2 x) in
      subst (λ (c : Tally). Gathers (call_on m n) bs 0 start_place c.bads c.tries c.sizes) e g.3

  -- a listing that has budget and room enough is done
  is_done_lem : (b k : ℕ) (past : List Try) (p : P.Place) {c : Close} → trails M n M.fresh ≡ past ++ passing M n p → t ≤ b → length ws < k →
      Closes M n b k past p c → (c ≡ done) × (passing M n p ≡ []) × (p ≡ place_of M over)
  is_done_lem b k past p e h r (no_room f) =
      absurd (omega (arith, f, ap length (C.words ∙ ap bad_in e ∙ bad_append past (passing M n p)), length-append (bad_in past) (bad_in (passing M n p))))
  is_done_lem b k past p e h r (used_up f i j) = absurd (omega (arith, i, j, C.tries, ap length e, length-append past (passing M n p)))
  is_done_lem b k past p e h r (no_more f i j) = (refl, i, j)

  good : GoodPlace m n start_place
  good = start_good m arrays sound n bound

  ahead : passing M n (view (tidied start_place)) ≡ trails M n M.fresh
  ahead =
      let s : view (tidied start_place) ≡ first M =
      same_place m arrays sound n bound start_place good.1 (short m arrays sound n bound start_place good.0) ∙ start_first m arrays sound n bound in
      ap (passing M n) s ∙ whole M (labels_coded m) n some

  module _ (b : ℕ) (room : List ℕ) (can : GoodBudget b) (enough : t ≤ b) (roomy : length ws < room_for room) where
    abbrev l : Listed Spot
    l = list_in (labels m) n (room_for room) b (tidied start_place)

    L : ListPassed M n b (room_for room) (passing M n (view (tidied start_place))) (list_seen view l)
    L = list_passes M (labels_coded m) n 24 most (room_for room) b (tidied start_place) (tidied_ok m arrays sound n bound start_place good)

    parts : trails M n M.fresh ≡ L.past ++ passing M n (view l.place)
    parts = sym ahead ∙ L.parts

    d : (l.close ≡ done) × (passing M n (view l.place) ≡ []) × (view l.place ≡ place_of M over)
    d = is_done_lem b (room_for room) L.past (view l.place) parts enough roomy L.closes

    all_past : L.past ≡ trails M n M.fresh
    all_past = sym (parts ∙ ap (λ (r : List Try). L.past ++ r) d.1 ∙ append-nil L.past)

    no_schedule : l.place.len ≡ 0
    no_schedule = sym (length_stack l.place.codes l.place.len) ∙ ap (λ (p : P.Place). length p.up) d.2

    no_codes : l.place.codes ≡ replicate 24 0
    unfolding padded
    no_codes =
        let s : (listing_on m n start_place b room).out.place ≡ place_at l.place =
        ap (λ r. r.out.place) (listing_shows m arrays sound n bound start_place b room good can) in
        ap (λ (q : Spot). q.codes) (sym (next_tidied m arrays sound n bound start_place b room good can) ∙ ap tidied s)
        ∙ ap (λ (k : ℕ). padded (take k l.place.codes)) no_schedule

    one_listing : listing_on m n start_place b room ≡ held (listed End (length ws) t 0 last_place) (words_put room 0 ws)
    one_listing =
        let w : l.words ≡ ws = L.words ∙ ap bad_in all_past ∙ sym C.words in
        let s : l.tries ≡ t = L.tries ∙ ap length all_past ∙ sym C.tries in
        let z : l.sizes ≡ 0 = L.sizes ∙ ap sized_in all_past ∙ sym C.sizes in
        let e : l.place.next ≡ 164 = ap (λ (p : P.Place). p.next) d.2 in
        listing_shows m arrays sound n bound start_place b room good can
        ∙ (λ x. listing_shown room (record {
          close = d.0 x;
          words = w x;
          tries = s x;
          sizes = z x;
          place = record { codes = no_codes x; len = no_schedule x; next = e x };
        }))

  pub counted_lists : Lists m n ws t
  counted_lists = record { calls = these; only = only_these; listing = one_listing }
