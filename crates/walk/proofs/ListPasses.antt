-- What a listing passes is a first part of the tries ahead, and the words it gives are the bad ones among them; with room for all of
-- them it is the whole listing.
use Prim.Native.Nat.{ℕ, zero, suc, ◌+◌, ◌-◌, ◌≤◌, ◌<◌}
use mathlib.Core.Path.{◌≡◌, refl, sym, ap, ◌∙◌, subst}
use mathlib.Core.Bool.{Bool, true, false}
use mathlib.Core.List.{List, [], ◌∷◌, ◌++◌, append_assoc, append-nil, Memᴰ}
use native.Mathlib.Omega.{arith}
use lib.ListN.{length, take, length-append}
use lib.Seq.{take_at}
use lib.Dec.{eqb}
use Rattle.walk.specs.Base.{All, pick}
use Rattle.walk.specs.Machine.{Machine, Coded}
use Rattle.walk.specs.Reply.{Kind, found, stop, end, Reply}
use Rattle.walk.specs.Trail.{Mark, plain, sized, bad, Try, trails, bad_and, bad_in}
use Rattle.walk.specs.Place.{Place, over, from, place_of, first}
use Rattle.walk.specs.Passed.{passing, Met, met_bad, Passed}
use Rattle.walk.specs.Passed as P
use Rattle.walk.specs.Walk.{reply, search}
use Rattle.walk.specs.Array.{Spot, view, settled_in, walk_in, search_in}
use Rattle.walk.specs.List.{Close, full, spent, done, Listed, with_words, with_counts, list_in, then_list, then_on}
use Rattle.walk.specs.List.{list_all, Closes, no_room, used_up, no_more, ListPassed}
use Rattle.walk.specs.Answers.{AnyBudget, Answers, seen}
use Rattle.walk.proofs.Lists.{bad_append, sized_append}
use Rattle.walk.proofs.Loop.{Clean, settle_clean, search_clean}
use Rattle.walk.proofs.Gather.{at_found, at_stop, at_end, Counted, one_call}
use Rattle.walk.proofs.Array.{Ok, program}
use Rattle.walk.proofs.Placed.{whole}
use Rattle.walk.proofs.Member.{mem_trails}
use Rattle.walk.proofs.Claims.{call_passes}
use Rattle.walk.proofs.List.{list_search, list_none, list_then}

abbrev pub list_seen : {P : Type 0} → (P → Place) → Listed P → Listed Place
list_seen view r = record { close = r.close; words = r.words; tries = r.tries; sizes = r.sizes; place = view r.place }

no_length : (l : List Try) → length l ≤ 0 → l ≡ []
no_length [] h = refl
no_length (x ∷ l) h = absurd (omega arith)

module _ (M : Machine) (C : Coded M) (n m : ℕ) (room : n ≤ m) where
  A : Answers M n (search_in M n) view AnyBudget (Ok M n m)
  A = program M C n m room

  call : (b : ℕ) (q : Spot) → Ok M n m q → Passed M n b (passing M n (view q)) 0 0 (seen view (search_in M n b q))
  call b q ok = one_call M C n (search_in M n) view AnyBudget (Ok M n m) A b q tt ok

  place_none : (q : Spot) → (search_in M n 0 q).place ≡ settled_in M q.codes q.len (from q.next M.codes)
  unfolding search_in walk_in
  place_none q =
      let s : Spot = settled_in M q.codes q.len (from q.next M.codes) in
      go (eqb s.next M.none) s
    where
      go : (b : Bool) (s : Spot) → (pick b (reply end 0 0 s) (reply stop 0 0 s)).place ≡ s
      go true s = refl
      go false s = refl

  passes_none : (b : ℕ) (q : Spot) → Ok M n m q → ListPassed M n b 0 (passing M n (view q)) (list_seen view (list_in M n 0 b q))
  passes_none b q ok =
      let Q = call 0 q ok in
      let e : Q.past ≡ [] = no_length Q.past Q.within in
      let p : passing M n (view q) ≡ passing M n (view (settled_in M q.codes q.len (from q.next M.codes))) =
      rw (e, place_none q) at Q.parts in
      rw (list_none M C n b q) (record {
        past = [];
        parts = p;
        words = refl;
        tries = refl;
        sizes = refl;
        within = omega arith;
        closes = no_room refl;
      })

  closes_on : (b k t : ℕ) (past rest : List Try) (w : List ℕ) (p : Place) (c : Close) → bad_in past ≡ w ∷ [] → t ≡ length past → t ≤ b →
      Closes M n (b - t) k rest p c → Closes M n b (suc k) (past ++ rest) p c
  closes_on b k t past rest w p full e f l (no_room h) = no_room (rw (bad_append past rest, e) (omega (arith, h)))
  closes_on b k t past rest w p spent e f l (used_up h i j) = used_up (rw (bad_append past rest, e) (omega (arith, h)))
      (rw (length-append past rest) (omega (arith, i))) j
  closes_on b k t past rest w p done e f l (no_more h i j) = no_more (rw (bad_append past rest, e) (omega (arith, h))) i j

  last_stop : (b : ℕ) (past : List Try) (p : Place) {k : Kind} → Met M n b past p k → k ≡ stop → 0 < length (passing M n p)
  last_stop b past p (met_bad e q h) f = absurd (let z : ◌≡◌ {A = ℕ} 0 1 = cc in omega arith)
  last_stop b past p (P.used_up h l m) f = m
  last_stop b past p (P.no_more h e q) f = absurd (let z : ◌≡◌ {A = ℕ} 0 1 = cc in omega arith)

  last_end : (b : ℕ) (past : List Try) (p : Place) {k : Kind} → Met M n b past p k → k ≡ end → p ≡ place_of M over
  last_end b past p (met_bad e q h) f = absurd (let z : ◌≡◌ {A = ℕ} 0 1 = cc in omega arith)
  last_end b past p (P.used_up h l m) f = absurd (let z : ◌≡◌ {A = ℕ} 0 1 = cc in omega arith)
  last_end b past p (P.no_more h e q) f = q

  by_kind : (c : Kind) (k b t z : ℕ) (l : List Try) (q : Spot) (Q : Passed M n b l 0 0 (reply c t z (view q))) →
      ListPassed M n (b - t) k (passing M n (view q)) (list_seen view (list_in M n k (b - t) q)) →
      ListPassed M n b (suc k) l (list_seen view (then_list M n k b c t z q))
  by_kind (found w) k b t z l q Q R =
      let h = at_found M n b Q.past (view q) w Q.met refl in
      let i : t ≡ length Q.past = omega (arith, Q.tries) in
      record {
        past = Q.past ++ R.past;
        parts = Q.parts ∙ ap (λ (r : List Try). Q.past ++ r) R.parts ∙ sym (append_assoc Q.past R.past _);
        words = rw (bad_append Q.past R.past, h.0, R.words);
        tries = rw (length-append Q.past R.past) (omega (arith, i, R.tries));
        sizes = rw (sized_append Q.past R.past) (omega (arith, Q.sizes, R.sizes));
        within = rw (length-append Q.past R.past) (omega (arith, i, R.within, Q.within));
        closes = closes_on b k t Q.past R.past w _ _ h.0 i (omega (arith, i, Q.within)) R.closes;
      }
  by_kind stop k b t z l q Q R =
      let h = at_stop M n b Q.past (view q) Q.met refl in
      record {
        past = Q.past;
        parts = Q.parts;
        words = sym h.0;
        tries = omega (arith, Q.tries);
        sizes = omega (arith, Q.sizes);
        within = Q.within;
        closes = used_up (rw h.0 (omega arith)) h.1 (last_stop b Q.past (view q) Q.met refl);
      }
  by_kind end k b t z l q Q R =
      let h = at_end M n b Q.past (view q) Q.met refl in
      record {
        past = Q.past;
        parts = Q.parts;
        words = sym h.0;
        tries = omega (arith, Q.tries);
        sizes = omega (arith, Q.sizes);
        within = Q.within;
        closes = no_more (rw h.0 (omega arith)) h.1 (last_end b Q.past (view q) Q.met refl);
      }

  -- S2 for a listing: what it passes, and that its words are the bad ones among that
  pub list_passes : (k b : ℕ) (q : Spot) → Ok M n m q → ListPassed M n b k (passing M n (view q)) (list_seen view (list_in M n k b q))
  list_passes zero b q ok = passes_none b q ok
  list_passes (suc k) b q ok =
      let a : Reply Spot = search_in M n b q in
      rw (list_search M C n k b q)
      (by_kind a.kind k b a.tries a.sizes (passing M n (view q)) a.place (call b q ok)
      (list_passes k (b - a.tries) a.place (A.on b q tt ok)))

-- The listing with room for all

bad_fewer : (l : List Try) → length (bad_in l) ≤ length l
bad_fewer [] = omega arith
bad_fewer (t ∷ l) = go t.mark (bad_fewer l)
  where
    go : (m : Mark) → length (bad_in l) ≤ length l → length (bad_and m t.word (bad_in l)) ≤ suc (length l)
    go plain h = omega arith
    go sized h = omega arith
    go bad h = omega arith

closes_fuller : (M : Machine) (n b k : ℕ) (past : List Try) (p : Place) {c : Close} → Closes M n b k past p c → c ≡ full → length (bad_in past) ≡ k
closes_fuller M n b k past p (no_room h) e = h
closes_fuller M n b k past p (used_up h i j) e = absurd (let z : ◌≡◌ {A = ℕ} 0 1 = cc in omega arith)
closes_fuller M n b k past p (no_more h i j) e = absurd (let z : ◌≡◌ {A = ℕ} 0 1 = cc in omega arith)

module _ (M : Machine) (C : Coded M) (n m : ℕ) (room : n ≤ m) where
  -- places given back are good ones, with 0 past their schedules where the place taken in was so
  ok_none : (b : ℕ) (q : Spot) → Ok M n m q → Ok M n m (settled_in M q.codes q.len (from q.next M.codes))
  ok_none b q ok = subst (Ok M n m) (place_none M C n m room q) ((program M C n m room).on 0 q tt ok)

  ok_then : (k : Kind) (r b t z : ℕ) (q : Spot) → Ok M n m q → Ok M n m (list_in M n r (b - t) q).place → Ok M n m (then_list M n r b k t z q).place
  ok_then (found w) r b t z q o i = i
  ok_then stop r b t z q o i = o
  ok_then end r b t z q o i = o

  pub list_ok : (k b : ℕ) (q : Spot) → Ok M n m q → Ok M n m (list_in M n k b q).place
  list_ok zero b q ok = subst (λ (l : Listed Spot). Ok M n m l.place) (sym (list_none M C n b q)) (ok_none b q ok)
  list_ok (suc k) b q ok =
      let a : Reply Spot = search_in M n b q in
      let o : Ok M n m a.place = (program M C n m room).on b q tt ok in
      subst (λ (l : Listed Spot). Ok M n m l.place) (sym (list_search M C n k b q))
      (ok_then a.kind k b a.tries a.sizes a.place o (list_ok k (b - a.tries) a.place o))

  clean_then : (k : Kind) (r b t z : ℕ) (q : Spot) → Clean q → Clean (list_in M n r (b - t) q).place → Clean (then_list M n r b k t z q).place
  clean_then (found w) r b t z q o i = i
  clean_then stop r b t z q o i = o
  clean_then end r b t z q o i = o

  pub list_clean : (k b : ℕ) (q : Spot) → Clean q → Clean (list_in M n k b q).place
  list_clean zero b q h =
      subst (λ (l : Listed Spot). Clean l.place) (sym (list_none M C n b q)) (settle_clean M n q.codes q.len (from q.next M.codes) h)
  list_clean (suc k) b q h =
      let a : Reply Spot = search_in M n b q in
      let o : Clean a.place = search_clean M n b q h in
      subst (λ (l : Listed Spot). Clean l.place) (sym (list_search M C n k b q))
      (clean_then a.kind k b a.tries a.sizes a.place o (list_clean k (b - a.tries) a.place o))

  -- room for more than the budget is never full
  pub never_full : (k b : ℕ) (q : Spot) → Ok M n m q → b < k → (list_in M n k b q).close ≡ full → ⊥
  never_full k b q ok h e =
      let L = list_passes M C n m room k b q ok in
      omega (arith, bad_fewer L.past, L.within, closes_fuller M n b k L.past (view (list_in M n k b q).place) L.closes e)

  not_full : (c : Close) (k b : ℕ) (ws : List (List ℕ)) (t z : ℕ) (q : Spot) → (c ≡ full → ⊥) →
      then_on M n k b c ws t z q ≡ record { close = c; words = ws; tries = t; sizes = z; place = q }
  not_full full k b ws t z q f = absurd (f refl)
  not_full spent k b ws t z q f = refl
  not_full done k b ws t z q f = refl

  -- so with more than the budget the room does not matter
  pub room_enough : (k b : ℕ) (q : Spot) → Ok M n m q → b < k → list_in M n k b q ≡ list_all M n b q
  room_enough k b q ok h =
      let l : Listed Spot = list_all M n b q in
      let e : k ≡ b + 1 + (k - (b + 1)) = omega arith in
      ap (λ (i : ℕ). list_in M n i b q) e ∙ list_then M C n (b + 1) (k - (b + 1)) b q ∙
      not_full l.close (k - (b + 1)) b l.words l.tries l.sizes l.place (never_full (b + 1) b q ok (omega arith))

  -- the whole is a listing that is not full; or one that is, and then the whole from its place on
  pub all_same : (k b : ℕ) (q : Spot) → Ok M n m q → ((list_in M n k b q).close ≡ full → ⊥) → list_all M n b q ≡ list_in M n k b q
  all_same k b q ok f =
      let l : Listed Spot = list_in M n k b q in
      sym (room_enough (k + (b + 1)) b q ok (omega arith)) ∙ list_then M C n k (b + 1) b q ∙
      not_full l.close (b + 1) b l.words l.tries l.sizes l.place f

  then_full : (c : Close) (k b : ℕ) (ws : List (List ℕ)) (t z : ℕ) (q : Spot) → c ≡ full → then_on M n k b c ws t z q ≡ with_words ws
      (with_counts t z (list_in M n k (b - t) q))
  then_full full k b ws t z q e = refl
  then_full spent k b ws t z q e = absurd (let y : ◌≡◌ {A = ℕ} 0 1 = cc in omega arith)
  then_full done k b ws t z q e = absurd (let y : ◌≡◌ {A = ℕ} 0 1 = cc in omega arith)

  pub all_on : (k b : ℕ) (q : Spot) → Ok M n m q → (list_in M n k b q).close ≡ full →
      list_all M n b q ≡
      with_words (list_in M n k b q).words (with_counts (list_in M n k b q).tries (list_in M n k b q).sizes
      (list_all M n (b - (list_in M n k b q).tries) (list_in M n k b q).place))
  all_on k b q ok e =
      let l : Listed Spot = list_in M n k b q in
      sym (room_enough (k + (b + 1)) b q ok (omega arith)) ∙ list_then M C n k (b + 1) b q ∙
      then_full l.close (b + 1) b l.words l.tries l.sizes l.place e ∙
      ap (λ (r : Listed Spot). with_words l.words (with_counts l.tries l.sizes r))
      (room_enough (b + 1) (b - l.tries) l.place (list_ok k b q ok) (omega arith))

  -- What it lists from the first place on: all bad schedules where it is done, else those of the first tries, as many as the budget

  closes_done : (b k : ℕ) (past : List Try) (p : Place) {c : Close} → Closes M n b k past p c → c ≡ done → passing M n p ≡ []
  closes_done b k past p (no_room h) e = absurd (let z : ◌≡◌ {A = ℕ} 0 1 = cc in omega arith)
  closes_done b k past p (used_up h i j) e = absurd (let z : ◌≡◌ {A = ℕ} 0 1 = cc in omega arith)
  closes_done b k past p (no_more h i j) e = i

  closes_spent : (b k : ℕ) (past : List Try) (p : Place) {c : Close} → Closes M n b k past p c → c ≡ spent → (length past ≡ b) × (0 < length (passing M n p))
  closes_spent b k past p (no_room h) e = absurd (let z : ◌≡◌ {A = ℕ} 0 1 = cc in omega arith)
  closes_spent b k past p (used_up h i j) e = (i, j)
  closes_spent b k past p (no_more h i j) e = absurd (let z : ◌≡◌ {A = ℕ} 0 1 = cc in omega arith)

  module _ (some : 0 < n) (k b : ℕ) (q : Spot) (ok : Ok M n m q) (starts : view q ≡ first M) where
    all_ahead : passing M n (view q) ≡ trails M n M.fresh
    all_ahead = ap (passing M n) starts ∙ whole M C n some

    pub lists_all : (list_in M n k b q).close ≡ done → Counted (trails M n M.fresh) (list_in M n k b q).words (list_in M n k b q).tries
        (list_in M n k b q).sizes
    lists_all e =
        let L = list_passes M C n m room k b q ok in
        let p : passing M n (view (list_in M n k b q).place) ≡ [] = closes_done b k L.past (view (list_in M n k b q).place) L.closes e in
        let a : trails M n M.fresh ≡ L.past = sym all_ahead ∙ L.parts ∙ ap (λ (r : List Try). L.past ++ r) p ∙ append-nil L.past in
        record { words = rw a L.words; tries = rw a L.tries; sizes = rw a L.sizes }

    -- a budget for all tries is not used up with a try left
    pub lists_enough : length (trails M n M.fresh) ≤ b → (list_in M n k b q).close ≡ spent → ⊥
    lists_enough h e =
        let L = list_passes M C n m room k b q ok in
        let p : Place = view (list_in M n k b q).place in
        let a : trails M n M.fresh ≡ L.past ++ passing M n p = sym all_ahead ∙ L.parts in
        let f = closes_spent b k L.past p L.closes e in
        omega (arith, ap length a, length-append L.past (passing M n p), f.0, f.1)

    pub lists_part : (list_in M n k b q).close ≡ spent →
        Counted (take b (trails M n M.fresh)) (list_in M n k b q).words (list_in M n k b q).tries (list_in M n k b q).sizes
    lists_part e =
        let L = list_passes M C n m room k b q ok in
        let s : length L.past ≡ b = (closes_spent b k L.past (view (list_in M n k b q).place) L.closes e).0 in
        let a : trails M n M.fresh ≡ L.past ++ passing M n (view (list_in M n k b q).place) = sym all_ahead ∙ L.parts in
        let f : take b (trails M n M.fresh) ≡ L.past = ap (take b) a ∙ take_at L.past (passing M n (view (list_in M n k b q).place)) b s in
        record { words = rw f L.words; tries = rw f L.tries; sizes = rw f L.sizes }

-- a schedule found is no longer than the bound

mem_first : {A : Type 0} {x : A} {l : List A} (r : List A) → Memᴰ x l → Memᴰ x (l ++ r)
mem_first r (mathlib.Core.List.Memᴰ.head e) = mathlib.Core.List.Memᴰ.head e
mem_first r (mathlib.Core.List.Memᴰ.tail m) = mathlib.Core.List.Memᴰ.tail (mem_first r m)

mem_second : {A : Type 0} {x : A} (l : List A) {r : List A} → Memᴰ x r → Memᴰ x (l ++ r)
mem_second [] m = m
mem_second (y ∷ l) m = mathlib.Core.List.Memᴰ.tail (mem_second l m)

met_mem : (M : Machine) (n b : ℕ) (past : List Try) (p : Place) {k : Kind} (w : List ℕ) → Met M n b past p k → k ≡ found w →
    Memᴰ (record { word = w; mark = bad }) past
met_mem M n b past p w (met_bad {w = v} e q h) f =
    let same : v ≡ w = cc in
    rw (q, same) (mem_second e (mathlib.Core.List.Memᴰ.head refl))
met_mem M n b past p w (P.used_up h l m) f = absurd (let z : ◌≡◌ {A = ℕ} 0 1 = cc in omega arith)
met_mem M n b past p w (P.no_more h e q) f = absurd (let z : ◌≡◌ {A = ℕ} 0 1 = cc in omega arith)

pub found_short : (M : Machine) → Coded M → (n k : ℕ) → n ≤ k → (b : ℕ) (q : Spot) → Ok M n k q → (w : List ℕ) → (search_in M n b q).kind ≡ found w → length w ≤ n
found_short M C n k room b q ok w e =
    let r = call_passes M C n b (view q) ok.0 in
    let h : Passed M n b (passing M n (view q)) 0 0 (search M n b (view q)) = r.1 in
    let f : (search M n b (view q)).kind ≡ found w = sym (ap (λ (a : Reply Place). a.kind) ((program M C n k room).is b q tt ok)) ∙ e in
    let i : Memᴰ (record { word = w; mark = bad }) h.past = met_mem M n b h.past (search M n b (view q)).place w h.met f in
    let j : Memᴰ (record { word = w; mark = bad }) (trails M n M.fresh) =
    rw r.2 (mem_second r.0 (mem_first (passing M n (search M n b (view q)).place) i)) in
    ((mem_trails M C n (record { word = w; mark = bad })).0 j).1

-- so with all that a listing finds
module _ (M : Machine) (C : Coded M) (n k : ℕ) (room : n ≤ k) where
  short_then : (c : Kind) (r b t z : ℕ) (q : Spot) → ((w : List ℕ) → c ≡ found w → length w ≤ n) → All (λ w. length w ≤ n) (list_in M n r (b - t) q).words →
      All (λ w. length w ≤ n) (then_list M n r b c t z q).words
  short_then (found w) r b t z q f a = (f w refl, a)
  short_then stop r b t z q f a = tt
  short_then end r b t z q f a = tt

  pub list_short : (r b : ℕ) (q : Spot) → Ok M n k q → All (λ w. length w ≤ n) (list_in M n r b q).words
  list_short zero b q ok = subst (λ (l : Listed Spot). All (λ w. length w ≤ n) l.words) (sym (list_none M C n b q)) tt
  list_short (suc r) b q ok =
      let a : Reply Spot = search_in M n b q in
      subst (λ (l : Listed Spot). All (λ w. length w ≤ n) l.words) (sym (list_search M C n r b q))
      (short_then a.kind r b a.tries a.sizes a.place (λ w e. found_short M C n k room b q ok w e)
      (list_short r (b - a.tries) a.place ((program M C n k room).on b q tt ok)))
