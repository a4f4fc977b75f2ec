-- The claim judged over records is the claim over the events that they record.
use Prim.Native.Nat.{ℕ, ◌+◌, ◌%◌, ◌<◌, ◌≤◌}
use mathlib.Core.Path.{◌≡◌, refl, sym, ◌∙◌, ap, subst}
use mathlib.Core.Bool.{Bool, true, false, not}
use mathlib.Core.List.{List, [], ◌∷◌, ◌++◌, append_assoc}
use native.Mathlib.Numerals.{add-one}
use native.Mathlib.Nat.{zero-add}
use native.Mathlib.Omega.{arith}
use lib.ListN.{length, get_or, drop, length-append, length-take, drop_of_length-le}
use lib.Seq.{drop-cons, get_or-take}
use lib.Dec.{ltb, leb, eqb}
use borrow.Author.Tests.{ltb-true, ltb-false, lt-ltb, le-leb, lt-leb, eq-eqb, ne_eqb}
use Rattle.terms.specs.Base.{pick, also}
use Rattle.terms.proofs.Meaning.{also_left, also_right, also_both}
use Rattle.model.specs.Fields.{either}
use Rattle.model.specs.First.{first_from}
use Rattle.model.specs.declared.records.Claim.{Claim}
use Rattle.model.proofs.Tests.{also_never}
use Rattle.state.specs.Ended.{endings_of, first_ended, second_ended}
use Rattle.state.specs.Control.{one_more}
use Rattle.state.specs.declared.ended.Ended.{Ended}
use Rattle.state.specs.declared.ended.Ended.TheVariants.{Nobody, One, Two}
use Rattle.state.proofs.Threads.{never}
use Rattle.rules.specs.Event.{numbered, record_by, record_of, number_at}
use Rattle.rules.specs.declared.event.Event.{Event}
use Rattle.rules.specs.declared.event.Event.TheVariants.{Jump, Launch, Reset, HandOver, Action}
use Rattle.rules.specs.declared.event.Happening.{Happening}
use Rattle.machine.specs.Claim.{ended_in, accepts_of, made_by, made_in, jump_by, jumps_of, begins_with, some_of, path_of, walked_in, breaks_claim, first_break_after, first_break, accepts_all}
use Rattle.machine.specs.Recorded.{is_real, Written, HoldsFrom, none, more, Holds, ShortPath}
use Rattle.machine.specs.Judge.{any_from, sum_from, accepts_by, making_op, makes_by, path_at, follow_by, accepts_at, makes_at, follow_at, follow_from, follows_on, fulfils_at, walked_on, breaks_on, broken_by, break_by, first_accept, first_break_on, accepts_on}
use Rattle.machine.proofs.Recording.{holds_add}

-- what the numbers of a record say
told : Event → Ended → ℕ → ℕ
told e n k = get_or (record_by e n).numbers k 0

module _ (n : Ended) where
  ends_told : (e : Event) → told e n 9 ≡ endings_of n
  unfolding told numbered
  ends_told (Jump d p) = refl
  ends_told (Launch d m j) = refl
  ends_told (Reset m j) = refl
  ends_told (HandOver d j) = refl
  ends_told (Action d op) = refl

  first_told : (e : Event) → told e n 10 ≡ first_ended n
  unfolding told numbered
  first_told (Jump d p) = refl
  first_told (Launch d m j) = refl
  first_told (Reset m j) = refl
  first_told (HandOver d j) = refl
  first_told (Action d op) = refl

  second_told : (e : Event) → told e n 11 ≡ second_ended n
  unfolding told numbered
  second_told (Jump d p) = refl
  second_told (Launch d m j) = refl
  second_told (Reset m j) = refl
  second_told (HandOver d j) = refl
  second_told (Action d op) = refl

-- a test that picks its own answer
pick_same : (b : Bool) → pick b true false ≡ b
pick_same true = refl
pick_same false = refl

module _ (l : List ℕ) where
  at_record : {i : ℕ} {h : Happening} → Written l i h → (k : ℕ) → k < 12 → number_at l i k ≡ told h.event h.ended k
  unfolding told record_of
  at_record w k s = w.is k s

  ends_at : {i : ℕ} {h : Happening} → Written l i h → number_at l i 9 ≡ endings_of h.ended
  ends_at {i} {h} w = at_record w 9 (omega arith) ∙ ends_told h.ended h.event

  -- accepts
  accepts_by_lem : (n : Ended) (v : ℕ) → accepts_by (endings_of n) (first_ended n) (second_ended n) v ≡ ended_in v n
  unfolding accepts_by
  accepts_by_lem Nobody v = refl
  accepts_by_lem (One p) v = pick_same (eqb p v)
  accepts_by_lem (Two p q) v = refl

  pub accepts_is : {i : ℕ} {h : Happening} → Written l i h → (v : ℕ) → accepts_at l i v ≡ accepts_of v h
  unfolding accepts_at accepts_of
  accepts_is {i} {h} w v =
      let a : number_at l i 9 ≡ endings_of h.ended = ends_at w in
      let b : number_at l i 10 ≡ first_ended h.ended = at_record w 10 (omega arith) ∙ first_told h.ended h.event in
      let d : number_at l i 11 ≡ second_ended h.ended = at_record w 11 (omega arith) ∙ second_told h.ended h.event in
      rw (a, b, d) (accepts_by_lem h.ended v)

  -- "accepts of any program"
  sums : {i : ℕ} {hs : List Happening} → HoldsFrom l i hs → sum_from (length hs) i (λ k. number_at l k 9) ≡ accepts_all hs
  unfolding sum_from accepts_all
  sums none = refl
  sums (more {i} {h} {hs} w r) = rw (ends_at w, sums r)

  pub all_accepts_is : {hs : List Happening} → Holds l hs → accepts_on l (length hs) ≡ accepts_all hs
  unfolding accepts_on
  all_accepts_is r = sums r

-- one of some passes a test
module _ (f : ℕ → Bool) where
  some_append : (xs ys : List ℕ) → some_of f (xs ++ ys) ≡ either (some_of f xs) (some_of f ys)
  unfolding some_of
  some_append [] ys = refl
  some_append (x ∷ xs) ys = by (f x) (some_append xs ys)
    where
      by : (b : Bool) → some_of f (xs ++ ys) ≡ either (some_of f xs) (some_of f ys)
          → either b (some_of f (xs ++ ys)) ≡ either (either b (some_of f xs)) (some_of f ys)
      by true ih = refl
      by false ih = ih

pub some_same : (f g : ℕ → Bool) → ((j : ℕ) → f j ≡ g j) → (xs : List ℕ) → some_of f xs ≡ some_of g xs
unfolding some_of
some_same f g e [] = refl
some_same f g e (x ∷ xs) = rw (e x, some_same f g e xs)

some_still : (f g : ℕ → Bool) → ((j : ℕ) → f j ≡ true → g j ≡ true) → (xs : List ℕ) → some_of f xs ≡ true → some_of g xs ≡ true
unfolding some_of
some_still f g e [] t = t
some_still f g e (x ∷ xs) t = by (f x) refl t (some_still f g e xs)
  where
    rest : (b : Bool) → some_of g xs ≡ true → either b (some_of g xs) ≡ true
    rest true h = refl
    rest false h = h

    by : (b : Bool) → f x ≡ b → either b (some_of f xs) ≡ true → (some_of f xs ≡ true → some_of g xs ≡ true) → either (g x) (some_of g xs) ≡ true
    by true h s ih = rw (e x h)
    by false h s ih = rest (g x) (ih s)

-- a thread made for the claim
module _ (c : Claim) (f : ℕ → Bool) where
  yes_one : (j : ℕ) → some_of f (j ∷ []) ≡ f j
  unfolding some_of
  yes_one j = pick_same (f j)

  none_made : some_of f [] ≡ false
  unfolding some_of
  none_made = refl

  one_made : (b : Bool) (j : ℕ) → some_of f (pick b (j ∷ []) []) ≡ also b (f j)
  one_made true j = yes_one j
  one_made false j = none_made

  -- op, machine and thread of a record
  makes_by_lem : ℕ → ℕ → ℕ → Bool
  makes_by_lem op m j = also (makes_by op m c) (f j)

  launch_op : (b p : Bool) → eqb c.kind 0 ≡ b → also (not b) p ≡ also (eqb 20 (making_op c.kind)) p
  unfolding making_op
  launch_op true p e = rw e
  launch_op false p e = rw e

  reset_op : (b p : Bool) → eqb c.kind 0 ≡ b → also b p ≡ also (eqb 21 (making_op c.kind)) p
  unfolding making_op
  reset_op true p e = rw e
  reset_op false p e = rw e

  other_op : (op : ℕ) → eqb op 20 ≡ false → eqb op 21 ≡ false → eqb op (making_op c.kind) ≡ false
  unfolding making_op
  other_op op g h = by (eqb c.kind 0)
    where
      by : (b : Bool) → eqb op (pick b 21 20) ≡ false
      by true = h
      by false = g

  other_made : (op m j : ℕ) → eqb op 20 ≡ false → eqb op 21 ≡ false → some_of f [] ≡ makes_by_lem op m j
  unfolding makes_by_lem makes_by
  other_made op m j g h = rw (other_op op g h) none_made

  not_op : (op k : ℕ) → 19 ≤ k → ltb op 19 ≡ true → eqb op k ≡ false
  not_op op k h e = let s : op < 19 = ltb-true op 19 e in ne_eqb op k (λ z. let t : op ≡ k = z in absurd (omega arith))

  made_told : (e : Event) (n : Ended) → is_real e ≡ true → some_of f (made_by c e) ≡ makes_by_lem (told e n 0) (told e n 7) (told e n 8)
  unfolding told numbered makes_by_lem makes_by
  made_told (Jump d p) n r = other_made 19 0 0 refl refl
  made_told (Launch d m j) n r =
      one_made (also (not (eqb c.kind 0)) (eqb m c.machine)) j
      ∙ ap (λ (b : Bool). also b (f j)) (launch_op (eqb c.kind 0) (eqb m c.machine) refl)
  made_told (Reset m j) n r =
      one_made (also (eqb c.kind 0) (eqb m c.machine)) j
      ∙ ap (λ (b : Bool). also b (f j)) (reset_op (eqb c.kind 0) (eqb m c.machine) refl)
  made_told (HandOver d j) n r = other_made 22 0 j refl refl
  made_told (Action d op) n r = other_made op 0 0 (not_op op 20 (omega arith) r) (not_op op 21 (omega arith) r)

module _ (l : List ℕ) (c : Claim) (n : ℕ) where
  made_at : {i : ℕ} {h : Happening} → Written l i h → fulfils_at l n i c ≡ some_of (λ j. follows_on l n j c) (made_by c h.event)
  unfolding fulfils_at makes_at makes_by_lem
  made_at {i} {h} w =
      let a : number_at l i 0 ≡ told h.event h.ended 0 = at_record l w 0 (omega arith) in
      let b : number_at l i 7 ≡ told h.event h.ended 7 = at_record l w 7 (omega arith) in
      let d : number_at l i 8 ≡ told h.event h.ended 8 = at_record l w 8 (omega arith) in
      rw (a, b, d) (sym (made_told c (λ j. follows_on l n j c) h.event h.ended w.real))

  some_made : {i : ℕ} {hs : List Happening} → HoldsFrom l i hs
      → any_from (length hs) i (λ k. fulfils_at l n k c) ≡ some_of (λ j. follows_on l n j c) (made_in c hs)
  unfolding any_from made_in
  some_made none = sym (none_made c (λ j. follows_on l n j c))
  some_made (more {i} {h} {hs} w r) =
      rw (made_at w, some_made r) (sym (some_append (λ j. follows_on l n j c) (made_by c h.event) (made_in c hs)))

-- the way along the path
module _ (l : List ℕ) (c : Claim) (s : ShortPath c) (j : ℕ) where
  path_long : length (path_of c) ≡ c.length
  path_long = length-take c.length c.path ∙ omega (arith, s.short, s.long)

  path_next : (k : ℕ) → k < c.length → drop k (path_of c) ≡ path_at c k ∷ drop (k + 1) (path_of c)
  unfolding path_at
  path_next k h =
      let g : k < 4 = omega (arith, s.short) in
      let a : get_or (path_of c) k 0 ≡ get_or c.path k 0 = get_or-take c.length c.path k 0 h in
      rw (lt-ltb k 4 g, add-one, ← a) (drop-cons (path_of c) k 0 (omega (arith, path_long)))

  -- what a record does to thread j
  step_at : {i : ℕ} {h : Happening} → Written l i h → (k : ℕ)
      → follow_at l i j c k ≡ follow_by (told h.event h.ended 0) (told h.event h.ended 1) (told h.event h.ended 6) j c k
  unfolding follow_at
  step_at {i} {h} w k = rw (at_record l w 0 (omega arith), at_record l w 1 (omega arith), at_record l w 6 (omega arith))

  -- a thread that has left the path, or walked it, stays so
  past_step : (op serial p k : ℕ) → c.length ≤ k → follow_by op serial p j c k ≡ k
  unfolding follow_by
  past_step op serial p k h = rw (le-leb c.length k h)

  past_path : {i : ℕ} {hs : List Happening} → HoldsFrom l i hs → (k : ℕ) → c.length ≤ k → follow_from (length hs) i l j c k ≡ k
  unfolding follow_from
  past_path none k h = refl
  past_path (more {i} {h} {hs} w r) k g =
      let at : ℕ → ℕ = told h.event h.ended in
      let a : follow_at l i j c k ≡ k = step_at w k ∙ past_step (at 0) (at 1) (at 6) k g in
      ap (λ (x : ℕ). follow_from (length hs) (i + 1) l j c x) a ∙ past_path r k g

  left_path : {i : ℕ} {hs : List Happening} → HoldsFrom l i hs → eqb (follow_from (length hs) i l j c 255) c.length ≡ false
  left_path r = rw (past_path r 255 (omega (arith, s.short))) (ne_eqb 255 c.length (λ z. let t : 255 ≡ c.length = z in absurd (omega (arith, s.short))))

  -- a record that is no jump of thread j, and one that is
  stays : (op serial p k : ℕ) → eqb op 19 ≡ false → follow_by op serial p j c k ≡ k
  unfolding follow_by
  stays op serial p k e = rw e (by (leb c.length k))
    where
      by : (b : Bool) → pick b k k ≡ k
      by true = refl
      by false = refl

  none_begins : (k : ℕ) → k < c.length → begins_with (drop k (path_of c)) [] ≡ false
  unfolding begins_with
  none_begins k h = rw (path_next k h)

  all_begins : (k : ℕ) (js : List ℕ) → c.length ≤ k → begins_with (drop k (path_of c)) js ≡ true
  unfolding begins_with
  all_begins k js h = rw (drop_of_length-le (path_of c) {i = k} (omega (arith, path_long)))

  one_begins : (k p : ℕ) (js : List ℕ) → k < c.length
      → begins_with (drop k (path_of c)) (p ∷ js) ≡ also (eqb p (path_at c k)) (begins_with (drop (k + 1) (path_of c)) js)
  unfolding begins_with
  one_begins k p js h = rw (path_next k h)

  -- F says of how far thread j is whether it walks the path to its end by its later jumps js
  module _ (F : ℕ → Bool) (js : List ℕ) (left : F 255 ≡ false) (k : ℕ) (h : k < c.length)
      (on : (x : ℕ) → x ≤ c.length → F x ≡ begins_with (drop x (path_of c)) js) where
    jump_by_lem : (b d : Bool) (p : ℕ) → eqb p (path_at c k) ≡ d
        → F (pick b (pick d (k % 255 + 1) 255) k) ≡ begins_with (drop k (path_of c)) (pick b (p ∷ []) [] ++ js)
    jump_by_lem false d p e = on k (omega arith)
    jump_by_lem true true p e =
        let z : k % 255 + 1 ≡ k + 1 = omega (arith, s.short) in
        rw (z, one_begins k p js h, e) (on (k + 1) (omega arith))
    jump_by_lem true false p e = rw (one_begins k p js h, e) left

    jump_step : (serial p : ℕ) → F (follow_by 19 serial p j c k) ≡ begins_with (drop k (path_of c)) (pick (eqb serial j) (p ∷ []) [] ++ js)
    unfolding follow_by
    jump_step serial p = rw (lt-leb c.length k h) (jump_by_lem (eqb serial j) (eqb p (path_at c k)) p refl)

    other_step : (op serial p : ℕ) → eqb op 19 ≡ false → F (follow_by op serial p j c k) ≡ begins_with (drop k (path_of c)) js
    other_step op serial p e = rw (stays op serial p k e) (on k (omega arith))

    event_step : (e : Event) (n : Ended) → is_real e ≡ true
        → F (follow_by (told e n 0) (told e n 1) (told e n 6) j c k) ≡ begins_with (drop k (path_of c)) (jump_by j e ++ js)
    unfolding told numbered
    event_step (Jump d p) n r = jump_step d.serial p
    event_step (Launch d m i) n r = other_step 20 d.serial 0 refl
    event_step (Reset m i) n r = other_step 21 0 0 refl
    event_step (HandOver d i) n r = other_step 22 d.serial 0 refl
    event_step (Action d op) n r =
        let g : op < 19 = ltb-true op 19 r in
        other_step op d.serial 0 (ne_eqb op 19 (λ z. let t : op ≡ 19 = z in absurd (omega arith)))

  follow_is : {i : ℕ} {hs : List Happening} → HoldsFrom l i hs → (k : ℕ) → k ≤ c.length
      → eqb (follow_from (length hs) i l j c k) c.length ≡ begins_with (drop k (path_of c)) (jumps_of j hs)
  unfolding follow_from jumps_of
  follow_is none k g = by (ltb k c.length) refl
    where
      by : (b : Bool) → ltb k c.length ≡ b → eqb k c.length ≡ begins_with (drop k (path_of c)) []
      by true e =
          let a : k < c.length = ltb-true k c.length e in
          ne_eqb k c.length (λ z. let t : k ≡ c.length = z in absurd (omega arith)) ∙ sym (none_begins k a)
      by false e =
          let a : c.length ≤ k = ltb-false k c.length e in
          let z : k ≡ c.length = omega arith in
          eq-eqb k c.length z ∙ sym (all_begins k [] a)
  follow_is (more {i} {h} {hs} w r) k g = by (ltb k c.length) refl (follow_is r)
    where
      by : (b : Bool) → ltb k c.length ≡ b
          → ((x : ℕ) → x ≤ c.length → eqb (follow_from (length hs) (i + 1) l j c x) c.length ≡ begins_with (drop x (path_of c)) (jumps_of j hs))
          → eqb (follow_from (length hs) (i + 1) l j c (follow_at l i j c k)) c.length ≡ begins_with (drop k (path_of c)) (jump_by j h.event ++ jumps_of j hs)
      by true e ih =
          let f : ℕ → Bool = λ x. eqb (follow_from (length hs) (i + 1) l j c x) c.length in
          ap f (step_at w k) ∙ event_step f (jumps_of j hs) (left_path r) k (ltb-true k c.length e) ih h.event h.ended w.real
      by false e ih =
          let a : c.length ≤ k = ltb-false k c.length e in
          let z : k ≡ c.length = omega arith in
          let y : follow_from (length hs) (i + 1) l j c (follow_at l i j c k) ≡ k = past_path (more w r) k a in
          ap (λ (x : ℕ). eqb x c.length) y ∙ eq-eqb k c.length z ∙ sym (all_begins k (jump_by j h.event ++ jumps_of j hs) a)

  pub follows_is : {hs : List Happening} → Holds l hs → follows_on l (length hs) j c ≡ begins_with (path_of c) (jumps_of j hs)
  unfolding follows_on
  follows_is r = follow_is r 0 (omega arith)

module _ (l : List ℕ) (c : Claim) (s : ShortPath c) where
  pub walked_is : {hs : List Happening} → Holds l hs → walked_on l (length hs) c ≡ walked_in c hs
  unfolding walked_on walked_in
  walked_is {hs} r =
      some_made l c (length hs) r
      ∙ some_same (λ j. follows_on l (length hs) j c) (λ j. begins_with (path_of c) (jumps_of j hs)) (λ j. follows_is l c s j r) (made_in c hs)

  -- a record breaks the claim exactly when its event does, after the events before it
  pub breaks_is : {hs : List Happening} {h : Happening} → Holds l hs → Written l (length hs) h → breaks_on l (length hs) c ≡ breaks_claim c hs h
  unfolding breaks_on breaks_claim
  breaks_is {hs} {h} r w = rw (accepts_is l w c.program, walked_is r)

  -- and so does its ending alone, before the event is recorded
  pub broken_is : {hs : List Happening} → Holds l hs → (h : Happening) → broken_by l (length hs) h.ended c ≡ breaks_claim c hs h
  unfolding broken_by breaks_claim accepts_of
  broken_is {hs} r h = rw (walked_is r)

-- A path once walked stays walked

made_append : (c : Claim) (hs gs : List Happening) → made_in c (hs ++ gs) ≡ made_in c hs ++ made_in c gs
unfolding made_in
made_append c [] gs = refl
made_append c (h ∷ hs) gs = rw (made_append c hs gs) (sym (append_assoc (made_by c h.event) (made_in c hs) (made_in c gs)))

jumps_append : (j : ℕ) (hs gs : List Happening) → jumps_of j (hs ++ gs) ≡ jumps_of j hs ++ jumps_of j gs
unfolding jumps_of
jumps_append j [] gs = refl
jumps_append j (h ∷ hs) gs = rw (jumps_append j hs gs) (sym (append_assoc (jump_by j h.event) (jumps_of j hs) (jumps_of j gs)))

begins_still : (ps js ks : List ℕ) → begins_with ps js ≡ true → begins_with ps (js ++ ks) ≡ true
unfolding begins_with
begins_still [] js ks e = refl
begins_still (p ∷ ps) [] ks e = absurd (never false e refl)
begins_still (p ∷ ps) (j ∷ js) ks e =
    also_both (also_left (eqb j p) (begins_with ps js) e) (begins_still ps js ks (also_right (eqb j p) (begins_with ps js) e))

either_first : (p q : Bool) → p ≡ true → either p q ≡ true
either_first p q e = rw e

pub walked_stays : (c : Claim) (hs gs : List Happening) → walked_in c hs ≡ true → walked_in c (hs ++ gs) ≡ true
unfolding walked_in
walked_stays c hs gs e =
    let f : ℕ → Bool = λ j. begins_with (path_of c) (jumps_of j hs) in
    let g : ℕ → Bool = λ j. begins_with (path_of c) (jumps_of j (hs ++ gs)) in
    let on : (j : ℕ) → f j ≡ true → g j ≡ true = λ j t. rw (jumps_append j hs gs) (begins_still (path_of c) (jumps_of j hs) (jumps_of j gs) t) in
    let a : some_of g (made_in c hs) ≡ true = some_still f g on (made_in c hs) e in
    rw (made_append c hs gs) (some_append g (made_in c hs) (made_in c gs) ∙ either_first (some_of g (made_in c hs)) (some_of g (made_in c gs)) a)

-- after that nothing breaks
not_breaks : (c : Claim) (past : List Happening) (h : Happening) → walked_in c past ≡ true → breaks_claim c past h ≡ false
unfolding breaks_claim
not_breaks c past h e = rw e (also_never (accepts_of c.program h))

none_later : (c : Claim) (past hs : List Happening) → walked_in c past ≡ true → first_break_after c past hs ≡ 0
unfolding first_break_after
none_later c past [] e = refl
none_later c past (h ∷ hs) e = rw (not_breaks c past h e) (none_later c (past ++ (h ∷ [])) hs (walked_stays c past (h ∷ []) e))

module _ (l : List ℕ) (c : Claim) (s : ShortPath c) where
  -- an accept at i, the first one
  accept_first : (past hs : List Happening) (h : Happening) (i n : ℕ) → length past ≡ i → i < n → n ≤ 65535 → Holds l past
      → accepts_of c.program h ≡ true → break_by i l n c ≡ first_break_after c past (h ∷ hs)
  unfolding first_break_after one_more breaks_claim
  accept_first past hs h i n e g small r a = by (walked_in c past) refl
    where
      w : walked_on l i c ≡ walked_in c past
      w = subst (λ (x : ℕ). walked_on l x c ≡ walked_in c past) e (walked_is l c s r)

      by : (b : Bool) → walked_in c past ≡ b
          → pick (eqb i n) 0 (pick (walked_on l i c) 0 (pick (ltb i 65535) (i + 1) i))
          ≡ pick (also (accepts_of c.program h) (not (walked_in c past))) (length past + 1) (first_break_after c (past ++ (h ∷ [])) hs)
      by true t =
          rw (ne_eqb i n (λ z. let y : i ≡ n = z in absurd (omega arith)), w, a, t) (sym (none_later c (past ++ (h ∷ [])) hs (walked_stays c past (h ∷ []) t)))
      by false t = rw (ne_eqb i n (λ z. let y : i ≡ n = z in absurd (omega arith)), w, a, t, lt-ltb i 65535 (omega arith), e)

  no_accept : (past : List Happening) (h : Happening) → accepts_of c.program h ≡ false → breaks_claim c past h ≡ false
  unfolding breaks_claim
  no_accept past h e = rw e

  first_from_lem : (past hs : List Happening) (i n : ℕ) → length past ≡ i → i + length hs ≡ n → n ≤ 65535 → Holds l past → HoldsFrom l i hs
      → break_by (first_from (length hs) i (λ k. accepts_at l k c.program)) l n c ≡ first_break_after c past hs
  unfolding first_from first_break_after
  first_from_lem past [] i n e f small r none = rw (eq-eqb i n (omega arith))
  first_from_lem past (h ∷ hs) i n e f small r (more w q) =
      by (accepts_of c.program h) refl
      (first_from_lem (past ++ (h ∷ [])) hs (i + 1) n (length-append past (h ∷ []) ∙ omega (arith, e)) (omega (arith, f)) small
      (holds_add {h = h} r (subst (λ (x : ℕ). Written l x h) (sym e) w)) q)
    where
      by : (b : Bool) → accepts_of c.program h ≡ b
          → break_by (first_from (length hs) (i + 1) (λ k. accepts_at l k c.program)) l n c ≡ first_break_after c (past ++ (h ∷ [])) hs
          → break_by (pick (accepts_at l i c.program) i (first_from (length hs) (i + 1) (λ k. accepts_at l k c.program))) l n c
          ≡ pick (breaks_claim c past h) (length past + 1) (first_break_after c (past ++ (h ∷ [])) hs)
      by true t ih = rw (accepts_is l w c.program, t) (accept_first past hs h i n e (omega (arith, f)) small r t)
      by false t ih = rw (accepts_is l w c.program, t, no_accept past h t) ih

  pub first_break_is : {hs : List Happening} → Holds l hs → length hs ≤ 65535 → first_break_on l (length hs) c ≡ first_break c hs
  unfolding first_break_on first_accept first_break
  first_break_is {hs} r small = first_from_lem [] hs 0 (length hs) refl (zero-add (length hs)) small none r
