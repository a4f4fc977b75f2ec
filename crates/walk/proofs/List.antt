-- A listing is calls of the search from answer to answer, and the search is a listing with room for one. One turn of a listing, and
-- pieces of the codes that it passes together.
use Prim.Native.Nat.{ℕ, zero, suc, ◌+◌, ◌-◌, ◌≤◌, ◌<◌}
use mathlib.Core.Path.{◌≡◌, refl, sym, ap, ◌∙◌}
use mathlib.Core.Bool.{Bool, true, false}
use mathlib.Core.List.Memᴰ
use mathlib.Core.List.{List, [], ◌∷◌, ◌++◌, append-nil}
use native.Mathlib.Omega.{arith}
use lib.ListN.{length, get_or, set}
use lib.Dec.{ltb, eqb}
use borrow.Author.Tests.{ne_eqb, le-ltb}
use Rattle.walk.specs.Base.{All, pick}
use Rattle.walk.specs.Machine.{Machine, Coded, Outcome, refused, too_big, goes, breaks}
use Rattle.walk.specs.Reply.{Kind, found, stop, end, Reply}
use Rattle.walk.specs.Trail.{Mark, plain, sized, bad, mark_of}
use Rattle.walk.specs.Place.{from, at}
use Rattle.walk.specs.Walk.{reply}
use Rattle.walk.specs.Array.{Spot, stack_of, word_of, settled_in, after_in, turn_in, walk_in, search_in}
use Rattle.walk.specs.List.{Close, full, spent, done, Listed, closed, with_words, with_counts, list_turn, list_walk}
use Rattle.walk.specs.List.{list_in, as_one, then_list, on_from, then_on, list_on}
use Rattle.walk.proofs.Codes.{from_head, from_past, from_zero, from_mem}
use Rattle.walk.proofs.Lists.{all_at, all_imp, all_of}
use Rattle.walk.proofs.Loop.{settled_here}

one_on_lem : (s t : ℕ) → suc s + t ≡ suc (s + t)
one_on_lem s t = omega arith

none_on : (t : ℕ) → 0 + t ≡ t
none_on t = omega arith

-- the place names the next pair itself: to find the next pair from it changes nothing
abbrev pub Settled : Machine → Spot → Type 0
Settled M q = settled_in M q.codes q.len (from q.next M.codes) ≡ q

module _ (M : Machine) (C : Coded M) (n : ℕ) where
  pub settle_twice : (cs : List ℕ) (j : ℕ) (ks : List ℕ) (i : ℕ) → from i M.codes ≡ ks → Settled M (settled_in M cs j ks)
  unfolding settled_in
  settle_twice cs zero [] i e = rw (from_past M.none M.codes C.below)
  settle_twice cs zero (k ∷ ks) i e = rw (from_head M.codes C.rise i k ks e).0
  settle_twice cs (suc j) [] i e = settle_twice (set cs j 0) j (from (suc (get_or cs j 0)) M.codes) (suc (get_or cs j 0)) refl
  settle_twice cs (suc j) (k ∷ ks) i e = rw (from_head M.codes C.rise i k ks e).0

  pub after_settled : (q : Spot) (o : Outcome M.Conf) → Settled M (after_in M n q o)
  unfolding after_in
  after_settled q refused = settle_twice q.codes q.len (from (suc q.next) M.codes) (suc q.next) refl
  after_settled q too_big = settle_twice q.codes q.len (from (suc q.next) M.codes) (suc q.next) refl
  after_settled q (goes d) = go (ltb (suc q.len) n)
    where
      go : (b : Bool) →
          Settled M (pick b (settled_in M (set q.codes q.len q.next) (suc q.len) M.codes)
          (settled_in M q.codes q.len (from (suc q.next) M.codes)))
      go true = settle_twice (set q.codes q.len q.next) (suc q.len) M.codes 0 (from_zero M.codes)
      go false = settle_twice q.codes q.len (from (suc q.next) M.codes) (suc q.next) refl
  after_settled q breaks = settle_twice q.codes q.len (from (suc q.next) M.codes) (suc q.next) refl

  turn_settled : (m : Mark) (w : List ℕ) (q : Spot) (rest : Spot → ℕ → ℕ → Reply Spot) (t z : ℕ) → Settled M q →
      ((t' z' : ℕ) → Settled M (rest q t' z').place) →
      Settled M (turn_in m w q rest t z).place
  turn_settled plain w q rest t z h ih = ih (suc t) z
  turn_settled sized w q rest t z h ih = ih (suc t) (suc z)
  turn_settled bad w q rest t z h ih = h

  choose_settled : (b : Bool) (x y : Reply Spot) → Settled M x.place → Settled M y.place → Settled M (pick b x y).place
  choose_settled true x y h k = h
  choose_settled false x y h k = k

  pub walk_settled : (b : ℕ) (q : Spot) (t z : ℕ) → Settled M q → Settled M (walk_in M b n q t z).place
  unfolding walk_in
  walk_settled zero q t z h = choose_settled (eqb q.next M.none) (reply end t z q) (reply stop t z q) h h
  walk_settled (suc b) q t z h =
      let o : Outcome M.Conf = M.try (at M (stack_of q.codes q.len)) q.next in
      let k : Settled M (after_in M n q o) = after_settled q o in
      choose_settled (eqb q.next M.none) (reply end t z q) (turn_in (mark_of o) (word_of q) (after_in M n q o) (walk_in M b n) t z) h
      (turn_settled (mark_of o) (word_of q) (after_in M n q o) (walk_in M b n) t z k (λ t' z'. walk_settled b (after_in M n q o) t' z' k))

  -- the walk to the first answer, and then the listing from there on; u is the budget with the tries made before
  abbrev then_walk : ℕ → ℕ → Kind → ℕ → ℕ → Spot → Listed Spot
  then_walk r u (found w) t z q = with_words (w ∷ []) (list_walk M (u - t) n q r t z)
  then_walk r u stop t z q = closed spent t z q
  then_walk r u end t z q = closed done t z q

  abbrev walk_from : ℕ → ℕ → Reply Spot → Listed Spot
  walk_from r u a = then_walk r u a.kind a.tries a.sizes a.place

  turn_first : (m : Mark) (w : List ℕ) (q : Spot) (r b t z : ℕ) →
      ((s y : ℕ) → list_walk M b n q (suc r) s y ≡ walk_from r (b + s) (walk_in M b n q s y)) →
      list_turn m w q r (list_walk M b n) t z ≡ walk_from r (suc b + t) (turn_in m w q (walk_in M b n) t z)
  turn_first plain w q r b t z ih =
      let e : b + suc t ≡ suc b + t = omega arith in
      ih (suc t) z ∙ ap (λ (u : ℕ). walk_from r u (walk_in M b n q (suc t) z)) e
  turn_first sized w q r b t z ih =
      let e : b + suc t ≡ suc b + t = omega arith in
      ih (suc t) (suc z) ∙ ap (λ (u : ℕ). walk_from r u (walk_in M b n q (suc t) (suc z))) e
  turn_first bad w q r b t z ih =
      let e : b ≡ suc b + t - suc t = omega arith in
      ap (λ (x : ℕ). with_words (w ∷ []) (list_walk M x n q r (suc t) z)) e

  choose_first : (b : Bool) (r u : ℕ) (x y : Listed Spot) (v w : Reply Spot) → x ≡ walk_from r u v → y ≡ walk_from r u w → pick b x y ≡ walk_from r u (pick b v w)
  choose_first true r u x y v w e f = e
  choose_first false r u x y v w e f = f

  walk_first : (b : ℕ) (q : Spot) (r t z : ℕ) → list_walk M b n q (suc r) t z ≡ walk_from r (b + t) (walk_in M b n q t z)
  unfolding list_walk walk_in
  walk_first zero q r t z = choose_first (eqb q.next M.none) r (0 + t) _ _ (reply end t z q) (reply stop t z q) refl refl
  walk_first (suc b) q r t z =
      let o : Outcome M.Conf = M.try (at M (stack_of q.codes q.len)) q.next in
      choose_first (eqb q.next M.none) r (suc b + t) _ _ (reply end t z q) (turn_in (mark_of o) (word_of q) (after_in M n q o) (walk_in M b n) t z) refl
      (turn_first (mark_of o) (word_of q) (after_in M n q o) r b t z (λ s y. walk_first b (after_in M n q o) r s y))

  -- counts before are counts added
  turn_counts : (m : Mark) (w : List ℕ) (q : Spot) (r : ℕ) (f : Spot → ℕ → ℕ → ℕ → Listed Spot) (s y t z : ℕ) →
      ((r' s' y' : ℕ) → f q r' (s' + t) (y' + z) ≡ with_counts t z (f q r' s' y')) →
      list_turn m w q r f (s + t) (y + z) ≡ with_counts t z (list_turn m w q r f s y)
  turn_counts plain w q r f s y t z ih = rw (one_on_lem s t) at (ih (suc r) (suc s) y)
  turn_counts sized w q r f s y t z ih = rw (one_on_lem s t, one_on_lem y z) at (ih (suc r) (suc s) (suc y))
  turn_counts bad w q r f s y t z ih = ap (with_words (w ∷ [])) (rw (one_on_lem s t) at (ih r (suc s) y))

  choose_counts : (b : Bool) (t z : ℕ) (x y v w : Listed Spot) → x ≡ with_counts t z v → y ≡ with_counts t z w → pick b x y ≡ with_counts t z (pick b v w)
  choose_counts true t z x y v w e f = e
  choose_counts false t z x y v w e f = f

  pub list_counts : (b : ℕ) (q : Spot) (r s y t z : ℕ) → list_walk M b n q r (s + t) (y + z) ≡ with_counts t z (list_walk M b n q r s y)
  unfolding list_walk
  list_counts zero q zero s y t z = refl
  list_counts zero q (suc r) s y t z = choose_counts (eqb q.next M.none) t z _ _ (closed done s y q) (closed spent s y q) refl refl
  list_counts (suc b) q zero s y t z = refl
  list_counts (suc b) q (suc r) s y t z =
      let o : Outcome M.Conf = M.try (at M (stack_of q.codes q.len)) q.next in
      choose_counts (eqb q.next M.none) t z _ _ (closed done s y q) (list_turn (mark_of o) (word_of q) (after_in M n q o) r (list_walk M b n) s y) refl
      (turn_counts (mark_of o) (word_of q) (after_in M n q o) r (list_walk M b n) s y t z (λ r' s' y'. list_counts b (after_in M n q o) r' s' y' t z))

  -- from the answer on: its place is settled, and its counts are added
  from_answer : (k : Kind) (r u t z : ℕ) (q : Spot) → Settled M q → then_walk r u k t z q ≡ then_list M n r u k t z q
  unfolding list_in
  from_answer (found w) r u t z q h =
      let e : list_walk M (u - t) n q r t z ≡ with_counts t z (list_walk M (u - t) n q r 0 0) = rw (none_on t, none_on z) at (list_counts (u - t) q r 0 0 t z) in
      ap (with_words (w ∷ [])) (e ∙ ap (λ (p : Spot). with_counts t z (list_walk M (u - t) n p r 0 0)) (sym h))
  from_answer stop r u t z q h = refl
  from_answer end r u t z q h = refl

  -- a listing with room is a call of the search, and then a listing from its answer on
  pub list_search : (k b : ℕ) (q : Spot) → list_in M n (suc k) b q ≡ on_from M n k b (search_in M n b q)
  unfolding list_in search_in
  list_search k b q =
      let s : Spot = settled_in M q.codes q.len (from q.next M.codes) in
      let h : Settled M s = settle_twice q.codes q.len (from q.next M.codes) q.next refl in
      let a : Reply Spot = walk_in M b n s 0 0 in
      let e : b + 0 ≡ b = omega arith in
      walk_first b s k 0 0 ∙ ap (λ (u : ℕ). walk_from k u a) e ∙ from_answer a.kind k b a.tries a.sizes a.place (walk_settled b s 0 0 h)

  -- with no room it is full at once, at the next pair
  pub list_none : (b : ℕ) (q : Spot) → list_in M n 0 b q ≡ closed full 0 0 (settled_in M q.codes q.len (from q.next M.codes))
  unfolding list_in list_walk
  list_none zero q = refl
  list_none (suc b) q = refl

  one_by : (c : Kind) (b t z : ℕ) (q : Spot) → Settled M q → then_list M n 0 b c t z q ≡ as_one c t z q
  one_by (found w) b t z q h =
      let l : list_in M n 0 (b - t) q ≡ closed full 0 0 q = list_none (b - t) q ∙ ap (closed full 0 0) h in
      rw (l, none_on t, none_on z)
  one_by stop b t z q h = refl
  one_by end b t z q h = refl

  pub search_settled : (b : ℕ) (q : Spot) → Settled M (search_in M n b q).place
  unfolding search_in
  search_settled b q =
      walk_settled b (settled_in M q.codes q.len (from q.next M.codes)) 0 0
      (settle_twice q.codes q.len (from q.next M.codes) q.next refl)

  -- with room for one it is the search
  pub list_one : (b : ℕ) (q : Spot) →
      list_in M n 1 b q ≡ as_one (search_in M n b q).kind (search_in M n b q).tries (search_in M n b q).sizes (search_in M n b q).place
  list_one b q =
      let a : Reply Spot = search_in M n b q in
      list_search 0 b q ∙ one_by a.kind b a.tries a.sizes a.place (search_settled b q)

  -- a listing from a place is one from the next pair
  list_settled : (k b : ℕ) (q : Spot) → list_in M n k b q ≡ list_in M n k b (settled_in M q.codes q.len (from q.next M.codes))
  unfolding list_in
  list_settled k b q =
      ap (λ (s : Spot). list_walk M b n s k 0 0) (sym (settle_twice q.codes q.len (from q.next M.codes) q.next refl))

  then_on_lem : (c : Close) (k b t z : ℕ) (w : List ℕ) (ws : List (List ℕ)) (s y : ℕ) (q : Spot) →
      with_words (w ∷ []) (with_counts t z (then_on M n k (b - t) c ws s y q)) ≡ then_on M n k b c (w ∷ ws) (s + t) (y + z) q
  then_on_lem full k b t z w ws s y q =
      let e : b - t - s ≡ b - (s + t) = omega arith in
      let l : Listed Spot = list_in M n k (b - (s + t)) q in
      let f : l.tries + s + t ≡ l.tries + (s + t) = omega arith in
      let g : l.sizes + y + z ≡ l.sizes + (y + z) = omega arith in
      rw (e, f, g)
  then_on_lem spent k b t z w ws s y q = refl
  then_on_lem done k b t z w ws s y q = refl

  first_then : (c : Kind) (j k b t z : ℕ) (q : Spot) → list_in M n (j + k) (b - t) q ≡ list_on M n k (b - t) (list_in M n j (b - t) q) →
      then_list M n (j + k) b c t z q ≡ list_on M n k b (then_list M n j b c t z q)
  first_then (found w) j k b t z q ih =
      let l : Listed Spot = list_in M n j (b - t) q in
      ap (λ (x : Listed Spot). with_words (w ∷ []) (with_counts t z x)) ih ∙ then_on_lem l.close k b t z w l.words l.tries l.sizes l.place
  first_then stop j k b t z q ih = refl
  first_then end j k b t z q ih = refl

  none_then : (k b : ℕ) (q : Spot) → list_in M n k b q ≡ list_on M n k b (list_in M n 0 b q)
  none_then k b q =
      let s : Spot = settled_in M q.codes q.len (from q.next M.codes) in
      let l : Listed Spot = list_in M n k b s in
      let e : b - 0 ≡ b = omega arith in
      let f : l.tries + 0 ≡ l.tries = omega arith in
      let g : l.sizes + 0 ≡ l.sizes = omega arith in
      rw (list_none b q, e, f, g) (list_settled k b q)

  -- a listing with more room is a listing, and then another one from its place on
  pub list_then : (j k b : ℕ) (q : Spot) → list_in M n (j + k) b q ≡ list_on M n k b (list_in M n j b q)
  list_then zero k b q = ap (λ (x : ℕ). list_in M n x b q) (omega arith) ∙ none_then k b q
  list_then (suc j) k b q =
      let a : Reply Spot = search_in M n b q in
      ap (λ (x : ℕ). list_in M n x b q) (omega arith) ∙ list_search (j + k) b q ∙
      first_then a.kind j k b a.tries a.sizes a.place (list_then j k (b - a.tries) a.place) ∙
      ap (list_on M n k b) (sym (list_search j b q))

-- Laws of the listing for whoever writes it as a loop

module _ (M : Machine) (n : ℕ) (q : Spot) (r t z : ℕ) where
  -- no pair left
  pub list_over : (b : ℕ) → eqb q.next M.none ≡ true → list_walk M b n q (suc r) t z ≡ closed done t z q
  unfolding list_walk
  list_over zero e = rw e
  list_over (suc b) e = rw e

  -- no room left
  pub list_full : (b : ℕ) → list_walk M b n q 0 t z ≡ closed full t z q
  unfolding list_walk
  list_full zero = refl
  list_full (suc b) = refl

  -- a pair left, and no budget
  pub list_spent : eqb q.next M.none ≡ false → list_walk M 0 n q (suc r) t z ≡ closed spent t z q
  unfolding list_walk
  list_spent e = rw e

  -- one turn, by what came of the try
  pub list_turn_lem : (b : ℕ) (o : Outcome M.Conf) → eqb q.next M.none ≡ false → M.try (at M (stack_of q.codes q.len)) q.next ≡ o →
      list_walk M (suc b) n q (suc r) t z ≡ list_turn (mark_of o) (word_of q) (after_in M n q o) r (list_walk M b n) t z
  unfolding list_walk
  list_turn_lem b o e f = rw (e, f)

-- a try after which the walk stays at its schedule and finds nothing: refused; or permitted where nothing is entered, for a schedule
-- of j codes and one more is as long as the bound
pub data Stays (M : Machine) (n j : ℕ) : Outcome M.Conf → Type 0 where
  no_step : Stays M n j refused
  too_long : {d : M.Conf} → n ≤ suc j → Stays M n j (goes d)

-- at such a schedule every plain try is one
pub plain_stays : (M : Machine) (n j : ℕ) → n ≤ suc j → (o : Outcome M.Conf) → mark_of o ≡ plain → Stays M n j o
plain_stays M n j h refused e = no_step
plain_stays M n j h too_big e = absurd (let z : ◌≡◌ {A = ℕ} 0 1 = cc in omega arith)
plain_stays M n j h (goes d) e = too_long h
plain_stays M n j h breaks e = absurd (let z : ◌≡◌ {A = ℕ} 0 1 = cc in omega arith)

turn_stays : (M : Machine) (n b : ℕ) (q : Spot) (r t z : ℕ) (o : Outcome M.Conf) → Stays M n q.len o →
    list_turn (mark_of o) (word_of q) (after_in M n q o) r (list_walk M b n) t z ≡
    list_walk M b n (settled_in M q.codes q.len (from (suc q.next) M.codes)) (suc r) (suc t) z
unfolding after_in
turn_stays M n b q r t z refused no_step = refl
turn_stays M n b q r t z too_big x = elim x [ ]
turn_stays M n b q r t z breaks x = elim x [ ]
turn_stays M n b q r t z (goes d) (too_long h) = rw (le-ltb (suc q.len) n h)

-- a piece of the codes left, all such, is passed together
pub list_pass : (M : Machine) → Coded M → (n : ℕ) (cs : List ℕ) (j : ℕ) (seg ks : List ℕ) (i b r t z : ℕ) → from i M.codes ≡ seg ++ ks →
    All (λ k. Stays M n j (M.try (at M (stack_of cs j)) k)) seg → length seg ≤ b →
    list_walk M b n (settled_in M cs j (seg ++ ks)) (suc r) t z ≡ list_walk M (b - length seg) n (settled_in M cs j ks) (suc r) (t + length seg) z
list_pass M C n cs j [] ks i b r t z e a l =
    let x : b - 0 ≡ b = omega arith in
    let y : t + 0 ≡ t = omega arith in
    rw (x, y)
list_pass M C n cs j (k ∷ seg) ks i zero r t z e a l = absurd (omega arith)
list_pass M C n cs j (k ∷ seg) ks i (suc b) r t z e a l =
    let h : (from k M.codes ≡ k ∷ (seg ++ ks)) × (from (suc k) M.codes ≡ seg ++ ks) = from_head M.codes C.rise i k (seg ++ ks) e in
    let m : k < M.none = all_at (λ x. x < M.none) (from_mem i M.codes (rw e (Memᴰ.head refl))) C.below in
    let x : suc b - suc (length seg) ≡ b - length seg = omega arith in
    let y : t + suc (length seg) ≡ suc t + length seg = omega arith in
    let q : Spot = record { codes = cs; len = j; next = k } in
    ap (λ (q : Spot). list_walk M (suc b) n q (suc r) t z) (settled_here M cs j k (seg ++ ks)) ∙
    list_turn_lem M n q r t z b (M.try (at M (stack_of cs j)) k) (ne_eqb k M.none (λ p. omega arith)) refl ∙
    turn_stays M n b q r t z (M.try (at M (stack_of cs j)) k) a.0 ∙
    ap (λ (s : List ℕ). list_walk M b n (settled_in M cs j s) (suc r) (suc t) z) h.1 ∙
    list_pass M C n cs j seg ks (suc k) b r (suc t) z h.1 a.1 (omega arith) ∙
    rw (x, y)

-- the codes of a piece are all refused
pub list_skip : (M : Machine) → Coded M → (n : ℕ) (cs : List ℕ) (j : ℕ) (seg ks : List ℕ) (i b r t z : ℕ) → from i M.codes ≡ seg ++ ks →
    All (λ k. M.try (at M (stack_of cs j)) k ≡ refused) seg → length seg ≤ b →
    list_walk M b n (settled_in M cs j (seg ++ ks)) (suc r) t z ≡ list_walk M (b - length seg) n (settled_in M cs j ks) (suc r) (t + length seg) z
list_skip M C n cs j seg ks i b r t z e a l =
    list_pass M C n cs j seg ks i b r t z e
    (all_imp (λ k. M.try (at M (stack_of cs j)) k ≡ refused) (λ k. Stays M n j (M.try (at M (stack_of cs j)) k)) (λ k f. rw f no_step) seg a) l

-- all codes of a schedule from which nothing is entered are plain: it is passed whole
pub list_whole : (M : Machine) → Coded M → (n : ℕ) (cs : List ℕ) (j b r t z : ℕ) → n ≤ suc j →
    ((k : ℕ) → mark_of (M.try (at M (stack_of cs j)) k) ≡ plain) → length M.codes ≤ b →
    list_walk M b n (settled_in M cs j M.codes) (suc r) t z ≡
    list_walk M (b - length M.codes) n (settled_in M cs j []) (suc r) (t + length M.codes) z
list_whole M C n cs j b r t z h a l =
    let e : M.codes ++ [] ≡ M.codes = append-nil M.codes in
    ap (λ (ks : List ℕ). list_walk M b n (settled_in M cs j ks) (suc r) t z) (sym e) ∙
    list_pass M C n cs j M.codes [] 0 b r t z (from_zero M.codes ∙ sym e)
    (all_of (λ k. Stays M n j (M.try (at M (stack_of cs j)) k)) M.codes (λ k p. plain_stays M n j h (M.try (at M (stack_of cs j)) k) (a k))) l
