-- Laws of the walk over an array for whoever writes it as a loop: the array stays 0 behind the schedule.
use Prim.Native.Nat.{ℕ, zero, suc, ◌≤◌}
use mathlib.Core.Path.{◌≡◌, refl, ◌∙◌}
use mathlib.Core.Bool.{Bool, true, false}
use mathlib.Core.List.{List, [], ◌∷◌}
use native.Mathlib.Omega.{arith}
use lib.ListN.{length, get_or, set, get_or-eq_default, length-set}
use lib.Seq.{get_or-set_same, get_or-set_other}
use lib.Dec.{ltb, eqb}
use borrow.Author.Tests.{ltb-true, ltb-false, eqb-true, eqb-false}
use Rattle.walk.specs.Base.{pick}
use Rattle.walk.specs.Machine.{Machine, Outcome, refused, too_big, goes, breaks}
use Rattle.walk.specs.Reply.{stop, end, Reply}
use Rattle.walk.specs.Trail.{Mark, plain, sized, bad, mark_of}
use Rattle.walk.specs.Place.{from, at}
use Rattle.walk.specs.Walk.{reply}
use Rattle.walk.specs.Array.{Spot, stack_of, word_of, settled_in, after_in, turn_in, walk_in, search_in}

-- the first of the codes left is the next one
pub settled_here : (M : Machine) (cs : List ℕ) (j k : ℕ) (ks : List ℕ) → settled_in M cs j (k ∷ ks) ≡ record { codes = cs; len = j; next = k }
unfolding settled_in
settled_here M cs zero k ks = refl
settled_here M cs (suc j) k ks = refl

-- the array is 0 from j on
abbrev pub ZeroPast : List ℕ → ℕ → Type 0
ZeroPast cs j = (i : ℕ) → j ≤ i → get_or cs i 0 ≡ 0

abbrev pub Clean : Spot → Type 0
Clean q = ZeroPast q.codes q.len

put_zero : (cs : List ℕ) (j : ℕ) → get_or (set cs j 0) j 0 ≡ 0
put_zero cs j = go (ltb j (length cs)) refl
  where
    go : (b : Bool) → ltb j (length cs) ≡ b → get_or (set cs j 0) j 0 ≡ 0
    go true e = get_or-set_same cs j 0 0 (ltb-true _ _ e)
    go false e = get_or-eq_default (set cs j 0) 0 (rw length-set (ltb-false j (length cs) e))

pub pop_zero : (cs : List ℕ) (j : ℕ) → ZeroPast cs (suc j) → ZeroPast (set cs j 0) j
pop_zero cs j h i l = go (eqb i j) refl
  where
    go : (b : Bool) → eqb i j ≡ b → get_or (set cs j 0) i 0 ≡ 0
    go true e = rw (eqb-true i j e) (put_zero cs j)
    go false e =
        let ne : i ≡ j → ⊥ = eqb-false i j e in
        get_or-set_other cs j i 0 0 ne ∙ h i (omega arith)

pub push_zero : (cs : List ℕ) (j v : ℕ) → ZeroPast cs j → ZeroPast (set cs j v) (suc j)
push_zero cs j v h i l = get_or-set_other cs j i v 0 (omega arith) ∙ h i (omega arith)

module _ (M : Machine) (n : ℕ) where
  pub settle_clean : (cs : List ℕ) (j : ℕ) (ks : List ℕ) → ZeroPast cs j → Clean (settled_in M cs j ks)
  unfolding settled_in
  settle_clean cs zero [] h = h
  settle_clean cs zero (k ∷ ks) h = h
  settle_clean cs (suc j) [] h = settle_clean (set cs j 0) j (from (suc (get_or cs j 0)) M.codes) (pop_zero cs j h)
  settle_clean cs (suc j) (k ∷ ks) h = h

  after_clean : (q : Spot) (o : Outcome M.Conf) → Clean q → Clean (after_in M n q o)
  unfolding after_in
  after_clean q refused h = settle_clean q.codes q.len (from (suc q.next) M.codes) h
  after_clean q too_big h = settle_clean q.codes q.len (from (suc q.next) M.codes) h
  after_clean q (goes d) h = go (ltb (suc q.len) n)
    where
      go : (b : Bool) → Clean (pick b (settled_in M (set q.codes q.len q.next) (suc q.len) M.codes) (settled_in M q.codes q.len (from (suc q.next) M.codes)))
      go true = settle_clean (set q.codes q.len q.next) (suc q.len) M.codes (push_zero q.codes q.len q.next h)
      go false = settle_clean q.codes q.len (from (suc q.next) M.codes) h
  after_clean q breaks h = settle_clean q.codes q.len (from (suc q.next) M.codes) h

  turn_clean : (m : Mark) (w : List ℕ) (q : Spot) (rest : Spot → ℕ → ℕ → Reply Spot) (t z : ℕ) → Clean q → ((t' z' : ℕ) → Clean (rest q t' z').place) →
      Clean (turn_in m w q rest t z).place
  turn_clean plain w q rest t z h ih = ih (suc t) z
  turn_clean sized w q rest t z h ih = ih (suc t) (suc z)
  turn_clean bad w q rest t z h ih = h

  choose_clean : (b : Bool) (x y : Reply Spot) → Clean x.place → Clean y.place → Clean (pick b x y).place
  choose_clean true x y h k = h
  choose_clean false x y h k = k

  walk_clean : (b : ℕ) (q : Spot) (t z : ℕ) → Clean q → Clean (walk_in M b n q t z).place
  unfolding walk_in
  walk_clean zero q t z h = choose_clean (eqb q.next M.none) (reply end t z q) (reply stop t z q) h h
  walk_clean (suc b) q t z h =
      let o : Outcome M.Conf = M.try (at M (stack_of q.codes q.len)) q.next in
      let k : Clean (after_in M n q o) = after_clean q o h in
      choose_clean (eqb q.next M.none) (reply end t z q) (turn_in (mark_of o) (word_of q) (after_in M n q o) (walk_in M b n) t z) h
      (turn_clean (mark_of o) (word_of q) (after_in M n q o) (walk_in M b n) t z k (λ t' z'. walk_clean b (after_in M n q o) t' z' k))

  -- a place taken in with 0 behind its schedule gives one with 0 behind its schedule
  pub search_clean : (b : ℕ) (q : Spot) → Clean q → Clean (search_in M n b q).place
  unfolding search_in
  search_clean b q h = walk_clean b (settled_in M q.codes q.len (from q.next M.codes)) 0 0 (settle_clean q.codes q.len (from q.next M.codes) h)
