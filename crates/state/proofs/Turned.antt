-- M2 for refusals 1 to 7: each is given exactly when its reason holds and none before it.
use Prim.Native.Nat.{ℕ, ◌<◌, ◌≤◌}
use mathlib.Core.Bool.{Bool, true, false, not}
use mathlib.Core.List.{List, [], ◌∷◌}
use mathlib.Core.Logic.{◌↔◌}
use mathlib.Core.Path.{◌≡◌, refl, ap}
use native.Mathlib.Omega.{arith}
use lib.Dec.{ltb, leb, eqb}
use borrow.Author.Tests.{ltb-true, leb-true, leb-false, eqb-true, eqb-false, not-false}
use Rattle.terms.specs.Base.{pick, also}
use Rattle.terms.proofs.Meaning.{also_left, also_right}
use Rattle.model.proofs.Tests.{not_both, neither}
use Rattle.state.specs.Code.{way_of}
use Rattle.state.specs.Reason.{Reason, first_of, FirstIs, here, later, NoneHolds, done, next}
use Rattle.model.specs.Fields.{names_location}
use Rattle.state.specs.Early.{Sight, thread_of, action_of, is_elsewhere, locked_out, reasons, refusal_of, early_of}
use Rattle.state.specs.declared.code.Way.{Way}
use Rattle.state.specs.declared.code.Way.TheVariants.{Advance, Hand, Reset}

first_by_lem : (b : Bool) (r : Reason) (rs : List Reason) (n : ℕ) → r.holds ≡ b → (first_of rs ≡ n → FirstIs n rs)
    → pick b r.number (first_of rs) ≡ n → FirstIs n (r ∷ rs)
first_by_lem true r rs n p f e = here p e
first_by_lem false r rs n p f e = later p (f e)

is_first : (rs : List Reason) (n : ℕ) → 0 < n → first_of rs ≡ n → FirstIs n rs
is_first [] n h e = absurd (omega (arith, e))
is_first (r ∷ rs) n h e = first_by_lem r.holds r rs n refl (λ d. is_first rs n h d) e

first_is : {n : ℕ} {rs : List Reason} → FirstIs n rs → first_of rs ≡ n
first_is (here p q) = rw p q
first_is (later p f) = rw p (first_is f)

-- for any list of reasons
pub first_iff : (rs : List Reason) (n : ℕ) → 0 < n → (first_of rs ≡ n) ↔ FirstIs n rs
first_iff rs n h = (is_first rs n h, first_is)

-- no reason has number 0
abbrev pub positive : List Reason → Bool
positive [] = true
positive (r ∷ rs) = also (ltb 0 r.number) (positive rs)

none_by : (b : Bool) (r : Reason) (rs : List Reason) → r.holds ≡ b → 0 < r.number → (first_of rs ≡ 0 → NoneHolds rs)
    → pick b r.number (first_of rs) ≡ 0 → NoneHolds (r ∷ rs)
none_by true r rs p h f e = absurd (omega (arith, e))
none_by false r rs p h f e = next p (f e)

is_none : (rs : List Reason) → positive rs ≡ true → first_of rs ≡ 0 → NoneHolds rs
is_none [] h e = done
is_none (r ∷ rs) h e =
    none_by r.holds r rs refl (ltb-true 0 r.number (also_left (ltb 0 r.number) (positive rs) h))
    (λ d. is_none rs (also_right (ltb 0 r.number) (positive rs) h) d) e

none_is : {rs : List Reason} → NoneHolds rs → first_of rs ≡ 0
none_is done = refl
none_is (next p f) = rw p (none_is f)

pub none_iff : (rs : List Reason) → positive rs ≡ true → (first_of rs ≡ 0) ↔ NoneHolds rs
none_iff rs h = (is_none rs h, none_is)

-- a code is refused by n exactly when the first reason that holds has number n
pub early_iff : (g : Sight) (c n : ℕ) → 0 < n → (early_of g c ≡ n) ↔ FirstIs n (reasons g (way_of c))
unfolding early_of refusal_of
early_iff g c n h = first_iff (reasons g (way_of c)) n h

-- and let through exactly when none holds
pub lets_iff : (g : Sight) (c : ℕ) → (early_of g c ≡ 0) ↔ NoneHolds (reasons g (way_of c))
unfolding early_of refusal_of
lets_iff g c = none_iff (reasons g (way_of c)) refl

-- their numbers go up to 7
abbrev up_to : ℕ → List Reason → Bool
up_to n [] = true
up_to n (r ∷ rs) = also (leb r.number n) (up_to n rs)

first_most : (n : ℕ) (rs : List Reason) → up_to n rs ≡ true → first_of rs ≤ n
first_most n [] h = omega arith
first_most n (r ∷ rs) h =
    go r.holds (leb-true r.number n (also_left (leb r.number n) (up_to n rs) h))
    (first_most n rs (also_right (leb r.number n) (up_to n rs) h))
  where
    go : (b : Bool) → r.number ≤ n → first_of rs ≤ n → pick b r.number (first_of rs) ≤ n
    go true p q = p
    go false p q = q

pub early_seven : (g : Sight) (c : ℕ) → early_of g c ≤ 7
unfolding early_of refusal_of
early_seven g c = first_most 7 (reasons g (way_of c)) refl

-- What is known of a step that none of them refuses

pub record LetAdvance (g : Sight) (i : ℕ) : Type 0 where
  pub live : (thread_of g i).live ≡ true
  pub steps : g.steps < 60000
  pub near : names_location (action_of g i).op ≡ true → is_elsewhere g.locations (action_of g i).loc (thread_of g i).machine ≡ false
  pub free : names_location (action_of g i).op ≡ true → locked_out g.locks (action_of g i) (thread_of g i).serial ≡ false

pub record LetHand (g : Sight) (i j : ℕ) : Type 0 where
  pub sender : (thread_of g i).live ≡ true
  pub receiver : (thread_of g j).live ≡ true
  pub two : i ≡ j → ⊥
  pub steps : g.steps < 60000
  pub sends : (action_of g i).op ≡ 5

pub record LetReset (g : Sight) (m : ℕ) : Type 0 where
  pub machine : m < g.machines
  pub steps : g.steps < 60000

none_advance : (g : Sight) (i : ℕ) → NoneHolds (reasons g (Advance i)) → LetAdvance g i
none_advance g i (next p (next q (next r (next s (next t (next u (next v done))))))) =
    let a = action_of g i in
    let l : Bool = names_location a.op in
    record {
      live = not-false (thread_of g i).live q;
      steps = leb-false 60000 g.steps s;
      near = not_both l (is_elsewhere g.locations a.loc (thread_of g i).machine) u;
      free = not_both l (locked_out g.locks a (thread_of g i).serial) v;
    }

none_hand : (g : Sight) (i j : ℕ) → NoneHolds (reasons g (Hand i j)) → LetHand g i j
none_hand g i j (next p (next q (next r (next s (next t (next u (next v done))))))) =
    let a : Bool = (thread_of g i).live in
    let b : Bool = (thread_of g j).live in
    let x : Bool = eqb (action_of g i).op 5 in
    let y : Bool = eqb (action_of g j).op 6 in
    record {
      sender = not-false a (neither (not a) (not b) q).0;
      receiver = not-false b (neither (not a) (not b) q).1;
      two = eqb-false i j r;
      steps = leb-false 60000 g.steps s;
      sends = eqb-true (action_of g i).op 5 (not-false x (neither (not x) (not y) t).0);
    }

none_reset : (g : Sight) (m : ℕ) → NoneHolds (reasons g (Reset m)) → LetReset g m
none_reset g m (next p (next q (next r (next s (next t (next u (next v done))))))) =
    record { machine = leb-false g.machines m q; steps = leb-false 60000 g.steps s }

pub let_advance : (g : Sight) (i : ℕ) → refusal_of g (Advance i) ≡ 0 → LetAdvance g i
unfolding refusal_of
let_advance g i e = none_advance g i (is_none (reasons g (Advance i)) refl e)

pub let_hand : (g : Sight) (i j : ℕ) → refusal_of g (Hand i j) ≡ 0 → LetHand g i j
unfolding refusal_of
let_hand g i j e = none_hand g i j (is_none (reasons g (Hand i j)) refl e)

pub let_reset : (g : Sight) (m : ℕ) → refusal_of g (Reset m) ≡ 0 → LetReset g m
unfolding refusal_of
let_reset g m e = none_reset g m (is_none (reasons g (Reset m)) refl e)

-- the refusal of a code is the refusal of what it moves
pub early_way : (g : Sight) (c : ℕ) (w : Way) → way_of c ≡ w → early_of g c ≡ refusal_of g w
unfolding early_of
early_way g c w e = ap (refusal_of g) e
