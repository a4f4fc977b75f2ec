-- A machine of three codes, worked through: the definitions compute, and what is asked of a machine can be met. Code 0 goes on,
-- code 1 breaks the claim after at least one step, code 5 is always too big; 2, 3 and 4 are none.
use Prim.Native.Nat.{ℕ, suc}
use mathlib.Core.Path.{◌≡◌, refl}
use mathlib.Core.Bool.{Bool, true, false}
use mathlib.Core.List.{[], ◌∷◌, Memᴰ}
use lib.ListN.{length}
use lib.Dec.{ltb, eqb, lit<}
use borrow.Author.Tests.{eqb-true}
use Rattle.walk.specs.Base.{pick}
use Rattle.walk.specs.Machine.{Machine, Coded, Outcome, refused, too_big, goes, breaks}
use Rattle.walk.specs.Reply.{found, stop, end}
use Rattle.walk.specs.Gathers.{Gathers, ended, stopped, met}
use Rattle.walk.specs.Trail.{trails, all_bad}
use Rattle.walk.specs.Place.{first, settle, at, unbroken, fits}
use Rattle.walk.specs.Walk.{reply, after, walk, search}
use Rattle.walk.specs.Answers.{AnyBudget}
use Rattle.walk.proofs.Claims.{itself, finds_all, tries_all}

abbrev try_toy : ℕ → ℕ → Outcome ℕ
try_toy c k = pick (eqb k 0) (goes (suc c)) (pick (eqb k 1) (pick (ltb 0 c) breaks refused) (pick (eqb k 5) too_big refused))

abbrev toy : Machine
toy = record { Conf = ℕ; fresh = 0; try = try_toy; codes = 0 ∷ 1 ∷ 5 ∷ []; none = 9 }

toy_only : (c k : ℕ) → ¬ Memᴰ k (0 ∷ 1 ∷ 5 ∷ []) → try_toy c k ≡ refused
toy_only c k h = go (eqb k 0) (eqb k 1) (eqb k 5) refl refl refl
  where
    go : (x y z : Bool) → eqb k 0 ≡ x → eqb k 1 ≡ y → eqb k 5 ≡ z →
        pick x (goes (suc c)) (pick y (pick (ltb 0 c) breaks refused) (pick z too_big refused)) ≡ refused
    go true y z a b d = absurd (h (Memᴰ.head (eqb-true k 0 a)))
    go false true z a b d = absurd (h (Memᴰ.tail (Memᴰ.head (eqb-true k 1 b))))
    go false false true a b d = absurd (h (Memᴰ.tail (Memᴰ.tail (Memᴰ.head (eqb-true k 5 d)))))
    go false false false a b d = refl

toy_coded : Coded toy
toy_coded = record {
  rise = ((lit< tt, (lit< tt, tt)), ((lit< tt, tt), (tt, tt)));
  below = (lit< tt, (lit< tt, (lit< tt, tt)));
  only = toy_only;
}

-- two bad schedules of at most three steps, nine tries, three of them refused for size
toy_bad : all_bad toy 3 ≡ (0 ∷ 0 ∷ 1 ∷ []) ∷ (0 ∷ 1 ∷ []) ∷ []
unfolding all_bad trails
toy_bad = refl

-- the first call finds one, the place after it is the next pair
toy_found : search toy 3 100 (first toy) ≡ reply (found (0 ∷ 0 ∷ 1 ∷ [])) 4 0 (record { up = 0 ∷ 0 ∷ []; next = 5 })
unfolding search walk after settle at
toy_found = refl

-- a budget used up exactly at a bad schedule gives found, one less gives stop; a place with none left goes back; end with budget 0
toy_exact : search toy 3 4 (first toy) ≡ reply (found (0 ∷ 0 ∷ 1 ∷ [])) 4 0 (record { up = 0 ∷ 0 ∷ []; next = 5 })
unfolding search walk after settle at
toy_exact = refl

toy_stop : search toy 3 3 (first toy) ≡ reply stop 3 0 (record { up = 0 ∷ 0 ∷ []; next = 1 })
unfolding search walk after settle at
toy_stop = refl

toy_back : search toy 3 0 (record { up = 0 ∷ 0 ∷ []; next = 9 }) ≡ reply stop 0 0 (record { up = 0 ∷ []; next = 1 })
unfolding search walk settle
toy_back = refl

toy_end : search toy 3 0 (record { up = []; next = 9 }) ≡ reply end 0 0 (record { up = []; next = 9 })
unfolding search walk settle
toy_end = refl

-- a whole listing with budgets of 3: stop, found, found, end
toy_listing : Gathers (search toy 3) (λ i. 3) 0 (first toy) ((0 ∷ 0 ∷ 1 ∷ []) ∷ (0 ∷ 1 ∷ []) ∷ []) 9 3
unfolding search walk after settle at
toy_listing = stopped refl (met refl (met refl (ended refl)))

-- and by the theorems, without computing a list: it found all, with all tries
toy_all : ((0 ∷ 0 ∷ 1 ∷ []) ∷ (0 ∷ 1 ∷ []) ∷ []) ≡ all_bad toy 3
unfolding fits unbroken
toy_all =
    finds_all toy toy_coded 3 (lit< tt) (search toy 3) (λ q. q) AnyBudget (λ q. fits toy 3 q ≡ true) (itself toy 3) (first toy) refl refl (λ i. 3) (λ i. tt) toy_listing

toy_tries : 9 ≡ length (trails toy 3 0)
unfolding fits unbroken
toy_tries =
    tries_all toy toy_coded 3 (lit< tt) (search toy 3) (λ q. q) AnyBudget (λ q. fits toy 3 q ≡ true) (itself toy 3) (first toy) refl refl (λ i. 3) (λ i. tt) toy_listing
