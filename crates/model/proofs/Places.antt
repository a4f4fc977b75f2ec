-- The record at a place within its array, as the facts speak of it, is the number there taken apart, as the tests do.
use Prim.Native.Nat.{ℕ, ◌<◌, ◌≤◌}
use mathlib.Core.Bool.{Bool, true, false}
use mathlib.Core.Path.{◌≡◌, refl, ap}
use mathlib.Core.List.{List}
use lib.Dec.{ltb}
use lib.ListN.{length, get_or}
use borrow.Author.Tests.{lt-ltb, le-ltb, ltb-false}
use Rattle.std.proofs.lemmas.List.{get_or_past}
use mir.Val.{bool_byte}
use Rattle.terms.specs.Base.{pick}
use Rattle.terms.specs.Line.{bit_of}
use Rattle.model.specs.Records.{action_in, machine_in, location_in, thread_in, action_number, action_at, length_at, machine_at, location_at, thread_at}

-- what `get` reads of an array of n, z past its end, is what the tests of a range read
pub number_there : {A : Type 0} (z : A) (l : List A) (n i : ℕ) (v : A) → length l ≡ n → v ≡ get_or l i z → v ≡ pick (ltb i n) (get_or l i z) z
number_there z l n i v h e = rw e (place_by (ltb i n) refl)
  where
    place_by : (b : Bool) → ltb i n ≡ b → get_or l i z ≡ pick b (get_or l i z) z
    place_by true t = refl
    place_by false t = get_or_past l i z (rw h (ltb-false i n t))

-- the same of the record that it is
pub record_there : {A B : Type 0} (f : A → B) (z : A) (l : List A) (n i : ℕ) (v : A) → length l ≡ n → v ≡ get_or l i z → f v ≡ pick (ltb i n) (f (get_or l i z)) (f z)
record_there f z l n i v h e = rw e (place_by (ltb i n) refl)
  where
    place_by : (b : Bool) → ltb i n ≡ b → f (get_or l i z) ≡ pick b (f (get_or l i z)) (f z)
    place_by true t = refl
    place_by false t = ap f (get_or_past l i z (rw h (ltb-false i n t)))

-- a mark as a number, as `From` gives it
pub bit_is : (b : Bool) → bool_byte b ≡ bit_of b
bit_is true = refl
bit_is false = refl

-- the record at a place within its array
pub machine_in_lem : (l : List ℕ) (i : ℕ) → i < 4 → machine_at l i ≡ machine_in (get_or l i 0)
unfolding machine_at
machine_in_lem l i h = rw (lt-ltb i 4 h)

pub location_in_lem : (l : List ℕ) (i : ℕ) → i < 32 → location_at l i ≡ location_in (get_or l i 0)
unfolding location_at
location_in_lem l i h = rw (lt-ltb i 32 h)

pub thread_in_lem : (l : List ℕ) (i : ℕ) → i < 8 → thread_at l i ≡ thread_in (get_or l i 0)
unfolding thread_at
thread_in_lem l i h = rw (lt-ltb i 8 h)

pub action_in_lem : (l : List ℕ) (p k : ℕ) → action_at l p k ≡ action_in (action_number l p k)
unfolding action_at
action_in_lem l p k = refl

-- a program has a length in its place alone
pub length_none : (l : List ℕ) (p : ℕ) → 32 ≤ p → length_at l p ≡ 0
unfolding length_at
length_none l p h = rw (le-ltb p 32 h)
