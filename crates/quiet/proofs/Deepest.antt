-- The deepest of the terms listed: by which fold they are found, and that no term looked at is deeper.
use Prim.Native.Nat.{ℕ, zero, suc, ◌+◌, ◌-◌, ◌<◌, ◌≤◌, max}
use mathlib.Core.Bool.{Bool, true, false}
use mathlib.Core.List.{List}
use mathlib.Core.Path.{◌≡◌, refl, ap}
use native.Mathlib.Omega.{arith}
use lib.Dec.{ltb, eqb}
use borrow.Author.Tests.{ltb-true, ltb-false, eqb-true, eqb-false}
use Rattle.std.specs.List.{fold, range_with_len}
use Rattle.terms.specs.Base.{pick, larger_of}
use Rattle.terms.specs.Line.{line_at, depth_in, depth_at}
use Rattle.terms.specs.Table.{used_of}
use Rattle.quiet.specs.Quiet.{deepest_in, deepest}

-- the larger of two
max_larger : (m n : ℕ) → max m n ≡ larger_of m n
unfolding larger_of
max_larger m n = by (ltb m n) refl
  where
    by : (b : Bool) → ltb m n ≡ b → max m n ≡ pick b n m
    by true e = omega (arith, ltb-true m n e)
    by false e = omega (arith, ltb-false m n e)

-- std's fold over a range
pub deepest_of : (k : ℕ) (l : List ℕ) (i d : ℕ) → fold (λ d i. max d (depth_at l i)) d (range_with_len i k) ≡ deepest_in k l i d
unfolding deepest_in
deepest_of zero l i d = refl
deepest_of (suc k) l i d = rw (← (max_larger d (depth_at l i))) (deepest_of k l (i + 1) (max d (depth_at l i)))

-- the deeper of two is neither's less
deeper_first : (m n : ℕ) → m ≤ larger_of m n
unfolding larger_of
deeper_first m n = by (ltb m n) refl
  where
    by : (b : Bool) → ltb m n ≡ b → m ≤ pick b n m
    by true e = omega (arith, ltb-true m n e)
    by false e = omega arith

deeper_second : (m n : ℕ) → n ≤ larger_of m n
unfolding larger_of
deeper_second m n = by (ltb m n) refl
  where
    by : (b : Bool) → ltb m n ≡ b → n ≤ pick b n m
    by true e = omega arith
    by false e = omega (arith, ltb-false m n e)

-- what was deepest before is not deeper
in_before : (k : ℕ) (l : List ℕ) (i d : ℕ) → d ≤ deepest_in k l i d
unfolding deepest_in
in_before zero l i d = omega arith
in_before (suc k) l i d = omega (arith, deeper_first d (depth_at l i), in_before k l (i + 1) (larger_of d (depth_at l i)))

-- no term looked at is deeper: it is the first, or one of those after it
in_by : (b : Bool) (k : ℕ) (l : List ℕ) (i d j : ℕ) → eqb i j ≡ b → i ≤ j
    → (i + 1 ≤ j → depth_at l j ≤ deepest_in k l (i + 1) (larger_of d (depth_at l i)))
    → depth_at l j ≤ deepest_in k l (i + 1) (larger_of d (depth_at l i))
in_by true k l i d j e g f =
    let same : depth_at l i ≡ depth_at l j = ap (λ x. depth_at l x) (eqb-true i j e) in
    omega (arith, same, deeper_second d (depth_at l i), in_before k l (i + 1) (larger_of d (depth_at l i)))
in_by false k l i d j e g f = f (past (eqb-false i j e))
  where
    past : (i ≡ j → ⊥) → i + 1 ≤ j
    past n = omega arith

in_bounds_lem : (k : ℕ) (l : List ℕ) (i d j : ℕ) → i ≤ j → j < i + k → depth_at l j ≤ deepest_in k l i d
unfolding deepest_in
in_bounds_lem zero l i d j g h = absurd (omega arith)
in_bounds_lem (suc k) l i d j g h = in_by (eqb i j) k l i d j refl g (λ p. in_bounds_lem k l (i + 1) (larger_of d (depth_at l i)) j p (omega arith))

-- a depth is below 256, and the deepest is a depth or what was deepest before
depth_small : (n : ℕ) → depth_in n < 256
unfolding depth_in
depth_small n = omega arith

larger_small : (m n : ℕ) → m < 256 → n < 256 → larger_of m n < 256
unfolding larger_of
larger_small m n h k = by (ltb m n)
  where
    by : (b : Bool) → pick b n m < 256
    by true = k
    by false = h

in_small : (k : ℕ) (l : List ℕ) (i d : ℕ) → d < 256 → deepest_in k l i d < 256
unfolding deepest_in
in_small zero l i d h = h
in_small (suc k) l i d h = in_small k l (i + 1) (larger_of d (depth_at l i)) (larger_small d (depth_at l i) h (depth_small (line_at l i)))

module _ (l : List ℕ) (d from count : ℕ) where
  pub deepest_small : d < 256 → deepest l d from count < 256
  unfolding deepest
  deepest_small = in_small (used_of count - from) l from d

  -- what was deepest before is not deeper than the deepest
  pub deepest_before : d ≤ deepest l d from count
  unfolding deepest
  deepest_before = in_before (used_of count - from) l from d

  used_above : (b : Bool) (j : ℕ) → ltb count 512 ≡ b → j < count → j < 512 → j < pick b count 512
  used_above true j e h w = h
  used_above false j e h w = w

  -- nor is any term from that label on
  pub deepest_bounds : (j : ℕ) → from ≤ j → j < count → j < 512 → depth_at l j ≤ deepest l d from count
  unfolding deepest used_of
  deepest_bounds j g h w =
      in_bounds_lem (used_of count - from) l from d j g (omega (arith, used_above (ltb count 512) j refl h w))
