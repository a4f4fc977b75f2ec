-- A loop that puts f of each element in its place: what stands already, and what is still to come. For any f.
use Prim.Native.Nat.{ℕ, suc, ◌+◌, ◌<◌, ◌≤◌}
use mathlib.Core.List.{List, ◌++◌, map, append-nil, append_assoc}
use mathlib.Core.Path.{◌≡◌, ap, ◌∙◌}
use native.Mathlib.Numerals.{add-one}
use native.Mathlib.Omega.{arith}
use lib.ListN.{length, get_or, take, drop, set, drop_of_length-le}
use lib.Seq.{drop-cons, drop-drop, drop-set-lt, get_or-drop, take-suc-set, take_all}
use Rattle.state.specs.Each.{each2}

module _ {A : Type 0} (f : A → A) (l : List A) (i : ℕ) where
  -- one turn
  pub map_more : (d : A) → i < length l
      → take i l ++ map f (drop i l) ≡ take (i + 1) (set l i (f (get_or l i d))) ++ map f (drop (i + 1) (set l i (f (get_or l i d))))
  map_more d h =
      rw (add-one, take-suc-set l i (f (get_or l i d)) h, drop-set-lt (suc i) l i (f (get_or l i d)) (omega arith), drop-cons l i d h, append_assoc)

  -- the last turn is made
  pub map_end : length l ≤ i → take i l ++ map f (drop i l) ≡ l
  map_end h = rw (drop_of_length-le l h, append-nil, take_all i l h)

module _ {A : Type 0} (f : A → ℕ → A) (l : List A) (r : List ℕ) (i : ℕ) where
  pub each_more : (d : A) → i < length l
      → take i l ++ each2 f (drop i l) (drop i r)
      ≡ take (i + 1) (set l i (f (get_or l i d) (get_or r i 0))) ++ each2 f (drop (i + 1) (set l i (f (get_or l i d) (get_or r i 0)))) (drop (i + 1) r)
  unfolding each2
  each_more d h =
      let v : A = f (get_or l i d) (get_or r i 0) in
      let e : get_or (drop i r) 0 0 ≡ get_or r i 0 = get_or-drop i r 0 0 ∙ ap (λ (k : ℕ). get_or r k 0) (omega arith) in
      rw (drop-cons l i d h, e, drop-drop 1 i r, add-one, take-suc-set l i v h, drop-set-lt (suc i) l i v (omega arith), append_assoc)

  pub each_end : length l ≤ i → take i l ++ each2 f (drop i l) (drop i r) ≡ l
  unfolding each2
  each_end h = rw (drop_of_length-le l h, append-nil, take_all i l h)
