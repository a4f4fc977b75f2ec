-- What a search among lines tells: a label is of the line looked for; nothing is said exactly where no line is it.
use Prim.Native.Nat.{ℕ, zero, suc, ◌+◌, ◌-◌, ◌<◌, ◌≤◌}
use mathlib.Core.Path.{◌≡◌, refl, sym, ap, ◌∙◌}
use mathlib.Core.Bool.{Bool, true, false}
use mathlib.Core.List.{List, [], ◌∷◌}
use native.Mathlib.Omega.{arith}
use lib.ListN.{length, get_or, take, drop, length-drop}
use lib.Seq.{get_or-take, get_or-drop, length-take-le}
use lib.Dec.{eqb}
use borrow.Author.Tests.{eqb-true, eqb-false, ne_eqb}
use Rattle.std.specs.Prelude.{Some, None}
use Rattle.terms.specs.Base.{pick}
use Rattle.terms.specs.Line.{line_at}
use Rattle.terms.specs.Table.{find_in, find_line}

-- line i of the lines that begin with label o is n
record Hit (o : ℕ) (ms : List ℕ) (n i : ℕ) : Type 0 where
  place : ℕ
  label : i ≡ o + place
  below : place < length ms
  is : get_or ms place 0 ≡ n

hit_by : (o m n i : ℕ) (ms : List ℕ) (t : Bool) → eqb m n ≡ t → pick t (Some o) (find_in (o + 1) ms n) ≡ Some i
    → (find_in (o + 1) ms n ≡ Some i → Hit (o + 1) ms n i) → Hit o (m ∷ ms) n i
hit_by o m n i ms true e h f = let q : o ≡ i = cc in record { place = 0; label = omega arith; below = omega arith; is = eqb-true m n e }
hit_by o m n i ms false e h f =
    let r = f h in
    record { place = suc r.place; label = omega (arith, r.label); below = omega (arith, r.below); is = r.is }

hit_in : (o : ℕ) (ms : List ℕ) (n i : ℕ) → find_in o ms n ≡ Some i → Hit o ms n i
unfolding find_in
hit_in o [] n i h = let z : ◌≡◌ {A = ℕ} 0 1 = cc in absurd (omega arith)
hit_in o (m ∷ ms) n i h = hit_by o m n i ms (eqb m n) refl h (hit_in (o + 1) ms n i)

miss_by : (o m n : ℕ) (ms : List ℕ) (t : Bool) → eqb m n ≡ t → pick t (Some o) (find_in (o + 1) ms n) ≡ None
    → (find_in (o + 1) ms n ≡ None → (j : ℕ) → j < length ms → get_or ms j 0 ≡ n → ⊥) → (j : ℕ) → j < length (m ∷ ms) → get_or (m ∷ ms) j 0 ≡ n → ⊥
miss_by o m n ms true e h f j k q = let z : ◌≡◌ {A = ℕ} 0 1 = cc in omega arith
miss_by o m n ms false e h f zero k q = eqb-false m n e q
miss_by o m n ms false e h f (suc j) k q = f h j (omega arith) q

miss_in : (o : ℕ) (ms : List ℕ) (n : ℕ) → find_in o ms n ≡ None → (j : ℕ) → j < length ms → get_or ms j 0 ≡ n → ⊥
unfolding find_in
miss_in o [] n h j k q = omega arith
miss_in o (m ∷ ms) n h j k q = miss_by o m n ms (eqb m n) refl h (miss_in (o + 1) ms n) j k q

in_miss : (o : ℕ) (ms : List ℕ) (n : ℕ) → ((j : ℕ) → j < length ms → get_or ms j 0 ≡ n → ⊥) → find_in o ms n ≡ None
unfolding find_in
in_miss o [] n f = refl
in_miss o (m ∷ ms) n f = rw (ne_eqb m n (f 0 (omega arith))) (in_miss (o + 1) ms n (λ j h. f (suc j) (omega arith)))

-- a label among the lines used
pub record Found_at (l : List ℕ) (c n i : ℕ) : Type 0 where
  pub below : i < c
  pub is : line_at l i ≡ n

pub line_hit : (l : List ℕ) (o c n i : ℕ) → c ≤ length l → find_line l o c n ≡ Some i → Found_at l c n i
unfolding find_line
line_hit l o c n i h e =
    let r = hit_in o (drop o (take c l)) n i e in
    let m = length-take-le c l h in
    let d = length-drop o (take c l) in
    let q : i ≡ o + r.place = r.label in
    let b : o + r.place < c = omega (arith, r.below, m, d) in
    record {
      below = omega arith;
      is = ap (λ (k : ℕ). get_or l k 0) q ∙ sym (get_or-take c l (o + r.place) 0 b) ∙ sym (get_or-drop o (take c l) r.place 0) ∙ r.is;
    }

pub line_miss : (l : List ℕ) (o c n : ℕ) → c ≤ length l → find_line l o c n ≡ None → (j : ℕ) → o ≤ j → j < c → line_at l j ≡ n → ⊥
unfolding find_line
line_miss l o c n h e j s k q =
    let m = length-take-le c l h in
    let d = length-drop o (take c l) in
    let z : o + (j - o) ≡ j = omega arith in
    let p : get_or (drop o (take c l)) (j - o) 0 ≡ get_or (take c l) j 0 = get_or-drop o (take c l) (j - o) 0 ∙ ap (λ (i : ℕ). get_or (take c l) i 0) z in
    miss_in o (drop o (take c l)) n e (j - o) (omega (arith, m, d, k)) (p ∙ get_or-take c l j 0 k ∙ q)

-- the way back, of a search among all lines used
pub miss_line : (l : List ℕ) (c n : ℕ) → c ≤ length l → ((j : ℕ) → j < c → line_at l j ≡ n → ⊥) → find_line l 0 c n ≡ None
unfolding find_line
miss_line l c n h f =
    in_miss 0 (take c l) n
    (λ j s p. let t : j < c = omega (arith, length-take-le c l h) in f j t (sym (get_or-take c l j 0 t) ∙ p))
