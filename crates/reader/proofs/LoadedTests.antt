-- What the rules tell of a line that breaks none of them.
use Prim.Native.Nat.{ℕ, ◌<◌, ◌≤◌}
use mathlib.Core.Path.{◌≡◌, refl}
use mathlib.Core.Bool.{Bool, true, false}
use mathlib.Core.List.{List}
use native.Mathlib.Omega.{arith}
use lib.Dec.{ltb, leb, eqb}
use borrow.Author.Tests.{ltb-true, ltb-false, leb-true, eqb-true, eqb-false}
use Rattle.terms.specs.Base.{pick, Held, held}
use Rattle.reader.specs.Numbers.{up_to255}
use Rattle.reader.specs.Drafts.{lined, unless_refused, follows_group}
use Rattle.reader.specs.declared.draft.Draft.{Draft}
use Rattle.reader.specs.Drafts.{Lined}

-- a rule that is not broken, and the rules after it
pub passes : (b : Bool) (n m : ℕ) → ltb 0 n ≡ true → pick b n m ≡ 0 → (b ≡ false) × (m ≡ 0)
passes true n m h e = absurd (omega (arith, ltb-true 0 n h))
passes false n m h e = (refl, e)

-- a line that is not refused is entered
pub entered : (n : ℕ) (d : Draft) (r : Lined) → (unless_refused n d r).number ≡ 0 → (n ≡ 0) × (unless_refused n d r ≡ r)
entered n d r e = by (eqb n 0) refl e
  where
    by : (t : Bool) → eqb n 0 ≡ t → (pick t r (lined n d)).number ≡ 0 → (n ≡ 0) × (pick t r (lined n d) ≡ r)
    by true q g = (eqb-true n 0 q, refl)
    by false q g = absurd (eqb-false n 0 q g)

-- the group of the last line is one of some
pub follows_in : (g a b : ℕ) → follows_group g a b ≡ true → (a ≤ g) × (g ≤ b)
unfolding follows_group
follows_in g a b e = by (ltb g a) refl e
  where
    by : (t : Bool) → ltb g a ≡ t → pick t false (leb g b) ≡ true → (a ≤ g) × (g ≤ b)
    by true q h = let z : ◌≡◌ {A = ℕ} 0 1 = cc in absurd (omega arith)
    by false q h = (ltb-false g a q, leb-true g b h)

pub up_to_255_le : (v : ℕ) → up_to255 v ≤ v
unfolding up_to255
up_to_255_le v = by (ltb v 255) refl
  where
    by : (t : Bool) → ltb v 255 ≡ t → pick t v 255 ≤ v
    by true e = omega arith
    by false e = ltb-false v 255 e

pub up_to_255_small : (v : ℕ) → up_to255 v < 256
unfolding up_to255
up_to_255_small v = by (ltb v 255) refl
  where
    by : (t : Bool) → ltb v 255 ≡ t → pick t v 255 < 256
    by true e = omega (arith, ltb-true v 255 e)
    by false e = omega arith

-- so too where a table is lent
pub judged : (P : Held Lined → Type 0) (n : ℕ) (d : Draft) (l : List ℕ) (r : Held Lined) → (n ≡ 0 → r.out.number ≡ 0 → P r)
    → (pick (eqb n 0) r (held (lined n d) l)).out.number ≡ 0 → P (pick (eqb n 0) r (held (lined n d) l))
judged P n d l r k e = by (eqb n 0) refl e
  where
    by : (t : Bool) → eqb n 0 ≡ t → (pick t r (held (lined n d) l)).out.number ≡ 0 → P (pick t r (held (lined n d) l))
    by true q g = k (eqb-true n 0 q) g
    by false q g = absurd (eqb-false n 0 q g)
