-- What is known of a list that is made place by place.
use Prim.Native.Nat.{ℕ, zero, suc, ◌+◌, ◌<◌}
use mathlib.Core.Path.{◌≡◌, refl, ap, ◌∙◌}
use native.Mathlib.Omega.{arith}
use mathlib.Core.Bool.{Bool, true, false}
use mathlib.Core.List.{List}
use lib.Dec.{ltb}
use lib.ListN.{length, get_or, set}
use lib.Seq.{set_out}
use borrow.Author.Tests.{ltb-false}
use Rattle.terms.specs.Base.{pick}
use Rattle.state.specs.Control.{up_from}

module _ {A : Type 0} (f : ℕ → A) where
  -- the element at a place
  pub up_at : (n i k : ℕ) (d : A) → k < n → get_or (up_from f n i) k d ≡ f (i + k)
  unfolding up_from
  up_at zero i k d h = absurd (omega arith)
  up_at (suc n) i zero d h = ap f (omega arith)
  up_at (suc n) i (suc k) d h = up_at n (i + 1) k d (omega arith) ∙ ap f (omega arith)

  pub up_long : (n i : ℕ) → length (up_from f n i) ≡ n
  unfolding up_from
  up_long zero i = refl
  up_long (suc n) i = ap suc (up_long n (i + 1))

-- what is put at a place is put where there is such a place
put_by : {A : Type 0} (l : List A) (i : ℕ) (v : A) (b : Bool) → ltb i (length l) ≡ b → set l i v ≡ pick b (set l i v) l
put_by l i v true e = refl
put_by l i v false e = set_out l i v (ltb-false i (length l) e)

pub put_at : {A : Type 0} (l : List A) (n i : ℕ) (v : A) → length l ≡ n → set l i v ≡ pick (ltb i n) (set l i v) l
put_at l n i v e = rw (← e) (put_by l i v (ltb i (length l)) refl)
