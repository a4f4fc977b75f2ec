-- The laws that the proofs of the functions share: one turn of the loop over the labels, and a machine's live and listed
-- threads as those that a filter keeps.
use Prim.Native.Nat.{ℕ, zero, suc, ◌+◌, ◌-◌, ◌<◌, ◌≤◌}
use mathlib.Core.Bool.{Bool, true, false, cond}
use mathlib.Core.List.{List, [], ◌∷◌}
use mathlib.Core.Path.{◌≡◌, refl}
use native.Mathlib.Numerals.{sub-one}
use native.Mathlib.Nat.{sub-add-eq, sub-eq-zero_of_le}
use native.Mathlib.Omega.{arith}
use lib.ListN.{length, set}
use lib.Dec.{eqb}
use Rattle.std.specs.List.{filter}
use Rattle.terms.specs.Base.{pick}
use Rattle.terms.specs.Line.{term_at}
use Rattle.model.specs.Records.{thread_in}
use Rattle.state.specs.Reset.{is_on}
use Rattle.state.specs.FrameSound.{one_on, live_on, listed_on}
use Rattle.audit.specs.Tops.{top_of, tops_from}

-- the tops: one label
tops_step : (k i : ℕ) (l ks : List ℕ) → 0 < k
    → tops_from k i l ks ≡ tops_from (k - 1) (i + 1) l (set ks i (top_of ks (term_at l i)))
unfolding tops_from
tops_step zero i l ks h = absurd (omega arith)
tops_step (suc k) i l ks h = rw sub-one

pub tops_more : (n i : ℕ) (l ks : List ℕ) → i < n
    → tops_from (n - i) i l ks ≡ tops_from (n - (i + 1)) (i + 1) l (set ks i (top_of ks (term_at l i)))
tops_more n i l ks h = rw (sub-add-eq, tops_step (n - i) i l ks (omega arith))

pub tops_end : (n i : ℕ) (l ks : List ℕ) → n ≤ i → tops_from (n - i) i l ks ≡ ks
unfolding tops_from
tops_end n i l ks h = rw sub-eq-zero_of_le

-- one number more, kept or not
kept_one : (b : Bool) (n : ℕ) (ns : List ℕ) (count : ℕ) → length ns ≡ count → length (cond b (n ∷ ns) ns) ≡ pick b 1 0 + count
kept_one true n ns count e = omega (arith, e)
kept_one false n ns count e = omega (arith, e)

pub live_filtered : (k : ℕ) (l : List ℕ) → length (filter (λ n. is_on n k) l) ≡ live_on k l
unfolding live_on one_on
live_filtered k [] = refl
live_filtered k (n ∷ ns) = kept_one (is_on n k) n (filter (λ n. is_on n k) ns) (live_on k ns) (live_filtered k ns)

pub listed_filtered : (k : ℕ) (l : List ℕ) → length (filter (λ n. eqb (thread_in n).machine k) l) ≡ listed_on k l
unfolding listed_on
listed_filtered k [] = refl
listed_filtered k (n ∷ ns) =
    kept_one (eqb (thread_in n).machine k) n (filter (λ n. eqb (thread_in n).machine k) ns) (listed_on k ns) (listed_filtered k ns)
