-- What lent room holds after a listing: row i is the i-th schedule found, its length and its 24 codes, and past the rows written
-- the room is as it was lent.
use Prim.Native.Nat.{ℕ, zero, suc, ◌+◌, ◌-◌, ◌*◌, ◌<◌, ◌≤◌}
use mathlib.Core.Bool.{Bool, true, false}
use mathlib.Core.List.{List, [], ◌∷◌}
use mathlib.Core.Path.{◌≡◌, refl, ap, ◌∙◌}
use native.Mathlib.Omega.{arith}
use lib.ListN.{length, get_or, replicate, length-append, length-replicate}
use lib.Seq.{sets, length-sets}
use lib.Dec.{ltb}
use borrow.Author.Tests.{le-ltb}
use Rattle.terms.specs.Base.{pick}
use Rattle.machine.proofs.Recording.{sets_below, sets_past, sets_at}
use Rattle.search.specs.Shown.{padded, word_put, words_put}

-- a schedule of at most 24 codes takes 25 places
abbrev pub row_of : List ℕ → List ℕ
row_of w = length w ∷ padded w

pub padded_long : (w : List ℕ) → length w ≤ 24 → length (padded w) ≡ 24
unfolding padded
padded_long w h = length-append w (replicate (24 - length w) 0) ∙ rw (length-replicate {A = ℕ} (24 - length w) 0) (omega arith)

row_long : (w : List ℕ) → length w ≤ 24 → length (row_of w) ≡ 25
row_long w h = ap suc (padded_long w h)

-- one row
pub put_long : (l : List ℕ) (i : ℕ) (w : List ℕ) → length (word_put l i w) ≡ length l
unfolding word_put
put_long l i w = go (ltb (length l) (i * 25 + 25))
  where
    go : (b : Bool) → length (pick b l (sets l (i * 25) (row_of w))) ≡ length l
    go true = refl
    go false = length-sets l (i * 25) (row_of w)

-- a row that is put changes what its numbers change, one for which there is no room nothing
put_keeps : (l : List ℕ) (i : ℕ) (w : List ℕ) (p : ℕ) → get_or (sets l (i * 25) (row_of w)) p 0 ≡ get_or l p 0 → get_or (word_put l i w) p 0 ≡ get_or l p 0
unfolding word_put
put_keeps l i w p h = go (ltb (length l) (i * 25 + 25))
  where
    go : (b : Bool) → get_or (pick b l (sets l (i * 25) (row_of w))) p 0 ≡ get_or l p 0
    go true = refl
    go false = h

put_below : (l : List ℕ) (i : ℕ) (w : List ℕ) (p : ℕ) → p < i * 25 → get_or (word_put l i w) p 0 ≡ get_or l p 0
put_below l i w p h = put_keeps l i w p (sets_below (row_of w) l (i * 25) p h)

put_past : (l : List ℕ) (i : ℕ) (w : List ℕ) (p : ℕ) → length w ≤ 24 → i * 25 + 25 ≤ p → get_or (word_put l i w) p 0 ≡ get_or l p 0
put_past l i w p s h = put_keeps l i w p (sets_past (row_of w) l (i * 25) p (omega (arith, row_long w s)))

pub put_at : (l : List ℕ) (i : ℕ) (w : List ℕ) (c : ℕ) → length w ≤ 24 → i * 25 + 25 ≤ length l → c < 25
    → get_or (word_put l i w) (i * 25 + c) 0 ≡ get_or (row_of w) c 0
unfolding word_put
put_at l i w c s h g =
    rw (le-ltb (length l) (i * 25 + 25) h) (sets_at (row_of w) l (i * 25) c (omega (arith, row_long w s)) (omega (arith, row_long w s)))

-- all rows: from row j on
pub rows_below : (ws : List (List ℕ)) (l : List ℕ) (j p : ℕ) → p < j * 25 → get_or (words_put l j ws) p 0 ≡ get_or l p 0
unfolding words_put
rows_below [] l j p h = refl
rows_below (w ∷ ws) l j p h = rows_below ws (word_put l j w) (j + 1) p (omega arith) ∙ put_below l j w p h

-- bytes of the room past the schedules written stay as lent
pub rows_past : (ws : List (List ℕ)) (l : List ℕ) (j p : ℕ) → ((i : ℕ) → i < length ws → length (get_or ws i []) ≤ 24) → (j + length ws) * 25 ≤ p →
    get_or (words_put l j ws) p 0 ≡ get_or l p 0
unfolding words_put
rows_past [] l j p s h = refl
rows_past (w ∷ ws) l j p s h =
    rows_past ws (word_put l j w) (j + 1) p (λ i g. s (suc i) (omega arith)) (omega arith) ∙ put_past l j w p (s 0 (omega arith)) (omega arith)

pub rows_at : (ws : List (List ℕ)) (l : List ℕ) (j i c : ℕ) → ((k : ℕ) → k < length ws → length (get_or ws k []) ≤ 24) → i < length ws →
    (j + i) * 25 + 25 ≤ length l → c < 25 →
    get_or (words_put l j ws) ((j + i) * 25 + c) 0 ≡ get_or (row_of (get_or ws i [])) c 0
unfolding words_put
rows_at [] l j i c s h r g = absurd (omega arith)
rows_at (w ∷ ws) l j zero c s h r g =
    let e : (j + 0) * 25 ≡ j * 25 = omega arith in
    rw e (rows_below ws (word_put l j w) (j + 1) (j * 25 + c) (omega arith) ∙ put_at l j w c (s 0 (omega arith)) (omega arith) g)
rows_at (w ∷ ws) l j (suc i) c s h r g =
    let e : j + suc i ≡ j + 1 + i = omega arith in
    rw e (rows_at ws (word_put l j w) (j + 1) i c (λ k f. s (suc k) (omega arith)) (omega arith) (omega (arith, put_long l j w)) g)
