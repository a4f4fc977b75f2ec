-- Schedules in lent room: a place that is 0 past its schedule is the schedule padded, and what is put in the room is the schedule
-- tried.
use Prim.Native.Nat.{ℕ, suc, ◌+◌, ◌-◌, ◌*◌, ◌/◌, ◌<◌, ◌≤◌}
use mathlib.Core.Bool.{Bool, true, false}
use mathlib.Core.List.{List, [], ◌∷◌, ◌++◌}
use mathlib.Core.Path.{◌≡◌, refl, sym, ap, ◌∙◌}
use native.Mathlib.Omega.{arith}
use lib.ListN.{length, set, take, drop, replicate, length-set, length-append, length-drop, length-replicate, get_or-replicate, take-append-drop}
use lib.Seq.{sets, length-take-le, length-sets, ext_get_or, get_or-drop, take-suc-set}
use lib.Dec.{ltb}
use Rattle.terms.specs.Base.{pick}
use Rattle.walk.specs.Array.{word_of}
use Rattle.walk.proofs.Loop.{ZeroPast, push_zero}
use Rattle.search.specs.Place.{place}
use Rattle.search.specs.Answer.{room_for, schedule_put}
use Rattle.search.specs.Shown.{padded, word_put, words_put}
use Rattle.search.proofs.JoinPlace.{spot}

tail_zero : (cs : List ℕ) (j : ℕ) → length cs ≡ 24 → j ≤ 24 → ZeroPast cs j → drop j cs ≡ replicate (24 - j) 0
tail_zero cs j h l z =
    let e : length (drop j cs) ≡ 24 - j = length-drop j cs ∙ omega arith in
    let f : length (replicate {A = ℕ} (24 - j) 0) ≡ 24 - j = length-replicate {A = ℕ} (24 - j) 0 in
    ext_get_or 0 (drop j cs) (replicate (24 - j) 0) (e ∙ sym f)
    (λ i s. get_or-drop j cs i 0 ∙ z (j + i) (omega arith) ∙ sym (get_or-replicate {A = ℕ} (24 - j) i 0 0 (omega arith)))

-- the codes of a place that is 0 past its schedule
pub clean_padded : (cs : List ℕ) (j : ℕ) → length cs ≡ 24 → j ≤ 24 → ZeroPast cs j → cs ≡ padded (take j cs)
unfolding padded
clean_padded cs j h l z =
    let e : length (take j cs) ≡ j = length-take-le j cs (omega arith) in
    sym (take-append-drop j cs) ∙ ap (λ (r : List ℕ). take j cs ++ r) (tail_zero cs j h l z ∙ ap (λ (n : ℕ). replicate (24 - n) 0) (sym e))

-- and of one code more
pub row_is : (cs : List ℕ) (j k : ℕ) → length cs ≡ 24 → j < 24 → ZeroPast cs j → set cs j k ≡ padded (word_of (spot cs j k))
unfolding word_of
row_is cs j k h l z =
    clean_padded (set cs j k) (suc j) (length-set cs j k ∙ h) (omega arith) (push_zero cs j k z) ∙ ap padded (take-suc-set cs j k (omega arith))

pub word_long : (cs : List ℕ) (j k : ℕ) → length cs ≡ 24 → j < 24 → length (word_of (spot cs j k)) ≡ suc j
unfolding word_of
word_long cs j k h l = length-append (take j cs) (k ∷ []) ∙ rw (length-take-le j cs (omega arith)) (omega arith)

pub put_is : (room : List ℕ) (i : ℕ) (cs : List ℕ) (j k : ℕ) → length cs ≡ 24 → j < 24 → ZeroPast cs j →
    schedule_put room i (place (set cs j k) (suc j) 0) ≡ word_put room i (word_of (spot cs j k))
unfolding schedule_put word_put
put_is room i cs j k h l z = rw (row_is cs j k h l z, word_long cs j k h l)

-- the room keeps its length
put_by : (b : Bool) (room : List ℕ) (i : ℕ) (vs : List ℕ) → length (pick b room (sets room i vs)) ≡ length room
put_by true room i vs = refl
put_by false room i vs = length-sets room i vs

pub room_kept : (room : List ℕ) (i : ℕ) (w : List ℕ) → room_for (word_put room i w) ≡ room_for room
unfolding room_for word_put
room_kept room i w = ap (λ (n : ℕ). n / 25) (put_by (ltb (length room) (i * 25 + 25)) room (i * 25) (length w ∷ padded w))

-- one schedule, and then others
pub words_one : (room : List ℕ) (i : ℕ) (w : List ℕ) (ws : List (List ℕ)) → words_put room i (w ∷ ws) ≡ words_put (word_put room i w) (i + 1) ws
unfolding words_put
words_one room i w ws = refl

pub words_none : (room : List ℕ) (i : ℕ) → words_put room i [] ≡ room
unfolding words_put
words_none room i = refl
