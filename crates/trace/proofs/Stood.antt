-- The table of structs stands record for record: one turn of its loop, and what is read at a place.
use Prim.Native.Nat.{ℕ, zero, suc, ◌+◌, ◌-◌, ◌<◌, ◌≤◌}
use mathlib.Core.List.{List, [], ◌∷◌, ◌++◌, append-nil, append_assoc}
use mathlib.Core.Path.{◌≡◌, refl, sym, ◌∙◌, ap}
use native.Mathlib.Numerals.{add-one, sub-one}
use native.Mathlib.Nat.{sub-add-eq, sub-eq-zero_of_le}
use native.Mathlib.Omega.{arith}
use lib.ListN.{length, get_or, take, set}
use lib.Seq.{take_all, take-suc-set}
use Rattle.trace.specs.Event.{no_event, event_at}
use Rattle.trace.specs.Table.{events_from, standing}
use Rattle.trace.specs.declared.event.Event.{Event}

-- one more element stands
put_next : (es : List Event) (i : ℕ) (e : Event) (ys : List Event) → i < length es → take (i + 1) (set es i e) ++ ys ≡ take i es ++ (e ∷ ys)
put_next es i e ys h = rw (add-one, take-suc-set es i e h) (append_assoc (take i es) (e ∷ []) ys)

events_step : (n i : ℕ) (l : List ℕ) → 0 < n → events_from n i l ≡ event_at l i ∷ events_from (n - 1) (i + 1) l
unfolding events_from
events_step zero i l h = absurd (omega arith)
events_step (suc n) i l h = rw sub-one

-- the loop: those that stand, and those that are still to come
pub stood_start : (l : List ℕ) (es : List Event) → standing l ≡ take 0 es ++ events_from (4096 - 0) 0 l
unfolding standing
stood_start l es = refl

pub stood_more : (n i : ℕ) (l : List ℕ) (es : List Event) → i < n → i < length es
    → take i es ++ events_from (n - i) i l ≡ take (i + 1) (set es i (event_at l i)) ++ events_from (n - (i + 1)) (i + 1) l
stood_more n i l es h g = rw (events_step (n - i) i l (omega arith), sub-add-eq) (sym (put_next es i (event_at l i) (events_from (n - i - 1) (i + 1) l) g))

pub stood_end : (n i : ℕ) (l : List ℕ) (es : List Event) → n ≤ i → length es ≤ i → take i es ++ events_from (n - i) i l ≡ es
unfolding events_from
stood_end n i l es h g = rw (sub-eq-zero_of_le, take_all i es g) (append-nil es)

-- what stands at a place
at_from : (n i : ℕ) (l : List ℕ) (k : ℕ) → k < n → get_or (events_from n i l) k no_event ≡ event_at l (i + k)
unfolding events_from
at_from zero i l k h = absurd (omega arith)
at_from (suc n) i l zero h = ap (event_at l) (omega arith)
at_from (suc n) i l (suc k) h = at_from n (i + 1) l k (omega arith) ∙ ap (event_at l) (omega arith)

pub stands_at_lem : (l : List ℕ) (k : ℕ) → k < 4096 → get_or (standing l) k no_event ≡ event_at l k
unfolding standing
stands_at_lem l k h = at_from 4096 0 l k h ∙ ap (event_at l) (omega arith)
