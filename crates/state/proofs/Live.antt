-- Counting live threads: what a store and a reset do to the count, and that twelve slots always have a free one.
use Prim.Native.Nat.{ℕ, zero, suc, ◌+◌, ◌<◌, ◌≤◌}
use mathlib.Core.Bool.{Bool, true, false}
use mathlib.Core.List.{List, [], ◌∷◌}
use mathlib.Core.Path.{◌≡◌, refl, ap, ◌∙◌}
use native.Mathlib.Omega.{arith}
use lib.ListN.{length, get_or, set, take, length-take}
use lib.Dec.{eqb}
use borrow.Author.Tests.{eq-eqb, ne_eqb}
use Rattle.terms.specs.Base.{pick}
use Rattle.model.specs.Records.{thread_in}
use Rattle.model.specs.declared.records.Model.{Model}
use Rattle.state.specs.Slot.{slot_in, lowest_in, lowest_free}
use Rattle.state.specs.Reset.{is_on, slot_reset, slots_reset}
use Rattle.state.specs.FrameSound.{one_on, live_on, listed_on, most_among, most_on, Grounds}

-- one number: free, or live on a machine
pub on_none : (k n : ℕ) → (slot_in n).live ≡ false → one_on k n ≡ 0
unfolding one_on is_on
on_none k n e = rw e

pub on_live : (k n : ℕ) → (slot_in n).live ≡ true → one_on k n ≡ pick (eqb (slot_in n).machine k) 1 0
unfolding one_on is_on
on_live k n e = rw e

pub zero_free : (slot_in 0).live ≡ false
unfolding slot_in
zero_free = refl

on_one : (k n : ℕ) → (slot_in n).live ≡ true → (slot_in n).machine ≡ k → one_on k n ≡ 1
on_one k n e h = on_live k n e ∙ rw (eq-eqb _ _ h)

abbrev one_if : Bool → ℕ
one_if b = pick b 1 0

-- a thread in the place of one on the same machine, or nothing in its place
by_live : (b : Bool) (k n o : ℕ) → (slot_in n).live ≡ b → (slot_in o).live ≡ true → ((slot_in n).live ≡ true → (slot_in n).machine ≡ (slot_in o).machine) → one_on k n ≤ one_on k o
by_live true k n o e h f = omega (arith, on_live k n e, on_live k o h, ap (λ (x : ℕ). one_if (eqb x k)) (f e))
by_live false k n o e h f = omega (arith, on_none k n e)

pub on_same : (k n o : ℕ) → (slot_in o).live ≡ true → ((slot_in n).live ≡ true → (slot_in n).machine ≡ (slot_in o).machine) → one_on k n ≤ one_on k o
on_same k n o h f = by_live (slot_in n).live k n o refl h f

-- a store
pub live_set : (k : ℕ) (l : List ℕ) (i n : ℕ) → i < length l → live_on k (set l i n) + one_on k (get_or l i 0) ≡ live_on k l + one_on k n
unfolding live_on
live_set k [] i n h = absurd (omega arith)
live_set k (x ∷ xs) zero n h = omega arith
live_set k (x ∷ xs) (suc i) n h = omega (arith, live_set k xs i n (omega arith))

-- a reset leaves no thread on its machine, and adds none elsewhere
ends_by : (b : Bool) (m n : ℕ) → is_on n m ≡ b → one_on m (pick b 0 n) ≡ 0
unfolding one_on
ends_by true m n e = on_none m 0 zero_free
ends_by false m n e = rw e

keeps_by : (b : Bool) (k n : ℕ) → one_on k (pick b 0 n) ≤ one_on k n
keeps_by true k n = omega (arith, on_none k 0 zero_free)
keeps_by false k n = omega arith

pub live_ended : (m : ℕ) (l : List ℕ) → live_on m (slots_reset l m) ≡ 0
unfolding live_on slots_reset slot_reset
live_ended m [] = refl
live_ended m (n ∷ ns) = omega (arith, ends_by (is_on n m) m n refl, live_ended m ns)

pub live_kept : (k m : ℕ) (l : List ℕ) → live_on k (slots_reset l m) ≤ live_on k l
unfolding live_on slots_reset slot_reset
live_kept k m [] = omega arith
live_kept k m (n ∷ ns) = omega (arith, keeps_by (is_on n m) k n, live_kept k m ns)

-- all live threads, machine by machine
live_in : List ℕ → ℕ
live_in [] = 0
live_in (n ∷ ns) = pick (slot_in n).live 1 0 + live_in ns

four : ℕ → ℕ
four n = one_on 0 n + one_on 1 n + one_on 2 n + one_on 3 n

split : (n x : ℕ) → (slot_in n).live ≡ true → (slot_in n).machine ≡ x → x < 4 → 1 ≤ four n
unfolding four
split n zero e h p = omega (arith, on_one 0 n e h)
split n (suc zero) e h p = omega (arith, on_one 1 n e h)
split n (suc (suc zero)) e h p = omega (arith, on_one 2 n e h)
split n (suc (suc (suc zero))) e h p = omega (arith, on_one 3 n e h)
split n (suc (suc (suc (suc x)))) e h p = absurd (omega arith)

one_of_four : (b : Bool) (n : ℕ) → (slot_in n).live ≡ b → ((slot_in n).live ≡ true → (slot_in n).machine < 4) → pick b 1 0 ≤ four n
one_of_four true n e f = split n (slot_in n).machine e refl (f e)
one_of_four false n e f = omega arith

abbrev pub Placed : List ℕ → Type 0
Placed l = (i : ℕ) → (slot_in (get_or l i 0)).live ≡ true → (slot_in (get_or l i 0)).machine < 4

all_four : (l : List ℕ) → Placed l → live_in l ≤ live_on 0 l + live_on 1 l + live_on 2 l + live_on 3 l
unfolding live_in live_on four
all_four [] f = omega arith
all_four (n ∷ ns) f = omega (arith, one_of_four (slot_in n).live n refl (f 0), all_four ns (λ i. f (suc i)))

-- the lowest free slot is there, and free
lowest_by : (b : Bool) (i n : ℕ) (ns : List ℕ) → pick b 1 0 + live_in ns < suc (length ns) → (live_in ns < length ns → lowest_in (i + 1) ns < i + 1 + length ns)
    → pick b (lowest_in (i + 1) ns) i < i + suc (length ns)
lowest_by true i n ns h f = omega (arith, f (omega arith))
lowest_by false i n ns h f = omega arith

lowest_below : (i : ℕ) (l : List ℕ) → live_in l < length l → lowest_in i l < i + length l
unfolding live_in lowest_in
lowest_below i [] h = absurd (omega arith)
lowest_below i (n ∷ ns) h = lowest_by (slot_in n).live i n ns h (lowest_below (i + 1) ns)

from_by : (b : Bool) (i r : ℕ) → i + 1 ≤ r → i ≤ pick b r i
from_by true i r h = omega arith
from_by false i r h = omega arith

lowest_from : (i : ℕ) (l : List ℕ) → i ≤ lowest_in i l
unfolding lowest_in
lowest_from i [] = omega arith
lowest_from i (n ∷ ns) = from_by (slot_in n).live i (lowest_in (i + 1) ns) (lowest_from (i + 1) ns)

free_by : (b : Bool) (i k n : ℕ) (ns : List ℕ) → (slot_in n).live ≡ b → pick b (lowest_in (i + 1) ns) i ≡ i + k
    → ((j : ℕ) → lowest_in (i + 1) ns ≡ i + 1 + j → (slot_in (get_or ns j 0)).live ≡ false) → (slot_in (get_or (n ∷ ns) k 0)).live ≡ false
free_by true i zero n ns e h f = absurd (omega (arith, lowest_from (i + 1) ns))
free_by true i (suc k) n ns e h f = f k (omega arith)
free_by false i zero n ns e h f = e
free_by false i (suc k) n ns e h f = absurd (omega arith)

lowest_free_lem : (i k : ℕ) (l : List ℕ) → lowest_in i l ≡ i + k → (slot_in (get_or l k 0)).live ≡ false
unfolding lowest_in
lowest_free_lem i k [] h = zero_free
lowest_free_lem i k (n ∷ ns) h = free_by (slot_in n).live i k n ns refl h (λ j. lowest_free_lem (i + 1) j ns)

pub free_there : (l : List ℕ) → (slot_in (get_or l (lowest_free l) 0)).live ≡ false
unfolding lowest_free
free_there l = lowest_free_lem 0 (lowest_in 0 l) l (omega arith)

-- eight listed threads on four machines: eleven live ones at most
listed_by : (x k : ℕ) → ℕ
listed_by x k = pick (eqb x k) 1 0

listed_one : (x : ℕ) → listed_by x 0 + listed_by x 1 + listed_by x 2 + listed_by x 3 ≤ 1
unfolding listed_by
listed_one zero = omega arith
listed_one (suc zero) = omega arith
listed_one (suc (suc zero)) = omega arith
listed_one (suc (suc (suc zero))) = omega arith
listed_one (suc (suc (suc (suc x)))) =
    rw (ne_eqb (suc (suc (suc (suc x)))) 0 (λ e. omega arith), ne_eqb (suc (suc (suc (suc x)))) 1 (λ e. omega arith), ne_eqb (suc (suc (suc (suc x)))) 2 (λ e. omega arith), ne_eqb (suc (suc (suc (suc x)))) 3 (λ e. omega arith)) (omega arith)

listed_four : (l : List ℕ) → listed_on 0 l + listed_on 1 l + listed_on 2 l + listed_on 3 l ≤ length l
unfolding listed_on listed_by
listed_four [] = omega arith
listed_four (n ∷ ns) = omega (arith, listed_one (thread_in n).machine, listed_four ns)

pub most_eleven : (m : Model) → Grounds m → most_on m 0 + most_on m 1 + most_on m 2 + most_on m 3 ≤ 11
unfolding most_among
most_eleven m g =
    let l : List ℕ = take m.thread_count m.threads in
    omega (arith, listed_four l, length-take m.thread_count m.threads)

pub room : (most : ℕ → ℕ) (l : List ℕ) → length l ≡ 12 → Placed l → ((k : ℕ) → k < 4 → live_on k l ≤ most k) → most 0 + most 1 + most 2 + most 3 ≤ 11 → lowest_free l < 12
unfolding lowest_free
room most l h p f e =
    omega (arith, lowest_below 0 l (omega (arith, all_four l p, f 0 (omega arith), f 1 (omega arith), f 2 (omega arith), f 3 (omega arith))))
