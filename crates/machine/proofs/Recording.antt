-- A record put behind those of a table: the table then holds one event more, and all its other numbers stay as they were.
use Prim.Native.Nat.{ℕ, zero, suc, ◌+◌, ◌*◌, ◌<◌, ◌≤◌}
use mathlib.Core.Path.{◌≡◌, refl, sym, ◌∙◌, subst}
use mathlib.Core.Bool.{Bool, true, false}
use mathlib.Core.List.{List, [], ◌∷◌, ◌++◌}
use native.Mathlib.Nat.{add-zero, zero-add}
use native.Mathlib.Omega.{arith}
use lib.ListN.{length, get_or, set, length-set}
use lib.Seq.{sets, length-sets, get_or-set_same, get_or-set_other}
use lib.Dec.{ltb}
use borrow.Author.Tests.{le-ltb}
use Rattle.terms.specs.Base.{pick}
use Rattle.state.specs.declared.ended.Ended.{Ended}
use Rattle.rules.specs.Event.{numbered, record_by, record_of, number_at, record_put}
use Rattle.rules.specs.declared.event.Event.{Event}
use Rattle.rules.specs.declared.event.Event.TheVariants.{Jump, Launch, Reset, HandOver, Action}
use Rattle.rules.specs.declared.event.Happening.{Happening}
use Rattle.rules.specs.declared.event.Record.{Record}
use Rattle.machine.specs.Recorded.{is_real, Written, HoldsFrom, none, more, Holds}

-- numbers stored one after another: those below, those past them, and themselves
pub sets_below : (vs l : List ℕ) (i p : ℕ) → p < i → get_or (sets l i vs) p 0 ≡ get_or l p 0
sets_below [] l i p h = refl
sets_below (v ∷ vs) l i p h = sets_below vs (set l i v) (suc i) p (omega arith) ∙ get_or-set_other l i p v 0 (λ z. let y : p ≡ i = z in absurd (omega arith))

pub sets_past : (vs l : List ℕ) (i p : ℕ) → i + length vs ≤ p → get_or (sets l i vs) p 0 ≡ get_or l p 0
sets_past [] l i p h = refl
sets_past (v ∷ vs) l i p h =
    sets_past vs (set l i v) (suc i) p (omega arith) ∙ get_or-set_other l i p v 0 (λ z. let y : p ≡ i = z in absurd (omega arith))

pub sets_at : (vs l : List ℕ) (i k : ℕ) → k < length vs → i + length vs ≤ length l → get_or (sets l i vs) (i + k) 0 ≡ get_or vs k 0
sets_at [] l i k h g = absurd (omega arith)
sets_at (v ∷ vs) l i zero h g =
    let z : i + 0 ≡ i = omega arith in
    rw z (sets_below vs (set l i v) (suc i) i (omega arith) ∙ get_or-set_same l i v 0 (omega arith))
sets_at (v ∷ vs) l i (suc k) h g =
    let z : i + suc k ≡ suc i + k = omega arith in
    rw z (sets_at vs (set l i v) (suc i) k (omega arith) (omega (arith, length-set l i v)))

-- a record has twelve numbers
pub twelve : (e : Event) (n : Ended) → length (record_by e n).numbers ≡ 12
unfolding numbered
twelve (Jump d p) n = refl
twelve (Launch d m j) n = refl
twelve (Reset m j) n = refl
twelve (HandOver d j) n = refl
twelve (Action d op) n = refl

module _ (l : List ℕ) (i : ℕ) (r : Record) (t : length r.numbers ≡ 12) where
  pub put_long : length (record_put l i r) ≡ length l
  unfolding record_put
  put_long = by (ltb (length l) (i * 12 + 12))
    where
      by : (b : Bool) → length (pick b l (sets l (i * 12) r.numbers)) ≡ length l
      by true = refl
      by false = length-sets l (i * 12) r.numbers

  -- "Records past those written stay as lent"
  pub put_past : (p : ℕ) → i * 12 + 12 ≤ p → get_or (record_put l i r) p 0 ≡ get_or l p 0
  unfolding record_put
  put_past p h = by (ltb (length l) (i * 12 + 12))
    where
      by : (b : Bool) → get_or (pick b l (sets l (i * 12) r.numbers)) p 0 ≡ get_or l p 0
      by true = refl
      by false = sets_past r.numbers l (i * 12) p (omega (arith, t))

  pub put_below : (p : ℕ) → p < i * 12 → get_or (record_put l i r) p 0 ≡ get_or l p 0
  unfolding record_put
  put_below p h = by (ltb (length l) (i * 12 + 12))
    where
      by : (b : Bool) → get_or (pick b l (sets l (i * 12) r.numbers)) p 0 ≡ get_or l p 0
      by true = refl
      by false = sets_below r.numbers l (i * 12) p h

  pub put_at : i * 12 + 12 ≤ length l → (k : ℕ) → k < 12 → number_at (record_put l i r) i k ≡ get_or r.numbers k 0
  unfolding record_put number_at
  put_at g k h = rw (le-ltb (length l) (i * 12 + 12) g) (sets_at r.numbers l (i * 12) k (omega (arith, t)) (omega (arith, t)))

-- one event more
holds_snoc : {l : List ℕ} {i : ℕ} {hs : List Happening} {h : Happening} → HoldsFrom l i hs → Written l (i + length hs) h → HoldsFrom l i (hs ++ (h ∷ []))
holds_snoc {l} {i} {h = h} none w = more (subst (λ (x : ℕ). Written l x h) (add-zero i) w) none
holds_snoc {l} {h = g} (more {i} {h} {hs} v r) w =
    let e : i + suc (length hs) ≡ i + 1 + length hs = omega arith in
    more v (holds_snoc r (subst (λ (x : ℕ). Written l x g) e w))

pub holds_add : {l : List ℕ} {hs : List Happening} {h : Happening} → Holds l hs → Written l (length hs) h → Holds l (hs ++ (h ∷ []))
holds_add {l} {hs} {h} r w = holds_snoc r (subst (λ (x : ℕ). Written l x h) (sym (zero-add (length hs))) w)

pub holds_front : {l : List ℕ} {i : ℕ} (hs gs : List Happening) → HoldsFrom l i (hs ++ gs) → HoldsFrom l i hs
holds_front [] gs r = none
holds_front {l = l} {i = i} (h ∷ hs) gs (more w r) = more w (holds_front {i = i + 1} hs gs r)

-- tables with the same numbers below record n hold the same events below n
module _ (l m : List ℕ) (n : ℕ) (same : (p : ℕ) → p < n * 12 → get_or m p 0 ≡ get_or l p 0) where
  same_written : {i : ℕ} {h : Happening} → i < n → Written l i h → Written m i h
  unfolding number_at
  same_written {i} {h} g w = record { is = λ k s. same (i * 12 + k) (omega arith) ∙ w.is k s; real = w.real }

  pub same_holds : {i : ℕ} {hs : List Happening} → HoldsFrom l i hs → i + length hs ≤ n → HoldsFrom m i hs
  same_holds none g = none
  same_holds (more w r) g = more (same_written (omega arith) w) (same_holds r (omega arith))

-- the record of h put behind those of hs, over whatever stands there
pub holds_put : {l : List ℕ} {hs : List Happening} (h : Happening) → Holds l hs → is_real h.event ≡ true → length hs * 12 + 12 ≤ length l
    → Holds (record_put l (length hs) (record_of h)) (hs ++ (h ∷ []))
unfolding record_of
holds_put {l} {hs} h r real room =
    let t : length (record_of h).numbers ≡ 12 = twelve h.event h.ended in
    let m : List ℕ = record_put l (length hs) (record_of h) in
    holds_add {h = h} (same_holds l m (length hs) (put_below l (length hs) (record_of h) t) r (omega arith))
    (record { is = put_at l (length hs) (record_of h) t room; real = real })
