-- Where no live thread stands before the last action of the claim's program, no step has an accept of that program, so none breaks
-- the claim.
use Prim.Native.Nat.{ℕ, ◌+◌, ◌≤◌}
use mathlib.Core.Path.{◌≡◌, refl, sym, ◌∙◌}
use mathlib.Core.Bool.{Bool, true, false, not}
use mathlib.Core.List.{List}
use native.Mathlib.Omega.{arith}
use lib.ListN.{get_or}
use lib.Dec.{eqb, ltb}
use borrow.Author.Tests.{ltb-false}
use Rattle.terms.specs.Base.{pick}
use Rattle.terms.proofs.Check.{unless_pass}
use Rattle.model.specs.declared.records.Claim.{Claim}
use Rattle.model.specs.declared.records.Model.{Model}
use Rattle.state.specs.Slot.{slot_in, slot_at}
use Rattle.state.specs.Early.{next_action, Sight, sight_of, refusal_of}
use Rattle.state.specs.Moves.{is_last}
use Rattle.state.specs.Ended.{ended_one, ended_both}
use Rattle.state.specs.Code.{way_of}
use Rattle.state.specs.declared.slot.Slot.{Slot}
use Rattle.state.specs.declared.code.Way.{Way}
use Rattle.state.specs.declared.code.Way.TheVariants as W
use Rattle.state.specs.declared.control.Frame.{Frame}
use Rattle.state.specs.declared.ended.Ended.{Ended}
use Rattle.state.specs.declared.ended.Ended.TheVariants.{Nobody, One, Two}
use Rattle.state.proofs.Turned.{let_advance, let_hand}
use Rattle.state.proofs.Frame.{live_place, slot_there}
use Rattle.rules.specs.Event.{happening}
use Rattle.rules.specs.Happened.{alone_of, advance_event, hand_event, happened_by, happened_on}
use Rattle.rules.specs.declared.event.Event.{Event}
use Rattle.rules.specs.declared.event.Happening.{Happening}
use Rattle.rules.specs.declared.work.Labels.{Labels}
use Rattle.machine.specs.Claim.{ended_in, accepts_of, breaks_claim}
use Rattle.quiet.specs.Quiet.{stands_in, nobody_stands, calm, outline_of}
use Rattle.quiet.proofs.Fitting.{none_at}

-- the two halves of the test
pub record Calm (m : Model) (slots : List ℕ) (count : ℕ) : Type 0 where
  pub room : count + m.count ≤ 511
  pub nobody : nobody_stands slots m.lengths m.claim.program ≡ true

pub is_calm : (m : Model) (slots : List ℕ) (count : ℕ) → calm slots m.lengths count (outline_of m) ≡ true → Calm m slots count
unfolding calm outline_of
is_calm m slots count e =
    let c = unless_pass (ltb 511 (count + m.count)) (nobody_stands slots m.lengths m.claim.program) e in
    record { room = ltb-false 511 (count + m.count) c.0; nobody = c.1 }

-- a thread of program v does not stand before its last action
abbrev Apart : List ℕ → ℕ → Slot → Type 0
Apart lengths v q = eqb q.program v ≡ true → is_last lengths q ≡ false

apart_by : (p q r : Bool) → pick (not p) false (pick (not q) false r) ≡ false → p ≡ true → q ≡ true → r ≡ false
apart_by true true r e f g = e
apart_by true false r e f g = let z : ◌≡◌ {A = ℕ} 0 1 = cc in absurd (omega arith)
apart_by false q r e f g = let z : ◌≡◌ {A = ℕ} 0 1 = cc in absurd (omega arith)

stands_apart : (lengths : List ℕ) (v n : ℕ) → stands_in lengths v n ≡ false → (slot_in n).live ≡ true → Apart lengths v (slot_in n)
unfolding stands_in
stands_apart lengths v n e live same = apart_by (slot_in n).live (eqb (slot_in n).program v) (is_last lengths (slot_in n)) e live same

live_apart : (slots lengths : List ℕ) (v : ℕ) → nobody_stands slots lengths v ≡ true → (i : ℕ) → (slot_at slots i).live ≡ true → Apart lengths v (slot_at slots i)
unfolding nobody_stands
live_apart slots lengths v e i live =
    let low = live_place slots i live in
    let s : slot_at slots i ≡ slot_in (get_or slots i 0) = slot_there slots i low in
    let live2 : (slot_in (get_or slots i 0)).live ≡ true = rw s at live in
    rw s (stands_apart lengths v (get_or slots i 0) (none_at 12 (λ j. stands_in lengths v (get_or slots j 0)) e i low) live2)

-- so its ending is no accept of v
false_by : (a b : Bool) → (a ≡ true → b ≡ false) → b ≡ true → a ≡ false
false_by true b f e = sym e ∙ f refl
false_by false b f e = refl

ended_one_lem : (lengths : List ℕ) (v : ℕ) (q : Slot) → Apart lengths v q → ended_in v (ended_one lengths q) ≡ false
unfolding ended_one
ended_one_lem lengths v q f = go (is_last lengths q) refl
  where
    go : (b : Bool) → is_last lengths q ≡ b → ended_in v (pick b (One q.program) Nobody) ≡ false
    go true e = false_by (eqb q.program v) (is_last lengths q) f e
    go false e = refl

ended_both_lem : (lengths : List ℕ) (v : ℕ) (q r : Slot) → Apart lengths v q → Apart lengths v r → ended_in v (ended_both lengths q r) ≡ false
unfolding ended_both
ended_both_lem lengths v q r f g = go (is_last lengths q) (is_last lengths r) refl refl
  where
    go : (a b : Bool) → is_last lengths q ≡ a → is_last lengths r ≡ b
        → ended_in v (pick a (pick b (Two q.program r.program) (One q.program)) (ended_one lengths r)) ≡ false
    go true true d e =
        let h = false_by (eqb q.program v) (is_last lengths q) f d in
        let k = false_by (eqb r.program v) (is_last lengths r) g e in
        rw (h, k)
    go true false d e = false_by (eqb q.program v) (is_last lengths q) f d
    go false b d e = ended_one_lem lengths v r g

-- jumps and launches end nobody
shown_by : (v : ℕ) (a b : Bool) (g h k : Event) (e : Ended) → ended_in v e ≡ false
    → ended_in v (pick a (alone_of g) (pick b (alone_of h) (happening k e))).ended ≡ false
shown_by v true b g h k e z = refl
shown_by v false true g h k e z = refl
shown_by v false false g h k e z = z

-- The event of a step that refusals 1 to 7 let through
module _ (f : Frame) (actions lengths locations : List ℕ) (machines v : ℕ) (nobody : nobody_stands f.slots lengths v ≡ true) (l : Labels) where
  abbrev seen : Sight
  seen = sight_of f actions locations machines

  apart : (i : ℕ) → (slot_at f.slots i).live ≡ true → Apart lengths v (slot_at f.slots i)
  apart i live = live_apart f.slots lengths v nobody i live

  advance_accepts : (i : ℕ) → (slot_at f.slots i).live ≡ true → accepts_of v (advance_event f actions lengths i l) ≡ false
  unfolding advance_event accepts_of
  advance_accepts i live =
      shown_by v (eqb (next_action actions (slot_at f.slots i)).op 19) (eqb (next_action actions (slot_at f.slots i)).op 20) _ _ _ _
      (ended_one_lem lengths v (slot_at f.slots i) (apart i live))

  hand_accepts : (i j : ℕ) → (slot_at f.slots i).live ≡ true → (slot_at f.slots j).live ≡ true → accepts_of v (hand_event f actions lengths i j l) ≡ false
  unfolding hand_event accepts_of
  hand_accepts i j p q = ended_both_lem lengths v (slot_at f.slots i) (slot_at f.slots j) (apart i p) (apart j q)

  way_accepts : (w : Way) → refusal_of seen w ≡ 0 → accepts_of v (happened_by w f actions lengths l) ≡ false
  unfolding accepts_of
  way_accepts W.Nothing z = refl
  way_accepts (W.Advance i) z = advance_accepts i (let_advance seen i z).live
  way_accepts (W.Hand i j) z = hand_accepts i j (let_hand seen i j z).sender (let_hand seen i j z).receiver
  way_accepts (W.Reset k) z = refl

  pub none_accepts : (code : ℕ) → refusal_of seen (way_of code) ≡ 0 → accepts_of v (happened_on f actions lengths code l) ≡ false
  unfolding happened_on
  none_accepts code z = way_accepts (way_of code) z

-- an event without an accept of its program does not break a claim
pub not_broken : (c : Claim) (hs : List Happening) (h : Happening) → accepts_of c.program h ≡ false → breaks_claim c hs h ≡ false
unfolding breaks_claim
not_broken c hs h e = rw e
