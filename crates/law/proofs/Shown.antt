-- Events, frames and programs of jumps: what of a step crosses from labels to terms beside values and variables.
use Prim.Native.Nat.{ℕ, ◌+◌, ◌%◌, ◌<◌, ◌≤◌}
use mathlib.Core.Path.{◌≡◌, refl, sym, ap, ◌∙◌, subst}
use mathlib.Core.Bool.{Bool, true, false}
use mathlib.Core.List.{List}
use native.Mathlib.Omega.{arith}
use lib.ListN.{length}
use lib.Dec.{eqb, ltb}
use borrow.Author.Tests.{eqb-true, ltb-true}
use Rattle.terms.specs.Base.{pick}
use Rattle.terms.specs.Term.{shape_of}
use Rattle.terms.specs.Line.{term_at}
use Rattle.terms.specs.Sound.{Sound}
use Rattle.terms.specs.Tree.{Tree, leaf}
use Rattle.terms.specs.Meaning.{Den}
use Rattle.terms.specs.declared.term.Shape.TheVariants.{Number}
use Rattle.model.specs.declared.records.Model.{Model}
use Rattle.state.specs.Slot.{slot_at}
use Rattle.state.specs.Code.{way_of}
use Rattle.state.specs.Control.{one_more}
use Rattle.state.specs.Early.{next_action}
use Rattle.state.specs.Moves.{nonce_after, frame_moved}
use Rattle.state.specs.Launch.{frame_launched}
use Rattle.state.specs.Reset.{frame_reset}
use Rattle.state.specs.Hand.{frame_handed}
use Rattle.state.specs.declared.code.Way.{Way}
use Rattle.state.specs.declared.code.Way.TheVariants as W
use Rattle.state.specs.declared.control.Frame.{Frame}
use Rattle.rules.specs.Work.{labels, code_at}
use Rattle.rules.specs.Happened.{advance_event, hand_event, happened_by, happened_on}
use Rattle.rules.specs.Made.{Layout, Config, jumped_on, acted_on, launched_on, reset_on, handed_on, advanced_on, made_by, made_on}
use Rattle.rules.specs.declared.event.Happening.{Happening}
use Rattle.rules.specs.declared.work.Labels.{Labels}
use Rattle.law.specs.Act.{num_of, program_of}
use Rattle.law.specs.Meant.{deed_in, bare}
use Rattle.law.specs.Like.{Leaves, Named}
use Rattle.law.proofs.Denote.{den_kind, den_number, den_leaf}
use Rattle.law.proofs.Leaves.{leaf_of}

-- The program of a jump

module _ (m : Model) (few : m.programs ≤ 32) {l : List ℕ} {c : ℕ} (sound : Sound l c) (long : length l ≡ 512) where
  code_number : {i : ℕ} {x : Tree} → Den l c i x → Leaves (Named m) x → eqb (term_at l i).kind 8 ≡ true → (term_at l i).a % 256 ≡ num_of x
  unfolding shape_of
  code_number {i} {x} d p t =
      let k : (term_at l i).kind ≡ 8 = eqb-true (term_at l i).kind 8 t in
      let s : shape_of (term_at l i).kind ≡ Number = ap shape_of k in
      let q : Leaves (Named m) (leaf (term_at l i).kind (term_at l i).a) = subst (Leaves (Named m)) (den_leaf sound long d s) p in
      let r : (term_at l i).a < m.programs = leaf_of q k in
      let e : (term_at l i).a ≡ num_of x = den_number sound long d s in
      let h : (term_at l i).a % 256 ≡ (term_at l i).a = omega arith in
      h ∙ e

  -- the label of a code term names the program that the term names
  pub code_program : {i : ℕ} {x : Tree} → Den l c i x → Leaves (Named m) x → code_at l i ≡ program_of x
  unfolding code_at program_of
  code_program {i} {x} d p = go (eqb (term_at l i).kind 8) refl ∙ ap (λ (k : ℕ). pick (eqb k 8) (num_of x) 0) (den_kind sound long d)
    where
      go : (b : Bool) → eqb (term_at l i).kind 8 ≡ b → pick b ((term_at l i).a % 256) 0 ≡ pick b (num_of x) 0
      go true e = code_number d p e
      go false e = refl

-- Events

-- the labels that an event shows
pub record Shows (h : Happening) (r : Labels) : Type 0 where
  pub x : (deed_in h.event).x ≡ r.x
  pub y : (deed_in h.event).y ≡ r.y
  pub result : (deed_in h.event).result ≡ r.result

shows_pick : {g h : Happening} {r : Labels} (b : Bool) → Shows g r → Shows h r → Shows (pick b g h) r
shows_pick true p q = p
shows_pick false p q = q

-- g with its labels taken out is u
record Bared (g u : Happening) : Type 0 where
  is : bare g ≡ u

bare_pick : {g h u v : Happening} (b : Bool) → Bared g u → Bared h v → Bared (pick b g h) (pick b u v)
bare_pick true p q = p
bare_pick false p q = q

module _ (f : Frame) (actions lengths : List ℕ) where
  -- with its labels taken out an event is the same for all labels
  advance_bare : (i : ℕ) (r : Labels) → bare (advance_event f actions lengths i r) ≡ advance_event f actions lengths i (labels 0 0 0 r.program 0)
  unfolding bare advance_event
  advance_bare i r =
      let a = next_action actions (slot_at f.slots i) in
      (bare_pick (eqb a.op 19) (record { is = refl }) (bare_pick (eqb a.op 20) (record { is = refl }) (record { is = refl }))).is

  hand_bare : (i j : ℕ) (r : Labels) → bare (hand_event f actions lengths i j r) ≡ hand_event f actions lengths i j (labels 0 0 0 r.program 0)
  unfolding bare hand_event
  hand_bare i j r = refl

  way_bare : (w : Way) (r : Labels) → bare (happened_by w f actions lengths r) ≡ happened_by w f actions lengths (labels 0 0 0 r.program 0)
  unfolding bare
  way_bare W.Nothing r = refl
  way_bare (W.Advance i) r = advance_bare i r
  way_bare (W.Hand i j) r = hand_bare i j r
  way_bare (W.Reset m) r = refl

  pub event_bare : (code : ℕ) (r : Labels) → bare (happened_on f actions lengths code r) ≡ happened_on f actions lengths code (labels 0 0 0 r.program 0)
  unfolding happened_on
  event_bare code r = way_bare (way_of code) r

  -- an action shows all three labels, a hand-over those of x and y, a reset none
  pub advance_shows : (i : ℕ) (r : Labels) → Shows (advance_event f actions lengths i r) r
  unfolding advance_event
  advance_shows i r =
      let a = next_action actions (slot_at f.slots i) in
      shows_pick (eqb a.op 19) (record { x = refl; y = refl; result = refl })
      (shows_pick (eqb a.op 20) (record { x = refl; y = refl; result = refl }) (record { x = refl; y = refl; result = refl }))

  pub hand_shows : (i j : ℕ) (r : Labels) → r.result ≡ 0 → Shows (hand_event f actions lengths i j r) r
  unfolding hand_event
  hand_shows i j r e = record { x = refl; y = refl; result = sym e }

  -- the event of a hand-over does not look at the result
  pub hand_event_lem : (code i j : ℕ) (r : Labels) → way_of code ≡ W.Hand i j
      → happened_on f actions lengths code r ≡ happened_on f actions lengths code (labels r.x r.y 0 r.program r.count)
  unfolding happened_on hand_event
  hand_event_lem code i j r e = rw e

-- The next nonce

one_more_small : (n : ℕ) → n < 65536 → one_more n < 65536
unfolding one_more
one_more_small n h = go (ltb n 65535) refl
  where
    go : (b : Bool) → ltb n 65535 ≡ b → pick b (n + 1) n < 65536
    go true e = omega (arith, ltb-true n 65535 e)
    go false e = h

after_small : (op n : ℕ) → n < 65536 → nonce_after op n < 65536
unfolding nonce_after
after_small op n h = go (eqb op 18)
  where
    go : (b : Bool) → pick b (one_more n) n < 65536
    go true = one_more_small n h
    go false = h

record Small {A : Type 0} (c : Config A) : Type 0 where
  is : c.frame.nonce < 65536

pick_small : {A : Type 0} {c d : Config A} (b : Bool) → Small c → Small d → Small (pick b c d)
pick_small true p q = p
pick_small false p q = q

module _ {A : Type 0} (none sinit dinit : A) (g : Layout) (c : Config A) (x r : A) (small : c.frame.nonce < 65536) where
  advanced_small : (i p : ℕ) → (advanced_on none dinit g c i x r p).frame.nonce < 65536
  unfolding advanced_on jumped_on launched_on acted_on frame_moved frame_launched
  advanced_small i p =
      let a = next_action g.actions (slot_at c.frame.slots i) in
      let h : nonce_after a.op c.frame.nonce < 65536 = after_small a.op c.frame.nonce small in
      (pick_small (eqb a.op 19) (record { is = h }) (pick_small (eqb a.op 20) (record { is = small }) (record { is = h }))).is

  way_small : (w : Way) (p : ℕ) → (made_by w none sinit dinit g c x r p).frame.nonce < 65536
  unfolding reset_on handed_on frame_reset frame_handed
  way_small W.Nothing p = small
  way_small (W.Advance i) p = advanced_small i p
  way_small (W.Hand i j) p = small
  way_small (W.Reset m) p = small

  -- it fits its type after every step
  pub made_small : (code p : ℕ) → (made_on none sinit dinit g c code x r p).frame.nonce < 65536
  unfolding made_on
  made_small code p = way_small (way_of code) p

-- a hand-over leaves no result
pub hand_made : {A : Type 0} (none sinit dinit : A) (g : Layout) (c : Config A) (code i j : ℕ) (x r t : A) (p : ℕ) → way_of code ≡ W.Hand i j
    → made_on none sinit dinit g c code x r p ≡ made_on none sinit dinit g c code x t p
unfolding made_on
hand_made none sinit dinit g c code i j x r t p e = rw e
