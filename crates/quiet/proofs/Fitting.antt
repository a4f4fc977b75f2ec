-- When the operands of every live thread are at most 15 deep, and the value that an extend takes too; and three tests, each of
-- which tells that they are.
use Prim.Native.Nat.{ℕ, zero, suc, ◌+◌, ◌*◌, ◌<◌, ◌≤◌}
use mathlib.Core.Path.{◌≡◌, refl, sym, ap, ◌∙◌}
use mathlib.Core.Bool.{Bool, true, false, not}
use mathlib.Core.List.{List}
use native.Mathlib.Omega.{arith}
use lib.ListN.{get_or}
use lib.Dec.{eqb, ltb, leb}
use borrow.Author.Tests.{ltb-true, ltb-false, leb-true, eq-eqb, not-true, not-false}
use Rattle.terms.specs.Base.{pick, also}
use Rattle.terms.specs.Line.{depth_at}
use Rattle.terms.specs.Sound.{Sound}
use Rattle.terms.specs.Subst.{fits_within}
use Rattle.terms.specs.Tree.{Tree, nought, deepness, subst_t}
use Rattle.terms.specs.Meaning.{trees, tree_of, Den}
use Rattle.terms.proofs.Check.{unless_pass}
use Rattle.terms.proofs.Meaning.{depth_right}
use Rattle.terms.proofs.Labels.{den_at, den_member}
use Rattle.terms.proofs.Growth.{den_grows, den_nought}
use Rattle.terms.proofs.Enter.{deepness_some}
use Rattle.terms.proofs.Depth.{each_at, trees_whole, den_depth, fits_den}
use Rattle.model.specs.declared.records.Action.{Action}
use Rattle.model.specs.declared.records.Model.{Model}
use Rattle.model.proofs.Tests.{neither, not_both}
use Rattle.state.specs.Slot.{slot_at}
use Rattle.state.specs.Control.{value_at}
use Rattle.state.specs.Early.{next_action}
use Rattle.state.specs.declared.slot.Slot.{Slot}
use Rattle.state.specs.declared.control.Control.{Control}
use Rattle.state.proofs.Frame.{live_place}
use Rattle.rules.specs.Effect.{place_of}
use Rattle.audit.specs.Sound.{SoundModel}
use Rattle.audit.specs.Whole.{Arrays, SoundConfig}
use Rattle.audit.proofs.Whole.{control_test}
use Rattle.law.specs.Rules.{operand}
use Rattle.law.specs.Meant.{meant}
use Rattle.law.specs.Like.{Like, Fine}
use Rattle.law.proofs.Fine.{sound_fine}
use Rattle.law.proofs.Stands.{sound_like}
use Rattle.machine.specs.Judge.{any_from}
use Rattle.quiet.specs.Quiet.{action_fits, fails_at, all_fit, action_near, far_at, all_near, shallow, outline_of}
use Rattle.quiet.proofs.Room.{Inside, whole_inside}
use Rattle.quiet.proofs.Bounds.{Bounds, listed_bounds}
use Rattle.quiet.proofs.Yields.{subst_deep}

-- the action that the thread in slot i stands before
abbrev pub next_at : Model → Control → ℕ → Action
next_at m s i = next_action m.actions (slot_at s.frame.slots i)

pub record Fitting (m : Model) (l : List ℕ) (s : Control) : Type 0 where
  pub first : (i : ℕ) → (slot_at s.frame.slots i).live ≡ true → deepness (operand m (meant l s) i (next_at m s i).x) ≤ 15
  pub second : (i : ℕ) → (slot_at s.frame.slots i).live ≡ true → deepness (operand m (meant l s) i (next_at m s i).y) ≤ 15
  pub value : (i : ℕ) → (slot_at s.frame.slots i).live ≡ true → (next_at m s i).op ≡ 2
      → deepness (value_at nought (meant l s).config.values (next_at m s i).loc) ≤ 15

-- a test that none of some numbers passes
any_at : (n i : ℕ) (p : ℕ → Bool) → any_from n i p ≡ false → (j : ℕ) → i ≤ j → j < i + n → p j ≡ false
unfolding any_from
any_at zero i p e j h k = absurd (omega arith)
any_at (suc n) i p e j h k = go (ltb i j) refl (any_at n (i + 1) p (neither (p i) (any_from n (i + 1) p) e).1 j)
  where
    go : (b : Bool) → ltb i j ≡ b → (i + 1 ≤ j → j < i + 1 + n → p j ≡ false) → p j ≡ false
    go true f ih = let g = ltb-true i j f in ih (omega arith) (omega arith)
    go false f ih =
        let g = ltb-false i j f in
        let s : j ≡ i = omega arith in
        ap p s ∙ (neither (p i) (any_from n (i + 1) p) e).0

pub none_at : (n : ℕ) (p : ℕ → Bool) → not (any_from n 0 p) ≡ true → (j : ℕ) → j < n → p j ≡ false
none_at n p e j h = any_at n 0 p (not-true (any_from n 0 p) e) j (omega arith) (omega arith)

-- three tests that all hold, the third where its case does
record AllThree (p q c r : Bool) : Type 0 where
  one : p ≡ true
  two : q ≡ true
  three : c ≡ true → r ≡ true

all_three : (p q c r : Bool) → pick (not p) false (pick (not q) false (pick (not c) true r)) ≡ true → AllThree p q c r
all_three true true true r e = record { one = refl; two = refl; three = λ f. e }
all_three true true false r e = record { one = refl; two = refl; three = λ f. let z : ◌≡◌ {A = ℕ} 0 1 = cc in absurd (omega arith) }
all_three true false c r e = let z : ◌≡◌ {A = ℕ} 0 1 = cc in absurd (omega arith)
all_three false q c r e = let z : ◌≡◌ {A = ℕ} 0 1 = cc in absurd (omega arith)

-- a test that no live thread fails
live_passes : (slots : List ℕ) (p : ℕ → Bool) → not (any_from 12 0 (λ j. also (slot_at slots j).live (not (p j)))) ≡ true
    → (i : ℕ) → (slot_at slots i).live ≡ true → p i ≡ true
live_passes slots p e i live =
    let f = none_at 12 (λ j. also (slot_at slots j).live (not (p j))) e i (live_place slots i live) in
    not-false (p i) (not_both (slot_at slots i).live (not (p i)) f live)

-- what a sound configuration of a sound model stands for
module _ {m : Model} (M : SoundModel m) (A : Arrays m) {l : List ℕ} {s : Control} (C : SoundConfig m l s) where
  pub config_like : Like m l s (meant l s)
  config_like =
      sound_like (record { lines = A.lines; table = C.terms.long; values = C.values.long; vars = C.vars.long }) (control_test A C)

  model_fine : Fine m
  model_fine = sound_fine M A.lines

  sound : Sound l s.count
  sound = C.terms.table

  -- number 0, the variables, and the values of locations
  zero_den : Den l s.count 0 nought
  zero_den = den_nought sound C.terms.long

  pub var_den : (i : ℕ) → Den l s.count (get_or s.vars i 0) (get_or (meant l s).config.vars i nought)
  var_den i = each_at zero_den config_like.vars i

  pub value_den : (i : ℕ) → Den l s.count (value_at 0 s.values i) (value_at nought (meant l s).config.values i)
  unfolding value_at
  value_den i = go (ltb i 32)
    where
      go : (b : Bool) → Den l s.count (pick b (get_or s.values i 0) 0) (pick b (get_or (meant l s).config.values i nought) nought)
      go true = each_at zero_den config_like.values i
      go false = zero_den

  -- what a label denotes stands in the table with all its parts
  pub den_inside : {i : ℕ} {x : Tree} → Den l s.count i x → Inside (trees l s.count) x
  den_inside {x = x} d = whole_inside (trees_whole sound C.terms.long) x (den_member sound C.terms.long d)

  -- the operands of an action are listed terms
  pub first_low : (q : Slot) → (next_action m.actions q).x < m.count
  unfolding next_action
  first_low q = model_fine.first q.program q.position

  pub second_low : (q : Slot) → (next_action m.actions q).y < m.count
  unfolding next_action
  second_low q = model_fine.second q.program q.position

  label_den : (i : ℕ) → i < m.count → Den l s.count i (tree_of m.lines m.count i)
  label_den i h = den_grows config_like.table (den_at i h)

  -- By the depths of all terms

  module _ (d : ℕ) (most : Bounds d l s.count) where
    den_most : {i : ℕ} {x : Tree} → Den l s.count i x → deepness x ≤ d
    den_most {i} e = let a = den_depth sound C.terms.long e in omega (arith, a, most i e.below)

    some : 1 ≤ d
    some = let a = deepness_some nought in let b = den_most zero_den in omega (arith, a, b)

    -- a listed term, by its own depth
    operand_near : (i label : ℕ) → label < m.count → depth_at l label + d ≤ 16 → deepness (operand m (meant l s) i label) ≤ 15
    unfolding operand
    operand_near i label h room =
        let a = subst_deep (meant l s).config.vars (place_of i 0) d some (λ j. den_most (var_den j)) (tree_of m.lines m.count label) in
        let b = den_depth sound C.terms.long (label_den label h) in
        omega (arith, a, b, room)

    -- a term has depth 1 at least, so where one leaves room for d, d is 15 at most
    value_near : (k label : ℕ) → label < m.count → depth_at l label + d ≤ 16 → deepness (value_at nought (meant l s).config.values k) ≤ 15
    value_near k label h room =
        let a = den_most (value_den k) in
        let b = den_depth sound C.terms.long (label_den label h) in
        let c = deepness_some (tree_of m.lines m.count label) in
        omega (arith, a, b, c, room)

    record Near (a : Action) : Type 0 where
      first : depth_at l a.x + d ≤ 16
      second : depth_at l a.y + d ≤ 16

    near_fits : ((i : ℕ) → (slot_at s.frame.slots i).live ≡ true → Near (next_at m s i)) → Fitting m l s
    near_fits near = record {
      first = λ i live. operand_near i (next_at m s i).x (first_low (slot_at s.frame.slots i)) (near i live).first;
      second = λ i live. operand_near i (next_at m s i).y (second_low (slot_at s.frame.slots i)) (near i live).second;
      value = λ i live op. value_near (next_at m s i).loc (next_at m s i).x (first_low (slot_at s.frame.slots i)) (near i live).first;
    }

    -- where the deepest listed term leaves room for d, all do
    listed_near : shallow d (outline_of m) ≡ true → (label : ℕ) → label < m.count → depth_at l label + d ≤ 16
    unfolding shallow
    listed_near fits label h =
        let a = den_depth sound C.terms.long (label_den label h) in
        let b = depth_right M.table A.lines label h in
        let c = leb-true (d + (outline_of m).deep) 16 fits in
        omega (arith, a, b, c, listed_bounds m M.table.room label h)

    fits_shallow_in : shallow d (outline_of m) ≡ true → Fitting m l s
    fits_shallow_in fits = near_fits (λ i live. record {
      first = listed_near fits (next_at m s i).x (first_low (slot_at s.frame.slots i));
      second = listed_near fits (next_at m s i).y (second_low (slot_at s.frame.slots i));
    })

    -- the test on each thread's own operands
    action_near_lem : (a : Action) → action_near l d a ≡ true → Near a
    unfolding action_near
    action_near_lem a e =
        let t = unless_pass _ _ e in
        record { first = ltb-false _ _ t.0; second = leb-true _ _ t.1 }

    fits_near_in : all_near l s.frame.slots m.actions d ≡ true → Fitting m l s
    unfolding all_near far_at
    fits_near_in fits =
        near_fits (λ i live. action_near_lem (next_at m s i) (live_passes s.frame.slots (λ j. action_near l d (next_at m s j)) fits i live))

  -- By the operands of each thread

  operand_fits_lem : (i label : ℕ) → label < m.count → fits_within 15 l s.vars (i * 16) label ≡ true → deepness (operand m (meant l s) i label) ≤ 15
  unfolding operand place_of
  operand_fits_lem i label h e =
      let a = fits_den sound C.terms.long config_like.vars (i * 16) 15 label (tree_of m.lines m.count label) (label_den label h) in
      let p : i * 16 + 0 ≡ i * 16 = omega arith in
      let r : deepness (subst_t (meant l s).config.vars (i * 16) (tree_of m.lines m.count label)) ≤ 15 = leb-true _ 15 (sym a ∙ e) in
      rw p r

  module _ (fits : all_fit l s.frame.slots s.values s.vars m.actions ≡ true) where
    thread_fits_lem : (i : ℕ) → (slot_at s.frame.slots i).live ≡ true → action_fits l s.values s.vars (i * 16) (next_at m s i) ≡ true
    unfolding all_fit fails_at
    thread_fits_lem = live_passes s.frame.slots (λ j. action_fits l s.values s.vars (j * 16) (next_at m s j)) fits

    action_fits_lem : (i : ℕ) → (slot_at s.frame.slots i).live ≡ true
        → AllThree (fits_within 15 l s.vars (i * 16) (next_at m s i).x) (fits_within 15 l s.vars (i * 16) (next_at m s i).y)
        (eqb (next_at m s i).op 2) (leb (depth_at l (value_at 0 s.values (next_at m s i).loc)) 15)
    unfolding action_fits
    action_fits_lem i live = all_three _ _ _ _ (thread_fits_lem i live)

    fits_all_in : Fitting m l s
    fits_all_in = record {
      first = λ i live. operand_fits_lem i (next_at m s i).x (first_low (slot_at s.frame.slots i)) (action_fits_lem i live).one;
      second = λ i live. operand_fits_lem i (next_at m s i).y (second_low (slot_at s.frame.slots i)) (action_fits_lem i live).two;
      value = λ i live op.
          let a = den_depth sound C.terms.long (value_den (next_at m s i).loc) in
          let b = leb-true (depth_at l (value_at 0 s.values (next_at m s i).loc)) 15 ((action_fits_lem i live).three (eq-eqb (next_at m s i).op 2 op)) in
          omega (arith, a, b);
    }

pub fits_shallow : {m : Model} → SoundModel m → Arrays m → {l : List ℕ} {s : Control} → SoundConfig m l s
    → (d : ℕ) → shallow d (outline_of m) ≡ true → Bounds d l s.count → Fitting m l s
fits_shallow M A C d fits most = fits_shallow_in M A C d most fits

pub fits_near : {m : Model} → SoundModel m → Arrays m → {l : List ℕ} {s : Control} → SoundConfig m l s
    → (d : ℕ) → all_near l s.frame.slots m.actions d ≡ true → Bounds d l s.count → Fitting m l s
fits_near M A C d fits most = fits_near_in M A C d most fits

pub fits_all : {m : Model} → SoundModel m → Arrays m → {l : List ℕ} {s : Control} → SoundConfig m l s
    → all_fit l s.frame.slots s.values s.vars m.actions ≡ true → Fitting m l s
fits_all M A C fits = fits_all_in M A C fits
