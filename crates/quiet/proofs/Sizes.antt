-- In a calm configuration where all operands fit, no step is refused for size (8 or 9). It is asked of the rules on terms written
-- out whole, which are what the machine does.
use Prim.Native.Nat.{ℕ, ◌<◌, ◌≤◌, max}
use mathlib.Core.Path.{◌≡◌, refl, sym, ◌∙◌}
use mathlib.Core.Bool.{Bool, true, false}
use mathlib.Core.List.{List, ◌++◌}
use native.Mathlib.Omega.{arith}
use lib.ListN.{length}
use lib.Dec.{eqb}
use borrow.Author.Tests.{le-ltb, ne_eqb}
use Rattle.terms.specs.Base.{pick}
use Rattle.terms.specs.Tree.{Tree, nought, deepness, member, enter}
use Rattle.terms.specs.Meaning.{trees, tree_of}
use Rattle.terms.proofs.Meaning.{length_trees}
use Rattle.terms.proofs.Labels.{den_at, den_member}
use Rattle.terms.proofs.Enter.{Longer, longer_then, enter_longer}
use Rattle.terms.proofs.Depth.{trees_whole}
use Rattle.terms.proofs.Substs.{den_shallow}
use Rattle.model.specs.Fields.{either}
use Rattle.model.specs.declared.records.Model.{Model}
use Rattle.state.specs.Reason.{Reason, first_of, NoneHolds, done, next}
use Rattle.state.specs.Slot.{slot_at}
use Rattle.state.specs.Code.{way_of}
use Rattle.state.specs.Control.{value_at}
use Rattle.state.specs.Early.{Sight, sight_of, refusal_of, early_of}
use Rattle.state.specs.declared.code.Way.{Way}
use Rattle.state.specs.declared.code.Way.TheVariants as W
use Rattle.state.specs.declared.control.Control.{Control}
use Rattle.state.proofs.Turned.{lets_iff, early_seven, early_way, let_advance, let_hand}
use Rattle.rules.specs.Effect.{place_of}
use Rattle.rules.specs.Step.{step_on}
use Rattle.audit.specs.Sound.{SoundModel}
use Rattle.audit.specs.Whole.{Arrays, SoundConfig}
use Rattle.audit.proofs.Whole.{control_test}
use Rattle.law.specs.Out.{Out}
use Rattle.law.specs.Act.{result}
use Rattle.rules.specs.Made.{layout_of}
use Rattle.law.specs.Rules.{operand}
use Rattle.law.specs.Meant.{Sized, meant}
use Rattle.law.specs.Turned.{turned_by, unfit, yielded, term_reasons, act_reasons, work_reasons, step_reasons}
use Rattle.law.proofs.Turned.{step_turned, turned_same}
use Rattle.quiet.proofs.Room.{inside_more, enter_inside, both_enter}
use Rattle.quiet.proofs.Yields.{Small, result_small}
use Rattle.quiet.proofs.Fitting.{next_at, Fitting, var_den, value_den, den_inside, first_low, second_low}
use Rattle.quiet.proofs.Nobody.{Calm}

-- "refused by 8 or 9"
abbrev pub is_size : ℕ → Bool
is_size n = either (eqb n 8) (eqb n 9)

-- Reasons 1 to 7 are not for size

pub early_no_size : (g : Sight) (code : ℕ) → is_size (early_of g code) ≡ false
early_no_size g code =
    let h = early_seven g code in
    rw (ne_eqb (early_of g code) 8 (λ e. omega (arith, h, e)), ne_eqb (early_of g code) 9 (λ e. omega (arith, h, e)))

-- where none of them holds, the first reason is among the others
first_behind : {rs : List Reason} (ts : List Reason) → NoneHolds rs → first_of (rs ++ ts) ≡ first_of ts
first_behind ts done = refl
first_behind ts (next p f) = rw p (first_behind ts f)

-- terms that fit are refused by 10 or not at all
unfit_no_size : (b : Bool) → is_size (pick b 10 0) ≡ false
unfit_no_size true = refl
unfit_no_size false = refl

terms_no_size : (ks : List Tree) (x y : Tree) (o : Out Tree) → max (deepness x) (deepness y) ≤ 16 → length ks ≤ 511 → Small ks (yielded o)
    → is_size (first_of (term_reasons ks x y o)) ≡ false
terms_no_size ks x y o flat room s =
    let few = s.few in
    let a = le-ltb 16 (max (deepness x) (deepness y)) flat in
    let b = le-ltb 512 (length ks) (omega arith) in
    let c = le-ltb 16 (deepness (yielded o)) s.flat in
    let d = le-ltb 512 (length (enter ks (yielded o))) (omega arith) in
    rw (a, b, c, d) (unfit_no_size (unfit o))

module _ {m : Model} (M : SoundModel m) (A : Arrays m) {l : List ℕ} {s : Control} (C : SoundConfig m l s)
    (calm : Calm m s.frame.slots s.count) (fit : Fitting m l s) where
  -- room for both operands
  abbrev known : ℕ → ℕ → ℕ → List Tree
  known i x y = enter (enter (trees l s.count) (operand m (meant l s) i x)) (operand m (meant l s) i y)

  label_listed : (x : ℕ) → x < m.count → member (tree_of m.lines m.count x) (trees m.lines m.count) ≡ true
  label_listed x h = den_member M.table A.lines (den_at x h)

  operands_room : (i x y : ℕ) → x < m.count → y < m.count → length (known i x y) ≤ 511
  unfolding operand
  operands_room i x y p q =
      let a =
      both_enter (trees m.lines m.count) (trees l s.count) (meant l s).config.vars (place_of i 0)
      (trees_whole M.table A.lines) (λ j. den_inside M A C (var_den M A C j))
      (tree_of m.lines m.count x) (tree_of m.lines m.count y) (label_listed x p) (label_listed y q)
      in
      let b = length_trees l s.count C.terms.long C.terms.table.room in
      let c = length_trees m.lines m.count A.lines M.table.room in
      let d = calm.room in
      omega (arith, a, b, c, d)

  -- and for the result
  module _ (i : ℕ) (live : (slot_at s.frame.slots i).live ≡ true) where
    abbrev first : Tree
    first = operand m (meant l s) i (next_at m s i).x

    abbrev second : Tree
    second = operand m (meant l s) i (next_at m s i).y

    abbrev value : Tree
    value = value_at nought (meant l s).config.values (next_at m s i).loc

    both_longer : Longer (trees l s.count) (known i (next_at m s i).x (next_at m s i).y)
    both_longer = longer_then (enter_longer (trees l s.count) first) (enter_longer (enter (trees l s.count) first) second)

    yields : (n : ℕ) → Small (known i (next_at m s i).x (next_at m s i).y) (yielded (result (next_at m s i) value first second n))
    yields n =
        result_small second
        (inside_more both_longer (den_inside M A C (value_den M A C (next_at m s i).loc)))
        (inside_more (enter_longer (enter (trees l s.count) first) second) (enter_inside (trees l s.count) first))
        (den_shallow C.terms.table C.terms.long (value_den M A C (next_at m s i).loc))
        (fit.first i live) (next_at m s i) n (fit.value i live)

    act_no_size : is_size (first_of (act_reasons m (meant l s) i (next_at m s i))) ≡ false
    unfolding act_reasons meant
    act_no_size =
        let a : deepness first ≤ 15 = fit.first i live in
        let b : deepness second ≤ 15 = fit.second i live in
        let q = slot_at s.frame.slots i in
        terms_no_size (known i (next_at m s i).x (next_at m s i).y) first second (result (next_at m s i) value first second s.frame.nonce)
        (omega (arith, a, b))
        (operands_room i (next_at m s i).x (next_at m s i).y (first_low M A C q) (second_low M A C q)) (yields s.frame.nonce)

  abbrev seen : Sight
  seen = sight_of s.frame m.actions m.locations m.machine_count

  work_no_size : (w : Way) → refusal_of seen w ≡ 0 → is_size (first_of (work_reasons w m (meant l s))) ≡ false
  unfolding meant
  work_no_size W.Nothing z = refl
  work_no_size (W.Advance i) z = act_no_size i (let_advance seen i z).live
  work_no_size (W.Hand i j) z = act_no_size i (let_hand seen i j z).sender
  work_no_size (W.Reset k) z = refl

  step_first : (code : ℕ) → early_of seen code ≡ 0 → first_of (step_reasons m (meant l s) code) ≡ first_of (work_reasons (way_of code) m (meant l s))
  unfolding step_reasons meant
  step_first code z = first_behind (work_reasons (way_of code) m (meant l s)) ((lets_iff seen code).0 z)

  -- what refusals 1 to 7 let through
  pub late_no_size : (code : ℕ) → early_of seen code ≡ 0 → is_size (turned_by (step_on l s (layout_of m) m.machine_count code)) ≡ false
  late_no_size code z =
      let size : Sized m l s = record { lines = A.lines; table = C.terms.long; values = C.values.long; vars = C.vars.long } in
      let a = turned_same M size (control_test A C) code in
      let b = step_turned m (meant l s) code in
      let e = sym (early_way seen code (way_of code) refl) ∙ z in
      rw (a, b, step_first code z) (work_no_size (way_of code) e)
