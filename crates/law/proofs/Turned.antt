-- M2, whole: a step is refused by n exactly when the first reason that holds has number n, and permitted exactly when none
-- holds. By the rules, and so on labels.
use Prim.Native.Nat.{ℕ, ◌<◌, max}
use mathlib.Core.Path.{◌≡◌, refl, sym, ◌∙◌}
use mathlib.Core.Bool.{Bool, true, false}
use mathlib.Core.List.{List, [], ◌∷◌, ◌++◌}
use mathlib.Core.Logic.{◌↔◌}
use native.Mathlib.Omega.{arith}
use lib.ListN.{length}
use lib.Dec.{eqb, ltb}
use borrow.Author.Tests.{ltb-true, ltb-false, ne_eqb}
use Rattle.walk.specs.Base.{All}
use Rattle.terms.specs.Base.{pick, Held}
use Rattle.terms.specs.Tree.{Tree, nought, deepness, same, enter}
use Rattle.terms.proofs.Meaning.{also_left, also_right}
use Rattle.model.specs.declared.records.Action.{Action}
use Rattle.model.specs.declared.records.Model.{Model}
use Rattle.state.specs.Reason.{Reason, first_of, FirstIs, NoneHolds}
use Rattle.state.specs.Code.{way_of}
use Rattle.state.specs.Control.{value_at}
use Rattle.state.specs.Early.{Sight, sight_of, reasons, refusal_of, early_of}
use Rattle.state.specs.declared.code.Way.{Way}
use Rattle.state.specs.declared.code.Way.TheVariants as W
use Rattle.state.specs.declared.control.Control.{Control}
use Rattle.state.proofs.Turned.{positive, first_iff, none_iff}
use Rattle.rules.specs.Step.{step_on}
use Rattle.rules.specs.Reply.{Stepped}
use Rattle.audit.specs.Sound.{SoundModel}
use Rattle.audit.specs.Configuration.{sound_control}
use Rattle.law.specs.Out.{Out, ok, refuse, and_then}
use Rattle.law.specs.Size.{fits, fits_one}
use Rattle.law.specs.Act.{num_of, first_of as part_of, is_a, needs, result}
use Rattle.rules.specs.Made.{layout_of}
use Rattle.law.specs.Rules.{State, Acted, acted, Made, operand, acts, action_of, go_by, step_r}
use Rattle.law.specs.Like.{Exactly, both, neither}
use Rattle.law.specs.Meant.{Sized, meant}
use Rattle.law.specs.Turned.{refusal_in, turned_by, too_deep, too_many, unfit, yielded, act_reasons, work_reasons, step_reasons}
use Rattle.law.proofs.Tries.{fits_deep, fits_full, fits_ok}
use Rattle.law.proofs.Law.{sound_exactly}

-- what does not fit is refused by 10 and by nothing else
data Tens : Out Tree → Type 0 where
  ten_ok : {r : Tree} → Tens (ok r)
  ten_no : Tens (refuse 10)

tens_pick : {o q : Out Tree} (b : Bool) → Tens o → Tens q → Tens (pick b o q)
tens_pick true h k = h
tens_pick false h k = k

opening_tens : (x y : Tree) (kind key : ℕ) → Tens (needs (is_a kind x) (needs (is_a key y) (needs (eqb (num_of x) (num_of y)) (ok (part_of x)))))
opening_tens x y kind key = tens_pick (is_a kind x) (tens_pick (is_a key y) (tens_pick (eqb (num_of x) (num_of y)) ten_ok ten_no) ten_no) ten_no

result_tens : (a : Action) (v x y : Tree) (n : ℕ) → Tens (result a v x y n)
unfolding result
result_tens a v x y n =
    tens_pick (eqb a.op 0) ten_ok
    (tens_pick (eqb a.op 2) ten_ok
    (tens_pick (eqb a.op 7) (tens_pick (is_a 5 y) ten_ok ten_no)
    (tens_pick (eqb a.op 8) (opening_tens x y 10 4)
    (tens_pick (eqb a.op 9) (tens_pick (is_a 4 y) ten_ok ten_no)
    (tens_pick (eqb a.op 10) (opening_tens x y 11 5)
    (tens_pick (eqb a.op 11) (tens_pick (is_a 4 y) ten_ok ten_no)
    (tens_pick (eqb a.op 12) (opening_tens x y 12 4)
    (tens_pick (eqb a.op 13) ten_ok
    (tens_pick (eqb a.op 14) ten_ok
    (tens_pick (eqb a.op 15) (tens_pick (is_a 9 x) ten_ok ten_no)
    (tens_pick (eqb a.op 16) (tens_pick (is_a 9 x) ten_ok ten_no)
    (tens_pick (eqb a.op 17) (tens_pick (same x y) ten_ok ten_no)
    (tens_pick (eqb a.op 18) ten_ok
    (tens_pick (eqb a.op 19) (tens_pick (is_a 8 x) ten_ok ten_no)
    ten_ok))))))))))))))

-- one test after the other
fits_turned : {B : Type 0} (n : ℕ) (ks : List Tree) (f : List Tree → Out B)
    → refusal_in (and_then (fits true n ks) f) ≡ pick (too_deep n) 8 (pick (too_many ks) 9 (refusal_in (f ks)))
unfolding and_then
fits_turned n ks f = go (too_deep n) (too_many ks) refl refl
  where
    go : (a b : Bool) → too_deep n ≡ a → too_many ks ≡ b → refusal_in (and_then (fits true n ks) f) ≡ pick a 8 (pick b 9 (refusal_in (f ks)))
    go true b p q = rw (fits_deep n ks (ltb-true 16 n p))
    go false true p q = rw (fits_full n ks (ltb-false 16 n p) (ltb-true 512 (length ks) q))
    go false false p q = rw (fits_ok n ks (ltb-false 16 n p) (ltb-false 512 (length ks) q))

tens_turned : {B : Type 0} {o : Out Tree} (f : Tree → Out B) → Tens o → refusal_in (and_then o f) ≡ pick (unfit o) 10 (refusal_in (f (yielded o)))
unfolding and_then
tens_turned f ten_ok = refl
tens_turned f ten_no = refl

-- an action: its reasons are those of its terms
acts_turned : (m : Model) (d : State) (i : ℕ) (a : Action) → refusal_in (acts true m d i a) ≡ first_of (act_reasons m d i a)
unfolding acts act_reasons
acts_turned m d i a =
    let x = operand m d i a.x in
    let y = operand m d i a.y in
    let v = value_at nought d.config.values a.loc in
    let n = d.config.frame.nonce in
    let o = result a v x y n in
    let ks = enter (enter d.known x) y in
    rw (
      fits_turned {B = Acted} (max (deepness x) (deepness y)) ks (λ js. and_then o (λ r. and_then (fits_one true js r) (λ ls. ok (acted ls x y r)))),
      tens_turned {B = Acted} (λ r. and_then (fits_one true ks r) (λ ls. ok (acted ls x y r))) (result_tens a v x y n),
      fits_turned {B = Acted} (deepness (yielded o)) (enter ks (yielded o)) (λ ls. ok (acted ls x y (yielded o))),
    )

-- what comes after an action that is let through refuses nothing
then_turned : {A B : Type 0} (o : Out A) (f : A → B) → refusal_in (and_then o (λ a. ok (f a))) ≡ refusal_in o
unfolding and_then
then_turned (ok a) f = refl
then_turned (refuse n) f = refl

-- reasons before and behind
first_append : (rs ts : List Reason) → All (λ r. 0 < r.number) rs → first_of (rs ++ ts) ≡ pick (eqb (first_of rs) 0) (first_of ts) (first_of rs)
first_append [] ts ps = refl
first_append (r ∷ rs) ts ps = go r.holds (first_append rs ts ps.1)
  where
    go : (b : Bool) → first_of (rs ++ ts) ≡ pick (eqb (first_of rs) 0) (first_of ts) (first_of rs)
        → pick b r.number (first_of (rs ++ ts)) ≡ pick (eqb (pick b r.number (first_of rs)) 0) (first_of ts) (pick b r.number (first_of rs))
    go true h = let e : eqb r.number 0 ≡ false = ne_eqb r.number 0 (λ z. omega (arith, z, ps.0)) in rw e
    go false h = h

all_positive : (rs : List Reason) → positive rs ≡ true → All (λ r. 0 < r.number) rs
all_positive [] h = tt
all_positive (r ∷ rs) h =
    (ltb-true 0 r.number (also_left (ltb 0 r.number) (positive rs) h), all_positive rs (also_right (ltb 0 r.number) (positive rs) h))

early_positive : (g : Sight) (w : Way) → All (λ r. 0 < r.number) (reasons g w)
early_positive g w = all_positive (reasons g w) refl

picked_turned : {A : Type 0} (b : Bool) (n : ℕ) (o : Out A) (k : ℕ) → refusal_in o ≡ k → refusal_in (pick b o (refuse n)) ≡ pick b k n
picked_turned true n o k e = e
picked_turned false n o k e = refl

-- by what the code moves; where it moves nothing, 1 holds
module _ (m : Model) (d : State) (code : ℕ) where
  abbrev seen : Sight
  seen = sight_of d.config.frame m.actions m.locations m.machine_count

  -- 1 to 7 first, then the terms
  abbrev asked : Way → Out Made
  asked w = pick (eqb (first_of (reasons seen w)) 0) (go_by w true m d code) (refuse (first_of (reasons seen w)))

  early_turned : (w : Way) → refusal_in (go_by w true m d code) ≡ first_of (work_reasons w m d) → refusal_in (asked w) ≡ first_of (reasons seen w ++ work_reasons w m d)
  early_turned w e =
      let n = first_of (reasons seen w) in
      picked_turned (eqb n 0) n (go_by w true m d code) (first_of (work_reasons w m d)) e
      ∙ sym (first_append (reasons seen w) (work_reasons w m d) (early_positive seen w))

  way_turned : (w : Way) → refusal_in (asked w) ≡ first_of (reasons seen w ++ work_reasons w m d)
  way_turned W.Nothing = refl
  way_turned (W.Advance i) = early_turned (W.Advance i) (then_turned (acts true m d i (action_of m d i)) _ ∙ acts_turned m d i (action_of m d i))
  way_turned (W.Hand i j) = early_turned (W.Hand i j) (then_turned (acts true m d i (action_of m d i)) _ ∙ acts_turned m d i (action_of m d i))
  way_turned (W.Reset k) = early_turned (W.Reset k) refl

  pub step_turned : refusal_in (step_r true m d code) ≡ first_of (step_reasons m d code)
  unfolding step_reasons step_r early_of refusal_of
  step_turned = way_turned (way_of code)

step_positive : (m : Model) (d : State) (code : ℕ) → positive (step_reasons m d code) ≡ true
unfolding step_reasons act_reasons
step_positive m d code = go (way_of code)
  where
    go : (w : Way) → positive (reasons (sight_of d.config.frame m.actions m.locations m.machine_count) w ++ work_reasons w m d) ≡ true
    go W.Nothing = refl
    go (W.Advance i) = refl
    go (W.Hand i j) = refl
    go (W.Reset k) = refl

-- "Each is given exactly when its reason holds and none before it": by the rules
pub turned_iff : (m : Model) (d : State) (code n : ℕ) → 0 < n → (refusal_in (step_r true m d code) ≡ n) ↔ FirstIs n (step_reasons m d code)
turned_iff m d code n h = rw (step_turned m d code) (first_iff (step_reasons m d code) n h)

pub permitted_iff : (m : Model) (d : State) (code : ℕ) → (refusal_in (step_r true m d code) ≡ 0) ↔ NoneHolds (step_reasons m d code)
permitted_iff m d code = rw (step_turned m d code) (none_iff (step_reasons m d code) (step_positive m d code))

-- and on labels, from every sound configuration of a sound model
exactly_turned : {m : Model} {l : List ℕ} {s : Control} {w : Held Stepped} {o : Out Made} → Exactly m l s w o → turned_by w ≡ refusal_in o
exactly_turned (both k) = refl
exactly_turned neither = refl

module _ {m : Model} {l : List ℕ} {s : Control} (model : SoundModel m) (size : Sized m l s) (sound : sound_control m l s ≡ true) (code : ℕ) where
  pub turned_same : turned_by (step_on l s (layout_of m) m.machine_count code) ≡ refusal_in (step_r true m (meant l s) code)
  turned_same = exactly_turned (sound_exactly model size sound code)

  pub step_turned_iff : (n : ℕ) → 0 < n → (turned_by (step_on l s (layout_of m) m.machine_count code) ≡ n) ↔ FirstIs n (step_reasons m (meant l s) code)
  step_turned_iff n h = rw turned_same (turned_iff m (meant l s) code n h)

  pub step_permitted_iff : (turned_by (step_on l s (layout_of m) m.machine_count code) ≡ 0) ↔ NoneHolds (step_reasons m (meant l s) code)
  step_permitted_iff = rw turned_same (permitted_iff m (meant l s) code)
