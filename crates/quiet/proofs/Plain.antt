-- The codes of a quiet configuration are all plain: none of them breaks the claim, and none is refused for size. So a search may
-- pass them all at once.
use Prim.Native.Nat.{ℕ}
use mathlib.Core.Path.{◌≡◌, refl, sym, ap, ◌∙◌}
use mathlib.Core.Bool.{Bool, true, false}
use mathlib.Core.List.{List}
use lib.Dec.{eqb}
use borrow.Author.Tests.{eqb-true, eq-eqb}
use Rattle.terms.specs.Base.{pick, held}
use Rattle.model.specs.declared.records.Model.{Model}
use Rattle.state.specs.Code.{way_of}
use Rattle.state.specs.Early.{Sight, sight_of, early_of}
use Rattle.state.specs.declared.control.Control.{Control}
use Rattle.state.proofs.Turned.{early_way}
use Rattle.rules.specs.Work.{work_on}
use Rattle.rules.specs.Happened.{happened_on}
use Rattle.rules.specs.Step.{refused_step, go_on, step_on}
use Rattle.rules.specs.declared.event.Happening.{Happening}
use Rattle.rules.specs.declared.work.Labels.{Labels}
use Rattle.rules.specs.Worked.{Worked}
use Rattle.rules.specs.Worked as K
use Rattle.walk.specs.Trail.{mark_of, plain}
use Rattle.audit.specs.Sound.{SoundModel}
use Rattle.audit.specs.Whole.{Arrays, SoundConfig}
use Rattle.rules.specs.Made.{layout_of}
use Rattle.law.specs.Machines.{LabelsConf, refused_as, tried_labels}
use Rattle.law.specs.Turned.{turned_by}
use Rattle.machine.specs.Claim.{breaks_claim}
use Rattle.quiet.specs.Quiet.{calm, outline_of}
use Rattle.quiet.proofs.Fitting.{Fitting}
use Rattle.quiet.proofs.Nobody.{Calm, is_calm, none_accepts, not_broken}
use Rattle.quiet.proofs.Sizes.{is_size, early_no_size, late_no_size}

refused_plain : (n : ℕ) → is_size n ≡ false → mark_of (refused_as {C = LabelsConf} n) ≡ plain
refused_plain n e = rw e

module _ {m : Model} (M : SoundModel m) (A : Arrays m) {l : List ℕ} {s : Control} (C : SoundConfig m l s)
    (quiet : Calm m s.frame.slots s.count) (fit : Fitting m l s) (hs : List Happening) (k : ℕ) where
  abbrev seen : Sight
  seen = sight_of s.frame m.actions m.locations m.machine_count

  -- the number that the work on the table is refused by is the step's
  work_turned : (n : ℕ) → early_of seen k ≡ 0 → (work_on l s m.actions k).out ≡ K.Refused n
      → turned_by (step_on l s (layout_of m) m.machine_count k) ≡ n
  unfolding step_on go_on
  work_turned n e f = rw (eq-eqb _ _ e, f)

  work_no_size : (n : ℕ) → early_of seen k ≡ 0 → (work_on l s m.actions k).out ≡ K.Refused n → is_size n ≡ false
  work_no_size n e f = ap is_size (sym (work_turned n e f)) ∙ late_no_size M A C quiet fit k e

  work_unbroken : (r : Labels) → early_of seen k ≡ 0 → breaks_claim m.claim hs (happened_on s.frame m.actions m.lengths k r) ≡ false
  work_unbroken r e =
      not_broken m.claim hs (happened_on s.frame m.actions m.lengths k r)
      (none_accepts s.frame m.actions m.lengths m.locations m.machine_count m.claim.program quiet.nobody r k
      (sym (early_way seen k (way_of k) refl) ∙ e))

  plain_step : mark_of (tried_labels (λ es h. breaks_claim m.claim es h) hs (step_on l s (layout_of m) m.machine_count k)) ≡ plain
  unfolding step_on go_on
  plain_step = go (eqb (early_of seen k) 0) refl (work_on l s m.actions k).out refl
    where
      go : (b : Bool) → eqb (early_of seen k) 0 ≡ b → (w : Worked) → (work_on l s m.actions k).out ≡ w
          → mark_of (tried_labels (λ es h. breaks_claim m.claim es h) hs (pick b (go_on l s (layout_of m) k) (held (refused_step (early_of seen k) s) l))) ≡ plain
      go true e (K.Refused n) f = rw f (refused_plain n (work_no_size n (eqb-true _ _ e) f))
      go true e (K.Done r) f = rw (f, work_unbroken r (eqb-true _ _ e))
      go false e w f = refused_plain (early_of seen k) (early_no_size seen k)

-- all codes of a calm configuration whose operands fit
pub plain_ahead : {m : Model} → SoundModel m → Arrays m → {l : List ℕ} {s : Control} → SoundConfig m l s
    → calm s.frame.slots m.lengths s.count (outline_of m) ≡ true → Fitting m l s → (hs : List Happening) (k : ℕ)
    → mark_of (tried_labels (λ es h. breaks_claim m.claim es h) hs (step_on l s (layout_of m) m.machine_count k)) ≡ plain
plain_ahead {m} M A {s = s} C e fit hs k = plain_step M A C (is_calm m s.frame.slots s.count e) fit hs k
