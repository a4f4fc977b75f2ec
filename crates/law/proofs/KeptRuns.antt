-- M3 for whole runs, and in terms of the tests that the code makes: where model and configuration passed them once, every
-- configuration reached passes them. So a run or a search may check once and then make its steps unchecked.
use Prim.Native.Nat.{ℕ, ◌<◌}
use mathlib.Core.Path.{◌≡◌}
use mathlib.Core.Bool.{true}
use mathlib.Core.List.{List, [], ◌∷◌}
use Rattle.walk.specs.Base.{All}
use Rattle.walk.proofs.Lists.{all_imp}
use Rattle.terms.specs.Base.{Held}
use Rattle.model.specs.declared.records.Model.{Model}
use Rattle.state.specs.Slot.{lowest_free}
use Rattle.state.specs.Reset.{slots_reset}
use Rattle.state.specs.Control.{fresh_control}
use Rattle.state.specs.declared.control.Control.{Control}
use Rattle.state.proofs.Frame.{reset_finds}
use Rattle.rules.specs.Step.{step_on}
use Rattle.rules.specs.Reply.{Stepped}
use Rattle.audit.specs.Models.{sound_model}
use Rattle.audit.specs.Sound.{SoundModel}
use Rattle.audit.specs.Configuration.{sound_control}
use Rattle.audit.specs.Whole.{Arrays, Lengths, SoundConfig}
use Rattle.audit.proofs.Check.{test_model}
use Rattle.audit.proofs.Whole.{sound_grounds, test_control, control_test}
use Rattle.rules.specs.Made.{layout_of}
use Rattle.law.specs.Runs.{run_labels, step_from, LeavesSound, LeavesPassing}
use Rattle.law.proofs.KeptFresh.{fresh_passes}
use Rattle.law.proofs.KeptStep.{step_sound}

-- M4: a reset finds a free slot in every sound configuration
pub slot_found : {m : Model} → SoundModel m → Arrays m → {l : List ℕ} {s : Control} → SoundConfig m l s → (k : ℕ)
    → lowest_free (slots_reset s.frame.slots k) < 12
slot_found {m} M A {s = s} C k = reset_finds m (sound_grounds M A) s.frame C.frame k

-- M3 for a run: every step of it leaves a sound configuration
pub run_sound : {m : Model} → SoundModel m → Arrays m → {l : List ℕ} {s : Control} → SoundConfig m l s → (ks : List ℕ)
    → All (LeavesSound m) (run_labels m l s ks)
unfolding run_labels
run_sound M A C [] = tt
run_sound {m = m} M A {l = l} {s = s} C (k ∷ ks) =
    let r = step_on l s (layout_of m) m.machine_count k in
    (step_sound M A C k, run_sound {m = m} M A {l = r.table} {s = r.out.control} (step_sound M A C k) ks)

-- so all that is reached from the fresh configuration is sound
pub reached_sound : {m : Model} → SoundModel m → Arrays m → (ks : List ℕ) → All (LeavesSound m) (run_labels m m.lines (fresh_control m) ks)
reached_sound M A ks = run_sound M A (fresh_passes M A) ks

-- The same in terms of the tests

pub fresh_test : {m : Model} → Arrays m → sound_model m ≡ true → sound_control m m.lines (fresh_control m) ≡ true
fresh_test A e = control_test A (fresh_passes (test_model A.lines e) A)

pub step_test : {m : Model} → Arrays m → {l : List ℕ} {s : Control} → Lengths l s → sound_model m ≡ true → sound_control m l s ≡ true → (code : ℕ)
    → LeavesPassing m (step_from m l s code)
step_test A L e f code =
    let M = test_model A.lines e in
    control_test A (step_sound M A (test_control M A L f) code)

all_pass : {m : Model} → Arrays m → (ws : List (Held Stepped)) → All (LeavesSound m) ws → All (LeavesPassing m) ws
all_pass {m} A ws cs = all_imp (LeavesSound m) (LeavesPassing m) (λ w C. control_test A C) ws cs

pub run_test : {m : Model} → Arrays m → {l : List ℕ} {s : Control} → Lengths l s → sound_model m ≡ true → sound_control m l s ≡ true → (ks : List ℕ)
    → All (LeavesPassing m) (run_labels m l s ks)
run_test {m} A {l} {s} L e f ks =
    let M = test_model A.lines e in
    all_pass A (run_labels m l s ks) (run_sound M A (test_control M A L f) ks)

pub reached_test : {m : Model} → Arrays m → sound_model m ≡ true → (ks : List ℕ) → All (LeavesPassing m) (run_labels m m.lines (fresh_control m) ks)
reached_test {m} A e ks = all_pass A (run_labels m m.lines (fresh_control m) ks) (reached_sound (test_model A.lines e) A ks)
