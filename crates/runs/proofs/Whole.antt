-- The run of any configuration: M7 for a sound one, every code refused by 11 for any other; and the claim judged over its
-- records is the claim over its events.
use Prim.Native.Nat.{ℕ, zero, suc, ◌+◌, ◌<◌, ◌≤◌}
use mathlib.Core.Path.{◌≡◌, refl, sym, ◌∙◌, ap, subst}
use mathlib.Core.Bool.{Bool, true, false}
use mathlib.Core.List.{List, [], ◌∷◌}
use native.Mathlib.Numerals.{add-one}
use native.Mathlib.Nat.{zero-add}
use native.Mathlib.Omega.{arith}
use lib.ListN.{length, set, replicate, length-replicate}
use lib.Seq.{sets, length-take-le}
use lib.Dec.{ltb}
use borrow.Author.Tests.{ltb-true, ltb-false}
use Rattle.terms.specs.Base.{pick, filled}
use Rattle.terms.specs.Sound.{Sound}
use Rattle.terms.proofs.Meaning.{also_left, also_right}
use Rattle.model.specs.declared.records.Claim.{Claim}
use Rattle.model.specs.declared.records.Model.{Model}
use Rattle.state.specs.declared.control.Control.{Control}
use Rattle.rules.specs.Event.{room_in}
use Rattle.rules.specs.declared.event.Happening.{Happening}
use Rattle.rules.specs.Reply.{Permitted}
use Rattle.audit.specs.Models.{sound_model}
use Rattle.audit.specs.Configuration.{table_sound, sound_control}
use Rattle.audit.specs.Sound.{SoundModel}
use Rattle.audit.proofs.Check.{test_model}
use Rattle.audit.proofs.Standing.{steps_right}
use Rattle.rules.specs.Made.{layout_of}
use Rattle.law.specs.Machines.{conf}
use Rattle.machine.specs.Claim.{first_break, accepts_all}
use Rattle.machine.specs.Judge.{first_break_on, accepts_on}
use Rattle.machine.specs.Recorded.{none, ShortPath}
use Rattle.machine.specs.Step.{is_sound, inner_step, step_checked}
use Rattle.runs.specs.Run.{ran, Course, course, shorter, tried_of, steps_on, all_refused, run_on}
use Rattle.runs.specs.Fold.{Folded, folded, with_answer, fold_steps, Folds}
use Rattle.machine.proofs.Judged.{first_break_is, all_accepts_is}
use Rattle.machine.proofs.Real.{known_ops}
use Rattle.runs.proofs.Folds.{folds, fold_same}
use Rattle.machine.proofs.Checked.{table_right, inner_agrees, unsound_refused}

-- no more than 60,000 steps are made
steps_most : (m : Model) (l : List ℕ) (s : Control) → sound_control m l s ≡ true → s.frame.steps ≤ 60000
unfolding sound_control
steps_most m l s e = steps_right s.frame (also_left _ _ (also_right (table_sound m l s.count s.frame.nonce) _ e))

module _ (m : Model) (l : List ℕ) (s : Control) (codes ans rs : List ℕ) where
  -- "run" is folding the step over the codes that are tried
  pub run_folds : length m.lines ≡ 512 → length l ≡ 512 → is_sound m l s ≡ true
      → Folds rs ans 0 (run_on l m s codes ans rs) (fold_steps (λ t c code. inner_step t m c code) (room_in rs) (conf l s []) (tried_of codes ans))
  unfolding run_on steps_on
  run_folds h g e =
      let model : SoundModel m = test_model h (also_left (sound_model m) (sound_control m l s) e) in
      let table : Sound l s.count = table_right m l s g (also_right (sound_model m) (sound_control m l s) e) in
      rw e
      (folds (layout_of m) (known_ops m model) m.machine_count rs (tried_of codes ans) rs l s [] ans 0
      (record {
        small = table.room;
        zeros = table.zeros;
        steps = omega arith;
        most = steps_most m l s (also_right (sound_model m) (sound_control m l s) e);
        long = refl;
        records = none;
        past = λ p n. refl;
      }))

  -- "first breaking step or 0" and "accepts of any program", over the records of the run: those of its events
  pub run_breaks : {f : Folded} {c : Course} → Folds rs ans 0 c f → (k : Claim) → ShortPath k
      → first_break_on c.records c.ran.events k ≡ first_break k f.at.events
  run_breaks {f} {c} r k p = rw r.events (first_break_is c.records k p r.records (omega (arith, r.few)))

  pub run_accepts : {f : Folded} {c : Course} → Folds rs ans 0 c f → accepts_on c.records c.ran.events ≡ accepts_all f.at.events
  run_accepts {f} {c} r = rw r.events (all_accepts_is c.records r.records)

  pub run_refused : is_sound m l s ≡ false
      → run_on l m s codes ans rs ≡ course (ran s 0 (shorter (length codes) (length ans))) l (filled 11 (shorter (length codes) (length ans)) 0 ans) rs
  unfolding run_on all_refused
  run_refused e = rw e

  -- folding the inner step is folding the checked one, P being what holds of every configuration that the run comes to
  pub folds_checked : (P : List ℕ → Control → Type 0) → ((t : List ℕ) (c : Control) → P t c → is_sound m t c ≡ true)
      → ((t : List ℕ) (c : Control) (code : ℕ) → P t c → (e : Happening) → (inner_step t m c code).out.reply ≡ Permitted e
      → P (inner_step t m c code).table (inner_step t m c code).out.control)
      → P l s
      → fold_steps (λ t c code. inner_step t m c code) (room_in rs) (conf l s []) (tried_of codes ans)
      ≡ fold_steps (λ t c code. step_checked t m c code) (room_in rs) (conf l s []) (tried_of codes ans)
  folds_checked P sound kept p =
      fold_same (λ t c code. inner_step t m c code) (λ t c code. step_checked t m c code) P
      (λ t c code q. sym (inner_agrees t m c code (sound t c q))) kept (room_in rs) (tried_of codes ans) l s [] p

-- an unsound configuration: each code is refused by 11, and nothing else happens
filled_sets : (n i : ℕ) (l : List ℕ) → filled 11 n i l ≡ sets l i (replicate n 11)
unfolding filled
filled_sets zero i l = refl
filled_sets (suc n) i l = filled_sets n (i + 1) (set l i 11) ∙ ap (λ (j : ℕ). sets (set l i 11) j (replicate n 11)) (add-one i)

shorter_both : (m n : ℕ) → (shorter m n ≤ m) × (shorter m n ≤ n)
unfolding shorter
shorter_both m n = by (ltb m n) refl
  where
    by : (b : Bool) → ltb m n ≡ b → (pick b m n ≤ m) × (pick b m n ≤ n)
    by true e = let h : m < n = ltb-true m n e in (omega arith, omega arith)
    by false e = let h : n ≤ m = ltb-false m n e in (omega arith, omega arith)

module _ (m : Model) (l : List ℕ) (s : Control) (room : ℕ) (e : is_sound m l s ≡ false) where
  all_eleven : (codes : List ℕ) (hs : List Happening)
      → fold_steps (λ t c code. step_checked t m c code) room (conf l s hs) codes ≡ folded (replicate (length codes) 11) (conf l s hs)
  unfolding fold_steps
  all_eleven [] hs = refl
  all_eleven (code ∷ codes) hs = rw (unsound_refused l m s code e) (ap (λ (x : Folded). with_answer 11 x) (all_eleven codes hs))

module _ (m : Model) (l : List ℕ) (s : Control) (codes ans rs : List ℕ) where
  refused_folds : is_sound m l s ≡ false
      → Folds rs ans 0 (run_on l m s codes ans rs) (fold_steps (λ t c code. step_checked t m c code) (room_in rs) (conf l s []) (tried_of codes ans))
  refused_folds e =
      let n : ℕ = shorter (length codes) (length ans) in
      let k : length (tried_of codes ans) ≡ n = length-take-le n codes (shorter_both (length codes) (length ans)).0 in
      rw (run_refused m l s codes ans rs e, all_eleven m l s (room_in rs) e (tried_of codes ans) [], k)
      (record {
        table = refl;
        control = refl;
        events = refl;
        tried = sym (zero-add (length (replicate n 11)) ∙ length-replicate n 11);
        answers = filled_sets n 0 ans;
        long = refl;
        records = none;
        past = λ p h. refl;
        few = omega arith;
      })

  -- M7, whole: for every input the run is folding the checked step, as soon as soundness (P) is kept by permitted steps
  pub run_checked : length m.lines ≡ 512 → length l ≡ 512
      → (P : List ℕ → Control → Type 0) → ((t : List ℕ) (c : Control) → P t c → is_sound m t c ≡ true)
      → ((t : List ℕ) (c : Control) (code : ℕ) → P t c → (e : Happening) → (inner_step t m c code).out.reply ≡ Permitted e
      → P (inner_step t m c code).table (inner_step t m c code).out.control)
      → (is_sound m l s ≡ true → P l s)
      → Folds rs ans 0 (run_on l m s codes ans rs) (fold_steps (λ t c code. step_checked t m c code) (room_in rs) (conf l s []) (tried_of codes ans))
  run_checked h g P sound kept fits = by (is_sound m l s) refl
    where
      by : (b : Bool) → is_sound m l s ≡ b
          → Folds rs ans 0 (run_on l m s codes ans rs) (fold_steps (λ t c code. step_checked t m c code) (room_in rs) (conf l s []) (tried_of codes ans))
      by true e =
          subst (λ (f : Folded). Folds rs ans 0 (run_on l m s codes ans rs) f) (folds_checked m l s codes ans rs P sound kept (fits e))
          (run_folds m l s codes ans rs h g e)
      by false e = refused_folds e
