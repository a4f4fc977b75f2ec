-- What is sound in a model passes the test of a model, part by part.
use Prim.Native.Nat.{ℕ, ◌+◌, ◌-◌, ◌<◌}
use mathlib.Core.Path.{◌≡◌, refl}
use mathlib.Core.Bool.{Bool, true, false}
use native.Mathlib.Omega.{arith}
use lib.ListN.{length, get_or}
use lib.Dec.{ltb, leb, eqb}
use borrow.Author.Tests.{ltb-true, ltb-false, leb-true, leb-false, eqb-true, lt-ltb, le-leb, eq-eqb, ne_eqb}
use Rattle.terms.specs.Line.{line_at, term_in}
use Rattle.terms.specs.Meaning.{tree_of}
use Rattle.terms.specs.declared.term.Term.{Term}
use Rattle.terms.proofs.Meaning.{also_both}
use Rattle.model.specs.Records.{action_in, action_number, location_in, length_at}
use Rattle.model.specs.Fields.{names_location, closing, is_memory}
use Rattle.model.specs.declared.records.Action.{Action}
use Rattle.model.specs.declared.records.Model.{Model}
use Rattle.model.proofs.Tests.{pass_by}
use Rattle.audit.specs.Tops.{topmost, top_at, tops_of}
use Rattle.audit.specs.Programs.{listed_and_fits, loc_fits, operand_fits, action_fits, last_if_closing}
use Rattle.audit.specs.Programs.{action_sound, actions_sound, length_fits, program_sound, new_program}
use Rattle.audit.specs.Listed.{machine_sound, first_fits, location_sound, thread_sound}
use Rattle.audit.specs.Claims.{path_program, path_sound, claim_sound}
use Rattle.audit.specs.Models.{names_program, may_be_listed, terms_listed}
use Rattle.audit.specs.Sound.{FitOperand, FitLoc, FitAction, SoundModel}
use Rattle.terms.proofs.Each.{at_all, at_each}
use Rattle.audit.proofs.Highest.{top_right}
use Rattle.model.proofs.Places.{machine_in_lem, location_in_lem, thread_in_lem, action_in_lem}
use Rattle.audit.proofs.Parts.{stored_pass}

module _ (m : Model) (M : SoundModel m) (long : length m.lines ≡ 512) where
  pub machine_pass : (i : ℕ) → i < 4 → machine_sound (get_or m.machines i 0) (ltb i m.machine_count) m.programs ≡ true
  unfolding machine_sound
  machine_pass i g =
      pass_by (ltb i m.machine_count) _ _
      (λ e.
      let F = M.machines i (ltb-true i m.machine_count e) in
      let s = machine_in_lem m.machines i g in
      also_both (eq-eqb _ _ (rw s at F.exact)) (also_both (lt-ltb _ _ (rw s at F.boot)) (lt-ltb _ _ (rw s at F.launch))))
      (λ e. eq-eqb _ _ (M.zeros.machines i (ltb-false i m.machine_count e) g))

  pub thread_pass : (i : ℕ) → i < 8 → thread_sound (get_or m.threads i 0) (ltb i m.thread_count) m.machine_count m.programs ≡ true
  unfolding thread_sound
  thread_pass i g =
      pass_by (ltb i m.thread_count) _ _
      (λ e.
      let F = M.threads i (ltb-true i m.thread_count e) in
      let s = thread_in_lem m.threads i g in
      also_both (eq-eqb _ _ (rw s at F.exact)) (also_both (lt-ltb _ _ (rw s at F.machine)) (lt-ltb _ _ (rw s at F.program))))
      (λ e. eq-eqb _ _ (M.zeros.threads i (ltb-false i m.thread_count e) g))

  first_pass : (kind value : ℕ) → (is_memory kind ≡ false → value ≡ 1) → first_fits kind value ≡ true
  unfolding first_fits
  first_pass kind value f = pass_by (is_memory kind) _ _ (λ e. refl) (λ e. eq-eqb _ _ (f e))

  pub location_pass : (i : ℕ) → i < 32
      → location_sound (get_or m.locations i 0) (ltb i m.location_count) m.machine_count m.lines m.count ≡ true
  unfolding location_sound
  location_pass i g =
      let n : ℕ = get_or m.locations i 0 in
      pass_by (ltb i m.location_count) _ _
      (λ e.
      let F = M.locations i (ltb-true i m.location_count e) in
      let s = location_in_lem m.locations i g in
      also_both (eq-eqb _ _ (rw s at F.exact))
      (also_both (lt-ltb _ _ (rw s at F.machine))
      (also_both (lt-ltb _ _ (rw s at F.kind))
      (also_both (stored_pass M.table long (location_in n).value (record { below = rw s at F.below; grounded = rw s at F.grounded }))
      (first_pass (location_in n).kind (location_in n).value (rw s at F.register))))))
      (λ e. eq-eqb _ _ (M.zeros.locations i (ltb-false i m.location_count e) g))

  pub claim_pass : claim_sound m.claim m.programs m.machine_count ≡ true
  unfolding claim_sound path_sound path_program
  claim_pass =
      let F = M.claim in
      also_both (lt-ltb _ _ F.kind)
      (also_both (lt-ltb _ _ F.program)
      (also_both (lt-ltb _ _ F.machine)
      (also_both (le-leb _ _ F.some)
      (also_both (le-leb _ _ F.most)
      (at_each 4 _ (λ i g.
      pass_by (ltb i m.claim.length) _ _ (λ e. lt-ltb _ _ (M.claim.path i (ltb-true _ _ e)))
      (λ e. eq-eqb _ _ (M.claim.past i (ltb-false _ _ e) g))))))))

  operand_pass : (k label : ℕ) → FitOperand m k label → operand_fits (tops_of m.lines) label k m.count ≡ true
  unfolding operand_fits
  operand_pass k label F =
      let top : top_at (tops_of m.lines) label ≡ topmost (tree_of m.lines m.count label) = top_right M.table long label F.below in
      also_both (lt-ltb _ _ F.below) (rw top (le-leb _ _ F.earlier))

  loc_pass : (a : Action) → (names_location a.op ≡ true → FitLoc m a) → loc_fits m.locations a m.location_count ≡ true
  unfolding loc_fits listed_and_fits
  loc_pass a f = pass_by (names_location a.op) _ _ (λ e. let F = f e in also_both (lt-ltb _ _ F.below) F.kind) (λ e. refl)

  last_pass : (op k n : ℕ) → (closing op ≡ true → k + 1 ≡ n) → last_if_closing op k n ≡ true
  unfolding last_if_closing
  last_pass op k n f = pass_by (closing op) _ _ (λ e. eq-eqb _ _ (f e)) (λ e. refl)

  fits_pass : (a : Action) (k n : ℕ) → FitAction m k n a → action_fits a m.locations (tops_of m.lines) k m.location_count m.count ≡ true
  unfolding action_fits
  fits_pass a k n F = also_both F.form (also_both (loc_pass a F.loc) (also_both (operand_pass k a.x F.x) (operand_pass k a.y F.y)))

  -- a program with an action is a listed one
  program_there : (p k : ℕ) → k < length_at m.lengths p → p < m.programs
  program_there p k h = by (ltb p m.programs) refl
    where
      by : (t : Bool) → ltb p m.programs ≡ t → p < m.programs
      by true e = ltb-true p m.programs e
      by false e = absurd (omega (arith, h, M.zeros.lengths p (ltb-false p m.programs e)))

  action_pass : (p k : ℕ) → p < 32 → k < 16
      → action_sound (action_number m.actions p k) m.locations (tops_of m.lines) k (length_at m.lengths p) m.location_count m.count ≡ true
  unfolding action_sound
  action_pass p k h g =
      let n : ℕ = action_number m.actions p k in
      let size : ℕ = length_at m.lengths p in
      pass_by (leb size k) _ _ (λ e. eq-eqb _ _ (M.zeros.actions p k h (leb-true _ _ e) g))
      (λ e.
      let b : k < size = leb-false _ _ e in
      let P = M.programs p (program_there p k b) in
      let s = action_in_lem m.actions p k in
      let F : FitAction m k size (action_in n) = rw s at (P.actions k b) in
      also_both (eq-eqb _ _ (rw s at (P.exact k b))) (also_both (last_pass (action_in n).op k size F.last) (fits_pass (action_in n) k size F)))

  length_pass : (p : ℕ) → length_fits p (length_at m.lengths p) m.programs ≡ true
  unfolding length_fits
  length_pass p =
      pass_by (ltb p m.programs) _ _ (λ e. let P = M.programs p (ltb-true p m.programs e) in also_both (le-leb _ _ P.some) (le-leb _ _ P.most))
      (λ e. eq-eqb _ _ (M.zeros.lengths p (ltb-false p m.programs e)))

  actions_pass : (p : ℕ) → p < 32
      → actions_sound m.actions m.locations (tops_of m.lines) p (length_at m.lengths p) m.location_count m.count ≡ true
  unfolding actions_sound
  actions_pass p h = at_each 16 _ (λ k g. action_pass p k h g)

  pub program_pass : (p : ℕ) → p < 32 → program_sound m (tops_of m.lines) p ≡ true
  unfolding program_sound
  program_pass p h = also_both (length_pass p) (actions_pass p h)

  pub new_pass : (p : ℕ) → p < m.programs → new_program m.actions m.lengths p ≡ true
  unfolding new_program
  new_pass p h = at_each p _ (λ q g. rw ((M.programs p h).new q g))

  named_pass : (x : Term) → (x.kind ≡ 8 → x.a < m.programs) → names_program x m.programs ≡ true
  unfolding names_program
  named_pass x f = pass_by (eqb x.kind 8) _ _ (λ e. lt-ltb _ _ (f (eqb-true _ _ e))) (λ e. refl)

  listed_pass : (n : ℕ) → ((term_in n).kind ≡ 7 → ⊥) → ((term_in n).kind ≡ 8 → (term_in n).a < m.programs) → may_be_listed n m.programs ≡ true
  unfolding may_be_listed
  listed_pass n f g = rw (ne_eqb (term_in n).kind 7 f) (named_pass (term_in n) g)

  pub terms_pass : terms_listed m.lines m.count m.programs ≡ true
  unfolding terms_listed
  terms_pass = at_all (m.count - 3) 3 _ (λ i h g. listed_pass (line_at m.lines i) (M.nonces i h (omega arith)) (M.codes i h (omega arith)))
