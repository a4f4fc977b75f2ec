-- What a passed test of a model says, part by part.
use Prim.Native.Nat.{ℕ, ◌-◌, ◌<◌, ◌≤◌}
use mathlib.Core.Path.{◌≡◌, refl}
use mathlib.Core.Bool.{Bool, true, false, not}
use native.Mathlib.Omega.{arith}
use lib.ListN.{length, get_or}
use lib.Dec.{ltb, eqb}
use borrow.Author.Tests.{ltb-true, ltb-false, leb-true, eqb-true, eqb-false, lt-ltb, le-ltb, le-leb, lt-leb, eq-eqb, not-true}
use Rattle.terms.specs.Line.{line_at, term_in}
use Rattle.terms.specs.Sound.{Sound}
use Rattle.terms.specs.Meaning.{tree_of}
use Rattle.terms.proofs.Meaning.{also_right}
use Rattle.model.specs.Records.{pack_action, action_in, action_number, action_at, length_at}
use Rattle.model.specs.Fields.{names_location}
use Rattle.model.specs.declared.records.Action.{Action}
use Rattle.model.specs.declared.records.Claim.{Claim}
use Rattle.model.specs.declared.records.Model.{Model}
use Rattle.model.proofs.Tests.{both_pass, pick_yes, pick_no}
use Rattle.audit.specs.Tops.{topmost, top_at, tops_of}
use Rattle.audit.specs.Programs.{listed_and_fits, loc_fits, operand_fits, action_fits, last_if_closing}
use Rattle.audit.specs.Programs.{action_sound, actions_sound, length_fits, program_sound, new_program}
use Rattle.audit.specs.Listed.{machine_sound, first_fits, location_sound, thread_sound}
use Rattle.audit.specs.Claims.{path_program, path_sound, claim_sound}
use Rattle.audit.specs.Models.{names_program, may_be_listed, terms_listed}
use Rattle.audit.specs.Sound.{FitOperand, FitLoc, FitAction, FitProgram, FitMachine, FitLocation, FitThread, FitClaim}
use Rattle.terms.proofs.Each.{all_at, each_at}
use Rattle.audit.proofs.Highest.{top_right}
use Rattle.model.proofs.Places.{machine_in_lem, location_in_lem, thread_in_lem, action_in_lem, length_none}
use Rattle.audit.proofs.Parts.{stored_right}

module _ (m : Model) where
  pub machine_fit : (i : ℕ) → i < m.machine_count → m.machine_count ≤ 4
      → machine_sound (get_or m.machines i 0) (ltb i m.machine_count) m.programs ≡ true → FitMachine m i
  unfolding machine_sound
  machine_fit i h g e =
      let s = machine_in_lem m.machines i (omega arith) in
      let a = both_pass _ _ (pick_yes _ _ _ (lt-ltb i m.machine_count h) e) in
      let b = both_pass _ _ a.1 in
      record { exact = rw s (eqb-true _ _ a.0); boot = rw s (ltb-true _ _ b.0); launch = rw s (ltb-true _ _ b.1) }

  pub machine_none : (i : ℕ) → m.machine_count ≤ i
      → machine_sound (get_or m.machines i 0) (ltb i m.machine_count) m.programs ≡ true → get_or m.machines i 0 ≡ 0
  unfolding machine_sound
  machine_none i h e = eqb-true _ _ (pick_no _ _ _ (le-ltb i m.machine_count h) e)

  pub thread_fit : (i : ℕ) → i < m.thread_count → m.thread_count ≤ 8
      → thread_sound (get_or m.threads i 0) (ltb i m.thread_count) m.machine_count m.programs ≡ true → FitThread m i
  unfolding thread_sound
  thread_fit i h g e =
      let s = thread_in_lem m.threads i (omega arith) in
      let a = both_pass _ _ (pick_yes _ _ _ (lt-ltb i m.thread_count h) e) in
      let b = both_pass _ _ a.1 in
      record { exact = rw s (eqb-true _ _ a.0); machine = rw s (ltb-true _ _ b.0); program = rw s (ltb-true _ _ b.1) }

  pub thread_none : (i : ℕ) → m.thread_count ≤ i
      → thread_sound (get_or m.threads i 0) (ltb i m.thread_count) m.machine_count m.programs ≡ true → get_or m.threads i 0 ≡ 0
  unfolding thread_sound
  thread_none i h e = eqb-true _ _ (pick_no _ _ _ (le-ltb i m.thread_count h) e)

  pub claim_fit : (c : Claim) → claim_sound c m.programs m.machine_count ≡ true → FitClaim m c
  unfolding claim_sound path_sound path_program
  claim_fit c e =
      let k = both_pass _ _ e in
      let v = both_pass _ _ k.1 in
      let n = both_pass _ _ v.1 in
      let s = both_pass _ _ n.1 in
      let t = both_pass _ _ s.1 in
      let most : c.length ≤ 4 = leb-true _ _ t.0 in
      record {
        kind = ltb-true _ _ k.0;
        program = ltb-true _ _ v.0;
        machine = ltb-true _ _ n.0;
        some = leb-true _ _ s.0;
        most = most;
        path = λ i h. ltb-true _ _ (pick_yes _ _ _ (lt-ltb i c.length h) (each_at 4 _ t.1 i (omega arith)));
        past = λ i h g. eqb-true _ _ (pick_no _ _ _ (le-ltb i c.length h) (each_at 4 _ t.1 i g));
      }

  -- a term that a model lists
  pub no_nonce : (n : ℕ) → may_be_listed n m.programs ≡ true → (term_in n).kind ≡ 7 → ⊥
  unfolding may_be_listed
  no_nonce n e h = eqb-false _ _ (not-true _ (both_pass _ _ e).0) h

  pub code_named : (n : ℕ) → may_be_listed n m.programs ≡ true → (term_in n).kind ≡ 8 → (term_in n).a < m.programs
  unfolding may_be_listed names_program
  code_named n e h =
      let named : names_program (term_in n) m.programs ≡ true = also_right (not (eqb (term_in n).kind 7)) (names_program (term_in n) m.programs) e in
      ltb-true _ _ (pick_yes (eqb (term_in n).kind 8) (ltb (term_in n).a m.programs) true (eq-eqb _ _ h) named)

  pub term_listed : terms_listed m.lines m.count m.programs ≡ true → (i : ℕ) → 3 ≤ i → i < m.count
      → may_be_listed (line_at m.lines i) m.programs ≡ true
  unfolding terms_listed
  term_listed e i h g = all_at (m.count - 3) 3 _ e i h (omega arith)

  module _ (S : Sound m.lines m.count) (long : length m.lines ≡ 512) where
    pub location_fit : (i : ℕ) → i < m.location_count → m.location_count ≤ 32
        → location_sound (get_or m.locations i 0) (ltb i m.location_count) m.machine_count m.lines m.count ≡ true → FitLocation m i
    unfolding location_sound first_fits
    location_fit i h g e =
        let s = location_in_lem m.locations i (omega arith) in
        let a = both_pass _ _ (pick_yes _ _ _ (lt-ltb i m.location_count h) e) in
        let b = both_pass _ _ a.1 in
        let c = both_pass _ _ b.1 in
        let d = both_pass _ _ c.1 in
        let v = stored_right S long _ d.0 in
        record {
          exact = rw s (eqb-true _ _ a.0);
          machine = rw s (ltb-true _ _ b.0);
          kind = rw s (ltb-true _ _ c.0);
          below = rw s v.below;
          grounded = rw s v.grounded;
          register = rw s (λ r. eqb-true _ _ (pick_no _ _ _ r d.1));
        }

    operand_fit : (label k : ℕ) → operand_fits (tops_of m.lines) label k m.count ≡ true → FitOperand m k label
    unfolding operand_fits
    operand_fit label k e =
        let a = both_pass _ _ e in
        let below : label < m.count = ltb-true _ _ a.0 in
        let low : top_at (tops_of m.lines) label ≤ k = leb-true _ _ a.1 in
        let top : top_at (tops_of m.lines) label ≡ topmost (tree_of m.lines m.count label) = top_right S long label below in
        record { below = below; earlier = omega (arith, low, top) }

    loc_fit : (a : Action) → loc_fits m.locations a m.location_count ≡ true → names_location a.op ≡ true → FitLoc m a
    unfolding loc_fits listed_and_fits
    loc_fit a e h =
        let b = both_pass _ _ (pick_yes _ _ _ h e) in
        record { below = ltb-true _ _ b.0; kind = b.1 }

    action_fit : (a : Action) (k n : ℕ) → last_if_closing a.op k n ≡ true
        → action_fits a m.locations (tops_of m.lines) k m.location_count m.count ≡ true → FitAction m k n a
    unfolding last_if_closing action_fits
    action_fit a k n l e =
        let b = both_pass _ _ e in
        let c = both_pass _ _ b.1 in
        let d = both_pass _ _ c.1 in
        record {
          form = b.0;
          last = λ h. eqb-true _ _ (pick_yes _ _ _ h l);
          loc = loc_fit a c.0;
          x = operand_fit a.x k d.0;
          y = operand_fit a.y k d.1;
        }

    -- action k, before the end of its program
    action_judged_lem : (p k : ℕ) → length_at m.lengths p ≤ 16 → k < length_at m.lengths p
        → actions_sound m.actions m.locations (tops_of m.lines) p (length_at m.lengths p) m.location_count m.count ≡ true
        → (pack_action (action_at m.actions p k) ≡ action_number m.actions p k) × FitAction m k (length_at m.lengths p) (action_at m.actions p k)
    unfolding actions_sound action_sound
    action_judged_lem p k g h e =
        let a = both_pass _ _ (pick_no _ _ _ (lt-leb (length_at m.lengths p) k h) (each_at 16 _ e k (omega arith))) in
        let b = both_pass _ _ a.1 in
        let s = action_in_lem m.actions p k in
        (rw s (eqb-true _ _ a.0), rw s (action_fit (action_in (action_number m.actions p k)) k (length_at m.lengths p) b.0 b.1))

    pub program_fit : (p : ℕ) → p < m.programs → program_sound m (tops_of m.lines) p ≡ true → new_program m.actions m.lengths p ≡ true → FitProgram m p
    unfolding program_sound length_fits new_program
    program_fit p h e f =
        let a = both_pass _ _ e in
        let n = both_pass _ _ (pick_yes _ _ _ (lt-ltb p m.programs h) a.0) in
        let most : length_at m.lengths p ≤ 16 = leb-true _ _ n.1 in
        record {
          some = leb-true _ _ n.0;
          most = most;
          exact = λ k g. (action_judged_lem p k most g a.1).0;
          actions = λ k g. (action_judged_lem p k most g a.1).1;
          new = λ q g. not-true _ (each_at p _ f q g);
        }

  -- past the end of a program, and past the programs
  actions_judged : (p : ℕ) → program_sound m (tops_of m.lines) p ≡ true
      → actions_sound m.actions m.locations (tops_of m.lines) p (length_at m.lengths p) m.location_count m.count ≡ true
  unfolding program_sound
  actions_judged p e = also_right (length_fits p (length_at m.lengths p) m.programs) _ e

  pub action_none : (p k : ℕ) → program_sound m (tops_of m.lines) p ≡ true → length_at m.lengths p ≤ k → k < 16 → action_number m.actions p k ≡ 0
  unfolding actions_sound action_sound
  action_none p k e h g = eqb-true _ _ (pick_yes _ _ _ (le-leb (length_at m.lengths p) k h) (each_at 16 _ (actions_judged p e) k g))

  length_past : (p : ℕ) → program_sound m (tops_of m.lines) p ≡ true → m.programs ≤ p → length_at m.lengths p ≡ 0
  unfolding program_sound length_fits
  length_past p e h = eqb-true _ _ (pick_no _ _ _ (le-ltb p m.programs h) (both_pass _ _ e).0)

  pub lengths_past : ((p : ℕ) → p < 32 → program_sound m (tops_of m.lines) p ≡ true) → (p : ℕ) → m.programs ≤ p → length_at m.lengths p ≡ 0
  lengths_past f p h = by (ltb p 32) refl
    where
      by : (t : Bool) → ltb p 32 ≡ t → length_at m.lengths p ≡ 0
      by true e = length_past p (f p (ltb-true p 32 e)) h
      by false e = length_none m.lengths p (ltb-false p 32 e)

  pub location_none : (i : ℕ) → m.location_count ≤ i
      → location_sound (get_or m.locations i 0) (ltb i m.location_count) m.machine_count m.lines m.count ≡ true → get_or m.locations i 0 ≡ 0
  unfolding location_sound
  location_none i h e = eqb-true _ _ (pick_no _ _ _ (le-ltb i m.location_count h) e)
