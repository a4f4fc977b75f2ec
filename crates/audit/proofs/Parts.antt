-- The tests of a configuration's table, values and variables say exactly that these are sound, part by part.
use Prim.Native.Nat.{ℕ, ◌+◌, ◌*◌, ◌/◌, ◌%◌, ◌<◌, ◌≤◌}
use mathlib.Core.Path.{◌≡◌, refl, sym, ◌∙◌}
use mathlib.Core.Bool.{Bool, true, false}
use mathlib.Core.List.{List}
use native.Mathlib.Omega.{arith}
use lib.ListN.{length, get_or, get_or-eq_default}
use lib.Dec.{ltb, leb, eqb}
use borrow.Author.Tests.{ltb-true, ltb-false, leb-true, eqb-true, lt-ltb, le-ltb, le-leb, eq-eqb, ne_eqb}
use Rattle.terms.specs.Base.{also}
use Rattle.terms.specs.Line.{line_at, term_in, ground_in}
use Rattle.terms.specs.Sound.{Sound, sound_test}
use Rattle.terms.proofs.Meaning.{also_left, also_right, also_both, ground_right}
use Rattle.terms.proofs.Check.{test_sound, sound_test_lem}
use Rattle.model.specs.declared.records.Model.{Model}
use Rattle.model.proofs.Tests.{pick_yes, pick_no, pass_by}
use Rattle.state.specs.Slot.{slot_at}
use Rattle.state.specs.declared.slot.Slot.{Slot}
use Rattle.audit.specs.Listed.{stored_value}
use Rattle.audit.specs.Models.{names_program}
use Rattle.audit.specs.Configuration.{begins_with, leaf_sound, leaves_sound, table_sound, is_bound, var_sound, vars_sound, value_sound, values_sound}
use Rattle.terms.proofs.Each.{each_at, at_each}
use Rattle.audit.specs.Whole.{SoundTerms, Stored, SoundValues, VarSound, SoundVars}

-- the label of a ground term
module _ {l : List ℕ} {n : ℕ} (S : Sound l n) (long : length l ≡ 512) where
  pub stored_right : (v : ℕ) → stored_value l n v ≡ true → Stored l n v
  unfolding stored_value
  stored_right v e =
      let b : v < n = ltb-true v n (also_left (ltb v n) (ground_in (line_at l v)) e) in
      record { below = b; grounded = sym (ground_right S long v b) ∙ also_right (ltb v n) (ground_in (line_at l v)) e }

  pub stored_pass : (v : ℕ) → Stored l n v → stored_value l n v ≡ true
  unfolding stored_value
  stored_pass v s = also_both (lt-ltb v n s.below) (ground_right S long v s.below ∙ s.grounded)

-- leaves
leaf_nonce : (x programs nonce : ℕ) → leaf_sound x programs nonce ≡ true → (term_in x).kind ≡ 7 → (term_in x).a < nonce
unfolding leaf_sound
leaf_nonce x p n e h = ltb-true (term_in x).a n (pick_yes (eqb (term_in x).kind 7) (ltb (term_in x).a n) (names_program (term_in x) p) (eq-eqb (term_in x).kind 7 h) e)

leaf_named : (x programs nonce : ℕ) → leaf_sound x programs nonce ≡ true → (term_in x).kind ≡ 8 → names_program (term_in x) programs ≡ true
unfolding leaf_sound
leaf_named x p n e h =
    pick_no (eqb (term_in x).kind 7) (ltb (term_in x).a n) (names_program (term_in x) p) (ne_eqb (term_in x).kind 7 (λ z. omega (arith, h, z))) e

leaf_code : (x programs nonce : ℕ) → leaf_sound x programs nonce ≡ true → (term_in x).kind ≡ 8 → (term_in x).a < programs
unfolding names_program
leaf_code x p n e h =
    ltb-true (term_in x).a p (pick_yes (eqb (term_in x).kind 8) (ltb (term_in x).a p) true (eq-eqb (term_in x).kind 8 h) (leaf_named x p n e h))

leaf_pass : (x programs nonce : ℕ) → ((term_in x).kind ≡ 7 → (term_in x).a < nonce) → ((term_in x).kind ≡ 8 → (term_in x).a < programs)
    → leaf_sound x programs nonce ≡ true
unfolding leaf_sound names_program
leaf_pass x p n f g =
    pass_by (eqb (term_in x).kind 7) (ltb (term_in x).a n) _ (λ e. lt-ltb _ _ (f (eqb-true _ _ e)))
    (λ d. pass_by (eqb (term_in x).kind 8) (ltb (term_in x).a p) true (λ e. lt-ltb _ _ (g (eqb-true _ _ e))) (λ e. refl))

-- the table
module _ (m : Model) (l : List ℕ) (n nonce : ℕ) (long : length l ≡ 512) where
  pub terms_right : table_sound m l n nonce ≡ true → SoundTerms m l n nonce
  unfolding table_sound begins_with leaves_sound
  terms_right e =
      let p1 = sound_test l n in let p2 = leb m.count n in let p3 = begins_with l m.lines m.count in let p4 = leaves_sound l n m.programs nonce in
      let e2 = also_right p1 (also p2 (also p3 p4)) e in
      let e3 = also_right p2 (also p3 p4) e2 in
      let leaves : (i : ℕ) → i < n → leaf_sound (line_at l i) m.programs nonce ≡ true = each_at n _ (also_right p3 p4 e3) in
      record {
        table = test_sound long (also_left p1 (also p2 (also p3 p4)) e);
        long = long;
        more = leb-true m.count n (also_left p2 (also p3 p4) e2);
        begins = λ i h. eqb-true (line_at l i) (line_at m.lines i) (each_at m.count _ (also_left p3 p4 e3) i h);
        nonces = λ i h. leaf_nonce (line_at l i) m.programs nonce (leaves i h);
        codes = λ i h. leaf_code (line_at l i) m.programs nonce (leaves i h);
      }

  pub terms_pass : SoundTerms m l n nonce → table_sound m l n nonce ≡ true
  unfolding table_sound begins_with leaves_sound
  terms_pass t =
      also_both (sound_test_lem long t.table)
      (also_both (le-leb m.count n t.more)
      (also_both (at_each m.count _ (λ i h. eq-eqb (line_at l i) (line_at m.lines i) (t.begins i h)))
      (at_each n _ (λ i h. leaf_pass (line_at l i) m.programs nonce (t.nonces i h) (t.codes i h)))))

-- values and variables
module _ {l : List ℕ} {n : ℕ} (S : Sound l n) (long : length l ≡ 512) where
  value_right : (v : ℕ) (b : Bool) → value_sound v l n b ≡ true → b ≡ true → Stored l n v
  unfolding value_sound
  value_right v b e h = stored_right S long v (pick_yes b (stored_value l n v) (eqb v 0) h e)

  value_none : (v : ℕ) (b : Bool) → value_sound v l n b ≡ true → b ≡ false → v ≡ 0
  unfolding value_sound
  value_none v b e h = eqb-true v 0 (pick_no b (stored_value l n v) (eqb v 0) h e)

  value_pass : (v : ℕ) (b : Bool) → (b ≡ true → Stored l n v) → (b ≡ false → v ≡ 0) → value_sound v l n b ≡ true
  unfolding value_sound
  value_pass v b f g = pass_by b (stored_value l n v) (eqb v 0) (λ e. stored_pass S long v (f e)) (λ e. eq-eqb v 0 (g e))

  pub values_right : (m : Model) (vs : List ℕ) → length vs ≡ 32 → m.location_count ≤ 32 → values_sound vs l n m.location_count ≡ true
      → SoundValues m l n vs
  unfolding values_sound
  values_right m vs h most e = record {
    long = h;
    listed = λ i g. value_right (get_or vs i 0) (ltb i m.location_count) (each_at 32 _ e i (omega arith)) (lt-ltb i m.location_count g);
    past = past;
  }
    where
      by : (i : ℕ) → m.location_count ≤ i → (b : Bool) → ltb i 32 ≡ b → get_or vs i 0 ≡ 0
      by i g true t = value_none (get_or vs i 0) (ltb i m.location_count) (each_at 32 _ e i (ltb-true i 32 t)) (le-ltb i m.location_count g)
      by i g false t = get_or-eq_default vs 0 {n = i} (omega (arith, h, ltb-false i 32 t))

      past : (i : ℕ) → m.location_count ≤ i → get_or vs i 0 ≡ 0
      past i g = by i g (ltb i 32) refl

  pub values_pass : (m : Model) (vs : List ℕ) → SoundValues m l n vs → values_sound vs l n m.location_count ≡ true
  unfolding values_sound
  values_pass m vs s =
      at_each 32 _ (λ i h. value_pass (get_or vs i 0) (ltb i m.location_count) (λ e. s.listed i (ltb-true i _ e)) (λ e. s.past i (ltb-false i _ e)))

  var_right : (v : ℕ) (s : Slot) (k : ℕ) → var_sound v s k l n ≡ true → VarSound l n s k v
  unfolding var_sound
  var_right v s k e = record {
    bound = λ h. stored_right S long v (pick_yes (is_bound s k) (stored_value l n v) (eqb v 0) h e);
    unbound = λ h. eqb-true v 0 (pick_no (is_bound s k) (stored_value l n v) (eqb v 0) h e);
  }

  var_pass : (v : ℕ) (s : Slot) (k : ℕ) → VarSound l n s k v → var_sound v s k l n ≡ true
  unfolding var_sound
  var_pass v s k t = pass_by (is_bound s k) (stored_value l n v) (eqb v 0) (λ e. stored_pass S long v (t.bound e)) (λ e. eq-eqb v 0 (t.unbound e))

  pub vars_right : (slots vars : List ℕ) → length vars ≡ 192 → vars_sound vars slots l n ≡ true → SoundVars l n slots vars
  unfolding vars_sound
  vars_right slots vars h e = record { long = h; each = one }
    where
      one : (i k : ℕ) → i < 12 → k < 16 → VarSound l n (slot_at slots i) k (get_or vars (i * 16 + k) 0)
      one i k p q =
          let j : ℕ = i * 16 + k in
          let a : j / 16 ≡ i = omega arith in
          let b : j % 16 ≡ k = omega arith in
          rw (a, b) at (var_right (get_or vars j 0) (slot_at slots (j / 16)) (j % 16) (each_at 192 _ e j (omega arith)))

  pub vars_pass : (slots vars : List ℕ) → SoundVars l n slots vars → vars_sound vars slots l n ≡ true
  unfolding vars_sound
  vars_pass slots vars s = at_each 192 _ one
    where
      one : (j : ℕ) → j < 192 → var_sound (get_or vars j 0) (slot_at slots (j / 16)) (j % 16) l n ≡ true
      one j h =
          let a : j / 16 * 16 + j % 16 ≡ j = omega arith in
          var_pass (get_or vars j 0) (slot_at slots (j / 16)) (j % 16) (rw a at (s.each (j / 16) (j % 16) (omega arith) (omega arith)))
