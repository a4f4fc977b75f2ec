-- M3, the beginning: the fresh configuration of a sound model, with the model's own table, is sound.
use Prim.Native.Nat.{ℕ, ◌+◌, ◌*◌, ◌<◌, ◌≤◌}
use mathlib.Core.Path.{◌≡◌, refl, ap, ◌∙◌}
use mathlib.Core.Bool.{Bool, true, false}
use mathlib.Core.List.{List}
use native.Mathlib.Omega.{arith}
use lib.ListN.{length, get_or, replicate, length-replicate, get_or-replicate, get_or-eq_default}
use lib.Dec.{ltb, leb}
use borrow.Author.Tests.{ltb-true, ltb-false, lt-ltb, le-ltb}
use Rattle.terms.specs.Base.{pick}
use Rattle.terms.specs.Term.{term}
use Rattle.terms.specs.Line.{grade, term_in, term_at}
use Rattle.terms.specs.Table.{fixed_line}
use Rattle.terms.specs.Sound.{Sound}
use Rattle.terms.specs.declared.term.Term.{Term}
use Rattle.terms.proofs.Pack.{Small, term_packed}
use Rattle.model.specs.Records.{location_in, location_at}
use Rattle.model.specs.declared.records.Model.{Model}
use Rattle.model.proofs.Tests.{also_never}
use Rattle.state.specs.Slot.{thread, pack_slot, slot_in, slot_at}
use Rattle.state.specs.Control.{fresh_slot, fresh_slots, fresh_frame, first_value, first_values, fresh_control}
use Rattle.state.specs.declared.slot.Slot.{Slot}
use Rattle.state.proofs.Laws.{up_at, up_long}
use Rattle.state.proofs.Threads.{never}
use Rattle.state.proofs.Fresh.{fresh_sound}
use Rattle.audit.specs.Sound.{SoundModel}
use Rattle.audit.specs.Configuration.{is_bound}
use Rattle.audit.specs.Whole.{Arrays, SoundTerms, Stored, SoundValues, SoundVars, SoundConfig}
use Rattle.audit.proofs.Whole.{sound_grounds}

-- the fixed terms are of kinds 0, 1 and 2
fixed_small : (i : ℕ) → i < 3 → Small (term i 0 0)
fixed_small i h = record { kind = omega arith; first = omega arith; second = omega arith }

fixed_kind : (l : List ℕ) (c i : ℕ) → Sound l c → i < 3 → (term_at l i).kind ≡ i
unfolding fixed_line
fixed_kind l c i S h = ap (λ (n : ℕ). (term_in n).kind) (S.fixed i h) ∙ ap (λ (x : Term). x.kind) (term_packed (term i 0 0) (grade 1 true) (fixed_small i h))

module _ {m : Model} (M : SoundModel m) (A : Arrays m) where
  no_nonce : (i : ℕ) → i < m.count → (b : Bool) → ltb i 3 ≡ b → (term_at m.lines i).kind ≡ 7 → ⊥
  no_nonce i h true e k = omega (arith, ltb-true i 3 e, k, fixed_kind m.lines m.count i M.table (ltb-true i 3 e))
  no_nonce i h false e k = M.nonces i (ltb-false i 3 e) h k

  code_named : (i : ℕ) → i < m.count → (b : Bool) → ltb i 3 ≡ b → (term_at m.lines i).kind ≡ 8 → (term_at m.lines i).a < m.programs
  code_named i h true e k = absurd (omega (arith, ltb-true i 3 e, k, fixed_kind m.lines m.count i M.table (ltb-true i 3 e)))
  code_named i h false e k = M.codes i (ltb-false i 3 e) h k

  fresh_terms : SoundTerms m m.lines m.count 0
  fresh_terms = record {
    table = M.table;
    long = A.lines;
    more = omega arith;
    begins = λ i h. refl;
    nonces = λ i h k. absurd (no_nonce i h (ltb i 3) refl k);
    codes = λ i h k. code_named i h (ltb i 3) refl k;
  }

-- values
module _ (m : Model) where
  first_at : (i : ℕ) → i < 32 → get_or (first_values (λ v. v) m.locations) i 0 ≡ (location_at m.locations i).value
  unfolding first_values first_value
  first_at i h = up_at (λ (j : ℕ). (location_at m.locations j).value) 32 0 i 0 h ∙ ap (λ (j : ℕ). (location_at m.locations j).value) (omega arith)

  first_long : length (first_values (λ (v : ℕ). v) m.locations) ≡ 32
  unfolding first_values first_value
  first_long = up_long (λ (j : ℕ). (location_at m.locations j).value) 32 0

  none_there : (i : ℕ) → i < 32 → get_or m.locations i 0 ≡ 0 → (location_at m.locations i).value ≡ 0
  unfolding location_at location_in
  none_there i h e = rw (lt-ltb i 32 h, e)

  first_past : SoundModel m → (i : ℕ) → m.location_count ≤ i → (b : Bool) → ltb i 32 ≡ b → get_or (first_values (λ (v : ℕ). v) m.locations) i 0 ≡ 0
  first_past M i h true e = first_at i (ltb-true i 32 e) ∙ none_there i (ltb-true i 32 e) (M.zeros.locations i h (ltb-true i 32 e))
  first_past M i h false e = get_or-eq_default (first_values (λ (v : ℕ). v) m.locations) 0 {n = i} (omega (arith, first_long, ltb-false i 32 e))

  first_stored : SoundModel m → (i : ℕ) → i < m.location_count → Stored m.lines m.count (get_or (first_values (λ (v : ℕ). v) m.locations) i 0)
  first_stored M i h =
      let e = first_at i (omega (arith, M.most_locations, h)) in
      let F = M.locations i h in
      rw e (record { below = F.below; grounded = F.grounded })

  first_sound : SoundModel m → SoundValues m m.lines m.count (first_values (λ (v : ℕ). v) m.locations)
  first_sound M = record { long = first_long; listed = first_stored M; past = λ i h. first_past M i h (ltb i 32) refl }

-- a thread before its first action has bound nothing
pub start_unbound : (s : Slot) (k : ℕ) → s.position ≡ 0 → is_bound s k ≡ false
unfolding is_bound
start_unbound s k e = let h : s.position ≤ k = omega arith in rw (le-ltb k s.position h) (also_never s.live)

pub start_packed : (s a m p : ℕ) → (slot_in (pack_slot (thread s a m p 0))).position ≡ 0
unfolding slot_in pack_slot
start_packed s a m p = omega arith

pub zero_start : (slot_in 0).position ≡ 0
unfolding slot_in
zero_start = refl

-- variables
module _ (m : Model) where
  started_by : (b : Bool) (x y z w : ℕ) → (slot_in (pick b 0 (pack_slot (thread x y z w 0)))).position ≡ 0
  started_by true x y z w = zero_start
  started_by false x y z w = start_packed x y z w

  fresh_start : (i : ℕ) → i < 12 → (slot_at (fresh_slots m.threads m.thread_count) i).position ≡ 0
  unfolding slot_at fresh_slots fresh_slot
  fresh_start i h =
      rw (lt-ltb i 12 h, up_at (fresh_slot m.threads m.thread_count) 12 0 i 0 h) (started_by (leb m.thread_count (0 + i)) _ _ _ _)

  none_bound : (j : ℕ) → j < 192 → get_or {A = ℕ} (replicate 192 0) j 0 ≡ 0
  none_bound j h = get_or-replicate {A = ℕ} 192 j 0 0 h

  fresh_vars : (l : List ℕ) (n : ℕ) → SoundVars l n (fresh_slots m.threads m.thread_count) (replicate 192 0)
  fresh_vars l n = record {
    long = length-replicate {A = ℕ} 192 0;
    each = λ i k h g. record {
      bound = λ e. absurd (never _ e (start_unbound _ k (fresh_start i h)));
      unbound = λ e. none_bound (i * 16 + k) (omega arith);
    };
  }

-- M3: fresh of a sound model is sound
pub fresh_passes : {m : Model} → SoundModel m → Arrays m → SoundConfig m m.lines (fresh_control m)
unfolding fresh_control fresh_frame
fresh_passes {m} M A = record {
  frame = fresh_sound m (sound_grounds M A);
  terms = fresh_terms M A;
  values = first_sound m M;
  vars = fresh_vars m m.lines m.count;
}
