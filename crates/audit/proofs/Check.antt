-- The test that the code runs over a model says exactly that the model is sound. So what is proved of sound models holds
-- of every model that the code has let through, and no sound model is turned away.
use Prim.Native.Nat.{ℕ, ◌<◌, ◌≤◌}
use mathlib.Core.Path.{◌≡◌}
use mathlib.Core.Bool.{true}
use native.Mathlib.Omega.{arith}
use lib.ListN.{length, get_or}
use lib.Dec.{ltb}
use borrow.Author.Tests.{leb-true, eqb-true, le-leb, eq-eqb}
use Rattle.terms.specs.Line.{line_at}
use Rattle.terms.specs.Sound.{Sound, sound_test}
use Rattle.terms.proofs.Meaning.{also_both}
use Rattle.terms.proofs.Check.{test_sound, sound_test_lem}
use Rattle.model.specs.declared.records.Model.{Model}
use Rattle.model.proofs.Tests.{both_pass}
use Rattle.audit.specs.Tops.{tops_of}
use Rattle.audit.specs.Programs.{program_sound, each_program, new_program, programs_differ, programs_sound}
use Rattle.audit.specs.Listed.{machine_sound, machines_sound, location_sound, each_location, locations_sound, thread_sound, threads_sound}
use Rattle.audit.specs.Claims.{claim_sound}
use Rattle.audit.specs.Models.{terms_listed, sound_model}
use Rattle.audit.specs.Sound.{ZeroPast, SoundModel}
use Rattle.terms.proofs.Each.{each_at, at_each}
use Rattle.audit.proofs.Fits.{action_none, claim_fit, code_named, lengths_past, location_fit, location_none, machine_fit}
use Rattle.audit.proofs.Fits.{machine_none, no_nonce, program_fit, term_listed, thread_fit, thread_none}
use Rattle.audit.proofs.Passes.{machine_pass, thread_pass, location_pass, claim_pass, program_pass, new_pass, terms_pass}

-- what the test asks, one after the other
record Passed (m : Model) : Type 0 where
  edition : m.edition ≡ 1
  table : sound_test m.lines m.count ≡ true
  listed : terms_listed m.lines m.count m.programs ≡ true
  some_program : 1 ≤ m.programs
  most_programs : m.programs ≤ 32
  programs : (p : ℕ) → p < 32 → program_sound m (tops_of m.lines) p ≡ true
  new : (p : ℕ) → p < m.programs → new_program m.actions m.lengths p ≡ true
  some_machine : 1 ≤ m.machine_count
  most_machines : m.machine_count ≤ 4
  machines : (i : ℕ) → i < 4 → machine_sound (get_or m.machines i 0) (ltb i m.machine_count) m.programs ≡ true
  most_locations : m.location_count ≤ 32
  locations : (i : ℕ) → i < 32 → location_sound (get_or m.locations i 0) (ltb i m.location_count) m.machine_count m.lines m.count ≡ true
  most_threads : m.thread_count ≤ 8
  threads : (i : ℕ) → i < 8 → thread_sound (get_or m.threads i 0) (ltb i m.thread_count) m.machine_count m.programs ≡ true
  claim : claim_sound m.claim m.programs m.machine_count ≡ true

passed : (m : Model) → sound_model m ≡ true → Passed m
unfolding sound_model programs_sound each_program programs_differ machines_sound locations_sound each_location threads_sound
passed m e =
    let a = both_pass _ _ e in
    let b = both_pass _ _ a.1 in
    let c = both_pass _ _ b.1 in
    let d = both_pass _ _ c.1 in
    let f = both_pass _ _ d.1 in
    let g = both_pass _ _ f.1 in
    let h = both_pass _ _ g.1 in
    let p1 = both_pass _ _ d.0 in
    let p2 = both_pass _ _ p1.1 in
    let p3 = both_pass _ _ p2.1 in
    let m1 = both_pass _ _ f.0 in
    let m2 = both_pass _ _ m1.1 in
    let l1 = both_pass _ _ g.0 in
    let t1 = both_pass _ _ h.0 in
    record {
      edition = eqb-true _ _ a.0;
      table = b.0;
      listed = c.0;
      some_program = leb-true _ _ p1.0;
      most_programs = leb-true _ _ p2.0;
      programs = each_at 32 _ p3.0;
      new = each_at m.programs _ p3.1;
      some_machine = leb-true _ _ m1.0;
      most_machines = leb-true _ _ m2.0;
      machines = each_at 4 _ m2.1;
      most_locations = leb-true _ _ l1.0;
      locations = each_at 32 _ l1.1;
      most_threads = leb-true _ _ t1.0;
      threads = each_at 8 _ t1.1;
      claim = h.1;
    }

zero_past_lem : (m : Model) → Passed m → ZeroPast m
zero_past_lem m P = record {
  lengths = lengths_past m P.programs;
  actions = λ p k a h g. action_none m p k (P.programs p a) h g;
  machines = λ i h g. machine_none m i h (P.machines i g);
  locations = λ i h g. location_none m i h (P.locations i g);
  threads = λ i h g. thread_none m i h (P.threads i g);
}

-- what passes the test is sound
pub test_model : {m : Model} → length m.lines ≡ 512 → sound_model m ≡ true → SoundModel m
test_model {m} long e =
    let P : Passed m = passed m e in
    let S : Sound m.lines m.count = test_sound long P.table in
    let most = P.most_programs in
    record {
      edition = P.edition;
      table = S;
      nonces = λ i h g. no_nonce m (line_at m.lines i) (term_listed m P.listed i h g);
      codes = λ i h g. code_named m (line_at m.lines i) (term_listed m P.listed i h g);
      some_program = P.some_program;
      most_programs = P.most_programs;
      programs = λ p h. program_fit m S long p h (P.programs p (omega (arith, most, h))) (P.new p h);
      some_machine = P.some_machine;
      most_machines = P.most_machines;
      machines = λ i h. machine_fit m i h P.most_machines (P.machines i (omega (arith, P.most_machines, h)));
      most_locations = P.most_locations;
      locations = λ i h. location_fit m S long i h P.most_locations (P.locations i (omega (arith, P.most_locations, h)));
      most_threads = P.most_threads;
      threads = λ i h. thread_fit m i h P.most_threads (P.threads i (omega (arith, P.most_threads, h)));
      claim = claim_fit m m.claim P.claim;
      zeros = zero_past_lem m P;
    }

-- what is sound passes the test
pub model_test : {m : Model} → length m.lines ≡ 512 → SoundModel m → sound_model m ≡ true
unfolding sound_model programs_sound each_program programs_differ machines_sound locations_sound each_location threads_sound
model_test {m} long M =
    also_both (eq-eqb _ _ M.edition)
    (also_both (sound_test_lem long M.table)
    (also_both (terms_pass m M long)
    (also_both (also_both (le-leb _ _ M.some_program)
    (also_both (le-leb _ _ M.most_programs) (also_both (at_each 32 _ (program_pass m M long)) (at_each m.programs _ (new_pass m M long)))))
    (also_both (also_both (le-leb _ _ M.some_machine) (also_both (le-leb _ _ M.most_machines) (at_each 4 _ (machine_pass m M long))))
    (also_both (also_both (le-leb _ _ M.most_locations) (at_each 32 _ (location_pass m M long)))
    (also_both (also_both (le-leb _ _ M.most_threads) (at_each 8 _ (thread_pass m M long)))
    (claim_pass m M long)))))))
