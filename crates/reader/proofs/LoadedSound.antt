-- F2. A loaded model is sound: what the reader lets through keeps every rule that a sound model keeps.
use Prim.Native.Nat.{ℕ, ◌-◌, ◌<◌}
use mathlib.Core.Path.{◌≡◌, refl, sym, ◌∙◌}
use mathlib.Core.Bool.{Bool, true, false}
use mathlib.Core.List.{List}
use native.Mathlib.Omega.{arith}
use lib.ListN.{length, replicate}
use lib.Dec.{eqb, leb}
use borrow.Author.Tests.{leb-false, eqb-true, eqb-false, not-true}
use Rattle.terms.specs.Base.{pick}
use Rattle.terms.specs.Table.{fresh_table}
use Rattle.terms.proofs.Meaning.{ground_right}
use Rattle.model.specs.Records.{action_in, action_number, action_at, length_at}
use Rattle.model.specs.Fields.{names_location}
use Rattle.model.specs.declared.records.Action.{Action}
use Rattle.model.specs.declared.records.Model.{Model}
use Rattle.audit.specs.Programs.{new_program}
use Rattle.audit.specs.Models.{sound_model}
use Rattle.audit.specs.Sound.{FitOperand, FitAction, FitProgram, FitMachine, FitLocation, FitThread, FitClaim, ZeroPast, SoundModel}
use Rattle.terms.proofs.Each.{each_at}
use Rattle.model.proofs.Tests.{not_both}
use Rattle.model.proofs.Places.{machine_in_lem, location_in_lem, thread_in_lem, action_in_lem}
use Rattle.audit.proofs.Check.{model_test}
use Rattle.reader.specs.ALine.{location_past}
use Rattle.reader.specs.FirstReading.{Kept, first_reading}
use Rattle.reader.specs.SecondReading.{second_reading}
use Rattle.reader.specs.Load.{model_of, loaded, refused_with, load_second, load_first, load_of}
use Rattle.reader.specs.declared.draft.Draft.{Draft}
use Rattle.reader.specs.FirstReading.{Read}
use Rattle.reader.specs.SecondReading.{Second}
use Rattle.reader.specs.Load.{Loaded}
use Rattle.reader.proofs.LoadedFacts.{Operand, Drafted}
use Rattle.reader.proofs.LoadedFirst.{Whole, first_ends}
use Rattle.reader.proofs.LoadedSecond.{Named, second_named}

-- a location that is named is one of those listed
location_below : (a : Action) (count : ℕ) → names_location a.op ≡ true → location_past a count ≡ false → a.loc < count
unfolding location_past
location_below a count h e = leb-false count a.loc (not_both (names_location a.op) (leb count a.loc) e h)

module _ {l acts : List ℕ} {d : Draft} (D : Drafted l acts d) (N : Named l acts d) (last : d.group ≡ 7) where
  abbrev m : Model
  m = model_of l acts d

  operand_fit : (k label : ℕ) → Operand d.tops d.count k label → FitOperand m k label
  unfolding model_of
  operand_fit k label O = record { below = O.below; earlier = omega (arith, O.earlier, D.terms.right label O.below) }

  action_fit : (p k : ℕ) → p < d.programs → k < length_at d.lengths p → FitAction m k (length_at d.lengths p) (action_at acts p k)
  unfolding model_of
  action_fit p k h g =
      let s = action_in_lem acts p k in
      let A = D.programs.actions p k g in
      let S = N.actions p k h g in
      record {
        form = rw s A.form;
        last = rw s (D.programs.last p k g);
        loc = λ e. record { below = location_below (action_at acts p k) d.location_count e S.location; kind = S.kind };
        x = rw s (operand_fit k (action_in (action_number acts p k)).x A.x);
        y = rw s (operand_fit k (action_in (action_number acts p k)).y A.y);
      }

  program_fit : (p : ℕ) → p < d.programs → FitProgram m p
  unfolding model_of new_program
  program_fit p h =
      let some = D.programs.some p h in
      let n = (N.actions p (length_at d.lengths p - 1) h (omega arith)).new (omega arith) in
      record {
        some = some;
        most = D.programs.short p;
        exact = λ k g. rw (action_in_lem acts p k) (D.programs.actions p k g).exact;
        actions = λ k g. action_fit p k h g;
        new = λ q g. not-true _ (each_at p _ n q g);
      }

  machine_fit : (i : ℕ) → i < d.machine_count → FitMachine m i
  unfolding model_of
  machine_fit i h =
      let M = D.machines in
      let s = machine_in_lem d.machines i (omega (arith, h, M.most)) in
      let F = M.each i h in
      record { exact = rw s F.exact; boot = rw s F.boot; launch = rw s F.launch }

  location_fit : (i : ℕ) → i < d.location_count → FitLocation m i
  unfolding model_of
  location_fit i h =
      let M = D.locations in
      let s = location_in_lem d.locations i (omega (arith, h, M.most)) in
      let F = M.each i h in
      record {
        exact = rw s F.exact;
        machine = rw s F.machine;
        kind = rw s F.kind;
        below = rw s F.below;
        grounded = rw s (sym (ground_right D.terms.table D.terms.long _ F.below) ∙ F.grounded);
        register = rw s F.register;
      }

  thread_fit : (i : ℕ) → i < d.thread_count → FitThread m i
  unfolding model_of
  thread_fit i h =
      let M = D.threads in
      let s = thread_in_lem d.threads i (omega (arith, h, M.most)) in
      let F = M.each i h in
      record { exact = rw s F.exact; machine = rw s F.machine; program = rw s F.program }

  claim_fit : FitClaim m d.claim
  unfolding model_of
  claim_fit =
      let C = D.claim last in
      record { kind = C.kind; program = C.program; machine = C.machine; some = C.some; most = C.most; path = C.path; past = C.past }

  zero_past_lem : ZeroPast m
  unfolding model_of
  zero_past_lem = record {
    lengths = D.programs.past;
    actions = λ p k a h g. D.programs.zeros p k h g;
    machines = λ i h g. D.machines.past i h;
    locations = λ i h g. D.locations.past i h;
    threads = λ i h g. D.threads.past i h;
  }

  sound : SoundModel m
  unfolding model_of
  sound = record {
    edition = D.order.edition (omega arith);
    table = D.terms.table;
    nonces = D.terms.nonces;
    codes = λ i h g. N.codes i g;
    some_program = D.order.some_program (omega arith);
    most_programs = D.programs.most;
    programs = program_fit;
    some_machine = D.order.some_machine (omega arith);
    most_machines = D.machines.most;
    machines = machine_fit;
    most_locations = D.locations.most;
    locations = location_fit;
    most_threads = D.threads.most;
    threads = thread_fit;
    claim = claim_fit;
    zeros = zero_past_lem;
  }

  lines_long : length m.lines ≡ 512
  unfolding model_of
  lines_long = D.terms.long

-- a file that is not refused
pub record Loads (r : Loaded) : Type 0 where
  pub sound : SoundModel r.model
  pub long : length r.model.lines ≡ 512

second_loads : (s : Second) (l acts : List ℕ) (d : Draft) → Drafted l acts d → d.group ≡ 7 → (s.number ≡ 0 → Named l acts d)
    → (load_second s l acts d).number ≡ 0 → Loads (load_second s l acts d)
unfolding refused_with
second_loads s l acts d D e N h = by (eqb s.number 0) refl h
  where
    by : (t : Bool) → eqb s.number 0 ≡ t → (pick t (loaded 0 0 (model_of l acts d)) (refused_with s.number s.line)).number ≡ 0
        → Loads (pick t (loaded 0 0 (model_of l acts d)) (refused_with s.number s.line))
    by true q g = let n = N (eqb-true _ _ q) in record { sound = sound D n e; long = lines_long D n e }
    by false q g = absurd (eqb-false _ _ q g)

first_loads : (r : Kept Read) → (r.out.number ≡ 0 → Whole r) → (load_first r).number ≡ 0 → Loads (load_first r)
unfolding refused_with
first_loads r W h = by (eqb r.out.number 0) refl h
  where
    second : Loaded
    second = load_second (second_reading r.terms r.actions r.out.draft) r.terms r.actions r.out.draft

    by : (t : Bool) → eqb r.out.number 0 ≡ t → (pick t second (refused_with r.out.number r.out.line)).number ≡ 0
        → Loads (pick t second (refused_with r.out.number r.out.line))
    by true q g =
        let w = W (eqb-true _ _ q) in
        second_loads (second_reading r.terms r.actions r.out.draft) r.terms r.actions r.out.draft w.drafted w.closed
        (second_named r.terms r.actions r.out.draft) g
    by false q g = absurd (eqb-false _ _ q g)

loads : (file : List ℕ) → (load_of file).number ≡ 0 → Loads (load_of file)
unfolding load_of
loads file e = first_loads (first_reading file fresh_table.lines (replicate 512 0)) (first_ends file) e

-- F2
pub loaded_sound : (file : List ℕ) → (load_of file).number ≡ 0 → SoundModel (load_of file).model
loaded_sound file e = (loads file e).sound

-- so the test of a model lets it through
pub loaded_passes : (file : List ℕ) → (load_of file).number ≡ 0 → sound_model (load_of file).model ≡ true
loaded_passes file e = let L = loads file e in model_test L.long L.sound
