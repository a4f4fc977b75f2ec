-- A good line of V, M, L, T or C keeps the facts.
use Prim.Native.Nat.{ℕ, zero, suc, ◌+◌, ◌-◌, ◌<◌, ◌≤◌}
use mathlib.Core.Path.{◌≡◌, refl, sym, subst}
use mathlib.Core.Bool.{true, false, not}
use mathlib.Core.List.{List, [], ◌∷◌}
use native.Mathlib.Omega.{arith}
use lib.ListN.{get_or}
use lib.Dec.{ltb, leb, eqb}
use borrow.Author.Tests.{ltb-false, leb-false, eqb-true, lt-ltb, lt-leb, not-false}
use Rattle.terms.specs.Base.{pick, also}
use Rattle.terms.specs.Line.{line_at, ground_in, ground_at}
use Rattle.model.specs.Records.{pack_machine, pack_location, pack_thread}
use Rattle.model.specs.Fields.{is_memory, is_register}
use Rattle.model.specs.declared.records.Machine.{Machine}
use Rattle.model.specs.declared.records.Location.{Location}
use Rattle.model.specs.declared.records.Listed.{Listed}
use Rattle.model.proofs.Pack.{SmallMachine, SmallLocation, SmallThread, machine_packed, location_packed, thread_packed}
use Rattle.reader.specs.Numbers.{are_fields, num, up_to255}
use Rattle.reader.specs.Drafts.{lined, unless_refused, follows_group, with_edition, with_machine, with_location, with_thread, with_claim}
use Rattle.reader.specs.VLine.{known_edition, version_order21, version_refusal, version_line}
use Rattle.reader.specs.MLine.{machine_order21, machine_limits22, machine_names23, machine_refusal, machine_of, machine_entry, machine_line}
use Rattle.reader.specs.LLine.{location_order21, location_limits22, location_names23, location_kind25, location_refusal, location_of, location_entry, location_line}
use Rattle.reader.specs.TLine.{thread_names23, thread_refusal, thread_of, thread_entry, thread_line}
use Rattle.reader.specs.CLine.{claim_form20, path_names23, claim_names23, claim_refusal, claim_of, claim_line}
use Rattle.reader.specs.Numbers.{Fields}
use Rattle.reader.specs.declared.draft.Draft.{Draft}
use Rattle.reader.specs.Drafts.{Lined}
use Rattle.reader.proofs.LoadedFacts.{MachineNumber, LocationNumber, ThreadNumber, ClaimNamed, Drafted}
use Rattle.model.proofs.Tests.{not_both, neither}
use Rattle.reader.proofs.LoadedTests.{passes, entered, follows_in, up_to_255_le, up_to_255_small}
use Rattle.reader.proofs.LoadedNumbers.{Numbers}
use Rattle.reader.proofs.LoadedDrafts.{with_edition_lem, with_machine_lem, with_location_lem, with_thread_lem, with_claim_lem}

-- the records as their numbers
machine_number : (programs : ℕ) (m : Machine) → SmallMachine m → m.boot < programs → m.launch < programs → MachineNumber programs (pack_machine m)
machine_number programs m s b c =
    let e = machine_packed m s in
    record { exact = rw e; boot = rw e b; launch = rw e c }

location_number : (t : List ℕ) (count machines : ℕ) (l : Location) → SmallLocation l → l.machine < machines → l.kind < 4 → l.value < count
    → ground_in (line_at t l.value) ≡ true → (is_memory l.kind ≡ false → l.value ≡ 1) → LocationNumber t count machines (pack_location l)
location_number t count machines l s a b c g r =
    let e = location_packed l s in
    record { exact = rw e; machine = rw e a; kind = rw e b; below = rw e c; grounded = rw e g; register = rw e r }

thread_number : (machines programs : ℕ) (l : Listed) → SmallThread l → l.machine < machines → l.program < programs
    → ThreadNumber machines programs (pack_thread l)
thread_number machines programs l s a b =
    let e = thread_packed l s in
    record { exact = rw e; machine = rw e a; program = rw e b }

module _ {l acts : List ℕ} (d : Draft) (f : Fields) (D : Drafted l acts d) (F : Numbers f) where
  -- the entry that a good line makes
  after : (n : ℕ) (r : Lined) → (unless_refused n d r).number ≡ 0 → (n ≡ 0 → Drafted l acts r.draft) → Drafted l acts (unless_refused n d r).draft
  after n r e k = let a = entered n d r e in subst (λ (s : Lined). Drafted l acts s.draft) (sym a.1) (k a.0)

  version_good : version_refusal d.group f (up_to255 (num f 0)) ≡ 0 → Drafted l acts (with_edition d (up_to255 (num f 0)))
  unfolding version_refusal version_order21 known_edition
  version_good e =
      let a = passes (not (are_fields f 1)) 20 _ refl e in
      let b = passes _ 21 _ refl a.1 in
      let c = neither (not (eqb d.group 0)) _ b.0 in
      with_edition_lem D (eqb-true _ _ (not-false _ c.0)) (up_to255 (num f 0)) (eqb-true _ _ (not-false _ c.1))

  pub version_kept : (version_line d f).number ≡ 0 → Drafted l acts (version_line d f).draft
  unfolding version_line
  version_kept e = after (version_refusal d.group f (up_to255 (num f 0))) (lined 0 (with_edition d (up_to255 (num f 0)))) e version_good

  machine_entered : d.machine_count < 4 → (m : Machine) → machine_entry d m ≡ lined 0 (with_machine d (pack_machine m))
  unfolding machine_entry
  machine_entered h m = rw (lt-leb 4 d.machine_count h)

  machine_good : machine_refusal d f ≡ 0 → Drafted l acts (machine_entry d (machine_of f)).draft
  unfolding machine_refusal machine_order21 machine_limits22 machine_names23 machine_of
  machine_good e =
      let a = passes (not (are_fields f 4)) 20 _ refl e in
      let o = passes _ 21 _ refl a.1 in
      let i = passes _ 22 _ refl o.1 in
      let n = passes _ 23 _ refl i.1 in
      let p = neither (not (follows_group d.group 3 4)) _ o.0 in
      let q : num f 0 ≡ d.machine_count = eqb-true _ _ (not-false _ p.1) in
      let r : num f 0 < 4 = leb-false _ _ (neither (leb 4 (num f 0)) _ i.0).0 in
      let v = neither (leb d.programs (num f 1)) _ n.0 in
      let boot : num f 1 < d.programs = leb-false _ _ v.0 in
      let launch : num f 2 < d.programs = leb-false _ _ v.1 in
      let h : d.machine_count < 4 = omega arith in
      rw (machine_entered h (machine_of f)) (with_machine_lem D (follows_in _ _ _ (not-false _ p.0)) h (pack_machine (machine_of f))
      (machine_number d.programs (machine_of f) (record { boot = up_to_255_small (num f 1); launch = up_to_255_small (num f 2) })
      (omega (arith, boot, up_to_255_le (num f 1))) (omega (arith, launch, up_to_255_le (num f 2)))))

  pub machine_kept : (machine_line d f).number ≡ 0 → Drafted l acts (machine_line d f).draft
  unfolding machine_line
  machine_kept e = after (machine_refusal d f) (machine_entry d (machine_of f)) e machine_good

  location_entered : d.location_count < 32 → (m : Location) → location_entry d m ≡ lined 0 (with_location d (pack_location m))
  unfolding location_entry
  location_entered h m = rw (lt-leb 32 d.location_count h)

  -- a register is what is no memory
  register_first : (kind value : ℕ) → kind < 4 → also (is_register kind) (not (eqb value 1)) ≡ false → is_memory kind ≡ false → value ≡ 1
  unfolding is_register is_memory
  register_first kind value h e m =
      let r : pick (ltb kind 2) false (ltb kind 4) ≡ true = rw (m, lt-ltb kind 4 h) in
      eqb-true _ _ (not-false _ (not_both (pick (ltb kind 2) false (ltb kind 4)) _ e r))

  location_good : location_refusal l d f ≡ 0 → Drafted l acts (location_entry d (location_of f)).draft
  unfolding location_refusal location_order21 location_limits22 location_names23 location_kind25 location_of
  location_good e =
      let a = passes (not (are_fields f 4)) 20 _ refl e in
      let o = passes _ 21 _ refl a.1 in
      let i = passes _ 22 _ refl o.1 in
      let n = passes _ 23 _ refl i.1 in
      let k = passes _ 25 _ refl n.1 in
      let p = neither (not (follows_group d.group 4 5)) _ o.0 in
      let q : num f 0 ≡ d.location_count = eqb-true _ _ (not-false _ p.1) in
      let u = neither (leb 32 (num f 0)) _ i.0 in
      let r : num f 0 < 32 = leb-false _ _ u.0 in
      let kind : num f 2 ≤ 3 = ltb-false _ _ u.1 in
      let v = neither (leb d.machine_count (num f 1)) _ n.0 in
      let on : num f 1 < d.machine_count = leb-false _ _ v.0 in
      let value : num f 3 < d.count = leb-false _ _ v.1 in
      let w = neither (not (ground_at l (num f 3))) _ k.0 in
      let h : d.location_count < 32 = omega arith in
      let low : up_to255 (num f 2) < 4 = omega (arith, kind, up_to_255_le (num f 2)) in
      rw (location_entered h (location_of f)) (with_location_lem D (follows_in _ _ _ (not-false _ p.0)) h (pack_location (location_of f))
      (location_number l d.count d.machine_count (location_of f)
      (record { machine = up_to_255_small (num f 1); kind = up_to_255_small (num f 2); value = F.small 3 })
      (omega (arith, on, up_to_255_le (num f 1))) low value (not-false _ w.0) (register_first (up_to255 (num f 2)) (num f 3) low w.1)))

  pub location_kept : (location_line l d f).number ≡ 0 → Drafted l acts (location_line l d f).draft
  unfolding location_line
  location_kept e = after (location_refusal l d f) (location_entry d (location_of f)) e location_good

  thread_entered : d.thread_count < 8 → (m : Listed) → thread_entry d m ≡ lined 0 (with_thread d (pack_thread m))
  unfolding thread_entry
  thread_entered h m = rw (lt-leb 8 d.thread_count h)

  thread_good : thread_refusal d f ≡ 0 → Drafted l acts (thread_entry d (thread_of f)).draft
  unfolding thread_refusal thread_names23 thread_of
  thread_good e =
      let a = passes (not (are_fields f 3)) 20 _ refl e in
      let o = passes _ 21 _ refl a.1 in
      let i = passes _ 22 _ refl o.1 in
      let n = passes _ 23 _ refl i.1 in
      let h : d.thread_count < 8 = leb-false _ _ i.0 in
      let v = neither (leb d.machine_count (num f 1)) _ n.0 in
      let on : num f 1 < d.machine_count = leb-false _ _ v.0 in
      let program : num f 2 < d.programs = leb-false _ _ v.1 in
      rw (thread_entered h (thread_of f)) (with_thread_lem D (follows_in _ _ _ (not-false _ o.0)) h (pack_thread (thread_of f))
      (thread_number d.machine_count d.programs (thread_of f)
      (record { agent = F.small 0; machine = up_to_255_small (num f 1); program = up_to_255_small (num f 2) })
      (omega (arith, on, up_to_255_le (num f 1))) (omega (arith, program, up_to_255_le (num f 2)))))

  pub thread_kept : (thread_line d f).number ≡ 0 → Drafted l acts (thread_line d f).draft
  unfolding thread_line
  thread_kept e = after (thread_refusal d f) (thread_entry d (thread_of f)) e thread_good

  claim_named : claim_form20 f ≡ false → num f 0 ≤ 1 → claim_names23 d.machine_count d.programs f ≡ false
      → ClaimNamed (claim_of f) d.programs d.machine_count
  unfolding claim_form20 claim_names23 path_names23 claim_of
  claim_named e k n =
      let a = neither (not f.good) _ e in
      let b = neither _ _ a.1 in
      let some : 3 < f.count = leb-false _ _ b.0 in
      let most : f.count ≤ 7 = ltb-false _ _ b.1 in
      let v = neither (leb d.programs (num f 1)) _ n in
      let w = neither _ _ v.1 in
      let program : num f 1 < d.programs = leb-false _ _ v.0 in
      let on : num f 2 < d.machine_count = leb-false _ _ w.0 in
      let p = neither (leb d.programs (num f 3)) _ w.1 in
      let q = neither _ _ p.1 in
      let r = neither _ _ q.1 in
      let p0 : num f 3 < d.programs = leb-false _ _ p.0 in
      let p1 : num f 4 < d.programs = leb-false _ _ q.0 in
      let p2 : num f 5 < d.programs = leb-false _ _ r.0 in
      let p3 : num f 6 < d.programs = leb-false _ _ r.1 in
      record {
        kind = omega (arith, k, up_to_255_le (num f 0));
        program = omega (arith, program, up_to_255_le (num f 1));
        machine = omega (arith, on, up_to_255_le (num f 2));
        some = omega arith;
        most = omega arith;
        path = path most p0 p1 p2 p3;
        past = λ i h g. past i (omega arith) g;
      }
    where
      ps : List ℕ
      ps = up_to255 (num f 3) ∷ up_to255 (num f 4) ∷ up_to255 (num f 5) ∷ up_to255 (num f 6) ∷ []

      path : f.count ≤ 7 → num f 3 < d.programs → num f 4 < d.programs → num f 5 < d.programs → num f 6 < d.programs
          → (i : ℕ) → i < f.count - 3 → get_or ps i 0 < d.programs
      path m p0 p1 p2 p3 zero h = omega (arith, p0, up_to_255_le (num f 3))
      path m p0 p1 p2 p3 (suc zero) h = omega (arith, p1, up_to_255_le (num f 4))
      path m p0 p1 p2 p3 (suc (suc zero)) h = omega (arith, p2, up_to_255_le (num f 5))
      path m p0 p1 p2 p3 (suc (suc (suc zero))) h = omega (arith, p3, up_to_255_le (num f 6))
      path m p0 p1 p2 p3 (suc (suc (suc (suc i)))) h = absurd (omega arith)

      past : (i : ℕ) → f.count ≤ i + 3 → i < 4 → get_or ps i 0 ≡ 0
      past zero h g = omega (arith, up_to_255_le (num f 3), F.past 3 (omega arith))
      past (suc zero) h g = omega (arith, up_to_255_le (num f 4), F.past 4 (omega arith))
      past (suc (suc zero)) h g = omega (arith, up_to_255_le (num f 5), F.past 5 (omega arith))
      past (suc (suc (suc zero))) h g = omega (arith, up_to_255_le (num f 6), F.past 6 (omega arith))
      past (suc (suc (suc (suc i)))) h g = absurd (omega arith)

  claim_good : claim_refusal d f ≡ 0 → Drafted l acts (with_claim d (claim_of f))
  unfolding claim_refusal
  claim_good e =
      let a = passes (claim_form20 f) 20 _ refl e in
      let o = passes _ 21 _ refl a.1 in
      let i = passes _ 22 _ refl o.1 in
      let n = passes _ 23 _ refl i.1 in
      with_claim_lem D (follows_in _ _ _ (not-false _ o.0)) (claim_of f) (claim_named a.0 (ltb-false _ _ i.0) n.0)

  pub claim_kept : (claim_line d f).number ≡ 0 → Drafted l acts (claim_line d f).draft
  unfolding claim_line
  claim_kept e = after (claim_refusal d f) (lined 0 (with_claim d (claim_of f))) e claim_good
