-- A good line of E or A keeps the facts. These two change a lent table.
use Prim.Native.Nat.{ℕ, ◌+◌, ◌*◌, ◌<◌, ◌≤◌}
use mathlib.Core.Path.{◌≡◌, refl, ◌∙◌, subst}
use mathlib.Core.Bool.{Bool, true, false, not}
use mathlib.Core.List.{List}
use native.Mathlib.Omega.{arith}
use lib.ListN.{set}
use lib.Dec.{leb, eqb}
use borrow.Author.Tests.{ltb-false, leb-false, eqb-true, eqb-false, lt-leb, not-false}
use Rattle.terms.specs.Base.{pick, Held, held}
use Rattle.terms.specs.Term.{in_limits, parts_below}
use Rattle.terms.specs.Table.{add_to}
use Rattle.terms.specs.Meaning.{means}
use Rattle.terms.specs.Promise.{Fit, Adds, deep, listed, new, full}
use Rattle.terms.specs.declared.term.Term.{Term}
use Rattle.terms.specs.Outcome.{Added}
use Rattle.terms.proofs.Add.{adds}
use Rattle.model.specs.Records.{pack_action, length_at}
use Rattle.model.specs.Fields.{closing}
use Rattle.model.specs.declared.records.Action.{Action}
use Rattle.model.proofs.Pack.{SmallAction}
use Rattle.audit.specs.Tops.{topmost, top_at, top_of}
use Rattle.audit.proofs.Highest.{top_means, top_in}
use Rattle.reader.specs.Numbers.{are_fields, num, up_to255}
use Rattle.reader.specs.Drafts.{lined, follows_group, with_term, with_action}
use Rattle.reader.specs.ELine.{term_of, term_order21, term_limits22, term_names23}
use Rattle.reader.specs.ELine.{term_twice24, term_kind25, term_refusal, term_counted, as_entered, term_entry, term_line}
use Rattle.reader.specs.ALine.{action_of, action_order21, action_limits22, location_past, label_bad, action_names23}
use Rattle.reader.specs.ALine.{action_refusal, action_counted, action_entry, action_line}
use Rattle.reader.specs.Numbers.{Fields}
use Rattle.reader.specs.declared.draft.Draft.{Draft}
use Rattle.reader.specs.Drafts.{Lined}
use Rattle.reader.proofs.LoadedFacts.{Terms, Operand, Drafted}
use Rattle.model.proofs.Tests.{neither}
use Rattle.reader.proofs.LoadedTests.{passes, judged, follows_in, up_to_255_small}
use Rattle.reader.proofs.LoadedNumbers.{Numbers}
use Rattle.reader.proofs.LoadedDrafts.{with_term_lem, with_action_lem}

-- what a new term asks to be bound
asks : {l : List ℕ} {c : ℕ} {ks : List ℕ} → Terms l c ks → (x : Term) → Fit x c → top_of ks x ≡ topmost (means l c x)
asks {l} {c} {ks} T x F =
    let r = T.table.room in
    top_means l c c x ks F.limits F.parts (λ j h. top_in ks j (omega arith) ∙ T.right j h)

module _ {l acts : List ℕ} (d : Draft) (f : Fields) (D : Drafted l acts d) (F : Numbers f) where
  -- a line that leaves the facts
  abbrev OnTerms : Held Lined → Type 0
  OnTerms r = Drafted r.table acts r.out.draft

  abbrev OnActions : Held Lined → Type 0
  OnActions r = Drafted l r.table r.out.draft

  term_counted_lem : (label : ℕ) (x : Term) → label < 512 → term_counted d label x ≡ with_term d label (top_of d.tops x)
  unfolding term_counted
  term_counted_lem label x h = rw (lt-leb 512 label h)

  term_by : (x : Term) → (1 ≤ d.group) × (d.group ≤ 2) → Fit x d.count → (x.kind ≡ 7 → ⊥) → (r : Held Added) → Adds l d.count x r
      → (as_entered r d x).out.number ≡ 0 → OnTerms (as_entered r d x)
  term_by x g X seven r (deep h) e = absurd (omega arith)
  term_by x g X seven r (listed h N) e = absurd (omega arith)
  term_by x g X seven r (full h n c) e = absurd (omega arith)
  term_by x g X seven r (new h n c G N t) e =
      rw (term_counted_lem d.count x c) (with_term_lem D g x seven c G N (top_of d.tops x) (asks D.terms x X))

  term_entered : (x : Term) → (1 ≤ d.group) × (d.group ≤ 2) → Fit x d.count → (x.kind ≡ 7 → ⊥) → (term_entry l d x).out.number ≡ 0
      → OnTerms (term_entry l d x)
  unfolding term_entry
  term_entered x g X seven e = term_by x g X seven (add_to l d.count x) (adds D.terms.table D.terms.long x X) e

  no_nonce : (k : ℕ) → term_kind25 k ≡ false → k ≡ 7 → ⊥
  unfolding term_kind25
  no_nonce k e = let a = neither (eqb k 1) _ e in eqb-false _ _ (neither (eqb k 2) _ a.1).1

  term_fit : in_limits (term_of f) ≡ true → parts_below (term_of f) d.count ≡ true → Fit (term_of f) d.count
  unfolding term_of
  term_fit a b = record { limits = a; parts = b; kind = up_to_255_small (num f 1); first = F.small 2; second = F.small 3 }

  term_good : term_refusal l d.group d.count f (term_of f) ≡ 0 → (term_entry l d (term_of f)).out.number ≡ 0 → OnTerms (term_entry l d (term_of f))
  unfolding term_refusal term_order21 term_limits22 term_names23
  term_good e =
      let a = passes (not (are_fields f 4)) 20 _ refl e in
      let o = passes _ 21 _ refl a.1 in
      let i = passes _ 22 _ refl o.1 in
      let n = passes _ 23 _ refl i.1 in
      let t = passes (term_twice24 l d.count (term_of f)) 24 _ refl n.1 in
      let k = passes (term_kind25 (term_of f).kind) 25 0 refl t.1 in
      let p = neither (not (follows_group d.group 1 2)) _ o.0 in
      let q : num f 0 ≡ d.count = eqb-true _ _ (not-false _ p.1) in
      let u = neither (leb 512 (num f 0)) _ i.0 in
      let v = neither _ _ u.1 in
      let w = neither (not (parts_below (term_of f) (num f 0))) _ n.0 in
      let parts : parts_below (term_of f) (num f 0) ≡ true = not-false _ w.0 in
      term_entered (term_of f) (follows_in _ _ _ (not-false _ p.0))
      (term_fit (not-false _ v.0) (subst (λ (c : ℕ). parts_below (term_of f) c ≡ true) q parts))
      (no_nonce (term_of f).kind k.0)

  pub term_kept : (term_line l d f).out.number ≡ 0 → OnTerms (term_line l d f)
  unfolding term_line
  term_kept e = judged OnTerms (term_refusal l d.group d.count f (term_of f)) d l (term_entry l d (term_of f)) term_good e

  -- the program is the next one, or the last one and not ended
  data Where (p : ℕ) : Type 0 where
    next : p ≡ d.programs → Where p
    same : p + 1 ≡ d.programs → d.closed ≡ false → Where p

  where_is : (p : ℕ) → pick (eqb p d.programs) false (pick (eqb (p + 1) d.programs) d.closed true) ≡ false → Where p
  where_is p e = by (eqb p d.programs) (eqb (p + 1) d.programs) refl refl e
    where
      by : (t u : Bool) → eqb p d.programs ≡ t → eqb (p + 1) d.programs ≡ u → pick t false (pick u d.closed true) ≡ false → Where p
      by true u a b h = next (eqb-true _ _ a)
      by false true a b h = same (eqb-true _ _ b) h
      by false false a b h = let z : ◌≡◌ {A = ℕ} 0 1 = cc in absurd (omega arith)

  up_to : {p : ℕ} → Where p → p ≤ d.programs
  up_to (next e) = omega arith
  up_to (same e c) = omega arith

  goes_on : {p : ℕ} → Where p → p < d.programs → (p + 1 ≡ d.programs) × (d.closed ≡ false)
  goes_on (next e) h = absurd (omega arith)
  goes_on (same e c) h = (e, c)

  ordered : (p : ℕ) → action_order21 d.group d.programs d.closed p ≡ false → ((1 ≤ d.group) × (d.group ≤ 3)) × Where p
  unfolding action_order21
  ordered p e = let a = neither (not (follows_group d.group 1 3)) _ e in (follows_in _ _ _ (not-false _ a.0), where_is p a.1)

  operand : (k label : ℕ) → label_bad d.tops d.count k label ≡ false → Operand d.tops d.count k label
  unfolding label_bad
  operand k label e =
      let a = neither (leb d.count label) _ e in
      let below : label < d.count = leb-false _ _ a.0 in
      let r = D.terms.table.room in
      let low : top_at d.tops label ≤ k = ltb-false _ _ a.1 in
      record { below = below; earlier = omega (arith, low, top_in d.tops label (omega arith)) }

  action_small : SmallAction (action_of f)
  unfolding action_of
  action_small = record { op = up_to_255_small (num f 1); loc = F.small 2; x = F.small 3; y = F.small 4 }

  action_entered : (p k : ℕ) (a : Action) → p < 32 → k < 16
      → action_entry acts d p k a ≡ held (lined 0 (with_action d p (k + 1) (closing a.op))) (set acts (p * 16 + k) (pack_action a))
  unfolding action_entry action_counted
  action_entered p k a h g = rw (lt-leb 32 p h, lt-leb 16 k g)

  action_good : (p : ℕ) → action_refusal d f p (length_at d.lengths p) (action_of f) ≡ 0
      → OnActions (action_entry acts d p (length_at d.lengths p) (action_of f))
  unfolding action_refusal action_limits22 action_names23
  action_good p e =
      let k = length_at d.lengths p in
      let a = passes (not (are_fields f 5)) 20 _ refl e in
      let o = passes _ 21 _ refl a.1 in
      let i = passes _ 22 _ refl o.1 in
      let n = passes _ 23 _ refl i.1 in
      let q = ordered p o.0 in
      let u = neither (leb 32 p) _ i.0 in
      let v = neither _ _ u.1 in
      let room : k < 16 = leb-false _ _ v.0 in
      let h : p < 32 = leb-false _ _ u.0 in
      let s = neither (location_past (action_of f) 32) _ n.0 in
      let t = neither _ _ s.1 in
      rw (action_entered p k (action_of f) h room)
      (with_action_lem D q.0 p h (up_to q.1) (goes_on q.1) room (action_of f) action_small (not-false _ v.1)
      (operand k (action_of f).x t.0) (operand k (action_of f).y t.1))

  pub action_kept : (action_line acts d f).out.number ≡ 0 → OnActions (action_line acts d f)
  unfolding action_line
  action_kept e =
      let p = up_to255 (num f 0) in
      let k = length_at d.lengths p in
      judged OnActions (action_refusal d f p k (action_of f)) d acts (action_entry acts d p k (action_of f)) (λ n r. action_good p n) e
