-- The work of a step on the table of a sound configuration: the table stays sound and begins with the model's, nonces are
-- below the next, code terms name programs, and the labels of x and of the result are of ground terms.
use Prim.Native.Nat.{ℕ, zero, suc, ◌+◌, ◌*◌, ◌/◌, ◌%◌, ◌<◌, ◌≤◌}
use mathlib.Core.Path.{◌≡◌, refl, ◌∙◌}
use mathlib.Core.Bool.{Bool, true, false}
use mathlib.Core.List.{List, [], ◌∷◌, map}
use native.Mathlib.Omega.{arith}
use lib.ListN.{length, get_or, get_or-eq_default}
use lib.Dec.{ltb, eqb}
use borrow.Author.Tests.{ltb-true, ltb-false, lt-ltb, eqb-true}
use Rattle.walk.specs.Base.{All}
use Rattle.terms.specs.Base.{pick, Held, held}
use Rattle.terms.specs.Line.{term_at}
use Rattle.terms.specs.Tree.{Tree, nought, is_ground, enter}
use Rattle.terms.specs.Meaning.{trees, tree_of, means, Den}
use Rattle.terms.specs.Sound.{Sound}
use Rattle.terms.specs.Promise.{Grows, Each, none, one, Adds, Takes}
use Rattle.terms.specs.declared.term.Term.{Term}
use Rattle.terms.specs.Outcome.{Added}
use Rattle.terms.specs.Taken.{Operands}
use Rattle.terms.proofs.Labels.{den_at}
use Rattle.terms.proofs.Growth.{term_grows, grows_then}
use Rattle.terms.proofs.Add.{adds}
use Rattle.terms.proofs.Enter.{subst_ground}
use Rattle.terms.proofs.Substs.{takes}
use Rattle.model.specs.Records.{length_at}
use Rattle.model.specs.declared.records.Action.{Action}
use Rattle.model.specs.declared.records.Model.{Model}
use Rattle.state.specs.Control.{one_more, value_at}
use Rattle.state.specs.Early.{next_action}
use Rattle.state.specs.Moves.{nonce_after}
use Rattle.state.specs.FrameSound.{ThreadSound}
use Rattle.state.specs.declared.slot.Slot.{Slot}
use Rattle.state.specs.declared.control.Control.{Control}
use Rattle.rules.specs.Work.{labels, refused_by, labelled_by, as_result, meet_new, meet_want, given_at, try_taken, try_action, code_at, work_tried}
use Rattle.rules.specs.Asked.{Want}
use Rattle.rules.specs.Worked.{Worked, Refused, Done}
use Rattle.rules.specs.Out.{Tried}
use Rattle.audit.specs.Sound.{SoundModel, FitAction}
use Rattle.audit.specs.Configuration.{is_bound}
use Rattle.audit.specs.Whole.{SoundTerms, Stored, SoundValues, VarSound, SoundVars, SoundConfig}
use Rattle.law.specs.Like.{Leaves, at}
use Rattle.law.proofs.Fine.{form_function}
use Rattle.law.proofs.Leaves.{all_last, all_at, leaves_subst, all_enter}
use Rattle.law.proofs.KeptLeaves.{all_more, LeafSound, leaf_none, leaf_later, terms_leaves, line_nonce, line_code}
use Rattle.law.proofs.KeptWant.{stored_grows, stored_den, stored_none, WantFine, refuse, keep, make, fine_want}

-- what is tried: refused, or a grown table with fine leaves and ground labels
pub data TriedFine (Q : ℕ → ℕ → Type 0) (l : List ℕ) (c : ℕ) : Held Tried → Type 0 where
  refused : {n d : ℕ} {k : List ℕ} → TriedFine Q l c (held (refused_by n d) k)
  labelled : {x y r d : ℕ} {k : List ℕ} → Grows l c k d → All (Leaves Q) (trees k d) → Stored k d x → Stored k d r
      → TriedFine Q l c (held (labelled_by x y r d) k)

-- a want is met
module _ {Q : ℕ → ℕ → Type 0} {l : List ℕ} {c : ℕ} {k : List ℕ} {d : ℕ} (g : Grows l c k d) (f : All (Leaves Q) (trees k d)) {x : ℕ} (sx : Stored k d x)
    (y : ℕ) where
  met_by : {e : Term} → is_ground (means k d e) ≡ true → Leaves Q (means k d e) → {r : Held Added} → Adds k d e r → TriedFine Q l c (as_result r x y)
  met_by gr lv (Adds.deep h) = refused
  met_by gr lv (Adds.listed h n) = labelled g f sx (stored_den n gr)
  met_by gr lv (Adds.new h n r w n2 t) =
      labelled (grows_then g w) (rw t (all_last (Leaves Q) (trees k d) f lv)) (stored_grows w sx) (stored_den n2 gr)
  met_by gr lv (Adds.full h n r) = refused

  met : {w : Want} → WantFine Q k d w → TriedFine Q l c (meet_want k d x y w)
  unfolding meet_want meet_new
  met refuse = refused
  met (keep s) = labelled g f sx s
  met (make {e = e} F gr lv) = met_by gr lv (adds g.sound g.long e F)

-- the operands are taken, then the want is met
module _ {Q : ℕ → ℕ → Type 0} {l : List ℕ} {c : ℕ} {z w : Tree} (none : Q 0 0) (gz : is_ground z ≡ true) (lz : Leaves Q z) (lw : Leaves Q w)
    (f : All (Leaves Q) (trees l c)) (a : Action) {v n : ℕ} (sv : Stored l c v)
    (small : a.op ≡ 14 → a.loc < 256) (h : n < 65536) (q : a.op ≡ 18 → Q 7 n) where
  tried_by_lem : {r : Held Operands} → Takes l c z w r → TriedFine Q l c (try_taken r a v n)
  unfolding given_at
  tried_by_lem (Takes.deep d) = refused
  tried_by_lem (Takes.full d e) = refused
  tried_by_lem (Takes.done {m = k} {d = d} {i = i} {j = j} flat g dx dy t) =
      let e : All (Leaves Q) (trees k d) = rw t (all_enter (enter (trees l c) z) (all_enter (trees l c) f lz) lw) in
      let sx : Stored k d i = stored_den dx gz in
      met g e sx j (fine_want g.sound g.long (all_at (Leaves Q) (trees k d) nought (at none) e) i j v n sx (stored_grows g sv) a small h q)

-- labels and what they denote
module _ (l : List ℕ) (c : ℕ) where
  each_den : (vs : List ℕ) → ((i : ℕ) → get_or vs i 0 < c) → Each (Den l c) vs (map (tree_of l c) vs)
  each_den [] f = none
  each_den (v ∷ vs) f = one (den_at v (f 0)) (each_den vs (λ i. f (suc i)))

  mapped : (P : Tree → Type 0) → P nought → (vs : List ℕ) → ((i : ℕ) → P (tree_of l c (get_or vs i 0))) → (i : ℕ) → P (get_or (map (tree_of l c) vs) i nought)
  mapped P z [] f i = z
  mapped P z (v ∷ vs) f zero = f 0
  mapped P z (v ∷ vs) f (suc i) = mapped P z vs (λ j. f (suc j)) i

tree_leaf : {Q : ℕ → ℕ → Type 0} (l : List ℕ) (c : ℕ) → Q 0 0 → All (Leaves Q) (trees l c) → (j : ℕ) → Leaves Q (tree_of l c j)
unfolding tree_of
tree_leaf {Q} l c z f j = all_at (Leaves Q) (trees l c) nought (at z) f j

-- every value and every variable is a stored label
module _ {l : List ℕ} {c : ℕ} (S : Sound l c) (p : length l ≡ 512) where
  zero_stored : (v : ℕ) → v ≡ 0 → Stored l c v
  zero_stored v e = rw e (stored_none S p)

  pub value_stored : {m : Model} (vs : List ℕ) → SoundValues m l c vs → (i : ℕ) → Stored l c (get_or vs i 0)
  value_stored {m} vs s i = by (ltb i m.location_count) refl
    where
      by : (b : Bool) → ltb i m.location_count ≡ b → Stored l c (get_or vs i 0)
      by true e = s.listed i (ltb-true i m.location_count e)
      by false e = zero_stored (get_or vs i 0) (s.past i (ltb-false i m.location_count e))

  value_at_lem : {m : Model} (vs : List ℕ) → SoundValues m l c vs → (i : ℕ) → Stored l c (value_at 0 vs i)
  unfolding value_at
  value_at_lem vs s i = by (ltb i 32)
    where
      by : (b : Bool) → Stored l c (pick b (get_or vs i 0) 0)
      by true = value_stored vs s i
      by false = stored_none S p

  var_stored : {s : Slot} {k v : ℕ} → VarSound l c s k v → Stored l c v
  var_stored {s} {k} {v} t = by (is_bound s k) refl
    where
      by : (b : Bool) → is_bound s k ≡ b → Stored l c v
      by true e = t.bound e
      by false e = zero_stored v (t.unbound e)

  vars_stored : (slots vars : List ℕ) → SoundVars l c slots vars → (j : ℕ) → Stored l c (get_or vars j 0)
  vars_stored slots vars s j = by (ltb j 192) refl
    where
      by : (b : Bool) → ltb j 192 ≡ b → Stored l c (get_or vars j 0)
      by true e =
          let h : j < 192 = ltb-true j 192 e in
          let a : j / 16 * 16 + j % 16 ≡ j = omega arith in
          rw a at (var_stored (s.each (j / 16) (j % 16) (omega arith) (omega arith)))
      by false e = zero_stored (get_or vars j 0) (get_or-eq_default vars 0 {n = j} (omega (arith, s.long, ltb-false j 192 e)))

-- the next nonce
more_by : (b : Bool) (n : ℕ) → n ≤ pick b (n + 1) n
more_by true n = omega arith
more_by false n = omega arith

one_up : (n : ℕ) → n ≤ one_more n
unfolding one_more
one_up n = more_by (ltb n 65535) n

nonce_by : (b : Bool) (n : ℕ) → n ≤ pick b (one_more n) n
nonce_by true n = one_up n
nonce_by false n = omega arith

pub nonce_up : (op n : ℕ) → n ≤ nonce_after op n
unfolding nonce_after
nonce_up op n = nonce_by (eqb op 18) n

nonce_new : (op n : ℕ) → op ≡ 18 → n < 65535 → n < nonce_after op n
unfolding nonce_after one_more
nonce_new op n e h = rw (e, lt-ltb n 65535 h) (omega arith)

leaf_new : (op n programs : ℕ) → n < 65535 → op ≡ 18 → LeafSound (nonce_after op n) programs 7 n
leaf_new op n programs h e = record { nonce = λ z. nonce_new op n e h; code = λ z. absurd (omega (arith, z)) }

-- the action that a live thread of a sound configuration stands before
pub next_fit : {m : Model} → SoundModel m → {next : ℕ} {q : Slot} → ThreadSound m next q
    → FitAction m q.position (length_at m.lengths q.program) (next_action m.actions q)
unfolding next_action
next_fit M {q = q} t = (M.programs q.program t.program).actions q.position t.position

-- the table after the work
pub grown_terms : {m : Model} {l k : List ℕ} {c d nonce after : ℕ} → SoundTerms m l c nonce → Grows l c k d
    → All (Leaves (LeafSound after m.programs)) (trees k d) → SoundTerms m k d after
grown_terms {m} {after = after} T g f = record {
  table = g.sound;
  long = g.long;
  more = omega (arith, T.more, g.rises);
  begins = λ i h. term_grows g i (omega (arith, T.more, h)) ∙ T.begins i h;
  nonces = line_nonce after m.programs g.sound g.long f;
  codes = line_code after m.programs g.sound g.long f;
}

-- the program of a jump
code_by_lem : (b : Bool) (a programs : ℕ) → 1 ≤ programs → (b ≡ true → a < programs) → pick b (a % 256) 0 < programs
code_by_lem true a programs h f = omega (arith, f refl)
code_by_lem false a programs h f = omega arith

code_below : (l : List ℕ) (c x programs : ℕ) → 1 ≤ programs → x < c → ((i : ℕ) → i < c → (term_at l i).kind ≡ 8 → (term_at l i).a < programs)
    → code_at l x < programs
unfolding code_at
code_below l c x programs h g f = code_by_lem (eqb (term_at l x).kind 8) (term_at l x).a programs h (λ e. f x g (eqb-true (term_at l x).kind 8 e))

-- the work of a step: refused, or a sound table in which the labels are
pub data WorkFine (m : Model) (l : List ℕ) (c after : ℕ) : Held Worked → Type 0 where
  refused : {n : ℕ} {k : List ℕ} → WorkFine m l c after (held (Refused n) k)
  done : {x y r p d : ℕ} {k : List ℕ} → SoundTerms m k d after → Grows l c k d → Stored k d x → Stored k d r → p < m.programs
      → WorkFine m l c after (held (Done (labels x y r p d)) k)

module _ {m : Model} (M : SoundModel m) {l : List ℕ} {c nonce after : ℕ} (T : SoundTerms m l c nonce) where
  work_by_lem : {r : Held Tried} → TriedFine (LeafSound after m.programs) l c r → WorkFine m l c after (work_tried r c)
  work_by_lem TriedFine.refused = refused
  work_by_lem (TriedFine.labelled {x = x} {d = d} {k = k} g f sx sr) =
      let U : SoundTerms m k d after = grown_terms T g f in
      done U g sx sr (code_below k d x m.programs M.some_program sx.below U.codes)

-- an action that a sound model lists
module _ {m : Model} (M : SoundModel m) {l : List ℕ} {s : Control} (C : SoundConfig m l s) (few : s.frame.steps < 60000) where
  pub action_work : (a : Action) (k n : ℕ) → FitAction m k n a → (o : ℕ)
      → WorkFine m l s.count (nonce_after a.op s.frame.nonce)
      (work_tried (try_action l s.count s.vars o a (value_at 0 s.values a.loc) s.frame.nonce) s.count)
  unfolding try_action is_ground
  action_work a k n F o =
      let c = s.count in
      let T = C.terms in
      let S : Sound l c = T.table in
      let p : length l ≡ 512 = T.long in
      let small : s.frame.nonce < 65535 = omega (arith, C.frame.nonce, few) in
      let Q : ℕ → ℕ → Type 0 = LeafSound (nonce_after a.op s.frame.nonce) m.programs in
      let up : s.frame.nonce ≤ nonce_after a.op s.frame.nonce = nonce_up a.op s.frame.nonce in
      let f : All (Leaves Q) (trees l c) =
      all_more (leaf_later s.frame.nonce (nonce_after a.op s.frame.nonce) m.programs up) (trees l c) (terms_leaves T) in
      let z : Q 0 0 = leaf_none (nonce_after a.op s.frame.nonce) m.programs in
      let vs : (j : ℕ) → Stored l c (get_or s.vars j 0) = vars_stored S p s.frame.slots s.vars C.vars in
      let ws : List Tree = map (tree_of l c) s.vars in
      let gs : (j : ℕ) → is_ground (get_or ws j nought) ≡ true = mapped l c (λ t. is_ground t ≡ true) refl s.vars (λ j. (vs j).grounded) in
      let ls : (j : ℕ) → Leaves Q (get_or ws j nought) = mapped l c (Leaves Q) (at z) s.vars (λ j. tree_leaf l c z f (get_or s.vars j 0)) in
      let x : Tree = tree_of l c a.x in
      let y : Tree = tree_of l c a.y in
      work_by_lem M T
      (tried_by_lem z (subst_ground ws o gs x) (leaves_subst ws o ls (tree_leaf l c z f a.x)) (leaves_subst ws o ls (tree_leaf l c z f a.y)) f a
      (value_at_lem S p s.values C.values a.loc) (form_function a F.form) (omega arith) (leaf_new a.op s.frame.nonce m.programs small)
      (takes S p (each_den l c s.vars (λ j. (vs j).below)) o a.x a.y (omega (arith, F.x.below, T.more)) (omega (arith, F.y.below, T.more))))
