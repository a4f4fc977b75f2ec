-- Configurations that stand for a state: the fresh one of a sound model for the rules' fresh state, and every sound one for
-- the state of its own terms.
use Prim.Native.Nat.{ℕ, zero, suc, ◌+◌, ◌/◌, ◌%◌, ◌<◌, ◌≤◌}
use mathlib.Core.Path.{◌≡◌, refl, sym, ◌∙◌, subst}
use mathlib.Core.Bool.{Bool, true, false}
use mathlib.Core.List.{List, [], ◌∷◌, map}
use native.Mathlib.Omega.{arith}
use lib.ListN.{length, get_or, replicate, take}
use lib.Seq.{ext_get_or, get_or-take, length-take-le}
use lib.Dec.{eqb, ltb, leb}
use borrow.Author.Tests.{ltb-true, leb-true, eqb-true}
use Rattle.walk.specs.Base.{All}
use Rattle.terms.specs.Base.{pick, also}
use Rattle.terms.specs.Term.{shape_of, parts_by, parts_below}
use Rattle.terms.specs.Line.{line_at, term_at, ground_in}
use Rattle.terms.specs.Sound.{Sound, sound_test}
use Rattle.terms.specs.Tree.{Tree, nought}
use Rattle.terms.specs.Meaning.{build_by, build, trees, tree_of, means, Den}
use Rattle.terms.specs.Promise.{Grows, Each}
use Rattle.terms.specs.declared.term.Shape.{Shape}
use Rattle.terms.specs.declared.term.Shape.TheVariants.{Bare, Number, Variable, Sealed, Hashed, Applied, Joined, Unknown}
use Rattle.terms.proofs.Meaning.{also_left, also_right, tree_at, length_trees}
use Rattle.terms.proofs.Labels.{den_at}
use Rattle.terms.proofs.Growth.{den_nought, grows_refl}
use Rattle.terms.proofs.Check.{test_sound}
use Rattle.model.specs.Records.{location_at}
use Rattle.model.specs.declared.records.Model.{Model}
use Rattle.state.specs.Control.{up_from, fresh_frame, first_value, first_values, fresh_control}
use Rattle.state.specs.Slot.{slot_at}
use Rattle.state.specs.declared.control.Control.{Control}
use Rattle.audit.specs.Sound.{SoundModel}
use Rattle.audit.specs.Listed.{stored_value}
use Rattle.audit.specs.Models.{names_program}
use Rattle.audit.specs.Configuration.{begins_with, leaf_sound, leaves_sound, table_sound, counters_sound, is_bound, var_sound, vars_sound, value_sound, values_sound, slots_sound, serials_differ, locks_sound, threads_fit, sound_control}
use Rattle.terms.proofs.Each.{each_at}
use Rattle.law.specs.Rules.{fresh_state}
use Rattle.law.specs.Like.{Leaves, at, in_sealed, in_applied, in_joined, Named, Like, Fine}
use Rattle.law.specs.Meant.{Sized, meant}
use Rattle.law.proofs.Fine.{sound_fine}

-- The leaves of a table's terms

all_from : {A : Type 0} (P : A → Type 0) (d : A) (l : List A) → ((i : ℕ) → i < length l → P (get_or l i d)) → All P l
all_from P d [] f = tt
all_from P d (x ∷ l) f = (f 0 (omega arith), all_from P d l (λ i h. f (suc i) (omega arith)))

module _ (Q : ℕ → ℕ → Type 0) where
  leaves_by : (s : Shape) (k a b n : ℕ) (ts : List Tree) → Q k a → parts_by s a b n ≡ true
      → ((j : ℕ) → j < n → Leaves Q (get_or ts j nought)) → Leaves Q (build_by s k a b ts)
  leaves_by Bare k a b n ts q p f = at q
  leaves_by Number k a b n ts q p f = at q
  leaves_by Variable k a b n ts q p f = at q
  leaves_by Sealed k a b n ts q p f = in_sealed (f a (ltb-true a n p))
  leaves_by Hashed k a b n ts q p f = in_sealed (f a (ltb-true a n p))
  leaves_by Applied k a b n ts q p f = in_applied (f b (ltb-true b n p))
  leaves_by Joined k a b n ts q p f =
      in_joined (f a (ltb-true a n (also_left (ltb a n) (ltb b n) p))) (f b (ltb-true b n (also_right (ltb a n) (ltb b n) p)))
  leaves_by Unknown k a b n ts q p f = at q

  module _ {l : List ℕ} {c : ℕ} (sound : Sound l c) (long : length l ≡ 512) (q : (i : ℕ) → i < c → Q (term_at l i).kind (term_at l i).a) where
    leaves_in : (n i : ℕ) → i < n → i < c → Leaves Q (tree_of l c i)
    unfolding tree_of means build parts_below
    leaves_in zero i h g = absurd (omega arith)
    leaves_in (suc n) i h g =
        subst (Leaves Q) (sym (tree_at sound long i g))
        (leaves_by (shape_of (term_at l i).kind) (term_at l i).kind (term_at l i).a (term_at l i).b i (trees l c) (q i g) (sound.parts i g)
        (λ j r. leaves_in n j (omega arith) (omega arith)))

    -- where every line that is a leaf has Q, every leaf of every term has
    pub table_leaves : All (Leaves Q) (trees l c)
    unfolding tree_of
    table_leaves = all_from (Leaves Q) nought (trees l c) (λ i h. let e = length_trees l c long sound.room in leaves_in c i (omega arith) (omega arith))

-- Labels, each beside its term

each_up : {A B : Type 0} {P : A → B → Type 0} (f : ℕ → A) (g : ℕ → B) → ((i : ℕ) → P (f i) (g i)) → (n i : ℕ) → Each P (up_from f n i) (up_from g n i)
unfolding up_from
each_up f g h zero i = Each.none
each_up f g h (suc n) i = Each.one (h i) (each_up f g h n (i + 1))

each_replicate : {A B : Type 0} {P : A → B → Type 0} (a : A) (b : B) → P a b → (n : ℕ) → Each P (replicate n a) (replicate n b)
each_replicate a b p zero = Each.none
each_replicate a b p (suc n) = Each.one p (each_replicate a b p n)

each_meant : {l : List ℕ} {c : ℕ} (vs : List ℕ) → All (λ v. v < c) vs → Each (Den l c) vs (map (tree_of l c) vs)
each_meant [] p = Each.none
each_meant (v ∷ vs) p = Each.one (den_at v p.0) (each_meant vs p.1)

module _ {m : Model} (fine : Fine m) where
  first_values_lem : Each (Den m.lines m.count) (first_values (λ v. v) m.locations) (first_values (tree_of m.lines m.count) m.locations)
  unfolding first_values first_value
  first_values_lem =
      each_up (λ i. (location_at m.locations i).value) (λ i. tree_of m.lines m.count (location_at m.locations i).value)
      (λ i. den_at (location_at m.locations i).value (fine.values i)) 32 0

  -- the fresh configuration stands for the fresh state
  pub fine_fresh : Like m m.lines (fresh_control m) (fresh_state m)
  unfolding fresh_control fresh_state fresh_frame
  fine_fresh = record {
    table = grows_refl fine.table fine.long;
    known = refl;
    frame = refl;
    values = first_values_lem;
    vars = each_replicate 0 nought (den_nought fine.table fine.long) 192;
    nonce = omega arith;
    codes = table_leaves (Named m) fine.table fine.long fine.codes;
  }

pub fresh_like : {m : Model} → SoundModel m → length m.lines ≡ 512 → Like m m.lines (fresh_control m) (fresh_state m)
fresh_like s long = fine_fresh (sound_fine s long)

-- a configuration whose table has grown from the model's, and whose values and variables are labels, stands for its own terms
pub like_meant : {m : Model} {l : List ℕ} {s : Control} → Grows m.lines m.count l s.count
    → All (λ v. v < s.count) s.values → All (λ v. v < s.count) s.vars → s.frame.nonce < 65536
    → ((i : ℕ) → i < s.count → (term_at l i).kind ≡ 8 → (term_at l i).a < m.programs)
    → Like m l s (meant l s)
unfolding meant
like_meant {m} {s = s} g vals vars small codes = record {
  table = g;
  known = refl;
  frame = refl;
  values = each_meant s.values vals;
  vars = each_meant s.vars vars;
  nonce = small;
  codes = table_leaves (Named m) g.sound g.long codes;
}

-- tests that all hold
record Four (p q r t : Bool) : Type 0 where
  first : p ≡ true
  second : q ≡ true
  third : r ≡ true
  rest : t ≡ true

all_four : (p q r t : Bool) → also p (also q (also r t)) ≡ true → Four p q r t
all_four p q r t e =
    let a = also_right p (also q (also r t)) e in
    let b = also_right q (also r t) a in
    record { first = also_left p (also q (also r t)) e; second = also_left q (also r t) a; third = also_left r t b; rest = also_right r t b }

stored_small : (l : List ℕ) (n v : ℕ) → stored_value l n v ≡ true → v < n
unfolding stored_value
stored_small l n v e = ltb-true v n (also_left (ltb v n) (ground_in (line_at l v)) e)

-- a stored value or zero: in either case a label
label_or_zero : (b : Bool) (l : List ℕ) (n v : ℕ) → 0 < n → pick b (stored_value l n v) (eqb v 0) ≡ true → v < n
label_or_zero true l n v h e = stored_small l n v e
label_or_zero false l n v h e = let z = eqb-true v 0 e in omega (arith, z, h)

module _ {m : Model} {l : List ℕ} {s : Control} (size : Sized m l s) where
  values_small : 0 < s.count → values_sound s.values l s.count m.location_count ≡ true → All (λ v. v < s.count) s.values
  unfolding values_sound value_sound
  values_small h e =
      all_from (λ v. v < s.count) 0 s.values
      (λ i k. let z = size.values in label_or_zero (ltb i m.location_count) l s.count (get_or s.values i 0) h (each_at 32 _ e i (omega arith)))

  vars_small : 0 < s.count → vars_sound s.vars s.frame.slots l s.count ≡ true → All (λ v. v < s.count) s.vars
  unfolding vars_sound var_sound
  vars_small h e =
      all_from (λ v. v < s.count) 0 s.vars
      (λ i k.
      let z = size.vars in
      label_or_zero (is_bound (slot_at s.frame.slots (i / 16)) (i % 16)) l s.count (get_or s.vars i 0) h (each_at 192 _ e i (omega arith)))

  nonce_small : counters_sound s.frame ≡ true → s.frame.nonce < 65536
  unfolding counters_sound
  nonce_small e =
      let f = s.frame in
      let a = leb-true f.steps 60000 (also_left (leb f.steps 60000) (also (leb f.serial (8 + f.steps)) (leb f.nonce f.steps)) e) in
      let b = also_right (leb f.steps 60000) (also (leb f.serial (8 + f.steps)) (leb f.nonce f.steps)) e in
      let d = leb-true f.nonce f.steps (also_right (leb f.serial (8 + f.steps)) (leb f.nonce f.steps) b) in
      omega (arith, a, d)

  codes_named : leaves_sound l s.count m.programs s.frame.nonce ≡ true → (i : ℕ) → i < s.count → (term_at l i).kind ≡ 8 → (term_at l i).a < m.programs
  unfolding leaves_sound leaf_sound names_program
  codes_named e i h k = let t = each_at s.count _ e i h in ltb-true (term_at l i).a m.programs (rw k at t)

  front_same : m.count ≤ s.count → s.count ≤ 512 → begins_with l m.lines m.count ≡ true → take m.count l ≡ take m.count m.lines
  unfolding begins_with
  front_same p q e =
      let a : length (take m.count l) ≡ m.count = length-take-le m.count l (omega (arith, p, q, size.table)) in
      let b : length (take m.count m.lines) ≡ m.count = length-take-le m.count m.lines (omega (arith, p, q, size.lines)) in
      ext_get_or 0 (take m.count l) (take m.count m.lines) (a ∙ sym b)
      (λ i h.
      let k : i < m.count = omega (arith, h, a) in
      get_or-take m.count l i 0 k ∙ eqb-true (line_at l i) (line_at m.lines i) (each_at m.count _ e i k) ∙ sym (get_or-take m.count m.lines i 0 k))

  -- the table of a configuration that passes the test
  table_grows : sound_test l s.count ≡ true → leb m.count s.count ≡ true → begins_with l m.lines m.count ≡ true
      → Grows m.lines m.count l s.count
  table_grows a b d =
      let sound = test_sound size.table a in
      let more : m.count ≤ s.count = leb-true m.count s.count b in
      record { sound = sound; long = size.table; rises = more; front = front_same more sound.room d }

  like_passed : Grows m.lines m.count l s.count → leaves_sound l s.count m.programs s.frame.nonce ≡ true → counters_sound s.frame ≡ true
      → vars_sound s.vars s.frame.slots l s.count ≡ true → values_sound s.values l s.count m.location_count ≡ true → Like m l s (meant l s)
  like_passed g a b d e =
      let some : 0 < s.count = omega (arith, g.sound.some) in
      like_meant g (values_small some e) (vars_small some d) (nonce_small b) (codes_named a)

  table_passed : table_sound m l s.count s.frame.nonce ≡ true
      → (Grows m.lines m.count l s.count) × (leaves_sound l s.count m.programs s.frame.nonce ≡ true)
  unfolding table_sound
  table_passed e =
      let begins = begins_with l m.lines m.count in
      let t = all_four (sound_test l s.count) (leb m.count s.count) begins (leaves_sound l s.count m.programs s.frame.nonce) e in
      (table_grows t.first t.second t.third, t.rest)

  -- a configuration that passes the test of soundness stands for its own terms
  pub sound_like : sound_control m l s ≡ true → Like m l s (meant l s)
  unfolding sound_control
  sound_like e =
      let f = s.frame in
      let vars = vars_sound s.vars f.slots l s.count in
      let locks = locks_sound f.locks f.serial m.location_count in
      let vals = values_sound s.values l s.count m.location_count in
      let fit = threads_fit f.slots m.threads m.thread_count in
      let slots = slots_sound f.slots f.serial m.lengths m.programs m.machine_count in
      let rest = also (serials_differ f.slots) (also vars (also locks (also vals fit))) in
      let t = all_four (table_sound m l s.count f.nonce) (counters_sound f) slots rest e in
      let u = all_four (serials_differ f.slots) vars locks (also vals fit) t.rest in
      let g = table_passed t.first in
      like_passed g.0 g.1 t.second u.second (also_left vals fit u.rest)
