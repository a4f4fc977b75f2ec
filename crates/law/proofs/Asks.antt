-- What an action wants of the table is what it yields by the rules: a label of the term, or a term to be made whose parts
-- are there, or 10 on both sides. One line an action.
use Prim.Native.Nat.{ℕ, ◌<◌, ◌≤◌}
use mathlib.Core.Path.{◌≡◌, refl, ap, ◌∙◌}
use mathlib.Core.Bool.{Bool, true, false}
use mathlib.Core.List.{List}
use native.Mathlib.Omega.{arith}
use lib.ListN.{length}
use lib.Dec.{eqb}
use borrow.Author.Tests.{eqb-true, lt-ltb}
use Rattle.terms.specs.Base.{pick}
use Rattle.terms.specs.Term.{term, shape_of, in_limits, parts_below}
use Rattle.terms.specs.Line.{line_at, term_at}
use Rattle.terms.specs.Sound.{Sound}
use Rattle.terms.specs.Tree.{Tree, leaf, sealed, applied, joined, nought, same, with, enter}
use Rattle.terms.specs.Meaning.{build, trees, means, Den}
use Rattle.terms.specs.Promise.{Fit}
use Rattle.terms.specs.declared.term.Term.{Term}
use Rattle.terms.specs.declared.term.Shape.TheVariants.{Number, Sealed}
use Rattle.terms.proofs.Pack.{term_small}
use Rattle.terms.proofs.Growth.{den_nought}
use Rattle.terms.proofs.Depth.{Seals, Applies, Joins, seals_sealed, seals_hashed, applies, joins, den_enters}
use Rattle.terms.proofs.Substs.{means_sealed, means_applied, means_joined}
use Rattle.model.specs.declared.records.Action.{Action}
use Rattle.rules.specs.Want.{sealed_by, opened_by, first_half, second_half, matched_of, code_needed, want_of}
use Rattle.rules.specs.Work.{given_at}
use Rattle.rules.specs.Asked.{Want, Refuse, Keep, Make}
use Rattle.law.specs.Out.{Out, ok, refuse}
use Rattle.law.specs.Act.{num_of, first_of, second_of, sealing, opening, needs, is_a, result}
use Rattle.law.proofs.Denote.{pair_shape, den_kind, den_number, den_key, den_inside, den_first, den_second, den_same}

-- a want beside what the rules yield
pub data Asks (l : List ℕ) (c : ℕ) : Want → Out Tree → Type 0 where
  refuses : Asks l c Refuse (refuse 10)
  keeps : {i : ℕ} {x : Tree} → Den l c i x → Asks l c (Keep i) (ok x)
  -- the term may be entered, it is the rules' term, and nothing but the whole of it may be missing
  makes : {e : Term} {x : Tree} → Fit e c → means l c e ≡ x → enter (trees l c) x ≡ with (trees l c) x → Asks l c (Make e) (ok x)

module _ {l : List ℕ} {c : ℕ} where
  asks_pick : {v w : Want} {o p : Out Tree} (b : Bool) → (b ≡ true → Asks l c v o) → Asks l c w p → Asks l c (pick b v w) (pick b o p)
  asks_pick true f q = f refl
  asks_pick false f q = q

  -- one test on both sides
  asks_fit : {w : Want} {o : Out Tree} (b d : Bool) → b ≡ d → (b ≡ true → Asks l c w o) → Asks l c (pick b w Refuse) (pick d o (refuse 10))
  asks_fit true true e f = f refl
  asks_fit true false e f = let z : ◌≡◌ {A = ℕ} 0 1 = cc in absurd (omega arith)
  asks_fit false true e f = let z : ◌≡◌ {A = ℕ} 0 1 = cc in absurd (omega arith)
  asks_fit false false e f = refuses

-- the shapes of the kinds that actions look at or make
leaf_kind : (k n : ℕ) → k ≡ n → shape_of n ≡ Number → shape_of k ≡ Number
leaf_kind k n e h = ap shape_of e ∙ h

hash_seals : Seals 13 0
unfolding in_limits shape_of
hash_seals = seals_hashed (term 13 0 0) (omega arith) refl (omega arith) refl

eval_applies : (f : ℕ) → f < 256 → Applies 15 f
unfolding in_limits shape_of
eval_applies f h = applies (term 15 f 0) (omega arith) refl (omega arith) (lt-ltb f 256 h)

chain_joins : Joins 14
unfolding shape_of
chain_joins = joins (term 14 0 0) (omega arith) refl

-- a nonce has no parts
fit_nonce : (n d : ℕ) → n < 65536 → Fit (term 7 n 0) d
unfolding in_limits parts_below shape_of
fit_nonce n d h = record { limits = refl; parts = refl; kind = omega arith; first = h; second = omega arith }

means_nonce : (l : List ℕ) (c n : ℕ) → means l c (term 7 n 0) ≡ leaf 7 n
unfolding means build shape_of
means_nonce l c n = refl

module _ {l : List ℕ} {c : ℕ} (sound : Sound l c) (long : length l ≡ 512) where
  -- of a term whose parts are there only the whole can be new
  whole_sealed : {j : ℕ} {x : Tree} (k n : ℕ) → Den l c j x → enter (trees l c) (sealed k x n) ≡ with (trees l c) (sealed k x n)
  unfolding enter
  whole_sealed {x = x} k n d = ap (λ (ks : List Tree). with ks (sealed k x n)) (den_enters sound long d)

  whole_applied : {j : ℕ} {x : Tree} (k f : ℕ) → Den l c j x → enter (trees l c) (applied k f x) ≡ with (trees l c) (applied k f x)
  unfolding enter
  whole_applied {x = x} k f d = ap (λ (ks : List Tree). with ks (applied k f x)) (den_enters sound long d)

  whole_joined : {i j : ℕ} {x y : Tree} (k : ℕ) → Den l c i x → Den l c j y → enter (trees l c) (joined k x y) ≡ with (trees l c) (joined k x y)
  unfolding enter
  whole_joined {x = x} {y = y} k d e =
      ap (λ (ks : List Tree). with (enter ks y) (joined k x y)) (den_enters sound long d)
      ∙ ap (λ (ks : List Tree). with ks (joined k x y)) (den_enters sound long e)

  whole_leaf : (k a : ℕ) → enter (trees l c) (leaf k a) ≡ with (trees l c) (leaf k a)
  unfolding enter
  whole_leaf k a = refl

  module _ {v x y : ℕ} {tv tx ty : Tree} (dv : Den l c v tv) (dx : Den l c x tx) (dy : Den l c y ty) (n : ℕ) (small : n < 65536) where
    room : c ≤ 512
    room = sound.room

    -- a test of a kind
    kind_test : {i : ℕ} {t : Tree} (k : ℕ) → Den l c i t → eqb (term_at l i).kind k ≡ is_a k t
    kind_test k d = ap (λ (j : ℕ). eqb j k) (den_kind sound long d)

    seals : (k key : ℕ) → shape_of k ≡ Sealed → k < 256 → shape_of key ≡ Number → Asks l c (sealed_by k key (given_at l x y v n)) (sealing k key tx ty)
    unfolding sealed_by given_at
    seals k key e h g =
        asks_fit (eqb (term_at l y).kind key) (is_a key ty) (kind_test key dy)
        (λ t.
        let s : shape_of (term_at l y).kind ≡ Number = leaf_kind _ _ (eqb-true (term_at l y).kind key t) g in
        let q : (term_at l y).a ≡ num_of ty = den_number sound long dy s in
        let u : Seals k (term_at l y).a = seals_sealed (term k x (term_at l y).a) h e (term_small (line_at l y)).first in
        makes (u.fit x c dx.below room)
        (means_sealed u dx ∙ ap (λ (a : ℕ). sealed k tx a) q)
        (whole_sealed k (num_of ty) dx))

    opens : (k key : ℕ) → shape_of k ≡ Sealed → shape_of key ≡ Number → Asks l c (opened_by k key (given_at l x y v n)) (opening k key tx ty)
    unfolding opened_by given_at
    opens k key e g =
        asks_fit (eqb (term_at l x).kind k) (is_a k tx) (kind_test k dx)
        (λ s.
        asks_fit (eqb (term_at l y).kind key) (is_a key ty) (kind_test key dy)
        (λ t.
        let p : shape_of (term_at l x).kind ≡ Sealed = ap shape_of (eqb-true (term_at l x).kind k s) ∙ e in
        let q : shape_of (term_at l y).kind ≡ Number = leaf_kind _ _ (eqb-true (term_at l y).kind key t) g in
        let r : eqb (term_at l x).b (term_at l y).a ≡ eqb (num_of tx) (num_of ty) = rw (den_key sound long dx p, den_number sound long dy q) in
        asks_fit (eqb (term_at l x).b (term_at l y).a) (eqb (num_of tx) (num_of ty)) r
        (λ u. keeps (den_inside sound long dx p))))

    first_part : Asks l c (first_half (given_at l x y v n)) (needs (is_a 9 tx) (ok (first_of tx)))
    unfolding first_half given_at
    first_part = asks_fit (eqb (term_at l x).kind 9) (is_a 9 tx) (kind_test 9 dx) (λ s. keeps (den_first sound long dx (pair_shape (term_at l x).kind s)))

    second_part : Asks l c (second_half (given_at l x y v n)) (needs (is_a 9 tx) (ok (second_of tx)))
    unfolding second_half given_at
    second_part = asks_fit (eqb (term_at l x).kind 9) (is_a 9 tx) (kind_test 9 dx) (λ s. keeps (den_second sound long dx (pair_shape (term_at l x).kind s)))

    zero : Den l c 0 nought
    zero = den_nought sound long

    matches : Asks l c (matched_of (given_at l x y v n)) (needs (same tx ty) (ok nought))
    unfolding matched_of given_at
    matches = asks_fit (eqb x y) (same tx ty) (den_same sound long dx dy) (λ s. keeps zero)

    jumps : Asks l c (code_needed (given_at l x y v n)) (needs (is_a 8 tx) (ok nought))
    unfolding code_needed given_at
    jumps = asks_fit (eqb (term_at l x).kind 8) (is_a 8 tx) (kind_test 8 dx) (λ s. keeps zero)

    evals : (f : ℕ) → f < 256 → Asks l c (Make (term 15 f x)) (ok (applied 15 f tx))
    evals f h = makes ((eval_applies f h).fit x c dx.below room) (means_applied (eval_applies f h) dx) (whole_applied 15 f dx)

    -- what an action wants is what it yields
    pub asks : (a : Action) → (a.op ≡ 14 → a.loc < 256) → Asks l c (want_of a (given_at l x y v n)) (result a tv tx ty n)
    unfolding want_of result given_at shape_of
    asks a small-loc =
        asks_pick (eqb a.op 0) (λ t. keeps dv)
        (asks_pick (eqb a.op 2) (λ t. makes (chain_joins.fit v x c dv.below dx.below room) (means_joined chain_joins dv dx) (whole_joined 14 dv dx))
        (asks_pick (eqb a.op 7) (λ t. seals 10 5 refl (omega arith) refl)
        (asks_pick (eqb a.op 8) (λ t. opens 10 4 refl refl)
        (asks_pick (eqb a.op 9) (λ t. seals 11 4 refl (omega arith) refl)
        (asks_pick (eqb a.op 10) (λ t. opens 11 5 refl refl)
        (asks_pick (eqb a.op 11) (λ t. seals 12 4 refl (omega arith) refl)
        (asks_pick (eqb a.op 12) (λ t. opens 12 4 refl refl)
        (asks_pick (eqb a.op 13) (λ t. makes (hash_seals.fit x c dx.below room) (means_sealed hash_seals dx) (whole_sealed 13 0 dx))
        (asks_pick (eqb a.op 14) (λ t. evals a.loc (small-loc (eqb-true a.op 14 t)))
        (asks_pick (eqb a.op 15) (λ t. first_part)
        (asks_pick (eqb a.op 16) (λ t. second_part)
        (asks_pick (eqb a.op 17) (λ t. matches)
        (asks_pick (eqb a.op 18) (λ t. makes (fit_nonce n c small) (means_nonce l c n) (whole_leaf 7 n))
        (asks_pick (eqb a.op 19) (λ t. jumps)
        (keeps zero)))))))))))))))
