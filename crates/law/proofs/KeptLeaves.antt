-- The leaves of a sound table's terms: nonces below the next, and code terms that name a program. From the lines of the
-- table to its terms, and back.
use Prim.Native.Nat.{ℕ, ◌<◌, ◌≤◌}
use mathlib.Core.Path.{◌≡◌, ap, ◌∙◌, subst}
use mathlib.Core.List.{List}
use native.Mathlib.Omega.{arith}
use lib.ListN.{length}
use Rattle.walk.specs.Base.{All}
use Rattle.walk.proofs.Lists.{all_imp}
use Rattle.terms.specs.Term.{shape_of}
use Rattle.terms.specs.Line.{term_at}
use Rattle.terms.specs.Tree.{Tree, nought}
use Rattle.terms.specs.Meaning.{trees, tree_of, means}
use Rattle.terms.specs.Sound.{Sound}
use Rattle.terms.specs.declared.term.Shape.TheVariants.{Number}
use Rattle.terms.proofs.Meaning.{tree_at}
use Rattle.model.specs.declared.records.Model.{Model}
use Rattle.audit.specs.Whole.{SoundTerms}
use Rattle.law.specs.Like.{Leaves, at, in_sealed, in_applied, in_joined}
use Rattle.law.proofs.Denote.{leaf_build}
use Rattle.law.proofs.Leaves.{leaf_of, all_at}
use Rattle.law.proofs.Stands.{table_leaves}

-- what follows from Q holds of the leaves too
leaves_more : {Q R : ℕ → ℕ → Type 0} → ((k a : ℕ) → Q k a → R k a) → {x : Tree} → Leaves Q x → Leaves R x
leaves_more f (at q) = at (f _ _ q)
leaves_more f (in_sealed l) = in_sealed (leaves_more f l)
leaves_more f (in_applied l) = in_applied (leaves_more f l)
leaves_more f (in_joined l r) = in_joined (leaves_more f l) (leaves_more f r)

pub all_more : {Q R : ℕ → ℕ → Type 0} → ((k a : ℕ) → Q k a → R k a) → (ts : List Tree) → All (Leaves Q) ts → All (Leaves R) ts
all_more {Q} {R} f ts ls = all_imp (Leaves Q) (Leaves R) (λ x l. leaves_more f l) ts ls

-- back from a term that is a leaf to its line
leaf_line : (Q : ℕ → ℕ → Type 0) {l : List ℕ} {c : ℕ} → Sound l c → length l ≡ 512 → Q 0 0 → All (Leaves Q) (trees l c) → (i : ℕ) → i < c
    → shape_of (term_at l i).kind ≡ Number → Q (term_at l i).kind (term_at l i).a
unfolding tree_of means
leaf_line Q {l} {c} S p z f i h e =
    leaf_of (subst (Leaves Q) (tree_at S p i h ∙ leaf_build (term_at l i) (trees l c) e) (all_at (Leaves Q) (trees l c) nought (at z) f i))

-- a nonce is below the next, a code term names a program
pub record LeafSound (next programs k a : ℕ) : Type 0 where
  pub nonce : k ≡ 7 → a < next
  pub code : k ≡ 8 → a < programs

pub leaf_none : (nonce programs : ℕ) → LeafSound nonce programs 0 0
leaf_none nonce programs = record { nonce = λ e. absurd (omega (arith, e)); code = λ e. absurd (omega (arith, e)) }

pub leaf_later : (nonce after programs : ℕ) → nonce ≤ after → (k a : ℕ) → LeafSound nonce programs k a → LeafSound after programs k a
leaf_later nonce after programs h k a s = record { nonce = λ e. omega (arith, s.nonce e, h); code = s.code }

pub terms_leaves : {m : Model} {l : List ℕ} {n nonce : ℕ} → SoundTerms m l n nonce → All (Leaves (LeafSound nonce m.programs)) (trees l n)
terms_leaves {m} {nonce = nonce} T =
    table_leaves (LeafSound nonce m.programs) T.table T.long (λ i h. record { nonce = T.nonces i h; code = T.codes i h })

module _ {l : List ℕ} {c : ℕ} (nonce programs : ℕ) (S : Sound l c) (p : length l ≡ 512) (f : All (Leaves (LeafSound nonce programs)) (trees l c)) where
  pub line_nonce : (i : ℕ) → i < c → (term_at l i).kind ≡ 7 → (term_at l i).a < nonce
  unfolding shape_of
  line_nonce i h e = (leaf_line (LeafSound nonce programs) S p (leaf_none nonce programs) f i h (ap shape_of e)).nonce e

  pub line_code : (i : ℕ) → i < c → (term_at l i).kind ≡ 8 → (term_at l i).a < programs
  unfolding shape_of
  line_code i h e = (leaf_line (LeafSound nonce programs) S p (leaf_none nonce programs) f i h (ap shape_of e)).code e
