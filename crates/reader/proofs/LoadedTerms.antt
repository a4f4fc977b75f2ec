-- One term more.
use Prim.Native.Nat.{ℕ, zero, suc, ◌+◌, ◌<◌, ◌≤◌}
use mathlib.Core.Path.{◌≡◌, sym, ap, ◌∙◌}
use mathlib.Core.List.{List}
use native.Mathlib.Omega.{arith}
use lib.ListN.{get_or, set, replicate, length-set, length-replicate}
use lib.Seq.{get_or-set_same, get_or-set_other}
use Rattle.terms.specs.Line.{term_at, term_in}
use Rattle.terms.specs.Table.{fresh_table}
use Rattle.terms.specs.Tree.{kind_of}
use Rattle.terms.specs.Meaning.{trees, tree_of, means, Den}
use Rattle.terms.specs.Promise.{Grows}
use Rattle.terms.specs.declared.term.Term.{Term}
use Rattle.terms.proofs.Check.{fresh_long, fresh_sound}
use Rattle.terms.proofs.Laws.{below_or}
use Rattle.terms.proofs.Meaning.{tree_at}
use Rattle.terms.proofs.Labels.{kind_build}
use Rattle.terms.proofs.Growth.{tree_grows, term_grows, den_nought, den_sinit, den_dinit}
use Rattle.audit.specs.Tops.{topmost}
use Rattle.reader.proofs.LoadedFacts.{Terms}
use Rattle.reader.proofs.LoadedLists.{zero_at}

kind_means : (l : List ℕ) (c : ℕ) (x : Term) → kind_of (means l c x) ≡ x.kind
unfolding means
kind_means l c x = kind_build x (trees l c)

-- the new line holds a term of the new term's kind
kind_new : {l : List ℕ} {c : ℕ} {m : List ℕ} (x : Term) → Grows l c m (c + 1) → Den m (c + 1) c (means l c x) → (term_at m c).kind ≡ x.kind
kind_new {l} {c} {m} x G D =
    sym (kind_means m (c + 1) (term_at m c)) ∙ ap kind_of (sym (tree_at G.sound G.long c (omega arith)) ∙ D.is) ∙ kind_means l c x

-- top is what the new term asks to be bound
pub next_term : {l : List ℕ} {c : ℕ} {m tops : List ℕ} → Terms l c tops → (x : Term) → (x.kind ≡ 7 → ⊥) → c < 512
    → Grows l c m (c + 1) → Den m (c + 1) c (means l c x) → (top : ℕ) → top ≡ topmost (means l c x) → Terms m (c + 1) (set tops c top)
next_term {l} {c} {m} {tops} T x seven room G D top e = record {
  long = G.long;
  table = G.sound;
  nonces = λ i h g. below_or (λ j. 3 ≤ j → (term_at m j).kind ≡ 7 → ⊥) c
      (λ j k q r. T.nonces j q k (ap (λ (n : ℕ). (term_in n).kind) (sym (term_grows G j k)) ∙ r))
      (λ q r. seven (sym (kind_new x G D) ∙ r))
      i g h;
  wide = length-set tops c top ∙ T.wide;
  right = below_or (λ i. get_or (set tops c top) i 0 ≡ topmost (tree_of m (c + 1) i)) c
      (λ i h. get_or-set_other tops c i top 0 (omega arith) ∙ T.right i h ∙ ap topmost (sym (tree_grows G i h)))
      (get_or-set_same tops c top 0 (omega (arith, T.wide)) ∙ e ∙ ap topmost (sym D.is));
}

-- the fixed terms alone ask nothing
pub fresh_terms : Terms fresh_table.lines fresh_table.count (replicate 512 0)
unfolding topmost fresh_table
fresh_terms = record {
  long = fresh_long;
  table = fresh_sound;
  nonces = λ i h g. absurd (omega arith);
  wide = length-replicate {A = ℕ} 512 0;
  right = λ i h. zero_at 512 i ∙ sym (zero_top i h);
}
  where
    zero_top : (i : ℕ) → i < 3 → topmost (tree_of fresh_table.lines 3 i) ≡ 0
    zero_top zero h = ap topmost (den_nought fresh_sound fresh_long).is
    zero_top (suc zero) h = ap topmost (den_sinit fresh_sound fresh_long).is
    zero_top (suc (suc zero)) h = ap topmost (den_dinit fresh_sound fresh_long).is
    zero_top (suc (suc (suc i))) h = absurd (omega arith)
