-- Growth keeps what labels denote, and labels 0, 1, 2 denote the fixed terms. T2 and T3 stand on this.
use Prim.Native.Nat.{ℕ, ◌<◌}
use mathlib.Core.Path.{◌≡◌, refl, sym, ap, ◌∙◌}
use mathlib.Core.List.{List, []}
use native.Mathlib.Omega.{arith}
use lib.ListN.{length, get_or, take}
use lib.Seq.{take-take, get_or-take}
use Rattle.terms.specs.Term.{shape_of}
use Rattle.terms.specs.Line.{packed, term_in, line_at}
use Rattle.terms.specs.Table.{fixed_line}
use Rattle.terms.specs.Sound.{Sound}
use Rattle.terms.specs.Tree.{Tree, nought, sinit, dinit}
use Rattle.terms.specs.Meaning.{build, trees_from, trees, tree_of, means, Den}
use Rattle.terms.specs.Promise.{Grows}
use Rattle.terms.proofs.Meaning.{tree_below, tree_at}

-- Growth

-- the trees of the earlier labels are as they were
pub trees_front : {l : List ℕ} {c : ℕ} {m : List ℕ} {d : ℕ} → Grows l c m d → trees m c ≡ trees l c
unfolding trees
trees_front G = ap (trees_from []) G.front

-- label by label
pub tree_grows : {l : List ℕ} {c : ℕ} {m : List ℕ} {d : ℕ} → Grows l c m d → (i : ℕ) → i < c → tree_of m d i ≡ tree_of l c i
unfolding tree_of
tree_grows {l} {c} {m} {d} G i h =
    tree_below m c d G.rises (omega (arith, G.sound.room, G.long)) i h ∙ ap (λ (r : List Tree). get_or r i nought) (trees_front G)

-- so are their lines
pub term_grows : {l : List ℕ} {c : ℕ} {m : List ℕ} {d : ℕ} → Grows l c m d → (i : ℕ) → i < c → line_at m i ≡ line_at l i
term_grows {l} {c} {m} G i h = sym (get_or-take c m i 0 h) ∙ ap (λ (r : List ℕ). get_or r i 0) G.front ∙ get_or-take c l i 0 h

-- a label denotes what it denoted
pub den_grows : {l : List ℕ} {c : ℕ} {m : List ℕ} {d i : ℕ} {x : Tree} → Grows l c m d → Den l c i x → Den m d i x
den_grows {i} G D = record { below = omega (arith, D.below, G.rises); is = tree_grows G i D.below ∙ D.is }

-- no growth is growth; growth after growth is growth
pub grows_refl : {l : List ℕ} {c : ℕ} → Sound l c → length l ≡ 512 → Grows l c l c
grows_refl S p = record { sound = S; long = p; rises = omega arith; front = refl }

pub grows_then : {l : List ℕ} {c : ℕ} {m : List ℕ} {d : ℕ} {k : List ℕ} {e : ℕ} → Grows l c m d → Grows m d k e → Grows l c k e
grows_then {l} {c} {m} {d} {k} G H =
    let r = G.rises in
    record {
      sound = H.sound;
      long = H.long;
      rises = omega (arith, G.rises, H.rises);
      front = sym (take-take c d k r) ∙ ap (take c) H.front ∙ take-take c d m r ∙ G.front;
    }

-- "Labels 0, 1, 2 are always number 0, sinit, dinit"

fixed_tree : {l : List ℕ} {c : ℕ} → Sound l c → length l ≡ 512 → (i : ℕ) → i < 3 → tree_of l c i ≡ build (term_in (fixed_line i)) (trees l c)
unfolding means
fixed_tree {l} {c} S p i h = tree_at S p i (omega (arith, S.some, h)) ∙ ap (λ (n : ℕ). build (term_in n) (trees l c)) (S.fixed i h)

-- number 0 has label 0, sinit has label 1, dinit has label 2
pub den_nought : {l : List ℕ} {c : ℕ} → Sound l c → length l ≡ 512 → Den l c 0 nought
unfolding build term_in fixed_line packed shape_of
den_nought S p = record { below = omega (arith, S.some); is = fixed_tree S p 0 (omega arith) }

pub den_sinit : {l : List ℕ} {c : ℕ} → Sound l c → length l ≡ 512 → Den l c 1 sinit
unfolding build term_in fixed_line packed shape_of
den_sinit S p = record { below = omega (arith, S.some); is = fixed_tree S p 1 (omega arith) }

pub den_dinit : {l : List ℕ} {c : ℕ} → Sound l c → length l ≡ 512 → Den l c 2 dinit
unfolding build term_in fixed_line packed shape_of
den_dinit S p = record { below = omega (arith, S.some); is = fixed_tree S p 2 (omega arith) }
