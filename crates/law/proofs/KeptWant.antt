-- What an action wants, once its operands are there: a label of a ground term to keep, or a ground term to make, whose
-- leaves are old ones or the next nonce.
use Prim.Native.Nat.{ℕ, ◌<◌}
use mathlib.Core.Path.{◌≡◌, refl, sym, ap, ◌∙◌}
use mathlib.Core.Bool.{Bool, true, false}
use mathlib.Core.List.{List}
use native.Mathlib.Omega.{arith}
use lib.ListN.{length, get_or}
use lib.Dec.{eqb}
use borrow.Author.Tests.{lt-ltb, eqb-true}
use Rattle.terms.specs.Base.{pick, also}
use Rattle.terms.specs.Term.{term, shape_of, in_limits, parts_below}
use Rattle.terms.specs.Line.{line_at, term_at}
use Rattle.terms.specs.Tree.{Tree, sealed, joined, nought, is_ground}
use Rattle.terms.specs.Meaning.{build, trees, tree_of, means, Den}
use Rattle.terms.specs.Sound.{Sound}
use Rattle.terms.specs.Promise.{Fit, Grows}
use Rattle.terms.specs.declared.term.Term.{Term}
use Rattle.terms.specs.declared.term.Shape.TheVariants.{Sealed, Joined}
use Rattle.terms.proofs.Pack.{term_small}
use Rattle.terms.proofs.Meaning.{also_left, also_right, also_both, tree_at, part_sealed, part_first, part_second}
use Rattle.terms.proofs.Growth.{tree_grows, den_nought}
use Rattle.model.specs.declared.records.Action.{Action}
use Rattle.rules.specs.Want.{operands_given, sealed_by, opened_by, first_half, second_half, matched_of, code_needed, want_of}
use Rattle.rules.specs.Asked.{Want, Refuse, Keep, Make}
use Rattle.rules.specs.declared.want.Given.{Given}
use Rattle.audit.specs.Whole.{Stored}
use Rattle.law.specs.Like.{Leaves, at, in_sealed, in_applied, in_joined}
use Rattle.law.proofs.Denote.{pair_shape}

-- a stored label stays one, and number 0 is one
pub stored_grows : {l : List ℕ} {c : ℕ} {m : List ℕ} {d v : ℕ} → Grows l c m d → Stored l c v → Stored m d v
stored_grows {v = v} g s = record { below = omega (arith, s.below, g.rises); grounded = ap is_ground (tree_grows g v s.below) ∙ s.grounded }

pub stored_den : {l : List ℕ} {c v : ℕ} {x : Tree} → Den l c v x → is_ground x ≡ true → Stored l c v
stored_den d g = record { below = d.below; grounded = ap is_ground d.is ∙ g }

nought_ground : is_ground nought ≡ true
unfolding is_ground
nought_ground = refl

pub stored_none : {l : List ℕ} {c : ℕ} → Sound l c → length l ≡ 512 → Stored l c 0
stored_none S p = stored_den (den_nought S p) nought_ground

-- a want that keeps a table's terms fine
pub data WantFine (Q : ℕ → ℕ → Type 0) (l : List ℕ) (c : ℕ) : Want → Type 0 where
  refuse : WantFine Q l c Refuse
  keep : {r : ℕ} → Stored l c r → WantFine Q l c (Keep r)
  make : {e : Term} → Fit e c → is_ground (means l c e) ≡ true → Leaves Q (means l c e) → WantFine Q l c (Make e)

module _ (Q : ℕ → ℕ → Type 0) (l : List ℕ) (c : ℕ) where
  fine_fit : (b : Bool) (w : Want) → (b ≡ true → WantFine Q l c w) → WantFine Q l c (pick b w Refuse)
  fine_fit true w f = f refl
  fine_fit false w f = refuse

  fine_pick : (b : Bool) {w u : Want} → (b ≡ true → WantFine Q l c w) → WantFine Q l c u → WantFine Q l c (pick b w u)
  fine_pick true f g = f refl
  fine_pick false f g = g

module _ {l : List ℕ} {c : ℕ} (S : Sound l c) (p : length l ≡ 512) where
  -- parts of a ground term
  sealed_tree : (x : Term) (ts : List Tree) → shape_of x.kind ≡ Sealed → build x ts ≡ sealed x.kind (get_or ts x.a nought) x.b
  unfolding build
  sealed_tree x ts e = rw e

  joined_tree : (x : Term) (ts : List Tree) → shape_of x.kind ≡ Joined → build x ts ≡ joined x.kind (get_or ts x.a nought) (get_or ts x.b nought)
  unfolding build
  joined_tree x ts e = rw e

  sealed_part : (x : ℕ) → Stored l c x → shape_of (term_at l x).kind ≡ Sealed → Stored l c (term_at l x).a
  unfolding tree_of means is_ground
  sealed_part x s e =
      let t : is_ground (sealed (term_at l x).kind (get_or (trees l c) (term_at l x).a nought) (term_at l x).b) ≡ true =
      ap is_ground (sym (tree_at S p x s.below ∙ sealed_tree (term_at l x) (trees l c) e)) ∙ s.grounded in
      record { below = omega (arith, s.below, part_sealed (term_at l x) x e (S.parts x s.below)); grounded = t }

  joined_ground : (x : ℕ) → Stored l c x → shape_of (term_at l x).kind ≡ Joined
      → also (is_ground (get_or (trees l c) (term_at l x).a nought)) (is_ground (get_or (trees l c) (term_at l x).b nought)) ≡ true
  unfolding tree_of means is_ground
  joined_ground x s e = ap is_ground (sym (tree_at S p x s.below ∙ joined_tree (term_at l x) (trees l c) e)) ∙ s.grounded

  first_part : (x : ℕ) → Stored l c x → shape_of (term_at l x).kind ≡ Joined → Stored l c (term_at l x).a
  unfolding tree_of
  first_part x s e = record {
    below = omega (arith, s.below, part_first (term_at l x) x e (S.parts x s.below));
    grounded = also_left (is_ground (get_or (trees l c) (term_at l x).a nought)) (is_ground (get_or (trees l c) (term_at l x).b nought)) (joined_ground x s e);
  }

  second_part : (x : ℕ) → Stored l c x → shape_of (term_at l x).kind ≡ Joined → Stored l c (term_at l x).b
  unfolding tree_of
  second_part x s e = record {
    below = omega (arith, s.below, part_second (term_at l x) x e (S.parts x s.below));
    grounded = also_right (is_ground (get_or (trees l c) (term_at l x).a nought)) (is_ground (get_or (trees l c) (term_at l x).b nought)) (joined_ground x s e);
  }

  -- terms over ground parts
  module _ {Q : ℕ → ℕ → Type 0} (f : (i : ℕ) → Leaves Q (get_or (trees l c) i nought)) where
    make_sealed : (k b x : ℕ) → shape_of k ≡ Sealed → k < 256 → b < 65536 → Stored l c x → WantFine Q l c (Make (term k x b))
    unfolding in_limits parts_below means build is_ground tree_of
    make_sealed k b x e h g s =
        make {e = term k x b} (record { limits = rw e; parts = rw e (lt-ltb x c s.below); kind = h; first = omega (arith, s.below, S.room); second = g })
        (rw e s.grounded) (rw e (in_sealed (f x)))

    make_hash : (x : ℕ) → Stored l c x → WantFine Q l c (Make (term 13 x 0))
    unfolding in_limits parts_below means build is_ground tree_of shape_of
    make_hash x s =
        make {e = term 13 x 0} (record {
          limits = refl;
          parts = lt-ltb x c s.below;
          kind = omega arith;
          first = omega (arith, s.below, S.room);
          second = omega arith;
        })
        s.grounded (in_sealed (f x))

    make_chain : (v x : ℕ) → Stored l c v → Stored l c x → WantFine Q l c (Make (term 14 v x))
    unfolding in_limits parts_below means build is_ground tree_of shape_of
    make_chain v x t s =
        make {e = term 14 v x} (record {
          limits = refl;
          parts = also_both (lt-ltb v c t.below) (lt-ltb x c s.below);
          kind = omega arith;
          first = omega (arith, t.below, S.room);
          second = omega (arith, s.below, S.room);
        })
        (also_both t.grounded s.grounded) (in_joined (f v) (f x))

    make_applied : (k x : ℕ) → k < 256 → Stored l c x → WantFine Q l c (Make (term 15 k x))
    unfolding in_limits parts_below means build is_ground tree_of shape_of
    make_applied k x h s =
        make {e = term 15 k x} (record {
          limits = lt-ltb k 256 h;
          parts = lt-ltb x c s.below;
          kind = omega arith;
          first = omega arith;
          second = omega (arith, s.below, S.room);
        })
        s.grounded (in_applied (f x))

    make_nonce : (n : ℕ) → n < 65536 → Q 7 n → WantFine Q l c (Make (term 7 n 0))
    unfolding in_limits parts_below means build is_ground shape_of
    make_nonce n h q =
        make {e = term 7 n 0} (record { limits = refl; parts = refl; kind = omega arith; first = h; second = omega arith }) refl (at q)

    -- the groups of actions
    module _ (x y v n : ℕ) (sx : Stored l c x) (sv : Stored l c v) where
      abbrev given : Given
      given = operands_given x y (term_at l x) (term_at l y) v n

      fine_none : WantFine Q l c (Keep 0)
      fine_none = keep (stored_none S p)

      fine_seals : (k key : ℕ) → shape_of k ≡ Sealed → k < 256 → WantFine Q l c (sealed_by k key given)
      unfolding sealed_by
      fine_seals k key e h = fine_fit Q l c (eqb (term_at l y).kind key) _ (λ g. make_sealed k (term_at l y).a x e h (term_small (line_at l y)).first sx)

      fine_opens : (k key : ℕ) → shape_of k ≡ Sealed → WantFine Q l c (opened_by k key given)
      unfolding opened_by
      fine_opens k key e =
          fine_fit Q l c (eqb (term_at l x).kind k) _ (λ h.
          fine_fit Q l c (eqb (term_at l y).kind key) _ (λ g.
          fine_fit Q l c (eqb (term_at l x).b (term_at l y).a) _ (λ j.
          keep (sealed_part x sx (ap shape_of (eqb-true (term_at l x).kind k h) ∙ e)))))

      fine_first : WantFine Q l c (first_half given)
      unfolding first_half
      fine_first = fine_fit Q l c (eqb (term_at l x).kind 9) _ (λ h. keep (first_part x sx (pair_shape (term_at l x).kind h)))

      fine_second : WantFine Q l c (second_half given)
      unfolding second_half
      fine_second = fine_fit Q l c (eqb (term_at l x).kind 9) _ (λ h. keep (second_part x sx (pair_shape (term_at l x).kind h)))

      fine_match : WantFine Q l c (matched_of given)
      unfolding matched_of
      fine_match = fine_fit Q l c (eqb x y) _ (λ h. fine_none)

      fine_code : WantFine Q l c (code_needed given)
      unfolding code_needed
      fine_code = fine_fit Q l c (eqb (term_at l x).kind 8) _ (λ h. fine_none)

      ten : shape_of 10 ≡ Sealed
      unfolding shape_of
      ten = refl

      eleven : shape_of 11 ≡ Sealed
      unfolding shape_of
      eleven = refl

      twelve : shape_of 12 ≡ Sealed
      unfolding shape_of
      twelve = refl

      -- one line an action
      pub fine_want : (a : Action) → (a.op ≡ 14 → a.loc < 256) → n < 65536 → (a.op ≡ 18 → Q 7 n) → WantFine Q l c (want_of a given)
      unfolding want_of
      fine_want a small h q =
          fine_pick Q l c (eqb a.op 0) (λ e. keep sv)
          (fine_pick Q l c (eqb a.op 2) (λ e. make_chain v x sv sx)
          (fine_pick Q l c (eqb a.op 7) (λ e. fine_seals 10 5 ten (omega arith))
          (fine_pick Q l c (eqb a.op 8) (λ e. fine_opens 10 4 ten)
          (fine_pick Q l c (eqb a.op 9) (λ e. fine_seals 11 4 eleven (omega arith))
          (fine_pick Q l c (eqb a.op 10) (λ e. fine_opens 11 5 eleven)
          (fine_pick Q l c (eqb a.op 11) (λ e. fine_seals 12 4 twelve (omega arith))
          (fine_pick Q l c (eqb a.op 12) (λ e. fine_opens 12 4 twelve)
          (fine_pick Q l c (eqb a.op 13) (λ e. make_hash x sx)
          (fine_pick Q l c (eqb a.op 14) (λ e. make_applied a.loc x (small (eqb-true a.op 14 e)) sx)
          (fine_pick Q l c (eqb a.op 15) (λ e. fine_first)
          (fine_pick Q l c (eqb a.op 16) (λ e. fine_second)
          (fine_pick Q l c (eqb a.op 17) (λ e. fine_match)
          (fine_pick Q l c (eqb a.op 18) (λ e. make_nonce n h (q (eqb-true a.op 18 e)))
          (fine_pick Q l c (eqb a.op 19) (λ e. fine_code)
          fine_none))))))))))))))
