-- The leaves of the terms that a step brings: all are leaves of terms that were there, or the new nonce. For any Q: that a
-- code term names a program, that no term has a variable, that nonces are below the next.
use Prim.Native.Nat.{ℕ, zero, suc, ◌+◌}
use mathlib.Core.Path.{◌≡◌, refl}
use mathlib.Core.Bool.{Bool, true, false}
use mathlib.Core.List.{List, [], ◌∷◌, ◌++◌}
use lib.ListN.{length, get_or}
use lib.Dec.{eqb, leb}
use borrow.Author.Tests.{eqb-true}
use Rattle.walk.specs.Base.{All}
use Rattle.walk.proofs.Lists.{all_append}
use Rattle.terms.specs.Base.{pick}
use Rattle.terms.specs.Tree.{Tree, leaf, sealed, nought, same, subst_t, member, with, enter}
use Rattle.model.specs.declared.records.Action.{Action}
use Rattle.law.specs.Out.{Out, ok, refuse, and_then}
use Rattle.law.specs.Size.{fits, fits_both, fits_one}
use Rattle.law.specs.Act.{first_of, second_of, num_of, is_a, needs, result}
use Rattle.law.specs.Rules.{Acted, acted}
use Rattle.law.specs.Like.{Leaves, at, in_sealed, in_applied, in_joined}

-- P holds of what there is, if it is no refusal
pub data Holds {A : Type 0} (P : A → Type 0) : Out A → Type 0 where
  held_ok : {a : A} → P a → Holds P (ok a)
  held_no : {n : ℕ} → Holds P (refuse n)

pub holds_is : {A : Type 0} {P : A → Type 0} {a : A} → Holds P (ok a) → P a
holds_is (held_ok p) = p

pub holds_then : {A B : Type 0} {P : A → Type 0} {R : B → Type 0} {o : Out A} {f : A → Out B}
    → Holds P o → ((a : A) → P a → Holds R (f a)) → Holds R (and_then o f)
unfolding and_then
holds_then (held_ok p) f = f _ p
holds_then held_no f = held_no

holds_pick : {A : Type 0} {P : A → Type 0} {o q : Out A} (b : Bool) → (b ≡ true → Holds P o) → Holds P q → Holds P (pick b o q)
holds_pick true f h = f refl
holds_pick false f h = h

module _ {A : Type 0} (P : A → Type 0) where
  -- one more behind
  pub all_last : (l : List A) {a : A} → All P l → P a → All P (l ++ (a ∷ []))
  all_last l {a} ps p = all_append P l (a ∷ []) ps (p, tt)

  pick_all : (l r : List A) (b : Bool) → All P l → All P r → All P (pick b l r)
  pick_all l r true p q = p
  pick_all l r false p q = q

  -- an element, or what stands for none
  pub all_at : (l : List A) (d : A) → P d → All P l → (i : ℕ) → P (get_or l i d)
  all_at [] d p ps i = p
  all_at (a ∷ l) d p ps zero = ps.0
  all_at (a ∷ l) d p ps (suc i) = all_at l d p ps.1 i

module _ {Q : ℕ → ℕ → Type 0} where
  pub leaf_of : {k a : ℕ} → Leaves Q (leaf k a) → Q k a
  leaf_of (at q) = q

  leaves_first : {x : Tree} → Q 0 0 → Leaves Q x → Leaves Q (first_of x)
  unfolding first_of
  leaves_first z (at q) = at z
  leaves_first z (in_sealed p) = p
  leaves_first z (in_applied p) = at z
  leaves_first z (in_joined p q) = p

  leaves_second : {x : Tree} → Q 0 0 → Leaves Q x → Leaves Q (second_of x)
  unfolding second_of
  leaves_second z (at q) = at z
  leaves_second z (in_sealed p) = at z
  leaves_second z (in_applied p) = p
  leaves_second z (in_joined p q) = q

  pick_leaves : {x y : Tree} (b : Bool) → Leaves Q x → Leaves Q y → Leaves Q (pick b x y)
  pick_leaves true p q = p
  pick_leaves false p q = q

  -- values put for variables
  pub leaves_subst : (ws : List Tree) (o : ℕ) → ((i : ℕ) → Leaves Q (get_or ws i nought)) → {x : Tree} → Leaves Q x → Leaves Q (subst_t ws o x)
  unfolding subst_t
  leaves_subst ws o f (at {k = k} {a = a} q) = pick_leaves (eqb k 6) (f (o + a)) (at q)
  leaves_subst ws o f (in_sealed p) = in_sealed (leaves_subst ws o f p)
  leaves_subst ws o f (in_applied p) = in_applied (leaves_subst ws o f p)
  leaves_subst ws o f (in_joined p q) = in_joined (leaves_subst ws o f p) (leaves_subst ws o f q)

  all_with : (ks : List Tree) {x : Tree} → All (Leaves Q) ks → Leaves Q x → All (Leaves Q) (with ks x)
  unfolding with
  all_with ks {x} p q = pick_all (Leaves Q) ks (ks ++ (x ∷ [])) (member x ks) p (all_last (Leaves Q) ks p q)

  -- entering a term
  pub all_enter : (ks : List Tree) {x : Tree} → All (Leaves Q) ks → Leaves Q x → All (Leaves Q) (enter ks x)
  unfolding enter
  all_enter ks p (at q) = all_with ks p (at q)
  all_enter ks p (in_sealed {x = x} q) = all_with (enter ks x) (all_enter ks p q) (in_sealed q)
  all_enter ks p (in_applied {x = x} q) = all_with (enter ks x) (all_enter ks p q) (in_applied q)
  all_enter ks p (in_joined {x = x} {y = y} q r) = all_with (enter (enter ks x) y) (all_enter (enter ks x) (all_enter ks p q) r) (in_joined q r)

  module _ {v x y : Tree} (z : Q 0 0) (pv : Leaves Q v) (px : Leaves Q x) (py : Leaves Q y) where
    sealing_leaves : (kind key : ℕ) → Holds (Leaves Q) (needs (is_a key y) (ok (sealed kind x (num_of y))))
    sealing_leaves kind key = holds_pick (is_a key y) (λ t. held_ok (in_sealed px)) held_no

    opening_leaves : (kind key : ℕ) → Holds (Leaves Q) (needs (is_a kind x) (needs (is_a key y) (needs (eqb (num_of x) (num_of y)) (ok (first_of x)))))
    opening_leaves kind key =
        holds_pick (is_a kind x)
        (λ t. holds_pick (is_a key y) (λ u. holds_pick (eqb (num_of x) (num_of y)) (λ w. held_ok (leaves_first z px)) held_no) held_no) held_no

    -- what an action yields; a nonce is made by new (18) alone
    pub result_leaves : (n : ℕ) (a : Action) → (a.op ≡ 18 → Q 7 n) → Holds (Leaves Q) (result a v x y n)
    unfolding result
    result_leaves n a nonce =
        holds_pick (eqb a.op 0) (λ t. held_ok pv)
        (holds_pick (eqb a.op 2) (λ t. held_ok (in_joined pv px))
        (holds_pick (eqb a.op 7) (λ t. sealing_leaves 10 5)
        (holds_pick (eqb a.op 8) (λ t. opening_leaves 10 4)
        (holds_pick (eqb a.op 9) (λ t. sealing_leaves 11 4)
        (holds_pick (eqb a.op 10) (λ t. opening_leaves 11 5)
        (holds_pick (eqb a.op 11) (λ t. sealing_leaves 12 4)
        (holds_pick (eqb a.op 12) (λ t. opening_leaves 12 4)
        (holds_pick (eqb a.op 13) (λ t. held_ok (in_sealed px))
        (holds_pick (eqb a.op 14) (λ t. held_ok (in_applied px))
        (holds_pick (eqb a.op 15) (λ t. holds_pick (is_a 9 x) (λ u. held_ok (leaves_first z px)) held_no)
        (holds_pick (eqb a.op 16) (λ t. holds_pick (is_a 9 x) (λ u. held_ok (leaves_second z px)) held_no)
        (holds_pick (eqb a.op 17) (λ t. holds_pick (same x y) (λ u. held_ok (at z)) held_no)
        (holds_pick (eqb a.op 18) (λ t. held_ok (at (nonce (eqb-true a.op 18 t))))
        (holds_pick (eqb a.op 19) (λ t. holds_pick (is_a 8 x) (λ u. held_ok (at z)) held_no)
        (held_ok (at z))))))))))))))))

-- the terms of an action acted out
pub record CleanActed (Q : ℕ → ℕ → Type 0) (t : Acted) : Type 0 where
  pub known : All (Leaves Q) t.known
  pub x : Leaves Q t.x
  pub y : Leaves Q t.y
  pub result : Leaves Q t.result

module _ {Q : ℕ → ℕ → Type 0} where
  fits_holds : (lim : Bool) (n : ℕ) (ks : List Tree) → All (Leaves Q) ks → Holds (All (Leaves Q)) (fits lim n ks)
  unfolding fits
  fits_holds true n ks p = holds_pick (leb n 16) (λ t. holds_pick (leb (length ks) 512) (λ u. held_ok p) held_no) held_no
  fits_holds false n ks p = held_ok p

  pub acting_leaves : (lim : Bool) (ks : List Tree) {v x y : Tree} (n : ℕ) (a : Action) → Q 0 0 → (a.op ≡ 18 → Q 7 n)
      → All (Leaves Q) ks → Leaves Q v → Leaves Q x → Leaves Q y
      → Holds (CleanActed Q) (and_then (fits_both lim ks x y) (λ js. and_then (result a v x y n) (λ r. and_then (fits_one lim js r) (λ ls. ok (acted ls x y r)))))
  acting_leaves lim ks {x = x} {y = y} n a z nonce pk pv px py =
      holds_then (fits_holds lim _ (enter (enter ks x) y) (all_enter (enter ks x) (all_enter ks pk px) py)) (λ js pj.
      holds_then (result_leaves z pv px py n a nonce) (λ r pr.
      holds_then (fits_holds lim _ (enter js r) (all_enter js pj pr)) (λ ls pl.
      held_ok (record { known = pl; x = px; y = py; result = pr }))))
