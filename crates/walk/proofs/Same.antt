-- S5's core: where a machine follows another and no try of the one was refused for size, both have the same tries.
-- By the outcomes of one code, then across the codes, then by depth.
use Prim.Native.Nat.{ℕ, zero, suc, ◌+◌}
use mathlib.Core.Path.{◌≡◌, refl, ap, ◌∙◌}
use mathlib.Core.List.{List, [], ◌∷◌, ◌++◌, map}
use native.Mathlib.Omega.{arith}
use Rattle.walk.specs.Machine.{Machine, Outcome}
use Rattle.walk.specs.Trail.{mark_of, Try, under, entered, across, trails, bad_in, sized_and, sized_in, all_bad}
use Rattle.walk.specs.Follows.{Agrees, both_refused, both_go, both_break, one_too_big, Follows}
use Rattle.walk.proofs.Lists.{sized_append, sized_under}

module _ (M N : Machine) (R : M.Conf → N.Conf → Type 0) where
  -- one code: s is the number of sized marks of the codes after it
  same_block : (f : M.Conf → List Try) (g : N.Conf → List Try) → ((c : M.Conf) (d : N.Conf) → R c d → sized_in (f c) ≡ 0 → f c ≡ g d) → (s : ℕ)
      {o : Outcome M.Conf} {p : Outcome N.Conf} → Agrees R o p → sized_and (mark_of o) (sized_in (entered f o) + s) ≡ 0 →
      (mark_of o ≡ mark_of p) × (entered f o ≡ entered g p) × (s ≡ 0)
  same_block f g h s both_refused e = (refl, refl, omega arith)
  same_block f g h s (both_go {c = c} {d = d} r) e = (refl, h c d r (omega arith), omega arith)
  same_block f g h s both_break e = (refl, refl, omega arith)
  same_block f g h s one_too_big e = absurd (omega arith)

  same_across : (f : M.Conf → List Try) (g : N.Conf → List Try) → ((c : M.Conf) (d : N.Conf) → R c d → sized_in (f c) ≡ 0 → f c ≡ g d) →
      ((c : M.Conf) (d : N.Conf) (k : ℕ) → R c d → Agrees R (M.try c k) (N.try d k)) → (c : M.Conf) (d : N.Conf) → R c d → (ks : List ℕ) →
      sized_in (across M f c ks) ≡ 0 → across M f c ks ≡ across N g d ks
  same_across f g h a c d r [] e = refl
  same_across f g h a c d r (k ∷ ks) e =
      let u : sized_in (map (under k) (entered f (M.try c k)) ++ across M f c ks) ≡ sized_in (entered f (M.try c k)) + sized_in (across M f c ks) =
      sized_append (map (under k) (entered f (M.try c k))) (across M f c ks) ∙ ap (λ (y : ℕ). y + sized_in (across M f c ks)) (sized_under k (entered f (M.try c k))) in
      let b : (mark_of (M.try c k) ≡ mark_of (N.try d k)) × (entered f (M.try c k) ≡ entered g (N.try d k)) × (sized_in (across M f c ks) ≡ 0) =
      same_block f g h (sized_in (across M f c ks)) (a c d k r) (rw u at e) in
      rw (b.0, b.1, same_across f g h a c d r ks b.2)

module _ (M N : Machine) (R : M.Conf → N.Conf → Type 0) (F : Follows M N R) where
  same_trails : (n : ℕ) (c : M.Conf) (d : N.Conf) → R c d → sized_in (trails M n c) ≡ 0 → trails M n c ≡ trails N n d
  unfolding trails
  same_trails zero c d r e = refl
  same_trails (suc n) c d r e =
      same_across M N R (trails M n) (trails N n) (same_trails n) F.steps c d r M.codes e ∙ ap (across N (trails N n) d) F.codes

  -- no try refused for size: the same bad schedules
  pub same_bad : (n : ℕ) → sized_in (trails M n M.fresh) ≡ 0 → all_bad M n ≡ all_bad N n
  unfolding all_bad
  same_bad n e = ap bad_in (same_trails n M.fresh N.fresh F.starts e)
