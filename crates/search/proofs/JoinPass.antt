-- A schedule passed whole, from which nothing is entered: what the tests before it say, and where the walk stands behind it.
use Prim.Native.Nat.{ℕ, suc, ◌+◌, ◌<◌, ◌≤◌}
use mathlib.Core.Bool.{Bool, true, false, not}
use mathlib.Core.List.{List, []}
use mathlib.Core.Logic.{◌⊎◌, inl, inr}
use mathlib.Core.Path.{◌≡◌, refl, sym, ap₂, ◌∙◌}
use native.Mathlib.Omega.{arith}
use lib.ListN.{length, get_or, set, length-set}
use lib.Seq.{ext_get_or, get_or-set_same, get_or-set_other}
use lib.Dec.{eqb, ltb, leb}
use borrow.Author.Tests.{ltb-false, leb-true, eqb-true, eqb-false}
use Rattle.terms.specs.Base.{pick}
use Rattle.terms.proofs.Check.{unless_pass}
use Rattle.model.specs.declared.records.Model.{Model}
use Rattle.model.proofs.Tests.{both_pass}
use Rattle.walk.specs.Place.{from}
use Rattle.walk.specs.Array.{settled_in}
use Rattle.walk.proofs.Loop.{ZeroPast}
use Rattle.quiet.specs.Quiet.{all_fit, all_near, calm, shallow}
use Rattle.quiet.specs.declared.quiet.Outline.{Outline}
use Rattle.tries.specs.Labels.{real_codes, labels}
use Rattle.search.specs.Search.{at_last, quiet_at, passes_soon, passes_late}
use Rattle.search.specs.declared.turn.Task.{Task}

-- there is budget for all its codes, and nothing is entered from it
last_parts : (left n bound : ℕ) → at_last left n bound ≡ true → (160 ≤ left) × (bound ≤ n + 2)
unfolding at_last
last_parts left n bound e =
    let h = unless_pass (ltb left 160) (leb bound (n + 2)) e in
    (ltb-false left 160 h.0, leb-true bound (n + 2) h.1)

-- the schedule is one longer than n
pub record Quieted (left n : ℕ) (k : Task) (slots lengths : List ℕ) (count : ℕ) : Type 0 where
  pub budget : 160 ≤ left
  pub last : k.bound ≤ n + 2
  pub calm : calm slots lengths count k.outline ≡ true

pub quiet_parts : (left n : ℕ) (k : Task) (slots lengths : List ℕ) (count : ℕ) → quiet_at left n k slots lengths count ≡ true →
    Quieted left n k slots lengths count
unfolding quiet_at
quiet_parts left n k slots lengths count e =
    let h = both_pass (at_last left n k.bound) (calm slots lengths count k.outline) e in
    let l = last_parts left n k.bound h.0 in
    record { budget = l.0; last = l.1; calm = h.1 }

soon_by : (q a b : Bool) → pick (not q) false (pick a true b) ≡ true → (q ≡ true) × ((a ≡ true) ⊎ (b ≡ true))
soon_by true true b e = (refl, inl refl)
soon_by true false b e = (refl, inr e)
soon_by false a b e = absurd (let z : ◌≡◌ {A = ℕ} 0 1 = cc in omega arith)

pub soon_parts : (q : Bool) (d : ℕ) (g : Outline) (t slots actions : List ℕ) → passes_soon q d g t slots actions ≡ true →
    (q ≡ true) × ((shallow d g ≡ true) ⊎ (all_near t slots actions d ≡ true))
unfolding passes_soon
soon_parts q d g t slots actions e = soon_by q (shallow d g) (all_near t slots actions d) e

pub late_parts : (q : Bool) (t slots values vars actions : List ℕ) → passes_late q t slots values vars actions ≡ true →
    (q ≡ true) × (all_fit t slots values vars actions ≡ true)
unfolding passes_late
late_parts q t slots values vars actions e = both_pass q (all_fit t slots values vars actions) e

-- a code put behind the schedule and taken back
set_back : (cs : List ℕ) (j k : ℕ) → j < length cs → ZeroPast cs j → set (set cs j k) j 0 ≡ cs
set_back cs j k h z =
    ext_get_or 0 (set (set cs j k) j 0) cs (length-set (set cs j k) j 0 ∙ length-set cs j k) (λ i l. go i (eqb i j) refl)
  where
    go : (i : ℕ) (b : Bool) → eqb i j ≡ b → get_or (set (set cs j k) j 0) i 0 ≡ get_or cs i 0
    go i true e =
        let f : i ≡ j = eqb-true i j e in
        rw f (get_or-set_same (set cs j k) j 0 0 (omega (arith, length-set cs j k)) ∙ sym (z j (omega arith)))
    go i false e =
        let d : i ≡ j → ⊥ = eqb-false i j e in
        get_or-set_other (set cs j k) j i 0 0 d ∙ get_or-set_other cs j i k 0 d

module _ (m : Model) (cs : List ℕ) (j k : ℕ) (long : length cs ≡ 24) (small : j < 24) (clean : ZeroPast cs j) where
  -- where no code is left at a schedule with one code more, the walk is behind that code
  pub back_is : settled_in (labels m) (set cs j k) (suc j) [] ≡ settled_in (labels m) cs j (from (suc k) real_codes)
  unfolding settled_in
  back_is =
      ap₂ (λ (r : List ℕ) (i : ℕ). settled_in (labels m) r j (from (suc i) real_codes)) (set_back cs j k (omega arith) clean)
      (get_or-set_same cs j k 0 (omega arith))
