-- How the program stands at a place of the walk: its stack has the configuration of each shorter schedule, with a bound for the
-- depths of its terms, its table is the one there with perhaps some terms more, its records are the events there. Going back keeps
-- all that.
use Prim.Native.Nat.{ℕ, zero, suc, ◌<◌, ◌≤◌}
use mathlib.Core.Bool.{Bool, true}
use mathlib.Core.List.Memᴰ
use mathlib.Core.List.{List, [], ◌∷◌}
use mathlib.Core.Path.{◌≡◌, refl, sym, ap, ◌∙◌, subst}
use native.Mathlib.Omega.{arith}
use lib.ListN.{length, get_or, set, length-set}
use Rattle.terms.proofs.Back.{Grown, grown_then}
use Rattle.model.specs.declared.records.Model.{Model}
use Rattle.state.specs.declared.control.Control.{Control}
use Rattle.quiet.specs.Quiet.{all_fit, all_near, calm, shallow, outline_of}
use Rattle.quiet.proofs.Bounds.{Bounds}
use Rattle.walk.specs.Machine.{Machine}
use Rattle.walk.specs.Trail.{plain, mark_of}
use Rattle.walk.specs.Place.{from, at, unbroken}
use Rattle.walk.specs.Array.{Spot, stack_of, settled_in}
use Rattle.walk.proofs.Codes.{from_mem}
use Rattle.walk.proofs.Fit.{unbroken_below}
use Rattle.walk.proofs.Array.{stack_set}
use Rattle.walk.proofs.Loop.{Clean}
use Rattle.walk.proofs.Loop as L
use Rattle.law.specs.Machines.{LabelsConf}
use Rattle.tries.specs.Labels.{real_codes, try_code, labels}
use Rattle.tries.proofs.Codes.{is_next, mem_code, code_next, none_next}
use Rattle.tries.proofs.Along.{Sane, at_grows, at_events}
use Rattle.tries.proofs.Judging.{Judging}
use Rattle.search.specs.Enter.{no_control}

abbrev pub calm_at : Model → LabelsConf → Bool
calm_at m c = calm c.control.frame.slots m.lengths c.control.count (outline_of m)

abbrev pub fit_at : Model → LabelsConf → Bool
fit_at m c = all_fit c.table c.control.frame.slots c.control.values c.control.vars m.actions

abbrev pub near_at : Model → LabelsConf → ℕ → Bool
near_at m c d = all_near c.table c.control.frame.slots m.actions d

-- what crate `quiet` gives: at a schedule whose configuration is calm all codes are plain, where its terms are shallow, or where the
-- operands of its next actions are, or where those actions fit
pub record Quiet (m : Model) : Type 0 where
  pub soon : (up : List ℕ) (d : ℕ) → calm_at m (at (labels m) up) ≡ true → shallow d (outline_of m) ≡ true →
      Bounds d (at (labels m) up).table (at (labels m) up).control.count → (k : ℕ) → mark_of (try_code m (at (labels m) up) k) ≡ plain
  pub near : (up : List ℕ) (d : ℕ) → calm_at m (at (labels m) up) ≡ true → near_at m (at (labels m) up) d ≡ true →
      Bounds d (at (labels m) up).table (at (labels m) up).control.count → (k : ℕ) → mark_of (try_code m (at (labels m) up) k) ≡ plain
  pub late : (up : List ℕ) → calm_at m (at (labels m) up) ≡ true → fit_at m (at (labels m) up) ≡ true → (k : ℕ) →
      mark_of (try_code m (at (labels m) up) k) ≡ plain

module _ (m : Model) (start : Sane (labels m).fresh) (J : Judging m) where
  abbrev M : Machine
  M = labels m

  -- the configuration at the first j codes
  abbrev pub there : List ℕ → ℕ → LabelsConf
  there cs j = at M (stack_of cs j)

  -- at the schedule of the first j codes; `filled` is how many terms the table may have
  pub record Parts (stack : List Control) (deeps : List ℕ) (t : List ℕ) (filled : ℕ) (l : List ℕ) (cs : List ℕ) (j : ℕ) : Type 0 where
    pub good : unbroken M (stack_of cs j) ≡ true
    pub controls : (i : ℕ) → i ≤ j → get_or stack i no_control ≡ (there cs i).control
    pub depths : (i : ℕ) → i ≤ j → Bounds (get_or deeps i 0) (there cs i).table (there cs i).control.count
    pub grown : Grown (there cs j).table (there cs j).control.count t filled
    pub holds : J.Holds l (there cs j).events

  module _ (stack : List Control) (deeps : List ℕ) (t : List ℕ) (filled : ℕ) (l : List ℕ) where
    -- one step back
    parts_back : (cs : List ℕ) (j : ℕ) → Parts stack deeps t filled l cs (suc j) → Parts stack deeps t filled l (set cs j 0) j
    unfolding stack_of
    parts_back cs j p =
        let e : stack_of (set cs j 0) j ≡ stack_of cs j = stack_set cs j j 0 (omega arith) in
        let c : at M (stack_of (set cs j 0) j) ≡ at M (stack_of cs j) = ap (at M) e in
        record {
          good = rw e (unbroken_below M 0 (get_or cs j 0) (stack_of cs j) p.good);
          controls = λ i h. p.controls i (omega arith) ∙ ap (λ (up : List ℕ). (at M up).control) (sym (stack_set cs i j 0 h));
          depths = λ i h.
              subst (λ (d : LabelsConf). Bounds (get_or deeps i 0) d.table d.control.count) (ap (at M) (sym (stack_set cs i j 0 h)))
              (p.depths i (omega arith));
          grown = rw c (grown_then (at_grows m start (get_or cs j 0) (stack_of cs j)) p.grown);
          holds = rw c (at_events m start (J.Holds l) (J.less l) (get_or cs j 0) (stack_of cs j) p.holds);
        }

    -- at a place that names its next pair
    pub record Stands (n : ℕ) (q : Spot) : Type 0 where
      pub parts : Parts stack deeps t filled l q.codes q.len
      pub long : length q.codes ≡ 24
      pub clean : Clean q
      pub short : q.len < n
      pub next : is_next q.next ≡ true

    settle_stands : (n : ℕ) (cs : List ℕ) (j : ℕ) (ks : List ℕ) (i : ℕ) → from i real_codes ≡ ks → Parts stack deeps t filled l cs j → length cs ≡ 24 →
        L.ZeroPast cs j → j < n →
        Stands n (settled_in M cs j ks)
    unfolding settled_in
    settle_stands n cs zero [] i e p h z s = record { parts = p; long = h; clean = z; short = s; next = none_next }
    settle_stands n cs zero (k ∷ ks) i e p h z s =
        record { parts = p; long = h; clean = z; short = s; next = code_next k (mem_code k (from_mem i real_codes (rw e (Memᴰ.head refl)))) }
    settle_stands n cs (suc j) [] i e p h z s =
        settle_stands n (set cs j 0) j (from (suc (get_or cs j 0)) real_codes) (suc (get_or cs j 0)) refl (parts_back cs j p) (length-set cs j 0 ∙ h)
        (L.pop_zero cs j z) (omega arith)
    settle_stands n cs (suc j) (k ∷ ks) i e p h z s =
        record { parts = p; long = h; clean = z; short = s; next = code_next k (mem_code k (from_mem i real_codes (rw e (Memᴰ.head refl)))) }

    -- settled from any number on
    pub stands_from : (n : ℕ) (cs : List ℕ) (j i : ℕ) → Parts stack deeps t filled l cs j → length cs ≡ 24 → L.ZeroPast cs j → j < n →
        Stands n (settled_in M cs j (from i real_codes))
    stands_from n cs j i p h z s = settle_stands n cs j (from i real_codes) i refl p h z s
