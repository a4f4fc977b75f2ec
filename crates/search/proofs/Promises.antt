-- The promises of the search, for a model whose arrays have the lengths of their types. S1 is `search_is` and the refusals of
-- Searched. S2: what one call passes. S3: what calls from the start until end find is exactly the bad schedules up to the bound, in
-- order. S4: such calls come to end. S5: where no try was refused for size, the list is that of the rules without limits.
use Prim.Native.Nat.{ℕ, ◌<◌, ◌≤◌}
use mathlib.Core.Bool.{Bool, true, false}
use mathlib.Core.List.{List, ◌++◌, Memᴰ}
use mathlib.Core.Logic.{◌↔◌}
use mathlib.Core.Path.{◌≡◌, refl, sym, ap, ◌∙◌, subst}
use native.Mathlib.Omega.{arith}
use lib.ListN.{length, length-replicate}
use borrow.Author.Tests.{lt-ltb}
use Rattle.model.specs.declared.records.Model.{Model}
use Rattle.state.specs.Control.{up_from}
use Rattle.state.specs.Early.{sight_of}
use Rattle.state.proofs.Codes.{one_iff}
use Rattle.audit.specs.Models.{sound_model}
use Rattle.audit.proofs.Check.{test_model}
use Rattle.walk.specs.Order.{Before, Sorted}
use Rattle.walk.specs.Machine.{Coded}
use Rattle.walk.specs.Bad.{Bad}
use Rattle.walk.specs.Reply.{Reply}
use Rattle.walk.specs.Gathers.{Gathers}
use Rattle.walk.specs.Trail.{Try, trails, sized_in, all_bad}
use Rattle.walk.specs.Place as P
use Rattle.walk.specs.Passed.{passing, Passed, Names}
use Rattle.walk.specs.Answers.{seen}
use Rattle.walk.specs.Array.{stack_of}
use Rattle.walk.specs.Follows.{Follows}
use Rattle.walk.proofs.Pass.{search_names}
use Rattle.walk.proofs.Unique.{only_search}
use Rattle.walk.proofs.Gather.{one_call}
use Rattle.walk.proofs.Placed.{placed}
use Rattle.walk.proofs.Claims as W
use Rattle.walk.proofs.Member.{mem_all_bad}
use Rattle.law.specs.Rules.{step_r}
use Rattle.law.specs.Machines.{rules, Stand}
use Rattle.law.proofs.Search.{labels_follow_rules, tries_are_rules, bad_are_rules}
use Rattle.tries.specs.Labels.{real_codes, judge_of, try_code, labels, limited, unlimited}
use Rattle.tries.proofs.Codes.{not_code_lem, labels_coded}
use Rattle.tries.proofs.Blind.{claim_blind}
use Rattle.search.specs.Place.{start_place}
use Rattle.search.specs.Search.{bound_fits}
use Rattle.search.specs.Shown.{call_on, place_seen, GoodPlace, GoodBudget, Arrays}
use Rattle.search.specs.declared.place.Place.{Place}
use Rattle.search.proofs.Joined.{bound_parts}
use Rattle.search.proofs.Searched.{answers}

-- the machine on labels does what the rules without limits do, except where it says that something is too big
pub follows_rules : (m : Model) → Arrays m → sound_model m ≡ true → Follows (labels m) (unlimited m) (Stand m)
unfolding try_code
follows_rules m arrays sound =
    let F = labels_follow_rules {m = m} (judge_of m) (claim_blind m.claim) (test_model {m = m} arrays.tables.lines sound) arrays.tables.lines real_codes in
    record { codes = refl; starts = F.starts; steps = λ c d k h. F.steps c d k h }

-- the rules' machine has the same codes, and refuses what is none
pub rules_coded : (lim : Bool) (m : Model) → Coded (rules lim (judge_of m) real_codes m)
unfolding step_r
rules_coded lim m = record {
  rise = (labels_coded m).rise;
  below = (labels_coded m).below;
  only = λ c k f.
      rw ((one_iff (sight_of c.state.config.frame m.actions m.locations m.machine_count) k).1 (not_code_lem k f));
}

module _ (m : Model) (arrays : Arrays m) (sound : sound_model m ≡ true) (n : ℕ) (bound : bound_fits n ≡ true) where
  some : 0 < n
  some = omega (arith, (bound_parts n bound).0)

  -- the start is a good place, and the first of the walk
  pub start_first : place_seen start_place ≡ P.first (labels m)
  unfolding start_place stack_of real_codes up_from
  start_first = refl

  pub start_good : GoodPlace m n start_place
  unfolding start_place stack_of real_codes up_from P.fits P.unbroken
  start_good = (rw (lt-ltb 0 n some), length-replicate {A = ℕ} 24 0)

  -- S2: one call from a good place passes a first part of the tries ahead of it, and these stand in the list of all tries
  pub call_passes : (b : ℕ) (p : Place) → GoodBudget b → GoodPlace m n p →
      Passed (labels m) n b (passing (labels m) n (place_seen p)) 0 0 (seen place_seen (call_on m n b p))
  call_passes b p can g = one_call (labels m) (labels_coded m) n (call_on m n) place_seen GoodBudget (GoodPlace m n) (answers m arrays sound n bound) b p can g

  -- the place given back names the next pair, or is the place after the last
  pub call_names : (b : ℕ) (p : Place) → GoodBudget b → GoodPlace m n p → Names (labels m) n (place_seen (call_on m n b p).place)
  call_names b p can g =
      subst (λ (r : Reply P.Place). Names (labels m) n r.place) (sym ((answers m arrays sound n bound).is b p can g))
      (search_names (labels m) (labels_coded m) n b (place_seen p))

  -- no second answer does so
  pub call_only : (b : ℕ) (p : Place) → GoodBudget b → GoodPlace m n p → (r : Reply P.Place) →
      Passed (labels m) n b (passing (labels m) n (place_seen p)) 0 0 r → Names (labels m) n r.place → r ≡ seen place_seen (call_on m n b p)
  call_only b p can g r R x = only_search (labels m) (labels_coded m) n b (place_seen p) r R x ∙ sym ((answers m arrays sound n bound).is b p can g)

  pub call_placed : (p : Place) → GoodPlace m n p → (e : List Try) × (trails (labels m) n (labels m).fresh ≡ e ++ passing (labels m) n (place_seen p))
  call_placed p g = placed (labels m) (labels_coded m) n (place_seen p) g.0

  -- the tries are those of the rules with limits
  pub same_tries : trails (labels m) n (labels m).fresh ≡ trails (limited m) n (limited m).fresh
  unfolding try_code
  same_tries = tries_are_rules {m = m} (judge_of m) (claim_blind m.claim) (test_model {m = m} arrays.tables.lines sound) arrays.tables.lines real_codes n

  with_limits : all_bad (labels m) n ≡ all_bad (limited m) n
  unfolding try_code
  with_limits = bad_are_rules {m = m} (judge_of m) (claim_blind m.claim) (test_model {m = m} arrays.tables.lines sound) arrays.tables.lines real_codes n

  module _ (bs : ℕ → ℕ) (can : (i : ℕ) → GoodBudget (bs i)) where
    -- S3
    pub finds_all : {ws : List (List ℕ)} {t z : ℕ} → Gathers (call_on m n) bs 0 start_place ws t z → ws ≡ all_bad (labels m) n
    finds_all g =
        W.finds_all (labels m) (labels_coded m) n some (call_on m n) place_seen GoodBudget (GoodPlace m n)
        (answers m arrays sound n bound) start_place start_good start_first bs can g

    pub finds_exactly : {ws : List (List ℕ)} {t z : ℕ} → Gathers (call_on m n) bs 0 start_place ws t z →
        Sorted Before ws × ((w : List ℕ) → Memᴰ w ws ↔ (Bad (labels m) (labels m).fresh w × (length w ≤ n)))
    finds_exactly g =
        W.finds_exactly (labels m) (labels_coded m) n some (call_on m n) place_seen GoodBudget (GoodPlace m n)
        (answers m arrays sound n bound) start_place start_good start_first bs can g

    pub tries_all : {ws : List (List ℕ)} {t z : ℕ} → Gathers (call_on m n) bs 0 start_place ws t z → t ≡ length (trails (labels m) n (labels m).fresh)
    tries_all g =
        W.tries_all (labels m) (labels_coded m) n some (call_on m n) place_seen GoodBudget (GoodPlace m n)
        (answers m arrays sound n bound) start_place start_good start_first bs can g

    pub sizes_all : {ws : List (List ℕ)} {t z : ℕ} → Gathers (call_on m n) bs 0 start_place ws t z → z ≡ sized_in (trails (labels m) n (labels m).fresh)
    sizes_all g =
        W.sizes_all (labels m) (labels_coded m) n some (call_on m n) place_seen GoodBudget (GoodPlace m n)
        (answers m arrays sound n bound) start_place start_good start_first bs can g

    -- the same by the rules with their limits: what is found is what is bad there, and as much is tried and refused for size
    pub finds_by_rules : {ws : List (List ℕ)} {t z : ℕ} → Gathers (call_on m n) bs 0 start_place ws t z →
        (w : List ℕ) → Memᴰ w ws ↔ (Bad (limited m) (limited m).fresh w × (length w ≤ n))
    finds_by_rules g w = rw (finds_all g ∙ with_limits) (mem_all_bad (limited m) (rules_coded true m) n w)

    pub tries_by_rules : {ws : List (List ℕ)} {t z : ℕ} → Gathers (call_on m n) bs 0 start_place ws t z → t ≡ length (trails (limited m) n (limited m).fresh)
    tries_by_rules g = tries_all g ∙ ap length same_tries

    pub sizes_by_rules : {ws : List (List ℕ)} {t z : ℕ} → Gathers (call_on m n) bs 0 start_place ws t z → z ≡ sized_in (trails (limited m) n (limited m).fresh)
    sizes_by_rules g = sizes_all g ∙ ap sized_in same_tries

    -- S4
    pub ends_some_time : ((i : ℕ) → 0 < bs i) → (ws : List (List ℕ)) × (t : ℕ) × (z : ℕ) × Gathers (call_on m n) bs 0 start_place ws t z
    ends_some_time b =
        W.ends_some_time (labels m) (labels_coded m) n some (call_on m n) place_seen GoodBudget (GoodPlace m n)
        (answers m arrays sound n bound) start_place start_good start_first bs can b

    -- S5
    pub without_limits : {ws : List (List ℕ)} {t : ℕ} → Gathers (call_on m n) bs 0 start_place ws t 0 → ws ≡ all_bad (unlimited m) n
    without_limits g =
        W.without_limits (labels m) (labels_coded m) n some (call_on m n) place_seen GoodBudget (GoodPlace m n)
        (answers m arrays sound n bound) start_place start_good start_first bs can
        (unlimited m) (Stand m) (follows_rules m arrays sound) g

    pub finds_without_limits : {ws : List (List ℕ)} {t : ℕ} → Gathers (call_on m n) bs 0 start_place ws t 0 →
        (w : List ℕ) → Memᴰ w ws ↔ (Bad (unlimited m) (unlimited m).fresh w × (length w ≤ n))
    finds_without_limits g w = rw (without_limits g) (mem_all_bad (unlimited m) (rules_coded false m) n w)
