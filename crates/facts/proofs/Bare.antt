-- Bare at bounds 1, 3 and 4: its tries counted by computation through the rules on terms.
use Prim.Native.Nat.{ℕ}
use mathlib.Core.List.{List, [], ◌∷◌}
use mathlib.Core.Path.{◌≡◌, refl}
use lib.ListN.{length}
use Rattle.walk.specs.Trail.{Try, trails, bad_in, sized_in}
use native.Mathlib.Decide.{ℕ_discrete}
use Rattle.terms.specs.Tree.{kind_of, deepness, subst_t, same, member, with, enter}
use Rattle.state.specs.Reset.{is_on, slot_reset, slots_reset, boot_thread, lock_reset, locks_reset, frame_reset}
use Rattle.rules.specs.Restart.{reset_value, value_reset, values_reset, var_reset, each_slot, vars_reset}
use Rattle.rules.specs.Made.{reset_on}
use Rattle.law.specs.Out.{and_then}
use Rattle.law.specs.Size.{fits}
use Rattle.law.specs.Act.{num_of, result, program_of}
use Rattle.law.specs.Rules.{fresh_state, operand, acts, made, step_r}
use Rattle.machine.specs.Claim.{accepts_of, made_in, jumps_of, begins_with, some_of, walked_in, breaks_claim}
use Rattle.tries.specs.Labels.{real_codes, limited}
use Rattle.facts.specs.Models.{bare}
use Rattle.facts.proofs.Opened.{lines_open, trees_open, records_open, fresh_open, frame_open, made_open}

-- what a list of tries comes to: its bad schedules, its number, and how many were refused for size
pub record Tally : Type 0 where
  pub bads : List (List ℕ)
  pub tries : ℕ
  pub sizes : ℕ

abbrev pub tally : List (List ℕ) → ℕ → ℕ → Tally
tally ws t z = record { bads = ws; tries = t; sizes = z }

unfoldable pub tally_of : List Try → Tally
tally_of l = tally (bad_in l) (length l) (sized_in l)

unfoldable pub bare_tries : ℕ → List Try
bare_tries n = trails (limited bare) n (limited bare).fresh

-- what the computations below open, beside what the others do: the claim, the rules on terms, and resets
unfoldable claim_open : Unit {0}
unfolding breaks_claim accepts_of walked_in made_in jumps_of begins_with some_of
claim_open = tt

unfoldable rules_open : Unit {0}
unfolding step_r made acts operand fresh_state program_of result num_of kind_of fits and_then enter with member same subst_t deepness ℕ_discrete
rules_open = tt

unfoldable resets_open : Unit {0}
unfolding reset_on vars_reset each_slot var_reset values_reset value_reset reset_value frame_reset locks_reset lock_reset boot_thread slots_reset slot_reset is_on
resets_open = tt

pub rules_one : tally_of (bare_tries 1) ≡ tally ((0 ∷ []) ∷ []) 160 0
unfolding tally_of bare_tries bare trails real_codes claim_open rules_open resets_open made_open frame_open fresh_open records_open trees_open lines_open
rules_one = refl

pub rules_three : tally_of (bare_tries 3) ≡ tally ((0 ∷ []) ∷ (160 ∷ 0 ∷ 0 ∷ []) ∷ []) 640 0
unfolding tally_of bare_tries bare trails real_codes claim_open rules_open resets_open made_open frame_open fresh_open records_open trees_open lines_open
rules_three = refl

pub rules_four : tally_of (bare_tries 4) ≡ tally ((0 ∷ []) ∷ (160 ∷ 0 ∷ 0 ∷ []) ∷ (160 ∷ 160 ∷ 0 ∷ 0 ∷ []) ∷ []) 1120 0
unfolding tally_of bare_tries bare trails real_codes claim_open rules_open resets_open made_open frame_open fresh_open records_open trees_open lines_open
rules_four = refl
