-- What the worked facts are said with, each through the definition that a public contract cites: `step` answers `step_checked`, `add` answers
-- `add_to`, `search` answers `search_on` and `listing` answers `listing_on`.
use Rattle.std.specs.Prelude.{ℕ, ◌<◌, ◌≤◌, ◌≡◌, List, [], ◌∷◌, length, replicate}
use Rattle.terms.specs.Base.{Held, held}
use Rattle.terms.specs.Table.{added, fresh_table, add_to}
use Rattle.terms.specs.Tree.{Tree}
use Rattle.terms.specs.Meaning.{tree_of}
use Rattle.terms.specs.declared.term.Term.{Term}
use Rattle.terms.specs.Outcome.{Added, Outcome, New}
use Rattle.model.specs.declared.records.Model.{Model}
use Rattle.state.specs.Control.{fresh_control}
use Rattle.state.specs.declared.control.Control.{Control}
use Rattle.rules.specs.Reply.{Stepped}
use Rattle.law.specs.Turned.{turned_by}
use Rattle.machine.specs.Step.{step_checked}
use Rattle.walk.specs.Gathers.{Gathers}
use Rattle.search.specs.Place.{place, start_place}
use Rattle.search.specs.Answer.{listed, room_for}
use Rattle.search.specs.Search.{listing_on}
use Rattle.search.specs.Shown.{words_put, call_on, GoodBudget}
use Rattle.search.specs.declared.place.Place.{Place}
use Rattle.search.specs.declared.answer.Kind.TheVariants.{End}

-- Steps: code after code from the model's fresh configuration, each where the one before it left table and configuration

-- 0 where the step is done, else its refusal; then the codes behind it
abbrev pub answers_after : Held Stepped → (List ℕ → Control → List ℕ) → List ℕ
answers_after r rest = turned_by r ∷ rest r.table r.out.control

unfoldable pub answers_from : Model → List ℕ → List ℕ → Control → List ℕ
answers_from m [] l s = []
answers_from m (k ∷ ks) l s = answers_after (step_checked l m s k) (answers_from m ks)

-- the answer to each code
unfoldable pub answers_to : Model → List ℕ → List ℕ
answers_to m ks = answers_from m ks m.lines (fresh_control m)

-- Terms: one after the other added to the fresh table

abbrev pub outcomes_after : Held Added → (List ℕ → ℕ → List Outcome) → List Outcome
outcomes_after r rest = r.out.outcome ∷ rest r.table r.out.count

unfoldable pub outcomes_from : List Term → List ℕ → ℕ → List Outcome
outcomes_from [] l c = []
outcomes_from (x ∷ xs) l c = outcomes_after (add_to l c x) (outcomes_from xs)

-- what came of each
unfoldable pub outcomes : List Term → List Outcome
outcomes xs = outcomes_from xs fresh_table.lines fresh_table.count

abbrev pub tree_in : Held Added → ℕ → Tree
tree_in r i = tree_of r.table r.out.count i

unfoldable pub added_all : List Term → Held Added → Held Added
added_all [] r = r
added_all (x ∷ xs) r = added_all xs (add_to r.table r.out.count x)

-- what label i denotes after all of them
unfoldable pub meaning : List Term → ℕ → Tree
meaning xs i = tree_in (added_all xs (held (added (New 2) fresh_table.count) fresh_table.lines)) i

-- Searches

-- "the place after the last pair is the empty schedule with 164"
abbrev pub last_place : Place
last_place = place (replicate 24 0) 0 164

-- the bad schedules of a model up to a bound are ws, in that order, and it takes t tries, none of them refused for size
pub record Lists (m : Model) (bound : ℕ) (ws : List (List ℕ)) (t : ℕ) : Type 0 where
  -- calls of the search from the start until "end", with any budgets above 0, gather that
  pub calls : (bs : ℕ → ℕ) → ((i : ℕ) → GoodBudget (bs i)) → ((i : ℕ) → 0 < bs i) → Gathers (call_on m bound) bs 0 start_place ws t 0
  -- and with any budgets nothing else
  pub only : (bs : ℕ → ℕ) → ((i : ℕ) → GoodBudget (bs i)) → {vs : List (List ℕ)} {s z : ℕ} → Gathers (call_on m bound) bs 0 start_place vs s z →
      (vs ≡ ws) × (s ≡ t) × (z ≡ 0)
  -- one listing with budget for as many tries, and room for a schedule more, ends with them in its room
  pub listing : (b : ℕ) (room : List ℕ) → GoodBudget b → t ≤ b → length ws < room_for room →
      listing_on m bound start_place b room ≡ held (listed End (length ws) t 0 last_place) (words_put room 0 ws)
