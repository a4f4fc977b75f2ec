-- "A place is a schedule and the next code to try (164: none left)." The first `length` codes are the schedule; to go back
-- a step makes its code 0 again.
use Rattle.std.specs.Prelude.{ℕ, zero, suc, ◌+◌, ◌-◌, ◌%◌, ◌<◌, Bool, true, false, ◌≡◌, List, get_or, set, replicate, ltb}
use Rattle.terms.specs.Base.{pick}
use Rattle.state.specs.Code.{code_after}
use Rattle.search.specs.declared.place.Place.{Place}

abbrev pub place : List ℕ → ℕ → ℕ → Place
place cs n next = record { codes = cs; length = n; next = next }

-- the empty schedule and the first code
unfoldable pub start_place : Place
start_place = place (replicate 24 0) 0 0

unfoldable pub at_code : Place → ℕ → Place
at_code p next = place p.codes p.length next

-- the level of a schedule's length, in its codes and in the stack of configurations; schedules are shorter than 24
abbrev pub level_of : ℕ → ℕ
level_of n = n % 24

pub record Level (n r : ℕ) : Type 0 where
  pub is : r ≡ level_of n
  pub small : r < 24

-- a code put at a level of the schedule, and the code there
unfoldable pub code_put : List ℕ → ℕ → ℕ → List ℕ
code_put cs i c = set cs (level_of i) (c % 256)

unfoldable pub code_in : List ℕ → ℕ → ℕ
code_in cs i = get_or cs (level_of i) 0

-- one code longer, to be tried from its first code on
unfoldable pub pushed : Place → ℕ → Place
pushed p c = place (code_put p.codes p.length c) (p.length % 255 + 1) 0

-- one code shorter, to be tried from the code after that one on
unfoldable pub popped : Place → Place
popped p = place (code_put p.codes (p.length - 1) 0) (p.length - 1) (code_after (code_in p.codes (p.length - 1)))

pub record Shorter (p r : Place) : Type 0 where
  pub is : r ≡ popped p
  pub less : r.length ≡ p.length - 1

-- none left, and a schedule to go back from
unfoldable pub is_done : Place → Bool
is_done p = pick (ltb p.next 164) false (ltb 0 p.length)

abbrev pub settle_by : Bool → Place → (Place → Place) → Place
settle_by true p rest = rest (popped p)
settle_by false p rest = p

-- back at most n steps, to where a code is left
unfoldable pub settle_in : ℕ → Place → Place
settle_in zero p = p
settle_in (suc n) p = settle_by (is_done p) p (λ q. settle_in n q)

-- back to where a code is left, or to the end: the empty schedule with none left
unfoldable pub settled : Place → Place
settled p = settle_in p.length p
