-- Step codes: "Codes 0 to 11 advance that slot, send and receive apart (5). Code 16 + 12s + r hands the value sent by slot
-- s to slot r, both moving. Code 160 + m resets machine m. 12 to 15 and 164 upwards are none."
use Rattle.std.specs.Prelude.{ℕ, ◌+◌, ◌-◌, ◌/◌, ◌%◌, ◌≤◌, Bool, true, false, ◌≡◌, ltb}
use Rattle.terms.specs.Base.{pick}
use Rattle.state.specs.declared.code.Way.{Way}
use Rattle.state.specs.declared.code.Way.TheVariants.{Nothing, Advance, Hand, Reset}

unfoldable pub way_of : ℕ → Way
way_of c =
    pick (ltb c 12) (Advance c)
    (pick (ltb c 16) Nothing
    (pick (ltb c 160) (Hand ((c - 16) / 12) ((c - 16) % 12))
    (pick (ltb c 164) (Reset (c - 160))
    Nothing)))

unfoldable pub is_code : ℕ → Bool
is_code c = pick (ltb c 12) true (pick (ltb c 16) false (ltb c 164))

-- how many codes stand below a number
unfoldable pub codes_below : ℕ → ℕ
codes_below c = pick (ltb c 12) c (pick (ltb c 16) 12 (pick (ltb c 164) (c - 4) 160))

-- the code with n codes below it, 164 where there is none
unfoldable pub code_from : ℕ → ℕ
code_from n = pick (ltb n 12) n (pick (ltb n 160) (n + 4) 164)

-- the code after a code, 164 after the last one
unfoldable pub code_after : ℕ → ℕ
code_after c = pick (ltb c 11) (c + 1) (pick (ltb c 16) 16 (pick (ltb c 163) (c + 1) 164))

pub record Below (c r : ℕ) : Type 0 where
  pub is : r ≡ codes_below c
  pub small : r ≤ 160

pub record From (n r : ℕ) : Type 0 where
  pub is : r ≡ code_from n
  pub small : r ≤ 164

pub record After (c r : ℕ) : Type 0 where
  pub is : r ≡ code_after c
  pub small : r ≤ 164
