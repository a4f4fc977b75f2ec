-- Small things that every definition uses.
use Rattle.std.specs.Prelude.{ℕ, Bool, true, false, List, get_or}

-- the first where the test holds, else the second
abbrev pub pick : {A : Type 0} → Bool → A → A → A
pick true a b = a
pick false a b = b

-- both tests hold
abbrev pub also : Bool → Bool → Bool
also p q = pick p q false

-- a refusal: its number, and the line that it names; 0 and 0 for none
pub record Refusal : Type 0 where
  pub number : ℕ
  pub line : ℕ

abbrev pub refusal : ℕ → ℕ → Refusal
refusal n l = record { number = n; line = l }

-- the byte at a place, 0 where there is none
abbrev pub byte_at : List ℕ → ℕ → ℕ
byte_at s i = get_or s i 0
