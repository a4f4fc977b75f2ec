-- The next code that refusals 1 to 7 let through, and how many numbers may be passed at sight.
use Rattle.std.specs.Prelude.{ℕ, zero, suc, ◌+◌, ◌-◌, ◌*◌, ◌/◌, ◌<◌, ◌≤◌, Bool, true, false, ◌≡◌, List, eqb, ltb, leb}
use Rattle.terms.specs.Base.{pick, also}
use Rattle.state.specs.Slot.{slot_at}
use Rattle.state.specs.Early.{Sight, next_action, early_of}
use Rattle.state.specs.declared.slot.Slot.{Slot}

abbrev pub seek_by : Bool → ℕ → (ℕ → ℕ) → ℕ
seek_by true c rest = c
seek_by false c rest = rest (c + 1)

-- n numbers from c on are asked
unfoldable pub seek_in : Sight → ℕ → ℕ → ℕ
seek_in g zero c = 164
seek_in g (suc n) c = seek_by (eqb (early_of g c) 0) c (λ k. seek_in g n k)

-- the first number from c on, below 164, that is let through; 164 where there is none
unfoldable pub seek_from : Sight → ℕ → ℕ
seek_from g c = seek_in g (164 - c) c

-- r is the first from c on: every number passed is refused by 1 to 7, and the one given, below 164, is not
pub record First (g : Sight) (c r : ℕ) : Type 0 where
  pub refused : (k : ℕ) → c ≤ k → k < r → early_of g k ≡ 0 → ⊥
  pub given : r < 164 → early_of g r ≡ 0
  pub on : c ≤ 164 → c ≤ r
  pub small : r ≤ 164

-- the slot's thread stands before a send
abbrev pub sends_by : Slot → List ℕ → Bool
sends_by s actions = also s.live (eqb (next_action actions s).op 5)

unfoldable pub sends : List ℕ → List ℕ → ℕ → Bool
sends slots actions i = sends_by (slot_at slots i) actions

-- n slots from i on are asked
unfoldable pub sender_in : ℕ → List ℕ → List ℕ → ℕ → ℕ
sender_in zero slots actions i = 12
sender_in (suc n) slots actions i = pick (sends slots actions i) i (sender_in n slots actions (i + 1))

-- the first slot from i on that sends, 12 where none does
unfoldable pub next_sender : List ℕ → List ℕ → ℕ → ℕ
next_sender slots actions i = sender_in (12 - i) slots actions i

pub record NextSender (slots actions : List ℕ) (i r : ℕ) : Type 0 where
  pub is : r ≡ next_sender slots actions i
  pub small : r ≤ 12

-- up to the hand-overs from slot i, 0 where that is the row's own sender
abbrev pub silent_by : ℕ → ℕ → ℕ → ℕ
silent_by i sender c = pick (leb i sender) 0 (16 + 12 * i - c)

-- the rest of a row of hand-overs, and the rows after it, whose senders are empty or do not send; 0 where there is no such row
unfoldable pub silent_from : List ℕ → List ℕ → ℕ → ℕ
silent_from slots actions c =
    pick (ltb c 16) 0
    (pick (ltb 159 c) 0
    (silent_by (next_sender slots actions ((c - 16) / 12)) ((c - 16) / 12) c))

pub record Silent (slots actions : List ℕ) (c r : ℕ) : Type 0 where
  pub is : r ≡ silent_from slots actions c
  pub small : r ≤ 144

-- how many numbers from c on are refused at sight, 0 where c is let through
abbrev pub refused_by : ℕ → ℕ → ℕ
refused_by row n = pick (ltb 0 row) row (pick (eqb n 0) 0 1)

unfoldable pub refused_from : Sight → ℕ → ℕ
refused_from g c = refused_by (silent_from g.slots g.actions c) (early_of g c)

pub record Refused (g : Sight) (c r : ℕ) : Type 0 where
  pub is : r ≡ refused_from g c
  pub small : r ≤ 144
