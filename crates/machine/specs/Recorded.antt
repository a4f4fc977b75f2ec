-- "The events of a run stand as records in a lent table": what it is for a table to hold the records of some events.
use Rattle.std.specs.Prelude.{ℕ, ◌+◌, ◌<◌, ◌≤◌, ◌≡◌, Bool, true, List, [], ◌∷◌, length, get_or, ltb}
use Rattle.model.specs.declared.records.Claim.{Claim}
use Rattle.rules.specs.Event.{record_of, number_at}
use Rattle.rules.specs.declared.event.Event.{Event}
use Rattle.rules.specs.declared.event.Event.TheVariants.{Jump, Launch, Reset, HandOver, Action}
use Rattle.rules.specs.declared.event.Happening.{Happening}

-- an event of a step: jumps, launches and resets are never shown as plain actions
abbrev pub is_real : Event → Bool
is_real (Jump d p) = true
is_real (Launch d m j) = true
is_real (Reset m j) = true
is_real (HandOver d j) = true
is_real (Action d op) = ltb op 19

-- record i of the table is the record of h
pub record Written (l : List ℕ) (i : ℕ) (h : Happening) : Type 0 where
  pub is : (k : ℕ) → k < 12 → number_at l i k ≡ get_or (record_of h).numbers k 0
  pub real : is_real h.event ≡ true

-- the records from i on are those of the events
pub data HoldsFrom (l : List ℕ) : ℕ → List Happening → Type 0 where
  none : {i : ℕ} → HoldsFrom l i []
  more : {i : ℕ} {h : Happening} {hs : List Happening} → Written l i h → HoldsFrom l (i + 1) hs → HoldsFrom l i (h ∷ hs)

abbrev pub Holds : List ℕ → List Happening → Type 0
Holds l hs = HoldsFrom l 0 hs

-- an answer, and both lent tables as they are left
pub record Left (A : Type 0) : Type 0 where
  pub out : A
  pub table : List ℕ
  pub records : List ℕ

abbrev pub left : {A : Type 0} → A → List ℕ → List ℕ → Left A
left r l rs = record { out = r; table = l; records = rs }

-- a path of at most four programs, in an array of four
pub record ShortPath (c : Claim) : Type 0 where
  pub short : c.length ≤ 4
  pub long : length c.path ≡ 4
