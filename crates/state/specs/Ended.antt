-- "the program of any thread that ended by an ordinary action (late_launch is none) or hand-over. That ending is an
-- accept of that program."
use Rattle.std.specs.Prelude.{ℕ, List}
use Rattle.terms.specs.Base.{pick}
use Rattle.state.specs.Moves.{is_last}
use Rattle.state.specs.declared.slot.Slot.{Slot}
use Rattle.state.specs.declared.ended.Ended.{Ended}
use Rattle.state.specs.declared.ended.Ended.TheVariants.{Nobody, One, Two}

-- how many ended
abbrev pub endings_of : Ended → ℕ
endings_of Nobody = 0
endings_of (One p) = 1
endings_of (Two p q) = 2

-- the program of the first, the sender's; 0 where none ended
abbrev pub first_ended : Ended → ℕ
first_ended Nobody = 0
first_ended (One p) = p
first_ended (Two p q) = p

abbrev pub second_ended : Ended → ℕ
second_ended Nobody = 0
second_ended (One p) = 0
second_ended (Two p q) = q

-- the ending of a thread that makes its action: of the program it is in then
unfoldable pub ended_one : List ℕ → Slot → Ended
ended_one lengths q = pick (is_last lengths q) (One q.program) Nobody

-- the endings of sender and receiver
unfoldable pub ended_both : List ℕ → Slot → Slot → Ended
ended_both lengths q r =
    pick (is_last lengths q)
    (pick (is_last lengths r) (Two q.program r.program) (One q.program))
    (ended_one lengths r)
