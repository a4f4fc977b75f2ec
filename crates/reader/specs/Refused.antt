-- The refusals as the numbers of document 01, and what an answer of the code says: 0, or the number of its refusal.
use Rattle.std.specs.Prelude.{ℕ, Result, Ok, Err}
use Rattle.reader.specs.declared.refusal.Refusal.{Refusal}
use Rattle.reader.specs.declared.refusal.Refusal.TheVariants.{Form, Order, Limit, Name, Twice, Kind, Length}

abbrev pub number_of : Refusal → ℕ
number_of Form = 20
number_of Order = 21
number_of Limit = 22
number_of Name = 23
number_of Twice = 24
number_of Kind = 25
number_of Length = 26

abbrev pub number_in : {A : Type 0} → Result A Refusal → ℕ
number_in (Ok a) = 0
number_in (Err r) = number_of r
