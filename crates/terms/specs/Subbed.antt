-- A substitution's answer, and the one number that the code holds it in: label + count * 2^16 + mark * 2^32.
use Rattle.std.specs.Prelude.{ℕ, ◌/◌, ◌%◌, Bool, ltb, Result, Ok, Err}
use Rattle.terms.specs.Base.{pick}
use Rattle.terms.specs.declared.table.Size.{Size}
use Rattle.terms.specs.declared.table.Size.TheVariants as Z

-- a label, or why there is none
pub data Got : Type 0 where
  Label : ℕ → Got
  Deep : Got
  Full : Got

-- and the count of terms then
pub record Subbed : Type 0 where
  pub got : Got
  pub count : ℕ

-- the same as the code names them
abbrev pub got_of : Size → Got
got_of Z.Deep = Deep
got_of Z.Full = Full

abbrev pub got_in : Result ℕ Size → Got
got_in (Ok i) = Label i
got_in (Err z) = got_of z

abbrev pub subbed : Got → ℕ → Subbed
subbed g c = record { got = g; count = c }

unfoldable pub label_in : ℕ → ℕ
label_in n = n % 65536

unfoldable pub count_in : ℕ → ℕ
count_in n = n / 65536 % 65536

-- mark 0 is a label, 1 too deep, 2 no room
unfoldable pub has_label : ℕ → Bool
has_label n = ltb n 4294967296

unfoldable pub is_deep : ℕ → Bool
is_deep n = ltb n 8589934592

unfoldable pub subbed_in : ℕ → Subbed
subbed_in n = subbed (pick (has_label n) (Label (label_in n)) (pick (is_deep n) Deep Full)) (count_in n)
