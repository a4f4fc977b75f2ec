-- A field: "fields parted by one tab, decimals .. with no needless zero". A tab is byte 9, the digits are bytes 48 to 57.
use Rattle.std.specs.Prelude.{ℕ, ◌+◌, ◌*◌, ◌-◌, Bool, true, false, not, List, [], ◌∷◌, take, drop, ltb, leb, eqb, Option, Some, None}
use Rattle.lines.specs.Base.{pick, also}
use Rattle.lines.specs.Line.{span}
use Rattle.lines.specs.declared.field.Field as code

-- what a rest of a line opens with: a decimal and a tab, behind which the rest starts at a place; a decimal that ends the
-- line; anything else
pub data Field : Type 0 where
  More : ℕ → ℕ → Field
  Last : ℕ → Field
  Bad : Field

abbrev pub field_by_next : Option ℕ → ℕ → Field
field_by_next (Some next) v = More v next
field_by_next None v = Last v

-- a reader's answer
abbrev pub field_read : Option code.Field → Field
field_read (Some f) = field_by_next f.next f.number
field_read None = Bad

unfoldable pub is_digit : ℕ → Bool
is_digit b = pick (ltb b 48) false (leb b 57)

-- one digit at least, and no zero before another digit
unfoldable pub well_spelt : List ℕ → Bool
well_spelt [] = false
well_spelt (d ∷ []) = true
well_spelt (d ∷ e ∷ ds) = not (eqb d 48)

-- the number that digits spell, v standing before them
unfoldable pub number_from : ℕ → List ℕ → ℕ
number_from v [] = v
number_from v (d ∷ ds) = number_from (v * 10 + (d - 48)) ds

unfoldable pub number_of : List ℕ → ℕ
number_of ds = number_from 0 ds

-- no limit passes 4,294,967,295: what is over it is counted as one over
unfoldable pub capped : ℕ → ℕ
capped n = pick (ltb 4294967295 n) 4294967296 n

-- behind the n bytes of a decimal v: the line's end, or a tab with the rest of the line after it
abbrev pub end_by : ℕ → ℕ → List ℕ → Field
end_by v n [] = Last v
end_by v n (b ∷ s) = pick (eqb b 9) (More v (n + 1)) Bad

abbrev pub field_by : ℕ → List ℕ → ℕ → Field
field_by n s most =
    pick (well_spelt (take n s))
    (pick (ltb most (number_of (take n s))) Bad (end_by (number_of (take n s)) n (drop n s)))
    Bad

-- the first field of the rest of a line, a decimal up to most: n digits, and what stands behind them
unfoldable pub field_of : List ℕ → ℕ → Field
field_of s most = field_by (span is_digit s) s most

-- the line opens with a letter and a tab
unfoldable pub opens_with : List ℕ → ℕ → Bool
opens_with [] letter = false
opens_with (b ∷ []) letter = false
opens_with (b ∷ t ∷ s) letter = also (eqb b letter) (eqb t 9)
