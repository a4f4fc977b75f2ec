-- The numbers of one line: "fields parted by one tab, decimals up to 65,535 with no needless zero (else 20)". A tab is byte 9.
use Rattle.std.specs.Prelude.{ℕ, zero, suc, ◌+◌, Bool, true, false, List, get_or, set, replicate, drop, eqb, ltb, Option, Some, None}
use Rattle.terms.specs.Base.{pick, also}
use Rattle.lines.specs.Base.{byte_at}
use Rattle.lines.specs.Field.{Field, More, Last, Bad, field_of}
use Rattle.reader.specs.declared.fields.Fields.{Fields as Given}

-- the places past the count are 0; a line of bad form has no good numbers
pub record Fields : Type 0 where
  pub good : Bool
  pub count : ℕ
  pub values : List ℕ

abbrev pub fields : Bool → ℕ → List ℕ → Fields
fields good n vs = record { good = good; count = n; values = vs }

-- none yet, and a line of bad form
unfoldable pub no_fields : Fields
no_fields = fields true 0 (replicate 7 0)

unfoldable pub bad_fields : Fields
bad_fields = fields false 0 (replicate 7 0)

-- one number more; no record has more than seven
unfoldable pub fields_with : Fields → ℕ → Fields
fields_with f v = pick (ltb f.count 7) (fields true (f.count + 1) (set f.values f.count v)) bad_fields

-- a field has another behind it, to which the rest after its tab goes, or ends the line
abbrev pub fields_by : Field → List ℕ → Fields → (List ℕ → Fields → Fields) → Fields
fields_by (More v next) s got further = further (drop next s) (fields_with got v)
fields_by (Last v) s got further = fields_with got v
fields_by Bad s got further = bad_fields

-- at most n fields more
unfoldable pub fields_in : ℕ → List ℕ → Fields → Fields
fields_in zero s got = bad_fields
fields_in (suc n) s got = fields_by (field_of s 65535) s got (λ t g. fields_in n t g)

-- the numbers of a line, its LF taken off: they stand after its letter and a tab
unfoldable pub fields_of : List ℕ → Fields
fields_of line = pick (eqb (byte_at line 1) 9) (fields_in 7 (drop 2 line) no_fields) bad_fields

-- good form, and n numbers
unfoldable pub are_fields : Fields → ℕ → Bool
are_fields f n = also f.good (eqb f.count n)

-- number i of a line, the first one being number 0
abbrev pub num : Fields → ℕ → ℕ
num f i = get_or f.values i 0

-- where only the numbers below 255 have a meaning, 255 stands for every larger one
unfoldable pub up_to255 : ℕ → ℕ
up_to255 v = pick (ltb v 255) v 255

-- the code has numbers for a line of good form alone
abbrev pub good : Given → Fields
good f = fields true f.count f.values

abbrev pub told : Option Given → Fields
told (Some f) = good f
told None = bad_fields
