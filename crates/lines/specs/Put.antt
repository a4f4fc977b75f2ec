-- What is written to a lent buffer: bytes one after the other, from a place on. The fields of a line of output are parted
-- by one blank, byte 32, and LF stands after each line.
use Rattle.std.specs.Prelude.{ℕ, zero, suc, ◌+◌, ◌/◌, ◌%◌, List, [], ◌∷◌, ◌++◌, length, set, ltb}
use Rattle.lines.specs.Base.{pick}
use Rattle.lines.specs.declared.put.Page.{Page}
use Rattle.lines.specs.declared.put.Word.{Word}
use Rattle.lines.specs.declared.put.Word.TheVariants.{Bad, End, Stop, Ok, No, Done, Refused}

-- the next place to write at, and the buffer as it is left
pub record Written : Type 0 where
  pub next : ℕ
  pub buf : List ℕ

abbrev pub written : ℕ → List ℕ → Written
written at l = record { next = at; buf = l }

-- the same of a page
abbrev pub seen : Page → Written
seen p = written p.next p.bytes.now

-- a byte that finds the buffer full is dropped, and the place stays
unfoldable pub put_byte : ℕ → Written → Written
put_byte b w = pick (ltb w.next (length w.buf)) (written (w.next + 1) (set w.buf w.next b)) w

unfoldable pub put_all : List ℕ → Written → Written
put_all [] w = w
put_all (b ∷ bs) w = put_all bs (put_byte b w)

unfoldable pub word_of : Word → List ℕ
word_of Bad = 98 ∷ 97 ∷ 100 ∷ []
word_of End = 101 ∷ 110 ∷ 100 ∷ []
word_of Stop = 115 ∷ 116 ∷ 111 ∷ 112 ∷ []
word_of Ok = 111 ∷ 107 ∷ []
word_of No = 110 ∷ 111 ∷ []
word_of Done = 100 ∷ 111 ∷ 110 ∷ 101 ∷ []
word_of Refused = 114 ∷ 101 ∷ 102 ∷ 117 ∷ 115 ∷ 101 ∷ 100 ∷ []

-- the last digit of a number
unfoldable pub digit_of : ℕ → ℕ
digit_of n = 48 + n % 10

-- at most k digits
unfoldable pub decimal_in : ℕ → ℕ → List ℕ
decimal_in zero n = []
decimal_in (suc k) n = pick (ltb n 10) (digit_of n ∷ []) (decimal_in k (n / 10) ++ (digit_of n ∷ []))

-- no number of 32 bits has more than 10
unfoldable pub decimal : ℕ → List ℕ
decimal n = decimal_in 10 n

-- a blank and a decimal
unfoldable pub blank_and : ℕ → List ℕ
blank_and n = 32 ∷ decimal n

-- "only `refused`, number and line"
unfoldable pub refused_line : ℕ → ℕ → List ℕ
refused_line number line = word_of Refused ++ (blank_and number ++ (blank_and line ++ (10 ∷ [])))
