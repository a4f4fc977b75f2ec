-- What the list program prints. "bad: length, codes. end: total tries, tries refused for size." A room holds schedules, 25
-- bytes each: the length, and 24 codes.
use Rattle.std.specs.Prelude.{ℕ, zero, suc, ◌+◌, ◌*◌, List, [], ◌∷◌, ◌++◌, length}
use Rattle.lines.specs.Base.{byte_at}
use Rattle.lines.specs.Put.{word_of, blank_and}
use Rattle.lines.specs.declared.put.Word.{Word}
use Rattle.lines.specs.declared.put.Word.TheVariants.{Bad}

-- n codes from place i of the room on, each behind a blank
unfoldable pub codes_text : ℕ → List ℕ → ℕ → List ℕ
codes_text zero room i = []
codes_text (suc n) room i = blank_and (byte_at room i) ++ codes_text n room (i + 1)

-- the line of the schedule whose length stands at place i
unfoldable pub schedule_line : List ℕ → ℕ → List ℕ
schedule_line room i =
    word_of Bad ++ (blank_and (byte_at room i) ++ (codes_text (byte_at room i) room (i + 1) ++ (10 ∷ [])))

-- the lines of n schedules, number i and those behind it
unfoldable pub schedules_text : ℕ → List ℕ → ℕ → List ℕ
schedules_text zero room i = []
schedules_text (suc n) room i = schedule_line room (i * 25) ++ schedules_text n room (i + 1)

-- "once it is out, `stop` replaces `end`"
unfoldable pub closing_line : Word → ℕ → ℕ → List ℕ
closing_line w tries sized = word_of w ++ (blank_and tries ++ (blank_and sized ++ (10 ∷ [])))

-- codes, each behind a blank; the line of a schedule; the lines of many. That the room's text is this is proved.
unfoldable pub codes_line : List ℕ → List ℕ
codes_line [] = []
codes_line (c ∷ cs) = blank_and c ++ codes_line cs

unfoldable pub bad_line : List ℕ → List ℕ
bad_line w = word_of Bad ++ (blank_and (length w) ++ (codes_line w ++ (10 ∷ [])))

unfoldable pub bad_lines : List (List ℕ) → List ℕ
bad_lines [] = []
bad_lines (w ∷ ws) = bad_line w ++ bad_lines ws
