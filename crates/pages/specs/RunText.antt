-- What the run program reads and prints. "ok: code, serial (made by a reset, else the mover or sender), op (21 reset, 22
-- hand-over). no: code, number. done: steps, accepts of any program, first breaking step or 0."
use Rattle.std.specs.Prelude.{ℕ, zero, suc, ◌+◌, ◌%◌, List, [], ◌∷◌, ◌++◌, length, get_or, set, ltb, eqb}
use Rattle.terms.specs.Base.{pick, Held, held}
use Rattle.rules.specs.Event.{number_at}
use Rattle.lines.specs.Line.{lines_of}
use Rattle.lines.specs.Codes as C
use Rattle.lines.specs.Codes.{Code, next_code}
use Rattle.lines.specs.Put.{word_of, blank_and}
use Rattle.lines.specs.declared.put.Word.TheVariants.{Ok, No, Done}

-- number 8 of a record is the thread made, number 1 the mover's or sender's serial
unfoldable pub serial_of : List ℕ → ℕ → ℕ → ℕ
serial_of l i op = pick (eqb op 21) (number_at l i 8) (number_at l i 1)

-- the line of a permitted code whose event is record i, number 0 of which is the op
unfoldable pub ok_line : ℕ → List ℕ → ℕ → List ℕ
ok_line code l i =
    word_of Ok ++ (blank_and code ++ (blank_and (serial_of l i (number_at l i 0)) ++ (blank_and (number_at l i 0) ++ (10 ∷ []))))

unfoldable pub no_line : ℕ → ℕ → List ℕ
no_line code number = word_of No ++ (blank_and code ++ (blank_and number ++ (10 ∷ [])))

-- a code's answer is 0 where it is permitted
unfoldable pub answer_line : ℕ → ℕ → List ℕ → ℕ → List ℕ
answer_line code number l i = pick (eqb number 0) (ok_line code l i) (no_line code number)

-- the record of the next permitted code; no run has 65,535 of them
unfoldable pub event_after : ℕ → ℕ → ℕ
event_after i number = pick (eqb number 0) (i % 65535 + 1) i

-- the lines of n codes, number i and those behind it, the first event of theirs being record e
unfoldable pub answers_text : ℕ → ℕ → ℕ → List ℕ → List ℕ → List ℕ → List ℕ
answers_text zero i e codes ans l = []
answers_text (suc n) i e codes ans l =
    answer_line (get_or codes i 0) (get_or ans i 0) l e ++ answers_text n (i + 1) (event_after e (get_or ans i 0)) codes ans l

unfoldable pub done_line : ℕ → ℕ → ℕ → List ℕ
done_line steps accepts broken = word_of Done ++ (blank_and steps ++ (blank_and accepts ++ (blank_and broken ++ (10 ∷ []))))

abbrev pub code_then : Code → List ℕ → List ℕ
code_then (C.Next v n) cs = v ∷ cs
code_then C.End cs = []
code_then C.Bad cs = []

-- the codes of R lines, up to a bad one
unfoldable pub codes_of : List (List ℕ) → List ℕ
codes_of [] = []
codes_of (l ∷ ls) = code_then (next_code l) (codes_of ls)

-- codes go into lent room from place n on, as many as it takes; past them it stays as lent
unfoldable pub codes_put : List ℕ → ℕ → List ℕ → Held ℕ
codes_put [] n room = held n room
codes_put (c ∷ cs) n room = pick (ltb n (length room)) (codes_put cs (n + 1) (set room n c)) (held n room)

unfoldable pub codes_read : List ℕ → List ℕ → Held ℕ
codes_read s room = codes_put (codes_of (lines_of s)) 0 room
