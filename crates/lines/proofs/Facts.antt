-- Worked examples of document 01, 'One listing whole', each by computation. Tabs are byte 9, LF is byte 10.
use Prim.Native.Nat.{ℕ}
use mathlib.Core.List.{List, [], ◌∷◌, ◌++◌}
use mathlib.Core.Path.{◌≡◌, refl}
use Rattle.lines.specs.Base.{refusal}
use Rattle.lines.specs.Line.{span, no_lf, cut_line, lines_of, joined}
use Rattle.lines.specs.Field as F
use Rattle.lines.specs.Field.{is_digit, well_spelt, number_from, number_of, field_of, opens_with}
use Rattle.lines.specs.Tail.{all_open, before_run}
use Rattle.lines.specs.Goal.{goal, budget_of, pair_of, goal_line, last_goal, goal_refusal}
use Rattle.lines.specs.Codes.{code_in, next_code, judge_from, last_codes, codes_refusal}
use Rattle.lines.specs.Put.{word_of, digit_of, decimal_in, decimal, blank_and, refused_line}
use Rattle.std.specs.Prelude.{Ok}

-- "V 1", and "G 3 1000"
v1 : List ℕ
v1 = 86 ∷ 9 ∷ 49 ∷ 10 ∷ []

g3 : List ℕ
g3 = 71 ∷ 9 ∷ 51 ∷ 9 ∷ 49 ∷ 48 ∷ 48 ∷ 48 ∷ 10 ∷ []

-- "`G 3 1000` (bound, budget)": the model is the 4 bytes before it
last_line_g : last_goal (v1 ++ g3) ≡ Ok (goal 4 3 1000)
unfolding v1 g3 last_goal lines_of joined goal_line cut_line span no_lf opens_with pair_of budget_of field_of is_digit well_spelt number_of number_from
last_line_g = refl

-- "No G line (20, one past the end)"; the empty input has no line
no_g : goal_refusal (last_goal v1) ≡ refusal 20 2
unfolding v1 last_goal lines_of joined
no_g = refl

none_at_all : goal_refusal (last_goal []) ≡ refusal 20 1
unfolding last_goal lines_of joined
none_at_all = refl

-- "R 160", "R 12"; "R 00" has a needless zero, "R 65536" is past the limit
r160 : List ℕ
r160 = 82 ∷ 9 ∷ 49 ∷ 54 ∷ 48 ∷ 10 ∷ []

r12 : List ℕ
r12 = 82 ∷ 9 ∷ 49 ∷ 50 ∷ 10 ∷ []

r00 : List ℕ
r00 = 82 ∷ 9 ∷ 48 ∷ 48 ∷ 10 ∷ []

r65536 : List ℕ
r65536 = 82 ∷ 9 ∷ 54 ∷ 53 ∷ 53 ∷ 51 ∷ 54 ∷ 10 ∷ []

-- "all R lines at the end" are taken off, and no R line before another line
run_of_two : last_codes (r12 ++ (v1 ++ (r160 ++ r12))) ≡ Ok 9
unfolding v1 r160 r12 last_codes lines_of joined all_open before_run judge_from next_code cut_line code_in span no_lf opens_with field_of is_digit well_spelt number_of number_from
run_of_two = refl

needless_zero : codes_refusal (last_codes (v1 ++ (r160 ++ (r00 ++ r65536)))) ≡ refusal 20 3
unfolding v1 r160 r00 r65536 last_codes lines_of joined all_open before_run judge_from next_code cut_line code_in span no_lf opens_with field_of is_digit well_spelt number_of number_from
needless_zero = refl

past_limit : codes_refusal (last_codes (v1 ++ r65536)) ≡ refusal 20 2
unfolding v1 r65536 last_codes lines_of joined all_open before_run judge_from next_code cut_line code_in span no_lf opens_with field_of is_digit well_spelt number_of number_from
past_limit = refl

-- "refused 20 13"
refused_line_lem : refused_line 20 13 ≡ 114 ∷ 101 ∷ 102 ∷ 117 ∷ 115 ∷ 101 ∷ 100 ∷ 32 ∷ 50 ∷ 48 ∷ 32 ∷ 49 ∷ 51 ∷ 10 ∷ []
unfolding refused_line word_of blank_and decimal decimal_in digit_of
refused_line_lem = refl

-- the largest budget is read, and one more is not
largest : field_of (decimal 4294967295) 4294967295 ≡ F.Last 4294967295
unfolding field_of span is_digit well_spelt number_of number_from decimal decimal_in digit_of
largest = refl

one_more_lem : field_of (decimal 4294967296) 4294967295 ≡ F.Bad
unfolding field_of span is_digit well_spelt number_of number_from decimal decimal_in digit_of
one_more_lem = refl
