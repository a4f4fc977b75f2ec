-- The two texts of document 01, 'One listing whole', by computation. A blank is byte 32, LF is byte 10.
use Prim.Native.Nat.{ℕ}
use mathlib.Core.List.{List, [], ◌∷◌}
use mathlib.Core.Path.{◌≡◌, refl}
use Rattle.lines.specs.Put.{word_of, digit_of, decimal_in, decimal, blank_and}
use Rattle.rules.specs.Event.{number_at}
use Rattle.search.specs.declared.answer.Kind.TheVariants as K
use Rattle.pages.specs.ListText.{codes_line, bad_line, bad_lines, closing_line}
use Rattle.pages.specs.ListPage.{last_text}
use Rattle.pages.specs.Listing.{whole, whole_text}
use Rattle.pages.specs.RunText.{serial_of, ok_line, no_line, answer_line, event_after, answers_text, done_line}

-- "bad 1 0", "bad 3 160 0 0", "end 640 0"
bare_listing : whole_text (whole ((0 ∷ []) ∷ (160 ∷ 0 ∷ 0 ∷ []) ∷ []) K.End 640 0)
    ≡ 98 ∷ 97 ∷ 100 ∷ 32 ∷ 49 ∷ 32 ∷ 48 ∷ 10
    ∷ 98 ∷ 97 ∷ 100 ∷ 32 ∷ 51 ∷ 32 ∷ 49 ∷ 54 ∷ 48 ∷ 32 ∷ 48 ∷ 32 ∷ 48 ∷ 10
    ∷ 101 ∷ 110 ∷ 100 ∷ 32 ∷ 54 ∷ 52 ∷ 48 ∷ 32 ∷ 48 ∷ 10 ∷ []
unfolding whole_text bad_lines bad_line codes_line last_text closing_line word_of blank_and decimal decimal_in digit_of
bare_listing = refl

-- "once it is out, `stop` replaces `end`"
bare_stopped : whole_text (whole [] K.Stop 0 0) ≡ 115 ∷ 116 ∷ 111 ∷ 112 ∷ 32 ∷ 48 ∷ 32 ∷ 48 ∷ 10 ∷ []
unfolding whole_text bad_lines last_text closing_line word_of blank_and decimal decimal_in digit_of
bare_stopped = refl

-- a reset that made thread 1, a jump of thread 1, twelve numbers each
two_records : List ℕ
two_records =
    21 ∷ 0 ∷ 0 ∷ 0 ∷ 0 ∷ 0 ∷ 0 ∷ 0 ∷ 1 ∷ 0 ∷ 0 ∷ 0
    ∷ 19 ∷ 1 ∷ 0 ∷ 3 ∷ 0 ∷ 0 ∷ 1 ∷ 0 ∷ 0 ∷ 0 ∷ 0 ∷ 0 ∷ []

-- "ok 160 1 21", "ok 0 1 19", "no 12 1"
bare_run : answers_text 3 0 0 (160 ∷ 0 ∷ 12 ∷ []) (0 ∷ 0 ∷ 1 ∷ []) two_records
    ≡ 111 ∷ 107 ∷ 32 ∷ 49 ∷ 54 ∷ 48 ∷ 32 ∷ 49 ∷ 32 ∷ 50 ∷ 49 ∷ 10
    ∷ 111 ∷ 107 ∷ 32 ∷ 48 ∷ 32 ∷ 49 ∷ 32 ∷ 49 ∷ 57 ∷ 10
    ∷ 110 ∷ 111 ∷ 32 ∷ 49 ∷ 50 ∷ 32 ∷ 49 ∷ 10 ∷ []
unfolding two_records answers_text answer_line event_after ok_line no_line serial_of number_at word_of blank_and decimal decimal_in digit_of
bare_run = refl

-- "done 3 1 3"
bare_done : done_line 3 1 3 ≡ 100 ∷ 111 ∷ 110 ∷ 101 ∷ 32 ∷ 51 ∷ 32 ∷ 49 ∷ 32 ∷ 51 ∷ 10 ∷ []
unfolding done_line word_of blank_and decimal decimal_in digit_of
bare_done = refl
