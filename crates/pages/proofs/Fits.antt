-- A page is long enough: what is written of it is its whole text. A byte is dropped only where the buffer is full.
use Prim.Native.Nat.{ℕ, ◌+◌, ◌*◌, ◌≤◌}
use mathlib.Core.List.{List, [], ◌∷◌, ◌++◌}
use mathlib.Core.Path.{◌≡◌}
use native.Mathlib.Omega.{arith}
use lib.ListN.{length, take, drop, length-append}
use lib.Seq.{sets, sets-eq, take-append_seam}
use Rattle.lines.specs.Put.{written, put_all, word_of, blank_and, refused_line}
use Rattle.lines.specs.declared.put.Word.{Word}
use Rattle.lines.specs.declared.put.Word.TheVariants.{Bad, End, Stop, Ok, No, Done, Refused}
use Rattle.lines.proofs.Meaning.{decimal_short, put_sets}
use Rattle.search.specs.declared.answer.Kind.{Kind}
use Rattle.search.specs.declared.answer.Kind.TheVariants as K
use Rattle.pages.specs.ListPage.{last_text}
use Rattle.pages.specs.ListText.{codes_line, bad_line, bad_lines, closing_line}
use Rattle.pages.proofs.Printed.{Short}

-- from the start of a page on: the bytes written are the text
pub text_whole : (bs l : List ℕ) → length bs ≤ length l → take (put_all bs (written 0 l)).next (put_all bs (written 0 l)).buf ≡ bs
text_whole bs l h =
    let e : sets l 0 bs ≡ bs ++ drop (0 + length bs) l = sets-eq bs l 0 (omega arith) in
    let z : 0 + length bs ≡ length bs = omega arith in
    rw (put_sets bs 0 l (omega arith), e, z) (take-append_seam bs (drop (length bs) l))

pub blank_most : (n : ℕ) → length (blank_and n) ≤ 11
unfolding blank_and
blank_most n = omega (arith, decimal_short n)

-- "bad: length, codes": at most 25 numbers, none of more than ten digits
codes_long : (w : List ℕ) → length (codes_line w) ≤ length w * 11
unfolding codes_line
codes_long [] = omega arith
codes_long (c ∷ w) = omega (arith, length-append (blank_and c) (codes_line w), blank_most c, codes_long w)

pub line_long : (w : List ℕ) → length w ≤ 24 → length (bad_line w) ≤ 279
unfolding bad_line word_of
line_long w h =
    let i = length-append (codes_line w) (10 ∷ []) in
    let j = length-append (blank_and (length w)) (codes_line w ++ (10 ∷ [])) in
    let k = length-append (98 ∷ 97 ∷ 100 ∷ []) (blank_and (length w) ++ (codes_line w ++ (10 ∷ []))) in
    omega (arith, i, j, k, codes_long w, blank_most (length w))

pub lines_long : (ws : List (List ℕ)) → Short ws → length (bad_lines ws) ≤ length ws * 279
unfolding bad_lines Short
lines_long [] s = omega arith
lines_long (w ∷ ws) s = omega (arith, length-append (bad_line w) (bad_lines ws), line_long w s.0, lines_long ws s.1)

word_long : (w : Word) → length (word_of w) ≤ 7
unfolding word_of
word_long Bad = omega arith
word_long End = omega arith
word_long Stop = omega arith
word_long Ok = omega arith
word_long No = omega arith
word_long Done = omega arith
word_long Refused = omega arith

pub closing_long : (w : Word) (tries sized : ℕ) → length (closing_line w tries sized) ≤ 30
unfolding closing_line
closing_long w tries sized =
    let i = length-append (blank_and sized) (10 ∷ []) in
    let j = length-append (blank_and tries) (blank_and sized ++ (10 ∷ [])) in
    let k = length-append (word_of w) (blank_and tries ++ (blank_and sized ++ (10 ∷ []))) in
    omega (arith, i, j, k, word_long w, blank_most tries, blank_most sized)

refused_long : (n m : ℕ) → length (refused_line n m) ≤ 30
unfolding refused_line
refused_long n m =
    let i = length-append (blank_and m) (10 ∷ []) in
    let j = length-append (blank_and n) (blank_and m ++ (10 ∷ [])) in
    let k = length-append (word_of Refused) (blank_and n ++ (blank_and m ++ (10 ∷ []))) in
    omega (arith, i, j, k, word_long Refused, blank_most n, blank_most m)

-- "only `refused`, number and line": what the buffer then opens with
pub refused_whole : (n m next : ℕ) (l buf : List ℕ) → 30 ≤ length l → written next buf ≡ put_all (refused_line n m) (written 0 l) → take next buf ≡ refused_line n m
refused_whole n m next l buf h e = rw (← e) at (text_whole (refused_line n m) l (omega (arith, refused_long n m)))

pub last_long : (k : Kind) (tries sized : ℕ) → length (last_text k tries sized) ≤ 30
unfolding last_text
last_long K.Found tries sized = omega arith
last_long K.Stop tries sized = closing_long Stop tries sized
last_long K.End tries sized = closing_long End tries sized
last_long (K.Refused n) tries sized = refused_long n 0
