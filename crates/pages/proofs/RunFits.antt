-- The page of a run is long enough, and so is the room for its codes: what is read is the codes of all R lines, and what is
-- written is the run's whole text.
use Prim.Native.Nat.{ℕ, zero, suc, ◌+◌, ◌*◌, ◌≤◌}
use mathlib.Core.Bool.{Bool, true, false}
use mathlib.Core.List.{List, [], ◌∷◌, ◌++◌}
use mathlib.Core.Path.{◌≡◌, refl, ap}
use native.Mathlib.Omega.{arith}
use lib.ListN.{length, get_or, take, set, length-append, length-take}
use lib.Dec.{ltb, eqb}
use borrow.Author.Tests.{ltb-true, ltb-false}
use Rattle.terms.specs.Base.{pick}
use Rattle.model.specs.declared.records.Claim.{Claim}
use Rattle.model.specs.declared.records.Model.{Model}
use Rattle.state.specs.Control.{fresh_control}
use Rattle.state.specs.declared.control.Control.{Control}
use Rattle.rules.specs.Event.{number_at}
use Rattle.rules.specs.Made.{Layout, layout_of}
use Rattle.machine.specs.Judge.{first_break_on, accepts_on}
use Rattle.machine.specs.Recorded.{Left}
use Rattle.machine.specs.Step.{is_sound}
use Rattle.runs.specs.Run.{ran, Course, course, one_turn, steps_from, shorter, tried_of, steps_on, all_refused, untouched, run_on}
use Rattle.runs.specs.Run.{Outcome}
use Rattle.lines.specs.Line.{span, no_lf, cut_line, lines_of, joined}
use Rattle.lines.specs.Field as F
use Rattle.lines.specs.Field.{Field, well_spelt, field_of, opens_with}
use Rattle.lines.specs.Codes as C
use Rattle.lines.specs.Codes.{Code, code_by, code_in, code_cut, next_code}
use Rattle.lines.specs.Put.{word_of, blank_and}
use Rattle.std.specs.Prelude.{Some, None}
use Rattle.lines.proofs.Lines.{joined_lines}
use Rattle.pages.specs.RunText.{serial_of, ok_line, no_line, answer_line, event_after, answers_text, done_line, code_then, codes_of, codes_read}
use Rattle.pages.specs.RunPage.{run_text, run_page_on}
use Rattle.pages.proofs.Fits.{blank_most, text_whole}
use Rattle.pages.proofs.Codes.{codes_read_lem}

-- how long the lines are
ok_long : (code : ℕ) (l : List ℕ) (i : ℕ) → length (ok_line code l i) ≤ 36
unfolding ok_line word_of
ok_long code l i =
    let op : ℕ = number_at l i 0 in
    let d : List ℕ = blank_and op ++ (10 ∷ []) in
    let c : List ℕ = blank_and (serial_of l i op) ++ d in
    let b : List ℕ = blank_and code ++ c in
    let p = length-append (blank_and op) (10 ∷ []) in
    let q = length-append (blank_and (serial_of l i op)) d in
    let r = length-append (blank_and code) c in
    let s = length-append (111 ∷ 107 ∷ []) b in
    omega (arith, p, q, r, s, blank_most op, blank_most (serial_of l i op), blank_most code)

no_long : (code number : ℕ) → length (no_line code number) ≤ 36
unfolding no_line word_of
no_long code number =
    let c : List ℕ = blank_and number ++ (10 ∷ []) in
    let b : List ℕ = blank_and code ++ c in
    let p = length-append (blank_and number) (10 ∷ []) in
    let q = length-append (blank_and code) c in
    let r = length-append (110 ∷ 111 ∷ []) b in
    omega (arith, p, q, r, blank_most number, blank_most code)

done_long : (steps accepts broken : ℕ) → length (done_line steps accepts broken) ≤ 38
unfolding done_line word_of
done_long steps accepts broken =
    let d : List ℕ = blank_and broken ++ (10 ∷ []) in
    let c : List ℕ = blank_and accepts ++ d in
    let b : List ℕ = blank_and steps ++ c in
    let p = length-append (blank_and broken) (10 ∷ []) in
    let q = length-append (blank_and accepts) d in
    let r = length-append (blank_and steps) c in
    let s = length-append (100 ∷ 111 ∷ 110 ∷ 101 ∷ []) b in
    omega (arith, p, q, r, s, blank_most broken, blank_most accepts, blank_most steps)

either_long : (t : Bool) (x y : List ℕ) (n : ℕ) → length x ≤ n → length y ≤ n → length (pick t x y) ≤ n
either_long true x y n p q = p
either_long false x y n p q = q

answer_long : (code number : ℕ) (l : List ℕ) (i : ℕ) → length (answer_line code number l i) ≤ 36
unfolding answer_line
answer_long code number l i = either_long (eqb number 0) (ok_line code l i) (no_line code number) 36 (ok_long code l i) (no_long code number)

answers_long : (n i e : ℕ) (codes ans l : List ℕ) → length (answers_text n i e codes ans l) ≤ n * 36
unfolding answers_text
answers_long zero i e codes ans l = omega arith
answers_long (suc n) i e codes ans l =
    let a : ℕ = get_or ans i 0 in
    let x : List ℕ = answer_line (get_or codes i 0) a l e in
    let y : List ℕ = answers_text n (i + 1) (event_after e a) codes ans l in
    omega (arith, length-append x y, answer_long (get_or codes i 0) a l e, answers_long n (i + 1) (event_after e a) codes ans l)

text_long : (codes ans rs : List ℕ) (tried events : ℕ) (c : Claim) → length (run_text codes ans rs tried events c) ≤ tried * 36 + 38
unfolding run_text
text_long codes ans rs tried events c =
    let x : List ℕ = answers_text tried 0 0 codes ans rs in
    let y : List ℕ = done_line events (accepts_on rs events) (first_break_on rs events c) in
    omega (arith, length-append x y, answers_long tried 0 0 codes ans rs, done_long events (accepts_on rs events) (first_break_on rs events c))

-- no more codes are tried than there are
course_by : (b : Bool) (x y : Course) (n : ℕ) → x.ran.tried ≤ n → y.ran.tried ≤ n → (pick b x y).ran.tried ≤ n
course_by true x y n p q = p
course_by false x y n p q = q

steps_tried : (codes : List ℕ) (i : ℕ) (g : Layout) (k : ℕ) (l ans rs : List ℕ) (s : Control) (events : ℕ)
    → (steps_from codes i g k l ans rs s events).ran.tried ≤ i + length codes
unfolding steps_from
steps_tried [] i g k l ans rs s events = omega arith
steps_tried (code ∷ codes) i g k l ans rs s events =
    let u : Left Outcome = one_turn g k l rs s events code in
    let h : List ℕ = set ans i u.out.number in
    course_by
    (eqb u.out.number 12)
    (course (ran u.out.control u.out.events (i + 1)) u.table h u.records)
    (steps_from codes (i + 1) g k u.table h u.records u.out.control u.out.events)
    (i + suc (length codes))
    (omega arith)
    (omega (arith, steps_tried codes (i + 1) g k u.table h u.records u.out.control u.out.events))

shorter_by : (b : Bool) (m n : ℕ) → ltb m n ≡ b → pick b m n ≤ m
shorter_by true m n e = omega arith
shorter_by false m n e = ltb-false m n e

shorter_first : (m n : ℕ) → shorter m n ≤ m
unfolding shorter
shorter_first m n = shorter_by (ltb m n) m n refl

run_tried : (m : Model) (l : List ℕ) (s : Control) (codes ans rs : List ℕ) → (run_on l m s codes ans rs).ran.tried ≤ length codes
unfolding run_on steps_on all_refused
run_tried m l s codes ans rs =
    let few = shorter_first (length codes) (length ans) in
    course_by
    (is_sound m l s)
    (steps_on (layout_of m) m.machine_count l s codes ans rs)
    (untouched (all_refused s codes ans) l rs)
    (length codes)
    (omega (arith, steps_tried (tried_of codes ans) 0 (layout_of m) m.machine_count l ans rs s 0, length-take (shorter (length codes) (length ans)) codes))
    few

-- what is written of the page is the whole text of the run
pub run_whole : (m : Model) (codes ans rs page : List ℕ) → length codes * 36 + 38 ≤ length page →
    let r : Course = run_on m.lines m (fresh_control m) codes ans rs in
    let q = run_page_on m codes ans rs page in
    take q.bytes q.page ≡ run_text codes r.answers r.records r.ran.tried r.ran.events m.claim
unfolding run_page_on
run_whole m codes ans rs page h =
    let r : Course = run_on m.lines m (fresh_control m) codes ans rs in
    let t : List ℕ = run_text codes r.answers r.records r.ran.tried r.ran.events m.claim in
    let a = run_tried m m.lines (fresh_control m) codes ans rs in
    let b = text_long codes r.answers r.records r.ran.tried r.ran.events m.claim in
    text_whole t page (omega (arith, a, b, h))

-- an R line has four bytes at least: its letter, a tab, a digit and its LF
field_needs : Field → ℕ
field_needs (F.More v n) = 1
field_needs (F.Last v) = 1
field_needs F.Bad = 0

code_needs : Code → ℕ
code_needs (C.Next v n) = 4
code_needs C.End = 0
code_needs C.Bad = 0

field_one : (f : Field) → field_needs f ≤ 1
unfolding field_needs
field_one (F.More v n) = omega arith
field_one (F.Last v) = omega arith
field_one F.Bad = omega arith

field_none : (most : ℕ) → field_needs (field_of [] most) ≤ 0
unfolding field_needs field_of span well_spelt
field_none most = omega arith

field_long : (s : List ℕ) (most : ℕ) → field_needs (field_of s most) ≤ length s
field_long [] most = field_none most
field_long (b ∷ s) most = omega (arith, field_one (field_of (b ∷ s) most))

code_by_lem : (t : Bool) (f : Field) (next k : ℕ) → field_needs f ≤ k → code_needs (pick t (code_by f next) C.Bad) ≤ k + 3
unfolding field_needs code_needs
code_by_lem true (F.Last v) next k h = omega arith
code_by_lem true (F.More v n) next k h = omega arith
code_by_lem true F.Bad next k h = omega arith
code_by_lem false f next k h = omega arith

code_long : (line : List ℕ) (next : ℕ) → code_needs (code_in line next) ≤ length line + 1
unfolding code_in opens_with code_needs
code_long [] next = omega arith
code_long (b ∷ []) next = omega arith
code_long (b ∷ t ∷ s) next = omega (arith, code_by_lem (opens_with (b ∷ t ∷ s) 82) (field_of s 65535) next (length s) (field_long s 65535))

cut_long : (t : Bool) (n : ℕ) (s : List ℕ) → ltb n (length s) ≡ t → code_needs (code_cut (pick t (Some n) None) s) ≤ length s
unfolding code_needs
cut_long true n s e = omega (arith, code_long (take n s) (n + 1), length-take n s, ltb-true n (length s) e)
cut_long false n s e = omega arith

next_by : (t : Bool) (s : List ℕ) → code_needs (pick t C.End (code_cut (cut_line s) s)) ≤ length s
unfolding code_needs cut_line
next_by true s = omega arith
next_by false s = cut_long (ltb (span no_lf s) (length s)) (span no_lf s) s refl

next_long : (s : List ℕ) → code_needs (next_code s) ≤ length s
unfolding next_code
next_long s = next_by (eqb (length s) 0) s

then_few : (c : Code) (cs : List ℕ) (k n : ℕ) → code_needs c ≤ k → length cs * 4 ≤ n → length (code_then c cs) * 4 ≤ k + n
unfolding code_needs
then_few (C.Next v x) cs k n h g = omega arith
then_few C.End cs k n h g = omega arith
then_few C.Bad cs k n h g = omega arith

lines_few : (ls : List (List ℕ)) → length (codes_of ls) * 4 ≤ length (joined ls)
unfolding codes_of joined
lines_few [] = omega arith
lines_few (l ∷ ls) = omega (arith, length-append l (joined ls), then_few (next_code l) (codes_of ls) (length l) (length (joined ls)) (next_long l) (lines_few ls))

codes_few : (s : List ℕ) → length (codes_of (lines_of s)) * 4 ≤ length s
codes_few s = omega (arith, lines_few (lines_of s), ap length (joined_lines s))

-- an input of 65,536 bytes has no more codes than a room for 16,384 takes: all of them are read
pub all_read : (s room : List ℕ) → length s ≤ 65536 → 16384 ≤ length room → take (codes_read s room).out (codes_read s room).table ≡ codes_of (lines_of s)
all_read s room h g = codes_read_lem s room (omega (arith, codes_few s))
