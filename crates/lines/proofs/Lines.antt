-- The lines of an input: the first of them, those from a place on, one more of them for the end of an input (tail_of)
-- and for its R lines (judge).
use Prim.Native.Nat.{ℕ, zero, suc, ◌+◌, ◌-◌, ◌<◌, ◌≤◌, min}
use mathlib.Core.Bool.{Bool, true, false}
use mathlib.Core.List.{List, [], ◌∷◌, ◌++◌, append-nil}
use mathlib.Core.Path.{◌≡◌, refl, sym, ap, ◌∙◌}
use native.Mathlib.Numerals.{add-one}
use native.Mathlib.Omega.{arith}
use lib.ListN.{length, get_or, take, drop, length-append, length-drop, drop_of_length-le}
use lib.Seq.{drop-cons, take-length, take-take, drop-drop, get_or-take, get_or-drop, drop-append_seam, length-take-le}
use lib.Dec.{ltb, eqb}
use borrow.Author.Tests.{ltb-true, ltb-false, lt-ltb, le-ltb, eq-eqb, ne_eqb}
use Rattle.lines.specs.Base.{pick}
use Rattle.lines.specs.Line.{span, no_lf, cut_line, width_by, width_of, on_first, lines_of, joined}
use Rattle.lines.specs.Tail.{opens, all_open, before_run, start_of, last_of, tail, tail_of, tail_with}
use Rattle.lines.specs.Goal.{goal_line, goal_by, last_goal}
use Rattle.lines.specs.Codes as C
use Rattle.lines.specs.Codes.{Code, line_read, code_read, code_by, code_in, code_cut, next_code, judge_by, judge_from, judged, codes_by, last_codes}
use Rattle.lines.specs.Field as F
use Rattle.lines.specs.Field.{Field, field_of, opens_with}
use Rattle.lines.specs.declared.tail.Tail.{Tail}
use Rattle.lines.specs.declared.tail.Fault.TheVariants as A
use Rattle.std.specs.Prelude.{Option, Some, None, Result, Ok, Err, IsErr}
use Rattle.lines.specs.declared.codes.Code as code
use Rattle.lines.specs.declared.codes.BadLine.{BadLine}
use Rattle.lines.proofs.Laws.{span_le}

-- ---- the first line

width_by_lem : (b : Bool) (n : ℕ) (s : List ℕ) → ltb n (length s) ≡ b → n ≤ length s → width_by (pick b (Some n) None) s ≡ min (n + 1) (length s)
width_by_lem true n s e h = omega (arith, ltb-true n (length s) e)
width_by_lem false n s e h = omega (arith, ltb-false n (length s) e)

pub width_min : (s : List ℕ) → width_of s ≡ min (span no_lf s + 1) (length s)
unfolding width_of cut_line
width_min s = width_by_lem (ltb (span no_lf s) (length s)) (span no_lf s) s refl (span_le no_lf s)

pub width_le : (s : List ℕ) → width_of s ≤ length s
width_le s = omega (arith, width_min s)

pub width_some : (s : List ℕ) → 0 < length s → 0 < width_of s
width_some s h = omega (arith, width_min s)

width_lf : (b : ℕ) (s : List ℕ) → eqb b 10 ≡ true → width_of (b ∷ s) ≡ 1
unfolding span no_lf
width_lf b s e = let p : span no_lf (b ∷ s) ≡ 0 = rw e in omega (arith, width_min (b ∷ s))

width_cons : (b : ℕ) (s : List ℕ) → eqb b 10 ≡ false → width_of (b ∷ s) ≡ suc (width_of s)
unfolding span no_lf
width_cons b s e = let p : span no_lf (b ∷ s) ≡ span no_lf s + 1 = rw e in omega (arith, width_min (b ∷ s), width_min s)

width_none : width_of [] ≡ 0
width_none = omega (arith, width_min [])

lines_by : (t : Bool) (b : ℕ) (s : List ℕ) → eqb b 10 ≡ t → (0 < length s → lines_of s ≡ take (width_of s) s ∷ lines_of (drop (width_of s) s))
    → lines_of (b ∷ s) ≡ take (width_of (b ∷ s)) (b ∷ s) ∷ lines_of (drop (width_of (b ∷ s)) (b ∷ s))
unfolding lines_of
lines_by true b s e f = rw (width_lf b s e, e)
lines_by false b [] e f = rw (width_cons b [] e, e, width_none)
lines_by false b (x ∷ s) e f = rw (width_cons b (x ∷ s) e, e, f (omega arith))

-- the first line and the others
pub lines_cons : (s : List ℕ) → 0 < length s → lines_of s ≡ take (width_of s) s ∷ lines_of (drop (width_of s) s)
lines_cons [] h = absurd (omega arith)
lines_cons (b ∷ s) h = lines_by (eqb b 10) b s refl (lines_cons s)

join_first : (b : ℕ) (ls : List (List ℕ)) → joined (on_first b ls) ≡ b ∷ joined ls
unfolding joined
join_first b [] = refl
join_first b (l ∷ ls) = refl

join_by : (t : Bool) (b : ℕ) (ls : List (List ℕ)) → joined (pick t ((b ∷ []) ∷ ls) (on_first b ls)) ≡ b ∷ joined ls
unfolding joined
join_by true b ls = refl
join_by false b ls = join_first b ls

-- the lines one after the other are the input
pub joined_lines : (s : List ℕ) → joined (lines_of s) ≡ s
unfolding lines_of joined
joined_lines [] = refl
joined_lines (b ∷ s) = join_by (eqb b 10) b (lines_of s) ∙ ap {B = List ℕ} (λ l. b ∷ l) (joined_lines s)

few_first : (b n : ℕ) (ls : List (List ℕ)) → length ls ≤ n → length (on_first b ls) ≤ suc n
few_first b n [] h = omega arith
few_first b n (l ∷ ls) h = omega arith

few_by : (t : Bool) (b n : ℕ) (ls : List (List ℕ)) → length ls ≤ n → length (pick t ((b ∷ []) ∷ ls) (on_first b ls)) ≤ suc n
few_by true b n ls h = omega arith
few_by false b n ls h = few_first b n ls h

-- no more lines than bytes
pub lines_few : (s : List ℕ) → length (lines_of s) ≤ length s
unfolding lines_of
lines_few [] = omega arith
lines_few (b ∷ s) = few_by (eqb b 10) b (length s) (lines_of s) (lines_few s)

-- ---- the lines from a place on

start_suc : (k : ℕ) (l : List ℕ) (ls : List (List ℕ)) → start_of (suc k) (l ∷ ls) ≡ length l + start_of k ls
unfolding joined
start_suc k l ls = length-append l (joined (take k ls))

from_next : (k : ℕ) (s : List ℕ) → 0 < length s → ((r : List ℕ) → lines_of (drop (start_of k (lines_of r)) r) ≡ drop k (lines_of r))
    → lines_of (drop (start_of (suc k) (lines_of s)) s) ≡ drop (suc k) (lines_of s)
from_next k s h f =
    let w = width_of s in
    let e : length (take w s) ≡ w = length-take-le w s (width_le s) in
    let g : start_of (suc k) (lines_of s) ≡ w + start_of k (lines_of (drop w s)) =
    ap (start_of (suc k)) (lines_cons s h) ∙ start_suc k (take w s) (lines_of (drop w s)) ∙ ap (λ (n : ℕ). n + start_of k (lines_of (drop w s))) e in
    ap (λ (n : ℕ). lines_of (drop n s)) g ∙ ap lines_of (sym (drop-drop (start_of k (lines_of (drop w s))) w s)) ∙ f (drop w s)
    ∙ sym (ap (drop (suc k)) (lines_cons s h))

pub lines_from : (k : ℕ) (s : List ℕ) → lines_of (drop (start_of k (lines_of s)) s) ≡ drop k (lines_of s)
unfolding lines_of joined
lines_from zero s = refl
lines_from (suc k) [] = refl
lines_from (suc k) (b ∷ s) = from_next k (b ∷ s) (omega arith) (lines_from k)

joined_drop : (k : ℕ) (ls : List (List ℕ)) → drop (start_of k ls) (joined ls) ≡ joined (drop k ls)
unfolding joined
joined_drop zero ls = refl
joined_drop (suc k) [] = refl
joined_drop (suc k) (l ∷ ls) = ap (λ (n : ℕ). drop n (l ++ joined ls)) (start_suc k l ls)
    ∙ sym (drop-drop (start_of k ls) (length l) (l ++ joined ls))
    ∙ ap (drop (start_of k ls)) (drop-append_seam l (joined ls)) ∙ joined_drop k ls

last_only : (ls : List (List ℕ)) → joined (drop (length ls - 1) ls) ≡ last_of ls
unfolding joined
last_only [] = refl
last_only (l ∷ ls) =
    let k = length (l ∷ ls) - 1 in
    let h : k < length (l ∷ ls) = omega arith in
    let y : length (l ∷ ls) ≤ suc k = omega arith in
    let z : drop (suc k) (l ∷ ls) ≡ [] = drop_of_length-le (l ∷ ls) y in
    ap joined (drop-cons (l ∷ ls) k [] h ∙ ap {B = List (List ℕ)} (λ r. last_of (l ∷ ls) ∷ r) z) ∙ append-nil (last_of (l ∷ ls))

-- what stands from the last line's start on is the last line
pub last_line : (s : List ℕ) → drop (start_of (length (lines_of s) - 1) (lines_of s)) s ≡ last_of (lines_of s)
last_line s = ap (drop (start_of (length (lines_of s) - 1) (lines_of s))) (sym (joined_lines s)) ∙ joined_drop (length (lines_of s) - 1) (lines_of s) ∙ last_only (lines_of s)

-- ---- the end of an input: the lines passed are n, and end at a place

abbrev pub go_on : ℕ → Tail → ℕ → ℕ → List (List ℕ) → Tail
go_on c t at n [] = t
go_on c t at n (l ∷ ls) = go_on c (tail_with t at (at + length l) (n + 1) (opens c l)) (at + length l) (n + 1) ls

run_all_lem : (c : ℕ) (ls : List (List ℕ)) → all_open c ls ≡ true → before_run c ls ≡ 0
unfolding before_run
run_all_lem c [] e = refl
run_all_lem c (l ∷ ls) e = rw e

abbrev last_from : ℕ → ℕ → List (List ℕ) → ℕ
last_from z at [] = z
last_from z at (l ∷ ls) = at + start_of (length ls) (l ∷ ls)

last_next : (at : ℕ) (l : List ℕ) (ls : List (List ℕ)) → last_from at (at + length l) ls ≡ at + start_of (length ls) (l ∷ ls)
unfolding joined
last_next at l [] = omega arith
last_next at l (m ∷ ls) = omega (arith, start_suc (length ls) l (m ∷ ls))

-- what the lines left say of the whole, x and y being where the run starts and what stands before it so far
abbrev whole_of : ℕ → ℕ → ℕ → ℕ → ℕ → ℕ → List (List ℕ) → Tail
whole_of c n z x y at ls = tail (n + length ls) (last_from z at ls) (pick (all_open c ls) x (at + start_of (before_run c ls) ls)) (pick (all_open c ls) y (n + before_run c ls))

same_tail : {a b d e a' b' d' e' : ℕ} → a ≡ a' → b ≡ b' → d ≡ d' → e ≡ e' → tail a b d e ≡ tail a' b' d' e'
same_tail p q r t = cc

pick_true : {A : Type 0} (t : Bool) (a b : A) → t ≡ true → pick t a b ≡ a
pick_true t a b e = rw e

pick_false : {A : Type 0} (t : Bool) (a b : A) → t ≡ false → pick t a b ≡ b
pick_false t a b e = rw e

module _ (c n at : ℕ) (l : List ℕ) (ls : List (List ℕ)) where
  broken : all_open c (l ∷ ls) ≡ false → before_run c (l ∷ ls) ≡ before_run c ls + 1
  unfolding before_run
  broken q = pick_false (all_open c (l ∷ ls)) 0 (before_run c ls + 1) q

  broken_start : all_open c (l ∷ ls) ≡ false → start_of (before_run c (l ∷ ls)) (l ∷ ls) ≡ length l + start_of (before_run c ls) ls
  broken_start q = ap (λ (k : ℕ). start_of k (l ∷ ls)) (broken q ∙ add-one (before_run c ls)) ∙ start_suc (before_run c ls) l ls

  none_before : all_open c ls ≡ true → start_of (before_run c ls) ls ≡ 0
  unfolding joined
  none_before e = ap (λ (k : ℕ). start_of k ls) (run_all_lem c ls e)

  start_next : (a o : Bool) (x : ℕ) → all_open c ls ≡ a → opens c l ≡ o
      → pick (all_open c ls) (pick o x (at + length l)) (at + length l + start_of (before_run c ls) ls) ≡ pick (all_open c (l ∷ ls)) x (at + start_of (before_run c (l ∷ ls)) (l ∷ ls))
  unfolding all_open
  start_next true true x e f = rw (e, f)
  start_next false true x e f =
      let q : all_open c (l ∷ ls) ≡ false = rw (f, e) in
      let g : at + length l + start_of (before_run c ls) ls ≡ at + start_of (before_run c (l ∷ ls)) (l ∷ ls) = omega (arith, broken_start q) in
      pick_false (all_open c ls) _ _ e ∙ g ∙ sym (pick_false (all_open c (l ∷ ls)) _ _ q)
  start_next true false x e f =
      let q : all_open c (l ∷ ls) ≡ false = rw f in
      let g : at + length l ≡ at + start_of (before_run c (l ∷ ls)) (l ∷ ls) = omega (arith, broken_start q, none_before e) in
      pick_true (all_open c ls) _ _ e ∙ g ∙ sym (pick_false (all_open c (l ∷ ls)) _ _ q)
  start_next false false x e f =
      let q : all_open c (l ∷ ls) ≡ false = rw f in
      let g : at + length l + start_of (before_run c ls) ls ≡ at + start_of (before_run c (l ∷ ls)) (l ∷ ls) = omega (arith, broken_start q) in
      pick_false (all_open c ls) _ _ e ∙ g ∙ sym (pick_false (all_open c (l ∷ ls)) _ _ q)

  before_next : (a o : Bool) (y : ℕ) → all_open c ls ≡ a → opens c l ≡ o
      → pick (all_open c ls) (pick o y (n + 1)) (n + 1 + before_run c ls) ≡ pick (all_open c (l ∷ ls)) y (n + before_run c (l ∷ ls))
  unfolding all_open
  before_next true true y e f = rw (e, f)
  before_next false true y e f =
      let q : all_open c (l ∷ ls) ≡ false = rw (f, e) in
      let g : n + 1 + before_run c ls ≡ n + before_run c (l ∷ ls) = omega (arith, broken q) in
      pick_false (all_open c ls) _ _ e ∙ g ∙ sym (pick_false (all_open c (l ∷ ls)) _ _ q)
  before_next true false y e f =
      let q : all_open c (l ∷ ls) ≡ false = rw f in
      let g : n + 1 ≡ n + before_run c (l ∷ ls) = omega (arith, broken q, run_all_lem c ls e) in
      pick_true (all_open c ls) _ _ e ∙ g ∙ sym (pick_false (all_open c (l ∷ ls)) _ _ q)
  before_next false false y e f =
      let q : all_open c (l ∷ ls) ≡ false = rw f in
      let g : n + 1 + before_run c ls ≡ n + before_run c (l ∷ ls) = omega (arith, broken q) in
      pick_false (all_open c ls) _ _ e ∙ g ∙ sym (pick_false (all_open c (l ∷ ls)) _ _ q)

  whole_next : (z x y : ℕ) → whole_of c (n + 1) at (pick (opens c l) x (at + length l)) (pick (opens c l) y (n + 1)) (at + length l) ls ≡ whole_of c n z x y at (l ∷ ls)
  whole_next z x y =
      same_tail (omega arith) (last_next at l ls) (start_next (all_open c ls) (opens c l) x refl refl) (before_next (all_open c ls) (opens c l) y refl refl)

with_by : (o : Bool) (t : Tail) (at next n : ℕ) → tail_with t at next n o ≡ tail n at (pick o t.start next) (pick o t.before n)
unfolding tail_with
with_by true t at next n = refl
with_by false t at next n = refl

go_whole : (c : ℕ) (ls : List (List ℕ)) (n z x y at : ℕ) → go_on c (tail n z x y) at n ls ≡ whole_of c n z x y at ls
unfolding all_open
go_whole c [] n z x y at = same_tail (omega arith) refl refl refl
go_whole c (l ∷ ls) n z x y at =
    ap (λ (t : Tail). go_on c t (at + length l) (n + 1) ls) (with_by (opens c l) (tail n z x y) at (at + length l) (n + 1))
    ∙ go_whole c ls (n + 1) at (pick (opens c l) x (at + length l)) (pick (opens c l) y (n + 1)) (at + length l)
    ∙ whole_next c n at l ls z x y

last_zero : (ls : List (List ℕ)) → last_from 0 0 ls ≡ start_of (length ls - 1) ls
unfolding joined
last_zero [] = refl
last_zero (l ∷ ls) = let p : length (l ∷ ls) - 1 ≡ length ls = omega arith in rw p (omega arith)

start_zero : (a : Bool) (c : ℕ) (ls : List (List ℕ)) → all_open c ls ≡ a → pick (all_open c ls) 0 (0 + start_of (before_run c ls) ls) ≡ start_of (before_run c ls) ls
start_zero true c ls e = pick_true (all_open c ls) _ _ e ∙ sym (none_before c 0 0 [] ls e)
start_zero false c ls e = pick_false (all_open c ls) _ _ e ∙ omega arith

before_zero : (a : Bool) (c : ℕ) (ls : List (List ℕ)) → all_open c ls ≡ a → pick (all_open c ls) 0 (0 + before_run c ls) ≡ before_run c ls
before_zero true c ls e = pick_true (all_open c ls) _ _ e ∙ sym (run_all_lem c ls e)
before_zero false c ls e = pick_false (all_open c ls) _ _ e ∙ omega arith

-- tail_of: at the start, one line more, at the end
pub go_start : (c : ℕ) (s : List ℕ) → tail_of c s ≡ go_on c (tail 0 0 0 0) 0 0 (lines_of s)
unfolding tail_of
go_start c s =
    let ls = lines_of s in
    sym (go_whole c ls 0 0 0 0 0 ∙ same_tail (omega arith) (last_zero ls) (start_zero (all_open c ls) c ls refl) (before_zero (all_open c ls) c ls refl))

go_line : (c : ℕ) (t : Tail) (at n : ℕ) (l : List ℕ) (ls : List (List ℕ)) (w b : ℕ) → length l ≡ w → get_or l 0 0 ≡ b
    → go_on c t at n (l ∷ ls) ≡ go_on c (tail_with t at (at + w) (n + 1) (eqb b c)) (at + w) (n + 1) ls
go_line c t at n l ls w b e f = rw (← e, ← f)

pub go_more : (c : ℕ) (s : List ℕ) (t : Tail) (at n : ℕ) → at < length s
    → go_on c t at n (lines_of (drop at s))
    ≡ go_on c (tail_with t at (at + width_of (drop at s)) (n + 1) (eqb (get_or s at 0) c)) (at + width_of (drop at s)) (n + 1) (lines_of (drop (at + width_of (drop at s)) s))
go_more c s t at n h =
    let r = drop at s in
    let w = width_of r in
    let some : 0 < length r = omega (arith, length-drop at s) in
    let e : length (take w r) ≡ w = length-take-le w r (width_le r) in
    let f : get_or (take w r) 0 0 ≡ get_or s at 0 = get_or-take w r 0 0 (width_some r some) ∙ get_or-drop at s 0 0 ∙ ap (λ (k : ℕ). get_or s k 0) (omega arith) in
    ap (go_on c t at n) (lines_cons r some) ∙ go_line c t at n (take w r) (lines_of (drop w r)) w (get_or s at 0) e f
    ∙ ap (λ (m : List ℕ). go_on c (tail_with t at (at + w) (n + 1) (eqb (get_or s at 0) c)) (at + w) (n + 1) (lines_of m)) (drop-drop w at s)

pub go_end : (c : ℕ) (s : List ℕ) (t : Tail) (at n : ℕ) → length s ≤ at → go_on c t at n (lines_of (drop at s)) ≡ t
unfolding lines_of
go_end c s t at n h = rw (drop_of_length-le s h)

-- ---- what a `?` saw
pub line_err : (r : Result code.Code BadLine) → IsErr r → line_read r ≡ C.Bad
line_err (Ok c) h = absurd (let z : false ≡ true = h in cc)
line_err (Err e) h = refl

pub code_err : (r : Result (Option code.Code) BadLine) → IsErr r → code_read r ≡ C.Bad
code_err (Ok c) h = absurd (let z : false ≡ true = h in cc)
code_err (Err e) h = refl

-- ---- R lines: the first of a rest of them, one line more, the first bad one

abbrev pub next_in : Code → ℕ → ℕ
next_in (C.Next v n) w = n
next_in C.End w = w
next_in C.Bad w = w

code_by_lem : (f : Field) (next : ℕ) → next_in (code_by f next) next ≡ next
code_by_lem (F.More v n) next = refl
code_by_lem (F.Last v) next = refl
code_by_lem F.Bad next = refl

in_by : (t : Bool) (f : Field) (next : ℕ) → next_in (pick t (code_by f next) C.Bad) next ≡ next
in_by true f next = code_by_lem f next
in_by false f next = refl

code_in_lem : (line : List ℕ) (next : ℕ) → next_in (code_in line next) next ≡ next
unfolding code_in
code_in_lem line next = in_by (opens_with line 82) (field_of (drop 2 line) 65535) next

cut_next : (k : Option ℕ) (s : List ℕ) → next_in (code_cut k s) (width_by k s) ≡ width_by k s
cut_next (Some n) s = code_in_lem (take n s) (n + 1)
cut_next None s = refl

next_by : (t : Bool) (s : List ℕ) → next_in (pick t C.End (code_cut (cut_line s) s)) (width_of s) ≡ width_of s
unfolding width_of
next_by true s = refl
next_by false s = cut_next (cut_line s) s

-- the next line starts where the first one ends
pub next_width : (s : List ℕ) → next_in (next_code s) (width_of s) ≡ width_of s
unfolding next_code
next_width s = next_by (eqb (length s) 0) s

-- a line more, inside the input
pub record Moved (s : List ℕ) (at n : ℕ) : Type 0 where
  pub is : n ≡ width_of (drop at s)
  pub some : 0 < n
  pub within : at + n ≤ length s

-- what is left where no byte is
none_left : (s : List ℕ) (at : ℕ) → length s ≤ at → next_code (drop at s) ≡ C.End
unfolding next_code
none_left s at h = rw (drop_of_length-le s h)

inside : (s : List ℕ) (at v n : ℕ) → next_code (drop at s) ≡ C.Next v n → at < length s
inside s at v n e = by (ltb at (length s)) refl where
  by : (t : Bool) → ltb at (length s) ≡ t → at < length s
  by true q = ltb-true _ _ q
  by false q = absurd (let h = none_left s at (ltb-false _ _ q) in let z : ◌≡◌ {A = ℕ} 0 1 = cc in omega arith)

pub next_moves : (s r : List ℕ) (at v n : ℕ) → r ≡ drop at s → next_code r ≡ C.Next v n → Moved s at n
next_moves s r at v n d e =
    let h : at < length s = inside s at v n (rw d at e) in
    let q : n ≡ width_of r = rw e at (next_width r) in
    let l : length r ≡ length s - at = ap length d ∙ length-drop at s in
    let k : 0 < width_of r = width_some r (omega arith) in
    record { is = q ∙ ap width_of d; some = omega arith; within = omega (arith, width_le r) }

take_by_lem : (t : Bool) (p : ℕ → Bool) (k b : ℕ) (s : List ℕ) → p b ≡ t → span p (b ∷ s) < suc k → (span p s < k → span p (take k s) ≡ span p s)
    → span p (b ∷ take k s) ≡ span p (b ∷ s)
unfolding span
take_by_lem true p k b s e h f =
    let q : span p (b ∷ s) ≡ span p s + 1 = rw e in
    let g : span p (take k s) ≡ span p s = f (omega arith) in
    rw (e, g)
take_by_lem false p k b s e h f = rw e

pub span_take : (p : ℕ → Bool) (k : ℕ) (s : List ℕ) → span p s < k → span p (take k s) ≡ span p s
unfolding span
span_take p zero s h = absurd (omega arith)
span_take p (suc k) [] h = refl
span_take p (suc k) (b ∷ s) h = take_by_lem (p b) p k b s refl h (span_take p k s)

code_of : (s : List ℕ) (n : ℕ) → span no_lf s ≡ n → n < length s → next_code s ≡ code_in (take n s) (n + 1)
unfolding next_code cut_line
code_of s n e h = let z : length s ≡ 0 → ⊥ = λ q. omega arith in rw (ne_eqb (length s) 0 z, e, lt-ltb n (length s) h)

first_by_lem : (t : Bool) (s : List ℕ) → ltb (span no_lf s) (length s) ≡ t → next_code (take (width_of s) s) ≡ next_code s
first_by_lem true s e =
    let n = span no_lf s in
    let h : n < length s = ltb-true n (length s) e in
    let w : width_of s ≡ n + 1 = omega (arith, width_min s) in
    let l : length (take (n + 1) s) ≡ n + 1 = length-take-le (n + 1) s (omega arith) in
    let p : span no_lf (take (n + 1) s) ≡ n = span_take no_lf (n + 1) s (omega arith) in
    let q : take n (take (n + 1) s) ≡ take n s = take-take n (n + 1) s (omega arith) in
    ap (λ (k : ℕ). next_code (take k s)) w ∙ code_of (take (n + 1) s) n p (omega arith) ∙ ap (λ (r : List ℕ). code_in r (n + 1)) q ∙ sym (code_of s n refl h)
first_by_lem false s e =
    let h : length s ≤ span no_lf s = ltb-false _ _ e in
    let w : width_of s ≡ length s = omega (arith, width_min s) in
    ap (λ (k : ℕ). next_code (take k s)) w ∙ ap next_code (take-length s)

-- it is read from the first line alone
pub first_line : (s : List ℕ) → next_code (take (width_of s) s) ≡ next_code s
first_line s = first_by_lem (ltb (span no_lf s) (length s)) s refl

judge_more_lem : (s : List ℕ) (at i : ℕ) → at < length s
    → judge_from i (lines_of (drop at s)) ≡ judge_by (next_code (drop at s)) i (judge_from (i + 1) (lines_of (drop (at + width_of (drop at s)) s)))
unfolding judge_from
judge_more_lem s at i h =
    let r = drop at s in
    let some : 0 < length r = omega (arith, length-drop at s) in
    ap (judge_from i) (lines_cons r some) ∙ rw (first_line r, drop-drop (width_of r) at s)

pub judge_turn : (s : List ℕ) (at i : ℕ)
    → judge_from i (lines_of (drop at s)) ≡ judge_by (next_code (drop at s)) i (judge_from (i + 1) (lines_of (drop (at + width_of (drop at s)) s)))
unfolding lines_of judge_from
judge_turn s at i = by (ltb at (length s)) refl where
  by : (t : Bool) → ltb at (length s) ≡ t
      → judge_from i (lines_of (drop at s)) ≡ judge_by (next_code (drop at s)) i (judge_from (i + 1) (lines_of (drop (at + width_of (drop at s)) s)))
  by true q = judge_more_lem s at i (ltb-true _ _ q)
  by false q = let h : length s ≤ at = ltb-false _ _ q in rw (none_left s at h, drop_of_length-le s h)

abbrev bad_in : Option ℕ → ℕ
bad_in None = 0
bad_in (Some i) = i

bad_by : (k : Code) (j : Option ℕ) (i m : ℕ) → bad_in j ≤ m → i ≤ m → bad_in (judge_by k i j) ≤ m
bad_by (C.Next v n) j i m h g = h
bad_by C.End j i m h g = omega arith
bad_by C.Bad j i m h g = g

bad_le : (i : ℕ) (ls : List (List ℕ)) → bad_in (judge_from i ls) ≤ i + length ls
unfolding judge_from
bad_le i [] = omega arith
bad_le i (l ∷ ls) =
    let h : bad_in (judge_from (i + 1) ls) ≤ i + 1 + length ls = bad_le (i + 1) ls in
    let g : bad_in (judge_from (i + 1) ls) ≤ i + suc (length ls) = omega arith in
    bad_by (next_code l) (judge_from (i + 1) ls) i (i + suc (length ls)) g (omega arith)

pub bad_small : (s : List ℕ) (i : ℕ) → judged s ≡ Some i → length s ≤ 65536 → i ≤ 65536
unfolding judged
bad_small s i e h = let b : i ≤ 0 + length (lines_of s) = rw e at (bad_le 0 (lines_of s)) in omega (arith, lines_few s)

-- ---- the whole input

pub before_by : (t : Bool) (m n : ℕ) → m ≤ n → pick t 0 (m + 1) ≤ suc n
before_by true m n h = omega arith
before_by false m n h = omega arith

before_le : (c : ℕ) (ls : List (List ℕ)) → before_run c ls ≤ length ls
unfolding before_run
before_le c [] = omega arith
before_le c (l ∷ ls) = before_by (all_open c (l ∷ ls)) (before_run c ls) (length ls) (before_le c ls)

module _ (s : List ℕ) (t : Tail) (h : length s ≤ 65536) where
  pub lines_small : (c : ℕ) → t ≡ tail_of c s → t.lines ≤ 65536
  unfolding tail_of
  lines_small c e = rw e (omega (arith, lines_few s))

  pub before_small : (c : ℕ) → t ≡ tail_of c s → t.before ≤ 65536
  unfolding tail_of
  before_small c e = rw e (omega (arith, before_le c (lines_of s), lines_few s))

  pub codes_end : t ≡ tail_of 82 s → last_codes s ≡ codes_by (judged (drop t.start s)) t.start t.before
  unfolding tail_of last_codes judged
  codes_end e = rw (e, le-ltb 65536 (length s) h, lines_from (before_run 82 (lines_of s)) s)

  last_byte : (c : ℕ) → t ≡ tail_of c s → get_or s t.last 0 ≡ get_or (last_of (lines_of s)) 0 0
  unfolding tail_of
  last_byte c e = rw (e, ← (last_line s), get_or-drop) (ap (λ (k : ℕ). get_or s k 0) (omega arith))

  pub goal_none : t ≡ tail_of 71 s → (get_or s t.last 0 ≡ 71 → ⊥) → last_goal s ≡ Err (A.Bad (t.lines + 1))
  unfolding tail_of last_goal
  goal_none e f =
      let g : eqb (get_or (last_of (lines_of s)) 0 0) 71 ≡ false = ne_eqb _ _ (λ p. f (last_byte 71 e ∙ p)) in
      rw (e, le-ltb 65536 (length s) h, g)

  pub goal_some : t ≡ tail_of 71 s → get_or s t.last 0 ≡ 71 → last_goal s ≡ goal_by (goal_line (drop t.last s)) t.last t.lines
  unfolding tail_of last_goal
  goal_some e f =
      let g : eqb (get_or (last_of (lines_of s)) 0 0) 71 ≡ true = eq-eqb _ _ (sym (last_byte 71 e) ∙ f) in
      rw (e, le-ltb 65536 (length s) h, g, last_line s)
