-- One line more of a text, and the end of it, as the loops write them; one code more that is read.
use Prim.Native.Nat.{ℕ, suc, ◌+◌, ◌*◌, ◌-◌, ◌<◌, ◌≤◌, min}
use mathlib.Core.Bool.{Bool, true, false}
use lib.Dec.{ltb, leb}
use mathlib.Core.List.{List, [], ◌∷◌}
use mathlib.Core.Path.{◌≡◌, refl, ap, ◌∙◌}
use native.Mathlib.Omega.{arith}
use lib.ListN.{length, get_or, drop, set, length-drop, drop_of_length-le}
use lib.Seq.{drop-drop}
use borrow.Author.Tests.{lt-ltb, le-ltb, ltb-true, ltb-false, leb-true, leb-false}
use Rattle.terms.specs.Base.{pick, held}
use Rattle.lines.specs.Base.{byte_at}
use Rattle.lines.specs.Line.{lines_of, width_of}
use Rattle.std.specs.Prelude.{Option, Some, None, Result, Ok, Err}
use Rattle.std.specs.Option.{option_flatten}
use Rattle.std.specs.Result.{result_ok}
use Rattle.lines.specs.declared.codes.Code as code
use Rattle.lines.specs.declared.codes.BadLine.{BadLine}
use Rattle.lines.specs.Codes as C
use Rattle.lines.specs.Codes.{code_read, next_code}
use Rattle.lines.specs.Put.{Written, blank_and, put_all}
use Rattle.lines.proofs.Puts.{put_then}
use Rattle.lines.proofs.Lines.{lines_cons, first_line}
use Rattle.pages.specs.ListPage.{sum_of}
use Rattle.pages.specs.ListText.{codes_text, schedule_line, schedules_text}
use Rattle.pages.specs.RunText.{answer_line, event_after, answers_text, codes_of, codes_put, code_then}

less_one : (n i : ℕ) → i < n → n - i ≡ suc (n - (i + 1))
less_one n i h = omega arith

less_all : (n i : ℕ) → n ≤ i → n - i ≡ 0
less_all n i h = omega arith

-- the codes of a schedule
module _ (n i : ℕ) (room : List ℕ) (from : ℕ) (w : Written) where
  pub codes_more : i < n → put_all (codes_text (n - i) room (from + (i + 1))) w
      ≡ put_all (codes_text (n - (i + 1)) room (from + (i + 1 + 1))) (put_all (blank_and (byte_at room (from + (i + 1)))) w)
  unfolding codes_text
  codes_more h = let q : from + (i + 1) + 1 ≡ from + (i + 1 + 1) = omega arith in rw (less_one n i h, put_then, q)

  pub codes_end : n ≤ i → put_all (codes_text (n - i) room (from + (i + 1))) w ≡ w
  unfolding codes_text put_all
  codes_end h = rw (less_all n i h)

-- the schedules of a room
module _ (n i : ℕ) (room : List ℕ) (w : Written) where
  pub schedules_more : i < n → put_all (schedules_text (n - i) room i) w
      ≡ put_all (schedules_text (n - (i + 1)) room (i + 1)) (put_all (schedule_line room (i * 25)) w)
  unfolding schedules_text
  schedules_more h = rw (less_one n i h, put_then)

  pub schedules_end : n ≤ i → put_all (schedules_text (n - i) room i) w ≡ w
  unfolding schedules_text put_all
  schedules_end h = rw (less_all n i h)

-- the codes of a run
module _ (n i e : ℕ) (codes ans l : List ℕ) (w : Written) where
  pub answers_more : i < n → put_all (answers_text (n - i) i e codes ans l) w
      ≡ put_all (answers_text (n - (i + 1)) (i + 1) (event_after e (get_or ans i 0)) codes ans l) (put_all (answer_line (get_or codes i 0) (get_or ans i 0) l e) w)
  unfolding answers_text
  answers_more h = rw (less_one n i h, put_then)

  pub answers_end : n ≤ i → put_all (answers_text (n - i) i e codes ans l) w ≡ w
  unfolding answers_text put_all
  answers_end h = rw (less_all n i h)

-- one R line more
module _ (s : List ℕ) (at : ℕ) where
  pub line_more : at < length s
      → codes_of (lines_of (drop at s)) ≡ code_then (next_code (drop at s)) (codes_of (lines_of (drop (at + width_of (drop at s)) s)))
  unfolding codes_of
  line_more h =
      let r = drop at s in
      let some : 0 < length r = omega (arith, length-drop at s) in
      ap codes_of (lines_cons r some) ∙ rw (first_line r, drop-drop (width_of r) at s)

  pub line_end : length s ≤ at → codes_of (lines_of (drop at s)) ≡ []
  unfolding lines_of codes_of
  line_end h = rw (drop_of_length-le s h)

  pub line_turn : codes_of (lines_of (drop at s)) ≡ code_then (next_code (drop at s)) (codes_of (lines_of (drop (at + width_of (drop at s)) s)))
  unfolding next_code
  line_turn = by (ltb at (length s)) refl where
    by : (t : Bool) → ltb at (length s) ≡ t → codes_of (lines_of (drop at s)) ≡ code_then (next_code (drop at s)) (codes_of (lines_of (drop (at + width_of (drop at s)) s)))
    by true e = line_more (ltb-true _ _ e)
    by false e = let h : length s ≤ at = ltb-false _ _ e in rw (line_end h, drop_of_length-le s h)

-- what a reader answered: a code, or none
pub read_some : (r : Result (Option code.Code) BadLine) (c : code.Code) → option_flatten (result_ok r) ≡ Some c → code_read r ≡ C.Next c.code c.next
read_some (Ok (Some x)) c e = let q : x ≡ c = cc in rw q
read_some (Ok None) c e = absurd (let z : ◌≡◌ {A = ℕ} 0 1 = cc in omega arith)
read_some (Err d) c e = absurd (let z : ◌≡◌ {A = ℕ} 0 1 = cc in omega arith)

pub read_none : (r : Result (Option code.Code) BadLine) (cs : List ℕ) → option_flatten (result_ok r) ≡ None → code_then (code_read r) cs ≡ []
read_none (Ok (Some x)) cs e = absurd (let z : ◌≡◌ {A = ℕ} 0 1 = cc in omega arith)
read_none (Ok None) cs e = refl
read_none (Err d) cs e = refl

-- one code more into the room; a full room takes none
module _ (n : ℕ) (room : List ℕ) where
  pub code_put : (c : ℕ) (cs : List ℕ) → n < length room → codes_put (c ∷ cs) n room ≡ codes_put cs (n + 1) (set room n c)
  unfolding codes_put
  code_put c cs h = rw (lt-ltb n (length room) h)

  pub code_none : codes_put [] n room ≡ held n room
  unfolding codes_put
  code_none = refl

  pub code_full : (cs : List ℕ) → length room ≤ n → codes_put cs n room ≡ held n room
  unfolding codes_put
  code_full [] h = refl
  code_full (c ∷ cs) h = rw (le-ltb n (length room) h)

-- std's word for a sum that stops at the end of its type
pub sum_capped : (m n : ℕ) → m ≤ 4294967295 → min (m + n) 4294967295 ≡ sum_of m n
unfolding sum_of
sum_capped m n h = by (leb n (4294967295 - m)) refl where
  by : (t : Bool) → leb n (4294967295 - m) ≡ t → min (m + n) 4294967295 ≡ pick t (m + n) 4294967295
  by true e = omega (arith, leb-true n (4294967295 - m) e)
  by false e = omega (arith, leb-false n (4294967295 - m) e)
