-- What the definitions mean. A line has no LF before its end; the run at the end of an input is the longest; the R line
-- named is the first bad one; a printed decimal has no needless zero and is read back; what is written stands in the buffer.
use Prim.Native.Nat.{ℕ, zero, suc, ◌+◌, ◌*◌, ◌-◌, ◌/◌, ◌%◌, ◌<◌, ◌≤◌, ◌^◌}
use mathlib.Core.Bool.{Bool, true, false}
use mathlib.Core.List.{List, [], ◌∷◌, ◌++◌, append_assoc}
use mathlib.Core.Path.{◌≡◌, refl, sym, ap, ◌∙◌}
use native.Mathlib.Numerals.{add-one}
use native.Mathlib.Nat.{pow-suc}
use native.Mathlib.Omega.{arith}
use lib.ListN.{length, get_or, take, drop, set, length-append, length-set, get_or-append}
use lib.Seq.{drop-append_seam, take-append_seam, sets, sets-eq}
use lib.Dec.{ltb, eqb}
use borrow.Author.Tests.{ltb-true, ltb-false, lt-ltb, le-ltb, eqb-true, ne_eqb, le-leb}
use Rattle.lines.specs.Base.{pick}
use Rattle.lines.specs.Line.{span, no_lf, cut_line, lines_of, joined}
use Rattle.lines.specs.Field.{Bad, is_digit, well_spelt, number_from, number_of, end_by, field_of}
use Rattle.lines.specs.Tail.{all_open, before_run, start_of}
use Rattle.lines.specs.Codes as C
use Rattle.lines.specs.Codes.{Code, next_code, judge_by, judge_from}
use Rattle.lines.specs.Put.{written, put_byte, put_all, digit_of, decimal_in, decimal}
use Rattle.std.specs.Prelude.{Some, None}
use Rattle.lines.proofs.Lines.{joined_lines, before_by}

-- ---- bytes that pass a test

passed_by : (t : Bool) (p : ℕ → Bool) (b : ℕ) (xs r : List ℕ) → p b ≡ t → span p (b ∷ xs) ≡ suc (length xs)
    → (span p xs ≡ length xs → span p (xs ++ r) ≡ length xs + span p r) → span p (b ∷ (xs ++ r)) ≡ suc (length xs) + span p r
unfolding span
passed_by true p b xs r e h f =
    let q : span p (b ∷ xs) ≡ span p xs + 1 = rw e in
    let g : span p (xs ++ r) ≡ length xs + span p r = f (omega arith) in
    rw (e, g) (omega arith)
passed_by false p b xs r e h f = absurd (let q : span p (b ∷ xs) ≡ 0 = rw e in omega arith)

-- a list of which all bytes pass, and what stands behind it
passed : (p : ℕ → Bool) (xs r : List ℕ) → span p xs ≡ length xs → span p (xs ++ r) ≡ length xs + span p r
unfolding span
passed p [] r h = omega arith
passed p (b ∷ xs) r h = passed_by (p b) p b xs r refl h (passed p xs r)

-- ---- a line

-- "LF after each line": no byte of a line is LF, and LF stands behind it
pub record IsLine (s : List ℕ) (n : ℕ) : Type 0 where
  pub bytes : span no_lf (take n s) ≡ n
  pub end : get_or s n 0 ≡ 10

line_cons : (b n : ℕ) (s : List ℕ) → eqb b 10 ≡ false → IsLine s n → IsLine (b ∷ s) (suc n)
unfolding span no_lf
line_cons b n s e l = record { bytes = rw (e, l.bytes) (omega arith); end = l.end }

line_by_lem : (t : Bool) (b : ℕ) (s : List ℕ) → eqb b 10 ≡ t → span no_lf (b ∷ s) < suc (length s) → (span no_lf s < length s → IsLine s (span no_lf s)) → IsLine (b ∷ s) (span no_lf (b ∷ s))
unfolding span no_lf
line_by_lem true b s e h f = let q : span no_lf (b ∷ s) ≡ 0 = rw e in rw q (record { bytes = refl; end = eqb-true b 10 e })
line_by_lem false b s e h f =
    let q : span no_lf (b ∷ s) ≡ suc (span no_lf s) = rw e (omega arith) in
    rw q (line_cons b (span no_lf s) s e (f (omega arith)))

line_is : (s : List ℕ) → span no_lf s < length s → IsLine s (span no_lf s)
line_is [] h = absurd (omega arith)
line_is (b ∷ s) h = line_by_lem (eqb b 10) b s refl h (line_is s)

cut_by_lem : (t : Bool) (s : List ℕ) (n : ℕ) → ltb (span no_lf s) (length s) ≡ t → pick t (Some (span no_lf s)) None ≡ Some n → IsLine s n
cut_by_lem true s n e h = let q : span no_lf s ≡ n = cc in rw q at (line_is s (ltb-true _ _ e))
cut_by_lem false s n e h = absurd (let z : ◌≡◌ {A = ℕ} 0 1 = cc in omega arith)

pub cut_is_line : (s : List ℕ) (n : ℕ) → cut_line s ≡ Some n → IsLine s n
unfolding cut_line
cut_is_line s n h = cut_by_lem (ltb (span no_lf s) (length s)) s n refl h

-- ---- the run at the end of an input

opens_by : (t : Bool) (c n : ℕ) (l : List ℕ) (ls : List (List ℕ)) → all_open c (l ∷ ls) ≡ t → all_open c (drop n ls) ≡ true → all_open c (drop (pick t 0 (n + 1)) (l ∷ ls)) ≡ true
opens_by true c n l ls e h = e
opens_by false c n l ls e h = rw add-one h

-- all lines of the run open with the letter
pub run_opens : (c : ℕ) (ls : List (List ℕ)) → all_open c (drop (before_run c ls) ls) ≡ true
unfolding all_open before_run
run_opens c [] = refl
run_opens c (l ∷ ls) = opens_by (all_open c (l ∷ ls)) c (before_run c ls) l ls refl (run_opens c ls)

-- and no longer end of the input has that
pub run_longest : (c k : ℕ) (ls : List (List ℕ)) → all_open c (drop k ls) ≡ true → before_run c ls ≤ k
unfolding before_run
run_longest c k [] h = omega arith
run_longest c zero (l ∷ ls) h = rw h (omega arith)
run_longest c (suc k) (l ∷ ls) h = before_by (all_open c (l ∷ ls)) (before_run c ls) k (run_longest c k ls h)

joined_take : (k : ℕ) (ls : List (List ℕ)) → joined ls ≡ joined (take k ls) ++ joined (drop k ls)
unfolding joined
joined_take zero ls = refl
joined_take (suc k) [] = refl
joined_take (suc k) (l ∷ ls) = rw (joined_take k ls, ← (append_assoc l (joined (take k ls)) (joined (drop k ls))))

-- what is left before line k of an input is the lines before it
pub model_before : (k : ℕ) (s : List ℕ) → take (start_of k (lines_of s)) s ≡ joined (take k (lines_of s))
model_before k s =
    let ls = lines_of s in
    ap (take (start_of k ls)) (sym (joined_lines s) ∙ joined_take k ls) ∙ take-append_seam (joined (take k ls)) (joined (drop k ls))

-- ---- the first bad one

pub record FirstBad (i k : ℕ) (ls : List (List ℕ)) : Type 0 where
  pub far : i ≤ k
  pub bad : next_code (get_or ls (k - i) []) ≡ C.Bad
  pub first : (j : ℕ) → i + j < k → next_code (get_or ls j []) ≡ C.Bad → ⊥

bad_later : (c : Code) (i k : ℕ) (l : List ℕ) (ls : List (List ℕ)) → next_code l ≡ c → (c ≡ C.Bad → ⊥) → FirstBad (i + 1) k ls → FirstBad i k (l ∷ ls)
bad_later c i k l ls e f b = record { far = omega arith; bad = at; first = before } where
  at : next_code (get_or (l ∷ ls) (k - i) []) ≡ C.Bad
  at = let q : k - i ≡ suc (k - (i + 1)) = omega (arith, b.far) in rw q b.bad

  before : (j : ℕ) → i + j < k → next_code (get_or (l ∷ ls) j []) ≡ C.Bad → ⊥
  before zero h p = f (sym e ∙ p)
  before (suc j) h p = b.first j (omega arith) p

bad_by : (c : Code) (i k : ℕ) (l : List ℕ) (ls : List (List ℕ)) → next_code l ≡ c → judge_by c i (judge_from (i + 1) ls) ≡ Some k
    → (judge_from (i + 1) ls ≡ Some k → FirstBad (i + 1) k ls) → FirstBad i k (l ∷ ls)
bad_by (C.Next v n) i k l ls e h f = bad_later (C.Next v n) i k l ls e (λ p. let z : ◌≡◌ {A = ℕ} 0 1 = cc in omega arith) (f h)
bad_by C.End i k l ls e h f = absurd (let z : ◌≡◌ {A = ℕ} 0 1 = cc in omega arith)
bad_by C.Bad i k l ls e h f =
    let q : i ≡ k = cc in
    let z : k - i ≡ 0 = omega arith in
    record { far = omega arith; bad = rw z e; first = λ j g. absurd (omega arith) }

-- the line named is bad, and none before it is
pub first_bad : (i k : ℕ) (ls : List (List ℕ)) → judge_from i ls ≡ Some k → FirstBad i k ls
unfolding judge_from
first_bad i k [] h = absurd (let z : ◌≡◌ {A = ℕ} 0 1 = cc in omega arith)
first_bad i k (l ∷ ls) h = bad_by (next_code l) i k l ls refl h (first_bad (i + 1) k ls)

-- ---- printed decimals

number_last : (v : ℕ) (xs : List ℕ) (d : ℕ) → number_from v (xs ++ (d ∷ [])) ≡ number_from v xs * 10 + (d - 48)
unfolding number_from
number_last v [] d = refl
number_last v (x ∷ xs) d = number_last (v * 10 + (x - 48)) xs d

-- the digits of n: all digits, n again, some, and no zero in front of a number above 0
pub record Spells (ds : List ℕ) (n : ℕ) : Type 0 where
  pub digits : span is_digit ds ≡ length ds
  pub number : number_from 0 ds ≡ n
  pub some : 0 < length ds
  pub front : 0 < n → get_or ds 0 0 ≡ 48 → ⊥
  pub zero_only : n ≡ 0 → length ds ≡ 1

digit_is : (n : ℕ) → span is_digit (digit_of n ∷ []) ≡ 1
unfolding span is_digit digit_of
digit_is n = rw (le-ltb (48 + n % 10) 48 (omega arith), le-leb (48 + n % 10) 57 (omega arith))

spells_one : (n : ℕ) → n < 10 → Spells (digit_of n ∷ []) n
unfolding number_from digit_of
spells_one n h = record { digits = digit_is n; number = omega arith; some = omega arith; front = λ p q. omega arith; zero_only = λ p. refl }

spells_more : (n : ℕ) (ds : List ℕ) → 10 ≤ n → Spells ds (n / 10) → Spells (ds ++ (digit_of n ∷ [])) n
unfolding digit_of
spells_more n ds h s =
    record {
      digits = passed is_digit ds (digit_of n ∷ []) s.digits ∙ ap (λ (k : ℕ). length ds + k) (digit_is n) ∙ sym (length-append ds (digit_of n ∷ []));
      number = rw (number_last 0 ds (digit_of n), s.number) (omega arith);
      some = rw (length-append ds (digit_of n ∷ [])) (omega arith);
      front = λ p q. s.front (omega arith) (sym (get_or-append ds (digit_of n ∷ []) 0 0 s.some) ∙ q);
      zero_only = λ p. absurd (omega arith);
    }

spells_by : (t : Bool) (k n : ℕ) → ltb n 10 ≡ t → n < 10 ^ suc (suc k) → (n / 10 < 10 ^ suc k → Spells (decimal_in (suc k) (n / 10)) (n / 10))
    → Spells (pick t (digit_of n ∷ []) (decimal_in (suc k) (n / 10) ++ (digit_of n ∷ []))) n
spells_by true k n e h f = spells_one n (ltb-true n 10 e)
spells_by false k n e h f =
    let p : 10 ^ suc (suc k) ≡ 10 ^ suc k * 10 = pow-suc 10 (suc k) in
    let g : n / 10 < 10 ^ suc k = omega arith in
    spells_more n (decimal_in (suc k) (n / 10)) (ltb-false n 10 e) (f g)

spells_in : (k n : ℕ) → n < 10 ^ suc k → Spells (decimal_in (suc k) n) n
unfolding decimal_in
spells_in zero n h = rw (lt-ltb n 10 h) (spells_one n h)
spells_in (suc k) n h = spells_by (ltb n 10) k n refl h (spells_in k (n / 10))

pub spells : (n : ℕ) → n < 4294967296 → Spells (decimal n) n
unfolding decimal
spells n h = let g : n < 10000000000 = omega arith in spells_in 9 n g

spelt_by : (ds : List ℕ) (n : ℕ) → Spells ds n → well_spelt ds ≡ true
unfolding well_spelt
spelt_by [] n s = absurd (let h : 0 < length {A = ℕ} [] = s.some in omega arith)
spelt_by (d ∷ []) n s = refl
spelt_by (d ∷ e ∷ ds) zero s = absurd (let h : length (d ∷ e ∷ ds) ≡ 1 = s.zero_only refl in omega arith)
spelt_by (d ∷ e ∷ ds) (suc n) s = rw (ne_eqb d 48 (s.front (omega arith)))

-- "no needless zero"
pub printed_well : (n : ℕ) → n < 4294967296 → well_spelt (decimal n) ≡ true
printed_well n h = spelt_by (decimal n) n (spells n h)

-- the digits of a field that a printed decimal opens, whatever stands behind it but a digit
module _ (n most : ℕ) (r : List ℕ) (h : n < 4294967296) (stops : span is_digit r ≡ 0) where
  printed_span : span is_digit (decimal n ++ r) ≡ length (decimal n)
  printed_span = let s : span is_digit (decimal n ++ r) ≡ length (decimal n) + span is_digit r = passed is_digit (decimal n) r (spells n h).digits in omega arith

  pub printed_read : n ≤ most → field_of (decimal n ++ r) most ≡ end_by n (length (decimal n)) r
  unfolding field_of number_of
  printed_read k =
      rw (printed_span, take-append_seam (decimal n) r, drop-append_seam (decimal n) r, printed_well n h, (spells n h).number, le-ltb most n k)

  pub printed_over : most < n → field_of (decimal n ++ r) most ≡ Bad
  unfolding field_of number_of
  printed_over k = rw (printed_span, take-append_seam (decimal n) r, drop-append_seam (decimal n) r, printed_well n h, (spells n h).number, lt-ltb most n k)

-- at most ten digits
short_by : (t : Bool) (k n : ℕ) → length (decimal_in k (n / 10)) ≤ k → length (pick t (digit_of n ∷ []) (decimal_in k (n / 10) ++ (digit_of n ∷ []))) ≤ suc k
short_by true k n h = omega arith
short_by false k n h = rw (length-append (decimal_in k (n / 10)) (digit_of n ∷ [])) (omega arith)

pub short_in : (k n : ℕ) → length (decimal_in k n) ≤ k
unfolding decimal_in
short_in zero n = omega arith
short_in (suc k) n = short_by (ltb n 10) k n (short_in k (n / 10))

pub decimal_short : (n : ℕ) → length (decimal n) ≤ 10
unfolding decimal
decimal_short n = short_in 10 n

-- ---- what is written

-- they stand one behind the other, and the next place is behind them
pub put_sets : (bs : List ℕ) (at : ℕ) (l : List ℕ) → at + length bs ≤ length l → put_all bs (written at l) ≡ written (at + length bs) (sets l at bs)
unfolding put_all put_byte
put_sets [] at l h = let e : at + 0 ≡ at = omega arith in rw e
put_sets (b ∷ bs) at l h =
    let g : at + 1 + length bs ≤ length (set l at b) = rw (length-set l at b) (omega arith) in
    let e : at + 1 + length bs ≡ at + suc (length bs) = omega arith in
    let f : at < length l = omega arith in
    rw (lt-ltb at (length l) f, put_sets bs (at + 1) (set l at b) g, e, add-one at)

-- where there is room, the bytes stand from the place on, and all else stays
pub put_room : (bs : List ℕ) (at : ℕ) (l : List ℕ) → at + length bs ≤ length l
    → put_all bs (written at l) ≡ written (at + length bs) (take at l ++ bs ++ drop (at + length bs) l)
put_room bs at l h = put_sets bs at l h ∙ ap (written (at + length bs)) (sets-eq bs l at h)
