-- What is written to a buffer: byte by byte, part by part, and a decimal's digits.
use Prim.Native.Nat.{ℕ, zero, suc, ◌+◌, ◌*◌, ◌/◌, ◌<◌, ◌≤◌, ◌^◌}
use mathlib.Core.Bool.{Bool, true, false}
use mathlib.Core.List.{List, [], ◌∷◌, ◌++◌}
use mathlib.Core.Path.{◌≡◌, refl, ap, ◌∙◌}
use native.Mathlib.Numerals.{add-one}
use native.Mathlib.Nat.{pow-suc}
use native.Mathlib.Omega.{arith}
use lib.ListN.{length, get_or, drop, set, length-set, drop_of_length-le}
use lib.Seq.{drop-cons}
use lib.Dec.{ltb}
use borrow.Author.Tests.{lt-ltb, le-ltb}
use Rattle.lines.specs.Base.{pick}
use Rattle.lines.specs.Put.{Written, written, put_byte, put_all, digit_of, decimal_in, decimal}

pub put_one : (b : ℕ) (w : Written) → put_all (b ∷ []) w ≡ put_byte b w
unfolding put_all
put_one b w = refl

pub put_cons : (b : ℕ) (bs : List ℕ) (w : Written) → put_all (b ∷ bs) w ≡ put_all bs (put_byte b w)
unfolding put_all
put_cons b bs w = refl

pub put_then : (xs bs : List ℕ) (w : Written) → put_all (xs ++ bs) w ≡ put_all bs (put_all xs w)
unfolding put_all
put_then [] bs w = refl
put_then (x ∷ xs) bs w = put_then xs bs (put_byte x w)

pub put_more : (bs : List ℕ) (i : ℕ) (w : Written) → i < length bs → put_all (drop i bs) w ≡ put_all (drop (i + 1) bs) (put_byte (get_or bs i 0) w)
unfolding put_all
put_more bs i w h = rw (add-one, drop-cons bs i 0 h)

pub put_none : (bs : List ℕ) (i : ℕ) (w : Written) → length bs ≤ i → put_all (drop i bs) w ≡ w
unfolding put_all
put_none bs i w h = rw (drop_of_length-le bs h)

-- a buffer keeps its length
byte_by : (t : Bool) (b : ℕ) (w : Written) → length (pick t (written (w.next + 1) (set w.buf w.next b)) w).buf ≡ length w.buf
byte_by true b w = length-set w.buf w.next b
byte_by false b w = refl

pub byte_long : (b : ℕ) (w : Written) → length (put_byte b w).buf ≡ length w.buf
unfolding put_byte
byte_long b w = byte_by (ltb w.next (length w.buf)) b w

pub all_long : (bs : List ℕ) (w : Written) → length (put_all bs w).buf ≡ length w.buf
unfolding put_all
all_long [] w = refl
all_long (b ∷ bs) w = all_long bs (put_byte b w) ∙ byte_long b w

-- a decimal: its last digit, and the digits before it
pub decimal_small : (n : ℕ) → n < 10 → decimal n ≡ digit_of n ∷ []
unfolding decimal decimal_in
decimal_small n h = rw (lt-ltb n 10 h)

enough_by : (t : Bool) (k n : ℕ) → decimal_in (suc k) (n / 10) ≡ decimal_in (suc (suc k)) (n / 10)
    → pick t (digit_of n ∷ []) (decimal_in (suc k) (n / 10) ++ (digit_of n ∷ [])) ≡ pick t (digit_of n ∷ []) (decimal_in (suc (suc k)) (n / 10) ++ (digit_of n ∷ []))
enough_by true k n e = refl
enough_by false k n e = rw e

-- one step more than there are digits changes nothing
enough : (k n : ℕ) → n < 10 ^ suc k → decimal_in (suc k) n ≡ decimal_in (suc (suc k)) n
unfolding decimal_in
enough zero n h = rw (lt-ltb n 10 h)
enough (suc k) n h =
    let p : 10 ^ suc (suc k) ≡ 10 ^ suc k * 10 = pow-suc 10 (suc k) in
    let g : n / 10 < 10 ^ suc k = omega arith in
    enough_by (ltb n 10) k n (enough k (n / 10) g)

step_down : (n : ℕ) → 10 ≤ n → decimal_in 10 n ≡ decimal_in 9 (n / 10) ++ (digit_of n ∷ [])
unfolding decimal_in
step_down n h = rw (le-ltb n 10 h)

pub decimal_step : (n : ℕ) → 10 ≤ n → n < 4294967296 → decimal n ≡ decimal (n / 10) ++ (digit_of n ∷ [])
unfolding decimal
decimal_step n h k =
    let g : n / 10 < 1000000000 = omega arith in
    step_down n h ∙ ap {B = List ℕ} (λ l. l ++ (digit_of n ∷ [])) (enough 8 (n / 10) g)
