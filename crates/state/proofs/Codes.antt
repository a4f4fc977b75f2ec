-- The step codes in order: how many stand below a number, which code stands there, which comes after; and 1 is given
-- exactly to what is no code.
use Prim.Native.Nat.{ℕ, ◌+◌, ◌-◌, ◌<◌, ◌≤◌}
use mathlib.Core.Bool.{Bool, true, false}
use mathlib.Core.Logic.{◌↔◌}
use mathlib.Core.Path.{◌≡◌, refl, ◌∙◌}
use native.Mathlib.Omega.{arith}
use lib.Dec.{ltb}
use borrow.Author.Tests.{ltb-true, ltb-false, lt-ltb, le-ltb}
use Rattle.state.specs.Code.{way_of, is_code, codes_below, code_from, code_after}
use Rattle.state.specs.Reason.{FirstIs, here, later}
use Rattle.state.specs.Early.{Sight, reasons, not_code, refusal_of, early_of}
use Rattle.state.specs.declared.code.Way.{Way}
use Rattle.state.specs.declared.code.Way.TheVariants.{Nothing}
use Rattle.state.proofs.Turned.{early_iff}
use Rattle.state.proofs.Threads.{never}

-- Where a number stands: below 12, from 12 to 15, from 16 to 163, past all codes

pub data Spot (c : ℕ) : Type 0 where
  low : c < 12 → Spot c
  gap : 12 ≤ c → c < 16 → Spot c
  high : 16 ≤ c → c < 164 → Spot c
  over : 164 ≤ c → Spot c

spot_by : (a b d : Bool) (c : ℕ) → ltb c 12 ≡ a → ltb c 16 ≡ b → ltb c 164 ≡ d → Spot c
spot_by true b d c x y z = low (ltb-true c 12 x)
spot_by false true d c x y z = gap (ltb-false c 12 x) (ltb-true c 16 y)
spot_by false false true c x y z = high (ltb-false c 16 y) (ltb-true c 164 z)
spot_by false false false c x y z = over (ltb-false c 164 z)

pub spot : (c : ℕ) → Spot c
spot c = spot_by (ltb c 12) (ltb c 16) (ltb c 164) c refl refl refl

module _ (c : ℕ) where
  code_low : c < 12 → is_code c ≡ true
  unfolding is_code
  code_low h = rw (lt-ltb c 12 h)

  code_gap : 12 ≤ c → c < 16 → is_code c ≡ false
  unfolding is_code
  code_gap h k = rw (le-ltb c 12 h, lt-ltb c 16 k)

  code_high : 16 ≤ c → c < 164 → is_code c ≡ true
  unfolding is_code
  code_high h k = rw (le-ltb c 12 (omega arith), le-ltb c 16 h, lt-ltb c 164 k)

  pub code_over : 164 ≤ c → is_code c ≡ false
  unfolding is_code
  code_over h = rw (le-ltb c 12 (omega arith), le-ltb c 16 (omega arith), le-ltb c 164 h)

  below_low : c < 12 → codes_below c ≡ c
  unfolding codes_below
  below_low h = rw (lt-ltb c 12 h)

  below_high : 16 ≤ c → c < 164 → codes_below c ≡ c - 4
  unfolding codes_below
  below_high h k = rw (le-ltb c 12 (omega arith), le-ltb c 16 h, lt-ltb c 164 k)

  pub below_over : 164 ≤ c → codes_below c ≡ 160
  unfolding codes_below
  below_over h = rw (le-ltb c 12 (omega arith), le-ltb c 16 (omega arith), le-ltb c 164 h)

  from_low : c < 12 → code_from c ≡ c
  unfolding code_from
  from_low h = rw (lt-ltb c 12 h)

  from_high : 12 ≤ c → c < 160 → code_from c ≡ c + 4
  unfolding code_from
  from_high h k = rw (le-ltb c 12 h, lt-ltb c 160 k)

  pub from_over : 160 ≤ c → code_from c ≡ 164
  unfolding code_from
  from_over h = rw (le-ltb c 12 (omega arith), le-ltb c 160 h)

  pub after_low : c < 11 → code_after c ≡ c + 1
  unfolding code_after
  after_low h = rw (lt-ltb c 11 h)

  pub after_gap : 11 ≤ c → c < 16 → code_after c ≡ 16
  unfolding code_after
  after_gap h k = rw (le-ltb c 11 h, lt-ltb c 16 k)

  pub after_high : 16 ≤ c → c < 163 → code_after c ≡ c + 1
  unfolding code_after
  after_high h k = rw (le-ltb c 11 (omega arith), le-ltb c 16 h, lt-ltb c 163 k)

  pub after_over : 163 ≤ c → code_after c ≡ 164
  unfolding code_after
  after_over h = rw (le-ltb c 11 (omega arith), le-ltb c 16 (omega arith), le-ltb c 163 h)

-- as many codes stand below the n-th code as its number says
pub below_from : (n : ℕ) → n ≤ 160 → codes_below (code_from n) ≡ n
below_from n h = below_by (ltb n 12) (ltb n 160) n h refl refl
  where
    below_by : (a b : Bool) (n : ℕ) → n ≤ 160 → ltb n 12 ≡ a → ltb n 160 ≡ b → codes_below (code_from n) ≡ n
    below_by true b n h x y = let k : n < 12 = ltb-true n 12 x in rw (from_low n k) (below_low n k)
    below_by false true n h x y =
        let k : 12 ≤ n = ltb-false n 12 x in
        let l : n < 160 = ltb-true n 160 y in
        rw (from_high n k l) (below_high (n + 4) (omega arith) (omega arith) ∙ omega arith)
    below_by false false n h x y =
        let k : 160 ≤ n = ltb-false n 160 y in
        rw (from_over n k) (below_over 164 (omega arith) ∙ omega arith)

-- one code stands between a code and the one after it
after_spot : (c : ℕ) → Spot c → is_code c ≡ true → codes_below (code_after c) ≡ codes_below c + 1
after_spot c (low h) e = after_by_lem (ltb c 11) c h refl
  where
    after_by_lem : (b : Bool) (c : ℕ) → c < 12 → ltb c 11 ≡ b → codes_below (code_after c) ≡ codes_below c + 1
    after_by_lem true c h x =
        let k : c < 11 = ltb-true c 11 x in
        rw (after_low c k, below_low c h) (below_low (c + 1) (omega arith))
    after_by_lem false c h x =
        let k : 11 ≤ c = ltb-false c 11 x in
        rw (after_gap c k (omega arith), below_low c h) (below_high 16 (omega arith) (omega arith) ∙ omega arith)
after_spot c (gap h k) e = absurd (never (is_code c) e (code_gap c h k))
after_spot c (high h k) e = after_by_lem (ltb c 163) c h k refl
  where
    after_by_lem : (b : Bool) (c : ℕ) → 16 ≤ c → c < 164 → ltb c 163 ≡ b → codes_below (code_after c) ≡ codes_below c + 1
    after_by_lem true c h k x =
        let l : c < 163 = ltb-true c 163 x in
        rw (after_high c h l, below_high c h k) (below_high (c + 1) (omega arith) (omega arith) ∙ omega arith)
    after_by_lem false c h k x =
        let l : 163 ≤ c = ltb-false c 163 x in
        rw (after_over c l, below_high c h k) (below_over 164 (omega arith) ∙ omega arith)
after_spot c (over h) e = absurd (never (is_code c) e (code_over c h))

pub below_after : (c : ℕ) → is_code c ≡ true → codes_below (code_after c) ≡ codes_below c + 1
below_after c e = after_spot c (spot c) e

-- Refusal 1

way_spot : (c : ℕ) → Spot c → is_code c ≡ false → way_of c ≡ Nothing
unfolding way_of
way_spot c (low h) e = absurd (never (is_code c) (code_low c h) e)
way_spot c (gap h k) e = rw (le-ltb c 12 h, lt-ltb c 16 k)
way_spot c (high h k) e = absurd (never (is_code c) (code_high c h k) e)
way_spot c (over h) e = rw (le-ltb c 12 (omega arith), le-ltb c 16 (omega arith), le-ltb c 160 (omega arith), le-ltb c 164 h)

spot_code : (c : ℕ) → Spot c → not_code (way_of c) ≡ true → is_code c ≡ false
unfolding way_of
spot_code c (low h) e = let z : not_code (way_of c) ≡ false = rw (lt-ltb c 12 h) in absurd (never (not_code (way_of c)) e z)
spot_code c (gap h k) e = code_gap c h k
spot_code c (high h k) e = high_by (ltb c 160) c h k refl e
  where
    high_by : (b : Bool) (c : ℕ) → 16 ≤ c → c < 164 → ltb c 160 ≡ b → not_code (way_of c) ≡ true → is_code c ≡ false
    high_by true c h k x e = absurd (never (not_code (way_of c)) e (rw (le-ltb c 12 (omega arith), le-ltb c 16 h, x)))
    high_by false c h k x e = absurd (never (not_code (way_of c)) e (rw (le-ltb c 12 (omega arith), le-ltb c 16 h, x, lt-ltb c 164 k)))
spot_code c (over h) e = code_over c h

first_one : (g : Sight) (w : Way) → FirstIs 1 (reasons g w) → not_code w ≡ true
first_one g w (here p q) = p
first_one g w (later p (here q r)) = absurd (omega (arith, r))
first_one g w (later p (later q (here r s))) = absurd (omega (arith, s))
first_one g w (later p (later q (later r (here s t)))) = absurd (omega (arith, t))
first_one g w (later p (later q (later r (later s (here t u))))) = absurd (omega (arith, u))
first_one g w (later p (later q (later r (later s (later t (here u v)))))) = absurd (omega (arith, v))
first_one g w (later p (later q (later r (later s (later t (later u (here v x))))))) = absurd (omega (arith, x))
first_one g w (later p (later q (later r (later s (later t (later u (later v x))))))) = elim x [ ]

one_is : (g : Sight) (c : ℕ) → is_code c ≡ false → early_of g c ≡ 1
unfolding early_of refusal_of
one_is g c e = rw (way_spot c (spot c) e)

-- a number is refused by 1 exactly when it is no code
pub one_iff : (g : Sight) (c : ℕ) → (early_of g c ≡ 1) ↔ (is_code c ≡ false)
one_iff g c = (λ e. spot_code c (spot c) (first_one g (way_of c) ((early_iff g c 1 (omega arith)).0 e)), one_is g c)
