-- What is packed into a line is read out of it again. So lines may be compared in place of terms.
use Prim.Native.Nat.{ℕ, ◌+◌, ◌*◌, ◌/◌, ◌%◌, ◌<◌, ◌≤◌}
use mathlib.Core.Path.{◌≡◌, refl, sym, ap, ◌∙◌}
use mathlib.Core.Bool.{Bool, true, false}
use native.Mathlib.Omega.{arith}
use lib.Dec.{eqb}
use Rattle.terms.specs.Line.{bit_of, packed, term_in, depth_in, ground_in}
use Rattle.terms.specs.declared.term.Term.{Term}
use Rattle.terms.specs.declared.line.Grade.{Grade}

-- the fields fit into their places of a line
pub record Small (x : Term) : Type 0 where
  pub kind : x.kind < 256
  pub first : x.a < 65536
  pub second : x.b < 65536

-- what is read out of a line always fits
pub term_small : (n : ℕ) → Small (term_in n)
unfolding term_in
term_small n = record { kind = omega arith; first = omega arith; second = omega arith }

-- a mark is one bit, and read as it was set
pub bit_small : (t : Bool) → bit_of t ≤ 1
bit_small true = omega arith
bit_small false = omega arith

pub bit_read : (t : Bool) → eqb (bit_of t) 1 ≡ t
bit_read true = refl
bit_read false = refl

-- the term of a packed line
pub term_packed : (x : Term) (g : Grade) → Small x → term_in (packed x g) ≡ x
unfolding packed term_in
term_packed x g s =
    let t : ℕ = bit_of g.grounded in
    let n : ℕ = t * 281474976710656 + g.depth * 1099511627776 + x.kind * 4294967296 + x.a * 65536 + x.b in
    let p : n / 4294967296 % 256 ≡ x.kind = omega arith in
    let q : n / 65536 % 65536 ≡ x.a = omega arith in
    let r : n % 65536 ≡ x.b = omega arith in
    rw (p, q, r)

-- its depth
pub depth_packed : (x : Term) (g : Grade) → Small x → g.depth < 256 → depth_in (packed x g) ≡ g.depth
unfolding packed depth_in
depth_packed x g s h = omega arith

-- its ground mark
pub ground_packed : (x : Term) (g : Grade) → Small x → g.depth < 256 → ground_in (packed x g) ≡ g.grounded
unfolding packed ground_in
ground_packed x g s h =
    let b : bit_of g.grounded ≤ 1 = bit_small g.grounded in
    let n : ℕ = bit_of g.grounded * 281474976710656 + g.depth * 1099511627776 + x.kind * 4294967296 + x.a * 65536 + x.b in
    let p : n / 281474976710656 % 2 ≡ bit_of g.grounded = omega arith in
    rw p (bit_read g.grounded)

-- equal lines are of equal terms
pub packed_one : (x y : Term) (g h : Grade) → Small x → Small y → packed x g ≡ packed y h → x ≡ y
packed_one x y g h s t p = sym (term_packed x g s) ∙ ap term_in p ∙ term_packed y h t
