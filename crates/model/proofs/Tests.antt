-- What two tests say together, in all proofs of this crate and those above it.
use Prim.Native.Nat.{ℕ}
use mathlib.Core.Path.{◌≡◌, refl}
use mathlib.Core.Bool.{Bool, true, false}
use native.Mathlib.Omega.{arith}
use Rattle.terms.specs.Base.{pick, also}
use Rattle.terms.proofs.Meaning.{also_left, also_right}
use Rattle.model.specs.Fields.{either}

-- one after the other
pub both_pass : (p q : Bool) → also p q ≡ true → (p ≡ true) × (q ≡ true)
both_pass p q e = (also_left p q e, also_right p q e)

pub not_both : (p q : Bool) → also p q ≡ false → p ≡ true → q ≡ false
not_both p q e h = rw h at e

pub also_never : (p : Bool) → also p false ≡ false
also_never true = refl
also_never false = refl

-- neither of two
pub neither : (p q : Bool) → either p q ≡ false → (p ≡ false) × (q ≡ false)
neither true q e = let z : ◌≡◌ {A = ℕ} 0 1 = cc in absurd (omega arith)
neither false q e = (refl, e)

-- what a passed test says where its question is yes, and where it is no
pub pick_yes : (b p q : Bool) → b ≡ true → pick b p q ≡ true → p ≡ true
pick_yes b p q h e = rw h at e

pub pick_no : (b p q : Bool) → b ≡ false → pick b p q ≡ true → q ≡ true
pick_no b p q h e = rw h at e

-- tests one way or the other, as the question asks
pub pass_by : (b p q : Bool) → (b ≡ true → p ≡ true) → (b ≡ false → q ≡ true) → pick b p q ≡ true
pass_by true p q f g = f refl
pass_by false p q f g = g refl
