-- A term as one line: its kind and fields. What the fields of a kind are: parts, numbers or unused.
use Rattle.std.specs.Prelude.{ℕ, Bool, true, false, eqb, ltb}
use Rattle.terms.specs.Base.{pick, also, larger_of}
use Rattle.terms.specs.declared.term.Term.{Term}
use Rattle.terms.specs.declared.term.Shape.{Shape}
use Rattle.terms.specs.declared.term.Shape.TheVariants.{Bare, Number, Variable, Sealed, Hashed, Applied, Joined, Unknown}

abbrev pub term : ℕ → ℕ → ℕ → Term
term k a b = record { kind = k; a = a; b = b }

-- 0 number; 1 sinit, 2 dinit; 3 agent, 4 key, 5 inverse of key; 6 variable; 7 nonce, 8 code; 9 pair; 10 signature, 11 encryption, 12 symmetric; 13 hash; 14 chain; 15 function
unfoldable pub shape_of : ℕ → Shape
shape_of k =
    pick (eqb k 0) Number
    (pick (ltb k 3) Bare
    (pick (ltb k 6) Number
    (pick (eqb k 6) Variable
    (pick (ltb k 9) Number
    (pick (eqb k 9) Joined
    (pick (ltb k 13) Sealed
    (pick (eqb k 13) Hashed
    (pick (eqb k 14) Joined
    (pick (eqb k 15) Applied
    Unknown)))))))))

-- "Unused fields are 0"; variables are 0 to 15, functions 0 to 255
abbrev pub limits_by : Shape → ℕ → ℕ → Bool
limits_by Bare a b = also (eqb a 0) (eqb b 0)
limits_by Number a b = eqb b 0
limits_by Variable a b = also (ltb a 16) (eqb b 0)
limits_by Sealed a b = true
limits_by Hashed a b = eqb b 0
limits_by Applied a b = ltb a 256
limits_by Joined a b = true
limits_by Unknown a b = false

unfoldable pub in_limits : Term → Bool
in_limits x = limits_by (shape_of x.kind) x.a x.b

-- "Parts are labels of earlier terms"
abbrev pub parts_by : Shape → ℕ → ℕ → ℕ → Bool
parts_by Bare a b i = true
parts_by Number a b i = true
parts_by Variable a b i = true
parts_by Sealed a b i = ltb a i
parts_by Hashed a b i = ltb a i
parts_by Applied a b i = ltb b i
parts_by Joined a b i = also (ltb a i) (ltb b i)
parts_by Unknown a b i = true

unfoldable pub parts_below : Term → ℕ → Bool
parts_below x i = parts_by (shape_of x.kind) x.a x.b i

-- the later of a term's parts, 0 where it has none
abbrev pub after_by : Shape → ℕ → ℕ → ℕ
after_by Bare a b = 0
after_by Number a b = 0
after_by Variable a b = 0
after_by Sealed a b = a
after_by Hashed a b = a
after_by Applied a b = b
after_by Joined a b = larger_of a b
after_by Unknown a b = 0

-- the label from which on a term is looked for
unfoldable pub after_parts : Term → ℕ
after_parts x = after_by (shape_of x.kind) x.a x.b
