-- Small things that every definition uses: a choice by a test, two tests together, a fact of every element of a list.
-- They unfold everywhere, so that no proof has to name them.
use Rattle.std.specs.Prelude.{ℕ, Bool, true, false, List, [], ◌∷◌, eqb}

-- the first where the test holds, else the second
abbrev pub pick : {A : Type 0} → Bool → A → A → A
pick true a b = a
pick false a b = b

-- both tests hold
abbrev pub also : Bool → Bool → Bool
also p q = pick p q false

-- one of two tests holds
abbrev pub either : Bool → Bool → Bool
either p q = pick p true q

-- the number stands in the list
abbrev pub among : ℕ → List ℕ → Bool
among k [] = false
among k (x ∷ xs) = either (eqb k x) (among k xs)

-- a fact of every element
abbrev pub All : {A : Type 0} → (A → Type 0) → List A → Type 0
All P [] = Unit {0}
All P (x ∷ xs) = P x × All P xs
