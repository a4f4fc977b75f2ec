-- What shapes have in common that one arm of the code takes together.
use Prim.Native.Nat.{ℕ}
use mathlib.Core.Bool.{true}
use mathlib.Core.List.{List}
use mathlib.Core.Logic.{◌⊎◌, inl, inr}
use mathlib.Core.Path.{◌≡◌}
use lib.Dec.{ltb, eqb}
use Rattle.terms.specs.Term.{limits_by, parts_by, after_by}
use Rattle.terms.specs.Line.{grade, line_at}
use Rattle.terms.specs.Grade.{above_line, grade_by}
use Rattle.terms.specs.Subst.{plan_by}
use Rattle.terms.specs.declared.subst.Plan.TheVariants.{Keep, First}
use Rattle.terms.specs.declared.term.Term.{Term}
use Rattle.terms.specs.declared.term.Shape.{Shape}
use Rattle.terms.specs.declared.term.Shape.TheVariants.{Bare, Number, Variable, Sealed, Hashed, Joined, Unknown}

-- no part, and no variable
pub leaf_after : (s : Shape) (a b : ℕ) → s ≡ Bare ⊎ (s ≡ Number ⊎ s ≡ Unknown) → after_by s a b ≡ 0
leaf_after s a b (inl e) = rw e
leaf_after s a b (inr (inl e)) = rw e
leaf_after s a b (inr (inr e)) = rw e

pub leaf_grade : (s : Shape) (l : List ℕ) (a b : ℕ) → s ≡ Bare ⊎ (s ≡ Number ⊎ s ≡ Unknown) → grade_by s l a b ≡ grade 1 true
leaf_grade s l a b (inl e) = rw e
leaf_grade s l a b (inr (inl e)) = rw e
leaf_grade s l a b (inr (inr e)) = rw e

-- the first field is a part
pub one_after : (s : Shape) (a b : ℕ) → s ≡ Sealed ⊎ s ≡ Hashed → after_by s a b ≡ a
one_after s a b (inl e) = rw e
one_after s a b (inr e) = rw e

pub one_grade : (s : Shape) (l : List ℕ) (a b : ℕ) → s ≡ Sealed ⊎ s ≡ Hashed → grade_by s l a b ≡ above_line (line_at l a)
one_grade s l a b (inl e) = rw e
one_grade s l a b (inr e) = rw e

-- no part
pub none_after : (s : Shape) (a b : ℕ) → s ≡ Bare ⊎ (s ≡ Number ⊎ (s ≡ Variable ⊎ s ≡ Unknown)) → after_by s a b ≡ 0
none_after s a b (inl e) = rw e
none_after s a b (inr (inl e)) = rw e
none_after s a b (inr (inr (inl e))) = rw e
none_after s a b (inr (inr (inr e))) = rw e

pub none_parts : (s : Shape) (a b i : ℕ) → s ≡ Bare ⊎ (s ≡ Number ⊎ (s ≡ Variable ⊎ s ≡ Unknown)) → parts_by s a b i ≡ true
none_parts s a b i (inl e) = rw e
none_parts s a b i (inr (inl e)) = rw e
none_parts s a b i (inr (inr (inl e))) = rw e
none_parts s a b i (inr (inr (inr e))) = rw e

pub one_parts : (s : Shape) (a b i : ℕ) → s ≡ Sealed ⊎ s ≡ Hashed → parts_by s a b i ≡ ltb a i
one_parts s a b i (inl e) = rw e
one_parts s a b i (inr e) = rw e

-- what a substitution does there
pub leaf_plan : (s : Shape) (x : Term) (vs : List ℕ) (o i : ℕ) → s ≡ Bare ⊎ (s ≡ Number ⊎ s ≡ Unknown) → plan_by s x vs o i ≡ Keep i
leaf_plan s x vs o i (inl e) = rw e
leaf_plan s x vs o i (inr (inl e)) = rw e
leaf_plan s x vs o i (inr (inr e)) = rw e

pub one_plan : (s : Shape) (x : Term) (vs : List ℕ) (o i : ℕ) → s ≡ Sealed ⊎ s ≡ Hashed → plan_by s x vs o i ≡ First x.a
one_plan s x vs o i (inl e) = rw e
one_plan s x vs o i (inr e) = rw e

-- the second field alone is unused
pub second_limits : (s : Shape) (a b : ℕ) → s ≡ Number ⊎ s ≡ Hashed → limits_by s a b ≡ eqb b 0
second_limits s a b (inl e) = rw e
second_limits s a b (inr e) = rw e

-- both fields are used
pub free_limits : (s : Shape) (a b : ℕ) → s ≡ Sealed ⊎ s ≡ Joined → limits_by s a b ≡ true
free_limits s a b (inl e) = rw e
free_limits s a b (inr e) = rw e
