-- A list changed element by element, beside a second list of numbers.
use Rattle.std.specs.Prelude.{ℕ, List, [], ◌∷◌, get_or, drop}

-- f of each element and of the number beside it, 0 past the numbers
unfoldable pub each2 : {A : Type 0} → (A → ℕ → A) → List A → List ℕ → List A
each2 f [] r = []
each2 f (x ∷ xs) r = f x (get_or r 0 0) ∷ each2 f xs (drop 1 r)
