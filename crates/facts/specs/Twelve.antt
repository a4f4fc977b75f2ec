-- 'Twelve for the table' of document 01: a field for each fact, in the document's order. Bare is said of calls of the search and of a
-- listing, pairs and chains of adding to the table of terms, the rest of the step that checks what it is given (Said).
use Rattle.std.specs.Prelude.{[], ◌∷◌, ◌++◌, ◌≡◌, replicate}
use Rattle.terms.specs.Term.{term}
use Rattle.terms.specs.Tree.{leaf, sinit, seq}
use Rattle.terms.specs.Outcome.{Listed, New}
use Rattle.facts.specs.Models.{bare, extends, unlocks, hashes, chains}
use Rattle.facts.specs.Said.{answers_to, outcomes, meaning, Lists}

pub record TwelveFacts : Type 0 where
  -- "Bare at bound 1 (one bad, 160 tries), 3 (above), 4 (three bad, adding 160 160 0 0; 1,120 tries)"
  pub bare_at_1 : Lists bare 1 ((0 ∷ []) ∷ []) 160
  pub bare_at_3 : Lists bare 3 ((0 ∷ []) ∷ (160 ∷ 0 ∷ 0 ∷ []) ∷ []) 640
  pub bare_at_4 : Lists bare 4 ((0 ∷ []) ∷ (160 ∷ 0 ∷ 0 ∷ []) ∷ (160 ∷ 160 ∷ 0 ∷ 0 ∷ []) ∷ []) 1120
  -- "pair of 0 and sinit against sinit and 0 (two labels)"
  pub pairs_two_labels : outcomes (term 9 0 1 ∷ term 9 1 0 ∷ term 9 0 1 ∷ term 9 1 0 ∷ []) ≡ New 3 ∷ New 4 ∷ Listed 3 ∷ Listed 4 ∷ []
  -- "extends 5,6 against 6,5 (differ)": the one has label 6 and the other label 8
  pub extends_differ : (outcomes chains ≡ New 3 ∷ New 4 ∷ New 5 ∷ New 6 ∷ New 7 ∷ New 8 ∷ [])
      × (meaning chains 6 ≡ seq sinit (leaf 0 5 ∷ leaf 0 6 ∷ [])) × (meaning chains 8 ≡ seq sinit (leaf 0 6 ∷ leaf 0 5 ∷ []))
      × (seq sinit (leaf 0 5 ∷ leaf 0 6 ∷ []) ≡ seq sinit (leaf 0 6 ∷ leaf 0 5 ∷ []) → ⊥)
  -- "fifteen extends of sinit by a leaf done, the sixteenth 8"
  pub sixteenth_extend_8 : answers_to extends (replicate 16 0) ≡ replicate 15 0 ++ (8 ∷ [])
  -- "code 12 gives 1"
  pub code_12_gives_1 : answers_to extends (12 ∷ []) ≡ 1 ∷ []
  -- "161 with one machine gives 2"
  pub code_161_gives_2 : answers_to extends (161 ∷ []) ≡ 2 ∷ []
  -- "hand-over from a live slot to itself 3"
  pub hand_over_to_itself_3 : answers_to extends (16 ∷ []) ≡ 3 ∷ []
  -- "lock twice by one thread done"
  pub lock_twice_done : answers_to extends (1 ∷ 1 ∷ []) ≡ 0 ∷ 0 ∷ []
  -- "unlock of a free location 7"
  pub unlock_of_free_7 : answers_to unlocks (0 ∷ []) ≡ 7 ∷ []
  -- "hash already listed in a full table done, a new one 9"
  pub hash_in_full_table : (hashes.count ≡ 512) × (answers_to hashes (0 ∷ []) ≡ 0 ∷ []) × (answers_to hashes (1 ∷ []) ≡ 9 ∷ [])
