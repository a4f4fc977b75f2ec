-- 'Twelve for the table' of document 01 is one theorem: each fact of specs/Twelve holds.
use Prim.Native.Nat.{ℕ}
use mathlib.Core.Bool.{true}
use mathlib.Core.List.{List, [], ◌∷◌}
use mathlib.Core.Path.{◌≡◌, refl, sym, ap, ◌∙◌}
use native.Mathlib.Omega.{arith}
use lib.ListN.{length, get_or, replicate}
use Rattle.terms.specs.Term.{term}
use Rattle.terms.specs.Table.{fresh_table}
use Rattle.terms.specs.Tree.{leaf, sinit, seq}
use Rattle.terms.specs.Outcome.{Listed, New}
use Rattle.audit.specs.Models.{sound_model}
use Rattle.audit.proofs.Bare.{bare_sound}
use Rattle.walk.specs.Trail.{trails, bad_in, sized_in}
use Rattle.walk.proofs.Gather.{Counted}
use Rattle.tries.specs.Labels.{labels}
use Rattle.search.specs.Search.{bound_fits}
use Rattle.search.specs.Shown.{Arrays}
use Rattle.search.proofs.Promises.{same_tries}
use Rattle.facts.specs.Models.{bare, hashes, chains}
use Rattle.facts.specs.Said.{outcomes_from, outcomes, added_all, meaning, Lists}
use Rattle.facts.specs.Twelve.{TwelveFacts}
use Rattle.facts.proofs.Opened.{adding_open, trees_open}
use Rattle.facts.proofs.Steps.{schedules, answers, steps_answered}
use Rattle.facts.proofs.Public.{extends_same, unlocks_same, hashes_same}
use Rattle.facts.proofs.Bare.{Tally, tally, tally_of, bare_tries, rules_one, rules_three, rules_four}
use Rattle.facts.proofs.Listed.{counted_lists}

-- Bare

arrays : Arrays bare
unfolding bare fresh_table
arrays = record { tables = record { lines = refl; threads = refl; locations = refl }; path = refl }

sound : sound_model bare ≡ true
unfolding bare
sound = bare_sound

-- its tries by the rules are those of the machine on labels
counted : (n : ℕ) → bound_fits n ≡ true → (ws : List (List ℕ)) (t : ℕ) → tally_of (bare_tries n) ≡ tally ws t 0 →
    Counted (trails (labels bare) n (labels bare).fresh) ws t 0
unfolding tally_of bare_tries
counted n bound ws t e =
    let s = same_tries bare arrays sound n bound in
    record {
      words = sym (ap bad_in s ∙ ap (λ (y : Tally). y.bads) e);
      tries = sym (ap length s ∙ ap (λ (y : Tally). y.tries) e);
      sizes = sym (ap sized_in s ∙ ap (λ (y : Tally). y.sizes) e);
    }

bare_one : Lists bare 1 ((0 ∷ []) ∷ []) 160
unfolding bound_fits
bare_one = counted_lists bare arrays sound 1 refl (omega arith) (omega arith) _ _ (counted 1 refl _ _ rules_one)

bare_three : Lists bare 3 ((0 ∷ []) ∷ (160 ∷ 0 ∷ 0 ∷ []) ∷ []) 640
unfolding bound_fits
bare_three = counted_lists bare arrays sound 3 refl (omega arith) (omega arith) _ _ (counted 3 refl _ _ rules_three)

bare_four : Lists bare 4 ((0 ∷ []) ∷ (160 ∷ 0 ∷ 0 ∷ []) ∷ (160 ∷ 160 ∷ 0 ∷ 0 ∷ []) ∷ []) 1120
unfolding bound_fits
bare_four = counted_lists bare arrays sound 4 refl (omega arith) (omega arith) _ _ (counted 4 refl _ _ rules_four)

-- Terms, by computation

pairs : outcomes (term 9 0 1 ∷ term 9 1 0 ∷ term 9 0 1 ∷ term 9 1 0 ∷ []) ≡ New 3 ∷ New 4 ∷ Listed 3 ∷ Listed 4 ∷ []
unfolding outcomes outcomes_from adding_open
pairs = refl

six_labels : outcomes chains ≡ New 3 ∷ New 4 ∷ New 5 ∷ New 6 ∷ New 7 ∷ New 8 ∷ []
unfolding outcomes outcomes_from adding_open
six_labels = refl

five_six : meaning chains 6 ≡ seq sinit (leaf 0 5 ∷ leaf 0 6 ∷ [])
unfolding meaning added_all seq trees_open adding_open
five_six = refl

six_five : meaning chains 8 ≡ seq sinit (leaf 0 6 ∷ leaf 0 5 ∷ [])
unfolding meaning added_all seq trees_open adding_open
six_five = refl

seqs_differ : seq sinit (leaf 0 5 ∷ leaf 0 6 ∷ []) ≡ seq sinit (leaf 0 6 ∷ leaf 0 5 ∷ []) → ⊥
unfolding seq
seqs_differ e = let z : ◌≡◌ {A = ℕ} 5 6 = cc in omega arith

-- Steps: each schedule by its number in Steps

inner : (i : ℕ) → get_or schedules i [] ≡ get_or answers i []
inner i = ap (λ (l : List (List ℕ)). get_or l i []) steps_answered

count_full : hashes.count ≡ 512
unfolding hashes
count_full = refl

pub twelve_facts : TwelveFacts
twelve_facts = record {
  bare_at_1 = bare_one;
  bare_at_3 = bare_three;
  bare_at_4 = bare_four;
  pairs_two_labels = pairs;
  extends_differ = (six_labels, five_six, six_five, seqs_differ);
  sixteenth_extend_8 = extends_same (replicate 16 0) ∙ inner 0;
  code_12_gives_1 = extends_same (12 ∷ []) ∙ inner 1;
  code_161_gives_2 = extends_same (161 ∷ []) ∙ inner 2;
  hand_over_to_itself_3 = extends_same (16 ∷ []) ∙ inner 3;
  lock_twice_done = extends_same (1 ∷ 1 ∷ []) ∙ inner 4;
  unlock_of_free_7 = unlocks_same (0 ∷ []) ∙ inner 5;
  hash_in_full_table = (count_full, hashes_same (0 ∷ []) ∙ inner 6, hashes_same (1 ∷ []) ∙ inner 7);
}
