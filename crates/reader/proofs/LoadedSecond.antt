-- The second reading: what it tells where it refuses nothing.
use Prim.Native.Nat.{ℕ, zero, suc, ◌+◌, ◌<◌, ◌≤◌}
use mathlib.Core.Path.{◌≡◌, refl, subst}
use mathlib.Core.Bool.{Bool, true, false, not}
use mathlib.Core.List.{List}
use native.Mathlib.Omega.{arith}
use lib.Dec.{ltb, eqb}
use borrow.Author.Tests.{ltb-true, ltb-false, eqb-true, eqb-false, eq-eqb, not-false}
use Rattle.terms.specs.Base.{pick, also}
use Rattle.terms.specs.Line.{term_at}
use Rattle.terms.specs.declared.term.Term.{Term}
use Rattle.model.specs.Records.{action_at, length_at, location_at}
use Rattle.model.specs.Fields.{kind_fits}
use Rattle.model.specs.First.{first_from}
use Rattle.audit.specs.Models.{names_program}
use Rattle.audit.specs.Programs.{new_program}
use Rattle.reader.specs.ALine.{location_past}
use Rattle.reader.specs.SecondReading.{refusal, first_bad_code, line_of_label, program_twice24, action_second}
use Rattle.reader.specs.SecondReading.{within, within_from, program_reading, programs_from, programs_reading, second_reading}
use Rattle.reader.specs.declared.draft.Draft.{Draft}
use Rattle.reader.specs.SecondReading.{Within}
use Rattle.model.proofs.Tests.{not_both, pick_yes}
use Rattle.reader.proofs.LoadedTests.{passes}

-- number i, or a later one
from_or : (P : ℕ → Type 0) (i n : ℕ) → P i → ((j : ℕ) → i + 1 ≤ j → j < i + 1 + n → P j) → (j : ℕ) → i ≤ j → j < i + suc n → P j
from_or P i n a f j h g = by (ltb i j) refl
  where
    by : (t : Bool) → ltb i j ≡ t → P j
    by true e = f j (omega (arith, ltb-true i j e)) (omega arith)
    by false e = let s : i ≡ j = omega (arith, ltb-false i j e) in subst P s a

-- none passes the test where the first one that does stands past the end
first_none : (n i : ℕ) (p : ℕ → Bool) → i + n ≤ first_from n i p → (j : ℕ) → i ≤ j → j < i + n → p j ≡ false
unfolding first_from
first_none zero i p h j a b = absurd (omega arith)
first_none (suc n) i p h j a b = by (p i) refl h (λ g. first_none n (i + 1) p g)
  where
    by : (t : Bool) → p i ≡ t → i + suc n ≤ pick t i (first_from n (i + 1) p)
        → (i + 1 + n ≤ first_from n (i + 1) p → (k : ℕ) → i + 1 ≤ k → k < i + 1 + n → p k ≡ false) → p j ≡ false
    by true e g ih = absurd (omega arith)
    by false e g ih = from_or (λ k. p k ≡ false) i n e (ih (omega arith)) j a b

within_none : (n k : ℕ) (f : ℕ → ℕ) → (within_from n k f).number ≡ 0 → (j : ℕ) → k ≤ j → j < k + n → f j ≡ 0
unfolding within_from
within_none zero k f h j a b = absurd (omega arith)
within_none (suc n) k f h j a b = by (eqb (f k) 0) refl h (λ g. within_none n (k + 1) f g)
  where
    by : (t : Bool) → eqb (f k) 0 ≡ t → (pick t (within_from n (k + 1) f) (within (f k) k)).number ≡ 0
        → ((within_from n (k + 1) f).number ≡ 0 → (i : ℕ) → k + 1 ≤ i → i < k + 1 + n → f i ≡ 0) → f j ≡ 0
    by true e g ih = from_or (λ i. f i ≡ 0) k n (eqb-true _ _ e) (ih g) j a b
    by false e g ih = absurd (eqb-false _ _ e g)

programs_none : (n p line : ℕ) (f : ℕ → Within) (lengths : List ℕ) → (programs_from n p line f lengths).number ≡ 0 → (q : ℕ) → p ≤ q → q < p + n → (f q).number ≡ 0
unfolding programs_from
programs_none zero p line f lengths h q a b = absurd (omega arith)
programs_none (suc n) p line f lengths h q a b = by (eqb (f p).number 0) refl h (λ g. programs_none n (p + 1) (line + length_at lengths p) f lengths g)
  where
    by : (t : Bool) → eqb (f p).number 0 ≡ t
        → (pick t (programs_from n (p + 1) (line + length_at lengths p) f lengths) (refusal (f p).number (line + (f p).at))).number ≡ 0
        → ((programs_from n (p + 1) (line + length_at lengths p) f lengths).number ≡ 0 → (i : ℕ) → p + 1 ≤ i → i < p + 1 + n → (f i).number ≡ 0) → (f q).number ≡ 0
    by true e g ih = from_or (λ i. (f i).number ≡ 0) p n (eqb-true _ _ e) (ih g) q a b
    by false e g ih = absurd (eqb-false _ _ e g)

-- what it tells of action k of program p
pub record ActionNamed (acts lengths locs : List ℕ) (count p k : ℕ) : Type 0 where
  pub location : location_past (action_at acts p k) count ≡ false
  pub kind : kind_fits (action_at acts p k).op (location_at locs (action_at acts p k).loc).kind ≡ true
  pub new : k + 1 ≡ length_at lengths p → new_program acts lengths p ≡ true

pub record Named (l acts : List ℕ) (d : Draft) : Type 0 where
  pub codes : (i : ℕ) → i < d.count → (term_at l i).kind ≡ 8 → (term_at l i).a < d.programs
  pub actions : (p k : ℕ) → p < d.programs → k < length_at d.lengths p → ActionNamed acts d.lengths d.locations d.location_count p k

action_named : (acts lengths locs : List ℕ) (count p k : ℕ) → action_second acts lengths locs count p k ≡ 0 → ActionNamed acts lengths locs count p k
unfolding action_second program_twice24
action_named acts lengths locs count p k e =
    let a = passes (location_past (action_at acts p k) count) 23 _ refl e in
    let b = passes (also (eqb (k + 1) (length_at lengths p)) (not (new_program acts lengths p))) 24 _ refl a.1 in
    let c = passes (not (kind_fits (action_at acts p k).op (location_at locs (action_at acts p k).loc).kind)) 25 0 refl b.1 in
    record {
      location = a.0;
      kind = not-false _ c.0;
      new = λ h. not-false _ (not_both (eqb (k + 1) (length_at lengths p)) _ b.0 (eq-eqb _ _ h));
    }

code_named : (x : Term) (programs : ℕ) → not (names_program x programs) ≡ false → x.kind ≡ 8 → x.a < programs
unfolding names_program
code_named x programs e h =
    ltb-true _ _ (pick_yes (eqb x.kind 8) (ltb x.a programs) true (eq-eqb _ _ h) (not-false _ e))

module _ (l acts : List ℕ) (d : Draft) where
  programs_named : (programs_reading acts d).number ≡ 0 → (p k : ℕ) → p < d.programs → k < length_at d.lengths p
      → ActionNamed acts d.lengths d.locations d.location_count p k
  unfolding programs_reading program_reading
  programs_named e p k h g =
      action_named acts d.lengths d.locations d.location_count p k
      (within_none (length_at d.lengths p) 0 _
      (programs_none d.programs 0 (line_of_label d.count) _ d.lengths e p (omega arith) (omega arith)) k (omega arith) (omega arith))

  codes_named : d.count ≤ first_bad_code l d.count d.programs → (i : ℕ) → i < d.count → (term_at l i).kind ≡ 8 → (term_at l i).a < d.programs
  unfolding first_bad_code
  codes_named h i g =
      code_named (term_at l i) d.programs
      (first_none d.count 0 (λ j. not (names_program (term_at l j) d.programs)) (omega arith) i (omega arith) (omega arith))

  pub second_named : (second_reading l acts d).number ≡ 0 → Named l acts d
  unfolding second_reading
  second_named e = by (ltb (first_bad_code l d.count d.programs) d.count) refl e
    where
      by : (t : Bool) → ltb (first_bad_code l d.count d.programs) d.count ≡ t
          → (pick t (refusal 23 (line_of_label (first_bad_code l d.count d.programs))) (programs_reading acts d)).number ≡ 0 → Named l acts d
      by true q g = absurd (omega arith)
      by false q g = record { codes = codes_named (ltb-false _ _ q); actions = programs_named g }
