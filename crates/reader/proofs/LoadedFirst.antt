-- The first reading: after good lines, the last of them a C, the facts hold.
use Prim.Native.Nat.{ℕ, ◌+◌}
use mathlib.Core.Path.{◌≡◌, refl}
use mathlib.Core.Bool.{Bool, true, false}
use mathlib.Core.List.{List, [], ◌∷◌}
use native.Mathlib.Omega.{arith}
use lib.ListN.{length, take, replicate}
use lib.Dec.{ltb, eqb}
use borrow.Author.Tests.{eqb-true, eqb-false}
use Rattle.terms.specs.Base.{pick}
use Rattle.terms.specs.Table.{fresh_table}
use Rattle.lines.specs.Base.{byte_at}
use Rattle.lines.specs.Line.{cut_line, lines_of}
use Rattle.std.specs.Prelude.{Option, Some, None}
use Rattle.reader.specs.Numbers.{fields_of}
use Rattle.reader.specs.Drafts.{fresh_draft, lined}
use Rattle.reader.specs.FirstReading.{Kept, kept, by_letter, one_line, cut_by, next_line, read_answer, whole_read, go_on, read_from, first_reading}
use Rattle.reader.specs.Numbers.{Fields}
use Rattle.reader.specs.declared.draft.Draft.{Draft}
use Rattle.reader.specs.Drafts.{Lined}
use Rattle.reader.specs.FirstReading.{Read}
use Rattle.reader.proofs.LoadedFacts.{Drafted}
use Rattle.reader.proofs.LoadedNumbers.{Numbers, line_numbers}
use Rattle.reader.proofs.LoadedDrafts.{fresh_drafted}
use Rattle.reader.proofs.LoadedLines.{version_kept, machine_kept, location_kept, thread_kept, claim_kept}
use Rattle.reader.proofs.LoadedTables.{term_kept, action_kept}

-- a line that is good leaves the facts
record Good (r : Kept Lined) : Type 0 where
  good : r.out.number ≡ 0 → Drafted r.terms r.actions r.out.draft

-- one of two answers
either_good : (t : Bool) (r s : Kept Lined) → Good r → Good s → Good (pick t r s)
either_good true r s a b = a
either_good false r s a b = b

refused : (l acts : List ℕ) (d : Draft) → Good (kept (lined 20 d) l acts)
refused l acts d = record { good = λ e. absurd (omega arith) }

module _ {l acts : List ℕ} {d : Draft} (D : Drafted l acts d) where
  letter_good : (letter : ℕ) (f : Fields) → Numbers f → Good (by_letter letter f l acts d)
  letter_good letter f F =
      either_good (eqb letter 86) _ _ (record { good = version_kept d f D F })
      (either_good (eqb letter 69) _ _ (record { good = term_kept d f D F })
      (either_good (eqb letter 65) _ _ (record { good = action_kept d f D F })
      (either_good (eqb letter 77) _ _ (record { good = machine_kept d f D F })
      (either_good (eqb letter 76) _ _ (record { good = location_kept d f D F })
      (either_good (eqb letter 84) _ _ (record { good = thread_kept d f D F })
      (either_good (eqb letter 67) _ _ (record { good = claim_kept d f D F })
      (refused l acts d)))))))

  line_good : (line : List ℕ) → Good (one_line l acts d line)
  unfolding one_line
  line_good line = letter_good (byte_at line 0) (fields_of line) (line_numbers line)

  cut_good : (c : Option ℕ) (s : List ℕ) → Good (cut_by c l acts d s)
  cut_good (Some n) s = line_good (take n s)
  cut_good None s = refused l acts d

  next_good : (s : List ℕ) → Good (next_line l acts d s)
  unfolding next_line
  next_good s = cut_good (cut_line s) s

-- the answer of a first reading with no refusal
pub record Whole (r : Kept Read) : Type 0 where
  pub drafted : Drafted r.terms r.actions r.out.draft
  pub closed : r.out.draft.group ≡ 7

abbrev Ends : Kept Read → Type 0
Ends r = r.out.number ≡ 0 → Whole r

whole_ends : (n : ℕ) (l acts : List ℕ) (d : Draft) → Drafted l acts d → Ends (kept (whole_read n d) l acts)
unfolding whole_read
whole_ends n l acts d D = by (eqb d.group 7) refl
  where
    by : (t : Bool) → eqb d.group 7 ≡ t → Ends (kept (pick t (read_answer 0 0 d) (read_answer 21 n d)) l acts)
    by true e z = record { drafted = D; closed = eqb-true _ _ e }
    by false e z = absurd (omega arith)

on_ends : (r : Kept Lined) (n : ℕ) (further : List ℕ → List ℕ → Draft → Kept Read) → Good r
    → ((l acts : List ℕ) (d : Draft) → Drafted l acts d → Ends (further l acts d)) → Ends (go_on r n further)
on_ends r n further G ih = by (eqb r.out.number 0) refl
  where
    by : (t : Bool) → eqb r.out.number 0 ≡ t
        → Ends (pick t (further r.terms r.actions r.out.draft) (kept (read_answer r.out.number n r.out.draft) r.terms r.actions))
    by true e z = ih r.terms r.actions r.out.draft (G.good (eqb-true _ _ e)) z
    by false e z = absurd (eqb-false _ _ e z)

read_ends : (n : ℕ) (ss : List (List ℕ)) (l acts : List ℕ) (d : Draft) → Drafted l acts d → Ends (read_from n ss l acts d)
unfolding read_from
read_ends n [] l acts d D = whole_ends n l acts d D
read_ends n (s ∷ ss) l acts d D = on_ends (next_line l acts d s) n (λ m bs e. read_from (n + 1) ss m bs e) (next_good D s) (read_ends (n + 1) ss)

pub first_ends : (file : List ℕ) → Ends (first_reading file fresh_table.lines (replicate 512 0))
unfolding first_reading
first_ends file = by (ltb 65536 (length file))
  where
    by : (t : Bool)
        → Ends (pick t (kept (read_answer 26 0 fresh_draft) fresh_table.lines (replicate 512 0)) (read_from 1 (lines_of file) fresh_table.lines (replicate 512 0) fresh_draft))
    by true z = absurd (omega arith)
    by false z = read_ends 1 (lines_of file) fresh_table.lines (replicate 512 0) fresh_draft fresh_drafted z
