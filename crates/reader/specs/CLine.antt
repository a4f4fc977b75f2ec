-- "C kind v m path": the last line, with "a path of 1 to 4 programs".
use Rattle.std.specs.Prelude.{ℕ, ◌-◌, Bool, not, [], ◌∷◌, ltb, leb}
use Rattle.terms.specs.Base.{pick}
use Rattle.model.specs.Fields.{either}
use Rattle.model.specs.declared.records.Claim.{Claim}
use Rattle.reader.specs.Numbers.{num, up_to255}
use Rattle.reader.specs.Drafts.{lined, unless_refused, follows_group, with_claim}
use Rattle.reader.specs.Numbers.{Fields}
use Rattle.reader.specs.declared.draft.Draft.{Draft}
use Rattle.reader.specs.Drafts.{Lined}

-- three numbers, then the path
unfoldable pub claim_form20 : Fields → Bool
claim_form20 f = either (not f.good) (either (leb f.count 3) (ltb 7 f.count))

-- the places past the path are 0, a program that is always listed here
unfoldable pub path_names23 : ℕ → Fields → Bool
path_names23 programs f = either (leb programs (num f 3)) (either (leb programs (num f 4)) (either (leb programs (num f 5)) (leb programs (num f 6))))

unfoldable pub claim_names23 : ℕ → ℕ → Fields → Bool
claim_names23 machines programs f = either (leb programs (num f 1)) (either (leb machines (num f 2)) (path_names23 programs f))

-- after M, L and T lines alone (21); "a claim kind above 1 .. is 22"
unfoldable pub claim_refusal : Draft → Fields → ℕ
claim_refusal d f =
    pick (claim_form20 f) 20
    (pick (not (follows_group d.group 4 6)) 21
    (pick (ltb 1 (num f 0)) 22
    (pick (claim_names23 d.machine_count d.programs f) 23
    0)))

unfoldable pub claim_of : Fields → Claim
claim_of f = record {
  kind = up_to255 (num f 0);
  program = up_to255 (num f 1);
  machine = up_to255 (num f 2);
  path = up_to255 (num f 3) ∷ up_to255 (num f 4) ∷ up_to255 (num f 5) ∷ up_to255 (num f 6) ∷ [];
  length = f.count - 3;
}

unfoldable pub claim_line : Draft → Fields → Lined
claim_line d f = unless_refused (claim_refusal d f) d (lined 0 (with_claim d (claim_of f)))
