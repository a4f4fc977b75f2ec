-- What an action asks of the table once its operands are there: a label to keep, a term to make, or a refusal (10).
-- One line an action. "Actions with no value of their own bind label 0": they keep 0.
use Rattle.std.specs.Prelude.{ℕ, Bool, Option, Some, None, eqb}
use Rattle.terms.specs.Base.{pick}
use Rattle.terms.specs.Term.{term}
use Rattle.terms.specs.declared.term.Term.{Term}
use Rattle.model.specs.declared.records.Action.{Action}
use Rattle.rules.specs.Asked.{Want, Refuse, Keep, Make}
use Rattle.rules.specs.declared.want.Want.{Want as Fitting}
use Rattle.rules.specs.declared.want.Want.TheVariants as F
use Rattle.rules.specs.declared.want.Given.{Given}

-- the labels of ground x and y, the terms there, the value of the location, the next nonce
abbrev pub operands_given : ℕ → ℕ → Term → Term → ℕ → ℕ → Given
operands_given x y first second v n = record { x = x; y = y; first = first; second = second; value = v; nonce = n }

-- what the code asks, nothing where it does not fit
abbrev pub asked_in : Fitting → Want
asked_in (F.Keep r) = Keep r
asked_in (F.Make e) = Make e

abbrev pub wanted_in : Option Fitting → Want
wanted_in None = Refuse
wanted_in (Some w) = asked_in w

abbrev pub makes : ℕ → ℕ → ℕ → Want
makes kind a b = Make (term kind a b)

-- "match, key, pair or code does not fit"
abbrev pub fit : Bool → Want → Want
fit b w = pick b w Refuse

-- "sign needs y an inverse key, enc and symenc need y a key"
unfoldable pub sealed_by : ℕ → ℕ → Given → Want
sealed_by kind key g = fit (eqb g.second.kind key) (makes kind g.x g.second.a)

-- "verify yields a from a signature made by the inverse of key y; dec yields a where y is the inverse key; symdec where y
-- is the key"
unfoldable pub opened_by : ℕ → ℕ → Given → Want
opened_by kind key g =
    fit (eqb g.first.kind kind)
    (fit (eqb g.second.kind key)
    (fit (eqb g.first.b g.second.a) (Keep g.first.a)))

unfoldable pub first_half : Given → Want
first_half g = fit (eqb g.first.kind 9) (Keep g.first.a)

unfoldable pub second_half : Given → Want
second_half g = fit (eqb g.first.kind 9) (Keep g.first.b)

-- "match needs equal terms": equal terms have one label
unfoldable pub matched_of : Given → Want
matched_of g = fit (eqb g.x g.y) (Keep 0)

-- "jump needs a code term"
unfoldable pub code_needed : Given → Want
code_needed g = fit (eqb g.first.kind 8) (Keep 0)

unfoldable pub want_of : Action → Given → Want
want_of a g =
    pick (eqb a.op 0) (Keep g.value)
    (pick (eqb a.op 2) (makes 14 g.value g.x)
    (pick (eqb a.op 7) (sealed_by 10 5 g)
    (pick (eqb a.op 8) (opened_by 10 4 g)
    (pick (eqb a.op 9) (sealed_by 11 4 g)
    (pick (eqb a.op 10) (opened_by 11 5 g)
    (pick (eqb a.op 11) (sealed_by 12 4 g)
    (pick (eqb a.op 12) (opened_by 12 4 g)
    (pick (eqb a.op 13) (makes 13 g.x 0)
    (pick (eqb a.op 14) (makes 15 a.loc g.x)
    (pick (eqb a.op 15) (first_half g)
    (pick (eqb a.op 16) (second_half g)
    (pick (eqb a.op 17) (matched_of g)
    (pick (eqb a.op 18) (makes 7 g.nonce 0)
    (pick (eqb a.op 19) (code_needed g)
    (Keep 0)))))))))))))))
