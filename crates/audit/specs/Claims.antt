-- "Kind 0 (boot) or 1 (launch), a program v, a machine m, a path of 1 to 4 programs": all listed; past the path stands 0.
use Rattle.std.specs.Prelude.{ℕ, Bool, List, get_or, eqb, ltb, leb}
use Rattle.terms.specs.Base.{pick, also}
use Rattle.model.specs.declared.records.Claim.{Claim}
use Rattle.terms.specs.Each.{each}

unfoldable pub path_program : ℕ → Bool → ℕ → Bool
path_program p listed programs = pick listed (ltb p programs) (eqb p 0)

unfoldable pub path_sound : List ℕ → ℕ → ℕ → Bool
path_sound ps length programs = each 4 (λ i. path_program (get_or ps i 0) (ltb i length) programs)

unfoldable pub claim_sound : Claim → ℕ → ℕ → Bool
claim_sound c programs machines =
    also (ltb c.kind 2)
    (also (ltb c.program programs)
    (also (ltb c.machine machines)
    (also (leb 1 c.length)
    (also (leb c.length 4)
    (path_sound c.path c.length programs)))))
