-- The claim looks at no label: events with their labels taken out are judged alike.
use Prim.Native.Nat.{ℕ}
use mathlib.Core.Path.{◌≡◌, refl, ap₂}
use mathlib.Core.List.{List, [], ◌∷◌, ◌++◌, map}
use Rattle.model.specs.declared.records.Claim.{Claim}
use Rattle.rules.specs.declared.event.Event.{Event}
use Rattle.rules.specs.declared.event.Event.TheVariants.{Jump, Launch, Reset, HandOver, Action}
use Rattle.rules.specs.declared.event.Happening.{Happening}
use Rattle.machine.specs.Claim.{accepts_of, made_by, made_in, jump_by, jumps_of, begins_with, path_of, walked_in, breaks_claim}
use Rattle.machine.proofs.Judged.{some_same}
use Rattle.law.specs.Meant.{bare_event, bare}
use Rattle.law.specs.Machines.{Blind}

accepts_blind : (v : ℕ) (h : Happening) → accepts_of v (bare h) ≡ accepts_of v h
unfolding accepts_of bare
accepts_blind v h = refl

made_by_blind : (c : Claim) (e : Event) → made_by c (bare_event e) ≡ made_by c e
made_by_blind c (Jump d p) = refl
made_by_blind c (Launch d m j) = refl
made_by_blind c (Reset m j) = refl
made_by_blind c (HandOver d j) = refl
made_by_blind c (Action d op) = refl

made_blind : (c : Claim) (hs : List Happening) → made_in c (map bare hs) ≡ made_in c hs
unfolding made_in bare
made_blind c [] = refl
made_blind c (h ∷ hs) = ap₂ (λ (a b : List ℕ). a ++ b) (made_by_blind c h.event) (made_blind c hs)

jump_by_blind : (j : ℕ) (e : Event) → jump_by j (bare_event e) ≡ jump_by j e
jump_by_blind j (Jump d p) = refl
jump_by_blind j (Launch d m k) = refl
jump_by_blind j (Reset m k) = refl
jump_by_blind j (HandOver d k) = refl
jump_by_blind j (Action d op) = refl

jumps_blind : (j : ℕ) (hs : List Happening) → jumps_of j (map bare hs) ≡ jumps_of j hs
unfolding jumps_of bare
jumps_blind j [] = refl
jumps_blind j (h ∷ hs) = ap₂ (λ (a b : List ℕ). a ++ b) (jump_by_blind j h.event) (jumps_blind j hs)

walked_blind : (c : Claim) (hs : List Happening) → walked_in c (map bare hs) ≡ walked_in c hs
unfolding walked_in
walked_blind c hs =
    rw (made_blind c hs)
    (some_same (λ j. begins_with (path_of c) (jumps_of j (map bare hs))) (λ j. begins_with (path_of c) (jumps_of j hs)) (λ j. rw (jumps_blind j hs)) (made_in c hs))

pub claim_blind : (c : Claim) → Blind (breaks_claim c)
unfolding breaks_claim
claim_blind c hs h = rw (accepts_blind c.program h, walked_blind c hs)
