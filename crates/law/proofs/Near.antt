-- The rules with limits follow the rules without: they differ only where a limit refuses. So the machine on labels follows
-- the rules without limits, except where it says 8 or 9.
use Prim.Native.Nat.{ℕ}
use mathlib.Core.Path.{◌≡◌, refl}
use mathlib.Core.Bool.{Bool, true, false}
use mathlib.Core.List.{List}
use lib.ListN.{length}
use lib.Dec.{eqb, leb}
use Rattle.terms.specs.Base.{pick, Held, held}
use Rattle.terms.specs.Tree.{Tree}
use Rattle.model.specs.declared.records.Action.{Action}
use Rattle.model.specs.declared.records.Model.{Model}
use Rattle.state.specs.Code.{way_of}
use Rattle.state.specs.Early.{sight_of, early_of}
use Rattle.state.specs.declared.code.Way.{Way}
use Rattle.state.specs.declared.code.Way.TheVariants as W
use Rattle.state.specs.declared.control.Control.{Control}
use Rattle.rules.specs.Step.{refused_step, step_on}
use Rattle.rules.specs.Reply.{Stepped}
use Rattle.law.specs.Out.{Out, ok, refuse, and_then}
use Rattle.law.specs.Size.{fits}
use Rattle.rules.specs.Made.{layout_of}
use Rattle.law.specs.Rules.{State, Made, acts, action_of, go_by, step_r}
use Rattle.law.specs.Like.{Like, Exactly, Follows, Near, same, too_deep_lem, too_many, Fine}
use Rattle.law.proofs.Exact.{steps_exactly}

near_then : {A B : Type 0} {o p : Out A} {f g : A → Out B} → Near o p → ((a : A) → Near (f a) (g a)) → Near (and_then o f) (and_then p g)
unfolding and_then
near_then (same {o = ok a}) h = h a
near_then (same {o = refuse n}) h = same
near_then too_deep_lem h = too_deep_lem
near_then too_many h = too_many

near_pick : {A : Type 0} {o p q r : Out A} (b : Bool) → Near o p → Near q r → Near (pick b o q) (pick b p r)
near_pick true h k = h
near_pick false h k = k

fits_near : (n : ℕ) (ks : List Tree) → Near (fits true n ks) (fits false n ks)
unfolding fits
fits_near n ks = go (leb n 16) (leb (length ks) 512)
  where
    go : (a b : Bool) → Near (pick a (pick b (ok ks) (refuse 9)) (refuse 8)) (ok ks)
    go true true = same
    go true false = too_many
    go false b = too_deep_lem

acts_near : (m : Model) (d : State) (i : ℕ) (a : Action) → Near (acts true m d i a) (acts false m d i a)
unfolding acts
acts_near m d i a =
    near_then (fits_near _ _) (λ ks.
    near_then same (λ r.
    near_then (fits_near _ _) (λ ls. same)))

way_near : (w : Way) (m : Model) (d : State) (code : ℕ) → Near (go_by w true m d code) (go_by w false m d code)
way_near W.Nothing m d code = same
way_near (W.Advance i) m d code = near_then (acts_near m d i (action_of m d i)) (λ t. same)
way_near (W.Hand i j) m d code = near_then (acts_near m d i (action_of m d i)) (λ t. same)
way_near (W.Reset k) m d code = same

-- with limits and without: the same, unless a limit refuses
pub free : (m : Model) (d : State) (code : ℕ) → Near (step_r true m d code) (step_r false m d code)
unfolding step_r
free m d code =
    let n = early_of (sight_of d.config.frame m.actions m.locations m.machine_count) code in
    near_pick (eqb n 0) (way_near (way_of code) m d code) same

exactly_follows : {m : Model} {l : List ℕ} {s : Control} {w : Held Stepped} {o : Out Made} → Exactly m l s w o → Follows m l s w o
exactly_follows (Exactly.both h) = Follows.both h
exactly_follows Exactly.neither = Follows.neither

exactly_refused : {m : Model} {l : List ℕ} {s : Control} {w : Held Stepped} {n : ℕ} → Exactly m l s w (refuse n) → w ≡ held (refused_step n s) l
exactly_refused Exactly.neither = refl

near_follows : {m : Model} {l : List ℕ} {s : Control} {w : Held Stepped} {o p : Out Made} → Near o p → Exactly m l s w o → Follows m l s w p
near_follows same h = exactly_follows h
near_follows too_deep_lem h = rw (exactly_refused h) Follows.too_deep_lem
near_follows too_many h = rw (exactly_refused h) Follows.too_many

-- M5 for one step: what the machine permits or refuses for a reason other than size the rules without limits do too
pub follows : {m : Model} {l : List ℕ} {s : Control} {d : State} → Fine m → Like m l s d
    → (code : ℕ) → Follows m l s (step_on l s (layout_of m) m.machine_count code) (step_r false m d code)
follows {m} {d = d} fine k code = near_follows (free m d code) (steps_exactly fine k code)
