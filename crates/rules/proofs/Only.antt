-- What the code answers is fixed by what the definitions say of it: no two answers read alike.
use Prim.Native.Nat.{ℕ}
use mathlib.Core.Path.{◌≡◌, refl, sym, ap, ◌∙◌}
use Rattle.std.specs.Prelude.{Result, Ok, Err, Option, Some, None}
use Rattle.state.specs.declared.control.Control.{Control}
use Rattle.state.specs.declared.refusal.Refusal.{Refusal}
use Rattle.state.specs.Refusal.{number_of}
use Rattle.state.proofs.Refusals.{number_one}
use Rattle.rules.specs.Reply.{Reply, Stepped}
use Rattle.rules.specs.Reply as R
use Rattle.rules.specs.Worked.{Worked}
use Rattle.rules.specs.Worked as W
use Rattle.rules.specs.Want.{wanted_in}
use Rattle.rules.specs.Work.{tried_in, worked_in}
use Rattle.rules.specs.Out.{Out, Tried}
use Rattle.rules.specs.Out as U
use Rattle.rules.specs.Step.{stepped_in}
use Rattle.rules.specs.declared.event.Happening.{Happening}
use Rattle.rules.specs.declared.want.Want.{Want}
use Rattle.rules.specs.declared.want.Want.TheVariants.{Keep, Make}
use Rattle.rules.specs.declared.work.Labels.{Labels}
use Rattle.rules.specs.declared.work.Met.{Met}

abbrev number_in : Worked → ℕ
number_in (W.Refused n) = n
number_in (W.Done l) = 0

pub worked_one : (r q : Result Labels Refusal) → worked_in r ≡ worked_in q → r ≡ q
worked_one (Ok l) (Ok k) e = cc
worked_one (Ok l) (Err q) e = cc
worked_one (Err r) (Ok k) e = cc
worked_one (Err r) (Err q) e = ap (λ (x : Refusal). Err x) (number_one r q (ap number_in e))

abbrev number_by : Reply → ℕ
number_by (R.Refused n) = n
number_by (R.Permitted h) = 0

reply_one : (r q : Result Happening Refusal) (s t : Control) → (stepped_in r s).reply ≡ (stepped_in q t).reply → r ≡ q
reply_one (Ok h) (Ok k) s t e = cc
reply_one (Ok h) (Err q) s t e = cc
reply_one (Err r) (Ok k) s t e = cc
reply_one (Err r) (Err q) s t e = ap (λ (x : Refusal). Err x) (number_one r q (ap number_by e))

control_is : (r : Result Happening Refusal) (s : Control) → (stepped_in r s).control ≡ s
control_is (Ok h) s = refl
control_is (Err r) s = refl

pub stepped_one : (r q : Result Happening Refusal) (s t : Control) → stepped_in r s ≡ stepped_in q t → (r ≡ q) × (s ≡ t)
stepped_one r q s t e = (
  reply_one r q s t (ap (λ (w : Stepped). w.reply) e),
  rw (← control_is r s, ← control_is q t, e),
)

pub wanted_one : (r q : Option Want) → wanted_in r ≡ wanted_in q → r ≡ q
wanted_one None None e = refl
wanted_one None (Some (Keep k)) e = cc
wanted_one None (Some (Make k)) e = cc
wanted_one (Some (Keep r)) None e = cc
wanted_one (Some (Make r)) None e = cc
wanted_one (Some (Keep r)) (Some (Keep k)) e = cc
wanted_one (Some (Keep r)) (Some (Make k)) e = cc
wanted_one (Some (Make r)) (Some (Keep k)) e = cc
wanted_one (Some (Make r)) (Some (Make k)) e = cc

abbrev label_by : Out → ℕ
label_by (U.Label v) = v
label_by (U.Refused n) = 0

abbrev refused_as : Out → ℕ
refused_as (U.Refused n) = n
refused_as (U.Label v) = 0

abbrev met_as : ℕ → ℕ → ℕ → Met
met_as x y v = record { x = x; y = y; result = v }

met_one : (r q : Result Met Refusal) (c d : ℕ) → tried_in r c ≡ tried_in q d → r ≡ q
met_one (Ok m) (Ok k) c d e = ap (λ (x : Met). Ok x) (ap (λ (w : Tried). met_as w.x w.y (label_by w.out)) e)
met_one (Ok m) (Err q) c d e = let h : U.Label m.result ≡ U.Refused (number_of q) = ap (λ (w : Tried). w.out) e in cc
met_one (Err r) (Ok k) c d e = let h : U.Refused (number_of r) ≡ U.Label k.result = ap (λ (w : Tried). w.out) e in cc
met_one (Err r) (Err q) c d e = ap (λ (x : Refusal). Err x) (number_one r q (ap (λ (w : Tried). refused_as w.out) e))

count_is : (r : Result Met Refusal) (c : ℕ) → (tried_in r c).count ≡ c
count_is (Ok m) c = refl
count_is (Err r) c = refl

-- what an action comes to, and the count of terms that it leaves
pub tried_one : (r q : Result Met Refusal) (c d : ℕ) → tried_in r c ≡ tried_in q d → (r ≡ q) × (c ≡ d)
tried_one r q c d e = (met_one r q c d e, sym (count_is r c) ∙ ap (λ (w : Tried). w.count) e ∙ count_is q d)
