-- The configuration at every schedule is sound, so what crate `quiet` says of sound configurations holds along all of them.
use Prim.Native.Nat.{ℕ}
use mathlib.Core.Bool.{Bool, true, false}
use mathlib.Core.List.{List, [], ◌∷◌}
use mathlib.Core.Path.{◌≡◌}
use lib.Dec.{eqb}
use Rattle.terms.specs.Base.{pick, Held}
use Rattle.model.specs.Fields.{either}
use Rattle.model.specs.declared.records.Model.{Model}
use Rattle.state.specs.declared.control.Control.{Control}
use Rattle.rules.specs.Step.{step_on}
use Rattle.rules.specs.Reply.{Reply, Refused, Permitted, Stepped}
use Rattle.audit.specs.Sound.{SoundModel}
use Rattle.audit.specs.Models.{sound_model}
use Rattle.audit.specs.Whole.{SoundConfig}
use Rattle.audit.specs.Whole as W
use Rattle.audit.proofs.Check.{test_model}
use Rattle.machine.specs.Claim.{breaks_claim}
use Rattle.walk.specs.Machine as O
use Rattle.walk.specs.Place.{landed, at}
use Rattle.rules.specs.Made.{layout_of}
use Rattle.law.specs.Machines.{LabelsConf, tried_by}
use Rattle.law.proofs.KeptFresh.{fresh_passes}
use Rattle.law.proofs.KeptStep.{step_sound}
use Rattle.quiet.proofs.Fitting.{fits_shallow, fits_near, fits_all}
use Rattle.quiet.proofs.Plain.{plain_ahead}
use Rattle.tries.specs.Labels.{judge_of, try_code, labels}
use Rattle.search.specs.Shown.{Arrays}
use Rattle.search.proofs.JoinStand.{Quiet}

module _ (m : Model) (S : SoundModel m) (A : W.Arrays m) where
  abbrev SoundAt : LabelsConf → Type 0
  SoundAt c = SoundConfig m c.table c.control

  -- what is not permitted leads nowhere
  not_size : (c : LabelsConf) (b : Bool) → SoundAt c → SoundAt (landed c (pick b O.too_big O.refused))
  not_size c true s = s
  not_size c false s = s

  unbroken : (c d : LabelsConf) (b : Bool) → SoundAt c → SoundAt d → SoundAt (landed c (pick b O.breaks (O.goes d)))
  unbroken c d true s t = s
  unbroken c d false s t = t

  landed_sound : (c : LabelsConf) (r : Reply) (s : Control) (l : List ℕ) → SoundAt c → SoundConfig m l s →
      SoundAt (landed c (tried_by (judge_of m) c.events r s l))
  landed_sound c (Refused n) s l a b = not_size c (either (eqb n 8) (eqb n 9)) a
  landed_sound c (Permitted h) s l a b = unbroken c _ (breaks_claim m.claim c.events h) a b

  try_sound : (c : LabelsConf) (k : ℕ) → SoundAt c → SoundAt (landed c (try_code m c k))
  unfolding try_code
  try_sound c k s =
      let w : Held Stepped = step_on c.table c.control (layout_of m) m.machine_count k in
      landed_sound c w.out.reply w.out.control w.table s (step_sound S A s k)

  pub at_sound : (up : List ℕ) → SoundConfig m (at (labels m) up).table (at (labels m) up).control
  unfolding at
  at_sound [] = fresh_passes S A
  at_sound (k ∷ up) = try_sound (at (labels m) up) k (at_sound up)

  pub quieting : Quiet m
  unfolding try_code
  quieting = record {
    soon = λ up d calm low b k.
        plain_ahead S A (at_sound up) calm (fits_shallow S A (at_sound up) d low b) (at (labels m) up).events k;
    near = λ up d calm low b k.
        plain_ahead S A (at_sound up) calm (fits_near S A (at_sound up) d low b) (at (labels m) up).events k;
    late = λ up calm fit k. plain_ahead S A (at_sound up) calm (fits_all S A (at_sound up) fit) (at (labels m) up).events k;
  }

pub quiet_along : (m : Model) → Arrays m → sound_model m ≡ true → Quiet m
quiet_along m a sound =
    quieting m (test_model {m = m} a.tables.lines sound) a.tables
