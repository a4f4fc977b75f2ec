-- The model's machine as a search sees it: what comes of trying a code in a configuration. 'Every schedule runs from the
-- model's fresh configuration, its table the fixed and listed terms alone.' It is the machine on labels of crate `law`, with the
-- claim of crate `machine` and the real codes.
use Rattle.std.specs.Prelude.{ℕ, Bool, true, false, List, [], ◌++◌}
use Rattle.model.specs.declared.records.Model.{Model}
use Rattle.state.specs.Control.{up_from, fresh_control}
use Rattle.rules.specs.declared.event.Happening.{Happening}
use Rattle.machine.specs.Claim.{breaks_claim}
use Rattle.walk.specs.Machine.{Machine, Outcome}
use Rattle.law.specs.Machines.{LabelsConf, conf}
use Rattle.law.specs.Machines as L

-- 'Codes 0 to 11 .. Code 16 + 12s + r .. Code 160 + m'; '12 to 15 and 164 upwards are none'
unfoldable pub real_codes : List ℕ
real_codes = up_from (λ i. i) 12 0 ++ up_from (λ i. i) 148 16

-- event h breaks the model's claim, after the events hs
abbrev pub judge_of : Model → List Happening → Happening → Bool
judge_of m hs h = breaks_claim m.claim hs h

unfoldable pub try_code : Model → LabelsConf → ℕ → Outcome LabelsConf
try_code m c k = (L.labels (judge_of m) real_codes m).try c k

-- law's machine on labels, written out so that its step stays shut where a schedule is walked
abbrev pub labels : Model → Machine
labels m = record {
  Conf = LabelsConf;
  fresh = conf m.lines (fresh_control m) [];
  try = try_code m;
  codes = real_codes;
  none = 164;
}

-- the rules of crate `law` on terms written out whole, judged by the model's claim: with the limits of the table, and without
abbrev pub limited : Model → Machine
limited m = L.rules true (judge_of m) real_codes m

abbrev pub unlimited : Model → Machine
unlimited m = L.rules false (judge_of m) real_codes m
