-- 'Turned down', whole: the reasons for which a step is refused, each a test of its own, in the order in which they are
-- asked. "Order: 11; 1 to 7; the operands (8, then 9); 10; the result (8, then 9)." 11 is asked of model and configuration.
use Rattle.std.specs.Prelude.{ℕ, max, Bool, true, false, List, [], ◌∷◌, ◌++◌, length, ltb}
use Rattle.terms.specs.Base.{Held}
use Rattle.terms.specs.Tree.{Tree, nought, deepness, enter}
use Rattle.model.specs.declared.records.Action.{Action}
use Rattle.model.specs.declared.records.Model.{Model}
use Rattle.state.specs.Reason.{Reason, reason}
use Rattle.state.specs.Code.{way_of}
use Rattle.state.specs.Control.{value_at}
use Rattle.state.specs.Early.{sight_of, reasons}
use Rattle.state.specs.declared.code.Way.{Way}
use Rattle.state.specs.declared.code.Way.TheVariants as W
use Rattle.rules.specs.Reply.{Reply, Refused, Permitted, Stepped}
use Rattle.law.specs.Out.{Out, ok, refuse}
use Rattle.law.specs.Act.{result}
use Rattle.law.specs.Rules.{State, operand, action_of}

-- the number of a refusal, 0 where there is none
abbrev pub refusal_in : {A : Type 0} → Out A → ℕ
refusal_in (ok a) = 0
refusal_in (refuse n) = n

abbrev pub reply_number : Reply → ℕ
reply_number (Refused n) = n
reply_number (Permitted h) = 0

-- the machine's answer to a step: its number, 0 where the step is permitted
abbrev pub turned_by : Held Stepped → ℕ
turned_by w = reply_number w.out.reply

-- "a term would be deeper than 16"
abbrev pub too_deep : ℕ → Bool
too_deep n = ltb 16 n

-- what would be known passes the 512 of the table: "more new distinct terms than free entries" (`room_out` of `terms`)
abbrev pub too_many : List Tree → Bool
too_many ks = ltb 512 (length ks)

-- "match, key, pair or code does not fit"
abbrev pub unfit : Out Tree → Bool
unfit (ok r) = false
unfit (refuse n) = true

-- the result, where it fits
abbrev pub yielded : Out Tree → Tree
yielded (ok r) = r
yielded (refuse n) = nought

-- 8, 9 of ground x and y; 10; 8, 9 of the result: ks is known with the operands
abbrev pub term_reasons : List Tree → Tree → Tree → Out Tree → List Reason
term_reasons ks x y o =
    reason (too_deep (max (deepness x) (deepness y))) 8
    ∷ reason (too_many ks) 9
    ∷ reason (unfit o) 10
    ∷ reason (too_deep (deepness (yielded o))) 8
    ∷ reason (too_many (enter ks (yielded o))) 9
    ∷ []

-- of action a of the thread in slot i
unfoldable pub act_reasons : Model → State → ℕ → Action → List Reason
act_reasons m d i a =
    let x = operand m d i a.x in
    let y = operand m d i a.y in
    term_reasons (enter (enter d.known x) y) x y (result a (value_at nought d.config.values a.loc) x y d.config.frame.nonce)

-- a reset has no terms
abbrev pub work_reasons : Way → Model → State → List Reason
work_reasons W.Nothing m d = []
work_reasons (W.Advance i) m d = act_reasons m d i (action_of m d i)
work_reasons (W.Hand i j) m d = act_reasons m d i (action_of m d i)
work_reasons (W.Reset k) m d = []

-- all of a step
unfoldable pub step_reasons : Model → State → ℕ → List Reason
step_reasons m d code =
    reasons (sight_of d.config.frame m.actions m.locations m.machine_count) (way_of code) ++ work_reasons (way_of code) m d
