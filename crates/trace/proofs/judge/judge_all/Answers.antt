-- `trace::judge::judge_all` meets its contract: the definition makes the same step by each of the same events, and past the
-- table, where an event is all zeros, a step changes nothing.
use Rattle.std.proofs.Common.{◌≡◌, ℕ, zero, suc, ◌+◌, ◌≤◌, List, length, get_or, take, drop, refl, sym, rules, ◌∙◌, Bool, true, false, arith}
use lib.ListN.{drop_of_length-le}
use lib.Dec.{ltb, leb}
use borrow.Author.Tests.{ltb-true, ltb-false}
use Rattle.std.specs.List.{fold}
use Rattle.std.proofs.lemmas.List.{get_or_past, drop_more}
use Rattle.std.proofs.lemmas.Iterator.{YieldsList-from_slice, YieldsList-from_take}
use Rattle.std.proofs.lemmas.Iterator.Consumers.{fold_from_yields_List}
use Rattle.terms.specs.Base.{pick}
use Rattle.model.specs.declared.records.Claim.{Claim}
use Rattle.machine.specs.Judge.{accepts_by, follow_by}
use Rattle.trace.specs.Event.{no_event, accepts_in, follow_in}
use Rattle.trace.specs.Judge.{judging, judge_from, judge_step}
use Rattle.trace.specs.declared.event.Event.{Event}
use Rattle.trace.specs.declared.judge.Judge.{Judge}
use Rattle.trace.proofs.judge.judge_all.Goals as goal

-- an event of all zeros
stays : (c : Claim) (j k : ℕ) → follow_in no_event j c k ≡ k
unfolding follow_in follow_by
stays c j k = by (leb c.length k)
  where
    by : (b : Bool) → pick b k k ≡ k
    by true = refl
    by false = refl

nothing : (j : Judge) → judge_step j no_event ≡ j
unfolding judge_step accepts_in accepts_by
nothing j = by j.closed refl
  where
    by : (b : Bool) → j.closed ≡ b → pick b j (judging j.claim j.upto j.serial (follow_in no_event j.serial j.claim j.at) false) ≡ j
    by true e = refl
    by false e = rw (stays j.claim j.serial j.at, sym e)

past : (n i : ℕ) (es : List Event) (j : Judge) → length es ≤ i → judge_from n i es j ≡ j
unfolding judge_from
past zero i es j h = refl
past (suc n) i es j h = rw (get_or_past es i no_event h, nothing j) (past n (i + 1) es j (omega (arith, h)))

-- the events from a place on
judge_of : (n i : ℕ) (es : List Event) (j : Judge) → fold judge_step j (take n (drop i es)) ≡ judge_from n i es j
unfolding judge_from
judge_of zero i es j = refl
judge_of (suc n) i es j = by (ltb i (length es)) refl (judge_of n (i + 1) es (judge_step j (get_or es i no_event)))
  where
    by : (b : Bool) → ltb i (length es) ≡ b
        → fold judge_step (judge_step j (get_or es i no_event)) (take n (drop (i + 1) es)) ≡ judge_from n (i + 1) es (judge_step j (get_or es i no_event))
        → fold judge_step j (take (suc n) (drop i es)) ≡ judge_from n (i + 1) es (judge_step j (get_or es i no_event))
    by true e h = rw (drop_more es i no_event (ltb-true i (length es) e)) h
    by false e h =
        let out = ltb-false i (length es) e in
        rw (drop_of_length-le es out) (sym (past (suc n) i es j out))

pub returns : goal.returns
returns c =
    let es = c.args.es.now in
    fold_from_yields_List _ judge_step c.args.j0 _ c.fold.ensures.ran (YieldsList-from_take c.args.j0.upto (YieldsList-from_slice es cc) (cc)) (λ a x b q k. search rules)
    ∙ judge_of c.args.j0.upto 0 es c.args.j0
