use Rattle.std.proofs.Common.{length, ap, ◌∙◌, arith, length-set}
use Rattle.std.proofs.lemmas.List.{length-replicate}
use Rattle.trace.specs.Event.{no_event}
use Rattle.trace.proofs.Stood.{stood_start, stood_more, stood_end}
use Rattle.trace.proofs.verdict.judge_table.Goals as goal

pub loop-i-init : goal.loop-i-init
loop-i-init c =
    (stood_start c.args.records.now c.blank-es.result, ap length c.blank-es.ensures ∙ length-replicate 4096 no_event)

pub loop-i-preserved : goal.loop-i-preserved
loop-i-preserved c =
    let i = c.loop-i.i in
    let long = c.loop-i.invariant.1 in (
      rw (c.put_event.ensures, c.from.ensures, c.event_from.ensures)
          (c.loop-i.invariant.0 ∙ stood_more 4096 i c.args.records.now c.loop-i.es (omega arith) (omega (arith, long))),
      ap length c.put_event.ensures ∙ length-set c.loop-i.es c.from.result c.event_from.result ∙ long,
    )

pub returns : goal.returns
returns c =
    let long = c.loop-i.invariant.1 in
    rw (c.loop-i.invariant.0, stood_end 4096 c.loop-i.i c.args.records.now c.loop-i.es (omega arith) (omega (arith, long))) c.judge_claim.ensures
