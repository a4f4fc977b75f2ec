use Prim.Native.Nat.{◌+◌}
use mathlib.Core.Path.{◌≡◌, refl, ◌∙◌}
use borrow.Author.Rules.{rules}
use native.Mathlib.Nat.{sub-zero}
use native.Mathlib.Omega.{arith}
use Rattle.lines.specs.Base.{byte_at}
use Rattle.lines.specs.Put.{seen, put_all, blank_and}
use Rattle.pages.proofs.Texts.{codes_more, codes_end}
use Rattle.pages.proofs.schedules.put_codes.Goals as goal

pub loop-i-init : goal.loop-i-init
loop-i-init c = (rw sub-zero, refl)

pub loop-i-preserved : goal.loop-i-preserved
loop-i-preserved c =
    let b : c.byte_behind-code.result ≡ byte_at c.args.room.now (c.args.start + (c.loop-i.i + 1)) = search rules in
    let f : seen c.put_field.new.self ≡ put_all (blank_and c.byte_behind-code.result) (seen c.loop-i.page) = search rules in (
      rw (
        c.loop-i.invariant.0,
        codes_more _ c.loop-i.i _ _ (seen c.loop-i.page) c.loop-i-test.true,
        ← b,
        ← f,
      ),
      c.put_field.ensures.same_bytes ∙ c.loop-i.invariant.1,
    )

pub returns-clause-written : goal.returns-clause-written
returns-clause-written c = rw (c.loop-i.invariant.0, codes_end c.args.length c.loop-i.i _ _ (seen c.loop-i.page) (omega arith))
