use Prim.Native.Nat.{◌<◌, ◌≤◌}
use mathlib.Core.Path.{◌≡◌, refl, sym, ◌∙◌}
use lib.ListN.{length}
use native.Mathlib.Omega.{arith}
use borrow.Author.Rules.{rules}
use Rattle.std.specs.Option.{option_flatten}
use Rattle.std.specs.Result.{result_ok}
use Rattle.lines.specs.Codes as C
use Rattle.lines.specs.Codes.{next_code}
use Rattle.lines.proofs.Lines.{next_moves}
use Rattle.pages.specs.RunText.{codes_read}
use Rattle.pages.proofs.Texts.{line_turn, read_some, read_none, code_put, code_none, code_full}
use Rattle.pages.proofs.answers.read_codes.Goals as goal

pub loop-count-init : goal.loop-count-init
unfolding codes_read
loop-count-init c = (refl, refl, search rules, search rules)

pub overflow_add-at : goal.overflow_add-at
overflow_add-at c =
    let q : c.flatten.result ≡ option_flatten (result_ok c.next_code.result) = search rules in
    let e : next_code c.rest_of.result.now ≡ C.Next c.in-Some.code.code c.in-Some.code.next = sym c.next_code.ensures ∙ read_some c.next_code.result c.in-Some.code (sym q ∙ c.in-Some.is) in
    let n = next_moves c.args.rest.now _ c.loop-count.at _ c.in-Some.code.next c.rest_of.ensures e in
    search rules

pub loop-count-preserved : goal.loop-count-preserved
loop-count-preserved c =
    let h : c.loop-count.count < length c.loop-count.codes = omega (arith, c.loop-count.invariant.1, c.loop-count-test.true) in
    let q : c.flatten.result ≡ option_flatten (result_ok c.next_code.result) = search rules in
    let e : next_code c.rest_of.result.now ≡ C.Next c.in-Some.code.code c.in-Some.code.next = sym c.next_code.ensures ∙ read_some c.next_code.result c.in-Some.code (sym q ∙ c.in-Some.is) in
    let n = next_moves c.args.rest.now _ c.loop-count.at _ c.in-Some.code.next c.rest_of.ensures e in (
      rw (
        c.loop-count.invariant.0,
        line_turn c.args.rest.now c.loop-count.at,
        ← n.is,
        ← c.rest_of.ensures,
        e,
        code_put c.loop-count.count c.loop-count.codes _ _ h,
      ),
      search rules,
      search rules,
      search rules,
    )

pub returns-in_default : goal.returns-in_default
returns-in_default c =
    let q : c.flatten.result ≡ option_flatten (result_ok c.next_code.result) = search rules in
    rw (
      c.loop-count.invariant.0,
      line_turn c.args.rest.now c.loop-count.at,
      ← c.rest_of.ensures,
      ← c.next_code.ensures,
      read_none c.next_code.result _ (sym q ∙ c.in_default.is),
      code_none,
    )

pub returns : goal.returns
returns c =
    let e : c.loop-count.count ≡ length c.loop-count.codes = omega (arith, c.loop-count.invariant.1) in
    let h : length c.loop-count.codes ≤ c.loop-count.count = omega (arith, c.loop-count.invariant.1) in
    rw (c.loop-count.invariant.0, code_full c.loop-count.count c.loop-count.codes _ h, e)
