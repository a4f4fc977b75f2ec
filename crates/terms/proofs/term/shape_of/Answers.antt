-- `terms::term::shape_of` meets its contract: a kind by its number; any other is past 15, four numbers at a time.
use Prim.Native.Nat.{ℕ, ◌≤◌}
use native.Mathlib.Omega.{arith}
use borrow.Author.Tests.{le-ltb, ne_eqb}
use Rattle.terms.proofs.Laws.{tests}
use Rattle.terms.specs.Term.{shape_of}
use Rattle.terms.proofs.term.shape_of.Goals as goal

pub returns-in-0 : goal.returns-in-0
unfolding shape_of
returns-in-0 c = search (tests, c.in-0.is)

pub returns-in-1 : goal.returns-in-1
unfolding shape_of
returns-in-1 c = search (tests, c.in-1.is)

pub returns-in-2 : goal.returns-in-2
unfolding shape_of
returns-in-2 c = search (tests, c.in-2.is)

pub returns-in-3 : goal.returns-in-3
unfolding shape_of
returns-in-3 c = search (tests, c.in-3.is)

pub returns-in-4 : goal.returns-in-4
unfolding shape_of
returns-in-4 c = search (tests, c.in-4.is)

pub returns-in-5 : goal.returns-in-5
unfolding shape_of
returns-in-5 c = search (tests, c.in-5.is)

pub returns-in-6 : goal.returns-in-6
unfolding shape_of
returns-in-6 c = search (tests, c.in-6.is)

pub returns-in-7 : goal.returns-in-7
unfolding shape_of
returns-in-7 c = search (tests, c.in-7.is)

pub returns-in-8 : goal.returns-in-8
unfolding shape_of
returns-in-8 c = search (tests, c.in-8.is)

pub returns-in-9 : goal.returns-in-9
unfolding shape_of
returns-in-9 c = search (tests, c.in-9.is)

pub returns-in-10 : goal.returns-in-10
unfolding shape_of
returns-in-10 c = search (tests, c.in-10.is)

pub returns-in-11 : goal.returns-in-11
unfolding shape_of
returns-in-11 c = search (tests, c.in-11.is)

pub returns-in-12 : goal.returns-in-12
unfolding shape_of
returns-in-12 c = search (tests, c.in-12.is)

pub returns-in-13 : goal.returns-in-13
unfolding shape_of
returns-in-13 c = search (tests, c.in-13.is)

pub returns-in-14 : goal.returns-in-14
unfolding shape_of
returns-in-14 c = search (tests, c.in-14.is)

pub returns-in-15 : goal.returns-in-15
unfolding shape_of
returns-in-15 c = search (tests, c.in-15.is)

pub returns-in_default : goal.returns-in_default
unfolding shape_of
returns-in_default c =
    let k : ℕ = c.args.kind in
    let h : 16 ≤ k = omega arith in
    rw (
      ne_eqb k 0 (omega (arith, h)),
      le-ltb k 3 (omega (arith, h)),
      le-ltb k 6 (omega (arith, h)),
      ne_eqb k 6 (omega (arith, h)),
      le-ltb k 9 (omega (arith, h)),
      ne_eqb k 9 (omega (arith, h)),
      le-ltb k 13 (omega (arith, h)),
      ne_eqb k 13 (omega (arith, h)),
      ne_eqb k 14 (omega (arith, h)),
      ne_eqb k 15 (omega (arith, h)),
    )
