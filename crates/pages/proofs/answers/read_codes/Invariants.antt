-- `pages::answers::read_codes` meets its contract: the loop keeps that reading all lines gives what reading those
-- left gives.
use Prim.Native.Nat.{◌≤◌}
use mathlib.Core.Path.{◌≡◌}
use lib.ListN.{length, drop}
use Rattle.lines.specs.Line.{lines_of}
use Rattle.pages.specs.RunText.{codes_of, codes_put, codes_read}
use Rattle.pages.proofs.answers.read_codes.Given as goal

abbrev pub invariant-loop-count : goal.invariant-loop-count
invariant-loop-count l =
    (codes_read l.rest l.initial.codes ≡ codes_put (codes_of (lines_of (drop l.at l.rest))) l.count l.codes)
    × (length l.codes ≡ length l.initial.codes) × (l.at ≤ length l.rest) × (l.count ≤ l.at)
