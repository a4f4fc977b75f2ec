-- The codes that a run reads: where the room takes them all, they stand at its front.
use Prim.Native.Nat.{ℕ, suc, ◌+◌, ◌≤◌}
use mathlib.Core.List.{List, [], ◌∷◌, ◌++◌}
use mathlib.Core.Path.{◌≡◌, ◌∙◌}
use native.Mathlib.Numerals.{add-one}
use native.Mathlib.Omega.{arith}
use lib.ListN.{length, take, drop, set, length-set}
use lib.Seq.{sets, sets-eq, take-append_seam}
use Rattle.terms.specs.Base.{held}
use Rattle.lines.specs.Line.{lines_of}
use Rattle.pages.specs.RunText.{codes_of, codes_put, codes_read}
use Rattle.pages.proofs.Texts.{code_put, code_none}

codes_put_lem : (cs : List ℕ) (n : ℕ) (room : List ℕ) → n + length cs ≤ length room → codes_put cs n room ≡ held (n + length cs) (sets room n cs)
codes_put_lem [] n room h = let z : n + 0 ≡ n = omega arith in rw z (code_none n room)
codes_put_lem (c ∷ cs) n room h =
    let e : n + 1 + length cs ≡ n + suc (length cs) = omega arith in
    let i : codes_put cs (n + 1) (set room n c) ≡ held (n + 1 + length cs) (sets (set room n c) (n + 1) cs) =
    codes_put_lem cs (n + 1) (set room n c) (omega (arith, length-set room n c)) in
    code_put n room c cs (omega arith) ∙ i ∙ rw (e, add-one n)

-- "R 160", "R 0", ..: what is handed to the run is the codes of the R lines, in order
pub codes_read_lem : (s room : List ℕ) → length (codes_of (lines_of s)) ≤ length room
    → take (codes_read s room).out (codes_read s room).table ≡ codes_of (lines_of s)
unfolding codes_read
codes_read_lem s room h =
    let cs : List ℕ = codes_of (lines_of s) in
    let e : sets room 0 cs ≡ cs ++ drop (0 + length cs) room = sets-eq cs room 0 (omega arith) in
    let z : 0 + length cs ≡ length cs = omega arith in
    rw (codes_put_lem cs 0 room (omega arith), e, z) (take-append_seam cs (drop (length cs) room))
