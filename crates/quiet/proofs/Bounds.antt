-- A bound on the depths of a table's terms, kept from step to step.
use Prim.Native.Nat.{ℕ, ◌<◌, ◌≤◌}
use mathlib.Core.Path.{◌≡◌, refl, ap}
use mathlib.Core.Bool.{Bool, true, false}
use mathlib.Core.List.{List}
use native.Mathlib.Omega.{arith}
use lib.Dec.{ltb}
use borrow.Author.Tests.{ltb-true, ltb-false}
use Rattle.terms.specs.Line.{line_at, depth_in, depth_at}
use Rattle.terms.proofs.Back.{Grown}
use Rattle.model.specs.declared.records.Model.{Model}
use Rattle.quiet.specs.Quiet.{deepest, outline_of}
use Rattle.quiet.proofs.Deepest.{deepest_before, deepest_bounds}

-- d bounds the depths of the lines below c
abbrev pub Bounds : ℕ → List ℕ → ℕ → Type 0
Bounds d l c = (i : ℕ) → i < c → depth_at l i ≤ d

-- a table with more lines: what bounds the ones that were there, and the deepest of the others
pub deeper_bounds : (l k : List ℕ) (d c e : ℕ) → e ≤ 512 → ((i : ℕ) → i < c → line_at k i ≡ line_at l i) → Bounds d l c → Bounds (deepest k d c e) k e
deeper_bounds l k d c e room same most i h = go (ltb i c) refl
  where
    go : (b : Bool) → ltb i c ≡ b → depth_at k i ≤ deepest k d c e
    go true f =
        let low = ltb-true i c f in
        let a : depth_at k i ≡ depth_at l i = ap depth_in (same i low) in
        omega (arith, a, most i low, deepest_before k d c e)
    go false f = deepest_bounds k d c e i (ltb-false i c f) h (omega arith)

-- as every step leaves it
pub deeper_grown : {l : List ℕ} {c : ℕ} {k : List ℕ} {e : ℕ} (d : ℕ) → c ≤ 512 → Grown l c k e → Bounds d l c → Bounds (deepest k d c e) k e
deeper_grown {l} {c} {k} {e} d room g most = deeper_bounds l k d c e (g.fits room) g.below most

-- the listed terms, from which a search starts
pub listed_bounds : (m : Model) → m.count ≤ 512 → Bounds (outline_of m).deep m.lines m.count
unfolding outline_of
listed_bounds m room = deeper_bounds m.lines m.lines 0 0 m.count room (λ i h. refl) (λ i h. absurd (omega arith))
