-- Refusal 9 in document 01's own words: more new distinct terms than free entries. `Enters` and `Takes` say it by the
-- length of what would be known; here that is turned into the number of new terms against `free_entries`.
use Prim.Native.Nat.{ℕ, ◌-◌, ◌<◌, ◌≤◌}
use mathlib.Core.Path.{◌≡◌}
use mathlib.Core.List.{List}
use mathlib.Core.Logic.{◌↔◌}
use native.Mathlib.Omega.{arith}
use lib.ListN.{length}
use Rattle.terms.proofs.Laws.{free_is}
use Rattle.terms.specs.Table.{free_of}
use Rattle.terms.specs.Sound.{Sound}
use Rattle.terms.specs.Tree.{Tree}
use Rattle.terms.specs.Meaning.{trees}
use Rattle.terms.proofs.Meaning.{length_trees}
use Rattle.terms.proofs.Enter.{Longer, longer_length}

-- What is known after entering, ls, passes 512 exactly when more terms are new than entries are free. `enter` enters each term once, so what it adds is the new distinct terms.
pub room_out : {l : List ℕ} {c : ℕ} {ls : List Tree} → Sound l c → length l ≡ 512 → Longer (trees l c) ls
    → (512 < length ls) ↔ (free_of c < length ls - length (trees l c))
room_out {l} {c} {ls} s long g =
    let t : length (trees l c) ≡ c = length_trees l c long s.room in
    let f : free_of c ≡ 512 - c = free_is c in
    let m : length (trees l c) ≤ length ls = longer_length g in
    let r : c ≤ 512 = s.room in
    ((λ h. omega arith), (λ h. omega arith))
