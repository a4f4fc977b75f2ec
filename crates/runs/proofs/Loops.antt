-- One turn of the loop over codes: what stands already, and what is still to come.
use Prim.Native.Nat.{ℕ, ◌+◌, ◌<◌, ◌≤◌}
use mathlib.Core.List.{List}
use mathlib.Core.Path.{◌≡◌}
use native.Mathlib.Numerals.{add-one}
use native.Mathlib.Omega.{arith}
use lib.ListN.{length, get_or, take, drop, length-take, drop_of_length-le}
use lib.Seq.{drop-cons, get_or-take}
use Rattle.state.specs.declared.control.Control.{Control}
use Rattle.rules.specs.Made.{Layout}
use Rattle.runs.specs.Run.{ran, course, one_turn, go_by, steps_from}

-- one code of a run
module _ (codes : List ℕ) (n i : ℕ) (g : Layout) (k : ℕ) (l ans rs : List ℕ) (s : Control) (e : ℕ) where
  pub steps_more : i < n → n ≤ length codes
      → steps_from (drop i (take n codes)) i g k l ans rs s e
      ≡ go_by (one_turn g k l rs s e (get_or codes i 0)) ans i
      (λ u answered. steps_from (drop (i + 1) (take n codes)) (i + 1) g k u.table answered u.records u.out.control u.out.events)
  unfolding steps_from
  steps_more h w = rw (drop-cons (take n codes) i 0 (omega (arith, length-take n codes)), get_or-take n codes i 0 h, add-one)

  pub steps_end : n ≤ i → steps_from (drop i (take n codes)) i g k l ans rs s e ≡ course (ran s e i) l ans rs
  unfolding steps_from
  steps_end h = rw (drop_of_length-le (take n codes) {i = i} (omega (arith, length-take n codes)))
