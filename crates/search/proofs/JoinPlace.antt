-- Places as the program keeps them are the walk's places in an array: to settle, to go back and to go on mean the same.
use Prim.Native.Nat.{ℕ, zero, suc, ◌+◌, ◌-◌, ◌%◌, ◌<◌, ◌≤◌}
use mathlib.Core.Bool.{Bool, true, false}
use mathlib.Core.List.{List}
use mathlib.Core.Path.{◌≡◌, refl, sym, ap, ◌∙◌}
use native.Mathlib.Omega.{arith}
use lib.ListN.{get_or, set}
use lib.Dec.{ltb}
use borrow.Author.Tests.{ltb-true, ltb-false, lt-ltb}
use Rattle.terms.specs.Base.{pick}
use Rattle.model.specs.declared.records.Model.{Model}
use Rattle.state.specs.Code.{is_code, code_after}
use Rattle.walk.specs.Machine.{Machine}
use Rattle.walk.specs.Place.{from}
use Rattle.walk.specs.Array.{Spot, settled_in}
use Rattle.walk.proofs.Codes.{from_zero}
use Rattle.walk.proofs.Loop.{settled_here}
use Rattle.tries.specs.Labels.{real_codes, labels}
use Rattle.tries.proofs.Codes.{is_next, past_codes, from_code, from_after, next_low, next_high, after_next}
use Rattle.search.specs.Place.{place, code_put, code_in, pushed, popped, is_done, settle_by, settle_in, settled}
use Rattle.search.specs.Shown.{spot_of}
use Rattle.search.specs.declared.place.Place.{Place}

abbrev pub spot : List ℕ → ℕ → ℕ → Spot
spot cs j k = record { codes = cs; len = j; next = k }

module _ (m : Model) where
  abbrev M : Machine
  M = labels m

  -- at a code of the schedule
  pub settle_code : (cs : List ℕ) (j k : ℕ) → is_code k ≡ true → settled_in M cs j (from k real_codes) ≡ spot cs j k
  settle_code cs j k e = rw (from_code k e) (settled_here M cs j k (from (suc k) real_codes))

  pub settle_start : (cs : List ℕ) (j : ℕ) → settled_in M cs j real_codes ≡ spot cs j 0
  unfolding is_code
  settle_start cs j = ap (settled_in M cs j) (sym (from_zero real_codes)) ∙ settle_code cs j 0 refl

  pop_is : (cs : List ℕ) (j next : ℕ) → suc j ≤ 24 → popped (place cs (suc j) next) ≡ place (set cs j 0) j (code_after (get_or cs j 0))
  unfolding popped code_put code_in
  pop_is cs j next h =
      let e : suc j - 1 ≡ j = omega arith in
      let d : j % 24 ≡ j = omega arith in
      rw (e, d)

  back_one : (cs : List ℕ) (j next : ℕ) → 164 ≤ next → settled_in M cs (suc j) (from next real_codes) ≡ settled_in M (set cs j 0) j
      (from (code_after (get_or cs j 0)) real_codes)
  unfolding settled_in
  back_one cs j next h = rw (past_codes next h, from_after (get_or cs j 0))

  settle_by_lem : (b : Bool) (cs : List ℕ) (j next : ℕ) → suc j ≤ 24 → is_next next ≡ true → ltb next 164 ≡ b →
      spot_of (settle_in j (place (set cs j 0) j (code_after (get_or cs j 0)))) ≡ settled_in M (set cs j 0) j (from (code_after (get_or cs j 0)) real_codes) →
      spot_of (settle_by (pick b false (ltb 0 (suc j))) (place cs (suc j) next) (λ q. settle_in j q)) ≡ settled_in M cs (suc j) (from next real_codes)
  settle_by_lem true cs j next h e f ih = sym (settle_code cs (suc j) next (next_low next e (ltb-true next 164 f)))
  settle_by_lem false cs j next h e f ih =
      rw (lt-ltb 0 (suc j) (omega arith), pop_is cs j next h) (ih ∙ sym (back_one cs j next (ltb-false next 164 f)))

  settle_none : (b : Bool) (cs : List ℕ) (next : ℕ) → is_next next ≡ true → ltb next 164 ≡ b → spot cs 0 next ≡ settled_in M cs 0 (from next real_codes)
  unfolding settled_in
  settle_none true cs next e f = sym (settle_code cs 0 next (next_low next e (ltb-true next 164 f)))
  settle_none false cs next e f =
      let h : 164 ≤ next = ltb-false next 164 f in
      rw (past_codes next h, next_high next e h)

  settle_in_lem : (cs : List ℕ) (j next : ℕ) → j ≤ 24 → is_next next ≡ true → spot_of (settle_in j (place cs j next)) ≡ settled_in M cs j (from next real_codes)
  unfolding settle_in is_done
  settle_in_lem cs zero next h e = settle_none (ltb next 164) cs next e refl
  settle_in_lem cs (suc j) next h e =
      settle_by_lem (ltb next 164) cs j next h e refl
      (settle_in_lem (set cs j 0) j (code_after (get_or cs j 0)) (omega arith) (after_next (get_or cs j 0)))

  -- back to where a code is left, or to the end
  pub settle_is : (p : Place) → p.length ≤ 24 → is_next p.next ≡ true → spot_of (settled p) ≡ settled_in M p.codes p.length (from p.next real_codes)
  unfolding settled
  settle_is p h e = settle_in_lem p.codes p.length p.next h e

  -- one code longer
  pub push_is : (p : Place) (k : ℕ) → p.length < 24 → k < 256 → pushed p k ≡ place (set p.codes p.length k) (suc p.length) 0
  unfolding pushed code_put
  push_is p k h l =
      let e : k % 256 ≡ k = omega arith in
      let f : p.length % 255 + 1 ≡ suc p.length = omega arith in
      let d : p.length % 24 ≡ p.length = omega arith in
      rw (d, e, f)
