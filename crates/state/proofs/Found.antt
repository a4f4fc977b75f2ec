-- What `position` and `find` give, in the words of the definitions: the lowest free slot, and the next slot that sends.
use Prim.Native.Nat.{ℕ, zero, suc, ◌+◌, ◌-◌, ◌<◌, ◌≤◌}
use mathlib.Core.Bool.{Bool, true, false, not, cond}
use mathlib.Core.List.{List, [], ◌∷◌}
use mathlib.Core.Path.{◌≡◌, refl, sym, ap, ◌∙◌}
use native.Mathlib.Omega.{arith}
use lib.Dec.{ltb}
use lib.ListN.{length, set}
use denote.Param.Members.{Mut}
use denote.Ref.{Bor}
use Rattle.std.proofs.Common.{Option, Some, None, add-zero}
use Rattle.std.proofs.iter.Yields.{nat_range_steps}
use Rattle.std.proofs.lemmas.Iterator.{YieldsList-from_range}
use Rattle.std.proofs.lemmas.Iterator.Search.{find_from_yields_List}
use Rattle.std.specs.Bool.{⊤}
use Rattle.std.specs.Fn.{CalledAt}
use Rattle.std.specs.Iterator.{YieldsThen}
use Rattle.std.specs.List.{FoldsTo, find, position_or_len, range_with_len}
use Rattle.std.specs.Option.{MatchOption, is_some, option_map, unwrap_or}
use Rattle.std.specs.declared.ops.Range.{Range}
use Rattle.terms.specs.Base.{pick}
use Rattle.state.specs.Slot.{slot_in, lowest_in, lowest_free, free_slot}
use Rattle.state.specs.Moves.{with_slot}
use Rattle.state.specs.Seek.{sends, sender_in, next_sender, NextSender}

-- the lowest free slot: the first of which this test holds

abbrev pub free_at : ℕ → Bool
free_at n = not (slot_in n).live

lowest_by : (b : Bool) (i k r : ℕ) → r ≡ i + 1 + k → pick b r i ≡ i + cond (not (not b)) (1 + k) 0
lowest_by true i k r e = rw e (omega arith)
lowest_by false i k r e = sym (add-zero i)

lowest_is : (l : List ℕ) (i : ℕ) → lowest_in i l ≡ i + position_or_len free_at l
unfolding lowest_in
lowest_is [] i = sym (add-zero i)
lowest_is (n ∷ ns) i = lowest_by (slot_in n).live i (position_or_len free_at ns) (lowest_in (i + 1) ns) (lowest_is ns (i + 1))

found_by : (b : Bool) (k : ℕ) → cond b (Some k) None ≡ pick b (Some k) None
found_by true k = refl
found_by false k = refl

pub lowest_found : (l : List ℕ) (r : Option ℕ) → r ≡ cond (ltb (position_or_len free_at l) (length l)) (Some (position_or_len free_at l)) None
    → length l ≡ 12 → r ≡ free_slot l
unfolding free_slot lowest_free
lowest_found l r found long =
    let e : lowest_in 0 l ≡ position_or_len free_at l = lowest_is l 0 ∙ omega arith in
    rw (found, e, long) (found_by (ltb (position_or_len free_at l) 12) (position_or_len free_at l))

no_some : {k : ℕ} → ◌≡◌ {A = Option ℕ} (Some k) None → ⊥
no_some e = no (ap is_some e)
  where
    no : true ≡ false → ⊥
    no e = let z : ◌≡◌ {A = ℕ} 0 1 = cc in absurd (omega arith)

-- a boot thread is put where a free slot was found, and nowhere where none was
pub free_some : (l : List ℕ) (i : ℕ) → Some i ≡ free_slot l → i ≡ lowest_free l
unfolding free_slot
free_some l i e = by (ltb (lowest_free l) 12) e
  where
    by : (b : Bool) → Some i ≡ pick b (Some (lowest_free l)) None → i ≡ lowest_free l
    by true h = cc
    by false h = absurd (no_some h)

pub free_none : (l : List ℕ) (n : ℕ) → None ≡ free_slot l → with_slot l (lowest_free l) n ≡ l
unfolding free_slot with_slot
free_none l n e = by (ltb (lowest_free l) 12) e
  where
    by : (b : Bool) → None ≡ pick b (Some (lowest_free l)) None → pick b (set l (lowest_free l) n) l ≡ l
    by true h = absurd (no_some (sym h))
    by false h = refl

-- the next slot that sends

none_of : (r : Option ℕ) → option_map (λ (x : ℕ). x) r ≡ r
none_of None = refl
none_of (Some x) = refl

module _ (slots actions : List ℕ) where
  sender_by : (b : Bool) (i r : ℕ) (o : Option ℕ) → unwrap_or o 12 ≡ r → unwrap_or (cond b (Some i) o) 12 ≡ pick b i r
  sender_by true i r o e = refl
  sender_by false i r o e = e

  sender_is : (n i : ℕ) → unwrap_or (find (sends slots actions) (range_with_len i n)) 12 ≡ sender_in n slots actions i
  unfolding sender_in
  sender_is zero i = refl
  sender_is (suc n) i = sender_by (sends slots actions i) i _ _ (sender_is n (i + 1))

  small_by : (b : Bool) (i r : ℕ) → i ≤ 12 → r ≤ 12 → pick b i r ≤ 12
  small_by true i r h k = h
  small_by false i r h k = k

  sender_small : (n i : ℕ) → (0 < n → i + n ≤ 12) → sender_in n slots actions i ≤ 12
  unfolding sender_in
  sender_small zero i h = omega arith
  sender_small (suc n) i h =
      let k = h (omega arith) in
      small_by (sends slots actions i) i _ (omega (arith, k)) (sender_small n (i + 1) (λ l. omega (arith, k)))

  pub sender_found : {F : Type 0} {g : Mut F (Bor ℕ × Unit {0}) Bool} (i : ℕ) (u : Range ℕ) (f : F) (r : Option ℕ)
      → (xs : List ℕ) × (j : F) × YieldsThen nat_range_steps (record { start = i; end = 12 }) xs r u × FoldsTo (λ p x q. CalledAt g p x false q) f xs j × MatchOption r ⊤ (λ x. (h : F) × CalledAt g j x true h)
      → ((x : ℕ) (b : Bool) (q : F) → CalledAt g f x b q → (q ≡ f) × (b ≡ sends slots actions x))
      → NextSender slots actions i (unwrap_or r 12)
  unfolding next_sender
  sender_found i u f r ran call =
      let e : r ≡ find (sends slots actions) (range_with_len i (12 - i)) =
      sym (none_of r) ∙ find_from_yields_List (sends slots actions) u f r ran (YieldsList-from_range i 12 (12 - i) refl refl) call in
      let t : unwrap_or r 12 ≡ sender_in (12 - i) slots actions i = ap (λ o. unwrap_or o 12) e ∙ sender_is (12 - i) i in
      record { is = t; small = rw t (sender_small (12 - i) i (λ h. omega arith)) }
