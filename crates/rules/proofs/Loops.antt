-- One turn of each loop, for any type of labels and any f: what stands already, and what is still to come.
use Prim.Native.Nat.{ℕ, zero, suc, ◌+◌, ◌*◌, ◌/◌, ◌<◌, ◌≤◌}
use mathlib.Core.Bool.{Bool, true, false}
use mathlib.Core.List.{List, [], ◌∷◌, ◌++◌, append-nil, append_assoc}
use mathlib.Core.Path.{◌≡◌, refl, sym, ap, ◌∙◌}
use native.Mathlib.Numerals.{add-one}
use native.Mathlib.Omega.{arith}
use lib.ListN.{length, get_or, take, drop, set, length-set, drop_of_length-le}
use lib.Seq.{sets, drop-cons, take-suc-set, drop-set-lt, take_all}
use lib.ListN.{length-take, length-drop, replicate, length-replicate}
use Rattle.std.proofs.lemmas.Slice.{put_mid-paste}
use Rattle.std.proofs.lemmas.List.Edits.{paste_all, sets-eq}
use borrow.Rule.Slice.PartMut.{put_mid, mid_of}
use lib.Dec.{ltb}
use borrow.Author.Tests.{lt-ltb}
use Rattle.terms.specs.Base.{pick, filled}
use Rattle.terms.proofs.Back.{fill_long}
use Rattle.state.specs.Reset.{is_on}
use Rattle.rules.specs.Effect.{place_of, cleared}
use Rattle.rules.specs.Restart.{var_reset, each_slot}
use Rattle.rules.specs.Parts.{slot_cleared}

-- a part of a list written anew is its elements stored one after another
module _ {A : Type 0} (a : ℕ) (xs : List A) where
  pub put_sets : (k : ℕ) (ys : List A) → k ≡ length ys → a + k ≤ length xs → put_mid a k xs ys ≡ sets xs a ys
  put_sets k ys e h =
      put_mid-paste a k xs ys ys k refl refl e
      ∙ paste_all xs a ys k e
      ∙ sym (sets-eq ys xs a (omega (arith, e, h)) ∙ rw (← e, append_assoc))

-- filling is storing one value again and again
filled_sets : {A : Type 0} (v : A) (n i : ℕ) (l : List A) → filled v n i l ≡ sets l i (replicate n v)
unfolding filled
filled_sets v zero i l = refl
filled_sets v (suc n) i l = rw add-one (filled_sets v n (suc i) (set l i v))

pub put_filled : {A : Type 0} (v : A) (n i : ℕ) (l : List A) → i + n ≤ length l → put_mid i n l (replicate n v) ≡ filled v n i l
put_filled v n i l h = put_sets i l n (replicate n v) (sym (length-replicate n v)) h ∙ sym (filled_sets v n i l)

pub mid_long : {A : Type 0} (n i : ℕ) (l : List A) → i + n ≤ length l → length (mid_of i n l) ≡ n
mid_long n i l h = omega (arith, length-take n (drop i l), length-drop i l)

-- f of each variable and of its slot
module _ {A : Type 0} (f : A → ℕ → A) (l : List A) (r : List ℕ) (i : ℕ) where
  pub slot_more : (d : A) → i < length l
      → take i l ++ each_slot f i (drop i l) r
      ≡ take (i + 1) (set l i (f (get_or l i d) (get_or r (i / 16) 0))) ++ each_slot f (i + 1) (drop (i + 1) (set l i (f (get_or l i d) (get_or r (i / 16) 0)))) r
  unfolding each_slot
  slot_more d h =
      let v : A = f (get_or l i d) (get_or r (i / 16) 0) in
      rw (drop-cons l i d h, add-one, take-suc-set l i v h, drop-set-lt (suc i) l i v (omega arith), append_assoc)

  pub slot_end : length l ≤ i → take i l ++ each_slot f i (drop i l) r ≡ l
  unfolding each_slot
  slot_end h = rw (drop_of_length-le l h, append-nil, take_all i l h)

-- the same of all variables of a slot at once
module _ {A : Type 0} (f : A → ℕ → A) (r : List ℕ) where
  -- what stands already up to place i, and what is still to come
  abbrev pub up_to : List A → ℕ → List A
  up_to l i = take i l ++ each_slot f i (drop i l) r

  -- n places whose elements all become v
  all_put : (v : A) (n i : ℕ) (l : List A) → i + n ≤ length l → ((k : ℕ) → i ≤ k → k < i + n → (x : A) → f x (get_or r (k / 16) 0) ≡ v)
      → up_to l i ≡ up_to (filled v n i l) (i + n)
  unfolding filled
  all_put v zero i l h e = let z : i ≡ i + 0 = omega arith in ap (λ (j : ℕ). up_to l j) z
  all_put v (suc n) i l h e =
      let z : i + 1 + n ≡ i + suc n = omega arith in
      let h₁ : i + 1 + n ≤ length (set l i v) = rw (length-set l i v) (omega arith) in
      slot_more f l r i v (omega arith)
      ∙ ap (λ (w : A). up_to (set l i w) (i + 1)) (e i (omega arith) (omega arith) (get_or l i v))
      ∙ all_put v n (i + 1) (set l i v) h₁ (λ k a b x. e k (omega arith) (omega arith) x)
      ∙ ap (λ (j : ℕ). up_to (filled v n (i + 1) (set l i v)) j) z

  set_own : (l : List A) (i : ℕ) (d : A) → i < length l → set l i (get_or l i d) ≡ l
  set_own [] i d h = refl
  set_own (x ∷ xs) zero d h = refl
  set_own (x ∷ xs) (suc i) d h = ap (λ (m : List A). x ∷ m) (set_own xs i d (omega arith))

  -- n places whose elements all stay
  all_kept : (d : A) (n i : ℕ) (l : List A) → i + n ≤ length l → ((k : ℕ) → i ≤ k → k < i + n → (x : A) → f x (get_or r (k / 16) 0) ≡ x)
      → up_to l i ≡ up_to l (i + n)
  all_kept d zero i l h e = let z : i ≡ i + 0 = omega arith in ap (λ (j : ℕ). up_to l j) z
  all_kept d (suc n) i l h e =
      let z : i + 1 + n ≡ i + suc n = omega arith in
      slot_more f l r i d (omega arith)
      ∙ ap (λ (w : A). up_to (set l i w) (i + 1)) (e i (omega arith) (omega arith) (get_or l i d))
      ∙ ap (λ (m : List A). up_to m (i + 1)) (set_own l i d (omega arith))
      ∙ all_kept d n (i + 1) l (omega arith) (λ k a b x. e k (omega arith) (omega arith) x)
      ∙ ap (λ (j : ℕ). up_to l j) z

-- the variables of a slot are unbound, or stay
module _ {A : Type 0} (none : A) (m : ℕ) (r : List ℕ) (l : List A) (i : ℕ) where
  pub cleared_more : i < 12 → length l ≡ 192
      → up_to (var_reset none m) r l (i * 16) ≡ up_to (var_reset none m) r (slot_cleared none m l i (get_or r i 0)) ((i + 1) * 16)
  unfolding slot_cleared cleared place_of var_reset
  cleared_more h long = rw (lt-ltb i 12 h) (go (is_on (get_or r i 0) m) refl)
    where
      at : (k : ℕ) → i * 16 ≤ k → k < i * 16 + 16 → get_or r (k / 16) 0 ≡ get_or r i 0
      at k a b = let z : k / 16 ≡ i = omega arith in ap (λ (j : ℕ). get_or r j 0) z

      go : (b : Bool) → is_on (get_or r i 0) m ≡ b
          → up_to (var_reset none m) r l (i * 16) ≡ up_to (var_reset none m) r (pick b (filled none 16 (i * 16 + 0) l) l) ((i + 1) * 16)
      go true e =
          let z : i * 16 + 0 ≡ i * 16 = omega arith in
          let n : (i + 1) * 16 ≡ i * 16 + 16 = omega arith in
          rw (z, n) (all_put (var_reset none m) r none 16 (i * 16) l (omega arith) (λ k a b x. rw (at k a b, e)))
      go false e =
          let n : (i + 1) * 16 ≡ i * 16 + 16 = omega arith in
          rw n (all_kept (var_reset none m) r none 16 (i * 16) l (omega arith) (λ k a b x. rw (at k a b, e)))

pick_long : {A : Type 0} (b : Bool) (l k : List A) → length k ≡ length l → length (pick b k l) ≡ length l
pick_long true l k e = e
pick_long false l k e = refl

pub cleared_long : {A : Type 0} (none : A) (m : ℕ) (l : List A) (i n : ℕ) → length (slot_cleared none m l i n) ≡ length l
unfolding slot_cleared cleared
cleared_long none m l i n = pick_long (is_on n m) l _ (pick_long (ltb i 12) l _ (fill_long none 16 (place_of i 0) l))
