-- What `array::from_fn` and `map` give, in the words of the definitions: each lemma takes what one call of the closure gives.
use Prim.Native.Nat.{ℕ, zero, suc, ◌+◌, ◌<◌}
use mathlib.Core.List.{List, map}
use mathlib.Core.Path.{◌≡◌, ap, sym, subst, ◌∙◌}
use native.Mathlib.Omega.{arith}
use lib.ListN.{length, get_or}
use denote.Param.Members.{Mut}
use Rattle.std.proofs.Common.{zero-add}
use Rattle.std.proofs.lemmas.List.{ext_get_or, get_or-map, length-map}
use Rattle.std.specs.Fn.{Called}
use Rattle.std.specs.Array.{IsFromFnResult, IsFromFnResultFrom, IsMapOf, MapsFrom}
use Rattle.state.specs.Control.{up_from}
use Rattle.state.proofs.Laws.{up_at, up_long}

-- `array::from_fn(|i| h(i))`
module _ {F B : Type 0} {g : Mut F (ℕ × Unit {0}) B} {f : F} (h : ℕ → B) where
  filled_at : (ys : List B) (n i : ℕ) → IsFromFnResultFrom g f ys i n → ((x : ℕ) (y : B) (q : F) → Called g f (x, tt) y q → (q ≡ f) × (y ≡ h x))
      → (k j : ℕ) (d : B) → k < n → j ≡ i + k → get_or ys j d ≡ h j
  filled_at ys zero i e c k j d l s = absurd (omega arith)
  filled_at ys (suc n) i (q, y, at, called, rest) c zero j d l s =
      let t : j ≡ i = omega (arith, s) in
      rw t (at.1 d ∙ (c i y q called).1)
  filled_at ys (suc n) i (q, y, at, called, rest) c (suc k) j d l s =
      let r : IsFromFnResultFrom g f ys (i + 1) n = subst (λ p. IsFromFnResultFrom g p ys (i + 1) n) (c i y q called).0 rest in
      filled_at ys n (i + 1) r c k j d (omega arith) (omega (arith, s))

  pub filled : (ys : List B) (n : ℕ) → B → IsFromFnResult g f ys n → ((x : ℕ) (y : B) (q : F) → Called g f (x, tt) y q → (q ≡ f) × (y ≡ h x))
      → ys ≡ up_from h n 0
  filled ys n d e c =
      ext_get_or d ys (up_from h n 0) (e.long ∙ sym (up_long h n 0))
      (λ i l. let k : i < n = subst (λ p. i < p) e.long l in filled_at ys n 0 e.each c i i d k (omega arith) ∙ sym (up_at h n 0 i d k ∙ ap h (zero-add i)))

-- `xs.map(|x| h(x))`
module _ {F A B : Type 0} {g : Mut F (A × Unit {0}) B} {f : F} (h : A → B) where
  mapped_at : (xs : List A) (ys : List B) (n i : ℕ) → MapsFrom g f xs ys i n → ((x : A) (y : B) (q : F) → Called g f (x, tt) y q → (q ≡ f) × (y ≡ h x))
      → (k j : ℕ) (a : A) (d : B) → k < n → j ≡ i + k → get_or ys j d ≡ h (get_or xs j a)
  mapped_at xs ys zero i e c k j a d l s = absurd (omega arith)
  mapped_at xs ys (suc n) i (q, x, y, from, at, called, rest) c zero j a d l s =
      let t : j ≡ i = omega (arith, s) in
      rw (t, from.1 a) (at.1 d ∙ (c x y q called).1)
  mapped_at xs ys (suc n) i (q, x, y, from, at, called, rest) c (suc k) j a d l s =
      let r : MapsFrom g f xs ys (i + 1) n = subst (λ p. MapsFrom g p xs ys (i + 1) n) (c x y q called).0 rest in
      mapped_at xs ys n (i + 1) r c k j a d (omega arith) (omega (arith, s))

  -- place by place
  pub mapped_to : (xs : List A) (ys : List B) (n : ℕ) → IsMapOf g f xs ys n → ((x : A) (y : B) (q : F) → Called g f (x, tt) y q → (q ≡ f) × (y ≡ h x))
      → (v : ℕ → B) (a : A) → B → ((k : ℕ) → k < n → h (get_or xs k a) ≡ v k) → ys ≡ up_from v n 0
  mapped_to xs ys n e c v a d s =
      ext_get_or d ys (up_from v n 0) (e.long ∙ sym (up_long v n 0))
      (λ i l. let k : i < n = subst (λ p. i < p) e.long l in mapped_at xs ys n 0 e.each c i i a d k (omega arith) ∙ s i k ∙ sym (up_at v n 0 i d k ∙ ap v (zero-add i)))

  pub mapped : (xs : List A) (ys : List B) (n : ℕ) → IsMapOf g f xs ys n → ((x : A) (y : B) (q : F) → Called g f (x, tt) y q → (q ≡ f) × (y ≡ h x))
      → (a : A) → B → length xs ≡ n → ys ≡ map h xs
  mapped xs ys n e c a d s =
      ext_get_or d ys (map h xs) (e.long ∙ sym s ∙ sym (length-map xs h))
      (λ i l. let k : i < n = subst (λ p. i < p) e.long l in mapped_at xs ys n 0 e.each c i i a d k (omega arith) ∙ sym (get_or-map h xs i a d (subst (λ p. i < p) (sym s) k)))
