-- Laws of All, Sorted and membership that mathlib has only in another form, and of the counts over a list of tries.
-- Nothing here knows of a machine.
use Prim.Native.Nat.{ℕ, ◌+◌}
use mathlib.Core.Path.{◌≡◌, refl, sym, ap, subst}
use mathlib.Core.List.{List, [], ◌∷◌, ◌++◌, map, Memᴰ}
use native.Mathlib.Omega.{arith}
use Rattle.walk.specs.Base.{All}
use Rattle.walk.specs.Order.{Sorted}
use Rattle.walk.specs.Trail.{Mark, plain, sized, bad, Try, under, bad_and, bad_in, sized_and, sized_in}

module _ {A : Type 0} where
  pub all_append : (P : A → Type 0) (l r : List A) → All P l → All P r → All P (l ++ r)
  all_append P [] r a b = b
  all_append P (x ∷ l) r a b = (a.0, all_append P l r a.1 b)

  pub all_imp : (P Q : A → Type 0) → ((x : A) → P x → Q x) → (l : List A) → All P l → All Q l
  all_imp P Q f [] a = tt
  all_imp P Q f (x ∷ l) a = (f x a.0, all_imp P Q f l a.1)

  pub all_at : (P : A → Type 0) {x : A} {l : List A} → Memᴰ x l → All P l → P x
  all_at P (Memᴰ.head e) a = subst P (sym e) a.0
  all_at P (Memᴰ.tail m) a = all_at P m a.1

  pub all_of : (P : A → Type 0) (l : List A) → ((x : A) → Memᴰ x l → P x) → All P l
  all_of P [] f = tt
  all_of P (x ∷ l) f = (f x (Memᴰ.head refl), all_of P l (λ y m. f y (Memᴰ.tail m)))

  pub sorted_append : (R : A → A → Type 0) (l r : List A) → Sorted R l → Sorted R r → All (λ x. All (R x) r) l → Sorted R (l ++ r)
  sorted_append R [] r a b c = b
  sorted_append R (x ∷ l) r a b c = (all_append (R x) l r a.0 c.0, sorted_append R l r a.1 b c.1)

module _ {A B : Type 0} (f : A → B) where
  pub all_map : (P : B → Type 0) (l : List A) → All (λ x. P (f x)) l → All P (map f l)
  all_map P [] a = tt
  all_map P (x ∷ l) a = (a.0, all_map P l a.1)

  pub sorted_map : (R : B → B → Type 0) (l : List A) → Sorted (λ x y. R (f x) (f y)) l → Sorted R (map f l)
  sorted_map R [] a = tt
  sorted_map R (x ∷ l) a = (all_map (R (f x)) l a.0, sorted_map R l a.1)

  pub mem_map : {x : A} {l : List A} → Memᴰ x l → Memᴰ (f x) (map f l)
  mem_map (Memᴰ.head e) = Memᴰ.head (ap f e)
  mem_map (Memᴰ.tail m) = Memᴰ.tail (mem_map m)

pub map_map : {A B C : Type 0} (g : B → C) (f : A → B) (l : List A) → map g (map f l) ≡ map (λ x. g (f x)) l
map_map g f [] = refl
map_map {C = C} g f (x ∷ l) = ap {B = List C} (λ r. g (f x) ∷ r) (map_map g f l)

-- what is bad in two lists is what is bad in the first, then in the second; the sized marks add up
pub bad_append : (l r : List Try) → bad_in (l ++ r) ≡ bad_in l ++ bad_in r
bad_append [] r = refl
bad_append (t ∷ l) r = go t.mark (bad_append l r)
  where
    go : (m : Mark) → bad_in (l ++ r) ≡ bad_in l ++ bad_in r → bad_and m t.word (bad_in (l ++ r)) ≡ bad_and m t.word (bad_in l) ++ bad_in r
    go plain e = e
    go sized e = e
    go bad e = ap {B = List (List ℕ)} (λ s. t.word ∷ s) e

pub sized_append : (l r : List Try) → sized_in (l ++ r) ≡ sized_in l + sized_in r
sized_append [] r = omega arith
sized_append (t ∷ l) r = go t.mark (sized_append l r)
  where
    go : (m : Mark) → sized_in (l ++ r) ≡ sized_in l + sized_in r → sized_and m (sized_in (l ++ r)) ≡ sized_and m (sized_in l) + sized_in r
    go plain e = e
    go sized e = omega arith
    go bad e = e

pub sized_under : (k : ℕ) (l : List Try) → sized_in (map (under k) l) ≡ sized_in l
sized_under k [] = refl
sized_under k (t ∷ l) = ap (sized_and t.mark) (sized_under k l)
