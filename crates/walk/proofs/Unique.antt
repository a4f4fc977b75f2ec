-- What S2 says of one call leaves no second answer: two answers that passed a first part of the same tries with the same budget, and
-- whose places name the next pair, are the same answer. So a reader need not believe the walk, only `Passed` and `Names`.
use Prim.Native.Nat.{ℕ, ◌+◌, ◌≤◌}
use mathlib.Core.Path.{◌≡◌, refl, sym, ap, ◌∙◌}
use mathlib.Core.List.{List, [], ◌∷◌, ◌++◌, reverse, reverse-reverse, nil≢cons, head-eq_of_cons-eq, tail-eq_of_cons-eq, append-eq-nil_iff}
use native.Mathlib.Omega.{arith}
use lib.ListN.{length, length-append}
use Rattle.walk.specs.Machine.{Machine, Coded}
use Rattle.walk.specs.Reply.{Kind, found, Reply}
use Rattle.walk.specs.Trail.{bad, Try, bad_in, sized_in}
use Rattle.walk.specs.Place.{Place, over, place_of}
use Rattle.walk.specs.Walk.{search}
use Rattle.walk.specs.Passed.{passing, Met, met_bad, used_up, no_more, Passed, Names, a_pair, the_last}
use Rattle.walk.proofs.Lists.{bad_append}
use Rattle.walk.proofs.Pass.{passing_over, search_passes, search_names}

-- two ways to part one list: the same, or one first part is longer
data Parts (p q r s : List Try) : Type 0 where
  same : p ≡ r → q ≡ s → Parts p q r s
  less : (x : Try) (d : List Try) → r ≡ p ++ (x ∷ d) → q ≡ (x ∷ d) ++ s → Parts p q r s
  more : (x : Try) (d : List Try) → p ≡ r ++ (x ∷ d) → s ≡ (x ∷ d) ++ q → Parts p q r s

parts : (p r q s : List Try) → p ++ q ≡ r ++ s → Parts p q r s
parts [] [] q s e = same refl e
parts [] (y ∷ r) q s e = less y r refl e
parts (x ∷ p) [] q s e = more x p refl (sym e)
parts (x ∷ p) (y ∷ r) q s e = go (head-eq_of_cons-eq e) (parts p r q s (tail-eq_of_cons-eq e))
  where
    go : x ≡ y → Parts p q r s → Parts (x ∷ p) q (y ∷ r) s
    go h (same a b) = same (λ i. h i ∷ a i) b
    go h (less z d a b) = less z d (λ i. sym h i ∷ a i) b
    go h (more z d a b) = more z d (λ i. h i ∷ a i) b

-- a list that ends in a bad try has it in every end part
ends_bad : (w : List ℕ) (e p : List Try) (x : Try) (d : List Try) → e ++ (record { word = w; mark = bad } ∷ []) ≡ p ++ (x ∷ d) → bad_in (x ∷ d) ≡ [] → ⊥
ends_bad w e [] x d h b =
    let f : bad_in e ++ (w ∷ []) ≡ [] = sym (bad_append e (record { word = w; mark = bad } ∷ [])) ∙ ap bad_in h ∙ b in
    nil≢cons (sym ((append-eq-nil_iff {p = bad_in e} {q = w ∷ []}).0 f).1)
ends_bad w [] (y ∷ p) x d h b = nil≢cons (sym ((append-eq-nil_iff {p = p} {q = x ∷ d}).0 (sym (tail-eq_of_cons-eq h))).1)
ends_bad w (z ∷ e) (y ∷ p) x d h b = ends_bad w e p x d (tail-eq_of_cons-eq h) b

bad_last : (w : List ℕ) (p e : List Try) → p ≡ e ++ (record { word = w; mark = bad } ∷ []) → bad_in e ≡ [] → bad_in p ≡ w ∷ []
bad_last w p e h b = rw (h, bad_append e (record { word = w; mark = bad } ∷ []), b)

module _ (M : Machine) (n b : ℕ) where
  -- of two answers none has passed less
  not_less : (p r : List Try) (x : Try) (d s : List Try) (pl pl' : Place) {k k' : Kind} → Met M n b p pl k → Met M n b r pl' k' → length r ≤ b →
      r ≡ p ++ (x ∷ d) → passing M n pl ≡ (x ∷ d) ++ s → ⊥
  not_less p r x d s pl pl' (met_bad {w = w} e h g) m l a c =
      let f : bad_in r ≡ w ∷ bad_in (x ∷ d) = ap bad_in a ∙ bad_append p (x ∷ d) ∙ ap (λ (y : List (List ℕ)). y ++ bad_in (x ∷ d)) (bad_last w p e h g) in
      go m f
    where
      go : {k : Kind} → Met M n b r pl' k → bad_in r ≡ w ∷ bad_in (x ∷ d) → ⊥
      go (met_bad {w = v} e' h' g') f =
          ends_bad v e' p x d (sym h' ∙ a) (tail-eq_of_cons-eq (sym f ∙ bad_last v r e' h' g'))
      go (used_up g' u v) f = nil≢cons (sym g' ∙ f)
      go (no_more g' u v) f = nil≢cons (sym g' ∙ f)
  not_less p r x d s pl pl' (used_up g u v) m l a c = omega (arith, ap length a, length-append p (x ∷ d))
  not_less p r x d s pl pl' (no_more g u v) m l a c = nil≢cons (sym u ∙ c)

  -- what was passed and what is left tell the kind
  same_kind : (p r : List Try) (pl pl' : Place) {k k' : Kind} → Met M n b p pl k → Met M n b r pl' k' → p ≡ r → passing M n pl ≡ passing M n pl' → k ≡ k'
  same_kind p r pl pl' (met_bad {w = w} e h g) (met_bad {w = v} e' h' g') a c =
      ap found (head-eq_of_cons-eq (sym (bad_last w p e h g) ∙ ap bad_in a ∙ bad_last v r e' h' g'))
  same_kind p r pl pl' (met_bad {w = w} e h g) (used_up g' u v) a c = absurd (nil≢cons (sym g' ∙ sym (ap bad_in a) ∙ bad_last w p e h g))
  same_kind p r pl pl' (met_bad {w = w} e h g) (no_more g' u v) a c = absurd (nil≢cons (sym g' ∙ sym (ap bad_in a) ∙ bad_last w p e h g))
  same_kind p r pl pl' (used_up g u v) (met_bad {w = w} e h g') a c = absurd (nil≢cons (sym g ∙ ap bad_in a ∙ bad_last w r e h g'))
  same_kind p r pl pl' (used_up g u v) (used_up g' u' v') a c = refl
  same_kind p r pl pl' (used_up g u v) (no_more g' u' v') a c = absurd (omega (arith, ap length (c ∙ u')))
  same_kind p r pl pl' (no_more g u v) (met_bad {w = w} e h g') a c = absurd (nil≢cons (sym g ∙ ap bad_in a ∙ bad_last w r e h g'))
  same_kind p r pl pl' (no_more g u v) (used_up g' u' v') a c = absurd (omega (arith, ap length (sym c ∙ u)))
  same_kind p r pl pl' (no_more g u v) (no_more g' u' v') a c = refl

module _ (M : Machine) (C : Coded M) (n : ℕ) where
  none_ahead : (p : Place) → p ≡ place_of M over → passing M n p ≡ []
  none_ahead p e = ap (passing M n) e ∙ passing_over M C n

  -- what is ahead tells the place
  pub same_names : (p q : Place) → Names M n p → Names M n q → passing M n p ≡ passing M n q → p ≡ q
  same_names p q (a_pair m l i e) (a_pair m' l' i' e') h =
      let f : reverse (p.next ∷ p.up) ≡ reverse (q.next ∷ q.up) = ap (λ (t : Try). t.word) (head-eq_of_cons-eq (sym e ∙ h ∙ e')) in
      let g : p.next ∷ p.up ≡ q.next ∷ q.up = sym (reverse-reverse (p.next ∷ p.up)) ∙ ap reverse f ∙ reverse-reverse (q.next ∷ q.up) in
      λ i. record { up = tail-eq_of_cons-eq g i; next = head-eq_of_cons-eq g i }
  same_names p q (a_pair m l i e) (the_last z) h = absurd (nil≢cons (sym (none_ahead q z) ∙ sym h ∙ e))
  same_names p q (the_last y) (a_pair m l i e) h = absurd (nil≢cons (sym (none_ahead p y) ∙ h ∙ e))
  same_names p q (the_last y) (the_last z) h = y ∙ sym z

  -- no second answer fits
  pub one_answer : (b : ℕ) (l : List Try) (r s : Reply Place) → Passed M n b l 0 0 r → Names M n r.place → Passed M n b l 0 0 s → Names M n s.place → r ≡ s
  one_answer b l r s R x S y =
      go (parts R.past S.past (passing M n r.place) (passing M n s.place) (sym R.parts ∙ S.parts))
    where
      go : Parts R.past (passing M n r.place) S.past (passing M n s.place) → r ≡ s
      go (same a c) =
          let k : r.kind ≡ s.kind = same_kind M n b R.past S.past r.place s.place R.met S.met a c in
          let t : r.tries ≡ s.tries = R.tries ∙ ap (λ (p : List Try). 0 + length p) a ∙ sym S.tries in
          let z : r.sizes ≡ s.sizes = R.sizes ∙ ap (λ (p : List Try). 0 + sized_in p) a ∙ sym S.sizes in
          let q : r.place ≡ s.place = same_names r.place s.place x y c in
          λ i. record { kind = k i; tries = t i; sizes = z i; place = q i }
      go (less v d a c) = absurd (not_less M n b R.past S.past v d (passing M n s.place) r.place s.place R.met S.met S.within a c)
      go (more v d a c) = absurd (not_less M n b S.past R.past v d (passing M n r.place) s.place r.place S.met R.met R.within a c)

  pub only_search : (b : ℕ) (p : Place) (r : Reply Place) → Passed M n b (passing M n p) 0 0 r → Names M n r.place → r ≡ search M n b p
  only_search b p r R x = one_answer b (passing M n p) r (search M n b p) R x (search_passes M C n b p) (search_names M C n b p)
