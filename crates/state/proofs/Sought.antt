-- What seek gives is the first code that 1 to 7 let through, and rows of hand-overs from slots that do not send are
-- refused throughout.
use Prim.Native.Nat.{ℕ, zero, suc, ◌+◌, ◌-◌, ◌*◌, ◌/◌, ◌%◌, ◌<◌, ◌≤◌}
use mathlib.Core.Bool.{Bool, true, false, not}
use mathlib.Core.List.{List, [], ◌∷◌}
use mathlib.Core.Path.{◌≡◌, refl, sym, ap, subst, ◌∙◌}
use native.Mathlib.Numerals.{sub-one}
use native.Mathlib.Nat.{sub-add-eq, sub-eq-zero_of_le}
use native.Mathlib.Omega.{arith}
use lib.Dec.{ltb, leb, eqb}
use borrow.Author.Tests.{ltb-true, ltb-false, leb-false, eqb-true, eqb-false, lt-ltb, le-ltb, eq-eqb, ne_eqb}
use Rattle.terms.specs.Base.{pick, also}
use Rattle.model.specs.Fields.{either}
use Rattle.state.specs.Code.{way_of}
use Rattle.state.specs.Reason.{reason, first_of}
use Rattle.state.specs.Early.{Sight, thread_of, action_of, refusal_of, early_of}
use Rattle.state.specs.Seek.{First, seek_by, seek_in, seek_from, sends, sender_in, next_sender, silent_from, refused_from}
use Rattle.state.specs.declared.code.Way.TheVariants.{Hand}

-- One number

seek_step : (g : Sight) (n c : ℕ) → 0 < n → seek_in g n c ≡ seek_by (eqb (early_of g c) 0) c (λ k. seek_in g (n - 1) k)
unfolding seek_in
seek_step g zero c h = absurd (omega arith)
seek_step g (suc n) c h = rw sub-one

pub seek_end : (g : Sight) (c : ℕ) → 164 ≤ c → seek_from g c ≡ 164
unfolding seek_from seek_in
seek_end g c h = rw (sub-eq-zero_of_le h)

pub seek_let : (g : Sight) (c : ℕ) → c < 164 → early_of g c ≡ 0 → seek_from g c ≡ c
unfolding seek_from
seek_let g c h e = rw (seek_step g (164 - c) c (omega arith), eq-eqb _ _ e)

seek_on : (g : Sight) (c : ℕ) → c < 164 → (early_of g c ≡ 0 → ⊥) → seek_from g c ≡ seek_from g (c + 1)
unfolding seek_from
seek_on g c h e = rw (sub-add-eq, seek_step g (164 - c) c (omega arith), ne_eqb _ _ e)

-- n numbers that are all refused are passed together
pub seek_pass : (g : Sight) (n c : ℕ) → c + n ≤ 164 → ((k : ℕ) → c ≤ k → k < c + n → early_of g k ≡ 0 → ⊥) → seek_from g c ≡ seek_from g (c + n)
seek_pass g zero c h f = ap (seek_from g) (omega arith)
seek_pass g (suc n) c h f =
    seek_on g c (omega arith) (f c (omega arith) (omega arith))
    ∙ seek_pass g n (c + 1) (omega arith) (λ k p q. f k (omega arith) (omega arith))
    ∙ ap (seek_from g) (omega arith)

-- A row whose sender is silent

row_by : (l m e s o p : Bool) → also l o ≡ false
    → first_of (reason false 1 ∷ reason (either (not l) (not m)) 2 ∷ reason e 3 ∷ reason s 4 ∷ reason (either (not o) (not p)) 5 ∷ reason false 6 ∷ reason false 7 ∷ []) ≡ 0
    → ⊥
row_by false m e s o p h z = omega (arith, z)
row_by true m e s true p h z = let y : ◌≡◌ {A = ℕ} 0 1 = cc in omega arith
row_by true false e s false p h z = omega (arith, z)
row_by true true true s false p h z = omega (arith, z)
row_by true true false true false p h z = omega (arith, z)
row_by true true false false false p h z = omega (arith, z)

-- a hand-over from a slot that is empty or does not send is refused
pub hand_refused : (g : Sight) (i j : ℕ) → sends g.slots g.actions i ≡ false → refusal_of g (Hand i j) ≡ 0 → ⊥
unfolding refusal_of sends
hand_refused g i j h z =
    row_by (thread_of g i).live (thread_of g j).live (eqb i j) (leb 60000 g.steps) (eqb (action_of g i).op 5) (eqb (action_of g j).op 6) h z

hand_way : (k : ℕ) → 16 ≤ k → k < 160 → way_of k ≡ Hand ((k - 16) / 12) ((k - 16) % 12)
unfolding way_of
hand_way k p q = rw (le-ltb k 12 (omega arith), le-ltb k 16 p, lt-ltb k 160 q)

-- The slots that are passed

module _ (slots actions : List ℕ) where
  passed_by : (a b : Bool) (n i k : ℕ) → sends slots actions i ≡ a → eqb k i ≡ b → i ≤ k
      → (i + 1 ≤ k → k < sender_in n slots actions (i + 1) → sends slots actions k ≡ false)
      → k < pick a i (sender_in n slots actions (i + 1)) → sends slots actions k ≡ false
  passed_by true b n i k x y p f q = absurd (omega arith)
  passed_by false true n i k x y p f q = subst (λ (j : ℕ). sends slots actions j ≡ false) (sym (eqb-true k i y)) x
  passed_by false false n i k x y p f q = let d : k ≡ i → ⊥ = eqb-false k i y in f (omega arith) q

  passed_in : (n i k : ℕ) → n + i ≡ 12 → i ≤ k → k < sender_in n slots actions i → sends slots actions k ≡ false
  unfolding sender_in
  passed_in zero i k h p q = absurd (omega arith)
  passed_in (suc n) i k h p q =
      passed_by (sends slots actions i) (eqb k i) n i k refl refl p (λ x y. passed_in n (i + 1) k (omega arith) x y) q

  -- none of them sends
  passed_silent : (i k : ℕ) → i ≤ 12 → i ≤ k → k < next_sender slots actions i → sends slots actions k ≡ false
  unfolding next_sender
  passed_silent i k h p q = passed_in (12 - i) i k (omega arith) p q

  small_by : (a : Bool) (i r : ℕ) → i ≤ 12 → r ≤ 12 → pick a i r ≤ 12
  small_by true i r h f = h
  small_by false i r h f = f

  small_in : (n i : ℕ) → n + i ≡ 12 → sender_in n slots actions i ≤ 12
  unfolding sender_in
  small_in zero i h = omega arith
  small_in (suc n) i h = small_by (sends slots actions i) i (sender_in n slots actions (i + 1)) (omega arith) (small_in n (i + 1) (omega arith))

  sender_small : (i : ℕ) → i ≤ 12 → next_sender slots actions i ≤ 12
  unfolding next_sender
  sender_small i h = small_in (12 - i) i (omega arith)

-- The hand-overs that are passed

row_refused : (g : Sight) (c k : ℕ) → 16 ≤ c → c ≤ 159 → c ≤ k
    → k < 16 + 12 * next_sender g.slots g.actions ((c - 16) / 12) → early_of g k ≡ 0 → ⊥
unfolding early_of
row_refused g c k lo hi p q z =
    let s : ℕ = (c - 16) / 12 in
    let small : next_sender g.slots g.actions s ≤ 12 = sender_small g.slots g.actions s (omega arith) in
    let w : way_of k ≡ Hand ((k - 16) / 12) ((k - 16) % 12) = hand_way k (omega arith) (omega arith) in
    let n : sends g.slots g.actions ((k - 16) / 12) ≡ false =
    passed_silent g.slots g.actions s ((k - 16) / 12) (omega arith) (omega arith) (omega arith) in
    hand_refused g ((k - 16) / 12) ((k - 16) % 12) n (rw w at z)

silent_by_lem : (a b d : Bool) (g : Sight) (c k : ℕ) → ltb c 16 ≡ a → ltb 159 c ≡ b → leb (next_sender g.slots g.actions ((c - 16) / 12)) ((c - 16) / 12) ≡ d
    → c ≤ k → k < c + pick a 0 (pick b 0 (pick d 0 (16 + 12 * next_sender g.slots g.actions ((c - 16) / 12) - c))) → early_of g k ≡ 0 → ⊥
silent_by_lem true b d g c k x y s p q z = omega (arith, q)
silent_by_lem false true d g c k x y s p q z = omega (arith, q)
silent_by_lem false false true g c k x y s p q z = omega (arith, q)
silent_by_lem false false false g c k x y s p q z =
    row_refused g c k (ltb-false c 16 x) (ltb-false 159 c y) p
    (omega (arith, q, ltb-false c 16 x, leb-false (next_sender g.slots g.actions ((c - 16) / 12)) ((c - 16) / 12) s)) z

-- every hand-over of such rows is refused
pub silent_refused : (g : Sight) (c k : ℕ) → c ≤ k → k < c + silent_from g.slots g.actions c → early_of g k ≡ 0 → ⊥
unfolding silent_from
silent_refused g c k p q z =
    silent_by_lem (ltb c 16) (ltb 159 c) (leb (next_sender g.slots g.actions ((c - 16) / 12)) ((c - 16) / 12)) g c k refl refl refl p q z

silent_in : (a b d : Bool) (c i : ℕ) → c < 164 → i ≤ 12 → c + pick a 0 (pick b 0 (pick d 0 (16 + 12 * i - c))) ≤ 164
silent_in true b d c i h s = omega arith
silent_in false true d c i h s = omega arith
silent_in false false true c i h s = omega arith
silent_in false false false c i h s = omega arith

silent_within : (slots actions : List ℕ) (c : ℕ) → c < 164 → c + silent_from slots actions c ≤ 164
unfolding silent_from
silent_within slots actions c h =
    silent_in (ltb c 16) (ltb 159 c) (leb (next_sender slots actions ((c - 16) / 12)) ((c - 16) / 12)) c (next_sender slots actions ((c - 16) / 12)) h
    (sender_small slots actions ((c - 16) / 12) (omega arith))

-- What is refused at sight

none_by : (a b : Bool) (row n : ℕ) → ltb 0 row ≡ a → eqb n 0 ≡ b → pick a row (pick b 0 1) ≡ 0 → n ≡ 0
none_by true b row n x y z = absurd (omega (arith, ltb-true 0 row x, z))
none_by false true row n x y z = eqb-true n 0 y
none_by false false row n x y z = absurd (omega (arith, z))

-- none: the number itself is let through
pub refused_none : (g : Sight) (c : ℕ) → refused_from g c ≡ 0 → early_of g c ≡ 0
unfolding refused_from
refused_none g c z =
    let row : ℕ = silent_from g.slots g.actions c in
    none_by (ltb 0 row) (eqb (early_of g c) 0) row (early_of g c) refl refl z

all_by : (a b : Bool) (g : Sight) (c k : ℕ) → eqb (early_of g c) 0 ≡ b → c ≤ k
    → k < c + pick a (silent_from g.slots g.actions c) (pick b 0 1) → early_of g k ≡ 0 → ⊥
all_by true b g c k y p q z = silent_refused g c k p q z
all_by false true g c k y p q z = omega (arith, q)
all_by false false g c k y p q z =
    let w : k ≡ c = omega (arith, q) in
    eqb-false (early_of g c) 0 y (subst (λ (i : ℕ). early_of g i ≡ 0) w z)

-- some: each of them is refused
pub refused_all_lem : (g : Sight) (c k : ℕ) → c ≤ k → k < c + refused_from g c → early_of g k ≡ 0 → ⊥
unfolding refused_from
refused_all_lem g c k p q z = all_by (ltb 0 (silent_from g.slots g.actions c)) (eqb (early_of g c) 0) g c k refl p q z

within_by : (a b : Bool) (c row : ℕ) → c < 164 → c + row ≤ 164 → c + pick a row (pick b 0 1) ≤ 164
within_by true b c row h r = r
within_by false true c row h r = omega arith
within_by false false c row h r = omega arith

refused_within : (g : Sight) (c : ℕ) → c < 164 → c + refused_from g c ≤ 164
unfolding refused_from
refused_within g c h =
    let row : ℕ = silent_from g.slots g.actions c in
    within_by (ltb 0 row) (eqb (early_of g c) 0) c row h (silent_within g.slots g.actions c h)

-- one turn of the loop
pub seek_turn : (g : Sight) (c n : ℕ) → c < 164 → n ≡ refused_from g c → seek_from g c ≡ seek_from g (c + n)
seek_turn g c n h e = rw e (seek_pass g (refused_from g c) c (refused_within g c h) (refused_all_lem g c))

-- The first that is let through

differs : (b : Bool) (g : Sight) (c k r : ℕ) → eqb k c ≡ b → eqb (early_of g c) 0 ≡ false → First g (c + 1) r → c ≤ k → k < r → early_of g k ≡ 0 → ⊥
differs true g c k r x y f p q z = eqb-false (early_of g c) 0 y (subst (λ (i : ℕ). early_of g i ≡ 0) (eqb-true k c x) z)
differs false g c k r x y f p q z = let d : k ≡ c → ⊥ = eqb-false k c x in f.refused k (omega arith) q z

first_by_lem : (b : Bool) (g : Sight) (n c : ℕ) → suc n + c ≡ 164 → eqb (early_of g c) 0 ≡ b → First g (c + 1) (seek_in g n (c + 1))
    → First g c (seek_by b c (λ k. seek_in g n k))
first_by_lem true g n c h y f = record {
  refused = λ k p q z. omega arith;
  given = λ l. eqb-true (early_of g c) 0 y;
  on = λ l. omega arith;
  small = omega arith;
}
first_by_lem false g n c h y f = record {
  refused = λ k p q z. differs (eqb k c) g c k (seek_in g n (c + 1)) refl y f p q z;
  given = f.given;
  on = λ l. omega (arith, f.on (omega arith));
  small = f.small;
}

first_in : (g : Sight) (n c : ℕ) → n + c ≡ 164 → First g c (seek_in g n c)
unfolding seek_in
first_in g zero c h = record { refused = λ k p q z. omega arith; given = λ l. absurd (omega arith); on = λ l. l; small = omega arith }
first_in g (suc n) c h = first_by_lem (eqb (early_of g c) 0) g n c h refl (first_in g n (c + 1) (omega arith))

past : (b : Bool) (g : Sight) (c : ℕ) → ltb 164 c ≡ b → First g c (seek_from g c)
unfolding seek_from
past false g c x = first_in g (164 - c) c (omega (arith, ltb-false 164 c x))
past true g c x =
    let h : 164 < c = ltb-true 164 c x in
    subst (First g c) (sym (seek_end g c (omega arith)))
    (record { refused = λ k p q z. omega arith; given = λ l. absurd (omega arith); on = λ l. absurd (omega arith); small = omega arith })

-- every number passed is refused by 1 to 7, and the one given is not
pub seek_first : (g : Sight) (c : ℕ) → First g c (seek_from g c)
seek_first g c = past (ltb 164 c) g c refl
