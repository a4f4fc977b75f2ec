-- The test that the code runs over a table says exactly that the table is sound, and the fresh table passes it.
-- So what is proved of sound tables holds of every table that the code has let through, and no sound table is turned away.
use Prim.Native.Nat.{ℕ, zero, suc, ◌+◌, ◌-◌, ◌≤◌, ◌<◌}
use mathlib.Core.Path.{◌≡◌, refl, sym, ap, ◌∙◌}
use mathlib.Core.Bool.{Bool, true, false}
use mathlib.Core.List.{List, [], ◌∷◌}
use native.Mathlib.Omega.{arith}
use lib.ListN.{length, get_or, drop}
use lib.Dec.{ltb, eqb}
use lib.Seq.{get_or-drop}
use borrow.Author.Tests.{ltb-true, ltb-false, le-ltb, eqb-true, eq-eqb}
use Rattle.std.specs.Prelude.{Option, Some, None}
use Rattle.terms.specs.Base.{pick, also, larger_of}
use Rattle.terms.specs.Each.{all_from, each}
use Rattle.terms.specs.Term.{shape_of, in_limits, parts_below}
use Rattle.terms.specs.Line.{packed, term_in, depth_in, ground_in, line_at, term_at}
use Rattle.terms.specs.Grade.{above_line, above_both, grade_of}
use Rattle.terms.specs.Table.{fixed_line, fresh_table, find_in, find_line}
use Rattle.terms.specs.Sound.{fixed_first, is_new, line_sound, all_zero, sound_test, Sound}
use Rattle.terms.specs.declared.term.Term.{Term}
use Rattle.terms.proofs.Find.{line_miss, miss_line}
use Rattle.terms.proofs.Meaning.{also_left, also_right, also_both}
use Rattle.terms.proofs.Each.{each_at, at_each}

-- a test that must not hold, and one after it: what the passed two say, and the way back
pub unless_pass : (p q : Bool) → pick p false q ≡ true → (p ≡ false) × (q ≡ true)
unless_pass true q e = (sym e, cc)
unless_pass false q e = (refl, e)

pass_unless : {p q : Bool} → p ≡ false → q ≡ true → pick p false q ≡ true
pass_unless e f = rw (e, f)

new_nothing : (f : Option ℕ) → is_new f ≡ true → f ≡ None
new_nothing (Some i) e = let z : ◌≡◌ {A = ℕ} 0 1 = cc in absurd (omega arith)
new_nothing None e = refl

-- all that is left is zero
zero_at : (l : List ℕ) → all_zero l ≡ true → (i : ℕ) → get_or l i 0 ≡ 0
unfolding all_zero
zero_at [] e i = refl
zero_at (m ∷ l) e zero = eqb-true m 0 (also_left (eqb m 0) (all_zero l) e)
zero_at (m ∷ l) e (suc i) = zero_at l (also_right (eqb m 0) (all_zero l) e) i

at_zero : (l : List ℕ) → ((i : ℕ) → get_or l i 0 ≡ 0) → all_zero l ≡ true
unfolding all_zero
at_zero [] f = refl
at_zero (m ∷ l) f = also_both (eq-eqb m 0 (f 0)) (at_zero l (λ i. f (suc i)))

-- what the test says of one line
record Judged (l : List ℕ) (i : ℕ) : Type 0 where
  limits : in_limits (term_at l i) ≡ true
  parts : parts_below (term_at l i) i ≡ true
  shallow : (grade_of l (term_at l i)).depth ≤ 16
  line : packed (term_at l i) (grade_of l (term_at l i)) ≡ line_at l i
  new : find_line l 0 i (line_at l i) ≡ None

judged : (l : List ℕ) (i : ℕ) → line_sound l i ≡ true → Judged l i
unfolding line_sound
judged l i e =
    let a = also_right (in_limits (term_at l i)) _ e in
    let c = unless_pass _ _ (also_right (parts_below (term_at l i) i) _ a) in
    record {
      limits = also_left _ _ e;
      parts = also_left _ _ a;
      shallow = ltb-false 16 (grade_of l (term_at l i)).depth c.0;
      line = eqb-true _ _ (also_left _ _ c.1);
      new = new_nothing _ (also_right (eqb (packed (term_at l i) (grade_of l (term_at l i))) (line_at l i)) _ c.1);
    }

judge : (l : List ℕ) (i : ℕ) → Judged l i → line_sound l i ≡ true
unfolding line_sound
judge l i j =
    also_both j.limits
    (also_both j.parts
    (pass_unless (le-ltb 16 (grade_of l (term_at l i)).depth j.shallow)
    (also_both (eq-eqb _ _ j.line) (ap is_new j.new))))

-- labels 0, 1, 2
first_fixed : (l : List ℕ) → fixed_first l ≡ true → (i : ℕ) → i < 3 → line_at l i ≡ fixed_line i
unfolding fixed_first
first_fixed l e i h =
    let p = also_right (is 0) (also (is 1) (is 2)) e in
    go i h (also_left (is 0) (also (is 1) (is 2)) e) (also_left (is 1) (is 2) p) (also_right (is 1) (is 2) p)
  where
    is : ℕ → Bool
    is k = eqb (line_at l k) (fixed_line k)

    go : (k : ℕ) → k < 3 → is 0 ≡ true → is 1 ≡ true → is 2 ≡ true → line_at l k ≡ fixed_line k
    go zero h p q r = eqb-true (line_at l 0) (fixed_line 0) p
    go (suc zero) h p q r = eqb-true (line_at l 1) (fixed_line 1) q
    go (suc (suc zero)) h p q r = eqb-true (line_at l 2) (fixed_line 2) r
    go (suc (suc (suc k))) h p q r = absurd (omega arith)

fixed_first_lem : (l : List ℕ) → ((i : ℕ) → i < 3 → line_at l i ≡ fixed_line i) → fixed_first l ≡ true
unfolding fixed_first
fixed_first_lem l f = also_both (eq-eqb _ _ (f 0 (omega arith))) (also_both (eq-eqb _ _ (f 1 (omega arith))) (eq-eqb _ _ (f 2 (omega arith))))

-- lines judged one by one are terms that all differ
module _ (l : List ℕ) (long : length l ≡ 512) (c : ℕ) (room : c ≤ 512) (js : (i : ℕ) → i < c → Judged l i) where
  same_line : (i j : ℕ) → i < c → j < c → term_at l i ≡ term_at l j → line_at l i ≡ line_at l j
  same_line i j h k e = sym (js i h).line ∙ ap (λ (x : Term). packed x (grade_of l x)) e ∙ (js j k).line

  differ : (i j : ℕ) → i < c → j < c → term_at l i ≡ term_at l j → i ≡ j
  differ i j h k e = go (ltb i j) refl (ltb j i) refl
    where
      go : (a : Bool) → ltb i j ≡ a → (b : Bool) → ltb j i ≡ b → i ≡ j
      go true f b g = absurd (line_miss l 0 j (line_at l j) (omega arith) (js j k).new i (omega arith) (ltb-true i j f) (same_line i j h k e))
      go false f true g = absurd (line_miss l 0 i (line_at l i) (omega arith) (js i h).new j (omega arith) (ltb-true j i g) (sym (same_line i j h k e)))
      go false f false g = omega (arith, ltb-false i j f, ltb-false j i g)

-- the parts of the test, each as facts
lines_judged : (l : List ℕ) (c : ℕ) → each c (line_sound l) ≡ true → (i : ℕ) → i < c → Judged l i
lines_judged l c e i h = judged l i (each_at c (line_sound l) e i h)

rest_zero : (l : List ℕ) (c : ℕ) → all_zero (drop c l) ≡ true → (i : ℕ) → c ≤ i → line_at l i ≡ 0
rest_zero l c e i h =
    let z : c + (i - c) ≡ i = omega arith in
    rw (get_or-drop c l (i - c) 0, z) at (zero_at (drop c l) e (i - c))

-- what passes the test is sound
pub test_sound : {l : List ℕ} {c : ℕ} → length l ≡ 512 → sound_test l c ≡ true → Sound l c
unfolding sound_test
test_sound {l} {c} long e =
    let p = unless_pass _ _ e in
    let q = unless_pass _ _ p.1 in
    let s = also_right (fixed_first l) _ q.1 in
    let room : c ≤ 512 = ltb-false 512 c q.0 in
    let js : (i : ℕ) → i < c → Judged l i = lines_judged l c (also_left _ _ s) in
    record {
      some = ltb-false c 3 p.0;
      room = room;
      fixed = first_fixed l (also_left _ _ q.1);
      limits = λ i h. (js i h).limits;
      parts = λ i h. (js i h).parts;
      shallow = λ i h. (js i h).shallow;
      lines = λ i h. (js i h).line;
      distinct = differ l long c room js;
      zeros = rest_zero l c (also_right (each c (line_sound l)) _ s);
    }

-- what is sound passes the test
pub sound_test_lem : {l : List ℕ} {c : ℕ} → length l ≡ 512 → Sound l c → sound_test l c ≡ true
unfolding sound_test
sound_test_lem {l} {c} long s =
    pass_unless (le-ltb c 3 s.some)
    (pass_unless (le-ltb 512 c s.room)
    (also_both (fixed_first_lem l s.fixed)
    (also_both (at_each c (line_sound l) (λ i h. judge l i (fine i h))) (at_zero (drop c l) (λ i. get_or-drop c l i 0 ∙ s.zeros (c + i) (omega arith))))))
  where
    fine : (i : ℕ) → i < c → Judged l i
    fine i h = record {
      limits = s.limits i h;
      parts = s.parts i h;
      shallow = s.shallow i h;
      line = s.lines i h;
      new = miss_line l i (line_at l i) (omega (arith, s.room, long)) (λ j k e. let z : j ≡ i = s.distinct j i (omega arith) h (ap term_in e) in omega arith);
    }

pub fresh_long : length fresh_table.lines ≡ 512
unfolding fresh_table
fresh_long = refl

fresh_passes : sound_test fresh_table.lines fresh_table.count ≡ true
unfolding fresh_table sound_test fixed_first all_from line_sound all_zero fixed_line packed term_in depth_in ground_in in_limits parts_below shape_of grade_of above_line above_both larger_of find_line find_in
fresh_passes = refl

-- the fresh table is sound
pub fresh_sound : Sound fresh_table.lines fresh_table.count
fresh_sound = test_sound fresh_long fresh_passes
