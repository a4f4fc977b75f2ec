-- A table that grows keeps its old lines, and cutting it back to the old count gives the old table again, line for line.
-- Plain lists, no trees: this is all that a refusal needs to leave a lent table as it came.
use Prim.Native.Nat.{ℕ, zero, suc, ◌+◌, ◌-◌, ◌≤◌, ◌<◌}
use mathlib.Core.Path.{◌≡◌, refl, sym, ◌∙◌}
use mathlib.Core.Bool.{Bool, true, false}
use mathlib.Core.List.{List, [], ◌∷◌}
use native.Mathlib.Omega.{arith}
use lib.ListN.{length, get_or, set, length-set}
use lib.Dec.{ltb, eqb}
use lib.Seq.{get_or-set_other, ext_get_or}
use borrow.Author.Tests.{ltb-true, ltb-false}
use Rattle.std.specs.Prelude.{Option, Some, None}
use Rattle.terms.proofs.Laws.{free_some}
use Rattle.terms.specs.Base.{pick, filled, Held, held}
use Rattle.terms.specs.Term.{after_parts}
use Rattle.terms.specs.Line.{line_at, packed}
use Rattle.terms.specs.Grade.{grade_of}
use Rattle.terms.specs.Table.{used_of, free_of, cut_to, find_line, added, add_by, add_to}
use Rattle.terms.specs.Subbed.{Got, Label, Deep, Full, Subbed}
use Rattle.terms.specs.Subst.{plan_at, entered_in, first_by, with_first, second_by, with_second, both_by, with_both, then_second, walk_by, subst_in, taken_by, second_operand, after_first, take_both, settled_by, take_operands}
use Rattle.terms.specs.declared.term.Term.{Term}
use Rattle.terms.specs.Outcome as O
use Rattle.terms.specs.declared.subst.Plan.{Plan}
use Rattle.terms.specs.declared.subst.Plan.TheVariants.{Keep, First, Second, Both}
use Rattle.terms.specs.Taken.{Taken}
use Rattle.terms.specs.Taken as T

-- m, of d lines, is l, of c lines, with some more
pub record Grown (l : List ℕ) (c : ℕ) (m : List ℕ) (d : ℕ) : Type 0 where
  pub rises : c ≤ d
  pub fits : c ≤ 512 → d ≤ 512
  pub long : length m ≡ length l
  pub below : (i : ℕ) → i < c → line_at m i ≡ line_at l i
  pub past : (i : ℕ) → d ≤ i → line_at m i ≡ line_at l i

-- past the count every line is zero: the field `zeros` of a sound table
abbrev pub ZeroPast : List ℕ → ℕ → Type 0
ZeroPast l c = (i : ℕ) → c ≤ i → line_at l i ≡ 0

-- a table is itself with nothing more
pub grown_same : {l : List ℕ} {c : ℕ} → Grown l c l c
grown_same = record { rises = omega arith; fits = λ h. h; long = refl; below = λ i h. refl; past = λ i h. refl }

-- growing twice is growing
pub grown_then : {l m n : List ℕ} {c d e : ℕ} → Grown l c m d → Grown m d n e → Grown l c n e
grown_then g h = record {
  rises = omega arith;
  fits = λ s. h.fits (g.fits s);
  long = h.long ∙ g.long;
  below = λ i s. h.below i (omega arith) ∙ g.below i s;
  past = λ i s. h.past i s ∙ g.past i (omega arith);
}

-- a grown table is zero past its own count
pub grown_zero : {l m : List ℕ} {c d : ℕ} → ZeroPast l c → Grown l c m d → ZeroPast m d
grown_zero z g i s = g.past i s ∙ z i (omega arith)

-- filling with v: the length, the elements before, those behind, those filled. Past the end of a list v stands too.
module _ {A : Type 0} (v : A) where
  pub fill_long : (n i : ℕ) (l : List A) → length (filled v n i l) ≡ length l
  unfolding filled
  fill_long zero i l = refl
  fill_long (suc n) i l = fill_long n (i + 1) (set l i v) ∙ length-set l i v

  pub fill_before : (n i : ℕ) (l : List A) (j : ℕ) → j < i → get_or (filled v n i l) j v ≡ get_or l j v
  unfolding filled
  fill_before zero i l j h = refl
  fill_before (suc n) i l j h = fill_before n (i + 1) (set l i v) j (omega arith) ∙ get_or-set_other l i j v v (omega arith)

  pub fill_behind : (n i : ℕ) (l : List A) (j : ℕ) → i + n ≤ j → get_or (filled v n i l) j v ≡ get_or l j v
  unfolding filled
  fill_behind zero i l j h = refl
  fill_behind (suc n) i l j h = fill_behind n (i + 1) (set l i v) j (omega arith) ∙ get_or-set_other l i j v v (omega arith)

  set_own : (l : List A) (i : ℕ) → get_or (set l i v) i v ≡ v
  set_own [] i = refl
  set_own (x ∷ l) zero = refl
  set_own (x ∷ l) (suc i) = set_own l i

  pub fill_within : (n i : ℕ) (l : List A) (j : ℕ) → i ≤ j → j < i + n → get_or (filled v n i l) j v ≡ v
  unfolding filled
  fill_within zero i l j h k = absurd (omega arith)
  fill_within (suc n) i l j h k = go (ltb i j) refl (fill_within n (i + 1) (set l i v) j)
    where
      go : (b : Bool) → ltb i j ≡ b → (i + 1 ≤ j → j < i + 1 + n → get_or (filled v n (i + 1) (set l i v)) j v ≡ v) → get_or (filled v n (i + 1) (set l i v)) j v ≡ v
      go true e ih = ih (omega (arith, ltb-true i j e)) (omega arith)
      go false e ih =
          let s : j ≡ i = omega (arith, ltb-false i j e) in
          fill_before n (i + 1) (set l i v) j (omega arith) ∙ rw s (set_own l i)

used_small : (d : ℕ) → d ≤ 512 → used_of d ≡ d
unfolding used_of
used_small d h = go (ltb d 512) refl
  where
    go : (b : Bool) → ltb d 512 ≡ b → pick b d 512 ≡ d
    go true e = refl
    go false e = omega (arith, ltb-false d 512 e)

-- each line after cutting back
back_at : {l m : List ℕ} {c d : ℕ} → ZeroPast l c → Grown l c m d → (i : ℕ) → line_at (filled 0 (d - c) c m) i ≡ line_at l i
back_at {l} {m} {c} {d} z g i = go (ltb i c) refl (ltb i d) refl
  where
    go : (a : Bool) → ltb i c ≡ a → (b : Bool) → ltb i d ≡ b → line_at (filled 0 (d - c) c m) i ≡ line_at l i
    go true e b f = fill_before 0 (d - c) c m i (ltb-true i c e) ∙ g.below i (ltb-true i c e)
    go false e true f = fill_within 0 (d - c) c m i (ltb-false i c e) (omega (arith, ltb-true i d f)) ∙ sym (z i (ltb-false i c e))
    go false e false f = fill_behind 0 (d - c) c m i (omega (arith, ltb-false i d f)) ∙ g.past i (ltb-false i d f)

-- cutting a grown table back gives the table that it grew from
pub cut_back : {l m : List ℕ} {c d : ℕ} → c ≤ 512 → ZeroPast l c → Grown l c m d → cut_to m c d ≡ l
unfolding cut_to
cut_back {l} {m} {c} {d} s z g =
    rw (used_small d (g.fits s)) (ext_get_or 0 (filled 0 (d - c) c m) l (fill_long 0 (d - c) c m ∙ g.long) (λ i h. back_at z g i))

-- one line more
set_grows : (l : List ℕ) (c n : ℕ) → c < 512 → Grown l c (set l c n) (c + 1)
set_grows l c n h = record {
  rises = omega arith;
  fits = λ s. omega arith;
  long = length-set l c n;
  below = λ i s. get_or-set_other l c i n 0 (omega arith);
  past = λ i s. get_or-set_other l c i n 0 (omega arith);
}

room_grows : (b : Bool) (l : List ℕ) (c n : ℕ) → eqb (free_of c) 0 ≡ b
    → Grown l c (pick b (held (added O.Full c) l) (held (added (O.New c) (c + 1)) (set l c n))).table (pick b (held (added O.Full c) l) (held (added (O.New c) (c + 1)) (set l c n))).out.count
room_grows true l c n e = grown_same
room_grows false l c n e = set_grows l c n (free_some c e)

found_grows : (f : Option ℕ) (l : List ℕ) (c n : ℕ) → Grown l c (add_by f l c n).table (add_by f l c n).out.count
found_grows (Some i) l c n = grown_same
found_grows None l c n = room_grows (eqb (free_of c) 0) l c n refl

deep_grows : (b : Bool) (f : Option ℕ) (l : List ℕ) (c n : ℕ)
    → Grown l c (pick b (held (added O.Deep c) l) (add_by f l c n)).table (pick b (held (added O.Deep c) l) (add_by f l c n)).out.count
deep_grows true f l c n = grown_same
deep_grows false f l c n = found_grows f l c n

-- adding a term, whatever comes of it
pub add_grows : (l : List ℕ) (c : ℕ) (x : Term) → Grown l c (add_to l c x).table (add_to l c x).out.count
unfolding add_to
add_grows l c x = deep_grows (ltb 16 (grade_of l x).depth) (find_line l (after_parts x) c (packed x (grade_of l x))) l c (packed x (grade_of l x))

-- the same where the answer is a label or a refusal
pub enter_grows : (l : List ℕ) (c : ℕ) (x : Term) → Grown l c (entered_in l c x).table (entered_in l c x).out.count
unfolding entered_in
enter_grows l c x = add_grows l c x

-- what is entered once the parts have their labels
first_grows : (g : Got) (c i : ℕ) (l : List ℕ) → Grown l c (first_by g c i l).table (first_by g c i l).out.count
first_grows (Label a) c i l = enter_grows l c _
first_grows Deep c i l = grown_same
first_grows Full c i l = grown_same

second_grows : (g : Got) (c i : ℕ) (l : List ℕ) → Grown l c (second_by g c i l).table (second_by g c i l).out.count
second_grows (Label b) c i l = enter_grows l c _
second_grows Deep c i l = grown_same
second_grows Full c i l = grown_same

both_grow : (g : Got) (c i a : ℕ) (l : List ℕ) → Grown l c (both_by g c i a l).table (both_by g c i a l).out.count
both_grow (Label b) c i a l = enter_grows l c _
both_grow Deep c i a l = grown_same
both_grow Full c i a l = grown_same

with_first_grows : (l : List ℕ) (i : ℕ) (r : Subbed) → Grown l r.count (with_first l i r).table (with_first l i r).out.count
unfolding with_first
with_first_grows l i r = first_grows r.got r.count i l

with_second_grows : (l : List ℕ) (i : ℕ) (r : Subbed) → Grown l r.count (with_second l i r).table (with_second l i r).out.count
unfolding with_second
with_second_grows l i r = second_grows r.got r.count i l

with_both_grow : (l : List ℕ) (i a : ℕ) (r : Subbed) → Grown l r.count (with_both l i a r).table (with_both l i a r).out.count
unfolding with_both
with_both_grow l i a r = both_grow r.got r.count i a l

-- a walk grows the table if the walks down its parts do
module _ (down : List ℕ → ℕ → ℕ → Held Subbed) (ih : (l : List ℕ) (c j : ℕ) → Grown l c (down l c j).table (down l c j).out.count) where
  then_grows : (g : Got) (c i b : ℕ) (l : List ℕ) → Grown l c (then_second g c i b down l).table (then_second g c i b down l).out.count
  then_grows (Label a) c i b l = grown_then (ih l c b) (with_both_grow (down l c b).table i a (down l c b).out)
  then_grows Deep c i b l = grown_same
  then_grows Full c i b l = grown_same

  walk_grows : (p : Plan) (l : List ℕ) (c i : ℕ) → Grown l c (walk_by p down l c i).table (walk_by p down l c i).out.count
  walk_grows (Keep j) l c i = grown_same
  walk_grows (First a) l c i = grown_then (ih l c a) (with_first_grows (down l c a).table i (down l c a).out)
  walk_grows (Second b) l c i = grown_then (ih l c b) (with_second_grows (down l c b).table i (down l c b).out)
  walk_grows (Both a b) l c i = grown_then (ih l c a) (then_grows (down l c a).out.got (down l c a).out.count i b (down l c a).table)

-- substituting, at any fuel and whatever comes of it
pub subst_grows : (n : ℕ) (l : List ℕ) (c : ℕ) (vs : List ℕ) (o i : ℕ) → Grown l c (subst_in n l c vs o i).table (subst_in n l c vs o i).out.count
unfolding subst_in
subst_grows zero l c vs o i = grown_same
subst_grows (suc n) l c vs o i = walk_grows (λ m d j. subst_in n m d vs o j) (λ m d j. subst_grows n m d vs o j) (plan_at l vs o i) l c i

taken_count : (g : Got) (c i : ℕ) → (taken_by g c i).count ≡ c
taken_count (Label j) c i = refl
taken_count Deep c i = refl
taken_count Full c i = refl

second_count : (i : ℕ) (q : Subbed) → (second_operand i q).count ≡ q.count
unfolding second_operand
second_count i q = taken_count q.got q.count i

after_grows : (g : Got) (c : ℕ) (l vs : List ℕ) (o y : ℕ) → Grown l c (after_first g c l vs o y).table (after_first g c l vs o y).out.count
after_grows (Label i) c l vs o y = rw (second_count i (subst_in 16 l c vs o y).out) (subst_grows 16 l c vs o y)
after_grows Deep c l vs o y = grown_same
after_grows Full c l vs o y = grown_same

-- both operands one after the other, whatever comes of them
pub both_operands_grow : (l : List ℕ) (c : ℕ) (vs : List ℕ) (o x y : ℕ) → Grown l c (take_both l c vs o x y).table (take_both l c vs o x y).out.count
unfolding take_both
both_operands_grow l c vs o x y =
    let p = subst_in 16 l c vs o x in
    grown_then (subst_grows 16 l c vs o x) (after_grows p.out.got p.out.count p.table vs o y)

settled_grows : {l : List ℕ} {c : ℕ} → c ≤ 512 → ZeroPast l c → (t : Taken) (d : ℕ) (m vs : List ℕ) (o x y : ℕ) → Grown l c m d
    → Grown l c (settled_by t d m c vs o x y).table (settled_by t d m c vs o x y).out.count
settled_grows s z (T.Labels i j) d m vs o x y g = g
settled_grows s z T.Deep d m vs o x y g = rw (cut_back s z g) grown_same
settled_grows s z T.Full d m vs o x y g = rw (cut_back s z g) grown_same

-- both operands of an action, whatever comes of them, in a table that is zero past its count
pub operands_grow : {l : List ℕ} {c : ℕ} → c ≤ 512 → ZeroPast l c → (vs : List ℕ) (o x y : ℕ)
    → Grown l c (take_operands l c vs o x y).table (take_operands l c vs o x y).out.count
unfolding take_operands
operands_grow {l} {c} s z vs o x y =
    let r = take_both l c vs o x y in
    settled_grows s z r.out.taken r.out.count r.table vs o x y (both_operands_grow l c vs o x y)
