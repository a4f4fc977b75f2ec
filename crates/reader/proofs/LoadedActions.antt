-- One action more: of the last program, or the first of the next one.
use Prim.Native.Nat.{ℕ, ◌+◌, ◌*◌, ◌<◌, ◌≤◌}
use mathlib.Core.Path.{◌≡◌, refl, sym, ap, ◌∙◌, subst}
use mathlib.Core.Bool.{Bool, true, false}
use mathlib.Core.List.{List}
use native.Mathlib.Omega.{arith}
use lib.ListN.{length, get_or, set, replicate, length-set, length-replicate}
use lib.Seq.{get_or-set_same, get_or-set_other}
use lib.Dec.{ltb, eqb}
use borrow.Author.Tests.{ltb-true, ltb-false, lt-ltb, eqb-true, eqb-false}
use Rattle.terms.specs.Base.{pick}
use Rattle.model.specs.Records.{pack_action, action_in, action_number, length_at}
use Rattle.model.specs.Fields.{closing, in_form}
use Rattle.model.specs.declared.records.Action.{Action}
use Rattle.model.proofs.Pack.{SmallAction, action_packed}
use Rattle.reader.proofs.LoadedFacts.{Operand, ActionNumber, Programs}
use Rattle.reader.proofs.LoadedLists.{zero_at}

-- a length and a number, each where it was put and where it was not
pub length_same : (l : List ℕ) (p v : ℕ) → length l ≡ 32 → p < 32 → length_at (set l p v) p ≡ v
unfolding length_at
length_same l p v e h = rw (lt-ltb p 32 h) (get_or-set_same l p v 0 (omega arith))

pub length_other : (l : List ℕ) (p q v : ℕ) → (q ≡ p → ⊥) → length_at (set l p v) q ≡ length_at l q
unfolding length_at
length_other l p q v f = rw (get_or-set_other l p q v 0 f)

pub number_same : (l : List ℕ) (p k v : ℕ) → length l ≡ 512 → p < 32 → k < 16 → action_number (set l (p * 16 + k) v) p k ≡ v
unfolding action_number
number_same l p k v e h g = rw (lt-ltb (p * 16 + k) 512 (omega arith)) (get_or-set_same l (p * 16 + k) v 0 (omega arith))

pub number_other : (l : List ℕ) (p k q j v : ℕ) → k < 16 → j < 16 → (q ≡ p → j ≡ k → ⊥) → action_number (set l (p * 16 + k) v) q j ≡ action_number l q j
unfolding action_number
number_other l p k q j v h g f = rw (get_or-set_other l (p * 16 + k) (q * 16 + j) v 0 (λ e. f (omega arith) (omega arith)))

-- no program, no action
pub none_programs : {acts lengths tops : List ℕ} {programs count : ℕ} {closed : Bool} (tops' : List ℕ) (count' : ℕ) → programs ≡ 0
    → Programs acts lengths programs closed tops count → Programs acts lengths programs closed tops' count'
none_programs {programs = programs} tops' count' e P = record {
  long = P.long;
  wide = P.wide;
  most = P.most;
  some = P.some;
  short = P.short;
  past = P.past;
  actions = λ p k h. absurd (omega (arith, P.past p (omega arith), h));
  last = P.last;
  going = P.going;
  zeros = P.zeros;
}

zero_pick : (t : Bool) (n : ℕ) → n ≡ 0 → pick t n 0 ≡ 0
zero_pick true n e = e
zero_pick false n e = refl

none : (p : ℕ) → length_at (replicate 32 0) p ≡ 0
unfolding length_at
none p = zero_pick (ltb p 32) (get_or (replicate 32 0) p 0) (zero_at 32 p)

nought : (p k : ℕ) → action_number (replicate 512 0) p k ≡ 0
unfolding action_number
nought p k = zero_pick (ltb (p * 16 + k) 512) (get_or (replicate 512 0) (p * 16 + k) 0) (zero_at 512 (p * 16 + k))

pub fresh_programs : (closed : Bool) (tops : List ℕ) (count : ℕ) → Programs (replicate 512 0) (replicate 32 0) 0 closed tops count
fresh_programs closed tops count = record {
  long = length-replicate {A = ℕ} 512 0;
  wide = length-replicate {A = ℕ} 32 0;
  most = omega arith;
  some = λ p h. absurd (omega arith);
  short = λ p. omega (arith, none p);
  past = λ p h. none p;
  actions = λ p k h. absurd (omega (arith, none p, h));
  last = λ p k h. absurd (omega (arith, none p, h));
  going = λ e p k h. absurd (omega arith);
  zeros = λ p k h g. nought p k;
}

-- action a is the next one of program p
module _ {acts lengths tops : List ℕ} {programs count : ℕ} {closed : Bool} (P : Programs acts lengths programs closed tops count) (p : ℕ) (h : p < 32)
    (here : p ≤ programs) (goes : (p < programs) → (p + 1 ≡ programs) × (closed ≡ false)) (room : length_at lengths p < 16)
    (a : Action) (small : SmallAction a) (form : in_form a ≡ true)
    (x : Operand tops count (length_at lengths p) a.x) (y : Operand tops count (length_at lengths p) a.y) where
  abbrev k : ℕ
  k = length_at lengths p

  abbrev acts' : List ℕ
  acts' = set acts (p * 16 + k) (pack_action a)

  abbrev lengths' : List ℕ
  lengths' = set lengths p (k + 1)

  -- a program with an action stands below
  there : (q j : ℕ) → j < length_at lengths q → q < programs
  there q j g = by (ltb q programs) refl
    where
      by : (t : Bool) → ltb q programs ≡ t → q < programs
      by true e = ltb-true q programs e
      by false e = absurd (omega (arith, g, P.past q (ltb-false q programs e)))

  number_new : ActionNumber tops count k (pack_action a)
  number_new = record {
    exact = rw (action_packed a small);
    form = rw (action_packed a small) form;
    x = rw (action_packed a small) x;
    y = rw (action_packed a small) y;
  }

  -- an action of the table with the new one is the new one, or stood there before
  data Which (q j : ℕ) : Type 0 where
    new : q ≡ p → j ≡ k → Which q j
    old : j < length_at lengths q → action_number acts' q j ≡ action_number acts q j → Which q j

  which : (q j : ℕ) → j < length_at lengths' q → Which q j
  which q j g = by (eqb q p) refl
    where
      by2 : q ≡ p → (t : Bool) → eqb j k ≡ t → Which q j
      by2 s true e = new s (eqb-true j k e)
      by2 s false e =
          let n : j ≡ k → ⊥ = eqb-false j k e in
          let l : length_at lengths' q ≡ k + 1 = ap (length_at lengths') s ∙ length_same lengths p (k + 1) P.wide h in
          let m : j < k = omega (arith, n, g, l) in
          old (subst (λ r. j < length_at lengths r) (sym s) m) (number_other acts p k q j (pack_action a) room (omega arith) (λ u. n))

      by : (t : Bool) → eqb q p ≡ t → Which q j
      by true e = by2 (eqb-true q p e) (eqb j k) refl
      by false e =
          let n : q ≡ p → ⊥ = eqb-false q p e in
          let l : length_at lengths' q ≡ length_at lengths q = length_other lengths p q (k + 1) n in
          let m : j < length_at lengths q = omega (arith, g, l) in
          old m (number_other acts p k q j (pack_action a) room (omega (arith, P.short q, m)) (λ u v. n u))

  new_actions : (q j : ℕ) → j < length_at lengths' q → ActionNumber tops count j (action_number acts' q j)
  new_actions q j g = by (which q j g)
    where
      by : Which q j → ActionNumber tops count j (action_number acts' q j)
      by (new s t) = rw (s, t, number_same acts p k (pack_action a) P.long h room) number_new
      by (old m e) = rw e (P.actions q j m)

  new_last : (q j : ℕ) → j < length_at lengths' q → closing (action_in (action_number acts' q j)).op ≡ true → j + 1 ≡ length_at lengths' q
  new_last q j g c = by (which q j g)
    where
      here_old : j < length_at lengths q → action_number acts' q j ≡ action_number acts q j → (t : Bool) → eqb q p ≡ t → j + 1 ≡ length_at lengths' q
      here_old m e true s =
          let r : q ≡ p = eqb-true q p s in
          let o = goes (subst (λ u. u < programs) r (there q j m)) in
          absurd (P.going o.1 q j (rw r o.0) m (rw e at c))
      here_old m e false s = P.last q j m (rw e at c) ∙ sym (length_other lengths p q (k + 1) (eqb-false q p s))

      by : Which q j → j + 1 ≡ length_at lengths' q
      by (new s t) = rw (s, t, length_same lengths p (k + 1) P.wide h)
      by (old m e) = here_old m e (eqb q p) refl

  new_going : closing a.op ≡ false → (q j : ℕ) → q + 1 ≡ p + 1 → j < length_at lengths' q → closing (action_in (action_number acts' q j)).op ≡ true → ⊥
  new_going f q j e g c = by (which q j g)
    where
      by : Which q j → ⊥
      by (new s t) =
          let u : closing (action_in (pack_action a)).op ≡ true = rw (s, t, number_same acts p k (pack_action a) P.long h room) at c in
          let v : closing a.op ≡ true = rw (action_packed a small) at u in
          let z : ◌≡◌ {A = ℕ} 0 1 = cc in omega arith
      by (old m i) =
          let r : q ≡ p = omega arith in
          let o = goes (subst (λ u. u < programs) r (there q j m)) in
          P.going o.1 q j (rw r o.0) m (rw i at c)

  -- a program's length now
  data Long (q : ℕ) : Type 0 where
    longer : q ≡ p → length_at lengths' q ≡ k + 1 → Long q
    as_before : (q ≡ p → ⊥) → length_at lengths' q ≡ length_at lengths q → Long q

  long_now : (q : ℕ) → Long q
  long_now q = by (eqb q p) refl
    where
      by : (t : Bool) → eqb q p ≡ t → Long q
      by true e = let s : q ≡ p = eqb-true q p e in longer s (ap (length_at lengths') s ∙ length_same lengths p (k + 1) P.wide h)
      by false e = let n = eqb-false q p e in as_before n (length_other lengths p q (k + 1) n)

  new_some : (q : ℕ) → q < p + 1 → 1 ≤ length_at lengths' q
  new_some q g = by (long_now q)
    where
      by : Long q → 1 ≤ length_at lengths' q
      by (longer s e) = omega (arith, e)
      by (as_before n e) = let b : q < programs = omega (arith, n, g, here) in omega (arith, e, P.some q b)

  new_short : (q : ℕ) → length_at lengths' q ≤ 16
  new_short q = by (long_now q)
    where
      by : Long q → length_at lengths' q ≤ 16
      by (longer s e) = omega (arith, e, room)
      by (as_before n e) = omega (arith, e, P.short q)

  new_past : (q : ℕ) → p + 1 ≤ q → length_at lengths' q ≡ 0
  new_past q g = by (long_now q) (ltb p programs) refl
    where
      by : Long q → (t : Bool) → ltb p programs ≡ t → length_at lengths' q ≡ 0
      by (longer s e) t i = absurd (omega (arith, s, g))
      by (as_before n e) true i = let o = (goes (ltb-true p programs i)).0 in e ∙ P.past q (omega (arith, o, g))
      by (as_before n e) false i = let o = ltb-false p programs i in e ∙ P.past q (omega (arith, o, here, g))

  new_zeros : (q j : ℕ) → length_at lengths' q ≤ j → j < 16 → action_number acts' q j ≡ 0
  new_zeros q j g i = by (long_now q)
    where
      by : Long q → action_number acts' q j ≡ 0
      by (longer s e) =
          let m : k < j = omega (arith, e, g) in
          let n : length_at lengths q ≤ j = subst (λ r. length_at lengths r ≤ j) (sym s) (omega (arith, m)) in
          number_other acts p k q j (pack_action a) room i (λ u v. omega (arith, v, m)) ∙ P.zeros q j n i
      by (as_before n e) = number_other acts p k q j (pack_action a) room i (λ u v. n u) ∙ P.zeros q j (omega (arith, e, g)) i

  pub next_action_lem : Programs acts' lengths' (p + 1) (closing a.op) tops count
  next_action_lem = record {
    long = length-set acts (p * 16 + k) (pack_action a) ∙ P.long;
    wide = length-set lengths p (k + 1) ∙ P.wide;
    most = omega arith;
    some = new_some;
    short = new_short;
    past = new_past;
    actions = new_actions;
    last = new_last;
    going = new_going;
    zeros = new_zeros;
  }
