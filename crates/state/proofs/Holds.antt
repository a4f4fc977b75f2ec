-- The locks stay sound: one lock taken or freed, all locks after a late launch, all locks after a reset.
use Prim.Native.Nat.{ℕ, zero, suc, ◌+◌, ◌<◌, ◌≤◌}
use mathlib.Core.Bool.{Bool, true, false}
use mathlib.Core.List.{List, [], ◌∷◌}
use mathlib.Core.Path.{◌≡◌, refl, ap, ◌∙◌}
use native.Mathlib.Omega.{arith}
use lib.ListN.{length, get_or, set, drop, length-set, get_or-eq_default}
use lib.Seq.{get_or-drop}
use lib.Dec.{eqb, ltb}
use borrow.Author.Tests.{ltb-true, ltb-false, eqb-true, ne_eqb}
use Rattle.terms.specs.Base.{pick, also}
use Rattle.model.specs.Records.{location_in}
use Rattle.model.specs.declared.records.Model.{Model}
use Rattle.model.specs.declared.records.Action.{Action}
use Rattle.model.proofs.Tests.{also_never}
use Rattle.state.specs.Lock.{pack_lock, lock_in, held_by}
use Rattle.state.specs.Each.{each2}
use Rattle.state.specs.Moves.{with_at, locked}
use Rattle.state.specs.Launch.{is_dynamic, lock_launched, locks_launched}
use Rattle.state.specs.Reset.{lock_reset, locks_reset}
use Rattle.state.specs.FrameSound.{LockSound, LocksSound, Grounds}
use Rattle.state.proofs.Pack.{lock_held}
use Rattle.state.proofs.Threads.{At, at, never}
use Rattle.state.proofs.Threads.At.{here, there}

-- element by element
module _ (f : ℕ → ℕ → ℕ) where
  pub each_long : (l r : List ℕ) → length (each2 f l r) ≡ length l
  unfolding each2
  each_long [] r = refl
  each_long (x ∷ xs) r = ap suc (each_long xs (drop 1 r))

  pub each_at : (l r : List ℕ) (i : ℕ) → i < length l → get_or (each2 f l r) i 0 ≡ f (get_or l i 0) (get_or r i 0)
  unfolding each2
  each_at [] r i h = absurd (omega arith)
  each_at (x ∷ xs) r zero h = refl
  each_at (x ∷ xs) r (suc i) h =
      let e : 1 + i ≡ suc i = omega arith in
      each_at xs (drop 1 r) i (omega arith) ∙ ap (λ (y : ℕ). f (get_or xs i 0) y) (get_or-drop 1 r i 0 ∙ ap (λ (k : ℕ). get_or r k 0) e)

-- one lock
zero_held : (lock_in 0).held ≡ true → ⊥
unfolding lock_in
zero_held e = never false e refl

module _ (m : Model) where
  pub free_lock : (next i : ℕ) → LockSound m next i 0
  free_lock next i = record {
    free = λ e. refl;
    packed = λ e. absurd (zero_held e);
    listed = λ e. absurd (zero_held e);
    serial = λ e. absurd (zero_held e);
  }

  lock_later : (next after i n : ℕ) → next ≤ after → LockSound m next i n → LockSound m after i n
  lock_later next after i n h s = record { free = s.free; packed = s.packed; listed = s.listed; serial = λ e. omega (arith, s.serial e) }

  held_sound : (next i s : ℕ) → s < next → s < 65536 → i < m.location_count → LockSound m next i (held_by s)
  unfolding held_by
  held_sound next i s h c p = record {
    free = λ e. absurd (never true refl (rw (lock_held s c) at e));
    packed = λ e. ap pack_lock (lock_held s c);
    listed = λ e. p;
    serial = λ e. rw (lock_held s c) h;
  }

  -- a store
  put_lock : (next : ℕ) {l : List ℕ} {i n j : ℕ} → At l i n j → LockSound m next i n → LockSound m next j (get_or l j 0) → LockSound m next j (get_or (set l i n) j 0)
  put_lock next (here p e) s t = rw (e, p) s
  put_lock next (there p e) s t = rw e t

  with_by : (b : Bool) (next : ℕ) (l : List ℕ) (i n : ℕ) → ltb i 32 ≡ b → LocksSound m next l → LockSound m next i n → LocksSound m next (pick b (set l i n) l)
  with_by true next l i n e s t = record {
    long = length-set l i n ∙ s.long;
    each = λ j. put_lock next (at l i n j (omega (arith, ltb-true i 32 e, s.long))) t (s.each j);
  }
  with_by false next l i n e s t = s

  with_lock_sound : (next : ℕ) (l : List ℕ) (i n : ℕ) → LocksSound m next l → LockSound m next i n → LocksSound m next (with_at l i n)
  unfolding with_at
  with_lock_sound next l i n s t = with_by (ltb i 32) next l i n refl s t

  locked_by : (b c : Bool) (next : ℕ) (l : List ℕ) (i serial : ℕ) → LocksSound m next l → serial < next → serial < 65536 → (b ≡ true → i < m.location_count)
      → LocksSound m next (pick b (with_at l i (held_by serial)) (pick c (with_at l i 0) l))
  locked_by true c next l i serial s h k p = with_lock_sound next l i (held_by serial) s (held_sound next i serial h k (p refl))
  locked_by false true next l i serial s h k p = with_lock_sound next l i 0 s (free_lock next i)
  locked_by false false next l i serial s h k p = s

  pub locked_sound : (next : ℕ) (l : List ℕ) (a : Action) (serial : ℕ) → LocksSound m next l → serial < next → serial < 65536
      → (a.op ≡ 3 → a.loc < m.location_count) → LocksSound m next (locked l a serial)
  unfolding locked
  locked_sound next l a serial s h k p = locked_by (eqb a.op 3) (eqb a.op 4) next l a.loc serial s h k (λ e. p (eqb-true a.op 3 e))

  -- all locks
  each_by : (b : Bool) (f : ℕ → ℕ → ℕ) (after i : ℕ) (l r : List ℕ) → ltb i (length l) ≡ b → LockSound m after i (f (get_or l i 0) (get_or r i 0))
      → LockSound m after i (get_or (each2 f l r) i 0)
  each_by true f after i l r e s = rw (each_at f l r i (ltb-true i (length l) e)) s
  each_by false f after i l r e s =
      let p : length (each2 f l r) ≤ i = omega (arith, each_long f l r, ltb-false i (length l) e) in
      rw (get_or-eq_default (each2 f l r) 0 p) (free_lock after i)

  each_sound : (f : ℕ → ℕ → ℕ) (next after : ℕ) (l r : List ℕ) → LocksSound m next l
      → ((i : ℕ) → LockSound m next i (get_or l i 0) → LockSound m after i (f (get_or l i 0) (get_or r i 0))) → LocksSound m after (each2 f l r)
  each_sound f next after l r s t = record {
    long = each_long f l r ∙ s.long;
    each = λ i. each_by (ltb i (length l)) f after i l r refl (t i (s.each i));
  }

-- a register is a listed location
module _ (m : Model) (g : Grounds m) where
  listed_by : (b p : Bool) (i k : ℕ) → ltb i m.location_count ≡ b → also p (eqb (location_in (get_or m.locations i 0)).kind (suc k)) ≡ true → i < m.location_count
  unfolding location_in
  listed_by true p i k e h = ltb-true i m.location_count e
  listed_by false p i k e h = absurd (never _ (rw (g.past i (ltb-false i m.location_count e), ne_eqb 0 (suc k) (λ z. omega arith)) at h) (also_never p))

  register_listed : (p : Bool) (i k : ℕ) → also p (eqb (location_in (get_or m.locations i 0)).kind (suc k)) ≡ true → i < m.location_count
  register_listed p i k h = listed_by (ltb i m.location_count) p i k refl h

  launched_by : (b : Bool) (k next i n : ℕ) → next < 65536 → is_dynamic (get_or m.locations i 0) k ≡ b → LockSound m next i n → LockSound m (next + 1) i (pick b (held_by next) n)
  unfolding is_dynamic
  launched_by true k next i n h e s = held_sound m (next + 1) i next (omega arith) h (register_listed (eqb (location_in (get_or m.locations i 0)).machine k) i 2 e)
  launched_by false k next i n h e s = lock_later m next (next + 1) i n (omega arith) s

  pub launched_locks : (next : ℕ) (l : List ℕ) (k : ℕ) → next < 65536 → LocksSound m next l → LocksSound m (next + 1) (locks_launched l m.locations k next)
  unfolding locks_launched lock_launched
  launched_locks next l k h s =
      each_sound m (lock_launched k next) next (next + 1) l m.locations s (λ i. launched_by (is_dynamic (get_or m.locations i 0) k) k next i (get_or l i 0) h refl)

  reset_by : (b c p : Bool) (next i n : ℕ) → next < 65536 → also p (eqb (location_in (get_or m.locations i 0)).kind 2) ≡ c → LockSound m next i n
      → LockSound m (next + 1) i (pick b (pick c (held_by next) 0) n)
  reset_by true true p next i n h e s = held_sound m (next + 1) i next (omega arith) h (register_listed p i 1 e)
  reset_by true false p next i n h e s = free_lock m (next + 1) i
  reset_by false c p next i n h e s = lock_later m next (next + 1) i n (omega arith) s

  pub reset_locks : (next : ℕ) (l : List ℕ) (k : ℕ) (p : Bool) → next < 65536 → LocksSound m next l → LocksSound m (next + 1) (locks_reset l m.locations k p next)
  unfolding locks_reset lock_reset
  reset_locks next l k p h s =
      each_sound m (lock_reset k p next) next (next + 1) l m.locations s
      (λ i. reset_by (eqb (location_in (get_or m.locations i 0)).machine k) (also p (eqb (location_in (get_or m.locations i 0)).kind 2)) p next i (get_or l i 0) h refl)
