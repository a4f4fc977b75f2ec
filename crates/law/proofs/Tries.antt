-- An action worked out on labels is the action acted out by the rules with limits: 8 and 9 for the operands, 10, 8 and 9 for
-- the result, each exactly where the rules give it; else the labels of x, y and the result, and the same terms known.
use Prim.Native.Nat.{ℕ, ◌+◌, ◌<◌, ◌≤◌, max}
use mathlib.Core.Path.{◌≡◌, sym, ◌∙◌}
use mathlib.Core.Bool.{true, false}
use mathlib.Core.List.{List, [], ◌∷◌, ◌++◌}
use native.Mathlib.Omega.{arith}
use lib.ListN.{length, length-append}
use borrow.Author.Tests.{le-leb, lt-leb}
use Rattle.terms.specs.Base.{Held, held}
use Rattle.terms.specs.Sound.{Sound}
use Rattle.terms.specs.Tree.{Tree, deepness, subst_t, member, with, enter}
use Rattle.terms.specs.Meaning.{trees, means, Den}
use Rattle.terms.specs.Promise.{Fit, Grows, Each, Adds, deep, listed, new, full, Takes}
use Rattle.terms.specs.declared.term.Term.{Term}
use Rattle.terms.specs.Outcome.{Added}
use Rattle.terms.specs.Taken.{Operands}
use Rattle.terms.proofs.Meaning.{length_trees}
use Rattle.terms.proofs.Growth.{den_grows, grows_then}
use Rattle.terms.proofs.Add.{adds}
use Rattle.terms.proofs.Enter.{with_new}
use Rattle.terms.proofs.Depth.{den_enters}
use Rattle.terms.proofs.Substs.{takes_den, den_shallow}
use Rattle.model.specs.declared.records.Action.{Action}
use Rattle.rules.specs.Work.{refused_by, labelled_by, as_result, meet_new, meet_want, try_taken, try_action}
use Rattle.rules.specs.Asked.{Want}
use Rattle.rules.specs.Out.{Tried}
use Rattle.law.specs.Out.{Out, ok, refuse, and_then}
use Rattle.law.specs.Size.{fits, fits_both, fits_one}
use Rattle.law.specs.Act.{result}
use Rattle.law.specs.Rules.{Acted, acted}
use Rattle.law.proofs.Asks.{Asks, refuses, keeps, makes, asks}

-- the limits, by what there is to fit
pub fits_deep : (n : ℕ) (ks : List Tree) → 16 < n → fits true n ks ≡ refuse 8
unfolding fits
fits_deep n ks h = rw (lt-leb n 16 h)

pub fits_full : (n : ℕ) (ks : List Tree) → n ≤ 16 → 512 < length ks → fits true n ks ≡ refuse 9
unfolding fits
fits_full n ks h k = rw (le-leb n 16 h, lt-leb (length ks) 512 k)

pub fits_ok : (n : ℕ) (ks : List Tree) → n ≤ 16 → length ks ≤ 512 → fits true n ks ≡ ok ks
unfolding fits
fits_ok n ks h k = rw (le-leb n 16 h, le-leb (length ks) 512 k)

-- what comes of an action: the table has grown from l, x y r are the labels of the rules' terms
pub data Tries (l : List ℕ) (c : ℕ) : Held Tried → Out Acted → Type 0 where
  refused : {n d : ℕ} {m : List ℕ} → Tries l c (held (refused_by n d) m) (refuse n)
  done : {m : List ℕ} {d x y r : ℕ} {tx ty tr : Tree} → Grows l c m d → Den m d x tx → Den m d y ty → Den m d r tr
      → Tries l c (held (labelled_by x y r d) m) (ok (acted (trees m d) tx ty tr))

-- the operands are there: table m of d terms
module _ {l : List ℕ} {c : ℕ} {m : List ℕ} {d x y : ℕ} {tx ty : Tree} (g : Grows l c m d) (dx : Den m d x tx) (dy : Den m d y ty) where
  abbrev resulting : Tree → Out Acted
  resulting tr = and_then (fits_one true (trees m d) tr) (λ ls. ok (acted ls tx ty tr))

  known_length : length (trees m d) ≡ d
  known_length = length_trees m d g.long g.sound.room

  -- a label that is there: nothing is entered
  there : {r : ℕ} {tr : Tree} → Den m d r tr → Tries l c (held (labelled_by x y r d) m) (resulting tr)
  unfolding and_then
  there {r} {tr} dr =
      let e : enter (trees m d) tr ≡ trees m d = den_enters g.sound g.long dr in
      let h : deepness tr ≤ 16 = den_shallow g.sound g.long dr in
      let n = known_length in
      let k = g.sound.room in
      rw (e, fits_ok (deepness tr) (trees m d) h (omega arith)) (done g dx dy dr)

  -- a term made
  added_is : {e : Term} {tr : Tree} → means m d e ≡ tr → enter (trees m d) tr ≡ with (trees m d) tr → {a : Held Added} → Adds m d e a
      → Tries l c (as_result a x y) (resulting tr)
  unfolding and_then
  added_is {e} {tr} q w (deep h) = let h' : 16 < deepness tr = rw q at h in rw (fits_deep (deepness tr) (enter (trees m d) tr) h') refused
  added_is {e} {tr} q w (listed h n) = let n' : Den m d _ tr = rw q at n in there n'
  added_is {e} {tr} q w (new {m = u} h n r k n2 t) =
      let h' : deepness tr ≤ 16 = rw q at h in
      let n' : member tr (trees m d) ≡ false = rw q at n in
      let t' : trees u (d + 1) ≡ trees m d ++ (tr ∷ []) = rw q at t in
      let n3 : Den u (d + 1) d tr = rw q at n2 in
      let f : enter (trees m d) tr ≡ trees u (d + 1) = w ∙ with_new (trees m d) tr n' ∙ sym t' in
      let s : length (trees u (d + 1)) ≡ d + 1 = length_trees u (d + 1) k.long k.sound.room in
      rw (f, fits_ok (deepness tr) (trees u (d + 1)) h' (omega arith)) (done (grows_then g k) (den_grows k dx) (den_grows k dy) n3)
  added_is {e} {tr} q w (full h n r) =
      let h' : deepness tr ≤ 16 = rw q at h in
      let n' : member tr (trees m d) ≡ false = rw q at n in
      let f : enter (trees m d) tr ≡ trees m d ++ (tr ∷ []) = w ∙ with_new (trees m d) tr n' in
      let s : length (trees m d ++ (tr ∷ [])) ≡ length (trees m d) + 1 = length-append (trees m d) (tr ∷ []) in
      let i = known_length in
      rw (f, fits_full (deepness tr) (trees m d ++ (tr ∷ [])) h' (omega arith)) refused

  new_is : (e : Term) {tr : Tree} → Fit e d → means m d e ≡ tr → enter (trees m d) tr ≡ with (trees m d) tr → Tries l c (meet_new m d x y e) (resulting tr)
  unfolding meet_new
  new_is e f q w = added_is q w (adds g.sound g.long e f)

  -- what the action wants is met
  meets : {w : Want} {o : Out Tree} → Asks m d w o → Tries l c (meet_want m d x y w) (and_then o resulting)
  unfolding meet_want and_then
  meets refuses = refused
  meets (keeps dr) = there dr
  meets (makes {e = e} f q w) = new_is e f q w

-- the operands taken, then the rest
module _ {l : List ℕ} {c : ℕ} (a : Action) (small-loc : a.op ≡ 14 → a.loc < 256) {v : ℕ} {tv : Tree} (dv : Den l c v tv) (n : ℕ) (small : n < 65536) where
  abbrev acting : Tree → Tree → Out Acted
  acting tx ty =
      and_then (fits_both true (trees l c) tx ty) (λ ks.
      and_then (result a tv tx ty n) (λ r.
      and_then (fits_one true ks r) (λ ls.
      ok (acted ls tx ty r))))

  taken_is : {tx ty : Tree} {t : Held Operands} → Takes l c tx ty t → Tries l c (try_taken t a v n) (acting tx ty)
  unfolding and_then
  taken_is {tx} {ty} (Takes.deep h) = rw (fits_deep (max (deepness tx) (deepness ty)) (enter (enter (trees l c) tx) ty) h) refused
  taken_is {tx} {ty} (Takes.full h k) = rw (fits_full (max (deepness tx) (deepness ty)) (enter (enter (trees l c) tx) ty) h k) refused
  taken_is {tx} {ty} (Takes.done {m = m} {d = d} h g dx dy t) =
      let k : length (trees m d) ≡ d = length_trees m d g.long g.sound.room in
      let r = g.sound.room in
      rw (← t, fits_ok (max (deepness tx) (deepness ty)) (trees m d) h (omega arith))
      (meets g dx dy (asks g.sound g.long (den_grows g dv) dx dy n small a small-loc))

  -- the whole action, from the labels of its operands
  pub tries : (sound : Sound l c) (long : length l ≡ 512) {vs : List ℕ} {ws : List Tree} → Each (Den l c) vs ws → (o : ℕ)
      → {tx ty : Tree} → Den l c a.x tx → Den l c a.y ty
      → Tries l c (try_action l c vs o a v n) (acting (subst_t ws o tx) (subst_t ws o ty))
  unfolding try_action
  tries sound long vals o dx dy = taken_is (takes_den sound long vals o dx dy)
