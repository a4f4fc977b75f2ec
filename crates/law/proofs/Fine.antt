-- A sound model has what the theorem asks.
use Prim.Native.Nat.{ℕ, ◌+◌, ◌*◌, ◌/◌, ◌%◌, ◌<◌, ◌≤◌}
use mathlib.Core.Path.{◌≡◌, refl}
use mathlib.Core.Bool.{Bool, true, false}
use native.Mathlib.Omega.{arith}
use lib.ListN.{length, get_or}
use lib.Dec.{ltb, leb}
use borrow.Author.Tests.{ltb-true, ltb-false, lt-ltb}
use Rattle.terms.specs.Base.{pick, also}
use Rattle.terms.specs.Term.{term}
use Rattle.terms.specs.Line.{grade, term_in, term_at}
use Rattle.terms.specs.Table.{fixed_line}
use Rattle.terms.proofs.Meaning.{also_left}
use Rattle.terms.proofs.Pack.{term_packed}
use Rattle.model.specs.Records.{action_in, action_number, action_at, length_at, location_in, location_at}
use Rattle.model.specs.Fields.{loc_of, loc_form_by, loc_in_form, uses_x, uses_y, unused_zero, in_form}
use Rattle.model.specs.declared.records.Action.{Action}
use Rattle.model.specs.declared.records.Model.{Model}
use Rattle.audit.specs.Sound.{SoundModel, FitAction}
use Rattle.law.specs.Like.{Fine}

-- an action that may be read at any place
record FineAction (m : Model) (a : Action) : Type 0 where
  first : a.x < m.count
  second : a.y < m.count
  function : a.op ≡ 14 → a.loc < 256

-- the form of eval (14): its function is below 256
eval_form : (op loc : ℕ) (r : Bool) → op ≡ 14 → pick (leb 21 op) false (also (loc_form_by (loc_of op) loc) r) ≡ true → ltb loc 256 ≡ true
unfolding loc_of
eval_form op loc r e h = also_left (ltb loc 256) r (rw e at h)

pub form_function : (a : Action) → in_form a ≡ true → a.op ≡ 14 → a.loc < 256
unfolding in_form loc_in_form
form_function a f e = ltb-true a.loc 256 (eval_form a.op a.loc (also (unused_zero (uses_x a.op) a.x) (unused_zero (uses_y a.op) a.y)) e f)

fit_fine : {m : Model} {k n : ℕ} {a : Action} → FitAction m k n a → FineAction m a
fit_fine {a = a} f = record { first = f.x.below; second = f.y.below; function = form_function a f.form }

-- no action at all reads as zero
none_fine : (m : Model) → 3 ≤ m.count → FineAction m (action_in 0)
unfolding action_in
none_fine m h = record { first = omega arith; second = omega arith; function = λ e. omega arith }

zero_value : (location_in 0).value ≡ 0
unfolding location_in
zero_value = refl

fixed_kind : (i : ℕ) → i < 3 → (term_in (fixed_line i)).kind ≡ i
unfolding fixed_line
fixed_kind i h = rw (term_packed (term i 0 0) (grade 1 true) (record { kind = omega arith; first = omega arith; second = omega arith }))

module _ {m : Model} (s : SoundModel m) where
  some_term : 3 ≤ m.count
  some_term = s.table.some

  -- by place: action j % 16 of program j / 16
  module _ (j : ℕ) (h : j < 512) where
    same_place : j / 16 * 16 + j % 16 ≡ j
    same_place = omega arith

    listed_action : j % 16 < length_at m.lengths (j / 16) → FineAction m (action_in (get_or m.actions j 0))
    unfolding action_at action_number
    listed_action k = by_length (ltb (j / 16) m.programs) refl
      where
        by_length : (b : Bool) → ltb (j / 16) m.programs ≡ b → FineAction m (action_in (get_or m.actions j 0))
        by_length true e =
            let f = fit_fine ((s.programs (j / 16) (ltb-true (j / 16) m.programs e)).actions (j % 16) k) in
            rw (same_place, lt-ltb j 512 h) at f
        by_length false e =
            let z : length_at m.lengths (j / 16) ≡ 0 = s.zeros.lengths (j / 16) (ltb-false (j / 16) m.programs e) in
            absurd (omega arith)

    past_action : length_at m.lengths (j / 16) ≤ j % 16 → FineAction m (action_in (get_or m.actions j 0))
    unfolding action_number
    past_action k =
        let z = s.zeros.actions (j / 16) (j % 16) (omega arith) k (omega arith) in
        let e : get_or m.actions j 0 ≡ 0 = rw (same_place, lt-ltb j 512 h) at z in
        rw e (none_fine m some_term)

    place_fine : FineAction m (action_in (get_or m.actions j 0))
    place_fine = go (ltb (j % 16) (length_at m.lengths (j / 16))) refl
      where
        go : (b : Bool) → ltb (j % 16) (length_at m.lengths (j / 16)) ≡ b → FineAction m (action_in (get_or m.actions j 0))
        go true e = listed_action (ltb-true (j % 16) (length_at m.lengths (j / 16)) e)
        go false e = past_action (ltb-false (j % 16) (length_at m.lengths (j / 16)) e)

  action_fine : (p k : ℕ) → FineAction m (action_at m.actions p k)
  unfolding action_at action_number
  action_fine p k = go (ltb (p * 16 + k) 512) refl
    where
      go : (b : Bool) → ltb (p * 16 + k) 512 ≡ b → FineAction m (action_in (pick b (get_or m.actions (p * 16 + k) 0) 0))
      go true e = place_fine (p * 16 + k) (ltb-true (p * 16 + k) 512 e)
      go false e = none_fine m some_term

  value_past : (i : ℕ) → m.location_count ≤ i → (location_at m.locations i).value ≡ 0
  unfolding location_at
  value_past i h = go (ltb i 32) refl
    where
      go : (b : Bool) → ltb i 32 ≡ b → (pick b (location_in (get_or m.locations i 0)) (location_in 0)).value ≡ 0
      go true e = rw (s.zeros.locations i h (ltb-true i 32 e)) zero_value
      go false e = zero_value

  value_fine : (i : ℕ) → (location_at m.locations i).value < m.count
  value_fine i = go (ltb i m.location_count) refl
    where
      go : (b : Bool) → ltb i m.location_count ≡ b → (location_at m.locations i).value < m.count
      go true e = (s.locations i (ltb-true i m.location_count e)).below
      go false e = let z = value_past i (ltb-false i m.location_count e) in omega (arith, z, some_term)

  code_fine : (i : ℕ) → i < m.count → (term_at m.lines i).kind ≡ 8 → (term_at m.lines i).a < m.programs
  code_fine i h k = go (ltb i 3) refl
    where
      go : (b : Bool) → ltb i 3 ≡ b → (term_at m.lines i).a < m.programs
      go true e =
          let f : i < 3 = ltb-true i 3 e in
          let q : (term_at m.lines i).kind ≡ i = rw (s.table.fixed i f) (fixed_kind i f) in
          absurd (omega arith)
      go false e = s.codes i (ltb-false i 3 e) h k

  pub sound_fine : length m.lines ≡ 512 → Fine m
  sound_fine long = record {
    table = s.table;
    long = long;
    first = λ p k. (action_fine p k).first;
    second = λ p k. (action_fine p k).second;
    function = λ p k. (action_fine p k).function;
    values = value_fine;
    codes = code_fine;
    programs = s.most_programs;
  }
