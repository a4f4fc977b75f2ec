-- The values of locations stay sound: a write, an extend, a late launch, a reset; and they stay so as the table grows.
use Prim.Native.Nat.{ℕ, ◌<◌, ◌≤◌}
use mathlib.Core.Path.{◌≡◌, refl, ◌∙◌}
use mathlib.Core.Bool.{Bool, true, false}
use mathlib.Core.List.{List}
use native.Mathlib.Omega.{arith}
use lib.ListN.{length, get_or, set, length-set, get_or-eq_default}
use lib.Dec.{ltb, eqb}
use borrow.Author.Tests.{ltb-true, ltb-false, eqb-true}
use Rattle.terms.specs.Base.{pick}
use Rattle.terms.specs.Tree.{sinit, dinit, is_ground}
use Rattle.terms.specs.Sound.{Sound}
use Rattle.terms.specs.Promise.{Grows}
use Rattle.terms.proofs.Growth.{den_sinit, den_dinit}
use Rattle.model.specs.Fields.{loc_of, names_location}
use Rattle.model.specs.Records.{location_in}
use Rattle.model.specs.declared.records.Action.{Action}
use Rattle.model.specs.declared.records.Model.{Model}
use Rattle.model.proofs.Tests.{also_never}
use Rattle.state.specs.Each.{each2}
use Rattle.state.specs.Launch.{is_dynamic}
use Rattle.state.specs.FrameSound.{Grounds}
use Rattle.state.proofs.Threads.{At, at}
use Rattle.state.proofs.Threads.At.{here, there}
use Rattle.state.proofs.Holds.{each_long, each_at}
use Rattle.state.specs.Moves.{with_at}
use Rattle.rules.specs.Effect.{stored}
use Rattle.rules.specs.Restart.{value_launched, values_launched, reset_value, value_reset, values_reset}
use Rattle.audit.specs.Sound.{FitAction}
use Rattle.audit.specs.Whole.{Stored, SoundValues}
use Rattle.law.proofs.KeptWant.{stored_grows, stored_den, stored_none}

-- sinit and dinit are stored labels
sinit_ground : is_ground sinit ≡ true
unfolding is_ground
sinit_ground = refl

dinit_ground : is_ground dinit ≡ true
unfolding is_ground
dinit_ground = refl

stored_sinit : {l : List ℕ} {c : ℕ} → Sound l c → length l ≡ 512 → Stored l c 1
stored_sinit S p = stored_den (den_sinit S p) sinit_ground

stored_dinit : {l : List ℕ} {c : ℕ} → Sound l c → length l ≡ 512 → Stored l c 2
stored_dinit S p = stored_den (den_dinit S p) dinit_ground

-- an action that names a location names a listed one
named_write : (op : ℕ) → op ≡ 1 → names_location op ≡ true
unfolding names_location loc_of
named_write op e = rw e

named_extend : (op : ℕ) → op ≡ 2 → names_location op ≡ true
unfolding names_location loc_of
named_extend op e = rw e

named_lock : (op : ℕ) → op ≡ 3 → names_location op ≡ true
unfolding names_location loc_of
named_lock op e = rw e

pub lock_listed : {m : Model} {k n : ℕ} {a : Action} → FitAction m k n a → a.op ≡ 3 → a.loc < m.location_count
lock_listed {a = a} F e = (F.loc (named_lock a.op e)).below

-- a store
put_listed : {l : List ℕ} {c : ℕ} {vs : List ℕ} {i v j : ℕ} → At vs i v j → Stored l c v → Stored l c (get_or vs j 0) → Stored l c (get_or (set vs i v) j 0)
put_listed (here p e) s t = rw e s
put_listed (there p e) s t = rw e t

put_past : {vs : List ℕ} {i v j : ℕ} → At vs i v j → (j ≡ i → ⊥) → get_or vs j 0 ≡ 0 → get_or (set vs i v) j 0 ≡ 0
put_past (here p e) d t = absurd (d p)
put_past (there p e) d t = e ∙ t

module _ {m : Model} {l : List ℕ} {c : ℕ} where
  pub values_more : {k : List ℕ} {d : ℕ} {vs : List ℕ} → Grows l c k d → SoundValues m l c vs → SoundValues m k d vs
  values_more g s = record { long = s.long; listed = λ i h. stored_grows g (s.listed i h); past = s.past }

  set_value : (vs : List ℕ) (i v : ℕ) → i < m.location_count → i < 32 → SoundValues m l c vs → Stored l c v → SoundValues m l c (set vs i v)
  set_value vs i v h g s t =
      let p : i < length vs = omega (arith, s.long) in
      record {
        long = length-set vs i v ∙ s.long;
        listed = λ j q. put_listed (at vs i v j p) t (s.listed j q);
        past = λ j q. put_past (at vs i v j p) (λ e. omega arith) (s.past j q);
      }

  with_by : (b : Bool) (vs : List ℕ) (i v : ℕ) → ltb i 32 ≡ b → i < m.location_count → SoundValues m l c vs → Stored l c v
      → SoundValues m l c (pick b (set vs i v) vs)
  with_by true vs i v e h s t = set_value vs i v h (ltb-true i 32 e) s t
  with_by false vs i v e h s t = s

  with_value : (vs : List ℕ) (i v : ℕ) → i < m.location_count → SoundValues m l c vs → Stored l c v → SoundValues m l c (with_at vs i v)
  unfolding with_at
  with_value vs i v h s t = with_by (ltb i 32) vs i v refl h s t

  -- write and extend
  stored_by : (b e : Bool) (vs : List ℕ) (i x r : ℕ) → (b ≡ true → i < m.location_count) → (e ≡ true → i < m.location_count)
      → SoundValues m l c vs → Stored l c x → Stored l c r → SoundValues m l c (pick b (with_at vs i x) (pick e (with_at vs i r) vs))
  stored_by true e vs i x r f g s t u = with_value vs i x (f refl) s t
  stored_by false true vs i x r f g s t u = with_value vs i r (g refl) s u
  stored_by false false vs i x r f g s t u = s

  pub values_stored : {k n : ℕ} (vs : List ℕ) (a : Action) (x r : ℕ) → FitAction m k n a → SoundValues m l c vs → Stored l c x → Stored l c r
      → SoundValues m l c (stored vs a x r)
  unfolding stored
  values_stored vs a x r F s t u =
      stored_by (eqb a.op 1) (eqb a.op 2) vs a.loc x r (λ e. (F.loc (named_write a.op (eqb-true a.op 1 e))).below)
      (λ e. (F.loc (named_extend a.op (eqb-true a.op 2 e))).below) s t u

-- each value by its location
module _ {m : Model} (g : Grounds m) {l : List ℕ} {c : ℕ} (f : ℕ → ℕ → ℕ) (keeps : (v n : ℕ) → Stored l c v → Stored l c (f v n)) (none : f 0 0 ≡ 0) where
  each_past : (vs : List ℕ) → SoundValues m l c vs → (i : ℕ) → m.location_count ≤ i → (b : Bool) → ltb i (length vs) ≡ b
      → get_or (each2 f vs m.locations) i 0 ≡ 0
  each_past vs s i h true e =
      each_at f vs m.locations i (ltb-true i (length vs) e) ∙ rw (s.past i h, g.past i h) none
  each_past vs s i h false e =
      get_or-eq_default (each2 f vs m.locations) 0 {n = i} (omega (arith, each_long f vs m.locations, ltb-false i (length vs) e))

  each_listed : (vs : List ℕ) → SoundValues m l c vs → m.location_count ≤ 32 → (i : ℕ) → i < m.location_count
      → Stored l c (get_or (each2 f vs m.locations) i 0)
  each_listed vs s most i h =
      rw (each_at f vs m.locations i (omega (arith, s.long))) (keeps (get_or vs i 0) (get_or m.locations i 0) (s.listed i h))

  each_values : (vs : List ℕ) → SoundValues m l c vs → m.location_count ≤ 32 → SoundValues m l c (each2 f vs m.locations)
  each_values vs s most = record {
    long = each_long f vs m.locations ∙ s.long;
    listed = each_listed vs s most;
    past = λ i h. each_past vs s i h (ltb i (length vs)) refl;
  }

pub pick_stored : {l : List ℕ} {c : ℕ} (b : Bool) {v w : ℕ} → Stored l c v → Stored l c w → Stored l c (pick b v w)
pick_stored true s t = s
pick_stored false s t = t

pick_zero : (b : Bool) → pick {A = ℕ} b 0 0 ≡ 0
pick_zero true = refl
pick_zero false = refl

never_dynamic : (k : ℕ) → is_dynamic 0 k ≡ false
unfolding is_dynamic location_in
never_dynamic k = also_never (eqb 0 k)

launched_none : (k : ℕ) → value_launched {A = ℕ} 2 k 0 0 ≡ 0
unfolding value_launched
launched_none k = rw (never_dynamic k)

reset_none : (k : ℕ) → value_reset {A = ℕ} 0 1 k 0 0 ≡ 0
unfolding value_reset reset_value location_in
reset_none k = pick_zero (eqb 0 k)

module _ {m : Model} (g : Grounds m) (most : m.location_count ≤ 32) {l : List ℕ} {c : ℕ} (S : Sound l c) (p : length l ≡ 512) where
  launched_stored : (k v n : ℕ) → Stored l c v → Stored l c (value_launched 2 k v n)
  unfolding value_launched
  launched_stored k v n s = pick_stored (is_dynamic n k) (stored_dinit S p) s

  pub values_launched_lem : (vs : List ℕ) (k : ℕ) → SoundValues m l c vs → SoundValues m l c (values_launched 2 vs m.locations k)
  unfolding values_launched
  values_launched_lem vs k s = each_values g (value_launched 2 k) (launched_stored k) (launched_none k) vs s most

  reset_stored : (k v n : ℕ) → Stored l c v → Stored l c (value_reset 0 1 k v n)
  unfolding value_reset reset_value
  reset_stored k v n s =
      pick_stored (eqb (location_in n).machine k)
      (pick_stored (eqb (location_in n).kind 0) (stored_none S p)
      (pick_stored (eqb (location_in n).kind 1) s
      (pick_stored (eqb (location_in n).kind 2) (stored_sinit S p) (pick_stored (eqb (location_in n).kind 3) (stored_sinit S p) s)))) s

  pub values_reset_lem : (vs : List ℕ) (k : ℕ) → SoundValues m l c vs → SoundValues m l c (values_reset 0 1 vs m.locations k)
  unfolding values_reset
  values_reset_lem vs k s = each_values g (value_reset 0 1 k) (reset_stored k) (reset_none k) vs s most
