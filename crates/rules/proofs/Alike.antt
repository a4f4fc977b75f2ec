-- What a step does to values and variables looks into no label: from lists that are related element by element, by any
-- relation P whatever, come related lists, and the same frame. So one text serves labels and the terms they stand for.
use Prim.Native.Nat.{ℕ, zero, suc, ◌+◌}
use mathlib.Core.Path.{◌≡◌, refl}
use mathlib.Core.Bool.{Bool, true, false}
use mathlib.Core.List.{List}
use lib.ListN.{get_or, drop, set}
use lib.Dec.{eqb, ltb}
use Rattle.terms.specs.Base.{pick, filled}
use Rattle.terms.specs.Promise.{Each, none, one}
use Rattle.model.specs.Records.{location_in}
use Rattle.model.specs.declared.records.Action.{Action}
use Rattle.state.specs.Slot.{slot_at}
use Rattle.state.specs.Code.{way_of}
use Rattle.state.specs.Each.{each2}
use Rattle.state.specs.Early.{next_action}
use Rattle.state.specs.Moves.{with_at, is_last}
use Rattle.state.specs.Launch.{is_dynamic}
use Rattle.state.specs.Reset.{is_on}
use Rattle.state.specs.declared.slot.Slot.{Slot}
use Rattle.state.specs.declared.code.Way.{Way}
use Rattle.state.specs.declared.code.Way.TheVariants as W
use Rattle.state.specs.declared.control.Frame.{Frame}
use Rattle.rules.specs.Effect.{stored, place_of, with_var, cleared, bound_by, bound}
use Rattle.rules.specs.Restart.{value_launched, values_launched, reset_value, value_reset, values_reset, var_reset, each_slot, vars_reset}
use Rattle.rules.specs.Made.{Layout, Config, jumped_on, acted_on, launched_on, reset_on, handed_on, advanced_on, made_by, made_on}

module _ {A B : Type 0} (P : A → B → Type 0) where
  -- related frames are equal
  pub record Alike (c : Config A) (d : Config B) : Type 0 where
    pub frame : c.frame ≡ d.frame
    pub values : Each P c.values d.values
    pub vars : Each P c.vars d.vars

  pick_one : {a b : A} {v w : B} (t : Bool) → P a v → P b w → P (pick t a b) (pick t v w)
  pick_one true p q = p
  pick_one false p q = q

  pick_list : {k l : List A} {r s : List B} (t : Bool) → Each P k r → Each P l s → Each P (pick t k l) (pick t r s)
  pick_list true p q = p
  pick_list false p q = q

  pick_alike : {c d : Config A} {k l : Config B} (t : Bool) → Alike c k → Alike d l → Alike (pick t c d) (pick t k l)
  pick_alike true p q = p
  pick_alike false p q = q

  -- one element, and n elements, stored
  each_set : {l : List A} {r : List B} {v : A} {w : B} (i : ℕ) → Each P l r → P v w → Each P (set l i v) (set r i w)
  each_set i none p = none
  each_set zero (one q e) p = one p e
  each_set (suc i) (one q e) p = one q (each_set i e p)

  each_filled : {v : A} {w : B} (n i : ℕ) {l : List A} {r : List B} → P v w → Each P l r → Each P (filled v n i l) (filled w n i r)
  unfolding filled
  each_filled zero i p e = e
  each_filled (suc n) i p e = each_filled n (i + 1) p (each_set i e p)

  each_with_value : {l : List A} {r : List B} {v : A} {w : B} (loc : ℕ) → Each P l r → P v w → Each P (with_at l loc v) (with_at r loc w)
  unfolding with_at
  each_with_value loc e p = pick_list (ltb loc 32) (each_set loc e p) e

  pub each_stored : {l : List A} {r : List B} {x u : A} {y w : B} (a : Action) → Each P l r → P x y → P u w → Each P (stored l a x u) (stored r a y w)
  unfolding stored
  each_stored a e p q =
      pick_list (eqb a.op 1) (each_with_value a.loc e p)
      (pick_list (eqb a.op 2) (each_with_value a.loc e q) e)

  each_with_var : {l : List A} {r : List B} {v : A} {w : B} (i k : ℕ) → Each P l r → P v w → Each P (with_var l i k v) (with_var r i k w)
  unfolding with_var
  each_with_var i k e p = pick_list (ltb (place_of i k) 192) (each_set (place_of i k) e p) e

  -- each element changed by what stands beside it
  each_each2 : (f : A → ℕ → A) (g : B → ℕ → B) → ((a : A) (b : B) (n : ℕ) → P a b → P (f a n) (g b n))
      → {l : List A} {r : List B} (ns : List ℕ) → Each P l r → Each P (each2 f l ns) (each2 g r ns)
  unfolding each2
  each_each2 f g h ns none = none
  each_each2 f g h ns (one p e) = one (h _ _ (get_or ns 0 0) p) (each_each2 f g h (drop 1 ns) e)

  each_slots : (f : A → ℕ → A) (g : B → ℕ → B) → ((a : A) (b : B) (n : ℕ) → P a b → P (f a n) (g b n))
      → (i : ℕ) {l : List A} {r : List B} (ns : List ℕ) → Each P l r → Each P (each_slot f i l ns) (each_slot g i r ns)
  unfolding each_slot
  each_slots f g h i ns none = none
  each_slots f g h i ns (one p e) = one (h _ _ _ p) (each_slots f g h (i + 1) ns e)

  -- labels 0, 1, 2 and what they stand for
  module _ {none₁ sinit₁ dinit₁ : A} {none₂ sinit₂ dinit₂ : B} (z : P none₁ none₂) (s : P sinit₁ sinit₂) (d : P dinit₁ dinit₂) where
    pub each_cleared : {l : List A} {r : List B} (i : ℕ) → Each P l r → Each P (cleared none₁ l i) (cleared none₂ r i)
    unfolding cleared
    each_cleared i e = pick_list (ltb i 12) (each_filled 16 (place_of i 0) z e) e

    bound_by_lem : {v : A} {w : B} (op : ℕ) → P v w → P (bound_by none₁ op v) (bound_by none₂ op w)
    unfolding bound_by
    bound_by_lem op p = pick_one (eqb op 2) z p

    pub each_bound : {l : List A} {r : List B} {v : A} {w : B} (lengths : List ℕ) (i : ℕ) (q : Slot) → Each P l r → P v w
        → Each P (bound none₁ lengths l i q v) (bound none₂ lengths r i q w)
    unfolding bound
    each_bound lengths i q e p = pick_list (is_last lengths q) (each_cleared i e) (each_with_var i q.position e p)

    value_launched_lem : (m : ℕ) (a : A) (b : B) (n : ℕ) → P a b → P (value_launched dinit₁ m a n) (value_launched dinit₂ m b n)
    unfolding value_launched
    value_launched_lem m a b n p = pick_one (is_dynamic n m) d p

    pub each_launched : {l : List A} {r : List B} (locations : List ℕ) (m : ℕ) → Each P l r → Each P (values_launched dinit₁ l locations m) (values_launched dinit₂ r locations m)
    unfolding values_launched
    each_launched locations m e = each_each2 (value_launched dinit₁ m) (value_launched dinit₂ m) (value_launched_lem m) locations e

    reset_value_lem : (kind : ℕ) {a : A} {b : B} → P a b → P (reset_value none₁ sinit₁ kind a) (reset_value none₂ sinit₂ kind b)
    unfolding reset_value
    reset_value_lem kind p = pick_one (eqb kind 0) z (pick_one (eqb kind 1) p (pick_one (eqb kind 2) s (pick_one (eqb kind 3) s p)))

    value_reset_lem : (m : ℕ) (a : A) (b : B) (n : ℕ) → P a b → P (value_reset none₁ sinit₁ m a n) (value_reset none₂ sinit₂ m b n)
    unfolding value_reset
    value_reset_lem m a b n p = pick_one (eqb (location_in n).machine m) (reset_value_lem (location_in n).kind p) p

    pub each_reset : {l : List A} {r : List B} (locations : List ℕ) (m : ℕ) → Each P l r → Each P (values_reset none₁ sinit₁ l locations m) (values_reset none₂ sinit₂ r locations m)
    unfolding values_reset
    each_reset locations m e = each_each2 (value_reset none₁ sinit₁ m) (value_reset none₂ sinit₂ m) (value_reset_lem m) locations e

    var_reset_lem : (m : ℕ) (a : A) (b : B) (n : ℕ) → P a b → P (var_reset none₁ m a n) (var_reset none₂ m b n)
    unfolding var_reset
    var_reset_lem m a b n p = pick_one (is_on n m) z p

    pub each_vars_reset : {l : List A} {r : List B} (slots : List ℕ) (m : ℕ) → Each P l r → Each P (vars_reset none₁ l slots m) (vars_reset none₂ r slots m)
    unfolding vars_reset
    each_vars_reset slots m e = each_slots (var_reset none₁ m) (var_reset none₂ m) (var_reset_lem m) 0 slots e

    -- a step: from one frame and related lists
    module _ (f : Frame) (g : Layout) {vs us : List A} {ws xs : List B} (e : Each P vs ws) (h : Each P us xs) {x r : A} {y t : B} (p : P x y) (q : P r t) where
      abbrev pub on_labels : Config A
      on_labels = record { frame = f; values = vs; vars = us }

      abbrev pub on_terms_lem : Config B
      on_terms_lem = record { frame = f; values = ws; vars = xs }

      jumped_alike : (i : ℕ) (k : Slot) (a : Action) (n : ℕ) → Alike (jumped_on none₁ on_labels i k a n) (jumped_on none₂ on_terms_lem i k a n)
      unfolding jumped_on
      jumped_alike i k a n = record { frame = refl; values = e; vars = each_cleared i h }

      acted_alike : (i : ℕ) (k : Slot) (a : Action) → Alike (acted_on none₁ g.lengths on_labels i k a x r) (acted_on none₂ g.lengths on_terms_lem i k a y t)
      unfolding acted_on
      acted_alike i k a = record {
        frame = refl;
        values = each_stored a e p q;
        vars = each_bound g.lengths i k h (bound_by_lem a.op q);
      }

      launched_alike : (i : ℕ) (k : Slot) → Alike (launched_on none₁ dinit₁ g.machines g.locations on_labels i k) (launched_on none₂ dinit₂ g.machines g.locations on_terms_lem i k)
      unfolding launched_on
      launched_alike i k = record { frame = refl; values = each_launched g.locations k.machine e; vars = each_cleared i h }

      reset_alike : (m : ℕ) → Alike (reset_on none₁ sinit₁ g.machines g.locations on_labels m) (reset_on none₂ sinit₂ g.machines g.locations on_terms_lem m)
      unfolding reset_on
      reset_alike m = record { frame = refl; values = each_reset g.locations m e; vars = each_vars_reset f.slots m h }

      handed_alike : (i j : ℕ) → Alike (handed_on none₁ g.lengths on_labels i j x) (handed_on none₂ g.lengths on_terms_lem i j y)
      unfolding handed_on
      handed_alike i j = record {
        frame = refl;
        values = e;
        vars = each_bound g.lengths j (slot_at f.slots j) (each_bound g.lengths i (slot_at f.slots i) h z) p;
      }

      advanced_alike : (i n : ℕ) → Alike (advanced_on none₁ dinit₁ g on_labels i x r n) (advanced_on none₂ dinit₂ g on_terms_lem i y t n)
      unfolding advanced_on
      advanced_alike i n =
          let k = slot_at f.slots i in
          let a = next_action g.actions k in
          pick_alike (eqb a.op 19) (jumped_alike i k a n) (pick_alike (eqb a.op 20) (launched_alike i k) (acted_alike i k a))

      way_alike : (w : Way) (n : ℕ) → Alike (made_by w none₁ sinit₁ dinit₁ g on_labels x r n) (made_by w none₂ sinit₂ dinit₂ g on_terms_lem y t n)
      way_alike W.Nothing n = record { frame = refl; values = e; vars = h }
      way_alike (W.Advance i) n = advanced_alike i n
      way_alike (W.Hand i j) n = handed_alike i j
      way_alike (W.Reset m) n = reset_alike m

      pub made_alike : (code n : ℕ) → Alike (made_on none₁ sinit₁ dinit₁ g on_labels code x r n) (made_on none₂ sinit₂ dinit₂ g on_terms_lem code y t n)
      unfolding made_on
      made_alike code n = way_alike (way_of code) n
