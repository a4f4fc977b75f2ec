-- S3, S4 and S5: any calls from the first place on, each from the place before, with any budgets, until end.
-- `call` is the search of a program, seen by `view`; it is any that answers as the walk does on good places (`Answers`).
use Prim.Native.Nat.{ℕ, ◌≤◌, ◌<◌}
use mathlib.Core.Path.{◌≡◌, refl, sym, ap, ◌∙◌}
use mathlib.Core.Logic.{◌↔◌}
use mathlib.Core.Bool.{true}
use mathlib.Core.List.{List, ◌++◌, Memᴰ}
use lib.ListN.{length}
use Rattle.walk.specs.Order.{Before, Sorted}
use Rattle.walk.specs.Machine.{Machine, Coded}
use Rattle.walk.specs.Bad.{Bad}
use Rattle.walk.specs.Reply.{Reply}
use Rattle.walk.specs.Gathers.{Gathers}
use Rattle.walk.specs.Trail.{Try, trails, sized_in, all_bad}
use Rattle.walk.specs.Place.{Place, first, fits}
use Rattle.walk.specs.Walk.{search}
use Rattle.walk.specs.Passed.{passing, Passed}
use Rattle.walk.specs.Answers.{AnyBudget, Answers}
use Rattle.walk.specs.Follows.{Follows}
use Rattle.walk.proofs.Fit.{search_fits}
use Rattle.walk.proofs.Pass.{search_passes}
use Rattle.walk.proofs.Placed.{whole, placed}
use Rattle.walk.proofs.Member.{mem_all_bad}
use Rattle.walk.proofs.Rises.{all_bad_rises}
use Rattle.walk.proofs.Gather.{Counted, gathered, ends}
use Rattle.walk.proofs.Same.{same_bad}

-- the walk answers as itself, on the places that fit
pub itself : (M : Machine) (n : ℕ) → Answers M n (search M n) (λ q. q) AnyBudget (λ q. fits M n q ≡ true)
itself M n = record { is = λ b p can ok. refl; on = λ b p can ok. search_fits M n b p ok }

-- S2 for one call from a place that fits: the tries passed stand in the list of all tries, behind those before the place and
-- before those ahead of the place given back
pub call_passes : (M : Machine) (C : Coded M) (n b : ℕ) (p : Place) → fits M n p ≡ true →
    (e : List Try) × (h : Passed M n b (passing M n p) 0 0 (search M n b p)) × (trails M n M.fresh ≡ e ++ (h.past ++ passing M n (search M n b p).place))
call_passes M C n b p f =
    let s : (e : List Try) × (trails M n M.fresh ≡ e ++ passing M n p) = placed M C n p f in
    let h : Passed M n b (passing M n p) 0 0 (search M n b p) = search_passes M C n b p in
    (s.0, h, s.1 ∙ ap (λ (r : List Try). s.0 ++ r) h.parts)

module _ (M : Machine) (C : Coded M) (n : ℕ) (some : 0 < n) {P : Type 0} (call : ℕ → P → Reply P) (view : P → Place) (Can : ℕ → Type 0) (Ok : P → Type 0)
    (A : Answers M n call view Can Ok) (p : P) (ok : Ok p) (starts : view p ≡ first M) (bs : ℕ → ℕ) (can : (i : ℕ) → Can (bs i)) where
  all_counted : {ws : List (List ℕ)} {t z : ℕ} → Gathers call bs 0 p ws t z → Counted (trails M n M.fresh) ws t z
  all_counted g = rw (ap (passing M n) starts ∙ whole M C n some) at (gathered M C n call view Can Ok A bs can ok g)

  -- S3: what is found, in order, is the list of all bad schedules
  pub finds_all : {ws : List (List ℕ)} {t z : ℕ} → Gathers call bs 0 p ws t z → ws ≡ all_bad M n
  unfolding all_bad
  finds_all g = (all_counted g).words

  -- the same by meaning: what is found rises in dictionary order and is exactly the bad schedules of at most n steps
  pub finds_exactly : {ws : List (List ℕ)} {t z : ℕ} → Gathers call bs 0 p ws t z →
      Sorted Before ws × ((w : List ℕ) → Memᴰ w ws ↔ (Bad M M.fresh w × (length w ≤ n)))
  finds_exactly g = rw (finds_all g) (all_bad_rises M C n, λ w. mem_all_bad M C n w)

  -- the tries of all calls together are all tries, and so with those refused for size
  pub tries_all : {ws : List (List ℕ)} {t z : ℕ} → Gathers call bs 0 p ws t z → t ≡ length (trails M n M.fresh)
  tries_all g = (all_counted g).tries

  pub sizes_all : {ws : List (List ℕ)} {t z : ℕ} → Gathers call bs 0 p ws t z → z ≡ sized_in (trails M n M.fresh)
  sizes_all g = (all_counted g).sizes

  -- S4: calls with budgets above 0 come to end
  pub ends_some_time : ((i : ℕ) → 0 < bs i) → (ws : List (List ℕ)) × (t : ℕ) × (z : ℕ) × Gathers call bs 0 p ws t z
  ends_some_time b = ends M C n call view Can Ok A bs can b 0 p ok

  -- S5: if no call counted a try refused for size, the list is that of the machine without limits
  pub without_limits : (N : Machine) (R : M.Conf → N.Conf → Type 0) → Follows M N R → {ws : List (List ℕ)} {t : ℕ} → Gathers call bs 0 p ws t 0 → ws ≡ all_bad N n
  without_limits N R F g = finds_all g ∙ same_bad M N R F n (sym (sizes_all g))
