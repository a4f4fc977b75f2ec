-- The program's walk is the listing over the model's machine: each turn passes some refused codes and tries one, as the listing
-- does one after another, and the program stands at each place as the walk does.
use Prim.Native.Nat.{ℕ, zero, suc, ◌+◌, ◌-◌, ◌<◌, ◌≤◌}
use mathlib.Core.Bool.{Bool, true, false}
use mathlib.Core.Path.{◌≡◌, refl, sym, ◌∙◌, subst}
use native.Mathlib.Omega.{arith}
use lib.ListN.{length}
use lib.Dec.{eqb, ltb}
use borrow.Author.Tests.{ltb-true, ltb-false, eqb-true, eqb-false}
use Rattle.model.specs.declared.records.Model.{Model}
use Rattle.rules.specs.declared.work.Labels.{Labels}
use Rattle.rules.specs.Worked.{Worked}
use Rattle.rules.specs.Worked as W
use Rattle.machine.specs.Claim.{breaks_claim}
use Rattle.walk.specs.List.{full}
use Rattle.walk.specs.List as S
use Rattle.walk.proofs.List.{list_full}
use Rattle.tries.specs.Labels.{labels}
use Rattle.tries.proofs.Along.{Sane, work_at, event_at}
use Rattle.tries.proofs.Judging.{Judging}
use Rattle.search.specs.Answer.{room_for}
use Rattle.search.specs.Turn.{goes, between}
use Rattle.search.specs.Search.{Scene, turned_on, task, going_on, walk_in}
use Rattle.search.specs.Shown.{spot_of}
use Rattle.search.specs.declared.turn.Walk.{Walk}
use Rattle.search.proofs.Laws.{rests}
use Rattle.search.proofs.JoinStand.{Quiet}
use Rattle.search.proofs.JoinRoom.{words_one, words_none}
use Rattle.search.proofs.JoinShows.{conf_of, let_of, Inv, list_of, Shows, Turns, closes, goes_on, meets}
use Rattle.search.proofs.JoinSought.{Tries, at_end, at_out, at_none, at_stop}
use Rattle.search.proofs.JoinTried.{at_refused, at_found, at_bound}
use Rattle.search.proofs.JoinLonger.{at_entered}

module _ (m : Model) (start : Sane (labels m).fresh) (J : Judging m) (Q : Quiet m) (n B : ℕ) where
  -- One turn, by what it comes to

  module _ (x : Scene) where
    abbrev nx : ℕ
    nx = x.walk.place.next

    abbrev code : ℕ
    code = let_of m x

    abbrev broken : Labels → Bool
    broken b = breaks_claim m.claim (conf_of m x).events (event_at m (conf_of m x) code b)

    abbrev turn : Type 0
    turn = Turns m start J n B x (turned_on m (task m n) x)

    at_done : Tries m start J n B x → (b : Labels) → (work_at m (conf_of m x) code).out ≡ W.Done b → turn
    at_done a b o = go (broken b) refl (ltb (suc x.walk.place.length) n) refl
      where
        go : (p : Bool) → broken b ≡ p → (q : Bool) → ltb (suc x.walk.place.length) n ≡ q → turn
        go true e q f = at_found a b o e
        go false e true f = at_entered a b o e (ltb-true _ _ f) Q
        go false e false f = at_bound a b o e (ltb-false _ _ f)

    at_tried : Tries m start J n B x → (w : Worked) → (work_at m (conf_of m x) code).out ≡ w → turn
    at_tried a (W.Refused i) o = at_refused a i o
    at_tried a (W.Done b) o = at_done a b o

    turn_join : Inv m start J n B x → (goes x.walk) ≡ true → turn
    turn_join v run = go (ltb nx 164) refl
      where
        go_code : nx < 164 → between nx code ≤ x.walk.left → (a b : Bool) → ltb code 164 ≡ a → eqb x.walk.left (between nx code) ≡ b → turn
        go_code low enough true true e f = at_stop v run low enough (ltb-true _ _ e) (eqb-true _ _ f)
        go_code low enough true false e f =
            at_tried (record { inv = v; run = run; low = low; enough = enough; high = ltb-true _ _ e; more = eqb-false _ _ f })
            (work_at m (conf_of m x) code).out refl
        go_code low enough false b e f = at_none v run low enough (ltb-false _ _ e)

        go_low : nx < 164 → (a : Bool) → ltb x.walk.left (between nx code) ≡ a → turn
        go_low low true e = at_out v run low (ltb-true _ _ e)
        go_low low false e = go_code low (ltb-false _ _ e) (ltb code 164) (eqb x.walk.left (between nx code)) refl refl

        go : (a : Bool) → ltb nx 164 ≡ a → turn
        go true e = go_low (ltb-true nx 164 e) (ltb x.walk.left (between nx code)) refl
        go false e = at_end v run (ltb-false nx 164 e)

  -- Turn after turn

  -- no room for another schedule
  shows_full : (x : Scene) → Inv m start J n B x → (goes x.walk) ≡ false → Shows B x x (list_of m n B x)
  shows_full x v e =
      let h : room_for x.room ≤ x.walk.found = ltb-false _ _ (sym v.going ∙ e) in
      let z : room_for x.room - x.walk.found ≡ 0 = omega arith in
      let w : Walk = x.walk in
      let l : list_of m n B x ≡ S.closed full (B - w.left) w.sized (spot_of w.place) =
      rw z (list_full (labels m) n (spot_of w.place) 0 (B - w.left) w.sized w.left) in
      subst (Shows B x x) (sym l)
      (record { kind = v.kind e; place = refl; tries = refl; sizes = refl; found = omega arith; room = sym (words_none x.room w.found) })

  -- f turns more, from every scene where the program stands as it should
  abbrev Joins : ℕ → Type 0
  Joins f = (y : Scene) → Inv m start J n B y → y.walk.left + 1 ≤ f → Shows B y (walk_in f m (task m n) y) (list_of m n B y)

  by_turn : (f : ℕ) (x : Scene) → Joins f → x.walk.left + 1 ≤ suc f → (y : Scene) → Turns m start J n B x y →
      Shows B x (walk_in f m (task m n) y) (list_of m n B x)
  by_turn f x ih h y (closes g a) = rw (rests m (task m n) f y g) a
  by_turn f x ih h y (goes_on i l e r d) =
      let a : Shows B y (walk_in f m (task m n) y) (list_of m n B y) = ih y i (omega arith) in
      subst (Shows B x (walk_in f m (task m n) y)) (sym e)
      (record { kind = a.kind; place = a.place; tries = a.tries; sizes = a.sizes; found = rw (← d) a.found; room = rw (← d, ← r) a.room })
  by_turn f x ih h y (meets w i l e r d) =
      let a : Shows B y (walk_in f m (task m n) y) (list_of m n B y) = ih y i (omega arith) in
      let c : y.walk.found + length (list_of m n B y).words ≡ x.walk.found + suc (length (list_of m n B y).words) = omega arith in
      subst (Shows B x (walk_in f m (task m n) y)) (sym e)
      (record {
        kind = a.kind;
        place = a.place;
        tries = a.tries;
        sizes = a.sizes;
        found = a.found ∙ c;
        room = rw (words_one x.room x.walk.found w (list_of m n B y).words, ← d, ← r) a.room;
      })

  -- the program's walk shows the listing
  pub walk_join : (f : ℕ) → Joins f
  unfolding walk_in
  walk_join zero x v h = absurd (omega arith)
  walk_join (suc f) x v h = go (goes x.walk) refl (λ y i l. walk_join f y i l)
    where
      go : (b : Bool) → (goes x.walk) ≡ b → Joins f →
          Shows B x (going_on b x (λ y. walk_in f m (task m n) (turned_on m (task m n) y))) (list_of m n B x)
      go true e ih = by_turn f x ih h (turned_on m (task m n) x) (turn_join x v e)
      go false e ih = shows_full x v e
