-- The walk seeks a code that is let through: turns that find none, or come to one with no budget left for it. Where there is
-- budget the code is tried.
use Prim.Native.Nat.{ℕ, suc, ◌+◌, ◌-◌, ◌%◌, ◌<◌, ◌≤◌}
use mathlib.Core.Bool.{Bool, true, false}
use mathlib.Core.List.{List}
use mathlib.Core.Path.{◌≡◌, refl, sym, ap, ◌∙◌, subst}
use native.Mathlib.Omega.{arith}
use lib.Dec.{eqb, ltb}
use borrow.Author.Tests.{ltb-true, ltb-false, eq-eqb, ne_eqb}
use Rattle.model.specs.declared.records.Model.{Model}
use Rattle.state.specs.Code.{is_code, codes_below, code_from}
use Rattle.state.specs.Seek.{First}
use Rattle.state.specs.declared.control.Control.{Control}
use Rattle.state.proofs.Codes.{below_from, below_over, one_iff}
use Rattle.state.proofs.Sought.{seek_first}
use Rattle.state.proofs.Threads.{never}
use Rattle.walk.specs.Machine.{Machine}
use Rattle.walk.specs.Place.{from}
use Rattle.walk.specs.Array.{settled_in}
use Rattle.walk.specs.List.{spent, done, list_walk}
use Rattle.walk.specs.List as S
use Rattle.walk.proofs.List.{list_over, list_spent}
use Rattle.law.specs.Machines.{LabelsConf}
use Rattle.tries.specs.Labels.{real_codes, labels}
use Rattle.tries.proofs.Codes.{is_next, below_small, code_below, below_orders, below_rises, nth_code, none_next, next_low, next_high, code_low}
use Rattle.tries.proofs.Along.{Sane, sight_at}
use Rattle.tries.proofs.Judging.{Judging}
use Rattle.search.specs.Place.{place, at_code, settled}
use Rattle.search.specs.Turn.{goes, walk, between, reached, closed, past}
use Rattle.search.specs.Search.{Scene, scene, turned_on, task}
use Rattle.search.specs.Shown.{spot_of}
use Rattle.search.specs.declared.place.Place.{Place}
use Rattle.search.specs.declared.answer.Kind.TheVariants.{Stop, End}
use Rattle.search.specs.declared.turn.Walk.{Walk}
use Rattle.search.specs.declared.turn.Task.{Task}
use Rattle.search.proofs.JoinPlace.{spot, settle_code, settle_is}
use Rattle.search.proofs.JoinShows.{conf_of, let_of, Inv, list_of, Turns, goes_on, room_after}
use Rattle.search.proofs.JoinShows.{j_small, parts, turned_is, inv_on, closes_with, some_room, skip_to}
use Rattle.search.proofs.JoinTurn as T

-- numbers of codes
unb : (a b i : ℕ) → i < between a b → i < codes_below b - codes_below a
unfolding between
unb a b i h = h

bet : (a b i : ℕ) → codes_below b - codes_below a ≡ i → between a b ≡ i
unfolding between
bet a b i h = h

below_code : (d e : ℕ) → codes_below d < codes_below e → d < e
below_code d e h = go (ltb d e) refl
  where
    go : (b : Bool) → ltb d e ≡ b → d < e
    go true q = ltb-true d e q
    go false q = absurd (omega (arith, below_rises e d (ltb-false d e q)))

high_next : (d : ℕ) → 164 ≤ d → d ≤ 164 → is_next d ≡ true
high_next d h l = let e : d ≡ 164 = omega arith in rw e none_next

-- the walk comes to a code, and has budget to try it
pub record Tries (m : Model) (start : Sane (labels m).fresh) (J : Judging m) (n B : ℕ) (x : Scene) : Type 0 where
  pub inv : Inv m start J n B x
  pub run : (goes x.walk) ≡ true
  pub low : x.walk.place.next < 164
  pub enough : between x.walk.place.next (let_of m x) ≤ x.walk.left
  pub high : let_of m x < 164
  pub more : x.walk.left ≡ between x.walk.place.next (let_of m x) → ⊥

module _ {m : Model} {start : Sane (labels m).fresh} {J : Judging m} {n B : ℕ} {x : Scene} (v : Inv m start J n B x) (run : (goes x.walk) ≡ true) where
  abbrev M : Machine
  M = labels m

  abbrev cs : List ℕ
  cs = x.walk.place.codes

  abbrev j : ℕ
  j = x.walk.place.length

  abbrev nx : ℕ
  nx = x.walk.place.next

  abbrev c : LabelsConf
  c = conf_of m x

  abbrev s : Control
  s = c.control

  abbrev k : Task
  k = task m n

  abbrev r : ℕ
  r = room_after x

  abbrev code : ℕ
  code = let_of m x

  abbrev turn : Type 0
  turn = Turns m start J n B x (turned_on m k x)

  -- no pair is left
  pub at_end : 164 ≤ nx → turn
  unfolding closed
  at_end h =
      let w : Walk = x.walk in
      let e : eqb nx 164 ≡ true = eq-eqb nx 164 (next_high nx v.stands.next h) in
      let l : list_of m n B x ≡ S.closed done (B - w.left) w.sized (spot_of w.place) =
      rw (some_room v run) (list_over M n (spot_of w.place) r (B - w.left) w.sized w.left e) in
      subst (Turns m start J n B x) (sym (turned_is v _ (T.turn_end x.table x.records x.room s w m k h)))
      (closes_with v
      (scene (walk w.place (w.left - 0) w.sized w.found w.filled false End) x.stack x.deeps x.table x.records x.room) done
      (spot_of w.place) (B - w.left) l refl refl refl (omega arith) refl refl refl)

  first : First (sight_at m c) nx code
  first = seek_first (sight_at m c) nx

  module _ (low : nx < 164) where
    on : nx ≤ code
    on = first.on (omega arith)

    -- the budget is out on the way
    pub at_out : x.walk.left < between nx code → turn
    unfolding closed at_code reached
    at_out h =
        let w : Walk = x.walk in
        let hb : w.left < codes_below code - codes_below nx = unb nx code w.left h in
        let d : ℕ = code_from (codes_below nx + w.left) in
        let small : codes_below code ≤ 160 = below_small code in
        let db : codes_below d ≡ codes_below nx + w.left = below_from (codes_below nx + w.left) (omega arith) in
        let dc : is_code d ≡ true = nth_code (codes_below nx + w.left) (omega arith) in
        let dn : nx ≤ d = below_orders nx d dc (omega arith) in
        let dl : d < code = below_code d code (omega arith) in
        let len : between nx d ≡ w.left = bet nx d w.left (omega arith) in
        let sk = skip_to v run d dn (λ i a b. first.refused i a (omega arith)) (omega arith) in
        let z : w.left - w.left ≡ 0 = omega arith in
        let md : w.left % 256 ≡ w.left = omega arith in
        let l : list_of m n B x ≡ S.closed spent (B - w.left + w.left) w.sized (spot cs j d) =
        (rw (len, z, settle_code m cs j d dc) at sk) ∙ list_spent M n (spot cs j d) r (B - w.left + w.left) w.sized
        (ne_eqb d 164 (λ q. omega (arith, code_low d dc))) in
        subst (Turns m start J n B x) (sym (turned_is v _ (T.turn_out x.table x.records x.room s w m k low h)))
        (closes_with v
        (scene (walk (place cs j (code_from (codes_below nx + w.left % 256))) (w.left - w.left) w.sized w.found w.filled false Stop)
        x.stack x.deeps x.table x.records x.room)
        spent (spot cs j d) (B - w.left + w.left) l refl refl (rw md) (omega (arith, v.left)) refl refl refl)

    -- the codes up to the one let through are passed
    module _ (enough : between nx code ≤ x.walk.left) where
      pub reach : list_of m n B x ≡
          list_walk M (x.walk.left - between nx code) n (settled_in M cs j (from code real_codes)) (suc r) (B - x.walk.left + between nx code)
          x.walk.sized
      reach = skip_to v run code on (λ i a b. first.refused i a b) enough

      some_passed : 164 ≤ code → 1 ≤ between nx code
      unfolding between
      some_passed h =
          let e : code ≡ 164 = omega (arith, first.small) in
          omega (arith, code_below nx (next_low nx v.stands.next low), ap codes_below e, below_over 164 (omega arith))

      -- none is let through: back, or to the end
      pub at_none : 164 ≤ code → turn
      unfolding past at_code
      at_none h =
          let w : Walk = x.walk in
          let u : ℕ = between nx code in
          let one : 1 ≤ u = some_passed h in
          let p : Place = settled (place cs j code) in
          let cn : is_next code ≡ true = high_next code h first.small in
          let e : spot_of p ≡ settled_in M cs j (from code real_codes) = settle_is m (place cs j code) (omega (arith, j_small v)) cn in
          let y : Scene = scene (walk p (w.left - u) w.sized w.found w.filled true End) x.stack x.deeps x.table x.records x.room in
          let t : B - w.left + u ≡ B - (w.left - u) = omega (arith, v.left) in
          let l : list_of m n B x ≡ list_of m n B y = reach ∙ rw (some_room v run, t, e) in
          let i : Inv m start J n B y =
          inv_on v y code e (parts v) (omega arith) (omega (arith, v.sized)) (omega (arith, v.found)) (sym run ∙ v.going)
          (λ f. absurd (never true refl f)) v.records v.stack v.deeps in
          subst (Turns m start J n B x) (sym (turned_is v _ (T.turn_none x.table x.records x.room s w m k low enough h)))
          (goes_on i (omega arith) l refl refl)

      module _ (high : code < 164) where
        pub code_real : is_code code ≡ true
        code_real = go (is_code code) refl
          where
            go : (b : Bool) → is_code code ≡ b → b ≡ true
            go true e = refl
            go false e = absurd (omega (arith, first.given high, (one_iff (sight_at m c) code).1 e))

        pub not_none : eqb code 164 ≡ false
        not_none = ne_eqb code 164 (λ q. omega (arith, high))

        -- the budget is out there
        pub at_stop : x.walk.left ≡ between nx code → turn
        unfolding closed at_code
        at_stop e =
            let w : Walk = x.walk in
            let u : ℕ = between nx code in
            let z : w.left - u ≡ 0 = omega arith in
            let l : list_of m n B x ≡ S.closed spent (B - w.left + u) w.sized (spot cs j code) =
            (rw (z, settle_code m cs j code code_real) at reach) ∙ list_spent M n (spot cs j code) r (B - w.left + u) w.sized not_none in
            subst (Turns m start J n B x) (sym (turned_is v _ (T.turn_stop x.table x.records x.room s w m k low enough high e)))
            (closes_with v
            (scene (walk (place cs j code) (w.left - u) w.sized w.found w.filled false Stop)
            x.stack x.deeps x.table x.records x.room)
            spent (spot cs j code) (B - w.left + u) l refl refl refl (omega (arith, v.left)) refl refl refl)
