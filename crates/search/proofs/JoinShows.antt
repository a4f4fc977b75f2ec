-- How the program stands along its walk, the listing that is still to come there, and what a turn has to come to: it closes the
-- walk as the listing closes, or goes on with as much to list, or with one schedule less.
use Rattle.std.specs.Prelude.{is_none}
use Prim.Native.Nat.{ℕ, suc, ◌+◌, ◌-◌, ◌%◌, ◌<◌, ◌≤◌}
use mathlib.Core.Bool.{Bool, true, false}
use mathlib.Core.List.{List, [], ◌∷◌}
use mathlib.Core.Path.{◌≡◌, refl, sym, ap, ◌∙◌, subst}
use native.Mathlib.Omega.{arith}
use lib.ListN.{length, get_or}
use lib.Dec.{ltb}
use borrow.Author.Tests.{ltb-true}
use Rattle.model.specs.declared.records.Model.{Model}
use Rattle.state.specs.Early.{early_of}
use Rattle.state.specs.Seek.{seek_from}
use Rattle.state.specs.declared.control.Control.{Control}
use Rattle.walk.specs.Base.{All}
use Rattle.walk.specs.Machine.{Machine}
use Rattle.walk.specs.Machine as O
use Rattle.walk.specs.Place.{from, at}
use Rattle.walk.specs.Array.{Spot, stack_of, settled_in}
use Rattle.walk.specs.List.{Close, Listed, with_words, list_walk}
use Rattle.walk.specs.List as S
use Rattle.walk.proofs.Lists.{all_imp}
use Rattle.walk.proofs.List.{Settled, settle_twice, list_skip}
use Rattle.law.specs.Machines.{LabelsConf}
use Rattle.tries.specs.Labels.{real_codes, try_code, labels}
use Rattle.tries.proofs.Codes.{Piece, piece, labels_coded}
use Rattle.tries.proofs.Along.{Sane, sight_at, try_early}
use Rattle.tries.proofs.Judging.{Judging}
use Rattle.search.specs.Answer.{room_for}
use Rattle.search.specs.Enter.{no_control}
use Rattle.search.specs.Turn.{goes, answer_if, kind_or, answered, between, Lent, turn_on}
use Rattle.search.specs.Search.{Scene, scene_after, turned_on, task}
use Rattle.search.specs.Shown.{spot_of, kind_of, word_put, words_put}
use Rattle.search.specs.declared.answer.Kind.TheVariants.{Found}
use Rattle.search.specs.declared.turn.Turned.{Turned}
use Rattle.search.specs.declared.turn.Task.{Task}
use Rattle.search.proofs.JoinStand.{Parts, Stands, stands_from}
use Rattle.search.proofs.JoinRoom.{words_none}

-- a walk that goes on where b holds, and else answers found
pub goes_if : (b : Bool) → is_none (answer_if b Found) ≡ b
goes_if true = refl
goes_if false = refl

pub found_if : (b : Bool) → kind_or (answer_if b Found) ≡ Found
found_if true = refl
found_if false = refl

-- the configuration that the walk stands at, and the code that is let through there, or 164
abbrev pub conf_of : Model → Scene → LabelsConf
conf_of m x = at (labels m) (stack_of x.walk.place.codes x.walk.place.length)

abbrev pub let_of : Model → Scene → ℕ
let_of m x = seek_from (sight_at m (conf_of m x)) x.walk.place.next

-- how the program stands, in a walk with bound n and budget B
pub record Inv (m : Model) (start : Sane (labels m).fresh) (J : Judging m) (n B : ℕ) (x : Scene) : Type 0 where
  pub bound : n ≤ 24
  pub limit : B ≤ 4294967295
  pub stands : Stands m start J x.stack x.deeps x.table x.walk.filled x.records n (spot_of x.walk.place)
  pub settled : Settled (labels m) (spot_of x.walk.place)
  pub left : x.walk.left ≤ B
  pub sized : x.walk.sized + x.walk.left ≤ B
  pub found : x.walk.found + x.walk.left ≤ B
  pub going : (goes x.walk) ≡ ltb x.walk.found (room_for x.room)
  pub kind : (goes x.walk) ≡ false → (answered x.walk) ≡ Found
  pub records : length x.records ≡ 288
  pub stack : length x.stack ≡ 25
  pub deeps : length x.deeps ≡ 25

-- the listing from there on
abbrev pub list_of : Model → ℕ → ℕ → Scene → Listed Spot
list_of m n B x =
    list_walk (labels m) x.walk.left n (spot_of x.walk.place) (room_for x.room - x.walk.found) (B - x.walk.left) x.walk.sized

-- what the program has come to, y, shows the listing from x on
pub record Shows (B : ℕ) (x y : Scene) (l : Listed Spot) : Type 0 where
  pub kind : (answered y.walk) ≡ kind_of l.close
  pub place : spot_of y.walk.place ≡ l.place
  pub tries : B - y.walk.left ≡ l.tries
  pub sizes : y.walk.sized ≡ l.sizes
  pub found : y.walk.found ≡ x.walk.found + length l.words
  pub room : y.room ≡ words_put x.room x.walk.found l.words

-- a turn closes the walk, or leaves it going with as much to list, or with one schedule less
pub data Turns (m : Model) (start : Sane (labels m).fresh) (J : Judging m) (n B : ℕ) (x y : Scene) : Type 0 where
  closes : (goes y.walk) ≡ false → Shows B x y (list_of m n B x) → Turns m start J n B x y
  goes_on : Inv m start J n B y → y.walk.left < x.walk.left → list_of m n B x ≡ list_of m n B y → y.room ≡ x.room →
      y.walk.found ≡ x.walk.found → Turns m start J n B x y
  meets : (w : List ℕ) → Inv m start J n B y → y.walk.left < x.walk.left → list_of m n B x ≡ with_words (w ∷ []) (list_of m n B y) →
      y.room ≡ word_put x.room x.walk.found w → y.walk.found ≡ x.walk.found + 1 → Turns m start J n B x y

-- how much room there is behind the schedule to come
abbrev pub room_after : Scene → ℕ
room_after x = room_for x.room - (x.walk.found + 1)

module _ {m : Model} {start : Sane (labels m).fresh} {J : Judging m} {n B : ℕ} {x : Scene} (v : Inv m start J n B x) where
  abbrev M : Machine
  M = labels m

  abbrev cs : List ℕ
  cs = x.walk.place.codes

  abbrev j : ℕ
  j = x.walk.place.length

  abbrev nx : ℕ
  nx = x.walk.place.next

  abbrev c : LabelsConf
  c = conf_of m x

  abbrev s : Control
  s = c.control

  abbrev k : Task
  k = task m n

  pub j_small : j < 24
  j_small = omega (arith, v.stands.short, v.bound)

  pub parts : Parts m start J x.stack x.deeps x.table x.walk.filled x.records cs j
  parts = v.stands.parts

  -- a turn at the configuration there
  pub turned_is : (a : Lent Turned) → turn_on x.table x.records x.room s x.walk m k ≡ a →
      turned_on m k x ≡ scene_after m k a x.walk.place s (get_or x.deeps j 0) j x.stack x.deeps
  unfolding turned_on
  turned_is a e =
      let d : j % 24 ≡ j = omega (arith, j_small) in
      let f : get_or x.stack j no_control ≡ s = parts.controls j (omega arith) in
      rw (d, f, e)

  -- on at a place of the same schedule, or back from it
  pub inv_on : (y : Scene) (d : ℕ) → spot_of y.walk.place ≡ settled_in M cs j (from d real_codes) →
      Parts m start J y.stack y.deeps y.table y.walk.filled y.records cs j →
      y.walk.left ≤ x.walk.left → y.walk.sized + y.walk.left ≤ B → y.walk.found + y.walk.left ≤ B →
      (goes y.walk) ≡ ltb y.walk.found (room_for y.room) → ((goes y.walk) ≡ false → (answered y.walk) ≡ Found) →
      length y.records ≡ 288 → length y.stack ≡ 25 → length y.deeps ≡ 25 → Inv m start J n B y
  inv_on y d e p a b f g h i l o = record {
    bound = v.bound;
    limit = v.limit;
    stands =
        subst (Stands m start J y.stack y.deeps y.table y.walk.filled y.records n) (sym e)
        (stands_from m start J y.stack y.deeps y.table y.walk.filled y.records n cs j d p
        v.stands.long v.stands.clean v.stands.short);
    settled = subst (Settled M) (sym e) (settle_twice M (labels_coded m) n cs j (from d real_codes) d refl);
    left = omega (arith, v.left);
    sized = b;
    found = f;
    going = g;
    kind = h;
    records = i;
    stack = l;
    deeps = o;
  }

  -- the walk closes at a place
  pub closes_with : (y : Scene) (e : Close) (q : Spot) (t : ℕ) → list_of m n B x ≡ S.closed e t x.walk.sized q → (goes y.walk) ≡ false →
      (answered y.walk) ≡ kind_of e → spot_of y.walk.place ≡ q → B - y.walk.left ≡ t → y.walk.sized ≡ x.walk.sized →
      y.walk.found ≡ x.walk.found → y.room ≡ x.room → Turns m start J n B x y
  closes_with y e q t l g k p a b d f =
      closes g
      (subst (Shows B x y) (sym l)
      (record { kind = k; place = p; tries = a; sizes = b; found = d ∙ omega arith; room = f ∙ sym (words_none x.room x.walk.found) }))

  module _ (run : (goes x.walk) ≡ true) where
    pub some_room : room_for x.room - x.walk.found ≡ suc (room_after x)
    some_room = let h : x.walk.found < room_for x.room = ltb-true _ _ (sym v.going ∙ run) in omega arith

    -- the codes up to d, all refused, are passed together
    pub skip_to : (d : ℕ) → nx ≤ d → ((i : ℕ) → nx ≤ i → i < d → early_of (sight_at m c) i ≡ 0 → ⊥) → between nx d ≤ x.walk.left →
        list_of m n B x ≡
        list_walk M (x.walk.left - between nx d) n (settled_in M cs j (from d real_codes)) (suc (room_after x)) (B - x.walk.left + between nx d)
        x.walk.sized
    unfolding between
    skip_to d h f l =
        let r : ℕ = room_after x in
        let P : Piece nx d = piece nx d h in
        let a : All (λ i. try_code m c i ≡ O.refused) P.codes =
        all_imp (λ i. (nx ≤ i) × (i < d)) (λ i. try_code m c i ≡ O.refused) (λ i b. try_early m c i (f i b.0 b.1)) P.codes P.all in
        ap (λ (y : ℕ). list_walk M x.walk.left n (spot_of x.walk.place) y (B - x.walk.left) x.walk.sized) some_room ∙
        ap (λ (q : Spot). list_walk M x.walk.left n q (suc r) (B - x.walk.left) x.walk.sized) (sym v.settled ∙ ap (settled_in M cs j) P.parts) ∙
        list_skip M (labels_coded m) n cs j P.codes (from d real_codes) nx x.walk.left r (B - x.walk.left) x.walk.sized P.parts a
        (omega (arith, P.long)) ∙
        rw P.long
