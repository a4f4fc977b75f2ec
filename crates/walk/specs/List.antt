-- The listing: the walk with room for some answers. A bad schedule is put behind those found, and the walk goes on while there is
-- room for another. So a listing is calls of the search from answer to answer (proofs/List.antt), and the search a listing with
-- room for one.
use Rattle.std.specs.Prelude.{ℕ, zero, suc, ◌+◌, ◌-◌, ◌<◌, ◌≤◌, ◌≡◌, List, [], ◌∷◌, ◌++◌, length, eqb}
use Rattle.walk.specs.Base.{pick}
use Rattle.walk.specs.Machine.{Machine}
use Rattle.walk.specs.Reply.{Kind, found, stop, end, Reply}
use Rattle.walk.specs.Trail.{Mark, plain, sized, bad, mark_of, Try, bad_in, sized_in}
use Rattle.walk.specs.Place.{Place, over, from, place_of, at}
use Rattle.walk.specs.Passed.{passing}
use Rattle.walk.specs.Array.{Spot, stack_of, word_of, settled_in, after_in}

-- why a listing closes: no room for another answer, the budget used up with a pair left, no pair left
pub data Close : Type 0 where
  full : Close
  spent : Close
  done : Close

pub record Listed (P : Type 0) : Type 0 where
  pub close : Close
  pub words : List (List ℕ)
  pub tries : ℕ
  pub sizes : ℕ
  pub place : P

-- a listing that found nothing more
abbrev pub closed : {P : Type 0} → Close → ℕ → ℕ → P → Listed P
closed c t z p = record { close = c; words = []; tries = t; sizes = z; place = p }

-- words found before, and counts before
abbrev pub with_words : {P : Type 0} → List (List ℕ) → Listed P → Listed P
with_words ws l = record { close = l.close; words = ws ++ l.words; tries = l.tries; sizes = l.sizes; place = l.place }

abbrev pub with_counts : {P : Type 0} → ℕ → ℕ → Listed P → Listed P
with_counts t z l = record { close = l.close; words = l.words; tries = l.tries + t; sizes = l.sizes + z; place = l.place }

-- one turn, with room for r answers beside this one: a bad schedule takes room, and nothing else does
abbrev pub list_turn : Mark → List ℕ → Spot → ℕ → (Spot → ℕ → ℕ → ℕ → Listed Spot) → ℕ → ℕ → Listed Spot
list_turn plain w q r rest t z = rest q (suc r) (suc t) z
list_turn sized w q r rest t z = rest q (suc r) (suc t) (suc z)
list_turn bad w q r rest t z = with_words (w ∷ []) (rest q r (suc t) z)

-- budget, bound, place, room; a room that takes none is full at once
unfoldable pub list_walk : Machine → ℕ → ℕ → Spot → ℕ → ℕ → ℕ → Listed Spot
list_walk M zero n q zero t z = closed full t z q
list_walk M zero n q (suc r) t z = pick (eqb q.next M.none) (closed done t z q) (closed spent t z q)
list_walk M (suc b) n q zero t z = closed full t z q
list_walk M (suc b) n q (suc r) t z =
    let c : M.Conf = at M (stack_of q.codes q.len) in
    let l : Listed Spot = list_turn (mark_of (M.try c q.next)) (word_of q) (after_in M n q (M.try c q.next)) r (list_walk M b n) t z in
    pick (eqb q.next M.none) (closed done t z q) l

-- one listing: bound, room, budget, place
unfoldable pub list_in : Machine → ℕ → ℕ → ℕ → Spot → Listed Spot
list_in M n k b q = list_walk M b n (settled_in M q.codes q.len (from q.next M.codes)) k 0 0

-- an answer of the search as a listing with room for one
abbrev pub as_one : {P : Type 0} → Kind → ℕ → ℕ → P → Listed P
as_one (found w) t z q = with_words (w ∷ []) (closed full t z q)
as_one stop t z q = closed spent t z q
as_one end t z q = closed done t z q

-- a call of the search, and then a listing from its answer on, with room for k and what is left of the budget b
abbrev pub then_list : Machine → ℕ → ℕ → ℕ → Kind → ℕ → ℕ → Spot → Listed Spot
then_list M n k b (found w) t z q = with_words (w ∷ []) (with_counts t z (list_in M n k (b - t) q))
then_list M n k b stop t z q = closed spent t z q
then_list M n k b end t z q = closed done t z q

abbrev pub on_from : Machine → ℕ → ℕ → ℕ → Reply Spot → Listed Spot
on_from M n k b r = then_list M n k b r.kind r.tries r.sizes r.place

-- a listing that is full, and then another one, with room for k more
abbrev pub then_on : Machine → ℕ → ℕ → ℕ → Close → List (List ℕ) → ℕ → ℕ → Spot → Listed Spot
then_on M n k b full ws t z q = with_words ws (with_counts t z (list_in M n k (b - t) q))
then_on M n k b spent ws t z q = record { close = spent; words = ws; tries = t; sizes = z; place = q }
then_on M n k b done ws t z q = record { close = done; words = ws; tries = t; sizes = z; place = q }

abbrev pub list_on : Machine → ℕ → ℕ → ℕ → Listed Spot → Listed Spot
list_on M n k b l = then_on M n k b l.close l.words l.tries l.sizes l.place

-- what the close says of the tries passed, with budget b, room k and the place given back
pub data Closes (M : Machine) (n b k : ℕ) (past : List Try) (p : Place) : Close → Type 0 where
  -- as many bad ones as there was room for
  no_room : length (bad_in past) ≡ k → Closes M n b k past p full
  -- fewer, the budget is used up, and a try is left
  used_up : length (bad_in past) < k → length past ≡ b → 0 < length (passing M n p) → Closes M n b k past p spent
  -- fewer, and none is left
  no_more : length (bad_in past) < k → passing M n p ≡ [] → p ≡ place_of M over → Closes M n b k past p done

-- what one listing has passed of the tries l that were ahead of it
pub record ListPassed (M : Machine) (n b k : ℕ) (l : List Try) (r : Listed Place) : Type 0 where
  pub past : List Try
  pub parts : l ≡ past ++ passing M n r.place
  pub words : r.words ≡ bad_in past
  pub tries : r.tries ≡ length past
  pub sizes : r.sizes ≡ sized_in past
  pub within : length past ≤ b
  pub closes : Closes M n b k past r.place r.close

-- the listing with room for all that it can find: each takes a try, so room for one more than the budget is never full
abbrev pub list_all : Machine → ℕ → ℕ → Spot → Listed Spot
list_all M n b q = list_in M n (b + 1) b q
