-- What one call has passed: of the tries ahead of its place a first part, and what is ahead of the place given back is the rest.
-- `passing M n p` is the list of the tries ahead of p; proofs/Placed.antt says that it is an end part of the list of all tries.
use Rattle.std.specs.Prelude.{ℕ, suc, ◌+◌, ◌-◌, ◌≤◌, ◌<◌, ◌≡◌, length}
use mathlib.Core.List.{List, [], ◌∷◌, ◌++◌, map, reverse, Memᴰ}
use Rattle.walk.specs.Machine.{Machine}
use Rattle.walk.specs.Reply.{Kind, found, stop, end, Reply}
use Rattle.walk.specs.Trail.{Mark, Try, bad, unders, across, trails, bad_in, sized_in}
use Rattle.walk.specs.Place.{Place, Next, over, pair, from, place_of, at}

-- the tries with the codes left at a schedule, deeper ones with them
unfoldable pub here : Machine → ℕ → List ℕ → List ℕ → List Try
here M n up ks = map (unders up) (across M (trails M (n - suc (length up))) (at M up) ks)

-- those, and then what is left of the way back to the empty schedule
unfoldable pub trail : Machine → ℕ → List ℕ → List ℕ → List Try
trail M n [] ks = here M n [] ks
trail M n (j ∷ up) ks = here M n (j ∷ up) ks ++ trail M n up (from (suc j) M.codes)

unfoldable pub ahead : Machine → ℕ → Next → List Try
ahead M n over = []
ahead M n (pair up k) = trail M n up (from k M.codes)

unfoldable pub passing : Machine → ℕ → Place → List Try
passing M n p = trail M n p.up (from p.next M.codes)

-- what the kind of answer says of the tries passed, with budget b and the place given back
pub data Met (M : Machine) (n b : ℕ) (past : List Try) (p : Place) : Kind → Type 0 where
  -- the last try passed is bad, and no earlier one
  met_bad : {w : List ℕ} (e : List Try) → past ≡ e ++ (record { word = w; mark = bad } ∷ []) → bad_in e ≡ [] → Met M n b past p (found w)
  -- no try passed is bad, the budget is used up, and a try is left
  used_up : bad_in past ≡ [] → length past ≡ b → 0 < length (passing M n p) → Met M n b past p stop
  -- no try passed is bad, and none is left
  no_more : bad_in past ≡ [] → passing M n p ≡ [] → p ≡ place_of M over → Met M n b past p end

-- l is what was ahead, t and z the counts before the call
pub record Passed (M : Machine) (n b : ℕ) (l : List Try) (t z : ℕ) (r : Reply Place) : Type 0 where
  pub past : List Try
  pub parts : l ≡ past ++ passing M n r.place
  pub tries : r.tries ≡ t + length past
  pub sizes : r.sizes ≡ z + sized_in past
  pub within : length past ≤ b
  pub met : Met M n b past r.place r.kind

-- 'A place given back names the next pair of the walk': the first try ahead is that of its code after its schedule.
-- Or it is the place after the last pair
pub data Names (M : Machine) (n : ℕ) (p : Place) : Type 0 where
  a_pair : (m : Mark) (l : List Try) → Memᴰ p.next M.codes →
      passing M n p ≡ record { word = reverse (p.next ∷ p.up); mark = m } ∷ l → Names M n p
  the_last : p ≡ place_of M over → Names M n p
