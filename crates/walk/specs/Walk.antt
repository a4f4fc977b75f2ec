-- The walk as document 01 tells it, one try after another, with a budget: 'found, exactly if a bad schedule is met within the
-- budget; stop, exactly if the budget runs out with pairs left and none met; else end'.
use Rattle.std.specs.Prelude.{ℕ, zero, suc, List, ◌∷◌, reverse, length, ltb}
use Rattle.walk.specs.Base.{pick}
use Rattle.walk.specs.Machine.{Machine, Outcome, refused, too_big, goes, breaks}
use Rattle.walk.specs.Reply.{Kind, found, stop, end, Reply}
use Rattle.walk.specs.Trail.{Mark, plain, sized, bad, mark_of}
use Rattle.walk.specs.Place.{Place, Next, over, pair, from, settle, place_of, next_in, at}

abbrev pub reply : {P : Type 0} → Kind → ℕ → ℕ → P → Reply P
reply k t z p = record { kind = k; tries = t; sizes = z; place = p }

-- the pair after the try of k at a schedule: 'entering each permitted unbroken schedule shorter than the bound'
unfoldable pub after : (M : Machine) → ℕ → List ℕ → ℕ → Outcome M.Conf → Next
after M n up k refused = settle M up (from (suc k) M.codes)
after M n up k too_big = settle M up (from (suc k) M.codes)
after M n up k (goes d) = pick (ltb (suc (length up)) n) (settle M (k ∷ up) M.codes) (settle M up (from (suc k) M.codes))
after M n up k breaks = settle M up (from (suc k) M.codes)

-- one turn: a bad try ends the call, any other goes on. w is the schedule tried, q the pair after it, rest the rest of the walk
abbrev pub turn : Machine → Mark → List ℕ → Next → (Next → ℕ → ℕ → Reply Place) → ℕ → ℕ → Reply Place
turn M plain w q rest t z = rest q (suc t) z
turn M sized w q rest t z = rest q (suc t) (suc z)
turn M bad w q rest t z = reply (found w) (suc t) z (place_of M q)

-- the walk from the next pair on, with the budget left and the counts so far
unfoldable pub walk : Machine → ℕ → ℕ → Next → ℕ → ℕ → Reply Place
walk M zero n over t z = reply end t z (place_of M over)
walk M zero n (pair up k) t z = reply stop t z (place_of M (pair up k))
walk M (suc b) n over t z = reply end t z (place_of M over)
walk M (suc b) n (pair up k) t z =
    turn M (mark_of (M.try (at M up) k)) (reverse (k ∷ up)) (after M n up k (M.try (at M up) k)) (walk M b n) t z

-- one call: bound, budget, place
unfoldable pub search : Machine → ℕ → ℕ → Place → Reply Place
search M n b p = walk M b n (next_in M p) 0 0
