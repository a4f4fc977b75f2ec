-- The whole listing: call the search from a place, then from each place given back, until it says end.
-- The i-th call has the budget bs i. What was found, in order, and the sums of the two counts.
use Rattle.std.specs.Prelude.{ℕ, suc, ◌+◌, ◌≡◌, List, [], ◌∷◌}
use Rattle.walk.specs.Reply.{Reply, found, stop, end}

-- Gathers call bs i p ws t z: the calls from number i and place p on found the schedules ws, with t tries, z of them refused for size
pub data Gathers {P : Type 0} (call : ℕ → P → Reply P) (bs : ℕ → ℕ) : ℕ → P → List (List ℕ) → ℕ → ℕ → Type 0 where
  ended : {i : ℕ} {p : P} → (call (bs i) p).kind ≡ end → Gathers call bs i p [] (call (bs i) p).tries (call (bs i) p).sizes
  stopped : {i : ℕ} {p : P} {ws : List (List ℕ)} {t z : ℕ} → (call (bs i) p).kind ≡ stop →
      Gathers call bs (suc i) (call (bs i) p).place ws t z → Gathers call bs i p ws ((call (bs i) p).tries + t) ((call (bs i) p).sizes + z)
  met : {i : ℕ} {p : P} {w : List ℕ} {ws : List (List ℕ)} {t z : ℕ} → (call (bs i) p).kind ≡ found w →
      Gathers call bs (suc i) (call (bs i) p).place ws t z → Gathers call bs i p (w ∷ ws) ((call (bs i) p).tries + t) ((call (bs i) p).sizes + z)
