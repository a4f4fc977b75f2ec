-- What comes of trying something: a value, or a refusal with its number in 'Turned down'.
use Rattle.std.specs.Prelude.{ℕ}

pub data Out (A : Type 0) : Type 0 where
  ok : A → Out A
  refuse : ℕ → Out A

-- the first refusal counts: "Each is given exactly when its reason holds and none before it"
unfoldable pub and_then : {A B : Type 0} → Out A → (A → Out B) → Out B
and_then (ok a) f = f a
and_then (refuse n) f = refuse n
