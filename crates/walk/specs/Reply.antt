-- The answer of one call of the search: 'found .. with the first such schedule; stop; else end. All carry tries, the place after,
-- and the tries refused by 8 or 9'. P is whatever a place is kept as.
use Rattle.std.specs.Prelude.{ℕ, List}

pub data Kind : Type 0 where
  found : List ℕ → Kind
  stop : Kind
  end : Kind

pub record Reply (P : Type 0) : Type 0 where
  pub kind : Kind
  pub tries : ℕ
  pub sizes : ℕ
  pub place : P
