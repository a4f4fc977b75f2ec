-- One record more of a listing, and a listing of none.
use Prim.Native.Nat.{ℕ, zero, suc, ◌+◌, ◌<◌}
use mathlib.Core.Path.{◌≡◌, refl, sym, ◌∙◌, subst}
use mathlib.Core.List.{List}
use native.Mathlib.Omega.{arith}
use lib.ListN.{get_or, set, replicate, length-set, length-replicate}
use lib.Seq.{get_or-set_same, get_or-set_other}
use Rattle.terms.proofs.Laws.{below_or}
use Rattle.reader.proofs.LoadedFacts.{Listing}

pub one_more_lem : {P : ℕ → Type 0} {room n : ℕ} {l : List ℕ} → Listing P room l n → n < room → (v : ℕ) → P v → Listing P room (set l n v) (n + 1)
one_more_lem {P} {room} {n} {l} L h v q = record {
  wide = length-set l n v ∙ L.wide;
  most = omega arith;
  each = below_or (λ i. P (get_or (set l n v) i 0)) n
      (λ i g. subst P (sym (get_or-set_other l n i v 0 (omega arith))) (L.each i g))
      (subst P (sym (get_or-set_same l n v 0 (omega (arith, L.wide)))) q);
  past = λ i g. get_or-set_other l n i v 0 (omega arith) ∙ L.past i (omega arith);
}

-- where none is listed, nothing is asked of those listed
pub none_listed : {P Q : ℕ → Type 0} {room n : ℕ} {l : List ℕ} → n ≡ 0 → Listing P room l n → Listing Q room l n
none_listed e L = record { wide = L.wide; most = L.most; each = λ i h. absurd (omega arith); past = L.past }

pub zero_at : (n i : ℕ) → ◌≡◌ {A = ℕ} (get_or (replicate n 0) i 0) 0
zero_at zero i = refl
zero_at (suc n) zero = refl
zero_at (suc n) (suc i) = zero_at n i

pub fresh_listing : (P : ℕ → Type 0) (room : ℕ) → Listing P room (replicate room 0) 0
fresh_listing P room = record {
  wide = length-replicate {A = ℕ} room 0;
  most = omega arith;
  each = λ i h. absurd (omega arith);
  past = λ i h. zero_at room i;
}
