-- What std's `find` over the numbers from 0 on comes to, in the words of this crate's definitions. It takes what the call
-- ensures of its run, and that the closure computes the test.
use Rattle.std.proofs.Common.{ℕ, zero, suc, ◌+◌, ◌<◌, Bool, true, false, List, Option, Some, None, ◌≡◌, refl, sym, ◌∙◌, arith}
use mathlib.Core.Bool.{cond}
use native.Mathlib.Nat.{sub-zero}
use denote.Param.Members.{Mut}
use denote.Ref.{Bor}
use borrow.Author.Tests.{lt-ltb, le-ltb}
use Rattle.std.specs.Bool.{⊤}
use Rattle.std.specs.Fn.{CalledAt}
use Rattle.std.specs.Iterator.{YieldsThen}
use Rattle.std.specs.List.{FoldsTo, find, range_with_len}
use Rattle.std.specs.Option.{MatchOption, option_map}
use Rattle.std.specs.declared.ops.Range.{Range}
use Rattle.std.proofs.iter.Yields.{nat_range_steps}
use Rattle.std.proofs.lemmas.Iterator.{YieldsList-from_range}
use Rattle.std.proofs.lemmas.Iterator.Search.{find_from_yields_List}
use Rattle.terms.specs.Base.{pick}
use Rattle.model.specs.First.{first_from}
use Rattle.reader.specs.SecondReading.{below}

abbrev pub upto : ℕ → Range ℕ
upto n = record { start = 0; end = n }

first_by : (b : Bool) (i t k : ℕ) → i < t → cond b (Some i) (below k t) ≡ below (pick b i k) t
first_by true i t k h = rw (lt-ltb i t h)
first_by false i t k h = refl

first_of : (n i t : ℕ) (p : ℕ → Bool) → i + n ≡ t → find p (range_with_len i n) ≡ below (first_from n i p) t
unfolding first_from
first_of zero i t p e = rw (le-ltb i t (omega arith))
first_of (suc n) i t p e = rw (first_of n (i + 1) t p (omega (arith, e))) (first_by (p i) i t (first_from n (i + 1) p) (omega arith))

none_of : (r : Option ℕ) → option_map (λ (x : ℕ). x) r ≡ r
none_of None = refl
none_of (Some x) = refl

-- the first number below n that passes the test
pub found_first : {F : Type 0} {g : Mut F (Bor ℕ × Unit {0}) Bool} (n : ℕ) (p : ℕ → Bool) (u : Range ℕ) (f : F) (r : Option ℕ)
    → (xs : List ℕ) × (j : F) × YieldsThen nat_range_steps (upto n) xs r u × FoldsTo (λ p x q. CalledAt g p x false q) f xs j × MatchOption r ⊤ (λ x. (h : F) × CalledAt g j x true h)
    → ((x : ℕ) (b : Bool) (q : F) → CalledAt g f x b q → (q ≡ f) × (b ≡ p x))
    → r ≡ below (first_from n 0 p) n
found_first n p u f r ran call =
    sym (none_of r) ∙ find_from_yields_List p u f r ran (YieldsList-from_range 0 n n refl (sub-zero n)) call ∙ first_of n 0 n p (omega arith)
