-- What the code answers is fixed by what the definitions say of it: no two answers read alike.
use Prim.Native.Nat.{ℕ}
use mathlib.Core.Path.{◌≡◌, ap}
use Rattle.pages.specs.ListPage.{Stand, stand_in}
use Rattle.pages.specs.declared.lister.Stand as L

abbrev stand_back : Stand → L.Stand
stand_back s = record { place = s.place; left = s.left; sized = s.sized; going = s.going }

-- of where a listing stands, with how many bytes its page has
pub stand_one : (s t : L.Stand) (m n : ℕ) → stand_in s m ≡ stand_in t n → (s ≡ t) × (m ≡ n)
stand_one s t m n e = (ap stand_back e, ap (λ (x : Stand). x.bytes) e)
