-- A lock of a location: free, or held by the thread of a serial. "its locks stay held under its serial".
use Rattle.std.specs.Prelude.{ℕ, ◌+◌, ◌*◌, ◌/◌, ◌%◌, Bool, true, false, not, List, get_or, eqb, ltb}
use Rattle.terms.specs.Base.{pick, also}
use Rattle.terms.specs.Line.{bit_of}
use Rattle.state.specs.declared.lock.Lock.{Lock}

abbrev pub lock : Bool → ℕ → Lock
lock h s = record { held = h; serial = s }

abbrev pub no_holder : Lock
no_holder = lock false 0

unfoldable pub pack_lock : Lock → ℕ
pack_lock l = bit_of l.held * 65536 + l.serial

unfoldable pub lock_in : ℕ → Lock
lock_in n = lock (eqb (n / 65536 % 2) 1) (n % 65536)

-- the lock at a location, a free one past the thirty-two
unfoldable pub lock_at : List ℕ → ℕ → Lock
lock_at l i = pick (ltb i 32) (lock_in (get_or l i 0)) (lock_in 0)

-- the number of a lock held by a thread
unfoldable pub held_by : ℕ → ℕ
held_by s = pack_lock (lock true s)

-- held by another thread
unfoldable pub bars_to : Lock → ℕ → Bool
bars_to l s = also l.held (not (eqb l.serial s))

-- held by this thread
unfoldable pub is_held_by : Lock → ℕ → Bool
is_held_by l s = also l.held (eqb l.serial s)
