-- A sound configuration, for a sound model: the clauses of 'Sound means' as tests, one for each. A configuration is its
-- term table and what stands beside it, the control.
use Rattle.std.specs.Prelude.{ℕ, ◌+◌, ◌/◌, ◌%◌, Bool, not, List, get_or, take, eqb, ltb, leb}
use Rattle.terms.specs.Base.{pick, also}
use Rattle.terms.specs.Line.{line_at, term_in}
use Rattle.terms.specs.Sound.{sound_test}
use Rattle.model.specs.Records.{length_at}
use Rattle.model.specs.declared.records.Model.{Model}
use Rattle.state.specs.Slot.{slot_in, pack_slot, slot_at}
use Rattle.state.specs.Lock.{lock_in, pack_lock}
use Rattle.state.specs.FrameSound.{live_on, most_among}
use Rattle.state.specs.declared.slot.Slot.{Slot}
use Rattle.state.specs.declared.control.Frame.{Frame}
use Rattle.state.specs.declared.control.Control.{Control}
use Rattle.terms.specs.Each.{each}
use Rattle.audit.specs.Listed.{stored_value}
use Rattle.audit.specs.Models.{names_program}

-- the table begins with the model's: the fixed and the listed terms
unfoldable pub begins_with : List ℕ → List ℕ → ℕ → Bool
begins_with l known n = each n (λ i. eqb (line_at l i) (line_at known i))

-- "nonces below the next"; a code term names a program
unfoldable pub leaf_sound : ℕ → ℕ → ℕ → Bool
leaf_sound n programs nonce = pick (eqb (term_in n).kind 7) (ltb (term_in n).a nonce) (names_program (term_in n) programs)

unfoldable pub leaves_sound : List ℕ → ℕ → ℕ → ℕ → Bool
leaves_sound l n programs nonce = each n (λ i. leaf_sound (line_at l i) programs nonce)

-- "terms distinct, parts earlier; entries past the count .. zero"
unfoldable pub table_sound : Model → List ℕ → ℕ → ℕ → Bool
table_sound m l n nonce =
    also (sound_test l n)
    (also (leb m.count n)
    (also (begins_with l m.lines m.count)
    (leaves_sound l n m.programs nonce)))

-- at most 60,000 steps; "next serial at most 8 + steps, next nonce at most steps"
unfoldable pub counters_sound : Frame → Bool
counters_sound f =
    also (leb f.steps 60000)
    (also (leb f.serial (8 + f.steps))
    (leb f.nonce f.steps))

-- "serials of threads .. below the next"; a live thread is on a listed machine, before the end of a listed program
unfoldable pub thread_fits : Slot → ℕ → List ℕ → ℕ → ℕ → Bool
thread_fits s serial lengths programs machines =
    also (ltb s.serial serial)
    (also (ltb s.machine machines)
    (also (ltb s.program programs)
    (ltb s.position (length_at lengths s.program))))

-- "free slots .. zero"; a live one is exactly its number
unfoldable pub slot_sound : ℕ → ℕ → List ℕ → ℕ → ℕ → Bool
slot_sound n serial lengths programs machines =
    pick (slot_in n).live
    (also (eqb (pack_slot (slot_in n)) n) (thread_fits (slot_in n) serial lengths programs machines))
    (eqb n 0)

unfoldable pub slots_sound : List ℕ → ℕ → List ℕ → ℕ → ℕ → Bool
slots_sound slots serial lengths programs machines = each 12 (λ i. slot_sound (get_or slots i 0) serial lengths programs machines)

-- "serials of threads .. live ones different"
unfoldable pub same_serial : Slot → Slot → Bool
same_serial p q = also (also p.live q.live) (eqb p.serial q.serial)

unfoldable pub new_serial : List ℕ → ℕ → Bool
new_serial slots i = each i (λ j. not (same_serial (slot_at slots j) (slot_at slots i)))

unfoldable pub serials_differ : List ℕ → Bool
serials_differ slots = each 12 (λ i. new_serial slots i)

-- "exactly the earlier variables bound": variable k of a live thread that stands after action k
unfoldable pub is_bound : Slot → ℕ → Bool
is_bound s k = also s.live (ltb k s.position)

-- "stored values ground"; "unbound variables zero"
unfoldable pub var_sound : ℕ → Slot → ℕ → List ℕ → ℕ → Bool
var_sound v s k l n = pick (is_bound s k) (stored_value l n v) (eqb v 0)

-- variable k of slot i stands at 16 i + k
unfoldable pub vars_sound : List ℕ → List ℕ → List ℕ → ℕ → Bool
vars_sound vars slots l n = each 192 (λ i. var_sound (get_or vars i 0) (slot_at slots (i / 16)) (i % 16) l n)

-- "free locks .. zero"; a held one is exactly its number, of a listed location; "serials of .. locks below the next"
unfoldable pub lock_sound : ℕ → ℕ → Bool → Bool
lock_sound n serial listed =
    pick (lock_in n).held
    (also (eqb (pack_lock (lock_in n)) n) (also listed (ltb (lock_in n).serial serial)))
    (eqb n 0)

unfoldable pub locks_sound : List ℕ → ℕ → ℕ → Bool
locks_sound locks serial locs = each 32 (λ i. lock_sound (get_or locks i 0) serial (ltb i locs))

-- "stored values ground"; "entries past the count .. zero"
unfoldable pub value_sound : ℕ → List ℕ → ℕ → Bool → Bool
value_sound v l n listed = pick listed (stored_value l n v) (eqb v 0)

unfoldable pub values_sound : List ℕ → List ℕ → ℕ → ℕ → Bool
values_sound values l n locs = each 32 (λ i. value_sound (get_or values i 0) l n (ltb i locs))

-- "live threads per machine at most the listed number, or 1 if none was listed"
unfoldable pub machine_fits : List ℕ → List ℕ → ℕ → ℕ → Bool
machine_fits slots threads listed k = leb (live_on k slots) (most_among (take listed threads) k)

unfoldable pub threads_fit : List ℕ → List ℕ → ℕ → Bool
threads_fit slots threads listed = each 4 (λ k. machine_fits slots threads listed k)

-- all of them
unfoldable pub sound_control : Model → List ℕ → Control → Bool
sound_control m l s =
    also (table_sound m l s.count s.frame.nonce)
    (also (counters_sound s.frame)
    (also (slots_sound s.frame.slots s.frame.serial m.lengths m.programs m.machine_count)
    (also (serials_differ s.frame.slots)
    (also (vars_sound s.vars s.frame.slots l s.count)
    (also (locks_sound s.frame.locks s.frame.serial m.location_count)
    (also (values_sound s.values l s.count m.location_count)
    (threads_fit s.frame.slots m.threads m.thread_count)))))))
