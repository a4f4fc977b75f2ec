-- "4 machines; 32 locations; 8 listed threads": each record is exactly its number and names what is listed; past a count stands 0.
use Rattle.std.specs.Prelude.{ℕ, Bool, List, get_or, eqb, ltb, leb}
use Rattle.terms.specs.Base.{pick, also}
use Rattle.terms.specs.Line.{line_at, ground_in}
use Rattle.model.specs.Records.{pack_machine, machine_in, pack_location, location_in, pack_thread, thread_in}
use Rattle.model.specs.Fields.{either, is_memory}
use Rattle.model.specs.declared.records.Model.{Model}
use Rattle.terms.specs.Each.{each}

-- "M machine boot launch protected": both programs are listed
unfoldable pub machine_sound : ℕ → Bool → ℕ → Bool
machine_sound n listed programs =
    pick listed
    (also (eqb (pack_machine (machine_in n)) n)
    (also (ltb (machine_in n).boot programs) (ltb (machine_in n).launch programs)))
    (eqb n 0)

unfoldable pub machines_sound : List ℕ → ℕ → ℕ → Bool
machines_sound ms count programs =
    also (leb 1 count)
    (also (leb count 4)
    (each 4 (λ i. machine_sound (get_or ms i 0) (ltb i count) programs)))

-- "a stored value that isn't ground .. is 25": the label of a ground term
unfoldable pub stored_value : List ℕ → ℕ → ℕ → Bool
stored_value l count label = also (ltb label count) (ground_in (line_at l label))

-- ".. or a register's other than 1, is 25"
unfoldable pub first_fits : ℕ → ℕ → Bool
first_fits kind value = either (is_memory kind) (eqb value 1)

-- "L loc machine kind value"
unfoldable pub location_sound : ℕ → Bool → ℕ → List ℕ → ℕ → Bool
location_sound n listed machines l count =
    pick listed
    (also (eqb (pack_location (location_in n)) n)
    (also (ltb (location_in n).machine machines)
    (also (ltb (location_in n).kind 4)
    (also (stored_value l count (location_in n).value)
    (first_fits (location_in n).kind (location_in n).value)))))
    (eqb n 0)

unfoldable pub each_location : List ℕ → ℕ → ℕ → List ℕ → ℕ → Bool
each_location ls locs machines l count = each 32 (λ i. location_sound (get_or ls i 0) (ltb i locs) machines l count)

unfoldable pub locations_sound : Model → Bool
locations_sound m =
    also (leb m.location_count 32)
    (each_location m.locations m.location_count m.machine_count m.lines m.count)

-- "T agent machine program": an agent is any number
unfoldable pub thread_sound : ℕ → Bool → ℕ → ℕ → Bool
thread_sound n listed machines programs =
    pick listed
    (also (eqb (pack_thread (thread_in n)) n)
    (also (ltb (thread_in n).machine machines) (ltb (thread_in n).program programs)))
    (eqb n 0)

unfoldable pub threads_sound : List ℕ → ℕ → ℕ → ℕ → Bool
threads_sound ts count machines programs =
    also (leb count 8)
    (each 8 (λ i. thread_sound (get_or ts i 0) (ltb i count) machines programs))
