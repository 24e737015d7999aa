-- Helpers: no public contract reaches these definitions.
-- Room for further units.
use Rattle.std.specs.Prelude.{ℕ, ◌+◌, ◌<◌, ◌≤◌, length, vec_len, vec_capacity, Result, Ok, Err}
use Rattle.heap_rule.specs.Layout.{MAX}
use Rattle.heap_build.specs.declared.builder.Builder.{Builder}
use Rattle.heap_build.specs.declared.faults.BuildFault.{BuildFault}
use Rattle.heap_build.specs.declared.faults.BuildFault.TheVariants.{NoMemory, TooLong}
use Rattle.heap_build.specs.Built.{room_in, units_so_far}

-- there is room for so many units more, and a string may have them; or why not
abbrev pub HasRoom : Builder → Builder → ℕ → Result (Unit {0}) BuildFault → Type 0
HasRoom o p count (Ok u) = (length (units_so_far o) + count ≤ MAX)
    × (vec_len p.units + count ≤ vec_capacity p.units)
HasRoom o p count (Err TooLong) = MAX < length (units_so_far o) + count
HasRoom o p count (Err NoMemory) = (length (units_so_far o) + count ≤ MAX)
    × (room_in o < length (units_so_far o) + count)
