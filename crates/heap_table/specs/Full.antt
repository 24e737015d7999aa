-- A counter that has no room for what is requested: its end lies below the number read plus the request.
use Rattle.std.specs.Prelude.{◌≡◌, ℕ, ◌+◌, ◌<◌}
use Rattle.heap_table.specs.declared.claims.CounterFull.{CounterFull}

-- the report has the request and the end of the counter, and the number read leaves no room for the request
abbrev pub IsFull : CounterFull → ℕ → ℕ → Type 0
IsFull f want end = (f.want ≡ want) × (f.end ≡ end) × (end < f.at + want)
