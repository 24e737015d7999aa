-- What was written of a report.
use Rattle.std.proofs.Common.{inl, inr, ℕ, List, [], Result, Ok, Err, refl}
use Rattle.js_io.specs.SinkState.{SinkState, WritesAll}
use Rattle.js_io.specs.Report.{TakesAll, TakesUntil, IsTold, sinks}
use Rattle.js_io.proofs.Prefixes.{Appends-nil}

takes_nothing : (a : SinkState) → TakesAll a a []
takes_nothing a = record { took = Appends-nil a.taken; calm = refl }

-- a line was told, or a write of it failed
pub told : {E : Type 0} (status : ℕ) (line : List ℕ) (r : Result Unit E) (out a b : SinkState) → WritesAll r a b line → IsTold status line status (sinks out a) (sinks out b)
told status line (Ok done) out a b w = record { status = refl; silent = takes_nothing out; told = inl (record { took = w.all; calm = w.calm }) }
told status line (Err e) out a b w = record { status = refl; silent = takes_nothing out; told = inr (record { took = w.prefix; once = w.once; counted = w.counted }) }
