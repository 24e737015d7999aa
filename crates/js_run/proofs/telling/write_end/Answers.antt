use Rattle.js_run.proofs.telling.write_end.Goals as goal

pub returns-in-Unsupported : goal.returns-in-Unsupported
returns-in-Unsupported g c = rw (c.in-Unsupported.is) c.write_place.ensures

pub returns-in-Memory : goal.returns-in-Memory
returns-in-Memory g c = rw (c.in-Memory.is) (rw (c.as_bytes-in-Memory.ensures.value) at c.write_both-in-Memory.ensures)
