use Rattle.js_io.proofs.writing.write_number.Goals as goal

pub returns : goal.returns
returns g c = rw (c.as_bytes.ensures.value, c.format.ensures.text) at c.write_both.ensures
