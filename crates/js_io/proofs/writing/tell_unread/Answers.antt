use Rattle.js_io.proofs.Told.{told}
use Rattle.js_io.proofs.writing.tell_unread.Goals as goal

pub returns : goal.returns
returns g c =
    let state = g.E.Sink.state in
    λ out. told 3 _ c.write_both.result out (state c.args.err.now) (state c.write_both.new.sink) (rw (c.as_bytes.ensures.value) at c.write_both.ensures)
