use Rattle.js_store.specs.Limits.{limit_units}
use Rattle.heap_session.specs.Sessions.{state_in, table_of, session_view}
use Rattle.heap_session.specs.Sound.{session_sound}
use Rattle.heap_session.proofs.Whole.{whole_all}
use Rattle.run_program.specs.Fits.{all_meant}
use Rattle.run_program.specs.Jobs.{Reports}
use Rattle.run_program.proofs.First.{are_first}
use Rattle.run_program.proofs.Tells.{tells}
use Rattle.run_program.proofs.laws.ends_tell.Goals as goal

pub returns : goal.returns
returns c whole prelude scripts files run of = let s = c.args._session.now in let table = table_of s.text.reader.heap.now in
    tells (state_in s) (all_meant prelude scripts) files (whole_all (session_view s) (limit_units s.limit) table s.text.reader.belongs.5
    whole) (session_sound (session_view s) s.limit table s.text.reader.belongs.5) run
    (are_first (state_in s) (Reports (state_in s)) prelude scripts files run.each of)
