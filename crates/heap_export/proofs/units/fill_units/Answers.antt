use Rattle.std.proofs.Common.{◌∙◌, sym, length}
use Rattle.heap_table.specs.Agents.{view_of}
use Rattle.heap_export.proofs.Whole.{read_whole}
use Rattle.heap_export.proofs.Windows.{window_len}
use Rattle.heap_export.proofs.units.fill_units.Goals as goal

pub returns-clause-units : goal.returns-clause-units
returns-clause-units g c us h = read_whole us c.read_in.new.into (length c.args.out.now)
    (window_len (view_of c.args.text.now.reader.agent) c.args.w us h ∙ sym c.requires.room) (c.read_in.ensures.units us h)
