use Rattle.heap_session.proofs.strings.SessionStrings.intern.Given as goal

abbrev pub ghosts-intern_by : goal.ghosts-intern_by
ghosts-intern_by g a = record { name = a.blank.name; parts = a.blank.parts }
