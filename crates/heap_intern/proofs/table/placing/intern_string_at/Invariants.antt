use Rattle.heap_intern.proofs.table.placing.intern_string_at.Given as goal

abbrev pub ghosts-intern_string_at_by : goal.ghosts-intern_string_at_by
ghosts-intern_string_at_by g a = record { name = a.blank.name; parts = a.blank.parts }
