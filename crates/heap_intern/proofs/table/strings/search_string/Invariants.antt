use Rattle.heap_intern.proofs.table.strings.search_string.Given as goal

abbrev pub ghosts-search_seat_by : goal.ghosts-search_seat_by
ghosts-search_seat_by g a = record { name = a.blank.name; parts = a.blank.parts }
