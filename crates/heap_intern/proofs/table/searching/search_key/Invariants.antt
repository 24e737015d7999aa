use Rattle.heap_intern.proofs.table.searching.search_key.Given as goal

abbrev pub ghosts-search_key_by : goal.ghosts-search_key_by
ghosts-search_key_by g a = record { name = a.blank.name; parts = a.blank.parts }
