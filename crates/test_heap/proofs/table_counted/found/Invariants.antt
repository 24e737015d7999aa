use Rattle.test_heap.proofs.table_counted.found.Given as goal

abbrev pub ghosts-found_on : goal.ghosts-found_on
ghosts-found_on a = record { name = a.blank.name; parts = a.blank.parts }
