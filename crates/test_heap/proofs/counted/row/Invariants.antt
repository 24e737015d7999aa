use Rattle.test_heap.proofs.counted.row.Given as goal

abbrev pub ghosts-on_slots : goal.ghosts-on_slots
ghosts-on_slots a = record { name = a.blank.name; parts = a.blank.parts }
