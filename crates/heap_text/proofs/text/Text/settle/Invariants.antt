use Rattle.heap_text.proofs.text.Text.settle.Given as goal

abbrev pub ghosts-settle_by : goal.ghosts-settle_by
ghosts-settle_by g a = record { name = a.blank.name; parts = a.blank.parts }
