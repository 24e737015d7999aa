use Rattle.test_strings.proofs.on_text.OnText.ends.Given as goal

abbrev pub ghosts-ends : goal.ghosts-ends
ghosts-ends a = record { name = a.blank.name; parts = a.blank.parts }
