use Rattle.cell_store.proofs.tests.a_thousand_objects_are_found_in_ten_steps.Given as goal

abbrev pub ghosts-find_each : goal.ghosts-find_each
ghosts-find_each g a = record { name = a.blank.name; parts = a.blank.parts }
