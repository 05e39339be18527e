use Rattle.part_tests.proofs.segment_bytes.read_child.Given as goal

abbrev pub ghosts-fetched : goal.ghosts-fetched
ghosts-fetched g a = record { name = a.blank.name; parts = a.blank.parts }
