use Rattle.segment_fits.proofs.source.are_read_back.Given as goal

abbrev pub ghosts-are_read_back_counted : goal.ghosts-are_read_back_counted
ghosts-are_read_back_counted a = record { name = a.blank.name; parts = a.blank.parts }
