use Rattle.store_check.proofs.anew.is_of_trees.Given as goal

abbrev pub ghosts-blocks_of_sources : goal.ghosts-blocks_of_sources
ghosts-blocks_of_sources a = record { name = a.blank.name; parts = a.blank.parts }
