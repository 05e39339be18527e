use Rattle.line_engine.proofs.made_run.run_made.Given as goal

abbrev pub ghosts-summary_line : goal.ghosts-summary_line
ghosts-summary_line g a = record { name = a.blank.name; parts = a.blank.parts }
