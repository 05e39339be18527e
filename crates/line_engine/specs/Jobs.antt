-- The job that words ask for. It serves private calls and the proofs alone.
use Rattle.std.specs.Prelude.{◌≡◌, ℕ, true, List}
use Rattle.line_engine.specs.Word.{IsMake, IsRunMade, is_check, is_serve}
use Rattle.line_engine.specs.declared.job.Job.{Job}
use Rattle.line_engine.specs.declared.job.Job.TheVariants.{Serve, Check, Make, RunMade}

abbrev pub IsJob : Job → List (List ℕ) → Type 0
IsJob Serve words = is_serve words ≡ true
IsJob Check words = is_check words ≡ true
IsJob (Make number count) words = IsMake number count words
IsJob (RunMade number count) words = IsRunMade number count words
