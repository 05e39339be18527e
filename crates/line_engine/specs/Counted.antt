-- What is counted of the turns of a made input. It serves private calls and the proofs alone.
use Rattle.std.specs.Prelude.{◌≡◌, ◌≢◌, ℕ, ◌+◌, ◌≤◌, min, List, length, Option, None}
use Rattle.std.specs.List.{AllByRecursion, count_by}
use Rattle.engine.specs.Answers.{answered_by}
use Rattle.engine.specs.Kept.{EngineState}
use Rattle.io_edges.specs.Faults.{greatest_count}
use Rattle.line_reader.specs.Given.{ReadsAll}
use Rattle.line_reader.specs.Seen.{InputState}
use Rattle.machine.specs.State.{State}
use Rattle.machine.specs.declared.limits.Limits.{Limits}
use Rattle.reply_text.specs.declared.reply.Reply.TheVariants.{OutOfMemory}
use Rattle.line_engine.specs.Printing.{is_error}
use Rattle.line_engine.specs.Run.{disk_failures}
use Rattle.line_engine.specs.Served.{Served}
use Rattle.line_engine.specs.Stopping.{DiskState}
use Rattle.line_engine.specs.Turns.{Turn, IsChain, requests_of, text_of}
use Rattle.line_engine.specs.declared.made_run.Totals.{Totals}

abbrev pub no_totals : Totals
no_totals = record { bytes = 0; errors = 0; lines = 0 }

-- these are the sums of the turns, for each of which there was memory
pub record AreTotals (totals : Totals) (turns : List Turn) : Type 0 where
  pub bytes : totals.bytes ≡ length (text_of turns)
  pub errors : totals.errors ≡ count_by (λ (turn : Turn). is_error (answered_by turn.reply)) turns
  pub lines : totals.lines ≡ length turns
  pub answered : AllByRecursion (λ (turn : Turn). turn.reply ≢ OutOfMemory) turns

-- So far the turns were counted.
pub record Counted (limits : Limits) (start : State) (left left' : Option (List ℕ)) (disk disk' : DiskState) (input : InputState) (engine : EngineState) (totals : Totals) : Type 0 where
  pub served : Served limits start left left' None None disk disk' input engine
  pub are : AreTotals totals served.turns

-- All requests of the source were answered and counted.
pub record CountedAll (limits : Limits) (start : State) (left left' : Option (List ℕ)) (faults faults' : ℕ) (totals : Totals) : Type 0 where
  pub turns : List Turn
  pub chain : IsChain limits start turns
  pub reads : ReadsAll limits.session_bytes left left' (requests_of turns)
  pub failures : min (faults + disk_failures turns) greatest_count ≤ faults'
  pub are : AreTotals totals turns
