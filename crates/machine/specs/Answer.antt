-- What a command answers: a refusal, or a reply with the state afterwards, and what this needs of the disk.
use Rattle.std.specs.Prelude.{Bool, List, [], ◌∷◌, Option, Some, None, if◌then◌else◌}
use Rattle.machine.specs.State.{State, sealed_state}
use Rattle.mapping.specs.Mapping.{Mapping}
use Rattle.reply_text.specs.declared.refusal.Refusal.{Refusal}
use Rattle.reply_text.specs.declared.refusal.Refusal.TheVariants.{NoMapping}
use Rattle.reply_text.specs.declared.reply.Reply.{Reply}
use Rattle.reply_text.specs.declared.reply.Reply.TheVariants.{Refused}

-- what has to succeed on the disk before an answer is given: nothing; that the slot of the store file which is not in use is
-- closed; that a commit is written as well
pub data Need : Type 0 where
  nothing : Need
  closing : Need
  writing : Need

pub data Answer : Type 0 where
  refuses : Refusal → Answer
  answers : Reply → State → Answer
  stores : Need → Reply → State → Answer

-- what a request is answered, what this needs, and the state afterwards
pub record Outcome : Type 0 where
  pub need : Need
  pub reply : Reply
  pub state : State

-- a refusal leaves the state as it was
abbrev pub outcome_of : State → Answer → Outcome
outcome_of before (refuses why) = record { need = nothing; reply = Refused why; state = before }
outcome_of before (answers reply after) = record { need = nothing; reply = reply; state = after }
outcome_of before (stores need reply after) = record { need = need; reply = reply; state = after }

-- this refusal, where that is so
abbrev pub when : Bool → Refusal → Option Refusal
when is why = if is then Some why else None

-- the first of a list that there is
abbrev pub first_of : List (Option Refusal) → Option Refusal
first_of [] = None
first_of (None ∷ later) = first_of later
first_of (Some why ∷ later) = Some why

abbrev pub refused_if : Option Refusal → Answer → Answer
refused_if None answer = answer
refused_if (Some why) answer = refuses why

-- the first refusal of the list, or else the answer
abbrev pub unless : List (Option Refusal) → Answer → Answer
unless refusals answer = refused_if (first_of refusals) answer

-- a command that is no write finds the buffer sealed; where it is refused, nothing was sealed
abbrev pub sealing : (State → Answer) → State → Answer
sealing command state = command (sealed_state state)

abbrev pub with_mapping : Option Mapping → (Mapping → Answer) → Answer
with_mapping None command = refuses NoMapping
with_mapping (Some m) command = command m

-- a command that wants a mapping
abbrev pub mapped : (Mapping → State → Answer) → State → Answer
mapped command state = with_mapping state.content.mapping (λ m. command m state)
