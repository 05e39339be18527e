-- Turns of the machine, and runs of it.
use Rattle.std.specs.Prelude.{◌≡◌, ℕ, List, [], ◌∷◌, ◌++◌, map, ⊤}
use Rattle.line_reader.specs.Request.{Request}
use Rattle.reply_text.specs.Text.{reply_text}
use Rattle.reply_text.specs.declared.reply.Reply.{Reply}
use Rattle.machine.specs.May.{MayStep}
use Rattle.machine.specs.State.{State}
use Rattle.machine.specs.declared.limits.Limits.{Limits}

-- a request, its reply and the state afterwards
pub record Turn : Type 0 where
  pub request : Request
  pub reply : Reply
  pub after : State

abbrev pub requests_of : List Turn → List Request
requests_of turns = map (λ (turn : Turn). turn.request) turns

-- the texts of the replies, one after the other
abbrev pub text_of : List Turn → List ℕ
text_of [] = []
text_of (turn ∷ turns) = reply_text turn.reply ++ text_of turns

abbrev pub last_state : State → List Turn → State
last_state start [] = start
last_state start (turn ∷ turns) = last_state turn.after turns

-- each turn may follow the one before
abbrev pub IsChain : Limits → State → List Turn → Type 0
IsChain limits before [] = ⊤
IsChain limits before (turn ∷ turns) = MayStep limits before turn.request turn.reply turn.after × IsChain limits turn.after turns

-- A run of the machine over these requests.
pub record MayRun (limits : Limits) (start : State) (requests : List Request) (turns : List Turn) : Type 0 where
  pub chain : IsChain limits start turns
  pub asked : requests_of turns ≡ requests
