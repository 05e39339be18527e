-- A reply that is held to a limit, and one for which there is room.
use Rattle.std.proofs.Common.{◌≡◌, ◌<◌, ◌≤◌, ◌+◌, ℕ, true, false, nat_lt, List, length, Result, Ok, Err, IfOk, OnOk, refl, sym, ap, ◌∙◌, arith}
use Rattle.std.proofs.lemmas.Bool.Decides.{nat_tests}
use Rattle.std.proofs.lemmas.List.{length-append}
use Rattle.reply_text.specs.Printed.{newline}
use Rattle.reply_text.specs.Text.{line_of, reply_text}
use Rattle.reply_text.specs.declared.refusal.Refusal.TheVariants.{ReplyTooLarge}
use Rattle.reply_text.specs.declared.reply.Reply.{Reply}
use Rattle.reply_text.specs.declared.reply.Reply.TheVariants.{Refused}
use Rattle.machine.specs.Searching.{within}
use Rattle.machine.specs.declared.limits.Limits.{Limits}
use Rattle.engine.specs.Answers.{answered_by}
use Rattle.engine.specs.Parts.{IsRefusal, answered_of}
use Rattle.engine.specs.declared.no_memory.NoMemory as memory
use Rattle.engine.specs.declared.reply.Ended.{Ended}
use Rattle.engine.specs.declared.reply.Ended.TheVariants.{Accepted}
use Rattle.engine.specs.declared.reply.Ended.TheVariants as ended

-- ---- a line that isn't too long, and one that is

pub within_fits : (limits : Limits) (reply : Reply) → ¬ (limits.reply_bytes < length (line_of reply)) → within limits reply ≡ reply
within_fits limits reply fits = let test : nat_lt limits.reply_bytes (length (line_of reply)) ≡ false = grind (arith, nat_tests) in rw test refl

pub within_not : (limits : Limits) (reply : Reply) → limits.reply_bytes < length (line_of reply) → within limits reply ≡ Refused ReplyTooLarge
within_not limits reply long = let test : nat_lt limits.reply_bytes (length (line_of reply)) ≡ true = grind (arith, nat_tests) in rw test refl

-- ---- a refusal that was written where a line would be too long

pub refused_text : (limits : Limits) (given : Reply) (result : Result Ended memory.NoMemory) (out : List ℕ) → limits.reply_bytes < length (line_of given) → IsRefusal ReplyTooLarge result out → OnOk result (out ≡ reply_text (within limits given))
refused_text limits given (Ok Accepted) out long said = absurd said
refused_text limits given (Ok ended.Refused) out long said = said ∙ ap reply_text (sym (within_not limits given long))
refused_text limits given (Err none) out long said = tt

pub refused_told : (limits : Limits) (given : Reply) (result : Result Ended memory.NoMemory) (out : List ℕ) → limits.reply_bytes < length (line_of given) → IsRefusal ReplyTooLarge result out
    → IfOk result (λ ends. answered_of (Ok ends) ≡ answered_by (within limits given))
refused_told limits given (Ok Accepted) out long said = absurd said
refused_told limits given (Ok ended.Refused) out long said = ap answered_by (sym (within_not limits given long))
refused_told limits given (Err none) out long said = tt

-- ---- a line for which there is room

pub short_fits : (reply : Reply) (most spare : ℕ) → length (line_of reply) ≤ most → most + 1 ≤ spare → length (reply_text reply) ≤ spare
short_fits reply most spare short room = let both = length-append (line_of reply) newline in omega (arith, both, short, room)
