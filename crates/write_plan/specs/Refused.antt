-- Why a body is not taken, as a reply says it. It serves contracts of private calls alone.
use Rattle.std.specs.Prelude.{Option, Some, None}
use Rattle.mapping_body.specs.declared.refusal.MappingRefusal.{MappingRefusal}
use Rattle.mapping_body.specs.declared.refusal.MappingRefusal.TheVariants.{BadRequest, Conflict, TooMuch, NoMemory}
use Rattle.reply_text.specs.declared.refusal.Refusal.{Refusal}
use Rattle.reply_text.specs.declared.refusal.Refusal.TheVariants as why
use Rattle.machine.specs.MappingLine.{limit_named}

abbrev pub body_refused : MappingRefusal → Option Refusal
body_refused BadRequest = Some why.BadRequest
body_refused (Conflict path) = Some (why.MappingConflict path)
body_refused (TooMuch limit) = Some (why.MappingLimit (limit_named limit))
body_refused NoMemory = None
