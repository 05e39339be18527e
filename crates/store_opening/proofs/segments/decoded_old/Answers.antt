use Rattle.std.proofs.Common.{ℕ, List, Err, sym, ◌∙◌, ap, subst}
use Rattle.segment.specs.Old.{IsOldEncoding}
use Rattle.segment_codec.specs.declared.CodecRefusal.{CodecRefusal}
use Rattle.store_opening.proofs.segments.decoded_old.Goals as goal

pub returns-in-Err-NotASegment-clause-damaged : goal.returns-in-Err-NotASegment-clause-damaged
returns-in-Err-NotASegment-clause-damaged c = λ refused columns encoding.
    c.decode_old.ensures.none (c.in-Err-NotASegment.is ∙ ap (λ (x : CodecRefusal). Err x) c.in-Err-NotASegment.field-0-is) columns
    (subst (λ (xs : List ℕ). IsOldEncoding columns xs) (sym c.of.ensures) encoding)
