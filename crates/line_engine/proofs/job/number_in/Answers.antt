use Rattle.std.proofs.Common.{◌≡◌, Ok, sym, ap, ◌∙◌, arith}
use Rattle.std.proofs.lemmas.Bool.{false≢true}
use Rattle.std.proofs.lemmas.Fmt.{parse-decimal}
use Rattle.std.specs.Prelude.{decimal}
use Rattle.line_engine.proofs.Numbers.{one_value}
use Rattle.line_engine.proofs.job.number_in.Goals.{else-number-most-via-then-number-most+else-is_printed, else-number-most-via-else-number-most}
use Rattle.line_engine.proofs.job.number_in.Goals as goal

pub returns-in_default-clause-none : goal.returns-in_default-clause-none
returns-in_default-clause-none c = λ none number few is.
    c.in_default.not-Ok number (parse-decimal 64 number c.as_str.result.now c.parse.result (omega (arith, few, c.ranges.most.fits)) (omega (arith, few, c.ranges.most.fits)) (c.as_str.ensures ∙ is) c.parse.ensures.value.0)

pub returns-else-number-most-clause-none : goal.returns-else-number-most-clause-none
returns-else-number-most-clause-none c = λ none number few is.
    let parsed : c.parse.result ≡ Ok number =
    parse-decimal 64 number c.as_str.result.now c.parse.result (omega (arith, few, c.ranges.most.fits)) (omega (arith, few, c.ranges.most.fits)) (c.as_str.ensures ∙ is) c.parse.ensures.value.0 in
    let same = one_value c.parse.result number c.in-Ok.number parsed c.in-Ok.is in
    elim c.else-number-most.branch [
      | else-number-most-via-then-number-most+else-is_printed w ↦ absurd (false≢true (sym w.if-is_printed.false ∙ w.is_printed.ensures.1 (is ∙ ap decimal same)))
      | else-number-most-via-else-number-most w ↦ absurd (omega (arith, few, same, w.if-number-most.false))
    ]
