use Rattle.std.proofs.Common.{ℕ, List, arith}
use Rattle.std.proofs.lemmas.List.{length-map}
use Rattle.segment_builder.proofs.find.field_range.Goals as goal

pub returns : goal.returns
returns c = record {
  start = c.field_start-from.ensures.start;
  stop = c.field_start-end.ensures.start;
  within = omega (arith, c.field_start-end.ensures.within, length-map {B = ℕ × List ℕ} c.args.terms.now (λ term. (term.0, term.1.now)));
}
