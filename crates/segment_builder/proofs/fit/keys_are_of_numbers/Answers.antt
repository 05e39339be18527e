use Rattle.std.proofs.Common.{subst, arith}
use Rattle.std.specs.List.{All}
use Rattle.std.proofs.lemmas.List.{take_all}
use Rattle.std.proofs.lemmas.List.Elements.{All-more}
use Rattle.segment_builder.specs.Terms.{IsKey}
use Rattle.segment_builder.proofs.fit.keys_are_of_numbers.Goals as goal

pub entries-preserved : goal.entries-preserved
entries-preserved c = All-more (λ entry. IsKey entry.0) c.args.entries.now c.entries.entry-index _ c.entries-test.true c.entries.invariant c.key_is_of_number.ensures

pub returns : goal.returns
returns c = subst (All (λ entry. IsKey entry.0)) (take_all c.entries.entry-index c.args.entries.now (omega arith)) c.entries.invariant
