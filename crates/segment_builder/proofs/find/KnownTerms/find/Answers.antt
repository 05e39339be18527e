use Rattle.std.proofs.Common.{sym}
use Rattle.segment_builder.specs.Columns.{terms_lent}
use Rattle.segment_builder.proofs.Finding.{ordinal_at}
use Rattle.segment_builder.proofs.find.KnownTerms.find.Goals as goal

pub returns-then-stands_at : goal.returns-then-stands_at
returns-then-stands_at c = sym (ordinal_at (terms_lent c.args.terms.now) _ (c.args.field, c.args.bytes.now) c.requires.ascending (c.stands_at.ensures c.if-stands_at.true))
