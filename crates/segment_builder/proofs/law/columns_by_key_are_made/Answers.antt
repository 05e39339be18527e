use Rattle.segment_builder.proofs.Gathered.{made_by_key}
use Rattle.segment_builder.proofs.law.columns_by_key_are_made.Goals as goal

pub returns : goal.returns
returns c = λ it columns are. made_by_key it columns are
