use Rattle.segment_builder.proofs.Standing.{made_agree}
use Rattle.segment_builder.proofs.law.made_columns_agree.Goals as goal

pub returns : goal.returns
returns c = λ m blocks columns given made roots few. made_agree c.keys_are_ordered.ensures m blocks columns given made few roots
