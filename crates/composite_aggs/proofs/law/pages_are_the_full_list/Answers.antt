use Rattle.composite_aggs.proofs.Walks.{whole, ends, once}
use Rattle.composite_aggs.proofs.law.pages_are_the_full_list.Goals as goal

pub returns : goal.returns
returns c s = record { whole = λ keys. whole keys; ends = λ keys. ends keys; once = λ keys. once keys }
