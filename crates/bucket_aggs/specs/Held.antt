-- The scores of objects, however they are kept.
use Rattle.std.specs.Prelude.{ℕ, List, map, Option}
use Rattle.query_eval.specs.Lent.{lent_scores}
use Rattle.bucket_aggs.specs.declared.sets.Held.{Held}
use Rattle.bucket_aggs.specs.declared.sets.Held.TheVariants.{Found, Made, Sets}
use Rattle.bucket_aggs.specs.declared.sets.Hits.{Hits}
use Rattle.bucket_aggs.specs.declared.sets.Hits.TheVariants as hits

abbrev pub scores_of : Held → List (List (Option ℕ))
scores_of (Found hits) = hits.now
scores_of (Made hits) = hits
scores_of (Sets sets) = map lent_scores sets.items

abbrev pub hits_of : Hits → List (List (Option ℕ))
hits_of (hits.Lent hits) = hits.now
hits_of (hits.Made hits) = hits
