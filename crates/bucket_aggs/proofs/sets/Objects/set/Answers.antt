use Rattle.std.proofs.Common.{◌≡◌, ◌<◌, [], List, Option, ℕ, is_some, length, map, get_or, sym, ap, ◌∙◌, arith}
use Rattle.std.proofs.lemmas.List.{length-map}
use Rattle.bucket_aggs.specs.Held.{scores_of}
use Rattle.leaf_search.specs.Lent.{set_of}
use Rattle.query_eval.specs.Lent.{lent_scores}
use Rattle.bucket_aggs.proofs.Lent.{lent_at}
use Rattle.bucket_aggs.proofs.sets.Objects.set.Goals as goal

pub returns-in-Sets : goal.returns-in-Sets
returns-in-Sets c =
    let sets = c.in-Sets.sets.items in
    let own = c.index.result.now in
    let same : map lent_scores sets ≡ c.args.self.now = ap scores_of (sym c.in-Sets.is) ∙ c.self.view_is in
    let low : c.args.at < length sets = omega (arith, c.requires, ap (λ (l : List (List (Option ℕ))). length l) same, length-map sets lent_scores) in
    c.as_ref.ensures
    ∙ ap set_of c.index.ensures
    ∙ lent_at sets c.args.at own low
    ∙ ap (λ (l : List (List (Option ℕ))). map is_some (get_or l c.args.at [])) same
