use Rattle.std.proofs.Common.{◌++◌, ◌∷◌, ℕ, List, Option, sym, ap, ◌∙◌}
use Rattle.view_objects.specs.Hits.{hits_between}
use Rattle.nested_sort.proofs.Ranges.{capped_on, hits_push}
use Rattle.inner_hits.proofs.walk.add_hits.Goals as goal

pub hits-preserved : goal.hits-preserved
hits-preserved c =
    let same = c.hits.invariant.0 in (
      c.in-Some.ensures.scores ∙ same,
      c.in-Some.ensures.later.1,
      hits_push c.hits.hits.items c.push.new.self.items (c.args.hits.now.items ++ hits_between c.args.place c.args.start c.args.end c.args.scores.now) c.in-Some.hit
          (hits_between c.args.place c.hits.left.from c.args.end c.args.scores.now) (hits_between c.args.place c.next_hit.new.left.from c.args.end c.args.scores.now) c.in_ok-push.ensures.items
          (ap (λ (s : List (Option ℕ)). hits_between c.args.place c.hits.left.from c.args.end s) (sym same) ∙ c.in-Some.ensures.hit ∙ ap (λ (s : List (Option ℕ)). c.in-Some.hit ∷ hits_between c.args.place c.next_hit.new.left.from c.args.end s) same)
          c.hits.invariant.2,
      λ all. capped_on c.args.hits.now.items c.hits.hits.items c.push.new.self.items c.in-Some.hit c.hits.invariant.3 c.in-Some.ensures.capped c.in_ok-push.ensures.items all,
    )
