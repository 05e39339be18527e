use Rattle.std.proofs.Common.{◌++◌, ◌∷◌, ℕ, List, Option, sym, ap, ◌∙◌}
use Rattle.view_objects.specs.Hits.{hits_between}
use Rattle.nested_sort.proofs.Ranges.{capped_on, hits_push}
use Rattle.nested_sort.proofs.hits.add_hits.Goals as goal

pub found-preserved : goal.found-preserved
found-preserved c = (
  hits_push c.found.hits.items c.push.new.self.items (c.args.hits.now.items ++ hits_between c.args.place 0 c.len-end.result c.args.found.now) c.in-Some.hit
      (hits_between c.args.place c.found.left.from c.len-end.result c.found.left.scores) (hits_between c.args.place c.next_hit.new.left.from c.len-end.result c.next_hit.new.left.scores) c.in_ok-push.ensures.items
      (c.in-Some.ensures.hit ∙ ap (λ (s : List (Option ℕ)). c.in-Some.hit ∷ hits_between c.args.place c.next_hit.new.left.from c.len-end.result s) (sym c.in-Some.ensures.scores))
      c.found.invariant.0,
  c.in-Some.ensures.scores ∙ c.found.invariant.1,
  c.found.invariant.2,
  c.in-Some.ensures.later.1,
  λ all. capped_on c.args.hits.now.items c.found.hits.items c.push.new.self.items c.in-Some.hit c.found.invariant.4 c.in-Some.ensures.capped c.in_ok-push.ensures.items all,
)
