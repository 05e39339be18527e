use Rattle.std.proofs.Common.{◌≡◌, ◌≤◌, ◌+◌, ◌-◌}
use Rattle.view_objects.specs.Hits.{count_between}
use Rattle.query_eval.specs.Folds.{scopes_in}
use Rattle.inner_hits.proofs.walk.count_between.Given as goal

abbrev pub invariant-inside : goal.invariant-inside
invariant-inside l =
    (l.count ≤ l.from)
    × (l.count + count_between l.scope l.from l.end (scopes_in l.segment) ≡ count_between l.scope l.start l.end (scopes_in l.segment))

abbrev pub decreases-inside : goal.decreases-inside
decreases-inside l = l.end - l.from
