use Rattle.std.proofs.Common.{◌≡◌, pos, replicate, Some}
use Rattle.search_page.proofs.first.score_keys.Given as goal

abbrev pub invariant-rows : goal.invariant-rows
invariant-rows l = l.keys ≡ replicate l.counter (Some (pos l.score))
