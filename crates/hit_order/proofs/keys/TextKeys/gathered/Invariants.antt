use Rattle.std.proofs.Common.{◌≡◌, ◌++◌, map, drop, get_or, None}
use Rattle.hit_order.proofs.keys.TextKeys.gathered.Given as goal

abbrev pub invariant-rows : goal.invariant-rows
invariant-rows l = l.made ++ map (λ row. get_or l.self row None) (drop l.row-index l.rows) ≡ map (λ row. get_or l.self row None) l.rows
