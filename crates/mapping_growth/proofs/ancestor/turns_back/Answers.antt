use Rattle.std.proofs.Common.{◌≡◌, ◌<◌, ◌≤◌, sym, map, length, arith}
use Rattle.std.proofs.lemmas.List.{length-map}
use Rattle.mapping_growth.specs.Kept.{relation_of}
use Rattle.mapping_growth.proofs.Climbs.{all_end}
use Rattle.mapping_growth.proofs.ancestor.turns_back.Goals as goal

pub returns : goal.returns
returns c =
    sym (all_end (map relation_of c.args.relations.now) (λ r h. c.relations.invariant.1 r (omega (arith, h, length-map c.args.relations.now relation_of, c.relations-test.false))))
