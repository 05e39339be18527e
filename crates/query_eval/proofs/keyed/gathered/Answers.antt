use Rattle.std.proofs.Common.{◌<◌, ◌≡◌, length, subst, arith}
use Rattle.query_eval.specs.Keyed.{AreKeyedTo}
use Rattle.query_eval.proofs.Leading.{keyed_next, keyed_none}
use Rattle.query_eval.proofs.Telling.{at_place, tell_relations}
use Rattle.query_eval.proofs.keyed.gathered.Goals as goal

pub entries-init : goal.entries-init
entries-init c = keyed_none c.args.mapping.now c.args.joins.now c.args.side c.args.entries.now c.new-roots.result.items c.new-roots.ensures.items

pub add_roots-requires : goal.add_roots-requires
add_roots-requires c =
    tell_relations c.args.mapping.now c.args.joins.now c.args.side c.args.entries.now c.entries.place c.index-entries-place.result c.segment-segment.result.now (omega (arith, c.entries-test.true)) c.index-entries-place.is c.segment-segment.ensures c.requires

pub entries-preserved : goal.entries-preserved
entries-preserved c =
    let below : c.entries.place < length c.args.entries.now = omega (arith, c.entries-test.true) in
    keyed_next c.args.mapping.now c.args.joins.now c.args.side c.args.entries.now c.entries.place c.index-entries-place.result c.segment-segment.result.now c.entries.roots.items c.add_roots.new.roots.items
    (at_place c.args.entries.now c.entries.place c.index-entries-place.result below c.index-entries-place.is) c.segment-segment.ensures c.entries.invariant c.in_ok-add_roots.ensures

pub returns : goal.returns
returns c =
    let end : c.entries.place ≡ length c.args.entries.now = omega (arith, c.entries.auto.place-end, c.entries-test.false) in
    subst (λ n. AreKeyedTo c.args.mapping.now c.args.joins.now c.args.side c.args.entries.now n c.entries.roots.items) end c.entries.invariant
