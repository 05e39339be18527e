use Rattle.std.proofs.Common.{◌≡◌, Bool, List, length, map, sym, ap, subst, ◌∙◌}
use Rattle.std.specs.List.{All}
use Rattle.query_eval.specs.Found.{AreLong}
use Rattle.query_eval.specs.Keyed.{IsInKeyOrder, IsWithin, Led, none_in}
use Rattle.query_eval.specs.Sides.{told_by}
use Rattle.query_eval.specs.declared.keyed.KeyedRoot.{KeyedRoot}
use Rattle.query_eval.proofs.Leading.{keyed_within, led_given, led_long}
use Rattle.query_eval.proofs.keyed.led.Goals as goal

pub lead_all-requires-clause-sorted : goal.lead_all-requires-clause-sorted
lead_all-requires-clause-sorted c = subst IsInKeyOrder (sym c.as_slice.ensures) c.requires.keyed.sorted

pub lead_all-requires-clause-within : goal.lead_all-requires-clause-within
lead_all-requires-clause-within c =
    subst (λ (sets : List (List Bool)). All (IsWithin (map length sets)) c.as_slice.result.now) (sym c.in_ok-sets.ensures)
    (subst (λ (roots : List KeyedRoot). All (IsWithin (map length (map none_in c.args.entries.now))) roots) (sym c.as_slice.ensures)
    (keyed_within c.args.mapping.now c.args.joins.now c.args._to c.args.entries.now c.args.roots.now c.requires.keyed))

pub returns-clause-long : goal.returns-clause-long
returns-clause-long c =
    let sets = c.lead_all.new.sets.items in
    let long : map length sets ≡ map length (map none_in c.args.entries.now) = c.in_ok-lead_all.ensures.long ∙ ap (map length) c.in_ok-sets.ensures in
    subst (AreLong c.args.entries.now) (sym (c.of.ensures ∙ c.in_ok-alike.ensures)) (led_long c.args.entries.now sets long)

pub returns-clause-given : goal.returns-clause-given
returns-clause-given c =
    let sets = c.lead_all.new.sets.items in
    let view = c.args.entries.now in
    let pairs = told_by c.args.mapping.now c.args.joins.now c.args.from 0 view c.args.hits.now in
    let long : map length sets ≡ map length (map none_in view) = c.in_ok-lead_all.ensures.long ∙ ap (map length) c.in_ok-sets.ensures in
    let led : Led c.args.roots.now (map none_in view) pairs sets =
    subst (λ (roots : List KeyedRoot). Led roots (map none_in view) pairs sets) c.as_slice.ensures
    (subst (λ (first : List (List Bool)). Led c.as_slice.result.now first pairs sets) c.in_ok-sets.ensures c.in_ok-lead_all.ensures.led) in
    c.of.ensures ∙ c.in_ok-alike.ensures ∙ led_given c.args.mapping.now c.args.joins.now c.args._to view c.args.roots.now c.requires.keyed pairs sets long led
