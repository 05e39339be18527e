use Rattle.std.proofs.Common.{◌≡◌, ◌∙◌, sym, rules, map, get_or, Equal}
use Rattle.std.proofs.lemmas.Fn.{always_returns_same}
use Rattle.mapping_body.specs.Order.{name_at}
use Rattle.mapping_body.proofs.Ordered.{place_is, place_none}
use Rattle.mapping_body.proofs.Ranks.{absent, compared, is_eq_from, rises}
use Rattle.mapping_body.proofs.names.number_among.Goals as goal

pub returns-in-Ok-clause-place : goal.returns-in-Ok-clause-place
returns-in-Ok-clause-place g c =
    let at = c.in-Ok.ensures.position (λ n. compared (name_at (map g.T.Named.name c.args.items.now) n) (g.S.Sought.sought c.args.sought.now)) (always_returns_same _ _ _ (λ a r q k. search rules)) in
    sym (place_is (g.S.Sought.sought c.args.sought.now) (map g.T.Named.name c.args.items.now) (get_or c.args.order.now c.in-Ok.place 0) c.requires.distinct
    (c.requires.in_range c.in-Ok.place 0 c.in-Ok.ensures.bound)
    (is_eq_from (name_at (map g.T.Named.name c.args.items.now) (get_or c.args.order.now c.in-Ok.place 0)) (g.S.Sought.sought c.args.sought.now) Equal (at 0)))

pub returns-in-Err-clause-place : goal.returns-in-Err-clause-place
returns-in-Err-clause-place g c =
    let at = c.in-Err.ensures.position (λ n. compared (name_at (map g.T.Named.name c.args.items.now) n) (g.S.Sought.sought c.args.sought.now)) (always_returns_same _ _ _ (λ a r q k. search rules)) in
    sym (place_none (g.S.Sought.sought c.args.sought.now) (map g.T.Named.name c.args.items.now) c.args.order.now c.requires
    (absent (name_at (map g.T.Named.name c.args.items.now)) (g.S.Sought.sought c.args.sought.now) c.args.order.now c.in-Err.field-0
    (at (rises (name_at (map g.T.Named.name c.args.items.now)) (g.S.Sought.sought c.args.sought.now) c.args.order.now c.requires.ascending))))
