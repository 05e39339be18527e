use Rattle.std.proofs.lemmas.List.{length-map}
use Rattle.std.specs.List.{range_with_len}
use Rattle.std.proofs.Common.{◌≡◌, ◌-◌, ◌∙◌, sym, ap, map, List, ℕ}
use Rattle.mapping_body.specs.Names.{in_byte_order}
use Rattle.mapping_body.specs.Order.{name_at}
use Rattle.mapping_body.proofs.Ordered.{in_order_as}
use Rattle.mapping_body.proofs.order.order_from.Goals as goal

pub returns : goal.returns
returns g c =
    rw (c.as_slice-2.ensures.value, c.in_ok-sorted.ensures.items, c.as_slice.ensures.value) at c.in_ok-numbers_of.ensures
    ∙ in_order_as (λ e. e.number) (λ e. e.name.now) (name_at (map g.T.Named.name c.args.items.now)) c.in_ok-entries.entries.items c.in_ok-entries.ensures.names
    ∙ ap (in_byte_order (name_at (map g.T.Named.name c.args.items.now))) c.in_ok-entries.ensures.numbers
    ∙ ap (λ (n : ℕ). in_byte_order (name_at (map g.T.Named.name c.args.items.now)) (range_with_len c.args.first (n - c.args.first))) (sym (length-map c.args.items.now g.T.Named.name))
