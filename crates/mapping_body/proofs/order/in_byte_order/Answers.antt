use Rattle.std.proofs.Common.{◌≡◌, ◌∙◌, ◌++◌, sym, ap, rules, map, Bool, is_lt}
use Rattle.std.proofs.lemmas.Cmp.{nat_list_cmp_total}
use Rattle.std.proofs.lemmas.Fn.{always_returns_same, dedup_same}
use Rattle.std.proofs.lemmas.List.MinMax.{ranks_by}
use Rattle.std.specs.Cmp.{IsStrictWeakOrder}
use Rattle.std.specs.List.{dedup}
use Rattle.mapping_body.specs.Names.{AreAscending, in_byte_order}
use Rattle.mapping_body.proofs.Sorts.{by_name, once_ascends, same_names, sorted_once}
use Rattle.mapping_body.proofs.order.in_byte_order.Goals as goal

pub returns-clause-items : goal.returns-clause-items
returns-clause-items g c =
    let order : IsStrictWeakOrder (λ x y. is_lt (by_name g.T.Named.name x y)) = ranks_by nat_list_cmp_total g.T.Named.name in
    let compares = always_returns_same _ _ _ (λ a r q k. search rules) in
    let sorted = c.in_ok-sort_by.ensures.sorted (λ x y. is_lt (by_name g.T.Named.name x y)) order compares in
    let stable = c.in_ok-sort_by.ensures.stable (λ x y. is_lt (by_name g.T.Named.name x y)) order compares in
    let once : c.dedup_by.new.self.items ≡ dedup (same_names g.T.Named.name) c.sort_by.new.self.items =
    dedup_same _ (same_names g.T.Named.name) _ (λ x y b f x2 y2 k. search rules) c.sort_by.new.self.items c.dedup_by.new.self.items c.dedup_by.ensures.filtered in
    let whole : c.extend_from_slice.new.self.items ≡ c.args.items.now =
    c.in_ok-extend_from_slice.ensures.items ∙ ap (λ xs. xs ++ c.args.items.now) c.in_ok-sorted.ensures.items in
    once ∙ sorted_once g.T.Named.name c.extend_from_slice.new.self.items c.sort_by.new.self.items sorted stable ∙ ap (in_byte_order g.T.Named.name) whole

pub returns-clause-ascending : goal.returns-clause-ascending
returns-clause-ascending g c =
    let order : IsStrictWeakOrder (λ x y. is_lt (by_name g.T.Named.name x y)) = ranks_by nat_list_cmp_total g.T.Named.name in
    let compares = always_returns_same _ _ _ (λ a r q k. search rules) in
    let sorted = c.in_ok-sort_by.ensures.sorted (λ x y. is_lt (by_name g.T.Named.name x y)) order compares in
    let once : c.dedup_by.new.self.items ≡ dedup (same_names g.T.Named.name) c.sort_by.new.self.items =
    dedup_same _ (same_names g.T.Named.name) _ (λ x y b f x2 y2 k. search rules) c.sort_by.new.self.items c.dedup_by.new.self.items c.dedup_by.ensures.filtered in
    rw once (once_ascends g.T.Named.name c.sort_by.new.self.items sorted)
