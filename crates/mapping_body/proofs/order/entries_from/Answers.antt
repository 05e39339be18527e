use Rattle.std.proofs.Common.{◌≡◌, ◌+◌, ◌-◌, ◌<◌, ◌≤◌, ◌∷◌, [], ◌++◌, ◌∙◌, sym, ap, map, length, arith, get_or, List, ℕ}
use Rattle.std.proofs.lemmas.List.{map-append, get_or-map}
use Rattle.std.proofs.lemmas.List.Elements.{All-push}
use Rattle.std.specs.List.{range_with_len}
use Rattle.mapping_body.specs.declared.order.Entry.{Entry}
use Rattle.mapping_body.specs.Order.{name_at}
use Rattle.mapping_body.proofs.Ordered.{range_more}
use Rattle.mapping_body.proofs.order.entries_from.Goals as goal

pub numbers-preserved : goal.numbers-preserved
numbers-preserved g c =
    let inside : c.numbers.number < length c.args.items.now = omega arith in
    let entry : Entry = record { name = c.name.result; number = c.numbers.number } in
    let named : entry.name.now ≡ name_at (map g.T.Named.name c.args.items.now) c.numbers.number =
    c.name.ensures ∙ ap g.T.Named.name c.index-items-number.is ∙ sym (get_or-map g.T.Named.name c.args.items.now c.numbers.number c.index-items-number.result [] inside) in (
      ap (map (λ e. e.number)) c.in_ok-push.ensures.items ∙ map-append (λ e. e.number) c.numbers.entries.items (entry ∷ [])
          ∙ ap (λ (ns : List ℕ). ns ++ c.numbers.number ∷ []) c.numbers.invariant.0 ∙ sym (range_more c.args.first c.numbers.number (omega arith)),
      rw c.in_ok-push.ensures.items (All-push (λ (e : Entry). e.name.now ≡ name_at (map g.T.Named.name c.args.items.now) e.number) c.numbers.entries.items entry c.numbers.invariant.1 named),
    )

pub returns-clause-numbers : goal.returns-clause-numbers
returns-clause-numbers g c =
    let last : c.numbers.number ≡ length c.args.items.now = omega arith in
    c.numbers.invariant.0 ∙ ap (λ (n : ℕ). range_with_len c.args.first (n - c.args.first)) last
