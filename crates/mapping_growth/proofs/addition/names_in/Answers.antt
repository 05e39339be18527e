use Rattle.std.proofs.Common.{◌≡◌, [], map, drop, append-nil, arith, ap, sym, ◌∙◌}
use Rattle.std.proofs.lemmas.Grind.{common_steps}
use Rattle.mapping_body.specs.Names.{in_byte_order}
use Rattle.mapping_growth.specs.Relations.{names_in_pairs}
use Rattle.mapping_body.specs.Kept.{pair_of}
use Rattle.mapping_body.proofs.Puts.{map-put_all}
use Rattle.mapping_growth.proofs.addition.names_in.Goals as goal

pub returns-clause-names : goal.returns-clause-names
returns-clause-names c =
    let none : drop c.pairs.pair-index c.args.pairs.now ≡ [] = grind (arith, common_steps) in
    let made : map (λ n. n.text.now) c.pairs.names.items ≡ names_in_pairs (map pair_of c.args.pairs.now) = sym (append-nil (map (λ n. n.text.now) c.pairs.names.items)) ∙ rw none at c.pairs.invariant in
    ap (map (λ n. n.text.now)) (rw c.as_slice.ensures.value at c.in_ok-in_byte_order.ensures.items)
    ∙ map-put_all (λ n. n.text.now) (λ name. name) [] c.pairs.names.items
    ∙ ap (in_byte_order (λ name. name)) made
