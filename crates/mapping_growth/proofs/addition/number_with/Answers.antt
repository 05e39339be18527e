use Rattle.std.proofs.Common.{◌≡◌, ◌+◌, ◌∙◌, sym, ap, map, length, arith, Some, option_map, List}
use Rattle.std.proofs.lemmas.List.{length-map}
use Rattle.tree_json.specs.Value.{JsonValue}
use Rattle.mapping_growth.specs.Kept.{relation_of}
use Rattle.mapping_growth.specs.Relations.{relation_names, relations_of}
use Rattle.mapping_body.proofs.Ordered.{place_before, place_behind}
use Rattle.mapping_growth.proofs.addition.number_with.Goals as goal

pub returns-in-Some : goal.returns-in-Some
returns-in-Some c = sym (place_before c.args.name.now (relation_names (relations_of c.args.said.now)) (map (λ n. n.text.now) c.args.names.now) 0 c.in-Some.number (sym c.in-Some.ensures.number))

pub returns-in-Some-place_of : goal.returns-in-Some-place_of
returns-in-Some-place_of c =
    let many : c.len.result ≡ length (relation_names (relations_of c.args.said.now)) =
    omega (
      arith,
      c.len.ensures,
      length-map c.said.inside.relations.items relation_of,
      ap length c.said.invariant.0.relations,
      ap (λ (bs : List JsonValue). length (relations_of bs)) c.said.view_is,
      length-map (relations_of c.args.said.now) (λ r. r.name),
    ) in
    ap (λ n. Some (n + c.in-Some-place_of.place)) many
    ∙ ap (option_map (λ k. length (relation_names (relations_of c.args.said.now)) + k)) c.in-Some-place_of.ensures.place
    ∙ sym (place_behind c.args.name.now (relation_names (relations_of c.args.said.now)) (map (λ n. n.text.now) c.args.names.now) (sym c.in-None.ensures.number))

pub returns-in-None-place_of : goal.returns-in-None-place_of
returns-in-None-place_of c =
    ap (option_map (λ k. length (relation_names (relations_of c.args.said.now)) + k)) c.in-None-place_of.ensures.place
    ∙ sym (place_behind c.args.name.now (relation_names (relations_of c.args.said.now)) (map (λ n. n.text.now) c.args.names.now) (sym c.in-None.ensures.number))
