use Rattle.std.proofs.Common.{◌≡◌, ◌+◌, ◌++◌, ◌∙◌, sym, ap, map, length, List, ℕ}
use Rattle.tree_json.specs.Value.{JsonValue}
use Rattle.tree_json.specs.View.{view}
use Rattle.mapping_body.specs.Kept.{pair_of}
use Rattle.mapping_growth.specs.Kept.{relation_of}
use Rattle.mapping_body.specs.Pairs.{Pair, pairs_of}
use Rattle.mapping_growth.specs.Relations.{Relation, relations_added, relations_of}
use Rattle.mapping_growth.proofs.Adding.{relations_more}
use Rattle.mapping_growth.proofs.taken.relations_with.Goals as goal

pub returns : goal.returns
returns c =
    let kept : map relation_of c.push_relations.new.whole.items ≡ relations_of c.args.said.now =
    rw (c.new-relations.ensures.items, c.as_slice.ensures.value) at c.in_ok-push_relations.ensures ∙ c.said.invariant.0.relations ∙ ap relations_of c.said.view_is in
    let added : map relation_of c.in_ok-added.added.items ≡ relations_added (length c.args.said.now + 1) (relations_of c.args.said.now) (pairs_of (view c.args.candidate.now.body.now)) =
    rw c.as_slice-2.ensures.value at c.in_ok-added.ensures
    ∙ ap (λ (g : ℕ). relations_added g (relations_of c.args.said.now) (map pair_of c.args.candidate.now.pairs.items)) c.next_generation-generation.ensures
    ∙ ap (λ (ps : List Pair). relations_added (length c.args.said.now + 1) (relations_of c.args.said.now) ps) c.requires.candidate.relations in
    rw c.as_slice-3.ensures.value at c.in_ok-push_relations-2.ensures
    ∙ ap (λ (rs : List Relation). rs ++ map relation_of c.in_ok-added.added.items) kept
    ∙ ap (λ (rs : List Relation). relations_of c.args.said.now ++ rs) added
    ∙ sym (relations_more c.args.said.now (view c.args.candidate.now.body.now))
