use Rattle.std.proofs.Common.{◌≡◌, ◌∙◌, ◌++◌, ◌∷◌, [], ◌||◌, sym, ap, false, map, refl}
use Rattle.std.proofs.lemmas.List.Folds.{list_any-append}
use Rattle.std.specs.List.{list_any}
use Rattle.tree_json.specs.View.{view}
use Rattle.mapping_growth.specs.Bodies.{has_bad_joins}
use Rattle.mapping_body.specs.Pairs.{has_two_parents, pairs_of}
use Rattle.mapping_growth.specs.Relations.{relations_of, turns_back}
use Rattle.mapping_growth.proofs.Fitting.{fit}
use Rattle.mapping_growth.proofs.limit.has_bad_relations.Goals as goal

pub returns : goal.returns
returns c =
    let joins : has_bad_joins (c.args.said.now ++ view c.args.candidate.now.body.now ∷ []) ≡ false = sym c.has_bad_joins.ensures ∙ c.if-has_bad_joins.false in
    let one : has_two_parents (pairs_of (view c.args.candidate.now.body.now)) ≡ false =
    ap has_two_parents (sym c.requires.candidate.relations) ∙ sym (rw c.as_slice.ensures.value at c.in_ok-has_two_parents.ensures) ∙ c.if-branch.false in
    let parents : list_any (λ body. has_two_parents (pairs_of body)) (c.args.said.now ++ view c.args.candidate.now.body.now ∷ []) ≡ false =
    list_any-append (λ body. has_two_parents (pairs_of body)) c.args.said.now (view c.args.candidate.now.body.now ∷ []) ∙ rw ((fit c.args.said.now c.requires.within).one_parent, one) refl in
    rw (joins, parents) (c.in_ok-turns_back.ensures ∙ ap turns_back c.requires.relations)
