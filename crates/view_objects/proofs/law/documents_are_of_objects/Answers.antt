use Rattle.std.proofs.Common.{◌≡◌, ℕ, ◌==◌, ◌||◌, true, [], ◌∷◌, map, ap, ◌∙◌}
use Rattle.mapping.specs.Mapping.{is_above, outer}
use Rattle.view_objects.proofs.Children.{alive, is_child, one, same_number}
use Rattle.view_objects.proofs.Inside.{below_found}
use Rattle.view_objects.proofs.Trees.{in_tree, objects_count, scopes_are}
use Rattle.view_objects.proofs.law.documents_are_of_objects.Goals as goal

pub returns-clause-scopes : goal.returns-clause-scopes
returns-clause-scopes c = λ m columns bits trees stands. scopes_are m columns bits trees stands

pub returns-clause-objects : goal.returns-clause-objects
returns-clause-objects c = λ m columns bits trees stands. objects_count m columns bits trees stands

pub returns-clause-trees : goal.returns-clause-trees
returns-clause-trees c = λ m trees doc is low. in_tree m (λ tree. c.objects_nest.ensures.at_root m tree is) trees doc low

pub returns-clause-children : goal.returns-clause-children
returns-clause-children c = λ m trees doc n is some within low here.
    let a = outer m n in
    let same : (a == a) ≡ true = same_number a in
    let above : is_above m a n ≡ true = c.scopes_form_chains.ensures.step m a n is some within ∙ ap (λ b. b || is_above m a a) same in
    let less = (c.scopes_form_chains.ensures.smaller m a n is above).0 in
    is_child m trees doc n some less low here
    (c.joins_are_of_trees.ensures.down m a n one (map alive trees) is above)
    (λ parent score hit. below_found m a n one one (map alive trees ∷ []) 0 parent score hit (c.joins_are_of_trees.ensures.inside m a n one (map alive trees) is above))
