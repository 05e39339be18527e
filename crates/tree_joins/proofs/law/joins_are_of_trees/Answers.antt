use Rattle.mapping.specs.Mapping.{Mapping}
use Rattle.mapping.specs.IsMapping.{IsMapping}
use Rattle.tree_joins.proofs.Blocks.{Laws}
use Rattle.std.proofs.Common.{refl}
use Rattle.tree_joins.specs.Seen.{scored, some_of}
use Rattle.tree_joins.proofs.Trees.{up_trees, down_trees}
use Rattle.tree_joins.proofs.law.joins_are_of_trees.Goals as goal

pub returns-clause-up : goal.returns-clause-up
returns-clause-up c = λ m to from score mode trees is above none.
    let laws : Laws m = record {
      mapping = is;
      step = λ a n some low. c.scopes_form_chains.ensures.step m a n is some low;
      smaller = λ a b h. c.scopes_form_chains.ensures.smaller m a b is h;
      within = λ levels n o h enough. c.objects_nest.ensures.within m levels n o is h enough;
    } in
    up_trees m laws to from above score mode none trees

pub returns-clause-down : goal.returns-clause-down
returns-clause-down c = λ m from to score trees is above.
    let laws : Laws m = record {
      mapping = is;
      step = λ a n some low. c.scopes_form_chains.ensures.step m a n is some low;
      smaller = λ a b h. c.scopes_form_chains.ensures.smaller m a b is h;
      within = λ levels n o h enough. c.objects_nest.ensures.within m levels n o is h enough;
    } in
    down_trees m laws from to above score trees

pub returns-clause-inside : goal.returns-clause-inside
returns-clause-inside c = λ m to from given trees is above.
    let laws : Laws m = record {
      mapping = is;
      step = λ a n some low. c.scopes_form_chains.ensures.step m a n is some low;
      smaller = λ a b h. c.scopes_form_chains.ensures.smaller m a b is h;
      within = λ levels n o h enough. c.objects_nest.ensures.within m levels n o is h enough;
    } in
    up_trees m laws to from above (scored given) some_of refl trees
