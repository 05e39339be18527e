use Rattle.mapping.specs.Mapping.{Mapping}
use Rattle.tree_joins.proofs.Blocks.{Laws}
use Rattle.tree_joins.proofs.Parted.{around_is, parted, tree_is}
use Rattle.tree_joins.proofs.law.objects_are_parted.Goals as goal

pub returns-clause-parted : goal.returns-clause-parted
returns-clause-parted c = λ m n p tree is above.
    let laws : Laws m = record {
      mapping = is;
      step = λ a n some low. c.scopes_form_chains.ensures.step m a n is some low;
      smaller = λ a b h. c.scopes_form_chains.ensures.smaller m a b is h;
      within = λ levels n o h enough. c.objects_nest.ensures.within m levels n o is h enough;
    } in
    parted m laws n p above tree

pub returns-clause-around : goal.returns-clause-around
returns-clause-around c = λ m o p is above.
    let laws : Laws m = record {
      mapping = is;
      step = λ a n some low. c.scopes_form_chains.ensures.step m a n is some low;
      smaller = λ a b h. c.scopes_form_chains.ensures.smaller m a b is h;
      within = λ levels n o h enough. c.objects_nest.ensures.within m levels n o is h enough;
    } in
    around_is m laws o p above

pub returns-clause-tree : goal.returns-clause-tree
returns-clause-tree c = λ m tree is.
    let laws : Laws m = record {
      mapping = is;
      step = λ a n some low. c.scopes_form_chains.ensures.step m a n is some low;
      smaller = λ a b h. c.scopes_form_chains.ensures.smaller m a b is h;
      within = λ levels n o h enough. c.objects_nest.ensures.within m levels n o is h enough;
    } in
    tree_is m laws tree
