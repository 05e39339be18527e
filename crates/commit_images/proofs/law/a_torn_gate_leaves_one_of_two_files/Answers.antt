use Rattle.commit_images.specs.Going.{torn_closing, torn_opening}
use Rattle.commit_images.proofs.law.a_torn_gate_leaves_one_of_two_files.Goals as goal

pub returns-clause-closing : goal.returns-clause-closing
returns-clause-closing g c = λ limit active before image placed known found torn.
    torn_closing (g.S.Saying.IsGood limit) active before image placed known found torn

pub returns-clause-opening : goal.returns-clause-opening
returns-clause-opening g c = λ limit active new before image placed known found next good ready torn.
    torn_opening (g.S.Saying.IsGood limit) active new before image placed known found next good ready torn
