use Rattle.std.proofs.Common.{◌<◌, ◌≤◌, ℕ, subst}
use Rattle.leaf_search.specs.Roots.{root_passes}
use Rattle.leaf_search.proofs.Rooted.{roots_none, roots_more, roots_all, root_place}
use Rattle.leaf_search.proofs.roots.root_marks.Goals as goal

pub roots-init : goal.roots-init
roots-init c = roots_none c.args.segment.now (root_passes c.args.test.now) c.docs.result c.in_ok-set.set c.docs.ensures.documents c.in_ok-set.ensures

pub roots-preserved : goal.roots-preserved
roots-preserved c =
    roots_more c.args.segment.now (root_passes c.args.test.now) c.roots.root c.root_doc-doc.result c.roots.set c.set_if.new.set c.passes-on.result
    (root_place c.args.segment.now c.roots.root c.root_doc-doc.result c.docs.ensures.agree c.scopes_are_of_documents.ensures.sets c.root_doc-doc.ensures.document)
    (subst (λ (n : ℕ). c.roots.root < n) c.roots-root-end.ensures.roots c.roots-test.true) c.passes-on.ensures c.set_if.ensures c.roots.invariant.1

pub returns : goal.returns
returns c = roots_all c.args.segment.now (root_passes c.args.test.now) c.roots.root c.roots.set (subst (λ (n : ℕ). n ≤ c.roots.root) c.roots-root-end.ensures.roots c.roots-test.false) c.roots.invariant.1
