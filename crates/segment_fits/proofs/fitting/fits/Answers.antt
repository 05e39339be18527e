use Rattle.std.proofs.Common.{List, sym, subst, ◌∙◌}
use Rattle.std.specs.List.{All}
use Rattle.std.proofs.lemmas.Bool.{false≢true}
use Rattle.stored_sources.specs.declared.root.Root.{Root}
use Rattle.segment_fits.specs.Sources.{AreReadBack, IsReadBack}
use Rattle.segment_fits.proofs.Whole.{segment_fits, tested}
use Rattle.segment_fits.proofs.fitting.fits.Goals as goal

pub returns-then-not-branch : goal.returns-then-not-branch
returns-then-not-branch c = (
  λ no. absurd (false≢true no),
  λ both. sym c.if-not-branch.true ∙ c.in_ok-is_tested.ensures.1
      (tested c.args.mapping.now c.scope_count-scopes.ensures.is_mapping c.args.segment.now c.docs-documents.ensures.agree c.scopes_are_of_documents.ensures.sets
      c.scopes_are_of_documents.ensures.within c.scopes_are_of_documents.ensures.seen both.0),
)

pub returns : goal.returns
returns c =
    let P : List Root → Type 0 = λ roots. All (λ (root : Root). IsReadBack root.source) roots in
    let tests = c.in_ok-is_tested.ensures.0 c.if-not-branch.false in (
      λ holds.
          let back : AreReadBack c.args.segment.now = subst P c.sources.ensures.roots (c.in_ok-read.ensures.0 holds) in (
            segment_fits c.args.mapping.now c.scope_count-scopes.ensures.is_mapping c.args.segment.now c.docs-documents.ensures.agree c.scopes_are_of_documents.ensures.sets
                c.scopes_are_of_documents.ensures.within c.scopes_are_of_documents.ensures.seen tests back,
            back,
          ),
      λ both. c.in_ok-read.ensures.1 (subst P (sym c.sources.ensures.roots) both.1),
    )
