use Rattle.std.proofs.Common.{length, ap, ◌∙◌, arith}
use Rattle.segment_fits.proofs.Flags.{stand_long, stand_within}
use Rattle.segment_fits.proofs.fitting.are_documents_shown.Goals as goal

pub are_scopes_known-requires : goal.are_scopes_known-requires
are_scopes_known-requires c = λ k d h.
    omega (
      arith,
      c.requires.few,
      stand_within c.args.segment.now c.docs-documents.ensures.agree c.scopes_are_of_documents.ensures.sets c.scopes_are_of_documents.ensures.within c.args.standings.now c.requires.standings k d h,
    )

pub overflow_cast-ground : goal.overflow_cast-ground
overflow_cast-ground c = omega (arith, ap length (c.as_slice.ensures ∙ c.scopes.ensures), c.docs-documents.ensures.agree.parts.head.fewer)

pub are_columns_shown-requires-clause-ground : goal.are_columns_shown-requires-clause-ground
are_columns_shown-requires-clause-ground c =
    let long = ap length (c.as_slice.ensures ∙ c.scopes.ensures) in
    record {
      few = omega (arith, long, c.requires.few);
      each = λ k d h.
          omega (
            arith,
            long,
            stand_within c.args.segment.now c.docs-documents.ensures.agree c.scopes_are_of_documents.ensures.sets c.scopes_are_of_documents.ensures.within c.args.standings.now c.requires.standings k d h,
          );
    }

pub are_columns_shown-requires-clause-documents : goal.are_columns_shown-requires-clause-documents
are_columns_shown-requires-clause-documents c = stand_long c.args.segment.now c.docs-documents.ensures.agree c.scopes_are_of_documents.ensures.sets c.args.standings.now c.requires.standings
