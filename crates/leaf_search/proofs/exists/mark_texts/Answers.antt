use Rattle.std.proofs.Common.{sym, ◌∙◌, subst}
use Rattle.leaf_search.specs.Sets.{Gains}
use Rattle.segment.specs.Shows.{has_text}
use Rattle.leaf_search.proofs.Unions.{texts_gain, column_long}
use Rattle.leaf_search.proofs.exists.mark_texts.Goals as goal

pub or-requires : goal.or-requires
or-requires c =
    c.requires ∙ sym (column_long c.args.segment.now.documents c.args.field c.args.segment.now.present c.in-Some.present.now c.docs-documents.ensures.agree.parts.present_are.each (sym c.in-Some.ensures))

pub returns-in-Some : goal.returns-in-Some
returns-in-Some c =
    subst (Gains c.args.segment.now (has_text c.args.field) c.args.set.now) (sym c.or.ensures)
    (texts_gain c.args.segment.now c.args.field c.in-Some.present.now c.args.set.now c.docs-documents.ensures.agree (λ doc. c.values_are_of_documents.ensures.texts c.args.field doc) (sym c.in-Some.ensures) c.requires)
