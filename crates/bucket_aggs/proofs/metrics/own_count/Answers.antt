use Rattle.std.proofs.Common.{◌≡◌, None, Some, sym, ◌∙◌}
use Rattle.segment_parts.specs.Fields.{column_of}
use Rattle.segment_parts.specs.Text.{marked_places}
use Rattle.bucket_aggs.proofs.Numbered.{keywords_long, no_keywords_long}
use Rattle.bucket_aggs.proofs.Within.{ordinals_below}
use Rattle.bucket_aggs.proofs.metrics.own_count.Goals as goal

pub column_count-requires : goal.column_count-requires
column_count-requires c =
    let some : column_of c.args.field c.args.segment.now.ordinals ≡ Some c.in-Some.column = sym c.ordinals.ensures ∙ c.in-Some.is in
    ordinals_below c.args.segment.now c.args.field c.args.set.now c.docs-agree.ensures.agree c.requires c.in-Some.column some

pub returns-in_ok-column_count-in-Some : goal.returns-in_ok-column_count-in-Some
returns-in_ok-column_count-in-Some c =
    let some : column_of c.args.field c.args.segment.now.ordinals ≡ Some c.in-Some.column = sym c.ordinals.ensures ∙ c.in-Some.is in
    c.in_ok-column_count-in-Some.ensures ∙ sym (keywords_long c.args.segment.now c.args.field (marked_places 0 c.args.set.now) c.values_are_of_documents.ensures.keywords c.in-Some.column some)

pub returns-in-None : goal.returns-in-None
returns-in-None c =
    let none : column_of c.args.field c.args.segment.now.ordinals ≡ None = sym c.ordinals.ensures ∙ c.in-None.is in
    sym (no_keywords_long c.args.segment.now c.args.field (marked_places 0 c.args.set.now) c.values_are_of_documents.ensures.keywords none)
