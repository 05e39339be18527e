use Rattle.std.proofs.Common.{◌≡◌, true, false, sym, ◌∙◌}
use Rattle.query_ast.specs.Uses.{is_written}
use Rattle.bucket_aggs.specs.Counts.{flats_of_view}
use Rattle.bucket_aggs.proofs.Numbered.{keywords_all, numbers_all}
use Rattle.bucket_aggs.proofs.metrics.value_count.Goals as goal

pub returns-then-is_text-clause-count : goal.returns-then-is_text-clause-count
returns-then-is_text-clause-count c =
    let written : is_written c.args.kind ≡ true = sym c.is_text.ensures ∙ c.if-is_text.true in
    c.in_ok-keyword_count.ensures ∙ sym (keywords_all c.args.kind c.args.field (flats_of_view c.args.entries.now c.args.objects.now) written)

pub returns-clause-count : goal.returns-clause-count
returns-clause-count c =
    let plain : is_written c.args.kind ≡ false = sym c.is_text.ensures ∙ c.if-is_text.false in
    c.in_ok-sums.ensures.sums.count ∙ sym (numbers_all c.args.kind c.args.field (flats_of_view c.args.entries.now c.args.objects.now) plain)
