use Rattle.std.proofs.Common.{ℕ, List, Option, map, subst}
use Rattle.std.specs.Ordering.{nat_cmp}
use Rattle.std.proofs.lemmas.Cmp.{nat_cmp_total}
use Rattle.segment_builder.specs.Columns.{column_terms, row_terms}
use Rattle.segment_parts.specs.Text.{ordinals_text}
use Rattle.segment_merge.specs.Merged.{IsGathered}
use Rattle.segment_merge.specs.Pieces.{columns_of_parts, renewed_ordinal, ordinal_columns}
use Rattle.segment_merge.proofs.Gathering.{gathered_as}
use Rattle.segment_merge.proofs.Renewed.{renewed, same_keywords}
use Rattle.segment_merge.proofs.value_columns.put_ordinals.Goals as goal

pub returns : goal.returns
unfolding ordinals_text
returns c = λ terms news.
    let made = c.in_ok-put_columns.ensures in
    let parts = c.args.parts.now in
    let lists = c.args.news.now in (
      made.0,
      subst (λ (all : List (ℕ × List (ℕ × List (Option (ℕ × List ℕ))))). IsGathered nat_cmp all (map (column_terms terms) made.0))
          (same_keywords terms parts lists (renewed terms parts lists news) c.parts_agree.ensures.agree)
          (gathered_as nat_cmp nat_cmp_total (row_terms terms) (columns_of_parts ordinal_columns renewed_ordinal parts lists) made.0 made.1),
      made.2,
    )
