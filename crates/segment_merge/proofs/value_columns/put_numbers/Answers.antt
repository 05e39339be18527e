use Rattle.std.proofs.Common.{ℕ, ℤ, List, subst}
use Rattle.std.specs.Ordering.{nat_cmp}
use Rattle.segment_parts.specs.Text.{numbers_text}
use Rattle.segment_merge.specs.Merged.{IsGathered}
use Rattle.segment_merge.proofs.Renewed.{same_numbers}
use Rattle.segment_merge.proofs.value_columns.put_numbers.Goals as goal

pub returns : goal.returns
unfolding numbers_text
returns c =
    let made = c.in_ok-put_columns.ensures in (
      made.0,
      subst (λ (parts : List (ℕ × List (ℕ × List ℤ))). IsGathered nat_cmp parts made.0) (same_numbers c.args.parts.now c.args.news.now) made.1,
      made.2,
    )
