use Rattle.std.proofs.Common.{ℕ, List, map, subst}
use Rattle.std.specs.Ordering.{nat_cmp}
use Rattle.std.proofs.lemmas.Cmp.{nat_cmp_total}
use Rattle.part_text.specs.Text.{u32_text}
use Rattle.segment_builder.specs.Groups.{AreGroups}
use Rattle.segment_merge.specs.Pieces.{from_parts, part_texts, whole}
use Rattle.segment_merge.proofs.Gathering.{are_whole}
use Rattle.segment_merge.proofs.Pieced.{written_whole}
use Rattle.segment_merge.proofs.text_columns.put_all.Goals as goal

pub returns : goal.returns
returns c =
    let made = c.in_ok-put_by_field.ensures in (
      map whole made.0,
      are_whole nat_cmp nat_cmp_total (from_parts part_texts c.args.parts.now) made.0 (subst (λ (texts : List (ℕ × List ℕ)). AreGroups nat_cmp texts made.0) c.in_ok-texts.ensures made.1),
      written_whole u32_text made.0 c.args.into.now.items c.put_by_field.new.into.items made.2,
    )
