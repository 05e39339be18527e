use Rattle.std.proofs.Common.{ℕ, List, ℤ, length, FitsSigned, w64, arith}
use Rattle.std.specs.Ordering.{int_cmp}
use Rattle.std.proofs.lemmas.List.{length-map}
use Rattle.doc_values.specs.Text.{column_text}
use Rattle.part_text.specs.Text.{i64_text}
use Rattle.segment_parts.specs.Text.{numbers_text}
use Rattle.segment_builder.specs.Columns.{number_groups, number_rows}
use Rattle.segment_builder.proofs.Columned.{column_list}
use Rattle.segment_builder.proofs.Listed.{put_counted}
use Rattle.segment_builder.proofs.numbers.put_numbers.Goals as goal

pub overflow_cast-groups : goal.overflow_cast-groups
overflow_cast-groups c =
    let list = column_list int_cmp (FitsSigned w64) c.requires.0 c.requires.1 c.requires.2 (number_groups c.args.groups.now) c.requires.3 in
    omega (arith, list.fewer, length-map {B = ℕ × List (ℕ × List ℤ)} c.args.groups.now (λ group. (group.0, number_rows group.1.items)))

pub put_columns-requires : goal.put_columns-requires
put_columns-requires c = (column_list int_cmp (FitsSigned w64) c.requires.0 c.requires.1 c.requires.2 (number_groups c.args.groups.now) c.requires.3).each

pub returns : goal.returns
unfolding numbers_text
returns c =
    put_counted (column_text i64_text) (length c.args.groups.now) (number_groups c.args.groups.now) c.args.into.now.items c.put_u32.new.into.items c.put_columns.new.into.items c.in_ok-put_u32.ensures.put c.in_ok-put_columns.ensures
    (omega (arith, length-map {B = ℕ × List (ℕ × List ℤ)} c.args.groups.now (λ group. (group.0, number_rows group.1.items))))
