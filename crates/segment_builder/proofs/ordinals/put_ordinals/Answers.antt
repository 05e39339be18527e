use Rattle.std.proofs.Common.{ℕ, List, length, Contains, map, arith}
use Rattle.std.specs.Cmp.Lexicographic.{slice_cmp}
use Rattle.std.specs.Ordering.{nat_cmp}
use Rattle.std.proofs.lemmas.List.{length-map}
use Rattle.std.proofs.lemmas.List.Elements.{recursion_from_All}
use Rattle.doc_values.specs.Text.{column_text}
use Rattle.part_text.specs.Text.{u64_text}
use Rattle.segment_parts.specs.Text.{ordinals_text}
use Rattle.segment_builder.specs.Columns.{keyword_groups, keyword_rows, ordinal_column, terms_lent, IsKeywordColumn}
use Rattle.segment_builder.proofs.Columned.{fewer_columns}
use Rattle.segment_builder.proofs.Finding.{named_columns}
use Rattle.segment_builder.proofs.Listed.{put_counted}
use Rattle.segment_builder.proofs.Ranks.{keyword_columns}
use Rattle.segment_builder.proofs.ordinals.put_ordinals.Goals as goal

pub overflow_cast-groups : goal.overflow_cast-groups
overflow_cast-groups c =
    let fewer = fewer_columns (slice_cmp nat_cmp) (λ field bytes. Contains (terms_lent c.args.terms.now) (field, bytes)) c.requires.entries.0 c.requires.entries.1 c.requires.entries.2 (keyword_groups c.args.groups.now) c.requires.entries.3 in
    omega (arith, fewer, length-map {B = ℕ × List (ℕ × List (List ℕ))} c.args.groups.now (λ group. (group.0, keyword_rows group.1.items)))

pub put_columns-requires-clause-are : goal.put_columns-requires-clause-are
put_columns-requires-clause-are c = keyword_columns (terms_lent c.args.terms.now) c.requires.entries.0 c.requires.entries.1 c.requires.entries.2 (keyword_groups c.args.groups.now) c.requires.entries.3

pub returns-clause-named : goal.returns-clause-named
returns-clause-named c =
    let terms = terms_lent c.args.terms.now in
    let are = keyword_columns terms c.requires.entries.0 c.requires.entries.1 c.requires.entries.2 (keyword_groups c.args.groups.now) c.requires.entries.3 in
    named_columns terms c.requires.ascending (keyword_groups c.args.groups.now) (recursion_from_All (IsKeywordColumn terms) (keyword_groups c.args.groups.now) are)

pub returns-clause-text : goal.returns-clause-text
unfolding ordinals_text
returns-clause-text c =
    let terms = terms_lent c.args.terms.now in
    let groups = keyword_groups c.args.groups.now in
    put_counted (column_text u64_text) (length c.args.groups.now) (map (ordinal_column terms) groups) c.args.into.now.items c.put_u32.new.into.items c.put_columns.new.into.items c.in_ok-put_u32.ensures.put c.in_ok-put_columns.ensures
    (omega (arith, length-map groups (ordinal_column terms), length-map {B = ℕ × List (ℕ × List (List ℕ))} c.args.groups.now (λ group. (group.0, keyword_rows group.1.items))))
