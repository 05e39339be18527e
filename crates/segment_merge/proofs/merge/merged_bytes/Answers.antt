use Rattle.std.proofs.Common.{◌≡◌, ◌++◌, List, ap, subst, ◌∙◌}
use Rattle.segment_builder.specs.Columns.{terms_in}
use Rattle.segment_parts.specs.Text.{head_text}
use Rattle.segment_parts.specs.declared.columns.Columns.{Columns}
use Rattle.stored_sources.specs.Text.{roots_text}
use Rattle.stored_sources.specs.declared.root.Root.{Root}
use Rattle.segment_merge.specs.Merged.{live_count_of, live_roots}
use Rattle.segment_merge.specs.Numbering.{PartState, live_in}
use Rattle.segment_merge.specs.Scoped.{roots_in}
use Rattle.segment_merge.proofs.Numbered.{live_in_parts}
use Rattle.segment_merge.proofs.Together.{ArePut, all_put, are_merged, columns_with, roots_same}
use Rattle.segment_merge.proofs.merge.merged_bytes.Goals as goal

pub returns : goal.returns
returns c = λ entries same.
    let head = c.in_ok-put_head.ensures.head in
    let terms = c.in_ok-news.ensures in
    let ordinals = c.in_ok-put_ordinals.ensures (terms_in terms.0) terms.2 in
    let numbers = c.in_ok-put_numbers.ensures in
    let texts = c.in_ok-put_texts.ensures entries same in
    let put : ArePut c.args.parts.now head.0 terms.0 ordinals.0 numbers.0 texts.0 = record { scopes_are = head.1; rows_are = terms.1; ordinals_are = ordinals.1; numbers_are = numbers.1; texts_are = texts.1 } in
    let columns : Columns = columns_with entries head.0 terms.0 ordinals.0 numbers.0 texts.0 in
    let count : c.in_ok-put_head.field-0 ≡ live_count_of entries = c.in_ok-put_head.ensures.count ∙ ap live_in same ∙ live_in_parts 0 entries in
    let roots : roots_in c.args.parts.now ≡ live_roots entries = ap roots_in same ∙ roots_same 0 entries in (
      columns,
      are_merged entries head.0 terms.0 ordinals.0 numbers.0 texts.0 (subst (λ (parts : List PartState). ArePut parts head.0 terms.0 ordinals.0 numbers.0 texts.0) same put),
      all_put columns c.new-bytes.result.items c.put_head.new.into.items c.put_roots.new.into.items c.put_terms.new.into.items c.put_ordinals.new.into.items c.put_numbers.new.into.items c.shrink_to_fit.new.self.items
          c.new-bytes.ensures.items
          (head.2 ∙ ap (λ n. c.new-bytes.result.items ++ head_text n head.0) count)
          (c.in_ok-put_roots.ensures ∙ ap (λ (rs : List Root). c.put_head.new.into.items ++ roots_text rs) roots)
          terms.3
          ordinals.2
          numbers.2
          (c.shrink_to_fit.ensures.items ∙ texts.2),
    )
