use Rattle.std.proofs.Common.{◌≡◌, ℕ, List, ◌++◌, refl, length, map, ap, ◌∙◌, append_assoc}
use Rattle.std.specs.List.{flat_map}
use Rattle.part_text.specs.Text.{u64_text}
use Rattle.segment_merge.specs.TermRefs.{group_lent, live_rows, numbered}
use Rattle.term_table.specs.Part.{row_text}
use Rattle.term_table.specs.declared.rows.TermRow.{TermRow}
use Rattle.segment_merge.proofs.Noted.{are_new}
use Rattle.segment_merge.proofs.Refs.{Group}
use Rattle.segment_merge.proofs.Termed.{can_put, lent_groups, rows_gathered}
use Rattle.segment_merge.proofs.terms.put_terms.Goals as goal

pub put_rows-requires : goal.put_rows-requires
put_rows-requires c =
    let are = lent_groups _ (λ a b. refl) c.args.parts.now c.in_ok-refs.refs.items c.in_ok-groups.groups.items c.in_ok-refs.ensures c.in_ok-groups.ensures in
    rw (c.as_slice.ensures.value, c.in_ok-news.ensures) (can_put c.args.parts.now (map group_lent c.in_ok-groups.groups.items) c.parts_agree.ensures.agree c.requires are)

pub returns : goal.returns
returns c =
    let are = lent_groups _ (λ a b. refl) c.args.parts.now c.in_ok-refs.refs.items c.in_ok-groups.groups.items c.in_ok-refs.ensures c.in_ok-groups.ensures in
    let groups : List Group = map group_lent c.in_ok-groups.groups.items in
    let rows : List TermRow = live_rows groups in
    let slice : map group_lent c.as_slice.result.now ≡ groups = ap (map group_lent) c.as_slice.ensures.value in
    let count : c.in_ok-count.count ≡ length rows = c.in_ok-count.ensures.count ∙ ap (λ (gs : List Group). length (live_rows gs)) slice in
    let text : c.put_rows.new.into.items ≡ flat_map row_text rows =
    c.in_ok-count.ensures.rows
    ∙ ap (λ (front : List ℕ). front ++ flat_map row_text (live_rows (map group_lent c.as_slice.result.now))) c.new-rows.ensures.items
    ∙ ap (λ (gs : List Group). flat_map row_text (live_rows gs)) slice in
    let news : c.put_rows.new.news ≡ numbered 0 groups c.in_ok-news.news = c.in_ok-count.ensures.news ∙ ap (λ (gs : List Group). numbered 0 gs c.in_ok-news.news) slice in (
      rows,
      rows_gathered c.args.parts.now groups are,
      (rw (news, c.in_ok-news.ensures) (are_new c.args.parts.now groups are)),
      c.in_ok-extend_from_slice.ensures.items
          ∙ ap (λ (back : List ℕ). c.put_u64.new.into.items ++ back) (c.as_slice-2.ensures.value ∙ text)
          ∙ ap (λ (front : List ℕ). front ++ flat_map row_text rows) (c.in_ok-put_u64.ensures.put ∙ ap (λ n. c.args.into.now.items ++ u64_text n) count)
          ∙ append_assoc c.args.into.now.items (u64_text (length rows)) (flat_map row_text rows),
    )
