use Rattle.std.proofs.Common.{◌≡◌, ◌+◌, drop, max, sym, ap, ◌∙◌}
use Rattle.std.specs.Ordering.{nat_cmp, ord_max}
use Rattle.layout.specs.Layout.{live_in}
use Rattle.index_core.specs.Kept.{segment_kept}
use Rattle.index_core.proofs.Entering.{greater_of, live_of, next_entry, own_both, own_next, reading_all, reading_more}
use Rattle.index_core.proofs.opening.read_entries.Goals as goal

pub add_entry-requires : goal.add_entry-requires
add_entry-requires c =
    let entries = c.args.entries.now in
    let next = next_entry entries c.entries.entry-index c.entry-item.result c.entries-test.true (sym c.entry-item.is) in
    (own_both (live_in (segment_kept c.entry-item.result)) (live_of (drop (c.entries.entry-index + 1) entries)) (own_next entries c.entries.entry-index c.entry-item.result next c.requires.ids)).0

pub entries-preserved : goal.entries-preserved
entries-preserved c =
    let greater : c.max-made.result ≡ max c.entries.made (c.entry-item.result.id + 1) = c.max-made.ensures ∙ ap (λ n. ord_max nat_cmp c.entries.made (n + 1)) c.id.ensures ∙ greater_of c.entries.made (c.entry-item.result.id + 1) in
    reading_more c.args.entries.now c.entries.entry-index c.entries.numbers c.add_entry.new.numbers c.entries.objects c.entries.made c.in_ok-objects.field-0 c.max-made.result c.entry-item.result c.requires.ids c.entries.invariant c.entries-test.true (sym c.entry-item.is)
    c.in_ok-objects.ensures.numbers c.in_ok-objects.ensures.objects greater c.entry_is_whole.ensures

pub returns-clause-below : goal.returns-clause-below
returns-clause-below c = λ ok. (reading_all c.args.entries.now c.entries.entry-index c.entries.numbers c.entries.objects c.entries.made c.entries.invariant c.entries-test.false).below
