use Rattle.std.proofs.Common.{◌≡◌, true, false, List, map, sym, subst, ◌∙◌}
use Rattle.flattener.specs.Block.{BlockState}
use Rattle.flattener.specs.Seen.{block_seen}
use Rattle.segment.specs.Live.{EntryState}
use Rattle.segment_parts.specs.declared.columns.Columns.{Columns}
use Rattle.index_core.specs.Found.{IsHalving, Rise, Stands, StandsAt, begins_by, block_numbers, first_numbers, root_numbers}
use Rattle.index_core.proofs.Places.{buffer_rises, buffer_has, buffer_at, firsts_rise, count_some, count_within, has_number}
use Rattle.index_core.proofs.place.place_of.Goals as goal

pub index_of-requires-clause-rise : goal.index_of-requires-clause-rise
index_of-requires-clause-rise c =
    subst (λ (bs : List BlockState). Rise (block_numbers bs)) (sym c.of.ensures) (buffer_rises c.args.entries.now (map block_seen c.args.buffer.now) c.args.number c.requires.live)

pub index_of-requires-clause-stands : goal.index_of-requires-clause-stands
index_of-requires-clause-stands c =
    let begins : begins_by c.args.number (map block_seen c.args.buffer.now) ≡ true = sym c.is_buffered.ensures ∙ c.if-is_buffered.true in
    subst (λ (bs : List BlockState). Stands (block_numbers bs) c.args.number) (sym c.of.ensures) (buffer_has c.args.entries.now (map block_seen c.args.buffer.now) c.args.number c.requires.live begins)

pub returns-then-is_buffered : goal.returns-then-is_buffered
returns-then-is_buffered c =
    let begins : begins_by c.args.number (map block_seen c.args.buffer.now) ≡ true = sym c.is_buffered.ensures ∙ c.if-is_buffered.true in
    let stands : StandsAt (block_numbers (map block_seen c.args.buffer.now)) c.index_of.result c.args.number = subst (λ (bs : List BlockState). StandsAt (block_numbers bs) c.index_of.result c.args.number) c.of.ensures c.index_of.ensures in
    buffer_at c.args.entries.now (map block_seen c.args.buffer.now) c.args.number c.requires.live begins c.index_of.result stands

pub count_up_to-index-requires : goal.count_up_to-index-requires
count_up_to-index-requires c =
    subst (λ (es : List EntryState). Rise (first_numbers es)) (sym c.of-else-is_buffered.ensures) (firsts_rise c.args.entries.now (map block_seen c.args.buffer.now) c.args.number c.requires.live c.requires.whole)

pub overflow_sub-index : goal.overflow_sub-index
overflow_sub-index c =
    let begins : begins_by c.args.number (map block_seen c.args.buffer.now) ≡ false = sym c.is_buffered.ensures ∙ c.if-is_buffered.false in
    let count = c.count_up_to-index.result in
    let halving = subst (λ (es : List EntryState). IsHalving (first_numbers es) c.args.number count count) c.of-else-is_buffered.ensures c.count_up_to-index.ensures in
    count_some c.args.entries.now (map block_seen c.args.buffer.now) c.args.number c.requires.live c.requires.whole count begins halving

pub bounds-entries-index : goal.bounds-entries-index
bounds-entries-index c =
    let begins : begins_by c.args.number (map block_seen c.args.buffer.now) ≡ false = sym c.is_buffered.ensures ∙ c.if-is_buffered.false in
    let count = c.count_up_to-index.result in
    let halving = subst (λ (es : List EntryState). IsHalving (first_numbers es) c.args.number count count) c.of-else-is_buffered.ensures c.count_up_to-index.ensures in
    count_within c.args.entries.now (map block_seen c.args.buffer.now) c.args.number c.requires.live c.requires.whole count begins halving

pub index_of-root-requires-clause-rise : goal.index_of-root-requires-clause-rise
index_of-root-requires-clause-rise c =
    let begins : begins_by c.args.number (map block_seen c.args.buffer.now) ≡ false = sym c.is_buffered.ensures ∙ c.if-is_buffered.false in
    let count = c.count_up_to-index.result in
    let halving = subst (λ (es : List EntryState). IsHalving (first_numbers es) c.args.number count count) c.of-else-is_buffered.ensures c.count_up_to-index.ensures in
    let own = has_number c.args.entries.now (map block_seen c.args.buffer.now) c.args.number c.requires.live c.requires.whole count begins halving c.index-entries-index.result (sym c.index-entries-index.is) in
    subst (λ (cs : Columns). Rise (root_numbers cs)) (sym c.segment-segment.ensures) own.rise

pub index_of-root-requires-clause-stands : goal.index_of-root-requires-clause-stands
index_of-root-requires-clause-stands c =
    let begins : begins_by c.args.number (map block_seen c.args.buffer.now) ≡ false = sym c.is_buffered.ensures ∙ c.if-is_buffered.false in
    let count = c.count_up_to-index.result in
    let halving = subst (λ (es : List EntryState). IsHalving (first_numbers es) c.args.number count count) c.of-else-is_buffered.ensures c.count_up_to-index.ensures in
    let own = has_number c.args.entries.now (map block_seen c.args.buffer.now) c.args.number c.requires.live c.requires.whole count begins halving c.index-entries-index.result (sym c.index-entries-index.is) in
    subst (λ (cs : Columns). Stands (root_numbers cs) c.args.number) (sym c.segment-segment.ensures) own.stands

pub returns-else-is_buffered : goal.returns-else-is_buffered
returns-else-is_buffered c =
    let begins : begins_by c.args.number (map block_seen c.args.buffer.now) ≡ false = sym c.is_buffered.ensures ∙ c.if-is_buffered.false in
    let count = c.count_up_to-index.result in
    let halving = subst (λ (es : List EntryState). IsHalving (first_numbers es) c.args.number count count) c.of-else-is_buffered.ensures c.count_up_to-index.ensures in
    let own = has_number c.args.entries.now (map block_seen c.args.buffer.now) c.args.number c.requires.live c.requires.whole count begins halving c.index-entries-index.result (sym c.index-entries-index.is) in
    own.at c.index_of-root.result (subst (λ (cs : Columns). StandsAt (root_numbers cs) c.index_of-root.result c.args.number) c.segment-segment.ensures c.index_of-root.ensures)
