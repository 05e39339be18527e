use Rattle.std.proofs.Common.{◌≡◌, map, refl, sym, ap, subst, ◌∙◌}
use Rattle.flattener.specs.Seen.{block_seen}
use Rattle.segment.specs.Agree.{AreColumns}
use Rattle.segment.specs.Flat.{roots_of}
use Rattle.segment_parts.specs.Whole.{segment_once}
use Rattle.segment_parts.specs.declared.columns.Columns.{Columns}
use Rattle.segment_builder.specs.Entries.{no_entries, with_blocks}
use Rattle.segment_builder.specs.Made.{IsMade}
use Rattle.segment_builder.proofs.Whole.{flats_are}
use Rattle.segment_builder.proofs.assemble.made_of.Goals as goal

pub bytes_of-requires : goal.bytes_of-requires
bytes_of-requires c = c.requires

pub of_text-requires : goal.of_text-requires
of_text-requires c =
    let blocks = map block_seen c.args.blocks.now in
    let columns : Columns = c.in_ok-bytes.ensures.0 in
    let own : AreColumns columns = c.made_columns_agree.ensures c.requires.0 blocks columns c.requires.1 c.in_ok-bytes.ensures.1 c.in_ok-bytes.ensures.2 c.in_ok-bytes.ensures.3 in
    (columns, record { are = own; text = c.of.ensures ∙ c.in_ok-bytes.ensures.4 })

pub returns : goal.returns
returns c =
    let blocks = map block_seen c.args.blocks.now in
    let columns : Columns = c.in_ok-bytes.ensures.0 in
    let made : IsMade (with_blocks no_entries blocks) columns = c.in_ok-bytes.ensures.1 in
    let own : AreColumns columns = c.made_columns_agree.ensures c.requires.0 blocks columns c.requires.1 made c.in_ok-bytes.ensures.2 c.in_ok-bytes.ensures.3 in
    let read = c.in_ok-segment.ensures in
    let same : c.in_ok-segment.segment ≡ columns = segment_once c.words_are_of_one_set.ensures c.in_ok-segment.segment columns read.are.parts own.parts (sym read.text ∙ c.of.ensures ∙ c.in_ok-bytes.ensures.4) in
    let again : IsMade (with_blocks no_entries blocks) c.in_ok-segment.segment = subst (IsMade (with_blocks no_entries blocks)) (sym same) made in
    let roots = ap roots_of same ∙ c.in_ok-bytes.ensures.2 in
    record {
      flats = flats_are (with_blocks no_entries blocks) c.in_ok-segment.segment blocks refl again c.requires.1.ordered c.scopes_are_of_documents.ensures.sets;
      roots = roots;
      blocks = c.made_segments_are_blocks.ensures.blocks c.requires.0 blocks c.requires.1 again roots;
      fits = c.made_segments_are_blocks.ensures.fits c.requires.0 blocks c.requires.1 again roots;
    }
