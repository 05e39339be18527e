-- An index whose buffer is sealed, beside a store.
use Rattle.std.specs.Prelude.{◌≡◌, [], map}
use Rattle.std.specs.List.{All}
use Rattle.commit_store.specs.Known.{StoreState}
use Rattle.commit_store.specs.Saying.{HasSource, IsReadBack}
use Rattle.index_core.specs.Kept.{IndexFits, IndexState, layout_kept}
use Rattle.layout.specs.Layout.{item_in}
use Rattle.layout_ids.specs.Items.{AllItems}
use Rattle.mapping.specs.Mapping.{Mapping}
use Rattle.segment.specs.Live.{EntryState}
use Rattle.segment_builder.specs.Blocks.{blocks_in, blocks_of}
use Rattle.store_commands.specs.Commands.{AreKnown}

-- The buffer is empty, and the view may be committed.
pub record IsReady (m : Mapping) (index : IndexState) (store : StoreState) : Type 0 where
  pub emptied : index.buffer ≡ []
  pub fits : IndexFits m index
  pub sources : AllItems HasSource (layout_kept index)
  pub known : AreKnown (layout_kept index) store.known
  pub read : All IsReadBack m.bodies

-- the blocks of an entry, dead ones among them, are those of its segment
abbrev pub HasItems : EntryState → Type 0
HasItems entry = map item_in (blocks_in entry) ≡ blocks_of entry.columns
