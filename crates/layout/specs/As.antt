-- Serves proofs alone: a layout in which each item gives way to what is kept of it.
use Rattle.std.specs.Prelude.{map}
use Rattle.layout.specs.Layout.{Marked, SegmentOf, Layout}

abbrev pub marked_as : {A B : Type 0} → (A → B) → Marked A → Marked B
marked_as {A} {B} f marked = record { item = f marked.item; live = marked.live }

abbrev pub segment_as : {A B : Type 0} → (A → B) → SegmentOf A → SegmentOf B
segment_as {A} {B} f segment = record { id = segment.id; items = map (marked_as f) segment.items }

abbrev pub layout_as : {A B : Type 0} → (A → B) → Layout A → Layout B
layout_as {A} {B} f layout = record {
  segments = map (segment_as f) layout.segments;
  buffer = map f layout.buffer;
  merges = layout.merges;
  started = layout.started;
  made = layout.made;
  factor = layout.factor;
}
