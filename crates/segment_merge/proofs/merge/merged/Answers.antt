use Rattle.std.proofs.Common.{◌≡◌, ◌<◌, List, length, refl, ap, ◌∙◌, arith}
use Rattle.std.specs.List.{flat_map}
use Rattle.flattener.specs.Block.{BlockState}
use Rattle.segment.specs.Live.{EntryState}
use Rattle.segment_builder.specs.Blocks.{live_blocks}
use Rattle.stored_sources.specs.declared.root.Root.{Root}
use Rattle.segment_merge.specs.Merged.{live_roots}
use Rattle.segment_merge.specs.Numbering.{live_in, parts_from}
use Rattle.segment_merge.specs.Scoped.{roots_in}
use Rattle.segment_merge.proofs.Numbered.{live_in_parts}
use Rattle.segment_merge.proofs.Together.{none_live, roots_same}
use Rattle.segment_merge.proofs.merge.merged.Goals as goal

pub parts_of-requires : goal.parts_of-requires
parts_of-requires c = omega (arith, c.requires.few, c.live_blocks_are_counted.ensures.objects c.requires.made.0 c.requires.made.2)

pub returns-then-not-have_live_roots-clause-none : goal.returns-then-not-have_live_roots-clause-none
returns-then-not-have_live_roots-clause-none c =
    let entries : List EntryState = c.args.entries.now in
    let parts : c.as_slice.result.now ≡ parts_from 0 entries = c.as_slice.ensures.value ∙ c.in_ok-parts.ensures in
    let roots : roots_in c.as_slice.result.now ≡ live_roots entries = ap roots_in parts ∙ roots_same 0 entries in (
      λ _. none_live (flat_map live_blocks entries) (roots_in c.as_slice.result.now) (live_roots entries) (c.live_blocks_are_counted.ensures.blocks c.requires.made.0 c.requires.made.2) roots
          (λ some. let no = c.if-not-have_live_roots.ensures.1 some in cc (no)),
      λ _. refl,
    )

pub merged_bytes-requires : goal.merged_bytes-requires
merged_bytes-requires c =
    let entries : List EntryState = c.args.entries.now in
    let parts : c.as_slice-2.result.now ≡ parts_from 0 entries = c.as_slice-2.ensures.value ∙ c.in_ok-parts.ensures in
    omega (arith, ap live_in parts, live_in_parts 0 entries, c.requires.few, c.live_blocks_are_counted.ensures.objects c.requires.made.0 c.requires.made.2)

pub segment_of-requires-clause-mergeable : goal.segment_of-requires-clause-mergeable
segment_of-requires-clause-mergeable c =
    let entries : List EntryState = c.args.entries.now in
    let parts : c.as_slice.result.now ≡ parts_from 0 entries = c.as_slice.ensures.value ∙ c.in_ok-parts.ensures in
    let roots : roots_in c.as_slice.result.now ≡ live_roots entries = ap roots_in parts ∙ roots_same 0 entries in
    let some : 0 < length (flat_map live_blocks entries) =
    omega (arith, c.if-not-have_live_roots.ensures.0 refl, ap (λ (rs : List Root). length rs) roots, c.live_blocks_are_counted.ensures.blocks c.requires.made.0 c.requires.made.2) in (
      c.requires.made.0,
      record { numbered = c.requires.made.1; fit = c.requires.made.2; few = c.requires.few; some = some },
    )

pub segment_of-requires-clause-merged : goal.segment_of-requires-clause-merged
segment_of-requires-clause-merged c = c.in_ok-bytes.ensures c.args.entries.now (c.as_slice-2.ensures.value ∙ c.in_ok-parts.ensures)

pub returns-clause-none : goal.returns-clause-none
returns-clause-none c =
    let entries : List EntryState = c.args.entries.now in
    let parts : c.as_slice.result.now ≡ parts_from 0 entries = c.as_slice.ensures.value ∙ c.in_ok-parts.ensures in
    let roots : roots_in c.as_slice.result.now ≡ live_roots entries = ap roots_in parts ∙ roots_same 0 entries in
    let some : 0 < length (flat_map live_blocks entries) =
    omega (arith, c.if-not-have_live_roots.ensures.0 refl, ap (λ (rs : List Root). length rs) roots, c.live_blocks_are_counted.ensures.blocks c.requires.made.0 c.requires.made.2) in (
      λ no. absurd (cc (no)),
      λ none. absurd (omega (arith, some, ap (λ (blocks : List BlockState). length blocks) none)),
    )
