use Rattle.std.proofs.Common.{◌≡◌, ◌<◌, ◌≤◌, length, slice_get, Some, refl, ap, ◌∙◌, arith}
use Rattle.std.proofs.lemmas.Option.{slice_get_past, slice_get_read}
use Rattle.query_eval.specs.Sides.{key_at}
use Rattle.segment.specs.Live.{root_of}
use Rattle.segment_parts.specs.Parts.{root_flags}
use Rattle.segment_parts.specs.declared.columns.Columns.{Columns}
use Rattle.inner_hits.proofs.Gathering.{key_in_absent, key_in_past, key_in_there}
use Rattle.inner_hits.proofs.joined.key_at.Goals as goal

pub returns-then-place-entries : goal.returns-then-place-entries
returns-then-place-entries c =
    key_in_absent c.args.mapping.now c.args.ordinals.now c.args.side c.args.entries.now c.args.place c.args.doc (slice_get_past c.args.entries.now c.args.place c.if-place-entries.true)

pub returns-then-doc-docs : goal.returns-then-doc-docs
returns-then-doc-docs c =
    let entry = c.index-entries-place.result in
    let at : slice_get c.args.entries.now c.args.place ≡ Some entry = slice_get_read c.args.entries.now (length c.args.entries.now) c.args.place entry refl c.if-place-entries.false c.index-entries-place.is in
    let past : entry.columns.documents ≤ c.args.doc = omega (arith, c.if-doc-docs.true, c.docs.ensures.documents, ap (λ (x : Columns). x.documents) c.segment-segment.ensures) in
    key_in_past c.args.mapping.now c.args.ordinals.now c.args.side c.args.entries.now c.args.place c.args.doc entry at past

pub returns : goal.returns
returns c =
    let entry = c.index-entries-place.result in
    let root = c.root_of.result in
    let at : slice_get c.args.entries.now c.args.place ≡ Some entry = slice_get_read c.args.entries.now (length c.args.entries.now) c.args.place entry refl c.if-place-entries.false c.index-entries-place.is in
    let low : c.args.doc < entry.columns.documents = omega (arith, c.if-doc-docs.false, c.docs.ensures.documents, ap (λ (x : Columns). x.documents) c.segment-segment.ensures) in
    c.key_of.ensures
    ∙ ap (λ (x : Columns). key_at c.args.mapping.now c.args.ordinals.now c.args.side x c.args.place root) c.segment-segment.ensures
    ∙ key_in_there c.args.mapping.now c.args.ordinals.now c.args.side c.args.entries.now c.args.place c.args.doc entry root at low
    (c.root_of.ensures.index ∙ ap (λ (x : Columns). root_of (root_flags x.scopes) c.args.doc) c.segment-segment.ensures)
