use Rattle.std.proofs.Common.{◌≡◌, ℕ, ◌+◌, Bool, List, [], ◌∷◌, ◌++◌, Some, map, filter, sym, ◌∙◌, ap, subst}
use Rattle.std.specs.Option.{is_none}
use Rattle.extent_pool.specs.declared.extent.Extent.{Extent}
use Rattle.store_text.specs.Pieces.{Piece}
use Rattle.store_text.specs.Record.{IsRecord, record_text}
use Rattle.store_text.specs.declared.header.Side.{Side}
use Rattle.commit_images.specs.Keeping.{is_first}
use Rattle.commit_images.specs.Steps.{Step}
use Rattle.commit_images.specs.Writes.{piece_of as block_piece}
use Rattle.commit_store.specs.declared.known.KnownSegment.{KnownSegment}
use Rattle.commit_store.specs.declared.prepared.Planned.{Planned}
use Rattle.commit_store.specs.Known.{StoreState, IsStore}
use Rattle.commit_store.specs.Planned.{all_planned}
use Rattle.commit_store.specs.Preparing.{PlannedSegment, PreparedState, committed, idle_side, known_of, moves, piece_of}
use Rattle.commit_store.specs.Ready.{IsWriting}
use Rattle.commit_store.specs.Rows.{record_planned, record_prepared, written_pieces}
use Rattle.commit_store.specs.Saying.{IsGood}
use Rattle.commit_store.specs.Stepping.{HoldsEither, IsStep}
use Rattle.commit_store.proofs.Closing.{last_left}
use Rattle.commit_store.proofs.Committed.{committed_is, last_committed, with_commit}
use Rattle.commit_store.proofs.Results.{on_err}
use Rattle.commit_store.proofs.Writing.{record_is, writing_is}
use Rattle.commit_store.proofs.store.Store.finished.Goals as goal

pub record_bytes-requires : goal.record_bytes-requires
record_bytes-requires g c =
    subst (λ (it : List Planned). IsRecord (record_planned c.prepared.inside.bodies.items c.prepared.inside.dynamic c.prepared.inside.next (all_planned it))) (sym c.as_slice.ensures.value)
    (subst (λ (it : PreparedState). IsRecord (record_prepared it)) (sym c.prepared.view_is)
    (subst IsRecord (record_is c.args.self.now c.args.prepared c.requires.commit.0 c.requires c.requires.commit.1) c.requires.commit.1.good.numbers))

pub returns-in_err-written-clause-failed : goal.returns-in_err-written-clause-failed
returns-in_err-written-clause-failed g c =
    on_err c.from_residual-in_err-written.result (λ told found own commit keeps.
    let segments : List Planned = c.prepared.inside.segments.items in
    let text : c.in_ok-text.text.items ≡ record_text (record_planned c.prepared.inside.bodies.items c.prepared.inside.dynamic c.prepared.inside.next (all_planned segments))
    = c.in_ok-text.ensures
    ∙ ap (λ (it : List Planned). record_text (record_planned c.prepared.inside.bodies.items c.prepared.inside.dynamic c.prepared.inside.next (all_planned it))) c.as_slice.ensures.value in
    let pieces : map block_piece c.as_slice-6.result.now ≡ written_pieces c.args.prepared
    = ap (map block_piece) c.as_slice-6.ensures.value
    ∙ c.in_ok-blocks.ensures
    ∙ ap (λ (it : List Planned). map piece_of (filter moves (all_planned it)) ++ record { at = c.prepared.inside.record_extent.at; bytes = c.as_slice-5.result.now } ∷ []) c.as_slice-4.ensures.value
    ∙ ap (λ (it : List ℕ). map piece_of (filter moves (all_planned segments)) ++ record { at = c.prepared.inside.record_extent.at; bytes = it } ∷ []) (c.as_slice-5.ensures.value ∙ text)
    ∙ ap written_pieces c.prepared.view_is in
    let is : IsStore c.args.self.now = subst IsStore c.self.view_is c.self.invariant in
    let writing : IsWriting c.args.self.now (map block_piece c.as_slice-6.result.now) c.prepared.inside.record_extent found own (g.D.Disk.image c.args.disk.now)
    = subst (λ (it : List Piece). IsWriting c.args.self.now it c.prepared.inside.record_extent found own (g.D.Disk.image c.args.disk.now)) (sym pieces)
    (subst (λ (it : PreparedState). IsWriting c.args.self.now (written_pieces c.args.prepared) it.record_extent found own (g.D.Disk.image c.args.disk.now)) (sym c.prepared.view_is)
    (writing_is c.args.self.now c.args.prepared found own (g.D.Disk.image c.args.disk.now) is c.requires commit keeps)) in
    record {
      knows = last_left c.args.self.now c.written.new.self found c.in_err-written.ensures.left keeps.last;
      step =
          subst
          (λ (it : ℕ). Step (IsGood it) found found c.written.new.self.closed (HoldsEither c.args.self.now.limit found own) (g.D.Disk.image c.written.new.disk)
          (g.D.Disk.moment c.args.disk.now) (g.D.Disk.moment c.written.new.disk) (g.D.Disk.image_since c.args.disk.now) (g.D.Disk.image_since c.written.new.disk))
          (sym c.in_err-written.ensures.left.limit) (c.in_err-written.ensures.failed told found own writing);
    })

pub invariant_of-self : goal.invariant_of-self
invariant_of-self g c =
    let segments : List Planned = c.prepared.inside.segments.items in
    let now : StoreState = c.args.self.now in
    let behind : StoreState = record { limit = c.self-2.inside.limit; side = c.self-2.inside.side; known = c.self-2.inside.known.items; named = c.self-2.inside.named.extents; tried = c.self-2.inside.tried; closed = c.self-2.inside.closed } in
    let left : behind ≡ record { limit = now.limit; side = now.side; known = now.known; named = now.named; tried = now.tried + 1; closed = is_none now.side } = c.self-2.view_is ∙ c.in_ok-written.ensures.written in
    let known : c.in_ok-known.known.items ≡ map known_of c.args.prepared.segments
    = c.in_ok-known.ensures ∙ ap (λ (it : List Planned). map known_of (all_planned it)) c.as_slice-3.ensures.value ∙ ap (λ (it : PreparedState). map known_of it.segments) c.prepared.view_is in
    let named : c.in_ok-named.named.extents ≡ c.args.prepared.record_extent ∷ map (λ (segment : PlannedSegment). segment.extent) c.args.prepared.segments
    = c.in_ok-named.ensures
    ∙ ap (λ (it : List Planned). c.prepared.inside.record_extent ∷ map (λ (segment : PlannedSegment). segment.extent) (all_planned it)) c.as_slice-2.ensures.value
    ∙ ap (λ (it : PreparedState). it.record_extent ∷ map (λ (segment : PlannedSegment). segment.extent) it.segments) c.prepared.view_is in
    let side : c.idle_slot.result ≡ idle_side now.side = c.idle_slot.ensures ∙ ap (λ (it : StoreState). idle_side it.side) left in
    let same : with_commit behind c.idle_slot.result c.in_ok-known.known.items c.in_ok-named.named.extents ≡ committed now c.args.prepared
    = ap (λ (it : StoreState). with_commit it c.idle_slot.result c.in_ok-known.known.items c.in_ok-named.named.extents) left
    ∙ ap (λ (it : Side). with_commit (record { limit = now.limit; side = now.side; known = now.known; named = now.named; tried = now.tried + 1; closed = is_none now.side }) it c.in_ok-known.known.items c.in_ok-named.named.extents) side
    ∙ ap (λ (it : List KnownSegment). with_commit (record { limit = now.limit; side = now.side; known = now.known; named = now.named; tried = now.tried + 1; closed = is_none now.side }) (idle_side now.side) it c.in_ok-named.named.extents) known
    ∙ ap (λ (it : List Extent). with_commit (record { limit = now.limit; side = now.side; known = now.known; named = now.named; tried = now.tried + 1; closed = is_none now.side }) (idle_side now.side) (map known_of c.args.prepared.segments) it) named in
    subst IsStore (sym same) (committed_is now c.args.prepared (subst IsStore c.self.view_is c.self.invariant) c.requires)

pub returns-clause-committed : goal.returns-clause-committed
returns-clause-committed g c =
    let segments : List Planned = c.prepared.inside.segments.items in
    let now : StoreState = c.args.self.now in
    let behind : StoreState = record { limit = c.self-2.inside.limit; side = c.self-2.inside.side; known = c.self-2.inside.known.items; named = c.self-2.inside.named.extents; tried = c.self-2.inside.tried; closed = c.self-2.inside.closed } in
    let left : behind ≡ record { limit = now.limit; side = now.side; known = now.known; named = now.named; tried = now.tried + 1; closed = is_none now.side } = c.self-2.view_is ∙ c.in_ok-written.ensures.written in
    let known : c.in_ok-known.known.items ≡ map known_of c.args.prepared.segments
    = c.in_ok-known.ensures ∙ ap (λ (it : List Planned). map known_of (all_planned it)) c.as_slice-3.ensures.value ∙ ap (λ (it : PreparedState). map known_of it.segments) c.prepared.view_is in
    let named : c.in_ok-named.named.extents ≡ c.args.prepared.record_extent ∷ map (λ (segment : PlannedSegment). segment.extent) c.args.prepared.segments
    = c.in_ok-named.ensures
    ∙ ap (λ (it : List Planned). c.prepared.inside.record_extent ∷ map (λ (segment : PlannedSegment). segment.extent) (all_planned it)) c.as_slice-2.ensures.value
    ∙ ap (λ (it : PreparedState). it.record_extent ∷ map (λ (segment : PlannedSegment). segment.extent) it.segments) c.prepared.view_is in
    let side : c.idle_slot.result ≡ idle_side now.side = c.idle_slot.ensures ∙ ap (λ (it : StoreState). idle_side it.side) left in
    let same : with_commit behind c.idle_slot.result c.in_ok-known.known.items c.in_ok-named.named.extents ≡ committed now c.args.prepared
    = ap (λ (it : StoreState). with_commit it c.idle_slot.result c.in_ok-known.known.items c.in_ok-named.named.extents) left
    ∙ ap (λ (it : Side). with_commit (record { limit = now.limit; side = now.side; known = now.known; named = now.named; tried = now.tried + 1; closed = is_none now.side }) it c.in_ok-known.known.items c.in_ok-named.named.extents) side
    ∙ ap (λ (it : List KnownSegment). with_commit (record { limit = now.limit; side = now.side; known = now.known; named = now.named; tried = now.tried + 1; closed = is_none now.side }) (idle_side now.side) it c.in_ok-named.named.extents) known
    ∙ ap (λ (it : List Extent). with_commit (record { limit = now.limit; side = now.side; known = now.known; named = now.named; tried = now.tried + 1; closed = is_none now.side }) (idle_side now.side) (map known_of c.args.prepared.segments) it) named in
    same

pub returns-clause-done : goal.returns-clause-done
returns-clause-done g c = λ told found own commit keeps.
    let segments : List Planned = c.prepared.inside.segments.items in
    let text : c.in_ok-text.text.items ≡ record_text (record_planned c.prepared.inside.bodies.items c.prepared.inside.dynamic c.prepared.inside.next (all_planned segments))
    = c.in_ok-text.ensures
    ∙ ap (λ (it : List Planned). record_text (record_planned c.prepared.inside.bodies.items c.prepared.inside.dynamic c.prepared.inside.next (all_planned it))) c.as_slice.ensures.value in
    let pieces : map block_piece c.as_slice-6.result.now ≡ written_pieces c.args.prepared
    = ap (map block_piece) c.as_slice-6.ensures.value
    ∙ c.in_ok-blocks.ensures
    ∙ ap (λ (it : List Planned). map piece_of (filter moves (all_planned it)) ++ record { at = c.prepared.inside.record_extent.at; bytes = c.as_slice-5.result.now } ∷ []) c.as_slice-4.ensures.value
    ∙ ap (λ (it : List ℕ). map piece_of (filter moves (all_planned segments)) ++ record { at = c.prepared.inside.record_extent.at; bytes = it } ∷ []) (c.as_slice-5.ensures.value ∙ text)
    ∙ ap written_pieces c.prepared.view_is in
    let is : IsStore c.args.self.now = subst IsStore c.self.view_is c.self.invariant in
    let writing : IsWriting c.args.self.now (map block_piece c.as_slice-6.result.now) c.prepared.inside.record_extent found own (g.D.Disk.image c.args.disk.now)
    = subst (λ (it : List Piece). IsWriting c.args.self.now it c.prepared.inside.record_extent found own (g.D.Disk.image c.args.disk.now)) (sym pieces)
    (subst (λ (it : PreparedState). IsWriting c.args.self.now (written_pieces c.args.prepared) it.record_extent found own (g.D.Disk.image c.args.disk.now)) (sym c.prepared.view_is)
    (writing_is c.args.self.now c.args.prepared found own (g.D.Disk.image c.args.disk.now) is c.requires commit keeps)) in
    let now : StoreState = c.args.self.now in
    let behind : StoreState = record { limit = c.self-2.inside.limit; side = c.self-2.inside.side; known = c.self-2.inside.known.items; named = c.self-2.inside.named.extents; tried = c.self-2.inside.tried; closed = c.self-2.inside.closed } in
    let left : behind ≡ record { limit = now.limit; side = now.side; known = now.known; named = now.named; tried = now.tried + 1; closed = is_none now.side } = c.self-2.view_is ∙ c.in_ok-written.ensures.written in
    let known : c.in_ok-known.known.items ≡ map known_of c.args.prepared.segments
    = c.in_ok-known.ensures ∙ ap (λ (it : List Planned). map known_of (all_planned it)) c.as_slice-3.ensures.value ∙ ap (λ (it : PreparedState). map known_of it.segments) c.prepared.view_is in
    let named : c.in_ok-named.named.extents ≡ c.args.prepared.record_extent ∷ map (λ (segment : PlannedSegment). segment.extent) c.args.prepared.segments
    = c.in_ok-named.ensures
    ∙ ap (λ (it : List Planned). c.prepared.inside.record_extent ∷ map (λ (segment : PlannedSegment). segment.extent) (all_planned it)) c.as_slice-2.ensures.value
    ∙ ap (λ (it : PreparedState). it.record_extent ∷ map (λ (segment : PlannedSegment). segment.extent) it.segments) c.prepared.view_is in
    let side : c.idle_slot.result ≡ idle_side now.side = c.idle_slot.ensures ∙ ap (λ (it : StoreState). idle_side it.side) left in
    let same : with_commit behind c.idle_slot.result c.in_ok-known.known.items c.in_ok-named.named.extents ≡ committed now c.args.prepared
    = ap (λ (it : StoreState). with_commit it c.idle_slot.result c.in_ok-known.known.items c.in_ok-named.named.extents) left
    ∙ ap (λ (it : Side). with_commit (record { limit = now.limit; side = now.side; known = now.known; named = now.named; tried = now.tried + 1; closed = is_none now.side }) it c.in_ok-known.known.items c.in_ok-named.named.extents) side
    ∙ ap (λ (it : List KnownSegment). with_commit (record { limit = now.limit; side = now.side; known = now.known; named = now.named; tried = now.tried + 1; closed = is_none now.side }) (idle_side now.side) it c.in_ok-named.named.extents) known
    ∙ ap (λ (it : List Extent). with_commit (record { limit = now.limit; side = now.side; known = now.known; named = now.named; tried = now.tried + 1; closed = is_none now.side }) (idle_side now.side) (map known_of c.args.prepared.segments) it) named in
    subst
    (λ (it : StoreState). IsStep it found (Some own) (HoldsEither now.limit found own) (g.D.Disk.image c.written.new.disk) (g.D.Disk.moment c.args.disk.now)
    (g.D.Disk.moment c.written.new.disk) (g.D.Disk.image_since c.args.disk.now) (g.D.Disk.image_since c.written.new.disk))
    (sym same)
    (record {
      knows = last_committed now c.args.prepared own c.requires commit;
      step =
          subst
          (λ (it : Bool). Step (IsGood now.limit) found (Some own) it (HoldsEither now.limit found own) (g.D.Disk.image c.written.new.disk) (g.D.Disk.moment c.args.disk.now)
          (g.D.Disk.moment c.written.new.disk) (g.D.Disk.image_since c.args.disk.now) (g.D.Disk.image_since c.written.new.disk))
          (sym writing.first) (c.in_ok-written.ensures.done told found own writing);
    })

pub returns-clause-holds : goal.returns-clause-holds
returns-clause-holds g c = λ told found own commit keeps image there.
    let segments : List Planned = c.prepared.inside.segments.items in
    let text : c.in_ok-text.text.items ≡ record_text (record_planned c.prepared.inside.bodies.items c.prepared.inside.dynamic c.prepared.inside.next (all_planned segments))
    = c.in_ok-text.ensures
    ∙ ap (λ (it : List Planned). record_text (record_planned c.prepared.inside.bodies.items c.prepared.inside.dynamic c.prepared.inside.next (all_planned it))) c.as_slice.ensures.value in
    let pieces : map block_piece c.as_slice-6.result.now ≡ written_pieces c.args.prepared
    = ap (map block_piece) c.as_slice-6.ensures.value
    ∙ c.in_ok-blocks.ensures
    ∙ ap (λ (it : List Planned). map piece_of (filter moves (all_planned it)) ++ record { at = c.prepared.inside.record_extent.at; bytes = c.as_slice-5.result.now } ∷ []) c.as_slice-4.ensures.value
    ∙ ap (λ (it : List ℕ). map piece_of (filter moves (all_planned segments)) ++ record { at = c.prepared.inside.record_extent.at; bytes = it } ∷ []) (c.as_slice-5.ensures.value ∙ text)
    ∙ ap written_pieces c.prepared.view_is in
    let is : IsStore c.args.self.now = subst IsStore c.self.view_is c.self.invariant in
    let writing : IsWriting c.args.self.now (map block_piece c.as_slice-6.result.now) c.prepared.inside.record_extent found own (g.D.Disk.image c.args.disk.now)
    = subst (λ (it : List Piece). IsWriting c.args.self.now it c.prepared.inside.record_extent found own (g.D.Disk.image c.args.disk.now)) (sym pieces)
    (subst (λ (it : PreparedState). IsWriting c.args.self.now (written_pieces c.args.prepared) it.record_extent found own (g.D.Disk.image c.args.disk.now)) (sym c.prepared.view_is)
    (writing_is c.args.self.now c.args.prepared found own (g.D.Disk.image c.args.disk.now) is c.requires commit keeps)) in
    c.in_ok-written.ensures.holds told found own writing image there
