use Rattle.std.proofs.Common.{◌++◌, length, take, drop, sym, ap, ◌∙◌, arith}
use Rattle.std.specs.List.{prefix_len}
use Rattle.std.proofs.lemmas.List.Sums.{prefix_len-le-length}
use Rattle.extent_pool.specs.Changes.{ends_before, in_front}
use Rattle.extent_pool.proofs.Places.{freed_at, length-freed}
use Rattle.extent_pool.proofs.holes.release.Goals as goal

pub join_before-start-requires-clause-place : goal.join_before-start-requires-clause-place
join_before-start-requires-clause-place c =
    let place_is = c.first_ending_from-place.ensures ∙ ap (prefix_len (ends_before c.args.at)) c.as_slice.ensures in
    omega (arith, place_is, prefix_len-le-length (ends_before c.args.at) c.args.holes.now.extents)

pub put_joined-requires-clause-room : goal.put_joined-requires-clause-room
put_joined-requires-clause-room c =
    let place_is = c.first_ending_from-place.ensures ∙ ap (prefix_len (ends_before c.args.at)) c.as_slice.ensures in
    let long = length-freed c.args.at c.args.end c.first_ending_from-place.result c.args.holes.now.extents place_is in
    let joined = ap length (c.join_before-start.ensures.joined c.args.end) in
    omega (arith, long, joined)

pub returns-clause-extents : goal.returns-clause-extents
returns-clause-extents c =
    let place = c.first_ending_from-place.result in
    let place_is = c.first_ending_from-place.ensures ∙ ap (prefix_len (ends_before c.args.at)) c.as_slice.ensures in
    let back = in_front c.join_before-start.result c.args.end (drop place c.join_before-start.new.holes.extents) in
    c.put_joined.ensures.extents
    ∙ (ap (λ xs. xs ++ back) c.join_before-start.ensures.front
    ∙ (ap (λ xs. take place c.args.holes.now.extents ++ xs) (c.join_before-start.ensures.joined c.args.end)
    ∙ sym (freed_at c.args.at c.args.end place c.args.holes.now.extents place_is)))
