use Rattle.std.proofs.Common.{true, ◌++◌, ◌∷◌, [], map, refl, ap, ◌∙◌}
use Rattle.hit_order.specs.Table.{text_or_null}
use Rattle.nested_sort.specs.Documents.{key_in, question_of}
use Rattle.nested_sort.proofs.Entries.{filters_at, hit_key}
use Rattle.nested_sort.proofs.texts.push_key.Goals as goal

pub push_key_in-requires-clause-found : goal.push_key_in-requires-clause-found
push_key_in-requires-clause-found c =
    filters_at c.args.entries.now c.args.asked.now.filters.now c.args.hit.place c.args.hit.doc c.index-entries-place.result c.segment-segment.result.now c.requires.found c.requires.doc c.index-entries-place.is c.segment-segment.ensures

pub returns : goal.returns
returns c =
    c.in_ok-push_key_in.ensures
    ∙ ap (λ key. map text_or_null c.args.keys.now ++ key ∷ [])
    (hit_key true c.args.entries.now (question_of c.args.asked.now) c.args.hit c.index-entries-place.result c.segment-segment.result.now
    (key_in true c.segment-segment.result.now c.args.hit.place (question_of c.args.asked.now) c.args.hit.doc) c.requires.doc c.index-entries-place.is c.segment-segment.ensures refl)
