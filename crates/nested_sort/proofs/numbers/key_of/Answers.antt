use Rattle.std.proofs.Common.{false}
use Rattle.hit_order.specs.Table.{number_or_null}
use Rattle.nested_sort.specs.Documents.{question_of}
use Rattle.nested_sort.proofs.Entries.{filters_at, hit_key}
use Rattle.nested_sort.proofs.numbers.key_of.Goals as goal

pub key_in-requires-clause-found : goal.key_in-requires-clause-found
key_in-requires-clause-found c =
    filters_at c.args.entries.now c.args.asked.now.filters.now c.args.hit.place c.args.hit.doc c.index-entries-place.result c.segment-segment.result.now c.requires.found c.requires.doc c.index-entries-place.is c.segment-segment.ensures

pub returns : goal.returns
returns c =
    hit_key false c.args.entries.now (question_of c.args.asked.now) c.args.hit c.index-entries-place.result c.segment-segment.result.now (number_or_null c.in_ok-key_in.field-0) c.requires.doc c.index-entries-place.is c.segment-segment.ensures c.in_ok-key_in.ensures
