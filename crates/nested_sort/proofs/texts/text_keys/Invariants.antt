use Rattle.std.proofs.Common.{◌≡◌, ◌++◌, drop, true, map}
use Rattle.hit_order.specs.Table.{text_or_null}
use Rattle.nested_sort.specs.Documents.{key_of_hit, question_of}
use Rattle.nested_sort.proofs.texts.text_keys.Given as goal

abbrev pub invariant-hits : goal.invariant-hits
invariant-hits l = map text_or_null l.keys ++ map (key_of_hit true l.entries (question_of l.asked)) (drop l.hit-index l.hits) ≡ map (key_of_hit true l.entries (question_of l.asked)) l.hits
