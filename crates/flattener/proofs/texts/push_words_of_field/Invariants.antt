use Rattle.std.proofs.Common.{◌≡◌, ◌++◌, map}
use Rattle.std.specs.Vec.Iter.{into_iter_items}
use Rattle.flattener.specs.Flat.{words_of_field}
use Rattle.flattener.specs.Placing.{IsOfField, grouped_on}
use Rattle.flattener.specs.Seen.{word_seen}
use Rattle.flattener.proofs.texts.push_words_of_field.Given as goal

abbrev pub invariant-tokens : goal.invariant-tokens
invariant-tokens l =
    (goal.iterator-tokens).can_next l.word-iterator
    × (goal.iterator-tokens).is_finite l.word-iterator
    × (map word_seen l.into.items ++ grouped_on l.field l.current (map (λ t. (t.0.items, t.1)) (into_iter_items l.word-iterator))
    ≡ map word_seen l.fn.into.items ++ words_of_field l.field (map (λ t. (t.0.items, t.1)) l.fn.tokens.items))
    × IsOfField l.field l.current
