use Rattle.std.proofs.Common.{take, ◌<◌, ◌^◌}
use Rattle.std.specs.List.{All}
use Rattle.segment_builder.proofs.fit.words_fit.Given as goal

abbrev pub invariant-words : goal.invariant-words
invariant-words l =
    All (λ word. All (λ position. position < 2 ^ 32) word.positions.items) (take l.word-index l.words)
