use Rattle.std.proofs.Common.{ℕ, ℤ, ◌<◌, ◌^◌, List, FitsSigned, w64}
use Rattle.std.specs.List.{All}
use Rattle.std.proofs.lemmas.List.Elements.{All-map}
use Rattle.flattener.specs.Seen.{number_seen, word_seen}
use Rattle.segment_builder.proofs.fit.document_fits.Goals as goal

pub returns : goal.returns
returns c = record {
  numbers = All-map (λ (entry : ℕ × List ℤ). All (FitsSigned w64) entry.1) number_seen c.args.document.now.numbers.items (rw c.as_slice.ensures at c.numbers_fit.ensures);
  positions = All-map (λ (word : (ℕ × List ℕ) × List ℕ). All (λ position. position < 2 ^ 32) word.1) word_seen c.args.document.now.words.items (rw c.as_slice-2.ensures.value at c.words_fit.ensures);
}
