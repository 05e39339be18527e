use Rattle.flattener.proofs.Smallness.{accepted_faultless, block_small}
use Rattle.flattener.proofs.law.blocks_are_small.Goals as goal

pub returns : goal.returns
returns c = λ m block is reached fits.
    block_small m block c.words_are_fewer_than_bytes.ensures fits
    (λ o of. record {
      count = λ f. c.values_are_bounded.ensures.count m fits.tree o f of;
      bytes = λ f. c.values_are_bounded.ensures.bytes m fits.tree o f of;
      short = λ f h. c.values_are_bounded.ensures.short m fits.tree o f is reached fits.given.source.0 (accepted_faultless m fits.tree fits.accepted) of h;
    })
