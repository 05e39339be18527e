use Rattle.std.proofs.Common.{◌<◌, length, rules, refl, arith}
use Rattle.block_bits.proofs.Marks.{len_is}
use Rattle.block_bits.proofs.Ranges.{IsCleared, cleared_first, cleared_more, value-cleared, tight-cleared}
use Rattle.block_bits.proofs.bit_set.BitSet.clear_range.Goals as goal

pub words-init : goal.words-init
words-init c = record {
  so_far = cleared_first c.args.from c.args.end c.self.inside.words.items;
  same_len = refl;
  view = c.self.view_is;
  tight = c.self.invariant;
}

pub index_mut-requires : goal.index_mut-requires
index_mut-requires c =
    omega (arith, c.words-test.true, c.div_ceil-place-end.ensures, c.requires.within, len_is _ _ _ c.words.invariant.view, c.words.invariant.tight.long, c.words.invariant.so_far.long, c.words.self-inside.words.ok.0)

pub words-preserved : goal.words-preserved
words-preserved c =
    let there : c.words.place < length c.words.self-inside.words.items =
    omega (arith, c.words-test.true, c.div_ceil-place-end.ensures, c.requires.within, len_is _ _ _ c.words.invariant.view, c.words.invariant.tight.long, c.words.invariant.so_far.long) in
    record {
      so_far = cleared_more c.args.from c.args.end c.self.inside.words.items c.words.self-inside.words.items c.words.place c.index_mut.result.now c.range_word-taken.result
          there (search rules) c.index_mut.ensures.value c.range_word-taken.ensures c.words.invariant.so_far;
      same_len = c.words.invariant.same_len;
      view = c.words.invariant.view;
      tight = c.words.invariant.tight;
    }

-- all words of the range were written
whole : (c : goal.After-words) → IsCleared c.args.from c.args.end c.self.inside.words.items c.words.self-inside.words.items c.self.inside.len c.words.place c.args.self.now
whole c = record {
  view = c.words.invariant.view;
  tight = c.words.invariant.tight;
  ordered = c.requires.ordered;
  within = c.requires.within;
  up_to = omega (arith, c.words-test.false, c.div_ceil-place-end.ensures);
  so_far = c.words.invariant.so_far;
}

pub invariant_of-self : goal.invariant_of-self
invariant_of-self c = rw c.words.invariant.same_len (tight-cleared _ _ _ _ _ _ _ (whole c))

pub returns : goal.returns
returns c = rw c.words.invariant.same_len (value-cleared _ _ _ _ _ _ _ (whole c))
