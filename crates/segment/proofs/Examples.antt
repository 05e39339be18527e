-- The segment of one document by hand, in both forms: a root with the id `1`, the number 0 and the source `{"k":"a"}`, where
-- field 0 is a keyword field. The bytes are those of docs/STORE.md.
use Rattle.std.proofs.Common.{◌≡◌, true, [], ◌∷◌, refl}
use Rattle.block_bits.specs.Words.{words_of}
use Rattle.part_text.specs.Text.{u32_text, u64_text}
use Rattle.stored_sources.specs.declared.root.Join.TheVariants.{Unjoined}
use Rattle.segment_parts.specs.Text.{head_text, rows_part, ordinals_text, numbers_text, present_text, segment_text}
use Rattle.segment.specs.Old.{old_text}
use Rattle.segment_parts.specs.declared.columns.Columns.{Columns}

one : Columns
one = record {
  documents = 1;
  scopes = (true ∷ []) ∷ [];
  roots = record { id = 49 ∷ []; number = 0; generation = 1; source = 123 ∷ 34 ∷ 107 ∷ 34 ∷ 58 ∷ 34 ∷ 97 ∷ 34 ∷ 125 ∷ []; join = Unjoined } ∷ [];
  terms = record { term = (0, 97 ∷ []); postings = (0, []) ∷ [] } ∷ [];
  ordinals = (0, (0, 0 ∷ []) ∷ []) ∷ [];
  numbers = [];
  present = [];
}

today : segment_text one ≡ 83 ∷ 69 ∷ 71 ∷ 50 ∷ 1 ∷ 0 ∷ 0 ∷ 0 ∷ 1 ∷ 0 ∷ 0 ∷ 0 ∷ 1 ∷ 0 ∷ 0 ∷ 0 ∷ 0 ∷ 0 ∷ 0 ∷ 0 ∷ 1 ∷ 0 ∷ 0 ∷ 0 ∷ 49 ∷ 0 ∷ 0 ∷ 0 ∷ 0 ∷ 0 ∷ 0 ∷ 0 ∷ 0 ∷ 1 ∷ 0 ∷ 0 ∷ 0 ∷ 9 ∷ 0 ∷ 0 ∷ 0 ∷ 123 ∷ 34 ∷ 107 ∷ 34 ∷ 58 ∷ 34 ∷ 97 ∷ 34 ∷ 125 ∷ 0 ∷ 1 ∷ 0 ∷ 0 ∷ 0 ∷ 0 ∷ 0 ∷ 0 ∷ 0 ∷ 0 ∷ 0 ∷ 0 ∷ 0 ∷ 1 ∷ 0 ∷ 0 ∷ 0 ∷ 97 ∷ 1 ∷ 0 ∷ 0 ∷ 0 ∷ 0 ∷ 0 ∷ 0 ∷ 0 ∷ 0 ∷ 0 ∷ 0 ∷ 0 ∷ 1 ∷ 0 ∷ 0 ∷ 0 ∷ 0 ∷ 0 ∷ 0 ∷ 0 ∷ 1 ∷ 0 ∷ 0 ∷ 0 ∷ 0 ∷ 0 ∷ 0 ∷ 0 ∷ 1 ∷ 0 ∷ 0 ∷ 0 ∷ 0 ∷ 0 ∷ 0 ∷ 0 ∷ 0 ∷ 0 ∷ 0 ∷ 0 ∷ 0 ∷ 0 ∷ 0 ∷ 0 ∷ 0 ∷ 0 ∷ 0 ∷ 0 ∷ []
unfolding segment_text head_text rows_part ordinals_text numbers_text present_text words_of u32_text u64_text one
today = refl

older : old_text one 0 ≡ 83 ∷ 69 ∷ 71 ∷ 49 ∷ 1 ∷ 0 ∷ 0 ∷ 0 ∷ 1 ∷ 0 ∷ 0 ∷ 0 ∷ 1 ∷ 0 ∷ 0 ∷ 0 ∷ 0 ∷ 0 ∷ 0 ∷ 0 ∷ 1 ∷ 0 ∷ 0 ∷ 0 ∷ 49 ∷ 0 ∷ 0 ∷ 0 ∷ 0 ∷ 0 ∷ 0 ∷ 0 ∷ 0 ∷ 9 ∷ 0 ∷ 0 ∷ 0 ∷ 123 ∷ 34 ∷ 107 ∷ 34 ∷ 58 ∷ 34 ∷ 97 ∷ 34 ∷ 125 ∷ 0 ∷ 1 ∷ 0 ∷ 0 ∷ 0 ∷ 0 ∷ 0 ∷ 0 ∷ 0 ∷ 0 ∷ 0 ∷ 0 ∷ 0 ∷ 1 ∷ 0 ∷ 0 ∷ 0 ∷ 97 ∷ 1 ∷ 0 ∷ 0 ∷ 0 ∷ 0 ∷ 0 ∷ 0 ∷ 0 ∷ 0 ∷ 0 ∷ 0 ∷ 0 ∷ 1 ∷ 0 ∷ 0 ∷ 0 ∷ 0 ∷ 0 ∷ 0 ∷ 0 ∷ 1 ∷ 0 ∷ 0 ∷ 0 ∷ 0 ∷ 0 ∷ 0 ∷ 0 ∷ 1 ∷ 0 ∷ 0 ∷ 0 ∷ 0 ∷ 0 ∷ 0 ∷ 0 ∷ 0 ∷ 0 ∷ 0 ∷ 0 ∷ 0 ∷ 0 ∷ 0 ∷ 0 ∷ 0 ∷ 0 ∷ 0 ∷ 0 ∷ []
unfolding old_text ordinals_text numbers_text present_text words_of u32_text u64_text one
older = refl
