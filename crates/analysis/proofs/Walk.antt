-- The loop that makes the tokens of a text, word by word.
use Rattle.std.proofs.Common.{◌≡◌, ℕ, ◌+◌, ◌≤◌, List, [], ◌∷◌, ◌++◌, length, map, IsUtf8, append_assoc, append-nil, sym, ap, ◌∙◌, arith}
use Rattle.std.proofs.lemmas.List.{length-map, map-append}
use Rattle.std.specs.List.{range_with_len}
use Rattle.unicode_segmentation.specs.Word.{words as unfolded_words}
use Rattle.analysis.specs.declared.token_list.Token.{Token}
use Rattle.analysis.specs.Words.{folded, words}
use Rattle.analysis.proofs.Placed.{StandBetween, placed_words, earlier, placed_words_stand, few_placed_words}
use Rattle.analysis.proofs.TokenLemmas.{tokens_from}
use Rattle.analysis.proofs.Fewer.{words_fewer}

-- these tokens have been made, and these words are left
pub record IsUnderWay (text : List ℕ) (done : List Token) (position : ℕ) (left : List (ℕ × List ℕ)) : Type 0 where
  pub so_far : done ++ tokens_from position left ≡ tokens_from 0 (placed_words text)
  pub few : position + length left ≤ length text
  pub ahead : StandBetween text 0 (length text) left

pub started : (text : List ℕ) (left : List (ℕ × List ℕ)) → IsUtf8 text → left ≡ placed_words text → IsUnderWay text [] 0 left
started text left utf8 same = record {
  so_far = ap (tokens_from 0) same;
  few = omega (arith, ap length same, few_placed_words text utf8);
  ahead = rw same (placed_words_stand text utf8);
}

pub one_more : (text : List ℕ) (done : List Token) (position : ℕ) (left rest : List (ℕ × List ℕ)) (word : ℕ × List ℕ) (token : Token) → left ≡ word ∷ rest → IsUnderWay text done position left
    → token ≡ record { folded = folded word.1; from = word.0; to = word.0 + length word.1; position = position } → IsUnderWay text (done ++ token ∷ []) (position + 1) rest
one_more text done position left rest word token first way same =
    let ahead = rw first at way.ahead in
    let few = rw first at way.few in
    let so_far = rw first at way.so_far in record {
      so_far = rw same (append_assoc done _ _ ∙ so_far);
      few = omega arith;
      ahead = earlier text 0 _ _ rest (omega arith) ahead.3;
    }

pub ended : (text : List ℕ) (done : List Token) (position : ℕ) (left : List (ℕ × List ℕ)) → left ≡ [] → IsUnderWay text done position left → done ≡ tokens_from 0 (placed_words text)
ended text done position left none way = sym (append-nil done) ∙ rw none at way.so_far

-- ---- words with numbers

-- to a list of words with numbers these have been added, and these words of the text are left
module _ {X : Type 0} (word_of : X → List ℕ) (number_of : X → ℕ) (text : List ℕ) (from : ℕ) (old : List X) where
  pub record ArePushed (done : List X) (number : ℕ) (left : List (List ℕ)) : Type 0 where
    pub by_word : map word_of done ++ map folded left ≡ map word_of old ++ words text
    pub by_number : map number_of done ++ range_with_len number (length left) ≡ map number_of old ++ range_with_len from (length (words text))
    pub count : number + length left ≡ from + length (words text)
    pub few : number + length left ≤ from + length text

  pub none_pushed : (left : List (List ℕ)) → left ≡ unfolded_words text → ArePushed old from left
  unfolding words
  none_pushed left same =
      let all : length left ≡ length (words text) = ap length same ∙ sym (length-map (unfolded_words text) folded) in record {
        by_word = ap (λ ws. map word_of old ++ map folded ws) same;
        by_number = ap (λ n. map number_of old ++ range_with_len from n) all;
        count = omega (arith, all);
        few = omega (arith, all, words_fewer text);
      }

  pub one_pushed : (done : List X) (number : ℕ) (left rest : List (List ℕ)) (word : List ℕ) (new : X) → left ≡ word ∷ rest
      → word_of new ≡ folded word → number_of new ≡ number → ArePushed done number left → ArePushed (done ++ new ∷ []) (number + 1) rest
  one_pushed done number left rest word new first same counted are =
      let so_far = rw first at are.by_word in
      let counted_so = rw first at are.by_number in
      let counted_all = rw first at are.count in
      let less = rw first at are.few in record {
        by_word = rw (map-append word_of done (new ∷ []), append_assoc (map word_of done) (word_of new ∷ []) (map folded rest), same) so_far;
        by_number = rw (map-append number_of done (new ∷ []), append_assoc (map number_of done) (number_of new ∷ []) (range_with_len (number + 1) (length rest)), counted) counted_so;
        count = omega (arith, counted_all);
        few = omega (arith, less);
      }

  pub all_words : (done : List X) (number : ℕ) (left : List (List ℕ)) → left ≡ [] → ArePushed done number left → map word_of done ≡ map word_of old ++ words text
  all_words done number left none are = sym (append-nil (map word_of done)) ∙ rw none at are.by_word

  pub all_numbers : (done : List X) (number : ℕ) (left : List (List ℕ)) → left ≡ [] → ArePushed done number left → map number_of done ≡ map number_of old ++ range_with_len from (length (words text))
  all_numbers done number left none are = sym (append-nil (map number_of done)) ∙ rw none at are.by_number

  pub all_counted : (done : List X) (number : ℕ) (left : List (List ℕ)) → left ≡ [] → ArePushed done number left → number ≡ from + length (words text)
  all_counted done number left none are = let counted_all = rw none at are.count in omega (arith, counted_all)

pub ruleset pushing = (none_pushed, one_pushed, all_words, all_numbers, all_counted, words_fewer)
