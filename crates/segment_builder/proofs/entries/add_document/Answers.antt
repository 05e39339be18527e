use Rattle.std.proofs.Common.{◌≡◌, ℕ, List, [], ◌∷◌, ◌++◌, length, map, sym, ap, subst, ◌∙◌, arith}
use Rattle.std.proofs.lemmas.List.{map-append}
use Rattle.flattener.specs.Seen.{keyword_seen, number_seen, word_seen}
use Rattle.segment_builder.specs.Members.{by_field, keyword_member, number_member, text_member, word_member, AreAdded, AreGathered}
use Rattle.segment_builder.specs.Parts.{fields_with, tagged}
use Rattle.segment_builder.proofs.Added.{gathered_on}
use Rattle.segment_builder.proofs.entries.add_document.Goals as goal

pub add_numbers-requires : goal.add_numbers-requires
add_numbers-requires c = c.requires.lists.1.numbers.ordered

pub add_keywords-requires : goal.add_keywords-requires
add_keywords-requires c = c.requires.lists.1.keywords.ordered

pub add_words-requires : goal.add_words-requires
add_words-requires c = c.requires.lists.1.words.ordered

pub add_texts-requires : goal.add_texts-requires
add_texts-requires c = c.requires.lists.1.texts.ordered

pub returns-clause-lists : goal.returns-clause-lists
returns-clause-lists c = λ it are.
    let own = c.args.document.now in
    let doc : c.len-doc.result ≡ length it.scopes = omega (arith, c.len-doc.ensures, ap length are.scopes) in
    let numbers : AreAdded number_member (tagged (length it.scopes) (map number_seen own.numbers.items)) c.args.lists.now.numbers.items c.add_numbers.new.into.items = rw (doc, c.as_slice.ensures) at c.in_ok-add_numbers.ensures.added in
    let keywords : AreAdded keyword_member (tagged (length it.scopes) (map keyword_seen own.keywords.items)) c.args.lists.now.keywords.items c.add_keywords.new.into.items = rw (doc, c.as_slice-2.ensures) at c.in_ok-add_keywords.ensures.added in
    let words : AreAdded word_member (by_field (tagged (length it.scopes) (map word_seen own.words.items))) c.args.lists.now.words.items c.add_words.new.into.items = rw (doc, c.as_slice-3.ensures.value) at c.in_ok-add_words.ensures.added in
    let texts : AreAdded text_member (fields_with (length it.scopes) own.texts.items) c.args.lists.now.texts.items c.add_texts.new.into.items = rw (doc, c.as_slice-4.ensures) at c.in_ok-add_texts.ensures.added in
    record {
      scopes = c.in_ok-push.ensures.items ∙ ap (λ scopes. scopes ++ own.scope ∷ []) are.scopes;
      numbers = gathered_on number_member it.numbers _ _ _ are.numbers numbers c.in_ok-add_numbers.ensures.ordered;
      keywords = gathered_on keyword_member it.keywords _ _ _ are.keywords keywords c.in_ok-add_keywords.ensures.ordered;
      words =
          subst (λ entries. AreGathered word_member entries c.add_words.new.into.items)
          (sym (map-append (λ (term : (ℕ × List ℕ) × (ℕ × List ℕ)). (term.0.0, (term.0.1, term.1))) it.words (tagged (length it.scopes) (map word_seen own.words.items))))
          (gathered_on word_member (by_field it.words) _ _ _ are.words words c.in_ok-add_words.ensures.ordered);
      texts = gathered_on text_member it.texts _ _ _ are.texts texts c.in_ok-add_texts.ensures.ordered;
    }
