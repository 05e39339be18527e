use Rattle.std.proofs.Common.{◌≡◌, ℕ, ◌+◌, ◌≤◌, true, List, [], ◌++◌, map, sym, ap, subst, ◌∙◌, arith}
use Rattle.std.specs.List.{AllByRecursion}
use Rattle.term_table.specs.Keys.{number_key}
use Rattle.term_table.specs.Terms.{term_cmp}
use Rattle.segment_builder.specs.Groups.{groups_seen, keys, of_key}
use Rattle.segment_builder.specs.Made.{all_terms}
use Rattle.segment_builder.specs.Members.{by_field, keyword_member, number_member, word_member}
use Rattle.segment_builder.specs.Terms.{at_field, fields_in, keyword_entries, keyword_fields, keyword_terms, number_entries, number_fields, number_terms, word_fields, AreAllRising}
use Rattle.segment_builder.proofs.Added.{fields_are, in_seen}
use Rattle.segment_builder.proofs.Carried.{at_values, field_keys, fields_by, keywords_carry, numbers_carry, words_carry}
use Rattle.segment_builder.proofs.Fielded.{bytes_cmp}
use Rattle.segment_builder.proofs.Grown.{of_append}
use Rattle.segment_builder.proofs.Keys.{split}
use Rattle.segment_builder.proofs.Mixed.{rows_mixed, times, times_both, times_none, times_once}
use Rattle.segment_builder.proofs.assemble.sorted_terms.Goals as goal

pub returns : goal.returns
returns c = λ it are apart.
    let words = c.args.words.items in
    let keywords = c.args.keywords.now in
    let numbers = c.args.numbers.now in
    let one = c.in_ok-add_words.ensures in
    let two = c.in_ok-add_keywords.ensures in
    let three = c.in_ok-add_numbers.ensures in
    let none : fields_in c.new-fields.result.items ≡ [] = ap fields_in c.new-fields.ensures.items in
    let own_words : (f : ℕ) (b : List ℕ) → at_field f b (word_fields words) ≡ of_key term_cmp (f, b) it.words =
    λ f b. ap (of_key bytes_cmp b) (in_seen word_member f words ∙ are.words_are.carry f) ∙ words_carry f b it.words in
    let own_keywords : (f : ℕ) (b : List ℕ) → at_field f b (keyword_fields keywords) ≡ of_key term_cmp (f, b) (keyword_terms it.keywords) =
    λ f b. at_values (λ values. values) keyword_member f b keywords ∙ ap (λ rows. of_key bytes_cmp b (keyword_entries rows)) (are.keywords_are.carry f) ∙ keywords_carry f b it.keywords in
    let own_numbers : (f : ℕ) (b : List ℕ) → at_field f b (number_fields numbers) ≡ of_key term_cmp (f, b) (number_terms it.numbers) =
    λ f b. at_values (λ values. map number_key values) number_member f b numbers ∙ ap (λ rows. of_key bytes_cmp b (number_entries rows)) (are.numbers_are.carry f) ∙ numbers_carry f b it.numbers in
    let carry : (f : ℕ) (b : List ℕ) → at_field f b (fields_in c.add_numbers.new.into.items) ≡ of_key term_cmp (f, b) (all_terms it) =
    λ f b.
    let w = of_key term_cmp (f, b) it.words in
    let k = of_key term_cmp (f, b) (keyword_terms it.keywords) in
    let n = of_key term_cmp (f, b) (number_terms it.numbers) in
    let first : at_field f b (fields_in c.add_words.new.into.items) ≡ w = one.carry f b ∙ ap (λ fields. at_field f b fields ++ at_field f b (word_fields words)) none ∙ own_words f b in
    let second : at_field f b (fields_in c.add_keywords.new.into.items) ≡ w ++ k = two.carry f b ∙ ap (λ front. front ++ at_field f b (keyword_fields keywords)) first ∙ ap (λ last. w ++ last) (own_keywords f b) in
    three.carry f b
    ∙ ap (λ front. front ++ at_field f b (number_fields numbers)) second
    ∙ ap (λ last. (w ++ k) ++ last) (own_numbers f b)
    ∙ sym (of_append term_cmp (f, b) (it.words ++ keyword_terms it.keywords) (number_terms it.numbers) ∙ ap (λ front. front ++ n) (of_append term_cmp (f, b) it.words (keyword_terms it.keywords))) in
    let ws = keys (groups_seen words) in
    let ks = keys (groups_seen keywords) in
    let ns = keys (groups_seen numbers) in
    let fields : keys (fields_in c.add_numbers.new.into.items) ≡ (ws ++ ks) ++ ns =
    three.fields
    ∙ ap (λ front. front ++ keys (number_fields numbers)) (two.fields ∙ ap (λ front. front ++ keys (keyword_fields keywords)) (one.fields ∙ ap (λ fields. keys fields ++ keys (word_fields words)) none))
    ∙ ap (λ own. (own ++ keys (keyword_fields keywords)) ++ keys (number_fields numbers)) (field_keys _ words)
    ∙ ap (λ own. (ws ++ own) ++ keys (number_fields numbers)) (field_keys _ keywords)
    ∙ ap (λ own. (ws ++ ks) ++ own) (field_keys _ numbers) in
    let of_words : AllByRecursion (λ field. apart.is_word field ≡ true) ws = fields_are word_member apart.is_word (by_field it.words) words are.words_are (fields_by apart.is_word it.words apart.words_are) in
    let of_keywords : AllByRecursion (λ field. apart.is_keyword field ≡ true) ks = fields_are keyword_member apart.is_keyword it.keywords keywords are.keywords_are apart.keywords_are in
    let of_numbers : AllByRecursion (λ field. apart.is_number field ≡ true) ns = fields_are number_member apart.is_number it.numbers numbers are.numbers_are apart.numbers_are in
    let once : (f : ℕ) → times f (keys (fields_in c.add_numbers.new.into.items)) ≤ 1 =
    λ f.
    let sum : times f (keys (fields_in c.add_numbers.new.into.items)) ≡ (times f ws + times f ks) + times f ns = ap (times f) fields ∙ times_both f (ws ++ ks) ns ∙ ap (λ n. n + times f ns) (times_both f ws ks) in
    split (apart.is_word f)
    (λ word. omega (arith, sum, times_once f ws are.words_are.ordered.ascending, times_none apart.is_keyword f ks of_keywords (apart.words_alone f word).0, times_none apart.is_number f ns of_numbers (apart.words_alone f word).1))
    (λ no_word.
    split (apart.is_keyword f)
    (λ key. omega (arith, sum, times_none apart.is_word f ws of_words no_word, times_once f ks are.keywords_are.ordered.ascending, times_none apart.is_number f ns of_numbers (apart.keywords_alone f key)))
    (λ no_key. omega (arith, sum, times_none apart.is_word f ws of_words no_word, times_none apart.is_keyword f ks of_keywords no_key, times_once f ns are.numbers_are.ordered.ascending))) in
    rows_mixed (all_terms it) c.add_numbers.new.into.items c.sort.new.entries.items carry once (three.rising (two.rising (one.rising (subst AreAllRising (sym none) tt)))) c.in_ok-sort.ensures.same c.in_ok-sort.ensures.rising
