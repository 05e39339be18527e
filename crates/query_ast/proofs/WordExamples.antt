-- Words of texts at work: `match`, `match_phrase` and `term` on a text field.
use Rattle.std.specs.Prelude.{◌≡◌, ℕ, pos, true, false, List as Seq, [], ◌∷◌, ◌++◌, map, codes, Some, refl}
use Rattle.unicode_segmentation.proofs.Computing.{unicode_segmentation}
use Rattle.caseless.proofs.Computing.{caseless}
use Rattle.analysis.specs.Words.{words, folded}
use Rattle.tree_json.specs.Value.{text}
use Rattle.tree_objects.specs.Tree.{Tree}
use Rattle.query_ast.specs.Clause.{Clause, Test, leaf, to_child, on_field, is_among, begins_with, has_words, has_phrase}
use Rattle.query_ast.proofs.Samples.{searches, tree, an_object, a_list, priced, name, color, word, term, both, within, find}

-- Straße, whose fifth letter has two bytes
abbrev strasse : Seq ℕ
strasse = codes "Stra" ++ (195 ∷ 159 ∷ codes "e")

abbrev named : Tree
named = tree (codes "1") 0 (an_object (
    (codes "name", a_list (text (codes "The Oak CHAIR") ∷ text strasse ∷ []))
    ∷ (codes "offers", a_list (priced (codes "red") (pos 5) ∷ [])) ∷ []))

abbrev on_name : Test → Clause
on_name test = leaf (on_field (Some name) test) 1

abbrev hit_once : Seq (Seq ℕ × ℕ)
hit_once = (codes "1", 1) ∷ []

-- `or`, whatever the case; and all of several words, from two values
words_match : map (λ test. find (named ∷ []) (on_name test))
    (has_words (word (codes "chair")) false ∷ has_words (word (codes "STRASSE")) false ∷ has_words (word (codes "oak strasse")) true
    ∷ has_words (word (codes "oak table")) true ∷ has_words (word (codes "!")) false ∷ [])
    ≡ hit_once ∷ hit_once ∷ hit_once ∷ [] ∷ [] ∷ []
unfolding searches words folded unicode_segmentation caseless
words_match = refl

-- neighbours in one value
phrases_match : map (λ text. find (named ∷ []) (on_name (has_phrase (word text))))
    (codes "oak chair" ∷ codes "the chair" ∷ codes "chair strasse" ∷ codes "!" ∷ []) ≡ hit_once ∷ [] ∷ [] ∷ [] ∷ []
unfolding searches words folded unicode_segmentation caseless
phrases_match = refl

-- `term` and `prefix` ask for a word as it is in the index
words_as_they_are : map (λ test. find (named ∷ []) (on_name test))
    (is_among (word (codes "chair") ∷ []) ∷ is_among (word (codes "CHAIR") ∷ []) ∷ begins_with (codes "oa") ∷ []) ≡ hit_once ∷ [] ∷ hit_once ∷ []
unfolding searches words folded unicode_segmentation caseless
words_as_they_are = refl

-- a field of the root shows nothing inside an offer
not_inside : find (named ∷ []) (within 1 (on_name (has_words (word (codes "chair")) false))) ≡ []
unfolding searches words folded unicode_segmentation caseless
not_inside = refl

but_around_it : find (named ∷ []) (within 1 (both (term color (word (codes "red"))) (to_child (Some 0) (on_name (has_words (word (codes "chair")) false))))) ≡ (codes "1", 2) ∷ []
unfolding searches words folded unicode_segmentation caseless
but_around_it = refl
