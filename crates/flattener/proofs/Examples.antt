-- The definitions at work on mappings and sources: what they compute is what the rules say.
use Rattle.std.proofs.Common.{◌≡◌, ◌==◌, ℕ, pos, List as Seq, [], ◌∷◌, ◌++◌, map, cond, codes, refl, true, false}
use Rattle.tree_json.specs.Value.{JsonValue, bool, whole, text, list, object, elements_of, members_of}
use Rattle.mapping_growth.specs.Fields.{drafts_of}
use Rattle.mapping_growth.specs.Relations.{relations_of}
use Rattle.mapping.specs.Mapping.{Mapping, mapping_of, included}
use Rattle.tree_objects.specs.Object.{block_objects, below, given, way}
use Rattle.tree_objects.specs.Tree.{Tree}
use Rattle.tree_objects.specs.Values.{convert}
use Rattle.flattener.specs.Flat.{tokens_by, words_of_field}
use Rattle.flattener.specs.Block.{flats_of_tree}

abbrev typed : Seq ℕ → JsonValue
typed kind = object (members_of ((codes "type", text kind) ∷ []))

abbrev nested : Seq (Seq ℕ × JsonValue) → JsonValue
nested ps = object (members_of ((codes "properties", object (members_of ps)) ∷ (codes "type", text (codes "nested")) ∷ []))

abbrev body_of : Seq (Seq ℕ × JsonValue) → JsonValue
body_of ps = object (members_of ((codes "properties", object (members_of ps)) ∷ []))

-- ---- offers with stocks: the stocks of an offer stand before it, and the root is last

abbrev stock : JsonValue
stock = nested ((codes "n", typed (codes "long")) ∷ (codes "site", typed (codes "keyword")) ∷ [])

abbrev offers : JsonValue
offers = nested ((codes "color", typed (codes "keyword")) ∷ (codes "stock", stock) ∷ [])

abbrev stores : Mapping
stores = mapping_of (body_of ((codes "offers", offers) ∷ []) ∷ []) false

abbrev stocked : ℕ → Seq ℕ → JsonValue
stocked n site = object (members_of ((codes "n", whole (pos n)) ∷ (codes "site", text site) ∷ []))

abbrev offered : Seq ℕ → Seq JsonValue → JsonValue
offered color stocks = object (members_of ((codes "color", text color) ∷ (codes "stock", list (elements_of stocks)) ∷ []))

abbrev offers_tree : Tree
offers_tree = record {
  id = codes "1";
  number = 0;
  source = object (members_of ((
    codes "offers",
    list (elements_of (
        offered (codes "red") (stocked 1 (codes "a") ∷ stocked 2 (codes "b") ∷ [])
        ∷ offered (codes "blue") (stocked 1 (codes "b") ∷ []) ∷ [])),
  ) ∷ []));
  generation = 1;
}

scopes_of_block : map (λ d. d.scope) (flats_of_tree stores offers_tree) ≡ 2 ∷ 2 ∷ 1 ∷ 2 ∷ 1 ∷ 0 ∷ []
unfolding drafts_of relations_of flats_of_tree block_objects given
scopes_of_block = refl

-- fields 1 and 4 are the color and the site
keywords_of_block : map (λ d. d.keywords) (flats_of_tree stores offers_tree)
    ≡ ((4, codes "a" ∷ []) ∷ []) ∷ ((4, codes "b" ∷ []) ∷ []) ∷ ((1, codes "red" ∷ []) ∷ [])
    ∷ ((4, codes "b" ∷ []) ∷ []) ∷ ((1, codes "blue" ∷ []) ∷ []) ∷ [] ∷ []
unfolding drafts_of relations_of flats_of_tree block_objects given convert included
keywords_of_block = refl

-- field 3 is the number
numbers_of_block : map (λ d. d.numbers) (flats_of_tree stores offers_tree)
    ≡ ((3, pos 1 ∷ []) ∷ []) ∷ ((3, pos 2 ∷ []) ∷ []) ∷ [] ∷ ((3, pos 1 ∷ []) ∷ []) ∷ [] ∷ [] ∷ []
unfolding drafts_of relations_of flats_of_tree block_objects given convert included
numbers_of_block = refl

-- ---- a nested path that the root includes: the root's values ascend

abbrev in_root : JsonValue
in_root = object (members_of (
    (codes "include_in_root", bool true)
    ∷ (codes "properties", object (members_of ((codes "k", typed (codes "keyword")) ∷ [])))
    ∷ (codes "type", text (codes "nested")) ∷ []))

abbrev included_mapping : Mapping
included_mapping = mapping_of (body_of ((codes "a", in_root) ∷ []) ∷ []) false

abbrev named : Seq ℕ → JsonValue
named k = object (members_of ((codes "k", text k) ∷ []))

abbrev included_tree : Tree
included_tree = record {
  id = codes "1";
  number = 0;
  source = object (members_of ((codes "a", list (elements_of (named (codes "y") ∷ named (codes "x") ∷ []))) ∷ []));
  generation = 1;
}

included_values : map (λ d. d.keywords) (flats_of_tree included_mapping included_tree)
    ≡ ((1, codes "y" ∷ []) ∷ []) ∷ ((1, codes "x" ∷ []) ∷ []) ∷ ((1, codes "x" ∷ codes "y" ∷ []) ∷ []) ∷ []
unfolding drafts_of relations_of flats_of_tree block_objects given convert included below way
included_values = refl

-- ---- positions, where the words of a text are what stands between its blanks

abbrev word_before : Seq ℕ → Seq (Seq ℕ) → Seq (Seq ℕ)
word_before [] words = words
word_before (byte ∷ word) words = (byte ∷ word) ∷ words

abbrev between_blanks : Seq ℕ → Seq ℕ → Seq (Seq ℕ)
between_blanks word [] = word_before word []
between_blanks word (byte ∷ rest) = cond (byte == 32) (word_before word (between_blanks [] rest)) (between_blanks (word ++ byte ∷ []) rest)

-- the words of a second value stand 100 behind the end of those before
positions : tokens_by (between_blanks []) (codes "the oak chair" ∷ codes "strasse" ∷ [])
    ≡ (codes "the", 0) ∷ (codes "oak", 1) ∷ (codes "chair", 2) ∷ (codes "strasse", 103) ∷ []
positions = refl

-- a value without words moves nothing, but for that the next one isn't the first
positions_past_nothing : tokens_by (between_blanks []) ([] ∷ codes "a b" ∷ [] ∷ codes "c" ∷ [])
    ≡ (codes "a", 100) ∷ (codes "b", 101) ∷ (codes "c", 202) ∷ []
positions_past_nothing = refl

-- a word that comes twice is one, with its positions
words_together : words_of_field 7 ((codes "b", 0) ∷ (codes "a", 1) ∷ (codes "b", 101) ∷ [])
    ≡ ((7, codes "a"), 1 ∷ []) ∷ ((7, codes "b"), 0 ∷ 101 ∷ []) ∷ []
words_together = refl
