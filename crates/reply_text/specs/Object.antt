-- The texts of lists and objects, from the texts of what stands in them: compact JSON, an object's names in byte order.
-- The entries of an object are pairs of a name and the text of its value, so that a text that is kept stands in as it is.
use Rattle.std.specs.Prelude.{ℕ, List, [], ◌∷◌, ◌++◌, Bool, true, false, codes}
use Rattle.std.specs.Ordering.{nat_cmp}
use Rattle.std.specs.declared.cmp.Ordering.{Ordering}
use Rattle.std.specs.declared.cmp.Ordering.TheVariants.{Less, Equal, Greater}
use Rattle.std.specs.Cmp.Lexicographic.{slice_cmp}
use Rattle.tree_json.specs.Text.{quoted, comma_if}

-- a name, and the text of its value
abbrev pub Entry : Type 0
Entry = List ℕ × List ℕ

abbrev pub entry : List ℕ → List ℕ → Entry
entry name value = (name, value)

abbrev pub entry_text : Entry → List ℕ
entry_text e = quoted e.0 ++ (codes ":" ++ e.1)

-- entries one after the other; `later` says that something stands before in the same object
abbrev pub entries_text : Bool → List Entry → List ℕ
entries_text later [] = []
entries_text later (e ∷ es) = comma_if later ++ (entry_text e ++ entries_text true es)

-- by which of two names comes first in byte order
abbrev pub by_order : {A : Type 0} → Ordering → A → A → A → A
by_order Less less equal greater = less
by_order Equal less equal greater = equal
by_order Greater less equal greater = greater

-- entries in byte order with one more at its place; a name that is there stays as it is
abbrev pub placed : Entry → List Entry → List Entry
placed new [] = new ∷ []
placed new (e ∷ es) = by_order (slice_cmp nat_cmp e.0 new.0) (e ∷ placed new es) (e ∷ es) (new ∷ e ∷ es)

abbrev pub placed_all : List Entry → List Entry → List Entry
placed_all es [] = es
placed_all es (new ∷ news) = placed_all (placed new es) news

-- the entries in byte order of their names, each name once: of several with one name the first stands
abbrev pub in_order : List Entry → List Entry
in_order es = placed_all [] es

abbrev pub braces : List ℕ → List ℕ
braces inside = codes "{" ++ (inside ++ codes "}")

-- the entries as an object
unfoldable pub object_text : List Entry → List ℕ
object_text es = braces (entries_text false (in_order es))

-- texts one after the other; `later` says that something stands before in the same list
abbrev pub elements_text : Bool → List (List ℕ) → List ℕ
elements_text later [] = []
elements_text later (text ∷ texts) = comma_if later ++ (text ++ elements_text true texts)

-- the texts as a list
abbrev pub list_text : List (List ℕ) → List ℕ
list_text texts = codes "[" ++ (elements_text false texts ++ codes "]")
