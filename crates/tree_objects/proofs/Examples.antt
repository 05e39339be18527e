-- The definitions at work on one mapping and one source: what they compute is what the rules say.
use Rattle.std.proofs.Common.{◌≡◌, ℕ, pos, List as Seq, [], ◌∷◌, map, codes, refl, true, false, Some, None}
use Rattle.tree_json.specs.Value.{JsonValue, null, bool, whole, text, list, object, elements_of, members_of}
use Rattle.tree_objects.specs.declared.field_value.FieldValue.TheVariants.{Number, Written}
use Rattle.mapping_body.specs.Body.{is_body}
use Rattle.mapping.specs.Mapping.{Mapping, mapping_of, included}
use Rattle.tree_objects.specs.Object.{root, scope, place, block_objects, below, given, way}
use Rattle.tree_objects.specs.Values.{values, convert, join_of}
use Rattle.tree_objects.specs.declared.fault.Fault.TheVariants.{BadJoin}
use Rattle.tree_objects.specs.Fault.{first_fault}
use Rattle.mapping_growth.specs.Bodies.{conflict_of, has_bad_relations}
use Rattle.mapping_growth.specs.Fields.{additions_of, drafts_of}
use Rattle.mapping_growth.specs.Relations.{relations_of}
use Rattle.tree_objects.specs.Tree.{Tree}

abbrev typed : Seq ℕ → JsonValue
typed kind = object (members_of ((codes "type", text kind) ∷ []))

abbrev nested : Seq (Seq ℕ × JsonValue) → JsonValue
nested ps = object (members_of ((codes "properties", object (members_of ps)) ∷ (codes "type", text (codes "nested")) ∷ []))

abbrev stock : JsonValue
stock = nested ((codes "n", typed (codes "long")) ∷ (codes "site", typed (codes "keyword")) ∷ [])

abbrev offers : JsonValue
offers = nested ((codes "color", typed (codes "keyword")) ∷ (codes "price", typed (codes "long")) ∷ (codes "stock", stock) ∷ [])

abbrev rel : JsonValue
rel = object (members_of (
    (codes "relations", object (members_of ((codes "question", text (codes "answer")) ∷ [])))
    ∷ (codes "type", text (codes "join")) ∷ []))

abbrev body : JsonValue
body = object (members_of ((
  codes "properties",
  object (members_of (
      (codes "name", typed (codes "text")) ∷ (codes "offers", offers) ∷ (codes "rel", rel) ∷ [])),
) ∷ []))

body_has_form : is_body body ≡ true
body_has_form = refl

abbrev mapping : Mapping
mapping = mapping_of (body ∷ []) false

paths : map (λ f. f.path) mapping.fields
    ≡ codes "name" ∷ codes "offers" ∷ codes "offers.color" ∷ codes "offers.price" ∷ codes "offers.stock"
    ∷ codes "offers.stock.n" ∷ codes "offers.stock.site" ∷ codes "rel" ∷ []
unfolding drafts_of relations_of
paths = refl

homes : map (λ f. f.home) mapping.fields ≡ 0 ∷ 0 ∷ 1 ∷ 1 ∷ 1 ∷ 2 ∷ 2 ∷ 0 ∷ []
unfolding drafts_of relations_of
homes = refl

arounds : map (λ s. s.around) mapping.scopes ≡ 0 ∷ 0 ∷ 1 ∷ []
unfolding drafts_of relations_of
arounds = refl

scope_names : map (λ s. s.names) mapping.scopes ≡ [] ∷ (codes "offers" ∷ []) ∷ (codes "stock" ∷ []) ∷ []
unfolding drafts_of relations_of
scope_names = refl

orders : mapping.order ≡ 1 ∷ 2 ∷ []
unfolding drafts_of relations_of
orders = refl

relation_names : map (λ r. r.name) mapping.relations ≡ codes "answer" ∷ codes "question" ∷ []
unfolding drafts_of relations_of
relation_names = refl

relation_parents : map (λ r. r.parent) mapping.relations ≡ Some 1 ∷ None ∷ []
unfolding drafts_of relations_of
relation_parents = refl

no_bad_relations : has_bad_relations (body ∷ []) ≡ false
unfolding additions_of drafts_of relations_of
no_bad_relations = refl

-- ---- a source of two offers, of which the first has two stocks and the second one

abbrev stocked : Seq ℕ → JsonValue
stocked site = object (members_of ((codes "site", text site) ∷ []))

abbrev offered : Seq ℕ → Seq JsonValue → JsonValue
offered color stocks = object (members_of ((codes "color", text color) ∷ (codes "stock", list (elements_of stocks)) ∷ []))

abbrev source : JsonValue
source = object (members_of ((
  codes "offers",
  list (elements_of (
      offered (codes "red") (stocked (codes "a") ∷ stocked (codes "b") ∷ [])
      ∷ offered (codes "blue") (stocked (codes "b") ∷ []) ∷ [])),
) ∷ []))

abbrev tree : Tree
tree = record { id = codes "1"; number = 0; source = source; generation = 1 }

scopes_of_block : map scope (block_objects mapping tree) ≡ 2 ∷ 2 ∷ 1 ∷ 2 ∷ 1 ∷ 0 ∷ []
unfolding drafts_of relations_of block_objects given
scopes_of_block = refl

places_of_block : map place (block_objects mapping tree)
    ≡ ((1, 0) ∷ (2, 0) ∷ []) ∷ ((1, 0) ∷ (2, 1) ∷ []) ∷ ((1, 0) ∷ []) ∷ ((1, 1) ∷ (2, 0) ∷ []) ∷ ((1, 1) ∷ []) ∷ [] ∷ []
unfolding drafts_of relations_of block_objects given
places_of_block = refl

sites_of_block : map (values mapping 6) (block_objects mapping tree)
    ≡ (Written (codes "a") ∷ []) ∷ (Written (codes "b") ∷ []) ∷ [] ∷ (Written (codes "b") ∷ []) ∷ [] ∷ [] ∷ []
unfolding drafts_of relations_of block_objects given convert included
sites_of_block = refl

places_below : map place (below mapping (root tree) 2)
    ≡ ((1, 0) ∷ (2, 0) ∷ []) ∷ ((1, 0) ∷ (2, 1) ∷ []) ∷ ((1, 1) ∷ (2, 0) ∷ []) ∷ []
unfolding drafts_of relations_of below way given
places_below = refl

no_fault : first_fault mapping 1 source ≡ None
unfolding drafts_of relations_of first_fault convert
no_fault = refl

-- ---- the same objects where nulls stand between them, lists stand in lists, and a single object stands for a list of one

abbrev scattered : JsonValue
scattered = object (members_of ((
  codes "offers",
  list (elements_of (
      null
      ∷ list (elements_of (
      list (elements_of (offered (codes "red") (stocked (codes "a") ∷ null ∷ list (elements_of (stocked (codes "b") ∷ [])) ∷ []) ∷ []))
      ∷ null ∷ []))
      ∷ object (members_of ((codes "color", text (codes "blue")) ∷ (codes "stock", stocked (codes "b")) ∷ []))
      ∷ [])),
) ∷ []))

abbrev scattered_tree : Tree
scattered_tree = record { id = codes "2"; number = 1; source = scattered; generation = 1 }

places_of_scattered : map place (block_objects mapping scattered_tree) ≡ map place (block_objects mapping tree)
unfolding drafts_of relations_of block_objects given
places_of_scattered = refl

sites_of_scattered : map (values mapping 6) (block_objects mapping scattered_tree) ≡ map (values mapping 6) (block_objects mapping tree)
unfolding drafts_of relations_of block_objects given convert included
sites_of_scattered = refl

-- ---- a nested path under a plain object, which the root includes

abbrev parts : JsonValue
parts = object (members_of (
    (codes "include_in_root", bool true)
    ∷ (codes "properties", object (members_of ((codes "n", typed (codes "long")) ∷ [])))
    ∷ (codes "type", text (codes "nested")) ∷ []))

abbrev boxed_body : JsonValue
boxed_body = object (members_of ((
  codes "properties",
  object (members_of ((
    codes "box",
    object (members_of ((
      codes "properties",
      object (members_of ((codes "parts", parts) ∷ (codes "tag", typed (codes "keyword")) ∷ [])),
    ) ∷ [])),
  ) ∷ [])),
) ∷ []))

abbrev boxed : Mapping
boxed = mapping_of (boxed_body ∷ []) false

boxed_paths : map (λ f. f.path) boxed.fields ≡ codes "box" ∷ codes "box.parts" ∷ codes "box.parts.n" ∷ codes "box.tag" ∷ []
unfolding drafts_of relations_of
boxed_paths = refl

boxed_homes : map (λ f. f.home) boxed.fields ≡ 0 ∷ 0 ∷ 1 ∷ 0 ∷ []
unfolding drafts_of relations_of
boxed_homes = refl

boxed_names : map (λ s. s.names) boxed.scopes ≡ [] ∷ (codes "box" ∷ codes "parts" ∷ []) ∷ []
unfolding drafts_of relations_of
boxed_names = refl

abbrev part : JsonValue → JsonValue
part n = object (members_of ((codes "n", n) ∷ []))

abbrev box : JsonValue → JsonValue → JsonValue
box parts tag = object (members_of ((codes "parts", parts) ∷ (codes "tag", tag) ∷ []))

-- two boxes: the first with one part, the second with two, and a null among their tags
abbrev boxes : Tree
boxes = record {
  id = codes "3";
  number = 2;
  source = object (members_of ((
    codes "box",
    list (elements_of (
        box (part (whole (pos 1))) (text (codes "x"))
        ∷ null
        ∷ box (list (elements_of (null ∷ part (list (elements_of (whole (pos 2) ∷ null ∷ whole (pos 3) ∷ []))) ∷ part null ∷ []))) (list (elements_of (text (codes "y") ∷ null ∷ [])))
        ∷ [])),
  ) ∷ []));
  generation = 1;
}

places_of_boxes : map place (block_objects boxed boxes) ≡ ((1, 0) ∷ []) ∷ ((1, 1) ∷ []) ∷ ((1, 2) ∷ []) ∷ [] ∷ []
unfolding drafts_of relations_of block_objects given
places_of_boxes = refl

numbers_of_boxes : map (values boxed 2) (block_objects boxed boxes)
    ≡ (Number (pos 1) ∷ []) ∷ (Number (pos 2) ∷ Number (pos 3) ∷ []) ∷ [] ∷ (Number (pos 1) ∷ Number (pos 2) ∷ Number (pos 3) ∷ []) ∷ []
unfolding drafts_of relations_of block_objects below way given convert included
numbers_of_boxes = refl

tags_of_boxes : map (values boxed 3) (block_objects boxed boxes) ≡ [] ∷ [] ∷ [] ∷ (Written (codes "x") ∷ Written (codes "y") ∷ []) ∷ []
unfolding drafts_of relations_of block_objects given convert included
tags_of_boxes = refl

-- ---- a second body adds a nested path that comes first in byte order

abbrev grown : Mapping
grown = mapping_of (
    object (members_of ((codes "properties", object (members_of ((codes "m", nested ((codes "x", typed (codes "long")) ∷ [])) ∷ []))) ∷ []))
    ∷ object (members_of ((codes "properties", object (members_of ((codes "a", nested ((codes "y", typed (codes "long")) ∷ [])) ∷ []))) ∷ []))
    ∷ []) false

grown_paths : map (λ f. f.path) grown.fields ≡ codes "m" ∷ codes "m.x" ∷ codes "a" ∷ codes "a.y" ∷ []
unfolding drafts_of relations_of
grown_paths = refl

grown_order : grown.order ≡ 2 ∷ 1 ∷ []
unfolding drafts_of relations_of
grown_order = refl

grown_since : map (λ s. s.since) grown.scopes ≡ 1 ∷ 1 ∷ 2 ∷ []
unfolding drafts_of relations_of
grown_since = refl

abbrev under : ℕ → Tree
under generation = record {
  id = codes "4";
  number = 3;
  source = object (members_of (
      (codes "a", object (members_of ((codes "y", whole (pos 1)) ∷ [])))
      ∷ (codes "m", object (members_of ((codes "x", whole (pos 2)) ∷ []))) ∷ []));
  generation = generation;
}

-- a tree of the first body has no objects there, and one of the second has them first in its block
scopes_of_first : map scope (block_objects grown (under 1)) ≡ 1 ∷ 0 ∷ []
unfolding drafts_of relations_of block_objects given
scopes_of_first = refl

scopes_of_second : map scope (block_objects grown (under 2)) ≡ 2 ∷ 1 ∷ 0 ∷ []
unfolding drafts_of relations_of block_objects given
scopes_of_second = refl

-- ---- relations by generation: a tree of the first body has no relation that a second adds

abbrev asked : Seq ℕ → JsonValue
asked child = object (members_of ((
  codes "properties",
  object (members_of ((
    codes "rel",
    object (members_of (
        (codes "relations", object (members_of ((codes "question", text child) ∷ [])))
        ∷ (codes "type", text (codes "join")) ∷ [])),
  ) ∷ [])),
) ∷ []))

abbrev commented : Mapping
commented = mapping_of (asked (codes "answer") ∷ asked (codes "comment") ∷ []) false

abbrev comment : ℕ → Tree
comment generation = record {
  id = codes "5";
  number = 4;
  source = object (members_of ((codes "rel", object (members_of ((codes "name", text (codes "comment")) ∷ (codes "parent", text (codes "1")) ∷ []))) ∷ []));
  generation = generation;
}

join_of_first : join_of commented (comment 1) ≡ None
unfolding drafts_of relations_of join_of
join_of_first = refl

join_of_second : join_of commented (comment 2) ≡ Some (record { relation = 2; parent = Some (codes "1") })
unfolding drafts_of relations_of join_of
join_of_second = refl

faults_of_comment : map (λ g. first_fault commented g (comment g).source) (1 ∷ 2 ∷ []) ≡ Some BadJoin ∷ None ∷ []
unfolding drafts_of relations_of first_fault convert
faults_of_comment = refl

-- ---- a plain object that is given again as nested is a conflict

plain_conflict : conflict_of (object (members_of ((codes "properties", object (members_of ((codes "a", typed (codes "object")) ∷ []))) ∷ [])) ∷ [])
    (object (members_of ((codes "properties", object (members_of ((codes "a", nested []) ∷ []))) ∷ []))) ≡ Some (codes "a")
unfolding conflict_of drafts_of relations_of
plain_conflict = refl
