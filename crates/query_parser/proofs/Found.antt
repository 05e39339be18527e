-- What is found by its name is one of the mapping's, and a value that is taken is one of its kind.
use Rattle.std.proofs.Common.{◌≡◌, ℕ, ◌+◌, ◌<◌, suc, List as Seq, [], ◌∷◌, length, map, get_or, Bool, true, false, ℤ, Option, Some, None, is_some, option_map, option_and_then, refl, ap, subst, arith, bytes_eq}
use Rattle.std.proofs.lemmas.List.{length-map}
use Rattle.std.specs.List.{list_any, position_from}
use Rattle.tree_json.specs.Value.{JsonValue, null, bool, whole, text, list, object}
use Rattle.mapping_growth.specs.Bodies.{is_number}
use Rattle.mapping_growth.specs.Relations.{Relation}
use Rattle.mapping_body.specs.declared.kind.Kind.{Kind}
use Rattle.mapping_body.specs.declared.kind.Kind.TheVariants.{Text, Keyword, Long, Boolean, Date, Object, Nested, Join}
use Rattle.mapping.specs.Mapping.{Mapping, field_named, scope_named, relation_named, relation_at, no_relation, is_parent}
use Rattle.tree_objects.specs.declared.field_value.FieldValue.{FieldValue}
use Rattle.tree_objects.specs.declared.field_value.FieldValue.TheVariants.{Number, Written}
use Rattle.tree_objects.specs.Values.{convert, text_of, whole_written, bool_written, bool_number}
use Rattle.search_walk.specs.Names.{nested_scope, child_if, child_named, parent_if, parent_named}
use Rattle.query_ast.specs.Resolved.{IsChildRelation, IsParentRelation}
use Rattle.query_ast.specs.Uses.{IsValueOf, is_written}
use Rattle.query_parser.specs.Readings.{value_if}

-- the two answers of a test
pub by_test : {G : Type 0} (t : Bool) → (t ≡ true → G) → (t ≡ false → G) → G
by_test true held failed = held refl
by_test false held failed = failed refl

-- the two cases of what may be there
pub by_option : {A : Type 0} (G : Option A → Type 0) (o : Option A) → (o ≡ None → G None) → ((x : A) → o ≡ Some x → G (Some x)) → G o
by_option G None none some = none refl
by_option G (Some x) none some = some x refl

-- ---- numbers

placed : (t : Seq ℕ → Bool) (at i : ℕ) (names : Seq (Seq ℕ)) → position_from t at names ≡ Some i → i < at + length names
placed t at i [] e = cc
placed t at i (name ∷ names) e =
    by_test (t name)
    (λ held. let here : Some at ≡ Some i = rw held at e in let is : at ≡ i = cc in omega arith)
    (λ failed. let later : i < at + 1 + length names = placed t (at + 1) i names (rw failed at e) in omega (arith, later))

pub field_found : (m : Mapping) (path : Seq ℕ) (f : ℕ) → field_named m path ≡ Some f → f < length m.fields
field_found m path f e =
    let h = placed (λ other. bytes_eq other path) 0 f (map (λ g. g.path) m.fields) e in
    omega (arith, h, length-map m.fields (λ g. g.path))

scope_found : (m : Mapping) (path : Seq ℕ) (p : ℕ) → scope_named m path ≡ Some p → p < length m.scopes
scope_found m path p e =
    let h = placed (λ other. bytes_eq other path) 0 p (map (λ s. s.path) m.scopes) e in
    omega (arith, h, length-map m.scopes (λ s. s.path))

pub nested_found : (m : Mapping) (path : Seq ℕ) (p : ℕ) → nested_scope m path ≡ Some p → p < length m.scopes
nested_found m [] p e = cc
nested_found m (byte ∷ path) p e = scope_found m (byte ∷ path) p e

relation_found : (m : Mapping) (name : Seq ℕ) (r : ℕ) → relation_named m name ≡ Some r → r < length m.relations
relation_found m name r e =
    let h = placed (λ other. bytes_eq other name) 0 r (map (λ (d : Relation). d.name) m.relations) e in
    omega (arith, h, length-map m.relations (λ (d : Relation). d.name))

pub child_found : (m : Mapping) (name : Seq ℕ) (r : ℕ) → child_named m name ≡ Some r → IsChildRelation m r
child_found m name r e =
    by_option (λ o. option_and_then (child_if m) o ≡ Some r → relation_named m name ≡ o → IsChildRelation m r) (relation_named m name)
    (λ is f g. cc)
    (λ x is f g.
    by_test (is_some (relation_at m x).parent)
    (λ held.
    let one : Some x ≡ Some r = rw held at f in
    let same : x ≡ r = cc in
    subst (IsChildRelation m) same (relation_found m name x is, held))
    (λ failed. let none : None ≡ Some r = rw failed at f in cc))
    e refl

parent_among : (p : ℕ) (rs : Seq Relation) → list_any (λ other. is_number p other.parent) rs ≡ true → (k : ℕ) × (k < length rs) × ((get_or rs k no_relation).parent ≡ Some p)
parent_among p [] e = cc
parent_among p (r ∷ rs) e =
    by_test (is_number p r.parent)
    (λ held. (0, omega arith, number_is r.parent held))
    (λ failed.
    let more = parent_among p rs (rw failed at e) in
    (suc more.0, omega (arith, more.1), more.2))
  where
    number_is : (o : Option ℕ) → is_number p o ≡ true → o ≡ Some p
    number_is None h = cc
    number_is (Some k) h = let same : k ≡ p = grind (arith, h) in ap (λ n. Some n) same

pub parent_found : (m : Mapping) (name : Seq ℕ) (r : ℕ) → parent_named m name ≡ Some r → IsParentRelation m r
parent_found m name r e =
    by_option (λ o. option_and_then (parent_if m) o ≡ Some r → IsParentRelation m r) (relation_named m name)
    (λ is f. cc)
    (λ x is f.
    by_test (is_parent m x)
    (λ held.
    let one : Some x ≡ Some r = rw held at f in
    let same : x ≡ r = cc in
    let found = parent_among x m.relations held in
    subst (IsParentRelation m) same (record { child = found.0; in_range = found.1; is_parent = found.2 }))
    (λ failed. let none : None ≡ Some r = rw failed at f in cc))
    e

-- ---- values

number_is : (kind : Kind) (o : Option ℤ) (x : FieldValue) → is_written kind ≡ false → option_map (λ z. Number z) o ≡ Some x → IsValueOf kind x
number_is kind None x plain e = cc
number_is kind (Some z) x plain e = let same : Number z ≡ x = cc in subst (IsValueOf kind) same plain

flag_is : (kind : Kind) (o : Option Bool) (x : FieldValue) → is_written kind ≡ false → option_map (λ b. Number (bool_number b)) o ≡ Some x → IsValueOf kind x
flag_is kind None x plain e = cc
flag_is kind (Some b) x plain e = let same : Number (bool_number b) ≡ x = cc in subst (IsValueOf kind) same plain

text_is : (kind : Kind) (v : JsonValue) (x : FieldValue) → is_written kind ≡ true → text_of v ≡ Some x → IsValueOf kind x
text_is kind null x written e = cc
text_is kind (bool b) (Number z) written e = cc
text_is kind (bool b) (Written s) written e = written
text_is kind (whole z) (Number y) written e = cc
text_is kind (whole z) (Written s) written e = written
text_is kind (text s) (Number z) written e = cc
text_is kind (text s) (Written t) written e = written
text_is kind (list ds) x written e = cc
text_is kind (object ms) x written e = cc

pub converted : (kind : Kind) (v : JsonValue) (x : FieldValue) → convert kind v ≡ Some x → IsValueOf kind x
unfolding convert
converted Text v x e = text_is Text v x refl e
converted Keyword v x e = text_is Keyword v x refl e
converted Long (whole z) x e = number_is Long (Some z) x refl e
converted Long (text s) x e = number_is Long (whole_written s) x refl e
converted Long null x e = cc
converted Long (bool b) x e = cc
converted Long (list ds) x e = cc
converted Long (object ms) x e = cc
converted Boolean (bool b) x e = flag_is Boolean (Some b) x refl e
converted Boolean (text s) x e = flag_is Boolean (bool_written s) x refl e
converted Boolean null x e = cc
converted Boolean (whole z) x e = cc
converted Boolean (list ds) x e = cc
converted Boolean (object ms) x e = cc
converted Date (whole z) x e = number_is Date (Some z) x refl e
converted Date (text s) x e = number_is Date _ x refl e
converted Date null x e = cc
converted Date (bool b) x e = cc
converted Date (list ds) x e = cc
converted Date (object ms) x e = cc
converted Object v x e = cc
converted Nested v x e = cc
converted Join v x e = cc

pub value_taken : (kind : Kind) (v : JsonValue) → is_some (convert kind v) ≡ true → IsValueOf kind (value_if (convert kind v))
value_taken kind v =
    by_option (λ o. is_some o ≡ true → IsValueOf kind (value_if o)) (convert kind v) (λ is h. cc) (λ x is h. converted kind v x is)
