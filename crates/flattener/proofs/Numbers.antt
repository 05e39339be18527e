-- Values one by one.
use Rattle.std.proofs.Common.{◌≡◌, List, [], ◌∷◌, ◌++◌, refl, Option, Some, None}
use Rattle.std.specs.List.{filter_map}
use Rattle.std.specs.Ordering.{int_cmp}
use Rattle.tree_objects.specs.declared.field_value.FieldValue.{FieldValue}
use Rattle.tree_objects.specs.declared.field_value.FieldValue.TheVariants.{Number, Written}
use Rattle.tree_json.specs.Value.{JsonValue}
use Rattle.flattener.specs.Flat.{ascending, bytes_cmp, numbers_in, texts_in}
use Rattle.flattener.specs.Walked.{one_number, one_text}

numbers_of_one : (o : Option FieldValue) (t : JsonValue → Option FieldValue) (v : JsonValue) (vs : List JsonValue) → t v ≡ o
    → numbers_in (filter_map t (v ∷ vs)) ≡ one_number o ++ numbers_in (filter_map t vs)
numbers_of_one None t v vs e = rw e refl
numbers_of_one (Some (Number z)) t v vs e = rw e refl
numbers_of_one (Some (Written s)) t v vs e = rw e refl

texts_of_one : (o : Option FieldValue) (t : JsonValue → Option FieldValue) (v : JsonValue) (vs : List JsonValue) → t v ≡ o
    → texts_in (filter_map t (v ∷ vs)) ≡ one_text o ++ texts_in (filter_map t vs)
texts_of_one None t v vs e = rw e refl
texts_of_one (Some (Number z)) t v vs e = rw e refl
texts_of_one (Some (Written s)) t v vs e = rw e refl

pub numbers_next : (t : JsonValue → Option FieldValue) (v : JsonValue) (vs : List JsonValue) → numbers_in (filter_map t (v ∷ vs)) ≡ one_number (t v) ++ numbers_in (filter_map t vs)
numbers_next t v vs = numbers_of_one (t v) t v vs refl

pub texts_next : (t : JsonValue → Option FieldValue) (v : JsonValue) (vs : List JsonValue) → texts_in (filter_map t (v ∷ vs)) ≡ one_text (t v) ++ texts_in (filter_map t vs)
texts_next t v vs = texts_of_one (t v) t v vs refl

pub ruleset one_by_one = (numbers_next, texts_next)

-- a single value is in order
number_alone_of : (o : Option FieldValue) (t : JsonValue → Option FieldValue) (v : JsonValue) → t v ≡ o → ascending int_cmp (numbers_in (filter_map t (v ∷ []))) ≡ one_number o
number_alone_of None t v e = rw e refl
number_alone_of (Some (Number z)) t v e = rw e refl
number_alone_of (Some (Written s)) t v e = rw e refl

text_alone_of : (o : Option FieldValue) (t : JsonValue → Option FieldValue) (v : JsonValue) → t v ≡ o → ascending bytes_cmp (texts_in (filter_map t (v ∷ []))) ≡ one_text o
text_alone_of None t v e = rw e refl
text_alone_of (Some (Number z)) t v e = rw e refl
text_alone_of (Some (Written s)) t v e = rw e refl

pub number_alone : (t : JsonValue → Option FieldValue) (v : JsonValue) → ascending int_cmp (numbers_in (filter_map t (v ∷ []))) ≡ one_number (t v)
number_alone t v = number_alone_of (t v) t v refl

pub text_alone : (t : JsonValue → Option FieldValue) (v : JsonValue) → ascending bytes_cmp (texts_in (filter_map t (v ∷ []))) ≡ one_text (t v)
text_alone t v = text_alone_of (t v) t v refl

pub ruleset alone = (number_alone, text_alone)
