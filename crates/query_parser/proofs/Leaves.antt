-- A leaf that is read and not refused asks its field what may be asked of its kind, by values of that kind.
use Rattle.std.proofs.Common.{◌≡◌, ℕ, List as Seq, [], ◌∷◌, Bool, true, false, ◌&&◌, Option, Some, None, is_some, IsTrue, option_map, refl, codes}
use Rattle.std.proofs.lemmas.Bool.{and_parts, false≢true}
use Rattle.std.specs.List.{AllByRecursion}
use Rattle.tree_json.specs.Value.{JsonValue, null, bool, whole, text, list, object, Elements, no_elements, element, Members, no_members, member, member_of}
use Rattle.mapping_body.specs.declared.kind.Kind.{Kind}
use Rattle.mapping_body.specs.declared.kind.Kind.TheVariants.{Text, Keyword, Long, Boolean, Date, Object, Nested as NestedKind, Join}
use Rattle.mapping.specs.Mapping.{Mapping, field_named, kind_at}
use Rattle.query_ast.specs.Clause.{on_field, parent_id, exists as exists_test}
use Rattle.query_ast.specs.Resolved.{IsTestOf, IsLeaf, IsResolved}
use Rattle.query_ast.specs.Uses.{uses_of, IsValueOf, IsEndOf}
use Rattle.search_form.specs.declared.form.Form.{Form}
use Rattle.search_form.specs.declared.form.Form.TheVariants.{MatchAll, Term, TermField, Terms, Range, RangeField, Exists, Prefix, PrefixField, Match, MatchField, MatchPhrase, PhraseField, Ids, ParentId, Boost, Operator, Value}
use Rattle.search_form.specs.declared.form.Presence.TheVariants.{Optional, Required}
use Rattle.search_form.specs.Form.{chosen, suits, allows_inner, has_form, each_has_form}
use Rattle.search_form.specs.Texts.{AreTexts, EachAreTexts}
use Rattle.search_walk.specs.Fault.{asked_value, asked_taken, all_taken, elements_taken, bound_taken, bounds_taken, fits_field, leaf_fault, bad_value_unless}
use Rattle.search_walk.specs.Kinds.{is_valued, may_ask, is_taken}
use Rattle.search_walk.specs.Names.{kind_named, child_under, text_under}
use Rattle.query_parser.specs.Queries.{closed_of, end_of, range_of, test_of, field_leaf, leaf_named}
use Rattle.query_parser.specs.Readings.{value_by_if, values_by, values_of}
use Rattle.query_parser.proofs.Formed.{suits_parts, first_required, boost_is, boost_under, one_is_boost}
use Rattle.query_parser.proofs.Texts.{asked_texts, value_text}
use Rattle.query_parser.proofs.Found.{by_option, field_found, child_found, value_taken}

-- ---- what may be asked of a kind

valued_is : (kind : Kind) → is_valued kind ≡ true → (uses_of kind).valued ≡ true
valued_is Text h = refl
valued_is Keyword h = refl
valued_is Long h = refl
valued_is Boolean h = refl
valued_is Date h = refl
valued_is Object h = h
valued_is NestedKind h = h
valued_is Join h = h

ranged_is : (kind : Kind) → may_ask Range kind ≡ true → (uses_of kind).ranged ≡ true
ranged_is Text h = h
ranged_is Keyword h = refl
ranged_is Long h = refl
ranged_is Boolean h = h
ranged_is Date h = refl
ranged_is Object h = h
ranged_is NestedKind h = h
ranged_is Join h = h

begun_is : (kind : Kind) → may_ask Prefix kind ≡ true → (uses_of kind).begun ≡ true
begun_is Text h = refl
begun_is Keyword h = refl
begun_is Long h = h
begun_is Boolean h = h
begun_is Date h = h
begun_is Object h = h
begun_is NestedKind h = h
begun_is Join h = h

-- ---- values

given_is : (kind : Kind) (o : Option JsonValue) → is_some o ≡ true → is_taken kind o ≡ true → IsValueOf kind (value_by_if (Some kind) o)
given_is kind None there h = absurd (false≢true there)
given_is kind (Some v) there h = value_taken kind v h

all_are : (kind : Kind) (ds : Elements) → all_taken kind ds ≡ true → AllByRecursion (IsValueOf kind) (values_by (Some kind) ds)
all_are kind no_elements h = tt
all_are kind (element d ds) h =
    let parts = and_parts (is_taken kind (Some d)) (all_taken kind ds) h in
    (value_taken kind d parts.0, all_are kind ds parts.1)

values_are : (kind : Kind) (v : JsonValue) → elements_taken kind v ≡ true → AllByRecursion (IsValueOf kind) (values_of (Some kind) v)
values_are kind (list ds) h = all_are kind ds h
values_are kind null h = tt
values_are kind (bool b) h = tt
values_are kind (whole z) h = tt
values_are kind (text s) h = tt
values_are kind (object ms) h = tt

closed_is : (kind : Kind) (o : Option JsonValue) → bound_taken kind o ≡ true → IsEndOf kind (closed_of (Some kind) o)
closed_is kind None h = tt
closed_is kind (Some null) h = tt
closed_is kind (Some v) h = value_taken kind v h

end_is : (kind : Kind) (past closed : Option JsonValue) → bound_taken kind past ≡ true → bound_taken kind closed ≡ true → IsEndOf kind (end_of (Some kind) past closed)
end_is kind None closed h g = closed_is kind closed g
end_is kind (Some null) closed h g = tt
end_is kind (Some v) closed h g = value_taken kind v h

-- ---- tests

module _ (m : Mapping) (f : ℕ) where
  abbrev kind : Kind
  kind = kind_at m f

  value_there : (inner : Bool) (v : JsonValue) → has_form inner TermField v ≡ true → is_some (asked_value (codes "value") v) ≡ true
  value_there inner (object ms) h =
      let parts = and_parts (suits inner TermField ms) (each_has_form (allows_inner inner TermField ms) TermField ms) h in
      let whole_object = suits_parts inner TermField ((codes "value", Required, Value) ∷ (codes "boost", Optional, Boost) ∷ []) ms parts.0 in
      first_required (codes "value") Value ((codes "boost", Optional, Boost) ∷ []) ms whole_object.0
  value_there inner null h = refl
  value_there inner (bool b) h = refl
  value_there inner (whole z) h = refl
  value_there inner (text s) h = refl
  value_there inner (list ds) h = refl

  words_there : (inner : Bool) (v : JsonValue) → has_form inner MatchField v ≡ true → is_some (asked_value (codes "query") v) ≡ true
  words_there inner (object ms) h =
      let parts = and_parts (suits inner MatchField ms) (each_has_form (allows_inner inner MatchField ms) MatchField ms) h in
      let whole_object = suits_parts inner MatchField ((codes "query", Required, Value) ∷ (codes "operator", Optional, Operator) ∷ (codes "boost", Optional, Boost) ∷ []) ms parts.0 in
      first_required (codes "query") Value ((codes "operator", Optional, Operator) ∷ (codes "boost", Optional, Boost) ∷ []) ms whole_object.0
  words_there inner null h = refl
  words_there inner (bool b) h = refl
  words_there inner (whole z) h = refl
  words_there inner (text s) h = refl
  words_there inner (list ds) h = refl

  phrase_there : (inner : Bool) (v : JsonValue) → has_form inner PhraseField v ≡ true → is_some (asked_value (codes "query") v) ≡ true
  phrase_there inner (object ms) h =
      let parts = and_parts (suits inner PhraseField ms) (each_has_form (allows_inner inner PhraseField ms) PhraseField ms) h in
      let whole_object = suits_parts inner PhraseField ((codes "query", Required, Value) ∷ (codes "boost", Optional, Boost) ∷ []) ms parts.0 in
      first_required (codes "query") Value ((codes "boost", Optional, Boost) ∷ []) ms whole_object.0
  phrase_there inner null h = refl
  phrase_there inner (bool b) h = refl
  phrase_there inner (whole z) h = refl
  phrase_there inner (text s) h = refl
  phrase_there inner (list ds) h = refl

  term_test : (inner : Bool) (v : JsonValue) → has_form inner TermField v ≡ true → (may_ask Term kind && asked_taken kind Term v) ≡ true → IsTestOf m f (test_of (Some kind) Term v)
  term_test inner v formed h =
      let parts = and_parts (may_ask Term kind) (asked_taken kind Term v) h in
      (valued_is kind parts.0, (given_is kind (asked_value (codes "value") v) (value_there inner v formed) parts.1, tt))

  terms_test : (v : JsonValue) → (may_ask Terms kind && asked_taken kind Terms v) ≡ true → IsTestOf m f (test_of (Some kind) Terms v)
  terms_test v h =
      let parts = and_parts (may_ask Terms kind) (asked_taken kind Terms v) h in
      (valued_is kind parts.0, values_are kind v parts.1)

  range_test : (v : JsonValue) → (may_ask Range kind && asked_taken kind Range v) ≡ true → IsTestOf m f (test_of (Some kind) Range v)
  range_test v h =
      let parts = and_parts (may_ask Range kind) (asked_taken kind Range v) h in
      go v (ranged_is kind parts.0) parts.1
    where
      go : (v : JsonValue) → IsTrue (uses_of kind).ranged → bounds_taken kind v ≡ true → IsTestOf m f (range_of (Some kind) v)
      go (object ms) ranged h =
          let a = and_parts (bound_taken kind (member_of ms (codes "gt"))) (bound_taken kind (member_of ms (codes "gte")) && (bound_taken kind (member_of ms (codes "lt")) && bound_taken kind (member_of ms (codes "lte")))) h in
          let b = and_parts (bound_taken kind (member_of ms (codes "gte"))) (bound_taken kind (member_of ms (codes "lt")) && bound_taken kind (member_of ms (codes "lte"))) a.1 in
          let c = and_parts (bound_taken kind (member_of ms (codes "lt"))) (bound_taken kind (member_of ms (codes "lte"))) b.1 in (
            ranged,
            end_is kind (member_of ms (codes "gt")) (member_of ms (codes "gte")) a.0 b.0,
            end_is kind (member_of ms (codes "lt")) (member_of ms (codes "lte")) c.0 c.1,
          )
      go null ranged h = (ranged, tt, tt)
      go (bool b) ranged h = (ranged, tt, tt)
      go (whole z) ranged h = (ranged, tt, tt)
      go (text s) ranged h = (ranged, tt, tt)
      go (list ds) ranged h = (ranged, tt, tt)

  prefix_test : (v : JsonValue) → (may_ask Prefix kind && asked_taken kind Prefix v) ≡ true → IsTestOf m f (test_of (Some kind) Prefix v)
  prefix_test v h = begun_is kind (and_parts (may_ask Prefix kind) (asked_taken kind Prefix v) h).0

  match_test : (inner : Bool) (v : JsonValue) → has_form inner MatchField v ≡ true → AreTexts v → (may_ask Match kind && asked_taken kind Match v) ≡ true → IsTestOf m f (test_of (Some kind) Match v)
  match_test inner v formed t h =
      let parts = and_parts (may_ask Match kind) (asked_taken kind Match v) h in (
        valued_is kind parts.0,
        given_is kind (asked_value (codes "query") v) (words_there inner v formed) parts.1,
        value_text kind (asked_value (codes "query") v) (asked_texts (codes "query") v t),
      )

  phrase_test : (inner : Bool) (v : JsonValue) → has_form inner PhraseField v ≡ true → AreTexts v → (may_ask MatchPhrase kind && asked_taken kind MatchPhrase v) ≡ true → IsTestOf m f (test_of (Some kind) MatchPhrase v)
  phrase_test inner v formed t h =
      let parts = and_parts (may_ask MatchPhrase kind) (asked_taken kind MatchPhrase v) h in (
        valued_is kind parts.0,
        given_is kind (asked_value (codes "query") v) (phrase_there inner v formed) parts.1,
        value_text kind (asked_value (codes "query") v) (asked_texts (codes "query") v t),
      )

-- ---- leaves

pub fine_if : (fine : Bool) → bad_value_unless fine ≡ None → fine ≡ true
fine_if true e = refl
fine_if false e = cc

module _ (m : Mapping) (s level : ℕ) (inner : Bool) where
  asked_is : (form : Form) (v : JsonValue) → ((f : ℕ) → (may_ask form (kind_at m f) && asked_taken (kind_at m f) form v) ≡ true → IsTestOf m f (test_of (Some (kind_at m f)) form v))
      → (path : Seq ℕ) → fits_field (kind_named m path) form v ≡ true → IsLeaf m (on_field (field_named m path) (test_of (option_map (kind_at m) (field_named m path)) form v))
  asked_is form v test path =
      by_option (λ o. fits_field (option_map (kind_at m) o) form v ≡ true → IsLeaf m (on_field o (test_of (option_map (kind_at m) o) form v))) (field_named m path)
      (λ is h. tt)
      (λ f is h. (field_found m path f is, test f h))

  pub match_all_is : (ms : Members) → each_has_form inner MatchAll ms ≡ true → IsResolved m s (leaf_named m (Some s) MatchAll ms)
  match_all_is ms h = (tt, boost_is inner MatchAll ms refl h)

  pub ids_is : (ms : Members) → each_has_form inner Ids ms ≡ true → IsResolved m s (leaf_named m (Some s) Ids ms)
  ids_is ms h = (tt, boost_is inner Ids ms refl h)

  pub exists_is : (ms : Members) → each_has_form inner Exists ms ≡ true → IsResolved m s (leaf_named m (Some s) Exists ms)
  exists_is ms h = (
    by_option (λ o. IsLeaf m (on_field o exists_test)) (field_named m (text_under ms (codes "field"))) (λ is. tt) (λ f is. (field_found m (text_under ms (codes "field")) f is, tt)),
    boost_is inner Exists ms refl h,
  )

  pub parent_id_is : (ms : Members) → each_has_form inner ParentId ms ≡ true → IsResolved m s (leaf_named m (Some s) ParentId ms)
  parent_id_is ms h = (
    by_option (λ o. IsLeaf m (parent_id o (text_under ms (codes "id")))) (child_under m ms) (λ is. tt) (λ r is. child_found m (text_under ms (codes "type")) r is),
    boost_is inner ParentId ms refl h,
  )

  pub term_is : (ms : Members) → each_has_form inner Term ms ≡ true → leaf_fault m Term (chosen Term ms) ≡ None → IsResolved m s (leaf_named m (Some s) Term ms)
  term_is no_members h e = (tt, one_is_boost)
  term_is (member k v ms) h e =
      let formed = (and_parts (has_form inner TermField v) (each_has_form inner Term ms) h).0 in
      (asked_is Term v (λ f. term_test m f inner v formed) k (fine_if (fits_field (kind_named m k) Term v) e), boost_under inner TermField v refl refl formed)

  pub terms_is : (ms : Members) → each_has_form inner Terms ms ≡ true → leaf_fault m Terms (chosen Terms ms) ≡ None → IsResolved m s (leaf_named m (Some s) Terms ms)
  terms_is ms h =
      by_option (λ o. leaf_fault m Terms o ≡ None → IsResolved m s (field_leaf m (Some s) Terms ms o)) (chosen Terms ms)
      (λ is e. (tt, one_is_boost))
      (λ c is e. (asked_is Terms c.2 (λ f. terms_test m f c.2) c.0 (fine_if (fits_field (kind_named m c.0) Terms c.2) e), boost_is inner Terms ms refl h))

  pub range_is : (ms : Members) → each_has_form inner Range ms ≡ true → leaf_fault m Range (chosen Range ms) ≡ None → IsResolved m s (leaf_named m (Some s) Range ms)
  range_is no_members h e = (tt, one_is_boost)
  range_is (member k v ms) h e =
      let formed = (and_parts (has_form inner RangeField v) (each_has_form inner Range ms) h).0 in
      (asked_is Range v (λ f. range_test m f v) k (fine_if (fits_field (kind_named m k) Range v) e), boost_under inner RangeField v refl refl formed)

  pub prefix_is : (ms : Members) → each_has_form inner Prefix ms ≡ true → leaf_fault m Prefix (chosen Prefix ms) ≡ None → IsResolved m s (leaf_named m (Some s) Prefix ms)
  prefix_is no_members h e = (tt, one_is_boost)
  prefix_is (member k v ms) h e =
      let formed = (and_parts (has_form inner PrefixField v) (each_has_form inner Prefix ms) h).0 in
      (asked_is Prefix v (λ f. prefix_test m f v) k (fine_if (fits_field (kind_named m k) Prefix v) e), boost_under inner PrefixField v refl refl formed)

  pub match_is : (ms : Members) → each_has_form inner Match ms ≡ true → EachAreTexts ms → leaf_fault m Match (chosen Match ms) ≡ None → IsResolved m s (leaf_named m (Some s) Match ms)
  match_is no_members h t e = (tt, one_is_boost)
  match_is (member k v ms) h t e =
      let formed = (and_parts (has_form inner MatchField v) (each_has_form inner Match ms) h).0 in
      (asked_is Match v (λ f. match_test m f inner v formed t.0) k (fine_if (fits_field (kind_named m k) Match v) e), boost_under inner MatchField v refl refl formed)

  pub phrase_is : (ms : Members) → each_has_form inner MatchPhrase ms ≡ true → EachAreTexts ms → leaf_fault m MatchPhrase (chosen MatchPhrase ms) ≡ None → IsResolved m s (leaf_named m (Some s) MatchPhrase ms)
  phrase_is no_members h t e = (tt, one_is_boost)
  phrase_is (member k v ms) h t e =
      let formed = (and_parts (has_form inner PhraseField v) (each_has_form inner MatchPhrase ms) h).0 in
      (asked_is MatchPhrase v (λ f. phrase_test m f inner v formed t.0) k (fine_if (fits_field (kind_named m k) MatchPhrase v) e), boost_under inner PhraseField v refl refl formed)
