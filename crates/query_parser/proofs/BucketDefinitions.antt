-- The buckets of a body that is read and not refused are resolved in the scope in which they stand.
use Rattle.std.proofs.Common.{◌≡◌, ℕ, ◌==◌, List as Seq, [], ◌∷◌, Bool, true, false, ◌&&◌, not, if◌then◌else◌, Option, Some, None, is_some, option_map, refl, sym, ap, ◌∙◌, subst, arith, bytes_eq, codes}
use Rattle.std.proofs.lemmas.Bool.{and_parts, false≢true, eqb-true}
use Rattle.std.proofs.lemmas.Slice.Eq.{bytes_eq-Decides}
use Rattle.std.specs.List.{AllByRecursion}
use Rattle.std.specs.Option.{option_or}
use Rattle.tree_json.specs.Value.{JsonValue, null, bool, whole, text, list, object, Members, no_members, member, member_of}
use Rattle.mapping_body.specs.declared.kind.Kind.{Kind}
use Rattle.mapping_body.specs.declared.kind.Kind.TheVariants.{Text, Keyword, Long, Boolean, Date, Object, Nested as NestedKind, Join}
use Rattle.mapping.specs.Mapping.{Mapping, field_named, kind_at, is_above}
use Rattle.query_ast.specs.Agg.{Agg}
use Rattle.query_ast.specs.Definition.{Definition, Definitions, no_definitions, definitions_of}
use Rattle.query_ast.specs.Resolved.{IsUse, IsForm, scope_of_form, IsAggDefinition, AreAggDefinitions}
use Rattle.query_ast.specs.Uses.{Uses, uses_of}
use Rattle.query_ast.specs.declared.agg.AggForm.{AggForm}
use Rattle.query_ast.specs.declared.agg.AggForm.TheVariants.{Nested, ReverseNested, Children, Parent, Min, Max, Sum}
use Rattle.search_form.specs.declared.form.Form.{Form}
use Rattle.search_form.specs.declared.form.Form.TheVariants.{Query, Buckets, Bucket, NestedBucket, ReverseNestedBucket, TermsBucket, Metric, ValueCount, JoinBucket, Unknown}
use Rattle.search_form.specs.declared.form.Presence.{Presence}
use Rattle.search_form.specs.declared.form.Presence.TheVariants.{Choice, Optional}
use Rattle.search_form.specs.Table.{is_name, apart_in}
use Rattle.search_form.specs.Form.{form_at, line_among, is_choice, chosen, has, are_apart, suits, has_form, each_has_form}
use Rattle.search_walk.specs.Fault.{below_fault, above_fault, relation_fault, at_root, may_ask_if, bucket_fault, bucket_fault_in}
use Rattle.search_walk.specs.Kinds.{may_ask}
use Rattle.search_walk.specs.Names.{text_under, kind_named, nested_under, child_under, path_or_root, bucket_scope, bucket_scope_in, buckets_in}
use Rattle.search_walk.specs.Node.{nodes_at, nodes_among, level_under}
use Rattle.search_walk.specs.declared.refusal.SearchRefusal.TheVariants.{UnknownPath, PathOutOfScope, UnknownRelation}
use Rattle.query_parser.specs.Buckets.{or_root, field_under, join_form, form_in, form_of, buckets_name, buckets_at, buckets_among, bucket_at, buckets_under, buckets_inside}
use Rattle.query_parser.proofs.Clauses.{at_is}
use Rattle.query_parser.proofs.Faults.{Clean, node, none_of, clean_head, clean_parts}
use Rattle.query_parser.proofs.Formed.{IsChosen, suits_parts, chosen_formed, member_formed, member_clean, number_within, count_taken, one_is_boost}
use Rattle.query_parser.proofs.Found.{by_test, by_option, nested_found, field_found, child_found}
use Rattle.query_parser.proofs.Leaves.{fine_if}
use Rattle.query_parser.proofs.Members.{buckets_there, buckets_absent}
use Rattle.query_parser.proofs.SortClauses.{by_choice}

-- ---- the names of a bucket

each_choice : (Q : Presence × Form → Type 0) (name : Seq ℕ) (lines : Seq (Seq ℕ × Presence × Form)) (other : Presence × Form) → AllByRecursion (λ (l : Seq ℕ × Presence × Form). bytes_eq name l.0 ≡ true → Q (l.1, l.2)) lines → Q other → Q (line_among name lines other)
each_choice Q name [] other all last = last
each_choice Q name (l ∷ lines) other all last =
    by_test (bytes_eq name l.0) (λ same. rw same (all.0 same)) (λ apart. rw apart (each_choice Q name lines other all.1 last))

no_unknown : (inner : Bool) (v : JsonValue) → has_form inner Unknown v ≡ true → ⊥
no_unknown inner null h = false≢true h
no_unknown inner (bool b) h = false≢true h
no_unknown inner (whole z) h = false≢true h
no_unknown inner (text s) h = false≢true h
no_unknown inner (list ds) h = false≢true h
no_unknown inner (object ms) h = false≢true h

bucket_named : (inner : Bool) (name : Seq ℕ) (v : JsonValue) → has_form inner (form_at Buckets name) v ≡ true → form_at Buckets name ≡ Bucket
bucket_named inner name v =
    each_choice (λ p. has_form inner p.1 v ≡ true → p.1 ≡ Bucket) name ((codes "doc_count", Optional, Unknown) ∷ (codes "key", Optional, Unknown) ∷ []) (Optional, if is_name name then Bucket else Unknown)
    ((λ is h. absurd (no_unknown inner v h)), ((λ is h. absurd (no_unknown inner v h)), tt))
    (by_choice (λ f. has_form inner f v ≡ true → f ≡ Bucket) (is_name name) Bucket Unknown (λ is h. refl) (λ no h. absurd (no_unknown inner v h)))

-- ---- metrics have no buckets inside

apart_each : (ms : Members) (pairs : Seq (Seq ℕ × Seq ℕ)) → are_apart pairs ms ≡ true → AllByRecursion (λ (p : Seq ℕ × Seq ℕ). has ms p.1 ≡ true → has ms p.0 ≡ false) pairs
apart_each ms [] h = tt
apart_each ms (p ∷ pairs) h =
    let parts = and_parts (not (has ms p.0 && has ms p.1)) (are_apart pairs ms) h in
    (one (has ms p.0) (has ms p.1) parts.0, apart_each ms pairs parts.1)
  where
    one : (x y : Bool) → not (x && y) ≡ true → y ≡ true → x ≡ false
    one true true h e = absurd (false≢true h)
    one true false h e = absurd (false≢true e)
    one false y h e = refl

absent : (ms : Members) (name : Seq ℕ) → has ms name ≡ false → member_of ms name ≡ None
absent ms name = by_option (λ o. is_some o ≡ false → o ≡ None) (member_of ms name) (λ is h. refl) (λ d is h. absurd (false≢true (sym h)))

there_is : (ms : Members) (c : Seq ℕ × Form × JsonValue) (name : Seq ℕ) → member_of ms c.0 ≡ Some c.2 → bytes_eq c.0 name ≡ true → has ms name ≡ true
there_is ms c name e same = subst (λ n. has ms n ≡ true) ((bytes_eq-Decides c.0 name).0 same) (ap (λ (o : Option JsonValue). is_some o) e)

abbrev bucket_lines : Seq (Seq ℕ × Presence × Form)
bucket_lines =
    (codes "filter", Choice, Query)
    ∷ (codes "nested", Choice, NestedBucket)
    ∷ (codes "reverse_nested", Choice, ReverseNestedBucket)
    ∷ (codes "terms", Choice, TermsBucket)
    ∷ (codes "min", Choice, Metric)
    ∷ (codes "max", Choice, Metric)
    ∷ (codes "sum", Choice, Metric)
    ∷ (codes "value_count", Choice, ValueCount)
    ∷ (codes "children", Choice, JoinBucket)
    ∷ (codes "parent", Choice, JoinBucket)
    ∷ (codes "aggs", Optional, Buckets)
    ∷ (codes "aggregations", Optional, Buckets) ∷ []

module _ (m : Mapping) where
  no_buckets : (inside : Option ℕ) (ms : Members) → has ms (codes "aggs") ≡ false → has ms (codes "aggregations") ≡ false → definitions_of (buckets_under m inside (buckets_name ms) ms) ≡ no_definitions
  unfolding buckets_name
  no_buckets inside ms h g =
      by_choice (λ name. definitions_of (buckets_under m inside name ms) ≡ no_definitions) (has ms (codes "aggs")) (codes "aggs") (codes "aggregations")
      (λ held. absurd (false≢true (sym h ∙ held)))
      (λ no. ap (λ (ds : Seq (Definition Agg)). definitions_of ds) (buckets_absent m inside (codes "aggregations") ms (absent ms (codes "aggregations") g)))

  -- ---- uses of fields

  summed_is : (kind : Kind) → may_ask Metric kind ≡ true → (uses_of kind).summed ≡ true
  summed_is Text h = h
  summed_is Keyword h = h
  summed_is Long h = h
  summed_is Boolean h = h
  summed_is Date h = h
  summed_is Object h = h
  summed_is NestedKind h = h
  summed_is Join h = h

  bucketed_is : (kind : Kind) → may_ask TermsBucket kind ≡ true → (uses_of kind).sorted ≡ true
  bucketed_is Text h = h
  bucketed_is Keyword h = h
  bucketed_is Long h = h
  bucketed_is Boolean h = h
  bucketed_is Date h = h
  bucketed_is Object h = h
  bucketed_is NestedKind h = h
  bucketed_is Join h = h

  counted_is : (kind : Kind) → may_ask ValueCount kind ≡ true → (uses_of kind).sorted ≡ true
  counted_is kind h = bucketed_is kind h

  use_is : (use_of : Uses → Bool) (form : Form) (path : Seq ℕ) → ((kind : Kind) → may_ask form kind ≡ true → use_of (uses_of kind) ≡ true) → may_ask_if (kind_named m path) form ≡ true → IsUse use_of m (field_named m path)
  use_is use_of form path kinds =
      by_option (λ o. may_ask_if (option_map (kind_at m) o) form ≡ true → IsUse use_of m o) (field_named m path)
      (λ is h. tt)
      (λ f is h. (field_found m path f is, kinds (kind_at m f) h))

  -- ---- the forms of buckets

  -- a form is resolved in its scope, and gives objects of the scope inside it
  record IsGood (s : ℕ) (inside : Option ℕ) (form : AggForm) (inner : Definitions Agg) : Type 0 where
    scope_is : inside ≡ Some (scope_of_form s form)
    form_is : IsForm m s form inner

  abbrev BucketIs : Bool → ℕ → ℕ → Seq ℕ → Definitions Agg → JsonValue → Presence × Form → Type 0
  BucketIs inner s level name ds v p =
      is_choice p.0 ≡ true → has_form inner p.1 v ≡ true → bucket_fault_in m s p.1 v ≡ None → Clean m (nodes_at m (bucket_scope_in m s p.1 v) level p.1 v)
      → IsGood s (bucket_scope_in m s p.1 v) (form_in m (Some s) (bucket_scope_in m s p.1 v) name p.1 v) ds

  filter_is : (inner : Bool) (s level : ℕ) (name : Seq ℕ) (ds : Definitions Agg) (v : JsonValue) → BucketIs inner s level name ds v (Choice, Query)
  filter_is inner s level name ds (object ms) c h f e = record { scope_is = refl; form_is = at_is m inner s level (object ms) h e }
  filter_is inner s level name ds null c h f e = record { scope_is = refl; form_is = (tt, one_is_boost) }
  filter_is inner s level name ds (bool b) c h f e = record { scope_is = refl; form_is = (tt, one_is_boost) }
  filter_is inner s level name ds (whole z) c h f e = record { scope_is = refl; form_is = (tt, one_is_boost) }
  filter_is inner s level name ds (text t) c h f e = record { scope_is = refl; form_is = (tt, one_is_boost) }
  filter_is inner s level name ds (list es) c h f e = record { scope_is = refl; form_is = (tt, one_is_boost) }

  nested_is : (inner : Bool) (s level : ℕ) (name : Seq ℕ) (ds : Definitions Agg) (v : JsonValue) → BucketIs inner s level name ds v (Choice, NestedBucket)
  nested_is inner s level name ds (object ms) c h f e =
      by_option (λ o. below_fault m s false o ≡ None → IsGood s o (Nested (or_root o)) ds) (nested_under m ms)
      (λ is g. let none : Some UnknownPath ≡ None = g in cc)
      (λ p is g.
      let below : is_above m s p ≡ true = by_test (is_above m s p) (λ held. held) (λ failed. let none : Some PathOutOfScope ≡ None = rw failed at g in cc) in
      record { scope_is = refl; form_is = (below, nested_found m (text_under ms (codes "path")) p is) })
      f
  nested_is inner s level name ds null c h f e = absurd (false≢true h)
  nested_is inner s level name ds (bool b) c h f e = absurd (false≢true h)
  nested_is inner s level name ds (whole z) c h f e = absurd (false≢true h)
  nested_is inner s level name ds (text t) c h f e = absurd (false≢true h)
  nested_is inner s level name ds (list es) c h f e = absurd (false≢true h)

  reverse_is : (inner : Bool) (s level : ℕ) (name : Seq ℕ) (ds : Definitions Agg) (v : JsonValue) → BucketIs inner s level name ds v (Choice, ReverseNestedBucket)
  reverse_is inner s level name ds (object ms) c h f e =
      by_option (λ o. above_fault m s o ≡ None → IsGood s o (ReverseNested (or_root o)) ds) (path_or_root m (member_of ms (codes "path")))
      (λ is g. let none : Some UnknownPath ≡ None = g in cc)
      (λ p is g.
      let above : is_above m p s ≡ true = by_test (is_above m p s) (λ held. held) (λ failed. let none : Some PathOutOfScope ≡ None = rw failed at g in cc) in
      record { scope_is = refl; form_is = above })
      f
  reverse_is inner s level name ds null c h f e = absurd (false≢true h)
  reverse_is inner s level name ds (bool b) c h f e = absurd (false≢true h)
  reverse_is inner s level name ds (whole z) c h f e = absurd (false≢true h)
  reverse_is inner s level name ds (text t) c h f e = absurd (false≢true h)
  reverse_is inner s level name ds (list es) c h f e = absurd (false≢true h)

  terms_is : (inner : Bool) (s level : ℕ) (name : Seq ℕ) (ds : Definitions Agg) (v : JsonValue) → BucketIs inner s level name ds v (Choice, TermsBucket)
  terms_is inner s level name ds (object ms) c h f e =
      let formed = (and_parts (suits inner TermsBucket ms) (each_has_form inner TermsBucket ms) h).1 in
      let size = number_within 10 (member_of ms (codes "size")) (omega arith) (omega arith) (λ d is. count_taken inner d (member_formed inner TermsBucket (codes "size") ms d formed is)) in
      record {
        scope_is = refl;
        form_is = (use_is (λ u. u.sorted) TermsBucket (text_under ms (codes "field")) bucketed_is (fine_if (may_ask_if (kind_named m (text_under ms (codes "field"))) TermsBucket) f), size.0, size.1);
      }
  terms_is inner s level name ds null c h f e = absurd (false≢true h)
  terms_is inner s level name ds (bool b) c h f e = absurd (false≢true h)
  terms_is inner s level name ds (whole z) c h f e = absurd (false≢true h)
  terms_is inner s level name ds (text t) c h f e = absurd (false≢true h)
  terms_is inner s level name ds (list es) c h f e = absurd (false≢true h)

  metric_is : (inner : Bool) (s level : ℕ) (name : Seq ℕ) (ds : Definitions Agg) (v : JsonValue) → ds ≡ no_definitions → BucketIs inner s level name ds v (Choice, Metric)
  metric_is inner s level name ds (object ms) none c h f e =
      let used = use_is (λ u. u.summed) Metric (text_under ms (codes "field")) summed_is (fine_if (may_ask_if (kind_named m (text_under ms (codes "field"))) Metric) f) in
      by_choice (λ form. IsGood s (Some s) form ds) (bytes_eq name (codes "min")) (Min (field_under m (Some s) ms)) _ (λ is. record { scope_is = refl; form_is = (used, none) }) (λ no.
      by_choice (λ form. IsGood s (Some s) form ds) (bytes_eq name (codes "max")) (Max (field_under m (Some s) ms)) (Sum (field_under m (Some s) ms))
      (λ is. record { scope_is = refl; form_is = (used, none) }) (λ no. record { scope_is = refl; form_is = (used, none) }))
  metric_is inner s level name ds null none c h f e = absurd (false≢true h)
  metric_is inner s level name ds (bool b) none c h f e = absurd (false≢true h)
  metric_is inner s level name ds (whole z) none c h f e = absurd (false≢true h)
  metric_is inner s level name ds (text t) none c h f e = absurd (false≢true h)
  metric_is inner s level name ds (list es) none c h f e = absurd (false≢true h)

  count_is : (inner : Bool) (s level : ℕ) (name : Seq ℕ) (ds : Definitions Agg) (v : JsonValue) → ds ≡ no_definitions → BucketIs inner s level name ds v (Choice, ValueCount)
  count_is inner s level name ds (object ms) none c h f e =
      record {
        scope_is = refl;
        form_is = (use_is (λ u. u.sorted) ValueCount (text_under ms (codes "field")) counted_is (fine_if (may_ask_if (kind_named m (text_under ms (codes "field"))) ValueCount) f), none);
      }
  count_is inner s level name ds null none c h f e = absurd (false≢true h)
  count_is inner s level name ds (bool b) none c h f e = absurd (false≢true h)
  count_is inner s level name ds (whole z) none c h f e = absurd (false≢true h)
  count_is inner s level name ds (text t) none c h f e = absurd (false≢true h)
  count_is inner s level name ds (list es) none c h f e = absurd (false≢true h)

  join_is : (inner : Bool) (s level : ℕ) (name : Seq ℕ) (ds : Definitions Agg) (v : JsonValue) → BucketIs inner s level name ds v (Choice, JoinBucket)
  join_is inner s level name ds (object ms) c h f e =
      let parts = none_of (relation_fault false (child_under m ms)) (at_root s) f in
      let root : s ≡ 0 = by_test (s == 0) (λ held. eqb-true s 0 held) (λ failed. let none : Some PathOutOfScope ≡ None = rw failed at parts.1 in cc) in
      by_option (λ o. relation_fault false o ≡ None → IsGood s (Some 0) (join_form name (or_root o)) ds) (child_under m ms)
      (λ is g. let none : Some UnknownRelation ≡ None = g in cc)
      (λ r is g.
      let child = child_found m (text_under ms (codes "type")) r is in
      by_choice (λ form. IsGood s (Some 0) form ds) (bytes_eq name (codes "children")) (Children r) (Parent r)
      (λ yes. record { scope_is = refl; form_is = (root, child) }) (λ no. record { scope_is = refl; form_is = (root, child) }))
      parts.0
  join_is inner s level name ds null c h f e = absurd (false≢true h)
  join_is inner s level name ds (bool b) c h f e = absurd (false≢true h)
  join_is inner s level name ds (whole z) c h f e = absurd (false≢true h)
  join_is inner s level name ds (text t) c h f e = absurd (false≢true h)
  join_is inner s level name ds (list es) c h f e = absurd (false≢true h)

  not_chosen : (inner : Bool) (s level : ℕ) (name : Seq ℕ) (ds : Definitions Agg) (v : JsonValue) (form : Form) → BucketIs inner s level name ds v (Optional, form)
  not_chosen inner s level name ds v form c h f e = absurd (false≢true c)

  chosen_is : (inner : Bool) (s level : ℕ) (ms : Members) (c : Seq ℕ × Form × JsonValue) → (inside : Option ℕ) → are_apart (apart_in Bucket) ms ≡ true → IsChosen inner Bucket ms c
      → bucket_fault_in m s c.1 c.2 ≡ None → Clean m (nodes_at m (bucket_scope_in m s c.1 c.2) level c.1 c.2)
      → IsGood s (bucket_scope_in m s c.1 c.2) (form_in m (Some s) (bucket_scope_in m s c.1 c.2) c.0 c.1 c.2) (definitions_of (buckets_under m inside (buckets_name ms) ms))
  chosen_is inner s level ms c inside apart is f e =
      subst (BucketIs inner s level c.0 inside_it c.2) is.line
      (each_choice (BucketIs inner s level c.0 inside_it c.2) c.0 bucket_lines (Optional, Unknown) (
        (λ same. filter_is inner s level c.0 inside_it c.2),
        (
          (λ same. nested_is inner s level c.0 inside_it c.2),
          (
            (λ same. reverse_is inner s level c.0 inside_it c.2),
            (
              (λ same. terms_is inner s level c.0 inside_it c.2),
              (
                (λ same. metric_is inner s level c.0 inside_it c.2 (alone (pairs.1.0 (there_is ms c (codes "min") is.there same)) (pairs.1.1.1.1.1.0 (there_is ms c (codes "min") is.there same)))),
                (
                  (λ same. metric_is inner s level c.0 inside_it c.2 (alone (pairs.1.1.0 (there_is ms c (codes "max") is.there same)) (pairs.1.1.1.1.1.1.0 (there_is ms c (codes "max") is.there same)))),
                  (
                    (λ same. metric_is inner s level c.0 inside_it c.2 (alone (pairs.1.1.1.0 (there_is ms c (codes "sum") is.there same)) (pairs.1.1.1.1.1.1.1.0 (there_is ms c (codes "sum") is.there same)))),
                    (
                      (λ same. count_is inner s level c.0 inside_it c.2 (alone (pairs.1.1.1.1.0 (there_is ms c (codes "value_count") is.there same)) (pairs.1.1.1.1.1.1.1.1.0 (there_is ms c (codes "value_count") is.there same)))),
                      (
                        (λ same. join_is inner s level c.0 inside_it c.2),
                        (
                          (λ same. join_is inner s level c.0 inside_it c.2),
                          (
                            (λ same. not_chosen inner s level c.0 inside_it c.2 Buckets),
                            (
                              (λ same. not_chosen inner s level c.0 inside_it c.2 Buckets),
                              tt,
                            ),
                          ),
                        ),
                      ),
                    ),
                  ),
                ),
              ),
            ),
          ),
        ),
      )
      (not_chosen inner s level c.0 inside_it c.2 Unknown))
      refl is.formed f e
    where
      inside_it : Definitions Agg
      inside_it = definitions_of (buckets_under m inside (buckets_name ms) ms)

      pairs : AllByRecursion (λ (p : Seq ℕ × Seq ℕ). has ms p.1 ≡ true → has ms p.0 ≡ false) (apart_in Bucket)
      pairs = apart_each ms (apart_in Bucket) apart

      alone : has ms (codes "aggs") ≡ false → has ms (codes "aggregations") ≡ false → inside_it ≡ no_definitions
      alone h g = no_buckets inside ms h g

  bucket_good : (inner : Bool) (s level : ℕ) (ms : Members) → suits inner Bucket ms ≡ true → each_has_form inner Bucket ms ≡ true → bucket_fault m s (chosen Bucket ms) ≡ None
      → Clean m (nodes_among m (bucket_scope m s (chosen Bucket ms)) level Bucket ms)
      → IsGood s (bucket_scope m s (chosen Bucket ms)) (form_of m (Some s) (bucket_scope m s (chosen Bucket ms)) (chosen Bucket ms)) (definitions_of (buckets_under m (bucket_scope m s (chosen Bucket ms)) (buckets_name ms) ms))
  bucket_good inner s level ms whole_object h f e =
      by_option (λ o. chosen Bucket ms ≡ o → bucket_fault m s o ≡ None → Clean m (nodes_among m (bucket_scope m s o) level Bucket ms) → IsGood s (bucket_scope m s o) (form_of m (Some s) (bucket_scope m s o) o) (definitions_of (buckets_under m (bucket_scope m s o) (buckets_name ms) ms)))
      (chosen Bucket ms)
      (λ none is g clean. record { scope_is = refl; form_is = (tt, one_is_boost) })
      (λ c some is g clean.
      let choice = chosen_formed inner Bucket ms c h is in
      let line : form_at Bucket c.0 ≡ c.1 = ap (λ (p : Presence × Form). p.1) choice.line in
      chosen_is inner s (level_under Bucket (form_at Bucket c.0) level) ms c (bucket_scope m s (Some c)) (suits_parts inner Bucket bucket_lines ms whole_object).2 choice g
      (subst (λ form. Clean m (nodes_at m (bucket_scope m s (Some c)) (level_under Bucket (form_at Bucket c.0) level) form c.2)) line
      (member_clean m (bucket_scope m s (Some c)) level Bucket c.0 ms c.2 clean choice.there)))
      refl f e

  name_line : (ms : Members) → form_at Bucket (buckets_name ms) ≡ Buckets
  unfolding buckets_name
  name_line ms = by_choice (λ name. form_at Bucket name ≡ Buckets) (has ms (codes "aggs")) (codes "aggs") (codes "aggregations") (λ is. refl) (λ no. refl)

  -- ---- all buckets

  object_is : (inner : Bool) (s level : ℕ) (name : Seq ℕ) (ms : Members)
      → ((q : ℕ) → Clean m (nodes_among m (Some q) level Bucket ms) → AreAggDefinitions m q (definitions_of (buckets_under m (Some q) (buckets_name ms) ms)))
      → suits inner Bucket ms ≡ true → each_has_form inner Bucket ms ≡ true → Clean m (nodes_at m (Some s) level Bucket (object ms)) → IsAggDefinition m s (bucket_at m (Some s) name (object ms))
  object_is inner s level name ms under whole_object h e =
      let parts = clean_head m (node (Some s) level Bucket (object ms)) (nodes_among m (bucket_scope m s (chosen Bucket ms)) level Bucket ms) e in
      let good = bucket_good inner s level ms whole_object h parts.0 parts.1 in
      let form : AggForm = form_of m (Some s) (bucket_scope m s (chosen Bucket ms)) (chosen Bucket ms) in (
        good.form_is,
        subst (λ o. AreAggDefinitions m (scope_of_form s form) (definitions_of (buckets_under m o (buckets_name ms) ms))) (sym good.scope_is)
            (under (scope_of_form s form) (subst (λ o. Clean m (nodes_among m o level Bucket ms)) good.scope_is parts.1)),
      )

  mutual
    pub buckets_are : (inner : Bool) (s level : ℕ) (v : JsonValue) → has_form inner Buckets v ≡ true → Clean m (nodes_at m (Some s) level Buckets v) → AreAggDefinitions m s (definitions_of (buckets_at m (Some s) v))
    buckets_are inner s level (object ms) h e = among_are inner s level ms (and_parts (suits inner Buckets ms) (each_has_form inner Buckets ms) h).1 e
    buckets_are inner s level null h e = tt
    buckets_are inner s level (bool b) h e = tt
    buckets_are inner s level (whole z) h e = tt
    buckets_are inner s level (text t) h e = tt
    buckets_are inner s level (list ds) h e = tt

    among_are : (inner : Bool) (s level : ℕ) (ms : Members) → each_has_form inner Buckets ms ≡ true → Clean m (nodes_among m (Some s) level Buckets ms) → AreAggDefinitions m s (definitions_of (buckets_among m (Some s) ms))
    among_are inner s level no_members h e = tt
    among_are inner s level (member k v ms) h e =
        let formed = and_parts (has_form inner (form_at Buckets k) v) (each_has_form inner Buckets ms) h in
        let clean = clean_parts m (nodes_at m (Some s) (level_under Buckets (form_at Buckets k) level) (form_at Buckets k) v) (nodes_among m (Some s) level Buckets ms) e in
        let named : form_at Buckets k ≡ Bucket = bucket_named inner k v formed.0 in (
          bucket_is inner s (level_under Buckets (form_at Buckets k) level) k v (subst (λ f. has_form inner f v ≡ true) named formed.0)
              (subst (λ f. Clean m (nodes_at m (Some s) (level_under Buckets (form_at Buckets k) level) f v)) named clean.0),
          among_are inner s level ms formed.1 clean.1,
        )

    bucket_is : (inner : Bool) (s level : ℕ) (name : Seq ℕ) (v : JsonValue) → has_form inner Bucket v ≡ true → Clean m (nodes_at m (Some s) level Bucket v) → IsAggDefinition m s (bucket_at m (Some s) name v)
    bucket_is inner s level name (object ms) h e =
        let formed = and_parts (suits inner Bucket ms) (each_has_form inner Bucket ms) h in
        object_is inner s level name ms (λ q clean. under_are inner q level Bucket (buckets_name ms) ms (name_line ms) formed.1 clean) formed.0 formed.1 e
    bucket_is inner s level name null h e = absurd (false≢true h)
    bucket_is inner s level name (bool b) h e = absurd (false≢true h)
    bucket_is inner s level name (whole z) h e = absurd (false≢true h)
    bucket_is inner s level name (text t) h e = absurd (false≢true h)
    bucket_is inner s level name (list ds) h e = absurd (false≢true h)

    under_are : (inner : Bool) (s level : ℕ) (form : Form) (name : Seq ℕ) (ms : Members) → form_at form name ≡ Buckets → each_has_form inner form ms ≡ true → Clean m (nodes_among m (Some s) level form ms) → AreAggDefinitions m s (definitions_of (buckets_under m (Some s) name ms))
    under_are inner s level form name no_members line h e = tt
    under_are inner s level form name (member k v ms) line h e =
        let formed = and_parts (has_form inner (form_at form k) v) (each_has_form inner form ms) h in
        let clean = clean_parts m (nodes_at m (Some s) (level_under form (form_at form k) level) (form_at form k) v) (nodes_among m (Some s) level form ms) e in
        by_test (bytes_eq k name)
        (λ same.
        let is : form_at form k ≡ Buckets = ap (form_at form) ((bytes_eq-Decides k name).0 same) ∙ line in
        rw same (buckets_are inner s (level_under form (form_at form k) level) v
        (subst (λ f. has_form inner f v ≡ true) is formed.0)
        (subst (λ f. Clean m (nodes_at m (Some s) (level_under form (form_at form k) level) f v)) is clean.0)))
        (λ other. rw other (under_are inner s level form name ms line formed.1 clean.1))

  -- the buckets of a body
  pub body_buckets : (body : Members) → ((d : JsonValue) → buckets_in body ≡ Some d → has_form true Buckets d ≡ true) → ((d : JsonValue) → buckets_in body ≡ Some d → Clean m (nodes_at m (Some 0) 1 Buckets d)) → AreAggDefinitions m 0 (definitions_of (buckets_inside m (Some 0) body))
  unfolding buckets_name
  body_buckets body h e =
      by_option (λ o. buckets_in body ≡ o → member_of body (buckets_name body) ≡ o → AreAggDefinitions m 0 (definitions_of (buckets_under m (Some 0) (buckets_name body) body))) (buckets_in body)
      (λ none is at. let empty = buckets_absent m (Some 0) (buckets_name body) body at in
      subst (λ (ds : Seq (Definition Agg)). AreAggDefinitions m 0 (definitions_of ds)) (sym empty) tt)
      (λ d some is at. let there = buckets_there m (Some 0) (buckets_name body) body d at in
      subst (λ (ds : Seq (Definition Agg)). AreAggDefinitions m 0 (definitions_of ds)) (sym there) (buckets_are true 0 1 d (h d is) (e d is)))
      refl same
    where
      same : member_of body (buckets_name body) ≡ buckets_in body
      same =
          by_option (λ o. member_of body (codes "aggs") ≡ o → member_of body (if is_some o then codes "aggs" else codes "aggregations") ≡ option_or o (member_of body (codes "aggregations"))) (member_of body (codes "aggs"))
          (λ none is. refl)
          (λ d some is. is)
          refl
