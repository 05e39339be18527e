-- A query that is read and not refused is resolved in the scope in which it stands.
use Rattle.std.proofs.Common.{◌≡◌, ℕ, ◌≤◌, List as Seq, [], ◌∷◌, Bool, true, false, ◌&&◌, Option, Some, None, refl, ap, ◌∙◌, subst, bytes_eq, codes}
use Rattle.std.proofs.lemmas.Bool.{and_parts, false≢true}
use Rattle.std.proofs.lemmas.Slice.Eq.{bytes_eq-Decides}
use Rattle.std.specs.List.{AllByRecursion}
use Rattle.tree_json.specs.Value.{JsonValue, null, bool, whole, text, list, object, Elements, no_elements, element, Members, no_members, member}
use Rattle.mapping.specs.Mapping.{Mapping, scope_named, is_above}
use Rattle.score_math.specs.declared.score.ScoreMode.TheVariants.{Avg, Zero}
use Rattle.search_walk.specs.declared.refusal.SearchRefusal.TheVariants.{PathOutOfScope}
use Rattle.query_ast.specs.Clause.{clauses_of, nested, to_child, has_child, has_parent}
use Rattle.query_ast.specs.Resolved.{IsUpTo, IsResolved, AreResolved}
use Rattle.search_form.specs.declared.form.Form.{Form}
use Rattle.search_form.specs.declared.form.Form.TheVariants.{Query, MatchAll, MatchNone, Term, Terms, Range, Exists, Prefix, Match, MatchPhrase, Ids, BoolQuery, ConstantScore, DisMax, Nested, ToChild, HasChild, HasParent, ParentId, Queries, QueryList, Unknown, Text, ScoreMode, Positive, Flag, InnerHits}
use Rattle.search_form.specs.declared.form.Presence.{Presence}
use Rattle.search_form.specs.declared.form.Presence.TheVariants.{Required, Optional, Choice}
use Rattle.search_form.specs.Form.{form_at, line_among, suits, suits_list, allows_inner, has_form, all_have_form, each_has_form}
use Rattle.search_walk.specs.Fault.{below_fault, above_fault, ignores, fault_of}
use Rattle.search_walk.specs.Names.{text_under, flag_under, nested_under, child_under, parent_under, root_if}
use Rattle.search_walk.specs.Node.{nodes_at, nodes_in, nodes_among, level_under}
use Rattle.query_parser.specs.Queries.{least_of, clause_by, form_named, clause_at, clause_among, clause_named, clause_under, clauses_under, clauses_at, clauses_in}
use Rattle.query_parser.specs.Readings.{natural_under, boost_in, mode_in}
use Rattle.query_parser.proofs.Faults.{Clean, node, clean_head, clean_parts}
use Rattle.query_parser.proofs.Formed.{suits_parts, boost_is, one_is_boost, children_are}
use Rattle.query_parser.proofs.Found.{by_test, nested_found, child_found, parent_found}
use Rattle.query_parser.proofs.Leaves.{match_all_is, ids_is, exists_is, parent_id_is, term_is, terms_is, range_is, prefix_is, match_is, phrase_is}

-- ---- what stands under a query's name has one of the forms of queries, or none

each_line : (Q : Form → Type 0) (name : Seq ℕ) (lines : Seq (Seq ℕ × Presence × Form)) (other : Presence × Form) → AllByRecursion (λ (l : Seq ℕ × Presence × Form). Q l.2) lines → Q other.1 → Q (line_among name lines other).1
each_line Q name [] other all last = last
each_line Q name (l ∷ lines) other all last =
    by_test (bytes_eq name l.0) (λ same. rw same all.0) (λ apart. rw apart (each_line Q name lines other all.1 last))

abbrev query_lines : Seq (Seq ℕ × Presence × Form)
query_lines =
    (codes "match_all", Choice, MatchAll)
    ∷ (codes "match_none", Choice, MatchNone)
    ∷ (codes "term", Choice, Term)
    ∷ (codes "terms", Choice, Terms)
    ∷ (codes "range", Choice, Range)
    ∷ (codes "exists", Choice, Exists)
    ∷ (codes "prefix", Choice, Prefix)
    ∷ (codes "match", Choice, Match)
    ∷ (codes "match_phrase", Choice, MatchPhrase)
    ∷ (codes "ids", Choice, Ids)
    ∷ (codes "bool", Choice, BoolQuery)
    ∷ (codes "constant_score", Choice, ConstantScore)
    ∷ (codes "dis_max", Choice, DisMax)
    ∷ (codes "nested", Choice, Nested)
    ∷ (codes "to_child", Choice, ToChild)
    ∷ (codes "has_child", Choice, HasChild)
    ∷ (codes "has_parent", Choice, HasParent)
    ∷ (codes "parent_id", Choice, ParentId) ∷ []

module _ (m : Mapping) where
  -- ---- the clauses that lead elsewhere

  nested_is : (s level : ℕ) (ms : Members) → ((p : ℕ) → Clean m (nodes_among m (Some p) level Nested ms) → IsResolved m p (clause_under m (Some p) (codes "query") ms))
      → Clean m (nodes_at m (Some s) level Nested (object ms)) → IsResolved m s (clause_named m (Some s) Nested (object ms))
  unfolding clause_by
  nested_is s level ms under e =
      let parts = clean_head m (node (Some s) level Nested (object ms)) (nodes_among m (nested_under m ms) level Nested ms) e in
      go (nested_under m ms) refl parts.0 parts.1
    where
      go : (o : Option ℕ) → nested_under m ms ≡ o → below_fault m s (ignores ms) o ≡ None → Clean m (nodes_among m o level Nested ms) → IsResolved m s (nested o (clause_under m o (codes "query") ms) (mode_in Avg ms))
      go None is f clean = tt
      go (Some p) is f clean = (
        (
          by_test (is_above m s p) (λ held. held) (λ failed. let none : Some PathOutOfScope ≡ None = rw failed at f in cc),
          nested_found m (text_under ms (codes "path")) p is,
        ),
        under p clean,
      )

  to_child_is : (s level : ℕ) (ms : Members) → ((p : ℕ) → Clean m (nodes_among m (Some p) level ToChild ms) → IsResolved m p (clause_under m (Some p) (codes "query") ms))
      → Clean m (nodes_at m (Some s) level ToChild (object ms)) → IsResolved m s (clause_named m (Some s) ToChild (object ms))
  unfolding clause_by
  to_child_is s level ms under e =
      let parts = clean_head m (node (Some s) level ToChild (object ms)) (nodes_among m (scope_named m (text_under ms (codes "path"))) level ToChild ms) e in
      go (scope_named m (text_under ms (codes "path"))) parts.0 parts.1
    where
      go : (o : Option ℕ) → above_fault m s o ≡ None → Clean m (nodes_among m o level ToChild ms) → IsResolved m s (to_child o (clause_under m o (codes "query") ms))
      go None f clean = tt
      go (Some p) f clean = (
        by_test (is_above m p s) (λ held. held) (λ failed. let none : Some PathOutOfScope ≡ None = rw failed at f in cc),
        under p clean,
      )

  has_child_is : (inner : Bool) (s level : ℕ) (ms : Members) → (Clean m (nodes_among m (Some 0) level HasChild ms) → IsResolved m 0 (clause_under m (Some 0) (codes "query") ms))
      → has_form inner HasChild (object ms) ≡ true → Clean m (nodes_at m (Some s) level HasChild (object ms)) → IsResolved m s (clause_named m (Some s) HasChild (object ms))
  unfolding clause_by
  has_child_is inner s level ms under h e =
      let formed = and_parts (suits inner HasChild ms) (each_has_form (allows_inner inner HasChild ms) HasChild ms) h in
      let whole_object = suits_parts inner HasChild lines ms formed.0 in
      let children = children_are (allows_inner inner HasChild ms) ms formed.1 whole_object.3 in
      let parts = clean_head m (node (Some s) level HasChild (object ms)) (nodes_among m (root_if (child_under m ms)) level HasChild ms) e in
      go (child_under m ms) refl children parts.1
    where
      lines : Seq (Seq ℕ × Presence × Form)
      lines = (codes "type", Required, Text) ∷ (codes "query", Required, Query) ∷ (codes "score_mode", Optional, ScoreMode) ∷ (codes "min_children", Optional, Positive) ∷ (codes "max_children", Optional, Positive) ∷ (codes "ignore_unmapped", Optional, Flag) ∷ (codes "inner_hits", Optional, InnerHits) ∷ []

      go : (o : Option ℕ) → child_under m ms ≡ o → (1 ≤ least_of (natural_under ms (codes "min_children"))) × IsUpTo (least_of (natural_under ms (codes "min_children"))) (natural_under ms (codes "max_children"))
          → Clean m (nodes_among m (root_if o) level HasChild ms)
          → IsResolved m s (has_child o (clause_under m (root_if o) (codes "query") ms) (mode_in Zero ms) (least_of (natural_under ms (codes "min_children"))) (natural_under ms (codes "max_children")))
      go None is children clean = tt
      go (Some r) is children clean = (child_found m (text_under ms (codes "type")) r is, children.0, children.1, under clean)

  has_parent_is : (inner : Bool) (s level : ℕ) (ms : Members) → (Clean m (nodes_among m (Some 0) level HasParent ms) → IsResolved m 0 (clause_under m (Some 0) (codes "query") ms))
      → each_has_form inner HasParent ms ≡ true → Clean m (nodes_at m (Some s) level HasParent (object ms)) → IsResolved m s (clause_named m (Some s) HasParent (object ms))
  unfolding clause_by
  has_parent_is inner s level ms under h e =
      let parts = clean_head m (node (Some s) level HasParent (object ms)) (nodes_among m (root_if (parent_under m ms)) level HasParent ms) e in
      go (parent_under m ms) refl parts.1
    where
      go : (o : Option ℕ) → parent_under m ms ≡ o → Clean m (nodes_among m (root_if o) level HasParent ms)
          → IsResolved m s (has_parent o (clause_under m (root_if o) (codes "query") ms) (flag_under ms (codes "score")) (boost_in ms))
      go None is clean = tt
      go (Some r) is clean = (parent_found m (text_under ms (codes "parent_type")) r is, boost_is inner HasParent ms refl h, under clean)

  -- ---- all clauses

  -- what is proved of a form that stands under a query's name
  abbrev NamedIs : Bool → ℕ → ℕ → Members → Form → Type 0
  NamedIs inner s level ms form = has_form inner form (object ms) ≡ true → Clean m (nodes_at m (Some s) level form (object ms)) → IsResolved m s (clause_named m (Some s) form (object ms))

  inside : (inner : Bool) (form : Form) (ms : Members) → (suits inner form ms && each_has_form (allows_inner inner form ms) form ms) ≡ true → each_has_form (allows_inner inner form ms) form ms ≡ true
  inside inner form ms h = (and_parts (suits inner form ms) (each_has_form (allows_inner inner form ms) form ms) h).1

  leaf_clean : (form : Form) (level s : ℕ) (ms : Members) → Clean m (node (Some s) level form (object ms) ∷ nodes_among m (Some s) level form ms) → fault_of m (node (Some s) level form (object ms)) ≡ None
  leaf_clean form level s ms e = (clean_head m (node (Some s) level form (object ms)) (nodes_among m (Some s) level form ms) e).0

  mutual
    unfolding clause_by form_named

    pub at_is : (inner : Bool) (s level : ℕ) (v : JsonValue) → has_form inner Query v ≡ true → Clean m (nodes_at m (Some s) level Query v) → IsResolved m s (clause_at m (Some s) v)
    at_is inner s level (object ms) h e = among_is inner s level ms (inside inner Query ms h) (clean_head m (node (Some s) level Query (object ms)) (nodes_among m (Some s) level Query ms) e).1
    at_is inner s level null h e = (tt, one_is_boost)
    at_is inner s level (bool b) h e = (tt, one_is_boost)
    at_is inner s level (whole z) h e = (tt, one_is_boost)
    at_is inner s level (text t) h e = (tt, one_is_boost)
    at_is inner s level (list ds) h e = (tt, one_is_boost)

    among_is : (inner : Bool) (s level : ℕ) (ms : Members) → each_has_form inner Query ms ≡ true → Clean m (nodes_among m (Some s) level Query ms) → IsResolved m s (clause_among m (Some s) ms)
    among_is inner s level no_members h e = (tt, one_is_boost)
    among_is inner s level (member k v ms) h e =
        named_is inner s (level_under Query (form_at Query k) level) v k
        (and_parts (has_form inner (form_at Query k) v) (each_has_form inner Query ms) h).0
        (clean_parts m (nodes_at m (Some s) (level_under Query (form_at Query k) level) (form_at Query k) v) (nodes_among m (Some s) level Query ms) e).0

    named_is : (inner : Bool) (s level : ℕ) (v : JsonValue) (k : Seq ℕ) → has_form inner (form_at Query k) v ≡ true → Clean m (nodes_at m (Some s) level (form_at Query k) v) → IsResolved m s (clause_named m (Some s) (form_named k) v)
    named_is inner s level null k h e = (tt, one_is_boost)
    named_is inner s level (bool b) k h e = (tt, one_is_boost)
    named_is inner s level (whole z) k h e = (tt, one_is_boost)
    named_is inner s level (text t) k h e = (tt, one_is_boost)
    named_is inner s level (list ds) k h e = (tt, one_is_boost)
    named_is inner s level (object ms) k h e =
        each_line (NamedIs inner s level ms) k query_lines (Optional, Unknown) (
          (λ f c. match_all_is m s level inner ms (inside inner MatchAll ms f)),
          (
            (λ f c. (tt, one_is_boost)),
            (
              (λ f c. term_is m s level inner ms (inside inner Term ms f) (leaf_clean Term level s ms c)),
              (
                (λ f c. terms_is m s level inner ms (inside inner Terms ms f) (leaf_clean Terms level s ms c)),
                (
                  (λ f c. range_is m s level inner ms (inside inner Range ms f) (leaf_clean Range level s ms c)),
                  (
                    (λ f c. exists_is m s level inner ms (inside inner Exists ms f)),
                    (
                      (λ f c. prefix_is m s level inner ms (inside inner Prefix ms f) (leaf_clean Prefix level s ms c)),
                      (
                        (λ f c. match_is m s level inner ms (inside inner Match ms f) c.texts.0 (leaf_clean Match level s ms c)),
                        (
                          (λ f c. phrase_is m s level inner ms (inside inner MatchPhrase ms f) c.texts.0 (leaf_clean MatchPhrase level s ms c)),
                          (
                            (λ f c. ids_is m s level inner ms (inside inner Ids ms f)),
                            (
                              (λ f c. (
                                list_under_is inner s level BoolQuery (codes "must") ms refl (inside inner BoolQuery ms f) c,
                                list_under_is inner s level BoolQuery (codes "filter") ms refl (inside inner BoolQuery ms f) c,
                                list_under_is inner s level BoolQuery (codes "should") ms refl (inside inner BoolQuery ms f) c,
                                list_under_is inner s level BoolQuery (codes "must_not") ms refl (inside inner BoolQuery ms f) c,
                              )),
                              (
                                (λ f c. (under_is inner s level ConstantScore (codes "filter") ms refl (inside inner ConstantScore ms f) c, boost_is inner ConstantScore ms refl (inside inner ConstantScore ms f))),
                                (
                                  (λ f c. dis_under_is inner s level ms (inside inner DisMax ms f) c),
                                  (
                                    (λ f c. nested_is s level ms (λ p d. under_is inner p level Nested (codes "query") ms refl (inside inner Nested ms f) d) c),
                                    (
                                      (λ f c. to_child_is s level ms (λ p d. under_is false p level ToChild (codes "query") ms refl (inside inner ToChild ms f) d) c),
                                      (
                                        (λ f c. has_child_is inner s level ms (λ d. under_is (allows_inner inner HasChild ms) 0 level HasChild (codes "query") ms refl (inside inner HasChild ms f) d) f c),
                                        (
                                          (λ f c. has_parent_is (allows_inner inner HasParent ms) s level ms (λ d. under_is (allows_inner inner HasParent ms) 0 level HasParent (codes "query") ms refl (inside inner HasParent ms f) d) (inside inner HasParent ms f) c),
                                          (
                                            (λ f c. parent_id_is m s level inner ms (inside inner ParentId ms f)),
                                            tt,
                                          ),
                                        ),
                                      ),
                                    ),
                                  ),
                                ),
                              ),
                            ),
                          ),
                        ),
                      ),
                    ),
                  ),
                ),
              ),
            ),
          ),
        )
        (λ f c. absurd (false≢true f))
        h e

    pub under_is : (inner : Bool) (s level : ℕ) (form : Form) (name : Seq ℕ) (ms : Members) → form_at form name ≡ Query → each_has_form inner form ms ≡ true → Clean m (nodes_among m (Some s) level form ms) → IsResolved m s (clause_under m (Some s) name ms)
    under_is inner s level form name no_members is h e = (tt, one_is_boost)
    under_is inner s level form name (member k v ms) is h e =
        let formed = and_parts (has_form inner (form_at form k) v) (each_has_form inner form ms) h in
        let clean = clean_parts m (nodes_at m (Some s) (level_under form (form_at form k) level) (form_at form k) v) (nodes_among m (Some s) level form ms) e in
        by_test (bytes_eq k name)
        (λ same.
        let query : form_at form k ≡ Query = ap (form_at form) ((bytes_eq-Decides k name).0 same) ∙ is in
        rw same (at_is inner s (level_under form (form_at form k) level) v
        (subst (λ f. has_form inner f v ≡ true) query formed.0)
        (subst (λ f. Clean m (nodes_at m (Some s) (level_under form (form_at form k) level) f v)) query clean.0)))
        (λ other. rw other (under_is inner s level form name ms is formed.1 clean.1))

    list_under_is : (inner : Bool) (s level : ℕ) (form : Form) (name : Seq ℕ) (ms : Members) → form_at form name ≡ Queries → each_has_form inner form ms ≡ true → Clean m (nodes_among m (Some s) level form ms) → AreResolved m s (clauses_of (clauses_under m (Some s) name ms))
    list_under_is inner s level form name no_members is h e = tt
    list_under_is inner s level form name (member k v ms) is h e =
        let formed = and_parts (has_form inner (form_at form k) v) (each_has_form inner form ms) h in
        let clean = clean_parts m (nodes_at m (Some s) (level_under form (form_at form k) level) (form_at form k) v) (nodes_among m (Some s) level form ms) e in
        by_test (bytes_eq k name)
        (λ same.
        let queries : form_at form k ≡ Queries = ap (form_at form) ((bytes_eq-Decides k name).0 same) ∙ is in
        rw same (list_at_is inner s (level_under form (form_at form k) level) v
        (subst (λ f. has_form inner f v ≡ true) queries formed.0)
        (subst (λ f. Clean m (nodes_at m (Some s) (level_under form (form_at form k) level) f v)) queries clean.0)))
        (λ other. rw other (list_under_is inner s level form name ms is formed.1 clean.1))

    list_at_is : (inner : Bool) (s level : ℕ) (v : JsonValue) → has_form inner Queries v ≡ true → Clean m (nodes_at m (Some s) level Queries v) → AreResolved m s (clauses_of (clauses_at m (Some s) v))
    list_at_is inner s level (list ds) h e = in_is inner s level ds (and_parts (suits_list Queries ds) (all_have_form inner Query ds) h).1 e
    list_at_is inner s level (object ms) h e = (among_is inner s level ms (inside inner Query ms h) (clean_head m (node (Some s) level Query (object ms)) (nodes_among m (Some s) level Query ms) e).1, tt)
    list_at_is inner s level null h e = ((tt, one_is_boost), tt)
    list_at_is inner s level (bool b) h e = ((tt, one_is_boost), tt)
    list_at_is inner s level (whole z) h e = ((tt, one_is_boost), tt)
    list_at_is inner s level (text t) h e = ((tt, one_is_boost), tt)

    dis_under_is : (inner : Bool) (s level : ℕ) (ms : Members) → each_has_form inner DisMax ms ≡ true → Clean m (nodes_among m (Some s) level DisMax ms) → AreResolved m s (clauses_of (clauses_under m (Some s) (codes "queries") ms))
    dis_under_is inner s level no_members h e = tt
    dis_under_is inner s level (member k v ms) h e =
        let formed = and_parts (has_form inner (form_at DisMax k) v) (each_has_form inner DisMax ms) h in
        let clean = clean_parts m (nodes_at m (Some s) (level_under DisMax (form_at DisMax k) level) (form_at DisMax k) v) (nodes_among m (Some s) level DisMax ms) e in
        by_test (bytes_eq k (codes "queries"))
        (λ same.
        let queries : form_at DisMax k ≡ QueryList = ap (form_at DisMax) ((bytes_eq-Decides k (codes "queries")).0 same) in
        rw same (dis_at_is inner s (level_under DisMax (form_at DisMax k) level) v
        (subst (λ f. has_form inner f v ≡ true) queries formed.0)
        (subst (λ f. Clean m (nodes_at m (Some s) (level_under DisMax (form_at DisMax k) level) f v)) queries clean.0)))
        (λ other. rw other (dis_under_is inner s level ms formed.1 clean.1))

    dis_at_is : (inner : Bool) (s level : ℕ) (v : JsonValue) → has_form inner QueryList v ≡ true → Clean m (nodes_at m (Some s) level QueryList v) → AreResolved m s (clauses_of (clauses_at m (Some s) v))
    dis_at_is inner s level (list ds) h e = in_is inner s level ds (and_parts (suits_list QueryList ds) (all_have_form inner Query ds) h).1 e
    dis_at_is inner s level (object ms) h e = absurd (false≢true h)
    dis_at_is inner s level null h e = ((tt, one_is_boost), tt)
    dis_at_is inner s level (bool b) h e = ((tt, one_is_boost), tt)
    dis_at_is inner s level (whole z) h e = ((tt, one_is_boost), tt)
    dis_at_is inner s level (text t) h e = ((tt, one_is_boost), tt)

    in_is : (inner : Bool) (s level : ℕ) (ds : Elements) → all_have_form inner Query ds ≡ true → Clean m (nodes_in m (Some s) level Query ds) → AreResolved m s (clauses_of (clauses_in m (Some s) ds))
    in_is inner s level no_elements h e = tt
    in_is inner s level (element d ds) h e =
        let formed = and_parts (has_form inner Query d) (all_have_form inner Query ds) h in
        let clean = clean_parts m (nodes_at m (Some s) level Query d) (nodes_in m (Some s) level Query ds) e in
        (at_is inner s level d formed.0 clean.0, in_is inner s level ds formed.1 clean.1)
