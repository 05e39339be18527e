-- A sort that is read and not refused is resolved in the scope in which it stands, and so are the keys of `search_after`.
use Rattle.std.proofs.Common.{◌≡◌, ℕ, List as Seq, Bool, true, false, ◌&&◌, ◌||◌, not, if◌then◌else◌, Option, Some, None, option_map, refl, sym, ap, ◌∙◌, subst, bytes_eq, codes, ◌≤◌, length, [], arith}
use Rattle.std.proofs.lemmas.Bool.{and_parts, false≢true, leb-true}
use Rattle.std.proofs.lemmas.Slice.Eq.{bytes_eq-Decides}
use Rattle.tree_json.specs.Value.{JsonValue, null, bool, whole, text, list, object, Elements, no_elements, element, Members, no_members, member, member_of}
use Rattle.mapping_body.specs.declared.kind.Kind.{Kind}
use Rattle.mapping_body.specs.declared.kind.Kind.TheVariants.{Text, Keyword, Long, Boolean, Date, Object, Nested, Join}
use Rattle.mapping.specs.Mapping.{Mapping, field_named, kind_at, is_above}
use Rattle.query_ast.specs.Resolved.{IsFilter, IsChain, IsModeOf, IsMissingOf, IsSortKey, AreSorts}
use Rattle.query_ast.specs.Uses.{uses_of, is_written}
use Rattle.query_ast.specs.declared.sort.Missing.TheVariants.{Last, First}
use Rattle.query_ast.specs.declared.sort.Sort.{Sort}
use Rattle.query_ast.specs.declared.sort.SortMode.TheVariants.{Min, Max, Sum, Avg, Median}
use Rattle.search_form.specs.declared.form.Form.{Form}
use Rattle.search_form.specs.declared.form.Form.TheVariants.{SortClause, ScoreSort, FieldSort, SortNested, Sort as SortForm}
use Rattle.search_form.specs.declared.form.Presence.{Presence}
use Rattle.search_form.specs.declared.form.Presence.TheVariants.{Choice}
use Rattle.search_form.specs.Form.{elements_length, form_at, chosen, suits, suits_list, has_form, all_have_form, each_has_form}
use Rattle.search_walk.specs.Fault.{below_fault, sort_fault, field_sort_fault, mode_fault}
use Rattle.search_walk.specs.Kinds.{is_keyword, is_sortable, is_taken}
use Rattle.search_walk.specs.Names.{text_of, text_under, nested_under, kind_named}
use Rattle.search_walk.specs.Node.{nodes_at, nodes_in, nodes_among, level_under}
use Rattle.search_walk.specs.Sorts.{sort_name, sort_part, part_if, part_of, name_if, is_score, given_missing, is_summing}
use Rattle.search_walk.specs.declared.refusal.SearchRefusal.TheVariants.{PathOutOfScope, SortFieldUnmapped, BadSort}
use Rattle.query_parser.specs.Sorts.{filter_if, with_step, chain_at, chain_under, chain_if, descends, mode_named, missing_by, missing_word, missing_of, by_score_in, field_sort, sort_at, sorts_in, sorts_of, sorts_under}
use Rattle.query_parser.proofs.Clauses.{at_is}
use Rattle.query_parser.proofs.Faults.{Clean, node, clean_head, clean_parts}
use Rattle.query_parser.proofs.Formed.{member_formed, member_clean, chosen_formed}
use Rattle.query_parser.proofs.Found.{by_test, by_option, nested_found, field_found, value_taken}

pub by_choice : {A : Type 0} (P : A → Type 0) (t : Bool) (x y : A) → (t ≡ true → P x) → (t ≡ false → P y) → P (if t then x else y)
by_choice P true x y held failed = held refl
by_choice P false x y held failed = failed refl

abbrev score_part : Presence × Form
score_part = (Choice, ScoreSort)

abbrev field_part : Presence × Form
field_part = (Choice, FieldSort)

field_line : (name : Seq ℕ) → is_score name ≡ false → form_at SortClause name ≡ FieldSort
field_line name apart =
    by_choice (λ (p : Presence × Form). p.1 ≡ FieldSort) (is_score name) score_part field_part (λ held. absurd (false≢true (sym apart ∙ held))) (λ failed. refl)

-- ---- chains

module _ (m : Mapping) where
  filter_is : (inner : Bool) (p level : ℕ) (ms : Members) → each_has_form inner SortNested ms ≡ true → Clean m (nodes_among m (Some p) level SortNested ms) → IsFilter m p (filter_if m p (member_of ms (codes "filter")))
  filter_is inner p level ms h e =
      by_option (λ o. IsFilter m p (filter_if m p o)) (member_of ms (codes "filter"))
      (λ is. tt)
      (λ d is. at_is m inner p 1 d (member_formed inner SortNested (codes "filter") ms d h is) (member_clean m (Some p) level SortNested (codes "filter") ms d e is))

  step_is : (inner : Bool) (s level : ℕ) (ms : Members) → ((p : ℕ) → Clean m (nodes_among m (Some p) level SortNested ms) → IsChain m p (chain_under m (Some p) ms))
      → each_has_form inner SortNested ms ≡ true → Clean m (nodes_at m (Some s) level SortNested (object ms)) → IsChain m s (chain_at m (Some s) (object ms))
  step_is inner s level ms under h e =
      let parts = clean_head m (node (Some s) level SortNested (object ms)) (nodes_among m (nested_under m ms) level SortNested ms) e in
      go (nested_under m ms) refl parts.0 parts.1
    where
      go : (o : Option ℕ) → nested_under m ms ≡ o → below_fault m s false o ≡ None → Clean m (nodes_among m o level SortNested ms) → IsChain m s (with_step m o ms (chain_under m o ms))
      go None is f clean = tt
      go (Some p) is f clean = (
        (
          by_test (is_above m s p) (λ held. held) (λ failed. let none : Some PathOutOfScope ≡ None = rw failed at f in cc),
          nested_found m (text_under ms (codes "path")) p is,
        ),
        filter_is inner p level ms h clean,
        under p clean,
      )

  mutual
    pub chain_is : (inner : Bool) (s level : ℕ) (v : JsonValue) → has_form inner SortNested v ≡ true → Clean m (nodes_at m (Some s) level SortNested v) → IsChain m s (chain_at m (Some s) v)
    chain_is inner s level (object ms) h e =
        let formed = and_parts (suits inner SortNested ms) (each_has_form inner SortNested ms) h in
        step_is inner s level ms (λ p clean. chain_under_is inner p level ms formed.1 clean) formed.1 e
    chain_is inner s level null h e = tt
    chain_is inner s level (bool b) h e = tt
    chain_is inner s level (whole z) h e = tt
    chain_is inner s level (text t) h e = tt
    chain_is inner s level (list ds) h e = tt

    chain_under_is : (inner : Bool) (s level : ℕ) (ms : Members) → each_has_form inner SortNested ms ≡ true → Clean m (nodes_among m (Some s) level SortNested ms) → IsChain m s (chain_under m (Some s) ms)
    chain_under_is inner s level no_members h e = tt
    chain_under_is inner s level (member k v ms) h e =
        let formed = and_parts (has_form inner (form_at SortNested k) v) (each_has_form inner SortNested ms) h in
        let clean = clean_parts m (nodes_at m (Some s) (level_under SortNested (form_at SortNested k) level) (form_at SortNested k) v) (nodes_among m (Some s) level SortNested ms) e in
        by_test (bytes_eq k (codes "nested"))
        (λ same.
        let chain : form_at SortNested k ≡ SortNested = ap (form_at SortNested) ((bytes_eq-Decides k (codes "nested")).0 same) in
        rw same (chain_is inner s (level_under SortNested (form_at SortNested k) level) v
        (subst (λ f. has_form inner f v ≡ true) chain formed.0)
        (subst (λ f. Clean m (nodes_at m (Some s) (level_under SortNested (form_at SortNested k) level) f v)) chain clean.0)))
        (λ other. rw other (chain_under_is inner s level ms formed.1 clean.1))

  -- ---- a clause on a field

  pub record IsFieldSort (v : JsonValue) : Type 0 where
    pub field : ℕ
    pub named : field_named m (sort_name v) ≡ Some field
    pub sortable : is_sortable (kind_at m field) ≡ true
    pub mode : (is_keyword (kind_at m field) && is_summing (text_of (sort_part v (codes "mode")))) ≡ false
    pub missing : is_taken (kind_at m field) (given_missing v) ≡ true

  none_if : (bad : Bool) → (if bad then Some BadSort else None) ≡ None → bad ≡ false
  none_if true e = cc
  none_if false e = refl

  parts_false : (x y : Bool) → (x || not y) ≡ false → (x ≡ false) × (y ≡ true)
  parts_false false true e = (refl, refl)
  parts_false false false e = absurd (false≢true (sym e))
  parts_false true y e = absurd (false≢true (sym e))

  pub field_sorts : (v : JsonValue) → is_score (sort_name v) ≡ false → sort_fault m v ≡ None → IsFieldSort v
  field_sorts v apart e =
      let fault : field_sort_fault (kind_named m (sort_name v)) v ≡ None = rw apart at e in
      by_option (λ o. field_named m (sort_name v) ≡ o → field_sort_fault (option_map (kind_at m) o) v ≡ None → IsFieldSort v) (field_named m (sort_name v))
      (λ is named f. cc)
      (λ n is named f.
      by_test (is_sortable (kind_at m n))
      (λ held.
      let unsaid : mode_fault (kind_at m n) v ≡ None = rw held at f in
      let parts = parts_false (is_keyword (kind_at m n) && is_summing (text_of (sort_part v (codes "mode")))) (is_taken (kind_at m n) (given_missing v))
      (none_if ((is_keyword (kind_at m n) && is_summing (text_of (sort_part v (codes "mode")))) || not (is_taken (kind_at m n) (given_missing v))) unsaid) in
      record { field = n; named = is; sortable = held; mode = parts.0; missing = parts.1 })
      (λ failed. let none : Some SortFieldUnmapped ≡ None = rw failed at f in cc))
      refl fault

  -- of the kinds that sort, the keywords alone are texts
  plain_unless : (kind : Kind) (summing : Bool) → is_sortable kind ≡ true → (is_keyword kind && summing) ≡ false → summing ≡ true → is_written kind ≡ false
  plain_unless Keyword summing h apart is = absurd (false≢true (sym apart ∙ is))
  plain_unless Text summing h apart is = absurd (false≢true h)
  plain_unless Long summing h apart is = refl
  plain_unless Boolean summing h apart is = refl
  plain_unless Date summing h apart is = refl
  plain_unless Object summing h apart is = refl
  plain_unless Nested summing h apart is = refl
  plain_unless Join summing h apart is = refl

  summing_word : (word name : Seq ℕ) → is_summing name ≡ true → bytes_eq word name ≡ true → is_summing word ≡ true
  summing_word word name h same = subst (λ w. is_summing w ≡ true) (sym ((bytes_eq-Decides word name).0 same)) h

  mode_is : (kind : Kind) (descending : Bool) (word : Seq ℕ) → is_sortable kind ≡ true → (is_keyword kind && is_summing word) ≡ false → IsModeOf kind (mode_named descending word)
  mode_is kind descending word h apart =
      by_choice (IsModeOf kind) (bytes_eq word (codes "min")) Min _ (λ is. tt) (λ no.
      by_choice (IsModeOf kind) (bytes_eq word (codes "max")) Max _ (λ is. tt) (λ no.
      by_choice (IsModeOf kind) (bytes_eq word (codes "sum")) Sum _ (λ is. plain_unless kind (is_summing word) h apart (summing_word word (codes "sum") refl is)) (λ no.
      by_choice (IsModeOf kind) (bytes_eq word (codes "avg")) Avg _ (λ is. plain_unless kind (is_summing word) h apart (summing_word word (codes "avg") refl is)) (λ no.
      by_choice (IsModeOf kind) (bytes_eq word (codes "median")) Median _ (λ is. plain_unless kind (is_summing word) h apart (summing_word word (codes "median") refl is)) (λ no.
      by_choice (IsModeOf kind) descending Max Min (λ is. tt) (λ no. tt))))))

  missing_is : (kind : Kind) (v : JsonValue) → is_taken kind (given_missing v) ≡ true → IsMissingOf kind (missing_of (Some kind) v)
  missing_is kind v =
      by_option (λ o. is_taken kind o ≡ true → IsMissingOf kind (missing_by (Some kind) o (missing_word v))) (given_missing v)
      (λ is h. by_choice (IsMissingOf kind) (bytes_eq (text_of (sort_part v (codes "missing"))) (codes "_first")) First Last (λ is. tt) (λ no. tt))
      (λ d is h. value_taken kind d h)

  sorted_is : (kind : Kind) → is_sortable kind ≡ true → (uses_of kind).sorted ≡ true
  sorted_is Text h = h
  sorted_is Keyword h = h
  sorted_is Long h = h
  sorted_is Boolean h = h
  sorted_is Date h = h
  sorted_is Object h = h
  sorted_is Nested h = h
  sorted_is Join h = h

  -- the chain of a clause on a field
  part_chain : (inner : Bool) (s level : ℕ) (v : JsonValue) → has_form inner FieldSort v ≡ true → Clean m (nodes_at m (Some s) level FieldSort v) → IsChain m s (chain_if m (Some s) (part_of v (codes "nested")))
  part_chain inner s level (object cs) h e =
      let formed = (and_parts (suits inner FieldSort cs) (each_has_form inner FieldSort cs) h).1 in
      by_option (λ o. IsChain m s (chain_if m (Some s) o)) (member_of cs (codes "nested"))
      (λ is. tt)
      (λ d is. chain_is inner s level d (member_formed inner FieldSort (codes "nested") cs d formed is) (member_clean m (Some s) level FieldSort (codes "nested") cs d e is))
  part_chain inner s level null h e = tt
  part_chain inner s level (bool b) h e = tt
  part_chain inner s level (whole z) h e = tt
  part_chain inner s level (text t) h e = tt
  part_chain inner s level (list ds) h e = tt

  clause_chain : (inner : Bool) (s level : ℕ) (ms : Members) → is_score (sort_name (object ms)) ≡ false → each_has_form inner SortClause ms ≡ true → Clean m (nodes_among m (Some s) level SortClause ms)
      → IsChain m s (chain_if m (Some s) (sort_part (object ms) (codes "nested")))
  clause_chain inner s level ms apart h e =
      by_option (λ o. chosen SortClause ms ≡ o → is_score (name_if o) ≡ false → IsChain m s (chain_if m (Some s) (part_if o (codes "nested")))) (chosen SortClause ms)
      (λ is same no. tt)
      (λ c is same no.
      let choice = chosen_formed inner SortClause ms c h is in
      let line : form_at SortClause c.0 ≡ FieldSort = field_line c.0 no in
      part_chain inner s level c.2
      (subst (λ f. has_form inner f c.2 ≡ true) line (member_formed inner SortClause c.0 ms c.2 h choice.there))
      (subst (λ f. Clean m (nodes_at m (Some s) level f c.2)) line (member_clean m (Some s) level SortClause c.0 ms c.2 e choice.there)))
      refl apart

  -- ---- clauses

  abbrev IsSortOf : ℕ → Sort → Type 0
  IsSortOf s sort = IsSortKey m s sort.missing sort.key

  field_sort_is : (s : ℕ) (v : JsonValue) → is_score (sort_name v) ≡ false → sort_fault m v ≡ None → IsChain m s (chain_if m (Some s) (sort_part v (codes "nested"))) → IsSortOf s (field_sort m (Some s) v (field_named m (sort_name v)))
  field_sort_is s v apart e chain =
      let is = field_sorts v apart e in
      rw is.named (
        field_found m (sort_name v) is.field is.named,
        sorted_is (kind_at m is.field) is.sortable,
        mode_is (kind_at m is.field) (descends v) (text_of (sort_part v (codes "mode"))) is.sortable is.mode,
        missing_is (kind_at m is.field) v is.missing,
        chain,
      )

  sort_is : (s : ℕ) (v : JsonValue) → sort_fault m v ≡ None → (is_score (sort_name v) ≡ false → IsChain m s (chain_if m (Some s) (sort_part v (codes "nested")))) → IsSortOf s (sort_at m (Some s) v)
  sort_is s v e chain =
      by_choice (IsSortOf s) (is_score (sort_name v)) (by_score_in (descends v)) (field_sort m (Some s) v (field_named m (sort_name v)))
      (λ held. refl)
      (λ apart. field_sort_is s v apart e (chain apart))

  pub clause_fault_free : (s level : ℕ) (v : JsonValue) (inner : Bool) → has_form inner SortClause v ≡ true → Clean m (nodes_at m (Some s) level SortClause v) → sort_fault m v ≡ None
  clause_fault_free s level (object ms) inner h e = (clean_head m (node (Some s) level SortClause (object ms)) (nodes_among m (Some s) level SortClause ms) e).0
  clause_fault_free s level (text t) inner h e = (clean_head m (node (Some s) level SortClause (text t)) [] e).0
  clause_fault_free s level null inner h e = absurd (false≢true h)
  clause_fault_free s level (bool b) inner h e = absurd (false≢true h)
  clause_fault_free s level (whole z) inner h e = absurd (false≢true h)
  clause_fault_free s level (list ds) inner h e = absurd (false≢true h)

  pub sort_clause_is : (inner : Bool) (s level : ℕ) (v : JsonValue) → has_form inner SortClause v ≡ true → Clean m (nodes_at m (Some s) level SortClause v) → IsSortOf s (sort_at m (Some s) v)
  sort_clause_is inner s level (object ms) h e =
      let parts = clean_head m (node (Some s) level SortClause (object ms)) (nodes_among m (Some s) level SortClause ms) e in
      sort_is s (object ms) parts.0 (λ apart. clause_chain inner s level ms apart (and_parts (suits inner SortClause ms) (each_has_form inner SortClause ms) h).1 parts.1)
  sort_clause_is inner s level (text t) h e = sort_is s (text t) (clause_fault_free s level (text t) inner h e) (λ apart. tt)
  sort_clause_is inner s level null h e = absurd (false≢true h)
  sort_clause_is inner s level (bool b) h e = absurd (false≢true h)
  sort_clause_is inner s level (whole z) h e = absurd (false≢true h)
  sort_clause_is inner s level (list ds) h e = absurd (false≢true h)

  sorts_in_is : (inner : Bool) (s level : ℕ) (ds : Elements) → all_have_form inner SortClause ds ≡ true → Clean m (nodes_in m (Some s) level SortClause ds) → AreSorts m s (sorts_in m (Some s) ds)
  sorts_in_is inner s level no_elements h e = tt
  sorts_in_is inner s level (element d ds) h e =
      let formed = and_parts (has_form inner SortClause d) (all_have_form inner SortClause ds) h in
      let clean = clean_parts m (nodes_at m (Some s) level SortClause d) (nodes_in m (Some s) level SortClause ds) e in
      (sort_clause_is inner s level d formed.0 clean.0, sorts_in_is inner s level ds formed.1 clean.1)

  sorts_of_is : (inner : Bool) (s level : ℕ) (v : JsonValue) → has_form inner SortForm v ≡ true → Clean m (nodes_at m (Some s) level SortForm v) → AreSorts m s (sorts_of m (Some s) (Some v))
  sorts_of_is inner s level (list no_elements) h e = (refl, tt)
  sorts_of_is inner s level (list (element d ds)) h e =
      sorts_in_is inner s level (element d ds) (and_parts (suits_list SortForm (element d ds)) (all_have_form inner SortClause (element d ds)) h).1 e
  sorts_of_is inner s level (object ms) h e = (sort_clause_is inner s level (object ms) h e, tt)
  sorts_of_is inner s level (text t) h e = (sort_clause_is inner s level (text t) h e, tt)
  sorts_of_is inner s level null h e = absurd (false≢true h)
  sorts_of_is inner s level (bool b) h e = absurd (false≢true h)
  sorts_of_is inner s level (whole z) h e = absurd (false≢true h)

  -- the sort of an object that has its form
  pub sorts_under_are : (inner : Bool) (s level : ℕ) (form : Form) (ms : Members) → form_at form (codes "sort") ≡ SortForm → each_has_form inner form ms ≡ true → Clean m (nodes_among m (Some s) level form ms) → AreSorts m s (sorts_under m (Some s) ms)
  sorts_under_are inner s level form ms line h e =
      by_option (λ o. AreSorts m s (sorts_of m (Some s) o)) (member_of ms (codes "sort"))
      (λ is. (refl, tt))
      (λ d is. sorts_of_is inner s (level_under form (form_at form (codes "sort")) level) d
      (subst (λ f. has_form inner f d ≡ true) line (member_formed inner form (codes "sort") ms d h is))
      (subst (λ f. Clean m (nodes_at m (Some s) (level_under form (form_at form (codes "sort")) level) f d)) line (member_clean m (Some s) level form (codes "sort") ms d e is)))

  pub sorts_are : (inner : Bool) (s level : ℕ) (o : Option JsonValue) → ((d : JsonValue) → o ≡ Some d → has_form inner SortForm d ≡ true) → ((d : JsonValue) → o ≡ Some d → Clean m (nodes_at m (Some s) level SortForm d)) → AreSorts m s (sorts_of m (Some s) o)
  sorts_are inner s level None h e = (refl, tt)
  sorts_are inner s level (Some d) h e = sorts_of_is inner s level d (h d refl) (e d refl)

-- ---- how many clauses there are

sorts_in_count : (m : Mapping) (scope : Option ℕ) (ds : Elements) → length (sorts_in m scope ds) ≡ elements_length ds
sorts_in_count m scope no_elements = refl
sorts_in_count m scope (element d ds) = omega (arith, sorts_in_count m scope ds)

pub sort_count : (m : Mapping) (inner : Bool) (s : ℕ) (o : Option JsonValue) → ((d : JsonValue) → o ≡ Some d → has_form inner SortForm d ≡ true) → (1 ≤ length (sorts_of m (Some s) o)) × (length (sorts_of m (Some s) o) ≤ 16)
sort_count m inner s None h = (omega arith, omega arith)
sort_count m inner s (Some (list no_elements)) h = (omega arith, omega arith)
sort_count m inner s (Some (list (element d ds))) h =
    let few : elements_length (element d ds) ≤ 16 = leb-true (elements_length (element d ds)) 16 (and_parts (suits_list SortForm (element d ds)) (all_have_form inner SortClause (element d ds)) (h (list (element d ds)) refl)).0 in
    (omega (arith, sorts_in_count m (Some s) ds), omega (arith, few, sorts_in_count m (Some s) ds))
sort_count m inner s (Some v) h = (omega arith, omega arith)
