-- A body that is read and not refused is a search that is resolved under its mapping.
use Rattle.std.proofs.Common.{◌≡◌, ℕ, ◌+◌, ◌<◌, ◌≤◌, ◌==◌, List as Seq, [], ◌∷◌, ◌++◌, length, Bool, true, false, if◌then◌else◌, nat_lt, Option, Some, None, inl, refl, sym, subst, arith, codes}
use Rattle.std.proofs.lemmas.Bool.{and_parts, false≢true, eqb-true, ltb-false}
use Rattle.std.specs.List.{list_any}
use Rattle.std.specs.Option.{option_or}
use Rattle.tree_json.specs.Value.{JsonValue, null, bool, whole, text, list, object, Elements, no_elements, element, Members, member_of}
use Rattle.mapping.specs.Mapping.{Mapping, IsAbove}
use Rattle.query_ast.specs.Definition.{definitions_of}
use Rattle.query_ast.specs.Resolved.{IsResolved, AreSorts, IsAfter, AreInnerDefinitions, IsSearch}
use Rattle.search_form.specs.declared.form.Form.{Form}
use Rattle.search_form.specs.declared.form.Form.TheVariants.{Body, Query, Sort, SortClause, SearchAfter, Buckets, Whole, Pit, Flag, True}
use Rattle.search_form.specs.declared.form.Presence.{Presence}
use Rattle.search_form.specs.declared.form.Presence.TheVariants.{Optional}
use Rattle.search_form.specs.Form.{suits, suits_list, clause_count, elements_length, starts_at_0, after_fits, has_form, all_have_form, each_has_form, is_search_body}
use Rattle.search_form.specs.Texts.{AreTexts, EachAreTexts}
use Rattle.search_walk.specs.After.{keys_are_taken}
use Rattle.search_walk.specs.Fault.{first_fault}
use Rattle.search_walk.specs.Names.{buckets_in}
use Rattle.search_walk.specs.Node.{Node, nodes_at, nodes_in, nodes_if, nodes_under, after_nodes, after_nodes_if, hit_nodes, bucket_nodes, nodes_of}
use Rattle.search_walk.specs.Refusal.{window, has_large_window, inner_names, has_twice, clause_count as counted_clauses, is_deep, has_many_terms, most_clauses, limit_refusal, first_refusal}
use Rattle.search_walk.specs.declared.refusal.SearchRefusal.{SearchRefusal}
use Rattle.search_walk.specs.declared.refusal.SearchRefusal.TheVariants.{DuplicateInnerName, WindowTooLarge, InnerWindowTooLarge, TooManyClauses, QueryTooDeep, TooManyTerms}
use Rattle.query_parser.specs.InnerHits.{inner_if}
use Rattle.query_parser.specs.Queries.{clause_under}
use Rattle.query_parser.specs.Readings.{number_under}
use Rattle.query_parser.specs.Search.{after_of, search_by, search_of}
use Rattle.query_parser.specs.Sorts.{sorts_under}
use Rattle.query_parser.proofs.AfterKeys.{AreFine, AreFineIf, keys_are}
use Rattle.query_parser.proofs.BucketDefinitions.{body_buckets}
use Rattle.query_parser.proofs.Clauses.{at_is}
use Rattle.query_parser.proofs.Faults.{Clean, node, none_of, clean_head, clean_parts}
use Rattle.query_parser.proofs.Formed.{suits_parts, member_formed, one_is_boost}
use Rattle.query_parser.proofs.Found.{by_option}
use Rattle.query_parser.proofs.InnerDefinitions.{Passes, passes_parts, no_more, at_inner, append_are}
use Rattle.query_parser.proofs.Leaves.{fine_if}
use Rattle.query_parser.proofs.Members.{clause_there, clause_absent}
use Rattle.query_parser.proofs.Texts.{body_texts}
use Rattle.query_parser.proofs.SortClauses.{sort_count, sorts_are, clause_fault_free}

-- ---- the limits that a body which isn't refused keeps

pub record Keeps (body : Members) (nodes : Seq Node) : Type 0 where
  pub window : window 10 body ≤ 10_000
  pub small : list_any has_large_window nodes ≡ false

keeps_limits : (body : Members) (nodes : Seq Node) → limit_refusal body nodes ≡ None → Keeps body nodes
keeps_limits body nodes e = go (has_twice (inner_names nodes)) (nat_lt 10_000 (window 10 body)) refl (list_any has_large_window nodes) refl e
  where
    rest : Option SearchRefusal
    rest =
        if nat_lt most_clauses (counted_clauses nodes body) then Some TooManyClauses
        else (if list_any is_deep nodes then Some QueryTooDeep
        else (if list_any has_many_terms nodes then Some TooManyTerms
        else None))

    go : (twice large : Bool) → nat_lt 10_000 (window 10 body) ≡ large → (some : Bool) → list_any has_large_window nodes ≡ some
        → (if twice then Some DuplicateInnerName else (if large then Some WindowTooLarge else (if some then Some InnerWindowTooLarge else rest))) ≡ None → Keeps body nodes
    go true large is some was e = cc
    go false true is some was e = cc
    go false false is true was e = cc
    go false false is false was e = record { window = ltb-false 10_000 (window 10 body) is; small = was }

-- ---- the parts of a body

abbrev body_lines : Seq (Seq ℕ × Presence × Form)
body_lines =
    (codes "query", Optional, Query)
    ∷ (codes "from", Optional, Whole)
    ∷ (codes "size", Optional, Whole)
    ∷ (codes "sort", Optional, Sort)
    ∷ (codes "search_after", Optional, SearchAfter)
    ∷ (codes "aggs", Optional, Buckets)
    ∷ (codes "aggregations", Optional, Buckets)
    ∷ (codes "pit", Optional, Pit)
    ∷ (codes "_source", Optional, Flag)
    ∷ (codes "track_total_hits", Optional, True) ∷ []

module _ (m : Mapping) where
  part_clean : (form : Form) (o : Option JsonValue) (d : JsonValue) → Passes m (nodes_if m form o) → o ≡ Some d → Passes m (nodes_at m (Some 0) 1 form d)
  part_clean form o d p e = subst (λ n. Passes m (nodes_if m form n)) e p

  query_is : (body : Members) → each_has_form true Body body ≡ true → Passes m (nodes_under m Query (codes "query") body) → IsResolved m 0 (clause_under m (Some 0) (codes "query") body)
  query_is body h p =
      by_option (λ o. member_of body (codes "query") ≡ o → IsResolved m 0 (clause_under m (Some 0) (codes "query") body)) (member_of body (codes "query"))
      (λ none is. subst (IsResolved m 0) (sym (clause_absent m (Some 0) (codes "query") body is)) (tt, one_is_boost))
      (λ d some is. subst (IsResolved m 0) (sym (clause_there m (Some 0) (codes "query") body d is))
      (at_is m true 0 1 d (member_formed true Body (codes "query") body d h is) (part_clean Query (member_of body (codes "query")) d p is).clean))
      refl

  body_sorts : (body : Members) → each_has_form true Body body ≡ true → Passes m (nodes_under m Sort (codes "sort") body) → AreSorts m 0 (sorts_under m (Some 0) body)
  body_sorts body h p =
      sorts_are m true 0 1 (member_of body (codes "sort")) (λ d is. member_formed true Body (codes "sort") body d h is) (λ d is. (part_clean Sort (member_of body (codes "sort")) d p is).clean)

  -- ---- search_after

  all_fine : (cs : Elements) → all_have_form true SortClause cs ≡ true → Clean m (nodes_in m (Some 0) 1 SortClause cs) → AreFine m cs
  all_fine no_elements h e = tt
  all_fine (element c cs) h e =
      let formed = and_parts (has_form true SortClause c) (all_have_form true SortClause cs) h in
      let clean = clean_parts m (nodes_at m (Some 0) 1 SortClause c) (nodes_in m (Some 0) 1 SortClause cs) e in
      (clause_fault_free m 0 1 c true formed.0 clean.0, all_fine cs formed.1 clean.1)

  sort_fine : (d : JsonValue) → has_form true Sort d ≡ true → Clean m (nodes_at m (Some 0) 1 Sort d) → AreFineIf m (Some d)
  sort_fine (list cs) h e = all_fine cs (and_parts (suits_list Sort cs) (all_have_form true SortClause cs) h).1 e
  sort_fine (object ms) h e = clause_fault_free m 0 1 (object ms) true h e
  sort_fine (text t) h e = clause_fault_free m 0 1 (text t) true h e
  sort_fine null h e = absurd (false≢true h)
  sort_fine (bool b) h e = absurd (false≢true h)
  sort_fine (whole z) h e = absurd (false≢true h)

  after_is : (body : Members) → each_has_form true Body body ≡ true → Passes m (nodes_under m Sort (codes "sort") body) → Clean m (after_nodes body)
      → after_fits (member_of body (codes "search_after")) (member_of body (codes "sort")) (member_of body (codes "from")) ≡ true
      → IsAfter m (sorts_under m (Some 0) body) (after_of (member_of body (codes "search_after")))
  after_is body h p e fit =
      by_option (λ o. member_of body (codes "search_after") ≡ o → IsAfter m (sorts_under m (Some 0) body) (after_of o)) (member_of body (codes "search_after"))
      (λ none is. tt)
      (λ d some is. go d is)
      refl
    where
      fine : AreFineIf m (member_of body (codes "sort"))
      fine =
          by_option (AreFineIf m) (member_of body (codes "sort")) (λ is. tt)
          (λ d is. sort_fine d (member_formed true Body (codes "sort") body d h is) (part_clean Sort (member_of body (codes "sort")) d p is).clean)

      go : (d : JsonValue) → member_of body (codes "search_after") ≡ Some d → IsAfter m (sorts_under m (Some 0) body) (after_of (Some d))
      go (list ds) is =
          let judged = subst (λ o. Clean m (after_nodes_if body o)) is e in
          let taken : keys_are_taken m (member_of body (codes "sort")) (member_of body (codes "search_after")) ≡ true =
          fine_if (keys_are_taken m (member_of body (codes "sort")) (member_of body (codes "search_after")))
          (clean_head m (node (Some 0) 1 SearchAfter (object body)) [] judged).0 in
          let fits = subst (λ o. after_fits o (member_of body (codes "sort")) (member_of body (codes "from")) ≡ true) is fit in
          let long = and_parts (elements_length ds == clause_count (member_of body (codes "sort")) + 1) (starts_at_0 (member_of body (codes "from"))) fits in
          keys_are m (member_of body (codes "sort")) ds fine (subst (λ o. keys_are_taken m (member_of body (codes "sort")) o ≡ true) is taken)
          (eqb-true (elements_length ds) (clause_count (member_of body (codes "sort")) + 1) long.0)
      go null is = tt
      go (bool b) is = tt
      go (whole z) is = tt
      go (text t) is = tt
      go (object ms) is = tt

  -- ---- buckets, inner hits

  buckets_formed : (body : Members) → each_has_form true Body body ≡ true → (d : JsonValue) → buckets_in body ≡ Some d → has_form true Buckets d ≡ true
  buckets_formed body h d =
      by_option (λ o. member_of body (codes "aggs") ≡ o → option_or o (member_of body (codes "aggregations")) ≡ Some d → has_form true Buckets d ≡ true) (member_of body (codes "aggs"))
      (λ none was is. member_formed true Body (codes "aggregations") body d h is)
      (λ x some was is. let same : x ≡ d = cc in subst (λ v. has_form true Buckets v ≡ true) same (member_formed true Body (codes "aggs") body x h was))
      refl

  module _ (root : (n : ℕ) → 0 < n → n < length m.scopes → IsAbove m 0 n) where
    part_inner : (form : Form) (o : Option JsonValue) → Passes m (nodes_if m form o) → ((d : JsonValue) → o ≡ Some d → has_form true form d ≡ true) → AreInnerDefinitions m 0 (definitions_of (inner_if m form o))
    part_inner form None p h = tt
    part_inner form (Some d) p h = at_inner m root true 0 (Some 0) 1 form d (λ e. refl) (inl refl) (h d refl) p

    pub body_is : (body : Members) → has_form true Body (object body) ≡ true → EachAreTexts body → first_refusal m (object body) ≡ None → IsSearch m (search_by m body)
    unfolding first_refusal nodes_of
    body_is body h texts e =
        let formed = and_parts (suits true Body body) (each_has_form true Body body) h in
        let whole_object = suits_parts true Body body_lines body formed.0 in
        let none = none_of (first_fault m (nodes_of m body)) (limit_refusal body (nodes_of m body)) e in
        let kept = keeps_limits body (nodes_of m body) none.1 in
        let all : Passes m (nodes_of m body) = record { clean = record { free = none.0; texts = body_texts m body texts }; small = kept.small } in
        let halves = passes_parts m (hit_nodes m body) (bucket_nodes m body) all in
        let first = passes_parts m (nodes_under m Query (codes "query") body) (nodes_under m Sort (codes "sort") body ++ after_nodes body) halves.0 in
        let second = passes_parts m (nodes_under m Sort (codes "sort") body) (after_nodes body) first.1 in
        let counted = sort_count m true 0 (member_of body (codes "sort")) (λ d is. member_formed true Body (codes "sort") body d formed.1 is) in
        record {
          query = query_is body formed.1 first.0;
          sorts = body_sorts body formed.1 second.0;
          some_sort = counted.0;
          few_sorts = counted.1;
          after = after_is body formed.1 second.0 second.1.clean whole_object.3;
          window = window_is body kept.window;
          buckets = body_buckets m body (buckets_formed body formed.1) (λ d is. (part_clean Buckets (buckets_in body) d halves.1 is).clean);
          inner =
              append_are m root 0 (inner_if m Query (member_of body (codes "query"))) (inner_if m Sort (member_of body (codes "sort")) ++ inner_if m Buckets (buckets_in body))
              (part_inner Query (member_of body (codes "query")) first.0 (λ d is. member_formed true Body (codes "query") body d formed.1 is))
              (append_are m root 0 (inner_if m Sort (member_of body (codes "sort"))) (inner_if m Buckets (buckets_in body))
              (part_inner Sort (member_of body (codes "sort")) second.0 (λ d is. member_formed true Body (codes "sort") body d formed.1 is))
              (part_inner Buckets (buckets_in body) halves.1 (buckets_formed body formed.1)));
        }
      where
        window_is : (body : Members) → window 10 body ≤ 10_000 → number_under 10_000 0 body (codes "from") + number_under 10_000 10 body (codes "size") ≤ 10_000
        window_is body kept = omega (arith, kept, no_more 10_000 0 (member_of body (codes "from")) (omega arith), no_more 10_000 10 (member_of body (codes "size")) (omega arith))

    pub search_is : (body : JsonValue) → is_search_body body ≡ true → AreTexts body → first_refusal m body ≡ None → IsSearch m (search_of m body)
    unfolding is_search_body search_of
    search_is (object body) h t e = body_is body h t e
    search_is null h t e = absurd (false≢true h)
    search_is (bool b) h t e = absurd (false≢true h)
    search_is (whole z) h t e = absurd (false≢true h)
    search_is (text s) h t e = absurd (false≢true h)
    search_is (list ds) h t e = absurd (false≢true h)
