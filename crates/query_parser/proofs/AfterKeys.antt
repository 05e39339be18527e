-- The keys of `search_after` that are taken are keys of the clauses of the sort.
use Rattle.std.specs.Prelude.{⊤}
use Rattle.std.proofs.Common.{◌≡◌, ℕ, ◌+◌, [], ◌∷◌, true, false, ◌⊎◌, inl, inr, not, Option, Some, None, is_none, refl, arith, bytes_eq, codes}
use Rattle.std.proofs.lemmas.Bool.{and_parts, false≢true}
use Rattle.tree_json.specs.Value.{JsonValue, null, bool, whole, text, list, object, Elements, no_elements, element}
use Rattle.mapping_body.specs.declared.kind.Kind.{Kind}
use Rattle.mapping_body.specs.declared.kind.Kind.TheVariants.{Text, Keyword}
use Rattle.mapping.specs.Mapping.{Mapping, field_named, kind_at}
use Rattle.query_ast.specs.Resolved.{IsKeyOf, AreKeys}
use Rattle.query_ast.specs.Uses.{is_written}
use Rattle.query_ast.specs.declared.sort.Missing.{Missing}
use Rattle.query_ast.specs.declared.sort.Missing.TheVariants.{Last, First, Given}
use Rattle.query_ast.specs.declared.sort.Sort.{Sort}
use Rattle.query_ast.specs.declared.sort.SortKey.TheVariants.{Field}
use Rattle.search_form.specs.Form.{elements_length, clause_count}
use Rattle.search_walk.specs.After.{key_is_taken, is_keyword_if, clause_takes, clauses_take, score_takes, sort_takes}
use Rattle.search_walk.specs.Fault.{sort_fault}
use Rattle.search_walk.specs.Kinds.{is_keyword, is_sortable}
use Rattle.search_walk.specs.Names.{text_of, kind_named}
use Rattle.search_walk.specs.Sorts.{sort_name, sort_part, is_score, given_missing}
use Rattle.query_parser.specs.Search.{key_of, keys_before}
use Rattle.query_parser.specs.Sorts.{chain_if, descends, mode_of, missing_by, missing_word, missing_of, by_score_in, field_sort, sort_at, sorts_in, sorts_of}
use Rattle.query_parser.proofs.Found.{by_option}
use Rattle.query_parser.proofs.SortClauses.{field_sorts, by_choice}

-- ---- kinds

written_is : (kind : Kind) → is_sortable kind ≡ true → is_keyword kind ≡ true → is_written kind ≡ true
written_is Keyword h g = refl
written_is Text h g = absurd (false≢true h)
written_is kind h g = absurd (false≢true g)

plain_is : (kind : Kind) → is_sortable kind ≡ true → not (is_keyword kind) ≡ true → is_written kind ≡ false
plain_is Keyword h g = absurd (false≢true g)
plain_is Text h g = absurd (false≢true h)
plain_is kind h g = refl

module _ (m : Mapping) where
  -- ---- a key

  score_key : (k : JsonValue) → key_is_taken false false k ≡ true → IsKeyOf m (by_score_in true).key Last (key_of k)
  score_key (whole z) h = tt
  score_key null h = absurd (false≢true h)
  score_key (bool b) h = absurd (false≢true h)
  score_key (text s) h = absurd (false≢true h)
  score_key (list ds) h = absurd (false≢true h)
  score_key (object ms) h = absurd (false≢true h)

  value_key : (f : ℕ) (v : JsonValue) (missing : Missing) (k : JsonValue) → is_sortable (kind_at m f) ≡ true → key_is_taken (is_keyword (kind_at m f)) false k ≡ true
      → IsKeyOf m (Field f (mode_of v) (chain_if m (Some 0) (sort_part v (codes "nested")))) missing (key_of k)
  value_key f v Last (whole z) s h = plain_is (kind_at m f) s h
  value_key f v First (whole z) s h = plain_is (kind_at m f) s h
  value_key f v (Given x) (whole z) s h = plain_is (kind_at m f) s h
  value_key f v Last (text t) s h = written_is (kind_at m f) s h
  value_key f v First (text t) s h = written_is (kind_at m f) s h
  value_key f v (Given x) (text t) s h = written_is (kind_at m f) s h
  value_key f v missing null s h = absurd (false≢true h)
  value_key f v missing (bool b) s h = absurd (false≢true h)
  value_key f v missing (list ds) s h = absurd (false≢true h)
  value_key f v missing (object ms) s h = absurd (false≢true h)

  -- where nulls may stand, a null is one of a clause whose missing values stand last or first
  place_key : (f : ℕ) (v : JsonValue) (missing : Missing) (k : JsonValue) → (missing ≡ Last) ⊎ (missing ≡ First) → is_sortable (kind_at m f) ≡ true → key_is_taken (is_keyword (kind_at m f)) true k ≡ true
      → IsKeyOf m (Field f (mode_of v) (chain_if m (Some 0) (sort_part v (codes "nested")))) missing (key_of k)
  place_key f v Last null place s h = tt
  place_key f v First null place s h = tt
  place_key f v (Given x) null (inl e) s h = cc
  place_key f v (Given x) null (inr e) s h = cc
  place_key f v missing (whole z) place s h = value_key f v missing (whole z) s h
  place_key f v missing (text t) place s h = value_key f v missing (text t) s h
  place_key f v missing (bool b) place s h = absurd (false≢true h)
  place_key f v missing (list ds) place s h = absurd (false≢true h)
  place_key f v missing (object ms) place s h = absurd (false≢true h)

  word_is_place : (v : JsonValue) → (missing_word v ≡ Last) ⊎ (missing_word v ≡ First)
  word_is_place v = by_choice (λ w. (w ≡ Last) ⊎ (w ≡ First)) (bytes_eq (text_of (sort_part v (codes "missing"))) (codes "_first")) First Last (λ is. inr refl) (λ no. inl refl)

  field_key : (f : ℕ) (v k : JsonValue) → is_sortable (kind_at m f) ≡ true → key_is_taken (is_keyword (kind_at m f)) (is_none (given_missing v)) k ≡ true
      → IsKeyOf m (Field f (mode_of v) (chain_if m (Some 0) (sort_part v (codes "nested")))) (missing_of (Some (kind_at m f)) v) (key_of k)
  field_key f v k s =
      by_option (λ o. key_is_taken (is_keyword (kind_at m f)) (is_none o) k ≡ true → IsKeyOf m (Field f (mode_of v) (chain_if m (Some 0) (sort_part v (codes "nested")))) (missing_by (Some (kind_at m f)) o (missing_word v)) (key_of k)) (given_missing v)
      (λ is h. place_key f v (missing_word v) k (word_is_place v) s h)
      (λ d is h. value_key f v (missing_by (Some (kind_at m f)) (Some d) (missing_word v)) k s h)

  clause_key : (v k : JsonValue) → sort_fault m v ≡ None → clause_takes m v k ≡ true → IsKeyOf m (sort_at m (Some 0) v).key (sort_at m (Some 0) v).missing (key_of k)
  clause_key v k fine h =
      by_choice (λ (sort : Sort). IsKeyOf m sort.key sort.missing (key_of k)) (is_score (sort_name v)) (by_score_in (descends v)) (field_sort m (Some 0) v (field_named m (sort_name v)))
      (λ held. let taken : key_is_taken false false k ≡ true = rw held at h in score_key k taken)
      (λ apart.
      let is = field_sorts m v apart fine in
      let taken : key_is_taken (is_keyword_if (kind_named m (sort_name v))) (is_none (given_missing v)) k ≡ true = rw apart at h in
      let kinds : key_is_taken (is_keyword (kind_at m is.field)) (is_none (given_missing v)) k ≡ true = rw is.named at taken in
      rw is.named (field_key is.field v k is.sortable kinds))

  -- ---- all keys

  abbrev pub AreFine : Elements → Type 0
  AreFine no_elements = ⊤
  AreFine (element c cs) = (sort_fault m c ≡ None) × AreFine cs

  clause_keys : (cs ks : Elements) → AreFine cs → clauses_take m cs ks ≡ true → elements_length ks ≡ elements_length cs + 1 → AreKeys m (sorts_in m (Some 0) cs) (keys_before ks)
  clause_keys no_elements no_elements fine h e = tt
  clause_keys no_elements (element k no_elements) fine h e = tt
  clause_keys no_elements (element k (element l ks)) fine h e = absurd (omega arith)
  clause_keys (element c cs) no_elements fine h e = absurd (omega arith)
  clause_keys (element c cs) (element k no_elements) fine h e = absurd (omega arith)
  clause_keys (element c cs) (element k (element l ks)) fine h e =
      let parts = and_parts (clause_takes m c k) (clauses_take m cs (element l ks)) h in
      let more : elements_length (element l ks) ≡ elements_length cs + 1 = omega arith in
      (clause_key c k fine.0 parts.0, clause_keys cs (element l ks) fine.1 parts.1 more)

  score_keys : (ks : Elements) → score_takes ks ≡ true → elements_length ks ≡ 2 → AreKeys m (by_score_in true ∷ []) (keys_before ks)
  score_keys no_elements h e = absurd (omega arith)
  score_keys (element k no_elements) h e = absurd (omega arith)
  score_keys (element k (element l no_elements)) h e = (score_key k h, tt)
  score_keys (element k (element l (element n ks))) h e = absurd (omega arith)

  abbrev pub AreFineIf : Option JsonValue → Type 0
  AreFineIf None = ⊤
  AreFineIf (Some (list cs)) = AreFine cs
  AreFineIf (Some v) = sort_fault m v ≡ None

  pub keys_are : (sort : Option JsonValue) (ks : Elements) → AreFineIf sort → sort_takes m sort ks ≡ true → elements_length ks ≡ clause_count sort + 1 → AreKeys m (sorts_of m (Some 0) sort) (keys_before ks)
  keys_are None ks fine h e = score_keys ks h (omega arith)
  keys_are (Some (list no_elements)) ks fine h e = score_keys ks h (omega arith)
  keys_are (Some (list (element c cs))) ks fine h e = clause_keys (element c cs) ks fine h (omega arith)
  keys_are (Some v) ks fine h e = clause_keys (element v no_elements) ks (fine, tt) h (omega arith)
