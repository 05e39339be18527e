-- The texts of a body are texts, and so are those of its parts and the values that they ask for.
use Rattle.std.proofs.Common.{◌≡◌, ℕ, List as Seq, [], ◌∷◌, ◌++◌, ℤ, Bool, true, false, Option, Some, None, refl, sym, ◌∙◌, subst, bytes_eq, codes}
use Rattle.std.proofs.lemmas.Bool.{false≢true}
use Rattle.std.proofs.lemmas.Fmt.{IsAscii-signed}
use Rattle.std.proofs.lemmas.Str.{IsUtf8-from_ascii}
use Rattle.std.specs.Int.{w64}
use Rattle.std.specs.Option.{option_or}
use Rattle.std.specs.Fmt.{signed_decimal}
use Rattle.std.specs.Prelude.{⊤, FitsSigned}
use Rattle.std.specs.Str.{IsUtf8}
use Rattle.tree_json.specs.Value.{JsonValue, null, bool, whole, text, list, object, Elements, no_elements, element, Members, no_members, member, member_of}
use Rattle.mapping_body.specs.declared.kind.Kind.{Kind}
use Rattle.mapping_body.specs.declared.kind.Kind.TheVariants.{Text, Keyword, Long, Boolean, Date, Object, Nested, Join}
use Rattle.mapping.specs.Mapping.{Mapping}
use Rattle.query_ast.specs.Resolved.{IsText}
use Rattle.query_ast.specs.Uses.{IsValueOf, is_written}
use Rattle.search_form.specs.declared.form.Form.{Form}
use Rattle.search_form.specs.declared.form.Form.TheVariants.{Query, Sort, Buckets}
use Rattle.search_form.specs.Table.{element_of, single_of}
use Rattle.search_form.specs.Form.{form_at}
use Rattle.search_form.specs.Texts.{AreTexts, AllAreTexts, EachAreTexts}
use Rattle.search_walk.specs.Fault.{asked_value}
use Rattle.search_walk.specs.Names.{scope_inside, buckets_in}
use Rattle.search_walk.specs.Node.{Node, is_judged, node_here, nodes_at, nodes_in, nodes_among, nodes_if, nodes_under, after_nodes, after_nodes_if, hit_nodes, bucket_nodes, nodes_of, level_under}
use Rattle.tree_objects.specs.declared.field_value.FieldValue.{FieldValue}
use Rattle.tree_objects.specs.declared.field_value.FieldValue.TheVariants.{Number, Written}
use Rattle.tree_objects.specs.Values.{convert, text_of, bool_name}
use Rattle.query_parser.specs.Readings.{value_if, value_by_if}
use Rattle.query_parser.proofs.Faults.{HaveTexts}
use Rattle.query_parser.proofs.Found.{by_test, by_option, converted}

-- ---- values

abbrev pub IfTexts : Option JsonValue → Type 0
IfTexts None = ⊤
IfTexts (Some v) = AreTexts v

pub member_texts : (ms : Members) (name : Seq ℕ) → EachAreTexts ms → IfTexts (member_of ms name)
member_texts no_members name t = tt
member_texts (member k v ms) name t =
    by_test (bytes_eq k name) (λ same. rw same t.0) (λ other. rw other (member_texts ms name t.1))

pub asked_texts : (name : Seq ℕ) (v : JsonValue) → AreTexts v → IfTexts (asked_value name v)
asked_texts name (object ms) t = member_texts ms name t
asked_texts name null t = t
asked_texts name (bool b) t = t
asked_texts name (whole z) t = t
asked_texts name (text s) t = t
asked_texts name (list ds) t = t

number_text : (z : ℤ) → FitsSigned w64 z → IsUtf8 (signed_decimal z)
number_text z fits = IsUtf8-from_ascii (signed_decimal z) (IsAscii-signed z fits.sfits)

flag_text : (b : Bool) → IsUtf8 (bool_name b)
unfolding lib.Utf8.encode
flag_text true = (codes "true", (refl, refl))
flag_text false = (codes "false", (refl, refl))

written_text : (v : JsonValue) (x : FieldValue) → AreTexts v → text_of v ≡ Some x → IsText x
written_text (text s) x t e = let same : Written s ≡ x = cc in subst IsText same t
written_text (whole z) x t e = let same : Written (signed_decimal z) ≡ x = cc in subst IsText same (number_text z t)
written_text (bool b) x t e = let same : Written (bool_name b) ≡ x = cc in subst IsText same (flag_text b)
written_text null x t e = cc
written_text (list ds) x t e = cc
written_text (object ms) x t e = cc

-- values of the other kinds are numbers
plain_text : (kind : Kind) (x : FieldValue) → is_written kind ≡ false → IsValueOf kind x → IsText x
plain_text kind (Number z) plain h = tt
plain_text kind (Written s) plain h = absurd (false≢true (sym plain ∙ h))

converted_text : (kind : Kind) (v : JsonValue) (x : FieldValue) → AreTexts v → convert kind v ≡ Some x → IsText x
unfolding convert
converted_text Text v x t e = written_text v x t e
converted_text Keyword v x t e = written_text v x t e
converted_text Long v x t e = plain_text Long x refl (converted Long v x e)
converted_text Boolean v x t e = plain_text Boolean x refl (converted Boolean v x e)
converted_text Date v x t e = plain_text Date x refl (converted Date v x e)
converted_text Object v x t e = cc
converted_text Nested v x t e = cc
converted_text Join v x t e = cc

pub value_text : (kind : Kind) (o : Option JsonValue) → IfTexts o → IsText (value_by_if (Some kind) o)
value_text kind None t = tt
value_text kind (Some v) t = by_option (λ o. IsText (value_if o)) (convert kind v) (λ is. tt) (λ x is. converted_text kind v x t is)

-- ---- parts

texts_append : (xs ys : Seq Node) → HaveTexts xs → HaveTexts ys → HaveTexts (xs ++ ys)
texts_append [] ys t u = u
texts_append (n ∷ xs) ys t u = (t.0, texts_append xs ys t.1 u)

texts_here : (scope : Option ℕ) (level : ℕ) (form : Form) (v : JsonValue) → AreTexts v → HaveTexts (node_here scope level form v)
texts_here scope level form v t =
    by_test (is_judged form) (λ held. rw held (t, tt)) (λ failed. rw failed tt)

module _ (m : Mapping) where
  mutual
    texts_at : (scope : Option ℕ) (level : ℕ) (form : Form) (v : JsonValue) → AreTexts v → HaveTexts (nodes_at m scope level form v)
    texts_at scope level form null t = texts_here scope level (single_of form) null t
    texts_at scope level form (bool b) t = texts_here scope level (single_of form) (bool b) t
    texts_at scope level form (whole z) t = texts_here scope level (single_of form) (whole z) t
    texts_at scope level form (text s) t = texts_here scope level (single_of form) (text s) t
    texts_at scope level form (list ds) t = texts_in scope level (element_of form) ds t
    texts_at scope level form (object ms) t =
        texts_append (node_here scope level (single_of form) (object ms)) (nodes_among m (scope_inside m scope (single_of form) ms) level (single_of form) ms)
        (texts_here scope level (single_of form) (object ms) t) (texts_among (scope_inside m scope (single_of form) ms) level (single_of form) ms t)

    texts_in : (scope : Option ℕ) (level : ℕ) (form : Form) (ds : Elements) → AllAreTexts ds → HaveTexts (nodes_in m scope level form ds)
    texts_in scope level form no_elements t = tt
    texts_in scope level form (element d ds) t =
        texts_append (nodes_at m scope level form d) (nodes_in m scope level form ds) (texts_at scope level form d t.0) (texts_in scope level form ds t.1)

    texts_among : (scope : Option ℕ) (level : ℕ) (form : Form) (ms : Members) → EachAreTexts ms → HaveTexts (nodes_among m scope level form ms)
    texts_among scope level form no_members t = tt
    texts_among scope level form (member k v ms) t =
        texts_append (nodes_at m scope (level_under form (form_at form k) level) (form_at form k) v) (nodes_among m scope level form ms)
        (texts_at scope (level_under form (form_at form k) level) (form_at form k) v t.0) (texts_among scope level form ms t.1)

  texts_if : (form : Form) (o : Option JsonValue) → IfTexts o → HaveTexts (nodes_if m form o)
  texts_if form None t = tt
  texts_if form (Some v) t = texts_at (Some 0) 1 form v t

  buckets_texts : (body : Members) → EachAreTexts body → IfTexts (buckets_in body)
  buckets_texts body t =
      by_option (λ o. IfTexts o → IfTexts (option_or o (member_of body (codes "aggregations")))) (member_of body (codes "aggs"))
      (λ is u. member_texts body (codes "aggregations") t) (λ d is u. u)
      (member_texts body (codes "aggs") t)

  after_texts : (body : Members) (o : Option JsonValue) → EachAreTexts body → HaveTexts (after_nodes_if body o)
  after_texts body None t = tt
  after_texts body (Some keys) t = (t, tt)

  pub body_texts : (body : Members) → EachAreTexts body → HaveTexts (nodes_of m body)
  unfolding nodes_of
  body_texts body t =
      texts_append (hit_nodes m body) (bucket_nodes m body)
      (texts_append (nodes_under m Query (codes "query") body) (nodes_under m Sort (codes "sort") body ++ after_nodes body)
      (texts_if Query (member_of body (codes "query")) (member_texts body (codes "query") t))
      (texts_append (nodes_under m Sort (codes "sort") body) (after_nodes body)
      (texts_if Sort (member_of body (codes "sort")) (member_texts body (codes "sort") t))
      (after_texts body (member_of body (codes "search_after")) t)))
      (texts_if Buckets (buckets_in body) (buckets_texts body t))
