-- The answers of forms, by the objects that they hand on.
use Rattle.std.proofs.Common.{◌≡◌, ℕ, zero, suc, ℤ, pos, ◌<◌, Bool, true, false, ◌||◌, cond, List, [], ◌∷◌, ◌++◌, length, map, take, drop, sum_by, Option, Some, None, is_some, get_or, min, ◌-◌, refl, sym, ap, subst, ◌∙◌, arith, append_assoc}
use Rattle.std.specs.Prelude.{IsTrue}
use Rattle.std.specs.Int.{saturate_signed, w64}
use Rattle.std.specs.List.{flat_map, list_any}
use Rattle.std.specs.List.Sorted.{IsPermutation}
use Rattle.std.proofs.lemmas.List.{length-append, map-append, take_all}
use Rattle.std.proofs.lemmas.List.Sorted.{length_permutation}
use Rattle.std.proofs.lemmas.List.Sums.{sum_by-cons}
use Rattle.block_join.specs.Merge.{put_together}
use Rattle.block_join.specs.declared.rule.Rule.TheVariants.{Kept as KeptRule}
use Rattle.flattener.specs.Flat.{flat_of}
use Rattle.flattener.specs.StandsFor.{ViewStandsFor}
use Rattle.mapping.specs.Mapping.{Mapping, IsAbove, kind_at}
use Rattle.mapping_body.specs.declared.kind.Kind.{Kind}
use Rattle.mapping_body.specs.declared.kind.Kind.TheVariants.{Text, Keyword, Long, Boolean, Date, Object as Plain, Nested as NestedKind, Join}
use Rattle.query_ast.specs.Agg.{Agg}
use Rattle.query_ast.specs.Buckets.{all_shown, below_at, bucket_of, bucket_replies, group_of, groups_of, has_value, number_if, ordered, several_of, single_of}
use Rattle.query_ast.specs.Clause.{Clause, is_among, leaf, match_all, on_field}
use Rattle.query_ast.specs.Compare.{each_once, in_order, is_less, is_same_value, value_cmp}
use Rattle.query_ast.specs.Agg.View.{agg_of}
use Rattle.query_ast.specs.Definition.{Definition, Definitions, definition, definition_size, definitions_of, no_definitions, with_definition}
use Rattle.query_ast.specs.declared.agg.AggDef.{AggDef}
use Rattle.query_ast.specs.Hit.{hit}
use Rattle.query_ast.specs.Joined.{roots}
use Rattle.query_ast.specs.Leaf.{is_one_of, is_text, leaf_holds, terms_of}
use Rattle.query_ast.specs.Replies.{BucketPart, ReplyPart, ReplyValue, buckets_of, metric, no_buckets, replies_of, several, single}
use Rattle.query_ast.specs.SortKey.{greatest_value, least_value, total}
use Rattle.query_ast.specs.Uses.{IsValueOf, is_written, uses_of}
use Rattle.query_ast.specs.declared.agg.AggForm.TheVariants.{Filter, Nested, ReverseNested, Children, Parent, Terms}
use Rattle.query_eval.specs.Folds.{paired_by}
use Rattle.query_eval.specs.Found.{IsSeen, live_trees, score_by}
use Rattle.query_eval.specs.Nested.{around_by, below_by}
use Rattle.query_eval.specs.Sides.{by_relation, children_by}
use Rattle.score_math.specs.Scores.{mode_of}
use Rattle.score_math.specs.declared.score.ScoreMode.TheVariants.{Max}
use Rattle.segment.specs.Flat.{FlatDocument}
use Rattle.segment.specs.Live.{EntryState}
use Rattle.tree_objects.specs.Object.{Object}
use Rattle.tree_objects.specs.Tree.{Tree}
use Rattle.tree_objects.specs.Values.{values}
use Rattle.tree_objects.specs.declared.field_value.FieldValue.{FieldValue}
use Rattle.view_objects.specs.Hits.{live_objects}
use Rattle.view_objects.specs.Values.{values_shown}
use Rattle.bucket_aggs.specs.Counts.{AreCounts, AreKeys, count_in, flats_of_view, marked_count, rows_ordered}
use Rattle.bucket_aggs.specs.Given.{AreAll, AreInside, AreOfValue, AreReplies, HaveOwnNumbers, IsAnswer, as_ones, bucket_by, buckets_by, count_by_field, greatest_by, is_given, least_by, more_replies, objects_given, replies_by, reply_by, single_by, sum_by_field, value_by}
use Rattle.bucket_aggs.specs.Sums.{IsSummary, numbers_in, values_in}
use Rattle.bucket_aggs.specs.declared.metrics.Summary.{Summary}
use Rattle.bucket_aggs.specs.declared.rows.CountRow.{CountRow}
use Rattle.bucket_aggs.proofs.Documents.{Scores, Trees, flats_are, objects_count}
use Rattle.bucket_aggs.proofs.Groups.{first_buckets, other_counts}
use Rattle.bucket_aggs.proofs.Joined.{children_are, parents_are}
use Rattle.query_ast.proofs.Keys.{same_back}
use Rattle.bucket_aggs.proofs.Least.{greatest_is, least_is}
use Rattle.bucket_aggs.proofs.Lists.{filter_all, filter_counted, filter_same}
use Rattle.bucket_aggs.proofs.Sums.{all_told, sum_told}
use Rattle.bucket_aggs.proofs.Handed.{Laws, all_inside, down_are, filtered_are, up_are}
use Rattle.query_ast.proofs.Values.{value_exact, value_total}

abbrev Given : Type 0
Given = List Tree → Object → Option ℕ

-- ---- the same objects

-- what is answered of the same objects is answered
pub answer_same : {A : Type 0} (m : Mapping) (view : List EntryState) (n p : ℕ) (one other : List Tree → List Object → A) (given by : Given) (value : A)
    → ((trees : List Trees) → ViewStandsFor m view trees → HaveOwnNumbers (live_trees trees) → one (live_trees trees) (objects_given m n (live_trees trees) (given (live_trees trees))) ≡ other (live_trees trees) (objects_given m p (live_trees trees) (by (live_trees trees))))
    → IsAnswer m view n one given value → IsAnswer m view p other by value
answer_same m view n p one other given by value same was = record { is = λ trees stand own. was.is trees stand own ∙ same trees stand own }

-- all objects are hit by what asks for nothing
ones_given : (m : Mapping) (live : List Tree) (given : Object → Option ℕ) (o : Object) → is_some (put_together KeptRule (hit m live (leaf match_all 1) o) (given o)) ≡ is_some (given o)
unfolding leaf_holds
ones_given m live given o = by (given o)
  where
    by : (score : Option ℕ) → is_some (put_together KeptRule (Some 1) score) ≡ is_some score
    by None = refl
    by (Some s) = refl

pub answer_of_ones : {A : Type 0} (m : Mapping) (view : List EntryState) (n : ℕ) (answer : List Tree → List Object → A) (given : Given) (value : A) → IsAnswer m view n answer (as_ones m given) value → IsAnswer m view n answer given value
answer_of_ones m view n answer given value =
    answer_same m view n n answer answer (as_ones m given) given value
    (λ trees stand own. let live : List Tree = live_trees trees in
    ap (answer live) (filter_same (is_given (as_ones m given live)) (is_given (given live)) (λ o. ones_given m live (given live) o) (live_objects m n live)))

-- ---- all objects of a scope

abbrev pub one_each : Mapping → Given
one_each m live o = score_by m (leaf match_all 1) live o

pub ones_all : (m : Mapping) (live : List Tree) (o : Object) → is_given (one_each m live) o ≡ true
unfolding leaf_holds
ones_all m live o = refl

-- as many are given something as there are
pub all_counted : (m : Mapping) (view : List EntryState) (n : ℕ) (given : Given) (objects all : List Scores) → IsSeen m view n given objects → IsSeen m view n (one_each m) all → sum_by marked_count objects ≡ sum_by marked_count all → AreAll m view n given
all_counted m view n given objects all seen ones same = record {
  are = λ trees stand.
      let live : List Tree = live_trees trees in
      filter_counted (is_given (given live)) (live_objects m n live)
      (sym (objects_count m view n given objects seen trees stand)
      ∙ same
      ∙ objects_count m view n (one_each m) all ones trees stand
      ∙ ap length (filter_all (is_given (one_each m live)) (ones_all m live) (live_objects m n live)));
}

pub inside_all : (m : Mapping) (view : List EntryState) (n p : ℕ) (given : Given) (those : List Scores) → Laws m → IsAbove m n p → AreAll m view n given → IsSeen m view p (one_each m) those → AreInside m view n p given those
inside_all m view n p given those laws above all seen = record {
  inner = one_each m;
  seen = seen;
  are = λ trees stand. let live : List Tree = live_trees trees in all_inside m laws n p above (given live) live (one_each m live) (all.are trees stand) (ones_all m live);
}

pub inside_some : (m : Mapping) (view : List EntryState) (n p : ℕ) (given : Given) (those : List Scores) → Laws m → IsAbove m n p → IsSeen m view p (around_by n given) those → AreInside m view n p given those
inside_some m view n p given those laws above seen = record {
  inner = around_by n given;
  seen = seen;
  are = λ trees stand. let live : List Tree = live_trees trees in down_are m laws n p above (given live) live;
}

-- ---- one bucket

pub single_is : (m : Mapping) (view : List EntryState) (n : ℕ) (ds : Definitions Agg) (given : Given) (objects : List Scores) (count : ℕ) (parts : List ReplyPart) → IsSeen m view n given objects → count ≡ sum_by marked_count objects → AreReplies m view n ds given parts
    → IsAnswer m view n (single_by m ds) given (single count (replies_of parts))
single_is m view n ds given objects count parts seen counted answered = record {
  is = λ trees stand own.
      let live : List Tree = live_trees trees in
      ap (λ (k : ℕ). single k (replies_of parts)) (counted ∙ objects_count m view n given objects seen trees stand)
      ∙ ap (λ (l : List ReplyPart). single (length (objects_given m n live (given live))) (replies_of l)) (answered.is trees stand own);
}

module _ (m : Mapping) (view : List EntryState) (ds : Definitions Agg) (given : Given) (value : ReplyValue) where
  pub filter_is : (n : ℕ) (c : Clause) → IsAnswer m view n (single_by m ds) (paired_by KeptRule given (score_by m c)) value → IsAnswer m view n (value_by m (Filter c) ds) given value
  filter_is n c =
      answer_same m view n n (single_by m ds) (value_by m (Filter c) ds) (paired_by KeptRule given (score_by m c)) given value
      (λ trees stand own. let live : List Tree = live_trees trees in ap (single_of (bucket_replies m live ds)) (filtered_are m n live c (given live)))

  pub nested_is : (n p : ℕ) (inner : Given) → ((trees : List Trees) → ViewStandsFor m view trees → objects_given m p (live_trees trees) (inner (live_trees trees)) ≡ flat_map (below_at m p) (objects_given m n (live_trees trees) (given (live_trees trees))))
      → IsAnswer m view p (single_by m ds) inner value → IsAnswer m view n (value_by m (Nested p) ds) given value
  nested_is n p inner inside =
      answer_same m view p n (single_by m ds) (value_by m (Nested p) ds) inner given value
      (λ trees stand own. ap (single_of (bucket_replies m (live_trees trees) ds)) (inside trees stand))

  pub reverse_is : (n p : ℕ) → Laws m → IsAbove m p n → IsAnswer m view p (single_by m ds) (below_by m (mode_of Max) n given) value → IsAnswer m view n (value_by m (ReverseNested p) ds) given value
  reverse_is n p laws above =
      answer_same m view p n (single_by m ds) (value_by m (ReverseNested p) ds) (below_by m (mode_of Max) n given) given value
      (λ trees stand own. let live : List Tree = live_trees trees in ap (single_of (bucket_replies m live ds)) (up_are m laws n p above (given live) live own))

  pub children_is : (r : ℕ) → ((trees : List Tree) → live_objects m 0 trees ≡ roots trees) → IsAnswer m view 0 (single_by m ds) (by_relation m r given) value → IsAnswer m view 0 (value_by m (Children r) ds) given value
  children_is r at_roots =
      answer_same m view 0 0 (single_by m ds) (value_by m (Children r) ds) (by_relation m r given) given value
      (λ trees stand own. let live : List Tree = live_trees trees in ap (single_of (bucket_replies m live ds)) (children_are m live (at_roots live) (given live) r given refl))

  pub parent_is : (r : ℕ) → ((trees : List Tree) → live_objects m 0 trees ≡ roots trees) → IsAnswer m view 0 (single_by m ds) (children_by m r Max 1 None given) value → IsAnswer m view 0 (value_by m (Parent r) ds) given value
  parent_is r at_roots =
      answer_same m view 0 0 (single_by m ds) (value_by m (Parent r) ds) (children_by m r Max 1 None given) given value
      (λ trees stand own. let live : List Tree = live_trees trees in ap (single_of (bucket_replies m live ds)) (parents_are m live (at_roots live) (given live) r given refl))

-- ---- a bucket for each value

abbrev pub Shown : Mapping → ℕ → Type 0
Shown m f = (o : Object) → IsPermutation (values m f o) (values_shown (kind_at m f) f (flat_of m o))

pub terms_is : (m : Mapping) (view : List EntryState) (n f size : ℕ) (by_key descending : Bool) (ds : Definitions Agg) (given : Given) (objects : List Scores) (rows : List CountRow) (parts : List BucketPart) (other : ℕ) → Shown m f → IsSeen m view n given objects
    → AreCounts (kind_at m f) f (flats_of_view view objects) rows → other ≡ sum_by count_in (drop size (rows_ordered by_key descending rows))
    → IsAnswer m view n (buckets_by m f ds (take size (rows_ordered by_key descending rows))) given parts
    → IsAnswer m view n (value_by m (Terms (Some f) size by_key descending) ds) given (several (buckets_of parts) other)
terms_is m view n f size by_key descending ds given objects rows parts other shown seen are others answered = record {
  is = λ trees stand own.
      let live : List Tree = live_trees trees in
      let os : List Object = objects_given m n live (given live) in
      let counts : AreCounts (kind_at m f) f (map (flat_of m) os) rows = subst (λ (flats : List FlatDocument). AreCounts (kind_at m f) f flats rows) (flats_are m view n given objects seen trees stand) are in
      let within = bucket_replies m live ds in
      ap (λ (l : List BucketPart). several (buckets_of l) other) (answered.is trees stand own ∙ first_buckets m f shown os within size by_key descending rows counts)
      ∙ ap (several (buckets_of (map (bucket_of within) (take size (ordered by_key descending (groups_of m (Some f) os)))))) (others ∙ other_counts m f shown os within size by_key descending rows counts);
}

-- ---- the bucket of a value: those objects that the value's term hits

one_value : (one other : FieldValue → Bool) → ((v : FieldValue) → one v ≡ other v) → (vs : List FieldValue) → list_any one (flat_map (terms_of false) vs) ≡ list_any other vs
one_value one other same [] = refl
one_value one other same (v ∷ vs) = rw (same v) (ap (λ (b : Bool). other v || b) (one_value one other same vs))

or_false : (b : Bool) → (b || false) ≡ b
or_false true = refl
or_false false = refl

if_some : (b : Bool) → is_some {T = ℕ} (cond b (Some 1) None) ≡ b
if_some true = refl
if_some false = refl

pub no_text : (kind : Kind) → IsTrue (uses_of kind).sorted → is_text kind ≡ false
no_text Text is = absurd (let no : ⊥ = cc in no)
no_text Keyword is = refl
no_text Long is = refl
no_text Boolean is = refl
no_text Date is = refl
no_text Plain is = refl
no_text NestedKind is = refl
no_text Join is = refl

pub term_hits : (m : Mapping) (live : List Tree) (f : ℕ) (key : FieldValue) (o : Object) → is_text (kind_at m f) ≡ false → is_some (hit m live (leaf (on_field (Some f) (is_among (key ∷ []))) 1) o) ≡ has_value m (Some f) key o
unfolding leaf_holds
term_hits m live f key o plain =
    if_some (list_any (is_one_of (key ∷ [])) (flat_map (terms_of (is_text (kind_at m f))) (values m f o)))
    ∙ ap (λ (b : Bool). list_any (is_one_of (key ∷ [])) (flat_map (terms_of b) (values m f o))) plain
    ∙ one_value (is_one_of (key ∷ [])) (is_same_value key) (λ v. or_false (is_same_value v key) ∙ same_back value_cmp value_total value_exact v key) (values m f o)

pub of_term : (m : Mapping) (view : List EntryState) (n f : ℕ) (key : FieldValue) (given : Given) (those : List Scores) → is_text (kind_at m f) ≡ false
    → IsSeen m view n (paired_by KeptRule given (score_by m (leaf (on_field (Some f) (is_among (key ∷ []))) 1))) those → AreOfValue m view n f key given those
of_term m view n f key given those plain is =
    let c : Clause = leaf (on_field (Some f) (is_among (key ∷ []))) 1 in
    record {
      inner = paired_by KeptRule given (score_by m c);
      seen = is;
      are = λ trees stand.
          let live : List Tree = live_trees trees in
          filtered_are m n live c (given live) ∙ filter_same (λ o. is_some (hit m live c o)) (has_value m (Some f) key) (λ o. term_hits m live f key o plain) (objects_given m n live (given live));
    }

pub bucket_is : (m : Mapping) (view : List EntryState) (n f : ℕ) (ds : Definitions Agg) (given : Given) (row : CountRow) (those : List Scores) (parts : List ReplyPart) (are : AreOfValue m view n f row.key given those)
    → IsAnswer m view n (replies_by m ds) are.inner parts → IsAnswer m view n (bucket_by m f ds row) given (record { key = row.key; count = row.count; inner = replies_of parts })
bucket_is m view n f ds given row those parts are answered = record {
  is = λ trees stand own.
      let live : List Tree = live_trees trees in
      ap (λ (l : List ReplyPart). record { key = row.key; count = row.count; inner = replies_of l }) (answered.is trees stand own ∙ ap (bucket_replies m live ds) (are.are trees stand));
}

pub bucket_alone : (m : Mapping) (view : List EntryState) (n f : ℕ) (given : Given) (row : CountRow) → IsAnswer m view n (bucket_by m f no_definitions row) given (record { key = row.key; count = row.count; inner = replies_of [] })
bucket_alone m view n f given row = record { is = λ trees stand own. refl }

pub no_replies : (m : Mapping) (view : List EntryState) (n : ℕ) (given : Given) → AreReplies m view n no_definitions given []
no_replies m view n given = record { is = λ trees stand own. refl }

-- ---- one answer after the other

nothing_behind : (parts : List ReplyPart) → parts ++ [] ≡ parts
nothing_behind [] = refl
nothing_behind (p ∷ parts) = ap (λ (l : List ReplyPart). p ∷ l) (nothing_behind parts)

pub replies_none : (m : Mapping) (view : List EntryState) (n : ℕ) (given : Given) (old : List ReplyPart) → IsAnswer m view n (more_replies m no_definitions old) given old
replies_none m view n given old = record { is = λ trees stand own. sym (nothing_behind old) }

pub replies_more : (m : Mapping) (view : List EntryState) (n : ℕ) (given : Given) (d : Definition Agg) (rest : Definitions Agg) (old new : List ReplyPart) (part : ReplyPart)
    → IsAnswer m view n (reply_by m d) given part → IsAnswer m view n (more_replies m rest (old ++ part ∷ [])) given new → IsAnswer m view n (more_replies m (with_definition d rest) old) given new
replies_more m view n given d rest old new part first others = record {
  is = λ trees stand own.
      let live : List Tree = live_trees trees in
      let os : List Object = objects_given m n live (given live) in
      others.is trees stand own
      ∙ append_assoc old (part ∷ []) (bucket_replies m live rest os)
      ∙ ap (λ (p : ReplyPart). old ++ (p ∷ bucket_replies m live rest os)) (first.is trees stand own);
}

pub reply_is : (m : Mapping) (view : List EntryState) (n : ℕ) (given : Given) (agg : Agg) (ds : Definitions Agg) (name : List ℕ) (value : ReplyValue) → name ≡ agg.name → IsAnswer m view n (value_by m agg.form ds) given value
    → IsAnswer m view n (reply_by m (definition agg ds)) given (record { name = name; value = value })
reply_is m view n given agg ds name value named answered = record {
  is = λ trees stand own.
      ap (λ (s : List ℕ). record { name = s; value = value }) named
      ∙ ap (λ (v : ReplyValue). record { name = agg.name; value = v }) (answered.is trees stand own);
}

-- the first of some definitions and the others
pub definitions_parts : (defs : List AggDef) (d : AggDef) → 0 < length defs → d ≡ get_or defs 0 d → definitions_of (map agg_of defs) ≡ with_definition (agg_of d) (definitions_of (map agg_of (take (length defs - 1) (drop 1 defs))))
definitions_parts [] d some is = absurd (omega (arith, some))
definitions_parts (x ∷ defs) d some is =
    ap (λ (y : AggDef). with_definition (agg_of y) (definitions_of (map agg_of defs))) (sym is)
    ∙ ap (λ (l : List AggDef). with_definition (agg_of d) (definitions_of (map agg_of l))) (sym (take_all (length (x ∷ defs) - 1) defs (omega arith)))

pub definition_some : (d : Definition Agg) → 0 < definition_size d
definition_some (definition agg ds) = omega arith

pub none_inside : (defs : List AggDef) (ds : List (Definition Agg)) → map agg_of defs ≡ ds → length defs ≡ 0 → definitions_of ds ≡ no_definitions
none_inside [] ds is none = ap definitions_of (sym is)
none_inside (x ∷ defs) ds is none = absurd (omega (arith, none))

-- ---- an unmapped field

nothing_shown : (m : Mapping) (objects : List Object) → all_shown m None objects ≡ []
nothing_shown m [] = refl
nothing_shown m (o ∷ objects) = nothing_shown m objects

no_groups : (m : Mapping) (within : List Object → List ReplyPart) (size : ℕ) (by_key descending : Bool) (objects : List Object) → several_of within size (ordered by_key descending (groups_of m None objects)) ≡ several no_buckets 0
no_groups m within size by_key descending objects =
    ap (λ (vs : List FieldValue). several_of within size (ordered by_key descending (map (group_of m None objects) (in_order is_less (each_once is_same_value vs))))) (nothing_shown m objects)
    ∙ by size by_key descending
  where
    by : (size : ℕ) (by_key descending : Bool) → several_of within size (ordered by_key descending []) ≡ several no_buckets 0
    by zero true true = refl
    by zero true false = refl
    by zero false true = refl
    by zero false false = refl
    by (suc size) true true = refl
    by (suc size) true false = refl
    by (suc size) false true = refl
    by (suc size) false false = refl

pub no_terms : (m : Mapping) (view : List EntryState) (n size : ℕ) (by_key descending : Bool) (ds : Definitions Agg) (given : Given) (value : ReplyValue) → value ≡ several no_buckets 0
    → IsAnswer m view n (value_by m (Terms None size by_key descending) ds) given value
no_terms m view n size by_key descending ds given value is = record {
  is = λ trees stand own.
      let live : List Tree = live_trees trees in
      is ∙ sym (no_groups m (bucket_replies m live ds) size by_key descending (objects_given m n live (given live)));
}

pub none_least : (m : Mapping) (view : List EntryState) (n : ℕ) (given : Given) → IsAnswer m view n (least_by m None) given None
none_least m view n given = record {
  is = λ trees stand own. ap (λ (vs : List FieldValue). number_if (least_value vs)) (sym (nothing_shown m (objects_given m n (live_trees trees) (given (live_trees trees)))));
}

pub none_greatest : (m : Mapping) (view : List EntryState) (n : ℕ) (given : Given) → IsAnswer m view n (greatest_by m None) given None
none_greatest m view n given = record {
  is = λ trees stand own. ap (λ (vs : List FieldValue). number_if (greatest_value vs)) (sym (nothing_shown m (objects_given m n (live_trees trees) (given (live_trees trees)))));
}

pub none_sum : (m : Mapping) (view : List EntryState) (n : ℕ) (given : Given) → IsAnswer m view n (sum_by_field m None) given (pos 0)
none_sum m view n given = record {
  is = λ trees stand own. ap (λ (vs : List FieldValue). saturate_signed w64 (total vs)) (sym (nothing_shown m (objects_given m n (live_trees trees) (given (live_trees trees)))));
}

pub none_count : (m : Mapping) (view : List EntryState) (n : ℕ) (given : Given) → IsAnswer m view n (count_by_field m None) given (pos 0)
none_count m view n given = record {
  is = λ trees stand own. ap (λ (vs : List FieldValue). pos (length vs)) (sym (nothing_shown m (objects_given m n (live_trees trees) (given (live_trees trees)))));
}

-- a field with values that are sorted may be asked for one of them
pub sorted_valued : (kind : Kind) → IsTrue (uses_of kind).sorted → IsTrue (uses_of kind).valued
sorted_valued Text is = refl
sorted_valued Keyword is = refl
sorted_valued Long is = refl
sorted_valued Boolean is = refl
sorted_valued Date is = refl
sorted_valued Plain is = absurd (let no : ⊥ = cc in no)
sorted_valued NestedKind is = absurd (let no : ⊥ = cc in no)
sorted_valued Join is = absurd (let no : ⊥ = cc in no)

-- ---- metrics

-- fields with sums have numbers, and values that are sorted
pub summed_plain : (kind : Kind) → IsTrue (uses_of kind).summed → is_written kind ≡ false
summed_plain Text is = absurd (let no : ⊥ = cc in no)
summed_plain Keyword is = absurd (let no : ⊥ = cc in no)
summed_plain Long is = refl
summed_plain Boolean is = refl
summed_plain Date is = refl
summed_plain Plain is = refl
summed_plain NestedKind is = refl
summed_plain Join is = refl

pub summed_sorted : (kind : Kind) → IsTrue (uses_of kind).summed → IsTrue (uses_of kind).sorted
summed_sorted Text is = absurd (let no : ⊥ = cc in no)
summed_sorted Keyword is = refl
summed_sorted Long is = refl
summed_sorted Boolean is = refl
summed_sorted Date is = refl
summed_sorted Plain is = absurd (let no : ⊥ = cc in no)
summed_sorted NestedKind is = absurd (let no : ⊥ = cc in no)
summed_sorted Join is = absurd (let no : ⊥ = cc in no)

module _ (m : Mapping) (view : List EntryState) (n f : ℕ) (given : Given) (objects : List Scores) (known : Shown m f) (seen : IsSeen m view n given objects) where
  module _ (plain : is_written (kind_at m f) ≡ false) (s : Summary) (is : IsSummary (flat_map (numbers_in f) (flats_of_view view objects)) s) where
    summary : (trees : List Trees) → ViewStandsFor m view trees → IsSummary (flat_map (numbers_in f) (map (flat_of m) (objects_given m n (live_trees trees) (given (live_trees trees))))) s
    summary trees stand = subst (λ (flats : List FlatDocument). IsSummary (flat_map (numbers_in f) flats) s) (flats_are m view n given objects seen trees stand) is

    pub least_told : IsAnswer m view n (least_by m (Some f)) given s.least
    least_told = record {
      is = λ trees stand own.
          let os : List Object = objects_given m n (live_trees trees) (given (live_trees trees)) in
          sym (least_is (all_shown m (Some f) os) (flat_map (numbers_in f) (map (flat_of m) os)) s.least (all_told m f known plain os) (summary trees stand).least);
    }

    pub greatest_told : IsAnswer m view n (greatest_by m (Some f)) given s.greatest
    greatest_told = record {
      is = λ trees stand own.
          let os : List Object = objects_given m n (live_trees trees) (given (live_trees trees)) in
          sym (greatest_is (all_shown m (Some f) os) (flat_map (numbers_in f) (map (flat_of m) os)) s.greatest (all_told m f known plain os) (summary trees stand).greatest);
    }

    pub total_told : IsAnswer m view n (sum_by_field m (Some f)) given (saturate_signed w64 s.total)
    total_told = record {
      is = λ trees stand own.
          let os : List Object = objects_given m n (live_trees trees) (given (live_trees trees)) in
          ap (saturate_signed w64) ((summary trees stand).total ∙ sym (sum_told m f known plain os));
    }

  shown_long : (os : List Object) → length (all_shown m (Some f) os) ≡ sum_by (values_in (kind_at m f) f) (map (flat_of m) os)
  shown_long [] = refl
  shown_long (o ∷ os) =
      omega (
        arith,
        length-append (values m f o) (all_shown m (Some f) os),
        length_permutation (values m f o) (values_shown (kind_at m f) f (flat_of m o)) (known o),
        sum_by-cons (values_in (kind_at m f) f) (flat_of m o) (map (flat_of m) os),
        shown_long os,
      )

  pub count_told : (count : ℕ) → count ≡ sum_by (values_in (kind_at m f) f) (flats_of_view view objects) → IsAnswer m view n (count_by_field m (Some f)) given (pos count)
  count_told count is = record {
    is = λ trees stand own.
        let os : List Object = objects_given m n (live_trees trees) (given (live_trees trees)) in
        ap pos (is ∙ ap (sum_by (values_in (kind_at m f) f)) (flats_are m view n given objects seen trees stand) ∙ sym (shown_long os));
  }

-- a metric is the number
pub metric_is : (m : Mapping) (view : List EntryState) (n : ℕ) (answer : List Tree → List Object → Option ℤ) (over : List Tree → List Object → ReplyValue) (given : Given) (number : Option ℤ)
    → ((live : List Tree) (objects : List Object) → metric (answer live objects) ≡ over live objects) → IsAnswer m view n answer given number → IsAnswer m view n over given (metric number)
metric_is m view n answer over given number same was = record {
  is = λ trees stand own.
      let live : List Tree = live_trees trees in
      ap metric (was.is trees stand own) ∙ same live (objects_given m n live (given live));
}

pub number_is : (m : Mapping) (view : List EntryState) (n : ℕ) (answer : List Tree → List Object → ℤ) (over : List Tree → List Object → ReplyValue) (given : Given) (number : ℤ)
    → ((live : List Tree) (objects : List Object) → metric (Some (answer live objects)) ≡ over live objects) → IsAnswer m view n answer given number → IsAnswer m view n over given (metric (Some number))
number_is m view n answer over given number same was = record {
  is = λ trees stand own.
      let live : List Tree = live_trees trees in
      ap (λ (z : ℤ). metric (Some z)) (was.is trees stand own) ∙ same live (objects_given m n live (given live));
}

-- ---- the first buckets and the others

-- a list is cut no further than it goes
pub cut_first : {A : Type 0} (xs : List A) (n end : ℕ) → end ≡ min (length xs) n → take end xs ≡ take n xs
cut_first [] zero end is = let none : end ≡ 0 = omega (arith, is) in rw none refl
cut_first [] (suc n) end is = let none : end ≡ 0 = omega (arith, is) in rw none refl
cut_first (x ∷ xs) zero end is = let none : end ≡ 0 = omega (arith, is) in rw none refl
cut_first (x ∷ xs) (suc n) zero is = absurd (omega (arith, is))
cut_first {A} (x ∷ xs) (suc n) (suc end) is = ap (λ (l : List A). x ∷ l) (cut_first xs n end (omega (arith, is)))

pub cut_others : {A : Type 0} (xs : List A) (n end : ℕ) → end ≡ min (length xs) n → drop end xs ≡ drop n xs
cut_others [] zero end is = let none : end ≡ 0 = omega (arith, is) in rw none refl
cut_others [] (suc n) end is = let none : end ≡ 0 = omega (arith, is) in rw none refl
cut_others (x ∷ xs) zero end is = let none : end ≡ 0 = omega (arith, is) in rw none refl
cut_others (x ∷ xs) (suc n) zero is = absurd (omega (arith, is))
cut_others (x ∷ xs) (suc n) (suc end) is = cut_others xs n end (omega (arith, is))

pub keys_taken : (kind : Kind) (n : ℕ) (rows : List CountRow) → AreKeys kind rows → AreKeys kind (take n rows)
keys_taken kind zero rows are = tt
keys_taken kind (suc n) [] are = tt
keys_taken kind (suc n) (row ∷ rows) are = (are.0, keys_taken kind n rows are.1)

pub key_at : (kind : Kind) (rows : List CountRow) (at : ℕ) (row : CountRow) → AreKeys kind rows → at < length rows → row ≡ get_or rows at row → IsValueOf kind row.key
key_at kind [] at row are low is = absurd (omega (arith, low))
key_at kind (x ∷ rows) zero row are low is = subst (λ (r : CountRow). IsValueOf kind r.key) (sym is) are.0.0
key_at kind (x ∷ rows) (suc at) row are low is = key_at kind rows at row are.1 (omega (arith, low)) is

-- ---- buckets one after the other

pub no_buckets_yet : (m : Mapping) (view : List EntryState) (n f : ℕ) (ds : Definitions Agg) (given : Given) → IsAnswer m view n (buckets_by m f ds []) given []
no_buckets_yet m view n f ds given = record { is = λ trees stand own. refl }

pub buckets_more : (m : Mapping) (view : List EntryState) (n f : ℕ) (ds : Definitions Agg) (given : Given) (done : List CountRow) (row : CountRow) (old : List BucketPart) (new : BucketPart) → IsAnswer m view n (buckets_by m f ds done) given old → IsAnswer m view n (bucket_by m f ds row) given new
    → IsAnswer m view n (buckets_by m f ds (done ++ row ∷ [])) given (old ++ new ∷ [])
buckets_more m view n f ds given done row old new was own = record {
  is = λ trees stand numbers.
      let live : List Tree = live_trees trees in
      let os : List Object = objects_given m n live (given live) in
      ap (λ (l : List BucketPart). l ++ new ∷ []) (was.is trees stand numbers)
      ∙ ap (λ (b : BucketPart). map (λ (r : CountRow). bucket_by m f ds r live os) done ++ b ∷ []) (own.is trees stand numbers)
      ∙ sym (map-append (λ (r : CountRow). bucket_by m f ds r live os) done (row ∷ []));
}
