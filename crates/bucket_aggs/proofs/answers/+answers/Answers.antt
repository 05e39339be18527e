use Rattle.std.proofs.lemmas.Bool.{eqb-true, or_left, or_right}
use Rattle.std.proofs.lemmas.List.{map-append, take_all, take_more}
use Rattle.std.proofs.Common.{◌≡◌, ℕ, ℤ, ◌+◌, ◌-◌, ◌++◌, true, List, [], ◌∷◌, Option, Some, IfSome, length, map, min, take, drop, sum_by, refl, sym, ap, subst, ◌∙◌, arith, rules, w64}
use Rattle.std.proofs.lemmas.Int.{to_z-of_z}
use mir.Val.{SFits, of_z, to_z}
use Rattle.block_join.specs.declared.rule.Rule.TheVariants.{Kept}
use Rattle.mapping.specs.Mapping.{kind_at}
use Rattle.mapping_body.specs.declared.kind.Kind.{Kind}
use Rattle.query_ast.specs.Clause.{Clause}
use Rattle.query_ast.specs.Agg.{Agg}
use Rattle.query_ast.specs.Agg.View.{agg_of}
use Rattle.query_ast.specs.Definition.{Definition, Definitions, definition_size, definitions_of, definitions_size, no_definitions, with_definition}
use Rattle.query_ast.specs.Joins.{agg_joins, form_joins, some_agg_joins}
use Rattle.join_ordinals.specs.Ordinals.{AreOrdinals}
use Rattle.query_ast.specs.Replies.{BucketPart, ReplyPart, metric, replies_of}
use Rattle.query_ast.specs.Replies.View.{bucket_part, reply_part, value_of}
use Rattle.query_ast.specs.declared.bucket.AggReply.{AggReply}
use Rattle.query_ast.specs.Resolved.{AreAggDefinitions, IsForm, scope_of_form}
use Rattle.query_ast.specs.declared.agg.AggDef.{AggDef}
use Rattle.query_ast.specs.declared.agg.AggForm.{AggForm}
use Rattle.query_ast.specs.declared.agg.AggForm.TheVariants.{Children, Filter, Parent, ReverseNested, Terms, Min as MinOf, Max as MaxOf, Sum as SumOf, ValueCount}
use Rattle.query_ast.specs.declared.bucket.Bucket.{Bucket}
use Rattle.query_eval.specs.Folds.{paired_by}
use Rattle.query_eval.specs.Found.{IsSeen, score_by}
use Rattle.query_eval.specs.Nested.{below_by}
use Rattle.query_eval.specs.Sides.{by_relation}
use Rattle.score_math.specs.Scores.{mode_of}
use Rattle.score_math.specs.declared.score.ScoreMode.TheVariants.{Max}
use Rattle.bucket_aggs.specs.Counts.{AreCounts, AreKeys, AreKnown, count_in, flats_of_view, rows_ordered}
use Rattle.tree_objects.specs.declared.field_value.FieldValue.{FieldValue}
use Rattle.bucket_aggs.specs.Once.{AreRootsOf, IsFoundBy}
use Rattle.bucket_aggs.specs.Once.Ready.{AreReady}
use Rattle.bucket_aggs.specs.Parents.{AreParents}
use Rattle.bucket_aggs.proofs.Parents.{answer_of_parents}
use Rattle.bucket_aggs.specs.Given.{AreOfValue, AreReplies, IsAnswer, bucket_by, buckets_by, count_by_field, greatest_by, least_by, more_replies, replies_by, single_by, sum_by_field, value_by}
use Rattle.bucket_aggs.specs.declared.rows.CountRow.{CountRow}
use Rattle.bucket_aggs.proofs.Formed.{bucket_alone, bucket_is, buckets_more, children_is, cut_first, cut_others, definition_some, definitions_parts, filter_is, key_at, keys_taken, metric_is, nested_is, no_buckets_yet, no_terms, none_inside, number_is, parent_is, replies_more, reply_is, reverse_is, single_is, terms_is}
use Rattle.bucket_aggs.proofs.Handed.{Laws}
use Rattle.bucket_aggs.proofs.answers.+answers.Goals as goal

pub hitting-returns : goal.hitting-returns
hitting-returns t c = λ given is.
    let m = c.args.mapping.now in
    let q = c.args.query.now in
    let view = c.args.entries.now in
    let those = c.in_ok-those.those in
    let seen : IsSeen m view c.args.scope (paired_by Kept given (score_by m q)) those =
    subst (λ (x : Clause). IsSeen m view c.args.scope (paired_by Kept given (score_by m x)) those) c.get.ensures (c.in_ok-those.ensures.seen given is) in
    filter_is m view (definitions_of c.args.inner.now) given (value_of c.in_ok-single.field-0) c.args.scope q (c.in_ok-single.ensures (paired_by Kept given (score_by m q)) seen)

pub inside-returns : goal.inside-returns
inside-returns t c = λ given is.
    let those = c.in_ok-those.ensures.inside given is in
    nested_is c.args.mapping.now c.args.entries.now (definitions_of c.args.inner.now) given (value_of c.in_ok-single.field-0) c.args.scope c.args.path those.inner those.are (c.in_ok-single.ensures those.inner those.seen)

pub around-returns : goal.around-returns
around-returns t c = λ given is.
    let m = c.args.mapping.now in
    let known = c.scope_count-scopes.ensures.is_mapping in
    let laws : Laws m = record {
      parted = λ n p tree above. c.objects_are_parted.ensures.parted m n p tree known above;
      around = λ o p above. c.objects_are_parted.ensures.around m o p known above;
      tree = λ tree. c.objects_are_parted.ensures.tree m tree known;
      places = λ tree i j o less low. c.objects_nest.ensures.places m tree i j o known less low;
    } in
    reverse_is m c.args.entries.now (definitions_of c.args.inner.now) given (value_of c.in_ok-single.field-0) c.args.scope c.args.path laws c.requires.path
    (c.in_ok-single.ensures (below_by m (mode_of Max) c.args.scope given) (c.in_ok-those.ensures.seen m c.args.scope given c.requires.path is))

pub around-returns-then-is_empty : goal.around-returns-then-is_empty
around-returns-then-is_empty t c = λ given is.
    let m = c.args.mapping.now in
    let none : definitions_of c.args.inner.now ≡ no_definitions = none_inside c.as_slice.result.now c.args.inner.now c.as_slice.ensures (eqb-true (length c.as_slice.result.now) 0 (sym c.is_empty.ensures ∙ c.if-is_empty.true)) in
    subst (λ (ds : Definitions Agg). IsAnswer m c.args.entries.now c.args.scope (value_by m (ReverseNested c.args.path) ds) given (value_of c.in_ok-around_alone.field-0)) (sym none) (c.in_ok-around_alone.ensures given is)

pub children-returns : goal.children-returns
children-returns t c = λ given is.
    let m = c.args.mapping.now in
    let view = c.args.entries.now in
    let r = c.args.relation in
    let ds = definitions_of c.args.inner.now in
    let value = value_of c.in_ok-single.field-0 in
    let at_root : IsSeen m view 0 given c.args.objects.now = subst (λ (s : ℕ). IsSeen m view s given c.args.objects.now) c.requires.root is in
    subst (λ (s : ℕ). IsAnswer m view s (value_by m (Children r) ds) given value) (sym c.requires.root)
    (children_is m view ds given value r (λ trees. c.hits_are_objects.ensures.roots m trees c.scope_count-scopes.ensures.is_mapping)
    (c.in_ok-single.ensures (by_relation m r given) (c.in_ok-those.ensures.seen given at_root)))

pub parents-returns : goal.parents-returns
parents-returns t c = λ given is.
    let m = c.args.mapping.now in
    let view = c.args.entries.now in
    let r = c.args.relation in
    let ds = definitions_of c.args.inner.now in
    let value = value_of c.in_ok-single.field-0 in
    let at_root : IsSeen m view 0 given c.args.objects.now = subst (λ (s : ℕ). IsSeen m view s given c.args.objects.now) c.requires.root is in
    let are : AreParents m view r given c.in_ok-those.those = c.in_ok-those.ensures.seen given at_root in
    subst (λ (s : ℕ). IsAnswer m view s (value_by m (Parent r) ds) given value) (sym c.requires.root)
    (parent_is m view ds given value r (λ trees. c.hits_are_objects.ensures.roots m trees c.scope_count-scopes.ensures.is_mapping)
    (answer_of_parents m view r (single_by m ds) given c.in_ok-those.those value are (c.in_ok-single.ensures are.inner are.seen)))

pub single-returns : goal.single-returns
single-returns t c = λ given is.
    let m = c.args.mapping.now in
    let view = c.args.entries.now in
    let answered : AreReplies m view c.args.scope (definitions_of c.args.inner.now) given c.of.result =
    subst (λ (parts : List ReplyPart). AreReplies m view c.args.scope (definitions_of c.args.inner.now) given parts) (sym c.of.ensures)
    (subst (λ (defs : List (Definition Agg)). AreReplies m view c.args.scope (definitions_of defs) given (map reply_part c.in_ok-replies.replies.items)) c.as_slice.ensures (c.in_ok-replies.ensures given is)) in
    single_is m view c.args.scope (definitions_of c.args.inner.now) given c.args.objects.now c.in_ok-count.count c.of.result is c.in_ok-count.ensures answered

pub replies-returns : goal.replies-returns
replies-returns t c = λ given is.
    subst (λ (old : List AggReply). IsAnswer c.args.mapping.now c.args.entries.now c.args.scope (more_replies c.args.mapping.now (definitions_of (map agg_of c.args.aggs.now)) (map reply_part old)) given (map reply_part c.in_ok-further.field-0.items)) c.new-none.ensures.items
    (c.in_ok-further.ensures given is)

pub further-returns-in_ok-further-in-len1-up : goal.further-returns-in_ok-further-in-len1-up
further-returns-in_ok-further-in-len1-up t c = λ given is.
    let m = c.args.mapping.now in
    let view = c.args.entries.now in
    let d : AggDef = c.def-item.result in
    let rest = definitions_of (map agg_of (take (length c.args.aggs.now - 1) (drop 1 c.args.aggs.now))) in
    let old : List ReplyPart = map reply_part c.args.made.items in
    let new : List ReplyPart = map reply_part c.in_ok-further-in-len1-up.field-0.items in
    let own : AggReply = c.in_ok-own-in-len1-up.own in
    let pushed : map reply_part c.push.new.self.items ≡ old ++ reply_part own ∷ [] = ap (map reply_part) c.in_ok-push-in-len1-up.ensures.items ∙ map-append reply_part c.args.made.items (own ∷ []) in
    subst (λ (ds : Definitions Agg). IsAnswer m view c.args.scope (more_replies m ds old) given new) (sym (definitions_parts c.args.aggs.now d (omega (arith, c.in-len1-up.len_at_least)) c.def-item.is))
    (replies_more m view c.args.scope given (agg_of d) rest old new (reply_part own) (c.in_ok-own-in-len1-up.ensures.reply given is)
    (subst (λ (l : List ReplyPart). IsAnswer m view c.args.scope (more_replies m rest l) given new) pushed (c.in_ok-further-in-len1-up.ensures given is)))

pub reply-returns-clause-reply : goal.reply-returns-clause-reply
reply-returns-clause-reply t c = λ given is.
    let def : AggDef = c.args.def.now in
    let named : c.of-name.result ≡ def.name = c.of-name.ensures ∙ c.in_ok-from_slice.ensures.items ∙ c.as_slice.ensures in
    reply_is c.args.mapping.now c.args.entries.now c.args.scope given (record { name = def.name; form = def.form }) (definitions_of def.inner) c.of-name.result (value_of c.in_ok-answer.answer) named (c.in_ok-answer.ensures.value given is)

pub terms-returns-in_ok-field_terms-in-Some : goal.terms-returns-in_ok-field_terms-in-Some
terms-returns-in_ok-field_terms-in-Some t c = λ given is.
    let m = c.args.mapping.now in
    subst (λ (field : Option ℕ). IsAnswer m c.args.entries.now c.args.scope (value_by m (Terms field c.args.size c.args.by_key c.args.descending) (definitions_of c.args.inner.now)) given (value_of c.in_ok-field_terms-in-Some.field-0)) (sym c.in-Some.is)
    (c.in_ok-field_terms-in-Some.ensures given is)

pub field_terms-returns-in-Some : goal.field_terms-returns-in-Some
field_terms-returns-in-Some t c = λ given is.
    let m = c.args.mapping.now in
    let form = Terms (Some c.args.field) c.args.size c.args.by_key c.args.descending in
    subst (λ found. IfSome found (λ value. IsAnswer m c.args.entries.now c.args.scope (value_by m form (definitions_of c.args.inner.now)) given (value_of value))) c.in-Some.is (c.in_ok-facets.ensures given is)

pub terms-returns-in-None : goal.terms-returns-in-None
terms-returns-in-None t c = λ given is.
    let m = c.args.mapping.now in
    let ds = definitions_of c.args.inner.now in
    subst (λ (field : Option ℕ). IsAnswer m c.args.entries.now c.args.scope (value_by m (Terms field c.args.size c.args.by_key c.args.descending) ds) given (value_of c.no_buckets.result)) (sym c.in-None.is)
    (no_terms m c.args.entries.now c.args.scope c.args.size c.args.by_key c.args.descending ds given (value_of c.no_buckets.result) c.no_buckets.ensures)

pub shown-rows-init : goal.shown-rows-init
shown-rows-init t c = λ given is.
    let m = c.args.mapping.now in
    let ds = definitions_of c.args.inner.now in
    subst (λ (l : List Bucket). IsAnswer m c.args.entries.now c.args.scope (buckets_by m c.args.field ds []) given (map bucket_part l)) (sym c.in_ok-buckets.ensures.items)
    (no_buckets_yet m c.args.entries.now c.args.scope c.args.field ds given)

pub shown-bucket-requires : goal.shown-bucket-requires
shown-bucket-requires t c =
    let key = key_at (kind_at c.args.mapping.now c.args.field) c.args.rows.now c.rows.at c.index-rows-at.result c.requires.keys c.rows-test.true c.index-rows-at.is in
    (omega arith, (c.requires.field, (c.requires.found, (key, (c.requires.resolved, (c.requires.joined, (c.requires.once, c.requires.long)))))))

pub shown-rows-preserved : goal.shown-rows-preserved
shown-rows-preserved t c = λ given is.
    let m = c.args.mapping.now in
    let view = c.args.entries.now in
    let ds = definitions_of c.args.inner.now in
    let rows : List CountRow = c.args.rows.now in
    let row : CountRow = c.index-rows-at.result in
    let old : List BucketPart = map bucket_part c.rows.buckets.items in
    let new : BucketPart = bucket_part c.in_ok-bucket.bucket in
    let parts : map bucket_part c.push.new.self.items ≡ old ++ new ∷ [] = ap (map bucket_part) c.in_ok-push.ensures.items ∙ map-append bucket_part c.rows.buckets.items (c.in_ok-bucket.bucket ∷ []) in
    let first : take (c.rows.at + 1) rows ≡ take c.rows.at rows ++ row ∷ [] = take_more rows c.rows.at row c.rows-test.true ∙ ap (λ (r : CountRow). take c.rows.at rows ++ r ∷ []) (sym c.index-rows-at.is) in
    subst (λ (l : List CountRow). IsAnswer m view c.args.scope (buckets_by m c.args.field ds l) given (map bucket_part c.push.new.self.items)) (sym first)
    (subst (λ (l : List BucketPart). IsAnswer m view c.args.scope (buckets_by m c.args.field ds (take c.rows.at rows ++ row ∷ [])) given l) (sym parts)
    (buckets_more m view c.args.scope c.args.field ds given (take c.rows.at rows) row old new (c.rows.invariant given is) (c.in_ok-bucket.ensures given is)))

pub shown-returns : goal.shown-returns
shown-returns t c = λ given is.
    let m = c.args.mapping.now in
    let ds = definitions_of c.args.inner.now in
    subst (λ (l : List CountRow). IsAnswer m c.args.entries.now c.args.scope (buckets_by m c.args.field ds l) given (map bucket_part c.rows.buckets.items)) (take_all c.rows.at c.args.rows.now (omega (arith, c.rows-test.false)))
    (c.rows.invariant given is)

pub bucket-returns-then-is_empty : goal.bucket-returns-then-is_empty
bucket-returns-then-is_empty t c = λ given is.
    let m = c.args.mapping.now in
    let view = c.args.entries.now in
    let row : CountRow = c.args.row.now in
    let none : definitions_of c.args.inner.now ≡ no_definitions = none_inside c.as_slice.result.now c.args.inner.now c.as_slice.ensures (eqb-true (length c.as_slice.result.now) 0 (sym c.is_empty.ensures ∙ c.if-is_empty.true)) in
    let replies : c.of.result ≡ [] = c.of.ensures ∙ ap (map reply_part) c.new.ensures.items in
    let part : BucketPart = record { key = c.in_ok-key.key; count = row.count; inner = replies_of c.of.result } in
    let alone : part ≡ record { key = row.key; count = row.count; inner = replies_of [] } =
    ap (λ (k : FieldValue). record { key = k; count = row.count; inner = replies_of c.of.result }) c.in_ok-key.ensures
    ∙ ap (λ (l : List ReplyPart). record { key = row.key; count = row.count; inner = replies_of l }) replies in
    subst (λ (ds : Definitions Agg). IsAnswer m view c.args.scope (bucket_by m c.args.field ds row) given part) (sym none)
    (subst (λ (p : BucketPart). IsAnswer m view c.args.scope (bucket_by m c.args.field no_definitions row) given p) (sym alone) (bucket_alone m view c.args.scope c.args.field given row))

pub bucket-returns : goal.bucket-returns
bucket-returns t c = λ given is.
    let m = c.args.mapping.now in
    let view = c.args.entries.now in
    let f : ℕ = c.args.field in
    let row : CountRow = c.args.row.now in
    let ds = definitions_of c.args.inner.now in
    let are : AreOfValue m view c.args.scope f row.key given c.in_ok-those.those = c.in_ok-those.ensures.those given is in
    let parts : List ReplyPart = map reply_part c.in_ok-replies.replies.items in
    let answered : IsAnswer m view c.args.scope (replies_by m ds) are.inner parts =
    subst (λ (defs : List (Definition Agg)). IsAnswer m view c.args.scope (replies_by m (definitions_of defs)) are.inner parts) c.as_slice-2.ensures (c.in_ok-replies.ensures are.inner are.seen) in
    let same : record { key = c.in_ok-key.key; count = row.count; inner = replies_of c.of-2.result } ≡ record { key = row.key; count = row.count; inner = replies_of parts } =
    ap (λ (k : FieldValue). record { key = k; count = row.count; inner = replies_of c.of-2.result }) c.in_ok-key.ensures
    ∙ ap (λ (l : List ReplyPart). record { key = row.key; count = row.count; inner = replies_of l }) c.of-2.ensures in
    subst (λ (p : BucketPart). IsAnswer m view c.args.scope (bucket_by m f ds row) given p) (sym same) (bucket_is m view c.args.scope f ds given row c.in_ok-those.those parts are answered)

pub mapped_terms-returns : goal.mapped_terms-returns
mapped_terms-returns t c = λ given is.
    let m = c.args.mapping.now in
    let view = c.args.entries.now in
    let f : ℕ = c.args.field in
    let size : ℕ = c.args.size in
    let ds = definitions_of c.args.inner.now in
    let rows : List CountRow = c.in_ok-rows.rows.items in
    let sorted : List CountRow = rows_ordered c.args.by_key c.args.descending rows in
    let counts : AreCounts (kind_at m f) f (flats_of_view view c.args.objects.now) rows =
    subst (λ (kind : Kind). AreCounts kind f (flats_of_view view c.args.objects.now) rows) c.kind.ensures c.in_ok-rows.ensures.counts in
    let whole : c.as_slice-2.result.now ≡ sorted = c.as_slice-2.ensures.value ∙ c.in_ok-sorted.ensures.order in
    let cut : c.min-end.result ≡ min (length sorted) size = omega (arith, c.min-end.ensures, c.len.ensures, c.as_slice-2.ensures.len, ap (λ (l : List CountRow). length l) whole) in
    let first : c.split_at.result.0.now ≡ take size sorted = c.split_at.ensures.front ∙ ap (take c.min-end.result) whole ∙ cut_first sorted size c.min-end.result cut in
    let others : c.split_at.result.1.now ≡ drop size sorted = c.split_at.ensures.back ∙ ap (drop c.min-end.result) whole ∙ cut_others sorted size c.min-end.result cut in
    let answered : IsAnswer m view c.args.scope (buckets_by m f ds (take size sorted)) given c.of.result =
    subst (λ (parts : List BucketPart). IsAnswer m view c.args.scope (buckets_by m f ds (take size sorted)) given parts) (sym c.of.ensures)
    (subst (λ (l : List CountRow). IsAnswer m view c.args.scope (buckets_by m f ds l) given (map bucket_part c.in_ok-buckets.buckets.items)) first (c.in_ok-buckets.ensures given is)) in
    terms_is m view c.args.scope f size c.args.by_key c.args.descending ds given c.args.objects.now rows c.of.result c.in_ok-other.other
    (λ o. c.documents_show_values.ensures.shown m f o c.requires.field.0 c.requires.field.1) is counts (c.in_ok-other.ensures ∙ ap (sum_by count_in) others) answered

pub value-returns-in_ok-least-in-Min-clause-value : goal.value-returns-in_ok-least-in-Min-clause-value
value-returns-in_ok-least-in-Min-clause-value t c = λ given is.
    let m = c.args.mapping.now in
    let view = c.args.entries.now in
    let ds = definitions_of c.args.inner.now in
    let field : Option ℕ = c.in-Min.field in
    let asked = (subst (λ (form : AggForm). IsForm m c.args.scope form ds) c.in-Min.is c.requires.form).0 in
    subst (λ (form : AggForm). IsAnswer m view c.args.scope (value_by m form ds) given (metric c.in_ok-least-in-Min.field-0)) (sym c.in-Min.is)
    (metric_is m view c.args.scope (least_by m field) (value_by m (MinOf field) ds) given c.in_ok-least-in-Min.field-0 (λ live objects. refl) (c.in_ok-least-in-Min.ensures.answer m c.args.scope given asked is))

pub value-returns-in_ok-greatest-in-Max-clause-value : goal.value-returns-in_ok-greatest-in-Max-clause-value
value-returns-in_ok-greatest-in-Max-clause-value t c = λ given is.
    let m = c.args.mapping.now in
    let view = c.args.entries.now in
    let ds = definitions_of c.args.inner.now in
    let field : Option ℕ = c.in-Max.field in
    let asked = (subst (λ (form : AggForm). IsForm m c.args.scope form ds) c.in-Max.is c.requires.form).0 in
    subst (λ (form : AggForm). IsAnswer m view c.args.scope (value_by m form ds) given (metric c.in_ok-greatest-in-Max.field-0)) (sym c.in-Max.is)
    (metric_is m view c.args.scope (greatest_by m field) (value_by m (MaxOf field) ds) given c.in_ok-greatest-in-Max.field-0 (λ live objects. refl) (c.in_ok-greatest-in-Max.ensures.answer m c.args.scope given asked is))

pub value-returns-in_ok-sum-in-Sum-clause-value : goal.value-returns-in_ok-sum-in-Sum-clause-value
value-returns-in_ok-sum-in-Sum-clause-value t c = λ given is.
    let m = c.args.mapping.now in
    let view = c.args.entries.now in
    let ds = definitions_of c.args.inner.now in
    let field : Option ℕ = c.in-Sum.field in
    let asked = (subst (λ (form : AggForm). IsForm m c.args.scope form ds) c.in-Sum.is c.requires.form).0 in
    let z : ℤ = c.in_ok-sum-in-Sum.field-0 in
    let fits : SFits w64 z = search rules in
    subst (λ (form : AggForm). IsAnswer m view c.args.scope (value_by m form ds) given (metric (Some (to_z w64 (of_z w64 z))))) (sym c.in-Sum.is)
    (subst (λ (number : ℤ). IsAnswer m view c.args.scope (value_by m (SumOf field) ds) given (metric (Some number))) (sym (to_z-of_z w64 z fits))
    (number_is m view c.args.scope (sum_by_field m field) (value_by m (SumOf field) ds) given c.in_ok-sum-in-Sum.field-0 (λ live objects. refl) (c.in_ok-sum-in-Sum.ensures.answer m c.args.scope given asked is)))

pub value-returns-in_ok-count-in-ValueCount-clause-value : goal.value-returns-in_ok-count-in-ValueCount-clause-value
value-returns-in_ok-count-in-ValueCount-clause-value t c = λ given is.
    let m = c.args.mapping.now in
    let view = c.args.entries.now in
    let ds = definitions_of c.args.inner.now in
    let field : Option ℕ = c.in-ValueCount.field in
    let z : ℤ = c.in_ok-count-in-ValueCount.field-0 in
    let fits : SFits w64 z = search rules in
    subst (λ (form : AggForm). IsAnswer m view c.args.scope (value_by m form ds) given (metric (Some (to_z w64 (of_z w64 z))))) (sym c.in-ValueCount.is)
    (subst (λ (number : ℤ). IsAnswer m view c.args.scope (value_by m (ValueCount field) ds) given (metric (Some number))) (sym (to_z-of_z w64 z fits))
    (number_is m view c.args.scope (count_by_field m field) (value_by m (ValueCount field) ds) given c.in_ok-count-in-ValueCount.field-0 (λ live objects. refl) (c.in_ok-count-in-ValueCount.ensures.answer c.args.scope given is)))

pub mapped_terms-ready_shown-requires : goal.mapped_terms-ready_shown-requires
mapped_terms-ready_shown-requires t c =
    let kind = kind_at c.args.mapping.now c.args.field in
    let counts : AreCounts kind c.args.field (flats_of_view c.args.entries.now c.args.objects.now) c.in_ok-rows.rows.items =
    subst (λ (k : Kind). AreCounts k c.args.field (flats_of_view c.args.entries.now c.args.objects.now) c.in_ok-rows.rows.items) c.kind.ensures c.in_ok-rows.ensures.counts in
    let keys : AreKeys kind c.split_at.result.0.now =
    subst (AreKeys kind) (sym (c.split_at.ensures.front ∙ ap (take c.min-end.result) c.as_slice-2.ensures.value)) (keys_taken kind c.min-end.result c.in_ok-sorted.sorted.items (c.in_ok-sorted.ensures.keys kind counts.keys)) in
    let found : AreKnown c.args.entries.now c.args.objects.now c.as_slice-found.result.now = subst (AreKnown c.args.entries.now c.args.objects.now) (sym c.as_slice-found.ensures.value) c.in_ok-rows.ensures.found in
    (omega arith, (c.requires.field, (found, (keys, (c.requires.resolved, (c.requires.joined, (c.requires.once, c.requires.long)))))))

pub further-reply-requires : goal.further-reply-requires
further-reply-requires t c =
    let m = c.args.mapping.now in
    let view = c.args.entries.now in
    let o = c.args.ordinals.now in
    let d : AggDef = c.def-item.result in
    let rest : Definitions Agg = definitions_of (map agg_of (take (length c.args.aggs.now - 1) (drop 1 c.args.aggs.now))) in
    let parts : definitions_of (map agg_of c.args.aggs.now) ≡ with_definition (agg_of d) rest = definitions_parts c.args.aggs.now d (omega (arith, c.in-len1-up.len_at_least)) c.def-item.is in
    let resolved : AreAggDefinitions m c.args.scope (with_definition (agg_of d) rest) = subst (AreAggDefinitions m c.args.scope) parts c.requires.resolved in
    let once : IfSome c.args.once (λ made. AreReady m view o c.args.scope (with_definition (agg_of d) rest) made.now) =
    subst (λ (ds : Definitions Agg). IfSome c.args.once (λ made. AreReady m view o c.args.scope ds made.now)) parts c.requires.once in
    let size : definitions_size (definitions_of (map agg_of c.args.aggs.now)) ≡ definition_size (agg_of d) + definitions_size rest = ap definitions_size parts in
    (omega (arith, size), (resolved.0, (λ it. c.requires.joined (ap some_agg_joins parts ∙ or_left (agg_joins (agg_of d)) (some_agg_joins rest) it), (c.parted.ensures.first m view o c.args.scope (agg_of d) rest once, (c.requires.long, c.requires.kept)))))

pub further-further-requires : goal.further-further-requires
further-further-requires t c =
    let m = c.args.mapping.now in
    let view = c.args.entries.now in
    let o = c.args.ordinals.now in
    let d : AggDef = c.def-item.result in
    let rest : Definitions Agg = definitions_of (map agg_of (take (length c.args.aggs.now - 1) (drop 1 c.args.aggs.now))) in
    let parts : definitions_of (map agg_of c.args.aggs.now) ≡ with_definition (agg_of d) rest = definitions_parts c.args.aggs.now d (omega (arith, c.in-len1-up.len_at_least)) c.def-item.is in
    let resolved : AreAggDefinitions m c.args.scope (with_definition (agg_of d) rest) = subst (AreAggDefinitions m c.args.scope) parts c.requires.resolved in
    let once : IfSome c.args.once (λ made. AreReady m view o c.args.scope (with_definition (agg_of d) rest) made.now) =
    subst (λ (ds : Definitions Agg). IfSome c.args.once (λ made. AreReady m view o c.args.scope ds made.now)) parts c.requires.once in
    let size : definitions_size (definitions_of (map agg_of c.args.aggs.now)) ≡ definition_size (agg_of d) + definitions_size rest = ap definitions_size parts in
    (omega (arith, size, definition_some (agg_of d)), (resolved.1, (λ it. c.requires.joined (ap some_agg_joins parts ∙ or_right (agg_joins (agg_of d)) (some_agg_joins rest) it), (c.parted.ensures.others m view o c.args.scope (agg_of d) rest once, (c.requires.long, c.in_ok-own-in-len1-up.ensures.kept)))))

pub reply-value-requires : goal.reply-value-requires
reply-value-requires t c =
    let m = c.args.mapping.now in
    let view = c.args.entries.now in
    let o = c.args.ordinals.now in
    let def : AggDef = c.args.def.now in
    let agg : Agg = record { name = def.name; form = def.form } in
    let ds : Definitions Agg = definitions_of def.inner in
    (omega arith, (c.requires.resolved.0, (c.requires.resolved.1, (λ it. c.requires.joined (or_left (form_joins def.form) (some_agg_joins ds) it), (λ it. c.requires.joined (or_right (form_joins def.form) (some_agg_joins ds) it), (c.opened.ensures.known m view o c.args.scope agg ds c.requires.known, (c.opened.ensures.inner m view o c.args.scope agg ds c.requires.known, (c.requires.long, c.requires.kept))))))))

pub value-hitting-requires : goal.value-hitting-requires
value-hitting-requires t c =
    let m = c.args.mapping.now in
    let view = c.args.entries.now in
    let o = c.args.ordinals.now in
    let inner : Definitions Agg = definitions_of c.args.inner.now in
    let form : IsForm m c.args.scope (Filter c.in-Filter.query) inner = subst (λ (f : AggForm). IsForm m c.args.scope f inner) c.in-Filter.is c.requires.form in
    let joined : form_joins (Filter c.in-Filter.query) ≡ true → AreOrdinals view o = subst (λ (f : AggForm). form_joins f ≡ true → AreOrdinals view o) c.in-Filter.is c.requires.joined in
    let inside : AreAggDefinitions m c.args.scope inner = subst (λ (f : AggForm). AreAggDefinitions m (scope_of_form c.args.scope f) inner) c.in-Filter.is c.requires.inner in
    let hits : IfSome c.known_hits-hits.result (λ hits. IsFoundBy m view c.args.scope (Filter c.in-Filter.query) hits.now) =
    subst (λ (f : AggForm). IfSome c.known_hits-hits.result (λ hits. IsFoundBy m view c.args.scope f hits.now)) c.in-Filter.is (c.known_hits-hits.ensures m view o c.args.scope c.args.form.now c.requires.known) in
    let once : IfSome c.args.once (λ made. AreReady m view o c.args.scope inner made.now) =
    subst (λ (f : AggForm). IfSome c.args.once (λ made. AreReady m view o (scope_of_form c.args.scope f) inner made.now)) c.in-Filter.is c.requires.once in
    (omega arith, (form, (joined, (inside, (c.requires.joined_inside, (hits, (once, c.requires.long)))))))

pub value-children-requires : goal.value-children-requires
value-children-requires t c =
    let m = c.args.mapping.now in
    let view = c.args.entries.now in
    let o = c.args.ordinals.now in
    let r = c.in-Children.relation in
    let inner : Definitions Agg = definitions_of c.args.inner.now in
    let form : IsForm m c.args.scope (Children r) inner = subst (λ (f : AggForm). IsForm m c.args.scope f inner) c.in-Children.is c.requires.form in
    let joined : form_joins (Children r) ≡ true → AreOrdinals view o = subst (λ (f : AggForm). form_joins f ≡ true → AreOrdinals view o) c.in-Children.is c.requires.joined in
    let inside : AreAggDefinitions m 0 inner = subst (λ (f : AggForm). AreAggDefinitions m (scope_of_form c.args.scope f) inner) c.in-Children.is c.requires.inner in
    let roots : IfSome c.known_roots-roots.result (λ roots. AreRootsOf m view o (Children r) roots.now) =
    subst (λ (f : AggForm). IfSome c.known_roots-roots.result (λ roots. AreRootsOf m view o f roots.now)) c.in-Children.is (c.known_roots-roots.ensures m view o c.args.scope c.args.form.now c.requires.known) in
    let once : IfSome c.args.once (λ made. AreReady m view o 0 inner made.now) =
    subst (λ (f : AggForm). IfSome c.args.once (λ made. AreReady m view o (scope_of_form c.args.scope f) inner made.now)) c.in-Children.is c.requires.once in
    (omega arith, (form.0, (form.1, (roots, (joined refl, (inside, (once, c.requires.long)))))))

pub value-parents-requires : goal.value-parents-requires
value-parents-requires t c =
    let m = c.args.mapping.now in
    let view = c.args.entries.now in
    let o = c.args.ordinals.now in
    let r = c.in-Parent.relation in
    let inner : Definitions Agg = definitions_of c.args.inner.now in
    let form : IsForm m c.args.scope (Parent r) inner = subst (λ (f : AggForm). IsForm m c.args.scope f inner) c.in-Parent.is c.requires.form in
    let joined : form_joins (Parent r) ≡ true → AreOrdinals view o = subst (λ (f : AggForm). form_joins f ≡ true → AreOrdinals view o) c.in-Parent.is c.requires.joined in
    let inside : AreAggDefinitions m 0 inner = subst (λ (f : AggForm). AreAggDefinitions m (scope_of_form c.args.scope f) inner) c.in-Parent.is c.requires.inner in
    let roots : IfSome c.known_roots-roots-in-Parent.result (λ roots. AreRootsOf m view o (Parent r) roots.now) =
    subst (λ (f : AggForm). IfSome c.known_roots-roots-in-Parent.result (λ roots. AreRootsOf m view o f roots.now)) c.in-Parent.is (c.known_roots-roots-in-Parent.ensures m view o c.args.scope c.args.form.now c.requires.known) in
    let once : IfSome c.args.once (λ made. AreReady m view o 0 inner made.now) =
    subst (λ (f : AggForm). IfSome c.args.once (λ made. AreReady m view o (scope_of_form c.args.scope f) inner made.now)) c.in-Parent.is c.requires.once in
    (omega arith, (form.0, (form.1, (roots, (joined refl, (inside, (once, c.requires.long)))))))
