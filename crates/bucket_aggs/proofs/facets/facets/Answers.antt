use Rattle.std.proofs.Common.{◌≡◌, ℕ, List, [], ◌∷◌, Some, IfSome, IsSome, length, map, min, take, drop, sum_by, refl, sym, ap, subst, ◌∙◌, arith}
use Rattle.mapping.specs.Mapping.{IsAbove, kind_at}
use Rattle.mapping_body.specs.declared.kind.Kind.{Kind}
use Rattle.query_ast.specs.Agg.{Agg}
use Rattle.query_ast.specs.Definition.{Definitions, definition, definitions_of, no_definitions}
use Rattle.query_ast.specs.Resolved.{AreAggDefinitions}
use Rattle.query_ast.specs.Replies.{BucketPart, buckets_of, several}
use Rattle.query_ast.specs.declared.agg.AggForm.TheVariants.{ReverseNested, Terms}
use Rattle.bucket_aggs.specs.Counts.{AreCounts, count_in, facet_of, flats_of_view, rows_ordered, view_ups, weight}
use Rattle.bucket_aggs.specs.Given.{IsAnswer, buckets_by, value_by}
use Rattle.bucket_aggs.specs.declared.rows.CountRow.{CountRow}
use Rattle.bucket_aggs.proofs.Faceted.{CountLaw, facets_are, lone}
use Rattle.bucket_aggs.proofs.Formed.{Shown, cut_first, cut_others, terms_is}
use Rattle.bucket_aggs.proofs.Handed.{Laws}
use Rattle.bucket_aggs.proofs.facets.facets.Goals as goal

pub returns : goal.returns
returns c = λ given is.
    let m = c.args.mapping.now in
    let view = c.args.entries.now in
    let f : ℕ = c.args.field in
    let size : ℕ = c.args.size in
    let path : ℕ = c.in-Some.path in
    let name : List ℕ = c.in-Some.name.now in
    let same : c.args.inner.now ≡ definition (record { name = name; form = ReverseNested path }) no_definitions ∷ [] = c.in-Some.ensures in
    let above : IsAbove m path c.args.scope = (subst (λ (ds : Definitions Agg). AreAggDefinitions m c.args.scope ds) (ap definitions_of same) c.requires.resolved).0.0 in
    let known = c.scope_count-scopes.ensures.is_mapping in
    let laws : Laws m = record {
      parted = λ n p tree above. c.objects_are_parted.ensures.parted m n p tree known above;
      around = λ o p above. c.objects_are_parted.ensures.around m o p known above;
      tree = λ tree. c.objects_are_parted.ensures.tree m tree known;
      places = λ tree i j o less low. c.objects_nest.ensures.places m tree i j o known less low;
    } in
    let shown : Shown m f = λ o. c.documents_show_values.ensures.shown m f o c.requires.field.0 c.requires.field.1 in
    let law : CountLaw m view path c.args.scope = λ inner those seen. c.ups_are_counted.ensures m view path c.args.scope inner those above seen in
    let rows : List CountRow = c.in-Some-counted.rows.items in
    let ups : List CountRow = c.in_ok-ups.ups.items in
    let sorted : List CountRow = rows_ordered c.args.by_key c.args.descending rows in
    let counts : AreCounts (kind_at m f) f (flats_of_view view c.args.objects.now) rows =
    subst (λ (kind : Kind). AreCounts kind f (flats_of_view view c.args.objects.now) rows) c.kind-kind.ensures (subst (λ made. IfSome made (λ rows. AreCounts c.kind-kind.result f (flats_of_view view c.args.objects.now) rows.items)) c.in-Some-counted.is c.in_ok-counted.ensures.counts) in
    let whole : c.as_slice.result.now ≡ sorted = c.as_slice.ensures.value ∙ c.in_ok-sorted.ensures.order in
    let cut : c.min-end.result ≡ min (length sorted) size = omega (arith, c.min-end.ensures, c.len.ensures, c.as_slice.ensures.len, ap (λ (l : List CountRow). length l) whole) in
    let first : c.split_at.result.0.now ≡ take size sorted = c.split_at.ensures.front ∙ ap (take c.min-end.result) whole ∙ cut_first sorted size c.min-end.result cut in
    let others : c.split_at.result.1.now ≡ drop size sorted = c.split_at.ensures.back ∙ ap (drop c.min-end.result) whole ∙ cut_others sorted size c.min-end.result cut in
    let parts : c.of.result ≡ map (facet_of name ups) (take size sorted) =
    c.of.ensures
    ∙ c.in_ok-buckets.ensures
    ∙ ap (λ (l : List CountRow). map (facet_of name l) c.split_at.result.0.now) c.as_slice-2.ensures.value
    ∙ ap (map (facet_of name ups)) first in
    let weighed : (row : CountRow) → weight row.key ups ≡ view_ups path (kind_at m f) f view c.args.objects.now row.key =
    λ row. c.in_ok-ups.ensures.counts row.key ∙ subst (λ made. IsSome made → weight row.key c.counted_at_once.new.ups.items ≡ view_ups path c.kind-kind.result f view c.args.objects.now row.key) c.in-Some-counted.is (c.in_ok-counted.ensures.ups row.key) refl ∙ ap (λ (kind : Kind). view_ups path kind f view c.args.objects.now row.key) c.kind-kind.ensures in
    let answered : IsAnswer m view c.args.scope (buckets_by m f (lone name path) (take size sorted)) given c.of.result =
    subst (λ (l : List BucketPart). IsAnswer m view c.args.scope (buckets_by m f (lone name path) (take size sorted)) given l) (sym parts)
    (facets_are m view c.args.scope f path name given c.args.objects.now laws above shown is law ups (take size sorted) weighed) in
    subst (λ (d : Definitions Agg). IsAnswer m view c.args.scope (value_by m (Terms (Some f) size c.args.by_key c.args.descending) d) given (several (buckets_of c.of.result) c.in_ok-other.other)) (sym (ap definitions_of same))
    (terms_is m view c.args.scope f size c.args.by_key c.args.descending (lone name path) given c.args.objects.now rows c.of.result c.in_ok-other.other shown is counts (c.in_ok-other.ensures ∙ ap (sum_by count_in) others) answered)
