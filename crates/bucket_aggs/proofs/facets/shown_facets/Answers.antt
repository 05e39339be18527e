use Rattle.std.proofs.Common.{◌≡◌, ◌+◌, ◌++◌, List, [], ◌∷◌, map, take, sym, ap, ◌∙◌, arith}
use Rattle.std.proofs.lemmas.List.{map-append, take_all, take_more}
use Rattle.query_ast.specs.Replies.{BucketPart}
use Rattle.query_ast.specs.Replies.View.{bucket_part}
use Rattle.query_ast.specs.declared.bucket.Bucket.{Bucket}
use Rattle.bucket_aggs.specs.Counts.{facet_of}
use Rattle.bucket_aggs.specs.declared.rows.CountRow.{CountRow}
use Rattle.bucket_aggs.proofs.facets.shown_facets.Goals as goal

pub rows-init : goal.rows-init
rows-init c = ap (λ (l : List Bucket). map bucket_part l) c.in_ok-buckets.ensures.items

pub rows-preserved : goal.rows-preserved
rows-preserved c =
    let rows : List CountRow = c.args.rows.now in
    let facets : CountRow → BucketPart = facet_of c.args.name.now c.args.ups.now in
    let row : CountRow = c.index-rows-at.result in
    let first : take (c.rows.at + 1) rows ≡ take c.rows.at rows ++ row ∷ [] = take_more rows c.rows.at row c.rows-test.true ∙ ap (λ (r : CountRow). take c.rows.at rows ++ r ∷ []) (sym c.index-rows-at.is) in
    ap (λ (l : List Bucket). map bucket_part l) c.in_ok-push.ensures.items
    ∙ map-append bucket_part c.rows.buckets.items (c.in_ok-bucket.bucket ∷ [])
    ∙ ap (λ (l : List BucketPart). l ++ bucket_part c.in_ok-bucket.bucket ∷ []) c.rows.invariant
    ∙ ap (λ (b : BucketPart). map facets (take c.rows.at rows) ++ b ∷ []) c.in_ok-bucket.ensures
    ∙ sym (map-append facets (take c.rows.at rows) (row ∷ []))
    ∙ ap (map facets) (sym first)

pub returns : goal.returns
returns c =
    c.rows.invariant ∙ ap (map (facet_of c.args.name.now c.args.ups.now)) (take_all c.rows.at c.args.rows.now (omega (arith, c.rows-test.false)))
