use Rattle.std.proofs.Common.{◌≡◌, ◌++◌, ℕ, List, [], ◌∷◌, map, ap, ◌∙◌}
use Rattle.query_ast.specs.Replies.{ReplyPart, replies_of, single}
use Rattle.query_ast.specs.Replies.View.{reply_part}
use Rattle.query_ast.specs.declared.bucket.AggReply.{AggReply}
use Rattle.query_ast.specs.declared.bucket.AggValue.TheVariants.{Single}
use Rattle.tree_objects.specs.declared.field_value.FieldValue.{FieldValue}
use Rattle.bucket_aggs.specs.Counts.{weight}
use Rattle.bucket_aggs.specs.declared.rows.CountRow.{CountRow}
use Rattle.bucket_aggs.proofs.facets.facet.Goals as goal

pub returns : goal.returns
returns c =
    let row : CountRow = c.args.row.now in
    let named : c.of-name.result ≡ c.args.name.now = c.of-name.ensures ∙ c.in_ok-from_slice.ensures.items ∙ c.as_slice.ensures in
    let none : c.of-none.result ≡ [] = c.of-none.ensures ∙ ap (map reply_part) c.new.ensures.items in
    let reply : AggReply = record { name = c.of-name.result; value = Single c.count_of_key-count.result c.of-none.result } in
    let listed : c.of-inner.result ≡ record { name = c.args.name.now; value = single (weight row.key c.args.ups.now) (replies_of []) } ∷ [] =
    c.of-inner.ensures
    ∙ ap (map reply_part) (c.in_ok-push.ensures.items ∙ ap (λ (l : List AggReply). l ++ reply ∷ []) c.in_ok-replies.ensures.items)
    ∙ ap (λ (s : List ℕ). record { name = s; value = single c.count_of_key-count.result (replies_of c.of-none.result) } ∷ []) named
    ∙ ap (λ (k : ℕ). record { name = c.args.name.now; value = single k (replies_of c.of-none.result) } ∷ []) c.count_of_key-count.ensures
    ∙ ap (λ (l : List ReplyPart). record { name = c.args.name.now; value = single (weight row.key c.args.ups.now) (replies_of l) } ∷ []) none in
    ap (λ (k : FieldValue). record { key = k; count = row.count; inner = replies_of c.of-inner.result }) c.in_ok-key.ensures
    ∙ ap (λ (l : List ReplyPart). record { key = row.key; count = row.count; inner = replies_of l }) listed
