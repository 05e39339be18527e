use Rattle.std.proofs.Common.{◌≡◌, ◌&&◌, ℕ, Bool, false, List, length, get_or, is_some, ap, ◌∙◌, arith}
use Rattle.std.proofs.lemmas.List.{length-map}
use Rattle.segment.specs.Flat.{flat_of}
use Rattle.tree_objects.specs.declared.field_value.FieldValue.TheVariants.{Written}
use Rattle.bucket_aggs.specs.Counts.{shows}
use Rattle.bucket_aggs.proofs.showing.own_showing.Goals as goal

pub returns : goal.returns
returns c =
    let test : ℕ → Bool = λ doc. shows c.args.kind c.args.field (Written c.args.text.now) (flat_of c.args.segment.now doc) in
    let long : length c.set.result.now ≡ length c.args.hits.now = ap length c.set.ensures ∙ length-map c.args.hits.now is_some in
    c.in_ok-kept_in.ensures test (λ k low. c.in_ok-set.ensures.marked k (omega (arith, low, long)) ∙ ap (λ (l : List Bool). get_or l k false && test k) c.set.ensures)
