use Rattle.std.proofs.Common.{◌≡◌, ℕ, List, [], ◌++◌, Err, sym, ap, ◌∙◌}
use Rattle.segment.specs.Flat.{FlatRoot, flat_root}
use Rattle.stored_sources.specs.Roots.{root_of}
use Rattle.tree_json.specs.Reading.{reading}
use Rattle.store_check.proofs.Trees.{unread_bad, unread_fraction}
use Rattle.store_check.proofs.tree.Sources.block_of_root.Goals as goal

-- what is read is the source alone
source_alone : (bytes items before source : List ℕ) → before ≡ [] → items ≡ before ++ source → bytes ≡ items → bytes ≡ source
source_alone bytes items before source empty fetched same = same ∙ (fetched ∙ ap (λ (it : List ℕ). it ++ source) empty)

pub returns-in-Err-BadJson : goal.returns-in-Err-BadJson
returns-in-Err-BadJson g c =
    let root : FlatRoot = flat_root (root_of c.args.sources.now c.args.root) in
    let bytes : c.as_slice.result.now ≡ root.source = source_alone _ _ _ _ c.clear.ensures.items c.in_ok-fetch.ensures.source c.as_slice.ensures.value in
    unread_bad c.args.mapping.now root (ap reading (sym bytes) ∙ c.in-Err-BadJson.ensures.bad (ap Err c.in-Err-BadJson.field-0-is))

pub returns-in-Err-FractionNumber : goal.returns-in-Err-FractionNumber
returns-in-Err-FractionNumber g c =
    let root : FlatRoot = flat_root (root_of c.args.sources.now c.args.root) in
    let bytes : c.as_slice.result.now ≡ root.source = source_alone _ _ _ _ c.clear.ensures.items c.in_ok-fetch.ensures.source c.as_slice.ensures.value in
    unread_fraction c.args.mapping.now root (ap reading (sym bytes) ∙ c.in-Err-FractionNumber.ensures.fraction (ap Err c.in-Err-FractionNumber.field-0-is))
