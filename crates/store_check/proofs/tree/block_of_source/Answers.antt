use Rattle.std.proofs.Common.{inl, inr, refl, rules, sym, ◌∙◌}
use Rattle.std.proofs.lemmas.Bool.{false≢true}
use Rattle.flattener.specs.Seen.{block_seen}
use Rattle.segment.specs.Flat.{FlatRoot, flat_root}
use Rattle.stored_sources.specs.Roots.{root_of}
use Rattle.tree_json.specs.View.{view}
use Rattle.store_check.proofs.Trees.{cannot, made, refused}
use Rattle.store_check.proofs.tree.block_of_source.Goals as goal

pub returns-then-not-can_be : goal.returns-then-not-can_be
returns-then-not-can_be c =
    let root : FlatRoot = flat_root (root_of c.args.sources.now c.args.root) in
    cannot c.args.mapping.now root (view c.args.source.now) c.number-number.result c.generation-generation.result
    c.requires.reads c.number-number.ensures c.generation-generation.ensures
    (λ can. absurd (false≢true (sym c.if-not-can_be.true ∙ c.can_be.ensures.1 can)))

pub returns-in-Ok : goal.returns-in-Ok
returns-in-Ok c =
    let root : FlatRoot = flat_root (root_of c.args.sources.now c.args.root) in
    let can = c.can_be.ensures.0 c.if-not-can_be.false in
    made c.args.mapping.now root (view c.args.source.now) c.id.result.now c.number-number.result c.generation-generation.result (block_seen c.in-Ok.block)
    c.requires.reads c.id.ensures c.number-number.ensures c.generation-generation.ensures
    (c.in-Ok.ensures.given refl)
    (search rules)
    c.in-Ok.ensures.block
    c.in-Ok.ensures.reads_back
    (c.what_is_read_has_few_levels.ensures root.source (view c.args.source.now) c.requires.reads)
    (c.in-Ok.ensures.accepted refl)

pub returns-in_ok-is_of_source-in-Err : goal.returns-in_ok-is_of_source-in-Err
returns-in_ok-is_of_source-in-Err c =
    let root : FlatRoot = flat_root (root_of c.args.sources.now c.args.root) in
    elim c.in-Err.ensures.refused [
      | inl lacking ↦ absurd (c.in_ok-is_of_source-in-Err.ensures lacking)
      | inr is ↦
          refused c.args.mapping.now root (view c.args.source.now) c.id.result.now c.number-number.result c.generation-generation.result c.in-Err.why
          c.requires.reads c.id.ensures c.number-number.ensures c.generation-generation.ensures is
    ]
