use Rattle.std.proofs.Common.{◌≡◌, ℕ, ◌+◌, ◌<◌, Bool, List, Some, None, length, sym, ap, subst, ◌∙◌, arith}
use Rattle.block_bits.specs.Flags.{is_marked}
use Rattle.block_bits.specs.Places.{next_place}
use Rattle.block_bits.specs.Walks.{Walking}
use Rattle.tree_json.specs.View.{view}
use Rattle.flattener.specs.Adds.{IsBegun}
use Rattle.flattener.specs.Seen.{document_seen}
use Rattle.flattener.proofs.Documents.{begun_next}
use Rattle.flattener.proofs.Marking.{begun_before, begun_behind}
use Rattle.flattener.proofs.fields.fill_marked.Goals as goal

pub fields-preserved : goal.fields-preserved
fields-preserved c =
    let flags : List Bool = c.args.named.now in
    let from : ℕ = c.fields.fields.from in
    let field : ℕ = c.in-Some.field in
    let same : c.fields.fields.documents ≡ flags = c.fields.invariant.0 in
    let next : next_place is_marked from flags ≡ Some field = sym (ap (next_place is_marked from) same) ∙ sym c.next.ensures.value ∙ c.in-Some.is in
    let within : field < length c.args.mapping.now.fields = omega (arith, c.in-Some.ensures.within, ap (λ (l : List Bool). length l) same, c.requires.long) in
    let behind : c.next.new.self.from ≡ field + 1 = ap (λ (w : Walking). w.from) c.in-Some.ensures.found in
    let before : IsBegun c.args.mapping.now c.args.generation c.args.scope (view c.args.content.now) field (document_seen c.fields.into) =
    begun_before c.args.mapping.now c.args.generation c.args.scope (view c.args.content.now) flags c.requires.long c.requires.others from (document_seen c.fields.into) field next c.fields.invariant.2 in (
      ap (λ (w : Walking). w.documents) c.in-Some.ensures.found ∙ same,
      omega (arith, within, behind),
      subst (λ (n : ℕ). IsBegun c.args.mapping.now c.args.generation c.args.scope (view c.args.content.now) n (document_seen c.add_if_shown.new.into)) (sym behind)
          (begun_next c.args.mapping.now c.args.generation c.args.scope (view c.args.content.now) field (document_seen c.fields.into) (document_seen c.add_if_shown.new.into) within before c.in_ok-add_if_shown.ensures),
    )

pub returns : goal.returns
returns c =
    let from : ℕ = c.fields.fields.from in
    let none : next_place is_marked from c.args.named.now ≡ None = sym (ap (next_place is_marked from) c.fields.invariant.0) ∙ sym c.next.ensures.value ∙ c.in_default.is in
    begun_behind c.args.mapping.now c.args.generation c.args.scope (view c.args.content.now) c.args.named.now c.requires.long c.requires.others from (document_seen c.fields.into) none c.fields.invariant.1 c.fields.invariant.2
