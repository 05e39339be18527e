use Rattle.std.proofs.Common.{◌≡◌, ℕ, ◌<◌, ◌≤◌, Bool, List, length, Option, Err, sym, ap, subst, ◌∙◌, arith}
use Rattle.std.proofs.lemmas.List.FromFn.{length-map-range_with_len}
use Rattle.block_bits.specs.Blocks.{AreBits, IsBlocks}
use Rattle.block_bits.specs.declared.scope_bits.BitsRefusal.{BitsRefusal}
use Rattle.block_bits.specs.Scopes.{IsScopeTree}
use Rattle.block_bits.specs.Seen.{scopes_seen}
use Rattle.mapping.specs.Mapping.{around_of}
use Rattle.segment_fits.specs.Tested.{first_parents}
use Rattle.segment_fits.proofs.Refused.{bits_are, no_blocks}
use Rattle.segment_fits.proofs.Whole.{first_tree}
use Rattle.segment_fits.proofs.standing.standings.Goals as goal

pub over-requires : goal.over-requires
over-requires c =
    let n = length c.as_slice-count.result.now in
    let sets = c.as_slice-count.ensures ∙ c.scopes-sets.ensures in
    let some : 0 < n = omega (arith, ap length sets, c.docs-documents.ensures.agree.parts.head.some) in
    let few : n ≤ length c.args.mapping.now.scopes = omega (arith, c.if-count-scope_count.false, c.scope_count.ensures.count) in
    subst IsScopeTree (sym c.in_ok-parents.ensures) (first_tree c.args.mapping.now c.scope_count.ensures.is_mapping n some few)

pub returns-clause-none : goal.returns-clause-none
returns-clause-none c = λ _ nested.
    let m = c.args.mapping.now in
    let bits = c.args.segment.now.scopes in
    let sets : c.as_slice-count.result.now ≡ bits = c.as_slice-count.ensures ∙ c.scopes-sets.ensures in
    let parents = c.in_ok-parents.parents in
    let are : parents ≡ first_parents m (length bits) = c.in_ok-parents.ensures ∙ ap (λ (xs : List (List Bool)). first_parents m (length xs)) sets in
    let long : length parents ≡ length bits = ap length are ∙ length-map-range_with_len (around_of m) 0 (length bits) in
    no_blocks parents bits c.in-Err.field-0
    (λ why found. c.in-Err.ensures.not_one_scope.0 (ap (λ (e : BitsRefusal). Err e) why) (subst (λ (xs : List (List Bool)). (scopes : List ℕ) × AreBits (length parents) xs scopes) (sym c.scopes-sets.ensures) found))
    (λ why. subst (λ (xs : List (List Bool)). (scopes : List ℕ) × AreBits (length parents) xs scopes × (¬ IsBlocks parents scopes)) c.scopes-sets.ensures (c.in-Err.ensures.not_blocks.0 (ap (λ (e : BitsRefusal). Err e) why)))
    (subst (λ (n : ℕ). AreBits n bits (scopes_seen bits)) (sym long) (bits_are c.args.segment.now.documents bits c.docs-documents.ensures.agree.rooted.scopes))
    (subst (λ (ps : List (Option ℕ)). IsBlocks ps (scopes_seen bits)) (sym are) nested.blocks)
