use Rattle.std.proofs.Common.{◌≡◌, ◌-◌, ◌<◌, length, map, Contains, sym, ap, subst, ◌∙◌, arith}
use Rattle.std.specs.List.{All, range_with_len}
use Rattle.std.proofs.lemmas.List.FromFn.{length-map-range_with_len}
use Rattle.block_bits.specs.Blocks.{documents_of}
use Rattle.segment_builder.specs.Marks.{marked_to}
use Rattle.segment_builder.proofs.scopes.scope_sets.Goals as goal

pub mark-requires-clause-within : goal.mark-requires-clause-within
mark-requires-clause-within c =
    let count : c.scope_count-count.result ≡ length c.in_ok-sets.sets.items = sym (ap length c.in_ok-sets.ensures ∙ length-map-range_with_len (marked_to c.args.scopes.now 0) 0 c.scope_count-count.result) in
    subst (λ n. All (λ scope. scope < n) c.args.scopes.now) count c.scope_count-count.ensures.within

pub mark-requires-clause-empty : goal.mark-requires-clause-empty
mark-requires-clause-empty c =
    c.in_ok-sets.ensures
    ∙ ap (λ n. map (marked_to c.args.scopes.now 0) (range_with_len 0 n)) (sym (ap length c.in_ok-sets.ensures ∙ length-map-range_with_len (marked_to c.args.scopes.now 0) 0 c.scope_count-count.result))

pub returns-clause-sets : goal.returns-clause-sets
returns-clause-sets c =
    let own : length c.in_ok-sets.sets.items ≡ c.scope_count-count.result = ap length c.in_ok-sets.ensures ∙ length-map-range_with_len (marked_to c.args.scopes.now 0) 0 c.scope_count-count.result in
    let all : c.of.result ≡ map (documents_of c.args.scopes.now) (range_with_len 0 c.scope_count-count.result) = c.of.ensures ∙ c.mark.ensures ∙ ap (λ n. map (documents_of c.args.scopes.now) (range_with_len 0 n)) own in
    all ∙ ap (λ n. map (documents_of c.args.scopes.now) (range_with_len 0 n)) (sym (ap length all ∙ length-map-range_with_len (documents_of c.args.scopes.now) 0 c.scope_count-count.result))

pub returns-clause-within : goal.returns-clause-within
returns-clause-within c =
    let own : length c.in_ok-sets.sets.items ≡ c.scope_count-count.result = ap length c.in_ok-sets.ensures ∙ length-map-range_with_len (marked_to c.args.scopes.now 0) 0 c.scope_count-count.result in
    let all : c.of.result ≡ map (documents_of c.args.scopes.now) (range_with_len 0 c.scope_count-count.result) = c.of.ensures ∙ c.mark.ensures ∙ ap (λ n. map (documents_of c.args.scopes.now) (range_with_len 0 n)) own in
    let count : c.scope_count-count.result ≡ length c.of.result = sym (ap length all ∙ length-map-range_with_len (documents_of c.args.scopes.now) 0 c.scope_count-count.result) in
    subst (λ n. All (λ scope. scope < n) c.args.scopes.now) count c.scope_count-count.ensures.within

pub returns-clause-greatest : goal.returns-clause-greatest
returns-clause-greatest c =
    let own : length c.in_ok-sets.sets.items ≡ c.scope_count-count.result = ap length c.in_ok-sets.ensures ∙ length-map-range_with_len (marked_to c.args.scopes.now 0) 0 c.scope_count-count.result in
    let all : c.of.result ≡ map (documents_of c.args.scopes.now) (range_with_len 0 c.scope_count-count.result) = c.of.ensures ∙ c.mark.ensures ∙ ap (λ n. map (documents_of c.args.scopes.now) (range_with_len 0 n)) own in
    let count : c.scope_count-count.result ≡ length c.of.result = sym (ap length all ∙ length-map-range_with_len (documents_of c.args.scopes.now) 0 c.scope_count-count.result) in
    λ some. subst (λ n. Contains c.args.scopes.now (n - 1)) count (c.scope_count-count.ensures.greatest some)

pub returns-clause-fewer : goal.returns-clause-fewer
returns-clause-fewer c =
    let own : length c.in_ok-sets.sets.items ≡ c.scope_count-count.result = ap length c.in_ok-sets.ensures ∙ length-map-range_with_len (marked_to c.args.scopes.now 0) 0 c.scope_count-count.result in
    let all : c.of.result ≡ map (documents_of c.args.scopes.now) (range_with_len 0 c.scope_count-count.result) = c.of.ensures ∙ c.mark.ensures ∙ ap (λ n. map (documents_of c.args.scopes.now) (range_with_len 0 n)) own in
    let count : c.scope_count-count.result ≡ length c.of.result = sym (ap length all ∙ length-map-range_with_len (documents_of c.args.scopes.now) 0 c.scope_count-count.result) in
    omega (arith, count, c.scope_count-count.ensures.fewer)
