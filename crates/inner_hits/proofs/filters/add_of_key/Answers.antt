use Rattle.std.proofs.Common.{List, sym, subst}
use Rattle.std.specs.List.{AllByRecursion}
use Rattle.query_ast.specs.Resolved.{IsFilter, IsSortKey}
use Rattle.query_ast.specs.declared.sort.Chain.{Chain}
use Rattle.query_ast.specs.declared.sort.SortKey.{SortKey}
use Rattle.query_ast.specs.declared.sort.SortKey.TheVariants.{Field}
use Rattle.inner_hits.proofs.Found.{chain_filters}
use Rattle.inner_hits.proofs.filters.add_of_key.Goals as goal

pub add_of_chain-requires-clause-chain : goal.add_of_chain-requires-clause-chain
add_of_chain-requires-clause-chain g c =
    let m = c.args.mapping.now in
    let key : IsSortKey m c.requires.key.0 c.requires.key.1 (Field c.in-Field.field c.in-Field.mode c.in-Field.chain) =
    subst (λ (key : SortKey). IsSortKey m c.requires.key.0 c.requires.key.1 key) c.in-Field.is c.requires.key.2 in
    subst (λ (chain : List Chain). AllByRecursion (λ (step : Chain). IsFilter m step.scope step.filter) chain) (sym c.as_slice.ensures)
    (chain_filters m c.requires.key.0 c.in-Field.chain key.4)
