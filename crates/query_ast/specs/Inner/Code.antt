-- A code for definitions of inner hits.
use Rattle.std.specs.Prelude.{ℕ, Bool, false, List, [], refl}
use Rattle.std.specs.Coded.{Coded, code_by, coded×, coded_ℕ, coded_bool, coded_list}
use Rattle.query_ast.specs.Clause.{Clause, dis_max, no_clauses}
use Rattle.query_ast.specs.Clause.Code.{clause_code}
use Rattle.query_ast.specs.Definition.{Definition, definition_code}
use Rattle.query_ast.specs.Inner.{Inner}
use Rattle.query_ast.specs.declared.inner.InnerOver.{InnerOver}
use Rattle.query_ast.specs.declared.inner.InnerOver.TheVariants.{Ignored}
use Rattle.query_ast.specs.contracts.inner.InnerOver as inner_over
use Rattle.query_ast.specs.declared.sort.Sort.{Sort}
use Rattle.query_ast.specs.contracts.sort.Sort as sort_row

abbrev parts_code : Coded Inner
parts_code =
    code_by (List ℕ × (InnerOver × (Clause × (ℕ × (ℕ × (List Sort × Bool))))))
    (coded× (coded_list coded_ℕ) (coded× inner_over.the_row.coded (coded× clause_code (coded× coded_ℕ (coded× coded_ℕ (coded× (coded_list sort_row.the_row.coded) coded_bool))))))
    (λ i. (i.name, (i.over, (i.query, (i.from, (i.size, (i.sort, i.source)))))))
    (λ p. record { name = p.0; over = p.1.0; query = p.1.1.0; from = p.1.1.1.0; size = p.1.1.1.1.0; sort = p.1.1.1.1.1.0; source = p.1.1.1.1.1.1 }) (λ _. refl)

abbrev nothing : Inner
nothing = record { name = []; over = Ignored; query = dis_max no_clauses; from = 0; size = 0; sort = []; source = false }

abbrev pub inner_code : Coded (Definition Inner)
inner_code = definition_code nothing parts_code
