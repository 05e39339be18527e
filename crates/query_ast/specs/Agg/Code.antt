-- A code for definitions of buckets.
use Rattle.std.specs.Prelude.{ℕ, List, [], None, refl}
use Rattle.std.specs.Coded.{Coded, code_by, coded×, coded_ℕ, coded_list}
use Rattle.query_ast.specs.Definition.{Definition, definition_code}
use Rattle.query_ast.specs.Agg.{Agg}
use Rattle.query_ast.specs.declared.agg.AggForm.{AggForm}
use Rattle.query_ast.specs.declared.agg.AggForm.TheVariants.{ValueCount}
use Rattle.query_ast.specs.contracts.agg.AggForm as agg_form

abbrev parts_code : Coded Agg
parts_code =
    code_by (List ℕ × AggForm) (coded× (coded_list coded_ℕ) agg_form.the_row.coded)
    (λ a. (a.name, a.form)) (λ p. record { name = p.0; form = p.1 }) (λ _. refl)

abbrev nothing : Agg
nothing = record { name = []; form = ValueCount None }

abbrev pub agg_code : Coded (Definition Agg)
agg_code = definition_code nothing parts_code
