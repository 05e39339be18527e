-- A code for what was evaluated.
use Rattle.std.specs.Prelude.{ℕ, List, [], Option, refl}
use Rattle.std.specs.Coded.{Coded, code_by, coded×, coded_ℕ, coded_list, coded_option}
use Rattle.query_ast.specs.Definition.{Definition, definition_code}
use Rattle.inner_hits.specs.Answers.{Answer}
use Rattle.inner_hits.specs.declared.joined.Kin.{Kin}
use Rattle.inner_hits.specs.contracts.joined.Kin as kin_row

abbrev scores_code : Coded (List (List (Option ℕ)))
scores_code = coded_list (coded_list (coded_option coded_ℕ))

abbrev parts_code : Coded Answer
parts_code =
    code_by (List (List (Option ℕ)) × (List (List (List (Option ℕ))) × List Kin))
    (coded× scores_code (coded× (coded_list scores_code) (coded_list kin_row.the_row.coded)))
    (λ a. (a.scores, (a.filters, a.kin)))
    (λ p. record { scores = p.0; filters = p.1.0; kin = p.1.1 }) (λ _. refl)

abbrev nothing : Answer
nothing = record { scores = []; filters = []; kin = [] }

abbrev pub answered_code : Coded (Definition Answer)
answered_code = definition_code nothing parts_code
