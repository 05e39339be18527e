-- A code for mappings, by which a proof tells two of them apart.
use Rattle.std.specs.Prelude.{ℕ, Bool, List, Option, refl}
use Rattle.std.specs.Coded.{Coded, code_by, coded×, coded_ℕ, coded_bool, coded_list, coded_option}
use Rattle.tree_json.specs.Value.{JsonValue}
use Rattle.tree_json.specs.Code.{value_code}
use Rattle.mapping_body.specs.declared.kind.Kind.{Kind}
use Rattle.mapping_body.specs.Code.{bytes_code, kind_code}
use Rattle.mapping_growth.specs.Relations.{Relation}
use Rattle.mapping.specs.Mapping.{Field, Scope, Mapping}

abbrev pub field_code : Coded Field
field_code =
    code_by (List ℕ × (Kind × (ℕ × ℕ))) (coded× bytes_code (coded× kind_code (coded× coded_ℕ coded_ℕ)))
    (λ f. (f.path, (f.kind, (f.home, f.since))))
    (λ p. record { path = p.0; kind = p.1.0; home = p.1.1.0; since = p.1.1.1 }) (λ _. refl)

abbrev pub scope_code : Coded Scope
scope_code =
    code_by (List ℕ × (ℕ × (List (List ℕ) × (Bool × (Bool × ℕ)))))
    (coded× bytes_code (coded× coded_ℕ (coded× (coded_list bytes_code) (coded× coded_bool (coded× coded_bool coded_ℕ)))))
    (λ s. (s.path, (s.around, (s.names, (s.in_parent, (s.in_root, s.since))))))
    (λ p. record { path = p.0; around = p.1.0; names = p.1.1.0; in_parent = p.1.1.1.0; in_root = p.1.1.1.1.0; since = p.1.1.1.1.1 }) (λ _. refl)

abbrev pub relation_code : Coded Relation
relation_code =
    code_by (List ℕ × (Option ℕ × ℕ)) (coded× bytes_code (coded× (coded_option coded_ℕ) coded_ℕ))
    (λ r. (r.name, (r.parent, r.since)))
    (λ p. record { name = p.0; parent = p.1.0; since = p.1.1 }) (λ _. refl)

abbrev pub mapping_code : Coded Mapping
mapping_code =
    code_by (List JsonValue × (Bool × (List ℕ × (List Field × (List Scope × (List ℕ × List Relation))))))
    (coded× (coded_list value_code) (coded× coded_bool (coded× bytes_code (coded× (coded_list field_code) (coded× (coded_list scope_code) (coded× bytes_code (coded_list relation_code)))))))
    (λ m. (m.bodies, (m.dynamic, (m.index, (m.fields, (m.scopes, (m.order, m.relations)))))))
    (λ p. record { bodies = p.0; dynamic = p.1.0; index = p.1.1.0; fields = p.1.1.1.0; scopes = p.1.1.1.1.0; order = p.1.1.1.1.1.0; relations = p.1.1.1.1.1.1 }) (λ _. refl)
