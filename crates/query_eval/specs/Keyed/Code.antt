-- A code for roots by their keys.
use Rattle.std.specs.Prelude.{ℕ, List, refl}
use Rattle.std.specs.Coded.{Coded, code_by, coded×, coded_ℕ, coded_list}
use Rattle.query_eval.specs.declared.keyed.KeyedRoot.{KeyedRoot}

abbrev root_code : Coded KeyedRoot
root_code =
    code_by (ℕ × (ℕ × ℕ)) (coded× coded_ℕ (coded× coded_ℕ coded_ℕ))
    (λ r. (r.key, (r.place, r.doc))) (λ p. record { key = p.0; place = p.1.0; doc = p.1.1 }) (λ _. refl)

abbrev pub keyed_code : Coded (List KeyedRoot)
keyed_code = coded_list root_code
