-- What a mapping keeps beside its bodies, as the definitions see it.
use Rattle.std.specs.Prelude.{◌≡◌, ℕ, zero, suc, ◌<◌, ◌^◌, ◌==◌, Bool, false, ◌&&◌, ◌||◌, get_or, if◌then◌else◌, List, [], ◌∷◌, length, map}
use Rattle.mapping_body.specs.Body.{is_nested}
use Rattle.mapping_growth.specs.Fields.{Draft}
use Rattle.mapping_body.specs.Order.{IsOrderFrom}
use Rattle.mapping.specs.declared.scope.Scope.{Scope as Part}
use Rattle.mapping.specs.declared.scope.ScopePath.{ScopePath}
use Rattle.mapping.specs.IsMapping.{IsMapping}
use Rattle.mapping.specs.Mapping.{Scope, Mapping, nearest}

-- a scope but for its path and its names
pub record Parts : Type 0 where
  pub around : ℕ
  pub in_parent : Bool
  pub in_root : Bool
  pub since : ℕ

abbrev pub scope_parts : Scope → Parts
scope_parts s = record { around = s.around; in_parent = s.in_parent; in_root = s.in_root; since = s.since }

abbrev pub scope_seen : Part → Parts
scope_seen s = record { around = s.around; in_parent = s.in_parent; in_root = s.in_root; since = s.since }

-- the path of a nested field, and its scope
abbrev pub nested_path : Draft → List (List ℕ)
nested_path d = if is_nested d.kind then d.path ∷ [] else []

abbrev pub nested_scope : List (List ℕ) → Draft → List Parts
nested_scope paths d =
    if is_nested d.kind
    then record { around = nearest paths d.path; in_parent = d.in_parent; in_root = d.in_root; since = d.since } ∷ []
    else []

-- what is kept beside the bodies is what the mapping of the bodies says, and that is a mapping
pub record IsKept (m : Mapping) (hs : List ℕ) (ps : List ScopePath) (ss : List Part) (by_path : List ℕ) : Type 0 where
  pub homes : hs ≡ map (λ f. f.home) m.fields
  pub paths : map (λ p. p.bytes.items) ps ≡ map (λ s. s.path) m.scopes
  pub scopes : map scope_seen ss ≡ map scope_parts m.scopes
  pub first : by_path ≡ 0 ∷ m.order
  pub in_order : IsOrderFrom 0 (map (λ s. s.path) m.scopes) by_path
  pub few_scopes : length ps < 2 ^ 32
  pub is_mapping : IsMapping m

-- ---- how far values are included, said of the kept parts

abbrev pub root_part : Parts
root_part = record { around = 0; in_parent = false; in_root = false; since = 1 }

abbrev pub part_at : List Parts → ℕ → Parts
part_at ps n = get_or ps n root_part

abbrev pub reaches_among : List Parts → ℕ → ℕ → ℕ → Bool
reaches_among ps zero n s = n == s
reaches_among ps (suc left) n s =
    n == s
    || (((part_at ps n).in_parent && reaches_among ps left (part_at ps n).around s) || ((part_at ps n).in_root && s == 0))
