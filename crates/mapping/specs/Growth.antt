-- How a mapping becomes another by a further body.
use Rattle.std.specs.Prelude.{ℕ, ◌≡◌, ◌<◌, ◌≤◌, true, false, nat_lt, List, [], ◌∷◌, ◌++◌, length, filter, None}
use Rattle.std.specs.List.{AllByRecursion}
use Rattle.tree_json.specs.Value.{JsonValue}
use Rattle.mapping_growth.specs.Bodies.{adds, conflict_of, exceeded}
use Rattle.mapping_body.specs.Body.{is_body}
use Rattle.mapping.specs.declared.mapping.Growth.{Growth}
use Rattle.mapping.specs.declared.mapping.Growth.TheVariants.{Same, Added}
use Rattle.mapping_growth.specs.Relations.{Relation}
use Rattle.mapping.specs.Mapping.{Field, Scope, Mapping, mapping_of, field_at, scope_at, relation_at}

-- The body has its form and no conflict. Where it adds nothing the mapping stays as it is; else the bodies with it
-- exceed no limit, and are the mapping.
abbrev pub IsGrown : Mapping → JsonValue → Growth → Type 0
IsGrown m body Same = (is_body body ≡ true) × (conflict_of m.bodies body ≡ None) × (adds m.bodies body ≡ false)
IsGrown m body (Added m2) =
    (is_body body ≡ true) × (conflict_of m.bodies body ≡ None) × (adds m.bodies body ≡ true) × (exceeded (m.bodies ++ body ∷ []) ≡ None)
    × (m2 ≡ mapping_of (m.bodies ++ body ∷ []) m.dynamic)

-- under each number of a field, a scope or a relation the second mapping has what the first has
pub record KeepsNumbers (m m2 : Mapping) : Type 0 where
  pub fields : (f : ℕ) → f < length m.fields → field_at m2 f ≡ field_at m f
  pub scopes : (n : ℕ) → n < length m.scopes → scope_at m2 n ≡ scope_at m n
  pub relations : (r : ℕ) → r < length m.relations → relation_at m2 r ≡ relation_at m r

-- ---- further bodies

-- the second list is the first with others behind it, each of which was added by a later body than the first so many
pub record GoesOn {A : Type 0} (since : A → ℕ) (generation : ℕ) (xs ys : List A) : Type 0 where
  pub more : List A
  pub is : ys ≡ xs ++ more
  pub later : AllByRecursion (λ (x : A). generation < since x) more

-- The second mapping has the fields, the scopes and the relations of the first under their numbers, and behind them those
-- of later bodies. Among the nested paths of the first the byte order is the same.
pub record HasFurtherBodies (m m2 : Mapping) : Type 0 where
  pub bodies : length m.bodies ≤ length m2.bodies
  pub fields : GoesOn (λ (f : Field). f.since) (length m.bodies) m.fields m2.fields
  pub scopes : GoesOn (λ (s : Scope). s.since) (length m.bodies) m.scopes m2.scopes
  pub relations : GoesOn (λ (r : Relation). r.since) (length m.bodies) m.relations m2.relations
  pub order : filter (λ n. nat_lt n (length m.scopes)) m2.order ≡ m.order
