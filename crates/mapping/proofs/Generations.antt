-- The scopes of the mapping of a generation stand in front.
use Rattle.std.proofs.Common.{◌≡◌, ℕ, ◌≤◌, List, [], ◌∷◌, ◌++◌, map, filter, length, take, drop, leb, refl, sym, ap, ◌∙◌, true, false}
use Rattle.std.specs.List.Sorted.{IsPartitionPoint, IsPartitionedBy}
use Rattle.tree_json.specs.Value.{JsonValue}
use Rattle.mapping_body.specs.Body.{is_nested}
use Rattle.mapping_growth.specs.Fields.{Draft, drafts_of}
use Rattle.mapping_growth.proofs.Generations.{Parted, drafts_parted, parted_filter, point_is, upto_first}
use Rattle.mapping.specs.declared.scope.Scope.{Scope as Part}
use Rattle.mapping.specs.Mapping.{Scope, nested_among, root_scope, scope_by, scopes_by, scope_paths}
use Rattle.mapping.specs.Stored.{Parts, scope_parts, scope_seen}

sinces : (paths : List (List ℕ)) (ss : List Part) (ds : List Draft) → map scope_seen ss ≡ map scope_parts (map (scope_by paths) ds) → map (λ s. s.since) ss ≡ map (λ d. d.since) ds
sinces paths [] [] e = refl
sinces paths [] (d ∷ ds) e = cc
sinces paths (s ∷ ss) [] e = cc
sinces paths (s ∷ ss) (d ∷ ds) e =
    let here : scope_seen s ≡ scope_parts (scope_by paths d) = cc in
    let more : map scope_seen ss ≡ map scope_parts (map (scope_by paths) ds) = cc in
    let one : s.since ≡ d.since = ap (λ (p : Parts). p.since) here in
    rw one (ap (λ (ns : List ℕ). d.since ∷ ns) (sinces paths ss ds more))

nested_sinces : (ss : List Part) (ds : List Draft) → map scope_seen ss ≡ map scope_parts (scopes_by ds) → map (λ s. s.since) (drop 1 ss) ≡ map (λ d. d.since) (nested_among ds)
nested_sinces [] ds e = cc
nested_sinces (s ∷ ss) ds e =
    let more : map scope_seen ss ≡ map scope_parts (map (scope_by (scope_paths ds)) (nested_among ds)) = cc in
    sinces (scope_paths ds) ss (nested_among ds) more

-- how many nested scopes the first bodies say
pub first_scopes : (g i : ℕ) (bs : List JsonValue) (ss : List Part) → map scope_seen ss ≡ map scope_parts (scopes_by (drafts_of bs))
    → (IsPartitionedBy (λ s. leb s.since g) (drop 1 ss) → IsPartitionPoint (λ s. leb s.since g ≡ true) (λ s. leb s.since g ≡ false) (drop 1 ss) i) → i ≤ length (drop 1 ss)
    → i ≡ length (nested_among (drafts_of (take g bs)))
first_scopes g i bs ss seen search_is within =
    let parted = parted_filter (λ (d : Draft). d.since) (λ (d : Draft). is_nested d.kind) g (drafts_of (take g bs)) (drafts_of bs) (drafts_parted g bs) in
    let e : map (λ s. s.since) (drop 1 ss) ≡ map (λ d. d.since) (nested_among (drafts_of (take g bs)) ++ parted.rest) = nested_sinces ss (drafts_of bs) seen ∙ ap (map (λ (d : Draft). d.since)) parted.is in
    point_is (λ (s : Part). s.since) (λ (d : Draft). d.since) g i (drop 1 ss) (nested_among (drafts_of (take g bs))) parted.rest e parted.upto parted.past
    (search_is (upto_first (λ (s : Part). s.since) (λ (d : Draft). d.since) g (drop 1 ss) (nested_among (drafts_of (take g bs))) parted.rest e parted.upto parted.past)) within
