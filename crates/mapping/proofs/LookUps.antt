-- What is kept of a mapping, looked up.
use Rattle.std.proofs.Common.{◌≡◌, ℕ, zero, suc, ◌-◌, ◌<◌, ◌≤◌, ◌==◌, ◌&&◌, ◌||◌, List as Seq, [], ◌∷◌, map, length, get_or, refl, sym, ap, ◌∙◌, arith, Bool}
use Rattle.std.proofs.lemmas.List.{length-map, get_or-map}
use Rattle.mapping.specs.declared.scope.ScopePath.{ScopePath}
use Rattle.mapping.specs.declared.scope.Scope.{Scope as Part}
use Rattle.tree_json.specs.Value.{JsonValue}
use Rattle.mapping_growth.specs.declared.draft.Draft.{Draft as Made}
use Rattle.mapping_growth.specs.declared.relation.Relation.{Relation as Tied}
use Rattle.mapping_growth.specs.Fields.{Draft, draft_paths, drafts_of}
use Rattle.mapping_growth.specs.Kept.{made_of, relation_of}
use Rattle.mapping_body.specs.Names.{place_of}
use Rattle.mapping_growth.specs.Relations.{relations_of}
use Rattle.mapping.specs.Mapping.{Mapping, Scope, field_at, field_by, field_named, mapping_of, no_field, no_relation, reaches, relation_at, root_scope, scope_at, scope_paths}
use Rattle.mapping.specs.Stored.{Parts, root_part, scope_seen, scope_parts, part_at, reaches_among}

pub length_kept : {A B : Type 0} (f : A → B) (xs : Seq A) (ys : Seq B) → map f xs ≡ ys → length ys ≡ length xs
length_kept f xs ys e = ap length (sym e) ∙ length-map xs f

pub at_kept : {A B : Type 0} (f : A → B) (xs : Seq A) (ys : Seq B) (i : ℕ) (x : A) (e : B) → map f xs ≡ ys → i < length xs → x ≡ get_or xs i x → get_or ys i e ≡ f x
at_kept f xs ys i x e kept h is = ap (λ zs. get_or zs i e) (sym kept) ∙ get_or-map f xs i x e h ∙ ap f (sym is)

-- ---- scopes

pub scope_kept : (ss : Seq Part) (scopes : Seq Scope) (i : ℕ) (x : Part) → map scope_seen ss ≡ map scope_parts scopes → i < length scopes → x ≡ get_or ss i x
    → scope_parts (get_or scopes i root_scope) ≡ scope_seen x
scope_kept ss scopes i x kept h is =
    let long : length scopes ≡ length ss = sym (length-map scopes scope_parts) ∙ ap length (sym kept) ∙ length-map ss scope_seen in
    sym (get_or-map scope_parts scopes i root_scope (scope_seen x) h) ∙ at_kept scope_seen ss (map scope_parts scopes) i x (scope_seen x) kept (omega (arith, long)) is

pub path_kept : (ps : Seq ScopePath) (scopes : Seq Scope) (i : ℕ) (x : ScopePath) → map (λ p. p.bytes.items) ps ≡ map (λ s. s.path) scopes → i < length scopes → x ≡ get_or ps i x
    → (get_or scopes i root_scope).path ≡ x.bytes.items
path_kept ps scopes i x kept h is =
    let long : length scopes ≡ length ps = sym (length-map scopes (λ s. s.path)) ∙ ap length (sym kept) ∙ length-map ps (λ p. p.bytes.items) in
    sym (get_or-map (λ s. s.path) scopes i root_scope [] h) ∙ at_kept (λ p. p.bytes.items) ps (map (λ s. s.path) scopes) i x [] kept (omega (arith, long)) is

-- ---- inclusion

part_seen : (scopes : Seq Scope) (n : ℕ) → part_at (map scope_parts scopes) n ≡ scope_parts (get_or scopes n root_scope)
part_seen [] zero = refl
part_seen [] (suc n) = refl
part_seen (s ∷ scopes) zero = refl
part_seen (s ∷ scopes) (suc n) = part_seen scopes n

pub reaches_seen : (m : Mapping) (left n s : ℕ) → reaches_among (map scope_parts m.scopes) left n s ≡ reaches m left n s
reaches_seen m zero n s = refl
reaches_seen m (suc left) n s = rw (part_seen m.scopes n, reaches_seen m left (scope_at m n).around s) refl

pub reaches_step : (ps : Seq Parts) (left n s : ℕ) → 0 < left
    → reaches_among ps left n s ≡ (n == s || (((part_at ps n).in_parent && reaches_among ps (left - 1) (part_at ps n).around s) || ((part_at ps n).in_root && s == 0)))
reaches_step ps zero n s h = absurd (omega arith)
reaches_step ps (suc left) n s h = let less : suc left - 1 ≡ left = omega arith in rw less refl

pub part_found : (ss : Seq Part) (i : ℕ) (d : Part) → i < length ss → part_at (map scope_seen ss) i ≡ scope_seen (get_or ss i d)
part_found [] i d h = absurd (omega arith)
part_found (s ∷ ss) zero d h = refl
part_found (s ∷ ss) (suc i) d h = let more : i < length ss = omega arith in part_found ss i d more

pub part_missing : (ss : Seq Part) (i : ℕ) → length ss ≤ i → part_at (map scope_seen ss) i ≡ root_part
part_missing [] zero h = refl
part_missing [] (suc i) h = refl
part_missing (s ∷ ss) zero h = absurd (omega arith)
part_missing (s ∷ ss) (suc i) h = let more : length ss ≤ i = omega arith in part_missing ss i more

pub ruleset parts = (part_found, part_missing)

-- ---- fields and relations, as bodies keep them

pub field_count : (bodies : Seq JsonValue) (dynamic : Bool) (ds : Seq Made) → map made_of ds ≡ drafts_of bodies → length (mapping_of bodies dynamic).fields ≡ length ds
field_count bodies dynamic ds e = length-map (drafts_of bodies) (field_by (scope_paths (drafts_of bodies))) ∙ ap length (sym e) ∙ length-map ds made_of

pub field_seen : (bodies : Seq JsonValue) (dynamic : Bool) (ds : Seq Made) (i : ℕ) (x : Made) → map made_of ds ≡ drafts_of bodies → i < length ds → x ≡ get_or ds i x
    → field_at (mapping_of bodies dynamic) i ≡ field_by (scope_paths (drafts_of bodies)) (made_of x)
field_seen bodies dynamic ds i x e h is =
    let many : i < length (drafts_of bodies) = omega (arith, ap length e, length-map ds made_of) in
    let draft : get_or (drafts_of bodies) i (made_of x) ≡ made_of x = at_kept made_of ds (drafts_of bodies) i x (made_of x) e h is in
    get_or-map (field_by (scope_paths (drafts_of bodies))) (drafts_of bodies) i (made_of x) no_field many ∙ ap (field_by (scope_paths (drafts_of bodies))) draft

pub relations_are : (bodies : Seq JsonValue) (dynamic : Bool) → (mapping_of bodies dynamic).relations ≡ relations_of bodies
relations_are bodies dynamic = refl

pub relation_seen : (bodies : Seq JsonValue) (dynamic : Bool) (rs : Seq Tied) (i : ℕ) (x : Tied) → map relation_of rs ≡ relations_of bodies → i < length rs → x ≡ get_or rs i x
    → relation_at (mapping_of bodies dynamic) i ≡ relation_of x
relation_seen bodies dynamic rs i x e h is = at_kept relation_of rs (relations_of bodies) i x no_relation e h is

pub relation_many : (bodies : Seq JsonValue) (dynamic : Bool) (rs : Seq Tied) → map relation_of rs ≡ relations_of bodies → length (mapping_of bodies dynamic).relations ≡ length rs
relation_many bodies dynamic rs e = ap length (sym e) ∙ length-map rs relation_of

by_path : (paths : Seq (Seq ℕ)) (ds : Seq Draft) → map (λ f. f.path) (map (field_by paths) ds) ≡ draft_paths ds
by_path paths [] = refl
by_path paths (d ∷ ds) = ap (λ (rest : Seq (Seq ℕ)). d.path ∷ rest) (by_path paths ds)

pub field_place : (bodies : Seq JsonValue) (dynamic : Bool) (path : Seq ℕ) → place_of path (draft_paths (drafts_of bodies)) ≡ field_named (mapping_of bodies dynamic) path
field_place bodies dynamic path = ap (place_of path) (sym (by_path (scope_paths (drafts_of bodies)) (drafts_of bodies)))

pub field_many : (bodies : Seq JsonValue) (dynamic : Bool) → length (mapping_of bodies dynamic).fields ≡ length (drafts_of bodies)
field_many bodies dynamic = length-map (drafts_of bodies) (field_by (scope_paths (drafts_of bodies)))

pub bodies_are : (bodies : Seq JsonValue) (dynamic : Bool) → (mapping_of bodies dynamic).bodies ≡ bodies
bodies_are bodies dynamic = refl
