-- A field, or a scope, whose path is the one that is sought is that of the path.
use Rattle.std.proofs.Common.{◌≡◌, ◌∙◌, ◌==◌, ◌<◌, ℕ, Bool, true, false, List as Seq, [], ◌∷◌, length, map, Some, sym, subst, bytes_eq, arith}
use Rattle.std.proofs.lemmas.Bool.{false≢true}
use Rattle.std.proofs.lemmas.List.{get_or-map, length-map}
use Rattle.std.proofs.lemmas.Slice.Eq.{bytes_eq-Decides}
use Rattle.tree_json.specs.Value.{JsonValue}
use Rattle.mapping_growth.specs.Bodies.{AreBodies}
use Rattle.mapping_body.specs.Order.{AreDistinct, name_at}
use Rattle.mapping_body.proofs.Ordered.{place_is}
use Rattle.mapping.specs.IsMapping.{IsMapping}
use Rattle.mapping.specs.Mapping.{Mapping, Scope, mapping_of, field_at, field_named, root_scope, scope_at}
use Rattle.search_walk.specs.Names.{nested_scope}
use Rattle.mapping.specs.Reached.{AreReached}

pub known : (m : Mapping) (f : ℕ) (path : Seq ℕ) → ((bodies : Seq JsonValue) (on : Bool) → AreBodies bodies → AreReached (mapping_of bodies on))
    → AreBodies m.bodies → m ≡ mapping_of m.bodies m.dynamic → f < length m.fields → bytes_eq (field_at m f).path path ≡ true → field_named m path ≡ Some f
known m f path law are is h same =
    let there : (field_at m f).path ≡ path = (bytes_eq-Decides (field_at m f).path path).0 same in
    let reached : AreReached m = subst (λ (x : Mapping). AreReached x) (sym is) (law m.bodies m.dynamic are) in
    subst (λ (x : Seq ℕ). field_named m x ≡ Some f) there (reached.named f h)

pub known_scope : (m : Mapping) (n : ℕ) (path : Seq ℕ) → IsMapping m → n < length m.scopes → (length path == 0) ≡ false → bytes_eq (scope_at m n).path path ≡ true → nested_scope m path ≡ Some n
known_scope m n [] is h some same = absurd (false≢true (sym some))
known_scope m n (b ∷ bs) is h some same =
    let names : Seq (Seq ℕ) = map (λ (s : Scope). s.path) m.scopes in
    let at : (k : ℕ) → k < length m.scopes → name_at names k ≡ (scope_at m k).path = λ k there. get_or-map (λ (s : Scope). s.path) m.scopes k root_scope [] there in
    let len : length names ≡ length m.scopes = length-map m.scopes (λ (s : Scope). s.path) in
    let distinct : AreDistinct names =
    λ i k hi hk e. is.distinct i k (omega (arith, len)) (omega (arith, len)) (sym (at i (omega (arith, len))) ∙ e ∙ at k (omega (arith, len))) in
    place_is (b ∷ bs) names n distinct (omega (arith, len)) (rw (at n h) same)
