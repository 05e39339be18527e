-- A field that stands where it is looked for first.
use Rattle.std.proofs.Common.{◌≡◌, ◌∙◌, ◌<◌, ℕ, List as Seq, [], ◌∷◌, ◌++◌, Bool, true, false, length, take, drop, Some, refl, sym, ap, subst, bytes_eq, arith}
use Rattle.std.proofs.lemmas.List.{take-append-drop}
use Rattle.std.proofs.lemmas.Slice.Eq.{bytes_eq-Decides}
use Rattle.tree_json.specs.Value.{JsonValue}
use Rattle.mapping_growth.specs.Bodies.{AreBodies}
use Rattle.mapping_body.specs.Names.{dot, has_dot, joined}
use Rattle.mapping.specs.Mapping.{Mapping, field_at, field_below, field_named, knows, mapping_of}
use Rattle.mapping.specs.Reached.{AreReached}

pub same_bytes : (one other : Seq ℕ) → bytes_eq one other ≡ true → one ≡ other
same_bytes one other h = (bytes_eq-Decides one other).0 h

pub below_root : (whole path name : Seq ℕ) → length path ≡ 0 → whole ≡ name → whole ≡ joined path name
below_root whole [] name h e = e
below_root whole (byte ∷ path) name h e = absurd (omega (arith, h))

pub below_path : (whole path name : Seq ℕ) → 0 < length path → bytes_eq (take (length path) whole) path ≡ true → drop (length path) whole ≡ dot ∷ name → whole ≡ joined path name
below_path whole [] name h front back = absurd (omega (arith, h))
below_path whole (byte ∷ path) name h front back =
    sym (take-append-drop (length (byte ∷ path)) whole)
    ∙ ap (λ rest. take (length (byte ∷ path)) whole ++ rest) back
    ∙ ap (λ start. start ++ (dot ∷ name)) (same_bytes (take (length (byte ∷ path)) whole) (byte ∷ path) front)

pub ruleset same = (same_bytes, below_root, below_path)

pub field_here : (m : Mapping) (g : ℕ) (path name : Seq ℕ) (near : ℕ)
    → ((bodies : Seq JsonValue) (on : Bool) → AreBodies bodies → AreReached (mapping_of bodies on)) → AreBodies m.bodies → m ≡ mapping_of m.bodies m.dynamic
    → near < length m.fields → knows m g near ≡ true → has_dot name ≡ false → (field_at m near).path ≡ joined path name
    → field_below m g path name ≡ Some near
field_here m g path name near law bodies is below known plain at =
    let reached : AreReached m = subst AreReached (sym is) (law m.bodies m.dynamic bodies) in
    let named : field_named m (joined path name) ≡ Some near = ap (field_named m) (sym at) ∙ reached.named near below in
    rw (plain, named, known) refl

pub ruleset near = (field_here)
