-- What is put, and mappings that have grown.
use Rattle.std.proofs.Common.{ℕ, ◌≡◌, ◌++◌, ◌∷◌, [], List, Bool, true, false, cond, codes, Option, Some, None, refl, ap, subst, sym, append-nil}
use Rattle.std.specs.List.{list_all}
use Rattle.flattener.specs.Block.{block_of, root_of_tree}
use Rattle.flattener.specs.Seen.{block_seen}
use Rattle.flattener.specs.declared.document.Block.{Block}
use Rattle.mapping.specs.Growth.{HasFurtherBodies}
use Rattle.mapping.specs.IsMapping.{IsMapping}
use Rattle.mapping.specs.Mapping.{Mapping, mapping_of}
use Rattle.mapping_body.specs.Body.{is_body, member_named}
use Rattle.mapping_growth.specs.Bodies.{AreBodies, adds}
use Rattle.tree_json.specs.Reading.{reading, value}
use Rattle.tree_json.specs.Text.{compact}
use Rattle.tree_json.specs.Value.{JsonValue}
use Rattle.tree_objects.specs.Tree.{Tree}
use Rattle.machine.specs.MappingLine.{flag_after, grown_mapping}
use Rattle.machine.specs.Write.{added_body, grown_by, new_tree}
use Rattle.write_plan.specs.Planned.{IsGrownFrom, mapping_after}
use Rattle.write_plan.specs.Update.{IsTextOf}

kept_source : (m : Mapping) (tree : Tree) (b : Block) → block_seen b ≡ block_of m tree → b.root.source ≡ compact tree.source
unfolding root_of_tree
kept_source m tree b e = ap (λ it. it.root.source) e

pub block_text : (m : Mapping) (id : List ℕ) (source : JsonValue) (number : ℕ) (b : Block) → block_seen b ≡ block_of m (new_tree id source m number) → reading b.root.source ≡ value source → IsTextOf b.root.source source
block_text m id source number b e again = record {
  text = kept_source m (new_tree id source m number) b e;
  reads = again;
}

pub ruleset blocks = (block_text)

-- ---- mappings that have grown

-- further bodies stand behind those of a mapping
abbrev pub StandBehind : Type 0
StandBehind = (bodies more : List JsonValue) (on later : Bool) → AreBodies bodies → list_all is_body more ≡ true → HasFurtherBodies (mapping_of bodies on) (mapping_of (bodies ++ more) later)

same_behind : StandBehind → (m : Mapping) (later : Bool) → AreBodies m.bodies → m ≡ mapping_of m.bodies m.dynamic → HasFurtherBodies m (mapping_of m.bodies later)
same_behind law m later are is =
    subst (λ (m1 : Mapping). HasFurtherBodies m1 (mapping_of m.bodies later)) (sym is)
    (subst (λ (bodies : List JsonValue). HasFurtherBodies (mapping_of m.bodies m.dynamic) (mapping_of bodies later)) (append-nil m.bodies) (law m.bodies [] m.dynamic later are refl))

more_behind : StandBehind → (m : Mapping) (body : JsonValue) (later : Bool) → AreBodies m.bodies → m ≡ mapping_of m.bodies m.dynamic → is_body body ≡ true
    → HasFurtherBodies m (mapping_of (m.bodies ++ body ∷ []) later)
more_behind law m body later are is form =
    subst (λ (m1 : Mapping). HasFurtherBodies m1 (mapping_of (m.bodies ++ body ∷ []) later)) (sym is) (law m.bodies (body ∷ []) m.dynamic later are (rw form refl))

-- a source that adds nothing, and one that adds a body
pub none_grown : StandBehind → (m : Mapping) (source : JsonValue) → IsMapping m → AreBodies m.bodies → m ≡ mapping_of m.bodies m.dynamic → added_body m source ≡ None → IsGrownFrom m (mapping_after m source)
none_grown law m source mapping are is e =
    subst (λ (added : Option JsonValue). IsGrownFrom m (grown_by m added)) (sym e)
    (record { mapping = mapping; further = subst (λ (m2 : Mapping). HasFurtherBodies m m2) (sym is) (same_behind law m m.dynamic are is) })

pub body_grown : StandBehind → (m : Mapping) (source body : JsonValue) → AreBodies m.bodies → m ≡ mapping_of m.bodies m.dynamic → added_body m source ≡ Some body → is_body body ≡ true
    → IsMapping (mapping_of (m.bodies ++ body ∷ []) m.dynamic) → IsGrownFrom m (mapping_after m source)
body_grown law m source body are is e form mapping =
    subst (λ (added : Option JsonValue). IsGrownFrom m (grown_by m added)) (sym e) (record { mapping = mapping; further = more_behind law m body m.dynamic are is form })

-- a further mapping line
pub line_grown : StandBehind → (m : Mapping) (body : JsonValue) → AreBodies m.bodies → m ≡ mapping_of m.bodies m.dynamic → is_body body ≡ true → HasFurtherBodies m (grown_mapping m body)
line_grown law m body are is form =
    let flag = flag_after m.dynamic (member_named body (codes "dynamic")) in
    elim (adds m.bodies body) as (λ (b : Bool). HasFurtherBodies m (mapping_of (cond b (m.bodies ++ body ∷ []) m.bodies) flag)) [
      | true ↦ more_behind law m body flag are is form
      | false ↦ same_behind law m flag are is
    ]

pub ruleset growths = (none_grown, body_grown, line_grown)
