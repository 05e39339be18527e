-- The relation of a tree is one of its generation, and a parent's id has the length of an id.
use Rattle.std.proofs.Common.{◌≡◌, ℕ, ◌<◌, ◌&&◌, nat_le, nat_lt, List, [], ◌∷◌, length, codes, Bool, Option, Some, None, is_none, option_and_then, ◌+◌, bytes_eq, refl, arith}
use Rattle.std.specs.Fmt.{signed_decimal}
use Rattle.std.specs.List.{position_from}
use Rattle.std.proofs.lemmas.List.{length-map}
use Rattle.mapping_growth.specs.Relations.{relation_names}
use Rattle.std.proofs.lemmas.Bool.Decides.{nat_tests}
use Rattle.mapping_body.proofs.Walks.{split}
use Rattle.mapping.specs.Mapping.{Mapping, Field, knows_relation, relation_at, relation_known, relation_named, if_known}
use Rattle.segment.specs.Agree.{IsId, HasParentId}
use Rattle.stored_sources.specs.declared.root.Join.{Join}
use Rattle.tree_json.specs.Value.{JsonValue, null, bool, whole, text, list, object, member_of}
use Rattle.tree_objects.specs.Tree.{Tree}
use Rattle.tree_objects.specs.Values.{JoinReading, no_join, bad_join, checked_id, id_written, has_join_names, join_at, join_by_name, join_by_parent, join_field, join_of, join_reading, joined_as_child, joined_as_root, member_of_source, relation_read}
use Rattle.flattener.specs.Block.{kept_join}
use Rattle.flattener.specs.Fits.{IsJoinOf, IsRelation}

-- a join that may be kept of a tree of a generation
pub record IsJoined (m : Mapping) (g : ℕ) (join : Join) : Type 0 where
  pub relation : IsJoinOf m g join
  pub parent : HasParentId join

abbrev IsRead : Mapping → ℕ → JoinReading → Type 0
IsRead m g reading = IsJoined m g (kept_join (relation_read reading))

nothing_read : (m : Mapping) (g : ℕ) → IsRead m g no_join
nothing_read m g = record { relation = tt; parent = tt }

bad_read : (m : Mapping) (g : ℕ) → IsRead m g bad_join
bad_read m g = record { relation = tt; parent = tt }

-- ---- relations of the generation

known_from : (m : Mapping) (g : ℕ) (o : Option ℕ) (r : ℕ) → ((k : ℕ) → o ≡ Some k → k < length m.relations) → option_and_then (if_known (knows_relation m g)) o ≡ Some r → IsRelation m g r
known_from m g None r bound e = absurd (cc (e))
known_from m g (Some k) r bound e =
    split (knows_relation m g k)
    (λ yes. let same : Some k ≡ Some r = rw yes at e in let is : k ≡ r = cc in record { in_range = rw (← is) (bound k refl); known = rw (← is) yes })
    (λ no. let none : None ≡ Some r = rw no at e in absurd (cc (none)))

place_within : (test : List ℕ → Bool) (at : ℕ) (names : List (List ℕ)) (k : ℕ) → position_from test at names ≡ Some k → k < at + length names
place_within test at [] k e = absurd (cc (e))
place_within test at (name ∷ names) k e =
    split (test name)
    (λ yes. let same : Some at ≡ Some k = rw yes at e in let is : at ≡ k = cc in omega (arith, is))
    (λ no. let later : position_from test (at + 1) names ≡ Some k = rw no at e in omega (arith, place_within test (at + 1) names k later))

known_relation : (m : Mapping) (g : ℕ) (name : List ℕ) (r : ℕ) → relation_known m g name ≡ Some r → IsRelation m g r
known_relation m g name r e =
    known_from m g (relation_named m name) r (λ k found.
    let within = place_within (λ other. bytes_eq other name) 0 (relation_names m.relations) k found in
    omega (arith, within, length-map m.relations (λ s. s.name))) e

-- ---- ids of parents

checked_is : (id p : List ℕ) → checked_id id ≡ Some p → IsId p
checked_is id p e =
    split (nat_lt 0 (length id) && nat_le (length id) 512)
    (λ yes. let same : Some id ≡ Some p = rw yes at e in let is : id ≡ p = cc in rw (← is) (grind (arith, nat_tests)))
    (λ no. let none : None ≡ Some p = rw no at e in absurd (cc (none)))

written_is : (v : JsonValue) (p : List ℕ) → id_written v ≡ Some p → IsId p
written_is null p e = absurd (cc (e))
written_is (bool b) p e = absurd (cc (e))
written_is (whole z) p e = checked_is (signed_decimal z) p e
written_is (text s) p e = checked_is s p e
written_is (list ds) p e = absurd (cc (e))
written_is (object ms) p e = absurd (cc (e))

-- ---- what is read

root_read : (m : Mapping) (g : ℕ) (o : Option ℕ) → ((r : ℕ) → o ≡ Some r → IsRelation m g r) → IsRead m g (joined_as_root m o)
root_read m g None known = bad_read m g
root_read m g (Some r) known =
    split (is_none (relation_at m r).parent)
    (λ yes. rw yes (record { relation = known r refl; parent = tt }))
    (λ no. rw no (bad_read m g))

child_read : (m : Mapping) (g : ℕ) (o : Option ℕ) (id : Option (List ℕ)) → ((r : ℕ) → o ≡ Some r → IsRelation m g r) → ((p : List ℕ) → id ≡ Some p → IsId p) → IsRead m g (joined_as_child m o id)
child_read m g None id known is = bad_read m g
child_read m g (Some r) None known is = bad_read m g
child_read m g (Some r) (Some p) known is =
    split (is_none (relation_at m r).parent)
    (λ yes. rw yes (bad_read m g))
    (λ no. rw no (record { relation = known r refl; parent = is p refl }))

parent_read : (m : Mapping) (g : ℕ) (name : List ℕ) (parent : Option JsonValue) → IsRead m g (join_by_parent m g name parent)
parent_read m g name None = root_read m g (relation_known m g name) (known_relation m g name)
parent_read m g name (Some parent) = child_read m g (relation_known m g name) (id_written parent) (known_relation m g name) (written_is parent)

name_read : (m : Mapping) (g : ℕ) (name parent : Option JsonValue) → IsRead m g (join_by_name m g name parent)
name_read m g None parent = bad_read m g
name_read m g (Some null) parent = bad_read m g
name_read m g (Some (bool b)) parent = bad_read m g
name_read m g (Some (whole z)) parent = bad_read m g
name_read m g (Some (text name)) parent = parent_read m g name parent
name_read m g (Some (list ds)) parent = bad_read m g
name_read m g (Some (object ms)) parent = bad_read m g

value_read : (m : Mapping) (g : ℕ) (v : JsonValue) → IsRead m g (join_reading m g v)
value_read m g null = nothing_read m g
value_read m g (bool b) = bad_read m g
value_read m g (whole z) = bad_read m g
value_read m g (text name) = root_read m g (relation_known m g name) (known_relation m g name)
value_read m g (list ds) = bad_read m g
value_read m g (object ms) =
    split (has_join_names ms)
    (λ yes. rw yes (name_read m g (member_of ms (codes "name")) (member_of ms (codes "parent"))))
    (λ no. rw no (bad_read m g))

found_read : (m : Mapping) (g : ℕ) (v : Option JsonValue) → IsJoined m g (kept_join (option_and_then (λ v. relation_read (join_reading m g v)) v))
found_read m g None = nothing_read m g
found_read m g (Some v) = value_read m g v

field_read : (m : Mapping) (g : ℕ) (source : JsonValue) (field : Option Field) → IsJoined m g (kept_join (join_at m g source field))
field_read m g source None = nothing_read m g
field_read m g source (Some f) = found_read m g (member_of_source source f.path)

pub join_fits : (m : Mapping) (tree : Tree) → IsJoined m tree.generation (kept_join (join_of m tree))
unfolding join_of
join_fits m tree = field_read m tree.generation tree.source (join_field m tree.generation)
