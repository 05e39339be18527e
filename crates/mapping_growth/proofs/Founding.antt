-- The parents of the relations of bodies: relations of theirs, and none its own ancestor.
use Rattle.std.proofs.Common.{◌≡◌, ℕ, zero, suc, ◌+◌, ◌-◌, ◌*◌, ◌<◌, ◌≤◌, List as Seq, [], ◌∷◌, ◌++◌, map, length, get_or, refl, sym, ap, ◌∙◌, subst, arith, Bool, true, false, ◌||◌, Option, Some, None, is_some, IfSome, option_and_then, slice_get}
use Rattle.std.proofs.lemmas.Bool.{false≢true}
use Rattle.std.proofs.lemmas.List.{length-append, length-map}
use Rattle.std.specs.List.{AllByRecursion, list_any}
use Rattle.tree_json.specs.Value.{JsonValue}
use Rattle.mapping_body.specs.Names.{place_of}
use Rattle.mapping_body.specs.Pairs.{Pair, pairs_of, parent_among}
use Rattle.mapping_growth.specs.Relations.{IsAncestor, parent, further, Relation, climbed, names_added, parent_of, relation_by, relation_names, relations_added, relations_from, relations_of, turns_back}
use Rattle.mapping_growth.proofs.Climbs.{climbed-add, climbed-None}
use Rattle.mapping_growth.proofs.Conflicts.{placed_at}
use Rattle.mapping_growth.proofs.Distinct.{names_with}
use Rattle.mapping_body.proofs.Booleans.{neither}

-- ---- parents are relations

abbrev HaveParents : ℕ → Seq Relation → Type 0
HaveParents n rs = AllByRecursion (λ (r : Relation). IfSome r.parent (λ p. p < n)) rs

if_some : {A : Type 0} (o : Option A) (P : A → Type 0) → ((x : A) → o ≡ Some x → P x) → IfSome o P
if_some None P all = tt
if_some (Some x) P all = all x refl

place_below : (o : Option (Seq ℕ)) (names : Seq (Seq ℕ)) → IfSome (option_and_then (λ name. place_of name names) o) (λ p. p < length names)
place_below None names = tt
place_below (Some name) names = if_some (place_of name names) (λ p. p < length names) (λ p e. (placed_at name names p e).0)

added_parents : (g : ℕ) (ps : Seq Pair) (names ns : Seq (Seq ℕ)) → HaveParents (length names) (map (relation_by g ps names) ns)
added_parents g ps names [] = tt
added_parents g ps names (n ∷ ns) = (place_below (parent_among ps n) names, added_parents g ps names ns)

if_more : (o : Option ℕ) (n m : ℕ) → n ≤ m → IfSome o (λ p. p < n) → IfSome o (λ p. p < m)
if_more None n m h all = tt
if_more (Some p) n m h less = omega arith

parents_wider : (n m : ℕ) (rs : Seq Relation) → n ≤ m → HaveParents n rs → HaveParents m rs
parents_wider n m [] h all = tt
parents_wider n m (r ∷ rs) h all = (if_more r.parent n m h all.0, parents_wider n m rs h all.1)

both_parents : (n : ℕ) (rs more : Seq Relation) → HaveParents n rs → HaveParents n more → HaveParents n (rs ++ more)
both_parents n [] more one two = two
both_parents n (r ∷ rs) more one two = (one.0, both_parents n rs more one.1 two)

parents_from : (g : ℕ) (known : Seq Relation) (bs : Seq JsonValue) → HaveParents (length known) known → HaveParents (length (relations_from g known bs)) (relations_from g known bs)
parents_from g known [] all = all
parents_from g known (b ∷ bs) all =
    let added : Seq Relation = relations_added g known (pairs_of b) in
    let names : Seq (Seq ℕ) = relation_names known ++ names_added (relation_names known) (pairs_of b) in
    let many : length (known ++ relations_added g known (pairs_of b)) ≡ length (relation_names known ++ names_added (relation_names known) (pairs_of b)) =
    sym (length-map (known ++ relations_added g known (pairs_of b)) (λ r. r.name)) ∙ ap length (names_with g known (pairs_of b)) in
    let long = length-append known (relations_added g known (pairs_of b)) in
    parents_from (g + 1) (known ++ relations_added g known (pairs_of b)) bs
    (both_parents (length (known ++ relations_added g known (pairs_of b))) known (relations_added g known (pairs_of b))
    (parents_wider (length known) (length (known ++ relations_added g known (pairs_of b))) known (omega (arith, long)) all)
    (subst (λ (n : ℕ). HaveParents n (relations_added g known (pairs_of b))) (sym many)
    (added_parents g (pairs_of b) (relation_names known ++ names_added (relation_names known) (pairs_of b)) (names_added (relation_names known) (pairs_of b)))))

parents_all : (bs : Seq JsonValue) → HaveParents (length (relations_of bs)) (relations_of bs)
unfolding relations_of
parents_all bs = parents_from 1 [] bs tt

parent_at : (n : ℕ) (rs : Seq Relation) (r p : ℕ) (none : Relation) → none.parent ≡ None → HaveParents n rs → (get_or rs r none).parent ≡ Some p → p < n
parent_at n [] r p none empty all e = let never : None ≡ Some p = sym empty ∙ e in cc
parent_at n (x ∷ rs) zero p none empty all e = subst (λ (o : Option ℕ). IfSome o (λ q. q < n)) e all.0
parent_at n (x ∷ rs) (suc r) p none empty all e = parent_at n rs r p none empty all.1 e

pub parent_within : (bs : Seq JsonValue) (r p : ℕ) (none : Relation) → none.parent ≡ None → (get_or (relations_of bs) r none).parent ≡ Some p → p < length (relations_of bs)
parent_within bs r p none empty e = parent_at (length (relations_of bs)) (relations_of bs) r p none empty (parents_all bs) e
