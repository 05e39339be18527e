-- Which objects a clause hits, and with what score (Elasticsearch reference, query DSL; Lucene, the package
-- `search.join`). A clause is judged at one object: `nested` looks at the objects inside it, `to_child` at the one
-- around it, and a join at the live trees of the search.
use Rattle.std.specs.Prelude.{ℕ, Bool, true, ◌&&◌, ◌++◌, List, [], ◌∷◌, length, filter, filter_map, sum, nat_le, Option, Some, None, is_some, is_none, if◌then◌else◌}
use Rattle.std.specs.List.{list_all}
use Rattle.score_math.specs.Scores.{capped, greatest_of, mode_of}
use Rattle.score_math.specs.declared.score.ScoreMode.{ScoreMode}
use Rattle.mapping.specs.Mapping.{Mapping}
use Rattle.tree_objects.specs.Object.{Object, around, below}
use Rattle.tree_objects.specs.Tree.{Tree}
use Rattle.query_ast.specs.Clause.{Clause, leaf, bool, constant_score, dis_max, nested, to_child, has_child, has_parent, Clauses, no_clauses, clause}
use Rattle.query_ast.specs.Joined.{roots, child_trees, parent_trees}
use Rattle.query_ast.specs.Leaf.{leaf_holds}

-- the scores among these answers
abbrev pub scores : List (Option ℕ) → List ℕ
scores answers = filter_map (λ answer. answer) answers

-- how many of `should` have to hit: the number that is given, else one where they are all that is asked for
abbrev pub wanted : Option ℕ → List (Option ℕ) → List (Option ℕ) → List (Option ℕ) → ℕ
wanted (Some n) must filter should = n
wanted None [] [] [] = 0
wanted None [] [] (answer ∷ answers) = 1
wanted None [] (answer ∷ answers) should = 0
wanted None (answer ∷ answers) filter should = 0

abbrev pub bool_hits : List (Option ℕ) → List (Option ℕ) → List (Option ℕ) → List (Option ℕ) → Option ℕ → Bool
bool_hits must filter should must_not least =
    list_all is_some must
    && (list_all is_some filter && (list_all is_none must_not && nat_le (wanted least must filter should) (length (scores should))))

-- the score of a `bool` by the answers of its clauses; without any clause it is a `match_all`
abbrev pub bool_score : List (Option ℕ) → List (Option ℕ) → List (Option ℕ) → List (Option ℕ) → Option ℕ → Option ℕ
bool_score [] [] [] [] least = Some 1
bool_score must filter should must_not least =
    if bool_hits must filter should must_not least then Some (capped (sum (scores must ++ scores should))) else None

abbrev pub boosted : ℕ → Option ℕ → Option ℕ
boosted boost None = None
boosted boost (Some score) = Some boost

abbrev pub is_at_most : Option ℕ → ℕ → Bool
is_at_most None n = true
is_at_most (Some most) n = nat_le n most

-- the score by those of the children that hit: their number lies between the bounds
abbrev pub children_score : ScoreMode → ℕ → Option ℕ → List ℕ → Option ℕ
children_score mode least most found =
    if nat_le least (length found) && is_at_most most (length found) then mode_of mode found else None

-- the score by that of the parent, if it hits
abbrev pub parent_score : Bool → ℕ → List ℕ → Option ℕ
parent_score score boost [] = None
parent_score score boost (s ∷ ss) = Some (if score then s else boost)

abbrev mutual
  pub hit : Mapping → List Tree → Clause → Object → Option ℕ
  hit m live (leaf l boost) o = if leaf_holds m l o then Some boost else None
  hit m live (bool must filter should must_not least) o =
      bool_score (hit_each m live must o) (hit_each m live filter o) (hit_each m live should o) (hit_each m live must_not o) least
  hit m live (constant_score c boost) o = boosted boost (hit m live c o)
  hit m live (dis_max cs) o = greatest_of (scores (hit_each m live cs o))
  hit m live (nested None c mode) o = None
  hit m live (nested (Some p) c mode) o = mode_of mode (filter_map (hit m live c) (below m o p))
  hit m live (to_child None c) o = None
  hit m live (to_child (Some p) c) o = hit m live c (around o p)
  hit m live (has_child None c mode least most) o = None
  hit m live (has_child (Some r) c mode least most) o =
      children_score mode least most (filter_map (hit m live c) (roots (child_trees m live r o)))
  hit m live (has_parent None c score boost) o = None
  hit m live (has_parent (Some r) c score boost) o =
      parent_score score boost (filter_map (hit m live c) (roots (parent_trees m live r o)))

  pub hit_each : Mapping → List Tree → Clauses → Object → List (Option ℕ)
  hit_each m live no_clauses o = []
  hit_each m live (clause c cs) o = hit m live c o ∷ hit_each m live cs o

abbrev pub is_hit : Mapping → List Tree → Clause → Object → Bool
is_hit m live c o = is_some (hit m live c o)

-- the objects that a clause hits
abbrev pub those_hit : Mapping → List Tree → Clause → List Object → List Object
those_hit m live c objects = filter (is_hit m live c) objects
