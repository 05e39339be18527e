-- Scores that are put together clause by clause.
use Rattle.std.specs.Prelude.{ℕ, Bool, true, false, ◌&&◌, not, if◌then◌else◌, List, [], ◌∷◌, ◌+◌, length, map, sum, nat_le, Option, Some, None, is_none}
use Rattle.std.specs.List.{list_all}
use Rattle.block_join.specs.Merge.{put_together}
use Rattle.block_join.specs.declared.rule.Rule.{Rule}
use Rattle.block_join.specs.declared.rule.Rule.TheVariants.{Both, Kept, Without, Plus, Either, Greatest, Counted, AtLeast}
use Rattle.mapping.specs.Mapping.{Mapping}
use Rattle.query_ast.specs.Clause.{Clause, Clauses, Leaf, leaf, bool, constant_score, dis_max, nested, to_child, has_child, has_parent}
use Rattle.query_ast.specs.Hit.{hit_each, scores}
use Rattle.query_ast.specs.Leaf.{leaf_holds}
use Rattle.score_math.specs.Scores.{capped}
use Rattle.segment.specs.Flat.{FlatDocument, flats_of}
use Rattle.segment_parts.specs.declared.columns.Columns.{Columns}
use Rattle.tree_objects.specs.Object.{Object}
use Rattle.tree_objects.specs.Tree.{Tree}

-- the scope of each document of a segment
abbrev pub scopes_in : Columns → List ℕ
scopes_in columns = map (λ (d : FlatDocument). d.scope) (flats_of columns)

-- what an object is given that doesn't look at other trees
abbrev pub whatever : (Object → Option ℕ) → List Tree → Object → Option ℕ
whatever given live o = given o

-- one score where a leaf holds
abbrev pub leaf_score : Mapping → Leaf → ℕ → Object → Option ℕ
leaf_score m l score o = if leaf_holds m l o then Some score else None

-- no document has a score
abbrev pub have_none : List (Option ℕ) → Bool
have_none scores = list_all is_none scores

-- a document without a first score gets none
abbrev pub narrows : Rule → Bool
narrows Both = true
narrows Kept = true
narrows Without = true
narrows Plus = true
narrows Either = false
narrows Greatest = false
narrows Counted = false
narrows (AtLeast n) = true

-- two scores put together
abbrev pub paired_by : Rule → (List Tree → Object → Option ℕ) → (List Tree → Object → Option ℕ) → List Tree → Object → Option ℕ
paired_by rule one other live o = put_together rule (one live o) (other live o)

-- one score after the other
abbrev pub folded : Rule → Option ℕ → List (Option ℕ) → Option ℕ
folded rule first [] = first
folded rule first (score ∷ scores) = folded rule (put_together rule first score) scores

-- those of some clauses
abbrev pub folded_by : Rule → Mapping → Clauses → (List Tree → Object → Option ℕ) → List Tree → Object → Option ℕ
folded_by rule m cs given live o = folded rule (given live o) (hit_each m live cs o)

abbrev pub is_empty : {A : Type 0} → List A → Bool
is_empty {A} [] = true
is_empty {A} (x ∷ xs) = false

-- how many of `should` have to hit, by the numbers of clauses alone
abbrev pub wanted_of : Option ℕ → List Clause → List Clause → List Clause → ℕ
wanted_of (Some n) must filter should = n
wanted_of None must filter should = if is_empty must && (is_empty filter && not (is_empty should)) then 1 else 0

-- a score to which those of other clauses are added, if there are so many
abbrev pub asked_score : ℕ → Option ℕ → List ℕ → Option ℕ
asked_score least None found = None
asked_score least (Some score) found = if nat_le least (length found) then Some (capped (score + sum found)) else None

abbrev pub asked_by : Mapping → Clauses → ℕ → (List Tree → Object → Option ℕ) → List Tree → Object → Option ℕ
asked_by m cs least given live o = asked_score least (given live o) (scores (hit_each m live cs o))

-- the boost of a leaf
abbrev pub boost_in : Clause → ℕ
boost_in (leaf l boost) = boost
boost_in (bool must filter should must_not least) = 1
boost_in (constant_score c boost) = 1
boost_in (dis_max cs) = 1
boost_in (nested n c mode) = 1
boost_in (to_child n c) = 1
boost_in (has_child r c mode least most) = 1
boost_in (has_parent r c score boost) = 1
