-- Queries as mathematics (Elasticsearch reference, query DSL): a clause is a leaf, which looks at one object alone, or it
-- puts clauses together, or it leads to other objects. A list of clauses is a type of its own, since a data type can't
-- hold lists of itself.
pub mod Code
pub mod View
pub mod Falls
use Rattle.std.specs.Prelude.{ℕ, ◌+◌, Bool, List, [], ◌∷◌, Option}
use Rattle.score_math.specs.declared.score.ScoreMode.{ScoreMode}
use Rattle.tree_objects.specs.declared.field_value.FieldValue.{FieldValue}
use Rattle.query_ast.specs.declared.query.RangeEnd.{RangeEnd}

-- what a leaf asks of the values that a field shows
pub data Test : Type 0 where
  -- `term` and `terms`: one of these
  is_among : List FieldValue → Test
  -- `range`: between the low and the high end
  is_between : RangeEnd → RangeEnd → Test
  exists : Test
  -- `prefix`
  begins_with : List ℕ → Test
  -- `match`: some word of a text, or each (true)
  has_words : FieldValue → Bool → Test
  -- `match_phrase`
  has_phrase : FieldValue → Test

-- what is asked of one object; a field or a relation that isn't known is none
pub data Leaf : Type 0 where
  match_all : Leaf
  match_none : Leaf
  ids : List (List ℕ) → Leaf
  on_field : Option ℕ → Test → Leaf
  parent_id : Option ℕ → List ℕ → Leaf

mutual
  pub data Clause : Type 0 where
    -- with its boost
    leaf : Leaf → ℕ → Clause
    -- must, filter, should, must_not, and how many of should are asked for
    bool : Clauses → Clauses → Clauses → Clauses → Option ℕ → Clause
    -- with its boost
    constant_score : Clause → ℕ → Clause
    dis_max : Clauses → Clause
    -- the scope that it leads down to
    nested : Option ℕ → Clause → ScoreMode → Clause
    -- the scope that it leads up to
    to_child : Option ℕ → Clause → Clause
    -- the child relation, and the least and the greatest number of children
    has_child : Option ℕ → Clause → ScoreMode → ℕ → Option ℕ → Clause
    -- the parent relation, whether the parent's score counts, and the boost that counts else
    has_parent : Option ℕ → Clause → Bool → ℕ → Clause

  pub data Clauses : Type 0 where
    no_clauses : Clauses
    clause : Clause → Clauses → Clauses

abbrev pub clauses_of : List Clause → Clauses
clauses_of [] = no_clauses
clauses_of (c ∷ cs) = clause c (clauses_of cs)

-- how many clauses there are: what the limit of a search counts, and a measure for recursions
abbrev mutual
  pub clause_size : Clause → ℕ
  clause_size (leaf l boost) = 1
  clause_size (bool must filter should must_not least) =
      1 + (clauses_size must + (clauses_size filter + (clauses_size should + clauses_size must_not)))
  clause_size (constant_score c boost) = 1 + clause_size c
  clause_size (dis_max cs) = 1 + clauses_size cs
  clause_size (nested scope c mode) = 1 + clause_size c
  clause_size (to_child scope c) = 1 + clause_size c
  clause_size (has_child child c mode least most) = 1 + clause_size c
  clause_size (has_parent parent c score boost) = 1 + clause_size c

  pub clauses_size : Clauses → ℕ
  clauses_size no_clauses = 0
  clauses_size (clause c cs) = clause_size c + clauses_size cs
