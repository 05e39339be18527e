-- Joins of trees by the ordinals of ids: which roots take part, by which id, and what they are given.
use Rattle.std.specs.Prelude.{◌≡◌, ℕ, zero, suc, ◌+◌, ◌==◌, ◌<◌, Bool, true, false, if◌then◌else◌, List, [], ◌∷◌, ◌++◌, length, map, filter_map, get_or, Option, Some, None, is_some, ◌&&◌, IfSome}
use Rattle.std.specs.List.{list_any, range_with_len}
use Rattle.join_ordinals.specs.Ordinals.{Ordinals, ordinal_at, relation_in}
use Rattle.mapping.specs.Mapping.{Mapping, relation_at}
use Rattle.query_ast.specs.Hit.{children_score, parent_score}
use Rattle.query_ast.specs.Joined.{is_child_by, is_number, roots, child_trees, parent_trees}
use Rattle.score_math.specs.declared.score.ScoreMode.{ScoreMode}
use Rattle.segment.specs.Live.{EntryState}
use Rattle.segment_parts.specs.declared.columns.Columns.{Columns}
use Rattle.stored_sources.specs.Roots.{root_of}
use Rattle.stored_sources.specs.declared.root.Join.{Join}
use Rattle.tree_objects.specs.Object.{Object, root as root_of_tree, tree_of}
use Rattle.tree_objects.specs.Tree.{Tree}
use Rattle.block_bits.specs.Blocks.{documents_of}
use Rattle.query_eval.specs.Folds.{scopes_in}
use Rattle.query_eval.specs.Tallies.{IsTally}
use Rattle.query_eval.specs.declared.side.Side.{Side}
use Rattle.query_eval.specs.declared.side.Side.TheVariants.{Parents, Children, ChildrenOf}
use Rattle.query_eval.specs.declared.answer.Answer.{Answer}
use Rattle.query_eval.specs.declared.answer.Answer.TheVariants as answer
use Rattle.query_eval.specs.declared.tally.Tally.{Tally}
use Rattle.query_eval.specs.declared.tally.Tallies.{Tallies}
use Rattle.query_eval.specs.declared.key_scores.KeyScores.{KeyScores}
use Rattle.query_eval.specs.declared.key_scores.KeyScores.TheVariants.{Alike, Tallied}

-- ---- keys

-- whether roots of a relation take part
abbrev pub is_on : Mapping → Side → Option ℕ → Bool
is_on m side None = false
is_on m (Parents relation) (Some own) = own == relation
is_on m (Children relation) (Some own) = own == relation
is_on m (ChildrenOf parent) (Some own) = is_number (relation_at m own).parent parent

-- by its own ordinal or by its parent's
abbrev pub ordinal_by : Side → Option ℕ → Option ℕ → Option ℕ
ordinal_by (Parents relation) own parent = own
ordinal_by (Children relation) own parent = parent
ordinal_by (ChildrenOf relation) own parent = parent

abbrev pub key_of : Mapping → Side → Join → Option ℕ → Option ℕ → Option ℕ
key_of m side join own parent = if is_on m side (relation_in join) then ordinal_by side own parent else None

-- the key of a root of the entry at a place
abbrev pub key_at : Mapping → Ordinals → Side → Columns → ℕ → ℕ → Option ℕ
key_at m ordinals side columns place root =
    key_of m side (root_of columns.roots root).join (ordinal_at ordinals.own place root) (ordinal_at ordinals.parents place root)

-- the ordinals by which roots of the entry at a place would take part are below a count
abbrev pub HaveTallies : Ordinals → Side → ℕ → ℕ → Type 0
HaveTallies ordinals side place count =
    (root : ℕ) → IfSome (ordinal_by side (ordinal_at ordinals.own place root) (ordinal_at ordinals.parents place root)) (λ ordinal. ordinal < count)

-- the relations that are kept of those roots are those that their join values name
abbrev pub HaveRelations : Ordinals → Side → Columns → ℕ → Type 0
HaveRelations ordinals side columns place =
    (root : ℕ) → IfSome (ordinal_by side (ordinal_at ordinals.own place root) (ordinal_at ordinals.parents place root)) (λ ordinal. ordinal_at ordinals.relations place root ≡ relation_in (root_of columns.roots root).join)

-- the keys of all its roots
abbrev pub keys_at : Mapping → Ordinals → Side → Columns → ℕ → List (Option ℕ)
keys_at m ordinals side columns place = map (key_at m ordinals side columns place) (range_with_len 0 (length columns.roots))

-- ---- roots among the documents

-- what the roots have, where each document has something
abbrev pub of_roots : List Bool → List (Option ℕ) → List (Option ℕ)
of_roots [] scores = []
of_roots (flag ∷ flags) [] = []
of_roots (true ∷ flags) (score ∷ scores) = score ∷ of_roots flags scores
of_roots (false ∷ flags) (score ∷ scores) = of_roots flags scores

-- what the documents have, where the roots have something
abbrev pub at_roots : List Bool → List (Option ℕ) → List (Option ℕ)
at_roots [] given = []
at_roots (false ∷ flags) given = None ∷ at_roots flags given
at_roots (true ∷ flags) [] = None ∷ at_roots flags []
at_roots (true ∷ flags) (score ∷ given) = score ∷ at_roots flags given

-- ---- scores by key

abbrev pub pair_if : Option ℕ → Option ℕ → List (ℕ × ℕ)
pair_if None score = []
pair_if (Some key) None = []
pair_if (Some key) (Some score) = (key, score) ∷ []

-- the scores of those that take part, each with its key
abbrev pub told : List (Option ℕ) → List (Option ℕ) → List (ℕ × ℕ)
told [] scores = []
told (key ∷ keys) [] = []
told (key ∷ keys) (score ∷ scores) = pair_if key score ++ told keys scores

abbrev pub scores_of : ℕ → List (ℕ × ℕ) → List ℕ
scores_of key [] = []
scores_of key (pair ∷ pairs) = if pair.0 == key then pair.1 ∷ scores_of key pairs else scores_of key pairs

-- the flags of the roots of an entry
abbrev pub roots_in : EntryState → List Bool
roots_in entry = documents_of (scopes_in entry.columns) 0

-- those of all entries, from a place on
abbrev pub told_by : Mapping → Ordinals → Side → ℕ → List EntryState → List (List (Option ℕ)) → List (ℕ × ℕ)
told_by m ordinals side place [] scores = []
told_by m ordinals side place (entry ∷ entries) [] = []
told_by m ordinals side place (entry ∷ entries) (hits ∷ scores) =
    told (keys_at m ordinals side entry.columns place) (of_roots (roots_in entry) hits) ++ told_by m ordinals side (place + 1) entries scores

-- ---- tallies

abbrev pub TallyOf : List ℕ → Tally → Type 0
TallyOf scores t = IsTally scores t.count t.total t.least t.greatest t.first

-- one more than the index of a tally of the scores, or 0 where there are none
abbrev pub IsTold : List ℕ → List Tally → ℕ → Type 0
IsTold scores told zero = scores ≡ []
IsTold scores told (suc slot) = (d : Tally) → TallyOf scores (get_or told slot d)

-- each key with scores has a tally of its own
pub record AreTold (pairs : List (ℕ × ℕ)) (slots : List ℕ) (told : List Tally) : Type 0 where
  pub each : (key : ℕ) → key < length slots → IsTold (scores_of key pairs) told (get_or slots key 0)
  pub apart : (one other : ℕ) → 0 < get_or slots one 0 → get_or slots one 0 ≡ get_or slots other 0 → one ≡ other

abbrev pub AreTallies : List (ℕ × ℕ) → Tallies → Type 0
AreTallies pairs tallies = AreTold pairs tallies.slots.items tallies.told.items

-- ---- answers

-- what a root is given by the scores of those that it is joined to
abbrev pub answer_of : Answer → List ℕ → Option ℕ
answer_of (answer.Children mode least most) found = children_score mode least most found
answer_of (answer.Parent score boost) found = parent_score score boost found

-- each key is given the boost where it is marked, as it is by its scores
abbrev pub AreMarked : ℕ → List (ℕ × ℕ) → List Bool → Type 0
AreMarked boost pairs marks = (key : ℕ) → key < length marks → (if get_or marks key false then Some boost else None) ≡ answer_of (answer.Parent false boost) (scores_of key pairs)

abbrev pub key_count : KeyScores → ℕ
key_count (Alike boost marks) = length marks
key_count (Tallied asked tallies) = length tallies.slots.items

-- the scores of these pairs are those of the keys, for this answer
abbrev pub AreKeyScores : Answer → List (ℕ × ℕ) → KeyScores → Type 0
AreKeyScores asked pairs (Alike boost marks) = (asked ≡ answer.Parent false boost) × AreMarked boost pairs marks
AreKeyScores asked pairs (Tallied own tallies) = (asked ≡ own) × AreTallies pairs tallies

abbrev pub answer_for : Answer → List (ℕ × ℕ) → Option ℕ → Option ℕ
answer_for asked pairs None = None
answer_for asked pairs (Some key) = answer_of asked (scores_of key pairs)

abbrev pub children_by : Mapping → ℕ → ScoreMode → ℕ → Option ℕ → (List Tree → Object → Option ℕ) → List Tree → Object → Option ℕ
children_by m relation mode least most given live o = children_score mode least most (filter_map (given live) (roots (child_trees m live relation o)))

abbrev pub parent_by : Mapping → ℕ → Bool → ℕ → (List Tree → Object → Option ℕ) → List Tree → Object → Option ℕ
parent_by m relation score boost given live o = parent_score score boost (filter_map (given live) (roots (parent_trees m live relation o)))

-- a root is a child by this relation of a live tree whose root is given something
abbrev pub has_given_parent : Mapping → ℕ → List Tree → (Object → Option ℕ) → Object → Bool
has_given_parent m r live given o = list_any (λ parent. is_child_by m r parent (tree_of o) && is_some (given (root_of_tree parent))) live

abbrev pub by_relation : Mapping → ℕ → (List Tree → Object → Option ℕ) → List Tree → Object → Option ℕ
by_relation m r given live o = if has_given_parent m r live (given live) o then Some 1 else None

-- what the roots of all entries are given, from a place on, by the scores that were told
abbrev pub given_by : Mapping → Ordinals → Side → Answer → List (ℕ × ℕ) → ℕ → List EntryState → List (List (Option ℕ))
given_by m ordinals side asked pairs place [] = []
given_by m ordinals side asked pairs place (entry ∷ entries) =
    at_roots (roots_in entry) (map (answer_for asked pairs) (keys_at m ordinals side entry.columns place)) ∷ given_by m ordinals side asked pairs (place + 1) entries
