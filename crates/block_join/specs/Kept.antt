-- How scores are kept: a set of documents, and either one score for all of them or one each in their order.
use Rattle.std.specs.Prelude.{◌≡◌, ℕ, suc, min, max, ◌+◌, ◌^◌, ◌-◌, ◌<◌, ◌≤◌, Bool, true, false, cond, ◌&&◌, ◌||◌, List, [], ◌∷◌, length, map, take, drop, replicate, get_or, Option, Some, None, is_some, IfSome, ⊤}
use Rattle.std.specs.List.{flat_map}
use Rattle.std.specs.Option.{option_and_then, option_to_list}
use Rattle.block_bits.specs.Flags.{is_marked}
use Rattle.block_bits.specs.Places.{next_place}
use Rattle.block_bits.specs.Walks.{Walking}
use Rattle.score_math.specs.declared.score.TheConstants.{SCORE_CAP}
use Rattle.score_math.specs.Scores.{mode_of}
use Rattle.score_math.specs.declared.score.ScoreMode.{ScoreMode}
use Rattle.block_join.specs.Scores.{filled}
use Rattle.block_join.specs.declared.rule.Rule.{Rule}
use Rattle.block_join.specs.declared.rule.Rule.TheVariants.{Both, Kept, Without, Plus, Either, Greatest, Counted, AtLeast}
use Rattle.block_join.specs.declared.scores.Scores.{Scores}
use Rattle.block_join.specs.declared.scores.Scores.TheVariants.{Same, Each}
use Rattle.block_join.specs.declared.scores.Form.{Form}
use Rattle.block_join.specs.declared.scores.Form.TheVariants.{Shared, Listed, Summed}
use Rattle.block_join.specs.Sums.{IsSum, summed}

-- the score of document `k` of the set, counted from its first
abbrev pub score_of : Scores → ℕ → ℕ
score_of (Same score) k = score
score_of (Each scores) k = get_or scores.items k 0

-- the documents with their scores, where the set's first one has score `at`
abbrev pub shown : (ℕ → ℕ) → ℕ → List Bool → List (Option ℕ)
shown score at [] = []
shown score at (flag ∷ flags) = cond flag (Some (score at)) None ∷ shown score (cond flag (suc at) at) flags

-- how many documents are in the set
abbrev pub marks : List Bool → ℕ
marks [] = 0
marks (flag ∷ flags) = cond flag (suc (marks flags)) (marks flags)

-- as many scores as documents, where each has its own
abbrev pub IsLong : Scores → ℕ → Type 0
IsLong (Same score) count = ⊤
IsLong (Each scores) count = length scores.items ≡ count

pub record AreScores (flags : List Bool) (scores : Scores) : Type 0 where
  pub long : IsLong scores (marks flags)
  pub capped : (k : ℕ) → k < marks flags → score_of scores k ≤ SCORE_CAP

-- the score of document `k` of the set, however it is kept
abbrev pub kept_score : Form → ℕ → ℕ
kept_score (Shared score) = λ k. score
kept_score (Listed scores) = λ k. get_or scores.items k 0
kept_score (Summed parts) = λ k. get_or (flat_map option_to_list (summed parts.value)) k 0

-- as many scores as documents, where each has its own, or a sum for each of them
abbrev pub IsKept : List Bool → Form → Type 0
IsKept flags (Shared score) = ⊤
IsKept flags (Listed scores) = length scores.items ≡ marks flags
IsKept flags (Summed parts) = IsSum flags parts.value

pub record AreKept (flags : List Bool) (form : Form) : Type 0 where
  pub kept : IsKept flags form
  pub capped : (k : ℕ) → k < marks flags → kept_score form k ≤ SCORE_CAP

-- the next score to be read is that of document `k` of the set; nothing is counted where they are not listed
abbrev pub IsPlaced : Form → ℕ → ℕ → Type 0
IsPlaced (Shared score) at k = ⊤
IsPlaced (Listed scores) at k = at ≡ k
IsPlaced (Summed parts) at k = ⊤

-- the next score to be read is that of a document
pub record IsRead (flags : List Bool) (form : Form) (at doc : ℕ) : Type 0 where
  pub are : AreKept flags form
  pub placed : IsPlaced form at (marks (take doc flags))
  pub set : get_or flags doc false ≡ true

-- all documents have this score
abbrev pub IsSame : Form → ℕ → Type 0
IsSame (Shared own) score = own ≡ score
IsSame (Listed scores) score = ⊥
IsSame (Summed parts) score = ⊥

-- a walk over the set, that stands behind the next document from `from` on, and the place of that document's score
pub record IsStanding (set : List Bool) (walk : Walking) (ahead : Option ℕ) (form : Form) (from at : ℕ) : Type 0 where
  pub own : walk.documents ≡ set
  pub scores_are : AreKept walk.documents form
  pub within : from ≤ length walk.documents
  pub next : ahead ≡ next_place is_marked from walk.documents
  pub behind : IfSome ahead (λ doc. walk.from ≡ doc + 1)
  pub placed : IsPlaced form at (marks (take from walk.documents))

-- a set with its scores, so many, in which no document from `end` on is
pub record IsBegun (flags : List Bool) (scores : Scores) (end count : ℕ) : Type 0 where
  pub scores_are : AreScores flags scores
  pub within : end ≤ length flags
  pub counted : count ≡ marks flags
  pub rest : drop end flags ≡ replicate (length flags - end) false
  pub small : length flags < 2 ^ 32

-- the first parent that is or follows the next document with a score
abbrev pub next_parent : List Bool → ℕ → List (Option ℕ) → Option ℕ
next_parent parents from scores = option_and_then (λ doc. next_place is_marked doc parents) (next_place is_some from scores)

-- the first parent that is or follows the next hit
abbrev pub holder : List Bool → List Bool → ℕ → Option ℕ
holder parents hits from = option_and_then (λ doc. next_place is_marked doc parents) (next_place is_marked from hits)

-- where the documents inside a parent begin: behind the parent before it, or at 0
pub record IsStart (parents : List Bool) (parent start : ℕ) : Type 0 where
  pub within : start ≤ parent
  pub behind : (at : ℕ) → start ≡ at + 1 → get_or parents at false ≡ true
  pub free : (at : ℕ) → start ≤ at → at < parent → get_or parents at false ≡ false

-- whether some of the others came behind the last document of the set, where this is one more
abbrev pub came : Bool → Bool → Bool → Bool
came some parent other = cond parent false (other || some)

-- the same behind all documents, where some did or did not before the first
abbrev pub since : Bool → List Bool → List Bool → Bool
since some [] others = some
since some (parent ∷ parents) [] = some
since some (parent ∷ parents) (other ∷ others) = since (came some parent other) parents others

-- the documents of the set that have some of the others behind the one before
abbrev pub reached : Bool → List Bool → List Bool → List Bool
reached some [] others = []
reached some (parent ∷ parents) [] = []
reached some (parent ∷ parents) (other ∷ others) = (parent && some) ∷ reached (came some parent other) parents others

-- all documents that hit have one score, and some of them together another
pub record AreAlike (mode : ScoreMode) (scores : List (Option ℕ)) (score : ℕ) : Type 0 where
  pub own : ℕ
  pub are : scores ≡ filled (Some own) (map is_some scores)
  pub together : (n : ℕ) → mode_of mode (own ∷ replicate n own) ≡ Some score

-- the earlier of two documents, of which either may be missing
abbrev pub earlier : Option ℕ → Option ℕ → Option ℕ
earlier None other = other
earlier (Some a) None = Some a
earlier (Some a) (Some b) = Some (min a b)

-- the later of two documents, if there are both
abbrev pub later : Option ℕ → Option ℕ → Option ℕ
later None other = None
later (Some a) None = None
later (Some a) (Some b) = Some (max a b)

-- the next document that may have a score by a rule, by the next one that has a first score and the next one that has a second
abbrev pub next_by : Rule → Option ℕ → Option ℕ → Option ℕ
next_by Both first second = later first second
next_by Kept first second = later first second
next_by Without first second = first
next_by Plus first second = first
next_by Either first second = earlier first second
next_by Greatest first second = earlier first second
next_by Counted first second = earlier first second
next_by (AtLeast n) first second = first
