-- Two lists of scores put together document by document (Lucene, the package `org.apache.lucene.search`:
-- `ConjunctionDISI`, `DisjunctionDISIApproximation`, `ReqExclScorer`, `ReqOptSumScorer`).
use Rattle.std.specs.Prelude.{ℕ, ◌+◌, max, nat_le, if◌then◌else◌, List, [], ◌∷◌, Option, Some, None}
use Rattle.score_math.specs.Scores.{capped}
use Rattle.block_join.specs.declared.rule.Rule.{Rule}
use Rattle.block_join.specs.declared.rule.Rule.TheVariants.{Both, Kept, Without, Plus, Either, Greatest, Counted, AtLeast}

-- what a document has by one score and another, where it has none or some of each
abbrev pub put_together : Rule → Option ℕ → Option ℕ → Option ℕ
-- it has both, and their sum
put_together Both None other = None
put_together Both (Some a) None = None
put_together Both (Some a) (Some b) = Some (capped (a + b))
-- it has both, and the first score
put_together Kept None other = None
put_together Kept (Some a) None = None
put_together Kept (Some a) (Some b) = Some a
-- it has the first alone
put_together Without None other = None
put_together Without (Some a) None = Some a
put_together Without (Some a) (Some b) = None
-- it has the first, to which the second is added
put_together Plus None other = None
put_together Plus (Some a) None = Some a
put_together Plus (Some a) (Some b) = Some (capped (a + b))
-- it has one, and the sum of those that it has
put_together Either None None = None
put_together Either None (Some b) = Some (capped b)
put_together Either (Some a) None = Some a
put_together Either (Some a) (Some b) = Some (capped (a + b))
-- it has one, and the greatest of those that it has
put_together Greatest None other = other
put_together Greatest (Some a) None = Some a
put_together Greatest (Some a) (Some b) = Some (max a b)
-- the first is a count, and a second score is one more
put_together Counted None None = None
put_together Counted None (Some b) = Some 1
put_together Counted (Some a) None = Some a
put_together Counted (Some a) (Some b) = Some (capped (a + 1))
-- the second is a count, which is not less than the number
put_together (AtLeast n) None other = None
put_together (AtLeast n) (Some a) None = if nat_le n 0 then Some a else None
put_together (AtLeast n) (Some a) (Some b) = if nat_le n b then Some a else None

-- document by document
abbrev pub paired : (Option ℕ → Option ℕ → Option ℕ) → List (Option ℕ) → List (Option ℕ) → List (Option ℕ)
paired f [] others = []
paired f (a ∷ ones) [] = []
paired f (a ∷ ones) (b ∷ others) = f a b ∷ paired f ones others
