-- What objects are given by those inside them and around them.
use Rattle.std.specs.Prelude.{ℕ, List, Option}
use Rattle.mapping.specs.Mapping.{Mapping}
use Rattle.tree_joins.specs.Seen.{gathered, handed}
use Rattle.tree_objects.specs.Object.{Object}
use Rattle.tree_objects.specs.Tree.{Tree}

abbrev pub below_by : Mapping → (List ℕ → Option ℕ) → ℕ → (List Tree → Object → Option ℕ) → List Tree → Object → Option ℕ
below_by m mode from given live o = gathered m mode from (given live) o

abbrev pub around_by : ℕ → (List Tree → Object → Option ℕ) → List Tree → Object → Option ℕ
around_by from given live o = handed from (given live) o
