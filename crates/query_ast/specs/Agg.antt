-- Definitions of buckets as mathematics.
pub mod Code
pub mod View
pub mod Falls
use Rattle.std.specs.Prelude.{ℕ, List}
use Rattle.query_ast.specs.declared.agg.AggForm.{AggForm}

-- a definition of buckets, but for those inside it
pub record Agg : Type 0 where
  pub name : List ℕ
  pub form : AggForm
