-- Definitions of inner hits as mathematics.
pub mod Code
pub mod View
pub mod Falls
use Rattle.std.specs.Prelude.{ℕ, Bool, List}
use Rattle.query_ast.specs.Clause.{Clause}
use Rattle.query_ast.specs.declared.inner.InnerOver.{InnerOver}
use Rattle.query_ast.specs.declared.sort.Sort.{Sort}

-- a definition of inner hits, but for those that it owns
pub record Inner : Type 0 where
  pub name : List ℕ
  pub over : InnerOver
  pub query : Clause
  pub from : ℕ
  pub size : ℕ
  pub sort : List Sort
  pub source : Bool
