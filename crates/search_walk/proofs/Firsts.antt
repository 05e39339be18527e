-- What is said of a refusal by its case.
use Rattle.std.proofs.Common.{◌≡◌, Option, Some}
use Rattle.search_walk.specs.IsFirst.{IsFirst}
use Rattle.search_walk.specs.declared.refusal.SearchRefusal.{SearchRefusal}
use Rattle.search_walk.specs.declared.refusal.SearchRefusal.TheVariants.{UnknownPath, PathOutOfScope, UnknownRelation, BadValue, SortFieldUnmapped, BadSort, DuplicateInnerName, WindowTooLarge, InnerWindowTooLarge, TooManyClauses, QueryTooDeep, TooManyTerms, NoMemory}

pub is_first : (e : SearchRefusal) (first : Option SearchRefusal) → first ≡ Some e → IsFirst e first
is_first UnknownPath first is = is
is_first PathOutOfScope first is = is
is_first UnknownRelation first is = is
is_first BadValue first is = is
is_first SortFieldUnmapped first is = is
is_first BadSort first is = is
is_first DuplicateInnerName first is = is
is_first WindowTooLarge first is = is
is_first InnerWindowTooLarge first is = is
is_first TooManyClauses first is = is
is_first QueryTooDeep first is = is
is_first TooManyTerms first is = is
is_first NoMemory first is = tt

pub ruleset firsts = (is_first)
