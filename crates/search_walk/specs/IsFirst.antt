-- A refusal that is the first of a body; want of memory is none.
use Rattle.std.specs.Prelude.{◌≡◌, Option, Some}
use Rattle.search_walk.specs.declared.refusal.SearchRefusal.{SearchRefusal}
use Rattle.search_walk.specs.declared.refusal.SearchRefusal.TheVariants.{NoMemory}

abbrev pub IsFirst : SearchRefusal → Option SearchRefusal → Type 0
IsFirst NoMemory first = Unit {0}
IsFirst refusal first = first ≡ Some refusal
