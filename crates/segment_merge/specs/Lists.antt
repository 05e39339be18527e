-- Lists of vectors.
use Rattle.std.specs.Prelude.{List, map, Vec}

abbrev pub items_of : {X A : Type 0} → List (Vec X A) → List (List X)
items_of {X} {A} lists = map (λ (list : Vec X A). list.items) lists
