-- Two ways to say that something holds of each element.
use Rattle.std.proofs.Common.{List, [], ◌∷◌, All}
use Rattle.std.specs.List.{AllByRecursion}
use Rattle.std.proofs.lemmas.List.Elements.{All-nil, All-cons, All-head, All-tail}

pub by_recursion : {A : Type 0} (P : A → Type 0) (xs : List A) → All P xs → AllByRecursion P xs
by_recursion P [] all = tt
by_recursion P (x ∷ xs) all = (All-head P x xs all, by_recursion P xs (All-tail P x xs all))

pub by_index : {A : Type 0} (P : A → Type 0) (xs : List A) → AllByRecursion P xs → All P xs
by_index P [] all = All-nil P
by_index P (x ∷ xs) all = All-cons P x xs all.0 (by_index P xs all.1)
