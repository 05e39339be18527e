-- What holds of each element up to an index.
use Rattle.std.proofs.Common.{ℕ, ◌+◌, ◌<◌, ◌≤◌, List, [], ◌∷◌, ◌++◌, length, take, get_or, sym}
use Rattle.std.specs.List.{All}
use Rattle.std.proofs.lemmas.List.{take_all, take_more}
use Rattle.std.proofs.lemmas.List.Elements.{All-append, All-cons, All-nil, All-same}

pub all_more : {X : Type 0} (P : X → Type 0) (xs : List X) (i : ℕ) (d : X) → i < length xs → All P (take i xs) → P (get_or xs i d) → All P (take (i + 1) xs)
all_more P xs i d inside had is =
    All-same P (take (i + 1) xs) (take i xs ++ get_or xs i d ∷ []) (take_more xs i d inside)
    (All-append P (take i xs) (get_or xs i d ∷ []) had (All-cons P (get_or xs i d) [] is (All-nil P)))

pub all_end : {X : Type 0} (P : X → Type 0) (xs : List X) (i : ℕ) → length xs ≤ i → All P (take i xs) → All P xs
all_end P xs i end had = All-same P xs (take i xs) (sym (take_all i xs end)) had
