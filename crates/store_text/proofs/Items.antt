-- Loops that read a list item by item into a vector: what is left reads on to what the whole list gives.
use Rattle.std.proofs.Common.{◌≡◌, ℕ, ◌-◌, ◌+◌, ◌≤◌, ◌<◌, List, [], ◌∷◌, ◌++◌, length, Option, Some, None, refl, ap, ◌∙◌, arith}
use Rattle.std.proofs.lemmas.List.{length_push}
use Rattle.part_text.specs.Reading.{Reader, many_at, counted_at}
use Rattle.part_text.specs.Walks.{IsWalked, with_front, nothing_before, goes_on, walked_none, walked_end}

-- `at` of `count` items were read, those in front, the last of them with the key `before`
pub record AreItems {K X : Type 0} (key : X → K) (item : Option K → Reader X) (total : Option (List X × List ℕ)) (count : ℕ) (before : Option K) (at : ℕ) (rest : List ℕ) (front : List X) : Type 0 where
  pub so_far : with_front front (many_at key item before (count - at) rest) ≡ total
  pub long : length front ≡ at

pub items_start : {K X : Type 0} (key : X → K) (item : Option K → Reader X) (count : ℕ) (bytes : List ℕ) → AreItems key item (many_at key item None count bytes) count None 0 bytes []
items_start key item count bytes = record {
  so_far = let all : count - 0 ≡ count = omega arith in rw all (nothing_before (many_at key item None count bytes));
  long = refl;
}

pub items_more : {K X : Type 0} (key : X → K) (item : Option K → Reader X) (total : Option (List X × List ℕ)) (count : ℕ) (before : Option K) (at : ℕ) (rest : List ℕ) (front : List X) (first : X) (after : List ℕ) → AreItems key item total count before at rest front → at < count → item before rest ≡ Some (first, after) → AreItems key item total count (Some (key first)) (at + 1) after (front ++ first ∷ [])
items_more key item total count before at rest front first after are below is = record {
  so_far = goes_on key item total count before at rest front first after below is are.so_far;
  long = length_push front first ∙ ap (λ n. n + 1) are.long;
}

walk_of : {K X : Type 0} (key : X → K) (item : Option K → Reader X) (total : Option (List X × List ℕ)) (count : ℕ) (before : Option K) (at : ℕ) (rest : List ℕ) (front : List X) → AreItems key item total count before at rest front → IsWalked key item total count before at rest
walk_of key item total count before at rest front are = record { front = front; so_far = are.so_far; long = are.long }

-- a list behind its number, one of whose items isn't there
pub items_none : {K X : Type 0} (number : Reader ℕ) (key : X → K) (item : Option K → Reader X) (bytes first : List ℕ) (count : ℕ) (before : Option K) (at : ℕ) (rest : List ℕ) (front : List X) → number bytes ≡ Some (count, first) → AreItems key item (many_at key item None count first) count before at rest front → at < count → item before rest ≡ None → counted_at number key item bytes ≡ None
unfolding counted_at
items_none number key item bytes first count before at rest front is are below none =
    rw is (walked_none key item (many_at key item None count first) count before at rest (walk_of key item (many_at key item None count first) count before at rest front are) below none)

-- and one whose items were all read
pub items_end : {K X : Type 0} (number : Reader ℕ) (key : X → K) (item : Option K → Reader X) (bytes first : List ℕ) (count : ℕ) (before : Option K) (at : ℕ) (rest : List ℕ) (front : List X) → number bytes ≡ Some (count, first) → AreItems key item (many_at key item None count first) count before at rest front → count ≤ at → counted_at number key item bytes ≡ Some (front, rest)
unfolding counted_at walk_of
items_end number key item bytes first count before at rest front is are past =
    rw is (walked_end key item (many_at key item None count first) count before at rest (walk_of key item (many_at key item None count first) count before at rest front are) past)

-- a list whose number isn't there
pub no_number : {K X : Type 0} (number : Reader ℕ) (key : X → K) (item : Option K → Reader X) (bytes : List ℕ) → number bytes ≡ None → counted_at number key item bytes ≡ None
unfolding counted_at
no_number number key item bytes none = rw none refl
