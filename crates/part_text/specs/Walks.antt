-- Loops that read a list item by item: what is left reads on to what the whole list gives.
use Rattle.std.proofs.Common.{◌≡◌, ℕ, suc, ◌-◌, ◌+◌, ◌≤◌, ◌<◌, List, [], ◌∷◌, ◌++◌, length, Option, Some, None, refl, sym, ap, ◌∙◌, append_assoc, arith}
use Rattle.std.proofs.lemmas.List.{append-nil, length_push}
use Rattle.part_text.specs.Reading.{◌>>=◌, Reader, many_at, counted_at, IsKeyed}

-- the items that were read, in front of those that are still read
abbrev pub with_front : {X : Type 0} → List X → Option (List X × List ℕ) → Option (List X × List ℕ)
with_front front read = read >>= λ others. Some (front ++ others.0, others.1)

-- `at` of `count` items were read, the last of them with the key `before`
pub record IsWalked {K X : Type 0} (key : X → K) (item : Option K → Reader X) (total : Option (List X × List ℕ)) (count : ℕ) (before : Option K) (at : ℕ) (rest : List ℕ) : Type 0 where
  pub front : List X
  pub so_far : with_front front (many_at key item before (count - at) rest) ≡ total
  pub long : length front ≡ at

pub nothing_before : {X : Type 0} (read : Option (List X × List ℕ)) → with_front [] read ≡ read
nothing_before (Some others) = refl
nothing_before None = refl

regroup : {X : Type 0} (front : List X) (first : X) (read : Option (List X × List ℕ)) → with_front front (read >>= λ others. Some (first ∷ others.0, others.1)) ≡ with_front (front ++ first ∷ []) read
regroup front first (Some others) = ap (λ items. Some (items, others.1)) (sym (append_assoc front (first ∷ []) others.0))
regroup front first None = refl

unfoldable pub walked_start : {K X : Type 0} (key : X → K) (item : Option K → Reader X) (count : ℕ) (bytes : List ℕ) → IsWalked key item (many_at key item None count bytes) count None 0 bytes
walked_start key item count bytes = record {
  front = [];
  so_far = let all : count - 0 ≡ count = omega arith in rw all (nothing_before (many_at key item None count bytes));
  long = refl;
}

-- what the list gives goes on behind one more item
pub goes_on : {K X : Type 0} (key : X → K) (item : Option K → Reader X) (total : Option (List X × List ℕ)) (count : ℕ) (before : Option K) (at : ℕ) (rest : List ℕ) (front : List X) (first : X) (after : List ℕ) → at < count → item before rest ≡ Some (first, after)
    → with_front front (many_at key item before (count - at) rest) ≡ total → with_front (front ++ first ∷ []) (many_at key item (Some (key first)) (count - (at + 1)) after) ≡ total
unfolding many_at
goes_on key item total count before at rest front first after below is so_far =
    let left : count - at ≡ suc (count - (at + 1)) = omega arith in
    let one : with_front front (many_at key item before (count - at) rest) ≡ with_front (front ++ first ∷ []) (many_at key item (Some (key first)) (count - (at + 1)) after) = rw (left, is) (regroup front first (many_at key item (Some (key first)) (count - (at + 1)) after)) in
    sym one ∙ so_far

unfoldable pub walked_more : {K X : Type 0} (key : X → K) (item : Option K → Reader X) (total : Option (List X × List ℕ)) (count : ℕ) (before : Option K) (at : ℕ) (rest : List ℕ) (own : K) (after : List ℕ) → IsWalked key item total count before at rest → at < count → IsKeyed key (item before rest) own after → IsWalked key item total count (Some own) (at + 1) after
walked_more key item total count before at rest own after was below read = record {
  front = was.front ++ read.item ∷ [];
  so_far = ap (λ k. with_front (was.front ++ read.item ∷ []) (many_at key item (Some k) (count - (at + 1)) after)) (sym read.named) ∙ goes_on key item total count before at rest was.front read.item after below read.is was.so_far;
  long = length_push was.front read.item ∙ ap (λ n. n + 1) was.long;
}

pub walked_none : {K X : Type 0} (key : X → K) (item : Option K → Reader X) (total : Option (List X × List ℕ)) (count : ℕ) (before : Option K) (at : ℕ) (rest : List ℕ) → IsWalked key item total count before at rest → at < count → item before rest ≡ None → total ≡ None
unfolding many_at
walked_none key item total count before at rest was below none =
    let left : count - at ≡ suc (count - (at + 1)) = omega arith in
    let one : with_front was.front (many_at key item before (count - at) rest) ≡ None = rw (left, none) refl in
    sym was.so_far ∙ one

pub walked_end : {K X : Type 0} (key : X → K) (item : Option K → Reader X) (total : Option (List X × List ℕ)) (count : ℕ) (before : Option K) (at : ℕ) (rest : List ℕ) (walk : IsWalked key item total count before at rest) → count ≤ at → total ≡ Some (walk.front, rest)
unfolding many_at
walked_end {X = X} key item total count before at rest walk past =
    let left : count - at ≡ 0 = omega arith in
    let one : with_front walk.front (many_at key item before (count - at) rest) ≡ Some (walk.front, rest) = rw left (ap (λ (items : List X). Some (items, rest)) (append-nil walk.front)) in
    sym walk.so_far ∙ one

-- an item is its own key
pub keyed_itself : {X : Type 0} (read : Option (X × List ℕ)) (item : X) (rest : List ℕ) → read ≡ Some (item, rest) → IsKeyed (λ (x : X). x) read item rest
keyed_itself read item rest is = record { item = item; is = is; named = refl }

-- a list behind its number, where one of its items isn't there
pub counted_fails : {K X : Type 0} (number : Reader ℕ) (key : X → K) (item : Option K → Reader X) (bytes first : List ℕ) (count : ℕ) (before : Option K) (at : ℕ) (rest : List ℕ) → number bytes ≡ Some (count, first) → IsWalked key item (many_at key item None count first) count before at rest → at < count → item before rest ≡ None → counted_at number key item bytes ≡ None
unfolding counted_at
counted_fails number key item bytes first count before at rest is was below none =
    rw is (walked_none key item (many_at key item None count first) count before at rest was below none)

-- and where all of them were read
pub counted_ends : {K X : Type 0} (number : Reader ℕ) (key : X → K) (item : Option K → Reader X) (bytes first : List ℕ) (count : ℕ) (before : Option K) (at : ℕ) (rest : List ℕ) → number bytes ≡ Some (count, first) → IsWalked key item (many_at key item None count first) count before at rest → at ≤ count → count ≤ at → IsKeyed length (counted_at number key item bytes) count rest
unfolding counted_at
counted_ends number key item bytes first count before at rest is was within past = record {
  item = was.front;
  is = rw is (walked_end key item (many_at key item None count first) count before at rest was past);
  named = omega (arith, was.long);
}
