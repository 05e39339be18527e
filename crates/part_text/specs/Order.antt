-- Lists whose items follow one another, by the words for lists: each item is what it has to be, and each key comes before the
-- next.
use Rattle.std.proofs.Common.{◌≡◌, ℕ, zero, suc, ◌+◌, ◌<◌, ◌≤◌, List, [], ◌∷◌, length, get_or, map, drop, Option, Some, None, All, sym, ap, subst, ◌∙◌, arith}
use Rattle.std.proofs.lemmas.List.{drop_more, drop_all}
use Rattle.std.specs.List.{AllAdjacentBelow}
use Rattle.std.proofs.lemmas.List.Elements.{All-nil, All-cons, All-head, All-tail}
use Rattle.part_text.specs.Reads.{Follow}

-- any key may stand first, and each later one behind those that come before it
abbrev pub After : {K : Type 0} → (K → K → Type 0) → Option K → K → Type 0
After Before None key = Unit {0}
After Before (Some before) key = Before before key

-- each key comes before the next
abbrev pub Rising : {K : Type 0} → (K → K → Type 0) → List K → Type 0
Rising Before keys = AllAdjacentBelow Before keys (length keys)

rising_none : {K : Type 0} (Before : K → K → Type 0) → Rising Before []
rising_none Before k d below = absurd (omega arith)

rising_one : {K : Type 0} (Before : K → K → Type 0) (key : K) → Rising Before (key ∷ [])
rising_one Before key k d below = absurd (omega arith)

rising_more : {K : Type 0} (Before : K → K → Type 0) (one two : K) (keys : List K) → Before one two → Rising Before (two ∷ keys) → Rising Before (one ∷ two ∷ keys)
rising_more Before one two keys first more zero d below = first
rising_more Before one two keys first more (suc k) d below =
    let next : suc k + 1 ≡ suc (k + 1) = omega arith in
    rw next (more k d (omega arith))

rising_first : {K : Type 0} (Before : K → K → Type 0) (one two : K) (keys : List K) → Rising Before (one ∷ two ∷ keys) → Before one two
rising_first Before one two keys rising = rising 0 one (omega arith)

rising_rest : {K : Type 0} (Before : K → K → Type 0) (key : K) (keys : List K) → Rising Before (key ∷ keys) → Rising Before keys
rising_rest Before key keys rising k d below =
    let next : suc k + 1 ≡ suc (k + 1) = omega arith in
    rw next at (rising (suc k) d (omega arith))

pub follow_all : {K X : Type 0} (key : X → K) (Before : K → K → Type 0) (Own : X → Type 0) (before : Option K) (items : List X) → Follow key (λ before item. Own item × After Before before (key item)) before items → All Own items
follow_all key Before Own before [] follow = All-nil Own
follow_all key Before Own before (item ∷ items) follow = All-cons Own item items follow.0.0 (follow_all key Before Own (Some (key item)) items follow.1)

pub follow_rising : {K X : Type 0} (key : X → K) (Before : K → K → Type 0) (Own : X → Type 0) (before : Option K) (items : List X) → Follow key (λ before item. Own item × After Before before (key item)) before items → Rising Before (map key items)
follow_rising key Before Own before [] follow = rising_none Before
follow_rising key Before Own before (item ∷ []) follow = rising_one Before (key item)
follow_rising key Before Own before (item ∷ next ∷ items) follow = rising_more Before (key item) (key next) (map key items) follow.1.0.1 (follow_rising key Before Own (Some (key item)) (next ∷ items) follow.1)

-- the first may follow what stands before it
abbrev MayBegin : {K : Type 0} → (K → K → Type 0) → Option K → List K → Type 0
MayBegin Before before [] = Unit {0}
MayBegin Before before (key ∷ keys) = After Before before key

follow_from : {K X : Type 0} (key : X → K) (Before : K → K → Type 0) (Own : X → Type 0) (before : Option K) (items : List X) → MayBegin Before before (map key items) → All Own items → Rising Before (map key items) → Follow key (λ before item. Own item × After Before before (key item)) before items
follow_from key Before Own before [] first own rising = tt
follow_from key Before Own before (item ∷ []) first own rising = ((All-head Own item [] own, first), tt)
follow_from key Before Own before (item ∷ next ∷ items) first own rising =
    ((All-head Own item (next ∷ items) own, first), follow_from key Before Own (Some (key item)) (next ∷ items) (rising_first Before (key item) (key next) (map key items) rising) (All-tail Own item (next ∷ items) own) (rising_rest Before (key item) (key next ∷ map key items) rising))

begins : {K : Type 0} (Before : K → K → Type 0) (keys : List K) → MayBegin Before None keys
begins Before [] = tt
begins Before (key ∷ keys) = tt

pub follow_of : {K X : Type 0} (key : X → K) (Before : K → K → Type 0) (Own : X → Type 0) (items : List X) → All Own items → Rising Before (map key items) → Follow key (λ before item. Own item × After Before before (key item)) None items
follow_of key Before Own items own rising = follow_from key Before Own None items (begins Before (map key items)) own rising

-- a loop over items: those from `at` on may follow `before` exactly where all of them may follow one another
pub record IsFollowed {K X : Type 0} (key : X → K) (May : Option K → X → Type 0) (items : List X) (before : Option K) (at : ℕ) : Type 0 where
  pub forth : Follow key May before (drop at items) → Follow key May None items
  pub back : Follow key May None items → Follow key May before (drop at items)

pub followed_start : {K X : Type 0} (key : X → K) (May : Option K → X → Type 0) (items : List X) → IsFollowed key May items None 0
followed_start key May items = record { forth = λ follow. follow; back = λ follow. follow }

pub followed_more : {K X : Type 0} (key : X → K) (May : Option K → X → Type 0) (items : List X) (before : Option K) (at : ℕ) (item : X) → IsFollowed key May items before at → at < length items → item ≡ get_or items at item → May before item → IsFollowed key May items (Some (key item)) (at + 1)
followed_more key May items before at item was inside is may =
    let next : drop at items ≡ item ∷ drop (at + 1) items = drop_more items at item inside ∙ ap (λ first. first ∷ drop (at + 1) items) (sym is) in
    record {
      forth = λ follow. was.forth (subst (Follow key May before) (sym next) (may, follow));
      back = λ follow. (subst (Follow key May before) next (was.back follow)).1;
    }

-- an item that may not follow the one before it
pub followed_fails : {K X : Type 0} (key : X → K) (May : Option K → X → Type 0) (items : List X) (before : Option K) (at : ℕ) (item : X) → IsFollowed key May items before at → at < length items → item ≡ get_or items at item → (May before item → ⊥) → Follow key May None items → ⊥
followed_fails key May items before at item was inside is never follow =
    let next : drop at items ≡ item ∷ drop (at + 1) items = drop_more items at item inside ∙ ap (λ first. first ∷ drop (at + 1) items) (sym is) in
    never (subst (Follow key May before) next (was.back follow)).0

pub followed_end : {K X : Type 0} (key : X → K) (May : Option K → X → Type 0) (items : List X) (before : Option K) (at : ℕ) → IsFollowed key May items before at → length items ≤ at → Follow key May None items
followed_end key May items before at was past = was.forth (subst (Follow key May before) (sym (drop_all at items past)) tt)
