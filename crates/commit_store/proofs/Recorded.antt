-- The record of a commit has numbers that fit their bytes, and is as long as was reckoned.
use Rattle.std.proofs.Common.{◌≡◌, ℕ, zero, suc, ◌+◌, ◌*◌, ◌<◌, ◌≤◌, ◌^◌, get_or, cond, nat_lt, Bool, true, false, not, List, [], ◌∷◌, length, map, count_by, sum_by, All, Option, None, Some, refl, sym, ◌∙◌, ap, subst, arith}
use Rattle.std.specs.List.{AllByRecursion, list_any}
use Rattle.std.specs.List.Sorted.{IsStrictlyIncreasing}
use Rattle.std.proofs.lemmas.Bool.{ltb-false}
use Rattle.std.proofs.lemmas.List.Sums.{sum_by-cons}
use Rattle.std.proofs.lemmas.Option.{none-some}
use Rattle.mapping_body.specs.declared.refusal.TheConstants.{MOST_FIELDS, MOST_NESTED, MOST_BODIES as MOST_MAPPED, MOST_BYTES}
use Rattle.mapping_body.specs.declared.refusal.Limit.{Limit}
use Rattle.mapping_body.specs.declared.refusal.Limit.TheVariants.{Fields, Depth, Nested, Relations, Generations, Size}
use Rattle.mapping_growth.specs.Bodies.{AreBodies, compact_size, exceeded, has_bad_relations, is_deep, says_nested}
use Rattle.mapping_growth.specs.Fields.{additions_of}
use Rattle.store_text.specs.Record.{AreBodyTexts}
use Rattle.tree_json.specs.Text.{compact}
use Rattle.tree_json.specs.Value.{JsonValue}
use Rattle.commit_store.specs.Saying.{dead_from, dead_of}
use Rattle.commit_store.proofs.Lists.{by_index}

-- ---- bodies

unless : (b : Bool) (x : Limit) (rest : Option Limit) → cond b (Some x) rest ≡ None → (b ≡ false) × (rest ≡ None)
unless true x rest same = absurd (none-some x (sym same))
unless false x rest same = (refl, same)

-- each limit in turn isn't exceeded
under_all : (fields depth nested relations many size : Bool) → cond fields (Some Fields) (cond depth (Some Depth) (cond nested (Some Nested) (cond relations (Some Relations) (cond many (Some Generations) (cond size (Some Size) None))))) ≡ None
    → (many ≡ false) × (size ≡ false)
under_all fields depth nested relations many size none =
    let first = unless fields Fields (cond depth (Some Depth) (cond nested (Some Nested) (cond relations (Some Relations) (cond many (Some Generations) (cond size (Some Size) None))))) none in
    let second = unless depth Depth (cond nested (Some Nested) (cond relations (Some Relations) (cond many (Some Generations) (cond size (Some Size) None)))) first.1 in
    let third = unless nested Nested (cond relations (Some Relations) (cond many (Some Generations) (cond size (Some Size) None))) second.1 in
    let fourth = unless relations Relations (cond many (Some Generations) (cond size (Some Size) None)) third.1 in
    let fifth = unless many Generations (cond size (Some Size) None) fourth.1 in
    (fifth.0, (unless size Size None fifth.1).0)

pub not_too_many : (bodies : List JsonValue) → exceeded bodies ≡ None → (length bodies ≤ 1_000) × (compact_size bodies ≤ 16_777_216)
unfolding exceeded
not_too_many bodies none =
    let under = under_all (nat_lt MOST_FIELDS (length (additions_of bodies))) (list_any is_deep (additions_of bodies)) (nat_lt MOST_NESTED (count_by says_nested (additions_of bodies))) (has_bad_relations bodies)
    (nat_lt MOST_MAPPED (length bodies)) (nat_lt MOST_BYTES (compact_size bodies)) none in
    (ltb-false MOST_MAPPED (length bodies) under.0, ltb-false MOST_BYTES (compact_size bodies) under.1)

each_short : (bodies : List JsonValue) (most : ℕ) → compact_size bodies ≤ most → AllByRecursion (λ (body : List ℕ). length body ≤ most) (map compact bodies)
each_short [] most few = tt
each_short (body ∷ bodies) most few =
    let whole = sum_by-cons (λ (it : JsonValue). length (compact it)) body bodies in
    (omega (arith, whole, few), each_short bodies most (omega (arith, whole, few)))

shorter : (texts : List (List ℕ)) → AllByRecursion (λ (body : List ℕ). length body ≤ 16_777_216) texts → AllByRecursion (λ (body : List ℕ). length body < 2 ^ 32) texts
shorter [] all = tt
shorter (text ∷ texts) all = (omega (arith, all.0), shorter texts all.1)

length-map : {A B : Type 0} (f : A → B) (xs : List A) → length (map f xs) ≡ length xs
length-map f [] = refl
length-map f (x ∷ xs) = ap suc (length-map f xs)

pub body_texts : (bodies : List JsonValue) → AreBodies bodies → AreBodyTexts (map compact bodies)
body_texts bodies are =
    let few = not_too_many bodies are.limits in
    record {
      some = omega (arith, are.some, length-map compact bodies);
      few = omega (arith, few.0, length-map compact bodies);
      short = by_index (λ (body : List ℕ). length body < 2 ^ 32) (map compact bodies) (shorter (map compact bodies) (each_short bodies 16_777_216 few.1));
    }

-- ---- dead roots

dead_below : (index most : ℕ) (live : List Bool) → index + length live ≤ most → AllByRecursion (λ (i : ℕ). i < most) (dead_from index live)
dead_below index most [] within = tt
dead_below index most (true ∷ live) within = dead_below (index + 1) most live (omega (arith, within))
dead_below index most (false ∷ live) within = (omega (arith, within), dead_below (index + 1) most live (omega (arith, within)))

pub dead_within : (live : List Bool) → length live < 2 ^ 32 → All (λ (i : ℕ). i < 2 ^ 32) (dead_of live)
dead_within live few = by_index (λ (i : ℕ). i < 2 ^ 32) (dead_of live) (dead_below 0 (2 ^ 32) live (omega (arith, few)))

one_more : (first : Bool) (others : List Bool) → count_by not (first ∷ others) ≡ cond (not first) 1 0 + count_by not others
one_more first others = sum_by-cons (λ (it : Bool). cond (not it) 1 0) first others

dead_many : (index : ℕ) (live : List Bool) → length (dead_from index live) ≡ count_by not live
dead_many index [] = refl
dead_many index (true ∷ live) = let more = dead_many (index + 1) live in let whole = one_more true live in omega (arith, more, whole)
dead_many index (false ∷ live) = let more = dead_many (index + 1) live in let whole = one_more false live in omega (arith, more, whole)

pub dead_counted : (live : List Bool) → length (dead_of live) ≡ count_by not live
dead_counted live = dead_many 0 live

pub dead_fewer : (live : List Bool) → length (dead_of live) ≤ length live
dead_fewer live = by_length 0 live
  where
    by_length : (index : ℕ) (marks : List Bool) → length (dead_from index marks) ≤ length marks
    by_length index [] = omega arith
    by_length index (true ∷ marks) = omega (arith, by_length (index + 1) marks)
    by_length index (false ∷ marks) = omega (arith, by_length (index + 1) marks)

first_above : (index : ℕ) (live : List Bool) → 0 < length (dead_from index live) → index ≤ get_or (dead_from index live) 0 0
first_above index [] some = absurd (omega (arith, some))
first_above index (true ∷ live) some = omega (arith, first_above (index + 1) live some)
first_above index (false ∷ live) some = omega arith

risen : (first : ℕ) (others : List ℕ) → (0 < length others → first < get_or others 0 0) → IsStrictlyIncreasing others → IsStrictlyIncreasing (first ∷ others)
risen first others less rise zero within = less (omega (arith, within))
risen first others less rise (suc k) within =
    let there : suc k + 1 ≡ suc (k + 1) = omega arith in
    subst (λ (n : ℕ). get_or others k 0 < get_or (first ∷ others) n 0) (sym there) (rise k (omega (arith, within)))

rising : (index : ℕ) (live : List Bool) → IsStrictlyIncreasing (dead_from index live)
rising index [] k within = absurd (omega (arith, within))
rising index (true ∷ live) k within = rising (index + 1) live k within
rising index (false ∷ live) k within =
    risen index (dead_from (index + 1) live) (λ some. let above = first_above (index + 1) live some in omega (arith, above)) (rising (index + 1) live) k within

pub dead_rising : (live : List Bool) → IsStrictlyIncreasing (dead_of live)
dead_rising live = rising 0 live
