-- The paths of all properties of the bodies of a mapping have no more names than they may.
use Rattle.std.proofs.Common.{◌≡◌, ℕ, ◌+◌, ◌≤◌, List, [], ◌∷◌, ◌++◌, map, filter, not, refl, sym, ◌∙◌, subst, arith, Bool, true, false, if◌then◌else◌, nat_lt, bytes_eq, length, Some, None, is_some}
use Rattle.std.proofs.lemmas.Bool.{false≢true, ltb-false}
use Rattle.std.proofs.lemmas.List.Folds.{list_any-append}
use Rattle.std.proofs.lemmas.Slice.Eq.{bytes_eq-Decides}
use Rattle.std.specs.List.{AllByRecursion, list_all, list_any, position_from, count_by}
use Rattle.tree_json.specs.Levels.{levels, most_levels}
use Rattle.tree_json.specs.Sound.{IsSound}
use Rattle.tree_json.specs.Value.{JsonValue}
use Rattle.mapping_body.specs.Body.{Property, is_body, is_body_alone, is_property, properties_of}
use Rattle.mapping_body.specs.Names.{in_byte_order, is_among, name_count, put, put_all}
use Rattle.mapping_body.specs.declared.refusal.Limit.TheVariants.{Fields, Depth, Nested, Relations, Generations, Size}
use Rattle.mapping_body.specs.declared.refusal.TheConstants.{MOST_FIELDS, MOST_NAMES, MOST_NESTED, MOST_BODIES, MOST_BYTES}
use Rattle.mapping_body.proofs.Booleans.{neither}
use Rattle.mapping_body.proofs.Closed.{append_all, both}
use Rattle.mapping_body.proofs.Ranks.{by_ordering, compared}
use Rattle.mapping_body.proofs.Walks.{split}
use Rattle.mapping_growth.specs.Bodies.{AreBodies, compact_size, exceeded, has_bad_relations, is_deep, says_nested}
use Rattle.mapping_growth.specs.Fields.{Draft, draft_of, draft_paths, drafts_added, additions_from, additions_of, properties_added}
use Rattle.mapping_growth.proofs.Generations.{filter_all}
use Rattle.mapping_texts.proofs.Levels.{IsWithin, body_levels, depth}

-- ---- additions are within the limit

deep_left : (fields deep nested relations bodies bytes : Bool)
    → (if fields then Some Fields else (if deep then Some Depth else (if nested then Some Nested else (if relations then Some Relations else (if bodies then Some Generations else (if bytes then Some Size else None)))))) ≡ None
    → deep ≡ false
deep_left true deep nested relations bodies bytes none = cc
deep_left false true nested relations bodies bytes none = cc
deep_left false false nested relations bodies bytes none = refl

not_deep : (bodies : List JsonValue) → exceeded bodies ≡ None → list_any is_deep (additions_of bodies) ≡ false
unfolding exceeded
not_deep bodies none =
    deep_left (nat_lt MOST_FIELDS (length (additions_of bodies))) (list_any is_deep (additions_of bodies)) (nat_lt MOST_NESTED (count_by says_nested (additions_of bodies)))
    (has_bad_relations bodies) (nat_lt MOST_BODIES (length bodies)) (nat_lt MOST_BYTES (compact_size bodies)) none

-- ---- paths

abbrev IsShort : List ℕ → Type 0
IsShort path = depth path ≤ 20

short_path : (path : List ℕ) → nat_lt MOST_NAMES (name_count path) ≡ false → IsShort path
short_path [] few = omega arith
short_path (byte ∷ path) few = let most = ltb-false MOST_NAMES (name_count (byte ∷ path)) few in omega (arith, most)

abbrev AreShort : List Draft → Type 0
AreShort ds = AllByRecursion (λ (d : Draft). IsShort d.path) ds

short_at : (name : List ℕ) (ds : List Draft) (at : ℕ) → AreShort ds → is_some (position_from (λ other. bytes_eq other name) at (draft_paths ds)) ≡ true → IsShort name
short_at name [] at short among = absurd (false≢true among)
short_at name (d ∷ ds) at short among =
    split (bytes_eq d.path name)
    (λ same. subst IsShort ((bytes_eq-Decides d.path name).0 same) short.0)
    (λ other. short_at name ds (at + 1) short.1 (rw other at among))

-- each property is known, or it is an addition
all_short : (known : List Draft) (ps : List Property) → AreShort known → list_any is_deep (filter (λ p. not (is_among (draft_paths known) p.path)) ps) ≡ false
    → AllByRecursion (λ (p : Property). IsShort p.path) ps
all_short known [] short few = tt
all_short known (p ∷ ps) short few =
    split (is_among (draft_paths known) p.path)
    (λ among. (short_at p.path known 0 short among, all_short known ps short (rw among at few)))
    (λ new.
    let both_not = neither (is_deep p) (list_any is_deep (filter (λ (q : Property). not (is_among (draft_paths known) q.path)) ps)) (rw new at few) in
    (short_path p.path both_not.0, all_short known ps short both_not.1))

-- ---- what bodies add

all_put : {T : Type 0} (P : T → Type 0) (name : T → List ℕ) (x : T) (ys : List T) → P x → AllByRecursion P ys → AllByRecursion P (put name x ys)
all_put P name x [] first all = (first, tt)
all_put P name x (y ∷ ys) first all =
    by_ordering (compared (name y) (name x))
    (λ less. rw less (all.0, all_put P name x ys first all.1))
    (λ equal. rw equal all)
    (λ greater. rw greater (first, all))

all_put_all : {T : Type 0} (P : T → Type 0) (name : T → List ℕ) (ys xs : List T) → AllByRecursion P ys → AllByRecursion P xs → AllByRecursion P (put_all name ys xs)
all_put_all P name ys [] one two = one
all_put_all P name ys (x ∷ xs) one two = all_put_all P name (put name x ys) xs (all_put P name x ys two.0 one) two.1

drafts_short : (g : ℕ) (ps : List Property) → AllByRecursion (λ (p : Property). IsShort p.path) ps → AreShort (map (draft_of g) ps)
drafts_short g [] all = tt
drafts_short g (p ∷ ps) all = (all.0, drafts_short g ps all.1)

added_short : (g : ℕ) (known : List (List ℕ)) (v : JsonValue) → AllByRecursion (λ (p : Property). IsShort p.path) (properties_of v) → AreShort (drafts_added g known v)
added_short g known v all =
    filter_all (λ (d : Draft). IsShort d.path) (λ d. not (is_among known d.path)) (in_byte_order (λ d. d.path) (map (draft_of g) (properties_of v)))
    (all_put_all (λ (d : Draft). IsShort d.path) (λ d. d.path) [] (map (draft_of g) (properties_of v)) tt (drafts_short g (properties_of v) all))

-- ---- bodies

within : (ps : List Property) → list_all (λ p. is_property p.form) ps ≡ true → AllByRecursion (λ (p : Property). IsShort p.path) ps → AllByRecursion IsWithin ps
within [] forms short = tt
within (p ∷ ps) forms short =
    let parts = both (is_property p.form) (list_all (λ q. is_property q.form) ps) forms in
    (record { form = parts.0; names = short.0 }, within ps parts.1 short.1)

levels_from : (g : ℕ) (known : List Draft) (bs : List JsonValue) → AreShort known → list_all is_body bs ≡ true → AllByRecursion IsSound bs
    → list_any is_deep (additions_from g known bs) ≡ false → AllByRecursion (λ (body : JsonValue). levels body ≤ most_levels) bs
levels_from g known [] short forms sound few = tt
levels_from g known (b ∷ bs) short forms sound few =
    let parts = both (is_body b) (list_all is_body bs) forms in
    let news = drafts_added g (draft_paths known) b in
    let few_parts
    = neither (list_any is_deep (properties_added (draft_paths known) b)) (list_any is_deep (additions_from (g + 1) (known ++ news) bs))
    (sym (list_any-append is_deep (properties_added (draft_paths known) b) (additions_from (g + 1) (known ++ news) bs)) ∙ few) in
    let all = all_short known (properties_of b) short few_parts.0 in (
      body_levels b sound.0 parts.0 (within (properties_of b) (both (is_body_alone b) (list_all (λ p. is_property p.form) (properties_of b)) parts.0).1 all),
      levels_from (g + 1) (known ++ news) bs (append_all (λ (d : Draft). IsShort d.path) known news short (added_short g (draft_paths known) b all)) parts.1 sound.1 few_parts.1,
    )

-- the bodies of a mapping have few levels
pub bodies_levels : (bs : List JsonValue) → AreBodies bs → AllByRecursion IsSound bs → AllByRecursion (λ (body : JsonValue). levels body ≤ most_levels) bs
unfolding additions_of
bodies_levels bs are sound = levels_from 1 [] bs tt are.forms sound (not_deep bs are.limits)
