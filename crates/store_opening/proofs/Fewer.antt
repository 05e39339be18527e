-- The first of a mapping's bodies are a mapping too, so that a mapping grew by its bodies one by one.
use Rattle.std.proofs.Common.{◌≡◌, ℕ, zero, suc, ◌+◌, ◌<◌, ◌≤◌, nat_lt, Bool, true, false, cond, ◌||◌, ◌&&◌, List, [], ◌∷◌, ◌++◌, length, take, drop, Option, None, Some, slice_get, option_and_then, refl, sym, ◌∙◌, ap, subst, arith, append_assoc, append-nil, length-append}
use Rattle.std.specs.List.{list_any, list_all, count_by, sum_by}
use Rattle.std.proofs.lemmas.Bool.{false≢true, and_parts, or_parts, or_from, ltb-false, le-ltb}
use Rattle.std.proofs.lemmas.Option.{none-some}
use Rattle.std.proofs.lemmas.List.Folds.{list_all-append, list_any-append}
use Rattle.std.proofs.lemmas.List.Sums.{sum_by-append}
use Rattle.mapping_body.specs.declared.refusal.Limit.{Limit}
use Rattle.mapping_body.specs.declared.refusal.Limit.TheVariants.{Fields, Depth, Nested, Relations, Generations, Size}
use Rattle.mapping_body.specs.declared.refusal.TheConstants.{MOST_FIELDS, MOST_NESTED, MOST_BODIES, MOST_BYTES}
use Rattle.mapping_body.specs.Body.{Property, is_body}
use Rattle.mapping_body.specs.Pairs.{pairs_of, has_two_parents}
use Rattle.mapping_growth.proofs.Adding.{additions_more, relations_more}
use Rattle.mapping_growth.proofs.Climbs.{founded_ends, not_itself}
use Rattle.mapping_growth.specs.Bodies.{AreBodies, AreNext, IsNext, compact_size, exceeded, has_bad_joins, has_bad_relations, is_bad_join, is_deep, says_join, says_nested}
use Rattle.mapping_growth.specs.Fields.{additions_of, draft_paths, drafts_of, properties_added}
use Rattle.mapping_growth.specs.Relations.{IsAncestor, parent, further, Relation, parent_of, relations_added, relations_of, turns_back}
use Rattle.tree_json.specs.Text.{compact}
use Rattle.tree_json.specs.Value.{JsonValue}
use Rattle.store_opening.specs.Read.{AreGrown}

-- ---- tests

split : {C : Type 0} (t : Bool) → (t ≡ true → C) → (t ≡ false → C) → C
split true left right = left refl
split false left right = right refl

any_front : {A : Type 0} (test : A → Bool) (xs ys : List A) → list_any test (xs ++ ys) ≡ false → list_any test xs ≡ false
any_front test xs ys none = (or_parts (list_any test xs) (list_any test ys) (sym (list_any-append test xs ys) ∙ none)).0

all_front : {A : Type 0} (test : A → Bool) (xs ys : List A) → list_all test (xs ++ ys) ≡ true → list_all test xs ≡ true
all_front test xs ys all = (and_parts (list_all test xs) (list_all test ys) (sym (list_all-append test xs ys) ∙ all)).0

count_front : {A : Type 0} (test : A → Bool) (xs ys : List A) → count_by test xs ≤ count_by test (xs ++ ys)
count_front {A = X} test xs ys = omega (arith, sum_by-append (λ (x : X). cond (test x) 1 0) xs ys)

within : (limit less more : ℕ) → less ≤ more → nat_lt limit more ≡ false → nat_lt limit less ≡ false
within limit less more fewer under = le-ltb limit less (omega (arith, fewer, ltb-false limit more under))

-- ---- relations

same_parent : (rs more : List Relation) (at above : ℕ) → parent_of rs (Some at) ≡ Some above → parent_of (rs ++ more) (Some at) ≡ Some above
same_parent [] more at above is = absurd (none-some above is)
same_parent (r ∷ rs) more zero above is = is
same_parent (r ∷ rs) more (suc at) above is = same_parent rs more at above is

still_above : (rs more : List Relation) (above at : ℕ) → IsAncestor rs above at → IsAncestor (rs ++ more) above at
still_above rs more above at (parent up low is) = parent up low (same_parent rs more low up is)
still_above rs more above at (further up between low over is) =
    further up between low (still_above rs more up between over) (same_parent rs more low between is)

ends_front : (rs more : List Relation) → turns_back (rs ++ more) ≡ false → turns_back rs ≡ false
ends_front rs more ends = founded_ends rs (λ r over. not_itself (rs ++ more) r ends (still_above rs more r r over))

-- ---- limits

record Under (bodies : List JsonValue) : Type 0 where
  fields : nat_lt MOST_FIELDS (length (additions_of bodies)) ≡ false
  depth : list_any is_deep (additions_of bodies) ≡ false
  nested : nat_lt MOST_NESTED (count_by says_nested (additions_of bodies)) ≡ false
  relations : has_bad_relations bodies ≡ false
  many : nat_lt MOST_BODIES (length bodies) ≡ false
  size : nat_lt MOST_BYTES (compact_size bodies) ≡ false

unless : (b : Bool) (x : Limit) (rest : Option Limit) → cond b (Some x) rest ≡ None → (b ≡ false) × (rest ≡ None)
unless true x rest same = absurd (none-some x (sym same))
unless false x rest same = (refl, same)

under_none : (bodies : List JsonValue) → exceeded bodies ≡ None → Under bodies
unfolding exceeded
under_none bodies none = by_parts (nat_lt MOST_FIELDS (length (additions_of bodies))) (list_any is_deep (additions_of bodies))
    (nat_lt MOST_NESTED (count_by says_nested (additions_of bodies))) (has_bad_relations bodies) (nat_lt MOST_BODIES (length bodies)) (nat_lt MOST_BYTES (compact_size bodies))
    refl refl refl refl refl refl none
  where
    by_parts : (fields depth nested relations many size : Bool) → nat_lt MOST_FIELDS (length (additions_of bodies)) ≡ fields → list_any is_deep (additions_of bodies) ≡ depth
        → nat_lt MOST_NESTED (count_by says_nested (additions_of bodies)) ≡ nested → has_bad_relations bodies ≡ relations → nat_lt MOST_BODIES (length bodies) ≡ many
        → nat_lt MOST_BYTES (compact_size bodies) ≡ size
        → cond fields (Some Fields) (cond depth (Some Depth) (cond nested (Some Nested) (cond relations (Some Relations) (cond many (Some Generations) (cond size (Some Size) None))))) ≡ None
        → Under bodies
    by_parts fields depth nested relations many size f d n r m s none =
        let first = unless fields Fields (cond depth (Some Depth) (cond nested (Some Nested) (cond relations (Some Relations) (cond many (Some Generations) (cond size (Some Size) None))))) none in
        let second = unless depth Depth (cond nested (Some Nested) (cond relations (Some Relations) (cond many (Some Generations) (cond size (Some Size) None)))) first.1 in
        let third = unless nested Nested (cond relations (Some Relations) (cond many (Some Generations) (cond size (Some Size) None))) second.1 in
        let fourth = unless relations Relations (cond many (Some Generations) (cond size (Some Size) None)) third.1 in
        let fifth = unless many Generations (cond size (Some Size) None) fourth.1 in
        record {
          fields = f ∙ first.0;
          depth = d ∙ second.0;
          nested = n ∙ third.0;
          relations = r ∙ fourth.0;
          many = m ∙ fifth.0;
          size = s ∙ (unless size Size None fifth.1).0;
        }

none_under : (bodies : List JsonValue) → Under bodies → exceeded bodies ≡ None
unfolding exceeded
none_under bodies under = rw (under.fields, under.depth, under.nested, under.relations, under.many, under.size) refl

relations_front : (xs : List JsonValue) (v : JsonValue) → has_bad_relations (xs ++ v ∷ []) ≡ false → has_bad_relations xs ≡ false
relations_front xs v good =
    let added : List Property = properties_added (draft_paths (drafts_of xs)) v in
    let all = or_parts (has_bad_joins (xs ++ v ∷ [])) (list_any (λ body. has_two_parents (pairs_of body)) (xs ++ v ∷ []) || turns_back (relations_of (xs ++ v ∷ []))) good in
    let joins = or_parts (nat_lt 1 (count_by says_join (additions_of (xs ++ v ∷ [])))) (list_any is_bad_join (additions_of (xs ++ v ∷ []))) all.0 in
    let behind = or_parts (list_any (λ body. has_two_parents (pairs_of body)) (xs ++ v ∷ [])) (turns_back (relations_of (xs ++ v ∷ []))) all.1 in
    or_from (has_bad_joins xs) (list_any (λ body. has_two_parents (pairs_of body)) xs || turns_back (relations_of xs))
    (or_from (nat_lt 1 (count_by says_join (additions_of xs))) (list_any is_bad_join (additions_of xs))
    (within 1 (count_by says_join (additions_of xs)) (count_by says_join (additions_of xs ++ added)) (count_front says_join (additions_of xs) added)
    (sym (ap (λ (ps : List Property). nat_lt 1 (count_by says_join ps)) (additions_more xs v)) ∙ joins.0))
    (any_front is_bad_join (additions_of xs) added (sym (ap (list_any is_bad_join) (additions_more xs v)) ∙ joins.1)))
    (or_from (list_any (λ body. has_two_parents (pairs_of body)) xs) (turns_back (relations_of xs))
    (any_front (λ body. has_two_parents (pairs_of body)) xs (v ∷ []) behind.0)
    (ends_front (relations_of xs) (relations_added (length xs + 1) (relations_of xs) (pairs_of v)) (sym (ap turns_back (relations_more xs v)) ∙ behind.1)))

under_front : (xs : List JsonValue) (v : JsonValue) → Under (xs ++ v ∷ []) → Under xs
under_front xs v under =
    let added : List Property = properties_added (draft_paths (drafts_of xs)) v in
    record {
      fields = within MOST_FIELDS (length (additions_of xs)) (length (additions_of xs ++ added)) (omega (arith, length-append (additions_of xs) added))
          (sym (ap (λ (ps : List Property). nat_lt MOST_FIELDS (length ps)) (additions_more xs v)) ∙ under.fields);
      depth = any_front is_deep (additions_of xs) added (sym (ap (list_any is_deep) (additions_more xs v)) ∙ under.depth);
      nested = within MOST_NESTED (count_by says_nested (additions_of xs)) (count_by says_nested (additions_of xs ++ added)) (count_front says_nested (additions_of xs) added)
          (sym (ap (λ (ps : List Property). nat_lt MOST_NESTED (count_by says_nested ps)) (additions_more xs v)) ∙ under.nested);
      relations = relations_front xs v under.relations;
      many = within MOST_BODIES (length xs) (length (xs ++ v ∷ [])) (omega (arith, length-append xs (v ∷ []))) under.many;
      size = within MOST_BYTES (compact_size xs) (compact_size (xs ++ v ∷ [])) (omega (arith, sum_by-append (λ (body : JsonValue). length (compact body)) xs (v ∷ []))) under.size;
    }

-- ---- bodies

next_front : (before xs ys : List JsonValue) → AreNext before (xs ++ ys) → AreNext before xs
next_front before [] ys are = tt
next_front before (x ∷ xs) ys are = (are.0, next_front (before ++ x ∷ []) xs ys are.1)

one_fewer : (xs : List JsonValue) (v : JsonValue) → 0 < length xs → AreBodies (xs ++ v ∷ []) → AreBodies xs
one_fewer [] v some are = absurd (omega (arith, some))
one_fewer (x ∷ xs) v some are = record {
  some = some;
  forms = all_front is_body (x ∷ xs) (v ∷ []) are.forms;
  next = next_front (x ∷ []) xs (v ∷ []) are.next;
  limits = none_under (x ∷ xs) (under_front (x ∷ xs) v (under_none (x ∷ xs ++ v ∷ []) are.limits));
}

pub first_bodies : (ys xs : List JsonValue) → 0 < length xs → AreBodies (xs ++ ys) → AreBodies xs
first_bodies [] xs some are = subst (λ (it : List JsonValue). AreBodies it) (append-nil xs) are
first_bodies (y ∷ ys) xs some are =
    one_fewer xs y some
    (first_bodies ys (xs ++ y ∷ []) (omega (arith, length-append xs (y ∷ [])))
    (subst (λ (it : List JsonValue). AreBodies it) (sym (append_assoc xs (y ∷ []) ys)) are))

-- what are bodies of a mapping grew one by one
pub grown_of : (vs before : List JsonValue) → AreBodies (before ++ vs) → AreGrown before vs
grown_of [] before are = tt
grown_of (v ∷ vs) before are =
    let whole : AreBodies ((before ++ v ∷ []) ++ vs) = subst (λ (it : List JsonValue). AreBodies it) (sym (append_assoc before (v ∷ []) vs)) are in
    (first_bodies vs (before ++ v ∷ []) (omega (arith, length-append before (v ∷ []))) whole, grown_of vs (before ++ v ∷ []) whole)

-- and what grew one by one are bodies of a mapping
pub of_grown : (vs before : List JsonValue) → 0 < length vs → AreGrown before vs → AreBodies (before ++ vs)
of_grown [] before some grown = absurd (omega (arith, some))
of_grown (v ∷ []) before some grown = grown.0
of_grown (v ∷ w ∷ vs) before some grown =
    subst (λ (it : List JsonValue). AreBodies it) (append_assoc before (v ∷ []) (w ∷ vs)) (of_grown (w ∷ vs) (before ++ v ∷ []) (omega arith) grown.1)
