-- What is kept, seen as what bodies say.
use Rattle.std.proofs.Common.{◌≡◌, ℕ, ◌+◌, ◌-◌, ◌<◌, ◌≤◌, List as Seq, [], ◌∷◌, ◌++◌, map, length, ◌^◌, refl, sym, ap, ◌∙◌, subst, arith, nat_lt, min, true, None, append-nil, append_assoc}
use Rattle.std.proofs.lemmas.Bool.Decides.{nat_tests}
use Rattle.std.proofs.lemmas.List.{length-map, length-append}
use Rattle.std.proofs.lemmas.List.Folds.{list_all-append}
use Rattle.std.proofs.lemmas.List.Sums.{sum_by-append, sum_by-cons}
use Rattle.tree_json.specs.Text.{compact}
use Rattle.mapping_growth.specs.Bodies.{AreBodies, AreNext, IsNext, adds, compact_size, conflict_of, exceeded}
use Rattle.mapping_body.specs.Body.{is_body}
use Rattle.mapping_body.specs.declared.refusal.TheConstants.{MOST_FIELDS, MOST_NESTED, MOST_BYTES}
use Rattle.tree_json.specs.Value.{JsonValue}
use Rattle.mapping_growth.specs.declared.draft.Draft.{Draft as Made}
use Rattle.mapping_growth.specs.declared.relation.Relation.{Relation as Tied}
use Rattle.mapping_growth.specs.Fields.{additions_of, draft_paths, drafts_of, properties_added}
use Rattle.mapping_growth.specs.Kept.{AreCounts, IsKept, counted, made_of, relation_of}
use Rattle.mapping_body.specs.Order.{IsOrderFrom, order_from}
use Rattle.mapping_growth.specs.Relations.{relation_names, relations_of}
use Rattle.mapping_growth.proofs.Distinct.{paths_distinct, names_distinct}
use Rattle.mapping_body.proofs.Ordered.{is_order}
use Rattle.mapping_growth.proofs.Pairs.{names_seen}

made_paths : (ms : Seq Made) → draft_paths (map made_of ms) ≡ map (λ d. d.path.items) ms
made_paths [] = refl
made_paths (m ∷ ms) = ap (λ (rest : Seq (Seq ℕ)). m.path.items ∷ rest) (made_paths ms)

pub paths_are : (bs : Seq JsonValue) (ms : Seq Made) → map made_of ms ≡ drafts_of bs → draft_paths (drafts_of bs) ≡ map (λ d. d.path.items) ms
paths_are bs ms e = ap draft_paths (sym e) ∙ made_paths ms

pub names_are : (bs : Seq JsonValue) (rs : Seq Tied) → map relation_of rs ≡ relations_of bs → relation_names (relations_of bs) ≡ map (λ r. r.name.items) rs
names_are bs rs e = ap relation_names (sym e) ∙ names_seen rs

-- the orders of what is kept
pub kept_by_orders : (bs : Seq JsonValue) (ms : Seq Made) (by_path : Seq ℕ) (rs : Seq Tied) (by_name : Seq ℕ) → map made_of ms ≡ drafts_of bs → map relation_of rs ≡ relations_of bs
    → by_path ≡ order_from 0 (map (λ d. d.path.items) ms) → by_name ≡ order_from 0 (map (λ r. r.name.items) rs) → length ms < 2 ^ 32 → length rs < 2 ^ 32 → IsKept bs ms by_path rs by_name
kept_by_orders bs ms by_path rs by_name fields relations paths names few_fields few_relations = record {
  fields = fields;
  relations = relations;
  paths = rw (paths, sym (paths_are bs ms fields)) (is_order (draft_paths (drafts_of bs)) (paths_distinct bs) 0 (omega arith));
  names = rw (names, sym (names_are bs rs relations)) (is_order (relation_names (relations_of bs)) (names_distinct bs) 0 (omega arith));
  few_fields = few_fields;
  few_relations = few_relations;
}

-- what is counted as far as 64 bits go, with more
pub counted_more : (a n whole : ℕ) → whole ≡ a + n → min (counted a + n) (2 ^ 64 - 1) ≡ counted whole
counted_more a n whole e = omega (arith, e)

pub bytes_more : (a n whole : ℕ) → whole ≡ a + n → min (counted a + counted n) (2 ^ 64 - 1) ≡ counted whole
bytes_more a n whole e = omega (arith, e)

-- a limit is exceeded by what is counted where it is exceeded
past_limit : (limit n whole : ℕ) → n ≡ counted whole → limit < 2 ^ 64 - 1 → nat_lt limit n ≡ nat_lt limit whole
past_limit limit n whole e small = grind (arith, nat_tests)

pub many_fields : (n whole : ℕ) → n ≡ counted whole → nat_lt MOST_FIELDS n ≡ nat_lt MOST_FIELDS whole
many_fields n whole e = past_limit MOST_FIELDS n whole e (omega arith)

pub many_nested : (n whole : ℕ) → n ≡ counted whole → nat_lt MOST_NESTED n ≡ nat_lt MOST_NESTED whole
many_nested n whole e = past_limit MOST_NESTED n whole e (omega arith)

pub two_joins : (n whole : ℕ) → n ≡ counted whole → nat_lt 1 n ≡ nat_lt 1 whole
two_joins n whole e = past_limit 1 n whole e (omega arith)

pub many_bytes : (n whole : ℕ) → n ≡ counted whole → nat_lt MOST_BYTES n ≡ nat_lt MOST_BYTES whole
many_bytes n whole e = past_limit MOST_BYTES n whole e (omega arith)

pub ruleset past = (many_fields, many_nested, two_joins, many_bytes, nat_tests)

pub size_more : (bs : Seq JsonValue) (v : JsonValue) → compact_size (bs ++ v ∷ []) ≡ compact_size bs + length (compact v)
size_more bs v =
    let whole = sum_by-append (λ body. length (compact body)) bs (v ∷ []) in
    let last = sum_by-cons (λ body. length (compact body)) v [] in
    omega (arith, whole, last)

pub none_kept : IsKept [] [] [] [] [] × AreCounts [] 0 0 0 0
unfolding drafts_of relations_of additions_of
none_kept = (
  kept_by_orders [] [] [] [] [] refl refl refl refl (omega arith) (omega arith),
  record { added_is = refl; nested_is = refl; joins_is = refl; bytes_is = refl },
)

-- ---- one more body

next_more : (before rest : Seq JsonValue) (v : JsonValue) → AreNext before rest → IsNext (before ++ rest) v → AreNext before (rest ++ v ∷ [])
next_more before [] v are is = (subst (λ (bs : Seq JsonValue). IsNext bs v) (append-nil before) is, tt)
next_more before (b ∷ rest) v are is =
    (are.0, next_more (before ++ b ∷ []) rest v are.1 (subst (λ (bs : Seq JsonValue). IsNext bs v) (sym (append_assoc before (b ∷ []) rest)) is))

pub bodies_more : (bs : Seq JsonValue) (v : JsonValue) → AreBodies bs → is_body v ≡ true → conflict_of bs v ≡ None → adds bs v ≡ true → exceeded (bs ++ v ∷ []) ≡ None → AreBodies (bs ++ v ∷ [])
bodies_more [] v are form agrees more limits = absurd (omega (arith, are.some))
bodies_more (b ∷ bs) v are form agrees more limits = record {
  some = omega arith;
  forms = list_all-append is_body (b ∷ bs) (v ∷ []) ∙ rw (are.forms, form) refl;
  next = next_more (b ∷ []) bs v are.next (record { agrees = agrees; adds_more = more });
  limits = limits;
}
