-- Bodies that exceed no limit: each of their measures.
use Rattle.std.proofs.Common.{◌≡◌, ℕ, ◌+◌, ◌≤◌, List as Seq, [], ◌∷◌, length, arith, refl, Bool, true, false, if◌then◌else◌, nat_lt, count_by, Option, Some, None}
use Rattle.std.proofs.lemmas.Bool.Decides.{nat_tests}
use Rattle.std.specs.List.{list_any}
use Rattle.tree_json.specs.Value.{JsonValue}
use Rattle.mapping_body.specs.declared.refusal.Limit.{Limit}
use Rattle.mapping_body.specs.declared.refusal.Limit.TheVariants.{Fields, Depth, Nested, Relations, Generations, Size}
use Rattle.mapping_body.specs.declared.refusal.TheConstants.{MOST_FIELDS, MOST_NESTED, MOST_BODIES, MOST_BYTES}
use Rattle.mapping_growth.specs.Bodies.{compact_size, exceeded, has_bad_joins, has_bad_relations, is_bad_join, is_deep, says_join, says_nested}
use Rattle.mapping_growth.specs.Fields.{additions_of, drafts_of}
use Rattle.mapping_body.specs.Pairs.{has_two_parents, pairs_of}
use Rattle.mapping_growth.specs.Relations.{relations_of, turns_back}
use Rattle.mapping_body.proofs.Booleans.{neither}

pub record Fit (bs : Seq JsonValue) : Type 0 where
  pub fields : length (additions_of bs) ≤ MOST_FIELDS
  pub shallow : list_any is_deep (additions_of bs) ≡ false
  pub nested : count_by says_nested (additions_of bs) ≤ MOST_NESTED
  pub joins : count_by says_join (additions_of bs) ≤ 1
  pub good_joins : list_any is_bad_join (additions_of bs) ≡ false
  pub one_parent : list_any (λ body. has_two_parents (pairs_of body)) bs ≡ false
  pub founded : turns_back (relations_of bs) ≡ false
  pub bodies : length bs ≤ MOST_BODIES
  pub bytes : compact_size bs ≤ MOST_BYTES

passed : (t : Bool) (l : Limit) (rest : Option Limit) → (if t then Some l else rest) ≡ None → (t ≡ false) × (rest ≡ None)
passed true l rest h = cc
passed false l rest h = (refl, h)

at_most : (n most : ℕ) → nat_lt most n ≡ false → n ≤ most
at_most n most h = grind (arith, nat_tests)

pub fit : (bs : Seq JsonValue) → exceeded bs ≡ None → Fit bs
unfolding exceeded
fit bs none =
    let fields = passed (nat_lt MOST_FIELDS (length (additions_of bs))) Fields _ none in
    let depth = passed (list_any is_deep (additions_of bs)) Depth _ fields.1 in
    let nested = passed (nat_lt MOST_NESTED (count_by says_nested (additions_of bs))) Nested _ depth.1 in
    let relations = passed (has_bad_relations bs) Relations _ nested.1 in
    let generations = passed (nat_lt MOST_BODIES (length bs)) Generations _ relations.1 in
    let size = passed (nat_lt MOST_BYTES (compact_size bs)) Size None generations.1 in
    let joins = neither (has_bad_joins bs) _ relations.0 in
    let join = neither (nat_lt 1 (count_by says_join (additions_of bs))) _ joins.0 in
    let names = neither (list_any (λ body. has_two_parents (pairs_of body)) bs) _ joins.1 in
    record {
      fields = at_most (length (additions_of bs)) MOST_FIELDS fields.0;
      shallow = depth.0;
      nested = at_most (count_by says_nested (additions_of bs)) MOST_NESTED nested.0;
      joins = at_most (count_by says_join (additions_of bs)) 1 join.0;
      good_joins = join.1;
      one_parent = names.0;
      founded = names.1;
      bodies = at_most (length bs) MOST_BODIES generations.0;
      bytes = at_most (compact_size bs) MOST_BYTES size.0;
    }

pub none_exceed : exceeded [] ≡ None
unfolding exceeded additions_of drafts_of relations_of
none_exceed = refl
