-- Joins by the sets of the upper and the lower documents, whatever the scopes are of which these are the documents.
use Rattle.std.proofs.Common.{◌≡◌, ◌≢◌, ℕ, ◌+◌, ◌-◌, ◌<◌, ◌≤◌, Bool, true, false, List, [], ◌∷◌, ◌++◌, length, take, drop, get_or, map, Option, Some, None, sym, ap, subst, ◌∙◌, inl, inr, arith, get_or-drop}
use Rattle.std.specs.List.{zip}
use Rattle.std.specs.Option.{option_to_list}
use Rattle.std.proofs.lemmas.Bool.{cases_lt, true≢false}
use Rattle.block_bits.specs.Blocks.{documents_of}
use Rattle.score_math.specs.declared.score.ScoreMode.{ScoreMode}
use Rattle.score_math.specs.Scores.{mode_of}
use Rattle.block_join.specs.Joins.{joined, spread}
use Rattle.block_join.specs.Kept.{next_parent, IsStart}
use Rattle.block_join.specs.Scores.{between, padded, filled}
use Rattle.block_join.proofs.Joining.{Joining, hit_at, joining_starts, joining_more, joining_ends}
use Rattle.block_join.proofs.Spreading.{Spreading, spreading_starts, spreading_hit, spreading_none, spreading_ends, first_holds, reached, length_flags}

scopes_long : (flags : List Bool) (scopes : List ℕ) (to : ℕ) (scores : List (Option ℕ)) → flags ≡ documents_of scopes to → length scores ≡ length flags → length scopes ≡ length scores
scopes_long flags scopes to scores is long = omega (arith, long, ap length is, length_flags to scopes)

-- ---- up

pub record JoiningSets (mode : ScoreMode) (flags : List Bool) (scores done : List (Option ℕ)) (from : ℕ) : Type 0 where
  pub goes : (scopes : List ℕ) (to : ℕ) → flags ≡ documents_of scopes to → Joining mode to scopes scores done from
  pub behind : length done ≤ from

pub joining_sets_start : (mode : ScoreMode) (flags : List Bool) (scores : List (Option ℕ)) → JoiningSets mode flags scores [] 0
joining_sets_start mode flags scores = record { goes = λ scopes to is. joining_starts mode to scopes scores; behind = omega arith }

pub joining_sets_more : (mode : ScoreMode) (flags : List Bool) (scores done new : List (Option ℕ)) (from parent : ℕ) (score : Option ℕ) → JoiningSets mode flags scores done from
    → length scores ≡ length flags → next_parent flags from scores ≡ Some parent → score ≡ mode_of mode (between scores from parent)
    → padded (parent + 1) new ≡ padded parent done ++ (score ∷ []) → length new ≤ parent + 1 → JoiningSets mode flags scores new (parent + 1)
joining_sets_more mode flags scores done new from parent score it long e is put behind = record {
  goes = λ scopes to same.
      joining_more mode to scopes scores done new from parent score (it.goes scopes to same) (scopes_long flags scopes to scores same long)
      (subst (λ (fs : List Bool). next_parent fs from scores ≡ Some parent) same e) is put behind;
  behind = behind;
}

pub joining_sets_end : (mode : ScoreMode) (flags : List Bool) (scores done : List (Option ℕ)) (from : ℕ) → JoiningSets mode flags scores done from
    → length scores ≡ length flags → next_parent flags from scores ≡ None → (scopes : List ℕ) (to : ℕ) → flags ≡ documents_of scopes to
    → padded (length scores) done ≡ joined (mode_of mode) None to [] (zip scopes (map option_to_list scores))
joining_sets_end mode flags scores done from it long e scopes to same =
    joining_ends mode to scopes scores done from (it.goes scopes to same) (scopes_long flags scopes to scores same long)
    (subst (λ (fs : List Bool). next_parent fs from scores ≡ None) same e)

-- a parent that was found is in its set
pub parent_is_in : (flags : List Bool) (from : ℕ) (scores : List (Option ℕ)) (parent : ℕ) → next_parent flags from scores ≡ Some parent → get_or flags parent false ≡ true
parent_is_in flags from scores parent e =
    let hit = hit_at flags from scores parent e in
    let doc = from + hit.quiet in
    ap (λ n. get_or flags n false) hit.place ∙ sym (get_or-drop doc flags hit.more false) ∙ first_holds hit.more (drop doc flags) hit.first

-- ---- down

pub record SpreadingSets (flags inner : List Bool) (scores done : List (Option ℕ)) (from : ℕ) : Type 0 where
  pub goes : (scopes : List ℕ) (above below : ℕ) → above ≢ below → flags ≡ documents_of scopes above → inner ≡ documents_of scopes below → Spreading above below scopes scores done from
  pub behind : length done ≤ from
  pub edge : 0 < from → get_or flags (from - 1) false ≡ true

pub spreading_sets_start : (flags inner : List Bool) (scores : List (Option ℕ)) → SpreadingSets flags inner scores [] 0
spreading_sets_start flags inner scores = record {
  goes = λ scopes above below apart is own. spreading_starts above below scopes scores;
  behind = omega arith;
  edge = λ some. absurd (omega (arith, some));
}

-- behind a parent the documents inside the next one begin
pub start_later : (flags inner : List Bool) (scores done : List (Option ℕ)) (from parent start : ℕ) → SpreadingSets flags inner scores done from → from ≤ parent → IsStart flags parent start → from ≤ start
start_later flags inner scores done from parent start it low begins = elim (cases_lt start from) [
  | inl below ↦ absurd (true≢false (sym (it.edge (omega (arith, below))) ∙ begins.free (from - 1) (omega (arith, below)) (omega (arith, below, low))))
  | inr on ↦ on
]

at_behind : (parent : ℕ) (flags : List Bool) → get_or flags parent false ≡ true → 0 < parent + 1 → get_or flags (parent + 1 - 1) false ≡ true
at_behind parent flags own some = let same : parent + 1 - 1 ≡ parent = omega arith in rw same own

pub spreading_sets_hit : (flags inner : List Bool) (scores done new : List (Option ℕ)) (from parent start score : ℕ) (rest : List ℕ) → SpreadingSets flags inner scores done from
    → length scores ≡ length flags → next_parent flags from scores ≡ Some parent → IsStart flags parent start → get_or flags parent false ≡ true → between scores parent (parent + 1) ≡ score ∷ rest
    → padded parent new ≡ padded start done ++ filled (Some score) (drop start (take parent inner)) → length new ≤ parent → SpreadingSets flags inner scores new (parent + 1)
spreading_sets_hit flags inner scores done new from parent start score rest it long e begins own read given behind = record {
  goes = λ scopes above below apart is has.
      let same_long = scopes_long flags scopes above scores is long in
      spreading_hit above below apart scopes scores done new from parent start score rest (it.goes scopes above below apart is has) same_long
      (reached above below scopes scores done from parent start (it.goes scopes above below apart is has) same_long
      (subst (λ (fs : List Bool). next_parent fs from scores ≡ Some parent) is e) (subst (λ (fs : List Bool). IsStart fs parent start) is begins))
      read (given ∙ ap (λ (fs : List Bool). padded start done ++ filled (Some score) (drop start (take parent fs))) has) behind;
  behind = omega (arith, behind);
  edge = at_behind parent flags own;
}

pub spreading_sets_none : (flags inner : List Bool) (scores done : List (Option ℕ)) (from parent start : ℕ) → SpreadingSets flags inner scores done from
    → length scores ≡ length flags → next_parent flags from scores ≡ Some parent → IsStart flags parent start → get_or flags parent false ≡ true → from ≤ parent → between scores parent (parent + 1) ≡ []
    → SpreadingSets flags inner scores done (parent + 1)
spreading_sets_none flags inner scores done from parent start it long e begins own low read = record {
  goes = λ scopes above below apart is has.
      let same_long = scopes_long flags scopes above scores is long in
      spreading_none above below apart scopes scores done from parent start (it.goes scopes above below apart is has) same_long
      (reached above below scopes scores done from parent start (it.goes scopes above below apart is has) same_long
      (subst (λ (fs : List Bool). next_parent fs from scores ≡ Some parent) is e) (subst (λ (fs : List Bool). IsStart fs parent start) is begins))
      read;
  behind = omega (arith, it.behind, low);
  edge = at_behind parent flags own;
}

pub spreading_sets_end : (flags inner : List Bool) (scores done : List (Option ℕ)) (from : ℕ) → SpreadingSets flags inner scores done from
    → length scores ≡ length flags → next_parent flags from scores ≡ None → (scopes : List ℕ) (above below : ℕ) → above ≢ below → flags ≡ documents_of scopes above → inner ≡ documents_of scopes below
    → padded (length scores) done ≡ spread above below (zip scopes scores)
spreading_sets_end flags inner scores done from it long e scopes above below apart is has =
    spreading_ends above below apart scopes scores done from (it.goes scopes above below apart is has) (scopes_long flags scopes above scores is long)
    (subst (λ (fs : List Bool). next_parent fs from scores ≡ None) is e)
