-- Scores that are told from hit to hit, each to the key of the root at its document.
use Rattle.std.proofs.Common.{◌≡◌, ℕ, zero, suc, ◌+◌, ◌-◌, ◌<◌, ◌≤◌, Bool, true, false, cond, List, [], ◌∷◌, ◌++◌, length, take, drop, get_or, slice_get, Option, Some, None, nat_eq, refl, sym, ap, ◌∙◌, arith, length-drop}
use Rattle.std.specs.List.{count_by}
use Rattle.std.specs.Option.{is_some}
use Rattle.std.proofs.lemmas.List.{get_or_append_left}
use Rattle.std.proofs.lemmas.List.Sums.{sum_by-cons}
use Rattle.block_bits.specs.Flags.{is_marked}
use Rattle.block_bits.specs.Places.{AllFail, IsFirst}
use Rattle.block_bits.specs.Blocks.{documents_of}
use Rattle.join_ordinals.specs.Ordinals.{Ordinals}
use Rattle.mapping.specs.Mapping.{Mapping}
use Rattle.segment.specs.Agree.{AreColumns}
use Rattle.segment.specs.Flat.{flat_of}
use Rattle.segment.specs.Live.{root_of}
use Rattle.segment.specs.Roots.{root_documents}
use Rattle.segment_parts.specs.Parts.{root_flags}
use Rattle.segment_parts.specs.Text.{marked_places}
use Rattle.segment_parts.specs.declared.columns.Columns.{Columns}
use Rattle.query_eval.specs.Folds.{scopes_in}
use Rattle.query_eval.specs.Sides.{at_roots, key_at, keys_at, of_roots, pair_if, told}
use Rattle.query_eval.specs.declared.side.Side.{Side}
use Rattle.query_eval.proofs.Entries.{Scores, nil_append}
use Rattle.query_eval.proofs.Scopes.{set_is}
use Rattle.query_eval.proofs.Telling.{key_here, pair_nothing, told_cut, told_next}
use Rattle.query_eval.proofs.Walking.{get_drop, place_counted}

-- ---- keys of documents

-- the roots' scores by the roots' keys are the documents' scores by the keys of the roots at them
pub told_roots : (flags : List Bool) (keys scores : Scores) → told keys (of_roots flags scores) ≡ told (at_roots flags keys) scores
told_roots [] [] scores = refl
told_roots [] (k ∷ keys) scores = refl
told_roots (true ∷ flags) [] [] = refl
told_roots (true ∷ flags) (k ∷ keys) [] = refl
told_roots (true ∷ flags) [] (s ∷ scores) = nothing (of_roots flags scores) ∙ told_roots flags [] scores
  where
    nothing : (scores : Scores) → [] ≡ told [] scores
    nothing scores = refl
told_roots (true ∷ flags) (k ∷ keys) (s ∷ scores) = ap (λ (l : List (ℕ × ℕ)). pair_if k s ++ l) (told_roots flags keys scores)
told_roots (false ∷ flags) [] [] = refl
told_roots (false ∷ flags) (k ∷ keys) [] = refl
told_roots (false ∷ flags) keys (s ∷ scores) = told_roots flags keys scores

pub key_at_root : (flags : List Bool) (keys : Scores) (doc : ℕ) → get_or flags doc false ≡ true → get_or (at_roots flags keys) doc None ≡ get_or keys (count_by is_marked (take doc flags)) None
key_at_root [] keys doc is = absurd (let no : ⊥ = cc in no)
key_at_root (true ∷ flags) [] zero is = refl
key_at_root (true ∷ flags) (k ∷ keys) zero is = refl
key_at_root (true ∷ flags) [] (suc doc) is = key_at_root flags [] doc is
key_at_root (true ∷ flags) (k ∷ keys) (suc doc) is =
    let more : count_by is_marked (take (suc doc) (true ∷ flags)) ≡ 1 + count_by is_marked (take doc flags) = sum_by-cons (λ (b : Bool). cond (is_marked b) 1 0) true (take doc flags) in
    let next : suc (count_by is_marked (take doc flags)) ≡ count_by is_marked (take (suc doc) (true ∷ flags)) = omega (arith, more) in
    key_at_root flags keys doc is ∙ ap (λ n. get_or (k ∷ keys) n None) next
key_at_root (false ∷ flags) keys zero is = absurd (let no : ⊥ = cc in no)
key_at_root (false ∷ flags) keys (suc doc) is =
    let more : count_by is_marked (take (suc doc) (false ∷ flags)) ≡ 0 + count_by is_marked (take doc flags) = sum_by-cons (λ (b : Bool). cond (is_marked b) 1 0) false (take doc flags) in
    let same : count_by is_marked (take doc flags) ≡ count_by is_marked (take (suc doc) (false ∷ flags)) = omega (arith, more) in
    key_at_root flags keys doc is ∙ ap (λ n. get_or keys n None) same

pub no_key : (flags : List Bool) (keys : Scores) (doc : ℕ) → get_or flags doc false ≡ false → get_or (at_roots flags keys) doc None ≡ None
no_key [] keys doc is = refl
no_key (true ∷ flags) keys zero is = absurd (let no : ⊥ = cc in no)
no_key (true ∷ flags) [] (suc doc) is = no_key flags [] doc is
no_key (true ∷ flags) (k ∷ keys) (suc doc) is = no_key flags keys doc is
no_key (false ∷ flags) keys zero is = refl
no_key (false ∷ flags) keys (suc doc) is = no_key flags keys doc is

-- ---- from hit to hit

pub told_start : (keys scores : Scores) → told (take 0 keys) (take 0 scores) ≡ []
told_start [] scores = refl
told_start (k ∷ keys) scores = refl

none_some : (score : Option ℕ) → is_some score ≡ false → score ≡ None
none_some None is = refl
none_some (Some s) is = cc

-- documents without a score tell nothing
told_gap : (keys scores : Scores) (from n : ℕ) → from + n ≤ length scores → ((k : ℕ) → k < n → get_or scores (from + k) None ≡ None) → told (take (from + n) keys) (take (from + n) scores) ≡ told (take from keys) (take from scores)
told_gap keys scores from zero inside none = let same : from + 0 ≡ from = omega arith in rw same refl
told_gap keys scores from (suc n) inside none =
    let next : from + suc n ≡ from + n + 1 = omega arith in
    let before = told (take (from + n) keys) (take (from + n) scores) in
    ap (λ k. told (take k keys) (take k scores)) next
    ∙ told_next keys scores (from + n) None (omega (arith, inside))
    ∙ ap (λ (l : List (ℕ × ℕ)). before ++ l) (ap (pair_if (get_or keys (from + n) None)) (none n (omega arith)) ∙ pair_nothing (get_or keys (from + n) None))
    ∙ nil_append before
    ∙ told_gap keys scores from n (omega (arith, inside)) (λ k below. none k (omega (arith, below)))

pub told_hit : (keys scores : Scores) (from doc : ℕ) (key score : Option ℕ) → IsFirst is_some from (drop from scores) doc → doc < length scores → key ≡ get_or keys doc None → score ≡ get_or scores doc None
    → told (take (doc + 1) keys) (take (doc + 1) scores) ≡ told (take from keys) (take from scores) ++ pair_if key score
told_hit keys scores from doc key score first below own_key own_score =
    let n = length first.before in
    let none : (k : ℕ) → k < n → get_or scores (from + k) None ≡ None = λ k inside.
    none_some (get_or scores (from + k) None)
    (ap is_some
    (sym (get_drop scores from k)
    ∙ ap (λ (l : Scores). get_or l k None) first.split
    ∙ get_or_append_left first.before (first.own ∷ first.after) None k inside)
    ∙ first.fail k None inside) in
    let gap : told (take doc keys) (take doc scores) ≡ told (take from keys) (take from scores) =
    ap (λ k. told (take k keys) (take k scores)) first.place ∙ told_gap keys scores from n (omega (arith, first.place, below)) none in
    told_next keys scores doc None below
    ∙ ap (λ (l : List (ℕ × ℕ)). l ++ pair_if (get_or keys doc None) (get_or scores doc None)) gap
    ∙ ap (λ (x : Option ℕ). told (take from keys) (take from scores) ++ pair_if x (get_or scores doc None)) (sym own_key)
    ∙ ap (λ (x : Option ℕ). told (take from keys) (take from scores) ++ pair_if key x) (sym own_score)

pub told_all : (keys scores : Scores) (from : ℕ) → from ≤ length scores → AllFail is_some (drop from scores) → told (take from keys) (take from scores) ≡ told keys scores
told_all keys scores from inside fail =
    let n = length scores - from in
    let end : from + n ≡ length scores = omega (arith, inside) in
    let none : (k : ℕ) → k < n → get_or scores (from + k) None ≡ None = λ k below.
    none_some (get_or scores (from + k) None)
    (ap is_some (sym (get_drop scores from k)) ∙ fail k None (omega (arith, below, length-drop from scores))) in
    sym (told_gap keys scores from n (omega (arith, end)) none)
    ∙ ap (λ k. told (take k keys) (take k scores)) end
    ∙ told_cut keys scores (length scores) (omega arith)

-- ---- the root at a document

pub root_set : (c : Columns) → AreColumns c → ((scope doc : ℕ) → scope < length c.scopes → doc < c.documents → get_or (get_or c.scopes scope []) doc false ≡ nat_eq (flat_of c doc).scope scope)
    → root_flags c.scopes ≡ documents_of (scopes_in c) 0
root_set c agree law =
    let some : 0 < length c.scopes = omega (arith, agree.parts.head.some) in
    set_is c 0 (get_or c.scopes 0 []) (agree.parts.head.long 0 [] some) (λ doc below. law 0 doc some below)

pub root_places : (c : Columns) → AreColumns c → ((scope doc : ℕ) → scope < length c.scopes → doc < c.documents → get_or (get_or c.scopes scope []) doc false ≡ nat_eq (flat_of c doc).scope scope)
    → root_documents c.scopes ≡ marked_places 0 (documents_of (scopes_in c) 0)
unfolding root_documents
root_places c agree law = ap (marked_places 0) (root_set c agree law)

pub root_ranked : (scopes : List (List Bool)) (root doc : ℕ) → slice_get (root_documents scopes) root ≡ Some doc → root ≡ root_of (root_flags scopes) doc
unfolding root_documents
root_ranked scopes root doc is =
    let all : doc - 0 ≡ doc = omega arith in
    place_counted 0 (root_flags scopes) root doc is ∙ ap (root_of (root_flags scopes)) all

pub key_found : (m : Mapping) (ordinals : Ordinals) (side : Side) (c : Columns) (place : ℕ) (flags : List Bool) (doc root : ℕ) (key : Option ℕ) → flags ≡ documents_of (scopes_in c) 0 → root_flags c.scopes ≡ documents_of (scopes_in c) 0
    → get_or flags doc false ≡ true → root ≡ root_of (root_flags c.scopes) doc → root < length c.roots → key ≡ key_at m ordinals side c place root → key ≡ get_or (at_roots flags (keys_at m ordinals side c place)) doc None
key_found m ordinals side c place flags doc root key own all on rank below is =
    let keys = keys_at m ordinals side c place in
    let same : root ≡ root_of flags doc = rank ∙ ap (λ (l : List Bool). root_of l doc) (all ∙ sym own) in
    is
    ∙ sym (key_here m ordinals side c place root below)
    ∙ ap (λ n. get_or keys n None) same
    ∙ sym (key_at_root flags keys doc on)
