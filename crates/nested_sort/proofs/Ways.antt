-- A step down a chain.
use Rattle.std.specs.Prelude.{◌≡◌, ◌<◌, ◌≤◌, ◌-◌, ℕ, zero, suc, length, Bool, true, false, List, [], ◌∷◌, ◌++◌, map, get_or, take, drop, Option, Some, None, is_some, refl}
use Rattle.std.specs.List.{flat_map}
use Rattle.std.proofs.Common.{arith, ap, sym, ◌∙◌}
use Rattle.std.proofs.lemmas.Bool.{false≢true}
use Rattle.std.proofs.lemmas.List.{append-nil, take_all}
use Rattle.block_bits.specs.Blocks.{documents_of}
use Rattle.query_ast.specs.Clause.{Clause}
use Rattle.query_ast.specs.declared.sort.Chain.{Chain}
use Rattle.view_objects.specs.Hits.{start_before}
use Rattle.nested_sort.specs.Inside.{chain_docs, filters_left, first_found, later_filters, marked_from, marked_within, passing}

-- with a filter, and without one
pub passing_found : (at : ℕ) (scopes : List ℕ) (n : ℕ) (filter : Option Clause) (filters : List (List (List (Option ℕ)))) → is_some filter ≡ true → passing at scopes n filter filters ≡ map is_some (first_found at filters)
passing_found at scopes n None filters e = absurd (false≢true e)
passing_found at scopes n (Some c) filters e = refl

pub left_found : (filter : Option Clause) (filters : List (List (List (Option ℕ)))) → is_some filter ≡ true → filters_left filter filters ≡ later_filters filters
left_found None filters e = absurd (false≢true e)
left_found (Some c) filters e = refl

pub passing_all : (at : ℕ) (scopes : List ℕ) (n : ℕ) (filter : Option Clause) (filters : List (List (List (Option ℕ)))) → is_some filter ≡ false → passing at scopes n filter filters ≡ documents_of scopes n
passing_all at scopes n None filters e = refl
passing_all at scopes n (Some c) filters e = absurd (false≢true (sym e))

pub left_all : (filter : Option Clause) (filters : List (List (List (Option ℕ)))) → is_some filter ≡ false → filters_left filter filters ≡ filters
left_all None filters e = refl
left_all (Some c) filters e = absurd (false≢true (sym e))

-- ---- no document

none_marked : (at : ℕ) (flags : List Bool) → ((k : ℕ) → get_or flags k false ≡ false) → marked_from at flags ≡ []
none_marked at [] none = refl
none_marked at (true ∷ flags) none = absurd (false≢true (sym (none 0)))
none_marked at (false ∷ flags) none = none_marked (suc at) flags (λ k. none (suc k))

none_dropped : (start : ℕ) (flags : List Bool) → ((k : ℕ) → get_or flags k false ≡ false) → (k : ℕ) → get_or (drop start flags) k false ≡ false
none_dropped zero flags none k = none k
none_dropped (suc start) [] none k = refl
none_dropped (suc start) (flag ∷ flags) none k = none_dropped start flags (λ j. none (suc j)) k

none_taken : (end : ℕ) (flags : List Bool) → ((k : ℕ) → get_or flags k false ≡ false) → (k : ℕ) → get_or (take end flags) k false ≡ false
none_taken zero flags none k = refl
none_taken (suc end) [] none k = refl
none_taken (suc end) (flag ∷ flags) none zero = none 0
none_taken (suc end) (flag ∷ flags) none (suc k) = none_taken end flags (λ j. none (suc j)) k

pub none_within : (start end : ℕ) (flags : List Bool) → ((k : ℕ) → get_or flags k false ≡ false) → marked_within start end flags ≡ []
none_within start end flags none = none_marked start (drop start (take end flags)) (none_dropped start (take end flags) (none_taken end flags none))

-- values are added for no document
pub nothing_found : {T : Type 0} (h : ℕ → List T) (values : List T) (docs : List ℕ) → docs ≡ [] → values ≡ values ++ flat_map h docs
nothing_found h values docs none = sym (append-nil values) ∙ ap (λ ds. values ++ flat_map h ds) (sym none)

-- ---- the first step

first_step : (at : ℕ) (scopes : List ℕ) (step : Chain) (chain : List Chain) (filters : List (List (List (Option ℕ)))) (n doc : ℕ) → 1 ≤ length chain → step ≡ get_or chain 0 step
    → flat_map (chain_docs at scopes (take (length chain - 1) (drop 1 chain)) (filters_left step.filter filters) step.scope) (marked_within (start_before n doc scopes) doc (passing at scopes step.scope step.filter filters)) ≡ chain_docs at scopes chain filters n doc
first_step at scopes step [] filters n doc some is = absurd (omega (arith, some))
first_step at scopes step (first ∷ chain) filters n doc some is =
    let rest : take (length (first ∷ chain) - 1) chain ≡ chain = take_all (length (first ∷ chain) - 1) chain (omega arith) in
    ap (λ (c : List Chain). flat_map (chain_docs at scopes c (filters_left step.filter filters) step.scope) (marked_within (start_before n doc scopes) doc (passing at scopes step.scope step.filter filters))) rest
    ∙ ap (λ (s : Chain). flat_map (chain_docs at scopes chain (filters_left s.filter filters) s.scope) (marked_within (start_before n doc scopes) doc (passing at scopes s.scope s.filter filters))) is

pub first_taken : (at : ℕ) (scopes : List ℕ) (step : Chain) (chain : List Chain) (filters left : List (List (List (Option ℕ)))) (n doc start : ℕ) (flags : List Bool) → 1 ≤ length chain → step ≡ get_or chain 0 step
    → start ≡ start_before n doc scopes → left ≡ filters_left step.filter filters → flags ≡ passing at scopes step.scope step.filter filters
    → flat_map (chain_docs at scopes (take (length chain - 1) (drop 1 chain)) left step.scope) (marked_within start doc flags) ≡ chain_docs at scopes chain filters n doc
first_taken at scopes step chain filters left n doc start flags some is begins goes passes = rw (begins, goes, passes) (first_step at scopes step chain filters n doc some is)

pub first_none : {T : Type 0} (h : ℕ → List T) (values : List T) (at : ℕ) (scopes : List ℕ) (step : Chain) (chain : List Chain) (filters : List (List (List (Option ℕ)))) (n doc : ℕ) → 1 ≤ length chain → step ≡ get_or chain 0 step
    → ((k : ℕ) → get_or (passing at scopes step.scope step.filter filters) k false ≡ false) → values ≡ values ++ flat_map h (chain_docs at scopes chain filters n doc)
first_none h values at scopes step chain filters n doc some is none =
    nothing_found h values (chain_docs at scopes chain filters n doc)
    (sym (first_step at scopes step chain filters n doc some is)
    ∙ ap (flat_map (chain_docs at scopes (take (length chain - 1) (drop 1 chain)) (filters_left step.filter filters) step.scope)) (none_within (start_before n doc scopes) doc (passing at scopes step.scope step.filter filters) none))

-- ---- a single one

only_docs : (at : ℕ) (scopes : List ℕ) (filters : List (List (List (Option ℕ)))) (n : ℕ) (docs : List ℕ) → flat_map (chain_docs at scopes [] filters n) docs ≡ docs
only_docs at scopes filters n [] = refl
only_docs at scopes filters n (d ∷ docs) = ap (λ ds. d ∷ ds) (only_docs at scopes filters n docs)

pub single : (chain : List Chain) (step : Chain) → 1 ≤ length chain → length chain < 2 → step ≡ get_or chain 0 step → chain ≡ step ∷ []
single [] step some few is = absurd (omega (arith, some))
single (first ∷ []) step some few is = ap (λ (s : Chain). s ∷ []) (sym is)
single (first ∷ second ∷ chain) step some few is = absurd (omega (arith, few))

pub one_step : (at : ℕ) (scopes : List ℕ) (step : Chain) (chain : List Chain) (filters : List (List (List (Option ℕ)))) (n doc : ℕ) → chain ≡ step ∷ []
    → marked_within (start_before n doc scopes) doc (passing at scopes step.scope step.filter filters) ≡ chain_docs at scopes chain filters n doc
one_step at scopes step chain filters n doc is =
    sym (ap (λ c. chain_docs at scopes c filters n doc) is ∙ only_docs at scopes (filters_left step.filter filters) step.scope (marked_within (start_before n doc scopes) doc (passing at scopes step.scope step.filter filters)))

pub ruleset ways = (passing_found, left_found, passing_all, left_all)
