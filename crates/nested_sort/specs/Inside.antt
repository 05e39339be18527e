-- Serves proofs: the documents that a chain of scopes leads to from a document.
use Rattle.std.specs.Prelude.{◌≡◌, ℕ, suc, ◌<◌, Bool, true, false, List, [], ◌∷◌, take, drop, length, map, get_or, Option, Some, None, is_some}
use Rattle.std.specs.List.{flat_map, AllByRecursion}
use Rattle.block_bits.specs.Blocks.{documents_of}
use Rattle.query_ast.specs.Clause.{Clause}
use Rattle.query_ast.specs.declared.sort.Chain.{Chain}
use Rattle.view_objects.specs.Hits.{start_before}

-- the documents of a set, numbered from `at`
abbrev pub marked_from : ℕ → List Bool → List ℕ
marked_from at [] = []
marked_from at (true ∷ flags) = at ∷ marked_from (suc at) flags
marked_from at (false ∷ flags) = marked_from (suc at) flags

-- those from `start` up to `end`
abbrev pub marked_within : ℕ → ℕ → List Bool → List ℕ
marked_within start end flags = marked_from start (drop start (take end flags))

-- ---- what filters find, in the order in which a chain asks for them

-- what the first of them finds in the entry at a place
abbrev pub first_found : ℕ → List (List (List (Option ℕ))) → List (Option ℕ)
first_found at [] = []
first_found at (scores ∷ filters) = get_or scores at []

abbrev pub later_filters : List (List (List (Option ℕ))) → List (List (List (Option ℕ)))
later_filters [] = []
later_filters (scores ∷ filters) = filters

-- those that are left behind a step
abbrev pub filters_left : Option Clause → List (List (List (Option ℕ))) → List (List (List (Option ℕ)))
filters_left None filters = filters
filters_left (Some c) filters = later_filters filters

abbrev pub behind_chain : List Chain → List (List (List (Option ℕ))) → List (List (List (Option ℕ)))
behind_chain [] filters = filters
behind_chain (step ∷ chain) filters = behind_chain chain (filters_left step.filter filters)

-- the scores of each are of as many entries and documents
pub record IsAt (at count : ℕ) (scores : List (List (Option ℕ))) : Type 0 where
  pub there : at < length scores
  pub long : length (get_or scores at []) ≡ count

abbrev pub AreAt : ℕ → ℕ → List (List (List (Option ℕ))) → Type 0
AreAt at count filters = AllByRecursion (IsAt at count) filters

-- ---- down the chain

-- the documents that a step may lead to
abbrev pub passing : ℕ → List ℕ → ℕ → Option Clause → List (List (List (Option ℕ))) → List Bool
passing at scopes n None filters = documents_of scopes n
passing at scopes n (Some c) filters = map is_some (first_found at filters)

-- in the entry at a place, whose documents have these scopes, from a document of scope n
abbrev pub chain_docs : ℕ → List ℕ → List Chain → List (List (List (Option ℕ))) → ℕ → ℕ → List ℕ
chain_docs at scopes [] filters n doc = doc ∷ []
chain_docs at scopes (step ∷ chain) filters n doc =
    flat_map (chain_docs at scopes chain (filters_left step.filter filters) step.scope)
    (marked_within (start_before n doc scopes) doc (passing at scopes step.scope step.filter filters))
