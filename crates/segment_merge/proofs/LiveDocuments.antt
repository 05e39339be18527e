-- The documents of live blocks are the documents that are live, and so are their roots.
use Rattle.std.proofs.Common.{◌≡◌, ℕ, Bool, true, false, List, [], ◌∷◌, ◌++◌, length, map, filter, replicate, refl, sym, ap, ◌∙◌, append_assoc, arith}
use Rattle.std.specs.List.{AllByRecursion, flat_map}
use Rattle.std.proofs.lemmas.List.{length-append, length-map, map-append}
use Rattle.std.proofs.lemmas.List.Concat.{length-flat_map}
use Rattle.std.proofs.lemmas.List.Sums.{sum_by-cons}
use Rattle.flattener.specs.Block.{BlockState}
use Rattle.layout.specs.Layout.{Marked, is_live, item_in}
use Rattle.segment.specs.Flat.{FlatDocument, FlatRoot, flat_root, flats_of, roots_of}
use Rattle.segment.specs.Live.{EntryState}
use Rattle.segment_builder.specs.Blocks.{blocks_of, blocks_in, live_blocks, marked_by, objects_of}
use Rattle.segment_builder.specs.Entries.{flats_in}
use Rattle.segment_merge.specs.Merged.{live_count, live_count_of, live_roots, live_roots_in, live_scopes, where_marked}
use Rattle.segment_merge.proofs.Renumbered.{where_map}

-- the documents that are live
abbrev pub live_flats : EntryState → List FlatDocument
live_flats entry = where_marked entry.live.docs (flats_of entry.columns)

-- a flag for each document of marked blocks
abbrev pub marks_of_blocks : List (Marked BlockState) → List Bool
marks_of_blocks blocks = flat_map (λ (block : Marked BlockState). replicate (length block.item.flats) block.live) blocks

abbrev pub scope_in : FlatDocument → ℕ
scope_in flat = flat.scope

abbrev pub root_in : BlockState → FlatRoot
root_in block = block.root

-- ---- of one entry

where_live : (flats rest : List FlatDocument) (flags : List Bool) → where_marked (replicate (length flats) true ++ flags) (flats ++ rest) ≡ flats ++ where_marked flags rest
where_live [] rest flags = refl
where_live (flat ∷ flats) rest flags = ap (λ more. flat ∷ more) (where_live flats rest flags)

where_dead : (flats rest : List FlatDocument) (flags : List Bool) → where_marked (replicate (length flats) false ++ flags) (flats ++ rest) ≡ where_marked flags rest
where_dead [] rest flags = refl
where_dead (flat ∷ flats) rest flags = where_dead flats rest flags

where_none : {X : Type 0} (flags : List Bool) → where_marked {X = X} flags [] ≡ []
where_none [] = refl
where_none (flag ∷ flags) = refl

live_in_blocks : (blocks : List BlockState) (marks : List Bool) → flats_in (map item_in (filter is_live (marked_by blocks marks))) ≡ where_marked (marks_of_blocks (marked_by blocks marks)) (flats_in blocks)
live_in_blocks [] marks = refl
live_in_blocks (block ∷ blocks) [] = refl
live_in_blocks (block ∷ blocks) (true ∷ marks) =
    ap (λ rest. block.flats ++ rest) (live_in_blocks blocks marks) ∙ sym (where_live block.flats (flats_in blocks) (marks_of_blocks (marked_by blocks marks)))
live_in_blocks (block ∷ blocks) (false ∷ marks) =
    live_in_blocks blocks marks ∙ sym (where_dead block.flats (flats_in blocks) (marks_of_blocks (marked_by blocks marks)))

roots_in_blocks : (blocks : List BlockState) (marks : List Bool) → map root_in (map item_in (filter is_live (marked_by blocks marks))) ≡ where_marked marks (map root_in blocks)
roots_in_blocks [] marks = sym (where_none marks)
roots_in_blocks (block ∷ blocks) [] = refl
roots_in_blocks (block ∷ blocks) (true ∷ marks) = ap (λ rest. block.root ∷ rest) (roots_in_blocks blocks marks)
roots_in_blocks (block ∷ blocks) (false ∷ marks) = roots_in_blocks blocks marks

-- what is known of an entry whose segment fits a mapping
pub record IsWhole (entry : EntryState) : Type 0 where
  pub marks : entry.live.docs ≡ marks_of_blocks (blocks_in entry)
  pub flats : flats_in (blocks_of entry.columns) ≡ flats_of entry.columns
  pub roots : map root_in (blocks_of entry.columns) ≡ roots_of entry.columns
  pub count : length (live_flats entry) ≡ live_count entry

live_documents : (entry : EntryState) → IsWhole entry → flats_in (live_blocks entry) ≡ live_flats entry
live_documents entry whole =
    live_in_blocks (blocks_of entry.columns) entry.live.roots ∙ ap (λ flags. where_marked flags (flats_in (blocks_of entry.columns))) (sym whole.marks) ∙ ap (where_marked entry.live.docs) whole.flats

live_roots_are : (entry : EntryState) → IsWhole entry → map flat_root (live_roots_in entry) ≡ map root_in (live_blocks entry)
live_roots_are entry whole =
    sym (where_map flat_root entry.live.roots entry.columns.roots) ∙ ap (where_marked entry.live.roots) (sym whole.roots) ∙ sym (roots_in_blocks (blocks_of entry.columns) entry.live.roots)

-- ---- of all entries

flats_append : (xs ys : List BlockState) → flats_in (xs ++ ys) ≡ flats_in xs ++ flats_in ys
flats_append [] ys = refl
flats_append (x ∷ xs) ys = ap (λ rest. x.flats ++ rest) (flats_append xs ys) ∙ sym (append_assoc x.flats (flats_in xs) (flats_in ys))

pub all_documents : (entries : List EntryState) → AllByRecursion IsWhole entries → flats_in (flat_map live_blocks entries) ≡ flat_map live_flats entries
all_documents [] all = refl
all_documents (entry ∷ entries) all =
    flats_append (live_blocks entry) (flat_map live_blocks entries) ∙ rw (live_documents entry all.0, all_documents entries all.1) refl

pub all_roots_are : (entries : List EntryState) → AllByRecursion IsWhole entries → map flat_root (live_roots entries) ≡ map root_in (flat_map live_blocks entries)
all_roots_are [] all = refl
all_roots_are (entry ∷ entries) all =
    map-append flat_root (live_roots_in entry) (live_roots entries)
    ∙ ap (λ more. more ++ map flat_root (live_roots entries)) (live_roots_are entry all.0)
    ∙ ap (λ rest. map root_in (live_blocks entry) ++ rest) (all_roots_are entries all.1)
    ∙ sym (map-append root_in (live_blocks entry) (flat_map live_blocks entries))

pub all_scopes : (entries : List EntryState) → live_scopes entries ≡ map scope_in (flat_map live_flats entries)
all_scopes [] = refl
all_scopes (entry ∷ entries) =
    ap (λ more. more ++ live_scopes entries) (where_map scope_in entry.live.docs (flats_of entry.columns))
    ∙ ap (λ rest. map scope_in (live_flats entry) ++ rest) (all_scopes entries)
    ∙ sym (map-append scope_in (live_flats entry) (flat_map live_flats entries))

pub all_count : (entries : List EntryState) → AllByRecursion IsWhole entries → length (flat_map live_flats entries) ≡ live_count_of entries
all_count [] all = refl
all_count (entry ∷ entries) all = omega (arith, length-append (live_flats entry) (flat_map live_flats entries), all.0.count, all_count entries all.1, sum_by-cons live_count entry entries)

-- as many objects as live documents, and as many blocks as live roots
pub all_objects : (entries : List EntryState) → AllByRecursion IsWhole entries → objects_of (flat_map live_blocks entries) ≡ live_count_of entries
all_objects entries all =
    omega (arith, length-flat_map (λ (block : BlockState). block.flats) (flat_map live_blocks entries), ap length (all_documents entries all), all_count entries all)

pub all_blocks : (entries : List EntryState) → AllByRecursion IsWhole entries → length (flat_map live_blocks entries) ≡ length (live_roots entries)
all_blocks entries all =
    sym (length-map (flat_map live_blocks entries) root_in) ∙ sym (ap length (all_roots_are entries all)) ∙ length-map (live_roots entries) flat_root
