-- A block as a whole.
use Rattle.std.proofs.Common.{◌≡◌, ℕ, ◌-◌, ◌<◌, ◌≤◌, true, false, List, length, map, ◌^◌, refl, sym, ap, ◌∙◌, arith, Some, None, nat_lt}
use Rattle.std.proofs.lemmas.Bool.Decides.{nat_tests}
use Rattle.mapping.specs.Mapping.{Mapping}
use Rattle.segment.specs.Flat.{FlatDocument, FlatRoot}
use Rattle.stored_sources.specs.declared.root.Join.{Join}
use Rattle.tree_json.specs.Value.{JsonValue}
use Rattle.tree_json.specs.Text.{compact}
use Rattle.tree_objects.specs.Fault.{first_fault}
use Rattle.tree_objects.specs.Tree.{Tree}
use Rattle.tree_objects.specs.Values.{join_at, join_field, join_of}
use Rattle.flattener.specs.Block.{block_of, block_refusal, root_of_tree, nested_count, most_nested, most_documents, kept_join, tree_given, BlockState}
use Rattle.flattener.specs.declared.refusal.FlattenRefusal.TheVariants.{WrongType, TermTooLong, BadJoin, TooManyObjects}
use Rattle.tree_objects.specs.declared.fault.Fault.TheVariants as fault
use Rattle.flattener.specs.Fits.{BlockFits, IsGiven, IsTreeUnder, most_source}
use Rattle.flattener.specs.Walked.{flat_pair, walked}
use Rattle.flattener.proofs.Objects.{tree_walked, tree_count}

abbrev walked_of : Mapping → Tree → ℕ
walked_of m tree = length (walked m tree.generation (length m.scopes) 0 tree.source)

not_many : (n : ℕ) → n ≤ most_documents → nat_lt most_nested (n - 1) ≡ false
not_many n h = grind (arith, nat_tests)

too_many : (n : ℕ) → most_documents < n → nat_lt most_nested (n - 1) ≡ true
too_many n h = grind (arith, nat_tests)

pub accepted_few : (m : Mapping) (tree : Tree) → first_fault m tree.generation tree.source ≡ None → walked_of m tree ≤ most_documents → block_refusal m tree ≡ None
unfolding block_refusal
accepted_few m tree h few =
    let count : nat_lt most_nested (nested_count m tree) ≡ false = ap (λ n. nat_lt most_nested (n - 1)) (tree_count m tree) ∙ not_many (walked_of m tree) few in
    rw (h, count) refl

pub refused_many : (m : Mapping) (tree : Tree) → first_fault m tree.generation tree.source ≡ None → most_documents < walked_of m tree → block_refusal m tree ≡ Some TooManyObjects
unfolding block_refusal
refused_many m tree h many =
    let count : nat_lt most_nested (nested_count m tree) ≡ true = ap (λ n. nat_lt most_nested (n - 1)) (tree_count m tree) ∙ too_many (walked_of m tree) many in
    rw (h, count) refl

abbrev pub state_of : List FlatDocument → FlatRoot → BlockState
state_of flats root = record { flats = flats; root = root }

state_same : (a b : List FlatDocument) (r s : FlatRoot) → a ≡ b → r ≡ s → state_of a r ≡ state_of b s
state_same a b r s e f = rw (e, f) refl

abbrev pub root_made : List ℕ → ℕ → ℕ → Join → List ℕ → FlatRoot
root_made id number generation join source = record { id = id; number = number; generation = generation; join = join; source = source }

pub refused_type : (m : Mapping) (id : List ℕ) (number : ℕ) (v : JsonValue) (g f : ℕ) → first_fault m g v ≡ Some (fault.WrongType f) → block_refusal m (tree_given id number v g) ≡ Some (WrongType f)
unfolding block_refusal
refused_type m id number v g f h = rw h refl

pub refused_term : (m : Mapping) (id : List ℕ) (number : ℕ) (v : JsonValue) (g f : ℕ) → first_fault m g v ≡ Some (fault.TermTooLong f) → block_refusal m (tree_given id number v g) ≡ Some (TermTooLong f)
unfolding block_refusal
refused_term m id number v g f h = rw h refl

pub refused_join : (m : Mapping) (id : List ℕ) (number : ℕ) (v : JsonValue) (g : ℕ) → first_fault m g v ≡ Some fault.BadJoin → block_refusal m (tree_given id number v g) ≡ Some BadJoin
unfolding block_refusal
refused_join m id number v g h = rw h refl

pub ruleset faults = (refused_type, refused_term, refused_join)

-- what is kept of a root
pub root_kept : (m : Mapping) (id : List ℕ) (number : ℕ) (v : JsonValue) (g : ℕ) (j : Join) → j ≡ kept_join (join_at m g v (join_field m g)) →
    root_made id number g j (compact v) ≡ root_of_tree m (tree_given id number v g)
unfolding root_of_tree join_of
root_kept m id number v g j e = ap (λ join. root_made id number g join (compact v)) e

pub ruleset roots = (root_kept)

pub block_made : (m : Mapping) (id : List ℕ) (number : ℕ) (v : JsonValue) (g : ℕ) (flats : List FlatDocument) (root : FlatRoot) →
    flats ≡ map (flat_pair m g) (walked m g (length m.scopes) 0 v) → root ≡ root_of_tree m (tree_given id number v g) →
    state_of flats root ≡ block_of m (tree_given id number v g)
block_made m id number v g flats root a b =
    state_same flats _ root _ (a ∙ sym (tree_walked m (tree_given id number v g))) b

pub tree_short : (m : Mapping) (tree : Tree) → IsTreeUnder m tree → length (compact tree.source) ≤ most_source → IsGiven m tree
tree_short m tree under short = record { id = under.id; source = (under.object, short); first = under.first; last = under.last }

pub block_fits : (m : Mapping) (id : List ℕ) (number : ℕ) (v : JsonValue) (g : ℕ) (block : BlockState) → IsGiven m (tree_given id number v g) → first_fault m g v ≡ None
    → length (walked m g (length m.scopes) 0 v) ≤ most_documents → number ≤ 2 ^ 62 → block ≡ block_of m (tree_given id number v g) → BlockFits m block
block_fits m id number v g block given sound few small is = record {
  tree = tree_given id number v g;
  given = given;
  accepted = accepted_few m (tree_given id number v g) sound few;
  number = small;
  is = is;
}

pub ruleset wholes = (accepted_few, refused_many, tree_short)
