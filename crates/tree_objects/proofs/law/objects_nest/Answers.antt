use Rattle.std.proofs.Common.{◌≡◌, ◌<◌, length, subst, refl, ℕ}
use Rattle.std.proofs.lemmas.List.Elements.{All-contains, All-from_recursion}
use Rattle.tree_objects.specs.Object.{Object, scope, around, children, block_objects}
use Rattle.tree_objects.proofs.Inside.{tree_in_range, root_found, found_in_tree, found_below, enclosing, around_child}
use Rattle.tree_objects.proofs.Kept.{shown_values}
use Rattle.tree_objects.proofs.Places.{places_differ}
use Rattle.tree_objects.proofs.law.objects_nest.Goals as goal

pub returns-clause-places : goal.returns-clause-places
returns-clause-places c = places_differ

pub returns-clause-in_range : goal.returns-clause-in_range
returns-clause-in_range c m tree o is of =
    All-contains (λ (d : Object). scope d < length m.scopes) (block_objects m tree) o
    (All-from_recursion (λ (d : Object). scope d < length m.scopes) (block_objects m tree) (tree_in_range m tree is)) of

pub returns-clause-at_root : goal.returns-clause-at_root
returns-clause-at_root c = root_found

pub returns-clause-at_nested : goal.returns-clause-at_nested
returns-clause-at_nested c m tree n is positive range = found_in_tree m tree n is range

pub returns-clause-within : goal.returns-clause-within
returns-clause-within c m levels n o is above enough = found_below m levels n o is above enough

pub returns-clause-enclosing : goal.returns-clause-enclosing
returns-clause-enclosing c = enclosing

pub returns-clause-child : goal.returns-clause-child
returns-clause-child c m o d n is positive home of =
    All-contains (λ (e : Object). around e (scope o) ≡ o) (children m o n) d
    (All-from_recursion (λ (e : Object). around e (scope o) ≡ o) (children m o n)
    (around_child m o n (scope o) (subst (λ (s : ℕ). s < n) home (is.behind n positive)) refl)) of

pub returns-clause-shown : goal.returns-clause-shown
returns-clause-shown c = shown_values
