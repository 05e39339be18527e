-- A walk that goes on is the walk over all the parts.
use Rattle.std.proofs.Common.{◌≡◌, ◌∙◌, ℕ, ◌+◌, Bool, true, false, ◌||◌, if◌then◌else◌, List as Seq, [], ◌∷◌, ◌++◌, length, Option, Some, None, refl, sym, ap, arith, append_assoc, append-nil, length-append}
use Rattle.std.proofs.lemmas.List.Elements.{filter-append, filter_map-append}
use Rattle.std.proofs.lemmas.List.Folds.{list_any-append}
use Rattle.std.specs.Option.{option_or}
use Rattle.std.specs.List.{list_any, filter}
use Rattle.mapping.specs.Mapping.{Mapping}
use Rattle.search_walk.specs.Fault.{first_fault, fault_of}
use Rattle.search_walk.specs.Node.{Node}
use Rattle.search_walk.specs.Refusal.{inner_name_at, inner_names, has_large_window, is_clause, is_deep, has_many_terms}
use Rattle.search_walk.specs.Walk.{Walk, no_walk, walked}

or_none : {T : Type 0} (o : Option T) → option_or o None ≡ o
or_none None = refl
or_none (Some x) = refl

or_assoc : {T : Type 0} (a b c : Option T) → option_or (option_or a b) c ≡ option_or a (option_or b c)
or_assoc None b c = refl
or_assoc (Some x) b c = refl

either_none : (b : Bool) → (b || false) ≡ b
either_none true = refl
either_none false = refl

either_assoc : (a b c : Bool) → ((a || b) || c) ≡ (a || (b || c))
either_assoc true b c = refl
either_assoc false b c = refl

faults_append : (m : Mapping) (xs ys : Seq Node) → first_fault m (xs ++ ys) ≡ option_or (first_fault m xs) (first_fault m ys)
faults_append m [] ys = refl
faults_append m (x ∷ xs) ys = rw (faults_append m xs ys) (sym (or_assoc (fault_of m x) (first_fault m xs) (first_fault m ys)))

sum_assoc : (a b c : ℕ) → (a + b) + c ≡ a + (b + c)
sum_assoc a b c = omega arith

sum_none : (a : ℕ) → a + 0 ≡ a
sum_none a = omega arith

counted : (b : Bool) (n : Node) → length (if b then n ∷ [] else []) ≡ (if b then 1 else 0)
counted true n = refl
counted false n = refl

one_clause : (n : Node) → length (filter (λ (n : Node). is_clause n.form) (n ∷ [])) ≡ (if is_clause n.form then 1 else 0)
one_clause n = counted (is_clause n.form) n

pub walked_none : (m : Mapping) (w : Walk) → walked m w [] ≡ w
unfolding walked
walked_none m w =
    rw (or_none w.fault, append-nil w.names, sum_none w.clauses, either_none w.has_large_window, either_none w.is_deep, either_none w.has_many_terms) refl

pub walked_on : (m : Mapping) (w : Walk) (xs ys : Seq Node) → walked m (walked m w xs) ys ≡ walked m w (xs ++ ys)
unfolding walked
walked_on m w xs ys =
    rw (
      faults_append m xs ys,
      or_assoc w.fault (first_fault m xs) (first_fault m ys),
      filter_map-append (λ (n : Node). inner_name_at n.form n.value) xs ys,
      append_assoc,
      filter-append (λ (n : Node). is_clause n.form) xs ys,
      length-append (filter (λ (n : Node). is_clause n.form) xs) (filter (λ (n : Node). is_clause n.form) ys),
      sum_assoc w.clauses (length (filter (λ (n : Node). is_clause n.form) xs)) (length (filter (λ (n : Node). is_clause n.form) ys)),
      list_any-append has_large_window xs ys,
      either_assoc w.has_large_window (list_any has_large_window xs) (list_any has_large_window ys),
      list_any-append is_deep xs ys,
      either_assoc w.is_deep (list_any is_deep xs) (list_any is_deep ys),
      list_any-append has_many_terms xs ys,
      either_assoc w.has_many_terms (list_any has_many_terms xs) (list_any has_many_terms ys),
    ) refl

-- after one part
pub walked_one : (m : Mapping) (w : Walk) (n : Node) → walked m w (n ∷ []) ≡ record {
  fault = option_or w.fault (fault_of m n);
  names = w.names ++ inner_names (n ∷ []);
  clauses = w.clauses + (if is_clause n.form then 1 else 0);
  has_large_window = w.has_large_window || has_large_window n;
  is_deep = w.is_deep || is_deep n;
  has_many_terms = w.has_many_terms || has_many_terms n;
}
unfolding walked
walked_one m w n =
    rw (or_none (fault_of m n), one_clause n, either_none (has_large_window n), either_none (is_deep n), either_none (has_many_terms n)) refl

sum_from_none : (a : ℕ) → 0 + a ≡ a
sum_from_none a = omega arith

-- a walk from the start
pub walked_from : (m : Mapping) (nodes : Seq Node) (v w : Walk) → v ≡ no_walk → w ≡ walked m v nodes → w ≡ record {
  fault = first_fault m nodes;
  names = inner_names nodes;
  clauses = length (filter (λ n. is_clause n.form) nodes);
  has_large_window = list_any has_large_window nodes;
  is_deep = list_any is_deep nodes;
  has_many_terms = list_any has_many_terms nodes;
}
unfolding walked
walked_from m nodes v w none is =
    is ∙ ap (λ (x : Walk). walked m x nodes) none ∙ rw (sum_from_none (length (filter (λ (n : Node). is_clause n.form) nodes))) refl

pub ruleset walks = (walked_none, walked_on)
