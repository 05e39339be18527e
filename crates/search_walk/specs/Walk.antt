-- What is known of a body after some parts of it, of which each field says what `Refusal` asks of these parts. It serves
-- proofs: a walk that goes on from here is the walk over all the parts.
use Rattle.std.specs.Prelude.{ℕ, ◌+◌, Bool, false, ◌||◌, List, [], ◌++◌, length, map, Option, None}
use Rattle.std.specs.Option.{option_or}
use Rattle.std.specs.List.{list_any, filter}
use Rattle.tree_json.specs.Value.{JsonValue, object}
use Rattle.mapping.specs.Mapping.{Mapping}
use Rattle.search_form.specs.declared.form.Form.{Form}
use Rattle.search_walk.specs.declared.refusal.SearchRefusal.{SearchRefusal}
use Rattle.search_walk.specs.declared.node.Walk as declared
use Rattle.search_walk.specs.Fault.{first_fault}
use Rattle.search_walk.specs.Names.{scope_inside}
use Rattle.search_walk.specs.Node.{Node}
use Rattle.search_walk.specs.Refusal.{inner_names, has_large_window, is_clause, is_deep, has_many_terms}

pub record Walk : Type 0 where
  pub fault : Option SearchRefusal
  pub names : List (List ℕ)
  pub clauses : ℕ
  pub has_large_window : Bool
  pub is_deep : Bool
  pub has_many_terms : Bool

abbrev pub walk_of : declared.Walk → Walk
walk_of w = record {
  fault = w.fault;
  names = map (λ n. n.now) w.names.items;
  clauses = w.clauses;
  has_large_window = w.has_large_window;
  is_deep = w.is_deep;
  has_many_terms = w.has_many_terms;
}

-- after no part
abbrev pub no_walk : Walk
no_walk = record { fault = None; names = []; clauses = 0; has_large_window = false; is_deep = false; has_many_terms = false }

-- after further parts
unfoldable pub walked : Mapping → Walk → List Node → Walk
walked m w nodes = record {
  fault = option_or w.fault (first_fault m nodes);
  names = w.names ++ inner_names nodes;
  clauses = w.clauses + length (filter (λ n. is_clause n.form) nodes);
  has_large_window = w.has_large_window || list_any has_large_window nodes;
  is_deep = w.is_deep || list_any is_deep nodes;
  has_many_terms = w.has_many_terms || list_any has_many_terms nodes;
}

-- the scope in which the parts of a part stand, where it is an object
abbrev pub inside_at : Mapping → Option ℕ → Form → JsonValue → Option ℕ
inside_at m scope form (object ms) = scope_inside m scope form ms
inside_at m scope form v = None
