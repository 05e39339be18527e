-- The definitions at work on one mapping: what they compute is what the rules say.
use Rattle.std.specs.Prelude.{◌≡◌, ℕ, pos, negsuc, true, List as Seq, [], ◌∷◌, map, codes, Some, None, refl, false}
use Rattle.score_math.specs.declared.score.ScoreMode.{ScoreMode}
use Rattle.score_math.specs.declared.score.ScoreMode.TheVariants.{Avg, Max, Min, Sum, Zero}
use Rattle.tree_json.specs.Value.{JsonValue, null, text, whole}
use Rattle.tree_objects.specs.Object.{root}
use Rattle.tree_objects.specs.Tree.{Tree}
use Rattle.query_ast.specs.Clause.{Clause, Clauses, no_clauses, clause, leaf, bool, constant_score, dis_max, nested, to_child, has_child, has_parent, match_all, ids, on_field, is_among, is_between, exists, begins_with, parent_id}
use Rattle.query_ast.specs.declared.query.RangeEnd.TheVariants.{Free, Closed, Past}
use Rattle.query_ast.specs.Hit.{is_hit}
use Rattle.query_ast.proofs.Samples.{searches, boxed, tree, an_object, a_list, priced, offering, stocked, stocking, question, answer_of, color, price, stock_n, site, all, word, number, term, both, within, find}

-- ---- nested objects are documents of their own

abbrev chair : Tree
chair = tree (codes "1") 0 (an_object (
    (codes "name", text (codes "chair"))
    ∷ (codes "offers", a_list (priced (codes "red") (pos 5) ∷ priced (codes "blue") (pos 9) ∷ [])) ∷ []))

abbrev red : Clause
red = term color (word (codes "red"))

-- no one offer is red and costs 9, but one is red and costs 5
two_offers_are_no_match : find (chair ∷ []) (within 1 (both red (term price (number (pos 9))))) ≡ []
unfolding searches
two_offers_are_no_match = refl

one_offer_is_a_match : find (chair ∷ []) (within 1 (both red (term price (number (pos 5))))) ≡ (codes "1", 2) ∷ []
unfolding searches
one_offer_is_a_match = refl

-- null, an empty list and a null in a list are no objects, and a single object is one
abbrev few : Seq Tree
few =
    tree (codes "1") 0 (offering [])
    ∷ tree (codes "2") 1 (an_object ((codes "offers", null) ∷ []))
    ∷ tree (codes "3") 2 (offering (null ∷ an_object ((codes "color", text (codes "red")) ∷ []) ∷ []))
    ∷ tree (codes "4") 3 (an_object ((codes "offers", an_object ((codes "color", text (codes "red")) ∷ [])) ∷ [])) ∷ []

objects_alone_count : find few (within 1 red) ≡ (codes "3", 1) ∷ (codes "4", 1) ∷ []
unfolding searches
objects_alone_count = refl

the_second_tree : find (tree (codes "1") 0 (an_object []) ∷ tree (codes "2") 1 (offering (an_object [] ∷ [])) ∷ []) (within 1 all) ≡ (codes "2", 1) ∷ []
unfolding searches
the_second_tree = refl

nothing_at_the_root : find (chair ∷ []) red ≡ []
unfolding searches
nothing_at_the_root = refl

up_to_the_root : find (chair ∷ []) (within 1 (both red (to_child (Some 0) all))) ≡ (codes "1", 2) ∷ []
unfolding searches
up_to_the_root = refl

-- ---- levels

abbrev stocks : Tree
stocks = tree (codes "1") 0 (offering (
    stocking (codes "red") (stocked (pos 1) (codes "a") ∷ stocked (pos 2) (codes "b") ∷ [])
    ∷ stocking (codes "blue") (stocked (pos 1) (codes "b") ∷ []) ∷ []))

abbrev one_at_b : Clause
one_at_b = both (term site (word (codes "b"))) (term stock_n (number (pos 1)))

a_level_is_skipped : find (stocks ∷ []) (within 2 one_at_b) ≡ (codes "1", 2) ∷ []
unfolding searches
a_level_is_skipped = refl

not_in_the_red_offer : find (stocks ∷ []) (within 1 (both red (within 2 one_at_b))) ≡ []
unfolding searches
not_in_the_red_offer = refl

in_the_blue_offer : find (stocks ∷ []) (within 1 (both (term color (word (codes "blue"))) (within 2 one_at_b))) ≡ (codes "1", 3) ∷ []
unfolding searches
in_the_blue_offer = refl

-- an unknown path that is ignored
an_ignored_clause : find (stocks ∷ []) (nested None one_at_b Avg) ≡ []
unfolding searches
an_ignored_clause = refl

-- ---- scores

abbrev boosted_term : Seq ℕ → ℕ → Clause
boosted_term c boost = leaf (on_field (Some color) (is_among (word c ∷ []))) boost

abbrev either : ScoreMode → Clause
either mode =
    nested (Some 1) (bool no_clauses no_clauses (clause (boosted_term (codes "red") 2) (clause (boosted_term (codes "blue") 3) no_clauses)) no_clauses None) mode

modes : map (λ mode. find (chair ∷ []) (either mode)) (Avg ∷ Max ∷ Min ∷ Sum ∷ Zero ∷ [])
    ≡ ((codes "1", 2) ∷ []) ∷ ((codes "1", 3) ∷ []) ∷ ((codes "1", 2) ∷ []) ∷ ((codes "1", 5) ∷ []) ∷ ((codes "1", 0) ∷ []) ∷ []
unfolding searches
modes = refl

-- ---- clauses put together

abbrev pair : Seq Tree
pair = tree (codes "a") 0 (an_object []) ∷ tree (codes "b") 1 (an_object []) ∷ []

abbrev one : Seq ℕ → Clause
one id = leaf (ids (id ∷ [])) 1

abbrev only : Clause → Clauses
only c = clause c no_clauses

-- a `should` alone has to hit; beside a `filter` it only adds its score, unless a number is asked for
shoulds : map (λ query. find pair query)
    (bool no_clauses no_clauses (only (one (codes "a"))) no_clauses None
    ∷ bool no_clauses (only all) (only (one (codes "a"))) no_clauses None
    ∷ bool (only all) no_clauses (only (one (codes "b"))) no_clauses (Some 1)
    ∷ bool no_clauses no_clauses (clause (one (codes "a")) (clause all no_clauses)) no_clauses (Some 2) ∷ [])
    ≡ ((codes "a", 1) ∷ []) ∷ ((codes "a", 1) ∷ (codes "b", 0) ∷ []) ∷ ((codes "b", 2) ∷ []) ∷ ((codes "a", 2) ∷ []) ∷ []
unfolding searches
shoulds = refl

-- what must not hit adds nothing, and without any clause all is hit
must_nots : map (λ query. find pair query)
    (bool no_clauses no_clauses no_clauses (only (one (codes "a"))) None ∷ bool no_clauses no_clauses no_clauses no_clauses (Some 7) ∷ [])
    ≡ ((codes "b", 0) ∷ []) ∷ ((codes "a", 1) ∷ (codes "b", 1) ∷ []) ∷ []
unfolding searches
must_nots = refl

greatest_and_constant : map (λ query. find pair query) (dis_max (clause all (only (leaf (ids (codes "b" ∷ [])) 3))) ∷ dis_max no_clauses ∷ constant_score (one (codes "a")) 5 ∷ [])
    ≡ ((codes "b", 3) ∷ (codes "a", 1) ∷ []) ∷ [] ∷ ((codes "a", 5) ∷ []) ∷ []
unfolding searches
greatest_and_constant = refl

a_sum_stops_at_the_cap : find (tree (codes "a") 0 (an_object []) ∷ []) (both (leaf match_all 9_223_372_036_854_775_807) all) ≡ (codes "a", 9_223_372_036_854_775_807) ∷ []
unfolding searches
a_sum_stops_at_the_cap = refl

-- ---- leaves

abbrev costs : Seq Tree
costs = tree (codes "1") 0 (offering (priced (codes "red") (pos 5) ∷ priced (codes "rust") (pos 8) ∷ [])) ∷ tree (codes "2") 1 (offering (priced (codes "blue") (negsuc 0) ∷ [])) ∷ []

ranges : map (λ test. find costs (within 1 (leaf (on_field (Some price) test) 1)))
    (is_between (Past (number (pos 5))) (Closed (number (pos 8))) ∷ is_between Free (Past (number (pos 5))) ∷ is_between (Closed (number (pos 9))) Free ∷ exists ∷ [])
    ≡ ((codes "1", 1) ∷ []) ∷ ((codes "2", 1) ∷ []) ∷ [] ∷ ((codes "1", 1) ∷ (codes "2", 1) ∷ []) ∷ []
unfolding searches
ranges = refl

prefixes : find costs (within 1 (leaf (on_field (Some color) (begins_with (codes "r"))) 1)) ≡ (codes "1", 1) ∷ []
unfolding searches
prefixes = refl

an_unmapped_field : find costs (leaf (on_field None exists) 1) ≡ []
unfolding searches
an_unmapped_field = refl

-- a plain object exists where a field with its home does: not by the objects nested in it
abbrev box_exists : Clause
box_exists = leaf (on_field (Some 0) exists) 1

abbrev a_box : Seq ℕ → JsonValue → Tree
a_box name value = tree (codes "1") 0 (an_object ((codes "box", an_object ((name, value) ∷ [])) ∷ []))

plain_objects : map (λ t. is_hit boxed [] box_exists (root t))
    (a_box (codes "tag") (text (codes "x")) ∷ a_box (codes "parts") (an_object ((codes "n", whole (pos 1)) ∷ [])) ∷ a_box (codes "tag") null ∷ []) ≡ true ∷ false ∷ false ∷ []
unfolding searches
plain_objects = refl

-- ---- joins

abbrev answered : Clause
answered = has_child (Some 0) all Zero 1 None

no_question_yet : find (tree (codes "10") 0 (answer_of (codes "7")) ∷ []) answered ≡ []
unfolding searches
no_question_yet = refl

abbrev asked : Seq Tree
asked = tree (codes "10") 0 (answer_of (codes "7")) ∷ tree (codes "7") 1 question ∷ []

the_question : find asked answered ≡ (codes "7", 0) ∷ []
unfolding searches
the_question = refl

the_answer : find asked (has_parent (Some 1) all true 1) ≡ (codes "10", 1) ∷ []
unfolding searches
the_answer = refl

-- an answer outlives its question
no_question_any_more : find (tree (codes "10") 0 (answer_of (codes "7")) ∷ []) (has_parent (Some 1) all true 1) ≡ []
unfolding searches
no_question_any_more = refl

by_parent_id : find (tree (codes "10") 0 (answer_of (codes "7")) ∷ []) (leaf (parent_id (Some 0) (codes "7")) 1) ≡ (codes "10", 1) ∷ []
unfolding searches
by_parent_id = refl

abbrev answers : Seq Tree
answers = tree (codes "q") 0 question ∷ tree (codes "b") 2 (answer_of (codes "q")) ∷ tree (codes "a") 4 (answer_of (codes "q")) ∷ []

counted : map (λ least. find answers (has_child (Some 0) all Sum least None)) (2 ∷ 3 ∷ []) ≡ ((codes "q", 2) ∷ []) ∷ [] ∷ []
unfolding searches
counted = refl

at_most_one : find answers (has_child (Some 0) all Sum 1 (Some 1)) ≡ []
unfolding searches
at_most_one = refl
