-- Pages at work: sorts with null and a given value in both directions, `search_after`, inner hits at two levels, equal rows
-- of one tree, and buckets down, up and across the join.
use Rattle.std.specs.Prelude.{◌≡◌, ℕ, pos, negsuc, Bool, true, false, List as Seq, [], ◌∷◌, map, codes, Option, Some, None, refl}
use Rattle.tree_json.specs.Text.{compact}
use Rattle.tree_objects.specs.Tree.{Tree}
use Rattle.query_ast.specs.Agg.{Agg}
use Rattle.query_ast.specs.Clause.{Clause, leaf, ids, bool, no_clauses, clause}
use Rattle.query_ast.specs.Definition.{Definition, Definitions, definition, no_definitions, with_definition}
use Rattle.query_ast.specs.Inner.{Inner}
use Rattle.query_ast.specs.Pages.{PagePart, InnerHead, no_pages, with_page, Hits, no_hits, with_hit}
use Rattle.query_ast.specs.Replies.{ReplyPart, no_replies, with_reply, single, several, metric, no_buckets, with_bucket}
use Rattle.query_ast.specs.Search.{hit_page, found_buckets, by_score}
use Rattle.query_ast.specs.declared.agg.AggForm.{AggForm}
use Rattle.query_ast.specs.declared.agg.AggForm.TheVariants.{Filter, Nested as Down, ReverseNested as Up, Children, Parent, Terms, Min, Max, Sum, ValueCount}
use Rattle.query_ast.specs.declared.hit.Level.{Level}
use Rattle.query_ast.specs.declared.inner.InnerOver.TheVariants.{Below}
use Rattle.query_ast.specs.declared.search.SearchBody.{SearchBody}
use Rattle.query_ast.specs.declared.sort.Key.{Key}
use Rattle.query_ast.specs.declared.sort.Key.TheVariants.{Null, Number}
use Rattle.query_ast.specs.declared.sort.KeyRow.{KeyRow}
use Rattle.query_ast.specs.declared.sort.Missing.{Missing}
use Rattle.query_ast.specs.declared.sort.Missing.TheVariants.{Last, First, Given}
use Rattle.query_ast.specs.declared.sort.Sort.{Sort}
use Rattle.query_ast.specs.declared.sort.SortKey.TheVariants.{Field}
use Rattle.query_ast.specs.declared.sort.SortMode.{SortMode}
use Rattle.query_ast.specs.declared.sort.SortMode.TheVariants.{Min as Least, Max as Greatest, Sum as Total, Avg, Median}
use Rattle.query_ast.proofs.Samples.{searches, mapping, tree, priced, offering, stocked, stocking, question, answer_of, color, price, site, all, word, number, term, within, search}

-- ---- sorts

abbrev shop : Seq Tree
shop =
    tree (codes "1") 0 (offering (priced (codes "red") (pos 5) ∷ priced (codes "red") (pos 8) ∷ []))
    ∷ tree (codes "2") 1 (offering (priced (codes "blue") (pos 1) ∷ []))
    ∷ tree (codes "3") 2 (offering (priced (codes "red") (pos 6) ∷ [])) ∷ []

abbrev red : Clause
red = term color (word (codes "red"))

-- by the price of the red offers
abbrev by_red_price : SortMode → Bool → Missing → Sort
by_red_price mode descending missing =
    record { key = Field price mode (record { scope = 1; filter = Some red } ∷ []); descending = descending; missing = missing }

abbrev sorted_by : Sort → Option KeyRow → SearchBody
sorted_by sort after = record (search all) { sort = sort ∷ []; after = after }

-- the ids of the hits with their keys
abbrev keys : Sort → Option KeyRow → Seq (Seq ℕ × Seq Key)
keys sort after = map (λ hit. (hit.id, hit.keys)) (hit_page mapping shop (sorted_by sort after)).hits

abbrev keyed : Seq ℕ → Key → Seq ℕ × Seq Key
keyed id key = (id, key ∷ [])

by_average : keys (by_red_price Avg false Last) None ≡ keyed (codes "1") (Number (pos 6)) ∷ keyed (codes "3") (Number (pos 6)) ∷ keyed (codes "2") Null ∷ []
unfolding searches
by_average = refl

abbrev behind_the_first : KeyRow
behind_the_first = record { keys = Number (pos 6) ∷ []; place = 0; doc = 0; number = pos 0 }

the_next_page : keys (by_red_price Avg false Last) (Some behind_the_first) ≡ keyed (codes "3") (Number (pos 6)) ∷ keyed (codes "2") Null ∷ []
unfolding searches
the_next_page = refl

the_total_stays : (hit_page mapping shop (sorted_by (by_red_price Avg false Last) (Some behind_the_first))).total ≡ 3
unfolding searches
the_total_stays = refl

-- null stands last or first in either direction, and a given value where it belongs
nulls : map (λ sort. map (λ hit. hit.id) (hit_page mapping shop (sorted_by sort None)).hits)
    (by_red_price Least false Last ∷ by_red_price Greatest true Last ∷ by_red_price Least false First ∷ by_red_price Greatest true First
    ∷ by_red_price Least false (Given (number (pos 6))) ∷ by_red_price Greatest true (Given (number (pos 7))) ∷ [])
    ≡ (codes "1" ∷ codes "3" ∷ codes "2" ∷ []) ∷ (codes "1" ∷ codes "3" ∷ codes "2" ∷ [])
    ∷ (codes "2" ∷ codes "1" ∷ codes "3" ∷ []) ∷ (codes "2" ∷ codes "1" ∷ codes "3" ∷ [])
    ∷ (codes "1" ∷ codes "2" ∷ codes "3" ∷ []) ∷ (codes "1" ∷ codes "2" ∷ codes "3" ∷ []) ∷ []
unfolding searches
nulls = refl

-- means and medians are rounded down, below 0 too
abbrev debts : Tree
debts = tree (codes "1") 0 (offering (priced (codes "red") (negsuc 4) ∷ priced (codes "red") (negsuc 7) ∷ priced (codes "red") (pos 1) ∷ priced (codes "red") (pos 2) ∷ []))

modes : map (λ mode. map (λ hit. hit.keys) (hit_page mapping (debts ∷ []) (sorted_by (by_red_price mode false Last) None)).hits)
    (Least ∷ Greatest ∷ Total ∷ Avg ∷ Median ∷ [])
    ≡ ((Number (negsuc 7) ∷ []) ∷ []) ∷ ((Number (pos 2) ∷ []) ∷ []) ∷ ((Number (negsuc 9) ∷ []) ∷ []) ∷ ((Number (negsuc 2) ∷ []) ∷ []) ∷ ((Number (negsuc 1) ∷ []) ∷ []) ∷ []
unfolding searches
modes = refl

-- ---- inner hits

abbrev stocks : Tree
stocks = tree (codes "1") 0 (offering (
    stocking (codes "red") (stocked (pos 1) (codes "a") ∷ stocked (pos 2) (codes "b") ∷ [])
    ∷ stocking (codes "blue") (stocked (pos 1) (codes "b") ∷ []) ∷ []))

abbrev at_b : Clause
at_b = term site (word (codes "b"))

abbrev inner : Seq ℕ → ℕ → Clause → Bool → Inner
inner name scope query source =
    record { name = name; over = Below scope; query = query; from = 0; size = 3; sort = by_score ∷ []; source = source }

abbrev stock_inner : Definition Inner
stock_inner = definition (inner (codes "offers.stock") 2 at_b true) no_definitions

abbrev offer_at : ℕ → Level
offer_at offset = record { field = codes "offers"; offset = offset }

abbrev stock_at : ℕ → Level
stock_at offset = record { field = codes "stock"; offset = offset }

abbrev head : Seq Level → Option (Seq ℕ) → InnerHead
head levels source = record { id = codes "1"; levels = levels; score = 1; source = source }

abbrev pages : Tree → SearchBody → Seq (Seq PagePart)
pages t body = map (λ hit. hit.inner) (hit_page mapping (t ∷ []) body).hits

-- two levels below the root at once
places : pages stocks (record (search (within 2 at_b)) { inner = stock_inner ∷ [] })
    ≡ (record {
      name = codes "offers.stock";
      hits =
          with_hit (head (offer_at 0 ∷ stock_at 1 ∷ []) (Some (compact (stocked (pos 2) (codes "b"))))) no_pages
          (with_hit (head (offer_at 1 ∷ stock_at 0 ∷ []) (Some (compact (stocked (pos 1) (codes "b"))))) no_pages no_hits);
      total = 2;
    } ∷ []) ∷ []
unfolding searches
places = refl

-- a definition that owns one: the stock of each offer, whether it hits there or not
owned : pages stocks (record (search all) { inner = definition (inner (codes "o") 1 all false) (with_definition (definition (inner (codes "s") 2 at_b false) no_definitions) no_definitions) ∷ [] })
    ≡ (record {
      name = codes "o";
      hits =
          with_hit (head (offer_at 0 ∷ []) None) (with_page (codes "s") (with_hit (head (offer_at 0 ∷ stock_at 1 ∷ []) None) no_pages no_hits) 1 no_pages)
          (with_hit (head (offer_at 1 ∷ []) None) (with_page (codes "s") (with_hit (head (offer_at 1 ∷ stock_at 0 ∷ []) None) no_pages no_hits) 1 no_pages) no_hits);
      total = 2;
    } ∷ []) ∷ []
unfolding searches
owned = refl

-- two definitions of one owner, in their order, and a page that begins behind the first hit
several_definitions : pages stocks (record (search all) { inner = definition (record (inner (codes "o") 1 all false) { from = 1; size = 1 }) no_definitions ∷ definition (inner (codes "s") 2 at_b false) no_definitions ∷ [] })
    ≡ (record { name = codes "o"; hits = with_hit (head (offer_at 1 ∷ []) None) no_pages no_hits; total = 2 }
    ∷ record {
      name = codes "s";
      hits = with_hit (head (offer_at 0 ∷ stock_at 1 ∷ []) None) no_pages (with_hit (head (offer_at 1 ∷ stock_at 0 ∷ []) None) no_pages no_hits);
      total = 2;
    } ∷ []) ∷ []
unfolding searches
several_definitions = refl

-- the page of a definition that stands where its clause must not hit
must_not : pages stocks (record (search (bool no_clauses no_clauses no_clauses (clause (within 2 (term site (word (codes "z")))) no_clauses) None)) { inner = stock_inner ∷ [] })
    ≡ pages stocks (record (search (within 2 at_b)) { inner = stock_inner ∷ [] })
unfolding searches
must_not = refl

-- equal objects of one tree stand in document order, in either direction
abbrev colors : Tree
colors = tree (codes "1") 0 (offering (priced (codes "red") (pos 5) ∷ priced (codes "blue") (pos 8) ∷ priced (codes "red") (pos 1) ∷ priced (codes "blue") (pos 2) ∷ []))

abbrev by_color : Bool → Inner
by_color descending =
    record (inner (codes "o") 1 all false) { sort = record { key = Field color Least []; descending = descending; missing = Last } ∷ []; size = 4 }

abbrev hits_at : Seq ℕ → Hits
hits_at [] = no_hits
hits_at (offset ∷ offsets) = with_hit (head (offer_at offset ∷ []) None) no_pages (hits_at offsets)

abbrev offers_in_order : Seq ℕ → PagePart
offers_in_order offsets = record { name = codes "o"; hits = hits_at offsets; total = 4 }

equal_objects : map (λ descending. pages colors (record (search all) { inner = definition (by_color descending) no_definitions ∷ [] })) (false ∷ true ∷ [])
    ≡ ((offers_in_order (1 ∷ 3 ∷ 0 ∷ 2 ∷ []) ∷ []) ∷ []) ∷ ((offers_in_order (0 ∷ 2 ∷ 1 ∷ 3 ∷ []) ∷ []) ∷ []) ∷ []
unfolding searches
equal_objects = refl

-- ---- buckets

abbrev agg : Seq ℕ → AggForm → Definitions Agg → Definition Agg
agg name form within = definition (record { name = name; form = form }) within

abbrev only : Definition Agg → Definitions Agg
only d = with_definition d no_definitions

abbrev counts : Seq Tree → Clause → Definition Agg → Seq ReplyPart
counts live query d = found_buckets mapping live (record (search query) { aggs = d ∷ [] })

-- down to the offers, by color, and up again: each tree once
abbrev by_colors : Definition Agg
by_colors = agg (codes "o") (Down 1) (only (agg (codes "c") (Terms (Some color) 10 false true) (only (agg (codes "up") (Up 0) no_definitions))))

abbrev two : Seq Tree
two = tree (codes "1") 0 (offering (priced (codes "red") (pos 5) ∷ priced (codes "red") (pos 8) ∷ [])) ∷ tree (codes "2") 1 (offering (priced (codes "blue") (pos 1) ∷ [])) ∷ []

down_and_up : counts two all by_colors
    ≡ record {
      name = codes "o";
      value = single 3 (with_reply (codes "c")
          (several
          (with_bucket (word (codes "red")) 2 (with_reply (codes "up") (single 1 no_replies) no_replies)
          (with_bucket (word (codes "blue")) 1 (with_reply (codes "up") (single 1 no_replies) no_replies) no_buckets))
          0) no_replies);
    } ∷ []
unfolding searches
down_and_up = refl

-- equal counts by ascending key, whatever the direction; what is left out is counted
some_of_them : map (λ form. counts two all (agg (codes "o") (Down 1) (only (agg (codes "p") form no_definitions))))
    (Terms (Some price) 2 false false ∷ Terms (Some price) 1 true true ∷ [])
    ≡ (record { name = codes "o"; value = single 3 (with_reply (codes "p") (several (with_bucket (number (pos 1)) 1 no_replies (with_bucket (number (pos 5)) 1 no_replies no_buckets)) 1) no_replies) } ∷ [])
    ∷ (record { name = codes "o"; value = single 3 (with_reply (codes "p") (several (with_bucket (number (pos 8)) 1 no_replies no_buckets) 2) no_replies) } ∷ []) ∷ []
unfolding searches
some_of_them = refl

-- two definitions of one bucket: its red offers, and metrics over all its prices
several_buckets : counts two all (agg (codes "o") (Down 1) (with_definition (agg (codes "red") (Filter red) (only (agg (codes "sum") (Sum (Some price)) no_definitions))) (only (agg (codes "max") (Max (Some price)) no_definitions))))
    ≡ record {
      name = codes "o";
      value = single 3 (with_reply (codes "red") (single 2 (with_reply (codes "sum") (metric (Some (pos 13))) no_replies))
          (with_reply (codes "max") (metric (Some (pos 8))) no_replies));
    } ∷ []
unfolding searches
several_buckets = refl

-- at the root a price shows nothing, and neither does an unmapped field
metrics : map (λ form. counts two all (agg (codes "m") form no_definitions)) (Min (Some price) ∷ Sum None ∷ ValueCount None ∷ [])
    ≡ (record { name = codes "m"; value = metric None } ∷ []) ∷ (record { name = codes "m"; value = metric (Some (pos 0)) } ∷ []) ∷ (record { name = codes "m"; value = metric (Some (pos 0)) } ∷ []) ∷ []
unfolding searches
metrics = refl

-- from questions to their answers, and back: each question once
abbrev talk : Seq Tree
talk =
    tree (codes "q1") 0 question ∷ tree (codes "q2") 1 question ∷ tree (codes "a1") 2 (answer_of (codes "q1"))
    ∷ tree (codes "a2") 3 (answer_of (codes "q1")) ∷ tree (codes "a3") 4 (answer_of (codes "q9")) ∷ []

abbrev across : Definition Agg
across = agg (codes "c") (Children 0) (only (agg (codes "p") (Parent 0) no_definitions))

across_the_join : map (λ query. counts talk query across) (all ∷ leaf (ids (codes "q2" ∷ [])) 1 ∷ [])
    ≡ (record { name = codes "c"; value = single 2 (with_reply (codes "p") (single 1 no_replies) no_replies) } ∷ [])
    ∷ (record { name = codes "c"; value = single 0 (with_reply (codes "p") (single 0 no_replies) no_replies) } ∷ []) ∷ []
unfolding searches
across_the_join = refl
