-- A reply has at least the bytes that its page weighs.
use Rattle.std.proofs.Common.{◌≡◌, ℕ, ◌+◌, ◌≤◌, Bool, true, false, List as Seq, [], ◌∷◌, ◌++◌, length, map, codes, decimal, Option, Some, None, Ordering, Less, Equal, Greater, nat_cmp, refl, sym, ap, ◌∙◌, arith}
use Rattle.std.proofs.lemmas.Bool.{false≢true}
use Rattle.std.proofs.lemmas.List.{length-append}
use Rattle.std.proofs.lemmas.List.Sums.{sum_by-cons}
use Rattle.std.proofs.lemmas.Map.Text.{is_eq-slice_cmp}
use Rattle.std.specs.Cmp.Lexicographic.{slice_cmp}
use Rattle.std.specs.List.{AllByRecursion, IsDistinct, sum_by}
use Rattle.std.specs.Ordering.{is_eq}
use Rattle.std.specs.Str.{bytes_eq}
use Rattle.json.specs.Print.{escape}
use Rattle.tree_json.specs.Text.{quoted, comma_if}
use Rattle.query_ast.specs.Pages.{InnerHead, Pages, no_pages, with_page, Hits, no_hits, with_hit, pages_of}
use Rattle.query_ast.specs.Replies.{ReplyPart, replies_of}
use Rattle.query_ast.specs.declared.hit.Hit.{Hit}
use Rattle.query_ast.specs.declared.hit.HitPage.{HitPage}
use Rattle.query_ast.specs.declared.hit.Level.{Level}
use Rattle.reply_text.specs.BucketTexts.{answer_entries}
use Rattle.reply_text.specs.HitParts.{head_part, hit_line, inner_hit_line, inner_part, place_part, source_part}
use Rattle.reply_text.specs.HitTexts.{hit_text, hits_text, inner_hit_text, inner_hit_texts, page_entries, sort_text}
use Rattle.reply_text.specs.LineParts.{aggregations_part, found_part}
use Rattle.reply_text.specs.Object.{Entry, by_order, elements_text, entries_text, entry, entry_text, in_order, object_text, placed, placed_all}
use Rattle.reply_text.specs.Text.{line_of}
use Rattle.reply_text.specs.Weight.{AreApart, AreApartInside, ArePagesApart, IsNew, hit_weight, hits_weight, page_names, page_weight, pages_weight, whole_weight}
use Rattle.reply_text.specs.declared.reply.Reply.TheVariants.{Found}
use Rattle.reply_text.proofs.Flat.{hits_text-line}
use Rattle.reply_text.proofs.HitLines.{hit_line-text, inner_hit_line-text, page_behind}
use Rattle.reply_text.proofs.LinePieces.{found_part-line}

-- ---- pieces one behind the other

front : (a b : Seq ℕ) → length a ≤ length (a ++ b)
front a b = let e = length-append a b in omega (arith, e)

behind : (a b : Seq ℕ) → length a + length b ≡ length (a ++ b)
behind a b = sym (length-append a b)

-- ---- texts in a list, and entries of an object whose names are different

abbrev texts_length : Seq (Seq ℕ) → ℕ
texts_length [] = 0
texts_length (text ∷ texts) = length text + texts_length texts

elements_long : (later : Bool) (texts : Seq (Seq ℕ)) → texts_length texts ≤ length (elements_text later texts)
elements_long later [] = omega arith
elements_long later (text ∷ texts) =
    omega (arith, behind (comma_if later) (text ++ elements_text true texts), behind text (elements_text true texts), elements_long true texts)

abbrev entries_length : Seq Entry → ℕ
entries_length [] = 0
entries_length (e ∷ es) = length (entry_text e) + entries_length es

entries_long : (later : Bool) (es : Seq Entry) → entries_length es ≤ length (entries_text later es)
entries_long later [] = omega arith
entries_long later (e ∷ es) =
    omega (arith, behind (comma_if later) (entry_text e ++ entries_text true es), behind (entry_text e) (entries_text true es), entries_long true es)

abbrev names : Seq Entry → Seq (Seq ℕ)
names es = map (λ (e : Entry). e.0) es

placed_length : (new : Entry) (es : Seq Entry) → AllByRecursion (λ (e : Entry). bytes_eq e.0 new.0 ≡ false) es → entries_length (placed new es) ≡ length (entry_text new) + entries_length es
placed_length new [] apart = refl
placed_length new (e ∷ es) apart = by (placed_length new es apart.1) (slice_cmp nat_cmp e.0 new.0) refl
  where
    by : entries_length (placed new es) ≡ length (entry_text new) + entries_length es → (o : Ordering) → slice_cmp nat_cmp e.0 new.0 ≡ o → entries_length (by_order o (e ∷ placed new es) (e ∷ es) (new ∷ e ∷ es)) ≡ length (entry_text new) + entries_length (e ∷ es)
    by more Less is = omega (arith, more)
    by more Equal is = absurd (false≢true (sym apart.0 ∙ sym (is_eq-slice_cmp e.0 new.0) ∙ ap is_eq is))
    by more Greater is = refl

placed_each : (P : Entry → Type 0) (new : Entry) (es : Seq Entry) → P new → AllByRecursion P es → AllByRecursion P (placed new es)
placed_each P new [] own all = (own, tt)
placed_each P new (e ∷ es) own all = by (placed_each P new es own all.1) (slice_cmp nat_cmp e.0 new.0)
  where
    by : AllByRecursion P (placed new es) → (o : Ordering) → AllByRecursion P (by_order o (e ∷ placed new es) (e ∷ es) (new ∷ e ∷ es))
    by more Less = (all.0, more)
    by more Equal = all
    by more Greater = (own, all)

each_first : (es : Seq Entry) (name : Seq ℕ) (more : Seq (Seq ℕ)) → AllByRecursion (λ (e : Entry). IsNew e.0 (name ∷ more)) es → AllByRecursion (λ (e : Entry). bytes_eq e.0 name ≡ false) es
each_first [] name more all = tt
each_first (e ∷ es) name more all = (all.0.0, each_first es name more all.1)

each_rest : (es : Seq Entry) (name : Seq ℕ) (more : Seq (Seq ℕ)) → AllByRecursion (λ (e : Entry). IsNew e.0 (name ∷ more)) es → AllByRecursion (λ (e : Entry). IsNew e.0 more) es
each_rest [] name more all = tt
each_rest (e ∷ es) name more all = (all.0.1, each_rest es name more all.1)

placed_all_length : (es news : Seq Entry) → AllByRecursion (λ (e : Entry). IsNew e.0 (names news)) es → IsDistinct bytes_eq (names news) → entries_length (placed_all es news) ≡ entries_length es + entries_length news
unfolding IsDistinct
placed_all_length es [] apart distinct = omega arith
placed_all_length es (new ∷ news) apart distinct =
    let own = placed_length new es (each_first es new.0 (names news) apart) in
    let rest = placed_all_length (placed new es) news (placed_each (λ (e : Entry). IsNew e.0 (names news)) new es distinct.0 (each_rest es new.0 (names news) apart)) distinct.1 in
    omega (arith, own, rest)

object_long : (es : Seq Entry) → IsDistinct bytes_eq (names es) → entries_length es ≤ length (object_text es)
unfolding object_text
object_long es distinct =
    omega (
      arith,
      placed_all_length [] es tt distinct,
      entries_long false (in_order es),
      behind (codes "{") (entries_text false (in_order es) ++ codes "}"),
      front (entries_text false (in_order es)) (codes "}"),
    )

-- ---- hits and pages

pages_distinct : (pages : Pages) → AreApart pages → IsDistinct bytes_eq (names (page_entries pages))
unfolding IsDistinct
pages_distinct no_pages apart = tt
pages_distinct (with_page name hits total pages) apart = (others pages apart.0, pages_distinct pages apart.2)
  where
    others : (ps : Pages) → IsNew name (page_names ps) → IsNew name (names (page_entries ps))
    others no_pages new = tt
    others (with_page other hits total ps) new = (new.0, others ps new.1)

source_long : (source : Option (Seq ℕ)) → hit_weight source ≤ 20 + length (source_part source)
source_long None = omega arith
source_long (Some text) = omega (arith, behind (codes ",\"_source\":") text)

inner_long : (es : Seq Entry) → IsDistinct bytes_eq (names es) → entries_length es ≤ length (inner_part es)
inner_long [] distinct = omega arith
inner_long (e ∷ es) distinct = omega (arith, behind (codes ",\"inner_hits\":") (object_text (e ∷ es)), object_long (e ∷ es) distinct)

quoted_long : (text : Seq ℕ) → 2 ≤ length (quoted text)
unfolding quoted
quoted_long text = omega (arith, behind (codes "\"") (escape text ++ codes "\""), behind (escape text) (codes "\""))

head_long : (id : Seq ℕ) (levels : Seq Level) (score : ℕ) → 19 ≤ length (head_part id levels score)
head_long id levels score =
    let placed = place_part levels ++ (codes ",\"_score\":" ++ decimal score) in
    omega (
      arith,
      behind (codes "{\"_id\":") (quoted id ++ placed),
      behind (quoted id) placed,
      quoted_long id,
      behind (place_part levels) (codes ",\"_score\":" ++ decimal score),
      behind (codes ",\"_score\":") (decimal score),
    )

-- what stands around the hits of a page
hits_text_long : (hits : Seq (Seq ℕ)) (total : ℕ) → 20 + texts_length hits ≤ length (hits_text hits total)
hits_text_long hits total =
    let texts = elements_text false hits in
    omega (
      arith,
      ap length (hits_text-line hits total),
      behind (codes "{\"hits\":[") (texts ++ (codes "],\"total\":" ++ (decimal total ++ codes "}"))),
      behind texts (codes "],\"total\":" ++ (decimal total ++ codes "}")),
      behind (codes "],\"total\":") (decimal total ++ codes "}"),
      behind (decimal total) (codes "}"),
      elements_long false hits,
    )

page_long : (name : Seq ℕ) (hits : Seq (Seq ℕ)) (total : ℕ) → 30 + texts_length hits ≤ length (entry_text (entry name (object_text (entry (codes "hits") (hits_text hits total) ∷ []))))
page_long name hits total =
    let inside = object_text (entry (codes "hits") (hits_text hits total) ∷ []) in
    omega (
      arith,
      behind (quoted name) (codes ":" ++ inside),
      quoted_long name,
      behind (codes ":") inside,
      ap length (page_behind hits total),
      behind (codes "{\"hits\":") (hits_text hits total ++ codes "}"),
      behind (hits_text hits total) (codes "}"),
      hits_text_long hits total,
    )

inner_hit_long : (head : InnerHead) (pages : Pages) → AreApart pages → hit_weight head.source + entries_length (page_entries pages) ≤ length (inner_hit_text head (page_entries pages))
unfolding inner_hit_line
inner_hit_long head pages apart =
    let es = page_entries pages in
    omega (
      arith,
      ap length (inner_hit_line-text head es),
      behind (head_part head.id head.levels head.score) (source_part head.source ++ (inner_part es ++ codes "}")),
      head_long head.id head.levels head.score,
      behind (source_part head.source) (inner_part es ++ codes "}"),
      source_long head.source,
      behind (inner_part es) (codes "}"),
      inner_long es (pages_distinct pages apart),
    )

mutual
  pages_long : (pages : Pages) → AreApart pages → pages_weight pages ≤ entries_length (page_entries pages)
  pages_long no_pages apart = omega arith
  pages_long (with_page name hits total pages) apart =
      omega (arith, page_long name (inner_hit_texts hits) total, hits_long hits apart.1, pages_long pages apart.2)

  hits_long : (hits : Hits) → AreApartInside hits → hits_weight hits ≤ texts_length (inner_hit_texts hits)
  hits_long no_hits apart = omega arith
  hits_long (with_hit head pages hits) apart =
      omega (arith, inner_hit_long head pages apart.0, pages_long pages apart.0, hits_long hits apart.1)

-- ---- the hits of a search

hit_long : (hit : Hit) → AreApart (pages_of hit.inner) → whole_weight hit ≤ length (hit_text hit)
unfolding hit_line
hit_long hit apart =
    let es = page_entries (pages_of hit.inner) in
    let sort = codes ",\"sort\":" ++ (sort_text hit.keys hit.number ++ codes "}") in
    omega (
      arith,
      ap length (hit_line-text hit),
      behind (head_part hit.id [] hit.score) (source_part hit.source ++ (inner_part es ++ sort)),
      head_long hit.id [] hit.score,
      behind (source_part hit.source) (inner_part es ++ sort),
      source_long hit.source,
      behind (inner_part es) sort,
      inner_long es (pages_distinct (pages_of hit.inner) apart),
      pages_long (pages_of hit.inner) apart,
      behind (codes ",\"sort\":") (sort_text hit.keys hit.number ++ codes "}"),
    )

whole_hits_long : (hits : Seq Hit) → AllByRecursion (λ (hit : Hit). AreApart (pages_of hit.inner)) hits → sum_by whole_weight hits ≤ texts_length (map hit_text hits)
whole_hits_long [] apart = omega arith
whole_hits_long (hit ∷ hits) apart = omega (arith, sum_by-cons whole_weight hit hits, hit_long hit apart.0, whole_hits_long hits apart.1)

pub found_long : (page : HitPage) (answers : Seq ReplyPart) → ArePagesApart page → page_weight page ≤ length (line_of (Found page answers))
unfolding line_of found_part
found_long page answers apart =
    let first = aggregations_part (answer_entries (replies_of answers)) in
    let texts = elements_text false (map hit_text page.hits) in
    let last = codes "],\"total\":" ++ (decimal page.total ++ codes "}") in
    omega (
      arith,
      ap length (found_part-line page answers),
      behind (codes "{") (found_part page answers ++ codes "}"),
      behind (found_part page answers) (codes "}"),
      behind first (codes "\"hits\":{\"hits\":[" ++ (texts ++ last)),
      behind (codes "\"hits\":{\"hits\":[") (texts ++ last),
      behind texts last,
      elements_long false (map hit_text page.hits),
      whole_hits_long page.hits apart,
    )

pub ruleset weighs = (found_long)
