use Rattle.std.proofs.Common.{◌≡◌, ℕ, ◌+◌, ◌<◌, ◌++◌, List, [], length, map, get_or, Some, None, if◌then◌else◌, sym, ap, subst, ◌∙◌, arith}
use Rattle.std.proofs.lemmas.List.{drop_more}
use Rattle.std.proofs.lemmas.Result.{IfOk-weaker, on_ok_weaker}
use Rattle.std.specs.List.{All, Contains}
use Rattle.nested_sort.specs.Listed.{AreHits, IsHitAt}
use Rattle.query_ast.specs.Definition.{Definition, definitions_of}
use Rattle.query_ast.specs.Inner.{Inner}
use Rattle.query_ast.specs.InnerHits.{inner_pages, levels_of}
use Rattle.query_ast.specs.Pages.{PagePart, hits_of, pages_of}
use Rattle.query_ast.specs.Rows.{paged}
use Rattle.query_ast.specs.declared.hit.InnerPage.{InnerPage}
use Rattle.segment.specs.Live.{EntryState}
use Rattle.segment_parts.specs.declared.columns.Columns.{Columns}
use Rattle.reply_text.specs.Weight.{hits_weight, pages_weight}
use Rattle.tree_json.specs.Text.{compact}
use Rattle.tree_json.specs.Value.{JsonValue}
use Rattle.query_eval.specs.Found.{score_by}
use Rattle.query_eval.specs.declared.side.Side.TheVariants.{Children, Parents}
use Rattle.tree_json.specs.View.{view as seen_as}
use Rattle.tree_objects.specs.Object.{content, root, tree_of}
use Rattle.view_objects.specs.Hits.{live_trees, object_at}
use Rattle.view_objects.specs.declared.hit.Hit.{Hit}
use Rattle.query_ast.specs.Inner.View.{inner_of}
use Rattle.query_ast.specs.Pages.View.{hit_part, page_part}
use Rattle.query_ast.specs.declared.hit.InnerHit.{InnerHit}
use Rattle.tree_json.specs.Reading.{reading}
use Rattle.inner_hits.specs.Hits.{HaveSource, IsOwner, ReadsBack, over_below, row_at, shown_as, some_below}
use Rattle.inner_hits.specs.Kinship.{AreKin}
use Rattle.inner_hits.specs.Steps.{joined_among, joined_in}
use Rattle.inner_hits.specs.declared.joined.Kin.{Kin}
use Rattle.inner_hits.proofs.Between.{doc_low, entry_at}
use Rattle.inner_hits.proofs.Arms.{below_above, below_answered, children_answered, children_kin, parents_answered, parents_kin}
use Rattle.inner_hits.proofs.Objects.{below_source}
use Rattle.inner_hits.proofs.Refusals.{same_refusal}
use Rattle.inner_hits.proofs.Showing.{among_all, empty_children, empty_ignored, empty_parents, hit_is, joined_shown, positive, page_below, page_children, page_parents, same_hits, shown_end, shown_is, shown_more, steps_more, tree_shown}
use Rattle.inner_hits.proofs.Standing.{at_root, kept_root, seen_at, standing_of}
use Rattle.inner_hits.proofs.Weighing.{hit_passes, inner_passes, inner_weighs, pushed_hit, pushed_page}
use Rattle.inner_hits.proofs.pages.+pages.Goals as goal

pub add_pages-returns-in_ok-push-in-len1-up-prepared-clause-room : goal.add_pages-returns-in_ok-push-in-len1-up-prepared-clause-room
add_pages-returns-in_ok-push-in-len1-up-prepared-clause-room g t c =
    on_ok_weaker c.add_pages.result
    (λ (rest : c.page.new.room + pages_weight (pages_of (map page_part c.push.new.self.items)) ≡ c.add_pages.new.room + pages_weight (pages_of (map page_part c.add_pages.new.pages.items))).
    omega (
      arith,
      rest,
      c.in_ok-take_page-in-len1-up-prepared.ensures.taken,
      c.in_ok-page-in-len1-up-prepared.ensures.room,
      pushed_page c.args.pages.now.items c.push.new.self.items c.in_ok-page-in-len1-up-prepared.page c.in_ok-push-in-len1-up-prepared.ensures.items,
    ))
    c.add_pages.ensures.room

pub below_page-returns-clause-page : goal.below_page-returns-clause-page
below_page-returns-clause-page g t c =
    IfOk-weaker c.shown_page.result _ _ (λ page is trees asked.
    let m = c.args.mapping.now in
    let view = c.args.view.now in
    let def = c.args.def.now in
    let hits = c.in_ok-hits.hits.items in
    let o = object_at m trees c.args.place c.args.doc in
    let found = (below_answered m view c.args.ordinals.now def c.args.prepared.now c.args.path c.requires.over c.requires.prepared).0 in
    let above = below_above m c.args.scope def c.args.path c.requires.over c.requires.resolved in
    let are = c.in_ok-hits.ensures.objects m c.args.path (score_by m def.query) trees asked.stands above asked.hit found in
    let those = c.in_ok-hits.ensures.hits m c.args.path (score_by m def.query) trees asked.stands found in
    let source = below_source m trees (score_by m def.query (live_trees trees)) (seen_as c.args.source.now) o c.args.path hits (asked.holds (ap over_below c.requires.over)) are in
    is trees asked.stands asked.kept those source ∙ page_below m trees def o hits c.args.path c.requires.over are)
    c.shown_page.ensures.page

pub below_page-returns-clause-steps : goal.below_page-returns-clause-steps
below_page-returns-clause-steps g t c = λ trees asked.
    let m = c.args.mapping.now in
    let view = c.args.view.now in
    let def = c.args.def.now in
    let hits = c.in_ok-hits.hits.items in
    let o = object_at m trees c.args.place c.args.doc in
    let found = (below_answered m view c.args.ordinals.now def c.args.prepared.now c.args.path c.requires.over c.requires.prepared).0 in
    let above = below_above m c.args.scope def c.args.path c.requires.over c.requires.resolved in
    let are = c.in_ok-hits.ensures.objects m c.args.path (score_by m def.query) trees asked.stands above asked.hit found in
    let those = c.in_ok-hits.ensures.hits m c.args.path (score_by m def.query) trees asked.stands found in
    let source = below_source m trees (score_by m def.query (live_trees trees)) (seen_as c.args.source.now) o c.args.path hits (asked.holds (ap over_below c.requires.over)) are in
    let least = c.shown_page.ensures.steps trees asked.stands asked.kept those source in
    let same = ap (λ (p : PagePart). joined_among p.hits) (page_below m trees def o hits c.args.path c.requires.over are) in
    omega (arith, least, same)

pub below_page-returns-clause-too_large : goal.below_page-returns-clause-too_large
below_page-returns-clause-too_large g t c = λ large trees asked.
    let m = c.args.mapping.now in
    let view = c.args.view.now in
    let def = c.args.def.now in
    let hits = c.in_ok-hits.hits.items in
    let o = object_at m trees c.args.place c.args.doc in
    let found = (below_answered m view c.args.ordinals.now def c.args.prepared.now c.args.path c.requires.over c.requires.prepared).0 in
    let above = below_above m c.args.scope def c.args.path c.requires.over c.requires.resolved in
    let are = c.in_ok-hits.ensures.objects m c.args.path (score_by m def.query) trees asked.stands above asked.hit found in
    let those = c.in_ok-hits.ensures.hits m c.args.path (score_by m def.query) trees asked.stands found in
    let source = below_source m trees (score_by m def.query (live_trees trees)) (seen_as c.args.source.now) o c.args.path hits (asked.holds (ap over_below c.requires.over)) are in
    let least = c.shown_page.ensures.too_large large trees asked.stands asked.kept those source in
    let same = ap (λ (p : PagePart). hits_weight p.hits) (page_below m trees def o hits c.args.path c.requires.over are) in
    omega (arith, least, same)

pub children_page-returns-clause-page : goal.children_page-returns-clause-page
children_page-returns-clause-page g t c =
    IfOk-weaker c.shown_page.result _ _ (λ page is trees asked.
    let m = c.args.mapping.now in
    let view = c.args.view.now in
    let def = c.args.def.now in
    let hits = c.in_ok-hits.hits.items in
    let o = object_at m trees c.args.place c.args.doc in
    let found = (children_answered m view c.args.ordinals.now def c.args.prepared.now c.args.relation c.requires.over c.requires.prepared).0 in
    let kin = subst (λ (l : List Kin). AreKin m c.args.ordinals.now (Children c.args.relation) view c.args.prepared.now.hits l) (sym c.as_slice-kin.ensures.value)
    (children_kin m view c.args.ordinals.now def c.args.prepared.now c.args.relation c.requires.over c.requires.prepared) in
    let root = subst (λ (n : ℕ). IsHitAt m n trees c.args.place c.args.doc) c.if-scope-ne0.false asked.hit in
    let are = c.in_ok-hits.ensures.objects c.args.prepared.now.hits (score_by m def.query) trees asked.stands kin root found in
    let those = c.in_ok-hits.ensures.hits c.args.prepared.now.hits (score_by m def.query) trees asked.stands kin found in
    let source : HaveSource m trees 0 hits (seen_as c.args.source.now) = λ some. absurd (omega (arith, some)) in
    is trees asked.stands asked.kept those source ∙ page_children m trees def o hits c.args.relation c.requires.over are)
    c.shown_page.ensures.page

pub children_page-returns-clause-steps : goal.children_page-returns-clause-steps
children_page-returns-clause-steps g t c = λ trees asked.
    let m = c.args.mapping.now in
    let view = c.args.view.now in
    let def = c.args.def.now in
    let hits = c.in_ok-hits.hits.items in
    let o = object_at m trees c.args.place c.args.doc in
    let found = (children_answered m view c.args.ordinals.now def c.args.prepared.now c.args.relation c.requires.over c.requires.prepared).0 in
    let kin = subst (λ (l : List Kin). AreKin m c.args.ordinals.now (Children c.args.relation) view c.args.prepared.now.hits l) (sym c.as_slice-kin.ensures.value)
    (children_kin m view c.args.ordinals.now def c.args.prepared.now c.args.relation c.requires.over c.requires.prepared) in
    let root = subst (λ (n : ℕ). IsHitAt m n trees c.args.place c.args.doc) c.if-scope-ne0.false asked.hit in
    let are = c.in_ok-hits.ensures.objects c.args.prepared.now.hits (score_by m def.query) trees asked.stands kin root found in
    let those = c.in_ok-hits.ensures.hits c.args.prepared.now.hits (score_by m def.query) trees asked.stands kin found in
    let source : HaveSource m trees 0 hits (seen_as c.args.source.now) = λ some. absurd (omega (arith, some)) in
    let least = c.shown_page.ensures.steps trees asked.stands asked.kept those source in
    let same = ap (λ (p : PagePart). joined_among p.hits) (page_children m trees def o hits c.args.relation c.requires.over are) in
    omega (arith, least, same)

pub children_page-returns-clause-too_large : goal.children_page-returns-clause-too_large
children_page-returns-clause-too_large g t c = λ large trees asked.
    let m = c.args.mapping.now in
    let view = c.args.view.now in
    let def = c.args.def.now in
    let hits = c.in_ok-hits.hits.items in
    let o = object_at m trees c.args.place c.args.doc in
    let found = (children_answered m view c.args.ordinals.now def c.args.prepared.now c.args.relation c.requires.over c.requires.prepared).0 in
    let kin = subst (λ (l : List Kin). AreKin m c.args.ordinals.now (Children c.args.relation) view c.args.prepared.now.hits l) (sym c.as_slice-kin.ensures.value)
    (children_kin m view c.args.ordinals.now def c.args.prepared.now c.args.relation c.requires.over c.requires.prepared) in
    let root = subst (λ (n : ℕ). IsHitAt m n trees c.args.place c.args.doc) c.if-scope-ne0.false asked.hit in
    let are = c.in_ok-hits.ensures.objects c.args.prepared.now.hits (score_by m def.query) trees asked.stands kin root found in
    let those = c.in_ok-hits.ensures.hits c.args.prepared.now.hits (score_by m def.query) trees asked.stands kin found in
    let source : HaveSource m trees 0 hits (seen_as c.args.source.now) = λ some. absurd (omega (arith, some)) in
    let least = c.shown_page.ensures.too_large large trees asked.stands asked.kept those source in
    let same = ap (λ (p : PagePart). hits_weight p.hits) (page_children m trees def o hits c.args.relation c.requires.over are) in
    omega (arith, least, same)

pub parents_page-returns-clause-page : goal.parents_page-returns-clause-page
parents_page-returns-clause-page g t c =
    IfOk-weaker c.shown_page.result _ _ (λ page is trees asked.
    let m = c.args.mapping.now in
    let view = c.args.view.now in
    let def = c.args.def.now in
    let hits = c.in_ok-hits.hits.items in
    let o = object_at m trees c.args.place c.args.doc in
    let found = (parents_answered m view c.args.ordinals.now def c.args.prepared.now c.args.relation c.requires.over c.requires.prepared).0 in
    let kin = subst (λ (l : List Kin). AreKin m c.args.ordinals.now (Parents c.args.relation) view c.args.prepared.now.hits l) (sym c.as_slice-kin.ensures.value)
    (parents_kin m view c.args.ordinals.now def c.args.prepared.now c.args.relation c.requires.over c.requires.prepared) in
    let root = subst (λ (n : ℕ). IsHitAt m n trees c.args.place c.args.doc) c.if-scope-ne0.false asked.hit in
    let are = c.in_ok-hits.ensures.objects c.args.prepared.now.hits (score_by m def.query) trees asked.stands kin root found in
    let those = c.in_ok-hits.ensures.hits c.args.prepared.now.hits (score_by m def.query) trees asked.stands kin found in
    let source : HaveSource m trees 0 hits (seen_as c.args.source.now) = λ some. absurd (omega (arith, some)) in
    is trees asked.stands asked.kept those source ∙ page_parents m trees def o hits c.args.relation c.requires.over are)
    c.shown_page.ensures.page

pub parents_page-returns-clause-steps : goal.parents_page-returns-clause-steps
parents_page-returns-clause-steps g t c = λ trees asked.
    let m = c.args.mapping.now in
    let view = c.args.view.now in
    let def = c.args.def.now in
    let hits = c.in_ok-hits.hits.items in
    let o = object_at m trees c.args.place c.args.doc in
    let found = (parents_answered m view c.args.ordinals.now def c.args.prepared.now c.args.relation c.requires.over c.requires.prepared).0 in
    let kin = subst (λ (l : List Kin). AreKin m c.args.ordinals.now (Parents c.args.relation) view c.args.prepared.now.hits l) (sym c.as_slice-kin.ensures.value)
    (parents_kin m view c.args.ordinals.now def c.args.prepared.now c.args.relation c.requires.over c.requires.prepared) in
    let root = subst (λ (n : ℕ). IsHitAt m n trees c.args.place c.args.doc) c.if-scope-ne0.false asked.hit in
    let are = c.in_ok-hits.ensures.objects c.args.prepared.now.hits (score_by m def.query) trees asked.stands kin root found in
    let those = c.in_ok-hits.ensures.hits c.args.prepared.now.hits (score_by m def.query) trees asked.stands kin found in
    let source : HaveSource m trees 0 hits (seen_as c.args.source.now) = λ some. absurd (omega (arith, some)) in
    let least = c.shown_page.ensures.steps trees asked.stands asked.kept those source in
    let same = ap (λ (p : PagePart). joined_among p.hits) (page_parents m trees def o hits c.args.relation c.requires.over are) in
    omega (arith, least, same)

pub parents_page-returns-clause-too_large : goal.parents_page-returns-clause-too_large
parents_page-returns-clause-too_large g t c = λ large trees asked.
    let m = c.args.mapping.now in
    let view = c.args.view.now in
    let def = c.args.def.now in
    let hits = c.in_ok-hits.hits.items in
    let o = object_at m trees c.args.place c.args.doc in
    let found = (parents_answered m view c.args.ordinals.now def c.args.prepared.now c.args.relation c.requires.over c.requires.prepared).0 in
    let kin = subst (λ (l : List Kin). AreKin m c.args.ordinals.now (Parents c.args.relation) view c.args.prepared.now.hits l) (sym c.as_slice-kin.ensures.value)
    (parents_kin m view c.args.ordinals.now def c.args.prepared.now c.args.relation c.requires.over c.requires.prepared) in
    let root = subst (λ (n : ℕ). IsHitAt m n trees c.args.place c.args.doc) c.if-scope-ne0.false asked.hit in
    let are = c.in_ok-hits.ensures.objects c.args.prepared.now.hits (score_by m def.query) trees asked.stands kin root found in
    let those = c.in_ok-hits.ensures.hits c.args.prepared.now.hits (score_by m def.query) trees asked.stands kin found in
    let source : HaveSource m trees 0 hits (seen_as c.args.source.now) = λ some. absurd (omega (arith, some)) in
    let least = c.shown_page.ensures.too_large large trees asked.stands asked.kept those source in
    let same = ap (λ (p : PagePart). hits_weight p.hits) (page_parents m trees def o hits c.args.relation c.requires.over are) in
    omega (arith, least, same)

pub page-returns-in_ok-empty_page-in-Ignored-clause-page : goal.page-returns-in_ok-empty_page-in-Ignored-clause-page
page-returns-in_ok-empty_page-in-Ignored-clause-page g t c = λ trees asked.
    c.in_ok-empty_page-in-Ignored.ensures ∙ empty_ignored c.args.mapping.now (live_trees trees) c.args.def.now (object_at c.args.mapping.now trees c.args.place c.args.doc) c.in-Ignored.is

pub children_page-returns-then-scope-ne0-clause-page : goal.children_page-returns-then-scope-ne0-clause-page
children_page-returns-then-scope-ne0-clause-page g t c = λ trees asked.
    let m = c.args.mapping.now in
    let here = (seen_at m c.args.scope asked.hit.given (get_or trees c.args.place []) c.args.doc asked.hit.score asked.hit.is).stands_at in
    c.in_ok-empty_page.ensures ∙ empty_children m (live_trees trees) c.args.def.now (object_at m trees c.args.place c.args.doc) c.args.relation c.args.scope c.requires.over here c.if-scope-ne0.true

pub parents_page-returns-then-scope-ne0-clause-page : goal.parents_page-returns-then-scope-ne0-clause-page
parents_page-returns-then-scope-ne0-clause-page g t c = λ trees asked.
    let m = c.args.mapping.now in
    let here = (seen_at m c.args.scope asked.hit.given (get_or trees c.args.place []) c.args.doc asked.hit.score asked.hit.is).stands_at in
    c.in_ok-empty_page.ensures ∙ empty_parents m (live_trees trees) c.args.def.now (object_at m trees c.args.place c.args.doc) c.args.relation c.args.scope c.requires.over here c.if-scope-ne0.true

pub shown_page-returns-clause-page : goal.shown_page-returns-clause-page
shown_page-returns-clause-page g t c = λ trees stands kept are source.
    let m = c.args.mapping.now in
    let def = c.args.def.now in
    let found = c.args.hits.items in
    let page = c.in_ok-page.page.items in
    let among = subst (λ (l : List Hit). All (Contains l) page) c.as_slice-found.ensures.value c.in_ok-page.ensures.among in
    let rows = c.in_ok-page.ensures.page trees stands (subst (λ (l : List Hit). AreHits m c.args.scope trees l) (sym c.as_slice-found.ensures.value) are)
    ∙ ap (λ (l : List Hit). paged def.sort None def.from def.size (map (row_at m trees def.sort) l)) c.as_slice-found.ensures.value in
    let there = subst (λ (l : List Hit). AreHits m c.args.scope trees l) (sym c.as_slice-listed.ensures.value) (among_all (λ (h : Hit). IsHitAt m c.args.scope trees h.place h.doc) found page among are) in
    let held = subst (λ (l : List Hit). HaveSource m trees c.args.scope l (seen_as c.args.source.now)) (sym c.as_slice-listed.ensures.value)
    (λ (some : 0 < c.args.scope). among_all (λ (h : Hit). seen_as c.args.source.now ≡ (tree_of (object_at m trees h.place h.doc)).source) found page among (source some)) in
    shown_is m trees def c.in_ok-copied.field-0 c.of.result (map hit_part c.in_ok-shown.shown.items) c.len.result found page c.in_ok-copied.ensures c.of.ensures (omega (arith, c.len.ensures, c.as_slice-found.ensures.len, ap (λ (l : List Hit). length l) c.as_slice-found.ensures.value)) rows
    (c.in_ok-shown.ensures.hits trees stands kept there held ∙ ap (map (shown_as m trees (inner_of def))) c.as_slice-listed.ensures.value)

pub shown_page-returns-clause-steps : goal.shown_page-returns-clause-steps
shown_page-returns-clause-steps g t c = λ trees stands kept are source.
    let m = c.args.mapping.now in
    let def = c.args.def.now in
    let found = c.args.hits.items in
    let page = c.in_ok-page.page.items in
    let among = subst (λ (l : List Hit). All (Contains l) page) c.as_slice-found.ensures.value c.in_ok-page.ensures.among in
    let rows = c.in_ok-page.ensures.page trees stands (subst (λ (l : List Hit). AreHits m c.args.scope trees l) (sym c.as_slice-found.ensures.value) are)
    ∙ ap (λ (l : List Hit). paged def.sort None def.from def.size (map (row_at m trees def.sort) l)) c.as_slice-found.ensures.value in
    let there = subst (λ (l : List Hit). AreHits m c.args.scope trees l) (sym c.as_slice-listed.ensures.value) (among_all (λ (h : Hit). IsHitAt m c.args.scope trees h.place h.doc) found page among are) in
    let held = subst (λ (l : List Hit). HaveSource m trees c.args.scope l (seen_as c.args.source.now)) (sym c.as_slice-listed.ensures.value)
    (λ (some : 0 < c.args.scope). among_all (λ (h : Hit). seen_as c.args.source.now ≡ (tree_of (object_at m trees h.place h.doc)).source) found page among (source some)) in
    omega (
      arith,
      c.in_ok-shown.ensures.steps trees stands kept there held,
      ap joined_among (same_hits m trees def found page rows),
      ap (λ (l : List Hit). joined_among (hits_of (map (shown_as m trees (inner_of def)) l))) c.as_slice-listed.ensures.value,
    )

pub shown_page-returns-in_err-shown-clause-steps : goal.shown_page-returns-in_err-shown-clause-steps
shown_page-returns-in_err-shown-clause-steps g t c = λ trees stands kept are source.
    let m = c.args.mapping.now in
    let def = c.args.def.now in
    let found = c.args.hits.items in
    let page = c.in_ok-page.page.items in
    let among = subst (λ (l : List Hit). All (Contains l) page) c.as_slice-found.ensures.value c.in_ok-page.ensures.among in
    let rows = c.in_ok-page.ensures.page trees stands (subst (λ (l : List Hit). AreHits m c.args.scope trees l) (sym c.as_slice-found.ensures.value) are)
    ∙ ap (λ (l : List Hit). paged def.sort None def.from def.size (map (row_at m trees def.sort) l)) c.as_slice-found.ensures.value in
    let there = subst (λ (l : List Hit). AreHits m c.args.scope trees l) (sym c.as_slice-listed.ensures.value) (among_all (λ (h : Hit). IsHitAt m c.args.scope trees h.place h.doc) found page among are) in
    let held = subst (λ (l : List Hit). HaveSource m trees c.args.scope l (seen_as c.args.source.now)) (sym c.as_slice-listed.ensures.value)
    (λ (some : 0 < c.args.scope). among_all (λ (h : Hit). seen_as c.args.source.now ≡ (tree_of (object_at m trees h.place h.doc)).source) found page among (source some)) in
    omega (
      arith,
      c.in_err-shown.ensures.steps trees stands kept there held,
      ap joined_among (same_hits m trees def found page rows),
      ap (λ (l : List Hit). joined_among (hits_of (map (shown_as m trees (inner_of def)) l))) c.as_slice-listed.ensures.value,
    )

pub shown_page-returns-in_err-shown-clause-too_large : goal.shown_page-returns-in_err-shown-clause-too_large
shown_page-returns-in_err-shown-clause-too_large g t c = λ large trees stands kept are source.
    let m = c.args.mapping.now in
    let def = c.args.def.now in
    let found = c.args.hits.items in
    let page = c.in_ok-page.page.items in
    let among = subst (λ (l : List Hit). All (Contains l) page) c.as_slice-found.ensures.value c.in_ok-page.ensures.among in
    let rows = c.in_ok-page.ensures.page trees stands (subst (λ (l : List Hit). AreHits m c.args.scope trees l) (sym c.as_slice-found.ensures.value) are)
    ∙ ap (λ (l : List Hit). paged def.sort None def.from def.size (map (row_at m trees def.sort) l)) c.as_slice-found.ensures.value in
    let there = subst (λ (l : List Hit). AreHits m c.args.scope trees l) (sym c.as_slice-listed.ensures.value) (among_all (λ (h : Hit). IsHitAt m c.args.scope trees h.place h.doc) found page among are) in
    let held = subst (λ (l : List Hit). HaveSource m trees c.args.scope l (seen_as c.args.source.now)) (sym c.as_slice-listed.ensures.value)
    (λ (some : 0 < c.args.scope). among_all (λ (h : Hit). seen_as c.args.source.now ≡ (tree_of (object_at m trees h.place h.doc)).source) found page among (source some)) in
    omega (
      arith,
      c.in_err-shown.ensures.too_large (same_refusal c.from_residual-in_err-shown.result c.from_residual-in_err-shown.ensures.1 large) trees stands kept there held,
      ap hits_weight (same_hits m trees def found page rows),
      ap (λ (l : List Hit). hits_weight (hits_of (map (shown_as m trees (inner_of def)) l))) c.as_slice-listed.ensures.value,
    )

pub shown_page-returns-in_err-copied-clause-steps : goal.shown_page-returns-in_err-copied-clause-steps
shown_page-returns-in_err-copied-clause-steps g t c = λ trees stands kept are source.
    let m = c.args.mapping.now in
    let def = c.args.def.now in
    let found = c.args.hits.items in
    let page = c.in_ok-page.page.items in
    let among = subst (λ (l : List Hit). All (Contains l) page) c.as_slice-found.ensures.value c.in_ok-page.ensures.among in
    let rows = c.in_ok-page.ensures.page trees stands (subst (λ (l : List Hit). AreHits m c.args.scope trees l) (sym c.as_slice-found.ensures.value) are)
    ∙ ap (λ (l : List Hit). paged def.sort None def.from def.size (map (row_at m trees def.sort) l)) c.as_slice-found.ensures.value in
    let there = subst (λ (l : List Hit). AreHits m c.args.scope trees l) (sym c.as_slice-listed.ensures.value) (among_all (λ (h : Hit). IsHitAt m c.args.scope trees h.place h.doc) found page among are) in
    let held = subst (λ (l : List Hit). HaveSource m trees c.args.scope l (seen_as c.args.source.now)) (sym c.as_slice-listed.ensures.value)
    (λ (some : 0 < c.args.scope). among_all (λ (h : Hit). seen_as c.args.source.now ≡ (tree_of (object_at m trees h.place h.doc)).source) found page among (source some)) in
    omega (
      arith,
      c.in_ok-shown.ensures.steps trees stands kept there held,
      ap joined_among (same_hits m trees def found page rows),
      ap (λ (l : List Hit). joined_among (hits_of (map (shown_as m trees (inner_of def)) l))) c.as_slice-listed.ensures.value,
    )

pub shown_hits-hits-init : goal.shown_hits-hits-init
shown_hits-hits-init g t c = (
  omega (arith, ap (λ (l : List InnerHit). hits_weight (hits_of (map hit_part l))) c.in_ok-shown.ensures.items),
  λ trees stands kept are source. (
    ap (λ (l : List InnerHit). map hit_part l ++ map (shown_as c.args.mapping.now trees (inner_of c.args.def.now)) c.args.hits.now) c.in_ok-shown.ensures.items,
    omega arith,
  ),
)

pub shown_hits-hits-preserved : goal.shown_hits-hits-preserved
shown_hits-hits-preserved g t c = (
  omega (arith, c.hits.invariant.0, c.in_ok-one.ensures.room, c.in_ok-take_hit.ensures.taken, pushed_hit c.hits.shown.items c.push.new.self.items c.in_ok-one.one c.in_ok-push.ensures.items),
  λ trees stands kept are source.
      let m = c.args.mapping.now in
      let hits = c.args.hits.now in
      let i = c.hits.hit-index in
      let f = shown_as m trees (inner_of c.args.def.now) in
      let prior = c.hits.invariant.1 trees stands kept are source in (
        shown_more f hits i _ c.hits.shown.items c.push.new.self.items c.in_ok-one.one (drop_more hits i _ c.hits-test.true)
            (c.in_ok-one.ensures.hit trees stands kept (are i _ c.hits-test.true) (λ some. source some i _ c.hits-test.true)) c.in_ok-push.ensures.items prior.0,
        steps_more f hits i _ _ _ _ (drop_more hits i _ c.hits-test.true) (c.in_ok-one.ensures.steps trees stands kept (are i _ c.hits-test.true) (λ some. source some i _ c.hits-test.true)) prior.1,
      ),
)

pub shown_hits-returns-in_err-one-clause-steps : goal.shown_hits-returns-in_err-one-clause-steps
shown_hits-returns-in_err-one-clause-steps g t c = λ trees stands kept are source.
    let m = c.args.mapping.now in
    let hits = c.args.hits.now in
    let i = c.hits.hit-index in
    let prior = c.hits.invariant.1 trees stands kept are source in
    let more = steps_more (shown_as m trees (inner_of c.args.def.now)) hits i _ _ _ _ (drop_more hits i _ c.hits-test.true)
    (c.in_err-one.ensures.steps trees stands kept (are i _ c.hits-test.true) (λ some. source some i _ c.hits-test.true)) prior.1 in
    omega (arith, more)

pub shown_hits-returns-in_err-push-clause-steps : goal.shown_hits-returns-in_err-push-clause-steps
shown_hits-returns-in_err-push-clause-steps g t c = λ trees stands kept are source.
    let m = c.args.mapping.now in
    let hits = c.args.hits.now in
    let i = c.hits.hit-index in
    let prior = c.hits.invariant.1 trees stands kept are source in
    let more = steps_more (shown_as m trees (inner_of c.args.def.now)) hits i _ _ _ _ (drop_more hits i _ c.hits-test.true)
    (c.in_ok-one.ensures.steps trees stands kept (are i _ c.hits-test.true) (λ some. source some i _ c.hits-test.true)) prior.1 in
    omega (arith, more)

pub shown_hits-returns-in_err-take_hit-clause-steps : goal.shown_hits-returns-in_err-take_hit-clause-steps
shown_hits-returns-in_err-take_hit-clause-steps g t c = λ trees stands kept are source.
    let m = c.args.mapping.now in
    let hits = c.args.hits.now in
    let i = c.hits.hit-index in
    let prior = c.hits.invariant.1 trees stands kept are source in
    let more = steps_more (shown_as m trees (inner_of c.args.def.now)) hits i _ _ _ _ (drop_more hits i _ c.hits-test.true)
    (c.in_ok-one.ensures.steps trees stands kept (are i _ c.hits-test.true) (λ some. source some i _ c.hits-test.true)) prior.1 in
    omega (arith, more)

pub shown_hits-returns-in_err-one-clause-too_large : goal.shown_hits-returns-in_err-one-clause-too_large
shown_hits-returns-in_err-one-clause-too_large g t c = λ large trees stands kept are source.
    let hits = c.args.hits.now in
    let i = c.hits.hit-index in
    let prior = c.hits.invariant.1 trees stands kept are source in
    let more = inner_passes (shown_as c.args.mapping.now trees (inner_of c.args.def.now)) hits i _ c.hits.shown.items _ (drop_more hits i _ c.hits-test.true) prior.0
    (c.in_err-one.ensures.too_large (same_refusal c.from_residual-in_err-one.result c.from_residual-in_err-one.ensures.1 large) trees stands kept (are i _ c.hits-test.true) (λ some. source some i _ c.hits-test.true)) in
    omega (arith, c.hits.invariant.0, more)

pub shown_hits-returns-in_err-take_hit-clause-too_large : goal.shown_hits-returns-in_err-take_hit-clause-too_large
shown_hits-returns-in_err-take_hit-clause-too_large g t c = λ large trees stands kept are source.
    let hits = c.args.hits.now in
    let i = c.hits.hit-index in
    let prior = c.hits.invariant.1 trees stands kept are source in
    let more = hit_passes (shown_as c.args.mapping.now trees (inner_of c.args.def.now)) hits i _ c.hits.shown.items c.in_ok-one.one _ (drop_more hits i _ c.hits-test.true) prior.0
    (c.in_ok-one.ensures.hit trees stands kept (are i _ c.hits-test.true) (λ some. source some i _ c.hits-test.true)) c.in_err-take_hit.ensures.too_large in
    omega (arith, c.hits.invariant.0, c.in_ok-one.ensures.room, more)

pub shown_hits-returns-clause-hits : goal.shown_hits-returns-clause-hits
shown_hits-returns-clause-hits g t c = λ trees stands kept are source.
    shown_end (shown_as c.args.mapping.now trees (inner_of c.args.def.now)) c.args.hits.now c.hits.hit-index c.hits.shown.items (omega (arith, c.hits-test.false)) ((c.hits.invariant.1 trees stands kept are source).0)

pub nested_hit-root_id-requires : goal.nested_hit-root_id-requires
nested_hit-root_id-requires g t c =
    subst (λ (x : Columns). c.args.hit.doc < x.documents) (sym c.segment-segment.ensures) (doc_low c.args.view.now c.args.hit.place c.args.hit.doc c.index-entries-place.result c.requires.doc (c.index-entries-place.is ∙ ap (λ (l : List EntryState). get_or l c.args.hit.place c.index-entries-place.result) c.entries.ensures.entries))

pub nested_hit-returns-clause-hit : goal.nested_hit-returns-clause-hit
nested_hit-returns-clause-hit g t c = λ trees asked.
    let m = c.args.mapping.now in
    let hit = c.args.hit in
    let entry = c.index-entries-place.result in
    let ts = get_or trees hit.place [] in
    let o = object_at m trees hit.place hit.doc in
    let at = entry_at c.args.view.now hit.place hit.doc entry c.requires.doc (c.index-entries-place.is ∙ ap (λ (l : List EntryState). get_or l hit.place entry) c.entries.ensures.entries) in
    let there = standing_of m c.args.view.now trees hit.place entry c.segment-segment.result.now asked.stands at c.segment-segment.ensures in
    let here = (seen_at m c.args.scope asked.hit.given ts hit.doc asked.hit.score asked.hit.is).stands_at in
    let found = c.in_ok-found.ensures entry.live ts there here asked.holds in
    hit_is m trees c.args.def.now hit c.in_ok-root_id.field-0 c.of.result c.in_ok-text.text c.of-2.result
    (c.in_ok-root_id.ensures m entry.live ts there) (c.of.ensures ∙ found.levels)
    (c.in_ok-text.ensures ∙ ap (λ (v : JsonValue). if c.args.def.now.source then Some (compact v) else None) found.holds)
    (c.of-2.ensures ∙ c.in_ok-add_pages.ensures.pages trees (record { stands = asked.stands; kept = asked.kept; hit = asked.hit; holds = λ need. asked.holds })
    ∙ ap (λ (l : List InnerPage). map page_part l ++ inner_pages m (live_trees trees) (definitions_of (map inner_of c.as_slice.result.now)) o) c.new-pages.ensures.items
    ∙ ap (λ (ds : List (Definition Inner)). inner_pages m (live_trees trees) (definitions_of ds) o) c.as_slice.ensures)

pub nested_hit-returns-clause-steps : goal.nested_hit-returns-clause-steps
nested_hit-returns-clause-steps g t c = λ trees asked.
    let m = c.args.mapping.now in
    let o = object_at m trees c.args.hit.place c.args.hit.doc in
    omega (arith, c.in_ok-add_pages.ensures.steps trees (record { stands = asked.stands; kept = asked.kept; hit = asked.hit; holds = λ need. asked.holds }), joined_shown m trees c.args.def.now c.args.hit, ap (λ (ds : List (Definition Inner)). joined_in (pages_of (inner_pages m (live_trees trees) (definitions_of ds) o))) c.as_slice.ensures)

pub nested_hit-returns-in_err-add_pages-clause-steps : goal.nested_hit-returns-in_err-add_pages-clause-steps
nested_hit-returns-in_err-add_pages-clause-steps g t c = λ trees asked.
    let m = c.args.mapping.now in
    let o = object_at m trees c.args.hit.place c.args.hit.doc in
    omega (arith, c.in_err-add_pages.ensures.steps trees (record { stands = asked.stands; kept = asked.kept; hit = asked.hit; holds = λ need. asked.holds }), joined_shown m trees c.args.def.now c.args.hit, ap (λ (ds : List (Definition Inner)). joined_in (pages_of (inner_pages m (live_trees trees) (definitions_of ds) o))) c.as_slice.ensures)

pub nested_hit-returns-in_err-add_pages-clause-too_large : goal.nested_hit-returns-in_err-add_pages-clause-too_large
nested_hit-returns-in_err-add_pages-clause-too_large g t c = λ large trees asked.
    let m = c.args.mapping.now in
    let o = object_at m trees c.args.hit.place c.args.hit.doc in
    omega (arith, c.in_err-add_pages.ensures.too_large (same_refusal c.from_residual-in_err-add_pages.result c.from_residual-in_err-add_pages.ensures.1 large) trees (record { stands = asked.stands; kept = asked.kept; hit = asked.hit; holds = λ need. asked.holds }), inner_weighs m trees c.args.def.now c.args.hit, ap (λ (ds : List (Definition Inner)). pages_weight (pages_of (inner_pages m (live_trees trees) (definitions_of ds) o))) c.as_slice.ensures)

pub nested_hit-returns-in_err-root_id-clause-steps : goal.nested_hit-returns-in_err-root_id-clause-steps
nested_hit-returns-in_err-root_id-clause-steps g t c = λ trees asked.
    let m = c.args.mapping.now in
    let o = object_at m trees c.args.hit.place c.args.hit.doc in
    omega (arith, c.in_ok-add_pages.ensures.steps trees (record { stands = asked.stands; kept = asked.kept; hit = asked.hit; holds = λ need. asked.holds }), joined_shown m trees c.args.def.now c.args.hit, ap (λ (ds : List (Definition Inner)). joined_in (pages_of (inner_pages m (live_trees trees) (definitions_of ds) o))) c.as_slice.ensures)

pub shown_hit-returns-clause-hit : goal.shown_hit-returns-clause-hit
shown_hit-returns-clause-hit g t c = λ trees stands kept hit holds.
    c.in_ok-nested_hit.ensures.hit trees (record { stands = stands; kept = kept; hit = hit; holds = holds (positive c.args.scope c.if-scope-eq0.false) })

pub shown_hit-returns-clause-steps : goal.shown_hit-returns-clause-steps
shown_hit-returns-clause-steps g t c = λ trees stands kept hit holds.
    c.in_ok-nested_hit.ensures.steps trees (record { stands = stands; kept = kept; hit = hit; holds = holds (positive c.args.scope c.if-scope-eq0.false) })

pub shown_hit-returns-in_err-nested_hit-clause-steps : goal.shown_hit-returns-in_err-nested_hit-clause-steps
shown_hit-returns-in_err-nested_hit-clause-steps g t c = λ trees stands kept hit holds.
    c.in_err-nested_hit.ensures.steps trees (record { stands = stands; kept = kept; hit = hit; holds = holds (positive c.args.scope c.if-scope-eq0.false) })

pub shown_hit-returns-in_err-nested_hit-clause-too_large : goal.shown_hit-returns-in_err-nested_hit-clause-too_large
shown_hit-returns-in_err-nested_hit-clause-too_large g t c = λ large trees stands kept hit holds.
    c.in_err-nested_hit.ensures.too_large (same_refusal c.from_residual-in_err-nested_hit.result c.from_residual-in_err-nested_hit.ensures.1 large) trees (record { stands = stands; kept = kept; hit = hit; holds = holds (positive c.args.scope c.if-scope-eq0.false) })

pub tree_hit-fetched-requires : goal.tree_hit-fetched-requires
tree_hit-fetched-requires g t c =
    subst (λ (x : Columns). c.args.hit.doc < x.documents) (sym c.segment-segment.ensures) (doc_low c.args.view.now c.args.hit.place c.args.hit.doc c.index-entries-place.result c.requires.doc (c.index-entries-place.is ∙ ap (λ (l : List EntryState). get_or l c.args.hit.place c.index-entries-place.result) c.entries.ensures.entries))

pub tree_hit-root_id-requires : goal.tree_hit-root_id-requires
tree_hit-root_id-requires g t c =
    subst (λ (x : Columns). c.args.hit.doc < x.documents) (sym c.segment-segment.ensures) (doc_low c.args.view.now c.args.hit.place c.args.hit.doc c.index-entries-place.result c.requires.doc (c.index-entries-place.is ∙ ap (λ (l : List EntryState). get_or l c.args.hit.place c.index-entries-place.result) c.entries.ensures.entries))

pub tree_hit-returns-then-is_empty-clause-hit : goal.tree_hit-returns-then-is_empty-clause-hit
tree_hit-returns-then-is_empty-clause-hit g t c = λ trees stands kept hit.
    let m = c.args.mapping.now in
    let view = c.args.view.now in
    let place = c.args.hit.place in
    let doc = c.args.hit.doc in
    let ts = get_or trees place [] in
    let o = object_at m trees place doc in
    let in_root : o ≡ root (tree_of o) = at_root m (λ trees doc is low. c.documents_are_of_objects.ensures.trees m trees doc is low) view trees place doc stands hit in
    let bound = tree_shown m trees c.args.def.now c.args.hit in_root in
    let entry = c.index-entries-place.result in
    let at = entry_at view place doc entry c.requires.doc (c.index-entries-place.is ∙ ap (λ (l : List EntryState). get_or l c.args.hit.place c.index-entries-place.result) c.entries.ensures.entries) in
    let there = standing_of m view trees place entry c.segment-segment.result.now stands at c.segment-segment.ensures in
    c.in_ok-bare_hit.ensures.hit m entry.live trees there in_root

pub tree_hit-returns-then-is_empty-clause-steps : goal.tree_hit-returns-then-is_empty-clause-steps
tree_hit-returns-then-is_empty-clause-steps g t c = λ trees stands kept hit.
    let m = c.args.mapping.now in
    let view = c.args.view.now in
    let place = c.args.hit.place in
    let doc = c.args.hit.doc in
    let ts = get_or trees place [] in
    let o = object_at m trees place doc in
    let in_root : o ≡ root (tree_of o) = at_root m (λ trees doc is low. c.documents_are_of_objects.ensures.trees m trees doc is low) view trees place doc stands hit in
    let bound = tree_shown m trees c.args.def.now c.args.hit in_root in
    omega (arith, c.in_ok-bare_hit.ensures.step, bound)

pub tree_hit-returns-in_err-bare_hit-clause-steps : goal.tree_hit-returns-in_err-bare_hit-clause-steps
tree_hit-returns-in_err-bare_hit-clause-steps g t c = λ trees stands kept hit.
    let m = c.args.mapping.now in
    let view = c.args.view.now in
    let place = c.args.hit.place in
    let doc = c.args.hit.doc in
    let ts = get_or trees place [] in
    let o = object_at m trees place doc in
    let in_root : o ≡ root (tree_of o) = at_root m (λ trees doc is low. c.documents_are_of_objects.ensures.trees m trees doc is low) view trees place doc stands hit in
    let bound = tree_shown m trees c.args.def.now c.args.hit in_root in
    omega (arith, c.in_err-bare_hit.ensures.step, bound)

pub tree_hit-returns-in_err-text-clause-steps : goal.tree_hit-returns-in_err-text-clause-steps
tree_hit-returns-in_err-text-clause-steps g t c = λ trees stands kept hit.
    let m = c.args.mapping.now in
    let view = c.args.view.now in
    let place = c.args.hit.place in
    let doc = c.args.hit.doc in
    let ts = get_or trees place [] in
    let o = object_at m trees place doc in
    let in_root : o ≡ root (tree_of o) = at_root m (λ trees doc is low. c.documents_are_of_objects.ensures.trees m trees doc is low) view trees place doc stands hit in
    let bound = tree_shown m trees c.args.def.now c.args.hit in_root in
    omega (arith, c.in_err-text.ensures.step, bound)

pub tree_hit-returns-in_err-source-clause-steps : goal.tree_hit-returns-in_err-source-clause-steps
tree_hit-returns-in_err-source-clause-steps g t c = λ trees stands kept hit.
    let m = c.args.mapping.now in
    let view = c.args.view.now in
    let place = c.args.hit.place in
    let doc = c.args.hit.doc in
    let ts = get_or trees place [] in
    let o = object_at m trees place doc in
    let in_root : o ≡ root (tree_of o) = at_root m (λ trees doc is low. c.documents_are_of_objects.ensures.trees m trees doc is low) view trees place doc stands hit in
    let bound = tree_shown m trees c.args.def.now c.args.hit in_root in
    omega (arith, c.in_ok-text.ensures.step, bound)

pub tree_hit-returns-clause-hit : goal.tree_hit-returns-clause-hit
tree_hit-returns-clause-hit g t c = λ trees stands kept hit.
    let m = c.args.mapping.now in
    let view = c.args.view.now in
    let place = c.args.hit.place in
    let doc = c.args.hit.doc in
    let ts = get_or trees place [] in
    let o = object_at m trees place doc in
    let in_root : o ≡ root (tree_of o) = at_root m (λ trees doc is low. c.documents_are_of_objects.ensures.trees m trees doc is low) view trees place doc stands hit in
    let bound = tree_shown m trees c.args.def.now c.args.hit in_root in
    let entry = c.index-entries-place.result in
    let at = entry_at view place doc entry c.requires.doc (c.index-entries-place.is ∙ ap (λ (l : List EntryState). get_or l c.args.hit.place c.index-entries-place.result) c.entries.ensures.entries) in
    let there = standing_of m view trees place entry c.segment-segment.result.now stands at c.segment-segment.ensures in
    let text = c.in_ok-text.ensures.source m entry.live ts there in
    let reads : ReadsBack (tree_of o) = kept_root m (λ trees doc is low. c.documents_are_of_objects.ensures.trees m trees doc is low) view trees place doc stands kept hit in
    let asked : IsOwner m view trees 0 place doc _ _ = record { stands = stands; kept = kept; hit = hit; holds = λ need. c.in_ok-source.ensures (tree_of o).source (sym (ap (λ (ds : List (Definition Inner)). some_below (definitions_of ds)) c.as_slice-3.ensures) ∙ need) (ap reading (c.as_slice-2.ensures.value ∙ text) ∙ reads) } in
    hit_is m trees c.args.def.now c.args.hit c.in_ok-root_id.field-0 c.of.result c.if_asked.result c.of-2.result
    (c.in_ok-root_id.ensures m entry.live ts there)
    (c.of.ensures ∙ c.new.ensures.items ∙ sym (ap (levels_of m) in_root))
    (c.if_asked.ensures ∙ ap (λ (s : List ℕ). if c.args.def.now.source then Some s else None) text ∙ ap (λ (v : JsonValue). if c.args.def.now.source then Some (compact v) else None) (sym (ap content in_root)))
    (c.of-2.ensures ∙ c.in_ok-add_pages.ensures.pages trees asked
    ∙ ap (λ (l : List InnerPage). map page_part l ++ inner_pages m (live_trees trees) (definitions_of (map inner_of c.as_slice-3.result.now)) o) c.new-pages.ensures.items
    ∙ ap (λ (ds : List (Definition Inner)). inner_pages m (live_trees trees) (definitions_of ds) o) c.as_slice-3.ensures)

pub tree_hit-returns-clause-steps : goal.tree_hit-returns-clause-steps
tree_hit-returns-clause-steps g t c = λ trees stands kept hit.
    let m = c.args.mapping.now in
    let view = c.args.view.now in
    let place = c.args.hit.place in
    let doc = c.args.hit.doc in
    let ts = get_or trees place [] in
    let o = object_at m trees place doc in
    let in_root : o ≡ root (tree_of o) = at_root m (λ trees doc is low. c.documents_are_of_objects.ensures.trees m trees doc is low) view trees place doc stands hit in
    let bound = tree_shown m trees c.args.def.now c.args.hit in_root in
    let entry = c.index-entries-place.result in
    let at = entry_at view place doc entry c.requires.doc (c.index-entries-place.is ∙ ap (λ (l : List EntryState). get_or l c.args.hit.place c.index-entries-place.result) c.entries.ensures.entries) in
    let there = standing_of m view trees place entry c.segment-segment.result.now stands at c.segment-segment.ensures in
    let text = c.in_ok-text.ensures.source m entry.live ts there in
    let reads : ReadsBack (tree_of o) = kept_root m (λ trees doc is low. c.documents_are_of_objects.ensures.trees m trees doc is low) view trees place doc stands kept hit in
    let asked : IsOwner m view trees 0 place doc _ _ = record { stands = stands; kept = kept; hit = hit; holds = λ need. c.in_ok-source.ensures (tree_of o).source (sym (ap (λ (ds : List (Definition Inner)). some_below (definitions_of ds)) c.as_slice-3.ensures) ∙ need) (ap reading (c.as_slice-2.ensures.value ∙ text) ∙ reads) } in
    omega (
      arith,
      c.in_ok-text.ensures.step,
      c.in_ok-add_pages.ensures.steps trees asked,
      bound,
      ap (λ (ds : List (Definition Inner)). joined_in (pages_of (inner_pages m (live_trees trees) (definitions_of ds) o))) c.as_slice-3.ensures,
    )

pub tree_hit-returns-in_err-add_pages-clause-steps : goal.tree_hit-returns-in_err-add_pages-clause-steps
tree_hit-returns-in_err-add_pages-clause-steps g t c = λ trees stands kept hit.
    let m = c.args.mapping.now in
    let view = c.args.view.now in
    let place = c.args.hit.place in
    let doc = c.args.hit.doc in
    let ts = get_or trees place [] in
    let o = object_at m trees place doc in
    let in_root : o ≡ root (tree_of o) = at_root m (λ trees doc is low. c.documents_are_of_objects.ensures.trees m trees doc is low) view trees place doc stands hit in
    let bound = tree_shown m trees c.args.def.now c.args.hit in_root in
    let entry = c.index-entries-place.result in
    let at = entry_at view place doc entry c.requires.doc (c.index-entries-place.is ∙ ap (λ (l : List EntryState). get_or l c.args.hit.place c.index-entries-place.result) c.entries.ensures.entries) in
    let there = standing_of m view trees place entry c.segment-segment.result.now stands at c.segment-segment.ensures in
    let text = c.in_ok-text.ensures.source m entry.live ts there in
    let reads : ReadsBack (tree_of o) = kept_root m (λ trees doc is low. c.documents_are_of_objects.ensures.trees m trees doc is low) view trees place doc stands kept hit in
    let asked : IsOwner m view trees 0 place doc _ _ = record { stands = stands; kept = kept; hit = hit; holds = λ need. c.in_ok-source.ensures (tree_of o).source (sym (ap (λ (ds : List (Definition Inner)). some_below (definitions_of ds)) c.as_slice-3.ensures) ∙ need) (ap reading (c.as_slice-2.ensures.value ∙ text) ∙ reads) } in
    omega (
      arith,
      c.in_ok-text.ensures.step,
      c.in_err-add_pages.ensures.steps trees asked,
      bound,
      ap (λ (ds : List (Definition Inner)). joined_in (pages_of (inner_pages m (live_trees trees) (definitions_of ds) o))) c.as_slice-3.ensures,
    )

pub tree_hit-returns-in_err-add_pages-clause-too_large : goal.tree_hit-returns-in_err-add_pages-clause-too_large
tree_hit-returns-in_err-add_pages-clause-too_large g t c = λ large trees stands kept hit.
    let m = c.args.mapping.now in
    let view = c.args.view.now in
    let place = c.args.hit.place in
    let doc = c.args.hit.doc in
    let ts = get_or trees place [] in
    let o = object_at m trees place doc in
    let in_root : o ≡ root (tree_of o) = at_root m (λ trees doc is low. c.documents_are_of_objects.ensures.trees m trees doc is low) view trees place doc stands hit in
    let entry = c.index-entries-place.result in
    let at = entry_at view place doc entry c.requires.doc (c.index-entries-place.is ∙ ap (λ (l : List EntryState). get_or l c.args.hit.place c.index-entries-place.result) c.entries.ensures.entries) in
    let there = standing_of m view trees place entry c.segment-segment.result.now stands at c.segment-segment.ensures in
    let text = c.in_ok-text.ensures.source m entry.live ts there in
    let reads : ReadsBack (tree_of o) = kept_root m (λ trees doc is low. c.documents_are_of_objects.ensures.trees m trees doc is low) view trees place doc stands kept hit in
    let asked : IsOwner m view trees 0 place doc _ _ = record { stands = stands; kept = kept; hit = hit; holds = λ need. c.in_ok-source.ensures (tree_of o).source (sym (ap (λ (ds : List (Definition Inner)). some_below (definitions_of ds)) c.as_slice-3.ensures) ∙ need) (ap reading (c.as_slice-2.ensures.value ∙ text) ∙ reads) } in
    omega (
      arith,
      c.in_err-add_pages.ensures.too_large (same_refusal c.from_residual-in_err-add_pages.result c.from_residual-in_err-add_pages.ensures.1 large) trees asked,
      inner_weighs m trees c.args.def.now c.args.hit,
      ap (λ (ds : List (Definition Inner)). pages_weight (pages_of (inner_pages m (live_trees trees) (definitions_of ds) o))) c.as_slice-3.ensures,
    )

pub tree_hit-returns-in_err-root_id-clause-steps : goal.tree_hit-returns-in_err-root_id-clause-steps
tree_hit-returns-in_err-root_id-clause-steps g t c = λ trees stands kept hit.
    let m = c.args.mapping.now in
    let view = c.args.view.now in
    let place = c.args.hit.place in
    let doc = c.args.hit.doc in
    let ts = get_or trees place [] in
    let o = object_at m trees place doc in
    let in_root : o ≡ root (tree_of o) = at_root m (λ trees doc is low. c.documents_are_of_objects.ensures.trees m trees doc is low) view trees place doc stands hit in
    let bound = tree_shown m trees c.args.def.now c.args.hit in_root in
    let entry = c.index-entries-place.result in
    let at = entry_at view place doc entry c.requires.doc (c.index-entries-place.is ∙ ap (λ (l : List EntryState). get_or l c.args.hit.place c.index-entries-place.result) c.entries.ensures.entries) in
    let there = standing_of m view trees place entry c.segment-segment.result.now stands at c.segment-segment.ensures in
    let text = c.in_ok-text.ensures.source m entry.live ts there in
    let reads : ReadsBack (tree_of o) = kept_root m (λ trees doc is low. c.documents_are_of_objects.ensures.trees m trees doc is low) view trees place doc stands kept hit in
    let asked : IsOwner m view trees 0 place doc _ _ = record { stands = stands; kept = kept; hit = hit; holds = λ need. c.in_ok-source.ensures (tree_of o).source (sym (ap (λ (ds : List (Definition Inner)). some_below (definitions_of ds)) c.as_slice-3.ensures) ∙ need) (ap reading (c.as_slice-2.ensures.value ∙ text) ∙ reads) } in
    omega (
      arith,
      c.in_ok-text.ensures.step,
      c.in_ok-add_pages.ensures.steps trees asked,
      bound,
      ap (λ (ds : List (Definition Inner)). joined_in (pages_of (inner_pages m (live_trees trees) (definitions_of ds) o))) c.as_slice-3.ensures,
    )
