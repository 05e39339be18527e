use Rattle.std.proofs.Common.{None, [], option_map, refl, true, ap, ◌∙◌}
use Rattle.hit_order.specs.Reach.{first_of_row}
use Rattle.std.specs.List.{flat_map}
use Rattle.view_objects.specs.Hits.{hits_in}
use Rattle.nested_sort.specs.Reached.{hit_within, key_by}
use Rattle.nested_sort.proofs.Reaches.{after_first, after_of, all_chosen, have_pages, some_capped, some_chosen}
use Rattle.nested_sort.proofs.reached.hits_within.Goals as goal

pub kept_hits-requires-clause-asked : goal.kept_hits-requires-clause-asked
kept_hits-requires-clause-asked c = c.in-Some.ensures.asked c.args.entries.now c.requires.filters

pub returns-in_ok-hits_found-in-empty-clause-chosen : goal.returns-in_ok-hits_found-in-empty-clause-chosen
returns-in_ok-hits_found-in-empty-clause-chosen c = ((λ hit. true), c.in_ok-hits_found-in-empty.ensures.hits ∙ all_chosen (hits_in c.args.found.now))

pub returns-in_ok-hits_found-in-None-clause-chosen : goal.returns-in_ok-hits_found-in-None-clause-chosen
returns-in_ok-hits_found-in-None-clause-chosen c = ((λ hit. true), c.in_ok-hits_found-in-None.ensures.hits ∙ all_chosen (hits_in c.args.found.now))

pub returns-in_ok-hits-in-Some-clause-chosen : goal.returns-in_ok-hits-in-Some-clause-chosen
returns-in_ok-hits-in-Some-clause-chosen c =
    some_chosen c.args.mapping.now c.args.entries.now c.args.scope c.args.filters.now c.args.sorts.now c.first-item.result (after_of c.args.after) c.args.most (hits_in c.args.found.now) c.in_ok-hits-in-Some.hits.items c.in_ok-kept-in-Some.kept.items c.in_ok-kept-in-Some.keys (record { direction = c.direction_of-direction.result; after = option_map (λ row. first_of_row row.now) c.args.after; most = c.args.most; bound = None; keys = [] }) (key_by c.args.entries.now c.in-Some.clause)
    c.direction_of-direction.result _ c.direction_of-direction.ensures (after_first c.args.after) refl c.in_ok-kept-in-Some.ensures (c.in_ok-hits-in-Some.ensures ∙ ap (flat_map (hit_within c.in_ok-kept-in-Some.keys)) c.as_slice.ensures.value)

pub returns-in_ok-hits-in-Some-clause-capped : goal.returns-in_ok-hits-in-Some-clause-capped
returns-in_ok-hits-in-Some-clause-capped c =
    some_capped c.args.mapping.now c.args.entries.now c.args.scope c.args.filters.now c.args.sorts.now c.first-item.result (after_of c.args.after) c.args.most (hits_in c.args.found.now) c.in_ok-hits-in-Some.hits.items c.in_ok-kept-in-Some.kept.items c.in_ok-kept-in-Some.keys (record { direction = c.direction_of-direction.result; after = option_map (λ row. first_of_row row.now) c.args.after; most = c.args.most; bound = None; keys = [] }) (key_by c.args.entries.now c.in-Some.clause)
    c.direction_of-direction.result _ c.direction_of-direction.ensures (after_first c.args.after) refl c.in_ok-kept-in-Some.ensures (c.in_ok-hits-in-Some.ensures ∙ ap (flat_map (hit_within c.in_ok-kept-in-Some.keys)) c.as_slice.ensures.value)

pub returns-in_ok-hits-in-Some-clause-pages : goal.returns-in_ok-hits-in-Some-clause-pages
returns-in_ok-hits-in-Some-clause-pages c =
    have_pages c.args.mapping.now c.args.entries.now c.args.scope c.args.filters.now c.args.sorts.now c.first-item.result (after_of c.args.after) c.args.most (hits_in c.args.found.now) c.in_ok-hits-in-Some.hits.items c.in_ok-kept-in-Some.kept.items c.in_ok-kept-in-Some.keys (record { direction = c.direction_of-direction.result; after = option_map (λ row. first_of_row row.now) c.args.after; most = c.args.most; bound = None; keys = [] }) (key_by c.args.entries.now c.in-Some.clause)
    c.direction_of-direction.result _ c.direction_of-direction.ensures (after_first c.args.after) refl c.in_ok-kept-in-Some.ensures (c.in_ok-hits-in-Some.ensures ∙ ap (flat_map (hit_within c.in_ok-kept-in-Some.keys)) c.as_slice.ensures.value)
    c.pages_are_of_rows_within_reach.ensures c.in-len1-up.len_at_least c.first-item.is (c.in-Some.ensures.keys c.args.entries.now)
