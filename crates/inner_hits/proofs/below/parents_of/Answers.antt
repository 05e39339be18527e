use Rattle.std.proofs.Common.{ℕ, List, Option, filter_map, map, ap, ◌∙◌}
use Rattle.query_eval.specs.declared.side.Side.TheVariants.{ChildrenOf, Parents}
use Rattle.tree_joins.specs.Seen.{scored}
use Rattle.tree_objects.specs.Object.{Object}
use Rattle.view_objects.specs.Hits.{hit_object, hits_in, live_trees}
use Rattle.segment.specs.Live.{EntryState}
use Rattle.inner_hits.specs.Kinship.{key_in, owner_hits}
use Rattle.inner_hits.proofs.Capped.{owners_capped}
use Rattle.inner_hits.proofs.Joining.{parents_found, owner_are_hits, owner_docs}
use Rattle.inner_hits.proofs.below.parents_of.Goals as goal

pub returns-clause-docs : goal.returns-clause-docs
returns-clause-docs c =
    owner_docs c.args.mapping.now c.args.ordinals.now c.args.view.now (Parents c.args.relation) c.requires.kin.0 c.args.kin.now (key_in c.args.mapping.now c.args.ordinals.now (ChildrenOf c.args.relation) c.args.view.now c.args.place c.args.doc) c.in_ok-joined.field-0.items
    c.requires.kin.1 c.requires.kin.2 (c.in_ok-joined.ensures ∙ ap (λ (v : List EntryState). owner_hits (key_in c.args.mapping.now c.args.ordinals.now (ChildrenOf c.args.relation) v c.args.place c.args.doc) c.args.kin.now) c.entries.ensures.entries)

pub returns-clause-capped : goal.returns-clause-capped
returns-clause-capped c =
    owners_capped (key_in c.args.mapping.now c.args.ordinals.now (ChildrenOf c.args.relation) c.args.view.now c.args.place c.args.doc) c.args.kin.now c.in_ok-joined.field-0.items c.requires.kin.1.capped (c.in_ok-joined.ensures ∙ ap (λ (v : List EntryState). owner_hits (key_in c.args.mapping.now c.args.ordinals.now (ChildrenOf c.args.relation) v c.args.place c.args.doc) c.args.kin.now) c.entries.ensures.entries)

pub returns-clause-objects : goal.returns-clause-objects
returns-clause-objects c = λ scores given trees stands are asked found.
    let m = c.args.mapping.now in
    let view = c.args.view.now in
    let ordinals = c.args.ordinals.now in
    let same = found.are trees stands in
    ap (map (hit_object m trees)) (c.in_ok-joined.ensures ∙ ap (λ (v : List EntryState). owner_hits (key_in c.args.mapping.now c.args.ordinals.now (ChildrenOf c.args.relation) v c.args.place c.args.doc) c.args.kin.now) c.entries.ensures.entries)
    ∙ parents_found m
    (record {
      scopes = λ columns bits ts e. c.documents_are_of_objects.ensures.scopes m columns bits ts e;
      objects = λ columns bits ts e. c.documents_are_of_objects.ensures.objects m columns bits ts e;
      trees = λ ts doc is low. c.documents_are_of_objects.ensures.trees m ts doc is low;
    })
    view c.entries.ensures.bits trees stands ordinals c.args.relation c.args.place c.args.doc asked.given (given (live_trees trees)) asked.score scores c.args.kin.now
    (λ root other other_place other_root tree parent one two.
    c.keys_join_trees.ensures.parents m view ordinals c.args.relation other root other_place other_root tree parent one two c.requires.joined)
    asked.is are same
    (ap (λ (l : List (List (Option ℕ))). map (hit_object m trees) (hits_in l)) same
    ∙ c.hits_are_objects.ensures.hits m 0 (given (live_trees trees)) trees
    ∙ ap (λ (os : List Object). filter_map (scored (given (live_trees trees))) os) (c.hits_are_objects.ensures.roots m (live_trees trees) c.scope_count-scopes.ensures.is_mapping))

pub returns-clause-hits : goal.returns-clause-hits
returns-clause-hits c = λ scores given trees stands are found.
    owner_are_hits c.args.mapping.now c.args.ordinals.now c.args.view.now trees (given (live_trees trees)) (Parents c.args.relation) scores c.args.kin.now (key_in c.args.mapping.now c.args.ordinals.now (ChildrenOf c.args.relation) c.args.view.now c.args.place c.args.doc) c.in_ok-joined.field-0.items
    are (found.are trees stands) (c.in_ok-joined.ensures ∙ ap (λ (v : List EntryState). owner_hits (key_in c.args.mapping.now c.args.ordinals.now (ChildrenOf c.args.relation) v c.args.place c.args.doc) c.args.kin.now) c.entries.ensures.entries)
