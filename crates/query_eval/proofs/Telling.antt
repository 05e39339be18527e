-- Scores that are told key by key, and the entries that tell them one after the other.
use Rattle.std.proofs.Common.{◌≡◌, ℕ, zero, suc, ◌+◌, ◌<◌, ◌≤◌, min, Bool, true, false, cond, List, [], ◌∷◌, ◌++◌, length, map, take, get_or, slice_get, Option, Some, None, IfSome, refl, sym, ap, subst, ◌∙◌, arith, append_assoc}
use Rattle.std.specs.List.{range_with_len}
use Rattle.std.proofs.lemmas.List.FromFn.{get_or-map-range_with_len, length-map-range_with_len, map-range_with_len_more}
use Rattle.stored_sources.specs.Roots.{root_of}
use Rattle.join_ordinals.specs.Ordinals.{AreOrdinals, IsNumbered, Ordinals, ordinal_at, own_id, own_relation, parent_id, parent_in, relation_in}
use Rattle.segment_view.specs.Views.{is_live_root}
use Rattle.mapping.specs.Mapping.{Mapping}
use Rattle.block_bits.specs.Blocks.{documents_of}
use Rattle.segment.specs.Live.{EntryState}
use Rattle.segment_parts.specs.declared.columns.Columns.{Columns}
use Rattle.query_eval.specs.Folds.{scopes_in}
use Rattle.query_eval.specs.Sides.{HaveRelations, HaveTallies, answer_for, answer_of, at_roots, given_by, is_on, key_at, keys_at, of_roots, ordinal_by, pair_if, roots_in, scores_of, told, told_by}
use Rattle.query_eval.specs.declared.side.Side.{Side}
use Rattle.query_eval.specs.declared.side.Side.TheVariants.{Parents, Children, ChildrenOf}
use Rattle.query_eval.specs.declared.answer.Answer.{Answer}
use Rattle.query_eval.proofs.Entries.{Scores, map_get, nil_append, take_more, take_whole}

-- ---- pairs

pub told_next : (keys scores : List (Option ℕ)) (k : ℕ) (d : Option ℕ) → k < length scores → told (take (k + 1) keys) (take (k + 1) scores) ≡ told (take k keys) (take k scores) ++ pair_if (get_or keys k None) (get_or scores k d)
told_next keys [] k d inside = absurd (omega (arith, inside))
told_next [] (s ∷ scores) zero d inside = refl
told_next [] (s ∷ scores) (suc k) d inside = let same : suc k + 1 ≡ suc (k + 1) = omega arith in rw same refl
told_next (x ∷ keys) (s ∷ scores) zero d inside = nil_append (pair_if x s)
told_next (x ∷ keys) (s ∷ scores) (suc k) d inside =
    let same : suc k + 1 ≡ suc (k + 1) = omega arith in
    rw same
    (ap (λ (l : List (ℕ × ℕ)). pair_if x s ++ l) (told_next keys scores k d (omega (arith, inside)))
    ∙ sym (append_assoc (pair_if x s) (told (take k keys) (take k scores)) (pair_if (get_or keys k None) (get_or scores k d))))

pub told_cut : (keys scores : List (Option ℕ)) (n : ℕ) → min (length keys) (length scores) ≤ n → told (take n keys) (take n scores) ≡ told keys scores
told_cut [] scores zero past = refl
told_cut [] scores (suc n) past = refl
told_cut (x ∷ keys) [] zero past = refl
told_cut (x ∷ keys) [] (suc n) past = refl
told_cut (x ∷ keys) (s ∷ scores) zero past = absurd (omega (arith, past))
told_cut (x ∷ keys) (s ∷ scores) (suc n) past = ap (λ (l : List (ℕ × ℕ)). pair_if x s ++ l) (told_cut keys scores n (omega (arith, past)))

-- ---- keys

module _ (view : List EntryState) (ordinals : Ordinals) (o : AreOrdinals view ordinals) (side : Side) where
  within : (id : Option (List ℕ)) (key : Option ℕ) → IsNumbered o.ids id key → IfSome key (λ k. k < ordinals.count)
  within None None is = search
  within None (Some k) is = absurd is
  within (Some id) None is = absurd is
  within (Some id) (Some k) is = omega (arith, o.count, inside o.ids k id is)
    where
      inside : (xs : List (List ℕ)) (k : ℕ) (x : List ℕ) → slice_get xs k ≡ Some x → k < length xs
      inside [] k x is = absurd (let no : ⊥ = cc in no)
      inside (y ∷ xs) zero x is = omega arith
      inside (y ∷ xs) (suc k) x is = omega (arith, inside xs k x is)

  -- each ordinal has a tally
  pub have_tallies : (place : ℕ) (e : EntryState) → slice_get view place ≡ Some e → HaveTallies ordinals side place ordinals.count
  have_tallies place e at = λ root. by_side root side
    where
      own : (root : ℕ) → IfSome (ordinal_at ordinals.own place root) (λ k. k < ordinals.count)
      own root = within (own_id e root) (ordinal_at ordinals.own place root) (o.own.numbered place root e at)

      parent : (root : ℕ) → IfSome (ordinal_at ordinals.parents place root) (λ k. k < ordinals.count)
      parent root = within (parent_id e root) (ordinal_at ordinals.parents place root) (o.parents.numbered place root e at)

      by_side : (root : ℕ) (s : Side) → IfSome (ordinal_by s (ordinal_at ordinals.own place root) (ordinal_at ordinals.parents place root)) (λ k. k < ordinals.count)
      by_side root (Parents r) = own root
      by_side root (Children r) = parent root
      by_side root (ChildrenOf r) = parent root

  -- each root that has an ordinal is live, so that its relation is kept
  kept : (live : Bool) (id : Option (List ℕ)) (key relation : Option ℕ) → IsNumbered o.ids (cond live id None) key → IfSome key (λ k. cond live relation None ≡ relation)
  kept true id None relation is = tt
  kept true id (Some k) relation is = refl
  kept false id None relation is = tt
  kept false id (Some k) relation is = absurd is

  pub have_relations : (place : ℕ) (e : EntryState) → slice_get view place ≡ Some e → HaveRelations ordinals side e.columns place
  have_relations place e at = λ root. by_side root side
    where
      relation : ℕ → Option ℕ
      relation root = relation_in (root_of e.columns.roots root).join

      as_kept : (root : ℕ) (key : Option ℕ) → IfSome key (λ k. own_relation e root ≡ relation root) → IfSome key (λ k. ordinal_at ordinals.relations place root ≡ relation root)
      as_kept root key is = subst (λ (r : Option ℕ). IfSome key (λ k. r ≡ relation root)) (sym (o.relations.known place root e at)) is

      by_side : (root : ℕ) (s : Side) → IfSome (ordinal_by s (ordinal_at ordinals.own place root) (ordinal_at ordinals.parents place root)) (λ k. ordinal_at ordinals.relations place root ≡ relation root)
      by_side root (Parents r) = as_kept root (ordinal_at ordinals.own place root) (kept (is_live_root root e) (Some (root_of e.columns.roots root).id) (ordinal_at ordinals.own place root) (relation root) (o.own.numbered place root e at))
      by_side root (Children r) = as_kept root (ordinal_at ordinals.parents place root) (kept (is_live_root root e) (parent_in (root_of e.columns.roots root).join) (ordinal_at ordinals.parents place root) (relation root) (o.parents.numbered place root e at))
      by_side root (ChildrenOf r) = as_kept root (ordinal_at ordinals.parents place root) (kept (is_live_root root e) (parent_in (root_of e.columns.roots root).join) (ordinal_at ordinals.parents place root) (relation root) (o.parents.numbered place root e at))

-- ---- one entry more

module _ (m : Mapping) (ordinals : Ordinals) (side : Side) where
  pub told_entry : (place : ℕ) (entries : List EntryState) (hits : List Scores) (e : EntryState) (own : Scores) → length hits ≡ length entries
      → told_by m ordinals side place (entries ++ e ∷ []) (hits ++ own ∷ []) ≡ told_by m ordinals side place entries hits ++ told (keys_at m ordinals side e.columns (place + length entries)) (of_roots (roots_in e) own)
  told_entry place [] [] e own long =
      let same : place + 0 ≡ place = omega arith in
      nil_append (told (keys_at m ordinals side e.columns place) (of_roots (roots_in e) own)) ∙ ap (λ n. told (keys_at m ordinals side e.columns n) (of_roots (roots_in e) own)) (sym same)
  told_entry place [] (h ∷ hits) e own long = absurd (omega (arith, long))
  told_entry place (x ∷ entries) [] e own long = absurd (omega (arith, long))
  told_entry place (x ∷ entries) (h ∷ hits) e own long =
      let first = told (keys_at m ordinals side x.columns place) (of_roots (roots_in x) h) in
      let next : place + 1 + length entries ≡ place + suc (length entries) = omega arith in
      ap (λ (l : List (ℕ × ℕ)). first ++ l) (told_entry (place + 1) entries hits e own (omega (arith, long)))
      ∙ ap (λ n. first ++ (told_by m ordinals side (place + 1) entries hits ++ told (keys_at m ordinals side e.columns n) (of_roots (roots_in e) own))) next
      ∙ sym (append_assoc first (told_by m ordinals side (place + 1) entries hits) (told (keys_at m ordinals side e.columns (place + suc (length entries))) (of_roots (roots_in e) own)))

  pub given_entry : (asked : Answer) (pairs : List (ℕ × ℕ)) (place : ℕ) (entries : List EntryState) (e : EntryState)
      → given_by m ordinals side asked pairs place (entries ++ e ∷ []) ≡ given_by m ordinals side asked pairs place entries ++ at_roots (roots_in e) (map (answer_for asked pairs) (keys_at m ordinals side e.columns (place + length entries))) ∷ []
  given_entry asked pairs place [] e =
      let same : place + 0 ≡ place = omega arith in
      ap (λ n. at_roots (roots_in e) (map (answer_for asked pairs) (keys_at m ordinals side e.columns n)) ∷ []) (sym same)
  given_entry asked pairs place (x ∷ entries) e =
      let next : place + 1 + length entries ≡ place + suc (length entries) = omega arith in
      ap (λ (l : List Scores). at_roots (roots_in x) (map (answer_for asked pairs) (keys_at m ordinals side x.columns place)) ∷ l)
      (given_entry asked pairs (place + 1) entries e
      ∙ ap (λ n. given_by m ordinals side asked pairs (place + 1) entries ++ at_roots (roots_in e) (map (answer_for asked pairs) (keys_at m ordinals side e.columns n)) ∷ []) next)

-- ---- an entry of a view, as a loop reads it

pub keys_more : (f : ℕ → Option ℕ) (n : ℕ) → map f (range_with_len 0 (n + 1)) ≡ map f (range_with_len 0 n) ++ f n ∷ []
keys_more f n = map-range_with_len_more f 0 n n (omega arith)

pub at_place : (view : List EntryState) (k : ℕ) (e : EntryState) → k < length view → e ≡ get_or view k e → slice_get view k ≡ Some e
at_place [] k e below is = absurd (omega (arith, below))
at_place (x ∷ view) zero e below is = ap Some (sym is)
at_place (x ∷ view) (suc k) e below is = at_place view k e (omega (arith, below)) is

module _ (m : Mapping) (ordinals : Ordinals) (side : Side) (view : List EntryState) (place : ℕ) (e : EntryState) (c : Columns) (below : place < length view) (is : e ≡ get_or view place e) (own : c ≡ e.columns) where
  pub tell_keys : (o : AreOrdinals view ordinals) (count : ℕ) → count ≡ ordinals.count → HaveTallies ordinals side place count
  tell_keys o count many = subst (HaveTallies ordinals side place) (sym many) (have_tallies view ordinals o side place e (at_place view place e below is))

  pub tell_relations : (o : AreOrdinals view ordinals) → HaveRelations ordinals side c place
  tell_relations o = subst (λ (x : Columns). HaveRelations ordinals side x place) (sym own) (have_relations view ordinals o side place e (at_place view place e below is))

  first_entries : length (take place view) ≡ place
  first_entries = taken view place below
    where
      taken : (xs : List EntryState) (k : ℕ) → k < length xs → length (take k xs) ≡ k
      taken [] k below = absurd (omega (arith, below))
      taken (x ∷ xs) zero below = refl
      taken (x ∷ xs) (suc k) below = ap suc (taken xs k (omega (arith, below)))

  next_entries : take (place + 1) view ≡ take place view ++ e ∷ []
  next_entries = take_more view place e below ∙ ap (λ (x : EntryState). take place view ++ x ∷ []) (sym is)

  pub told_step : (hits : List Scores) (s : Scores) → length hits ≡ length view → s ≡ get_or hits place s
      → told_by m ordinals side 0 (take place view) (take place hits) ++ told (keys_at m ordinals side c place) (of_roots (documents_of (scopes_in c) 0) s) ≡ told_by m ordinals side 0 (take (place + 1) view) (take (place + 1) hits)
  told_step hits s long at =
      let some : place < length hits = omega (arith, below, long) in
      let next_hits : take (place + 1) hits ≡ take place hits ++ s ∷ [] = take_more hits place s some ∙ ap (λ (x : Scores). take place hits ++ x ∷ []) (sym at) in
      let here : 0 + length (take place view) ≡ place = omega (arith, first_entries) in
      let same_long : length (take place hits) ≡ length (take place view) = taken hits place some ∙ sym first_entries in
      sym
      (ap (λ (l : List EntryState). told_by m ordinals side 0 l (take (place + 1) hits)) next_entries
      ∙ ap (told_by m ordinals side 0 (take place view ++ e ∷ [])) next_hits
      ∙ told_entry m ordinals side 0 (take place view) (take place hits) e s same_long
      ∙ ap (λ n. told_by m ordinals side 0 (take place view) (take place hits) ++ told (keys_at m ordinals side e.columns n) (of_roots (roots_in e) s)) here
      ∙ ap (λ (x : Columns). told_by m ordinals side 0 (take place view) (take place hits) ++ told (keys_at m ordinals side x place) (of_roots (documents_of (scopes_in x) 0) s)) (sym own))
    where
      taken : (xs : List Scores) (k : ℕ) → k < length xs → length (take k xs) ≡ k
      taken [] k below = absurd (omega (arith, below))
      taken (x ∷ xs) zero below = refl
      taken (x ∷ xs) (suc k) below = ap suc (taken xs k (omega (arith, below)))

  pub given_step : (asked : Answer) (pairs : List (ℕ × ℕ)) (made items : List Scores) (new : Scores) → made ≡ given_by m ordinals side asked pairs 0 (take place view)
      → new ≡ at_roots (documents_of (scopes_in c) 0) (map (answer_for asked pairs) (keys_at m ordinals side c place)) → items ≡ made ++ new ∷ [] → items ≡ given_by m ordinals side asked pairs 0 (take (place + 1) view)
  given_step asked pairs made items new was roots push =
      let here : 0 + length (take place view) ≡ place = omega (arith, first_entries) in
      let own_new : new ≡ at_roots (roots_in e) (map (answer_for asked pairs) (keys_at m ordinals side e.columns place)) =
      roots ∙ ap (λ (x : Columns). at_roots (documents_of (scopes_in x) 0) (map (answer_for asked pairs) (keys_at m ordinals side x place))) own in
      push
      ∙ ap (λ (l : List Scores). l ++ new ∷ []) was
      ∙ ap (λ (x : Scores). given_by m ordinals side asked pairs 0 (take place view) ++ x ∷ []) own_new
      ∙ ap (λ n. given_by m ordinals side asked pairs 0 (take place view) ++ at_roots (roots_in e) (map (answer_for asked pairs) (keys_at m ordinals side e.columns n)) ∷ []) (sym here)
      ∙ sym (given_entry m ordinals side asked pairs 0 (take place view) e)
      ∙ ap (given_by m ordinals side asked pairs 0) (sym next_entries)

pub told_whole : (m : Mapping) (ordinals : Ordinals) (side : Side) (view : List EntryState) (hits : List Scores) (k : ℕ) → length hits ≡ length view → length view ≤ k → told_by m ordinals side 0 (take k view) (take k hits) ≡ told_by m ordinals side 0 view hits
told_whole m ordinals side view hits k long past =
    ap (λ (l : List EntryState). told_by m ordinals side 0 l (take k hits)) (take_whole view k past) ∙ ap (told_by m ordinals side 0 view) (take_whole hits k (omega (arith, long, past)))

pub given_whole : (m : Mapping) (ordinals : Ordinals) (side : Side) (asked : Answer) (pairs : List (ℕ × ℕ)) (view : List EntryState) (k : ℕ) → length view ≤ k → given_by m ordinals side asked pairs 0 (take k view) ≡ given_by m ordinals side asked pairs 0 view
given_whole m ordinals side asked pairs view k past = ap (given_by m ordinals side asked pairs 0) (take_whole view k past)

-- ---- a root

pub pair_nothing : (key : Option ℕ) → pair_if key None ≡ []
pair_nothing None = refl
pair_nothing (Some k) = refl

module _ (m : Mapping) (ordinals : Ordinals) (side : Side) (c : Columns) (place root : ℕ) where
  -- the ordinal by which it would take part, and whether it does
  abbrev pub would : Option ℕ
  would = ordinal_by side (ordinal_at ordinals.own place root) (ordinal_at ordinals.parents place root)

  abbrev pub does : Bool
  does = is_on m side (relation_in (root_of c.roots root).join)

  pub key_here : root < length c.roots → get_or (keys_at m ordinals side c place) root None ≡ key_at m ordinals side c place root
  key_here below = get_or-map-range_with_len (key_at m ordinals side c place) 0 (length c.roots) root root None below (omega arith)

  pub key_within : (count : ℕ) → HaveTallies ordinals side place count → IfSome (key_at m ordinals side c place root) (λ key. key < count)
  key_within count have = by does
    where
      by : (on : Bool) → IfSome (cond on would None) (λ key. key < count)
      by true = have root
      by false = tt

  -- the relation that is kept of the root
  abbrev pub kept_on : Bool
  kept_on = is_on m side (ordinal_at ordinals.relations place root)

  pub does_is : (k : ℕ) → HaveRelations ordinals side c place → would ≡ Some k → does ≡ kept_on
  does_is k have is = ap (is_on m side) (sym (named would (have root) is))
    where
      named : (key : Option ℕ) → IfSome key (λ ordinal. ordinal_at ordinals.relations place root ≡ relation_in (root_of c.roots root).join) → key ≡ Some k → ordinal_at ordinals.relations place root ≡ relation_in (root_of c.roots root).join
      named None h e = absurd (let no : ⊥ = cc in no)
      named (Some j) h e = h

  pub key_none : would ≡ None → None ≡ key_at m ordinals side c place root
  key_none none = sym (ap (λ (x : Option ℕ). cond does x None) none ∙ by does)
    where
      by : (on : Bool) → ◌≡◌ {A = Option ℕ} (cond on None None) None
      by true = refl
      by false = refl

  pub key_on : (k : ℕ) → HaveRelations ordinals side c place → would ≡ Some k → kept_on ≡ true → Some k ≡ key_at m ordinals side c place root
  key_on k have is on = sym (ap (λ (b : Bool). cond b would None) (does_is k have is ∙ on) ∙ is)

  pub key_off : (k : ℕ) → HaveRelations ordinals side c place → would ≡ Some k → kept_on ≡ false → None ≡ key_at m ordinals side c place root
  key_off k have is off = sym (ap (λ (b : Bool). cond b would None) (does_is k have is ∙ off))

  module _ (asked : Answer) (pairs : List (ℕ × ℕ)) where
    abbrev pub given_here : Option ℕ
    given_here = get_or (map (answer_for asked pairs) (keys_at m ordinals side c place)) root None

    given_at : root < length c.roots → given_here ≡ answer_for asked pairs (cond does would None)
    given_at below =
        map_get (answer_for asked pairs) (keys_at m ordinals side c place) root None None (omega (arith, below, length-map-range_with_len (key_at m ordinals side c place) 0 (length c.roots)))
        ∙ ap (answer_for asked pairs) (key_here below)

    pub given_none : root < length c.roots → would ≡ None → None ≡ given_here
    given_none below none = sym (given_at below ∙ ap (λ (x : Option ℕ). answer_for asked pairs (cond does x None)) none ∙ by does)
      where
        by : (on : Bool) → answer_for asked pairs (cond on None None) ≡ None
        by true = refl
        by false = refl

    pub given_nothing : (k : ℕ) → root < length c.roots → would ≡ Some k → None ≡ answer_of asked (scores_of k pairs) → None ≡ given_here
    given_nothing k below is none = sym (given_at below ∙ ap (λ (x : Option ℕ). answer_for asked pairs (cond does x None)) is ∙ by does)
      where
        by : (on : Bool) → answer_for asked pairs (cond on (Some k) None) ≡ None
        by true = sym none
        by false = refl

    pub given_off : (k : ℕ) → root < length c.roots → HaveRelations ordinals side c place → would ≡ Some k → kept_on ≡ false → None ≡ given_here
    given_off k below have is off = sym (given_at below ∙ ap (λ (b : Bool). answer_for asked pairs (cond b would None)) (does_is k have is ∙ off))

    pub given_some : (k : ℕ) (score : Option ℕ) → root < length c.roots → HaveRelations ordinals side c place → would ≡ Some k → kept_on ≡ true → score ≡ answer_of asked (scores_of k pairs) → score ≡ given_here
    given_some k score below have is on own = own ∙ sym (given_at below ∙ ap (λ (b : Bool). answer_for asked pairs (cond b would None)) (does_is k have is ∙ on) ∙ ap (answer_for asked pairs) is)
