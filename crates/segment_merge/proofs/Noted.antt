-- New ordinals of terms: what they are where a term has live documents.
use Rattle.std.proofs.Common.{◌≡◌, ◌⊎◌, inl, inr, ℕ, zero, suc, ◌+◌, ◌<◌, true, false, nat_lt, List, [], ◌∷◌, ◌++◌, length, get_or, drop, slice_get, Option, Some, replicate, refl, sym, ap, subst, ◌∙◌, arith}
use Rattle.std.specs.List.{AllByRecursion, flat_map, list_any}
use Rattle.std.specs.Ordering.{eq_by_cmp}
use Rattle.std.proofs.lemmas.Bool.{cases_eq, lt-ltb}
use Rattle.std.proofs.lemmas.Cmp.{eq_by_cmp_equiv}
use Rattle.std.proofs.lemmas.List.{get_or-set_same, get_or-set_other, length-append, length-map, length-replicate, length-set}
use Rattle.std.proofs.lemmas.Option.{slice_get_within}
use Rattle.segment_builder.specs.Columns.{terms_in}
use Rattle.segment_builder.specs.Groups.{of_key, AreGroups}
use Rattle.segment_parts.specs.Lists.{terms_of}
use Rattle.term_table.specs.Laws.{term_cmp_total}
use Rattle.term_table.specs.Terms.{term_cmp}
use Rattle.segment_merge.specs.Numbering.{PartState}
use Rattle.segment_merge.specs.TermRefs.{AreNew, TermPlace, all_terms, blank_ordinals, live_postings, live_rows, new_ordinal, noted, numbered, rooms_of, terms_from, with_ordinal}
use Rattle.segment_merge.proofs.Gathering.{split}
use Rattle.segment_merge.proofs.Nested.{room_at}
use Rattle.segment_merge.proofs.Refs.{AreMembers, Group, IsRef, Ref, all_are, groups_of_refs, rest_left, there_left}

-- ---- rooms stay

pub rooms_with : (news : List (List ℕ)) (place ordinal new : ℕ) → rooms_of (with_ordinal news place ordinal new) ≡ rooms_of news
rooms_with [] place ordinal new = refl
rooms_with (own ∷ news) zero ordinal new = ap (λ n. n ∷ rooms_of news) (length-set own ordinal new)
rooms_with (own ∷ news) (suc place) ordinal new = ap (λ (rooms : List ℕ). length own ∷ rooms) (rooms_with news place ordinal new)

pub rooms_noted : (new : ℕ) (places : List TermPlace) (news : List (List ℕ)) → rooms_of (noted new places news) ≡ rooms_of news
rooms_noted new [] news = refl
rooms_noted new (term ∷ places) news = rooms_noted new places (with_ordinal news term.place term.ordinal new) ∙ rooms_with news term.place term.ordinal new

pub rooms_numbered : (new : ℕ) (groups : List Group) (news : List (List ℕ)) → rooms_of (numbered new groups news) ≡ rooms_of news
rooms_numbered new [] news = refl
rooms_numbered new (group ∷ groups) news =
    split (nat_lt 0 (length (flat_map live_postings group.1)))
    (λ some. rw some (rooms_numbered (new + 1) groups (noted new group.1 news) ∙ rooms_noted new group.1 news))
    (λ none. rw none (rooms_numbered new groups news))

pub blank_rooms : (parts : List PartState) (place : ℕ) (part : PartState) → slice_get parts place ≡ Some part → get_or (rooms_of (blank_ordinals parts)) place 0 ≡ length (terms_of part.entry.columns)
blank_rooms [] place part is = absurd (cc (is))
blank_rooms (first ∷ parts) zero part is = let same : first ≡ part = cc (is) in length-replicate (length (terms_of first.entry.columns)) 0 ∙ ap (λ (p : PartState). length (terms_of p.entry.columns)) same
blank_rooms (first ∷ parts) (suc place) part is = blank_rooms parts place part is

-- ---- one term

some_same : {X : Type 0} (x y : X) → ◌≡◌ {A = Option X} (Some x) (Some y) → x ≡ y
some_same x y e = cc

inside : (news : List (List ℕ)) (place ordinal : ℕ) → ordinal < length (get_or news place []) → place < length news
inside [] place ordinal h = absurd (omega (arith, h))
inside (own ∷ news) zero ordinal h = omega arith
inside (own ∷ news) (suc place) ordinal h = omega (arith, inside news place ordinal h)

set_here : (news : List (List ℕ)) (place ordinal new : ℕ) → ordinal < length (get_or news place []) → new_ordinal (with_ordinal news place ordinal new) place ordinal ≡ new
set_here [] place ordinal new h = absurd (omega (arith, h))
set_here (own ∷ news) zero ordinal new h = get_or-set_same own ordinal new 0 h
set_here (own ∷ news) (suc place) ordinal new h = set_here news place ordinal new h

set_other : (news : List (List ℕ)) (place ordinal new at own : ℕ) → ((place ≡ at) → (ordinal ≡ own) → ⊥) → new_ordinal (with_ordinal news place ordinal new) at own ≡ new_ordinal news at own
set_other [] place ordinal new at own apart = refl
set_other (first ∷ news) zero ordinal new zero own apart = get_or-set_other first ordinal own new 0 (λ same. apart refl (sym same))
set_other (first ∷ news) zero ordinal new (suc at) own apart = refl
set_other (first ∷ news) (suc place) ordinal new zero own apart = refl
set_other (first ∷ news) (suc place) ordinal new (suc at) own apart = set_other news place ordinal new at own (λ same. apart (ap suc same))

-- ---- a term that is looked up

-- a part, a term of it, and the ordinals that terms get
pub record Sought : Type 0 where
  pub parts : List PartState
  pub terms : List (ℕ × List ℕ)
  pub part : PartState
  pub place : ℕ
  pub ordinal : ℕ
  pub term : ℕ × List ℕ
  pub at : slice_get parts place ≡ Some part
  pub is : slice_get (terms_of part.entry.columns) ordinal ≡ Some term

abbrev here : Sought → TermPlace
here it = record { part = it.part; place = it.place; ordinal = it.ordinal }

-- the ordinal noted for it is that of its term
abbrev Good : Sought → List (List ℕ) → Type 0
Good it news = slice_get it.terms (new_ordinal news it.place it.ordinal) ≡ Some it.term

abbrev HasRoom : Sought → List (List ℕ) → Type 0
HasRoom it news = it.ordinal < get_or (rooms_of news) it.place 0

-- a reference to the same place is to the same term
same_reference : (it : Sought) (key : ℕ × List ℕ) (term : TermPlace) → IsRef it.parts (key, term) → term.place ≡ it.place → term.ordinal ≡ it.ordinal → key ≡ it.term
same_reference it key term ref place ordinal =
    let part : term.part ≡ it.part = some_same term.part it.part (sym ref.part ∙ ap (slice_get it.parts) place ∙ it.at) in
    some_same key it.term (sym ref.term ∙ ap (λ (p : PartState). slice_get (terms_of p.entry.columns) term.ordinal) part ∙ ap (slice_get (terms_of it.part.entry.columns)) ordinal ∙ it.is)

with_good : (it : Sought) (news : List (List ℕ)) (key : ℕ × List ℕ) (term : TermPlace) (new : ℕ) → HasRoom it news → IsRef it.parts (key, term) → slice_get it.terms new ≡ Some key
    → Good it news ⊎ ((term.place ≡ it.place) × (term.ordinal ≡ it.ordinal)) → Good it (with_ordinal news term.place term.ordinal new)
with_good it news key term new room ref named was =
    let other : ((term.place ≡ it.place) → (term.ordinal ≡ it.ordinal) → ⊥) → Good it (with_ordinal news term.place term.ordinal new) = λ apart.
    ap (slice_get it.terms) (set_other news term.place term.ordinal new it.place it.ordinal apart)
    ∙ (elim was [
      | inl good ↦ good
      | inr same ↦ absurd (apart same.0 same.1)
    ]) in
    elim (cases_eq term.place it.place) [
      | inl place ↦ elim (cases_eq term.ordinal it.ordinal) [
        | inl ordinal ↦
            let on : new_ordinal (with_ordinal news term.place term.ordinal new) it.place it.ordinal ≡ new =
            ap (λ n. new_ordinal (with_ordinal news n term.ordinal new) it.place it.ordinal) place
            ∙ ap (λ n. new_ordinal (with_ordinal news it.place n new) it.place it.ordinal) ordinal
            ∙ set_here news it.place it.ordinal new (omega (arith, room, room_at news it.place)) in
            ap (slice_get it.terms) on ∙ named ∙ ap Some (same_reference it key term ref place ordinal)
        | inr apart ↦ other (λ _ same. apart same)
      ]
      | inr apart ↦ other (λ same _. apart same)
    ]

-- a list of places has it
abbrev Has : Sought → List TermPlace → Type 0
Has it [] = ⊥
Has it (term ∷ terms) = (term ≡ here it) ⊎ Has it terms

noted_good : (it : Sought) (key : ℕ × List ℕ) (new : ℕ) (places : List TermPlace) (news : List (List ℕ)) → HasRoom it news → AllByRecursion (λ (term : TermPlace). IsRef it.parts (key, term)) places → slice_get it.terms new ≡ Some key
    → Good it news ⊎ Has it places → Good it (noted new places news)
noted_good it key new [] news room are named was =
    elim was [
      | inl good ↦ good
      | inr has ↦ absurd has
    ]
noted_good it key new (term ∷ places) news room are named was =
    let next : List (List ℕ) = with_ordinal news term.place term.ordinal new in
    let wide : HasRoom it next = omega (arith, room, ap (λ (rooms : List ℕ). get_or rooms it.place 0) (rooms_with news term.place term.ordinal new)) in
    noted_good it key new places next wide are.1 named (
    elim was [
      | inl good ↦ inl (with_good it news key term new room are.0 named (inl good))
      | inr has ↦ elim has [
        | inl same ↦ inl (with_good it news key term new room are.0 named (inr (ap (λ (t : TermPlace). t.place) same, ap (λ (t : TermPlace). t.ordinal) same)))
        | inr later ↦ inr later
      ]
    ])

-- a group with live documents has it
abbrev HasLive : Sought → List Group → Type 0
HasLive it [] = ⊥
HasLive it (group ∷ groups) = ((nat_lt 0 (length (flat_map live_postings group.1)) ≡ true) × Has it group.1) ⊎ HasLive it groups

numbered_good : (it : Sought) (new : ℕ) (groups : List Group) (news : List (List ℕ)) → HasRoom it news → AllByRecursion (AreMembers it.parts) groups → drop new it.terms ≡ terms_in (live_rows groups)
    → Good it news ⊎ HasLive it groups → Good it (numbered new groups news)
numbered_good it new [] news room are left was =
    elim was [
      | inl good ↦ good
      | inr has ↦ absurd has
    ]
numbered_good it new (group ∷ groups) news room are left was =
    split (nat_lt 0 (length (flat_map live_postings group.1)))
    (λ some.
    let here_left : drop new it.terms ≡ group.0 ∷ terms_in (live_rows groups) = left ∙ rw some refl in
    let named : slice_get it.terms new ≡ Some group.0 = there_left it.terms new group.0 (terms_in (live_rows groups)) here_left in
    let rest : drop (new + 1) it.terms ≡ terms_in (live_rows groups) = rest_left it.terms new group.0 (terms_in (live_rows groups)) here_left in
    let next : List (List ℕ) = noted new group.1 news in
    let wide : HasRoom it next = omega (arith, room, ap (λ (rooms : List ℕ). get_or rooms it.place 0) (rooms_noted new group.1 news)) in
    rw some (numbered_good it (new + 1) groups next wide are.1 rest (
    elim was [
      | inl good ↦ inl (noted_good it group.0 new group.1 news room are.0 named (inl good))
      | inr has ↦ elim has [
        | inl own ↦ inl (noted_good it group.0 new group.1 news room are.0 named (inr own.1))
        | inr later ↦ inr later
      ]
    ])))
    (λ none.
    let rest : drop new it.terms ≡ terms_in (live_rows groups) = left ∙ rw none refl in
    rw none (numbered_good it new groups news room are.1 rest (
    elim was [
      | inl good ↦ inl good
      | inr has ↦ elim has [
        | inl own ↦ absurd (let no : true ≡ false = sym own.0 ∙ none in cc (no))
        | inr later ↦ inr later
      ]
    ])))

-- ---- it is among the references, and so in a group

abbrev IsAmong : Sought → List Ref → Type 0
IsAmong it [] = ⊥
IsAmong it (ref ∷ refs) = (ref ≡ (it.term, here it)) ⊎ IsAmong it refs

among_front : (it : Sought) (refs more : List Ref) → IsAmong it refs → IsAmong it (refs ++ more)
among_front it [] more has = absurd has
among_front it (ref ∷ refs) more has =
    elim has [
      | inl same ↦ inl same
      | inr later ↦ inr (among_front it refs more later)
    ]

among_back : (it : Sought) (refs more : List Ref) → IsAmong it more → IsAmong it (refs ++ more)
among_back it [] more has = has
among_back it (ref ∷ refs) more has = inr (among_back it refs more has)

-- from ordinal `from` on, the term `more` behind it
among_terms : (it : Sought) (terms : List (ℕ × List ℕ)) (from more : ℕ) → from + more ≡ it.ordinal → slice_get terms more ≡ Some it.term → IsAmong it (terms_from it.part it.place from terms)
among_terms it [] from more at is = absurd (cc (is))
among_terms it (term ∷ terms) from zero at is =
    let same : term ≡ it.term = some_same term it.term is in
    let place : from ≡ it.ordinal = omega (arith, at) in
    inl (ap (λ (t : ℕ × List ℕ). (t, record { part = it.part; place = it.place; ordinal = from })) same ∙ ap (λ n. (it.term, record { part = it.part; place = it.place; ordinal = n })) place)
among_terms it (term ∷ terms) from (suc more) at is = inr (among_terms it terms (from + 1) more (omega (arith, at)) is)

among_parts : (it : Sought) (parts : List PartState) (from more : ℕ) → from + more ≡ it.place → slice_get parts more ≡ Some it.part → IsAmong it (all_terms from parts)
among_parts it [] from more at is = absurd (cc (is))
among_parts it (part ∷ parts) from zero at is =
    let same : part ≡ it.part = some_same part it.part is in
    let place : from ≡ it.place = omega (arith, at) in
    among_front it (terms_from part from 0 (terms_of part.entry.columns)) (all_terms (from + 1) parts)
    (subst (λ (p : PartState). IsAmong it (terms_from p from 0 (terms_of p.entry.columns))) (sym same)
    (subst (λ n. IsAmong it (terms_from it.part n 0 (terms_of it.part.entry.columns))) (sym place) (among_terms it (terms_of it.part.entry.columns) 0 it.ordinal (omega arith) it.is)))
among_parts it (part ∷ parts) from (suc more) at is =
    among_back it (terms_from part from 0 (terms_of part.entry.columns)) (all_terms (from + 1) parts) (among_parts it parts (from + 1) more (omega (arith, at)) is)

has_of_key : (it : Sought) (key : ℕ × List ℕ) (refs : List Ref) → eq_by_cmp term_cmp key it.term ≡ true → IsAmong it refs → Has it (of_key term_cmp key refs)
has_of_key it key [] tied has = absurd has
has_of_key it key (ref ∷ refs) tied has =
    split (eq_by_cmp term_cmp key ref.0)
    (λ is. rw is (
    elim has [
      | inl same ↦ inl (ap (λ (r : Ref). r.1) same)
      | inr later ↦ inr (has_of_key it key refs tied later)
    ]))
    (λ isnt. rw isnt (
    elim has [
      | inl same ↦ absurd (let no : true ≡ false = sym tied ∙ ap (λ (r : Ref). eq_by_cmp term_cmp key r.0) (sym same) ∙ isnt in cc (no))
      | inr later ↦ has_of_key it key refs tied later
    ]))

some_live : (it : Sought) (places : List TermPlace) → Has it places → 0 < length (live_postings (here it)) → 0 < length (flat_map live_postings places)
some_live it [] has some = absurd has
some_live it (term ∷ places) has some =
    elim has [
      | inl same ↦ omega (arith, some, ap (λ (t : TermPlace). length (live_postings t)) same, length-append (live_postings term) (flat_map live_postings places))
      | inr later ↦ omega (arith, some_live it places later some, length-append (live_postings term) (flat_map live_postings places))
    ]

found_at : (it : Sought) (P : Ref → Type 0) (refs : List Ref) → AllByRecursion P refs → IsAmong it refs → P (it.term, here it)
found_at it P [] all has = absurd has
found_at it P (ref ∷ refs) all has =
    elim has [
      | inl same ↦ subst P same all.0
      | inr later ↦ found_at it P refs all.1 later
    ]

live_in_groups : (it : Sought) (refs : List Ref) (groups : List Group) → IsAmong it refs → AllByRecursion (λ (group : Group). group.1 ≡ of_key term_cmp group.0 refs) groups
    → list_any (λ (group : Group). eq_by_cmp term_cmp it.term group.0) groups ≡ true → 0 < length (live_postings (here it)) → HasLive it groups
live_in_groups it refs [] among gather any some = absurd (cc (any))
live_in_groups it refs (group ∷ groups) among gather any some =
    split (eq_by_cmp term_cmp it.term group.0)
    (λ is.
    let tied : eq_by_cmp term_cmp group.0 it.term ≡ true = (eq_by_cmp_equiv term_cmp_total).symm group.0 it.term ∙ is in
    let has : Has it group.1 = subst (Has it) (sym gather.0) (has_of_key it group.0 refs tied among) in
    inl (lt-ltb 0 (length (flat_map live_postings group.1)) (some_live it group.1 has some), has))
    (λ isnt. inr (live_in_groups it refs groups among gather.1 (rw isnt at any) some))

pub are_new : (parts : List PartState) (groups : List Group) → AreGroups term_cmp (all_terms 0 parts) groups → AreNew parts (terms_in (live_rows groups)) (numbered 0 groups (blank_ordinals parts))
are_new parts groups are = record {
  long = sym (length-map (numbered 0 groups (blank_ordinals parts)) (λ (own : List ℕ). length own))
      ∙ ap (λ (rooms : List ℕ). length rooms) (rooms_numbered 0 groups (blank_ordinals parts))
      ∙ length-map (blank_ordinals parts) (λ (own : List ℕ). length own)
      ∙ length-map parts (λ (part : PartState). replicate (length (terms_of part.entry.columns)) 0);
  each_long = λ place part at.
      sym (room_at (numbered 0 groups (blank_ordinals parts)) place)
      ∙ ap (λ (rooms : List ℕ). get_or rooms place 0) (rooms_numbered 0 groups (blank_ordinals parts))
      ∙ blank_rooms parts place part at;
  same = λ place part ordinal term at is some.
      let it : Sought = record { parts = parts; terms = terms_in (live_rows groups); part = part; place = place; ordinal = ordinal; term = term; at = at; is = is } in
      let room : HasRoom it (blank_ordinals parts) = omega (arith, slice_get_within (terms_of part.entry.columns) ordinal term is, blank_rooms parts place part at) in
      let members = groups_of_refs parts (all_terms 0 parts) groups (all_are parts 0 parts refl) are.gather in
      let among : IsAmong it (all_terms 0 parts) = among_parts it parts 0 place (omega arith) at in
      let any : list_any (λ (group : Group). eq_by_cmp term_cmp term group.0) groups ≡ true = found_at it (λ (ref : Ref). list_any (λ (group : Group). eq_by_cmp term_cmp ref.0 group.0) groups ≡ true) (all_terms 0 parts) are.found among in
      numbered_good it 0 groups (blank_ordinals parts) room members refl (inr (live_in_groups it (all_terms 0 parts) groups among are.gather any some));
}
