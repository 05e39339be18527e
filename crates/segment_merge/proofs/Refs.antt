-- References to terms: what they stand for, and which they are.
use Rattle.std.proofs.Common.{◌≡◌, ℕ, zero, suc, ◌+◌, true, nat_lt, List, [], ◌∷◌, ◌++◌, length, map, get_or, drop, slice_get, Some, refl, sym, ap, subst, ◌∙◌, append_assoc, arith}
use Rattle.std.specs.List.{AllByRecursion, filter, flat_map}
use Rattle.std.specs.Ordering.{eq_by_cmp, is_eq, nat_cmp}
use Rattle.std.specs.Cmp.Lexicographic.{slice_cmp}
use Rattle.std.specs.declared.cmp.Ordering.{Ordering}
use Rattle.std.specs.declared.cmp.Ordering.TheVariants.{Less, Equal, Greater}
use Rattle.std.proofs.lemmas.Bool.Decides.{nat_tests}
use Rattle.std.proofs.lemmas.List.{drop-drop, map-append}
use Rattle.segment.specs.Flat.{has_some}
use Rattle.segment_builder.specs.Groups.{of_key}
use Rattle.segment_builder.specs.Terms.{row_group}
use Rattle.segment_parts.specs.Lists.{terms_of}
use Rattle.term_table.specs.Terms.{term_cmp}
use Rattle.term_table.specs.declared.rows.TermRow.{TermRow}
use Rattle.segment_merge.specs.Merged.{kept, kept_columns, kept_terms}
use Rattle.segment_merge.specs.Numbering.{PartState}
use Rattle.segment_merge.specs.TermRefs.{TermPlace, all_terms, live_postings, live_rows, terms_from}
use Rattle.segment_merge.proofs.Gathering.{split}
use Rattle.segment_merge.proofs.Steps.{left_at}

-- ---- one reference more

pub terms_left : (part : PartState) (place ordinal : ℕ) (terms : List (ℕ × List ℕ)) (term : ℕ × List ℕ) → slice_get terms ordinal ≡ Some term
    → terms_from part place ordinal (drop ordinal terms) ≡ (term, record { part = part; place = place; ordinal = ordinal }) ∷ terms_from part place (ordinal + 1) (drop (ordinal + 1) terms)
terms_left part place ordinal terms term is = ap (terms_from part place ordinal) (left_at terms ordinal term is)

-- ---- what references stand for

abbrev pub Ref : Type 0
Ref = (ℕ × List ℕ) × TermPlace

abbrev pub whole : Ref → (ℕ × List ℕ) × List (ℕ × List ℕ)
whole ref = (ref.0, live_postings ref.1)

postings_at : (rows : List TermRow) (at : ℕ) (row : TermRow) (rest : List TermRow) → drop at rows ≡ row ∷ rest → get_or (map (λ (row : TermRow). row.postings) rows) at [] ≡ row.postings
postings_at [] zero row rest is = absurd (cc (is))
postings_at [] (suc at) row rest is = absurd (cc (is))
postings_at (first ∷ rows) zero row rest is = let same : first ≡ row = cc (is) in ap (λ (r : TermRow). r.postings) same
postings_at (first ∷ rows) (suc at) row rest is = postings_at rows at row rest is

terms_stand : (part : PartState) (place ordinal : ℕ) (rows : List TermRow) → drop ordinal part.entry.columns.terms ≡ rows
    → map whole (terms_from part place ordinal (map (λ (row : TermRow). row.term) rows)) ≡ kept_columns part.base part.entry.live.docs (map row_group rows)
terms_stand part place ordinal [] is = refl
terms_stand part place ordinal (row ∷ rows) is =
    let rest : drop (ordinal + 1) part.entry.columns.terms ≡ rows = sym (drop-drop 1 ordinal part.entry.columns.terms) ∙ ap (drop 1) is in
    ap (λ (ps : List (ℕ × List ℕ)). (row.term, kept part.base part.entry.live.docs ps) ∷ map whole (terms_from part place (ordinal + 1) (map (λ (row : TermRow). row.term) rows)))
    (postings_at part.entry.columns.terms ordinal row rows is)
    ∙ ap (λ (more : List ((ℕ × List ℕ) × List (ℕ × List ℕ))). (row.term, kept part.base part.entry.live.docs row.postings) ∷ more) (terms_stand part place (ordinal + 1) rows rest)

abbrev pub kept_of : PartState → List ((ℕ × List ℕ) × List (ℕ × List ℕ))
kept_of part = kept_terms part.base part.entry

pub all_stand : (place : ℕ) (parts : List PartState) → map whole (all_terms place parts) ≡ flat_map kept_of parts
all_stand place [] = refl
all_stand place (part ∷ parts) =
    map-append whole (terms_from part place 0 (terms_of part.entry.columns)) (all_terms (place + 1) parts)
    ∙ ap (λ (first : List ((ℕ × List ℕ) × List (ℕ × List ℕ))). first ++ map whole (all_terms (place + 1) parts)) (terms_stand part place 0 part.entry.columns.terms refl)
    ∙ ap (λ (rest : List ((ℕ × List ℕ) × List (ℕ × List ℕ))). kept_of part ++ rest) (all_stand (place + 1) parts)

-- ---- rows of groups

abbrev pub Group : Type 0
Group = (ℕ × List ℕ) × List TermPlace

abbrev pub whole_group : Group → (ℕ × List ℕ) × List (ℕ × List ℕ)
whole_group group = (group.0, flat_map live_postings group.1)

pub rows_are_groups : (groups : List Group) → map row_group (live_rows groups) ≡ filter has_some (map whole_group groups)
rows_are_groups [] = refl
rows_are_groups (group ∷ groups) =
    split (nat_lt 0 (length (flat_map live_postings group.1)))
    (λ some. rw (some, rows_are_groups groups) refl)
    (λ none. rw (none, rows_are_groups groups) refl)

-- ---- which references there are

pub record IsRef (parts : List PartState) (ref : Ref) : Type 0 where
  pub part : slice_get parts ref.1.place ≡ Some ref.1.part
  pub term : slice_get (terms_of ref.1.part.entry.columns) ref.1.ordinal ≡ Some ref.0

pub there_left : {X : Type 0} (xs : List X) (at : ℕ) (x : X) (rest : List X) → drop at xs ≡ x ∷ rest → slice_get xs at ≡ Some x
there_left [] zero x rest is = absurd (cc (is))
there_left [] (suc at) x rest is = absurd (cc (is))
there_left (first ∷ xs) zero x rest is = let same : first ≡ x = cc (is) in ap Some same
there_left (first ∷ xs) (suc at) x rest is = there_left xs at x rest is

pub rest_left : {X : Type 0} (xs : List X) (at : ℕ) (x : X) (rest : List X) → drop at xs ≡ x ∷ rest → drop (at + 1) xs ≡ rest
rest_left xs at x rest is = sym (drop-drop 1 at xs) ∙ ap (drop 1) is

each_append : {X : Type 0} (P : X → Type 0) (xs ys : List X) → AllByRecursion P xs → AllByRecursion P ys → AllByRecursion P (xs ++ ys)
each_append P [] ys one two = two
each_append P (x ∷ xs) ys one two = (one.0, each_append P xs ys one.1 two)

terms_are : (parts : List PartState) (part : PartState) (place ordinal : ℕ) (terms : List (ℕ × List ℕ)) → slice_get parts place ≡ Some part → drop ordinal (terms_of part.entry.columns) ≡ terms
    → AllByRecursion (IsRef parts) (terms_from part place ordinal terms)
terms_are parts part place ordinal [] at left = tt
terms_are parts part place ordinal (term ∷ terms) at left = (
  record { part = at; term = there_left (terms_of part.entry.columns) ordinal term terms left },
  terms_are parts part place (ordinal + 1) terms at (rest_left (terms_of part.entry.columns) ordinal term terms left),
)

pub all_are : (all : List PartState) (place : ℕ) (parts : List PartState) → drop place all ≡ parts → AllByRecursion (IsRef all) (all_terms place parts)
all_are all place [] left = tt
all_are all place (part ∷ parts) left =
    each_append (IsRef all) (terms_from part place 0 (terms_of part.entry.columns)) (all_terms (place + 1) parts)
    (terms_are all part place 0 (terms_of part.entry.columns) (there_left all place part parts left) refl)
    (all_are all (place + 1) parts (rest_left all place part parts left))

-- terms that compare as equal are the same
same_bytes : (one other : List ℕ) → slice_cmp nat_cmp one other ≡ Equal → one ≡ other
same_bytes [] [] e = refl
same_bytes [] (y ∷ ys) e = cc
same_bytes (x ∷ xs) [] e = cc
same_bytes (x ∷ xs) (y ∷ ys) e = grind (arith, nat_tests, same_bytes xs ys)

same_term : (one other : ℕ × List ℕ) → term_cmp one other ≡ Equal → one ≡ other
same_term one other e = grind (arith, nat_tests, same_bytes one.1 other.1)

is_equal : (o : Ordering) → is_eq o ≡ true → o ≡ Equal
is_equal Less e = absurd (cc (e))
is_equal Equal e = refl
is_equal Greater e = absurd (cc (e))

pub tied_terms : (one other : ℕ × List ℕ) → eq_by_cmp term_cmp one other ≡ true → one ≡ other
tied_terms one other tied = same_term one other (is_equal (term_cmp one other) tied)

-- what groups of references hold
abbrev pub AreMembers : List PartState → Group → Type 0
AreMembers parts group = AllByRecursion (λ (place : TermPlace). IsRef parts (group.0, place)) group.1

members_of : (parts : List PartState) (key : ℕ × List ℕ) (refs : List Ref) → AllByRecursion (IsRef parts) refs → AllByRecursion (λ (place : TermPlace). IsRef parts (key, place)) (of_key term_cmp key refs)
members_of parts key [] are = tt
members_of parts key (ref ∷ refs) are =
    split (eq_by_cmp term_cmp key ref.0)
    (λ is. rw is (subst (λ (k : ℕ × List ℕ). IsRef parts (k, ref.1)) (sym (tied_terms key ref.0 is)) are.0, members_of parts key refs are.1))
    (λ isnt. rw isnt (members_of parts key refs are.1))

pub groups_of_refs : (parts : List PartState) (refs : List Ref) (groups : List Group) → AllByRecursion (IsRef parts) refs → AllByRecursion (λ (group : Group). group.1 ≡ of_key term_cmp group.0 refs) groups
    → AllByRecursion (AreMembers parts) groups
groups_of_refs parts refs [] are gather = tt
groups_of_refs parts refs (group ∷ groups) are gather = (
  subst (λ (places : List TermPlace). AllByRecursion (λ (place : TermPlace). IsRef parts (group.0, place)) places) (sym gather.0) (members_of parts group.0 refs are),
  groups_of_refs parts refs groups are gather.1,
)

-- ---- one reference more, as it is lent

pub refs_more : (part : PartState) (place ordinal : ℕ) (terms : List (ℕ × List ℕ)) (term : ℕ × List ℕ) (old new all : List Ref) → slice_get terms ordinal ≡ Some term
    → new ≡ old ++ (term, record { part = part; place = place; ordinal = ordinal }) ∷ [] → old ++ terms_from part place ordinal (drop ordinal terms) ≡ all
    → new ++ terms_from part place (ordinal + 1) (drop (ordinal + 1) terms) ≡ all
refs_more part place ordinal terms term old new all is pushed was =
    let own : Ref = (term, record { part = part; place = place; ordinal = ordinal }) in
    let rest : List Ref = terms_from part place (ordinal + 1) (drop (ordinal + 1) terms) in
    ap (λ (refs : List Ref). refs ++ rest) pushed ∙ append_assoc old (own ∷ []) rest ∙ ap (λ (refs : List Ref). old ++ refs) (sym (terms_left part place ordinal terms term is)) ∙ was
