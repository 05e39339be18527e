-- Scopes without documents behind the last that has some.
use Rattle.std.proofs.Common.{◌≡◌, ◌∙◌, inl, inr, ℕ, zero, suc, ◌+◌, ◌-◌, ◌<◌, ◌≤◌, ◌^◌, Bool, true, false, List, [], ◌∷◌, ◌++◌, length, get_or, take, drop, replicate, refl, ap, arith}
use Rattle.std.specs.List.{count_by}
use Rattle.std.proofs.lemmas.Bool.{cases_lt}
use Rattle.std.proofs.lemmas.List.{get_or_append_left, get_or-append_right, get_or_default, get_or-drop, get_or-replicate, length-append, length-drop, length-replicate}
use Rattle.std.proofs.lemmas.List.Elements.{All-append, All-replicate}
use Rattle.block_bits.specs.Flags.{is_marked}
use Rattle.segment_parts.specs.Parts.{root_flags, IsHead}
use Rattle.segment_parts.specs.Agree.{AreColumns}
use Rattle.segment.specs.Old.{no_documents}
use Rattle.segment_parts.specs.Marks.{count-mark}
use Rattle.segment.specs.Renewals.{IsShown}
use Rattle.segment_parts.specs.declared.columns.Columns.{Columns}

no_marks : (n : ℕ) → count_by is_marked (replicate n false) ≡ 0
no_marks zero = refl
no_marks (suc n) = omega (arith, no_marks n, count-mark false (replicate n false))

-- a set without documents
no_flags : (flags : List Bool) (n : ℕ) → length flags ≡ n → count_by is_marked flags ≡ 0 → flags ≡ replicate n false
no_flags [] zero long none = refl
no_flags [] (suc n) long none = absurd (omega (arith, long))
no_flags (flag ∷ flags) zero long none = absurd (omega (arith, long))
no_flags (true ∷ flags) (suc n) long none = absurd (omega (arith, none, count-mark true flags))
no_flags (false ∷ flags) (suc n) long none = ap (λ (rest : List Bool). false ∷ rest) (no_flags flags n (omega (arith, long)) (omega (arith, none, count-mark false flags)))

all_same : {X : Type 0} (xs : List X) (n : ℕ) (x : X) → length xs ≡ n → ((k : ℕ) → k < length xs → get_or xs k x ≡ x) → xs ≡ replicate n x
all_same [] zero x long each = refl
all_same [] (suc n) x long each = absurd (omega (arith, long))
all_same (y ∷ ys) zero x long each = absurd (omega (arith, long))
all_same {X} (y ∷ ys) (suc n) x long each =
    ap (λ (first : X). first ∷ ys) (each 0 (omega arith)) ∙ ap (λ (rest : List X). x ∷ rest) (all_same ys n x (omega (arith, long)) (λ k below. each (suc k) (omega (arith, below))))

-- the scopes behind have no documents
pub behind_shown : (documents : ℕ) (scopes : List (List Bool)) (count : ℕ) → IsHead documents scopes → IsShown scopes count → drop count scopes ≡ no_documents documents (length scopes - count)
behind_shown documents scopes count head shown =
    let none = replicate documents false in
    all_same (drop count scopes) (length scopes - count) none (length-drop count scopes)
    (λ k below.
    let inside : count + k < length scopes = omega (arith, below, length-drop count scopes) in
    let own : get_or (drop count scopes) k none ≡ get_or scopes (count + k) none = get_or-drop count scopes k none in
    own ∙ no_flags (get_or scopes (count + k) none) documents (head.long (count + k) none inside)
    (ap (λ flags. count_by is_marked flags) (get_or_default scopes (count + k) none [] inside) ∙ shown.empty (count + k) (omega arith) inside))

-- there is one way to part them
pub shown_once : (scopes : List (List Bool)) (documents more count : ℕ) → 1 ≤ length scopes → 1 ≤ count_by is_marked (get_or scopes (length scopes - 1) []) → IsShown (scopes ++ no_documents documents more) count → count ≡ length scopes
shown_once scopes documents more count some last shown =
    let none = no_documents documents more in
    let long : length (scopes ++ none) ≡ length scopes + more = length-append scopes none ∙ ap (λ n. length scopes + n) (length-replicate more (replicate documents false)) in
    elim (cases_lt count (length scopes)) [
      | inl less ↦
          let own : get_or (scopes ++ none) (length scopes - 1) [] ≡ get_or scopes (length scopes - 1) [] = get_or_append_left scopes none [] (length scopes - 1) (omega (arith, some)) in
          absurd (omega (arith, shown.empty (length scopes - 1) (omega (arith, less)) (omega (arith, some, long)), ap (λ flags. count_by is_marked flags) own, last))
      | inr from ↦ elim (cases_lt (length scopes) count) [
        | inl more_shown ↦
            let at = count - 1 - length scopes in
            let inside : at < more = omega (arith, more_shown, shown.within, long) in
            let own : get_or (scopes ++ none) (count - 1) [] ≡ get_or none at [] = get_or-append_right scopes none (length scopes) (count - 1) [] refl (omega (arith, more_shown)) in
            let is : get_or none at [] ≡ replicate documents false = get_or-replicate more at (replicate documents false) [] inside in
            absurd (omega (arith, shown.last (omega (arith, more_shown)), ap (λ flags. count_by is_marked flags) (own ∙ is), no_marks documents))
        | inr upto ↦ omega (arith, from, upto)
      ]
    ]

-- the head with scopes that have none
pub old_head : (columns : Columns) (more : ℕ) → AreColumns columns → length columns.scopes + more < 2 ^ 32 → IsHead columns.documents (columns.scopes ++ no_documents columns.documents more)
old_head columns more are fewer =
    let none = no_documents columns.documents more in
    let long : length (columns.scopes ++ none) ≡ length columns.scopes + more = length-append columns.scopes none ∙ ap (λ n. length columns.scopes + n) (length-replicate more (replicate columns.documents false)) in
    let Long : List Bool → Type 0 = λ flags. length flags ≡ columns.documents in
    record {
      numbered = are.parts.head.numbered;
      some_documents = are.parts.head.some_documents;
      some = omega (arith, long, are.parts.head.some);
      fewer = omega (arith, long, fewer);
      long = All-append Long columns.scopes none are.parts.head.long (All-replicate Long more (replicate columns.documents false) (length-replicate columns.documents false));
    }

-- the roots are those of the first scope
pub flags_front : (scopes others : List (List Bool)) → 1 ≤ length scopes → root_flags (scopes ++ others) ≡ root_flags scopes
flags_front [] others some = absurd (omega (arith, some))
flags_front (scope ∷ scopes) others some = refl

pub flags_shown : (scopes : List (List Bool)) (count : ℕ) → 0 < count → root_flags (take count scopes) ≡ root_flags scopes
flags_shown [] zero some = refl
flags_shown [] (suc count) some = refl
flags_shown (scope ∷ scopes) zero some = absurd (omega (arith, some))
flags_shown (scope ∷ scopes) (suc count) some = refl

-- ---- the loop from the last scope on

pub record IsEmptyFrom (scopes : List (List Bool)) (count : ℕ) : Type 0 where
  pub within : count ≤ length scopes
  pub empty : (at : ℕ) → count ≤ at → at < length scopes → count_by is_marked (get_or scopes at []) ≡ 0

pub empty_none : (scopes : List (List Bool)) → IsEmptyFrom scopes (length scopes)
empty_none scopes = record { within = omega arith; empty = λ at from below. absurd (omega (arith, from, below)) }

pub empty_more : (scopes : List (List Bool)) (count : ℕ) (own : List Bool) (marks : ℕ) → IsEmptyFrom scopes count → 0 < count → own ≡ get_or scopes (count - 1) own → marks ≡ count_by is_marked own → marks ≤ 0 → IsEmptyFrom scopes (count - 1)
empty_more scopes count own marks was some is counted none = record {
  within = omega (arith, was.within);
  empty = λ at from below. elim (cases_lt at count) [
    | inl here ↦
        let same : count - 1 ≡ at = omega (arith, here, from, some) in
        let flags : own ≡ get_or scopes at [] = is ∙ get_or_default scopes (count - 1) own [] (omega (arith, some, was.within)) ∙ ap (λ k. get_or scopes k []) same in
        omega (arith, ap (λ fs. count_by is_marked fs) flags, counted, none)
    | inr past ↦ was.empty at past below
  ];
}

pub empty_ends : (scopes : List (List Bool)) (count : ℕ) (own : List Bool) (marks : ℕ) → IsEmptyFrom scopes count → 0 < count → own ≡ get_or scopes (count - 1) own → marks ≡ count_by is_marked own → 0 < marks → IsShown scopes count
empty_ends scopes count own marks was some is counted marked = record {
  within = was.within;
  empty = was.empty;
  last = λ _.
      let flags : own ≡ get_or scopes (count - 1) [] = is ∙ get_or_default scopes (count - 1) own [] (omega (arith, some, was.within)) in
      omega (arith, ap (λ fs. count_by is_marked fs) flags, counted, marked);
}

pub empty_all : (scopes : List (List Bool)) (count : ℕ) → IsEmptyFrom scopes count → count ≤ 0 → IsShown scopes 0
empty_all scopes count was none = record {
  within = omega arith;
  empty = λ at from below. was.empty at (omega (arith, none)) below;
  last = λ some. absurd (omega (arith, some));
}
