-- Bytes of the older form say the same columns as those that were made of them.
use Rattle.std.proofs.Common.{◌≡◌, ◌∙◌, ◌↔◌, ℕ, ◌+◌, ◌-◌, ◌<◌, ◌^◌, Bool, List, [], ◌∷◌, ◌++◌, length, set, take, drop, All, refl, sym, ap, subst, append_assoc, arith}
use Rattle.std.specs.List.{flat_map, count_by}
use Rattle.std.proofs.lemmas.List.{append-nil, length-take, take_at, take-append-drop}
use Rattle.std.proofs.lemmas.List.Concat.{flat_map-append}
use Rattle.std.proofs.lemmas.List.Elements.{All-take}
use Rattle.block_bits.specs.Flags.{is_marked}
use Rattle.part_text.specs.Text.{u32_text, counted_text}
use Rattle.stored_sources.specs.declared.root.Root.{Root}
use Rattle.stored_sources.specs.Text.{root_text, roots_text, old_root_text}
use Rattle.stored_sources.specs.Stands.{IsOldRoot, AreRoots}
use Rattle.segment_parts.specs.Text.{magic, scope_text, head_text, rows_part, segment_text}
use Rattle.segment_parts.specs.Parts.{IsHead, root_flags}
use Rattle.segment_parts.specs.Agree.{AreColumns}
use Rattle.segment.specs.Encoding.{IsEncoding}
use Rattle.segment.specs.Old.{old_magic, no_documents, behind_roots, old_parts, old_text, IsOldEncoding}
use Rattle.segment_parts.specs.Once.{IsOnce, many_once, reading_more}
use Rattle.segment_parts.specs.Heads.{OneSet, head_once}
use Rattle.segment_parts.specs.Rows.{roots_once}
use Rattle.segment.specs.Renewals.{IsShown, ArePut, IsRenewal, NoOld}
use Rattle.segment_parts.specs.declared.columns.Columns.{Columns}
use Rattle.segment.proofs.Shown.{behind_shown, shown_once, old_head, flags_front, flags_shown}

abbrev pub OneOldRoot : Type 0
OneOldRoot = IsOnce old_root_text IsOldRoot

-- ---- the texts, part by part

abbrev all_scopes : Columns → ℕ → List (List Bool)
all_scopes columns more = columns.scopes ++ no_documents columns.documents more

abbrev old_behind : Columns → List ℕ
old_behind columns = flat_map old_root_text columns.roots ++ behind_roots columns

abbrev new_behind : Columns → List ℕ
new_behind columns = roots_text columns.roots ++ behind_roots columns

old_is : (columns : Columns) (more : ℕ) → magic ++ old_parts columns more ≡ head_text columns.documents (all_scopes columns more) ++ old_behind columns
unfolding head_text
old_is columns more =
    let sizes = u32_text columns.documents in
    let scopes = counted_text u32_text scope_text (all_scopes columns more) in
    ap (λ text. magic ++ text) (sym (append_assoc sizes scopes (old_behind columns))) ∙ sym (append_assoc magic (sizes ++ scopes) (old_behind columns))

new_is : (columns : Columns) → segment_text columns ≡ head_text columns.documents columns.scopes ++ new_behind columns
unfolding segment_text rows_part
new_is columns = ap (λ text. head_text columns.documents columns.scopes ++ text) (append_assoc (roots_text columns.roots) _ _)

-- ---- the loop over roots

pub put_none : (bytes old : List ℕ) → ArePut bytes bytes old old 0
put_none bytes old = record {
  roots = [];
  reading = record { taking = record { each = λ k d below. absurd (omega (arith, below)); parts = refl }; long = refl };
  put = sym (append-nil old);
}

pub put_more : (bytes rest old now : List ℕ) (at : ℕ) (root : Root) (after next : List ℕ) → ArePut bytes rest old now at → IsOldRoot root → rest ≡ old_root_text root ++ after → next ≡ now ++ root_text root → ArePut bytes after old next (at + 1)
put_more bytes rest old now at root after next was is parts put =
    let pushed : roots_text (was.roots ++ root ∷ []) ≡ roots_text was.roots ++ root_text root = flat_map-append root_text was.roots (root ∷ []) ∙ ap (λ last. roots_text was.roots ++ last) (append-nil (root_text root)) in
    record {
      roots = was.roots ++ root ∷ [];
      reading = reading_more old_root_text IsOldRoot bytes was.roots rest at root after was.reading (record { may = is; parts = parts });
      put = put ∙ ap (λ front. front ++ root_text root) was.put ∙ append_assoc old (roots_text was.roots) (root_text root) ∙ ap (λ more. old ++ more) (sym pushed);
    }

-- ---- from the older form on

old_roots : (columns : Columns) → AreColumns columns → All (λ (root : Root). root.generation ≡ 1) columns.roots → All IsOldRoot columns.roots
old_roots columns are first k d below = record { is = are.parts.roots_are.each k d below; generation = first k d below }

-- the head of columns, and what stands behind it
record IsOldHead (documents : ℕ) (scopes : List (List Bool)) (behind : List ℕ) (columns : Columns) (more : ℕ) : Type 0 where
  documents_is : documents ≡ columns.documents
  scopes_is : scopes ≡ all_scopes columns more
  rest : behind ≡ old_behind columns

own_head : OneSet → (own : List ℕ) (documents : ℕ) (scopes : List (List Bool)) (behind : List ℕ) (columns : Columns) (more : ℕ) → IsHead documents scopes → own ≡ head_text documents scopes ++ behind → AreColumns columns → length columns.scopes + more < 2 ^ 32 → own ≡ magic ++ old_parts columns more → IsOldHead documents scopes behind columns more
own_head one_set own documents scopes behind columns more head parts are fewer same =
    let h = head_once one_set documents columns.documents scopes (all_scopes columns more) behind (old_behind columns) head (old_head columns more are fewer) (sym parts ∙ same ∙ old_is columns more) in
    record { documents_is = h.0; scopes_is = h.1; rest = h.2 }

own_count : (columns : Columns) (more count : ℕ) (scopes : List (List Bool)) → AreColumns columns → scopes ≡ all_scopes columns more → IsShown scopes count → count ≡ length columns.scopes
own_count columns more count scopes are is shown =
    shown_once columns.scopes columns.documents more count are.parts.head.some are.rooted.greatest (subst (λ (ss : List (List Bool)). IsShown ss count) is shown)

own_roots : (columns : Columns) (more : ℕ) (scopes : List (List Bool)) → AreColumns columns → scopes ≡ all_scopes columns more → count_by is_marked (root_flags scopes) ≡ length columns.roots
own_roots columns more scopes are is =
    ap (λ (ss : List (List Bool)). count_by is_marked (root_flags ss)) is
    ∙ ap (λ flags. count_by is_marked flags) (flags_front columns.scopes (no_documents columns.documents more) are.parts.head.some)
    ∙ sym are.parts.rooted

renewed_is : OneSet → OneOldRoot → (own new : List ℕ) (columns : Columns) (more : ℕ) → IsRenewal own new → AreColumns columns → All (λ (root : Root). root.generation ≡ 1) columns.roots → length columns.scopes + more < 2 ^ 32 → own ≡ magic ++ old_parts columns more → new ≡ segment_text columns
renewed_is one_set one_root own new columns more it are first fewer same =
    let h = own_head one_set own it.documents it.scopes (flat_map old_root_text it.roots ++ it.rest) columns more it.head it.parts are fewer same in
    let count : it.count ≡ length columns.scopes = own_count columns more it.count it.scopes are h.scopes_is it.shown in
    let scopes : take it.count it.scopes ≡ columns.scopes =
    ap (λ n. take n it.scopes) count ∙ ap (take (length columns.scopes)) h.scopes_is ∙ take_at columns.scopes (no_documents columns.documents more) (length columns.scopes) refl in
    let r = many_once old_root_text IsOldRoot one_root it.roots columns.roots it.rest (behind_roots columns) (it.rooted ∙ own_roots columns more it.scopes are h.scopes_is) it.old (old_roots columns are first) h.rest in
    it.text
    ∙ ap (λ (ss : List (List Bool)). head_text it.documents ss ++ (roots_text it.roots ++ it.rest)) scopes
    ∙ ap (λ documents. head_text documents columns.scopes ++ (roots_text it.roots ++ it.rest)) h.documents_is
    ∙ ap (λ (roots : List Root). head_text columns.documents columns.scopes ++ (roots_text roots ++ it.rest)) r.0
    ∙ ap (λ rest. head_text columns.documents columns.scopes ++ (roots_text columns.roots ++ rest)) r.1
    ∙ sym (new_is columns)

-- ---- and back

shown_head : (documents : ℕ) (scopes : List (List Bool)) (count : ℕ) → IsHead documents scopes → IsShown scopes count → 0 < count → IsHead documents (take count scopes)
shown_head documents scopes count head shown some = record {
  numbered = head.numbered;
  some_documents = head.some_documents;
  some = omega (arith, some, length-take count scopes, shown.within);
  fewer = omega (arith, length-take count scopes, shown.within, head.fewer);
  long = All-take (λ (flags : List Bool). length flags ≡ documents) count scopes head.long;
}

-- columns that the bytes were made to be
record IsBack (own : List ℕ) (columns : Columns) : Type 0 where
  first : All (λ (root : Root). root.generation ≡ 1) columns.roots
  more : ℕ
  fewer : length columns.scopes + more < 2 ^ 32
  text : own ≡ magic ++ old_parts columns more

back_is : OneSet → (own new : List ℕ) (columns : Columns) → IsRenewal own new → AreColumns columns → new ≡ segment_text columns → IsBack own columns
back_is one_set own new columns it are same =
    let front = take it.count it.scopes in
    let more = length it.scopes - it.count in
    let h = head_once one_set it.documents columns.documents front columns.scopes (roots_text it.roots ++ it.rest) (new_behind columns) (shown_head it.documents it.scopes it.count it.head it.shown it.some) are.parts.head (sym it.text ∙ same ∙ new_is columns) in
    let many : length it.roots ≡ length columns.roots =
    it.rooted ∙ ap (λ flags. count_by is_marked flags) (sym (flags_shown it.scopes it.count it.some)) ∙ ap (λ (ss : List (List Bool)). count_by is_marked (root_flags ss)) h.1 ∙ sym are.parts.rooted in
    let own_are : AreRoots it.roots = record { fewer = omega (arith, many, are.parts.roots_are.fewer); each = λ k d below. (it.old k d below).is } in
    let r = roots_once it.roots columns.roots it.rest (behind_roots columns) many own_are are.parts.roots_are h.2 in
    let scopes : it.scopes ≡ all_scopes columns more =
    sym (take-append-drop it.count it.scopes)
    ∙ ap (λ (ss : List (List Bool)). front ++ ss) (behind_shown it.documents it.scopes it.count it.head it.shown)
    ∙ ap (λ (ss : List (List Bool)). ss ++ no_documents it.documents more) h.1
    ∙ ap (λ (documents : ℕ). columns.scopes ++ no_documents documents more) h.0 in
    record {
      first = subst (All (λ (root : Root). root.generation ≡ 1)) r.0 (λ k d below. (it.old k d below).generation);
      more = more;
      fewer = omega (arith, ap length h.1, length-take it.count it.scopes, it.shown.within, it.head.fewer);
      text = it.parts
          ∙ ap (λ (documents : ℕ). head_text documents it.scopes ++ (flat_map old_root_text it.roots ++ it.rest)) h.0
          ∙ ap (λ (ss : List (List Bool)). head_text columns.documents ss ++ (flat_map old_root_text it.roots ++ it.rest)) scopes
          ∙ ap (λ (roots : List Root). head_text columns.documents (all_scopes columns more) ++ (flat_map old_root_text roots ++ it.rest)) r.0
          ∙ ap (λ rest. head_text columns.documents (all_scopes columns more) ++ (flat_map old_root_text columns.roots ++ rest)) r.1
          ∙ sym (old_is columns more);
    }

-- ---- bytes that are none

pub no_old_head : (own : List ℕ) → ((documents : ℕ) (scopes : List (List Bool)) (rest : List ℕ) → IsHead documents scopes → own ≡ head_text documents scopes ++ rest → ⊥) → NoOld own
no_old_head own never columns more are first fewer same = never columns.documents (all_scopes columns more) (old_behind columns) (old_head columns more are fewer) (same ∙ old_is columns more)

pub no_shown : OneSet → (own : List ℕ) (documents : ℕ) (scopes : List (List Bool)) (behind : List ℕ) (count : ℕ) → IsHead documents scopes → own ≡ head_text documents scopes ++ behind → IsShown scopes count → count ≡ 0 → NoOld own
no_shown one_set own documents scopes behind count head parts shown none columns more are first fewer same =
    let h = own_head one_set own documents scopes behind columns more head parts are fewer same in
    omega (arith, own_count columns more count scopes are h.scopes_is shown, none, are.parts.head.some)

pub no_roots : OneSet → (own : List ℕ) (documents : ℕ) (scopes : List (List Bool)) (behind : List ℕ) (count : ℕ) → IsHead documents scopes → own ≡ head_text documents scopes ++ behind → count ≡ count_by is_marked (root_flags scopes) → ((roots : List Root) (rest : List ℕ) → length roots ≡ count → All IsOldRoot roots → behind ≡ flat_map old_root_text roots ++ rest → ⊥) → NoOld own
no_roots one_set own documents scopes behind count head parts counted never columns more are first fewer same =
    let h = own_head one_set own documents scopes behind columns more head parts are fewer same in
    never columns.roots (behind_roots columns) (sym (own_roots columns more scopes are h.scopes_is) ∙ sym counted) (old_roots columns are first) h.rest

-- ---- the bytes as they came

abbrev pub BeginsOld : List ℕ → Type 0
BeginsOld bytes = bytes ≡ old_magic ++ drop 4 bytes

-- with the fourth byte of today's form
pub begins_new : (bytes own : List ℕ) → BeginsOld bytes → own ≡ set bytes 3 50 → own ≡ magic ++ drop 4 bytes
begins_new bytes own begins is = is ∙ ap (λ (bs : List ℕ). set bs 3 50) begins

pub same_columns : OneSet → OneOldRoot → (bytes own new : List ℕ) → BeginsOld bytes → own ≡ magic ++ drop 4 bytes → IsRenewal own new → (columns : Columns) → IsOldEncoding columns bytes ↔ IsEncoding columns new
unfolding old_text
same_columns one_set one_root bytes own new begins own_is it columns = (
  λ old.
      let parts : drop 4 bytes ≡ old_parts columns old.more = ap (drop 4) old.text in
      record { are = old.are; text = renewed_is one_set one_root own new columns old.more it old.are old.first old.fewer (own_is ∙ ap (λ rest. magic ++ rest) parts) },
  λ encoding.
      let back = back_is one_set own new columns it encoding.are encoding.text in
      let parts : drop 4 bytes ≡ old_parts columns back.more = ap (drop 4) (sym own_is ∙ back.text) in
      record { are = encoding.are; first = back.first; more = back.more; fewer = back.fewer; text = begins ∙ ap (λ rest. old_magic ++ rest) parts },
)

pub no_columns : (bytes own : List ℕ) → own ≡ magic ++ drop 4 bytes → NoOld own → (columns : Columns) → IsOldEncoding columns bytes → ⊥
unfolding old_text
no_columns bytes own own_is never columns old = never columns old.more old.are old.first old.fewer (own_is ∙ ap (λ rest. magic ++ rest) (ap (drop 4) old.text))

pub no_begin : (bytes : List ℕ) → (BeginsOld bytes → ⊥) → (columns : Columns) → IsOldEncoding columns bytes → ⊥
unfolding old_text
no_begin bytes never columns old = never (old.text ∙ ap (λ rest. old_magic ++ rest) (sym (ap (drop 4) old.text)))
