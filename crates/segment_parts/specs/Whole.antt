-- A segment's text and its columns: the parts together, and that bytes are the text of one segment at most.
use Rattle.std.proofs.Common.{◌≡◌, ℕ, ℤ, ◌+◌, ◌-◌, ◌≤◌, Bool, List, [], ◌++◌, length, drop, nat_cmp, int_cmp, refl, sym, ap, subst, ◌∙◌, append_assoc, arith}
use Rattle.std.specs.List.{count_by}
use Rattle.std.proofs.lemmas.List.{append-nil, drop_at, length-append}
use Rattle.block_bits.specs.Flags.{is_marked}
use Rattle.part_text.specs.Reading.{u64_at, i64_at}
use Rattle.stored_sources.specs.declared.root.Root.{Root}
use Rattle.stored_sources.specs.Text.{roots_text}
use Rattle.term_table.specs.declared.rows.TermRow.{TermRow}
use Rattle.term_table.specs.Part.{rows_text}
use Rattle.segment_parts.specs.Text.{head_text, rows_part, ordinals_text, numbers_text, present_text, segment_text}
use Rattle.segment_parts.specs.Fields.{AreByField}
use Rattle.segment_parts.specs.Parts.{IsHead, IsPresence, root_flags, AreParts}
use Rattle.segment_parts.specs.Heads.{OneSet, NoHead, head_once}
use Rattle.segment_parts.specs.Kept.{columns_in}
use Rattle.segment_parts.specs.Rows.{roots_in, terms_in, AreRowsAt, NoRows, rows_once}
use Rattle.segment_parts.specs.Tails.{AreFields, AreFieldsAt, NoFields, fields_text, once_ordinals, once_numbers, once_present}
use Rattle.segment_parts.specs.declared.columns.Columns.{Columns}

-- the roots, the terms and the fields of columns
abbrev pub rest_text : Columns → List ℕ
rest_text columns = (roots_text columns.roots ++ rows_text columns.terms) ++ fields_text columns.ordinals columns.numbers columns.present

segment_parts : (columns : Columns) → segment_text columns ≡ head_text columns.documents columns.scopes ++ rest_text columns
unfolding segment_text rows_part
segment_parts columns = refl

fields_of : (columns : Columns) → AreParts columns → AreFields columns.documents columns.ordinals columns.numbers columns.present
fields_of columns are = record { ordinals_are = are.ordinals_are; numbers_are = are.numbers_are; present_are = are.present_are }

abbrev Made : ℕ → List (List Bool) → List Root → List TermRow → List (ℕ × List (ℕ × List ℕ)) → List (ℕ × List (ℕ × List ℤ)) → List (ℕ × List Bool) → Columns
Made documents scopes roots terms ordinals numbers present = record {
  documents = documents;
  scopes = scopes;
  roots = roots;
  terms = terms;
  ordinals = ordinals;
  numbers = numbers;
  present = present;
}

-- bytes are the text of one segment at most
pub segment_once : OneSet → (one other : Columns) → AreParts one → AreParts other → segment_text one ≡ segment_text other → one ≡ other
segment_once one_set one other are is same =
    let h = head_once one_set one.documents other.documents one.scopes other.scopes (rest_text one) (rest_text other) are.head is.head (sym (segment_parts one) ∙ same ∙ segment_parts other) in
    let long : length one.roots ≡ length other.roots = are.rooted ∙ ap (λ (ss : List (List Bool)). count_by is_marked (root_flags ss)) h.1 ∙ sym is.rooted in
    let r = rows_once one.roots other.roots one.terms other.terms (fields_text one.ordinals one.numbers one.present) (fields_text other.ordinals other.numbers other.present) long are.roots_are is.roots_are are.terms_are is.terms_are h.2 in
    let o = once_ordinals one.ordinals other.ordinals (numbers_text one.numbers ++ present_text one.present) (numbers_text other.numbers ++ present_text other.present) are.ordinals_are is.ordinals_are r.2 in
    let n = once_numbers one.numbers other.numbers (present_text one.present) (present_text other.present) are.numbers_are is.numbers_are o.1 in
    let others : AreByField (IsPresence one.documents) other.present = subst (λ k. AreByField (IsPresence k) other.present) (sym h.0) is.present_are in
    let p = once_present one.documents are.head.numbered one.present other.present [] [] are.present_are others (append-nil (present_text one.present) ∙ n.1 ∙ sym (append-nil (present_text other.present))) in
    ap (λ x. Made x one.scopes one.roots one.terms one.ordinals one.numbers one.present) h.0
    ∙ ap (λ x. Made other.documents x one.roots one.terms one.ordinals one.numbers one.present) h.1
    ∙ ap (λ x. Made other.documents other.scopes x one.terms one.ordinals one.numbers one.present) r.0
    ∙ ap (λ x. Made other.documents other.scopes other.roots x one.ordinals one.numbers one.present) r.1
    ∙ ap (λ x. Made other.documents other.scopes other.roots other.terms x one.numbers one.present) o.0
    ∙ ap (λ x. Made other.documents other.scopes other.roots other.terms other.ordinals x one.present) n.0
    ∙ ap (λ x. Made other.documents other.scopes other.roots other.terms other.ordinals other.numbers x) p.0

-- ---- bytes that are read part by part

-- what stands behind the head
pub behind_head : (bytes : List ℕ) (documents : ℕ) (scopes : List (List Bool)) (behind : List ℕ) → bytes ≡ head_text documents scopes ++ behind → (length behind ≤ length bytes) × (drop (length bytes - length behind) bytes ≡ behind)
behind_head bytes documents scopes behind parts =
    let long : length bytes ≡ length (head_text documents scopes) + length behind = ap length parts ∙ length-append (head_text documents scopes) behind in
    let place : length bytes - length behind ≡ length (head_text documents scopes) = omega (arith, long) in
    (omega (arith, long), ap (λ n. drop n bytes) place ∙ ap (drop (length (head_text documents scopes))) parts ∙ drop_at (head_text documents scopes) behind (length (head_text documents scopes)) refl)

-- the columns that were read
abbrev pub columns_read : List ℕ → ℕ → List (List Bool) → List ℕ → List ℕ → List (ℕ × List ℕ) → List (ℕ × List ℕ) → List (ℕ × List Bool) → Columns
columns_read bytes documents scopes roots terms ordinals numbers present =
    Made documents scopes (roots_in bytes roots) (terms_in bytes terms) (columns_in nat_cmp u64_at bytes ordinals) (columns_in int_cmp i64_at bytes numbers) present

pub record AreRead (bytes : List ℕ) (documents : ℕ) (scopes : List (List Bool)) (roots terms : List ℕ) (ordinals numbers : List (ℕ × List ℕ)) (present : List (ℕ × List Bool)) : Type 0 where
  pub are : AreParts (columns_read bytes documents scopes roots terms ordinals numbers present)
  pub text : bytes ≡ segment_text (columns_read bytes documents scopes roots terms ordinals numbers present)

pub all_read : (bytes : List ℕ) (documents : ℕ) (scopes : List (List Bool)) (behind : List ℕ) (count : ℕ) (roots terms : List ℕ) (end : ℕ) (ordinals numbers : List (ℕ × List ℕ)) (present : List (ℕ × List Bool))
    → IsHead documents scopes → bytes ≡ head_text documents scopes ++ behind → count ≡ count_by is_marked (root_flags scopes) → AreRowsAt bytes (length bytes - length behind) count roots terms end → AreFieldsAt bytes end documents ordinals numbers present
    → AreRead bytes documents scopes roots terms ordinals numbers present
all_read bytes documents scopes behind count roots terms end ordinals numbers present head parts counted rows fields = record {
  are = record {
    head = head;
    roots_are = rows.roots_are;
    rooted = rows.many ∙ counted;
    terms_are = rows.terms_are;
    ordinals_are = fields.are.ordinals_are;
    numbers_are = fields.are.numbers_are;
    present_are = fields.are.present_are;
  };
  text = parts
      ∙ ap (λ rest. head_text documents scopes ++ rest)
      (sym (behind_head bytes documents scopes behind parts).1
      ∙ rows.there
      ∙ ap (λ rest. (roots_text (roots_in bytes roots) ++ rows_text (terms_in bytes terms)) ++ rest) fields.there)
      ∙ sym (segment_parts (columns_read bytes documents scopes roots terms ordinals numbers present));
}

-- the bytes of no segment
abbrev pub NoSegment : List ℕ → Type 0
NoSegment bytes = (columns : Columns) → AreParts columns → bytes ≡ segment_text columns → ⊥

pub no_head : (bytes : List ℕ) → NoHead bytes → NoSegment bytes
no_head bytes never columns are same = never columns.documents columns.scopes (rest_text columns) are.head (same ∙ segment_parts columns)

-- the head of a segment is the one that was read
pub record IsOwn (columns : Columns) (documents : ℕ) (scopes : List (List Bool)) (behind : List ℕ) : Type 0 where
  pub documents_is : documents ≡ columns.documents
  pub scopes_is : scopes ≡ columns.scopes
  pub rest : behind ≡ rest_text columns

own_head : OneSet → (bytes : List ℕ) (documents : ℕ) (scopes : List (List Bool)) (behind : List ℕ) (columns : Columns) → IsHead documents scopes → bytes ≡ head_text documents scopes ++ behind → AreParts columns → bytes ≡ segment_text columns → IsOwn columns documents scopes behind
own_head one_set bytes documents scopes behind columns head parts are same =
    let h = head_once one_set documents columns.documents scopes columns.scopes behind (rest_text columns) head are.head (sym parts ∙ same ∙ segment_parts columns) in
    record { documents_is = h.0; scopes_is = h.1; rest = h.2 }

own_count : (columns : Columns) (documents : ℕ) (scopes : List (List Bool)) (behind : List ℕ) (count : ℕ) → IsOwn columns documents scopes behind → AreParts columns → count ≡ count_by is_marked (root_flags scopes) → length columns.roots ≡ count
own_count columns documents scopes behind count own are counted = are.rooted ∙ ap (λ (ss : List (List Bool)). count_by is_marked (root_flags ss)) (sym own.scopes_is) ∙ sym counted

pub no_rows : OneSet → (bytes : List ℕ) (documents : ℕ) (scopes : List (List Bool)) (behind : List ℕ) (count : ℕ) → IsHead documents scopes → bytes ≡ head_text documents scopes ++ behind → count ≡ count_by is_marked (root_flags scopes) → NoRows (drop (length bytes - length behind) bytes) count → NoSegment bytes
no_rows one_set bytes documents scopes behind count head parts counted never columns are same =
    let own = own_head one_set bytes documents scopes behind columns head parts are same in
    never columns.roots columns.terms (fields_text columns.ordinals columns.numbers columns.present) (own_count columns documents scopes behind count own are counted) are.roots_are are.terms_are
    ((behind_head bytes documents scopes behind parts).1 ∙ own.rest)

pub no_fields : OneSet → (bytes : List ℕ) (documents : ℕ) (scopes : List (List Bool)) (behind : List ℕ) (count : ℕ) (roots terms : List ℕ) (end : ℕ) → IsHead documents scopes → bytes ≡ head_text documents scopes ++ behind → count ≡ count_by is_marked (root_flags scopes) → AreRowsAt bytes (length bytes - length behind) count roots terms end → NoFields documents (drop end bytes) → NoSegment bytes
no_fields one_set bytes documents scopes behind count roots terms end head parts counted rows never columns are same =
    let own = own_head one_set bytes documents scopes behind columns head parts are same in
    let r = rows_once (roots_in bytes roots) columns.roots (terms_in bytes terms) columns.terms (drop end bytes) (fields_text columns.ordinals columns.numbers columns.present)
    (rows.many ∙ sym (own_count columns documents scopes behind count own are counted)) rows.roots_are are.roots_are rows.terms_are are.terms_are
    (sym rows.there ∙ (behind_head bytes documents scopes behind parts).1 ∙ own.rest) in
    never columns.ordinals columns.numbers columns.present (subst (λ k. AreFields k columns.ordinals columns.numbers columns.present) (sym own.documents_is) (fields_of columns are)) r.2

-- the parts written one behind the other
four : (head rows ordinals numbers present : List ℕ) → (((head ++ rows) ++ ordinals) ++ numbers) ++ present ≡ head ++ (rows ++ (ordinals ++ (numbers ++ present)))
four head rows ordinals numbers present = simp append_assoc

pub all_written : (columns : Columns) (none one two three whole all : List ℕ) → none ≡ [] → one ≡ none ++ head_text columns.documents columns.scopes → two ≡ one ++ rows_part columns → three ≡ two ++ ordinals_text columns.ordinals → whole ≡ three ++ numbers_text columns.numbers → all ≡ whole ++ present_text columns.present → all ≡ segment_text columns
unfolding segment_text
all_written columns none one two three whole all start first second third more last =
    let head = head_text columns.documents columns.scopes in
    let one_is : one ≡ head = first ∙ ap (λ front. front ++ head) start in
    last
    ∙ ap (λ front. front ++ present_text columns.present) (more ∙ ap (λ front. front ++ numbers_text columns.numbers) (third ∙ ap (λ front. front ++ ordinals_text columns.ordinals) (second ∙ ap (λ front. front ++ rows_part columns) one_is)))
    ∙ four head (rows_part columns) (ordinals_text columns.ordinals) (numbers_text columns.numbers) (present_text columns.present)
