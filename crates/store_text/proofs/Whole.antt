-- The whole record: its form, what stands behind, and that no bytes are the text of two.
use Rattle.std.proofs.Common.{◌≡◌, ℕ, ◌+◌, ◌*◌, Bool, true, false, cond, List, [], ◌∷◌, ◌++◌, length, get_or, drop, sum_by, Some, None, Result, Ok, Err, OnOk, ◌==◌, refl, sym, ap, ◌∙◌, arith}
use Rattle.std.specs.List.{flat_map}
use Rattle.std.proofs.lemmas.Bool.{eqb-true}
use Rattle.std.proofs.lemmas.List.{length-append, append-nil, nil_from_length}
use Rattle.std.proofs.lemmas.List.Sums.{sum_by-cons}
use Rattle.std.proofs.lemmas.Option.{same_Some, none-some}
use Rattle.part_text.specs.Text.{u32_text, u64_text, string_text}
use Rattle.part_text.specs.Reads.{IsBytes, IsBytes-rest, length-u32_text, length-u64_text}
use Rattle.part_text.specs.declared.no_memory.NoMemory.{NoMemory}
use Rattle.store_text.specs.declared.record.Row.{Row}
use Rattle.store_text.specs.declared.record.RecordText.{RecordText}
use Rattle.store_text.specs.Record.{old_mark, mark, bool_text, row_text, rows_text, bodies_text, old_record_text, new_record_text, record_text, fixed_size, body_size, row_size, record_size, IsRecord}
use Rattle.store_text.specs.Reading.{form_mark, old_after, new_after, after_text, after_at, after_reads}

-- ---- the form

parts_by : (old : Bool) (r : RecordText) → cond old (old_record_text r) (new_record_text r) ≡ form_mark old ++ after_text old r
unfolding old_after new_after
parts_by true r = refl
parts_by false r = refl

pub record_parts : (r : RecordText) → record_text r ≡ form_mark r.old ++ after_text r.old r
unfolding record_text
record_parts r = parts_by r.old r

pub new_form : (r : RecordText) → r.old ≡ false → mark ++ new_after r ≡ record_text r
unfolding record_text new_after
new_form r new = sym (ap (λ (old : Bool). cond old (old_record_text r) (new_record_text r)) new)

same_form : (old other : Bool) (rest more : List ℕ) → form_mark old ++ rest ≡ form_mark other ++ more → (old ≡ other) × (rest ≡ more)
same_form true true rest more same = (refl, ap (drop 4) same)
same_form true false rest more same = let fourth : 49 ≡ 50 = ap (λ (xs : List ℕ). get_or xs 3 0) same in absurd (omega (arith, fourth))
same_form false true rest more same = let fourth : 50 ≡ 49 = ap (λ (xs : List ℕ). get_or xs 3 0) same in absurd (omega (arith, fourth))
same_form false false rest more same = (refl, ap (drop 4) same)

-- ---- reading

pub whole_read : (bytes rest : List ℕ) (old : Bool) (r : RecordText) → IsBytes bytes → bytes ≡ form_mark old ++ rest → after_at old rest ≡ Some (r, []) → IsRecord r × (bytes ≡ record_text r)
whole_read bytes rest old r fits parts read =
    let t = (after_reads {B = Unit {0}} old).takes tt rest r [] (IsBytes-rest bytes (form_mark old) rest fits parts) read in
    let behind : rest ≡ after_text old r = t.1 ∙ append-nil (after_text old r) in
    let own : form_mark r.old ++ after_text r.old r ≡ form_mark old ++ after_text old r = ap (λ (form : Bool). form_mark form ++ after_text form r) t.0.1 in
    (t.0.0, parts ∙ ap (λ more. form_mark old ++ more) behind ∙ sym own ∙ sym (record_parts r))

pub whole_again : (bytes rest : List ℕ) (old : Bool) (r : RecordText) → bytes ≡ form_mark old ++ rest → IsRecord r → bytes ≡ record_text r → after_at old rest ≡ Some (r, [])
whole_again bytes rest old r parts is text =
    let s = same_form old r.old rest (after_text r.old r) (sym parts ∙ text ∙ record_parts r) in
    let own : after_at r.old (after_text r.old r ++ []) ≡ Some (r, []) = (after_reads {B = Unit {0}} r.old).again tt r [] (is, refl) in
    let bare : after_at r.old (after_text r.old r) ≡ Some (r, []) = ap (after_at r.old) (sym (append-nil (after_text r.old r))) ∙ own in
    ap (λ (form : Bool). after_at form rest) s.0 ∙ ap (after_at r.old) s.1 ∙ bare

pub no_form : (bytes : List ℕ) → ((old : Bool) (rest : List ℕ) → bytes ≡ form_mark old ++ rest → ⊥) → (r : RecordText) → IsRecord r → bytes ≡ record_text r → ⊥
no_form bytes never r is text = never r.old (after_text r.old r) (text ∙ record_parts r)

pub no_more : (bytes rest : List ℕ) (old : Bool) → bytes ≡ form_mark old ++ rest → after_at old rest ≡ None → (r : RecordText) → IsRecord r → bytes ≡ record_text r → ⊥
no_more bytes rest old parts none r is text = none-some (r, []) (sym none ∙ whole_again bytes rest old r parts is text)

pub too_long : (bytes rest behind : List ℕ) (old : Bool) (other : RecordText) → bytes ≡ form_mark old ++ rest → after_at old rest ≡ Some (other, behind) → (behind ≡ [] → ⊥) → (r : RecordText) → IsRecord r → bytes ≡ record_text r → ⊥
too_long bytes rest behind old other parts read more r is text =
    let same : Some (other, behind) ≡ Some (r, []) = sym read ∙ whole_again bytes rest old r parts is text in
    more (ap (λ (p : RecordText × List ℕ). p.1) (same_Some (other, behind) (r, []) same))

-- whether bytes are left
pub none_left : (xs : List ℕ) → (length xs == 0) ≡ true → xs ≡ []
none_left xs e = nil_from_length xs (eqb-true (length xs) 0 e)

pub some_left : (xs : List ℕ) → (length xs == 0) ≡ false → xs ≡ [] → ⊥
some_left [] e same = absurd (cc)
some_left (x ∷ xs) e same = absurd (cc)

pub one_text : (one other : RecordText) → IsRecord one → IsRecord other → record_text one ≡ record_text other → one ≡ other
one_text one other is are same =
    let parts = record_parts other in
    let first = whole_again (record_text other) (after_text other.old other) other.old one parts is (sym same) in
    let second = whole_again (record_text other) (after_text other.old other) other.old other parts are refl in
    ap (λ (p : RecordText × List ℕ). p.0) (same_Some (one, []) (other, []) (sym first ∙ second))

-- ---- the length

length-string_text : (bytes : List ℕ) → length (string_text bytes) ≡ body_size bytes
length-string_text bytes = length-append (u32_text (length bytes)) bytes ∙ ap (λ n. n + length bytes) (length-u32_text (length bytes))

indexes_size : (dead : List ℕ) → length (flat_map u32_text dead) ≡ 4 * length dead
indexes_size [] = refl
indexes_size (index ∷ dead) = let e = indexes_size dead in omega (arith, length-append (u32_text index) (flat_map u32_text dead), length-u32_text index, e)

length-row_text : (row : Row) → length (row_text row) ≡ row_size row
length-row_text row =
    let dead = flat_map u32_text row.dead in
    let one = length-append (u64_text row.at) (u64_text row.len ++ (u32_text (length row.dead) ++ dead)) in
    let two = length-append (u64_text row.len) (u32_text (length row.dead) ++ dead) in
    let three = length-append (u32_text (length row.dead)) dead in
    omega (arith, one, two, three, length-u64_text row.at, length-u64_text row.len, length-u32_text (length row.dead), indexes_size row.dead)

texts_size : {X : Type 0} (text : X → List ℕ) (size : X → ℕ) → ((x : X) → length (text x) ≡ size x) → (xs : List X) → length (flat_map text xs) ≡ sum_by size xs
texts_size text size own [] = refl
texts_size text size own (x ∷ xs) = let e = texts_size text size own xs in omega (arith, length-append (text x) (flat_map text xs), own x, e, sum_by-cons size x xs)

length-rows_text : (rows : List Row) → length (rows_text rows) ≡ 4 + sum_by row_size rows
length-rows_text rows = omega (arith, length-append (u32_text (length rows)) (flat_map row_text rows), length-u32_text (length rows), texts_size row_text row_size length-row_text rows)

length-bool_text : (b : Bool) → length (bool_text b) ≡ 1
length-bool_text true = refl
length-bool_text false = refl

size_by : (old : Bool) (r : RecordText) → length (cond old (old_record_text r) (new_record_text r)) ≡ fixed_size old + sum_by body_size r.bodies + sum_by row_size r.rows
size_by true r =
    let bodies = flat_map string_text r.bodies in
    let one = length-append old_mark (u64_text r.next ++ (bodies ++ rows_text r.rows)) in
    let two = length-append (u64_text r.next) (bodies ++ rows_text r.rows) in
    let three = length-append bodies (rows_text r.rows) in
    omega (arith, one, two, three, length-u64_text r.next, texts_size string_text body_size length-string_text r.bodies, length-rows_text r.rows)
size_by false r =
    let bodies = flat_map string_text r.bodies in
    let one = length-append mark (u64_text r.next ++ (bool_text r.dynamic ++ (bodies_text r.bodies ++ rows_text r.rows))) in
    let two = length-append (u64_text r.next) (bool_text r.dynamic ++ (bodies_text r.bodies ++ rows_text r.rows)) in
    let three = length-append (bool_text r.dynamic) (bodies_text r.bodies ++ rows_text r.rows) in
    let four = length-append (bodies_text r.bodies) (rows_text r.rows) in
    let five = length-append (u32_text (length r.bodies)) bodies in
    omega (arith, one, two, three, four, five, length-u64_text r.next, length-bool_text r.dynamic, length-u32_text (length r.bodies), texts_size string_text body_size length-string_text r.bodies, length-rows_text r.rows)

pub length-record_text : (r : RecordText) → length (record_text r) ≡ record_size r
unfolding record_text record_size
length-record_text r = size_by r.old r

pub size_put : (result : Result (Unit {0}) NoMemory) (old new : List ℕ) (r : RecordText) → r.old ≡ false → OnOk result (new ≡ old ++ (mark ++ new_after r)) → OnOk result (length new ≡ length old + record_size r)
size_put (Ok done) old new r form put = ap length put ∙ length-append old (mark ++ new_after r) ∙ ap (λ n. length old + n) (ap length (new_form r form) ∙ length-record_text r)
size_put (Err e) old new r form put = put

pub ruleset whole = (new_form, length-record_text)
