-- The bits of scopes: each set is the documents of its scope, and the bits determine the scopes.
use Rattle.std.proofs.Common.{◌≡◌, ℕ, zero, suc, ◌^◌, ◌<◌, Bool, false, List, [], ◌∷◌, length, get_or, refl, sym, ap, ◌∙◌, inl, inr, arith, eqb}
use Rattle.std.proofs.lemmas.List.{same_lists, length-map, get_or-map, get_or_default, nil_from_length}
use Rattle.std.proofs.lemmas.List.Elements.{All-get_or, All-from_get_or}
use Rattle.std.proofs.lemmas.List.FromFn.{length-map-range_with_len, get_or-map-range_with_len}
use Rattle.std.proofs.lemmas.List.Sums.{position_or_len_is}
use Rattle.std.proofs.lemmas.Bool.{cases_eq, eqb-true, eq-eqb, ne_eqb, false_from_ne_true}
use Rattle.block_bits.specs.Blocks.{AreBits, scope_at, has_scope, documents_of}
use Rattle.block_bits.specs.Seen.{scope_seen, scopes_seen}
use Rattle.block_bits.specs.OneScope.{has_document, set_count, IsPartition}
use Rattle.block_bits.proofs.Counted.{IsOnly, only_from_count, count_from_only}

pub length-documents_of : (scopes : List ℕ) (scope : ℕ) → length (documents_of scopes scope) ≡ length scopes
length-documents_of scopes scope = length-map scopes (has_scope scope)

pub get_or-documents_of : (scopes : List ℕ) (scope doc : ℕ) → doc < length scopes → get_or (documents_of scopes scope) doc false ≡ eqb (scope_at scopes doc) scope
get_or-documents_of scopes scope doc h = get_or-map (has_scope scope) scopes doc 0 false h

pub bits_long : (count : ℕ) (bits : List (List Bool)) (scopes : List ℕ) → AreBits count bits scopes → length bits ≡ count
bits_long count bits scopes are = ap length are.sets ∙ length-map-range_with_len (documents_of scopes) 0 count

-- the set of a scope is its documents
pub set_is : (count : ℕ) (bits : List (List Bool)) (scopes : List ℕ) (scope : ℕ) (d : List Bool) → AreBits count bits scopes → scope < count → get_or bits scope d ≡ documents_of scopes scope
set_is count bits scopes scope d are h =
    ap (λ (sets : List (List Bool)). get_or sets scope d) are.sets ∙ get_or-map-range_with_len (documents_of scopes) 0 count scope scope d h (omega arith)

pub scope_in_range : (count : ℕ) (bits : List (List Bool)) (scopes : List ℕ) (doc : ℕ) → AreBits count bits scopes → doc < length scopes → scope_at scopes doc < count
scope_in_range count bits scopes doc are h = All-get_or (λ scope. scope < count) scopes doc 0 h are.in_range

-- whether a set has a document
pub has_is : (count : ℕ) (bits : List (List Bool)) (scopes : List ℕ) (scope doc : ℕ) (d : List Bool) → AreBits count bits scopes → scope < count → doc < length scopes
    → get_or (get_or bits scope d) doc false ≡ eqb (scope_at scopes doc) scope
has_is count bits scopes scope doc d are h inside =
    ap (λ (set : List Bool). get_or set doc false) (set_is count bits scopes scope d are h) ∙ get_or-documents_of scopes scope doc inside

pub set_long : (count : ℕ) (bits : List (List Bool)) (scopes : List ℕ) (scope : ℕ) (d : List Bool) → AreBits count bits scopes → scope < count → length (get_or bits scope d) ≡ length scopes
set_long count bits scopes scope d are h = ap length (set_is count bits scopes scope d are h) ∙ length-documents_of scopes scope

-- the bits determine the scopes
scope_seen-is : (count : ℕ) (bits : List (List Bool)) (scopes : List ℕ) (doc : ℕ) → AreBits count bits scopes → doc < length scopes → scope_seen bits doc ≡ scope_at scopes doc
unfolding scope_seen
scope_seen-is count bits scopes doc are inside =
    let long = bits_long count bits scopes are in
    let in_range = scope_in_range count bits scopes doc are inside in
    position_or_len_is (has_document doc) bits (scope_at scopes doc) [] (omega arith)
    (λ k before. has_is count bits scopes k doc [] are (omega arith) inside ∙ ne_eqb (scope_at scopes doc) k (λ e. omega arith))
    (λ within. has_is count bits scopes (scope_at scopes doc) doc [] are in_range inside ∙ eq-eqb (scope_at scopes doc) (scope_at scopes doc) refl)

length-scopes_seen : (bits : List (List Bool)) → length (scopes_seen bits) ≡ length (get_or bits 0 [])
unfolding scopes_seen
length-scopes_seen bits = length-map-range_with_len (scope_seen bits) 0 (length (get_or bits 0 []))

get_or-scopes_seen : (bits : List (List Bool)) (doc d : ℕ) → doc < length (get_or bits 0 []) → get_or (scopes_seen bits) doc d ≡ scope_seen bits doc
unfolding scopes_seen
get_or-scopes_seen bits doc d h = get_or-map-range_with_len (scope_seen bits) 0 (length (get_or bits 0 [])) doc doc d h (omega arith)

-- of no scopes there are no documents
documents_none : (bits : List (List Bool)) (scopes : List ℕ) → AreBits 0 bits scopes → length scopes ≡ 0
documents_none bits [] are = refl
documents_none bits (scope ∷ scopes) are = absurd (omega (arith, scope_in_range 0 bits (scope ∷ scopes) 0 are (omega arith)))

first_long : (count : ℕ) (bits : List (List Bool)) (scopes : List ℕ) → AreBits count bits scopes → length (get_or bits 0 []) ≡ length scopes
first_long zero bits scopes are =
    ap (λ (sets : List (List Bool)). length (get_or sets 0 [])) (nil_from_length bits (bits_long 0 bits scopes are)) ∙ sym (documents_none bits scopes are)
first_long (suc count) bits scopes are = set_long (suc count) bits scopes 0 [] are (omega arith)

pub scopes_seen-is : (count : ℕ) (bits : List (List Bool)) (scopes : List ℕ) → AreBits count bits scopes → scopes_seen bits ≡ scopes
scopes_seen-is count bits scopes are =
    let long = first_long count bits scopes are in
    let seen_long = length-scopes_seen bits in
    same_lists _ _ (seen_long ∙ long)
    (λ k d below.
    let inside : k < length scopes = omega (arith, long, seen_long) in
    get_or-scopes_seen bits k d (omega (arith, seen_long)) ∙ scope_seen-is count bits scopes k are inside ∙ get_or_default scopes k 0 d inside)

-- what `has` answers of a document, by its scope
pub has_answer : (count : ℕ) (bits : List (List Bool)) (scopes : List ℕ) (scope doc : ℕ) (set : List Bool) (answer : Bool) → AreBits count bits scopes → scope < count → doc < length scopes
    → set ≡ get_or bits scope set → answer ≡ get_or set doc false → answer ≡ eqb (scope_at scopes doc) scope
has_answer count bits scopes scope doc set answer are h inside read says =
    says ∙ ap (λ (one : List Bool). get_or one doc false) read ∙ has_is count bits scopes scope doc set are h inside

-- the set that was read at a scope's place
pub set_read : (count : ℕ) (bits : List (List Bool)) (scopes : List ℕ) (scope : ℕ) (set : List Bool) → AreBits count bits scopes → scope < count → set ≡ get_or bits scope set → set ≡ documents_of scopes scope
set_read count bits scopes scope set are h read = read ∙ set_is count bits scopes scope set are h

-- ---- bits in which each document has one scope

-- the scope seen is the only one with the document
seen_alone : (bits : List (List Bool)) (doc : ℕ) → set_count bits doc ≡ 1 → IsOnly (has_document doc) bits [] (scope_seen bits doc)
unfolding scope_seen set_count
seen_alone bits doc one = only_from_count (has_document doc) bits [] one

alone_count : (bits : List (List Bool)) (doc scope : ℕ) → IsOnly (has_document doc) bits [] scope → set_count bits doc ≡ 1
unfolding set_count
alone_count bits doc scope only = count_from_only (has_document doc) bits [] scope only

pub bits_from_partition : (bits : List (List Bool)) → IsPartition bits (length (get_or bits 0 [])) → AreBits (length bits) bits (scopes_seen bits)
bits_from_partition bits partition =
    let docs = length (get_or bits 0 []) in
    let seen_long : length (scopes_seen bits) ≡ docs = length-scopes_seen bits in
    record {
      sets = same_lists _ _ (sym (length-map-range_with_len (documents_of (scopes_seen bits)) 0 (length bits)))
          (λ scope d h.
          let set_docs : length (get_or bits scope d) ≡ docs = All-get_or (λ one. length one ≡ docs) bits scope d h partition.lengths in
          let set : get_or bits scope d ≡ documents_of (scopes_seen bits) scope =
          same_lists _ _ (set_docs ∙ sym (length-documents_of (scopes_seen bits) scope ∙ seen_long))
          (λ doc e inside.
          let in_docs : doc < docs = omega (arith, set_docs) in
          let alone = seen_alone bits doc (partition.one doc in_docs) in
          let seen : scope_at (scopes_seen bits) doc ≡ scope_seen bits doc = get_or-scopes_seen bits doc 0 in_docs in
          get_or_default (get_or bits scope d) doc e false inside
          ∙ ap (λ (one : List Bool). get_or one doc false) (get_or_default bits scope d [] h)
          ∙ elim (cases_eq (scope_seen bits doc) scope) [
            | inl same ↦
                ap (λ k. has_document doc (get_or bits k [])) (sym same) ∙ alone.here
                ∙ sym (eq-eqb (scope_at (scopes_seen bits) doc) scope (seen ∙ same))
            | inr other ↦
                false_from_ne_true _ (λ passes. other (sym (alone.only scope h passes)))
                ∙ sym (ne_eqb (scope_at (scopes_seen bits) doc) scope (λ e. other (sym seen ∙ e)))
          ]
          ∙ sym (get_or_default (documents_of (scopes_seen bits) scope) doc e false (omega (arith, length-documents_of (scopes_seen bits) scope, seen_long))
          ∙ get_or-documents_of (scopes_seen bits) scope doc (omega (arith, seen_long))))
          in set ∙ sym (get_or-map-range_with_len (documents_of (scopes_seen bits)) 0 (length bits) scope scope d h (omega arith)));
      in_range = All-from_get_or (λ scope. scope < length bits) (scopes_seen bits) 0
          (λ doc h.
          let in_docs : doc < docs = omega (arith, seen_long) in
          let alone = seen_alone bits doc (partition.one doc in_docs) in
          omega (arith, alone.within, get_or-scopes_seen bits doc 0 in_docs));
    }

pub partition_from_bits : (bits : List (List Bool)) (scopes : List ℕ) → AreBits (length bits) bits scopes → IsPartition bits (length (get_or bits 0 []))
partition_from_bits bits scopes are =
    let long = first_long (length bits) bits scopes are in
    record {
      lengths = All-from_get_or (λ one. length one ≡ length (get_or bits 0 [])) bits []
          (λ scope h. set_long (length bits) bits scopes scope [] are h ∙ sym long);
      one = λ doc h.
          let inside : doc < length scopes = omega (arith, long) in
          alone_count bits doc (scope_at scopes doc) record {
            within = scope_in_range (length bits) bits scopes doc are inside;
            here = has_is (length bits) bits scopes (scope_at scopes doc) doc [] are (scope_in_range (length bits) bits scopes doc are inside) inside
                ∙ eq-eqb (scope_at scopes doc) (scope_at scopes doc) refl;
            only = λ k within passes. sym (eqb-true _ _ (sym (has_is (length bits) bits scopes k doc [] are within inside) ∙ passes));
          };
    }

pub seen_small : (bits : List (List Bool)) → length (get_or bits 0 []) < 2 ^ 32 → length (scopes_seen bits) < 2 ^ 32
seen_small bits h = omega (arith, length-scopes_seen bits)
