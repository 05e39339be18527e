-- The first part of a segment, piece by piece.
use Rattle.std.proofs.Common.{◌≡◌, ℕ, zero, suc, ◌+◌, ◌*◌, ◌/◌, ◌<◌, ◌≤◌, ◌^◌, Bool, true, false, List, [], ◌∷◌, ◌++◌, length, get_or, take, drop, All, refl, sym, ap, subst, ◌∙◌, append_assoc, arith}
use Rattle.std.specs.List.{flat_map, range_with_len}
use Rattle.std.proofs.lemmas.List.{length-append}
use Rattle.std.proofs.lemmas.List.FromFn.{length-map-range_with_len}
use Rattle.std.proofs.lemmas.List.Elements.{All-map}
use Rattle.block_bits.specs.Words.{words_of, word_at, bits_number}
use Rattle.part_text.specs.Text.{u32_text, u64_text}
use Rattle.part_text.specs.Reads.{length-u64_text}
use Rattle.segment_parts.specs.Text.{magic, scope_text, head_text}
use Rattle.segment_parts.specs.Parts.{IsHead}
use Rattle.segment_parts.specs.Once.{IsTaken, IsNowhere, IsOnce, IsReading, many_once, many_nowhere, once_u32, once_u64}

abbrev pub HasLength : ℕ → List Bool → Type 0
HasLength documents flags = length flags ≡ documents

-- the numbers of documents and of scopes
abbrev pub sizes_text : ℕ × ℕ → List ℕ
sizes_text sizes = magic ++ (u32_text sizes.0 ++ u32_text sizes.1)

pub record AreSizes (sizes : ℕ × ℕ) : Type 0 where
  pub numbered : sizes.0 < 2 ^ 32
  pub fewer : sizes.1 < 2 ^ 32
  pub some_documents : 1 ≤ sizes.0
  pub some : 1 ≤ sizes.1

abbrev pub scopes_text : List (List Bool) → List ℕ
scopes_text scopes = flat_map scope_text scopes

pub record AreScopes (documents count : ℕ) (scopes : List (List Bool)) : Type 0 where
  pub many : length scopes ≡ count
  pub long : All (HasLength documents) scopes

-- ---- bits are numbers of eight bytes

bits_below : (n : ℕ) (flags : List Bool) → bits_number (take n flags) < 2 ^ n
bits_below zero flags = omega arith
bits_below (suc n) [] = let rest = bits_below n [] in omega arith
bits_below (suc n) (true ∷ flags) = let rest = bits_below n flags in omega arith
bits_below (suc n) (false ∷ flags) = let rest = bits_below n flags in omega arith

pub words_below : (flags : List Bool) → All (λ word. word < 2 ^ 64) (words_of flags)
unfolding words_of
words_below flags = All-map (λ word. word < 2 ^ 64) (word_at flags) (range_with_len 0 ((length flags + 63) / 64)) (λ k d below. bits_below 64 (drop (64 * get_or (range_with_len 0 ((length flags + 63) / 64)) k d) flags))

pub length-words_of : (flags : List Bool) → length (words_of flags) ≡ (length flags + 63) / 64
unfolding words_of
length-words_of flags = length-map-range_with_len (word_at flags) 0 ((length flags + 63) / 64)

pub length-words_text : (words : List ℕ) → length (flat_map u64_text words) ≡ 8 * length words
length-words_text [] = refl
length-words_text (word ∷ words) = omega (arith, length-append (u64_text word) (flat_map u64_text words), length-u64_text word, length-words_text words)

-- two sets with the same words are one
abbrev pub OneSet : Type 0
OneSet = (flags others : List Bool) → length flags ≡ length others → words_of flags ≡ words_of others → flags ≡ others

pub scope_once : OneSet → (documents : ℕ) → IsOnce scope_text (HasLength documents)
scope_once one_set documents flags others rest more long other same =
    let count : length (words_of flags) ≡ length (words_of others) = length-words_of flags ∙ ap (λ n. (n + 63) / 64) (long ∙ sym other) ∙ sym (length-words_of others) in
    let words = many_once u64_text (λ word. word < 2 ^ 64) once_u64 (words_of flags) (words_of others) rest more count (words_below flags) (words_below others) same in
    (one_set flags others (long ∙ sym other) words.0, words.1)

-- too few bytes for the words of a set
pub scope_short : (documents : ℕ) (bytes : List ℕ) → length bytes < 8 * ((documents + 63) / 64) → IsNowhere scope_text (HasLength documents) bytes
scope_short documents bytes short flags rest long parts =
    let size : length bytes ≡ 8 * length (words_of flags) + length rest = ap length parts ∙ length-append (scope_text flags) rest ∙ ap (λ n. n + length rest) (length-words_text (words_of flags)) in
    let count : length (words_of flags) ≡ (documents + 63) / 64 = length-words_of flags ∙ ap (λ n. (n + 63) / 64) long in
    omega (arith, size, count, short)

-- words that are those of no set
pub scope_other : (documents : ℕ) (bytes words behind : List ℕ) → length words ≡ (documents + 63) / 64 → All (λ word. word < 2 ^ 64) words → bytes ≡ flat_map u64_text words ++ behind → ((flags : List Bool) → length flags ≡ documents → words ≡ words_of flags → ⊥) → IsNowhere scope_text (HasLength documents) bytes
scope_other documents bytes words behind count fit own never flags rest long parts =
    let same = many_once u64_text (λ word. word < 2 ^ 64) once_u64 words (words_of flags) behind rest (count ∙ ap (λ n. (n + 63) / 64) (sym long) ∙ sym (length-words_of flags)) fit (words_below flags) (sym own ∙ parts) in
    never flags long same.0

-- ---- the pieces together

head_parts : (documents : ℕ) (scopes : List (List Bool)) (rest : List ℕ) → head_text documents scopes ++ rest ≡ sizes_text (documents, length scopes) ++ (scopes_text scopes ++ rest)
unfolding head_text
head_parts documents scopes rest = simp append_assoc

sizes_parts : (sizes : ℕ × ℕ) (rest : List ℕ) → magic ++ (u32_text sizes.0 ++ (u32_text sizes.1 ++ rest)) ≡ sizes_text sizes ++ rest
sizes_parts sizes rest = ap (λ behind. magic ++ behind) (sym (append_assoc (u32_text sizes.0) (u32_text sizes.1) rest))

once_sizes : IsOnce sizes_text AreSizes
once_sizes one other rest more may is same =
    let behind : u32_text one.0 ++ (u32_text one.1 ++ rest) ≡ u32_text other.0 ++ (u32_text other.1 ++ more) = ap (drop 4) (sizes_parts one rest ∙ same ∙ sym (sizes_parts other more)) in
    let first = once_u32 one.0 other.0 (u32_text one.1 ++ rest) (u32_text other.1 ++ more) may.numbered is.numbered behind in
    let second = once_u32 one.1 other.1 rest more may.fewer is.fewer first.1 in
    (ap (λ (n : ℕ). (n, one.1)) first.0 ∙ ap (λ (n : ℕ). (other.0, n)) second.0, second.1)

pub sizes_of : (documents : ℕ) (scopes : List (List Bool)) → IsHead documents scopes → AreSizes (documents, length scopes)
sizes_of documents scopes head = record { numbered = head.numbered; fewer = head.fewer; some_documents = head.some_documents; some = head.some }

pub head_taken : (bytes : List ℕ) (documents count : ℕ) (scopes : List (List Bool)) (first rest : List ℕ) → IsTaken sizes_text AreSizes bytes (documents, count) first → IsTaken scopes_text (AreScopes documents count) first scopes rest → IsHead documents scopes × (bytes ≡ head_text documents scopes ++ rest)
head_taken bytes documents count scopes first rest sizes taken = (
  record {
    numbered = sizes.may.numbered;
    some_documents = sizes.may.some_documents;
    some = omega (arith, sizes.may.some, taken.may.many);
    fewer = omega (arith, sizes.may.fewer, taken.may.many);
    long = taken.may.long;
  },
  sizes.parts ∙ ap (λ behind. sizes_text (documents, count) ++ behind) taken.parts ∙ ap (λ (n : ℕ). sizes_text (documents, n) ++ (scopes_text scopes ++ rest)) (sym taken.may.many) ∙ sym (head_parts documents scopes rest),
)

-- no segment begins so
abbrev pub NoHead : List ℕ → Type 0
NoHead bytes = (documents : ℕ) (scopes : List (List Bool)) (rest : List ℕ) → IsHead documents scopes → bytes ≡ head_text documents scopes ++ rest → ⊥

pub head_no_sizes : (bytes : List ℕ) → IsNowhere sizes_text AreSizes bytes → NoHead bytes
head_no_sizes bytes never documents scopes rest head parts =
    never (documents, length scopes) (scopes_text scopes ++ rest) (sizes_of documents scopes head) (parts ∙ head_parts documents scopes rest)

pub head_no_scopes : (bytes : List ℕ) (documents count : ℕ) (first : List ℕ) → IsTaken sizes_text AreSizes bytes (documents, count) first → IsNowhere scopes_text (AreScopes documents count) first → NoHead bytes
head_no_scopes bytes documents count first sizes never own scopes rest head parts =
    let same = once_sizes (documents, count) (own, length scopes) first (scopes_text scopes ++ rest) sizes.may (sizes_of own scopes head) (sym sizes.parts ∙ parts ∙ head_parts own scopes rest) in
    let d : documents ≡ own = ap (λ (p : ℕ × ℕ). p.0) same.0 in
    let n : count ≡ length scopes = ap (λ (p : ℕ × ℕ). p.1) same.0 in
    never scopes rest (record { many = sym n; long = subst (λ k. All (HasLength k) scopes) (sym d) head.long }) same.1

-- one head
pub head_once : OneSet → (documents own : ℕ) (scopes others : List (List Bool)) (rest more : List ℕ) → IsHead documents scopes → IsHead own others → head_text documents scopes ++ rest ≡ head_text own others ++ more → (documents ≡ own) × (scopes ≡ others) × (rest ≡ more)
head_once one_set documents own scopes others rest more head other same =
    let sizes = once_sizes (documents, length scopes) (own, length others) (scopes_text scopes ++ rest) (scopes_text others ++ more) (sizes_of documents scopes head) (sizes_of own others other) (sym (head_parts documents scopes rest) ∙ same ∙ head_parts own others more) in
    let d : documents ≡ own = ap (λ (p : ℕ × ℕ). p.0) sizes.0 in
    let n : length scopes ≡ length others = ap (λ (p : ℕ × ℕ). p.1) sizes.0 in
    let lists = many_once scope_text (HasLength own) (scope_once one_set own) scopes others rest more n (subst (λ k. All (HasLength k) scopes) d head.long) other.long sizes.1 in
    (d, lists.0, lists.1)

-- the sizes behind the first bytes
pub sizes_documents : (bytes own : List ℕ) (sizes : ℕ × ℕ) (rest : List ℕ) → own ≡ drop 4 bytes → bytes ≡ sizes_text sizes ++ rest → own ≡ u32_text sizes.0 ++ (u32_text sizes.1 ++ rest)
sizes_documents bytes own sizes rest is parts = is ∙ ap (drop 4) (parts ∙ sym (sizes_parts sizes rest))

pub sizes_count : (bytes own : List ℕ) (documents : ℕ) (first : List ℕ) (sizes : ℕ × ℕ) (rest : List ℕ) → own ≡ drop 4 bytes → IsTaken u32_text (λ number. number < 2 ^ 32) own documents first → AreSizes sizes → bytes ≡ sizes_text sizes ++ rest → (documents ≡ sizes.0) × (first ≡ u32_text sizes.1 ++ rest)
sizes_count bytes own documents first sizes rest is taken are parts =
    once_u32 documents sizes.0 first (u32_text sizes.1 ++ rest) taken.may are.numbered (sym taken.parts ∙ sizes_documents bytes own sizes rest is parts)

pub sizes_both : (bytes own : List ℕ) (documents : ℕ) (first : List ℕ) (count : ℕ) (behind : List ℕ) (sizes : ℕ × ℕ) (rest : List ℕ) → own ≡ drop 4 bytes → IsTaken u32_text (λ number. number < 2 ^ 32) own documents first → IsTaken u32_text (λ number. number < 2 ^ 32) first count behind → AreSizes sizes → bytes ≡ sizes_text sizes ++ rest → count ≡ sizes.1
sizes_both bytes own documents first count behind sizes rest is taken second are parts =
    (once_u32 count sizes.1 behind rest second.may are.fewer (sym second.parts ∙ (sizes_count bytes own documents first sizes rest is taken are parts).1)).0

-- a scope fewer than their number
pub scopes_no_more : (documents count : ℕ) (bytes : List ℕ) (scopes : List (List Bool)) (rest : List ℕ) (at : ℕ) → IsOnce scope_text (HasLength documents) → IsReading scope_text (HasLength documents) bytes scopes rest at → at < count → IsNowhere scope_text (HasLength documents) rest → IsNowhere scopes_text (AreScopes documents count) bytes
scopes_no_more documents count bytes scopes rest at once was less never others more are parts =
    many_nowhere scope_text (HasLength documents) once scopes others rest more was.taking.each are.long (omega (arith, was.long, less, are.many)) never (sym was.taking.parts ∙ parts)
