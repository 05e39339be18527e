-- Roots in place, each between its place and the next.
use Rattle.std.proofs.Common.{◌≡◌, ℕ, ◌+◌, ◌-◌, ◌<◌, List, [], ◌∷◌, ◌++◌, length, get_or, drop, map, take, Option, Some, None, refl, sym, ap, ◌∙◌, arith}
use Rattle.std.specs.List.{All}
use Rattle.std.proofs.lemmas.List.{append-nil, length-map, get_or-map, take_more}
use Rattle.std.proofs.lemmas.List.Concat.{flat_map-append}
use Rattle.std.proofs.lemmas.List.Elements.{All-head, All-tail}
use Rattle.part_text.specs.Places.{row, rows_of}
use Rattle.part_text.specs.Text.{u32_text, u64_text, string_text}
use Rattle.part_text.specs.Reading.{u32_at, u64_at, string_at}
use Rattle.part_text.specs.Reads.{u32_reads, u64_reads, string_reads}
use Rattle.part_text.specs.Placed.{length-rows_of, get_or-rows_of, rows_of-places_from, places_are, length-places_from}
use Rattle.stored_sources.specs.declared.root.Root.{Root}
use Rattle.stored_sources.specs.Roots.{no_root, root_of}
use Rattle.stored_sources.specs.Text.{root_text, roots_text, join_text}
use Rattle.stored_sources.specs.Stands.{IsRoot, Belong}
use Rattle.stored_sources.specs.Reading.{front_at, root_at, root_reads}
use Rattle.stored_sources.specs.Kept.{root_read, root_in, roots_in, IsRootText, AreKept}

pub length-roots_in : (places bytes : List ℕ) → length (roots_in places bytes) ≡ length places - 1
unfolding roots_in
length-roots_in places bytes = length-map (rows_of places bytes) root_in ∙ length-rows_of places bytes

pub root_of-in : (places bytes : List ℕ) (at : ℕ) → at + 1 < length places → root_of (roots_in places bytes) at ≡ root_in (row places bytes at)
unfolding roots_in
root_of-in places bytes at below =
    get_or-map root_in (rows_of places bytes) at [] no_root (omega (arith, length-rows_of places bytes))
    ∙ ap root_in (get_or-rows_of places bytes at [] below)

-- what is read of the text of a root
pub text_read : (bytes : List ℕ) (text : IsRootText bytes) → root_at bytes ≡ Some (text.root, [])
text_read bytes text =
    ap root_at (text.text ∙ sym (append-nil (root_text text.root)))
    ∙ (root_reads {B = Unit {0}}).again tt text.root [] text.is

pub text_in : (bytes : List ℕ) (text : IsRootText bytes) → root_in bytes ≡ text.root
unfolding root_in
text_in bytes text = ap root_read (text_read bytes text)

-- the bytes behind each of the first things of a root
abbrev behind_generation : Root → List ℕ
behind_generation root = string_text root.source ++ join_text root.join

abbrev behind_number : Root → List ℕ
behind_number root = u32_text root.generation ++ behind_generation root

abbrev behind_id : Root → List ℕ
behind_id root = u64_text root.number ++ behind_number root

-- what is read of its front, one thing after the other
id_read : (bytes : List ℕ) (text : IsRootText bytes) → string_at bytes ≡ Some (text.root.id, behind_id text.root)
id_read bytes text = ap string_at text.text ∙ (string_reads {B = Unit {0}}).again tt text.root.id (behind_id text.root) text.is.id

number_read : (root : Root) → IsRoot root → u64_at (behind_id root) ≡ Some (root.number, behind_number root)
number_read root is = (u64_reads {B = Unit {0}}).again tt root.number (behind_number root) is.number

generation_read : (root : Root) → IsRoot root → u32_at (behind_number root) ≡ Some (root.generation, behind_generation root)
generation_read root is = (u32_reads {B = Unit {0}}).again tt root.generation (behind_generation root) is.generation

pub front_read : (bytes : List ℕ) (text : IsRootText bytes) → front_at bytes ≡ Some (text.root.id, (text.root.number, text.root.generation))
unfolding front_at
front_read bytes text = rw (id_read bytes text, number_read text.root text.is, generation_read text.root text.is) refl

-- the front that was read, which is that of the root
abbrev pub front_or : Option (List ℕ × (ℕ × ℕ)) → List ℕ × (ℕ × ℕ)
front_or None = ([], (0, 0))
front_or (Some front) = front

pub root_back : (root : Root) → IsRoot root → root_in (root_text root) ≡ root
root_back root is = text_in (root_text root) (record { root = root; is = is; text = refl })

roots_back : (roots : List Root) → All IsRoot roots → map root_in (map root_text roots) ≡ roots
roots_back [] each = refl
roots_back (root ∷ roots) each =
    ap (λ first. first ∷ map root_in (map root_text roots)) (root_back root (All-head IsRoot root roots each))
    ∙ ap (λ others. root ∷ others) (roots_back roots (All-tail IsRoot root roots each))

pub belong_roots : (bytes places : List ℕ) (roots : List Root) → Belong bytes places roots → roots_in places bytes ≡ roots
unfolding roots_in
belong_roots bytes places roots belong =
    let it = belong.stands in
    ap (λ own. map root_in (rows_of own bytes)) it.placed
    ∙ ap (map root_in) (rows_of-places_from root_text belong.at roots bytes (drop belong.end bytes) it.there)
    ∙ roots_back roots it.are.each

pub belong_kept : (bytes places : List ℕ) (roots : List Root) → Belong bytes places roots → AreKept places bytes
belong_kept bytes places roots belong =
    let it = belong.stands in
    let count : length places ≡ length roots + 1 = ap length it.placed ∙ length-places_from root_text belong.at roots in
    record {
      places_are = rw it.placed (places_are root_text belong.at roots bytes (drop belong.end bytes) (omega (arith, it.ends, it.within)) it.there);
      fewer = omega (arith, count, it.are.fewer);
      texts = λ at below.
          let inside : at < length roots = omega (arith, below, count) in
          record {
            root = get_or roots at no_root;
            is = it.are.each at no_root inside;
            text =
                sym (get_or-rows_of places bytes at [] below)
                ∙ ap (λ own. get_or (rows_of own bytes) at []) it.placed
                ∙ ap (λ own. get_or own at []) (rows_of-places_from root_text belong.at roots bytes (drop belong.end bytes) it.there)
                ∙ get_or-map root_text roots at no_root [] inside;
          };
    }

-- the bytes of a root are its text
pub row_text : (places bytes : List ℕ) (at : ℕ) → AreKept places bytes → at + 1 < length places → row places bytes at ≡ root_text (root_of (roots_in places bytes) at)
row_text places bytes at kept below =
    let text = kept.texts at below in
    text.text ∙ ap root_text (sym (root_of-in places bytes at below ∙ text_in (row places bytes at) text))

pub live_more : (roots : List Root) (live : List ℕ) (i own : ℕ) → i < length live → own ≡ get_or live i own → roots_text (map (root_of roots) (take (i + 1) live)) ≡ roots_text (map (root_of roots) (take i live)) ++ root_text (root_of roots own)
live_more roots live i own below is =
    let one : take (i + 1) live ≡ take i live ++ own ∷ [] = take_more live i own below ∙ sym (ap (λ next. take i live ++ next ∷ []) is) in
    ap (λ all. roots_text (map (root_of roots) all)) one
    ∙ ap roots_text (map_push (take i live))
    ∙ flat_map-append root_text (map (root_of roots) (take i live)) (root_of roots own ∷ [])
    ∙ ap (λ last. roots_text (map (root_of roots) (take i live)) ++ last) (append-nil (root_text (root_of roots own)))
  where
    map_push : (front : List ℕ) → map (root_of roots) (front ++ own ∷ []) ≡ map (root_of roots) front ++ root_of roots own ∷ []
    map_push [] = refl
    map_push (x ∷ front) = ap (λ others. root_of roots x ∷ others) (map_push front)
