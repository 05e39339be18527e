-- Hits among roots by the keys with which they take part in a join of trees.
use Rattle.std.specs.Prelude.{◌≡◌, ℕ, ◌==◌, Bool, false, List, [], map, filter, slice_get, Option, Some, None, if◌then◌else◌, nat_lt}
use Rattle.std.specs.List.{All, filter_map}
use Rattle.std.specs.List.Sorted.{IsNonDecreasingBy}
use Rattle.std.specs.Option.{option_map}
use Rattle.join_ordinals.specs.Ordinals.{Ordinals}
use Rattle.mapping.specs.Mapping.{Mapping}
use Rattle.nested_sort.specs.Listed.{IsCapped}
use Rattle.query_eval.specs.Sides.{key_at}
use Rattle.query_eval.specs.declared.side.Side.{Side}
use Rattle.segment.specs.Live.{EntryState, root_of}
use Rattle.segment_parts.specs.Parts.{root_flags}
use Rattle.view_objects.specs.Hits.{hits_in}
use Rattle.view_objects.specs.declared.hit.Hit.{Hit}
use Rattle.inner_hits.specs.declared.joined.Kin.{Kin}

-- ---- keys

-- the key of the root of a document's block, by the side on which it takes part; past the documents there is none
abbrev pub key_of_doc : Mapping → Ordinals → Side → ℕ → ℕ → Option EntryState → Option ℕ
key_of_doc m ordinals side place doc None = None
key_of_doc m ordinals side place doc (Some entry) =
    if nat_lt doc entry.columns.documents then key_at m ordinals side entry.columns place (root_of (root_flags entry.columns.scopes) doc) else None

unfoldable pub key_in : Mapping → Ordinals → Side → List EntryState → ℕ → ℕ → Option ℕ
key_in m ordinals side view place doc = key_of_doc m ordinals side place doc (slice_get view place)

abbrev pub is_key : Option ℕ → ℕ → Bool
is_key None key = false
is_key (Some own) key = own == key

-- ---- hits with their keys

abbrev pub hit_of : Kin → Hit
hit_of kin = kin.hit

abbrev pub key_of : Kin → ℕ
key_of kin = kin.key

abbrev pub has_key : ℕ → Kin → Bool
has_key key kin = kin.key == key

abbrev pub kin_if : Mapping → Ordinals → Side → List EntryState → Hit → Option Kin
kin_if m ordinals side view hit = option_map (λ key. record { key = key; hit = hit }) (key_in m ordinals side view hit.place hit.doc)

-- those of hits that take part
abbrev pub kin_from : Mapping → Ordinals → Side → List EntryState → List Hit → List Kin
kin_from m ordinals side view hits = filter_map (kin_if m ordinals side view) hits

abbrev pub IsInKeyOrder : List Kin → Type 0
IsInKeyOrder kin = IsNonDecreasingBy key_of kin

abbrev pub IsCappedKin : Kin → Type 0
IsCappedKin kin = IsCapped kin.hit

abbrev pub AreCapped : List Kin → Type 0
AreCapped kin = All IsCappedKin kin

-- The hits that take part, by ascending keys, those of one key in the order of the view; their scores are those that a reply
-- can hold.
pub record AreKin (m : Mapping) (ordinals : Ordinals) (side : Side) (view : List EntryState) (scores : List (List (Option ℕ))) (kin : List Kin) : Type 0 where
  pub sorted : IsInKeyOrder kin
  pub capped : AreCapped kin
  pub those : (key : ℕ) → filter (has_key key) kin ≡ filter (has_key key) (kin_from m ordinals side view (hits_in scores))

-- the hits of the key that a root has on the other side
abbrev pub owner_hits : Option ℕ → List Kin → List Hit
owner_hits None kin = []
owner_hits (Some key) kin = map hit_of (filter (has_key key) kin)
