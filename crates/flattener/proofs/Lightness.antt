-- What an object shows of a text field has room among positions, and what stands inside a value is no longer than it.
use Rattle.std.proofs.Common.{ℕ, ◌*◌, ◌<◌, ◌≤◌, ◌^◌, ◌==◌, nat_le, true, false, List as Seq, [], ◌∷◌, length, arith}
use Rattle.std.specs.List.{flat_map}
use Rattle.mapping_body.proofs.Walks.{split}
use Rattle.mapping.specs.Mapping.{Mapping, home_of, knows, names_to, scope_at, shows}
use Rattle.tree_json.specs.Text.{compact}
use Rattle.tree_json.specs.Value.{JsonValue, null, bool, whole, text, list, object, is_object}
use Rattle.tree_objects.specs.Object.{items, way}
use Rattle.tree_objects.specs.Values.{text_of}
use Rattle.tree_objects.proofs.Weights.{total, total_append, weight_of}
use Rattle.flattener.specs.Fits.{most_source}
use Rattle.flattener.specs.Placing.{room, texts_among}
use Rattle.flattener.specs.Walked.{along, children_at, one_text, own_items, shown_items}
use Rattle.flattener.proofs.Weights.{items_light, number_long, quoted_long, total_filter}
use Rattle.flattener.proofs.Wording.{room_next}

flat_light : (f : JsonValue → Seq JsonValue) → ((w : JsonValue) → total weight_of (f w) ≤ weight_of w) → (ws : Seq JsonValue) → total weight_of (flat_map f ws) ≤ total weight_of ws
flat_light f each [] = omega arith
flat_light f each (w ∷ ws) = omega (arith, each w, flat_light f each ws, total_append weight_of (f w) (flat_map f ws))

pub children_light : (m : Mapping) (g n : ℕ) (v : JsonValue) → total weight_of (children_at m g n v) ≤ weight_of v
children_light m g n v =
    split (nat_le (scope_at m n).since g)
    (λ held. rw held (omega (arith, total_filter weight_of is_object (items v (scope_at m n).names), items_light v (scope_at m n).names)))
    (λ failed. rw failed (omega arith))

along_light : (m : Mapping) (g : ℕ) (ns : Seq ℕ) (v : JsonValue) → total weight_of (along m g ns v) ≤ weight_of v
along_light m g [] v = omega arith
along_light m g (n ∷ ns) v = omega (arith, flat_light (along m g ns) (along_light m g ns) (children_at m g n v), children_light m g n v)

own_light : (m : Mapping) (g f : ℕ) (v : JsonValue) → total weight_of (own_items m g f v) ≤ weight_of v
own_light m g f v =
    split (knows m g f)
    (λ held. rw held (items_light v (names_to m f)))
    (λ failed. rw failed (omega arith))

shown_light : (m : Mapping) (g f s : ℕ) (v : JsonValue) → total weight_of (shown_items m g f s v) ≤ weight_of v
shown_light m g f s v =
    split (home_of m f == s)
    (λ here. rw here (own_light m g f v))
    (λ other. split (shows m g f s)
    (λ shown. rw (other, shown) (omega (arith, flat_light (own_items m g f) (own_light m g f) (along m g (way m s (home_of m f)) v), along_light m g (way m s (home_of m f)) v)))
    (λ hidden. rw (other, hidden) (omega arith)))

text_room : (w : JsonValue) → room (one_text (text_of w)) ≤ 101 * weight_of w
text_room null = omega arith
text_room (bool true) = omega arith
text_room (bool false) = omega arith
text_room (whole z) = omega (arith, number_long z)
text_room (text s) = omega (arith, quoted_long s)
text_room (list ds) = omega arith
text_room (object ms) = omega arith

texts_room : (ws : Seq JsonValue) → room (texts_among ws) ≤ 101 * total weight_of ws
texts_room [] = omega arith
texts_room (w ∷ ws) = omega (arith, text_room w, texts_room ws, room_next w ws)

pub shown_room : (m : Mapping) (g f s : ℕ) (v : JsonValue) → length (compact v) ≤ most_source → room (texts_among (shown_items m g f s v)) < 2 ^ 32
shown_room m g f s v light = omega (arith, light, texts_room (shown_items m g f s v), shown_light m g f s v)

pub ruleset light = (shown_room)
