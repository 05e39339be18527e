-- The walk of a body's properties that makes fields.
use Rattle.std.proofs.Common.{◌≡◌, ℕ, zero, suc, ◌+◌, ◌<◌, List as Seq, [], ◌∷◌, map, length, drop, get_or, subst, sym, ap, arith}
use Rattle.std.proofs.lemmas.List.{map-append}
use Rattle.tree_json.specs.Value.{Members, member, members_of}
use Rattle.tree_json.specs.View.{view, entries}
use Rattle.tree_json.specs.declared.value.Json.{Json}
use Rattle.mapping_body.specs.Names.{joined, put_all}
use Rattle.mapping_body.specs.Body.{Property, properties_below, properties_named}
use Rattle.mapping_body.proofs.Puts.{put_all-append}
use Rattle.mapping_body.proofs.Walks.{properties_by_member, member_smaller, member_size_at}
use Rattle.mapping_growth.specs.Fields.{Draft, draft_of}

abbrev named : Draft → Seq ℕ
named d = d.path

pub drafts_step : (g : ℕ) (path : Seq ℕ) (ms : Seq (Seq ℕ × Json)) (i : ℕ) (m : Seq ℕ × Json) (before after : Seq Draft) → i < length ms → m ≡ get_or ms i m
    → after ≡ put_all named before (draft_of g (record { path = joined path m.0; form = view m.1 }) ∷ map (draft_of g) (properties_below (joined path m.0) (view m.1)))
    → put_all named after (map (draft_of g) (properties_named path (members_of (entries (drop (i + 1) ms))))) ≡ put_all named before (map (draft_of g) (properties_named path (members_of (entries (drop i ms)))))
drafts_step g path [] i m before after h e is = absurd (omega arith)
drafts_step g path (x ∷ ms) zero m before after h e is =
    let motive : Seq ℕ × Json → Type 0 = λ y. put_all named after (map (draft_of g) (properties_named path (members_of (entries ms)))) ≡ put_all named before (map (draft_of g) (properties_named path (member y.0 (view y.1) (members_of (entries ms))))) in
    subst motive e
    (rw (is, map-append (draft_of g) (properties_below (joined path m.0) (view m.1)) (properties_named path (members_of (entries ms))))
    (sym (put_all-append named before (draft_of g (record { path = joined path m.0; form = view m.1 }) ∷ map (draft_of g) (properties_below (joined path m.0) (view m.1))) (map (draft_of g) (properties_named path (members_of (entries ms)))))))
drafts_step g path (x ∷ ms) (suc i) m before after h e is =
    let more : i < length ms = omega arith in
    let step : suc i + 1 ≡ suc (i + 1) = omega arith in
    rw step (drafts_step g path ms i m before after more e is)

pub ruleset draft_walks = (properties_by_member, member_smaller, member_size_at, put_all-append)
