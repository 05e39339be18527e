-- What bodies say with one more: what they said, and what it adds behind that.
use Rattle.std.proofs.Common.{◌≡◌, ℕ, ◌+◌, ◌≤◌, List as Seq, [], ◌∷◌, ◌++◌, length, refl, sym, ap, ◌∙◌, arith, append_assoc, append-nil}
use Rattle.tree_json.specs.Value.{JsonValue}
use Rattle.mapping_body.specs.Body.{Property}
use Rattle.mapping_growth.specs.Fields.{Draft, draft_paths, drafts_added, drafts_from, drafts_of, properties_added, additions_from, additions_of}
use Rattle.mapping_body.specs.Pairs.{pairs_of}
use Rattle.mapping_growth.specs.Relations.{Relation, relations_added, relations_from, relations_of}

drafts_from_more : (bs : Seq JsonValue) (g : ℕ) (known : Seq Draft) (v : JsonValue)
    → drafts_from g known (bs ++ v ∷ []) ≡ drafts_from g known bs ++ drafts_added (length bs + g) (draft_paths (drafts_from g known bs)) v
drafts_from_more [] g known v = let e : 0 + g ≡ g = omega arith in rw e refl
drafts_from_more (b ∷ bs) g known v =
    let e : length (b ∷ bs) + g ≡ length bs + (g + 1) = omega arith in
    rw e (drafts_from_more bs (g + 1) (known ++ drafts_added g (draft_paths known) b) v)

pub drafts_more : (bs : Seq JsonValue) (v : JsonValue) → drafts_of (bs ++ v ∷ []) ≡ drafts_of bs ++ drafts_added (length bs + 1) (draft_paths (drafts_of bs)) v
unfolding drafts_of
drafts_more bs v = drafts_from_more bs 1 [] v

additions_from_more : (bs : Seq JsonValue) (g : ℕ) (known : Seq Draft) (v : JsonValue)
    → additions_from g known (bs ++ v ∷ []) ≡ additions_from g known bs ++ properties_added (draft_paths (drafts_from g known bs)) v
additions_from_more [] g known v = append-nil (properties_added (draft_paths known) v)
additions_from_more (b ∷ bs) g known v =
    ap (λ (rest : Seq Property). properties_added (draft_paths known) b ++ rest) (additions_from_more bs (g + 1) (known ++ drafts_added g (draft_paths known) b) v)
    ∙ sym (append_assoc (properties_added (draft_paths known) b) (additions_from (g + 1) (known ++ drafts_added g (draft_paths known) b) bs)
    (properties_added (draft_paths (drafts_from (g + 1) (known ++ drafts_added g (draft_paths known) b) bs)) v))

pub additions_more : (bs : Seq JsonValue) (v : JsonValue) → additions_of (bs ++ v ∷ []) ≡ additions_of bs ++ properties_added (draft_paths (drafts_of bs)) v
unfolding drafts_of additions_of
additions_more bs v = additions_from_more bs 1 [] v

relations_from_more : (bs : Seq JsonValue) (g : ℕ) (known : Seq Relation) (v : JsonValue)
    → relations_from g known (bs ++ v ∷ []) ≡ relations_from g known bs ++ relations_added (length bs + g) (relations_from g known bs) (pairs_of v)
relations_from_more [] g known v = let e : 0 + g ≡ g = omega arith in rw e refl
relations_from_more (b ∷ bs) g known v =
    let e : length (b ∷ bs) + g ≡ length bs + (g + 1) = omega arith in
    rw e (relations_from_more bs (g + 1) (known ++ relations_added g known (pairs_of b)) v)

pub relations_more : (bs : Seq JsonValue) (v : JsonValue) → relations_of (bs ++ v ∷ []) ≡ relations_of bs ++ relations_added (length bs + 1) (relations_of bs) (pairs_of v)
unfolding relations_of
relations_more bs v = relations_from_more bs 1 [] v
