-- Objects with their pieces grouped to the right, as they are written one after the other.
use Rattle.std.proofs.Common.{◌≡◌, ℕ, List, [], ◌∷◌, ◌++◌, Bool, true, false, codes, decimal, refl, ap, ◌∙◌, append_assoc}
use Rattle.json.specs.Print.{escape_byte}
use Rattle.tree_json.specs.Text.{quoted, comma_if}
use Rattle.reply_text.specs.Object.{Entry, entry, entries_text, elements_text, object_text, in_order}
use Rattle.reply_text.specs.HitTexts.{hits_text}

-- entries one after the other, and then an end
abbrev pub flat : Bool → List Entry → List ℕ → List ℕ
flat later [] end = end
flat later (e ∷ es) end = comma_if later ++ (quoted e.0 ++ (codes ":" ++ (e.1 ++ flat true es end)))

regrouped : (comma name colon value more end : List ℕ) → (comma ++ ((name ++ (colon ++ value)) ++ more)) ++ end ≡ comma ++ (name ++ (colon ++ (value ++ (more ++ end))))
regrouped comma name colon value more end = simp append_assoc

entries_text-flat : (later : Bool) (es : List Entry) (end : List ℕ) → entries_text later es ++ end ≡ flat later es end
entries_text-flat later [] end = refl
entries_text-flat later (e ∷ es) end =
    regrouped (comma_if later) (quoted e.0) (codes ":") e.1 (entries_text true es) end
    ∙ ap (λ (more : List ℕ). comma_if later ++ (quoted e.0 ++ (codes ":" ++ (e.1 ++ more)))) (entries_text-flat true es end)

pub object_text-flat : (es : List Entry) → object_text es ≡ codes "{" ++ flat false (in_order es) (codes "}")
unfolding object_text
object_text-flat es = ap (λ (text : List ℕ). codes "{" ++ text) (entries_text-flat false (in_order es) (codes "}"))

-- ---- hits with the number of all

pub hits_text-line : (hits : List (List ℕ)) (total : ℕ)
    → hits_text hits total ≡ codes "{\"hits\":[" ++ (elements_text false hits ++ (codes "],\"total\":" ++ (decimal total ++ codes "}")))
unfolding quoted escape_byte
hits_text-line hits total =
    object_text-flat (entry (codes "hits") (codes "[" ++ (elements_text false hits ++ codes "]")) ∷ entry (codes "total") (decimal total) ∷ [])
    ∙ ap (λ (text : List ℕ). codes "{\"hits\":[" ++ text) (append_assoc (elements_text false hits) (codes "]") (codes ",\"total\":" ++ (decimal total ++ codes "}")))

-- the same with more behind it
regrouped_hits : (front hits middle total back end : List ℕ) → (front ++ (hits ++ (middle ++ (total ++ back)))) ++ end ≡ front ++ (hits ++ (middle ++ (total ++ (back ++ end))))
regrouped_hits front hits middle total back end = simp append_assoc

pub hits_text-behind : (hits : List (List ℕ)) (total : ℕ) (end : List ℕ)
    → hits_text hits total ++ end ≡ codes "{\"hits\":[" ++ (elements_text false hits ++ (codes "],\"total\":" ++ (decimal total ++ (codes "}" ++ end))))
hits_text-behind hits total end =
    ap (λ (text : List ℕ). text ++ end) (hits_text-line hits total)
    ∙ regrouped_hits (codes "{\"hits\":[") (elements_text false hits) (codes "],\"total\":") (decimal total) (codes "}") end
