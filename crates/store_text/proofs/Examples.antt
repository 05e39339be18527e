-- Records computed: what stands in the bytes is known beforehand, so that a wrong definition doesn't check.
use Rattle.std.specs.Prelude.{◌≡◌, true, false, [], ◌∷◌, refl}
use Rattle.part_text.specs.Text.{u32_text, u64_text}
use Rattle.store_text.specs.declared.record.RecordText.{RecordText}
use Rattle.store_text.specs.Record.{record_text, record_size}

-- two bodies, and a segment of 116 bytes at 2,048 with two dead roots
grown : RecordText
grown = record { old = false; next = 7; dynamic = true; bodies = (123 ∷ 125 ∷ []) ∷ (91 ∷ 93 ∷ []) ∷ []; rows = record { at = 2_048; len = 116; dead = 4 ∷ 5 ∷ [] } ∷ [] }

grown_text : record_text grown
    ≡ 82 ∷ 69 ∷ 67 ∷ 50 ∷ 7 ∷ 0 ∷ 0 ∷ 0 ∷ 0 ∷ 0 ∷ 0 ∷ 0 ∷ 1 ∷ 2 ∷ 0 ∷ 0 ∷ 0 ∷ 2 ∷ 0 ∷ 0 ∷ 0 ∷ 123 ∷ 125 ∷ 2 ∷ 0 ∷ 0 ∷ 0 ∷ 91 ∷ 93 ∷ 1 ∷ 0 ∷ 0 ∷ 0 ∷ 0 ∷ 8 ∷ 0 ∷ 0 ∷ 0 ∷ 0 ∷ 0 ∷ 0 ∷ 116 ∷ 0 ∷ 0 ∷ 0 ∷ 0 ∷ 0 ∷ 0 ∷ 0 ∷ 2 ∷ 0 ∷ 0 ∷ 0 ∷ 4 ∷ 0 ∷ 0 ∷ 0 ∷ 5 ∷ 0 ∷ 0 ∷ 0 ∷ []
unfolding grown record_text u32_text u64_text
grown_text = refl

grown_size : record_size grown ≡ 61
unfolding grown record_size
grown_size = refl

-- before mappings grew: one body, and no segment
before : RecordText
before = record { old = true; next = 256; dynamic = false; bodies = (123 ∷ 125 ∷ []) ∷ []; rows = [] }

before_text : record_text before ≡ 82 ∷ 69 ∷ 67 ∷ 49 ∷ 0 ∷ 1 ∷ 0 ∷ 0 ∷ 0 ∷ 0 ∷ 0 ∷ 0 ∷ 2 ∷ 0 ∷ 0 ∷ 0 ∷ 123 ∷ 125 ∷ 0 ∷ 0 ∷ 0 ∷ 0 ∷ []
unfolding before record_text u32_text u64_text
before_text = refl
