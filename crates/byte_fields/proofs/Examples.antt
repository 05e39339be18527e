-- Fields computed: what stands in the bytes is known beforehand, so that a wrong definition doesn't check.
use Rattle.std.specs.Prelude.{◌≡◌, [], ◌∷◌, codes, refl}
use Rattle.byte_fields.specs.Fields.{spelled_u32, spelled_u64, spelled_bytes}

zero : spelled_u32 0 ≡ 0 ∷ 0 ∷ 0 ∷ 0 ∷ []
zero = refl

one : spelled_u32 1 ≡ 1 ∷ 0 ∷ 0 ∷ 0 ∷ []
one = refl

lowest_first : spelled_u32 0x12345678 ≡ 0x78 ∷ 0x56 ∷ 0x34 ∷ 0x12 ∷ []
lowest_first = refl

greatest : spelled_u32 4_294_967_295 ≡ 255 ∷ 255 ∷ 255 ∷ 255 ∷ []
greatest = refl

one_past_a_byte : spelled_u64 256 ≡ 0 ∷ 1 ∷ 0 ∷ 0 ∷ 0 ∷ 0 ∷ 0 ∷ 0 ∷ []
one_past_a_byte = refl

lowest_of_eight_first : spelled_u64 0x0123456789abcdef ≡ 0xef ∷ 0xcd ∷ 0xab ∷ 0x89 ∷ 0x67 ∷ 0x45 ∷ 0x23 ∷ 0x01 ∷ []
lowest_of_eight_first = refl

greatest_of_eight : spelled_u64 18_446_744_073_709_551_615 ≡ 255 ∷ 255 ∷ 255 ∷ 255 ∷ 255 ∷ 255 ∷ 255 ∷ 255 ∷ []
greatest_of_eight = refl

three_bytes : spelled_bytes (codes "abc") ≡ 3 ∷ 0 ∷ 0 ∷ 0 ∷ 97 ∷ 98 ∷ 99 ∷ []
three_bytes = refl

no_bytes : spelled_bytes [] ≡ 0 ∷ 0 ∷ 0 ∷ 0 ∷ []
no_bytes = refl
