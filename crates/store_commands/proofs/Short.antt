-- The replies of these commands, and their refusals, have short lines.
use Rattle.std.proofs.Common.{◌≡◌, ℕ, ◌<◌, ◌≤◌, ◌^◌, List, [], ◌∷◌, ◌++◌, length, codes, decimal, arith, length-append, subst, sym, refl, false}
use Rattle.std.proofs.lemmas.Fmt.{length-decimal-le}
use Rattle.std.specs.Fmt.{digits}
use Rattle.std.specs.Ordering.{nat_cmp}
use Rattle.std.specs.declared.cmp.Ordering.TheVariants.{Less}
use Rattle.std.specs.Cmp.Lexicographic.{slice_cmp}
use Rattle.json.specs.Print.{escape_byte}
use Rattle.reply_text.specs.Object.{entry, by_order, entries_text, braces, object_text}
use Rattle.reply_text.specs.Text.{line_of}
use Rattle.reply_text.specs.declared.refusal.Refusal.TheVariants.{StoreFull, DiskFailure}
use Rattle.reply_text.specs.declared.reply.Reply.TheVariants.{Committed, Compacted, Trimmed, Refused}
use Rattle.tree_json.specs.Text.{quoted}

few_digits : (n : ℕ) → n < 2 ^ 64 → length (decimal n) ≤ 20
few_digits n h = length-decimal-le 20 n (omega arith) (omega arith) h

-- an object of one short entry
one_short : (name text : List ℕ) → length (quoted name) ≤ 20 → length text ≤ 20 → length (object_text (entry name text ∷ [])) ≤ 128
unfolding object_text
one_short name text a b = simp length-append (omega arith)

-- an object of two short entries, one name before the other
two_short : (one other text text' : List ℕ) → slice_cmp nat_cmp one other ≡ Less → length (quoted one) ≤ 20 → length (quoted other) ≤ 20
    → length text ≤ 20 → length text' ≤ 20 → length (object_text (entry one text ∷ entry other text' ∷ [])) ≤ 128
unfolding object_text
two_short one other text text' less a b c d =
    subst (λ order. length (braces (entries_text false (by_order order (entry one text ∷ entry other text' ∷ []) (entry one text ∷ []) (entry other text' ∷ entry one text ∷ [])))) ≤ 128)
    (sym less) (both (quoted one) (quoted other) text text' a b c d)
  where
    both : (q r t u : List ℕ) → length q ≤ 20 → length r ≤ 20 → length t ≤ 20 → length u ≤ 20
        → length (codes "{" ++ ((q ++ (codes ":" ++ t)) ++ (codes "," ++ ((r ++ (codes ":" ++ u)) ++ [])) ++ codes "}")) ≤ 128
    both q r t u a b c d = grind (arith, length-append)

-- ---- replies

pub committed_short : (next : ℕ) → next < 2 ^ 64 → length (line_of (Committed next)) ≤ 128
unfolding line_of quoted escape_byte
committed_short next a = one_short (codes "next_seq_no") (decimal next) (omega arith) (few_digits next a)

pub compacted_short : (moved next : ℕ) → moved < 2 ^ 64 → next < 2 ^ 64 → length (line_of (Compacted moved next)) ≤ 128
unfolding line_of quoted escape_byte
compacted_short moved next a b = two_short (codes "moved") (codes "next_seq_no") (decimal moved) (decimal next) refl (omega arith) (omega arith) (few_digits moved a) (few_digits next b)

pub trimmed_short : (bytes : ℕ) → bytes < 2 ^ 64 → length (line_of (Trimmed bytes)) ≤ 128
unfolding line_of quoted escape_byte
trimmed_short bytes a = one_short (codes "bytes") (decimal bytes) (omega arith) (few_digits bytes a)

-- ---- refusals

full_is : line_of (Refused StoreFull) ≡ codes "{\"error\":{\"number\":32,\"reason\":\"store_full\"}}"
unfolding line_of object_text quoted escape_byte digits
full_is = refl

failed_is : line_of (Refused DiskFailure) ≡ codes "{\"error\":{\"number\":35,\"reason\":\"disk_failure\"}}"
unfolding line_of object_text quoted escape_byte digits
failed_is = refl

pub full_short : length (line_of (Refused StoreFull)) ≤ 128
full_short = rw full_is (omega arith)

pub failed_short : length (line_of (Refused DiskFailure)) ≤ 128
failed_short = rw failed_is (omega arith)

pub ruleset short = (committed_short, compacted_short, trimmed_short, full_short, failed_short)
