-- Replies of two numbers at most have short lines.
use Rattle.std.proofs.Common.{◌≡◌, ℕ, ◌<◌, ◌≤◌, ◌^◌, List, [], ◌∷◌, ◌++◌, length, codes, decimal, arith, length-append, subst, sym, refl, false}
use Rattle.std.proofs.lemmas.Fmt.{length-decimal-le}
use Rattle.std.specs.Ordering.{nat_cmp}
use Rattle.std.specs.declared.cmp.Ordering.TheVariants.{Less}
use Rattle.std.specs.Cmp.Lexicographic.{slice_cmp}
use Rattle.json.specs.Print.{escape_byte}
use Rattle.reply_text.specs.Object.{entry, by_order, entries_text, braces, object_text}
use Rattle.reply_text.specs.Text.{line_of}
use Rattle.reply_text.specs.declared.reply.Reply.TheVariants.{PitOpened, PitClosed, MergeStarted, MergeAdvanced, MergeFinished, MergeAborted, ForceMerged, AutoMerge}
use Rattle.tree_json.specs.Text.{quoted}

digits : (n : ℕ) → n < 2 ^ 64 → length (decimal n) ≤ 20
digits n h = length-decimal-le 20 n (omega arith) (omega arith) h

-- an object of one short entry
one_short : (name text : List ℕ) → length (quoted name) ≤ 20 → length text ≤ 20 → length (object_text (entry name text ∷ [])) ≤ 128
unfolding object_text
one_short name text a b = simp length-append (omega arith)

-- an object of two short entries, one name before the other
two_short : (one other text text' : List ℕ) → slice_cmp nat_cmp one other ≡ Less → length (quoted one) ≤ 20 → length (quoted other) ≤ 20
    → length text ≤ 20 → length text' ≤ 20 → length (object_text (entry one text ∷ entry other text' ∷ [])) ≤ 128
unfolding object_text
two_short one other text text' less a b c d =
    subst (λ order. length (braces (entries_text false (by_order order (entry one text ∷ entry other text' ∷ []) (entry one text ∷ []) (entry other text' ∷ entry one text ∷ [])))) ≤ 128)
    (sym less) (both (quoted one) (quoted other) text text' a b c d)
  where
    both : (q r t u : List ℕ) → length q ≤ 20 → length r ≤ 20 → length t ≤ 20 → length u ≤ 20
        → length (codes "{" ++ ((q ++ (codes ":" ++ t)) ++ (codes "," ++ ((r ++ (codes ":" ++ u)) ++ [])) ++ codes "}")) ≤ 128
    both q r t u a b c d = grind (arith, length-append)

-- ---- replies

pub opened_short : (pit : ℕ) → pit < 2 ^ 64 → length (line_of (PitOpened pit)) ≤ 128
unfolding line_of quoted escape_byte
opened_short pit a = two_short (codes "pit") (codes "result") (decimal pit) (quoted (codes "opened")) refl (omega arith) (omega arith) (digits pit a) (omega arith)

pub closed_short : (pit : ℕ) → pit < 2 ^ 64 → length (line_of (PitClosed pit)) ≤ 128
unfolding line_of quoted escape_byte
closed_short pit a = two_short (codes "pit") (codes "result") (decimal pit) (quoted (codes "closed")) refl (omega arith) (omega arith) (digits pit a) (omega arith)

pub started_short : (merge roots : ℕ) → merge < 2 ^ 64 → roots < 2 ^ 64 → length (line_of (MergeStarted merge roots)) ≤ 128
unfolding line_of quoted escape_byte
started_short merge roots a b = two_short (codes "merge") (codes "roots") (decimal merge) (decimal roots) refl (omega arith) (omega arith) (digits merge a) (digits roots b)

pub advanced_short : (left merge : ℕ) → left < 2 ^ 64 → merge < 2 ^ 64 → length (line_of (MergeAdvanced left merge)) ≤ 128
unfolding line_of quoted escape_byte
advanced_short left merge a b = two_short (codes "left") (codes "merge") (decimal left) (decimal merge) refl (omega arith) (omega arith) (digits left a) (digits merge b)

pub finished_short : (live merge : ℕ) → live < 2 ^ 64 → merge < 2 ^ 64 → length (line_of (MergeFinished live merge)) ≤ 128
unfolding line_of quoted escape_byte
finished_short live merge a b = two_short (codes "live") (codes "merge") (decimal live) (decimal merge) refl (omega arith) (omega arith) (digits live a) (digits merge b)

pub aborted_short : (merge : ℕ) → merge < 2 ^ 64 → length (line_of (MergeAborted merge)) ≤ 128
unfolding line_of quoted escape_byte
aborted_short merge a = one_short (codes "merge") (decimal merge) (omega arith) (digits merge a)

pub forced_short : (segments : ℕ) → segments < 2 ^ 64 → length (line_of (ForceMerged segments)) ≤ 128
unfolding line_of quoted escape_byte
forced_short segments a = one_short (codes "segments") (decimal segments) (omega arith) (digits segments a)

pub automerge_short : (factor : ℕ) → factor < 2 ^ 64 → length (line_of (AutoMerge factor)) ≤ 128
unfolding line_of quoted escape_byte
automerge_short factor a = one_short (codes "automerge") (decimal factor) (omega arith) (digits factor a)

pub ruleset short = (opened_short, closed_short, started_short, advanced_short, finished_short, aborted_short, forced_short, automerge_short)
