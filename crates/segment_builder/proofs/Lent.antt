-- Rows of the terms of a field.
use denote.Ref.{Bor}
use Rattle.std.proofs.Common.{◌≡◌, ℕ, ◌+◌, ◌<◌, ◌^◌, List, ◌∷◌, length, get_or, take, drop, map, sym, ap, subst, ◌∙◌, arith}
use Rattle.std.specs.Cmp.Lexicographic.{slice_cmp}
use Rattle.std.specs.List.{All}
use Rattle.std.specs.Ordering.{nat_cmp}
use Rattle.std.proofs.lemmas.List.{at_drop_more, drop-drop, drop-map, length-map, take-map}
use Rattle.term_table.specs.Postings.{AreAscending}
use Rattle.term_table.specs.declared.rows.TermRow.{TermRow}
use Rattle.segment_builder.specs.Columns.{terms_in, terms_lent}
use Rattle.segment_builder.specs.Groups.{members, run_length, runs}
use Rattle.segment_builder.specs.Terms.{field_row, field_rows, term_entry}
use Rattle.segment_builder.proofs.Assembled.{map_twice}
use Rattle.segment_builder.proofs.Among.{seen_at}
use Rattle.segment_builder.proofs.Orders.{exact_bytes}
use Rattle.segment_builder.proofs.Runs.{first_run}

-- ---- entries by the bytes of their terms

module _ {K : Type 0} (bytes positions : K → List ℕ) where
  abbrev seen : K × ℕ → List ℕ × (ℕ × List ℕ)
  seen = term_entry bytes positions

  -- the row of the entries from a place on, and those behind it
  pub row_at : (field : ℕ) (entries rest : List (K × ℕ)) (at n : ℕ) (d : K × ℕ) → at < length entries → rest ≡ drop at entries → n ≡ run_length (slice_cmp nat_cmp) (bytes (get_or entries at d).0) (map seen rest)
      → (0 < n) × (field_rows field (map seen (drop at entries)) ≡ field_row field (bytes (get_or entries at d).0, members (map seen (take n rest))) ∷ field_rows field (map seen (drop (at + n) entries)))
  row_at field entries rest at n d inside is long =
      let first = get_or entries at d in
      let behind : map seen rest ≡ seen first ∷ map seen (drop (at + 1) entries) = ap (map seen) (is ∙ at_drop_more (λ (es : List (K × ℕ)). es) entries at d inside) in
      let run = first_run (slice_cmp nat_cmp) exact_bytes.total (map seen rest) (seen first) (map seen (drop (at + 1) entries)) n behind long in
      let left : drop n (map seen rest) ≡ map seen (drop (at + n) entries) = drop-map seen n rest ∙ ap (map seen) (ap (drop n) is ∙ drop-drop n at entries) in (
        run.0,
        ap (λ es. field_rows field (map seen es)) (sym is)
            ∙ ap (map (field_row field)) run.1
            ∙ ap (λ es. field_row field (bytes first.0, members es) ∷ map (field_row field) (runs (slice_cmp nat_cmp) (drop n (map seen rest)))) (take-map seen n rest)
            ∙ ap (λ es. field_row field (bytes first.0, members (map seen (take n rest))) ∷ map (field_row field) (runs (slice_cmp nat_cmp) es)) left,
      )

  pub run_long : (entries : List (K × ℕ)) → AreAscending (map (λ (posting : ℕ × List ℕ). posting.0) (members (map seen entries))) → length entries < 2 ^ 32
  run_long entries up =
      omega (
        arith,
        up.fewer,
        length-map (members (map seen entries)) (λ (posting : ℕ × List ℕ). posting.0),
        length-map {B = ℕ × List ℕ} (map seen entries) (λ (entry : List ℕ × (ℕ × List ℕ)). entry.1),
        length-map {B = List ℕ × (ℕ × List ℕ)} entries seen,
      )

  -- positions as a row has them fit
  pub positions_fit : (entries : List (K × ℕ)) → All (λ (posting : ℕ × List ℕ). AreAscending posting.1) (members (map seen entries)) → All (λ (entry : K × ℕ). length (positions entry.0) < 2 ^ 32) entries
  positions_fit entries all = λ i d inside.
      (seen_at (λ (entry : K × ℕ). (entry.1, positions entry.0)) (λ (posting : ℕ × List ℕ). AreAscending posting.1) entries i d inside
      (subst (All (λ (posting : ℕ × List ℕ). AreAscending posting.1)) (map_twice (λ (entry : List ℕ × (ℕ × List ℕ)). entry.1) seen entries) all)).fewer

-- as many rows as terms
pub as_many_rows : (terms : List (ℕ × Bor (List ℕ))) (rows : List TermRow) → terms_lent terms ≡ terms_in rows → length terms ≡ length rows
as_many_rows terms rows same =
    omega (arith, ap length same, length-map {B = ℕ × List ℕ} terms (λ (term : ℕ × Bor (List ℕ)). (term.0, term.1.now)), length-map rows (λ (row : TermRow). row.term))
