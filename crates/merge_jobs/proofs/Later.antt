-- Entries that were later the same ones.
use Rattle.std.proofs.Common.{◌≡◌, ℕ, ◌+◌, ◌<◌, ◌≤◌, List, length, take, get_or, sym, ap, subst, ◌∙◌, arith}
use Rattle.std.proofs.lemmas.List.{take_all, take_more_same}
use Rattle.std.proofs.lemmas.List.Elements.{AllZip-get_or, length_all_zip}
use Rattle.segment.specs.Live.{EntryState}
use Rattle.merge_jobs.specs.Job.{AreLater, IsLater}

-- two entries have the same segment
pub record HaveOneSegment (one other : EntryState) : Type 0 where
  pub id : one.id ≡ other.id
  pub columns : one.columns ≡ other.columns

module _ (parts ones others : List EntryState) (later : AreLater parts ones) (later' : AreLater parts others) where
  long : length ones ≡ length others
  long = sym (length_all_zip IsLater parts ones later) ∙ length_all_zip IsLater parts others later'

  pub one_segment : (i : ℕ) (x y : EntryState) → i < length others → x ≡ get_or ones i x → y ≡ get_or others i y → HaveOneSegment x y
  one_segment i x y within at there =
      let inside : i < length parts = omega (arith, within, length_all_zip IsLater parts others later') in
      let one : IsLater (get_or parts i x) x = subst (IsLater (get_or parts i x)) (sym at) (AllZip-get_or IsLater parts ones i x x later inside) in
      let other : IsLater (get_or parts i x) y = subst (IsLater (get_or parts i x)) (sym there) (AllZip-get_or IsLater parts others i x y later' inside) in
      record { id = one.id ∙ sym other.id; columns = one.columns ∙ sym other.columns }

  pub same_next : (i : ℕ) (x y : EntryState) → i < length others → x ≡ get_or ones i x → y ≡ get_or others i y → x ≡ y → take i ones ≡ take i others → take (i + 1) ones ≡ take (i + 1) others
  same_next i x y within at there is before =
      take_more_same ones others i x (omega (arith, within, long)) within before (sym at ∙ is ∙ there ∙ ap (get_or others i) (sym is))

  pub same_all : (i : ℕ) → length others ≤ i → take i ones ≡ take i others → ones ≡ others
  same_all i end same = sym (take_all i ones (omega (arith, end, long))) ∙ same ∙ take_all i others end
