use Rattle.std.proofs.Common.{ℕ, ◌+◌, List, drop, get_or, map, sym, ap, ◌∙◌, arith}
use Rattle.segment_merge.specs.TermRefs.{IsPlaced, noted, place_lent, rooms_of}
use Rattle.segment_merge.specs.declared.terms.TermAt.{TermAt}
use Rattle.segment_merge.proofs.Items.{item_left, item_meets}
use Rattle.segment_merge.proofs.Noted.{rooms_with}
use Rattle.segment_merge.proofs.terms.note.Goals as goal

pub set-requires : goal.set-requires
set-requires c =
    let placed = item_meets (IsPlaced (rooms_of c.args.news.now)) place_lent c.args.places.now c.places.term-index c.term-item.result c.requires (omega arith) c.term-item.is in
    omega (arith, placed.room, ap (λ (rooms : List ℕ). get_or rooms c.term-item.result.place 0) c.places.invariant.1)

pub places-preserved : goal.places-preserved
places-preserved c = (
  ap (noted c.args.new (map place_lent (drop (c.places.term-index + 1) c.args.places.now))) c.set.ensures
      ∙ ap (λ (places : List TermAt). noted c.args.new (map place_lent places) c.places.news) (sym (item_left c.args.places.now c.places.term-index c.term-item.result (omega arith) c.term-item.is))
      ∙ c.places.invariant.0,
  ap rooms_of c.set.ensures ∙ rooms_with c.places.news c.term-item.result.place c.term-item.result.ordinal c.args.new ∙ c.places.invariant.1,
)
