use Rattle.std.proofs.Common.{ℕ, List, ap, ◌∙◌, arith}
use Rattle.postings.specs.Kept.{postings_of}
use Rattle.postings.proofs.Lists.{Shown, shown, some_inside}
use Rattle.part_text.specs.Front.{first_u32}
use Rattle.postings.proofs.cursor.Cursor.positions.Goals as goal

pub split_at-requires : goal.split_at-requires
split_at-requires c =
    let it = c.self.inside in
    let ps : List (ℕ × List ℕ) = postings_of it.text.now in
    let sh : Shown it.rest.now c.args.self.now = shown ps it.count it.at it.rest.now it.plain c.args.self.now c.self.view_is c.self.invariant.0 (some_inside ps it.at c.args.self.now c.self.view_is c.requires) in
    omega (arith, sh.long)

pub first_u32-requires : goal.first_u32-requires
first_u32-requires c =
    let it = c.self.inside in
    let ps : List (ℕ × List ℕ) = postings_of it.text.now in
    let sh : Shown it.rest.now c.args.self.now = shown ps it.count it.at it.rest.now it.plain c.args.self.now c.self.view_is c.self.invariant.0 (some_inside ps it.at c.args.self.now c.self.view_is c.requires) in
    omega (arith, sh.long, c.split_at.ensures.back_len)

pub returns : goal.returns
returns c =
    let it = c.self.inside in
    let ps : List (ℕ × List ℕ) = postings_of it.text.now in
    let sh : Shown it.rest.now c.args.self.now = shown ps it.count it.at it.rest.now it.plain c.args.self.now c.self.view_is c.self.invariant.0 (some_inside ps it.at c.args.self.now c.self.view_is c.requires) in
    c.first_u32.ensures ∙ ap first_u32 c.split_at.ensures.back ∙ sh.count
