use Rattle.std.proofs.Common.{arith}
use Rattle.part_text.specs.Reads.{IsBytes}
use Rattle.stored_sources.specs.Old.{IsOldTaken, old_taken, no_front, no_end, renewed_put}
use Rattle.stored_sources.proofs.old.renewed_root.Goals as goal

pub returns-in_default-clause-only : goal.returns-in_default-clause-only
returns-in_default-clause-only c = λ _. no_front c.args.bytes.now c.in_default.ensures

pub returns-in_default-end_at-clause-only : goal.returns-in_default-end_at-clause-only
returns-in_default-end_at-clause-only c = λ _. no_end c.args.bytes.now c.in-Some.behind.now _ c.in-Some.ensures c.in_default-end_at.ensures

pub overflow_sub-bytes : goal.overflow_sub-bytes
overflow_sub-bytes c =
    let bytes : IsBytes c.args.bytes.now = λ i. omega (arith, c.type_inv.bytes i) in
    let taken : IsOldTaken c.args.bytes.now c.in-Some.behind.now c.in-Some-end_at.rest.now = old_taken c.args.bytes.now c.in-Some.behind.now c.in-Some-end_at.rest.now _ _ bytes c.in-Some.ensures c.in-Some-end_at.ensures in
    taken.before

pub overflow_sub-behind : goal.overflow_sub-behind
overflow_sub-behind c =
    let bytes : IsBytes c.args.bytes.now = λ i. omega (arith, c.type_inv.bytes i) in
    let taken : IsOldTaken c.args.bytes.now c.in-Some.behind.now c.in-Some-end_at.rest.now = old_taken c.args.bytes.now c.in-Some.behind.now c.in-Some-end_at.rest.now _ _ bytes c.in-Some.ensures c.in-Some-end_at.ensures in
    taken.after

pub returns-clause-found : goal.returns-clause-found
returns-clause-found c =
    let bytes : IsBytes c.args.bytes.now = λ i. omega (arith, c.type_inv.bytes i) in
    let taken : IsOldTaken c.args.bytes.now c.in-Some.behind.now c.in-Some-end_at.rest.now = old_taken c.args.bytes.now c.in-Some.behind.now c.in-Some-end_at.rest.now _ _ bytes c.in-Some.ensures c.in-Some-end_at.ensures in (
      taken.root,
      taken.is,
      taken.parts,
      renewed_put c.args.bytes.now c.in-Some.behind.now c.in-Some-end_at.rest.now c.args.into.now.items c.extend_from_slice.new.self.items c.put_u32.new.into.items c.extend_from_slice-2.new.self.items c.split_at.result.0.now c.split_at-2.result.0.now taken
          c.split_at.ensures.front c.split_at-2.ensures.front c.in_ok-extend_from_slice.ensures.items c.in_ok-put_u32.ensures.put c.in_ok-extend_from_slice-2.ensures.items,
    )
