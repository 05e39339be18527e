use Rattle.std.proofs.Common.{◌≡◌, ◌<◌, List, ℕ, Some, None, length, take, refl, ap, subst, ◌∙◌, arith}
use Rattle.std.proofs.lemmas.Grind.{common_steps}
use Rattle.line_reader.specs.Given.{IsStopCaused}
use Rattle.line_reader.specs.Reading.{Reads, IsCutAt, BeginsLine}
use Rattle.line_reader.proofs.LineReads.{Adds, line_begun, line_ends, line_goes_on, line_filled, line_missing, line_ended, caused_so, near_end}
use Rattle.line_reader.proofs.lines.read_line.Goals as goal

pub pieces-init : goal.pieces-init
pieces-init g c = (line_begun c.args.input.now (g.S.Source.left c.args.source.now) c.clear.new.self c.clear.ensures, c.requires.known, refl)

pub returns-in-Some-clause-reads : goal.returns-in-Some-clause-reads
returns-in-Some-clause-reads g c =
    let cut : IsCutAt c.in-Some.at c.pieces.input.unread = subst (λ (bytes : List ℕ). IsCutAt c.in-Some.at bytes) c.unread.ensures.bytes c.in-Some.ensures.found in
    let piece : c.split_at.result.0.now ≡ take c.in-Some.at c.pieces.input.unread = c.split_at.ensures.front ∙ ap (λ (bytes : List ℕ). take c.in-Some.at bytes) c.unread-in-Some.ensures.bytes in
    let adds : Adds c.split_at.result.0.now c.pieces.line c.add.new.self = record { kept = c.add.ensures.kept; long = c.add.ensures.long } in
    line_ends c.args.input.now c.pieces.input c.skip.new.self (g.S.Source.left c.args.source.now) (g.S.Source.left c.pieces.source) c.pieces.line c.add.new.self c.in-Some.at
    c.pieces.invariant.0 c.pieces.invariant.1 cut (subst (λ (bytes : List ℕ). Adds bytes c.pieces.line c.add.new.self) piece adds) c.skip.ensures

-- the line with all that was unread
pub pieces-preserved : goal.pieces-preserved
pieces-preserved g c =
    let used : Reads None c.args.input.now c.skip_all.new.self (g.S.Source.left c.args.source.now) (g.S.Source.left c.pieces.source) (BeginsLine c.add-in-pieces.new.self) =
    line_goes_on c.args.input.now c.pieces.input c.skip_all.new.self (g.S.Source.left c.args.source.now) (g.S.Source.left c.pieces.source) c.pieces.line c.add-in-pieces.new.self
    c.unread.result.now c.unread-in-pieces.result.now c.pieces.invariant.0 c.unread.ensures.bytes c.in_default.ensures.none c.unread-in-pieces.ensures.bytes
    (record { kept = c.add-in-pieces.ensures.kept; long = c.add-in-pieces.ensures.long }) c.skip_all.ensures in (
      line_filled None c.args.input.now c.skip_all.new.self c.fill.new.self (g.S.Source.left c.args.source.now) (g.S.Source.left c.pieces.source) (g.S.Source.left c.fill.new.source) c.add-in-pieces.new.self used c.in-Ok.ensures.reads,
      c.fill.ensures.known,
      c.in-Ok.ensures.cause ∙ c.pieces.invariant.2,
    )

pub returns-then-is_empty : goal.returns-then-is_empty
returns-then-is_empty g c =
    let used : Reads None c.args.input.now c.skip_all.new.self (g.S.Source.left c.args.source.now) (g.S.Source.left c.pieces.source) (BeginsLine c.add-in-pieces.new.self) =
    line_goes_on c.args.input.now c.pieces.input c.skip_all.new.self (g.S.Source.left c.args.source.now) (g.S.Source.left c.pieces.source) c.pieces.line c.add-in-pieces.new.self
    c.unread.result.now c.unread-in-pieces.result.now c.pieces.invariant.0 c.unread.ensures.bytes c.in_default.ensures.none c.unread-in-pieces.ensures.bytes
    (record { kept = c.add-in-pieces.ensures.kept; long = c.add-in-pieces.ensures.long }) c.skip_all.ensures in
    let stopped : Reads (Some c.in-Err.stop) c.args.input.now c.fill.new.self (g.S.Source.left c.args.source.now) (g.S.Source.left c.fill.new.source) (BeginsLine c.add-in-pieces.new.self) =
    line_filled (Some c.in-Err.stop) c.args.input.now c.skip_all.new.self c.fill.new.self (g.S.Source.left c.args.source.now) (g.S.Source.left c.pieces.source) (g.S.Source.left c.fill.new.source) c.add-in-pieces.new.self used c.in-Err.ensures.reads in
    let empty : length c.add-in-pieces.new.self.kept ≡ 0 = grind (arith, common_steps) in
    record {
      reads = line_missing c.in-Err.stop c.args.input.now c.fill.new.self (g.S.Source.left c.args.source.now) (g.S.Source.left c.fill.new.source) c.add-in-pieces.new.self stopped empty;
      near = tt;
      known = c.fill.ensures.known;
      cause = subst (λ (was : ℕ). IsStopCaused (Some c.in-Err.stop) was (g.S.Source.faults c.fill.new.source)) c.pieces.invariant.2 c.in-Err.ensures.cause;
    }

pub returns-else-is_empty : goal.returns-else-is_empty
returns-else-is_empty g c =
    let used : Reads None c.args.input.now c.skip_all.new.self (g.S.Source.left c.args.source.now) (g.S.Source.left c.pieces.source) (BeginsLine c.add-in-pieces.new.self) =
    line_goes_on c.args.input.now c.pieces.input c.skip_all.new.self (g.S.Source.left c.args.source.now) (g.S.Source.left c.pieces.source) c.pieces.line c.add-in-pieces.new.self
    c.unread.result.now c.unread-in-pieces.result.now c.pieces.invariant.0 c.unread.ensures.bytes c.in_default.ensures.none c.unread-in-pieces.ensures.bytes
    (record { kept = c.add-in-pieces.ensures.kept; long = c.add-in-pieces.ensures.long }) c.skip_all.ensures in
    let stopped : Reads (Some c.in-Err.stop) c.args.input.now c.fill.new.self (g.S.Source.left c.args.source.now) (g.S.Source.left c.fill.new.source) (BeginsLine c.add-in-pieces.new.self) =
    line_filled (Some c.in-Err.stop) c.args.input.now c.skip_all.new.self c.fill.new.self (g.S.Source.left c.args.source.now) (g.S.Source.left c.pieces.source) (g.S.Source.left c.fill.new.source) c.add-in-pieces.new.self used c.in-Err.ensures.reads in
    let some : 0 < length c.add-in-pieces.new.self.kept = grind (arith, common_steps) in
    record {
      reads = line_ended c.unless_end.result c.in-Err.stop c.args.input.now c.fill.new.self (g.S.Source.left c.args.source.now) (g.S.Source.left c.fill.new.source) c.add-in-pieces.new.self c.unless_end.ensures.ok c.unless_end.ensures.err some stopped;
      near = near_end c.unless_end.result c.in-Err.stop c.args.input.now c.fill.new.self (g.S.Source.left c.args.source.now) (g.S.Source.left c.fill.new.source) c.add-in-pieces.new.self c.unless_end.ensures.ok c.fill.ensures.known stopped;
      known = c.fill.ensures.known;
      cause = caused_so c.unless_end.result c.in-Err.stop (g.S.Source.faults c.args.source.now) (g.S.Source.faults c.pieces.source) (g.S.Source.faults c.fill.new.source) c.unless_end.ensures.ok c.unless_end.ensures.err c.pieces.invariant.2 c.in-Err.ensures.cause;
    }
