use Rattle.std.proofs.Common.{◌≡◌, ◌+◌, ◌<◌, [], ◌∷◌, ◌++◌, None, Ok, Err, ◌∙◌, length, refl, ap, sym, subst, arith}
use Rattle.std.proofs.lemmas.Result.{err_from_is_err_and}
use Rattle.line_reader.specs.Given.{HasGiven}
use Rattle.line_reader.specs.Request.{Request}
use Rattle.line_reader.specs.Held.{request_in}
use Rattle.line_reader.specs.Reading.{RequestOf}
use Rattle.line_reader.specs.Seen.{InputState, ReaderState, KnowsEnd, ahead}
use Rattle.line_reader.proofs.Giving.{given_next, given_first, given_stopped}
use Rattle.line_reader.proofs.Progress.{reads_ahead}
use Rattle.line_reader.proofs.reader.LineReader.next_request.Goals as goal

pub returns-in_err-self-inside-clause-gives : goal.returns-in_err-self-inside-clause-gives
returns-in_err-self-inside-clause-gives g c = λ most start given has.
    let same : c.self.inside.input ≡ c.args.self.now.input = ap (λ (reader : ReaderState). reader.input) c.self.view_is in
    let had : HasGiven most start (g.S.Source.left c.args.source.now) c.self.inside.input given = subst (λ (input : InputState). HasGiven most start (g.S.Source.left c.args.source.now) input given) (sym same) has in
    let known : KnowsEnd c.self.inside.input (g.S.Source.left c.args.source.now) = subst (λ (input : InputState). KnowsEnd input (g.S.Source.left c.args.source.now)) (sym same) c.requires.known in
    let e = err_from_is_err_and c.from_residual.result c.from_residual.ensures.1 in
    let failed : c.from_residual.result ≡ Err c.in_err-self-inside.field-0.0 = e.1 ∙ ap Err e.2 in
    rw failed
    (given_stopped c.in_err-self-inside.field-0.0 most start (g.S.Source.left c.args.source.now) (g.S.Source.left c.read_request.new.source) c.self.inside.input c.read_request.new.input
    c.read_request.new.input.ended c.read_request.new.first c.read_request.new.second given
    (request_in c.self.inside.kind c.read_request.new.first c.read_request.new.second c.read_request.new.input.ended) had known c.read_request.ensures.known c.in_err-self-inside.ensures.reads)

pub returns-clause-gives : goal.returns-clause-gives
returns-clause-gives g c = λ most start given has.
    let same : c.self.inside.input ≡ c.args.self.now.input = ap (λ (reader : ReaderState). reader.input) c.self.view_is in
    let had : HasGiven most start (g.S.Source.left c.args.source.now) c.self.inside.input given = subst (λ (input : InputState). HasGiven most start (g.S.Source.left c.args.source.now) input given) (sym same) has in
    let known : KnowsEnd c.self.inside.input (g.S.Source.left c.args.source.now) = subst (λ (input : InputState). KnowsEnd input (g.S.Source.left c.args.source.now)) (sym same) c.requires.known in
    let request : Request = request_in c.in_ok-self-inside.field-0 c.read_request.new.first c.read_request.new.second c.read_request.new.input.ended in
    let next : HasGiven most start (g.S.Source.left c.read_request.new.source) c.read_request.new.input (given ++ request ∷ []) =
    given_next most start (g.S.Source.left c.args.source.now) (g.S.Source.left c.read_request.new.source) c.self.inside.input c.read_request.new.input given request had known c.in_ok-self-inside.ensures.reads refl in
    (next, given_first most start (g.S.Source.left c.read_request.new.source) c.read_request.new.input (given ++ request ∷ []) next c.read_request.ensures.known c.in_ok-self-inside.ensures.near)

pub returns-clause-shorter : goal.returns-clause-shorter
returns-clause-shorter g c =
    let same : c.self.inside.input ≡ c.args.self.now.input = ap (λ (reader : ReaderState). reader.input) c.self.view_is in
    let some : 0 < length c.in_ok-self-inside.ensures.reads.used = c.in_ok-self-inside.ensures.reads.is.some in
    let less : ahead c.read_request.new.input + length c.in_ok-self-inside.ensures.reads.used ≡ ahead c.self.inside.input =
    reads_ahead None c.self.inside.input c.read_request.new.input (g.S.Source.left c.args.source.now) (g.S.Source.left c.read_request.new.source)
    (RequestOf (Ok c.in_ok-self-inside.field-0) c.read_request.new.input.ended c.read_request.new.first c.read_request.new.second) c.in_ok-self-inside.ensures.reads in
    let whole : ahead c.self.inside.input ≡ ahead c.args.self.now.input = ap ahead same in
    omega (arith, some, less, whole)
