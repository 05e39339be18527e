-- A session, request after request.
use Rattle.std.proofs.Common.{◌≡◌, ◌≤◌, ◌<◌, ◌+◌, ℕ, min, Bool, true, false, cond, List, [], ◌∷◌, ◌++◌, codes, Option, Some, None, refl, sym, ap, subst, ◌∙◌, ⊎_elim, append_assoc, append-nil, arith}
use Rattle.std.proofs.lemmas.Bool.{false≢true}
use Rattle.std.proofs.lemmas.List.{map-append}
use Rattle.std.proofs.lemmas.List.Sums.{sum_by_push}
use Rattle.std.specs.Io.KnownBytes.{Appends}
use Rattle.json.specs.Print.{escape_byte}
use Rattle.disk.specs.Stops.{IsTold, Only}
use Rattle.io_edges.specs.Faults.{greatest_count}
use Rattle.line_reader.specs.Given.{HasGiven, Gives}
use Rattle.line_reader.specs.Request.{Request}
use Rattle.request_form.specs.Asked.{Asked}
use Rattle.line_reader.specs.Seen.{InputState}
use Rattle.line_reader.specs.declared.stop.Stop.{Stop}
use Rattle.line_reader.specs.declared.stop.Stop.TheVariants.{End, Limit, Fault}
use Rattle.tree_json.specs.Text.{quoted}
use Rattle.engine.specs.Answers.{AnswersTo, reply_bytes}
use Rattle.engine.specs.Faithful.{IsFaithful}
use Rattle.engine.specs.Kept.{EngineState}
use Rattle.engine.specs.Storing.{HasDiskCause, StoreTurn, is_tried}
use Rattle.engine.specs.declared.engine.Answered.{Answered}
use Rattle.machine.specs.May.{MayAnswer, MayStep}
use Rattle.machine.specs.State.{State}
use Rattle.machine.specs.Step.{asked_for}
use Rattle.machine.specs.declared.limits.Limits.{Limits}
use Rattle.reply_text.specs.Object.{object_text}
use Rattle.reply_text.specs.Text.{line_of, reply_text}
use Rattle.reply_text.specs.declared.refusal.Refusal.TheVariants.{DiskFailure}
use Rattle.reply_text.specs.declared.reply.Reply.{Reply}
use Rattle.reply_text.specs.declared.reply.Reply.TheVariants.{OutOfMemory, Refused}
use Rattle.line_engine.specs.Exit.{status_of}
use Rattle.line_engine.specs.Run.{LeavesStore, Serves, TakesPart, disk_failures, is_disk_failure}
use Rattle.line_engine.specs.Served.{IsUpTo, KeepsStored, Served}
use Rattle.line_engine.specs.Stopping.{DiskState, content_after}
use Rattle.line_engine.specs.Turns.{Turn, IsChain, last_state, requests_of, text_of}
use Rattle.line_engine.specs.declared.status.Status.TheVariants.{WriteFault}
use Rattle.line_engine.proofs.Laws.{HoldsOne}
use Rattle.line_engine.proofs.Stopping.{IsTimed, keeps_turn, stores_more}
use Rattle.line_engine.proofs.Writing.{appends_more}

pub out_of_memory_text : codes "{\"error\":{\"reason\":\"out_of_memory\"}}\n" ≡ reply_text OutOfMemory
unfolding line_of object_text quoted escape_byte
out_of_memory_text = refl

-- ## chains with a turn put last

pub chain_more : (limits : Limits) (start : State) (turns : List Turn) (turn : Turn) → IsChain limits start turns → MayStep limits (last_state start turns) turn.request turn.reply turn.after →
    IsChain limits start (turns ++ turn ∷ [])
chain_more limits start [] turn chain may = (may, tt)
chain_more limits start (first ∷ turns) turn chain may = (chain.0, chain_more limits first.after turns turn chain.1 may)

last_more : (start : State) (turns : List Turn) (turn : Turn) → last_state start (turns ++ turn ∷ []) ≡ turn.after
last_more start [] turn = refl
last_more start (first ∷ turns) turn = last_more first.after turns turn

pub text_more : (turns : List Turn) (turn : Turn) → text_of (turns ++ turn ∷ []) ≡ text_of turns ++ reply_text turn.reply
text_more [] turn = append-nil (reply_text turn.reply)
text_more (first ∷ turns) turn = ap (λ (rest : List ℕ). reply_text first.reply ++ rest) (text_more turns turn) ∙ sym (append_assoc (reply_text first.reply) (text_of turns) (reply_text turn.reply))

pub requests_more : (turns : List Turn) (turn : Turn) → requests_of turns ++ turn.request ∷ [] ≡ requests_of (turns ++ turn ∷ [])
requests_more turns turn = sym (map-append (λ (it : Turn). it.request) turns (turn ∷ []))

-- ## the disk's count of faults

failure_is : (reply : Reply) → is_disk_failure reply ≡ true → reply ≡ Refused DiskFailure
failure_is (Refused DiskFailure) is = refl
failure_is reply is = absurd (false≢true is)

one_more : (before most faults faults' : ℕ) → min before most ≤ faults → faults < faults' → min (before + 1) most ≤ faults'
one_more before most faults faults' low rose = grind arith

at_end : (before most faults' : ℕ) → faults' ≡ most → min before most ≤ faults'
at_end before most faults' stood = grind arith

-- it counts one failure more, or as many
counted : (before faults faults' : ℕ) (reply : Reply) (fails : Bool) → is_disk_failure reply ≡ fails → min before greatest_count ≤ faults → HasDiskCause reply faults faults'
    → min (before + cond fails 1 0) greatest_count ≤ faults'
counted before faults faults' reply true is most cause =
    ⊎_elim (λ rose. one_more before greatest_count faults faults' most rose) (λ stood. at_end (before + 1) greatest_count faults' stood.1) (cause.failed (failure_is reply is))
counted before faults faults' reply false is most cause =
    let same : faults' ≡ faults = cause.others (λ failure. false≢true (sym is ∙ ap is_disk_failure failure)) in
    let none : before ≡ before + 0 = omega arith in
    subst (λ (count : ℕ). min count greatest_count ≤ faults') none (subst (λ (known : ℕ). min before greatest_count ≤ known) (sym same) most)

sum_is : (before turns one all : ℕ) → all ≡ turns + one → (before + turns) + one ≡ before + all
sum_is before turns one all more = omega (arith, more)

failures_more : (turns : List Turn) (turn : Turn) (before faults faults' : ℕ) → min (before + disk_failures turns) greatest_count ≤ faults → HasDiskCause turn.reply faults faults'
    → min (before + disk_failures (turns ++ turn ∷ [])) greatest_count ≤ faults'
failures_more turns turn before faults faults' most cause =
    let more : disk_failures (turns ++ turn ∷ []) ≡ disk_failures turns + cond (is_disk_failure turn.reply) 1 0 =
    sum_by_push (λ (it : Turn). cond (is_disk_failure it.reply) 1 0) turns turn in
    subst (λ (count : ℕ). min count greatest_count ≤ faults') (sum_is before (disk_failures turns) (cond (is_disk_failure turn.reply) 1 0) (disk_failures (turns ++ turn ∷ [])) more)
    (counted (before + disk_failures turns) faults faults' turn.reply (is_disk_failure turn.reply) refl most cause)

-- ## one turn

-- a request asks for what its lines ask for
asked_alike : (one two : Request) → one.first ≡ two.first → one.source ≡ two.source → asked_for one ≡ asked_for two
asked_alike one two first source = rw (first, source) refl

-- how an engine answers over a disk
abbrev pub AnswersOn : Limits → State → Request → Answered → List ℕ → ℕ → ℕ → EngineState → EngineState → DiskState → DiskState → Type 0
AnswersOn limits before asked answered out reads reads' engine engine' disk disk' =
    AnswersTo limits before asked answered out reads reads' engine.stored engine' disk'.content disk.image disk'.image disk.moment disk'.moment disk.since disk'.since disk.faults disk'.faults

-- what is so of an engine that answered, over a disk, lines that are those of a request
pub record HasAnswered (before : State) (request : Request) (answered : Answered) (out : List ℕ) (engine engine' : EngineState) (disk disk' : DiskState) : Type 0 where
  pub asked : Request
  pub first : asked.first ≡ request.first
  pub source : asked.source ≡ request.source
  pub reads : ℕ
  pub reads' : ℕ
  pub answers : AnswersOn engine.limits before asked answered out reads reads' engine engine' disk disk'
  pub limits : engine'.limits ≡ engine.limits
  pub limit : engine'.stored.limit ≡ engine.stored.limit
  pub told : IsTold disk'.content → IsTold disk.content
  pub time : IsTimed disk
  pub time' : IsTimed disk'

abbrev pub turn_of : {before : State} {answered : Answered} {out : List ℕ} {engine engine' : EngineState} {disk disk' : DiskState} (request : Request) → HasAnswered before request answered out engine engine' disk disk' → Turn
turn_of request it = record { request = request; reply = it.answers.answers.reply; after = it.answers.answers.after }

pub may_of : (limits : Limits) (before : State) (request : Request) (answered : Answered) (out : List ℕ) (engine engine' : EngineState) (disk disk' : DiskState) → engine.limits ≡ limits
    → (it : HasAnswered before request answered out engine engine' disk disk') → MayStep limits before request it.answers.answers.reply it.answers.answers.after
may_of limits before request answered out engine engine' disk disk' within it =
    let may : MayStep engine.limits before it.asked it.answers.answers.reply it.answers.answers.after = record { sizes = it.answers.sizes; are = it.answers.are; may = it.answers.answers.may } in
    subst (λ (held : Limits). MayStep held before request it.answers.answers.reply it.answers.answers.after) within
    (subst (λ (asked : Asked). MayAnswer engine.limits before asked it.answers.answers.reply it.answers.answers.after) (asked_alike it.asked request it.first it.source) may)

-- engine and store stand for the state behind the turn
pub stands_more : (limits : Limits) (start : State) (turns : List Turn) (request : Request) (answered : Answered) (out : List ℕ) (engine engine' : EngineState) (begun disk disk' : DiskState)
    → HoldsOne limits.store_bytes → IsUpTo limits start turns engine begun disk → (it : HasAnswered (last_state start turns) request answered out engine engine' disk disk')
    → IsUpTo limits start (turns ++ turn_of request it ∷ []) engine' begun disk'
stands_more limits start turns request answered out engine engine' begun disk disk' once stands it =
    let turn : Turn = turn_of request it in
    let store_more : KeepsStored limits.store_bytes start turns engine.stored begun disk → IsTold disk'.content → KeepsStored limits.store_bytes start (turns ++ turn ∷ []) engine'.stored begun disk' =
    λ kept told.
    let of_turn : StoreTurn (is_tried (asked_for it.asked)) turn.reply (content_after turn) engine'.stored disk.image disk'.image disk.moment disk'.moment disk.since disk'.since =
    it.answers.stores told kept.found kept.keeps in
    record {
      found = of_turn.last;
      keeps = of_turn.keeps;
      opened = kept.opened;
      within = kept.within;
      stores = stores_more limits.store_bytes start turns turn kept.opened disk disk' it.time it.time'
          (keeps_turn limits.store_bytes turn (is_tried (asked_for it.asked)) engine'.stored disk.image disk'.image disk.moment disk'.moment disk.since disk'.since
          once (it.limit ∙ stands.limit) (ap is_tried (asked_alike it.asked request it.first it.source)) of_turn)
          kept.stores;
    } in
    record {
      faithful = subst (λ (state : State). IsFaithful engine' state) (sym (last_more start turns turn)) it.answers.answers.faithful;
      within = it.limits ∙ stands.within;
      limit = it.limit ∙ stands.limit;
      stored = λ told only. store_more (stands.stored (it.told told) only) told;
      failures = failures_more turns turn begun.faults disk.faults disk'.faults stands.failures it.answers.cause;
    }

-- ## one request more

pub served_next : (limits : Limits) (start : State) (left l l' taken t t' : Option (List ℕ)) (begun disk disk' : DiskState) (input input' : InputState) (engine engine' : EngineState) (request : Request) (answered : Answered) (out : List ℕ)
    → HoldsOne limits.store_bytes → (served : Served limits start left l taken t begun disk input engine) → Gives None limits.session_bytes left l' input' (requests_of served.turns) request
    → ((state : State) → IsFaithful engine state → HasAnswered state request answered out engine engine' disk disk') → Appends t t' (reply_bytes answered out)
    → Served limits start left l' taken t' begun disk' input' engine'
served_next limits start left l l' taken t t' begun disk disk' input input' engine engine' request answered out once served gives answers writes =
    let it : HasAnswered (last_state start served.turns) request answered out engine engine' disk disk' = answers (last_state start served.turns) served.stands.faithful in
    let turn : Turn = turn_of request it in
    record {
      turns = served.turns ++ turn ∷ [];
      given = subst (λ (given : List Request). HasGiven limits.session_bytes left l' input' given) (requests_more served.turns turn) gives.0;
      chain = chain_more limits start served.turns turn served.chain (may_of limits (last_state start served.turns) request answered out engine engine' disk disk' served.stands.within it);
      stands = stands_more limits start served.turns request answered out engine engine' begun disk disk' once served.stands it;
      written = subst (λ (bytes : List ℕ). Appends taken t' bytes) (ap (λ (bytes : List ℕ). text_of served.turns ++ bytes) it.answers.answers.text ∙ sym (text_more served.turns turn))
          (appends_more taken t t' (text_of served.turns) (reply_bytes answered out) served.written writes);
    }

-- ## how a session ends

leaves : {limits : Limits} {start : State} {turns : List Turn} {engine : EngineState} {begun disk : DiskState} → IsUpTo limits start turns engine begun disk
    → IsTold disk.content → Only begun.content begun.image → LeavesStore limits.store_bytes start turns begun disk
leaves {limits} {start} {turns} {engine} {begun} {disk} stands told only =
    let kept : KeepsStored limits.store_bytes start turns engine.stored begun disk = stands.stored told only in
    record { opened = kept.opened; within = kept.within; stores = kept.stores }

-- there is no further request
pub served_stop : (stop : Stop) (limits : Limits) (start : State) (left l l' taken t : Option (List ℕ)) (begun disk : DiskState) (input input' : InputState) (engine : EngineState) (request : Request) →
    (served : Served limits start left l taken t begun disk input engine) → Gives (Some stop) limits.session_bytes left l' input' (requests_of served.turns) request →
    Serves (status_of stop) limits start left l' taken t begun disk
served_stop End limits start left l l' taken t begun disk input input' engine request served gives =
    record { requests = requests_of served.turns; turns = served.turns; run = record { chain = served.chain; asked = refl }; reads = gives; writes = served.written; stores = λ told only new. leaves served.stands told only; failures = served.stands.failures }
served_stop Limit limits start left l l' taken t begun disk input input' engine request served gives =
    record { requests = requests_of served.turns; turns = served.turns; run = record { chain = served.chain; asked = refl }; reads = gives; writes = served.written; stores = λ told only new. leaves served.stands told only; failures = served.stands.failures }
served_stop Fault limits start left l l' taken t begun disk input input' engine request served gives =
    record { requests = requests_of served.turns; turns = served.turns; run = record { chain = served.chain; asked = refl }; reads = gives; writes = served.written; stores = λ told only new. leaves served.stands told only; failures = served.stands.failures }

-- writing the reply failed
pub served_part : (limits : Limits) (start : State) (left l l' taken t t' : Option (List ℕ)) (begun disk disk' : DiskState) (input input' : InputState) (engine engine' : EngineState) (request : Request) (answered : Answered) (out : List ℕ)
    → HoldsOne limits.store_bytes → (served : Served limits start left l taken t begun disk input engine) → Gives None limits.session_bytes left l' input' (requests_of served.turns) request
    → ((state : State) → IsFaithful engine state → HasAnswered state request answered out engine engine' disk disk') → TakesPart t t' (reply_bytes answered out)
    → Serves WriteFault limits start left l' taken t' begun disk'
served_part limits start left l l' taken t t' begun disk disk' input input' engine engine' request answered out once served gives answers takes =
    let it : HasAnswered (last_state start served.turns) request answered out engine engine' disk disk' = answers (last_state start served.turns) served.stands.faithful in
    let turn : Turn = turn_of request it in
    let stands : IsUpTo limits start (served.turns ++ turn ∷ []) engine' begun disk' = stands_more limits start served.turns request answered out engine engine' begun disk disk' once served.stands it in
    record {
      requests = requests_of served.turns ++ request ∷ [];
      turns = served.turns ++ turn ∷ [];
      run = record {
        chain = chain_more limits start served.turns turn served.chain (may_of limits (last_state start served.turns) request answered out engine engine' disk disk' served.stands.within it);
        asked = sym (requests_more served.turns turn);
      };
      reads = gives.1;
      writes = record {
        answered = served.turns;
        last = turn;
        parts = refl;
        part = takes.part;
        rest = takes.rest;
        text = sym it.answers.answers.text ∙ takes.parts;
        some = takes.some;
        written = appends_more taken t t' (text_of served.turns) takes.part served.written takes.written;
      };
      stores = λ told only new. leaves stands told only;
      failures = stands.failures;
    }
