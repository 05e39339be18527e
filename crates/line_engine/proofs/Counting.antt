-- The turns of a made input, counted, and the machine's steps alone.
use Rattle.std.proofs.Common.{◌≡◌, ◌≢◌, ◌≤◌, ◌+◌, ℕ, min, Bool, true, false, cond, List, [], ◌∷◌, ◌++◌, length, Option, Some, None, refl, sym, ap, subst, ◌∙◌, inl, ⊎_elim, append-nil, arith}
use Rattle.std.proofs.lemmas.Bool.{false≢true}
use Rattle.std.proofs.lemmas.List.{length-append, length_push}
use Rattle.std.proofs.lemmas.List.Sums.{sum_by-cons, sum_by_push}
use Rattle.std.specs.Prelude.{Result, Ok, Err, IfOk}
use Rattle.std.specs.Io.KnownBytes.{Consumes, IsAtEnd}
use Rattle.std.specs.List.{AllByRecursion, count_by}
use Rattle.engine.specs.Answers.{answered_by, reply_bytes}
use Rattle.engine.specs.Faithful.{IsFaithful}
use Rattle.engine.specs.Kept.{EngineState}
use Rattle.engine.specs.declared.engine.Answered.{Answered}
use Rattle.engine.specs.declared.engine.Answered.TheVariants as answer
use Rattle.index_trees.specs.Starting.{Starts}
use Rattle.io_edges.specs.Faults.{greatest_count}
use Rattle.line_reader.specs.Given.{Gives, HasGiven}
use Rattle.line_reader.specs.Request.{Request, requests}
use Rattle.line_reader.specs.Seen.{InputState}
use Rattle.line_reader.specs.declared.stop.Stop.{Stop}
use Rattle.line_reader.specs.declared.stop.Stop.TheVariants.{End}
use Rattle.machine.specs.Limit.{standard_limits}
use Rattle.machine.specs.May.{MayStep, WantsMemory}
use Rattle.machine.specs.State.{State, empty_state}
use Rattle.machine.specs.declared.limits.Limits.{Limits}
use Rattle.made_load.specs.Lines.{made_text}
use Rattle.reply_text.specs.Text.{reply_text}
use Rattle.reply_text.specs.declared.refusal.Refusal.TheVariants.{DiskFailure}
use Rattle.reply_text.specs.declared.reply.Reply.{Reply}
use Rattle.reply_text.specs.declared.reply.Reply.TheVariants.{OutOfMemory, RanMade, Refused}
use Rattle.line_engine.specs.Counted.{AreTotals, Counted, CountedAll, no_totals}
use Rattle.line_engine.specs.Printing.{AreSteps, IsStep, IsSummed, Prints, PrintsSummary, is_error, summary}
use Rattle.line_engine.specs.Run.{disk_failures, is_disk_failure}
use Rattle.line_engine.specs.Served.{IsUpTo, Served}
use Rattle.line_engine.specs.Stopping.{DiskState}
use Rattle.line_engine.specs.Turns.{Turn, IsChain, last_state, requests_of, text_of}
use Rattle.line_engine.specs.declared.made_run.Totals.{Totals}
use Rattle.line_engine.specs.declared.status.Status.{Status}
use Rattle.line_engine.specs.declared.status.Status.TheVariants.{Done, BadWords, ReadFault, WriteFault, DiskFault, NotAStore, Damaged, SessionLimit, NoMemory}
use Rattle.line_engine.proofs.Beginning.{keeps_same}
use Rattle.line_engine.proofs.Laws.{HoldsOne}
use Rattle.line_engine.proofs.Serving.{HasAnswered, chain_more, may_of, requests_more, stands_more, text_more, turn_of}

-- ## steps alone

not_failed : (reply : Reply) → is_disk_failure reply ≡ false → reply ≡ Refused DiskFailure → ⊥
not_failed reply none failed = false≢true (sym none ∙ ap is_disk_failure failed)

step_of : (limits : Limits) (before : State) (turn : Turn) → MayStep limits before turn.request turn.reply turn.after → turn.reply ≢ OutOfMemory → is_disk_failure turn.reply ≡ false
    → IsStep limits before turn
step_of limits before turn may memory disk = record {
  sizes = may.sizes;
  are = ⊎_elim (λ lacks. absurd (memory lacks)) (λ are. are) may.are;
  stepped = ⊎_elim (λ stepped. stepped)
      (λ other. absurd (⊎_elim (λ (wants : WantsMemory before turn.reply turn.after). memory wants.reply_is) (λ failed. not_failed turn.reply disk failed.reply_is) other)) may.may;
}

-- of a sum that is nothing neither part is anything
first_none : (fails : Bool) (rest : ℕ) → cond fails 1 0 + rest ≡ 0 → fails ≡ false
first_none true rest none = absurd (omega (arith, none))
first_none false rest none = refl

rest_none : (first rest : ℕ) → first + rest ≡ 0 → rest ≡ 0
rest_none first rest none = omega (arith, none)

failures_cons : (turn : Turn) (turns : List Turn) → disk_failures (turn ∷ turns) ≡ cond (is_disk_failure turn.reply) 1 0 + disk_failures turns
failures_cons turn turns = sum_by-cons (λ (it : Turn). cond (is_disk_failure it.reply) 1 0) turn turns

steps_of : (limits : Limits) (start : State) (turns : List Turn) → IsChain limits start turns → AllByRecursion (λ (turn : Turn). turn.reply ≢ OutOfMemory) turns → disk_failures turns ≡ 0
    → AreSteps limits start turns
steps_of limits start [] chain answered none = tt
steps_of limits start (turn ∷ turns) chain answered none =
    let both : cond (is_disk_failure turn.reply) 1 0 + disk_failures turns ≡ 0 = sym (failures_cons turn turns) ∙ none in (
      step_of limits start turn chain.0 answered.0 (first_none (is_disk_failure turn.reply) (disk_failures turns) both),
      steps_of limits turn.after turns chain.1 answered.1 (rest_none (cond (is_disk_failure turn.reply) 1 0) (disk_failures turns) both),
    )

-- ## one turn more

-- what a count of a reply of so many bytes adds
pub record IsMore (answered : Answered) (bytes : ℕ) (totals totals' : Totals) : Type 0 where
  pub memory : answered ≢ answer.NoMemory
  pub bytes_are : totals'.bytes ≡ totals.bytes + bytes
  pub errors_are : totals'.errors ≡ totals.errors + cond (is_error answered) 1 0
  pub lines_are : totals'.lines ≡ totals.lines + 1

all_more : {A : Type 0} (P : A → Type 0) (xs : List A) (x : A) → AllByRecursion P xs → P x → AllByRecursion P (xs ++ x ∷ [])
all_more {A} P [] x all is = (is, tt)
all_more {A} P (y ∷ ys) x all is = (all.0, all_more P ys x all.1 is)

bytes_written : (answered : Answered) (out : List ℕ) → answered ≢ answer.NoMemory → reply_bytes answered out ≡ out
bytes_written answer.Written out memory = refl
bytes_written answer.Refused out memory = refl
bytes_written answer.NoMemory out memory = absurd (memory refl)

totals_more : (turns : List Turn) (turn : Turn) (answered : Answered) (out : List ℕ) (totals totals' : Totals) → AreTotals totals turns → answered ≡ answered_by turn.reply
    → reply_bytes answered out ≡ reply_text turn.reply → IsMore answered (length out) totals totals' → AreTotals totals' (turns ++ turn ∷ [])
totals_more turns turn answered out totals totals' are told text more =
    let written : out ≡ reply_text turn.reply = sym (bytes_written answered out more.memory) ∙ text in
    let bytes : length (text_of (turns ++ turn ∷ [])) ≡ length (text_of turns) + length out =
    ap (λ (text : List ℕ). length text) (text_more turns turn) ∙ (length-append (text_of turns) (reply_text turn.reply) ∙ ap (λ (text : List ℕ). length (text_of turns) + length text) (sym written)) in
    let errors : count_by (λ (it : Turn). is_error (answered_by it.reply)) (turns ++ turn ∷ []) ≡ count_by (λ (it : Turn). is_error (answered_by it.reply)) turns + cond (is_error (answered_by turn.reply)) 1 0 =
    sum_by_push (λ (it : Turn). cond (is_error (answered_by it.reply)) 1 0) turns turn in
    record {
      bytes = more.bytes_are ∙ (ap (λ (sum : ℕ). sum + length out) are.bytes ∙ sym bytes);
      errors = more.errors_are ∙ (ap (λ (sum : ℕ). sum + cond (is_error answered) 1 0) are.errors
          ∙ (ap (λ (it : Answered). count_by (λ (turn : Turn). is_error (answered_by turn.reply)) turns + cond (is_error it) 1 0) told ∙ sym errors));
      lines = more.lines_are ∙ (ap (λ (sum : ℕ). sum + 1) are.lines ∙ sym (length_push turns turn));
      answered = all_more (λ (it : Turn). it.reply ≢ OutOfMemory) turns turn are.answered (λ lacks. more.memory (told ∙ ap answered_by lacks));
    }

pub counted_next : (limits : Limits) (start : State) (left l l' : Option (List ℕ)) (begun disk disk' : DiskState) (input input' : InputState) (engine engine' : EngineState) (request : Request) (answered : Answered) (out : List ℕ) (totals totals' : Totals)
    → HoldsOne limits.store_bytes → (counted : Counted limits start left l begun disk input engine totals) → Gives None limits.session_bytes left l' input' (requests_of counted.served.turns) request
    → ((state : State) → IsFaithful engine state → HasAnswered state request answered out engine engine' disk disk') → IsMore answered (length out) totals totals'
    → Counted limits start left l' begun disk' input' engine' totals'
counted_next limits start left l l' begun disk disk' input input' engine engine' request answered out totals totals' once counted gives answers more =
    let served : Served limits start left l None None begun disk input engine = counted.served in
    let it : HasAnswered (last_state start served.turns) request answered out engine engine' disk disk' = answers (last_state start served.turns) served.stands.faithful in
    let turn : Turn = turn_of request it in
    record {
      served = record {
        turns = served.turns ++ turn ∷ [];
        given = subst (λ (given : List Request). HasGiven limits.session_bytes left l' input' given) (requests_more served.turns turn) gives.0;
        chain = chain_more limits start served.turns turn served.chain (may_of limits (last_state start served.turns) request answered out engine engine' disk disk' served.stands.within it);
        stands = stands_more limits start served.turns request answered out engine engine' begun disk disk' once served.stands it;
        written = tt;
      };
      are = totals_more served.turns turn answered out totals totals' counted.are it.answers.answers.told it.answers.answers.text more;
    }

-- ## the first and the last

pub counted_none : (limits : Limits) (start : State) (left : Option (List ℕ)) (disk disk' : DiskState) (input : InputState) (engine : EngineState) → HasGiven limits.session_bytes left left input []
    → IsUpTo limits start [] engine disk disk' → Counted limits start left left disk disk' input engine no_totals
counted_none limits start left disk disk' input engine given stands = record {
  served = record { turns = []; given = given; chain = tt; stands = stands; written = tt };
  are = record { bytes = refl; errors = refl; lines = refl; answered = tt };
}

pub counted_all : (stop : Stop) (limits : Limits) (start : State) (left l l' : Option (List ℕ)) (begun disk : DiskState) (input input' : InputState) (engine : EngineState) (request : Request) (totals : Totals)
    → stop ≡ End → (counted : Counted limits start left l begun disk input engine totals) → Gives (Some stop) limits.session_bytes left l' input' (requests_of counted.served.turns) request
    → CountedAll limits start left l' begun.faults disk.faults totals
counted_all stop limits start left l l' begun disk input input' engine request totals is counted gives = record {
  turns = counted.served.turns;
  chain = counted.served.chain;
  reads = subst (λ (it : Stop). Gives (Some it) limits.session_bytes left l' input' (requests_of counted.served.turns) request) is gives;
  failures = counted.served.stands.failures;
  are = counted.are;
}

-- what is said of a value says another thing of it
pub if_ok : {T E : Type 0} {P Q : T → Type 0} (result : Result T E) → IfOk result P → ((value : T) → P value → Q value) → IfOk result Q
if_ok {T} {E} {P} {Q} (Ok value) is more = more value is
if_ok {T} {E} {P} {Q} (Err error) is more = tt

-- ## the sums

none_failed : (failures : ℕ) → min (0 + failures) greatest_count ≤ 0 → failures ≡ 0
none_failed failures few = grind arith

input_is : (input made : List ℕ) (left : Option (List ℕ)) → Consumes (Some made) left input → IsAtEnd left → input ≡ made
input_is input made None read ended = absurd read
input_is input made (Some rest) read ended = sym (append-nil input) ∙ (ap (λ (rest : List ℕ). input ++ rest) (sym ended) ∙ sym read)

totals_are : (totals : Totals) (turns : List Turn) → AreTotals totals turns → RanMade totals.bytes totals.errors totals.lines ≡ summary turns
totals_are totals turns are = rw (are.bytes, are.errors, are.lines) refl

summed : (number count : ℕ) (left : Option (List ℕ)) (totals : Totals) (line : List ℕ) → CountedAll standard_limits empty_state (Some (made_text number count)) left 0 0 totals
    → line ≡ reply_text (RanMade totals.bytes totals.errors totals.lines) → IsSummed number count (λ (text : List ℕ). line ≡ text)
summed number count left totals line counted is = record {
  turns = counted.turns;
  answers = record {
    steps = steps_of standard_limits empty_state counted.turns counted.chain counted.are.answered (none_failed (disk_failures counted.turns) counted.failures);
    asked = sym counted.reads.asked ∙ ap requests (input_is counted.reads.input (made_text number count) left counted.reads.read counted.reads.ended);
  };
  line = is ∙ ap reply_text (totals_are totals counted.turns counted.are);
}

starts_empty : (limit : ℕ) → Starts limit (Some []) empty_state
starts_empty limit = record { found = None; holds = inl refl; opens = refl }

-- over a disk whose file is empty, none of whose calls failed
pub summed_over : (number count : ℕ) (limits : Limits) (left left' content : Option (List ℕ)) (faults faults' : ℕ) (totals : Totals) (line : List ℕ)
    → limits ≡ standard_limits → left ≡ Some (made_text number count) → content ≡ Some [] → faults ≡ 0 → faults' ≡ 0
    → ((start : State) → Starts limits.store_bytes content start → CountedAll limits start left left' faults faults' totals)
    → line ≡ reply_text (RanMade totals.bytes totals.errors totals.lines) → IsSummed number count (λ (text : List ℕ). line ≡ text)
summed_over number count limits left left' content faults faults' totals line standard made empty none none' counted is =
    let starts : Starts limits.store_bytes content empty_state = subst (λ (own : Option (List ℕ)). Starts limits.store_bytes own empty_state) (sym empty) (starts_empty limits.store_bytes) in
    let one : CountedAll standard_limits empty_state left left' faults faults' totals =
    subst (λ (own : Limits). CountedAll own empty_state left left' faults faults' totals) standard (counted empty_state starts) in
    let two : CountedAll standard_limits empty_state (Some (made_text number count)) left' faults faults' totals =
    subst (λ (own : Option (List ℕ)). CountedAll standard_limits empty_state own left' faults faults' totals) made one in
    let three : CountedAll standard_limits empty_state (Some (made_text number count)) left' 0 faults' totals =
    subst (λ (own : ℕ). CountedAll standard_limits empty_state (Some (made_text number count)) left' own faults' totals) none two in
    summed number count left' totals line (subst (λ (own : ℕ). CountedAll standard_limits empty_state (Some (made_text number count)) left' 0 own totals) none' three) is

-- ## what is printed

along : (number count : ℕ) (line : List ℕ) (Is : List ℕ → Type 0) → IsSummed number count (λ (text : List ℕ). line ≡ text) → Is line → IsSummed number count Is
along number count line Is it is = record { turns = it.turns; answers = it.answers; line = subst Is it.line is }

pub summary_printed : (status : Status) (number count : ℕ) (taken taken' : Option (List ℕ)) (line : List ℕ) → IsSummed number count (λ (text : List ℕ). line ≡ text)
    → Prints status taken taken' line → PrintsSummary status number count taken taken'
summary_printed Done number count taken taken' line it prints = along number count line (Prints Done taken taken') it prints
summary_printed BadWords number count taken taken' line it prints = absurd prints
summary_printed ReadFault number count taken taken' line it prints = absurd prints
summary_printed WriteFault number count taken taken' line it prints = along number count line (Prints WriteFault taken taken') it prints
summary_printed DiskFault number count taken taken' line it prints = absurd prints
summary_printed NotAStore number count taken taken' line it prints = absurd prints
summary_printed Damaged number count taken taken' line it prints = absurd prints
summary_printed SessionLimit number count taken taken' line it prints = absurd prints
summary_printed NoMemory number count taken taken' line it prints = prints

pub ruleset printed = (summary_printed, keeps_same)
