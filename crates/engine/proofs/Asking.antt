-- What is asked for: commands where there is no mapping, what becomes of the points in time, and the answer to a request.
use Rattle.std.proofs.Common.{◌≡◌, ◌≢◌, ◌⊎◌, ◌≤◌, ◌+◌, ℕ, Bool, false, List, [], Option, Some, None, Result, refl, sym, ap, subst, inl, inr, ◌∙◌, arith}
use Rattle.std.proofs.lemmas.Bool.{true≢false}
use Rattle.std.proofs.lemmas.List.Elements.{All-nil, All-weaker}
use Rattle.commit_store.specs.Known.{KeepsStore, StoreState}
use Rattle.commit_store.specs.Saying.{StoreCommit}
use Rattle.flattener.specs.Fits.{EntryFits, ViewFits}
use Rattle.index_core.specs.Kept.{IndexState}
use Rattle.line_reader.specs.Request.{Request}
use Rattle.machine.specs.Answer.{Answer, Outcome, mapped, outcome_of, refuses, sealing, with_mapping}
use Rattle.machine.specs.Beside.{asks_so}
use Rattle.machine.specs.May.{AreSizesFor, MayEnd}
use Rattle.machine.specs.State.{Content, PointsInTime, State}
use Rattle.machine.specs.State as machine
use Rattle.machine.specs.Step.{asked_for, asked_step, is_of_store, refusal_formed, step}
use Rattle.machine.specs.declared.limits.Limits.{Limits}
use Rattle.mapping.specs.Mapping.{Mapping}
use Rattle.point_in_time.specs.Points.{KeptPoint, KeptPoints, no_points}
use Rattle.reply_text.specs.declared.refusal.Refusal.{Refusal}
use Rattle.reply_text.specs.declared.refusal.Refusal.TheVariants.{DiskFailure, NoMapping}
use Rattle.reply_text.specs.declared.reply.Reply.{Reply}
use Rattle.reply_text.specs.declared.reply.Reply.TheVariants as reply_is
use Rattle.request_form.specs.Asked.{Asked, refused, asked_of}
use Rattle.request_form.specs.declared.refusal.FormRefusal.{FormRefusal}
use Rattle.segment.specs.Live.{EntryState}
use Rattle.store_compact.specs.Compacting.{kept_of}
use Rattle.engine.specs.Answers.{Answers, AnswersTo}
use Rattle.index_trees.specs.Faithful.{AreFaithful, PointStandsFor, PointsStand, PointsStandFor}
use Rattle.engine.specs.Faithful.{IsFaithful}
use Rattle.engine.specs.Kept.{ArePointsUnder, EngineState, PointsFit}
use Rattle.engine.specs.Parts.{AnswersAsked, EndsStored, Ends, EndsWith, Grows, GrowsFrom, HasGrown, IsRefusal, answered_of}
use Rattle.engine.specs.Reads.{reads_asked}
use Rattle.engine.specs.Storing.{HasDiskCause, StoreTurn, is_acknowledged, is_tried}
use Rattle.engine.specs.declared.engine.Answered.{Answered}
use Rattle.engine.specs.declared.engine.Answered.TheVariants.{NoMemory}
use Rattle.engine.specs.declared.no_memory.NoMemory as memory
use Rattle.engine.specs.declared.reply.Ended.{Ended}
use Rattle.engine.proofs.Answering.{lacking, refusal_ends}
use Rattle.engine.proofs.Leaving.{SegmentsFit}
use Rattle.engine.proofs.Plain.{IsPlain, asked_plain, end_plain, lacking_plain, no_sizes}
use Rattle.engine.proofs.Pointing.{zip_weaker}
use Rattle.engine.proofs.Standing.{SameBlocks, grown_entries}

-- ---- where there is no mapping, and where there is one

pub unmapped : (state : State) (command : Mapping → State → Answer) → state.content.mapping ≡ None → mapped command state ≡ refuses NoMapping
unmapped state command none = rw none refl

pub unmapped_sealed : (state : State) (command : Mapping → State → Answer) → state.content.mapping ≡ None → sealing (mapped command) state ≡ refuses NoMapping
unmapped_sealed state command none = rw none refl

-- ---- points in time under a mapping that grows

points_grown : SameBlocks → (m m' : Mapping) → HasGrown m m' → (points : KeptPoints) (others : PointsInTime) → PointsStand m points others → PointsStand m' points others
points_grown same m m' g points others s = record {
  opened = s.opened;
  each = zip_weaker (PointStandsFor m) (PointStandsFor m')
      (λ point other stand. record { id = stand.id; entries = grown_entries same m m' g.before g.after g.further point.entries other.live stand.entries }) points.points others.points s.each;
}

no_points_stand : (m : Mapping) → PointsStand m no_points machine.no_points
no_points_stand m = record { opened = refl; each = tt }

pub points_under : SameBlocks → (mapping mapping' : Option Mapping) → GrowsFrom mapping mapping' → (points : KeptPoints) (others : PointsInTime) → PointsStandFor mapping points others → PointsStandFor mapping' points others
points_under same None None grows points others stand = stand
points_under same None (Some m) grows points others stand =
    subst (λ (own : KeptPoints). PointsStand m own others) (sym stand.0) (subst (PointsStand m no_points) (sym stand.1) (no_points_stand m))
points_under same (Some m) None grows points others stand = absurd grows
points_under same (Some m) (Some m') (inl e) points others stand = subst (λ (it : Mapping). PointsStand it points others) (sym e) stand
points_under same (Some m) (Some m') (inr g) points others stand = points_grown same m m' g points others stand

view_grown : SegmentsFit → (m m' : Mapping) → HasGrown m m' → (entries : List EntryState) → ViewFits m entries → ViewFits m' entries
view_grown segments m m' g entries fits = record {
  each = All-weaker (EntryFits m) (EntryFits m') (λ entry own. record { segment = segments m m' entry.columns g.before g.further own.segment; live = own.live; few = own.few }) entries fits.each;
  few = fits.few;
}

pub fit_under : SegmentsFit → (mapping mapping' : Option Mapping) → GrowsFrom mapping mapping' → (points : KeptPoints) → ArePointsUnder mapping points → ArePointsUnder mapping' points
fit_under segments None None grows points fit = fit
fit_under segments None (Some m) grows points fit = subst (PointsFit m) (sym fit) (All-nil (λ (point : KeptPoint). ViewFits m point.entries))
fit_under segments (Some m) None grows points fit = absurd grows
fit_under segments (Some m) (Some m') (inl e) points fit = subst (λ (it : Mapping). PointsFit it points) (sym e) fit
fit_under segments (Some m) (Some m') (inr g) points fit =
    All-weaker (λ (point : KeptPoint). ViewFits m point.entries) (λ (point : KeptPoint). ViewFits m' point.entries) (λ point. view_grown segments m m' g point.entries) points.points fit

-- ---- by how a command ends

-- where it leaves the points in time as they are
pub ends_answer : (kept : EngineState) (state : State) (outcome : Outcome) (answered : Answered) (out : List ℕ) → PointsStandFor kept.mapping kept.points state.points → state.kept ≡ kept_of kept.stored → Ends state outcome answered out kept.mapping kept.index
    → Answers state outcome answered out kept
ends_answer kept state outcome answered out stand stored e = record {
  reply = e.reply;
  after = e.after;
  may = e.may;
  faithful = (e.faithful, subst (PointsStandFor kept.mapping kept.points) (sym e.points) stand, e.kept ∙ stored);
  told = e.told;
  text = e.text;
}

-- where it may change them
pub with_answer : (kept : EngineState) (state : State) (outcome : Outcome) (answered : Answered) (out : List ℕ) → state.kept ≡ kept_of kept.stored → EndsWith state outcome answered out kept.mapping kept.index kept.points → Answers state outcome answered out kept
with_answer kept state outcome answered out stored e = record {
  reply = e.reply;
  after = e.after;
  may = e.may;
  faithful = (e.faithful, e.stand, e.kept ∙ stored);
  told = e.told;
  text = e.text;
}

-- where it makes the mapping grow, if it does
pub grown_answer : SameBlocks → (kept : EngineState) (before : Option Mapping) (state : State) (outcome : Outcome) (answered : Answered) (out : List ℕ) → GrowsFrom before kept.mapping
    → PointsStandFor before kept.points state.points → state.kept ≡ kept_of kept.stored → Ends state outcome answered out kept.mapping kept.index → Answers state outcome answered out kept
grown_answer same kept before state outcome answered out grows stand stored e =
    ends_answer kept state outcome answered out (points_under same before kept.mapping grows kept.points state.points stand) stored e

pub refusal_answer : (kept : EngineState) (state : State) (answer : Answer) (why : Refusal) (result : Result Ended memory.NoMemory) (out : List ℕ) → IsFaithful kept state → answer ≡ refuses why
    → IsRefusal why result out → Answers state (outcome_of state answer) (answered_of result) out kept
refusal_answer kept state answer why result out f e said =
    ends_answer kept state (outcome_of state answer) (answered_of result) out f.1 f.2 (refusal_ends kept.mapping kept.index state answer why result out f.0 e said)

pub lacking_answer : (kept : EngineState) (state : State) (outcome : Outcome) (out : List ℕ) → IsFaithful kept state → Answers state outcome NoMemory out kept
lacking_answer kept state outcome out f = ends_answer kept state outcome NoMemory out f.1 f.2 (lacking kept.mapping kept.index state outcome out f.0)

-- ---- a command that wants a mapping, where there is one

abbrev Maps : EngineState → State → (Mapping → Answer) → Answered → List ℕ → Type 0
Maps kept state command answered out = Answers state (outcome_of state (with_mapping state.content.mapping command)) answered out kept

by_mapping : (kept : EngineState) (state : State) (m : Mapping) (command : Mapping → Answer) (answered : Answered) (out : List ℕ) → state.content.mapping ≡ Some m
    → Answers state (outcome_of state (command m)) answered out kept → Maps kept state command answered out
by_mapping kept state m command answered out is a =
    subst (λ (mapping : Option Mapping). Answers state (outcome_of state (with_mapping mapping command)) answered out kept) (sym is) a

pub under_answer : (kept : EngineState) (index : IndexState) (state : State) (m : Mapping) (command : Mapping → Answer) (answered : Answered) (out : List ℕ) → kept.mapping ≡ Some m
    → AreFaithful kept.mapping index state → PointsStandFor kept.mapping kept.points state.points → state.kept ≡ kept_of kept.stored
    → (AreFaithful (Some m) index state → Ends state (outcome_of state (command m)) answered out (Some m) kept.index) → Maps kept state command answered out
under_answer kept index state m command answered out is f stand stored ends =
    by_mapping kept state m command answered out (f.mapped ∙ is)
    (ends_answer kept state (outcome_of state (command m)) answered out stand stored
    (subst (λ (mapping : Option Mapping). Ends state (outcome_of state (command m)) answered out mapping kept.index) (sym is)
    (ends (subst (λ (mapping : Option Mapping). AreFaithful mapping index state) is f))))

-- and where the points in time may change
pub under_answer_with : (kept : EngineState) (index : IndexState) (points : KeptPoints) (state : State) (m : Mapping) (command : Mapping → Answer) (answered : Answered) (out : List ℕ) → kept.mapping ≡ Some m
    → AreFaithful kept.mapping index state → PointsStandFor kept.mapping points state.points → state.kept ≡ kept_of kept.stored
    → (AreFaithful (Some m) index state → PointsStand m points state.points → EndsWith state (outcome_of state (command m)) answered out (Some m) kept.index kept.points) → Maps kept state command answered out
under_answer_with kept index points state m command answered out is f stand stored ends =
    by_mapping kept state m command answered out (f.mapped ∙ is)
    (with_answer kept state (outcome_of state (command m)) answered out stored
    (subst (λ (mapping : Option Mapping). EndsWith state (outcome_of state (command m)) answered out mapping kept.index kept.points) (sym is)
    (ends (subst (λ (mapping : Option Mapping). AreFaithful mapping index state) is f) (subst (λ (mapping : Option Mapping). PointsStandFor mapping points state.points) is stand))))

-- a write, which may make the mapping grow
pub write_answer : SameBlocks → (kept : EngineState) (before : Option Mapping) (index : IndexState) (state : State) (m m' : Mapping) (command : Mapping → Answer) (answered : Answered) (out : List ℕ) → before ≡ Some m
    → kept.mapping ≡ Some m' → Grows m m' → AreFaithful before index state → PointsStandFor before kept.points state.points → state.kept ≡ kept_of kept.stored
    → (AreFaithful (Some m) index state → Ends state (outcome_of state (command m)) answered out (Some m') kept.index) → Maps kept state command answered out
write_answer same kept before index state m m' command answered out is after grows f stand stored ends =
    by_mapping kept state m command answered out (f.mapped ∙ is)
    (grown_answer same kept (Some m) state (outcome_of state (command m)) answered out (subst (GrowsFrom (Some m)) (sym after) grows)
    (subst (λ (mapping : Option Mapping). PointsStandFor mapping kept.points state.points) is stand) stored
    (subst (λ (mapping : Option Mapping). Ends state (outcome_of state (command m)) answered out mapping kept.index) (sym after)
    (ends (subst (λ (mapping : Option Mapping). AreFaithful mapping index state) is f))))

-- ---- what is asked for, over a disk

-- a disk as it was, whatever is asked of the store's file
pub turn_left : (tried : Bool) (reply : Reply) (content : Content) (stored : StoreState) (found : Option StoreCommit) (image : List ℕ → Type 0) (moment : ℕ) (since : ℕ → List ℕ → Type 0) → is_acknowledged reply ≡ false
    → KeepsStore stored found image → StoreTurn tried reply content stored image image moment moment since since
turn_left tried reply content stored found image moment since plain keeps = record {
  last = found;
  keeps = keeps;
  passes = record { later = omega arith; only = λ t file before was. inl was };
  acknowledged = λ acknowledges file there. absurd (true≢false (sym acknowledges ∙ plain));
}

pub cause_left : (reply : Reply) (faults : ℕ) → reply ≢ reply_is.Refused DiskFailure → HasDiskCause reply faults faults
cause_left reply faults plain = record { failed = λ fails. absurd (plain fails); others = λ other. refl }

-- what isn't asked of the store leaves the disk and the store as they were
pub plain : (limits : Limits) (state : State) (asked : Asked) (answered : Answered) (out : List ℕ) (stored : StoreState) (engine : EngineState) (content' : Option (List ℕ)) (image : List ℕ → Type 0)
    (moment : ℕ) (since : ℕ → List ℕ → Type 0) (faults : ℕ) → asks_so is_of_store asked ≡ false → engine.stored ≡ stored
    → Answers state (outcome_of state (asked_step limits [] asked state)) answered out engine
    → AnswersAsked limits state asked answered out stored engine content' image image moment moment since since faults faults
plain limits state asked answered out stored engine content' image moment since faults other same answers =
    let is = asked_plain limits [] asked state other in
    let own = end_plain state (asked_step limits [] asked state) answers.reply answers.after is answers.may in
    record {
      sizes = [];
      answers = answers;
      are = inr (no_sizes asked state other);
      stores = λ told found keeps. subst (λ (it : StoreState). StoreTurn (is_tried asked) answers.reply answers.after.content it image image moment moment since since) (sym same)
          (turn_left (is_tried asked) answers.reply answers.after.content stored found image moment since own.acknowledges keeps);
      cause = cause_left answers.reply faults own.fails;
    }

-- where lines are no request
pub refusal_asked : (limits : Limits) (kept : EngineState) (state : State) (asked : Asked) (form : FormRefusal) (why : Refusal) (result : Result Ended memory.NoMemory) (out : List ℕ) (content' : Option (List ℕ))
    (image : List ℕ → Type 0) (moment : ℕ) (since : ℕ → List ℕ → Type 0) (faults : ℕ) → IsFaithful kept state → asked ≡ refused form → why ≡ refusal_formed form → IsRefusal why result out
    → AnswersAsked limits state asked (answered_of result) out kept.stored kept content' image image moment moment since since faults faults
refusal_asked limits kept state asked form why result out content' image moment since faults f is formed said =
    subst (λ (it : Asked). AnswersAsked limits state it (answered_of result) out kept.stored kept content' image image moment moment since since faults faults) (sym is)
    (plain limits state (refused form) (answered_of result) out kept.stored kept content' image moment since faults refl refl
    (refusal_answer kept state (refuses (refusal_formed form)) why result out f (ap refuses (sym formed)) said))

-- nothing was done, of which nothing is told
left_asked : (limits : Limits) (kept : EngineState) (state : State) (asked : Asked) (answered : Answered) (out : List ℕ) (content' : Option (List ℕ)) (image : List ℕ → Type 0) (moment : ℕ)
    (since : ℕ → List ℕ → Type 0) (faults : ℕ) (answers : Answers state (outcome_of state (asked_step limits [] asked state)) answered out kept)
    → (answers.reply ≡ reply_is.OutOfMemory) ⊎ AreSizesFor asked state [] → IsPlain answers.reply → AnswersAsked limits state asked answered out kept.stored kept content' image image moment moment since since faults faults
left_asked limits kept state asked answered out content' image moment since faults answers are own = record {
  sizes = [];
  answers = answers;
  are = are;
  stores = λ told found keeps. turn_left (is_tried asked) answers.reply answers.after.content kept.stored found image moment since own.acknowledges keeps;
  cause = cause_left answers.reply faults own.fails;
}

-- where there was no memory
pub lacking_asked : (limits : Limits) (kept : EngineState) (state : State) (asked : Asked) (out : List ℕ) (content' : Option (List ℕ)) (image : List ℕ → Type 0) (moment : ℕ) (since : ℕ → List ℕ → Type 0) (faults : ℕ)
    → IsFaithful kept state → AnswersAsked limits state asked NoMemory out kept.stored kept content' image image moment moment since since faults faults
lacking_asked limits kept state asked out content' image moment since faults f =
    let answers : Answers state (outcome_of state (asked_step limits [] asked state)) NoMemory out kept = record {
      reply = reply_is.OutOfMemory;
      after = state;
      may = inr (inl (record { reply_is = refl; state_is = inl refl }));
      faithful = f;
      told = refl;
      text = refl;
    } in
    left_asked limits kept state asked NoMemory out content' image moment since faults answers (inl refl) lacking_plain

-- a command of the store where there is no mapping
pub unmapped_asked : (limits : Limits) (kept : EngineState) (state : State) (asked : Asked) (result : Result Ended memory.NoMemory) (out : List ℕ) (content' : Option (List ℕ)) (image : List ℕ → Type 0) (moment : ℕ)
    (since : ℕ → List ℕ → Type 0) (faults : ℕ) → IsFaithful kept state → asked_step limits [] asked state ≡ refuses NoMapping → AreSizesFor asked state [] → IsRefusal NoMapping result out
    → AnswersAsked limits state asked (answered_of result) out kept.stored kept content' image image moment moment since since faults faults
unmapped_asked limits kept state asked result out content' image moment since faults f is are said =
    let answers = refusal_answer kept state (asked_step limits [] asked state) NoMapping result out f is said in
    left_asked limits kept state asked (answered_of result) out content' image moment since faults answers (inr are)
    (end_plain state (refuses NoMapping) answers.reply answers.after refl (subst (λ (it : Answer). MayEnd state (outcome_of state it) answers.reply answers.after) is answers.may))

-- a command of the store where there is one
pub stored_asked : (limits : Limits) (state : State) (asked : Asked) (answered : Answered) (out : List ℕ) (stored : StoreState) (kept : EngineState) (content' : Option (List ℕ)) (image image' : List ℕ → Type 0)
    (from to : ℕ) (past since : ℕ → List ℕ → Type 0) (faults faults' : ℕ) → PointsStandFor kept.mapping kept.points state.points
    → EndsStored limits state asked answered out kept.mapping kept.index stored kept.stored content' image image' from to past since faults faults'
    → AnswersAsked limits state asked answered out stored kept content' image image' from to past since faults faults'
stored_asked limits state asked answered out stored kept content' image image' from to past since faults faults' stand e = record {
  sizes = e.sizes;
  answers = record {
    reply = e.reply;
    after = e.after;
    may = e.may;
    faithful = (e.faithful, subst (PointsStandFor kept.mapping kept.points) (sym e.points) stand, e.kept);
    told = e.told;
    text = e.text;
  };
  are = e.are;
  stores = e.stores;
  cause = e.cause;
}

-- and as it is asked of an engine
pub stored_answer : (own before kept : EngineState) (state : State) (m : Mapping) (asked : Asked) (answered : Answered) (out : List ℕ) (content' : Option (List ℕ)) (image image' : List ℕ → Type 0) (from to : ℕ)
    (past since : ℕ → List ℕ → Type 0) (faults faults' : ℕ) → own ≡ before → IsFaithful before state → own.mapping ≡ Some m → kept.mapping ≡ own.mapping → kept.points ≡ own.points
    → ((limits : Limits) → own.stored.limit ≡ limits.store_bytes → AreFaithful (Some m) own.index state → state.kept ≡ kept_of own.stored
    → EndsStored limits state asked answered out (Some m) kept.index own.stored kept.stored content' image image' from to past since faults faults')
    → own.stored.limit ≡ own.limits.store_bytes → AnswersAsked before.limits state asked answered out before.stored kept content' image image' from to past since faults faults'
stored_answer own before kept state m asked answered out content' image image' from to past since faults faults' same f mapped stays points ends limit =
    let f' = subst (λ (it : EngineState). IsFaithful it state) (sym same) f in
    let e = ends own.limits limit (subst (λ (mapping : Option Mapping). AreFaithful mapping own.index state) mapped f'.0) f'.2 in
    let stand : PointsStandFor kept.mapping kept.points state.points =
    subst (λ (mapping : Option Mapping). PointsStandFor mapping kept.points state.points) (sym stays) (subst (λ (it : KeptPoints). PointsStandFor own.mapping it state.points) (sym points) f'.1) in
    subst (λ (it : EngineState). AnswersAsked it.limits state asked answered out it.stored kept content' image image' from to past since faults faults') same
    (stored_asked own.limits state asked answered out own.stored kept content' image image' from to past since faults faults' stand
    (subst (λ (mapping : Option Mapping). EndsStored own.limits state asked answered out mapping kept.index own.stored kept.stored content' image image' from to past since faults faults') (sym (stays ∙ mapped)) e))

pub unmapped_answer : (own before : EngineState) (state : State) (asked : Asked) (result : Result Ended memory.NoMemory) (out : List ℕ) (content' : Option (List ℕ)) (image : List ℕ → Type 0) (moment : ℕ)
    (since : ℕ → List ℕ → Type 0) (faults : ℕ) → own ≡ before → IsFaithful before state → own.mapping ≡ None → (state.content.mapping ≡ None → asked_step own.limits [] asked state ≡ refuses NoMapping)
    → (state.content.mapping ≡ None → AreSizesFor asked state []) → IsRefusal NoMapping result out
    → AnswersAsked before.limits state asked (answered_of result) out before.stored own content' image image moment moment since since faults faults
unmapped_answer own before state asked result out content' image moment since faults same f none is are said =
    let f' = subst (λ (it : EngineState). IsFaithful it state) (sym same) f in
    let unmapped = f'.0.mapped ∙ none in
    subst (λ (it : EngineState). AnswersAsked it.limits state asked (answered_of result) out it.stored own content' image image moment moment since since faults faults) same
    (unmapped_asked own.limits own state asked result out content' image moment since faults f' (is unmapped) (are unmapped) said)

-- ---- the answer to a request

pub answers_to : (own before after : EngineState) (state : State) (request : Request) (answered : Answered) (out : List ℕ) (reads reads' : ℕ) (content' : Option (List ℕ)) (image image' : List ℕ → Type 0) (from to : ℕ)
    (past since : ℕ → List ℕ → Type 0) (faults faults' : ℕ) → own ≡ before → IsFaithful before state
    → (IsFaithful own state → AnswersAsked own.limits state (asked_for request) answered out own.stored after content' image image' from to past since faults faults')
    → (IsFaithful own state → reads' ≤ reads + reads_asked state (asked_of request.first request.source))
    → AnswersTo before.limits state request answered out reads reads' before.stored after content' image image' from to past since faults faults'
unfolding step
answers_to own before after state request answered out reads reads' content' image image' from to past since faults faults' same f answers few =
    let f' = subst (λ (it : EngineState). IsFaithful it state) (sym same) f in
    let a = answers f' in
    subst (λ (it : EngineState). AnswersTo it.limits state request answered out reads reads' it.stored after content' image image' from to past since faults faults') same
    (record { sizes = a.sizes; answers = a.answers; are = a.are; few = few f'; stores = a.stores; cause = a.cause })

-- what is asked for is answered as the action that it is
pub action_answer : (own before after : EngineState) (state : State) (asked other : Asked) (answered : Answered) (out : List ℕ) (content' : Option (List ℕ)) (image image' : List ℕ → Type 0) (from to : ℕ)
    (past since : ℕ → List ℕ → Type 0) (faults faults' : ℕ) → own ≡ before → asked ≡ other → IsFaithful before state
    → (IsFaithful own state → AnswersAsked own.limits state other answered out own.stored after content' image image' from to past since faults faults')
    → AnswersAsked before.limits state asked answered out before.stored after content' image image' from to past since faults faults'
action_answer own before after state asked other answered out content' image image' from to past since faults faults' same is f answers =
    subst (λ (it : Asked). AnswersAsked before.limits state it answered out before.stored after content' image image' from to past since faults faults') (sym is)
    (subst (λ (it : EngineState). AnswersAsked it.limits state other answered out it.stored after content' image image' from to past since faults faults') same
    (answers (subst (λ (it : EngineState). IsFaithful it state) (sym same) f)))

-- where there was no memory, nothing of what stands in the buffer is taken
pub cleared : (limits : Limits) (state : State) (asked : Asked) (out out' : List ℕ) (stored : StoreState) (kept : EngineState) (content' : Option (List ℕ)) (image image' : List ℕ → Type 0) (from to : ℕ)
    (past since : ℕ → List ℕ → Type 0) (faults faults' : ℕ) → AnswersAsked limits state asked NoMemory out stored kept content' image image' from to past since faults faults'
    → AnswersAsked limits state asked NoMemory out' stored kept content' image image' from to past since faults faults'
cleared limits state asked out out' stored kept content' image image' from to past since faults faults' a = record {
  sizes = a.sizes;
  answers = record { reply = a.answers.reply; after = a.answers.after; may = a.answers.may; faithful = a.answers.faithful; told = a.answers.told; text = a.answers.text };
  are = a.are;
  stores = a.stores;
  cause = a.cause;
}
