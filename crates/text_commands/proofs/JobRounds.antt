-- Requests that were run, and whose answers were printed, one after the other.
use Rattle.std.proofs.Common.{◌≡◌, ℕ, ◌+◌, ◌<◌, ◌≤◌, suc, Bool, false, List, [], ◌∷◌, ◌++◌, length, take, drop, get_or, refl, ap, ◌∙◌, sym, subst, drop-cons, Option, Some, None}
use Rattle.std.specs.Prelude.{◌||◌}
use Rattle.text_commands.proofs.Common.{take-append-drop, take_more, Files, grown, GrowsByPart, Status, Global, Loads, LoadError, ReadsText, parsed_of, JobError, Request, IsRequest, HasTries, Reply, State, Step, reply_lines, stop_lines, stop_status, bad_line_text, is_refusal, Taken, course_lines, has_refusal, World, PlaysRequests, Played, Prints, Tells, IsText, whole_status, world, HasRun, HasPlayed, PlaysOrStarves, EndsAs, InWhole, AtStore, run_more, requests_more, text_more, refusal_more, MissesText, AsksOne, PutsLines, LoadsText, grown-twice, grown-nothing}
use Rattle.flop_base.specs.declared.answers.Status.TheVariants as status
use Rattle.std.specs.Prelude.{Vec, IfSome, IsSomeAnd, Result, Ok, Err}
use Rattle.flop_base.specs.declared.answers.LoadError.TheVariants as load
use Rattle.floppy_jobs.specs.declared.lines.JobError.TheVariants as lines
use Rattle.floppy_jobs.specs.declared.request.Request.TheVariants as request
use Rattle.sector_model.specs.Plays.{PlaysParsed, Stopped, BrokenOff, EndStopped, Plays, There, Missing, TooLong, Faulty, Starved}
use Rattle.text_commands.specs.JobRounds.{IsRound, Breaks, AtStop, AtPut, AsParsed, Starving}
use Rattle.flop_base.specs.declared.answers.NoMemory.{NoMemory}

-- ---- One request.

step_to : (asked : Request) (answer : Reply) (old mid new : World) → Step asked old.state old.files answer mid.state mid.files → new.state ≡ mid.state → new.files ≡ mid.files → Step asked old.state old.files answer new.state new.files
step_to asked answer old mid new step state files =
    subst (λ (s : State). Step asked old.state old.files answer s new.files) (sym state)
    (subst (λ (f : Option Files). Step asked old.state old.files answer mid.state f) (sym files) step)

-- a request was answered, and its answer printed whole
pub told_round : (asked : Request) (answer : Reply) (refused : Bool) (old mid new : World) → AsksOne asked old (Ok answer) mid → PutsLines (reply_lines asked answer) mid (Ok tt) new → refused ≡ is_refusal answer → IsRound asked old refused new
told_round asked answer refused old mid new asks put is = record {
  answer = answer;
  step = step_to asked answer old mid new asks.0 put.state put.files;
  report = put.report ∙ ap (λ (r : Option (List (List ℕ))). grown r (reply_lines asked answer)) asks.1;
  is_refused = is;
}

-- a request was answered, and its answer couldn't be printed whole
pub told_cut : (asked : Request) (answer : Reply) (old mid new : World) (ended : Status) → AsksOne asked old (Ok answer) mid → PutsLines (reply_lines asked answer) mid (Err ended) new → Breaks asked old new ended
told_cut asked answer old mid new ended asks put =
    AtPut answer (step_to asked answer old mid new asks.0 put.0.state put.0.files)
    (subst (λ (r : Option (List (List ℕ))). GrowsByPart r (reply_lines asked answer) new.report) asks.1 put.0.report) put.1

-- a request stopped the run
pub told_stop : (asked : Request) (old new : World) (ended : Status) → AsksOne asked old (Err ended) new → Breaks asked old new ended
told_stop asked old new ended stopped = AtStop stopped.0 stopped.1 stopped.2

-- ---- All requests.

-- no request was run
pub has-run-none : (old : World) → HasRun [] old false old
has-run-none old = record { course = []; run = (refl, refl); all = refl; report = sym (grown-nothing old.report); is_refused = refl }

-- one request more was run
pub has-run-more : (old mid new : World) (requests : List Request) (asked : Request) (refused refusal : Bool) → HasRun requests old refused mid → IsRound asked mid refusal new → HasRun (requests ++ asked ∷ []) old (refused || refusal) new
has-run-more old mid new requests asked refused refusal so_far round =
    let taken : Taken = record { asked = asked; answer = round.answer; after = new.state } in
    record {
      course = so_far.course ++ taken ∷ [];
      run = run_more old.state mid.state old.files mid.files new.files so_far.course taken so_far.run round.step;
      all = ap (λ (before : List Request). before ++ asked ∷ []) so_far.all ∙ sym (requests_more so_far.course taken);
      report = round.report ∙ ap (λ (r : Option (List (List ℕ))). grown r (reply_lines asked round.answer)) so_far.report ∙ grown-twice old.report (course_lines so_far.course) (reply_lines asked round.answer) ∙ ap (grown old.report) (sym (text_more so_far.course taken));
      is_refused = ap (λ (b : Bool). b || refusal) so_far.is_refused ∙ ap (λ (b : Bool). has_refusal so_far.course || b) round.is_refused ∙ sym (refusal_more so_far.course taken);
    }

-- all requests up to one more were run
pub has-run-next : (old mid new : World) (requests : List Request) (i : ℕ) (asked : Request) (refused refusal now : Bool) → HasRun (take i requests) old refused mid → IsRound asked mid refusal new → i < length requests → asked ≡ get_or requests i asked → now ≡ (refused || refusal) → HasRun (take (i + 1) requests) old now new
has-run-next old mid new requests i asked refused refusal now so_far round within item either =
    let one : take (i + 1) requests ≡ take i requests ++ asked ∷ [] = take_more requests i asked within ∙ ap (λ (r : Request). take i requests ++ r ∷ []) (sym item) in
    subst (λ (b : Bool). HasRun (take (i + 1) requests) old b new) (sym either) (subst (λ (rs : List Request). HasRun rs old (refused || refusal) new) (sym one) (has-run-more old mid new (take i requests) asked refused refusal so_far round))

-- the requests before one, this request, and those after it are all
pub parted : (requests : List Request) (i : ℕ) (asked : Request) → i < length requests → asked ≡ get_or requests i asked → requests ≡ take i requests ++ asked ∷ drop (suc i) requests
parted requests i asked within item =
    sym (take-append-drop i requests) ∙ ap (λ (rest : List Request). take i requests ++ rest) (drop-cons requests i asked within ∙ ap (λ (r : Request). r ∷ drop (suc i) requests) (sym item))

-- a play that broke off at a request
pub broken : (old mid new : World) (requests : List Request) (i : ℕ) (asked : Request) (refused : Bool) (ended : Status) → HasRun (take i requests) old refused mid → i < length requests → asked ≡ get_or requests i asked → Breaks asked mid new ended → HasPlayed requests old new ended
broken old mid new requests i asked refused ended so_far within item (AtStop cause stops prints) = (
  so_far.course,
  Stopped (record {
    asked = asked;
    later = drop (suc i) requests;
    mid = mid.state;
    files = mid.files;
    cause = cause;
    run = so_far.run;
    all = parted requests i asked within item ∙ ap (λ (before : List Request). before ++ asked ∷ drop (suc i) requests) so_far.all;
    stops = stops;
    prints = subst (λ (r : Option (List (List ℕ))). Prints (stop_lines cause) (stop_status cause) r new.report ended) so_far.report prints;
  }),
)
broken old mid new requests i asked refused ended so_far within item (AtPut answer step part fault) =
    let last : Taken = record { asked = asked; answer = answer; after = new.state } in (
      so_far.course ++ last ∷ [],
      BrokenOff (record {
        before = so_far.course;
        last = last;
        later = drop (suc i) requests;
        mid = mid.state;
        files = mid.files;
        run = so_far.run;
        step = step;
        after = refl;
        course_is = refl;
        all = parted requests i asked within item ∙ ap (λ (before : List Request). before ++ asked ∷ drop (suc i) requests) so_far.all;
        part = subst (λ (r : Option (List (List ℕ))). GrowsByPart r (reply_lines asked answer) new.report) so_far.report part;
        fault = fault;
      }),
    )

-- all requests were run, and then the end came
pub run-ends : (old mid new : World) (requests : List Request) (refused : Bool) (ended : Status) → HasRun requests old refused mid → new.report ≡ mid.report → EndsAs refused mid.state mid.files new.state new.files ended → HasPlayed requests old new ended
run-ends old mid new requests refused ended so_far report (InWhole ends whole) = (
  so_far.course,
  Played (record {
    mid = mid.state;
    files = mid.files;
    run = so_far.run;
    all = so_far.all;
    stored = ends;
    report = report ∙ so_far.report;
    status = whole ∙ ap whole_status so_far.is_refused;
  }),
)
run-ends old mid new requests refused ended so_far report (AtStore cause only stops at) = (
  so_far.course,
  EndStopped (record {
    mid = mid.state;
    files = mid.files;
    cause = cause;
    run = so_far.run;
    all = so_far.all;
    only = only;
    stops = stops;
    report = report ∙ so_far.report;
    status = at;
  }),
)

-- a parser gives a number of attempts from 1 to 10
has_tries : (asked : Request) → IsRequest asked → HasTries asked
has_tries (request.Tries tries) valid = valid
has_tries _ valid = tt

-- how a text is played that spells requests
pub parsed_plays : (old new : World) (text : List ℕ) (given requests : List Request) (ended : Status) → parsed_of text ≡ Ok requests → given ≡ requests → HasPlayed given old new ended → PlaysOrStarves text old new ended
parsed_plays old new text given requests ended spelled same played =
    AsParsed played.0
    (subst (λ (parsed : Result (List Request) ℕ). PlaysParsed parsed old played.0 new ended) (sym spelled)
    (subst (λ (rs : List Request). PlaysRequests rs old played.0 new ended) same played.1))

-- what the reading of a text with a bad line answered
pub read_bad : {A : Type 0} (items : A → List Request) (error : JobError) (said : Result (List Request) ℕ) (line : ℕ) → ReadsText items (Err error) said → error ≡ lines.BadLine line → said ≡ Err line
read_bad items error said line reads is = subst (λ (e : JobError). ReadsText items (Err e) said) is reads

-- how a text with a bad line is played
pub unparsed_tells : (old new : World) (text : List ℕ) (line : ℕ) (ended : Status) → parsed_of text ≡ Err line → Tells (bad_line_text line) status.BadJob old new ended → PlaysOrStarves text old new ended
unparsed_tells old new text line ended spelled tells =
    AsParsed []
    (subst (λ (parsed : Result (List Request) ℕ). PlaysParsed parsed old [] new ended) (sym spelled) (record { nothing = refl; tells = tells }))

-- how a text that was read is played
pub as_text : (old new : World) (job text : List ℕ) (ended : Status) → IsText old.files job text → PlaysOrStarves text old new ended → (course : List Taken) × Plays job old course new ended
as_text old new job text ended told (AsParsed course plays) = (course, There (record { text = text; told = told; plays = plays }))
as_text old new job text ended told (Starving idle) = ([], Starved refl idle)

-- a text that was loaded is the text of the told file
pub loaded_text : (told : Option Files) (job : List ℕ) (bytes : Vec ℕ Global) → IfSome told (λ files. Loads files job 4194304 (Ok bytes)) → IsText told job bytes.items
loaded_text None job bytes loads = tt
loaded_text (Some files) job bytes loads = subst (λ (found : Option (List ℕ)). IsSomeAnd found (λ b. (b ≡ bytes.items) × (length b ≤ 4194304))) (sym loads.0) (refl, loads.1)

-- a play of a batch job whose text wasn't loaded
as_missed : (told : Option Files) (state : State) (report after : Option (List (List ℕ))) (job : List ℕ) (error : LoadError) (ended : Status) → IfSome told (λ files. Loads files job 4194304 (Err error)) → MissesText error job report after ended → (course : List Taken) × Plays job (world state told report) course (world state told after) ended
as_missed None state report after job load.Absent ended loads missed = ([], Missing tt (record { nothing = refl; tells = record { state = refl; files = refl; prints = missed } }))
as_missed (Some files) state report after job load.Absent ended loads missed = ([], Missing loads (record { nothing = refl; tells = record { state = refl; files = refl; prints = missed } }))
as_missed None state report after job load.TooLong ended loads missed = ([], TooLong tt (record { nothing = refl; tells = record { state = refl; files = refl; prints = missed } }))
as_missed (Some files) state report after job load.TooLong ended loads missed = ([], TooLong loads (record { nothing = refl; tells = record { state = refl; files = refl; prints = missed } }))
as_missed told state report after job load.Failed ended loads missed = ([], Faulty refl (record { same = ap (world state told) missed.0; status = missed.1 }))
as_missed told state report after job load.NoMemory ended loads missed = ([], Starved refl (record { same = ap (world state told) missed.0; status = missed.1 }))

-- a play of a text that was loaded
pub text_plays : (old mid new : World) (job text : List ℕ) (bytes : Vec ℕ Global) (ended : Status) → LoadsText job 4194304 old (Ok bytes) mid → text ≡ bytes.items → PlaysOrStarves text mid new ended → (course : List Taken) × Plays job old course new ended
text_plays old mid new job text bytes ended loaded same plays =
    as_text old new job bytes.items ended (loaded_text old.files job bytes loaded.1)
    (subst (λ (w : World). PlaysOrStarves bytes.items w new ended) loaded.0
    (subst (λ (read : List ℕ). PlaysOrStarves read mid new ended) same plays))

-- a play of a text that wasn't loaded
pub missed_plays : (old new : World) (job : List ℕ) (ended : Status) → LoadsText job 4194304 old (Err ended) new → (course : List Taken) × Plays job old course new ended
missed_plays old new job ended missed =
    let told = missed.2 in
    subst (λ (s : State). (course : List Taken) × Plays job old course (world s new.files new.report) ended) (sym told.state)
    (subst (λ (f : Option Files). (course : List Taken) × Plays job old course (world old.state f new.report) ended) (sym told.files)
    (as_missed old.files old.state old.report new.report job missed.0 ended missed.1 told.report))
