-- Lines that were served, and whose answers were printed, one after the other.
use Rattle.std.proofs.Common.{◌≡◌, ℕ, ◌+◌, ◌<◌, ◌≤◌, suc, Bool, true, false, List, [], ◌∷◌, ◌++◌, length, take, drop, get_or, refl, ap, ◌∙◌, sym, subst, drop-cons, append-nil, append_assoc, Option, Some, None}
use Rattle.std.specs.Prelude.{◌||◌, Vec, IfSome, IsSomeAnd, Result, Ok, Err}
use Rattle.text_commands.proofs.Common.{Global, take-append-drop, take_more, Files, Loads, grown, GrowsByPart, Status, LoadError, ReadsText, calls_of, JobError, CallLine, Request, Reply, Stop, State, Step, reply_lines, stop_lines, stop_status, is_refusal, bad_line_text, Taken, World, Prints, Tells, IsText, IsPutFault, whole_status, grown-twice, grown-nothing, Serves, MissesText, PutsLines, LoadsText, RoundGoes, AtRequest, AtAnswer, call_text, Round, AreRounds, lines_of, course_of, rounds_lines, has_refused, IsRound, Breaks, AtStop, AtPut, Through, Broken, EndStopped, ServesLines, ServesParsed, ServesCalls, There, Missing, TooLong, Faulty, Starved, IsCallOf, LineGoes, HasServed, HasBroken, Serving, ServesOrStarves, AsParsed, Starving, EndsAs, InWhole, AtStore}
use Rattle.flop_base.specs.declared.answers.Status.TheVariants as status
use Rattle.flop_base.specs.declared.answers.LoadError.TheVariants as load
use Rattle.floppy_jobs.specs.declared.lines.JobError.TheVariants as error
use Rattle.floppy_jobs.specs.declared.calls.CallLine.TheVariants as call
use Rattle.sector_model.specs.Steps.{StopsAt}
use Rattle.bios_int13.specs.declared.regs.Regs.{Regs}
use Rattle.text_commands.specs.CallRounds.{DoesLine}

-- ---- One line.

abbrev asked_line : Request → Reply → ℕ → State → Round
asked_line asked answer kept after = record {
  line = call.Job asked;
  course = record { asked = asked; answer = answer; after = after } ∷ [];
  lines = reply_lines asked answer;
  refused = is_refusal answer;
  kept = kept;
  after = after;
}

asked_round : (kept : ℕ) (asked : Request) (answer : Reply) (refused : Bool) (old new : World) → Step asked old.state old.files answer new.state new.files → new.report ≡ grown old.report (reply_lines asked answer) → refused ≡ is_refusal answer → IsRound kept (call.Job asked) old refused new kept
asked_round kept asked answer refused old new step report is = record {
  round = asked_line asked answer kept new.state;
  line_is = refl;
  does = record { answer = answer; step = step; course_is = refl; lines_are = refl; is_refused = refl; keeps = refl };
  after = refl;
  keeps = refl;
  report = report;
  is_refused = is;
}

asked_cut : (kept : ℕ) (asked : Request) (answer : Reply) (old new : World) (ended : Status) → Step asked old.state old.files answer new.state new.files → GrowsByPart old.report (reply_lines asked answer) new.report → IsPutFault ended → (last : List Taken) × Breaks kept (call.Job asked) old last new ended
asked_cut kept asked answer old new ended step part fault =
    ((asked_line asked answer kept new.state).course, AtPut (asked_line asked answer kept new.state) (record { answer = answer; step = step; course_is = refl; lines_are = refl; is_refused = refl; keeps = refl }) refl refl part fault)

asked_stop : (kept : ℕ) (asked : Request) (cause : Stop) (old new : World) (ended : Status) → StopsAt asked old.state old.files cause new.state new.files → Prints (stop_lines cause) (stop_status cause) old.report new.report ended → (last : List Taken) × Breaks kept (call.Job asked) old last new ended
asked_stop kept asked cause old new ended stops prints = ([], AtStop asked cause refl refl stops prints)

-- a request among the lines was run as in a batch job
pub job_line : (asked : Request) (kept : ℕ) (old new : World) (result : Result Bool Status) → RoundGoes asked old result new → LineGoes kept kept (call.Job asked) old result new
job_line asked kept old new (Ok refused) round = asked_round kept asked round.answer refused old new round.step round.report round.is_refused
job_line asked kept old new (Err ended) (AtRequest cause stops prints) = asked_stop kept asked cause old new ended stops prints
job_line asked kept old new (Err ended) (AtAnswer answer step part fault) = asked_cut kept asked answer old new ended step part fault

abbrev served_line : CallLine → Regs → List Taken → ℕ → State → Round
served_line line answered course kept after = record {
  line = line;
  course = course;
  lines = call_text answered ∷ [];
  refused = answered.carry;
  kept = kept;
  after = after;
}

served_does : (line : CallLine) (regs : Regs) (kept kept_after : ℕ) (old new : World) (answered : Regs) (course : List Taken) → IsCallOf regs line → Serves kept regs old.state old.files answered kept_after course new.state → new.files ≡ old.files → DoesLine line kept old.state old.files (served_line line answered course kept_after new.state) new.files
served_does (call.Job asked) regs kept kept_after old new answered course is serves files = absurd is
served_does (call.Call ax bx cx dx es) regs kept kept_after old new answered course is serves files = record {
  answered = answered;
  serves = subst (λ (r : Regs). Serves kept r old.state old.files answered kept_after course new.state) is serves;
  lines_are = refl;
  is_refused = refl;
  files = files;
}

served_round : (line : CallLine) (regs : Regs) (kept kept_after : ℕ) (old new : World) (answered : Regs) → IsCallOf regs line → ((course : List Taken) × Serves kept regs old.state old.files answered kept_after course new.state) → new.files ≡ old.files → new.report ≡ grown old.report (call_text answered ∷ []) → IsRound kept line old answered.carry new kept_after
served_round line regs kept kept_after old new answered is serves files report = record {
  round = served_line line answered serves.0 kept_after new.state;
  line_is = refl;
  does = served_does line regs kept kept_after old new answered serves.0 is serves.1 files;
  after = refl;
  keeps = refl;
  report = report;
  is_refused = refl;
}

served_cut : (line : CallLine) (regs : Regs) (kept kept_after : ℕ) (old new : World) (answered : Regs) (ended : Status) → IsCallOf regs line → ((course : List Taken) × Serves kept regs old.state old.files answered kept_after course new.state) → new.files ≡ old.files → GrowsByPart old.report (call_text answered ∷ []) new.report → IsPutFault ended → (last : List Taken) × Breaks kept line old last new ended
served_cut line regs kept kept_after old new answered ended is serves files part fault =
    (serves.0, AtPut (served_line line answered serves.0 kept_after new.state) (served_does line regs kept kept_after old new answered serves.0 is serves.1 files) refl refl part fault)

-- a call was served, and its line printed whole
pub told_call : (line : CallLine) (regs : Regs) (kept kept_after : ℕ) (old mid new : World) (answered : Regs) → IsCallOf regs line → ((course : List Taken) × Serves kept regs old.state old.files answered kept_after course mid.state) → mid.files ≡ old.files → mid.report ≡ old.report → PutsLines (call_text answered ∷ []) mid (Ok tt) new → IsRound kept line old answered.carry new kept_after
told_call line regs kept kept_after old mid new answered is serves files report put =
    served_round line regs kept kept_after old new answered is
    (subst (λ (s : State). (course : List Taken) × Serves kept regs old.state old.files answered kept_after course s) (sym put.state) serves)
    (put.files ∙ files) (put.report ∙ ap (λ (r : Option (List (List ℕ))). grown r (call_text answered ∷ [])) report)

-- a call was served, and a part of its line was printed
pub cut_call : (line : CallLine) (regs : Regs) (kept kept_after : ℕ) (old mid new : World) (answered : Regs) (ended : Status) → IsCallOf regs line → ((course : List Taken) × Serves kept regs old.state old.files answered kept_after course mid.state) → mid.files ≡ old.files → mid.report ≡ old.report → PutsLines (call_text answered ∷ []) mid (Err ended) new → (last : List Taken) × Breaks kept line old last new ended
cut_call line regs kept kept_after old mid new answered ended is serves files report put =
    served_cut line regs kept kept_after old new answered ended is
    (subst (λ (s : State). (course : List Taken) × Serves kept regs old.state old.files answered kept_after course s) (sym put.0.state) serves)
    (put.0.files ∙ files) (subst (λ (r : Option (List (List ℕ))). GrowsByPart r (call_text answered ∷ []) new.report) report put.0.report) put.1

-- ---- One line more.

rounds_more : (kept : ℕ) (old : State) (told : Option Files) (rounds : List Round) (kept_mid : ℕ) (mid : State) (mid_told : Option Files) (round : Round) (after : Option Files) → AreRounds kept old told rounds kept_mid mid mid_told → DoesLine round.line kept_mid mid mid_told round after → AreRounds kept old told (rounds ++ round ∷ []) round.kept round.after after
rounds_more kept old told [] kept_mid mid mid_told round after so_far does =
    let a = subst (λ (k : ℕ). DoesLine round.line k mid mid_told round after) so_far.0 does in
    let b = subst (λ (s : State). DoesLine round.line kept s mid_told round after) so_far.1 a in
    let c = subst (λ (f : Option Files). DoesLine round.line kept old f round after) so_far.2 b in
    (after, c, (refl, refl, refl))
rounds_more kept old told (first ∷ later) kept_mid mid mid_told round after so_far does =
    (so_far.0, so_far.1, rounds_more first.kept first.after so_far.0 later kept_mid mid mid_told round after so_far.2 does)

lines_more : (rounds : List Round) (round : Round) → lines_of (rounds ++ round ∷ []) ≡ lines_of rounds ++ round.line ∷ []
lines_more [] round = refl
lines_more (first ∷ later) round = ap (λ (rest : List CallLine). first.line ∷ rest) (lines_more later round)

text_more : (rounds : List Round) (round : Round) → rounds_lines (rounds ++ round ∷ []) ≡ rounds_lines rounds ++ round.lines
text_more [] round = append-nil round.lines
text_more (first ∷ later) round =
    ap (λ (rest : List (List ℕ)). first.lines ++ rest) (text_more later round) ∙ sym (append_assoc first.lines (rounds_lines later) round.lines)

or-false : (b : Bool) → (b || false) ≡ b
or-false true = refl
or-false false = refl

or-moves : (a b c : Bool) → (a || (b || c)) ≡ ((a || b) || c)
or-moves true b c = refl
or-moves false b c = refl

refused_more : (rounds : List Round) (round : Round) → has_refused (rounds ++ round ∷ []) ≡ (has_refused rounds || round.refused)
refused_more [] round = or-false round.refused
refused_more (first ∷ later) round =
    ap (λ (rest : Bool). first.refused || rest) (refused_more later round) ∙ or-moves first.refused (has_refused later) round.refused

-- no line was served
pub served_none : (old : World) (kept : ℕ) → kept ≡ 0 → HasServed [] old false kept old
served_none old kept is = record { rounds = []; served = record { served = (is, refl, refl); all = refl; report = sym (grown-nothing old.report) }; is_refused = refl }

served_more : (old mid new : World) (lines : List CallLine) (line : CallLine) (refused refusal : Bool) (kept kept_after : ℕ) → HasServed lines old refused kept mid → IsRound kept line mid refusal new kept_after → HasServed (lines ++ line ∷ []) old (refused || refusal) kept_after new
served_more old mid new lines line refused refusal kept kept_after so_far is =
    let round : Round = is.round in
    let does : DoesLine round.line kept mid.state mid.files round new.files = subst (λ (l : CallLine). DoesLine l kept mid.state mid.files round new.files) (sym is.line_is) is.does in
    let more : AreRounds 0 old.state old.files (so_far.rounds ++ round ∷ []) round.kept round.after new.files = rounds_more 0 old.state old.files so_far.rounds kept mid.state mid.files round new.files so_far.served.served does in
    record {
      rounds = so_far.rounds ++ round ∷ [];
      served = record {
        served = subst (λ (k : ℕ). AreRounds 0 old.state old.files (so_far.rounds ++ round ∷ []) k new.state new.files) is.keeps (subst (λ (s : State). AreRounds 0 old.state old.files (so_far.rounds ++ round ∷ []) round.kept s new.files) is.after more);
        all = ap (λ (before : List CallLine). before ++ line ∷ []) so_far.served.all ∙ ap (λ (l : CallLine). lines_of so_far.rounds ++ l ∷ []) (sym is.line_is) ∙ sym (lines_more so_far.rounds round);
        report = is.report ∙ ap (λ (r : Option (List (List ℕ))). grown r round.lines) so_far.served.report ∙ grown-twice old.report (rounds_lines so_far.rounds) round.lines ∙ ap (grown old.report) (sym (text_more so_far.rounds round));
      };
      is_refused = ap (λ (b : Bool). b || refusal) so_far.is_refused ∙ ap (λ (b : Bool). has_refused so_far.rounds || b) is.is_refused ∙ sym (refused_more so_far.rounds round);
    }

-- all lines up to one more were served
pub served_next : (old mid new : World) (lines : List CallLine) (i : ℕ) (line : CallLine) (refused refusal now : Bool) (kept kept_after : ℕ) → HasServed (take i lines) old refused kept mid → IsRound kept line mid refusal new kept_after → i < length lines → line ≡ get_or lines i line → now ≡ (refused || refusal) → HasServed (take (i + 1) lines) old now kept_after new
served_next old mid new lines i line refused refusal now kept kept_after so_far round within item either =
    let one : take (i + 1) lines ≡ take i lines ++ line ∷ [] = take_more lines i line within ∙ ap (λ (r : CallLine). take i lines ++ r ∷ []) (sym item) in
    subst (λ (b : Bool). HasServed (take (i + 1) lines) old b kept_after new) (sym either) (subst (λ (rs : List CallLine). HasServed rs old (refused || refusal) kept_after new) (sym one) (served_more old mid new (take i lines) line refused refusal kept kept_after so_far round))

-- a run that broke off at a line
pub broken : (old mid new : World) (lines : List CallLine) (i : ℕ) (line : CallLine) (refused : Bool) (kept : ℕ) (ended : Status) → HasServed (take i lines) old refused kept mid → i < length lines → line ≡ get_or lines i line → ((last : List Taken) × Breaks kept line mid last new ended) → HasBroken lines old new ended
broken old mid new lines i line refused kept ended so_far within item breaks = (
  course_of so_far.rounds ++ breaks.0,
  record {
    rounds = so_far.rounds;
    mid = mid;
    kept = kept;
    done = take i lines;
    line = line;
    later = drop (suc i) lines;
    last = breaks.0;
    parts = sym (take-append-drop i lines) ∙ ap (λ (rest : List CallLine). take i lines ++ rest) (drop-cons lines i line within ∙ ap (λ (r : CallLine). r ∷ drop (suc i) lines) (sym item));
    served = so_far.served;
    breaks = breaks.1;
    course_is = refl;
  },
)

pub broken_serving : (old new : World) (lines : List CallLine) (ended : Status) → HasBroken lines old new ended → Serving lines old new ended
broken_serving old new lines ended p = (p.0, Broken p.1)

-- all lines were served, and then the end came
pub served_ends : (old mid new : World) (lines : List CallLine) (refused : Bool) (ended : Status) → ((kept : ℕ) × HasServed lines old refused kept mid) → new.report ≡ mid.report → EndsAs refused mid.state mid.files new.state new.files ended → Serving lines old new ended
served_ends old mid new lines refused ended so_far report (InWhole ends whole) = (
  course_of so_far.1.rounds,
  Through (record {
    rounds = so_far.1.rounds;
    mid = mid;
    kept = so_far.0;
    served = so_far.1.served;
    stored = ends;
    report = report;
    status = whole ∙ ap whole_status so_far.1.is_refused;
    course_is = refl;
  }),
)
served_ends old mid new lines refused ended so_far report (AtStore cause only stops at) = (
  course_of so_far.1.rounds,
  EndStopped (record {
    rounds = so_far.1.rounds;
    mid = mid;
    kept = so_far.0;
    cause = cause;
    served = so_far.1.served;
    only = only;
    stops = stops;
    report = report;
    status = at;
    course_is = refl;
  }),
)

-- ---- A text.

pub parsed_serves : (old new : World) (text : List ℕ) (given lines : List CallLine) (ended : Status) → calls_of text ≡ Ok lines → given ≡ lines → Serving given old new ended → ServesOrStarves text old new ended
parsed_serves old new text given lines ended spelled same serving =
    AsParsed serving.0
    (subst (λ (parsed : Result (List CallLine) ℕ). ServesParsed parsed old serving.0 new ended) (sym spelled)
    (subst (λ (ls : List CallLine). ServesLines ls old serving.0 new ended) same serving.1))

pub read_bad : {A : Type 0} (items : A → List CallLine) (cause : JobError) (said : Result (List CallLine) ℕ) (line : ℕ) → ReadsText items (Err cause) said → cause ≡ error.BadLine line → said ≡ Err line
read_bad items cause said line reads is = subst (λ (e : JobError). ReadsText items (Err e) said) is reads

pub unparsed_tells : (old new : World) (text : List ℕ) (line : ℕ) (ended : Status) → calls_of text ≡ Err line → Tells (bad_line_text line) status.BadJob old new ended → ServesOrStarves text old new ended
unparsed_tells old new text line ended spelled tells =
    AsParsed []
    (subst (λ (parsed : Result (List CallLine) ℕ). ServesParsed parsed old [] new ended) (sym spelled) (record { nothing = refl; tells = tells }))

as_text : (old new : World) (name text : List ℕ) (ended : Status) → IsText old.files name text → ServesOrStarves text old new ended → (course : List Taken) × ServesCalls name old course new ended
as_text old new name text ended told (AsParsed course serves) = (course, There (record { text = text; told = told; serves = serves }))
as_text old new name text ended told (Starving idle) = ([], Starved refl idle)

loaded_text : (told : Option Files) (name : List ℕ) (bytes : Vec ℕ Global) → IfSome told (λ files. Loads files name 4194304 (Ok bytes)) → IsText told name bytes.items
loaded_text None name bytes loads = tt
loaded_text (Some files) name bytes loads = subst (λ (found : Option (List ℕ)). IsSomeAnd found (λ b. (b ≡ bytes.items) × (length b ≤ 4194304))) (sym loads.0) (refl, loads.1)

abbrev world : State → Option Files → Option (List (List ℕ)) → World
world state files report = record { state = state; files = files; report = report }

-- how the text of a file that was loaded is served
pub text_serves : (old mid new : World) (name text : List ℕ) (bytes : Vec ℕ Global) (ended : Status) → LoadsText name 4194304 old (Ok bytes) mid → text ≡ bytes.items → ServesOrStarves text mid new ended → (course : List Taken) × ServesCalls name old course new ended
text_serves old mid new name text bytes ended loaded same serves =
    as_text old new name bytes.items ended (loaded_text old.files name bytes loaded.1)
    (subst (λ (w : World). ServesOrStarves bytes.items w new ended) loaded.0
    (subst (λ (read : List ℕ). ServesOrStarves read mid new ended) same serves))

-- a run whose text wasn't loaded
as_missed : (told : Option Files) (state : State) (report after : Option (List (List ℕ))) (name : List ℕ) (cause : LoadError) (ended : Status) → IfSome told (λ files. Loads files name 4194304 (Err cause)) → MissesText cause name report after ended → (course : List Taken) × ServesCalls name (world state told report) course (world state told after) ended
as_missed None state report after name load.Absent ended loads missed = ([], Missing tt (record { nothing = refl; tells = record { state = refl; files = refl; prints = missed } }))
as_missed (Some files) state report after name load.Absent ended loads missed = ([], Missing loads (record { nothing = refl; tells = record { state = refl; files = refl; prints = missed } }))
as_missed None state report after name load.TooLong ended loads missed = ([], TooLong tt (record { nothing = refl; tells = record { state = refl; files = refl; prints = missed } }))
as_missed (Some files) state report after name load.TooLong ended loads missed = ([], TooLong loads (record { nothing = refl; tells = record { state = refl; files = refl; prints = missed } }))
as_missed told state report after name load.Failed ended loads missed = ([], Faulty refl (record { same = ap (world state told) missed.0; status = missed.1 }))
as_missed told state report after name load.NoMemory ended loads missed = ([], Starved refl (record { same = ap (world state told) missed.0; status = missed.1 }))

-- how a text that wasn't loaded is served
pub missed_serves : (old new : World) (name : List ℕ) (ended : Status) → LoadsText name 4194304 old (Err ended) new → (course : List Taken) × ServesCalls name old course new ended
missed_serves old new name ended missed =
    let told = missed.2 in
    subst (λ (s : State). (course : List Taken) × ServesCalls name old course (world s new.files new.report) ended) (sym told.state)
    (subst (λ (f : Option Files). (course : List Taken) × ServesCalls name old course (world old.state f new.report) ended) (sym told.files)
    (as_missed old.files old.state old.report new.report name missed.0 ended missed.1 told.report))
