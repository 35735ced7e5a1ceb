-- Lines that were done, and whose answers were printed, one after the other.
use Rattle.std.proofs.Common.{◌≡◌, ℕ, ◌+◌, ◌<◌, ◌≤◌, suc, Bool, true, false, List, [], ◌∷◌, ◌++◌, length, take, drop, get_or, refl, ap, ◌∙◌, sym, subst, drop-cons, append-nil, append_assoc, Option, Some, None}
use Rattle.std.specs.Prelude.{◌||◌, Vec, IfSome, IsSomeAnd, Result, Ok, Err}
use Rattle.text_commands.proofs.Common.{Global, take-append-drop, take_more, Files, Loads, grown, GrowsByPart, LoadError, Status, ReadsText, ports_of, JobError, PortLine, grown-twice, grown-nothing, stop_lines, stop_status, bad_line_text, Prints, IsText, whole_status, Board, MissesText, Bench, Names, PortRun, DoesLine, PlaysLines, Stopped, BrokenOff, PlaysParsed, Plays}
use Rattle.flop_base.specs.declared.answers.LoadError.TheVariants as load
use Rattle.flop_base.specs.declared.answers.Status.TheVariants as status
use Rattle.floppy_jobs.specs.declared.lines.JobError.TheVariants as lines
use Rattle.text_commands.specs.PortCourses.{Taken, lines_of, course_lines, has_refusal}
use Rattle.text_commands.specs.PortLines.{is_refusal}
use Rattle.text_commands.specs.PortPlays.{World, IsRound, Breaks, AtStop, AtPut, HasRun, HasPlayed, Played, EndStopped, EndsAs, InWhole, AtStore, Tells, PlaysOrStarves, AsParsed, Starving, There, Missing, TooLong, Faulty, Starved}
use Rattle.text_commands.specs.PortTexts.{answer_lines}

-- ---- one line more at the end of a course

pub run_more : (old mid : Bench) (course : List Taken) (taken : Taken) → PortRun old course mid → DoesLine taken.asked mid taken.answer taken.after → PortRun old (course ++ taken ∷ []) taken.after
run_more old mid [] taken run does = (subst (λ (b : Bench). DoesLine taken.asked b taken.answer taken.after) run does, refl)
run_more old mid (first ∷ later) taken run does = (run.0, run_more first.after mid later taken run.1 does)

lines_more : (course : List Taken) (taken : Taken) → lines_of (course ++ taken ∷ []) ≡ lines_of course ++ taken.asked ∷ []
lines_more [] taken = refl
lines_more (first ∷ later) taken = ap (λ (rest : List PortLine). first.asked ∷ rest) (lines_more later taken)

text_more : (course : List Taken) (taken : Taken) → course_lines (course ++ taken ∷ []) ≡ course_lines course ++ answer_lines taken.asked taken.answer
text_more [] taken = append-nil (answer_lines taken.asked taken.answer)
text_more (first ∷ later) taken =
    ap (λ (rest : List (List ℕ)). answer_lines first.asked first.answer ++ rest) (text_more later taken)
    ∙ sym (append_assoc (answer_lines first.asked first.answer) (course_lines later) (answer_lines taken.asked taken.answer))

or-false : (b : Bool) → (b || false) ≡ b
or-false true = refl
or-false false = refl

or-moves : (a b c : Bool) → (a || (b || c)) ≡ ((a || b) || c)
or-moves true b c = refl
or-moves false b c = refl

refusal_more : (course : List Taken) (taken : Taken) → has_refusal (course ++ taken ∷ []) ≡ (has_refusal course || is_refusal taken.answer)
refusal_more [] taken = or-false (is_refusal taken.answer)
refusal_more (first ∷ later) taken =
    ap (λ (rest : Bool). is_refusal first.answer || rest) (refusal_more later taken)
    ∙ or-moves (is_refusal first.answer) (has_refusal later) (is_refusal taken.answer)

-- ---- runs of lines

-- no line was done
pub has-run-none : (old : World) → HasRun [] old false old
has-run-none old = record { course = []; run = refl; all = refl; report = sym (grown-nothing old.report); is_refused = refl }

-- one line more was done
has-run-more : (old mid new : World) (before : List PortLine) (asked : PortLine) (refused refusal : Bool) → HasRun before old refused mid → IsRound asked mid refusal new → HasRun (before ++ asked ∷ []) old (refused || refusal) new
has-run-more old mid new before asked refused refusal so_far round =
    let taken : Taken = record { asked = asked; answer = round.answer; after = new.bench; range = round.range } in
    record {
      course = so_far.course ++ taken ∷ [];
      run = run_more old.bench mid.bench so_far.course taken so_far.run round.does;
      all = ap (λ (first : List PortLine). first ++ asked ∷ []) so_far.all ∙ sym (lines_more so_far.course taken);
      report = round.report ∙ ap (λ (r : Option (List (List ℕ))). grown r (answer_lines asked round.answer)) so_far.report ∙ grown-twice old.report (course_lines so_far.course) (answer_lines asked round.answer) ∙ ap (grown old.report) (sym (text_more so_far.course taken));
      is_refused = ap (λ (b : Bool). b || refusal) so_far.is_refused ∙ ap (λ (b : Bool). has_refusal so_far.course || b) round.is_refused ∙ sym (refusal_more so_far.course taken);
    }

-- all lines up to one more were done
pub has-run-next : (old mid new : World) (asked_for : List PortLine) (i : ℕ) (asked : PortLine) (refused refusal now : Bool) → HasRun (take i asked_for) old refused mid → IsRound asked mid refusal new → i < length asked_for → asked ≡ get_or asked_for i asked → now ≡ (refused || refusal) → HasRun (take (i + 1) asked_for) old now new
has-run-next old mid new asked_for i asked refused refusal now so_far round within item either =
    let one : take (i + 1) asked_for ≡ take i asked_for ++ asked ∷ [] = take_more asked_for i asked within ∙ ap (λ (r : PortLine). take i asked_for ++ r ∷ []) (sym item) in
    subst (λ (b : Bool). HasRun (take (i + 1) asked_for) old b new) (sym either) (subst (λ (rs : List PortLine). HasRun rs old (refused || refusal) new) (sym one) (has-run-more old mid new (take i asked_for) asked refused refusal so_far round))

-- the lines before one, this line, and those after it are all
parted : (asked_for : List PortLine) (i : ℕ) (asked : PortLine) → i < length asked_for → asked ≡ get_or asked_for i asked → asked_for ≡ take i asked_for ++ asked ∷ drop (suc i) asked_for
parted asked_for i asked within item =
    sym (take-append-drop i asked_for) ∙ ap (λ (rest : List PortLine). take i asked_for ++ rest) (drop-cons asked_for i asked within ∙ ap (λ (r : PortLine). r ∷ drop (suc i) asked_for) (sym item))

-- a run that broke off at a line
pub broken : (old mid new : World) (asked_for : List PortLine) (i : ℕ) (asked : PortLine) (refused : Bool) (ended : Status) → HasRun (take i asked_for) old refused mid → i < length asked_for → asked ≡ get_or asked_for i asked → Breaks asked mid new ended → HasPlayed asked_for old new ended
broken old mid new asked_for i asked refused ended so_far within item (AtStop cause stops prints) = (
  so_far.course,
  Stopped (record {
    asked = asked;
    later = drop (suc i) asked_for;
    mid = mid.bench;
    cause = cause;
    run = so_far.run;
    all = parted asked_for i asked within item ∙ ap (λ (before : List PortLine). before ++ asked ∷ drop (suc i) asked_for) so_far.all;
    stops = stops;
    prints = subst (λ (r : Option (List (List ℕ))). Prints (stop_lines cause) (stop_status cause) r new.report ended) so_far.report prints;
  }),
)
broken old mid new asked_for i asked refused ended so_far within item (AtPut said tells does range part fault) =
    let last : Taken = record { asked = asked; answer = said; after = new.bench; range = range } in (
      so_far.course ++ last ∷ [],
      BrokenOff (record {
        before = so_far.course;
        last = last;
        later = drop (suc i) asked_for;
        mid = mid.bench;
        run = so_far.run;
        does = does;
        tells = tells;
        after = refl;
        course_is = refl;
        all = parted asked_for i asked within item ∙ ap (λ (before : List PortLine). before ++ asked ∷ drop (suc i) asked_for) so_far.all;
        part = subst (λ (r : Option (List (List ℕ))). GrowsByPart r (answer_lines asked said) new.report) so_far.report part;
        fault = fault;
      }),
    )

-- all lines were done, and then the end came
pub run-ends : (old mid new : World) (asked_for : List PortLine) (refused : Bool) (ended : Status) → HasRun asked_for old refused mid → new.report ≡ mid.report → EndsAs refused mid.bench new.bench ended → HasPlayed asked_for old new ended
run-ends old mid new asked_for refused ended so_far report (InWhole ends whole) = (
  so_far.course,
  Played (record {
    mid = mid.bench;
    run = so_far.run;
    all = so_far.all;
    stored = ends;
    report = report ∙ so_far.report;
    status = whole ∙ ap whole_status so_far.is_refused;
  }),
)
run-ends old mid new asked_for refused ended so_far report (AtStore cause only stops at) = (
  so_far.course,
  EndStopped (record {
    mid = mid.bench;
    cause = cause;
    run = so_far.run;
    all = so_far.all;
    only = only;
    stops = stops;
    report = report ∙ so_far.report;
    status = at;
  }),
)

-- ---- texts

-- how a text is run that spells lines
pub parsed_plays : (old new : World) (text : List ℕ) (given read : List PortLine) (ended : Status) → ports_of text ≡ Ok read → given ≡ read → HasPlayed given old new ended → (course : List Taken) × PlaysOrStarves text old course new ended
parsed_plays old new text given read ended spelled same played = (
  played.0,
  AsParsed (subst (λ (parsed : Result (List PortLine) ℕ). PlaysParsed parsed old played.0 new ended) (sym spelled)
      (subst (λ (rs : List PortLine). PlaysLines rs old played.0 new ended) same played.1)),
)

-- what the reading of a text with a bad line answered
pub read_bad : {A : Type 0} (items : A → List PortLine) (error : JobError) (said : Result (List PortLine) ℕ) (line : ℕ) → ReadsText items (Err error) said → error ≡ lines.BadLine line → said ≡ Err line
read_bad items error said line reads is = subst (λ (e : JobError). ReadsText items (Err e) said) is reads

-- how a text with a bad line is run
pub unparsed_tells : (old new : World) (text : List ℕ) (line : ℕ) (ended : Status) → ports_of text ≡ Err line → Tells (bad_line_text line) status.BadJob old new ended → (course : List Taken) × PlaysOrStarves text old course new ended
unparsed_tells old new text line ended spelled tells = (
  [],
  AsParsed (subst (λ (parsed : Result (List PortLine) ℕ). PlaysParsed parsed old [] new ended) (sym spelled) (record { nothing = refl; tells = tells })),
)

-- a text that was loaded is the text of the told file
loaded_text : (told : Option Files) (name : List ℕ) (bytes : Vec ℕ Global) → IfSome told (λ files. Loads files name 4194304 (Ok bytes)) → IsText told name bytes.items
loaded_text None name bytes loads = tt
loaded_text (Some files) name bytes loads = subst (λ (found : Option (List ℕ)). IsSomeAnd found (λ b. (b ≡ bytes.items) × (length b ≤ 4194304))) (sym loads.0) (refl, loads.1)

-- how a text that was read is run
as_text : (old new : World) (name text : List ℕ) (course : List Taken) (ended : Status) → IsText old.bench.files name text → PlaysOrStarves text old course new ended → Plays name old course new ended
as_text old new name text course ended told (AsParsed plays) = There (record { text = text; told = told; plays = plays })
as_text old new name text course ended told (Starving idle) = Starved idle

-- ---- what a file store (shelf) told

abbrev pub world_with : Board → Names → Option Files → Option (List (List ℕ)) → World
world_with board names files report = record { bench = record { board = board; names = names; files = files }; report = report }

-- a run whose text wasn't loaded
as_missed : (board : Board) (names : Names) (told : Option Files) (report after : Option (List (List ℕ))) (name : List ℕ) (error : LoadError) (ended : Status) → IfSome told (λ files. Loads files name 4194304 (Err error)) → MissesText error name report after ended → (course : List Taken) × Plays name (world_with board names told report) course (world_with board names told after) ended
as_missed board names None report after name load.Absent ended loads missed = ([], Missing tt (record { nothing = refl; tells = record { bench = refl; prints = missed } }))
as_missed board names (Some files) report after name load.Absent ended loads missed = ([], Missing loads (record { nothing = refl; tells = record { bench = refl; prints = missed } }))
as_missed board names None report after name load.TooLong ended loads missed = ([], TooLong tt (record { nothing = refl; tells = record { bench = refl; prints = missed } }))
as_missed board names (Some files) report after name load.TooLong ended loads missed = ([], TooLong loads (record { nothing = refl; tells = record { bench = refl; prints = missed } }))
as_missed board names told report after name load.Failed ended loads missed = ([], Faulty (record { nothing = refl; same = ap (world_with board names told) missed.0; status = missed.1 }))
as_missed board names told report after name load.NoMemory ended loads missed = ([], Starved (record { nothing = refl; same = ap (world_with board names told) missed.0; status = missed.1 }))

-- a run of a text whose file was loaded
pub text_plays : (board : Board) (names : Names) (told loaded : Option Files) (report : Option (List (List ℕ))) (new : World) (name text : List ℕ) (bytes : Vec ℕ Global) (ended : Status) → loaded ≡ told → text ≡ bytes.items → IfSome told (λ files. Loads files name 4194304 (Ok bytes)) → ((course : List Taken) × PlaysOrStarves text (world_with board names loaded report) course new ended) → (course : List Taken) × Plays name (world_with board names told report) course new ended
text_plays board names told loaded report new name text bytes ended stays same loads plays = (
  plays.0,
  as_text (world_with board names told report) new name bytes.items plays.0 ended (loaded_text told name bytes loads)
      (subst (λ (files : Option Files). PlaysOrStarves bytes.items (world_with board names files report) plays.0 new ended) stays
      (subst (λ (read : List ℕ). PlaysOrStarves read (world_with board names loaded report) plays.0 new ended) same plays.1)),
)

-- a run of a text whose file wasn't loaded
pub missed_plays : (board : Board) (names : Names) (told loaded : Option Files) (report after : Option (List (List ℕ))) (name : List ℕ) (error : LoadError) (ended : Status) → loaded ≡ told → IfSome told (λ files. Loads files name 4194304 (Err error)) → MissesText error name report after ended → (course : List Taken) × Plays name (world_with board names told report) course (world_with board names loaded after) ended
missed_plays board names told loaded report after name error ended stays loads missed =
    subst (λ (files : Option Files). (course : List Taken) × Plays name (world_with board names told report) course (world_with board names files after) ended) (sym stays)
    (as_missed board names told report after name error ended loads missed)
