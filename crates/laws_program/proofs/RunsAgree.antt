-- Two runs of the same requests from alike states: they answer alike as far as both go.
use Rattle.std.proofs.Common.{◌≡◌, ◌∙◌, ℕ, suc, Bool, List, [], ◌∷◌, ◌++◌, length, refl, sym, ap, subst, Option, Some, None, inl, inr, ◌+◌, zero, true, false}
use Rattle.std.specs.Prelude.{MatchOption, if◌then◌else◌}
use Rattle.laws_program.proofs.Common.{Files, file_at, Request, Reply, Stop, bay_of, is_bay, State, Step, StopsAt, refusal_of, is_loaded, unless_bad, Taken, Run, requests_of, IsEndStop, AreUndisturbed, AreRegularBefore, AnswerAlike, AnswersAgree, grown, Code, Rate, R500, R250, Status, Chrn, Reason, is_refusal, stop_status, World, Prints, Whole, InPart, blank_request, Shape, Script, Ends, Asks, Stores, MayStarve, Fails, RunsScript, unless_refused, shape_at, by_track, formats, with_report, last_run, last_stored, last_failed, log_text, read_of, write_of, outcome_status, LogLine, asked_keys, outcome_of, last_text, rescue_rest, Rescues, by_rest, IsEndStatus, IsNotStopped, not_put, not_stop, IsNotToldStopped}
use Rattle.laws_program.proofs.AlikeDisks.{bays_in, loaded_same}
use Rattle.laws_program.proofs.StepsAgree.{AlikeStages, IsCalmStep, steps_agree}
use Rattle.laws_program.proofs.Inserting.{AlikeTold, stop_by, same_stop, no_stop, stop_cases, IsLoadStop}
use Rattle.commands.specs.LastLines.{stopped_text}
use Rattle.commands.specs.Parts.{Part, asks, needs, carries, may_starve, opens, sets_rate, acknowledges, through, each}
use Rattle.disk_commands.specs.Rescue.{does_next, follows, rescues, acknowledges_both, prepares_new, prepares_old, prepares, rescues_all, stores_log, rescue_found}
use Rattle.floppy_jobs.specs.declared.request.Request.TheVariants as request
use Rattle.sector_model.specs.declared.reply.Reason.TheVariants as reason
use Rattle.flop_base.specs.declared.answers.Code.TheVariants as code
use Rattle.flop_base.specs.declared.answers.Status.TheVariants as status
use Rattle.sector_model.specs.declared.reply.Reply.TheVariants as reply

-- ---- a stop where the other run went on

-- loads stop a run at the same names, with the files of either
abbrev pub SameStops : Option Files → Option Files → Type 0
SameStops (Some files) (Some others) = (name : List ℕ) → stop_by name (file_at files name) ≡ stop_by name (file_at others name)
SameStops _ _ = ⊥

told_stops : (told other : Option Files) → AlikeTold told other → SameStops told other
told_stops (Some a) (Some b) same = λ name. sym (same_stop name (file_at a name) (file_at b name) (same name))
told_stops _ _ same = absurd same

told_stops_too : (told other : Option Files) → AlikeTold told other → SameStops other told
told_stops_too (Some a) (Some b) same = λ name. same_stop name (file_at a name) (file_at b name) (same name)
told_stops_too _ _ same = absurd same

-- what two states have in common where a request comes to both
pub record AreBeside (one : State) (told : Option Files) (two : State) (other : Option Files) : Type 0 where
  pub loaded : (bay : ℕ) → is_loaded two bay ≡ is_loaded one bay
  pub stops : SameStops told other

pub beside : (one two : State) (told other : Option Files) → AlikeStages one told two other → AreBeside one told two other
beside one two told other same = record {
  loaded = λ bay. loaded_same (bay_of one.station bay).medium (bay_of two.station bay).medium (bays_in one.station two.station bay same.stations).media;
  stops = told_stops told other same.files;
}

pub beside_too : (one two : State) (told other : Option Files) → AlikeStages one told two other → AreBeside two other one told
beside_too one two told other same = record {
  loaded = λ bay. sym (loaded_same (bay_of one.station bay).medium (bay_of two.station bay).medium (bays_in one.station two.station bay same.stations).media);
  stops = told_stops_too told other same.files;
}

reached : {X : Type 0} {P : Type 0} (Q : X → Type 0) (o : Option X) → o ≡ None → MatchOption o P Q → P
reached Q None e holds = holds
reached Q (Some x) e holds = absurd (cc e)

-- a load that stops one run isn't done by the other
load_clash : (a b : Files) (one two next : State) (after : Option Files) (asked : Request) (answer : Reply) (cause : Stop) → AreBeside one (Some a) two (Some b) → refusal_of one asked ≡ None → IsLoadStop a asked cause → Step asked two (Some b) answer next after → ⊥
load_clash a b one two next after asked answer cause beside taken load step =
    let bay = load.bay in
    let name = load.name in
    let insert = subst (λ (q : Request). Step q two (Some b) answer next after) load.asked_is step in
    let free = subst (λ (q : Request). refusal_of one q ≡ None) load.asked_is taken in
    let free_too : refusal_of two (request.Insert bay name) ≡ None = ap (λ (t : Bool). unless_bad (is_bay bay) (if t then Some reason.Busy else None)) (beside.loaded bay) ∙ free in
    let does = reached _ (refusal_of two (request.Insert bay name)) free_too insert in
    let put = does.2 in
    let none = no_stop b name put.0 put.1 in
    some_none cause (sym load.is ∙ beside.stops name ∙ none)
  where
    some_none : (x : Stop) → Some x ≡ None → ⊥
    some_none x e = cc e

-- so it was the outside that made the stop
pub passed_free : (one two new next : State) (told other after told_next : Option Files) (asked : Request) (answer : Reply) (cause : Stop) → AreBeside one told two other → StopsAt asked one told cause new after → Step asked two other answer next told_next → IsEndStop cause
passed_free one two new next (Some a) (Some b) after told_next asked answer cause beside stops step = elim (stop_cases a asked cause stops.cause) [
  | inl free ↦ free
  | inr load ↦ absurd (load_clash a b one two next told_next asked answer cause beside stops.taken load step)
]
passed_free one two new next _ _ after told_next asked answer cause beside stops step = absurd beside.stops

-- ---- where two runs part

-- the other run took a step where this run had come to its end
pub record IsPassed (state : State) (files : Option Files) (rest : List Request) : Type 0 where
  pub asked : Request
  pub later : List Request
  pub rest_is : rest ≡ asked ∷ later
  pub from : State
  pub told : Option Files
  pub answer : Reply
  pub next : State
  pub told_next : Option Files
  pub step : Step asked from told answer next told_next
  pub same : AreBeside state files from told

-- two runs came to their ends together, or one of them went on
pub data Parted (course course_too : List Taken) (mid : State) (files : Option Files) (rest : List Request) (mid_too : State) (files_too : Option Files) (rest_too : List Request) : Type 0 where
  Together : length course_too ≡ length course → rest_too ≡ rest → AlikeStages mid files mid_too files_too → Parted course course_too mid files rest mid_too files_too rest_too
  FirstOn : IsPassed mid_too files_too rest_too → Parted course course_too mid files rest mid_too files_too rest_too
  SecondOn : IsPassed mid files rest → Parted course course_too mid files rest mid_too files_too rest_too

-- all answers of two courses agree, as far as both go
abbrev pub AllAgree : List Taken → List Taken → Type 0
AllAgree (taken ∷ later) (next ∷ rest) = (next.asked ≡ taken.asked) × AnswerAlike taken.answer next.answer × AllAgree later rest
AllAgree _ _ = Unit {0}

pub record RunsAgree (course course_too : List Taken) (mid : State) (files : Option Files) (rest : List Request) (mid_too : State) (files_too : Option Files) (rest_too : List Request) : Type 0 where
  pub agree : AllAgree course course_too
  pub parted : Parted course course_too mid files rest mid_too files_too rest_too

one_more : (t u : Taken) (course course_too : List Taken) (mid : State) (files : Option Files) (rest : List Request) (mid_too : State) (files_too : Option Files) (rest_too : List Request) → Parted course course_too mid files rest mid_too files_too rest_too → Parted (t ∷ course) (u ∷ course_too) mid files rest mid_too files_too rest_too
one_more t u course course_too mid files rest mid_too files_too rest_too (Together long is same) = Together (ap suc long) is same
one_more t u course course_too mid files rest mid_too files_too rest_too (FirstOn passed) = FirstOn passed
one_more t u course course_too mid files rest mid_too files_too rest_too (SecondOn passed) = SecondOn passed

same_head : (a b : Request) (x y : List Request) → a ∷ x ≡ b ∷ y → a ≡ b
same_head a b x y e = cc e

same_tail : (a b : Request) (x y : List Request) → a ∷ x ≡ b ∷ y → x ≡ y
same_tail a b x y e = cc e

-- a state at which a run ended is beside the other
ended_beside : (one two mid : State) (told other files : Option Files) → mid ≡ one → files ≡ told → AreBeside one told two other → AreBeside mid files two other
ended_beside one two mid told other files is is_too same =
    subst (λ (s : State). AreBeside s files two other) (sym is) (subst (λ (f : Option Files). AreBeside one f two other) (sym is_too) same)

pub runs_agree : (course course_too : List Taken) (one two mid mid_too : State) (told other files files_too : Option Files) (requests rest rest_too : List Request) → AlikeStages one told two other → AreUndisturbed one.station.counters course → AreUndisturbed two.station.counters course_too → AreRegularBefore one course → Run one told course mid files → Run two other course_too mid_too files_too → requests ≡ requests_of course ++ rest → requests ≡ requests_of course_too ++ rest_too → RunsAgree course course_too mid files rest mid_too files_too rest_too
runs_agree [] [] one two mid mid_too told other files files_too requests rest rest_too same calm calm_too regular run run_too all all_too =
    let at_end : AlikeStages one told mid_too files_too = subst (λ (s : State). AlikeStages one told s files_too) (sym run_too.0) (subst (λ (f : Option Files). AlikeStages one told two f) (sym run_too.1) same) in
    let both : AlikeStages mid files mid_too files_too = subst (λ (s : State). AlikeStages s files mid_too files_too) (sym run.0) (subst (λ (f : Option Files). AlikeStages one f mid_too files_too) (sym run.1) at_end) in
    record { agree = tt; parted = Together refl (sym all_too ∙ all) both }
runs_agree [] (u ∷ more) one two mid mid_too told other files files_too requests rest rest_too same calm calm_too regular run run_too all all_too =
    let passed : IsPassed mid files rest = record { asked = u.asked; later = requests_of more ++ rest_too; rest_is = sym all ∙ all_too; from = two; told = other; answer = u.answer; next = u.after; told_next = run_too.0; step = run_too.1; same = ended_beside one two mid told other files run.0 run.1 (beside one two told other same) } in
    record { agree = tt; parted = SecondOn passed }
runs_agree (t ∷ later) [] one two mid mid_too told other files files_too requests rest rest_too same calm calm_too regular run run_too all all_too =
    let passed : IsPassed mid_too files_too rest_too = record { asked = t.asked; later = requests_of later ++ rest; rest_is = sym all_too ∙ all; from = one; told = told; answer = t.answer; next = t.after; told_next = run.0; step = run.1; same = ended_beside two one mid_too other told files_too run_too.0 run_too.1 (beside_too one two told other same) } in
    record { agree = tt; parted = FirstOn passed }
runs_agree (t ∷ later) (u ∷ more) one two mid mid_too told other files files_too requests rest rest_too same calm calm_too regular run run_too all all_too =
    let lists : u.asked ∷ (requests_of more ++ rest_too) ≡ t.asked ∷ (requests_of later ++ rest) = sym all_too ∙ all in
    let asked : u.asked ≡ t.asked = same_head u.asked t.asked (requests_of more ++ rest_too) (requests_of later ++ rest) lists in
    let behind : requests_of more ++ rest_too ≡ requests_of later ++ rest = same_tail u.asked t.asked (requests_of more ++ rest_too) (requests_of later ++ rest) lists in
    let step_too = subst (λ (q : Request). Step q two other u.answer u.after run_too.0) asked run_too.1 in
    let quiet : IsCalmStep t.asked t.answer one.station.counters t.after.station.counters = record { first = calm.0; second = calm.1 } in
    let quiet_here : IsCalmStep u.asked u.answer two.station.counters u.after.station.counters = record { first = calm_too.0; second = calm_too.1 } in
    let quiet_too = subst (λ (q : Request). IsCalmStep q u.answer two.station.counters u.after.station.counters) asked quiet_here in
    let here = steps_agree one two t.after u.after told other run.0 run_too.0 same t.answer u.answer regular.0 t.asked quiet quiet_too run.1 step_too in
    let there = runs_agree later more t.after u.after mid mid_too run.0 run_too.0 files files_too (requests_of later ++ rest) rest rest_too here.after calm.2 calm_too.2 regular.1 run.2 run_too.2 refl (sym behind) in
    record {
      agree = (asked, here.answers, there.agree);
      parted = one_more t u later more mid files rest mid_too files_too rest_too there.parted;
    }

-- answers of two runs agree as far as both go, while the disks of the first are regular
pub while_agree : (course course_too : List Taken) (one two mid mid_too : State) (told other files files_too : Option Files) (requests rest rest_too : List Request) → AlikeStages one told two other → AreUndisturbed one.station.counters course → AreUndisturbed two.station.counters course_too → Run one told course mid files → Run two other course_too mid_too files_too → requests ≡ requests_of course ++ rest → requests ≡ requests_of course_too ++ rest_too → AnswersAgree one course course_too
while_agree (t ∷ later) (u ∷ more) one two mid mid_too told other files files_too requests rest rest_too same calm calm_too run run_too all all_too = λ regular.
    let lists : u.asked ∷ (requests_of more ++ rest_too) ≡ t.asked ∷ (requests_of later ++ rest) = sym all_too ∙ all in
    let asked : u.asked ≡ t.asked = same_head u.asked t.asked (requests_of more ++ rest_too) (requests_of later ++ rest) lists in
    let behind : requests_of more ++ rest_too ≡ requests_of later ++ rest = same_tail u.asked t.asked (requests_of more ++ rest_too) (requests_of later ++ rest) lists in
    let step_too = subst (λ (q : Request). Step q two other u.answer u.after run_too.0) asked run_too.1 in
    let quiet : IsCalmStep t.asked t.answer one.station.counters t.after.station.counters = record { first = calm.0; second = calm.1 } in
    let quiet_here : IsCalmStep u.asked u.answer two.station.counters u.after.station.counters = record { first = calm_too.0; second = calm_too.1 } in
    let quiet_too = subst (λ (q : Request). IsCalmStep q u.answer two.station.counters u.after.station.counters) asked quiet_here in
    let here = steps_agree one two t.after u.after told other run.0 run_too.0 same t.answer u.answer regular t.asked quiet quiet_too run.1 step_too in
    (asked, here.answers, while_agree later more t.after u.after mid mid_too run.0 run_too.0 files files_too (requests_of later ++ rest) rest rest_too here.after calm.2 calm_too.2 run.2 run_too.2 refl (sym behind))
while_agree _ _ one two mid mid_too told other files files_too requests rest rest_too same calm calm_too run run_too all all_too = tt

-- ---- A rescue whose report doesn't say that a refusal stopped it: its last request wasn't refused

none_stopped : (course : List Taken) → course ≡ [] → IsNotStopped course
none_stopped course nothing [] last is = absurd (cc (nothing, is))
none_stopped course nothing (taken ∷ before) last is = absurd (cc (nothing, is))

-- one more request in front, which wasn't refused if it is the last
in_front : (taken : Taken) (later : List Taken) → (later ≡ [] → is_refusal taken.answer ≡ false) → IsNotStopped later → IsNotStopped (taken ∷ later)
in_front taken later fine others [] last is =
    let none : later ≡ [] = cc is in
    let same : last ≡ taken = cc is in
    ap (λ (t : Taken). is_refusal t.answer) same ∙ fine none
in_front taken later fine others (first ∷ before) last is = others before last (cc is)

-- no run of the script to its end stops at a refusal; below, such a run also asks something
abbrev Strict : Script → Type 0
Strict script =
    (old new : World) (course : List Taken) (ended : Status) → IsEndStatus ended → IsNotToldStopped old.report new.report
    → RunsScript script old course new ended → IsNotStopped course

abbrev Going : Script → Type 0
Going script =
    (old new : World) (course : List Taken) (ended : Status) → IsEndStatus ended → IsNotToldStopped old.report new.report
    → RunsScript script old course new ended → (course ≡ [] → ⊥) × IsNotStopped course

strictly : (script : Script) → Going script → Strict script
strictly script goes old new course ended whole fine runs = (goes old new course ended whole fine runs).1

-- a script that has no such run
abbrev Never : Script → Type 0
Never script =
    (old new : World) (course : List Taken) (ended : Status) → IsEndStatus ended → IsNotToldStopped old.report new.report
    → RunsScript script old course new ended → ⊥

put_whole : (line : List (List ℕ)) (wanted : Status) (old new : Option (List (List ℕ))) (ended : Status) → IsEndStatus ended → Prints line wanted old new ended
    → (new ≡ grown old line) × (ended ≡ wanted)
put_whole line wanted old new ended whole (Whole is well) = (is, well)
put_whole line wanted old new ended whole (InPart grows fault) = absurd (not_put ended whole fault)

tells_stop : (asked : Request) (cause : Reason) (wanted : Status) → Never (Ends (stopped_text asked cause ∷ []) wanted)
tells_stop asked cause wanted old new course ended whole fine runs =
    let last = last_run (stopped_text asked cause ∷ []) wanted old course new ended runs in
    fine asked cause (put_whole _ wanted old.report new.report ended whole last.1.report).0

never_going : (script : Script) → Never script → Going script
never_going script never old new course ended whole fine runs = absurd (never old new course ended whole fine runs)

ask_stops : (cause : _) (line : List (List ℕ)) (old new : Option (List (List ℕ))) (ended : Status) → IsEndStatus ended → Prints line (stop_status cause) old new ended → ⊥
ask_stops cause line old new ended whole prints = not_stop cause (subst IsEndStatus (put_whole line (stop_status cause) old new ended whole prints).1 whole)

asks_going : (asked : Request) (rest : Reply → State → Script) → ((answer : Reply) (after : State) → Going (rest answer after)) → Going (Asks asked rest)
asks_going asked rest goes old new [] ended whole fine runs = absurd (ask_stops runs.0 _ old.report new.report ended whole runs.2)
asks_going asked rest goes old new (taken ∷ later) ended whole fine runs =
    let behind = goes taken.answer taken.after (with_report taken.after runs.1 old.report) new later ended whole fine runs.3 in
    (λ none. absurd (cc none), in_front taken later (λ none. absurd (behind.0 none)) behind.1)

unless_goes : (asked : Request) (answer : Reply) (later : Script) → Strict later → (old new : World) (course : List Taken) (ended : Status) → IsEndStatus ended
    → IsNotToldStopped old.report new.report → RunsScript (unless_refused asked answer later) old course new ended
    → (is_refusal answer ≡ false) × IsNotStopped course
unless_goes asked (reply.Refused cause) later goes old new course ended whole fine runs =
    absurd (tells_stop asked cause status.SomeRefused old new course ended whole fine runs)
unless_goes asked _ later goes old new course ended whole fine runs = (refl, goes old new course ended whole fine runs)

needs_going : (asked : Request) (rest : Reply → State → Script) → ((answer : Reply) (after : State) → Strict (rest answer after)) → Going (needs asked rest)
unfolding needs
needs_going asked rest goes old new [] ended whole fine runs = absurd (ask_stops runs.0 _ old.report new.report ended whole runs.2)
needs_going asked rest goes old new (taken ∷ later) ended whole fine runs =
    let behind = unless_goes asked taken.answer (rest taken.answer taken.after) (goes taken.answer taken.after)
    (with_report taken.after runs.1 old.report) new later ended whole fine runs.3 in
    (λ none. absurd (cc none), in_front taken later (λ none. behind.0) behind.1)

carries_going : (asked : Request) (rest : Unit {0} → Script) → Strict (rest tt) → Going (carries asked rest)
unfolding carries
carries_going asked rest goes = needs_going asked (λ answer after. rest tt) (λ answer after. goes)

starves_going : (rest : Script) → Going rest → Going (MayStarve rest)
starves_going rest goes old new course ended whole fine (inl runs) = goes old new course ended whole fine runs
starves_going rest goes old new course ended whole fine (inr none) = absurd (subst IsEndStatus none.2 whole)

starves_strict : (rest : Script) → Strict rest → Strict (MayStarve rest)
starves_strict rest goes old new course ended whole fine (inl runs) = goes old new course ended whole fine runs
starves_strict rest goes old new course ended whole fine (inr none) = absurd (subst IsEndStatus none.2 whole)

acknowledges_going : (bay : ℕ) (rate : Rate) (rest : Unit {0} → Script) → Strict (rest tt) → Going (acknowledges bay rate rest)
unfolding acknowledges sets_rate
acknowledges_going bay R500 rest goes = carries_going (request.Ack bay) _ goes
acknowledges_going bay R250 rest goes = carries_going (request.Ack bay) _ (strictly _ (carries_going (request.SetRate bay R250) rest goes))

-- ---- Formats of all tracks.

each_strict : (part : ℕ → Unit {0} → Part (Unit {0})) → ((i : ℕ) (rest : Unit {0} → Script) → Strict (rest tt) → Strict (part i tt rest)) → (a count : ℕ)
    (rest : Unit {0} → Script) → Strict (rest tt) → Strict (each a count part tt rest)
unfolding each through
each_strict part is a zero rest goes = goes
each_strict part is a (suc count) rest goes = is a (λ now. each (a + 1) count part now rest) (each_strict part is (a + 1) count rest goes)

tracks_strict : (cylinders heads : ℕ) (rest : Unit {0} → Script) → Strict (rest tt) → Strict (by_track cylinders heads (formats 1) tt rest)
tracks_strict cylinders heads rest goes =
    each_strict (λ c. each 0 heads (formats 1 c))
    (λ c behind next. each_strict (formats 1 c) (λ h more then_. strictly _ (carries_going (request.Format 1 c h) more then_)) 0 heads behind next)
    0 cylinders rest goes

-- ---- Records.

module _ (key : Chrn) (lines : List LogLine) (rest : List LogLine → Script) (goes : (now : List LogLine) → Going (rest now)) where
  logged_going : (cause : Code) → Going (MayStarve (rest (lines ++ record { key = key; code = cause } ∷ [])))
  logged_going cause =
      let line : LogLine = record { key = key; code = cause } in
      starves_going (rest (lines ++ line ∷ [])) (goes (lines ++ line ∷ []))

  stop_going : (cause : Reason) → Going (Ends (stopped_text (read_of key) cause ∷ []) status.SomeRefused)
  stop_going cause = never_going (Ends (stopped_text (read_of key) cause ∷ []) status.SomeRefused) (tells_stop (read_of key) cause status.SomeRefused)

  refused_going : (cause : Code) → Going (follows key (reply.Refused (reason.Driver cause)) lines rest)
  unfolding follows does_next may_starve
  refused_going code.NoMark = logged_going code.NoMark
  refused_going code.NotFound = logged_going code.NotFound
  refused_going code.Overrun = logged_going code.Overrun
  refused_going code.BadCrc = logged_going code.BadCrc
  refused_going code.Seek = logged_going code.Seek
  refused_going cause = stop_going (reason.Driver cause)

  follows_going : (answer : Reply) → Going (follows key answer lines rest)
  unfolding follows does_next
  follows_going reply.DoneDeleted = carries_going (write_of key true) _ (strictly _ (goes lines))
  follows_going (reply.Refused (reason.Driver cause)) = refused_going cause
  follows_going (reply.Refused cause) = stop_going cause
  follows_going _ = carries_going (write_of key false) _ (strictly _ (goes lines))

rescues_going : (keys : List Chrn) (lines : List LogLine) (rest : List LogLine → Script) → ((now : List LogLine) → Going (rest now)) → Going (through rescues keys lines rest)
unfolding through rescues asks
rescues_going [] lines rest goes = goes lines
rescues_going (key ∷ keys) lines rest goes =
    asks_going (read_of key) _ (λ answer after. follows_going key lines (λ now. through rescues keys now rest) (λ now. rescues_going keys now rest goes) answer)

-- ---- The whole.

stores_strict : (log : List ℕ) (asked : ℕ) (lines : List LogLine) → Strict (stores_log log asked lines)
unfolding stores_log may_starve
stores_strict log asked lines =
    let outcome = outcome_of asked lines in
    starves_strict (Stores log (log_text lines) (last_text outcome) (outcome_status outcome)) (λ old new course ended whole fine runs.
    none_stopped course (last_stored log (log_text lines) (last_text outcome) (outcome_status outcome) old course new ended runs).0)

prepares_strict : (to : List ℕ) (shape : Shape) (logged : Bool) (rest : Unit {0} → Script) → Strict (rest tt) → Strict (prepares to shape logged rest)
unfolding prepares prepares_old prepares_new acknowledges_both
prepares_strict to shape true rest goes =
    strictly _ (carries_going (request.Insert 1 to) _ (strictly _ (acknowledges_going 0 shape.rate _ (strictly _ (acknowledges_going 1 shape.rate rest goes)))))
prepares_strict to shape false rest goes =
    strictly _ (carries_going (blank_request 1 to shape.cylinders shape.rate) _ (strictly _ (acknowledges_going 0 shape.rate _
    (strictly _ (acknowledges_going 1 shape.rate _ (tracks_strict shape.cylinders shape.heads rest goes))))))

found_strict : (to log : List ℕ) (shape : Shape) (found : Option (List LogLine)) → Strict (rescue_found to log shape found)
unfolding rescue_found rescues_all may_starve
found_strict to log shape found =
    starves_strict _ (prepares_strict to shape _ _
    (strictly _ (rescues_going (asked_keys shape found) [] _ (λ lines. carries_going (request.Eject 1) _ (stores_strict log (length (asked_keys shape found)) lines)))))

ends_strict : (line : List (List ℕ)) (wanted : Status) → Strict (Ends line wanted)
ends_strict line wanted old new course ended whole fine runs = none_stopped course (last_run line wanted old course new ended runs).0

fails_strict : (cause : Status) → Strict (Fails cause)
fails_strict cause old new course ended whole fine runs = none_stopped course (last_failed cause old course new ended runs).0

-- a rescue whose report doesn't say that a refusal stopped it fulfills the premise of the laws on its script
pub rescue_unstopped : (from to log : List ℕ) (old new : World) (course : List Taken) (ended : Status) → IsEndStatus ended → IsNotToldStopped old.report new.report
    → Rescues from to log old course new ended → IsNotStopped course
unfolding opens
rescue_unstopped from to log old new course ended whole fine (answers, are, runs) =
    let rest = λ (shape : Shape). rescue_rest to log shape (answers shape.rate) in
    (needs_going (request.Insert 0 from) (λ answer after. rest (shape_at after 0)) (λ answer after.
    let shape = shape_at after 0 in
    by_rest old.files to log shape Strict (λ found there. found_strict to log shape found) (λ line. ends_strict line status.BadJob)
    (fails_strict status.FileFault) (fails_strict status.NoMemory) (answers shape.rate) (are shape.rate))
    old new course ended whole fine runs).1
