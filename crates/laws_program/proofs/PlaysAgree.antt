-- Two plays of one batch job that begin alike: they answer alike, and end alike.
use Rattle.std.proofs.Common.{◌≡◌, ◌∙◌, ℕ, Bool, List, [], ◌∷◌, ◌++◌, length, refl, sym, ap, subst, append-nil, append_assoc, Option, Some, None, Result, Ok, Err, inl, inr, arith}
use Rattle.std.specs.Prelude.{◌⊎◌, ◌||◌, MatchBool, nat_lt}
use Rattle.laws_program.proofs.Common.{lt-ltb, le-ltb, length-replicate, Files, file_at, grown, Status, Two, both, user_bytes, job_of, Request, Reply, Stop, Bay, fresh_bay, State, StopsAt, StopCause, IsAbsent, IsLonger, is_refusal, stop_lines, stop_status, bad_line_text, absent_text, Taken, Run, requests_of, course_lines, has_refusal, IsEndStop, World, IsPutFault, Prints, whole_status, PlaysRequests, TellsAlone, PlaysParsed, IsText, most_job_bytes, Plays, run_more, requests_more, AreUndisturbed, BeginAlike, AreRegularBefore, AnswerAlike, AnswersAgree, IsFreeEnd, EndAlikeUnlessFree}
use Rattle.flop_base.specs.Memory.{zeroes}
use Rattle.laws_program.proofs.CallsAgree.{both_tests}
use Rattle.sector_model.proofs.PlayTies.{play_ties}
use Rattle.laws_program.proofs.AlikeDisks.{AlikeBays}
use Rattle.laws_program.proofs.StepsAgree.{AlikeStages}
use Rattle.laws_program.proofs.RunsAgree.{AllAgree, while_agree, Parted, Together, FirstOn, SecondOn, IsPassed, passed_free, runs_agree}
use Rattle.laws_program.proofs.OfForms.{put_as, stop_as}
use Rattle.laws_program.proofs.Inserting.{AlikeTold, held_at, held_alike, stop_by, stop_cases, same_stop}
use Rattle.laws_program.proofs.Courses.{IsThere, IsTooLong}
use Rattle.flop_base.specs.declared.answers.Status.TheVariants as status
use Rattle.floppy_jobs.specs.declared.request.Request.TheVariants as request
use Rattle.sector_model.specs.declared.reply.Reply.TheVariants as reply
use Rattle.sector_model.specs.Plays as plays

-- ---- the beginning

length-zeroes : (n : ℕ) → length (zeroes n) ≡ n
unfolding zeroes
length-zeroes n = length-replicate n 0

fresh_alike : AlikeBays (fresh_bay None) (fresh_bay None)
fresh_alike = record { media = tt; acknowledged = refl; rate = refl }

bays_alike : (a b : Two Bay) → a ≡ both (fresh_bay None) → b ≡ both (fresh_bay None) → AlikeBays a.first b.first × AlikeBays a.second b.second
bays_alike a b e f =
    subst (λ (x : Two Bay). AlikeBays x.first b.first × AlikeBays x.second b.second) (sym e)
    (subst (λ (x : Two Bay). AlikeBays (fresh_bay None) x.first × AlikeBays (fresh_bay None) x.second) (sym f) (fresh_alike, fresh_alike))

begin_stages : (one two : World) → BeginAlike one two → AlikeStages one.state one.files two.state two.files
begin_stages one two begin =
    let a = begin.first.fresh in
    let b = begin.second.fresh in
    let bays = bays_alike one.state.station.bays two.state.station.bays a.bays b.bays in
    record {
      names = begin.names;
      stations = record {
        first = bays.0;
        second = bays.1;
        size = ap (λ (m : List ℕ). length m) a.memory ∙ length-zeroes user_bytes;
        other_size = ap (λ (m : List ℕ). length m) b.memory ∙ length-zeroes user_bytes;
        as_many = begin.spares;
      };
      files =
          subst (λ (o : Option Files). AlikeTold o two.files) (sym begin.told)
          (subst (λ (o : Option Files). AlikeTold (Some begin.files) o) (sym begin.told_too) (held_alike begin.files begin.others begin.same begin.bytes));
    }

-- ---- ends by the outside

stop_ended : (cause : Stop) (ended : Status) → ended ≡ stop_status cause → IsEndStop cause → IsFreeEnd ended
stop_ended cause ended is free = subst IsFreeEnd (sym is) (stop_as (λ flag. ⊥) cause free)

put_free : (ended : Status) → IsPutFault ended → IsFreeEnd ended
put_free ended is = put_as (λ flag. ⊥) ended is

-- ---- how a play begins, by what is found under the job's name

module _ (job : List ℕ) (old : World) (course : List Taken) (new : World) (ended : Status) where
  abbrev Tried : Bool → List ℕ → Type 0
  Tried long bytes =
      MatchBool long (TellsAlone (bad_line_text 0) status.BadJob old course new ended) (PlaysParsed (job_of bytes) old course new ended)

  -- no file, one that is too long, or one that is played as it is parsed
  abbrev Opened : Option (List ℕ) → Type 0
  Opened None = TellsAlone (absent_text job) status.Absent old course new ended
  Opened (Some bytes) = Tried (nat_lt most_job_bytes (length bytes)) bytes

  there_opened : (found : Option (List ℕ)) (text : List ℕ) → IsThere found text → PlaysParsed (job_of text) old course new ended → Opened found
  there_opened None text there plays = absurd there
  there_opened (Some bytes) text there plays =
      subst (λ (b : Bool). Tried b bytes) (sym (le-ltb most_job_bytes (length bytes) there.1))
      (subst (λ (t : List ℕ). PlaysParsed (job_of t) old course new ended) (sym there.0) plays)

  long_opened : (found : Option (List ℕ)) → IsTooLong found → TellsAlone (bad_line_text 0) status.BadJob old course new ended → Opened found
  long_opened None long alone = absurd long
  long_opened (Some bytes) long alone = subst (λ (b : Bool). Tried b bytes) (sym (lt-ltb most_job_bytes (length bytes) long)) alone

  -- the play begins so, or the outside ended it before its first request
  opened : (files : Files) → old.files ≡ Some files → Plays job old course new ended → Opened (file_at files job) ⊎ ((course ≡ []) × IsFreeEnd ended)
  opened files told (plays.There is) =
      inl (there_opened (file_at files job) is.text (subst (λ (o : Option Files). IsText o job is.text) told is.told) is.plays)
  opened files told (plays.Missing absent alone) = inl (subst Opened (sym (subst (λ (o : Option Files). IsAbsent o job) told absent)) alone)
  opened files told (plays.TooLong longer alone) =
      inl (long_opened (file_at files job) (subst (λ (o : Option Files). IsLonger o job most_job_bytes) told longer) alone)
  opened files told (plays.Faulty nothing idle) = inr (nothing, subst IsFreeEnd (sym idle.status) tt)
  opened files told (plays.Starved nothing idle) = inr (nothing, subst IsFreeEnd (sym idle.status) tt)

-- ---- how a play of requests came to its end

-- the outside ended it; or all was run; or a request stopped it, and the last line says why
data Ending (report : Option (List (List ℕ))) (course : List Taken) (mid : State) (files : Option Files) (rest : List Request) (new : World) (ended : Status) : Type 0 where
  ByOutside : IsFreeEnd ended → Ending report course mid files rest new ended
  AllRun : rest ≡ [] → new.report ≡ grown report (course_lines course) → ended ≡ whole_status (has_refusal course) → Ending report course mid files rest new ended
  ByStop : (asked : Request) (later : List Request) (cause : Stop) → rest ≡ asked ∷ later → StopsAt asked mid files cause new.state new.files
      → new.report ≡ grown (grown report (course_lines course)) (stop_lines cause) → ended ≡ stop_status cause → Ending report course mid files rest new ended

record RunsTo (old : World) (requests : List Request) (course : List Taken) (new : World) (ended : Status) : Type 0 where
  pub mid : State
  pub files : Option Files
  pub rest : List Request
  pub run : Run old.state old.files course mid files
  pub all : requests ≡ requests_of course ++ rest
  pub ending : Ending old.report course mid files rest new ended

stop_ending : (report : Option (List (List ℕ))) (course : List Taken) (mid : State) (files : Option Files) (asked : Request) (later : List Request) (cause : Stop) (new : World) (ended : Status) → StopsAt asked mid files cause new.state new.files → Prints (stop_lines cause) (stop_status cause) (grown report (course_lines course)) new.report ended → Ending report course mid files (asked ∷ later) new ended
stop_ending report course mid files asked later cause new ended stops (plays.Whole after is) = ByStop asked later cause refl stops after is
stop_ending report course mid files asked later cause new ended stops (plays.Part grows fault) = ByOutside (put_free ended fault)

runs_to : (old new : World) (requests : List Request) (course : List Taken) (ended : Status) → PlaysRequests requests old course new ended → RunsTo old requests course new ended
runs_to old new requests course ended (plays.Played p) = record {
  mid = p.mid;
  files = p.files;
  rest = [];
  run = p.run;
  all = p.all ∙ sym (append-nil (requests_of course));
  ending = AllRun refl p.report p.status;
}
runs_to old new requests course ended (plays.Stopped p) = record {
  mid = p.mid;
  files = p.files;
  rest = p.asked ∷ p.later;
  run = p.run;
  all = p.all;
  ending = stop_ending old.report course p.mid p.files p.asked p.later p.cause new ended p.stops p.prints;
}
runs_to old new requests course ended (plays.BrokenOff p) =
    let run = run_more old.state p.mid old.files p.files new.files p.before p.last p.run p.step in
    let all : requests ≡ requests_of (p.before ++ p.last ∷ []) ++ p.later = p.all ∙ sym (ap (λ (rs : List Request). rs ++ p.later) (requests_more p.before p.last) ∙ append_assoc (requests_of p.before) (p.last.asked ∷ []) p.later) in
    record {
      mid = p.last.after;
      files = new.files;
      rest = p.later;
      run = subst (λ (steps : List Taken). Run old.state old.files steps p.last.after new.files) (sym p.course_is) run;
      all = subst (λ (steps : List Taken). requests ≡ requests_of steps ++ p.later) (sym p.course_is) all;
      ending = ByOutside (put_free ended p.fault);
    }
runs_to old new requests course ended (plays.EndStopped p) = record {
  mid = p.mid;
  files = p.files;
  rest = [];
  run = p.run;
  all = p.all ∙ sym (append-nil (requests_of course));
  ending = ByOutside (stop_ended p.cause ended p.status p.only);
}

-- ---- two ends

refusal_same : (a b : Reply) → AnswerAlike a b → is_refusal b ≡ is_refusal a
refusal_same (reply.Bytes address content) b same = ap is_refusal same.1
refusal_same _ b same = ap is_refusal same

refusals_same : (c d : List Taken) → AllAgree c d → length d ≡ length c → has_refusal d ≡ has_refusal c
refusals_same [] [] agree long = refl
refusals_same [] (u ∷ more) agree long = absurd (omega (arith, long))
refusals_same (t ∷ later) [] agree long = absurd (omega (arith, long))
refusals_same (t ∷ later) (u ∷ more) agree long =
    ap (λ (b : Bool). b || has_refusal more) (refusal_same t.answer u.answer agree.1)
    ∙ ap (λ (b : Bool). is_refusal t.answer || b) (refusals_same later more agree.2 (omega (arith, long)))

grown_nil : (report : Option (List (List ℕ))) → grown report [] ≡ report
grown_nil None = refl
grown_nil (Some told) = ap (λ (l : List (List ℕ)). Some l) (append-nil told)

nil_cons : (rest : List Request) (asked : Request) (later : List Request) → rest ≡ [] → rest ≡ asked ∷ later → ⊥
nil_cons rest asked later e f = cc (e, f)

head_of : (rest : List Request) (a b : Request) (x y : List Request) → rest ≡ a ∷ x → rest ≡ b ∷ y → a ≡ b
head_of rest a b x y e f = cc (e, f)

one_cause : (a b : Stop) (o p : Option Stop) → o ≡ Some a → p ≡ Some b → p ≡ o → b ≡ a
one_cause a b o p e f same = cc (e, f, same)

-- two loads for one request are of the same name
insert_name : (asked : Request) (a b : ℕ) (x y : List ℕ) → asked ≡ request.Insert a x → asked ≡ request.Insert b y → y ≡ x
insert_name asked a b x y e f = cc (e, f)

stops_both : (files files_too : Option Files) (asked : Request) (a b : Stop) → AlikeTold files files_too → StopCause files asked a → StopCause files_too asked b → IsEndStop a ⊎ IsEndStop b ⊎ (b ≡ a)
stops_both (Some f) (Some g) asked a b same one two = elim (stop_cases f asked a one) [
  | inl free ↦ inl free
  | inr x ↦ elim (stop_cases g asked b two) [
    | inl free ↦ inr (inl free)
    | inr y ↦
        let name : y.name ≡ x.name = insert_name asked x.bay y.bay x.name y.name x.asked_is y.asked_is in
        let there : stop_by y.name (file_at g y.name) ≡ stop_by x.name (file_at f x.name) = ap (λ (n : List ℕ). stop_by n (file_at g n)) name ∙ same_stop x.name (file_at f x.name) (file_at g x.name) (same x.name) in
        inr (inr (one_cause a b (stop_by x.name (file_at f x.name)) (stop_by y.name (file_at g y.name)) x.is y.is there))
  ]
]
stops_both _ _ asked a b same one two = absurd same

-- one play stopped at a request at which the other went on; so the outside made the stop
passed_end : (state new : State) (files after : Option Files) (rest : List Request) (asked : Request) (later : List Request) (cause : Stop) → IsPassed state files rest → rest ≡ asked ∷ later → StopsAt asked state files cause new after → IsEndStop cause
passed_end state new files after rest asked later cause passed is stops =
    let here : asked ≡ passed.asked = head_of rest asked passed.asked later passed.later is passed.rest_is in
    let there = subst (λ (q : Request). StopsAt q state files cause new after) here stops in
    passed_free state passed.from new passed.next files passed.told after passed.told_next passed.asked passed.answer cause passed.same there passed.step

module _ (one two one_after two_after : World) (course course_too : List Taken) (ended ended_too : Status) where
  abbrev EndsSo : Type 0
  EndsSo = EndAlikeUnlessFree one two course course_too one_after two_after ended ended_too

  module _ (mid mid_too : State) (files files_too : Option Files) (rest rest_too : List Request) (agree : AllAgree course course_too) where
    both_stopped : length course_too ≡ length course → AlikeTold files files_too → (asked : Request) (a b : Stop) → StopCause files asked a → StopCause files_too asked b → one_after.report ≡ grown (grown one.report (course_lines course)) (stop_lines a) → two_after.report ≡ grown (grown two.report (course_lines course_too)) (stop_lines b) → ended ≡ stop_status a → ended_too ≡ stop_status b → EndsSo
    both_stopped long told asked a b first second report report_too is is_too = elim (stops_both files files_too asked a b told first second) [
      | inl free ↦ inl (stop_ended a ended is free)
      | inr (inl free) ↦ inr (inl (stop_ended b ended_too is_too free))
      | inr (inr same) ↦ inr (inr (record {
        as_many = long;
        lines = stop_lines a;
        first = report;
        second = report_too ∙ ap (λ (c : Stop). grown (grown two.report (course_lines course_too)) (stop_lines c)) same;
        status = is_too ∙ ap stop_status same ∙ sym is;
      }))
    ]

    ends_alike : Parted course course_too mid files rest mid_too files_too rest_too → Ending one.report course mid files rest one_after ended → Ending two.report course_too mid_too files_too rest_too two_after ended_too → EndsSo
    ends_alike parted (ByOutside free) second = inl free
    ends_alike parted first (ByOutside free) = inr (inl free)
    ends_alike (FirstOn passed) first (AllRun none report is) = absurd (nil_cons rest_too passed.asked passed.later none passed.rest_is)
    ends_alike (FirstOn passed) first (ByStop asked later cause more stops report is) =
        inr (inl (stop_ended cause ended_too is (passed_end mid_too two_after.state files_too two_after.files rest_too asked later cause passed more stops)))
    ends_alike (SecondOn passed) (AllRun none report is) second = absurd (nil_cons rest passed.asked passed.later none passed.rest_is)
    ends_alike (SecondOn passed) (ByStop asked later cause more stops report is) second =
        inl (stop_ended cause ended is (passed_end mid one_after.state files one_after.files rest asked later cause passed more stops))
    ends_alike (Together long rests same) (AllRun none report is) (AllRun none_too report_too is_too) = inr (inr (record {
      as_many = long;
      lines = [];
      first = report ∙ sym (grown_nil (grown one.report (course_lines course)));
      second = report_too ∙ sym (grown_nil (grown two.report (course_lines course_too)));
      status = is_too ∙ ap whole_status (refusals_same course course_too agree long) ∙ sym is;
    }))
    ends_alike (Together long rests same) (AllRun none report is) (ByStop asked later cause more stops report_too is_too) = absurd (nil_cons rest_too asked later (rests ∙ none) more)
    ends_alike (Together long rests same) (ByStop asked later cause more stops report is) (AllRun none report_too is_too) = absurd (nil_cons rest asked later (sym rests ∙ none) more)
    ends_alike (Together long rests same) (ByStop asked later cause more stops report is) (ByStop asked_too later_too cause_too more_too stops_too report_too is_too) =
        let here : asked_too ≡ asked = head_of rest_too asked_too asked later_too later more_too (rests ∙ more) in
        let there = subst (λ (q : Request). StopCause files_too q cause_too) here stops_too.cause in
        both_stopped long same.files asked cause cause_too stops.cause there report report_too is is_too

  -- ---- what two plays have in common

  abbrev Alike : Type 0
  Alike = AnswersAgree one.state course course_too × (AreRegularBefore one.state course → EndsSo)

  none_first : course ≡ [] → AnswersAgree one.state course course_too
  none_first none = subst (λ (c : List Taken). AnswersAgree one.state c course_too) (sym none) tt

  any_none : (state : State) (c : List Taken) → AnswersAgree state c []
  any_none state [] = tt
  any_none state (t ∷ later) = tt

  none_second : course_too ≡ [] → AnswersAgree one.state course course_too
  none_second none = subst (λ (c : List Taken). AnswersAgree one.state course c) (sym none) (any_none one.state course)

  -- a play without requests adds nothing to the report but its last line
  no_text : (report : Option (List (List ℕ))) (c : List Taken) → c ≡ [] → grown report (course_lines c) ≡ report
  no_text report c none = ap (λ (x : List Taken). grown report (course_lines x)) none ∙ grown_nil report

  lines_alike : (line : List (List ℕ)) (wanted : Status) → course ≡ [] → course_too ≡ [] → Prints line wanted one.report one_after.report ended → Prints line wanted two.report two_after.report ended_too → EndsSo
  lines_alike line wanted none none_too (plays.Part grows fault) second = inl (put_free ended fault)
  lines_alike line wanted none none_too (plays.Whole after is) (plays.Part grows fault) = inr (inl (put_free ended_too fault))
  lines_alike line wanted none none_too (plays.Whole after is) (plays.Whole after_too is_too) = inr (inr (record {
    as_many = ap (λ (l : List Taken). length l) none_too ∙ sym (ap (λ (l : List Taken). length l) none);
    lines = line;
    first = after ∙ ap (λ (r : Option (List (List ℕ))). grown r line) (sym (no_text one.report course none));
    second = after_too ∙ ap (λ (r : Option (List (List ℕ))). grown r line) (sym (no_text two.report course_too none_too));
    status = is_too ∙ sym is;
  }))

  alone_alike : (line : List ℕ) (wanted : Status) → TellsAlone line wanted one course one_after ended → TellsAlone line wanted two course_too two_after ended_too → Alike
  alone_alike line wanted a b = (none_first a.nothing, λ regular. lines_alike (line ∷ []) wanted a.nothing b.nothing a.tells.prints b.tells.prints)

  -- ---- two plays

  module _ (begin : BeginAlike one two) (calm : AreUndisturbed one.state.station.counters course) (calm_too : AreUndisturbed two.state.station.counters course_too) where
    requests_alike : (requests : List Request) → PlaysRequests requests one course one_after ended → PlaysRequests requests two course_too two_after ended_too → Alike
    requests_alike requests first second =
        let a = runs_to one one_after requests course ended first in
        let b = runs_to two two_after requests course_too ended_too second in
        let stages = begin_stages one two begin in (
          while_agree course course_too one.state two.state a.mid b.mid one.files two.files a.files b.files requests a.rest b.rest stages calm calm_too a.run b.run a.all b.all,
          λ regular.
              let runs = runs_agree course course_too one.state two.state a.mid b.mid one.files two.files a.files b.files requests a.rest b.rest stages calm calm_too regular a.run b.run a.all b.all in
              ends_alike a.mid b.mid a.files b.files a.rest b.rest runs.agree runs.parted a.ending b.ending,
        )

    parsed_alike : (parsed : Result (List Request) ℕ) → PlaysParsed parsed one course one_after ended → PlaysParsed parsed two course_too two_after ended_too → Alike
    parsed_alike (Ok requests) first second = requests_alike requests first second
    parsed_alike (Err line) first second = alone_alike (bad_line_text line) status.BadJob first second

    -- two plays of one file
    both_opened : (job : List ℕ) (found : Option (List ℕ)) → Opened job one course one_after ended found → Opened job two course_too two_after ended_too found
        → Alike
    both_opened job None a b = alone_alike (absent_text job) status.Absent a b
    both_opened job (Some bytes) a b =
        both_tests Alike _ _ _ _ (nat_lt most_job_bytes (length bytes)) a b (alone_alike (bad_line_text 0) status.BadJob) (parsed_alike (job_of bytes))

    plays_alike : (job : List ℕ) → Plays job one course one_after ended → Plays job two course_too two_after ended_too → Alike
    plays_alike job first second = elim (opened job one course one_after ended begin.files begin.told first) [
      | inr (none, free) ↦ (none_first none, λ regular. inl free)
      | inl a ↦ elim (opened job two course_too two_after ended_too begin.others begin.told_too second) [
        | inr (none, free) ↦ (none_second none, λ regular. inr (inl free))
        | inl b ↦ both_opened job (file_at begin.files job) a
            (subst (Opened job two course_too two_after ended_too) (held_at begin.files begin.others job begin.same) b)
      ]
    ]

-- two plays of one job with nothing left to go wrong
pub answers_determined : (job : List ℕ) (one one_after two two_after : World) (course other : List Taken) (ended other_ended : Status) → BeginAlike one two → Plays job one course one_after ended → Plays job two other two_after other_ended → AnswersAgree one.state course other × (AreRegularBefore one.state course → EndAlikeUnlessFree one two course other one_after two_after ended other_ended)
answers_determined job one one_after two two_after course other ended other_ended begin first second =
    let calm = (play_ties one one_after job course ended first).undisturbed begin.first.nothing_left in
    let calm_too = (play_ties two two_after job other other_ended second).undisturbed begin.second.nothing_left in
    plays_alike one two one_after two_after course other ended other_ended begin calm calm_too job first second
