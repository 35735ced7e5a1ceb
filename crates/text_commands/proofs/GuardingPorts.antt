-- Protected media over lines, and what holds of every run, however far it came.
use Rattle.std.proofs.Common.{◌≡◌, ℕ, zero, suc, ◌-◌, ◌≤◌, ◌==◌, nat_le, not, Bool, true, false, List, [], ◌∷◌, Option, Some, None, Result, Ok, Err, if◌then◌else◌, refl, sym, ap, subst, arith}
use Rattle.text_commands.proofs.Common.{MatchOption, Files, Status, ports_of, PortLine, Steady, inputs, outputs, wait, guarding, Board, IsInRange, drive_in, Touches, Inputs, Outputs, stirred, Reason, Stop, LineAnswer, Bench, Names, no_names, PortRun, waits_of, EndsBay, Stored, Left, EndStopsAt, AtFirst, AtSecond, SameMedia, GuardsBay, GuardsLine, GuardsCourse, RunsPorts, DoesLine, StopsAt, LoadsMedium, StoresMedium, IsRefused, insert_refusal, eject_refusal, PlaysLines, Stopped, BrokenOff, IsIdle, PlaysParsed, Plays}
use Rattle.std.proofs.lemmas.Bool.{false≢true}
use Rattle.std.proofs.lemmas.Bool.Decides.{nat_tests}
use Rattle.flop_base.specs.declared.answers.Status.TheVariants as status
use Rattle.drive_model.specs.Drive.{DriveState, is_protected}
use Rattle.floppy_jobs.specs.declared.ports.PortLine.TheVariants as line
use Rattle.pc_bus.specs.Steps.{Runs}
use Rattle.text_commands.specs.declared.ports.answer.LineAnswer.TheVariants as answer
use Rattle.text_commands.specs.PortCourses.{Taken}
use Rattle.text_commands.specs.PortPlays.{World, Played, EndStopped, There, Missing, TooLong, Faulty, Starved}
use Rattle.text_commands.proofs.FinishingPorts.{Passes, course_passes, ends_in_time, handles, passes_on, passes_rise, stays}
use Rattle.text_commands.proofs.NamedPorts.{write_same}
use Rattle.text_commands.proofs.PortRounds.{run_more, world_with}

-- ---- a protected medium over a line

bay_same : (old new : Board) → SameMedia old new → (bay : ℕ) → (drive_in new bay).medium ≡ (drive_in old bay).medium
bay_same old new same bay = by_bay (bay == 0)
  where
    by_bay : (b : Bool) → (if b then new.first else new.second).medium ≡ (if b then old.first else old.second).medium
    by_bay true = same.first
    by_bay false = same.second

-- the medium of a bay is the same
abbrev KeepsBay : ℕ → Board → Board → Type 0
KeepsBay bay old new = (drive_in new bay).medium ≡ (drive_in old bay).medium

kept : (bay : ℕ) (old : Board) → is_protected (drive_in old bay).medium ≡ true → Steady (KeepsBay bay old)
kept bay old covered = guarding bay (drive_in old bay).medium covered

read_guards : (port value : ℕ) (old new : Board) → Inputs port old value new → (bay : ℕ) → GuardsBay bay old new
read_guards port value old new access bay covered = inputs (KeepsBay bay old) (kept bay old covered) port value old new refl access

write_guards : (port value : ℕ) (old new : Board) → Outputs port value old new → (bay : ℕ) → GuardsBay bay old new
write_guards port value old new access bay covered =
    outputs (KeepsBay bay old) (kept bay old covered) port value old new (λ between writes. bay_same old between (write_same port value old between writes) bay) access

wait_guards : (n : ℕ) (old new : Board) → Runs n (stirred old) new → (bay : ℕ) → GuardsBay bay old new
wait_guards n old new runs bay covered = wait (KeepsBay bay old) (kept bay old covered) n old new runs refl

-- the bay that isn't touched is the other one
other_same : (touched bay : ℕ) (old new : Board) → touched ≤ 1 → bay ≤ 1 → not (touched == bay) ≡ true → drive_in new (1 - touched) ≡ drive_in old (1 - touched) → drive_in new bay ≡ drive_in old bay
other_same zero (suc zero) old new low within differs same = same
other_same zero (suc (suc n)) old new low within differs same = absurd (omega (arith, within))
other_same (suc zero) zero old new low within differs same = same
other_same (suc zero) (suc (suc n)) old new low within differs same = absurd (omega (arith, within))
other_same (suc (suc n)) bay old new low within differs same = absurd (omega (arith, low))
other_same _ _ old new low within differs same = absurd (false≢true differs)

bay_low : (bay : ℕ) → nat_le bay 1 ≡ true → bay ≤ 1
bay_low bay is = grind (arith, nat_tests)

free_low : (low : Bool) (next : Option Reason) (bad : Reason) → (if low then next else Some bad) ≡ None → low ≡ true
free_low true next bad free = refl
free_low false next bad free = absurd cc

touched_guards : (touched : ℕ) (old new : Board) → nat_le touched 1 ≡ true → Touches touched old new → (bay : ℕ) → bay ≤ 1 → not (touched == bay) ≡ true → GuardsBay bay old new
touched_guards touched old new low touches bay within differs covered =
    ap (λ (s : DriveState). s.medium) (other_same touched bay old new (bay_low touched low) within differs touches.other)

insert_guards : (old new : Bench) (touched : ℕ) (name : List ℕ) (said : LineAnswer) → DoesLine (line.Insert touched name) old said new → GuardsLine (line.Insert touched name) old new
insert_guards old new touched name said does = by_refusal (insert_refusal old.names touched) refl does
  where
    by_refusal : (refusal : Option Reason) → insert_refusal old.names touched ≡ refusal → MatchOption refusal ((said ≡ answer.Done) × LoadsMedium touched name old new) (λ cause. IsRefused cause old said new) → GuardsLine (line.Insert touched name) old new
    by_refusal None free (done, loads) = λ bay within leaves covered. touched_guards touched old.board new.board (free_low (nat_le touched 1) _ _ free) loads.touches bay within leaves covered
    by_refusal (Some cause) taken refused = λ bay within leaves covered. ap (λ (bench : Bench). (drive_in bench.board bay).medium) refused.same

eject_guards : (old new : Bench) (touched : ℕ) (said : LineAnswer) → DoesLine (line.Eject touched) old said new → GuardsLine (line.Eject touched) old new
eject_guards old new touched said does = by_refusal (eject_refusal old.names touched) refl does
  where
    by_refusal : (refusal : Option Reason) → eject_refusal old.names touched ≡ refusal → MatchOption refusal ((said ≡ answer.Done) × StoresMedium touched old new) (λ cause. IsRefused cause old said new) → GuardsLine (line.Eject touched) old new
    by_refusal None free (done, stores) = λ bay within leaves covered. touched_guards touched old.board new.board (free_low (nat_le touched 1) _ _ free) stores.takes.touches bay within leaves covered
    by_refusal (Some cause) taken refused = λ bay within leaves covered. ap (λ (bench : Bench). (drive_in bench.board bay).medium) refused.same

line_guards : (old new : Bench) (asked : PortLine) (said : LineAnswer) → DoesLine asked old said new → GuardsLine asked old new
line_guards old new (line.In port) said (reads, keeps) = λ bay within leaves. read_guards port reads.value old.board new.board reads.inputs bay
line_guards old new (line.Out port value) said (nothing, writes, keeps) = λ bay within leaves. write_guards port value old.board new.board writes bay
line_guards old new (line.Wait steps) said (nothing, runs, keeps) = λ bay within leaves. wait_guards steps old.board new.board runs bay
line_guards old new line.Irq said (latch, is, keeps) = λ bay within leaves covered. ap (λ (board : Board). (drive_in board bay).medium) is
line_guards old new (line.Insert touched name) said does = insert_guards old new touched name said does
line_guards old new (line.Eject touched) said does = eject_guards old new touched said does

pub course_guards : (old new : Bench) (course : List Taken) → PortRun old course new → GuardsCourse old course
course_guards old new [] run = tt
course_guards old new (taken ∷ later) (does, run) = (line_guards old taken.after taken.asked taken.answer does, course_guards taken.after new later run)

-- ---- how far a run came

-- a course was run, and after it no device step passed
record Reaches (old : Bench) (course : List Taken) (new : Bench) : Type 0 where
  pub mid : Bench
  pub run : PortRun old course mid
  pub behind : Passes 0 mid.board new.board

on : (a b c : Bench) → Passes 0 a.board b.board → Passes 0 b.board c.board → Passes 0 a.board c.board
on a b c one two = passes_on 0 0 0 a.board b.board c.board (omega arith) one two

ends_behind : (bay : ℕ) (old new : Bench) → EndsBay bay old new → Passes 0 old.board new.board
ends_behind bay old new (Stored is stores) = handles bay old.board new.board stores.takes.touches
ends_behind bay old new (Left left) = stays old new left.same

end_stops_behind : (old new : Bench) → EndStopsAt old new → Passes 0 old.board new.board
end_stops_behind old new (AtFirst drops) = handles 0 old.board new.board drops.takes.touches
end_stops_behind old new (AtSecond mid first drops) = on old mid new (ends_behind 0 old mid first) (handles 1 mid.board new.board drops.takes.touches)

stops_behind : (old new : Bench) (asked : PortLine) (cause : Stop) → StopsAt asked old cause new → Passes 0 old.board new.board
stops_behind old new (line.Insert bay name) cause (free, because, same) = stays old new same
stops_behind old new (line.Eject bay) cause (free, only, drops) = handles bay old.board new.board drops.takes.touches
stops_behind old new _ cause stops = absurd stops

lines_reach : (old new : World) (asked_for : List PortLine) (course : List Taken) (ended : Status) → PlaysLines asked_for old course new ended → Reaches old.bench course new.bench
lines_reach old new asked_for course ended (Played played) = record {
  mid = played.mid;
  run = played.run;
  behind = on played.mid played.stored.mid new.bench (ends_behind 0 played.mid played.stored.mid played.stored.first) (ends_behind 1 played.stored.mid new.bench played.stored.second);
}
lines_reach old new asked_for course ended (Stopped stopped) = record {
  mid = stopped.mid;
  run = stopped.run;
  behind = stops_behind stopped.mid new.bench stopped.asked stopped.cause stopped.stops;
}
lines_reach old new asked_for course ended (BrokenOff cut) = record {
  mid = cut.last.after;
  run = subst (λ (c : List Taken). PortRun old.bench c cut.last.after) (sym cut.course_is) (run_more old.bench cut.mid cut.before cut.last cut.run cut.does);
  behind = stays cut.last.after new.bench cut.after;
}
lines_reach old new asked_for course ended (EndStopped stopped) = record {
  mid = stopped.mid;
  run = stopped.run;
  behind = end_stops_behind stopped.mid new.bench stopped.stops;
}

none_reach : (old new : Bench) (course : List Taken) → course ≡ [] → new ≡ old → Reaches old course new
none_reach old new course nothing same =
    subst (λ (c : List Taken). Reaches old c new) (sym nothing) (record { mid = old; run = refl; behind = stays old new same })

parsed_reach : (old new : World) (parsed : Result (List PortLine) ℕ) (course : List Taken) (ended : Status) → PlaysParsed parsed old course new ended → Reaches old.bench course new.bench
parsed_reach old new (Ok asked_for) course ended plays = lines_reach old new asked_for course ended plays
parsed_reach old new (Err bad) course ended alone = none_reach old.bench new.bench course alone.nothing alone.tells.bench

idle_reach : (old new : World) (course : List Taken) (cause ended : Status) → IsIdle old course new cause ended → Reaches old.bench course new.bench
idle_reach old new course cause ended idle = none_reach old.bench new.bench course idle.nothing (ap (λ (world : World). world.bench) idle.same)

plays_reach : (old new : World) (name : List ℕ) (course : List Taken) (ended : Status) → Plays name old course new ended → Reaches old.bench course new.bench
plays_reach old new name course ended (There plays) = parsed_reach old new (ports_of plays.text) course ended plays.plays
plays_reach old new name course ended (Missing absent alone) = none_reach old.bench new.bench course alone.nothing alone.tells.bench
plays_reach old new name course ended (TooLong longer alone) = none_reach old.bench new.bench course alone.nothing alone.tells.bench
plays_reach old new name course ended (Faulty idle) = idle_reach old new course _ ended idle
plays_reach old new name course ended (Starved idle) = idle_reach old new course _ ended idle

-- what holds of every run
pub ran : (old new : World) (name : List ℕ) (ended : Status) → IsInRange old.bench.board → ((course : List Taken) × Plays name old course new ended) → RunsPorts name old new ended
ran old new name ended range (course, plays) =
    let reached = plays_reach old new name course ended plays in
    let least = waits_of course in
    record {
      course = course;
      plays = plays;
      steps = passes_rise least old.bench.board new.bench.board
          (passes_on least 0 least old.bench.board reached.mid.board new.bench.board (omega arith) (course_passes old.bench reached.mid course reached.run) reached.behind);
      media = course_guards old.bench reached.mid course reached.run;
      ends = ends_in_time old.bench reached.mid new.bench course range reached.run reached.behind;
    }

-- a run on a machine whose media have no names at first
pub ran_bare : (board : Board) (names : Names) (files : Option Files) (report : Option (List (List ℕ))) (new : World) (name : List ℕ) (ended : Status) → names ≡ no_names → IsInRange board → ((course : List Taken) × Plays name (world_with board names files report) course new ended) → RunsPorts name (world_with board no_names files report) new ended
ran_bare board names files report new name ended same range plays =
    ran (world_with board no_names files report) new name ended range
    (subst (λ (n : Names). (course : List Taken) × Plays name (world_with board n files report) course new ended) same plays)

-- nothing was done if memory ran out before the first line
pub starves : (old : World) (name : List ℕ) → RunsPorts name old old status.NoMemory
starves old name = record {
  course = [];
  plays = Starved (record { nothing = refl; same = refl; status = refl });
  steps = omega arith;
  media = tt;
  ends = tt;
}
