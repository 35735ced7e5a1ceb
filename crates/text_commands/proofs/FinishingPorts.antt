-- Every line is a course of the machine, and what runs at its beginning finishes in time.
use Rattle.std.proofs.Common.{◌≡◌, ℕ, ◌+◌, ◌≤◌, List, [], ◌∷◌, Option, Some, None, sym, subst, arith}
use Rattle.text_commands.proofs.Common.{MatchOption, PortLine, Board, IsInRange, Touches, irq_taken, Reason, LineAnswer, Bench, PortRun, waits_of, DoesLine, LoadsMedium, StoresMedium, IsRefused, insert_refusal, eject_refusal, waits_in}
use Rattle.flop_base.specs.Counts.{RoseBy}
use Rattle.floppy_jobs.specs.declared.ports.PortLine.TheVariants as line
use Rattle.irq_events.specs.Entries.{next_entry}
use Rattle.laws_machine.specs.OnSteps.Moves.{Acts, Goes}
use Rattle.laws_machine.proofs.OnSteps.Moves.{goes_counted, data_over, input_goes, output_goes, wait_goes, goes_on}
use Rattle.laws_machine.proofs.OnSteps.SeekEnds.{seek_ends_in_time}
use Rattle.text_commands.specs.declared.ports.answer.LineAnswer.TheVariants as answer
use Rattle.text_commands.specs.PortCourses.{Taken}
use Rattle.text_commands.specs.PortFinishes.{FinishesIn, EndInTime}

-- ---- lines as courses

-- a course of so many device steps or more
pub record Passes (least : ℕ) (old new : Board) : Type 0 where
  pub steps : ℕ
  pub least_is : least ≤ steps
  pub goes : Goes old steps new

acts : (old new : Board) → Acts old new → Passes 0 old new
acts old new act = record { steps = 0; least_is = omega arith; goes = Goes.Does 0 old new Goes.Stays act }

pub handles : (bay : ℕ) (old new : Board) → Touches bay old new → Passes 0 old new
handles bay old new touches = acts old new (Acts.Handles bay new touches)

pub stays : (old new : Bench) → new ≡ old → Passes 0 old.board new.board
stays old new same = subst (λ (bench : Bench). Passes 0 old.board bench.board) (sym same) (record { steps = 0; least_is = omega arith; goes = Goes.Stays })

pub passes_on : (n m all : ℕ) (a b c : Board) → all ≤ n + m → Passes n a b → Passes m b c → Passes all a c
passes_on n m all a b c few one two =
    let first = one.least_is in let second = two.least_is in
    record { steps = one.steps + two.steps; least_is = omega arith; goes = goes_on a b c one.steps two.steps one.goes two.goes }

inserts : (old new : Bench) (bay : ℕ) (name : List ℕ) (said : LineAnswer) (refusal : Option Reason) → MatchOption refusal ((said ≡ answer.Done) × LoadsMedium bay name old new) (λ cause. IsRefused cause old said new) → Passes 0 old.board new.board
inserts old new bay name said None (done, loads) = handles bay old.board new.board loads.touches
inserts old new bay name said (Some cause) refused = stays old new refused.same

ejects : (old new : Bench) (bay : ℕ) (said : LineAnswer) (refusal : Option Reason) → MatchOption refusal ((said ≡ answer.Done) × StoresMedium bay old new) (λ cause. IsRefused cause old said new) → Passes 0 old.board new.board
ejects old new bay said None (done, stores) = handles bay old.board new.board stores.takes.touches
ejects old new bay said (Some cause) refused = stays old new refused.same

line_passes : (old new : Bench) (asked : PortLine) (said : LineAnswer) → DoesLine asked old said new → Passes (waits_in asked) old.board new.board
line_passes old new (line.In port) said (reads, keeps) = record { steps = next_entry old.board.bus.gaps; least_is = omega arith; goes = input_goes port reads.value old.board new.board reads.inputs }
line_passes old new (line.Out port value) said (nothing, writes, keeps) = record { steps = next_entry old.board.bus.gaps; least_is = omega arith; goes = output_goes port value old.board new.board writes }
line_passes old new (line.Wait steps) said (nothing, runs, keeps) = record { steps = steps; least_is = omega arith; goes = wait_goes steps old.board new.board runs }
line_passes old new line.Irq said (latch, is, keeps) = subst (λ board. Passes 0 old.board board) (sym is) (acts old.board (record old.board { bus = irq_taken old.board.bus }) Acts.Takes)
line_passes old new (line.Insert bay name) said does = inserts old new bay name said (insert_refusal old.names bay) does
line_passes old new (line.Eject bay) said does = ejects old new bay said (eject_refusal old.names bay) does

pub course_passes : (old new : Bench) (course : List Taken) → PortRun old course new → Passes (waits_of course) old.board new.board
course_passes old new [] run = stays old new run
course_passes old new (taken ∷ later) (does, run) =
    passes_on (waits_in taken.asked) (waits_of later) (waits_of (taken ∷ later)) old.board taken.after.board new.board (omega arith)
    (line_passes old taken.after taken.asked taken.answer does) (course_passes taken.after new later run)

-- ---- what follows

pub passes_rise : (n : ℕ) (old new : Board) → Passes n old new → RoseBy n old.bus.steps new.bus.steps
passes_rise n old new passes =
    let counts = goes_counted passes.steps old new passes.goes in let least = counts.least in let few = passes.least_is in omega arith

finishes : (old new : Bench) (course : List Taken) → IsInRange old.board → Passes (waits_of course) old.board new.board → FinishesIn old course new
finishes old new course range passes = let few = passes.least_is in record {
  command = λ many. record { steps = passes.steps; least = few; meets = data_over old.board new.board passes.steps passes.goes (omega arith) };
  seek = λ many idle runs. record {
    steps = passes.steps;
    least = few;
    meets = seek_ends_in_time old.board new.board passes.steps passes.goes range idle runs (omega arith);
  };
}

-- a course of lines was run, and after it no device step passed
pub ends_in_time : (old mid new : Bench) (course : List Taken) → IsInRange old.board → PortRun old course mid → Passes 0 mid.board new.board → EndInTime old course new
ends_in_time old mid new [] range run behind = tt
ends_in_time old mid new (taken ∷ later) range (does, run) behind =
    let least = waits_of (taken ∷ later) in (
      finishes old new (taken ∷ later) range (passes_on least 0 least old.board mid.board new.board (omega arith) (course_passes old mid (taken ∷ later) (does, run)) behind),
      ends_in_time taken.after mid new later taken.range run behind,
    )
