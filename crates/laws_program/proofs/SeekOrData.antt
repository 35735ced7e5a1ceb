-- Port accesses change at most one word of a medium in each device step.
use Rattle.std.proofs.Common.{ℕ, zero, suc, ◌≤◌, Bool, List, refl, ap, subst, ◌≡◌, ◌∙◌, inl, inr, ◌+◌, ◌==◌, true, false, Option, Some, None, [], ◌∷◌, ◌++◌, if◌then◌else◌, sym}
use Rattle.irq_events.specs.Entries.{next_entry}
use Rattle.laws_machine.specs.OnSteps.Steady.{regapped, Marching}
use Rattle.laws_machine.specs.OnWrites.Guards.{GuardsMedia}
use Rattle.laws_machine.proofs.OnSteps.Runs.{inputs, outputs, march_gap, march_wait, march_waits, read_from}
use Rattle.laws_machine.proofs.OnWrites.Guards.{step_guards, no_bits}
use Rattle.laws_program.proofs.Common.{Board, Waits, stirred, Bus, false≢true, Seeking, is_seeking, seek_bits, sensed, Seek, is_executing, controller_of, RunsNoSeek, Goes, Lasting, lasts, NotBoth}
use Rattle.pc_bus.specs.Ports.{Inputs, Outputs}
use Rattle.pc_bus.specs.Steps.{Runs, Step}
use Rattle.text_commands.specs.PortGuards.{SameMedia}
use Rattle.text_commands.proofs.NamedPorts.{write_same}
use Rattle.laws_program.specs.ChangedWords.{ChangesWords}
use Rattle.fdc_commands.specs.Table.{answer, kept}
use Rattle.fdc_commands.specs.declared.bytes.Accepted.{Accepted}
use Rattle.fdc_commands.specs.declared.bytes.Accepted.TheVariants.{Invalid, More, Ready}
use Rattle.fdc_commands.specs.declared.command.Command.{Command}
use Rattle.fdc_stages.specs.declared.formatting.FormatNext.{FormatNext}
use Rattle.fdc_stages.specs.declared.writing.WriteNext.{WriteNext}
use Rattle.drive_model.specs.Drive.{DriveState}
use Rattle.fdc_phases.specs.Rates.{rate_chosen}
use Rattle.fdc_phases.specs.declared.phases.Phase.{Phase}
use Rattle.fdc_phases.specs.declared.phases.Task.{Task}
use Rattle.fdc_phases.specs.declared.phases.Task.TheVariants.{ReadId, Read, Write, Format}
use Rattle.fdc_phases.specs.declared.transfers.Formatting.{Formatting}
use Rattle.fdc_phases.specs.declared.transfers.Writing.{Writing}
use Rattle.fdc_core.specs.Commands.{BeginsData, Begins, ObeysAtRest, Obeys, TakesAs, answered, sensing_by}
use Rattle.fdc_core.specs.Courses.{Works}
use Rattle.fdc_core.specs.Formatting.{after_laid}
use Rattle.fdc_core.specs.Ports.{Writes, dor_resets, dsr_resets, given, is_taking, takes_in}
use Rattle.fdc_core.specs.State.{is_held, reset}
use Rattle.fdc_core.specs.Steps.{MovesIn, RestsIn, polled}
use Rattle.fdc_core.specs.Tasks.{StepsNowhere, TaskStepsNowhere}
use Rattle.fdc_core.specs.Writing.{after_next}
use Rattle.fdc_core.specs.declared.controller.Fdc.{Fdc}
use Rattle.fdc_core.specs.declared.controller.Lines.{Lines}
use Rattle.laws_machine.proofs.Facts.{idle_read, polled_phase, told_busy}
use Rattle.laws_machine.proofs.OnAwaits.Turning.{word_leaves}
use Rattle.laws_machine.proofs.OnQuiet.Listening.{word_heard}
use Rattle.laws_machine.proofs.OnSteps.Transfers.{Touches, at_controller, after_step}
use Rattle.laws_machine.proofs.OnSteps.Words.{by_phase, controller_dma, polled_seek, controller}
use Rattle.laws_machine.proofs.OnSteps.Moves.{port_is, zero_of}
use Rattle.fdc_commands.specs.declared.command.Command.TheVariants as command
use Rattle.fdc_stages.specs.declared.formatting.FormatNext.TheVariants as format_next
use Rattle.fdc_stages.specs.declared.writing.WriteNext.TheVariants as write_next
use Rattle.fdc_phases.specs.declared.phases.Phase.TheVariants as phase

none_change : (start old : Board) → SameMedia start old → ChangesWords zero start old
unfolding ChangesWords
none_change start old same = same

more_change : (n : ℕ) (start old new : Board) → ChangesWords n start old → GuardsMedia old new → ChangesWords (suc n) start new
unfolding ChangesWords
more_change n start old new was guards = (old, was, guards)

gaps_change : (n : ℕ) (start old : Board) (gaps : List ℕ) (fresh : Bool) → ChangesWords n start old → ChangesWords n start (regapped gaps fresh old)
unfolding ChangesWords
gaps_change zero start old gaps fresh was = record { first = was.first; second = was.second }
gaps_change (suc n) start old gaps fresh (between, was, guards) = (between, was, record { first = guards.first; second = guards.second })

changing : (start : Board) → Marching (λ n. ChangesWords n start)
changing start = record {
  step = λ n old new step was. more_change n start old new was (step_guards old new step);
  idle = λ n. gaps_change n start;
}

pub read_changes : (port value : ℕ) (old new : Board) → Inputs port old value new → ChangesWords (next_entry old.bus.gaps) old new
read_changes port value old new inputs =
    march_gap (λ n. ChangesWords n old) (changing old) (read_from port old) new inputs.gap (none_change old (read_from port old) (record { first = refl; second = refl }))

pub write_changes : (port value : ℕ) (old new : Board) → Outputs port value old new → ChangesWords (next_entry old.bus.gaps) old new
write_changes port value old new outputs =
    let between = outputs.between in
    subst (λ (gaps : List ℕ). ChangesWords (next_entry gaps) old new) (ap (λ (bus : Bus). bus.gaps) outputs.writes.bus)
    (march_gap (λ n. ChangesWords n old) (changing old) between new outputs.gap (none_change old between (write_same port value old between outputs.writes)))

pub wait_changes : (n : ℕ) (old new : Board) → Runs n (stirred old) new → ChangesWords n old new
wait_changes n old new runs = march_wait (λ n. ChangesWords n old) (changing old) n old new runs (none_change old old (record { first = refl; second = refl }))

pub wait_irq_changes : (most : ℕ) (old new : Board) (set : Bool) → Waits most old set new → (n : ℕ) × (n ≤ most) × ChangesWords n old new
wait_irq_changes most old new set waits =
    (waits.steps, waits.within, march_waits (λ n. ChangesWords n old) (changing old) most set old new waits (none_change old old (record { first = refl; second = refl })))

-- ---- A controller that begins no data command during a seek, and no seek during a data command

-- ---- the seeks

not_sought : (a b : Seeking) → a.seek ≡ b.seek → is_seeking b ≡ false → is_seeking a ≡ false
not_sought a b same none = ap (λ (seek : Option Seek). is_seeking (record a { seek = seek })) same ∙ none

no_seek : (seeks : Seeking) → seeks.seek ≡ None → is_seeking seeks ≡ false
no_seek seeks none = ap (λ (seek : Option Seek). is_seeking (record seeks { seek = seek })) none

-- ---- the device step, where no data command is in execution: none begins

rested_idle : (p : Phase) (track0 : Bool) (polls new : Fdc) → is_executing p ≡ false → polls.phase ≡ p → RestsIn p track0 polls new
    → is_executing new.phase ≡ false
rested_idle phase.Command track0 polls new idle same rests = ap (λ fdc. is_executing fdc.phase) rests ∙ ap is_executing same
rested_idle (phase.Result answer) track0 polls new idle same rests = ap (λ fdc. is_executing fdc.phase) rests ∙ ap is_executing same
rested_idle (phase.Execute execution) track0 polls new idle same rests = absurd (false≢true (sym idle))

word_idle : (old between : Fdc) (track0 : Bool) → is_executing old.phase ≡ false → RestsIn (polled old).phase track0 (polled old) between
    → is_executing between.phase ≡ false
word_idle old between track0 idle rests =
    rested_idle (polled old).phase track0 (polled old) between (ap is_executing (polled_phase old) ∙ idle) refl rests

step_idle : (old new : Board) → Step old new → is_executing (controller_of old).phase ≡ false → is_executing (controller_of new).phase ≡ false
step_idle old new step idle =
    after_step (λ c. is_executing c.controller.phase ≡ false) (by_phase is_executing told_busy false) old new step
    (controller (is_executing step.between.phase ≡ false) old new step
    (λ before after works. word_idle (controller_of old) step.between (before.cylinder == 0) idle works.rests)
    (λ works. word_idle (controller_of old) step.between false idle works.rests))

-- ---- the device step, where one is in execution: the seeks stay

driven_seeks : (old between : Fdc) (before after : DriveState) → is_executing old.phase ≡ true → Works old before between after
    → between.seeks ≡ (polled old).seeks
driven_seeks old between before after busy works =
    let leaves = word_leaves old.phase old.asking old.fifo _ works.reads.word (polled old) before after between busy
    (subst (λ p. MovesIn p (polled old) before after) (polled_phase old) works.drive) works.writes works.reads.follows.executes in
    leaves.controller.seeks

next_seeks : (head_drive steps : ℕ) (writing : Writing) (next : WriteNext) (old : Fdc) → (after_next head_drive steps writing next old).seeks ≡ old.seeks
next_seeks head_drive steps writing (write_next.On stage) old = refl
next_seeks head_drive steps writing (write_next.Ended ending) old = refl

laid_seeks : (head_drive steps : ℕ) (formatting : Formatting) (next : FormatNext) (old : Fdc)
    → (after_laid head_drive steps formatting next old).seeks ≡ old.seeks
laid_seeks head_drive steps formatting (format_next.On stage) old = refl
laid_seeks head_drive steps formatting (format_next.Ended ending key) old = refl

task_seeks : (task : Task) (head_drive steps : ℕ) (polls between : Fdc) → TaskStepsNowhere task head_drive steps polls between
    → between.seeks ≡ polls.seeks
task_seeks (ReadId search) head_drive steps polls between does =
    let heard = word_heard (phase.Execute (record { head_drive = head_drive; steps = steps; task = ReadId search })) polls between false 0 refl refl does in
    heard.seeks
task_seeks (Read reading) head_drive steps polls between does =
    let heard = word_heard (phase.Execute (record { head_drive = head_drive; steps = steps; task = Read reading })) polls between false 0 refl refl does in
    heard.seeks
task_seeks (Write writing) head_drive steps polls between does = elim does [
  | inl (last, is) ↦ ap (λ fdc. fdc.seeks) is
  | inr (few, (next, hears, is)) ↦ ap (λ fdc. fdc.seeks) is ∙ next_seeks head_drive (steps + 1) writing next polls
]
task_seeks (Format formatting) head_drive steps polls between does = elim does [
  | inl (last, is) ↦ ap (λ fdc. fdc.seeks) is
  | inr (few, (next, hears, is)) ↦ ap (λ fdc. fdc.seeks) is ∙ laid_seeks head_drive (steps + 1) formatting next polls
]

alone_seeks : (p : Phase) (polls between : Fdc) → is_executing p ≡ true → StepsNowhere p polls between → between.seeks ≡ polls.seeks
alone_seeks (phase.Execute execution) polls between busy does = task_seeks execution.task execution.head_drive execution.steps polls between does
alone_seeks _ polls between busy does = absurd (false≢true busy)

between_seek : (old new : Board) (step : Step old new) → is_executing (controller_of old).phase ≡ true
    → step.between.seeks.seek ≡ (controller_of old).seeks.seek
between_seek old new step busy = controller (step.between.seeks.seek ≡ (controller_of old).seeks.seek) old new step
    (λ before after works. ap (λ (s : Seeking). s.seek) (driven_seeks (controller_of old) step.between before after busy works)
    ∙ polled_seek (controller_of old))
    (λ works. ap (λ (s : Seeking). s.seek) (alone_seeks (controller_of old).phase (polled (controller_of old)) step.between busy works.nowhere)
    ∙ polled_seek (controller_of old))

step_none : (old new : Board) → Step old new → is_executing (controller_of old).phase ≡ true → RunsNoSeek old → RunsNoSeek new
step_none old new step busy none =
    let all : (controller_of new).seeks ≡ step.between.seeks =
    ap (λ bus. bus.chips.controller.seeks) step.bus
    ∙ controller_dma (λ fdc. fdc.seeks) (λ fdc. refl) (λ fdc. refl) (λ byte fdc. refl) (record old.bus.chips { controller = step.between }) in
    not_sought (controller_of new).seeks (controller_of old).seeks (ap (λ (s : Seeking). s.seek) all ∙ between_seek old new step busy) none

step_apart : (old new : Board) → Step old new → NotBoth (controller_of old) → NotBoth (controller_of new)
step_apart old new step (inl idle) = inl (step_idle old new step idle)
step_apart old new step (inr none) = by_phases (is_executing (controller_of old).phase) refl
  where
    by_phases : (b : Bool) → is_executing (controller_of old).phase ≡ b → NotBoth (controller_of new)
    by_phases true busy = inr (step_none old new step busy none)
    by_phases false idle = inl (step_idle old new step idle)

-- ---- commands

answered_apart : (byte : ℕ) (last : Option ℕ) (old new : Fdc) → new ≡ answered byte last old → NotBoth new
answered_apart byte last old new is = inl (ap (λ fdc. is_executing fdc.phase) is)

sensed_apart : (some : Option (ℕ × ℕ)) (old new : Fdc) → new ≡ sensing_by some old → NotBoth new
sensed_apart None old new is = inl (ap (λ fdc. is_executing fdc.phase) is)
sensed_apart (Some (status, cylinder)) old new is = inl (ap (λ fdc. is_executing fdc.phase) is)

-- a data command begins only where no seek runs
begun_apart : (old new : Fdc) → old.seeks.seek ≡ None → new.seeks ≡ old.seeks → NotBoth new
begun_apart old new none same = inr (no_seek new.seeks (ap (λ (s : Seeking). s.seek) same ∙ none))

data_begins : (c : Command) (old new : Fdc) → old.seeks.seek ≡ None → BeginsData c old new → NotBoth new
data_begins (command.ReadId head_drive) old new none (task, is, waits, after) = begun_apart old new none (ap (λ fdc. fdc.seeks) after)
data_begins (command.ReadData head_drive key eot gpl dtl) old new none (task, is, waits, after) = begun_apart old new none (ap (λ fdc. fdc.seeks) after)
data_begins (command.WriteData head_drive key eot gpl dtl) old new none (task, is, waits, after) = begun_apart old new none (ap (λ fdc. fdc.seeks) after)
data_begins (command.WriteDeleted head_drive key eot gpl dtl) old new none (task, is, waits, after) = begun_apart old new none (ap (λ fdc. fdc.seeks) after)
data_begins (command.FormatTrack head_drive n sc gpl fill) old new none (task, is, waits, after) = begun_apart old new none (ap (λ fdc. fdc.seeks) after)
data_begins _ old new none is = answered_apart 0x80 None old new is

by_dma : (c : Command) (old new : Fdc) → old.seeks.seek ≡ None → Begins c old new → NotBoth new
by_dma c old new none (without, with_dma) = by_bit old.non_dma refl
  where
    by_bit : (b : Bool) → old.non_dma ≡ b → NotBoth new
    by_bit true is = answered_apart 0x80 None old new (without is)
    by_bit false is = data_begins c old new none (with_dma is)

at_rest : (c : Command) (lines : Lines) (old new : Fdc) → is_executing old.phase ≡ false → old.seeks.seek ≡ None → ObeysAtRest c lines old new → NotBoth new
at_rest (command.Specify srt_hut hlt_nd) lines old new idle none is = inl (ap (λ fdc. is_executing fdc.phase) is ∙ idle)
at_rest (command.SenseDrive head_drive) lines old new idle none is = inl (ap (λ fdc. is_executing fdc.phase) is)
at_rest (command.Recalibrate drive) lines old new idle none is = inl (ap (λ fdc. is_executing fdc.phase) is ∙ idle)
at_rest command.SenseInterrupt lines old new idle none is = sensed_apart (sensed old.seeks) old new is
at_rest (command.Seek head_drive target) lines old new idle none is = inl (ap (λ fdc. is_executing fdc.phase) is ∙ idle)
at_rest command.Version lines old new idle none is = answered_apart 0x90 None old new is
at_rest (command.Configure fixed options pretrk) lines old new idle none is = inl (ap (λ fdc. is_executing fdc.phase) is ∙ idle)
at_rest c lines old new idle none is = by_dma c old new none is

by_bits : (c : Command) (lines : Lines) (old new : Fdc) → is_executing old.phase ≡ false → (seek_bits old.seeks ≡ 0 → ObeysAtRest c lines old new)
    → ((seek_bits old.seeks == 0) ≡ false → new ≡ answered 0x80 None old) → NotBoth new
by_bits c lines old new idle rests refuses = by_test (seek_bits old.seeks == 0) refl
  where
    by_test : (b : Bool) → (seek_bits old.seeks == 0) ≡ b → NotBoth new
    by_test true is = let none = zero_of (seek_bits old.seeks) is in at_rest c lines old new idle (no_bits old.seeks none) (rests none)
    by_test false is = answered_apart 0x80 None old new (refuses is)

obeys : (c : Command) (lines : Lines) (old new : Fdc) → is_executing old.phase ≡ false → Obeys c lines old new → NotBoth new
obeys command.SenseInterrupt lines old new idle is = sensed_apart (sensed old.seeks) old new is
obeys c lines old new idle (rests, refuses) = by_bits c lines old new idle rests refuses

took : (accepted : Accepted) (lines : Lines) (old new : Fdc) → is_executing old.phase ≡ false → TakesAs accepted lines old new → NotBoth new
took More lines old new idle is = inl (ap (λ fdc. is_executing fdc.phase) is ∙ idle)
took (Ready c) lines old new idle does = obeys c lines old new idle does
took Invalid lines old new idle is = answered_apart 0x80 None old new is

-- ---- what is done in no device step

same_apart : (old new : Fdc) → new ≡ old → NotBoth old → NotBoth new
same_apart old new same was = subst NotBoth (sym same) was

set_apart : (b : Bool) (set : Fdc) → NotBoth set → NotBoth (if b then reset set else set)
set_apart true set was = inl refl
set_apart false set was = was

taking_idle : (p : Phase) (held : Bool) → takes_in p held ≡ true → is_executing p ≡ false
taking_idle (phase.Execute execution) held takes = absurd (false≢true takes)
taking_idle _ held takes = refl

sent : (value : ℕ) (lines : Lines) (old new : Fdc) (port : ℕ) → port ≡ 0x3F5 → Writes port value lines old new → NotBoth old → NotBoth new
sent value lines old new port is writes was = by_taking (is_taking old) refl
  where
    by_taking : (b : Bool) → is_taking old ≡ b → NotBoth new
    by_taking true takes =
        let bytes = old.command ++ value ∷ [] in
        took (answer bytes) lines (record old { command = kept (answer bytes) bytes }) new (taking_idle old.phase (is_held old) takes) ((writes.bytes is).0 takes)
    by_taking false ignores = same_apart old new ((writes.bytes is).1 ignores) was

writes_apart : (port value : ℕ) (lines : Lines) (old new : Fdc) → Writes port value lines old new → NotBoth old → NotBoth new
writes_apart port value lines old new writes was = by_port (port == 0x3F2) (port == 0x3F4) (port == 0x3F5) (port == 0x3F7) refl refl refl refl
  where
    by_port : (a b c d : Bool) → (port == 0x3F2) ≡ a → (port == 0x3F4) ≡ b → (port == 0x3F5) ≡ c → (port == 0x3F7) ≡ d → NotBoth new
    by_port true b c d p q r s =
        subst NotBoth (sym (writes.output (port_is port 0x3F2 p))) (set_apart (dor_resets value) (record old { dor = record { 0 = value } }) was)
    by_port false true c d p q r s =
        subst NotBoth (sym (writes.select (port_is port 0x3F4 q))) (set_apart (dsr_resets value) (record old { rate = rate_chosen value }) was)
    by_port false false true d p q r s = sent value lines old new port (port_is port 0x3F5 r) writes was
    by_port false false false true p q r s = subst NotBoth (sym (writes.control (port_is port 0x3F7 s))) was
    by_port false false false false p q r s = same_apart old new (writes.others p q r s) was

given_apart : (old new : Fdc) → new ≡ given old → NotBoth old → NotBoth new
given_apart old new is (inl idle) = inl (ap (λ fdc. is_executing fdc.phase) is ∙ idle_read old.phase idle)
given_apart old new is (inr none) = inr (ap (λ fdc. is_seeking fdc.seeks) is ∙ none)

touches_apart : (old new : Fdc) → Touches old new → NotBoth old → NotBoth new
touches_apart old new (Touches.Leaves last is) was = same_apart old last is was
touches_apart old new (Touches.Gives last is) was = given_apart old last is was
touches_apart old new (Touches.Takes port value lines last writes) was = writes_apart port value lines old last writes was

-- ---- courses

staying : Lasting (λ n board. NotBoth (controller_of board))
staying = record {
  step = λ n old new step was. step_apart old new step was;
  act = λ n old new acts was. touches_apart (controller_of old) (controller_of new) (at_controller old new acts) was;
}

pub goes_apart : (old new : Board) (n : ℕ) → Goes old n new → NotBoth (controller_of old) → NotBoth (controller_of new)
goes_apart old new n goes was = lasts (λ n board. NotBoth (controller_of board)) staying old new n goes was
