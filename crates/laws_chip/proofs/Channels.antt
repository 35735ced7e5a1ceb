-- What the inner controller executes, through the channel, the terminal count, ports and media.
use Rattle.std.proofs.Common.{◌≡◌, ◌⊎◌, inl, inr, ℕ, ◌-◌, Bool, true, false, ◌==◌, if◌then◌else◌, Option, [], refl, sym, ◌∙◌, ap, subst}
use Rattle.laws_chip.proofs.Common.{false≢true, seek_bits, phase_told, Phase, Taking, Execute, Task, told_count, Writes, resets, is_held, reset, IsCounted, Fdc, Lines, lines_at, Front, GivesFront, KeepsFront, TakesAt, TakesFront, WritesFront, count_told, passed_one, told_front, told_if, MovingSector, FrontStage, Through, Seeking, Moving, Telling, is_under_way, KeepsServing, ServesUnless, history_counted, history_given, history_taken, Place, Address, ChipTask, ExecutesBehind, IsBusyAt, IsBusyWith, ServesBehind, WaitsForHeads, executes_single, is_single}
use Rattle.laws_chip.proofs.Called.{media_serve}
use Rattle.laws_chip.proofs.Served.{counts_serve, gives_serve, takes_serve, writes_serve}
use Rattle.laws_chip.proofs.Known.{port_sets}
use Rattle.laws_chip.proofs.UnderWay.{BytePasses, Own, OfSector, Quiet, counts_under, gives_pass, pass_under, port_stage, takes_pass, writes_under, IsBase}
use Rattle.laws_chip.proofs.Rests.{WaitsBehind}
use Rattle.laws_chip.proofs.SoundParts.{TellsBehind}
use Rattle.fdc_phases.specs.declared.phases.Task.TheVariants as task
use Rattle.fdc_chip.specs.declared.stage.ChipTask.TheVariants as chip

-- the results of what was executed are there
abbrev pub IsOverBehind : Front → Type 0
IsOverBehind front = TellsBehind front ⊎ WaitsBehind front

-- what is executed for a task goes on, if both kinds of it do
keep_at : (place : Place) (old new : Front) → (ServesBehind old → ServesBehind new) → (ExecutesBehind old → ExecutesBehind new) → IsBusyAt place old → IsBusyAt place new
keep_at Address old new serves executes busy = executes busy
keep_at _ old new serves executes busy = serves busy

pub keep_with : (what : ChipTask) (old new : Front) → (ServesBehind old → ServesBehind new) → (ExecutesBehind old → ExecutesBehind new) → IsBusyWith what old → IsBusyWith what new
keep_with chip.Sent old new serves executes (inl busy) = inl (serves busy)
keep_with chip.Sent old new serves executes (inr busy) = inr (executes busy)
keep_with (chip.Verify left) old new serves executes busy = serves busy
keep_with (chip.Track track) old new serves executes busy = keep_at track.place old new serves executes busy
keep_with _ old new serves executes busy = executes busy

-- ---- the controller

-- the controller is as it was, in all on which our knowledge of what it executes depends
pub record IsAlike (old new : Fdc) : Type 0 where
  pub phase : new.phase ≡ old.phase
  pub seeks : new.seeks ≡ old.seeks
  pub dor : new.dor ≡ old.dor
  pub non_dma : new.non_dma ≡ old.non_dma
  pub command : new.command ≡ old.command

told_base : (old : Fdc) → old.command ≡ [] → IsBase old (told_count old)
told_base old none = record { dor = refl; non_dma = refl; command = none }

-- ---- where each access is the controller's

-- a command of the controller's own goes on
executes_alike : (old new : Front) → new.stage ≡ old.stage → IsAlike old.adapter.controller new.adapter.controller → ExecutesBehind old → ExecutesBehind new
executes_alike old new stage alike was =
    record {
      through = stage ∙ was.through;
      executes = ap executes_single alike.phase ∙ was.executes;
      counted = subst IsCounted (sym alike.phase) was.counted;
      rests = ap seek_bits alike.seeks ∙ was.rests;
    }

-- the results of a command of the controller's own go on waiting
waits_alike : (old new : Front) → new.stage ≡ old.stage → IsAlike old.adapter.controller new.adapter.controller → WaitsBehind old → WaitsBehind new
waits_alike old new stage alike was =
    record { through = stage ∙ was.through; ending = was.ending; results = was.results; at = alike.phase ∙ was.at; rests = ap seek_bits alike.seeks ∙ was.rests }

single_told : (begins : Task) → is_single begins ≡ true → executes_single (phase_told (Execute (record { head_drive = 0; steps = 0; task = begins }))) ≡ true
single_told (task.Read reading) single = absurd (false≢true single)
single_told (task.Write writing) single = absurd (false≢true single)
single_told _ single = refl

phase_single : (phase : Phase) → executes_single phase ≡ true → executes_single (phase_told phase) ≡ true
phase_single (Execute execution) single = single_told execution.task single
phase_single _ single = absurd (false≢true single)

told_counted : (phase : Phase) → IsCounted phase → IsCounted (phase_told phase)
told_counted (Execute execution) counted = counted
told_counted _ counted = tt

executes_told : (old : Front) → ExecutesBehind old → ExecutesBehind (record old { adapter = told_if true old.adapter })
executes_told old was = record {
  through = was.through;
  executes = phase_single old.adapter.controller.phase was.executes;
  counted = told_counted old.adapter.controller.phase was.counted;
  rests = was.rests;
}

waits_told : (old : Front) → WaitsBehind old → WaitsBehind (record old { adapter = told_if true old.adapter })
waits_told old was = record { through = was.through; ending = was.ending; results = was.results; at = ap phase_told was.at; rests = was.rests }

-- ---- bytes

front_pass : (old new : Front) → old.stage ≡ Through → BytePasses old new → (new.stage ≡ old.stage) × IsAlike old.adapter.controller new.adapter.controller
front_pass old new through (Quiet is) =
    subst (λ (front : Front). (front.stage ≡ old.stage) × IsAlike old.adapter.controller front.adapter.controller) (sym is) (refl, record { phase = refl; seeks = refl; dor = refl; non_dma = refl; command = refl })
front_pass old new through (Own fdc at passed is) =
    subst (λ (front : Front). (front.stage ≡ old.stage) × IsAlike old.adapter.controller front.adapter.controller) (sym is)
    (refl, record { phase = passed.phase; seeks = passed.seeks; dor = passed.dor; non_dma = passed.non_dma; command = passed.command })
front_pass old new through (OfSector moving fdc at passed is) = absurd (cc (through, at))

pub front_takes : (old : Front) (byte : Option ℕ) (new : Front) → old.stage ≡ Through → TakesFront old byte new → (new.stage ≡ old.stage) × IsAlike old.adapter.controller new.adapter.controller
front_takes old byte new through takes = front_pass old new through (takes_pass old.stage byte old new refl takes)

pub front_gives : (byte : ℕ) (old : Front) (was : Bool) (new : Front) → old.stage ≡ Through → GivesFront byte old was new → (new.stage ≡ old.stage) × IsAlike old.adapter.controller new.adapter.controller
front_gives byte old was new through gives = front_pass old new through (gives_pass old.stage byte was old new refl gives)

passed_base : (moving : MovingSector) (fdc : Fdc) (old : Front) → IsBase old.adapter.controller fdc → IsBase old.adapter.controller (passed_one moving fdc old).adapter.controller
passed_base moving fdc old base = by_last (moving.left - 1 == 0)
  where
    by_last : (b : Bool) → IsBase old.adapter.controller (if b then told_count fdc else fdc)
    by_last true = record { dor = base.dor; non_dma = base.non_dma; command = base.command }
    by_last false = base

same_base : (old new : Front) → new ≡ old → old.adapter.controller.command ≡ [] → IsBase old.adapter.controller new.adapter.controller
same_base old new is none = subst (λ (front : Front). IsBase old.adapter.controller front.adapter.controller) (sym is) (record { dor = refl; non_dma = refl; command = none })

pass_base : (old new : Front) → old.adapter.controller.command ≡ [] → BytePasses old new → IsBase old.adapter.controller new.adapter.controller
pass_base old new none (Quiet is) = same_base old new is none
pass_base old new none (Own fdc at passed is) =
    subst (λ (front : Front). IsBase old.adapter.controller front.adapter.controller) (sym is) (record { dor = passed.dor; non_dma = passed.non_dma; command = passed.command ∙ none })
pass_base old new none (OfSector moving fdc at passed is) =
    subst (λ (front : Front). IsBase old.adapter.controller front.adapter.controller) (sym is)
    (passed_base moving fdc old (record { dor = passed.dor; non_dma = passed.non_dma; command = passed.command ∙ none }))

counts_base : (stage : FrontStage) (old new : Front) → old.adapter.controller.command ≡ [] → new ≡ count_told stage old → IsBase old.adapter.controller new.adapter.controller
counts_base (Seeking transfer counted) old new none is =
    subst (λ (front : Front). IsBase old.adapter.controller front.adapter.controller) (sym is) (record { dor = refl; non_dma = refl; command = none })
counts_base (Telling results) old new none is = same_base old new is none
counts_base _ old new none is = subst (λ (front : Front). IsBase old.adapter.controller front.adapter.controller) (sym is) (told_base old.adapter.controller none)

-- while the heads seek first, the controller goes on waiting
waits_same : (old new : Front) → new ≡ old → WaitsForHeads old.stage old.adapter.controller.phase → WaitsForHeads new.stage new.adapter.controller.phase
waits_same old new is waits = subst (λ (front : Front). WaitsForHeads front.stage front.adapter.controller.phase) (sym is) waits

moving_waits : (moving : MovingSector) (new : Front) → new.stage ≡ Moving moving → WaitsForHeads new.stage new.adapter.controller.phase
moving_waits moving new is = subst (λ stage. WaitsForHeads stage new.adapter.controller.phase) (sym is) tt

pass_waits : (old new : Front) → WaitsForHeads old.stage old.adapter.controller.phase → BytePasses old new → WaitsForHeads new.stage new.adapter.controller.phase
pass_waits old new waits (Quiet is) = waits_same old new is waits
pass_waits old new waits (Own fdc at passed is) = subst (λ stage. WaitsForHeads stage new.adapter.controller.phase) (sym (ap (λ (front : Front). front.stage) is ∙ at)) tt
pass_waits old new waits (OfSector moving fdc at passed is) = moving_waits (record moving { left = moving.left - 1 }) new (ap (λ (front : Front). front.stage) is)

counts_waits : (stage : FrontStage) (old new : Front) → old.stage ≡ stage → WaitsForHeads old.stage old.adapter.controller.phase → new ≡ count_told stage old → WaitsForHeads new.stage new.adapter.controller.phase
counts_waits Through old new at waits is = subst (λ stage. WaitsForHeads stage new.adapter.controller.phase) (sym (ap (λ (front : Front). front.stage) is ∙ at)) tt
counts_waits (Seeking transfer counted) old new at waits is =
    let held : old.adapter.controller.phase ≡ Taking = subst (λ stage. WaitsForHeads stage old.adapter.controller.phase) at waits in
    subst (λ (front : Front). WaitsForHeads front.stage front.adapter.controller.phase) (sym is) held
counts_waits (Moving moving) old new at waits is = moving_waits (record moving { counted = true }) new (ap (λ (front : Front). front.stage) is)
counts_waits (Telling results) old new at waits is = waits_same old new is waits

-- ---- what is executed goes on

takes_serves : (old : Front) (byte : Option ℕ) (new : Front) → TakesFront old byte new → ServesBehind old → ServesBehind new
takes_serves old byte new takes was = record {
  under_way = pass_under old new (takes_pass old.stage byte old new refl takes) was.under_way;
  first = was.first;
  history = history_taken old.stage byte was.history;
  serves = (takes_serve old byte new takes was.first was.history was.serves).2;
  waits = pass_waits old new was.waits (takes_pass old.stage byte old new refl takes);
}

pub takes_executes : (old : Front) (byte : Option ℕ) (new : Front) → TakesFront old byte new → ExecutesBehind old → ExecutesBehind new
takes_executes old byte new takes was = let (stage, alike) = front_takes old byte new was.through takes in executes_alike old new stage alike was

pub takes_busy : (what : ChipTask) (old : Front) (byte : Option ℕ) (new : Front) → TakesFront old byte new → IsBusyWith what old → IsBusyWith what new
takes_busy what old byte new takes busy = keep_with what old new (takes_serves old byte new takes) (takes_executes old byte new takes) busy

gives_serves : (byte : ℕ) (old : Front) (given : Bool) (new : Front) → GivesFront byte old given new → ServesBehind old → ServesBehind new
gives_serves byte old given new gives was = record {
  under_way = pass_under old new (gives_pass old.stage byte given old new refl gives) was.under_way;
  first = was.first;
  history = history_given old.stage byte given was.history;
  serves = (gives_serve byte old given new gives was.first was.history was.serves).2;
  waits = pass_waits old new was.waits (gives_pass old.stage byte given old new refl gives);
}

pub gives_executes : (byte : ℕ) (old : Front) (given : Bool) (new : Front) → GivesFront byte old given new → ExecutesBehind old → ExecutesBehind new
gives_executes byte old given new gives was = let (stage, alike) = front_gives byte old given new was.through gives in executes_alike old new stage alike was

pub gives_busy : (what : ChipTask) (byte : ℕ) (old : Front) (given : Bool) (new : Front) → GivesFront byte old given new → IsBusyWith what old → IsBusyWith what new
gives_busy what byte old given new gives busy = keep_with what old new (gives_serves byte old given new gives) (gives_executes byte old given new gives) busy

counts_serves : (old new : Front) → new ≡ told_front old → ServesBehind old → ServesBehind new
counts_serves old new is was = record {
  under_way = counts_under old new was.under_way is;
  first = was.first;
  history = history_counted old.stage was.history;
  serves = (counts_serve old new is was.first was.history was.serves).2;
  waits = counts_waits old.stage old new refl was.waits is;
}

pub counts_executes : (old new : Front) → new ≡ told_front old → ExecutesBehind old → ExecutesBehind new
counts_executes old new is was =
    let at : new ≡ record old { adapter = told_if true old.adapter } = subst (λ stage. new ≡ count_told stage old) was.through is in
    subst ExecutesBehind (sym at) (executes_told old was)

pub counts_busy : (what : ChipTask) (old new : Front) → new ≡ told_front old → IsBusyWith what old → IsBusyWith what new
counts_busy what old new is busy = keep_with what old new (counts_serves old new is) (counts_executes old new is) busy

pub takes_front_base : (old : Front) (byte : Option ℕ) (new : Front) → old.adapter.controller.command ≡ [] → TakesFront old byte new → IsBase old.adapter.controller new.adapter.controller
takes_front_base old byte new none takes = pass_base old new none (takes_pass old.stage byte old new refl takes)

pub gives_front_base : (byte : ℕ) (old : Front) (was : Bool) (new : Front) → old.adapter.controller.command ≡ [] → GivesFront byte old was new → IsBase old.adapter.controller new.adapter.controller
gives_front_base byte old was new none gives = pass_base old new none (gives_pass old.stage byte was old new refl gives)

pub counts_front_base : (old new : Front) → old.adapter.controller.command ≡ [] → new ≡ told_front old → IsBase old.adapter.controller new.adapter.controller
counts_front_base old new none is = counts_base old.stage old new none is

-- ---- ---- results stay as they were

tells_same : (old new : Front) → new ≡ old → TellsBehind old → TellsBehind new
tells_same old new is was = subst TellsBehind (sym is) was

pub takes_over : (old : Front) (byte : Option ℕ) (new : Front) → TakesFront old byte new → IsOverBehind old → IsOverBehind new
takes_over old byte new takes (inl was) = inl (tells_same old new (subst (λ stage. TakesAt stage old byte new) was.told takes).1 was)
takes_over old byte new takes (inr was) = let (stage, alike) = front_takes old byte new was.through takes in inr (waits_alike old new stage alike was)

pub counts_over : (old new : Front) → new ≡ told_front old → IsOverBehind old → IsOverBehind new
counts_over old new is (inl was) = inl (tells_same old new (subst (λ stage. new ≡ count_told stage old) was.told is) was)
counts_over old new is (inr was) =
    let at : new ≡ record old { adapter = told_if true old.adapter } = subst (λ stage. new ≡ count_told stage old) was.through is in
    inr (subst WaitsBehind (sym at) (waits_told old was))

-- ---- ports

-- a write that doesn't reset leaves these parts of the controller, and doesn't hold it in reset
pub record IsLeft (old new : Fdc) : Type 0 where
  pub phase : new.phase ≡ old.phase
  pub seeks : new.seeks ≡ old.seeks
  pub non_dma : new.non_dma ≡ old.non_dma
  pub command : new.command ≡ old.command
  pub poll : new.poll_due ≡ old.poll_due
  pub interrupt : new.interrupt ≡ old.interrupt
  pub free : is_held new ≡ true → is_held old ≡ true

pub port_left : (port value : ℕ) (lines : Lines) (old new : Fdc) → Writes port value lines old new → (port == 0x3F5) ≡ false → resets port value ≡ false → IsLeft old new
port_left port value lines old new writes no_byte no_reset =
    let sets = port_sets port value lines old new writes no_byte in
    let same = sets.same in
    subst (IsLeft old) (sym (sets.is ∙ ap (λ b. if b then reset sets.set else sets.set) no_reset)) (record {
      phase = same.phase;
      seeks = same.seeks;
      non_dma = same.non_dma;
      command = same.command;
      poll = same.poll;
      interrupt = same.interrupt;
      free = sets.free no_reset;
    })

pub front_left : (port value : ℕ) (old new : Front) → WritesFront port value old new → (port == 0x3F5) ≡ false → resets port value ≡ false → IsLeft old.adapter.controller new.adapter.controller
front_left port value old new writes no_byte no_reset =
    port_left port value (lines_at old.adapter) old.adapter.controller new.adapter.controller (writes.others no_byte).0.writes no_byte no_reset

port_serves : (port value : ℕ) (old new : Front) → WritesFront port value old new → (port == 0x3F5) ≡ false → resets port value ≡ false → ServesBehind old → ServesBehind new
port_serves port value old new writes no_byte no_reset was =
    let keeps : KeepsServing [] (λ history. history) old new = subst (λ b. ServesUnless b old new) no_reset (writes_serve port value old new writes) in
    let left = front_left port value old new writes no_byte no_reset in
    record {
      under_way = writes_under port value old new was.under_way writes no_reset;
      first = was.first;
      history = was.history;
      serves = (keeps was.first was.history was.serves).2;
      waits = subst (λ stage. WaitsForHeads stage new.adapter.controller.phase) (sym (port_stage port value old new writes no_byte no_reset))
          (subst (λ phase. WaitsForHeads old.stage phase) (sym left.phase) was.waits);
    }

pub port_executes : (port value : ℕ) (old new : Front) → WritesFront port value old new → (port == 0x3F5) ≡ false → resets port value ≡ false → ExecutesBehind old → ExecutesBehind new
port_executes port value old new writes no_byte no_reset was =
    let left = front_left port value old new writes no_byte no_reset in
    record {
      through = port_stage port value old new writes no_byte no_reset ∙ was.through;
      executes = ap executes_single left.phase ∙ was.executes;
      counted = subst IsCounted (sym left.phase) was.counted;
      rests = ap seek_bits left.seeks ∙ was.rests;
    }

pub port_busy : (what : ChipTask) (port value : ℕ) (old new : Front) → WritesFront port value old new → (port == 0x3F5) ≡ false → resets port value ≡ false → IsBusyWith what old → IsBusyWith what new
port_busy what port value old new writes no_byte no_reset busy = search (keep_with, port_serves, port_executes)

-- ---- media

keeps_serves : (old new : Front) → KeepsFront old new → ServesBehind old → ServesBehind new
keeps_serves old new keeps was = record {
  under_way = ap is_under_way keeps.stage ∙ was.under_way;
  first = was.first;
  history = was.history;
  serves = (media_serve old new keeps was.first was.history was.serves).2;
  waits = subst (λ stage. WaitsForHeads stage new.adapter.controller.phase) (sym keeps.stage)
      (subst (λ (fdc : Fdc). WaitsForHeads old.stage fdc.phase) (sym keeps.controller) was.waits);
}

pub keeps_executes : (old new : Front) → KeepsFront old new → ExecutesBehind old → ExecutesBehind new
keeps_executes old new keeps was = record {
  through = keeps.stage ∙ was.through;
  executes = ap (λ (fdc : Fdc). executes_single fdc.phase) keeps.controller ∙ was.executes;
  counted = subst (λ (fdc : Fdc). IsCounted fdc.phase) (sym keeps.controller) was.counted;
  rests = ap (λ (fdc : Fdc). seek_bits fdc.seeks) keeps.controller ∙ was.rests;
}

pub keeps_busy : (what : ChipTask) (old new : Front) → KeepsFront old new → IsBusyWith what old → IsBusyWith what new
keeps_busy what old new keeps busy = keep_with what old new (keeps_serves old new keeps) (keeps_executes old new keeps) busy
