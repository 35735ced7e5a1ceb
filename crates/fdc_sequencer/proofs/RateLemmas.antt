-- The data rate of the controller through port accesses.
use Rattle.std.proofs.Common.{◌≡◌, ℕ, Bool, true, false, Option, Some, None, [], ◌∷◌, ◌++◌, refl, sym, ap, ◌∙◌}
use Rattle.std.specs.Prelude.{◌==◌, ◌||◌, if◌then◌else◌}
use Rattle.fdc_sequencer.proofs.Common.{eqb-true, true≢false, nanoseconds, data_rate, seek_bits, sensed, has_ended_seek, without_ended, reset, ending_told, given_up_if, given_up, without_seek, Fdc}
use Rattle.fdc_commands.specs.Table.{answer, kept}
use Rattle.fdc_commands.specs.declared.bytes.Accepted.{Accepted}
use Rattle.fdc_commands.specs.declared.bytes.Accepted.TheVariants.{Ready}
use Rattle.fdc_commands.specs.declared.command.Command.{Command}
use Rattle.fdc_commands.specs.declared.command.Command.TheVariants as command
use Rattle.fdc_stages.specs.declared.ending.Ending.{Ending}
use Rattle.fdc_core.specs.Commands.{answered, sensing_by, BeginsData, Begins, ObeysAtRest, Obeys, TakesAs, Takes}
use Rattle.fdc_core.specs.Ports.{is_taking, Writes}
use Rattle.fdc_phases.specs.Rates.{rate_chosen}
use Rattle.fdc_core.specs.declared.controller.Lines.{Lines}

either_way : {P : Type 0} (b : Bool) → (b ≡ true → P) → (b ≡ false → P) → P
either_way true set clear = set refl
either_way false set clear = clear refl

-- ---- commands

data_begun : (command : Command) (old new : Fdc) → BeginsData command old new → data_rate new ≡ data_rate old
data_begun (command.ReadId h) old new (task, is, waits, after) = ap data_rate after
data_begun (command.ReadData h key last x y) old new (task, is, waits, after) = ap data_rate after
data_begun (command.WriteData h key last x y) old new (task, is, waits, after) = ap data_rate after
data_begun (command.WriteDeleted h key last x y) old new (task, is, waits, after) = ap data_rate after
data_begun (command.FormatTrack h n sectors gap3 fill) old new (task, is, waits, after) = ap data_rate after
data_begun (command.Specify x y) old new after = ap data_rate after
data_begun (command.SenseDrive x) old new after = ap data_rate after
data_begun (command.Recalibrate x) old new after = ap data_rate after
data_begun command.SenseInterrupt old new after = ap data_rate after
data_begun (command.Seek x y) old new after = ap data_rate after
data_begun command.Version old new after = ap data_rate after
data_begun (command.Configure x y z) old new after = ap data_rate after

begun_rate : (command : Command) (old new : Fdc) → Begins command old new → data_rate new ≡ data_rate old
begun_rate command old new begins = either_way old.non_dma (λ set. ap data_rate (begins.0 set)) (λ clear. data_begun command old new (begins.1 clear))

sensing_rate : (old : Fdc) (found : Option (ℕ × ℕ)) → data_rate (sensing_by found old) ≡ data_rate old
sensing_rate old None = refl
sensing_rate old (Some (status, cylinder)) = refl

at_rest : (command : Command) (lines : Lines) (old new : Fdc) → ObeysAtRest command lines old new → data_rate new ≡ data_rate old
at_rest command.SenseInterrupt lines old new after = ap data_rate after ∙ sensing_rate old (sensed old.seeks)
at_rest (command.ReadId h) lines old new after = begun_rate (command.ReadId h) old new after
at_rest (command.ReadData h key last x y) lines old new after = begun_rate (command.ReadData h key last x y) old new after
at_rest (command.WriteData h key last x y) lines old new after = begun_rate (command.WriteData h key last x y) old new after
at_rest (command.WriteDeleted h key last x y) lines old new after = begun_rate (command.WriteDeleted h key last x y) old new after
at_rest (command.FormatTrack h n sectors gap3 fill) lines old new after = begun_rate (command.FormatTrack h n sectors gap3 fill) old new after
at_rest _ lines old new after = ap data_rate after

-- what a command does while a seek bit is set, and while none is
seek_or_rest : (command : Command) (lines : Lines) (old new : Fdc) → (seek_bits old.seeks ≡ 0 → ObeysAtRest command lines old new)
    → ((seek_bits old.seeks == 0) ≡ false → new ≡ answered 0x80 None old) → data_rate new ≡ data_rate old
seek_or_rest command lines old new resting seeking = either_way (seek_bits old.seeks == 0)
    (λ none. at_rest command lines old new (resting (eqb-true (seek_bits old.seeks) 0 none))) (λ some. ap data_rate (seeking some))

obeyed : (command : Command) (lines : Lines) (old new : Fdc) → Obeys command lines old new → data_rate new ≡ data_rate old
obeyed command.SenseInterrupt lines old new after = ap data_rate after ∙ sensing_rate old (sensed old.seeks)
obeyed (command.Specify x y) lines old new (resting, seeking) = seek_or_rest (command.Specify x y) lines old new resting seeking
obeyed (command.SenseDrive x) lines old new (resting, seeking) = seek_or_rest (command.SenseDrive x) lines old new resting seeking
obeyed (command.Recalibrate x) lines old new (resting, seeking) = seek_or_rest (command.Recalibrate x) lines old new resting seeking
obeyed (command.Seek x y) lines old new (resting, seeking) = seek_or_rest (command.Seek x y) lines old new resting seeking
obeyed command.Version lines old new (resting, seeking) = seek_or_rest command.Version lines old new resting seeking
obeyed (command.Configure x y z) lines old new (resting, seeking) = seek_or_rest (command.Configure x y z) lines old new resting seeking
obeyed (command.ReadId h) lines old new (resting, seeking) = seek_or_rest (command.ReadId h) lines old new resting seeking
obeyed (command.ReadData h key last x y) lines old new (resting, seeking) = seek_or_rest (command.ReadData h key last x y) lines old new resting seeking
obeyed (command.WriteData h key last x y) lines old new (resting, seeking) = seek_or_rest (command.WriteData h key last x y) lines old new resting seeking
obeyed (command.WriteDeleted h key last x y) lines old new (resting, seeking) = seek_or_rest (command.WriteDeleted h key last x y) lines old new resting seeking
obeyed (command.FormatTrack h n sectors gap3 fill) lines old new (resting, seeking) = seek_or_rest (command.FormatTrack h n sectors gap3 fill) lines old new resting seeking

-- what bytes came to keeps the data rate
pub taken_as : (came : Accepted) (lines : Lines) (old new : Fdc) → TakesAs came lines old new → data_rate new ≡ data_rate old
taken_as (Ready command) lines old new after = obeyed command lines old new after
taken_as _ lines old new after = ap data_rate after

-- ---- ports

-- a byte of a command keeps the data rate
takes_rate : (byte : ℕ) (lines : Lines) (old new : Fdc) → Takes byte lines old new → data_rate new ≡ data_rate old
takes_rate byte lines old new takes =
    let bytes = old.command ++ byte ∷ [] in taken_as (answer bytes) lines (record old { command = kept (answer bytes) bytes }) new takes

reset_or_not : (b : Bool) (set : Fdc) → data_rate (if b then reset set else set) ≡ data_rate set
reset_or_not true set = refl
reset_or_not false set = refl

-- a write of DSR or CCR chooses the data rate
chosen_rate : (port value : ℕ) (lines : Lines) (old new : Fdc) → Writes port value lines old new → (port == 0x3F4 || port == 0x3F7) ≡ true
    → data_rate new ≡ rate_chosen value
chosen_rate port value lines old new writes here = either_way (port == 0x3F4)
    (λ is. ap data_rate (writes.select (eqb-true port 0x3F4 is)) ∙ reset_or_not _ (record old { rate = rate_chosen value }))
    (λ other. ap data_rate (writes.control (eqb-true port 0x3F7 (sym (ap (λ b. b || port == 0x3F7) other) ∙ here))))

-- a write of any other port keeps the data rate
kept_rate : (port value : ℕ) (lines : Lines) (old new : Fdc) → Writes port value lines old new → (port == 0x3F4 || port == 0x3F7) ≡ false
    → data_rate new ≡ data_rate old
kept_rate port value lines old new writes away = either_way (port == 0x3F2)
    (λ output. ap data_rate (writes.output (eqb-true port 0x3F2 output)) ∙ reset_or_not _ (record old { dor = record { 0 = value } }))
    (λ no_output. either_way (port == 0x3F5)
    (λ bytes. either_way (is_taking old) (λ taking. takes_rate value lines old new ((writes.bytes (eqb-true port 0x3F5 bytes)).0 taking))
    (λ deaf. ap data_rate ((writes.bytes (eqb-true port 0x3F5 bytes)).1 deaf)))
    (λ no_bytes. ap data_rate (writes.others no_output (neither_first (port == 0x3F4) (port == 0x3F7) away) no_bytes
    (neither_second (port == 0x3F4) (port == 0x3F7) away))))
  where
    neither_first : (a b : Bool) → (a || b) ≡ false → a ≡ false
    neither_first false b none = refl
    neither_first true b none = none

    neither_second : (a b : Bool) → (a || b) ≡ false → b ≡ false
    neither_second false b none = none
    neither_second true b none = absurd (true≢false none)

-- the word time after a write of a port
pub time_after : (port value was : ℕ) (lines : Lines) (old new : Fdc) → Writes port value lines old new → was ≡ nanoseconds (data_rate old)
    → (if port == 0x3F4 || port == 0x3F7 then nanoseconds (rate_chosen value) else was) ≡ nanoseconds (data_rate new)
time_after port value was lines old new writes is = by_port (port == 0x3F4 || port == 0x3F7) refl
  where
    by_port : (b : Bool) → (port == 0x3F4 || port == 0x3F7) ≡ b → (if b then nanoseconds (rate_chosen value) else was) ≡ nanoseconds (data_rate new)
    by_port true here = sym (ap nanoseconds (chosen_rate port value lines old new writes here))
    by_port false away = is ∙ sym (ap nanoseconds (kept_rate port value lines old new writes away))

-- ---- whole commands

given_up_by : (ending : Option Ending) (old : Fdc) → data_rate (given_up_if ending old) ≡ data_rate old
given_up_by None old = refl
given_up_by (Some ending) old = refl

-- results that are given up keep the data rate
pub given_up_rate : (old : Fdc) → data_rate (given_up old) ≡ data_rate old
given_up_rate old = given_up_by (ending_told old) old

-- a seek that is dropped keeps the data rate
pub without_seek_rate : (old : Fdc) → data_rate (without_seek old) ≡ data_rate old
without_seek_rate old = by_end (has_ended_seek old.seeks) (record old { seeks = without_ended old.seeks; interrupt = false }) refl
  where
    by_end : (b : Bool) (set : Fdc) → data_rate set ≡ data_rate old → data_rate (if b then set else old) ≡ data_rate old
    by_end true set same = same
    by_end false set same = refl
