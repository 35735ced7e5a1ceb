-- A sound chip through each call.
use Rattle.std.proofs.Common.{◌≡◌, inl, inr, ℕ, ◌+◌, ◌<◌, nat_le, Bool, true, false, not, ◌&&◌, ◌==◌, if◌then◌else◌, Option, List, [], ◌∷◌, length, bit_and, bit_or, refl, sym, ◌∙◌, ap, subst, arith}
use Rattle.laws_chip.proofs.Common.{agree_below_at, and_parts, eqb-true, not-true, or_cases, DriveState, at_rest, rate_chosen, Taking, Writes, dor_resets, dsr_resets, resets, is_gated, is_held, reset, Fdc, Lines, lines_at, Front, KeepsFront, WritesFront, Through, answer_bytes, is_of_data, ChipState, IsNewChip, is_data, passes, passes_by_channel, passes_by_port, with_front, code_of, with_byte, CollectsIf, ComesIf, GivesChipIf, GivesIf, ReadsAt, ReadsChip, ReadsIf, TakesByte, TakesIf, byte_told, counted_if, latched_by, given_one, is_whole, may_come, quieted_if, reset_if, value_behind, with_next, is_by_port, ChipAnswer, Order, ChipStage, Ready, Busy, ChipTask, IsOfFour, AreMade, Call, Does, WritesByte, IsBusyWith, IsSound, IsSoundAt, RestsBehind, chip_count_told as count_told, ChipTelling as Telling, Seeks as Seeking}
use Rattle.fdc_chip.specs.Pins.{ResetsByPin, pin_settings}
use Rattle.laws_chip.proofs.Attended.{attended_sound}
use Rattle.laws_chip.proofs.Channels.{counts_busy, counts_front_base, front_left, gives_busy, gives_front_base, keeps_busy, port_busy, takes_busy, takes_front_base}
use Rattle.laws_chip.proofs.Known.{port_sets}
use Rattle.laws_chip.proofs.Rests.{base_same}
use Rattle.laws_chip.proofs.SoundParts.{IsBasis, basis_busy, basis_rests, basis_same, basis_set, busy_at, is_busy, keep_sound, passing_of, same_sound, sound_basis, sound_set, stays_sound}
use Rattle.laws_chip.proofs.SoundSteps.{step_sound}
use Rattle.laws_chip.proofs.UnderWay.{clash, either_way, port_stage, ready_free, IsBase}
use Rattle.fdc_sequencer.specs.Fronts as fronts
use Rattle.fdc_chip.specs.declared.stage.ChipTask.TheVariants as task
use Rattle.laws_chip.specs.Calls as made
use Rattle.laws_chip.proofs.SoundParts as parts

-- ---- bytes of what is executed

-- while a command is executed, the front may change
busy_sound : (what : ChipTask) (old new : ChipState) → old.stage ≡ Busy what → IsSound old → new ≡ with_front new.front old → IsBusyWith what new.front → IsBase old.front.adapter.controller new.front.adapter.controller → IsSound new
busy_sound what old new at sound rest busy base =
    basis_busy new what (basis_same old new (sound_basis old (ap parts.is_ready at) sound) base (ap (λ (chip : ChipState). chip.count) rest) (ap (λ (chip : ChipState). chip.order) rest)) busy
    (ap (λ (chip : ChipState). chip.stage) rest ∙ at)

takes_sound : (b : Bool) (byte : Option ℕ) (old new : ChipState) → passes_by_channel old ≡ b → IsSound old → TakesIf b old byte new → IsSound new
takes_sound true byte old new shown sound (takes, rest) =
    let (what, at) = passing_of old (and_parts (old.gated && not (is_by_port old.settings)) (passes old) shown).1 in
    busy_sound what old new at sound rest (takes_busy what old.front byte new.front takes (busy_at old what at sound)) (takes_front_base old.front byte new.front sound.whole takes)
takes_sound false byte old new shown sound (none, is) = same_sound old new is sound

gives_sound : (b : Bool) (byte : ℕ) (was : Bool) (old new : ChipState) → passes_by_channel old ≡ b → IsSound old → GivesChipIf b byte old was new → IsSound new
gives_sound true byte was old new shown sound (gives, rest) =
    let (what, at) = passing_of old (and_parts (old.gated && not (is_by_port old.settings)) (passes old) shown).1 in
    busy_sound what (given_one was old) new at (sound_set old (given_one was old) sound) rest (gives_busy what byte old.front was new.front gives (busy_at old what at sound)) (gives_front_base byte old.front was new.front sound.whole gives)
gives_sound false byte was old new shown sound (none, is) = same_sound old new is sound

read_sound : (b : Bool) (value : ℕ) (old new : ChipState) → passes_by_port old ≡ b → IsSound old → ReadsIf b old value new → IsSound new
read_sound true value old new shown sound reads =
    let (what, at) = passing_of old (and_parts (is_by_port old.settings) (passes old) shown).1 in
    busy_sound what old new at sound reads.rest (takes_busy what old.front reads.byte new.front reads.takes (busy_at old what at sound)) (takes_front_base old.front reads.byte new.front sound.whole reads.takes)
read_sound false value old new shown sound (none, is) = same_sound old new is sound

write_sound : (b : Bool) (value : ℕ) (old new : ChipState) → passes_by_port old ≡ b → IsSound old → GivesIf b value old new → IsSound new
write_sound true value old new shown sound gives =
    let (what, at) = passing_of old (and_parts (is_by_port old.settings) (passes old) shown).1 in
    busy_sound what (given_one gives.was old) new at (sound_set old (given_one gives.was old) sound) gives.rest (gives_busy what value old.front gives.was new.front gives.gives (busy_at old what at sound)) (gives_front_base value old.front gives.was new.front sound.whole gives.gives)
write_sound false value old new shown sound is = same_sound old new is sound

-- ---- the terminal count

-- the inner controller is given the terminal count, or isn't
counted_sound : (b : Bool) (under : ChipTask) (set new : ChipState) → IsBasis set → IsBusyWith under set.front → set.stage ≡ Busy under → new ≡ counted_if b set → IsSound new
counted_sound true under set new basis busy stage is =
    let counted = fronts.told_front set.front in
    let next : ChipState = with_front counted set in
    subst IsSound (sym is) (basis_busy next under (basis_same set next basis (counts_front_base set.front counted basis.whole refl) refl refl) (counts_busy under set.front counted refl busy) stage)
counted_sound false under set new basis busy stage is = subst IsSound (sym is) (basis_busy set under basis busy stage)

counts_at : (stage : ChipStage) (old new : ChipState) → old.stage ≡ stage → IsSound old → new ≡ count_told stage old → IsSound new
counts_at (Busy task.Sent) old new at sound is =
    counted_sound true task.Sent old new (sound_basis old (ap parts.is_ready at) sound) (busy_at old task.Sent at sound) at is
counts_at (Busy (task.Track track)) old new at sound is =
    let told : ChipTask = task.Track (record track { counted = true }) in
    let set = record old { stage = Busy told } in
    counted_sound (is_data track.place) told set new (basis_set old set (sound_basis old (ap parts.is_ready at) sound)) (busy_at old (task.Track track) at sound) refl is
counts_at _ old new at sound is = same_sound old new is sound

-- ---- reads

-- a byte of an answer is read
pub record IsTold (old new : ChipState) : Type 0 where
  pub front : new.front ≡ old.front
  count : new.count ≡ old.count
  order : new.order ≡ old.order
  idle : is_busy new.stage ≡ false

pub byte_stays : (answer : ChipAnswer) (read : ℕ) (old : ChipState) → IsTold old (byte_told answer read old)
byte_stays answer read old = by_last (is_of_data answer && (read == 0)) (nat_le (length (answer_bytes answer)) (read + 1))
  where
    by_last : (quiet last : Bool) → IsTold old (record (quieted_if quiet old) { stage = if last then Ready else Telling answer (read + 1) })
    by_last true true = record { front = refl; count = refl; order = refl; idle = refl }
    by_last true false = record { front = refl; count = refl; order = refl; idle = refl }
    by_last false true = record { front = refl; count = refl; order = refl; idle = refl }
    by_last false false = record { front = refl; count = refl; order = refl; idle = refl }

told_sound : (answer : ChipAnswer) (read : ℕ) (old new : ChipState) → old.stage ≡ Telling answer read → IsSound old → new ≡ byte_told answer read old → IsSound new
told_sound answer read old new at sound is =
    let set = byte_told answer read old in
    let stays = byte_stays answer read old in
    let basis = sound_basis old (ap parts.is_ready at) sound in
    let base = subst (λ (front : Front). IsBase old.front.adapter.controller front.adapter.controller) (sym stays.front) (base_same old.front.adapter.controller sound.whole) in
    subst IsSound (sym is) (basis_rests set set.stage (basis_same old set basis base stays.count stays.order)
    (subst RestsBehind (sym stays.front) (parts.at_rest old.stage old.front (ap is_busy at) sound.now)) refl stays.idle)

data_read : (stage : ChipStage) (value : ℕ) (old new : ChipState) → old.stage ≡ stage → IsSound old → ReadsAt stage old value new → IsSound new
data_read (Telling answer read) value old new at sound (value_is, is) = told_sound answer read old new at sound is
data_read _ value old new at sound reads = read_sound (passes_by_port old) value old new refl sound reads

reads_sound : (port value : ℕ) (old new : ChipState) → IsSound old → ReadsChip port old value new → IsSound new
reads_sound port value old new sound reads = either_way (port == 0x3F5)
    (λ here. data_read old.stage value old new refl sound (reads.byte (eqb-true port 0x3F5 here)))
    (λ no_data. either_way (port == 0x3F4)
    (λ status. same_sound old new (reads.status (eqb-true port 0x3F4 status)).1 sound)
    (λ no_status. same_sound old new (reads.others no_status no_data).1 sound))

-- ---- a byte of a command

-- the code of a command is a byte
pub code_few : (place byte : ℕ) (order : Order) → byte < 256 → order.code < 256 → (with_byte place byte order).code < 256
code_few place byte order few was = by_place (place == 0) (place == 1) (place == 2) (place == 3) (place == 4) (place == 5) (place == 6) (place == 7)
  where
    by_place : (a b c d e f g h : Bool) → (if a then record order { code = byte } else (
        if b then record order { unit = byte } else (
        if c then record order { key = record order.key { c = byte } } else (
        if d then record order { key = record order.key { h = byte } } else (
        if e then record order { key = record order.key { r = byte } } else (
        if f then record order { key = record order.key { n = byte } } else (
        if g then record order { last_sector = byte } else (
        if h then record order { gap = byte } else
        record order { length = byte })))))))).code < 256
    by_place true b c d e f g h = few
    by_place false true c d e f g h = was
    by_place false false true d e f g h = was
    by_place false false false true e f g h = was
    by_place false false false false true f g h = was
    by_place false false false false false true g h = was
    by_place false false false false false false true h = was
    by_place false false false false false false false true = was
    by_place false false false false false false false false = was

-- where a byte of a command may come the controller isn't held in reset
pub comes_free : (old : ChipState) → IsSound old → may_come old ≡ true → is_held old.front.adapter.controller ≡ false
comes_free old sound comes = elim (or_cases (not (old.count == 0)) (fronts.is_ready old.front) comes) [
  | inl begun ↦ either_way (is_held old.front.adapter.controller)
      (λ held. clash (old.count == 0) (not-true (old.count == 0) begun) (ap (λ n. n == 0) (sound.held held).1))
      (λ free. free)
  | inr ready ↦ ready_free old.front ready
]

collects_sound : (b : Bool) (byte : ℕ) (old new : ChipState) → old.stage ≡ Ready → byte < 256 → IsSound old → is_held old.front.adapter.controller ≡ false
    → CollectsIf b (code_of (with_next byte old).order.code) (with_next byte old) new → IsSound new
collects_sound true byte old new at few sound free attends =
    let set : ChipState = record (with_next byte old) { count = 0 } in
    attended_sound (code_of set.order.code) set new (record {
      by_dma = sound.by_dma;
      whole = sound.whole;
      free = free;
      none = refl;
      gated = sound.lets_out free;
      code = code_few old.count byte old.order few sound.code;
    }) (parts.at_rest old.stage old.front (ap is_busy at) sound.now) refl attends
collects_sound false byte old new at few sound free is = subst IsSound (sym is) (record {
  by_dma = sound.by_dma;
  whole = sound.whole;
  held = λ held. clash (is_held old.front.adapter.controller) free held;
  lets_out = sound.lets_out;
  comes = λ some. at;
  code = code_few old.count byte old.order few sound.code;
  now = sound.now;
})

comes_sound : (b : Bool) (byte : ℕ) (old new : ChipState) → may_come old ≡ b → old.stage ≡ Ready → byte < 256 → IsSound old → ComesIf b byte old new → IsSound new
comes_sound true byte old new comes at few sound collects =
    collects_sound (is_whole (with_next byte old).count (code_of (with_next byte old).order.code)) byte old new at few sound (comes_free old sound comes) collects
comes_sound false byte old new comes at few sound is = same_sound old new is sound

data_write : (stage : ChipStage) (value : ℕ) (old new : ChipState) → old.stage ≡ stage → value < 256 → IsSound old → TakesByte stage value old new → IsSound new
data_write Ready value old new at few sound comes = comes_sound (may_come old) value old new refl at few sound comes
data_write _ value old new at few sound gives = write_sound (passes_by_port old) value old new refl sound gives

-- ---- a reset

-- the controller takes commands, or is held in reset, and no seek bit is set
pub record IsAnew (old new : Fdc) : Type 0 where
  pub takes : new.phase ≡ Taking
  pub command : new.command ≡ []
  pub seeks : new.seeks ≡ at_rest
  pub non_dma : new.non_dma ≡ old.non_dma
  pub poll : new.poll_due ≡ true
  pub down : new.interrupt ≡ false

port_anew : (port value : ℕ) (lines : Lines) (old new : Fdc) → Writes port value lines old new → (port == 0x3F5) ≡ false → resets port value ≡ true → IsAnew old new
port_anew port value lines old new writes no_byte anew =
    let sets = port_sets port value lines old new writes no_byte in
    subst (IsAnew old) (sym (sets.is ∙ ap (λ b. if b then reset sets.set else sets.set) anew))
    (record { takes = refl; command = refl; seeks = refl; non_dma = sets.same.non_dma; poll = refl; down = refl })

pub front_anew : (port value : ℕ) (old new : Front) → WritesFront port value old new → (port == 0x3F5) ≡ false → resets port value ≡ true → IsAnew old.adapter.controller new.adapter.controller × (new.stage ≡ Through)
front_anew port value old new writes no_byte anew =
    let (wrote, is) = writes.others no_byte in (
      port_anew port value (lines_at old.adapter) old.adapter.controller new.adapter.controller wrote.writes no_byte anew,
      ap (λ (front : Front). front.stage) (subst (λ b. new ≡ record (fronts.reset_if b old) { adapter = new.adapter }) anew is),
    )

-- the inner DOR lets INT and DRQ out, whatever is written, unless it holds the controller in reset
abbrev LetsOut : Fdc → Type 0
LetsOut fdc = is_held fdc ≡ false → is_gated fdc ≡ true

gated_byte : (value : ℕ) → value < 256 → (bit_and (bit_or value 8) 8 == 8) ≡ true
gated_byte value few = agree_below_at (λ n. bit_and (bit_or n 8) 8 == 8) (λ _. true) 256 value refl few

reset_out : (b : Bool) (set : Fdc) → LetsOut set → LetsOut (if b then reset set else set)
reset_out true set out = out
reset_out false set out = out

port_lets_out : (port value : ℕ) (lines : Lines) (old new : Fdc) → value < 256 → Writes port (value_behind port value) lines old new → (port == 0x3F5) ≡ false → LetsOut old → LetsOut new
port_lets_out port value lines old new few writes no_byte out = either_way (port == 0x3F2)
    (λ output.
    let given = value_behind port value in
    let is : given ≡ bit_or value 8 = ap (λ b. if b then bit_or value 8 else value) output in
    subst LetsOut (sym (writes.output (eqb-true port 0x3F2 output)))
    (reset_out (dor_resets given) (record old { dor = record { 0 = given } }) (λ free. ap (λ v. bit_and v 8 == 8) is ∙ gated_byte value few)))
    (λ no_output. either_way (port == 0x3F4)
    (λ select.
    let given = value_behind port value in
    subst LetsOut (sym (writes.select (eqb-true port 0x3F4 select))) (reset_out (dsr_resets given) (record old { rate = rate_chosen given }) out))
    (λ no_select. either_way (port == 0x3F7)
    (λ control. subst LetsOut (sym (writes.control (eqb-true port 0x3F7 control))) out)
    (λ no_control. subst LetsOut (sym (writes.others no_output no_select no_byte no_control)) out)))

port_write : (b : Bool) (port value : ℕ) (old new : ChipState) → resets port value ≡ b → (port == 0x3F5) ≡ false → IsSound old → LetsOut new.front.adapter.controller → WritesFront port value old.front new.front
    → new ≡ with_front new.front (reset_if b old) → IsSound new
port_write true port value old new anew no_data sound out writes rest =
    let (is, through) = front_anew port value old.front new.front writes no_data anew in
    record {
      by_dma = is.non_dma ∙ sound.by_dma;
      whole = is.command;
      held = λ held. (ap (λ (chip : ChipState). chip.stage) rest, ap (λ (chip : ChipState). chip.count) rest);
      lets_out = out;
      comes = λ some. ap (λ (chip : ChipState). chip.stage) rest;
      code = subst (λ (order : Order). order.code < 256) (sym (ap (λ (chip : ChipState). chip.order) rest)) sound.code;
      now = subst (λ stage. IsSoundAt stage new.front) (sym (ap (λ (chip : ChipState). chip.stage) rest))
          (record { through = through; takes = is.takes; seek = subst (λ (seeks : Seeking). IsOfFour seeks.seek) (sym is.seeks) tt });
    }
port_write false port value old new quiet no_data sound out writes rest =
    let left = front_left port value old.front new.front writes no_data quiet in
    let stage : new.stage ≡ old.stage = ap (λ (chip : ChipState). chip.stage) rest in
    let count : new.count ≡ old.count = ap (λ (chip : ChipState). chip.count) rest in
    record {
      by_dma = left.non_dma ∙ sound.by_dma;
      whole = left.command ∙ sound.whole;
      held = λ held. let was = sound.held (left.free held) in (stage ∙ was.0, count ∙ was.1);
      lets_out = out;
      comes = λ some. stage ∙ sound.comes (sym (ap (λ n. n == 0) count) ∙ some);
      code = subst (λ (order : Order). order.code < 256) (sym (ap (λ (chip : ChipState). chip.order) rest)) sound.code;
      now = subst (λ s. IsSoundAt s new.front) (sym stage) (keep_sound old.stage old.front new.front rests (λ what. port_busy what port value old.front new.front writes no_data quiet) sound.now);
    }
  where
    rests : RestsBehind old.front → RestsBehind new.front
    rests was = let left = front_left port value old.front new.front writes no_data quiet in record {
      through = port_stage port value old.front new.front writes no_data quiet ∙ was.through;
      takes = left.phase ∙ was.takes;
      seek = subst (λ (seeks : Seeking). IsOfFour seeks.seek) (sym left.seeks) was.seek;
    }

-- ---- media

rests_kept : (old new : Front) → KeepsFront old new → RestsBehind old → RestsBehind new
rests_kept old new keeps was = record {
  through = keeps.stage ∙ was.through;
  takes = ap (λ (fdc : Fdc). fdc.phase) keeps.controller ∙ was.takes;
  seek = subst (λ (fdc : Fdc). IsOfFour fdc.seeks.seek) (sym keeps.controller) was.seek;
}

-- ---- all calls

pub call_sound : (call : Call) (old new : ChipState) → Does call old new → WritesByte call → IsSound old → IsSound new
call_sound made.Steps old new does few sound = step_sound old new does sound
call_sound (made.Takes byte) old new does few sound = takes_sound (passes_by_channel old) byte old new refl sound does
call_sound (made.Gives byte was) old new does few sound = gives_sound (passes_by_channel old) byte was old new refl sound does
call_sound made.Counts old new does few sound = counts_at old.stage old new refl sound does
call_sound (made.Reads port value) old new does few sound = reads_sound port value old new sound does
call_sound (made.Writes port value) old new does few sound = either_way (port == 0x3F5)
    (λ here. data_write old.stage value old new refl few sound (does.bytes (eqb-true port 0x3F5 here)))
    (λ no_data.
    let (front, rest) = does.others no_data in
    let given = value_behind port value in
    port_write (resets port given) port given (latched_by port value old) new refl no_data (sound_set old (latched_by port value old) sound)
    (port_lets_out port value (lines_at old.front.adapter) old.front.adapter.controller new.front.adapter.controller few (front.others no_data).0.writes no_data sound.lets_out) front rest)
call_sound made.Changes old new does few sound =
    let controller = does.front.controller in
    stays_sound old new sound
    (record { dor = ap (λ (fdc : Fdc). fdc.dor) controller; non_dma = ap (λ (fdc : Fdc). fdc.non_dma) controller; command = ap (λ (fdc : Fdc). fdc.command) controller ∙ sound.whole })
    (ap (λ (chip : ChipState). chip.stage) does.rest) (ap (λ (chip : ChipState). chip.count) does.rest) (ap (λ (chip : ChipState). chip.order) does.rest)
    (keep_sound old.stage old.front new.front (rests_kept old.front new.front does.front) (λ what. keeps_busy what old.front new.front does.front) sound.now)
call_sound (made.Straps on) old new does few sound = subst IsSound (sym does) (sound_set old (record old { strapped = on }) sound)
call_sound (made.StrapsSteps on) old new does few sound = subst IsSound (sym does) (sound_set old (record old { paced = on }) sound)

-- ---- a new one

pub new_sound : (bay0 bay1 : DriveState) (new : ChipState) → IsNewChip bay0 bay1 new → IsSound new
new_sound bay0 bay1 new is =
    let controller = is.front.adapter.controller in
    record {
      by_dma = ap (λ (fdc : Fdc). fdc.non_dma) controller;
      whole = ap (λ (fdc : Fdc). fdc.command) controller;
      held = λ held. (is.stage, is.count);
      lets_out = λ free. clash (is_held new.front.adapter.controller) free (ap is_held controller);
      comes = λ some. is.stage;
      code = subst (λ (order : Order). order.code < 256) (sym is.order) (omega arith);
      now = subst (λ stage. IsSoundAt stage new.front) (sym is.stage) (record {
        through = is.front.stage;
        takes = ap (λ (fdc : Fdc). fdc.phase) controller;
        seek = subst (λ (fdc : Fdc). IsOfFour fdc.seeks.seek) (sym controller) tt;
      });
    }

-- a chip that was used
pub used_sound : (bay0 bay1 : DriveState) (calls : List Call) (start new : ChipState) → IsNewChip bay0 bay1 start → AreMade calls start new → IsSound new
used_sound bay0 bay1 calls start new is all = on calls start new all (new_sound bay0 bay1 start is)
  where
    on : (calls : List Call) (old new : ChipState) → AreMade calls old new → IsSound old → IsSound new
    on [] old new same sound = same_sound old new same sound
    on (call ∷ calls) old new (between, does, few, rest) sound = on calls between new rest (call_sound call old between does few sound)

-- ---- the reset pin

in_bytes : (0 < 256) × (2 < 256)
in_bytes = (omega arith, omega arith)

pub pin_sound : (old new : ChipState) → ResetsByPin old new → IsSound old → IsSound new
pin_sound old new resets sound =
    let held = call_sound (made.Writes 0x3F2 0) old resets.held resets.dor in_bytes.0 sound in
    let rated = call_sound (made.Writes 0x3F7 2) resets.held resets.rated resets.ccr in_bytes.1 held in
    subst IsSound (sym resets.settings) (sound_set resets.rated (record resets.rated { settings = pin_settings old.settings; tape = 0 }) rated)
