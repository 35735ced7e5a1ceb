-- INT after the calls of a chip.
use Rattle.std.proofs.Common.{◌≡◌, ℕ, ◌+◌, Bool, true, false, not, ◌&&◌, ◌||◌, ◌==◌, nat_lt, if◌then◌else◌, Option, Some, None, is_some, slice_index, refl, sym, ◌∙◌, ap, subst}
use Rattle.laws_chip.proofs.Common.{option_map_or, and_from, and_left, and_parts, and_right, eqb-true, false≢true, Results, to_memory_of, asks, Fdc, Front, TakesAt, asks_at, asks_outside, interrupts_outside, told_front, with_controller, FrontStage, ChipState, KeepsRest, interrupts_chip, is_data, passes, passes_at, passes_by_channel, passes_by_port, shows_behind, with_front, Opens, RemembersIf, begun, sensing, Interrupting, status_of, is_format, GivesChipIf, ReadsAt, ReadsChip, ReadsIf, TakesIf, byte_told, counted_if, given_one, quieted_if, told_chip, is_by_port, ChipAnswer, ChipStage, Ready, Busy, ChipTask, Track, Call, Does, chip_count_told as count_told, ChipTelling as Telling, AdaptersTakes as Takes}
use Rattle.std.specs.Prelude.{option_map, slice_set}
use Rattle.fdc_chip.specs.Interrupts.{first_pending, sensed}
use Rattle.laws_chip.specs.Edges.{EndsAnswer, is_of_channel}
use Rattle.laws_chip.proofs.UnderWay.{clash, either_way}
use Rattle.fdc_sequencer.specs.declared.stage.FrontStage.TheVariants as behind
use Rattle.fdc_chip.specs.declared.answer.ChipAnswer.TheVariants as answer
use Rattle.fdc_chip.specs.declared.stage.ChipTask.TheVariants as task
use Rattle.laws_chip.specs.Calls as call

-- ---- INT by what it is made of

is_down : (b : Bool) → not b ≡ true → b ≡ false
is_down true up = absurd (false≢true up)
is_down false down = refl

or_none : (b : Bool) → (b || false) ≡ b
or_none true = refl
or_none false = refl

-- INT goes by the line, where no byte passes at the data port
abbrev by_line : ChipState → Bool
by_line chip = chip.gated && (chip.interrupts.line || shows_behind chip.stage chip.front)

no_port : (chip : ChipState) → passes_by_port chip ≡ false → interrupts_chip chip ≡ by_line chip
no_port chip none = ap (λ b. chip.gated && (if b then asks_outside chip.front else (chip.interrupts.line || shows_behind chip.stage chip.front))) none

by_dma : (chip : ChipState) → is_by_port chip.settings ≡ false → interrupts_chip chip ≡ by_line chip
by_dma chip dma = no_port chip (and_left (is_by_port chip.settings) (passes chip) dma)

no_bytes : (chip : ChipState) → passes_at chip.stage ≡ false → interrupts_chip chip ≡ by_line chip
no_bytes chip none =
    no_port chip (and_right (is_by_port chip.settings) (passes chip) (and_left (passes_at chip.stage) (not (is_format chip.order && chip.keys == 0)) none))

-- while a command is executed, INT of the inner controller doesn't show
shows_none : (stage : ChipStage) (behind_it : Front) → passes_at stage ≡ true → shows_behind stage behind_it ≡ false
shows_none Ready behind_it passing = absurd (false≢true passing)
shows_none _ behind_it passing = refl

line_alone : (chip : ChipState) → shows_behind chip.stage chip.front ≡ false → by_line chip ≡ (chip.gated && chip.interrupts.line)
line_alone chip none = ap (λ b. chip.gated && (chip.interrupts.line || b)) none ∙ ap (λ b. chip.gated && b) (or_none chip.interrupts.line)

busy_line : (chip : ChipState) → is_by_port chip.settings ≡ false → passes_at chip.stage ≡ true → interrupts_chip chip ≡ (chip.gated && chip.interrupts.line)
busy_line chip dma passing = by_dma chip dma ∙ line_alone chip (shows_none chip.stage chip.front passing)

-- ---- the channel

int_same : (old new : ChipState) → new ≡ old → interrupts_chip new ≡ interrupts_chip old
int_same old new is = ap (λ (chip : ChipState). interrupts_chip chip) is

-- the chip with so many bytes of sector IDs left, and with another front
abbrev with_parts : ChipState → ℕ → Front → ChipState
with_parts old keys behind_it = record old { keys = keys; front = behind_it }

-- where bytes pass by the channel they don't at the data port
channel_same : (old : ChipState) (keys : ℕ) (behind_it : Front) → passes_by_channel old ≡ true → interrupts_chip (with_parts old keys behind_it) ≡ interrupts_chip old
channel_same old keys behind_it passing =
    let both = and_parts (old.gated && not (is_by_port old.settings)) (passes old) passing in
    let dma = is_down (is_by_port old.settings) (and_parts old.gated (not (is_by_port old.settings)) both.0).1 in
    let busy = (and_parts (passes_at old.stage) (not (is_format old.order && old.keys == 0)) both.1).0 in
    busy_line (with_parts old keys behind_it) dma busy ∙ sym (busy_line old dma busy)

takes_same : (b : Bool) (byte : Option ℕ) (old new : ChipState) → passes_by_channel old ≡ b → TakesIf b old byte new → interrupts_chip new ≡ interrupts_chip old
takes_same true byte old new passing (takes, rest) = int_same (with_front new.front old) new rest ∙ channel_same old old.keys new.front passing
takes_same false byte old new passing (none, is) = int_same old new is

gives_same : (b : Bool) (byte : ℕ) (was : Bool) (old new : ChipState) → passes_by_channel old ≡ b → GivesChipIf b byte old was new → interrupts_chip new ≡ interrupts_chip old
gives_same true byte was old new passing (gives, rest) =
    int_same (with_front new.front (given_one was old)) new rest ∙ channel_same old (given_one was old).keys new.front passing
gives_same false byte was old new passing (none, is) = int_same old new is

pub channel_leaves : (made : Call) (old new : ChipState) → is_of_channel made ≡ true → Does made old new → interrupts_chip new ≡ interrupts_chip old
channel_leaves (call.Takes byte) old new is does = takes_same (passes_by_channel old) byte old new refl does
channel_leaves (call.Gives byte was) old new is does = gives_same (passes_by_channel old) byte was old new refl does
channel_leaves _ old new is does = absurd (false≢true is)

-- ---- the terminal count

-- while a task is executed INT goes by the line, whatever front there is
abbrev at_task : ChipState → ChipTask → Front → ChipState
at_task chip what behind_it = record chip { stage = Busy what; front = behind_it }

task_line : (chip : ChipState) (what : ChipTask) (behind_it : Front) → is_by_port chip.settings ≡ false → interrupts_chip (at_task chip what behind_it) ≡ (chip.gated && chip.interrupts.line)
task_line chip what behind_it dma = by_dma (at_task chip what behind_it) dma ∙ ap (λ b. chip.gated && b) (or_none chip.interrupts.line)

-- the terminal count was given or not, and the task may be another
task_told : (b : Bool) (chip : ChipState) (one other : ChipTask) → is_by_port chip.settings ≡ false
    → interrupts_chip (counted_if b (at_task chip other chip.front)) ≡ interrupts_chip (at_task chip one chip.front)
task_told true chip one other dma = task_line chip other (told_front chip.front) dma ∙ sym (task_line chip one chip.front dma)
task_told false chip one other dma = task_line chip other chip.front dma ∙ sym (task_line chip one chip.front dma)

busy_told : (what : ChipTask) (chip : ChipState) → is_by_port chip.settings ≡ false → interrupts_chip (count_told (Busy what) (at_task chip what chip.front)) ≡ interrupts_chip (at_task chip what chip.front)
busy_told task.Sent chip dma = task_told true chip task.Sent task.Sent dma
busy_told (task.Track track) chip dma = task_told (is_data track.place) chip (task.Track track) (task.Track (record track { counted = true })) dma
busy_told _ chip dma = refl

stage_told : (stage : ChipStage) (chip : ChipState) → is_by_port chip.settings ≡ false → interrupts_chip (count_told stage (record chip { stage = stage })) ≡ interrupts_chip (record chip { stage = stage })
stage_told (Busy what) chip dma = busy_told what chip dma
stage_told _ chip dma = refl

pub count_leaves : (chip : ChipState) → is_by_port chip.settings ≡ false → interrupts_chip (told_chip chip) ≡ interrupts_chip chip
count_leaves chip dma = stage_told chip.stage chip dma

-- ---- reads

unmoved : (old new : ChipState) → new ≡ old → interrupts_chip old ≡ false → interrupts_chip new ≡ true → EndsAnswer old new
unmoved old new is down up = clash (interrupts_chip old) down (sym (int_same old new is) ∙ up)

-- no byte is taken where none is asked for
adapter_none : (byte : Option ℕ) (old new : Fdc) → asks old ≡ false → Takes old byte new → new ≡ old
adapter_none (Some byte) old new quiet (up, byte_is, is) = clash (asks old) quiet (and_parts (asks old) (to_memory_of old) up).0
adapter_none None old new quiet (none, is) = is

takes_none : (stage : FrontStage) (byte : Option ℕ) (old new : Front) → asks_at stage old.adapter.controller ≡ false → TakesAt stage old byte new → new ≡ old
takes_none behind.Through byte old new quiet (takes, is) =
    is ∙ ap (λ (fdc : Fdc). record old { adapter = with_controller fdc old.adapter }) (adapter_none byte old.adapter.controller new.adapter.controller quiet takes)
takes_none (behind.Moving moving) (Some byte) old new quiet (up, byte_is, is) =
    let fdc = old.adapter.controller in
    let (left, both) = and_parts (nat_lt 0 moving.left) (asks fdc && to_memory_of fdc) up in
    clash (nat_lt 0 moving.left && asks fdc) quiet (and_from (nat_lt 0 moving.left) (asks fdc) left (and_parts (asks fdc) (to_memory_of fdc) both).0)
takes_none (behind.Moving moving) None old new quiet (none, is) = is
takes_none (behind.Seeking transfer counted) byte old new quiet (none, is) = is
takes_none (behind.Telling results) byte old new quiet (none, is) = is

-- where bytes pass at the data port, INT that DOR lets out goes by the request
asks_none : (gate asked : Bool) → gate ≡ true → (gate && asked) ≡ false → asked ≡ false
asks_none true asked out down = down
asks_none false asked out down = absurd (false≢true out)

shut_in : (chip : ChipState) → chip.gated ≡ false → interrupts_chip chip ≡ false
shut_in chip gate = ap (λ b. b && (if passes_by_port chip then asks_outside chip.front else (chip.interrupts.line || shows_behind chip.stage chip.front))) gate

-- a byte of the command in execution is read
port_read : (b : Bool) (old : ChipState) (value : ℕ) (new : ChipState) → passes_by_port old ≡ b → ReadsIf b old value new → interrupts_chip old ≡ false → interrupts_chip new ≡ true → EndsAnswer old new
port_read true old value new passing out down up = either_way old.gated
    (λ gate.
    let asked : (old.gated && asks_outside old.front) ≡ false =
    sym (ap (λ b. old.gated && (if b then asks_outside old.front else (old.interrupts.line || shows_behind old.stage old.front))) passing) ∙ down in
    let same = takes_none old.front.stage out.byte old.front new.front (asks_none old.gated (asks_outside old.front) gate asked) out.takes in
    unmoved old new (out.rest ∙ ap (λ (f : Front). with_front f old) same) down up)
    (λ gate. clash (interrupts_chip new) (shut_in new (ap (λ (chip : ChipState). chip.gated) out.rest ∙ gate)) up)
port_read false old value new passing (value_is, is) down up = unmoved old new is down up

-- a byte of an answer was read. The line falls or doesn't, and the chip is then at this stage
abbrev told_at : Bool → ChipStage → ChipState → ChipState
told_at first stage old = record (quieted_if first old) { stage = stage }

told_line : (first : Bool) (stage : ChipStage) (old : ChipState) → passes_at stage ≡ false
    → interrupts_chip (told_at first stage old) ≡ (old.gated && ((quieted_if first old).interrupts.line || shows_behind stage old.front))
told_line true stage old none = no_bytes (told_at true stage old) none
told_line false stage old none = no_bytes (told_at false stage old) none

front_stays : (first : Bool) (stage : ChipStage) (old : ChipState) → (told_at first stage old).front ≡ old.front
front_stays true stage old = refl
front_stays false stage old = refl

-- if INT rises then, it is INT of the inner controller
shown : (gate line other : Bool) → (gate && line) ≡ false → (gate && (line || other)) ≡ true → other ≡ true
shown true true other down up = absurd (false≢true (sym down))
shown true false other down up = up
shown false line other down up = absurd (false≢true up)

falls : (first : Bool) (old : ChipState) → (old.gated && old.interrupts.line) ≡ false → (old.gated && (quieted_if first old).interrupts.line) ≡ false
falls true old down = and_right old.gated false refl
falls false old down = down

answer_down : (told : ChipAnswer) (read : ℕ) (old : ChipState) → old.stage ≡ Telling told read → interrupts_chip old ≡ false → (old.gated && old.interrupts.line) ≡ false
answer_down told read old tells down =
    sym (no_bytes old (ap passes_at tells) ∙ line_alone old (ap (λ stage. shows_behind stage old.front) tells)) ∙ down

-- if INT rises after the byte of an answer, INT of the inner controller shows
rises : (first : Bool) (stage : ChipStage) (old new : ChipState) → new ≡ told_at first stage old → passes_at stage ≡ false → (old.gated && old.interrupts.line) ≡ false → interrupts_chip new ≡ true
    → shows_behind stage old.front ≡ true
rises first stage old new is none down up =
    shown old.gated (quieted_if first old).interrupts.line (shows_behind stage old.front) (falls first old down)
    (sym (int_same (told_at first stage old) new is ∙ told_line first stage old none) ∙ up)

answer_read : (last first : Bool) (told : ChipAnswer) (read : ℕ) (old new : ChipState) → old.stage ≡ Telling told read
    → new ≡ told_at first (if last then Ready else Telling told (read + 1)) old → interrupts_chip old ≡ false → interrupts_chip new ≡ true → EndsAnswer old new
answer_read true first told read old new tells is down up = record {
  answer = told;
  read = read;
  told = tells;
  ready = ap (λ (chip : ChipState). chip.stage) is;
  ended = ap (λ (chip : ChipState). interrupts_outside chip.front) is ∙ (ap (λ (f : Front). interrupts_outside f) (front_stays first Ready old)
      ∙ rises first Ready old new is refl (answer_down told read old tells down) up);
}
answer_read false first told read old new tells is down up =
    absurd (false≢true (rises first (Telling told (read + 1)) old new is refl (answer_down told read old tells down) up))

data_read : (stage : ChipStage) (old : ChipState) (value : ℕ) (new : ChipState) → old.stage ≡ stage → ReadsAt stage old value new → interrupts_chip old ≡ false → interrupts_chip new ≡ true → EndsAnswer old new
data_read (Telling told read) old value new at (value_is, is) down up = search answer_read
data_read _ old value new at reads down up = port_read (passes_by_port old) old value new refl reads down up

pub read_raises : (port value : ℕ) (old new : ChipState) → ReadsChip port old value new → interrupts_chip old ≡ false → interrupts_chip new ≡ true → EndsAnswer old new
read_raises port value old new reads down up = either_way (port == 0x3F4)
    (λ status. unmoved old new (reads.status (eqb-true port 0x3F4 status)).1 down up)
    (λ no_status. either_way (port == 0x3F5)
    (λ here. data_read old.stage old value new refl (reads.byte (eqb-true port 0x3F5 here)) down up)
    (λ no_data. unmoved old new (reads.others no_status no_data).1 down up))

-- ---- an interrupt is taken

pub results_down : (results : Results) (old : ChipState) → interrupts_chip (byte_told (answer.Results results) 0 old) ≡ false
results_down results old = no_bytes (byte_told (answer.Results results) 0 old) refl ∙ and_right old.gated false refl

line_down : (found : Option ℕ) (interrupts : Interrupting) (status cylinder : ℕ)
    → option_map {U = ℕ × ℕ} (λ drive. (status_of interrupts drive, slice_index interrupts.cylinders drive)) found ≡ Some (status, cylinder)
    → (option_map_or (λ drive. record interrupts { pending = slice_set interrupts.pending drive None; line = false }) found interrupts).line ≡ false
line_down None interrupts status cylinder is = absurd (false≢true (ap is_some is))
line_down (Some drive) interrupts status cylinder is = refl

pub sense_down : (status cylinder : ℕ) (old : ChipState) → sensed old.interrupts ≡ Some (status, cylinder) → interrupts_chip (sensing old) ≡ false
sense_down status cylinder old is =
    no_bytes (sensing old) refl
    ∙ (ap (λ b. old.gated && (b || false)) (line_down (first_pending old.interrupts) old.interrupts status cylinder is) ∙ and_right old.gated false refl)

-- a command begins for a task with DMA, and INT is down
record IsDown (what : ChipTask) (chip : ChipState) : Type 0 where
  dma : is_by_port chip.settings ≡ false
  line : chip.interrupts.line ≡ false
  stage : chip.stage ≡ Busy what

down_int : (what : ChipTask) (chip : ChipState) → IsDown what chip → interrupts_chip chip ≡ false
down_int what chip down =
    by_dma chip down.dma ∙ (ap (λ b. chip.gated && (b || shows_behind chip.stage chip.front)) down.line
    ∙ (ap (λ stage. chip.gated && (false || shows_behind stage chip.front)) down.stage ∙ and_right chip.gated false refl))

down_kept : (what : ChipTask) (old new : ChipState) → IsDown what old → KeepsRest old new → IsDown what new
down_kept what old new down rest = record {
  dma = ap (λ (chip : ChipState). is_by_port chip.settings) rest ∙ down.dma;
  line = ap (λ (chip : ChipState). chip.interrupts.line) rest ∙ down.line;
  stage = ap (λ (chip : ChipState). chip.stage) rest ∙ down.stage;
}

remembers_down : (b : Bool) (what : ChipTask) (old new : ChipState) → IsDown what old → RemembersIf b old new → IsDown what new
remembers_down true what old new down (gives, rest) =
    down_kept what (record old { settings = record old.settings { forgotten = false } }) new (record { dma = down.dma; line = down.line; stage = down.stage }) rest
remembers_down false what old new down is = subst (λ (chip : ChipState). IsDown what chip) (sym is) down

pub begins_down : (what : ChipTask) (old set new : ChipState) → is_by_port old.settings ≡ false → Opens what old set → KeepsRest set new → interrupts_chip new ≡ false
begins_down what old set new dma opens rest =
    let start : IsDown what (begun what old) = record { dma = dma; line = refl; stage = refl } in
    down_int what new (down_kept what set new (remembers_down old.settings.forgotten what (begun what old) set start opens) rest)
