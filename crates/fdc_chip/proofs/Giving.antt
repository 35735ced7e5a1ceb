-- A front whose controller takes the first byte of a command, and a SEEK that is given to it.
use Rattle.std.proofs.Common.{◌≡◌, ℕ, suc, ◌<◌, ◌^◌, Bool, true, false, not, ◌==◌, if◌then◌else◌, Option, Some, None, List, [], ◌∷◌, bit_and, bit_or, refl, sym, ◌∙◌, ap, subst, arith}
use Rattle.fdc_chip.proofs.Common.{option_map_or, ForSome, and_parts, and_from, false≢true, not-true, seek_bits, DriveSeek, Phase, Taking, is_held, is_idle, Fdc, lines_at, Commands, CommandsIf, Front, GivesCommand, is_ready, is_ready_at, status_at, FrontStage, Through, moves_heads, moving}
use Rattle.fdc_commands.specs.Table.{is_begun, whole}
use Rattle.fdc_commands.specs.declared.bytes.Accepted.TheVariants.{Ready}
use Rattle.fdc_commands.specs.declared.command.Command.{Command}
use Rattle.fdc_commands.specs.declared.command.Command.TheVariants.{Seek}
use Rattle.fdc_core.specs.Commands.{Obeys, TakesAs, seeking}
use Rattle.fdc_core.specs.Ports.{is_taking, main_status, phase_bits, takes_in}
use Rattle.fdc_core.specs.declared.controller.Lines.{Lines}

-- ---- a front that takes a command

-- the controller takes the first byte of a command, and isn't held in reset
pub record IsTaking (front : Front) : Type 0 where
  pub through : front.stage ≡ Through
  pub takes : front.adapter.controller.phase ≡ Taking
  pub none : front.adapter.controller.command ≡ []
  pub free : is_held front.adapter.controller ≡ false

taking_phase : (phase : Phase) (held : Bool) → takes_in phase held ≡ true → (phase ≡ Taking) × (held ≡ false)
taking_phase Taking held is = (refl, not-true held is)
taking_phase _ held is = absurd (false≢true is)

begun_none : (command : List ℕ) → is_begun command ≡ false → command ≡ []
begun_none [] is = refl
begun_none (byte ∷ rest) is = absurd (false≢true (sym is))

ready_through : (stage : FrontStage) (fdc : Fdc) → is_ready_at stage fdc ≡ true → (stage ≡ Through) × (is_idle fdc ≡ true)
ready_through Through fdc is = (refl, is)
ready_through _ fdc is = absurd (false≢true is)

-- by what this is seen
pub ready_taking : (front : Front) → is_ready front ≡ true → IsTaking front
ready_taking front ready =
    let fdc = front.adapter.controller in
    let (through, idle) = ready_through front.stage fdc ready in
    let (taking, first) = and_parts (is_taking fdc) (not (is_begun fdc.command)) idle in
    let (takes, free) = taking_phase fdc.phase (is_held fdc) taking in
    record { through = through; takes = takes; none = begun_none fdc.command (not-true (is_begun fdc.command) first); free = free }

taking_now : (front : Front) → IsTaking front → is_taking front.adapter.controller ≡ true
taking_now front is =
    let fdc = front.adapter.controller in
    ap (λ phase. takes_in phase (is_held fdc)) is.takes ∙ ap not is.free

pub taking_idle : (front : Front) → IsTaking front → is_idle front.adapter.controller ≡ true
taking_idle front is =
    let fdc = front.adapter.controller in
    and_from (is_taking fdc) (not (is_begun fdc.command)) (taking_now front is) (ap (λ command. not (is_begun command)) is.none)

-- ---- MSR shows whether heads move

status_free : (fdc : Fdc) → is_held fdc ≡ false → fdc.phase ≡ Taking → fdc.command ≡ [] → main_status fdc ≡ bit_or 0x80 (seek_bits fdc.seeks)
status_free fdc free takes none =
    ap (λ held. if held then 0 else bit_or (phase_bits (is_begun fdc.command) fdc.phase) (seek_bits fdc.seeks)) free
    ∙ (ap (λ phase. bit_or (phase_bits (is_begun fdc.command) phase) (seek_bits fdc.seeks)) takes
    ∙ ap (λ command. bit_or (phase_bits (is_begun command) Taking) (seek_bits fdc.seeks)) none)

bit_shown : (drive : ℕ) → drive < 4 → (bit_and (bit_or 0x80 (2 ^ drive)) 0x0F == 0) ≡ false
bit_shown (suc (suc (suc (suc drive)))) few = absurd (omega arith)
bit_shown _ few = refl

taking_status : (front : Front) → IsTaking front → moves_heads front ≡ not (bit_and (bit_or 0x80 (seek_bits front.adapter.controller.seeks)) 0x0F == 0)
taking_status front is =
    let fdc = front.adapter.controller in
    ap (λ stage. not (bit_and (status_at stage fdc) 0x0F == 0)) is.through
    ∙ ap (λ status. not (bit_and status 0x0F == 0)) (status_free fdc is.free is.takes is.none)

-- the seek bit of one of four drives is set
pub bit_moves : (front : Front) (seek : DriveSeek) → IsTaking front → seek.drive < 4 → front.adapter.controller.seeks.seek ≡ Some seek → moves_heads front ≡ true
bit_moves front seek is few of =
    taking_status front is
    ∙ (ap (λ (s : Option DriveSeek). not (bit_and (bit_or 0x80 (option_map_or (λ (d : DriveSeek). 2 ^ d.drive) s 0)) 0x0F == 0)) of
    ∙ ap not (bit_shown seek.drive few))

-- no seek bit is set
pub none_moves : (front : Front) → IsTaking front → ForSome front.adapter.controller.seeks.seek (λ seek. seek.drive < 4) → moves_heads front ≡ false → seek_bits front.adapter.controller.seeks ≡ 0
none_moves front is few stands = by_seek front.adapter.controller.seeks.seek few (sym (taking_status front is) ∙ stands)
  where
    by_seek : (seek : Option DriveSeek) → ForSome seek (λ seek. seek.drive < 4) → not (bit_and (bit_or 0x80 (option_map_or (λ (d : DriveSeek). 2 ^ d.drive) seek 0)) 0x0F == 0) ≡ false
        → option_map_or (λ (d : DriveSeek). 2 ^ d.drive) seek 0 ≡ 0
    by_seek None few shown = refl
    by_seek (Some seek) few shown = absurd (false≢true (sym shown ∙ ap not (bit_shown seek.drive (few seek refl))))

-- ---- a command that is given

-- the controller obeys the command
pub record IsObeyed (command : Command) (start new : Front) : Type 0 where
  pub through : new.stage ≡ Through
  pub lines : Lines
  pub obeys : Obeys command lines (record start.adapter.controller { command = [] }) new.adapter.controller

pub taking_ready : (front : Front) → IsTaking front → is_ready front ≡ true
taking_ready front is = ap (λ stage. is_ready_at stage front.adapter.controller) is.through ∙ taking_idle front is

-- a command whose size code is in range, or that has none
pub given_obeyed : (command : Command) (start new : Front) → IsTaking start → whole command ≡ Ready command → GivesCommand command start new → IsObeyed command start new
given_obeyed command start new is sized gives =
    let given : Commands command start new = subst (λ ready. CommandsIf ready command start new) (taking_ready start is) gives in
    let fdc = record start.adapter.controller { command = [] } in
    let obeys : Obeys command (lines_at start.adapter) fdc given.between.controller =
    subst (λ accepted. TakesAs accepted (lines_at start.adapter) fdc given.between.controller) sized given.takes.takes in
    subst (IsObeyed command start) (sym given.after) (record { through = is.through; lines = lines_at start.adapter; obeys = obeys })

-- ---- a SEEK

pub seek_given : (unit target : ℕ) (start new : Front) → IsTaking start → seek_bits start.adapter.controller.seeks ≡ 0 → GivesCommand (moving unit (Some target)) start new
    → (new.stage ≡ Through) × (new.adapter.controller ≡ seeking unit target (record start.adapter.controller { command = [] }))
seek_given unit target start new is rests gives =
    let obeyed = given_obeyed (Seek unit target) start new is refl gives in
    (obeyed.through, obeyed.obeys.0 rests)
