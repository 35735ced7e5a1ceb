-- How the chip begins a command in the inner controller: the inner controller is free for it, what LOCK kept is given
-- again, and the command is given.
use Rattle.std.proofs.Common.{◌≡◌, ℕ, ◌<◌, Bool, true, false, not, ◌||◌, ◌==◌, Option, Some, List, [], ◌∷◌, ◌++◌, bit_and, refl, sym, ◌∙◌, ap, subst, inl, inr, ◌&&◌, if◌then◌else◌, None, bit_or, ◌⊎◌, ◌+◌, arith}
use Rattle.laws_chip.proofs.Common.{agree_below_at, eqb-true, Results, seek_bits, is_held, Fdc, Front, GivesTransfer, Transfer, ChipState, code_of, Begins, Obeys, RemembersIf, TransfersIf, begun, configuring, implies, is_size, sought_if, transfer_sent, with_last, StepsChip, ChipOpcode, TransferCode, Busy, ChipTask, IsBegun, IsFreeBehind, IsServed, spelled_opcode, AreServed, Call, SentTask as Sent, option_map, and_left, and_right, asks_outside, is_through, results_outside, results_taken, taken_at, asks_chip, interrupts_chip, passes, passes_at, shows_behind, with_front, EndsAs, EndsSent, cylinder_bits, done_if, fits_selected, has_room, judged, looks_for_cylinder, results_judged, with_cylinder_passed, is_format, is_by_port, Follows, Sought, AddsCylinder, AreOfCylinder, LooksFor, LooksOrTells, Tells, IsDisk, Becomes, DriveState, at_index, Past, heard, stepped, SeesUnder, let_pass, IsHearing, Outset, IsSpinning, IsTurningIn, IsUnheard, led, heard_led, longer_led, passed_by, still_unheard, hearing_none, hears_none, no_index, slow_or_fast, turning_on}
use Rattle.fdc_commands.specs.declared.command.Command.TheVariants.{Configure}
use Rattle.fdc_core.specs.Commands.{configured}
use Rattle.fdc_sequencer.specs.Opcodes.{opcode_of}
use Rattle.laws_chip.proofs.Called.{both_within}
use Rattle.laws_chip.proofs.PassedOn.{all_passed}
use Rattle.laws_chip.proofs.UnderWay.{IsObeyed, Stands, given_obeyed, stands_free, IsBase, first_begins, command_served}
use Rattle.std.proofs.lemmas.Nat.{or_comm}
use Rattle.fdc_registers.specs.St2.{wrong_cylinder, bad_cylinder}
use Rattle.laws_chip.proofs.Shown.{tells_results}
use Rattle.fdc_core.proofs.drives.Passing.{hearing_on}
use Rattle.fdc_sequencer.specs.declared.stage.FrontStage.TheVariants as behind
use Rattle.laws_chip.specs.SectorCalls as call

-- ---- ---- the inner controller goes on standing free

pub same_base : (front : Front) → Stands front → IsBase front.adapter.controller front.adapter.controller
same_base front stands = record { dor = refl; non_dma = refl; command = stands.none }

-- after a CONFIGURE the inner controller still stands free
pub configured_stands : (options precompensation : ℕ) (start new : Front) → Stands start → IsObeyed (Configure 0 options precompensation) start new
    → Stands new × IsBase start.adapter.controller new.adapter.controller
configured_stands options precompensation start new stands obeyed =
    let is : new.adapter.controller ≡ configured options (record start.adapter.controller { command = [] }) = obeyed.obeys.0 stands.rests in (
      record {
        through = obeyed.through;
        takes = ap (λ (fdc : Fdc). fdc.phase) is ∙ stands.takes;
        none = ap (λ (fdc : Fdc). fdc.command) is;
        free = ap is_held is ∙ stands.free;
        rests = ap (λ (fdc : Fdc). seek_bits fdc.seeks) is ∙ stands.rests;
        by_dma = ap (λ (fdc : Fdc). fdc.non_dma) is ∙ stands.by_dma;
      },
      record { dor = ap (λ (fdc : Fdc). fdc.dor) is; non_dma = ap (λ (fdc : Fdc). fdc.non_dma) is; command = ap (λ (fdc : Fdc). fdc.command) is },
    )

-- ---- a command begins

-- the inner controller was given something for this task
pub record IsSent (task : ChipTask) (Gives : Front → Front → Type 0) (old new : ChipState) : Type 0 where
  pub set : Front
  pub stands : Stands set
  pub base : IsBase old.front.adapter.controller set.adapter.controller
  pub gives : Gives set new.front
  pub stage : new.stage ≡ Busy task
  pub count : new.count ≡ old.count
  pub order : new.order ≡ old.order

-- what LOCK kept was given to the inner controller, if there was anything to give
record IsSet (old new : ChipState) : Type 0 where
  stands : Stands new.front
  base : IsBase old.front.adapter.controller new.front.adapter.controller
  stage : new.stage ≡ old.stage
  count : new.count ≡ old.count
  order : new.order ≡ old.order

remembers_stands : (b : Bool) (old new : ChipState) → Stands old.front → RemembersIf b old new → IsSet old new
remembers_stands true old new stands (gives, rest) =
    let obeyed = given_obeyed (configuring old.settings.options old.settings.precompensation) old.front new.front stands refl gives in
    let (still, base) = configured_stands (bit_and old.settings.options 0x3F) old.settings.precompensation old.front new.front stands obeyed in
    record {
      stands = still;
      base = base;
      stage = ap (λ (chip : ChipState). chip.stage) rest;
      count = ap (λ (chip : ChipState). chip.count) rest;
      order = ap (λ (chip : ChipState). chip.order) rest;
    }
remembers_stands false old new stands is =
    subst (IsSet old) (sym is) (record { stands = stands; base = same_base old.front stands; stage = refl; count = refl; order = refl })

pub begins_sent : (task : ChipTask) (Gives : Front → Front → Type 0) (old new : ChipState) → Stands old.front → Begins task Gives old new → IsSent task Gives old new
begins_sent task Gives old new stands begins =
    let start = begun task old in
    let ready = remembers_stands old.settings.forgotten start begins.set stands begins.opens in
    record {
      set = begins.set.front;
      stands = ready.stands;
      base = ready.base;
      gives = begins.gives;
      stage = ap (λ (chip : ChipState). chip.stage) begins.rest ∙ ready.stage;
      count = ap (λ (chip : ChipState). chip.count) begins.rest ∙ ready.count;
      order = ap (λ (chip : ChipState). chip.order) begins.rest ∙ ready.order;
    }

-- a seek is implied, or not
pub sought_sent : (b : Bool) (task : ChipTask) (Gives : Front → Front → Type 0) (old new : ChipState) → Stands old.front → Begins task Gives (sought_if b old) new → IsSent task Gives old new
sought_sent true task Gives old new stands begins =
    let sent = begins_sent task Gives (sought_if true old) new stands begins in
    record { set = sent.set; stands = sent.stands; base = sent.base; gives = sent.gives; stage = sent.stage; count = sent.count; order = sent.order }
sought_sent false task Gives old new stands begins = begins_sent task Gives old new stands begins

-- ---- the codes

abbrev is_transfer : Option ChipOpcode → Bool
is_transfer (Some (TransferCode true)) = true
is_transfer _ = false

abbrev is_spelled : ℕ → Bool
is_spelled code = not (is_transfer (code_of code)) || spelled_opcode (opcode_of code) == code

-- what the sequencer makes of such a code spells it again
pub codes_spelled : (code : ℕ) → code < 256 → code_of code ≡ Some (TransferCode true) → spelled_opcode (opcode_of code) ≡ code
codes_spelled code few is =
    eqb-true (spelled_opcode (opcode_of code)) code
    (sym (ap (λ found. not (is_transfer found) || spelled_opcode (opcode_of code) == code) is) ∙ agree_below_at is_spelled (λ _. true) 256 code refl few)

-- ---- a command of sectors

pub transfer_begun : (old new : ChipState) → is_size old.order.key.n ≡ true → IsFreeBehind old.front → Obeys (TransferCode true) old new → IsBegun (transfer_sent (implies old) old.order) new
transfer_begun old new size free obeys =
    let noted = with_last old.order.last_sector old in
    let first = transfer_sent (implies old) old.order in
    let begins : TransfersIf true true Sent old.order noted new = subst (λ b. TransfersIf b true Sent old.order noted new) size obeys in
    let sent = sought_sent (implies old) Sent (GivesTransfer first) noted new (stands_free old.front free) begins in
    let (serves, carried, starts) = first_begins first sent.set new.front sent.stands size sent.gives in
    record { begins = serves; serving = record { sent = sent.stage; under_way = carried.under_way } }

-- what passes from the beginning of the command to its results
pub transfer_served : (first : Transfer) (calls : List Call) (begun last new : ChipState) (served : AreServed calls begun last) (step : StepsChip last new) (results : Results)
    → IsBegun first begun → step.between.stage ≡ behind.Telling results → IsServed first calls begun last new served step results
transfer_served first calls begun last new served step results is told =
    let passed = all_passed calls begun last served is.serving in
    let one : call.AreWithin (call.Steps ∷ []) last.front step.between = (step.between, step.steps, (λ through. cc (told, through)), refl) in
    let within = both_within passed.all (call.Steps ∷ []) begun.front last.front step.between passed.within one in
    record {
      all = passed.all;
      makes = passed.makes;
      within = within;
      moved = command_served first is.begins.start begun.front step.between (passed.all ++ call.Steps ∷ []) results is.begins.begins within told;
    }

-- ---- the results that the sequencer gives, taken by the chip in the step in which they come

-- ---- ---- the results of a front that gives them

-- what the chip doesn't judge is told as it is
no_room : (chip : ChipState) → has_room chip ≡ false → results_judged chip ≡ results_outside chip.front
no_room chip none = by_found (results_outside chip.front)
  where
    by_found : (found : Option Results) → option_map (judged chip) found ≡ found
    by_found None = refl
    by_found (Some results) = ap (λ b. Some (done_if b results)) none

-- a command that isn't a FORMAT TRACK
pub judged_other : (chip : ChipState) → is_format chip.order ≡ false → results_judged chip ≡ results_outside chip.front
judged_other chip other = no_room chip (and_left (is_format chip.order) (is_through chip.front.stage && fits_selected chip) other)

-- a command of several sectors
judged_are : (results : Results) (chip : ChipState) → chip.front.stage ≡ behind.Telling results → results_judged chip ≡ Some results
judged_are results chip at =
    no_room chip
    (and_right (is_format chip.order) (is_through chip.front.stage && fits_selected chip) (and_left (is_through chip.front.stage) (fits_selected chip) (ap is_through at)))
    ∙ tells_results chip.front results at

-- once the results were taken each access is the controller's again
pub taken_is : (front : Front) (results : Results) → front.stage ≡ behind.Telling results → results_taken front ≡ record front { stage = behind.Through }
taken_is front results is = ap (λ stage. taken_at stage front) is

-- ---- the command that was sent

ends_so : (results : Results) (old new : ChipState) (step : StepsChip old new) → old.stage ≡ Busy Sent → step.between.stage ≡ behind.Telling results
    → EndsSent (looks_for_cylinder old.order results) results (with_front (results_taken step.between) old) new
ends_so results old new step sent told =
    let set = with_front step.between old in
    subst (λ found. EndsAs found Sent set new) (judged_are results set told) (subst (λ stage. Follows stage set new) sent step.follows)

told_by : (results : Results) (old new : ChipState) → EndsSent false results old new → Tells results new
told_by results old new is = record { stage = ap (λ chip. chip.stage) is; line = ap (λ chip. chip.interrupts.line) is }

pub sent_told : (results : Results) (old new : ChipState) (step : StepsChip old new) → old.stage ≡ Busy Sent → step.between.stage ≡ behind.Telling results → looks_for_cylinder old.order results ≡ false
    → Tells results new
sent_told results old new step sent told found =
    told_by results (with_front (results_taken step.between) old) new
    (subst (λ b. EndsSent b results (with_front (results_taken step.between) old) new) found (ends_so results old new step sent told))

looks_by : (results : Results) (told : Front) (old new : ChipState) → EndsSent true results (with_front (results_taken told) old) new → LooksFor results told new
looks_by results told old new (gives, rest) = record { stage = ap (λ chip. chip.stage) rest; gives = gives }

pub sent_looks : (results : Results) (old new : ChipState) (step : StepsChip old new) → old.stage ≡ Busy Sent → step.between.stage ≡ behind.Telling results → looks_for_cylinder old.order results ≡ true
    → LooksFor results step.between new
sent_looks results old new step sent told missed =
    looks_by results step.between old new
    (subst (λ b. EndsSent b results (with_front (results_taken step.between) old) new) missed (ends_so results old new step sent told))

-- ---- which cylinder passes

bits_among : (wanted passed : ℕ) → AreOfCylinder (cylinder_bits wanted passed)
bits_among wanted passed = by_key (wanted == passed) (passed == 0xFF)
  where
    by_key : (same bad : Bool) → AreOfCylinder (if same then 0 else (if bad then bit_or wrong_cylinder bad_cylinder else wrong_cylinder))
    by_key true bad = inl refl
    by_key false true = inr (inr refl)
    by_key false false = inr (inl refl)

adds : (first passed : Results) → AddsCylinder first (with_cylinder_passed first passed)
adds first passed = by_found (passed.st1.0 == 0)
  where
    by_found : (b : Bool) → AddsCylinder first (if b then record first { st2 = record { 0 = bit_or first.st2.0 (cylinder_bits first.key.c passed.key.c) } } else first)
    by_found true = record { bits = cylinder_bits first.key.c passed.key.c; among = bits_among first.key.c passed.key.c; told_is = refl }
    by_found false = record { bits = 0; among = inl refl; told_is = ap (λ (n : ℕ). record first { st2 = record { 0 = n } }) (sym (or_comm first.st2.0 0)) }

pub cylinder_told : (first : Results) (old new : ChipState) → StepsChip old new → old.stage ≡ Busy (Sought first) → LooksOrTells first new
cylinder_told first old new step sought =
    by_end (results_judged (with_front step.between old)) (subst (λ stage. Follows stage (with_front step.between old) new) sought step.follows)
  where
    by_end : (found : Option Results) → EndsAs found (Sought first) (with_front step.between old) new → LooksOrTells first new
    by_end (Some results) is = inr (
      with_cylinder_passed first results,
      adds first results,
      record { stage = ap (λ chip. chip.stage) is; line = ap (λ chip. chip.interrupts.line) is },
    )
    by_end None is = inl (ap (λ chip. chip.stage) is ∙ sought)

-- ---- the lines

and_all : (b : Bool) → (b && true) ≡ b
and_all true = refl
and_all false = refl

-- no byte passes
no_bytes : (results : Results) (chip : ChipState) → Tells results chip → passes chip ≡ false
no_bytes results chip tells = and_left (passes_at chip.stage) (not (is_format chip.order && (chip.keys == 0))) (ap passes_at tells.stage)

pub told_interrupts : (results : Results) (chip : ChipState) → Tells results chip → interrupts_chip chip ≡ chip.gated
told_interrupts results chip tells =
    let asks = asks_outside chip.front in
    ap (λ b. chip.gated && (if b then asks else (chip.interrupts.line || shows_behind chip.stage chip.front)))
    (and_right (is_by_port chip.settings) (passes chip) (no_bytes results chip tells))
    ∙ (ap (λ line. chip.gated && (line || shows_behind chip.stage chip.front)) tells.line ∙ and_all chip.gated)

pub told_asks : (results : Results) (chip : ChipState) → Tells results chip → asks_chip chip ≡ false
told_asks results chip tells =
    ap (λ b. b && asks_outside chip.front) (and_right (chip.gated && not (is_by_port chip.settings)) (passes chip) (no_bytes results chip tells))

-- ---- what was heard of a track, whatever the drive's speed was when listening began

-- first so many words 0000 were heard. Then the medium still spins up, or it is at speed, and what was heard after
-- those words is of the track
pub record IsHearingLed (outset : Outset) (past : Past) (drive : DriveState) : Type 0 where
  pub lead : ℕ
  pub late : Past
  pub past_is : past ≡ led lead late
  pub drive_is : (IsUnheard late × IsSpinning outset 0 drive) ⊎ IsHearing outset late true drive

-- no word of the track was heard yet
pub hearing_first : (outset : Outset) (lead : ℕ) (late : Past) (drive : DriveState) → IsDisk outset.disk → IsUnheard late → IsTurningIn outset drive
    → IsHearingLed outset (led lead late) drive
hearing_first outset lead late drive valid none is = record {
  lead = lead;
  late = late;
  past_is = refl;
  drive_is = elim (slow_or_fast drive.spin) [
    | inl slow ↦ inl (none, record { turning = is; slow = slow; since = omega arith })
    | inr fast ↦ inr (subst (λ past. IsHearing outset past true drive) (sym none) (hearing_none outset late true drive valid is (λ _. fast)))
  ];
}

-- a device step of the command
pub hearing_led : (outset : Outset) (past : Past) (drive after : DriveState) (word : ℕ) → IsDisk outset.disk → IsHearingLed outset past drive
    → SeesUnder outset.rate outset.head drive word after → Becomes (let_pass drive) drive after → IsHearingLed outset (heard (at_index drive) word (stepped past)) after
hearing_led outset past drive after word valid was sees becomes = elim was.drive_is [
  | inl (none, spins) ↦
      let calm : heard (at_index drive) word (stepped past) ≡ led (was.lead + 1) (passed_by was.late) =
      ap (λ index. heard index word (stepped past)) (no_index outset 0 drive spins)
      ∙ (ap (λ w. heard false w (stepped past)) (hears_none outset 0 drive spins after word sees)
      ∙ (ap (λ p. heard false 0 (stepped p)) was.past_is ∙ longer_led was.lead was.late none)) in
      subst (λ p. IsHearingLed outset p after) (sym calm)
      (hearing_first outset (was.lead + 1) (passed_by was.late) after valid (still_unheard was.late none) (turning_on outset 0 drive spins after becomes))
  | inr at ↦ record {
    lead = was.lead;
    late = heard (at_index drive) word (stepped was.late);
    past_is = ap (λ p. heard (at_index drive) word (stepped p)) was.past_is ∙ heard_led was.lead was.late (at_index drive) word;
    drive_is = inr (hearing_on outset was.late drive after word true valid at sees becomes);
  }
]

-- the bytes that were moved play no part in this
hearing_bytes : (outset : Outset) (past : Past) (given taken : List ℕ) (counted : Bool) (drive : DriveState) → IsHearing outset past true drive
    → IsHearing outset (record past { given = given; taken = taken; counted = counted }) true drive
hearing_bytes outset past given taken counted drive was =
    let under = was.under refl in
    record {
      heard = was.heard;
      never_falls = was.never_falls;
      whole = was.whole;
      under = λ _. record { medium = under.medium; cylinder = under.cylinder; motor = under.motor; speed = under.speed; place = under.place; inside = under.inside };
    }

pub hearing_led_bytes : (outset : Outset) (past : Past) (given taken : List ℕ) (counted : Bool) (drive : DriveState) → IsHearingLed outset past drive
    → IsHearingLed outset (record past { given = given; taken = taken; counted = counted }) drive
hearing_led_bytes outset past given taken counted drive was = record {
  lead = was.lead;
  late = record was.late { given = given; taken = taken; counted = counted };
  past_is = ap (λ (p : Past). record p { given = given; taken = taken; counted = counted }) was.past_is;
  drive_is = elim was.drive_is [
    | inl (none, spins) ↦ inl (ap (λ (p : Past). record p { given = given; taken = taken; counted = counted }) none, spins)
    | inr at ↦ inr (hearing_bytes outset was.late given taken counted drive at)
  ];
}
