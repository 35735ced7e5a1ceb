-- A drive whose medium spins up.
use Rattle.std.proofs.Common.{◌≡◌, ◌≤◌, Bool, true, refl, sym, subst, arith, inl, inr, ℕ, ◌+◌, false, length, ◌∙◌, ap, ◌⊎◌}
use Rattle.laws_machine.proofs.Common.{DriveState, Past, IsTurningIn, unheard, IsUnheard, Window, Track, Order, Write, AtDrive, IsDriveOf, Scene, IsScene, IsHearing, IsAtDrive, false≢true, new_past, outset_of, Becomes, at_index, heard, words_heard, stepped, SeesUnder, let_pass, led, IsSpinning, IsGuarded, IsLed, Identify, head_sent, track_met, heard_led, longer_led, passed_by, still_unheard, few_led, words_led, slow_or_fast, no_index, hears_none, turning_on, spin_on, IsSizeCode, content_size, Results, HasAddress, FindsSector, Done, read_tells, id_tells, is_executing, ReadMeansIn, IdMeansIn, Long, Result, Board, controller_of, memory_of, channel_of, drive_in, WarmsUp, Read, IdEnded, IdEndedIn, ReadEnded, ReadEndedIn, StaysOutside, IsMoved, address_late, found_late}
use Rattle.laws_machine.proofs.OnOrders.Steps.{at_bytes, drive_on}
use Rattle.laws_machine.proofs.OnOrders.Behind.{IsOfWords, Listening}
use Rattle.laws_machine.proofs.OnReads.Beginnings.{Listens}
use Rattle.laws_machine.proofs.OnReads.IdWords.{IsBrief}
use Rattle.laws_machine.proofs.OnReads.Words.{hearing_on, hearing_over, length-met, words_few}
use Rattle.fdc_core.proofs.drives.Shifted as spinning
use Rattle.laws_machine.proofs.OnReads.Steps as reads
use Rattle.laws_machine.proofs.OnReads.Beginnings as ids

-- ---- if no word of the track was heard

hearing_none : (scene : Scene) (late : Past) (executes : Bool) (drive : DriveState) → IsScene scene → IsTurningIn scene drive
    → (executes ≡ true → 6250 ≤ drive.spin) → IsHearing scene (unheard late) executes drive
hearing_none scene late executes drive whole is fast = spinning.hearing_none (outset_of scene) late executes drive whole.disk is fast

laying_none : (scene : Scene) (late : Past) (executes : Bool) (drive : DriveState) → IsScene scene → IsTurningIn scene drive
    → (executes ≡ true → 6250 ≤ drive.spin) → IsAtDrive scene (unheard late) executes drive
laying_none scene late executes drive whole is fast =
    let hearing = hearing_none scene late executes drive whole is fast in
    let room = is.inside in
    record {
      hears = record { heard = hearing.heard; never_falls = hearing.never_falls; whole = hearing.whole };
      medium = record { quiet = λ _. is.medium; absent = λ _. is.medium; put = λ there some. absurd (omega arith) };
      unprotected = λ some. absurd (omega arith);
      fits = λ some. absurd (omega arith);
      barred = λ yes. absurd (false≢true yes);
      early = omega arith;
      inside = omega arith;
      index = λ _ some. absurd (omega arith);
      works = λ busy. record {
        over = record { cylinder = is.cylinder; place = let here = is.place in omega arith; motor = is.motor; speed = fast busy };
        inside = omega arith;
        gate = λ there some. absurd (omega arith);
        few = omega arith;
        paced = refl;
        unprotected = λ some. absurd (omega arith);
      };
    }

at_none : (order : Order) (scene : Scene) (late : Past) (executes : Bool) (drive : DriveState) → IsScene scene → IsTurningIn scene drive
    → (executes ≡ true → 6250 ≤ drive.spin) → AtDrive order scene (unheard late) executes drive
at_none (Write (Window deleted)) scene late executes drive whole is fast =
    record { at = laying_none scene late executes drive whole is fast; there = λ some. absurd (omega arith); unbarred = refl }
at_none (Write (Track numbers)) scene late executes drive whole is fast = laying_none scene late executes drive whole is fast
at_none _ scene late executes drive whole is fast = hearing_none scene late executes drive whole is fast

pub nothing_heard : (order : Order) (scene : Scene) (late : Past) (executes : Bool) (drive : DriveState) → IsScene scene → IsUnheard late
    → IsTurningIn scene drive → (executes ≡ true → 6250 ≤ drive.spin) → AtDrive order scene late executes drive
nothing_heard order scene late executes drive whole none is fast =
    subst (λ past. AtDrive order scene past executes drive) (sym none) (at_none order scene late executes drive whole is fast)

-- a drive at speed, as a command finds it
pub turning_of : (scene : Scene) (drive : DriveState) → IsDriveOf scene drive → IsTurningIn scene drive
turning_of scene drive is =
    record { medium = is.medium; cylinder = is.cylinder; motor = is.motor; place = is.place; inside = is.inside; never_falls = let same = is.faults in omega arith }

pub none_heard : (order : Order) (scene : Scene) (executes : Bool) (drive : DriveState) → IsScene scene → IsDriveOf scene drive → AtDrive order scene new_past executes drive
none_heard order scene executes drive whole is = nothing_heard order scene new_past executes drive whole refl (turning_of scene drive is) (λ _. is.speed)

-- ---- READ ID and READ DATA, whatever the drive's speed was when they began

-- ---- what goes on while no word passes

-- bytes that were moved play no part
pub led_bytes : (order : Order) (scene : Scene) (drive : DriveState) → IsOfWords (λ past executes. IsLed order scene past executes drive)
led_bytes order scene drive = record {
  bytes = λ past given taken counted executes was. record {
    lead = was.lead;
    late = record was.late { given = given; taken = taken; counted = counted };
    past_is = ap (λ (p : Past). record p { given = given; taken = taken; counted = counted }) was.past_is;
    short = was.short;
    guarded = was.guarded;
    drive_is = elim was.drive_is [
      | inl (none, spins) ↦ inl (ap (λ (p : Past). record p { given = given; taken = taken; counted = counted }) none, spins)
      | inr at ↦ inr ((at_bytes order scene drive).bytes was.late given taken counted executes at)
    ];
  };
}

-- the same words passed, and this is then known of the drive
pub led_at : (order : Order) (scene : Scene) (past : Past) (before now : Bool) (drive after : DriveState) → (was : IsLed order scene past before drive)
    → (IsUnheard was.late × IsSpinning scene was.lead after) ⊎ AtDrive order scene was.late now after → IsLed order scene past now after
led_at order scene past before now drive after was is =
    record { lead = was.lead; late = was.late; past_is = was.past_is; short = was.short; guarded = was.guarded; drive_is = is }

-- the command may be over
pub led_less : (order : Order) (scene : Scene) (past : Past) (before now : Bool) (drive : DriveState) → (now ≡ true → before ≡ true)
    → IsLed order scene past before drive → IsLed order scene past now drive
led_less order scene past before now drive less was =
    led_at order scene past before now drive drive was (elim was.drive_is [ inl spins ↦ inl spins | inr at ↦ inr (drive_on order scene was.late before now drive less at) ])

-- once the command is over, all is known of the drive that is known for a command that began at speed
pub led_over : (order : Order) (scene : Scene) (past : Past) (executes : Bool) (drive : DriveState) → IsScene scene
    → (was : IsLed order scene past executes drive) → AtDrive order scene was.late false drive
led_over order scene past executes drive whole was = elim was.drive_is [
  | inl (none, spins) ↦ nothing_heard order scene was.late false drive whole none spins.turning (λ busy. absurd (false≢true busy))
  | inr at ↦ drive_on order scene was.late executes false drive (λ busy. absurd (false≢true busy)) at
]

-- ---- a word time in which the medium spins up

pub spun : (order : Order) (scene : Scene) (lead : ℕ) (late : Past) (executes : Bool) (drive after : DriveState) → IsScene scene → IsUnheard late
    → IsSpinning scene lead drive
    → Becomes (let_pass drive) drive after → IsGuarded order scene (lead + 1) → IsLed order scene (heard false 0 (stepped (led lead late))) executes after
spun order scene lead late executes drive after whole none spins becomes guarded =
    let spin = spin_on (outset_of scene) lead drive spins after becomes in
    let turning = turning_on (outset_of scene) lead drive spins after becomes in
    let since = spins.since in
    let slow = spins.slow in
    let later = still_unheard late none in
    record {
      lead = lead + 1;
      late = passed_by late;
      past_is = longer_led lead late none;
      short = omega arith;
      guarded = guarded;
      drive_is = elim (slow_or_fast after.spin) [
        | inl less ↦ inl (later, record { turning = turning; slow = less; since = omega arith })
        | inr fast ↦ inr (nothing_heard order scene (passed_by late) executes after whole later turning (λ _. fast))
      ];
    }

-- ---- a command that listens

hears_at : (order : Order) (scene : Scene) (late : Past) (drive after : DriveState) (word : ℕ) (executes : Bool) → Listens order → IsScene scene
    → AtDrive order scene late true drive → SeesUnder scene.rate (head_sent scene.sent) drive word after → Becomes (let_pass drive) drive after
    → AtDrive order scene (heard (at_index drive) word (stepped late)) executes after
hears_at (Write laid) scene late drive after word executes listens whole at sees becomes = absurd listens
hears_at _ scene late drive after word executes listens whole at sees becomes = hearing_on scene late drive after word executes whole.disk at sees becomes

rests_at : (order : Order) (scene : Scene) (late : Past) (drive after : DriveState) → Listens order → AtDrive order scene late false drive
    → drive.faults ≤ after.faults → AtDrive order scene late false after
rests_at (Write laid) scene late drive after listens at falls = absurd listens
rests_at _ scene late drive after listens at falls = hearing_over scene late drive after at falls

unguarded : (order : Order) (scene : Scene) (lead : ℕ) → Listens order → IsGuarded order scene lead
unguarded (Write laid) scene lead listens = absurd listens
unguarded _ scene lead listens = tt

hears_led : (order : Order) (scene : Scene) (past : Past) (drive after : DriveState) (word : ℕ) (executes : Bool) → Listens order → IsScene scene
    → IsLed order scene past true drive → SeesUnder scene.rate (head_sent scene.sent) drive word after → Becomes (let_pass drive) drive after
    → IsLed order scene (heard (at_index drive) word (stepped past)) executes after
hears_led order scene past drive after word executes listens whole was sees becomes = elim was.drive_is [
  | inl (none, spins) ↦
      let calm : heard (at_index drive) word (stepped past) ≡ heard false 0 (stepped (led was.lead was.late)) =
      ap (λ index. heard index word (stepped past)) (no_index (outset_of scene) was.lead drive spins)
      ∙ (ap (λ w. heard false w (stepped past)) (hears_none (outset_of scene) was.lead drive spins after word sees) ∙ ap (λ p. heard false 0 (stepped p)) was.past_is) in
      subst (λ p. IsLed order scene p executes after) (sym calm)
      (spun order scene was.lead was.late executes drive after whole none spins becomes (unguarded order scene (was.lead + 1) listens))
  | inr at ↦ record {
    lead = was.lead;
    late = heard (at_index drive) word (stepped was.late);
    past_is = ap (λ p. heard (at_index drive) word (stepped p)) was.past_is ∙ heard_led was.lead was.late (at_index drive) word;
    short = was.short;
    guarded = was.guarded;
    drive_is = inr (hears_at order scene was.late drive after word executes listens whole at sees becomes);
  }
]

rests_led : (order : Order) (scene : Scene) (past : Past) (drive after : DriveState) → Listens order → IsScene scene → IsLed order scene past false drive
    → drive.faults ≤ after.faults → IsLed order scene past false after
rests_led order scene past drive after listens whole was falls =
    led_at order scene past false false drive after was (inr (rests_at order scene was.late drive after listens (led_over order scene past false drive whole was) falls))

pub listening_led : (order : Order) (scene : Scene) → Listens order → IsScene scene → Listening scene (IsLed order scene)
listening_led order scene listens whole = record {
  hears = λ past drive after word executes was sees becomes. hears_led order scene past drive after word executes listens whole was sees becomes;
  rests = λ past drive after was falls. rests_led order scene past drive after listens whole was falls;
}

-- a READ ID has steps left
pub brief_led : (scene : Scene) → IsScene scene → IsBrief (IsLed Identify scene)
brief_led scene whole past steps drive was pace =
    let hears = led_over Identify scene past true drive whole was in
    let few : length was.late.turns ≤ 1 = let same = few_led was.lead was.late.turns in let one = pace.few refl in let is = ap (λ p. length p.turns) was.past_is in omega arith in
    let words = words_few (track_met scene) scene.from was.late.turns was.late.seen hears.heard few in
    let all = words_led was.lead was.late.turns was.late.seen few in
    let is = ap (λ (p : Past). words_heard p) was.past_is in
    let heard = pace.heard_are in
    let short = was.short in
    let long = length-met scene whole.disk in
    let size = whole.disk.words_per_track.1 in
    omega arith

-- ---- what IC 00 says, whatever the drive's speed was when the command began

-- ---- READ DATA

pub read_found : (scene : Scene) (board : Board) (deleted : Bool) (results : Results) (taken : ℕ) → IsSizeCode scene.sent.key.n
    → scene.size ≡ content_size scene.sent.key.n → WarmsUp Read scene board
    → (controller_of board).phase ≡ Result (Long (Done deleted) results taken) → ReadEnded scene board
read_found scene board deleted results taken coded size (past, was) is =
    let faults = (drive_in board scene.bay).faults in
    let late = was.drive.late in
    let hears = led_over Read scene past (is_executing (controller_of board).phase) (drive_in board scene.bay) was.scene_is was.drive in
    let tells = read_tells past scene.sent (controller_of board) coded was.chips.may in
    let (results_are, finds) : ReadMeansIn past scene.sent (Result (Long (Done deleted) results taken)) = subst (ReadMeansIn past scene.sent) is tells in
    let given : past.given ≡ late.given = ap (λ (p : Past). p.given) was.drive.past_is in
    let here : FindsSector late scene.sent.key late.given deleted =
    found_late was.drive.lead late scene.sent.key late.given deleted (subst (λ (p : Past). FindsSector p scene.sent.key p.given deleted) was.drive.past_is finds) in
    let all = subst (λ (p : Past). p.counted ≡ true) was.drive.past_is finds.0 in
    let moves = subst (λ (p : Past). IsMoved scene p.given p.counted (memory_of board) (channel_of board)) was.drive.past_is was.chips.moves in
    subst (ReadEndedIn scene faults (memory_of board)) (sym is) (
      results_are,
      reads.ends scene late faults (memory_of board) hears.heard hears.whole (Done deleted) coded moves.bytes (λ counted. (moves.over counted).1 ∙ size)
          (λ uncounted. let (left, sum, set) = moves.goes_on uncounted in omega arith) here,
    )

pub read_outside : (scene : Scene) (board : Board) → WarmsUp Read scene board → StaysOutside scene (memory_of board)
read_outside scene board (past, was) = reads.stays_outside scene past.given past.counted (memory_of board) (channel_of board) was.chips.moves

-- ---- READ ID

pub id_found : (scene : Scene) (board : Board) (deleted : Bool) (results : Results) (taken : ℕ) → WarmsUp Identify scene board
    → (controller_of board).phase ≡ Result (Long (Done deleted) results taken) → IdEnded scene board
id_found scene board deleted results taken (past, was) is =
    let faults = (drive_in board scene.bay).faults in
    let late = was.drive.late in
    let hears = led_over Identify scene past (is_executing (controller_of board).phase) (drive_in board scene.bay) was.scene_is was.drive in
    let (results_are, has) : IdMeansIn past scene.sent.head_drive (Result (Long (Done deleted) results taken)) =
    subst (IdMeansIn past scene.sent.head_drive) is (id_tells past scene.sent.head_drive (controller_of board) was.chips.may) in
    let here : HasAddress late results.key = address_late was.drive.lead late results.key (subst (λ p. HasAddress p results.key) was.drive.past_is has) in
    subst (IdEndedIn scene faults) (sym is) (results_are, ids.address_ends scene late faults hears.heard hears.whole results.key here)

pub id_memory : (scene : Scene) (board : Board) → WarmsUp Identify scene board → memory_of board ≡ scene.memory
id_memory scene board (past, was) = was.chips.moves
