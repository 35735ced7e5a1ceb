-- A device step of a data command.
use Rattle.std.proofs.Common.{◌≡◌, ℕ, ◌+◌, ◌%◌, ◌≤◌, ◌==◌, Bool, true, false, List, length, [], ◌∷◌, ◌++◌, if◌then◌else◌, refl, sym, ◌∙◌, ap, subst}
use Rattle.laws_machine.proofs.Common.{DriveState, after_transfer, Past, taken_in, told_count, told_in, is_executing, is_reading, asks, Fdc, Phase, Short, Long, Fifo, Board, controller_of, drive_in, Step, can_move, moved_to_memory, moved_from_memory, byte_read, told_if, Chips, Scene, StandsStill, IsTaken, refuses, Steady, Moving, IsUnderwayOn, Laid, Window, Track, Order, Identify, Read, Write, MayLayIn, MayLay, AtDrive, IsDoneBy, Underway, false≢true, grants, took, outset_of, drive_less, in_writes, in_formats, told_writes, told_formats, and_parts}
use Rattle.laws_machine.proofs.Facts.{told_busy, told_keeps}
use Rattle.pc_bus.specs.Transfers.{moved}
use Rattle.laws_machine.proofs.OnSteps.Transfers.{after_moves}
use Rattle.laws_machine.proofs.OnSteps.Words.{selected}
use Rattle.laws_machine.proofs.OnOrders.Behind.{KeepsOn, laid_on, IsDoing, IsOfWords}
use Rattle.laws_machine.proofs.OnOrders.Words.{views, word_time, fetched, must_ask}
use Rattle.laws_machine.proofs.OnWrites.Filling.{not_reading}
use Rattle.laws_machine.proofs.OnReads.Steps.{hearing_less}
use Rattle.fdc_phases.specs.declared.phases.Phase.TheVariants as phase
use Rattle.laws_machine.proofs.OnReads.Steps as reads
use Rattle.laws_machine.proofs.OnWrites.Filling as taking_bytes

-- ---- one transfer

-- the histories of commands that write take a byte, and TC
in_may : (laid : Laid) (scene : Scene) (past : Past) (fdc : Fdc) (byte : ℕ) → fdc.asking ≡ true → MayLay laid scene past fdc → MayLay laid scene (took byte past) (taken_in byte fdc)
in_may (Window deleted) scene past fdc byte up may = in_writes past scene.sent deleted fdc.phase fdc.asking fdc.fifo byte up may
in_may (Track numbers) scene past fdc byte up may = in_formats past scene.sent.head_drive numbers fdc.phase fdc.asking fdc.fifo byte up may

told_may : (laid : Laid) (scene : Scene) (past : Past) (fdc : Fdc) → MayLay laid scene past fdc → MayLay laid scene (told_in (is_executing fdc.phase) past) (told_count fdc)
told_may (Window deleted) scene past fdc may = told_writes past scene.sent deleted fdc.phase fdc.asking fdc.fifo may
told_may (Track numbers) scene past fdc may = told_formats past scene.sent.head_drive numbers fdc.phase fdc.asking fdc.fifo may

-- a command that asks is in execution, and takes bytes
record IsTaking (p : Phase) : Type 0 where
  busy : is_executing p ≡ true
  from_memory : is_reading p ≡ false

taking : (laid : Laid) (scene : Scene) (past : Past) (p : Phase) (asking : Bool) (fifo : Fifo) → asking ≡ true → MayLayIn laid scene past p asking fifo → IsTaking p
taking laid scene past phase.Command asking fifo up may = absurd (views laid scene past phase.Command asking fifo may)
taking laid scene past (phase.Result (Short next last)) asking fifo up may = absurd (views laid scene past (phase.Result (Short next last)) asking fifo may)
taking laid scene past (phase.Result (Long ending results read)) asking fifo up may =
    absurd (false≢true (sym (views laid scene past (phase.Result (Long ending results read)) asking fifo may) ∙ up))
taking laid scene past (phase.Execute execution) asking fifo up may =
    record { busy = refl; from_memory = not_reading (phase.Execute execution) (views laid scene past (phase.Execute execution) asking fifo may).0 }

abbrev retaken : Past → List ℕ → Bool → Past
retaken past taken counted = record past { taken = taken; counted = counted }

-- a byte goes to memory
read_moved : (scene : Scene) (P : Past → Bool → Type 0) → IsOfWords P → scene.address + scene.size ≤ length scene.memory → (chips : Chips) → can_move chips ≡ true → IsDoing Read scene P chips
    → IsDoing Read scene P (moved chips)
read_moved scene P words fits chips can was =
    let is = fetched scene fits was.past chips can was.known.may was.known.shows was.known.moves in
    record {
      past = record was.past { given = is.given; counted = is.counted };
      known = record {
        may = is.may;
        shows = λ _. is.busy ∙ was.known.shows (must_ask chips can);
        dor = ap (λ dor. dor.0) is.dor ∙ was.known.dor;
        rate = is.rate ∙ was.known.rate;
        moves = is.moved;
      };
      at = subst (P (record was.past { given = is.given; counted = is.counted })) (sym is.busy) (words.bytes was.past is.given was.past.taken is.counted (is_executing chips.controller.phase) was.at);
    }

-- a byte comes from memory
laid_moved : (laid : Laid) (scene : Scene) (P : Past → Bool → Type 0) → IsOfWords P → scene.address + scene.size ≤ length scene.memory → (chips : Chips) → chips.controller.asking ≡ true → grants chips.channel ≡ true
    → (was : IsDoing (Write laid) scene P chips) → is_executing chips.controller.phase ≡ true → IsDoing (Write laid) scene P (moved_from_memory chips)
laid_moved laid scene P words fits chips up granting was busy =
    by_count (taking_bytes.still_uncounted scene was.past.taken was.past.counted chips.memory chips.channel was.known.moves granting) (chips.channel.count == 0) refl
  where
    byte : ℕ
    byte = byte_read chips.channel chips.memory

    fdc : Fdc
    fdc = taken_in byte chips.controller

    into : MayLay laid scene (took byte was.past) fdc
    into = in_may laid scene was.past chips.controller byte up was.known.may

    by_count : was.past.counted ≡ false → (last : Bool) → (chips.channel.count == 0) ≡ last
        → IsDoing (Write laid) scene P (record chips { controller = told_if last fdc; channel = after_transfer chips.channel })
    by_count uncounted last is = by_last last (taking_bytes.taken_more scene was.past.taken chips.memory chips.channel fits
        (subst (λ c. IsTaken scene was.past.taken c chips.memory chips.channel) uncounted was.known.moves) last is)
      where
        by_last : (last : Bool) → IsTaken scene (was.past.taken ++ byte ∷ []) last chips.memory (after_transfer chips.channel)
            → IsDoing (Write laid) scene P (record chips { controller = told_if last fdc; channel = after_transfer chips.channel })
        by_last true moves = record {
          past = retaken was.past (was.past.taken ++ byte ∷ []) true;
          known = record {
            may = subst (λ b. MayLay laid scene (told_in b (took byte was.past)) (told_count fdc)) busy (told_may laid scene (took byte was.past) fdc into);
            shows = λ is. was.known.shows (sym (told_keeps refuses (λ _. refl) fdc.phase) ∙ is);
            dor = was.known.dor;
            rate = was.known.rate;
            moves = moves;
          };
          at = subst (P (retaken was.past (was.past.taken ++ byte ∷ []) true)) (sym (told_busy fdc.phase)) (words.bytes was.past was.past.given (was.past.taken ++ byte ∷ []) true (is_executing fdc.phase) was.at);
        }
        by_last false moves = record {
          past = retaken was.past (was.past.taken ++ byte ∷ []) was.past.counted;
          known = record { may = into; shows = was.known.shows; dor = was.known.dor; rate = was.known.rate; moves = subst (λ c. IsTaken scene (was.past.taken ++ byte ∷ []) c chips.memory (after_transfer chips.channel)) (sym uncounted) moves };
          at = words.bytes was.past was.past.given (was.past.taken ++ byte ∷ []) was.past.counted (is_executing fdc.phase) was.at;
        }

laid_one : (laid : Laid) (scene : Scene) (P : Past → Bool → Type 0) → IsOfWords P → scene.address + scene.size ≤ length scene.memory → (chips : Chips) → can_move chips ≡ true → IsDoing (Write laid) scene P chips
    → IsDoing (Write laid) scene P (moved chips)
unfolding moved
laid_one laid scene P words fits chips can was =
    let granting = (and_parts (asks chips.controller) (grants chips.channel) can).1 in
    let is = taking laid scene was.past chips.controller.phase chips.controller.asking chips.controller.fifo (must_ask chips can) was.known.may in
    subst (λ b. IsDoing (Write laid) scene P (if b then moved_to_memory chips else moved_from_memory chips)) (sym is.from_memory) (laid_moved laid scene P words fits chips (must_ask chips can) granting was is.busy)

one : (order : Order) (scene : Scene) (P : Past → Bool → Type 0) → IsOfWords P → scene.address + scene.size ≤ length scene.memory → (chips : Chips) → can_move chips ≡ true → IsDoing order scene P chips → IsDoing order scene P (moved chips)
one Identify scene P words fits chips can was = absurd (false≢true (sym was.known.shows.0 ∙ must_ask chips can))
one Read scene P words fits chips can was = read_moved scene P words fits chips can was
one (Write laid) scene P words fits chips can was = laid_one laid scene P words fits chips can was

-- ---- the device step

pub transfers : (order : Order) (scene : Scene) (P : Past → Bool → Type 0) → IsOfWords P → scene.address + scene.size ≤ length scene.memory → Moving (IsDoing order scene P)
transfers order scene P words fits = record {
  one = one order scene P words fits;
  held = λ chips holding was. record { past = was.past; known = record { may = was.known.may; shows = was.known.shows; dor = was.known.dor; rate = was.known.rate; moves = was.known.moves }; at = was.at };
}

-- moved bytes play no part in what is known of the drive
pub at_bytes : (order : Order) (scene : Scene) (drive : DriveState) → IsOfWords (λ past executes. AtDrive order scene past executes drive)
at_bytes (Write laid) scene drive = record {
  bytes = λ past given taken counted executes was. laid_on laid scene past (record past { given = given; taken = taken; counted = counted }) executes executes drive drive
      (drive_less (outset_of scene) past executes executes drive given taken counted (λ busy. busy)) refl refl was;
}
at_bytes _ scene drive = record {
  bytes = λ past given taken counted executes was. reads.hearing_same scene past (record past { given = given; taken = taken; counted = counted }) executes drive (record { turns = refl; seen = refl }) was;
}

pub drive_on : (order : Order) (scene : Scene) (past : Past) (before now : Bool) (drive : DriveState) → (now ≡ true → before ≡ true) → AtDrive order scene past before drive → AtDrive order scene past now drive
drive_on (Write laid) scene past before now drive less was =
    laid_on laid scene past past before now drive drive (drive_less (outset_of scene) past before now drive past.given past.taken past.counted less) refl refl was
drive_on _ scene past before now drive less was = hearing_less scene past before now drive less was

pub at_drive : (order : Order) (scene : Scene) → KeepsOn order scene (AtDrive order scene)
at_drive order scene = record { word_time = word_time order scene; bytes = at_bytes order scene; less = drive_on order scene }

module _ (order : Order) (scene : Scene) (On : Past → Bool → DriveState → Type 0) (keeps : KeepsOn order scene On) where
  step_goes : (old new : Board) → Step old new → IsUnderwayOn On order scene old → IsUnderwayOn On order scene new
  step_goes old new step (past, was) =
      let whole = was.scene_is in
      let works = selected scene.bay whole.bay old new (ap (λ byte. byte % 4) was.chips.dor ∙ whole.selects) step in
      let then_is = after_moves (IsDoing order scene (λ past executes. On past executes (drive_in new scene.bay)))
      (transfers order scene (λ past executes. On past executes (drive_in new scene.bay)) (keeps.bytes (drive_in new scene.bay)) whole.fits) old new step
      (keeps.word_time past old.bus.chips (drive_in old scene.bay) step.between (drive_in new scene.bay) whole was.chips was.drive works) in
      (then_is.past, record { scene_is = whole; chips = then_is.known; drive = then_is.at })

  -- device steps keep the command underway, and so do calls that leave chips and drives
  pub goes_on : Steady (IsUnderwayOn On order scene)
  goes_on = record { step = step_goes; idle = λ old gaps fresh (past, was). (past, record { scene_is = was.scene_is; chips = was.chips; drive = was.drive }) }

  -- so does a call that takes the latch
  pub still_goes : (old new : Board) → StandsStill old new → IsUnderwayOn On order scene old → IsUnderwayOn On order scene new
  still_goes old new still (past, was) = (
    past,
    record {
      scene_is = was.scene_is;
      chips = subst (IsDoneBy order scene past) (sym still.chips) was.chips;
      drive = subst (λ chips. On past (is_executing chips.controller.phase) (drive_in new scene.bay)) (sym still.chips)
          (subst (On past (is_executing (controller_of old).phase)) (sym (reads.same_drive old.first old.second new.first new.second still.first still.second (scene.bay == 0))) was.drive);
    },
  )

pub underway : (order : Order) (scene : Scene) → Steady (Underway order scene)
underway order scene = goes_on order scene (AtDrive order scene) (at_drive order scene)

pub still_keeps : (order : Order) (scene : Scene) (old new : Board) → StandsStill old new → Underway order scene old → Underway order scene new
still_keeps order scene = still_goes order scene (AtDrive order scene) (at_drive order scene)
