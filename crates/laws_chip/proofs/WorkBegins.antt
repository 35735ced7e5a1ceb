-- A command begins in an inner controller that is free: so many device steps at most are left of it.
use Rattle.std.proofs.Common.{◌≡◌, inl, inr, ℕ, ◌+◌, ◌*◌, ◌≤◌, Bool, true, false, ◌&&◌, Some, [], refl, ◌∙◌, ap, subst, arith, ◌⊎◌, zero, suc, ◌-◌, ◌<◌, ◌==◌, Option, List, ◌∷◌, sym}
use Rattle.laws_chip.proofs.Common.{and_parts, false≢true, Chrn, Numbers, BeginsData, Fdc, GivesCommand, size_of, Transfer, is_under_way, most_steps, ChipState, code_of, FormatsIf, Obeys, Refuses, TransfersIf, absent_key, formatting, identifying, implies, is_size, no_key, reading_one, sectors_of_track, sectors_verified, track_begun, transfer_sent, verifying, with_keys, with_last, ChipOpcode, Order, BeginsBehind, IsDoneFree, IsFreeBehind, IsWorking, most_steps_of, sectors_of, most_track_steps, IsSound, needs_heads, Held, IsHeldFor, completed, still_moves, AreWorking, IsGiven, HeadsMove, WaitsFor, heads_of, Call, Does, is_reset, is_step, steps_in, steps_of, HeadsPaced, is_of_data_port, HeadsGo, IsSoundInRange, most_of}
use Rattle.laws_chip.proofs.Lasted.{begun_records, first_lasts}
use Rattle.laws_chip.proofs.BusyLeft.{BusyLeft, ServedLeft, leaves_left, more_left, call_left, left_positive}
use Rattle.laws_chip.proofs.CommandsBegun.{begins_sent, transfer_begun}
use Rattle.laws_chip.proofs.Identified.{id_begins}
use Rattle.laws_chip.proofs.SinglesLast.{left_most, steps_less}
use Rattle.laws_chip.proofs.TracksLast.{track_leaves, none_of}
use Rattle.laws_chip.proofs.UnderWay.{either_way, Stands, format_obeyed, given_obeyed, stands_free}
use Rattle.laws_chip.proofs.VerifiesLast.{verify_begins, verify_verifies, begins_formats, formats}
use Rattle.laws_chip.proofs.Rests.{format_executes, id_executes}
use Rattle.laws_chip.proofs.HeadsGoing.{heads_some}
use Rattle.laws_chip.proofs.NextStages.{works_quiet}
use Rattle.laws_chip.proofs.PulsesGoing.{paced_some}
use Rattle.laws_chip.proofs.SeeksHeld.{call_going, call_paced, held_step, paced_held, move_call, move_step}
use Rattle.laws_chip.proofs.SoundCalls.{call_sound}
use Rattle.laws_chip.proofs.WholeTransfers.{attended_held, attending, byte_attends, byte_free, call_held, same_moves, data_same}
use Rattle.fdc_commands.specs.declared.command.Command.TheVariants as command
use Rattle.fdc_chip.specs.declared.code.ChipOpcode.TheVariants as code
use Rattle.fdc_chip.specs.declared.stage.ChipTask.TheVariants as task
use Rattle.laws_chip.specs.Bounds as bounds
use Rattle.laws_chip.specs.Calls as made

-- ---- a command of the controller's own

-- a command that this medium can't have is a READ ID
refused_begins : (key : Chrn) (mfm : Bool) (old new : ChipState) → Stands old.front → Refuses key mfm old new → BusyLeft 65536 new
refused_begins key mfm old new stands begins =
    let sent = begins_sent (task.Refused old.order.unit key mfm) (GivesCommand (identifying old.order.unit)) old new stands begins in
    record { task = task.Refused old.order.unit key mfm; at = sent.stage; left = record { few = left_most new.front.adapter.controller.phase } }

id_starts : (mfm : Bool) (old new : ChipState) → IsSound new → code_of old.order.code ≡ Some (code.ReadId mfm) → IsFreeBehind old.front → Obeys (code.ReadId mfm) old new → BusyLeft 65536 new
id_starts true old new sound is free obeys =
    let sent = begins_sent task.Sent (GivesCommand (identifying old.order.unit)) old new (stands_free old.front free) obeys in
    let obeyed = given_obeyed (command.ReadId old.order.unit) sent.set new.front sent.stands refl sent.gives in
    record {
      task = task.Sent;
      at = sent.stage;
      left = inr (record {
        executes = (id_executes old.order.unit sent.set new.front sent.stands obeyed).0;
        few = left_most new.front.adapter.controller.phase;
        never = inl (id_begins old new sound is free obeys).order;
      });
    }
id_starts false old new sound is free obeys = refused_begins no_key false old new (stands_free old.front free) obeys

format_begins : (b mfm : Bool) (old new : ChipState) → Stands old.front → (mfm && is_size old.order.key.c) ≡ b → FormatsIf b mfm old new → BusyLeft 65536 new
format_begins true mfm old new stands is begins =
    let order = old.order in
    let key = order.key in
    let sent = begins_sent task.Sent (GivesCommand (formatting order)) old new stands begins in
    let obeyed = format_obeyed order.unit key.c key.h key.r key.n sent.set new.front sent.stands (and_parts mfm (is_size key.c) is).1 sent.gives in
    let kind : BeginsData (command.FormatTrack order.unit key.c key.h key.r key.n) (record sent.set.adapter.controller { command = [] }) new.front.adapter.controller = (obeyed.obeys.0 sent.stands.rests).1 sent.stands.by_dma in
    let numbers : Numbers = record { n = key.c; sectors = key.h; gap3 = key.r; fill = key.n } in
    record {
      task = task.Sent;
      at = sent.stage;
      left = inr (record {
        executes = (format_executes order.unit key.c key.h key.r key.n sent.set new.front sent.stands obeyed).0;
        few = left_most new.front.adapter.controller.phase;
        never = inr (ap (λ (fdc : Fdc). formats fdc.phase) kind.3 ∙ begins_formats order.unit numbers kind.0 kind.1);
      });
    }
format_begins false mfm old new stands is begins = refused_begins no_key mfm old new stands begins

-- ---- ---- a command of sectors

order_left : (seeks : Bool) (order : Order) (new : ChipState) → BeginsBehind (transfer_sent seeks order) new.front → is_under_way new.front.stage ≡ true → IsWorking new → ServedLeft (256 + 65536 * (sectors_of order + 1)) new
order_left seeks order new begins under working =
    let first = transfer_sent seeks order in
    let records = begun_records new.front.stage first new.front.adapter.controller begins.serves.now under working.ranges.records in
    record {
      under = under;
      here = most_steps first;
      lasts = first_lasts first begins.start new.front begins.begins (λ more. records) working.ranges.controller;
      few = omega arith;
    }

-- the medium can't have such a command
refused_left : (n : ℕ) (mfm : Bool) (old new : ChipState) → 65536 ≤ n → IsFreeBehind old.front → Refuses old.order.key mfm (with_last old.order.last_sector old) new → BusyLeft n new
refused_left n mfm old new some free refuses =
    more_left 65536 n new some (refused_begins old.order.key mfm (with_last old.order.last_sector old) new (stands_free old.front free) refuses)

refused_sectors : (sectors : ℕ) (mfm : Bool) (old new : ChipState) → IsFreeBehind old.front → Refuses old.order.key mfm (with_last old.order.last_sector old) new → BusyLeft (256 + 65536 * (sectors + 1)) new
refused_sectors sectors mfm old new free refuses = refused_left (256 + 65536 * (sectors + 1)) mfm old new (omega arith) free refuses

transfer_starts : (mfm : Bool) (old new : ChipState) → IsFreeBehind old.front → Obeys (code.Transfer mfm) old new → IsWorking new → BusyLeft (most_steps_of (code.Transfer mfm) old.order) new
transfer_starts false old new free obeys working = refused_sectors (sectors_of old.order) false old new free obeys
transfer_starts true old new free obeys working = either_way (is_size old.order.key.n)
    (λ size.
    let begun = transfer_begun old new size free obeys in
    record { task = task.Sent; at = begun.serving.sent; left = inl (order_left (implies old) old.order new begun.begins begun.serving.under_way working) })
    (λ unsized. refused_sectors (sectors_of old.order) true old new free (subst (λ b. TransfersIf b true task.Sent old.order (with_last old.order.last_sector old) new) unsized obeys))

verify_starts : (mfm : Bool) (old new : ChipState) → IsFreeBehind old.front → Obeys (code.Verify mfm) old new → IsWorking new → BusyLeft (most_steps_of (code.Verify mfm) old.order) new
verify_starts false old new free obeys working = refused_sectors (sectors_of (verifying old.order)) false old new free obeys
verify_starts true old new free obeys working = either_way (is_size old.order.key.n)
    (λ size.
    let on = verify_verifies old new size free obeys in
    record { task = task.Verify on.left; at = on.verifies; left = order_left (implies old) (verifying old.order) new (verify_begins old new size free obeys) on.under_way working })
    (λ unsized.
    refused_sectors (sectors_of (verifying old.order)) true old new free
    (subst (λ b. TransfersIf b true (task.Verify (sectors_verified old.order * size_of old.order.key.n)) (verifying old.order) (with_last old.order.last_sector old) new) unsized obeys))

refused_track : (left : ℕ) (mfm : Bool) (old new : ChipState) → IsFreeBehind old.front → Refuses old.order.key mfm (with_last old.order.last_sector old) new → BusyLeft (65792 + 131328 * left) new
refused_track left mfm old new free refuses = refused_left (65792 + 131328 * left) mfm old new (omega arith) free refuses

track_starts : (mfm : Bool) (old new : ChipState) → IsFreeBehind old.front → Obeys (code.ReadTrack mfm) old new → IsWorking new → BusyLeft (most_steps_of (code.ReadTrack mfm) old.order) new
track_starts false old new free obeys working = refused_track (sectors_of_track old.order) false old new free obeys
track_starts true old new free obeys working = either_way (is_size old.order.key.n)
    (λ size. leaves_left (most_track_steps old.order) new (track_leaves old new size free obeys working.ranges.controller))
    (λ unsized.
    refused_track (sectors_of_track old.order) true old new free
    (subst (λ b. TransfersIf b true (task.Track (track_begun (implies old) old.order)) (reading_one (absent_key old.order.key.c) old.order) (with_last old.order.last_sector old) new) unsized obeys))

-- ---- ---- any of these commands

-- the command reads, writes or formats sectors, or reads a sector ID
abbrev pub is_data : ChipOpcode → Bool
is_data (code.ReadId _) = true
is_data (code.FormatTrack _) = true
is_data (code.Transfer _) = true
is_data (code.Verify _) = true
is_data (code.ReadTrack _) = true
is_data _ = false

starts : (found : ChipOpcode) (old new : ChipState) → is_data found ≡ true → IsSound new → code_of old.order.code ≡ Some found → IsFreeBehind old.front → Obeys found old new → IsWorking new
    → BusyLeft (most_steps_of found old.order) new
starts (code.ReadId mfm) old new kind sound is free obeys working = id_starts mfm old new sound is free obeys
starts (code.FormatTrack mfm) old new kind sound is free obeys working =
    let set = with_keys old.order.key.h (with_last old.order.key.h old) in
    format_begins (mfm && is_size old.order.key.c) mfm set new (stands_free old.front free) refl obeys
starts (code.Transfer mfm) old new kind sound is free obeys working = transfer_starts mfm old new free obeys working
starts (code.Verify mfm) old new kind sound is free obeys working = verify_starts mfm old new free obeys working
starts (code.ReadTrack mfm) old new kind sound is free obeys working = track_starts mfm old new free obeys working
starts _ old new kind sound is free obeys working = absurd (false≢true kind)

pub done_left : (found : ChipOpcode) (order : Order) (seeks : Bool) (new : ChipState) → is_data found ≡ true → IsSound new → code_of order.code ≡ Some found → IsDoneFree found order seeks new → IsWorking new
    → BusyLeft (most_steps_of found order) new
done_left found order seeks new kind sound is done working =
    subst (λ o. BusyLeft (most_steps_of found o) new) done.order_is
    (starts found done.set new kind sound (ap (λ (o : Order). code_of o.code) done.order_is ∙ is) done.free done.obeys working)

-- ---- A command that was given ends: it waits for heads, if it is held, and each of its device steps leaves fewer

-- ---- what is left

-- the command is held, and waits for heads
pub record HeldLeft (most n : ℕ) (order : Order) (chip : ChipState) : Type 0 where
  pub held : IsHeldFor order chip
  pub wait : ℕ
  pub waits : WaitsFor wait chip
  pub few : wait + most ≤ n

abbrev pub WorkLeft : ℕ → Order → ℕ → ChipState → Type 0
WorkLeft most order n chip = BusyLeft n chip ⊎ HeldLeft most n order chip

-- ---- a call that is no device step

other_waits : (wait : ℕ) (call : Call) (old new : ChipState) → old.stage ≡ Held → WaitsFor wait old → Does call old new → is_step call ≡ false → is_reset call ≡ false → is_of_data_port call ≡ false → WaitsFor wait new
other_waits wait call old new at (bounds.move was) does no_step quiet other = bounds.move (move_call wait call old new at does no_step quiet other was)
other_waits wait call old new at (bounds.go drive goal was) does no_step quiet other = bounds.go drive goal (call_going wait drive goal Held call old new refl was does no_step quiet other)
other_waits wait call old new at (bounds.pace pulses drive goal was few) does no_step quiet other =
    bounds.pace pulses drive goal (call_paced pulses drive goal Held call old new refl was does no_step quiet other) few

none_fewer : (all n steps : ℕ) → steps ≡ 0 → all ≤ n → all ≤ n - steps
none_fewer all n steps none few = omega arith

held_call : (most n : ℕ) (order : Order) (call : Call) (old new : ChipState) → HeldLeft most n order old → Does call old new → is_step call ≡ false → is_reset call ≡ false → HeldLeft most (n - steps_of call) order new
held_call most n order call old new was does no_step quiet = record {
  held = call_held order call old new was.held does no_step quiet;
  wait = was.wait;
  waits = either_way (is_of_data_port call)
      (λ here. subst (WaitsFor was.wait) (sym (data_same call old new was.held.held does here)) was.waits)
      (λ other. other_waits was.wait call old new was.held.held was.waits does no_step quiet other);
  few = none_fewer (was.wait + most) n (steps_of call) (none_of call no_step) was.few;
}

-- ---- ---- a device step

pulse_waited : (pulses goal wait most n : ℕ) → pulses + 1 + goal ≤ wait → wait + most ≤ n → (pulses + goal ≤ wait - 1) × (wait - 1 + most ≤ n - 1)
pulse_waited pulses goal wait most n more few = (omega arith, omega arith)

move_some : (all left : ℕ) → 1 ≤ all → all ≤ left → 1 ≤ left
move_some all left some few = omega arith

next : (n : ℕ) → suc n ≡ n + 1
next n = omega arith

module _ (found : ChipOpcode) (order : Order) (kind : is_data found ≡ true) (heads : needs_heads found ≡ true) (is : code_of order.code ≡ Some found) where
  abbrev most : ℕ
  most = most_steps_of found order

  go_step : (wait n drive : ℕ) (goal : Option ℕ) (old new : ChipState) → IsSound old → IsSound new → IsWorking new → IsHeldFor order old → HeadsGo wait drive goal Held old → wait + most ≤ n → Does made.Steps old new → WorkLeft most order (n - 1) new
  go_step zero n drive goal old new sound still working held was few does = absurd (heads_some drive goal Held old was)
  go_step (suc wait) n drive goal old new sound still working held was few does =
      let all : wait + 1 + most ≤ n = subst (λ m. m + most ≤ n) (next wait) few in
      elim (held_step wait drive goal found order old new sound held is heads (subst (λ m. HeadsGo m drive goal Held old) (next wait) was) does) [
        | inl (on, going) ↦ inr (record { held = on; wait = wait; waits = bounds.go drive goal going; few = (omega arith) })
        | inr done ↦ inl (more_left most (n - 1) new (omega arith) (done_left found order (implies old) new kind still is done working))
      ]

  pace_step : (pulses wait n drive : ℕ) (goal : Option ℕ) (old new : ChipState) → IsSoundInRange old → IsSoundInRange new → IsHeldFor order old → HeadsPaced pulses drive goal Held old → pulses + most_of goal ≤ wait → wait + most ≤ n
      → Does made.Steps old new → WorkLeft most order (n - 1) new
  pace_step zero wait n drive goal old new sound still held was more few does = absurd (paced_some drive goal Held old was)
  pace_step (suc pulses) wait n drive goal old new sound still held was more few does =
      let all : pulses + 1 + most_of goal ≤ wait = subst (λ m. m + most_of goal ≤ wait) (next pulses) more in
      let (on, goes) = paced_held pulses drive goal found order old new sound still held is heads (subst (λ m. HeadsPaced m drive goal Held old) (next pulses) was) does in
      elim goes [
        | inl going ↦
            let (fewer, left) = pulse_waited pulses (most_of goal) wait most n all few in
            inr (record { held = on; wait = wait - 1; waits = bounds.pace pulses drive goal going fewer; few = left })
        | inr going ↦ inr (record { held = on; wait = most_of goal; waits = bounds.go drive goal going; few = (omega arith) })
      ]

  moved_step : (wait n : ℕ) (old new : ChipState) → IsSound old → IsSound new → IsWorking old → IsWorking new → IsHeldFor order old → HeadsMove wait old → wait + most ≤ n → Does made.Steps old new → WorkLeft most order (n - 1) new
  moved_step wait n old new sound still worked working held was few does =
      let some = move_some (heads_of old) wait was.some was.within in
      elim (move_step wait found order old new sound worked.ranges.controller working.ranges.controller held is heads was does) [
        | inl (on, going) ↦ inr (record { held = on; wait = wait - 1; waits = bounds.move going; few = (omega arith) })
        | inr done ↦ inl (more_left most (n - 1) new (omega arith) (done_left found order (implies old) new kind still is done working))
      ]

  held_by_step : (n : ℕ) (old new : ChipState) → IsSound old → IsSound new → IsWorking old → IsWorking new → HeldLeft most n order old → Does made.Steps old new → WorkLeft most order (n - 1) new
  held_by_step n old new sound still worked working was does = by_wait was.waits
    where
      by_wait : WaitsFor was.wait old → WorkLeft most order (n - 1) new
      by_wait (bounds.move going) =
          moved_step was.wait n old new sound still worked working was.held going was.few does
      by_wait (bounds.go drive goal going) = go_step was.wait n drive goal old new sound still working was.held going was.few does
      by_wait (bounds.pace pulses drive goal going more) =
          pace_step pulses was.wait n drive goal old new (record { sound = sound; range = worked.ranges.controller }) (record { sound = still; range = working.ranges.controller }) was.held going more was.few does

  held_left : (call : Call) (n : ℕ) (old new : ChipState) → IsSound old → IsSound new → IsWorking old → IsWorking new → HeldLeft most n order old → Does call old new → WorkLeft most order (n - steps_of call) new
  held_left made.Steps n old new sound still worked working was does = held_by_step n old new sound still worked working was does
  held_left (made.Writes port value) n old new sound still worked working was does =
      inr (held_call most n order (made.Writes port value) old new was does refl (works_quiet (made.Writes port value) old new does working.works))
  held_left call n old new sound still worked working was does = inr (held_call most n order call old new was does refl refl)

  pub work_call : (call : Call) (n : ℕ) (old new : ChipState) → IsSound old → IsSound new → IsWorking old → IsWorking new → WorkLeft most order n old → Does call old new → WorkLeft most order (n - steps_of call) new
  work_call call n old new sound still worked working (inl was) does = inl (call_left call n old new sound still was does working.works)
  work_call call n old new sound still worked working (inr was) does = held_left call n old new sound still worked working was does

  -- ---- ---- calls one after the other

  waits_some : (wait : ℕ) (chip : ChipState) → WaitsFor wait chip → 1 ≤ wait
  waits_some wait chip (bounds.move was) = move_some (heads_of chip) wait was.some was.within
  waits_some wait chip (bounds.go drive goal was) = by_wait wait was
    where
      by_wait : (wait : ℕ) → HeadsGo wait drive goal Held chip → 1 ≤ wait
      by_wait zero was = absurd (heads_some drive goal Held chip was)
      by_wait (suc wait) was = omega arith
  waits_some wait chip (bounds.pace pulses drive goal was few) = by_pulses pulses was few
    where
      by_pulses : (pulses : ℕ) → HeadsPaced pulses drive goal Held chip → pulses + most_of goal ≤ wait → 1 ≤ wait
      by_pulses zero was few = absurd (paced_some drive goal Held chip was)
      by_pulses (suc pulses) was few = omega arith

  held_some : (wait n : ℕ) → 1 ≤ wait → wait + most ≤ n → 0 < n
  held_some wait n some few = omega arith

  pub work_some : (n : ℕ) (chip : ChipState) → IsSound chip → WorkLeft most order n chip → 0 < n
  work_some n chip sound (inl was) = left_positive n chip sound was
  work_some n chip sound (inr was) = held_some was.wait n (waits_some was.wait chip was.waits) was.few

  works_last : (calls : List Call) (n : ℕ) (old new : ChipState) → IsSound old → IsWorking old → WorkLeft most order n old → AreWorking calls old new → steps_in calls < n
  works_last [] n old new sound worked was same = work_some n old sound was
  works_last (call ∷ calls) n old new sound worked was (between, does, writes, working, rest) =
      let still = call_sound call old between does writes sound in
      steps_less (steps_of call) (steps_in calls) n (works_last calls (n - steps_of call) between new still working (work_call call n old between sound still worked working was does) rest)

-- ---- the last byte

-- the command begins, or is held
pub given_left : (wait : ℕ) (found : ChipOpcode) (byte : ℕ) (old begun : ChipState) → is_data found ≡ true → needs_heads found ≡ true → IsGiven wait found byte old begun
    → WorkLeft (most_steps_of found (completed byte old)) (completed byte old) (wait + most_steps_of found (completed byte old)) begun
given_left wait found byte old begun kind heads given =
    let order = completed byte old in
    let most = most_steps_of found order in
    let still = call_sound (made.Writes 0x3F5 byte) old begun given.writes given.few given.sound in
    either_way (still_moves old)
    (λ moves.
    let held = attended_held found (attending byte old) begun (byte_attends found byte old begun given.sound given.few heads given.last given.writes) heads
    (same_moves (attending byte old) old refl refl ∙ moves) in
    inr (record { held = held; wait = wait; waits = given.waits held.held; few = (omega arith) }))
    (λ stands.
    let done = byte_free found byte old begun given.sound given.few heads given.last given.writes stands in
    inl (more_left most (wait + most) begun (omega arith) (done_left found order (implies old) begun kind still given.last.whole done given.working)))

pub given_lasts : (found : ChipOpcode) → is_data found ≡ true → needs_heads found ≡ true → (wait byte : ℕ) (calls : List Call) (old begun new : ChipState) → IsGiven wait found byte old begun → AreWorking calls begun new
    → steps_in calls < wait + most_steps_of found (completed byte old)
given_lasts found kind heads wait byte calls old begun new given are =
    let order = completed byte old in
    works_last found order kind heads given.last.whole calls (wait + most_steps_of found order) begun new
    (call_sound (made.Writes 0x3F5 byte) old begun given.writes given.few given.sound) given.working (given_left wait found byte old begun kind heads given) are
