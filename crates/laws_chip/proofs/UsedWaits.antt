-- A chip that was made new and used by any calls: a command that it holds waits for heads for a bounded number of device
-- steps.
use Rattle.std.proofs.Common.{◌≡◌, ℕ, ◌<◌, ◌≤◌, Bool, true, false, ◌==◌, Option, Some, None, List, [], ◌∷◌, refl, sym, ◌∙◌, ap, subst, arith}
use Rattle.laws_chip.proofs.Common.{and_from, false≢true, DriveState, Fdc, ChipState, IsNewChip, AttendsIf, MovesIf, Obeys, drained, is_moving, needs_heads, relative_target, cylinder_of, WritesChip, step_words, ChipOpcode, PacedSeek, ChipStage, Ready, Held, Completes, still_moves, AreUses, HasRanges, HeadsMove, IsGiven, IsUsed, IsWorking, WaitsFor, heads_of, heads_steps, wait_of, wait_at, Call, IsSound}
use Rattle.laws_chip.proofs.HeadsTold.{TellsEnd, drained_runs}
use Rattle.laws_chip.proofs.KnownEnds.{KnowsEnd, call_known}
use Rattle.laws_chip.proofs.SeeksBegun.{IsIdleAt}
use Rattle.laws_chip.proofs.SoundCalls.{call_sound, new_sound}
use Rattle.laws_chip.proofs.SoundParts.{is_busy}
use Rattle.laws_chip.proofs.UnderWay.{clash, either_way}
use Rattle.laws_chip.proofs.WholeTransfers.{attending, byte_attends, byte_free, last_bytes, same_moves}
use Rattle.laws_chip.proofs.WorkEnds.{obeys_busy}
use Rattle.laws_chip.proofs.SeeksHeld.{heads_some, range_steps, taken_idle}
use Rattle.fdc_chip.specs.declared.code.ChipOpcode.TheVariants as code
use Rattle.laws_chip.specs.Bounds as bounds

-- ---- what is true of a chip that was used

pub record IsKnown (chip : ChipState) : Type 0 where
  pub sound : IsSound chip
  pub knows : KnowsEnd chip
  pub ranges : HasRanges chip

new_known : (bay0 bay1 : DriveState) (made : ChipState) → IsNewChip bay0 bay1 made → KnowsEnd made
new_known bay0 bay1 made is = record { tells = λ idle. subst (λ (fdc : Fdc). TellsEnd fdc.seeks) (sym is.front.adapter.controller) tt }

uses_known : (calls : List Call) (old new : ChipState) → IsKnown old → AreUses calls old new → IsKnown new
uses_known [] old new was same = subst IsKnown (sym same) was
uses_known (call ∷ calls) old new was (between, does, writes, ranges, rest) = uses_known calls between new (record {
  sound = call_sound call old between does writes was.sound;
  knows = call_known call old between was.sound was.ranges.controller was.knows does writes;
  ranges = ranges;
}) rest

pub used_known : (chip : ChipState) → IsUsed chip → IsKnown chip
used_known chip used =
    uses_known used.calls used.made chip (record { sound = new_sound used.bay0 used.bay1 used.made used.new; knows = new_known used.bay0 used.bay1 used.made used.new; ranges = used.ranges }) used.uses

-- ---- a command that is done isn't held

abbrev pub is_held_at : ChipStage → Bool
is_held_at Held = true
is_held_at _ = false

busy_free : (stage : ChipStage) → is_busy stage ≡ true → is_held_at stage ≡ false
busy_free Held busy = absurd (false≢true busy)
busy_free _ busy = refl

moves_free : (b : Bool) (goal : Option ℕ) (old new : ChipState) → MovesIf b goal old new → is_held_at new.stage ≡ false
moves_free true goal old new is = ap (λ (chip : ChipState). is_held_at chip.stage) is
moves_free false goal old new (gives, rest) = ap (λ (chip : ChipState). is_held_at chip.stage) rest

pub obeys_free : (found : ChipOpcode) (old new : ChipState) → Obeys found old new → is_held_at new.stage ≡ false
obeys_free code.Recalibrate old new moves = moves_free old.paced None old new moves
obeys_free code.Seek old new moves = moves_free old.paced (Some old.order.key.c) old new moves
obeys_free (code.RelativeSeek inward) old new moves =
    moves_free old.paced (Some (relative_target inward (cylinder_of old.order.unit old.interrupts) old.order.key.c)) old new moves
obeys_free code.Configure old new (gives, rest) = ap (λ (chip : ChipState). is_held_at chip.stage) rest
obeys_free (code.ReadId mfm) old new obeys = busy_free new.stage (obeys_busy (code.ReadId mfm) old new refl obeys)
obeys_free (code.FormatTrack mfm) old new obeys = busy_free new.stage (obeys_busy (code.FormatTrack mfm) old new refl obeys)
obeys_free (code.Transfer mfm) old new obeys = busy_free new.stage (obeys_busy (code.Transfer mfm) old new refl obeys)
obeys_free (code.Verify mfm) old new obeys = busy_free new.stage (obeys_busy (code.Verify mfm) old new refl obeys)
obeys_free (code.ReadTrack mfm) old new obeys = busy_free new.stage (obeys_busy (code.ReadTrack mfm) old new refl obeys)
obeys_free _ old new is = ap (λ (chip : ChipState). is_held_at chip.stage) is

-- ---- a command that is held

known_moves : (found : ChipOpcode) (byte : ℕ) (old begun : ChipState) → IsKnown old → byte < 256 → needs_heads found ≡ true → Completes found byte old → WritesChip 0x3F5 byte old begun → begun.stage ≡ Held → HeadsMove (heads_of begun) begun
known_moves found byte old begun known few heads last writes held = either_way (still_moves old)
    (λ moves.
    let start = attending byte old in
    let attended = byte_attends found byte old begun known.sound few heads last writes in
    let move : is_moving (drained start) ≡ true = same_moves start old refl refl ∙ moves in
    let now : begun ≡ record (drained start) { stage = Held } = subst (λ b. AttendsIf b found (drained start) begun) (and_from (needs_heads found) (is_moving (drained start)) heads move) attended.attends in
    let idle : IsIdleAt start.front = record { through = attended.rests.through; takes = attended.rests.takes; whole = attended.basis.whole; free = attended.basis.free } in
    let four = known.ranges.controller.seeks.pending in
    let runs = drained_runs start idle four (known.knows.tells (ap is_busy (started old begun known last))) in
    subst (λ chip. HeadsMove (heads_of chip) chip) (sym now)
    (record { runs = runs; some = heads_some (drained start) (taken_idle start idle four) runs move; within = (omega arith) }))
    (λ stands.
    let done = byte_free found byte old begun known.sound few heads last writes stands in
    clash (is_held_at begun.stage) (obeys_free found done.set begun done.obeys) (ap is_held_at held))
  where
    started : (old begun : ChipState) → IsKnown old → Completes found byte old → old.stage ≡ Ready
    started old begun known last = known.sound.comes (ap (λ n. n == 0) last.others ∙ (last_bytes found heads).0)

pub used_given : (found : ChipOpcode) (byte : ℕ) (old begun : ChipState) → IsUsed old → byte < 256 → needs_heads found ≡ true → Completes found byte old → WritesChip 0x3F5 byte old begun → IsWorking begun
    → IsGiven (wait_of begun) found byte old begun
used_given found byte old begun used few heads last writes working =
    let known = used_known old used in
    record {
      sound = known.sound;
      few = few;
      last = last;
      writes = writes;
      working = working;
      waits = λ held. subst (λ n. WaitsFor n begun) (sym (ap (λ stage. wait_at stage begun) held)) (bounds.move (known_moves found byte old begun known few heads last writes held));
    }

pub few_unpaced : (chip : ChipState) → HasRanges chip → chip.pace ≡ None → heads_of chip ≤ 256
few_unpaced chip ranges none =
    subst (λ (p : Option PacedSeek). heads_steps (step_words chip.settings) p chip.front.adapter.controller.seeks.seek ≤ 256) (sym none) (range_steps chip.front.adapter.controller ranges.controller)
