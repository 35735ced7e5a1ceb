-- A write over a medium that stays in, through all calls from its beginning on.
use Rattle.std.proofs.Common.{◌≡◌, ◌⊎◌, inl, inr, ℕ, ◌+◌, ◌-◌, ◌==◌, Bool, true, false, if◌then◌else◌, Option, Some, None, List, [], ◌∷◌, ◌++◌, length, replicate, refl, sym, ◌∙◌, ap, subst, arith}
use Rattle.laws_chip.proofs.Common.{eqb-true, false≢true, append-nil, length-replicate, DriveState, Results, Past, WritesWhole, Ending, Done, NoCount, Chrn, Disk, content_size, st1_of, gave, told_in, took, taken_in, taken_out, is_executing, resets, Closes, is_idle, Fdc, FollowsDor, FollowsWrite, AdapterState, WritesAdapter, drive_at, lines_at, Front, GivesAt, SeeksFirst, StartsIf, TakesAt, WritesFront, begun_if, count_told, moving_of, passed_one, results_told, Write, MovingSector, FrontStage, Through, Seeking, Moving, Telling, Transfer, AreWithin, Changes, Counts, Gather, Gives, Steps, Takes, EndsSo, IsFailure, History, Part, Serves, has_other, history_counted, history_given, history_passed, history_taken, nothing_moved, AreWritten, HasFirst, HasWindow, IsDone, IsOverCylinderWhile, IsWrittenTo, KeepsIn, KeepsSpeed, KeepsSpeedWhile, LeavesPut, StaysPut, TellsDone, front_reset_if as reset_if, MediumPlace as Place, SectorCallsBegins as Begins, SectorCallsCall as Call, SectorCallsDoes as Does, SectorCallsWrites as Writes}
use Rattle.laws_chip.proofs.Called.{call_serves, results_say}
use Rattle.laws_chip.proofs.Courses.{written_whole, given_starts, ignored, served_on}
use Rattle.laws_chip.proofs.Known.{port_same}
use Rattle.laws_chip.proofs.WrittenAlike.{alike_self, alike_written, calls_alike}
use Rattle.laws_chip.proofs.WrittenSteps.{IsOver, IsUnderway, NowWritten, OneWritten, at_new, here_of, idle_phase, over_rests, step_writes, to_moving, to_telling}
use Rattle.laws_chip.proofs.WrittenWords.{IsAtSector, IsLike, sector_begins, sector_moves, sector_stays, sector_told}

-- ---- port writes

-- a port write that doesn't reset the controller changes nothing of the drive but its motor
port_puts : (port value bay : ℕ) (controller : Fdc) (before after : DriveState) → FollowsWrite port value bay controller before after → resets port value ≡ false → StaysPut before after
port_puts port value bay controller before after follows none = by_gate (resets port value) none follows.gate (by_motor (port == 0x3F2) follows.motor)
  where
    by_motor : (b : Bool) → FollowsDor b bay controller before follows.between → StaysPut before follows.between
    by_motor true (on, line, is) = record {
      medium = ap (λ s. s.medium) is;
      place = ap (λ s. s.place) is;
      gate = ap (λ s. s.gate) is;
      cut = ap (λ s. s.cut) is;
      never_falls = let same : follows.between.faults ≡ before.faults = ap (λ s. s.faults) is in omega arith;
    }
    by_motor false is = record {
      medium = ap (λ s. s.medium) is;
      place = ap (λ s. s.place) is;
      gate = ap (λ s. s.gate) is;
      cut = ap (λ s. s.cut) is;
      never_falls = let same = ap (λ s. s.faults) is in omega arith;
    }

    by_gate : (b : Bool) → b ≡ false → Closes b follows.between after → StaysPut before follows.between → StaysPut before after
    by_gate true clear closes puts = absurd (false≢true (sym clear))
    by_gate false clear same puts = subst (StaysPut before) (sym same) puts

adapter_puts : (port value bay : ℕ) (old new : AdapterState) → WritesAdapter port value old new → resets port value ≡ false → StaysPut (drive_at old bay) (drive_at new bay)
adapter_puts port value bay old new writes none = by_bay (bay == 0)
  where
    by_bay : (b : Bool) → StaysPut (if b then old.first else old.second) (if b then new.first else new.second)
    by_bay true = port_puts port value 0 new.controller old.first new.first writes.first none
    by_bay false = port_puts port value 1 new.controller old.second new.second writes.second none

-- a drive whose motor stays on keeps its speed
motor_speed : (b : Bool) (bay : ℕ) (controller : Fdc) (before after : DriveState) → FollowsDor b bay controller before after → after.motor ≡ true → KeepsSpeed before after
motor_speed true bay controller before after (on, is, becomes) runs fast =
    let stays : on ≡ true = sym (ap (λ s. s.motor) becomes) ∙ runs in
    let spin : after.spin ≡ before.spin = ap (λ s. s.spin) becomes ∙ ap (λ runs. if runs then before.spin else 0) stays in
    omega arith
motor_speed false bay controller before after is runs fast = let same = ap (λ s. s.spin) is in omega arith

port_speed : (port value bay : ℕ) (controller : Fdc) (before after : DriveState) → FollowsWrite port value bay controller before after → resets port value ≡ false → after.motor ≡ true → KeepsSpeed before after
port_speed port value bay controller before after follows none runs = by_gate (resets port value) none follows.gate
  where
    by_gate : (b : Bool) → b ≡ false → Closes b follows.between after → KeepsSpeed before after
    by_gate true clear closes = absurd (false≢true (sym clear))
    by_gate false clear same =
        subst (λ s. KeepsSpeed before s) (sym same) (motor_speed (port == 0x3F2) bay controller before follows.between follows.motor (sym (ap (λ s. s.motor) same) ∙ runs))

adapter_speed : (port value bay : ℕ) (old new : AdapterState) → WritesAdapter port value old new → resets port value ≡ false → (drive_at new bay).motor ≡ true → KeepsSpeed (drive_at old bay) (drive_at new bay)
adapter_speed port value bay old new writes none = by_bay (bay == 0)
  where
    by_bay : (b : Bool) → (if b then new.first else new.second).motor ≡ true → KeepsSpeed (if b then old.first else old.second) (if b then new.first else new.second)
    by_bay true runs = port_speed port value 0 new.controller old.first new.first writes.first none runs
    by_bay false runs = port_speed port value 1 new.controller old.second new.second writes.second none runs

-- ---- what the results tell

told_st1 : (ending : Ending) (at : Transfer) (key : Chrn) (other : Bool) → (results_told ending at key other).st1.0 ≡ (st1_of ending).0
told_st1 ending at key other = by_cases at.seeks other
  where
    by_cases : (seeks other : Bool) → (results_told ending (record at { seeks = seeks }) key other).st1.0 ≡ (st1_of ending).0
    by_cases true true = refl
    by_cases true false = refl
    by_cases false true = refl
    by_cases false false = refl

failed_st1 : (ending : Ending) → IsFailure ending → ((st1_of ending).0 ≡ 0x00) ⊎ ((st1_of ending).0 ≡ 0x80) → ⊥
failed_st1 (Done marked) fails told = absurd fails
failed_st1 NoCount fails told = absurd fails
failed_st1 ending fails told = elim told [ inl none ↦ absurd (omega arith) | inr full ↦ absurd (omega arith) ]

-- ---- the medium

-- a medium on which some words were written isn't protected
first_unprotected : (place : Place) (deleted : Bool) (at : Transfer) (past : Past) (disk now : Disk) → HasFirst place deleted at past disk now → disk.protected ≡ false
first_unprotected place deleted at past disk now is =
    let more = content_size at.key.n - length is.handed in
    let long : length {A = ℕ} (replicate more 0) ≡ more = length-replicate more 0 in
    let few = is.few in
    (is.words (replicate more 0) (omega arith)).unprotected

-- ---- all calls

-- after all calls the command is served, with what they add, and this is known of the write
pub record AllWritten (place : Place) (deleted : Bool) (first : Transfer) (calls : List Call) (was : History) (old new : Front) (within : AreWithin calls old new) : Type 0 where
  pub history : History
  pub gather : Gather calls old new within was history
  pub serves : Serves first history new
  pub now : NowWritten new.stage place deleted first history new.adapter

module _ (place : Place) (deleted : Bool) (first : Transfer) (writes : first.opcode.operation ≡ Write deleted) where
  abbrev IsNow : History → Front → Type 0
  IsNow history front = NowWritten front.stage place deleted first history front.adapter

  same_now : (stage : FrontStage) (history : History) (old new : Front) → old.stage ≡ stage → new ≡ old → NowWritten stage place deleted first history old.adapter → IsNow history new
  same_now stage history old new stage_is is now =
      subst (λ front. IsNow history front) (sym is) (subst (λ s. NowWritten s place deleted first history old.adapter) (sym stage_is) now)

  -- ---- the channel

  one_now : (history : History) (moving : MovingSector) (past : Past) (fdc : Fdc) (old new : Front) (under : IsUnderway place deleted first history old.adapter) → moving.transfer ≡ here_of first history
      → IsAtSector place (here_of first history) under.disk past true (drive_at old.adapter place.bay) → new ≡ passed_one moving fdc old → IsNow (history_passed moving past history) new
  one_now history moving past fdc old new under here sector is =
      subst (λ front. IsNow (history_passed moving past history) front) (sym is) (
        here,
        record {
          disk = under.disk;
          like = under.like;
          parts = under.parts;
          sector = sector_told place (here_of first history) under.disk past true (drive_at old.adapter place.bay) (moving.left - 1 == 0) sector;
        },
      )

  take_now : (stage : FrontStage) (byte : Option ℕ) (history : History) (old new : Front) → old.stage ≡ stage → NowWritten stage place deleted first history old.adapter → TakesAt stage old byte new
      → IsNow (history_taken stage byte history) new
  take_now Through byte history old new stage_is now takes = absurd now
  take_now (Moving moving) None history old new stage_is now (quiet, is) = same_now (Moving moving) history old new stage_is is now
  take_now (Moving moving) (Some byte) history old new stage_is (here, under) (up, byte_is, is) =
      let past = history.past in
      one_now history moving (gave byte past) (taken_out old.adapter.controller) old new under here
      (sector_moves place (here_of first history) under.disk past true (drive_at old.adapter place.bay) (past.given ++ byte ∷ []) past.taken past.counted under.sector) is
  take_now stage byte history old new stage_is now takes = same_now stage history old new stage_is takes.1 now

  give_now : (stage : FrontStage) (byte : ℕ) (given : Bool) (history : History) (old new : Front) → old.stage ≡ stage → NowWritten stage place deleted first history old.adapter → GivesAt stage byte old given new
      → IsNow (history_given stage byte given history) new
  give_now Through byte given history old new stage_is now gives = absurd now
  give_now (Moving moving) byte false history old new stage_is now (quiet, is) = same_now (Moving moving) history old new stage_is is now
  give_now (Moving moving) byte true history old new stage_is (here, under) (up, is) =
      let past = history.past in
      one_now history moving (took byte past) (taken_in byte old.adapter.controller) old new under here
      (sector_moves place (here_of first history) under.disk past true (drive_at old.adapter place.bay) past.given (past.taken ++ byte ∷ []) past.counted under.sector) is
  give_now stage byte given history old new stage_is now (none, is) = same_now stage history old new stage_is is now

  count_now : (stage : FrontStage) (history : History) (old new : Front) → old.stage ≡ stage → NowWritten stage place deleted first history old.adapter → new ≡ count_told stage old → IsNow (history_counted stage history) new
  count_now Through history old new stage_is now is = absurd now
  count_now (Seeking at counted) history old new stage_is (here, none, rests) is = subst (λ front. IsNow (record history { counted = true }) front) (sym is) (here, none, rests)
  count_now (Telling results) history old new stage_is now is = same_now (Telling results) history old new stage_is is now
  count_now (Moving moving) history old new stage_is (here, under) is =
      subst (λ front. IsNow (record history { past = told_in true history.past; counted = true }) front) (sym is) (
        here,
        record {
          disk = under.disk;
          like = under.like;
          parts = under.parts;
          sector = sector_told place (here_of first history) under.disk history.past true (drive_at old.adapter place.bay) true under.sector;
        },
      )

  -- ---- ports and media

  -- the stage stays, and the drive stays where it is. It stays at speed while a sector is moved
  put_now : (stage : FrontStage) (history : History) (old new : Front) → NowWritten stage place deleted first history old.adapter → new.stage ≡ stage → IsOverCylinderWhile new.stage place new
      → StaysPut (drive_at old.adapter place.bay) (drive_at new.adapter place.bay)
      → ((moving : MovingSector) → stage ≡ Moving moving → (drive_at new.adapter place.bay).motor ≡ true → KeepsSpeed (drive_at old.adapter place.bay) (drive_at new.adapter place.bay))
      → (is_executing old.adapter.controller.phase ≡ false → is_executing new.adapter.controller.phase ≡ false) → IsNow history new
  put_now Through history old new now is at puts keeps idles = absurd now
  put_now (Seeking target counted) history old new (here, none, rests) is at puts keeps idles =
      subst (λ stage. NowWritten stage place deleted first history new.adapter) (sym is) (here, none, record { medium = puts.medium ∙ rests.medium; idle = idles rests.idle })
  put_now (Telling results) history old new over is at puts keeps idles =
      to_telling place deleted first writes history results new is
      (over_rests place deleted first writes history old.adapter new.adapter over (record { medium = puts.medium ∙ over.rests.medium; idle = idles over.rests.idle }))
  put_now (Moving moving) history old new (here, under) is at puts keeps idles =
      let over = at_new place deleted first writes moving new is at in
      to_moving place deleted first writes history moving new is here (record {
        disk = under.disk;
        like = under.like;
        parts = under.parts;
        sector = sector_stays place (here_of first history) under.disk history.past (drive_at old.adapter place.bay) new under.like over puts (keeps moving refl over.motor) under.sector;
      })

  write_now : (port value : ℕ) (history : History) (old new : Front) → IsNow history old → (new.stage ≡ Through → ⊥) → IsOverCylinderWhile new.stage place new → WritesFront port value old new → IsNow history new
  write_now port value history old new now stays at written = by_port (port == 0x3F5) refl
    where
      by_reset : (b : Bool) → resets port value ≡ b → (port == 0x3F5) ≡ false → WritesAdapter port value old.adapter new.adapter → new ≡ record (reset_if b old) { adapter = new.adapter } → IsNow history new
      by_reset true reset no_byte wrote is = absurd (stays (ap (λ front. front.stage) is))
      by_reset false reset no_byte wrote is =
          put_now old.stage history old new now (ap (λ front. front.stage) is) at (adapter_puts port value place.bay old.adapter new.adapter wrote reset)
          (λ moving here runs. adapter_speed port value place.bay old.adapter new.adapter wrote reset runs)
          (λ idle. ap is_executing (port_same port value (lines_at old.adapter) old.adapter.controller new.adapter.controller wrote.writes no_byte reset).phase ∙ idle)

      by_port : (b : Bool) → (port == 0x3F5) ≡ b → IsNow history new
      by_port true is = same_now old.stage history old new refl (written.bytes (eqb-true port 0x3F5 is)) now
      by_port false is = let (wrote, after) = written.others is in by_reset (resets port value) refl is wrote after

  -- ---- one call

  call_writes : (call : Call) (history : History) (old new : Front) (does : Does call old new) → (new.stage ≡ Through → ⊥) → IsOverCylinderWhile old.stage place old → IsOverCylinderWhile new.stage place new
      → LeavesPut old.stage call (drive_at old.adapter place.bay) (drive_at new.adapter place.bay) → Serves first history old → IsNow history old → OneWritten place deleted first call history old new does
  call_writes Steps history old new step stays at at_then leaves serves now = step_writes place deleted first writes old.stage history old new step refl serves now at stays at_then
  call_writes (Takes byte) history old new does stays at at_then leaves serves now =
      let one = call_serves (Takes byte) first history old new does stays serves in
      record { history = one.history; grows = one.grows; serves = one.serves; now = subst (λ h. IsNow h new) (sym one.grows) (take_now old.stage byte history old new refl now does) }
  call_writes (Gives byte given) history old new does stays at at_then leaves serves now =
      let one = call_serves (Gives byte given) first history old new does stays serves in
      record { history = one.history; grows = one.grows; serves = one.serves; now = subst (λ h. IsNow h new) (sym one.grows) (give_now old.stage byte given history old new refl now does) }
  call_writes Counts history old new does stays at at_then leaves serves now =
      let one = call_serves Counts first history old new does stays serves in
      record { history = one.history; grows = one.grows; serves = one.serves; now = subst (λ h. IsNow h new) (sym one.grows) (count_now old.stage history old new refl now does) }
  call_writes (Writes port value) history old new does stays at at_then leaves serves now =
      let one = call_serves (Writes port value) first history old new does stays serves in
      record { history = one.history; grows = one.grows; serves = one.serves; now = subst (λ h. IsNow h new) (sym one.grows) (write_now port value history old new now stays at_then does) }
  call_writes Changes history old new does stays at at_then leaves serves now =
      let one = call_serves Changes first history old new does stays serves in
      record {
        history = one.history;
        grows = one.grows;
        serves = one.serves;
        now = subst (λ h. IsNow h new) (sym one.grows)
            (put_now old.stage history old new now does.stage at_then leaves.0
            (λ moving here runs. subst (λ stage. KeepsSpeedWhile stage (drive_at old.adapter place.bay) (drive_at new.adapter place.bay)) here leaves.1) (λ idle. ap (λ fdc. is_executing fdc.phase) does.controller ∙ idle));
      }
  call_writes call history old new does stays at at_then leaves serves now =
      let one = call_serves call first history old new does stays serves in
      let same = same_now old.stage history old new refl (ignored call old new tt does (served_on first history old serves) stays) now in
      record { history = one.history; grows = one.grows; serves = one.serves; now = subst (λ h. IsNow h new) (sym one.grows) same }

  -- ---- all of them

  first_at : (calls : List Call) (old new : Front) (within : AreWithin calls old new) → KeepsIn place calls old new within → IsOverCylinderWhile old.stage place old
  first_at [] old new within is = is
  first_at (call ∷ calls) old new within is = is.0

  calls_write : (calls : List Call) (history : History) (old new : Front) (within : AreWithin calls old new) → KeepsIn place calls old new within → Serves first history old → IsNow history old
      → AllWritten place deleted first calls history old new within
  calls_write [] history old new same keeps serves now = record {
    history = history;
    gather = refl;
    serves = subst (Serves first history) (sym same) serves;
    now = subst (λ front. IsNow history front) (sym same) now;
  }
  calls_write (call ∷ calls) history old new (between, does, within, rest) (at, leaves, keeps) serves now =
      let one = call_writes call history old between does within at (first_at calls between new rest keeps) leaves serves now in
      let more = calls_write calls one.history between new rest keeps one.serves one.now in
      record { history = more.history; gather = (one.history, one.grows, more.gather); serves = more.serves; now = more.now }

  -- ---- how it begins

  begins_now : (start begun : Front) → Begins first start begun → IsOverCylinderWhile begun.stage place begun → (drive_at begun.adapter place.bay).medium ≡ Some place.disk → IsNow (nothing_moved false) begun
  begins_now start begun begins at medium = by_seek first.seeks (given_starts first start begun begins.ready begins.gives)
    where
      by_idle : (seeks : SeeksFirst first start begun) (b : Bool) → is_idle seeks.between.controller ≡ b → begun.stage ≡ (if b then Seeking first false else Through) → IsNow (nothing_moved false) begun
      by_idle seeks true idle is =
          subst (λ stage. NowWritten stage place deleted first (nothing_moved false) begun.adapter) (sym is)
          (refl, refl, record { medium = medium; idle = ap (λ front. is_executing front.adapter.controller.phase) seeks.begun ∙ idle_phase seeks.between.controller idle })
      by_idle seeks false busy is = absurd (begins.stays is)

      by_busy : (between : AdapterState) (b : Bool) → begun ≡ begun_if b first false false between start → IsNow (nothing_moved false) begun
      by_busy between true is =
          let moving = moving_of first false false in
          let stage_now = ap (λ front. front.stage) is in
          let placed = at_new place deleted first writes moving begun stage_now at in
          let like : IsLike place place.disk = record { valid = placed.disk; words = refl } in
          to_moving place deleted first writes (nothing_moved false) moving begun stage_now refl
          (record { disk = place.disk; like = like; parts = refl; sector = sector_begins place first place.disk begun placed medium like })
      by_busy between false is = absurd (begins.stays (ap (λ front. front.stage) is))

      by_seek : (b : Bool) → StartsIf b first start begun → IsNow (nothing_moved false) begun
      by_seek true seeks = by_idle seeks (is_idle seeks.between.controller) refl (ap (λ front. front.stage) seeks.begun)
      by_seek false sector = by_busy sector.between (is_executing sector.between.controller.phase) sector.begun

  -- ---- how it ends

  -- a protected medium is as it was
  guards : (parts : List Part) (before now : Disk) → AreWritten place deleted parts place.disk before → (now ≡ before) ⊎ (before.protected ≡ false) → place.disk.protected ≡ true → (parts ≡ []) × (now ≡ place.disk)
  guards [] before now were (inl same) covered = (refl, same ∙ were)
  guards [] before now were (inr open_disk) covered = absurd (false≢true (sym open_disk ∙ (ap (λ d. d.protected) were ∙ covered)))
  guards (part ∷ parts) before now (mid, one, were) last covered = absurd (false≢true (sym one.words.unprotected ∙ covered))

  done_whole : (history : History) (results : Results) (disk now : Disk) → ((content : List ℕ) → WritesWhole history.past (here_of first history).key deleted content → HasWindow place deleted (here_of first history) content disk now)
      → EndsSo (Write deleted) (has_other (Write deleted) history.parts) history.counted (here_of first history) history.past results → TellsDone results
      → IsDone place deleted (here_of first history) history.past.taken disk now
  done_whole history results disk now whole (inl well) told = elim well.moved [ inl (field, size) ↦ (well.missing, whole _ field) | inr (none, over) ↦ absurd (false≢true over.skips) ]
  done_whole history results disk now whole (inr (inl uncounted)) told =
      let at = here_of first history in
      let part : Part = record { at = at; past = history.past; marked = uncounted.marked } in
      let moved = written_whole deleted part uncounted.moved in
      (0, whole _ (subst (WritesWhole history.past at.key deleted) (sym (append-nil history.past.taken)) moved.field))
  done_whole history results disk now whole (inr (inr fails)) told =
      let at = here_of first history in
      let is = ap (λ r. r.st1.0) fails.results_are ∙ told_st1 fails.ending at at.key fails.told in
      absurd (failed_st1 fails.ending fails.fails (elim told [ inl none ↦ inl (sym is ∙ none) | inr full ↦ inr (sym is ∙ full) ]))

  written_from : (calls : List Call) (start begun end : Front) (within : AreWithin calls begun end) (results : Results) → Begins first start begun
      → Serves first (nothing_moved false) begun → KeepsIn place calls begun end within → (drive_at begun.adapter place.bay).medium ≡ Some place.disk → end.stage ≡ Telling results
      → (history : History) × Gather calls begun end within (nothing_moved false) history × IsWrittenTo place deleted first history results end
  written_from calls start begun end within results begins serves keeps medium tells =
      let all = calls_write calls (nothing_moved false) begun end within keeps serves
      (begins_now start begun begins (first_at calls begun end within keeps) medium) in
      let over : IsOver place deleted first all.history end.adapter = subst (λ stage. NowWritten stage place deleted first all.history end.adapter) tells all.now in
      let says = results_say first all.history end results all.serves tells in (
        all.history,
        all.gather,
        record {
          before = over.disk;
          now = over.now;
          medium = over.rests.medium;
          parts = over.parts;
          last = over.left.begun;
          done = done_whole all.history results over.disk over.now over.left.whole
              (subst (λ o. EndsSo o (has_other o all.history.parts) all.history.counted (here_of first all.history) all.history.past results) writes says);
          guarded = guards all.history.parts over.disk over.now over.parts (elim over.left.begun [ inl same ↦ inl same | inr first_words ↦ inr (first_unprotected place deleted (here_of first all.history) all.history.past over.disk over.now first_words) ]);
        },
      )

  -- the same holds of any history that was gathered
  pub written_to : (calls : List Call) (start begun end : Front) (within : AreWithin calls begun end) (results : Results) → Begins first start begun
      → Serves first (nothing_moved false) begun → KeepsIn place calls begun end within → (drive_at begun.adapter place.bay).medium ≡ Some place.disk → end.stage ≡ Telling results
      → (history : History) → Gather calls begun end within (nothing_moved false) history → IsWrittenTo place deleted first history results end
  written_to calls start begun end within results begins serves keeps medium tells history gather =
      let (one, gathered, is) = written_from calls start begun end within results begins serves keeps medium tells in
      alike_written place deleted first one history results end (calls_alike calls (nothing_moved false) (nothing_moved false) one history begun end within gathered gather (alike_self (nothing_moved false))) is
