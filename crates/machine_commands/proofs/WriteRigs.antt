-- A WRITE DATA or WRITE DELETED DATA as its driver sees it.
use Rattle.std.proofs.Common.{◌≡◌, ◌⊎◌, inl, inr, ℕ, zero, suc, ◌+◌, ◌-◌, ◌≤◌, Bool, true, false, List, length, take, drop, Option, Some, None, Result, Err, refl, sym, ◌∙◌, ap, subst, arith}
use Rattle.std.specs.Prelude.{IsOk, IfErr, MatchOption}
use Rattle.machine_commands.proofs.Common.{RoseBy, Rate, R500, R250, Code, Two, in_bay, IsFaultless, IsUndisturbed, user_bytes, bytes_from, HasTrack, track_of, Change, HasClearAddress, IsAddressAt, content_size, is_overrun, rate_fits, Long, Ending, Window, Write, Stalled, met_is, Scene, data_rate, head_sent, track_met, IsUnchanged, Board, drive_in, memory_of, track_under, WritesData, counters_of, rig_of, told_of, Motors, Done, Chrn, false≢true, take-take, drop-take, Written, window_of, length-met_track, met_track, nothing_from, rates_same, Laid, WriteEndsAs, HasChanged, IsInsideTrack, IsWholeWindow, written_in, ChangesMedium, HasWindowOut, IsWriteMiss}
use Rattle.sector_map.specs.Met.{HasNoClearMark, same_rate}
use Rattle.sector_map.specs.MetTracks.{MeetsTrack}
use Rattle.track_model.specs.Looks.{HasAddressMark}
use Rattle.fdc_stages.specs.Searches.{HasNoClear}
use Rattle.laws_machine.proofs.OnWrites.Results.{changes_disk}
use Rattle.machine_commands.specs.Shown.{user_part}
use Rattle.machine_commands.proofs.Beginning.{HasRun, told_as}
use Rattle.machine_commands.proofs.Seeing.{calm_drive, cylinder_after, cylinder_before, faultless, medium_after, medium_before, memory_before, page_stays, stall_counts, unstalled, write_sends}
use Rattle.machine_commands.proofs.Idling.{two_same}
use Rattle.flop_base.specs.declared.answers.Code.TheVariants as code
use Rattle.fdc_phases.specs.declared.phases.Phase.TheVariants as phase
use Rattle.fdc_stages.specs.declared.ending.Ending.TheVariants as ending
use Rattle.laws_machine.specs.OnWrites.Results as write

-- ---- the bytes

pub same_bytes : (memory : List ℕ) (address count most : ℕ) → address + count ≤ most → take count (drop address (take most memory)) ≡ take count (drop address memory)
same_bytes memory address count most inside =
    let all : most ≡ address + (most - address) = omega arith in
    ap (λ n. take count (drop address (take n memory))) all ∙ (ap (take count) (drop-take address (most - address) memory) ∙ take-take count (most - address) (drop address memory) (omega arith))

pub user_bytes_same : (memory : List ℕ) (address count : ℕ) → address + count ≤ user_bytes → bytes_from (user_part memory) address count ≡ take count (drop address memory)
unfolding user_part
user_bytes_same memory address count inside = same_bytes memory address count user_bytes inside

-- ---- the rate

pub fits_same : (a b : Rate) → rate_fits (data_rate a) b ≡ same_rate b a
fits_same R500 R500 = refl
fits_same R500 R250 = refl
fits_same R250 R500 = refl
fits_same R250 R250 = refl

pub rate_is : (scene : Scene) (rate : Rate) → scene.rate ≡ data_rate rate → rate_fits scene.rate scene.disk.rate ≡ true → scene.disk.rate ≡ rate
rate_is scene rate at fits = rates_same scene.disk.rate rate (sym (ap (λ r. rate_fits r scene.disk.rate) at ∙ fits_same rate scene.disk.rate) ∙ fits)

-- ---- both bays

pub two_bays : {T : Type 0} (bay : ℕ) (a b : Two T) → bay ≤ 1 → in_bay a bay ≡ in_bay b bay → in_bay a (1 - bay) ≡ in_bay b (1 - bay) → a ≡ b
two_bays zero a b small here there = two_same a.first a.second b.first b.second here there
two_bays (suc zero) a b small here there = two_same a.first a.second b.first b.second there here
two_bays (suc (suc bay)) a b small here there = absurd (omega arith)

-- ---- a write

-- a command that writes has OR in its results only where a stall was counted
pub overruns : {laid : Laid} {scene : Scene} {motors : Motors} {rate : Rate} {start old : Board} {outcome : Result Done Code} {new : Board} → (run : HasRun (Write laid) scene motors rate start old outcome new)
    → run.over.results.ending ≡ ending.Overrun → Stalled start run.over.at
overruns run is = elim run.over.goes.in_time [
  | inl time ↦ absurd (false≢true (sym time.punctual.no_overrun ∙ (ap is_overrun run.over.results.is ∙ ap (λ e. is_overrun (phase.Result (Long e run.over.results.results 0))) is)))
  | inr stalled ↦ stalled
]

-- a write of a sector from user memory, on a medium that isn't protected
pub record IsWriteOn (scene : Scene) : Type 0 where
  pub head : head_sent scene.sent ≡ scene.sent.key.h
  pub size : scene.size ≡ content_size scene.sent.key.n
  pub inside : scene.address + scene.size ≤ user_bytes
  pub unprotected : scene.disk.protected ≡ false

module _ {deleted : Bool} {scene : Scene} {motors : Motors} {rate : Rate} {start old : Board} {outcome : Result Done Code} {new : Board}
    (run : HasRun (Write (Window deleted)) scene motors rate start old outcome new) (on : IsWriteOn scene) (same : memory_of run.over.at ≡ memory_of start) where
  abbrev now : Board
  now = run.over.at

  -- what the driver asked for
  abbrev pub asked : Written
  asked = record { key = scene.sent.key; deleted = deleted; content = bytes_from (rig_of old).memory scene.address (content_size scene.sent.key.n) }

  asked_is : written_in scene deleted ≡ asked
  asked_is =
      let bytes : take scene.size (drop scene.address scene.memory) ≡ bytes_from (rig_of old).memory scene.address (content_size scene.sent.key.n) =
      sym (user_bytes_same scene.memory scene.address scene.size on.inside)
      ∙ (ap (λ n. bytes_from (user_part scene.memory) scene.address n) on.size ∙ ap (λ m. bytes_from (user_part m) scene.address (content_size scene.sent.key.n)) (sym run.memory ∙ memory_before run)) in
      ap (λ content. let w : Written = record { key = scene.sent.key; deleted = deleted; content = content } in w) bytes

  -- ---- nothing was written

  unchanged : IsUnchanged scene (drive_in now scene.bay) → (rig_of new).media ≡ (rig_of old).media
  unchanged is = two_bays scene.bay (rig_of new).media (rig_of old).media run.scene_is.bay (medium_after run ∙ (is ∙ sym (medium_before run)))
      (write_sends run same).other_medium

  met_unchanged : IsUnchanged scene (drive_in now scene.bay) → track_met scene ≡ track_under (rig_of new) scene.bay rate scene.sent.key.h
  met_unchanged is = rw (medium_after run ∙ is, cylinder_after run, ← on.head) (met_is scene rate run.rate_is)

  -- ---- the window was written, or its beginning

  meets_after : (changed : HasChanged scene deleted (drive_in now scene.bay)) → MeetsTrack (in_bay (rig_of new).media scene.bay) rate (in_bay (rig_of new).cylinders scene.bay) scene.sent.key.h changed.after
  meets_after changed =
      let to = changed.changes in
      let (low, head) : HasTrack scene.disk scene.cylinder (head_sent scene.sent) = to.track in
      let cylinders = to.cut.cylinders in
      let heads = to.cut.heads in
      let at = cylinder_after run in
      let under = on.head in
      record {
        is_in = medium_after run ∙ changed.medium;
        has = (omega arith, omega arith);
        same_rate = to.cut.rate ∙ rate_is scene rate run.rate_is to.rate;
      }

  met_changed : (changed : HasChanged scene deleted (drive_in now scene.bay)) → track_of changed.after scene.cylinder (head_sent scene.sent) ≡ track_under (rig_of new) scene.bay rate scene.sent.key.h
  met_changed changed =
      ap (λ c. track_of changed.after c (head_sent scene.sent)) (sym (cylinder_after run))
      ∙ (ap (λ h. track_of changed.after (in_bay (rig_of new).cylinders scene.bay) h) on.head
      ∙ sym (met_track (in_bay (rig_of new).media scene.bay) rate (in_bay (rig_of new).cylinders scene.bay) scene.sent.key.h changed.after (meets_after changed)))

  changes : (changed : HasChanged scene deleted (drive_in now scene.bay))
      → (IsUndisturbed scene.bay (counters_of old) (counters_of new) → IsInsideTrack scene changed.change → IsWholeWindow scene deleted changed.change)
      → ChangesMedium scene.bay rate (written_in scene deleted) changed.change (rig_of old) (rig_of new)
  changes changed whole = record {
    before = scene.disk;
    after = changed.after;
    was = medium_before run;
    is = medium_after run ∙ changed.medium;
    same_rate = rate_is scene rate run.rate_is changed.changes.rate;
    here = changed.changes.cylinder ∙ sym (cylinder_before run);
    makes = changes_disk scene deleted changed.change changed.after on.head changed.changes;
    whole = whole;
  }

  -- ---- what each ending says

  out_after : (IsUnchanged scene (drive_in now scene.bay) ⊎ write.ChangesOut scene deleted (drive_in now scene.bay)) → write.HasWindowOut (track_met scene) scene.sent.key
      → HasWindowOut (track_under (rig_of new) scene.bay rate scene.sent.key.h) scene.sent.key
  out_after (inl is) out = subst (λ track. HasWindowOut track scene.sent.key) (met_unchanged is) out
  out_after (inr it) out =
      let place = it.changed.change.place in
      let valid = it.changed.changes.cut.valid in
      let long = length-met_track (in_bay (rig_of new).media scene.bay) rate (in_bay (rig_of new).cylinders scene.bay) scene.sent.key.h it.changed.after valid (meets_after it.changed) in
      let words = it.changed.changes.cut.words_per_track in
      (place, subst (λ track. IsAddressAt track place scene.sent.key) (met_changed it.changed) it.changed.changes.stays, λ fits. it.out (omega arith))

  -- what is shown of the media, together with the answer
  pub record ShowsWrite (change : Option Change) (answer : Result (Unit {0}) Code) : Type 0 where
    pub does : MatchOption change ((rig_of new).media ≡ (rig_of old).media) (λ one. ChangesMedium scene.bay rate (written_in scene deleted) one (rig_of old) (rig_of new))
    pub done : IsOk answer → IsFaultless scene.bay (counters_of old) (counters_of new) → MatchOption change ⊥ (λ one. one.words ≡ length (window_of (written_in scene deleted)))
    pub refused : IfErr answer (λ code. IsWriteMiss (track_under (rig_of new) scene.bay rate scene.sent.key.h) scene.sent.key scene.bay (counters_of old) code (counters_of new))

  none_overrun : (reason : Code) → (reason ≡ code.Overrun → ⊥) → reason ≡ code.Overrun → RoseBy 1 (counters_of old).stalls (counters_of new).stalls
  none_overrun reason other is = absurd (other is)

  -- a refusal shows what was written, and why
  refuses : (change : Option Change) (reason : Code)
      → MatchOption change ((rig_of new).media ≡ (rig_of old).media)
      (λ one. ChangesMedium scene.bay rate (written_in scene deleted) one (rig_of old) (rig_of new))
      → IsWriteMiss (track_under (rig_of new) scene.bay rate scene.sent.key.h) scene.sent.key scene.bay (counters_of old) reason (counters_of new)
      → (change : Option Change) × ShowsWrite change (Err reason)
  refuses change reason does missed = (change, record { does = does; done = λ ok none. absurd (false≢true ok); refused = missed })

  -- what is shown, by the way in which the command ended
  shows_as : (key : Chrn) (over : Ending) → WriteEndsAs scene deleted (drive_in now scene.bay) over → (over ≡ ending.Overrun → Stalled start now) → (change : Option Change) × ShowsWrite change (told_of (told_as over key))
  shows_as key (ending.Done marked) whole stalls = (
    Some whole.changed.change,
    record {
      does = changes whole.changed (λ none inside. whole.whole (calm_drive run (faultless run none)));
      done = λ ok none. whole.whole (calm_drive run none);
      refused = tt;
    },
  )
  shows_as key ending.NoMark (is, none) stalls = refuses None code.NoMark (unchanged is) (record {
    coded = tt;
    reason = λ undisturbed. inl (subst HasNoClearMark (met_unchanged is)
        (nothing_from (track_met scene) (none (calm_drive run (faultless run undisturbed)))).clear_marks);
    overrun = none_overrun code.NoMark (λ e. absurd cc);
  })
  shows_as key ending.NoSector (is, marks, none) stalls = refuses None code.NotFound (unchanged is) (record {
    coded = tt;
    reason = λ undisturbed. let no_clear = none (calm_drive run (faultless run undisturbed)) in (
      subst HasAddressMark (met_unchanged is) marks,
      λ has. not_clear no_clear (subst (λ track. HasClearAddress track scene.sent.key) (sym (met_unchanged is)) has),
    );
    overrun = none_overrun code.NotFound (λ e. absurd cc);
  })
    where
      not_clear : HasNoClear (Some scene.sent.key) (track_met scene) → HasClearAddress (track_met scene) scene.sent.key → ⊥
      not_clear no_clear (p, has) = no_clear p scene.sent.key refl has.address has.clear.inner
  shows_as key ending.NoField (wrote, out) stalls = by_way wrote
    where
      missed : IsWriteMiss (track_under (rig_of new) scene.bay rate scene.sent.key.h) scene.sent.key scene.bay (counters_of old) code.NoMark (counters_of new)
      missed = record { coded = tt; reason = λ undisturbed. inr (out_after wrote out); overrun = none_overrun code.NoMark (λ e. absurd cc) }

      by_way : (IsUnchanged scene (drive_in now scene.bay) ⊎ write.ChangesOut scene deleted (drive_in now scene.bay)) → (change : Option Change) × ShowsWrite change (Err code.NoMark)
      by_way (inl is) = refuses None code.NoMark (unchanged is) missed
      by_way (inr it) = refuses (Some it.changed.change) code.NoMark (changes it.changed (λ none inside. absurd (it.out inside))) missed
  shows_as key ending.Overrun wrote stalls = by_way wrote
    where
      stalled : Stalled start now
      stalled = stalls refl

      missed : IsWriteMiss (track_under (rig_of new) scene.bay rate scene.sent.key.h) scene.sent.key scene.bay (counters_of old) code.Overrun (counters_of new)
      missed = record {
        coded = tt;
        reason = λ undisturbed. absurd (unstalled run undisturbed stalled);
        overrun = λ same_code. stall_counts run stalled;
      }

      by_way : (IsUnchanged scene (drive_in now scene.bay) ⊎ HasChanged scene deleted (drive_in now scene.bay)) → (change : Option Change) × ShowsWrite change (Err code.Overrun)
      by_way (inl is) = refuses None code.Overrun (unchanged is) missed
      by_way (inr changed) = refuses (Some changed.change) code.Overrun (changes changed (λ none inside. absurd (unstalled run none stalled))) missed
  shows_as key ending.Protected (is, protected) stalls = absurd (false≢true (sym on.unprotected ∙ protected))
  shows_as key _ none stalls = absurd none

  -- what the driver is answered, and what the command wrote
  pub write_shown : (key : Chrn) (over : Ending) → WriteEndsAs scene deleted (drive_in now scene.bay) over → (over ≡ ending.Overrun → Stalled start now)
      → (change : Option Change) × WritesData scene.bay rate asked change (rig_of old) (told_of (told_as over key)) (rig_of new)
  write_shown key over ends stalls =
      let (change, shows) = shows_as key over ends stalls in (
        change,
        subst (λ written. WritesData scene.bay rate written change (rig_of old) (told_of (told_as over key)) (rig_of new)) asked_is (record {
          sends = write_sends run same;
          does = shows.does;
          done = shows.done;
          refused = shows.refused;
          page = page_stays run same;
        }),
      )
