-- How several attempts at a write begin and end.
use Rattle.std.proofs.Common.{MatchOption, IsOk, ◌≡◌, ℕ, ◌+◌, ◌*◌, ◌≤◌, ◌⊎◌, [], Option, Some, None, Result, Ok, Err, refl, sym, ap, ◌∙◌, subst, arith, inl, inr}
use Rattle.floppy_driver.proofs.Common.{false≢true, Code, Disk, IsDisk, HasTrack, track_of, IsAddressAt, content_at, LookAt, IsLone, IsSector, IsUnder, window_place, faults_of, IsFaultless, FaultsRoseLess, CostsUpTo, DisturbedLess, IsRegularDisk, IsOnMap, Change, Written, IsChange, HasWritten, change_at, entry_of, IsSameOrChanged, met_track, key_cylinder, one_address, rewritten_keeps_sectors, rewritten_keeps_address, Bay, StationState, Becomes, bay_of, set_bay, met, write_port_accesses, write_time, IsLastRead, IsWritten, KeepsRegular, WritesDrive, HasAsked, IsReadBack, TriesWrite, WroteWhole}
use Rattle.track_model.specs.declared.Look.TheVariants as look
use Rattle.track_model.proofs.Sectored.{lone_found}
use Rattle.sector_map.proofs.Joined.{change_of_none_regular}
use Rattle.floppy_driver.proofs.TriedWrites.{IsWriteStart, IsSpared, with_change, KeptSoFar, HasTriedWrite}
use Rattle.floppy_driver.proofs.Shows.{driven_within}
use Rattle.floppy_driver.proofs.Attempts.{spoilt_none, all_sure, last_sure}
use Rattle.floppy_driver.proofs.Rising.{less_later, commands_later}
use Rattle.floppy_driver.proofs.WriteChanges.{medium_itself, reaches_itself}
use Rattle.floppy_driver.proofs.LaidTracks.{same_some}
use Rattle.floppy_driver.proofs.WriteSteps.{meets_field, rate_mid, wrote_more, wrote_changes, written_whole}

-- ---- no attempt yet

module _ (written : Written) (bay : ℕ) (start now : StationState) (asked : HasAsked start now) where
  bay_same : bay_of now bay ≡ bay_of start bay
  bay_same = ap (λ (s : StationState). bay_of s bay) asked.stays

  becomes_itself : Becomes (set_bay start bay (record (bay_of start bay) { medium = (bay_of now bay).medium })) now
  becomes_itself = asked.stays ∙ ap (λ (s : StationState). record s { counters = now.counters }) (medium_itself start bay _ (ap (λ (b : Bay). b.medium) (sym bay_same)))

  pub tried_none : (code : Code) → ((kept : ℕ) → (bay_of start bay).acknowledged ≡ Some kept → kept ≤ faults_of now.counters bay) → HasTriedWrite written bay 0 start code now
  tried_none code kept = record {
    so_far = record {
      changes = [];
      few = omega arith;
      reach = reaches_itself written (bay_of start bay).medium (bay_of now bay).medium (ap (λ (b : Bay). b.medium) bay_same);
      becomes = becomes_itself;
      kept = kept;
      steady = λ steady k d h. absurd (omega arith);
      regular = λ disk is regular. record {
        none = λ absent. ap (λ (b : Bay). b.medium) bay_same ∙ is;
        one = λ p here spared. (disk, ap (λ (b : Bay). b.medium) bay_same ∙ is, inl refl);
      };
      track = λ regular p here spared. inl (ap (λ (b : Bay). met b written.key.c written.key.h) bay_same);
      counts = asked.counts;
      driven = asked.idle;
    };
    unsent = λ some. absurd (omega arith);
    last = λ some. absurd (omega arith);
    spoilt = λ regular p here spared. spoilt_none start.tries bay start.counters now.counters asked.counts;
  }

-- ---- a regular disk at the end

-- one change from the first disk; it has no words if nothing was changed
as_change : (written : Written) (p : ℕ) (disk after : Disk) → IsDisk disk → HasTrack disk written.key.c written.key.h → IsRegularDisk disk → IsAddressAt (track_of disk written.key.c written.key.h) p written.key → IsSameOrChanged written p disk after → (words : ℕ) × IsChange written disk (change_at written.key.c p words) after
as_change written p disk after valid has regular here (inl same) = (
  0,
  subst (λ d. IsChange written disk (change_at written.key.c p 0) d) (sym same)
      (change_of_none_regular written disk (change_at written.key.c p 0) written.key.c written.key.h valid has (regular written.key.c written.key.h has) here refl),
)
as_change written p disk after valid has regular here (inr (words, is, safe)) = (words, is)

module _ (written : Written) (bay : ℕ) (start new : StationState) (answer : Result (Unit {0}) Code) (starts : IsWriteStart written bay start) where
  -- the field is on the map
  abbrev IsDoneOnMap : ℕ → Disk → Type 0
  IsDoneOnMap p after =
      IsOk answer → (FaultsRoseLess 2 bay start.counters new.counters ⊎ IsLone (track_of after written.key.c written.key.h) p)
      → IsOnMap after (entry_of written p)

  module _ (disk : Disk) (is : (bay_of start bay).medium ≡ Some disk) (regular : IsRegularDisk disk) (kept : KeptSoFar written bay disk start new) where
    keeps_regular : ((p : ℕ) → IsAddressAt (met (bay_of start bay) written.key.c written.key.h) p written.key → IsSpared written p (met (bay_of start bay) written.key.c written.key.h) bay start new → (after : Disk) → (bay_of new bay).medium ≡ Some after → IsSameOrChanged written p disk after → IsDoneOnMap p after) → KeepsRegular written bay disk start answer new
    keeps_regular entry = record {
      none = kept.none;
      one = λ p here spared.
          let meets = meets_field (bay_of start bay).medium (bay_of start bay).rate written.key.c written.key.h p written.key disk is here in
          let there = met_track (bay_of start bay).medium (bay_of start bay).rate written.key.c written.key.h disk meets in
          let address : IsAddressAt (track_of disk written.key.c written.key.h) p written.key = subst (λ t. IsAddressAt t p written.key) there here in
          let known = kept.one p here spared in
          let change = as_change written p disk known.0 (starts.valid disk is) meets.has regular address known.2 in
          let sectors = rewritten_keeps_sectors written p disk known.0 regular starts.fits known.2 in
          record {
            after = known.0;
            words = change.0;
            medium = known.1;
            cuttable = change.1.cuttable;
            cut = change.1.cut;
            regular = sectors.regular;
            others = sectors.entries;
            entry = entry p here spared known.0 known.1 known.2;
          };
    }

-- a field that is found on a regular disk is the one on the map
found_on_map : (written : Written) (p : ℕ) (disk : Disk) → IsRegularDisk disk → IsAddressAt (track_of disk written.key.c written.key.h) p written.key → (c q place : ℕ) → HasTrack disk c written.key.h → IsAddressAt (track_of disk c written.key.h) q written.key → LookAt (track_of disk c written.key.h) q written.key.n (look.Found written.deleted place) → written.content ≡ content_at (track_of disk c written.key.h) place written.key.n → IsOnMap disk (entry_of written p)
found_on_map written p disk regular here c q place has address found content =
    let h = written.key.h in
    let on : c ≡ written.key.c = sym (key_cylinder disk c h q written.key regular has address).0 in
    let has_on : HasTrack disk written.key.c h = subst (λ b. HasTrack disk b h) on has in
    let address_on : IsAddressAt (track_of disk written.key.c h) q written.key = subst (λ b. IsAddressAt (track_of disk b h) q written.key) on address in
    let at : q ≡ p = one_address disk written.key.c h q p written.key regular has_on address_on here in
    let found_on : LookAt (track_of disk written.key.c h) q written.key.n (look.Found written.deleted place) = subst (λ b. LookAt (track_of disk b h) q written.key.n (look.Found written.deleted place)) on found in
    record {
      track = has_on;
      address = here;
      content = (
        place,
        subst (λ r. LookAt (track_of disk written.key.c h) r written.key.n (look.Found written.deleted place)) at found_on,
        subst (λ b. written.content ≡ content_at (track_of disk b h) place written.key.n) on content,
      );
    }

-- ---- all attempts were refused

pub ends_tried : (written : Written) (bay : ℕ) (start now : StationState) (code : Code) → IsWriteStart written bay start → HasTriedWrite written bay start.tries start code now → CostsUpTo (write_time start bay) (write_port_accesses start) start.counters now.counters → WritesDrive written bay start (Err code) now
ends_tried written bay start now code starts tried costs =
    let cause = tried.last starts.some_tries (last_sure start.tries starts.some_tries) in
    record {
      changes = tried.so_far.changes;
      few = tried.so_far.few;
      reach = tried.so_far.reach;
      becomes = tried.so_far.becomes;
      steady = tried.so_far.steady;
      done = λ ok. absurd (false≢true ok);
      refused = record {
        device = cause.device;
        no_mark = cause.no_mark;
        not_found = cause.not_found;
        bad_data = cause.bad_data;
        overrun = cause.overrun;
        lost = cause.lost;
        unsent = tried.unsent starts.some_tries;
        sent = cause.sent;
        read_back = cause.read_back;
        never = λ regular p here spared less.
            tried.spoilt regular p here spared
            (subst (λ (n : ℕ). DisturbedLess n bay start.counters now.counters) (sym (all_sure start.tries starts.some_tries)) less);
      };
      regular = λ disk is regular.
          keeps_regular written bay start now (Err code) starts disk is regular (tried.so_far.regular disk is regular)
          (λ p here spared after is_in same ok. absurd (false≢true ok));
      driven = tried.so_far.driven;
      costs = costs;
    }

-- ---- an attempt was done

module _ (written : Written) (bay : ℕ) (start mid new : StationState) (count : ℕ) (before : Code) (sure : Type 0) (starts : IsWriteStart written bay start) (tried : HasTriedWrite written bay count start before mid) (attempt : TriesWrite sure written bay mid (Ok tt) new) where
  back : IsReadBack written (bay_of new bay).medium (bay_of mid bay).rate attempt.cylinder attempt.change bay mid.counters new.counters
  back = attempt.done refl

  less_in : (n : ℕ) → FaultsRoseLess n bay start.counters new.counters → FaultsRoseLess n bay mid.counters new.counters
  less_in = less_later bay start.counters mid.counters new.counters tried.so_far.counts attempt.counts

  last_read : (change : Option Change) → MatchOption change (Unit {0}) (λ one. one.cylinder ≡ attempt.cylinder) → WroteWhole written change → IsFaultless bay mid.counters new.counters → IsLastRead written back.disk (with_change tried.so_far.changes change)
  last_read None here whole less = absurd whole
  last_read (Some one) here whole less = (
    tried.so_far.changes,
    one,
    refl,
    whole,
    subst (λ c. IsSector (track_of back.disk c written.key.h) written.key written.deleted written.content) (sym here) (back.sector less),
  )

  is_written : IsWritten written bay (with_change tried.so_far.changes attempt.change) start new
  is_written = record {
    disk = back.disk;
    medium = back.is_in;
    same_rate = back.same_rate ∙ rate_mid written bay start mid new count sure (Ok tt) starts tried.so_far attempt;
    under = (attempt.cylinder, back.track, back.under);
    last = λ less. last_read attempt.change attempt.here (back.whole (less_in 1 less)) (less_in 1 less);
    commands = commands_later bay start.counters mid.counters new.counters tried.so_far.counts attempt.counts 2 back.commands;
  }

  module _ (disk : Disk) (is : (bay_of start bay).medium ≡ Some disk) (regular : IsRegularDisk disk) (p : ℕ) (here : IsAddressAt (met (bay_of start bay) written.key.c written.key.h) p written.key) (spared : IsSpared written p (met (bay_of start bay) written.key.c written.key.h) bay start new) (after : Disk) (is_in : (bay_of new bay).medium ≡ Some after) (same : IsSameOrChanged written p disk after) (address : IsAddressAt (track_of after written.key.c written.key.h) p written.key) where
    still : IsRegularDisk after
    still = (rewritten_keeps_sectors written p disk after regular starts.fits same).regular

    same_after : back.disk ≡ after
    same_after = same_some back.disk after (sym back.is_in ∙ is_in)

    track_after : HasTrack after attempt.cylinder written.key.h
    track_after = subst (λ d. HasTrack d attempt.cylinder written.key.h) same_after back.track

    sector_on_map : IsSector (track_of back.disk attempt.cylinder written.key.h) written.key written.deleted written.content → IsOnMap after (entry_of written p)
    sector_on_map sector =
        let there : IsSector (track_of after attempt.cylinder written.key.h) written.key written.deleted written.content = subst (λ d. IsSector (track_of d attempt.cylinder written.key.h) written.key written.deleted written.content) same_after sector in
        found_on_map written p after still address attempt.cylinder there.0 there.1 track_after there.2 there.3 there.4

    under_after : IsUnder (track_of after attempt.cylinder written.key.h) written.key written.deleted written.content
    under_after = subst (λ d. IsUnder (track_of d attempt.cylinder written.key.h) written.key written.deleted written.content) same_after back.under

    on_cylinder : attempt.cylinder ≡ written.key.c
    on_cylinder = sym (key_cylinder after attempt.cylinder written.key.h under_after.0 written.key still track_after under_after.2).0

    track_on : HasTrack after written.key.c written.key.h
    track_on = subst (λ c. HasTrack after c written.key.h) on_cylinder track_after

    under_on : IsUnder (track_of after written.key.c written.key.h) written.key written.deleted written.content
    under_on = subst (λ c. IsUnder (track_of after c written.key.h) written.key written.deleted written.content) on_cylinder under_after

    whole_on_map : WroteWhole written attempt.change → IsOnMap after (entry_of written p)
    whole_on_map whole =
        let wrote = written_whole written bay start mid new count sure (Ok tt) starts tried.so_far attempt disk is regular p here spared whole in
        let has : HasWritten written p (track_of after written.key.c written.key.h) = subst (λ d. HasWritten written p (track_of d written.key.c written.key.h)) (same_some wrote.0 after (sym wrote.1 ∙ is_in)) wrote.2 in
        record { track = track_on; address = address; content = (window_place p + 256, has.look, has.content) }

    lone_on_map : IsLone (track_of after written.key.c written.key.h) p → IsOnMap after (entry_of written p)
    lone_on_map lone =
        let track = track_of after written.key.c written.key.h in
        let at : under_on.0 ≡ p = one_address after written.key.c written.key.h under_on.0 p written.key still track_on under_on.2 address in
        let lone_there : IsLone track under_on.0 = subst (λ q. IsLone track q) (sym at) lone in
        found_on_map written p after still address written.key.c under_on.0 (under_on.1 + 64) track_on under_on.2
        (lone_found track under_on.0 under_on.1 written.key.n written.deleted written.content lone_there
        ((still written.key.c written.key.h track_on).keys.coded under_on.0 written.key under_on.2) under_on.3 under_on.4)
        under_on.4.content_is

    done_on_map : (FaultsRoseLess 2 bay start.counters new.counters ⊎ IsLone (track_of after written.key.c written.key.h) p) → IsOnMap after (entry_of written p)
    done_on_map (inl less) = elim (back.nearly (less_in 2 less)) [
      | inl whole ↦ whole_on_map whole
      | inr sector ↦ sector_on_map sector
    ]
    done_on_map (inr lone) = lone_on_map lone

  pub ends_done : count + 1 ≤ start.tries → CostsUpTo (write_time start bay) (write_port_accesses start) start.counters new.counters → WritesDrive written bay start (Ok tt) new
  ends_done few costs =
      let so_far = wrote_more written bay start mid new count sure (Ok tt) starts tried.so_far attempt in
      record {
        changes = so_far.changes;
        few = let less = so_far.few in omega arith;
        reach = so_far.reach;
        becomes = so_far.becomes;
        steady = so_far.steady;
        done = λ ok.
            subst (λ changes. IsWritten written bay changes start new) (sym (wrote_changes written bay start mid new count sure (Ok tt) starts tried.so_far attempt)) is_written;
        refused = tt;
        regular = λ disk is regular.
            keeps_regular written bay start new (Ok tt) starts disk is regular (so_far.regular disk is regular)
            (λ p here spared after is_in same ok.
            done_on_map disk is regular p here spared after is_in same (address_after disk is regular p here after same));
        driven = driven_within (2 * (count + 1)) (2 * start.tries) start.counters new.counters (omega arith) so_far.driven;
        costs = costs;
      }
    where
      address_after : (disk : Disk) → (bay_of start bay).medium ≡ Some disk → IsRegularDisk disk → (p : ℕ) → IsAddressAt (met (bay_of start bay) written.key.c written.key.h) p written.key → (after : Disk) → IsSameOrChanged written p disk after → IsAddressAt (track_of after written.key.c written.key.h) p written.key
      address_after disk is regular p here after same =
          let meets = meets_field (bay_of start bay).medium (bay_of start bay).rate written.key.c written.key.h p written.key disk is here in
          let there = met_track (bay_of start bay).medium (bay_of start bay).rate written.key.c written.key.h disk meets in
          rewritten_keeps_address written p disk after (subst (λ t. IsAddressAt t p written.key) there here) same
