-- A medium that can be written can still be written after the commands of a format.
use Rattle.std.proofs.Common.{◌≡◌, ℕ, Bool, false, Option, Some, None, MatchOption, Result, sym, ap, ◌∙◌}
use Rattle.floppy_driver.proofs.Common.{option_map_or, Code, Disk, Two, in_bay, Format, Laying, Prepare, Rig, IsSound, OnlyAsks, FormatsTrack, LaysMedium, notes_of, with_notes, IsAttached, CanTry, IsPrepared, CanWrite, ReadsRecords, Driver}
use Rattle.floppy_driver.proofs.Shows.{attached_same, attached_written}
use Rattle.floppy_driver.proofs.Attempts.{can_try_stays, prepared_ready}

abbrev is_protected : Option Disk → Bool
is_protected medium = option_map_or (λ disk. disk.protected) medium false

same_protected : (old new : Rig) (bay : ℕ) → new.media ≡ old.media → is_protected (in_bay new.media bay) ≡ is_protected (in_bay old.media bay)
same_protected old new bay media = ap (λ (t : Two (Option Disk)). is_protected (in_bay t bay)) media

-- after the heads of its drive moved
pub can_write_prepared : (driver after : Driver) (old new : Rig) (bay target : ℕ) (way : Prepare) (ready : Bool) → CanWrite driver old bay → after ≡ with_notes driver bay (notes_of after bay) → IsPrepared bay target way old (notes_of driver bay) ready new (notes_of after bay) → IsAttached after new → IsSound new → CanWrite after new bay
can_write_prepared driver after old new bay target way ready can is prepared attached sound = record {
  ready = prepared_ready driver after old new bay target way ready can.ready is prepared attached sound;
  unprotected = same_protected old new bay prepared.moves.media ∙ can.unprotected;
}

-- after a question to the machine
pub can_write_asked : (driver : Driver) (old new : Rig) (bay : ℕ) → CanTry driver old bay → OnlyAsks old new → IsSound new → is_protected (in_bay old.media bay) ≡ false → CanWrite driver new bay
can_write_asked driver old new bay can asks sound unprotected = record {
  ready = can_try_stays driver old new bay can asks.heads (attached_same driver old new asks.heads asks.media asks.counts can.attached) sound;
  unprotected = same_protected old new bay asks.media ∙ unprotected;
}

module _ (driver : Driver) (old new : Rig) (bay : ℕ) (can : CanWrite driver old bay) (sound : IsSound new) where
  -- after a format command
  module _ (format : Format) (answer : Result (Unit {0}) Code) where
    still_in : (laying : Option Laying) → MatchOption laying (new.media ≡ old.media) (λ one. LaysMedium bay format one old new) → in_bay new.media bay ≡ None → in_bay old.media bay ≡ None
    still_in None same none = ap (λ (t : Two (Option Disk)). in_bay t bay) (sym same) ∙ none
    still_in (Some one) lays none = absurd (cc (lays.is, none))

    same_protection : (laying : Option Laying) → MatchOption laying (new.media ≡ old.media) (λ one. LaysMedium bay format one old new) → is_protected (in_bay new.media bay) ≡ is_protected (in_bay old.media bay)
    same_protection None same = same_protected old new bay same
    same_protection (Some one) lays =
        ap (λ (m : Option Disk). is_protected m) lays.is ∙ lays.makes.laid.protected ∙ sym (ap (λ (m : Option Disk). is_protected m) lays.was)

    pub can_write_formatted : (laying : Option Laying) → FormatsTrack bay format laying old answer new → CanWrite driver new bay
    can_write_formatted laying formats = record {
      ready =
          can_try_stays driver old new bay can.ready formats.sends.heads
          (attached_written driver old new bay can.ready.in_range formats.sends.counts formats.sends.heads formats.sends.other_medium (still_in laying formats.does) can.ready.attached) sound;
      unprotected = same_protection laying formats.does ∙ can.unprotected;
    }

  -- after records were read back
  pub can_write_read : (count : ℕ) (blank there : Type 0) (answer : Result (Unit {0}) Code) → ReadsRecords bay count blank there old answer new → CanWrite driver new bay
  can_write_read count blank there answer reads = record {
    ready = can_try_stays driver old new bay can.ready reads.heads (attached_same driver old new reads.heads reads.media reads.counts can.ready.attached) sound;
    unprotected = same_protected old new bay reads.media ∙ can.unprotected;
  }
