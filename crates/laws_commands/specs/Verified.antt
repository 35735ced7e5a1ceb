-- Disks that are read whole.
use Rattle.std.specs.Prelude.{◌≡◌, ◌≤◌, ℕ, List, [], ◌∷◌, false, length, take, Option, Some}
use Rattle.laws_commands.specs.Common.{flat_map, Files, sectors_at, standard_code, Chrn, Code, Disk, HasTrack, track_of, Look, Found, NoMark, NoSector, NoData, BadCrc, IsAddressAt, IsPlain, Request, Reply, State, IsImageOf, Taken, Run, requests_of, has_refusal}
use Rattle.flop_base.specs.declared.answers.Code.TheVariants as code
use Rattle.floppy_jobs.specs.declared.request.Request.TheVariants as request
use Rattle.sector_model.specs.declared.reply.Reply.TheVariants as reply
use Rattle.sector_model.specs.declared.reply.Reason.TheVariants as reason
use Rattle.laws_commands.specs.Requests.{verify_opening, verify_requests}

-- a key of the standard format of a disk
pub record IsStandardKey (disk : Disk) (key : Chrn) : Type 0 where
  pub track : HasTrack disk key.c key.h
  pub sector : (1 ≤ key.r) × (key.r ≤ sectors_at disk.rate)
  pub size : key.n ≡ standard_code

-- no address field of the disk can be mistaken, and each standard key has at most one address field
pub record IsUnmistaken (disk : Disk) : Type 0 where
  pub plain : (c h : ℕ) → HasTrack disk c h → IsPlain (track_of disk c h)
  pub single : (key : Chrn) → IsStandardKey disk key → (p q : ℕ) → IsAddressAt (track_of disk key.c key.h) p key
      → IsAddressAt (track_of disk key.c key.h) q key → p ≡ q

-- what a read tells of a key, by the look for the key: nothing, or a code
abbrev pub told_of : Chrn → Look → List (Chrn × Code)
told_of key (Found deleted place) = []
told_of key NoMark = (key, code.NoMark) ∷ []
told_of key NoData = (key, code.NoMark) ∷ []
told_of key NoSector = (key, code.NotFound) ∷ []
told_of key BadCrc = (key, code.BadCrc) ∷ []

-- what the reads tell of several keys with their looks, in their order
abbrev pub all_told_of : List (Chrn × Look) → List (Chrn × Code)
all_told_of failed = flat_map (λ (pair : Chrn × Look). told_of pair.0 pair.1) failed

-- a read that the driver refused: its key, and the code
abbrev pub refused_read : Request → Reply → List (Chrn × Code)
refused_read (request.Read bay key address) (reply.Refused (reason.Driver cause)) = (key, cause) ∷ []
refused_read _ _ = []

-- the refused reads of a course, in their order
abbrev pub refused_reads : List Taken → List (Chrn × Code)
refused_reads course = flat_map (λ taken. refused_read taken.asked taken.answer) course

-- The command that reads every sector was run on the disk of this name. Its opening was done, and its reads had any
-- answers.
pub record ReadsDisk (name : List ℕ) (disk : Disk) (old : State) (files : Files) (course : List Taken) (new : State) (after : Option Files) : Type 0 where
  pub image : IsImageOf (Some files) name disk
  pub run : Run old (Some files) course new after
  pub all : requests_of course ≡ verify_requests name disk
  pub opened : has_refusal (take (length (verify_opening name disk)) course) ≡ false
