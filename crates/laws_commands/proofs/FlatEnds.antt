-- The commands on flat files end well, or the outside failed.
use Rattle.std.proofs.Common.{arith, ◌≡◌, ◌∙◌, ◌+◌, ◌<◌, ◌≤◌, ℕ, true, false, List, length, refl, sym, ap, subst, Option, Some, None, Result, Ok, Err, le-leb, [], ◌++◌, inl}
use Rattle.std.specs.Prelude.{nat_le, slice_index}
use Rattle.laws_commands.proofs.Common.{Files, file_at, sectors_at, Rate, R500, R250, Status, ImageError, user_bytes, bytes_from, sector_place, sectors_told, key_of, Stop, StationState, bay_of, refusal_of, is_loaded, blank_of, IsImageOf, is_refusal, Taken, IsEndStop, World, AreUndisturbed, blank_request, RunsScript, Runs, record_address, last_run, script_ties, IsFlatFile, IsFlatFound, IsNotTaken, Imports, import_script, BeginsSound, EndsWellOrOutside, Disk, HasTrack, Counters, IsFaultless, export_script, StoresDisk, StoresImported, StoresExported, StoresFlatOf}
use Rattle.disk_commands.specs.Import.{fills_byte, fills_record, fills_track, writes_record, writes_track, imports_track}
use Rattle.laws_commands.proofs.Prepared.{IsBlank}
use Rattle.laws_commands.proofs.Bays.{of_one, safe, fresh_empty, blank_done, acknowledges_goes, eject_goes, IsReadyFor, opens_goes}
use Rattle.laws_commands.proofs.CommandEnds.{fresh_memory}
use Rattle.laws_commands.proofs.Going.{Stage, at, IsDone, GoesWell, PartGoes, goes_carries, goes_each, goes_tracks, prints_outside, stop_outside, completes, goes_needs}
use Rattle.laws_commands.proofs.SectorRequests.{IsMaking, AnyDisk, HasRecords, MakesAlone, any_made, blank_made, made_still, format_done, write_done, ReadsAlone, read_done}
use Rattle.commands.specs.Parts.{may_starve}
use Rattle.disk_commands.specs.Export.{reads_record, reads_track}
use Rattle.laws_commands.proofs.Verified.{one_image, reaches}
use Rattle.laws_commands.proofs.ImportRun.{import_stores}
use Rattle.laws_commands.specs.FlatComplete.{IsWholeDisk}
use Rattle.laws_commands.proofs.ExportRun.{export_stores}
use Rattle.laws_commands.proofs.ScriptAccesses.{some_sectors}
use Rattle.floppy_jobs.specs.declared.request.Request.TheVariants as request
use Rattle.sector_model.specs.declared.reply.Stop.TheVariants as stop

-- ---- Import.

-- ---- A track.

module _ (rate : Rate) (bytes : List ℕ) (c h : ℕ) (cylinder : c < 80) (head : h < 2) where
  abbrev sectors : ℕ
  sectors = sectors_at rate

  -- the track was formatted in bay 0
  abbrev IsOnTrack : Stage → Type 0
  IsOnTrack stage = IsMaking 0 rate 80 (HasRecords sectors c h) stage.state.station

  abbrev Makes : Stage → Stage → Type 0
  Makes old new = MakesAlone 0 1 rate 80 (HasRecords sectors c h) old new

  fill_done : (address byte : ℕ) (old : Stage) → address + 1 ≤ user_bytes → IsOnTrack old → IsDone IsOnTrack (request.Fill address 1 byte) old
  fill_done address byte old inside making = record {
    safe = safe (request.Fill address 1 byte) old refl (λ bay name same. cc same);
    answers = λ answer new step calm.
        let good : nat_le (address + 1) user_bytes ≡ true = le-leb (address + 1) user_bytes inside in
        let free : refusal_of old.state (request.Fill address 1 byte) ≡ None = rw good refl in
        let does = reaches _ (refusal_of old.state (request.Fill address 1 byte)) free step in
        let still = ap (λ (s : StationState). bay_of s 0) does.2.becomes in (
          ap is_refusal does.0,
          made_still 0 rate 80 (HasRecords sectors c h) (HasRecords sectors c h) old.state.station new.state.station
              (λ disk has. has) still making,
        );
  }

  byte_goes : (place address i : ℕ) (old : Stage) → address + i + 1 ≤ user_bytes → IsOnTrack old
      → PartGoes (λ none new. IsOnTrack new) (fills_byte bytes place address i tt) old
  unfolding fills_byte
  byte_goes place address i old inside making rest behind =
      let byte = slice_index bytes (place + i) in
      goes_carries IsOnTrack (request.Fill (address + i) 1 byte) rest old (fill_done (address + i) byte old inside making) (λ new there. behind tt new there)

  fills_go : (old : Stage) → IsOnTrack old → PartGoes (λ none new. IsOnTrack new) (fills_track bytes sectors c h) old
  unfolding fills_track fills_record
  fills_go old making =
      let some = some_sectors rate in
      goes_each (λ none new. IsOnTrack new) (λ r. fills_record bytes (sector_place sectors c h r) (record_address r)) 1 sectors tt old
      (λ r least below none one there.
      goes_each (λ none new. IsOnTrack new) (fills_byte bytes (sector_place sectors c h r) (record_address r)) 0 512 none one (λ i from small same two here.
      byte_goes (sector_place sectors c h r) (record_address r) i two (omega (arith, below, some.1, small)) here) there) making

  written_goes : (r : ℕ) (old : Stage) → 1 ≤ r → r ≤ sectors → IsOnTrack old → PartGoes (λ none new. IsOnTrack new) (writes_record c h r tt) old
  unfolding writes_record
  written_goes r old least most making rest behind =
      goes_carries (Makes old) (request.Write 0 (key_of c h r) (record_address r)) rest old
      (write_done 0 1 rate 80 c h r false refl (λ station value. refl) cylinder head least most old making) (λ new alone. behind tt new alone.made)

  track_goes : (old : Stage) → IsMaking 0 rate 80 AnyDisk old.state.station
      → PartGoes (λ none new. IsMaking 0 rate 80 AnyDisk new.state.station) (imports_track bytes sectors c h tt) old
  unfolding imports_track writes_track
  track_goes old making rest behind =
      goes_carries (Makes old) (request.Format 0 c h) _ old (format_done 0 1 rate 80 c h refl (λ station value. refl) cylinder head AnyDisk old making)
      (λ one alone.
      fills_go one alone.made _ (λ none two there.
      goes_each (λ none new. IsOnTrack new) (writes_record c h) 1 sectors tt two
      (λ r least below same mid is. written_goes r mid least (omega (arith, below)) is) there rest
      (λ same three is. behind tt three (any_made 0 rate 80 _ three.state.station is))))

-- ---- The whole script.

import_goes : (bytes name : List ℕ) (rate : Rate) (old : Stage) → is_loaded old.state 0 ≡ false → GoesWell (import_script (Ok (bytes, rate)) name) old
import_goes bytes name rate old empty =
    goes_carries (λ new. IsBlank 0 rate name 80 old.state old.files new.state new.files) (blank_request 0 name 80 rate) _ old
    (blank_done 0 rate name 80 old refl (omega arith) (omega arith) empty) (λ one is.
    acknowledges_goes 0 1 (blank_of 80 rate) refl (λ station value. refl) _ one is.medium (λ two alone.
    goes_tracks (λ none new. IsMaking 0 rate 80 AnyDisk new.state.station) 80 2 (imports_track bytes (sectors_at rate)) tt two
    (λ c h cylinder head none mid made. track_goes rate bytes c h cylinder head mid made) (blank_made 0 rate 80 two.state.station is.valid alone.ready) _
    (λ none three made. eject_goes 0 made.disk _ three refl made.medium (λ new. refl))))

-- ---- The flat file.

-- a flat file is taken unless the outside fails
pub taken_flat : (files : Files) (flat bytes : List ℕ) (rate : Rate) (cause : Stop) → IsFlatFile (Some files) flat bytes rate
    → IsNotTaken (Some files) flat cause → IsEndStop cause
taken_flat files flat bytes rate stop.FileFault is not = tt
taken_flat files flat bytes rate stop.NoMemory is not = tt
taken_flat files flat bytes rate (stop.BadImage named error) is not =
    let both = of_one (file_at files flat) is.there not.1 in
    let clash : sectors_told (length bytes) ≡ Err error = ap (λ (l : List ℕ). sectors_told (length l)) (sym both.2.0) ∙ both.3.1 in
    absurd (differ (sectors_told (length bytes)) is.sectors clash)
  where
    differ : (told : Result ℕ ImageError) → told ≡ Ok (sectors_at rate) → told ≡ Err error → ⊥
    differ told e f = cc (e, f)
taken_flat files flat bytes rate (stop.TooLong named most) is not = let both =
    of_one (file_at files flat) is.there not.2 in absurd (omega (arith, both.2.1, both.3))
taken_flat files flat bytes rate (stop.Absent named) is not = grind (arith, of_one)

-- a name has only one flat file
pub one_flat : (files : Files) (flat one two : List ℕ) (a b : Rate) → IsFlatFile (Some files) flat one a → IsFlatFile (Some files) flat two b → one ≡ two
one_flat files flat one two a b first second = let both = of_one (file_at files flat) first.there second.there in sym both.2.0 ∙ both.3.0

same_rate : (a b : Rate) → sectors_at a ≡ sectors_at b → a ≡ b
same_rate R500 R250 same = absurd (omega (arith, same))
same_rate R250 R500 same = absurd (omega (arith, same))
same_rate _ _ same = refl

as_sectors : (told : Result ℕ ImageError) (a b : ℕ) → told ≡ Ok a → told ≡ Ok b → a ≡ b
as_sectors told a b e f = cc (e, f)

pub one_rate : (a b : Rate) (one two : List ℕ) → one ≡ two → sectors_told (length one) ≡ Ok (sectors_at a) → sectors_told (length two) ≡ Ok (sectors_at b) → a ≡ b
one_rate a b one two same first second =
    same_rate a b (as_sectors (sectors_told (length two)) (sectors_at a) (sectors_at b) (ap (λ (l : List ℕ). sectors_told (length l)) (sym same) ∙ first) second)

-- ---- The command.

-- the disk that was stored is that of the flat file of this name
same_file : (files : Files) (flat name bytes : List ℕ) (rate : Rate) (after : Option Files) → IsFlatFile (Some files) flat bytes rate
    → StoresImported flat name (Some files) after → StoresDisk bytes name rate (Some files) after
same_file files flat name bytes rate after is made = grind (arith, one_flat, one_rate)

module _ (flat name : List ℕ) (old new : World) (course : List Taken) (ended : Status) (files : Files) (bytes : List ℕ) (rate : Rate) (begins : BeginsSound old)
    (told : old.files ≡ Some files) (is : IsFlatFile (Some files) flat bytes rate) (calm : AreUndisturbed old.state.station.counters course) where
  import_ends : (found : Result (List ℕ × Rate) Stop) → IsFlatFound old.files flat found → RunsScript (import_script found name) old course new ended
      → EndsWellOrOutside (StoresDisk bytes name rate (Some files) new.files) ended
  import_ends (Ok (row, at_rate)) there runs =
      completes (import_script (Ok (row, at_rate)) name) _ old new course ended old.files refl begins
      (import_goes row name at_rate (at old.state old.files) (fresh_empty old.state 0 begins.fresh)) calm runs
      (λ done faultless.
      same_file files flat name bytes rate new.files is
      (subst (λ (f : Option Files). StoresImported flat name f new.files) told
      (import_stores flat name old new course (Ok (row, at_rate), there, done) (fresh_memory old.state.station begins.fresh) faultless.first)))
  import_ends (Err cause) not runs = grind (arith, taken_flat, bytes, told, prints_outside, stop_outside, last_run)

-- if nothing is left that can go wrong, an import goes to its end, or the outside failed
pub import_complete : (flat name : List ℕ) (old new : World) (ended : Status) (files : Files) (bytes : List ℕ) (rate : Rate) → BeginsSound old
    → old.files ≡ Some files → IsFlatFile (Some files) flat bytes rate → Runs (Imports flat name) old new ended
    → EndsWellOrOutside (StoresDisk bytes name rate (Some files) new.files) ended
import_complete flat name old new ended files bytes rate begins told is runs = grind (arith, script_ties, import_ends)

-- ---- Export.

module _ (disk : Disk) (is : IsWholeDisk disk) where
  -- the disk is in bay 0, and the bay is ready, whatever was read so far
  abbrev IsReady : List ℕ → Stage → Type 0
  IsReady bytes stage = IsReadyFor 0 disk stage.state.station

  record_goes : (c h r : ℕ) (bytes : List ℕ) (old : Stage) → c < 80 → h < 2 → 1 ≤ r → r ≤ sectors_at disk.rate → IsReady bytes old
      → PartGoes IsReady (reads_record c h r bytes) old
  unfolding reads_record may_starve
  record_goes c h r bytes old cylinder head least most ready rest behind =
      let count = is.cylinders in
      let heads = is.heads in
      let few = (some_sectors disk.rate).1 in
      let track : HasTrack disk c h = (omega (arith, cylinder, count), omega (arith, head, heads)) in
      goes_needs (λ new. ReadsAlone disk old new) (request.Read 0 (key_of c h r) (record_address r)) _ old
      (read_done disk c h r r old is.readable (omega (arith, count)) (omega (arith, heads)) track least most least (omega (arith, most, few)) ready)
      (λ answer new alone. behind (bytes ++ bytes_from new.state.station.memory (record_address r) 512) new alone.ready)

-- if the drive of bay 0 had no fault, the flat file of what the reads gave is that of the disk
same_flat : (disk : Disk) (files : Files) (name flat : List ℕ) (old new : Counters) (course : List Taken) (after : Option Files) → IsWholeDisk disk
    → IsImageOf (Some files) name disk → IsFaultless 0 old new → StoresExported name flat old (Some files) course new after
    → StoresFlatOf disk flat (Some files) after
same_flat disk files name flat old new course after whole image faultless stores =
    subst (λ (d : Disk). IsWholeDisk d → StoresFlatOf d flat (Some files) after) (one_image files name stores.disk disk stores.image image)
    (λ there. record {
      bytes = stores.bytes;
      size = stores.size;
      sectors = λ c h r sector. let read = stores.sectors c h r sector in (read.deleted, read.sector (there.readable.regular, inl faultless));
      files = stores.files;
    }) whole

-- if nothing is left that can go wrong, an export of such a disk goes to its end, or the outside failed
pub export_complete : (name flat : List ℕ) (old new : World) (ended : Status) (files : Files) (disk : Disk) → BeginsSound old → old.files ≡ Some files
    → IsImageOf (Some files) name disk → IsWholeDisk disk → Runs (RunsScript (export_script name flat)) old new ended
    → EndsWellOrOutside (StoresFlatOf disk flat (Some files) new.files) ended
unfolding reads_track
export_complete name flat old new ended files disk begins told image whole runs =
    completes (export_script name flat) _ old new runs.course ended (Some files) told begins
    (opens_goes name files disk _ old.state image begins.fresh (λ one put.
    acknowledges_goes 0 1 disk refl (λ station value. refl) _ one put.medium (λ two alone.
    goes_tracks (IsReady disk whole) 80 2 (reads_track (sectors_at disk.rate)) [] two (λ c h cylinder head bytes mid there.
    goes_each (IsReady disk whole) (reads_record c h) 1 (sectors_at disk.rate) bytes mid (λ r least below now three ready.
    record_goes disk whole c h r now three cylinder head least (omega (arith, below)) ready) there) alone.ready _ (λ bytes three ready. refl))))
    ((script_ties (export_script name flat) old runs.course new ended runs.does).undisturbed begins.sound) runs.does (λ done faultless.
    same_flat disk files name flat old.state.station.counters new.state.station.counters runs.course new.files whole image faultless.first
    (subst (λ (f : Option Files). StoresExported name flat old.state.station.counters f runs.course new.state.station.counters new.files) told
    (export_stores name flat old new runs.course done (fresh_memory old.state.station begins.fresh))))
