-- How what the inner controller executes ends, and what comes of it.
use Rattle.std.specs.Prelude.{◌≡◌, ℕ, ◌+◌, ◌-◌, ◌*◌, ◌%◌, nat_le, Bool, true, false, not, ◌==◌, ◌&&◌, ◌||◌, Option, Some, None, option_map, if◌then◌else◌, bit_and}
use Rattle.std.specs.Int.Bits.{bit_xor}
use Rattle.fdc_chip.specs.Common.{bit_or, Chrn, abnormal, seek_end, drive_at, selected_at, size_of, ReadsSector, is_through, results_outside, results_taken, sector_alone}
use Rattle.raw_image.specs.Disk.{Disk}
use Rattle.fdc_registers.specs.St1.{end_of_cylinder, overrun, no_data, missing_mark}
use Rattle.fdc_registers.specs.St2.{wrong_cylinder, bad_cylinder, missing_data_mark}
use Rattle.fdc_commands.specs.declared.results.Results.{Results}
use Rattle.fdc_chip.specs.Chips.{ChipState, KeepsRest, with_front}
use Rattle.fdc_chip.specs.Codes.{has_bit, has_multitrack}
use Rattle.fdc_chip.specs.Doing.{GivesOn, told, identifying, is_size}
use Rattle.fdc_chip.specs.Orders.{is_format}
use Rattle.fdc_chip.specs.declared.answer.ChipAnswer.TheVariants as answer
use Rattle.fdc_chip.specs.declared.order.Order.{Order}
use Rattle.fdc_chip.specs.declared.stage.Place.{Place}
use Rattle.fdc_chip.specs.declared.stage.Place.TheVariants.{Index, Address, Data}
use Rattle.fdc_chip.specs.declared.stage.ChipStage.TheVariants.{Busy}
use Rattle.fdc_chip.specs.declared.stage.ChipTask.{ChipTask}
use Rattle.fdc_chip.specs.declared.stage.ChipTask.TheVariants as task
use Rattle.fdc_chip.specs.declared.stage.Track.{Track}

-- ---- FORMAT TRACK

-- the words of the layout: 146 before the first sector, and in each sector its content, gap 3 and 62 others
abbrev pub layout_words : Order → ℕ
layout_words order = 146 + order.key.h * (62 + size_of order.key.c + order.key.r)

-- the words of a track of the medium that is in a drive, or 0 if none is in
abbrev pub words_in : Option Disk → ℕ
words_in None = 0
words_in (Some disk) = disk.words_per_track

-- all sectors of the layout fit on the track, and gap 3 of the last one may be cut
abbrev pub fits_but_gap : Order → ℕ → Bool
fits_but_gap order words = nat_le (layout_words order) (words + order.key.r)

-- all its sectors fit on the medium in the drive that DOR selects
abbrev pub fits_selected : ChipState → Bool
fits_selected chip = let bay = selected_at chip.front.adapter in
    nat_le bay 1 && fits_but_gap chip.order (words_in (drive_at chip.front.adapter bay).medium)

-- the inner controller itself executed a FORMAT TRACK, all of whose sectors fit
abbrev pub has_room : ChipState → Bool
has_room chip = is_format chip.order && (is_through chip.front.stage && fits_selected chip)

-- the index came before the whole layout was written
abbrev pub says_cut : Results → Bool
says_cut results = (results.st1.0 == missing_mark) && (results.st2.0 == missing_data_mark)

-- these results, with IC 00 and without an error
abbrev pub as_done : Results → Results
as_done results = record results { st0 = record { 0 = bit_and results.st0.0 0x3F }; st1 = record { 0 = 0 }; st2 = record { 0 = 0 } }

abbrev pub done_if : Bool → Results → Results
done_if room results = if room && says_cut results then as_done results else results

-- these results, as the chip judges them: a FORMAT TRACK is done if the index cut nothing but gap 3 of its last sector
abbrev pub judged : ChipState → Results → Results
judged chip results = done_if (has_room chip) results

-- the results that wait in the inner controller, as the chip judges them
abbrev pub results_judged : ChipState → Option Results
results_judged chip = option_map (judged chip) (results_outside chip.front)

-- ---- what is reported

-- the host reads these results, and INT rises
abbrev pub told_results : Results → ChipState → ChipState
told_results results old =
    told (answer.Results results) (record old { interrupts = record old.interrupts { line = true } })

-- the sector wasn't found, and nothing else is wrong
abbrev pub is_not_found : Results → Bool
is_not_found results = results.st1.0 == no_data

-- whether a command has a sector ID: all but READ ID have one
abbrev pub has_key : Order → Bool
has_key order = not (bit_and order.code 0x1F == 0x0A)

-- whether the chip looks next which cylinder passes
abbrev pub looks_for_cylinder : Order → Results → Bool
looks_for_cylinder order results = has_key order && is_not_found results

-- the head and the drive of the results
abbrev pub unit_of : Results → ℕ
unit_of results = bit_and results.st0.0 7

-- WC if another cylinder passes than the wanted one, and BC too if that cylinder is FF
abbrev pub cylinder_bits : ℕ → ℕ → ℕ
cylinder_bits wanted passed =
    if wanted == passed then 0 else (if passed == 0xFF then bit_or wrong_cylinder bad_cylinder else wrong_cylinder)

-- the results of a sector that wasn't found, after a READ ID looked which cylinder passes. They change only if the READ
-- ID heard a sector ID
abbrev pub with_cylinder_passed : Results → Results → Results
with_cylinder_passed first passed =
    if passed.st1.0 == 0 then record first { st2 = record { 0 = bit_or first.st2.0 (cylinder_bits first.key.c passed.key.c) } } else first

-- whether address marks passed, even if none of them belongs to an intact field
abbrev pub saw_marks : Results → Bool
saw_marks results = bit_and results.st1.0 missing_mark == 0

-- the results of a command that this medium can't have: ND if address marks pass, and MA if none does
abbrev pub refusal : ℕ → Chrn → Bool → Results
refusal unit key marks = record {
  st0 = record { 0 = bit_or (bit_and unit 7) abnormal };
  st1 = record { 0 = if marks then no_data else missing_mark };
  st2 = record { 0 = 0 };
  key = key;
}

-- ---- VERIFY

-- the sector ID after EOT. With MT it is the one after EOT of head 1
abbrev pub behind_last : Bool → Chrn → Chrn
behind_last multitrack key = record key {
  c = (key.c + 1) % 256;
  h = if multitrack then bit_xor key.h 1 else key.h;
  r = 1;
}

-- whether a VERIFY that doesn't count its sectors is done. It is done after EOT, where the sequencer ends with EN
-- because sectors were passed over
abbrev pub is_done : Order → Results → Bool
is_done order results = not (has_bit order.unit 0x80) && results.st1.0 == end_of_cylinder

abbrev pub verified : Order → Results → Results
verified order results = if is_done order results then record results {
  st0 = record { 0 = bit_and results.st0.0 0x27 };
  st1 = record { 0 = 0 };
  key = behind_last (has_multitrack order.code) results.key;
} else results

-- ---- READ TRACK

-- a sector of the READ TRACK is over
abbrev pub without_one : Results → Track → Track
without_one results track = record track {
  left = track.left - 1;
  st1 = record { 0 = bit_or track.st1.0 (bit_and results.st1.0 0x7F) };
  st2 = record { 0 = bit_or track.st2.0 results.st2.0 };
}

abbrev pub is_same_key : Chrn → Chrn → Bool
is_same_key one other = ((one.c == other.c && one.h == other.h) && one.r == other.r) && one.n == other.n

-- an address field of this sector ID was met, and its sector is read next
abbrev pub met_key : Chrn → Track → Track
met_key key track = record track { place = Data; met = track.met || is_same_key key track.key }

-- what is wrong after a READ TRACK is what was wrong with any field. ND is added if no field had the sector ID, unless
-- no field was seen. EN is added if all sectors were read and the terminal count didn't come
abbrev pub is_missed : Track → Bool
is_missed track = not track.met && bit_and track.st1.0 missing_mark == 0

abbrev pub track_faults : Track → ℕ
track_faults track =
    bit_or (bit_or track.st1.0 (if is_missed track then no_data else 0)) (if (track.left == 0) && not track.counted then end_of_cylinder else 0)

-- SE, if the heads went to the cylinder first
abbrev pub sought_bit : Track → ℕ
sought_bit track = if track.seeks then seek_end else 0

abbrev pub results_of_track : Track → Results
results_of_track track = record {
  st0 = record { 0 = bit_or (bit_or (bit_and track.unit 7) (if track_faults track == 0 then 0 else abnormal)) (sought_bit track) };
  st1 = record { 0 = track_faults track };
  st2 = track.st2;
  key = track.key;
}

-- the READ TRACK with this fault as well
abbrev pub with_fault : ℕ → Track → Track
with_fault fault track = record track { st1 = record { 0 = bit_or track.st1.0 fault } }

abbrev pub track_told : Track → ChipState → ChipState
track_told track old = told_results (results_of_track track) old

-- this READ TRACK is then under way
abbrev pub track_at : Track → ChipState → ChipState
track_at track old = record old { stage = Busy (task.Track track) }

-- the READ TRACK looks for the next address field
abbrev pub LooksOn : Track → ChipState → ChipState → Type 0
LooksOn track old new = GivesOn (identifying track.unit) (track_at (record track { place = Address }) old) new

-- the sector of an address field, with as many bytes as the command says
abbrev pub sector_met : Chrn → Track → Chrn
sector_met key track = record key { n = track.key.n }

-- the READ TRACK reads the data field of the address field that was met, in the same turn
abbrev pub ReadsOn : Track → Chrn → ChipState → ChipState → Type 0
ReadsOn track key old new =
    let set = track_at (met_key key track) old in
    ReadsSector (sector_alone track.unit (sector_met key track)) set.front new.front × KeepsRest set new

-- the search for the absent sector has ended with the index pulse. The Bool says whether it saw no address mark
abbrev pub EndsIndex : Bool → Track → ChipState → ChipState → Type 0
EndsIndex true track old new = new ≡ track_told (with_fault missing_mark track) old
EndsIndex false track old new = LooksOn track old new

-- why no sector is read: why no address field was met, or else ND
abbrev pub unread : Results → ℕ
unread results = if results.st1.0 == 0 then no_data else results.st1.0

-- an address field was met, and its sector is read (true), or none was met
abbrev pub EndsAddressIf : Bool → Results → Track → ChipState → ChipState → Type 0
EndsAddressIf true results track old new = ReadsOn track results.key old new
EndsAddressIf false results track old new = new ≡ track_told (with_fault (unread results) track) old

-- a READ ID of the READ TRACK ended. The first Bool says whether the terminal count came between two sectors
abbrev pub EndsAddress : Bool → Results → Track → ChipState → ChipState → Type 0
EndsAddress true results track old new = new ≡ track_told track old
EndsAddress false results track old new = EndsAddressIf ((results.st1.0 == 0) && is_size track.key.n) results track old new

-- whether the READ TRACK ends after this sector. Otherwise it looks for the next one
abbrev pub is_over : Results → Track → Bool
is_over results track = (track.counted || track.left == 0) || not (bit_and results.st1.0 overrun == 0)

abbrev pub EndsData : Bool → Track → ChipState → ChipState → Type 0
EndsData true track old new = new ≡ track_told track old
EndsData false track old new = LooksOn track old new

abbrev pub EndsAt : Place → Track → Results → ChipState → ChipState → Type 0
EndsAt Index track results old new = EndsIndex (not (bit_and results.st1.0 missing_mark == 0)) track old new
EndsAt Address track results old new = EndsAddress track.counted results track old new
EndsAt Data track results old new = let over = without_one results track in EndsData (is_over results over) over old new

-- ---- all tasks

abbrev pub EndsSent : Bool → Results → ChipState → ChipState → Type 0
EndsSent true results old new =
    GivesOn (identifying (unit_of results)) (record old { stage = Busy (task.Sought results) }) new
EndsSent false results old new = new ≡ told_results results old

-- what the inner controller executed for this task ended with these results
abbrev pub Ends : ChipTask → Results → ChipState → ChipState → Type 0
Ends task.Sent results old new = EndsSent (looks_for_cylinder old.order results) results old new
Ends (task.Sought first) results old new = new ≡ told_results (with_cylinder_passed first results) old
Ends (task.Refused unit key mfm) results old new = new ≡ told_results (refusal unit key (mfm && saw_marks results)) old
Ends (task.Verify _) results old new = let told = verified old.order results in EndsSent (looks_for_cylinder old.order told) told old new
Ends (task.Track track) results old new = EndsAt track.place track results old new

abbrev pub EndsAs : Option Results → ChipTask → ChipState → ChipState → Type 0
EndsAs None task old new = new ≡ old
EndsAs (Some results) task old new = Ends task results (with_front (results_taken old.front) old) new

-- if results of the task wait, they are taken, and `Ends` says what comes of them
abbrev pub MayEnd : ChipTask → ChipState → ChipState → Type 0
MayEnd task old new = EndsAs (results_judged old) task old new
