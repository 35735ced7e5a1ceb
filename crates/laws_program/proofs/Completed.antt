-- The status of the subcommands (forms) on whole disks, by whether some reply was a refusal.
use Rattle.std.proofs.Common.{◌∙◌, ◌≡◌, ℕ, ◌+◌, ◌-◌, Bool, true, false, List, [], Option, Some, Result, Ok, Err, get_or, refl, ap, sym, subst, arith, length, inl, IsOk, true≢false}
use Rattle.std.specs.Prelude.{◌||◌, nat_lt, sum, codes, if◌then◌else◌, ◌==◌, ◌*◌}
use Rattle.laws_program.proofs.Common.{or-false, or-true, lt-ltb, Files, sectors_at, Rate, R250, R500, Status, Chrn, Disk, key_of, Reply, Stop, bytes_from, State, IsImageOf, is_refusal, stop_status, Taken, has_refusal, World, blank_request, Asks, RunsScript, formats, last_run, IsFlatFile, IsFlatFound, IsNotTaken, Tally, taken_flat, Code, track_of, GoesOn, IsUndisturbed, IsAddressAt, content_size, Written, has_after, with_track_keeps, met_track, StationState, bay_of, met, WritesDrive, reply_of, IsRegularIn}
use Rattle.sector_map.specs.Flat.{sector_place}
use Rattle.commands.specs.Parts.{Part, asks, says, may_starve}
use Rattle.commands.specs.Records.{record_address}
use Rattle.disk_commands.specs.Format.{format_script, formats_disk}
use Rattle.disk_commands.specs.Verify.{no_reads, one_more, tells_failure, verifies_record, verifies_track, verify_script, reads_disk}
use Rattle.disk_commands.specs.Copy.{write_request, no_marks, reads_record, writes_record, copies_track, copy_script, makes_copy, copies_disk}
use Rattle.disk_commands.specs.Import.{Imports, import_script, fills_byte, fills_record, fills_track, writes_track, imports_track}
use Rattle.disk_commands.specs.Export.{export_script, reads_track}
use Rattle.disk_commands.specs.Exercise.{exercise_script, no_work, counted, reads_work, writes_work, works_drawn, works_behind, works}
use Rattle.disk_commands.specs.Workload.{number_after}
use Rattle.laws_program.proofs.OfForms.{EndsBy, Came, NeverInserts, stop_as, SaysRefused, IsFaithful, prints_as, script_tells, opens_tells, needs_tells, PartTells, PartEnds, carries_tells, acknowledges_tells, each_tells, tracks_tell}
use Rattle.sector_map.specs.ChangedDisks.{written_under}
use Rattle.laws_program.proofs.Shown.{ShowSame}
use Rattle.laws_program.proofs.CutTracks.{IsWrittenOver, KeepsShown, written_keeps}
use Rattle.laws_program.proofs.AlikeDisks.{AlikeMedia, AlikeBays, met_bays, regular_met, regular_in_too, few_faults, alike_after, over_both, in_both, both_in, both_stay}
use Rattle.laws_program.proofs.Takes.{IsOver, IsKept, Takes, Over, Kept, one_refusal, refuses_on, write_takes}
use Rattle.floppy_jobs.specs.declared.request.Request.TheVariants as request
use Rattle.sector_model.specs.declared.reply.Reply.TheVariants as reply
use Rattle.disk_commands.specs.Import as import
use Rattle.disk_commands.specs.Export as export
use Rattle.disk_commands.specs.Exercise as exercise

pub blank_never : (bay : ℕ) (name : List ℕ) (count : ℕ) (rate : Rate) → NeverInserts (blank_request bay name count rate)
blank_never bay name count R500 = λ other named e. absurd (cc e)
blank_never bay name count R250 = λ other named e. absurd (cc e)

pub format_never : (bay c h : ℕ) → PartEnds (formats bay c h tt)
format_never bay c h = carries_tells (request.Format bay c h) (λ bay name e. absurd (cc e))

pub format_by : (rate : Rate) (name : List ℕ) (count : ℕ) (old new : World) (course : List Taken) (ended : Status)
    → RunsScript (format_script name count rate) old course new ended → EndsBy (has_refusal course) ended
unfolding format_script formats_disk
format_by rate name count old new course ended runs =
    script_tells false _ old new course ended
    (carries_tells (blank_request 0 name count rate) (blank_never 0 name count rate) _ (λ none.
    acknowledges_tells 0 rate _ (λ none.
    tracks_tell (λ none. false) (formats 0) (λ c h none. format_never 0 c h) count 2 tt _ (λ none.
    carries_tells (request.Eject 0) (λ bay name e. absurd (cc e)) _ (λ none. refl))))) runs

read_ends : (c h r : ℕ) (marks : List Bool) → PartEnds (reads_record c h r marks)
unfolding reads_record
read_ends c h r marks rest is =
    needs_tells (request.Read 0 (key_of c h r) (record_address r)) _ (λ bay name e. absurd (cc e)) (λ answer after. is _)

write_never : (deleted : Bool) (key : Chrn) (address : ℕ) → NeverInserts (write_request deleted key address)
write_never true key address = λ bay name e. absurd (cc e)
write_never false key address = λ bay name e. absurd (cc e)

write_ends : (marks : List Bool) (c h r : ℕ) (none : Unit {0}) → PartEnds (writes_record marks c h r none)
unfolding writes_record
write_ends marks c h r none = carries_tells _ (write_never (get_or marks (r - 1) false) (key_of c h r) (record_address r))

pub copy_by : (from to : List ℕ) (files : Files) (disk : Disk) (old new : World) (course : List Taken) (ended : Status)
    → old.files ≡ Some files → IsImageOf (Some files) from disk
    → RunsScript (copy_script from to) old course new ended → EndsBy (has_refusal course) ended
unfolding copy_script makes_copy copies_disk copies_track
copy_by from to files disk old new course ended told image runs =
    opens_tells from _ files disk old new course ended told image (λ shape.
    carries_tells (blank_request 1 to shape.cylinders shape.rate) (blank_never 1 to shape.cylinders shape.rate) _ (λ none.
    acknowledges_tells 0 shape.rate _ (λ none.
    acknowledges_tells 1 shape.rate _ (λ none.
    tracks_tell (λ none. false) (copies_track (sectors_at shape.rate)) (λ c h none rest is.
    format_never 1 c h _ (λ none.
    each_tells (λ marks. false) (reads_record c h) (read_ends c h) 1 (sectors_at shape.rate) no_marks _ (λ marks.
    each_tells (λ none. false) (writes_record marks c h) (write_ends marks c h) 1 (sectors_at shape.rate) tt rest is)))
    shape.cylinders shape.heads tt _ (λ none.
    carries_tells (request.Eject 1) (λ bay name e. absurd (cc e)) _ (λ none. refl)))))) runs

tells_either : (key : Chrn) (answer : Reply) (refused : Bool) → PartTells (λ none. refused) refused (tells_failure key answer)
unfolding tells_failure says
tells_either key (reply.Refused cause) refused rest is = is tt
tells_either key answer refused rest is = is tt

verified_by : (c h r : ℕ) (tally : Tally) → PartTells (λ (tally : Tally). tally.refused) tally.refused (verifies_record c h r tally)
unfolding verifies_record asks
verified_by c h r tally rest is = (
  λ bay name e. absurd (cc e),
  λ answer after came.
      tells_either (key_of c h r) answer (tally.refused || is_refusal answer) _ (λ none. is (one_more tally (is_refusal answer))),
)

pub verify_by : (name : List ℕ) (files : Files) (disk : Disk) (old new : World) (course : List Taken) (ended : Status)
    → old.files ≡ Some files → IsImageOf (Some files) name disk
    → RunsScript (verify_script name) old course new ended → EndsBy (has_refusal course) ended
unfolding verify_script reads_disk verifies_track
verify_by name files disk old new course ended told image runs =
    opens_tells name _ files disk old new course ended told image (λ shape.
    acknowledges_tells 0 shape.rate _ (λ none.
    tracks_tell (λ (tally : Tally). tally.refused) (verifies_track (sectors_at shape.rate))
    (λ c h tally. each_tells (λ (tally : Tally). tally.refused) (verifies_record c h) (verified_by c h) 1 (sectors_at shape.rate) tally)
    shape.cylinders shape.heads no_reads _ (λ tally. refl))) runs

import_write : (c h r : ℕ) (none : Unit {0}) → PartEnds (import.writes_record c h r none)
unfolding import.writes_record
import_write c h r none = carries_tells (request.Write 0 (key_of c h r) (record_address r)) (λ bay name e. absurd (cc e))

import_fill : (bytes : List ℕ) (place address i : ℕ) (none : Unit {0}) → PartEnds (fills_byte bytes place address i none)
unfolding fills_byte
import_fill bytes place address i none = carries_tells _ (λ bay name e. absurd (cc e))

import_fills : (bytes : List ℕ) (place address : ℕ) (none : Unit {0}) → PartEnds (fills_record bytes place address none)
unfolding fills_record
import_fills bytes place address none = each_tells (λ none. false) (fills_byte bytes place address) (import_fill bytes place address) 0 512 none

import_track : (bytes : List ℕ) (sectors c h : ℕ) (none : Unit {0}) → PartEnds (imports_track bytes sectors c h none)
unfolding imports_track fills_track writes_track
import_track bytes sectors c h none rest is =
    format_never 0 c h _ (λ none.
    each_tells (λ none. false) (λ r. fills_record bytes (sector_place sectors c h r) (record_address r))
    (λ r. import_fills bytes (sector_place sectors c h r) (record_address r)) 1 sectors tt _ (λ none.
    each_tells (λ none. false) (import.writes_record c h) (import_write c h) 1 sectors tt rest is))

import_found : (flat name bytes : List ℕ) (files : Files) (at : Rate) (found : Result (List ℕ × Rate) Stop) (old new : World) (course : List Taken) (ended : Status)
    → old.files ≡ Some files → IsFlatFile (Some files) flat bytes at → IsFlatFound old.files flat found → RunsScript (import_script found name) old course new ended
    → EndsBy (has_refusal course) ended
import_found flat name bytes files at (Ok (row, rate)) old new course ended told is there runs =
    script_tells false _ old new course ended
    (carries_tells (blank_request 0 name 80 rate) (blank_never 0 name 80 rate) _ (λ none.
    acknowledges_tells 0 rate _ (λ none.
    tracks_tell (λ none. false) (imports_track row (sectors_at rate)) (λ c h none. import_track row (sectors_at rate) c h none) 80 2 tt _ (λ none.
    carries_tells (request.Eject 0) (λ bay name e. absurd (cc e)) _ (λ none. refl))))) runs
import_found flat name bytes files at (Err cause) old new course ended told is not runs =
    let only = taken_flat files flat bytes at cause is (subst (λ (f : Option Files). IsNotTaken f flat cause) told not) in
    prints_as (SaysRefused (has_refusal course)) _ _ _ _ ended (last_run _ (stop_status cause) old course new ended runs).1.report
    (λ well. stop_as (SaysRefused (has_refusal course)) cause only)

pub import_by : (flat name bytes : List ℕ) (files : Files) (at : Rate) (old new : World) (course : List Taken) (ended : Status)
    → old.files ≡ Some files → IsFlatFile (Some files) flat bytes at → Imports flat name old course new ended → EndsBy (has_refusal course) ended
import_by flat name bytes files at old new course ended told is imports =
    import_found flat name bytes files at imports.0 old new course ended told is imports.1 imports.2

export_read : (c h r : ℕ) (bytes : List ℕ) → PartEnds (export.reads_record c h r bytes)
unfolding export.reads_record may_starve
export_read c h r bytes rest is =
    needs_tells (request.Read 0 (key_of c h r) (record_address r)) _ (λ bay name e. absurd (cc e)) (λ answer after. is _)

pub export_by : (name flat : List ℕ) (files : Files) (disk : Disk) (old new : World) (course : List Taken) (ended : Status)
    → old.files ≡ Some files → IsImageOf (Some files) name disk
    → RunsScript (export_script name flat) old course new ended → EndsBy (has_refusal course) ended
unfolding reads_track
export_by name flat files disk old new course ended told image runs =
    opens_tells name _ files disk old new course ended told image (λ shape.
    acknowledges_tells 0 shape.rate _ (λ none.
    tracks_tell (λ bytes. false) (reads_track (sectors_at shape.rate))
    (λ c h bytes. each_tells (λ bytes. false) (export.reads_record c h) (export_read c h) 1 (sectors_at shape.rate) bytes) 80 2 [] _
    (λ bytes. refl))) runs

-- ---- The workload.

abbrev type_of : {T : Type 0} → T → Type 0
type_of {T = T} value = T

abbrev Work : Type 0
Work = type_of no_work

-- some request of the workload was refused
abbrev some_work : Work → Bool
some_work work = nat_lt 0 work.refused

counted_by : (answer : Reply) (total : ℕ) (work : Work) → (some_work work || is_refusal answer) ≡ some_work (counted answer total work)
counted_by (reply.Refused cause) total work = or-true (some_work work) ∙ sym (lt-ltb 0 (work.refused + 1) (omega arith))
counted_by answer total work = or-false (some_work work)

-- a request that fills memory at 20000 isn't refused
filled : (byte : ℕ) (answer : Reply) (after : State) → Came (request.Fill 0x20000 512 byte) answer after → is_refusal answer ≡ false
filled byte answer after came = ap is_refusal came.3.0

reads_by : (key : Chrn) (work : Work) → PartTells some_work (some_work work) (reads_work key work)
unfolding reads_work asks
reads_by key work rest is = (
  λ bay name e. absurd (cc e),
  λ answer after came.
      subst (λ (b : Bool). IsFaithful b (rest (counted answer (sum (bytes_from after.station.memory 0x10000 512)) work)))
      (sym (counted_by answer (sum (bytes_from after.station.memory 0x10000 512)) work)) (is _),
)

work_never : (deleted : Bool) (key : Chrn) → NeverInserts (exercise.write_request deleted key)
work_never true key = λ bay name e. absurd (cc e)
work_never false key = λ bay name e. absurd (cc e)

writes_by : (deleted : Bool) (key : Chrn) (byte : ℕ) (work : Work) → PartTells some_work (some_work work) (writes_work deleted key byte work)
unfolding writes_work asks
writes_by deleted key byte work rest is = (
  λ bay name e. absurd (cc e),
  λ answer between came.
      subst (λ (b : Bool). IsFaithful b (Asks (exercise.write_request deleted key) (λ answer after. rest (counted answer 0 work))))
      (sym (or-false (some_work work)) ∙ ap (λ (b : Bool). some_work work || b) (sym (filled byte answer between came))) (
        work_never deleted key,
        λ last after came. subst (λ (b : Bool). IsFaithful b (rest (counted last 0 work))) (sym (counted_by last 0 work)) (is _),
      ),
)

chosen_by : (b : Bool) (before : Bool) (p q : Part Work) → PartTells some_work before p → PartTells some_work before q
    → PartTells some_work before (if b then p else q)
chosen_by true before p q one two = one
chosen_by false before p q one two = two

drawn_by : (kind : ℕ) (key : Chrn) (byte : ℕ) (work : Work) → PartTells some_work (some_work work) (works_drawn kind key byte work)
unfolding works_drawn
drawn_by kind key byte work =
    chosen_by (kind == 0) (some_work work) _ _ (writes_by false key byte work)
    (chosen_by (kind == 3) (some_work work) _ _ (writes_by true key byte work) (reads_by key work))

behind_by : (x : ℕ) (work : Work) → PartTells some_work (some_work work) (works_behind x work)
unfolding works_behind
behind_by x work = drawn_by _ _ _ work

pub exercise_by : (seed count : ℕ) (old new : World) (course : List Taken) (ended : Status)
    → RunsScript (exercise_script seed count) old course new ended → EndsBy (has_refusal course) ended
unfolding works may_starve
exercise_by seed count old new course ended runs =
    script_tells false (exercise_script seed count) old new course ended
    (carries_tells (blank_request 0 (codes "exercise") 4 R500) (blank_never 0 (codes "exercise") 4 R500) _ (λ none.
    acknowledges_tells 0 R500 _ (λ none.
    tracks_tell (λ none. false) (formats 0) (λ c h none. format_never 0 c h) 4 2 tt _ (λ none.
    each_tells some_work (λ i. works_behind (number_after (5 * i) seed)) (λ i work. behind_by (number_after (5 * i) seed) work) 0 count no_work _
    (λ work. refl))))) runs

-- ---- two writes to one sector ID in alike bays, with one mark: they are answered alike, and leave alike bays

pub ok_reply : (called : Result (Unit {0}) Code) → IsOk called → reply_of called ≡ reply.Done
ok_reply (Ok u) ok = refl
ok_reply (Err k) ok = absurd (true≢false (sym ok))

-- a track that was written over at a field keeps what it shows elsewhere
over_keeps : (written : Written) (bay : ℕ) (called : Result (Unit {0}) Code) (old new : StationState) (over : IsOver written bay called old new) → length written.content ≡ content_size written.key.n → IsRegularIn (bay_of old bay).medium → IsUndisturbed bay old.counters new.counters → GoesOn old.counters new.counters → KeepsShown (track_of over.disk written.key.c written.key.h) written.key.c written.key.h over.p written.key written.deleted (track_of over.alone.after written.key.c written.key.h)
over_keeps written bay called old new over size regular calm goes =
    let c = written.key.c in
    let h = written.key.h in
    let disk = over.disk in
    let cut = over.alone.cut in
    let is = met_track (bay_of old bay).medium (bay_of old bay).rate c h disk over.meets in
    let address : IsAddressAt (track_of disk c h) over.p written.key = subst (λ (t : List ℕ). IsAddressAt t over.p written.key) is over.address in
    let entry = over.alone.entry over.ok (inl (few_faults bay old.counters new.counters calm goes 2 (omega arith))) in
    let now : IsWrittenOver (track_of disk c h) c h over.p written.key written.deleted (track_of over.alone.after c h) = record { content = written.content; words = over.alone.words; regular = regular disk over.meets.is_in c h over.meets.has; field = record { address = address; size = size }; most = over.alone.cuttable.most; is = cut.has; still = over.alone.regular c h (has_after disk over.alone.after c h _ cut c h over.meets.has); place = entry.content.0; found = entry.content.1 } in
    written_keeps (track_of disk c h) c h over.p written.key written.deleted (track_of over.alone.after c h) now

module _ (key : Chrn) (deleted : Bool) (content other : List ℕ) (bay : ℕ) (one two one_new two_new : StationState) (same : AlikeBays (bay_of one bay) (bay_of two bay)) (regular : IsRegularIn (bay_of one bay).medium) (calm : IsUndisturbed bay one.counters one_new.counters) (goes : GoesOn one.counters one_new.counters) (calm_too : IsUndisturbed bay two.counters two_new.counters) (goes_too : GoesOn two.counters two_new.counters) (size : length content ≡ content_size key.n) (size_too : length other ≡ content_size key.n) (called called_too : Result (Unit {0}) Code) where
  abbrev first : Written
  first = written_under key deleted content

  abbrev second : Written
  second = written_under key deleted other

  met_same : ShowSame (met (bay_of one bay) key.c key.h) (met (bay_of two bay) key.c key.h)
  met_same = met_bays (bay_of one bay) (bay_of two bay) key.c key.h same

  regular_too : IsRegularIn (bay_of two bay).medium
  regular_too = regular_in_too (bay_of one bay).medium (bay_of two bay).medium same.media regular

  -- alike answers and media
  abbrev Agrees : Type 0
  Agrees = (reply_of called_too ≡ reply_of called) × AlikeMedia (bay_of one_new bay).medium (bay_of two_new bay).medium

  -- both writes wrote over one field
  over_over : IsOver first bay called one one_new → IsOver second bay called_too two two_new → Agrees
  over_over a b =
      let back : IsAddressAt (met (bay_of one bay) key.c key.h) b.p key = (met_same.addresses b.p key).1 b.address in
      let place : b.p ≡ a.p = (regular_met (bay_of one bay).medium (bay_of one bay).rate key.c key.h regular).keys.distinct b.p a.p key back a.address in
      let shown = over_keeps first bay called one one_new a size regular calm goes in
      let shown_there = over_keeps second bay called_too two two_new b size_too regular_too calm_too goes_too in
      let shown_too : KeepsShown (track_of b.disk key.c key.h) key.c key.h a.p key deleted (track_of b.alone.after key.c key.h) = subst (λ (q : ℕ). KeepsShown (track_of b.disk key.c key.h) key.c key.h q key deleted (track_of b.alone.after key.c key.h)) place shown_there in
      let disks = in_both (bay_of one bay).medium (bay_of two bay).medium a.disk b.disk a.meets.is_in b.meets.is_in same.media in
      let here : ShowSame (track_of a.alone.after key.c key.h) (track_of b.alone.after key.c key.h) = over_both (track_of a.disk key.c key.h) (track_of b.disk key.c key.h) (track_of a.alone.after key.c key.h) (track_of b.alone.after key.c key.h) a.p key deleted (disks.tracks key.c key.h a.meets.has) shown shown_too in
      let after = alike_after a.disk b.disk a.alone.after b.alone.after key.c key.h disks (with_track_keeps a.disk a.alone.after key.c key.h _ a.alone.cut) (with_track_keeps b.disk b.alone.after key.c key.h _ b.alone.cut) (λ has. here) in
      (ok_reply called_too b.ok ∙ sym (ok_reply called a.ok), both_in (bay_of one_new bay).medium (bay_of two_new bay).medium a.alone.after b.alone.after a.alone.medium b.alone.medium after)

  kept_kept : IsKept first bay called one one_new → IsKept second bay called_too two two_new → Agrees
  kept_kept a b =
      let code : b.c ≡ a.c = one_refusal (met (bay_of one bay) key.c key.h) key a.c b.c a.cause (refuses_on (met (bay_of one bay) key.c key.h) (met (bay_of two bay) key.c key.h) key b.c met_same b.cause) in (
        ap reply_of b.refused ∙ ap (λ (k : Code). reply_of (Err k)) code ∙ sym (ap reply_of a.refused),
        both_stay (bay_of one bay).medium (bay_of two bay).medium (bay_of one_new bay).medium (bay_of two_new bay).medium a.medium b.medium same.media,
      )

  ends_agree : Takes first bay called one one_new → Takes second bay called_too two two_new → Agrees
  ends_agree (Over a) (Over b) = over_over a b
  ends_agree (Over a) (Kept b) = absurd (b.none a.p ((met_same.addresses a.p key).0 a.address))
  ends_agree (Kept a) (Over b) = absurd (a.none b.p ((met_same.addresses b.p key).1 b.address))
  ends_agree (Kept a) (Kept b) = kept_kept a b

  pub writes_agree : WritesDrive first bay one called one_new → WritesDrive second bay two called_too two_new → Agrees
  writes_agree drive drive_too =
      ends_agree (write_takes first bay one one_new regular calm goes called drive)
      (write_takes second bay two two_new regular_too calm_too goes_too called_too drive_too)
