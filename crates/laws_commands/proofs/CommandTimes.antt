-- How long whole commands last at most, and how many port accesses they make.
use Rattle.std.proofs.Common.{arith, ◌≡◌, ◌∙◌, ℕ, ◌+◌, ◌-◌, ◌*◌, ◌≤◌, Bool, true, false, get_or, List, [], ◌∷◌, refl, ap, subst, Option, Some, unwrap_or, Result, Ok, Err}
use Rattle.laws_commands.proofs.Common.{option_map, Two, in_bay, Files, sectors_at, words_at, Rate, Status, Chrn, Disk, key_of, Request, Reply, turn_of, StationState, Bay, bay_of, fresh_bay, State, Step, IsImageOf, Stop, is_refusal, stop_lines, stop_status, Taken, World, blank_request, Shape, shape_of, Script, RunsScript, carries, shape_at, no_tracks, acknowledges, formats, record_address, track_address, one_more, write_request, IsFlatFile, RequestCosts, ready_cost, format_cost, verify_cost, copy_cost, import_cost, export_cost}
use Rattle.commands.specs.Parts.{asks, says, needs, may_starve, opens}
use Rattle.disk_commands.specs.Format.{formats_disk, format_script}
use Rattle.disk_commands.specs.Verify.{tells_failure, verifies_record, verifies_track, verify_script, reads_disk}
use Rattle.disk_commands.specs.Copy.{reads_record, writes_record, copies_track, copies_disk, makes_copy, copy_script}
use Rattle.laws_commands.proofs.FlatEnds.{one_flat, one_rate}
use Rattle.laws_commands.proofs.RequestTimes.{AreCharged, IsOnTracks, IsReady, acknowledges_cost, blank_fair, track_ready}
use Rattle.laws_commands.proofs.Turns.{HasTurns, bay_set, step_turns}
use Rattle.laws_commands.proofs.Steps.{done_does}
use Rattle.laws_commands.proofs.Verified.{one_image}
use Rattle.laws_commands.proofs.VerifyRun.{Tally}
use Rattle.laws_commands.proofs.CommandEnds.{IsSum, Costs, CostsTold, PartCosts, Leads, asks_cost, carries_cost, each_cost, ends_cost, idle_cost, more_cost, needs_cost, says_cost, starve_cost, stores_cost, tracks_cost, unless_run}
use Rattle.flop_base.specs.declared.answers.Status.TheVariants as status
use Rattle.floppy_jobs.specs.declared.request.Request.TheVariants as request
use Rattle.sector_model.specs.declared.reply.Reply.TheVariants as reply
use Rattle.disk_commands.specs.Import as flat
use Rattle.disk_commands.specs.Export as out

-- the disk of a told file is in a bay after an insert that wasn't refused
pub record IsInserted (bay : ℕ) (files : Files) (disk : Disk) (new : State) (after : Option Files) : Type 0 where
  pub medium : (bay_of new.station bay).medium ≡ Some disk
  pub turn : turn_of (bay_of new.station bay).medium ≡ disk.words_per_track
  pub told : after ≡ Some files

pub inserted : (bay : ℕ) (name : List ℕ) (files : Files) (disk : Disk) (old new : State) (after : Option Files) (answer : Reply)
    → IsImageOf (Some files) name disk → Step (request.Insert bay name) old (Some files) answer new after → is_refusal answer ≡ false
    → IsInserted bay files disk new after
inserted bay name files disk old new after answer image step fine =
    let does = done_does old new (Some files) after (request.Insert bay name) answer step fine in
    let same : does.2.0 ≡ disk = one_image files name does.2.0 disk does.2.1 image in
    let medium : (bay_of new.station bay).medium ≡ Some disk =
    ap (λ (s : StationState). (bay_of s bay).medium) does.2.2.exchanged.becomes
    ∙ ap (λ (b : Bay). b.medium) (bay_set old.station bay (fresh_bay (Some does.2.0))) ∙ ap (λ (d : Disk). Some d) same in
    record { medium = medium; turn = ap turn_of medium; told = does.1 }

module _ (one : Request → StationState → ℕ) (sum : StationState → List Taken → ℕ) (is : IsSum one sum) (limit : Two ℕ) (rate : Rate)
    (costs : ℕ → RequestCosts) (charged : AreCharged one limit rate costs) where
  abbrev pub Turned : StationState → Type 0
  Turned station = HasTurns limit 3 station

  -- ---- Parts.

  pub on_tracks : (bay : ℕ) (asked : Request) → IsOnTracks asked → Leads (IsReady limit bay rate) asked (IsReady limit bay rate)
  on_tracks bay asked on old new told after answer ready step fine = track_ready limit bay rate asked on old new told after answer ready step

  pub made_ready : (bay : ℕ) → PartCosts sum Turned (IsReady limit bay rate) (ready_cost (costs bay) rate) (acknowledges bay rate)
  made_ready bay = acknowledges_cost one sum is limit bay rate (costs bay) (charged.ack bay) (charged.change bay)

  pub made_blank : (bay : ℕ) (name : List ℕ) (cylinders : ℕ) → words_at rate ≤ in_bay limit bay
      → PartCosts sum Turned Turned 0 (carries (blank_request bay name cylinders rate))
  made_blank bay name cylinders short =
      carries_cost one sum is Turned Turned 0 (blank_request bay name cylinders rate) (λ s has. charged.blank bay name cylinders rate s)
      (λ old new told after answer has step fine.
      step_turns limit 3 old new told after (blank_request bay name cylinders rate) answer (blank_fair limit bay name cylinders rate new short) step has)

  pub taken_out : (P : StationState → Type 0) (bay : ℕ) → PartCosts sum P (λ s. Unit {0}) 0 (carries (request.Eject bay))
  taken_out P bay = carries_cost one sum is P (λ s. Unit {0}) 0 (request.Eject bay) (λ s holds. charged.eject bay s) (λ old new told after answer holds step fine. tt)

  pub formatted : (bay c h : ℕ) (none : Unit {0}) → PartCosts sum (IsReady limit bay rate) (IsReady limit bay rate) (costs bay).format (carries (request.Format bay c h))
  formatted bay c h none =
      carries_cost one sum is (IsReady limit bay rate) (IsReady limit bay rate) (costs bay).format (request.Format bay c h)
      (λ s ready. charged.format bay c h s ready) (on_tracks bay (request.Format bay c h) tt)

  -- the disk of a told file is put in
  pub opened_told : (name : List ℕ) (files : Files) (disk : Disk) (n : ℕ) (rest : Shape → Script) → IsImageOf (Some files) name disk
      → disk.words_per_track ≤ limit.first → CostsTold sum files Turned n (rest (shape_of disk)) → CostsTold sum files Turned n (opens name rest)
  unfolding opens needs
  opened_told name files disk n rest image short later old new [] ended told has runs = idle_cost one sum is old.state.station [] n refl
  opened_told name files disk n rest image short later old new (taken ∷ more) ended told has runs =
      let asked : Request = request.Insert 0 name in
      let step = subst (λ (f : Option Files). Step asked old.state f taken.answer taken.after runs.1) told runs.2 in
      let first = is.more old.state.station taken more in
      let same = ap (λ (q : Request). one q old.state.station) runs.0 in
      let free = charged.insert 0 name old.state.station in
      let mid : World = record old { state = taken.after; files = runs.1 } in
      let left = unless_run one sum is n asked taken.answer (rest (shape_at taken.after 0)) mid new more ended (λ fine run.
      (let put = inserted 0 name files disk old.state taken.after runs.1 taken.answer image step fine in
      let turn = put.turn in
      let shaped : shape_at taken.after 0 ≡ shape_of disk = ap (λ (m : Option Disk). unwrap_or (option_map shape_of m) no_tracks) put.medium in
      later mid new more ended put.told
      (step_turns limit 3 old.state taken.after (Some files) runs.1 asked taken.answer (omega (arith, turn, short)) step has)
      (subst (λ (s : Shape). RunsScript (rest s) mid more new ended) shaped run))) runs.3 in
      omega (arith, first, same, free, left)

  pub opened_cost : (name : List ℕ) (files : Files) (disk : Disk) (n : ℕ) (rest : Shape → Script) → IsImageOf (Some files) name disk
      → disk.words_per_track ≤ limit.first → Costs sum Turned n (rest (shape_of disk)) → CostsTold sum files Turned n (opens name rest)
  opened_cost name files disk n rest image short later =
      opened_told name files disk n rest image short (λ old new course ended told has runs. later old new course ended has runs)

  -- ---- A format.

  pub format_most : (name : List ℕ) (cylinders : ℕ) → words_at rate ≤ limit.first
      → Costs sum Turned (format_cost (costs 0) cylinders rate) (format_script name cylinders rate)
  unfolding format_script formats_disk
  format_most name cylinders short =
      let ready = ready_cost (costs 0) rate in
      let tracks = cylinders * (2 * (costs 0).format) in
      more_cost one sum is Turned Turned (0 + (ready + (tracks + (0 + 0)))) (ready + tracks) _ (omega arith) (λ s has. has)
      (made_blank 0 name cylinders short (ready + (tracks + (0 + 0))) _ (λ none.
      made_ready 0 (tracks + (0 + 0)) _ (λ none.
      tracks_cost one sum is (IsReady limit 0 rate) (costs 0).format (formats 0) (formatted 0) cylinders 2 tt (0 + 0) _ (λ none.
      taken_out (IsReady limit 0 rate) 0 0 _ (λ none. ends_cost one sum is (λ s. Unit {0}) 0 _ _)))))

  -- ---- A verify.

  tells_cost : (P : StationState → Type 0) (n : ℕ) (key : Chrn) (answer : Reply) (rest : Unit {0} → Script) → Costs sum P n (rest tt)
      → Costs sum P n (tells_failure key answer rest)
  unfolding tells_failure says
  tells_cost P n key (reply.Refused cause) rest later = says_cost one sum is P n _ (rest tt) later
  tells_cost P n key _ rest later = later

  verified : (c h r : ℕ) (tally : Tally) → PartCosts sum (IsReady limit 0 rate) (IsReady limit 0 rate) (costs 0).read (verifies_record c h r tally)
  unfolding verifies_record asks
  verified c h r tally n rest later =
      asks_cost one sum is (IsReady limit 0 rate) (λ answer. IsReady limit 0 rate) (costs 0).read n (request.Read 0 (key_of c h r) track_address) _
      (λ s ready. charged.read 0 (key_of c h r) track_address s ready.turns)
      (λ old new told after answer ready step. track_ready limit 0 rate (request.Read 0 (key_of c h r) track_address) tt old new told after answer ready step)
      (λ answer after. tells_cost (IsReady limit 0 rate) n (key_of c h r) answer _ (later (one_more tally (is_refusal answer))))

  verified_track : (c h : ℕ) (tally : Tally)
      → PartCosts sum (IsReady limit 0 rate) (IsReady limit 0 rate) (sectors_at rate * (costs 0).read) (verifies_track (sectors_at rate) c h tally)
  unfolding verifies_track
  verified_track c h tally = each_cost one sum is (IsReady limit 0 rate) (costs 0).read (verifies_record c h) (verified c h) 1 (sectors_at rate) tally

  -- ---- A copy.

  read_first : (c h r : ℕ) (marks : List Bool) → PartCosts sum (IsReady limit 1 rate) (IsReady limit 1 rate) (costs 0).read (reads_record c h r marks)
  unfolding reads_record
  read_first c h r marks n rest later =
      needs_cost one sum is (IsReady limit 1 rate) (IsReady limit 1 rate) (costs 0).read n (request.Read 0 (key_of c h r) (record_address r)) _
      (λ s ready. charged.read 0 (key_of c h r) (record_address r) s ready.turns) (on_tracks 1 (request.Read 0 (key_of c h r) (record_address r)) tt)
      (λ answer after. later _)

  write_second : (marks : List Bool) (c h r : ℕ) (none : Unit {0})
      → PartCosts sum (IsReady limit 1 rate) (IsReady limit 1 rate) (costs 1).write (writes_record marks c h r none)
  unfolding writes_record
  write_second marks c h r none = go (get_or marks (r - 1) false)
    where
      go : (deleted : Bool) → PartCosts sum (IsReady limit 1 rate) (IsReady limit 1 rate) (costs 1).write (carries (write_request deleted (key_of c h r) (record_address r)))
      go true = carries_cost one sum is (IsReady limit 1 rate) (IsReady limit 1 rate) (costs 1).write (request.WriteDeleted 1 (key_of c h r) (record_address r))
          (λ s ready. charged.write_deleted 1 (key_of c h r) (record_address r) s ready.turns) (on_tracks 1 (request.WriteDeleted 1 (key_of c h r) (record_address r)) tt)
      go false = carries_cost one sum is (IsReady limit 1 rate) (IsReady limit 1 rate) (costs 1).write (request.Write 1 (key_of c h r) (record_address r))
          (λ s ready. charged.write 1 (key_of c h r) (record_address r) s ready.turns) (on_tracks 1 (request.Write 1 (key_of c h r) (record_address r)) tt)

  copied_track : (c h : ℕ) (none : Unit {0})
      → PartCosts sum (IsReady limit 1 rate) (IsReady limit 1 rate) ((costs 1).format + (sectors_at rate * (costs 0).read + sectors_at rate * (costs 1).write))
      (copies_track (sectors_at rate) c h none)
  unfolding copies_track
  copied_track c h none n rest later =
      let reads = sectors_at rate * (costs 0).read in
      let writes = sectors_at rate * (costs 1).write in
      more_cost one sum is (IsReady limit 1 rate) (IsReady limit 1 rate) ((costs 1).format + (reads + (writes + n))) ((costs 1).format + (reads + writes) + n) _
      (omega arith) (λ s ready. ready)
      (formatted 1 c h tt (reads + (writes + n)) _ (λ none.
      each_cost one sum is (IsReady limit 1 rate) (costs 0).read (reads_record c h) (read_first c h) 1 (sectors_at rate) _ (writes + n) _ (λ marks.
      each_cost one sum is (IsReady limit 1 rate) (costs 1).write (writes_record marks c h) (write_second marks c h) 1 (sectors_at rate) tt n rest later)))

  -- a bay is made ready, and its rate is of no more interest
  pub made_turned : (bay : ℕ) → PartCosts sum Turned Turned (ready_cost (costs bay) rate) (acknowledges bay rate)
  made_turned bay n rest later =
      made_ready bay n rest (λ none. more_cost one sum is Turned (IsReady limit bay rate) n n (rest none) (omega arith) (λ s ready. ready.turns) (later none))

  copied : (to : List ℕ) (cylinders heads words : ℕ) (rest : Unit {0} → Script) → words_at rate ≤ limit.second → Costs sum (λ s. Unit {0}) 0 (rest tt)
      → Costs sum Turned (ready_cost (costs 0) rate + (ready_cost (costs 1) rate
      + cylinders * (heads * ((costs 1).format + (sectors_at rate * (costs 0).read + sectors_at rate * (costs 1).write)))))
      (copies_disk to (record { cylinders = cylinders; heads = heads; words = words; rate = rate }) rest)
  unfolding copies_disk
  copied to cylinders heads words rest short later =
      let one_ready = ready_cost (costs 0) rate in
      let two_ready = ready_cost (costs 1) rate in
      let track = (costs 1).format + (sectors_at rate * (costs 0).read + sectors_at rate * (costs 1).write) in
      let tracks = cylinders * (heads * track) in
      more_cost one sum is Turned Turned (0 + (one_ready + (two_ready + (tracks + (0 + 0))))) (one_ready + (two_ready + tracks)) _ (omega arith) (λ s has. has)
      (made_blank 1 to cylinders short (one_ready + (two_ready + (tracks + (0 + 0)))) _ (λ none.
      made_turned 0 (two_ready + (tracks + (0 + 0))) _ (λ none.
      made_ready 1 (tracks + (0 + 0)) _ (λ none.
      tracks_cost one sum is (IsReady limit 1 rate) track (copies_track (sectors_at rate)) copied_track cylinders heads tt (0 + 0) _ (λ none.
      taken_out (IsReady limit 1 rate) 1 0 rest (λ none. later))))))

  -- ---- An import.

  byte_filled : (bytes : List ℕ) (place address i : ℕ) (none : Unit {0}) → PartCosts sum (IsReady limit 0 rate) (IsReady limit 0 rate) 0 (flat.fills_byte bytes place address i none)
  unfolding flat.fills_byte
  byte_filled bytes place address i none =
      carries_cost one sum is (IsReady limit 0 rate) (IsReady limit 0 rate) 0 (request.Fill (address + i) 1 _) (λ s ready. charged.fill (address + i) 1 _ s)
      (on_tracks 0 (request.Fill (address + i) 1 _) tt)

  record_filled : (bytes : List ℕ) (place address : ℕ) (none : Unit {0})
      → PartCosts sum (IsReady limit 0 rate) (IsReady limit 0 rate) (512 * 0) (flat.fills_record bytes place address none)
  unfolding flat.fills_record
  record_filled bytes place address none =
      each_cost one sum is (IsReady limit 0 rate) 0 (flat.fills_byte bytes place address) (byte_filled bytes place address) 0 512 none

  track_filled : (bytes : List ℕ) (c h : ℕ)
      → PartCosts sum (IsReady limit 0 rate) (IsReady limit 0 rate) (sectors_at rate * (512 * 0)) (flat.fills_track bytes (sectors_at rate) c h)
  unfolding flat.fills_track
  track_filled bytes c h = search (each_cost, record_filled)

  record_written : (c h r : ℕ) (none : Unit {0}) → PartCosts sum (IsReady limit 0 rate) (IsReady limit 0 rate) (costs 0).write (flat.writes_record c h r none)
  unfolding flat.writes_record
  record_written c h r none =
      carries_cost one sum is (IsReady limit 0 rate) (IsReady limit 0 rate) (costs 0).write (request.Write 0 (key_of c h r) (record_address r))
      (λ s ready. charged.write 0 (key_of c h r) (record_address r) s ready.turns) (on_tracks 0 (request.Write 0 (key_of c h r) (record_address r)) tt)

  imported_track : (bytes : List ℕ) (c h : ℕ) (none : Unit {0})
      → PartCosts sum (IsReady limit 0 rate) (IsReady limit 0 rate) ((costs 0).format + sectors_at rate * (costs 0).write)
      (flat.imports_track bytes (sectors_at rate) c h none)
  unfolding flat.imports_track flat.writes_track
  imported_track bytes c h none n rest later =
      let fills = sectors_at rate * (512 * 0) in
      let writes = sectors_at rate * (costs 0).write in
      more_cost one sum is (IsReady limit 0 rate) (IsReady limit 0 rate) ((costs 0).format + (fills + (writes + n))) ((costs 0).format + writes + n) _
      (omega arith) (λ s ready. ready)
      (formatted 0 c h tt (fills + (writes + n)) _ (λ none.
      track_filled bytes c h (writes + n) _ (λ none.
      each_cost one sum is (IsReady limit 0 rate) (costs 0).write (flat.writes_record c h) (record_written c h) 1 (sectors_at rate) tt n rest later)))

  import_most : (bytes name : List ℕ) (rest : Unit {0} → Script) → words_at rate ≤ limit.first → Costs sum (λ s. Unit {0}) 0 (rest tt)
      → Costs sum Turned (import_cost (costs 0) rate) (flat.imports_disk bytes name rate rest)
  import_most bytes name rest short later =
      let ready = ready_cost (costs 0) rate in
      let track = (costs 0).format + sectors_at rate * (costs 0).write in
      let tracks = 80 * (2 * track) in
      more_cost one sum is Turned Turned (0 + (ready + (tracks + (0 + 0)))) (ready + tracks) _ (omega arith) (λ s has. has)
      (made_blank 0 name 80 short (ready + (tracks + (0 + 0))) _ (λ none.
      made_ready 0 (tracks + (0 + 0)) _ (λ none.
      tracks_cost one sum is (IsReady limit 0 rate) track (flat.imports_track bytes (sectors_at rate)) (imported_track bytes) 80 2 tt (0 + 0) _ (λ none.
      taken_out (IsReady limit 0 rate) 0 0 rest (λ none. later)))))

  -- ---- An export.

  record_read : (c h r : ℕ) (bytes : List ℕ) → PartCosts sum (IsReady limit 0 rate) (IsReady limit 0 rate) (costs 0).read (out.reads_record c h r bytes)
  unfolding out.reads_record may_starve
  record_read c h r bytes n rest later =
      needs_cost one sum is (IsReady limit 0 rate) (IsReady limit 0 rate) (costs 0).read n (request.Read 0 (key_of c h r) (record_address r)) _
      (λ s ready. charged.read 0 (key_of c h r) (record_address r) s ready.turns) (on_tracks 0 (request.Read 0 (key_of c h r) (record_address r)) tt)
      (λ answer after. starve_cost one sum is (IsReady limit 0 rate) n _ (later _))

  track_read : (c h : ℕ) (bytes : List ℕ)
      → PartCosts sum (IsReady limit 0 rate) (IsReady limit 0 rate) (sectors_at rate * (costs 0).read) (out.reads_track (sectors_at rate) c h bytes)
  unfolding out.reads_track
  track_read c h bytes = each_cost one sum is (IsReady limit 0 rate) (costs 0).read (out.reads_record c h) (record_read c h) 1 (sectors_at rate) bytes

  exported : (rest : List ℕ → Script) → ((bytes : List ℕ) → Costs sum (IsReady limit 0 rate) 0 (rest bytes))
      → Costs sum Turned (export_cost (costs 0) rate) (out.reads_disk rate [] rest)
  exported rest later =
      let ready = ready_cost (costs 0) rate in
      let track = sectors_at rate * (costs 0).read in
      more_cost one sum is Turned Turned (ready + (80 * (2 * track) + 0)) (ready + 80 * (2 * track)) _ (omega arith) (λ s has. has)
      (made_ready 0 (80 * (2 * track) + 0) _ (λ none.
      tracks_cost one sum is (IsReady limit 0 rate) track (out.reads_track (sectors_at rate)) track_read 80 2 [] 0 rest later))

-- ---- A flat file that is told.

module _ (one : Request → StationState → ℕ) (sum : StationState → List Taken → ℕ) (is : IsSum one sum) (limit : Two ℕ) (rate : Rate)
    (costs : ℕ → RequestCosts) (charged : AreCharged one limit rate costs) (short : words_at rate ≤ limit.first)
    (name : List ℕ) (old new : World) (course : List Taken) (ended : Status) (has : HasTurns limit 3 old.state.station) where
  found_most : (found : Result (List ℕ × Rate) Stop) → ((bytes : List ℕ) (at : Rate) → found ≡ Ok (bytes, at) → at ≡ rate)
      → RunsScript (flat.import_script found name) old course new ended → sum old.state.station course ≤ import_cost (costs 0) rate
  found_most (Err cause) same runs =
      ends_cost one sum is (HasTurns limit 3) (import_cost (costs 0) rate) (stop_lines cause) (stop_status cause) old new course ended has runs
  found_most (Ok (bytes, at)) same runs =
      import_most one sum is limit rate costs charged bytes name _ short (ends_cost one sum is (λ s. Unit {0}) 0 (flat.import_text (flat.sectors_of rate) ∷ []) status.AllOk)
      old new course ended has
      (subst (λ (r : Rate). RunsScript (flat.import_script (Ok (bytes, r)) name) old course new ended) (same bytes at refl) runs)

  pub imports_most : (file bytes : List ℕ) (files : Files) → IsFlatFile (Some files) file bytes rate → old.files ≡ Some files
      → flat.Imports file name old course new ended → sum old.state.station course ≤ import_cost (costs 0) rate
  imports_most file bytes files is_flat told imports = grind (arith, found_most, one_rate, one_flat)

-- ---- Commands on the disk of a told file.

module _ (one : Request → StationState → ℕ) (sum : StationState → List Taken → ℕ) (is : IsSum one sum) (limit : Two ℕ) (disk : Disk)
    (costs : ℕ → RequestCosts) (charged : AreCharged one limit disk.rate costs) (short : disk.words_per_track ≤ limit.first)
    (name : List ℕ) (files : Files) (image : IsImageOf (Some files) name disk) (old new : World) (course : List Taken) (ended : Status)
    (told : old.files ≡ Some files) (has : HasTurns limit 3 old.state.station) where
  pub verify_most : RunsScript (verify_script name) old course new ended → sum old.state.station course ≤ verify_cost (costs 0) disk
  unfolding verify_script reads_disk
  verify_most runs =
      let ready = ready_cost (costs 0) disk.rate in
      let track = sectors_at disk.rate * (costs 0).read in
      let tracks = disk.cylinders * (disk.heads * track) in
      opened_cost one sum is limit disk.rate costs charged name files disk (ready + tracks) _ image short
      (more_cost one sum is (HasTurns limit 3) (HasTurns limit 3) (ready + (tracks + 0)) (ready + tracks) _ (omega arith) (λ s has. has)
      (made_ready one sum is limit disk.rate costs charged 0 (tracks + 0) _ (λ none.
      tracks_cost one sum is (IsReady limit 0 disk.rate) track (verifies_track (sectors_at disk.rate)) (verified_track one sum is limit disk.rate costs charged)
      disk.cylinders disk.heads _ 0 _ (λ tally. ends_cost one sum is (IsReady limit 0 disk.rate) 0 _ _)))) old new course ended told has runs

  pub copy_most : (to : List ℕ) → words_at disk.rate ≤ limit.second → RunsScript (copy_script name to) old course new ended
      → sum old.state.station course ≤ copy_cost (costs 0) (costs 1) disk
  unfolding copy_script makes_copy
  copy_most to long runs =
      opened_cost one sum is limit disk.rate costs charged name files disk (copy_cost (costs 0) (costs 1) disk) _ image short
      (copied one sum is limit disk.rate costs charged to disk.cylinders disk.heads disk.words_per_track _ long (ends_cost one sum is (λ s. Unit {0}) 0 _ _)) old new course ended told has runs

  pub export_most : (flat : List ℕ) → RunsScript (out.export_script name flat) old course new ended
      → sum old.state.station course ≤ export_cost (costs 0) disk.rate
  export_most flat runs =
      opened_cost one sum is limit disk.rate costs charged name files disk (export_cost (costs 0) disk.rate) _ image short
      (exported one sum is limit disk.rate costs charged _ (λ bytes. stores_cost one sum is (IsReady limit 0 disk.rate) 0 flat bytes _ _)) old new course ended told has runs
