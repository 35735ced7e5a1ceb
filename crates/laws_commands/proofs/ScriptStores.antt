-- Which stores the scripts of the commands make, however the scripts end.
use Rattle.std.proofs.Common.{◌≡◌, ◌∙◌, ◌+◌, ◌-◌, ℕ, zero, suc, Bool, true, false, List, [], ◌∷◌, ◌++◌, get_or, Option, Some, Result, Ok, Err, refl, sym, ap, subst, inl, inr}
use Rattle.std.specs.Prelude.{◌==◌, if◌then◌else◌, slice_index}
use Rattle.laws_commands.proofs.Common.{Two, in_bay, with_bay, grown, Files, Store, stored, sectors_at, Rate, R500, R250, Status, Chrn, Disk, blank_disk, file_of, key_of, Request, Reply, Stop, State, Step, refusal_of, is_refusal, stop_lines, stop_status, Taken, World, blank_request, Shape, Script, Ends, Stores, RunsScript, StoresLast, IsStored, NotStored, Part, asks, needs, shape_at, by_track, formats, with_report, record_address, AskRun, Answered, Stopped, NeedRun, Done, Refused, Halted, ask_run, need_run, last_run, last_stored, write_request, Imports, store_of, all_stored, StoresFirst, StoresDiskAlone, StoresFileAlone}
use Rattle.commands.specs.Parts.{says, carries, may_starve, opens, sets_rate, acknowledges, through, each}
use Rattle.disk_commands.specs.Format.{formats_disk, format_script}
use Rattle.disk_commands.specs.Verify.{tells_failure, verifies_record, verifies_track, verify_script, reads_disk}
use Rattle.disk_commands.specs.Copy.{reads_record, writes_record, copies_track, copy_script, makes_copy, copies_disk}
use Rattle.laws_commands.proofs.Steps.{either, done_does}
use Rattle.laws_commands.proofs.Storing.{nothing_first, all_first, step_stores}
use Rattle.laws_commands.proofs.VerifyRun.{Tally}
use Rattle.floppy_jobs.specs.declared.request.Request.TheVariants as request
use Rattle.sector_model.specs.declared.reply.Reply.TheVariants as reply
use Rattle.disk_commands.specs.Import as imports
use Rattle.disk_commands.specs.Export as exports
use Rattle.disk_commands.specs.Exercise as work

abbrev Names : Type 0
Names = Two (Option (List ℕ))

abbrev type_of : {T : Type 0} → T → Type 0
type_of {T = T} value = T

-- what an exercise counts
abbrev Worked : Type 0
Worked = type_of work.no_work

-- a request that stores nothing and leaves the names of the media as they are
abbrev IsCalm : Request → Type 0
IsCalm asked = (old new : State) (told after : Option Files) (answer : Reply) → Step asked old told answer new after → (after ≡ told) × (new.names ≡ old.names)

ack_calm : (bay : ℕ) → IsCalm (request.Ack bay)
ack_calm bay old new told after answer step = (step.0.files, step.0.names)

rate_calm : (bay : ℕ) (rate : Rate) → IsCalm (request.SetRate bay rate)
rate_calm bay rate old new told after answer step = (step.0.files, step.0.names)

read_calm : (bay : ℕ) (key : Chrn) (address : ℕ) → IsCalm (request.Read bay key address)
read_calm bay key address old new told after answer step = (step.0.files, step.0.names)

format_calm : (bay c h : ℕ) → IsCalm (request.Format bay c h)
format_calm bay c h old new told after answer step = (step.0.files, step.0.names)

write_calm : (bay : ℕ) (key : Chrn) (address : ℕ) → IsCalm (request.Write bay key address)
write_calm bay key address old new told after answer step = (step.0.files, step.0.names)

deleted_calm : (bay : ℕ) (key : Chrn) (address : ℕ) → IsCalm (request.WriteDeleted bay key address)
deleted_calm bay key address old new told after answer step = (step.0.files, step.0.names)

fill_calm : (address count byte : ℕ) → IsCalm (request.Fill address count byte)
fill_calm address count byte old new told after answer step =
    either (refusal_of old (request.Fill address count byte)) step (λ does. (does.1, does.2.names)) (λ cause refused. (refused.files, refused.same.names))

-- ---- names

-- the medium in this bay has this name
abbrev Named : ℕ → List ℕ → Names → Type 0
Named bay name names = in_bay names bay ≡ Some name

-- a condition that any names meet
abbrev Any : Names → Type 0
Any names = Unit {0}

own_name : (names : Names) (bay : ℕ) (name : Option (List ℕ)) → in_bay (with_bay names bay name) bay ≡ name
own_name names bay name = go (bay == 0)
  where
    go : (t : Bool) → (if t then (if t then record names { first = name } else record names { second = name }).first
        else (if t then record names { first = name } else record names { second = name }).second) ≡ name
    go true = refl
    go false = refl

blank_named : (bay : ℕ) (name : List ℕ) (count : ℕ) (rate : Rate) (old new : State) (told after : Option Files) (answer : Reply)
    → Step (blank_request bay name count rate) old told answer new after → is_refusal answer ≡ false → Named bay name new.names
blank_named bay name count R500 old new told after answer step fine =
    let does = done_does old new told after (request.Blank bay name count) answer step fine in
    ap (λ (n : Names). in_bay n bay) does.2.names ∙ own_name old.names bay (Some name)
blank_named bay name count R250 old new told after answer step fine =
    let does = done_does old new told after (request.BlankDd bay name count) answer step fine in
    ap (λ (n : Names). in_bay n bay) does.2.names ∙ own_name old.names bay (Some name)

blank_still : (bay : ℕ) (name : List ℕ) (count : ℕ) (rate : Rate) (old new : State) (told after : Option Files) (answer : Reply)
    → Step (blank_request bay name count rate) old told answer new after → after ≡ told
blank_still bay name count R500 old new told after answer step = step_stores (request.Blank bay name count) old new told after answer step
blank_still bay name count R250 old new told after answer step = step_stores (request.BlankDd bay name count) old new told after answer step

-- ---- Runs of scripts, in which a first part of some stores is made.

module _ {Kind : Type 0} (stores : Kind → List Store) (some : Kind) where
  abbrev MakesFirst : Option Files → Option Files → Type 0
  MakesFirst told after = (kind : Kind) × StoresFirst (stores kind) told after

  -- however a script is run from such names, it makes a first part of the stores
  abbrev From : (Names → Type 0) → Script → Type 0
  From Such script =
      (old : World) (course : List Taken) (new : World) (ended : Status) → Such old.state.names → RunsScript script old course new ended
      → MakesFirst old.files new.files

  nothing_made : (told after : Option Files) → after ≡ told → MakesFirst told after
  nothing_made told after same = (some, nothing_first (stores some) told after same)

  behind : (told mid after : Option Files) → mid ≡ told → MakesFirst mid after → MakesFirst told after
  behind told mid after same makes = subst (λ (f : Option Files). MakesFirst f after) same makes

  need_from : (One Two : Names → Type 0) (asked : Request) (rest : Reply → State → Script)
      → ((old new : State) (told after : Option Files) (answer : Reply) → Step asked old told answer new after → after ≡ told)
      → ((old new : State) (told after : Option Files) (answer : Reply) → Step asked old told answer new after → is_refusal answer ≡ false
      → One old.names → Two new.names)
      → ((answer : Reply) (after : State) → From Two (rest answer after)) → From One (needs asked rest)
  need_from One Two asked rest same leads next old course new ended such runs = go (need_run asked rest old course new ended runs)
    where
      go : NeedRun asked rest old course new ended → MakesFirst old.files new.files
      go (Done run fine) =
          let taken = run.taken in
          behind old.files run.files new.files (same old.state taken.after old.files run.files taken.answer run.step)
          (next taken.answer taken.after (with_report taken.after run.files old.report) run.later new ended
          (leads old.state taken.after old.files run.files taken.answer run.step fine such) run.left)
      go (Refused run) = nothing_made old.files new.files (same old.state new.state old.files new.files (reply.Refused run.cause) run.step)
      go (Halted run) = nothing_made old.files new.files run.stops.files

  -- a request after whose refusal the script goes on
  ask_from : (Such : Names → Type 0) (asked : Request) (rest : Reply → State → Script) → IsCalm asked
      → ((answer : Reply) (after : State) → From Such (rest answer after)) → From Such (asks asked rest)
  ask_from Such asked rest calm next old course new ended such runs = go (ask_run asked rest old course new ended runs)
    where
      go : AskRun asked rest old course new ended → MakesFirst old.files new.files
      go (Answered run) =
          let taken = run.taken in
          let still = calm old.state taken.after old.files run.files taken.answer run.step in
          behind old.files run.files new.files still.0
          (next taken.answer taken.after (with_report taken.after run.files old.report) run.later new ended (subst Such (sym still.1) such) run.left)
      go (Stopped run) = nothing_made old.files new.files run.stops.files

  calm_need : (Such : Names → Type 0) (asked : Request) (rest : Reply → State → Script) → IsCalm asked
      → ((answer : Reply) (after : State) → From Such (rest answer after)) → From Such (needs asked rest)
  calm_need Such asked rest calm next =
      need_from Such Such asked rest (λ old new told after answer step. (calm old new told after answer step).0)
      (λ old new told after answer step fine such. subst Such (sym (calm old new told after answer step).1) such) next

  opened : (name : List ℕ) (rest : Shape → Script) → ((shape : Shape) → From Any (rest shape)) → From Any (opens name rest)
  unfolding opens
  opened name rest next =
      need_from Any Any (request.Insert 0 name) (λ answer after. rest (shape_at after 0))
      (λ old new told after answer step. step_stores (request.Insert 0 name) old new told after answer step)
      (λ old new told after answer step fine any. tt) (λ answer after. next (shape_at after 0))

  blanked : (One : Names → Type 0) (bay : ℕ) (name : List ℕ) (count : ℕ) (rate : Rate) (rest : Unit {0} → Script) → From (Named bay name) (rest tt)
      → From One (carries (blank_request bay name count rate) rest)
  unfolding carries
  blanked One bay name count rate rest next =
      need_from One (Named bay name) (blank_request bay name count rate) (λ answer after. rest tt) (blank_still bay name count rate)
      (λ old new told after answer step fine any. blank_named bay name count rate old new told after answer step fine) (λ answer after. next)

  starved : (Such : Names → Type 0) (rest : Unit {0} → Script) → From Such (rest tt) → From Such (may_starve rest)
  unfolding may_starve
  starved Such rest next old course new ended such (inl runs) = next old course new ended such runs
  starved Such rest next old course new ended such (inr none) = nothing_made old.files new.files (ap (λ (w : World). w.files) none.1)

  said : (Such : Names → Type 0) (line : List ℕ) (rest : Unit {0} → Script) → From Such (rest tt) → From Such (says line rest)
  unfolding says
  said Such line rest next old course new ended such (inl runs) =
      next (record old { report = grown old.report (line ∷ []) }) course new ended such runs
  said Such line rest next old course new ended such (inr cut) = nothing_made old.files new.files cut.1.0.files

  ended_from : (Such : Names → Type 0) (lines : List (List ℕ)) (wanted : Status) → From Such (Ends lines wanted)
  ended_from Such lines wanted old course new ended such runs =
      nothing_made old.files new.files (last_run lines wanted old course new ended runs).1.files

  -- ---- parts

  -- a part that makes no store
  abbrev IsQuiet : (Names → Type 0) → {Found : Type 0} → Part Found → Type 0
  IsQuiet Such {Found = Found} part = (rest : Found → Script) → ((found : Found) → From Such (rest found)) → From Such (part rest)

  quiet : (Such : Names → Type 0) (asked : Request) → IsCalm asked → IsQuiet Such (carries asked)
  unfolding carries
  quiet Such asked calm rest next = calm_need Such asked (λ answer after. rest tt) calm (λ answer after. next tt)

  acknowledged : (Such : Names → Type 0) (bay : ℕ) (rate : Rate) → IsQuiet Such (acknowledges bay rate)
  unfolding acknowledges sets_rate
  acknowledged Such bay R500 rest next = quiet Such (request.Ack bay) (ack_calm bay) _ next
  acknowledged Such bay R250 rest next =
      quiet Such (request.Ack bay) (ack_calm bay) _ (λ none. quiet Such (request.SetRate bay R250) (rate_calm bay R250) rest next)

  each_quiet : (Such : Names → Type 0) {Found : Type 0} (part : ℕ → Found → Part Found) → ((i : ℕ) (found : Found) → IsQuiet Such (part i found))
      → (a count : ℕ) (found : Found) → IsQuiet Such (each a count part found)
  unfolding each through
  each_quiet Such part none a zero found rest next = next found
  each_quiet Such part none a (suc count) found rest next =
      none a found (λ now. each (a + 1) count part now rest) (λ now. each_quiet Such part none (a + 1) count now rest next)

  tracks_quiet : (Such : Names → Type 0) {Found : Type 0} (part : ℕ → ℕ → Found → Part Found) → ((c h : ℕ) (found : Found) → IsQuiet Such (part c h found))
      → (cylinders heads : ℕ) (found : Found) → IsQuiet Such (by_track cylinders heads part found)
  tracks_quiet Such part none cylinders heads found =
      each_quiet Such (λ c. each 0 heads (part c)) (λ c now. each_quiet Such (part c) (none c) 0 heads now) 0 cylinders found

  -- ---- the parts of the commands

  read_quiet : (Such : Names → Type 0) (c h r : ℕ) (marks : List Bool) → IsQuiet Such (reads_record c h r marks)
  unfolding reads_record
  read_quiet Such c h r marks rest next =
      calm_need Such (request.Read 0 (key_of c h r) (record_address r)) _ (read_calm 0 (key_of c h r) (record_address r)) (λ answer after. next _)

  write_quiet : (Such : Names → Type 0) (marks : List Bool) (c h r : ℕ) (none : Unit {0}) → IsQuiet Such (writes_record marks c h r none)
  unfolding writes_record
  write_quiet Such marks c h r none = quiet Such _ (go (get_or marks (r - 1) false))
    where
      go : (deleted : Bool) → IsCalm (write_request deleted (key_of c h r) (record_address r))
      go true = deleted_calm 1 (key_of c h r) (record_address r)
      go false = write_calm 1 (key_of c h r) (record_address r)

  track_copied : (Such : Names → Type 0) (sectors c h : ℕ) (none : Unit {0}) → IsQuiet Such (copies_track sectors c h none)
  unfolding copies_track
  track_copied Such sectors c h none rest next = search (quiet, format_calm, each_quiet, read_quiet, write_quiet)

  told_quiet : (Such : Names → Type 0) (key : Chrn) (answer : Reply) → IsQuiet Such (tells_failure key answer)
  unfolding tells_failure
  told_quiet Such key (reply.Refused cause) rest next = said Such _ rest (next tt)
  told_quiet Such key _ rest next = next tt

  verified_quiet : (Such : Names → Type 0) (c h r : ℕ) (tally : Tally) → IsQuiet Such (verifies_record c h r tally)
  unfolding verifies_record
  verified_quiet Such c h r tally rest next = search (ask_from, read_calm, told_quiet)

  -- the medium of a bay is stored under its name, and nothing else is
  ejected : (bay : ℕ) (name : List ℕ) → ((disk : Disk) → (kind : Kind) × (stores kind ≡ store_of name (file_of disk) ∷ []))
      → (lines : List (List ℕ)) (wanted : Status) → From (Named bay name) (carries (request.Eject bay) (λ none. Ends lines wanted))
  unfolding carries
  ejected bay name kinds lines wanted old course new ended named runs =
      go (need_run (request.Eject bay) (λ answer after. Ends lines wanted) old course new ended runs)
    where
      go : NeedRun (request.Eject bay) (λ answer after. Ends lines wanted) old course new ended → MakesFirst old.files new.files
      go (Done run fine) =
          let taken = run.taken in
          let does = (done_does old.state taken.after old.files run.files (request.Eject bay) taken.answer run.step fine).1 in
          let same : does.1 ≡ name = cc (does.3, named) in
          let last = last_run lines wanted (with_report taken.after run.files old.report) run.later new ended run.left in
          let files : new.files ≡ stored old.files name (file_of does.0) =
          last.1.files ∙ does.5 ∙ ap (λ (n : List ℕ). stored old.files n (file_of does.0)) same in
          let kind = kinds does.0 in
          (kind.0, all_first (stores kind.0) old.files new.files (files ∙ ap (λ (l : List Store). all_stored old.files l) (sym kind.1)))
      go (Refused run) = nothing_made old.files new.files
          (either (refusal_of old.state (request.Eject bay)) run.step (λ does. absurd (cc does.0)) (λ cause refused. refused.files))
      go (Halted run) = nothing_made old.files new.files run.stops.files

  -- a last file is stored under its name, and nothing else is
  filed : (Such : Names → Type 0) (name bytes line : List ℕ) (wanted : Status) → (kind : Kind) → stores kind ≡ store_of name bytes ∷ []
      → From Such (Stores name bytes line wanted)
  filed Such name bytes line wanted kind is old course new ended such runs = go (last_stored name bytes line wanted old course new ended runs).1
    where
      go : StoresLast name bytes line wanted old new ended → MakesFirst old.files new.files
      go (IsStored state files prints) =
          (kind, all_first (stores kind) old.files new.files (files ∙ ap (λ (l : List Store). all_stored old.files l) (sym is)))
      go (NotStored same fault) = nothing_made old.files new.files (ap (λ (w : World). w.files) same)

  -- ---- imports, exports and exercises

  filled_quiet : (Such : Names → Type 0) (bytes : List ℕ) (place address : ℕ) (none : Unit {0}) → IsQuiet Such (imports.fills_record bytes place address none)
  unfolding imports.fills_record imports.fills_byte
  filled_quiet Such bytes place address none =
      each_quiet Such (imports.fills_byte bytes place address)
      (λ i still. quiet Such (request.Fill (address + i) 1 (slice_index bytes (place + i))) (fill_calm (address + i) 1 (slice_index bytes (place + i)))) 0 512 none

  imported_quiet : (Such : Names → Type 0) (bytes : List ℕ) (sectors c h : ℕ) (none : Unit {0}) → IsQuiet Such (imports.imports_track bytes sectors c h none)
  unfolding imports.imports_track imports.fills_track imports.writes_track imports.writes_record
  imported_quiet Such bytes sectors c h none rest next =
      search (quiet, format_calm, each_quiet, filled_quiet, write_calm)

  exported_quiet : (Such : Names → Type 0) (c h r : ℕ) (bytes : List ℕ) → IsQuiet Such (exports.reads_record c h r bytes)
  unfolding exports.reads_record
  exported_quiet Such c h r bytes rest next = search (calm_need, read_calm, starved)

  exported_track : (Such : Names → Type 0) (sectors c h : ℕ) (bytes : List ℕ) → IsQuiet Such (exports.reads_track sectors c h bytes)
  unfolding exports.reads_track
  exported_track Such sectors c h bytes = each_quiet Such (exports.reads_record c h) (exported_quiet Such c h) 1 sectors bytes

  work_read : (Such : Names → Type 0) (key : Chrn) (tally : Worked) → IsQuiet Such (work.reads_work key tally)
  unfolding work.reads_work
  work_read Such key tally rest next = search (ask_from, read_calm)

  work_written : (Such : Names → Type 0) (deleted : Bool) (key : Chrn) (byte : ℕ) (tally : Worked) → IsQuiet Such (work.writes_work deleted key byte tally)
  unfolding work.writes_work
  work_written Such deleted key byte tally rest next =
      ask_from Such (request.Fill 0x20000 512 byte) _ (fill_calm 0x20000 512 byte)
      (λ filled between. ask_from Such (work.write_request deleted key) _ (go deleted) (λ answer after. next (work.counted answer 0 tally)))
    where
      go : (mark : Bool) → IsCalm (work.write_request mark key)
      go true = deleted_calm 0 key 0x20000
      go false = write_calm 0 key 0x20000

  work_drawn : (Such : Names → Type 0) (kind : ℕ) (key : Chrn) (byte : ℕ) (tally : Worked) → IsQuiet Such (work.works_drawn kind key byte tally)
  unfolding work.works_drawn
  work_drawn Such kind key byte tally = go (kind == 0) (kind == 3)
    where
      go : (zero_ three : Bool) → IsQuiet Such (if zero_ then work.writes_work false key byte tally
          else (if three then work.writes_work true key byte tally else work.reads_work key tally))
      go true three = work_written Such false key byte tally
      go false true = work_written Such true key byte tally
      go false false = work_read Such key tally

  work_quiet : (Such : Names → Type 0) (seed count : ℕ) (tally : Worked) → IsQuiet Such (work.works seed count tally)
  unfolding work.works work.works_behind
  work_quiet Such seed count tally = each_quiet Such _ (λ i now. work_drawn Such _ _ _ now) 0 count tally

-- ---- Commands that store nothing.

none_made : (made rest : List Store) → [] ≡ made ++ rest → made ≡ []
none_made [] rest is = refl
none_made (store ∷ made) rest is = absurd (cc is)

still : (told after : Option Files) → (kind : Unit {0}) × StoresFirst [] told after → after ≡ told
still told after makes = makes.1.files ∙ ap (λ (l : List Store). all_stored told l) (none_made makes.1.made makes.1.rest makes.1.first)

abbrev nothing_of : Unit {0} → List Store
nothing_of none = []

pub verify_stores : (name : List ℕ) (old : World) (course : List Taken) (new : World) (ended : Status) → RunsScript (verify_script name) old course new ended
    → new.files ≡ old.files
unfolding verify_script reads_disk verifies_track
verify_stores name old course new ended runs =
    still old.files new.files
    (opened nothing_of tt name _ (λ shape.
    acknowledged nothing_of tt Any 0 shape.rate _ (λ none.
    tracks_quiet nothing_of tt Any (verifies_track (sectors_at shape.rate))
    (λ c h tally. each_quiet nothing_of tt Any (verifies_record c h) (verified_quiet nothing_of tt Any c h) 1 (sectors_at shape.rate) tally)
    shape.cylinders shape.heads _ _ (λ tally. ended_from nothing_of tt Any _ _))) old course new ended tt runs)

pub exercise_stores : (seed count : ℕ) (old : World) (course : List Taken) (new : World) (ended : Status)
    → RunsScript (work.exercise_script seed count) old course new ended → new.files ≡ old.files
exercise_stores seed count old course new ended runs =
    still old.files new.files
    (starved nothing_of tt Any _
    (blanked nothing_of tt Any 0 _ 4 R500 _
    (acknowledged nothing_of tt _ 0 R500 _ (λ none.
    tracks_quiet nothing_of tt _ (formats 0) (λ c h once. quiet nothing_of tt _ (request.Format 0 c h) (format_calm 0 c h)) 4 2 tt _ (λ again.
    work_quiet nothing_of tt _ seed count _ _ (λ tally. ended_from nothing_of tt _ _ _))))) old course new ended tt runs)

-- ---- Commands that store a disk.

abbrev disk_under : List ℕ → Disk → List Store
disk_under name disk = store_of name (file_of disk) ∷ []

no_disk : Disk
no_disk = blank_disk 1 1 1 R500

own_kind : (name : List ℕ) (disk : Disk) → (kind : Disk) × (disk_under name kind ≡ store_of name (file_of disk) ∷ [])
own_kind name disk = (disk, refl)

pub format_stores : (name : List ℕ) (count : ℕ) (rate : Rate) (old : World) (course : List Taken) (new : World) (ended : Status)
    → RunsScript (format_script name count rate) old course new ended → StoresDiskAlone name old.files new.files
unfolding format_script formats_disk
format_stores name count rate old course new ended runs =
    blanked (disk_under name) no_disk Any 0 name count rate _
    (acknowledged (disk_under name) no_disk (Named 0 name) 0 rate _ (λ none.
    tracks_quiet (disk_under name) no_disk (Named 0 name) (formats 0)
    (λ c h once. quiet (disk_under name) no_disk (Named 0 name) (request.Format 0 c h) (format_calm 0 c h)) count 2 tt _ (λ again.
    ejected (disk_under name) no_disk 0 name (own_kind name) _ _))) old course new ended tt runs

pub copy_stores : (from to : List ℕ) (old : World) (course : List Taken) (new : World) (ended : Status)
    → RunsScript (copy_script from to) old course new ended → StoresDiskAlone to old.files new.files
unfolding copy_script makes_copy copies_disk
copy_stores from to old course new ended runs =
    opened (disk_under to) no_disk from _ (λ shape.
    blanked (disk_under to) no_disk Any 1 to shape.cylinders shape.rate _
    (acknowledged (disk_under to) no_disk (Named 1 to) 0 shape.rate _ (λ none.
    acknowledged (disk_under to) no_disk (Named 1 to) 1 shape.rate _ (λ once.
    tracks_quiet (disk_under to) no_disk (Named 1 to) (copies_track (sectors_at shape.rate))
    (λ c h still. track_copied (disk_under to) no_disk (Named 1 to) (sectors_at shape.rate) c h still) shape.cylinders shape.heads tt _ (λ again.
    ejected (disk_under to) no_disk 1 to (own_kind to) _ _))))) old course new ended tt runs

imported_from : (name : List ℕ) (found : Result (List ℕ × Rate) Stop) → From (disk_under name) no_disk Any (imports.import_script found name)
imported_from name (Err cause) = ended_from (disk_under name) no_disk Any (stop_lines cause) (stop_status cause)
imported_from name (Ok (bytes, rate)) =
    blanked (disk_under name) no_disk Any 0 name 80 rate _
    (acknowledged (disk_under name) no_disk (Named 0 name) 0 rate _ (λ none.
    tracks_quiet (disk_under name) no_disk (Named 0 name) (imports.imports_track bytes (sectors_at rate))
    (λ c h still. imported_quiet (disk_under name) no_disk (Named 0 name) bytes (sectors_at rate) c h still) 80 2 tt _ (λ again.
    ejected (disk_under name) no_disk 0 name (own_kind name) _ _)))

pub import_stores : (flat name : List ℕ) (old : World) (course : List Taken) (new : World) (ended : Status)
    → Imports flat name old course new ended → StoresDiskAlone name old.files new.files
import_stores flat name old course new ended (found, is, runs) = imported_from name found old course new ended tt runs

-- ---- Commands that store another file.

abbrev bytes_under : List ℕ → List ℕ → List Store
bytes_under name bytes = store_of name bytes ∷ []

pub export_stores : (name flat : List ℕ) (old : World) (course : List Taken) (new : World) (ended : Status)
    → RunsScript (exports.export_script name flat) old course new ended → StoresFileAlone flat old.files new.files
export_stores name flat old course new ended runs =
    opened (bytes_under flat) [] name _ (λ shape.
    acknowledged (bytes_under flat) [] Any 0 shape.rate _ (λ none.
    tracks_quiet (bytes_under flat) [] Any (exports.reads_track (sectors_at shape.rate))
    (λ c h bytes. exported_track (bytes_under flat) [] Any (sectors_at shape.rate) c h bytes) 80 2 [] _ (λ bytes.
    filed (bytes_under flat) [] Any flat bytes _ _ bytes refl))) old course new ended tt runs
