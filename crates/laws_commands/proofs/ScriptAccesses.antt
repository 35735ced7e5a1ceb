-- How often a script accesses the station past the driver.
use Rattle.std.proofs.Common.{arith, ℕ, ◌+◌, ◌≤◌, [], ◌∷◌, refl, ◌≡◌, zero, suc, Bool, true, false, List, ap, inl, inr, get_or, ◌-◌, ◌*◌, ◌<◌, ◌∙◌, ◌++◌, sym, subst, append-nil, append_assoc, Option, Some}
use Rattle.std.proofs.lemmas.List.Sums.{sum_by-cons}
use Rattle.laws_commands.proofs.Common.{Request, Reply, State, AfterStop, accesses_of, grown, sectors_at, Chrn, Rate, R500, R250, Status, key_of, is_refusal, Taken, World, blank_request, Shape, Script, Ends, Says, Asks, Stores, MayStarve, Fails, RunsScript, StoresLast, IsStored, NotStored, unless_refused, Part, shape_at, by_track, formats, with_report, record_address, one_more, write_request, sector_place, flat_length, list_all, Files, Counters, IsFaultless, Step, Does, rate_requests, Known, Passes, Did, Disk, bay_of, DoesAll}
use Rattle.sector_model.proofs.PlayTies.{ran_ties}
use Rattle.commands.specs.Parts.{asks, says, needs, carries, opens, sets_rate, acknowledges, through, each, may_starve}
use Rattle.disk_commands.specs.Format.{formats_disk, format_script}
use Rattle.disk_commands.specs.Verify.{tells_failure, verifies_record, verifies_track, verify_script, reads_disk}
use Rattle.disk_commands.specs.Copy.{reads_record, writes_record, copies_track, copy_script, makes_copy, copies_disk}
use Rattle.laws_commands.proofs.VerifyRun.{Tally}
use Rattle.laws_commands.specs.Accesses.{AccessesAtMost}
use Rattle.sector_map.specs.Flat.{IsSector}
use Rattle.laws_commands.proofs.CopiedTrack.{both_fell}
use Rattle.laws_commands.proofs.Steps.{NeverFell, begins, ends_there, done_does, never_fell, keeps_drives}
use Rattle.laws_commands.proofs.TrackParts.{did_all}
use Rattle.laws_commands.proofs.Prepared.{readies}
use Rattle.floppy_jobs.specs.declared.request.Request.TheVariants as request
use Rattle.sector_model.specs.declared.reply.Reply.TheVariants as reply
use Rattle.flop_base.specs.declared.answers.Status.TheVariants as status

-- how much the count of accesses rises in a request that stopped the run
stopped_rises : (old new : State) (asked : Request) → AfterStop asked old new → new.station.counters.direct ≤ old.station.counters.direct + accesses_of asked
stopped_rises old new (request.Eject bay) stopped = stopped.exchanged.access.accesses
stopped_rises old new other stopped = let idle = stopped.idle.past_driver in omega (arith, idle)

-- the requests of a script make at most this many accesses, whatever the answers are
abbrev AsksAtMost : ℕ → Script → Type 0
AsksAtMost n (Says line rest) = AsksAtMost n rest
AsksAtMost n (Asks asked rest) =
    (later : ℕ) × (accesses_of asked + later ≤ n) × ((answer : Reply) (after : State) → AsksAtMost later (rest answer after))
AsksAtMost n (MayStarve rest) = AsksAtMost n rest
AsksAtMost n _ = Unit {0}

same_rises : (n : ℕ) (old new : World) → new.state ≡ old.state → AccessesAtMost n old new
same_rises n old new same = let is = ap (λ (s : State). s.station.counters.direct) same in omega (arith, is)

stored_rises : (n : ℕ) (name bytes line : List ℕ) (wanted : Status) (old new : World) (ended : Status) → StoresLast name bytes line wanted old new ended
    → AccessesAtMost n old new
stored_rises n name bytes line wanted old new ended (IsStored state files prints) = same_rises n old new state
stored_rises n name bytes line wanted old new ended (NotStored same fault) = same_rises n old new (ap (λ (w : World). w.state) same)

-- each run of such a script makes at most this many accesses
script_rises : (n : ℕ) (script : Script) (old new : World) (course : List Taken) (ended : Status) → AsksAtMost n script → RunsScript script old course new ended
    → AccessesAtMost n old new
script_rises n (Ends line wanted) old new [] ended most runs = same_rises n old new runs.state
script_rises n (Says line rest) old new course ended most (inl runs) =
    script_rises n rest (record old { report = grown old.report (line ∷ []) }) new course ended most runs
script_rises n (Says line rest) old new course ended most (inr cut) = same_rises n old new cut.1.0.state
script_rises n (Asks asked rest) old new [] ended most runs = grind (arith, stopped_rises)
script_rises n (Asks asked rest) old new (taken ∷ later) ended most runs =
    let step : Taken = record { asked = asked; answer = taken.answer; after = taken.after } in
    let rises = (ran_ties old.state taken.after old.files runs.1 (step ∷ []) (runs.1, runs.2, (refl, refl))).by_requests in
    let behind = script_rises most.0 (rest taken.answer taken.after) (with_report taken.after runs.1 old.report) new later ended
    (most.2 taken.answer taken.after) runs.3 in
    let few = most.1 in
    omega (arith, rises, sum_by-cons accesses_of asked [], behind, few)
script_rises n (Stores name bytes line wanted) old new [] ended most runs = stored_rises n name bytes line wanted old new ended runs
script_rises n (MayStarve rest) old new course ended most (inl runs) = script_rises n rest old new course ended most runs
script_rises n (MayStarve rest) old new course ended most (inr none) = same_rises n old new (ap (λ (w : World). w.state) none.1)
script_rises n (Fails cause) old new [] ended most runs = same_rises n old new (ap (λ (w : World). w.state) runs.0)
script_rises n _ old new (taken ∷ later) ended most runs = absurd runs

-- ---- Parts.

unrefused : (n : ℕ) (asked : Request) (answer : Reply) (later : Script) → AsksAtMost n later → AsksAtMost n (unless_refused asked answer later)
unrefused n asked (reply.Refused cause) later most = tt
unrefused n asked _ later most = most

needs_most : (later n : ℕ) (asked : Request) (rest : Reply → State → Script) → accesses_of asked + later ≤ n
    → ((answer : Reply) (after : State) → AsksAtMost later (rest answer after)) → AsksAtMost n (needs asked rest)
unfolding needs
needs_most later n asked rest few most = (later, few, λ answer after. unrefused later asked answer (rest answer after) (most answer after))

carries_most : (later n : ℕ) (asked : Request) (rest : Unit {0} → Script) → accesses_of asked + later ≤ n → AsksAtMost later (rest tt)
    → AsksAtMost n (carries asked rest)
unfolding carries
carries_most later n asked rest few most = needs_most later n asked (λ answer after. rest tt) few (λ answer after. most)

opens_most : (n : ℕ) (name : List ℕ) (rest : Shape → Script) → ((shape : Shape) → AsksAtMost n (rest shape)) → AsksAtMost (1 + n) (opens name rest)
unfolding opens
opens_most n name rest most =
    needs_most n (1 + n) (request.Insert 0 name) (λ answer after. rest (shape_at after 0)) (omega arith) (λ answer after. most (shape_at after 0))

-- a part that makes no access
abbrev IsQuiet : {Found : Type 0} → Part Found → Type 0
IsQuiet {Found = Found} part = (n : ℕ) (rest : Found → Script) → ((found : Found) → AsksAtMost n (rest found)) → AsksAtMost n (part rest)

quiet : (asked : Request) → accesses_of asked ≡ 0 → IsQuiet (carries asked)
quiet asked none n rest most = carries_most n n asked rest (omega (arith, none)) (most tt)

acknowledges_quiet : (bay : ℕ) (rate : Rate) → IsQuiet (acknowledges bay rate)
unfolding acknowledges sets_rate
acknowledges_quiet bay R500 n rest most = quiet (request.Ack bay) refl n _ most
acknowledges_quiet bay R250 n rest most = quiet (request.Ack bay) refl n _ (λ none. quiet (request.SetRate bay R250) refl n rest most)

each_quiet : {Found : Type 0} (part : ℕ → Found → Part Found) → ((i : ℕ) (found : Found) → IsQuiet (part i found)) → (a count : ℕ) (found : Found)
    → IsQuiet (each a count part found)
unfolding each through
each_quiet part none a zero found n rest most = most found
each_quiet part none a (suc count) found n rest most =
    none a found n (λ now. each (a + 1) count part now rest) (λ now. each_quiet part none (a + 1) count now n rest most)

tracks_quiet : {Found : Type 0} (part : ℕ → ℕ → Found → Part Found) → ((c h : ℕ) (found : Found) → IsQuiet (part c h found))
    → (cylinders heads : ℕ) (found : Found) → IsQuiet (by_track cylinders heads part found)
tracks_quiet part none cylinders heads found = each_quiet (λ c. each 0 heads (part c)) (λ c now. each_quiet (part c) (none c) 0 heads now) 0 cylinders found

-- ---- The commands.

blank_accesses : (bay : ℕ) (name : List ℕ) (count : ℕ) (rate : Rate) → accesses_of (blank_request bay name count rate) ≡ 1
blank_accesses bay name count R500 = refl
blank_accesses bay name count R250 = refl

pub format_rises : (rate : Rate) (name : List ℕ) (count : ℕ) (old new : World) (course : List Taken) (ended : Status)
    → RunsScript (format_script name count rate) old course new ended → AccessesAtMost 2 old new
unfolding format_script formats_disk
format_rises rate name count old new course ended runs =
    let one = blank_accesses 0 name count rate in
    script_rises 2 _ old new course ended
    (carries_most 1 2 (blank_request 0 name count rate) _ (omega (arith, one))
    (acknowledges_quiet 0 rate 1 _ (λ none.
    tracks_quiet (formats 0) (λ c h none. quiet (request.Format 0 c h) refl) count 2 tt 1 _ (λ none.
    carries_most 0 1 (request.Eject 0) _ (omega arith) tt)))) runs

read_quiet : (c h r : ℕ) (marks : List Bool) → IsQuiet (reads_record c h r marks)
unfolding reads_record
read_quiet c h r marks n rest most = needs_most n n (request.Read 0 (key_of c h r) (record_address r)) _ (omega arith) (λ answer after. most _)

write_quiet : (marks : List Bool) (c h r : ℕ) (none : Unit {0}) → IsQuiet (writes_record marks c h r none)
unfolding writes_record
write_quiet marks c h r none = quiet _ (go (get_or marks (r - 1) false))
  where
    go : (deleted : Bool) → accesses_of (write_request deleted (key_of c h r) (record_address r)) ≡ 0
    go true = refl
    go false = refl

pub copy_rises : (from to : List ℕ) (old new : World) (course : List Taken) (ended : Status) → RunsScript (copy_script from to) old course new ended
    → AccessesAtMost 3 old new
unfolding copy_script makes_copy copies_disk copies_track
copy_rises from to old new course ended runs =
    script_rises 3 _ old new course ended
    (opens_most 2 from _ (λ shape.
    let one = blank_accesses 1 to shape.cylinders shape.rate in
    carries_most 1 2 (blank_request 1 to shape.cylinders shape.rate) _ (omega (arith, one))
    (acknowledges_quiet 0 shape.rate 1 _ (λ none.
    acknowledges_quiet 1 shape.rate 1 _ (λ none.
    tracks_quiet (copies_track (sectors_at shape.rate)) (λ c h none n rest most.
    quiet (request.Format 1 c h) refl n _ (λ none.
    each_quiet (reads_record c h) (read_quiet c h) 1 (sectors_at shape.rate) _ n _ (λ marks.
    each_quiet (writes_record marks c h) (write_quiet marks c h) 1 (sectors_at shape.rate) tt n rest most)))
    shape.cylinders shape.heads tt 1 _ (λ none.
    carries_most 0 1 (request.Eject 1) _ (omega arith) tt)))))) runs

tells_quiet : (key : Chrn) (answer : Reply) → IsQuiet (tells_failure key answer)
unfolding tells_failure says
tells_quiet key (reply.Refused cause) n rest most = most tt
tells_quiet key reply.Done n rest most = most tt
tells_quiet key reply.DoneDeleted n rest most = most tt
tells_quiet key (reply.Bytes address content) n rest most = most tt

verified_quiet : (c h r : ℕ) (tally : Tally) → IsQuiet (verifies_record c h r tally)
unfolding verifies_record asks
verified_quiet c h r tally n rest most = (
  n,
  omega arith,
  λ answer after. tells_quiet (key_of c h r) answer n _ (λ none. most (one_more tally (is_refusal answer))),
)

pub verify_rises : (name : List ℕ) (old new : World) (course : List Taken) (ended : Status) → RunsScript (verify_script name) old course new ended
    → AccessesAtMost 1 old new
unfolding verify_script reads_disk verifies_track
verify_rises name old new course ended runs =
    script_rises 1 _ old new course ended
    (opens_most 0 name _ (λ shape.
    acknowledges_quiet 0 shape.rate 0 _ (λ none.
    tracks_quiet (verifies_track (sectors_at shape.rate))
    (λ c h tally. each_quiet (verifies_record c h) (verified_quiet c h) 1 (sectors_at shape.rate) tally) shape.cylinders shape.heads _ 0 _
    (λ tally. tt)))) runs

-- ---- parts of a script for several numbers. If each part leads from what holds of its number to what holds of the
-- next, they lead from the first to the last. Also here: places of sectors, and a bay that is made ready.

-- ---- Where the sectors are in a flat file.

-- the number of sectors before the next track
pub next_track : (rate : Rate) (t : ℕ) → (t + 1) * sectors_at rate ≡ t * sectors_at rate + sectors_at rate
next_track R500 t = omega arith
next_track R250 t = omega arith

pub some_sectors : (rate : Rate) → (1 ≤ sectors_at rate) × (sectors_at rate ≤ 18)
some_sectors R500 = (omega arith, omega arith)
some_sectors R250 = (omega arith, omega arith)

-- a sector is inside the file
pub place_inside : (rate : Rate) (c h r : ℕ) → IsSector (sectors_at rate) c h r → sector_place (sectors_at rate) c h r + 512 ≤ flat_length (sectors_at rate)
place_inside R500 c h r is = omega (arith, is.cylinder, is.head, is.from_first, is.to_last)
place_inside R250 c h r is = omega (arith, is.cylinder, is.head, is.from_first, is.to_last)

-- a sector comes after all sectors of the tracks before its own
pub place_is : (sectors c h r w : ℕ) → 1 ≤ r → (c * 2 + h) * sectors ≡ w → sector_place sectors c h r ≡ w * 512 + 512 * (r - 1)
place_is sectors c h r w least same = omega (arith, same, least)

-- a track's number tells its cylinder and its head
pub one_track : (c h b g : ℕ) → h < 2 → g < 2 → c * 2 + h ≡ b * 2 + g → (c ≡ b) × (h ≡ g)
one_track c h b g small other same = (omega arith, omega arith)

-- ---- Parts for numbers.

-- a fact at some time about what was found, the course so far, and the world
abbrev pub Fact : Type 0 → Type 1
Fact Found = Found → List Taken → World → Type 0

-- if one fact holds before a part, another holds after it
abbrev pub Takes : {Found : Type 0} → Fact Found → Fact Found → Found → Known Found
Takes {Found = Found} P Q begun old course found mid = (before : List Taken) → P begun before old → Q found (before ++ course) mid

pub each_takes : {Found : Type 0} (P : ℕ → Fact Found) (part : ℕ → Found → Part Found) (a n end : ℕ) → a + n ≡ end
    → ((i : ℕ) → a ≤ i → i < end → (found : Found) → Passes status.AllOk (part i found) (Takes (P i) (P (i + 1)) found))
    → (found : Found) → Passes status.AllOk (each a n part found) (Takes (P a) (P end) found)
unfolding each through
each_takes P part a zero end sum takes found rest old course new runs =
    let last : a ≡ end = omega arith in
    record {
      one = [];
      two = course;
      found = found;
      mid = old;
      course_is = refl;
      knows = λ before holds. subst (λ (steps : List Taken). P end found steps old) (sym (append-nil before)) (subst (λ k. P k found before old) last holds);
      left = runs;
    }
each_takes P part a (suc n) end sum takes found rest old course new runs =
    let first = takes a (omega arith) (omega arith) found (λ now. each (a + 1) n part now rest) old course new runs in
    let later = each_takes P part (a + 1) n end (omega arith)
    (λ i least below. takes i (omega arith) below) first.found rest first.mid first.two new first.left in
    record {
      one = first.one ++ later.one;
      two = later.two;
      found = later.found;
      mid = later.mid;
      course_is = first.course_is ∙ ap (λ (l : List Taken). first.one ++ l) later.course_is ∙ sym (append_assoc first.one later.one later.two);
      knows = λ before holds.
          subst (λ (steps : List Taken). P end later.found steps later.mid) (append_assoc before first.one later.one)
          (later.knows (before ++ first.one) (first.knows before holds));
      left = later.left;
    }

-- the parts for each track of 80 cylinders with two heads, by the number of the track
pub tracks_take : {Found : Type 0} (P : ℕ → Fact Found) (part : ℕ → ℕ → Found → Part Found)
    → ((c h : ℕ) → c < 80 → h < 2 → (found : Found) → Passes status.AllOk (part c h found) (Takes (P (c * 2 + h)) (P (c * 2 + h + 1)) found))
    → (found : Found) → Passes status.AllOk (by_track 80 2 part found) (Takes (P 0) (P 160) found)
tracks_take {Found} P part takes =
    each_takes (λ c. P (c * 2)) (λ c. each 0 2 (part c)) 0 80 80 (omega arith) (λ c least small found.
    let none : c * 2 + 0 ≡ c * 2 = omega arith in
    let next : c * 2 + 2 ≡ (c + 1) * 2 = omega arith in
    subst (λ k. Passes status.AllOk (each 0 2 (part c) found) (Takes (P k) (P ((c + 1) * 2)) found)) none
    (subst (λ k. Passes status.AllOk (each 0 2 (part c) found) (Takes (P (c * 2 + 0)) (P k) found)) next
    (each_takes (λ h. P (c * 2 + h)) (part c) 0 2 2 (omega arith) (λ h from below now.
    let more : c * 2 + h + 1 ≡ c * 2 + (h + 1) = omega arith in
    subst (λ k. Passes status.AllOk (part c h now) (Takes (P (c * 2 + h)) (P k) now)) more (takes c h small below now)) found)))

-- if a run ended well, memory was there
pub fed : (rest : Unit {0} → Script) (old : World) (course : List Taken) (new : World) → RunsScript (may_starve rest) old course new status.AllOk
    → RunsScript (rest tt) old course new status.AllOk
unfolding may_starve
fed rest old course new (inl runs) = runs
fed rest old course new (inr none) = let same = none.2 in absurd (cc same)

-- ---- Counts.

-- the counters of a world
abbrev pub counts : World → Counters
counts world = world.state.station.counters

pub did_fell : (requests : List Request) (old new : World) (course : List Taken) → Did requests old course new → list_all keeps_drives requests ≡ true
    → NeverFell (counts old) (counts new)
did_fell requests old new course did keeps = never_fell old.state new.state old.files new.files requests course (did_all requests old course new did) keeps

-- a request was done
pub record OneDone (asked : Request) (old new : World) : Type 0 where
  pub answer : Reply
  pub step : Step asked old.state old.files answer new.state new.files
  pub fine : is_refusal answer ≡ false
  pub does : Does asked old.state old.files answer new.state new.files

pub one_done : (asked : Request) (old new : World) (course : List Taken) → Did (asked ∷ []) old course new → OneDone asked old new
one_done asked old new course did =
    let first = begins old.state new.state old.files new.files asked [] course (did_all (asked ∷ []) old course new did) in
    let end = ends_there first.mid new.state first.files new.files first.later first.behind in
    let step = subst (λ (s : State). Step asked old.state old.files first.answer s new.files) (sym end.0)
    (subst (λ (f : Option Files). Step asked old.state old.files first.answer first.mid f) (sym end.1) first.step) in
    search (done_does old.state new.state old.files new.files asked first.answer step first.done)

-- No count fell since the start. If the drive of bay 0 had no fault since then, this holds.
pub record Since (start : Counters) (P : World → Type 0) (now : World) : Type 0 where
  pub fell : NeverFell start (counts now)
  pub holds : IsFaultless 0 start (counts now) → P now

pub since_on : (start : Counters) (P Q : World → Type 0) (old new : World) → Since start P old → NeverFell (counts old) (counts new)
    → (IsFaultless 0 (counts old) (counts new) → P old → Q new) → Since start Q new
since_on start P Q old new since fell more = record {
  fell = both_fell start (counts old) (counts new) since.fell fell;
  holds = λ faultless.
      let before = since.fell in
      more (omega (arith, before.first, fell.first, faultless.0), faultless.1)
      (since.holds (omega (arith, before.first, fell.first, faultless.0), omega (arith, fell.first, faultless.1)));
}

-- ---- Bay 0 is made ready with the disk that is in it.

ready_keeps : (rate : Rate) → list_all keeps_drives (request.Ack 0 ∷ rate_requests rate 0) ≡ true
ready_keeps R500 = refl
ready_keeps R250 = refl

pub record IsReadied (disk : Disk) (old new : World) : Type 0 where
  pub medium : (bay_of new.state.station 0).medium ≡ Some disk
  pub rate : (bay_of new.state.station 0).rate ≡ disk.rate
  pub memory : new.state.station.memory ≡ old.state.station.memory
  pub names : new.state.names ≡ old.state.names
  pub files : new.files ≡ old.files
  pub fell : NeverFell (counts old) (counts new)

pub readied : (rate : Rate) (disk : Disk) (old new : World) (course : List Taken) → Did (request.Ack 0 ∷ rate_requests rate 0) old course new → disk.rate ≡ rate
    → (bay_of old.state.station 0).medium ≡ Some disk → IsReadied disk old new
readied rate disk old new course did is medium =
    let all = did_all (request.Ack 0 ∷ rate_requests rate 0) old course new did in
    let row = ap (λ (r : Rate). request.Ack 0 ∷ rate_requests r 0) (sym is)
    ∙ ap (λ (l : List Request). request.Ack 0 ∷ l) (sym (append-nil (rate_requests disk.rate 0))) in
    let ready = readies 0 disk [] old.state new.state old.files new.files course
    (subst (λ (l : List Request). DoesAll l old.state old.files course new.state new.files) row all) medium in
    let end = ends_there ready.mid new.state ready.files new.files ready.course ready.behind in
    record {
      medium = ap (λ (s : State). (bay_of s.station 0).medium) end.0 ∙ ready.medium;
      rate = ap (λ (s : State). (bay_of s.station 0).rate) end.0 ∙ ready.rate;
      memory = ap (λ (s : State). s.station.memory) end.0 ∙ ready.memory;
      names = ap (λ (s : State). s.names) end.0 ∙ ready.names;
      files = end.1 ∙ ready.same_files;
      fell = did_fell (request.Ack 0 ∷ rate_requests rate 0) old new course did (ready_keeps rate);
    }
