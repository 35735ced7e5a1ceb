-- The command that copies runs the requests of a copy, and stores a copy.
use Rattle.std.proofs.Common.{arith, ◌≡◌, ◌∙◌, ℕ, Bool, true, false, List, [], ◌∷◌, ◌++◌, length, take, drop, refl, sym, ap, subst, append_assoc, Option, Some, ◌*◌, ◌+◌, ◌≤◌, suc, lit<, All, length-append, inl, inr, None}
use Rattle.laws_commands.proofs.Common.{list_all, append-nil, length-replicate, take_at, drop_at, Files, sectors_at, Chrn, Rate, Disk, IsFaultless, user_bytes, laid_tidy, Request, track_keys, IsImageOf, Taken, World, blank_request, Shape, RunsScript, Part, through, by_track, rate_requests, last_run, Known, Passes, Did, joined, joined_did, did_both, did_nothing, same_part, through_passes, carries_passes, acknowledges_passes, opens_passes, Track, tracks_of, read_records, write_records, copy_track, copy_each, copy_opening, copy_requests, marks_read, DoesAll, CopiesDisk, StoresCopy, carries, acknowledges, formats, does_both, over, format_text, format_each, format_requests, StoresFormatted, AllByRecursion, AllPairs, mul-le, All-from_recursion, recursion_from_All, All-map, All-contains_itself, shape_of, logged_keys, IsBefore, IsLogLine, IsLog, code_text, line_text, log_text, LogLine, IsLogFound, most_log_bytes, asked_keys, log_of}
use Rattle.disk_commands.specs.Copy.{copies_track, makes_copy, copies_disk as copies_shape, copy_script}
use Rattle.laws_commands.proofs.CopiedDisk.{opening_reads_none, copies_disk}
use Rattle.laws_commands.proofs.CopiedTrack.{track_keys_from, is_no_read, marks-append, no_marks, writes_are_none, ReadsMarks, reads_pass, writes_of, writes_are, writes_pass}
use Rattle.laws_commands.proofs.Sectors.{few_sectors}
use Rattle.laws_commands.proofs.TrackParts.{tracks_part, over_all, opened_shape, formats_pass}
use Rattle.commands.proofs.Passed.{Does}
use Rattle.disk_commands.specs.Format.{formats_disk, format_script}
use Rattle.laws_commands.proofs.Prepared.{stores_disk}
use Rattle.std.specs.Prelude.{◌⊎◌, Contains}
use Rattle.std.specs.Fmt.{decimal}
use Rattle.std.proofs.lemmas.Fmt.{hex_one_digit, length-decimal-le}
use Rattle.std.proofs.lemmas.List.Kept.{AllPairs-cons}
use Rattle.flop_base.specs.Numbers.{code_number}
use Rattle.floppy_jobs.specs.Spelling.{hex2}
use Rattle.sector_map.specs.Standard.{standard_keys as disk_keys}
use Rattle.rescue.specs.Course.{standard_keys}
use Rattle.laws_commands.proofs.VerifyRun.{standard_count}
use Rattle.laws_commands.proofs.Gone.{GoesKeys, Over, Lost, Kept, AreRefusals, log_of_lost, log_of_kept}
use Rattle.laws_commands.proofs.RescueRecords.{IsAsked, asked_all, asked_rises}
use Rattle.flop_base.specs.declared.answers.Status.TheVariants as status
use Rattle.floppy_jobs.specs.declared.request.Request.TheVariants as request
use Rattle.disk_commands.specs.Copy as copy

-- ---- a track

-- the marks before any read
abbrev unknown : List Bool
unknown = copy.no_marks

-- a track was copied, with the marks that its reads told
record CopiedTrack (rate : Rate) (track : Track) (old : World) (course : List Taken) (none : Unit {0}) (mid : World) : Type 0 where
  pub did : Did (copy_track rate track (marks_read course)) old course mid
  pub count : length (marks_read course) ≡ sectors_at rate

-- if the second of three courses is the only one with reads, the marks are those of its reads
middle_marks : (one two three : List Taken) → marks_read one ≡ [] → marks_read three ≡ [] → marks_read (one ++ (two ++ three)) ≡ marks_read two
middle_marks one two three first last = grind (arith, marks-append, append-nil)

-- requests that are no reads tell no marks
silent : (requests : List Request) (old mid : World) (course : List Taken) → Did requests old course mid → list_all is_no_read requests ≡ true
    → marks_read course ≡ []
silent requests old mid course did none = no_marks course (ap (λ (row : List Request). list_all is_no_read row) did.all ∙ none)

three_did : (a b c : List Request) (old mid last new : World) (one two three : List Taken) → Did a old one mid → Did b mid two last → Did c last three new
    → Did (a ++ (b ++ c)) old (one ++ (two ++ three)) new
three_did a b c old mid last new one two three first second third = did_both a (b ++ c) old mid new one (two ++ three) first
    (did_both b c mid last new two three second third)

track_copied : (rate : Rate) (track : Track) (old mid last new : World) (one reads writes : List Taken) (found : List Bool)
    → Did (request.Format 1 track.0 track.1 ∷ []) old one mid → ReadsMarks track.0 track.1 1 (sectors_at rate) unknown mid reads found last
    → Did (writes_of found track.0 track.1 1 (sectors_at rate)) last writes new → CopiedTrack rate track old (one ++ (reads ++ writes)) tt new
track_copied rate track old mid last new one reads writes found format marked written =
    let sectors = sectors_at rate in
    let keys = track_keys sectors track.0 track.1 in
    let marks = marks_read reads in
    let room : length unknown ≡ 18 = length-replicate 18 false in
    let few = few_sectors rate in
    let from = track_keys_from sectors track.0 track.1 in
    let same = writes_are found track.0 track.1 1 sectors marks marked.count_is (marked.kept (omega arith) (omega (arith, room, few)))
    ∙ ap (λ (row : List Chrn). write_records 1 row marks) (sym from) in
    let does_write = subst (λ (l : List Request). Did l last writes new) same written in
    let does_read = subst (λ (row : List Chrn). Did (read_records 0 row) mid reads last) (sym from) marked.did in
    let told = middle_marks one reads writes (silent _ old mid one format refl) (silent _ last new writes does_write (writes_are_none keys marks)) in
    record {
      did = subst (λ (row : List Bool). Did (copy_track rate track row) old (one ++ (reads ++ writes)) new) (sym told)
          (three_did (request.Format 1 track.0 track.1 ∷ []) (read_records 0 keys)
          (write_records 1 keys marks) old mid last new one reads writes format does_read does_write);
      count = ap length told ∙ marked.count_is;
    }

track_passes : (rate : Rate) (track : Track) → Passes status.AllOk (copies_track (sectors_at rate) track.0 track.1 tt) (CopiedTrack rate track)
unfolding copies_track
track_passes rate track rest old course new runs =
    let sectors = sectors_at rate in
    let format = carries_passes (request.Format 1 track.0 track.1) _ old course new runs in
    let reads = reads_pass track.0 track.1 sectors 1 unknown _ format.mid format.two new format.left in
    let writes = writes_pass reads.found track.0 track.1 1 sectors _ reads.mid reads.two new reads.left in
    joined format (joined {Knows = λ o c f m. Unit {0}} reads writes tt)
    (track_copied rate track old format.mid reads.mid writes.mid format.one reads.one writes.one reads.found format.knows reads.knows writes.knows)

-- ---- all tracks

abbrev CopiesEach : Rate → List Track → Unit {0} → Known (Unit {0})
CopiesEach rate tracks begun old course none mid = Did (copy_each rate tracks (marks_read course)) old course mid

one_more : (rate : Rate) (track : Track) (tracks : List Track) (begun found last : Unit {0}) (old mid new : World) (one two : List Taken)
    → CopiedTrack rate track old one found mid
    → CopiesEach rate tracks found mid two last new → CopiesEach rate (track ∷ tracks) begun old (one ++ two) last new
one_more rate track tracks begun found last old mid new one two first rest =
    let sectors = sectors_at rate in
    let marks = marks-append one two in
    let here : take sectors (marks_read (one ++ two)) ≡ marks_read one = ap (take sectors) marks
    ∙ take_at (marks_read one) (marks_read two) sectors first.count in
    let there : drop sectors (marks_read (one ++ two)) ≡ marks_read two = ap (drop sectors) marks
    ∙ drop_at (marks_read one) (marks_read two) sectors first.count in
    did_both (copy_track rate track (take sectors (marks_read (one ++ two))))
    (copy_each rate tracks (drop sectors (marks_read (one ++ two)))) old mid new one two
    (subst (λ (row : List Bool). Did (copy_track rate track row) old one mid) (sym here) first.did)
    (subst (λ (row : List Bool). Did (copy_each rate tracks row) mid two new) (sym there) rest)

tracks_pass : (rate : Rate) (cylinders heads : ℕ)
    → Passes status.AllOk (by_track cylinders heads (copies_track (sectors_at rate)) tt) (CopiesEach rate (tracks_of cylinders heads) tt)
tracks_pass rate cylinders heads =
    let on : Track → Unit {0} → Part (Unit {0}) = λ track. copies_track (sectors_at rate) track.0 track.1 in
    same_part status.AllOk (by_track cylinders heads (copies_track (sectors_at rate)) tt) (through on (tracks_of cylinders heads) tt)
    (CopiesEach rate (tracks_of cylinders heads) tt)
    (tracks_part cylinders heads (copies_track (sectors_at rate)) tt)
    (through_passes status.AllOk on (λ track begun. CopiedTrack rate track) (CopiesEach rate) (λ found now. did_nothing now) (one_more rate)
    (λ track begun. track_passes rate track) (tracks_of cylinders heads) tt)

-- ---- the whole copy

all_did : (from to : List ℕ) (disk : Disk) (old mid last new : World) (one two three : List Taken) → Did (copy_opening from to disk) old one mid
    → CopiesEach disk.rate (tracks_of disk.cylinders disk.heads) tt mid two tt last
    → Did (request.Eject 1 ∷ []) last three new → (course : List Taken) → course ≡ one ++ (two ++ three)
    → Did (copy_requests from to disk (marks_read course)) old course new
all_did from to disk old mid last new one two three opening tracks eject course is =
    let told = ap marks_read is ∙ middle_marks one two three (silent _ old mid one opening (opening_reads_none disk.rate to disk.cylinders from))
    (silent _ last new three eject refl) in
    subst (λ (l : List Taken). Did (copy_requests from to disk (marks_read course)) old l new) (sym is)
    (subst (λ (row : List Bool). Did (copy_requests from to disk row) old (one ++ (two ++ three)) new) (sym told)
    (three_did (copy_opening from to disk) _ (request.Eject 1 ∷ []) old mid last new one two three opening tracks eject))

-- the requests with which a copy of a disk of this shape opens, after the disk was put in
abbrev preparing : List ℕ → Shape → List Request
preparing to shape = blank_request 1 to shape.cylinders shape.rate ∷ request.Ack 0 ∷
    (rate_requests shape.rate 0 ++ (request.Ack 1 ∷ rate_requests shape.rate 1))

pub copy_done : (from to : List ℕ) (old new : World) (course : List Taken) (files : Files) (disk : Disk)
    → RunsScript (copy_script from to) old course new status.AllOk → old.files ≡ Some files → IsImageOf (Some files) from disk
    → CopiesDisk from to disk old.state files course new.state new.files
unfolding copy_script makes_copy copies_shape
copy_done from to old new course files disk runs there image =
    let put = opens_passes from _ old course new runs in
    let rate = put.found.rate in
    let blank = carries_passes (blank_request 1 to put.found.cylinders rate) _ put.mid put.two new put.left in
    let first = acknowledges_passes 0 rate _ blank.mid blank.two new blank.left in
    let second = acknowledges_passes 1 rate _ first.mid first.two new first.left in
    let ready = joined_did _ _ blank (joined_did _ _ first second) in
    let tracks = tracks_pass rate put.found.cylinders put.found.heads _ second.mid second.two new second.left in
    let eject = carries_passes (request.Eject 1) _ tracks.mid tracks.two new tracks.left in
    let end = last_run _ _ eject.mid eject.two new status.AllOk eject.left in
    let same = opened_shape from disk files old put.mid put.one put.found image there put.knows in
    let opens = did_both (request.Insert 0 from ∷ []) (preparing to put.found) old put.mid second.mid put.one ready.one put.knows.did ready.knows in
    let parts : course ≡ (put.one ++ ready.one) ++ (tracks.one ++ eject.one) =
    put.course_is ∙ ap (λ (l : List Taken). put.one ++ l) (ready.course_is ∙ ap (λ (l : List Taken). ready.one ++ l) (tracks.course_is
    ∙ ap (λ (l : List Taken). tracks.one ++ l) (eject.course_is ∙ ap (λ (l : List Taken). eject.one ++ l) end.0 ∙ append-nil eject.one)))
    ∙ sym (append_assoc put.one ready.one (tracks.one ++ eject.one)) in
    let did = all_did from to disk old second.mid tracks.mid eject.mid (put.one ++ ready.one) tracks.one eject.one
    (subst (λ (s : Shape). Did (request.Insert 0 from ∷ preparing to s) old (put.one ++ ready.one) second.mid) same opens)
    (subst (λ (s : Shape). CopiesEach s.rate (tracks_of s.cylinders s.heads) tt second.mid tracks.one tt tracks.mid) same tracks.knows)
    eject.knows course parts in
    let requests = copy_requests from to disk (marks_read course) in
    record {
      image = image;
      all = subst (λ (f : Option Files). DoesAll requests old.state f course new.state new.files) there
          (over_all requests old course eject.mid did new end.1.state end.1.files);
    }

-- a copy that succeeds stores a copy of the disk
pub copy_stores : (from to : List ℕ) (old new : World) (course : List Taken) (files : Files) (disk : Disk)
    → RunsScript (copy_script from to) old course new status.AllOk → old.files ≡ Some files → IsImageOf (Some files) from disk
    → length old.state.station.memory ≡ user_bytes → IsFaultless 1 old.state.station.counters new.state.station.counters
    → StoresCopy disk to old.state.station.counters (Some files) course new.state.station.counters new.files
copy_stores from to old new course files disk runs there image size faultless =
    copies_disk laid_tidy from to disk files old.state new.state new.files course (copy_done from to old new course files disk runs there image) size faultless

-- ---- the command that formats runs the requests of a format, and stores a formatted disk

format_passes : (name : List ℕ) (cylinders : ℕ) (rate : Rate)
    → Passes status.AllOk (formats_disk name cylinders rate) (Does (format_requests rate name cylinders))
unfolding formats_disk
format_passes name cylinders rate =
    let blank = blank_request 0 name cylinders rate in
    let ready = request.Ack 0 ∷ rate_requests rate 0 in
    let formats_all = format_each 0 (tracks_of cylinders 2) in
    let eject = request.Eject 0 ∷ [] in
    subst (λ (l : List Request). Passes status.AllOk (formats_disk name cylinders rate) (Does (blank ∷ request.Ack 0 ∷ l)))
    (sym (append_assoc (rate_requests rate 0) formats_all eject))
    (does_both status.AllOk (carries blank) _ (blank ∷ []) (ready ++ (formats_all ++ eject)) (carries_passes blank)
    (does_both status.AllOk (acknowledges 0 rate) _ ready (formats_all ++ eject) (acknowledges_passes 0 rate)
    (does_both status.AllOk (by_track cylinders 2 (formats 0) tt) (carries (request.Eject 0)) formats_all eject (formats_pass 0 cylinders 2)
    (carries_passes (request.Eject 0)))))

pub format_done : (rate : Rate) (name : List ℕ) (cylinders : ℕ) (old new : World) (course : List Taken)
    → RunsScript (format_script name cylinders rate) old course new status.AllOk
    → DoesAll (format_requests rate name cylinders) old.state old.files course new.state new.files
unfolding format_script
format_done rate name cylinders old new course runs =
    let all = over status.AllOk (formats_disk name cylinders rate) _ (λ none. format_text (cylinders * 2) ∷ []) (λ none. status.AllOk)
    (format_passes name cylinders rate) old course new runs in
    over_all (format_requests rate name cylinders) old course all.mid all.knows new all.state all.files

-- a format that succeeds stores a formatted disk
pub format_stores : (rate : Rate) (name : List ℕ) (cylinders : ℕ) (old new : World) (course : List Taken)
    → RunsScript (format_script name cylinders rate) old course new status.AllOk → IsFaultless 0 old.state.station.counters new.state.station.counters
    → StoresFormatted rate name cylinders old.files new.files
format_stores rate name cylinders old new course runs faultless =
    stores_disk rate name cylinders old.state new.state old.files new.files course (format_done rate name cylinders old new course runs) faultless

-- ---- the new log of a rescue. Its lines are those of some of the records that were asked for, in their order, so
-- that the next run finds a log.

-- ---- the lines of the log

-- the lines are of some of the keys, in their order
abbrev AreOf : List LogLine → List Chrn → Type 0
AreOf lines [] = lines ≡ []
AreOf lines (key ∷ keys) =
    AreOf lines keys ⊎ ((line : LogLine) × (later : List LogLine) × (lines ≡ line ∷ later) × (line.key ≡ key) × AreOf later keys)

lines_are_of : {keys : List Chrn} {old : World} {course : List Taken} {new : World} → GoesKeys keys old course new → AreOf (log_of course) keys
lines_are_of (Over old) = refl
lines_are_of (Lost key keys cause old read files later new is goes) =
    inr (record { key = key; code = cause }, log_of later, log_of_lost key cause old read files later is, refl, lines_are_of goes)
lines_are_of (Kept key keys deleted old read files write more later new is wrote goes) = grind (arith, log_of_kept, lines_are_of goes)

all_of : (P : Chrn → Type 0) (keys : List Chrn) (lines : List LogLine) → AreOf lines keys → AllByRecursion P keys
    → AllByRecursion (λ (line : LogLine). P line.key) lines
all_of P [] lines are all = subst (AllByRecursion (λ (line : LogLine). P line.key)) (sym are) tt
all_of P (key ∷ keys) lines (inl are) all = all_of P keys lines are all.1
all_of P (key ∷ keys) lines (inr (line, later, is, same, are)) all =
    subst (AllByRecursion (λ (line : LogLine). P line.key)) (sym is) (subst P (sym same) all.0, all_of P keys later are all.1)

-- the lines are those of these keys alone
pub only_of : {keys : List Chrn} {old : World} {course : List Taken} {new : World} → GoesKeys keys old course new
    → All (Contains keys) (logged_keys (log_of course))
only_of {keys = keys} {course = course} goes =
    let each = recursion_from_All (Contains keys) keys (All-contains_itself keys) in
    All-map (Contains keys) (λ (line : LogLine). line.key) (log_of course)
    (All-from_recursion (λ (line : LogLine). Contains keys line.key) (log_of course)
    (all_of (Contains keys) keys (log_of course) (lines_are_of goes) each))

-- each record is before all later ones
abbrev Rising : List LogLine → Type 0
Rising lines = AllPairs (λ (a b : LogLine). IsBefore a.key b.key) lines

rises_of : (keys : List Chrn) (lines : List LogLine) → AreOf lines keys → AllPairs IsBefore keys → Rising lines
rises_of [] lines are rising = subst Rising (sym are) (λ i j d order inside. absurd (omega arith))
rises_of (key ∷ keys) lines (inl are) rising =
    rises_of keys lines are (λ i j d order inside. rising (suc i) (suc j) d (omega arith) (omega arith))
rises_of (key ∷ keys) lines (inr (line, later, is, same, are)) rising =
    let rest = rises_of keys later are (λ i j d order inside. rising (suc i) (suc j) d (omega arith) (omega arith)) in
    let before : All (IsBefore key) keys = λ j d inside. rising 0 (suc j) d (omega arith) (omega arith) in
    let from_line = subst (λ (k : Chrn). AllByRecursion (IsBefore k) keys) (sym same) (recursion_from_All (IsBefore key) keys before) in
    let behind = all_of (IsBefore line.key) keys later are from_line in
    subst Rising (sym is)
    (AllPairs-cons (λ (a b : LogLine). IsBefore a.key b.key) line later (All-from_recursion (λ (b : LogLine). IsBefore line.key b.key) later behind) rest)

valid_of : (disk : Disk) (lines : List LogLine) → AllByRecursion (λ (line : LogLine). IsAsked disk line.key) lines → AreRefusals lines
    → AllByRecursion (IsLogLine (sectors_at disk.rate)) lines
valid_of disk [] asked refused = tt
valid_of disk (line ∷ later) asked refused = (
  assumption,
  valid_of disk later asked.1 refused.1,
)

-- ---- how long the log is

-- the length of a record's line with its line feed: three numbers, a code of two digits, three spaces
abbrev line_size : Chrn → ℕ
line_size key = length (decimal key.c) + length (decimal key.h) + length (decimal key.r) + 6

two_digits : (n : ℕ) → length (hex2 n) ≡ 2
two_digits n = grind (arith, hex_one_digit)

words_long : (c h r code : List ℕ) → length code ≡ 2
    → length ((c ++ (32 ∷ (h ++ (32 ∷ (r ++ (32 ∷ code)))))) ++ 10 ∷ []) ≡ length c + length h + length r + 6
words_long c h r code two = grind (arith, length-append)

line_long : (line : LogLine) → length (line_text line ++ 10 ∷ []) ≡ line_size line.key
line_long line =
    words_long (decimal line.key.c) (decimal line.key.h) (decimal line.key.r) (code_text line.code) (two_digits (code_number line.code))

-- the length of the lines of some records
abbrev text_size : List Chrn → ℕ
text_size [] = 0
text_size (key ∷ keys) = line_size key + text_size keys

text_long : (lines : List LogLine) → length (log_text lines) ≡ text_size (logged_keys lines)
text_long [] = refl
text_long (line ∷ later) = grind (arith, line_long, length-append, text_long later)

less_of : (keys : List Chrn) (lines : List LogLine) → AreOf lines keys → text_size (logged_keys lines) ≤ text_size keys
less_of [] lines are = subst (λ (row : List LogLine). text_size (logged_keys row) ≤ 0) (sym are) (omega arith)
less_of (key ∷ keys) lines (inl are) = let less = less_of keys lines are in omega (arith, less)
less_of (key ∷ keys) lines (inr (line, later, is, same, are)) = grind (arith, less_of keys later are)

size_most : (disk : Disk) (keys : List Chrn) → AllByRecursion (IsAsked disk) keys → text_size keys ≤ 11 * length keys
size_most disk [] asked = omega arith
size_most disk (key ∷ keys) asked =
    let sector = asked.0.sector.1 in
    let few = few_sectors disk.rate in
    let c = length-decimal-le 2 key.c (lit< tt) (omega (arith, asked.0.cylinder)) (omega (arith, asked.0.cylinder)) in
    let h = length-decimal-le 1 key.h (lit< tt) (omega (arith, asked.0.side)) (omega (arith, asked.0.side)) in
    let r = length-decimal-le 2 key.r (lit< tt) (omega (arith, sector, few)) (omega (arith, sector, few)) in
    let rest = size_most disk keys asked.1 in
    omega (arith, c, h, r, rest)

pub count_standard : (disk : Disk) → length (standard_keys disk.rate disk.cylinders disk.heads) ≡ disk.cylinders * disk.heads * sectors_at disk.rate
unfolding standard_keys disk_keys
count_standard disk = standard_count disk

-- ---- the log

module _ (disk : Disk) (files : Files) (log : List ℕ) (few_cylinders : disk.cylinders ≤ 80) (few_heads : disk.heads ≤ 2) where
  text_fits : (found : Option (List LogLine)) → IsLogFound (Some files) log (sectors_at disk.rate) found
      → text_size (asked_keys (shape_of disk) found) ≤ most_log_bytes
  text_fits None there =
      let most = size_most disk (asked_keys (shape_of disk) None) (asked_all disk files log None few_cylinders few_heads there) in
      let count = count_standard disk in
      let tracks = mul-le disk.cylinders disk.heads 80 2 few_cylinders few_heads in
      let all = mul-le (disk.cylinders * disk.heads) (sectors_at disk.rate) 160 18 (omega (arith, tracks)) (few_sectors disk.rate) in
      omega (arith, most, count, all)
  text_fits (Some lines) there = grind (arith, text_long)

  -- what a rescue logs is a log again, and isn't too long for the next run
  pub logs_again : (found : Option (List LogLine)) → IsLogFound (Some files) log (sectors_at disk.rate) found
      → {old : World} {course : List Taken} {new : World} → GoesKeys (asked_keys (shape_of disk) found) old course new → AreRefusals (log_of course)
      → IsLog (sectors_at disk.rate) (log_of course) × (length (log_text (log_of course)) ≤ most_log_bytes)
  logs_again found there {course = course} goes refused =
      let keys = asked_keys (shape_of disk) found in
      let lines = log_of course in
      let are = lines_are_of goes in
      let asked = all_of (IsAsked disk) keys lines are (asked_all disk files log found few_cylinders few_heads there) in
      let long = text_long lines in
      let less = less_of keys lines are in
      let fits = text_fits found there in (
        record {
          each = All-from_recursion (IsLogLine (sectors_at disk.rate)) lines (valid_of disk lines asked refused);
          rising = rises_of keys lines are (asked_rises disk files log found there);
        },
        omega (arith, long, less, fits),
      )
