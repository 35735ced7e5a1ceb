-- The marks that the reads of a course told, and the reads and writes of a copied track. Each record is written with
-- its own mark.
use Rattle.std.proofs.Common.{◌≡◌, Bool, true, false, true≢false, List, [], ◌∷◌, ◌++◌, refl, sym, inl, inr, arith, ◌∙◌, ◌+◌, ◌-◌, ◌<◌, ◌≤◌, ℕ, suc, length, set, get_or, ap, subst, Option, Result, Ok, Err, take, Some}
use Rattle.laws_commands.proofs.Common.{list_all, flat_map, range_with_len, flat_map-append, get_or-set_same, get_or-set_other, length-set, Chrn, Files, Code, key_of, Request, Reply, Taken, requests_of, State, Step, read_reply, is_refusal, World, each, record_address, Passes, Did, IsTaken, did_nothing, did_both, taken_did, needs_passes, carries_passes, numbers_pass, each_does, tells_deleted, write_request, mark_of, marks_read, write_record, write_records, read_records, SomeStep, cases_eq, append-nil, take_at, words_at, gap_at, standard_fill, sectors_at, Rate, Disk, IsDisk, HasTrack, track_of, user_bytes, Counters, IsFaultless, Two, in_bay, IsLaid, IsRegular, formatted, format_at, IsRegularDisk, KeepsTracks, alike_tracks, stays_regular, keeps_both, FormatsDrive, format_refusal, StationState, Bay, bay_of, DoesAll, copy_track, standard_track, standard_content, Gave, HasAsGiven, IsSure}
use Rattle.commands.proofs.Passed.{Does}
use Rattle.disk_commands.specs.Copy.{reads_record, writes_record}
use Rattle.laws_commands.proofs.Steps.{and_both, NeverFell, splits, begins, ends_there, never_fell, ok_called, reached}
use Rattle.laws_commands.proofs.DiskRecords.{keys_from, AreGiven, all_records, reads_keep, sure_parts, drive_formats}
use Rattle.sector_map.specs.Standard.{track_keys}
use Rattle.laws_commands.proofs.Sectors.{few_sectors, track_regular, track_laid, track_sector, HasContent}
use Rattle.laws_commands.proofs.Written.{AllTidy, AreCopied, HasSome, all_writes, writes_keep}
use Rattle.flop_base.specs.declared.answers.Status.TheVariants as status
use Rattle.floppy_jobs.specs.declared.request.Request.TheVariants as request

pub marks-append : (one two : List Taken) → marks_read (one ++ two) ≡ marks_read one ++ marks_read two
marks-append one two = flat_map-append (λ (taken : Taken). mark_of taken.asked taken.answer) one two

-- whether the request is no read
abbrev pub is_no_read : Request → Bool
is_no_read (request.Read bay key address) = false
is_no_read _ = true

no_mark : (asked : Request) (answer : Reply) → is_no_read asked ≡ true → mark_of asked answer ≡ []
no_mark (request.Read bay key address) answer e = absurd (true≢false (sym e))
no_mark _ answer e = refl

pub no_marks : (course : List Taken) → list_all is_no_read (requests_of course) ≡ true → marks_read course ≡ []
no_marks [] e = refl
no_marks (taken ∷ later) e =
    let both = and_both (is_no_read taken.asked) (list_all is_no_read (requests_of later)) e in
    let first = no_mark taken.asked taken.answer both.0 in
    let rest = no_marks later both.1 in
    rw (first, rest) refl

write_is_none : (key : Chrn) (deleted : Bool) → is_no_read (write_record 1 key deleted) ≡ true
write_is_none key true = refl
write_is_none key false = refl

pub writes_are_none : (keys : List Chrn) (marks : List Bool) → list_all is_no_read (write_records 1 keys marks) ≡ true
writes_are_none (key ∷ keys) (deleted ∷ marks) = let first = write_is_none key deleted in rw first (writes_are_none keys marks)
writes_are_none _ _ = refl

pub some_first : (P : Taken → Type 0) (one two : List Taken) → SomeStep P one → SomeStep P (one ++ two)
some_first P [] two some = absurd some
some_first P (taken ∷ one) two (inl here) = inl here
some_first P (taken ∷ one) two (inr later) = inr (some_first P one two later)

pub some_second : (P : Taken → Type 0) (one two : List Taken) → SomeStep P two → SomeStep P (one ++ two)
some_second P [] two some = some
some_second P (taken ∷ one) two some = inr (some_second P one two some)

-- ---- the mark of a read

called_mark : (bay : ℕ) (key : Chrn) (address : ℕ) (called : Result Bool Code) → is_refusal (read_reply called) ≡ false
    → mark_of (request.Read bay key address) (read_reply called) ≡ tells_deleted (read_reply called) ∷ []
called_mark bay key address (Ok true) done = refl
called_mark bay key address (Ok false) done = refl
called_mark bay key address (Err code) done = absurd (true≢false done)

read_mark : (bay : ℕ) (key : Chrn) (address : ℕ) (old new : State) (told after : Option Files) (answer : Reply)
    → Step (request.Read bay key address) old told answer new after → is_refusal answer ≡ false
    → mark_of (request.Read bay key address) answer ≡ tells_deleted answer ∷ []
read_mark bay key address old new told after answer step done = grind (arith, called_mark)

-- ---- the reads

-- the marks of the records from r on are kept in the list, at the places of these records
abbrev pub AreKept : List Bool → ℕ → List Bool → Type 0
AreKept found r [] = Unit {0}
AreKept found r (deleted ∷ marks) = (get_or found (r - 1) false ≡ deleted) × AreKept found (r + 1) marks

-- The records of a track from `first` on were read. If the list has room for their marks, it keeps them.
pub record ReadsMarks (c h first count : ℕ) (begun : List Bool) (old : World) (course : List Taken) (found : List Bool) (mid : World) : Type 0 where
  pub did : Did (read_records 0 (keys_from c h first count)) old course mid
  pub count_is : length (marks_read course) ≡ count
  pub kept : 1 ≤ first → first + count ≤ length begun + 1 → AreKept found first (marks_read course)
  pub still : (i : ℕ) → i + 1 < first → get_or found i false ≡ get_or begun i false

-- the list of marks after a read
abbrev finds : List Bool → ℕ → Reply → State → List Bool
finds marks r answer after = set marks (r - 1) (tells_deleted answer)

module _ (c h : ℕ) where
  none_read : (i : ℕ) (found : List Bool) (now : World) → ReadsMarks c h i 0 found now [] found now
  none_read i found now = record { did = did_nothing now; count_is = refl; kept = λ least most. tt; still = λ k below. refl }

  one_mark : (r : ℕ) (begun found : List Bool) (old mid : World) (course : List Taken)
      (taken : IsTaken (request.Read 0 (key_of c h r) (record_address r)) (finds begun r) old course found mid)
      → marks_read course ≡ tells_deleted taken.is.taken.answer ∷ []
  one_mark r begun found old mid course taken = grind (arith, read_mark)

  one_more : (r n : ℕ) (begun found last : List Bool) (old mid new : World) (one two : List Taken)
      → IsTaken (request.Read 0 (key_of c h r) (record_address r)) (finds begun r) old one found mid
      → ReadsMarks c h (r + 1) n found mid two last new → ReadsMarks c h r (suc n) begun old (one ++ two) last new
  one_more r n begun found last old mid new one two taken rest =
      let asked = request.Read 0 (key_of c h r) (record_address r) in
      let deleted = tells_deleted taken.is.taken.answer in
      let all : marks_read (one ++ two) ≡ deleted ∷ marks_read two = marks-append one two
      ∙ ap (λ (row : List Bool). row ++ marks_read two) (one_mark r begun found old mid one taken) in
      let size : length found ≡ length begun = ap length taken.is.found_is ∙ length-set begun (r - 1) deleted in
      let more = rest.count_is in
      record {
        did = did_both (asked ∷ []) (read_records 0 (keys_from c h (r + 1) n)) old mid new one two
            (taken_did asked (finds begun r) old one found mid taken) rest.did;
        count_is = let whole = ap length all in omega (arith, whole, more);
        kept = λ least most.
            let here = rest.still (r - 1) (omega (arith, least))
            ∙ ap (λ (row : List Bool). get_or row (r - 1) false) taken.is.found_is
            ∙ get_or-set_same begun (r - 1) deleted false (omega (arith, least, most)) in
            subst (AreKept last r) (sym all) (here, rest.kept (omega arith) (omega (arith, most, size)));
        still = λ i below.
            rest.still i (omega (arith, below))
            ∙ ap (λ (row : List Bool). get_or row i false) taken.is.found_is
            ∙ get_or-set_other begun (r - 1) i deleted false (λ same. omega (arith, same, below));
      }

  pub reads_pass : (count first : ℕ) (begun : List Bool) → Passes status.AllOk (each first count (reads_record c h) begun) (ReadsMarks c h first count begun)
  unfolding reads_record
  reads_pass count first begun =
      numbers_pass status.AllOk (reads_record c h) (λ r marks. IsTaken (request.Read 0 (key_of c h r) (record_address r)) (finds marks r))
      (ReadsMarks c h) none_read one_more
      (λ r marks. needs_passes (request.Read 0 (key_of c h r) (record_address r)) (finds marks r)) count first begun

-- ---- the writes

write_is : (deleted : Bool) (key : Chrn) → write_request deleted key (record_address key.r) ≡ write_record 1 key deleted
write_is true key = refl
write_is false key = refl

-- the writes of this many records, from `first` on, with the marks that are kept
abbrev pub writes_of : List Bool → ℕ → ℕ → ℕ → ℕ → List Request
writes_of found c h first count =
    flat_map (λ r. write_request (get_or found (r - 1) false) (key_of c h r) (record_address r) ∷ []) (range_with_len first count)

writes_kept : (found : List Bool) (c h r : ℕ) (marks : List Bool) → AreKept found r marks
    → writes_of found c h r (length marks) ≡ write_records 1 (keys_from c h r (length marks)) marks
writes_kept found c h r [] kept = refl
writes_kept found c h r (deleted ∷ marks) kept =
    grind (arith, write_is, writes_kept found c h (r + 1) marks kept.1)

pub writes_are : (found : List Bool) (c h first count : ℕ) (marks : List Bool) → length marks ≡ count → AreKept found first marks
    → writes_of found c h first count ≡ write_records 1 (keys_from c h first count) marks
writes_are found c h first count marks size kept =
    subst (λ (n : ℕ). writes_of found c h first n ≡ write_records 1 (keys_from c h first n) marks) size (writes_kept found c h first marks kept)

pub writes_pass : (found : List Bool) (c h first count : ℕ)
    → Passes status.AllOk (each first count (writes_record found c h) tt) (Does (writes_of found c h first count))
unfolding writes_record
writes_pass found c h first count =
    each_does status.AllOk first count (writes_record found c h) (λ r. write_request (get_or found (r - 1) false) (key_of c h r) (record_address r) ∷ [])
    (λ r. carries_passes (write_request (get_or found (r - 1) false) (key_of c h r) (record_address r)))

-- ---- the copy of one track: it is formatted, its records are read, and they are written

-- Bay 0 has the source. Bay 1 has a disk of this rate that can be written. Memory has its size.
pub record IsReady (at : Rate) (source disk : Disk) (state : State) : Type 0 where
  pub first : (bay_of state.station 0).medium ≡ Some source
  pub medium : (bay_of state.station 1).medium ≡ Some disk
  pub bay_rate : (bay_of state.station 1).rate ≡ at
  pub valid : IsDisk disk
  pub regular : IsRegularDisk disk
  pub rate : disk.rate ≡ at
  pub words : disk.words_per_track ≡ words_at at
  pub size : length state.station.memory ≡ user_bytes

-- what the copy of a track did to the disk in bay 1
pub record CopiesTrack (sure : Type 0) (source : Disk) (at : Rate) (c h : ℕ) (disk : Disk) (old : State) (told : Option Files) (course : List Taken) (new : State) (after : Option Files) : Type 0 where
  pub final : Disk
  pub ready : IsReady at source final new
  pub keeps : KeepsTracks disk c h final
  pub laid : IsLaid (track_of final c h)
  pub sectors : (r : ℕ) → 1 ≤ r → r ≤ sectors_at at → HasAsGiven sure course source final c h r
  pub count : length (marks_read course) ≡ sectors_at at
  pub names : new.names ≡ old.names
  pub files : after ≡ told

-- ---- the format

pub record FormatsIt (at : Rate) (source : Disk) (c h : ℕ) (disk : Disk) (old : State) (told : Option Files) (new : State) (after : Option Files) : Type 0 where
  pub next : Disk
  pub ready : IsReady at source next new
  pub keeps : KeepsTracks disk c h next
  pub track : track_of next c h ≡ standard_track at c h
  pub names : new.names ≡ old.names
  pub files : after ≡ told

pub small : (disk : Disk) (c h : ℕ) → IsDisk disk → HasTrack disk c h → (c < 256) × (h < 256)
small disk c h valid has = (omega (arith, has.0, valid.cylinders.1), omega (arith, has.1, valid.heads.1))

pub formats_it : (rate : Rate) (source : Disk) (c h : ℕ) (disk : Disk) (old new : State) (told after : Option Files) (course : List Taken)
    → DoesAll (request.Format 1 c h ∷ []) old told course new after → IsReady rate source disk old → HasTrack disk c h
    → IsFaultless 1 old.station.counters new.station.counters → FormatsIt rate source c h disk old told new after
formats_it rate source c h disk old new told after course all ready has faultless =
    let first = begins old new told after (request.Format 1 c h) [] course all in
    let end = ends_there first.mid new first.files after first.later first.behind in
    let does = first.does in
    let called = does.1.0 in
    let ok = ok_called called first.answer does.1.1 first.done in
    let drive = reached (format_refusal old.station 1 c h (gap_at (bay_of old.station 1).rate)) called old.station first.mid.station does.1.2 ok in
    let at = subst (λ (r : Rate). FormatsDrive (format_at c h r (gap_at r) standard_fill) 1 old.station called first.mid.station) ready.bay_rate drive in
    let calm = subst (λ (s : State). IsFaultless 1 old.station.counters s.station.counters) end.0 faultless in
    let formats = drive_formats 1 rate c h disk old.station first.mid.station called at ok calm ready.medium ready.valid in
    let keeps = formats.2 in
    let track : track_of formats.0 c h ≡ standard_track rate c h = formats.3 ∙ ap (λ (n : ℕ). formatted (format_at c h rate (gap_at rate) standard_fill) n) ready.words in
    let tiny = small disk c h ready.valid has in
    let regular = stays_regular disk c h formats.0 keeps ready.regular (subst (λ (t : List ℕ). IsRegular t c h) (sym track) (track_regular rate c h tiny.0 tiny.1)) in
    let at_mid : IsReady rate source formats.0 first.mid = record {
      first = ap (λ (s : StationState). (bay_of s 0).medium) drive.becomes ∙ ready.first;
      medium = formats.1;
      bay_rate = ap (λ (s : StationState). (bay_of s 1).rate) drive.becomes ∙ ready.bay_rate;
      valid = keeps.alike.valid;
      regular = regular;
      rate = keeps.alike.rate ∙ ready.rate;
      words = keeps.alike.words_per_track ∙ ready.words;
      size = ap (λ (s : StationState). length s.memory) drive.becomes ∙ ready.size;
    } in
    search (subst (λ (s : State). IsReady rate source formats.0 s) (sym end.0) at_mid, ap (λ (s : State). s.names) end.0 ∙ does.0.names, end.1 ∙ does.0.files)

-- ---- the records

pub track_keys_from : (sectors c h : ℕ) → track_keys sectors c h ≡ keys_from c h 1 sectors
unfolding track_keys
track_keys_from sectors c h = refl

-- a record that was read and then written is on the copy as it was given
given_copied : (sure : Type 0) (source : Disk) (course : List Taken) (memory : List ℕ) (final : Disk) (c h a : ℕ) (marks : List Bool)
    → AreGiven sure source course memory c h a marks → AreCopied final memory c h a marks → (r : ℕ) → a ≤ r → r < a + length marks
    → HasAsGiven sure course source final c h r
given_copied sure source course memory final c h a [] given copied r from below = absurd (omega arith)
given_copied sure source course memory final c h a (deleted ∷ marks) given copied r from below = elim (cases_eq r a) [
  | inl same ↦ subst (HasAsGiven sure course source final c h) (sym same) (copied.0.0, deleted, _, given.0.step, copied.0.1, given.0.sector, given.0.field)
  | inr other ↦ given_copied sure source course memory final c h (a + 1) marks given.1 copied.1 r (omega arith) (omega arith)
]

-- what was given in a course was also given in a longer course
pub given_in : (sure : Type 0) (source : Disk) (course whole : List Taken) (copied : Disk) (c h r : ℕ)
    → ((deleted : Bool) (content : List ℕ) → SomeStep (Gave (key_of c h r) deleted content) course → SomeStep (Gave (key_of c h r) deleted content) whole)
    → HasAsGiven sure course source copied c h r → HasAsGiven sure whole source copied c h r
given_in sure source course whole copied c h r more (place, deleted, content, step, on, sector, field) =
    (place, deleted, content, more deleted content step, on, sector, field)

-- ---- the track

pub both_fell : (old mid new : Counters) → NeverFell old mid → NeverFell mid new → NeverFell old new
both_fell old mid new one two = record {
  first = omega (arith, one.first, two.first);
  second = omega (arith, one.second, two.second);
  stalls = omega (arith, one.stalls, two.stalls);
}

pub copies_track : (tidy : AllTidy) (sure : Type 0) (source : Disk) (rate : Rate) (c h : ℕ) (marks more : List Bool) (disk : Disk) (old new : State)
    (told after : Option Files) (course : List Taken)
    → DoesAll (copy_track rate (c, h) marks) old told course new after → marks ≡ take (sectors_at rate) (marks_read course ++ more)
    → IsReady rate source disk old → HasTrack disk c h → IsFaultless 1 old.station.counters new.station.counters
    → (sure → IsSure source old.station.counters new.station.counters) → CopiesTrack sure source rate c h disk old told course new after
copies_track tidy sure source rate c h marks more disk old new told after course all asked ready has faultless calm =
    let sectors = sectors_at rate in
    let keys = track_keys sectors c h in
    let few = few_sectors rate in
    let one = splits old new told after (request.Format 1 c h ∷ []) (read_records 0 keys ++ write_records 1 keys marks) course all in
    let two = splits one.mid new one.files after (read_records 0 keys) (write_records 1 keys marks) one.two one.behind in
    let fell_format = never_fell old one.mid told one.files (request.Format 1 c h ∷ []) one.one one.before refl in
    let fell_reads = never_fell one.mid two.mid one.files two.files (read_records 0 keys) two.one two.before (reads_keep keys) in
    let fell_writes = never_fell two.mid new two.files after (write_records 1 keys marks) two.two two.behind (writes_keep 1 keys marks) in
    let formats = formats_it rate source c h disk old one.mid told one.files one.one one.before ready has (omega (arith, fell_reads.second, fell_writes.second, faultless.0), omega (arith, fell_reads.second, fell_writes.second, faultless.1)) in
    let from = track_keys_from sectors c h in
    let asked_reads = subst (λ (row : List Chrn). DoesAll (read_records 0 row) one.mid one.files two.one two.mid two.files) from two.before in
    let fell_behind = both_fell one.mid.station.counters two.mid.station.counters new.station.counters fell_reads fell_writes in
    let calm_reads = λ (s : sure).
    (sure_parts source one.mid.station.counters two.mid.station.counters new.station.counters fell_reads fell_writes
    (sure_parts source old.station.counters one.mid.station.counters new.station.counters fell_format fell_behind (calm s)).1).0 in
    let reads = all_records sure source c h 1 sectors one.mid two.mid one.files two.files two.one asked_reads formats.ready.size (omega arith) (omega (arith, few)) formats.ready.first calm_reads in
    let no_format = no_marks one.one (rw one.before.all refl) in
    let no_write = no_marks two.two (rw two.behind.all (writes_are_none keys marks)) in
    let told_marks : marks_read course ≡ reads.marks =
    ap marks_read one.is ∙ marks-append one.one one.two ∙ ap (λ (row : List Bool). row ++ marks_read one.two) no_format
    ∙ ap marks_read two.is ∙ marks-append two.one two.two ∙ ap (λ (row : List Bool). marks_read two.one ++ row) no_write
    ∙ append-nil (marks_read two.one) ∙ reads.marks_are in
    let count : length (marks_read course) ≡ sectors = ap length told_marks ∙ reads.count in
    let same_marks : marks ≡ reads.marks = asked ∙ take_at (marks_read course) more sectors count ∙ told_marks in
    let asked_writes = subst (λ (row : List Chrn). DoesAll (write_records 1 row reads.marks) two.mid two.files two.two new after) from (subst (λ (row : List Bool). DoesAll (write_records 1 keys row) two.mid two.files two.two new after) same_marks two.behind) in
    let tiny = small disk c h ready.valid has in
    let has_next = (alike_tracks disk formats.next c h formats.keeps.alike).0 has in
    let laid = subst IsLaid (sym formats.track) (track_laid rate c h tiny.0 tiny.1) in
    let there = λ (r : ℕ) (from : 1 ≤ r) (below : r < 1 + sectors).
    let it = track_sector rate c h r tiny.0 tiny.1 from (omega arith) in
    let on = subst (λ (t : List ℕ). HasContent t it.0 (key_of c h r) standard_content) (sym formats.track) it.1 in
    let some : HasSome formats.next c h r = (it.0, false, standard_content, record { track = has_next; address = on.address; content = on.found }) in
    some in
    let bay = ap (λ (bays : Two Bay). in_bay bays 1) reads.bays in
    let medium : (bay_of two.mid.station 1).medium ≡ Some formats.next = ap (λ (b : Bay). b.medium) bay ∙ formats.ready.medium in
    let bay_rate : (bay_of two.mid.station 1).rate ≡ rate = ap (λ (b : Bay). b.rate) bay ∙ formats.ready.bay_rate in
    let writes = all_writes tidy 1 formats.next c h 1 sectors reads.marks two.mid new two.files after two.two asked_writes reads.count (omega arith) (omega (arith, few)) there formats.ready.valid formats.ready.regular has_next laid reads.size (omega (arith, fell_format.second, fell_reads.second, faultless.0), faultless.1) medium (bay_rate ∙ sym formats.ready.rate) in
    record {
      final = writes.final;
      ready = record {
        first = ap (λ (b : Bay). b.medium) (writes.first refl) ∙ ap (λ (bays : Two Bay). (in_bay bays 0).medium) reads.bays ∙ formats.ready.first;
        medium = writes.medium;
        bay_rate = writes.bay_rate ∙ bay_rate;
        valid = writes.keeps.alike.valid;
        regular = writes.regular;
        rate = writes.keeps.alike.rate ∙ formats.ready.rate;
        words = writes.keeps.alike.words_per_track ∙ formats.ready.words;
        size = ap (λ (m : List ℕ). length m) writes.memory ∙ reads.size;
      };
      keeps = keeps_both disk formats.next writes.final c h formats.keeps writes.keeps;
      laid = writes.laid;
      sectors = λ r least most.
          let given = given_copied sure source two.one two.mid.station.memory writes.final c h 1 reads.marks reads.given writes.copied r least (let n = reads.count in omega arith) in
          given_in sure source two.one course writes.final c h r
          (λ deleted content step.
          subst (SomeStep (Gave (key_of c h r) deleted content)) (sym one.is)
          (some_second _ one.one one.two (subst (SomeStep (Gave (key_of c h r) deleted content)) (sym two.is) (some_first _ two.one two.two step))))
          given;
      count = count;
      names = writes.names ∙ reads.names ∙ formats.names;
      files = writes.files ∙ reads.files ∙ formats.files;
    }
