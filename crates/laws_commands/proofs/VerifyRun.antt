-- The command that verifies tells which keys aren't found.
use Rattle.std.proofs.Common.{arith, map, ◌≡◌, ◌∙◌, ◌+◌, ◌*◌, ℕ, nat_le, Bool, true, false, List, [], ◌∷◌, ◌++◌, length, refl, sym, ap, subst, append_assoc, Option, Some, None, Result, Ok, Err, le-leb, ◌-◌}
use Rattle.std.specs.Prelude.{◌||◌}
use Rattle.laws_commands.proofs.Common.{flat_map, range_with_len, flat_map-append, append-nil, length-append, length-map, map-append, take_at, length-range_with_len, suc-mul, mul_assoc, Files, grown, sectors_at, Chrn, Code, Status, Disk, IsUndisturbed, Look, track_keys, AreFailing, length-track_keys, Request, Reply, Step, read_reply, IsImageOf, is_refusal, stop_status, Taken, Run, requests_of, has_refusal, World, Prints, IsPutFault, whole_status, Stop, bay_of, State, shape_of, Script, RunsScript, Part, asks, each, by_track, with_report, IsWhole, ask_run, ask_answered, prints_status, Passes, Passed, says_passes, at_once, run_both, each_nested, Did, over, failure_line, no_reads, one_more, verify_text, read_each, verify_opening, refused_read, refused_reads, ReadsDisk, IsUnmistaken, all_told_of, failing_line, TellsFailing, IsEndStatus}
use Rattle.sector_map.specs.Standard.{cylinder_keys, standard_keys}
use Rattle.commands.specs.Parts.{through}
use Rattle.disk_commands.specs.Verify.{tells_failure, verifies_record, verifies_track, verify_script, reads_disk}
use Rattle.disk_commands.specs.Disks.{sectors_of}
use Rattle.laws_commands.proofs.TrackParts.{records_part, opening_passed}
use Rattle.laws_commands.proofs.Verified.{disk_tells, opening_tells}
use Rattle.flop_base.specs.declared.answers.Status.TheVariants as status
use Rattle.floppy_jobs.specs.declared.request.Request.TheVariants as request
use Rattle.sector_model.specs.declared.reply.Stop.TheVariants as stop
use Rattle.sector_model.specs.declared.reply.Reason.TheVariants as reason

-- what a verify counts
abbrev type_of : {T : Type 0} → T → Type 0
type_of {T = T} value = T

abbrev pub Tally : Type 0
Tally = type_of no_reads

-- the tally after this many reads, of which this many were refused
pub record IsTally (reads refused : ℕ) (tally : Tally) : Type 0 where
  pub well : tally.well + refused ≡ reads
  pub some : tally.refused ≡ nat_le 1 refused

-- The keys were read. A line was printed for each read that was refused, and the others were counted.
pub record Verifies (keys : List Chrn) (begun : Tally) (old : World) (course : List Taken) (found : Tally) (mid : World) : Type 0 where
  pub run : Run old.state old.files course mid.state mid.files
  pub all : requests_of course ≡ read_each 0 keys
  pub report : mid.report ≡ grown old.report (map failing_line (refused_reads course))
  pub tally : (n before : ℕ) → IsTally n before begun → IsTally (n + length keys) (before + length (refused_reads course)) found

grown_none : (report : Option (List (List ℕ))) → report ≡ grown report []
grown_none None = refl
grown_none (Some told) = ap (λ (l : List (List ℕ)). Some l) (sym (append-nil told))

pub grown_twice : (report : Option (List (List ℕ))) (one two : List (List ℕ)) → grown (grown report one) two ≡ grown report (one ++ two)
grown_twice None one two = refl
grown_twice (Some told) one two = ap (λ (l : List (List ℕ)). Some l) (append_assoc told one two)

-- the tally after one more read that wasn't refused
one_well : (tally : Tally) (n before : ℕ) → IsTally n before tally → IsTally (n + 1) (before + 0) (one_more tally false)
one_well tally n before is = record {
  well = let well = is.well in omega (arith, well);
  some = go tally.refused ∙ is.some ∙ ap (nat_le 1) (let same : before ≡ before + 0 = omega arith in same);
}
  where
    go : (b : Bool) → (b || false) ≡ b
    go true = refl
    go false = refl

one_bad : (tally : Tally) (n before : ℕ) → IsTally n before tally → IsTally (n + 1) (before + 1) (one_more tally true)
one_bad tally n before is = record { well = let well = is.well in omega (arith, well); some = go tally.refused ∙ sym (le-leb 1 (before + 1) (omega arith)) }
  where
    go : (b : Bool) → (b || true) ≡ true
    go true = refl
    go false = refl

-- a record is read, and a line is printed if it can't be read
abbrev verifies_key : Chrn → Tally → Part Tally
verifies_key key tally rest = asks (request.Read 0 key 0x10000) (λ answer after. tells_failure key answer (λ none. rest (one_more tally (is_refusal answer))))

module _ (ended : Status) (whole : IsWhole ended) (rest : Tally → Script) (new : World) where
  -- these keys were left, and were read
  abbrev KeysPassed : List Chrn → Tally → World → List Taken → Type 0
  KeysPassed keys tally old course = Passed (Verifies keys tally) rest old course new ended

  -- the keys left after a read that was answered, with what was printed of it
  more : (key : Chrn) (keys : List Chrn) (tally : Tally) (old mid : World) (taken : Taken) (later : List Taken) (refused : Bool) (failed : List (Chrn × Code))
      → taken.asked ≡ request.Read 0 key 0x10000 → Step taken.asked old.state old.files taken.answer taken.after mid.files → mid.state ≡ taken.after
      → refused_read (request.Read 0 key 0x10000) taken.answer ≡ failed → mid.report ≡ grown old.report (map failing_line failed)
      → ((n before : ℕ) → IsTally n before tally → IsTally (n + 1) (before + length failed) (one_more tally refused))
      → KeysPassed keys (one_more tally refused) mid later → KeysPassed (key ∷ keys) tally old (taken ∷ later)
  more key keys tally old mid taken later refused failed asked step state failing report next b =
      let told : refused_reads (taken ∷ b.one) ≡ failed ++ refused_reads b.one =
      ap (λ (q : Request). refused_read q taken.answer ++ refused_reads b.one) asked ∙ ap (λ (row : List (Chrn × Code)). row ++ refused_reads b.one) failing in
      let size = ap length told ∙ length-append failed (refused_reads b.one) in
      let run = subst (λ (s : State). Run s mid.files b.one b.mid.state b.mid.files) state b.knows.run in
      let lines = map failing_line (refused_reads b.one) in
      record {
        one = taken ∷ b.one;
        two = b.two;
        found = b.found;
        mid = b.mid;
        course_is = ap (λ (l : List Taken). taken ∷ l) b.course_is;
        knows = record {
          run = (mid.files, step, run);
          all = ap (λ (q : Request). q ∷ requests_of b.one) asked ∙ ap (λ (l : List Request). request.Read 0 key 0x10000 ∷ l) b.knows.all;
          report = b.knows.report ∙ ap (λ r. grown r lines) report ∙ grown_twice old.report (map failing_line failed) lines
              ∙ ap (grown old.report) (sym (ap (map failing_line) told ∙ map-append failing_line failed (refused_reads b.one)));
          tally = λ n before is.
              let all : before + length failed + length (refused_reads b.one) ≡ before + length (refused_reads (taken ∷ b.one)) = omega (arith, size) in
              let count : n + 1 + length keys ≡ n + length (key ∷ keys) = omega arith in
              subst (λ (k : ℕ). IsTally k (before + length (refused_reads (taken ∷ b.one))) b.found) count
              (subst (λ (k : ℕ). IsTally (n + 1 + length keys) k b.found) all (b.knows.tally (n + 1) (before + length failed) (next n before is)));
        };
        left = b.left;
      }

  by_answer : (key : Chrn) (keys : List Chrn) (tally : Tally) (old : World) (taken : Taken) (later : List Taken) (files : Option Files)
      (called : Result Bool Code) → taken.asked ≡ request.Read 0 key 0x10000
      → Step taken.asked old.state old.files taken.answer taken.after files → taken.answer ≡ read_reply called
      → RunsScript (tells_failure key (read_reply called) (λ none. through verifies_key keys (one_more tally (is_refusal (read_reply called))) rest))
      (with_report taken.after files old.report) later new ended
      → ((t : Tally) (mid : World) (course : List Taken) → RunsScript (through verifies_key keys t rest) mid course new ended → KeysPassed keys t mid course)
      → KeysPassed (key ∷ keys) tally old (taken ∷ later)
  unfolding tells_failure
  by_answer key keys tally old taken later files (Ok true) asked step is left next =
      more key keys tally old (with_report taken.after files old.report) taken later false [] asked step refl
      (ap (refused_read (request.Read 0 key 0x10000)) is) (grown_none old.report) (one_well tally)
      (next (one_more tally false) (with_report taken.after files old.report) later left)
  by_answer key keys tally old taken later files (Ok false) asked step is left next =
      more key keys tally old (with_report taken.after files old.report) taken later false [] asked step refl
      (ap (refused_read (request.Read 0 key 0x10000)) is) (grown_none old.report) (one_well tally)
      (next (one_more tally false) (with_report taken.after files old.report) later left)
  by_answer key keys tally old taken later files (Err cause) asked step is left next =
      let line = failure_line key (reason.Driver cause) in
      let b = says_passes ended whole line (λ none. through verifies_key keys (one_more tally true) rest)
      (with_report taken.after files old.report) later new left in
      let is_later = b.course_is ∙ ap (λ (l : List Taken). l ++ b.two) b.knows.nothing in
      subst (λ (l : List Taken). KeysPassed (key ∷ keys) tally old (taken ∷ l)) (sym is_later)
      (more key keys tally old b.mid taken b.two true ((key, cause) ∷ []) asked
      (subst (λ (f : Option Files). Step taken.asked old.state old.files taken.answer taken.after f) (sym b.knows.files) step) b.knows.state
      (ap (refused_read (request.Read 0 key 0x10000)) is) b.knows.report (one_bad tally)
      (next (one_more tally true) b.mid b.two b.left))

  keys_run : (keys : List Chrn) (tally : Tally) (old : World) (course : List Taken) → RunsScript (through verifies_key keys tally rest) old course new ended
      → KeysPassed keys tally old course
  unfolding through
  keys_run [] tally old course runs = at_once tally runs (record {
    run = (refl, refl);
    all = refl;
    report = grown_none old.report;
    tally = λ n before is. subst (λ (k : ℕ). IsTally k (before + 0) tally) (let same : n ≡ n + 0 = omega arith in same)
        (subst (λ (k : ℕ). IsTally n k tally) (let same : before ≡ before + 0 = omega arith in same) is);
  })
  keys_run (key ∷ keys) tally old course runs =
      let read = request.Read 0 key 0x10000 in
      let next = λ (answer : Reply) (after : State). tells_failure key answer (λ none. through verifies_key keys (one_more tally (is_refusal answer)) rest) in
      let a = ask_answered read next old course new ended whole (ask_run read next old course new ended runs) in
      let step = subst (λ (q : Request). Step q old.state old.files a.taken.answer a.taken.after a.files) (sym a.asked_is) a.step in
      let left = subst (λ (r : Reply). RunsScript (next r a.taken.after) (with_report a.taken.after a.files old.report) a.later new ended) a.step.1.1 a.left in
      subst (KeysPassed (key ∷ keys) tally old) (sym a.course_is)
      (by_answer key keys tally old a.taken a.later a.files a.step.1.0 a.asked_is step a.step.1.1 left (λ t mid course. keys_run keys t mid course))

-- ---- all keys

track_part : (sectors c h : ℕ) (tally : Tally) (rest : Tally → Script)
    → verifies_track sectors c h tally rest ≡ through verifies_key (track_keys sectors c h) tally rest
unfolding verifies_track verifies_record
track_part sectors c h tally rest = records_part sectors c h (verifies_record c h) verifies_key (λ r now next. refl) tally rest

disk_part : (disk : Disk) (tally : Tally) (rest : Tally → Script)
    → by_track disk.cylinders disk.heads (verifies_track (sectors_at disk.rate)) tally rest ≡ through verifies_key (standard_keys disk) tally rest
unfolding standard_keys cylinder_keys
disk_part disk tally rest = search (each_nested, track_part)

pub keys_pass : (ended : Status) → IsWhole ended → (disk : Disk)
    → Passes ended (by_track disk.cylinders disk.heads (verifies_track (sectors_at disk.rate)) no_reads) (Verifies (standard_keys disk) no_reads)
keys_pass ended whole disk rest old course new runs = grind (arith, keys_run, disk_part)

-- how many keys there are
length_same : {X Y : Type 0} (f : X → List Y) (k : ℕ) (xs : List X) → ((x : X) → length (f x) ≡ k) → length (flat_map f xs) ≡ length xs * k
length_same f k [] each = let none : length (flat_map f []) ≡ 0 = refl in omega (arith, none)
length_same f k (x ∷ xs) each = grind (arith, length-append, suc-mul, length_same f k xs each)

pub standard_count : (disk : Disk) → length (standard_keys disk) ≡ sectors_of (shape_of disk)
unfolding standard_keys cylinder_keys
standard_count disk =
    let sectors = sectors_at disk.rate in
    let cylinder : (c : ℕ) → length (cylinder_keys sectors disk.heads c) ≡ disk.heads * sectors = λ c. length_same (track_keys sectors c) sectors
    (range_with_len 0 disk.heads) (length-track_keys sectors c) ∙ ap (λ (n : ℕ). n * sectors) (length-range_with_len 0 disk.heads) in
    length_same (cylinder_keys sectors disk.heads) (disk.heads * sectors) (range_with_len 0 disk.cylinders) cylinder
    ∙ ap (λ (n : ℕ). n * (disk.heads * sectors)) (length-range_with_len 0 disk.cylinders)
    ∙ sym (mul_assoc disk.cylinders disk.heads sectors)

-- ---- statuses

pub not_put : (ended : Status) → IsEndStatus ended → IsPutFault ended → ⊥
not_put status.NoMemory whole fault = whole
not_put status.SinkFault whole fault = whole
not_put _ whole fault = fault

pub not_stop : (cause : Stop) → IsEndStatus (stop_status cause) → ⊥
not_stop (stop.BadImage name error) whole = whole
not_stop (stop.TooLong name most) whole = whole
not_stop (stop.Absent name) whole = whole
not_stop stop.FileFault whole = whole
not_stop stop.NoMemory whole = whole

pub end_is_whole : (ended : Status) → IsEndStatus ended → IsWhole ended
end_is_whole ended is = record { put = not_put ended is; stop = λ cause same. not_stop cause (subst IsEndStatus same is) }

-- ---- a verify that went on to its end

module _ (name : List ℕ) (disk : Disk) (files : Files) (old : World) (course : List Taken) (new : World) (ended : Status) (there : old.files ≡ Some files)
    (image : IsImageOf (Some files) name disk) (ends : IsEndStatus ended) where
  whole : IsWhole ended
  whole = end_is_whole ended ends

  -- the requests of a verify were run
  all_read : (mid last : World) (one two : List Taken) (found : Tally) → Did (verify_opening name disk) old one mid
      → Verifies (standard_keys disk) no_reads mid two found last → new.state ≡ last.state
      → ReadsDisk name disk old.state files (one ++ two) new.state last.files
  all_read mid last one two found opening reads state =
      let same_length : length one ≡ length (verify_opening name disk) = sym (length-map one (λ (taken : Taken). taken.asked))
      ∙ ap (λ (l : List Request). length l) opening.all in
      let run = run_both old.state mid.state last.state old.files mid.files last.files one two opening.run reads.run in
      record {
        image = image;
        run = subst (λ (s : State). Run old.state (Some files) (one ++ two) s last.files) (sym state)
            (subst (λ (f : Option Files). Run old.state f (one ++ two) last.state last.files) there run);
        all = map-append (λ (taken : Taken). taken.asked) one two ∙ ap (λ (l : List Request). l ++ requests_of two) opening.all
            ∙ ap (λ (l : List Request). verify_opening name disk ++ l) reads.all;
        opened = ap has_refusal (take_at one two (length (verify_opening name disk)) same_length) ∙ opening.fine;
      }

  -- the lines of a verify were printed
  all_told : (failed : List (Chrn × Code)) (mid last : World) (two : List Taken) (found : Tally) → mid.report ≡ old.report
      → Verifies (standard_keys disk) no_reads mid two found last → refused_reads two ≡ failed
      → Prints (verify_text found.well (sectors_of (shape_of disk)) ∷ [])
      (whole_status found.refused) last.report new.report ended → TellsFailing disk failed old new ended
  all_told failed mid last two found kept reads refused prints =
      let sectors = sectors_of (shape_of disk) in
      let count = standard_count disk in
      let tally = reads.tally 0 0 (record { well = refl; some = refl }) in
      let sum = tally.well in
      let size = ap (λ (row : List (Chrn × Code)). length row) refused in
      let well : found.well ≡ sectors - length failed = omega (arith, sum, count, size) in
      let some : 0 + length (refused_reads two) ≡ length failed = omega (arith, size) in
      let printed = prints_status _ _ (whole_status found.refused) ended _ whole.put prints in
      record {
        report = printed.0 ∙ ap (λ r. grown r (verify_text found.well sectors ∷ []))
            (reads.report ∙ ap (λ r. grown r (map failing_line (refused_reads two))) kept)
            ∙ grown_twice old.report (map failing_line (refused_reads two)) (verify_text found.well sectors ∷ [])
            ∙ ap (λ (row : List (Chrn × Code)). grown old.report (map failing_line row ++ verify_text found.well sectors ∷ [])) refused
            ∙ ap (λ (n : ℕ). grown old.report (map failing_line failed ++ verify_text n sectors ∷ [])) well;
        status = printed.1 ∙ ap whole_status tally.some ∙ ap (λ (n : ℕ). whole_status (nat_le 1 n)) some;
      }

pub verify_tells : (name : List ℕ) (old new : World) (course : List Taken) (ended : Status) (files : Files) (disk : Disk) (failed : List (Chrn × Look))
    → RunsScript (verify_script name) old course new ended → IsEndStatus ended → old.files ≡ Some files → IsImageOf (Some files) name disk
    → (bay_of old.state.station 0).medium ≡ None → IsUndisturbed 0 old.state.station.counters new.state.station.counters → IsUnmistaken disk
    → AreFailing disk (standard_keys disk) failed → TellsFailing disk (all_told_of failed) old new ended
unfolding verify_script reads_disk
verify_tells name old new course ended files disk failed runs ends there image empty quiet unmistaken failing =
    let whole = end_is_whole ended ends in
    let opened = opening_passed name disk files _ old course new ended whole there image empty quiet runs in
    let over = over ended _ (Verifies (standard_keys disk) no_reads) _ _ (keys_pass ended whole disk) opened.mid opened.two new opened.left in
    let all = all_read name disk files old course new ended there image ends opened.mid over.mid opened.one opened.two over.found opened.knows
    over.knows over.state in
    let tells = disk_tells old.state new.state files name disk (opened.one ++ opened.two) over.mid.files failed all quiet unmistaken failing in
    let refused : refused_reads opened.two ≡ all_told_of failed =
    sym (ap (λ (row : List (Chrn × Code)). row ++ refused_reads opened.two) (opening_tells name disk opened.one opened.knows.all))
    ∙ sym (flat_map-append (λ (taken : Taken). refused_read taken.asked taken.answer) opened.one opened.two) ∙ tells in
    all_told name disk files old course new ended there image ends
    (all_told_of failed) opened.mid over.mid opened.two over.found opened.knows.report over.knows refused over.prints
