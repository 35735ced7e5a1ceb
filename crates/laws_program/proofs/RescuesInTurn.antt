-- Rescues one after the other: each finds what the run before left.
use Rattle.std.proofs.Common.{arith, ◌≡◌, ◌≢◌, ◌∙◌, ◌+◌, ◌≤◌, ℕ, zero, suc, Bool, true, false, List, [], ◌∷◌, ◌++◌, length, append-nil, append_assoc, lit<, Option, Some, None, refl, sym, ap, subst, inl, inr}
use Rattle.std.specs.Prelude.{◌⊎◌, Contains, IfSome, nat_lt, if◌then◌else◌}
use Rattle.laws_program.proofs.Common.{Contains-tail, nil_from_length, of_one, cases_eq, ltb-false, All-contains, All-weaker, recursion_from_All, Files, file_at, after_store, stored, sectors_at, Status, Chrn, Disk, IsDisk, file_of, IsRegularDisk, Taken, World, IsAbsent, shape_of, logged_keys, outcome_status, IsLogLine, IsLog, log_text, LogLine, IsLogFound, asked_keys, world, IsFieldOf, IsSettled, GivesFields, StoresRescue, TellsRescue, IsNotFound, count_writes, outcome_in, log_of, entry_at, IsStandardKey, image_there, each_standard}
use Rattle.rescue.proofs.LawLemmas.{one_spelling}
use Rattle.laws_commands.specs.LaidFields.{HasLaidFields}
use Rattle.laws_commands.proofs.Sectors.{few_sectors}
use Rattle.laws_program.specs.InTurn.{RescueRun, IsRescueRun, StandAsLeft, AreInTurn, last_run, SomeRun, IsSavedFrom, CouldBeRead, LeavesRescued}
use Rattle.laws_program.proofs.Rescues.{rescue_settles, rescue_settles_again, rescue_loses}
use Rattle.flop_base.specs.declared.answers.Status.TheVariants as status

-- ---- records among others

abbrev chrn : ℕ → ℕ → ℕ → ℕ → Chrn
chrn c h r n = record { c = c; h = h; r = r; n = n }

same_key : (a b : Chrn) → (a ≡ b) ⊎ (a ≡ b → ⊥)
same_key a b = elim (cases_eq a.c b.c) [
  | inr other ↦ inr (λ same. other (ap (λ (k : Chrn). k.c) same))
  | inl c ↦ elim (cases_eq a.h b.h) [
    | inr other ↦ inr (λ same. other (ap (λ (k : Chrn). k.h) same))
    | inl h ↦ elim (cases_eq a.r b.r) [
      | inr other ↦ inr (λ same. other (ap (λ (k : Chrn). k.r) same))
      | inl r ↦ elim (cases_eq a.n b.n) [
        | inr other ↦ inr (λ same. other (ap (λ (k : Chrn). k.n) same))
        | inl n ↦ inl (ap (λ (i : ℕ). chrn i a.h a.r a.n) c ∙ ap (λ (i : ℕ). chrn b.c i a.r a.n) h ∙ ap (λ (i : ℕ). chrn b.c b.h i a.n) r
            ∙ ap (λ (i : ℕ). chrn b.c b.h b.r i) n)
      ]
    ]
  ]
]

-- a record is among others, or not
among_keys : (key : Chrn) (keys : List Chrn) → Contains keys key ⊎ (Contains keys key → ⊥)
among_keys key [] = inr (λ there. absurd (omega (arith, there.1)))
among_keys key (first ∷ later) = elim (same_key first key) [
  | inl here ↦ inl (0, omega arith, here)
  | inr other ↦ elim (among_keys key later) [
    | inl there ↦ inl (suc there.0, omega (arith, there.1), there.2)
    | inr none ↦ inr (λ there. none (Contains-tail first later key other there))
  ]
]

-- the record of a line is among the records of the lines
contains_key : (lines : List LogLine) (line : LogLine) → Contains lines line → Contains (logged_keys lines) line.key
contains_key [] line there = absurd (omega (arith, there.1))
contains_key (first ∷ later) line (zero, inside, is) = (0, omega arith, ap (λ (l : LogLine). l.key) is)
contains_key (first ∷ later) line (suc k, inside, is) =
    let rest = contains_key later line (k, omega (arith, inside), is) in
    (suc rest.0, omega (arith, rest.1), rest.2)

-- ---- runs among others

some_before : (P : RescueRun → Type 0) (runs more : List RescueRun) → SomeRun P runs → SomeRun P (runs ++ more)
some_before P [] more some = absurd some
some_before P (run ∷ later) more (inl here) = inl here
some_before P (run ∷ later) more (inr there) = inr (some_before P later more there)

some_last : (P : RescueRun → Type 0) (runs : List RescueRun) (run : RescueRun) → P run → SomeRun P (runs ++ run ∷ [])
some_last P [] run is = inl is
some_last P (first ∷ later) run is = inr (some_last P later run is)

some_parts : (P : RescueRun → Type 0) (runs : List RescueRun) (run : RescueRun) → SomeRun P (runs ++ run ∷ []) → SomeRun P runs ⊎ P run
some_parts P [] run (inl is) = inr is
some_parts P [] run (inr never) = absurd never
some_parts P (first ∷ later) run (inl here) = inl (inl here)
some_parts P (first ∷ later) run (inr there) = elim (some_parts P later run there) [ inl some ↦ inl (inr some) | inr is ↦ inr is ]

-- ---- files and logs

told_after : (after : Option Files) (files : Files) (to disk log text : List ℕ) → after ≡ stored (stored (Some files) to disk) log text
    → (left : Files) × (after ≡ Some left)
told_after after files to disk log text is = (after_store (after_store files to disk) log text, is)

at_told : (P : Files → Type 0) (told : Option Files) (files : Files) → told ≡ Some files → IfSome told P → P files
at_told P told files is some = subst (λ (f : Option Files). IfSome f P) is some

stand_so : (to log : List ℕ) (left found : Option Files) (one two : Files) → left ≡ Some one → found ≡ Some two → StandAsLeft to log left found
    → (file_at two to ≡ file_at one to) × (file_at two log ≡ file_at one log)
stand_so to log left found one two e f stand =
    subst (λ (g : Option Files). StandAsLeft to log (Some one) g) f (subst (λ (g : Option Files). StandAsLeft to log g found) e stand)

-- a log for tracks of fewer sectors is also a log for tracks of 18
widest : (sectors : ℕ) (lines : List LogLine) → sectors ≤ 18 → IsLog sectors lines → IsLog 18 lines
widest sectors lines few is = record {
  each = All-weaker (IsLogLine sectors) (IsLogLine 18) (λ line one. record {
    cylinder = one.cylinder;
    head = one.head;
    first = one.first;
    last = omega (arith, one.last, few);
    size = one.size;
    refused = one.refused;
  }) lines is.each;
  rising = is.rising;
}

found_is_log : (files : Files) (log : List ℕ) (sectors : ℕ) (lines : List LogLine) → IsLogFound (Some files) log sectors (Some lines) → IsLog sectors lines
found_is_log files log sectors lines found = (of_one (file_at files log) found found).2.1.0

-- the log that is found is the one whose text stands there
found_lines : (files : Files) (log : List ℕ) (sectors : ℕ) (lines : List LogLine) (found : Option (List LogLine)) → sectors ≤ 18
    → file_at files log ≡ Some (log_text lines) → IsLog 18 lines → IsLogFound (Some files) log sectors found → found ≡ Some lines
found_lines files log sectors lines None few there is found = absurd (cc (there, found))
found_lines files log sectors lines (Some asked) few there is found =
    let one = of_one (file_at files log) found found in
    let at = one.1 in
    let same : one.0 ≡ log_text lines = cc (at, there) in
    ap (λ (row : List LogLine). Some row)
    (one_spelling 18 asked lines (lit< tt) (widest sectors asked few one.2.1.0) is (sym one.2.1.1 ∙ same))

none_there : (files : Files) (log : List ℕ) (sectors : ℕ) (lines : List LogLine) → file_at files log ≡ None
    → IsLogFound (Some files) log sectors (Some lines) → ⊥
none_there files log sectors lines absent found = let one = (of_one (file_at files log) found found).1 in cc (absent, one)

-- if all records were written, no line is left
none_left : (course : List Taken) (asked : ℕ) (ended : Status) → count_writes course + length (log_of course) ≡ asked
    → ended ≡ outcome_status (outcome_in course asked) → ended ≡ status.AllOk → log_of course ≡ []
none_left course asked ended count is well = go (nat_lt (count_writes course) asked) refl (sym well ∙ is)
  where
    go : (b : Bool) → nat_lt (count_writes course) asked ≡ b → status.AllOk ≡ (if b then status.SomeRefused else status.AllOk) → log_of course ≡ []
    go true e f = absurd (cc f)
    go false e f = let few = ltb-false (count_writes course) asked e in nil_from_length (log_of course) (omega (arith, few, count))

-- ---- the runs

-- a record that was asked for is logged, or is saved from the disk of this run
key_settled : (runs : List RescueRun) (run : RescueRun) (course : List Taken) (saved : Disk) (lines : List LogLine) (key : Chrn)
    → IsSettled course saved lines key → GivesFields run.disk course
    → Contains (logged_keys lines) key ⊎ IsSavedFrom (runs ++ run ∷ []) saved key
key_settled runs run course saved lines key is given = elim is.either [
  | inl logged ↦ inl (contains_key lines (record { key = key; code = logged.code }) logged.line)
  | inr kept ↦ inr (record {
    deleted = kept.deleted;
    content = kept.content;
    place = kept.place;
    field = some_last (λ (r : RescueRun). IsFieldOf r.disk key kept.deleted kept.content) runs run (given key kept.deleted kept.content kept.read);
    entry = kept.entry;
  })
]

module _ (to log : List ℕ) (differ : to ≢ log) where
  -- a record that a run logs couldn't be read in it
  run_loses : (run : RescueRun) (is : IsRescueRun to log run) (key : Chrn) → CouldBeRead key run
      → Contains (logged_keys (log_of is.over.runs.course)) key → ⊥
  run_loses run is key could there =
      let lost = rescue_loses run.from to log run.spares run.old run.new run.before run.after run.ended is.files run.disk is.over is.whole is.unstopped
      is.told is.image could.no_fault could.no_stall could.unmistaken in
      All-contains (IsNotFound run.disk) (logged_keys (log_of is.over.runs.course)) key lost.lost there could.deleted could.place could.found

  -- what holds after some runs
  record Stage (disk : Disk) (runs : List RescueRun) (ended : Status) (after : Option Files) : Type 0 where
    pub files : Files
    pub told : after ≡ Some files
    pub saved : Disk
    pub valid : IsDisk saved
    pub regular : IsRegularDisk saved
    pub laid : HasLaidFields saved
    pub disk_there : file_at files to ≡ Some (file_of saved)
    pub lines : List LogLine
    pub is_log : IsLog 18 lines
    pub log_there : file_at files log ≡ Some (log_text lines)
    pub settled : (key : Chrn) → IsStandardKey disk key → Contains (logged_keys lines) key ⊎ IsSavedFrom runs saved key
    pub read : (key : Chrn) → SomeRun (CouldBeRead key) runs → Contains (logged_keys lines) key → ⊥
    pub none : ended ≡ status.AllOk → lines ≡ []

  -- what holds after the first run
  module _ (run : RescueRun) (is : IsRescueRun to log run) where
    abbrev course : List Taken
    course = is.over.runs.course

    abbrev world_before : World
    world_before = world is.over.start run.before.files run.before.report

    abbrev world_after : World
    world_after = world is.over.last run.after.files run.after.report

    new_stage : file_at is.files log ≡ None → (found : Option (List LogLine)) → IsLogFound (Some is.files) log (sectors_at run.disk.rate) found
        → StoresRescue run.disk run.disk found to log is.files course world_after
        → TellsRescue (length (asked_keys (shape_of run.disk) found)) world_before course world_after run.ended → Stage run.disk (run ∷ []) run.ended run.after.files
    new_stage absent (Some lines) there stores tells = absurd (none_there is.files log (sectors_at run.disk.rate) lines absent there)
    new_stage absent None there stores tells =
        let saved = stores.saved in
        let lines = log_of course in
        let keys = asked_keys (shape_of run.disk) None in
        let left = told_after run.after.files is.files to (file_of saved) log (log_text lines) stores.stores in
        let found = subst (λ (f : Option Files). IsLogFound f log (sectors_at run.disk.rate) (Some lines)) left.1 stores.log_found in
        record {
          files = left.0;
          told = left.1;
          saved = saved;
          valid = stores.valid;
          regular = stores.regular;
          laid = stores.laid;
          disk_there = at_told (λ (f : Files). file_at f to ≡ Some (file_of saved)) run.after.files left.0 left.1 stores.disk_there;
          lines = lines;
          is_log = widest (sectors_at run.disk.rate) lines (few_sectors run.disk.rate) (found_is_log left.0 log (sectors_at run.disk.rate) lines found);
          log_there = at_told (λ (f : Files). file_at f log ≡ Some (log_text lines)) run.after.files left.0 left.1 stores.log_there;
          settled = λ key standard.
              key_settled [] run course saved lines key
              (each_standard (IsSettled course saved lines) run.disk (recursion_from_All (IsSettled course saved lines) keys stores.settled) key standard)
              stores.given;
          read = λ key some there. elim some [ inl could ↦ run_loses run is key could there | inr never ↦ absurd never ];
          none = λ well. none_left course (length keys) run.ended tells.others tells.status well;
        }

    first_stage : IsAbsent run.before.files log → Stage run.disk (run ∷ []) run.ended run.after.files
    first_stage absent =
        let none = subst (λ (f : Option Files). IsAbsent f log) is.told absent in
        let rescue = rescue_settles run.from to log run.spares run.old run.new run.before run.after run.ended is.files run.disk is.over is.whole is.unstopped
        differ is.told is.image none is.calm in
        new_stage none rescue.found rescue.there rescue.stores rescue.tells

    -- what holds after one more run
    module _ (disk : Disk) (runs : List RescueRun) (ended : Status) (left : Option Files) (stage : Stage disk runs ended left) where
      module _ (asked : List LogLine) (same : asked ≡ stage.lines) (stores : StoresRescue run.disk stage.saved (Some asked) to log is.files course world_after) where
        asked_settled : (key : Chrn) → Contains (logged_keys asked) key
            → Contains (logged_keys (log_of course)) key ⊎ IsSavedFrom (runs ++ run ∷ []) stores.saved key
        asked_settled key there =
            key_settled runs run course stores.saved (log_of course) key
            (All-contains (IsSettled course stores.saved (log_of course)) (logged_keys asked) key stores.settled there) stores.given

        still_settled : (key : Chrn) → (Contains (logged_keys stage.lines) key ⊎ IsSavedFrom runs stage.saved key)
            → Contains (logged_keys (log_of course)) key ⊎ IsSavedFrom (runs ++ run ∷ []) stores.saved key
        still_settled key (inl logged) = asked_settled key (subst (λ (row : List LogLine). Contains (logged_keys row) key) (sym same) logged)
        still_settled key (inr kept) = elim (among_keys key (logged_keys asked)) [
          | inl there ↦ asked_settled key there
          | inr never ↦ inr (record {
            deleted = kept.deleted;
            content = kept.content;
            place = kept.place;
            field = some_before (λ (r : RescueRun). IsFieldOf r.disk key kept.deleted kept.content) runs (run ∷ []) kept.field;
            entry = (stores.kept (entry_at key kept.place kept.deleted kept.content) (stores.unasked key never)).0 kept.entry;
          })
        ]

        still_read : (key : Chrn) → SomeRun (CouldBeRead key) (runs ++ run ∷ []) → Contains (logged_keys (log_of course)) key → ⊥
        still_read key some there = elim (some_parts (CouldBeRead key) runs run some) [
          | inl before ↦ stage.read key before (subst (λ (row : List LogLine). Contains (logged_keys row) key) same
              (All-contains (Contains (logged_keys asked)) (logged_keys (log_of course)) key stores.asked there))
          | inr could ↦ run_loses run is key could there
        ]

      further_stage : (found : Option (List LogLine)) → found ≡ Some stage.lines
          → StoresRescue run.disk stage.saved found to log is.files course world_after
          → TellsRescue (length (asked_keys (shape_of run.disk) found)) world_before course world_after run.ended
          → Stage disk (runs ++ run ∷ []) run.ended run.after.files
      further_stage None e stores tells = absurd (cc e)
      further_stage (Some asked) e stores tells =
          let same : asked ≡ stage.lines = cc e in
          let saved = stores.saved in
          let lines = log_of course in
          let now = told_after run.after.files is.files to (file_of saved) log (log_text lines) stores.stores in
          let found = subst (λ (f : Option Files). IsLogFound f log (sectors_at run.disk.rate) (Some lines)) now.1 stores.log_found in
          record {
            files = now.0;
            told = now.1;
            saved = saved;
            valid = stores.valid stage.valid;
            regular = stores.regular;
            laid = stores.laid stage.laid;
            disk_there = at_told (λ (f : Files). file_at f to ≡ Some (file_of saved)) run.after.files now.0 now.1 stores.disk_there;
            lines = lines;
            is_log = widest (sectors_at run.disk.rate) lines (few_sectors run.disk.rate) (found_is_log now.0 log (sectors_at run.disk.rate) lines found);
            log_there = at_told (λ (f : Files). file_at f log ≡ Some (log_text lines)) run.after.files now.0 now.1 stores.log_there;
            settled = λ key standard. still_settled asked same stores key (stage.settled key standard);
            read = still_read asked same stores;
            none = λ well. none_left course (length (logged_keys asked)) run.ended tells.others tells.status well;
          }

      next_stage : StandAsLeft to log left run.before.files → Stage disk (runs ++ run ∷ []) run.ended run.after.files
      next_stage stand =
          let stands = stand_so to log left run.before.files stage.files is.files stage.told is.told stand in
          let image = image_there (Some is.files) to stage.saved (stands.0 ∙ stage.disk_there) stage.valid in
          let rescue = rescue_settles_again run.from to log run.spares run.old run.new run.before run.after run.ended is.files run.disk stage.saved is.over
          is.whole is.unstopped differ is.told is.image is.calm image stage.regular (inl stage.laid) in
          let same = found_lines is.files log (sectors_at run.disk.rate) stage.lines rescue.found (few_sectors run.disk.rate) (stands.1 ∙ stage.log_there)
          stage.is_log rescue.there in
          further_stage rescue.found same rescue.stores rescue.tells

  -- what holds after all runs
  all_stages : (disk : Disk) (runs : List RescueRun) (run : RescueRun) (later : List RescueRun) → Stage disk runs run.ended run.after.files
      → AreInTurn to log run.after.files later → Stage disk (runs ++ later) (last_run run later).ended (last_run run later).after.files
  all_stages disk runs run [] stage turn =
      subst (λ (row : List RescueRun). Stage disk row run.ended run.after.files) (sym (append-nil runs)) stage
  all_stages disk runs run (next ∷ later) stage turn =
      let there = next_stage next turn.0 disk runs run.ended run.after.files stage turn.1 in
      subst (λ (row : List RescueRun). Stage disk row (last_run next later).ended (last_run next later).after.files) (append_assoc runs (next ∷ []) later)
      (all_stages disk (runs ++ next ∷ []) next later there turn.2)

  leaves : (disk : Disk) (runs : List RescueRun) (ended : Status) (after : Option Files) → Stage disk runs ended after
      → LeavesRescued to log disk runs ended after
  leaves disk runs ended after stage = record {
    files = stage.files;
    told = stage.told;
    saved = stage.saved;
    valid = stage.valid;
    regular = stage.regular;
    laid = stage.laid;
    image = image_there (Some stage.files) to stage.saved stage.disk_there stage.valid;
    lines = stage.lines;
    is_log = stage.is_log;
    log_there = stage.log_there;
    settled = stage.settled;
    read = λ key standard some. elim (stage.settled key standard) [ inl logged ↦ absurd (stage.read key some logged) | inr kept ↦ kept ];
    all = λ well key standard. elim (stage.settled key standard) [
      | inl logged ↦ (let empty = subst (λ (row : List LogLine). Contains (logged_keys row) key) (stage.none well) logged in absurd (omega (arith, empty.1)))
      | inr kept ↦ kept
    ];
  }

  pub in_turn : (first : RescueRun) (later : List RescueRun) → IsRescueRun to log first → IsAbsent first.before.files log
      → AreInTurn to log first.after.files later
      → LeavesRescued to log first.disk (first ∷ later) (last_run first later).ended (last_run first later).after.files
  in_turn first later is absent turn =
      leaves first.disk (first ∷ later) (last_run first later).ended (last_run first later).after.files
      (all_stages first.disk (first ∷ []) first later (first_stage first is absent) turn)
