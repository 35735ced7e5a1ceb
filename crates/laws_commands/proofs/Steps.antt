-- Address fields on Laid tracks. Formatted disks have them, and so do disks of which one track was replaced by a Laid
-- one.
use Rattle.std.proofs.Common.{arith, ◌≡◌, ℕ, sym, subst, inl, inr, ◌∙◌, take, length, ◌≤◌, ◌&&◌, Bool, true, false, true≢false, List, [], ◌∷◌, ◌++◌, refl, ap, Option, Some, None, Result, Ok, Err, IsOk, zero, suc, ◌+◌, ◌<◌, map, drop, get_or}
use Rattle.laws_commands.proofs.Common.{cases_eq, Chrn, Rate, Disk, HasTrack, track_of, IsAddressAt, IsLaid, KeepsTracks, alike_tracks, IsFormattedDisk, HasLaidFields, list_all, Files, Code, Counters, GoesOn, Request, Reply, StationState, IsRefusedAtOnce, State, Step, Does, refusal_of, reply_of, is_refusal, Taken, Run, requests_of, has_refusal, DoesAll, flat_map, range_with_len, Track, heads_of, ext_get_or, get_or-take, get_or-drop, length-take, length-drop, with_items, bytes_from, length-with_items, with_items_before, with_items_at}
use Rattle.laws_commands.proofs.Sectors.{track_laid}
use Rattle.std.specs.Prelude.{◌||◌, MatchOption, ◌⊎◌}
use Rattle.laws_commands.specs.Requests.{tracks_of}
use Rattle.floppy_jobs.specs.declared.request.Request.TheVariants as request

-- if one track was replaced by a Laid one, each address field is still on a Laid track
module _ (disk next : Disk) (c h : ℕ) (keeps : KeepsTracks disk c h next) where
  elsewhere_laid : HasLaidFields disk → (b g p : ℕ) (key : Chrn) → HasTrack disk b g → (b ≡ c → g ≡ h → ⊥) → IsAddressAt (track_of next b g) p key
      → IsLaid (track_of next b g)
  elsewhere_laid laid b g p key had other address = grind arith

  pub still_laid : HasLaidFields disk → IsLaid (track_of next c h) → HasLaidFields next
  still_laid laid here b g p key has address =
      let had = (alike_tracks disk next b g keeps.alike).1 has in
      elim (cases_eq b c) [
        | inl same_c ↦ elim (cases_eq g h) [
          | inl same_h ↦ subst (λ k. IsLaid (track_of next k g)) (sym same_c) (subst (λ k. IsLaid (track_of next c k)) (sym same_h) here)
          | inr other ↦ elsewhere_laid laid b g p key had (λ _ e. other e) address
        ]
        | inr other ↦ elsewhere_laid laid b g p key had (λ e _. other e) address
      ]

pub formatted_laid : (rate : Rate) (count : ℕ) (disk : Disk) → IsFormattedDisk rate count disk → HasLaidFields disk
formatted_laid rate count disk is c h p key has address = grind (arith, track_laid)

-- ---- what the requests of a run did, each on its own

-- a fact that follows in both of two cases holds
pub either : {A : Type 0} {P R : Type 0} {Q : A → Type 0} (value : Option A) → MatchOption value P Q → (P → R) → ((x : A) → Q x → R) → R
either None holds none some = none holds
either (Some x) holds none some = some x holds

pub or_false : (a b : Bool) → (a || b) ≡ false → (a ≡ false) × (b ≡ false)
or_false true b e = absurd (true≢false e)
or_false false b e = (refl, e)

-- a request that wasn't refused was done
pub done_does : (old new : State) (told after : Option Files) (asked : Request) (answer : Reply) → Step asked old told answer new after
    → is_refusal answer ≡ false → Does asked old told answer new after
done_does old new told after asked answer step done = grind (arith, either)

-- the first request of a run, and then the others
pub record Begins (old : State) (told : Option Files) (asked : Request) (rest : List Request) (new : State) (after : Option Files) : Type 0 where
  pub mid : State
  pub files : Option Files
  pub answer : Reply
  pub later : List Taken
  pub step : Step asked old told answer mid files
  pub done : is_refusal answer ≡ false
  pub does : Does asked old told answer mid files
  pub behind : DoesAll rest mid files later new after

pub begins : (old new : State) (told after : Option Files) (asked : Request) (rest : List Request) (course : List Taken)
    → DoesAll (asked ∷ rest) old told course new after → Begins old told asked rest new after
begins old new told after asked rest [] all = let e = all.all in absurd (cc e)
begins old new told after asked rest (taken ∷ later) all =
    let e = all.all in
    let here : taken.asked ≡ asked = cc e in
    let there : requests_of later ≡ rest = cc e in
    let parts = or_false (is_refusal taken.answer) (has_refusal later) all.done in
    let step = subst (λ (q : Request). Step q old told taken.answer taken.after all.run.0) here all.run.1 in
    record {
      mid = taken.after;
      files = all.run.0;
      answer = taken.answer;
      later = later;
      step = step;
      done = parts.0;
      does = done_does old taken.after told all.run.0 asked taken.answer step parts.0;
      behind = record { run = all.run.2; all = there; done = parts.1 };
    }

-- a run of no requests leaves all as it was
pub ends_there : (old new : State) (told after : Option Files) (course : List Taken) → DoesAll [] old told course new after → (new ≡ old) × (after ≡ told)
ends_there old new told after [] all = all.run
ends_there old new told after (taken ∷ later) all = let e = all.all in absurd (cc e)

-- ---- calls of the driver

pub ok_called : (called : Result (Unit {0}) Code) (answer : Reply) → answer ≡ reply_of called → is_refusal answer ≡ false → IsOk called
ok_called (Ok u) answer e done = refl
ok_called (Err code) answer e done = absurd (true≢false (subst (λ (r : Reply). is_refusal r ≡ false) e done))

-- a call that answered Ok wasn't refused at once
pub reached : {A P : Type 0} (refusal : Option Code) (called : Result A Code) (old new : StationState)
    → MatchOption refusal P (λ code. IsRefusedAtOnce code old called new) → IsOk called → P
reached {A} {P} refusal called old new holds ok =
    either {R = P} refusal holds (λ p. p) (λ code refused. absurd (true≢false (sym (subst IsOk refused.refused ok))))

-- ---- counts

-- the request leaves the drives in their bays
abbrev pub keeps_drives : Request → Bool
keeps_drives (request.Unit bay) = false
keeps_drives _ = true

does_goes : (old new : State) (told after : Option Files) (asked : Request) (answer : Reply) → Does asked old told answer new after
    → keeps_drives asked ≡ true → GoesOn old.station.counters new.station.counters
does_goes old new told after (request.Insert bay name) answer does keeps = does.2.2.counts
does_goes old new told after (request.Blank bay name cylinders) answer does keeps = does.2.counts
does_goes old new told after (request.BlankDd bay name cylinders) answer does keeps = does.2.counts
does_goes old new told after (request.Eject bay) answer does keeps = does.1.4.counts
does_goes old new told after (request.Fill address count byte) answer does keeps = does.2.counts
does_goes old new told after (request.Dump address count) answer does keeps = does.2.counts
does_goes old new told after (request.Unit bay) answer does keeps = absurd (true≢false (sym keeps))
does_goes old new told after _ answer does keeps = does.0.counts

-- no count of faults or of late DMA requests (stalls) fell
pub record NeverFell (old new : Counters) : Type 0 where
  pub first : old.drives.first.faults ≤ new.drives.first.faults
  pub second : old.drives.second.faults ≤ new.drives.second.faults
  pub stalls : old.stalls ≤ new.stalls

pub step_never_fell : (old new : State) (told after : Option Files) (asked : Request) (answer : Reply) → Step asked old told answer new after
    → keeps_drives asked ≡ true → NeverFell old.station.counters new.station.counters
step_never_fell old new told after asked answer step keeps =
    let goes : GoesOn old.station.counters new.station.counters =
    either (refusal_of old asked) step (λ does. does_goes old new told after asked answer does keeps) (λ cause refused. refused.same.counts) in
    record { first = goes.first.never_falls; second = goes.second.never_falls; stalls = goes.stalls }

pub and_both : (a b : Bool) → (a && b) ≡ true → (a ≡ true) × (b ≡ true)
and_both true b e = (refl, e)
and_both false b e = absurd (true≢false (sym e))

-- no count falls in a run either, whatever its answers are
pub run_never_fell : (old new : State) (told after : Option Files) (course : List Taken) → Run old told course new after
    → list_all keeps_drives (requests_of course) ≡ true → NeverFell old.station.counters new.station.counters
run_never_fell old new told after [] run keeps =
    subst (λ (s : State). NeverFell old.station.counters s.station.counters) (sym run.0) (record { first = omega arith; second = omega arith; stalls = omega arith })
run_never_fell old new told after (taken ∷ later) run keeps =
    let both = and_both (keeps_drives taken.asked) (list_all keeps_drives (requests_of later)) keeps in
    let here = step_never_fell old taken.after told run.0 taken.asked taken.answer run.1 both.0 in
    let there = run_never_fell taken.after new run.0 after later run.2 both.1 in
    record { first = omega arith; second = omega arith; stalls = omega arith }

pub never_fell : (old new : State) (told after : Option Files) (requests : List Request) (course : List Taken)
    → DoesAll requests old told course new after → list_all keeps_drives requests ≡ true → NeverFell old.station.counters new.station.counters
never_fell old new told after requests course all keeps =
    run_never_fell old new told after course all.run (ap (λ (l : List Request). list_all keeps_drives l) all.all ∙ keeps)

-- ---- one list of requests after another

-- a run of two lists of requests is two runs
pub record SplitsRun (old : State) (told : Option Files) (first second : List Request) (course : List Taken) (new : State) (after : Option Files) : Type 0 where
  pub mid : State
  pub files : Option Files
  pub one : List Taken
  pub two : List Taken
  pub is : course ≡ one ++ two
  pub begun : take (length first) course ≡ one
  pub run_one : Run old told one mid files
  pub run_two : Run mid files two new after
  pub all_one : requests_of one ≡ first
  pub all_two : requests_of two ≡ second

pub splits_run : (old new : State) (told after : Option Files) (first second : List Request) (course : List Taken) → Run old told course new after
    → requests_of course ≡ first ++ second → SplitsRun old told first second course new after
splits_run old new told after [] second course run all = record {
  mid = old;
  files = told;
  one = [];
  two = course;
  is = refl;
  begun = refl;
  run_one = (refl, refl);
  run_two = run;
  all_one = refl;
  all_two = all;
}
splits_run old new told after (asked ∷ first) second [] run all = absurd (cc all)
splits_run old new told after (asked ∷ first) second (taken ∷ later) run all =
    let here : taken.asked ≡ asked = cc all in
    let there : requests_of later ≡ first ++ second = cc all in
    let rest = splits_run taken.after new run.0 after first second later run.2 there in
    record {
      mid = rest.mid;
      files = rest.files;
      one = taken ∷ rest.one;
      two = rest.two;
      is = ap (λ (row : List Taken). taken ∷ row) rest.is;
      begun = ap (λ (row : List Taken). taken ∷ row) rest.begun;
      run_one = (run.0, run.1, rest.run_one);
      run_two = rest.run_two;
      all_one = ap (λ (q : Request). q ∷ requests_of rest.one) here ∙ ap (λ (row : List Request). asked ∷ row) rest.all_one;
      all_two = rest.all_two;
    }

-- a run of two lists of requests that were all done is two such runs
pub record Splits (old : State) (told : Option Files) (first second : List Request) (course : List Taken) (new : State) (after : Option Files) : Type 0 where
  pub mid : State
  pub files : Option Files
  pub one : List Taken
  pub two : List Taken
  pub is : course ≡ one ++ two
  pub before : DoesAll first old told one mid files
  pub behind : DoesAll second mid files two new after

refusals_apart : (one two : List Taken) → has_refusal (one ++ two) ≡ false → (has_refusal one ≡ false) × (has_refusal two ≡ false)
refusals_apart [] two done = (refl, done)
refusals_apart (taken ∷ one) two done =
    let parts = or_false (is_refusal taken.answer) (has_refusal (one ++ two)) done in
    let rest = refusals_apart one two parts.1 in
    let first = parts.0 in
    (rw first rest.0, rest.1)

pub splits : (old new : State) (told after : Option Files) (first second : List Request) (course : List Taken)
    → DoesAll (first ++ second) old told course new after → Splits old told first second course new after
splits old new told after first second course all =
    let parts = splits_run old new told after first second course all.run all.all in
    let done = refusals_apart parts.one parts.two (subst (λ (row : List Taken). has_refusal row ≡ false) parts.is all.done) in
    record {
      mid = parts.mid;
      files = parts.files;
      one = parts.one;
      two = parts.two;
      is = parts.is;
      before = record { run = parts.run_one; all = parts.all_one; done = done.0 };
      behind = record { run = parts.run_two; all = parts.all_two; done = done.1 };
    }

-- ---- which tracks a list has

-- the list has this track
abbrev pub Among : List Track → ℕ → ℕ → Type 0
Among [] c h = ⊥
Among (track ∷ later) c h = ((track.0 ≡ c) × (track.1 ≡ h)) ⊎ Among later c h

among_first : (one two : List Track) (c h : ℕ) → Among one c h → Among (one ++ two) c h
among_first [] two c h among = absurd among
among_first (track ∷ one) two c h (inl here) = inl here
among_first (track ∷ one) two c h (inr later) = inr (among_first one two c h later)

among_second : (one two : List Track) (c h : ℕ) → Among two c h → Among (one ++ two) c h
among_second [] two c h among = among
among_second (track ∷ one) two c h among = inr (among_second one two c h among)

among_heads : (c a n h : ℕ) → a ≤ h → h < a + n → Among (map (λ g. (c, g)) (range_with_len a n)) c h
among_heads c a zero h least most = absurd (omega arith)
among_heads c a (suc n) h least most = elim (cases_eq a h) [
  | inl here ↦ inl (refl, here)
  | inr other ↦ inr (among_heads c (a + 1) n h (omega arith) (omega arith))
]

among_cylinders : (heads a n c h : ℕ) → a ≤ c → c < a + n → h < heads → Among (flat_map (heads_of heads) (range_with_len a n)) c h
among_cylinders heads a zero c h least most head = absurd (omega arith)
among_cylinders heads a (suc n) c h least most head = elim (cases_eq a c) [
  | inl here ↦ among_first (heads_of heads a) _ c h (subst (λ k. Among (heads_of heads a) k h) here (among_heads a 0 heads h (omega arith) (omega arith)))
  | inr other ↦ among_second (heads_of heads a) _ c h (among_cylinders heads (a + 1) n c h (omega arith) (omega arith) head)
]

-- each track of a disk is among the disk's list of tracks
pub among_all : (cylinders heads c h : ℕ) → c < cylinders → h < heads → Among (tracks_of cylinders heads) c h
unfolding tracks_of
among_all cylinders heads c h cylinder head = among_cylinders heads 0 cylinders c h (omega arith) (omega arith) head

among_apart : (one two : List Track) (c h : ℕ) → Among (one ++ two) c h → Among one c h ⊎ Among two c h
among_apart [] two c h among = inr among
among_apart (track ∷ one) two c h (inl here) = inl (inl here)
among_apart (track ∷ one) two c h (inr later) = elim (among_apart one two c h later) [ inl first ↦ inl (inr first) | inr second ↦ inr second ]

only_heads : (b a n c h : ℕ) → Among (map (λ g. (b, g)) (range_with_len a n)) c h → (b ≡ c) × (h < a + n)
only_heads b a zero c h among = absurd among
only_heads b a (suc n) c h (inl here) = (here.0, omega (arith, here.1))
only_heads b a (suc n) c h (inr later) = let rest = only_heads b (a + 1) n c h later in (rest.0, omega (arith, rest.1))

only_cylinders : (heads a n c h : ℕ) → Among (flat_map (heads_of heads) (range_with_len a n)) c h → (c < a + n) × (h < heads)
only_cylinders heads a zero c h among = absurd among
only_cylinders heads a (suc n) c h among = elim (among_apart (heads_of heads a) _ c h among) [
  | inl here ↦ let at = only_heads a 0 heads c h here in (omega (arith, at.0), omega (arith, at.1))
  | inr later ↦ let rest = only_cylinders heads (a + 1) n c h later in (omega (arith, rest.0), rest.1)
]

-- the list has no other tracks
pub among_only : (cylinders heads c h : ℕ) → Among (tracks_of cylinders heads) c h → (c < cylinders) × (h < heads)
unfolding tracks_of
among_only cylinders heads c h among = let at = only_cylinders heads 0 cylinders c h among in (omega (arith, at.0), at.1)

-- ---- ranges of user memory, and what a read puts at one

pub with_at : (memory : List ℕ) (address : ℕ) (bytes : List ℕ) → address + length bytes ≤ length memory → (k : ℕ) → k < length bytes
    → get_or (with_items memory address bytes) (address + k) 0 ≡ get_or bytes k 0
with_at memory address bytes fits k at = with_items_at memory address bytes fits (address + k) k refl at

-- the bytes of a range, one by one
pub byte_from : (memory : List ℕ) (place count k : ℕ) → k < count → get_or (bytes_from memory place count) k 0 ≡ get_or memory (place + k) 0
byte_from memory place count k below = get_or-take count (drop place memory) k 0 below ∙ get_or-drop place memory k 0

pub length-bytes_from : (memory : List ℕ) (place count : ℕ) → place + count ≤ length memory → length (bytes_from memory place count) ≡ count
length-bytes_from memory place count inside = omega (arith, length-take count (drop place memory), length-drop place memory)

-- the bytes before a range stay when the range is set
pub below_stays : (memory : List ℕ) (address : ℕ) (bytes : List ℕ) (place count : ℕ) → address + length bytes ≤ length memory
    → place + count ≤ address → bytes_from (with_items memory address bytes) place count ≡ bytes_from memory place count
below_stays memory address bytes place count fits below =
    let long = length-with_items memory address bytes fits in
    let one : length (bytes_from (with_items memory address bytes) place count) ≡ count = length-bytes_from (with_items memory address bytes) place count (omega arith) in
    let two : length (bytes_from memory place count) ≡ count = length-bytes_from memory place count (omega arith) in
    ext_get_or 0 (bytes_from (with_items memory address bytes) place count) (bytes_from memory place count) (one ∙ sym two)
    (λ k within.
    let inside : k < count = omega arith in
    byte_from (with_items memory address bytes) place count k inside
    ∙ with_items_before memory address bytes fits (place + k) (omega arith)
    ∙ sym (byte_from memory place count k inside))

-- the bytes that are put at a range are there
pub at_stands : (memory : List ℕ) (address : ℕ) (bytes : List ℕ) (count : ℕ) → length bytes ≡ count → address + length bytes ≤ length memory
    → bytes_from (with_items memory address bytes) address count ≡ bytes
at_stands memory address bytes count sized fits =
    let long = length-with_items memory address bytes fits in
    let one : length (bytes_from (with_items memory address bytes) address count) ≡ count = length-bytes_from (with_items memory address bytes) address count (omega arith) in
    ext_get_or 0 (bytes_from (with_items memory address bytes) address count) bytes (one ∙ sym sized)
    (λ k within.
    let inside : k < count = omega arith in
    let at : k < length bytes = omega arith in
    byte_from (with_items memory address bytes) address count k inside ∙ with_at memory address bytes fits k at)
