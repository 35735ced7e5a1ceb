-- How long a write that has met its address field surely leaves both lines as they are.
use Rattle.std.proofs.Common.{◌≡◌, ◌≤◌, ◌<◌, ◌+◌, ◌-◌, ℕ, zero, suc, Bool, true, false, min, if◌then◌else◌, List, [], ◌∷◌, length, take, None, refl, sym, ap, subst, ◌∙◌, inl, inr, arith, length-append, length-take-le}
use Rattle.fdc_core.proofs.Common.{cases_lt, false≢true, nat_tests, AreAhead, DriveState, at_index, is_protected, passed, rate_of, Chrn, content_size, Fifo, wants, Past, heard, wrote, opens, is_due, is_open, needs_byte, handed_with, heard_where, HasNext, HasWritten, IsWriting, Ending, Done, NoMark, NoSector, NoField, BadCheck, Overrun, NoCount, Protected, Late, Search, WriteNext, WriteStage, head_of, write_at, rate_fits, Execution, Execute, Write, Writing, IsQuiet, Foresees, HasSupply, IsQuietBy, WordTime, Saw, KeptOut, Wrote, Stopped, IsTime, HearsWord, PutsWord, Stops, WriteDoes, after_next, byte_taken, fifo_without, oldest_of, without_byte, Fdc}
use Rattle.std.proofs.lemmas.Bool.{le-ltb, lt-ltb}
use Rattle.std.proofs.lemmas.List.{drop-drop}
use Rattle.fdc_stages.specs.Windows.{count_from, bytes_from, is_content, words_with}
use Rattle.fdc_stages.specs.Writings.{EndsWell, IsEnd, bytes_ahead, count_ahead, is_search}
use Rattle.fdc_stages.specs.declared.window.Part.{Part}
use Rattle.track_model.proofs.Written.{length-window}
use Rattle.fdc_core.proofs.Foreseeing.{foresees_write, some_words}
use Rattle.fdc_core.proofs.Quieting.{some_none}
use Rattle.fdc_core.proofs.Turning.{EachTurnsOn, GoesOnTurning, TurnsAs, heard_as, quiet_turning, write_time, wrote_as}
use Rattle.fdc_stages.specs.declared.window.Part.TheVariants as parts
use Rattle.fdc_stages.specs.declared.writing.WriteNext.TheVariants as given
use Rattle.fdc_stages.specs.declared.writing.WriteStage.TheVariants as stages

-- ---- the FIFO

missing_low : (counted on : Bool) (threshold : ℕ) (bytes : List ℕ) → wants false false counted (record { bytes = bytes; on = on; threshold = threshold }) ≡ false → oldest_of counted bytes ≡ None → ⊥
missing_low counted on threshold (byte ∷ bytes) low is = some_none is
missing_low true on threshold [] low is = some_none is
missing_low false true threshold [] low is = false≢true (sym low ∙ (grind (arith, nat_tests)))
missing_low false false threshold [] low is = false≢true (sym low)

-- while DRQ stays down no byte is missing
pub not_missing : (needs counted : Bool) (fifo : Fifo) → wants false false counted fifo ≡ false → byte_taken needs counted fifo ≡ None → ⊥
not_missing false counted fifo low is = some_none is
not_missing true counted fifo low is = missing_low counted fifo.on fifo.threshold fifo.bytes low is

abbrev pub one_if : Bool → ℕ
one_if true = 1
one_if false = 0

-- a byte was taken, or none
pub supply_after : (needs counted : Bool) (more bytes : ℕ) (fifo : Fifo) → one_if needs + more ≤ bytes → HasSupply bytes counted fifo → HasSupply more counted (fifo_without needs fifo)
supply_after false counted more bytes fifo few was = record { quiet = λ taken less. was.quiet taken (omega (arith, few, less)) }
supply_after true counted more bytes fifo few was = record {
  quiet = λ taken less.
      subst (λ rest. wants false false counted (record fifo { bytes = rest }) ≡ false) (sym (drop-drop taken 1 fifo.bytes)) (was.quiet (1 + taken) (omega (arith, few, less)));
}

pub without_is : (needs : Bool) (was : Fdc) → without_byte needs was ≡ record was { fifo = fifo_without needs was.fifo }
without_is true was = refl
without_is false was = refl

pub length-handed : (needs : Bool) (byte : ℕ) (handed : List ℕ) → length (handed_with needs byte handed) ≡ length handed + one_if needs
length-handed true byte handed = length-append handed (byte ∷ [])
length-handed false byte handed = omega arith

-- a command that writes doesn't stop, after its first step and before its last one
pub none_stops : (steps : ℕ) (protects needs counted : Bool) (fifo : Fifo) (ending : Ending) → 1 ≤ steps → steps < 65535 → wants false false counted fifo ≡ false → Stops steps protects (byte_taken needs counted fifo) ending → ⊥
none_stops steps protects needs counted fifo Late some few low stops = omega (arith, stops, few)
none_stops steps protects needs counted fifo Protected some few low stops = omega (arith, stops.0, some)
none_stops steps protects needs counted fifo Overrun some few low stops = not_missing needs counted fifo low stops.1
none_stops steps protects needs counted fifo _ some few low stops = stops

-- ---- the words of a window

part_needs : (part : Part) (more : ℕ) → is_content part ≡ true → (1 ≤ bytes_from part more) × (count_from part more ≡ bytes_from part more + 2)
part_needs (parts.Content left) more is = (omega arith, omega arith)
part_needs _ more is = absurd (false≢true is)

needs_numbers : (size : ℕ) (stage : WriteStage) → needs_byte stage ≡ true → (1 ≤ bytes_ahead size stage) × (count_ahead size stage ≡ bytes_ahead size stage + 2)
needs_numbers size (stages.Window now) is = part_needs now.part now.more is
needs_numbers size _ is = absurd (false≢true is)

part_numbers : (part : Part) (more : ℕ) → (1 ≤ bytes_from part more → bytes_from part more + 2 ≤ count_from part more) × (1 ≤ count_from part more)
part_numbers (parts.Sync left) more = (λ some. omega arith, omega arith)
part_numbers (parts.Marks left) more = (λ some. omega arith, omega arith)
part_numbers parts.Mark more = (λ some. omega arith, omega arith)
part_numbers (parts.Content left) more = (λ some. omega arith, omega arith)
part_numbers parts.High more = (λ some. omega (arith, some), omega arith)
part_numbers parts.Low more = (λ some. omega (arith, some), omega arith)

pub found_numbers : (size : ℕ) (stage : WriteStage) → is_search stage ≡ false → (1 ≤ bytes_ahead size stage → bytes_ahead size stage + 2 ≤ count_ahead size stage) × (1 ≤ count_ahead size stage)
found_numbers size (stages.Search search) found = absurd (false≢true (sym found))
found_numbers size (stages.Gap left) found = (λ some. omega arith, omega arith)
found_numbers size (stages.Window now) found = part_numbers now.part now.more

pub found_stage : (stage : WriteStage) → ((search : Search) → stage ≡ stages.Search search → ⊥) → is_search stage ≡ false
found_stage (stages.Search search) other = absurd (other search refl)
found_stage _ other = refl

-- what was written and handed in, and what is ahead, are the whole window
pub due_numbers : (past : Past) (key : Chrn) (deleted : Bool) (handed : List ℕ) (stage : WriteStage) → is_due stage ≡ true → IsWriting past key deleted handed stage
    → (length past.words + count_ahead (content_size key.n) stage ≡ content_size key.n + 18) × (length handed + bytes_ahead (content_size key.n) stage ≡ content_size key.n)
due_numbers past key deleted handed (stages.Gap zero) due was =
    let none : length past.words ≡ 0 = ap length was.1.1.0 in
    let nothing : length handed ≡ 0 = ap length was.1.1.1 in
    (omega (arith, none), omega (arith, nothing))
due_numbers past key deleted handed (stages.Window now) due was =
    let at = was.1.0.1 in
    let count = at.count in
    (omega (arith, count), at.bytes)
due_numbers past key deleted handed _ due was = absurd (false≢true due)

-- once a word was written, the next one is due
open_due : (past : Past) (key : Chrn) (deleted : Bool) (handed : List ℕ) (stage : WriteStage) → 1 ≤ length past.words → IsWriting past key deleted handed stage → (is_due stage ≡ true) × (is_search stage ≡ false)
open_due past key deleted handed (stages.Search search) some was = let none : length past.words ≡ 0 = ap length was.1.1.0 in absurd (omega (arith, none, some))
open_due past key deleted handed (stages.Gap left) some was = let none : length past.words ≡ 0 = ap length was.1.1.0 in absurd (omega (arith, none, some))
open_due past key deleted handed (stages.Window now) some was = (refl, refl)

-- a stage that hears a word after its search counts the words before the window
waits : (stage : WriteStage) → is_search stage ≡ false → is_due stage ≡ false → (left : ℕ) × (stage ≡ stages.Gap (suc left))
waits (stages.Gap (suc left)) found shut = (left, refl)
waits (stages.Gap zero) found shut = absurd (false≢true (sym shut))
waits (stages.Search search) found shut = absurd (false≢true (sym found))
waits (stages.Window now) found shut = absurd (false≢true (sym shut))

-- a word of the window that isn't its last
module _ (past : Past) (key : Chrn) (deleted : Bool) (handed : List ℕ) (word : ℕ) (more : length past.words + 1 < content_size key.n + 18) where
  abbrev later : Past
  later = wrote false word past

  size : length later.words ≡ length past.words + 1
  size = length-append past.words (word ∷ [])

  some_words_written : later.words ≡ [] → ⊥
  some_words_written is = let none : length later.words ≡ 0 = ap length is in omega (arith, none, size)

  ends : (ending : Ending) → HasWritten later key deleted handed ending → IsEnd ending → ⊥
  ends (Done marked) has fails =
      let at = has.cause.2.1 in
      let all : length later.words ≡ length handed + 18 = ap length at.whole ∙ length-window deleted handed in
      omega (arith, all, at.size, size, more)
  ends NoCount has fails =
      let at = has.cause.1.1 in
      let all : length later.words ≡ length handed + 18 = ap length at.whole ∙ length-window deleted handed in
      omega (arith, all, at.size, size, more)
  ends NoField has fails = elim has.cause [
    | inl (none, rest) ↦ some_words_written none
    | inr (inl (p, cut)) ↦ (let index = cut.index in omega (arith, index))
    | inr (inr (none, barred)) ↦ some_words_written none
  ]
  ends NoMark has fails = fails
  ends NoSector has fails = fails
  ends BadCheck has fails = fails
  ends Overrun has fails = fails
  ends Protected has fails = fails
  ends Late has fails = fails

  fills_on : (next : WriteNext) → HasNext later key deleted handed next → EndsWell next → (after : WriteStage) × (next ≡ given.On after) × IsWriting later key deleted handed after
  fills_on (given.On after) has well = (after, refl, has)
  fills_on (given.Ended ending) has well = absurd (ends ending has well)

-- of so many words, how many need a byte, where `more` bytes are needed among `count` words and two words of the CRC follow
abbrev pub needed : ℕ → ℕ → ℕ → ℕ
needed more count left = min more (left + more + 2 - count)

-- a word takes its byte, or none
fewer : (needs : Bool) (more count more_then count_then left bytes : ℕ) → (needs ≡ true → (1 ≤ more) × (count ≡ more + 2)) → more_then + one_if needs ≡ more → count_then + 1 ≡ count → needed more count (suc left) ≤ bytes → one_if needs + needed more_then count_then left ≤ bytes
fewer true more count more_then count_then left bytes numbers fell fewer_words enough =
    let (some, is) = numbers refl in
    omega (arith, some, is, fell, fewer_words, enough)
fewer false more count more_then count_then left bytes numbers fell fewer_words enough = omega (arith, fell, fewer_words, enough)

-- ---- a device step

-- what a write has heard and written, what it was handed, its stage, and the FIFO
pub record FillState : Type 0 where
  pub past : Past
  pub handed : List ℕ
  pub stage : WriteStage
  pub fifo : Fifo

-- so many words may pass, none of which is the last of the window, and the FIFO has their bytes while DRQ stays down
pub record IsFilling (key : Chrn) (deleted counted : Bool) (left : ℕ) (now : FillState) : Type 0 where
  pub bytes : ℕ
  pub writes : IsWriting now.past key deleted now.handed now.stage
  pub found : is_search now.stage ≡ false
  pub counted_is : now.past.counted ≡ counted
  pub inside : left + 1 ≤ count_ahead (content_size key.n) now.stage
  pub enough : needed (bytes_ahead (content_size key.n) now.stage) (count_ahead (content_size key.n) now.stage) left ≤ bytes
  pub supply : HasSupply bytes counted now.fifo

-- the write at this point, after `steps` device steps
abbrev pub filled_at : ℕ → Writing → Fdc → ℕ → FillState → Fdc
filled_at head_drive writing old steps now =
    record old { phase = Execute (record { head_drive = head_drive; steps = steps; task = Write (write_at writing now.stage) }); fifo = now.fifo }

module _ (head_drive : ℕ) (writing : Writing) (old : Fdc) (quiet : IsQuiet old) where
  abbrev key : Chrn
  key = writing.wanted.key

  abbrev size_of : ℕ
  size_of = content_size key.n

  abbrev filled : ℕ → FillState → Fdc
  filled steps now = filled_at head_drive writing old steps now

  abbrev Fills : ℕ → FillState → Type 0
  Fills left now = IsFilling key writing.deleted writing.counted left now

  low_of : (bytes : ℕ) (fifo : Fifo) → HasSupply bytes writing.counted fifo → wants false false writing.counted fifo ≡ false
  low_of bytes fifo supply = supply.quiet 0 (omega arith)

  -- the write goes on, with DRQ down
  goes_to : (needs : Bool) (steps : ℕ) (now : FillState) (after : WriteStage) (next : WriteNext) (past : Past) (handed : List ℕ) → next ≡ given.On after → wants false false writing.counted (fifo_without needs now.fifo) ≡ false
      → after_next head_drive (steps + 1) (write_at writing now.stage) next (without_byte needs (filled steps now)) ≡ filled (steps + 1) (record { past = past; handed = handed; stage = after; fifo = fifo_without needs now.fifo })
  goes_to needs steps now after next past handed on low =
      let fifo : Fifo = fifo_without needs now.fifo in
      ap (λ n. after_next head_drive (steps + 1) (write_at writing now.stage) n (without_byte needs (filled steps now))) on
      ∙ ap (λ was. after_next head_drive (steps + 1) (write_at writing now.stage) (given.On after) was) (without_is needs (filled steps now))
      ∙ ap (λ asking. record (filled (steps + 1) (record { past = past; handed = handed; stage = after; fifo = fifo })) { asking = asking }) (ap (λ asking. wants false asking writing.counted fifo) quiet.down ∙ low ∙ sym quiet.down)

  module _ (steps left : ℕ) (now : FillState) (new : Fdc) (before after : DriveState) (some : 1 ≤ steps) (few : steps < 65535) (was : Fills (suc left) now) (no_index : at_index before ≡ false) (fits : rate_fits old.rate (rate_of before.medium) ≡ true) where
    abbrev Goes : Type 0
    Goes = GoesOnTurning (filled (steps + 1)) (Fills left) before new after

    -- a word before the window
    heard_one : (index : Bool) (word : ℕ) → index ≡ false → is_due now.stage ≡ false → HearsWord head_drive steps (write_at writing now.stage) index word (filled steps now) new → TurnsAs (passed before) after → Goes
    heard_one index word none shut hears turned =
        let (gap, at_gap) = waits now.stage was.found shut in
        let later : Past = heard false word now.past in
        let on : hears.next ≡ given.On (stages.Gap gap) = hears.hears.4 (suc gap) (omega arith) at_gap none ∙ ap (λ n. given.On (stages.Gap n)) (omega arith) in
        let has : HasNext (heard_where (opens now.stage) index word now.past) key writing.deleted now.handed hears.next = hears.hears.0 now.past writing.deleted now.handed (ap is_open at_gap) was.writes in
        let heard_has : HasNext (heard index word now.past) key writing.deleted now.handed hears.next = subst (λ stage. HasNext (heard_where (opens stage) index word now.past) key writing.deleted now.handed hears.next) at_gap has in
        let next_has : HasNext later key writing.deleted now.handed hears.next = subst (λ index. HasNext (heard index word now.past) key writing.deleted now.handed hears.next) none heard_has in
        let count : count_ahead size_of now.stage ≡ suc gap + (size_of + 18) = ap (count_ahead size_of) at_gap in
        let more : bytes_ahead size_of now.stage ≡ size_of = ap (bytes_ahead size_of) at_gap in
        let inside = was.inside in
        let enough = was.enough in
        record {
          next = record { past = later; handed = now.handed; stage = stages.Gap gap; fifo = now.fifo };
          is = hears.after_is ∙ goes_to false steps now (stages.Gap gap) hears.next later now.handed on (low_of was.bytes now.fifo was.supply);
          stands = record {
            bytes = was.bytes;
            writes = subst (λ next. HasNext later key writing.deleted now.handed next) on next_has;
            found = refl;
            counted_is = was.counted_is;
            inside = omega (arith, inside, count);
            enough = omega (arith, enough, count, more);
            supply = was.supply;
          };
          turned = turned;
        }

    -- a word of the window
    wrote_one : (opened closed index : Bool) (word : ℕ) → index ≡ false → PutsWord head_drive steps (write_at writing now.stage) opened closed index word (filled steps now) new → TurnsAs (passed before) after → Goes
    wrote_one opened closed index word none puts turned =
        let needs : Bool = needs_byte now.stage in
        let more : List ℕ = handed_with needs puts.byte now.handed in
        let later : Past = wrote false puts.given.word now.past in
        let (count, ahead) = due_numbers now.past key writing.deleted now.handed now.stage puts.due was.writes in
        let has : HasNext later key writing.deleted more puts.next = subst (λ index. HasNext (wrote index puts.given.word now.past) key writing.deleted more puts.next) none
        (puts.writes.goes_on now.past key writing.deleted more was.counted_is (puts.writes.word_is now.past now.handed puts.due was.writes)) in
        let inside = was.inside in
        let (stage, on, writes) = fills_on now.past key writing.deleted more puts.given.word (omega (arith, count, inside)) puts.next has puts.writes.well in
        let size : length later.words ≡ length now.past.words + 1 = length-append now.past.words (puts.given.word ∷ []) in
        let (due, found) = open_due later key writing.deleted more stage (omega (arith, size)) writes in
        let (count_then, ahead_then) = due_numbers later key writing.deleted more stage due writes in
        let many = length-handed needs puts.byte now.handed in
        let least = fewer needs (bytes_ahead size_of now.stage) (count_ahead size_of now.stage) (bytes_ahead size_of stage) (count_ahead size_of stage) left was.bytes (needs_numbers size_of now.stage) (omega (arith, many, ahead, ahead_then)) (omega (arith, size, count, count_then)) was.enough in
        let supply = supply_after needs writing.counted (needed (bytes_ahead size_of stage) (count_ahead size_of stage) left) was.bytes now.fifo least was.supply in
        record {
          next = record { past = later; handed = more; stage = stage; fifo = fifo_without needs now.fifo };
          is = puts.after_is ∙ goes_to needs steps now stage puts.next later more on (low_of _ (fifo_without needs now.fifo) supply);
          stands = record {
            bytes = needed (bytes_ahead size_of stage) (count_ahead size_of stage) left;
            writes = writes;
            found = found;
            counted_is = was.counted_is;
            inside = omega (arith, inside, size, count, count_then);
            enough = omega arith;
            supply = supply;
          };
          turned = turned;
        }

    by_time : (time : WordTime) → IsTime time old.rate (head_of head_drive) before after → WriteDoes time head_drive steps (write_at writing now.stage) (filled steps now) before new → Goes
    by_time (Saw index raw) is does = heard_one index raw (is.index_is ∙ no_index) does.0 does.1 (heard_as index raw old.rate (head_of head_drive) before after is)
    by_time (KeptOut index raw) is does = absurd (false≢true (sym is.0 ∙ fits))
    by_time (Wrote opened closed index raw) is does = wrote_one opened closed index raw (is.index_is ∙ no_index) does (wrote_as opened closed index raw old.rate (head_of head_drive) before after is)
    by_time Stopped is does = absurd (none_stops steps (is_protected before.medium) (needs_byte now.stage) writing.counted now.fifo does.ending some few (low_of was.bytes now.fifo was.supply) does.stops)

  fills_each : EachTurnsOn filled Fills old.rate
  fills_each steps left now new before after some few was no_index fits works =
      let time = write_time (filled steps now) new before after head_drive steps (write_at writing now.stage) quiet.due refl works in
      by_time steps left now new before after some few was no_index fits time.time time.is time.does

-- ---- what is foreseen

-- as many words as there are bytes for
with_enough : (bytes more count words : ℕ) → (1 ≤ more → more + 2 ≤ count) × (1 ≤ count) → words ≤ words_with bytes more count → (words + 1 ≤ count) × (needed more count words ≤ bytes)
with_enough bytes more count words (behind, some) few = elim (cases_lt bytes more) [
  | inl less ↦ (
      let is : words_with bytes more count ≡ count - 2 - (more - bytes) = ap (λ b. if b then count - 2 - (more - bytes) else count - 1) (lt-ltb bytes more less) in
      let there = behind (omega (arith, less)) in
      (omega (arith, few, is, there, less), omega (arith, few, is, there, less)))
  | inr all ↦ (
      let is : words_with bytes more count ≡ count - 1 = ap (λ b. if b then count - 2 - (more - bytes) else count - 1) (le-ltb bytes more all) in
      (omega (arith, few, is, some), omega (arith, all)))
]

module _ (old : Fdc) (execution : Execution) (count : ℕ) (some ahead : List ℕ) (before : DriveState) (quiet : IsQuiet old) (fits : rate_fits old.rate (rate_of before.medium) ≡ true) (at : old.phase ≡ Execute execution)
    (first : some ≡ take (length some) ahead) (left : execution.steps + length some ≤ 65535) (within : count ≤ length some) (are : AreAhead (head_of execution.head_drive) ahead before) where
  pub filling_foreseen : (writing : Writing) (bytes : ℕ) → execution.task ≡ Write writing → is_search writing.stage ≡ false → 1 ≤ execution.steps → HasSupply bytes writing.counted old.fifo
      → count ≤ words_with bytes (bytes_ahead (content_size writing.wanted.key.n) writing.stage) (count_ahead (content_size writing.wanted.key.n) writing.stage) → Foresees count old before
  filling_foreseen writing bytes is found later supply few =
      let head_drive : ℕ = execution.head_drive in
      let words : List ℕ = take count some in
      let size : length words ≡ count = length-take-le count some within in
      let enough = with_enough bytes (bytes_ahead (content_size writing.wanted.key.n) writing.stage) (count_ahead (content_size writing.wanted.key.n) writing.stage) (length words) (found_numbers (content_size writing.wanted.key.n) writing.stage found) (omega (arith, few, size)) in
      foresees_write old execution count before at writing is (λ past sent deleted was certain.
      let now : FillState = record { past = past; handed = was.1.0; stage = writing.stage; fifo = old.fifo } in
      let stands : IsFilling writing.wanted.key writing.deleted writing.counted (length words) now = record {
        bytes = bytes;
        writes = was.1.1.writes;
        found = found;
        counted_is = was.1.1.counted_is;
        inside = enough.0;
        enough = enough.1;
        supply = supply;
      } in
      let begins : filled_at head_drive writing old execution.steps now ≡ old = ap (λ task. record old { phase = Execute (record execution { task = task }) }) (sym is) ∙ ap (λ phase. record old { phase = phase }) (sym at) in
      subst (λ fdc. IsQuietBy count fdc before) begins
      (quiet_turning FillState (filled_at head_drive writing old) (IsFilling writing.wanted.key writing.deleted writing.counted) (head_of head_drive) old.rate (fills_each head_drive writing old quiet) execution.steps count later (omega (arith, left, within)) now words before size stands
      (some_words (head_of head_drive) count some ahead before first are) fits (λ n left next stays. record { request = refl; interrupt = refl; ended = refl; mark = refl })))
