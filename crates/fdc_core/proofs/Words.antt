-- What a word does in place is what it does to the whole.
use Rattle.std.proofs.Common.{◌≡◌, ℕ, Bool, true, false, ◌==◌, length, Option, Some, None, if◌then◌else◌, refl, ◌<◌, zero, ◌+◌, sym, ap, subst, ◌∙◌, inl}
use Rattle.fdc_core.proofs.Common.{read_outcome, Ending, Overrun, ReadHeard, ReadStage, ending_of, over_with, at_stage, over_or_on, gone_on_reading, settled_by, settled, pushed, is_full, followed_by, followed, after_heard, finished, Fdc, Execute, Reading, Read, false≢true, DriveState, Reads, at_index, word_under, rate_of, becomes_at, Chrn, FormatPart, Due, HasLead, opens, is_due, needs_byte, WriteStage, no_key, is_format_ended, IsFormatTime, AwaitsIndex, LaysByte, SeesUnder, StepsOn, head_of, rate_fits, seen_of, let_pass, IsListenStep, TaskSteps, ExecutionSteps, Saw, KeptOut, Wrote, Stopped, Opens, after_next, IsWriteTime, HearsAWord, PutsByte, byte_taken, without_byte, is_ended, Execution, Task, DataRate, Formatting, Writing}
use Rattle.flop_base.specs.declared.answers.Rate.{Rate}
use Rattle.fdc_stages.specs.declared.reading.ReadHeard.TheVariants as answer
use Rattle.fdc_stages.specs.Formats as formats_of
use Rattle.fdc_stages.specs.declared.writing.WriteStage.TheVariants as stages
use Rattle.fdc_core.specs.Formatting as formats

-- the controller at this point of a READ DATA
abbrev pub at_reading : ℕ → ℕ → Reading → Fdc → Fdc
at_reading head_drive steps reading old = record old { phase = Execute (record { head_drive = head_drive; steps = steps; task = Read reading }) }

settled_or_on : (ending : Option Ending) (empty : Bool) (head_drive steps : ℕ) (reading : Reading) (old : Fdc) → settled_by (over_with ending head_drive reading) empty (at_reading head_drive steps reading old) ≡ over_or_on ending empty head_drive steps reading old
settled_or_on None empty head_drive steps reading old = refl
settled_or_on (Some ending) true head_drive steps reading old = refl
settled_or_on (Some ending) false head_drive steps reading old = refl

settled_is : (head_drive steps : ℕ) (reading : Reading) (old : Fdc) → settled (at_reading head_drive steps reading old) ≡ gone_on_reading head_drive steps reading old
settled_is head_drive steps reading old = settled_or_on (ending_of reading) (length old.fifo.bytes == 0) head_drive steps reading old

-- by whether TC came and whether the FIFO is full
by_room : (counted full : Bool) (head_drive steps value : ℕ) (reading : Reading) (old : Fdc)
    → followed_by (if counted then None else (if full then Some Overrun else None)) head_drive reading.wanted.key (if counted then at_reading head_drive steps reading old else (if full then at_reading head_drive steps reading old else pushed value (at_reading head_drive steps reading old)))
    ≡ (if counted then gone_on_reading head_drive steps reading old else (if full then finished Overrun head_drive reading.wanted.key old else gone_on_reading head_drive steps reading (pushed value old)))
by_room true full head_drive steps value reading old = settled_is head_drive steps reading old
by_room false true head_drive steps value reading old = refl
by_room false false head_drive steps value reading old = settled_is head_drive steps reading (pushed value old)

pub followed_is : (head_drive steps : ℕ) (reading : Reading) (after : ReadStage) (heard : ReadHeard) (old : Fdc) → followed head_drive reading.wanted.key reading.counted heard (at_reading head_drive steps (at_stage reading after) old) ≡ after_heard head_drive steps reading (read_outcome after heard) old
followed_is head_drive steps reading after answer.On old = settled_is head_drive steps (at_stage reading after) old
followed_is head_drive steps reading after (answer.Byte value) old = by_room reading.counted (is_full old) head_drive steps value (at_stage reading after) old
followed_is head_drive steps reading after (answer.Ended ending) old = refl

-- ---- word times, put together from the calls on the drive

-- ---- the word that is seen

pub sees : (rate : DataRate) (head raw word : ℕ) (before after : DriveState) (medium : Rate) → medium ≡ rate_of before.medium → word ≡ seen_of (rate_fits rate medium) raw → Reads head before raw after → SeesUnder rate head before word after
sees rate head raw word before after medium is seen reads = (raw, reads, seen ∙ ap (λ (r : Rate). seen_of (rate_fits rate r) raw) is)

-- a word of a medium whose rate is the controller's
pub sees_fitting : (rate : DataRate) (head raw : ℕ) (before after : DriveState) (medium : Rate) → medium ≡ rate_of before.medium → rate_fits rate medium ≡ true → Reads head before raw after → SeesUnder rate head before raw after
sees_fitting rate head raw before after medium is fits reads = sees rate head raw raw before after medium is (ap (λ b. seen_of b raw) (sym fits)) reads

-- ---- the last step of a command that listens

pub last_listens : (head_drive steps : ℕ) (task : Task) (old : Fdc) (before after : DriveState) (new : Fdc) → after ≡ let_pass before
    → ((word : ℕ) → StepsOn head_drive steps task (at_index before) word old new) → IsListenStep head_drive steps task old before after new
last_listens head_drive steps task old before after new passes does =
    let raw = word_under before (head_of head_drive) in
    let word = seen_of (rate_fits old.rate (rate_of before.medium)) raw in
    record { word = word; sees = (raw, inl refl, refl); passes = becomes_at (let_pass before) before after passes refl refl; does = does word }

-- ---- a device step of what is in execution

pub steps_are : (old new : Fdc) (before after : DriveState) (execution : Execution) → old.phase ≡ Execute execution → ExecutionSteps old.phase old before after new → TaskSteps execution.task execution.head_drive execution.steps old before after new
steps_are old new before after execution is steps = subst (λ phase. ExecutionSteps phase old before after new) is steps

-- ---- a write

pub opens_due : (stage : WriteStage) → opens stage ≡ true → is_due stage ≡ true
opens_due (stages.Gap zero) is = refl
opens_due _ is = absurd (false≢true is)

pub heard_time : (head_drive steps : ℕ) (writing : Writing) (old : Fdc) (before after : DriveState) (new : Fdc) → is_due writing.stage ≡ false → HearsAWord head_drive steps writing old before after new → IsWriteTime head_drive steps writing old before after new
heard_time head_drive steps writing old before after new due is =
    record { time = Saw is.index is.word; is = is.is; does = (due, is.does) }

pub kept_time : (head_drive steps : ℕ) (writing : Writing) (old : Fdc) (before after : DriveState) (new : Fdc) → opens writing.stage ≡ true → rate_fits old.rate (rate_of before.medium) ≡ false → HearsAWord head_drive steps writing old before after new
    → IsWriteTime head_drive steps writing old before after new
kept_time head_drive steps writing old before after new firsts unfit is =
    record { time = KeptOut is.index is.word; is = (unfit, is.is); does = (firsts, is.does) }

pub wrote_time : (head_drive steps byte : ℕ) (writing : Writing) (old mid_fdc : Fdc) (before after : DriveState) (new : Fdc) → steps < 65535 → (opens writing.stage ≡ true → rate_fits old.rate (rate_of before.medium) ≡ true) → is_due writing.stage ≡ true
    → byte_taken (needs_byte writing.stage) writing.counted old.fifo ≡ Some byte → mid_fdc ≡ without_byte (needs_byte writing.stage) old → PutsByte head_drive steps writing byte mid_fdc before after new → IsWriteTime head_drive steps writing old before after new
wrote_time head_drive steps byte writing old mid_fdc before after new few fits due takes leaves is = record {
  time = Wrote (opens writing.stage) (is_ended is.next) (at_index before) is.given.word;
  is = record {
    from = is.from;
    mid = is.mid;
    index_is = refl;
    fits = fits;
    opens = is.opens_it;
    writes = is.puts;
    closes = is.closes;
    range_from = is.range_from;
    range_mid = is.range_mid;
  };
  does = record {
    few = few;
    due = due;
    opened_is = refl;
    byte = byte;
    byte_is = takes;
    given = is.given;
    word_is = refl;
    next = is.next;
    writes = is.writes;
    closed_is = refl;
    after_is = subst (λ fdc. new ≡ after_next head_drive (steps + 1) writing is.next fdc) leaves is.after_is;
  };
}

-- the index is the same with the gate open
pub opens_index : (first : Bool) (before from : DriveState) → Opens first before from → at_index from ≡ at_index before
opens_index true before from is = ap at_index is
opens_index false before from is = ap at_index is

-- ---- a FORMAT

pub opens_laid : (part : FormatPart) → formats_of.is_first part ≡ true → formats_of.is_next part ≡ true
opens_laid Due is = refl
opens_laid _ is = absurd (false≢true is)

pub heard_index : (head_drive steps : ℕ) (formatting : Formatting) (old : Fdc) (before after : DriveState) (new : Fdc) → formats_of.is_due formatting.stage ≡ false → AwaitsIndex head_drive steps formatting old before after new → IsFormatTime head_drive steps formatting old before after new
heard_index head_drive steps formatting old before after new due is =
    record { time = Saw is.index is.word; is = is.is; does = (due, is.does) }

pub kept_index : (head_drive steps : ℕ) (formatting : Formatting) (old : Fdc) (before after : DriveState) (new : Fdc) → formats_of.opens formatting.stage ≡ true → rate_fits old.rate (rate_of before.medium) ≡ false → AwaitsIndex head_drive steps formatting old before after new
    → IsFormatTime head_drive steps formatting old before after new
kept_index head_drive steps formatting old before after new firsts unfit is =
    record { time = KeptOut is.index is.word; is = (unfit, is.is); does = (firsts, is.does) }

pub laid_time : (head_drive steps byte : ℕ) (needs : Bool) (formatting : Formatting) (old mid_fdc : Fdc) (before after : DriveState) (new : Fdc) → steps < 65535 → (formats_of.opens formatting.stage ≡ true → rate_fits old.rate (rate_of before.medium) ≡ true) → formats_of.is_due formatting.stage ≡ true
    → formats_of.Takes formatting.stage needs → ((lead : ℕ) → HasLead formatting.stage lead → needs ≡ true → lead ≡ 0) → byte_taken needs formatting.counted old.fifo ≡ Some byte → mid_fdc ≡ without_byte needs old → LaysByte head_drive steps formatting needs byte mid_fdc before after new → IsFormatTime head_drive steps formatting old before after new
laid_time head_drive steps byte needs formatting old mid_fdc before after new few fits due asks needed takes leaves is = record {
  time = Wrote (formats_of.opens formatting.stage) (is_format_ended is.next) (at_index before) is.given.word;
  is = record {
    from = is.from;
    mid = is.mid;
    index_is = refl;
    fits = fits;
    opens = is.opens_it;
    writes = is.puts;
    closes = is.closes;
    range_from = is.range_from;
    range_mid = is.range_mid;
  };
  does = record {
    few = few;
    due = due;
    opened_is = refl;
    needs = needs;
    takes = asks;
    needed = needed;
    byte = byte;
    byte_is = takes;
    given = is.given;
    word_is = refl;
    next = is.next;
    lays = is.lays;
    closed_is = refl;
    after_is = subst (λ fdc. new ≡ formats.after_laid head_drive (steps + 1) formatting is.next fdc) leaves is.after_is;
  };
}

-- where the command stops, the byte that was to be taken is of no account
stopped_without : (needs : Bool) (ending : Ending) (head_drive : ℕ) (key : Chrn) (old : Fdc) → finished ending head_drive key (without_byte needs old) ≡ finished ending head_drive key old
stopped_without true ending head_drive key old = refl
stopped_without false ending head_drive key old = refl

pub missed_time : (head_drive steps : ℕ) (needs : Bool) (formatting : Formatting) (old mid_fdc : Fdc) (before after : DriveState) (new : Fdc) → steps < 65535 → formats_of.is_due formatting.stage ≡ true → formats_of.Takes formatting.stage needs → ((lead : ℕ) → HasLead formatting.stage lead → needs ≡ true → lead ≡ 0)
    → byte_taken needs formatting.counted old.fifo ≡ None → mid_fdc ≡ without_byte needs old → after ≡ let_pass before → new ≡ finished Overrun head_drive no_key mid_fdc → IsFormatTime head_drive steps formatting old before after new
missed_time head_drive steps needs formatting old mid_fdc before after new few due asks needed missing leaves passes is = record {
  time = Stopped;
  is = passes;
  does = record {
    ending = Overrun;
    needs = needs;
    takes = λ up. (due, subst (formats_of.Takes formatting.stage) up asks);
    needed = needed;
    stops = (few, missing);
    after_is = is ∙ (ap (finished Overrun head_drive no_key) leaves ∙ stopped_without needs Overrun head_drive no_key old);
  };
}
