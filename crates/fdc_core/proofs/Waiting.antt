-- No byte finds the FIFO full or is missing while the controller can wait.
use Rattle.std.proofs.Common.{◌≡◌, ◌≤◌, ℕ, ◌+◌, ◌-◌, Bool, true, false, not, ◌&&◌, if◌then◌else◌, ◌==◌, List, [], ◌∷◌, length, Option, Some, refl, sym, ap, subst, ◌∙◌, arith, inl, inr, length-append, length-drop}
use Rattle.fdc_core.proofs.Common.{false≢true, eqb-true, DriveState, at_index, is_protected, room_of, with_polls, Ending, Done, Overrun, Late, ReadOutcome, Search, SearchOutcome, is_content, lead_from, lead_of, needs_byte, FormatNext, WriteNext, WriteStage, Chrn, key_after, no_key, FormatDoes, after_laid, StepsOn, FindsFull, ending_of, is_overrun, overran, after_searched, after_heard, over_or_on, gone_on_reading, at_stage, pushed, is_full, finished, is_held, polled, TaskSteps, WordTime, Saw, KeptOut, Wrote, Stopped, CanWait, Lasts, LastsIn, LastsOn, task_counted, phase_counted, TaskWaits, WriteDoes, Stops, after_next, oldest_of, without_byte, Fdc, Execution, Phase, Command, Execute, Result, Reading, Task, ReadId, Read, Write, Format, Formatting, Writing}
use Rattle.fdc_stages.specs.declared.window.Part.{Part}
use Rattle.fdc_core.proofs.Feeding.{hears_overruns}
use Rattle.fdc_stages.specs.Readings as heard
use Rattle.fdc_stages.specs.Searches as searched
use Rattle.fdc_stages.specs.declared.window.Part.TheVariants as parts
use Rattle.fdc_stages.specs.Leads as format_leads
use Rattle.fdc_stages.specs.Writings as writings
use Rattle.fdc_stages.specs.Formats as formats
use Rattle.fdc_stages.specs.declared.formatting.FormatNext.TheVariants as format_next
use Rattle.fdc_stages.specs.declared.writing.WriteNext.TheVariants as write_next
use Rattle.fdc_stages.specs.declared.writing.WriteStage.TheVariants as stages

-- what a step leaves: a controller that can wait, and to which the terminal count has come if it had come before
record Leaves (slack : ℕ) (counted : Bool) (new : Fdc) : Type 0 where
  waits : CanWait slack new
  uncounted : phase_counted new.phase ≡ false → counted ≡ false

over : (slack : ℕ) (counted : Bool) (ending : Ending) (head_drive : ℕ) (key : Chrn) (old : Fdc) → Leaves slack counted (finished ending head_drive key old)
over slack counted ending head_drive key old = record { waits = tt; uncounted = λ up. absurd (false≢true (sym up)) }

-- ---- reads

on_waits : (slack head_drive steps : ℕ) (ending : Option Ending) (empty : Bool) (reading : Reading) (old : Fdc) → (reading.counted ≡ false → slack + length old.fifo.bytes ≤ room_of old.fifo.on) → Leaves slack reading.counted (over_or_on ending empty head_drive steps reading old)
on_waits slack head_drive steps (Some ending) true reading old waits = over slack reading.counted ending head_drive (key_after ending reading.wanted.key reading.last_sector) old
on_waits slack head_drive steps _ _ reading old waits = record { waits = waits; uncounted = λ is. is }

byte_waits : (slack head_drive steps value : ℕ) (counted full : Bool) (reading : Reading) (old : Fdc) → reading.counted ≡ counted → (counted ≡ false → slack + 1 + length old.fifo.bytes ≤ room_of old.fifo.on)
    → Leaves slack reading.counted (if counted then gone_on_reading head_drive steps reading old else (if full then finished Overrun head_drive reading.wanted.key old else gone_on_reading head_drive steps reading (pushed value old)))
byte_waits slack head_drive steps value true full reading old is waits = on_waits slack head_drive steps (ending_of reading) (length old.fifo.bytes == 0) reading old (λ none. absurd (false≢true (sym none ∙ is)))
byte_waits slack head_drive steps value false true reading old is waits = over slack reading.counted Overrun head_drive reading.wanted.key old
byte_waits slack head_drive steps value false false reading old is waits =
    on_waits slack head_drive steps (ending_of reading) (length (pushed value old).fifo.bytes == 0) reading (pushed value old) (λ none. let room = waits refl in let more = length-append old.fifo.bytes (value ∷ []) in omega arith)

heard_waits : (slack head_drive steps : ℕ) (reading : Reading) (old : Fdc) (after : ReadOutcome) → (reading.counted ≡ false → slack + 1 + length old.fifo.bytes ≤ room_of old.fifo.on) → Leaves slack reading.counted (after_heard head_drive steps reading after old)
heard_waits slack head_drive steps reading old (heard.On stage) waits =
    on_waits slack head_drive steps (ending_of (at_stage reading stage)) (length old.fifo.bytes == 0) (at_stage reading stage) old (λ none. let room = waits none in omega arith)
heard_waits slack head_drive steps reading old (heard.Byte stage value) waits =
    byte_waits slack head_drive steps value reading.counted (is_full old) (at_stage reading stage) old refl waits
heard_waits slack head_drive steps reading old (heard.Ended ending) waits = over slack reading.counted ending head_drive reading.wanted.key old

searched_waits : (slack head_drive steps : ℕ) (old : Fdc) (after : SearchOutcome) → Leaves slack true (after_searched head_drive steps after old)
searched_waits slack head_drive steps old (searched.On search) = record { waits = tt; uncounted = λ is. is }
searched_waits slack head_drive steps old (searched.Met key separator) = over slack true (Done false) head_drive key old
searched_waits slack head_drive steps old (searched.Missed ending) = over slack true ending head_drive no_key old

either : {A : Type 0} (b : Bool) → (b ≡ true → A) → (b ≡ false → A) → A
either true yes_it no_it = yes_it refl
either false yes_it no_it = no_it refl

not_full : (slack : ℕ) (reading : Reading) (index : Bool) (word : ℕ) (old : Fdc) → (reading.counted ≡ false → slack + 1 + length old.fifo.bytes ≤ room_of old.fifo.on) → FindsFull reading index word old → ⊥
not_full slack reading index word old waits finds =
    let room = waits finds.uncounted in
    let full : length old.fifo.bytes ≡ room_of old.fifo.on = eqb-true (length old.fifo.bytes) (room_of old.fifo.on) finds.full in
    omega arith

read_lasts : (slack head_drive steps : ℕ) (reading : Reading) (index : Bool) (word : ℕ) (old new : Fdc) → StepsOn head_drive steps (Read reading) index word old new → (reading.counted ≡ false → slack + 1 + length old.fifo.bytes ≤ room_of old.fifo.on)
    → Leaves slack reading.counted new × (is_overrun new.phase ≡ false)
read_lasts slack head_drive steps reading index word old new (inl (last, is)) waits =
    (subst (λ fdc. Leaves slack reading.counted fdc) (sym is) (over slack reading.counted Late head_drive reading.wanted.key old), subst (λ fdc. is_overrun fdc.phase ≡ false) (sym is) refl)
read_lasts slack head_drive steps reading index word old new (inr (few, hears)) waits = (
  subst (λ fdc. Leaves slack reading.counted fdc) (sym hears.2) (heard_waits slack head_drive (steps + 1) reading old hears.0 waits),
  either (is_overrun new.phase) (λ up. absurd (not_full slack reading index word old waits (hears_overruns index word head_drive (steps + 1) (Read reading) old new hears up))) (λ is. is),
)

-- ---- writes

needed_now : (part : Part) → is_content part ≡ true → lead_from part ≡ 0
needed_now (parts.Content more) is = refl
needed_now _ is = absurd (false≢true is)

needs_now : (stage : WriteStage) → needs_byte stage ≡ true → lead_of stage ≡ 0
needs_now (stages.Window now) is = needed_now now.part is
needs_now _ is = absurd (false≢true is)

-- the bytes in the FIFO after a word, and the words before a byte is needed
without_few : (needs counted : Bool) (bytes : List ℕ) (byte : ℕ) → counted ≡ false → (if needs then oldest_of counted bytes else Some 0) ≡ Some byte → needs ≡ true → 1 ≤ length bytes
without_few true true bytes byte none is needed = absurd (false≢true (sym none))
without_few true false [] byte none is needed = absurd (cc is)
without_few true false (first ∷ rest) byte none is needed = omega arith
without_few false counted bytes byte none is needed = absurd (false≢true needed)

module _ (slack head_drive steps : ℕ) (writing : Writing) where
  next_waits : (next : WriteNext) (mid : Fdc) (lead : ℕ) → (writing.counted ≡ false → slack + 1 ≤ lead + length mid.fifo.bytes) → writings.LeadsOn lead next → Leaves slack writing.counted (after_next head_drive steps writing next mid)
  next_waits (write_next.On stage) mid lead waits leads = record { waits = λ none. let before = waits none in omega arith; uncounted = λ is. is }
  next_waits (write_next.Ended ending) mid lead waits leads = over slack writing.counted ending head_drive (key_after ending writing.wanted.key writing.last_sector) mid

fails_clear : (ending : Ending) → writings.IsFailure ending → overran ending ≡ false
fails_clear Overrun is = absurd is
fails_clear _ is = refl

ends_clear : (ending : Ending) → writings.IsEnd ending → overran ending ≡ false
ends_clear Overrun is = absurd is
ends_clear _ is = refl

laid_ends_clear : (ending : Ending) → formats.IsEnd ending → overran ending ≡ false
laid_ends_clear Overrun is = absurd is
laid_ends_clear _ is = refl

hears_clear : (next : WriteNext) (head_drive steps : ℕ) (writing : Writing) (mid : Fdc) → writings.FailsWell next → is_overrun (after_next head_drive steps writing next mid).phase ≡ false
hears_clear (write_next.On stage) head_drive steps writing mid well = refl
hears_clear (write_next.Ended ending) head_drive steps writing mid well = fails_clear ending well

puts_clear : (next : WriteNext) (head_drive steps : ℕ) (writing : Writing) (mid : Fdc) → writings.EndsWell next → is_overrun (after_next head_drive steps writing next mid).phase ≡ false
puts_clear (write_next.On stage) head_drive steps writing mid well = refl
puts_clear (write_next.Ended ending) head_drive steps writing mid well = ends_clear ending well

laid_hears_clear : (next : FormatNext) (head_drive steps : ℕ) (formatting : Formatting) (mid : Fdc) → formats.FailsWell next → is_overrun (after_laid head_drive steps formatting next mid).phase ≡ false
laid_hears_clear (format_next.On stage) head_drive steps formatting mid well = refl
laid_hears_clear (format_next.Ended ending key) head_drive steps formatting mid well = ap overran well

laid_puts_clear : (next : FormatNext) (head_drive steps : ℕ) (formatting : Formatting) (mid : Fdc) → formats.EndsWell next → is_overrun (after_laid head_drive steps formatting next mid).phase ≡ false
laid_puts_clear (format_next.On stage) head_drive steps formatting mid well = refl
laid_puts_clear (format_next.Ended ending key) head_drive steps formatting mid well = laid_ends_clear ending well

-- the word takes its byte, or needs none
left_for : (needs : Bool) (old : Fdc) (slack lead : ℕ) (byte : ℕ) (counted : Bool) → counted ≡ false → (if needs then oldest_of counted old.fifo.bytes else Some 0) ≡ Some byte → (needs ≡ true → lead ≡ 0) → slack + 1 ≤ lead + length old.fifo.bytes → slack + 1 ≤ (lead - 1) + 1 + length (without_byte needs old).fifo.bytes
left_for true old slack lead byte counted none is zero_lead waits =
    let empty = zero_lead refl in
    let some = without_few true counted old.fifo.bytes byte none is refl in
    let less = length-drop 1 old.fifo.bytes in
    omega arith
left_for false old slack lead byte counted none is zero_lead waits = omega arith

none_left : (slack : ℕ) → (lead : ℕ) × (true ≡ true → lead ≡ 0) × (slack + 1 ≤ lead + 0) → ⊥
none_left slack (lead, zero_lead, room) = let empty = zero_lead refl in omega arith

stops_clear : (slack steps : ℕ) (protects needs counted : Bool) (bytes : List ℕ) (ending : Ending) → Stops steps protects (if needs then oldest_of counted bytes else Some 0) ending → (counted ≡ false → (lead : ℕ) × (needs ≡ true → lead ≡ 0) × (slack + 1 ≤ lead + length bytes)) → overran ending ≡ false
stops_clear slack steps protects true false [] Overrun is waits = absurd (none_left slack (waits refl))
stops_clear slack steps protects true true [] Overrun is waits = let none = is.1 in absurd (cc none)
stops_clear slack steps protects true counted (first ∷ rest) Overrun is waits = let none = is.1 in absurd (cc none)
stops_clear slack steps protects false counted bytes Overrun is waits = let none = is.1 in absurd (cc none)
stops_clear slack steps protects needs counted bytes _ is waits = refl

write_lasts : (slack head_drive steps : ℕ) (writing : Writing) (old : Fdc) (before : DriveState) (new : Fdc) (time : WordTime) → WriteDoes time head_drive steps writing old before new → (writing.counted ≡ false → slack + 1 ≤ lead_of writing.stage + length old.fifo.bytes) → Leaves slack writing.counted new × (is_overrun new.phase ≡ false)
write_lasts slack head_drive steps writing old before new (Saw index word) (due, is) waits = (
  subst (λ fdc. Leaves slack writing.counted fdc) (sym is.after_is) (next_waits slack head_drive (steps + 1) writing is.next old (lead_of writing.stage) waits is.hears.2),
  subst (λ fdc. is_overrun fdc.phase ≡ false) (sym is.after_is) (hears_clear is.next head_drive (steps + 1) writing old is.hears.1),
)
write_lasts slack head_drive steps writing old before new (KeptOut index word) (first, is) waits = (
  subst (λ fdc. Leaves slack writing.counted fdc) (sym is.after_is) (next_waits slack head_drive (steps + 1) writing is.next old (lead_of writing.stage) waits is.hears.2),
  subst (λ fdc. is_overrun fdc.phase ≡ false) (sym is.after_is) (hears_clear is.next head_drive (steps + 1) writing old is.hears.1),
)
write_lasts slack head_drive steps writing old before new (Wrote opened closed index word) is waits =
    let needs = needs_byte writing.stage in
    let mid = without_byte needs old in (
      subst (λ fdc. Leaves slack writing.counted fdc) (sym is.after_is) (put_waits is.next mid (lead_of writing.stage) (λ none. left_for needs old slack (lead_of writing.stage) is.byte writing.counted none is.byte_is (needs_now writing.stage) (waits none)) (is.writes.lead is.due)),
      subst (λ fdc. is_overrun fdc.phase ≡ false) (sym is.after_is) (puts_clear is.next head_drive (steps + 1) writing mid is.writes.well),
    )
  where
    put_waits : (next : WriteNext) (mid : Fdc) (lead : ℕ) → (writing.counted ≡ false → slack + 1 ≤ (lead - 1) + 1 + length mid.fifo.bytes) → writings.LeadsOn lead next → Leaves slack writing.counted (after_next head_drive (steps + 1) writing next mid)
    put_waits (write_next.On stage) mid lead waits leads = record { waits = λ none. let before = waits none in omega arith; uncounted = λ is. is }
    put_waits (write_next.Ended ending) mid lead waits leads = over slack writing.counted ending head_drive (key_after ending writing.wanted.key writing.last_sector) mid
write_lasts slack head_drive steps writing old before new Stopped is waits = (
  subst (λ fdc. Leaves slack writing.counted fdc) (sym is.after_is) (over slack writing.counted is.ending head_drive writing.wanted.key old),
  subst (λ fdc. is_overrun fdc.phase ≡ false) (sym is.after_is) (stops_clear slack steps (is_protected before.medium) (needs_byte writing.stage) writing.counted old.fifo.bytes is.ending is.stops (λ none. (lead_of writing.stage, needs_now writing.stage, waits none))),
)

-- ---- FORMAT

laid_waits : (slack head_drive steps : ℕ) (formatting : Formatting) (next : FormatNext) (mid : Fdc) → (formatting.counted ≡ false → (lead : ℕ) × format_leads.LeadsOn lead next × (slack ≤ lead + length mid.fifo.bytes)) → Leaves slack formatting.counted (after_laid head_drive steps formatting next mid)
laid_waits slack head_drive steps formatting (format_next.On stage) mid waits = record { waits = waits; uncounted = λ is. is }
laid_waits slack head_drive steps formatting (format_next.Ended ending key) mid waits = over slack formatting.counted ending head_drive key mid

hear_room : (slack : ℕ) (formatting : Formatting) (next : FormatNext) (bytes : List ℕ) → ((lead : ℕ) → format_leads.HasLead formatting.stage lead → format_leads.LeadsOn lead next) → ((lead : ℕ) × format_leads.HasLead formatting.stage lead × (slack + 1 ≤ lead + length bytes)) → (lead : ℕ) × format_leads.LeadsOn lead next × (slack ≤ lead + length bytes)
hear_room slack formatting next bytes leads (lead, has, room) = (lead, leads lead has, omega arith)

lay_room : (slack : ℕ) (formatting : Formatting) (next : FormatNext) (needs : Bool) (byte : ℕ) (old : Fdc) → formatting.counted ≡ false → (if needs then oldest_of formatting.counted old.fifo.bytes else Some 0) ≡ Some byte → ((lead : ℕ) → format_leads.HasLead formatting.stage lead → needs ≡ true → lead ≡ 0) → ((lead : ℕ) → format_leads.HasLead formatting.stage lead → format_leads.LeadsOn (lead - 1) next)
    → ((lead : ℕ) × format_leads.HasLead formatting.stage lead × (slack + 1 ≤ lead + length old.fifo.bytes)) → (lead : ℕ) × format_leads.LeadsOn lead next × (slack ≤ lead + length (without_byte needs old).fifo.bytes)
lay_room slack formatting next needs byte old none is needed leads (lead, has, room) =
    let left = left_for needs old slack lead byte formatting.counted none is (needed lead has) room in (lead - 1, leads lead has, omega arith)

stop_room : (slack : ℕ) (formatting : Formatting) (needs : Bool) (bytes : List ℕ) → ((lead : ℕ) → format_leads.HasLead formatting.stage lead → needs ≡ true → lead ≡ 0) → ((lead : ℕ) × format_leads.HasLead formatting.stage lead × (slack + 1 ≤ lead + length bytes)) → (lead : ℕ) × (needs ≡ true → lead ≡ 0) × (slack + 1 ≤ lead + length bytes)
stop_room slack formatting needs bytes needed (lead, has, room) = (lead, needed lead has, room)

format_lasts : (slack head_drive steps : ℕ) (formatting : Formatting) (old : Fdc) (before : DriveState) (new : Fdc) (time : WordTime) → FormatDoes time head_drive steps formatting old before new → (formatting.counted ≡ false → (lead : ℕ) × format_leads.HasLead formatting.stage lead × (slack + 1 ≤ lead + length old.fifo.bytes)) → Leaves slack formatting.counted new × (is_overrun new.phase ≡ false)
format_lasts slack head_drive steps formatting old before new (Saw index word) (due, is) waits = (
  subst (λ fdc. Leaves slack formatting.counted fdc) (sym is.after_is) (laid_waits slack head_drive (steps + 1) formatting is.next old (λ none. hear_room slack formatting is.next old.fifo.bytes is.hears.2 (waits none))),
  subst (λ fdc. is_overrun fdc.phase ≡ false) (sym is.after_is) (laid_hears_clear is.next head_drive (steps + 1) formatting old is.hears.1),
)
format_lasts slack head_drive steps formatting old before new (KeptOut index word) (first, is) waits = (
  subst (λ fdc. Leaves slack formatting.counted fdc) (sym is.after_is) (laid_waits slack head_drive (steps + 1) formatting is.next old (λ none. hear_room slack formatting is.next old.fifo.bytes is.hears.2 (waits none))),
  subst (λ fdc. is_overrun fdc.phase ≡ false) (sym is.after_is) (laid_hears_clear is.next head_drive (steps + 1) formatting old is.hears.1),
)
format_lasts slack head_drive steps formatting old before new (Wrote opened closed index word) is waits =
    let mid = without_byte is.needs old in (
      subst (λ fdc. Leaves slack formatting.counted fdc) (sym is.after_is) (laid_waits slack head_drive (steps + 1) formatting is.next mid (λ none. lay_room slack formatting is.next is.needs is.byte old none is.byte_is is.needed is.lays.lead (waits none))),
      subst (λ fdc. is_overrun fdc.phase ≡ false) (sym is.after_is) (laid_puts_clear is.next head_drive (steps + 1) formatting mid is.lays.well),
    )
format_lasts slack head_drive steps formatting old before new Stopped is waits = (
  subst (λ fdc. Leaves slack formatting.counted fdc) (sym is.after_is) (over slack formatting.counted is.ending head_drive no_key old),
  subst (λ fdc. is_overrun fdc.phase ≡ false) (sym is.after_is) (stops_clear slack steps (is_protected before.medium) is.needs formatting.counted old.fifo.bytes is.ending is.stops (λ none. stop_room slack formatting is.needs old.fifo.bytes is.needed (waits none))),
)

-- ---- READ ID

id_lasts : (slack head_drive steps : ℕ) (search : Search) (index : Bool) (word : ℕ) (old new : Fdc) → StepsOn head_drive steps (ReadId search) index word old new → Leaves slack true new × (is_overrun new.phase ≡ false)
id_lasts slack head_drive steps search index word old new (inl (last, is)) =
    (subst (λ fdc. Leaves slack true fdc) (sym is) (over slack true Late head_drive no_key old), subst (λ fdc. is_overrun fdc.phase ≡ false) (sym is) refl)
id_lasts slack head_drive steps search index word old new (inr (few, hears)) = (
  subst (λ fdc. Leaves slack true fdc) (sym hears.2) (searched_waits slack head_drive (steps + 1) old hears.0),
  hears_overruns index word head_drive (steps + 1) (ReadId search) old new hears,
)

-- ---- a device step

task_lasts : (task : Task) (head_drive steps : ℕ) (old : Fdc) (before after : DriveState) (new : Fdc) → TaskSteps task head_drive steps old before after new → (slack : ℕ) → TaskWaits (slack + 1) task old.fifo → Leaves slack (task_counted task) new × (is_overrun new.phase ≡ false)
task_lasts (ReadId search) head_drive steps old before after new is slack waits = id_lasts slack head_drive steps search (at_index before) is.word old new is.does
task_lasts (Read reading) head_drive steps old before after new is slack waits = read_lasts slack head_drive steps reading (at_index before) is.word old new is.does waits
task_lasts (Write writing) head_drive steps old before after new is slack waits = write_lasts slack head_drive steps writing old before new is.does.time is.does.does waits
task_lasts (Format formatting) head_drive steps old before after new is slack waits = format_lasts slack head_drive steps formatting old before new is.does.time is.does.does waits

lasts_of : (slack : ℕ) (old new : Fdc) → Leaves slack (phase_counted old.phase) new × (is_overrun new.phase ≡ false) → Lasts slack old new
lasts_of slack old new (leaves, clear) = record { no_overrun = clear; waits = leaves.waits; uncounted = leaves.uncounted }

lasts_in : (phase : Phase) (execution : Execution) (old new : Fdc) → old.phase ≡ phase → phase ≡ Execute execution → ((slack : ℕ) → TaskWaits (slack + 1) execution.task old.fifo → Leaves slack (task_counted execution.task) new × (is_overrun new.phase ≡ false)) → LastsIn phase old new
lasts_in phase execution old new at is lasts =
    subst (λ p. LastsIn p old new) (sym is) (λ slack waits. lasts_of slack old new (subst (λ p. Leaves slack (phase_counted p) new × (is_overrun new.phase ≡ false)) (sym (at ∙ is)) (lasts slack waits)))

pub executes_lasts : (old new : Fdc) (before after : DriveState) (execution : Execution) → old.phase ≡ Execute execution → TaskSteps execution.task execution.head_drive execution.steps old before after new → LastsOn old new
executes_lasts old new before after execution is steps =
    lasts_in old.phase execution old new refl is (task_lasts execution.task execution.head_drive execution.steps old before after new steps)

-- the poll moves nothing of this
if_lasts : (b : Bool) (old new : Fdc) → (let polls : Fdc = (if b then record old { poll_due = false; interrupt = true; seeks = with_polls old.seeks } else old) in LastsIn polls.phase polls new → LastsIn old.phase old new)
if_lasts true old new was = same old.phase was
  where
    same : (phase : Phase) → LastsIn phase (record old { poll_due = false; interrupt = true; seeks = with_polls old.seeks }) new → LastsIn phase old new
    same Command was = tt
    same (Result answer) was = tt
    same (Execute execution) was = λ slack waits. let lasts = was slack waits in record { no_overrun = lasts.no_overrun; waits = lasts.waits; uncounted = lasts.uncounted }
if_lasts false old new was = was

pub polled_lasts : (old polls new : Fdc) → polls ≡ polled old → LastsOn polls new → LastsOn old new
polled_lasts old polls new is was = if_lasts (old.poll_due && not (is_held old)) old new (subst (λ p. LastsOn p new) is was)
