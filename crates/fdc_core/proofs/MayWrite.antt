-- What a device step, a transfer and the terminal count leave of a write and of a FORMAT.
use Rattle.std.proofs.Common.{◌≡◌, ℕ, zero, ◌+◌, Bool, true, false, if◌then◌else◌, ◌==◌, List, [], ◌∷◌, ◌++◌, length, replicate, drop, Option, Some, None, refl, sym, ap, subst, ◌∙◌, arith, inl, inr, append_assoc, append-nil}
use Rattle.fdc_core.proofs.Common.{false≢true, replicate_more, Chrn, DriveState, is_protected, Fifo, room_of, Past, heard, kept_out, wrote, Ending, Done, Overrun, Protected, Late, Numbers, IsFormatting, is_open, opens, is_due, needs_byte, handed_with, heard_where, IsWriting, HasNext, IsStopped, FormatNext, FormatPart, Due, Lay, WriteNext, WriteStage, stopped_written, stopped_formatted, key_after, results_of, no_key, asking_told, fifo_told, with_byte, task_asks, task_told, phase_asks, phase_told, FormatDoes, after_laid, Sent, stepped, told_in, is_executing, is_read, is_reading, moves_bytes, is_moving, WordTime, Saw, KeptOut, Wrote, Stopped, after_time, WriteDoes, Stops, after_next, oldest_of, byte_taken, without_byte, MayWrite, MayFormat, took, IsHanded, write_sent, MayWriteIn, MayWriteTask, MayFormatIn, MayFormatTask, Long, Fdc, Phase, Command, Execute, Result, Task, ReadId, Read, Write, Format, Formatting, Writing}
use Rattle.fdc_phases.proofs.AtFirst.{rule_room}
use Rattle.fdc_phases.specs.Written.{IsContent}
use Rattle.fdc_stages.specs.Formats as formats
use Rattle.fdc_stages.specs.declared.formatting.FormatNext.TheVariants as format_next
use Rattle.fdc_stages.specs.declared.writing.WriteNext.TheVariants as write_next
use Rattle.fdc_stages.specs.declared.writing.WriteStage.TheVariants as stages

-- ---- bytes from memory

-- the next word takes its byte
hand_byte : (needs counted : Bool) (taken handed bytes : List ℕ) (byte : ℕ) → (if needs then oldest_of counted bytes else Some 0) ≡ Some byte → IsHanded counted taken handed bytes → IsHanded counted taken (handed_with needs byte handed) (if needs then drop 1 bytes else bytes)
hand_byte false counted taken handed bytes byte is was = was
hand_byte true counted taken handed (first ∷ rest) byte is (inl all) =
    let same : first ≡ byte = cc is in
    inl (append_assoc handed (byte ∷ []) rest ∙ ap (λ b. handed ++ (b ∷ rest)) (sym same) ∙ all)
hand_byte true counted taken handed (first ∷ rest) byte is (inr (over, none, padded)) = absurd (cc none)
hand_byte true true taken handed [] byte is (inl all) =
    let zero_is : 0 ≡ byte = cc is in
    inr (refl, refl, (1, ap (λ bytes. bytes ++ byte ∷ []) (sym (append-nil handed) ∙ all) ∙ ap (λ b. taken ++ b ∷ []) (sym zero_is)))
hand_byte true true taken handed [] byte is (inr (over, none, (zeros, padded))) =
    let zero_is : 0 ≡ byte = cc is in
    inr (refl, refl, (zeros + 1, ap (λ bytes. bytes ++ byte ∷ []) padded ∙ append_assoc taken (replicate zeros 0) (byte ∷ []) ∙ ap (λ b. taken ++ (replicate zeros 0 ++ b ∷ [])) (sym zero_is) ∙ ap (λ bytes. taken ++ bytes) (replicate_more zeros 0)))
hand_byte true false taken handed [] byte is was = absurd (cc is)

-- what a command that is over was handed
pub content_of : (counted : Bool) (taken handed fifo : List ℕ) → IsHanded counted taken handed fifo → IsContent counted taken handed
content_of counted taken handed fifo (inl all) = inl (fifo, sym all)
content_of counted taken handed fifo (inr (over, none, padded)) = inr (over, padded)

-- a byte comes from memory
take_byte : (counted full : Bool) (taken handed bytes : List ℕ) (byte : ℕ) → counted ≡ false → full ≡ false → IsHanded counted taken handed bytes → IsHanded counted (taken ++ byte ∷ []) handed (if full then bytes else bytes ++ byte ∷ [])
take_byte counted full taken handed bytes byte none room (inl all) =
    inl (subst (λ b. handed ++ (if b then bytes else bytes ++ byte ∷ []) ≡ taken ++ byte ∷ []) (sym room) (sym (append_assoc handed bytes (byte ∷ [])) ∙ ap (λ xs. xs ++ byte ∷ []) all))
take_byte counted full taken handed bytes byte none room (inr (over, empties, padded)) = absurd (false≢true (sym none ∙ over))

byte_held : (byte : ℕ) (full : Bool) (fifo : Fifo) → (if full then fifo else record fifo { bytes = fifo.bytes ++ byte ∷ [] }).bytes ≡ (if full then fifo.bytes else fifo.bytes ++ byte ∷ [])
byte_held byte true fifo = refl
byte_held byte false fifo = refl

-- the terminal count
count_handed : (counted : Bool) (taken handed bytes : List ℕ) → IsHanded counted taken handed bytes → IsHanded true taken handed bytes
count_handed counted taken handed bytes (inl all) = inl all
count_handed counted taken handed bytes (inr (over, none, padded)) = inr (refl, none, padded)

if_bytes : (needs : Bool) (old : Fdc) → (without_byte needs old).fifo.bytes ≡ (if needs then drop 1 old.fifo.bytes else old.fifo.bytes)
if_bytes true old = refl
if_bytes false old = refl

missing : (needs counted : Bool) (bytes : List ℕ) → (if needs then oldest_of counted bytes else Some 0) ≡ None → counted ≡ false
missing false counted bytes is = absurd (cc is)
missing true true [] is = absurd (cc is)
missing true false bytes is = refl
missing true true (first ∷ rest) is = absurd (cc is)

-- ---- a write

not_due : (stage : WriteStage) → is_due stage ≡ false → (is_open stage ≡ false) × (opens stage ≡ false)
not_due (stages.Gap zero) is = absurd (false≢true (sym is))
not_due (stages.Window now) is = absurd (false≢true (sym is))
not_due _ is = (refl, refl)

not_open : (stage : WriteStage) → opens stage ≡ true → is_open stage ≡ false
not_open (stages.Window now) is = absurd (false≢true is)
not_open _ is = refl

module _ (past : Past) (head_drive steps : ℕ) (writing : Writing) (old : Fdc) (handed : List ℕ) (counted_is : past.counted ≡ writing.counted) (steps_are : past.steps ≡ steps + 1) (handed_is : IsHanded writing.counted past.taken handed old.fifo.bytes) where
  follow_write : (next : WriteNext) → HasNext past writing.wanted.key writing.deleted handed next → MayWrite past (write_sent head_drive writing) writing.deleted (after_next head_drive (steps + 1) writing next old)
  follow_write (write_next.On stage) is = (
    rule_room writing.counted old.asking old.fifo,
    (
      handed,
      record {
        sent_is = refl;
        deleted_is = refl;
        counted_is = counted_is;
        steps_are = steps_are;
        fresh = λ none. absurd (omega arith);
        writes = is;
        handed_is = handed_is;
      },
    ),
  )
  follow_write (write_next.Ended ending) is =
      (refl, refl, (handed, record { written = is; content = subst (λ counted. IsContent counted past.taken handed) (sym counted_is) (content_of writing.counted past.taken handed old.fifo.bytes handed_is) }))

-- a write stops
stop_key : (ending : Ending) (steps : ℕ) (protects : Bool) (byte : Option ℕ) (key : Chrn) (last_sector : ℕ) → Stops steps protects byte ending → key ≡ key_after ending key last_sector
stop_key Late steps protects byte key last_sector is = refl
stop_key Protected steps protects byte key last_sector is = refl
stop_key Overrun steps protects byte key last_sector is = refl
stop_key _ steps protects byte key last_sector is = absurd is

stop_is : (ending : Ending) (past : Past) (steps : ℕ) (protects needs counted : Bool) (bytes : List ℕ) → Stops steps protects (if needs then oldest_of counted bytes else Some 0) ending → past.counted ≡ counted → past.steps ≡ steps → (steps ≡ 0 → past.words ≡ []) → IsStopped (stepped past) ending
stop_is Late past steps protects needs counted bytes is counted_is steps_are fresh = omega arith
stop_is Protected past steps protects needs counted bytes is counted_is steps_are fresh = fresh is.0
stop_is Overrun past steps protects needs counted bytes is counted_is steps_are fresh = counted_is ∙ missing needs counted bytes is.1
stop_is _ past steps protects needs counted bytes is counted_is steps_are fresh = is

same_writing : (past : Past) (key : Chrn) (deleted : Bool) (handed : List ℕ) (stage : WriteStage) → IsWriting past key deleted handed stage → IsWriting (stepped past) key deleted handed stage
same_writing past key deleted handed (stages.Search search) was = was
same_writing past key deleted handed (stages.Gap left) was = was
same_writing past key deleted handed (stages.Window now) was = was

module _ (head_drive steps : ℕ) (writing : Writing) (old : Fdc) (before : DriveState) (new : Fdc) (past : Past) (handed : List ℕ) (counted_is : past.counted ≡ writing.counted) (steps_are : past.steps ≡ steps) (fresh : steps ≡ 0 → past.words ≡ []) (was : IsWriting past writing.wanted.key writing.deleted handed writing.stage) (handed_is : IsHanded writing.counted past.taken handed old.fifo.bytes) where
  write_does : (time : WordTime) → WriteDoes time head_drive steps writing old before new → MayWrite (after_time time past) (write_sent head_drive writing) writing.deleted new
  write_does (Saw index word) (due, is) =
      let (closed, later) = not_due writing.stage due in
      let next : HasNext (heard index word (stepped past)) writing.wanted.key writing.deleted handed is.next = subst (λ first. HasNext (heard_where first index word (stepped past)) writing.wanted.key writing.deleted handed is.next) later (is.hears.0 (stepped past) writing.deleted handed closed (same_writing past writing.wanted.key writing.deleted handed writing.stage was)) in
      subst (λ fdc. MayWrite (heard index word (stepped past)) (write_sent head_drive writing) writing.deleted fdc) (sym is.after_is)
      (follow_write (heard index word (stepped past)) head_drive steps writing old handed counted_is (ap (λ n. n + 1) steps_are) handed_is is.next next)
  write_does (KeptOut index word) (first, is) =
      let next : HasNext (kept_out index word (stepped past)) writing.wanted.key writing.deleted handed is.next = subst (λ b. HasNext (heard_where b index word (stepped past)) writing.wanted.key writing.deleted handed is.next) first (is.hears.0 (stepped past) writing.deleted handed (not_open writing.stage first) (same_writing past writing.wanted.key writing.deleted handed writing.stage was)) in
      subst (λ fdc. MayWrite (kept_out index word (stepped past)) (write_sent head_drive writing) writing.deleted fdc) (sym is.after_is)
      (follow_write (kept_out index word (stepped past)) head_drive steps writing old handed counted_is (ap (λ n. n + 1) steps_are) handed_is is.next next)
  write_does (Wrote opened closed index word) is =
      let needs = needs_byte writing.stage in
      let more = handed_with needs is.byte handed in
      let later = wrote index is.given.word (stepped past) in
      let next = is.writes.goes_on (stepped past) writing.wanted.key writing.deleted more counted_is (is.writes.word_is (stepped past) handed is.due (same_writing past writing.wanted.key writing.deleted handed writing.stage was)) in
      let holds : IsHanded writing.counted past.taken more (without_byte needs old).fifo.bytes = subst (λ bytes. IsHanded writing.counted past.taken more bytes) (sym (if_bytes needs old)) (hand_byte needs writing.counted past.taken handed old.fifo.bytes is.byte is.byte_is handed_is) in
      subst (λ w. MayWrite (wrote index w (stepped past)) (write_sent head_drive writing) writing.deleted new) (sym is.word_is)
      (subst (λ fdc. MayWrite later (write_sent head_drive writing) writing.deleted fdc) (sym is.after_is)
      (follow_write later head_drive steps writing (without_byte needs old) more counted_is (ap (λ n. n + 1) steps_are) holds is.next next))
  write_does Stopped is =
      let stopped = stop_is is.ending past steps (is_protected before.medium) (needs_byte writing.stage) writing.counted old.fifo.bytes is.stops counted_is steps_are fresh in
      subst (λ fdc. MayWrite (stepped past) (write_sent head_drive writing) writing.deleted fdc) (sym is.after_is) (
        refl,
        ap (λ key. results_of is.ending head_drive key) (stop_key is.ending steps (is_protected before.medium) (byte_taken (needs_byte writing.stage) writing.counted old.fifo) writing.wanted.key writing.last_sector is.stops),
        (
          handed,
          record {
            written = stopped_written is.ending writing.stage (stepped past) writing.wanted.key writing.deleted handed (same_writing past writing.wanted.key writing.deleted handed writing.stage was) stopped;
            content = subst (λ counted. IsContent counted past.taken handed) (sym counted_is) (content_of writing.counted past.taken handed old.fifo.bytes handed_is);
          },
        ),
      )

pub writes_on : (time : WordTime) (head_drive steps : ℕ) (writing : Writing) (old : Fdc) (before : DriveState) (new : Fdc) → WriteDoes time head_drive steps writing old before new
    → (past : Past) (sent : Sent) (deleted : Bool) → MayWriteTask past sent deleted head_drive steps (Write writing) old.asking old.fifo → MayWrite (after_time time past) sent deleted new
writes_on time head_drive steps writing old before new does past sent deleted (asks, (handed, was)) =
    subst (λ s. MayWrite (after_time time past) s deleted new) was.sent_is (subst (λ d. MayWrite (after_time time past) (write_sent head_drive writing) d new) was.deleted_is
    (write_does head_drive steps writing old before new past handed was.counted_is was.steps_are was.fresh was.writes was.handed_is time does))

-- ---- a FORMAT

laid_due : (part : FormatPart) → formats.is_next part ≡ false → (formats.is_laying part ≡ false) × (formats.is_first part ≡ false)
laid_due Due is = absurd (false≢true (sym is))
laid_due Lay is = absurd (false≢true (sym is))
laid_due _ is = (refl, refl)

laid_open : (part : FormatPart) → formats.is_first part ≡ true → formats.is_laying part ≡ false
laid_open Lay is = absurd (false≢true is)
laid_open _ is = refl

module _ (past : Past) (head_drive steps : ℕ) (formatting : Formatting) (numbers : Numbers) (old : Fdc) (handed : List ℕ) (counted_is : past.counted ≡ formatting.counted) (steps_are : past.steps ≡ steps + 1) (handed_is : IsHanded formatting.counted past.taken handed old.fifo.bytes) where
  follow_format : (next : FormatNext) → formats.HasNext past numbers handed next → MayFormat past head_drive numbers (after_laid head_drive (steps + 1) formatting next old)
  follow_format (format_next.On stage) is = (
    rule_room formatting.counted old.asking old.fifo,
    (
      handed,
      record {
        sent_is = refl;
        counted_is = counted_is;
        steps_are = steps_are;
        fresh = λ none. absurd (omega arith);
        formats = is;
        handed_is = handed_is;
      },
    ),
  )
  follow_format (format_next.Ended ending key) is =
      (refl, refl, (handed, record { formatted = is.0; result = is.1; content = subst (λ counted. IsContent counted past.taken handed) (sym counted_is) (content_of formatting.counted past.taken handed old.fifo.bytes handed_is) }))

stop_result : (ending : Ending) (steps : ℕ) (protects : Bool) (byte : Option ℕ) (numbers : Numbers) (handed : List ℕ) → Stops steps protects byte ending → formats.IsResultKey numbers handed ending no_key
stop_result (Done deleted) steps protects byte numbers handed is = absurd is
stop_result _ steps protects byte numbers handed is = refl

module _ (head_drive steps : ℕ) (formatting : Formatting) (numbers : Numbers) (old : Fdc) (before : DriveState) (new : Fdc) (past : Past) (handed : List ℕ) (counted_is : past.counted ≡ formatting.counted) (steps_are : past.steps ≡ steps) (fresh : steps ≡ 0 → past.words ≡ []) (was : IsFormatting past numbers handed formatting.stage) (handed_is : IsHanded formatting.counted past.taken handed old.fifo.bytes) where
  format_does : (time : WordTime) → FormatDoes time head_drive steps formatting old before new → MayFormat (after_time time past) head_drive numbers new
  format_does (Saw index word) (due, is) =
      let (closed, later) = laid_due formatting.stage.part due in
      let next : formats.HasNext (heard index word (stepped past)) numbers handed is.next = subst (λ first. formats.HasNext (heard_where first index word (stepped past)) numbers handed is.next) later (is.hears.0 (stepped past) numbers handed word closed was) in
      subst (λ fdc. MayFormat (heard index word (stepped past)) head_drive numbers fdc) (sym is.after_is)
      (follow_format (heard index word (stepped past)) head_drive steps formatting numbers old handed counted_is (ap (λ n. n + 1) steps_are) handed_is is.next next)
  format_does (KeptOut index word) (first, is) =
      let next : formats.HasNext (kept_out index word (stepped past)) numbers handed is.next = subst (λ b. formats.HasNext (heard_where b index word (stepped past)) numbers handed is.next) first (is.hears.0 (stepped past) numbers handed word (laid_open formatting.stage.part first) was) in
      subst (λ fdc. MayFormat (kept_out index word (stepped past)) head_drive numbers fdc) (sym is.after_is)
      (follow_format (kept_out index word (stepped past)) head_drive steps formatting numbers old handed counted_is (ap (λ n. n + 1) steps_are) handed_is is.next next)
  format_does (Wrote opened closed index word) is =
      let more = handed_with is.needs is.byte handed in
      let later = wrote index is.given.word (stepped past) in
      let next = is.lays.goes_on (stepped past) numbers more (is.lays.word_is (stepped past) numbers handed is.due was is.takes) in
      let holds : IsHanded formatting.counted past.taken more (without_byte is.needs old).fifo.bytes = subst (λ bytes. IsHanded formatting.counted past.taken more bytes) (sym (if_bytes is.needs old)) (hand_byte is.needs formatting.counted past.taken handed old.fifo.bytes is.byte is.byte_is handed_is) in
      subst (λ w. MayFormat (wrote index w (stepped past)) head_drive numbers new) (sym is.word_is)
      (subst (λ fdc. MayFormat later head_drive numbers fdc) (sym is.after_is)
      (follow_format later head_drive steps formatting numbers (without_byte is.needs old) more counted_is (ap (λ n. n + 1) steps_are) holds is.next next))
  format_does Stopped is =
      let stopped = stop_is is.ending past steps (is_protected before.medium) is.needs formatting.counted old.fifo.bytes is.stops counted_is steps_are fresh in
      subst (λ fdc. MayFormat (stepped past) head_drive numbers fdc) (sym is.after_is) (
        refl,
        refl,
        (
          handed,
          record {
            formatted = stopped_formatted is.ending formatting.stage (stepped past) numbers handed was stopped;
            result = stop_result is.ending steps (is_protected before.medium) (byte_taken is.needs formatting.counted old.fifo) numbers handed is.stops;
            content = subst (λ counted. IsContent counted past.taken handed) (sym counted_is) (content_of formatting.counted past.taken handed old.fifo.bytes handed_is);
          },
        ),
      )

pub formats_on : (time : WordTime) (head_drive steps : ℕ) (formatting : Formatting) (old : Fdc) (before : DriveState) (new : Fdc) → FormatDoes time head_drive steps formatting old before new
    → (past : Past) (sent : ℕ) (numbers : Numbers) → MayFormatTask past sent numbers head_drive steps (Format formatting) old.asking old.fifo → MayFormat (after_time time past) sent numbers new
formats_on time head_drive steps formatting old before new does past sent numbers (asks, (handed, was)) =
    subst (λ s. MayFormat (after_time time past) s numbers new) was.sent_is
    (format_does head_drive steps formatting numbers old before new past handed was.counted_is was.steps_are was.fresh was.formats was.handed_is time does)

-- ---- a byte comes from memory

in_write : (past : Past) (sent : Sent) (deleted : Bool) (head_drive steps : ℕ) (task : Task) (asking : Bool) (fifo : Fifo) (byte : ℕ) → asking ≡ true → MayWriteTask past sent deleted head_drive steps task asking fifo
    → MayWriteTask (took byte past) sent deleted head_drive steps task (task_asks task asking (with_byte byte fifo)) (with_byte byte fifo)
in_write past sent deleted head_drive steps (Write writing) asking fifo byte up (asks, (handed, was)) =
    let (none, room) = asks up in (
      rule_room writing.counted asking (with_byte byte fifo),
      (
        handed,
        record {
          sent_is = was.sent_is;
          deleted_is = was.deleted_is;
          counted_is = was.counted_is;
          steps_are = was.steps_are;
          fresh = was.fresh;
          writes = was.writes;
          handed_is = subst (λ bytes. IsHanded writing.counted (past.taken ++ byte ∷ []) handed bytes) (sym (byte_held byte (length fifo.bytes == room_of fifo.on) fifo)) (take_byte writing.counted (length fifo.bytes == room_of fifo.on) past.taken handed fifo.bytes byte none room was.handed_is);
        },
      ),
    )
in_write past sent deleted head_drive steps _ asking fifo byte up was = absurd was

in_format : (past : Past) (sent : ℕ) (numbers : Numbers) (head_drive steps : ℕ) (task : Task) (asking : Bool) (fifo : Fifo) (byte : ℕ) → asking ≡ true → MayFormatTask past sent numbers head_drive steps task asking fifo
    → MayFormatTask (took byte past) sent numbers head_drive steps task (task_asks task asking (with_byte byte fifo)) (with_byte byte fifo)
in_format past sent numbers head_drive steps (Format formatting) asking fifo byte up (asks, (handed, was)) =
    let (none, room) = asks up in (
      rule_room formatting.counted asking (with_byte byte fifo),
      (
        handed,
        record {
          sent_is = was.sent_is;
          counted_is = was.counted_is;
          steps_are = was.steps_are;
          fresh = was.fresh;
          formats = was.formats;
          handed_is = subst (λ bytes. IsHanded formatting.counted (past.taken ++ byte ∷ []) handed bytes) (sym (byte_held byte (length fifo.bytes == room_of fifo.on) fifo)) (take_byte formatting.counted (length fifo.bytes == room_of fifo.on) past.taken handed fifo.bytes byte none room was.handed_is);
        },
      ),
    )
in_format past sent numbers head_drive steps _ asking fifo byte up was = absurd was

pub in_writes : (past : Past) (sent : Sent) (deleted : Bool) (phase : Phase) (asking : Bool) (fifo : Fifo) (byte : ℕ) → asking ≡ true → MayWriteIn past sent deleted phase asking fifo
    → MayWriteIn (took byte past) sent deleted phase (phase_asks phase asking (with_byte byte fifo)) (with_byte byte fifo)
in_writes past sent deleted (Result (Long ending results read)) asking fifo byte up (down, are, was) = absurd (false≢true (sym down ∙ up))
in_writes past sent deleted (Execute execution) asking fifo byte up was = in_write past sent deleted execution.head_drive execution.steps execution.task asking fifo byte up was
in_writes past sent deleted _ asking fifo byte up was = absurd was

pub in_formats : (past : Past) (sent : ℕ) (numbers : Numbers) (phase : Phase) (asking : Bool) (fifo : Fifo) (byte : ℕ) → asking ≡ true → MayFormatIn past sent numbers phase asking fifo
    → MayFormatIn (took byte past) sent numbers phase (phase_asks phase asking (with_byte byte fifo)) (with_byte byte fifo)
in_formats past sent numbers (Result (Long ending results read)) asking fifo byte up (down, are, was) = absurd (false≢true (sym down ∙ up))
in_formats past sent numbers (Execute execution) asking fifo byte up was = in_format past sent numbers execution.head_drive execution.steps execution.task asking fifo byte up was
in_formats past sent numbers _ asking fifo byte up was = absurd was

-- ---- the terminal count

told_write : (past : Past) (sent : Sent) (deleted : Bool) (head_drive steps : ℕ) (task : Task) (asking : Bool) (fifo : Fifo) → MayWriteTask past sent deleted head_drive steps task asking fifo
    → MayWriteTask (told_in true past) sent deleted head_drive steps (task_told task) (asking_told (moves_bytes task) asking) (fifo_told (is_read task) fifo)
told_write past sent deleted head_drive steps (ReadId search) asking fifo was = absurd was
told_write past sent deleted head_drive steps (Read reading) asking fifo was = absurd was
told_write past sent deleted head_drive steps (Format formatting) asking fifo was = absurd was
told_write past sent deleted head_drive steps (Write writing) asking fifo (asks, (handed, was)) = (
  λ up. absurd (false≢true up),
  (
    handed,
    record {
      sent_is = was.sent_is;
      deleted_is = was.deleted_is;
      counted_is = refl;
      steps_are = was.steps_are;
      fresh = was.fresh;
      writes = was.writes;
      handed_is = count_handed writing.counted past.taken handed fifo.bytes was.handed_is;
    },
  ),
)

told_format : (past : Past) (sent : ℕ) (numbers : Numbers) (head_drive steps : ℕ) (task : Task) (asking : Bool) (fifo : Fifo) → MayFormatTask past sent numbers head_drive steps task asking fifo
    → MayFormatTask (told_in true past) sent numbers head_drive steps (task_told task) (asking_told (moves_bytes task) asking) (fifo_told (is_read task) fifo)
told_format past sent numbers head_drive steps (ReadId search) asking fifo was = absurd was
told_format past sent numbers head_drive steps (Read reading) asking fifo was = absurd was
told_format past sent numbers head_drive steps (Write writing) asking fifo was = absurd was
told_format past sent numbers head_drive steps (Format formatting) asking fifo (asks, (handed, was)) = (
  λ up. absurd (false≢true up),
  (
    handed,
    record {
      sent_is = was.sent_is;
      counted_is = refl;
      steps_are = was.steps_are;
      fresh = was.fresh;
      formats = was.formats;
      handed_is = count_handed formatting.counted past.taken handed fifo.bytes was.handed_is;
    },
  ),
)

pub told_writes : (past : Past) (sent : Sent) (deleted : Bool) (phase : Phase) (asking : Bool) (fifo : Fifo) → MayWriteIn past sent deleted phase asking fifo
    → MayWriteIn (told_in (is_executing phase) past) sent deleted (phase_told phase) (asking_told (is_moving phase) asking) (fifo_told (is_reading phase) fifo)
told_writes past sent deleted Command asking fifo was = absurd was
told_writes past sent deleted (Result answer) asking fifo was = was
told_writes past sent deleted (Execute execution) asking fifo was = told_write past sent deleted execution.head_drive execution.steps execution.task asking fifo was

pub told_formats : (past : Past) (sent : ℕ) (numbers : Numbers) (phase : Phase) (asking : Bool) (fifo : Fifo) → MayFormatIn past sent numbers phase asking fifo
    → MayFormatIn (told_in (is_executing phase) past) sent numbers (phase_told phase) (asking_told (is_moving phase) asking) (fifo_told (is_reading phase) fifo)
told_formats past sent numbers Command asking fifo was = absurd was
told_formats past sent numbers (Result answer) asking fifo was = was
told_formats past sent numbers (Execute execution) asking fifo was = told_format past sent numbers execution.head_drive execution.steps execution.task asking fifo was
