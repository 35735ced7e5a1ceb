-- A word of a layout, written in place.
use Rattle.std.proofs.Common.{◌≡◌, ◌<◌, ◌≤◌, ◌+◌, ◌-◌, ℕ, Bool, true, false, List, Option, None, Some, refl, sym, ap, subst, ◌∙◌, arith}
use Rattle.fdc_core.proofs.Common.{false≢true, DriveState, Writes, InRange, at_index, Fifo, Past, wrote, Numbers, is_laying, is_first, is_next, Takes, IsFormatting, IsNextLaid, EndsWell, format_next, HasLead, LeadsOn, handed_with, FormatPart, Due, Lay, FormatStage, StageLaysWord, head_of, format_at, Execute, Format, Formatting, after_laid, format_followed, LaysByte, IsFormatStep, Opens, Closes, byte_taken, without_byte, fifo_without, Fdc}
use Rattle.fdc_stages.specs.Formats.{is_open, is_due, opens, HasNext}
use Rattle.fdc_stages.specs.declared.formatting.FormatEnd.{FormatEnd}
use Rattle.fdc_stages.specs.declared.formatting.FormatWord.{FormatWord}
use Rattle.fdc_phases.specs.Formatting.{is_ended}
use Rattle.fdc_core.specs.Formatting.{is_over}
use Rattle.fdc_core.proofs.Words.{laid_time}

laying_due : (part : FormatPart) → is_laying part ≡ true → is_next part ≡ true
laying_due Lay is = refl
laying_due _ is = absurd (false≢true is)

laying_opened : (part : FormatPart) → is_laying part ≡ true → is_first part ≡ false
laying_opened Due is = absurd (false≢true is)
laying_opened _ is = refl

-- the stage gave this word, and is another one after it
pub record LaysOne (old : FormatStage) (byte word : ℕ) (new : FormatStage) : Type 0 where
  pub writes : (past : Past) (numbers : Numbers) (handed : List ℕ) (takes : Bool) → is_due old ≡ true → IsFormatting past numbers handed old → Takes old takes → IsNextLaid past numbers (handed_with takes byte handed) word new.stream new.key
  pub lead : (lead : ℕ) → HasLead old lead → HasLead new (lead - 1)
  pub part : new.part ≡ old.part

-- the command is over after this word, or it isn't
pub record EndsOne (now : FormatStage) (index : Bool) (over : Option FormatEnd) : Type 0 where
  pub goes_on : (past : Past) (numbers : Numbers) (handed : List ℕ) (word : ℕ) → is_open now ≡ true → IsNextLaid past numbers handed word now.stream now.key → HasNext (wrote index word past) numbers handed (format_next now over)
  pub well : EndsWell (format_next now over)
  pub lead : (lead : ℕ) → HasLead now lead → LeadsOn lead (format_next now over)

-- the byte that the word needs is taken
pub record TakesOne (now : FormatStage) (needs counted : Bool) (old new : Fifo) (byte : ℕ) : Type 0 where
  pub takes : is_due now ≡ true → Takes now needs
  pub lead : (lead : ℕ) → HasLead now lead → needs ≡ true → lead ≡ 0
  pub byte_is : byte_taken needs counted old ≡ Some byte
  pub after : new ≡ fifo_without needs old

-- the drive writes the word
pub record WritesOne (head word : ℕ) (index : Bool) (before mid : DriveState) : Type 0 where
  pub writes : Writes head word before mid
  pub index_is : index ≡ at_index before
  pub range_before : InRange before
  pub range : InRange mid

-- the controller after the word
abbrev pub at_format : ℕ → ℕ → Formatting → Fifo → Fdc → Fdc
at_format head_drive steps formatting fifo old =
    record old { phase = Execute (record { head_drive = head_drive; steps = steps; task = Format formatting }); fifo = fifo }

followed_is : (head_drive steps : ℕ) (formatting : Formatting) (stage : FormatStage) (over : Option FormatEnd) (needs : Bool) (old : Fdc) → format_followed head_drive formatting.counted over (at_format head_drive steps (format_at formatting stage) (fifo_without needs old.fifo) old) ≡ after_laid head_drive steps formatting (format_next stage over) (without_byte needs old)
followed_is head_drive steps formatting stage None true old = refl
followed_is head_drive steps formatting stage None false old = refl
followed_is head_drive steps formatting stage (Some over) true old = refl
followed_is head_drive steps formatting stage (Some over) false old = refl

over_is : (stage : FormatStage) (over : Option FormatEnd) → is_over over ≡ is_ended (format_next stage over)
over_is stage None = refl
over_is stage (Some over) = refl

pub laid_on : (head_drive steps byte word : ℕ) (needs index : Bool) (formatting : Formatting) (stage : FormatStage) (over : Option FormatEnd) (fifo : Fifo) (old : Fdc) (before mid after : DriveState) (new : Fdc) → (1 ≤ steps) × (steps < 65535) × (is_open formatting.stage ≡ true)
    → TakesOne formatting.stage needs formatting.counted old.fifo fifo byte → LaysOne formatting.stage byte word stage → WritesOne (head_of head_drive) word index before mid → EndsOne stage index over
    → new ≡ format_followed head_drive formatting.counted over (at_format head_drive (steps + 1) (format_at formatting stage) fifo old) → Closes (is_over over) mid after → IsFormatStep head_drive steps formatting old before after new
laid_on head_drive steps byte word needs index formatting stage over fifo old before mid after new (some, few, opened) takes lays writes ends is closes =
    let due : is_due formatting.stage ≡ true = laying_due formatting.stage.part opened in
    let shut : opens formatting.stage ≡ false = laying_opened formatting.stage.part opened in
    let still : is_open stage ≡ true = ap is_laying lays.part ∙ opened in
    let next = format_next stage over in
    let given : FormatWord = record { word = word; stream = stage.stream; key = stage.key } in
    let stage_lays : StageLaysWord formatting needs byte index given next = record {
      word_is = λ past numbers handed due was asks. lays.writes past numbers handed needs due was asks;
      goes_on = λ past numbers handed was. ends.goes_on past numbers handed word still was;
      well = ends.well;
      lead = λ lead has. ends.lead (lead - 1) (lays.lead lead has);
    } in
    let put : LaysByte head_drive steps formatting needs byte (without_byte needs old) before after new = record {
      from = before;
      mid = mid;
      given = given;
      next = next;
      lays = subst (λ i. StageLaysWord formatting needs byte i given next) writes.index_is stage_lays;
      opens_it = subst (λ first. Opens first before before) (sym shut) refl;
      puts = writes.writes;
      range_from = writes.range_before;
      range_mid = writes.range;
      closes = subst (λ last. Closes last mid after) (over_is stage over) closes;
      after_is = is ∙ (ap (λ f. format_followed head_drive formatting.counted over (at_format head_drive (steps + 1) (format_at formatting stage) f old)) takes.after ∙ followed_is head_drive (steps + 1) formatting stage over needs old);
    } in
    record {
      does = laid_time head_drive steps byte needs formatting old (without_byte needs old) before after new few (λ first. absurd (false≢true (sym shut ∙ first))) due (takes.takes due) takes.lead takes.byte_is refl put;
      guards = λ first protects. absurd (omega arith);
    }
