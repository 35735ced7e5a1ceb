-- A word of a window, written in place.
use Rattle.std.proofs.Common.{◌≡◌, ◌<◌, ◌≤◌, ◌+◌, ℕ, zero, Bool, true, false, List, Option, None, Some, IfSome, refl, sym, ap, subst, ◌∙◌, arith}
use Rattle.fdc_core.proofs.Common.{false≢true, DriveState, Chrn, Fifo, Past, lead_behind, is_open, is_due, opens, needs_byte, is_last, lead_of, rest_behind, handed_with, IsWriting, IsNextWord, WriteStage, head_of, write_at, StageWritesWord, EndsWord, is_ended, write_over, write_end, Execute, Write, Writing, finished, Opens, Closes, after_next, gone_or_over, is_end, byte_taken, without_byte, fifo_without, PutsByte, IsWriteStep, Fdc}
use Rattle.fdc_stages.specs.declared.writing.WriteWord.{WriteWord}
use Rattle.fdc_phases.specs.declared.phases.End.{End}
use Rattle.fdc_core.proofs.Laid.{WritesOne}
use Rattle.fdc_core.proofs.Words.{wrote_time}
use Rattle.fdc_stages.specs.declared.writing.WriteStage.TheVariants as stages

open_due : (stage : WriteStage) → is_open stage ≡ true → is_due stage ≡ true
open_due (stages.Window now) is = refl
open_due _ is = absurd (false≢true is)

open_opened : (stage : WriteStage) → is_open stage ≡ true → opens stage ≡ false
open_opened (stages.Gap zero) is = absurd (false≢true is)
open_opened _ is = refl

-- the stage gave this word, and is another one after it
pub record PutsOne (old : WriteStage) (byte word : ℕ) (last : Bool) (new : WriteStage) : Type 0 where
  pub last_is : last ≡ is_last old
  pub writes : (past : Past) (key : Chrn) (deleted : Bool) (handed : List ℕ) → is_open old ≡ true → IsWriting past key deleted handed old → IsNextWord past key deleted (handed_with (needs_byte old) byte handed) word (rest_behind (is_last old) new)
  pub lead : is_open old ≡ true → lead_of old ≤ lead_behind (rest_behind (is_last old) new) + 1
  pub opened : is_open new ≡ is_open old

-- the command is over after this word, or it isn't
pub record EndsPut (head_drive : ℕ) (writing : Writing) (last index : Bool) (over : Option End) : Type 0 where
  pub ends : EndsWord writing.stage last index writing.counted (write_over writing.stage over)
  pub over_is : IfSome over (λ over. over ≡ write_end over.ending head_drive writing)

-- the byte that the word needs is taken
pub record TakesFor (now : WriteStage) (needs counted : Bool) (old new : Fifo) (byte : ℕ) : Type 0 where
  pub needs_is : needs ≡ needs_byte now
  pub byte_is : byte_taken needs counted old ≡ Some byte
  pub after : new ≡ fifo_without needs old

-- the controller after the word
abbrev pub at_write : ℕ → ℕ → Writing → Fifo → Fdc → Fdc
at_write head_drive steps writing fifo old =
    record old { phase = Execute (record { head_drive = head_drive; steps = steps; task = Write writing }); fifo = fifo }

followed_is : (head_drive steps : ℕ) (writing : Writing) (stage : WriteStage) (over : Option End) (needs : Bool) (old : Fdc) → IfSome over (λ over. over ≡ write_end over.ending head_drive writing)
    → gone_or_over writing.counted over (at_write head_drive steps (write_at writing stage) (fifo_without needs old.fifo) old) ≡ after_next head_drive steps writing (write_over stage over) (without_byte needs old)
followed_is head_drive steps writing stage None true old is = refl
followed_is head_drive steps writing stage None false old is = refl
followed_is head_drive steps writing stage (Some over) true old is = ap (λ o. finished over.ending o.head_drive o.key old) is
followed_is head_drive steps writing stage (Some over) false old is = ap (λ o. finished over.ending o.head_drive o.key old) is

over_is : (stage : WriteStage) (over : Option End) → is_end over ≡ is_ended (write_over stage over)
over_is stage None = refl
over_is stage (Some over) = refl

pub put_on : (head_drive steps byte word : ℕ) (needs last index : Bool) (writing : Writing) (stage : WriteStage) (over : Option End) (fifo : Fifo) (old : Fdc) (before mid after : DriveState) (new : Fdc) → (1 ≤ steps) × (steps < 65535) × (is_open writing.stage ≡ true)
    → TakesFor writing.stage needs writing.counted old.fifo fifo byte → PutsOne writing.stage byte word last stage → WritesOne (head_of head_drive) word index before mid → EndsPut head_drive (write_at writing stage) last index over
    → new ≡ gone_or_over writing.counted over (at_write head_drive (steps + 1) (write_at writing stage) fifo old) → Closes (is_end over) mid after → IsWriteStep head_drive steps writing old before after new
put_on head_drive steps byte word needs last index writing stage over fifo old before mid after new (some, few, opened) takes puts writes ends is closes =
    let now = writing.stage in
    let due : is_due now ≡ true = open_due now opened in
    let shut : opens now ≡ false = open_opened now opened in
    let still : is_open stage ≡ true = puts.opened ∙ opened in
    let next = write_over stage over in
    let given : WriteWord = record { word = word; rest = rest_behind last stage } in
    let stage_writes : StageWritesWord writing byte index given next = record {
      word_is = λ past handed due was. subst (λ b. IsNextWord past writing.wanted.key writing.deleted (handed_with (needs_byte now) byte handed) word (rest_behind b stage)) (sym puts.last_is) (puts.writes past writing.wanted.key writing.deleted handed opened was);
      goes_on = λ past key deleted handed counted was. ends.ends.goes_on past key deleted handed word still counted was;
      well = ends.ends.well;
      lead = λ due. ends.ends.lead (lead_of now) still (subst (λ b. lead_of now ≤ lead_behind (rest_behind b stage) + 1) (sym puts.last_is) (puts.lead opened));
    } in
    let put : PutsByte head_drive steps writing byte (without_byte needs old) before after new = record {
      from = before;
      mid = mid;
      given = given;
      next = next;
      writes = subst (λ i. StageWritesWord writing byte i given next) writes.index_is stage_writes;
      opens_it = subst (λ first. Opens first before before) (sym shut) refl;
      puts = writes.writes;
      range_from = writes.range_before;
      range_mid = writes.range;
      closes = subst (λ last. Closes last mid after) (over_is stage over) closes;
      after_is = is ∙ (ap (λ f. gone_or_over writing.counted over (at_write head_drive (steps + 1) (write_at writing stage) f old)) takes.after ∙ followed_is head_drive (steps + 1) writing stage over needs old ends.over_is);
    } in
    record {
      does = wrote_time head_drive steps byte writing old (without_byte needs old) before after new few (λ first. absurd (false≢true (sym shut ∙ first))) due (ap (λ n. byte_taken n writing.counted old.fifo) (sym takes.needs_is) ∙ takes.byte_is) (ap (λ n. without_byte n old) takes.needs_is) put;
      guards = λ first protects. absurd (omega arith);
    }
