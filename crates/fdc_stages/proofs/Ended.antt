-- What the ending of a writing or of a format says of the words written.
use Rattle.std.proofs.Common.{take, length-append, refl, ◌++◌, ◌≡◌, ℕ, ◌+◌, ◌*◌, ◌≤◌, Bool, List, length, sym, ap, subst, ◌∙◌, arith, inl, inr}
use Rattle.fdc_stages.proofs.Common.{take_at, take_all, append-nil, drop_all, Chrn, content_size, window, laid_words, lay, window_word, address_stays, length-key_bytes, Ending, Done, Overrun, Protected, Late, Past, WriteStage, FormatPart, Await, Due, Lay, Barred, FormatStage, IsStopped, IsWriting, IsFirstOf, HasBegun, HasWritten, IsWhole, WritesCut, WritesFirst, WritesWhole, Numbers, keys_from, IsAtPart, IsFormatting, IsBehindIndex, HasLaid, HasFormatted, LaysWhole}
use Rattle.flop_base.specs.Lists.{with_items}
use Rattle.fdc_stages.specs.declared.writing.WriteStage.TheVariants as stage
use Rattle.fdc_stages.proofs.Keyed.{length-keys_from, some_keys}
use Rattle.fdc_stages.proofs.Windowed.{begun_in}
use Rattle.fdc_stages.proofs.Turned.{laid_begun}

-- ---- a command that is stopped

writing_begun : (now : WriteStage) (past : Past) (key : Chrn) (deleted : Bool) (handed : List ℕ) → IsWriting past key deleted handed now → HasBegun past key deleted handed
writing_begun (stage.Window now) past key deleted handed (at, ((p, was), some)) = inr (p, begun_in past.seen past.words key deleted handed _ p some was)
writing_begun _ past key deleted handed (at, (was, none)) = inl none

pub stopped_written : (ending : Ending) (now : WriteStage) (past : Past) (key : Chrn) (deleted : Bool) (handed : List ℕ) → IsWriting past key deleted handed now → IsStopped past ending → HasWritten past key deleted handed ending
stopped_written Overrun now past key deleted handed was stopped = record { begun = writing_begun now past key deleted handed was; cause = stopped }
stopped_written Late now past key deleted handed was stopped = record { begun = writing_begun now past key deleted handed was; cause = stopped }
stopped_written Protected now past key deleted handed was stopped = record { begun = writing_begun now past key deleted handed was; cause = stopped }
stopped_written _ now past key deleted handed was stopped = absurd stopped

part_behind : (part : FormatPart) (past : Past) → IsAtPart past.turns past.seen past.place past.words past.barred part → IsBehindIndex past
part_behind Await past (turns, none) = inl none
part_behind Due past (behind, begins, none) = inl none
part_behind Lay past (behind, place, some) = inr behind
part_behind Barred past (turned, none, barred) = inl none

format_begun : (now : FormatStage) (past : Past) (numbers : Numbers) (handed : List ℕ) → IsFormatting past numbers handed now → HasLaid past numbers handed
format_begun now past numbers handed (at, laid, last) = laid_begun past numbers handed now.stream (part_behind now.part past at) laid

pub stopped_formatted : (ending : Ending) (now : FormatStage) (past : Past) (numbers : Numbers) (handed : List ℕ) → IsFormatting past numbers handed now → IsStopped past ending → HasFormatted past numbers handed ending
stopped_formatted Overrun now past numbers handed was stopped = record { begun = format_begun now past numbers handed was; cause = stopped }
stopped_formatted Late now past numbers handed was stopped = record { begun = format_begun now past numbers handed was; cause = stopped }
stopped_formatted Protected now past numbers handed was stopped = record { begun = format_begun now past numbers handed was; cause = stopped }
stopped_formatted _ now past numbers handed was stopped = absurd stopped

-- ---- the words written

taken_first : (words whole : List ℕ) → IsFirstOf words whole → (length words ≤ length whole) × (words ≡ take (length words) whole)
taken_first words whole (others, is) =
    (omega (arith, ap length is, length-append words others), sym (ap (take (length words)) is ∙ take_at words others (length words) refl))

pub first_written : (past : Past) (key : Chrn) (deleted : Bool) (handed : List ℕ) → HasBegun past key deleted handed → WritesFirst past key deleted handed
first_written past key deleted handed (inl none) = inl none.0
first_written past key deleted handed (inr (p, begun)) = inr (p, record { few = begun.few; cuts = cuts })
  where
    cuts : (rest : List ℕ) → length handed + length rest ≡ content_size key.n → WritesCut past key deleted (handed ++ rest) p
    cuts rest size =
        let taken = taken_first past.words (window deleted (handed ++ rest)) (begun.first rest size) in
        record {
          field = λ track part. record { address = address_stays past.seen track part p key begun.address; size = length-append handed rest ∙ size };
          cut = λ track inside. record {
            cuttable = record { most = taken.0; inside = omega (arith, begun.place, inside) };
            is = ap (λ start. with_items track start past.words) begun.place ∙ ap (with_items track (window_word p)) taken.1;
          };
        }

pub whole_written : (past : Past) (key : Chrn) (deleted : Bool) (handed : List ℕ) (marked : Bool) → HasWritten past key deleted handed (Done marked) → WritesWhole past key deleted handed
whole_written past key deleted handed marked written =
    let p = written.cause.2.0 in
    let at : IsWhole past.seen past.words key deleted handed p = written.cause.2.1 in
    let all = window deleted handed in (
      p,
      record {
        counted = written.cause.1;
        words = at.whole;
        field = λ track part. record { address = address_stays past.seen track part p key at.address; size = at.size };
        written = λ track. ap (λ start. with_items track start past.words) at.place ∙ ap (with_items track (window_word p)) (at.whole ∙ sym (take_all (length all) all (omega arith)));
      },
    )

-- if a track has as many words as are written from its word 0 on, it becomes these words
pub track_over : (track words : List ℕ) → length track ≡ length words → with_items track 0 words ≡ words
unfolding with_items
track_over track words same =
    let over : length track ≤ 0 + length words = omega (arith, same) in
    ap (λ xs. words ++ xs) (drop_all (0 + length words) track over) ∙ append-nil words

pub whole_laid : (past : Past) (numbers : Numbers) (handed : List ℕ) (marked : Bool) → HasFormatted past numbers handed (Done marked) → LaysWhole past numbers handed
whole_laid past numbers handed marked formatted =
    let keys = formatted.cause.1.0 in
    let turn = formatted.cause.1.1 in
    let same : length keys ≡ length (keys_from numbers.sectors handed) = turn.many ∙ sym (length-keys_from numbers.sectors handed) in
    let first = formatted.begun.first in
    let some = some_keys numbers handed first.few in
    record {
      index = turn.index;
      words = first;
      fits = subst (λ count. laid_words count numbers.n numbers.gap3 ≤ length past.words) same turn.fits;
      written = λ track same.
          track_over track past.words same
          ∙ (first.laid (keys_from numbers.sectors handed) some.0 some.1).laid
          ∙ ap (lay (keys_from numbers.sectors handed) numbers.n numbers.gap3 numbers.fill) (sym same);
      all = ap length (sym turn.bytes) ∙ length-key_bytes keys ∙ ap (λ count. 4 * count) turn.many;
    }
