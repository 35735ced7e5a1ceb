-- A word that a format hears, and the end of its revolution.
use Rattle.std.proofs.Common.{◌≡◌, ℕ, Bool, true, false, List, [], ◌∷◌, length, refl, sym, ap, subst, ◌∙◌, arith, inl, inr, length-append}
use Rattle.fdc_stages.proofs.Common.{false≢true, append-nil, Chrn, with_word, FormatStream, Done, NoMark, NoField, Past, heard, kept_out, wrote, FormatPart, Due, Lay, Barred, FormatStage, handed_with, Numbers, is_next, is_due, StreamTakes, TakesAt, IsLaid, IsLastKey, IsBehindFirst, IsAtPart, IsFormatting, IsNextLaid, IsBehindIndex, HasLaid, HasWholeTurn, IsUnopened, HasFormatted, IsResultKey, StreamLeads}
use Rattle.fdc_stages.proofs.Keyed.{last_of}
use Rattle.fdc_stages.proofs.Leading.{none_before}
use Rattle.fdc_stages.proofs.Laying.{Goes, next_laid, same_takes, laid_words_are, StreamIsWhole, whole_fits, part_misfits}

-- ---- the index pulse is awaited

-- ---- no gate was opened

pub due_unopened : (index : Bool) (word : ℕ) (past : Past) → IsAtPart past.turns past.seen past.place past.words past.barred Due → IsUnopened index (kept_out index word past)
due_unopened true word past (behind, begins, none) =
    (none, refl, (with_word past.seen word, record { first = behind.first; turns = ap (λ xs. with_word past.seen word ∷ xs) behind.turns_are; nothing = refl }))
due_unopened false word past (behind, begins, none) = ((behind.first, behind.turns_are), none, refl)

pub barred_unopened : (index : Bool) (word : ℕ) (past : Past) → IsAtPart past.turns past.seen past.place past.words past.barred Barred → IsUnopened index (heard index word past)
barred_unopened true word past (turned, none, barred) =
    (none, barred, (with_word past.seen word, record { first = turned.0; turns = ap (λ xs. with_word past.seen word ∷ xs) turned.1; nothing = refl }))
barred_unopened false word past was = was

-- ---- what was written

pub laid_begun : (past : Past) (numbers : Numbers) (handed : List ℕ) (stream : FormatStream) → IsBehindIndex past → IsLaid past.words numbers handed stream → HasLaid past numbers handed
laid_begun past numbers handed stream behind was = record {
  behind = behind;
  first = record { few = was.few; laid = laid_words_are past.words handed numbers stream was };
}

pub unopened_over : (index : Bool) (past : Past) (numbers : Numbers) (handed : List ℕ) (stream : FormatStream) → index ≡ true → IsUnopened index past → IsLaid past.words numbers handed stream → HasFormatted past numbers handed NoMark
unopened_over true past numbers handed stream is barred was = record { begun = laid_begun past numbers handed stream (inl barred.0) was; cause = barred }
unopened_over false past numbers handed stream is barred was = absurd (false≢true is)

-- ---- a word of the layout

due_behind : (part : FormatPart) (past : Past) → is_next part ≡ true → IsAtPart past.turns past.seen past.place past.words past.barred part → IsBehindFirst past.turns past.seen × (past.place ≡ length past.words)
due_behind Due past due (behind, begins, none) = (behind, begins ∙ sym (ap length none))
due_behind Lay past due (behind, place, some) = (behind, place)
due_behind _ past due was = absurd (false≢true due)

some_lead : (lead : ℕ) → lead ≡ 162 → lead ≡ 0 → ⊥
some_lead lead is none = omega arith

-- the first word of the layout takes no byte
takes_agree : (part : FormatPart) (past : Past) (numbers : Numbers) (handed : List ℕ) (stream : FormatStream) (takes given : Bool) → is_next part ≡ true → IsAtPart past.turns past.seen past.place past.words past.barred part → IsLaid past.words numbers handed stream → TakesAt part stream takes → StreamTakes stream given → given ≡ takes
takes_agree Lay past numbers handed stream takes given due at laid is too = same_takes past.words handed numbers stream given takes laid too is
takes_agree Due past numbers handed stream takes true due (behind, begins, none) laid is too =
    let leads : StreamLeads stream 162 = record { numbers = numbers; words = past.words; handed = handed; laid = laid; most = omega (arith, ap length none) } in
    absurd (some_lead 162 refl (none_before stream true 162 refl too leads))
takes_agree Due past numbers handed stream takes false due at laid is too = sym is
takes_agree _ past numbers handed stream takes given due at laid is too = absurd (false≢true due)

pub write_laid : (past : Past) (numbers : Numbers) (handed : List ℕ) (now : FormatStage) (new : FormatStream) (key : Chrn) (byte word : ℕ) (takes given : Bool) → is_due now ≡ true → IsFormatting past numbers handed now → TakesAt now.part now.stream takes → StreamTakes now.stream given → Goes now.stream new byte word → (IsLastKey handed now.key → IsLastKey (handed_with given byte handed) key) → IsNextLaid past numbers (handed_with takes byte handed) word new key
write_laid past numbers handed now new key byte word takes given due (at, laid, last) is too goes shifts =
    let next = next_laid past.words handed numbers now.stream new byte word given goes too laid in
    subst (λ t. IsNextLaid past numbers (handed_with t byte handed) word new key) (takes_agree now.part past numbers handed now.stream takes given due at laid is too)
    (due_behind now.part past due at, next, shifts last)

-- ---- after a word of the layout

pub too_short : (index : Bool) (word : ℕ) (past : Past) (numbers : Numbers) (handed : List ℕ) (stream : FormatStream) (key : Chrn) → index ≡ true → StreamIsWhole stream false → IsNextLaid past numbers handed word stream key → HasFormatted (wrote index word past) numbers handed NoField
too_short false word past numbers handed stream key is whole was = absurd (false≢true is)
too_short true word past numbers handed stream key is whole ((behind, place), laid, last) = record {
  begun = laid_begun (wrote true word past) numbers handed stream (inr behind) laid;
  cause = record {
    index = refl;
    behind = behind;
    some = omega (arith, length-append past.words (word ∷ []));
    misfit = part_misfits (with_word past.words word) handed numbers stream whole laid;
  };
}

pub whole_turn : (index : Bool) (word : ℕ) (past : Past) (numbers : Numbers) (handed : List ℕ) (stream : FormatStream) (key : Chrn) → index ≡ true → StreamIsWhole stream true → IsNextLaid past numbers handed word stream key → HasWholeTurn (wrote index word past) numbers handed
whole_turn false word past numbers handed stream key is whole was = absurd (false≢true is)
whole_turn true word past numbers handed stream key is whole ((behind, place), laid, last) =
    let fits = whole_fits (with_word past.words word) handed numbers stream whole laid in (
      fits.0,
      record {
        index = refl;
        behind = behind;
        many = fits.1.many;
        bytes = fits.1.bytes ∙ append-nil handed;
        fits = fits.2;
        laid = (laid_words_are (with_word past.words word) handed numbers stream laid fits.0 [] fits.1).laid;
      },
    )

pub turn_begun : (index : Bool) (word : ℕ) (past : Past) (numbers : Numbers) (handed : List ℕ) (stream : FormatStream) (key : Chrn) → IsNextLaid past numbers handed word stream key → HasLaid (wrote index word past) numbers handed
turn_begun index word past numbers handed stream key ((behind, place), laid, last) = laid_begun (wrote index word past) numbers handed stream (inr behind) laid

pub result_is_last : (past : Past) (numbers : Numbers) (handed : List ℕ) (key : Chrn) → HasWholeTurn past numbers handed → IsLastKey handed key → IsResultKey numbers handed (Done false) key
result_is_last past numbers handed key (keys, turn) last =
    (keys, record { many = turn.many; bytes = turn.bytes ∙ sym (append-nil handed) }, last_of handed key keys turn.bytes last)
