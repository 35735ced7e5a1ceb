-- A word of a window that a writing writes.
use Rattle.std.proofs.Common.{◌≡◌, ℕ, ◌+◌, ◌≤◌, Bool, true, false, Option, Some, None, List, [], ◌∷◌, ◌++◌, length, replicate, refl, sym, ap, subst, ◌∙◌, append_assoc, arith, inl, inr, length-append}
use Rattle.fdc_stages.proofs.Common.{false≢true, true≢false, append-nil, length-replicate, Chrn, window, with_word, bytes_left, count_from, is_content, with_byte, needs_byte, words_behind, bytes_behind, lead_behind, Gives, Done, NoField, Past, wrote, WriteStage, handed_with, IsInWindow, IsBegun, IsWhole, IsWriting, IsNextWord, HasBegun, HasWhole, HasWritten}
use Rattle.fdc_stages.specs.declared.window.Part.{Part}
use Rattle.fdc_stages.specs.declared.window.Part.TheVariants as part
use Rattle.fdc_stages.specs.declared.window.Window.{Window}
use Rattle.fdc_stages.specs.declared.writing.WriteStage.TheVariants as stage
use Rattle.fdc_stages.specs.Writings as writing

-- ---- the window that the next word belongs to

pub open_window : (now : WriteStage) (past : Past) (key : Chrn) (deleted : Bool) (handed : List ℕ) (opened : Window) → now ≡ stage.Window opened → IsWriting past key deleted handed now → (p : ℕ) × IsInWindow past.seen past.words key deleted handed (Some opened) p
open_window now past key deleted handed opened is was = (subst (IsWriting past key deleted handed) is was).1.0

-- ---- the next word

handed_ahead : (now : Part) (byte : ℕ) (handed rest : List ℕ) → handed ++ with_byte now byte rest ≡ handed_with (is_content now) byte handed ++ rest
handed_ahead (part.Content more) byte handed rest = sym (append_assoc handed (byte ∷ []) rest)
handed_ahead _ byte handed rest = refl

pub next_word : (seen words : List ℕ) (key : Chrn) (deleted : Bool) (handed : List ℕ) (now : Window) (p byte word : ℕ) (behind : Option Window) → IsInWindow seen words key deleted handed (Some now) p → Gives now.part now byte word behind → IsInWindow seen (with_word words word) key deleted (handed_with (needs_byte now) byte handed) behind p
next_word seen words key deleted handed now p byte word behind was gives =
    let zeros : List ℕ = replicate (bytes_behind behind) 0 in
    let many : length zeros ≡ bytes_behind behind = length-replicate (bytes_behind behind) 0 in
    let ahead : length (handed ++ with_byte now.part byte zeros) ≡ length (handed_with (needs_byte now) byte handed ++ zeros) = ap length (handed_ahead now.part byte handed zeros) in
    let taken : length (with_byte now.part byte zeros) ≡ bytes_left now = gives.bytes zeros many in
    record {
      address = was.address;
      place = was.place;
      count = omega (arith, was.count, gives.count, length-append words (word ∷ []));
      bytes = omega (arith, was.bytes, taken, ahead, many, length-append handed (with_byte now.part byte zeros), length-append (handed_with (needs_byte now) byte handed) zeros);
      goes_on = λ rest long.
          append_assoc words (word ∷ []) (words_behind behind rest)
          ∙ ap (λ xs. words ++ xs) (sym (gives.words rest long))
          ∙ was.goes_on (with_byte now.part byte rest) (gives.bytes rest long)
          ∙ ap (window deleted) (handed_ahead now.part byte handed rest);
    }

pub write_word : (past : Past) (key : Chrn) (deleted : Bool) (handed : List ℕ) (at : WriteStage) (now : Window) (byte word : ℕ) (behind : Option Window) → IsWriting past key deleted handed at → (p : ℕ) × IsInWindow past.seen past.words key deleted handed (Some now) p → needs_byte now ≡ writing.needs_byte at → Gives now.part now byte word behind → IsNextWord past key deleted (handed_with (writing.needs_byte at) byte handed) word behind
write_word past key deleted handed at now byte word behind was (p, inside) needs gives =
    let next = next_word past.seen past.words key deleted handed now p byte word behind inside gives in
    (was.0, (p, subst (λ b. IsInWindow past.seen (with_word past.words word) key deleted (handed_with b byte handed) behind p) needs next))

-- ---- after the word

some_from : (now : Part) (more : ℕ) → 1 ≤ count_from now more
some_from (part.Sync left) more = omega arith
some_from (part.Marks left) more = omega arith
some_from part.Mark more = omega arith
some_from (part.Content left) more = omega arith
some_from part.High more = omega arith
some_from part.Low more = omega arith

-- the words are the first of the window, whatever the rest of the content is
pub begun_in : (seen words : List ℕ) (key : Chrn) (deleted : Bool) (handed : List ℕ) (behind : Option Window) (p : ℕ) → 1 ≤ length words → IsInWindow seen words key deleted handed behind p → IsBegun seen words key deleted handed p
begun_in seen words key deleted handed behind p some was = record {
  address = was.address;
  place = was.place;
  some = some;
  few = omega (arith, was.bytes);
  first = λ rest long. (words_behind behind rest, sym (was.goes_on rest (omega (arith, was.bytes, long))));
}

whole_in : (seen words : List ℕ) (key : Chrn) (deleted : Bool) (handed : List ℕ) (p : ℕ) → IsInWindow seen words key deleted handed None p → IsWhole seen words key deleted handed p
whole_in seen words key deleted handed p was = record {
  address = was.address;
  place = was.place;
  size = omega (arith, was.bytes);
  whole = sym (append-nil words) ∙ was.goes_on [] refl ∙ ap (window deleted) (append-nil handed);
}

pub whole_next : (index : Bool) (word : ℕ) (past : Past) (key : Chrn) (deleted : Bool) (handed : List ℕ) (behind : Option Window) → behind ≡ None → IsNextWord past key deleted handed word behind → HasWhole (wrote index word past) key deleted handed
whole_next index word past key deleted handed behind is (at, (p, was)) =
    (p, whole_in past.seen (with_word past.words word) key deleted handed p (subst (λ b. IsInWindow past.seen (with_word past.words word) key deleted handed b p) is was))

pub begun_next : (index : Bool) (word : ℕ) (past : Past) (key : Chrn) (deleted : Bool) (handed : List ℕ) (behind : Option Window) → IsNextWord past key deleted handed word behind → HasBegun (wrote index word past) key deleted handed
begun_next index word past key deleted handed behind (at, (p, was)) =
    let some : 1 ≤ length (with_word past.words word) = omega (arith, length-append past.words (word ∷ [])) in
    inr (p, begun_in past.seen (with_word past.words word) key deleted handed behind p some was)

pub whole_written : (past : Past) (key : Chrn) (deleted : Bool) (handed : List ℕ) → past.counted ≡ true → HasWhole past key deleted handed → HasBegun past key deleted handed → HasWritten past key deleted handed (Done false)
whole_written past key deleted handed counted whole begun = record { begun = begun; cause = (refl, counted, whole) }

-- the index pulse came, and the window isn't whole
pub cut_next : (index : Bool) (word : ℕ) (past : Past) (key : Chrn) (deleted : Bool) (handed : List ℕ) (behind : Option Window) (now : Window) → index ≡ true → behind ≡ Some now → IsNextWord past key deleted handed word behind → HasWritten (wrote index word past) key deleted handed NoField
cut_next false word past key deleted handed behind now is more was = absurd (false≢true is)
cut_next true word past key deleted handed behind now is more was =
    let at : IsInWindow past.seen (with_word past.words word) key deleted handed (Some now) was.1.0 = subst (λ b. IsInWindow past.seen (with_word past.words word) key deleted handed b was.1.0) more was.1.1 in
    let left = some_from now.part now.more in
    let some : 1 ≤ length (with_word past.words word) = omega (arith, length-append past.words (word ∷ [])) in
    record {
      begun = begun_next true word past key deleted handed behind was;
      cause = inr (inl (was.1.0, record { index = refl; some = some; address = at.address; few = omega (arith, at.count, left) }));
    }

-- ---- in place

abbrev WritesAt : Past → Chrn → Bool → List ℕ → ℕ → ℕ → Option Window → WriteStage → Type 0
WritesAt past key deleted handed byte word behind at =
    writing.is_open at ≡ true → IsWriting past key deleted handed at → IsNextWord past key deleted (handed_with (writing.needs_byte at) byte handed) word behind

pub put_in_window : (past : Past) (key : Chrn) (deleted : Bool) (handed : List ℕ) (now : Window) (byte word : ℕ) (behind : Option Window) → Gives now.part now byte word behind → WritesAt past key deleted handed byte word behind (stage.Window now)
put_in_window past key deleted handed now byte word behind gives opened was = write_word past key deleted handed (stage.Window now) now byte word behind was was.1.0 refl gives

-- the writing goes on
pub goes_next : (index last : Bool) (word : ℕ) (past : Past) (key : Chrn) (deleted : Bool) (handed : List ℕ) (at : WriteStage) → index ≡ false → last ≡ false → writing.is_open at ≡ true → IsNextWord past key deleted handed word (writing.rest_behind last at) → IsWriting (wrote index word past) key deleted handed at
goes_next true last word past key deleted handed at on more opened was = absurd (true≢false on)
goes_next false true word past key deleted handed at on more opened was = absurd (true≢false more)
goes_next false false word past key deleted handed (stage.Window now) on more opened (place, inside) =
    let long = length-append past.words (word ∷ []) in
    (omega (arith, place, long), (inside, omega (arith, long)))
goes_next false false word past key deleted handed _ on more opened was = absurd (false≢true opened)

-- the index pulse cuts the window
pub cut_open : (index last : Bool) (word : ℕ) (past : Past) (key : Chrn) (deleted : Bool) (handed : List ℕ) (at : WriteStage) → index ≡ true → last ≡ false → writing.is_open at ≡ true → IsNextWord past key deleted handed word (writing.rest_behind last at) → HasWritten (wrote index word past) key deleted handed NoField
cut_open index true word past key deleted handed at is more opened was = absurd (true≢false more)
cut_open index false word past key deleted handed (stage.Window now) is more opened was = cut_next index word past key deleted handed (Some now) now is refl was
cut_open index false word past key deleted handed _ is more opened was = absurd (false≢true opened)

-- no word is left after the last
pub none_behind : (last : Bool) (at : WriteStage) → last ≡ true → writing.rest_behind last at ≡ None
none_behind false at is = absurd (false≢true is)
none_behind true (stage.Search searching) is = refl
none_behind true (stage.Gap left) is = refl
none_behind true (stage.Window now) is = refl

-- one word fewer passes before a byte is needed
pub lead_next : (last : Bool) (at : WriteStage) (before : ℕ) → last ≡ false → writing.is_open at ≡ true → before ≤ lead_behind (writing.rest_behind last at) + 1 → before ≤ writing.lead_of at + 1
lead_next true at before more opened leads = absurd (true≢false more)
lead_next false (stage.Window now) before more opened leads = leads
lead_next false _ before more opened leads = absurd (false≢true opened)
