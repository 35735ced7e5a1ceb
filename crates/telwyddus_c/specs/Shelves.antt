-- Calls on a shelf on which the program runs.
use Rattle.std.specs.Prelude.{◌≡◌, ◌==◌, ℕ, List, [], All, Option, None, Some, MatchBool, if◌then◌else◌}
use Rattle.std.specs.Str.{IsUtf8}
use Rattle.archive_commands.specs.Files.{Outside}
use Rattle.c_slots.specs.Shelves.{ShelfValue}
use Rattle.flop_base.specs.Numbers.{status_number}
use Rattle.telwyddus_c.specs.Common.{no_files, stored, files_in, report_in, RanPlain}
use Rattle.flop_base.specs.Sink.{joined}
use Rattle.flop_base.specs.declared.answers.Status.{Status}
use Rattle.memory_files.specs.Words.{words_in}
use Rattle.telwyddus_c.specs.Buffers.{WritesOr, WritesBytes}

-- no file, and nothing printed
pub record IsBare (shelf : ShelfValue) : Type 0 where
  pub files : files_in shelf ≡ no_files
  pub report : report_in shelf ≡ []

-- a file is placed: code 0. If memory is out, 3, or if its name isn't UTF-8, 11, all stays
abbrev pub Puts : (name bytes : List ℕ) → ℕ → Outside → Outside → Type 0
Puts name bytes code old new =
    MatchBool (code == 0) ((new.files ≡ stored old.files name bytes) × (new.report ≡ old.report))
    (MatchBool (code == 3) (new ≡ old)
    (MatchBool (code == 11) (¬ (IsUtf8 name) × (new ≡ old)) ⊥))

-- the file of a name is copied to a buffer. By the code of the call:
-- - 0: the file is copied;
-- - 10: the buffer is too short;
-- - 12: no file has the name. The buffer and what was reported stay;
-- - 11: the name isn't UTF-8. The buffer and what was reported stay.
abbrev pub Gets : (name : List ℕ) → Option (List ℕ) → ℕ → List ℕ → List ℕ → (was told : ℕ) → Type 0
Gets name None code old new was told =
    MatchBool (code == 12) ((new ≡ old) × (told ≡ was)) (MatchBool (code == 11) (¬ (IsUtf8 name) × (new ≡ old) × (told ≡ was)) ⊥)
Gets name (Some bytes) code old new was told =
    WritesOr (MatchBool (code == 11) (¬ (IsUtf8 name) × (new ≡ old) × (told ≡ was)) ⊥) bytes code old new told

-- the program ran with the words of a text, and its exit status is reported: code 0. If memory was out before the
-- program ran, 3, or if some word isn't UTF-8, 11, all stays
abbrev pub RunsWords : List ℕ → ℕ → (was status : ℕ) → Outside → Outside → Type 0
RunsWords text code was status old new =
    MatchBool (code == 0) ((ended : Status) × (status ≡ status_number ended) × RanPlain (words_in text) old new ended)
    (MatchBool (code == 3) ((new ≡ old) × (status ≡ was))
    (MatchBool (code == 11) (¬ (All IsUtf8 (words_in text)) × (new ≡ old) × (status ≡ was)) ⊥))

-- the lines that were printed are copied to a buffer, one after the other, and forgotten: code 0. If the buffer is too
-- short, the code is 10 and they are kept
pub record HandsOut (code : ℕ) (old new : List ℕ) (told : ℕ) (before after : ShelfValue) : Type 0 where
  pub copied : WritesBytes (joined (report_in before)) code old new told
  pub left : report_in after ≡ if code == 0 then [] else report_in before
  pub files : files_in after ≡ files_in before
