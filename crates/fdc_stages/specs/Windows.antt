-- The words of a window that are still to come.
use Rattle.std.specs.Prelude.{◌≡◌, ℕ, suc, ◌+◌, ◌-◌, ◌%◌, ◌≤◌, nat_lt, if◌then◌else◌, Bool, true, false, Option, Some, None, List, [], ◌∷◌, ◌++◌, length, replicate}
use Rattle.fdc_stages.specs.Common.{legal, after_marks, data_byte, check_bytes}
use Rattle.track_model.specs.Crc.{crc, crc_from}
use Rattle.fdc_stages.specs.declared.window.Part.{Part}
use Rattle.fdc_stages.specs.declared.window.Part.TheVariants.{Sync, Marks, Mark, Content, High, Low}
use Rattle.fdc_stages.specs.declared.window.Window.{Window}

-- the words after the marks: the mark byte, the content and the CRC
abbrev pub words_of_field : Bool → List ℕ → List ℕ
words_of_field deleted content =
    legal true ((data_byte deleted ∷ content) ++ check_bytes (crc (after_marks (data_byte deleted ∷ content))))

-- the words from a part on, if this content is still to come
abbrev pub words_from : Part → Bool → ℕ → Bool → List ℕ → List ℕ
words_from (Sync more) deleted check last content =
    legal false (replicate (suc more) 0) ++ ((0x4489 ∷ 0x4489 ∷ 0x4489 ∷ []) ++ words_of_field deleted content)
words_from (Marks more) deleted check last content = replicate (suc more) 0x4489 ++ words_of_field deleted content
words_from Mark deleted check last content = words_of_field deleted content
words_from (Content _) deleted check last content = legal last (content ++ check_bytes (crc_from check content))
words_from High deleted check last content = legal last (check_bytes check)
words_from Low deleted check last content = legal last (check % 256 ∷ [])

abbrev pub words_left : Window → List ℕ → List ℕ
words_left now content = words_from now.part now.deleted now.check now.last content

-- how many bytes of the content are still to come
abbrev pub bytes_from : Part → ℕ → ℕ
bytes_from (Sync _) more = suc more
bytes_from (Marks _) more = suc more
bytes_from Mark more = suc more
bytes_from (Content left) more = suc left
bytes_from _ more = 0

abbrev pub bytes_left : Window → ℕ
bytes_left now = bytes_from now.part now.more

-- how many words are still to come, from this part of a window on. The content has one byte more than `more`
abbrev pub count_from : Part → ℕ → ℕ
count_from (Sync left) more = left + more + 8
count_from (Marks left) more = left + more + 5
count_from Mark more = more + 4
count_from (Content left) more = left + 3
count_from High more = 2
count_from Low more = 1

abbrev pub count_left : Window → ℕ
count_left now = count_from now.part now.more

-- how many words come before a byte of the content is needed. If no more bytes are needed, the number is 16
abbrev pub lead_from : Part → ℕ
lead_from (Sync left) = left + 5
lead_from (Marks left) = left + 2
lead_from Mark = 1
lead_from (Content _) = 0
lead_from _ = 16

abbrev pub lead_left : Window → ℕ
lead_left now = lead_from now.part

-- how many of `count` words come before the last, and before one that needs a byte after so many others. `more` bytes of
-- the content are still to come. Two words of the CRC follow them
abbrev pub words_with : ℕ → ℕ → ℕ → ℕ
words_with bytes more count = if nat_lt bytes more then count - 2 - (more - bytes) else count - 1

abbrev pub is_content : Part → Bool
is_content (Content _) = true
is_content _ = false

-- the next word is a byte of the content
abbrev pub needs_byte : Window → Bool
needs_byte now = is_content now.part

-- the content that is still to come, with the byte that a part takes in front of it
abbrev pub with_byte : Part → ℕ → List ℕ → List ℕ
with_byte (Content _) byte rest = byte ∷ rest
with_byte _ byte rest = rest

-- the words that are left after a word: none if it was the last
abbrev pub words_behind : Option Window → List ℕ → List ℕ
words_behind (Some now) content = words_left now content
words_behind None content = []

abbrev pub bytes_behind : Option Window → ℕ
bytes_behind (Some now) = bytes_left now
bytes_behind None = 0

abbrev pub count_behind : Option Window → ℕ
count_behind (Some now) = count_left now
count_behind None = 0

abbrev pub lead_behind : Option Window → ℕ
lead_behind (Some now) = lead_left now
lead_behind None = 16

abbrev pub is_low : Part → Bool
is_low Low = true
is_low _ = false

-- the next word is the last
abbrev pub is_last : Window → Bool
is_last now = is_low now.part

-- what is left of a window after a word: nothing if that word was the last
abbrev pub window_behind : Bool → Window → Option Window
window_behind true after = None
window_behind false after = Some after

-- a part gives the first of the words that are still to come, and takes a byte of the content if it needs one
pub record Gives (part : Part) (old : Window) (byte word : ℕ) (behind : Option Window) : Type 0 where
  pub words : (rest : List ℕ) → length rest ≡ bytes_behind behind → words_from part old.deleted old.check old.last (with_byte part byte rest) ≡ word ∷ words_behind behind rest
  pub bytes : (rest : List ℕ) → length rest ≡ bytes_behind behind → length (with_byte part byte rest) ≡ bytes_from part old.more
  pub count : count_from part old.more ≡ count_behind behind + 1
  pub lead : lead_from part ≤ lead_behind behind + 1
