-- What a text says by its lines, whatever the words of a line spell.
use Rattle.std.specs.Prelude.{◌==◌, ℕ, ◌+◌, Bool, ◌||◌, not, List, [], ◌∷◌, length, filter, slice_index, Option, Some, None, option_map, Result, Ok, Err, nat_lt, if◌then◌else◌}
use Rattle.std.specs.List.{slice_split, onto_first}
use Rattle.std.specs.Str.Lines.{strip_carriage_return}

-- The lines of a text. A line ends with a line feed or with the text. A line feed at the end of the text begins no
-- further line.
abbrev pub lines_of : List ℕ → List (List ℕ)
lines_of [] = []
lines_of (b ∷ bs) = if b == 10 then [] ∷ lines_of bs else onto_first b (lines_of bs)

-- the words of a line, which are what stands between spaces
abbrev pub words_of : List ℕ → List (List ℕ)
words_of line = filter (λ word. not (length word == 0)) (slice_split (λ b. b == 32) line)

-- whether a line is passed over, since it begins with '#' or has no word
abbrev pub is_passed_over : List ℕ → Bool
is_passed_over line = (slice_index line 0 == 35) || (length (words_of line) == 0)

-- What a line without its end says. It is `Some None` if the line is passed over, and `None` if the line is bad or has
-- over 200 bytes.
unfoldable pub line_of : {T : Type 0} → (List (List ℕ) → Option T) → List ℕ → Option (Option T)
line_of spelled line =
    if nat_lt 200 (length line) then None
    else (if is_passed_over line then Some None else option_map Some (spelled (words_of line)))

-- what line n and the lines after it say
abbrev pub with_line : {T : Type 0} → ℕ → Option (Option T) → Result (List T) ℕ → Result (List T) ℕ
with_line n None said = Err n
with_line n (Some None) said = said
with_line n (Some (Some item)) (Ok items) = Ok (item ∷ items)
with_line n (Some (Some item)) (Err bad) = Err bad

-- What the lines say, the first of which is line n: their items in order, or the first bad line. Each line after the
-- first `most` is bad.
abbrev pub lines_say : {T : Type 0} → (List (List ℕ) → Option T) → ℕ → ℕ → List (List ℕ) → Result (List T) ℕ
lines_say spelled most n [] = Ok []
lines_say spelled most n (line ∷ lines) =
    if nat_lt most n then Err n
    else with_line n (line_of spelled (strip_carriage_return line)) (lines_say spelled most (n + 1) lines)

-- What a text of at most this many lines says. The bad line is 0 if the text has over 4,194,304 bytes.
unfoldable pub text_of : {T : Type 0} → (List (List ℕ) → Option T) → ℕ → List ℕ → Result (List T) ℕ
text_of spelled most text =
    if nat_lt 4194304 (length text) then Err 0 else lines_say spelled most 1 (lines_of text)
