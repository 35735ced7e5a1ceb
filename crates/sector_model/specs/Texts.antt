-- What is printed, line by line: the lines that answer a request, and the last line of a run that stopped.
use Rattle.std.specs.Prelude.{ℕ, ◌+◌, ◌*◌, ◌/◌, Bool, true, false, List, [], ◌∷◌, ◌++◌, length, take, drop, map, codes}
use Rattle.std.specs.Fmt.{decimal}
use Rattle.std.specs.List.{range_with_len, flat_map}
use Rattle.flop_base.specs.Numbers.{code_number}
use Rattle.sector_model.specs.Common.{Status, ImageError, Request}
use Rattle.flop_base.specs.declared.answers.Status.TheVariants as status
use Rattle.raw_image.specs.declared.error.ImageError.TheVariants.{TooShort, BadMagic, BadField, Trailing, NoMemory}
use Rattle.floppy_jobs.specs.Spelling.{verb_text, hex2, hex5}
use Rattle.sector_model.specs.declared.reply.Reply.{Reply}
use Rattle.sector_model.specs.declared.reply.Reply.TheVariants as reply
use Rattle.sector_model.specs.declared.reply.Reason.{Reason}
use Rattle.sector_model.specs.declared.reply.Reason.TheVariants as reason
use Rattle.sector_model.specs.declared.reply.Stop.{Stop}
use Rattle.sector_model.specs.declared.reply.Stop.TheVariants as stop

-- a line feed
abbrev pub line_end : List ℕ
line_end = 10 ∷ []

-- why a request was refused
abbrev pub reason_text : Reason → List ℕ
reason_text (reason.Driver code) = hex2 (code_number code)
reason_text reason.Busy = codes "busy"
reason_text reason.Empty = codes "empty"
reason_text reason.NoSpare = codes "none"

-- a byte of a dump
abbrev pub dump_byte : ℕ → List ℕ
dump_byte byte = 32 ∷ hex2 byte

-- a line of a dump: the address of its first byte, and its bytes
unfoldable pub dump_line : ℕ → List ℕ → List ℕ
dump_line address bytes = hex5 address ++ (flat_map dump_byte bytes ++ line_end)

-- a dump: a line for each 16 bytes
unfoldable pub dump_lines : ℕ → List ℕ → List (List ℕ)
dump_lines address bytes =
    map (λ i. dump_line (address + 16 * i) (take 16 (drop (16 * i) bytes))) (range_with_len 0 ((length bytes + 15) / 16))

-- the lines that answer a request
unfoldable pub reply_lines : Request → Reply → List (List ℕ)
reply_lines asked reply.Done = (verb_text asked ++ codes " ok\n") ∷ []
reply_lines asked reply.DoneDeleted = (verb_text asked ++ codes " ok deleted\n") ∷ []
reply_lines asked (reply.Bytes address content) = dump_lines address content
reply_lines asked (reply.Refused cause) = (verb_text asked ++ (codes " refused " ++ (reason_text cause ++ line_end))) ∷ []

-- what is wrong with an image
abbrev pub image_error_text : ImageError → List ℕ
image_error_text BadMagic = codes "bad magic\n"
image_error_text (BadField offset) = codes "bad field at " ++ (decimal offset ++ line_end)
image_error_text (TooShort need have) =
    codes "too short, " ++ (decimal need ++ (codes " needed, " ++ (decimal have ++ codes " there\n")))
image_error_text (Trailing offset) = codes "trailing byte at " ++ (decimal offset ++ line_end)
image_error_text NoMemory = []

-- the line of an image that isn't taken
abbrev pub image_text : List ℕ → List ℕ → List ℕ
image_text name cause = codes "image " ++ (name ++ (codes ": " ++ cause))

-- the line for a file that isn't there
abbrev pub absent_text : List ℕ → List ℕ
absent_text name = name ++ codes " absent\n"

-- the last line of a run that stopped; nothing is printed if the outside failed or memory ran out
unfoldable pub stop_lines : Stop → List (List ℕ)
stop_lines (stop.BadImage name error) = image_text name (image_error_text error) ∷ []
stop_lines (stop.TooLong name most) = image_text name (codes "longer than " ++ (decimal most ++ line_end)) ∷ []
stop_lines (stop.Absent name) = absent_text name ∷ []
stop_lines stop.FileFault = []
stop_lines stop.NoMemory = []

-- the line for a job with a line that isn't understood; line 0 means that the text is too long
unfoldable pub bad_line_text : ℕ → List ℕ
bad_line_text line = codes "job line " ++ (decimal line ++ codes " not understood\n")

-- the status of a run that stopped
abbrev pub stop_status : Stop → Status
stop_status (stop.BadImage name error) = status.BadImage
stop_status (stop.TooLong name most) = status.BadImage
stop_status (stop.Absent name) = status.Absent
stop_status stop.FileFault = status.FileFault
stop_status stop.NoMemory = status.NoMemory

-- the answer is a refusal
abbrev pub is_refusal : Reply → Bool
is_refusal reply.Done = false
is_refusal reply.DoneDeleted = false
is_refusal (reply.Bytes address content) = false
is_refusal (reply.Refused cause) = true
