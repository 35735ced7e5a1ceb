-- The last lines of the program that no batch job has.
use Rattle.std.specs.Prelude.{ℕ, List, ◌++◌, codes}
use Rattle.commands.specs.Common.{decimal, Request, reason_text, line_end}
use Rattle.floppy_jobs.specs.Spelling.{spelling}
use Rattle.sector_model.specs.declared.reply.Reason.{Reason}

-- the line where the arguments (words) are no subcommand (form) of the program
abbrev pub bad_words_text : List ℕ
bad_words_text = codes "words not understood\n"

-- the line where a track doesn't fit another format
unfoldable pub unfit_text : ℕ → ℕ → List ℕ
unfit_text c h = codes "track " ++ (decimal c ++ (codes " " ++ (decimal h ++ codes " unfit\n")))

-- the line where a refusal stopped a command
unfoldable pub stopped_text : Request → Reason → List ℕ
stopped_text asked cause = codes "stopped at " ++ (spelling asked ++ (codes ": " ++ (reason_text cause ++ line_end)))
