-- What the lines of a calls text spell: calls, and four of a job's requests.
use Rattle.std.specs.Prelude.{ℕ, Bool, ◌||◌, List, [], ◌∷◌, Option, Some, None, codes, option_map, if◌then◌else◌}
use Rattle.std.specs.Str.{bytes_eq}
use Rattle.floppy_jobs.specs.Numbers.{register_of}
use Rattle.floppy_jobs.specs.Requests.{◌>>=◌, request_of}
use Rattle.floppy_jobs.specs.declared.calls.CallLine.{CallLine}
use Rattle.floppy_jobs.specs.declared.calls.CallLine.TheVariants as call

-- call AX BX CX DX ES
unfoldable pub call_of : List (List ℕ) → Option CallLine
call_of (a ∷ b ∷ c ∷ d ∷ e ∷ []) = do
  ax ← register_of a
  bx ← register_of b
  cx ← register_of c
  dx ← register_of d
  es ← register_of e
  Some (call.Call ax bx cx dx es)
call_of _ = None

-- the verbs insert, eject, fill and dump, whose lines a calls text shares with a job
abbrev pub is_shared_verb : List ℕ → Bool
is_shared_verb verb =
    bytes_eq verb (codes "insert") || bytes_eq verb (codes "eject")
    || bytes_eq verb (codes "fill") || bytes_eq verb (codes "dump")

-- any line of a calls text
unfoldable pub call_line_of : List (List ℕ) → Option CallLine
call_line_of [] = None
call_line_of (verb ∷ fields) =
    if bytes_eq verb (codes "call") then call_of fields
    else (if is_shared_verb verb then option_map call.Job (request_of (verb ∷ fields)) else None)
