-- What the lines of a plan spell.
use Rattle.std.specs.Prelude.{ℕ, List, [], ◌∷◌, Option, Some, None, codes, if◌then◌else◌}
use Rattle.std.specs.Str.{bytes_eq}
use Rattle.floppy_jobs.specs.Numbers.{byte_of}
use Rattle.floppy_jobs.specs.Requests.{◌>>=◌}
use Rattle.drive_model.specs.declared.fault.Fault.TheVariants as fault
use Rattle.fault_plan.specs.Fields.{drive_of, cylinder_of, head_of, word_of, count_of, span_of}
use Rattle.fault_plan.specs.declared.line.PlanLine.{PlanLine}
use Rattle.fault_plan.specs.declared.line.PlanLine.TheVariants as line

-- drop D C H WORD COUNT
unfoldable pub drop_of : List (List ℕ) → Option PlanLine
drop_of (d ∷ cylinder ∷ side ∷ place ∷ times ∷ []) = do
  drive ← drive_of d
  c ← cylinder_of cylinder
  h ← head_of side
  word ← word_of place
  count ← count_of times
  Some (line.Fault drive (fault.Dropout c h word count))
drop_of _ = None

-- cut D C H WORD COUNT
unfoldable pub cut_of : List (List ℕ) → Option PlanLine
cut_of (d ∷ cylinder ∷ side ∷ place ∷ times ∷ []) = do
  drive ← drive_of d
  c ← cylinder_of cylinder
  h ← head_of side
  word ← word_of place
  count ← count_of times
  Some (line.Fault drive (fault.Cut c h word count))
cut_of _ = None

-- lose D C COUNT
unfoldable pub lose_of : List (List ℕ) → Option PlanLine
lose_of (d ∷ cylinder ∷ times ∷ []) = do
  drive ← drive_of d
  c ← cylinder_of cylinder
  count ← count_of times
  Some (line.Fault drive (fault.Lose c count))
lose_of _ = None

-- stick D C COUNT
unfoldable pub stick_of : List (List ℕ) → Option PlanLine
stick_of (d ∷ cylinder ∷ times ∷ []) = do
  drive ← drive_of d
  c ← cylinder_of cylinder
  count ← count_of times
  Some (line.Fault drive (fault.Stick c count))
stick_of _ = None

-- gap G COUNT
unfoldable pub gap_of : List (List ℕ) → Option PlanLine
gap_of (entry ∷ times ∷ []) = do
  steps ← byte_of entry
  count ← count_of times
  Some (line.Gap steps count)
gap_of _ = None

-- hold T COUNT
unfoldable pub hold_of : List (List ℕ) → Option PlanLine
hold_of (entry ∷ times ∷ []) = do
  steps ← byte_of entry
  count ← count_of times
  Some (line.Hold steps count)
hold_of _ = None

-- stray S COUNT
unfoldable pub stray_of : List (List ℕ) → Option PlanLine
stray_of (entry ∷ times ∷ []) = do
  steps ← span_of entry
  count ← count_of times
  Some (line.Stray steps count)
stray_of _ = None

-- all lines
unfoldable pub plan_line_of : List (List ℕ) → Option PlanLine
plan_line_of [] = None
plan_line_of (verb ∷ fields) =
    if bytes_eq verb (codes "drop") then drop_of fields
    else (if bytes_eq verb (codes "cut") then cut_of fields
    else (if bytes_eq verb (codes "lose") then lose_of fields
    else (if bytes_eq verb (codes "stick") then stick_of fields
    else (if bytes_eq verb (codes "gap") then gap_of fields
    else (if bytes_eq verb (codes "hold") then hold_of fields
    else (if bytes_eq verb (codes "stray") then stray_of fields
    else None))))))
