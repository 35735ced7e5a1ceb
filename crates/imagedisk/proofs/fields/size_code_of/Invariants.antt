use Rattle.std.proofs.Common.{◌≡◌, ℕ, ◌<◌, get_or}
use Rattle.imagedisk.proofs.Common.{Field}
use Rattle.imagedisk.proofs.fields.size_code_of.Given as goal

abbrev pub invariant-loop-field : goal.invariant-loop-field
invariant-loop-field l = (k : ℕ) (d : Field) → k < l.field-index → (get_or l.fields k d).key.n ≡ l.n
