-- The result bytes of a data command.
use Rattle.std.specs.Prelude.{ℕ, List, [], ◌∷◌}
use Rattle.fdc_commands.specs.declared.results.Results.{Results}

-- ST0, ST1, ST2, C, H, R, N
abbrev pub result_bytes : Results → List ℕ
result_bytes results =
    results.st0.0 ∷ results.st1.0 ∷ results.st2.0
    ∷ results.key.c ∷ results.key.h ∷ results.key.r ∷ results.key.n ∷ []
