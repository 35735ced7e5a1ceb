-- What a drive within does, as it is seen through a cable, with another answer to whether a word of the medium was
-- replaced.
use Rattle.std.proofs.Common.{◌≡◌, ◌≤◌, ℕ, zero, suc, Bool, true, false, List, [], ◌∷◌, Option, None, ap, refl}
use Rattle.std.specs.Coded.{le_prop}
use Rattle.flop_base.specs.Counts.{last_count}
use Rattle.drive_model.specs.Ahead.{LetsPass, AreAhead}
use Rattle.drive_model.specs.Drive.{DriveState, passed, with_gate}
use Rattle.c_bay_drive.specs.Bays.{told_by}
use Rattle.c_bay_drive.specs.declared.cable.Pulled.{Pulled}

pub told_passes : (pulled : Option Pulled) (replaced : Bool) (tracks : List ℕ) (count : ℕ) (old new : DriveState) → LetsPass count old new
    → LetsPass count (told_by pulled replaced tracks old) (told_by pulled replaced tracks new)
unfolding LetsPass
told_passes pulled replaced tracks zero old new same = ap (told_by pulled replaced tracks) same
told_passes pulled replaced tracks (suc count) old new passes = told_passes pulled replaced tracks count (passed (with_gate false old)) new passes

-- words that are certain to pass are seen through a cable that is in
pub told_ahead : (replaced : Bool) (tracks : List ℕ) (head : ℕ) (words : List ℕ) (s : DriveState) → AreAhead head words s
    → AreAhead head words (told_by None replaced tracks s)
unfolding AreAhead
told_ahead replaced tracks head [] s ahead = tt
told_ahead replaced tracks head (word ∷ rest) s (same, before, ahead) = (same, before, told_ahead replaced tracks head rest (passed s) ahead)

pub none_ahead : (head : ℕ) (s : DriveState) → AreAhead head [] s
unfolding AreAhead
none_ahead head s = tt

-- a change line that is up
abbrev up_at : (lost : ℕ) → lost ≤ last_count → Pulled
up_at lost counted = record { change = true; lost = lost; counted = counted }

pub is_up : (pulled : Pulled) (counted : pulled.lost ≤ last_count) → up_at pulled.lost counted ≡ record pulled { change = true }
is_up pulled counted = rw (le_prop counted pulled.counted) refl
