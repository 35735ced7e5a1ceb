-- Names are ASCII.
use Rattle.std.proofs.Common.{◌≡◌, ℕ, ◌<◌, Bool, true, false, ◌&&◌, List, [], ◌∷◌, get_or, zero, suc, Some, Result, Ok, Err, MatchResult, refl, ap, arith, lit<}
use Rattle.std.proofs.lemmas.Bool.Decides.{nat_tests}
use Rattle.std.proofs.lemmas.Str.{IsUtf8-from_ascii}
use Rattle.std.specs.List.{list_all}
use Rattle.std.specs.Option.{option_copied}
use Rattle.std.specs.Result.{result_ok}
use Rattle.std.specs.Str.{IsUtf8}
use denote.Ref.{Bor}
use Rattle.floppy_jobs.specs.Names.{is_name_byte, is_name_text, name_of}

name_byte_ascii : (c : ℕ) → is_name_byte c ≡ true → c < 128
name_byte_ascii c h = grind (arith, nat_tests)

pub and_left : (a b : Bool) → (a && b) ≡ true → a ≡ true
and_left true b h = refl
and_left false b h = h

pub and_right : (a b : Bool) → (a && b) ≡ true → b ≡ true
and_right true b h = h
and_right false b h = cc

pub all_ascii : (bytes : List ℕ) → list_all is_name_byte bytes ≡ true → (i : ℕ) → get_or bytes i 0 < 128
all_ascii [] h i = lit< tt
all_ascii (c ∷ cs) h zero = name_byte_ascii c (and_left _ _ h)
all_ascii (c ∷ cs) h (suc i) = all_ascii cs (and_right _ _ h) i

name_utf8 : (bytes : List ℕ) → is_name_text bytes ≡ true → IsUtf8 bytes
unfolding is_name_text
name_utf8 bytes h = IsUtf8-from_ascii bytes (all_ascii bytes (and_right _ _ h))

-- a name is a text, so reading it as one succeeds
pub name_read : {E : Type 0} (V : E → Type 0) (bytes : List ℕ) (r : Result (Bor (List ℕ)) E) → is_name_text bytes ≡ true
    → MatchResult r (λ s. (s.now ≡ bytes) × IsUtf8 bytes) (λ e. ¬ (IsUtf8 bytes) × V e) → option_copied (result_ok r) ≡ name_of bytes
unfolding name_of
name_read V bytes (Ok s) h m = rw h (ap Some m.0)
name_read V bytes (Err e) h m = absurd (m.0 (name_utf8 bytes h))
