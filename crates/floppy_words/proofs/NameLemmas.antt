-- The form that has two names and no more.
use Rattle.std.proofs.Common.{◌≡◌, ℕ, List, [], ◌∷◌, Option, Some, None, refl}
use Rattle.floppy_jobs.specs.Names.{name_of}
use Rattle.floppy_jobs.specs.Requests.{◌>>=◌}
use Rattle.floppy_words.specs.Forms.{copy_of, names_of}
use Rattle.floppy_words.specs.declared.form.Form.TheVariants as form

abbrev both : Option (List ℕ) → Option (List ℕ) → Option (List ℕ × List ℕ)
both source target = do
  first ← source
  second ← target
  Some (first, second)

two_names : (source target : Option (List ℕ))
    → (source >>= λ from. target >>= λ to. Some (form.Copy from to)) ≡ (both source target >>= λ names. Some (form.Copy names.0 names.1))
two_names None target = refl
two_names (Some from) None = refl
two_names (Some from) (Some to) = refl

-- the arguments of a copy are two names
pub copy_names : (words : List (List ℕ)) → copy_of words ≡ (names_of words >>= λ names. Some (form.Copy names.0 names.1))
unfolding copy_of names_of
copy_names (one ∷ other ∷ []) = two_names (name_of one) (name_of other)
copy_names _ = refl
