-- The lines that parsing a text of calls gives.
use Rattle.std.proofs.Common.{◌≡◌, ℕ, Bool, true, false, List, [], ◌∷◌, Option, Some, None, refl, subst, Ok, codes}
use Rattle.std.specs.Prelude.{All, option_map, option_and_then, if◌then◌else◌}
use Rattle.std.specs.Str.{bytes_eq}
use Rattle.floppy_jobs.specs.Numbers.{register_of}
use Rattle.floppy_jobs.specs.Requests.{request_of}
use Rattle.floppy_jobs.specs.Calls.{call_of, is_shared_verb, call_line_of}
use Rattle.floppy_jobs.specs.Texts.{calls_of}
use Rattle.text_commands.proofs.Common.{IsRequest, CallLine, Request, HasTries, LineHasTries}
use Rattle.floppy_jobs.specs.declared.calls.CallLine.TheVariants as call
use Rattle.floppy_jobs.specs.declared.request.Request.TheVariants as request
use Rattle.floppy_jobs.proofs.ValidLemmas.{request-valid, text-valid}

has_tries : (asked : Request) → IsRequest asked → HasTries asked
has_tries (request.Tries tries) valid = valid
has_tries _ valid = tt

bound : {A B : Type 0} (P : B → Type 0) (o : Option A) (f : A → Option B) → ((x : A) (y : B) → f x ≡ Some y → P y) → (y : B) → option_and_then f o ≡ Some y → P y
bound P None f g y h = cc
bound P (Some x) f g y h = g x y h

given : {A : Type 0} (P : A → Type 0) (x y : A) → P x → Some x ≡ Some y → P y
given P x y p h = let e : x ≡ y = cc in subst P e p

call_tries : (fields : List (List ℕ)) (line : CallLine) → call_of fields ≡ Some line → LineHasTries line
unfolding call_of
call_tries (a ∷ b ∷ c ∷ d ∷ e ∷ []) line h = bound LineHasTries (register_of a) _ (λ ax. bound LineHasTries (register_of b) _ (λ bx. bound LineHasTries (register_of c) _ (λ cx. bound LineHasTries (register_of d) _ (λ dx. bound LineHasTries (register_of e) _ (λ es y k.
    given LineHasTries (call.Call ax bx cx dx es) y tt k))))) line h
call_tries _ line h = cc

job_tries : (words : List (List ℕ)) (read : Option Request) (line : CallLine) → request_of words ≡ read → option_map call.Job read ≡ Some line → LineHasTries line
job_tries words None line is h = cc
job_tries words (Some asked) line is h = given LineHasTries (call.Job asked) line (has_tries asked (request-valid words asked is)) h

line_tries : (words : List (List ℕ)) (line : CallLine) → call_line_of words ≡ Some line → LineHasTries line
unfolding call_line_of
line_tries [] line h = cc
line_tries (verb ∷ fields) line h = by_verb (bytes_eq verb (codes "call")) (is_shared_verb verb) h
  where
    by_verb : (is_call is_shared : Bool) → (if is_call then call_of fields else (if is_shared then option_map call.Job (request_of (verb ∷ fields)) else None)) ≡ Some line → LineHasTries line
    by_verb true is_shared k = call_tries fields line k
    by_verb false true k = job_tries (verb ∷ fields) (request_of (verb ∷ fields)) line refl k
    by_verb false false k = cc

pub all_tries : (text : List ℕ) (lines : List CallLine) → calls_of text ≡ Ok lines → All LineHasTries lines
unfolding calls_of
all_tries text lines h = text-valid LineHasTries call_line_of line_tries 100000 text lines h
