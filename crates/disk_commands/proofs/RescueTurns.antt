-- The turns of a loop over records.
use Rattle.disk_commands.proofs.Common.{drop_all, Chrn, Status, World, Script, Leads, Goes, LogLine, rescues, LogGoes}
use Rattle.std.proofs.Common.{arith, ◌≡◌, ◌<◌, ◌≤◌, ℕ, suc, ◌+◌, List, [], ◌∷◌, length, drop, get_or, refl, ap, subst, ◌∙◌, drop-cons, Ok, Err, Vec, Global}
use Rattle.commands.specs.Parts.{through}

-- some records were rescued, and the others are left
abbrev pub IsAtKey : List Chrn → List LogLine → World → ℕ → List LogLine → World → Type 0
IsAtKey keys begun old i found now =
    (whole : Script) (start : World) (rest : List LogLine → Script)
    → Leads whole start (through rescues keys begun rest) old → Leads whole start (through rescues (drop i keys) found rest) now

none_left : (found : List LogLine) (rest : List LogLine → Script) → through rescues [] found rest ≡ rest found
unfolding through
none_left found rest = refl

one_more : (key : Chrn) (later : List Chrn) (found : List LogLine) (rest : List LogLine → Script)
    → through rescues (key ∷ later) found rest ≡ rescues key found (λ now. through rescues later now rest)
unfolding through
one_more key later found rest = refl

-- of the records that are left, the first one is rescued before the others
in_front : (keys : List Chrn) (i : ℕ) (no_key : Chrn) (found : List LogLine) (rest : List LogLine → Script) (whole : Script) (start mid : World)
    → i < length keys → Leads whole start (through rescues (drop i keys) found rest) mid
    → Leads whole start (rescues (get_or keys i no_key) found (λ now. through rescues (drop (suc i) keys) now rest)) mid
in_front keys i no_key found rest whole start mid within leads =
    subst (λ (s : Script). Leads whole start s mid)
    (ap (λ (left : List Chrn). through rescues left found rest) (drop-cons keys i no_key within)
    ∙ one_more (get_or keys i no_key) (drop (suc i) keys) found rest) leads

-- this record was gone through
pub key_goes : (keys : List Chrn) (i : ℕ) (no_key : Chrn) (begun found more : List LogLine) (old mid new : World) → i < length keys
    → IsAtKey keys begun old i found mid → Goes (rescues (get_or keys i no_key) found) mid (Ok more) new → IsAtKey keys begun old (i + 1) more new
key_goes keys i no_key begun found more old mid new within at goes whole start rest leads =
    let one : suc i ≡ i + 1 = omega arith in
    subst (λ (k : ℕ). Leads whole start (through rescues (drop k keys) more rest) new) one
    (goes whole start (λ now. through rescues (drop (suc i) keys) now rest)
    (in_front keys i no_key found rest whole start mid within (at whole start rest leads)))

-- this record ended the script
pub key_ends : (keys : List Chrn) (i : ℕ) (no_key : Chrn) (begun found : List LogLine) (old mid new : World) (ended : Status)
    → i < length keys → IsAtKey keys begun old i found mid → Goes (rescues (get_or keys i no_key) found) mid (Err ended) new
    → LogGoes (through rescues keys begun) old (Err ended) new
key_ends keys i no_key begun found old mid new ended within at goes whole start rest leads =
    goes whole start (λ now. through rescues (drop (suc i) keys) now rest)
    (in_front keys i no_key found rest whole start mid within (at whole start rest leads))

-- all records were gone through
pub keys_over : (keys : List Chrn) (i : ℕ) (begun : List LogLine) (log : Vec LogLine Global) (old now : World) → length keys ≤ i
    → IsAtKey keys begun old i log.items now → LogGoes (through rescues keys begun) old (Ok log) now
keys_over keys i begun log old now all at whole start rest leads =
    subst (λ (s : Script). Leads whole start s now)
    (ap (λ (left : List Chrn). through rescues left log.items rest) (drop_all i keys all) ∙ none_left log.items rest) (at whole start rest leads)
