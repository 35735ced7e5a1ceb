-- A rescue that goes by what is found under the name of its log.
use Rattle.std.proofs.Common.{◌≡◌, ℕ, List, refl, subst, Option, Result, Ok, Err}
use Rattle.disk_commands.proofs.Common.{Files, sectors_at, Rate, R500, R250, Status, World, Shape, opens, Leads, IsRunOf, Goes, Runs, leads_itself, with_course, LogLine, NoLog, IsFound, AreFound, rescue_rest, rescue_script, Rescues, FinishesFound}
use Rattle.disk_commands.specs.declared.logs.NoLog.TheVariants as missing

-- the answer to what is found under the name of a log
abbrev Answer : Type 0
Answer = Result (Option (List LogLine)) NoLog

-- what was found as the log of a disk of one rate; for the other rate the answer is that memory ran out, which is
-- always possible
abbrev found_at : Rate → Answer → Rate → Answer
found_at R500 answer R250 = Err missing.NoMemory
found_at R250 answer R500 = Err missing.NoMemory
found_at _ answer _ = answer

there : (rate : Rate) (answer : Answer) → found_at rate answer rate ≡ answer
there R500 answer = refl
there R250 answer = refl

are_found : (told : Option Files) (log : List ℕ) (rate : Rate) (answer : Answer) → IsFound told log (sectors_at rate) answer
    → (other : Rate) → IsFound told log (sectors_at other) (found_at rate answer other)
are_found told log R500 answer is R250 = tt
are_found told log R250 answer is R500 = tt
are_found told log _ answer is _ = is

by_found : (from to log : List ℕ) (found : Rate → Answer) (old new : World) (ended : Status) → AreFound old.files log found
    → IsRunOf (rescue_script from to log found) old new ended → Runs (Rescues from to log) old new ended
by_found from to log found old new ended are run =
    let ran = with_course (rescue_script from to log found) old new ended run in
    record { course = ran.course; does = (found, are, ran.does) }

-- the disk couldn't be put in, so the rescue ended
pub not_opened : (from to log : List ℕ) (old new : World) (ended : Status) → Goes {Found = Shape} (opens from) old (Err ended) new
    → Runs (Rescues from to log) old new ended
not_opened from to log old new ended goes =
    let found : Rate → Answer = λ rate. Err missing.NoMemory in
    let whole = rescue_script from to log found in
    by_found from to log found old new ended (λ rate. tt) (goes whole old (λ shape. rescue_rest to log shape (found shape.rate)) (leads_itself whole old))

-- the disk was put in, the files stayed as they were, and the log was looked for
pub opened_on : (from to log : List ℕ) (shape : Shape) (old mid new : World) (ended : Status) → Goes (opens from) old (Ok shape) mid
    → mid.files ≡ old.files → FinishesFound to log shape mid new ended → Runs (Rescues from to log) old new ended
opened_on from to log shape old mid new ended goes stay (answer, is, finishes) =
    let found = found_at shape.rate answer in
    let whole = rescue_script from to log found in
    let leads = goes whole old (λ opened. rescue_rest to log opened (found opened.rate)) (leads_itself whole old) in
    by_found from to log found old new ended
    (are_found old.files log shape.rate answer (subst (λ (f : Option Files). IsFound f log (sectors_at shape.rate) answer) stay is))
    (finishes whole old (subst (λ (a : Answer). Leads whole old (rescue_rest to log shape a) mid) (there shape.rate answer) leads))
