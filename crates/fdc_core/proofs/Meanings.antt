-- What follows from what is known of a command.
use Rattle.std.proofs.Common.{◌≡◌, ℕ, Bool, true, false, not, List, ◌++◌, length, refl, sym, ◌∙◌, ap, subst, None, Some}
use Rattle.fdc_core.proofs.Common.{false≢true, append-nil, Chrn, IsSizeCode, Past, HasFewTurns, HasIdentified, IsStart, IsReading, IsToldOf, Ending, Done, NoMark, NoSector, NoField, BadCheck, NoCount, ReadStage, over_told, over_full, reading_told, searching_few, MayRead, MayReadId, Sent, MayReadIn, MayReadTask, MayReadIdIn, MayReadIdTask, HasEndedAs, is_over, Long, Fdc, Phase, Execute, Result, Task, ReadId, Read}
use Rattle.fdc_stages.proofs.Causes.{found_of, bad_check_of, no_field_of, no_mark_of, no_sector_of}
use Rattle.fdc_core.specs.Meaning.{ReadMeans, ReadMeansIn, FindsUncounted, ReadGives, AreOfField, bytes_held, IdMeans, IdMeansIn, PacedIn, IsPaced, is_hearing}
use Rattle.fdc_core.proofs.MayRead.{starts}
use Rattle.fdc_stages.specs.declared.reading.ReadStage.TheVariants as stages

-- ---- READ DATA

-- the bytes given to memory are the first of those that the stage gave
given_start : (counted : Bool) (given told rest : List ℕ) → told ≡ given ++ rest → counted ≡ true → IsStart counted given told
given_start true given told rest all is = (rest, all)
given_start false given told rest all is = absurd (false≢true is)

uncounted : (past : Past) (key : Chrn) (told : List ℕ) → IsSizeCode key.n → HasEndedAs past key NoCount told → FindsUncounted past key past.given
uncounted past key told sized ended =
    let (none, (deleted, over)) = ended.read.cause in
    let counted : Past = record past { counted = true } in
    let (_, (turn, p, q, found)) = found_of counted key told past.given deleted sized (record { bytes = over_told past key told deleted true over; cause = (refl, over) }) (ended.rest, ended.bytes_are) in
    let whole = ended.bytes_are ∙ (ap (λ rest. past.given ++ rest) ended.spent ∙ append-nil past.given) in
    (none, ap length (sym whole) ∙ over_full past key told deleted true over, (deleted, turn, p, q, record { among = found.among; address = found.address; finds = found.finds; begins = found.begins; content = found.content }))

read_means : (past : Past) (sent : Sent) (ending : Ending) (told : List ℕ) → IsSizeCode sent.key.n → HasEndedAs past sent.key ending told → ReadMeans past sent ending
read_means past sent (Done deleted) told sized ended =
    found_of past sent.key told past.given deleted sized ended.read (given_start past.counted past.given told ended.rest ended.bytes_are ended.read.cause.0)
read_means past sent NoMark told sized ended = no_mark_of past (Some sent.key) ended.read.cause
read_means past sent NoSector told sized ended = no_sector_of past (Some sent.key) ended.read.cause
read_means past sent NoField told sized ended = no_field_of past sent.key ended.read.cause
read_means past sent BadCheck told sized ended = bad_check_of past sent.key told sized ended.read
read_means past sent NoCount told sized ended = uncounted past sent.key told sized ended
read_means past sent _ told sized ended = ended.read.cause

read_means_in : (past : Past) (sent : Sent) (phase : Phase) (asking : Bool) (fifo : List ℕ) → IsSizeCode sent.key.n → MayReadIn past sent phase asking fifo → ReadMeansIn past sent phase
read_means_in past sent (Result (Long ending results read)) asking fifo sized (are, (told, ended)) =
    (are, read_means past sent ending told sized ended)
read_means_in past sent _ asking fifo sized was = tt

pub read_tells : (past : Past) (sent : Sent) (fdc : Fdc) → IsSizeCode sent.key.n → MayRead past sent fdc → ReadMeansIn past sent fdc.phase
read_tells past sent fdc sized was = read_means_in past sent fdc.phase fdc.asking fdc.fifo.bytes sized was

gives_task : (past : Past) (sent : Sent) (head_drive steps : ℕ) (task : Task) (asking : Bool) (fifo : List ℕ) → MayReadTask past sent head_drive steps task asking fifo → AreOfField past sent.key (past.given ++ fifo)
gives_task past sent head_drive steps (Read reading) asking fifo (asks, (told, was)) =
    let told_of : IsToldOf past reading.wanted.key told = reading_told past reading.wanted.key told reading.stage was.reads in
    (told, subst (λ s. IsToldOf past s.key told) was.sent_is told_of, starts reading.counted (past.given ++ fifo) told was.bytes_are)
gives_task past sent head_drive steps _ asking fifo was = absurd was

gives_in : (past : Past) (sent : Sent) (phase : Phase) (asking : Bool) (fifo : List ℕ) → MayReadIn past sent phase asking fifo → AreOfField past sent.key (bytes_held phase past fifo)
gives_in past sent (Execute execution) asking fifo was = gives_task past sent execution.head_drive execution.steps execution.task asking fifo was
gives_in past sent (Result (Long ending results read)) asking fifo (are, (told, ended)) =
    (told, ended.read.bytes, (ended.rest, ended.bytes_are))
gives_in past sent _ asking fifo was = absurd was

pub read_gives : (past : Past) (sent : Sent) (fdc : Fdc) → MayRead past sent fdc → ReadGives past sent fdc
read_gives past sent fdc was = gives_in past sent fdc.phase fdc.asking fdc.fifo.bytes was

-- ---- READ ID

id_means : (past : Past) (key : Chrn) (ending : Ending) → HasIdentified past key ending → IdMeans past key ending
id_means past key NoMark is = no_mark_of past None is
id_means past key NoSector is = no_sector_of past None is
id_means past key _ is = is

id_means_in : (past : Past) (sent : ℕ) (phase : Phase) → MayReadIdIn past sent phase → IdMeansIn past sent phase
id_means_in past sent (Result (Long ending results read)) was = (was.0, id_means past results.key ending was.1)
id_means_in past sent _ was = tt

pub id_tells : (past : Past) (sent : ℕ) (fdc : Fdc) → MayReadId past sent fdc → IdMeansIn past sent fdc.phase
id_tells past sent fdc was = id_means_in past sent fdc.phase was

-- ---- how long they listen

few_at : (past : Past) (key : Chrn) (told : List ℕ) (stage : ReadStage) → IsReading past key told stage → not (is_over stage) ≡ true → HasFewTurns past
few_at past key told (stages.Search searching) was hears = searching_few past (Some key) searching was.0
few_at past key told (stages.Wait separator) ((p, at), none) hears = at.few
few_at past key told (stages.Content separator deleted) (p, q, taken, at) hears = at.few
few_at past key told (stages.Over deleted good) was hears = absurd (false≢true hears)

paced_task : (past : Past) (sent : Sent) (head_drive steps : ℕ) (task : Task) (asking : Bool) (fifo : List ℕ) → MayReadTask past sent head_drive steps task asking fifo → IsPaced past steps (is_hearing task)
paced_task past sent head_drive steps (Read reading) asking fifo (asks, (told, was)) =
    record { steps_are = was.steps_are; heard_are = was.heard_are; few = few_at past reading.wanted.key told reading.stage was.reads }
paced_task past sent head_drive steps _ asking fifo was = absurd was

paced_in : (past : Past) (sent : Sent) (phase : Phase) (asking : Bool) (fifo : List ℕ) → MayReadIn past sent phase asking fifo → PacedIn past phase
paced_in past sent (Execute execution) asking fifo was = paced_task past sent execution.head_drive execution.steps execution.task asking fifo was
paced_in past sent _ asking fifo was = tt

pub paced : (past : Past) (sent : Sent) (fdc : Fdc) → MayRead past sent fdc → PacedIn past fdc.phase
paced past sent fdc was = paced_in past sent fdc.phase fdc.asking fdc.fifo.bytes was

paced_id_task : (past : Past) (sent head_drive steps : ℕ) (task : Task) → MayReadIdTask past sent head_drive steps task → IsPaced past steps (is_hearing task)
paced_id_task past sent head_drive steps (ReadId search) was =
    record { steps_are = was.steps_are; heard_are = was.heard_are; few = λ _. searching_few past None search was.searches }
paced_id_task past sent head_drive steps _ was = absurd was

paced_id_in : (past : Past) (sent : ℕ) (phase : Phase) → MayReadIdIn past sent phase → PacedIn past phase
paced_id_in past sent (Execute execution) was = paced_id_task past sent execution.head_drive execution.steps execution.task was
paced_id_in past sent _ was = tt

pub paced_id : (past : Past) (sent : ℕ) (fdc : Fdc) → MayReadId past sent fdc → PacedIn past fdc.phase
paced_id past sent fdc was = paced_id_in past sent fdc.phase was
