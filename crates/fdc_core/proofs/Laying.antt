-- How long a FORMAT surely leaves both lines as they are.
use Rattle.std.proofs.Common.{◌≡◌, ◌≤◌, ◌<◌, ◌+◌, ◌-◌, ℕ, suc, Bool, true, false, List, [], ◌∷◌, length, replicate, take, drop, refl, sym, ap, subst, ◌∙◌, arith, length-append, length-take-le}
use Rattle.fdc_core.proofs.Common.{false≢true, length-replicate, AreAhead, DriveState, at_index, is_protected, passed, rate_of, Chrn, Fifo, wants, Past, heard, wrote, Numbers, HasFormatted, IsFormatting, Takes, is_next, handed_with, heard_where, Ending, Done, NoMark, NoSector, NoField, BadCheck, Overrun, NoCount, Protected, Late, FormatNext, FormatPart, Due, Lay, FormatStage, format_at, head_of, rate_fits, Execution, Execute, Format, Formatting, IsQuiet, Foresees, HasSupply, IsQuietBy, LaysWith, WordTime, Saw, KeptOut, Wrote, Stopped, IsTime, FormatDoes, after_laid, fifo_without, without_byte, Fdc}
use Rattle.fdc_core.specs.Formatting.{HearsFormat, LaysWord}
use Rattle.fdc_stages.proofs.Among.{keys_grow, laid_among, takes_among}
use Rattle.fdc_stages.specs.Among.{keys_among}
use Rattle.fdc_stages.specs.Common.{FormatStream}
use Rattle.fdc_core.proofs.Filling.{length-handed, none_stops, one_if, supply_after, without_is}
use Rattle.fdc_core.proofs.Foreseeing.{foresees_format, some_words}
use Rattle.fdc_core.proofs.Quieting.{some_seen}
use Rattle.fdc_core.proofs.Turning.{EachTurnsOn, GoesOnTurning, TurnsAs, format_time, heard_as, quiet_turning, wrote_as}
use Rattle.fdc_stages.specs.Formats as formats
use Rattle.fdc_stages.specs.declared.formatting.FormatNext.TheVariants as given
use Rattle.fdc_stages.specs.declared.formatting.FormatPart.TheVariants as parts

-- ---- a word that a FORMAT hears

module _ (past : Past) (numbers : Numbers) (handed : List ℕ) (word : ℕ) where
  abbrev after_word : Past
  after_word = heard false word past

  shut_at : (part : FormatPart) → formats.IsAtPart after_word.turns after_word.seen after_word.place after_word.words after_word.barred part → is_next part ≡ false
  shut_at Due at = absurd (some_seen past.seen word at.0.nothing)
  shut_at Lay at = absurd (some_seen past.seen word at.0.nothing)
  shut_at _ at = refl

  no_miss : (ending : Ending) → ending ≡ NoMark → HasFormatted after_word numbers handed ending → ⊥
  no_miss NoMark is has = some_seen past.seen word has.cause.2.1.nothing
  no_miss _ is has = absurd (cc is)

  heard_on : (next : FormatNext) → formats.HasNext after_word numbers handed next → formats.FailsWell next → (after : FormatStage) × (next ≡ given.On after) × IsFormatting after_word numbers handed after × (formats.is_due after ≡ false)
  heard_on (given.On after) has well = (after, refl, has, shut_at after.part has.0)
  heard_on (given.Ended ending key) has well = absurd (no_miss ending well has.0)

shut_open : (part : FormatPart) → is_next part ≡ false → (formats.is_laying part ≡ false) × (formats.is_first part ≡ false)
shut_open Due shut = absurd (false≢true (sym shut))
shut_open Lay shut = absurd (false≢true (sym shut))
shut_open _ shut = (refl, refl)

-- ---- a word that a FORMAT writes

module _ (past : Past) (numbers : Numbers) (handed : List ℕ) (word : ℕ) where
  abbrev later : Past
  later = wrote false word past

  due_at : (part : FormatPart) → formats.IsAtPart later.turns later.seen later.place later.words later.barred part → is_next part ≡ true
  due_at Due at = refl
  due_at Lay at = refl
  due_at parts.Await at = let none : length later.words ≡ 0 = ap length at.1 in absurd (omega (arith, none, length-append past.words (word ∷ [])))
  due_at parts.Barred at = let none : length later.words ≡ 0 = ap length at.1 in absurd (omega (arith, none, length-append past.words (word ∷ [])))

  not_over : (ending : Ending) → formats.IsEnd ending → HasFormatted later numbers handed ending → ⊥
  not_over (Done marked) well has = let index = has.cause.1.1.index in omega (arith, index)
  not_over NoField well has = let index = has.cause.index in omega (arith, index)
  not_over NoMark well has = well
  not_over NoSector well has = well
  not_over BadCheck well has = well
  not_over Overrun well has = well
  not_over NoCount well has = well
  not_over Protected well has = well
  not_over Late well has = well

  pub laid_on : (next : FormatNext) → formats.HasNext later numbers handed next → formats.EndsWell next → (after : FormatStage) × (next ≡ given.On after) × IsFormatting later numbers handed after × (formats.is_due after ≡ true)
  laid_on (given.On after) has well = (after, refl, has, due_at after.part has.0)
  laid_on (given.Ended ending key) has well = absurd (not_over ending well has.0)

-- ---- a device step

-- what a FORMAT has heard and written, what it was handed, its stage, and the FIFO
pub record LayState : Type 0 where
  pub past : Past
  pub handed : List ℕ
  pub stage : FormatStage
  pub fifo : Fifo

-- so many words may pass. If they are words of the layout, the FIFO has their bytes while DRQ stays down
pub record IsLaying (numbers : Numbers) (counted : Bool) (left : ℕ) (now : LayState) : Type 0 where
  pub bytes : ℕ
  pub stands : IsFormatting now.past numbers now.handed now.stage
  pub lays : formats.is_due now.stage ≡ true → LaysWith left bytes numbers now.past
  pub supply : HasSupply bytes counted now.fifo

-- the FORMAT at this point, after `steps` device steps
abbrev pub laid_at : ℕ → Formatting → Fdc → ℕ → LayState → Fdc
laid_at head_drive formatting old steps now =
    record old { phase = Execute (record { head_drive = head_drive; steps = steps; task = Format (format_at formatting now.stage) }); fifo = now.fifo }

-- some sector IDs
abbrev any_keys : (count : ℕ) → List Chrn
any_keys count = replicate count (record { c = 0; h = 0; r = 0; n = 0 })

module _ (head_drive : ℕ) (formatting : Formatting) (old : Fdc) (quiet : IsQuiet old) (numbers : Numbers) where
  abbrev laid : ℕ → LayState → Fdc
  laid steps now = laid_at head_drive formatting old steps now

  abbrev Lays : ℕ → LayState → Type 0
  Lays left now = IsLaying numbers formatting.counted left now

  low_of : (bytes : ℕ) (fifo : Fifo) → HasSupply bytes formatting.counted fifo → wants false false formatting.counted fifo ≡ false
  low_of bytes fifo supply = supply.quiet 0 (omega arith)

  -- the FORMAT goes on, with DRQ down
  goes_to : (needs : Bool) (steps : ℕ) (now : LayState) (after : FormatStage) (next : FormatNext) (past : Past) (handed : List ℕ) → next ≡ given.On after → wants false false formatting.counted (fifo_without needs now.fifo) ≡ false
      → after_laid head_drive (steps + 1) (format_at formatting now.stage) next (without_byte needs (laid steps now)) ≡ laid (steps + 1) (record { past = past; handed = handed; stage = after; fifo = fifo_without needs now.fifo })
  goes_to needs steps now after next past handed on low =
      let fifo : Fifo = fifo_without needs now.fifo in
      ap (λ n. after_laid head_drive (steps + 1) (format_at formatting now.stage) n (without_byte needs (laid steps now))) on
      ∙ ap (λ was. after_laid head_drive (steps + 1) (format_at formatting now.stage) (given.On after) was) (without_is needs (laid steps now))
      ∙ ap (λ asking. record (laid (steps + 1) (record { past = past; handed = handed; stage = after; fifo = fifo })) { asking = asking }) (ap (λ asking. wants false asking formatting.counted fifo) quiet.down ∙ low ∙ sym quiet.down)

  module _ (steps left : ℕ) (now : LayState) (new : Fdc) (before after : DriveState) (some : 1 ≤ steps) (few : steps < 65535) (was : Lays (suc left) now) (no_index : at_index before ≡ false) (fits : rate_fits old.rate (rate_of before.medium) ≡ true) where
    abbrev Goes : Type 0
    Goes = GoesOnTurning (laid (steps + 1)) (Lays left) before new after

    heard_one : (index : Bool) (word : ℕ) → index ≡ false → formats.is_due now.stage ≡ false → HearsFormat head_drive steps (format_at formatting now.stage) index (laid steps now) new → TurnsAs (passed before) after → Goes
    heard_one index word none shut hears turned =
        let (closed, unopened) = shut_open now.stage.part shut in
        let later_past : Past = heard false word now.past in
        let has : formats.HasNext (heard_where (formats.opens now.stage) index word now.past) numbers now.handed hears.next = hears.hears.0 now.past numbers now.handed word closed was.stands in
        let heard_has : formats.HasNext (heard index word now.past) numbers now.handed hears.next = subst (λ first. formats.HasNext (heard_where first index word now.past) numbers now.handed hears.next) unopened has in
        let next_has : formats.HasNext later_past numbers now.handed hears.next = subst (λ index. formats.HasNext (heard index word now.past) numbers now.handed hears.next) none heard_has in
        let (stage, on, goes_on, not_due) = heard_on now.past numbers now.handed word hears.next next_has hears.hears.1 in
        record {
          next = record { past = later_past; handed = now.handed; stage = stage; fifo = now.fifo };
          is = hears.after_is ∙ goes_to false steps now stage hears.next later_past now.handed on (low_of was.bytes now.fifo was.supply);
          stands = record { bytes = was.bytes; stands = goes_on; lays = λ due. absurd (false≢true (sym not_due ∙ due)); supply = was.supply };
          turned = turned;
        }

    wrote_one : (opened closed index : Bool) (word : ℕ) → index ≡ false → LaysWord head_drive steps (format_at formatting now.stage) opened closed index word (laid steps now) new → TurnsAs (passed before) after → Goes
    wrote_one opened closed index word none puts turned =
        let needs : Bool = puts.needs in
        let more : List ℕ = handed_with needs puts.byte now.handed in
        let later_past : Past = wrote false puts.given.word now.past in
        let has : formats.HasNext later_past numbers more puts.next = subst (λ index. formats.HasNext (wrote index puts.given.word now.past) numbers more puts.next) none
        (puts.lays.goes_on now.past numbers more (puts.lays.word_is now.past numbers now.handed puts.due was.stands puts.takes)) in
        let (stage, on, goes_on, due) = laid_on now.past numbers more puts.given.word puts.next has puts.lays.well in
        let size : length later_past.words ≡ length now.past.words + 1 = length-append now.past.words (puts.given.word ∷ []) in
        let many = length-handed needs puts.byte now.handed in
        let fewer : (keys : List Chrn) → length keys ≡ numbers.sectors → (one_if needs ≤ was.bytes) × (keys_among numbers keys (length later_past.words + left) ≤ keys_among numbers keys (length later_past.words) + (was.bytes - one_if needs)) = λ keys same.
        let enough = was.lays puts.due keys same in
        let before_among = laid_among now.past.words now.handed numbers now.stage.stream was.stands.1 keys same in
        let after_among = laid_among later_past.words more numbers stage.stream goes_on.1 keys same in
        let sum : length later_past.words + left ≡ length now.past.words + suc left = omega (arith, size) in
        let grows = keys_grow numbers keys (length later_past.words) (length now.past.words + suc left) (omega (arith, size)) in
        let all : keys_among numbers keys (length later_past.words + left) ≡ keys_among numbers keys (length now.past.words + suc left) = ap (keys_among numbers keys) sum in
        (omega (arith, enough, before_among, after_among, many, grows), omega (arith, enough, before_among, after_among, many, grows, all)) in
        let taken = (fewer (any_keys numbers.sectors) (length-replicate numbers.sectors _)).0 in
        let supply = supply_after needs formatting.counted (was.bytes - one_if needs) was.bytes now.fifo (omega (arith, taken)) was.supply in
        record {
          next = record { past = later_past; handed = more; stage = stage; fifo = fifo_without needs now.fifo };
          is = puts.after_is ∙ goes_to needs steps now stage puts.next later_past more on (low_of _ (fifo_without needs now.fifo) supply);
          stands = record { bytes = was.bytes - one_if needs; stands = goes_on; lays = λ _ keys same. (fewer keys same).1; supply = supply };
          turned = turned;
        }

    by_time : (time : WordTime) → IsTime time old.rate (head_of head_drive) before after → FormatDoes time head_drive steps (format_at formatting now.stage) (laid steps now) before new → Goes
    by_time (Saw index raw) is does = heard_one index raw (is.index_is ∙ no_index) does.0 does.1 (heard_as index raw old.rate (head_of head_drive) before after is)
    by_time (KeptOut index raw) is does = absurd (false≢true (sym is.0 ∙ fits))
    by_time (Wrote opened closed index raw) is does = wrote_one opened closed index raw (is.index_is ∙ no_index) does (wrote_as opened closed index raw old.rate (head_of head_drive) before after is)
    by_time Stopped is does = absurd (none_stops steps (is_protected before.medium) does.needs formatting.counted now.fifo does.ending some few (low_of was.bytes now.fifo was.supply) does.stops)

  lays_each : EachTurnsOn laid Lays old.rate
  lays_each steps left now new before after some few was no_index fits works =
      let time = format_time (laid steps now) new before after head_drive steps (format_at formatting now.stage) quiet.due refl works in
      by_time steps left now new before after some few was no_index fits time.time time.is time.does

-- ---- what is foreseen

-- while DRQ stays down
pub none_taken : (counted : Bool) (fifo : Fifo) → wants false false counted fifo ≡ false → HasSupply 0 counted fifo
none_taken counted fifo low = record {
  quiet = λ taken few.
      let none : 0 ≡ taken = omega (arith, few) in
      subst (λ k. wants false false counted (record fifo { bytes = drop k fifo.bytes }) ≡ false) none low;
}

-- the words of a layout that are written with so many bytes of sector IDs, whatever was heard and written before
abbrev pub LaysAhead : ℕ → ℕ → FormatStage → Type 0
LaysAhead count bytes stage = (past : Past) (numbers : Numbers) (handed : List ℕ) → IsFormatting past numbers handed stage → LaysWith count bytes numbers past

module _ (old : Fdc) (execution : Execution) (count : ℕ) (some ahead : List ℕ) (before : DriveState) (quiet : IsQuiet old) (fits : rate_fits old.rate (rate_of before.medium) ≡ true) (at : old.phase ≡ Execute execution)
    (first : some ≡ take (length some) ahead) (left : execution.steps + length some ≤ 65535) (within : count ≤ length some) (are : AreAhead (head_of execution.head_drive) ahead before) where
  pub laying_foreseen : (formatting : Formatting) (bytes : ℕ) → execution.task ≡ Format formatting → 1 ≤ execution.steps → HasSupply bytes formatting.counted old.fifo → (formats.is_due formatting.stage ≡ true → LaysAhead count bytes formatting.stage) → Foresees count old before
  laying_foreseen formatting bytes is later supply lays =
      let head_drive : ℕ = execution.head_drive in
      let words : List ℕ = take count some in
      let size : length words ≡ count = length-take-le count some within in
      foresees_format old execution count before at formatting is (λ past sent numbers was.
      let now : LayState = record { past = past; handed = was.1.0; stage = formatting.stage; fifo = old.fifo } in
      let stands : IsLaying numbers formatting.counted (length words) now = record {
        bytes = bytes;
        stands = was.1.1.formats;
        lays = λ due. subst (λ n. LaysWith n bytes numbers past) (sym size) (lays due past numbers was.1.0 was.1.1.formats);
        supply = supply;
      } in
      let begins : laid_at head_drive formatting old execution.steps now ≡ old = ap (λ task. record old { phase = Execute (record execution { task = task }) }) (sym is) ∙ ap (λ phase. record old { phase = phase }) (sym at) in
      subst (λ fdc. IsQuietBy count fdc before) begins
      (quiet_turning LayState (laid_at head_drive formatting old) (IsLaying numbers formatting.counted) (head_of head_drive) old.rate (lays_each head_drive formatting old quiet numbers) execution.steps count later (omega (arith, left, within)) now words before size stands
      (some_words (head_of head_drive) count some ahead before first are) fits (λ n left next stays. record { request = refl; interrupt = refl; ended = refl; mark = refl })))

-- ---- a copy that lays the same words

-- so many words were laid, with some bytes in place of those that aren't known
pub record IsCopied (count bytes left : ℕ) (past : Past) (numbers : Numbers) (handed : List ℕ) (stage : FormatStage) : Type 0 where
  pub later : Past
  pub more : List ℕ
  pub stands : IsFormatting later numbers more stage
  pub due : formats.is_due stage ≡ true
  pub words : length later.words ≡ length past.words + count
  pub gave : length more + left ≡ length handed + bytes

abbrev pub CopiesLaying : (count bytes left : ℕ) → FormatStage → FormatStage → Type 0
CopiesLaying count bytes left begin stage = (past : Past) (numbers : Numbers) (handed : List ℕ) → IsFormatting past numbers handed begin → IsCopied count bytes left past numbers handed stage

pub copies_none : (bytes : ℕ) (stage : FormatStage) → formats.is_due stage ≡ true → CopiesLaying 0 bytes bytes stage stage
copies_none bytes stage due past numbers handed was = record { later = past; more = handed; stands = was; due = due; words = omega arith; gave = refl }

-- a word more
pub record LaysNext (stage : FormatStage) (byte : ℕ) (word : ℕ) (next : FormatNext) : Type 0 where
  pub goes_on : (past : Past) (numbers : Numbers) (handed : List ℕ) (takes : Bool) → formats.is_due stage ≡ true → IsFormatting past numbers handed stage → Takes stage takes → formats.HasNext (wrote false word past) numbers (handed_with takes byte handed) next
  pub well : formats.EndsWell next

left_is : (takes : Bool) (left rest : ℕ) → (takes ≡ true → rest + 1 ≡ left) → (takes ≡ false → rest ≡ left) → rest + one_if takes ≡ left
left_is true left rest taken kept = taken refl
left_is false left rest taken kept = omega (arith, kept refl)

module _ (count bytes left rest byte word : ℕ) (begin stage : FormatStage) (next : FormatNext) (takes : Bool) (was : CopiesLaying count bytes left begin stage) (asks : formats.is_due stage ≡ true → Takes stage takes) (goes : LaysNext stage byte word next) where
  pub copies_more : (after : FormatStage) → next ≡ given.On after → (takes ≡ true → rest + 1 ≡ left) → (takes ≡ false → rest ≡ left) → CopiesLaying (count + 1) bytes rest begin after
  copies_more after on taken kept past numbers handed is =
      let at = was past numbers handed is in
      let more : List ℕ = handed_with takes byte at.more in
      let has : formats.HasNext (wrote false word at.later) numbers more (given.On after) = subst (λ next. formats.HasNext (wrote false word at.later) numbers more next) on (goes.goes_on at.later numbers at.more takes at.due at.stands (asks at.due)) in
      let size : length (wrote false word at.later).words ≡ length at.later.words + 1 = length-append at.later.words (word ∷ []) in
      let many = length-handed takes byte at.more in
      let fewer = left_is takes left rest taken kept in
      let words = at.words in
      let gave = at.gave in
      record {
        later = wrote false word at.later;
        more = more;
        stands = has;
        due = due_at at.later numbers more word after.part has.0;
        words = omega (arith, size, words);
        gave = omega (arith, many, fewer, gave);
      }

  -- the layout doesn't end before the index
  pub copies_on : (ending : Ending) (key : Chrn) → next ≡ given.Ended ending key → (past : Past) (numbers : Numbers) (handed : List ℕ) → IsFormatting past numbers handed begin → ⊥
  copies_on ending key over past numbers handed is =
      let at = was past numbers handed is in
      let (after, on, goes_on, due) = laid_on at.later numbers (handed_with takes byte at.more) word next (goes.goes_on at.later numbers at.more takes at.due at.stands (asks at.due)) goes.well in
      cc

-- ---- how many words are laid

stream_takes : (part : FormatPart) (stream : FormatStream) → formats.TakesAt part stream true → formats.StreamTakes stream true
stream_takes Due stream takes = absurd (false≢true (sym takes))
stream_takes _ stream takes = takes

pub copied_lays : (count bytes left : ℕ) (begin stage : FormatStage) → CopiesLaying count bytes left begin stage → LaysAhead count bytes begin
copied_lays count bytes left begin stage was past numbers handed is keys same =
    let at = was past numbers handed is in
    let gave = at.gave in
    let before_among = laid_among past.words handed numbers begin.stream is.1 keys same in
    let after_among = laid_among at.later.words at.more numbers stage.stream at.stands.1 keys same in
    let all : keys_among numbers keys (length at.later.words) ≡ keys_among numbers keys (length past.words + count) = ap (keys_among numbers keys) at.words in
    omega (arith, gave, before_among, after_among, all)

-- with the next word, a byte more is needed
pub copied_most : (count bytes left : ℕ) (begin stage : FormatStage) → CopiesLaying count bytes left begin stage → left ≡ 0 → (formats.is_due stage ≡ true → Takes stage true) → (past : Past) (numbers : Numbers) (handed : List ℕ) → IsFormatting past numbers handed begin → LaysWith (count + 1) bytes numbers past → ⊥
copied_most count bytes left begin stage was none asks past numbers handed is lays =
    let keys = any_keys numbers.sectors in
    let same : length keys ≡ numbers.sectors = length-replicate numbers.sectors _ in
    let at = was past numbers handed is in
    let gave = at.gave in
    let enough = lays keys same in
    let before_among = laid_among past.words handed numbers begin.stream is.1 keys same in
    let after_among = takes_among at.later.words at.more numbers stage.stream at.stands.1 keys same (stream_takes stage.part stage.stream (asks at.due)) in
    let all : keys_among numbers keys (length at.later.words + 1) ≡ keys_among numbers keys (length past.words + (count + 1)) = ap (keys_among numbers keys) (omega (arith, at.words)) in
    omega (arith, none, gave, enough, before_among, after_among, all)
