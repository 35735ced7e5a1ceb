-- The bytes of a content in many device steps at once.
use Rattle.std.proofs.Common.{◌≡◌, ◌≤◌, ◌<◌, ◌+◌, ℕ, suc, Bool, true, false, if◌then◌else◌, ◌==◌, List, [], ◌∷◌, ◌++◌, append_assoc, length, length-append, length-take-le, take, get_or, refl, sym, subst, ap, ◌∙◌, inl, inr, arith}
use Rattle.fdc_core.proofs.Common.{false≢true, ne_eqb, append-nil, take_more, DriveState, Becomes, at_index, rate_of, word_under, Fifo, room_of, wants, Overrun, ReadStage, IsContent, HearsByte, Execute, Read, Reading, head_of, DataRate, rate_fits, seen_of, with_bytes, TakesByte, TakesBytes, HasSpace, HasRoom, TakesMany, IsQuiet, Works, StepsOn, at_stage, gone_on_reading, pushed, is_full, finished, let_pass, Fdc}
use Rattle.drive_model.specs.Ahead.{LetsPass, AreAhead}
use Rattle.fdc_stages.specs.Readings.{HearsBytes}
use Rattle.fdc_stages.proofs.Bytes.{hears_none, hears_more}
use Rattle.fdc_core.specs.Courses.{Courses}
use Rattle.fdc_core.proofs.Coursing.{works_on, ahead_first, ahead_behind, passes_calmly}
use Rattle.fdc_core.proofs.Words.{at_reading}
use Rattle.fdc_stages.specs.declared.reading.ReadStage.TheVariants as stages
use Rattle.fdc_stages.specs.Readings as given

-- ---- bytes to the FIFO

-- first these bytes, and then more
with_more : (counted : Bool) (bytes more : List ℕ) (fifo : Fifo) → with_bytes counted more (with_bytes counted bytes fifo) ≡ with_bytes counted (bytes ++ more) fifo
with_more true bytes more fifo = refl
with_more false bytes more fifo = ap (λ b. record fifo { bytes = b }) (append_assoc fifo.bytes bytes more)

pub with_none : (counted : Bool) (fifo : Fifo) → with_bytes counted [] fifo ≡ fifo
with_none true fifo = refl
with_none false fifo = ap (λ b. record fifo { bytes = b }) (append-nil fifo.bytes)

-- as many bytes as words
bytes_many : (words bytes : List ℕ) (stage final : ReadStage) → HearsBytes words bytes stage final → length bytes ≡ length words
unfolding HearsBytes
bytes_many [] bytes stage final is = ap length is.0
bytes_many (word ∷ words) bytes stage final (value, more, mid, is, hears, rest) = ap length is ∙ ap suc (bytes_many words more mid final rest)

-- the room that is left after some bytes
space_behind : (counted : Bool) (all count : ℕ) (bytes : List ℕ) (before after : Fifo) → after ≡ with_bytes counted bytes before → length bytes + count ≤ all → HasSpace all counted before → HasSpace count counted after
space_behind true all count bytes before after is few space uncounted = absurd (false≢true (sym uncounted))
space_behind false all count bytes before after is few space uncounted =
    let room = space refl in
    subst (λ (f : Fifo). length f.bytes + count ≤ room_of f.on) (sym is) (omega (arith, length-append before.bytes bytes))

pub takes_none : (words : List ℕ) (counted : Bool) (stage : ReadStage) (fifo : Fifo) → TakesBytes (take 0 words) counted stage stage fifo fifo
takes_none words counted stage fifo = record { bytes = []; hears = hears_none stage; after_is = sym (with_none counted fifo) }

module _ (words : List ℕ) (i : ℕ) (inside : i < length words) (counted : Bool) (stage mid : ReadStage) (fifo now : Fifo) (is : TakesBytes (take i words) counted stage mid fifo now) where
  -- there is room for one more
  pub takes_space : HasSpace (length words) counted fifo → HasSpace 1 counted now
  takes_space =
      space_behind counted (length words) 1 is.bytes fifo now is.after_is
      (omega (arith, bytes_many (take i words) is.bytes stage mid is.hears, length-take-le i words (omega arith)))

  pub takes_more : (next : ReadStage) (full : Fifo) → TakesByte (get_or words i 0) counted mid next now full → TakesBytes (take (i + 1) words) counted stage next fifo full
  takes_more next full byte = record {
    bytes = is.bytes ++ byte.value ∷ [];
    hears = subst (λ taken. HearsBytes taken (is.bytes ++ byte.value ∷ []) stage next) (sym (take_more words i 0 inside)) (hears_more (take i words) is.bytes (get_or words i 0) byte.value stage mid next is.hears byte.hears);
    after_is = byte.after_is ∙ ap (with_bytes counted (byte.value ∷ [])) is.after_is ∙ with_more counted is.bytes (byte.value ∷ []) fifo;
  }

-- fewer bytes find room too
pub room_down : (count fewer : ℕ) (counted : Bool) (fifo : Fifo) → fewer ≤ count → HasRoom count counted fifo → HasRoom fewer counted fifo
room_down count fewer counted fifo few room = record {
  quiet = λ bytes short. room.quiet bytes (omega arith);
  space = λ uncounted. let all = room.space uncounted in omega arith;
}

-- the room after one of the bytes
pub room_behind : (count value : ℕ) (counted : Bool) (fifo : Fifo) → HasRoom (suc count) counted fifo → HasRoom count counted (with_bytes counted (value ∷ []) fifo)
room_behind count value counted fifo room = record {
  quiet = λ bytes short. ap (wants true false false) (with_more counted (value ∷ []) bytes fifo) ∙ room.quiet (value ∷ bytes) (omega arith);
  space = space_behind counted (suc count) count (value ∷ []) fifo (with_bytes counted (value ∷ []) fifo) refl (omega arith) room.space;
}

-- ---- a device step

-- READ DATA in its content, after `steps` device steps
abbrev pub content_at : ℕ → Reading → Fdc → ℕ → ReadStage → Fifo → Fdc
content_at head_drive reading old steps stage fifo = at_reading head_drive steps (at_stage reading stage) (record old { fifo = fifo })

-- a step that gives no byte to the FIFO
pub content_goes_on : (head_drive steps : ℕ) (reading : Reading) (next : ReadStage) (old : Fdc) → IsContent next → old.asking ≡ false → wants true false false old.fifo ≡ false → at_reading head_drive steps (at_stage reading next) old ≡ gone_on_reading head_drive steps (at_stage reading next) old
content_goes_on head_drive steps reading (stages.Content separator deleted) old is down low =
    let new : Fdc = at_reading head_drive steps (at_stage reading (stages.Content separator deleted)) old in
    let keeps : old.asking ≡ wants true old.asking false old.fifo = down ∙ sym low ∙ ap (λ asking. wants true asking false old.fifo) (sym down) in
    ap (λ asking. record new { asking = asking }) keeps
content_goes_on head_drive steps reading _ old is down low = absurd is

-- by whether TC came and whether the FIFO is full
pub by_space : (counted full : Bool) (head_drive steps value : ℕ) (reading : Reading) (next : ReadStage) (old : Fdc) → (counted ≡ false → full ≡ false) → IsContent next → old.asking ≡ false → wants true false false (with_bytes counted (value ∷ []) old.fifo) ≡ false
    → at_reading head_drive steps (at_stage reading next) (record old { fifo = with_bytes counted (value ∷ []) old.fifo })
    ≡ (if counted then gone_on_reading head_drive steps (at_stage reading next) old else (if full then finished Overrun head_drive reading.wanted.key old else gone_on_reading head_drive steps (at_stage reading next) (pushed value old)))
by_space true full head_drive steps value reading next old space is down low = content_goes_on head_drive steps reading next old is down low
by_space false true head_drive steps value reading next old space is down low = absurd (false≢true (sym (space refl)))
by_space false false head_drive steps value reading next old space is down low = content_goes_on head_drive steps reading next (pushed value old) is down low

pub not_full : (fifo : Fifo) → length fifo.bytes + 1 ≤ room_of fifo.on → (length fifo.bytes == room_of fifo.on) ≡ false
not_full fifo space = ne_eqb (length fifo.bytes) (room_of fifo.on) (λ is. omega arith)

-- a word of the content, after `steps` device steps
pub record GivesByte (head : ℕ) (rate : DataRate) (steps word value : ℕ) (stage next : ReadStage) (before after : DriveState) : Type 0 where
  pub few : steps < 65535
  pub under : word_under before head ≡ word
  pub no_index : at_index before ≡ false
  pub fits : rate_fits rate (rate_of before.medium) ≡ true
  pub hears : HearsByte word value stage next
  pub passes : Becomes (let_pass before) before after

module _ (head_drive : ℕ) (reading : Reading) (old : Fdc) (still : IsQuiet old) where
  content_hears : (count steps word value : ℕ) (stage next : ReadStage) (fifo : Fifo) (before after : DriveState) → HasRoom (suc count) reading.counted fifo → GivesByte (head_of head_drive) old.rate steps word value stage next before after
      → StepsOn head_drive steps (Read (at_stage reading stage)) false word (content_at head_drive reading old steps stage fifo) (content_at head_drive reading old (steps + 1) next (with_bytes reading.counted (value ∷ []) fifo))
  content_hears count steps word value stage next fifo before after room is =
      let was : Fdc = content_at head_drive reading old steps stage fifo in
      let space : reading.counted ≡ false → (length fifo.bytes == room_of fifo.on) ≡ false = λ uncounted. not_full fifo (let all = room.space uncounted in omega arith) in
      inr (
        is.few,
        (
          given.Byte next value,
          ((λ past told reads. is.hears.gives past reading.wanted.key told reads), tt, is.hears.mark),
          by_space reading.counted (is_full was) head_drive (steps + 1) value reading next was space is.hears.content still.down (room.quiet (value ∷ []) (omega arith)),
        ),
      )

  content_step : (count steps word value : ℕ) (stage next : ReadStage) (fifo : Fifo) (before after : DriveState) → HasRoom (suc count) reading.counted fifo → GivesByte (head_of head_drive) old.rate steps word value stage next before after
      → Works (content_at head_drive reading old steps stage fifo) before (content_at head_drive reading old (steps + 1) next (with_bytes reading.counted (value ∷ []) fifo)) after
  content_step count steps word value stage next fifo before after room is =
      let was : Fdc = content_at head_drive reading old steps stage fifo in
      let new : Fdc = content_at head_drive reading old (steps + 1) next (with_bytes reading.counted (value ∷ []) fifo) in
      works_on was new before after (record { head_drive = head_drive; steps = steps; task = Read (at_stage reading stage) }) still.due refl (record {
        word = word;
        sees = (word, inl (sym is.under), ap (λ fits. seen_of fits word) (sym is.fits));
        passes = is.passes;
        does = subst (λ index. StepsOn head_drive steps (Read (at_stage reading stage)) index word was new) (sym is.no_index) (content_hears count steps word value stage next fifo before after room is);
      })

  -- word by word
  content_courses : (words bytes : List ℕ) (steps last : ℕ) (stage final : ReadStage) (fifo : Fifo) (before after : DriveState) → last ≡ steps + length words → last ≤ 65535 → rate_fits old.rate (rate_of before.medium) ≡ true
      → AreAhead (head_of head_drive) words before → HearsBytes words bytes stage final → HasRoom (length words) reading.counted fifo → LetsPass (length words) before after
      → Courses (length words) (content_at head_drive reading old steps stage fifo) before (content_at head_drive reading old last final (with_bytes reading.counted bytes fifo)) after
  unfolding Courses AreAhead HearsBytes LetsPass
  content_courses [] bytes steps last stage final fifo before after sum few fits ahead (none, same) room passes =
      let over : last ≡ steps = omega (arith, sum) in
      let kept : with_bytes reading.counted bytes fifo ≡ fifo = ap (λ b. with_bytes reading.counted b fifo) none ∙ with_none reading.counted fifo in (
        ap (λ n. content_at head_drive reading old n final (with_bytes reading.counted bytes fifo)) over
            ∙ ap (λ s. content_at head_drive reading old steps s (with_bytes reading.counted bytes fifo)) same
            ∙ ap (content_at head_drive reading old steps stage) kept,
        passes,
      )
  content_courses (word ∷ words) bytes steps last stage final fifo before after sum few fits (under, no_index, ahead) (value, more, next, is, hears, rest) room others =
      let mid = let_pass before in
      let now : Fifo = with_bytes reading.counted (value ∷ []) fifo in
      let full : with_bytes reading.counted more now ≡ with_bytes reading.counted bytes fifo = with_more reading.counted (value ∷ []) more fifo ∙ ap (λ b. with_bytes reading.counted b fifo) (sym is) in (
        content_at head_drive reading old (steps + 1) next now,
        mid,
        content_step (length words) steps word value stage next fifo before mid room (record { few = omega (arith, sum, few); under = under; no_index = no_index; fits = fits; hears = hears; passes = passes_calmly before mid refl }),
        record { request = refl; interrupt = refl; ended = refl; mark = hears.same },
        subst (λ f. Courses (length words) (content_at head_drive reading old (steps + 1) next now) mid (content_at head_drive reading old last final f) after) full
            (content_courses words more (steps + 1) last next final now mid after (omega (arith, sum)) few fits (ahead_behind (head_of head_drive) words before ahead) rest (room_behind (length words) value reading.counted fifo room) others),
      )

  -- all of them
  pub content_over : (count steps last : ℕ) (final : ReadStage) (full : Fifo) (before after : DriveState) → rate_fits old.rate (rate_of before.medium) ≡ true
      → old.phase ≡ Execute (record { head_drive = head_drive; steps = steps; task = Read reading })
      → TakesMany (head_of head_drive) steps last count reading.counted reading.stage final old.fifo full before after
      → Courses count old before (content_at head_drive reading old last final full) after
  content_over count steps last final full before after fits at is =
      let takes = is.takes in
      subst (λ fdc. Courses count fdc before (content_at head_drive reading old last final full) after) (ap (λ phase. record old { phase = phase }) (sym at))
      (subst (λ f. Courses count (content_at head_drive reading old steps reading.stage old.fifo) before (content_at head_drive reading old last final f) after) (sym takes.after_is)
      (subst (λ n. Courses n (content_at head_drive reading old steps reading.stage old.fifo) before (content_at head_drive reading old last final (with_bytes reading.counted takes.bytes old.fifo)) after) is.count_is
      (content_courses is.words takes.bytes steps last reading.stage final old.fifo before after (is.last_is ∙ ap (λ n. steps + n) (sym is.count_is)) is.few fits is.ahead takes.hears (subst (λ n. HasRoom n reading.counted old.fifo) (sym is.count_is) is.room) (subst (λ n. LetsPass n before after) (sym is.count_is) is.passes))))

-- the first of the words ahead gave their bytes
pub takes_first : (head steps last count most : ℕ) (some ahead : List ℕ) (counted : Bool) (stage final : ReadStage) (fifo full : Fifo) (before after : DriveState) → last ≡ steps + count → steps + length some ≤ 65535 → some ≡ take (length some) ahead → count ≤ length some → length some ≤ most → AreAhead head ahead before
    → HasRoom most counted fifo → TakesBytes (take count some) counted stage final fifo full → LetsPass count before after → TakesMany head steps last count counted stage final fifo full before after
takes_first head steps last count most some ahead counted stage final fifo full before after sum few first within short are room takes passes = record {
  last_is = sum;
  few = omega (arith, sum, few, within);
  words = take count some;
  count_is = length-take-le count some within;
  ahead = ahead_first head count some before (subst (λ words. AreAhead head words before) (sym first) (ahead_first head (length some) ahead before are));
  takes = takes;
  room = room_down most count counted fifo (omega (arith, within, short)) room;
  passes = passes;
}
