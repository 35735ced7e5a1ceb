-- How many device steps are told at least, in which neither line changes.
use Rattle.std.proofs.Common.{◌≡◌, ◌≤◌, ◌<◌, ◌+◌, ◌-◌, ℕ, Bool, true, false, List, [], ◌∷◌, ◌++◌, length, min, if◌then◌else◌, take, drop, replicate, None, Some, refl, sym, ap, subst, ◌∙◌, inl, inr, arith, length-take-le}
use Rattle.fdc_core.proofs.Common.{cases_lt, false≢true, append_assoc, length-replicate, take-append-drop, words_left, DriveState, passed, Chrn, content_size, reads_mark, reads_within, Fifo, wants, Past, IsContent, IsReading, IsFormatting, mark_at, IsWriting, ReadStage, Search, WriteStage, told_taken, Sent, MayReadIdIn, MayReadIdTask, MayReadIn, MayReadTask, MayWriteIn, MayWriteTask, head_of, mark_of_phase, Execution, Phase, Execute, Task, ReadId, Read, Write, Format, Formatting, Reading, Writing, HasRoom, HasSupply, with_bytes, FillsWith, GoesOnFor, HasMostLeft, HasNoneWanted, HasWords, IsLongest, IsUndisturbed, IsUnmarked, LaysWith, MarksBy, MayBeMarked, MeetsBy, PassNext, ReadsContent, asks_in, asks_soon, lays_for, lays_in, searches_for, searches_in, steps_left, Numbers, MayFormatIn, MayFormatTask, Fdc}
use Rattle.drive_model.specs.Ahead.{AreAhead}
use Rattle.fdc_stages.specs.Formats.{is_due as is_laid}
use Rattle.fdc_stages.specs.Windows.{words_with}
use Rattle.fdc_stages.specs.Writings.{bytes_ahead, count_ahead, is_search}
use Rattle.track_model.specs.Windows.{window_word}
use Rattle.std.proofs.lemmas.Bool.{le-ltb, lt-ltb}
use Rattle.fdc_stages.proofs.Among.{keys_bound, keys_grow}
use Rattle.fdc_stages.specs.Among.{content_among}
use Rattle.fdc_core.proofs.Filling.{due_numbers, found_numbers}
use Rattle.fdc_core.proofs.Foreseen.{told_nothing}
use Rattle.fdc_core.proofs.Foreseeing.{HoldsOfFirst, some_words}
use Rattle.fdc_core.proofs.Quieting.{first_none, first_unmarked, some_none}
use Rattle.fdc_stages.specs.declared.reading.ReadStage.TheVariants as stages
use Rattle.fdc_stages.specs.declared.writing.WriteStage.TheVariants as writes

not_more : (a b : ℕ) → (b < a → ⊥) → a ≤ b
not_more a b never = elim (cases_lt b a) [
  | inl more ↦ absurd (never more)
  | inr few ↦ few
]

-- ---- the FIFO

-- the FIFO has room for no more bytes than those with which DRQ stays down
pub room_most : (counted : Bool) (quiet n : ℕ) (fifo : Fifo) → counted ≡ false → ((more : List ℕ) → length more ≡ quiet + 1 → wants true false false (record fifo { bytes = fifo.bytes ++ more }) ≡ true) → HasRoom n counted fifo → n ≤ quiet
room_most counted quiet n fifo uncounted rises room =
    not_more n quiet (λ more.
    let bytes : List ℕ = replicate (quiet + 1) 0 in
    let size : length bytes ≡ quiet + 1 = length-replicate (quiet + 1) 0 in
    let low = subst (λ counted. wants true false false (with_bytes counted bytes fifo) ≡ false) uncounted (room.quiet bytes (omega (arith, size, more))) in
    false≢true (sym low ∙ rises bytes size))

-- ---- the words that pass next

-- of two rows of words that are ahead, the shorter is the beginning of the longer
ahead_alike : (head : ℕ) (words ahead : List ℕ) (s : DriveState) → AreAhead head words s → AreAhead head ahead s → length words ≤ length ahead → words ≡ take (length words) ahead
unfolding AreAhead
ahead_alike head [] ahead s are there few = refl
ahead_alike head (word ∷ words) [] s are there few = absurd (omega (arith, few))
ahead_alike head (word ∷ words) (other ∷ ahead) s (under, before, are) (there, same, behind) few =
    ap (λ w. w ∷ words) (sym under ∙ there) ∙ ap (λ rest. other ∷ rest) (ahead_alike head words ahead (passed s) are behind (omega (arith, few)))

module _ (head count : ℕ) (some ahead words seen : List ℕ) (before : DriveState) (first : some ≡ take (length some) ahead) (are : AreAhead head ahead before) (next : AreAhead head words before) (short : length words ≤ length some) (more : count < length words) where
  one_more : take (count + 1) some ≡ take (count + 1) words
  one_more =
      let begin : List ℕ = take (count + 1) some in
      let size : length begin ≡ count + 1 = length-take-le (count + 1) some (omega (arith, short, more)) in
      ahead_alike head begin words before (some_words head (count + 1) some ahead before first are) next (omega (arith, size, more)) ∙ ap (λ n. take n words) size

  -- what holds with all the words holds with one word more than were counted
  with_more : (May : List ℕ → Type 0) → HoldsOfFirst May → May (seen ++ words) → May (seen ++ take (count + 1) some)
  with_more May of_first may =
      let begin : List ℕ = take (count + 1) words in
      let joined : (seen ++ begin) ++ drop (count + 1) words ≡ seen ++ words = append_assoc seen begin (drop (count + 1) words) ∙ ap (λ w. seen ++ w) (take-append-drop (count + 1) words) in
      subst (λ w. May (seen ++ w)) (sym one_more) (of_first (seen ++ begin) (drop (count + 1) words) (seen ++ words) joined may)

-- ---- where nothing is told

-- something else than the words can change a line
pub disturbed : (most count : ℕ) (old : Fdc) (before : DriveState) → (IsUndisturbed old before → ⊥) → IsLongest most count old before
disturbed most count old before never = record {
  identifies = λ past sent words may next none. absurd (never next.has.undisturbed);
  awaits = λ past sent words may unmarked next marks. absurd (never next.has.undisturbed);
  reads = λ past sent n may content few has room goes. absurd (never has.undisturbed);
  searches = λ past sent deleted words may later next none. absurd (never next.has.undisturbed);
  fills = λ past sent deleted n bytes may found later few has supply filled. absurd (never has.undisturbed);
  listens = λ past sent numbers n may hears later few has. absurd (never has.undisturbed);
  lays = λ past sent numbers n bytes may due later few has supply laid. absurd (never has.undisturbed);
}

no_steps : (phase : Phase) → ((execution : Execution) → phase ≡ Execute execution → ⊥) → steps_left phase ≡ 0
no_steps (Execute execution) idle = absurd (idle execution refl)
no_steps _ idle = refl

-- no data command is executed
pub idle_longest : (most count : ℕ) (old : Fdc) (before : DriveState) → ((execution : Execution) → old.phase ≡ Execute execution → ⊥) → IsLongest most count old before
idle_longest most count old before idle =
    let none = no_steps old.phase idle in
    record {
      identifies = λ past sent words may next wanted. let few = next.has.steps in omega (arith, few, none);
      awaits = λ past sent words may unmarked next marks. let few = next.has.steps in omega (arith, few, none);
      reads = λ past sent n may content most has room goes. let few = has.steps in omega (arith, few, none);
      searches = λ past sent deleted words may later next wanted. let few = next.has.steps in omega (arith, few, none);
      fills = λ past sent deleted n bytes may found later most has supply filled. let few = has.steps in omega (arith, few, none);
      listens = λ past sent numbers n may hears later most has. let few = has.steps in omega (arith, few, none);
      lays = λ past sent numbers n bytes may due later most has supply laid. let few = has.steps in omega (arith, few, none);
    }

-- ---- the words of a window

-- of a supply, a part is a supply
less_supply : (bytes fewer : ℕ) (counted : Bool) (fifo : Fifo) → fewer ≤ bytes → HasSupply bytes counted fifo → HasSupply fewer counted fifo
less_supply bytes fewer counted fifo few supply = record { quiet = λ taken less. supply.quiet taken (omega (arith, few, less)) }

-- so many words come before the last of the window. If they are more than there are bytes for, they need more bytes
abbrev IsInside : (count more n bytes : ℕ) → Type 0
IsInside count more n bytes =
    (n < count) × ((supply : ℕ) → supply < more → count + supply ≤ n + more + 1 → supply + 1 ≤ bytes)

gap_inside : (place begin size left n bytes : ℕ) → place + left ≡ begin → place + n < begin + (18 + size) → content_among size (place + n - begin) ≤ content_among size (place - begin) + bytes → IsInside (left + (size + 18)) size n bytes
gap_inside place begin size left n bytes at over needs =
    (omega (arith, at, over), λ supply less many. omega (arith, at, over, needs, less, many))

window_inside : (place begin size written handed count more n bytes : ℕ) → place ≡ begin + written → written + count ≡ size + 18 → handed + more ≡ size → (1 ≤ more → more + 2 ≤ count) → place + n < begin + (18 + size)
    → content_among size (place + n - begin) ≤ content_among size (place - begin) + bytes → IsInside count more n bytes
window_inside place begin size written handed count more n bytes at counts gives behind over needs =
    (omega (arith, at, counts, over), λ supply less many. let there = behind (omega (arith, less)) in omega (arith, at, counts, gives, there, over, needs, less, many))

inside : (past : Past) (key : Chrn) (deleted : Bool) (handed : List ℕ) (stage : WriteStage) (n bytes : ℕ) → is_search stage ≡ false → IsWriting past key deleted handed stage → FillsWith n bytes key past
    → IsInside (count_ahead (content_size key.n) stage) (bytes_ahead (content_size key.n) stage) n bytes
inside past key deleted handed (writes.Search search) n bytes found was fits = absurd (false≢true (sym found))
inside past key deleted handed (writes.Gap left) n bytes found was fits =
    let at = was.1.0.1 in
    let none : length past.words ≡ 0 = ap length was.1.1.0 in
    let (over, needs) = fits was.1.0.0 at.address in
    gap_inside past.place (window_word was.1.0.0) (content_size key.n) left n bytes (omega (arith, was.0, none, at.place)) over needs
inside past key deleted handed (writes.Window now) n bytes found was fits =
    let at = was.1.0.1 in
    let (over, needs) = fits was.1.0.0 at.address in
    let (count, gives) = due_numbers past key deleted handed (writes.Window now) refl was in
    window_inside past.place (window_word was.1.0.0) (content_size key.n) (length past.words) (length handed) (count_ahead (content_size key.n) (writes.Window now)) (bytes_ahead (content_size key.n) (writes.Window now)) n bytes
    (was.0 ∙ ap (λ k. k + length past.words) at.place) count gives (found_numbers (content_size key.n) (writes.Window now) refl).0 over needs

-- no more words than that are counted
too_many : (count more n bytes supply most : ℕ) (counted : Bool) (fifo : Fifo) → (1 ≤ more → more + 2 ≤ count) → IsInside count more n bytes → n ≤ most → HasSupply bytes counted fifo → ((k : ℕ) → k ≤ most → HasSupply k counted fifo → k ≤ supply) → n ≤ words_with supply more count
too_many count more n bytes supply most counted fifo behind (over, needs) few has widest = elim (cases_lt supply more) [
  | inl less ↦ (
      let is : words_with supply more count ≡ count - 2 - (more - supply) = ap (λ b. if b then count - 2 - (more - supply) else count - 1) (lt-ltb supply more less) in
      let there = behind (omega (arith, less)) in
      not_more n (words_with supply more count) (λ many.
      let wants_more = needs supply less (omega (arith, is, there, less, many)) in
      let all = widest (supply + 1) (omega (arith, is, there, less, many, few)) (less_supply bytes (supply + 1) counted fifo wants_more has) in
      omega (arith, all)))
  | inr all ↦ (
      let is : words_with supply more count ≡ count - 1 = ap (λ b. if b then count - 2 - (more - supply) else count - 1) (le-ltb supply more all) in
      omega (arith, is, over))
]

-- ---- while a data command is executed

module _ (old : Fdc) (execution : Execution) (most count : ℕ) (before : DriveState) (at : old.phase ≡ Execute execution) where
  abbrev head_drive : ℕ
  head_drive = execution.head_drive

  no_id : (past : Past) (sent : ℕ) → (MayReadIdTask past sent head_drive execution.steps execution.task → ⊥) → MayReadIdIn past sent old.phase → ⊥
  no_id past sent never may = never (subst (λ phase. MayReadIdIn past sent phase) at may)

  no_read : (past : Past) (sent : Sent) → (MayReadTask past sent head_drive execution.steps execution.task old.asking old.fifo.bytes → ⊥) → MayReadIn past sent old.phase old.asking old.fifo.bytes → ⊥
  no_read past sent never may = never (subst (λ phase. MayReadIn past sent phase old.asking old.fifo.bytes) at may)

  no_write : (past : Past) (sent : Sent) (deleted : Bool) → (MayWriteTask past sent deleted head_drive execution.steps execution.task old.asking old.fifo → ⊥) → MayWriteIn past sent deleted old.phase old.asking old.fifo → ⊥
  no_write past sent deleted never may = never (subst (λ phase. MayWriteIn past sent deleted phase old.asking old.fifo) at may)

  no_format : (past : Past) (sent : ℕ) (numbers : Numbers) → (MayFormatTask past sent numbers head_drive execution.steps execution.task old.asking old.fifo → ⊥) → MayFormatIn past sent numbers old.phase old.asking old.fifo → ⊥
  no_format past sent numbers never may = never (subst (λ phase. MayFormatIn past sent numbers phase old.asking old.fifo) at may)

  -- DRQ comes up by the bytes that are in the FIFO
  pub asking_longest : (task : Task) → execution.task ≡ task → asks_in task old.fifo ≡ true → IsLongest most count old before
  asking_longest task is asks =
      disturbed most count old before (λ still. false≢true (sym still.stays_low ∙ ap (λ phase. asks_soon phase old.fifo) at ∙ ap (λ task. asks_in task old.fifo) is ∙ asks))

  -- a FORMAT is none of the other commands
  module _ (formatting : Formatting) (is : execution.task ≡ Format formatting) where
    formats_task : (past : Past) (sent : ℕ) (numbers : Numbers) → MayFormatIn past sent numbers old.phase old.asking old.fifo → MayFormatTask past sent numbers head_drive execution.steps (Format formatting) old.asking old.fifo
    formats_task past sent numbers may = subst (λ task. MayFormatTask past sent numbers head_drive execution.steps task old.asking old.fifo) is (subst (λ phase. MayFormatIn past sent numbers phase old.asking old.fifo) at may)

    lays_next : lays_in old.phase ≡ is_laid formatting.stage
    lays_next = ap lays_in at ∙ ap lays_for is

    -- what has to be shown of a FORMAT
    abbrev pub CountsListening : Type 0
    CountsListening =
        (past : Past) (sent : ℕ) (numbers : Numbers) (n : ℕ) → MayFormatTask past sent numbers head_drive execution.steps (Format formatting) old.asking old.fifo → is_laid formatting.stage ≡ false → 1 ≤ past.steps → n ≤ most
        → HasWords (head_of sent) n old before → n ≤ count

    abbrev pub CountsLaying : Type 0
    CountsLaying =
        (past : Past) (sent : ℕ) (numbers : Numbers) (n bytes : ℕ) → MayFormatTask past sent numbers head_drive execution.steps (Format formatting) old.asking old.fifo → is_laid formatting.stage ≡ true → 1 ≤ past.steps → n ≤ most
        → HasWords (head_of sent) n old before → HasSupply bytes past.counted old.fifo → LaysWith n bytes numbers past → n ≤ count

    pub by_layout : CountsListening → CountsLaying → IsLongest most count old before
    by_layout waits writes = record {
      identifies = λ past sent words may next none. absurd (no_id past sent (λ may. subst (λ task. MayReadIdTask past sent head_drive execution.steps task) is may) may);
      awaits = λ past sent words may unmarked next marks. absurd (no_read past sent (λ may. subst (λ task. MayReadTask past sent head_drive execution.steps task old.asking old.fifo.bytes) is may) may);
      reads = λ past sent n may content few has room goes. absurd (no_read past sent (λ may. subst (λ task. MayReadTask past sent head_drive execution.steps task old.asking old.fifo.bytes) is may) may);
      searches = λ past sent deleted words may later next none. absurd (no_write past sent deleted (λ may. subst (λ task. MayWriteTask past sent deleted head_drive execution.steps task old.asking old.fifo) is may) may);
      fills = λ past sent deleted n bytes may found later few has supply filled. absurd (no_write past sent deleted (λ may. subst (λ task. MayWriteTask past sent deleted head_drive execution.steps task old.asking old.fifo) is may) may);
      listens = λ past sent numbers n may hears later few has. waits past sent numbers n (formats_task past sent numbers may) (sym lays_next ∙ hears) later few has;
      lays = λ past sent numbers n bytes may due later few has supply laid. writes past sent numbers n bytes (formats_task past sent numbers may) (sym lays_next ∙ due) later few has supply laid;
    }

  -- the words that were counted among those that are ahead
  module _ (limit : ℕ) (some ahead : List ℕ) (first : some ≡ take (length some) ahead) (all : length some ≡ min (length ahead) (min limit (65535 - execution.steps)))
      (are : AreAhead (head_of head_drive) ahead before) (whole : before.left ≡ Some 0 → length ahead ≡ words_left (head_of head_drive) before) where
    -- as many as there are
    enough : (n head : ℕ) → n ≤ limit → head_of head_drive ≡ head → HasWords head n old before → n ≤ length some
    enough n head few same has =
        let left : n ≤ 65535 - execution.steps = subst (λ phase. n ≤ steps_left phase) at has.steps in
        let words : n ≤ words_left (head_of head_drive) before = subst (λ head. n ≤ words_left head before) (sym same) has.words in
        let size = whole has.undisturbed.faultless in
        omega (arith, all, few, left, words, size)

    counts : (head : ℕ) (words seen : List ℕ) (May : List ℕ → Type 0) → most ≤ limit → HoldsOfFirst May → head_of head_drive ≡ head → PassNext head most words old before → May (seen ++ words)
        → (count < length some → May (seen ++ take (count + 1) some) → ⊥) → length words ≤ count
    counts head words seen May limits of_first same next may never =
        let few = next.few in
        let short = enough (length words) head (omega (arith, few, limits)) same next.has in
        let here : AreAhead (head_of head_drive) words before = subst (λ head. AreAhead head words before) (sym same) next.ahead in
        not_more (length words) count (λ more.
        never (omega (arith, short, more)) (with_more (head_of head_drive) count some ahead words seen before first are here short more May of_first may))

    pub id_longest : most ≤ limit → (search : Search) → execution.task ≡ ReadId search → (count < length some → MeetsBy None (take (count + 1) some) search) → IsLongest most count old before
    id_longest limits search is meets = record {
      identifies = λ past sent words may next none.
          let was : MayReadIdTask past sent head_drive execution.steps (ReadId search) = subst (λ task. MayReadIdTask past sent head_drive execution.steps task) is (subst (λ phase. MayReadIdIn past sent phase) at may) in
          counts (head_of sent) words past.seen (HasNoneWanted None) limits (first_none None) (ap head_of was.sent_is) next none (λ less still. meets less past was.searches still);
      awaits = λ past sent words may unmarked next marks. absurd (no_read past sent (λ may. subst (λ task. MayReadTask past sent head_drive execution.steps task old.asking old.fifo.bytes) is may) may);
      reads = λ past sent n may content few has room goes. absurd (no_read past sent (λ may. subst (λ task. MayReadTask past sent head_drive execution.steps task old.asking old.fifo.bytes) is may) may);
      searches = λ past sent deleted words may later next none. absurd (no_write past sent deleted (λ may. subst (λ task. MayWriteTask past sent deleted head_drive execution.steps task old.asking old.fifo) is may) may);
      fills = λ past sent deleted n bytes may found later few has supply filled. absurd (no_write past sent deleted (λ may. subst (λ task. MayWriteTask past sent deleted head_drive execution.steps task old.asking old.fifo) is may) may);
      listens = λ past sent numbers n may hears later few has. absurd (no_format past sent numbers (λ may. subst (λ task. MayFormatTask past sent numbers head_drive execution.steps task old.asking old.fifo) is may) may);
      lays = λ past sent numbers n bytes may due later few has supply laid. absurd (no_format past sent numbers (λ may. subst (λ task. MayFormatTask past sent numbers head_drive execution.steps task old.asking old.fifo) is may) may);
    }

  -- ---- a FORMAT

  module _ (formatting : Formatting) (is : execution.task ≡ Format formatting) where
    pub first_format : execution.steps ≡ 0 → IsLongest most count old before
    first_format begins = by_layout formatting is
        (λ past sent numbers n was hears later few has. let steps = was.1.1.steps_are in absurd (omega (arith, steps, begins, later)))
        (λ past sent numbers n bytes was due later few has supply laid. let steps = was.1.1.steps_are in absurd (omega (arith, steps, begins, later)))

    module _ (limit : ℕ) (some ahead : List ℕ) (first : some ≡ take (length some) ahead) (all : length some ≡ min (length ahead) (min limit (65535 - execution.steps)))
        (are : AreAhead (head_of head_drive) ahead before) (whole : before.left ≡ Some 0 → length ahead ≡ words_left (head_of head_drive) before) where
      -- while no word is laid
      pub listening_longest : most ≤ limit → is_laid formatting.stage ≡ false → count ≡ length some → IsLongest most count old before
      listening_longest limits shut count_is = by_layout formatting is
          (λ past sent numbers n was hears later few has.
          let short = enough limit some ahead first all are whole n (head_of sent) (omega (arith, few, limits)) (ap head_of was.1.1.sent_is) has in
          omega (arith, short, count_is))
          (λ past sent numbers n bytes was due later few has supply laid. absurd (false≢true (sym shut ∙ due)))

      -- in the layout
      pub laying_longest : most ≤ limit → is_laid formatting.stage ≡ true → (supply : ℕ) → ((n : ℕ) → n ≤ most → HasSupply n formatting.counted old.fifo → n ≤ supply)
          → ((past : Past) (numbers : Numbers) (handed : List ℕ) → IsFormatting past numbers handed formatting.stage → count < length some → LaysWith (count + 1) supply numbers past → ⊥) → IsLongest most count old before
      laying_longest limits due supply widest never = by_layout formatting is
          (λ past sent numbers n was hears later few has. absurd (false≢true (sym hears ∙ due)))
          (λ past sent numbers n bytes was _ later few has has_bytes laid.
          let short = enough limit some ahead first all are whole n (head_of sent) (omega (arith, few, limits)) (ap head_of was.1.1.sent_is) has in
          let has_them : HasSupply bytes formatting.counted old.fifo = subst (λ counted. HasSupply bytes counted old.fifo) was.1.1.counted_is has_bytes in
          let part : ℕ = min bytes most in
          let inside = widest part (omega arith) (less_supply bytes part formatting.counted old.fifo (omega arith) has_them) in
          not_more n count (λ more.
          never past numbers was.1.0 was.1.1.formats (omega (arith, more, short)) (λ keys same.
          let there = laid keys same in
          let grows = keys_grow numbers keys (length past.words + (count + 1)) (length past.words + n) (omega (arith, more)) in
          let bound = keys_bound numbers keys (length past.words) (length past.words + (count + 1)) (omega arith) in
          omega (arith, inside, there, grows, bound, more, few))))

  -- ---- a write

  module _ (writing : Writing) (is : execution.task ≡ Write writing) where
    abbrev key : Chrn
    key = writing.wanted.key

    writes_task : (past : Past) (sent : Sent) (deleted : Bool) → MayWriteIn past sent deleted old.phase old.asking old.fifo → MayWriteTask past sent deleted head_drive execution.steps (Write writing) old.asking old.fifo
    writes_task past sent deleted may = subst (λ task. MayWriteTask past sent deleted head_drive execution.steps task old.asking old.fifo) is (subst (λ phase. MayWriteIn past sent deleted phase old.asking old.fifo) at may)

    -- what has to be shown of a write
    abbrev CountsSearch : Type 0
    CountsSearch =
        (past : Past) (sent : Sent) (deleted : Bool) (words : List ℕ) → MayWriteTask past sent deleted head_drive execution.steps (Write writing) old.asking old.fifo → 1 ≤ past.steps
        → PassNext (head_of sent.head_drive) most words old before → HasNoneWanted (Some sent.key) (past.seen ++ words) → length words ≤ count

    -- the same of a write that has met its address field
    abbrev CountsFilling : Type 0
    CountsFilling =
        (past : Past) (sent : Sent) (deleted : Bool) (n bytes : ℕ) → MayWriteTask past sent deleted head_drive execution.steps (Write writing) old.asking old.fifo → is_search writing.stage ≡ false → 1 ≤ past.steps → n ≤ most
        → HasWords (head_of sent.head_drive) n old before → HasSupply bytes past.counted old.fifo → FillsWith n bytes sent.key past → n ≤ count

    searches_next : searches_in old.phase ≡ is_search writing.stage
    searches_next = ap searches_in at ∙ ap searches_for is

    by_search : CountsSearch → CountsFilling → IsLongest most count old before
    by_search does fills = record {
      identifies = λ past sent words may next none. absurd (no_id past sent (λ may. subst (λ task. MayReadIdTask past sent head_drive execution.steps task) is may) may);
      awaits = λ past sent words may unmarked next marks. absurd (no_read past sent (λ may. subst (λ task. MayReadTask past sent head_drive execution.steps task old.asking old.fifo.bytes) is may) may);
      reads = λ past sent n may content few has room goes. absurd (no_read past sent (λ may. subst (λ task. MayReadTask past sent head_drive execution.steps task old.asking old.fifo.bytes) is may) may);
      searches = λ past sent deleted words may later next none. does past sent deleted words (writes_task past sent deleted may) later next none;
      fills = λ past sent deleted n bytes may found later few has supply filled. fills past sent deleted n bytes (writes_task past sent deleted may) (sym searches_next ∙ found) later few has supply filled;
      listens = λ past sent numbers n may hears later few has. absurd (no_format past sent numbers (λ may. subst (λ task. MayFormatTask past sent numbers head_drive execution.steps task old.asking old.fifo) is may) may);
      lays = λ past sent numbers n bytes may due later few has supply laid. absurd (no_format past sent numbers (λ may. subst (λ task. MayFormatTask past sent numbers head_drive execution.steps task old.asking old.fifo) is may) may);
    }

    -- a write that has met its address field
    has_met : (past : Past) (deleted : Bool) (handed : List ℕ) (stage : WriteStage) → is_search stage ≡ false → IsWriting past key deleted handed stage → HasNoneWanted (Some key) past.seen → ⊥
    has_met past deleted handed (writes.Search search) found was none = false≢true (sym found)
    has_met past deleted handed _ found was none = none was.1.0.0 key refl was.1.0.1.address

    met_counts : is_search writing.stage ≡ false → CountsSearch
    met_counts found past sent deleted words was later next none =
        let sent_key : writing.wanted.key ≡ sent.key = ap (λ (s : Sent). s.key) was.1.1.sent_is in
        let wanted : HasNoneWanted (Some key) (past.seen ++ words) = subst (λ k. HasNoneWanted (Some k) (past.seen ++ words)) (sym sent_key) none in
        absurd (has_met past writing.deleted was.1.0 writing.stage found was.1.1.writes (first_none (Some key) past.seen words (past.seen ++ words) refl wanted))

    pub first_longest : execution.steps ≡ 0 → IsLongest most count old before
    first_longest begins = by_search
        (λ past sent deleted words was later next none. let steps = was.1.1.steps_are in absurd (omega (arith, steps, begins, later)))
        (λ past sent deleted n bytes was found later few has supply filled. let steps = was.1.1.steps_are in absurd (omega (arith, steps, begins, later)))

    module _ (limit : ℕ) (some ahead : List ℕ) (first : some ≡ take (length some) ahead) (all : length some ≡ min (length ahead) (min limit (65535 - execution.steps)))
        (are : AreAhead (head_of head_drive) ahead before) (whole : before.left ≡ Some 0 → length ahead ≡ words_left (head_of head_drive) before) where
      pub search_longest : most ≤ limit → (search : Search) → writing.stage ≡ writes.Search search → (count < length some → MeetsBy (Some key) (take (count + 1) some) search) → IsLongest most count old before
      search_longest limits search stage meets = by_search
          (λ past sent deleted words was later next none.
          let sent_key : writing.wanted.key ≡ sent.key = ap (λ (s : Sent). s.key) was.1.1.sent_is in
          let same : head_of head_drive ≡ head_of sent.head_drive = ap (λ (s : Sent). head_of s.head_drive) was.1.1.sent_is in
          let wanted : HasNoneWanted (Some key) (past.seen ++ words) = subst (λ k. HasNoneWanted (Some k) (past.seen ++ words)) (sym sent_key) none in
          let at_search : IsWriting past key writing.deleted was.1.0 (writes.Search search) = subst (λ now. IsWriting past key writing.deleted was.1.0 now) stage was.1.1.writes in
          counts limit some ahead first all are whole (head_of sent.head_drive) words past.seen (HasNoneWanted (Some key)) limits (first_none (Some key)) same next wanted (λ less still. meets less past at_search.1.0 still))
          (λ past sent deleted n bytes was found later few has supply filled. absurd (false≢true (sym found ∙ ap is_search stage)))

      -- after its search
      pub filling_longest : most ≤ limit → is_search writing.stage ≡ false → (supply : ℕ) → ((n : ℕ) → n ≤ most → HasSupply n writing.counted old.fifo → n ≤ supply)
          → count ≡ min (length some) (words_with supply (bytes_ahead (content_size key.n) writing.stage) (count_ahead (content_size key.n) writing.stage)) → IsLongest most count old before
      filling_longest limits found supply widest count_is = by_search (met_counts found)
          (λ past sent deleted n bytes was _ later few has has_bytes filled.
          let sent_key : writing.wanted.key ≡ sent.key = ap (λ (s : Sent). s.key) was.1.1.sent_is in
          let same : head_of head_drive ≡ head_of sent.head_drive = ap (λ (s : Sent). head_of s.head_drive) was.1.1.sent_is in
          let fits : FillsWith n bytes key past = subst (λ k. FillsWith n bytes k past) (sym sent_key) filled in
          let short = enough limit some ahead first all are whole n (head_of sent.head_drive) (omega (arith, few, limits)) same has in
          let has_them : HasSupply bytes writing.counted old.fifo = subst (λ counted. HasSupply bytes counted old.fifo) was.1.1.counted_is has_bytes in
          let ahead_of = bytes_ahead (content_size key.n) writing.stage in
          let count_of = count_ahead (content_size key.n) writing.stage in
          let within = inside past key writing.deleted was.1.0 writing.stage n bytes found was.1.1.writes fits in
          let most_with = too_many count_of ahead_of n bytes supply most writing.counted old.fifo (found_numbers (content_size key.n) writing.stage found).0 within few has_them widest in
          omega (arith, count_is, short, most_with))

  -- ---- a READ DATA

  module _ (reading : Reading) (is : execution.task ≡ Read reading) where
    abbrev sector : Chrn
    sector = reading.wanted.key

    reads_task : (past : Past) (sent : Sent) → MayReadIn past sent old.phase old.asking old.fifo.bytes → MayReadTask past sent head_drive execution.steps (Read reading) old.asking old.fifo.bytes
    reads_task past sent may = subst (λ task. MayReadTask past sent head_drive execution.steps task old.asking old.fifo.bytes) is (subst (λ phase. MayReadIn past sent phase old.asking old.fifo.bytes) at may)

    phase_is : old.phase ≡ Execute (record execution { task = Read reading })
    phase_is = at ∙ ap (λ task. Execute (record execution { task = task })) is

    reads_stage : ReadsContent old.phase → IsContent reading.stage
    reads_stage content = subst ReadsContent phase_is content

    no_mark : mark_of_phase old.phase ≡ None → mark_at reading.stage ≡ None
    no_mark none = ap mark_of_phase (sym phase_is) ∙ none

    -- what has to be shown of a READ DATA before its data mark, and in its content
    abbrev CountsUnmarked : Type 0
    CountsUnmarked =
        (past : Past) (sent : Sent) (words : List ℕ) → MayReadTask past sent head_drive execution.steps (Read reading) old.asking old.fifo.bytes → mark_at reading.stage ≡ None
        → PassNext (head_of sent.head_drive) most words old before → MayBeMarked sent.key (past.seen ++ words) → length words ≤ count

    abbrev CountsContent : Type 0
    CountsContent =
        (past : Past) (sent : Sent) (n : ℕ) → MayReadTask past sent head_drive execution.steps (Read reading) old.asking old.fifo.bytes → IsContent reading.stage → n ≤ most
        → HasWords (head_of sent.head_drive) (n + 1) old before → HasRoom n past.counted old.fifo → GoesOnFor n sent.key past.seen → n ≤ count

    by_stage : CountsUnmarked → CountsContent → IsLongest most count old before
    by_stage awaits reads = record {
      identifies = λ past sent words may next none. absurd (no_id past sent (λ may. subst (λ task. MayReadIdTask past sent head_drive execution.steps task) is may) may);
      awaits = λ past sent words may unmarked next marks. awaits past sent words (reads_task past sent may) (no_mark unmarked) next marks;
      reads = λ past sent n may content few has room goes. reads past sent n (reads_task past sent may) (reads_stage content) few has room goes;
      searches = λ past sent deleted words may later next none. absurd (no_write past sent deleted (λ may. subst (λ task. MayWriteTask past sent deleted head_drive execution.steps task old.asking old.fifo) is may) may);
      fills = λ past sent deleted n bytes may found later few has supply filled. absurd (no_write past sent deleted (λ may. subst (λ task. MayWriteTask past sent deleted head_drive execution.steps task old.asking old.fifo) is may) may);
      listens = λ past sent numbers n may hears later few has. absurd (no_format past sent numbers (λ may. subst (λ task. MayFormatTask past sent numbers head_drive execution.steps task old.asking old.fifo) is may) may);
      lays = λ past sent numbers n bytes may due later few has supply laid. absurd (no_format past sent numbers (λ may. subst (λ task. MayFormatTask past sent numbers head_drive execution.steps task old.asking old.fifo) is may) may);
    }

    -- a content has a mark
    content_marked : (stage : ReadStage) → IsContent stage → mark_at stage ≡ None → ⊥
    content_marked (stages.Content separator deleted) content none = some_none none
    content_marked _ content none = content

    pub over_longest : (deleted good : Bool) → reading.stage ≡ stages.Over deleted good → IsLongest most count old before
    over_longest deleted good over = by_stage
        (λ past sent words was none next marks. absurd (some_none (sym (ap mark_at over) ∙ none)))
        (λ past sent n was content few has room goes. absurd (subst IsContent over content))

    -- so many bytes of the content that goes on have not come
    still_left : (past : Past) (told : List ℕ) (n : ℕ) (stage : ReadStage) → IsContent stage → IsReading past sector told stage → GoesOnFor n sector past.seen → length told + n + 1 ≤ content_size sector.n
    still_left past told n (stages.Content separator deleted) content (p, q, taken, at_content) goes =
        let size : ℕ = content_size sector.n in
        let long = told_taken past sector told separator deleted p q taken at_content in
        let within = reads_within separator past.seen p q deleted size taken at_content.reads in
        let on = goes p q deleted at_content.address (reads_mark separator past.seen p q deleted size taken at_content.reads) in
        omega (arith, long, within, on)
    still_left past told n _ content reads goes = absurd content

    module _ (limit : ℕ) (some ahead : List ℕ) (first : some ≡ take (length some) ahead) (all : length some ≡ min (length ahead) (min limit (65535 - execution.steps)))
        (are : AreAhead (head_of head_drive) ahead before) (whole : before.left ≡ Some 0 → length ahead ≡ words_left (head_of head_drive) before) where
      pub unmarked_longest : most ≤ limit → mark_at reading.stage ≡ None → (count < length some → MarksBy sector (take (count + 1) some) reading.stage) → IsLongest most count old before
      unmarked_longest limits none marks = by_stage
          (λ past sent words was unmarked next may.
          let sent_key : reading.wanted.key ≡ sent.key = ap (λ (s : Sent). s.key) was.1.1.sent_is in
          let same : head_of head_drive ≡ head_of sent.head_drive = ap (λ (s : Sent). head_of s.head_drive) was.1.1.sent_is in
          let wanted : MayBeMarked sector (past.seen ++ words) = subst (λ k. MayBeMarked k (past.seen ++ words)) (sym sent_key) may in
          let nothing : was.1.0 ≡ [] = told_nothing past sector was.1.0 reading.stage none was.1.1.reads in
          let awaits : IsUnmarked past sector reading.stage = (subst (λ told. IsReading past sector told reading.stage) nothing was.1.1.reads, none) in
          counts limit some ahead first all are whole (head_of sent.head_drive) words past.seen (MayBeMarked sector) limits (first_unmarked sector) same next wanted (λ less still. marks less past awaits still))
          (λ past sent n was content few has room goes. absurd (content_marked reading.stage content none))

      pub content_longest : (room bytes : ℕ) → IsContent reading.stage → min (room + 1) 65535 ≤ limit → ((n : ℕ) → n ≤ most → HasRoom n reading.counted old.fifo → n ≤ room) → count ≡ bytes - 1 → (bytes < length some → HasMostLeft bytes reading.stage) → IsLongest most count old before
      content_longest room bytes content limits widest count_is most_left = by_stage
          (λ past sent words was unmarked next may. absurd (content_marked reading.stage content unmarked))
          (λ past sent n was here few has space goes.
          let sent_key : reading.wanted.key ≡ sent.key = ap (λ (s : Sent). s.key) was.1.1.sent_is in
          let same : head_of head_drive ≡ head_of sent.head_drive = ap (λ (s : Sent). head_of s.head_drive) was.1.1.sent_is in
          let inside : n ≤ room = widest n few (subst (λ counted. HasRoom n counted old.fifo) was.1.1.counted_is space) in
          let left : n + 1 ≤ 65535 - execution.steps = subst (λ phase. n + 1 ≤ steps_left phase) at has.steps in
          let short = enough limit some ahead first all are whole (n + 1) (head_of sent.head_drive) (omega (arith, inside, limits, left)) same has in
          let on : GoesOnFor n sector past.seen = subst (λ k. GoesOnFor n k past.seen) (sym sent_key) goes in
          let behind = still_left past was.1.0 n reading.stage content was.1.1.reads on in
          not_more n count (λ more.
          let all_told = most_left (omega (arith, more, count_is, short)) past sector was.1.0 was.1.1.reads in
          omega (arith, all_told, behind, more, count_is)))
