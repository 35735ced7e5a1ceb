-- The transfers after the word time of a READ DATA that ends soon.
use Rattle.std.proofs.Common.{◌≡◌, ◌⊎◌, inl, inr, ℕ, ◌+◌, ◌-◌, ◌*◌, ◌≤◌, ◌==◌, ◌&&◌, ◌||◌, not, nat_le, nat_lt, Bool, true, false, [], length, drop, if◌then◌else◌, refl, sym, ◌∙◌, ap, subst, arith}
use Rattle.laws_machine.proofs.Common.{Rose, Fifo, room_of, worth_fetching, ReadStage, fifo_told, taken_out, phase_asks, task_asks, phase_told, is_executing, is_over, is_reading, asks, is_gated, phase_counted, Fdc, Phase, Execute, Task, next_entry, Holds, IsShort, is_due, looked, shown, waited, counted, DmaRequest, Low, High, can_move, moved_to_memory, moved_from_memory, told_if, looked_at, shown_again, Chips, IsRuled, lingers, task_lingers, steps_taken, wait_left, most_steps_of, IsSoonOver, and_from, cases_lt, cond-true, eqb-false, false_from_ne_true, false≢true, lt-ltb, grants, moved_up_to, dma_stepped, ReadTask as Read, is_late}
use Rattle.pc_bus.specs.Transfers.{moved}
use Rattle.laws_machine.proofs.OnSteps.Transfers.{up_to, by_request}
use Rattle.laws_machine.proofs.OnReads.Served.{served, left_reading}
use Rattle.laws_machine.proofs.OnSteps.Words.{by_bytes}
use Rattle.laws_machine.proofs.OnSteps.Runs.{up_to_holding}
use Rattle.laws_machine.proofs.OnReads.Words.{IsReadingAt, HasEnded}

-- ---- how a request is dealt with

-- the request isn't granted now, or bytes are moved
pub data Dealt (chips : Chips) : Chips → Type 0 where
  Waits : (is_due (looked_at chips).holding.request ≡ false) ⊎ (grants chips.channel ≡ false) → Dealt chips (looked_at chips)
  Moves : Dealt chips (shown_again (moved_up_to 16 (looked_at chips)))

pub dealt : (chips : Chips) → Dealt chips (dma_stepped chips)
dealt chips = by_request (Dealt chips) chips (λ idle. Waits (inl idle)) (λ masked. Waits (inr masked)) (λ granting. Moves)

-- ---- DMA latencies are bytes

waits_or_stalls : (request : DmaRequest) (old : Holds) → IsShort request → IsShort (waited request old).request ⊎ Rose old.stalls (waited request old).stalls
waits_or_stalls Low old short = elim (cases_lt 8 (next_entry old.entries)) [
  | inl long ↦ inr (subst (Rose old.stalls) (sym (cond-true (nat_lt 8 (next_entry old.entries)) (counted old.stalls) old.stalls (lt-ltb 8 (next_entry old.entries) long))) (omega arith))
  | inr few ↦ inl (omega arith)
]
waits_or_stalls (High left) old short = inl (omega arith)

-- a DMA latency that isn't a byte counts as a late DMA
pub looks_or_stalls : (line : Bool) (old : Holds) → IsShort old.request → IsShort (looked line old).request ⊎ Rose old.stalls (looked line old).stalls
looks_or_stalls true old short = waits_or_stalls old.request old short
looks_or_stalls false old short = inl tt

pub request_short : (line : Bool) (old : Holds) → IsShort old.request → IsShort (shown line old).request
request_short true old short = short
request_short false old short = tt

-- what the transfers leave of the DMA latencies
pub dealt_holding : (P : Holds → Type 0) → ((line : Bool) (old : Holds) → P old → P (shown line old)) → (chips new : Chips) → Dealt chips new
    → P (looked_at chips).holding → P new.holding
dealt_holding P shows chips new (Waits why) was = was
dealt_holding P shows chips new Moves was = shows _ (moved_up_to 16 (looked_at chips)).holding (subst P (sym (up_to_holding 16 (looked_at chips))) was)

-- what is left of a wait
waits_less : (request : DmaRequest) (old : Holds) → IsShort (waited request old).request → is_due (waited request old).request ≡ false
    → wait_left false (waited request old).request + 1 ≤ wait_left false request
waits_less Low old short idle = omega arith
waits_less (High left) old short idle = let some = eqb-false (left - 1) 0 idle in omega arith

looks_less : (line : Bool) (old : Holds) → line ≡ true → IsShort (looked line old).request → is_due (looked line old).request ≡ false
    → wait_left false (looked line old).request + 1 ≤ wait_left false old.request
looks_less true old up short idle = waits_less old.request old short idle
looks_less false old up short idle = absurd (false≢true up)

wait_most : (request : DmaRequest) → IsShort request → wait_left false request ≤ 257
wait_most Low short = omega arith
wait_most (High left) short = omega arith

wait_some : (request : DmaRequest) → 1 ≤ wait_left false request
wait_some Low = omega arith
wait_some (High left) = omega arith

-- ---- the phase

-- a controller that executes nothing stays so
idle_told : (phase : Phase) → is_executing phase ≡ false → phase_told phase ≡ phase
idle_told (Execute execution) idle = absurd (false≢true (sym idle))
idle_told _ idle = refl

dealt_idle : (chips new : Chips) → Dealt chips new → is_executing chips.controller.phase ≡ false → new.controller.phase ≡ chips.controller.phase
dealt_idle chips new (Waits why) idle = refl
dealt_idle chips new Moves idle = up_to (λ c. c.controller.phase ≡ chips.controller.phase)
    (by_bytes (λ fdc. fdc.phase ≡ chips.controller.phase) (λ fdc is. ap phase_told is ∙ idle_told chips.controller.phase idle) (λ fdc is. is) (λ byte fdc is. is)).one 16 (looked_at chips) refl

-- a READ DATA stays at its stage
told_none : (b : Bool) (fifo : Fifo) → b ≡ true → (fifo_told b fifo).bytes ≡ []
told_none true fifo is = refl
told_none false fifo is = absurd (false≢true is)

told_at : (steps : ℕ) (stage : ReadStage) (last : Bool) (fdc : Fdc) → IsReadingAt steps stage fdc → IsReadingAt steps stage (told_if last fdc)
told_at steps stage true fdc was = record {
  head_drive = was.head_drive;
  reading = record was.reading { counted = true };
  phase = ap phase_told was.phase;
  drained = λ _. told_none (is_reading fdc.phase) fdc.fifo (ap is_reading was.phase);
}
told_at steps stage false fdc was = was

moved_at : (steps : ℕ) (stage : ReadStage) (chips : Chips) → IsReadingAt steps stage chips.controller → IsReadingAt steps stage (moved chips).controller
unfolding moved
moved_at steps stage chips was = subst (λ b. IsReadingAt steps stage (if b then moved_to_memory chips else moved_from_memory chips).controller) (sym (ap is_reading was.phase))
    (told_at steps stage (chips.channel.count == 0) (taken_out chips.controller)
    (record { head_drive = was.head_drive; reading = was.reading; phase = was.phase; drained = λ counted. ap (drop 1) (was.drained counted) }))

-- ---- the line

-- a reading whose field is over asks while it has bytes
asks_some : (none asking over worth : Bool) → none ≡ false → over ≡ true → (not none && (asking || over || worth)) ≡ true
asks_some none true over worth is ended = rw is refl
asks_some none false over worth is ended = rw (is, ended) refl

asks_over : (phase : Phase) (asking : Bool) (fifo : Fifo) → lingers phase ≡ true → (length fifo.bytes == 0) ≡ false → phase_asks phase asking fifo ≡ true
asks_over (Execute execution) asking fifo over some = in_task execution.task over
  where
    in_task : (task : Task) → task_lingers task ≡ true → task_asks task asking fifo ≡ true
    in_task (Read reading) over = asks_some (length fifo.bytes == 0) asking (is_over reading.stage) (nat_le (worth_fetching fifo) (length fifo.bytes)) some over
    in_task _ over = absurd (false≢true over)
asks_over _ asking fifo over some = absurd (false≢true over)

pub asks_up : (fdc : Fdc) → is_gated fdc ≡ true → IsRuled fdc → lingers fdc.phase ≡ true → (length fdc.fifo.bytes == 0) ≡ false → asks fdc ≡ true
asks_up fdc gated ruled over some = and_from (is_gated fdc) fdc.asking gated (ruled.rule ∙ asks_over fdc.phase fdc.asking fdc.fifo over some)

-- ---- after the word time

pub record IsBehind (words steps : ℕ) (chips : Chips) : Type 0 where
  pub stage : ReadStage
  pub at : IsReadingAt (steps + 1) stage chips.controller
  pub ruled : IsRuled chips.controller
  pub short : IsShort (looked_at chips).holding.request
  pub some : is_over stage ≡ true → (length chips.controller.fifo.bytes == 0) ≡ false
  pub few : is_over stage ≡ true → (steps + wait_left false chips.holding.request ≤ most_steps_of words) ⊎ (steps ≤ 2 * words)

room_most : (on : Bool) → room_of on ≤ 16
room_most true = omega arith
room_most false = omega arith

module _ (words steps : ℕ) (stage : ReadStage) (new : Chips) (at : IsReadingAt steps stage new.controller) (ruled : IsRuled new.controller) (gated : is_gated new.controller ≡ true)
    (granting : phase_counted new.controller.phase ≡ false → grants new.channel ≡ true) where
  at_soon : IsShort new.holding.request → (is_over stage ≡ true → steps + wait_left (length new.controller.fifo.bytes == 0) new.holding.request ≤ most_steps_of words)
      → IsSoonOver words new
  at_soon short few = record {
    gated = gated;
    short = short;
    granted = λ _. record {
      ruled = ruled;
      drained = λ counted. at.drained (sym (ap phase_counted at.phase) ∙ counted);
      few = λ over. subst (λ n. n + wait_left (length new.controller.fifo.bytes == 0) new.holding.request ≤ most_steps_of words) (sym (ap steps_taken at.phase)) (few (sym (ap lingers at.phase) ∙ over));
    };
    no_late = ap is_late at.phase;
  }

  -- while bytes wait the line is up, and the channel grants
  can : is_over stage ≡ true → (length new.controller.fifo.bytes == 0) ≡ false → (asks new.controller ≡ true) × (grants new.channel ≡ true)
  can over some = (
    asks_up new.controller gated ruled (ap lingers at.phase ∙ over) some,
    granting (false_from_ne_true (phase_counted new.controller.phase) (λ counted. false≢true (sym some ∙ ap (λ bytes. length bytes == 0) (at.drained (sym (ap phase_counted at.phase) ∙ counted))))),
  )

waits_soon : (words steps : ℕ) (chips : Chips) → IsBehind words steps chips → (is_due (looked_at chips).holding.request ≡ false) ⊎ (grants chips.channel ≡ false)
    → is_gated chips.controller ≡ true
    → (phase_counted chips.controller.phase ≡ false → grants chips.channel ≡ true) → IsSoonOver words (looked_at chips)
waits_soon words steps chips is why gated granting = at_soon words (steps + 1) is.stage (looked_at chips) is.at is.ruled gated granting is.short (λ over.
    let (up, grant) = can words (steps + 1) is.stage (looked_at chips) is.at is.ruled gated granting over (is.some over) in
    let idle : is_due (looked_at chips).holding.request ≡ false = elim why [ inl idle ↦ idle | inr masked ↦ absurd (false≢true (sym masked ∙ grant)) ] in
    subst (λ none. steps + 1 + wait_left none (looked_at chips).holding.request ≤ most_steps_of words) (sym (is.some over))
    (by_few (wait_left false chips.holding.request) (wait_left false (looked_at chips).holding.request) (looks_less (asks chips.controller) chips.holding up is.short idle)
    (wait_most (looked_at chips).holding.request is.short) (is.few over)))
  where
    by_few : (before now : ℕ) → now + 1 ≤ before → now ≤ 257 → (steps + before ≤ most_steps_of words) ⊎ (steps ≤ 2 * words) → steps + 1 + now ≤ most_steps_of words
    by_few before now less most few = elim few [ inl soon ↦ omega arith | inr heard ↦ omega arith ]

-- a request that is granted takes all bytes
moves_soon : (words steps : ℕ) (chips : Chips) → IsBehind words steps chips → is_gated (moved_up_to 16 (looked_at chips)).controller ≡ true
    → IsShort (shown_again (moved_up_to 16 (looked_at chips))).holding.request
    → (phase_counted (moved_up_to 16 (looked_at chips)).controller.phase ≡ false → grants (moved_up_to 16 (looked_at chips)).channel ≡ true)
    → IsSoonOver words (shown_again (moved_up_to 16 (looked_at chips)))
moves_soon words steps chips is gated short granting =
    let left = left_reading chips.controller.phase chips.controller.fifo (ap is_reading is.at.phase) in
    let room = is.ruled.room in
    let most = room_most chips.controller.fifo.on in
    let falls = served 16 (looked_at chips) is.ruled (omega arith) in
    let at = up_to (λ c. IsReadingAt (steps + 1) is.stage c.controller) (moved_at (steps + 1) is.stage) 16 (looked_at chips) is.at in
    at_soon words (steps + 1) is.stage new at falls.ruled gated granting short
    (λ over. by_none over falls.falls (can words (steps + 1) is.stage new at falls.ruled gated granting over) (length new.controller.fifo.bytes == 0) refl)
  where
    new : Chips
    new = shown_again (moved_up_to 16 (looked_at chips))

    by_none : is_over is.stage ≡ true → can_move (moved_up_to 16 (looked_at chips)) ≡ false
        → ((length new.controller.fifo.bytes == 0) ≡ false → (asks new.controller ≡ true) × (grants new.channel ≡ true))
        → (none : Bool) → (length new.controller.fifo.bytes == 0) ≡ none → steps + 1 + wait_left none new.holding.request ≤ most_steps_of words
    by_none over falls can true is_none = elim (is.few over) [ inl soon ↦ (let some = wait_some chips.holding.request in omega arith) | inr heard ↦ omega arith ]
    by_none over falls can false some = let (up, grant) = can some in absurd (false≢true (sym falls ∙ and_from (asks new.controller) (grants new.channel) up grant))

pub goes_soon : (words steps : ℕ) (chips new : Chips) → Dealt chips new → IsBehind words steps chips → is_gated new.controller ≡ true
    → (phase_counted new.controller.phase ≡ false → grants new.channel ≡ true) → IsSoonOver words new
goes_soon words steps chips new (Waits why) is gated granting = waits_soon words steps chips is why gated granting
goes_soon words steps chips new Moves is gated granting = moves_soon words steps chips is gated (dealt_holding (λ h. IsShort h.request) request_short chips new Moves is.short) granting

pub ends_soon : (words : ℕ) (chips new : Chips) → Dealt chips new → HasEnded chips.controller → IsShort (looked_at chips).holding.request → is_gated new.controller ≡ true
    → IsSoonOver words new
ends_soon words chips new deals ended short gated =
    let same = dealt_idle chips new deals ended.idle in
    record {
      gated = gated;
      short = dealt_holding (λ h. IsShort h.request) request_short chips new deals short;
      granted = λ busy. absurd (false≢true (sym (ap is_executing same ∙ ended.idle) ∙ busy));
      no_late = ap is_late same ∙ ended.calm;
    }
