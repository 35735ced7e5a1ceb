-- Device steps that change no line.
use Rattle.std.proofs.Common.{◌≡◌, inl, inr, ℕ, zero, suc, ◌-◌, Bool, true, false, Option, Some, None, is_some, refl, sym, ap, subst, ◌∙◌}
use Rattle.fdc_chip.proofs.Common.{true≢false, Front, KeepsFront, asks_at, asks_outside, interrupts_at, interrupts_outside, RunsFront, pending_outside, recalibrated_outside, sensed_outside, ChipState, KeepsChip, KeepsRest, asks_chip, interrupts_chip, passes_at, passes_by_channel, passes_by_port, shows_behind, with_front, drained, drained_one, is_told, kept, EndsAt, GoesOnIf, Paces, PulsesIf, is_due, is_over, stepped, IsQuietFor, IsSettled, IsStill, is_settled, rests_at, tells_alone, step_words, Follows, HasLinesChip, StepsChip, PacedSeek, ChipStage, Ready, Held, Busy, Telling}
use Rattle.std.specs.Prelude.{◌&&◌, ◌||◌, if◌then◌else◌}
use Rattle.fdc_sequencer.specs.Moves.{RunsFrontWith}
use Rattle.fdc_chip.specs.Doing.{drained_by}
use Rattle.fdc_chip.specs.Interrupts.{with_result}
use Rattle.fdc_chip.specs.Quiet.{StepsBy}
use Rattle.fdc_chip.specs.Steps.{RunsChipWith}
use Rattle.fdc_chip.proofs.Dues.{resting_asks, resting_interrupts}

-- ---- what is done after a step

-- if no pulses are to come, nothing is done for them
paced_none : (pace : Option PacedSeek) (old new : ChipState) → pace ≡ None → Paces pace old new → new ≡ old
paced_none None old new unpaced paces = paces
paced_none (Some pace) old new unpaced paces = absurd (true≢false (ap is_some unpaced))

-- nothing is done after the step, if there is no result to be taken over
follows_none : (stage : ChipStage) (old new : ChipState) → rests_at stage ≡ true → old.pace ≡ None → interrupts_outside old.front ≡ false → Follows stage old new → new ≡ old
follows_none Ready old new rests unpaced down (paced, paces, is) =
    is ∙ (ap (λ (c : ChipState). if interrupts_outside c.front then drained c else c) (paced_none old.pace old paced unpaced paces)
    ∙ ap (λ b. if b then drained old else old) down)
follows_none (Telling answer read) old new rests unpaced down paces = paced_none old.pace old new unpaced paces
follows_none _ old new rests unpaced down follows = absurd (true≢false (sym rests))

paces_still : (chip : ChipState) → chip.pace ≡ None → Paces chip.pace chip chip
paces_still chip unpaced = subst (λ (pace : Option PacedSeek). Paces pace chip chip) (sym unpaced) refl

follows_still : (stage : ChipStage) (chip : ChipState) → rests_at stage ≡ true → chip.pace ≡ None → interrupts_outside chip.front ≡ false → Follows stage chip chip
follows_still Ready chip rests unpaced down = (chip, paces_still chip unpaced, sym (ap (λ b. if b then drained chip else chip) down))
follows_still (Telling answer read) chip rests unpaced down = paces_still chip unpaced
follows_still _ chip rests unpaced down = absurd (true≢false (sym rests))

-- ---- the lines

-- INT of a chip whose inner controller has this request and this INT
abbrev interrupts_by : ChipState → Bool → Bool → Bool
interrupts_by chip asks shows = chip.gated && (if passes_by_port chip then asks else (chip.interrupts.line || shows))

same_shows : (stage : ChipStage) (one other : Front) → interrupts_outside one ≡ interrupts_outside other → shows_behind stage one ≡ shows_behind stage other
same_shows Ready one other same = same
same_shows _ one other same = refl

pub same_lines : (chip : ChipState) (front : Front) → asks_outside front ≡ asks_outside chip.front → interrupts_outside front ≡ interrupts_outside chip.front
    → HasLinesChip (interrupts_chip chip) (asks_chip chip) (with_front front chip)
same_lines chip front asks shows = (
  ap (λ b. interrupts_by chip b (shows_behind chip.stage front)) asks
      ∙ ap (λ b. interrupts_by chip (asks_outside chip.front) b) (same_shows chip.stage front chip.front shows),
  ap (λ b. passes_by_channel chip && b) asks,
)

kept_interrupts : (one other : Front) → KeepsFront one other → interrupts_outside other ≡ interrupts_outside one
kept_interrupts one other keeps =
    ap (λ stage. interrupts_at stage other.adapter.controller) keeps.stage ∙ ap (λ fdc. interrupts_at one.stage fdc) keeps.controller

kept_asks : (one other : Front) → KeepsFront one other → asks_outside other ≡ asks_outside one
kept_asks one other keeps =
    ap (λ stage. asks_at stage other.adapter.controller) keeps.stage ∙ ap (λ fdc. asks_at one.stage fdc) keeps.controller

kept_lines : (chip new : ChipState) → KeepsChip chip new → HasLinesChip (interrupts_chip chip) (asks_chip chip) new
kept_lines chip new keeps =
    subst (HasLinesChip (interrupts_chip chip) (asks_chip chip)) (sym keeps.rest)
    (same_lines chip new.front (kept_asks chip.front new.front keeps.front) (kept_interrupts chip.front new.front keeps.front))

-- ---- many device steps

-- what each device step keeps is kept by this many
lasts : (P : ChipState → Type 0) (n : ℕ) (old new : ChipState) → ((one next : ChipState) → P one → StepsChip one next → P next) → P old → StepsBy n old new → P new
unfolding StepsBy
lasts P zero old new goes was is = subst P (sym is) was
lasts P (suc n) old new goes was steps = goes steps.0 new (lasts P n old steps.0 goes was steps.1) steps.2

-- ---- nothing runs

keeps_itself : (chip : ChipState) → KeepsChip chip chip
keeps_itself chip = record {
  front = record { controller = refl; stage = refl };
  rest = refl;
}

keeps_with : (chip new : ChipState) (between : Front) → KeepsFront chip.front between → new ≡ with_front between chip → KeepsChip chip new
keeps_with chip new between keeps all = record {
  front = subst (λ (c : ChipState). KeepsFront chip.front c.front) (sym all) keeps;
  rest = all ∙ ap (λ (c : ChipState). with_front c.front chip) (sym all);
}

-- a device step of a chip that is still changes nothing but the drives
still_on : (chip old new : ChipState) → IsStill chip → KeepsChip chip old → StepsChip old new → KeepsChip chip new
still_on chip old new still keeps step =
    let front = still.stands old.front step.between keeps.front step.steps in
    let rests = ap (λ (c : ChipState). rests_at c.stage) keeps.rest ∙ still.idle.rests in
    let unpaced = ap (λ (c : ChipState). c.pace) keeps.rest ∙ still.idle.unpaced in
    let down = kept_interrupts chip.front step.between front ∙ still.down in
    let is = follows_none old.stage (with_front step.between old) new rests unpaced down step.follows in
    keeps_with chip new step.between front (is ∙ ap (λ (c : ChipState). with_front step.between c) keeps.rest)

pub still_quiet : (most : ℕ) (chip : ChipState) → IsStill chip → IsQuietFor most chip
still_quiet most chip still n new within steps =
    kept_lines chip new (lasts (λ c. KeepsChip chip c) n chip new (λ one next keeps step. still_on chip one next still keeps step) (keeps_itself chip) steps)

-- the device steps that the inner controller makes at once are a run of the chip
still_runs : (chip : ChipState) (int drq : Bool) (n : ℕ) (front : Front) → IsStill chip → RunsFrontWith int drq n chip.front front
    → KeepsFront chip.front front × RunsChipWith (interrupts_chip chip) (asks_chip chip) n chip (with_front front chip)
unfolding RunsFrontWith RunsChipWith
still_runs chip int drq zero front still runs = (
  subst (λ (f : Front). KeepsFront chip.front f) (sym runs) (keeps_itself chip).front,
  ap (λ (f : Front). with_front f chip) runs,
)
still_runs chip int drq (suc n) front still runs =
    let before = still_runs chip int drq n runs.0 still runs.1 in
    let after = still.stands runs.0 front before.0 runs.3 in
    let follows = follows_still chip.stage (with_front front chip) still.idle.rests still.idle.unpaced (kept_interrupts chip.front front after ∙ still.down) in (
      after,
      (
        with_front runs.0 chip,
        before.1,
        kept_lines chip (with_front runs.0 chip) (keeps_with chip (with_front runs.0 chip) runs.0 before.0 refl),
        record { between = front; steps = runs.3; follows = follows },
      ),
    )

pub still_runs_on : (most made : ℕ) (chip : ChipState) (front : Front) → IsStill chip → RunsFront most chip.front made front
    → RunsChipWith (interrupts_chip chip) (asks_chip chip) made chip (with_front front chip)
still_runs_on most made chip front still runs = (still_runs chip (interrupts_outside chip.front) (asks_outside chip.front) made front still runs.runs).1

-- ---- INT can't change

-- no other command is under way, DOR's gate is as it was, and INT is up if it was
record IsAlike (one other : ChipState) : Type 0 where
  stage : other.stage ≡ one.stage
  gate : other.gated ≡ one.gated
  up : one.interrupts.line ≡ true → other.interrupts.line ≡ true

alike_both : (one other last : ChipState) → IsAlike one other → IsAlike other last → IsAlike one last
alike_both one other last first second = record { stage = second.stage ∙ first.stage; gate = second.gate ∙ first.gate; up = λ was. second.up (first.up was) }

alike_as : (one set other : ChipState) → IsAlike one set → other ≡ set → IsAlike one other
alike_as one set other alike is = subst (λ (c : ChipState). IsAlike one c) (sym is) alike

alike_itself : (chip : ChipState) → IsAlike chip chip
alike_itself chip = record { stage = refl; gate = refl; up = λ was. was }

kept_alike : (found : Option (ℕ × ℕ)) (old : ChipState) → IsAlike old (kept found old)
kept_alike None old = alike_itself old
kept_alike (Some (status, cylinder)) old = told_alike (is_told old.pace status)
  where
    told_alike : (b : Bool) → IsAlike old (if b then record old { interrupts = with_result status cylinder old.interrupts } else old)
    told_alike true = record { stage = refl; gate = refl; up = λ was. refl }
    told_alike false = alike_itself old

one_alike : (old : ChipState) → IsAlike old (drained_one old)
one_alike old =
    alike_both old (with_front (sensed_outside old.front) old) (drained_one old) (record { stage = refl; gate = refl; up = λ was. was })
    (kept_alike (pending_outside old.front) (with_front (sensed_outside old.front) old))

drained_alike : (n : ℕ) (old : ChipState) → IsAlike old (drained_by n old)
unfolding drained_by
drained_alike zero old = alike_itself old
drained_alike (suc n) old = alike_both old (drained_by n old) (drained_one (drained_by n old)) (drained_alike n old) (one_alike (drained_by n old))

shown_alike : (b : Bool) (old : ChipState) → IsAlike old (if b then drained old else old)
shown_alike true old = drained_alike 4 old
shown_alike false old = alike_itself old

-- pulses that come in the time that SPECIFY sets
sent_alike : (old new : ChipState) (pace : Option PacedSeek) → new ≡ with_front new.front (record old { pace = pace }) → IsAlike old new
sent_alike old new pace rest = alike_as old (with_front new.front (record old { pace = pace })) new (record { stage = refl; gate = refl; up = λ was. was }) rest

ends_alike : (goal : Option ℕ) (pace : PacedSeek) (old new : ChipState) → EndsAt goal pace (record old { pace = None }) new → IsAlike old new
ends_alike (Some target) pace old new (sends, rest) = sent_alike old new None rest
ends_alike None pace old new is =
    alike_as old (with_front (recalibrated_outside pace.unit pace.left old.front) (record old { pace = None })) new (record { stage = refl; gate = refl; up = λ was. was }) is

pulses_alike : (over : Bool) (pace : PacedSeek) (old new : ChipState) → PulsesIf over pace old new → IsAlike old new
pulses_alike true pace old new ends = ends_alike pace.goal pace old new ends
pulses_alike false pace old new (sends, rest) = sent_alike old new (Some (stepped (step_words old.settings) pace)) rest

goes_alike : (due : Bool) (pace : PacedSeek) (old new : ChipState) → GoesOnIf due pace old new → IsAlike old new
goes_alike true pace old new pulses = pulses_alike (is_over pace) pace old new pulses
goes_alike false pace old new is =
    alike_as old (record old { pace = Some (record pace { wait = pace.wait - 1 }) }) new (record { stage = refl; gate = refl; up = λ was. was }) is

paces_alike : (pace : Option PacedSeek) (old new : ChipState) → Paces pace old new → IsAlike old new
paces_alike None old new is = alike_as old old new (alike_itself old) is
paces_alike (Some pace) old new goes = alike_both old (drained old) new (drained_alike 4 old) (goes_alike (is_due pace (drained old)) pace (drained old) new goes)

follows_alike : (stage : ChipStage) (old new : ChipState) → rests_at stage ≡ true → Follows stage old new → IsAlike old new
follows_alike Ready old new rests (paced, paces, is) =
    alike_both old paced new (paces_alike old.pace old paced paces) (alike_as paced _ new (shown_alike (interrupts_outside paced.front) paced) is)
follows_alike (Telling answer read) old new rests paces = paces_alike old.pace old new paces
follows_alike _ old new rests follows = absurd (true≢false (sym rests))

settled_alike : (old new : ChipState) → IsSettled old → IsAlike old new → IsSettled new
settled_alike old new settled alike = record {
  rests = ap rests_at alike.stage ∙ settled.rests;
  fixed = elim settled.fixed [ inl shut ↦ inl (alike.gate ∙ shut) | inr up ↦ inr (alike.up up) ];
}

-- INT of a chip that is settled, and the gate
settled_on : (first old new : ChipState) → IsSettled old × (old.gated ≡ first.gated) → StepsChip old new → IsSettled new × (new.gated ≡ first.gated)
settled_on first old new (settled, gate) step =
    let alike = follows_alike old.stage (with_front step.between old) new settled.rests step.follows in
    let now : IsAlike old new = record { stage = alike.stage; gate = alike.gate; up = alike.up } in
    (settled_alike old new settled now, alike.gate ∙ gate)

rests_none : (stage : ChipStage) → rests_at stage ≡ true → passes_at stage ≡ false
rests_none Held rests = absurd (true≢false (sym rests))
rests_none (Busy task) rests = absurd (true≢false (sym rests))
rests_none _ rests = refl

settled_int : (chip : ChipState) → IsSettled chip → interrupts_chip chip ≡ chip.gated
settled_int chip settled =
    let is = resting_interrupts chip (rests_none chip.stage settled.rests) in
    elim settled.fixed [
      | inl shut ↦ is ∙ (ap (λ b. b && (chip.interrupts.line || shows_behind chip.stage chip.front)) shut ∙ sym shut)
      | inr up ↦ is ∙ (ap (λ b. chip.gated && (b || shows_behind chip.stage chip.front)) up ∙ and_itself chip.gated)
    ]
  where
    and_itself : (b : Bool) → (b && true) ≡ b
    and_itself true = refl
    and_itself false = refl

settled_asks : (chip : ChipState) → IsSettled chip → asks_chip chip ≡ false
settled_asks chip settled = resting_asks chip (rests_none chip.stage settled.rests)

pub settled_of : (chip : ChipState) → is_settled chip ≡ true → IsSettled chip
settled_of chip is = by_stage (rests_at chip.stage) refl is
  where
    by_gate : (gate : Bool) → rests_at chip.stage ≡ true → chip.gated ≡ gate → (if gate then chip.interrupts.line else true) ≡ true → IsSettled chip
    by_gate true rests gate up = record { rests = rests; fixed = inr up }
    by_gate false rests gate up = record { rests = rests; fixed = inl gate }

    by_stage : (b : Bool) → rests_at chip.stage ≡ b → (if b then (if chip.gated then chip.interrupts.line else true) else false) ≡ true → IsSettled chip
    by_stage true rests is = by_gate chip.gated rests refl is
    by_stage false rests is = absurd (true≢false (sym is))

pub settled_quiet : (most : ℕ) (chip : ChipState) → IsSettled chip → IsQuietFor most chip
settled_quiet most chip settled n new within steps =
    let (now, gate) = lasts (λ c. IsSettled c × (c.gated ≡ chip.gated)) n chip new (λ one next was step. settled_on chip one next was step) (settled, refl) steps in
    (settled_int new now ∙ (gate ∙ sym (settled_int chip settled)), settled_asks new now ∙ sym (settled_asks chip settled))

-- ---- the host reads an answer, and no pulses are to come

tells_stage : (stage : ChipStage) (pace : Option PacedSeek) → tells_alone stage pace ≡ true → (passes_at stage ≡ false) × (pace ≡ None)
tells_stage (Telling answer read) None tells = (refl, refl)
tells_stage _ _ tells = absurd (true≢false (sym tells))

-- a device step changes nothing but the inner controller
tells_same : (stage : ChipStage) (pace : Option PacedSeek) (old new : ChipState) → tells_alone stage pace ≡ true → old.pace ≡ pace → Follows stage old new → new ≡ old
tells_same (Telling answer read) None old new tells unpaced paces = paced_none old.pace old new unpaced paces
tells_same (Telling answer read) (Some pace) old new tells unpaced paces = absurd (true≢false (sym tells))
tells_same Ready pace old new tells unpaced follows = absurd (true≢false (sym tells))
tells_same Held pace old new tells unpaced follows = absurd (true≢false (sym tells))
tells_same (Busy task) pace old new tells unpaced follows = absurd (true≢false (sym tells))

tells_on : (first old new : ChipState) → tells_alone first.stage first.pace ≡ true → KeepsRest first old → StepsChip old new → KeepsRest first new
tells_on first old new tells was step =
    let stage = ap (λ (c : ChipState). c.stage) was in
    let pace = ap (λ (c : ChipState). c.pace) was in
    let is = tells_same first.stage first.pace (with_front step.between old) new tells pace (subst (λ s. Follows s (with_front step.between old) new) stage step.follows) in
    is ∙ (ap (λ (c : ChipState). with_front step.between c) was ∙ ap (λ (c : ChipState). with_front c.front first) (sym is))

telling_shows : (stage : ChipStage) (pace : Option PacedSeek) (one other : Front) → tells_alone stage pace ≡ true → shows_behind stage one ≡ shows_behind stage other
telling_shows (Telling answer read) pace one other tells = refl
telling_shows _ pace one other tells = absurd (true≢false (sym tells))

telling_lines : (chip : ChipState) (front : Front) → tells_alone chip.stage chip.pace ≡ true → HasLinesChip (interrupts_chip chip) (asks_chip chip) (with_front front chip)
telling_lines chip front tells =
    let none = (tells_stage chip.stage chip.pace tells).0 in (
      resting_interrupts (with_front front chip) none
          ∙ (ap (λ b. chip.gated && (chip.interrupts.line || b)) (telling_shows chip.stage chip.pace front chip.front tells) ∙ sym (resting_interrupts chip none)),
      resting_asks (with_front front chip) none ∙ sym (resting_asks chip none),
    )

pub telling_quiet : (most : ℕ) (chip : ChipState) → tells_alone chip.stage chip.pace ≡ true → IsQuietFor most chip
telling_quiet most chip tells n new within steps =
    let now = lasts (λ c. KeepsRest chip c) n chip new (λ one next was step. tells_on chip one next tells was step) refl steps in
    subst (HasLinesChip (interrupts_chip chip) (asks_chip chip)) (sym now) (telling_lines chip new.front tells)
