-- A command of several sectors that the sequencer serves: it begins, goes on through device steps, and its results are
-- given.
use Rattle.std.proofs.Common.{◌≡◌, ◌⊎◌, inl, inr, Bool, true, false, if◌then◌else◌, Option, Some, None, [], refl, sym, ◌∙◌, ap, subst, ◌<◌, not, ◌&&◌, ◌==◌}
use Rattle.laws_chip.proofs.Common.{false≢true, IsSizeCode, has_ended_seek, seek_bits, without_ended, Ending, Done, NoMark, NoSector, NoField, BadCheck, Overrun, NoCount, Protected, Late, Results, Taking, is_held, ending_told, given_up, given_up_if, mark_of, without_seek, Fdc, AdapterState, StepsAdapter, BeginsSector, Front, GivesTransfer, results_outside, results_taken, with_controller, EndsIf, EndsSector, FollowsStep, MovesOn, SeeksOn, StepsFront, goes_on, has_met_other, is_unwanted, judged_if, passed_over_if, results_behind, results_failed, next_of, MovingSector, FrontStage, Seeking, Moving, Telling, Transfer, is_under_way, History, IsFree, ServesAt, history_stepped, nothing_moved, sent_of, is_size, ServesBehind, WaitsForHeads, front_judged as judged, and_parts, eqb-true, is_gated, ChipState, passes, passes_at, with_front, is_format, Order, ChipStage, Ready, Busy, ChipTask, IsBusyWith, IsSound, IsSoundAt, RestsBehind, SentTask as Sent}
use Rattle.laws_chip.proofs.Free.{given_free, next_size, sought_free, step_free}
use Rattle.laws_chip.proofs.Served.{steps_serve}
use Rattle.laws_chip.proofs.Shown.{tells_results}
use Rattle.laws_chip.proofs.Rests.{base_on, adapter_base, adapter_takes}
use Rattle.laws_chip.proofs.UnderWay.{not_through, Stands, IsBase, IsCarried, first_begins, sector_carried, clash, either_way, base_gated, base_held}
use Rattle.laws_chip.proofs.CommandsBegun.{taken_is}

-- ---- it begins

pub first_serves : (first : Transfer) (start new : Front) → Stands start → is_size first.key.n ≡ true → GivesTransfer first start new → ServesBehind new × IsBase start.adapter.controller new.adapter.controller
first_serves first start new stands size gives =
    let (begins, carried, starts) = first_begins first start new stands size gives in (
      record { under_way = carried.under_way; first = first; history = nothing_moved false; serves = begins.serves; waits = carried.waits },
      carried.base,
    )

-- ---- a device step

-- the results of the command are given, and the controller takes commands
pub record TellsBehind (front : Front) : Type 0 where
  pub results : Results
  pub told : front.stage ≡ Telling results
  pub takes : front.adapter.controller.phase ≡ Taking
  pub rests : seek_bits front.adapter.controller.seeks ≡ 0

-- the command goes on with whatever is under way, or its results are given
data Goes (old : Fdc) (new : Front) : Type 0 where
  on : is_under_way new.stage ≡ true → WaitsForHeads new.stage new.adapter.controller.phase → IsBase old new.adapter.controller → Goes old new
  over : TellsBehind new → IsBase old new.adapter.controller → Goes old new

-- the command is still served, or its results are given
goes_served : (old new : Front) (step : StepsFront old new) → ServesBehind old → Goes old.adapter.controller new → (ServesBehind new ⊎ TellsBehind new) × IsBase old.adapter.controller new.adapter.controller
goes_served old new step was (over tells base) = (inr tells, base)
goes_served old new step was (on under waits base) = elim (steps_serve old new step was.first was.history was.serves) [
  | inl goes ↦ (inl (record { under_way = under; first = was.first; history = history_stepped old.stage goes.time step.between.controller was.history; serves = goes.goes.2; waits = waits }), base)
  | inr refuses ↦ absurd (not_through new under refuses.refused.through)
]

goes_carried : (old between : Fdc) (front new : Front) → IsBase old between → front.adapter.controller ≡ between → IsCarried front new → Goes old new
goes_carried old between front new base is carried =
    on carried.under_way carried.waits (base_on old between new.adapter.controller base (subst (λ fdc. IsBase fdc new.adapter.controller) is carried.base))

-- ---- the heads seek first

sought_base : (old between : Fdc) → IsBase old between → IsBase old (without_seek between)
sought_base old between base = by_end (has_ended_seek between.seeks)
  where
    by_end : (b : Bool) → IsBase old (if b then record between { seeks = without_ended between.seeks; interrupt = false } else between)
    by_end true = record { dor = base.dor; non_dma = base.non_dma; command = base.command }
    by_end false = base

seeks_go : (b : Bool) (at : Transfer) (counted : Bool) (old : Fdc) (front new : Front) → front.stage ≡ Seeking at counted → front.adapter.controller.phase ≡ Taking → has_ended_seek front.adapter.controller.seeks ≡ b
    → IsSizeCode at.key.n → front.adapter.controller.non_dma ≡ false → IsBase old front.adapter.controller → SeeksOn b at counted front new → Goes old new
seeks_go true at counted old front new stage_is takes ended sized clear base begins =
    let fdc = front.adapter.controller in
    let sought : Front = record front { adapter = with_controller (without_seek fdc) front.adapter } in
    goes_carried old (without_seek fdc) sought new (sought_base old fdc base) refl (sector_carried at counted false sought new sized (sought_free fdc ended clear) begins)
seeks_go false at counted old front new stage_is takes ended sized clear base is =
    let stage = ap (λ (f : Front). f.stage) is ∙ stage_is in
    on (ap is_under_way stage) (subst (λ s. WaitsForHeads s new.adapter.controller.phase) (sym stage) (ap (λ (f : Front). f.adapter.controller.phase) is ∙ takes))
    (subst (λ (f : Front). IsBase old f.adapter.controller) (sym is) base)

-- ---- a sector is moved

-- another sector begins, or results are given
next_or : (mark : Option Bool) (ending : Ending) (moving : MovingSector) (old new : Front) → EndsSector mark moving ending old new
    → ((results : Results) × (new ≡ record old { stage = Telling results })) ⊎ ((met : Bool) × BeginsSector (next_of moving.transfer) false met old new)
next_or mark (Done marked) moving old new ends = by_next (goes_on moving marked) ends
  where
    by_next : (b : Bool) → EndsIf b moving marked old new → ((results : Results) × (new ≡ record old { stage = Telling results })) ⊎ ((met : Bool) × BeginsSector (next_of moving.transfer) false met old new)
    by_next true begins = inr (has_met_other moving marked, begins)
    by_next false is = inl (results_behind moving marked, is)
next_or mark NoMark moving old new is = inl (results_failed mark moving NoMark, is)
next_or mark NoSector moving old new is = inl (results_failed mark moving NoSector, is)
next_or mark NoField moving old new is = inl (results_failed mark moving NoField, is)
next_or mark BadCheck moving old new is = inl (results_failed mark moving BadCheck, is)
next_or mark Overrun moving old new is = inl (results_failed mark moving Overrun, is)
next_or mark NoCount moving old new is = inl (results_failed mark moving NoCount, is)
next_or mark Protected moving old new is = inl (results_failed mark moving Protected, is)
next_or mark Late moving old new is = inl (results_failed mark moving Late, is)

given_base : (ending : Option Ending) (old between : Fdc) → IsBase old between → IsBase old (given_up_if ending between)
given_base None old between base = base
given_base (Some ending) old between base = record { dor = base.dor; non_dma = base.non_dma; command = base.command }

passed_go : (b : Bool) (moving : MovingSector) (old : Fdc) (front new : Front) → front.stage ≡ Moving moving → IsBase old front.adapter.controller → new ≡ passed_over_if b moving front → Goes old new
passed_go true moving old front new stage_is base is =
    let stage : new.stage ≡ Moving (record moving { left = 0; passed_over = true; skipped = true }) = ap (λ (f : Front). f.stage) is in
    on (ap is_under_way stage) (subst (λ s. WaitsForHeads s new.adapter.controller.phase) (sym stage) tt)
    (subst (λ (f : Front). IsBase old f.adapter.controller) (sym is) (record { dor = base.dor; non_dma = base.non_dma; command = base.command }))
passed_go false moving old front new stage_is base is =
    let stage : new.stage ≡ Moving moving = ap (λ (f : Front). f.stage) is ∙ stage_is in
    on (ap is_under_way stage) (subst (λ s. WaitsForHeads s new.adapter.controller.phase) (sym stage) tt) (subst (λ (f : Front). IsBase old f.adapter.controller) (sym is) base)

moves_go : (mark : Option Bool) (ending : Option Ending) (moving : MovingSector) (old : Fdc) (front new : Front) → front.stage ≡ Moving moving → ending_told front.adapter.controller ≡ ending → IsSizeCode moving.transfer.key.n
    → IsFree front.adapter.controller → IsBase old front.adapter.controller → MovesOn mark (judged_if moving ending) moving front new → Goes old new
moves_go mark None moving old front new stage_is none sized free base is = passed_go (is_unwanted moving (mark_of front.adapter.controller)) moving old front new stage_is base is
moves_go mark (Some ending) moving old front new stage_is some sized free base ends =
    let fdc = front.adapter.controller in
    let given : Front = record front { adapter = with_controller (given_up fdc) front.adapter } in
    let after : IsBase old (given_up fdc) = given_base (ending_told fdc) old fdc base in
    let freed = given_free fdc free in
    elim (next_or mark (judged moving ending) moving given new ends) [
      | inr (met, begins) ↦ goes_carried old (given_up fdc) given new after refl
          (sector_carried (next_of moving.transfer) false met given new (subst IsSizeCode (sym (next_size moving.transfer)) sized) freed begins)
      | inl (results, is) ↦ over (record {
        results = results;
        told = ap (λ (f : Front). f.stage) is;
        takes = ap (λ (f : Front). f.adapter.controller.phase) is ∙ ap (λ found. (given_up_if found fdc).phase) some;
        rests = ap (λ (f : Front). seek_bits f.adapter.controller.seeks) is ∙ freed.rests;
      }) (subst (λ (f : Front). IsBase old f.adapter.controller) (sym is) after)
    ]

-- ---- all stages

step_goes : (stage : FrontStage) (first : Transfer) (history : History) (old : Front) (between : AdapterState) (new : Front) → old.stage ≡ stage → is_under_way stage ≡ true → IsSizeCode first.key.n
    → ServesAt stage first history old.adapter.controller → WaitsForHeads stage old.adapter.controller.phase → old.adapter.controller.command ≡ [] → old.adapter.controller.non_dma ≡ false
    → StepsAdapter old.adapter between → FollowsStep (mark_of old.adapter.controller) stage (record old { adapter = between }) new → Goes old.adapter.controller new
step_goes (Seeking at counted) first history old between new stage_is under sized (here, nothing) waits none clear steps follows =
    let base = adapter_base old.adapter between steps none in
    seeks_go (has_ended_seek between.controller.seeks) at counted old.adapter.controller (record old { adapter = between }) new stage_is (adapter_takes old.adapter between steps waits) refl
    (subst (λ (transfer : Transfer). IsSizeCode transfer.key.n) (sym here) sized) (base.non_dma ∙ clear) base follows
step_goes (Moving moving) first history old between new stage_is under sized (here, counts, carries) waits none clear steps follows =
    let free = step_free first.opcode.operation history.past (sent_of moving.transfer) old.adapter between steps carries.busy carries.moves carries.free in
    moves_go (mark_of old.adapter.controller) (ending_told between.controller) moving old.adapter.controller (record old { adapter = between }) new stage_is refl carries.accounts.sized free
    (adapter_base old.adapter between steps none) follows
step_goes _ first history old between new stage_is under sized now waits none clear steps follows = absurd (false≢true under)

pub serves_step : (old new : Front) → StepsFront old new → old.adapter.controller.command ≡ [] → old.adapter.controller.non_dma ≡ false → ServesBehind old
    → (ServesBehind new ⊎ TellsBehind new) × IsBase old.adapter.controller new.adapter.controller
serves_step old new step none clear was =
    goes_served old new step was (step_goes old.stage was.first was.history old step.between new refl was.under_way was.serves.sized was.serves.now was.waits none clear step.steps step.follows)

-- ---- its results are taken

pub tells_shown : (front : Front) (tells : TellsBehind front) → results_outside front ≡ Some tells.results
tells_shown front tells = tells_results front tells.results tells.told

pub tells_taken : (front : Front) → is_held front.adapter.controller ≡ false → front.adapter.controller.command ≡ [] → front.adapter.controller.non_dma ≡ false → TellsBehind front
    → Stands (results_taken front) × IsBase front.adapter.controller (results_taken front).adapter.controller
tells_taken front free none by_dma tells =
    subst (λ (f : Front). Stands f × IsBase front.adapter.controller f.adapter.controller) (sym (taken_is front tells.results tells.told)) (
      record { through = refl; takes = tells.takes; none = none; free = free; rests = tells.rests; by_dma = by_dma },
      record { dor = refl; non_dma = refl; command = none },
    )

-- ---- what makes a chip sound, from what the chip was

-- ---- stages

abbrev pub is_busy : ChipStage → Bool
is_busy (Busy task) = true
is_busy _ = false

abbrev pub is_ready : ChipStage → Bool
is_ready Ready = true
is_ready _ = false

pub not_ready : (stage : ChipStage) → is_ready stage ≡ false → stage ≡ Ready → ⊥
not_ready stage other is = false≢true (sym other ∙ ap is_ready is)

-- bytes pass only where something is executed
passing_at : (stage : ChipStage) → passes_at stage ≡ true → (task : ChipTask) × (stage ≡ Busy task)
passing_at (Busy task) passes = (task, refl)
passing_at _ passes = absurd (false≢true passes)

pub passing_of : (chip : ChipState) → passes chip ≡ true → (task : ChipTask) × (chip.stage ≡ Busy task)
passing_of chip is = passing_at chip.stage (and_parts (passes_at chip.stage) (not (is_format chip.order && (chip.keys == 0))) is).0

-- ---- ---- the inner controller at a stage

pub rests_at : (stage : ChipStage) (front : Front) → is_busy stage ≡ false → RestsBehind front → IsSoundAt stage front
rests_at (Busy task) front idle rests = absurd (false≢true (sym idle))
rests_at _ front idle rests = rests

pub at_rest : (stage : ChipStage) (front : Front) → is_busy stage ≡ false → IsSoundAt stage front → RestsBehind front
at_rest (Busy task) front idle now = absurd (false≢true (sym idle))
at_rest _ front idle now = now

-- it goes on as it was at each stage, if it goes on resting and executing
pub keep_sound : (stage : ChipStage) (old new : Front) → (RestsBehind old → RestsBehind new) → ((what : ChipTask) → IsBusyWith what old → IsBusyWith what new) → IsSoundAt stage old → IsSoundAt stage new
keep_sound (Busy what) old new rests busy now = busy what now
keep_sound _ old new rests busy now = rests now

pub busy_at : (chip : ChipState) (task : ChipTask) → chip.stage ≡ Busy task → IsSound chip → IsBusyWith task chip.front
busy_at chip task is sound = subst (λ stage. IsSoundAt stage chip.front) is sound.now

-- ---- a chip that isn't held in reset, and that has no byte of a command

pub record IsBasis (chip : ChipState) : Type 0 where
  pub by_dma : chip.front.adapter.controller.non_dma ≡ false
  pub whole : chip.front.adapter.controller.command ≡ []
  pub free : is_held chip.front.adapter.controller ≡ false
  pub none : chip.count ≡ 0
  pub gated : is_gated chip.front.adapter.controller ≡ true
  pub code : chip.order.code < 256

-- the chip is of this kind where something is under way
pub sound_basis : (chip : ChipState) → is_ready chip.stage ≡ false → IsSound chip → IsBasis chip
sound_basis chip other sound = let unheld : is_held chip.front.adapter.controller ≡ false = either_way (is_held chip.front.adapter.controller) (λ held. absurd (not_ready chip.stage other (sound.held held).0)) (λ free. free) in record {
  by_dma = sound.by_dma;
  whole = sound.whole;
  free = unheld;
  gated = sound.lets_out unheld;
  none = either_way (chip.count == 0) (λ none. eqb-true chip.count 0 none) (λ some. absurd (not_ready chip.stage other (sound.comes some)));
  code = sound.code;
}

-- the same chip with another front
pub basis_front : (front : Front) (old : ChipState) → IsBasis old → IsBase old.front.adapter.controller front.adapter.controller → IsBasis (with_front front old)
basis_front front old basis base = record {
  by_dma = base.non_dma ∙ basis.by_dma;
  whole = base.command;
  free = base_held old.front.adapter.controller front.adapter.controller base ∙ basis.free;
  gated = base_gated old.front.adapter.controller front.adapter.controller base ∙ basis.gated;
  none = basis.none;
  code = basis.code;
}

pub basis_same : (old new : ChipState) → IsBasis old → IsBase old.front.adapter.controller new.front.adapter.controller → new.count ≡ old.count → new.order ≡ old.order → IsBasis new
basis_same old new basis base count order = record {
  by_dma = base.non_dma ∙ basis.by_dma;
  whole = base.command;
  free = base_held old.front.adapter.controller new.front.adapter.controller base ∙ basis.free;
  gated = base_gated old.front.adapter.controller new.front.adapter.controller base ∙ basis.gated;
  none = count ∙ basis.none;
  code = subst (λ (o : Order). o.code < 256) (sym order) basis.code;
}

-- anything but the front, the count of bytes and the order may be another
pub basis_set : (old new : ChipState) → IsBasis old → IsBasis (record new { front = old.front; count = old.count; order = old.order })
basis_set old new basis = record { by_dma = basis.by_dma; whole = basis.whole; free = basis.free; none = basis.none; gated = basis.gated; code = basis.code }

-- a chip of such a kind is sound where its parts agree
pub basis_sound : (chip : ChipState) → IsBasis chip → IsSoundAt chip.stage chip.front → IsSound chip
basis_sound chip basis now = record {
  by_dma = basis.by_dma;
  whole = basis.whole;
  held = λ held. clash (is_held chip.front.adapter.controller) basis.free held;
  lets_out = λ free. basis.gated;
  comes = λ some. clash (chip.count == 0) some (ap (λ n. n == 0) basis.none);
  code = basis.code;
  now = now;
}

pub basis_rests : (chip : ChipState) (stage : ChipStage) → IsBasis chip → RestsBehind chip.front → chip.stage ≡ stage → is_busy stage ≡ false → IsSound chip
basis_rests chip stage basis rests is idle = basis_sound chip basis (rests_at chip.stage chip.front (ap is_busy is ∙ idle) rests)

pub basis_busy : (chip : ChipState) (task : ChipTask) → IsBasis chip → IsBusyWith task chip.front → chip.stage ≡ Busy task → IsSound chip
basis_busy chip task basis busy is = basis_sound chip basis (subst (λ stage. IsSoundAt stage chip.front) (sym is) busy)

-- ---- a chip whose stage and whose bytes stay

pub stays_sound : (old new : ChipState) → IsSound old → IsBase old.front.adapter.controller new.front.adapter.controller → new.stage ≡ old.stage → new.count ≡ old.count → new.order ≡ old.order
    → IsSoundAt old.stage new.front → IsSound new
stays_sound old new sound base stage count order now = record {
  by_dma = base.non_dma ∙ sound.by_dma;
  whole = base.command;
  held = λ held. let was = sound.held (sym (base_held old.front.adapter.controller new.front.adapter.controller base) ∙ held) in (stage ∙ was.0, count ∙ was.1);
  lets_out = λ free. base_gated old.front.adapter.controller new.front.adapter.controller base ∙ sound.lets_out (sym (base_held old.front.adapter.controller new.front.adapter.controller base) ∙ free);
  comes = λ some. stage ∙ sound.comes (sym (ap (λ n. n == 0) count) ∙ some);
  code = subst (λ (o : Order). o.code < 256) (sym order) sound.code;
  now = subst (λ s. IsSoundAt s new.front) (sym stage) now;
}

-- anything else may be another
pub sound_set : (old new : ChipState) → IsSound old → IsSound (record new { front = old.front; stage = old.stage; count = old.count; order = old.order })
sound_set old new sound = record { by_dma = sound.by_dma; whole = sound.whole; held = sound.held; lets_out = sound.lets_out; comes = sound.comes; code = sound.code; now = sound.now }

pub same_sound : (old new : ChipState) → new ≡ old → IsSound old → IsSound new
same_sound old new is sound = subst IsSound (sym is) sound

pub serves_of : (chip : ChipState) → IsSound chip → chip.stage ≡ Busy Sent → is_under_way chip.front.stage ≡ true → ServesBehind chip.front
serves_of chip sound at under = elim (busy_at chip Sent at sound) [
  | inl serves ↦ serves
  | inr executes ↦ absurd (not_through chip.front under executes.through)
]
