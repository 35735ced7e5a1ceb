-- A chip that is busy, through calls that are no device steps and don't reset: it stays at its task, and keeps its order.
-- The call is one of the inner controller, or none.
use Rattle.std.proofs.Common.{◌≡◌, ℕ, Bool, true, false, ◌==◌, Option, refl, sym, ◌∙◌, ap, subst, inl, inr, not, ◌&&◌, Some, None, bit_and}
use Rattle.laws_chip.proofs.Common.{eqb-true, false≢true, resets, Front, GivesFront, KeepsFront, TakesFront, WritesFront, told_front, ChipState, is_data, passes_by_channel, passes_by_port, with_front, GivesChipIf, GivesIf, ReadsAt, ReadsIf, TakesByte, TakesIf, WritesChip, counted_if, latched_by, given_one, reset_if, value_behind, ChipStage, Busy, ChipTask, Track, has_command, Call, Does, IsServing, is_reset, is_step, is_under_way, chip_count_told as count_told, missing_mark, Results, is_size, GivesOn, identifying, Ends, EndsAddress, EndsAddressIf, EndsAt, EndsData, EndsIndex, EndsSent, LooksOn, is_over, looks_for_cylinder, met_key, told_results, verified, without_one, results_judged, EndsAs, ReadsOn, unit_of, Follows, FollowsTask, StepsChip, Place, Index, Address, Data, IsBusyOrTells, results_taken, Chrn}
use Rattle.laws_chip.proofs.PassedOn.{other_read}
use Rattle.laws_chip.proofs.UnderWay.{counts_under, either_way, gives_pass, pass_under, same_under, takes_pass, writes_under}
use Rattle.fdc_chip.specs.declared.stage.ChipTask.TheVariants as task
use Rattle.laws_chip.specs.Calls as made

-- the same task; only whether the terminal count has come to a READ TRACK may change
abbrev pub IsAtTask : ChipTask → ChipStage → Type 0
IsAtTask (task.Track track) stage = (counted : Bool) × (stage ≡ Busy (task.Track (record track { counted = counted })))
IsAtTask what stage = stage ≡ Busy what

-- what the inner controller does in such a call. The Bool says whether media are changed
pub data Makes (changes : Bool) (old new : Front) : Type 0 where
  Same : new ≡ old → Makes changes old new
  Takes : (byte : Option ℕ) → TakesFront old byte new → Makes changes old new
  Gives : (byte : ℕ) (was : Bool) → GivesFront byte old was new → Makes changes old new
  Counts : new ≡ told_front old → Makes changes old new
  Writes : (port value : ℕ) → WritesFront port value old new → (port == 0x3F5) ≡ false → resets port value ≡ false → Makes changes old new
  Changes : changes ≡ true → KeepsFront old new → Makes changes old new

abbrev pub is_change : Call → Bool
is_change made.Changes = true
is_change _ = false

pub record KeepsTask (changes : Bool) (what : ChipTask) (old new : ChipState) : Type 0 where
  pub stage : IsAtTask what new.stage
  pub order : new.order ≡ old.order
  pub front : Makes changes old.front new.front

at_task : (what : ChipTask) (stage : ChipStage) → stage ≡ Busy what → IsAtTask what stage
at_task (task.Track track) stage is = (track.counted, is)
at_task _ stage is = is

-- nothing of the chip changes but the front and what no task depends on
keeps_as : (b : Bool) (what : ChipTask) (old set new : ChipState) → Makes b old.front new.front → new ≡ with_front new.front set → set.stage ≡ Busy what → set.order ≡ old.order → KeepsTask b what old new
keeps_as b what old set new makes rest at order = record {
  stage = at_task what new.stage (ap (λ (chip : ChipState). chip.stage) rest ∙ at);
  order = ap (λ (chip : ChipState). chip.order) rest ∙ order;
  front = makes;
}

same_keeps : (b : Bool) (what : ChipTask) (old new : ChipState) → new ≡ old → old.stage ≡ Busy what → KeepsTask b what old new
same_keeps b what old new is at = record {
  stage = at_task what new.stage (ap (λ (chip : ChipState). chip.stage) is ∙ at);
  order = ap (λ (chip : ChipState). chip.order) is;
  front = Same (ap (λ (chip : ChipState). chip.front) is);
}

takes_keeps : (b : Bool) (what : ChipTask) (byte : Option ℕ) (old new : ChipState) → TakesIf b old byte new → old.stage ≡ Busy what → KeepsTask false what old new
takes_keeps true what byte old new (takes, rest) at = keeps_as false what old old new (Takes byte takes) rest at refl
takes_keeps false what byte old new (none, is) at = same_keeps false what old new is at

gives_keeps : (b : Bool) (what : ChipTask) (byte : ℕ) (was : Bool) (old new : ChipState) → GivesChipIf b byte old was new → old.stage ≡ Busy what → KeepsTask false what old new
gives_keeps true what byte was old new (gives, rest) at = keeps_as false what old (given_one was old) new (Gives byte was gives) rest at refl
gives_keeps false what byte was old new (none, is) at = same_keeps false what old new is at

read_keeps : (b : Bool) (what : ChipTask) (value : ℕ) (old new : ChipState) → ReadsIf b old value new → old.stage ≡ Busy what → KeepsTask false what old new
read_keeps true what value old new reads at = keeps_as false what old old new (Takes reads.byte reads.takes) reads.rest at refl
read_keeps false what value old new (none, is) at = same_keeps false what old new is at

write_keeps : (b : Bool) (what : ChipTask) (value : ℕ) (old new : ChipState) → GivesIf b value old new → old.stage ≡ Busy what → KeepsTask false what old new
write_keeps true what value old new gives at = keeps_as false what old (given_one gives.was old) new (Gives value gives.was gives.gives) gives.rest at refl
write_keeps false what value old new is at = same_keeps false what old new is at

-- a strap is set
strapped_rest : (set new : ChipState) → new ≡ set → new ≡ with_front new.front set
strapped_rest set new is = is ∙ ap (λ (front : Front). with_front front set) (sym (ap (λ (chip : ChipState). chip.front) is))

-- the terminal count
counted_front : (b : Bool) (old set new : ChipState) → set.front ≡ old.front → new ≡ counted_if b set → Makes false old.front new.front
counted_front true old set new same is = Counts (ap (λ (chip : ChipState). chip.front) is ∙ ap told_front same)
counted_front false old set new same is = Same (ap (λ (chip : ChipState). chip.front) is ∙ same)

counted_track : (b : Bool) (track : Track) (old new : ChipState) → new ≡ counted_if b (record old { stage = Busy (task.Track (record track { counted = true })) }) → KeepsTask false (task.Track track) old new
counted_track b track old new is =
    let set : ChipState = record old { stage = Busy (task.Track (record track { counted = true })) } in
    record { stage = (true, (by_count b is).0); order = (by_count b is).1; front = counted_front b old set new refl is }
  where
    by_count : (b : Bool) → new ≡ counted_if b (record old { stage = Busy (task.Track (record track { counted = true })) }) → (new.stage ≡ Busy (task.Track (record track { counted = true }))) × (new.order ≡ old.order)
    by_count true is = (ap (λ (chip : ChipState). chip.stage) is, ap (λ (chip : ChipState). chip.order) is)
    by_count false is = (ap (λ (chip : ChipState). chip.stage) is, ap (λ (chip : ChipState). chip.order) is)

counts_keeps : (what : ChipTask) (old new : ChipState) → new ≡ count_told (Busy what) old → old.stage ≡ Busy what → KeepsTask false what old new
counts_keeps task.Sent old new is at = record { stage = ap (λ (chip : ChipState). chip.stage) is ∙ at; order = ap (λ (chip : ChipState). chip.order) is; front = counted_front true old old new refl is }
counts_keeps (task.Track track) old new is at = counted_track (is_data track.place) track old new is
counts_keeps what old new is at = same_keeps false what old new is at

other_write : (port value : ℕ) (what : ChipTask) (old new : ChipState) → (port == 0x3F5) ≡ false → resets port (value_behind port value) ≡ false → WritesChip port value old new → old.stage ≡ Busy what → KeepsTask false what old new
other_write port value what old new no_data quiet writes at =
    let (front, rest) = writes.others no_data in
    let set = latched_by port value old in
    keeps_as false what old set new (Writes port (value_behind port value) front no_data quiet) (subst (λ b. new ≡ with_front new.front (reset_if b set)) quiet rest) at refl

pub call_keeps : (call : Call) (what : ChipTask) (old new : ChipState) → Does call old new → old.stage ≡ Busy what → is_step call ≡ false → is_reset call ≡ false → KeepsTask (is_change call) what old new
call_keeps made.Steps what old new does at other quiet = absurd (false≢true (sym other))
call_keeps (made.Takes byte) what old new does at other quiet = takes_keeps (passes_by_channel old) what byte old new does at
call_keeps (made.Gives byte was) what old new does at other quiet = gives_keeps (passes_by_channel old) what byte was old new does at
call_keeps made.Counts what old new does at other quiet = counts_keeps what old new (subst (λ stage. new ≡ count_told stage old) at does) at
call_keeps (made.Reads port value) what old new does at other quiet = either_way (port == 0x3F5)
    (λ here. read_keeps (passes_by_port old) what value old new (subst (λ stage. ReadsAt stage old value new) at (does.byte (eqb-true port 0x3F5 here))) at)
    (λ no_data. same_keeps false what old new (other_read port value old new no_data does) at)
call_keeps (made.Writes port value) what old new does at other quiet = either_way (port == 0x3F5)
    (λ here. write_keeps (passes_by_port old) what value old new (subst (λ stage. TakesByte stage value old new) at (does.bytes (eqb-true port 0x3F5 here))) at)
    (λ no_data. other_write port value what old new no_data quiet does at)
call_keeps made.Changes what old new does at other quiet = keeps_as true what old old new (Changes refl does.front) does.rest at refl
call_keeps (made.Straps on) what old new does at other quiet = keeps_as false what old (record old { strapped = on }) new (Same (ap (λ (chip : ChipState). chip.front) does)) (strapped_rest (record old { strapped = on }) new does) at refl
call_keeps (made.StrapsSteps on) what old new does at other quiet = keeps_as false what old (record old { paced = on }) new (Same (ap (λ (chip : ChipState). chip.front) does)) (strapped_rest (record old { paced = on }) new does) at refl

-- ---- a call after which a command is under way doesn't reset

pub data_quiet : (port value : ℕ) → port ≡ 0x3F5 → resets port (value_behind port value) ≡ false
data_quiet port value is = subst (λ p. resets p (value_behind p value) ≡ false) (sym is) refl

reset_over : (b : Bool) (set new : ChipState) → new ≡ with_front new.front (reset_if b set) → b ≡ true → has_command new.stage ≡ true → ⊥
reset_over true set new is anew works = false≢true (sym (ap (λ (chip : ChipState). has_command chip.stage) is) ∙ works)
reset_over false set new is anew works = false≢true anew

pub works_quiet : (call : Call) (old new : ChipState) → Does call old new → has_command new.stage ≡ true → is_reset call ≡ false
works_quiet (made.Writes port value) old new does works = either_way (port == 0x3F5)
    (λ here. data_quiet port value (eqb-true port 0x3F5 here))
    (λ no_data. either_way (resets port (value_behind port value))
    (λ anew. absurd (reset_over (resets port (value_behind port value)) (latched_by port value old) new (does.others no_data).1 anew works))
    (λ quiet. quiet))
works_quiet _ old new does works = refl

pub call_stays : (call : Call) (what : ChipTask) (old new : ChipState) → Does call old new → old.stage ≡ Busy what → is_step call ≡ false → has_command new.stage ≡ true → KeepsTask (is_change call) what old new
call_stays call what old new does at other works = call_keeps call what old new does at other (works_quiet call old new does works)

-- ---- a command that is served goes on

makes_under : (b : Bool) (old new : Front) → Makes b old new → is_under_way old.stage ≡ true → is_under_way new.stage ≡ true
makes_under b old new (Same is) under = same_under old new is under
makes_under b old new (Takes byte takes) under = pass_under old new (takes_pass old.stage byte old new refl takes) under
makes_under b old new (Gives byte was gives) under = pass_under old new (gives_pass old.stage byte was old new refl gives) under
makes_under b old new (Counts is) under = counts_under old new under is
makes_under b old new (Writes port value writes no_data quiet) under = writes_under port value old new under writes quiet
makes_under b old new (Changes changes keeps) under = ap is_under_way keeps.stage ∙ under

pub call_serving : (call : Call) (old new : ChipState) → IsServing old → Does call old new → is_step call ≡ false → is_reset call ≡ false → IsServing new
call_serving call old new was does no_step quiet =
    let keeps = call_keeps call task.Sent old new does was.sent no_step quiet in
    record { sent = keeps.stage; under_way = makes_under (is_change call) old.front new.front keeps.front was.under_way }

-- ---- what becomes of a chip that is busy: it is still busy, or it gives results

-- ---- results

-- the host is told results, READ ID looks for something, or a READ TRACK reads a sector
pub data Comes (old new : ChipState) : Type 0 where
  Told : (results : Results) → new ≡ told_results results old → Comes old new
  Looks : (what : ChipTask) (unit : ℕ) → GivesOn (identifying unit) (record old { stage = Busy what }) new → Comes old new
  Reads : (track : Track) (key : Chrn) → ReadsOn track key old new → Comes old new

looks_come : (track : Track) (old new : ChipState) → LooksOn track old new → Comes old new
looks_come track old new gives = Looks (task.Track (record track { place = Address })) track.unit gives

sent_comes : (b : Bool) (results : Results) (old new : ChipState) → EndsSent b results old new → Comes old new
sent_comes true results old new gives = Looks (task.Sought results) (unit_of results) gives
sent_comes false results old new is = Told results is

index_comes : (b : Bool) (track : Track) (old new : ChipState) → EndsIndex b track old new → Comes old new
index_comes true track old new is = Told _ is
index_comes false track old new looks = looks_come track old new looks

sector_comes : (b : Bool) (results : Results) (track : Track) (old new : ChipState) → EndsAddressIf b results track old new → Comes old new
sector_comes true results track old new reads = Reads track results.key reads
sector_comes false results track old new is = Told _ is

address_comes : (b : Bool) (results : Results) (track : Track) (old new : ChipState) → EndsAddress b results track old new → Comes old new
address_comes true results track old new is = Told _ is
address_comes false results track old new ends = sector_comes ((results.st1.0 == 0) && is_size track.key.n) results track old new ends

data_comes : (b : Bool) (track : Track) (old new : ChipState) → EndsData b track old new → Comes old new
data_comes true track old new is = Told _ is
data_comes false track old new looks = looks_come track old new looks

place_comes : (place : Place) (track : Track) (results : Results) (old new : ChipState) → EndsAt place track results old new → Comes old new
place_comes Index track results old new ends = index_comes (not (bit_and results.st1.0 missing_mark == 0)) track old new ends
place_comes Address track results old new ends = address_comes track.counted results track old new ends
place_comes Data track results old new ends = let over = without_one results track in data_comes (is_over results over) over old new ends

pub ends_come : (what : ChipTask) (results : Results) (old new : ChipState) → Ends what results old new → Comes old new
ends_come task.Sent results old new ends = sent_comes (looks_for_cylinder old.order results) results old new ends
ends_come (task.Verify left) results old new ends = let told = verified old.order results in sent_comes (looks_for_cylinder old.order told) told old new ends
ends_come (task.Track track) results old new ends = place_comes track.place track results old new ends
ends_come _ results old new is = Told _ is

-- ---- ---- it is busy, or gives results

busy : (what : ChipTask) (new : ChipState) → new.stage ≡ Busy what → IsBusyOrTells new
busy what new is = inl (what, is)

come_goes : (old new : ChipState) → Comes old new → IsBusyOrTells new
come_goes old new (Told results is) = inr (results, record { stage = ap (λ (chip : ChipState). chip.stage) is; line = ap (λ (chip : ChipState). chip.interrupts.line) is })
come_goes old new (Looks what unit gives) = busy what new (ap (λ (chip : ChipState). chip.stage) gives.1)
come_goes old new (Reads track key reads) = busy (task.Track (met_key key track)) new (ap (λ (chip : ChipState). chip.stage) reads.1)

may_go : (waiting : Option Results) (what under : ChipTask) (chip new : ChipState) → chip.stage ≡ Busy under → EndsAs waiting what chip new → IsBusyOrTells new
may_go None what under chip new at is = busy under new (ap (λ (chip : ChipState). chip.stage) is ∙ at)
may_go (Some results) what under chip new at ends = let set = with_front (results_taken chip.front) chip in come_goes set new (ends_come what results set new ends)

task_goes : (what : ChipTask) (chip new : ChipState) → chip.stage ≡ Busy what → FollowsTask what chip new → IsBusyOrTells new
task_goes (task.Verify left) chip new at (set, all, may) =
    may_go (results_judged set) (task.Verify left) (task.Verify all.now) set new (ap (λ (chip : ChipState). chip.stage) all.after) may
task_goes what chip new at may = may_go (results_judged chip) what what chip new at may

step_goes : (what : ChipTask) (old new : ChipState) → StepsChip old new → old.stage ≡ Busy what → IsBusyOrTells new
step_goes what old new step at =
    task_goes what (with_front step.between old) new at (subst (λ stage. Follows stage (with_front step.between old) new) at step.follows)

-- ---- other calls

at_goes : (what : ChipTask) (new : ChipState) → IsAtTask what new.stage → IsBusyOrTells new
at_goes (task.Track track) new (counted, is) = busy (task.Track (record track { counted = counted })) new is
at_goes what new is = busy what new is

pub call_goes : (call : Call) (what : ChipTask) (old new : ChipState) → Does call old new → old.stage ≡ Busy what → is_reset call ≡ false → IsBusyOrTells new
call_goes made.Steps what old new does at quiet = step_goes what old new does at
call_goes call what old new does at quiet = at_goes what new (call_keeps call what old new does at refl quiet).stage
