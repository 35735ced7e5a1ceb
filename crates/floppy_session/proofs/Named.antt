-- A bay keeps its name and its shape exactly as long as its medium.
use Rattle.std.proofs.Common.{◌≡◌, ℕ, ◌==◌, Bool, true, false, List, [], ◌∷◌, Option, Some, None, Result, Ok, Err, is_some, if◌then◌else◌, refl, sym, ap, ◌∙◌}
use Rattle.std.specs.Option.{MatchOption, option_map}
use Rattle.floppy_session.proofs.Common.{Chrn, Code, Disk, IsWithTrack, Two, with_bay, StationState, Bay, Stays, bay_of, read_refusal, write_refusal, format_refusal, rate_refusal, Reads, ReadsDrive, RatesTo, State, IsNamed, IsRunning, state_of}
use Rattle.flop_base.specs.declared.answers.Rate.{Rate}
use Rattle.sector_map.specs.Changes.{Written, Change}
use Rattle.sector_model.specs.Writes.{WritesTo, Reaches, ChangesDisk}
use Rattle.sector_map.specs.Layings.{Format, Laying}
use Rattle.sector_model.specs.Formats.{FormatsTo, Lays, LaysDisk}
use Rattle.floppy_session.specs.declared.shape.Shape.{Shape}
use Rattle.floppy_session.specs.Shapes.{shape_of, shape_in, AreShapes}
use Rattle.floppy_session.specs.declared.labels.Labels.{Labels}

-- each bay has a medium of the same shape as before, or none if it had none
pub record KeepsShapes (old new : Two Bay) : Type 0 where
  pub first : shape_in new.first ≡ shape_in old.first
  pub second : shape_in new.second ≡ shape_in old.second

-- a bay is loaded if, and only if, its medium has a shape
is_some_shape : (medium : Option Disk) → is_some (option_map shape_of medium) ≡ is_some medium
is_some_shape None = refl
is_some_shape (Some disk) = refl

loads_same : (new old : Option Disk) → option_map shape_of new ≡ option_map shape_of old → is_some new ≡ is_some old
loads_same new old same = sym (is_some_shape new) ∙ ap (λ (o : Option Shape). is_some o) same ∙ is_some_shape old

-- if the bays keep their media's shapes, the shapes that the session keeps are still those of the media
pub shaped_still : (shapes : Two (Option Shape)) (old new : Two Bay) → KeepsShapes old new → AreShapes shapes old → AreShapes shapes new
shaped_still shapes old new keeps shaped = record {
  first = shaped.first ∙ sym keeps.first;
  second = shaped.second ∙ sym keeps.second;
}

-- if the names stay too, each medium still has its name
pub named_still : (old new : State) → new.names ≡ old.names → KeepsShapes old.station.bays new.station.bays → IsNamed old → IsNamed new
named_still old new names keeps named = record {
  first = ap (λ (n : Two (Option (List ℕ))). is_some n.first) names ∙ named.first ∙ sym (loads_same _ _ keeps.first);
  second = ap (λ (n : Two (Option (List ℕ))). is_some n.second) names ∙ named.second ∙ sym (loads_same _ _ keeps.second);
}

-- bays that are as they were
pub keeps_same : (old new : Two Bay) → new ≡ old → KeepsShapes old new
keeps_same old new same = record {
  first = ap (λ (b : Two Bay). shape_in b.first) same;
  second = ap (λ (b : Two Bay). shape_in b.second) same;
}

keeps_stays : (old new : StationState) → Stays old new → KeepsShapes old.bays new.bays
keeps_stays old new stays = keeps_same old.bays new.bays (ap (λ (s : StationState). s.bays) stays)

-- one bay was set, and has a medium of the same shape as before, or none if it had none
keeps_chosen : (b : Bool) (old : Two Bay) (bay : Bay) → shape_in bay ≡ shape_in (if b then old.first else old.second) → KeepsShapes old (if b then record old { first = bay } else record old { second = bay })
keeps_chosen true old bay same = record { first = same; second = refl }
keeps_chosen false old bay same = record { first = refl; second = same }

keeps_set : (old new : StationState) (n : ℕ) (bay : Bay) → new.bays ≡ with_bay old.bays n bay → shape_in bay ≡ shape_in (bay_of old n) → KeepsShapes old.bays new.bays
keeps_set old new n bay set same =
    let chosen = keeps_chosen (n == 0) old.bays bay same in
    record {
      first = ap (λ (b : Two Bay). shape_in b.first) set ∙ chosen.first;
      second = ap (λ (b : Two Bay). shape_in b.second) set ∙ chosen.second;
    }

-- what follows both from a refusal and from the absence of one
pub by_refusal : {A C : Type 0} (o : Option A) (P : Type 0) (Q : A → Type 0) → MatchOption o P Q → (P → C) → ((a : A) → Q a → C) → C
by_refusal None P Q h p q = p h
by_refusal (Some a) P Q h p q = q a h

keeps_read : (old new : StationState) (bay : ℕ) (key : Chrn) (address : ℕ) (answer : Result Bool Code) → ReadsDrive bay key address old answer new → KeepsShapes old.bays new.bays
keeps_read old new bay key address (Ok deleted) read = keeps_same old.bays new.bays (ap (λ (s : StationState). s.bays) read.found.becomes)
keeps_read old new bay key address (Err code) read = keeps_same old.bays new.bays (ap (λ (s : StationState). s.bays) read.refused.becomes)

-- a read leaves each medium in its bay
pub keeps_reads : (old new : StationState) (bay : ℕ) (key : Chrn) (address : ℕ) (answer : Result Bool Code) → Reads bay key address old answer new → KeepsShapes old.bays new.bays
keeps_reads old new bay key address answer reads =
    by_refusal (read_refusal old bay key address) _ _ reads
    (keeps_read old new bay key address answer)
    (λ code refused. keeps_stays old new refused.stays)

-- a disk with one track replaced keeps its shape
shape_with_track : (disk : Disk) (c h : ℕ) (track : List ℕ) (after : Disk) → IsWithTrack disk c h track after → shape_of after ≡ shape_of disk
shape_with_track disk c h track after is =
    let cylinders = is.cylinders in
    let heads = is.heads in
    let words = is.words_per_track in
    let rate = is.rate in
    cc

shape_changed : (written : Written) (disk : Disk) (changes : List Change) (after : Disk) → ChangesDisk written disk changes after → shape_of after ≡ shape_of disk
shape_changed written disk [] after changes = ap shape_of changes
shape_changed written disk (change ∷ later) after changes = shape_changed written changes.0 later after changes.2 ∙ shape_with_track _ _ _ _ _ changes.1.cut

keeps_reach : (written : Written) (before : Option Disk) (changes : List Change) (after : Option Disk) → Reaches written before changes after → option_map shape_of after ≡ option_map shape_of before
keeps_reach written (Some disk) changes (Some after) reach = ap (λ (s : Shape). Some s) (shape_changed written disk changes after reach)
keeps_reach written (Some disk) changes None reach = absurd reach
keeps_reach written None changes after reach = ap (λ (o : Option Disk). option_map shape_of o) reach.1

-- a write leaves each medium in its bay
pub keeps_writes : (old new : StationState) (bay : ℕ) (key : Chrn) (address : ℕ) (deleted : Bool) (answer : Result (Unit {0}) Code) → WritesTo bay key address deleted old answer new → KeepsShapes old.bays new.bays
keeps_writes old new bay key address deleted answer writes =
    by_refusal (write_refusal old bay key address) _ _ writes
    (λ written. keeps_set old new bay _ (ap (λ (s : StationState). s.bays) written.becomes) (keeps_reach _ _ _ _ written.reach))
    (λ code refused. keeps_stays old new refused.stays)

shape_laid : (format : Format) (disk : Disk) (layings : List Laying) (after : Disk) → LaysDisk format disk layings after → shape_of after ≡ shape_of disk
shape_laid format disk [] after lays = ap shape_of lays
shape_laid format disk (laying ∷ later) after lays = shape_laid format lays.0 later after lays.2 ∙ shape_with_track _ _ _ _ _ lays.1.laid

keeps_lays : (format : Format) (before : Option Disk) (layings : List Laying) (after : Option Disk) → Lays format before layings after → option_map shape_of after ≡ option_map shape_of before
keeps_lays format (Some disk) layings (Some after) lays = ap (λ (s : Shape). Some s) (shape_laid format disk layings after lays)
keeps_lays format (Some disk) layings None lays = absurd lays
keeps_lays format None layings after lays = ap (λ (o : Option Disk). option_map shape_of o) lays.1

-- a format leaves each medium in its bay
pub keeps_formats : (old new : StationState) (bay c h gap3 fill : ℕ) (answer : Result (Unit {0}) Code) → FormatsTo bay c h gap3 fill old answer new → KeepsShapes old.bays new.bays
keeps_formats old new bay c h gap3 fill answer formats =
    by_refusal (format_refusal old bay c h gap3) _ _ formats
    (λ formatted. keeps_set old new bay _ (ap (λ (s : StationState). s.bays) formatted.becomes) (keeps_lays _ _ _ _ formatted.lays))
    (λ code refused. keeps_stays old new refused.stays)

-- a change of the rate leaves each medium in its bay
pub keeps_rates : (old new : StationState) (bay : ℕ) (rate : Rate) (answer : Result (Unit {0}) Code) → RatesTo bay rate old answer new → KeepsShapes old.bays new.bays
keeps_rates old new bay rate answer rates =
    by_refusal (rate_refusal old bay) _ _ rates
    (λ set. keeps_set old new bay _ (ap (λ (s : StationState). s.bays) set.becomes) refl)
    (λ code refused. keeps_stays old new refused.stays)

-- if each bay keeps its medium's shape, the session can still run requests
pub runs_on : {Before After : Type 0} (labels : Labels) (old new : StationState)
    → KeepsShapes old.bays new.bays → IsRunning Before old labels → After → IsRunning After new labels
runs_on labels old new keeps running ready = record {
  ready = ready;
  named = named_still (state_of old labels) (state_of new labels) refl keeps running.named;
  shaped = shaped_still labels.shapes old.bays new.bays keeps running.shaped;
}
