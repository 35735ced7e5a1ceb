-- Attempts of a format, one after the other.
use Rattle.std.proofs.Common.{◌≡◌, ℕ, ◌+◌, ◌-◌, ◌*◌, ◌≤◌, List, [], ◌∷◌, ◌++◌, Option, Some, None, Result, Ok, Err, refl, sym, ap, ◌∙◌, subst, arith}
use Rattle.floppy_driver.proofs.Common.{false≢true, length-append, sectors_at, standard_code, Rate, R500, R250, Code, Disk, HasTrack, Fits, Counters, GoesOn, IsUndisturbed, Format, Laying, format_keys, formatted, CanFormat, IsFormattable, LaysDisk, Lays, IsFormatted, IsUnformatted, EndsFormat, FormatsIn}
use Rattle.std.proofs.lemmas.List.Elements.{All-append}
use Rattle.floppy_driver.proofs.Shows.{driven_after, driven_within, disturbed_less_more}
use Rattle.floppy_driver.proofs.LaidTracks.{lays_none, same_some}
use Rattle.floppy_driver.proofs.Rising.{disturbed_first, disturbed_later, less_first, less_later, refusal_later}

-- ---- layings keep what a format asks of a disk

-- two disks have the same tracks, rate and length of a track
record HasShape (disk after : Disk) : Type 0 where
  pub cylinders : after.cylinders ≡ disk.cylinders
  pub heads : after.heads ≡ disk.heads
  pub rate : after.rate ≡ disk.rate
  pub words : after.words_per_track ≡ disk.words_per_track

shape_of : (format : Format) (disk : Disk) (layings : List Laying) (after : Disk) → LaysDisk format disk layings after → HasShape disk after
shape_of format disk [] after same = record {
  cylinders = ap (λ (d : Disk). d.cylinders) same;
  heads = ap (λ (d : Disk). d.heads) same;
  rate = ap (λ (d : Disk). d.rate) same;
  words = ap (λ (d : Disk). d.words_per_track) same;
}
shape_of format disk (laying ∷ later) after (next, first, rest) =
    let shape = shape_of format next later after rest in
    record {
      cylinders = shape.cylinders ∙ first.laid.cylinders;
      heads = shape.heads ∙ first.laid.heads;
      rate = shape.rate ∙ first.laid.rate;
      words = shape.words ∙ first.laid.words_per_track;
    }

shape_tracks : (disk after : Disk) (c h : ℕ) → HasShape disk after → HasTrack disk c h → HasTrack after c h
shape_tracks disk after c h shape has =
    let e = shape.cylinders in
    let f = shape.heads in
    let a = has.0 in
    let b = has.1 in
    (omega arith, omega arith)

shape_back : (disk after : Disk) → HasShape disk after → HasShape after disk
shape_back disk after shape = record { cylinders = sym shape.cylinders; heads = sym shape.heads; rate = sym shape.rate; words = sym shape.words }

can_shape : (format : Format) (disk after : Disk) → HasShape disk after → CanFormat format disk → CanFormat format after
can_shape format disk after shape can = record {
  track = shape_tracks disk after format.c format.h shape can.track;
  rate = shape.rate ∙ can.rate;
  fits = subst (Fits (format_keys format) standard_code format.gap3) (sym shape.words) can.fits;
}

-- the disk that layings made of a disk
lays_some : (format : Format) (before after : Option Disk) (layings : List Laying) (disk : Disk) → Lays format before layings after → before ≡ Some disk → (made : Disk) × (after ≡ Some made) × HasShape disk made
lays_some format (Some first) (Some last) layings disk lays is =
    (last, refl, subst (λ (d : Disk). HasShape d last) (same_some first disk is) (shape_of format first layings last lays))
lays_some format (Some first) None layings disk lays is = absurd lays
lays_some format None after layings disk lays is = absurd (cc is)

-- the disk from which layings made a disk
lays_from : (format : Format) (before after : Option Disk) (layings : List Laying) (made : Disk) → Lays format before layings after → after ≡ Some made → (disk : Disk) × (before ≡ Some disk) × HasShape disk made
lays_from format (Some first) (Some last) layings made lays is =
    (first, refl, subst (λ (d : Disk). HasShape first d) (same_some last made is) (shape_of format first layings last lays))
lays_from format (Some first) None layings made lays is = absurd lays
lays_from format None after layings made lays is = absurd (cc (lays.1, is))

module _ (format : Format) (before after : Option Disk) (layings : List Laying) (lays : Lays format before layings after) where
  formattable_then : IsFormattable format before → IsFormattable format after
  formattable_then can =
      let made = lays_some format before after layings can.0 lays can.1 in
      (made.0, made.1, can_shape format can.0 made.0 made.2 can.2)

  formattable_before : IsFormattable format after → IsFormattable format before
  formattable_before can =
      let from = lays_from format before after layings can.0 lays can.1 in
      (from.0, from.1, can_shape format can.0 from.0 (shape_back from.0 can.0 from.2) can.2)

  formatted_later : (last : Option Disk) → IsFormatted format after last → IsFormatted format before last
  formatted_later last is disk was has rate =
      let made = lays_some format before after layings disk lays was in
      let there = is made.0 made.1 (shape_tracks disk made.0 format.c format.h made.2 has) (made.2.rate ∙ rate) in
      (there.0, there.1, there.2 ∙ ap (λ n. formatted format n) made.2.words)

unformatted_later : (format : Format) (before middle after : Option Disk) → IsUnformatted format before middle → IsUnformatted format middle after → IsUnformatted format before after
unformatted_later format before middle after first second none =
    let same = first none in
    second (λ disk was has rate. none disk (sym same ∙ was) has rate) ∙ same

disks_append : (format : Format) (disk middle after : Disk) (first second : List Laying) → LaysDisk format disk first middle → LaysDisk format middle second after → LaysDisk format disk (first ++ second) after
disks_append format disk middle after [] second same later = subst (λ (d : Disk). LaysDisk format d second after) same later
disks_append format disk middle after (laying ∷ rest) second (next, one, more) later = (next, one, disks_append format next middle after rest second more later)

lays_append : (format : Format) (before middle after : Option Disk) (first second : List Laying) → Lays format before first middle → Lays format middle second after → Lays format before (first ++ second) after
lays_append format (Some disk) (Some middle) (Some after) first second one two = disks_append format disk middle after first second one two
lays_append format (Some disk) (Some middle) None first second one two = absurd two
lays_append format (Some disk) None after first second one two = absurd one
lays_append format None (Some middle) after first second one two = absurd (cc one.1)
lays_append format None None after first second one two = (ap (λ (xs : List Laying). xs ++ second) one.0 ∙ two.0, two.1)

-- ---- one more attempt

more_commands : (rate : Rate) (n : ℕ) → n * (1 + sectors_at rate) + 1 * (1 + sectors_at rate) ≤ (n + 1) * (1 + sectors_at rate)
more_commands R500 n = omega arith
more_commands R250 n = omega arith

fewer_commands : (rate : Rate) (few most : ℕ) → few ≤ most → few * (1 + sectors_at rate) ≤ most * (1 + sectors_at rate)
fewer_commands R500 few most le = omega arith
fewer_commands R250 few most le = omega arith

-- the last attempt sent no data command
idle_last : (rate : Rate) (n first mid last : ℕ) → mid ≤ first + n * (1 + sectors_at rate) → last ≤ mid + (1 - 1) * (1 + sectors_at rate) → last ≤ first + (n + 1 - 1) * (1 + sectors_at rate)
idle_last R500 n first mid last before idle = omega arith
idle_last R250 n first mid last before idle = omega arith

-- no attempt was made yet
pub formats_none : (format : Format) (bay : ℕ) (code : Code) (medium : Option Disk) (old : Counters) → FormatsIn 0 format bay medium medium old (Err code) old
formats_none format bay code medium old = record {
  layings = [];
  few = omega arith;
  lays = lays_none format medium medium refl;
  only = λ quiet k d below. absurd (omega arith);
  untouched = λ quiet none. refl;
  never = λ failed can less. let t = less.together in omega arith;
  driven = record { most_commands = omega arith; interrupts = omega arith; past_driver = refl };
  unsent = λ some. absurd (omega arith);
  ends = λ some. absurd (omega arith);
}

module _ (n : ℕ) (format : Format) (bay : ℕ) (code : Code) (answer : Result (Unit {0}) Code) (before middle after : Option Disk) (old mid new : Counters) (one : GoesOn old mid) (two : GoesOn mid new) (first : FormatsIn n format bay before middle old (Err code) mid) (second : FormatsIn 1 format bay middle after mid answer new) where
  later : IsUndisturbed bay old new → IsUndisturbed bay mid new
  later = disturbed_later bay old mid new one two 1

  sooner : IsUndisturbed bay old new → IsUndisturbed bay old mid
  sooner = disturbed_first bay old mid new one two 1

  last : EndsFormat format bay middle after mid answer new
  last = second.ends (omega arith)

  to_middle : IsFormattable format before → IsFormattable format middle
  to_middle = formattable_then format before middle first.layings first.lays

  from_middle : IsFormattable format middle → IsFormattable format before
  from_middle = formattable_before format before middle first.layings first.lays

  by_now : IsFormatted format middle after → IsFormatted format before after
  by_now = formatted_later format before middle first.layings first.lays after

  pub formats_more : FormatsIn (n + 1) format bay before after old answer new
  formats_more = record {
    layings = first.layings ++ second.layings;
    few = let a = first.few in let b = second.few in omega (arith, length-append first.layings second.layings);
    lays = lays_append format before middle after first.layings second.layings first.lays second.lays;
    only = λ quiet.
        All-append (λ laying. laying.cylinder ≡ format.c) first.layings second.layings
        (first.only (less_first bay old mid new one two 1 quiet)) (second.only (less_later bay old mid new one two 1 quiet));
    untouched = λ quiet. unformatted_later format before middle after (first.untouched (sooner quiet)) (second.untouched (later quiet));
    never = λ failed can less.
        disturbed_less_more n bay old mid new one two (first.never refl can) (second.never failed (to_middle can)) less;
    driven =
        driven_within (n * (1 + sectors_at format.rate) + 1 * (1 + sectors_at format.rate)) ((n + 1) * (1 + sectors_at format.rate)) old new
        (more_commands format.rate n)
        (driven_after (n * (1 + sectors_at format.rate)) (1 * (1 + sectors_at format.rate)) old mid new one two first.driven second.driven);
    unsent = λ some is. idle_last format.rate n old.data_commands mid.data_commands new.data_commands first.driven.most_commands (second.unsent (omega arith) is);
    ends = λ some. record {
      exactly = λ quiet.
          let exact = last.exactly (later quiet) in
          (λ ok. from_middle (exact.0 ok), λ can. exact.1 (to_middle can));
      begun = λ quiet. by_now (last.begun (later quiet));
      commands = λ ok. let rose = last.commands ok in let d = one.data_commands in omega arith;
      formatted_track = λ ok quiet.
          let so = last.formatted_track ok (less_later bay old mid new one two 1 quiet) in
          (from_middle so.0, by_now so.1);
      refused = refusal_later bay old mid new one two old.spares new.spares answer last.refused;
    };
  }

-- attempts that were left over change nothing
pub formats_done : (count most : ℕ) (format : Format) (bay : ℕ) (before after : Option Disk) (old new : Counters) → 1 ≤ count → count ≤ most → FormatsIn count format bay before after old (Ok tt) new → FormatsIn most format bay before after old (Ok tt) new
formats_done count most format bay before after old new some within formats = record {
  layings = formats.layings;
  few = let few = formats.few in omega arith;
  lays = formats.lays;
  only = formats.only;
  untouched = formats.untouched;
  never = λ failed. absurd (false≢true failed);
  driven = driven_within (count * (1 + sectors_at format.rate)) (most * (1 + sectors_at format.rate)) old new (fewer_commands format.rate count most within) formats.driven;
  unsent = λ any is. absurd (cc is);
  ends = λ any. formats.ends some;
}
