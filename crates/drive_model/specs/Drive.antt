-- A drive as contracts see it, and what each of its calls may do.
use Rattle.std.specs.Prelude.{◌≡◌, ◌⊎◌, ℕ, ◌+◌, ◌-◌, ◌≤◌, min, Bool, true, false, not, ◌&&◌, ◌||◌, ◌==◌, nat_lt, nat_le, if◌then◌else◌, List, [], slice_index, Option, Some, None, is_some, IsTrue, IfSome}
use Rattle.flop_base.specs.declared.answers.Rate.{Rate}
use Rattle.flop_base.specs.declared.answers.Rate.TheVariants.{R500}
use Rattle.flop_base.specs.Counts.{last_count, Rose, CanTell, Spends}
use Rattle.raw_image.specs.Disk.{Disk, IsDisk, tabbed, track_of, with_word}
use Rattle.drive_model.specs.Maps.{emptied, marked_where}

-- a drive:
-- - the medium in it, or none
-- - the cylinder under its heads, and the place on the track that passes them next
-- - whether its motor is on, and for how many word times the medium has spun up
-- - its change line, its write gate, and whether the gate was cut
-- - whether a word of the medium was replaced since it was put in, or since that was last forgotten
-- - the map of the tracks that were written, where the drive keeps one
-- - whether its cable is in
-- - its count of faults, and the most by which that count can still rise, where the drive tells it
pub record DriveState : Type 0 where
  pub medium : Option Disk
  pub cylinder : ℕ
  pub place : ℕ
  pub motor : Bool
  pub spin : ℕ
  pub change : Bool
  pub gate : Bool
  pub cut : Bool
  pub replaced : Bool
  pub marks : Option (List ℕ)
  pub cable : Bool
  pub faults : ℕ
  pub left : Option ℕ

-- how many words a track of the medium has; with no medium none
abbrev pub track_words : Option Disk → ℕ
track_words None = 0
track_words (Some d) = d.words_per_track

-- a protected medium is in
abbrev pub is_protected : Option Disk → Bool
is_protected None = false
is_protected (Some d) = d.protected

-- the rate of the medium, R500 where none is in
abbrev pub rate_of : Option Disk → Rate
rate_of None = R500
rate_of (Some d) = d.rate

-- the medium has a track of this cylinder and head
abbrev pub has_track : Option Disk → ℕ → ℕ → Bool
has_track None c h = false
has_track (Some d) c h = nat_lt c d.cylinders && nat_lt h d.heads

-- the words of the track of a cylinder and a head; none where there is no such track
abbrev pub words_on : Option Disk → ℕ → ℕ → List ℕ
words_on None c h = []
words_on (Some d) c h = if has_track (Some d) c h then track_of d c h else []

-- a word of that track can be replaced: the medium has it, and isn't protected
abbrev pub can_replace : Option Disk → ℕ → ℕ → Bool
can_replace medium c h = not (is_protected medium) && has_track medium c h

-- the medium with one word of a track replaced, unless it is protected or lacks the track
abbrev pub rewritten : Option Disk → ℕ → ℕ → ℕ → ℕ → Option Disk
rewritten None c h place word = None
rewritten (Some d) c h place word =
    if not d.protected && has_track (Some d) c h then Some (with_word d c h place word) else Some d

-- the medium turns
abbrev pub turns : DriveState → Bool
turns s = s.motor && is_some s.medium

-- the medium turns and is spun up, so that a word passes in each word time
abbrev pub at_speed : DriveState → Bool
at_speed s = turns s && nat_le 6250 s.spin

-- the place of the word that passes next, counted from the index; none where no word passes
abbrev pub place_under : DriveState → Option ℕ
place_under s = if at_speed s then Some s.place else None

-- the last word of the track passes next
abbrev pub at_index : DriveState → Bool
at_index s = at_speed s && (s.place + 1 == track_words s.medium)

-- one word time later: the medium spins up, or, spun up, its next place comes to the heads
abbrev pub passed : DriveState → DriveState
passed s = record s {
  spin = if turns s && nat_lt s.spin 6250 then s.spin + 1 else s.spin;
  place = if at_index s then 0 else (if at_speed s then s.place + 1 else s.place);
}

-- the word that passes under a head, 0000 where none does
abbrev pub word_under : DriveState → ℕ → ℕ
word_under s head = if at_speed s then slice_index (words_on s.medium s.cylinder head) s.place else 0

-- with this medium in, of which no word was replaced yet, and no track written
abbrev pub loaded : Disk → DriveState → DriveState
loaded d s = record s { medium = Some d; spin = 0; place = 0; change = true; replaced = false; marks = emptied s.marks }

-- with the medium taken out; with none in, as before. Whether a word of it was replaced stays, and the map of its
-- tracks
abbrev pub unloaded : DriveState → DriveState
unloaded s = record s {
  medium = None;
  spin = if is_some s.medium then 0 else s.spin;
  place = if is_some s.medium then 0 else s.place;
  change = if is_some s.medium then true else s.change;
}

-- with the motor on or off
abbrev pub with_motor : Bool → DriveState → DriveState
with_motor on s = record s { motor = on; spin = if on then s.spin else 0 }

-- with the gate open and not cut, or closed
abbrev pub with_gate : Bool → DriveState → DriveState
with_gate on s = record s { gate = on; cut = if on then false else s.cut }

-- the heads a cylinder further in or out, within 0 to 82, and the change line cleared if a medium is in
abbrev pub moved : Bool → DriveState → DriveState
moved inward s = record s {
  cylinder = if inward then min (s.cylinder + 1) 82 else s.cylinder - 1;
  change = if is_some s.medium then false else s.change;
}

-- the gate is open and not cut, and a word passes
abbrev pub can_write : DriveState → Bool
can_write s = at_speed s && (s.gate && not s.cut)

-- a write under a head replaces a word of the medium
abbrev pub replaces : DriveState → ℕ → Bool
replaces s head = can_write s && can_replace s.medium s.cylinder head

-- one word time later, with the word under a head replaced where it can be; its track is then marked
abbrev pub written : ℕ → ℕ → DriveState → DriveState
written head word s = record (passed s) {
  medium = if can_write s then rewritten s.medium s.cylinder head s.place word else s.medium;
  replaced = s.replaced || replaces s head;
  marks = marked_where (replaces s head) s.cylinder head s.marks;
}

-- the drive without the sign that a word of the medium was replaced
abbrev pub forgotten : DriveState → DriveState
forgotten s = record s { replaced = false }

-- the medium with its tab moved, so that it is write-protected, or not; with no medium none
abbrev pub with_tab : Bool → Option Disk → Option Disk
with_tab on None = None
with_tab on (Some d) = Some (tabbed on d)

-- the drive with its medium write-protected, or not
abbrev pub with_protection : Bool → DriveState → DriveState
with_protection on s = record s { medium = with_tab on s.medium }

-- a medium is in, whose tracks are as long as those of this one
abbrev pub same_length : Disk → Option Disk → Bool
same_length d None = false
same_length d (Some before) = before.words_per_track == d.words_per_track

-- with this medium in place of the one that is in; the new one turns on from the same place
abbrev pub exchanged : Disk → DriveState → DriveState
exchanged d s = record s { medium = Some d }

-- one word time later, with the gate cut
abbrev pub cut_off : DriveState → DriveState
cut_off s = record (passed s) { cut = true }

-- the drive is then the target, but for its count of faults and what is left of them. The count doesn't fall, and it
-- rises by no more than what was left
pub record Becomes (target old new : DriveState) : Type 0 where
  pub becomes : new ≡ record target { faults = new.faults; left = new.left }
  pub never_falls : old.faults ≤ new.faults
  pub spends : Spends old.faults old.left new.faults new.left

-- a pulse moves the heads, or it is lost and the count of faults rises
abbrev pub Pulses : Bool → DriveState → DriveState → Type 0
Pulses inward old new = Becomes (moved inward old) old new ⊎ (Becomes old old new × Rose old.faults new.faults)

-- the word that passed is read, or 0000 is read in its place and the count of faults rises
abbrev pub Reads : ℕ → DriveState → ℕ → DriveState → Type 0
Reads head old word new = (word ≡ word_under old head) ⊎ ((word ≡ 0) × Rose old.faults new.faults)

-- the word is written where it can be, or the open gate is cut and the count of faults rises
abbrev pub Writes : ℕ → ℕ → DriveState → DriveState → Type 0
Writes head word old new =
    Becomes (written head word old) old new
    ⊎ (IsTrue (can_write old) × Becomes (cut_off old) old new × Rose old.faults new.faults)

-- the ranges of a drive. It tells what is left of its faults only where these can't bring its count to the last value
pub record InRange (s : DriveState) : Type 0 where
  pub cylinder : s.cylinder ≤ 82
  pub place : s.place ≤ track_words s.medium - 1
  pub spin : s.spin ≤ 6250
  pub medium : IfSome s.medium IsDisk
  pub faults : s.faults ≤ last_count
  pub told : CanTell s.faults s.left
