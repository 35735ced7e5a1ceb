-- What a command that writes leaves, and IC 00 of it, whatever the drive's speed was when it began.
use Rattle.std.proofs.Common.{◌≡◌, ◌⊎◌, inl, inr, ℕ, ◌*◌, Bool, false, List, [], ◌∷◌, length, refl, sym, ap, subst, arith}
use Rattle.laws_machine.proofs.Common.{Chrn, content_size, Results, Past, Done, Numbers, HasLaid, IsBehindFirst, IsWholeTurn, IsWhole, is_executing, MayWriteIn, MayFormatIn, Long, Fdc, Result, Board, controller_of, memory_of, channel_of, drive_in, AreKeysOf, turn_led, turns_led, led, IsLed, WarmsUp, Laid, Window, Track, Write, LaysOn, IsFor, Only, Scene, IsTaken, FormatEnded, address_in, few_led, IsDoneOn, WriteEnded}
use Rattle.laws_machine.proofs.OnWrites.Results.{IsOfWindow}
use Rattle.laws_machine.proofs.OnLead.Spinning.{led_over}
use Rattle.laws_machine.specs.OnFormats.Results as format_says
use Rattle.laws_machine.proofs.OnFormats.Results as formats
use Rattle.laws_machine.specs.OnWrites.Results as write_says
use Rattle.laws_machine.proofs.OnWrites.Results as writes

-- ---- without the words 0000

whole_late : (lead : ℕ) (late : Past) (key : Chrn) (deleted : Bool) (handed : List ℕ) (p : ℕ)
    → IsWhole (turn_led lead late.turns late.seen) late.words key deleted handed p → (q : ℕ) × IsWhole late.seen late.words key deleted handed q
whole_late lead late key deleted handed p is =
    let here = address_in lead late.turns late.seen p key is.address in
    let at = is.place in
    let p_is = here.p_is in
    let longer = here.longer in
    (here.place, record { address = here.address; place = omega arith; size = is.size; whole = is.whole })

window_late : (scene : Scene) (deleted : Bool) (lead : ℕ) (late : Past) → (late.words ≡ []) ⊎ IsOfWindow scene deleted (led lead late)
    → (late.words ≡ []) ⊎ IsOfWindow scene deleted late
window_late scene deleted lead late (inl none) = inl none
window_late scene deleted lead late (inr of) =
    let here = address_in lead late.turns late.seen of.p scene.sent.key of.address in
    let at = of.place in
    let p_is = here.p_is in
    let longer = here.longer in
    inr (record { p = here.place; address = here.address; place = omega arith; some = of.some; first = of.first })

behind_late : (lead : ℕ) (turns : List (List ℕ)) (seen : List ℕ) → IsBehindFirst (turns_led lead turns) (turn_led lead turns seen) → IsBehindFirst turns seen
behind_late lead [] seen behind = let one = ap length behind.turns_are in absurd (omega arith)
behind_late lead (turn ∷ []) seen behind = record { first = turn; turns_are = refl; nothing = behind.nothing }
behind_late lead (turn ∷ other ∷ turns) seen behind =
    let one = ap length behind.turns_are in
    let same = few_led lead (turn ∷ other ∷ turns) in
    absurd (omega arith)

laid_late : (lead : ℕ) (late : Past) (numbers : Numbers) (handed : List ℕ) → HasLaid (led lead late) numbers handed → HasLaid late numbers handed
laid_late lead late numbers handed has = record {
  behind = elim has.behind [ inl none ↦ inl none | inr behind ↦ inr (behind_late lead late.turns late.seen behind) ];
  first = has.first;
}

turn_late : (lead : ℕ) (late : Past) (numbers : Numbers) (handed : List ℕ) (keys : List Chrn) → IsWholeTurn (led lead late) numbers handed keys
    → IsWholeTurn late numbers handed keys
turn_late lead late numbers handed keys is =
    record { index = is.index; behind = behind_late lead late.turns late.seen is.behind; many = is.many; bytes = is.bytes; fits = is.fits; laid = is.laid }

-- ---- what is known

module _ (laid : Laid) (scene : Scene) (board : Board) (past : Past) (was : IsDoneOn (IsLed (Write laid) scene) (Write laid) scene past board) where
  over : LaysOn laid scene was.drive.late false (drive_in board scene.bay)
  over = led_over (Write laid) scene past (is_executing (controller_of board).phase) (drive_in board scene.bay) was.scene_is was.drive

  taken : IsTaken scene was.drive.late.taken was.drive.late.counted (memory_of board) (channel_of board)
  taken = subst (λ (p : Past). IsTaken scene p.taken p.counted (memory_of board) (channel_of board)) was.drive.past_is was.chips.moves

-- ---- IC 00

pub window_found : (scene : Scene) (deleted : Bool) (board : Board) (marked : Bool) (results : Results) (read : ℕ)
    → scene.size ≡ content_size scene.sent.key.n → WarmsUp (Write (Window deleted)) scene board
    → (controller_of board).phase ≡ Result (Long (Done marked) results read) → WriteEnded scene deleted board
window_found scene deleted board marked results read size (past, was) is =
    let fdc : Fdc = controller_of board in
    let lead = was.drive.lead in
    let late = was.drive.late in
    let drive = drive_in board scene.bay in
    let (low, are, (handed, has)) : MayWriteIn (led lead late) scene.sent deleted (Result (Long (Done marked) results read)) fdc.asking fdc.fifo =
    subst (λ p. MayWriteIn p scene.sent deleted (Result (Long (Done marked) results read)) fdc.asking fdc.fifo) was.drive.past_is
    (subst (λ phase. MayWriteIn past scene.sent deleted phase fdc.asking fdc.fifo) is was.chips.may) in
    let (q, whole) = whole_late lead late scene.sent.key deleted handed has.written.cause.2.0 has.written.cause.2.1 in
    subst (write_says.WriteEndedIn scene deleted drive) (sym is) (
      are,
      writes.done_ends scene deleted false late drive (memory_of board) (channel_of board) was.scene_is (over (Window deleted) scene board past was) (taken (Window deleted) scene board past was) size
          handed has.content q whole,
    )

pub track_found : (scene : Scene) (numbers : Numbers) (keys : List Chrn) (board : Board) (marked : Bool) (results : Results) (read : ℕ)
    → scene.size ≡ 4 * numbers.sectors → AreKeysOf scene numbers keys
    → WarmsUp (Write (Track numbers)) scene board → (controller_of board).phase ≡ Result (Long (Done marked) results read)
    → FormatEnded scene numbers keys board
track_found scene numbers keys board marked results read size keys_are (past, was) is =
    let fdc : Fdc = controller_of board in
    let lead = was.drive.lead in
    let late = was.drive.late in
    let drive = drive_in board scene.bay in
    let memory = memory_of board in
    let channel = channel_of board in
    let at = over (Track numbers) scene board past was in
    let moved = taken (Track numbers) scene board past was in
    let (low, are, (handed, has)) : MayFormatIn (led lead late) scene.sent.head_drive numbers (Result (Long (Done marked) results read)) fdc.asking fdc.fifo =
    subst (λ p. MayFormatIn p scene.sent.head_drive numbers (Result (Long (Done marked) results read)) fdc.asking fdc.fifo) was.drive.past_is
    (subst (λ phase. MayFormatIn past scene.sent.head_drive numbers phase fdc.asking fdc.fifo) is was.chips.may) in
    let either = formats.of_laid scene numbers keys late memory channel handed was.scene_is moved size keys_are has.content at.inside (laid_late lead late numbers handed has.formatted.begun) in
    subst (format_says.FormatEndedIn scene numbers keys drive) (sym is) (
      are,
      formats.done_ends scene numbers keys false late drive memory channel was.scene_is at moved size keys_are handed either has.formatted.cause.1.0
          (turn_late lead late numbers handed has.formatted.cause.1.0 has.formatted.cause.1.1),
    )

-- ---- at any time

pub only : (laid : Laid) (scene : Scene) (keys : List Chrn) (board : Board) → IsFor laid scene keys → WarmsUp (Write laid) scene board
    → Only laid scene keys board
only (Window deleted) scene keys board size (past, was) =
    let fdc : Fdc = controller_of board in
    let lead = was.drive.lead in
    let late = was.drive.late in
    let may = subst (λ p. MayWriteIn p scene.sent deleted fdc.phase fdc.asking fdc.fifo) was.drive.past_is was.chips.may in
    record {
      memory = was.chips.moves.same;
      medium = writes.only scene deleted false late (drive_in board scene.bay) was.scene_is (over (Window deleted) scene board past was)
          (window_late scene deleted lead late (writes.words_of scene deleted (led lead late) (memory_of board) (channel_of board) was.scene_is (taken (Window deleted) scene board past was) size
          fdc.phase fdc.asking fdc.fifo may));
    }
only (Track numbers) scene keys board (size, are) (past, was) =
    let fdc : Fdc = controller_of board in
    let lead = was.drive.lead in
    let late = was.drive.late in
    let at = over (Track numbers) scene board past was in
    let may = subst (λ p. MayFormatIn p scene.sent.head_drive numbers fdc.phase fdc.asking fdc.fifo) was.drive.past_is was.chips.may in
    let (handed, content, has) = formats.laid_in scene numbers (led lead late) fdc.phase fdc.asking fdc.fifo may in
    record {
      memory = was.chips.moves.same;
      medium = formats.only scene numbers keys false late (drive_in board scene.bay) at
          (formats.of_laid scene numbers keys late (memory_of board) (channel_of board) handed was.scene_is (taken (Track numbers) scene board past was) size are content at.inside
          (laid_late lead late numbers handed has));
    }
