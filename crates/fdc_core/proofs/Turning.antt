-- The index comes to a drive that is written on as to one that is let alone. So device steps in a row before it can be
-- counted by the words that are ahead.
use Rattle.std.proofs.Common.{◌≡◌, ◌≤◌, ◌<◌, ◌+◌, ℕ, zero, suc, Bool, true, false, if◌then◌else◌, List, [], ◌∷◌, length, Option, None, Some, is_some, refl, sym, ap, subst, ◌∙◌, inl, inr, arith}
use Rattle.fdc_core.proofs.Common.{DriveState, Becomes, Writes, at_index, can_write, passed, rate_of, rewritten, with_gate, Fdc, Execute, Task, Write, Writing, Format, Formatting, DataRate, rate_fits, HoldsLines, Works, IsQuietBy, IsWriteTime, IsFormatTime, WritesIn, WritesOn, IsHeardTime, IsWroteTime, Opens, Closes, let_pass, polled, Disk, with_word_on}
use Rattle.drive_model.specs.Ahead.{AreAhead}
use Rattle.drive_model.specs.Drive.{at_speed, track_words, written, cut_off, can_replace}
use Rattle.fdc_core.specs.Quiet.{WorksBy}
use Rattle.fdc_core.proofs.Coursing.{none_comes, unpolled}

-- ---- drives that turn alike

-- two drives have media of the same length and rate, or none
pub record IsLike (one other : Option Disk) : Type 0 where
  pub some : is_some other ≡ is_some one
  pub words : track_words other ≡ track_words one
  pub rate : rate_of other ≡ rate_of one

-- the index comes to two drives after the same number of words, and their media have the same rate
pub record TurnsAs (one other : DriveState) : Type 0 where
  pub motor : other.motor ≡ one.motor
  pub spin : other.spin ≡ one.spin
  pub place : other.place ≡ one.place
  pub medium : IsLike one.medium other.medium

same_medium : (medium : Option Disk) → IsLike medium medium
same_medium medium = record { some = refl; words = refl; rate = refl }

pub turns_same : (s : DriveState) → TurnsAs s s
turns_same s = record { motor = refl; spin = refl; place = refl; medium = same_medium s.medium }

turns_via : (a b c : DriveState) → TurnsAs a b → TurnsAs b c → TurnsAs a c
turns_via a b c one two = record {
  motor = two.motor ∙ one.motor;
  spin = two.spin ∙ one.spin;
  place = two.place ∙ one.place;
  medium = record { some = two.medium.some ∙ one.medium.some; words = two.medium.words ∙ one.medium.words; rate = two.medium.rate ∙ one.medium.rate };
}

module _ (one other : DriveState) (turned : TurnsAs one other) where
  abbrev like : IsLike one.medium other.medium
  like = turned.medium

  speed_as : at_speed other ≡ at_speed one
  speed_as = let some = like.some in let motor = turned.motor in let spin = turned.spin in cc

  pub index_as : at_index other ≡ at_index one
  index_as = let speed = speed_as in let words = like.words in let place = turned.place in cc

  pub passed_as : TurnsAs (passed one) (passed other)
  passed_as =
      let speed = speed_as in
      let index = index_as in
      let some = like.some in
      let motor = turned.motor in
      let spin = turned.spin in
      let place = turned.place in
      record { motor = motor; spin = cc; place = cc; medium = like }

-- a drive that became another one but for its faults
becomes_as : (target old new : DriveState) → Becomes target old new → TurnsAs target new
becomes_as target old new is = subst (λ s. TurnsAs target s) (sym is.becomes) (record { motor = refl; spin = refl; place = refl; medium = same_medium target.medium })

-- a word of its medium was replaced, or not
replaced_like : (replaces : Bool) (d : Disk) (c h place word : ℕ) → IsLike (Some d) (if replaces then Some (with_word_on d c h place word) else Some d)
replaced_like true d c h place word = record { some = refl; words = refl; rate = refl }
replaced_like false d c h place word = same_medium (Some d)

rewritten_like : (medium : Option Disk) (c h place word : ℕ) → IsLike medium (rewritten medium c h place word)
rewritten_like None c h place word = same_medium None
rewritten_like (Some d) c h place word = replaced_like (can_replace (Some d) c h) d c h place word

if_like : (writes : Bool) (one other : Option Disk) → IsLike one other → IsLike one (if writes then other else one)
if_like true one other is = is
if_like false one other is = same_medium one

written_as : (head word : ℕ) (s : DriveState) → TurnsAs (passed s) (written head word s)
written_as head word s =
    record { motor = refl; spin = refl; place = refl; medium = if_like (can_write s) s.medium (rewritten s.medium s.cylinder head s.place word) (rewritten_like s.medium s.cylinder head s.place word) }

gate_as : (on : Bool) (s : DriveState) → TurnsAs s (with_gate on s)
gate_as on s = record { motor = refl; spin = refl; place = refl; medium = same_medium s.medium }

opens_as : (opened : Bool) (old new : DriveState) → Opens opened old new → TurnsAs old new
opens_as true old new is = subst (λ s. TurnsAs old s) (sym is) (gate_as true old)
opens_as false old new is = subst (λ s. TurnsAs old s) (sym is) (turns_same old)

closes_as : (closed : Bool) (old new : DriveState) → Closes closed old new → TurnsAs old new
closes_as true old new is = subst (λ s. TurnsAs old s) (sym is) (gate_as false old)
closes_as false old new is = subst (λ s. TurnsAs old s) (sym is) (turns_same old)

writes_as : (head word : ℕ) (old new : DriveState) → Writes head word old new → TurnsAs (passed old) new
writes_as head word old new (inl becomes) =
    turns_via (passed old) (written head word old) new (written_as head word old) (becomes_as (written head word old) old new becomes)
writes_as head word old new (inr (can, becomes, rose)) =
    turns_via (passed old) (cut_off old) new (record { motor = refl; spin = refl; place = refl; medium = same_medium old.medium }) (becomes_as (cut_off old) old new becomes)

-- after a word time the index is as far as if the drive had been let alone
pub heard_as : (index : Bool) (word : ℕ) (rate : DataRate) (head : ℕ) (before after : DriveState) → IsHeardTime index word rate head before after → TurnsAs (passed before) after
heard_as index word rate head before after is =
    turns_via (passed before) (let_pass before) after (passed_as before (with_gate false before) (gate_as false before)) (becomes_as (let_pass before) before after is.passes)

pub wrote_as : (opened closed index : Bool) (word : ℕ) (rate : DataRate) (head : ℕ) (before after : DriveState) → IsWroteTime opened closed index word rate head before after → TurnsAs (passed before) after
wrote_as opened closed index word rate head before after is =
    turns_via (passed before) (passed is.from) after (passed_as before is.from (opens_as opened before is.from is.opens))
    (turns_via (passed is.from) is.mid after (writes_as head word is.from is.mid is.writes) (closes_as closed is.mid after is.closes))

-- ---- what a device step of a command that writes is

module _ (was new : Fdc) (before after : DriveState) (head_drive steps : ℕ) (task : Task) (due : was.poll_due ≡ false) (at : was.phase ≡ Execute (record { head_drive = head_drive; steps = steps; task = task })) (works : Works was before new after) where
  writes_in : WritesIn (Execute (record { head_drive = head_drive; steps = steps; task = task })) was.asking was.fifo was before after new
  writes_in =
      let unpoll : polled was ≡ was = unpolled was (none_comes was due) in
      let on : WritesOn was was before after new = subst (λ polls. WritesOn polls was before after new) unpoll works.writes in
      subst (λ phase. WritesIn phase was.asking was.fifo was before after new) at on

pub write_time : (was new : Fdc) (before after : DriveState) (head_drive steps : ℕ) (writing : Writing) → was.poll_due ≡ false → was.phase ≡ Execute (record { head_drive = head_drive; steps = steps; task = Write writing }) → Works was before new after
    → IsWriteTime head_drive steps writing was before after new
write_time was new before after head_drive steps writing due at works = (writes_in was new before after head_drive steps (Write writing) due at works).step.does

pub format_time : (was new : Fdc) (before after : DriveState) (head_drive steps : ℕ) (formatting : Formatting) → was.poll_due ≡ false → was.phase ≡ Execute (record { head_drive = head_drive; steps = steps; task = Format formatting }) → Works was before new after
    → IsFormatTime head_drive steps formatting was before after new
format_time was new before after head_drive steps formatting due at works = (writes_in was new before after head_drive steps (Format formatting) due at works).step.does

-- ---- device steps in a row

-- a device step takes a command that writes one step on
pub record GoesOnTurning {S : Type 0} (at : S → Fdc) (Is : S → Type 0) (before : DriveState) (new : Fdc) (after : DriveState) : Type 0 where
  pub next : S
  pub is : new ≡ at next
  pub stands : Is next
  pub turned : TurnsAs (passed before) after

-- each device step does so, after the first. `Is` says what goes on where so many words are left
abbrev pub EachTurnsOn : {S : Type 0} (at : ℕ → S → Fdc) (Is : ℕ → S → Type 0) (rate : DataRate) → Type 0
EachTurnsOn {S = S} at Is rate =
    (steps left : ℕ) (now : S) (new : Fdc) (before after : DriveState) → 1 ≤ steps → steps < 65535 → Is (suc left) now
    → at_index before ≡ false → rate_fits rate (rate_of before.medium) ≡ true → Works (at steps now) before new after
    → GoesOnTurning (at (steps + 1)) (Is left) before new after

-- so many device steps after the command stood at `steps`. These words are still ahead of a drive that was let alone
pub record IsAfterTurning {S : Type 0} (at : ℕ → S → Fdc) (Is : ℕ → S → Type 0) (head : ℕ) (rate : DataRate) (steps count total : ℕ) (new : Fdc) (after : DriveState) : Type 0 where
  pub now : S
  pub rest : List ℕ
  pub alone : DriveState
  pub is : new ≡ at (steps + count) now
  pub stands : Is (length rest) now
  pub sum : count + length rest ≡ total
  pub ahead : AreAhead head rest alone
  pub turned : TurnsAs alone after
  pub fits : rate_fits rate (rate_of after.medium) ≡ true

module _ (S : Type 0) (at : ℕ → S → Fdc) (Is : ℕ → S → Type 0) (head : ℕ) (rate : DataRate) (each : EachTurnsOn at Is rate) (steps total : ℕ) (later : 1 ≤ steps) (few : steps + total ≤ 65535) where
  one_more : (count : ℕ) (rest : List ℕ) (now : S) (mid new : Fdc) (between after alone : DriveState) → suc count ≤ total → count + length rest ≡ total → mid ≡ at (steps + count) now → Is (length rest) now → AreAhead head rest alone → TurnsAs alone between
      → rate_fits rate (rate_of between.medium) ≡ true → Works mid between new after → IsAfterTurning at Is head rate steps (suc count) total new after
  unfolding AreAhead
  one_more count [] now mid new between after alone some sum is stands ahead turned fits works = absurd (omega (arith, some, sum))
  one_more count (word ∷ rest) now mid new between after alone some sum is stands (under, no_index, ahead) turned fits works =
      let on = each (steps + count) (length rest) now new between after (omega (arith, later)) (omega (arith, few, some)) stands (index_as alone between turned ∙ no_index) fits (subst (λ fdc. Works fdc between new after) is works) in
      let rate_is : rate_of after.medium ≡ rate_of between.medium = on.turned.medium.rate in
      record {
        now = on.next;
        rest = rest;
        alone = passed alone;
        is = on.is ∙ ap (λ n. at n on.next) (omega arith);
        stands = on.stands;
        sum = omega (arith, sum);
        ahead = ahead;
        turned = turns_via (passed alone) (passed between) after (passed_as alone between turned) on.turned;
        fits = ap (rate_fits rate) rate_is ∙ fits;
      }

  module _ (now : S) (words : List ℕ) (before : DriveState) (size : length words ≡ total) (stands : Is (length words) now) (ahead : AreAhead head words before) (fits : rate_fits rate (rate_of before.medium) ≡ true) where
    amid : (count : ℕ) (new : Fdc) (after : DriveState) → count ≤ total → WorksBy count (at steps now) before new after → IsAfterTurning at Is head rate steps count total new after
    unfolding WorksBy
    amid zero new after some (same, still) = record {
      now = now;
      rest = words;
      alone = before;
      is = same ∙ ap (λ n. at n now) (omega arith);
      stands = stands;
      sum = omega (arith, size);
      ahead = ahead;
      turned = subst (λ drive. TurnsAs before drive) (sym still) (turns_same before);
      fits = subst (λ drive. rate_fits rate (rate_of drive.medium) ≡ true) (sym still) fits;
    }
    amid (suc count) new after some (mid, between, by, works) =
        let was = amid count mid between (omega (arith, some)) by in
        one_more count was.rest was.now mid new between after was.alone some was.sum was.is was.stands was.ahead was.turned was.fits works

    -- the lines stay
    pub quiet_turning : ((n left : ℕ) (next : S) → Is left next → HoldsLines (at steps now) (at n next)) → IsQuietBy total (at steps now) before
    quiet_turning holds count new after some by =
        let was = amid count new after some by in
        subst (λ fdc. HoldsLines (at steps now) fdc) (sym was.is) (holds (steps + count) (length was.rest) was.now was.stands)
