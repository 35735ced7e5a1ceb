-- The whole of what a word gives a separator that hunts.
use Rattle.std.proofs.Common.{◌≡◌, ◌≢◌, ℕ, ◌+◌, ◌*◌, ◌<◌, List, length, sym, ap, subst, ◌∙◌, arith}
use Rattle.track_separator.proofs.Common.{Seen, Nothing, Stage, Hunting, Reading, HasTail, IsNext, HasRunBits, with_word, IsAfterRun, HuntsIn, IsFollowed, FollowsIn, GivesAll, IsAtByte, IsByteTaken, IsHuntedIn}
use Rattle.track_separator.proofs.Shared.{alike_run, alike_byte_at}
use Rattle.track_separator.proofs.Next.{IsMore, more_of, no_zero_up, tail_next, full_next}
use Rattle.track_separator.proofs.Hunted.{tail_here, full_here, before, mark_followed, address_followed, run_hunts, run_follows, run_gives, idle_follows, idle_gives}

same_bytes : (a b : ℕ) → Reading a ≡ Reading b → a ≡ b
same_bytes a b e = cc

module _ (cells back bytes word after behind : ℕ) (stage : Stage) (seen : Seen) (next : IsNext cells word after) (small : back < 16) (some : word ≢ 0) (none : (b : ℕ) → b < 16 → HasRunBits after b → ⊥) (taken : (fed : List ℕ) (p : ℕ) → IsAtByte fed after p bytes back → IsByteTaken fed p bytes back after behind stage seen) where
  module _ (fed : List ℕ) (whole : List ℕ) (more : IsMore fed word whole) where
    at_byte : (p : ℕ) → HasTail fed cells → IsAfterRun fed cells p bytes back → IsAtByte whole after p bytes back
    at_byte p tail now =
        let size = more.size in
        let place = now.place in
        record {
          place = omega arith;
          few = now.few;
          small = small;
          run = alike_run fed whole (16 * length fed) more.alike p (omega arith) now.run;
          no_zero = no_zero_up fed word whole more p some now.no_zero;
          mark = λ h. sym (alike_byte_at fed whole (16 * length fed) more.alike (p + 48) (omega arith)) ∙ now.mark h;
          full = full_next fed word whole more cells after p next now.full;
          tail = tail_next fed word whole more cells after next tail;
        }

    made : (hunts : HuntsIn fed cells back (Reading bytes)) → IsByteTaken whole hunts.1.0 bytes back after behind stage seen
    made hunts = taken whole hunts.1.0 (at_byte hunts.1.0 hunts.0 hunts.1.1)

    module _ (was : FollowsIn fed cells back (Reading bytes)) where
      after_run : (p m own : ℕ) → IsFollowed fed p m own → (m ≡ bytes) × (own ≡ back) × IsAfterRun fed cells p bytes back
      after_run p m own now =
          let place = now.place in
          let few = now.few in
          let eqs = was.followed p m own now in
          let count : m ≡ bytes = sym (same_bytes bytes m eqs.0) in
          let behind_is : own ≡ back = sym eqs.1 in (
            count,
            behind_is,
            record {
              place = omega arith;
              few = omega arith;
              run = now.run;
              no_zero = now.no_zero;
              mark = λ h. now.mark (omega arith);
              full = λ s low near zero_free. was.full s (omega arith) near zero_free;
            },
          )

      of_followed : (p m own : ℕ) → IsFollowed fed p m own → IsByteTaken whole p bytes back after behind stage seen
      of_followed p m own now = taken whole p (at_byte p was.hunts.0 (after_run p m own now).2)

      read_followed : (p count own : ℕ) → IsFollowed whole p count own → (stage ≡ Reading count) × (behind ≡ own)
      read_followed p count own now =
          let b = before fed word whole more cells back after (Reading bytes) next none was p count own now in
          let m = b.0 in
          let e = b.1 in
          let few = now.few in
          let r = after_run p m own b.2 in
          let bytes_is = r.0 in
          let back_is = r.1 in
          let count_is : bytes + 1 ≡ count = omega arith in
          let g = (of_followed p m own b.2).goes (omega arith) (now.mark (omega arith)) in
          (g.0 ∙ ap Reading count_is, g.1 ∙ sym back_is)

      read_follows : FollowsIn whole after behind stage
      read_follows = record {
        hunts = (made was.hunts).hunts;
        full = full_here fed word whole more cells back after (Reading bytes) next was;
        followed = read_followed;
      }

      read_gives : GivesAll whole seen
      read_gives = record {
        mark = λ p ends mark.
            let f = mark_followed fed word whole more p ends mark in
            let r = after_run p 0 _ f in
            let bytes_is = r.0 in
            (of_followed p 0 _ f).is_mark (omega arith) mark.mark;
        address = λ p key ends address clean.
            let f = address_followed fed word whole more p key ends address clean in
            let r = after_run p 6 _ f in
            let bytes_is = r.0 in
            (of_followed p 6 _ f).is_address key (omega arith) address;
      }

  hunted_byte : IsHuntedIn cells back (Reading bytes) word after behind stage seen
  hunted_byte = record {
    keeps = λ fed hunts. (made fed (with_word fed word) (more_of fed word) hunts).hunts;
    tells = λ fed hunts. (made fed (with_word fed word) (more_of fed word) hunts).tells;
    follows = λ fed was. read_follows fed (with_word fed word) (more_of fed word) was;
    gives = λ fed was. read_gives fed (with_word fed word) (more_of fed word) was;
  }

pub hunted_read : (cells back bytes word after : ℕ) (old : Stage) (kept behind : ℕ) (stage : Stage) (seen : Seen) → IsNext cells word after → back < 16 → old ≡ Reading bytes → kept ≡ after → word ≢ 0 → ((b : ℕ) → b < 16 → HasRunBits after b → ⊥) → ((fed : List ℕ) (p : ℕ) → IsAtByte fed after p bytes back → IsByteTaken fed p bytes back kept behind stage seen) → IsHuntedIn cells back old word kept behind stage seen
hunted_read cells back bytes word after old kept behind stage seen next small is same some none taken =
    let Here : Stage → Type 0 = λ s. IsHuntedIn cells back s word kept behind stage seen in
    let There : ℕ → Type 0 = λ k. IsHuntedIn cells back (Reading bytes) word k behind stage seen in
    let moved = λ (fed : List ℕ) (p : ℕ) (at : IsAtByte fed after p bytes back).
    subst (λ k. IsByteTaken fed p bytes back k behind stage seen) same (taken fed p at) in
    subst Here (sym is) (subst There (sym same) (hunted_byte cells back bytes word after behind stage seen next small some none moved))

pub hunted_run : (cells back word after b : ℕ) (old : Stage) → IsNext cells word after → (b < 16) × HasRunBits after b → IsHuntedIn cells back old word after b (Reading 0) Nothing
hunted_run cells back word after b old next found = record {
  keeps = λ fed hunts. run_hunts fed word (with_word fed word) (more_of fed word) cells back after old next b found.0 found.1 hunts;
  tells = λ fed hunts. tt;
  follows = λ fed was. run_follows fed word (with_word fed word) (more_of fed word) cells back after old next b found.0 found.1 was;
  gives = λ fed was. run_gives fed word (with_word fed word) (more_of fed word) cells back after old next b found.0 found.1 was;
}

pub hunted_none : (cells back word after : ℕ) (old : Stage) → IsNext cells word after → ((b : ℕ) → b < 16 → HasRunBits after b → ⊥) → ((m : ℕ) → old ≡ Reading m → word ≢ 0 → ⊥) → IsHuntedIn cells back old word after back Hunting Nothing
hunted_none cells back word after old next none idle = record {
  keeps = λ fed hunts. tail_here fed word (with_word fed word) (more_of fed word) cells back after old next hunts;
  tells = λ fed hunts. tt;
  follows = λ fed was. idle_follows fed word (with_word fed word) (more_of fed word) cells back after old next none idle was;
  gives = λ fed was. idle_gives fed word (with_word fed word) (more_of fed word) cells back after old next none idle was;
}

not_reading : (m : ℕ) → Hunting ≡ Reading m → ⊥
not_reading m e = cc

-- the separator still hunts for a run of marks
pub hunted_on : (cells back word after : ℕ) (old : Stage) → old ≡ Hunting → IsNext cells word after → ((b : ℕ) → b < 16 → HasRunBits after b → ⊥) → IsHuntedIn cells back old word after back old Nothing
hunted_on cells back word after old is next none =
    let Here : Stage → Type 0 = λ s. IsHuntedIn cells back s word after back s Nothing in
    subst Here (sym is) (hunted_none cells back word after Hunting next none (λ m e some. not_reading m e))
