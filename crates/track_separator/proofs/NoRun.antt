-- Words that bring no run of marks.
use Rattle.std.proofs.Common.{◌≡◌, ℕ, ◌+◌, ◌^◌, ◌<◌, List, [], ◌∷◌, ◌++◌, length, get_or, take, refl, sym, subst}
use Rattle.track_separator.proofs.Common.{take_more, Hunting, Separator, IsNext, EndsNoRun}
use Rattle.track_separator.specs.Past.{HuntsPast, BringsNoRun}
use Rattle.track_separator.proofs.HuntedWord.{hunted_on}
use Rattle.track_separator.proofs.Saved.{same_separator}

-- no words bring no run
pub brings_none : (cells : ℕ) → BringsNoRun [] cells cells
unfolding BringsNoRun
brings_none cells = refl

-- one more word at the end
brings_behind : (words : List ℕ) (word cells mid after : ℕ) → BringsNoRun words cells mid → IsNext mid word after → after < 2 ^ 128 → EndsNoRun after → BringsNoRun (words ++ word ∷ []) cells after
unfolding BringsNoRun
brings_behind [] word cells mid after is next fits none = (after, subst (λ c. IsNext c word after) is next, fits, none, refl)
brings_behind (first ∷ rest) word cells mid after (m, by, low, clear, on) next fits none = (m, by, low, clear, brings_behind rest word m mid after on next fits none)

pub brings_more : (words : List ℕ) (i cells mid after : ℕ) → i < length words → BringsNoRun (take i words) cells mid → IsNext mid (get_or words i 0) after → after < 2 ^ 128 → EndsNoRun after → BringsNoRun (take (i + 1) words) cells after
brings_more words i cells mid after inside so_far next fits none =
    let Here : List ℕ → Type 0 = λ taken. BringsNoRun taken cells after in
    subst Here (sym (take_more words i 0 inside)) (brings_behind (take i words) (get_or words i 0) cells mid after so_far next fits none)

-- a separator that hunts takes such words, and sees nothing
pub hunts_by : (words : List ℕ) (old new : Separator) → old.stage ≡ Hunting → new.back ≡ old.back → new.stage ≡ old.stage → BringsNoRun words old.cells new.cells → HuntsPast words old new
unfolding BringsNoRun HuntsPast
hunts_by [] old new is back stage same =
    same_separator old new.cells new.back new.stage new.few new.small new.early (sym same) (sym back) (sym stage)
hunts_by (word ∷ rest) old new is back stage (m, by, low, clear, on) =
    let mid : Separator = record { cells = m; back = old.back; stage = old.stage; few = old.few; small = old.small; early = old.early } in
    (mid, hunted_on old.cells old.back word m old.stage is by clear, hunts_by rest mid new is back stage on)

-- a separator that hunts takes such words, if its register is known to be the one that they bring
pub hunts_told : (words : List ℕ) (old new : Separator) → old.stage ≡ Hunting → new.back ≡ old.back → new.stage ≡ old.stage → (after : ℕ) × BringsNoRun words old.cells after → ((after : ℕ) → BringsNoRun words old.cells after → new.cells ≡ after) → HuntsPast words old new
hunts_told words old new is back stage (after, brings) told =
    hunts_by words old new is back stage (subst (BringsNoRun words old.cells) (sym (told after brings)) brings)
