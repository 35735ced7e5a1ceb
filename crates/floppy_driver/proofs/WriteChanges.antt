-- Changes of the medium in a bay, one attempt after the other.
use Rattle.std.proofs.Common.{MatchOption, ◌≡◌, ℕ, zero, suc, ◌+◌, ◌≤◌, Bool, true, false, List, [], ◌∷◌, ◌++◌, length, All, Option, Some, None, refl, sym, ap, ◌∙◌, subst, arith}
use Rattle.std.specs.Prelude.{◌==◌, if◌then◌else◌}
use Rattle.floppy_driver.proofs.Common.{length-append, Disk, IsDisk, Two, Change, Written, IsChange, AreAlike, alike_itself, alike_both, change_keeps_tracks, Bay, StationState, Becomes, bay_of, set_bay, ChangesDisk, Reaches, IsLastWhole, ChangesBay, WroteWhole, HasOnlyMedium}
use Rattle.floppy_driver.proofs.TriedWrites.{with_change}

-- ---- what several changes make

-- one more change
changes_more : (written : Written) (disk : Disk) (changes : List Change) (mid : Disk) (one : Change) (after : Disk) → ChangesDisk written disk changes mid → IsChange written mid one after → ChangesDisk written disk (changes ++ one ∷ []) after
changes_more written disk [] mid one after same is = (after, subst (λ d. IsChange written d one after) same is, refl)
changes_more written disk (first ∷ later) mid one after (next, made, rest) is = (next, made, changes_more written next later mid one after rest is)

reaches_some : (written : Written) (medium : Option Disk) (changes : List Change) (mid : Disk) (one : Change) (after : Disk) → Reaches written medium changes (Some mid) → IsChange written mid one after → Reaches written medium (changes ++ one ∷ []) (Some after)
reaches_some written (Some disk) changes mid one after made is = changes_more written disk changes mid one after made is
reaches_some written None changes mid one after none is = absurd (cc none.1)

pub reaches_more : (written : Written) (bay : ℕ) (mid new : StationState) (medium : Option Disk) (changes : List Change) (change : Option Change) → Reaches written medium changes (bay_of mid bay).medium → MatchOption change ((bay_of new bay).medium ≡ (bay_of mid bay).medium) (λ one. ChangesBay written bay one mid new) → Reaches written medium (with_change changes change) (bay_of new bay).medium
reaches_more written bay mid new medium changes None made same = subst (Reaches written medium changes) (sym same) made
reaches_more written bay mid new medium changes (Some one) made changed =
    rw changed.is (reaches_some written medium changes changed.before one changed.after (rw changed.was at made) changed.makes)

reaches_none_yet : (written : Written) (medium : Option Disk) → Reaches written medium [] medium
reaches_none_yet written (Some disk) = refl
reaches_none_yet written None = (refl, refl)

pub reaches_itself : (written : Written) (medium now : Option Disk) → now ≡ medium → Reaches written medium [] now
reaches_itself written medium now same = subst (Reaches written medium []) (sym same) (reaches_none_yet written medium)

-- a disk keeps its shape
changes_alike : (written : Written) (disk : Disk) (changes : List Change) (after : Disk) → IsDisk disk → ChangesDisk written disk changes after → AreAlike disk after
changes_alike written disk [] after valid same = subst (AreAlike disk) (sym same) (alike_itself disk valid)
changes_alike written disk (first ∷ later) after valid (next, made, rest) =
    let here = (change_keeps_tracks written disk first next made).alike in
    alike_both disk next after here (changes_alike written next later after here.valid rest)

reached_from : (written : Written) (disk : Disk) (changes : List Change) (now : Option Disk) → IsDisk disk → Reaches written (Some disk) changes now → (after : Disk) × (now ≡ Some after) × AreAlike disk after
reached_from written disk changes (Some after) valid made = (after, refl, changes_alike written disk changes after valid made)
reached_from written disk changes None valid made = absurd made

pub reached_alike : (written : Written) (medium : Option Disk) (changes : List Change) (now : Option Disk) (disk : Disk) → medium ≡ Some disk → IsDisk disk → Reaches written medium changes now → (after : Disk) × (now ≡ Some after) × AreAlike disk after
reached_alike written medium changes now disk is valid made =
    reached_from written disk changes now valid (subst (λ (m : Option Disk). Reaches written m changes now) is made)

-- ---- lists of changes

pub few_more : (changes : List Change) (change : Option Change) (count : ℕ) → length changes ≤ count → length (with_change changes change) ≤ count + 1
few_more changes None count few = omega arith
few_more changes (Some one) count few = omega (arith, length-append changes (one ∷ []))

all_more : (c : ℕ) (changes : List Change) (one : Change) → All (λ (change : Change). change.cylinder ≡ c) changes → one.cylinder ≡ c → All (λ (change : Change). change.cylinder ≡ c) (changes ++ one ∷ [])
all_more c [] one all here zero d h = here
all_more c [] one all here (suc k) d h = absurd (omega arith)
all_more c (first ∷ later) one all here zero d h = all zero d (omega arith)
all_more c (first ∷ later) one all here (suc k) d h =
    all_more c later one (λ j e i. all (suc j) e (omega arith)) here k d (omega arith)

pub steady_more : (c : ℕ) (changes : List Change) (change : Option Change) → All (λ (change : Change). change.cylinder ≡ c) changes → MatchOption change (Unit {0}) (λ one. one.cylinder ≡ c) → All (λ (change : Change). change.cylinder ≡ c) (with_change changes change)
steady_more c changes None all here = all
steady_more c changes (Some one) all here = all_more c changes one all here

pub last_whole : (written : Written) (changes : List Change) (change : Option Change) → WroteWhole written change → IsLastWhole written (with_change changes change)
last_whole written changes None whole = absurd whole
last_whole written changes (Some one) whole = (changes, one, refl, whole)

-- ---- the station after them

becomes_at : (is_first : Bool) (two : Two Bay) (a b : Option Disk) → (let put : Two Bay → Option Disk → Two Bay = λ t m. (if is_first then record t { first = record (if is_first then t.first else t.second) { medium = m } } else record t { second = record (if is_first then t.first else t.second) { medium = m } }) in put (put two a) b ≡ put two b)
becomes_at true two a b = refl
becomes_at false two a b = refl

bay_at : (is_first : Bool) (two : Two Bay) (value : Bay) → (if is_first then (if is_first then record two { first = value } else record two { second = value }).first else (if is_first then record two { first = value } else record two { second = value }).second) ≡ value
bay_at true two value = refl
bay_at false two value = refl

pub becomes_later : (start mid new : StationState) (bay : ℕ) (a b : Option Disk) → Becomes (set_bay start bay (record (bay_of start bay) { medium = a })) mid → Becomes (set_bay mid bay (record (bay_of mid bay) { medium = b })) new → Becomes (set_bay start bay (record (bay_of start bay) { medium = b })) new
becomes_later start mid new bay a b first second =
    let To : StationState → StationState = λ s. record (set_bay s bay (record (bay_of s bay) { medium = b })) { counters = new.counters } in
    second ∙ ap To first
    ∙ ap (λ (bays : Two Bay). record start { bays = bays; counters = new.counters }) (becomes_at (bay == 0) start.bays a b)

-- the bay itself
pub bay_after : (start now : StationState) (bay : ℕ) (medium : Option Disk) → Becomes (set_bay start bay (record (bay_of start bay) { medium = medium })) now → bay_of now bay ≡ record (bay_of start bay) { medium = medium }
bay_after start now bay medium becomes =
    ap (λ (s : StationState). bay_of s bay) becomes ∙ bay_at (bay == 0) start.bays (record (bay_of start bay) { medium = medium })

-- nothing changed at all
pub medium_itself : (old : StationState) (bay : ℕ) (medium : Option Disk) → (bay_of old bay).medium ≡ medium → HasOnlyMedium bay medium old old
medium_itself old bay medium is = ap (λ (b : Two Bay). record old { bays = b }) (by_bay (bay == 0) is)
  where
    by_bay : (is_first : Bool) → (if is_first then old.bays.first else old.bays.second).medium ≡ medium → old.bays ≡ (if is_first then record old.bays { first = record (if is_first then old.bays.first else old.bays.second) { medium = medium } } else record old.bays { second = record (if is_first then old.bays.first else old.bays.second) { medium = medium } })
    by_bay true e = rw (← e) refl
    by_bay false e = rw (← e) refl
