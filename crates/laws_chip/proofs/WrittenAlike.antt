-- Whatever history the calls gather, the sectors are the same, and so are the bytes that were taken of each.
use Rattle.std.proofs.Common.{◌≡◌, inl, inr, ℕ, suc, ◌-◌, ◌==◌, Bool, true, false, Option, Some, None, List, [], ◌∷◌, ◌++◌, length, refl, sym, ◌∙◌, ap, subst}
use Rattle.laws_chip.proofs.Common.{Disk, Results, has_ended_seek, Past, Ending, Done, gave, told_in, IsContent, took, WordTime, after_time, ending_told, mark_of, Fdc, Front, goes_on, judged_if, MovingSector, FrontStage, Seeking, Moving, Transfer, AreWithin, Counts, Gather, Gives, Grows, Steps, Takes, History, Part, history_counted, history_ended, history_given, history_moved, history_sought, history_stepped, history_taken, sector_after, AreWritten, HasWindow, IsDone, IsWrittenTo, MediumPlace as Place, SectorCallsCall as Call, SectorCallsDoes as Does, WrittenIsBegun as IsBegun}
use Rattle.laws_chip.proofs.Known.{time_counted, time_taken}

-- the same sectors, and the same bytes were taken of each
abbrev pub AreAlike : List Part → List Part → Type 0
AreAlike [] [] = Unit {0}
AreAlike (part ∷ parts) (other ∷ others) = (part.at ≡ other.at) × (part.past.taken ≡ other.past.taken) × AreAlike parts others
AreAlike _ _ = ⊥

-- the same bytes were taken of a sector, and the terminal count came to both or to none
abbrev pub IsSame : Past → Past → Type 0
IsSame past now = (past.taken ≡ now.taken) × (past.counted ≡ now.counted)

pub record IsAlike (one other : History) : Type 0 where
  pub parts : AreAlike one.parts other.parts
  pub past : IsSame one.past other.past

pub alike_self : (history : History) → IsAlike history history
alike_self history = record { parts = all history.parts; past = (refl, refl) }
  where
    all : (parts : List Part) → AreAlike parts parts
    all [] = tt
    all (part ∷ parts) = (refl, refl, all parts)

one_more : (parts others : List Part) (part other : Part) → AreAlike parts others → part.at ≡ other.at → part.past.taken ≡ other.past.taken → AreAlike (parts ++ part ∷ []) (others ++ other ∷ [])
one_more [] [] part other were at taken = (at, taken, tt)
one_more (first ∷ parts) (next ∷ others) part other (here, same, were) at taken = (here, same, one_more parts others part other were at taken)
one_more _ _ part other were at taken = absurd were

same_length : (parts others : List Part) → AreAlike parts others → length parts ≡ length others
same_length [] [] were = refl
same_length (first ∷ parts) (next ∷ others) (here, same, were) = ap (λ n. suc n) (same_length parts others were)
same_length _ _ were = absurd were

-- ---- one call

told_same : (b : Bool) (past now : Past) → IsSame past now → IsSame (told_in b past) (told_in b now)
told_same true past now (taken, counted) = (taken, refl)
told_same false past now same = same

time_same : (time again : WordTime) (past now : Past) → IsSame past now → IsSame (after_time time past) (after_time again now)
time_same time again past now (taken, counted) = search (time_taken, time_counted)

with_past : (one other : History) (past now : Past) → IsAlike one other → IsSame past now → IsAlike (record one { past = past }) (record other { past = now })
with_past one other past now was same = record { parts = was.parts; past = same }

sought_alike : (b counted : Bool) (one other : History) → IsAlike one other → IsAlike (history_sought b counted one) (history_sought b counted other)
sought_alike true counted one other was = record { parts = was.parts; past = (refl, refl) }
sought_alike false counted one other was = was

ended_alike : (b : Bool) (at : Transfer) (marked : Bool) (past now : Past) (one other : History) → IsSame past now → IsAlike one other → IsAlike (history_ended b at marked past one) (history_ended b at marked now other)
ended_alike true at marked past now one other same was =
    record { parts = one_more one.parts other.parts (record { at = at; past = past; marked = marked }) (record { at = at; past = now; marked = marked }) was.parts refl same.0; past = (refl, refl) }
ended_alike false at marked past now one other same was = with_past one other past now was same

moved_alike : (ending : Option Ending) (moving : MovingSector) (mark : Option Bool) (past now : Past) (one other : History) → IsSame past now → IsAlike one other
    → IsAlike (history_moved ending moving mark past one) (history_moved ending moving mark now other)
moved_alike None moving mark past now one other same was = search (with_past, told_same)
moved_alike (Some (Done marked)) moving mark past now one other same was = ended_alike (goes_on moving marked) moving.transfer marked past now one other same was
moved_alike (Some ending) moving mark past now one other same was = with_past one other past now was same

stepped_alike : (stage : FrontStage) (time again : WordTime) (fdc : Fdc) (one other : History) → IsAlike one other → IsAlike (history_stepped stage time fdc one) (history_stepped stage again fdc other)
stepped_alike (Seeking at counted) time again fdc one other was = sought_alike (has_ended_seek fdc.seeks) counted one other was
stepped_alike (Moving moving) time again fdc one other was =
    moved_alike (judged_if moving (ending_told fdc)) moving (mark_of fdc) (after_time time one.past) (after_time again other.past) one other (time_same time again one.past other.past was.past) was
stepped_alike stage time again fdc one other was = was

taken_alike : (stage : FrontStage) (byte : Option ℕ) (one other : History) → IsAlike one other → IsAlike (history_taken stage byte one) (history_taken stage byte other)
taken_alike (Moving moving) (Some byte) one other was =
    let last = moving.left - 1 == 0 in
    with_past one other (told_in last (gave byte one.past)) (told_in last (gave byte other.past)) was (told_same last (gave byte one.past) (gave byte other.past) was.past)
taken_alike stage byte one other was = was

given_alike : (stage : FrontStage) (byte : ℕ) (given : Bool) (one other : History) → IsAlike one other → IsAlike (history_given stage byte given one) (history_given stage byte given other)
given_alike (Moving moving) byte true one other was =
    let last = moving.left - 1 == 0 in
    with_past one other (told_in last (took byte one.past)) (told_in last (took byte other.past)) was
    (told_same last (took byte one.past) (took byte other.past) (ap (λ bytes. bytes ++ byte ∷ []) was.past.0, was.past.1))
given_alike stage byte given one other was = was

counted_alike : (stage : FrontStage) (one other : History) → IsAlike one other → IsAlike (history_counted stage one) (history_counted stage other)
counted_alike (Seeking at counted) one other was = record { parts = was.parts; past = was.past }
counted_alike (Moving moving) one other was = record { parts = was.parts; past = (was.past.0, refl) }
counted_alike stage one other was = was

both_are : (one other then_one then_other : History) → then_one ≡ one → then_other ≡ other → IsAlike one other → IsAlike then_one then_other
both_are one other then_one then_other first second was = subst (λ h. IsAlike h then_other) (sym first) (subst (IsAlike one) (sym second) was)

call_alike : (call : Call) (one other then_one then_other : History) (old new : Front) (does : Does call old new) → Grows call old new does one then_one → Grows call old new does other then_other
    → IsAlike one other → IsAlike then_one then_other
call_alike Steps one other then_one then_other old new step (time, passes, first) (again, passes_too, second) was =
    both_are (history_stepped old.stage time step.between.controller one) (history_stepped old.stage again step.between.controller other) then_one then_other first second
    (stepped_alike old.stage time again step.between.controller one other was)
call_alike (Takes byte) one other then_one then_other old new does first second was =
    both_are (history_taken old.stage byte one) (history_taken old.stage byte other) then_one then_other first second (taken_alike old.stage byte one other was)
call_alike (Gives byte given) one other then_one then_other old new does first second was =
    both_are (history_given old.stage byte given one) (history_given old.stage byte given other) then_one then_other first second (given_alike old.stage byte given one other was)
call_alike Counts one other then_one then_other old new does first second was =
    both_are (history_counted old.stage one) (history_counted old.stage other) then_one then_other first second (counted_alike old.stage one other was)
call_alike call one other then_one then_other old new does first second was = both_are one other then_one then_other first second was

-- ---- all calls

pub calls_alike : (calls : List Call) (one other then_one then_other : History) (old new : Front) (within : AreWithin calls old new) → Gather calls old new within one then_one → Gather calls old new within other then_other
    → IsAlike one other → IsAlike then_one then_other
calls_alike [] one other then_one then_other old new within first second was = both_are one other then_one then_other first second was
calls_alike (call ∷ calls) one other then_one then_other old new (between, does, stays, rest) (mid, grows, gather) (mid_too, grows_too, gather_too) was =
    calls_alike calls mid mid_too then_one then_other between new rest gather gather_too (call_alike call one other mid mid_too old between does grows grows_too was)

-- ---- what was written

written_alike : (place : Place) (deleted : Bool) (parts others : List Part) (disk now : Disk) → AreAlike parts others → AreWritten place deleted parts disk now → AreWritten place deleted others disk now
written_alike place deleted [] [] disk now alike were = were
written_alike place deleted [] (next ∷ others) disk now alike were = absurd alike
written_alike place deleted (part ∷ parts) [] disk now alike were = absurd alike
written_alike place deleted (part ∷ parts) (next ∷ others) disk now (here, same, alike) (between, one, were) = (
  between,
  subst (λ bytes. HasWindow place deleted next.at bytes disk between) same (subst (λ at. HasWindow place deleted at part.past.taken disk between) here one),
  written_alike place deleted parts others between now alike were,
)

none_alike : (parts others : List Part) → AreAlike parts others → parts ≡ [] → others ≡ []
none_alike [] [] alike none = refl
none_alike [] (next ∷ others) alike none = absurd alike
none_alike (part ∷ parts) others alike none = absurd (cc none)

begun_alike : (place : Place) (deleted : Bool) (at : Transfer) (past again : Past) (disk now : Disk) → IsSame past again → IsBegun place deleted at past disk now → IsBegun place deleted at again disk now
begun_alike place deleted at past again disk now same (inl as_it_was) = inl as_it_was
begun_alike place deleted at past again disk now (taken, counted) (inr first) = inr (record {
  handed = first.handed;
  content = subst (λ c. IsContent c again.taken first.handed) counted (subst (λ bytes. IsContent past.counted bytes first.handed) taken first.content);
  few = first.few;
  spot = first.spot;
  count = first.count;
  words = first.words;
})

pub alike_written : (place : Place) (deleted : Bool) (first : Transfer) (one other : History) (results : Results) (end : Front) → IsAlike one other → IsWrittenTo place deleted first one results end
    → IsWrittenTo place deleted first other results end
alike_written place deleted first one other results end alike is =
    let here = ap (λ n. sector_after n first) (same_length one.parts other.parts alike.parts) in
    record {
      before = is.before;
      now = is.now;
      medium = is.medium;
      parts = written_alike place deleted one.parts other.parts place.disk is.before alike.parts is.parts;
      last = subst (λ at. IsBegun place deleted at other.past is.before is.now) here (begun_alike place deleted (sector_after (length one.parts) first) one.past other.past is.before is.now alike.past is.last);
      done = λ told. subst (λ at. IsDone place deleted at other.past.taken is.before is.now) here
          (subst (λ bytes. IsDone place deleted (sector_after (length one.parts) first) bytes is.before is.now) alike.past.0 (is.done told));
      guarded = λ covered. let (none, same) = is.guarded covered in (none_alike one.parts other.parts alike.parts none, same);
    }
