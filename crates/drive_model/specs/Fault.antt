-- What a list of planned faults says.
use Rattle.std.specs.Prelude.{ℕ, ◌-◌, Bool, false, not, ◌&&◌, ◌==◌, nat_lt, if◌then◌else◌, List, [], ◌∷◌, position, is_some, sum_by}
use Rattle.drive_model.specs.declared.fault.Fault.{Fault}
use Rattle.drive_model.specs.declared.fault.Fault.TheVariants.{Dropout, Cut, Lose, Stick}
use Rattle.drive_model.specs.declared.fault.Event.{Event}
use Rattle.drive_model.specs.declared.fault.Event.TheVariants.{Read, Write, Pulse}

-- how often the fault can still come
abbrev pub count_left : Fault → ℕ
count_left (Dropout c h word count) = count
count_left (Cut c h word count) = count
count_left (Lose c count) = count
count_left (Stick c count) = count

-- the fault with one time less
abbrev pub lowered : Fault → Fault
lowered (Dropout c h word count) = Dropout c h word (count - 1)
lowered (Cut c h word count) = Cut c h word (count - 1)
lowered (Lose c count) = Lose c (count - 1)
lowered (Stick c count) = Stick c (count - 1)

-- the fault is planned for this event
abbrev pub is_for : Event → Fault → Bool
is_for (Read c h word) (Dropout fc fh fword count) = fc == c && fh == h && fword == word
is_for (Write c h word) (Cut fc fh fword count) = fc == c && fh == h && fword == word
is_for (Pulse c inward) (Lose fc count) = inward && fc == c
is_for (Pulse c inward) (Stick fc count) = not inward && fc == c
is_for event fault = false

-- the fault is planned for this event, and can still come
abbrev pub meets : Event → Fault → Bool
meets event fault = nat_lt 0 (count_left fault) && is_for event fault

-- some fault of the list meets the event
abbrev pub comes : List Fault → Event → Bool
comes faults event = is_some (position (meets event) faults)

-- the list after the event: the first fault that meets it has one time less
abbrev pub spent : List Fault → Event → List Fault
spent [] event = []
spent (f ∷ fs) event = if meets event f then lowered f ∷ fs else f ∷ spent fs event

-- how many faults can still come, by all entries together
abbrev pub total_left : List Fault → ℕ
total_left faults = sum_by count_left faults
