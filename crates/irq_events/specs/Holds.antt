-- A DMA request, and its DMA latency (hold): how many device steps it waits for its grant. A late DMA (stall) is a hold
-- above 8.
use Rattle.std.specs.Prelude.{◌≤◌, ℕ, ◌+◌, ◌-◌, min, Bool, true, false, ◌==◌, nat_lt, if◌then◌else◌, List}
use Rattle.std.specs.List.{All}
use Rattle.flop_base.specs.Counts.{last_count}
use Rattle.irq_events.specs.Entries.{next_entry, rest_of}
use Rattle.irq_events.specs.declared.holding.DmaRequest.{DmaRequest}
use Rattle.irq_events.specs.declared.holding.DmaRequest.TheVariants.{Low, High}

-- the holds that are left, the request, and how many holds above 8 were taken
pub record Holds : Type 0 where
  pub entries : List ℕ
  pub request : DmaRequest
  pub stalls : ℕ

-- the request is granted in this device step
abbrev pub is_due : DmaRequest → Bool
is_due Low = false
is_due (High left) = left == 0

-- the line is low
abbrev pub is_low : DmaRequest → Bool
is_low Low = true
is_low (High left) = false

-- a count, one higher, up to its last value
abbrev pub counted : ℕ → ℕ
counted count = min (count + 1) last_count

-- the count of stalls once a hold was taken: a hold above 8 raises it
abbrev pub stalls_with : ℕ → ℕ → ℕ
stalls_with hold stalls = if nat_lt 8 hold then counted stalls else stalls

-- the line is high in a device step: if it was low before, the next hold begins; else one step of the hold is over
abbrev pub waited : DmaRequest → Holds → Holds
waited Low old = record old {
  entries = rest_of old.entries;
  request = High (next_entry old.entries);
  stalls = stalls_with (next_entry old.entries) old.stalls;
}
waited (High left) old = record old { request = High (left - 1) }

-- a device step sees the line at this level
abbrev pub looked : Bool → Holds → Holds
looked false old = record old { request = Low }
looked true old = waited old.request old

-- the line has this level between two device steps: a low line ends the request, and a rise waits for the next step
abbrev pub shown : Bool → Holds → Holds
shown false old = record old { request = Low }
shown true old = old

-- ---- ranges

-- what is left of a request's hold is a byte
abbrev pub IsShort : DmaRequest → Type 0
IsShort Low = Unit {0}
IsShort (High left) = left ≤ 255

-- each hold is a byte, and what is left of one too
pub record AreShort (holds : Holds) : Type 0 where
  pub entries : All (λ entry. entry ≤ 255) holds.entries
  pub request : IsShort holds.request

-- ---- in time

-- between two device steps: this slack, the device steps that the device can go on with no grant, is enough. With the
-- line low it is at least nine; with a request it covers what is left of its hold, at least one step
abbrev pub IsReady : DmaRequest → ℕ → Type 0
IsReady Low slack = 9 ≤ slack
IsReady (High left) slack = (1 ≤ left) × (left ≤ slack)

-- the slack is enough once a device step saw the line: then nothing may be left of the hold, and the request is due
abbrev pub IsInTime : DmaRequest → ℕ → Type 0
IsInTime Low slack = 9 ≤ slack
IsInTime (High left) slack = left ≤ slack
