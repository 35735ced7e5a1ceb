mod Common
mod Marks
pub mod Known
pub mod Started
pub mod Free
mod Courses
mod Judged
pub mod Served
pub mod Called
mod LateLooks
pub mod LateWriting
pub mod Medium
mod Silent
pub mod Shown
pub mod Lasted
mod WriteStages
mod WrittenWords
mod WrittenSteps
mod WrittenAlike
pub mod WrittenCalls
mod UnderWay
mod PassedOn
mod CommandsBegun
mod Rests
mod Channels
mod SoundParts
mod Attended
mod SoundSteps
mod SoundCalls
mod WholeTransfers
mod SinglesLast
mod VerifiesLast
mod TracksLast
mod Edging
mod Paced
mod Polled
mod PollComes
mod PollPassed
mod Identified
mod HeadsGoing
mod SeeksBegun
mod PulsesGoing
mod SeeksHeld
mod Prompt
mod FormatLays
mod NextStages
mod BusyLeft
mod WorkBegins
mod WorkEnds
mod HeadsTold
mod HeadsLeft
mod KnownEnds
mod UsedWaits
mod SeeksLast
