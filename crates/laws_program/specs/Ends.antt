-- How the program ends where nothing can go wrong with it: well, or because the outside failed. The outside fails if
-- memory runs out, or if the file store (shelf) or the output (sink) fails.
use Rattle.std.specs.Prelude.{◌≡◌, Bool, true, false}
use Rattle.laws_program.specs.Common.{RoseOnce, Status, Stand}
use Rattle.flop_base.specs.declared.answers.Status.TheVariants as status

-- the program ended with status 0, and this holds; or memory ran out; or the file store or the output failed, and that
-- fault was counted once
abbrev pub EndsWell : Type 0 → Stand → Stand → Status → Type 0
EndsWell Holds old new status.AllOk = Holds
EndsWell Holds old new status.NoMemory = Unit {0}
EndsWell Holds old new status.FileFault = RoseOnce old.outside.shelf_faults new.outside.shelf_faults
EndsWell Holds old new status.SinkFault = RoseOnce old.outside.sink_faults new.outside.sink_faults
EndsWell Holds old new _ = ⊥

-- the outside ended the program: memory ran out, or the file store or the output failed, and that fault was counted
-- once
abbrev pub EndsOutside : Stand → Stand → Status → Type 0
EndsOutside old new status.NoMemory = Unit {0}
EndsOutside old new status.FileFault = RoseOnce old.outside.shelf_faults new.outside.shelf_faults
EndsOutside old new status.SinkFault = RoseOnce old.outside.sink_faults new.outside.sink_faults
EndsOutside old new _ = ⊥

-- the program ended with status 0 or 1, and this holds; or memory ran out; or the file store or the output failed, and
-- that fault was counted once
abbrev pub EndsAnswered : Type 0 → Stand → Stand → Status → Type 0
EndsAnswered Holds old new status.AllOk = Holds
EndsAnswered Holds old new status.SomeRefused = Holds
EndsAnswered Holds old new status.NoMemory = Unit {0}
EndsAnswered Holds old new status.FileFault = RoseOnce old.outside.shelf_faults new.outside.shelf_faults
EndsAnswered Holds old new status.SinkFault = RoseOnce old.outside.sink_faults new.outside.sink_faults
EndsAnswered Holds old new _ = ⊥

-- the program ended with status 1 if some reply was a refusal, and else with 0; or memory ran out; or the file store or
-- the output failed, and that fault was counted once
abbrev pub EndsByReplies : Bool → Stand → Stand → Status → Type 0
EndsByReplies refused old new status.AllOk = refused ≡ false
EndsByReplies refused old new status.SomeRefused = refused ≡ true
EndsByReplies refused old new status.NoMemory = Unit {0}
EndsByReplies refused old new status.FileFault = RoseOnce old.outside.shelf_faults new.outside.shelf_faults
EndsByReplies refused old new status.SinkFault = RoseOnce old.outside.sink_faults new.outside.sink_faults
EndsByReplies refused old new _ = ⊥

-- the program ended in one of these ways:
-- - with status 0, and a file was made
-- - with status 1, because a track doesn't fit
-- - memory ran out
-- - the file store or the output failed, and that fault was counted once
abbrev pub EndsByFit : Type 0 → Type 0 → Stand → Stand → Status → Type 0
EndsByFit Made IsUnfit old new status.AllOk = Made
EndsByFit Made IsUnfit old new status.SomeRefused = IsUnfit
EndsByFit Made IsUnfit old new status.NoMemory = Unit {0}
EndsByFit Made IsUnfit old new status.FileFault = RoseOnce old.outside.shelf_faults new.outside.shelf_faults
EndsByFit Made IsUnfit old new status.SinkFault = RoseOnce old.outside.sink_faults new.outside.sink_faults
EndsByFit Made IsUnfit old new _ = ⊥
